-- Breadth-first discovery is determined: two lists of all states that are reached, each numbered breadth first and without
-- repeats, are the same list.
use Prim.Native.Nat.{ℕ, zero, suc, ◌≤◌, ◌<◌}
use mathlib.Core.Path.{◌≡◌, refl, sym, ap, ◌∙◌}
use mathlib.Core.Logic.{◌⊎◌, inl, inr}
use mathlib.Core.Bool.{Bool, true}
use mathlib.Core.List.Memᴰ
use mathlib.Core.List.{List, [], Memᴰ}
use lib.ListN.{length, get_or, take}
use lib.Seq.{ext_get_or, get_or-take, length-take-le}
use native.Mathlib.Omega.{arith}
use native.Mathlib.Decide.{dec_lt, ℕ_discrete}
use Rattle.base_lists.proofs.Lists.{Exact, member_of, index-member, index-take, index_at, distinct-fits}
use Rattle.base_lists.specs.Lists.{member_by, index_by}
use Rattle.theory_resolution.specs.Discovery.{Reached, FirstMet, BreadthFirst}
use Rattle.theory_resolution.proofs.Discovery.{reached-next}

-- one pair of a state and a symbol comes before another, is it, or comes after it
in-turn : (a b c d : ℕ) → ((a < c) ⊎ ((a ≡ c) × (b < d))) ⊎ (((a ≡ c) × (b ≡ d)) ⊎ ((c < a) ⊎ ((c ≡ a) × (d < b))))
in-turn a b c d = go (dec_lt a c) (ℕ_discrete a c) (dec_lt b d) (ℕ_discrete b d)
  where
    go : Dec (a < c) → Dec (a ≡ c) → Dec (b < d) → Dec (b ≡ d) → ((a < c) ⊎ ((a ≡ c) × (b < d))) ⊎ (((a ≡ c) × (b ≡ d)) ⊎ ((c < a) ⊎ ((c ≡ a) × (d < b))))
    go (yes h) e f g = inl (inl h)
    go (no h) (no e) f g = inr (inr (inl (omega arith)))
    go (no h) (yes e) (yes f) g = inl (inr (e, f))
    go (no h) (yes e) (no f) (yes g) = inr (inl (e, g))
    go (no h) (yes e) (no f) (no g) = inr (inr (inr (sym e, omega arith)))

module _ {S : Type 0} (same : S → S → Bool) (ex : Exact same) (next : S → ℕ → S) (count : ℕ) (begin : S) where
  abbrev Ordered : List S → Type 0
  Ordered l = BreadthFirst next count begin same l

  -- each state of the list is reached
  below-reached : (l : List S) → Ordered l → (n j : ℕ) → j < n → j < length l → Reached next count begin (get_or l j begin)
  below-reached l o zero j h b = absurd (omega arith)
  below-reached l o (suc n) zero h b = rw o.begins (record { by = []; listed = λ k i. absurd (Memᴰ.not-nil i); leads = refl })
  below-reached l o (suc n) (suc j) h b = go (o.numbered (suc j) (omega arith) b) (λ i a c. below-reached l o n i a c)
    where
      go : FirstMet next count begin same l (suc j) → ((i : ℕ) → i < n → i < length l → Reached next count begin (get_or l i begin))
          → Reached next count begin (get_or l (suc j) begin)
      go f ih =
          let e = f.earlier in
          rw f.leads at (reached-next next count begin (get_or l f.from begin) (ih f.from (omega arith) (omega arith)) f.symbol f.listed)

  all-reached : (l : List S) → Ordered l → (s : S) → Memᴰ s l → Reached next count begin s
  all-reached l o s m = let w = index-member same ex begin s l (member_of same ex s l m) in
      rw w.1 at (below-reached l o (suc (index_by same s l)) (index_by same s l) (omega arith) w.0)

  no_longer : (l k : List S) → Ordered l → Ordered k → length l ≤ length k
  no_longer l k o p = distinct-fits same ex l k o.distinct (λ s m. member_of same ex s k (p.complete s (all-reached l o s m)))

  -- the lists agree at every number below n
  abbrev Agree : List S → List S → ℕ → Type 0
  Agree l k n = (i : ℕ) → i < n → get_or l i begin ≡ get_or k i begin

  same-front : (l k : List S) (j : ℕ) → j ≤ length l → j ≤ length k → Agree l k j → take j l ≡ take j k
  same-front l k j a b same-below =
      ext_get_or begin (take j l) (take j k) (length-take-le j l a ∙ sym (length-take-le j k b))
      (λ i h. let h' : i < j = omega (arith, length-take-le j l a) in get_or-take j l i begin h' ∙ same-below i h' ∙ sym (get_or-take j k i begin h'))

  -- a state that is first met in l cannot be met earlier in k
  not-sooner : (l k : List S) → Ordered l → (j : ℕ) → j < length l → j < length k → Agree l k j
      → (f : FirstMet next count begin same l j) (g : FirstMet next count begin same k j)
      → (f.from < g.from) ⊎ ((f.from ≡ g.from) × (f.symbol < g.symbol)) → ⊥
  not-sooner l k o j a b same-below f g w =
      let there : member_by same (next (get_or k f.from begin) f.symbol) (take j k) ≡ true = g.before f.from f.symbol w f.listed in
      let e : next (get_or k f.from begin) f.symbol ≡ get_or l j begin = ap (λ s. next s f.symbol) (sym (same-below f.from f.earlier)) ∙ f.leads in
      let mine : member_by same (get_or l j begin) (take j l) ≡ true = rw (← e, same-front l k j (omega arith) (omega arith) same-below) there in
      omega (arith, index-take same ex (get_or l j begin) l j mine, index_at same ex begin l o.distinct j a)

  agree-next : (l k : List S) → Ordered l → Ordered k → (j : ℕ) → j < length l → j < length k → Agree l k j → get_or l j begin ≡ get_or k j begin
  agree-next l k o p zero a b same-below = o.begins ∙ sym p.begins
  agree-next l k o p (suc j) a b same-below = go (o.numbered (suc j) (omega arith) a) (p.numbered (suc j) (omega arith) b)
    where
      go : FirstMet next count begin same l (suc j) → FirstMet next count begin same k (suc j) → get_or l (suc j) begin ≡ get_or k (suc j) begin
      go f g = by (in-turn f.from f.symbol g.from g.symbol)
        where
          by : ((f.from < g.from) ⊎ ((f.from ≡ g.from) × (f.symbol < g.symbol)))
              ⊎ (((f.from ≡ g.from) × (f.symbol ≡ g.symbol)) ⊎ ((g.from < f.from) ⊎ ((g.from ≡ f.from) × (g.symbol < f.symbol))))
              → get_or l (suc j) begin ≡ get_or k (suc j) begin
          by (inl w) = absurd (not-sooner l k o (suc j) a b same-below f g w)
          by (inr (inl w)) =
              sym f.leads
              ∙ ap (λ s. next s f.symbol) (same-below f.from f.earlier ∙ ap (λ i. get_or k i begin) w.0)
              ∙ ap (next (get_or k g.from begin)) w.1
              ∙ g.leads
          by (inr (inr w)) = absurd (not-sooner k l p (suc j) b a (λ i h. sym (same-below i h)) g f w)

  agree : (l k : List S) → Ordered l → Ordered k → (n : ℕ) → n ≤ length l → n ≤ length k → Agree l k n
  agree l k o p zero a b i h = absurd (omega arith)
  agree l k o p (suc n) a b i h = go (ℕ_discrete i n) (agree l k o p n (omega arith) (omega arith))
    where
      go : Dec (i ≡ n) → Agree l k n → get_or l i begin ≡ get_or k i begin
      go (yes e) ih = rw e (agree-next l k o p n (omega arith) (omega arith) ih)
      go (no e) ih = ih i (omega arith)

  pub breadth-first-only : (l k : List S) → Ordered l → Ordered k → l ≡ k
  breadth-first-only l k o p = ext_get_or begin l k long (λ i h. agree l k o p (length l) (omega arith) (no_longer l k o p) i h)
    where
      long : length l ≡ length k
      long = omega (arith, no_longer l k o p, no_longer k l p o)
