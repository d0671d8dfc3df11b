-- What the lists of the search hold, turn by turn.
use Prim.Native.Nat.{ℕ, zero, suc, ◌+◌, ◌-◌, ◌≤◌, ◌<◌}
use mathlib.Core.Path.{◌≡◌, refl, sym, ap, ap₂, ◌∙◌}
use mathlib.Core.Bool.{Bool, true, false, cond, not, ◌||◌, true≢false}
use mathlib.Core.List.{List, [], ◌∷◌, ◌++◌}
use lib.Dec.{eqb, ltb}
use lib.ListN.{get_or, set, take, drop, length, length-take, length-append, get_or-eq_default, drop_of_length-le}
use lib.Seq.{get_or-take, take-suc-set, drop-cons}
use borrow.Author.Tests.{eq-eqb, ne_eqb, lt-ltb, le-ltb, ltb-true, ltb-false}
use native.Mathlib.Numerals.{add-one}
use native.Mathlib.Omega.{arith}
use native.Mathlib.Decide.{ℕ_discrete}
use Rattle.std.specs.Prelude.{Option}
use Rattle.std.specs.Option.{is_none}
use Rattle.std.specs.List.{list_any}
use Rattle.base_numbers.specs.Numbers.{most_signals}
use Rattle.base_lists.proofs.Lists.{eqb-exact, add-extends}
use Rattle.base_lists.specs.Lists.{member_by, add_by, index_by}
use Rattle.theory_resolution.specs.Discovery.{expand, discover}
use Rattle.theory_resolution.proofs.Discovery.{discover-next, discover-stays}
use Rattle.theory_kept.specs.Way.{first_below}
use Rattle.theory_kept.proofs.Way.{first-le, first_passes, first-least}
use Rattle.table_kept.specs.declared.found.Found.{Found}
use Rattle.table_kept.specs.Held.{signals_in}
use Rattle.node_step.specs.Step.{found_at}
use Rattle.table_kept.specs.Marks.{with_node, loss_at}

module _ (h : Found) where
  pub in-length : length (signals_in h) ≡ h.count
  in-length = length-take h.count h.signals ∙ omega (arith, h.few, h.wide)

  pub at_in : (i : ℕ) → i < h.count → get_or h.signals i 0 ≡ get_or (signals_in h) i 0
  at_in i k = sym (get_or-take h.count h.signals i 0 k)

  pub at_out : (i : ℕ) → h.count ≤ i → 0 ≡ get_or (signals_in h) i 0
  at_out i k = sym (get_or-eq_default (signals_in h) 0 {n = i} (omega (arith, in-length)))

  -- a signal looked for among the first i, and in what is left
  rest : ℕ → List ℕ
  rest i = drop i (signals_in h)

  rest_more : (i : ℕ) → i < h.count → drop i (signals_in h) ≡ get_or h.signals i 0 ∷ drop (suc i) (signals_in h)
  rest_more i k = drop-cons (signals_in h) i 0 (omega (arith, in-length)) ∙ ap (λ x. x ∷ drop (suc i) (signals_in h)) (sym (at_in i k))

  module _ (s : ℕ) where
    -- the number of s, counted from i on
    abbrev pub From : ℕ → Type 0
    From i = index_by eqb s (signals_in h) ≡ i + index_by eqb s (drop i (signals_in h))

    pub from_start : From 0
    from_start = omega arith

    pub from-hit : (i : ℕ) → i < h.count → From i → get_or h.signals i 0 ≡ s → i ≡ index_by eqb s (signals_in h)
    from-hit i k e p =
        let z : index_by eqb s (drop i (signals_in h)) ≡ 0 = ap (index_by eqb s) (rest_more i k)
        ∙ ap (λ b. cond b 0 (suc (index_by eqb s (drop (suc i) (signals_in h))))) (eq-eqb s (get_or h.signals i 0) (sym p)) in
        omega (arith, e, z)

    pub from_more : (i : ℕ) → i < h.count → From i → (get_or h.signals i 0 ≡ s → ⊥) → From (i + 1)
    from_more i k e n =
        let z : index_by eqb s (drop i (signals_in h)) ≡ suc (index_by eqb s (drop (suc i) (signals_in h))) =
        ap (index_by eqb s) (rest_more i k) ∙ ap (λ b. cond b 0 (suc (index_by eqb s (drop (suc i) (signals_in h)))))
        (ne_eqb s (get_or h.signals i 0) (λ p. n (sym p))) in
        omega (arith, e, z, ap (λ j. index_by eqb s (drop j (signals_in h))) (add-one i))

    pub from_end : (i : ℕ) → h.count ≤ i → i ≤ h.count → From i → h.count ≡ index_by eqb s (signals_in h)
    from_end i k l e = omega (arith, e, ap (index_by eqb s) (drop_of_length-le (signals_in h) {i = i} (omega (arith, in-length))))

-- the first number that passes a test: none before it does
module _ (f : ℕ → Bool) (n : ℕ) where
  abbrev pub NoneTo : ℕ → Type 0
  NoneTo j = (k : ℕ) → k < j → f k ≡ false

  pub none_more : (j : ℕ) → NoneTo j → f j ≡ false → NoneTo (j + 1)
  none_more j h e k i = go (ℕ_discrete k j)
    where
      go : Dec (k ≡ j) → f k ≡ false
      go (yes p) = ap f p ∙ e
      go (no p) = h k (omega arith)

  pub first-is : (j : ℕ) → NoneTo j → j < n → f j ≡ true → j ≡ first_below f n
  first-is j h l e = go (ℕ_discrete j (first_below f n))
    where
      go : Dec (j ≡ first_below f n) → j ≡ first_below f n
      go (yes p) = p
      go (no p) =
          let a = first-least f n j l e in
          absurd (true≢false (sym (first_passes f n (omega arith)) ∙ h (first_below f n) (omega arith)))

  pub first-none : NoneTo n → n ≡ first_below f n
  first-none h = go (ℕ_discrete n (first_below f n))
    where
      go : Dec (n ≡ first_below f n) → n ≡ first_below f n
      go (yes p) = p
      go (no p) =
          let a = first-le f n in
          absurd (true≢false (sym (first_passes f n (omega arith)) ∙ h (first_below f n) (omega arith)))

-- a test of each signal, as the standard library says it
pub list-member : (s : ℕ) (l : List ℕ) → list_any (eqb s) l ≡ member_by eqb s l
list-member s [] = refl
list-member s (x ∷ l) = ap (λ b. eqb s x || b) (list-member s l)

-- one more signal
module _ (h : Found) (s : ℕ) {b : Bool} (e : b ≡ member_by eqb s (signals_in h)) where
  added : (c : Bool) → b ≡ c → add_by eqb (signals_in h) s ≡ cond c (signals_in h) (signals_in h ++ s ∷ [])
  added c i = ap (λ x. cond x (signals_in h) (signals_in h ++ s ∷ [])) (sym e ∙ i)

  pub add-there : b ≡ true → signals_in h ≡ add_by eqb (signals_in h) s
  add-there i = sym (added true i)

  pub add-room : b ≡ false → length (add_by eqb (signals_in h) s) ≤ most_signals → h.count < most_signals
  add-room i r = omega (arith, ap length (added false i), length-append (signals_in h) (s ∷ []), in-length h)

  pub add-new : b ≡ false → length (add_by eqb (signals_in h) s) ≤ most_signals → take (h.count + 1) (set h.signals h.count s) ≡ add_by eqb (signals_in h) s
  add-new i r =
      ap (λ k. take k (set h.signals h.count s)) (add-one h.count)
      ∙ take-suc-set h.signals h.count s (omega (arith, add-room i r, h.wide))
      ∙ sym (added false i)

-- the signals that the first nodes lead to
module _ (next : ℕ → ℕ → ℕ) (s : ℕ) (l : List ℕ) where
  expand-le : (k d : ℕ) → length (expand eqb next s k l) ≤ length (expand eqb next s (d + k) l)
  unfolding expand
  expand-le k zero = let z : zero + k ≡ k = omega arith in omega (arith, ap (λ j. length (expand eqb next s j l)) z)
  expand-le k (suc d) =
      let z : suc d + k ≡ suc (d + k) = omega arith in
      let x = add-extends eqb eqb-exact (expand eqb next s (d + k) l) (next s (d + k)) in
      omega (arith, ap (λ j. length (expand eqb next s j l)) z, expand-le k d, ap length x.joined, length-append (expand eqb next s (d + k) l) x.more)

  pub expand-start : l ≡ expand eqb next s 0 l
  unfolding expand
  expand-start = refl

  pub expand-end : (k n : ℕ) → k ≡ n → expand eqb next s k l ≡ expand eqb next s n l
  expand-end k n e = ap (λ j. expand eqb next s j l) e

  pub expand-more : {m : List ℕ} {x : ℕ} (k : ℕ) → m ≡ expand eqb next s k l → x ≡ next s k → add_by eqb m x ≡ expand eqb next s (k + 1) l
  unfolding expand
  expand-more k e i = ap₂ (add_by eqb) e i ∙ ap (λ j. expand eqb next s j l) (sym (add-one k))

  pub expand-room : {m : List ℕ} {x : ℕ} (k n : ℕ) → k < n → m ≡ expand eqb next s k l → x ≡ next s k
      → length (expand eqb next s n l) ≤ most_signals → length (add_by eqb m x) ≤ most_signals
  expand-room k n h e i r =
      let z : (n - (k + 1)) + (k + 1) ≡ n = omega arith in
      omega (arith, ap length (expand-more k e i), expand-le (k + 1) (n - (k + 1)), ap (λ j. length (expand eqb next s j l)) z)

-- at the start, and after the last turn
pub turns-start : (next : ℕ → ℕ → ℕ) (nodes : ℕ) → 0 ∷ [] ≡ discover eqb next nodes 0 0
unfolding discover
turns-start next nodes = refl

pub turns-end : (next : ℕ → ℕ → ℕ) (nodes i n : ℕ) → i ≡ n → discover eqb next nodes 0 i ≡ discover eqb next nodes 0 n
turns-end next nodes i n e = ap (discover eqb next nodes 0) e

-- turn by turn
module _ (next : ℕ → ℕ → ℕ) (nodes : ℕ) (h : Found) (i : ℕ) (e : signals_in h ≡ discover eqb next nodes 0 i) where
  same_count : length (discover eqb next nodes 0 i) ≡ h.count
  same_count = ap length (sym e) ∙ in-length h

  pub turn-next : {s : ℕ} {l : List ℕ} → i < h.count → s ≡ get_or (signals_in h) i 0 → l ≡ expand eqb next s nodes (signals_in h)
      → l ≡ discover eqb next nodes 0 (i + 1)
  turn-next k a b =
      b ∙ ap₂ (λ s l. expand eqb next s nodes l) (a ∙ ap (λ l. get_or l i 0) e) e
      ∙ sym (discover-next eqb eqb-exact next nodes 0 i (omega (arith, same_count)))
      ∙ ap (discover eqb next nodes 0) (sym (add-one i))

  pub turn-room : {s : ℕ} → ((j : ℕ) → length (discover eqb next nodes 0 j) ≤ most_signals) → i < h.count → s ≡ get_or (signals_in h) i 0
      → length (expand eqb next s nodes (signals_in h)) ≤ most_signals
  turn-room r k a = omega (arith, r (i + 1), ap length (turn-next k a refl))

  pub turn-stays : h.count ≤ i → signals_in h ≡ discover eqb next nodes 0 (i + 1)
  turn-stays k = e ∙ sym (discover-stays eqb eqb-exact next nodes 0 i (omega (arith, same_count))) ∙ ap (discover eqb next nodes 0) (sym (add-one i))

-- the first signal at which a node is lost
module _ (rows : List ℕ) (n : ℕ) (h : Found) (c d : ℕ) where
  abbrev pub lost_at : ℕ → Bool
  lost_at j = not (ltb (with_node rows n (get_or (signals_in h) j 0) c d) most_signals)

  same-node : {s : ℕ} (j : ℕ) → s ≡ get_or (signals_in h) j 0 → with_node rows n (get_or (signals_in h) j 0) c d ≡ with_node rows n s c d
  same-node j e = sym (ap (λ z. with_node rows n z c d) e)

  pub loss-here : {s : ℕ} (j : ℕ) → j < h.count → NoneTo lost_at h.count j → s ≡ get_or (signals_in h) j 0
      → most_signals ≤ with_node rows n s c d → j ≡ loss_at rows n (signals_in h) c d
  loss-here {s} j l before e m =
      first-is lost_at (length (signals_in h)) j before (omega (arith, in-length h)) (ap (λ z. not (ltb z most_signals)) (same-node j e)
      ∙ ap not (le-ltb (with_node rows n s c d) most_signals m))

  pub loss-later : {s : ℕ} (j : ℕ) → NoneTo lost_at h.count j → s ≡ get_or (signals_in h) j 0
      → with_node rows n s c d < most_signals → NoneTo lost_at h.count (j + 1)
  loss-later {s} j before e m = none_more lost_at h.count j before (ap (λ z. not (ltb z most_signals)) (same-node j e)
      ∙ ap not (lt-ltb (with_node rows n s c d) most_signals m))

  pub loss-none : (j : ℕ) → h.count ≤ j → NoneTo lost_at h.count j → h.count ≡ loss_at rows n (signals_in h) c d
  loss-none j l before = sym (in-length h) ∙ first-none lost_at (length (signals_in h)) (λ k i. before k (omega (arith, in-length h)))

-- whether a signal was found
pub none_is : (i : ℕ) {r : Option ℕ} → r ≡ found_at i → is_none r ≡ true → most_signals ≤ i
none_is i e h = go (ltb i most_signals) refl (ap is_none (sym e) ∙ h)
  where
    go : (b : Bool) → ltb i most_signals ≡ b → is_none (found_at i) ≡ true → most_signals ≤ i
    go true k z = absurd (true≢false (sym z ∙ rw k))
    go false k z = ltb-false i most_signals k

pub some-is : (i : ℕ) {r : Option ℕ} → r ≡ found_at i → is_none r ≡ false → i < most_signals
some-is i e h = go (ltb i most_signals) refl (ap is_none (sym e) ∙ h)
  where
    go : (b : Bool) → ltb i most_signals ≡ b → is_none (found_at i) ≡ false → i < most_signals
    go true k z = ltb-true i most_signals k
    go false k z = absurd (true≢false ((sym (rw k)) ∙ z))
