-- The states found are numbered breadth first: each by the first pair of a state and a symbol that leads to it.
use Prim.Native.Nat.{ℕ, zero, suc, ◌≤◌, ◌<◌}
use mathlib.Core.Path.{◌≡◌, refl, sym, ap, ◌∙◌}
use mathlib.Core.Logic.{◌⊎◌, inl, inr}
use mathlib.Core.Bool.{Bool, true, false, cond}
use mathlib.Core.List.{List, [], ◌∷◌, ◌++◌}
use lib.ListN.{length, get_or, length-append, get_or-append}
use lib.Seq.{get_or_at, take-append-le, take-append_seam}
use native.Mathlib.Omega.{arith}
use native.Mathlib.Decide.{ℕ_discrete}
use Rattle.base_lists.proofs.Lists.{Exact, Extends, extends-self, at-extends, member-extends}
use Rattle.base_lists.specs.Lists.{member_by, add_by}
use Rattle.theory_resolution.specs.Discovery.{expand, discover, FirstMet}
use Rattle.theory_resolution.proofs.Discovery.{expand-extends, expand-has, found, by-turns, Closed, discover-closed}

module _ {S : Type 0} (same : S → S → Bool) (ex : Exact same) (next : S → ℕ → S) (count : ℕ) (begin : S) where
  -- numbers stay as more states are found
  first-extends : {l k : List S} → Extends l k → (j : ℕ) → j < length l → FirstMet next count begin same l j → FirstMet next count begin same k j
  first-extends {l} {k} x j h f =
      record {
        from = f.from;
        symbol = f.symbol;
        earlier = f.earlier;
        listed = f.listed;
        leads = rw (at-extends begin x f.from (let e = f.earlier in omega arith), at-extends begin x j h) f.leads;
        before = λ a b w d.
            rw (at-extends begin x a (low a b w), ← x.joined, take-append-le j l x.more (omega arith)) (f.before a b w d);
      }
    where
      low : (a b : ℕ) → (a < f.from) ⊎ ((a ≡ f.from) × (b < f.symbol)) → a < length l
      low a b (inl w) = let e = f.earlier in omega arith
      low a b (inr w) = let e = f.earlier in omega (arith, w.0)

  abbrev Numbered : List S → Type 0
  Numbered l = (j : ℕ) → 0 < j → j < length l → FirstMet next count begin same l j

  -- one more target of state i, after the targets at the symbols below k
  first-add : (i k : ℕ) (l : List S) → i < length l → k < count → ((a b : ℕ) → (a < i) ⊎ ((a ≡ i) × (b < k)) → b < count
      → member_by same (next (get_or l a begin) b) l ≡ true)
      → Numbered l → Numbered (add_by same l (next (get_or l i begin) k))
  first-add i k l h d closed num j p q = go (member_by same x l) refl q
    where
      x : S
      x = next (get_or l i begin) k

      old : (m : List S) → Extends l m → j < length l → FirstMet next count begin same m j
      old m e b = first-extends e j b (num j p b)

      new : j ≡ length l → FirstMet next count begin same (l ++ x ∷ []) j
      new e =
          record {
            from = i;
            symbol = k;
            earlier = omega arith;
            listed = d;
            leads = ap (λ z. next z k) (get_or-append l (x ∷ []) begin i h) ∙ sym (get_or_at l x [] begin j (sym e));
            before = λ a b w c. rw (e, take-append_seam l (x ∷ []), get_or-append l (x ∷ []) begin a (low a b w)) (closed a b w c);
          }
        where
          low : (a b : ℕ) → (a < i) ⊎ ((a ≡ i) × (b < k)) → a < length l
          low a b (inl w) = omega arith
          low a b (inr w) = omega (arith, w.0)

      go : (b : Bool) → member_by same x l ≡ b → j < length (cond (member_by same x l) l (l ++ x ∷ []))
          → FirstMet next count begin same (cond (member_by same x l) l (l ++ x ∷ [])) j
      go true e r = rw e (old l (extends-self l) (rw e at r))
      go false e r = rw e (last (ℕ_discrete j (length l)))
        where
          last : Dec (j ≡ length l) → FirstMet next count begin same (l ++ x ∷ []) j
          last (yes w) = new w
          last (no w) =
              let r' : j < length (l ++ x ∷ []) = rw e at r in
              old (l ++ x ∷ []) (record { more = x ∷ []; joined = refl }) (omega (arith, length-append l (x ∷ [])))

  first-expand : (i : ℕ) (l : List S) → i < length l → Closed same ex next count begin i l → Numbered l → (k : ℕ) → k ≤ count
      → Numbered (expand same next (get_or l i begin) k l)
  unfolding expand
  first-expand i l h closed num zero d = num
  first-expand i l h closed num (suc k) d =
      ap-add (first-add i k m (long x) d met (first-expand i l h closed num k (omega arith)))
    where
      m : List S
      m = expand same next (get_or l i begin) k l

      x : Extends l m
      x = expand-extends same ex next (get_or l i begin) k l

      long : Extends l m → i < length m
      long e = omega (arith, length-append l e.more, ap length e.joined)

      met : (a b : ℕ) → (a < i) ⊎ ((a ≡ i) × (b < k)) → b < count → member_by same (next (get_or m a begin) b) m ≡ true
      met a b (inl w) c = rw (at-extends begin x a (omega arith)) (member-extends same ex (next (get_or l a begin) b) x (closed a b w (omega arith) c))
      met a b (inr w) c = rw (w.0, at-extends begin x i h) (expand-has same ex next (get_or l i begin) k b l w.1)

      ap-add : Numbered (add_by same m (next (get_or m i begin) k)) → Numbered (add_by same m (next (get_or l i begin) k))
      ap-add n = rw (at-extends begin x i h) at n

  -- the states found are numbered breadth first
  pub discover-numbered : (n j : ℕ) → 0 < j → j < length (discover same next count begin n)
      → FirstMet next count begin same (discover same next count begin n) j
  discover-numbered =
      by-turns same ex next count begin (λ i l. Numbered l) (λ j p q. absurd (omega arith))
      (λ i h num. first-expand i (found same ex next count begin i) h (discover-closed same ex next count begin i) num count (omega arith)) (λ i h num. num)
