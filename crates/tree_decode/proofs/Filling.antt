-- Laws of the values that each node has from its parent, one node further.
use Prim.Native.Nat.{ℕ, suc, zero, ◌+◌, ◌*◌, ◌-◌, ◌≤◌, ◌<◌}
use mathlib.Core.Path.{◌≡◌, refl, ap, ap₂, sym, ◌∙◌, subst}
use mathlib.Core.Bool.{cond}
use mathlib.Core.List.{List}
use native.Mathlib.Omega.{arith}
use native.Mathlib.Decide.{ℕ_discrete}
use lib.ListN.{length, get_or, set, drop, length-take, length-drop}
use lib.Seq.{get_or-set_same, get_or-set_other}
use lib.Dec.{eqb}
use borrow.Author.Tests.{eqb-false}
use Rattle.base_lists.specs.Cuts.{stretch}
use Rattle.base_lists.proofs.Bools.{by_test}
use Rattle.tree_decode.specs.Stages.{Parented, FromParent, UrnCategories}

pub stretch-le : (t at len : List ℕ) (i : ℕ) → length (stretch t at len i) ≤ length t
stretch-le t at len i = omega (arith, length-take (get_or len i 0) (drop (get_or at i 0) t), length-drop (get_or at i 0) t)

-- no value is too large
abbrev pub Bounded : List ℕ → ℕ → Type 0
Bounded out n = (j : ℕ) → j < n → get_or out j 0 ≤ 8193 * (j + 2)

module _ (parent category out : List ℕ) (n i : ℕ) (P : Parented parent category n) (h : i < n) (b : Bounded out i) {p f v : ℕ}
    (e : p ≡ get_or parent i 0) (w : v ≡ cond (eqb p 0) f (get_or out (p - 1) 0)) (k : f ≤ 8193) where
  pub base-le : v ≤ 8193 * (i + 1)
  base-le =
      by_test (eqb p 0)
      (λ z. let q : v ≡ f = w ∙ ap (λ a. cond a f (get_or out (p - 1) 0)) z in omega arith)
      (λ z.
      let q : v ≡ get_or out (p - 1) 0 = w ∙ ap (λ a. cond a f (get_or out (p - 1) 0)) z in
      let lo = P.low i h in
      let nz : p ≡ 0 → ⊥ = eqb-false p 0 z in
      let l : p - 1 < i = omega arith in
      omega (arith, q, b (p - 1) l, lo))

  module _ (more : ℕ → ℕ) (s : ℕ) (o : s ≡ v + more i) (u : more i ≤ 8193) (y : i < length out) where
    pub bound-more : Bounded (set out i s) (i + 1)
    bound-more j l = go (ℕ_discrete j i)
      where
        go : Dec (j ≡ i) → get_or (set out i s) j 0 ≤ 8193 * (j + 2)
        go (yes q) = omega (arith, ap (λ z. get_or (set out i s) z 0) q, get_or-set_same out i s 0 y, o, u, base-le, q)
        go (no q) = omega (arith, get_or-set_other out i j s 0 q, b j (omega arith))

    pub from_more : (first : ℕ → ℕ) → f ≡ first i → FromParent parent first more out i → FromParent parent first more (set out i s) (i + 1)
    from_more first x r j l = go (ℕ_discrete j i)
      where
        kept : (z : ℕ) → z < i → get_or (set out i s) z 0 ≡ get_or out z 0
        kept z m = get_or-set_other out i z s 0 (λ q. omega arith)

        same : (j q g : ℕ) → q ≤ j → j ≤ i → cond (eqb q 0) g (get_or (set out i s) (q - 1) 0) ≡ cond (eqb q 0) g (get_or out (q - 1) 0)
        same j zero g a c = refl
        same j (suc q) g a c =
            let d : suc q - 1 ≡ q = omega arith in
            ap (cond (eqb (suc q) 0) g) (ap (λ z. get_or (set out i s) z 0) d ∙ kept q (omega arith) ∙ ap (λ z. get_or out z 0) (sym d))

        go : Dec (j ≡ i) → get_or (set out i s) j 0 ≡ cond (eqb (get_or parent j 0) 0) (first j) (get_or (set out i s) (get_or parent j 0 - 1) 0) + more j
        go (yes q) =
            subst (λ (z : ℕ). get_or (set out i s) z 0 ≡ cond (eqb (get_or parent z 0) 0) (first z) (get_or (set out i s) (get_or parent z 0 - 1) 0) + more z) (sym q)
            (get_or-set_same out i s 0 y ∙ o ∙ ap (λ z. z + more i) (w ∙ ap₂ (λ (p f : ℕ). cond (eqb p 0) f (get_or out (p - 1) 0)) e x
            ∙ sym (same i (get_or parent i 0) (first i) (P.low i h) (omega arith))))
        go (no q) =
            let m : j < i = omega arith in
            kept j m ∙ r j m ∙ ap (λ z. z + more j) (sym (same j (get_or parent j 0) (first j) (P.low j (omega arith)) (omega arith)))

-- the category of one more number's node
pub categories-more : (number category out : List ℕ) (i : ℕ) {k : ℕ} → k ≡ get_or number i 0 → i < length out → UrnCategories number category out i
    → UrnCategories number category (set out i (get_or category (k - 1) 0)) (i + 1)
categories-more number category out i {k} e h r j l = go (ℕ_discrete j i)
  where
    go : Dec (j ≡ i) → get_or (set out i (get_or category (k - 1) 0)) j 0 ≡ get_or category (get_or number j 0 - 1) 0
    go (yes q) = ap (λ z. get_or (set out i (get_or category (k - 1) 0)) z 0) q ∙ get_or-set_same out i (get_or category (k - 1) 0) 0 h
        ∙ ap (λ z. get_or category (z - 1) 0) e ∙ ap (λ z. get_or category (get_or number z 0 - 1) 0) (sym q)
    go (no q) = get_or-set_other out i j (get_or category (k - 1) 0) 0 q ∙ r j (omega arith)
