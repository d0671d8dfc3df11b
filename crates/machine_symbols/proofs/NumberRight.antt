-- The number of a used URN's symbol, by the arrays, is its symbol's place in the table's list.
use Prim.Native.Nat.{ℕ, zero, suc, ◌+◌, ◌<◌, min}
use mathlib.Core.Path.{◌≡◌, refl, sym, ap, ap₂, ◌∙◌}
use mathlib.Core.Logic.{inl, inr}
use mathlib.Core.Bool.{Bool, true, false, cond, not, ◌&&◌, ◌||◌, and-eq-true_iff}
use mathlib.Core.List.{List, []}
use lib.Dec.{eqb}
use borrow.Author.Tests.{eqb-true, eq-eqb, ne_eqb}
use lib.ListN.{drop, drop_of_length-le}
use lib.Seq.{drop-cons}
use native.Mathlib.Omega.{arith}
use native.Mathlib.Nat.{add-zero, zero-add}
use native.Mathlib.Numerals.{add-one}
use Rattle.base_numbers.specs.Numbers.{most_symbols}
use Rattle.base_lists.proofs.Numbers.{min-le}
use Rattle.base_lists.proofs.Lists.{mem-at}
use Rattle.base_lists.proofs.Bools.{same_test}
use Rattle.base_lists.specs.Lists.{index_by}
use Rattle.theory_resolution.specs.Names.{Parts, same_parts}
use Rattle.theory_resolution.specs.Table.{Urn, Table, WellFormed}
use Rattle.theory_resolution.specs.Nodes.{nodes, number, RootOrNode, leaf, deepest, has_under}
use Rattle.theory_resolution.specs.Symbols.{Symbol, other, symbols, symbol_at, symbol_of, is_other, same_symbol, symbol_index}
use Rattle.theory_resolution.proofs.Numbers.{number-node, number_same, root-number}
use Rattle.theory_resolution.proofs.Deepest.{deepest-node}
use Rattle.theory_resolution.proofs.Symbols.{symbol-exact, symbol-known}
use Rattle.node_search.specs.Arrays.{NodesIn, InnerIn}
use Rattle.node_step.specs.Rows.{Numbers}
use Rattle.machine_image.specs.Image.{kind_of}
use Rattle.machine_symbols.specs.Listed.{SymbolsIn, is_triple, triple_index, kind_for, index_from, symbol_number}
use Rattle.machine_symbols.proofs.SymbolLaws.{by_index}
use Rattle.machine_symbols.proofs.StepRight.{category-at, node_at_lem, kind_at}
use Rattle.node_step.specs.Step.{inner_at}
use Rattle.node_step.proofs.StepRight.{inner-right}
use Rattle.machine_symbols.proofs.SymbolsRight.{no-root}

kind-same : (a b : Bool) → kind_of a ≡ kind_of b → a ≡ b
kind-same true true e = refl
kind-same true false e = absurd (omega arith)
kind-same false true e = absurd (omega arith)
kind-same false false e = refl

module _ (t ca pos len : List ℕ) (n : ℕ) (T : Table) (ni : NodesIn t ca pos len n T) (rows ps : List ℕ) (signals : ℕ) (nu : Numbers rows ps signals T)
    (inner : List Bool) (ii : InnerIn inner T) (wf : WellFormed T) (sy : List ℕ) (count : ℕ) (si : SymbolsIn T sy count) where
  abbrev ns : List Urn
  ns = nodes T

  -- the kind
  kind-right : (c : ℕ) (d u : Parts) → RootOrNode ns c d → kind_for inner (number ns c d) (same_parts d u) ≡ kind_of (is_other ns c u d)
  unfolding kind_for leaf
  kind-right c d u (inl e) =
      ap (λ z. cond (same_parts d u) 0 (cond z 1 (cond (inner_at inner (number ns c d)) 1 0))) (eq-eqb (number ns c d) 0 (ap (number ns c) e ∙ root-number T c))
      ∙ by (same_parts d u) ∙ ap (λ z. kind_of (not (same_parts d u || leaf ns c z))) (sym e)
    where
      by : (b : Bool) → cond b 0 1 ≡ kind_of (not (b || false))
      by true = refl
      by false = refl
  kind-right c d u (inr e) =
      let w = number-node ns c d e in
      let i : inner_at inner (number ns c d) ≡ has_under ns c d = inner-right inner T ii nu.few-nodes c d (inr e) ∙ ap (λ b. b && has_under ns c d) e in
      ap₂ (λ z b. cond (same_parts d u) 0 (cond z 1 (cond b 1 0))) (ne_eqb (number ns c d) 0 (λ z. omega (arith, w.2))) i
      ∙ by (same_parts d u) (has_under ns c d) ∙ ap (λ z. kind_of (not (same_parts d u || (not z && not (has_under ns c d))))) (sym (no-root T c d e))
    where
      by : (a b : Bool) → cond a 0 (cond b 1 0) ≡ kind_of (not (a || not b))
      by true b = refl
      by false true = refl
      by false false = refl

  -- the search
  module _ (s : Symbol) (g : RootOrNode ns s.cat s.path) where
    abbrev num : ℕ
    num = number ns s.cat s.path

    test-right : (k : ℕ) → k < count → is_triple sy s.cat num (kind_of s.other) k ≡ same_symbol s (symbol_at T k)
    unfolding is_triple
    test-right k h =
        ap₂ (λ x y. eqb x s.cat && y) (category-at T wf rows ps signals nu sy count si k h)
        (ap₂ (λ x y. eqb x num && eqb y (kind_of s.other)) (node_at_lem T wf rows ps signals nu sy count si k h)
        (kind_at T wf rows ps signals nu sy count si k h))
        ∙ same_test (eqb x.cat s.cat && (eqb (number ns x.cat x.path) num && eqb (kind_of x.other) (kind_of s.other))) (same_symbol s x) to of
      where
        x : Symbol
        x = symbol_at T k

        known : RootOrNode ns x.cat x.path
        known = (symbol-known T x (mem-at (symbols T) k (other 0 []) (omega (arith, si.all-symbols)))).1

        to : eqb x.cat s.cat && (eqb (number ns x.cat x.path) num && eqb (kind_of x.other) (kind_of s.other)) ≡ true → same_symbol s x ≡ true
        to e =
            let a = (and-eq-true_iff (eqb x.cat s.cat) (eqb (number ns x.cat x.path) num && eqb (kind_of x.other) (kind_of s.other))).0 e in
            let b = (and-eq-true_iff (eqb (number ns x.cat x.path) num) (eqb (kind_of x.other) (kind_of s.other))).0 a.1 in
            let p : x.cat ≡ s.cat = eqb-true x.cat s.cat a.0 in
            let q : x.path ≡ s.path = number_same T s.cat x.path s.path (rw p at known) g
            (ap (λ z. number ns z x.path) (sym p) ∙ eqb-true (number ns x.cat x.path) num b.0) in
            let r : x.other ≡ s.other = kind-same x.other s.other (eqb-true (kind_of x.other) (kind_of s.other) b.1) in
            let i : x ≡ s = λ j. record { cat = p j; path = q j; other = r j } in
            ap (λ z. same_symbol z x) (sym i) ∙ symbol-exact.self x

        of : same_symbol s x ≡ true → eqb x.cat s.cat && (eqb (number ns x.cat x.path) num && eqb (kind_of x.other) (kind_of s.other)) ≡ true
        of e =
            let i : s ≡ x = symbol-exact.to s x e in
            rw (eq-eqb x.cat s.cat (ap (λ z. z.cat) (sym i)), eq-eqb (number ns x.cat x.path) num (ap (λ z. number ns z.cat z.path) (sym i)))
            (eq-eqb (kind_of x.other) (kind_of s.other) (ap (λ z. kind_of z.other) (sym i)))

    index-right : (m i : ℕ) → i + m ≡ count → triple_index sy s.cat num (kind_of s.other) i m ≡ i + index_by same_symbol s (drop i (symbols T))
    unfolding triple_index
    index-right zero i h = rw (drop_of_length-le (symbols T) {i = i} (omega (arith, si.all-symbols))) (sym (add-zero i))
    index-right (suc m) i h =
        ap (λ z. cond z i (triple_index sy s.cat num (kind_of s.other) (i + 1) m)) (test-right i (omega arith))
        ∙ go (same_symbol s (symbol_at T i)) (index-right m (i + 1) (omega arith))
        ∙ ap (λ z. i + index_by same_symbol s z) (sym (drop-cons (symbols T) i (other 0 []) (omega (arith, si.all-symbols))))
      where
        go : (b : Bool) → triple_index sy s.cat num (kind_of s.other) (i + 1) m ≡ i + 1 + index_by same_symbol s (drop (i + 1) (symbols T))
            → cond b i (triple_index sy s.cat num (kind_of s.other) (i + 1) m) ≡ i + cond b zero (suc (index_by same_symbol s (drop (suc i) (symbols T))))
        go true ih = sym (add-zero i)
        go false ih = ih ∙ ap (λ z. i + 1 + index_by same_symbol s (drop z (symbols T))) (add-one i) ∙ omega arith

  pub number-right : (ix : List ℕ) → ix ≡ index_from sy 0 (min count most_symbols) → (u : Urn)
      → symbol_number ix sy count inner u.cat (number ns u.cat (deepest ns u.cat u.path)) (same_parts (deepest ns u.cat u.path) u.path)
      ≡ symbol_index (symbol_of ns u) (symbols T)
  unfolding symbol_number
  number-right ix xi u =
      let g = deepest-node ns u.cat u.path in
      let d = number ns u.cat (deepest ns u.cat u.path) in
      by_index sy u.cat d (kind_for inner d (same_parts (deepest ns u.cat u.path) u.path)) ix (min count most_symbols) xi
      ∙ ap₂ (λ z y. triple_index sy u.cat d z 0 y) (kind-right u.cat (deepest ns u.cat u.path) u.path g)
      (sym (min-le count most_symbols si.few-symbols))
      ∙ index-right (symbol_of ns u) g count 0 (zero-add count)
      ∙ zero-add (index_by same_symbol (symbol_of ns u) (symbols T))
