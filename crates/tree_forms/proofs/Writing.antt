-- Laws of writing the tree form: what is written is read again, and what was read is what stands there.
use Prim.Native.Nat.{ℕ, ◌+◌}
use mathlib.Core.Path.{◌≡◌, refl, ap, sym, ◌∙◌}
use mathlib.Core.Bool.{cond}
use mathlib.Core.List.{List, [], ◌∷◌, ◌++◌, append-nil}
use native.Mathlib.Omega.{arith}
use lib.ListN.{length, drop}
use lib.Dec.{ltb}
use Rattle.base_numbers.specs.Numbers.{most_name_bytes, most_nodes, most_signals}
use Rattle.base_lists.proofs.Cuts.{drop-next}
use Rattle.table_sections.specs.Stored.{got, fault, and_then, text, counted}
use Rattle.table_sections.proofs.Readings.{after-got}
pub use Rattle.table_decode.specs.Bytes.{Every, FitsByte, FitsText, FitsMany, FitsNames, FitsStored}
pub use Rattle.table_decode.proofs.Writing.{every-cons, stored-reads, stored_back}
use Rattle.table_decode.proofs.Writing.{Coded, got-value, got-end, byte-coded, text-coded, counted-coded, names-coded, at-end, ended}
use Rattle.tree_sections.specs.Tree.{Node, Tree, any_byte, node, signals_from, nodes_from, tree}
use Rattle.tree_forms.specs.Bytes.{section, text_bytes, number_bytes, node_bytes, tree_bytes}

pub record FitsNode (n : Node) : Type 0 where
  pub category : FitsByte 0 255 n.category
  pub parent : FitsByte 0 255 n.parent
  pub last : FitsText most_name_bytes n.last

module _ (t : List ℕ) where
  node-reads : (at : ℕ) (n : Node) (r : List ℕ) → FitsNode n → drop at t ≡ node_bytes n ++ r → node t at ≡ got n (at + length (node_bytes n))
  unfolding node and_then
  node-reads at n r f e =
      let a = (byte-coded 0 255 t).reads at n.category (n.parent ∷ text_bytes n.last ++ r) f.category e in
      let d : drop (at + 1) t ≡ n.parent ∷ text_bytes n.last ++ r = drop-next t at (n.category ∷ []) (n.parent ∷ text_bytes n.last ++ r) e in
      let b = (byte-coded 0 255 t).reads (at + 1) n.parent (text_bytes n.last ++ r) f.parent d in
      let g : drop (at + 1 + 1) t ≡ text_bytes n.last ++ r = drop-next t (at + 1) (n.parent ∷ []) (text_bytes n.last ++ r) d in
      let c = (text-coded most_name_bytes t).reads (at + 1 + 1) n.last r f.last g in
      let m : at + 1 + 1 + length (text_bytes n.last) ≡ at + length (node_bytes n) = omega arith in
      rw (a, b, c) (ap (got n) m)

  node-back : (at : ℕ) (n : Node) (q : ℕ) → node t at ≡ got n q → FitsNode n × (drop at t ≡ node_bytes n ++ drop q t) × (q ≡ at + length (node_bytes n))
  unfolding node
  node-back at n q e =
      let a = after-got (any_byte t at)
      (λ c p. and_then (any_byte t p) (λ k q. and_then (text most_name_bytes t q) (λ x r. got (record { category = c; parent = k; last = x }) r))) n q e in
      let b = after-got (any_byte t a.1) (λ k q. and_then (text most_name_bytes t q) (λ x r. got (record {
        category = a.0;
        parent = k;
        last = x;
      }) r)) n q a.3 in
      let c = after-got (text most_name_bytes t b.1) (λ x r. got (record { category = a.0; parent = b.0; last = x }) r) n q b.3 in
      go a.0 a.1 b.0 b.1 c.0 c.1 a.2 b.2 c.2 c.3
    where
      go : (c p k i : ℕ) (x : List ℕ) (j : ℕ) → any_byte t at ≡ got c p → any_byte t p ≡ got k i → text most_name_bytes t i ≡ got x j
          → got (record { category = c; parent = k; last = x }) j ≡ got n q
          → FitsNode n × (drop at t ≡ node_bytes n ++ drop q t) × (q ≡ at + length (node_bytes n))
      go c p k i x j e₁ e₂ e₃ e₄ =
          let v : record { category = c; parent = k; last = x } ≡ n = got-value (record { category = c; parent = k; last = x }) n j q e₄ in
          let y : j ≡ q = got-end (record { category = c; parent = k; last = x }) n j q e₄ in
          let a = (byte-coded 0 255 t).back at c p e₁ in
          let b = (byte-coded 0 255 t).back p k i e₂ in
          let d = (text-coded most_name_bytes t).back i x j e₃ in
          rw (← v, ← y) (
            record { category = a.0; parent = b.0; last = d.0 },
            a.1 ∙ ap (λ z. c ∷ z) (b.1 ∙ ap (λ z. k ∷ z) d.1),
            omega (arith, a.2, b.2, d.2),
          )

  pub node-coded : Coded t (node t) node_bytes FitsNode
  node-coded = record { reads = node-reads; back = node-back }

-- what the tree form can hold
pub record FitsTree (x : Tree) : Type 0 where
  pub names : FitsNames x.names
  pub nodes : FitsMany 1 most_nodes FitsNode x.nodes
  pub signals : FitsMany 1 most_signals (FitsMany 0 8 (FitsByte 0 255)) x.signals

module _ (t : List ℕ) where
  pub nodes-coded : Coded t (counted 1 most_nodes (node t) t) (section node_bytes) (FitsMany 1 most_nodes FitsNode)
  nodes-coded = counted-coded 1 most_nodes t (node t) node_bytes FitsNode (node-coded t)

  pub numbers-coded : Coded t (counted 1 most_signals (counted 0 8 (any_byte t) t) t) (section (section number_bytes))
      (FitsMany 1 most_signals (FitsMany 0 8 (FitsByte 0 255)))
  numbers-coded =
      counted-coded 1 most_signals t (counted 0 8 (any_byte t) t) (section number_bytes) (FitsMany 0 8 (FitsByte 0 255))
      (counted-coded 0 8 t (any_byte t) number_bytes (FitsByte 0 255) (byte-coded 0 255 t))

-- the tree form
pub tree-reads : (x : Tree) → FitsTree x → (q : ℕ) × (tree (tree_bytes x) ≡ got x q)
unfolding tree nodes_from signals_from and_then tree_bytes
tree-reads x f =
    let A : List ℕ = section text_bytes x.names in
    let B : List ℕ = section node_bytes x.nodes in
    let C : List ℕ = section (section number_bytes) x.signals in
    let t : List ℕ = A ++ (B ++ C) in
    let p : ℕ = 0 + length A in
    let a = (names-coded t).reads 0 x.names (B ++ C) f.names refl in
    let d : drop p t ≡ B ++ C = drop-next t 0 A (B ++ C) refl in
    let b = (nodes-coded t).reads p x.nodes C f.nodes d in
    let i : ℕ = p + length B in
    let g : drop i t ≡ C ++ [] = drop-next t p B C d ∙ sym (append-nil C) in
    let c = (numbers-coded t).reads i x.signals [] f.signals g in
    let q : ℕ = i + length C in
    (q, rw (a, b, c) (at-end t q x (drop-next t i C [] g)))

pub tree-back : (t : List ℕ) (x : Tree) (q : ℕ) → tree t ≡ got x q → FitsTree x × (tree_bytes x ≡ t)
unfolding tree nodes_from signals_from tree_bytes
tree-back t x q e =
    let a = after-got (counted 1 8 (text most_name_bytes t) t 0) (λ ns at. nodes_from t ns at) x q e in
    let b = after-got (counted 1 most_nodes (node t) t a.1) (λ ds p. signals_from t a.0 ds p) x q a.3 in
    let c = after-got (counted 1 most_signals (counted 0 8 (any_byte t) t) t b.1)
    (λ ss p. cond (ltb p (length t)) (fault 5) (got (record { names = a.0; nodes = b.0; signals = ss }) p)) x q b.3 in
    let d = ended t c.1 q (record { names = a.0; nodes = b.0; signals = c.0 }) x c.3 in
    let l = (names-coded t).back 0 a.0 a.1 a.2 in
    let m = (nodes-coded t).back a.1 b.0 b.1 b.2 in
    let n = (numbers-coded t).back b.1 c.0 c.1 c.2 in
    let z : drop b.1 t ≡ section (section number_bytes) c.0 = n.1 ∙ ap (λ z. section (section number_bytes) c.0 ++ z) d.2
    ∙ append-nil (section (section number_bytes) c.0) in
    rw (← d.0) (
      record { names = l.0; nodes = m.0; signals = n.0 },
      sym (l.1 ∙ ap (λ z. section text_bytes a.0 ++ z) (m.1 ∙ ap (λ z. section node_bytes b.0 ++ z) z)),
    )
