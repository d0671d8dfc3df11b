-- The symbols listed from the arrays are the table's, in their order.
use Prim.Native.Nat.{ℕ, zero, suc, ◌+◌, ◌*◌, ◌≤◌, ◌<◌, min}
use mathlib.Core.Path.{◌≡◌, refl, sym, ap, ap₂, ◌∙◌}
use mathlib.Core.Bool.{Bool, true, false, cond, not, ◌&&◌, true≢false}
use mathlib.Core.List.{List, [], ◌∷◌, ◌++◌, append_assoc, append-nil}
use lib.Dec.{eqb}
use borrow.Author.Tests.{eqb-true}
use lib.ListN.{length, take}
use lib.Seq.{take-suc, take_all}
use native.Mathlib.Omega.{arith}
use native.Mathlib.Numerals.{add-one}
use native.Mathlib.Nat.{add-zero, zero-add}
use Rattle.base_numbers.specs.Numbers.{most_nodes, most_symbol_bytes, most_symbols}
use Rattle.base_lists.proofs.Lists.{mem-at, member_of}
use Rattle.base_lists.proofs.Each.{each_append}
use Rattle.base_lists.proofs.Numbers.{min-le}
use Rattle.base_lists.specs.Lists.{each}
use Rattle.theory_resolution.specs.Table.{Urn, urn, Table}
use Rattle.theory_resolution.specs.Nodes.{nodes, number, node_at, leaf, same_urn, is_node, has_under, is_root}
use Rattle.theory_resolution.specs.Symbols.{Symbol, node, other, node_symbols, symbols_from, symbols}
use Rattle.theory_resolution.proofs.Numbers.{number-at, root-number}
use Rattle.node_search.specs.Arrays.{NodesIn, InnerIn}
use Rattle.machine_image.specs.Image.{symbol_bytes, stored_symbols}
use Rattle.machine_image.proofs.Joined.{stored-length}
use Rattle.machine_symbols.specs.Listed.{triple, node_triples, nodes_triples, category_triples, triple_lists, Listed, SymbolsIn}
use Rattle.theory_resolution.specs.Names.{Parts}
use Rattle.theory_resolution.proofs.Nodes.{urn-exact, root-free}

-- the symbols of one node
abbrev single : List Urn → ℕ → Urn → List Symbol
single ns c u = cond (eqb u.cat c) (node c u.path ∷ cond (leaf ns c u.path) [] (other c u.path ∷ [])) []

nodes-append : (ns : List Urn) (c : ℕ) (a b : List Urn) → node_symbols ns c (a ++ b) ≡ node_symbols ns c a ++ node_symbols ns c b
nodes-append ns c [] b = refl
nodes-append ns c (u ∷ a) b = ap (λ z. single ns c u ++ z) (nodes-append ns c a b)
    ∙ sym (append_assoc (single ns c u) (node_symbols ns c a) (node_symbols ns c b))

-- one category more
symbols-last : (ns : List Urn) (c k : ℕ) → symbols_from ns c (suc k) ≡ symbols_from ns c k ++ (node_symbols ns (c + k) ns ++ other (c + k) [] ∷ [])
symbols-last ns c zero = rw (add-zero c)
symbols-last ns c (suc k) =
    let e : suc c + k ≡ c + suc k = omega arith in
    ap (λ z. node_symbols ns c ns ++ other c [] ∷ z) (symbols-last ns (suc c) k)
    ∙ ap (λ z. node_symbols ns c ns ++ other c [] ∷ (symbols_from ns (suc c) k ++ (node_symbols ns z ns ++ other z [] ∷ []))) e
    ∙ sym (append_assoc (node_symbols ns c ns) (other c [] ∷ symbols_from ns (suc c) k) (node_symbols ns (c + suc k) ns ++ other (c + suc k) [] ∷ []))

-- a node is no root
pub no-root : (T : Table) (c : ℕ) (p : Parts) → is_node (nodes T) c p ≡ true → is_root p ≡ false
no-root T c [] e = absurd (true≢false (sym e ∙ root-free T c))
no-root T c (x ∷ p) e = refl

some-part : (T : Table) (k : ℕ) → k < length (nodes T) → is_root (node_at (nodes T) k).path ≡ false
some-part T k h =
    no-root T (node_at (nodes T) k).cat (node_at (nodes T) k).path (member_of same_urn urn-exact (node_at (nodes T) k) (nodes T)
    (mem-at (nodes T) k (urn 0 []) h))

module _ (t ca pos len : List ℕ) (n : ℕ) (T : Table) (ni : NodesIn t ca pos len n T) (inner : List Bool) (ii : InnerIn inner T) where
  abbrev ns : List Urn
  ns = nodes T

  there : (k : ℕ) → k < n → k < length (nodes T)
  there k h = omega (arith, ni.all-nodes)

  node-right : (c k : ℕ) → k < n → node_triples ca inner c k ≡ each (symbol_bytes ns) (single ns c (node_at ns k))
  unfolding node_triples each leaf
  node-right c k h =
      ap₂ (λ z b. cond (eqb z c) (triple c (k + 1) 0 ++ cond b (triple c (k + 1) 1) []) []) (ni.cat-at k h) (ii k (there k h))
      ∙ go (eqb (node_at ns k).cat c) refl
    where
      go : (b : Bool) → eqb (node_at ns k).cat c ≡ b
          → cond b (triple c (k + 1) 0 ++ cond (has_under ns (node_at ns k).cat (node_at ns k).path) (triple c (k + 1) 1) []) []
          ≡ each (symbol_bytes ns) (cond b (node c (node_at ns k).path ∷ cond (leaf ns c (node_at ns k).path) [] (other c (node_at ns k).path ∷ [])) [])
      go false e = refl
      go true e =
          let i : (node_at ns k).cat ≡ c = eqb-true (node_at ns k).cat c e in
          let m : number ns c (node_at ns k).path ≡ k + 1 = ap (λ z. number ns z (node_at ns k).path) (sym i) ∙ number-at T k (there k h) ∙ sym (add-one k) in
          let l : leaf ns c (node_at ns k).path ≡ not (has_under ns c (node_at ns k).path) =
          ap (λ z. not z && not (has_under ns c (node_at ns k).path)) (some-part T k (there k h)) in
          rw (l, i, m) (by (has_under ns c (node_at ns k).path) m)
        where
          by : (b : Bool) → number ns c (node_at ns k).path ≡ k + 1
              → triple c (k + 1) 0 ++ cond b (triple c (k + 1) 1) [] ≡ triple c (k + 1) 0
              ++ each (symbol_bytes ns) (cond (not b) [] (other c (node_at ns k).path ∷ []))
          by false m = refl
          by true m = ap (λ z. triple c (k + 1) 0 ++ triple c z 1) (sym m)

  nodes-right : (c k : ℕ) → k ≤ n → nodes_triples ca inner c k ≡ each (symbol_bytes ns) (node_symbols ns c (take k ns))
  unfolding nodes_triples each
  nodes-right c zero h = refl
  nodes-right c (suc k) h =
      ap₂ ◌++◌ (nodes-right c k (omega arith)) (node-right c k h)
      ∙ sym (each_append (symbol_bytes ns) (node_symbols ns c (take k ns)) (single ns c (node_at ns k)))
      ∙ ap (each (symbol_bytes ns))
      (ap (λ z. node_symbols ns c (take k ns) ++ z) (sym (append-nil (single ns c (node_at ns k))))
      ∙ sym (nodes-append ns c (take k ns) (node_at ns k ∷ [])) ∙ ap (node_symbols ns c) (sym (take-suc ns k (urn 0 []) (there k h))))

  category-right : (c : ℕ) → category_triples ca inner n c ≡ each (symbol_bytes ns) (node_symbols ns c ns ++ other c [] ∷ [])
  unfolding each
  category-right c =
      ap₂ ◌++◌
      (nodes-right c n (omega arith) ∙ ap (λ z. each (symbol_bytes ns) (node_symbols ns c z)) (take_all n ns (omega (arith, ni.all-nodes))))
      (ap (λ z. triple c z 1) (sym (root-number T c)))
      ∙ sym (each_append (symbol_bytes ns) (node_symbols ns c ns) (other c [] ∷ []))

  lists-right : (k : ℕ) → triple_lists ca inner n k ≡ each (symbol_bytes ns) (symbols_from ns 0 k)
  unfolding triple_lists each
  lists-right zero = refl
  lists-right (suc k) =
      ap₂ ◌++◌ (lists-right k) (category-right k)
      ∙ sym (each_append (symbol_bytes ns) (symbols_from ns 0 k) (node_symbols ns k ns ++ other k [] ∷ []))
      ∙ ap (each (symbol_bytes ns)) (ap (λ z. symbols_from ns 0 k ++ (node_symbols ns z ns ++ other z [] ∷ [])) (sym (zero-add k)) ∙ sym (symbols-last ns 0 k))

  -- the symbols in the array are the table's
  pub symbols-in : (sy : List ℕ) (count : ℕ) → T.cats ≤ 8 → length (symbols T) ≤ most_symbols
      → Listed sy count (triple_lists ca inner (min n most_nodes) (min T.cats 8)) → SymbolsIn T sy count
  symbols-in sy count few-cats few v =
      let e : triple_lists ca inner (min n most_nodes) (min T.cats 8) ≡ stored_symbols T =
      ap₂ (triple_lists ca inner) (sym (min-le n most_nodes ni.few-nodes)) (sym (min-le T.cats 8 few-cats)) ∙ lists-right T.cats in
      let l : length (triple_lists ca inner (min n most_nodes) (min T.cats 8)) ≡ 3 * length (symbols T) = ap length e ∙ stored-length T in
      record {
        wide = v.wide;
        all-symbols = omega (arith, v.counted, l);
        few-symbols = omega (arith, v.counted, l);
        held = v.held ∙ ap (take most_symbol_bytes) e ∙ take_all most_symbol_bytes (stored_symbols T) (omega (arith, stored-length T));
      }
