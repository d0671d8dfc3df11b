-- 6 to 11 of a tree by values that code can keep for each node: the bytes of its URN, its parts, its category and its number.
use Prim.Native.Nat.{ℕ, suc, zero, ◌+◌, ◌-◌, ◌≤◌, ◌<◌}
use mathlib.Core.Path.{◌≡◌, refl, ap, ap₂, sym, ◌∙◌, subst}
use mathlib.Core.Logic.{◌⊎◌, inl, inr}
use mathlib.Core.Bool.{Bool, cond, ◌&&◌, and-eq-true_iff}
use mathlib.Core.List.{List, [], ◌∷◌, map}
use native.Mathlib.Nat.{zero-add}
use native.Mathlib.Omega.{arith}
use lib.ListN.{length, get_or, length-append, length-map}
use lib.Dec.{eqb, leb, ltb}
use borrow.Author.Tests.{eq-eqb, ltb-true, leb-true}
use Rattle.base_numbers.specs.Numbers.{most_signals, most_table_urns}
use Rattle.base_lists.proofs.Tests.{all-mem, all-joined, any-joined, all_alike}
use Rattle.base_lists.specs.Tests.{all, any, no_two}
use Rattle.base_lists.specs.Numbers.{within}
use Rattle.base_lists.proofs.Lists.{mem-at}
use Rattle.base_lists.proofs.Tabulated.{tabulate-same, tabulate-at, tabulate-length, map-tab}
use Rattle.base_lists.specs.Lists.{tabulate, joined}
use Rattle.theory_resolution.specs.Names.{Parts, same_name}
use Rattle.theory_resolution.specs.Table.{Urn, urn, Table}
use Rattle.theory_resolution.specs.Nodes.{number, node_at}
use Rattle.base_text.specs.Text.{after_colons}
use Rattle.table_places.specs.Slots.{urn_of as listed_urn, Listing, Numbering}
use Rattle.table_sections.specs.Held.{tag, tagged_from}
use Rattle.table_places.proofs.Flat.{on_what, tagged-map, what_of, tagged-what}
use Rattle.tree_sections.specs.Tree.{Node, node_of, Tree}
use Rattle.tree_forms.specs.Meaning.{urn_of, urns_of, table_of_tree, number_in, urn_text}
use Rattle.tree_decode.specs.Direct.{short_in, few_parts, used_by, used_once}
use Rattle.tree_sections.specs.Held.{number_at}
use Rattle.tree_forms.proofs.Writing.{FitsTree}
use Rattle.tree_forms.proofs.Growing.{suc-zero, after-length, number-nth, Grown, signal-number, no-twice}
use Rattle.tree_nodes.proofs.Scanning.{Placed, placed-after}
use Rattle.tree_decode.proofs.Directly.{all_map, any-map, colons-more}

module _ (x : Tree) (g : Grown x) where
  abbrev ns : List Node
  ns = x.nodes

  abbrev us : List Urn
  us = urns_of x

  abbrev T : Table
  T = table_of_tree x

  size : length us ≡ length ns
  size = omega (arith, after-length [] x.nodes)

  pub facts : (i : ℕ) → i < length ns → Placed us (node_of ns i) i
  facts i h = subst (λ (j : ℕ). Placed us (node_of ns i) j) (zero-add i) (placed-after [] ns g.parents i h)

  -- what a value of each node is, if it comes from its parent's
  from-parent : (v : Urn → ℕ) (d first more : ℕ → ℕ)
      → ((i : ℕ) → i < length ns → d i ≡ cond (eqb (node_of ns i).parent 0) (first i) (d ((node_of ns i).parent - 1)) + more i)
      → ((i : ℕ) → i < length ns → (node_of ns i).parent ≡ 0 → v (node_at us i) ≡ first i + more i)
      → ((i j : ℕ) → i < length ns → (node_of ns i).parent ≡ suc j → v (node_at us i) ≡ v (node_at us j) + more i)
      → (b i : ℕ) → i < b → i < length ns → d i ≡ v (node_at us i)
  from-parent v d first more e z s zero i l h = absurd (omega arith)
  from-parent v d first more e z s (suc b) i l h = go (node_of ns i).parent refl (λ j a c. from-parent v d first more e z s b j a c)
    where
      go : (p : ℕ) → (node_of ns i).parent ≡ p → ((j : ℕ) → j < b → j < length ns → d j ≡ v (node_at us j)) → d i ≡ v (node_at us i)
      go zero q ih = e i h ∙ ap (λ b. cond b (first i) (d ((node_of ns i).parent - 1)) + more i) (eq-eqb (node_of ns i).parent 0 q) ∙ sym (z i h q)
      go (suc j) q ih =
          let lo = (facts i h).low in
          let o : (node_of ns i).parent - 1 ≡ j = omega (arith, q) in
          e i h ∙ ap (λ b. cond b (first i) (d ((node_of ns i).parent - 1)) + more i) (ap (λ p. eqb p 0) q ∙ suc-zero j)
          ∙ ap (λ k. d k + more i) o ∙ ap (λ k. k + more i) (ih j (omega (arith, lo, q)) (omega (arith, lo, q))) ∙ sym (s i j h q)

  -- how many parts each node has
  pub depth_is : (d : ℕ → ℕ) → ((i : ℕ) → i < length ns → d i ≡ cond (eqb (node_of ns i).parent 0) 0 (d ((node_of ns i).parent - 1)) + 1)
      → (i : ℕ) → i < length ns → d i ≡ length (node_at us i).path
  depth_is d e i h =
      from-parent (λ u. length u.path) d (λ i. 0) (λ i. 1) e
      (λ i h q. long i h ∙ ap (λ k. length (urn_of us k).path + 1) q)
      (λ i j h q. long i h ∙ ap (λ k. length (urn_of us k).path + 1) q)
      (suc i) i (omega arith) h
    where
      long : (i : ℕ) → i < length ns → length (node_at us i).path ≡ length (urn_of us (node_of ns i).parent).path + 1
      long i h = ap length (facts i h).path ∙ length-append (urn_of us (node_of ns i).parent).path ((node_of ns i).last ∷ [])

  -- how many bytes each node's URN has in the old form
  pub size_is : (d : ℕ → ℕ)
      → ((i : ℕ) → i < length ns → d i ≡ cond (eqb (node_of ns i).parent 0) (length (get_or x.names (node_of ns i).category []))
      (d ((node_of ns i).parent - 1)) + suc (length (node_of ns i).last))
      → (i : ℕ) → i < length ns → d i ≡ length (urn_text x.names (node_at us i))
  unfolding after_colons
  size_is d e i h =
      from-parent (λ u. length (urn_text x.names u)) d (λ i. length (get_or x.names (node_of ns i).category [])) (λ i. suc (length (node_of ns i).last)) e
      (λ i h q. omega (arith, long i h, ap (λ k. length (after_colons (urn_of us k).path)) q))
      (λ i j h q. below i j h q (facts i h).same)
      (suc i) i (omega arith) h
    where
      long : (i : ℕ) → i < length ns
          → length (urn_text x.names (node_at us i)) ≡ length (get_or x.names (node_of ns i).category []) +
          (length (after_colons (urn_of us (node_of ns i).parent).path) + suc (length (node_of ns i).last))
      long i h =
          let f = facts i h in
          length-append (get_or x.names (node_at us i).cat []) (after_colons (node_at us i).path)
          ∙ ap₂ (λ (c : ℕ) (p : Parts). length (get_or x.names c []) + length (after_colons p)) f.cat f.path
          ∙ ap (λ k. length (get_or x.names (node_of ns i).category []) + k) (colons-more (urn_of us (node_of ns i).parent).path (node_of ns i).last)

      below : (i j : ℕ) → i < length ns → (node_of ns i).parent ≡ suc j → ((node_of ns i).parent ≡ 0)
          ⊎ ((urn_of us (node_of ns i).parent).cat ≡ (node_of ns i).category)
          → length (urn_text x.names (node_at us i)) ≡ length (urn_text x.names (node_at us j)) + suc (length (node_of ns i).last)
      below i j h q (inl z) = absurd (omega (arith, q, z))
      below i j h q (inr c) =
          let k : (node_at us j).cat ≡ (node_of ns i).category = ap (λ p. (urn_of us p).cat) (sym q) ∙ c in
          omega (
            arith,
            long i h,
            ap (λ p. length (after_colons (urn_of us p).path)) q,
            length-append (get_or x.names (node_at us j).cat []) (after_colons (node_at us j).path),
            ap (λ c. length (get_or x.names c [])) k,
          )

  -- a test of every signal's URNs, by the numbers
  pub all-numbers : (p : Urn → Bool) (q : ℕ → Bool) → ((j : ℕ) → j < length ns → p (node_at us j) ≡ q (suc j)) → all (all p) T.signals
      ≡ all q (joined x.signals)
  all-numbers p q h =
      all_map (all p) (all q) (map (urn_of us)) x.signals
      (λ sig m. all_map p q (urn_of us) sig (λ k i. let w = signal-number x g sig m k i in ap (λ z. p (urn_of us z)) w.1
      ∙ h w.0 (omega (arith, w.2, size)) ∙ ap q (sym w.1)))
      ∙ all-joined q x.signals

  pub any-numbers : (p : Urn → Bool) (q : ℕ → Bool) → ((j : ℕ) → j < length ns → p (node_at us j) ≡ q (suc j)) → any (any p) T.signals
      ≡ any q (joined x.signals)
  any-numbers p q h =
      any-map (any p) (any q) (map (urn_of us)) x.signals
      (λ sig m. any-map p q (urn_of us) sig (λ k i. let w = signal-number x g sig m k i in ap (λ z. p (urn_of us z)) w.1
      ∙ h w.0 (omega (arith, w.2, size)) ∙ ap q (sym w.1)))
      ∙ any-joined q x.signals

  -- 6
  pub short-by : (d : ℕ → ℕ) → ((i : ℕ) → i < length ns → d i ≡ length (urn_text x.names (node_at us i))) → short_in x.names T
      ≡ all (λ k. leb (d (k - 1)) 255) (joined x.signals)
  unfolding short_in
  short-by d e = all-numbers (λ u. leb (length (urn_text x.names u)) 255) (λ k. leb (d (k - 1)) 255) (λ j h. let o : suc j - 1 ≡ j =
      omega arith in ap (λ n. leb n 255) (sym (e j h)) ∙ ap (λ z. leb (d z) 255) (sym o))

  -- 7
  pub few-by : (d : ℕ → ℕ) → ((i : ℕ) → i < length ns → d i ≡ length (node_at us i).path) → few_parts T ≡ all (λ k. leb (d (k - 1)) 8) (joined x.signals)
  unfolding few_parts
  few-by d e = all-numbers (λ u. leb (length u.path) 8) (λ k. leb (d (k - 1)) 8) (λ j h. let o : suc j - 1 ≡ j = omega arith in
      ap (λ n. leb n 8) (sym (e j h)) ∙ ap (λ z. leb (d z) 8) (sym o))

  -- 8
  pub used-by : used_once x.names T
      ≡ (no_two same_name x.names && all (λ c. any (λ k. eqb (node_of ns (k - 1)).category c) (joined x.signals)) (tabulate (λ c. c) (length x.names)))
  unfolding used_once
  used-by =
      ap (λ b. no_two same_name x.names && b)
      (all_alike (used_by T) (λ c. any (λ k. eqb (node_of ns (k - 1)).category c) (joined x.signals)) (λ c. c) (λ c. c) (length x.names)
      (λ c h. any-numbers (λ u. eqb u.cat c) (λ k. eqb (node_of ns (k - 1)).category c)
      (λ j i. let o : suc j - 1 ≡ j = omega arith in ap (λ z. eqb z c) (facts j i).cat ∙ ap (λ z. eqb (node_of ns z).category c) (sym o))))

  -- 9 to 11: the URNs of the table by arrays of signals, categories and numbers
  module _ (f : FitsTree x) (signal category numbers : List ℕ) (m : ℕ) (h : tabulate (number_at signal numbers) m ≡ tagged_from 0 x.signals)
      (c : (i : ℕ) → i < m → get_or category i 0 ≡ (node_of ns (get_or numbers i 0 - 1)).category) where
    flat : tabulate (λ i. get_or numbers i 0) m ≡ joined x.signals
    flat = sym (map-tab what_of (number_at signal numbers) m) ∙ ap (map what_of) h ∙ tagged-what 0 x.signals

    is-node : (i : ℕ) → i < m → (j : ℕ) × (get_or numbers i 0 ≡ suc j) × (j < length ns)
    is-node i k =
        let v = tabulate-at (λ i. get_or numbers i 0) m i 0 k in
        let l = tabulate-length (λ i. get_or numbers i 0) m in
        let w = all-mem (within 1 (length ns)) (tabulate (λ i. get_or numbers i 0) m) (get_or (tabulate (λ i. get_or numbers i 0) m) i 0)
        (ap (all (within 1 (length ns))) flat ∙ sym (all-joined (within 1 (length ns)) x.signals) ∙ g.numbers)
        (mem-at (tabulate (λ i. get_or numbers i 0) m) i 0 (omega (arith, l))) in
        let b = (and-eq-true_iff (leb 1 (get_or (tabulate (λ i. get_or numbers i 0) m) i 0))
        (leb (get_or (tabulate (λ i. get_or numbers i 0) m) i 0) (length ns))).0 w in
        go (get_or numbers i 0) (omega (arith, leb-true 1 (get_or (tabulate (λ i. get_or numbers i 0) m) i 0) b.0, v)) (omega (
          arith,
          leb-true (get_or (tabulate (λ i. get_or numbers i 0) m) i 0) (length ns) b.1,
          v,
        ))
      where
        go : (k : ℕ) → 1 ≤ k → k ≤ length ns → (j : ℕ) × (k ≡ suc j) × (j < length ns)
        go zero a b = absurd (omega arith)
        go (suc j) a b = (j, refl, omega arith)

    -- the category in the array is the URN's
    same-cat : (i : ℕ) → i < m → get_or category i 0 ≡ (urn_of us (get_or numbers i 0)).cat
    same-cat i k =
        let w = is-node i k in
        let o : get_or numbers i 0 - 1 ≡ w.0 = omega (arith, w.1) in
        c i k ∙ ap (λ z. (node_of ns z).category) o ∙ sym (facts w.0 w.2).cat ∙ ap (λ z. (urn_of us z).cat) (sym w.1)

    abbrev path : ℕ → Parts
    path i = (urn_of us (get_or numbers i 0)).path

    pub tree-listing : (n : ℕ) → length x.signals ≡ n → n ≤ most_signals → m ≤ most_table_urns → Listing T signal category path n m
    tree-listing n q l o =
        record {
          signals = length-map x.signals (map (urn_of us)) ∙ q;
          urns =
              tabulate-same (listed_urn signal category path) (λ i. on_what (urn_of us) (number_at signal numbers i)) m
              (λ i k. ap (λ z. tag (get_or signal i 0) (urn z (path i))) (same-cat i k))
              ∙ sym (map-tab (on_what (urn_of us)) (number_at signal numbers) m) ∙ ap (map (on_what (urn_of us))) h ∙ sym (tagged-map (urn_of us) 0 x.signals);
          known = λ i k.
              let w = is-node i k in
              let o : get_or numbers i 0 - 1 ≡ w.0 = omega (arith, w.1) in
              let q : get_or category i 0 ≡ (node_of ns w.0).category = c i k ∙ ap (λ z. (node_of ns z).category) o in
              omega (
                arith,
                q,
                ltb-true (node_of ns w.0).category (length x.names)
                    (all-mem (λ n. ltb n.category (length x.names)) ns (node_of ns w.0) g.categories
                    (mem-at ns w.0 (record { category = 0; parent = 0; last = [] }) w.2)),
              );
          few-categories = f.names.0.1;
          few-signals = l;
          few-urns = o;
        }

    pub tree-numbering : Numbering T category path numbers m
    tree-numbering =
        record {
          no-root = λ i k. omega (arith, (is-node i k).1);
          numbers = λ i k.
              let w = is-node i k in
              w.1 ∙ sym (number-nth us (no-twice x g) w.0 (omega (arith, w.2, size)))
              ∙ ap (λ z. number_in us (urn_of us z)) (sym w.1)
              ∙ ap (λ z. number us z (path i)) (sym (same-cat i k))
              ∙ ap (λ (l : List Urn). number l (get_or category i 0) (path i)) g.order;
          few-nodes = omega (arith, ap length g.order, size, f.nodes.0.1);
        }
