-- From the nodes and the places to the answer: 9 to 12, and what the arrays of an accepted table hold.
use Prim.Native.Nat.{ℕ, zero, suc, ◌+◌, ◌≤◌, ◌<◌, min}
use mathlib.Core.Path.{◌≡◌, refl, ap, sym, ◌∙◌, subst}
use mathlib.Core.Logic.{inl, inr}
use mathlib.Core.Bool.{Bool, true, false, not}
use mathlib.Core.List.{List, [], map, foldl}
use native.Mathlib.Omega.{arith}
use borrow.Author.Tests.{ne_eqb}
use lib.ListN.{length, get_or}
use Rattle.base_numbers.specs.Numbers.{most_nodes}
use Rattle.base_lists.specs.Cuts.{stretch}
use Rattle.theory_resolution.proofs.Names.{snoc-injective}
use Rattle.base_lists.proofs.Numbers.{min-le}
use Rattle.base_lists.proofs.Tabulated.{tabulate-length, tabulate-at, map-tab}
use Rattle.base_lists.specs.Lists.{tabulate}
use Rattle.base_text.specs.Text.{fields}
use Rattle.base_text.proofs.Fields.{fields-first}
use Rattle.theory_resolution.specs.Names.{Name, Parts}
use Rattle.theory_resolution.specs.Table.{Urn, urn, Table}
use Rattle.theory_resolution.specs.Nodes.{nodes, number, node_at, add_urn}
use Rattle.theory_resolution.proofs.Numbers.{number-at, root-number}
use Rattle.node_search.specs.Arrays.{NamesIn, NodesIn, SharedIn, childless}
use Rattle.node_step.specs.Rows.{Numbers}
use Rattle.node_step.proofs.Leaves.{inner-is}
use Rattle.node_search.proofs.MarkLaws.{shared_of_lem}
use Rattle.table_sections.specs.declared.Counts.{Counts}
use Rattle.table_nodes.specs.Nodes.{node_urn, Numbered, Nodes, AddedAll}
use Rattle.table_places.specs.Slots.{urn_of, Numbering, Placed}
use Rattle.table_places.proofs.Flat.{what_of, tagged-what, nodes-joined}
use Rattle.table_decode.specs.Tables.{table_of, table_refusal, category_names}
use Rattle.table_decode.specs.Stages.{ListedAs}
use Rattle.table_decode.specs.Decoded.{DecodedAs}
use Rattle.table_decode.proofs.Accepting.{accepted, node-parts}

module _ (t name_at name_len signal category path_at path_len : List ℕ) (l : Counts) (S : ListedAs t name_at name_len signal category path_at path_len l) where
  abbrev T : Table
  T = table_of t

  abbrev path : ℕ → Parts
  path i = fields 58 (stretch t path_at path_len i)

  nodes-are : nodes T ≡ foldl add_urn [] (tabulate (node_urn t category path_at path_len) l.urns)
  nodes-are = nodes-joined T ∙ ap (foldl add_urn []) (sym (tagged-what 0 T.signals) ∙ ap (map what_of) (sym S.listing.urns)
      ∙ map-tab what_of (urn_of signal category path) l.urns)

  pub over : most_nodes < length (foldl add_urn [] (tabulate (node_urn t category path_at path_len) l.urns)) → most_nodes < length (nodes T)
  over h = omega (arith, h, ap length nodes-are)

  module _ {node cats parents at len : List ℕ} {n : ℕ} (A : AddedAll t (node_urn t category path_at path_len) l.urns node cats parents at len n) where
    N : Nodes t cats parents at len n (nodes T)
    N = subst (λ (z : List Urn). Nodes t cats parents at len n z) (sym nodes-are) A.kept

    count : length (nodes T) ≡ n
    count = ap length (sym N.held) ∙ tabulate-length (node_urn t cats at len) n

    -- a path's number, as the arrays have it
    number-as : (c : ℕ) (p : Parts) (k : ℕ) → Numbered (nodes T) c p k → k ≡ number (nodes T) c p
    number-as c p k (inl e) = e.0 ∙ sym (ap (number (nodes T) c) e.1 ∙ root-number T c)
    number-as c p k (inr w) = w.1 ∙ sym (number-at T w.0 w.2) ∙ ap (λ (u : Urn). number (nodes T) u.cat u.path) w.3

    -- a path has a part, so it is not the root
    above : (ns : List Urn) (c i k : ℕ) → Numbered ns c (path i) k → 0 < k
    above ns c i k (inl e) = let f = fields-first 58 (stretch t path_at path_len i) in absurd (omega (arith, ap length (sym f.1 ∙ e.1)))
    above ns c i k (inr w) = omega (arith, w.1)

    pub numbering : Numbering T category path node l.urns
    numbering =
        record {
          no-root = λ i k. above (foldl add_urn [] (tabulate (node_urn t category path_at path_len) l.urns)) (get_or category i 0) i
              (get_or node i 0) (A.numbered i k);
          numbers = λ i k. number-as (get_or category i 0) (path i) (get_or node i 0)
              (subst (λ (y : List Urn). Numbered y (get_or category i 0) (path i) (get_or node i 0)) (sym nodes-are) (A.numbered i k));
          few-nodes = omega (arith, A.few, count);
        }

    -- no parent's number is over n, so nothing past the nodes has nodes under it
    low : (c : ℕ) (p : Parts) (k : ℕ) → Numbered (nodes T) c p k → k ≤ n
    low c p k (inl e) = omega (arith, e.0)
    low c p k (inr w) = omega (arith, w.1, w.2, count)

    childless-past : (d m : ℕ) → m ≤ n → n < d → childless parents d m ≡ true
    unfolding childless
    childless-past d zero a b = refl
    childless-past d (suc m) a b =
        let w = N.parent m (omega (arith, a)) in
        let far : get_or parents m 0 ≡ d → ⊥ = λ e. omega (arith, e, b, low (node_at (nodes T) m).cat w.0 (get_or parents m 0) w.3) in
        rw (childless-past d m (omega (arith, a)) b, ne_eqb (get_or parents m 0) d far)

    node-is : (i : ℕ) → i < n → node_at (nodes T) i ≡ node_urn t cats at len i
    node-is i k = ap (λ (z : List Urn). node_at z i) (sym N.held) ∙ tabulate-at (node_urn t cats at len) n i (urn 0 []) k

    names_in : NamesIn t name_at name_len l.categories (category_names t)
    names_in =
        record {
          all-names = ap length S.names ∙ tabulate-length (stretch t name_at name_len) l.categories;
          few-names = omega (arith, S.cats, S.listing.few-categories);
          name-at = λ i k. sym (ap (λ (z : List Name). get_or z i []) S.names ∙ tabulate-at (stretch t name_at name_len) l.categories i [] k);
        }

    nodes-in : NodesIn t cats at len n T
    nodes-in =
        record {
          all-nodes = count;
          few-nodes = A.few;
          cat-at = λ i k. ap (λ (u : Urn). u.cat) (sym (node-is i k));
          path-at = λ i k. ap (λ (u : Urn). u.path) (sym (node-is i k));
        }

    module _ {rows : List ℕ} (P : Placed T rows l.signals 0) where
      pub numbers-hold : ((k : ℕ) → k < length (nodes T) → length (node_at (nodes T) k).path ≤ 8) → Numbers rows parents l.signals T
      numbers-hold parts =
          record {
            few-cats = S.listing.few-categories;
            all-signals = S.listing.signals;
            few-signals = S.listing.few-signals;
            few-nodes = numbering.few-nodes;
            few-parts = parts;
            packed = P.packed refl;
            parent-at = λ k i p x e.
                let w = N.parent k (omega (arith, i, count)) in
                let s : w.0 ≡ p = snoc-injective w.0 p w.1 x (sym w.2 ∙ e) in
                number-as (node_at (nodes T) k).cat w.0 (get_or parents k 0) w.3 ∙ ap (number (nodes T) (node_at (nodes T) k).cat) s;
          }

      -- the answer to an accepted table
      pub means-accepted : (shared : List ℕ) → SharedIn t cats at len shared (min n most_nodes)
          → (inner : List Bool) → ((k : ℕ) → k < most_nodes → get_or inner k false ≡ not (childless parents (k + 1) (min n most_nodes)))
          → DecodedAs t (record {
            categories = l.categories;
            signals = l.signals;
            nodes = n;
            name_at = name_at;
            name_len = name_len;
            category = cats;
            parent = parents;
            at = at;
            len = len;
            shared = shared;
            inner = inner;
            rows = rows;
          })
      means-accepted shared si inner marked =
          let few : n ≡ min n most_nodes = min-le n most_nodes A.few in
          let zero_is : table_refusal t ≡ 0 = S.refusal ∙ sym P.refusal in
          let acc = accepted t zero_is in
          record {
            refusal = zero_is;
            holds = record {
              categories = sym S.cats;
              names = names_in;
              nodes = nodes-in;
              shared = shared_of_lem t cats at len shared (sym few) si;
              inner = λ i k.
                  marked i (omega (arith, count, A.few)) ∙ ap (λ m. not (childless parents (i + 1) m)) (sym few)
                  ∙ sym (inner-is t cats at len n T nodes-in rows parents l.signals (numbers-hold (node-parts T acc)) i (omega (arith, count)));
              numbers = numbers-hold (node-parts T acc);
              well-formed = acc.well;
            };
            past = record {
              name-at = S.past-at;
              name-len = S.past-len;
              category = N.past-cats;
              parent = N.past-parents;
              at = N.past-at;
              len = N.past-len;
              inner = λ k a b.
                  marked k b ∙ ap (λ m. not (childless parents (k + 1) m)) (sym few) ∙ ap not (childless-past (k + 1) n (omega arith) (omega (arith, a)));
              rows = P.past refl;
            };
          }
