-- The answers by the arrays of a well-formed table, with the rows of the available signals, are the theory's.
use Prim.Native.Nat.{ℕ, suc, ◌-◌, ◌*◌, ◌/◌, ◌%◌, ◌≤◌, ◌<◌}
use mathlib.Core.Path.{◌≡◌, refl, sym, ap, ap₂, subst, ◌∙◌}
use mathlib.Core.Bool.{Bool, true, false, cond, true≢false}
use mathlib.Core.Option.{Option}
use mathlib.Core.List.{List, [], ◌∷◌, ◌++◌, map}
use lib.Dec.{eqb, ltb}
use lib.ListN.{get_or, length}
use borrow.Author.Tests.{eqb-true, ne_eqb, lt-ltb, le-ltb}
use native.Mathlib.Omega.{arith}
use Rattle.base_numbers.specs.Numbers.{most_nodes, most_signals}
use Rattle.base_lists.proofs.Lists.{eqb-exact, mem-at, member_of, index-member}
use Rattle.base_lists.specs.Lists.{member_by, index_by}
use Rattle.theory_resolution.specs.Table.{Urn, urn, Table, Row}
use Rattle.theory_resolution.specs.Nodes.{same_urn, nodes, node_at}
use Rattle.theory_resolution.specs.Discovery.{discover}
use Rattle.theory_resolution.specs.Direct.{Env}
use Rattle.theory_resolution.specs.Available.{find_available, env_available}
use Rattle.theory_resolution.proofs.Nodes.{urn-exact, node-to}
use Rattle.theory_resolution.proofs.Available.{available-live, available-laws, found_in}
use Rattle.theory_kept.specs.Kept.{rung_available}
use Rattle.theory_kept.specs.Way.{way_to}
use Rattle.theory_kept.specs.Decision.{may_precede, any_mark, reachable, marks_to, first_loss, keeps, shown}
use Rattle.node_step.specs.Step.{reaches}
use Rattle.table_kept.specs.declared.found.Found.{Found}
use Rattle.table_kept.specs.Marks.{precedes, next_by, next_in, loss_at, rings_at, numbers_of}
use Rattle.table_kept.specs.Held.{signals_in}
use Rattle.table_kept.proofs.SearchLaws.{in-length}
use Rattle.table_kept.proofs.Right.{Arrays, Stored, precedes-right, reachable-same, few-found, way-numbers, loss-same, low, rings-same, nodes-same}
use Rattle.table_decode.specs.Tables.{table_refusal, table_of}
use Rattle.table_decode.specs.Decoded.{Holds}
use Rattle.node_search.specs.declared.decoded.Decoded.{Decoded}
use Rattle.table_decode.proofs.Accepting.{accepted}
use Rattle.resolve_available.specs.Available.{has_bit}
use Rattle.resolve_available.specs.Rows.{rows_among, among}
use Rattle.resolve_available.proofs.RowLaws.{only-searched}
use Rattle.table_kept.specs.declared.kept.Kept.{Kept}
use Rattle.table_kept.specs.declared.rung.Rung.{Rung}
use Rattle.table_kept.specs.Answers.{refused_rung, kept_answer, lost_answer, kept_in, rung_answer, rung_in}

-- a signal's number is below the length exactly if it is there
index-test : (s : ℕ) (l : List ℕ) → ltb (index_by eqb s l) (length l) ≡ member_by eqb s l
index-test s l = go (member_by eqb s l) refl
  where
    absent : (l : List ℕ) → member_by eqb s l ≡ false → length l ≤ index_by eqb s l
    absent [] e = omega arith
    absent (x ∷ l) e = by (eqb s x) refl (absent l)
      where
        by : (b : Bool) → eqb s x ≡ b → (member_by eqb s l ≡ false → length l ≤ index_by eqb s l) → length (x ∷ l) ≤ index_by eqb s (x ∷ l)
        by true i ih = let z : true ≡ false = rw i at e in absurd (true≢false z)
        by false i ih = let z : member_by eqb s l ≡ false = rw i at e in rw i (omega (arith, ih z))

    go : (b : Bool) → member_by eqb s l ≡ b → ltb (index_by eqb s l) (length l) ≡ b
    go true e = lt-ltb (index_by eqb s l) (length l) (index-member eqb eqb-exact 0 s l e).0
    go false e = le-ltb (index_by eqb s l) (length l) (absent l e)

-- a well-formed table, decoded, with the rows of the available signals
module _ (t : List ℕ) (formed : table_refusal t ≡ 0) (d : Decoded) (h : Holds t (table_of t) d) (set : ℕ) (a : Decoded)
    (is : a ≡ among (rows_among (has_bit set) d.rows) d) where
  abbrev T : Table
  T = table_of t

  abbrev finder : Row → Option ℕ
  finder = find_available T (has_bit set)

  abbrev env : Env
  env = env_available T (has_bit set)

  arrays : Arrays d.rows a.rows a.parent a.inner a.category a.signals T finder
  arrays =
      subst (λ (x : Decoded). Arrays d.rows x.rows x.parent x.inner x.category x.signals T finder) (sym is)
      (record {
        well = h.well-formed;
        numbers = h.numbers;
        inners = h.inner;
        cat-at = λ i l. h.nodes.cat-at i (omega (arith, h.nodes.all-nodes));
        known = λ i l.
            let u = node_at (nodes T) i in
            let n = node-to T u.cat u.path (member_of same_urn urn-exact u (nodes T) (mem-at (nodes T) i (urn 0 []) l)) in
            omega (arith, (accepted t formed).known n.signal n.listed n.by n.named, n.cat);
        laws = available-laws T (has_bit set) h.well-formed;
        searched = only-searched (has_bit set) h.numbers;
        live = available-live T (has_bit set) h.well-formed;
        listed = λ r s e. (found_in T (has_bit set) r s e).0.0;
      })

  all-nodes : length (nodes T) ≡ a.nodes
  all-nodes = h.nodes.all-nodes ∙ sym (ap (λ (x : Decoded). x.nodes) is)

  pub few-nodes : a.nodes ≤ most_nodes
  few-nodes = omega (arith, all-nodes, h.nodes.all-nodes, h.nodes.few-nodes)

  pub few-signals : a.signals ≤ most_signals
  few-signals = arrays.numbers.few-signals

  pub same_nodes : a.nodes ≡ d.nodes
  same_nodes = ap (λ (x : Decoded). x.nodes) is

  -- targets that are stored, by the nodes that may be given
  module _ (may : Urn → Bool) (allowed : List Bool) (test : (k : ℕ) → k < a.nodes → get_or allowed k false ≡ may (node_at (nodes T) k))
      (all : List ℕ) (targets : (i : ℕ) → i < a.signals * most_nodes
      → get_or all i 0 ≡ next_by a.rows a.parent a.category a.signals allowed (i / most_nodes) (i % most_nodes)) where
    pub stored : Stored d.rows a.rows a.parent a.category a.signals T may all
    stored = record { allowed = allowed; test = λ k l. test k (omega (arith, all-nodes)); targets = targets }

    pub few : (j : ℕ) → length (discover eqb (next_in all) a.nodes 0 j) ≤ most_signals
    few j =
        omega (
          arith,
          ap (λ n. length (discover eqb (next_in all) n 0 j)) all-nodes,
          few-found d.rows a.rows a.parent a.inner a.category a.signals T finder arrays may all stored j,
        )

    -- the signals found
    module _ (f : Found) (e : signals_in f ≡ discover eqb (next_in all) a.nodes 0 a.signals) where
      pub found-is : signals_in f ≡ reachable T env may
      found-is =
          e ∙ ap (λ n. discover eqb (next_in all) n 0 a.signals) (sym all-nodes)
          ∙ reachable-same d.rows a.rows a.parent a.inner a.category a.signals T finder arrays may all stored

      pub count-is : f.count ≡ length (reachable T env may)
      count-is = sym (in-length f) ∙ ap length found-is

      -- the way to one of them
      pub way-is : {ns : List ℕ} (j : ℕ) → ns ≡ map suc (way_to eqb (next_in all) a.nodes 0 (signals_in f) j)
          → ns ≡ map suc (way_to eqb (next_in all) (length (nodes T)) 0 (reachable T env may) j)
      way-is j i = i ∙ ap₂ (λ n l. map suc (way_to eqb (next_in all) n 0 l j)) (sym all-nodes) found-is

  -- one node
  module _ (node : ℕ) (some : 0 < node) (in_array : node ≤ d.nodes) {c : ℕ} (its : c ≡ get_or a.category (node - 1) 0) where
    abbrev u : Urn
    u = node_at (nodes T) (node - 1)

    in_table : node - 1 < length (nodes T)
    in_table = omega (arith, all-nodes, same_nodes)

    own : suc (node - 1) ≡ node
    own = omega arith

    category : c ≡ u.cat
    category = its ∙ arrays.cat-at (node - 1) in_table

    pub may-test : (allowed : List Bool) → ((k : ℕ) → k < a.nodes → get_or allowed k false ≡ precedes a.parent a.category c node k)
        → (k : ℕ) → k < a.nodes → get_or allowed k false ≡ may_precede u.cat u.path (node_at (nodes T) k)
    may-test allowed e k l =
        e k l ∙ ap₂ (λ x y. precedes a.parent a.category x y k) category (sym own)
        ∙ precedes-right d.rows a.rows a.parent a.inner a.category a.signals T finder arrays (node - 1) in_table k (omega (arith, all-nodes))

    -- there is room for what is found before it
    pub few-before : (allowed : List Bool) → ((k : ℕ) → k < a.nodes → get_or allowed k false ≡ precedes a.parent a.category c node k)
        → (all : List ℕ) → ((i : ℕ) → i < a.signals * most_nodes → get_or all i 0 ≡ next_by a.rows a.parent a.category a.signals
        allowed (i / most_nodes) (i % most_nodes))
        → (j : ℕ) → length (discover eqb (next_in all) a.nodes 0 j) ≤ most_signals
    few-before allowed test all targets = few (may_precede u.cat u.path) allowed (may-test allowed test) all targets

    module _ (allowed : List Bool) (test : (k : ℕ) → k < a.nodes → get_or allowed k false ≡ precedes a.parent a.category c node k)
        (all : List ℕ) (targets : (i : ℕ) → i < a.signals * most_nodes
        → get_or all i 0 ≡ next_by a.rows a.parent a.category a.signals allowed (i / most_nodes) (i % most_nodes))
        (f : Found) (e : signals_in f ≡ discover eqb (next_in all) a.nodes 0 a.signals)
        {i j : ℕ} (wide : i ≡ c) (loss : j ≡ loss_at a.rows a.signals (signals_in f) i node) where
      abbrev st : Stored d.rows a.rows a.parent a.category a.signals T (may_precede u.cat u.path) all
      st = stored (may_precede u.cat u.path) allowed (may-test allowed test) all targets

      abbrev l : List ℕ
      l = reachable T env (may_precede u.cat u.path)

      list-is : signals_in f ≡ l
      list-is = found-is (may_precede u.cat u.path) allowed (may-test allowed test) all targets f e

      many_is : f.count ≡ length l
      many_is = count-is (may_precede u.cat u.path) allowed (may-test allowed test) all targets f e

      cat-is : i ≡ u.cat
      cat-is = wide ∙ category

      at : j ≡ first_loss T env u.cat u.path
      at =
          loss ∙ ap₂ (λ z x. loss_at a.rows a.signals z x node) list-is cat-is ∙ ap (loss_at a.rows a.signals l u.cat) (sym own)
          ∙ loss-same d.rows a.rows a.parent a.inner a.category a.signals T finder arrays (node - 1) in_table all st

      by-test : (b : Bool) → keeps T env u.cat u.path ≡ b
          → cond b kept_answer (lost_answer (rung_available T (has_bit set) (shown T env u.cat u.path))
          (numbers_of T (shown T env u.cat u.path))) ≡ kept_in T (has_bit set) u
      unfolding kept_in
      by-test b k =
          sym (ap (λ x. cond x kept_answer (lost_answer (rung_available T (has_bit set) (shown T env u.cat u.path))
          (numbers_of T (shown T env u.cat u.path)))) k)

      pub kept-right : {x : Kept} → f.count ≤ j → x ≡ kept_answer → x ≡ kept_in T (has_bit set) u
      kept-right h k = k ∙ by-test true (go (keeps T env u.cat u.path) refl)
        where
          go : (b : Bool) → keeps T env u.cat u.path ≡ b → keeps T env u.cat u.path ≡ true
          go true e = e
          go false e =
              absurd (omega (
                arith,
                at,
                many_is,
                low d.rows a.rows a.parent a.inner a.category a.signals T finder arrays (node - 1) in_table all st e,
              ))

      pub lost-right : {s r : ℕ} {ns : List ℕ} {x : Kept} → j < f.count → s ≡ get_or (signals_in f) j 0
          → r ≡ rings_at a.rows a.parent a.inner a.signals s i node
          → ns ≡ map suc (way_to eqb (next_in all) a.nodes 0 (signals_in f) j) → x ≡ lost_answer r (ns ++ node ∷ []) → x ≡ kept_in T (has_bit set) u
      lost-right {s} {r} {ns} h es er en ex = ex ∙ ap₂ lost_answer rings-is nodes-is ∙ by-test false lost
        where
          lost : keeps T env u.cat u.path ≡ false
          lost = go (keeps T env u.cat u.path) refl
            where
              go : (b : Bool) → keeps T env u.cat u.path ≡ b → keeps T env u.cat u.path ≡ false
              go false e = e
              go true e = absurd (omega (arith, at, many_is, h, eqb-true (first_loss T env u.cat u.path) (length l) e))

          rings-is : r ≡ rung_available T (has_bit set) (shown T env u.cat u.path)
          rings-is =
              er ∙ ap₂ (λ y z. rings_at a.rows a.parent a.inner a.signals y z node) (es ∙ ap₂ (λ z k. get_or z k 0) list-is at) cat-is
              ∙ ap (rings_at a.rows a.parent a.inner a.signals (get_or l (first_loss T env u.cat u.path) 0) u.cat) (sym own)
              ∙ rings-same d.rows a.rows a.parent a.inner a.category a.signals T finder arrays (node - 1) in_table all st lost

          nodes-is : ns ++ node ∷ [] ≡ numbers_of T (shown T env u.cat u.path)
          nodes-is =
              ap₂ (λ y z. y ++ z ∷ [])
              (way-is (may_precede u.cat u.path) allowed (may-test allowed test) all targets f e j en
              ∙ ap (λ k. map suc (way_to eqb (next_in all) (length (nodes T)) 0 l k)) at) (sym own)
              ∙ nodes-same d.rows a.rows a.parent a.inner a.category a.signals T finder arrays (node - 1) in_table all st lost

  -- one signal: no category has the number 8
  pub any-test : (allowed : List Bool) → ((k : ℕ) → k < a.nodes → get_or allowed k false ≡ precedes a.parent a.category 8 0 k)
      → (k : ℕ) → k < a.nodes → get_or allowed k false ≡ any_mark (node_at (nodes T) k)
  unfolding precedes
  any-test allowed e k j =
      let i : k < length (nodes T) = omega (arith, all-nodes) in
      let f = arrays.numbers.few-cats in
      e k j ∙ ap (λ b. cond b (reaches a.parent (suc k) 9 0) true) (ne_eqb (get_or a.category k 0) 8 (λ z. omega (
        arith,
        z,
        arrays.cat-at k i,
        arrays.known k i,
      )))

  pub few-any : (allowed : List Bool) → ((k : ℕ) → k < a.nodes → get_or allowed k false ≡ precedes a.parent a.category 8 0 k)
      → (all : List ℕ) → ((i : ℕ) → i < a.signals * most_nodes → get_or all i 0 ≡ next_by a.rows a.parent a.category a.signals
      allowed (i / most_nodes) (i % most_nodes))
      → (j : ℕ) → length (discover eqb (next_in all) a.nodes 0 j) ≤ most_signals
  few-any allowed test all targets = few any_mark allowed (any-test allowed test) all targets

  module _ (allowed : List Bool) (test : (k : ℕ) → k < a.nodes → get_or allowed k false ≡ precedes a.parent a.category 8 0 k)
      (all : List ℕ) (targets : (i : ℕ) → i < a.signals * most_nodes
      → get_or all i 0 ≡ next_by a.rows a.parent a.category a.signals allowed (i / most_nodes) (i % most_nodes))
      (f : Found) (e : signals_in f ≡ discover eqb (next_in all) a.nodes 0 a.signals) (s : ℕ) {j : ℕ} (number : j
      ≡ index_by eqb s (signals_in f)) where
    abbrev m : List ℕ
    m = reachable T env any_mark

    ring-list : signals_in f ≡ m
    ring-list = found-is any_mark allowed (any-test allowed test) all targets f e

    ring-at : j ≡ index_by eqb s m
    ring-at = number ∙ ap (index_by eqb s) ring-list

    ring-test : (b : Bool) → ltb j f.count ≡ b → cond b (rung_answer (numbers_of T (marks_to T env any_mark (index_by eqb s m))))
        (refused_rung 0) ≡ rung_in T (has_bit set) s
    unfolding rung_in
    ring-test b k =
        ap (λ x. cond x (rung_answer (numbers_of T (marks_to T env any_mark (index_by eqb s m)))) (refused_rung 0))
        (sym k ∙ ap₂ ltb ring-at (count-is any_mark allowed (any-test allowed test) all targets f e) ∙ index-test s m)

    pub rung-right : {ns : List ℕ} {x : Rung} → j < f.count → ns ≡ map suc (way_to eqb (next_in all) a.nodes 0 (signals_in f) j)
        → x ≡ rung_answer ns → x ≡ rung_in T (has_bit set) s
    rung-right h en ex =
        ex
        ∙ ap rung_answer
        (way-is any_mark allowed (any-test allowed test) all targets f e j en ∙ ap (λ k. map suc (way_to eqb (next_in all) (length (nodes T)) 0 m k)) ring-at
        ∙ way-numbers d.rows a.rows a.parent a.inner a.category a.signals T finder arrays any_mark all
        (stored any_mark allowed (any-test allowed test) all targets) (index_by eqb s m)
        (omega (arith, h, ring-at, count-is any_mark allowed (any-test allowed test) all targets f e)))
        ∙ ring-test true (lt-ltb j f.count h)

    pub silent-right : {x : Rung} → f.count ≤ j → x ≡ refused_rung 0 → x ≡ rung_in T (has_bit set) s
    silent-right h ex = ex ∙ ring-test false (le-ltb j f.count h)
