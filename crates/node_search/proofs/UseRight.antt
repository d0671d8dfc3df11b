-- The code's use of a URI is the used URN's deepest node, with the bytes compared to find it.
use Prim.Native.Nat.{ℕ, zero, suc, ◌+◌, ◌-◌, ◌≤◌, ◌<◌, min}
use mathlib.Core.Path.{◌≡◌, refl, sym, ap, ap₂, ◌∙◌}
use mathlib.Core.Logic.{inl, inr}
use mathlib.Core.Bool.{Bool, true, false, cond, not, ◌&&◌, ◌||◌, and-false, and-eq-true_iff}
use mathlib.Core.Option.{none, some}
use mathlib.Core.List.{List, [], ◌∷◌, ◌++◌, append-nil}
use lib.Dec.{eqb, ltb, leb}
use borrow.Author.Tests.{eqb-true, eq-eqb, ne_eqb, ltb-true, lt-leb, leb-true, leb-false}
use lib.ListN.{length, get_or, drop, length-append, drop_of_length-le}
use lib.Seq.{drop-cons}
use native.Mathlib.Omega.{arith}
use native.Mathlib.Decide.{ℕ_discrete}
use native.Mathlib.Nat.{add-zero, zero-add}
use native.Mathlib.Numerals.{add-one}
use Rattle.base_numbers.specs.Numbers.{most_nodes}
use Rattle.base_lists.proofs.Numbers.{min-le}
use Rattle.base_lists.proofs.Bools.{by_test}
use Rattle.base_lists.specs.Cuts.{up_to, past, stretch}
use Rattle.base_lists.proofs.Lists.{member_of, mem-at}
use Rattle.base_lists.specs.Lists.{member_by, index_by}
use Rattle.theory_resolution.specs.Names.{Name, Parts, same_name, same_parts, below, Above, some_below}
use Rattle.theory_resolution.proofs.Names.{some-above, above-some}
use Rattle.theory_resolution.specs.Table.{Urn, urn, Table}
use Rattle.theory_resolution.specs.Nodes.{same_urn, nodes, is_node, RootOrNode, has_under, is_root, leaf, deepest, number, node_at}
use Rattle.theory_resolution.proofs.Nodes.{urn-exact}
use Rattle.theory_resolution.proofs.Numbers.{number-node, number-at, root-number, ancestor-le}
use Rattle.theory_resolution.proofs.Deepest.{deep-above, deep-most, leaf-ends, deepest-node}
use Rattle.base_text.specs.Text.{fields, text_of, covers, common, compared_bytes, lowered}
use Rattle.base_text.specs.Words.{common_next}
use Rattle.urn_names.specs.Urn.{alert_urn}
use Rattle.base_text.proofs.Fields.{fields-first, same-fields, text-fields}
use Rattle.base_text.proofs.Cases.{lowered-drop, lowered-twice}
use Rattle.base_text.proofs.LetterCase.{lowered-exactly}
use Rattle.urn_names.proofs.Cases.{alert-case}
use Rattle.base_text.proofs.Turns.{covers-level, covers-not, covers-ends, common-three, common-le, next-lesser}
use Rattle.node_search.specs.declared.uses.Search.{Search}
use Rattle.std.specs.Prelude.{Some, None}
use Rattle.node_search.specs.Uses.{used_urn, CaseIgnored, compared_over, use_of}
use Rattle.node_search.specs.Search.{find_name, nothing, covers_by, met_with, counted_in, look_by, look_at, search_from, found_in, used_by, uses_of}
use Rattle.node_search.specs.Arrays.{NamesIn, NodesIn, last_path, SharedIn, InnerIn}

-- the names
names-right : (t s na nl : List ℕ) (ns : List Name) (i : ℕ)
    → ((k : ℕ) → k < length ns → stretch t na nl (i + k) ≡ get_or ns k [])
    → find_name t na nl s i (length ns) ≡ cond (member_by same_name s ns) (Some (i + index_by same_name s ns)) None
unfolding find_name
names-right t s na nl [] i h = refl
names-right t s na nl (x ∷ ns) i h =
    go (same_name s x) refl (names-right t s na nl ns (suc i) (λ k l. let j : suc i + k ≡ i + suc k = omega arith in rw j (h (suc k) (omega arith))))
  where
    first : stretch t na nl i ≡ x
    first = rw (add-zero i) at (h 0 (omega arith))

    shift : (b : Bool) (k : ℕ) → cond b (Some (suc i + k)) None ≡ cond b (Some (i + suc k)) None
    shift true k = ap Some (omega arith)
    shift false k = refl

    go : (b : Bool) → same_name s x ≡ b → find_name t na nl s (suc i) (length ns) ≡ cond (member_by same_name s ns) (Some (suc i + index_by same_name s ns)) None
        → cond (same_name s (stretch t na nl i)) (Some i) (find_name t na nl s (i + 1) (length ns))
        ≡ cond (same_name s x || member_by same_name s ns) (Some (i + cond (same_name s x) zero (suc (index_by same_name s ns)))) None
    go true e ih = rw (first, e) (ap Some (sym (add-zero i)))
    go false e ih = rw (first, e, add-one i) (ih ∙ shift (member_by same_name s ns) (index_by same_name s ns))

-- the last that passes
module _ (test : ℕ → Bool) where
  -- one more than the number of the last of n that passes the test, or 0
  unfoldable pub last : ℕ → ℕ
  last zero = 0
  last (suc n) = cond (test n) (suc n) (last n)

  last_none : (n : ℕ) → ((k : ℕ) → k < n → test k ≡ false) → last n ≡ 0
  unfolding last
  last_none zero h = refl
  last_none (suc n) h = rw (h n (omega arith)) (last_none n (λ k a. h k (omega arith)))

  last-is : (n m : ℕ) → m < n → test m ≡ true → ((k : ℕ) → m < k → k < n → test k ≡ false) → last n ≡ suc m
  unfolding last
  last-is zero m a e h = absurd (omega arith)
  last-is (suc n) m a e h = go (ℕ_discrete n m) (λ l. last-is n m l e (λ k p q. h k p (omega arith)))
    where
      go : Dec (n ≡ m) → (m < n → last n ≡ suc m) → cond (test n) (suc n) (last n) ≡ suc m
      go (yes j) ih = let e' : test n ≡ true = rw j e in rw e' (omega arith)
      go (no j) ih = rw (h n (omega arith) (omega arith)) (ih (omega arith))

  last-here : (n : ℕ) → test n ≡ true → last (suc n) ≡ suc n
  unfolding last
  last-here n e = rw e

  last-before : (n : ℕ) → test n ≡ false → last (suc n) ≡ last n
  unfolding last
  last-before n e = rw e

-- the deepest node, by the array
module _ (t : List ℕ) (tb : Table) (ca pos len : List ℕ) (n : ℕ) (ni : NodesIn t ca pos len n tb) (c : ℕ) (w : List ℕ) where
  abbrev ns : List Urn
  ns = nodes tb

  abbrev u : Parts
  u = fields 58 w

  abbrev d : Parts
  d = deepest (nodes tb) c (fields 58 w)

  -- node k + 1 is of category c, and is w or above it
  unfoldable passed : ℕ → Bool
  passed k = eqb (get_or ca k 0) c && covers (stretch t pos len k) w

  -- node k is w; the root is no URN
  unfoldable whole_at : ℕ → Bool
  whole_at k = cond (eqb k 0) false (same_name (stretch t pos len (k - 1)) w)

  pass-is : (k : ℕ) → k < n → passed k ≡ (eqb (node_at ns k).cat c && some_below (below (node_at ns k).path u))
  unfolding passed covers
  pass-is k h =
      ap₂ ◌&&◌ (ap (λ z. eqb z c) (ni.cat-at k h))
      (ap (λ z. some_below (below z u)) (ni.path-at k h))

  -- a node that passes is above the URN, and has its number
  passes : (k : ℕ) → k < n → passed k ≡ true
      → (is_node ns c (node_at ns k).path ≡ true) × Above (node_at ns k).path u × (number ns c (node_at ns k).path ≡ suc k)
  passes k h e =
      let both = (and-eq-true_iff (eqb (node_at ns k).cat c) (some_below (below (node_at ns k).path u))).0 (sym (pass-is k h) ∙ e) in
      let i = eqb-true (node_at ns k).cat c both.0 in
      let l : k < length (nodes tb) = omega (arith, ni.all-nodes) in (
        ap (λ z. is_node ns z (node_at ns k).path) (sym i) ∙ member_of same_urn urn-exact (node_at ns k) ns (mem-at ns k (urn 0 []) l),
        some-above (node_at ns k).path u both.1,
        ap (λ z. number ns z (node_at ns k).path) (sym i) ∙ number-at tb k l,
      )

  -- and is above the deepest node
  low : (k : ℕ) → k < n → passed k ≡ true → suc k ≤ number ns c d
  low k h e =
      let p = passes k h e in
      let a = deep-most ns c (node_at ns k).path u p.0 p.1 in
      omega (arith, ancestor-le tb c (node_at ns k).path d a (deepest-node ns c u), p.2)

  quiet : (k : ℕ) → k < n → number ns c d ≤ k → passed k ≡ false
  quiet k h l = go (passed k) refl
    where
      go : (b : Bool) → passed k ≡ b → b ≡ false
      go false e = refl
      go true e = absurd (omega (arith, low k h e))

  node-right : last passed n ≡ number ns c d
  node-right = go (deepest-node ns c u)
    where
      go : RootOrNode (nodes tb) c d → last passed n ≡ number ns c d
      go (inl e) =
          let z : number ns c d ≡ 0 = ap (number ns c) e ∙ root-number tb c in
          last_none passed n (λ k a. quiet k a (omega arith)) ∙ sym z
      go (inr e) =
          let m = number-node ns c d e in
          let l : m.0 < n = omega (arith, m.1, ni.all-nodes) in
          last-is passed n m.0 l
          (pass-is m.0 l ∙ ap (λ x. eqb x.cat c && some_below (below x.path u)) m.3
          ∙ ap₂ ◌&&◌ (eq-eqb c c refl) (above-some d u (deep-above ns c u)))
          (λ k a b. quiet k b (omega (arith, m.2)))
          ∙ sym m.2

  whole-right : whole_at (number ns c d) ≡ same_parts d u
  unfolding whole_at
  whole-right = go (deepest-node ns c u)
    where
      go : RootOrNode (nodes tb) c d → cond (eqb (number ns c d) 0) false (same_name (stretch t pos len (number ns c d - 1)) w) ≡ same_parts d u
      go (inl e) = rw (eq-eqb (number ns c d) 0 (ap (number ns c) e ∙ root-number tb c))
          (sym (ap (λ z. same_parts z u) e ∙ ap (same_parts []) (fields-first 58 w).1))
      go (inr e) =
          let m = number-node ns c d e in
          let l : m.0 < n = omega (arith, m.1, ni.all-nodes) in
          let i : number ns c d - 1 ≡ m.0 = omega (arith, m.2) in
          rw (ne_eqb (number ns c d) 0 (λ z. omega (arith, m.2)), i)
          (sym (same-fields 58 (stretch t pos len m.0) w)
          ∙ ap (λ z. same_parts z u) (ni.path-at m.0 l ∙ ap (λ x. x.path) m.3))

  whole-node : (i : ℕ) → covers (stretch t pos len i) w ≡ true → eqb (length (stretch t pos len i)) (length w) ≡ whole_at (suc i)
  unfolding whole_at
  whole-node i e =
      let j : suc i - 1 ≡ i = omega arith in
      covers-level (stretch t pos len i) w e ∙ sym (rw (ne_eqb (suc i) 0 (λ z. omega arith), j))

  -- a leaf that passes is the deepest node
  leaf-deepest : (i : ℕ) → i < n → passed i ≡ true → leaf ns c (node_at ns i).path ≡ true → number ns c d ≡ suc i
  leaf-deepest i h e f =
      let p = passes i h e in
      go (deep-most ns c (node_at ns i).path u p.0 p.1) p.2
    where
      go : Above (node_at ns i).path d → number ns c (node_at ns i).path ≡ suc i → number ns c d ≡ suc i
      go a q = by a.rest a.joined (deepest-node ns c u)
        where
          by : (r : Parts) → (node_at ns i).path ++ r ≡ d → RootOrNode ns c d → number ns c d ≡ suc i
          by [] j k = ap (number ns c) (sym j ∙ append-nil (node_at ns i).path) ∙ q
          by (x ∷ r) j (inl k) = absurd (omega (arith, length-append (node_at ns i).path (x ∷ r), ap length (j ∙ k)))
          by (x ∷ r) j (inr k) = absurd (leaf-ends ns c (node_at ns i).path x r f (ap (is_node ns c) j ∙ k))

  -- the search by the arrays: the deepest node, whether it is the URN, and the bytes compared
  module _ (sh : List ℕ) (si : SharedIn t ca pos len sh n) (inner : List Bool) (ii : InnerIn inner tb) where
    abbrev look : ℕ → Search → Search
    look i s = look_at t ca pos len sh inner c w i s

    abbrev from : ℕ → ℕ → Search → Search
    from i k s = search_from t ca pos len sh inner c w i k s

    abbrev met : ℕ → Search → Search
    met i s = met_with (stretch t pos len i) w (get_or inner i false) (i + 1) (common (stretch t pos len i) w) s

    -- what the last node of the category before i has in common with the URN
    abbrev same_before : ℕ → ℕ
    same_before i = common (last_path t ca pos len c i) w

    same_here : (i : ℕ) → eqb (get_or ca i 0) c ≡ true → common (stretch t pos len i) w ≡ same_before (i + 1)
    unfolding last_path
    same_here i e = rw (add-one i, e)

    same-other : (i : ℕ) → eqb (get_or ca i 0) c ≡ false → same_before i ≡ same_before (i + 1)
    unfolding last_path
    same-other i e = rw (add-one i, e)

    -- a path that shares more with the one before than that has in common with the URN
    counted_is : (a p : List ℕ) (b : Bool) (k : ℕ) (s : Search) → s.same ≡ common a w → s.same < common a p → counted_in s ≡ met_with p w b k (common p w) s
    unfolding met_with covers_by
    counted_is a p b k s e h =
        let m : common p w ≡ s.same = sym (common-three a p w) ∙ sym (next-lesser p w (common a w) (common a p) (λ q. omega (arith, e)) (omega (arith, e))) in
        let long = common-le a p in
        let f : leb (length p) s.same ≡ false = lt-leb (length p) s.same (omega arith) in
        let g : min (length p) (s.same + 1) ≡ s.same + 1 = omega arith in
        sym (rw (m, f, g))

    look_is : (i : ℕ) → i < n → (s : Search) → s.same ≡ same_before i → eqb (get_or ca i 0) c ≡ true → look i s ≡ met i s
    unfolding look_at look_by
    look_is i h s e x =
        let l : get_or sh i 0 ≡ common (last_path t ca pos len c i) (stretch t pos len i) =
        si i h ∙ ap (λ z. common (last_path t ca pos len z i) (stretch t pos len i)) (eqb-true (get_or ca i 0) c x) in
        rw x (by_test (ltb s.same (get_or sh i 0))
        (λ q. rw q (counted_is (last_path t ca pos len c i) (stretch t pos len i) (get_or inner i false) (i + 1) s e (omega (
          arith,
          l,
          ltb-true s.same (get_or sh i 0) q,
        ))))
        (λ q. rw q (ap (λ z. met_with (stretch t pos len i) w (get_or inner i false) (i + 1) z s)
        (ap₂ (common_next (stretch t pos len i) w) e l ∙ common-three (last_path t ca pos len c i) (stretch t pos len i) w))))

    abbrev Right : Search → ℕ → Type 0
    Right r m = (r.node ≡ last passed n) × (r.whole ≡ whole_at (last passed n)) × (r.compared ≡ m)

    right_by : {r r' : Search} {m m' : ℕ} → r ≡ r' → m' ≡ m → Right r' m' → Right r m
    right_by p q x = (ap (λ (z : Search). z.node) p ∙ x.0, ap (λ (z : Search). z.whole) p ∙ x.1, ap (λ (z : Search). z.compared) p ∙ x.2 ∙ q)

    turn : (i k : ℕ) (s : Search) {r : Search} → look i s ≡ r → (b : Bool) → r.ends ≡ b → from i (suc k) s ≡ cond b r (from (i + 1) k r)
    unfolding search_from
    turn i k s {r} e b f = ap (λ (x : Search). cond x.ends x (from (i + 1) k x)) e ∙ ap (λ z. cond z r (from (i + 1) k r)) f

    by-common : (p : List ℕ) → covers_by p w (common p w) ≡ covers p w
    unfolding covers_by
    by-common p =
        by_test (leb (length p) (common p w))
        (λ e. rw e (sym (covers-ends p w refl (leb-true (length p) (common p w) e))))
        (λ e. rw e (sym (covers-not p w refl (leb-false (length p) (common p w) e))))

    over-other : (x : Urn) (l : List Urn) → eqb x.cat c ≡ false → compared_over ns c u (x ∷ l) ≡ compared_over ns c u l
    unfolding compared_over
    over-other x l e = rw e

    over-node : (x : Urn) (l : List Urn) (p : List ℕ) → eqb x.cat c ≡ true → fields 58 p ≡ x.path → (b : Bool) → leaf ns c x.path && covers p w ≡ b
        → compared_over ns c u (x ∷ l) ≡ compared_bytes p w + cond b 0 (compared_over ns c u l)
    unfolding compared_over covers
    over-node x l p e f b g =
        let q : text_of x.path ≡ p = ap text_of (sym f) ∙ text-fields p in
        let v : leaf ns c x.path && some_below (below x.path u) ≡ b = ap (λ z. leaf ns c x.path && some_below (below z u)) (sym f) ∙ g in
        rw (e, q, text-fields w, v)

    leaf-is : (i : ℕ) → i < n → (node_at ns i).cat ≡ c → leaf ns c (node_at ns i).path ≡ not (get_or inner i false)
    unfolding leaf
    leaf-is i h e =
        let l : i < length (nodes tb) = omega (arith, ni.all-nodes) in
        let f = fields-first 58 (stretch t pos len i) in
        let r : is_root (node_at ns i).path ≡ false = ap is_root (sym (ni.path-at i h) ∙ f.1) in
        ap₂ (λ a b. not a && not b) r (ap (λ z. has_under ns z (node_at ns i).path) (sym e) ∙ sym (ii i l))

    search-right : (k i : ℕ) (s : Search) → i + k ≡ n → s.ends ≡ false → s.node ≡ last passed i → s.whole ≡ whole_at (last passed i) → s.same ≡ same_before i
        → Right (from i k s) (s.compared + compared_over ns c u (drop i ns))
    unfolding search_from compared_over compared_bytes look_at met_with passed
    search-right zero i s e f a b g =
        let j : i ≡ n = omega arith in
        let z : compared_over ns c u (drop i ns) ≡ 0 = ap (compared_over ns c u) (drop_of_length-le ns {i = i} (omega (arith, ni.all-nodes))) in
        (a ∙ ap (last passed) j, b ∙ ap (λ z. whole_at (last passed z)) j, omega (arith, z))
    search-right (suc k) i s e f a b g = kind (eqb (get_or ca i 0) c) refl (λ r. search-right k (i + 1) r (omega arith))
      where
        h : i < n
        h = omega arith

        p : List ℕ
        p = stretch t pos len i

        rest : List Urn
        rest = drop (i + 1) ns

        all : drop i ns ≡ node_at ns i ∷ rest
        all = drop-cons ns i (urn 0 []) (omega (arith, ni.all-nodes)) ∙ ap (λ z. node_at ns i ∷ drop z ns) (sym (add-one i))

        Next : Search → Type 0
        Next r = r.ends ≡ false → r.node ≡ last passed (i + 1) → r.whole ≡ whole_at (last passed (i + 1)) → r.same ≡ same_before (i + 1)
            → Right (from (i + 1) k r) (r.compared + compared_over ns c u rest)

        below_none : last passed (suc i) ≡ last passed i → last passed i ≡ last passed (i + 1)
        below_none q = sym q ∙ ap (last passed) (sym (add-one i))

        seen : (v : Bool) → covers p w ≡ v → eqb (get_or ca i 0) c ≡ true → passed i ≡ v
        seen v q x = ap₂ ◌&&◌ x q

        by : (v : Bool) → covers p w ≡ v → covers_by p w (common p w) ≡ v
        by v q = by-common p ∙ q

        inside : (v : Bool) → covers p w ≡ v → (z : Bool) → get_or inner i false ≡ z → eqb (get_or ca i 0) c ≡ true → ((r : Search) → Next r)
            → Right (from i (suc k) s) (s.compared + compared_over ns c u (drop i ns))
        inside false q z y x ih =
            let m : last passed i ≡ last passed (i + 1) = below_none (last-before passed i (seen false q x)) in
            let o : compared_over ns c u (drop i ns) ≡ compared_bytes p w + compared_over ns c u rest =
            ap (compared_over ns c u) all ∙ over-node (node_at ns i) rest p (ap (λ z. eqb z c) (sym (ni.cat-at i h)) ∙ x) (ni.path-at i h)
            false (ap (λ z. leaf ns c (node_at ns i).path && z) q ∙ and-false (leaf ns c (node_at ns i).path)) in
            right_by (turn i k s {r = met i s} (look_is i h s g x) false (rw (by false q))) (omega (arith, o))
            (ih (met i s) (rw (by false q)) (rw (by false q) (a ∙ m)) (rw (by false q) (b ∙ ap whole_at m)) (same_here i x))
        inside true q true y x ih =
            let m : suc i ≡ last passed (i + 1) = sym (last-here passed i (seen true q x)) ∙ ap (last passed) (sym (add-one i)) in
            let cat : (node_at ns i).cat ≡ c = sym (ni.cat-at i h) ∙ eqb-true (get_or ca i 0) c x in
            let o : compared_over ns c u (drop i ns) ≡ compared_bytes p w + compared_over ns c u rest =
            ap (compared_over ns c u) all ∙ over-node (node_at ns i) rest p (ap (λ z. eqb z c) (sym (ni.cat-at i h)) ∙ x) (ni.path-at i h)
            false (ap (λ z. z && covers p w) (leaf-is i h cat ∙ ap not y)) in
            right_by (turn i k s {r = met i s} (look_is i h s g x) false (rw (by true q, y))) (omega (arith, o))
            (ih (met i s) (rw (by true q, y)) (rw (by true q) (add-one i ∙ m)) (rw (by true q) (whole-node i q ∙ ap whole_at m)) (same_here i x))
        inside true q false y x ih =
            let cat : (node_at ns i).cat ≡ c = sym (ni.cat-at i h) ∙ eqb-true (get_or ca i 0) c x in
            let lf : leaf ns c (node_at ns i).path ≡ true = leaf-is i h cat ∙ ap not y in
            let m : suc i ≡ last passed n = sym (leaf-deepest i h (seen true q x) lf) ∙ sym node-right in
            let o : compared_over ns c u (drop i ns) ≡ compared_bytes p w + 0 =
            ap (compared_over ns c u) all ∙ over-node (node_at ns i) rest p (ap (λ z. eqb z c) (sym (ni.cat-at i h)) ∙ x) (ni.path-at i h)
            true (ap₂ ◌&&◌ lf q) in
            right_by (turn i k s {r = met i s} (look_is i h s g x) true (rw (by true q, y))) (omega (arith, o))
            (rw (by true q) (add-one i ∙ m), rw (by true q) (whole-node i q ∙ ap whole_at m), refl)

        kind : (x : Bool) → eqb (get_or ca i 0) c ≡ x → ((r : Search) → Next r) → Right (from i (suc k) s) (s.compared + compared_over ns c u (drop i ns))
        kind false x ih =
            let m : last passed i ≡ last passed (i + 1) = below_none (last-before passed i (rw x)) in
            let o : compared_over ns c u (drop i ns) ≡ compared_over ns c u rest =
            ap (compared_over ns c u) all ∙ over-other (node_at ns i) rest (ap (λ z. eqb z c) (sym (ni.cat-at i h)) ∙ x) in
            right_by (turn i k s {r = s} (rw x refl) false f) (omega (arith, o)) (ih s f (a ∙ m) (b ∙ ap whole_at m) (g ∙ same-other i x))
        kind true x ih = inside (covers p w) refl (get_or inner i false) refl x ih

    pub found_right : found_in c (search_from t ca pos len sh inner c w 0 n nothing) ≡ use_of tb (some (urn c (fields 58 w)))
    unfolding last whole_at last_path common
    found_right =
        let r = search-right n 0 nothing (zero-add n) refl refl refl refl in
        let node : (from 0 n nothing).node ≡ number ns c d = r.0 ∙ node-right in
        let whole : (from 0 n nothing).whole ≡ same_parts d u = r.1 ∙ ap whole_at node-right ∙ whole-right in
        let count : (from 0 n nothing).compared ≡ compared_over ns c u ns = r.2 ∙ zero-add (compared_over ns c u ns) in
        ap Some (λ i. record { category = c; node = node i; whole = whole i; compared = count i })

-- a URN of a category that the table has
used-right : (t : List ℕ) (tb : Table) (ca pos len : List ℕ) (n : ℕ) → NodesIn t ca pos len n tb → (sh : List ℕ)
    → SharedIn t ca pos len sh n → (inner : List Bool) → InnerIn inner tb → (c : ℕ) (w : List ℕ)
    → used_by t ca pos len sh inner n w (Some c) ≡ use_of tb (some (urn c (fields 58 w)))
unfolding used_by
used-right t tb ca pos len n ni sh si inner ii c w =
    ap (λ z. found_in c (search_from t ca pos len sh inner c w 0 z nothing)) few
    ∙ found_right t tb ca pos len n ni c w sh si inner ii
  where
    few : min n most_nodes ≡ n
    few = sym (min-le n most_nodes ni.few-nodes)

-- the use of a URI, by the arrays, is the used URN's
pub uses-right : (t : List ℕ) (tb : Table) (na nl : List ℕ) (k : ℕ) (cs : List Name) (ca pos len : List ℕ) (n : ℕ)
    → NamesIn t na nl k cs → NodesIn t ca pos len n tb → (sh : List ℕ) → SharedIn t ca pos len sh n → (inner : List Bool)
    → InnerIn inner tb → (uri : List ℕ) → uses_of t na nl k ca pos len sh inner n uri ≡ use_of tb (used_urn cs uri)
unfolding uses_of used_urn used_by
uses-right t tb na nl k cs ca pos len n nm ni sh si inner ii uri = go (alert_urn uri)
  where
    name : List ℕ
    name = up_to 58 (lowered (drop 10 uri))

    path : List ℕ
    path = past 58 (lowered (drop 10 uri))

    found : find_name t na nl name 0 (min k 8) ≡ cond (member_by same_name name cs) (Some (index_by same_name name cs)) None
    found =
        let e : min k 8 ≡ length cs = sym (min-le k 8 nm.few-names) ∙ sym nm.all-names in
        ap (find_name t na nl name 0) e
        ∙ names-right t name na nl cs 0 (λ i l. ap (λ z. stretch t na nl z) (zero-add i) ∙ nm.name-at i (omega (arith, nm.all-names)))
        ∙ ap (λ z. cond (member_by same_name name cs) (Some z) None) (zero-add (index_by same_name name cs))

    known : (b : Bool) → member_by same_name name cs ≡ b
        → used_by t ca pos len sh inner n path (cond b (Some (index_by same_name name cs)) None)
        ≡ use_of tb (cond b (some (urn (index_by same_name name cs) (fields 58 path))) none)
    known false h = refl
    known true h = used-right t tb ca pos len n ni sh si inner ii (index_by same_name name cs) path

    go : (b : Bool) → cond b (used_by t ca pos len sh inner n path (find_name t na nl name 0 (min k 8))) None
        ≡ use_of tb (cond (b && member_by same_name name cs) (some (urn (index_by same_name name cs) (fields 58 path))) none)
    go false = refl
    go true = ap (used_by t ca pos len sh inner n path) found ∙ known (member_by same_name name cs) refl

-- letter case makes no difference
lowered-use : (names : List Name) (uri : List ℕ) → used_urn names (lowered uri) ≡ used_urn names uri
unfolding used_urn
lowered-use names uri =
    let e : lowered (drop 10 (lowered uri)) ≡ lowered (drop 10 uri) = ap lowered (lowered-drop 10 uri) ∙ lowered-twice (drop 10 uri) in
    ap₂ (λ a s. cond (a && member_by same_name (up_to 58 s) names) (some (urn (index_by same_name (up_to 58 s) names) (fields 58 (past 58 s))))
    none) (alert-case uri) e

pub case-ignored : CaseIgnored
case-ignored names a b k = sym (lowered-use names a) ∙ ap (used_urn names) ((lowered-exactly a b).1 k) ∙ lowered-use names b
