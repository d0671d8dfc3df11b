-- The search on numbers, over arrays that hold a table, is the theory's, with any finder that searches in the rows.
use Prim.Native.Nat.{ℕ, zero, suc, ◌+◌, ◌*◌, ◌/◌, ◌%◌, ◌≤◌, ◌<◌}
use mathlib.Core.Path.{◌≡◌, refl, sym, ap, ap₂, ◌∙◌}
use mathlib.Core.Logic.{inr}
use mathlib.Core.Bool.{Bool, true, false, cond, not, ◌||◌}
use mathlib.Core.Option.{Option, none, some}
use mathlib.Core.List.{List, [], ◌∷◌, ◌++◌, map, map-id, map-append, Memᴰ}
use lib.Dec.{eqb, ltb}
use lib.ListN.{get_or, length, length-replicate, get_or-replicate, get_or-eq_default}
use borrow.Author.Tests.{eqb-true, lt-ltb}
use native.Mathlib.Omega.{arith}
use native.Mathlib.Decide.{dec_lt}
use Rattle.base_numbers.specs.Numbers.{most_nodes, most_signals}
use Rattle.base_lists.proofs.Lists.{eqb-exact, mem-at, member_of}
use Rattle.theory_resolution.specs.Names.{Parts, below, some_part, proper_ancestor, some_below}
use Rattle.theory_resolution.specs.Table.{Urn, urn, Table, Row, row_of, WellFormed}
use Rattle.theory_resolution.specs.Nodes.{same_urn, nodes, node_at, is_node, number}
use Rattle.theory_resolution.specs.Direct as direct
use Rattle.theory_resolution.specs.Direct.{Env, env_by, step}
use Rattle.theory_resolution.specs.NodeStep.{node_under}
use Rattle.theory_resolution.specs.Symbols.{node}
use Rattle.theory_resolution.specs.Discovery.{discover}
use Rattle.theory_resolution.proofs.Nodes.{urn-exact}
use Rattle.theory_resolution.proofs.Numbers.{number-at}
use Rattle.theory_resolution.proofs.Table.{row-length}
use Rattle.theory_resolution.proofs.Step.{EnvLaws, Valid}
use Rattle.theory_resolution.proofs.NodeStep.{symbol-at-node}
use Rattle.theory_resolution.proofs.Coded.{discover-code}
use Rattle.theory_kept.specs.Way.{first_below, symbol_to, state_before, way_back, way_to}
use Rattle.theory_kept.specs.Decision.{is_there, or_else, with_mark, after_mark, may_precede, step_mark, reachable, marks_to, lacks, first_loss, keeps, shown}
use Rattle.theory_kept.proofs.Way.{way-law}
use Rattle.theory_kept.proofs.Marks.{open_at, Live, live-mark}
use Rattle.theory_kept.proofs.Kept.{after, reachable-live, reachable-first, found-few, first-low, shown-rings}
use Rattle.node_search.specs.Arrays.{InnerIn}
use Rattle.node_step.specs.Rows.{pack, numbers_from, Numbers}
use Rattle.node_step.specs.Step.{coded, put, place_in, with_place, row_at, reaches, find_row, extends, step_numbers}
use Rattle.node_step.proofs.PackedLaws.{place-in, put_in}
use Rattle.node_step.proofs.NumberLaws.{found_row}
use Rattle.node_step.proofs.SearchedBy.{SearchedBy}
use Rattle.node_step.proofs.SeekRight.{reach-right, digit-is, q-anchor, find-right}
use Rattle.node_step.proofs.StepRight.{few-parts-at, extends-right, step_right}
use Rattle.node_step.proofs.Both.{coded-start}
use Rattle.table_kept.specs.Marks.{with_node, found_or, after_node, precedes, next_by, next_in, loss_at, open_state, rings_at, numbers_of}

-- the two tests of what is there are one
there-same : (o : Option Parts) → is_there o ≡ some_below o
there-same none = refl
there-same (some r) = refl

-- what is said whole and lies under a path properly extends it
under_same : (o : Option Parts) → node_under o true ≡ some_part o
under_same none = refl
under_same (some []) = refl
under_same (some (x ∷ r)) = refl

-- what a search by numbers found, or s
found-or : (s i : ℕ) → found_or s i ≡ or_else s (found_row i)
found-or s i = go (ltb i most_signals)
  where
    go : (b : Bool) → cond b i s ≡ or_else s (cond b (some i) none)
    go true = refl
    go false = refl

there-found : (i : ℕ) → is_there (found_row i) ≡ ltb i most_signals
there-found i = go (ltb i most_signals)
  where
    go : (b : Bool) → is_there (cond b (some i) none) ≡ b
    go true = refl
    go false = refl

-- arrays that hold a table, with the nodes' categories, and the rows in which a finder searches
pub record Arrays (table rows ps : List ℕ) (inner : List Bool) (cats : List ℕ) (n : ℕ) (t : Table) (finder : Row → Option ℕ) : Type 0 where
  pub well : WellFormed t
  pub numbers : Numbers table ps n t
  pub inners : InnerIn inner t
  pub cat-at : (i : ℕ) → i < length (nodes t) → get_or cats i 0 ≡ (node_at (nodes t) i).cat
  pub known : (i : ℕ) → i < length (nodes t) → (node_at (nodes t) i).cat < t.cats
  pub laws : EnvLaws (env_by t finder) t.cats (nodes t)
  pub searched : SearchedBy rows n t finder
  pub live : finder (row_of t 0) ≡ some 0
  pub listed : (r : Row) (s : ℕ) → finder r ≡ some s → s < length t.signals

module _ (table rows ps : List ℕ) (inner : List Bool) (cats : List ℕ) (n : ℕ) (t : Table) (finder : Row → Option ℕ)
    (ar : Arrays table rows ps inner cats n t finder) where
  abbrev env : Env
  env = env_by t finder

  abbrev pub Found : ℕ → Type 0
  Found s = Live t finder ar.laws s

  is-node : (k : ℕ) → k < length (nodes t) → is_node (nodes t) (node_at (nodes t) k).cat (node_at (nodes t) k).path ≡ true
  is-node k h = member_of same_urn urn-exact (node_at (nodes t) k) (nodes t) (mem-at (nodes t) k (urn 0 []) h)

  low-cat : (k : ℕ) → k < length (nodes t) → (node_at (nodes t) k).cat < 8
  low-cat k h = let f = ar.numbers.few-cats in omega (arith, ar.known k h)

  -- one node, given at a signal
  module _ (s : ℕ) (live : Found s) (k : ℕ) (low : k < length (nodes t)) where
    abbrev u : Urn
    u = node_at (nodes t) k

    abbrev packs : ℕ
    packs = pack (numbers_from (nodes t) 0 (row_of t s))

    -- the signal that says it besides
    pub with-right : with_mark env s u.cat u.path ≡ found_row (with_node rows n s u.cat (suc k))
    with-right =
        find-right table ps n t ar.well ar.numbers u.cat (ar.known k low) finder ar.laws rows ar.searched s live u.path (inr (is-node k low))
        ∙ ap (λ d. found_row (find_row rows (put packs u.cat d) 0 n)) (number-at t k low)
        ∙ ap (λ z. found_row (find_row rows z 0 n)) (sym (put_in packs u.cat (suc k) (low-cat k low)))
        ∙ ap (λ z. found_row (find_row rows (with_place z u.cat (suc k)) 0 n)) (sym (ar.searched.own s live))

    test-right : extends ps (place_in (row_at rows s) u.cat) (suc k) true ≡ proper_ancestor (get_or (row_of t s) u.cat []) u.path
    test-right =
        ap (λ z. extends ps (place_in z u.cat) (suc k) true) (ar.searched.own s live)
        ∙ ap (λ z. extends ps z (suc k) true) (place-in packs u.cat (low-cat k low) ∙ digit-is t ar.numbers.few-nodes u.cat (ar.known k low) s)
        ∙ ap (λ d. extends ps (number (nodes t) u.cat (get_or (row_of t s) u.cat [])) d true) (sym (number-at t k low))
        ∙ extends-right table ps n t ar.well ar.numbers u.cat (ar.known k low) u.path (inr (is-node k low)) true (get_or (row_of t s) u.cat [])
        (q-anchor table ps n t ar.well ar.numbers u.cat (ar.known k low) finder ar.laws rows ar.searched s live)
        ∙ under_same (below (get_or (row_of t s) u.cat []) u.path)

    -- the signal after it
    pub after-right : after_node rows ps n s u.cat (suc k) ≡ after_mark env s u
    unfolding after_node
    after-right =
        ap₂ (λ b r. cond b r s) test-right
        (found-or s (with_node rows n s u.cat (suc k)) ∙ ap (or_else s) (sym with-right))

    opened-code : coded t (open_at t finder ar.laws s) ≡ open_state s
    opened-code = ap (λ st. record { signal = s; categories = st.categories }) (coded-start t t.cats)

    opened-valid : Valid env t.cats (nodes t) (open_at t finder ar.laws s)
    opened-valid =
        record {
          live = live;
          wide = row-length (get_or t.signals s []) 0 t.cats;
          sized = length-replicate t.cats direct.Open;
          fits = λ c h. rw (get_or-replicate t.cats c direct.Open direct.Open h);
        }

    -- what direct resolution gives after it
    pub rings-right : rings_at rows ps inner n s u.cat (suc k) ≡ (step env (open_at t finder ar.laws s) u).signal
    unfolding rings_at
    rings-right =
        ap (λ st. st.signal)
        (ap₂ (λ o d. step_numbers rows ps inner n o u.cat d true) (sym opened-code) (sym (number-at t k low))
        ∙ step_right table ps inner n t ar.well ar.numbers ar.inners finder ar.laws rows ar.searched
        (open_at t finder ar.laws s) opened-valid u.cat (ar.known k low) u.path
        (inr (is-node k low)) true
        ∙ ap (coded t) (sym (symbol-at-node env t.cats (nodes t) ar.laws (open_at t finder ar.laws s) opened-valid
        (node u.cat u.path) (ar.known k low))))

  -- before the node with index i
  pub precedes-right : (i : ℕ) → i < length (nodes t) → (k : ℕ) → k < length (nodes t)
      → precedes ps cats (node_at (nodes t) i).cat (suc i) k ≡ may_precede (node_at (nodes t) i).cat (node_at (nodes t) i).path (node_at (nodes t) k)
  unfolding precedes
  precedes-right i in_table k h = ap (λ z. cond (eqb z c) (reaches ps (suc k) 9 (suc i)) true) (ar.cat-at k h) ∙ go (eqb (node_at (nodes t) k).cat c) refl
    where
      c : ℕ
      c = (node_at (nodes t) i).cat

      p : Parts
      p = (node_at (nodes t) i).path

      go : (b : Bool) → eqb (node_at (nodes t) k).cat c ≡ b → cond b (reaches ps (suc k) 9 (suc i)) true ≡ not b || is_there (below (node_at (nodes t) k).path p)
      go false e = refl
      go true e =
          let z : (node_at (nodes t) k).cat ≡ c = eqb-true (node_at (nodes t) k).cat c e in
          let m : is_node (nodes t) c (node_at (nodes t) k).path ≡ true = rw (← z) (is-node k h) in
          let a : number (nodes t) c (node_at (nodes t) k).path ≡ suc k = ap (λ d. number (nodes t) d (node_at (nodes t) k).path) (sym z) ∙ number-at t k h in
          ap₂ (λ x y. reaches ps x 9 y) (sym a) (sym (number-at t i in_table))
          ∙ reach-right table ps n t ar.well ar.numbers c (ar.known i in_table) (node_at (nodes t) k).path (inr m) 9 p
          (omega (arith, few-parts-at t ar.numbers c p (inr (is-node i in_table)))) (inr (is-node i in_table))
          ∙ sym (there-same (below (node_at (nodes t) k).path p))

-- two tests that agree below n have one first number, and two steps that agree have one way back
first-same : (f g : ℕ → Bool) (n : ℕ) → ((k : ℕ) → k < n → f k ≡ g k) → first_below f n ≡ first_below g n
unfolding first_below
first-same f g zero h = refl
first-same f g (suc n) h =
    ap₂ (λ r b. cond (ltb r n) r (cond b n (suc n))) (first-same f g n (λ k i. h k (omega arith))) (h n (omega arith))

module _ (f g : ℕ → ℕ → ℕ) (m : ℕ) (l : List ℕ) (same : (a k : ℕ) → k < m → f (get_or l a 0) k ≡ g (get_or l a 0) k) where
  to_same : (a x : ℕ) → symbol_to eqb f m 0 (get_or l a 0) x ≡ symbol_to eqb g m 0 (get_or l a 0) x
  to_same a x = first-same (λ k. eqb (f (get_or l a 0) k) x) (λ k. eqb (g (get_or l a 0) k) x) m (λ k h. ap (λ z. eqb z x) (same a k h))

  before_same : (x : ℕ) → state_before eqb f m 0 l x ≡ state_before eqb g m 0 l x
  before_same x =
      first-same (λ a. ltb (symbol_to eqb f m 0 (get_or l a 0) x) m) (λ a. ltb (symbol_to eqb g m 0 (get_or l a 0) x) m) (length l)
      (λ a h. ap (λ z. ltb z m) (to_same a x))

  pub way_same : (n j : ℕ) → way_back eqb f m 0 l n j ≡ way_back eqb g m 0 l n j
  unfolding way_back
  way_same zero j = refl
  way_same (suc n) zero = refl
  way_same (suc n) (suc j) =
      let x = get_or l (suc j) 0 in
      ap₂ (λ w k. w ++ k ∷ [])
      (way_same n (state_before eqb f m 0 l x) ∙ ap (way_back eqb g m 0 l n) (before_same x))
      (to_same (state_before eqb f m 0 l x) x ∙ ap (λ a. symbol_to eqb g m 0 (get_or l a 0) x) (before_same x))

-- nodes by their numbers
numbers-suc : (t : Table) (ks : List ℕ) → ((k : ℕ) → Memᴰ k ks → k < length (nodes t)) → numbers_of t (map (node_at (nodes t)) ks) ≡ map suc ks
numbers-suc t [] h = refl
numbers-suc t (k ∷ ks) h = ap₂ (λ a l. a ∷ l) (number-at t k (h k (Memᴰ.head refl))) (numbers-suc t ks (λ x m. h x (Memᴰ.tail m)))

-- the stored targets of the nodes that may be given
pub record Stored (table rows ps : List ℕ) (cats : List ℕ) (n : ℕ) (t : Table) (may : Urn → Bool) (all : List ℕ) : Type 0 where
  pub allowed : List Bool
  pub test : (k : ℕ) → k < length (nodes t) → get_or allowed k false ≡ may (node_at (nodes t) k)
  pub targets : (i : ℕ) → i < n * most_nodes → get_or all i 0 ≡ next_by rows ps cats n allowed (i / most_nodes) (i % most_nodes)

module _ (table rows ps : List ℕ) (inner : List Bool) (cats : List ℕ) (n : ℕ) (t : Table) (finder : Row → Option ℕ)
    (ar : Arrays table rows ps inner cats n t finder)
    (may : Urn → Bool) (all : List ℕ) (st : Stored table rows ps cats n t may all) where
  abbrev env' : Env
  env' = env_by t finder

  abbrev Live' : ℕ → Type 0
  Live' s = Live t finder ar.laws s

  -- the step by what is stored is the theory's
  pub next-right : (s k : ℕ) → Live' s → k < length (nodes t) → next_in all s k ≡ step_mark t env' may s k
  unfolding next_in next_by
  next-right s k live h =
      let few = ar.numbers.few-nodes in
      let signals = ar.numbers.few-signals in
      let low : s < n = omega (arith, ar.listed (row_of t s) s live, ar.numbers.all-signals) in
      let b : s * most_nodes + k < n * most_nodes = omega arith in
      let q : (s * most_nodes + k) / most_nodes ≡ s = omega arith in
      let r : (s * most_nodes + k) % most_nodes ≡ k = omega arith in
      ap (λ x. cond x (get_or all (s * most_nodes + k) 0) 0) (lt-ltb (s * most_nodes + k) 2048 (omega arith))
      ∙ st.targets (s * most_nodes + k) b
      ∙ ap₂ (next_by rows ps cats n st.allowed) q r
      ∙ ap₂ (λ x z. cond x (after_node rows ps n s z (suc k)) s) (st.test k h) (ar.cat-at k h)
      ∙ ap (λ z. cond (may (node_at (nodes t) k)) z s) (after-right table rows ps inner cats n t finder ar s live k h)

  -- the signals found are the same, turn by turn
  found-same : (j : ℕ) → discover eqb (next_in all) (length (nodes t)) 0 j ≡ discover eqb (step_mark t env' may) (length (nodes t)) 0 j
  found-same j =
      discover-code eqb eqb-exact (step_mark t env' may) eqb (next_in all) (λ x. x) (length (nodes t)) Live'
      (λ s k live h. live-mark t finder ar.laws may s k live) (λ a b x y. refl) (λ s k live h. next-right s k live h) 0 ar.live j
      ∙ map-id (discover eqb (step_mark t env' may) (length (nodes t)) 0 j)

  abbrev pub list : List ℕ
  list = reachable t env' may

  pub reachable-same : discover eqb (next_in all) (length (nodes t)) 0 n ≡ list
  reachable-same = found-same n ∙ ap (discover eqb (step_mark t env' may) (length (nodes t)) 0) (sym ar.numbers.all-signals)

  -- there is room for what is found
  pub few-found : (j : ℕ) → length (discover eqb (next_in all) (length (nodes t)) 0 j) ≤ most_signals
  few-found j =
      let f = ar.numbers.few-signals in
      omega (arith, ap length (found-same j), found-few t ar.well finder ar.laws ar.live ar.listed may j, ar.numbers.all-signals)

  -- each is found at its places
  pub each_live : (a : ℕ) → Live' (get_or list a 0)
  each_live a = go (dec_lt a (length list))
    where
      go : Dec (a < length list) → finder (row_of t (get_or list a 0)) ≡ some (get_or list a 0)
      go (yes h) = reachable-live t ar.well finder ar.laws ar.live ar.listed may (get_or list a 0) (mem-at list a 0 h)
      go (no h) = rw (get_or-eq_default list 0 {n = a} (omega arith)) ar.live

  -- the way to one of them, by the numbers of its nodes
  pub way-numbers : (j : ℕ) → j < length list → map suc (way_to eqb (next_in all) (length (nodes t)) 0 list j) ≡ numbers_of t (marks_to t env' may j)
  way-numbers j h =
      ap (map suc) (way_same (next_in all) (step_mark t env' may) (length (nodes t)) list (λ a k i. next-right (get_or list a 0) k (each_live a) i) j j)
      ∙ sym (numbers-suc t (way_to eqb (step_mark t env' may) (length (nodes t)) 0 list j)
      (way-law eqb eqb-exact (step_mark t env' may) (length (nodes t)) 0 list (reachable-first t ar.well finder ar.laws ar.live
      ar.listed may) j h).listed)

-- the node with index i
module _ (table rows ps : List ℕ) (inner : List Bool) (cats : List ℕ) (n : ℕ) (t : Table) (finder : Row → Option ℕ)
    (ar : Arrays table rows ps inner cats n t finder)
    (i : ℕ) (in_table : i < length (nodes t)) (all : List ℕ)
    (st : Stored table rows ps cats n t (may_precede (node_at (nodes t) i).cat (node_at (nodes t) i).path) all) where
  abbrev c : ℕ
  c = (node_at (nodes t) i).cat

  abbrev p : Parts
  p = (node_at (nodes t) i).path

  abbrev env'' : Env
  env'' = env_by t finder

  abbrev pub before : List ℕ
  before = reachable t env'' (may_precede c p)

  live_at : (a : ℕ) → Live t finder ar.laws (get_or before a 0)
  live_at = each_live table rows ps inner cats n t finder ar (may_precede c p) all st

  abbrev pub first : ℕ
  first = first_loss t env'' c p

  pub loss-same : loss_at rows n before c (suc i) ≡ first
  loss-same =
      first-same (λ j. not (ltb (with_node rows n (get_or before j 0) c (suc i)) most_signals)) (λ j. lacks t env'' c p (get_or before j 0)) (length before)
      (λ j h. ap not (sym (ap is_there (with-right table rows ps inner cats n t finder ar (get_or before j 0) (live_at j) i in_table)
      ∙ there-found (with_node rows n (get_or before j 0) c (suc i)))))

  node-is : is_node (nodes t) c p ≡ true
  node-is = member_of same_urn urn-exact (node_at (nodes t) i) (nodes t) (mem-at (nodes t) i (urn 0 []) in_table)

  -- where it is lost
  module _ (lost : keeps t env'' c p ≡ false) where
    pub low : first < length before
    low = first-low t ar.well finder ar.laws ar.live ar.listed c p (ar.known i in_table) node-is lost

    pub rings-same : rings_at rows ps inner n (get_or before first 0) c (suc i) ≡ (after t ar.well finder ar.laws ar.live ar.listed
        (shown t env'' c p)).signal
    rings-same =
        rings-right table rows ps inner cats n t finder ar (get_or before first 0) (live_at first) i in_table
        ∙ sym (shown-rings t ar.well finder ar.laws ar.live ar.listed c p (ar.known i in_table) node-is lost)

    pub nodes-same : map suc (way_to eqb (next_in all) (length (nodes t)) 0 before first) ++ suc i ∷ [] ≡ numbers_of t (shown t env'' c p)
    nodes-same =
        ap₂ (λ a x. a ++ x ∷ []) (way-numbers table rows ps inner cats n t finder ar (may_precede c p) all st first low) (sym (number-at t i in_table))
        ∙ sym (map-append (λ u. number (nodes t) u.cat u.path) (marks_to t env'' (may_precede c p) first) (urn c p ∷ []))
