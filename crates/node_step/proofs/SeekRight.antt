-- The search by numbers, up from a node to a place, is the theory's search.
use Prim.Native.Nat.{ℕ, zero, suc, ◌+◌, ◌-◌, ◌≤◌, ◌<◌}
use mathlib.Core.Path.{◌≡◌, refl, sym, ap, ◌∙◌}
use mathlib.Core.Logic.{◌⊎◌, inl, inr, ◌≢◌}
use mathlib.Core.Bool.{Bool, true, false, cond, true≢false}
use mathlib.Core.Option.{Option, none, some}
use mathlib.Core.List.{List, [], ◌∷◌, ◌++◌, append_assoc, append-nil}
use lib.Dec.{eqb, ltb}
use borrow.Author.Tests.{eqb-true, eq-eqb, ne_eqb, le-leb}
use lib.ListN.{length, get_or, set, length-append, length-set}
use native.Mathlib.Omega.{arith}
use native.Mathlib.Nat.{zero-add}
use Rattle.base_numbers.specs.Numbers.{most_nodes, most_signals}
use Rattle.base_lists.proofs.Lists.{get_d-set-cases}
use Rattle.theory_resolution.specs.Names.{Name, Parts, below, candidates, some_below}
use Rattle.theory_resolution.proofs.Names.{below_self, snoc-view, candidates-snoc, above-none, above-snoc}
use Rattle.theory_resolution.specs.Table.{Table, Row, row_of, WellFormed}
use Rattle.theory_resolution.proofs.Table.{row-length}
use Rattle.theory_resolution.specs.Nodes.{nodes, is_node, RootOrNode, number, node_at}
use Rattle.theory_resolution.proofs.Numbers.{number-node, root-number, number_same, parent-node}
use Rattle.theory_resolution.specs.Direct.{Env, env_by, found, first_hit}
use Rattle.theory_resolution.proofs.Step.{EnvLaws}
use Rattle.std.specs.Prelude as code
use Rattle.node_step.specs.declared.Hit.{Hit}
use Rattle.node_step.specs.Step.{digit, put, parent_of, reaches, find_row, no_hit, hit_at, seek}
use Rattle.node_step.specs.Rows.{pack, numbers_from, Numbers}
use Rattle.node_step.proofs.PackedLaws.{pack-digit, pack-set}
use Rattle.node_step.proofs.NumberLaws.{numbers-length, numbers-at, numbers-set, numbers-bytes, Anchored, found_row}
use Rattle.node_step.proofs.SearchedBy.{SearchedBy}
use Rattle.theory_resolution.specs.Direct as direct

module _ (rows ps : List ℕ) (n : ℕ) (t : Table) (wf : WellFormed t) (nu : Numbers rows ps n t) (c : ℕ) (known : c < t.cats) where
  abbrev num : Parts → ℕ
  num p = number (nodes t) c p

  -- one step up
  module _ (p : Parts) (x : Name) (a : RootOrNode (nodes t) c (p ++ x ∷ [])) where
    is-node : is_node (nodes t) c (p ++ x ∷ []) ≡ true
    is-node = go a
      where
        go : RootOrNode (nodes t) c (p ++ x ∷ []) → is_node (nodes t) c (p ++ x ∷ []) ≡ true
        go (inl e) = absurd (omega (arith, length-append p (x ∷ []), ap length e))
        go (inr e) = e

    pub up-anchor : RootOrNode (nodes t) c p
    up-anchor = parent-node t c p x is-node

    pub up-number : parent_of ps (num (p ++ x ∷ [])) ≡ num p
    up-number =
        let w = number-node (nodes t) c (p ++ x ∷ []) is-node in
        let f = nu.few-nodes in
        let e : suc w.0 - 1 ≡ w.0 = omega arith in
        let g : get_or ps w.0 0 ≡ number (nodes t) (node_at (nodes t) w.0).cat p = nu.parent-at w.0 w.1 p x (ap (λ u. u.path) w.3) in
        rw (
          w.2,
          ne_eqb (suc w.0) 0 (λ z. omega arith),
          le-leb (suc w.0) most_nodes (omega (arith, w.1)),
          e,
        ) (g ∙ ap (λ u. number (nodes t) u.cat p) w.3)

    pub not_root : num (p ++ x ∷ []) ≢ 0
    not_root z = let w = number-node (nodes t) c (p ++ x ∷ []) is-node in omega (arith, w.2)

  -- the way up
  module _ (q : Parts) (aq : RootOrNode (nodes t) c q) where
    reach-root : (k : ℕ) → ([] ≡ q → ⊥) → cond (eqb (num []) 0) false (reaches ps (num q) k (parent_of ps (num []))) ≡ some_below (below q [])
    reach-root k ne = ap (λ b. cond b false (reaches ps (num q) k (parent_of ps (num [])))) (eq-eqb (num []) 0 (root-number t c))
        ∙ sym (above-none q (λ z. ne (sym z)))

    reach-node : (k : ℕ) (e : Parts) (x : Name) → RootOrNode (nodes t) c (e ++ x ∷ []) → (e ++ x ∷ [] ≡ q → ⊥)
        → (RootOrNode (nodes t) c e → reaches ps (num q) k (num e) ≡ some_below (below q e))
        → cond (eqb (num (e ++ x ∷ [])) 0) false (reaches ps (num q) k (parent_of ps (num (e ++ x ∷ [])))) ≡ some_below (below q (e ++ x ∷ []))
    reach-node k e x a ne ih =
        ap (λ b. cond b false (reaches ps (num q) k (parent_of ps (num (e ++ x ∷ []))))) (ne_eqb (num (e ++ x ∷ [])) 0 (not_root e x a))
        ∙ ap (reaches ps (num q) k) (up-number e x a)
        ∙ ih (up-anchor e x a)
        ∙ sym (above-snoc q e x ne)

    pub reach-right : (k : ℕ) (d : Parts) → length d < k → RootOrNode (nodes t) c d → reaches ps (num q) k (num d) ≡ some_below (below q d)
    unfolding reaches
    reach-right zero d h a = absurd (omega arith)
    reach-right (suc k) d h a = go (eqb (num d) (num q)) refl (λ e l b. reach-right k e l b)
      where
        go : (b : Bool) → eqb (num d) (num q) ≡ b
            → ((e : Parts) → length e < k → RootOrNode (nodes t) c e → reaches ps (num q) k (num e) ≡ some_below (below q e))
            → cond b true (cond (eqb (num d) 0) false (reaches ps (num q) k (parent_of ps (num d)))) ≡ some_below (below q d)
        go true e ih = let i = number_same t c d q a aq (eqb-true _ _ e) in
            sym (ap (λ z. some_below (below q z)) (i ∙ sym (append-nil q)) ∙ ap some_below (below_self q []))
        go false e ih = by (snoc-view d)
          where
            ne : d ≡ q → ⊥
            ne i = true≢false (sym (eq-eqb _ _ (ap num i)) ∙ e)

            by : (d ≡ []) ⊎ ((e : Parts) × (x : Name) × (d ≡ e ++ x ∷ []))
                → cond (eqb (num d) 0) false (reaches ps (num q) k (parent_of ps (num d))) ≡ some_below (below q d)
            by (inl i) = rw i (reach-root k (rw i at ne))
            by (inr w) =
                rw w.2 (reach-node k w.0 w.1 (rw w.2 at a) (rw w.2 at ne)
                (ih w.0 (omega (arith, length-append w.0 (w.1 ∷ []), ap length w.2))))

-- a signal's row, and its place in c
module _ (t : Table) (few : length (nodes t) ≤ most_nodes) (c : ℕ) (known : c < t.cats) (s : ℕ) where
  abbrev nums : List ℕ
  nums = numbers_from (nodes t) 0 (row_of t s)

  pub wide : c < length (row_of t s)
  wide = rw (row-length (get_or t.signals s []) 0 t.cats) known

  pub digit-is : digit (pack nums) c ≡ number (nodes t) c (get_or (row_of t s) c [])
  digit-is =
      pack-digit nums c (numbers-bytes (nodes t) few 0 (row_of t s)) ∙ numbers-at (nodes t) 0 (row_of t s) c wide
      ∙ ap (λ z. number (nodes t) z (get_or (row_of t s) c [])) (zero-add c)

-- a hit, by its node's number
abbrev pub hit_of : Table → ℕ → Option direct.Hit → code.Option Hit
hit_of t c none = no_hit
hit_of t c (some h) = hit_at (number (nodes t) c h.at) h.signal

-- the search among some rows, from the places of a signal that it finds there
module _ (table ps : List ℕ) (n : ℕ) (t : Table) (wf : WellFormed t) (nu : Numbers table ps n t) (c : ℕ) (known : c < t.cats)
    (finder : Row → Option ℕ) (laws : EnvLaws (env_by t finder) t.cats (nodes t)) (rows : List ℕ) (by : SearchedBy rows n t finder)
    (s : ℕ) (live : finder (row_of t s) ≡ some s) where
  abbrev row : Row
  row = row_of t s

  abbrev packs : ℕ
  packs = pack (nums t nu.few-nodes c known s)

  abbrev q : Parts
  q = get_or row c []

  abbrev no : Parts → ℕ
  no p = number (nodes t) c p

  abbrev env : Env
  env = env_by t finder

  pub q-anchor : RootOrNode (nodes t) c q
  q-anchor = laws.noded row s c live

  module _ (p : Parts) (ap' : RootOrNode (nodes t) c p) where
    set-anchored : Anchored t 0 (set row c p)
    set-anchored k = go (get_d-set-cases row c k p [])
      where
        go : ((k ≡ c) × (get_or (set row c p) k [] ≡ p)) ⊎ (get_or (set row c p) k [] ≡ get_or row k []) → RootOrNode (nodes t) (0 + k) (get_or (set row c p) k [])
        go (inl w) = rw (zero-add k, w.1, w.0) ap'
        go (inr e) = rw (zero-add k, e) (laws.noded row s k live)

    key-is : put packs c (no p) ≡ pack (numbers_from (nodes t) 0 (set row c p))
    key-is =
        pack-set (numbers_from (nodes t) 0 row) c (no p) (numbers-bytes (nodes t) nu.few-nodes 0 row)
        (rw (numbers-length (nodes t) 0 row) (wide t nu.few-nodes c known s))
        ∙ ap pack (ap (λ z. set (numbers_from (nodes t) 0 row) c (number (nodes t) z p)) (sym (zero-add c)) ∙ sym (numbers-set (nodes t) 0 row c p))

    pub find-right : finder (set row c p) ≡ found_row (find_row rows (put packs c (no p)) 0 n)
    find-right =
        by.finds (set row c p) set-anchored (length-set row c p ∙ row-length (get_or t.signals s []) 0 t.cats)
        ∙ ap (λ z. found_row (find_row rows z 0 n)) (sym key-is)

  found_right : (d : Parts) (f : ℕ) (o : Option ℕ) → o ≡ found_row f → (rest : code.Option Hit) (more : Option direct.Hit) → rest ≡ hit_of t c more
      → cond (ltb f most_signals) (hit_at (no d) f) rest ≡ hit_of t c (found d o more)
  found_right d f o e rest more r = go (ltb f most_signals) refl
    where
      go : (b : Bool) → ltb f most_signals ≡ b → cond b (hit_at (no d) f) rest ≡ hit_of t c (found d o more)
      go true h = let i : o ≡ some f = rw h at e in rw i
      go false h = let i : o ≡ none = rw h at e in rw i r

  seek-base : (k : ℕ) → seek rows ps n packs c (no q) (suc k) (no q) ≡ hit_of t c (first_hit env row c (candidates q []))
  unfolding seek
  seek-base k =
      found_right q (find_row rows (put packs c (no q)) 0 n) (finder (set row c q)) (find-right q q-anchor)
      (cond (eqb (no q) (no q)) no_hit (seek rows ps n packs c (no q) k (parent_of ps (no q)))) none (rw (eq-eqb (no q) (no q) refl))

  seek-node : (k : ℕ) (e : Parts) (x : Name) → RootOrNode (nodes t) c (q ++ e ++ x ∷ [])
      → (RootOrNode (nodes t) c (q ++ e) → seek rows ps n packs c (no q) k (no (q ++ e)) ≡ hit_of t c (first_hit env row c (candidates q e)))
      → seek rows ps n packs c (no q) (suc k) (no (q ++ e ++ x ∷ [])) ≡ hit_of t c (first_hit env row c (candidates q (e ++ x ∷ [])))
  unfolding seek
  seek-node k e x a ih =
      found_right (q ++ e ++ x ∷ []) (find_row rows (put packs c (no (q ++ e ++ x ∷ []))) 0 n) (finder (set row c (q ++ e ++ x ∷ [])))
      (find-right (q ++ e ++ x ∷ []) a)
      (cond (eqb (no (q ++ e ++ x ∷ [])) (no q)) no_hit (seek rows ps n packs c (no q) k (parent_of ps (no (q ++ e ++ x ∷ [])))))
      (first_hit env row c (candidates q e))
      (ap (λ b. cond b no_hit (seek rows ps n packs c (no q) k (parent_of ps (no (q ++ e ++ x ∷ []))))) (ne_eqb _ _ other)
      ∙ ap (seek rows ps n packs c (no q) k) (up-number table ps n t wf nu c known (q ++ e) x a)
      ∙ ih (up-anchor table ps n t wf nu c known (q ++ e) x a))
      ∙ ap (λ l. hit_of t c (first_hit env row c l)) (sym (candidates-snoc q e x))
    where
      other : no (q ++ e ++ x ∷ []) ≡ no q → ⊥
      other i =
          let j = number_same t c (q ++ e ++ x ∷ []) q a q-anchor i in
          omega (arith, length-append (q ++ e) (x ∷ []), length-append q e, ap length j)

  pub seek-right : (k : ℕ) (r : Parts) → length r < k → RootOrNode (nodes t) c (q ++ r) → seek rows ps n packs c (no q) k (no (q ++ r))
      ≡ hit_of t c (first_hit env row c (candidates q r))
  seek-right zero r h a = absurd (omega arith)
  seek-right (suc k) r h a = by_end (snoc-view r) (λ e l b. seek-right k e l b)
    where
      by_end : (r ≡ []) ⊎ ((e : Parts) × (x : Name) × (r ≡ e ++ x ∷ []))
          → ((e : Parts) → length e < k → RootOrNode (nodes t) c (q ++ e) → seek rows ps n packs c (no q) k (no (q ++ e))
          ≡ hit_of t c (first_hit env row c (candidates q e)))
          → seek rows ps n packs c (no q) (suc k) (no (q ++ r)) ≡ hit_of t c (first_hit env row c (candidates q r))
      by_end (inl i) ih = rw (i, append-nil q) (seek-base k)
      by_end (inr w) ih =
          rw (w.2, ← append_assoc q w.0 (w.1 ∷ []))
          (seek-node k w.0 w.1 (rw (w.2, ← append_assoc q w.0 (w.1 ∷ [])) at a)
          (ih w.0 (omega (arith, length-append w.0 (w.1 ∷ []), ap length w.2))))
