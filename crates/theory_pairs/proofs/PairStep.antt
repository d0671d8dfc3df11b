-- One step over the table of pairs is one step of the ring table or of the lamp table.
use Prim.Native.Nat.{ℕ, suc, ◌+◌, ◌<◌}
use mathlib.Core.Path.{◌≡◌, refl, sym, ap, ap₂, ◌∙◌}
use mathlib.Core.Bool.{Bool, true, false}
use mathlib.Core.Option.{Option, none, some}
use mathlib.Core.List.{List, [], ◌∷◌, ◌++◌}
use lib.ListN.{length, get_or, set, length-set, get_or-append}
use lib.Seq.{get_or-append-add, set-append_left}
use native.Mathlib.Omega.{arith}
use Rattle.theory_resolution.specs.Names.{Parts, same_parts, below, candidates}
use Rattle.theory_resolution.specs.Direct.{Status, Open, State, Hit, found, first_hit, takes_urn, held_if, open_or, move, if_taken, step, env_of, StateOf}
use Rattle.theory_resolution.specs.Nodes.{nodes, is_inner}
use Rattle.theory_resolution.specs.Table.{Urn, Table, Row, row_of, find, WellFormed}
use Rattle.theory_resolution.proofs.Table.{row-length, find-sound}
use Rattle.theory_pairs.specs.Pairs.{Known, shifted, pairs, pair_number, pair_state}
use Rattle.theory_pairs.proofs.PairTable.{pair_found, find-pairs}
use Rattle.theory_pairs.proofs.PairNodes.{inner-same, ring-node, lamp-node}

-- a store past the first of two lists
set-append-add : {A : Type 0} (xs ys : List A) (k : ℕ) (a : A) → set (xs ++ ys) (length xs + k) a ≡ xs ++ set ys k a
set-append-add [] ys k a = ap (λ z. set ys z a) (omega arith)
set-append-add (x ∷ xs) ys k a =
    let e : length (x ∷ xs) + k ≡ suc (length xs + k) = omega arith in
    ap (λ z. set (x ∷ xs ++ ys) z a) e ∙ ap (λ z. x ∷ z) (set-append-add xs ys k a)

module _ (ring lamp : Table) (known : Known ring) (wr : WellFormed ring) (wl : WellFormed lamp) where
  abbrev n : ℕ
  n = ring.cats

  abbrev both : Table
  both = pairs ring lamp

  abbrev w : ℕ
  w = length lamp.signals

  -- a state of each table
  module _ (sr sl : State) (gr : StateOf ring sr) (gl : StateOf lamp sl) where
    abbrev rr : Row
    rr = row_of ring sr.signal

    abbrev rl : Row
    rl = row_of lamp sl.signal

    abbrev now : State
    now = pair_state lamp sr sl

    wide : length rr ≡ n
    wide = row-length (get_or ring.signals sr.signal []) 0 n

    -- the pair is where the search finds it, so it has the places of both
    pair-live : find both (rr ++ rl) ≡ some (pair_number lamp sr.signal sl.signal)
    pair-live = find-pairs ring lamp known rr rl wide ∙ rw (gr.live, gl.live)

    pub pair-places : row_of both now.signal ≡ rr ++ rl
    pair-places = find-sound both (rr ++ rl) now.signal pair-live

    -- a hit of the ring's search as one among the pairs, and of the lamp's
    abbrev ring_hit : Option Hit → Option Hit
    ring_hit none = none
    ring_hit (some h) = some (record { at = h.at; signal = pair_number lamp h.signal sl.signal })

    abbrev lamp_hit : Option Hit → Option Hit
    lamp_hit none = none
    lamp_hit (some h) = some (record { at = h.at; signal = pair_number lamp sr.signal h.signal })

    ring-search : (c : ℕ) → c < n → (ps : List Parts) → first_hit (env_of both) (rr ++ rl) c ps ≡ ring_hit (first_hit (env_of ring) rr c ps)
    ring-search c h [] = refl
    ring-search c h (p ∷ ps) = go (find ring (set rr c p)) at (ring-search c h ps)
      where
        at : find both (set (rr ++ rl) c p) ≡ pair_found w (find ring (set rr c p)) (some sl.signal)
        at =
            ap (find both) (set-append_left rr rl c p (rw wide h))
            ∙ find-pairs ring lamp known (set rr c p) rl (length-set rr c p ∙ wide)
            ∙ ap (pair_found w (find ring (set rr c p))) gl.live

        go : (o : Option ℕ) → find both (set (rr ++ rl) c p) ≡ pair_found w o (some sl.signal)
            → first_hit (env_of both) (rr ++ rl) c ps ≡ ring_hit (first_hit (env_of ring) rr c ps)
            → found p (find both (set (rr ++ rl) c p)) (first_hit (env_of both) (rr ++ rl) c ps) ≡ ring_hit (found p o (first_hit (env_of ring) rr c ps))
        go none e ih = rw e ih
        go (some s) e ih = rw e

    lamp-search : (c : ℕ) (ps : List Parts) → first_hit (env_of both) (rr ++ rl) (n + c) ps ≡ lamp_hit (first_hit (env_of lamp) rl c ps)
    lamp-search c [] = refl
    lamp-search c (p ∷ ps) = go (find lamp (set rl c p)) at (lamp-search c ps)
      where
        at : find both (set (rr ++ rl) (n + c) p) ≡ pair_found w (some sr.signal) (find lamp (set rl c p))
        at =
            ap (λ z. find both (set (rr ++ rl) (z + c) p)) (sym wide)
            ∙ ap (find both) (set-append-add rr rl c p)
            ∙ find-pairs ring lamp known rr (set rl c p) wide
            ∙ ap (λ z. pair_found w z (find lamp (set rl c p))) gr.live

        go : (o : Option ℕ) → find both (set (rr ++ rl) (n + c) p) ≡ pair_found w (some sr.signal) o
            → first_hit (env_of both) (rr ++ rl) (n + c) ps ≡ lamp_hit (first_hit (env_of lamp) rl c ps)
            → found p (find both (set (rr ++ rl) (n + c) p)) (first_hit (env_of both) (rr ++ rl) (n + c) ps) ≡ lamp_hit (found p o (first_hit (env_of lamp) rl c ps))
        go none e ih = rw e ih
        go (some s) e ih = rw e

    -- a URN of the ring's moves the ring's part alone
    pub ring-step : (u : Urn) → u.cat < n → step (env_of both) now u ≡ pair_state lamp (step (env_of ring) sr u) sl
    unfolding step
    ring-step u h =
        ap₂ (λ x y. if_taken (env_of both) now c p (takes_urn x y p) (below y p)) status place
        ∙ taken (takes_urn (get_or sr.status c Open) (get_or rr c []) p) (below (get_or rr c []) p)
      where
        c : ℕ
        c = u.cat

        p : Parts
        p = u.path

        status : get_or (sr.status ++ sl.status) c Open ≡ get_or sr.status c Open
        status = get_or-append sr.status sl.status Open c (rw gr.sized h)

        place : get_or (row_of both now.signal) c [] ≡ get_or rr c []
        place = ap (λ z. get_or z c []) pair-places ∙ get_or-append rr rl [] c (rw wide h)

        moves : (o : Option Hit) → move (env_of both) now c p (ring_hit o) ≡ pair_state lamp (move (env_of ring) sr c p o) sl
        moves none = refl
        moves (some k) =
            ap (λ z. record { signal = pair_number lamp k.signal sl.signal; status = z })
            (set-append_left sr.status sl.status c _ (rw gr.sized h)
            ∙ ap (λ z. set sr.status c (open_or (same_parts k.at p) (held_if z p)) ++ sl.status)
            (inner-same (nodes both) (nodes ring) c c (ring-node ring lamp known wr wl c h) p))

        taken : (b : Bool) (o : Option Parts) → if_taken (env_of both) now c p b o ≡ pair_state lamp (if_taken (env_of ring) sr c p b o) sl
        taken false o = refl
        taken true none = refl
        taken true (some r) =
            ap₂ (λ x y. move (env_of both) now c p (first_hit (env_of both) x c (candidates y r))) pair-places place
            ∙ ap (move (env_of both) now c p) (ring-search c h (candidates (get_or rr c []) r))
            ∙ moves (first_hit (env_of ring) rr c (candidates (get_or rr c []) r))

    -- and one of the lamp's the lamp's part alone
    pub lamp-step : (u : Urn) → step (env_of both) now (shifted n u) ≡ pair_state lamp sr (step (env_of lamp) sl u)
    unfolding step
    lamp-step u =
        ap₂ (λ x y. if_taken (env_of both) now (n + c) p (takes_urn x y p) (below y p)) status place
        ∙ taken (takes_urn (get_or sl.status c Open) (get_or rl c []) p) (below (get_or rl c []) p)
      where
        c : ℕ
        c = u.cat

        p : Parts
        p = u.path

        status : get_or (sr.status ++ sl.status) (n + c) Open ≡ get_or sl.status c Open
        status = ap (λ z. get_or (sr.status ++ sl.status) (z + c) Open) (sym gr.sized) ∙ get_or-append-add sr.status sl.status c Open

        place : get_or (row_of both now.signal) (n + c) [] ≡ get_or rl c []
        place = ap₂ (λ z k. get_or z (k + c) []) pair-places (sym wide) ∙ get_or-append-add rr rl c []

        stored : (x : Status) → set (sr.status ++ sl.status) (n + c) x ≡ sr.status ++ set sl.status c x
        stored x = ap (λ z. set (sr.status ++ sl.status) (z + c) x) (sym gr.sized) ∙ set-append-add sr.status sl.status c x

        moves : (o : Option Hit) → move (env_of both) now (n + c) p (lamp_hit o) ≡ pair_state lamp sr (move (env_of lamp) sl c p o)
        moves none = refl
        moves (some k) =
            ap (λ z. record { signal = pair_number lamp sr.signal k.signal; status = z })
            (stored (open_or (same_parts k.at p) (held_if (is_inner (nodes both) (n + c) p) p))
            ∙ ap (λ z. sr.status ++ set sl.status c (open_or (same_parts k.at p) (held_if z p)))
            (inner-same (nodes both) (nodes lamp) (n + c) c (lamp-node ring lamp known wr wl c) p))

        taken : (b : Bool) (o : Option Parts) → if_taken (env_of both) now (n + c) p b o ≡ pair_state lamp sr (if_taken (env_of lamp) sl c p b o)
        taken false o = refl
        taken true none = refl
        taken true (some r) =
            ap₂ (λ x y. move (env_of both) now (n + c) p (first_hit (env_of both) x (n + c) (candidates y r))) pair-places place
            ∙ ap (move (env_of both) now (n + c) p) (lamp-search c (candidates (get_or rl c []) r))
            ∙ moves (first_hit (env_of lamp) rl c (candidates (get_or rl c []) r))
