-- The test of a record: by the arrays of a table, and in words.
use Prim.Native.Nat.{ℕ, ◌≤◌, ◌<◌}
use mathlib.Core.Path.{◌≡◌, refl, sym, ap, ◌∙◌}
use mathlib.Core.Logic.{inl}
use mathlib.Core.Bool.{Bool, true, false, cond, ◌&&◌, and-eq-true_iff}
use mathlib.Core.List.{List}
use lib.Dec.{eqb, leb, ltb}
use lib.ListN.{length, get_or, get_or-eq_default}
use borrow.Author.Tests.{eq-eqb, eqb-true, leb-true, le-leb, lt-ltb, le-ltb, ltb-true, ltb-false}
use native.Mathlib.Decide.{dec_lt}
use native.Mathlib.Omega.{arith}
use Rattle.base_lists.proofs.Below.{all-to, all_of, all_same}
use Rattle.base_lists.specs.Lists.{all_below}
use Rattle.base_lists.proofs.Bools.{by_test}
use Rattle.theory_resolution.specs.Table.{Table, WellFormed, place}
use Rattle.theory_resolution.specs.Nodes.{nodes}
use Rattle.node_search.specs.Arrays.{NodesIn, InnerIn}
use Rattle.node_step.specs.Rows.{Numbers}
use Rattle.node_step.specs.StatusByte as node
use Rattle.machine_image.specs.Refusals.{byte_fits}
use Rattle.machine_image.specs.Positions.{ByteOf}
use Rattle.machine_image.proofs.Statuses.{byte-told, fits-right}
use Rattle.resolve_record.specs.declared.Carried.{Carried}
use Rattle.resolve_record.specs.Record.{status_fits, carried_fits, Fitting, FitsExactly}
use Rattle.resolve_record.specs.Coded.{status_by, status_at, fits_by, Fits}

-- by the arrays of a table it is the test of the table
module _ (t ca pos len : List ℕ) (n : ℕ) (T : Table) (ni : NodesIn t ca pos len n T) (wf : WellFormed T) (rows ps : List ℕ) (signals : ℕ)
    (nu : Numbers rows ps signals T)
    (inner : List Bool) (ii : InnerIn inner T) (r : Carried) (wide : length r.status ≡ 8) where
  status-right : r.signal < signals → (c : ℕ) → status_at rows ps inner ca n T.cats r.signal r.status c ≡ status_fits T r c
  unfolding status_by
  status-right h c = go (dec_lt c T.cats)
    where
      go : Dec (c < T.cats)
          → cond (ltb c T.cats) (node.fits_by rows ps inner ca n r.signal c (get_or r.status c 0)) (eqb (get_or r.status c 0) 0) ≡ status_fits T r c
      go (yes i) = rw (lt-ltb c T.cats i) (fits-right t ca pos len n T ni wf rows ps signals nu inner ii r.signal c h i (get_or r.status c 0))
      go (no i) = rw (le-ltb c T.cats (omega arith))

  pub record-right : fits_by rows ps inner ca n signals T.cats r ≡ carried_fits T r
  unfolding fits_by carried_fits
  record-right =
      ap (λ z. ltb r.signal z && (leb r.values 16 && all_below 8 (status_at rows ps inner ca n T.cats r.signal r.status))) (sym nu.all-signals)
      ∙ go (ltb r.signal (length T.signals)) refl
    where
      go : (b : Bool) → ltb r.signal (length T.signals) ≡ b
          → (b && (leb r.values 16 && all_below 8 (status_at rows ps inner ca n T.cats r.signal r.status)))
          ≡ (b && (leb r.values 16 && all_below (length r.status) (status_fits T r)))
      go false e = refl
      go true e =
          let h : r.signal < signals = omega (arith, ltb-true r.signal (length T.signals) e, nu.all-signals) in
          ap (λ z. leb r.values 16 && z)
          (all_same 8 (status_at rows ps inner ca n T.cats r.signal r.status) (status_fits T r) (λ c i. status-right h c)
          ∙ ap (λ m. all_below m (status_fits T r)) (sym wide))

-- what a record that fits has
pub fits-to : (T : Table) (r : Carried) → carried_fits T r ≡ true → Fits T r
unfolding carried_fits
fits-to T r e =
    let p = (and-eq-true_iff (ltb r.signal (length T.signals)) (leb r.values 16 && all_below (length r.status) (status_fits T r))).0 e in
    let q = (and-eq-true_iff (leb r.values 16) (all_below (length r.status) (status_fits T r))).0 p.1 in
    record { signal = ltb-true _ _ p.0; values = leb-true _ _ q.0; statuses = all-to (length r.status) (status_fits T r) q.1 }

pub fits-of : (T : Table) (r : Carried) → Fits T r → carried_fits T r ≡ true
unfolding carried_fits
fits-of T r f = simp (lt-ltb _ _ f.signal, le-leb _ _ f.values) (all_of (length r.status) (status_fits T r) f.statuses)

-- one category
module _ (T : Table) (r : Carried) (c : ℕ) where
  pub fits-known : c < T.cats → status_fits T r c ≡ byte_fits (nodes T) c (place T r.signal c) (get_or r.status c 0)
  fits-known h = rw (lt-ltb c T.cats h)

  pub fits-lacking : T.cats ≤ c → status_fits T r c ≡ eqb (get_or r.status c 0) 0
  fits-lacking h = rw (le-ltb c T.cats h)

pub fits-exactly : FitsExactly
fits-exactly T r = (to, from)
  where
    to : carried_fits T r ≡ true → Fitting T r
    to e =
        let f = fits-to T r e in
        record {
          signal = f.signal;
          values = f.values;
          known = λ c h. known f c h (dec_lt c (length r.status));
          lacking = λ c h. lacking f c h (dec_lt c (length r.status));
        }
      where
        past : (c : ℕ) → length r.status ≤ c → get_or r.status c 0 ≡ 0
        past c h = get_or-eq_default r.status 0 h

        known : Fits T r → (c : ℕ) → c < T.cats → Dec (c < length r.status) → ByteOf T c (place T r.signal c) (get_or r.status c 0)
        known f c h (yes i) = (byte-told T c (place T r.signal c) (get_or r.status c 0)).0 (sym (fits-known T r c h) ∙ f.statuses c i)
        known f c h (no i) = inl (omega (arith, past c (omega arith)))

        lacking : Fits T r → (c : ℕ) → T.cats ≤ c → Dec (c < length r.status) → get_or r.status c 0 ≡ 0
        lacking f c h (yes i) = eqb-true (get_or r.status c 0) 0 (sym (fits-lacking T r c h) ∙ f.statuses c i)
        lacking f c h (no i) = past c (omega arith)

    from : Fitting T r → carried_fits T r ≡ true
    from f = fits-of T r (record { signal = f.signal; values = f.values; statuses = λ c h. each c })
      where
        each : (c : ℕ) → status_fits T r c ≡ true
        each c =
            by_test (ltb c T.cats)
            (λ q. let h = ltb-true c T.cats q in fits-known T r c h ∙ (byte-told T c (place T r.signal c) (get_or r.status c 0)).1 (f.known c h))
            (λ q. let h = ltb-false c T.cats q in fits-lacking T r c h ∙ eq-eqb (get_or r.status c 0) 0 (f.lacking c h))
