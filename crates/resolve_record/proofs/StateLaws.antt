-- A carried state: its statuses as bytes, as the code has them and as the theory has them.
use Prim.Native.Nat.{ℕ, zero, suc, ◌≤◌, ◌<◌}
use mathlib.Core.Path.{◌≡◌, refl, sym, ap, ◌∙◌}
use mathlib.Core.Bool.{true}
use mathlib.Core.List.{List, []}
use lib.ListN.{length, get_or, replicate, length-replicate, get_or-eq_default}
use borrow.Author.Tests.{eq-eqb, eqb-true}
use native.Mathlib.Decide.{dec_lt}
use native.Mathlib.Nat.{zero-add}
use native.Mathlib.Omega.{arith}
use Rattle.base_numbers.specs.Numbers.{most_nodes}
use Rattle.base_lists.proofs.Tabulated.{tabulate-length, tabulate-at, tabulate-same, tabulate-entries}
use Rattle.base_lists.specs.Lists.{tabulate}
use Rattle.theory_resolution.specs.Table.{Table, place, row_of}
use Rattle.theory_resolution.specs.Nodes.{nodes}
use Rattle.theory_resolution.specs.Direct.{Open, State, start, StateOf}
use Rattle.theory_resolution.specs.Direct as direct
use Rattle.theory_resolution.proofs.Table.{row-place}
use Rattle.theory_resolution.proofs.TableStep.{state-of, state-signal}
use Rattle.node_step.specs.declared.Status.TheVariants as node
use Rattle.node_step.specs.Step.{coded_status, coded}
use Rattle.node_step.specs.StatusByte.{byte_of, status_of}
use Rattle.node_step.proofs.ProgressLaws.{progress-length, progress-at}
use Rattle.node_step.proofs.Both.{coded-at}
use Rattle.machine_image.specs.Image.{status_byte}
use Rattle.machine_image.specs.Image as image
use Rattle.machine_image.proofs.Statuses.{byte-coded, byte_fits_lem, status-read, status-formed, status-coded}
use Rattle.resolve_record.specs.declared.Carried.{Carried}
use Rattle.resolve_record.specs.Record.{fresh, status_in, byte_in, state_in, carried_as, status_fits, CarriedBack}
use Rattle.resolve_record.specs.Coded.{Fits, progress_at, byte_at, state_with, carried_with}
use Rattle.resolve_record.proofs.FitLaws.{fits-known, fits-lacking}

-- a category without a status
past_open : (l : List direct.Status) (c : ℕ) → length l ≤ c → get_or l c Open ≡ Open
past_open l c h = get_or-eq_default l Open h

module _ (T : Table) (few : T.cats ≤ 8) where
  -- the state that a fitting record carries, as the code has it
  module _ (r : Carried) (wide : length r.status ≡ 8) (fit : Fits T r) where
    at-category : (c : ℕ) → c < 8 → status_of (get_or r.status c 0) ≡ coded_status (nodes T) c (get_or (tabulate (status_in T r) T.cats) c Open)
    at-category c h = go (dec_lt c T.cats)
      where
        go : Dec (c < T.cats) → status_of (get_or r.status c 0) ≡ coded_status (nodes T) c (get_or (tabulate (status_in T r) T.cats) c Open)
        go (yes i) =
            sym (ap (coded_status (nodes T) c) (tabulate-at (status_in T r) T.cats c Open i)
            ∙ byte-coded T c (place T r.signal c) (get_or r.status c 0) (sym (fits-known T r c i) ∙ fit.statuses c (omega (arith, wide))))
        go (no i) =
            ap status_of (eqb-true (get_or r.status c 0) 0 (sym (fits-lacking T r c (omega arith)) ∙ fit.statuses c (omega (arith, wide))))
            ∙ sym (ap (coded_status (nodes T) c) (past_open (tabulate (status_in T r) T.cats) c (omega (arith, tabulate-length (status_in T r) T.cats))))

    pub state-coded : state_with r ≡ coded T (state_in T r)
    state-coded =
        ap (λ l. record { signal = r.signal; categories = l })
        (tabulate-entries (record { status = node.Open }) (coded T (state_in T r)).categories (progress_at r.status) 8
        (progress-length (nodes T) (state_in T r).status 0 8)
        (λ c h. ap (λ s. record { status = s }) (at-category c h)
        ∙ sym (progress-at (nodes T) (state_in T r).status 0 8 c (record { status = node.Open }) h
        ∙ ap (λ z. record { status = coded_status (nodes T) z (get_or (state_in T r).status z Open) }) (zero-add c))))

    -- it is a state of the table
    pub carried-state : ((i j : ℕ) → i < length T.signals → j < length T.signals → row_of T i ≡ row_of T j → i ≡ j) → StateOf T (state_in T r)
    carried-state apart =
        state-of T apart (state_in T r) fit.signal (tabulate-length (status_in T r) T.cats)
        (λ c h. ap (λ s. direct.status_fits (nodes T) c (get_or (row_of T r.signal) c []) s) (tabulate-at (status_in T r) T.cats c Open h)
        ∙ ap (λ p. direct.status_fits (nodes T) c p (status_in T r c)) (row-place T r.signal c h)
        ∙ byte_fits_lem T c (place T r.signal c) (get_or r.status c 0) (sym (fits-known T r c h) ∙ fit.statuses c (omega (arith, wide))))

  -- a state of the table, carried
  module _ (st : State) (g : StateOf T st) (n : ℕ) where
    fits-place : (c : ℕ) → c < T.cats → direct.status_fits (nodes T) c (place T st.signal c) (get_or st.status c Open) ≡ true
    fits-place c h = ap (λ p. direct.status_fits (nodes T) c p (get_or st.status c Open)) (sym (row-place T st.signal c h)) ∙ g.fits c h

    byte-of : (c : ℕ) → c < 8 → get_or (carried_as T st n).status c 0 ≡ byte_in T st c
    byte-of c h = tabulate-at (byte_in T st) 8 c 0 h

    pub as_fits : n ≤ 16 → Fits T (carried_as T st n)
    as_fits h =
        record {
          signal = state-signal T st g;
          values = h;
          statuses = λ c i. each c (omega (arith, tabulate-length (byte_in T st) 8)) (dec_lt c T.cats);
        }
      where
        each : (c : ℕ) → c < 8 → Dec (c < T.cats) → status_fits T (carried_as T st n) c ≡ true
        each c i (yes j) =
            fits-known T (carried_as T st n) c j ∙ rw (byte-of c i) (status-formed T c (place T st.signal c) (get_or st.status c Open) (fits-place c j))
        each c i (no j) =
            fits-lacking T (carried_as T st n) c (omega arith)
            ∙ eq-eqb (get_or (carried_as T st n).status c 0) 0 (byte-of c i ∙ ap (status_byte (nodes T) c) (past_open st.status c (omega (arith, g.sized))))

    pub state-again : state_in T (carried_as T st n) ≡ st
    state-again =
        ap (λ l. record { signal = st.signal; status = l })
        (tabulate-entries Open st.status (status_in T (carried_as T st n)) T.cats g.sized
        (λ c h. ap (image.status_of (nodes T)) (byte-of c (omega arith)) ∙ status-read T c (place T st.signal c) (get_or st.status c Open) (fits-place c h)))

  pub as_wide : (st : State) (n : ℕ) → length (carried_as T st n).status ≡ 8
  as_wide st n = tabulate-length (byte_in T st) 8

  -- the code's state, carried
  pub carried-coded : length (nodes T) ≤ most_nodes → (st : State) (n : ℕ) → carried_with (coded T st) n ≡ carried_as T st n
  carried-coded nodes-few st n =
      ap (λ l. record { signal = st.signal; status = l; values = n })
      (tabulate-same (byte_at (coded T st).categories) (byte_in T st) 8
      (λ c h. ap byte_of (coded-at T st c h) ∙ status-coded T c [] nodes-few (get_or st.status c Open)))

  -- a fresh record is the start, carried
  pub fresh-is : fresh ≡ carried_as T (start T.cats) 0
  fresh-is =
      ap (λ l. record { signal = 0; status = l; values = 0 })
      (sym (tabulate-entries 0 (replicate 8 0) (byte_in T (start T.cats)) 8 (length-replicate {A = ℕ} 8 0)
      (λ c h. ap (status_byte (nodes T) c) (every-open T.cats c) ∙ sym (every-zero 8 c))))
    where
      every-open : (n c : ℕ) → get_or (replicate n Open) c Open ≡ Open
      every-open zero c = refl
      every-open (suc n) zero = refl
      every-open (suc n) (suc c) = every-open n c

      every-zero : (n c : ℕ) → get_or {A = ℕ} (replicate n 0) c 0 ≡ 0
      every-zero zero c = refl
      every-zero (suc n) zero = refl
      every-zero (suc n) (suc c) = every-zero n c

pub carried-back : CarriedBack
carried-back T st n few g = state-again T few st g n
