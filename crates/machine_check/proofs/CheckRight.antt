-- What the checker says over the arrays is what it should say of the image.
use Prim.Native.Nat.{ℕ, zero, suc, ◌+◌, ◌*◌, ◌≤◌, ◌<◌}
use mathlib.Core.Path.{◌≡◌, refl, sym, ap, ap₂, subst, ◌∙◌}
use mathlib.Core.Bool.{Bool, true, false, cond, ◌&&◌}
use mathlib.Core.List.{List, []}
use lib.Dec.{eqb, ltb, leb}
use borrow.Author.Tests.{le-leb, lt-ltb, ltb-true}
use lib.ListN.{length, get_or, take, drop, get_or-eq_default}
use native.Mathlib.Omega.{arith}
use native.Mathlib.Nat.{add-zero, zero-add}
use Rattle.std.specs.Prelude.{Ok, Err}
use Rattle.base_numbers.specs.Refusals.{refusal_number}
use Rattle.base_numbers.specs.declared.refusal.Refusal.TheVariants.{ImageBadForm, ImageWrongStart, ImageWrongTarget}
use Rattle.base_numbers.specs.Numbers.{most_states, most_symbols}
use Rattle.base_lists.proofs.Below.{all_same}
use Rattle.base_lists.specs.Numbers.{word_of}
use Rattle.base_lists.proofs.Tabulated.{tabulate-length, tabulate-at}
use Rattle.base_lists.specs.Lists.{all_below, tabulate}
use Rattle.theory_resolution.specs.Names.{same_name}
use Rattle.theory_resolution.specs.Table.{Table, WellFormed, row_of, place}
use Rattle.theory_resolution.specs.Nodes.{nodes}
use Rattle.theory_resolution.specs.Direct.{start, same_state, status_fits, StateOf}
use Rattle.theory_resolution.specs.Symbols.{symbol_at, steps_as, step_at}
use Rattle.theory_resolution.specs.Machine.{machine_state, target, target_right, row_right}
use Rattle.theory_resolution.proofs.Table.{row-place}
use Rattle.theory_resolution.proofs.TableStep.{state-of, state-start, state-step}
use Rattle.node_search.specs.Arrays.{NodesIn, InnerIn}
use Rattle.node_step.specs.Rows.{Numbers}
use Rattle.node_step.specs.Step.{coded, coded_status, status_in}
use Rattle.node_step.specs.StatusByte.{byte_of, packed, same_packed, fits_by}
use Rattle.node_step.specs.declared.Progress.{Progress}
use Rattle.node_step.specs.declared.stored.Packed.{Packed}
use Rattle.node_step.proofs.Both.{packed-test, coded-at}
use Rattle.machine_image.specs.Image.{symbol_count, state_count, place_of, signal_in, byte_in, target_in, machine_in}
use Rattle.machine_image.specs.Refusals.{status_formed, target_below, state_formed, form_of, check_of, form_over}
use Rattle.machine_image.proofs.Statuses.{status-coded, byte-again, byte_fits_lem, fits-right}
use Rattle.machine_image.proofs.Form.{Formed, form-to, form-symbols}
use Rattle.machine_image.proofs.Check.{machine-states}
use Rattle.machine_image.proofs.Walk.{machine-state-in, machine-target}
use Rattle.machine_symbols.specs.Listed.{SymbolsIn}
use Rattle.machine_symbols.specs.Steps.{begin, next_state}
use Rattle.machine_check.specs.Checks.{packed_in, status_formed_by, state_formed_by, form_by, target_right_by, row_right_by, check_by, check_number}
use Rattle.machine_symbols.proofs.StepRight.{code, code-start, next-code}
use Rattle.theory_resolution.specs.Direct as direct
use Rattle.machine_image.specs.Image as image

-- categories that are all open have no byte
packed_none : (l : List Progress) (n c : ℕ) → ((k : ℕ) → k < n → byte_of (status_in l (c + k)) ≡ 0) → 0 ≡ packed l c n
unfolding packed
packed_none l zero c h = refl
packed_none l (suc n) c h =
    omega (
      arith,
      ap (λ z. byte_of (status_in l z)) (sym (add-zero c)) ∙ h 0 (omega arith),
      packed_none l n (suc c) (λ k i. ap (λ z. byte_of (status_in l z)) (the (suc c + k ≡ c + suc k) (omega arith)) ∙ h (suc k) (omega arith)),
    )
  where
    the : (A : Type 0) → A → A
    the A x = x

-- m bytes are those of the first m categories, where the others are open
packed-from : (im : List ℕ) (l : List Progress) (m n i c : ℕ) → m ≤ n → ((k : ℕ) → k < m → get_or im (i + k) 0 ≡ byte_of (status_in l (c + k)))
    → ((k : ℕ) → m ≤ k → k < n → byte_of (status_in l (c + k)) ≡ 0) → word_of im i m ≡ packed l c n
unfolding packed
packed-from im l zero n i c a h o = packed_none l n c (λ k j. o k (omega arith) j)
packed-from im l (suc m) zero i c a h o = absurd (omega arith)
packed-from im l (suc m) (suc n) i c a h o =
    ap₂ (λ x y. x + 256 * y)
    (ap (λ z. get_or im z 0) (sym (add-zero i)) ∙ h 0 (omega arith) ∙ ap (λ z. byte_of (status_in l z)) (add-zero c))
    (packed-from im l m n (i + 1) (suc c) (omega arith)
    (λ k j. ap (λ z. get_or im z 0) (the (i + 1 + k ≡ i + suc k) (omega arith)) ∙ h (suc k) (omega arith)
    ∙ ap (λ z. byte_of (status_in l z)) (the (c + suc k ≡ suc c + k) (omega arith)))
    (λ k j q. ap (λ z. byte_of (status_in l z)) (the (suc c + k ≡ c + suc k) (omega arith)) ∙ o (suc k) (omega arith) (omega arith)))
  where
    the : (A : Type 0) → A → A
    the A x = x

module _ (t ca pos len : List ℕ) (n : ℕ) (T : Table) (ni : NodesIn t ca pos len n T) (wf : WellFormed T)
    (apart : (i j : ℕ) → i < length T.signals → j < length T.signals → row_of T i ≡ row_of T j → i ≡ j)
    (rows ps : List ℕ) (signals : ℕ) (nu : Numbers rows ps signals T) (inner : List Bool) (ii : InnerIn inner T) (sy : List ℕ) (count : ℕ)
    (si : SymbolsIn T sy count) (im : List ℕ) where
  abbrev next : Packed → ℕ → Packed
  next = next_state rows ps inner signals sy

  abbrev fits : ℕ → ℕ → ℕ → Bool
  fits = fits_by rows ps inner ca n

  -- the form, over the table's categories or fewer
  module _ (k : ℕ) (within : k ≤ T.cats) where
    state-right : (j : ℕ) → state_formed_by fits signals k im j ≡ state_formed k T im j
    unfolding state_formed_by state_formed
    state-right j =
        ap (λ z. ltb (signal_in k im j) z && (all_below k (status_formed_by fits k im j) && all_below (symbol_count im) (target_below k im j))) (sym nu.all-signals)
        ∙ go (ltb (signal_in k im j) (length T.signals)) refl
      where
        go : (b : Bool) → ltb (signal_in k im j) (length T.signals) ≡ b
            → (b && (all_below k (status_formed_by fits k im j) && all_below (symbol_count im) (target_below k im j)))
            ≡ (b && (all_below k (status_formed k T im j) && all_below (symbol_count im) (target_below k im j)))
        go false e = refl
        go true e =
            let l : signal_in k im j < signals = omega (arith, ltb-true (signal_in k im j) (length T.signals) e, nu.all-signals) in
            ap (λ z. z && all_below (symbol_count im) (target_below k im j))
            (all_same k (status_formed_by fits k im j) (status_formed k T im j)
            (λ c h. fits-right t ca pos len n T ni wf rows ps signals nu inner ii (signal_in k im j) c l (omega (arith, within)) (byte_in k im j c)))

    pub form-over : form_by fits sy count signals k im ≡ form_over k T im
    unfolding form_by form_over
    form-over =
        rw (le-leb k 8 (omega (arith, within, nu.few-cats)), le-leb count most_symbols si.few-symbols)
        (ap₂ (λ x y. leb (3 + 3 * symbol_count im) (length im) && (eqb (length im) (place_of k im (state_count im))
        && (same_name (take (3 * symbol_count im) (drop 1 im)) x && (leb 1 (state_count im) && (leb (state_count im) most_states && y)))))
        si.held (all_same (state_count im) (state_formed_by fits signals k im) (state_formed k T im) (λ j h. state-right j)))

  pub form-right : form_by fits sy count signals T.cats im ≡ form_of T im
  form-right = form-over T.cats (omega arith)

  module _ (ok : Formed T im) where
    abbrev pair : ℕ → direct.State
    pair j = record { signal = signal_in T.cats im j; status = tabulate (image.status_in T im j) T.cats }

    status-at : (j c : ℕ) → c < T.cats → get_or (pair j).status c direct.Open ≡ image.status_in T im j c
    status-at j c h = tabulate-at (image.status_in T im j) T.cats c direct.Open h

    is_state : (j : ℕ) → j < state_count im → StateOf T (pair j)
    is_state j h =
        state-of T apart (pair j) (ok.signal-listed j h) (tabulate-length (image.status_in T im j) T.cats)
        (λ c i.
        ap₂ (status_fits (nodes T) c) (row-place T (signal_in T.cats im j) c i) (status-at j c i)
        ∙ byte_fits_lem T c (place T (signal_in T.cats im j) c) (byte_in T.cats im j c) (ok.status-formed j c h i))

    pair_code : (j : ℕ) → j < state_count im → packed_in T.cats im j ≡ code T (pair j)
    pair_code j h =
        ap (λ z. record { signal = signal_in T.cats im j; statuses = z })
        (packed-from im (coded T (pair j)).categories T.cats 8 (place_of T.cats im j + 1) 0 nu.few-cats (λ c i. sym (low c i)) (λ c i l. high c i l))
      where
        low : (c : ℕ) → c < T.cats → byte_of (status_in (coded T (pair j)).categories (0 + c)) ≡ byte_in T.cats im j c
        low c i =
            ap (λ z. byte_of (status_in (coded T (pair j)).categories z)) (zero-add c)
            ∙ ap byte_of (coded-at T (pair j) c (omega (arith, nu.few-cats)) ∙ ap (coded_status (nodes T) c) (status-at j c i))
            ∙ status-coded T c [] nu.few-nodes (image.status_in T im j c)
            ∙ byte-again T c (place T (signal_in T.cats im j) c) (byte_in T.cats im j c) (ok.status-formed j c h i)

        high : (c : ℕ) → T.cats ≤ c → c < 8 → byte_of (status_in (coded T (pair j)).categories (0 + c)) ≡ 0
        high c i l =
            ap (λ z. byte_of (status_in (coded T (pair j)).categories z)) (zero-add c)
            ∙ ap byte_of (coded-at T (pair j) c l ∙ ap (coded_status (nodes T) c) (get_or-eq_default (pair j).status direct.Open {n =
            c} (omega (arith, tabulate-length (image.status_in T im j) T.cats))))

    pair_is : (j : ℕ) → j < state_count im → (machine_state (machine_in T im) j).pair ≡ pair j
    pair_is j h = ap (λ z. z.pair) (machine-state-in T im j h)

    tests : (a b : direct.State) → StateOf T a → StateOf T b → same_packed (code T a) (code T b) ≡ same_state a b
    tests = packed-test T nu.few-cats nu.few-nodes

    begins : same_packed (packed_in T.cats im 0) begin ≡ same_state (machine_state (machine_in T im) 0).pair (start T.cats)
    begins =
        ap₂ same_packed (pair_code 0 ok.some-state) (sym (code-start T T.cats))
        ∙ tests (pair 0) (start T.cats) (is_state 0 ok.some-state) (state-start T wf)
        ∙ ap (λ z. same_state z (start T.cats)) (sym (pair_is 0 ok.some-state))

    target_right_lem : (j k : ℕ) → j < state_count im → k < count → target_right_by next T.cats im j k ≡ target_right T (machine_in T im) j k
    unfolding target_right_by
    target_right_lem j k h i =
        let s : k < symbol_count im = omega (arith, form-symbols T im ok, si.all-symbols) in
        let l : target_in T.cats im j k < state_count im = ok.leads j k h s in
        let g = is_state j h in
        let e : target (machine_in T im) j k ≡ target_in T.cats im j k = machine-target T im j k h s in
        ap₂ same_packed (pair_code (target_in T.cats im j k) l) (ap (λ z. next z k) (pair_code j h)
        ∙ next-code T wf rows ps signals nu sy count si inner ii (pair j) k g i)
        ∙ tests (pair (target_in T.cats im j k)) (step_at T (pair j) k) (is_state (target_in T.cats im j k) l)
        (state-step T wf (pair j) (steps_as (symbol_at T k)) g)
        ∙ ap₂ same_state (sym (pair_is (target_in T.cats im j k) l)) (ap (λ z. step_at T z k) (sym (pair_is j h)))
        ∙ sym (ap (λ z. ltb z (length (machine_in T im)) && same_state (machine_state (machine_in T im) z).pair
        (step_at T (machine_state (machine_in T im) j).pair k)) e
        ∙ ap (λ b. b && same_state (machine_state (machine_in T im) (target_in T.cats im j k)).pair (step_at T (machine_state (machine_in T im) j).pair k))
        (lt-ltb (target_in T.cats im j k) (length (machine_in T im)) (subst (λ (z : ℕ). target_in T.cats im j k < z) (sym (machine-states T im)) l)))

    rows_right : all_below (state_count im) (row_right_by next count T.cats im) ≡ all_below (length (machine_in T im)) (row_right T (machine_in T im))
    unfolding row_right_by
    rows_right =
        all_same (state_count im) (row_right_by next count T.cats im) (row_right T (machine_in T im))
        (λ j h. all_same count (target_right_by next T.cats im j) (target_right T (machine_in T im) j) (λ k i. target_right_lem j k h i)
        ∙ ap (λ n. all_below n (target_right T (machine_in T im) j)) (sym si.all-symbols))
        ∙ ap (λ n. all_below n (row_right T (machine_in T im))) (sym (machine-states T im))

  pub check-right : check_number (check_by fits next sy count signals T.cats im) ≡ check_of T im
  unfolding check_by check_of refusal_number
  check-right =
      ap (λ (b : Bool). check_number (cond b (cond (same_packed (packed_in T.cats im 0) begin)
      (cond (all_below (state_count im) (row_right_by next count T.cats im)) (Ok tt) (Err ImageWrongTarget)) (Err ImageWrongStart)) (Err ImageBadForm))) form-right
      ∙ go (form_of T im) refl
    where
      numbers : (x y : Bool) → check_number (cond x (cond y (Ok tt) (Err ImageWrongTarget)) (Err ImageWrongStart)) ≡ cond x (cond y 0 17) 16
      numbers true true = refl
      numbers true false = refl
      numbers false y = refl

      go : (b : Bool) → form_of T im ≡ b
          → check_number (cond b (cond (same_packed (packed_in T.cats im 0) begin)
          (cond (all_below (state_count im) (row_right_by next count T.cats im)) (Ok tt) (Err ImageWrongTarget)) (Err ImageWrongStart)) (Err ImageBadForm))
          ≡ cond b (cond (same_state (machine_state (machine_in T im) 0).pair (start T.cats))
          (cond (all_below (length (machine_in T im)) (row_right T (machine_in T im))) 0 17) 16) 15
      go false e = refl
      go true e = let ok = form-to T im e in
          numbers (same_packed (packed_in T.cats im 0) begin) (all_below (state_count im) (row_right_by next count T.cats im))
          ∙ ap₂ (λ (x : Bool) (y : Bool). cond {A = ℕ} x (cond y 0 17) 16) (begins ok) (rows_right ok)
