-- What the builder writes is the image of the table's machine.
use Prim.Native.Nat.{ℕ, zero, suc, ◌+◌, ◌-◌, ◌*◌, ◌/◌, ◌%◌, ◌≤◌, ◌<◌}
use mathlib.Core.Path.{◌≡◌, refl, sym, ap, ap₂, ◌∙◌}
use mathlib.Core.Bool.{Bool, true, false, cond}
use mathlib.Core.List.{List, [], ◌∷◌, ◌++◌, map}
use lib.Dec.{eqb, ltb}
use borrow.Author.Tests.{ltb-false, eq-eqb}
use lib.ListN.{length, get_or, take, replicate, length-map}
use lib.Seq.{take_all}
use native.Mathlib.Omega.{arith}
use native.Mathlib.Nat.{zero-add}
use Rattle.base_numbers.specs.Numbers.{most_nodes, most_states}
use Rattle.std.specs.Prelude.{Ok, Err}
use Rattle.base_numbers.specs.Refusals.{refusal_number}
use Rattle.base_bytes.specs.declared.Built.{Built}
use Rattle.base_numbers.specs.declared.refusal.Refusal.TheVariants.{TooManyStates, ImageNoRoom}
use Rattle.base_lists.proofs.Each.{each_last}
use Rattle.base_lists.proofs.Tabulated.{tabulate-entries}
use Rattle.base_lists.proofs.Lists.{mem-at, map_at}
use Rattle.base_lists.specs.Lists.{each}
use Rattle.theory_resolution.specs.Table.{Table, WellFormed}
use Rattle.theory_resolution.specs.Direct.{start, same_state, StateOf}
use Rattle.theory_resolution.specs.Symbols.{symbols, step_at}
use Rattle.theory_resolution.specs.Discovery.{targets}
use Rattle.theory_resolution.specs.Machine.{MachineState}
use Rattle.theory_resolution.specs.Build.{discovered}
use Rattle.theory_resolution.specs.Nodes.{nodes}
use Rattle.node_search.specs.Arrays.{InnerIn}
use Rattle.node_step.specs.Rows.{Numbers}
use Rattle.node_step.specs.Step.{digit, coded}
use Rattle.node_step.specs.StatusByte.{byte_of}
use Rattle.node_step.specs.declared.stored.Packed.{Packed}
use Rattle.node_step.proofs.ByteLaws.{packed-digit}
use Rattle.node_step.proofs.Both.{coded-at}
use Rattle.machine_image.specs.Image.{status_byte, status_bytes, state_bytes, image_of, machine_image}
use Rattle.machine_image.proofs.Statuses.{bytes-length, bytes-at, status-coded}
use Rattle.machine_image.specs.Refusals.{build_refusal, build_length, buffer_of}
use Rattle.machine_image.proofs.Build.{own-length}
use Rattle.machine_build.specs.Built.{built_of}
use Rattle.machine_symbols.specs.Listed.{SymbolsIn}
use Rattle.machine_symbols.specs.Steps.{begin, next_state}
use Rattle.machine_build.specs.States.{head_bytes, found, pair_bytes, bytes_of, states_bytes, image_by, size_by, built_by, buffer_by, answer_of}
use Rattle.machine_symbols.proofs.StepRight.{code}
use Rattle.machine_build.proofs.StatesRight.{found-code, all_found, targets-found}
use Rattle.theory_resolution.specs.Direct as direct

map-take : {A B : Type 0} (f : A → B) (l : List A) (k : ℕ) (d : A) → k < length l → map f (take (suc k) l) ≡ map f (take k l) ++ f (get_or l k d) ∷ []
map-take f [] k d h = absurd (omega arith)
map-take f (x ∷ l) zero d h = refl
map-take f (x ∷ l) (suc k) d h = ap (λ z. f x ∷ z) (map-take f l k d (omega arith))

-- a state's bytes before its row
pair-right : (T : Table) → T.cats ≤ 8 → length (nodes T) ≤ most_nodes → (st : direct.State) → StateOf T st → pair_bytes T.cats (code T st)
    ≡ st.signal ∷ status_bytes (nodes T) 0 st.status
pair-right T eight few st g =
    ap (λ z. st.signal ∷ z)
    (tabulate-entries 0 (status_bytes (nodes T) 0 st.status) (digit (code T st).statuses) T.cats (bytes-length (nodes T) 0 st.status ∙ g.sized)
    (λ c h.
    packed-digit (coded T st).categories c (omega arith)
    ∙ ap byte_of (coded-at T st c (omega arith))
    ∙ status-coded T c [] few (get_or st.status c direct.Open)
    ∙ sym (bytes-at (nodes T) 0 st.status c (omega (arith, g.sized)) ∙ ap (λ z. status_byte (nodes T) z (get_or st.status c direct.Open)) (zero-add c))))

module _ (T : Table) (wf : WellFormed T) (rows ps : List ℕ) (signals : ℕ) (nu : Numbers rows ps signals T) (sy : List ℕ) (count : ℕ) (si : SymbolsIn T sy count)
    (inner : List Bool) (ii : InnerIn inner T) where
  abbrev next : Packed → ℕ → Packed
  next = next_state rows ps inner signals sy

  abbrev first : direct.State
  first = start T.cats

  abbrev states : List direct.State
  states = discovered T most_states

  abbrev made : direct.State → MachineState
  made st = record { pair = st; row = targets same_state (step_at T) (length (symbols T)) states st }

  row-right : (st : direct.State) → StateOf T st → bytes_of next T.cats count (map (code T) states) (code T st) ≡ state_bytes (nodes T) (made st)
  unfolding bytes_of
  row-right st g =
      ap₂ (λ x y. x ++ y) (pair-right T nu.few-cats nu.few-nodes st g)
      (targets-found T wf rows ps signals nu sy count si inner ii states st g (all_found T wf rows ps signals nu sy count si inner ii most_states))

  rows_right : (i : ℕ) → i ≤ length states → states_bytes next T.cats count (map (code T) states) i ≡ each (state_bytes (nodes T)) (map made (take i states))
  unfolding states_bytes each
  rows_right zero h = refl
  rows_right (suc i) h =
      ap₂ ◌++◌ (rows_right i (omega arith))
      (ap (bytes_of next T.cats count (map (code T) states)) (map_at (code T) states i first begin h)
      ∙ row-right (get_or states i first) (all_found T wf rows ps signals nu sy count si inner ii most_states (get_or states i first) (mem-at states i first h)))
      ∙ sym (each_last (state_bytes (nodes T)) (map made (take i states)) (made (get_or states i first)))
      ∙ ap (each (state_bytes (nodes T))) (sym (map-take made states i first h))

  found-length : length (found next count most_states) ≡ length states
  found-length = ap length (found-code T wf rows ps signals nu sy count si inner ii most_states) ∙ length-map states (code T)

  pub image-right : image_by next T.cats count sy ≡ machine_image T
  unfolding image_by image_of
  image-right =
      ap₂ (λ n r. head_bytes sy count n ++ r) (found-length ∙ sym (length-map states made))
      (ap₂ (states_bytes next T.cats count) (found-code T wf rows ps signals nu sy count si inner ii most_states) found-length
      ∙ rows_right (length states) (omega arith) ∙ ap (λ z. each (state_bytes (nodes T)) (map made z)) (take_all (length states) states (omega arith)))
      ∙ ap₂ (λ c s. c ∷ s ++ length (map made states) % 256 ∷ length (map made states) / 256 ∷ [] ++ each (state_bytes (nodes T))
      (map made states)) (sym si.all-symbols) si.held

  size-right : length states ≤ most_states → size_by next T.cats count ≡ length (machine_image T)
  size-right h = ap₂ (λ n c. 3 + 3 * c + n * (c + T.cats + 1)) found-length (sym si.all-symbols) ∙ sym (own-length T wf h)

  pub built-right : (room : ℕ) → answer_of (built_by next T.cats count room) ≡ built_of T room
  unfolding built_by build_refusal build_length refusal_number
  built-right room =
      ap (λ n. answer_of (cond (ltb most_states n) (Err TooManyStates) (cond (ltb room (size_by next T.cats count)) (Err ImageNoRoom)
      (Ok (size_by next T.cats count))))) found-length
      ∙ go (ltb most_states (length states)) refl
    where
      by : (b : Bool) (n : ℕ)
          → answer_of (cond b (Err ImageNoRoom) (Ok n)) ≡ record { refusal = cond b 14 0; len = cond (eqb (cond b 14 0) 0) n 0 }
      by true n = refl
      by false n = refl

      go : (b : Bool) → ltb most_states (length states) ≡ b
          → answer_of (cond b (Err TooManyStates) (cond (ltb room (size_by next T.cats count)) (Err ImageNoRoom) (Ok (size_by next T.cats count))))
          ≡ record {
            refusal = cond b 13 (cond (ltb room (length (machine_image T))) 14 0);
            len = cond (eqb (cond b 13 (cond (ltb room (length (machine_image T))) 14 0)) 0) (length (machine_image T)) 0;
          }
      go true e = refl
      go false e =
          ap (λ n. answer_of (cond (ltb room n) (Err ImageNoRoom) (Ok n))) (size-right (ltb-false most_states (length states) e))
          ∙ by (ltb room (length (machine_image T))) (length (machine_image T))

  -- the buffer, where there is room
  module _ (room : ℕ) where
    abbrev refusal : ℕ
    refusal = build_refusal T room

    within : refusal ≡ 0 → length states ≤ most_states
    unfolding build_refusal
    within e = go (ltb most_states (length states)) refl
      where
        go : (b : Bool) → ltb most_states (length states) ≡ b → length states ≤ most_states
        go false f = ltb-false most_states (length states) f
        go true f = absurd (omega (arith, sym (ap (λ b. cond b 13 (cond (ltb room (length (machine_image T))) 14 0)) f) ∙ e))

    pub buffer-right : {n : ℕ} → Ok n ≡ built_by next T.cats count room → buffer_by next T.cats count sy room ≡ buffer_of T room
    unfolding buffer_by buffer_of
    buffer-right {n} v =
        let e : refusal ≡ 0 = ap (λ (b : Built). b.refusal) (sym (ap answer_of v ∙ built-right room)) in
        let few : length states ≤ most_states = within e in
        ap₂ (λ x n. x ++ replicate (room - n) 0) image-right (size-right few) ∙ sym (rw (eq-eqb refusal 0 e))
