-- Laws of discovery turn by turn: the bytes written so far are those of the states found, and stay so.
use Prim.Native.Nat.{ℕ, zero, suc, ◌+◌, ◌-◌, ◌*◌, ◌≤◌, ◌<◌}
use mathlib.Core.Path.{◌≡◌, refl, sym, ap, ap₂, subst, ◌∙◌}
use mathlib.Core.Bool.{true}
use mathlib.Core.List.{List, [], ◌∷◌, ◌++◌, append_assoc}
use lib.ListN.{length, get_or, take, drop, length-append, length-drop}
use lib.Seq.{take_at, length-take-le}
use native.Mathlib.Omega.{arith}
use native.Mathlib.Decide.{ℕ_discrete}
use native.Mathlib.Numerals.{add-one}
use native.Mathlib.Nat.{suc-mul, zero-mul}
use Rattle.base_numbers.specs.Numbers.{most_states}
use Rattle.base_lists.proofs.Tabulated.{tabulate-length, tabulate-same}
use Rattle.base_lists.proofs.Lists.{Extends, at-extends}
use Rattle.base_lists.specs.Lists.{member_by, index_by}
use Rattle.theory_resolution.specs.Discovery.{expand, discover, targets}
use Rattle.theory_resolution.proofs.Discovery.{discover-next, discover-extends, discover-closed, discover-done}
use Rattle.node_step.specs.Step.{digit}
use Rattle.node_step.specs.StatusByte.{same_packed}
use Rattle.node_step.specs.declared.stored.Packed.{Packed}
use Rattle.node_step.proofs.PackedStep.{packed-exact}
use Rattle.machine_symbols.specs.Steps.{begin}
use Rattle.base_numbers.specs.declared.refusal.Refusal.{Refusal}
use Rattle.base_numbers.specs.declared.refusal.Refusal.TheVariants.{TooManyStates}
use Rattle.machine_build.specs.declared.states.States.{States}
use Rattle.machine_build.specs.States.{Kept, found, pair_bytes, Placed, bytes_of, states_bytes, Told}
use Rattle.machine_build.proofs.KeptLaws.{index-extends}
use Rattle.machine_build.proofs.TurnLaws.{extends-length}

-- a part that was lent and came back with the same length
lent_length : (b y : List ℕ) (a k : ℕ) → a + k ≤ length b → length y ≡ k → length (take a b ++ (y ++ drop k (drop a b))) ≡ length b
lent_length b y a k h e =
    length-append (take a b) (y ++ drop k (drop a b))
    ∙ omega (arith, length-take-le a b (omega arith), length-append y (drop k (drop a b)), length-drop k (drop a b), length-drop a b)

lent-front : (b y : List ℕ) (a k : ℕ) → a + k ≤ length b → length y ≡ k → take (a + k) (take a b ++ (y ++ drop k (drop a b))) ≡ take a b ++ y
lent-front b y a k h e =
    ap (take (a + k)) (sym (append_assoc (take a b) y (drop k (drop a b))))
    ∙ take_at (take a b ++ y) (drop k (drop a b)) (a + k) (length-append (take a b) y ∙ omega (arith, length-take-le a b (omega arith)))

-- a state's bytes, lent in two parts one after the other
module _ (cats : ℕ) (st : Packed) (row : List ℕ) (a : ℕ) (part : List ℕ) where
  module _ (y z : List ℕ) {from to : ℕ} (ef : from ≡ a + cats + 1) (et : to ≡ from + length row) (h : to ≤ length part) (ey : y ≡ pair_bytes cats st) (ez : z ≡ row) where
    abbrev first : List ℕ
    first = take a part ++ (y ++ drop (from - a) (drop a part))

    y-length : length y ≡ from - a
    y-length = omega (arith, ap length ey, tabulate-length (digit st.statuses) cats)

    pub first-same : length first ≡ length part
    first-same = lent_length part y a (from - a) (omega arith) y-length

    z-length : length z ≡ to - from
    z-length = omega (arith, ap length ez)

    pub placed-in : Placed cats st row a part (take from first ++ (z ++ drop (to - from) (drop from first)))
    placed-in =
        record {
          same_length = lent_length first z from (to - from) (omega (arith, first-same)) z-length ∙ first-same;
          written = λ g.
              ap (λ n. take n (take from first ++ (z ++ drop (to - from) (drop from first)))) (the (a + cats + 1 + length row ≡ from + (to - from)) (omega arith))
              ∙ lent-front first z from (to - from) (omega (arith, first-same)) z-length
              ∙ ap₂ ◌++◌ (ap (λ n. take n first) (the (from ≡ a + (from - a)) (omega arith)) ∙ lent-front part y a (from - a) (omega arith) y-length) ez
              ∙ append_assoc (take a part) y row
              ∙ ap (λ x. take a part ++ (x ++ row)) ey;
        }
      where
        the : (A : Type 0) → A → A
        the A x = x

module _ (next : Packed → ℕ → Packed) (cats count : ℕ) where
  abbrev width : ℕ
  width = count + cats + 1

  bytes-length : (l : List Packed) (p : Packed) → length (bytes_of next cats count l p) ≡ width
  unfolding bytes_of
  bytes-length l p =
      omega (
        arith,
        length-append (pair_bytes cats p) (targets' l p),
        tabulate-length (digit p.statuses) cats,
        tabulate-length (λ k. index_by same_packed (next p k) l) count,
      )
    where
      targets' : List Packed → Packed → List ℕ
      targets' l p = targets same_packed next count l p

  pub states-length : (l : List Packed) (i : ℕ) → length (states_bytes next cats count l i) ≡ i * width
  unfolding states_bytes
  states-length l zero = omega arith
  states-length l (suc i) =
      length-append (states_bytes next cats count l i) (bytes_of next cats count l (get_or l i begin))
      ∙ omega (arith, states-length l i, bytes-length l (get_or l i begin), suc-mul i width)

  -- the bytes of states whose targets are all there stay as the list grows
  bytes-stay : (l k : List Packed) → Extends l k → (j : ℕ) → j < length l → ((x : ℕ) → x < count → member_by same_packed (next (get_or l j begin) x) l ≡ true)
      → bytes_of next cats count k (get_or k j begin) ≡ bytes_of next cats count l (get_or l j begin)
  unfolding bytes_of
  bytes-stay l k e j h c =
      ap (bytes_of next cats count k) (at-extends begin e j h)
      ∙ ap (λ z. pair_bytes cats (get_or l j begin) ++ z)
      (tabulate-same (λ x. index_by same_packed (next (get_or l j begin) x) k) (λ x. index_by same_packed (next (get_or l j begin) x) l) count
      (λ x i. index-extends (next (get_or l j begin) x) e (c x i)))

  states-stay : (i n : ℕ) → i ≤ n → n ≤ length (found next count n) → states_bytes next cats count (found next count (suc n)) i
      ≡ states_bytes next cats count (found next count n) i
  unfolding states_bytes
  states-stay zero n h k = refl
  states-stay (suc i) n h k =
      ap₂ ◌++◌ (states-stay i n (omega arith) k)
      (bytes-stay (found next count n) (found next count (suc n)) (discover-extends same_packed packed-exact next count begin n) i (omega arith)
      (λ x j. discover-closed same_packed packed-exact next count begin n i x (omega arith) (omega arith) j))

  -- what the loop keeps: i turns are done
  pub record Discovering (part₀ part : List ℕ) (s : States) (i : ℕ) : Type 0 where
    pub turns : i ≤ s.count
    pub same_length : length part ≡ length part₀
    pub kept : Kept s (found next count i)
    pub written : i * width ≤ length part₀ → take (i * width) part ≡ states_bytes next cats count (found next count i) i

  pub discovering-start : (part : List ℕ) (s : States) → length s.kept ≡ most_states → length s.slots ≡ 4096 → s.count ≡ 1 → get_or s.kept 0 begin ≡ begin
      → Discovering part part s 0
  unfolding states_bytes discover
  discovering-start part s w x y e =
      record {
        turns = omega arith;
        same_length = refl;
        kept = record {
          wide = (w, x);
          all-kept = sym y;
          few = omega arith;
          held = λ i h. zero-at i (omega arith);
          distinct = (refl, tt);
          slotted = λ i g h. absurd (omega arith);
        };
        written = λ h. ap (λ z. take z part) (zero-mul width);
      }
    where
      zero-at : (i : ℕ) → i < 1 → get_or s.kept i begin ≡ get_or (begin ∷ []) i begin
      zero-at zero h = e
      zero-at (suc i) h = absurd (omega arith)

  found-longer : (i n : ℕ) → i ≤ n → length (found next count i) ≤ length (found next count n)
  found-longer i zero h = let e : i ≡ 0 = omega arith in rw e (omega arith)
  found-longer i (suc n) h = go (ℕ_discrete i (suc n)) (λ j. found-longer i n j)
    where
      go : Dec (i ≡ suc n) → (i ≤ n → length (found next count i) ≤ length (found next count n))
          → length (found next count i) ≤ length (found next count (suc n))
      go (yes e) ih = rw e (omega arith)
      go (no e) ih = omega (arith, ih (omega arith), extends-length (discover-extends same_packed packed-exact next count begin n))

  module _ (part₀ part : List ℕ) (s : States) (i : ℕ) (d : Discovering part₀ part s i) where
    module _ (h : i < s.count) where
      -- the list after the turn
      next-found : expand same_packed next (get_or s.kept i begin) count (found next count i) ≡ found next count (suc i)
      next-found =
          ap (λ z. expand same_packed next z count (found next count i)) (d.kept.held i h)
          ∙ sym (discover-next same_packed packed-exact next count begin i (omega (arith, d.kept.all-kept)))

      pub discovering-over : {r : Refusal} → (r ≡ TooManyStates) × (most_states < length (expand same_packed next (get_or s.kept i begin) count (found next count i)))
          → (r ≡ TooManyStates) × (most_states < length (found next count most_states))
      discovering-over o = (o.0, omega (arith, o.1, ap length next-found, found-longer (suc i) most_states (omega (arith, d.kept.few))))

      pub discovering-more : {s' : States} (numbers : List ℕ)
          → Kept s' (expand same_packed next (get_or s.kept i begin) count (found next count i))
          × (take count numbers ≡ targets same_packed next count (expand same_packed next (get_or s.kept i begin) count (found next count i)) (get_or s.kept i begin))
          → count ≤ length numbers → (part' : List ℕ) → Placed cats (get_or s.kept i begin) (take count numbers) (i * width) part part' → Discovering part₀ part' s' (i + 1)
      unfolding states_bytes bytes_of
      discovering-more {s'} numbers t w part' pl =
          rw add-one
          (record {
            turns = omega (
              arith,
              t.0.all-kept,
              d.kept.all-kept,
              ap length next-found,
              extends-length (discover-extends same_packed packed-exact next count begin i),
            );
            same_length = pl.same_length ∙ d.same_length;
            kept = subst (λ (z : List Packed). Kept s' z) next-found t.0;
            written = written;
          })
        where
          row_length : length (take count numbers) ≡ count
          row_length = length-take-le count numbers w

          written : suc i * width ≤ length part₀ → take (suc i * width) part' ≡ states_bytes next cats count (found next count (suc i)) (suc i)
          written g =
              let e : suc i * width ≡ i * width + cats + 1 + length (take count numbers) = omega (arith, suc-mul i width, row_length) in
              let b : i * width ≤ length part₀ = omega (arith, suc-mul i width) in
              ap (λ z. take z part') e
              ∙ pl.written (omega (arith, d.same_length))
              ∙ ap₂ ◌++◌
              (d.written b ∙ sym (states-stay i i (omega arith) (omega (arith, d.kept.all-kept))))
              (ap (λ z. pair_bytes cats (get_or s.kept i begin) ++ z) t.1
              ∙ ap₂ (bytes_of next cats count) next-found
              (d.kept.held i h ∙ sym (at-extends begin (discover-extends same_packed packed-exact next count begin i) i (omega (arith, d.kept.all-kept)))))

    pub discovering-end : s.count ≤ i → Told next cats count part₀ part s.count
    discovering-end h =
        let e : s.count ≡ i = omega (arith, d.turns) in
        let f : found next count most_states ≡ found next count i = ap (found next count) (the (most_states ≡ i + (most_states - i)) (omega (arith, d.kept.few)))
        ∙ discover-done same_packed packed-exact next count begin i (most_states - i) (omega (arith, d.kept.all-kept)) in
        record {
          all-found = sym (ap length f ∙ d.kept.all-kept);
          few = d.kept.few;
          rows = λ g.
              subst (λ (x : ℕ). take (x * width) part ≡ states_bytes next cats count (found next count most_states) x) (sym e)
              (d.written (subst (λ (x : ℕ). x * width ≤ length part₀) e g) ∙ ap (λ z. states_bytes next cats count z i) (sym f));
        }
      where
        the : (A : Type 0) → A → A
        the A x = x
