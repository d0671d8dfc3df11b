-- The law over runs of values: what a tally holds is told by the values counted.
use mathlib.Core.Path.{◌≡◌, refl, sym, ap, ap₂, ◌∙◌, subst}
use Prim.Native.Nat.{ℕ, zero, suc, ◌+◌, ◌-◌, ◌≤◌, ◌<◌}
use native.Mathlib.Omega.{arith}
use mathlib.Core.Bool.{Bool, true, false, not, cond, ◌&&◌}
use mathlib.Core.List.{List, [], ◌∷◌, ◌++◌, foldl}
use lib.Dec.{ltb, leb, eqb}
use lib.ListN.{length, get_or, set, replicate, length-set, length-replicate, length-append}
use lib.Seq.{get_or-set_same, get_or-set_other}
use borrow.Author.Tests.{lt-ltb, le-ltb, eq-eqb, ne_eqb, eqb-true, eqb-false, leb-true, leb-false}
use Rattle.base_lists.proofs.Lists.{get_d-all}
use Rattle.base_lists.proofs.Bools.{by_test}
use Rattle.resolve_run.specs.declared.Resolution.{Resolution}
use Rattle.resolve_library.specs.Resolve.{refused, plain_of}
use Rattle.tally_library.specs.declared.Tally.{Tally}
use Rattle.tally_library.specs.Tally.{none, most, accepted, plus, fits, too_few, full, gives20, answer_of}
use Rattle.tally_library.specs.Month.{Lent, cleared, after, fed, sum_of, if_chosen, choice, used_for, skipped_for, record_in, refusal, refused_in}
use Rattle.tally_library.specs.Month.{alone, within, takes, more, counted, sum_to, chosen_at, count_at, Holds, MonthLaw}
use Rattle.tally_library.proofs.PlainLaws.{plain-accepted, plain-few}
use Rattle.tally_library.proofs.TallyLaws.{add-accepted, add-refused, count-accepted, count-refused, full-accepted, full-refused, twelve}
use Rattle.tally_library.proofs.TallyLaws.{for-each, twenty, plainly, gives-few, gives-full}

-- one resolution more at the end of a list
sum-last : (f : Resolution → ℕ) (rs : List Resolution) (r : Resolution) → sum_of f (rs ++ r ∷ []) ≡ sum_of f rs + f r
unfolding sum_of
sum-last f [] r = omega arith
sum-last f (x ∷ rs) r = omega (arith, sum-last f rs r)

alone-last : (t : List ℕ) (ks : List (List ℕ)) (v : List ℕ) → alone t (ks ++ v ∷ []) ≡ alone t ks ++ plain_of t v ∷ []
alone-last t [] v = refl
alone-last t (k ∷ ks) v = ap {B = List Resolution} (λ l. plain_of t k ∷ l) (alone-last t ks v)

-- what one resolution adds to a record: itself to that of its signal if it is accepted, nothing to any other
module _ (r : Resolution) where
  adds : (e : r.refusal ≡ 0) (n : ℕ) → if_chosen r.signal r n ≡ n
  adds e n = simp (eq-eqb r.refusal 0 e, eq-eqb r.signal r.signal refl)

  adds-not : (s n : ℕ) → (s ≡ r.signal → ⊥) → if_chosen s r n ≡ 0
  adds-not s n h = go (accepted r)
    where
      go : (b : Bool) → cond (b && eqb r.signal s) n 0 ≡ 0
      go true = simp (ne_eqb r.signal s (λ e. h (sym e)))
      go false = refl

  adds_none : (s n : ℕ) → (r.refusal ≡ 0 → ⊥) → if_chosen s r n ≡ 0
  adds_none s n h = ap (λ (b : Bool). cond (b && eqb r.signal s) n 0) (ne_eqb r.refusal 0 h)

  module _ (rs : List Resolution) where
    chosen-record : r.refusal ≡ 0 → record_in r.signal (rs ++ r ∷ []) ≡ plus (record_in r.signal rs) r
    chosen-record e = λ i. record {
      chosen = (sum-last (choice r.signal) rs r ∙ ap (λ (n : ℕ). sum_of (choice r.signal) rs + n) (adds e 1)) i;
      used = (sum-last (used_for r.signal) rs r ∙ ap (λ (n : ℕ). sum_of (used_for r.signal) rs + n) (adds e r.used)) i;
      skipped = (sum-last (skipped_for r.signal) rs r ∙ ap (λ (n : ℕ). sum_of (skipped_for r.signal) rs + n) (adds e r.skipped)) i;
    }

    same-record : (s : ℕ) → ((n : ℕ) → if_chosen s r n ≡ 0) → record_in s (rs ++ r ∷ []) ≡ record_in s rs
    same-record s z = λ i. record {
      chosen = (sum-last (choice s) rs r ∙ nothing (sum_of (choice s) rs) (z 1)) i;
      used = (sum-last (used_for s) rs r ∙ nothing (sum_of (used_for s) rs) (z r.used)) i;
      skipped = (sum-last (skipped_for s) rs r ∙ nothing (sum_of (skipped_for s) rs) (z r.skipped)) i;
    }
      where
        nothing : (a : ℕ) {b : ℕ} → b ≡ 0 → a + b ≡ a
        nothing a e = omega (arith, e)

    refused-one : refused_in r.refusal (rs ++ r ∷ []) ≡ refused_in r.refusal rs + 1
    refused-one = sum-last (refusal r.refusal) rs r ∙ ap (λ (b : Bool). refused_in r.refusal rs + cond b 1 0) (eq-eqb r.refusal r.refusal refl)

    refused-other : (k : ℕ) → (k ≡ r.refusal → ⊥) → refused_in k (rs ++ r ∷ []) ≡ refused_in k rs
    refused-other k h = sum-last (refusal k) rs r ∙ ap (λ (b : Bool). refused_in k rs + cond b 1 0) (ne_eqb r.refusal k (λ e. h (sym e))) ∙ omega arith

-- a sum in which one number is larger by one
sum_same : (f g : ℕ → ℕ) (n : ℕ) → ((i : ℕ) → i < n → g i ≡ f i) → sum_to g n ≡ sum_to f n
unfolding sum_to
sum_same f g zero h = refl
sum_same f g (suc n) h = ap₂ (λ (a b : ℕ). a + b) (sum_same f g n (λ i q. h i (omega (arith, q)))) (h n (omega arith))

sum_one : (f g : ℕ → ℕ) (n j : ℕ) → j < n → g j ≡ f j + 1 → ((i : ℕ) → (i ≡ j → ⊥) → g i ≡ f i) → sum_to g n ≡ sum_to f n + 1
unfolding sum_to
sum_one f g zero j h e o = omega (arith, h)
sum_one f g (suc n) j h e o =
    by_test (eqb n j)
    (λ q. let z = eqb-true n j q in
    let a : sum_to g n ≡ sum_to f n = sum_same f g n (λ i l. o i (λ w. omega (arith, l, w, z))) in
    let b : g n ≡ f n + 1 = subst (λ (k : ℕ). g k ≡ f k + 1) (sym z) e in omega (arith, a, b))
    (λ q. let z = eqb-false n j q in
    let a : sum_to g n ≡ sum_to f n + 1 = sum_one f g n j (below n j h z) e o in
    let b : g n ≡ f n = o n z in omega (arith, a, b))
  where
    below : (n j : ℕ) → j < suc n → (n ≡ j → ⊥) → j < n
    below n j h z = omega arith

sum-zero : (f : ℕ → ℕ) (n : ℕ) → ((i : ℕ) → f i ≡ 0) → sum_to f n ≡ 0
unfolding sum_to
sum-zero f zero h = refl
sum-zero f (suc n) h = omega (arith, sum-zero f n h, h n)

-- a cleared tally holds no value
holds-cleared : (t : List ℕ) (n m : ℕ) → Holds t n m [] (cleared n m)
unfolding sum_of fits
holds-cleared t n m = record {
  all-records = length-replicate n none;
  all-counts = length-replicate m 0;
  records = λ s h. get_d-all n s none;
  counts = λ i a. get_d-all {A = ℕ} m i 0;
  together = ap₂ (λ (a b : ℕ). a + b) (sum-zero (chosen_at (replicate n none)) (length (replicate n none))
      (λ i. ap (λ (x : Tally). x.chosen) (get_d-all n i none)))
      (sum-zero (count_at (replicate m 0)) (length (replicate m 0)) (λ i. get_d-all {A = ℕ} m i 0));
  in-range = λ s. ap fits (get_d-all n s none);
  counts-in-range = λ i. let z = get_d-all {A = ℕ} m i 0 in omega (arith, z);
}

-- one value more
module _ (t : List ℕ) (n m : ℕ) (ks : List (List ℕ)) (x : Lent) (h : Holds t n m ks x) (v : List ℕ) where
  abbrev p : Resolution
  p = plain_of t v

  abbrev rs : List Resolution
  rs = alone t ks

  abbrev few : Bool
  few = too_few t (length x.records) (length x.counts)

  few-is : few ≡ too_few t n m
  few-is = ap₂ (too_few t) h.all-records h.all-counts

  module _ (enough : too_few t n m ≡ false) where
    inside : p.refusal ≡ 0 → p.signal < n
    inside e = let g = plain-accepted t v e in omega (arith, g.listed, for-each t n m enough g.formed)

    -- the count of a refused value is the sum's
    count-is : (p.refusal ≡ 0 → ⊥) → get_or x.counts (p.refusal - 1) 0 + 1 ≡ refused_in p.refusal (rs ++ p ∷ [])
    count-is z =
        let one = pos p.refusal z in
        let e : suc (p.refusal - 1) ≡ p.refusal = omega (arith, one) in
        ap (λ (a : ℕ). a + 1) (h.counts (p.refusal - 1) (omega (arith, plain-few t v, twelve t n m enough, one)) ∙ ap (λ (k : ℕ). refused_in k rs) e)
        ∙ sym (refused-one p rs)
      where
        pos : (a : ℕ) → (a ≡ 0 → ⊥) → 1 ≤ a
        pos a q = omega arith

    -- the record of an accepted one is too
    record_is : (e : p.refusal ≡ 0) → plus (get_or x.records p.signal none) p ≡ record_in p.signal (rs ++ p ∷ [])
    record_is e = ap (λ (y : Tally). plus y p) (h.records p.signal (inside e)) ∙ sym (chosen-record p rs e)

    passes-is : full x.records x.counts p ≡ not (within p (rs ++ p ∷ []))
    unfolding within
    passes-is = by_test (accepted p)
        (λ q. let e = eqb-true p.refusal 0 q in
        full-accepted x.records x.counts p e ∙ ap (λ (y : Tally). not (fits y)) (record_is e)
        ∙ sym (ap (λ (b : Bool). not (cond b (fits (record_in p.signal (rs ++ p ∷ []))) (leb (refused_in p.refusal (rs ++ p ∷ [])) most))) q))
        (λ q. let z = eqb-false p.refusal 0 q in
        full-refused x.records x.counts p z ∙ ap (ltb most) (count-is z) ∙ turn (refused_in p.refusal (rs ++ p ∷ []))
        ∙ sym (ap (λ (b : Bool). not (cond b (fits (record_in p.signal (rs ++ p ∷ []))) (leb (refused_in p.refusal (rs ++ p ∷ [])) most))) q))
      where
        turn : (a : ℕ) → ltb most a ≡ not (leb a most)
        turn a = by_test (leb a most) (λ q. le-ltb most a (leb-true a most q) ∙ sym (ap not q)) (λ q. lt-ltb most a (leb-false a most q) ∙ sym (ap not q))

  -- 20 is answered exactly where the value is not counted
  pub refused-is : gives20 t x.records x.counts v ≡ not (takes t n m ks v)
  unfolding takes
  refused-is = by_test (too_few t n m)
      (λ q. gives-few t x.records x.counts v (few-is ∙ q) ∙ sym (ap (λ (b : Bool). not (not b && within p (alone t (ks ++ v ∷ [])))) q))
      (λ q. gives-full t x.records x.counts v (few-is ∙ q) ∙ passes-is q ∙ ap (λ (l : List Resolution). not (within p l)) (sym (alone-last t ks v))
      ∙ sym (ap (λ (b : Bool). not (not b && within p (alone t (ks ++ v ∷ [])))) q))

  -- a value that is not counted changes nothing
  holds_same : takes t n m ks v ≡ false → Holds t n m ks (after t x v)
  holds_same q =
      let z = twenty t x.records x.counts v (refused-is ∙ ap not q) in
      subst (Holds t n m ks) {x = x} (λ i. record { records = z.1 i; counts = z.2 i }) h

  module _ (q : takes t n m ks v ≡ true) where
    inverted : (too_few t n m ≡ false) × (within p (rs ++ p ∷ []) ≡ true)
    unfolding takes
    inverted = go (too_few t n m) refl q
      where
        no : false ≡ true → ⊥
        no z = let y : ◌≡◌ {A = ℕ} 1 0 = ap (λ (b : Bool). cond b 0 1) z in omega (arith, y)

        go : (b : Bool) → too_few t n m ≡ b → not b && within p (alone t (ks ++ v ∷ [])) ≡ true → (too_few t n m ≡ false) × (within p (rs ++ p ∷ []) ≡ true)
        go true e w = absurd (no w)
        go false e w = (e, ap (within p) (sym (alone-last t ks v)) ∙ w)

    counted-one : length (ks ++ v ∷ []) ≡ length ks + 1
    counted-one = length-append ks (v ∷ [])

    -- an accepted one
    module _ (e : p.refusal ≡ 0) where
      abbrev old : Tally
      old = get_or x.records p.signal none

      abbrev new : List Tally
      new = set x.records p.signal (plus old p)

      here : p.signal < length x.records
      here = let a = inside inverted.0 e in omega (arith, a, h.all-records)

      at-signal : get_or new p.signal none ≡ plus old p
      at-signal = get_or-set_same x.records p.signal (plus old p) none here

      elsewhere : (s : ℕ) → (s ≡ p.signal → ⊥) → get_or new s none ≡ get_or x.records s none
      elsewhere s z = get_or-set_other x.records p.signal s (plus old p) none z

      fits-new : fits (plus old p) ≡ true
      unfolding within
      fits-new = ap fits (record_is inverted.0 e)
          ∙ sym (ap (λ (b : Bool). cond b (fits (record_in p.signal (rs ++ p ∷ []))) (leb (refused_in p.refusal (rs ++ p ∷ [])) most))
          (eq-eqb p.refusal 0 e)) ∙ inverted.1

      record-at : (s : ℕ) → s < n → get_or new s none ≡ record_in s (rs ++ p ∷ [])
      record-at s w = by_test (eqb s p.signal)
          (λ z. let y = eqb-true s p.signal z in
          subst (λ (k : ℕ). get_or new k none ≡ record_in k (rs ++ p ∷ [])) (sym y) (at-signal ∙ record_is inverted.0 e))
          (λ z. let y = eqb-false s p.signal z in elsewhere s y ∙ h.records s w ∙ sym (same-record p rs s (λ k. adds-not p s k y)))

      range_at : (s : ℕ) → fits (get_or new s none) ≡ true
      range_at s = by_test (eqb s p.signal)
          (λ z. subst (λ (k : ℕ). fits (get_or new k none) ≡ true) (sym (eqb-true s p.signal z)) (ap fits at-signal ∙ fits-new))
          (λ z. ap fits (elsewhere s (eqb-false s p.signal z)) ∙ h.in-range s)

      more-chosen : sum_to (chosen_at new) (length x.records) ≡ sum_to (chosen_at x.records) (length x.records) + 1
      more-chosen = sum_one (chosen_at x.records) (chosen_at new) (length x.records) p.signal here (ap (λ (y : Tally). y.chosen) at-signal)
          (λ i z. ap (λ (y : Tally). y.chosen) (elsewhere i z))

      holds-accepted : Holds t n m (ks ++ v ∷ []) (record { records = new; counts = x.counts })
      holds-accepted = record {
        all-records = length-set x.records p.signal (plus old p) ∙ h.all-records;
        all-counts = h.all-counts;
        records = λ s w. record-at s w ∙ ap (record_in s) (sym (alone-last t ks v));
        counts = λ i a. h.counts i a ∙ sym (refused-other p rs (suc i) (λ z. omega (arith, z, e))) ∙ ap (refused_in (suc i)) (sym (alone-last t ks v));
        together = ap (λ (k : ℕ). sum_to (chosen_at new) k + sum_to (count_at x.counts) (length x.counts)) (length-set x.records p.signal (plus old p))
            ∙ omega (arith, more-chosen, h.together, counted-one);
        in-range = range_at;
        counts-in-range = h.counts-in-range;
      }

    -- a refused one
    module _ (z : p.refusal ≡ 0 → ⊥) where
      abbrev place : ℕ
      place = p.refusal - 1

      abbrev count : ℕ
      count = get_or x.counts place 0

      abbrev grown : List ℕ
      grown = set x.counts place (count + 1)

      one : 1 ≤ p.refusal
      one = pos p.refusal z
        where
          pos : (a : ℕ) → (a ≡ 0 → ⊥) → 1 ≤ a
          pos a w = omega arith

      there : place < length x.counts
      there = omega (arith, plain-few t v, twelve t n m inverted.0, h.all-counts)

      at_place : get_or grown place 0 ≡ count + 1
      at_place = get_or-set_same x.counts place (count + 1) 0 there

      apart : (i : ℕ) → (i ≡ place → ⊥) → get_or grown i 0 ≡ get_or x.counts i 0
      apart i w = get_or-set_other x.counts place i (count + 1) 0 w

      room : count + 1 ≤ most
      unfolding within
      room = leb-true (count + 1) most (ap (λ (k : ℕ). leb k most) (count-is inverted.0 z)
          ∙ sym (ap (λ (b : Bool). cond b (fits (record_in p.signal (rs ++ p ∷ []))) (leb (refused_in p.refusal (rs ++ p ∷ [])) most))
          (ne_eqb p.refusal 0 z)) ∙ inverted.1)

      its-number : p.refusal ≡ suc place
      its-number = omega (arith, one)

      count_at_lem : (i : ℕ) → i < m → get_or grown i 0 ≡ refused_in (suc i) (rs ++ p ∷ [])
      count_at_lem i a = by_test (eqb i place)
          (λ w. subst (λ (j : ℕ). get_or grown j 0 ≡ refused_in (suc j) (rs ++ p ∷ [])) (sym (eqb-true i place w))
          (at_place ∙ count-is inverted.0 z ∙ ap (λ (k : ℕ). refused_in k (rs ++ p ∷ [])) its-number))
          (λ w. let y = eqb-false i place w in apart i y ∙ h.counts i a ∙ sym (refused-other p rs (suc i) (λ e. y (omega (arith, e, one)))))

      range-count : (i : ℕ) → get_or grown i 0 ≤ most
      range-count i = by_test (eqb i place)
          (λ w. subst (λ (j : ℕ). get_or grown j 0 ≤ most) (sym (eqb-true i place w)) (subst (λ (a : ℕ). a ≤ most) (sym at_place) room))
          (λ w. subst (λ (a : ℕ). a ≤ most) (sym (apart i (eqb-false i place w))) (h.counts-in-range i))

      more-counted : sum_to (count_at grown) (length x.counts) ≡ sum_to (count_at x.counts) (length x.counts) + 1
      more-counted = sum_one (count_at x.counts) (count_at grown) (length x.counts) place there at_place apart

      holds-refused : Holds t n m (ks ++ v ∷ []) (record { records = x.records; counts = grown })
      holds-refused = record {
        all-records = h.all-records;
        all-counts = length-set x.counts place (count + 1) ∙ h.all-counts;
        records = λ s w. h.records s w ∙ sym (same-record p rs s (λ k. adds_none p s k z)) ∙ ap (record_in s) (sym (alone-last t ks v));
        counts = λ i a. count_at_lem i a ∙ ap (refused_in (suc i)) (sym (alone-last t ks v));
        together = ap (λ (k : ℕ). sum_to (chosen_at x.records) (length x.records) + sum_to (count_at grown) k) (length-set x.counts place (count + 1))
            ∙ omega (arith, more-counted, h.together, counted-one);
        in-range = h.in-range;
        counts-in-range = range-count;
      }

    holds_more : Holds t n m (ks ++ v ∷ []) (after t x v)
    holds_more =
        let k = plainly t x.records x.counts v (refused-is ∙ ap not q) in
        by_test (accepted p)
        (λ b. let e = eqb-true p.refusal 0 b in
        subst (Holds t n m (ks ++ v ∷ [])) {x =
        record { records = set x.records p.signal (plus (get_or x.records p.signal none) p); counts = x.counts }}
        (λ i. record { records = (sym (add-accepted x.records p e) ∙ k.1) i; counts = (sym (count-accepted x.counts p e) ∙ k.2) i }) (holds-accepted e))
        (λ b. let e = eqb-false p.refusal 0 b in
        subst (Holds t n m (ks ++ v ∷ [])) {x = record {
          records = x.records;
          counts = set x.counts (p.refusal - 1) (get_or x.counts (p.refusal - 1) 0 + 1);
        }}
        (λ i. record { records = (sym (add-refused x.records p e) ∙ k.1) i; counts = (sym (count-refused x.counts p e) ∙ k.2) i }) (holds-refused e))

  holds-next : Holds t n m (more t n m ks v) (after t x v)
  holds-next = go (takes t n m ks v) refl
    where
      go : (b : Bool) → takes t n m ks v ≡ b → Holds t n m (cond b (ks ++ v ∷ []) ks) (after t x v)
      go true q = holds_more q
      go false q = holds_same q

  answered : answer_of t x.records x.counts v ≡ cond (takes t n m ks v) p (refused 20)
  unfolding answer_of
  answered = ap (λ (b : Bool). cond b (refused 20) p) refused-is ∙ turn (takes t n m ks v)
    where
      turn : (b : Bool) → cond (not b) (refused 20) p ≡ cond b p (refused 20)
      turn true = refl
      turn false = refl

holds-run : (t : List ℕ) (n m : ℕ) (vs ks : List (List ℕ)) (x : Lent) → Holds t n m ks x → Holds t n m (foldl (more t n m) ks vs) (fed t x vs)
holds-run t n m [] ks x h = h
holds-run t n m (v ∷ vs) ks x h = holds-run t n m vs (more t n m ks v) (after t x v) (holds-next t n m ks x h v)

pub month-law : MonthLaw
month-law t n m vs =
    let h = holds-run t n m vs [] (cleared n m) (holds-cleared t n m) in
    record { holds = h; next = λ v. answered t n m (counted t n m vs) (fed t (cleared n m) vs) h v }
