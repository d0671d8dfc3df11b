-- One value on a tally: what the two steps leave is what the definitions say, and what stays as it is.
use mathlib.Core.Path.{◌≡◌, refl, sym, ap, ◌∙◌, subst}
use Prim.Native.Nat.{ℕ, ◌+◌, ◌-◌, ◌≤◌, ◌<◌, min}
use native.Mathlib.Omega.{arith}
use mathlib.Core.Bool.{Bool, true, false, not, cond}
use mathlib.Core.List.{List}
use lib.Dec.{ltb}
use lib.ListN.{length, get_or, set, take, drop, length-set, length-take}
use lib.Seq.{get_or-set_other, get_or-take, take-set-lt, drop-set-lt, set-get_or}
use borrow.Author.Tests.{eq-eqb, ne_eqb, eqb-true, eqb-false, ltb-false}
use Rattle.base_numbers.specs.Numbers.{most_signals}
use Rattle.base_lists.proofs.Bools.{by_test}
use Rattle.table_decode.specs.Tables.{table_refusal, table_of}
use Rattle.resolve_run.specs.declared.Resolution.{Resolution}
use Rattle.resolve_library.specs.Resolve.{refused, plain_of}
use Rattle.tally_library.specs.declared.Tally.{Tally}
use Rattle.tally_library.specs.Tally.{none, most, accepted, plus, fits, add_to, count_to, needed, too_few, full, gives20, answer_of, records_of}
use Rattle.tally_library.specs.Tally.{counts_of, Tallied, Stays, StaysLaw}
use Rattle.tally_library.specs.Steps.{full_count, judged_of, judged_counts, place_of, told_of, kept_of, answer_at, records_at}
use Rattle.tally_library.proofs.PlusLaws.{place-accepted, place-refused, add-past, add-within}
use Rattle.tally_library.proofs.PlainLaws.{plain-accepted, plain-few}
use Rattle.tally_library.proofs.JudgeLaws.{Judges}

-- an accepted resolution is added, a refused one is not
pub add-accepted : (l : List Tally) (r : Resolution) → r.refusal ≡ 0 → add_to l r ≡ set l r.signal (plus (get_or l r.signal none) r)
unfolding add_to
add-accepted l r e = ap (λ (b : Bool). cond b (set l r.signal (plus (get_or l r.signal none) r)) l) (eq-eqb r.refusal 0 e)

pub add-refused : (l : List Tally) (r : Resolution) → (r.refusal ≡ 0 → ⊥) → add_to l r ≡ l
unfolding add_to
add-refused l r h = ap (λ (b : Bool). cond b (set l r.signal (plus (get_or l r.signal none) r)) l) (ne_eqb r.refusal 0 h)

-- a refused one is counted, an accepted one is not
pub count-accepted : (c : List ℕ) (r : Resolution) → r.refusal ≡ 0 → count_to c r ≡ c
unfolding count_to
count-accepted c r e = ap (λ (b : Bool). cond b c (set c (r.refusal - 1) (get_or c (r.refusal - 1) 0 + 1))) (eq-eqb r.refusal 0 e)

pub count-refused : (c : List ℕ) (r : Resolution) → (r.refusal ≡ 0 → ⊥) → count_to c r ≡ set c (r.refusal - 1) (get_or c (r.refusal - 1) 0 + 1)
unfolding count_to
count-refused c r h = ap (λ (b : Bool). cond b c (set c (r.refusal - 1) (get_or c (r.refusal - 1) 0 + 1))) (ne_eqb r.refusal 0 h)

-- which counts a resolution would pass
pub full-accepted : (l : List Tally) (c : List ℕ) (r : Resolution) → r.refusal ≡ 0 → full l c r ≡ not (fits (plus (get_or l r.signal none) r))
unfolding full
full-accepted l c r e = ap (λ (b : Bool). cond b (not (fits (plus (get_or l r.signal none) r)))
    (ltb most (get_or c (r.refusal - 1) 0 + 1))) (eq-eqb r.refusal 0 e)

pub full-refused : (l : List Tally) (c : List ℕ) (r : Resolution) → (r.refusal ≡ 0 → ⊥) → full l c r ≡ ltb most (get_or c (r.refusal - 1) 0 + 1)
unfolding full
full-refused l c r h = ap (λ (b : Bool). cond b (not (fits (plus (get_or l r.signal none) r))) (ltb most (get_or c (r.refusal - 1) 0 + 1)))
    (ne_eqb r.refusal 0 h)

-- with enough records there is one for each signal of a well-formed table, and with enough counts one for each number
module _ (t : List ℕ) (n m : ℕ) (enough : too_few t n m ≡ false) where
  by-counts : (b : Bool) → ltb m 12 ≡ b → cond b true (ltb n (needed t)) ≡ false → (12 ≤ m) × (needed t ≤ n)
  by-counts true q e = absurd (no e)
    where
      no : true ≡ false → ⊥
      no z = let y : ◌≡◌ {A = ℕ} 0 1 = ap (λ (b : Bool). cond b 0 1) z in omega (arith, y)
  by-counts false q e = (ltb-false m 12 q, ltb-false n (needed t) e)

  both : (12 ≤ m) × (needed t ≤ n)
  unfolding too_few
  both = by-counts (ltb m 12) refl enough

  pub twelve : 12 ≤ m
  twelve = both.0

  pub for-each : table_refusal t ≡ 0 → length (table_of t).signals ≤ n
  unfolding needed
  for-each e = subst (λ (b : Bool). cond b (length (table_of t).signals) 0 ≤ n) (eq-eqb (table_refusal t) 0 e) both.1

module _ (t : List ℕ) (l : List Tally) (c v : List ℕ) where
  abbrev p : Resolution
  p = plain_of t v

  -- with 20 nothing is changed
  pub twenty : gives20 t l c v ≡ true → Tallied t l c v (refused 20) l c
  unfolding answer_of records_of counts_of
  twenty h = (simp h, simp h, simp h)

  -- without, the plain resolver's answer is counted
  pub plainly : gives20 t l c v ≡ false → Tallied t l c v p (add_to l p) (count_to c p)
  unfolding answer_of records_of counts_of
  plainly h = (simp h, simp h, simp h)

  pub gives-few : too_few t (length l) (length c) ≡ true → gives20 t l c v ≡ true
  unfolding gives20
  gives-few h = simp h

  pub gives-full : too_few t (length l) (length c) ≡ false → gives20 t l c v ≡ full l c p
  unfolding gives20
  gives-full h = ap (λ (b : Bool). cond b true (full l c p)) h

  -- the resolution r is added at its place
  abbrev Put : Resolution → Resolution → List Tally → Type 0
  Put r a l' = (a ≡ answer_at l (place_of r (length l)) r) × (l' ≡ records_at l (place_of r (length l)) r)

  put_refused : (r : Resolution) → (r.refusal ≡ 0 → ⊥) → Put r r l
  put_refused r h = add-past l (place_of r (length l)) r (subst (λ (s : ℕ). length l ≤ s) (place-refused r (length l) h) (omega arith))

  put-accepted : (r : Resolution) → r.refusal ≡ 0 → r.signal < length l
      → Put r (told_of (get_or l r.signal none) r) (set l r.signal (kept_of (get_or l r.signal none) r))
  put-accepted r e h =
      subst (λ (s : ℕ). (told_of (get_or l r.signal none) r ≡ answer_at l s r)
      × (set l r.signal (kept_of (get_or l r.signal none) r) ≡ records_at l s r))
      (place-accepted r (length l) e) (add-within l r.signal r h)

  -- from what is known of a judged resolution to the three answers
  finish : (r x a b : Resolution) (l' m : List Tally) (c' d : List ℕ) → r ≡ x → c' ≡ d → Put x b m → Tallied t l c v b m d → Put r a l'
      → Tallied t l c v a l' c'
  finish r x a b l' m c' d e f q k z =
      let y = subst (λ (w : Resolution). Put w a l') e z in
      (y.0 ∙ sym q.0 ∙ k.0, y.1 ∙ sym q.1 ∙ k.1, f ∙ k.2)

  module _ (r a : Resolution) (l' : List Tally) (c' : List ℕ) (j : Judges t (length l) c v r c') (put : Put r a l') where
    few : too_few t (length l) (length c) ≡ true → Tallied t l c v a l' c'
    unfolding judged_of judged_counts
    few h = finish r (refused 20) a (refused 20) l' l c' c (j.0 ∙ simp h) (j.1 ∙ simp h) (put_refused (refused 20) (λ e. omega (
      arith,
      e,
    ))) (twenty (gives-few h)) put

    module _ (enough : too_few t (length l) (length c) ≡ false) where
      judged : (b : Bool) → full_count c p ≡ b → (r ≡ cond b (refused 20) p) × (c' ≡ cond b c (count_to c p))
      unfolding judged_of judged_counts
      judged b e = (j.0 ∙ simp (enough, e), j.1 ∙ simp (enough, e))

      module _ (e : p.refusal ≡ 0) where
        no-count : full_count c p ≡ false
        unfolding full_count
        no-count = ap (λ (b : Bool). cond b false (ltb most (get_or c (p.refusal - 1) 0 + 1))) (eq-eqb p.refusal 0 e)

        inside : p.signal < length l
        inside = let g = plain-accepted t v e in omega (arith, g.listed, for-each t (length l) (length c) enough g.formed)

        by-fit : (b : Bool) → fits (plus (get_or l p.signal none) p) ≡ b → Tallied t l c v a l' c'
        by-fit true f =
            finish r p a p l' (set l p.signal (plus (get_or l p.signal none) p)) c' (count_to c p) (judged false no-count).0 (judged false no-count).1
            (subst (λ (b : Bool). Put p (cond b p (refused 20))
            (set l p.signal (cond b (plus (get_or l p.signal none) p) (get_or l p.signal none)))) f (put-accepted p e inside))
            (let k = plainly (gives-full enough ∙ full-accepted l c p e ∙ ap not f) in (k.0, sym (add-accepted l p e) ∙ k.1, k.2)) put
        by-fit false f =
            finish r p a (refused 20) l' l c' c (judged false no-count).0 ((judged false no-count).1 ∙ count-accepted c p e)
            (let q = subst (λ (b : Bool). Put p (cond b p (refused 20))
            (set l p.signal (cond b (plus (get_or l p.signal none) p) (get_or l p.signal none)))) f (put-accepted p e inside) in
            (q.0, sym (set-get_or l p.signal none) ∙ q.1))
            (twenty (gives-full enough ∙ full-accepted l c p e ∙ ap not f)) put

      module _ (h : p.refusal ≡ 0 → ⊥) where
        by_count : (b : Bool) → ltb most (get_or c (p.refusal - 1) 0 + 1) ≡ b → full_count c p ≡ b
        unfolding full_count
        by_count b e = ap (λ (z : Bool). cond z false (ltb most (get_or c (p.refusal - 1) 0 + 1))) (ne_eqb p.refusal 0 h) ∙ e

        by-full : (b : Bool) → ltb most (get_or c (p.refusal - 1) 0 + 1) ≡ b → Tallied t l c v a l' c'
        by-full true e =
            finish r (refused 20) a (refused 20) l' l c' c (judged true (by_count true e)).0 (judged true (by_count true e)).1
            (put_refused (refused 20) (λ z. omega (arith, z)))
            (twenty (gives-full enough ∙ full-refused l c p h ∙ e)) put
        by-full false e =
            finish r p a p l' l c' (count_to c p) (judged false (by_count false e)).0 (judged false (by_count false e)).1 (put_refused p h)
            (let k = plainly (gives-full enough ∙ full-refused l c p h ∙ e) in (k.0, sym (add-refused l p h) ∙ k.1, k.2)) put

    -- what the two steps of a value say together
    pub tallied : Tallied t l c v a l' c'
    tallied =
        by_test (too_few t (length l) (length c)) few
        (λ enough. by_test (accepted p) (λ e. by-fit enough (eqb-true p.refusal 0 e) (fits (plus (get_or l p.signal none) p)) refl)
        (λ e. by-full enough (eqb-false p.refusal 0 e) (ltb most (get_or c (p.refusal - 1) 0 + 1)) refl))

-- the same, with the place as a number of its own
pub tallied-at : (t : List ℕ) (l : List Tally) (c v : List ℕ) (j : Resolution) (s : ℕ) (a : Resolution) (l' : List Tally) (c' : List ℕ)
    → Judges t (length l) c v j c' → s ≡ place_of j (length l)
    → (a ≡ answer_at l s j) × (l' ≡ records_at l s j) → Tallied t l c v a l' c'
tallied-at t l c v j s a l' c' d e put = tallied t l c v j a l' c' d (subst (λ (z : ℕ). (a ≡ answer_at l z j) × (l' ≡ records_at l z j)) e put)

-- what stays
module _ (t : List ℕ) (l : List Tally) (c v : List ℕ) where
  abbrev Keeps : Resolution → List Tally → List ℕ → Type 0
  Keeps a l' c' =
      ((i : ℕ) → (i ≡ a.signal → ⊥) → get_or l' i none ≡ get_or l i none) × ((a.refusal ≡ 0 → ⊥) → l' ≡ l)
      × ((i : ℕ) → (i + 1 ≡ a.refusal → ⊥) → get_or c' i 0 ≡ get_or c i 0) × (length l' ≡ length l) × (length c' ≡ length c)
      × ((i : ℕ) → length (table_of t).signals ≤ i → get_or l' i none ≡ get_or l i none)
      × ((i : ℕ) → 12 ≤ i → get_or c' i 0 ≡ get_or c i 0)

  keeps-all : (a : Resolution) → Keeps a l c
  keeps-all a = (λ i h. refl, λ h. refl, λ i h. refl, refl, refl, λ i h. refl, λ i h. refl)

  keeps-accepted : (plain_of t v).refusal ≡ 0 → Keeps (plain_of t v) (set l (plain_of t v).signal (plus (get_or l (plain_of t v).signal none) (plain_of t v))) c
  keeps-accepted e = (
    λ i h. get_or-set_other l (plain_of t v).signal i _ none h,
    λ h. absurd (h e),
    λ i h. refl,
    length-set l (plain_of t v).signal _,
    refl,
    λ i h. get_or-set_other l (plain_of t v).signal i _ none (λ z. omega (arith, h, z, (plain-accepted t v e).listed)),
    λ i h. refl,
  )

  keeps-refused : ((plain_of t v).refusal ≡ 0 → ⊥) → Keeps (plain_of t v) l (set c ((plain_of t v).refusal - 1) (get_or c ((plain_of t v).refusal - 1) 0 + 1))
  keeps-refused h = (
    λ i z. refl,
    λ z. refl,
    λ i z. get_or-set_other c ((plain_of t v).refusal - 1) i _ 0 (other (plain_of t v).refusal i h z),
    refl,
    length-set c ((plain_of t v).refusal - 1) _,
    λ i z. refl,
    λ i z. get_or-set_other c ((plain_of t v).refusal - 1) i _ 0 (past (plain_of t v).refusal i h (plain-few t v) z),
  )
    where
      other : (k i : ℕ) → (k ≡ 0 → ⊥) → (i + 1 ≡ k → ⊥) → i ≡ k - 1 → ⊥
      other k i h z e = z (omega arith)

      past : (k i : ℕ) → (k ≡ 0 → ⊥) → k ≤ 12 → 12 ≤ i → i ≡ k - 1 → ⊥
      past k i h a b e = omega arith

  keeps : Keeps (answer_of t l c v) (records_of t l c v) (counts_of t l c v)
  keeps = by_test (gives20 t l c v)
      (λ q. let k = twenty t l c v q in carry k.0 k.1 k.2 (keeps-all (refused 20)))
      (λ q. let k = plainly t l c v q in by_test (accepted (plain_of t v))
      (λ b. let e = eqb-true (plain_of t v).refusal 0 b in
      carry k.0 (sym (add-accepted l (plain_of t v) e) ∙ k.1) (sym (count-accepted c (plain_of t v) e) ∙ k.2) (keeps-accepted e))
      (λ b. let e = eqb-false (plain_of t v).refusal 0 b in
      carry k.0 (sym (add-refused l (plain_of t v) e) ∙ k.1) (sym (count-refused c (plain_of t v) e) ∙ k.2) (keeps-refused e)))
    where
      carry : {a a' : Resolution} {m m' : List Tally} {d d' : List ℕ} → a ≡ a' → m ≡ m' → d ≡ d' → Keeps a m d → Keeps a' m' d'
      carry {a} {a'} {m} {m'} {d} {d'} e f g k =
          subst (λ (z : Resolution). Keeps z m' d') e (subst (λ (z : List Tally). Keeps a z d') f (subst (λ (z : List ℕ). Keeps a m z) g k))

  -- the plain resolver never gives 20
  twenty-only : (answer_of t l c v).refusal ≡ 20 → gives20 t l c v ≡ true
  twenty-only e =
      by_test (gives20 t l c v) (λ q. q)
      (λ q. absurd (omega (arith, e, ap (λ (a : Resolution). a.refusal) (plainly t l c v q).0, plain-few t v)))

  pub stays : Stays t l c v
  stays =
      record {
        twenty = (twenty-only, λ q. sym (ap (λ (a : Resolution). a.refusal) (twenty t l c v q).0));
        twenty-records = λ q. sym (twenty t l c v q).1;
        twenty-counts = λ q. sym (twenty t l c v q).2;
        other-records = keeps.0;
        surplus-records = keeps.5;
        refused-keeps = keeps.1;
        other-counts = keeps.2;
        surplus-counts = keeps.6;
        as-many-records = keeps.3;
        as-many-counts = keeps.4;
      }

pub stays-law : StaysLaw
stays-law = stays
