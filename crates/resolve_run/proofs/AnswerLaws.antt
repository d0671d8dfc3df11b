-- The answer at the end of a value is the one over the value's list.
use Prim.Native.Nat.{ℕ, ◌+◌, ◌≤◌, ◌<◌}
use mathlib.Core.Path.{◌≡◌, refl, sym, ap, ap₂, ◌∙◌, subst}
use mathlib.Core.Bool.{false, cond}
use mathlib.Core.Option.{Option, none, some}
use mathlib.Core.List.{List, [], ◌∷◌, map, foldl}
use lib.ListN.{length, length-map}
use lib.Dec.{eqb, ltb}
use borrow.Author.Tests.{lt-ltb, le-ltb, eq-eqb, ne_eqb, ltb-true, ltb-false, eqb-true, eqb-false}
use native.Mathlib.Omega.{arith}
use Rattle.base_numbers.specs.Numbers.{most_entries, most_value_bytes}
use Rattle.base_numbers.specs.declared.refusal.Refusal.{Refusal}
use Rattle.base_numbers.specs.Refusals.{refusal_number}
use Rattle.base_numbers.proofs.Refusals.{refusal-some}
use Rattle.base_lists.proofs.Numbers.{pos-of-ne}
use Rattle.base_lists.proofs.Bools.{by_test}
use Rattle.value_cursor.specs.Reading.{Reading, unfit, spans, reading_from, reading_of}
use Rattle.value_cursor.proofs.ReadingLaws.{reading-start}
use Rattle.value_reader.specs.Value.{part_of, refusal_of, uris_of}
use Rattle.value_reader.proofs.ValueLaws.{refusal-long, refusal-unfit, refusal-many, refusal-none, accepted-uris}
use Rattle.theory_resolution.specs.Table.{Urn, Table}
use Rattle.theory_resolution.specs.Direct.{used_of, used_count, skipped_count}
use Rattle.table_decode.specs.Tables.{table_refusal}
use Rattle.node_search.specs.declared.decoded.Decoded.{Decoded}
use Rattle.resolve_run.specs.declared.Resolution.{Resolution}
use Rattle.resolve_run.specs.declared.run.Current.{Current}
use Rattle.resolve_run.specs.declared.run.Point.{Point}
use Rattle.resolve_run.specs.declared.answer.Ended.{Ended}
use Rattle.resolve_run.specs.Answers.{taken_as, number_of, refused, answered, unless_refused}
use Rattle.resolve_run.specs.Run.{after, over, run_from, signal_now, answer_of, begin, end_of, ended_from}
use Rattle.std.specs.Prelude.{Some}
use Rattle.resolve_run.proofs.FoldLaws.{Reads, Steps, run-fold}

-- a list's used and skipped members are all its members
pub counts_all : (l : List (Option Urn)) → used_count l + skipped_count l ≡ length l
counts_all [] = refl
counts_all (none ∷ l) = omega (arith, counts_all l)
counts_all (some u ∷ l) = omega (arith, counts_all l)

-- a refused value is answered with its number
pub value-refused : (t v : List ℕ) (r : Resolution) {k : ℕ} → refusal_of v ≡ k → 0 < k → refused k ≡ unless_refused t v r
value-refused t v r {k} e h =
    let n : eqb (refusal_of v) 0 ≡ false = ne_eqb (refusal_of v) 0 (λ z. omega arith) in
    ap refused (sym e) ∙ sym (ap (λ b. cond b (cond (eqb (table_refusal t) 0) r (refused (table_refusal t))) (refused (refusal_of v))) n)

-- where neither is refused, the answer is given
pub none-refused : (t v : List ℕ) (r : Resolution) → refusal_of v ≡ 0 → table_refusal t ≡ 0 → r ≡ unless_refused t v r
none-refused t v r e h = simp (eq-eqb (refusal_of v) 0 e, eq-eqb (table_refusal t) 0 h)

-- a refused table is answered with its number where the value is accepted
pub table-refused : (t v : List ℕ) (r : Resolution) → refusal_of v ≡ 0 → (table_refusal t ≡ 0 → ⊥) → refused (table_refusal t) ≡ unless_refused t v r
table-refused t v r e h = simp (eq-eqb (refusal_of v) 0 e, ne_eqb (table_refusal t) 0 h)

-- the same by the number with which the plain resolver refuses
pub unless-number : (t v : List ℕ) (r : Resolution) → unless_refused t v r ≡ cond (eqb (number_of t v) 0) r (refused (number_of t v))
unless-number t v r = by_test (eqb (refusal_of v) 0) (λ q. simp q) (λ q. simp q)

first-number : (t v : List ℕ) (r : Resolution) {k : ℕ} → k ≡ table_refusal t → (k ≡ 0 → ⊥)
    → refused (cond (eqb (refusal_of v) 0) k (refusal_of v)) ≡ unless_refused t v r
first-number t v r {k} e n =
    by_test (eqb (refusal_of v) 0)
    (λ q. ap (λ b. refused (cond b k (refusal_of v))) q ∙ ap refused e ∙ table-refused t v r (eqb-true (refusal_of v) 0 q) (λ z. n (e ∙ z)))
    (λ q. ap (λ b. refused (cond b k (refusal_of v))) q ∙ value-refused t v r refl (pos-of-ne (eqb-false (refusal_of v) 0 q)))

-- a refused table's answer: the value's number comes first
pub refused-first : (t v : List ℕ) (r : Resolution) (k : Refusal) → refusal_number k ≡ table_refusal t
    → refused (cond (eqb (refusal_of v) 0) (refusal_number k) (refusal_of v)) ≡ unless_refused t v r
refused-first t v r k e = first-number t v r e (λ z. omega (arith, refusal-some k, z))

-- an answer that is refused with k, where k is m
pub first-by : (v : List ℕ) {k m : ℕ} {r : Resolution} → r ≡ refused (cond (eqb (refusal_of v) 0) k (refusal_of v)) → k ≡ m
    → r ≡ refused (cond (eqb (refusal_of v) 0) m (refusal_of v))
first-by v e f = e ∙ ap (λ n. refused (cond (eqb (refusal_of v) 0) n (refusal_of v))) f

-- an end that began at x, where x is y
pub ended-by : (t : List ℕ) (d : Decoded) (v : List ℕ) {x y : Current} {e : Ended} → e ≡ ended_from t d x v → x ≡ y → e ≡ ended_from t d y v
ended-by t d v e f = e ∙ ap (λ (x : Current). ended_from t d x v) f

-- how a resolver can end: the value is refused and so is the answer, or it is accepted, and the answer is the signal at x with the counts
pub data End (t v : List ℕ) (x : Current) (e : Ended) : Type 0 where
  not_taken : (refusal_of v ≡ 0 → ⊥) → e.answer ≡ refused (refusal_of v) → End t v x e
  taken : refusal_of v ≡ 0 → e.last ≡ x → e.answer ≡ answered t (uris_of v) (signal_now x) → End t v x e

module _ (t : List ℕ) (T : Table) (d : Decoded) (h : Reads t T d) (v : List ℕ)
    {S : Type 0} (valid : S → Type 0) (f : S → Urn → S) (shown : S → Current) (steps : Steps t T d h valid f shown) (s : S)
    (ok : valid s) (untried : begin (shown s) ≡ record { current = shown s; used = 0; skipped = 0 }) where
  abbrev given : List (List ℕ) → List Urn
  given uris = used_of (taken_as t uris)

  abbrev end : Current
  end = shown (foldl f s (given (uris_of v)))

  abbrev first : Point
  first = record { current = shown s; used = 0; skipped = 0 }

  -- the run over a reading of the value
  by-reading : length v ≤ most_value_bytes → (r : Reading) → reading_of v ≡ r → End t v end (end_of first (over v (after t d) first r))
  unfolding over answer_of
  by-reading short unfit e =
      let z = refusal-unfit v short unfit e refl in
      not_taken (λ q. omega arith) (ap refused (sym z))
  by-reading short (spans ps) e =
      subst (λ (p : Point). End t v end (end_of first (Some p)))
      (sym (run-fold t T d h valid f shown steps uris s 0 0 ok ∙ from_zero)) counted
    where
      uris : List (List ℕ)
      uris = map (part_of v) ps

      used : ℕ
      used = used_count (taken_as t uris)

      skipped : ℕ
      skipped = skipped_count (taken_as t uris)

      all : used + skipped ≡ length ps
      all = counts_all (taken_as t uris) ∙ length-map uris _ ∙ length-map ps (part_of v)

      last : Point
      last = record { current = shown (foldl f s (given uris)); used = used; skipped = skipped }

      from_zero : record { current = last.current; used = 0 + used; skipped = 0 + skipped } ≡ last
      from_zero =
          let a : 0 + used ≡ used = omega arith in
          let b : 0 + skipped ≡ skipped = omega arith in
          ap₂ (λ (x y : ℕ). record { current = last.current; used = x; skipped = y }) a b

      n : ℕ
      n = signal_now last.current

      many : most_entries < length ps → End t v end (end_of first (Some last))
      many k =
          let z = refusal-many v short (spans ps) e ps refl k in
          not_taken (λ q. omega arith)
          (ap (λ b. cond b (refused 3) (record { refusal = 0; signal = n; used = used; skipped = skipped }))
          (lt-ltb most_entries (used + skipped) (omega (arith, all))) ∙ ap refused (sym z))

      same : uris_of v ≡ uris → length ps ≤ most_entries → End t v end (end_of first (Some last))
      same u k =
          let x : last.current ≡ end = ap (λ l. shown (foldl f s (given l))) (sym u) in
          taken (refusal-none v short (spans ps) e ps refl k) x
          (ap (λ b. cond b (refused 3) (record { refusal = 0; signal = n; used = used; skipped = skipped }))
          (le-ltb most_entries (used + skipped) (omega (arith, all)))
          ∙ ap₂ (λ l y. answered t l (signal_now y)) (sym u) x)

      counted : End t v end (end_of first (Some last))
      counted =
          by_test (ltb most_entries (length ps)) (λ q. many (ltb-true most_entries (length ps) q))
          (λ q. let k : length ps ≤ most_entries = ltb-false most_entries (length ps) q in same (accepted-uris v short (spans ps) e ps refl k) k)

  -- the whole run
  run_ends : length v ≤ most_value_bytes → End t v end (end_of (begin (shown s)) (run_from t d v (begin (shown s)) 0))
  unfolding run_from
  run_ends short =
      subst (λ (p : Point). End t v end (end_of p (over v (after t d) p (reading_from v 0)))) (sym untried)
      (by-reading short (reading_from v 0) (reading-start v))

  -- the whole value
  pub value-ends : {x : Current} → x ≡ shown s → {e : Ended} → e ≡ ended_from t d x v → End t v end e
  unfolding ended_from
  value-ends f q =
      subst (End t v end) (sym (q ∙ ap (λ (x : Current). ended_from t d x v) f))
      (by_test (ltb most_value_bytes (length v))
      (λ b. let z = refusal-long v (ltb-true most_value_bytes (length v) b) in
      subst (End t v end) (sym (ap (λ b. cond b (record { answer = refused 1; last = shown s }) (end_of (begin (shown s)) (run_from t d v (begin (shown s)) 0))) b))
      (not_taken (λ n. omega arith) (ap refused (sym z))))
      (λ b. subst (End t v end) (sym (ap (λ b. cond b (record { answer = refused 1; last = shown s }) (end_of (begin (shown s)) (run_from t d v (begin (shown s)) 0))) b))
      (run_ends (ltb-false most_value_bytes (length v) b))))

-- the answer where the table is not refused
pub end-answer : (t v : List ℕ) (x : Current) (e : Ended) → table_refusal t ≡ 0 → End t v x e
    → e.answer ≡ unless_refused t v (answered t (uris_of v) (signal_now x))
end-answer t v x e formed (not_taken n a) = a ∙ value-refused t v _ refl (pos-of-ne n)
end-answer t v x e formed (taken z l a) = a ∙ none-refused t v _ z formed
