-- One turn of a run.
use Prim.Native.Nat.{ℕ, ◌+◌, ◌-◌, ◌*◌, ◌≤◌, ◌<◌}
use mathlib.Core.Path.{◌≡◌, refl, sym, ap, ◌∙◌, subst}
use mathlib.Core.Bool.{Bool, true, false}
use mathlib.Core.List.{List, [], ◌∷◌}
use lib.ListN.{length, take, drop}
use native.Mathlib.Omega.{arith}
use Rattle.value_cursor.specs.Parts.{entry_at}
use Rattle.value_cursor.specs.Reading.{Reading, unfit, spans, add, reading_from}
use Rattle.value_cursor.specs.declared.alert_param.Span.{Span}
use Rattle.value_cursor.specs.declared.alert_param.Found.{Found}
use Rattle.value_cursor.specs.declared.alert_param.Found.TheVariants as found
use Rattle.value_cursor.proofs.ReadingLaws.{reading-last, reading-more, reading-none}
use Rattle.value_reader.specs.Value.{part_of}
use Rattle.node_step.proofs.TriesLaws.{tries-bound}
use Rattle.node_search.specs.declared.uses.Used.{Used}
use Rattle.node_search.specs.declared.decoded.Decoded.{Decoded}
use Rattle.resolve_run.specs.declared.run.Current.{Current}
use Rattle.resolve_run.specs.declared.run.Point.{Point}
use Rattle.std.specs.Prelude.{Option, Some, None}
use Rattle.resolve_run.specs.declared.run.Current.TheVariants.{Direct, Walking}
use Rattle.resolve_run.specs.Run.{tries_of, use_in, moved, after_use, after, entry_of, over}
use Rattle.resolve_run.specs.declared.entry.Entry.{Entry}

-- one URI more, by what it is to the table
pub after-uri : (t : List ℕ) (d : Decoded) (p : Point) (uri : List ℕ) {u : Option Used} {r : Point} → u ≡ use_in t d uri
    → r ≡ after_use d.rows d.parent d.inner d.signals p u → r ≡ after t d p uri
unfolding after
after-uri t d p uri e q = q ∙ ap (after_use d.rows d.parent d.inner d.signals p) e

-- one URI more is counted once
pub after-counted : (t : List ℕ) (d : Decoded) (p : Point) (uri : List ℕ) {r : Point} → r ≡ after t d p uri
    → r.used + r.skipped ≡ p.used + p.skipped + 1
unfolding after
after-counted t d p uri e = ap (λ (x : Point). x.used + x.skipped) e ∙ counted (use_in t d uri)
  where
    by : Option Used → Point
    by = after_use d.rows d.parent d.inner d.signals p

    counted : (u : Option Used) → (by u).used + (by u).skipped ≡ p.used + p.skipped + 1
    counted None = omega arith
    counted (Some u) = omega arith

-- one URN more adds at most ten tries
moved-few : (rows parent : List ℕ) (inner : List Bool) (signals : ℕ) (x : Current) (c k : ℕ) (w : Bool) {n : ℕ}
    → tries_of x ≤ n → tries_of (moved rows parent inner signals x c k w) ≤ n + 10
unfolding moved
moved-few rows parent inner signals (Direct st i) c k w {n} h = omega (arith, tries-bound rows parent signals st c k w)
moved-few rows parent inner signals (Walking m j) c k w {n} h = omega arith

pub after-few : (t : List ℕ) (d : Decoded) (p : Point) (uri : List ℕ) {r : Point} → r ≡ after t d p uri
    → tries_of p.current ≤ 10 * p.used → tries_of r.current ≤ 10 * r.used
unfolding after
after-few t d p uri e h = subst (λ (x : Point). tries_of x.current ≤ 10 * x.used) (sym e) (few (use_in t d uri))
  where
    by : Option Used → Point
    by = after_use d.rows d.parent d.inner d.signals p

    few : (u : Option Used) → tries_of (by u).current ≤ 10 * (by u).used
    few None = h
    few (Some u) = omega (arith, moved-few d.rows d.parent d.inner d.signals p.current u.category u.node u.whole h)

-- an entry that stands at a place of a value: the last one, or one with the place of the next
pub record Met (v : List ℕ) (at : ℕ) (e : Entry) : Type 0 where
  pub last : e.next ≡ None → reading_from v at ≡ spans (e.span ∷ [])
  pub more : (n : ℕ) → e.next ≡ Some n → (reading_from v at ≡ add e.span (reading_from v n)) × (at < n) × (n ≤ length v)
  pub inside : e.span.start + e.span.len ≤ length v

-- what the reader's cursor finds at a place, as the run takes it
module _ (v : List ℕ) (at : ℕ) {o : Option Entry} (is : o ≡ entry_of (entry_at v at)) where
  pub met : (e : Entry) → o ≡ Some e → Met v at e
  met e t = go (entry_at v at) refl (sym t ∙ is)
    where
      go : (f : Option Found) → f ≡ entry_at v at → Some e ≡ entry_of f → Met v at e
      go (Some (found.More p c)) q r =
          let m = reading-more v at (Some (found.More p c)) q p c refl in
          let x : record { span = p; next = Some c.at } ≡ e = cc in
          subst (Met v at) x (record {
            last = λ z. absurd (let y : ◌≡◌ {A = ℕ} 0 1 = cc in omega arith);
            more = λ n z. let y : c.at ≡ n = cc in subst (λ i. (reading_from v at ≡ add p (reading_from v i)) × (at < i) × (i ≤ length v)) y (m.0, m.1, m.2);
            inside = m.3;
          })
      go (Some (found.Last p)) q r =
          let m = reading-last v at (Some (found.Last p)) q p refl in
          let x : record { span = p; next = None } ≡ e = cc in
          subst (Met v at) x (record {
            last = λ _. m.0;
            more = λ n z. absurd (let y : ◌≡◌ {A = ℕ} 0 1 = cc in omega arith);
            inside = m.1;
          })
      go None q r = absurd (let y : ◌≡◌ {A = ℕ} 0 1 = cc in omega arith)

  pub unmet : o ≡ None → reading_from v at ≡ unfit
  unmet t = go (entry_at v at) refl (sym t ∙ is)
    where
      go : (f : Option Found) → f ≡ entry_at v at → None ≡ entry_of f → reading_from v at ≡ unfit
      go (Some (found.More p c)) q r = absurd (let y : ◌≡◌ {A = ℕ} 0 1 = cc in omega arith)
      go (Some (found.Last p)) q r = absurd (let y : ◌≡◌ {A = ℕ} 0 1 = cc in omega arith)
      go None q r = reading-none v at None q refl

over_add : {S : Type 0} (v : List ℕ) (f : S → List ℕ → S) (s : S) (p : Span) (r : Reading) → over v f s (add p r) ≡ over v f (f s (part_of v p)) r
unfolding over
over_add v f s p unfit = refl
over_add v f s p (spans ps) = refl

-- the bytes from a part's start to its end
pub whole_part : (v : List ℕ) (p : Span) → take (p.start + p.len - p.start) (drop p.start v) ≡ part_of v p
whole_part v p = let e : p.start + p.len - p.start ≡ p.len = omega arith in ap (λ n. take n (drop p.start v)) e

module _ (v : List ℕ) (f : Point → List ℕ → Point) (s : Point) (at : ℕ) (all : Option Point)
    (inv : all ≡ over v f s (reading_from v at)) where
  pub run_more : {q : Point} (p : Span) (r : Reading) → reading_from v at ≡ add p r
      → q ≡ f s (take (p.start + p.len - p.start) (drop p.start v)) → all ≡ over v f q r
  run_more {q} p r e g =
      inv ∙ ap (over v f s) e
      ∙ over_add v f s p r ∙ ap (λ x. over v f x r) (ap (f s) (sym (whole_part v p)) ∙ sym g)

  pub run-last : {q : Point} (p : Span) → reading_from v at ≡ spans (p ∷ [])
      → q ≡ f s (take (p.start + p.len - p.start) (drop p.start v)) → Some q ≡ all
  unfolding over
  run-last {q} p e g = ap (λ (x : Point). Some x) (g ∙ ap (f s) (whole_part v p)) ∙ sym (inv ∙ ap (over v f s) e)

  pub run_none : reading_from v at ≡ unfit → None ≡ all
  unfolding over
  run_none e = sym (inv ∙ ap (over v f s) e)
