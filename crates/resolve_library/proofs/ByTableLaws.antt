-- The plain resolver by what is decoded: as the code composes it, and that it is the plain resolver where a table is decoded so.
use Prim.Native.Nat.{ℕ}
use mathlib.Core.Path.{◌≡◌, refl, sym, ap, ◌∙◌}
use mathlib.Core.Bool.{cond}
use mathlib.Core.List.{List}
use lib.Dec.{eqb}
use borrow.Author.Tests.{eq-eqb, ne_eqb, eqb-true, eqb-false}
use Rattle.base_lists.proofs.Bools.{by_test}
use Rattle.std.specs.Prelude.{Result, Ok, Err}
use Rattle.base_numbers.specs.declared.refusal.Refusal.{Refusal}
use Rattle.value_reader.specs.Value.{refusal_of, uris_of}
use Rattle.node_search.specs.declared.decoded.Decoded.{Decoded}
use Rattle.table_decode.specs.Decoded.{DecodedAs, Means}
use Rattle.resolve_run.specs.declared.Resolution.{Resolution}
use Rattle.resolve_run.specs.declared.run.Current.{Current}
use Rattle.resolve_run.specs.declared.answer.Ended.{Ended}
use Rattle.resolve_run.specs.Run.{tries_of}
use Rattle.resolve_run.proofs.AnswerLaws.{refused-first}
use Rattle.resolve_run.proofs.DirectLaws.{plain-ends}
use Rattle.resolve_library.specs.Resolve.{refused, answered, direct_signal, tried_as, plain_of, plain_with}
use Rattle.resolve_library.specs.ByTable.{ended_by, tried_by, accepted_by, plain_by}
use Rattle.resolve_library.specs.declared.PlainResolution.{PlainResolution}
use Rattle.resolve_library.proofs.PlainLaws.{tried-right}

-- an answer without its tries
abbrev pub plainly : PlainResolution → Resolution
plainly r = record { refusal = r.refusal; signal = r.signal; used = r.used; skipped = r.skipped }

module _ (t : List ℕ) (d : Decoded) (v : List ℕ) where
  pub tried-by : {r : PlainResolution} {n : ℕ} {e : Ended} → e ≡ ended_by t d v → n ≡ tries_of e.last → r ≡ tried_as e.answer n → r ≡ tried_by t d v
  unfolding tried_by
  tried-by {r} {n} {e} g f h = h ∙ ap (tried_as e.answer) f ∙ ap (λ (e : Ended). tried_as e.answer (tries_of e.last)) g

  -- where the table t decodes so
  module _ (m : DecodedAs t d) where
    pub tried-means : tried_by t d v ≡ plain_with t v
    unfolding tried_by
    tried-means = tried-right t v (ended_by t d v) m.refusal (plain-ends t d m.holds v refl refl)

    pub accepted-means : accepted_by t d v ≡ plain_of t v
    unfolding tried_by accepted_by plain_with plain_of
    accepted-means = ap plainly tried-means

-- whatever the table t decodes to
pub plain-means : (t : List ℕ) (d : Result Decoded Refusal) (v : List ℕ) → Means t d → plain_by t d v ≡ plain_of t v
unfolding plain_by plain_with plain_of
plain-means t (Ok d) v m = accepted-means t d v m
plain-means t (Err r) v m = refused-first t v (answered t (uris_of v) (direct_signal t (uris_of v))) r m
