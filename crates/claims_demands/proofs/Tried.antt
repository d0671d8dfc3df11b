-- The plain resolver's tries.
use mathlib.Core.Path.{refl, ap, ap₂}
use mathlib.Core.Bool.{cond}
use borrow.Author.Tests.{eq-eqb, ne_eqb}
use Rattle.value_reader.specs.Value.{uris_of}
use Rattle.theory_resolution.proofs.Tries.{tries-law}
use Rattle.table_decode.specs.Tables.{table_of}
use Rattle.table_decode.proofs.Accepting.{accepted}
use Rattle.resolve_run.specs.declared.Resolution.{Resolution}
use Rattle.resolve_library.specs.Resolve.{tries_in, plain_of, plain_with}
use Rattle.claims_demands.specs.Tried.{TriedClaim}
use Rattle.claims_demands.proofs.DemandLaws.{plain-refused}

pub tried : TriedClaim
unfolding plain_with
tried t =
    record {
      same = λ v. refl;
      counted = λ v e. rw (eq-eqb (plain_of t v).refusal 0 e);
      none = λ v n. ap₂ (λ (r : Resolution) k. record { refusal = (plain_of t v).refusal; signal = r.signal; used = r.used; skipped = r.skipped; tries = k })
          (plain-refused t v n) (ap (λ b. cond b (tries_in t (uris_of v)) 0) (ne_eqb (plain_of t v).refusal 0 n));
      few = λ ok st u.
          let law = tries-law (table_of t) (accepted t ok).well in
          law.bounded 8 (law.low 8 (accepted t ok).few-parts) st u;
      law = λ ok. tries-law (table_of t) (accepted t ok).well;
    }
