-- What is said of a log.
use Rattle.std.specs.Prelude.{ℕ, suc, Bool, cond, ◌&&◌, List, [], ◌∷◌, eqb}
use Rattle.base_numbers.specs.Numbers.{bad_log}
use Rattle.table_decode.specs.Tables.{table_refusal}
use Rattle.resolve_run.specs.declared.Resolution.{Resolution}
use Rattle.resolve_library.specs.Resolve.{plain_of}
use Rattle.log_library.specs.Log.{Call, calls_of, is_log}
use Rattle.log_library.specs.declared.Verdict.{Verdict}

-- three numbers are a resolution's; a refused one has 0, 0, 0
unfoldable pub same_answer : Resolution → ℕ → ℕ → ℕ → Bool
same_answer r signal used skipped = eqb r.signal signal && (eqb r.used used && eqb r.skipped skipped)

-- a call agrees with the plain resolver, and so with direct resolution
abbrev pub agrees : List ℕ → Call → Bool
agrees t c = same_answer (plain_of t c.value) c.signal c.used c.skipped

-- refused with k: all zero but the number
abbrev pub refused : ℕ → Verdict
refused k = record { refusal = k; agrees = 0; call = 0; signal = 0; used = 0; skipped = 0 }

-- every call agrees
abbrev pub all_agree : Verdict
all_agree = record { refusal = 0; agrees = 1; call = 0; signal = 0; used = 0; skipped = 0 }

-- call k does not, and this is the right answer
abbrev pub differs : ℕ → Resolution → Verdict
differs k r = record { refusal = 0; agrees = 0; call = k; signal = r.signal; used = r.used; skipped = r.skipped }

-- the first call that does not agree, where the first of the list is call k
unfoldable pub judged : List ℕ → ℕ → List Call → Verdict
judged t k [] = all_agree
judged t k (c ∷ cs) = cond (agrees t c) (judged t (suc k) cs) (differs k (plain_of t c.value))

-- the verdict: 4 to 12 by the table, 25 by the whole log, then the calls
unfoldable pub verdict_of : List ℕ → List ℕ → Verdict
verdict_of t log =
    cond (eqb (table_refusal t) 0) (cond (is_log log) (judged t 0 (calls_of log)) (refused bad_log)) (refused (table_refusal t))
