-- What is claimed of the verdict, for all bytes as a table and as a log.
use Rattle.std.specs.Prelude.{ℕ, ◌≤◌, ◌<◌, ◌≡◌, ◌⊎◌, ◌↔◌, true, length, get_or}
use mathlib.Core.List.{List, [], Memᴰ}
use Rattle.base_numbers.specs.Numbers.{most_log_bytes}
use Rattle.table_decode.specs.Tables.{table_refusal}
use Rattle.resolve_library.specs.Resolve.{plain_of}
use Rattle.log_library.specs.Log.{Call, calls_of, end_of, is_log}
use Rattle.log_library.specs.Written.{log_bytes}
use Rattle.log_library.specs.Verdict.{all_agree, differs, verdict_of}

-- a call's three bytes are the plain resolver's for its value
pub record Right (t : List ℕ) (c : Call) : Type 0 where
  pub signal : c.signal ≡ (plain_of t c.value).signal
  pub used : c.used ≡ (plain_of t c.value).used
  pub skipped : c.skipped ≡ (plain_of t c.value).skipped

-- no log: it is too long, or its calls end past its end, or before
abbrev pub NoLog : List ℕ → Type 0
NoLog log = (most_log_bytes < length log) ⊎ ((length log < end_of log) ⊎ (end_of log < length log))

-- every call is right
abbrev pub AllRight : List ℕ → List ℕ → Type 0
AllRight t log = (c : Call) → Memᴰ c (calls_of log) → Right t c

abbrev pub no_call : Call
no_call = record { value = []; signal = 0; used = 0; skipped = 0 }

-- call k of a log
abbrev pub call_in : List ℕ → ℕ → Call
call_in log k = get_or (calls_of log) k no_call

-- the first call that is not right is named, with the right answer
pub record FirstWrong (t log : List ℕ) : Type 0 where
  pub call : ℕ
  pub there : call < length (calls_of log)
  pub wrong : Right t (call_in log call) → ⊥
  pub first : (j : ℕ) → j < call → Right t (call_in log j)
  pub says : verdict_of t log ≡ differs call (plain_of t (call_in log call).value)

-- the numbers that may be given
abbrev pub LogNumber : ℕ → Type 0
LogNumber n = (n ≡ 0) ⊎ (((4 ≤ n) × (n ≤ 12)) ⊎ (n ≡ 25))

pub record Judges (t log : List ℕ) : Type 0 where
  -- a refused table's number, whatever the log
  pub table-first : (table_refusal t ≡ 0 → ⊥) → verdict_of t log ≡ record { refusal = table_refusal t; agrees = 0; call = 0; signal = 0; used = 0; skipped = 0 }
  -- then 25, exactly for what is no log, whatever its calls
  pub no-log : table_refusal t ≡ 0 → (verdict_of t log ≡ record { refusal = 25; agrees = 0; call = 0; signal = 0; used = 0; skipped = 0 }) ↔ NoLog log
  -- else every call is right, or the first that is not is named
  pub each-call : table_refusal t ≡ 0 → (NoLog log → ⊥) → AllRight t log ⊎ FirstWrong t log
  -- and it is said that all agree exactly if every call is right
  pub all-agree : table_refusal t ≡ 0 → (NoLog log → ⊥) → (verdict_of t log ≡ all_agree) ↔ AllRight t log
  -- no other number is given, and a refused log is 0 but for its number
  pub number : LogNumber (verdict_of t log).refusal
  pub zeros : ((verdict_of t log).refusal ≡ 0 → ⊥) → verdict_of t log ≡ record { refusal = (verdict_of t log).refusal; agrees = 0; call = 0; signal = 0; used = 0; skipped = 0 }

-- for a refused value 0, 0, 0 is right, and nothing else
abbrev pub RefusedCall : List ℕ → Call → Type 0
RefusedCall t c = ((plain_of t c.value).refusal ≡ 0 → ⊥) → Right t c ↔ ((c.signal ≡ 0) × (c.used ≡ 0) × (c.skipped ≡ 0))

-- what is proved
abbrev pub JudgeClaim : Type 0
JudgeClaim = (t log : List ℕ) → Judges t log

abbrev pub RefusedClaim : Type 0
RefusedClaim = (t : List ℕ) (c : Call) → RefusedCall t c

-- the bytes of any calls, if they are not too many, are a log, and its calls are these
abbrev pub WrittenRead : Type 0
WrittenRead = (cs : List Call) → length (log_bytes cs) ≤ most_log_bytes → (is_log (log_bytes cs) ≡ true) × (calls_of (log_bytes cs) ≡ cs)

-- and a log of bytes is the bytes of its calls: there is no other form
abbrev pub ReadWritten : Type 0
ReadWritten = (log : List ℕ) → ((i : ℕ) → get_or log i 0 < 256) → is_log log ≡ true → log_bytes (calls_of log) ≡ log

-- each number is given to some table and log
abbrev pub EachNumber : Type 0
EachNumber = (n : ℕ) → LogNumber n → (t log : List ℕ) × ((verdict_of t log).refusal ≡ n)
