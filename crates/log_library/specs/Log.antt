-- The calls of a log. It begins with their number; a call is the length of its value, the value, and three bytes of answer: signal,
-- used, skipped. The number and the lengths have two bytes each, the low one first.
use Rattle.std.specs.Prelude.{ℕ, zero, suc, ◌+◌, ◌*◌, Bool, ◌&&◌, List, [], ◌∷◌, eqb, leb, length, get_or, take, drop}
use Rattle.base_numbers.specs.Numbers.{most_log_bytes}

-- the number that two bytes say, low first; past the end a byte counts as 0
abbrev pub word_at : List ℕ → ℕ → ℕ
word_at log at = get_or log at 0 + 256 * get_or log (at + 1) 0

-- a call: its value, and the maker's answer
pub record Call : Type 0 where
  pub value : List ℕ
  pub signal : ℕ
  pub used : ℕ
  pub skipped : ℕ

-- the call at a position, whose value has n bytes
abbrev pub call_with : List ℕ → ℕ → ℕ → Call
call_with log at n =
    record {
      value = take n (drop (at + 2) log);
      signal = get_or log (at + 2 + n) 0;
      used = get_or log (at + 2 + n + 1) 0;
      skipped = get_or log (at + 2 + n + 2) 0;
    }

abbrev pub call_at : List ℕ → ℕ → Call
call_at log at = call_with log at (word_at log at)

-- the position after it
abbrev pub after_call : List ℕ → ℕ → ℕ
after_call log at = at + 2 + word_at log at + 3

-- n calls from a position on, and the position after them
unfoldable pub calls_from : List ℕ → ℕ → ℕ → List Call
calls_from log at zero = []
calls_from log at (suc n) = call_at log at ∷ calls_from log (after_call log at) n

unfoldable pub end_from : List ℕ → ℕ → ℕ → ℕ
end_from log at zero = at
end_from log at (suc n) = end_from log (after_call log at) n

-- the calls of a log, and where they end
abbrev pub calls_of : List ℕ → List Call
calls_of log = calls_from log 2 (word_at log 0)

abbrev pub end_of : List ℕ → ℕ
end_of log = end_from log 2 (word_at log 0)

-- a log has at most 32,768 bytes, and ends with its last call
unfoldable pub is_log : List ℕ → Bool
is_log log = leb (length log) most_log_bytes && eqb (end_of log) (length log)
