-- A stored table: categories and signals, each section with its count in front, read from the left. Refusals 4, 5 and 6.
-- A reading is asked at a position of the bytes t; it answers with a fault's number, or with a value and the position after it.
use Rattle.std.specs.Prelude.{ℕ, suc, zero, ◌+◌, ◌-◌, cond, List, [], ◌∷◌, length, get_or, take, drop, leb, ltb}
use Rattle.base_numbers.specs.Numbers.{most_categories, most_name_bytes, most_signals, most_table_bytes, most_urn_bytes, most_urns, table_out_of_range}
use Rattle.base_numbers.specs.Numbers.{table_too_long, table_wrong_end}
use Rattle.base_lists.specs.Numbers.{within}

pub data Read (A : Type 0) : Type 0 where
  fault : ℕ → Read A
  got : A → ℕ → Read A

-- the second reading goes on where the first ended
unfoldable pub and_then : {A B : Type 0} → Read A → (A → ℕ → Read B) → Read B
and_then (fault k) f = fault k
and_then (got x at) f = f x at

-- a byte from lo to hi: 5 where the table has ended, 6 where the byte is outside
unfoldable pub byte_in : ℕ → ℕ → List ℕ → ℕ → Read ℕ
byte_in lo hi t at =
    cond (ltb at (length t)) (cond (within lo hi (get_or t at 0)) (got (get_or t at 0) (at + 1)) (fault table_out_of_range)) (fault table_wrong_end)

-- a length byte from 1 to hi, and so many bytes
unfoldable pub text : ℕ → List ℕ → ℕ → Read (List ℕ)
text hi t at =
    and_then (byte_in 1 hi t at) (λ n p. cond (leb n (length t - p)) (got (take n (drop p t)) (p + n)) (fault table_wrong_end))

-- so many readings, one after the other
unfoldable pub times : {A : Type 0} → (ℕ → Read A) → ℕ → ℕ → Read (List A)
times rd zero at = got [] at
times rd (suc n) at = and_then (rd at) (λ x p. and_then (times rd n p) (λ xs q. got (x ∷ xs) q))

-- a count from lo to hi, and so many readings
unfoldable pub counted : {A : Type 0} → ℕ → ℕ → (ℕ → Read A) → List ℕ → ℕ → Read (List A)
counted lo hi rd t at = and_then (byte_in lo hi t at) (λ n p. times rd n p)

-- 1 to 8 categories, each a name of 1 to 55 bytes
abbrev pub categories : List ℕ → ℕ → Read (List (List ℕ))
categories t at = counted 1 most_categories (text most_name_bytes t) t at

-- a signal: 0 to 8 URNs, each of 1 to 255 bytes
abbrev pub signal : List ℕ → ℕ → Read (List (List ℕ))
signal t at = counted 0 most_urns (text most_urn_bytes t) t at

-- 1 to 32 signals
abbrev pub signals : List ℕ → ℕ → Read (List (List (List ℕ)))
signals t at = counted 1 most_signals (signal t) t at

-- what a stored table holds: the categories' names, and for each signal its URNs without `urn:alert:`
pub record Stored : Type 0 where
  pub names : List (List ℕ)
  pub signals : List (List (List ℕ))

-- the signals after the categories, and nothing after them
unfoldable pub stored_from : List ℕ → List (List ℕ) → ℕ → Read Stored
stored_from t ns at =
    and_then (signals t at) (λ ss p. cond (ltb p (length t)) (fault table_wrong_end) (got (record { names = ns; signals = ss }) p))

-- both sections
unfoldable pub stored : List ℕ → Read Stored
stored t = and_then (categories t 0) (λ ns at. stored_from t ns at)

-- the whole table: 4 where it is over 8,192 bytes
abbrev pub sections : List ℕ → Read Stored
sections t = cond (ltb most_table_bytes (length t)) (fault table_too_long) (stored t)
