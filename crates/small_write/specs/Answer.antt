-- What is answered where bytes are asked for in a lent buffer, and what the buffer then has.
use Rattle.std.specs.Prelude.{ℕ, ◌-◌, cond, List, ◌++◌, eqb, ltb, length, replicate}
use Rattle.base_numbers.specs.Numbers.{image_no_room}
use Rattle.base_bytes.specs.declared.Built.{Built}

-- the number that refuses them already, or 14 if they are longer than the room, else 0
unfoldable pub refusal_in : ℕ → List ℕ → ℕ → ℕ
refusal_in refusal bytes room = cond (eqb refusal 0) (cond (ltb room (length bytes)) image_no_room 0) refusal

-- that number, and how many bytes there are, 0 after a refusal
unfoldable pub answer_in : ℕ → List ℕ → ℕ → Built
answer_in refusal bytes room =
    record { refusal = refusal_in refusal bytes room; len = cond (eqb (refusal_in refusal bytes room) 0) (length bytes) 0 }

-- the bytes and zeros after them, or zeros after a refusal
unfoldable pub buffer_in : ℕ → List ℕ → ℕ → List ℕ
buffer_in refusal bytes room =
    cond (eqb (refusal_in refusal bytes room) 0)
    (bytes ++ replicate (room - length bytes) 0)
    (replicate room 0)
