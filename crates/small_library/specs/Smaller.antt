-- What the check of a proposal, the writer and the proposer answer for a stored table and an image, for all bytes.
use Rattle.std.specs.Prelude.{ℕ, cond, List, [], eqb}
use Rattle.std.proofs.Math.Option.{Option, some, none}
use Rattle.base_numbers.specs.Numbers.{bad_classes}
use Rattle.table_decode.specs.Tables.{table_of}
use Rattle.base_bytes.specs.declared.Built.{Built}
use Rattle.machine_library.specs.Built.{check_from}
use Rattle.theory_minimal.specs.Machine.{Machine}
use Rattle.theory_minimal.specs.Test.{fits, proposed}
use Rattle.small_image.specs.Numbers.{numbers_in, small_of}
use Rattle.small_write.specs.Answer.{answer_in, buffer_in}

-- the machine in an image for a stored table, by its numbers
abbrev pub machine_from : List ℕ → List ℕ → Machine
machine_from t im = numbers_in (table_of t).cats im

-- what the checker says of the image; else 27 for a proposal that does not fit the machine in it, else 0
unfoldable pub classes_refusal : List ℕ → List ℕ → List ℕ → ℕ
classes_refusal t im p = cond (eqb (check_from t im) 0) (cond (fits (machine_from t im) p) 0 bad_classes) (check_from t im)

-- the writer's answer, and the whole buffer after it
abbrev pub small_from : List ℕ → List ℕ → List ℕ → ℕ → Built
small_from t im p room = answer_in (classes_refusal t im p) (small_of (table_of t) im p) room

abbrev pub small_buffer : List ℕ → List ℕ → List ℕ → ℕ → List ℕ
small_buffer t im p room = buffer_in (classes_refusal t im p) (small_of (table_of t) im p) room

-- the proposer's number and bytes: 27 and none if there is no proposal
abbrev pub number_of : Option (List ℕ) → ℕ
number_of none = bad_classes
number_of (some p) = 0

abbrev pub bytes_of : Option (List ℕ) → List ℕ
bytes_of none = []
bytes_of (some p) = p

-- what the checker says of the image, else 27 if there is no proposal, else 0
unfoldable pub propose_refusal : List ℕ → List ℕ → ℕ
propose_refusal t im = cond (eqb (check_from t im) 0) (number_of (proposed (machine_from t im))) (check_from t im)

-- the proposer's answer, and the whole buffer after it
abbrev pub proposed_from : List ℕ → List ℕ → ℕ → Built
proposed_from t im room = answer_in (propose_refusal t im) (bytes_of (proposed (machine_from t im))) room

abbrev pub proposed_buffer : List ℕ → List ℕ → ℕ → List ℕ
proposed_buffer t im room = buffer_in (propose_refusal t im) (bytes_of (proposed (machine_from t im))) room
