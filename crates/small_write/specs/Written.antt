-- The bytes that the writer writes, over a machine's rows of bytes.
use Rattle.std.specs.Prelude.{ℕ, ◌/◌, ◌%◌, cond, List, [], ◌∷◌, ◌++◌}
use Rattle.base_numbers.specs.Numbers.{bad_classes}
use Rattle.theory_minimal.specs.Machine.{Machine}
use Rattle.theory_minimal.specs.Proposal.{class_count, small}
use Rattle.small_classes.specs.Check.{stored_fits}
use Rattle.small_image.specs.Small.{small_states}

-- what stands in front, the class count (low byte first), and the classes
unfoldable pub small_by : List ℕ → Machine → List ℕ → List ℕ
small_by front m p = front ++ class_count p % 256 ∷ class_count p / 256 ∷ [] ++ small_states (small m p) (class_count p)

-- 27 if the proposal does not fit
unfoldable pub fit_refusal : List ℕ → ℕ → ℕ → ℕ → List ℕ → ℕ
fit_refusal rows n head k p = cond (stored_fits rows n head k p) 0 bad_classes
