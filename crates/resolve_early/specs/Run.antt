-- How a value is gone through: from entry to entry, until the state is settled.
use Rattle.std.specs.Prelude.{ℕ, ◌+◌, ◌-◌, Bool, true, cond, ◌||◌, List, [], ◌∷◌, Option, Some, None}
use Rattle.base_numbers.specs.Numbers.{most_entries}
use Rattle.value_cursor.specs.declared.alert_param.Span.{Span}
use Rattle.value_reader.specs.Value.{part_of}
use Rattle.node_step.specs.StatusByte.{step_packed}
use Rattle.node_step.specs.declared.stored.Packed.{Packed}
use Rattle.node_search.specs.declared.uses.Used.{Used}
use Rattle.node_search.specs.declared.decoded.Decoded.{Decoded}
pub use Rattle.resolve_run.specs.Run.{use_in}
use Rattle.resolve_early.specs.FirstEntries.{front_from, first_of}
use Rattle.resolve_early.specs.SettledBy.{settled_by}
use Rattle.resolve_early.specs.declared.run.Reached.{Reached}

-- one URI more: a skipped one changes nothing
abbrev pub after_use : List ℕ → List ℕ → List Bool → ℕ → Packed → Option Used → Packed
after_use rows ps inner n st None = st
after_use rows ps inner n st (Some u) = step_packed rows ps inner n st u.category u.node u.whole

-- the same by the URI
unfoldable pub after_uri : List ℕ → Decoded → Packed → List ℕ → Packed
after_uri t d st uri = after_use d.rows d.parent d.inner d.signals st (use_in t d uri)

-- the state is settled, by the decoded table
abbrev pub settled_in : Decoded → Packed → Bool
settled_in d st = settled_by d.rows d.parent d.inner d.signals d.categories st

-- the signal after n entries, if they are enough
abbrev pub reached_at : Bool → Packed → ℕ → Option Reached
reached_at enough st n = cond enough (Some (record { signal = st.signal; entries = n })) None

-- from a state after n entries, over those that follow
unfoldable pub run_over : List ℕ → Decoded → List ℕ → Packed → ℕ → List Span → Bool → Option Reached
run_over t d v st n [] ended = reached_at (ended || settled_in d st) st n
run_over t d v st n (p ∷ ps) ended = cond (settled_in d st) (reached_at true st n) (run_over t d v (after_uri t d st (part_of v p)) (n + 1) ps ended)

-- from a place in the value, before a 65th entry
unfoldable pub run_from : List ℕ → Decoded → List ℕ → Packed → ℕ → ℕ → Option Reached
run_from t d v st n at = run_over t d v st n (first_of (most_entries - n) (front_from v at)).parts (first_of (most_entries - n) (front_from v at)).ended
