-- How a value is gone through: from entry to entry, each taken as it is met.
use Rattle.std.specs.Prelude.{ℕ, ◌+◌, min, Bool, cond, length, replicate, ltb, Option, None, Some}
use mathlib.Core.List.{List, map, foldl}
use Rattle.base_numbers.specs.Numbers.{most_categories, most_entries, most_value_bytes, too_many_entries, value_misfit, value_too_long}
use Rattle.value_cursor.specs.Reading.{Reading, unfit, spans, reading_from}
use Rattle.value_cursor.specs.declared.alert_param.Found.{Found}
use Rattle.value_cursor.specs.declared.alert_param.Found.TheVariants as found
use Rattle.value_reader.specs.Value.{part_of}
use Rattle.node_step.specs.Step.{step_numbers}
use Rattle.node_step.specs.Tries.{tries_numbers}
use Rattle.node_search.specs.Search.{uses_of}
use Rattle.node_step.specs.declared.Status.TheVariants.{Open}
use Rattle.node_step.specs.declared.State.{State}
use Rattle.node_search.specs.declared.uses.Used.{Used}
use Rattle.node_search.specs.declared.decoded.Decoded.{Decoded}
use Rattle.resolve_run.specs.declared.Resolution.{Resolution}
use Rattle.resolve_run.specs.declared.run.Walk.{Walk}
use Rattle.resolve_run.specs.declared.run.Current.{Current}
use Rattle.resolve_run.specs.declared.run.Current.TheVariants.{Direct, Walking}
use Rattle.resolve_run.specs.declared.entry.Entry.{Entry}
use Rattle.resolve_run.specs.declared.run.Point.{Point}
use Rattle.resolve_run.specs.declared.answer.Ended.{Ended}
use Rattle.machine_image.specs.Image.{signal_in, target_in}
use Rattle.resolve_run.specs.Answers.{refused}
use Rattle.machine_symbols.specs.Listed.{symbol_number}

-- what a URI is to the decoded table
abbrev pub use_in : List ℕ → Decoded → List ℕ → Option Used
use_in t d uri = uses_of t d.name_at d.name_len d.categories d.category d.at d.len d.shared d.inner d.nodes uri

-- signal 0, and every category open
abbrev pub start_now : State
start_now = record { signal = 0; categories = replicate most_categories (record { status = Open }) }

-- the target that the row of state j holds for a URN's symbol
abbrev pub target_now : List Bool → Walk → ℕ → ℕ → ℕ → Bool → ℕ
target_now inner w j c k whole =
    target_in (min w.categories most_categories) w.image.now j (symbol_number w.index.now w.symbols.now w.count inner c k whole)

-- the state of direct resolution where a resolver is, and the candidates tried: the start and none where it walks
abbrev pub state_of : Current → State
state_of (Direct st n) = st
state_of (Walking w j) = start_now

abbrev pub tries_of : Current → ℕ
tries_of (Direct st n) = n
tries_of (Walking w j) = 0

-- a used URN takes direct resolution one step on, with its tries added, or the walk to the target for its symbol
unfoldable pub moved : List ℕ → List ℕ → List Bool → ℕ → Current → ℕ → ℕ → Bool → Current
moved rows parent inner signals (Direct st n) c k whole =
    Direct (step_numbers rows parent inner signals st c k whole) (n + tries_numbers rows parent signals st c k whole)
moved rows parent inner signals (Walking w j) c k whole = Walking w (target_now inner w j c k whole)

-- one URI more
abbrev pub after_use : List ℕ → List ℕ → List Bool → ℕ → Point → Option Used → Point
after_use rows parent inner signals p None = record { current = p.current; used = p.used; skipped = p.skipped + 1 }
after_use rows parent inner signals p (Some u) =
    record { current = moved rows parent inner signals p.current u.category u.node u.whole; used = p.used + 1; skipped = p.skipped }

unfoldable pub after : List ℕ → Decoded → Point → List ℕ → Point
after t d p uri = after_use d.rows d.parent d.inner d.signals p (use_in t d uri)

-- what stands at a place of a value: an entry with the place of the next, the last entry, or no entry
abbrev pub entry_of : Option Found → Option Entry
entry_of (Some (found.More p c)) = Some (record { span = p; next = Some c.at })
entry_of (Some (found.Last p)) = Some (record { span = p; next = None })
entry_of None = None

-- the whole run over a reading of v, none where the value does not fit
unfoldable pub over : {S : Type 0} → List ℕ → (S → List ℕ → S) → S → Reading → Option S
over v f s unfit = None
over v f s (spans ps) = Some (foldl f s (map (part_of v) ps))

unfoldable pub run_from : List ℕ → Decoded → List ℕ → Point → ℕ → Option Point
run_from t d v p at = over v (after t d) p (reading_from v at)

-- the signal where a resolver is
unfoldable pub signal_now : Current → ℕ
signal_now (Direct st n) = st.signal
signal_now (Walking w j) = signal_in (min w.categories most_categories) w.image.now j

-- the answer at the end of a value that fits: 3 if it has over 64 entries
unfoldable pub answer_of : Point → ℕ → Resolution
answer_of p s =
    cond (ltb most_entries (p.used + p.skipped)) (refused too_many_entries) (record { refusal = 0; signal = s; used = p.used; skipped = p.skipped })

-- no entry read yet, and no candidate tried
abbrev pub begin : Current → Point
begin (Direct st n) = record { current = Direct st 0; used = 0; skipped = 0 }
begin (Walking w j) = record { current = Walking w j; used = 0; skipped = 0 }

-- the answer of a run that began at p, and where it ended: 2 if the value does not fit
abbrev pub end_of : Point → Option Point → Ended
end_of p None = record { answer = refused value_misfit; last = p.current }
end_of p (Some q) = record { answer = answer_of q (signal_now q.current); last = q.current }

-- a whole value, from where a resolver begins: 1 if it has over 4,096 bytes
unfoldable pub ended_from : List ℕ → Decoded → Current → List ℕ → Ended
ended_from t d x v = cond (ltb most_value_bytes (length v)) (record { answer = refused value_too_long; last = x }) (end_of (begin x) (run_from t d v (begin x) 0))
