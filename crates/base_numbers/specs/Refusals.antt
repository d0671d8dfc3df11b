-- Why a question is refused, and the number that says it.
use Rattle.std.specs.Prelude.{ℕ}
use Rattle.base_numbers.specs.Numbers.{bad_classes, bad_log, bad_record, bad_tree, form_no_room, image_bad_form, image_no_room, image_wrong_start, image_wrong_target, no_entry, not_counted, sample_no_room, shared_category, table_bad_category, table_bad_default, table_bad_form, table_out_of_range, table_same_places, table_too_long, table_too_many_nodes, table_two_of_category, table_wrong_end, too_many_entries, too_many_states, too_many_values, unknown_available, unknown_node, unknown_signal, value_misfit, value_too_long}
use Rattle.base_numbers.specs.declared.refusal.Refusal.{Refusal}
use Rattle.base_numbers.specs.declared.refusal.Refusal.TheVariants.{ValueTooLong, ValueMisfit, TooManyEntries, TableTooLong, TableWrongEnd, TableOutOfRange, TableBadForm, TableBadCategory, TableTwoOfCategory, TableBadDefault, TableSamePlaces, TableTooManyNodes, TooManyStates, ImageNoRoom, ImageBadForm, ImageWrongStart, ImageWrongTarget, NoEntry, TooManyValues, NotCounted, BadTree, FormNoRoom, UnknownAvailable, SharedCategory, BadLog, SampleNoRoom, BadClasses, BadRecord, UnknownNode, UnknownSignal}

-- the number of a refusal
unfoldable pub refusal_number : Refusal → ℕ
refusal_number ValueTooLong = value_too_long
refusal_number ValueMisfit = value_misfit
refusal_number TooManyEntries = too_many_entries
refusal_number TableTooLong = table_too_long
refusal_number TableWrongEnd = table_wrong_end
refusal_number TableOutOfRange = table_out_of_range
refusal_number TableBadForm = table_bad_form
refusal_number TableBadCategory = table_bad_category
refusal_number TableTwoOfCategory = table_two_of_category
refusal_number TableBadDefault = table_bad_default
refusal_number TableSamePlaces = table_same_places
refusal_number TableTooManyNodes = table_too_many_nodes
refusal_number TooManyStates = too_many_states
refusal_number ImageNoRoom = image_no_room
refusal_number ImageBadForm = image_bad_form
refusal_number ImageWrongStart = image_wrong_start
refusal_number ImageWrongTarget = image_wrong_target
refusal_number NoEntry = no_entry
refusal_number TooManyValues = too_many_values
refusal_number NotCounted = not_counted
refusal_number BadTree = bad_tree
refusal_number FormNoRoom = form_no_room
refusal_number UnknownAvailable = unknown_available
refusal_number SharedCategory = shared_category
refusal_number BadLog = bad_log
refusal_number SampleNoRoom = sample_no_room
refusal_number BadClasses = bad_classes
refusal_number BadRecord = bad_record
refusal_number UnknownNode = unknown_node
refusal_number UnknownSignal = unknown_signal
