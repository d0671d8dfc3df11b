-- The numbers of refusals.
use Prim.Native.Nat.{◌<◌}
use native.Mathlib.Omega.{arith}
use Rattle.base_numbers.specs.Refusals.{refusal_number}
use Rattle.base_numbers.specs.declared.refusal.Refusal.{Refusal}
use Rattle.base_numbers.specs.declared.refusal.Refusal.TheVariants.{ValueTooLong, ValueMisfit, TooManyEntries, TableTooLong, TableWrongEnd, TableOutOfRange, TableBadForm, TableBadCategory, TableTwoOfCategory, TableBadDefault, TableSamePlaces, TableTooManyNodes, TooManyStates, ImageNoRoom, ImageBadForm, ImageWrongStart, ImageWrongTarget, NoEntry, TooManyValues, NotCounted, BadTree, FormNoRoom, UnknownAvailable, SharedCategory, BadLog, SampleNoRoom, BadClasses, BadRecord, UnknownNode, UnknownSignal}

-- none is 0, which says that nothing is refused
pub refusal-some : (r : Refusal) → 0 < refusal_number r
unfolding refusal_number
refusal-some ValueTooLong = omega arith
refusal-some ValueMisfit = omega arith
refusal-some TooManyEntries = omega arith
refusal-some TableTooLong = omega arith
refusal-some TableWrongEnd = omega arith
refusal-some TableOutOfRange = omega arith
refusal-some TableBadForm = omega arith
refusal-some TableBadCategory = omega arith
refusal-some TableTwoOfCategory = omega arith
refusal-some TableBadDefault = omega arith
refusal-some TableSamePlaces = omega arith
refusal-some TableTooManyNodes = omega arith
refusal-some TooManyStates = omega arith
refusal-some ImageNoRoom = omega arith
refusal-some ImageBadForm = omega arith
refusal-some ImageWrongStart = omega arith
refusal-some ImageWrongTarget = omega arith
refusal-some NoEntry = omega arith
refusal-some TooManyValues = omega arith
refusal-some NotCounted = omega arith
refusal-some BadTree = omega arith
refusal-some FormNoRoom = omega arith
refusal-some UnknownAvailable = omega arith
refusal-some SharedCategory = omega arith
refusal-some BadLog = omega arith
refusal-some SampleNoRoom = omega arith
refusal-some BadClasses = omega arith
refusal-some BadRecord = omega arith
refusal-some UnknownNode = omega arith
refusal-some UnknownSignal = omega arith
