use Rattle.value_reader.proofs.JudgedLaws.{judged-long, judged-misfit, judged-many, judged-fine}
use Rattle.value_reader.proofs.value.judge.Goals as goal

pub returns-then-v-gt-MOST_VALUE_BYTES : goal.returns-then-v-gt-MOST_VALUE_BYTES
returns-then-v-gt-MOST_VALUE_BYTES c = judged-long _ _ c.if-v-gt-MOST_VALUE_BYTES.true

pub returns-in_default : goal.returns-in_default
returns-in_default c = judged-misfit _ _ c.if-v-gt-MOST_VALUE_BYTES.false _ c.scan_value.ensures c.in_default.is

pub returns-then-t-gt-MOST_ENTRIES : goal.returns-then-t-gt-MOST_ENTRIES
returns-then-t-gt-MOST_ENTRIES c = judged-many _ _ c.if-v-gt-MOST_VALUE_BYTES.false _ _ c.scan_value.ensures c.in-Some.is c.if-t-gt-MOST_ENTRIES.true

pub returns : goal.returns
returns c = judged-fine _ _ c.if-v-gt-MOST_VALUE_BYTES.false _ _ c.scan_value.ensures c.in-Some.is c.if-t-gt-MOST_ENTRIES.false
