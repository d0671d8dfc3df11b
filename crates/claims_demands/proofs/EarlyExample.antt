-- The examples of the early answer hold, by computation.
use mathlib.Core.Path.{refl}
use Rattle.base_lists.specs.Tests.{all, any, no_two}
use Rattle.base_lists.specs.Cuts.{run, past, up_to}
use Rattle.value_cursor.specs.Bytes.{is_blank, is_escapable, is_text, is_token, is_uri}
use Rattle.value_cursor.specs.Parts.{blank_at, ending_at, ending_step, entry_at, following_at, param_at, quote_at, quoted_at, quoted_from, quoted_step}
use Rattle.value_cursor.specs.Parts.{setting_at, token_at, white_at, white_step}
use Rattle.value_cursor.specs.Walk.{run_at, walk, walk_at}
use Rattle.value_cursor.specs.Reading.{reading_from, reading_of, value_step}
use Rattle.value_reader.specs.Value.{refusal_of, spans_of, uris_of}
use Rattle.base_text.specs.Text.{fields, on_first, lowered}
use Rattle.urn_names.specs.Names.{label_byte, label_ok, name_ok}
use Rattle.urn_names.specs.Urn.{alert_urn, begins, no_capital, stored_name, rest_ok, urn_ok}
use Rattle.node_search.specs.Uses.{used_urn}
use Rattle.theory_resolution.specs.Direct.{step}
use Rattle.theory_resolution.specs.Nodes.{leaf, nodes}
use Rattle.base_lists.specs.Lists as lists
use Rattle.table_sections.specs.Stored.{and_then, byte_in, counted, stored, stored_from, text, times}
use Rattle.table_decode.specs.Tables.{category_names, distinct, few_nodes, formed, is_listed, judged, judged_read, listed, names_read, zero_silent, single}
use Rattle.table_decode.specs.Tables.{table_of, table_read, table_refusal, uses, verdict}
use Rattle.resolve_early.specs.FirstEntries.{front_from, front_step}
use Rattle.resolve_early.specs.Early.{early_of}
use Rattle.claims_demands.specs.EarlyExample.{EarlyExample}

pub early-example : EarlyExample
unfolding is_blank is_escapable is_text is_token is_uri blank_at ending_at ending_step entry_at following_at param_at quote_at quoted_at quoted_from
    quoted_step setting_at token_at white_at white_step reading_from reading_of refusal_of spans_of uris_of value_step run run_at walk walk_at all
    fields label_byte label_ok name_ok on_first past up_to alert_urn begins rest_ok lowered no_capital stored_name urn_ok used_urn step nodes and_then
    byte_in counted stored stored_from text times any category_names distinct few_nodes formed is_listed judged judged_read listed names_read
    no_two zero_silent single table_of table_read table_refusal uses verdict lists.tabulate lists.all_below leaf front_from front_step early_of
early-example = record { two-needed = refl; not-enough = refl; whole-value = refl; held = refl }
