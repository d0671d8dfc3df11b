-- The example of several fields holds, by computation.
use Prim.Native.Nat.{ℕ, zero, suc}
use mathlib.Core.Path.{◌≡◌, refl}
use mathlib.Core.List.{List, []}
use native.Mathlib.Omega.{arith}
use lib.ListN.{replicate}
use Rattle.base_lists.specs.Tests.{all, any, no_two}
use Rattle.base_lists.specs.Cuts.{run, past, up_to}
use Rattle.value_cursor.specs.Bytes.{is_blank, is_escapable, is_text, is_token, is_uri}
use Rattle.value_cursor.specs.Parts.{blank_at, ending_at, ending_step, entry_at, following_at, param_at, quote_at, quoted_at, quoted_from, quoted_step}
use Rattle.value_cursor.specs.Parts.{setting_at, token_at, white_at, white_step}
use Rattle.value_cursor.specs.Walk.{run_at, walk, walk_at}
use Rattle.value_cursor.specs.Reading.{reading_from, reading_of, value_step}
use Rattle.value_reader.specs.Examples.{entries_more}
use Rattle.value_reader.specs.Value.{refusal_of, spans_of, uris_of}
use Rattle.base_text.specs.Text.{fields, on_first, lowered}
use Rattle.urn_names.specs.Names.{label_byte, label_ok, name_ok}
use Rattle.base_ascii.specs.Ascii.{bytes}
use Rattle.urn_names.specs.Urn.{alert_urn, begins, no_capital, stored_name, rest_ok, urn_ok}
use Rattle.node_search.specs.Uses.{used_urn}
use Rattle.theory_resolution.specs.Direct.{step}
use Rattle.theory_resolution.specs.Nodes.{nodes}
use Rattle.base_lists.specs.Lists as lists
use Rattle.table_sections.specs.Stored.{and_then, byte_in, counted, stored, stored_from, text, times}
use Rattle.table_decode.specs.Tables.{category_names, distinct, few_nodes, formed, is_listed, judged, judged_read, listed, names_read, zero_silent, single}
use Rattle.table_decode.specs.Tables.{table_of, table_read, table_refusal, uses, verdict}
use Rattle.resolve_record.specs.Record.{carried_fits}
use Rattle.resolve_library.specs.Feed.{feed_of}
use Rattle.claims_demands.specs.Feeding.{AllAccepted, Joinable}
use Rattle.claims_demands.specs.FieldsExample.{long_value, FieldsExample}

-- a value as often as one likes
all_same : (n : ℕ) (v : List ℕ) → refusal_of v ≡ 0 → AllAccepted (replicate n v)
all_same zero v e = tt
all_same (suc n) v e = (e, all_same n v e)

short : refusal_of (bytes "<a>") ≡ 0
unfolding is_blank is_escapable is_text is_token is_uri blank_at ending_at ending_step entry_at following_at param_at quote_at quoted_at quoted_from
    quoted_step setting_at token_at white_at white_step reading_from reading_of refusal_of spans_of uris_of value_step run run_at walk walk_at
short = refl

sixteen : Joinable (bytes "<a>") (replicate 15 (bytes "<a>"))
unfolding is_blank is_escapable is_text is_token is_uri blank_at ending_at ending_step entry_at following_at param_at quote_at quoted_at quoted_from
    quoted_step setting_at token_at white_at white_step reading_from reading_of refusal_of spans_of uris_of value_step run run_at walk walk_at
sixteen = (omega arith, all_same 16 (bytes "<a>") short, omega arith, omega arith)

entries : Joinable (entries_more 63) []
unfolding is_blank is_escapable is_text is_token is_uri blank_at ending_at ending_step entry_at following_at param_at quote_at quoted_at quoted_from
    quoted_step setting_at token_at white_at white_step reading_from reading_of refusal_of spans_of uris_of value_step run run_at walk walk_at
entries = (omega arith, (refl, tt), omega arith, omega arith)

long : Joinable (long_value 4094) []
unfolding is_blank is_escapable is_text is_token is_uri blank_at ending_at ending_step entry_at following_at param_at quote_at quoted_at quoted_from
    quoted_step setting_at token_at white_at white_step reading_from reading_of refusal_of spans_of uris_of value_step run run_at walk walk_at
long = (omega arith, (refl, tt), omega arith, omega arith)

pub fields-example : FieldsExample
unfolding is_blank is_escapable is_text is_token is_uri blank_at ending_at ending_step entry_at following_at param_at quote_at quoted_at quoted_from
    quoted_step setting_at token_at white_at white_step reading_from reading_of refusal_of spans_of uris_of value_step run run_at walk walk_at all
    fields label_byte label_ok name_ok on_first past up_to alert_urn begins rest_ok lowered no_capital stored_name urn_ok used_urn step nodes and_then
    byte_in counted stored stored_from text times any category_names distinct few_nodes formed is_listed judged judged_read listed names_read
    no_two zero_silent single table_of table_read table_refusal uses verdict lists.tabulate lists.all_below carried_fits feed_of
fields-example = record {
  all-accepted = (refl, (refl, (refl, tt)));
  high-internal = refl;
  low = refl;
  held = refl;
  reason = refl;
  refused = refl;
  answers = refl;
  sixteen-values = sixteen;
  most-entries = entries;
  most_bytes = long;
}
