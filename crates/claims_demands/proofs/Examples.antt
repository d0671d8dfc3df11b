-- The marked examples hold, by computation.
use mathlib.Core.Path.{refl}
use Rattle.base_lists.specs.Lists.{tabulate, each}
use Rattle.base_lists.specs.Tests.{all, any, no_two}
use Rattle.base_lists.specs.Cuts.{run, past, up_to}
use Rattle.value_cursor.specs.Bytes.{is_blank, is_escapable, is_text, is_token, is_uri}
use Rattle.value_cursor.specs.Parts.{blank_at, ending_at, ending_step, entry_at, following_at, param_at, quote_at, quoted_at, quoted_from, quoted_step}
use Rattle.value_cursor.specs.Parts.{setting_at, token_at, white_at, white_step}
use Rattle.value_cursor.specs.Walk.{run_at, walk, walk_at}
use Rattle.value_cursor.specs.Reading.{reading_from, reading_of, value_step}
use Rattle.value_reader.specs.Value.{refusal_of, spans_of, uris_of}
use Rattle.base_text.specs.Text.{fields, on_first, lowered}
use Rattle.urn_names.specs.Names.{label_byte, label_ok, name_ok}
use Rattle.urn_names.specs.Urn.{alert_urn, begins, no_capital, stored_name, rest_ok, urn_ok}
use Rattle.node_search.specs.Uses.{used_urn}
use Rattle.theory_resolution.specs.Direct.{step}
use Rattle.theory_resolution.specs.Discovery.{discover, expand}
use Rattle.theory_resolution.specs.Nodes.{deepest, leaf, nodes}
use Rattle.machine_image.specs.Image.{image_of, status_bytes}
use Rattle.machine_image.specs.Refusals.{build_length, build_refusal}
use Rattle.machine_image.specs.Refusals as image
use Rattle.table_sections.specs.Stored.{and_then, byte_in, counted, stored, stored_from, text, times}
use Rattle.table_decode.specs.Tables.{category_names, distinct, few_nodes, formed, is_listed, judged, judged_read, listed, names_read, zero_silent, single}
use Rattle.table_decode.specs.Tables.{table_of, table_read, table_refusal, uses, verdict}
use Rattle.machine_library.specs.Built.{built_from, buffer_from}
use Rattle.resolve_library.specs.Resolve.{plain_of}
use Rattle.claims_demands.specs.Examples.{Marked}

pub marked : Marked
unfolding is_blank is_escapable is_text is_token is_uri blank_at ending_at ending_step entry_at following_at param_at quote_at quoted_at quoted_from
    quoted_step setting_at token_at white_at white_step reading_from reading_of refusal_of spans_of uris_of value_step run run_at walk walk_at all
    fields label_byte label_ok name_ok on_first past up_to alert_urn begins rest_ok lowered no_capital stored_name urn_ok used_urn step discover
    expand tabulate deepest leaf nodes image_of each status_bytes image.buffer_of build_length build_refusal and_then byte_in counted stored
    stored_from text times any category_names distinct few_nodes formed is_listed judged judged_read listed names_read no_two zero_silent single
    table_of table_read table_refusal uses verdict built_from buffer_from plain_of
marked = refl
