-- The examples for the numbers of demand 1, by computation.
use Prim.Native.Nat.{◌+◌}
use mathlib.Core.Path.{◌≡◌, refl}
use mathlib.Core.Bool.{true, false}
use mathlib.Core.List.{[], map}
use lib.ListN.{length}
use native.Mathlib.Omega.{arith}
use Rattle.base_lists.specs.Tests.{all, any, no_two}
use Rattle.base_lists.specs.Lists.{tabulate, member_by, each, all_below}
use Rattle.base_lists.specs.Cuts.{run, past, up_to}
use Rattle.value_cursor.specs.Bytes.{is_blank, is_escapable, is_text, is_token, is_uri}
use Rattle.value_cursor.specs.Parts.{blank_at, ending_at, ending_step, entry_at, following_at, param_at, quote_at, quoted_at, quoted_from, quoted_step}
use Rattle.value_cursor.specs.Parts.{setting_at, token_at, white_at, white_step}
use Rattle.value_cursor.specs.Walk.{run_at, walk, walk_at}
use Rattle.value_cursor.specs.Reading.{reading_from, reading_of, value_step}
use Rattle.value_reader.specs.Value.{refusal_of, spans_of, uris_of}
use Rattle.value_reader.specs.Examples.{entries_more}
use Rattle.theory_resolution.specs.Build.{discovered, ReachableOver}
use Rattle.theory_resolution.specs.Direct.{start, same_state, step}
use Rattle.theory_resolution.specs.Discovery.{discover, expand}
use Rattle.theory_resolution.specs.Names.{same_name}
use Rattle.theory_resolution.specs.Nodes.{deepest, leaf, nodes}
use Rattle.theory_resolution.specs.Symbols.{symbols, step_at}
use Rattle.theory_resolution.proofs.Direct.{state-exact}
use Rattle.theory_resolution.proofs.Discovery.{discover-distinct, discover-reached}
use Rattle.base_text.specs.Text.{fields, on_first, lowered}
use Rattle.urn_names.specs.Names.{label_byte, label_ok, name_ok}
use Rattle.base_ascii.specs.Ascii.{bytes}
use Rattle.urn_names.specs.Urn.{alert_urn, begins, no_capital, stored_name, rest_ok, urn_ok}
use Rattle.node_search.specs.Uses.{used_urn}
use Rattle.machine_image.specs.Image.{status_bytes, machine_in, image_of}
use Rattle.machine_image.specs.Refusals.{build_refusal, form_of, state_formed, check_of, form_over}
use Rattle.table_sections.specs.Stored.{and_then, byte_in, counted, stored, stored_from, text, times}
use Rattle.table_decode.specs.Tables.{category_names, distinct, few_nodes, formed, is_listed, judged, judged_read, listed, names_read, zero_silent, single}
use Rattle.table_decode.specs.Tables.{table_of, table_read, table_refusal, uses, verdict}
use Rattle.table_decode.specs.Examples.{least}
use Rattle.resolve_record.specs.Record.{carried_fits}
use Rattle.resolve_early.specs.FirstEntries.{front_from, front_step}
use Rattle.resolve_early.specs.Early.{early_of}
use Rattle.machine_library.specs.Built.{built_from, check_from}
use Rattle.resolve_pair.specs.Pair.{apart}
use Rattle.small_image.specs.Small.{small_form}
use Rattle.claims_numbers.specs.Numbers.{image, smaller, wrong_images, many_states, other, after_values}

pub many-formed : table_refusal many_states ≡ 0
unfolding all fields label_byte label_ok name_ok on_first past up_to no_capital stored_name urn_ok and_then byte_in counted stored stored_from text
    times any distinct few_nodes formed is_listed judged judged_read listed no_two zero_silent single table_refusal uses verdict nodes
many-formed = refl

-- after 13 turns over 256 states are found
found-many : length (discovered (table_of many_states) 13) ≡ 259
unfolding fields on_first past up_to and_then byte_in counted stored stored_from text times table_of table_read step discover expand tabulate leaf nodes
found-many = refl

pub over-many : ReachableOver (table_of many_states) 256
over-many =
    let T = table_of many_states in
    record {
      states = discovered T 13;
      distinct = discover-distinct same_state state-exact (step_at T) (length (symbols T)) (start T.cats) 13;
      reached = discover-reached same_state state-exact (step_at T) (length (symbols T)) (start T.cats) 13;
      over = omega (arith, found-many);
    }

-- the early question about no entry, and about 65 that are all skipped
pub none-early : (early_of least []).refusal ≡ 2
unfolding is_blank is_escapable is_text is_token is_uri blank_at ending_at ending_step entry_at following_at param_at quote_at quoted_at quoted_from
    quoted_step setting_at token_at white_at white_step reading_from reading_of refusal_of spans_of uris_of value_step run run_at walk walk_at all
    fields label_byte label_ok name_ok on_first past up_to alert_urn begins rest_ok lowered no_capital stored_name urn_ok used_urn step nodes and_then
    byte_in counted stored stored_from text times any category_names distinct few_nodes formed is_listed judged judged_read listed names_read
    no_two zero_silent single table_of table_read table_refusal uses verdict tabulate all_below leaf front_from front_step early_of
none-early = refl

pub many-early : (early_of least (entries_more 64)).refusal ≡ 3
unfolding is_blank is_escapable is_text is_token is_uri blank_at ending_at ending_step entry_at following_at param_at quote_at quoted_at quoted_from
    quoted_step setting_at token_at white_at white_step reading_from reading_of refusal_of spans_of uris_of value_step run run_at walk walk_at all
    fields label_byte label_ok name_ok on_first past up_to alert_urn begins rest_ok lowered no_capital stored_name urn_ok used_urn step nodes and_then
    byte_in counted stored stored_from text times any category_names distinct few_nodes formed is_listed judged judged_read listed names_read
    no_two zero_silent single table_of table_read table_refusal uses verdict tabulate all_below leaf front_from front_step early_of
many-early = refl

-- the least table's machine fits 21 bytes
pub fits-room : (built_from least 21).refusal ≡ 0
unfolding built_from build_refusal image_of each status_bytes discover expand tabulate nodes leaf step fields on_first past up_to and_then byte_in
    counted stored stored_from text times table_of table_read table_refusal judged judged_read formed listed is_listed uses any no_two single
    zero_silent distinct few_nodes verdict all label_byte label_ok name_ok no_capital stored_name urn_ok
fits-room = refl

pub no_room : (built_from least 20).refusal ≡ 14
unfolding built_from build_refusal image_of each status_bytes discover expand tabulate nodes leaf step fields on_first past up_to and_then byte_in
    counted stored stored_from text times table_of table_read table_refusal judged judged_read formed listed is_listed uses any no_two single
    zero_silent distinct few_nodes verdict all label_byte label_ok name_ok no_capital stored_name urn_ok
no_room = refl

pub right-image : check_from least (image 0 1) ≡ 0
unfolding check_from check_of form_over state_formed machine_in all_below tabulate each nodes leaf deepest step fields on_first past up_to and_then
    byte_in counted stored stored_from text times table_of table_read table_refusal judged judged_read formed listed is_listed uses any no_two
    single zero_silent distinct few_nodes verdict all label_byte label_ok name_ok no_capital stored_name urn_ok
right-image = refl

pub wrong-images : map (check_from least) wrong_images ≡ tabulate (λ i. 15 + i) 3
unfolding check_from check_of form_over state_formed machine_in all_below tabulate each nodes leaf deepest step fields on_first past up_to and_then
    byte_in counted stored stored_from text times table_of table_read table_refusal judged judged_read formed listed is_listed uses any no_two
    single zero_silent distinct few_nodes verdict all label_byte label_ok name_ok no_capital stored_name urn_ok
wrong-images = refl

pub right-form : form_of (table_of least) (image 0 1) ≡ true
unfolding form_over state_formed all_below each nodes leaf fields on_first past up_to and_then byte_in counted stored stored_from text times table_of table_read
right-form = refl

pub no-form : form_of (table_of least) [] ≡ false
unfolding form_over state_formed all_below each nodes leaf fields on_first past up_to and_then byte_in counted stored stored_from text times table_of table_read
no-form = refl

-- the same of small images
pub right-small : small_form (table_of least) smaller ≡ true
unfolding form_over state_formed all_below each nodes leaf fields on_first past up_to and_then byte_in counted stored stored_from text times table_of table_read
right-small = refl

pub no-small : small_form (table_of least) [] ≡ false
unfolding form_over state_formed all_below each nodes leaf fields on_first past up_to and_then byte_in counted stored stored_from text times table_of table_read
no-small = refl

-- the least table has two signals
pub two-signals : length (table_of least).signals ≡ 2
unfolding fields on_first past up_to and_then byte_in counted stored stored_from text times table_of table_read
two-signals = refl

-- a record of 16 values is taken, one of 17 is not
pub sixteen-fit : carried_fits (table_of least) (after_values 16) ≡ true
unfolding carried_fits all_below fields on_first past up_to and_then byte_in counted stored stored_from text times table_of table_read
sixteen-fit = refl

pub seventeen-unfit : carried_fits (table_of least) (after_values 17) ≡ false
unfolding carried_fits all_below fields on_first past up_to and_then byte_in counted stored stored_from text times table_of table_read
seventeen-unfit = refl

-- two tables with no category in common, and a table beside itself
pub other-formed : table_refusal other ≡ 0
unfolding all fields label_byte label_ok name_ok on_first past up_to no_capital stored_name urn_ok and_then byte_in counted stored stored_from text
    times any distinct few_nodes formed is_listed judged judged_read listed no_two zero_silent single table_refusal uses verdict nodes
other-formed = refl

pub other-apart : apart (category_names other) (category_names least) ≡ true
unfolding all_below and_then byte_in counted stored stored_from text times category_names names_read
other-apart = refl

pub least-shared : member_by same_name (bytes "c") (category_names least) ≡ true
unfolding and_then byte_in counted stored stored_from text times category_names names_read
least-shared = refl
