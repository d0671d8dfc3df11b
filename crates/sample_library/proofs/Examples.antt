-- A sample of the least table: from seed 1 it is one foreign entry, and took two choices.
use mathlib.Core.Path.{◌≡◌, refl}
use Rattle.theory_resolution.specs.Nodes.{nodes}
use Rattle.base_text.specs.Text.{text_of, after_colons}
use Rattle.base_ascii.specs.Ascii.{bytes}
use Rattle.table_sections.specs.Stored.{and_then, byte_in, counted, stored, stored_from, text, times}
use Rattle.table_decode.specs.Tables.{table_of, table_read, category_names, names_read}
use Rattle.table_decode.specs.Examples.{least}
use Rattle.sample_seed.specs.Numbers.{choice_of}
use Rattle.sample_names.specs.FirstFree.{one_more, digits_of, z_name, first_free, name_taken, foreign}
use Rattle.sample_library.specs.Sample.{uri_of, foreign_uri, draw_of, draw_more, draws_of, drawn_of, bare, after_commas, value_of, sample_of}

pub foreign-value : (sample_of least 1).value ≡ bytes "<urn:alert:z0:a>"
unfolding nodes text_of after_colons and_then byte_in counted stored stored_from text times table_of table_read category_names names_read choice_of
    one_more digits_of z_name first_free name_taken foreign uri_of foreign_uri draw_of draw_more draws_of drawn_of bare after_commas value_of
foreign-value = refl

pub foreign-seed : (sample_of least 1).seed ≡ 1586005467
unfolding nodes text_of after_colons and_then byte_in counted stored stored_from text times table_of table_read category_names names_read choice_of
    one_more digits_of z_name first_free name_taken foreign uri_of foreign_uri draw_of draw_more draws_of drawn_of bare after_commas value_of
foreign-seed = refl
