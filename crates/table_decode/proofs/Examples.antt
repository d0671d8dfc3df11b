-- The example tables, by computation: each refusal number is given, and the limits are reached.
use Prim.Native.Nat.{ℕ, ◌+◌, ◌-◌, ◌≤◌, ◌<◌}
use mathlib.Core.Path.{◌≡◌, refl, sym, ap, ◌∙◌}
use mathlib.Core.Logic.{inl, inr}
use mathlib.Core.List.{List, [], ◌∷◌, map}
use native.Mathlib.Omega.{arith}
use lib.ListN.{get_or, get_or-map}
use Rattle.base_lists.specs.Cuts.{past, up_to}
use Rattle.base_lists.specs.Tests.{all, any, no_two}
use Rattle.base_lists.proofs.Tabulated.{tabulate-at}
use Rattle.base_lists.specs.Lists.{tabulate}
use Rattle.theory_resolution.specs.Nodes.{nodes}
use Rattle.base_text.specs.Text.{fields, on_first, after_colons, text_of}
use Rattle.urn_names.specs.Names.{label_byte, label_ok, name_ok}
use Rattle.urn_names.specs.Urn.{no_capital, stored_name, urn_ok}
use Rattle.table_sections.specs.Stored.{and_then, byte_in, counted, stored, stored_from, text, times}
use Rattle.table_decode.specs.Tables.{distinct, few_nodes, formed, is_listed, judged, judged_read, listed, zero_silent, single, table_refusal, uses}
use Rattle.table_decode.specs.Tables.{verdict, EachNumber}
use Rattle.table_decode.specs.Examples.{least, fullest, longest, over_tables, refused_tables}

-- some element has the number n, if the elements' numbers are those from lo on
pub from_list : {A : Type 0} (f : A → ℕ) (lo k : ℕ) (l : List A) (d : A) → map f l ≡ tabulate (λ i. lo + i) k → (n : ℕ) → lo ≤ n → n < lo + k
    → (x : A) × (f x ≡ n)
from_list f lo k l d e n h h2 =
    let back : lo + (n - lo) ≡ n = omega arith in (
      get_or l (n - lo) d,
      sym (get_or-map f l (n - lo) d) ∙ ap (λ (x : List ℕ). get_or x (n - lo) (f d)) e
          ∙ tabulate-at (λ i. lo + i) k (n - lo) (f d) (omega arith) ∙ back,
    )

numbers : map table_refusal refused_tables ≡ tabulate (λ i. 4 + i) 9
unfolding all fields label_byte label_ok name_ok on_first past up_to no_capital stored_name urn_ok and_then byte_in counted stored stored_from text
    times any distinct few_nodes formed is_listed judged judged_read listed no_two zero_silent single table_refusal uses verdict nodes tabulate
numbers = refl

pub least-formed : table_refusal least ≡ 0
unfolding all fields label_byte label_ok name_ok on_first past up_to no_capital stored_name urn_ok and_then byte_in counted stored stored_from text
    times any distinct few_nodes formed is_listed judged judged_read listed no_two zero_silent single table_refusal uses verdict nodes
least-formed = refl

pub fullest-formed : table_refusal fullest ≡ 0
unfolding all fields label_byte label_ok name_ok on_first past up_to no_capital stored_name urn_ok and_then byte_in counted stored stored_from text
    times any distinct few_nodes formed is_listed judged judged_read listed no_two zero_silent single table_refusal uses verdict nodes
fullest-formed = refl

pub longest-formed : table_refusal longest ≡ 0
unfolding all fields label_byte label_ok name_ok on_first past up_to no_capital stored_name urn_ok and_then byte_in counted stored stored_from text
    times any distinct few_nodes formed is_listed judged judged_read listed no_two zero_silent single table_refusal uses verdict nodes after_colons text_of
longest-formed = refl

pub over-refused : map table_refusal over_tables ≡ 4 ∷ 6 ∷ 6 ∷ 7 ∷ 7 ∷ 6 ∷ 6 ∷ 7 ∷ []
unfolding all fields label_byte label_ok name_ok on_first past up_to no_capital stored_name urn_ok and_then byte_in counted stored stored_from text
    times any distinct few_nodes formed is_listed judged judged_read listed no_two zero_silent single table_refusal uses verdict nodes after_colons text_of
over-refused = refl

pub each_number : EachNumber
each_number n (inl e) = (least, least-formed ∙ sym e)
each_number n (inr h) = from_list table_refusal 4 9 refused_tables [] numbers n h.0 (omega (arith, h.1))
