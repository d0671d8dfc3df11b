-- The matches counted by hand are the answers, by computation: first of the table, then of the match over the table that it says.
use Prim.Native.Nat.{ℕ}
use mathlib.Core.Path.{◌≡◌, refl, ap, ap₂, ◌∙◌}
use mathlib.Core.Bool.{cond}
use mathlib.Core.List.{List, [], ◌∷◌, map}
use borrow.Author.Tests.{eq-eqb}
use Rattle.base_lists.specs.Cuts.{past, up_to}
use Rattle.base_lists.specs.Tests.{all, any, no_two}
use Rattle.base_ascii.specs.Ascii.{bytes}
use Rattle.base_text.specs.Text.{fields, on_first, text_of, after_colons, common, compared_bytes, lowered}
use Rattle.urn_names.specs.Names.{label_byte, label_ok, name_ok}
use Rattle.urn_names.specs.Urn.{alert_urn, begins, no_capital, stored_name, rest_ok, urn_ok}
use Rattle.node_search.specs.Uses.{used_urn, use_of, compared_over}
use Rattle.theory_resolution.specs.Names.{Name}
use Rattle.theory_resolution.specs.Table.{urn, Table}
use Rattle.theory_resolution.specs.Nodes.{deepest, leaf, nodes}
use Rattle.table_sections.specs.Stored.{and_then, byte_in, counted, stored, stored_from, text, times}
use Rattle.table_decode.specs.Tables.{category_names, distinct, few_nodes, formed, is_listed, judged, judged_read, listed, names_read, zero_silent, single}
use Rattle.table_decode.specs.Tables.{table_of, table_read, table_refusal, uses, verdict}
use Rattle.machine_library.specs.declared.matching.Match.{Match}
use Rattle.machine_library.specs.Matching.{refused_match, match_use, match_of}
use Rattle.machine_library.specs.MatchExamples.{four_nodes, Case, matches, MatchExamples}

-- what the bytes say
abbrev names : List Name
names = bytes "source" ∷ bytes "priority" ∷ []

abbrev table : Table
table =
    record {
      cats = 2;
      signals =
          []
          ∷ (urn 0 (bytes "internal" ∷ []) ∷ [])
          ∷ (urn 1 (bytes "high" ∷ []) ∷ [])
          ∷ (urn 0 (bytes "internal" ∷ bytes "vip@example" ∷ []) ∷ [])
          ∷ (urn 0 (bytes "external" ∷ []) ∷ [])
          ∷ [];
    }

well : table_refusal four_nodes ≡ 0
unfolding all fields label_byte label_ok name_ok on_first past up_to no_capital stored_name urn_ok and_then byte_in counted stored stored_from text
    times any distinct few_nodes formed is_listed judged judged_read listed no_two zero_silent single table_refusal uses verdict nodes
well = refl

says : (table_of four_nodes ≡ table) × (category_names four_nodes ≡ names)
unfolding fields on_first past up_to and_then byte_in counted stored stored_from text times table_of table_read category_names names_read
says = (refl, refl)

-- the match over what the bytes say
match-of : (t uri : List ℕ) (T : Table) (ns : List Name) → table_refusal t ≡ 0 → table_of t ≡ T → category_names t ≡ ns
    → match_of t uri ≡ match_use (use_of T (used_urn ns uri))
unfolding match_of
match-of t uri T ns z e f =
    ap (λ b. cond b (match_use (use_of (table_of t) (used_urn (category_names t) uri))) (refused_match (table_refusal t))) (eq-eqb (table_refusal t) 0 z)
    ∙ ap₂ (λ (A : Table) (l : List Name). match_use (use_of A (used_urn l uri))) e f

map_same : {A B : Type 0} (f g : A → B) → ((x : A) → f x ≡ g x) → (l : List A) → map f l ≡ map g l
map_same f g e [] = refl
map_same f g e (x ∷ l) = ap₂ ◌∷◌ (e x) (map_same f g e l)

abbrev answered : Case → Match
answered x = match_use (use_of table (used_urn names (bytes x.uri)))

by_hand : map answered matches ≡ map (λ (x : Case). x.right) matches
unfolding all fields on_first past up_to text_of after_colons common compared_bytes lowered label_byte label_ok name_ok alert_urn begins rest_ok
    used_urn compared_over deepest leaf nodes
by_hand = refl

none : match_of [] (bytes "urn:alert:source:internal") ≡ refused_match 5
unfolding and_then byte_in counted stored stored_from text times judged_read table_refusal match_of
none = refl

pub match-examples : MatchExamples
match-examples =
    record {
      answers =
          map_same (λ (x : Case). match_of four_nodes (bytes x.uri)) answered
          (λ x. match-of four_nodes (bytes x.uri) table names well says.0 says.1) matches
          ∙ by_hand;
      refused = none;
    }
