-- The value that a table and a seed give, and what the maker answers.
use Rattle.std.specs.Prelude.{ℕ, zero, suc, cond, List, [], ◌∷◌, ◌++◌, length, get_or, eqb, ltb, Result, Ok, Err}
use Rattle.base_numbers.specs.Refusals.{refusal_number}
use Rattle.base_numbers.specs.declared.refusal.Refusal.{Refusal}
use Rattle.base_numbers.specs.Numbers.{sample_no_room, sample_room}
use Rattle.base_lists.specs.Lists.{over}
use Rattle.theory_resolution.specs.Names.{Name, Parts}
use Rattle.theory_resolution.specs.Table.{Urn}
use Rattle.theory_resolution.specs.Nodes.{nodes, node_at}
use Rattle.base_text.specs.Text.{text_of}
use Rattle.base_ascii.specs.Ascii.{bytes}
use Rattle.table_decode.specs.Tables.{table_refusal, table_of, category_names}
use Rattle.sample_seed.specs.Numbers.{next_of, choice_of}
use Rattle.sample_names.specs.FirstFree.{foreign, strange}
use Rattle.sample_library.specs.declared.Answer.{Answer}

-- the URI of a category's name and a path
unfoldable pub uri_of : Name → Parts → List ℕ
uri_of name path = bytes "urn:alert:" ++ text_of (name ∷ path)

-- the name of a URN's category
abbrev pub name_of : List Name → Urn → Name
name_of names u = get_or names u.cat []

-- kind 1 is the node with one strange part after it, any other the node itself
unfoldable pub node_uri : List Name → List Urn → ℕ → Urn → List ℕ
node_uri names ns kind u = cond (eqb kind 1) (uri_of (name_of names u) (u.path ++ strange ns u ∷ [])) (uri_of (name_of names u) u.path)

-- the foreign category, with part a
unfoldable pub foreign_uri : List Name → List ℕ
foreign_uri names = uri_of (foreign names) (bytes "a" ∷ [])

-- a URI, with the seed after its choices
pub record Draw : Type 0 where
  pub uri : List ℕ
  pub seed : ℕ

-- an entry's kind is chosen among 3, and then, unless it is 2, which is foreign, its node among the nodes
unfoldable pub draw_of : List Name → List Urn → ℕ → Draw
draw_of names ns x =
    cond (eqb (choice_of (next_of x) 3) 2)
    (record { uri = foreign_uri names; seed = next_of x })
    (record { uri = node_uri names ns (choice_of (next_of x) 3) (node_at ns (choice_of (next_of (next_of x)) (length ns))); seed = next_of (next_of x) })

-- the URIs of some entries, with the seed after them
pub record Drawn : Type 0 where
  pub uris : List (List ℕ)
  pub seed : ℕ

-- one entry more
unfoldable pub draw_more : List Name → List Urn → Drawn → Drawn
draw_more names ns d = record { uris = d.uris ++ (draw_of names ns d.seed).uri ∷ []; seed = (draw_of names ns d.seed).seed }

-- n entries, one after the other
unfoldable pub draws_of : List Name → List Urn → ℕ → ℕ → Drawn
draws_of names ns x zero = record { uris = []; seed = x }
draws_of names ns x (suc n) = draw_more names ns (draws_of names ns x n)

-- the number of entries less 1 is chosen among 8, then come the entries
unfoldable pub drawn_of : List ℕ → ℕ → Drawn
drawn_of t x = draws_of (category_names t) (nodes (table_of t)) (next_of x) (suc (choice_of (next_of x) 8))

-- a bare entry: the URI between < (60) and > (62)
unfoldable pub bare : List ℕ → List ℕ
bare uri = 60 ∷ uri ++ 62 ∷ []

-- bare entries, each after a comma (44)
unfoldable pub after_commas : List (List ℕ) → List ℕ
after_commas [] = []
after_commas (u ∷ us) = 44 ∷ (bare u ++ after_commas us)

-- bare entries with commas between
unfoldable pub value_of : List (List ℕ) → List ℕ
value_of [] = []
value_of (u ∷ us) = bare u ++ after_commas us

-- the value that a table and a seed give, with the seed after it
pub record Sample : Type 0 where
  pub value : List ℕ
  pub seed : ℕ

abbrev pub sample_of : List ℕ → ℕ → Sample
sample_of t x = record { value = value_of (drawn_of t x).uris; seed = (drawn_of t x).seed }

-- what the maker comes to: a refusal number, the length of the value, and the seed after its last choice
pub record Made : Type 0 where
  pub refusal : ℕ
  pub len : ℕ
  pub seed : ℕ

-- refused with k: nothing is written, and the seed stays
abbrev pub refused_with : ℕ → ℕ → Made
refused_with k x = record { refusal = k; len = 0; seed = x }

-- what the maker comes to for a buffer of n bytes: 4 to 12 by the table, then 26 for a buffer under 4,096 bytes
unfoldable pub made_of : List ℕ → ℕ → ℕ → Made
made_of t x n =
    cond (eqb (table_refusal t) 0)
    (cond (ltb n sample_room) (refused_with sample_no_room x) (record { refusal = 0; len = length (sample_of t x).value; seed = (sample_of t x).seed }))
    (refused_with (table_refusal t) x)

-- the buffer b after it: the value, and the bytes past it as they were; unchanged if refused
unfoldable pub buffer_of : List ℕ → ℕ → List ℕ → List ℕ
buffer_of t x b = cond (eqb (table_refusal t) 0) (cond (ltb (length b) sample_room) b (over (sample_of t x).value b)) b

-- what the caller is told of it
abbrev pub answer_of : Made → Answer
answer_of m = record { refusal = m.refusal; len = m.len }

-- a length or a refusal, as the caller is told of it
abbrev pub told : Result ℕ Refusal → Answer
told (Ok n) = record { refusal = 0; len = n }
told (Err k) = record { refusal = refusal_number k; len = 0 }
