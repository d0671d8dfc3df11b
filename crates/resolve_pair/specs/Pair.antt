-- Ring and lamp chosen apart: the signal of one value in each of two tables.
use Rattle.std.specs.Prelude.{ℕ, Bool, cond, not, List, [], eqb, length, get_or}
use Rattle.base_numbers.specs.Numbers.{shared_category}
use Rattle.base_lists.specs.Lists.{all_below}
use Rattle.value_reader.specs.Value.{refusal_of, uris_of}
use Rattle.theory_resolution.specs.Names.{Name, same_name}
use Rattle.theory_resolution.specs.Direct.{direct, used_of}
use Rattle.table_decode.specs.Tables.{table_refusal, table_of, category_names}
use Rattle.resolve_run.specs.Answers.{taken_as}
use Rattle.resolve_pair.specs.declared.Pair.{Pair}

-- the name x is not the j-th of the list b; it is none of b, if it is the i-th of the list a; and no name of a is one of b
abbrev pub other_name : Name → List Name → ℕ → Bool
other_name x b j = not (same_name x (get_or b j []))

abbrev pub none_of : List Name → List Name → ℕ → Bool
none_of a b i = all_below (length b) (other_name (get_or a i []) b)

abbrev pub apart : List Name → List Name → Bool
apart a b = all_below (length a) (none_of a b)

-- refused with the value's number (1 to 3), then the ring table's, then the lamp table's (4 to 12), then with 24 if they have a category
-- in common; or 0
abbrev pub pair_refusal : List ℕ → List ℕ → List ℕ → ℕ
pair_refusal ring lamp v =
    cond (eqb (refusal_of v) 0)
    (cond (eqb (table_refusal ring) 0)
    (cond (eqb (table_refusal lamp) 0) (cond (apart (category_names ring) (category_names lamp)) 0 shared_category) (table_refusal lamp))
    (table_refusal ring))
    (refusal_of v)

-- direct resolution's signal over the value's list, with one table alone
abbrev pub signal_in : List ℕ → List ℕ → ℕ
signal_in t v = (direct (table_of t) (used_of (taken_as t (uris_of v)))).signal

-- refused: both signals are 0
abbrev pub refused : ℕ → Pair
refused k = record { refusal = k; ring = 0; lamp = 0 }

-- each table's signal, where nothing is refused
unfoldable pub pair_of : List ℕ → List ℕ → List ℕ → Pair
pair_of ring lamp v =
    cond (eqb (pair_refusal ring lamp v) 0)
    (record { refusal = 0; ring = signal_in ring v; lamp = signal_in lamp v })
    (refused (pair_refusal ring lamp v))
