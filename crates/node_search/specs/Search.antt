-- What a URI is to the table that the arrays hold, by a search over its nodes in their order.
use Rattle.std.specs.Prelude.{ℕ, zero, suc, ◌+◌, min, Bool, false, cond, not, ◌&&◌, List, length, get_or, drop, eqb, ltb, leb, Option, Some, None}
use Rattle.base_numbers.specs.Numbers.{most_categories, most_nodes}
use Rattle.base_lists.specs.Cuts.{stretch}
use Rattle.theory_resolution.specs.Names.{same_name}
use Rattle.base_text.specs.Text.{lowered}
use Rattle.base_text.specs.Words.{common_next, ends_at}
use Rattle.urn_names.specs.Urn.{alert_urn, category_of, path_of}
use Rattle.node_search.specs.declared.uses.Search.{Search}
use Rattle.node_search.specs.declared.uses.Used.{Used}

-- the first of the n names from i on that is s
unfoldable pub find_name : List ℕ → List ℕ → List ℕ → List ℕ → ℕ → ℕ → Option ℕ
find_name t name_at name_len s i zero = None
find_name t name_at name_len s i (suc n) =
    cond (same_name s (stretch t name_at name_len i)) (Some i) (find_name t name_at name_len s (i + 1) n)

-- a search that has found nothing yet
abbrev pub nothing : Search
nothing = record { ends = false; node = 0; whole = false; same = 0; compared = 0 }

-- p is w or above it, where they have n bytes in common
unfoldable pub covers_by : List ℕ → List ℕ → ℕ → Bool
covers_by p w n = leb (length p) n && ends_at w (length p)

-- the search at node k with the path p, which has n bytes in common with w, and has nodes under it or none: it ends at a leaf that is w
-- or above it
unfoldable pub met_with : List ℕ → List ℕ → Bool → ℕ → ℕ → Search → Search
met_with p w inner k n s =
    record {
      ends = covers_by p w n && not inner;
      node = cond (covers_by p w n) k s.node;
      whole = cond (covers_by p w n) (eqb (length p) (length w)) s.whole;
      same = n;
      compared = s.compared + min (length p) (n + 1);
    }

-- the search at a path that shares more bytes with the one before than that has in common with w: they differ where that differed
abbrev pub counted_in : Search → Search
counted_in s = record { ends = false; node = s.node; whole = s.whole; same = s.same; compared = s.compared + (s.same + 1) }

-- the search at node i + 1, whose path shares l bytes with the one before it
unfoldable pub look_by : List ℕ → List ℕ → List ℕ → List Bool → List ℕ → ℕ → ℕ → Search → Search
look_by t at len inner w i l s =
    cond (ltb s.same l) (counted_in s)
    (met_with (stretch t at len i) w (get_or inner i false) (i + 1) (common_next (stretch t at len i) w s.same l) s)

-- the search at node i + 1, which it passes over unless it is of category c
unfoldable pub look_at : List ℕ → List ℕ → List ℕ → List ℕ → List ℕ → List Bool → ℕ → List ℕ → ℕ → Search → Search
look_at t category at len shared inner c w i s = cond (eqb (get_or category i 0) c) (look_by t at len inner w i (get_or shared i 0) s) s

-- the search over n nodes from node i + 1 on
unfoldable pub search_from : List ℕ → List ℕ → List ℕ → List ℕ → List ℕ → List Bool → ℕ → List ℕ → ℕ → ℕ → Search → Search
search_from t category at len shared inner c w i zero s = s
search_from t category at len shared inner c w i (suc n) s =
    cond (look_at t category at len shared inner c w i s).ends
    (look_at t category at len shared inner c w i s)
    (search_from t category at len shared inner c w (i + 1) n (look_at t category at len shared inner c w i s))

-- what is found in category c
abbrev pub found_in : ℕ → Search → Option Used
found_in c s = Some (record { category = c; node = s.node; whole = s.whole; compared = s.compared })

-- the path w in category c, if there is one
unfoldable pub used_by : List ℕ → List ℕ → List ℕ → List ℕ → List ℕ → List Bool → ℕ → List ℕ → Option ℕ → Option Used
used_by t category at len shared inner n w None = None
used_by t category at len shared inner n w (Some c) = found_in c (search_from t category at len shared inner c w 0 (min n most_nodes) nothing)

-- what a URI is to the table in the arrays
unfoldable pub uses_of : List ℕ → List ℕ → List ℕ → ℕ → List ℕ → List ℕ → List ℕ → List ℕ → List Bool → ℕ → List ℕ → Option Used
uses_of t name_at name_len k category at len shared inner n uri =
    cond (alert_urn uri)
    (used_by t category at len shared inner n (path_of (lowered (drop 10 uri))) (find_name t name_at name_len (category_of (lowered (drop 10 uri))) 0 (min k most_categories)))
    None
