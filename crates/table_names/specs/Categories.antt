-- Which category a URN has, and how the arrays hold the categories and the paths of the URNs.
use Rattle.std.specs.Prelude.{ℕ, ◌≤◌, ◌<◌, ◌≡◌, Bool, ◌&&◌, Option, None, Some, List, length, get_or, eqb, leb}
use Rattle.base_numbers.specs.Numbers.{most_categories, most_table_bytes, most_table_urns}
use Rattle.base_lists.specs.Cuts.{stretch}
use Rattle.base_lists.specs.Tests.{all, any}
use Rattle.base_lists.specs.Lists.{tabulate, member_by, index_by}
use Rattle.theory_resolution.specs.Names.{Name, same_name}
use Rattle.urn_names.specs.Urn.{category_of, path_of}
use Rattle.node_search.specs.Arrays.{text_in}

-- the category of a URN is listed
unfoldable pub is_listed : List Name → List ℕ → Bool
is_listed names u = member_by same_name (category_of u) names

-- the names of n categories; arrays have room for 8, past which they are empty
abbrev pub names_in : (t at len : List ℕ) → ℕ → List Name
names_in t at len n = tabulate (text_in most_categories t at len) n

-- the category of each of m URNs is listed, and arrays have room for so many
unfoldable pub all_listed : List Name → (t at len : List ℕ) → ℕ → Bool
all_listed names t at len m = leb m most_table_urns && all (is_listed names) (tabulate (stretch t at len) m)

-- each of n categories is that of one of m URNs, and an array has room for so many
unfoldable pub all_used : List ℕ → ℕ → ℕ → Bool
all_used category m n = leb m most_table_urns && all (λ c. any (λ x. eqb x c) (tabulate (λ j. get_or category j 0) m)) (tabulate (λ c. c) n)

-- the number k of the first of n that is so, which is none where k is not below n
abbrev pub IndexIn : ℕ → ℕ → Option ℕ → Type 0
IndexIn n k None = n ≤ k
IndexIn n k (Some i) = (i ≡ k) × (i < n)

-- n categories and m URNs such as a table can have, with an array for their categories
abbrev pub Fits : (t : List ℕ) (n m : ℕ) (category : List ℕ) → Type 0
Fits t n m category = (length t ≤ most_table_bytes) × (n ≤ most_categories) × (m ≤ most_table_urns) × (length category ≡ most_table_urns)

-- the arrays have the category's number and the path of every URN
pub record Indexed (t : List ℕ) (names : List (List ℕ)) (at len : List ℕ) (m : ℕ) (category path_at path_len : List ℕ) : Type 0 where
  pub cat-at : (j : ℕ) → j < m → get_or category j 0 ≡ index_by same_name (category_of (stretch t at len j)) names
  pub cat-below : (j : ℕ) → j < m → get_or category j 0 < length names
  pub path-at : (j : ℕ) → j < m → stretch t path_at path_len j ≡ path_of (stretch t at len j)
