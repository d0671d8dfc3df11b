-- Laws of the tests within the arrays' room, where they speak of what the arrays hold, and past it.
use Prim.Native.Nat.{ℕ, ◌≤◌, ◌<◌}
use mathlib.Core.Path.{◌≡◌, ap, sym, ◌∙◌, subst}
use mathlib.Core.Bool.{Bool, false, ◌&&◌}
use mathlib.Core.List.{List}
use lib.ListN.{get_or}
use lib.Dec.{eqb}
use borrow.Author.Tests.{le-leb, lt-leb}
use Rattle.base_numbers.specs.Numbers.{most_table_urns}
use Rattle.base_lists.specs.Cuts.{stretch}
use Rattle.base_lists.specs.Tests.{all, any, no_two}
use Rattle.base_lists.specs.Lists.{tabulate}
use Rattle.theory_resolution.specs.Names.{Name, same_name}
use Rattle.urn_names.specs.Urn.{stored_name}
use Rattle.node_search.proofs.TextLaws.{texts-in}
use Rattle.table_names.specs.Categories.{is_listed, names_in, all_listed, all_used, Indexed}

-- at most 8 names
module _ (t at len : List ℕ) (n : ℕ) where
  pub formed-in : {b : Bool} → b ≡ all stored_name (names_in t at len n) → n ≤ 8 → b ≡ all stored_name (tabulate (stretch t at len) n)
  formed-in e h = e ∙ ap (all stored_name) (texts-in 8 t at len n h)

  pub distinct-in : {b : Bool} → b ≡ no_two same_name (names_in t at len n) → n ≤ 8 → b ≡ no_two same_name (tabulate (stretch t at len) n)
  distinct-in e h = e ∙ ap (no_two same_name) (texts-in 8 t at len n h)

-- the categories' uses
module _ (category : List ℕ) (m n : ℕ) where
  abbrev used : Bool
  used = all (λ c. any (λ x. eqb x c) (tabulate (λ j. get_or category j 0) m)) (tabulate (λ c. c) n)

  pub no_room : most_table_urns < m → false ≡ all_used category m n
  unfolding all_used
  no_room h = sym (ap (λ b. b && used) (lt-leb m most_table_urns h))

  pub used-as : {b : Bool} → m ≤ most_table_urns → b ≡ used → b ≡ all_used category m n
  unfolding all_used
  used-as h e = e ∙ sym (ap (λ b. b && used) (le-leb m most_table_urns h))

  pub used-in : {b : Bool} → b ≡ all_used category m n → m ≤ most_table_urns → b ≡ used
  unfolding all_used
  used-in e h = e ∙ ap (λ b. b && used) (le-leb m most_table_urns h)

-- the URNs' categories
module _ (names : List Name) (t at len : List ℕ) (m : ℕ) where
  abbrev listed : Bool
  listed = all (is_listed names) (tabulate (stretch t at len) m)

  pub no-list : most_table_urns < m → false ≡ all_listed names t at len m
  unfolding all_listed
  no-list h = sym (ap (λ b. b && listed) (lt-leb m most_table_urns h))

  pub listed-as : {b : Bool} → m ≤ most_table_urns → b ≡ listed → b ≡ all_listed names t at len m
  unfolding all_listed
  listed-as h e = e ∙ sym (ap (λ b. b && listed) (le-leb m most_table_urns h))

-- by the names that the arrays hold, where there are at most 8
module _ (t name_at name_len at len : List ℕ) (n m : ℕ) (h : n ≤ 8) where
  pub listed_in : {b : Bool} → b ≡ all_listed (names_in t name_at name_len n) t at len m → m ≤ most_table_urns
      → b ≡ all (is_listed (tabulate (stretch t name_at name_len) n)) (tabulate (stretch t at len) m)
  unfolding all_listed
  listed_in e k =
      e ∙ ap (λ b. b && all (is_listed (names_in t name_at name_len n)) (tabulate (stretch t at len) m)) (le-leb m most_table_urns k)
      ∙ ap (λ (names : List Name). all (is_listed names) (tabulate (stretch t at len) m)) (texts-in 8 t name_at name_len n h)

  pub indexed-in : {category path_at path_len : List ℕ} → Indexed t (names_in t name_at name_len n) at len m category path_at path_len
      → Indexed t (tabulate (stretch t name_at name_len) n) at len m category path_at path_len
  indexed-in {category} {path_at} {path_len} x = subst (λ (names : List Name). Indexed t names at len m category path_at path_len)
      (texts-in 8 t name_at name_len n h) x
