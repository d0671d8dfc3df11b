-- Laws of the categories' names, one further.
use Prim.Native.Nat.{ℕ, ◌≤◌, ◌<◌}
use mathlib.Core.Path.{◌≡◌, refl, sym, ◌∙◌, subst}
use mathlib.Core.Bool.{true, false}
use mathlib.Core.List.{List, [], ◌∷◌}
use native.Mathlib.Omega.{arith}
use lib.ListN.{length}
use Rattle.std.specs.Prelude.{Option, None, Some}
use Rattle.std.specs.Option.{is_some}
use Rattle.table_names.specs.Categories.{IndexIn}
use Rattle.base_lists.specs.Tests.{any}
use Rattle.base_lists.specs.Lists.{index_by}
use Rattle.base_lists.proofs.Bools.{by_test, same_test}
use Rattle.theory_resolution.specs.Names.{same_name}
use Rattle.theory_resolution.proofs.Names.{name-exact}

pub same-sym : (x y : List ℕ) → same_name x y ≡ same_name y x
same-sym x y = same_test (same_name x y) (same_name y x)
    (λ e. subst (λ (z : List ℕ). same_name z x ≡ true) (name-exact.to x y e) (name-exact.self x))
    (λ e. subst (λ (z : List ℕ). same_name z y ≡ true) (name-exact.to y x e) (name-exact.self y))

-- an element below the length is there
pub index-any : (x : List ℕ) (l : List (List ℕ)) → index_by same_name x l < length l → any (λ y. same_name y x) l ≡ true
unfolding any
index-any x [] h = absurd (omega arith)
index-any x (y ∷ l) h = by_test (same_name x y) (λ e. rw (sym (same-sym x y) ∙ e))
    (λ e. rw (sym (same-sym x y) ∙ e) (index-any x l (omega (arith, rw e at h))))

pub index-not : (x : List ℕ) (l : List (List ℕ)) → length l ≤ index_by same_name x l → any (λ y. same_name y x) l ≡ false
unfolding any
index-not x [] h = refl
index-not x (y ∷ l) h = by_test (same_name x y) (λ e. absurd (omega (arith, rw e at h)))
    (λ e. rw (sym (same-sym x y) ∙ e) (index-not x l (omega (arith, rw e at h))))

-- a name is listed where it has a number
pub listed-before : (x : List ℕ) (l : List (List ℕ)) (r : Option ℕ) → IndexIn (length l) (index_by same_name x l) r → is_some r ≡ any (λ y. same_name y x) l
listed-before x l None h = sym (index-not x l h)
listed-before x l (Some i) h = sym (index-any x l (omega (arith, h.0, h.1)))
