-- The test by arrays whether two tables have a category in common is the one by names.
use Prim.Native.Nat.{ℕ, ◌+◌, ◌≤◌, ◌<◌, min}
use mathlib.Core.Path.{◌≡◌, refl, sym, ap, ap₂, ◌∙◌}
use mathlib.Core.Bool.{Bool, true, false, not, and-eq-true_iff}
use mathlib.Core.List.{List, []}
use lib.ListN.{get_or}
use native.Mathlib.Omega.{arith}
use native.Mathlib.Numerals.{add-one}
use Rattle.base_lists.specs.Cuts.{stretch}
use Rattle.base_lists.proofs.Numbers.{min-le}
use Rattle.std.specs.Prelude.{IsTrue, ◌↔◌}
use Rattle.base_lists.proofs.Chains.{all_below-is}
use Rattle.base_lists.proofs.Below.{all-stop, all_same}
use Rattle.base_lists.specs.Lists.{all_below}
use Rattle.theory_resolution.specs.Names.{Name, same_name}
use Rattle.node_search.specs.Arrays.{NamesIn}
use Rattle.resolve_pair.specs.Pair.{other_name, none_of, apart}
use Rattle.resolve_pair.specs.Alone.{other_at, none_at, apart_by}

module _ (ring rat rlen lamp lat llen : List ℕ) (m n : ℕ) (a b : List Name) (ra : NamesIn ring rat rlen m a) (lb : NamesIn lamp lat llen n b) where
  one_right : (i : ℕ) → i < m → none_at ring rat rlen lamp lat llen n i ≡ none_of a b i
  unfolding none_at other_at
  one_right i h =
      ap (λ x. all_below n (other_at x lamp lat llen)) (ra.name-at i h)
      ∙ all_same n (other_at (get_or a i []) lamp lat llen) (other_name (get_or a i []) b) (λ j l. ap (λ y. not (same_name (get_or a i []) y)) (lb.name-at j l))
      ∙ ap (λ k. all_below k (other_name (get_or a i []) b)) (sym lb.all-names)

  pub apart-right : apart_by ring rat rlen m lamp lat llen n ≡ apart a b
  unfolding apart_by
  apart-right =
      ap₂ (λ x y. all_below x (none_at ring rat rlen lamp lat llen y)) (sym (min-le m 8 ra.few-names)) (sym (min-le n 8 lb.few-names))
      ∙ all_same m (none_at ring rat rlen lamp lat llen n) (none_of a b) one_right
      ∙ ap (λ k. all_below k (none_of a b)) (sym ra.all-names)
