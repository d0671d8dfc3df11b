-- Lists of URIs as a stored table takes them.
use Prim.Native.Nat.{ℕ, ◌<◌}
use mathlib.Core.Path.{◌≡◌, refl, sym, ap, ◌∙◌}
use mathlib.Core.Logic.{◌⊎◌, inl, inr, ◌≢◌}
use mathlib.Core.Bool.{Bool, true, false, cond, ◌&&◌, and-eq-true_iff}
use mathlib.Core.Option.{Option, none, some}
use mathlib.Core.List.Memᴰ
use mathlib.Core.List.{List, [], ◌∷◌, Memᴰ}
use lib.ListN.{length, drop}
use native.Mathlib.Omega.{arith}
use Rattle.table_decode.proofs.Judging.{names-count}
use Rattle.base_lists.proofs.Lists.{index-member}
use Rattle.base_lists.specs.Lists.{member_by, index_by}
use Rattle.theory_resolution.specs.Names.{Name, Parts, same_name}
use Rattle.theory_resolution.specs.Table.{Urn}
use Rattle.theory_resolution.specs.Direct.{used_of, Used, AllUsed}
use Rattle.theory_resolution.proofs.Names.{name-exact}
use Rattle.base_text.specs.Text.{fields, lowered}
use Rattle.urn_names.specs.Urn.{alert_urn, category_of, path_of}
use Rattle.base_text.proofs.Fields.{fields-first}
use Rattle.node_search.specs.Uses.{used_urn}
use Rattle.table_decode.specs.Tables.{table_of, category_names}
use Rattle.resolve_run.specs.Answers.{taken_as}

-- a path cut at colons has at least one part
some-field : (s : List ℕ) → fields 58 s ≢ []
some-field s e = let f = fields-first 58 s in let z : ◌≡◌ {A = ℕ} 0 1 = cc f.1 in omega arith

-- the URN of a used URI is of a category of the table, and has a part
pub used-urn : (names : List Name) (uri : List ℕ) (u : Urn) → used_urn names uri ≡ some u → (u.cat < length names) × (u.path ≢ [])
unfolding used_urn
used-urn names uri u = go (alert_urn uri && member_by same_name (category_of (lowered (drop 10 uri))) names) refl
  where
    name : Name
    name = category_of (lowered (drop 10 uri))

    path : Parts
    path = fields 58 (path_of (lowered (drop 10 uri)))

    go : (b : Bool) → alert_urn uri && member_by same_name name names ≡ b
        → cond b (some (record { cat = index_by same_name name names; path = path })) none ≡ some u → (u.cat < length names) × (u.path ≢ [])
    go true e q =
        let c : u.cat ≡ index_by same_name name names = cc in
        let p : path ≡ u.path = cc in
        let m = ((and-eq-true_iff (alert_urn uri) (member_by same_name name names)).0 e).1 in
        (omega (arith, (index-member same_name name-exact [] name names m).0), λ z. some-field (path_of (lowered (drop 10 uri))) (p ∙ z))
    go false e q = absurd (let z : ◌≡◌ {A = ℕ} 0 1 = cc in omega arith)

module _ (t : List ℕ) where
  pub used-of : (uri : List ℕ) (u : Urn) → used_urn (category_names t) uri ≡ some u → Used (table_of t) u
  used-of uri u e =
      let k = used-urn (category_names t) uri u e in
      record { known = omega (arith, k.0, names-count t); some-part = k.1 }

  -- a list of URIs has used ones of the table only
  pub taken-used : (uris : List (List ℕ)) → AllUsed (table_of t) (taken_as t uris)
  taken-used [] = λ u m. absurd (Memᴰ.not-nil m)
  taken-used (uri ∷ uris) = go (used_urn (category_names t) uri) refl (taken-used uris)
    where
      go : (o : Option Urn) → used_urn (category_names t) uri ≡ o → AllUsed (table_of t) (taken_as t uris) → AllUsed (table_of t) (o ∷ taken_as t uris)
      go none e rest u m = rest u m
      go (some x) e rest u m = by (Memᴰ.cases_cons m)
        where
          by : (u ≡ x) ⊎ Memᴰ u (used_of (taken_as t uris)) → Used (table_of t) u
          by (inl i) = used-of uri u (e ∙ ap some (sym i))
          by (inr i) = rest u i
