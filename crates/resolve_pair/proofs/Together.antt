-- Each table alone gives what the table of all pairs gives.
use Prim.Native.Nat.{ℕ, ◌+◌, ◌<◌}
use mathlib.Core.Path.{◌≡◌, refl, sym, ap, ap₂, ◌∙◌}
use mathlib.Core.Bool.{Bool, true, false, cond, ◌||◌, ◌&&◌, and-eq-true_iff}
use mathlib.Core.Option.{none, some}
use mathlib.Core.List.{List, [], ◌∷◌, ◌++◌, map}
use lib.ListN.{length, drop}
use native.Mathlib.Omega.{arith}
use Rattle.table_decode.proofs.Judging.{names-count}
use Rattle.base_lists.proofs.Lists.{member-join, index-append}
use Rattle.base_lists.specs.Lists.{member_by, index_by}
use Rattle.theory_resolution.specs.Names.{Name, Parts, same_name}
use Rattle.theory_resolution.specs.Table.{Urn, urn, Table}
use Rattle.theory_resolution.specs.Direct.{direct, used_of}
use Rattle.theory_resolution.proofs.TableStep.{state-direct, state-signal}
use Rattle.base_text.specs.Text.{fields, lowered}
use Rattle.urn_names.specs.Urn.{alert_urn, category_of, path_of}
use Rattle.node_search.specs.Uses.{used_urn}
use Rattle.theory_pairs.specs.Pairs.{pairs, pair_number, pair_uri, pair_by, PairLaw}
use Rattle.theory_pairs.proofs.Pairs.{pair_one}
use Rattle.theory_pairs.proofs.Law.{pair-law}
use Rattle.table_decode.specs.Tables.{table_refusal, table_of, category_names}
use Rattle.table_decode.proofs.Accepting.{accepted}
use Rattle.resolve_run.specs.Answers.{taken_as}
use Rattle.resolve_run.proofs.TakenLaws.{used-of}
use Rattle.resolve_pair.specs.Claims.{Shared, alone, together, Together, TogetherClaim}

-- a URI's category and path
abbrev name : List ℕ → Name
name uri = category_of (lowered (drop 10 uri))

abbrev path : List ℕ → Parts
path uri = fields 58 (path_of (lowered (drop 10 uri)))

-- what the table of pairs takes a URI for
used-both : (a b : List Name) (uri : List ℕ) → used_urn (a ++ b) uri ≡ pair_uri (length a) (used_urn a uri) (used_urn b uri)
unfolding used_urn
used-both a b uri =
    ap₂ (λ m i. cond (alert_urn uri && m) (some (urn i (path uri))) none) (member-join same_name (name uri) a b) (index-append same_name (name uri) a b)
    ∙ go (alert_urn uri) (member_by same_name (name uri) a) (member_by same_name (name uri) b)
  where
    go : (u s t : Bool)
        → cond (u && (s || t)) (some (urn (cond s (index_by same_name (name uri) a) (length a + index_by same_name (name uri) b)) (path uri))) none
        ≡ pair_uri (length a) (cond (u && s) (some (urn (index_by same_name (name uri) a) (path uri))) none)
        (cond (u && t) (some (urn (index_by same_name (name uri) b) (path uri))) none)
    go true true t = refl
    go true false true = refl
    go true false false = refl
    go false s t = refl

-- a used URI's category is one of the names
used-member : (names : List Name) (uri : List ℕ) (u : Urn) → used_urn names uri ≡ some u → member_by same_name (name uri) names ≡ true
unfolding used_urn
used-member names uri u = go (alert_urn uri && member_by same_name (name uri) names) refl
  where
    go : (b : Bool) → alert_urn uri && member_by same_name (name uri) names ≡ b → cond b (some (urn (index_by same_name (name uri) names) (path uri))) none ≡ some u
        → member_by same_name (name uri) names ≡ true
    go true e q = ((and-eq-true_iff (alert_urn uri) (member_by same_name (name uri) names)).0 e).1
    go false e q = absurd (let z : ◌≡◌ {A = ℕ} 0 1 = cc in omega arith)

module _ (ring lamp : List ℕ) (zr : table_refusal ring ≡ 0) (zl : table_refusal lamp ≡ 0) (none_in : Shared ring lamp → ⊥) where
  abbrev R : Table
  R = table_of ring

  abbrev L : Table
  L = table_of lamp

  law : PairLaw R L
  law = pair-law R L (accepted ring zr).known (accepted ring zr).well (accepted lamp zl).well

  views : (uris : List (List ℕ))
      → map (used_urn (category_names ring ++ category_names lamp)) uris
      ≡ map (pair_by R.cats (used_urn (category_names ring)) (used_urn (category_names lamp))) uris
  views [] = refl
  views (uri ∷ uris) =
      ap₂ ◌∷◌
      (used-both (category_names ring) (category_names lamp) uri
      ∙ ap (λ n. pair_uri n (used_urn (category_names ring) uri) (used_urn (category_names lamp) uri)) (names-count ring))
      (views uris)

  agrees : (uris : List (List ℕ)) → together ring lamp uris ≡ pair_number L (alone ring uris) (alone lamp uris)
  agrees uris =
      ap (λ l. (direct (pairs R L) (used_of l)).signal) (views uris)
      ∙ law.agrees-by (used_urn (category_names ring)) (used_urn (category_names lamp))
      (λ w u e. (used-of ring w u e).known)
      (λ w u v e g. none_in (name w, used-member (category_names ring) w u e, used-member (category_names lamp) w v g))
      uris

  only : (uris : List (List ℕ)) (r l : ℕ) → l < length L.signals → together ring lamp uris ≡ pair_number L r l → (alone ring uris ≡ r) × (alone lamp uris ≡ l)
  only uris r l h e =
      pair_one (length L.signals) (alone ring uris) (alone lamp uris) r l
      (state-signal L (direct L (used_of (taken_as lamp uris))) (state-direct L (accepted lamp zl).well (used_of (taken_as lamp uris)))) h (sym (agrees uris) ∙ e)

  one_list : (uris : List (List ℕ)) → Together ring lamp uris
  one_list uris = record { agrees = agrees uris; only = only uris; law = law }

pub together-claim : TogetherClaim
together-claim = one_list
