-- What a run over a list of URIs comes to: a fold over their URNs, and two counts.
use Prim.Native.Nat.{ℕ, suc, ◌+◌}
use mathlib.Core.Path.{◌≡◌, refl, ap, ap₂, ◌∙◌}
use mathlib.Core.Option.{Option, none, some}
use mathlib.Core.List.{List, [], ◌∷◌, foldl}
use native.Mathlib.Omega.{arith}
use Rattle.theory_resolution.specs.Names.{same_parts}
use Rattle.theory_resolution.specs.Table.{Urn, Table}
use Rattle.theory_resolution.specs.Nodes.{nodes, deepest, number}
use Rattle.theory_resolution.specs.Direct.{Used, used_of, used_count, skipped_count}
use Rattle.node_search.specs.Uses.{used_urn, use_of}
use Rattle.node_search.proofs.UseRight.{uses-right}
use Rattle.table_decode.specs.Tables.{category_names}
use Rattle.table_decode.specs.Decoded.{Holds}
use Rattle.node_search.specs.declared.decoded.Decoded.{Decoded}
use Rattle.resolve_run.proofs.TakenLaws.{used-urn}
use Rattle.resolve_run.specs.declared.run.Current.{Current}
use Rattle.resolve_run.specs.declared.run.Point.{Point}
use Rattle.resolve_run.specs.Answers.{taken_as}
use Rattle.resolve_run.specs.Run.{use_in, moved, after_use, after}

-- what a run needs of the decoded table: what a URI is to it, and that used URNs are of the table
pub record Reads (t : List ℕ) (T : Table) (d : Decoded) : Type 0 where
  pub uses : (uri : List ℕ) → use_in t d uri ≡ use_of T (used_urn (category_names t) uri)
  pub used : (uri : List ℕ) (u : Urn) → used_urn (category_names t) uri ≡ some u → Used T u

pub holds-reads : (t : List ℕ) (T : Table) (d : Decoded) → Holds t T d → Reads t T d
holds-reads t T d h =
    record {
      uses = uses-right t T d.name_at d.name_len d.categories (category_names t) d.category d.at d.len d.nodes
          h.names h.nodes d.shared h.shared d.inner h.inner;
      used = λ uri u e. let k = used-urn (category_names t) uri u e in
          record { known = omega (arith, k.0, h.names.all-names, h.categories); some-part = k.1 };
    }

module _ (t : List ℕ) (T : Table) (d : Decoded) (h : Reads t T d) where
  -- what a run needs of one step: f on the states s of a kind that `shown` shows as the code has them
  pub record Steps {S : Type 0} (valid : S → Type 0) (f : S → Urn → S) (shown : S → Current) : Type 0 where
    pub moves : (s : S) (u : Urn) → valid s → Used T u
        → moved d.rows d.parent d.inner d.signals (shown s) u.cat
        (number (nodes T) u.cat (deepest (nodes T) u.cat u.path)) (same_parts (deepest (nodes T) u.cat u.path) u.path) ≡ shown (f s u)
    pub stays : (s : S) (u : Urn) → valid s → Used T u → valid (f s u)

  module _ {S : Type 0} (valid : S → Type 0) (f : S → Urn → S) (shown : S → Current) (steps : Steps valid f shown) where
    abbrev at : S → ℕ → ℕ → Point
    at s a b = record { current = shown s; used = a; skipped = b }

    -- the run over a list of URIs
    pub run-fold : (uris : List (List ℕ)) (s : S) (a b : ℕ) → valid s
        → foldl (after t d) (at s a b) uris
        ≡ at (foldl f s (used_of (taken_as t uris))) (a + used_count (taken_as t uris)) (b + skipped_count (taken_as t uris))
    unfolding after
    run-fold [] s a b v = let p : a ≡ a + 0 = omega arith in let q : b ≡ b + 0 = omega arith in ap₂ (at s) p q
    run-fold (uri ∷ uris) s a b v =
        ap (λ u. foldl (after t d) (after_use d.rows d.parent d.inner d.signals (at s a b) u) uris)
        (h.uses uri)
        ∙ go (used_urn (category_names t) uri) refl (run-fold uris)
      where
        go : (o : Option Urn) → used_urn (category_names t) uri ≡ o
            → ((s : S) (a b : ℕ) → valid s
            → foldl (after t d) (at s a b) uris
            ≡ at (foldl f s (used_of (taken_as t uris))) (a + used_count (taken_as t uris)) (b + skipped_count (taken_as t uris)))
            → foldl (after t d) (after_use d.rows d.parent d.inner d.signals (at s a b) (use_of T o)) uris
            ≡ at (foldl f s (used_of (o ∷ taken_as t uris))) (a + used_count (o ∷ taken_as t uris)) (b + skipped_count (o ∷ taken_as t uris))
        go none e ih =
            let q : b + 1 + skipped_count (taken_as t uris) ≡ b + suc (skipped_count (taken_as t uris)) = omega arith in
            ih s a (b + 1) v ∙ ap (at (foldl f s (used_of (taken_as t uris))) (a + used_count (taken_as t uris))) q
        go (some u) e ih =
            let w = h.used uri u e in
            let q : a + 1 + used_count (taken_as t uris) ≡ a + suc (used_count (taken_as t uris)) = omega arith in
            ap (λ x. foldl (after t d) (record { current = x; used = a + 1; skipped = b }) uris) (steps.moves s u v w)
            ∙ ih (f s u) (a + 1) b (steps.stays s u v w)
            ∙ ap (λ n. at (foldl f (f s u) (used_of (taken_as t uris))) n (b + skipped_count (taken_as t uris))) q
