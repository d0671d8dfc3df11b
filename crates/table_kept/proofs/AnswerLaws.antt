-- The answer's bytes, over the nodes of a way.
use Prim.Native.Nat.{ℕ, ◌+◌, ◌-◌, ◌<◌}
use mathlib.Core.Path.{◌≡◌, sym, ap, ◌∙◌}
use mathlib.Core.List.{List, [], ◌∷◌, ◌++◌}
use lib.ListN.{set, length, length-append, replicate}
use native.Mathlib.Omega.{arith}
use Rattle.base_numbers.specs.Numbers.{most_signals}
use Rattle.table_kept.specs.declared.passed.Way.{Way}
use Rattle.table_kept.specs.Held.{nodes_in, padded}
use Rattle.table_kept.proofs.WayLaws.{over, nodes-length}
use Rattle.table_kept.specs.Answers.{lost_answer, rung_answer}

module _ (w : Way) where
  pub rung-all : {l : List ℕ} → l ≡ padded (nodes_in w) → record { refusal = 0; rings = 1; len = w.len; marks = l } ≡ rung_answer (nodes_in w)
  unfolding rung_answer
  rung-all i = λ x. record { refusal = 0; rings = 1; len = sym (nodes-length w) x; marks = i x }

  pub lost-all : {l : List ℕ} (d r : ℕ) → w.len < most_signals → l ≡ padded (nodes_in w)
      → record { refusal = 0; kept = 0; rings = r; len = w.len + 1; marks = set l w.len d } ≡ lost_answer r (nodes_in w ++ d ∷ [])
  unfolding lost_answer
  lost-all {l} d r low i =
      let n : length (nodes_in w ++ d ∷ []) ≡ w.len + 1 = length-append (nodes_in w) (d ∷ []) ∙ omega (arith, nodes-length w) in
      let all : set l w.len d ≡ padded (nodes_in w ++ d ∷ []) =
      ap (λ k. set k w.len d) i
      ∙ ap (λ k. set (nodes_in w ++ replicate (most_signals - k) 0) w.len d) (nodes-length w)
      ∙ over (nodes_in w) w.len d (nodes-length w) low
      ∙ ap (λ k. (nodes_in w ++ d ∷ []) ++ replicate (most_signals - k) 0) (sym n) in
      λ x. record { refusal = 0; kept = 0; rings = r; len = sym n x; marks = all x }
