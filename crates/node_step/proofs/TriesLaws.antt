-- The depth of a node, and the tries of a step, turn by turn.
use Prim.Native.Nat.{ℕ, zero, suc, ◌+◌, ◌-◌, ◌≤◌, ◌<◌}
use mathlib.Core.Path.{◌≡◌, sym, ap, ◌∙◌}
use mathlib.Core.Bool.{Bool, true, false, cond}
use mathlib.Core.List.{List}
use borrow.Author.Tests.{ne_eqb, lt-leb}
use lib.Dec.{eqb, leb}
use native.Mathlib.Omega.{arith}
use Rattle.base_numbers.specs.Numbers.{most_tries}
use Rattle.node_step.specs.declared.State.{State}
use Rattle.std.specs.Prelude.{Option, Some, None}
use Rattle.node_step.specs.declared.Hit.{Hit}
use Rattle.node_step.specs.Step.{parent_of, hit_numbers}
use Rattle.node_step.specs.Tries.{depth, tries_to, tries_numbers}

-- one node more
depth-suc : (ps : List ℕ) (n p : ℕ) → (p ≡ 0 → ⊥) → depth ps (suc n) p ≡ suc (depth ps n (parent_of ps p))
unfolding depth
depth-suc ps n p h = rw (ne_eqb p 0 h)

-- n nodes passed, the next one is p
module _ (ps : List ℕ) (d n p : ℕ) (v : depth ps most_tries d ≡ n + depth ps (9 - n) p) where
  pub depth-more : {r : ℕ} → n < 9 → (p ≡ 0 → ⊥) → r ≡ parent_of ps p → depth ps most_tries d ≡ n + 1 + depth ps (9 - (n + 1)) r
  depth-more {r} h e f =
      let m : 9 - n ≡ suc (9 - (n + 1)) = omega arith in
      let w : depth ps (9 - n) p ≡ suc (depth ps (9 - (n + 1)) r) = ap (λ x. depth ps x p) m ∙ depth-suc ps (9 - (n + 1)) p e
      ∙ ap (λ x. suc (depth ps (9 - (n + 1)) x)) (sym f) in
      omega arith

module _ (rows ps : List ℕ) (n : ℕ) (st : State) (c d : ℕ) (whole : Bool) where
  pub tries-by-hit : {x : Option Hit} {r : ℕ} → c < 8 → x ≡ hit_numbers rows ps n st c d whole → r ≡ tries_to ps d x → r ≡ tries_numbers rows ps n st c d whole
  unfolding tries_numbers
  tries-by-hit h i v = v ∙ ap (tries_to ps d) i ∙ simp (lt-leb 8 c h)

-- a step has at most ten tries, whatever the arrays hold
depth-bound : (ps : List ℕ) (n d : ℕ) → depth ps n d ≤ n
unfolding depth
depth-bound ps zero d = omega arith
depth-bound ps (suc n) d = go (eqb d 0) (depth-bound ps n (parent_of ps d))
  where
    go : (b : Bool) → depth ps n (parent_of ps d) ≤ n → cond b 0 (suc (depth ps n (parent_of ps d))) ≤ suc n
    go true h = omega arith
    go false h = omega arith

pub tries-bound : (rows ps : List ℕ) (n : ℕ) (st : State) (c d : ℕ) (whole : Bool) → tries_numbers rows ps n st c d whole ≤ 10
unfolding tries_numbers
tries-bound rows ps n st c d whole = go (leb 8 c) (hit_numbers rows ps n st c d whole)
  where
    go : (b : Bool) (h : Option Hit) → cond b 0 (tries_to ps d h) ≤ 10
    go true h = omega arith
    go false None = omega arith
    go false (Some h) = omega (arith, depth-bound ps 9 d)
