-- Laws of numbering blocks by their first states.
use Prim.Native.Nat.{ℕ, suc, ◌+◌, ◌≤◌, ◌<◌}
use mathlib.Core.Path.{◌≡◌, refl, sym, ap, ◌∙◌}
use mathlib.Core.List.{List}
use lib.ListN.{get_or}
use borrow.Author.Tests.{eq-eqb, ne_eqb}
use native.Mathlib.Numerals.{add-one}
use native.Mathlib.Omega.{arith}
use Rattle.base_numbers.specs.Numbers.{most_states}
use Rattle.base_lists.proofs.Search.{count_fits}
use Rattle.base_lists.specs.Search.{count}
use Rattle.base_lists.proofs.Filled.{Filled}
use Rattle.theory_minimal.specs.Machine.{Machine, Formed}
use Rattle.theory_minimal.specs.Proposal.{class_of}
use Rattle.theory_minimal.specs.Refine.{is_first, block_number, blocks}
use Rattle.small_classes.specs.Found.{Firsts}
use Rattle.theory_minimal.proofs.Classes.{block-le, block-leads}

-- blocks are lists of first states
pub blocks-firsts : (m : Machine) → Formed m → Firsts (blocks m) m.states
blocks-firsts m formed = record { before = block-le m formed; leads = block-leads m formed }

module _ (b : List ℕ) (n : ℕ) (fs : Firsts b n) (i : ℕ) (h : i < n) (f : ℕ) (is : f ≡ class_of b i) where
  -- state i is the first of its class
  module _ (e : f ≡ i) (next : ℕ) (d : next ≡ count (is_first b) i) where
    pub first-number : next ≡ block_number b i
    first-number = d ∙ ap (count (is_first b)) (sym e ∙ is)

    pub first-next : next + 1 ≡ count (is_first b) (i + 1)
    unfolding count
    first-next = rw (add-one, add-one, eq-eqb (class_of b i) i (sym is ∙ e)) (ap suc d)

  -- another one is
  module _ (e : f ≡ i → ⊥) where
    pub later-number : (c : List ℕ) → Filled (block_number b) c i → get_or c f 0 ≡ block_number b i
    later-number c a =
        let j : f < i = omega (arith, e, is, fs.before i h) in
        a f j ∙ ap (λ z. count (is_first b) (class_of b z)) is ∙ ap (count (is_first b)) (fs.leads i h)

    pub later-next : (next : ℕ) → next ≡ count (is_first b) i → next ≡ count (is_first b) (i + 1)
    unfolding count
    later-next next d = rw (add-one, ne_eqb (class_of b i) i (λ q. e (is ∙ q))) d

-- fewer than 256 come before a state below 256
pub number_small : (b : List ℕ) (n i next : ℕ) → i < n → n ≤ most_states → next ≡ count (is_first b) i → next < 256
number_small b n i next h k e = omega (arith, count_fits (is_first b) i)

pub number-none : (b : List ℕ) → 0 ≡ count (is_first b) 0
unfolding count
number-none b = refl
