-- Laws of states that behave alike, and of blocks: two states are in one block exactly if they behave alike.
use Prim.Native.Nat.{ℕ, zero, suc, ◌<◌}
use mathlib.Core.Path.{◌≡◌, refl, sym, ap, ◌∙◌}
use mathlib.Core.Logic.{◌⊎◌, inl, inr}
use mathlib.Core.List.Memᴰ
use mathlib.Core.List.{List, [], ◌∷◌, Memᴰ}
use Rattle.base_lists.proofs.Tabulated.{tabulate-at}
use Rattle.theory_minimal.specs.Machine.{Machine, Formed, Sequence, Alike}
use Rattle.theory_minimal.specs.Proposal.{class_of}
use Rattle.theory_minimal.specs.Refine.{refined, blocks}
use Rattle.theory_minimal.proofs.Refine.{refine-to, refine-of, settled}

-- one symbol more, one symbol less
pub sequence-first : (m : Machine) (k : ℕ) (w : List ℕ) → Sequence m (k ∷ w) → k < m.symbols
sequence-first m k w l = l k (Memᴰ.head refl)

pub sequence-rest : (m : Machine) (k : ℕ) (w : List ℕ) → Sequence m (k ∷ w) → Sequence m w
sequence-rest m k w l x i = l x (Memᴰ.tail i)

pub sequence-nil : (m : Machine) → Sequence m []
sequence-nil m k i = absurd (Memᴰ.not-nil i)

pub sequence-cons : (m : Machine) (k : ℕ) (w : List ℕ) → k < m.symbols → Sequence m w → Sequence m (k ∷ w)
sequence-cons m k w h l x i = go (Memᴰ.cases_cons i)
  where
    go : (x ≡ k) ⊎ Memᴰ x w → x < m.symbols
    go (inl e) = rw e h
    go (inr j) = l x j

module _ (m : Machine) where
  -- states that behave alike have one signal
  pub alike-signal : (i j : ℕ) → Alike m i j → m.signal i ≡ m.signal j
  alike-signal i j a = a [] (sequence-nil m)

  -- and their targets behave alike
  pub alike-target : (i j k : ℕ) → k < m.symbols → Alike m i j → Alike m (m.target i k) (m.target j k)
  alike-target i j k h a w l = a (k ∷ w) (sequence-cons m k w h l)

module _ (m : Machine) (formed : Formed m) where
  -- a relation that keeps signals and leads to itself holds of states that behave alike only
  pub follow : (R : ℕ → ℕ → Type 0) → ((i j : ℕ) → i < m.states → j < m.states → R i j → m.signal i ≡ m.signal j)
      → ((i j k : ℕ) → i < m.states → j < m.states → k < m.symbols → R i j → R (m.target i k) (m.target j k))
      → (i j : ℕ) → i < m.states → j < m.states → R i j → Alike m i j
  follow R signals targets i j a b r [] l = signals i j a b r
  follow R signals targets i j a b r (k ∷ w) l =
      let h = sequence-first m k w l in
      follow R signals targets (m.target i k) (m.target j k) (formed.leads i k a h) (formed.leads j k b h) (targets i j k a b h r) w (sequence-rest m k w l)

  -- no round tells states apart that behave alike
  pub alike-refined : (r i j : ℕ) → i < m.states → j < m.states → Alike m i j → class_of (refined m r) i ≡ class_of (refined m r) j
  unfolding refined
  alike-refined zero i j a b x = tabulate-at m.signal m.states i 0 a ∙ alike-signal m i j x ∙ sym (tabulate-at m.signal m.states j 0 b)
  alike-refined (suc r) i j a b x =
      refine-of m (refined m r) i j a b
      (record {
        classed = alike-refined r i j a b x;
        targets = λ k h. alike-refined r (m.target i k) (m.target j k) (formed.leads i k a h) (formed.leads j k b h) (alike-target m i j k h x);
      })

  -- every round keeps states of different signals apart
  refined-signal : (r i j : ℕ) → i < m.states → j < m.states → class_of (refined m r) i ≡ class_of (refined m r) j → m.signal i ≡ m.signal j
  unfolding refined
  refined-signal zero i j a b e = sym (tabulate-at m.signal m.states i 0 a) ∙ e ∙ tabulate-at m.signal m.states j 0 b
  refined-signal (suc r) i j a b e = refined-signal r i j a b (refine-to m (refined m r) i j a b e).classed

  -- states in one block behave alike
  pub block-alike : (i j : ℕ) → i < m.states → j < m.states → class_of (blocks m) i ≡ class_of (blocks m) j → Alike m i j
  block-alike =
      follow (λ i j. class_of (blocks m) i ≡ class_of (blocks m) j) (refined-signal m.states) targets
    where
      targets : (i j k : ℕ) → i < m.states → j < m.states → k < m.symbols → class_of (blocks m) i ≡ class_of (blocks m) j
          → class_of (blocks m) (m.target i k) ≡ class_of (blocks m) (m.target j k)
      targets i j k a b h e =
          let s = settled m formed.some-state in
          (refine-to m (blocks m) i j a b (ap (λ p. class_of p i) s ∙ e ∙ sym (ap (λ p. class_of p j) s))).targets k h

  -- and states that behave alike are in one block
  pub alike-block : (i j : ℕ) → i < m.states → j < m.states → Alike m i j → class_of (blocks m) i ≡ class_of (blocks m) j
  alike-block = alike-refined m.states
