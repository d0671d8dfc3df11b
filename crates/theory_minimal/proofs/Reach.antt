-- Laws of reachable states and of the test of reachable classes.
use Prim.Native.Nat.{ℕ, zero, suc, ◌≤◌, ◌<◌}
use mathlib.Core.Path.{◌≡◌, refl, sym, ap, ◌∙◌}
use mathlib.Core.Bool.{Bool, true, false}
use mathlib.Core.List.{List, [], ◌∷◌, ◌++◌, Memᴰ}
use lib.Dec.{eqb}
use lib.ListN.{length, get_or}
use borrow.Author.Tests.{eqb-true, eq-eqb, ltb-true, lt-ltb}
use native.Mathlib.Omega.{arith}
use Rattle.base_lists.proofs.Search.{seek-sought, seek_found}
use Rattle.base_lists.specs.Search.{seek}
use Rattle.base_lists.proofs.Below.{all-to, all_of}
use Rattle.base_lists.proofs.Tabulated.{tabulate-at, tabulate-length}
use Rattle.base_lists.proofs.Lists.{eqb-exact, mem-at, member_of, index-member, distinct-add, distinct-fits}
use Rattle.base_lists.specs.Lists.{member_by, add_by, index_by, Distinct, tabulate}
use Rattle.theory_resolution.proofs.Discovery.{discover-distinct, discover-reached, discover-complete}
use Rattle.theory_minimal.specs.Machine.{Machine, Formed, Sequence, run, Reachable}
use Rattle.theory_minimal.specs.Proposal.{class_of, class_count, ReachedClass}
use Rattle.theory_minimal.specs.Test.{found_states, found_class, class_found, all_reached}
use Rattle.theory_minimal.proofs.Alike.{sequence-first, sequence-rest}

-- a list of numbers below n without repeats is no longer than n
pub numbers_fit : (l : List ℕ) (n : ℕ) → Distinct eqb l → ((x : ℕ) → Memᴰ x l → x < n) → length l ≤ n
numbers_fit l n d below =
    omega (arith, tabulate-length (λ i. i) n, distinct-fits eqb eqb-exact l (tabulate (λ i. i) n) d (λ x i. listed x (below x i)))
  where
    listed : (x : ℕ) → x < n → member_by eqb x (tabulate (λ i. i) n) ≡ true
    listed x h =
        member_of eqb eqb-exact x (tabulate (λ i. i) n)
        (rw (tabulate-at (λ i. i) n x 0 h) at (mem-at (tabulate (λ i. i) n) x 0 (omega (arith, tabulate-length (λ i. i) n))))

-- the values of a function that repeats none are in a list without repeats
values-distinct : (f : ℕ → ℕ) (n : ℕ) → ((i j : ℕ) → i < n → j < n → f i ≡ f j → i ≡ j) → Distinct eqb (tabulate f n)
unfolding tabulate
values-distinct f zero h = tt
values-distinct f (suc n) h =
    last (member_by eqb (f n) (tabulate f n)) refl
    (distinct-add eqb eqb-exact (tabulate f n) (f n) (values-distinct f n (λ i j a b. h i j (omega arith) (omega arith))))
  where
    last : (b : Bool) → member_by eqb (f n) (tabulate f n) ≡ b → Distinct eqb (add_by eqb (tabulate f n) (f n)) → Distinct eqb (tabulate f n ++ f n ∷ [])
    last true e d =
        let a = index-member eqb eqb-exact 0 (f n) (tabulate f n) e in
        let i : index_by eqb (f n) (tabulate f n) < n = omega (arith, a.0, tabulate-length f n) in
        let q : index_by eqb (f n) (tabulate f n) ≡ n = h (index_by eqb (f n) (tabulate f n)) n (omega arith) (omega arith)
        (sym (tabulate-at f n (index_by eqb (f n) (tabulate f n)) 0 i) ∙ a.1) in
        absurd (omega arith)
    last false e d = rw e at d

-- so there are no more of them than numbers below k
pub values-fit : (f : ℕ → ℕ) (n k : ℕ) → ((i : ℕ) → i < n → f i < k) → ((i j : ℕ) → i < n → j < n → f i ≡ f j → i ≡ j) → n ≤ k
values-fit f n k below once = omega (
  arith,
  tabulate-length f n,
  numbers_fit (tabulate f n) k (values-distinct f n once) (λ x i. low x (member_of eqb eqb-exact x (tabulate f n) i)),
)
  where
    low : (x : ℕ) → member_by eqb x (tabulate f n) ≡ true → x < k
    low x e =
        let a = index-member eqb eqb-exact 0 x (tabulate f n) e in
        let i : index_by eqb x (tabulate f n) < n = omega (arith, a.0, tabulate-length f n) in
        rw (← a.1, tabulate-at f n (index_by eqb x (tabulate f n)) 0 i) (below (index_by eqb x (tabulate f n)) i)

module _ (m : Machine) (formed : Formed m) where
  -- a sequence leads from a state to a state
  pub run-state : (j : ℕ) (w : List ℕ) → j < m.states → Sequence m w → run m j w < m.states
  run-state j [] h l = h
  run-state j (k ∷ w) h l = run-state (m.target j k) w (formed.leads j k h (sequence-first m k w l)) (sequence-rest m k w l)

  pub reached-state : (j : ℕ) → Reachable m j → j < m.states
  reached-state j r = rw r.leads at (run-state 0 r.by formed.some-state r.listed)

  found-reached : (s : ℕ) → Memᴰ s (found_states m) → Reachable m s
  found-reached = discover-reached eqb eqb-exact m.target m.symbols 0 m.states

  -- no more states are found than there are
  found-few : length (found_states m) ≤ m.states
  found-few =
      numbers_fit (found_states m) m.states (discover-distinct eqb eqb-exact m.target m.symbols 0 m.states)
      (λ x i. reached-state x (found-reached x i))

  reached-found : (s : ℕ) → Reachable m s → member_by eqb s (found_states m) ≡ true
  reached-found = discover-complete eqb eqb-exact m.target m.symbols 0 m.states found-few

  -- the test finds exactly the classes of reachable states
  pub class-found-to : (p : List ℕ) (c : ℕ) → class_found p (found_states m) c ≡ true → ReachedClass m p c
  class-found-to p c e =
      let l : List ℕ = found_states m in
      let i : ℕ = seek (found_class p l c) 0 (length l) in
      let h : i < length l = ltb-true i (length l) e in
      record {
        state = get_or l i 0;
        reached = found-reached (get_or l i 0) (mem-at l i 0 h);
        classed = eqb-true (class_of p (get_or l i 0)) c ((seek-sought (found_class p l c) 0 (length l)).passes (omega arith));
      }

  pub class-found-of : (p : List ℕ) (c : ℕ) → ReachedClass m p c → class_found p (found_states m) c ≡ true
  class-found-of p c r =
      let l : List ℕ = found_states m in
      let a = index-member eqb eqb-exact 0 r.state l (reached-found r.state r.reached) in
      let i : ℕ = index_by eqb r.state l in
      let e : found_class p l c i ≡ true = eq-eqb (class_of p (get_or l i 0)) c (ap (class_of p) a.1 ∙ r.classed) in
      lt-ltb (seek (found_class p l c) 0 (length l)) (length l) (seek_found (found_class p l c) (length l) i a.0 e).0

  pub all-reached-to : (p : List ℕ) → all_reached m p ≡ true → (c : ℕ) → c < class_count p → ReachedClass m p c
  all-reached-to p e c h = class-found-to p c (all-to (class_count p) (class_found p (found_states m)) e c h)

  pub all-reached-of : (p : List ℕ) → ((c : ℕ) → c < class_count p → ReachedClass m p c) → all_reached m p ≡ true
  all-reached-of p r = all_of (class_count p) (class_found p (found_states m)) (λ c h. class-found-of p c (r c h))
