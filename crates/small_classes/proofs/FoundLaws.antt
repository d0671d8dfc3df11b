-- Laws of the states found as the code keeps them: each visit, each turn, and all turns.
use Prim.Native.Nat.{ℕ, ◌+◌, ◌-◌, ◌≤◌, ◌<◌}
use mathlib.Core.Path.{◌≡◌, refl, sym, ap, ◌∙◌}
use mathlib.Core.Bool.{Bool, true, false, cond, ◌||◌}
use mathlib.Core.List.Memᴰ
use mathlib.Core.List.{List, [], ◌∷◌, ◌++◌, Memᴰ}
use lib.Dec.{eqb}
use lib.ListN.{length, get_or, set, take, length-append, length-set}
use lib.Seq.{take-suc-set, length-take-le, get_or-take, get_or-set_same, get_or-set_other}
use borrow.Author.Tests.{ne_eqb, lt-ltb, ltb-true}
use native.Mathlib.Numerals.{add-one}
use native.Mathlib.Decide.{ℕ_discrete}
use native.Mathlib.Omega.{arith}
use Rattle.std.specs.Prelude.{replicate}
use Rattle.std.specs.List.{All, list_any}
use Rattle.std.proofs.lemmas.List.Elements.{All-from_get_or}
use Rattle.std.proofs.lemmas.List.{get_or-replicate, length-replicate}
use Rattle.std.proofs.lemmas.List.Folds.{list_any_at}
use Rattle.base_lists.proofs.Bools.{same_test}
use Rattle.base_lists.proofs.Chains.{any-list}
use Rattle.base_lists.proofs.Tests.{any-yes}
use Rattle.base_lists.proofs.Search.{seek-sought, seek_found}
use Rattle.base_lists.specs.Search.{seek}
use Rattle.base_lists.proofs.Lists.{eqb-exact, Extends, mem-at, add-has, add-all, distinct-add}
use Rattle.base_lists.specs.Lists.{member_by, add_by, Distinct}
use Rattle.theory_resolution.specs.Discovery.{expand, discover}
use Rattle.theory_resolution.proofs.Discovery.{expand-extends, discover-next, discover-done}
use Rattle.theory_minimal.specs.Machine.{Machine}
use Rattle.theory_minimal.specs.Proposal.{class_of}
use Rattle.small_classes.specs.Found.{Kept, Visited, Turned}
use Rattle.theory_minimal.specs.Test.{found_states, found_class, class_found}
use Rattle.theory_minimal.proofs.Reach.{numbers_fit}

mark-yes : (b : Bool) (s : ℕ) → s ≡ cond b 1 0 → (s ≡ 0 → ⊥) → b ≡ true
mark-yes true s e h = refl
mark-yes false s e h = absurd (h e)

mark-no : (b : Bool) (s : ℕ) → s ≡ cond b 1 0 → s ≡ 0 → b ≡ false
mark-no true s e h = absurd (omega arith)
mark-no false s e h = refl

-- another number at the end changes nothing of y
member-other : (y x : ℕ) (l : List ℕ) → (y ≡ x → ⊥) → member_by eqb y (l ++ x ∷ []) ≡ member_by eqb y l
member-other y x [] h = rw (ne_eqb y x h)
member-other y x (z ∷ l) h = ap (λ b. eqb y z || b) (member-other y x l h)

module _ (n : ℕ) (list seen : List ℕ) (count : ℕ) (k : Kept n list seen count) (x at : ℕ) (h : x < n) (at_x : at ≡ x) where
  front : length (take count list) ≡ count
  front = length-take-le count list (let a = k.few in omega (arith, k.wide))

  pub visit-old : (get_or seen at 0 ≡ 0 → ⊥) → Visited n list count x list seen count
  visit-old d =
      let e : member_by eqb x (take count list) ≡ true = mark-yes (member_by eqb x (take count list)) (get_or seen x 0) (k.marked x h)
      (λ q. d (ap (λ z. get_or seen z 0) at_x ∙ q)) in
      record { found = rw e; kept = k }

  module _ (d : get_or seen at 0 ≡ 0) where
    new : member_by eqb x (take count list) ≡ false
    new = mark-no (member_by eqb x (take count list)) (get_or seen x 0) (k.marked x h) (sym (ap (λ z. get_or seen z 0) at_x) ∙ d)

    added : add_by eqb (take count list) x ≡ take count list ++ x ∷ []
    added = rw new

    more-distinct : Distinct eqb (add_by eqb (take count list) x)
    more-distinct = distinct-add eqb eqb-exact (take count list) x k.distinct

    more-states : (y : ℕ) → Memᴰ y (add_by eqb (take count list) x) → y < n
    more-states = add-all eqb eqb-exact (λ y. y < n) (take count list) x k.states h

    -- there is room for one more
    pub visit-room : count < n
    visit-room =
        omega
        (arith, numbers_fit (add_by eqb (take count list) x) n more-distinct more-states, ap length added, length-append (take count list) (x ∷ []), front)

    longer : take (count + 1) (set list count x) ≡ add_by eqb (take count list) x
    longer = ap (λ z. take z (set list count x)) (add-one count) ∙ take-suc-set list count x (let a = visit-room in omega (arith, k.wide)) ∙ sym added

    pub visit-new : Visited n list count x (set list count x) (set seen at 1) (count + 1)
    visit-new =
        record {
          found = longer;
          kept =
              record {
                wide = length-set list count x ∙ k.wide;
                marks = length-set seen at 1 ∙ k.marks;
                few = omega (arith, visit-room);
                distinct = rw longer more-distinct;
                states = rw longer more-states;
                marked = λ y a. rw longer (marks y a (ℕ_discrete y x));
              };
        }
      where
        marks : (y : ℕ) → y < n → Dec (y ≡ x) → get_or (set seen at 1) y 0 ≡ cond (member_by eqb y (add_by eqb (take count list) x)) 1 0
        marks y a (yes e) =
            rw (e, add-has eqb eqb-exact (take count list) x, at_x) (get_or-set_same seen x 1 0 (omega (arith, k.marks)))
        marks y a (no e) =
            rw at_x
            (get_or-set_other seen x y 1 0 e ∙ k.marked y a ∙ sym (ap (λ b. cond b 1 0) (ap (member_by eqb y) added ∙ member-other y x (take count list) e)))

module _ (m : Machine) (list : List ℕ) (count j : ℕ) where
  pub turned_none : (seen : List ℕ) → Kept m.states list seen count → Turned m list count j 0 list seen count
  unfolding expand
  turned_none seen k = record { found = refl; kept = k }

  pub turned_more : (s : ℕ) (list₁ seen₁ : List ℕ) (r₁ : ℕ) (list₂ seen₂ : List ℕ) (r₂ x : ℕ) → Turned m list count j s list₁ seen₁ r₁ → x ≡ m.target j s
      → Visited m.states list₁ r₁ x list₂ seen₂ r₂ → Turned m list count j (s + 1) list₂ seen₂ r₂
  unfolding expand
  turned_more s list₁ seen₁ r₁ list₂ seen₂ r₂ x t e v =
      record {
        found = v.found ∙ ap (λ z. add_by eqb z x) t.found ∙ ap (add_by eqb (expand eqb m.target j s (take count list))) e
            ∙ sym (ap (λ z. expand eqb m.target j z (take count list)) (add-one s));
        kept = v.kept;
      }

-- the states of the list are numbers below n
pub kept-state : (n : ℕ) (list seen : List ℕ) (count : ℕ) → Kept n list seen count → (i : ℕ) → i < count → get_or list i 0 < n
kept-state n list seen count k i h =
    let a = k.few in
    rw (get_or-take count list i 0 h) at
    (k.states (get_or (take count list) i 0) (mem-at (take count list) i 0 (omega (arith, length-take-le count list (omega (arith, k.wide))))))

pub kept-all : (n : ℕ) (list seen : List ℕ) (count : ℕ) → Kept n list seen count → All (λ s. s < n) (take count list)
kept-all n list seen count k =
    All-from_get_or (λ s. s < n) (take count list) 0 (λ i h. k.states (get_or (take count list) i 0) (mem-at (take count list) i 0 h))

module _ (m : Machine) where
  -- the states found after i turns
  abbrev pub found_at : ℕ → List ℕ
  found_at i = discover eqb m.target m.symbols 0 i

  module _ (list seen : List ℕ) (count : ℕ) (k : Kept m.states list seen count) (i : ℕ) (e : take count list ≡ found_at i) where
    found-count : length (found_at i) ≡ count
    found-count = sym (ap length e) ∙ length-take-le count list (let a = k.few in omega (arith, k.wide))

    module _ (h : i < count) (j : ℕ) (j-is : j ≡ get_or list i 0) (list' seen' : List ℕ) (r : ℕ) (t : Turned m list count j m.symbols list' seen' r) where
      pub found-more : take r list' ≡ found_at (i + 1)
      found-more =
          t.found
          ∙ ap (expand eqb m.target j m.symbols) e
          ∙ ap (λ z. expand eqb m.target z m.symbols (found_at i)) (j-is ∙ sym (get_or-take count list i 0 h) ∙ ap (λ z. get_or z i 0) e)
          ∙ sym (discover-next eqb eqb-exact m.target m.symbols 0 i (omega (arith, found-count)))
          ∙ sym (ap found_at (add-one i))

      pub found-grows : count ≤ r
      found-grows =
          let x : Extends (take count list) (expand eqb m.target j m.symbols (take count list)) =
          expand-extends eqb eqb-exact m.target j m.symbols (take count list) in
          let a = t.kept.few in
          let b = k.few in
          omega (
            arith,
            ap length t.found,
            ap length x.joined,
            length-append (take count list) x.more,
            length-take-le count list (omega (arith, k.wide)),
            length-take-le r list' (omega (arith, t.kept.wide)),
          )

    pub found_all : i ≤ m.states → count ≤ i → take count list ≡ found_states m
    found_all a b =
        let d : i + (m.states - i) ≡ m.states = omega arith in
        e ∙ sym (discover-done eqb eqb-exact m.target m.symbols 0 i (m.states - i) (omega (arith, found-count))) ∙ ap found_at d

  -- state 0 alone
  module _ (h : 0 < m.states) (list : List ℕ) (l : length list ≡ m.states) where
    begin-list : take 1 (set list 0 0) ≡ 0 ∷ []
    begin-list = take-suc-set list 0 0 (omega arith)

    pub found-begin : take 1 (set list 0 0) ≡ found_at 0
    unfolding discover
    found-begin = begin-list

    pub kept-begin : (seen : List ℕ) → seen ≡ replicate m.states 0 → Kept m.states (set list 0 0) (set seen 0 1) 1
    kept-begin seen e =
        record {
          wide = length-set list 0 0 ∙ l;
          marks = length-set seen 0 1 ∙ zeros;
          few = h;
          distinct = rw begin-list (refl, tt);
          states = rw begin-list (λ x i. rw (Memᴰ.eq_of_singleton i) h);
          marked = λ x a. rw begin-list (at x a (ℕ_discrete x 0));
        }
      where
        zeros : length seen ≡ m.states
        zeros = ap length e ∙ length-replicate m.states 0

        at : (x : ℕ) → x < m.states → Dec (x ≡ 0) → get_or (set seen 0 1) x 0 ≡ cond (member_by eqb x (0 ∷ [])) 1 0
        at x a (yes d) = rw d (get_or-set_same seen 0 1 0 (omega (arith, zeros)))
        at x a (no d) =
            rw (ne_eqb x 0 d) (get_or-set_other seen 0 x 1 0 d ∙ ap (λ z. get_or z x 0) e ∙ get_or-replicate m.states x 0 0 a)

-- a state of the list has a class, as a test of each of them says it
pub found-any : (p l : List ℕ) (c : ℕ) → list_any (λ s. eqb (class_of p s) c) l ≡ class_found p l c
found-any p l c = same_test (list_any f l) (class_found p l c) (λ t. lt-ltb _ _ (at t)) (λ t. list_any_at f l z 0 (ltb-true _ _ t) ((seek-sought (found_class p l c) 0 (length l)).passes (omega (arith, ltb-true _ _ t))))
  where
    f : ℕ → Bool
    f s = eqb (class_of p s) c

    z : ℕ
    z = seek (found_class p l c) 0 (length l)

    at : list_any f l ≡ true → z < length l
    at t = let y = any-yes f l 0 (sym (any-list f l) ∙ t) in (seek_found (found_class p l c) (length l) y.0 y.1 y.2).0
