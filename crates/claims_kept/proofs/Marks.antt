-- The claims of specs/Marks.antt, proved.
use Prim.Native.Nat.{ℕ, suc, ◌+◌, ◌*◌, ◌-◌, ◌≤◌, ◌<◌}
use mathlib.Core.Path.{◌≡◌, refl, sym, ap, ap₂, subst, ◌∙◌}
use mathlib.Core.Logic.{inl, inr}
use mathlib.Core.Bool.{Bool, true, false, cond}
use mathlib.Core.List.{List, [], ◌∷◌, map, append-nil, Memᴰ}
use lib.Dec.{eqb}
use lib.ListN.{length, take}
use borrow.Author.Tests.{eq-eqb, eqb-false}
use native.Mathlib.Omega.{arith}
use native.Mathlib.Decide.{dec_lt, ℕ_discrete}
use Rattle.base_lists.proofs.Lists.{mem-at, member_of}
use Rattle.base_lists.proofs.Bools.{by_test}
use Rattle.theory_resolution.specs.Names.{Parts, Above}
use Rattle.theory_resolution.specs.Table.{Urn, urn, Table}
use Rattle.theory_resolution.specs.Direct.{Env, AllUsed}
use Rattle.theory_resolution.specs.Nodes.{same_urn, nodes, node_at, is_node}
use Rattle.theory_resolution.specs.Available.{env_available}
use Rattle.theory_resolution.specs.Says.{Given}
use Rattle.theory_resolution.proofs.Nodes.{urn-exact, node-to}
use Rattle.theory_resolution.proofs.Numbers.{number-node}
use Rattle.theory_kept.specs.Kept.{EachUsed, OneWay, rung}
use Rattle.theory_kept.specs.Decision.{keeps, shown}
use Rattle.theory_kept.specs.Weight.{weight, weight_all}
use Rattle.theory_kept.specs.Laws.{DecisionLaw, WeightLaw}
use Rattle.theory_kept.proofs.Theorems.{available-decision, available-weight}
use Rattle.table_kept.specs.Marks.{numbers_of}
use Rattle.value_reader.specs.Value.{uris_of}
use Rattle.table_decode.specs.Tables.{table_refusal, table_of}
use Rattle.table_decode.proofs.Accepting.{accepted}
use Rattle.machine_image.specs.Refusals as image
use Rattle.machine_image.proofs.Walk.{image-claim}
use Rattle.machine_library.specs.Built.{check_from}
use Rattle.resolve_run.specs.declared.Resolution.{Resolution}
use Rattle.resolve_run.specs.Answers.{number_of}
use Rattle.resolve_run.proofs.AnswerLaws.{unless-number}
use Rattle.resolve_run.proofs.TakenLaws.{taken-used}
use Rattle.resolve_available.specs.Available.{has_bit, available_of}
use Rattle.resolve_available.specs.Claims.{Strange}
use Rattle.resolve_available.proofs.Claims.{answer-claim}
use Rattle.resolve_small.specs.Resolve.{resolved_over}
use Rattle.resolve_library.specs.Resolve.{taken_as, refused, answered, direct_signal, walked_signal, plain_of, machine_of}
use Rattle.table_kept.specs.declared.kept.Kept.{Kept}
use Rattle.table_kept.specs.Answers.{refused_kept, lost_answer, kept_answer_of}
use Rattle.table_kept.specs.Claims.{mark_at, ring_of, Keeps, Loses, ShownLoss, KeptClaim}
use Rattle.table_kept.proofs.Claims.{front, answer, all-kept, all-signals, all-refused}
use Rattle.claims_kept.specs.Marks.{used_in, SaysNode, EveryKept, shown_urns, EveryLost}

-- a question that is not refused: of a well-formed table, a set of its signals and one of its nodes
record Answered (t : List ℕ) (set d : ℕ) : Type 0 where
  formed : table_refusal t ≡ 0
  fit : Strange t set → ⊥
  own : suc (d - 1) ≡ d
  low : d - 1 < length (nodes (table_of t))

-- what no refused answer has is of such a question
module _ (t : List ℕ) (set d : ℕ) (P : Kept → Type 0) (refute : (n : ℕ) → (n ≡ 0 → ⊥) → P (refused_kept n) → ⊥) (p : P (kept_answer_of t set d)) where
  not-refused : (n : ℕ) → (n ≡ 0 → ⊥) → kept_answer_of t set d ≡ refused_kept n → ⊥
  not-refused n z e = refute n z (subst P e p)

  answered-of : Answered t set d
  answered-of = by-table (ℕ_discrete (table_refusal t) 0)
    where
      by-table : Dec (table_refusal t ≡ 0) → Answered t set d
      by-table (no n) = absurd (not-refused (table_refusal t) n ((all-refused t set d).table-first n))
      by-table (yes e) = by-node (ℕ_discrete d 0) (dec_lt (length (nodes (table_of t))) d)
        where
          fits : Strange t set → ⊥
          fits w = not-refused 23 (λ z. omega (arith, z)) ((all-refused t set d).then-set e w)

          by-node : Dec (d ≡ 0) → Dec (length (nodes (table_of t)) < d) → Answered t set d
          by-node (yes z) b = absurd (not-refused 30 (λ y. omega (arith, y)) ((all-refused t set d).no-node e fits (inl z)))
          by-node (no z) (yes h) = absurd (not-refused 30 (λ y. omega (arith, y)) ((all-refused t set d).no-node e fits (inr h)))
          by-node (no z) (no h) = record { formed = e; fit = fits; own = omega arith; low = omega arith }

-- the claim of the library for such a question
module _ (t : List ℕ) (set d : ℕ) (a : Answered t set d) where
  claim : KeptClaim t set (d - 1)
  claim = all-kept t set a.formed a.fit (d - 1) a.low

  same_answer : kept_answer_of t set (suc (d - 1)) ≡ kept_answer_of t set d
  same_answer = ap (kept_answer_of t set) a.own

-- what an accepted value rings
module _ (t v : List ℕ) where
  used : EachUsed (table_of t) (used_in t v)
  used = taken-used t (uris_of v)

  available-rings : (set : ℕ) → (Strange t set → ⊥) → (available_of t set v).refusal ≡ 0 → (available_of t set v).signal ≡ ring_of t set (used_in t v)
  available-rings set fit e = go (ℕ_discrete (number_of t v) 0)
    where
      go : Dec (number_of t v ≡ 0) → (available_of t set v).signal ≡ ring_of t set (used_in t v)
      go (yes z) = ap (λ (r : Resolution). r.signal) ((answer-claim t set v).given z fit)
      go (no n) = absurd (n (sym (ap (λ (r : Resolution). r.refusal) ((answer-claim t set v).first n)) ∙ e))

  -- an answer that is not refused is the one for an accepted value
  by_number : (r : Resolution) {x : Resolution} → x ≡ cond (eqb (number_of t v) 0) r (refused (number_of t v)) → x.refusal ≡ 0 → x ≡ r
  by_number r {x} e z =
      by_test (eqb (number_of t v) 0) (λ q. e ∙ ap (λ b. cond b r (refused (number_of t v))) q)
      (λ q. absurd (eqb-false (number_of t v) 0 q (sym (ap (λ (y : Resolution). y.refusal) (e ∙ ap (λ b. cond b r (refused (number_of t v))) q)) ∙ z)))

  plain-rings : (plain_of t v).refusal ≡ 0 → (plain_of t v).signal ≡ rung (table_of t) (used_in t v)
  unfolding plain_of
  plain-rings z =
      ap (λ (r : Resolution). r.signal)
      (by_number (answered t (uris_of v) (direct_signal t (uris_of v))) (unless-number t v (answered t (uris_of v) (direct_signal t (uris_of v)))) z)

  module _ (formed : table_refusal t ≡ 0) (im : List ℕ) (ok : check_from t im ≡ 0) where
    check-image : check_from t im ≡ image.check_of (table_of t) im
    unfolding check_from
    check-image = rw (eq-eqb (table_refusal t) 0 formed) refl

    walk-rings : walked_signal t im (uris_of v) ≡ rung (table_of t) (used_in t v)
    walk-rings =
        (image-claim (table_of t) (accepted t formed).well im (sym check-image ∙ ok) (taken_as t (uris_of v)) []
        (subst (AllUsed (table_of t)) (sym (append-nil (taken_as t (uris_of v)))) (taken-used t (uris_of v)))).agrees

    abbrev walked : Bool → Resolution
    walked b = cond b (answered t (uris_of v) (walked_signal t im (uris_of v))) (refused 15)

    machine-rings : (machine_of t im v).refusal ≡ 0 → (machine_of t im v).signal ≡ rung (table_of t) (used_in t v)
    unfolding resolved_over
    machine-rings z = by_form (image.form_of (table_of t) im)
        (by_number (walked (image.form_of (table_of t) im)) (unless-number t v (walked (image.form_of (table_of t) im))) z) z
      where
        by_form : (b : Bool) → {x : Resolution} → x ≡ walked b → x.refusal ≡ 0 → x.signal ≡ rung (table_of t) (used_in t v)
        by_form true e y = ap (λ (r : Resolution). r.signal) e ∙ walk-rings
        by_form false e y = absurd (omega (arith, y, ap (λ (r : Resolution). r.refusal) e))

-- one signal for another
said : (t : List ℕ) (d : ℕ) {r s : ℕ} → r ≡ s → SaysNode t s d → SaysNode t r d
said t d e h = subst (λ (x : ℕ). SaysNode t x d) (sym e) h

pub every-kept : EveryKept
every-kept t set d e v =
    record {
      available = λ z g. said t d (available-rings t v set a.fit z) (kept (used_in t v) (used t v) g.one_way g.given);
      plain = λ every z g. said t d (plain-rings t v z ∙ sym (all-signals t set every (used_in t v))) (kept (used_in t v) (used t v) g.one_way g.given);
      machine = λ every im ok z g.
          said t d (machine-rings t v a.formed im ok z ∙ sym (all-signals t set every (used_in t v))) (kept (used_in t v) (used t v) g.one_way g.given);
    }
  where
    a : Answered t set d
    a = answered-of t set d (λ r. r.kept ≡ 1) (λ n z y. omega (arith, y)) e

    kept : Keeps t set (d - 1)
    kept = (claim t set d a).kept_of (ap (λ (r : Kept). r.kept) (same_answer t set d a) ∙ e)

-- nodes are told by their numbers
by-numbers : (T : Table) (us : List Urn) → ((u : Urn) → Memᴰ u us → is_node (nodes T) u.cat u.path ≡ true)
    → map (λ n. node_at (nodes T) (n - 1)) (numbers_of T us) ≡ us
by-numbers T [] h = refl
by-numbers T (u ∷ us) h =
    let w = number-node (nodes T) u.cat u.path (h u (Memᴰ.head refl)) in
    let z : suc w.0 - 1 ≡ w.0 = omega arith in
    ap₂ (λ x l. x ∷ l) (ap (λ n. node_at (nodes T) (n - 1)) w.2 ∙ ap (node_at (nodes T)) z ∙ w.3) (by-numbers T us (λ x m. h x (Memᴰ.tail m)))

-- what is known of the list shown
pub record ShownList (t : List ℕ) (set d : ℕ) : Type 0 where
  pub formed : table_refusal t ≡ 0
  pub fit : Strange t set → ⊥
  pub lost : Loses t set (d - 1) (shown_urns t set d)
  pub rings : ring_of t set (shown_urns t set d) ≡ (kept_answer_of t set d).rings
  pub of-nodes : (u : Urn) → Memᴰ u (shown_urns t set d) → is_node (nodes (table_of t)) u.cat u.path ≡ true
  pub counted : length (shown_urns t set d) ≡ (kept_answer_of t set d).len
  pub few : length (shown_urns t set d) ≤ 32
  pub bounded : (w : Urn → ℕ) (most : ℕ) → ((c : ℕ) (q r : Parts) → Above q r → w (urn c q) ≤ w (urn c r))
      → ((u : Urn) → is_node (nodes (table_of t)) u.cat u.path ≡ true → w u ≤ most)
      → 3 * weight w (shown_urns t set d) ≤ weight_all w (table_of t).signals + 8 * most

pub shown-list : (t : List ℕ) (set d : ℕ) → (kept_answer_of t set d).refusal ≡ 0 → (kept_answer_of t set d).kept ≡ 0 → ShownList t set d
unfolding lost_answer
shown-list t set d e k =
    record {
      formed = a.formed;
      fit = a.fit;
      lost = subst (Loses t set (d - 1)) (sym list) s.lost;
      rings = ap (ring_of t set) list ∙ s.rings ∙ ap (λ (r : Kept). r.rings) (same_answer t set d a);
      of-nodes = λ u m. s.of-nodes u (subst (λ (l : List Urn). Memᴰ u l) list m);
      counted = ap length list ∙ sym s.counted ∙ ap (λ (r : Kept). r.len) (same_answer t set d a);
      few = omega (arith, ap length is-shown, law.few lost, (accepted t a.formed).few-signals);
      bounded = λ w most rises bound. rw is-shown (weighed.bounded w most rises bound lost);
    }
  where
    a : Answered t set d
    a = answered-of t set d (λ r. r.refusal ≡ 0) (λ n z y. z y) e

    T : Table
    T = table_of t

    env : Env
    env = env_available (table_of t) (has_bit set)

    u : Urn
    u = mark_at t (d - 1)

    not-kept : (kept_answer_of t set (suc (d - 1))).kept ≡ 1 → ⊥
    not-kept y = omega (arith, y, ap (λ (r : Kept). r.kept) (same_answer t set d a), k)

    s : ShownLoss t set (d - 1)
    s = ((claim t set d a).lost not-kept).1

    list : shown_urns t set d ≡ s.list
    list =
        ap (map (λ n. mark_at t (n - 1))) (ap (λ (r : Kept). take r.len r.marks) (sym (same_answer t set d a)) ∙ s.numbers)
        ∙ by-numbers (table_of t) s.list s.of-nodes

    node : is_node (nodes (table_of t)) u.cat u.path ≡ true
    node = member_of same_urn urn-exact u (nodes (table_of t)) (mem-at (nodes (table_of t)) (d - 1) (urn 0 []) a.low)

    its-category : u.cat < (table_of t).cats
    its-category =
        let n = node-to (table_of t) u.cat u.path node in
        omega (arith, (accepted t a.formed).known n.signal n.listed n.by n.named, n.cat)

    law : DecisionLaw (table_of t) (env_available (table_of t) (has_bit set)) (ring_of t set) u.cat u.path
    law = available-decision (table_of t) (accepted t a.formed).well (has_bit set) u.cat u.path its-category node

    lost : keeps T env u.cat u.path ≡ false
    lost = by_test (keeps T env u.cat u.path) (λ y. absurd (not-kept ((claim t set d a).of-kept (law.kept_of y)))) (λ y. y)

    -- the list shown is the theory's
    is-shown : shown_urns t set d ≡ shown T env u.cat u.path
    is-shown =
        ap (λ (r : Kept). map (λ n. mark_at t (n - 1)) (take r.len r.marks))
        (sym (same_answer t set d a) ∙ answer t set a.formed a.fit (d - 1) a.low false lost)
        ∙ ap (map (λ n. mark_at t (n - 1))) (front (numbers_of T (shown T env u.cat u.path)))
        ∙ by-numbers T (shown T env u.cat u.path) (law.of-nodes lost)

    weighed : WeightLaw T env u.cat u.path
    weighed = available-weight T (accepted t a.formed).well (has_bit set) u.cat u.path its-category node

pub every-lost : EveryLost
every-lost t set d e k v same =
    record {
      gives =
          record {
            given = subst (λ (l : List Urn). Given l (mark_at t (d - 1)).cat (mark_at t (d - 1)).path) (sym same) s.lost.given;
            one_way = subst (λ (l : List Urn). OneWay (mark_at t (d - 1)).cat l) (sym same) s.lost.one_way;
          };
      unsaid = λ h. s.lost.unsaid (said t d s.rings h);
      available = λ z. available-rings t v set s.fit z ∙ ap (ring_of t set) same ∙ s.rings;
      plain = λ every z. plain-rings t v z ∙ sym (all-signals t set every (used_in t v)) ∙ ap (ring_of t set) same ∙ s.rings;
    }
  where
    s : ShownList t set d
    s = shown-list t set d e k
