-- The claims of specs/Claims.antt, proved.
use Prim.Native.Nat.{ℕ, zero, suc, ◌-◌, ◌/◌, ◌%◌, ◌^◌, ◌≤◌, ◌<◌}
use mathlib.Core.Path.{◌≡◌, refl, sym, ap, ap₂, ◌∙◌}
use mathlib.Core.Logic.{◌⊎◌, inl, inr}
use mathlib.Core.Bool.{Bool, true, false, cond, ◌||◌, true≢false}
use mathlib.Core.List.{List, []}
use lib.Dec.{eqb, ltb}
use lib.ListN.{length, take, length-map, replicate}
use lib.Seq.{take-append_seam}
use borrow.Author.Tests.{eq-eqb, ne_eqb, eqb-true, lt-ltb, le-ltb}
use native.Mathlib.Omega.{arith}
use native.Mathlib.Nat.{zero-div}
use native.Mathlib.Decide.{dec_lt, ℕ_discrete}
use Rattle.base_numbers.specs.Numbers.{most_signals}
use Rattle.base_lists.proofs.Lists.{eqb-exact, mem-at, member_of, index-member}
use Rattle.base_lists.specs.Lists.{index_by}
use Rattle.base_lists.proofs.Bools.{by_test}
use Rattle.base_lists.specs.Cuts.{past, up_to}
use Rattle.base_lists.specs.Tests.{all, any}
use Rattle.base_text.specs.Text.{fields, on_first}
use Rattle.theory_resolution.specs.Table.{Urn, urn, Table}
use Rattle.theory_resolution.specs.Nodes.{same_urn, nodes, node_at, is_node}
use Rattle.theory_resolution.specs.Direct.{Env, State}
use Rattle.theory_resolution.specs.Available.{counts, env_available}
use Rattle.theory_resolution.proofs.Nodes.{urn-exact, node-to}
use Rattle.theory_resolution.proofs.Available.{available-all}
use Rattle.theory_kept.specs.Decision.{any_mark, reachable, marks_to, keeps, shown, can_ring}
use Rattle.theory_kept.specs.Laws.{DecisionLaw, RingLaw}
use Rattle.theory_kept.proofs.Theorems.{available-decision, available-rings}
use Rattle.table_kept.specs.Marks.{numbers_of}
use Rattle.table_kept.specs.Held.{padded}
use Rattle.urn_names.specs.Names.{label_byte, label_ok, name_ok}
use Rattle.urn_names.specs.Urn.{no_capital, stored_name, urn_ok}
use Rattle.table_sections.specs.Stored.{and_then, byte_in, counted, stored, stored_from, text, times}
use Rattle.table_decode.specs.Tables.{table_refusal, table_read, table_of}
use Rattle.table_decode.specs.Examples.{least}
use Rattle.table_decode.proofs.Accepting.{accepted}
use Rattle.table_decode.proofs.RefusalNumbers.{refusal-numbers}
use Rattle.table_decode.proofs.Examples.{least-formed, each_number}
use Rattle.resolve_available.specs.Available.{has_bit, known}
use Rattle.resolve_available.specs.Claims.{Strange}
use Rattle.resolve_available.proofs.BitLaws.{strange-bit, bit-strange}
use Rattle.table_kept.specs.declared.kept.Kept.{Kept}
use Rattle.table_kept.specs.declared.rung.Rung.{Rung}
use Rattle.table_kept.specs.Answers.{refused_kept, kept_answer, lost_answer, kept_in, kept_answer_of, refused_rung, rung_answer, rung_in, rung_of}
use Rattle.table_kept.specs.Claims.{ring_of, KeptClaim, AllKept, AllSignals, RingClaim, AllRings, AllRefused}
use Rattle.table_kept.specs.Claims.{KeptNumber, RungNumber, OnlyNumbers, EachNumber}

-- the front of a padded list
pub front : (ns : List ℕ) → take (length ns) (padded ns) ≡ ns
front ns = take-append_seam ns (replicate (most_signals - length ns) 0)

-- the two answers, by their tests
module _ (t : List ℕ) (set : ℕ) where
  abbrev T : Table
  T = table_of t

  abbrev on : ℕ → Bool
  on = has_bit set

  abbrev env : Env
  env = env_available T on

  abbrev signals : ℕ
  signals = length T.signals

  abbrev no_node : ℕ → Bool
  no_node d = eqb d 0 || ltb (length (nodes T)) d

  kept-refused : (d : ℕ) → (table_refusal t ≡ 0 → ⊥) → kept_answer_of t set d ≡ refused_kept (table_refusal t)
  unfolding kept_answer_of
  kept-refused d n = rw (ne_eqb (table_refusal t) 0 n) refl

  rung-refused : (s : ℕ) → (table_refusal t ≡ 0 → ⊥) → rung_of t set s ≡ refused_rung (table_refusal t)
  unfolding rung_of
  rung-refused s n = rw (ne_eqb (table_refusal t) 0 n) refl

  module _ (formed : table_refusal t ≡ 0) where
    kept_set : (d : ℕ) (b : Bool) → known set signals ≡ b
        → kept_answer_of t set d ≡ cond b (cond (no_node d) (refused_kept 30) (kept_in T on (node_at (nodes T) (d - 1)))) (refused_kept 23)
    unfolding kept_answer_of
    kept_set d b e = rw (eq-eqb (table_refusal t) 0 formed)
        (ap (λ x. cond x (cond (no_node d) (refused_kept 30) (kept_in T on (node_at (nodes T) (d - 1)))) (refused_kept 23)) e)

    rung-set : (s : ℕ) (b : Bool) → known set signals ≡ b → rung_of t set s ≡ cond b (cond (ltb s signals) (rung_in T on s) (refused_rung 31)) (refused_rung 23)
    unfolding rung_of
    rung-set s b e = rw (eq-eqb (table_refusal t) 0 formed) (ap (λ x. cond x (cond (ltb s signals) (rung_in T on s) (refused_rung 31)) (refused_rung 23)) e)

    strange : Strange t set → known set signals ≡ false
    strange w = bit-strange set signals w.0 w.1 w.2

    fit : (Strange t set → ⊥) → known set signals ≡ true
    fit n = by_test (known set signals) (λ k. k) (λ k. absurd (n (strange-bit set signals k)))

    kept-number : (Strange t set → ⊥) → (d : ℕ) (b : Bool) → no_node d ≡ b → kept_answer_of t set d ≡ cond b (refused_kept 30) (kept_in T on (node_at (nodes T) (d - 1)))
    kept-number n d b e = kept_set d true (fit n) ∙ ap (λ x. cond x (refused_kept 30) (kept_in T on (node_at (nodes T) (d - 1)))) e

    rung-number : (Strange t set → ⊥) → (s : ℕ) (b : Bool) → ltb s signals ≡ b → rung_of t set s ≡ cond b (rung_in T on s) (refused_rung 31)
    rung-number n s b e = rung-set s true (fit n) ∙ ap (λ x. cond x (rung_in T on s) (refused_rung 31)) e

    no-node : (d : ℕ) → (d ≡ 0) ⊎ (length (nodes T) < d) → no_node d ≡ true
    no-node d (inl z) = ap (λ b. b || ltb (length (nodes T)) d) (eq-eqb d 0 z)
    no-node d (inr h) = ap₂ ◌||◌ (ne_eqb d 0 (λ z. omega arith)) (lt-ltb (length (nodes T)) d h)

    -- the node with index k
    module _ (none : Strange t set → ⊥) (k : ℕ) (h : k < length (nodes T)) where
      abbrev u : Urn
      u = node_at (nodes T) k

      node : is_node (nodes T) u.cat u.path ≡ true
      node = member_of same_urn urn-exact u (nodes T) (mem-at (nodes T) k (urn 0 []) h)

      its-category : u.cat < T.cats
      its-category =
          let n = node-to T u.cat u.path node in
          omega (arith, (accepted t formed).known n.signal n.listed n.by n.named, n.cat)

      law : DecisionLaw T env (ring_of t set) u.cat u.path
      law = available-decision T (accepted t formed).well on u.cat u.path its-category node

      abbrev us : List Urn
      us = shown T env u.cat u.path

      pub answer : (b : Bool) → keeps T env u.cat u.path ≡ b → kept_answer_of t set (suc k) ≡ cond b kept_answer (lost_answer (ring_of t set us) (numbers_of T us))
      unfolding kept_in
      answer b e =
          let z : suc k - 1 ≡ k = omega arith in
          kept-number none (suc k) false (ap₂ ◌||◌ (ne_eqb (suc k) 0 (λ i. omega arith)) (le-ltb (length (nodes T)) (suc k) (omega arith)))
          ∙ ap (λ j. kept_in T on (node_at (nodes T) j)) z
          ∙ ap (λ x. cond x kept_answer (lost_answer (ring_of t set us) (numbers_of T us))) e

      kept-claim : KeptClaim t set k
      unfolding lost_answer
      kept-claim = go (keeps T env u.cat u.path) refl
        where
          go : (b : Bool) → keeps T env u.cat u.path ≡ b → KeptClaim t set k
          go true e =
              let a : kept_answer_of t set (suc k) ≡ kept_answer = answer true e in
              record {
                accepted = ap (λ (r : Kept). r.refusal) a;
                kept_of = λ x. law.kept_of e;
                of-kept = λ x. ap (λ (r : Kept). r.kept) a;
                lost = λ n. absurd (n (ap (λ (r : Kept). r.kept) a));
              }
          go false e =
              let a : kept_answer_of t set (suc k) ≡ lost_answer (ring_of t set us) (numbers_of T us) = answer false e in
              record {
                accepted = ap (λ (r : Kept). r.refusal) a;
                kept_of = λ x. absurd (omega (arith, x, ap (λ (r : Kept). r.kept) a));
                of-kept = λ x. absurd (true≢false (sym (law.of-kept x) ∙ e));
                lost = λ n. (
                  ap (λ (r : Kept). r.kept) a,
                  record {
                    list = us;
                    counted = ap (λ (r : Kept). r.len) a ∙ length-map us _;
                    numbers = ap (λ (r : Kept). take r.len r.marks) a ∙ front (numbers_of T us);
                    of-nodes = law.of-nodes e;
                    rings = sym (ap (λ (r : Kept). r.rings) a);
                    lost = law.lost-of e;
                    shortest = law.shortest;
                  },
                );
              }

    -- signal s
    module _ (none : Strange t set → ⊥) (s : ℕ) (h : s < signals) where
      rings : RingLaw T env (ring_of t set)
      rings = available-rings T (accepted t formed).well on

      abbrev list : List ℕ
      list = reachable T env any_mark

      ring-answer : (b : Bool) → can_ring T env s ≡ b
          → rung_of t set s ≡ cond b (rung_answer (numbers_of T (marks_to T env any_mark (index_by eqb s list)))) (refused_rung 0)
      unfolding rung_in
      ring-answer b e =
          rung-number none s true (lt-ltb s signals h)
          ∙ ap (λ x. cond x (rung_answer (numbers_of T (marks_to T env any_mark (index_by eqb s list)))) (refused_rung 0)) e

      ring-claim : RingClaim t set s
      unfolding rung_answer
      ring-claim = go (can_ring T env s) refl
        where
          go : (b : Bool) → can_ring T env s ≡ b → RingClaim t set s
          go true e =
              let vs = marks_to T env any_mark (index_by eqb s list) in
              let a : rung_of t set s ≡ rung_answer (numbers_of T vs) = ring-answer true e in
              let m = index-member eqb eqb-exact 0 s list e in
              record {
                accepted = ap (λ (r : Rung). r.refusal) a;
                rung-by = λ x.
                    record {
                      list = vs;
                      counted = ap (λ (r : Rung). r.len) a ∙ length-map vs _;
                      numbers = ap (λ (r : Rung). take r.len r.marks) a ∙ front (numbers_of T vs);
                      used = rings.shown-used (index_by eqb s list) m.0;
                      rings = rings.shown-rings (index_by eqb s list) m.0 ∙ m.1;
                      shortest = λ ws used r. rings.shortest (index_by eqb s list) m.0 ws used (r ∙ sym m.1);
                    };
                never = λ n. absurd (n (ap (λ (r : Rung). r.rings) a));
              }
          go false e =
              let a : rung_of t set s ≡ refused_rung 0 = ring-answer false e in
              record {
                accepted = ap (λ (r : Rung). r.refusal) a;
                rung-by = λ x. absurd (omega (arith, x, ap (λ (r : Rung). r.rings) a));
                never = λ n. (a, λ ws used r. true≢false (sym (rings.of-rings s (record { by = ws; used = used; rings = r })) ∙ e));
              }

pub all-kept : AllKept
all-kept t set formed none k h = kept-claim t set formed none k h

pub all-rings : AllRings
all-rings t set formed none s h = ring-claim t set formed none s h

pub all-signals : AllSignals
all-signals t set every us = ap (λ (st : State). st.signal) (available-all (table_of t) (has_bit set) on-all us)
  where
    on-all : (s : ℕ) → s < length (table_of t).signals → counts (has_bit set) s ≡ true
    on-all zero h = refl
    on-all (suc s) h = every (suc s) (omega arith) h

pub all-refused : AllRefused
all-refused t set d =
    record {
      table-first = kept-refused t set d;
      then-set = λ e w. kept_set t set e d false (strange t set e w);
      no-node = λ e n w. kept-number t set e n d true (no-node t set e d w);
      table-first-ring = rung-refused t set d;
      then-set-ring = λ e w. rung-set t set e d false (strange t set e w);
      no-signal = λ e n h. rung-number t set e n d false (le-ltb d (length (table_of t).signals) h);
    }

-- which numbers are given
kept-numbers : (t : List ℕ) (set d : ℕ) → KeptNumber (kept_answer_of t set d).refusal
kept-numbers t set d = by-table (refusal-numbers t)
  where
    number : Kept → ℕ
    number r = r.refusal

    formed : table_refusal t ≡ 0 → KeptNumber (kept_answer_of t set d).refusal
    formed e = by_test (known set (length (table_of t).signals)) inside (λ k. inr (inr (inl (ap number (kept_set t set e d false k)))))
      where
        inside : known set (length (table_of t).signals) ≡ true → KeptNumber (kept_answer_of t set d).refusal
        inside k = by (ℕ_discrete d 0) (dec_lt (length (nodes (table_of t))) d)
          where
            none : Strange t set → ⊥
            none w = true≢false (sym k ∙ bit-strange set (length (table_of t).signals) w.0 w.1 w.2)

            by : Dec (d ≡ 0) → Dec (length (nodes (table_of t)) < d) → KeptNumber (kept_answer_of t set d).refusal
            by (yes z) b = inr (inr (inr (ap number ((all-refused t set d).no-node e none (inl z)))))
            by (no z) (yes h) = inr (inr (inr (ap number ((all-refused t set d).no-node e none (inr h)))))
            by (no z) (no h) =
                let i : suc (d - 1) ≡ d = omega arith in
                inl (ap (λ j. (kept_answer_of t set j).refusal) (sym i) ∙ (all-kept t set e none (d - 1) (omega arith)).accepted)

    by-table : (table_refusal t ≡ 0) ⊎ ((4 ≤ table_refusal t) × (table_refusal t ≤ 12)) → KeptNumber (kept_answer_of t set d).refusal
    by-table (inl e) = formed e
    by-table (inr h) =
        let a : (kept_answer_of t set d).refusal ≡ table_refusal t = ap number (kept-refused t set d (λ z. omega (arith, z, h.0))) in
        inr (inl (omega (arith, a, h.0), omega (arith, a, h.1)))

rung-numbers : (t : List ℕ) (set s : ℕ) → RungNumber (rung_of t set s).refusal
rung-numbers t set s = by-table (refusal-numbers t)
  where
    number : Rung → ℕ
    number r = r.refusal

    formed : table_refusal t ≡ 0 → RungNumber (rung_of t set s).refusal
    formed e = by_test (known set (length (table_of t).signals)) inside (λ k. inr (inr (inl (ap number (rung-set t set e s false k)))))
      where
        inside : known set (length (table_of t).signals) ≡ true → RungNumber (rung_of t set s).refusal
        inside k = by (dec_lt s (length (table_of t).signals))
          where
            none : Strange t set → ⊥
            none w = true≢false (sym k ∙ bit-strange set (length (table_of t).signals) w.0 w.1 w.2)

            by : Dec (s < length (table_of t).signals) → RungNumber (rung_of t set s).refusal
            by (yes h) = inl (all-rings t set e none s h).accepted
            by (no h) = inr (inr (inr (ap number ((all-refused t set s).no-signal e none (omega arith)))))

    by-table : (table_refusal t ≡ 0) ⊎ ((4 ≤ table_refusal t) × (table_refusal t ≤ 12)) → RungNumber (rung_of t set s).refusal
    by-table (inl e) = formed e
    by-table (inr h) =
        let a : (rung_of t set s).refusal ≡ table_refusal t = ap number (rung-refused t set s (λ z. omega (arith, z, h.0))) in
        inr (inl (omega (arith, a, h.0), omega (arith, a, h.1)))

pub only-numbers : OnlyNumbers
only-numbers t set d = (kept-numbers t set d, rung-numbers t set d)

-- each of them is given
least-counts : (length (nodes (table_of least)) ≡ 1) × (length (table_of least).signals ≡ 2)
unfolding all fields label_byte label_ok name_ok on_first past up_to no_capital stored_name urn_ok and_then byte_in counted stored stored_from text
    times any table_read table_of nodes
least-counts = (refl, refl)

no_bits : Strange least 0 → ⊥
no_bits w =
    let z : 0 / 2 ^ w.0 ≡ 0 = zero-div (2 ^ w.0) in
    let b : 0 / 2 ^ w.0 % 2 ≡ 1 = eqb-true _ 1 w.2 in
    let e : 0 / 2 ^ w.0 % 2 ≡ 0 % 2 = ap (λ x. x % 2) z in
    omega (arith, b, e)

bit-2 : Strange least 4
bit-2 = (2, omega (arith, least-counts.1), refl)

pub each-given : EachNumber
each-given = record { kept = kept; rung = rung }
  where
    kept : (n : ℕ) → KeptNumber n → (t : List ℕ) × (set : ℕ) × (d : ℕ) × ((kept_answer_of t set d).refusal ≡ n)
    kept n (inl e) = (least, 0, 1, (all-kept least 0 least-formed no_bits 0 (omega (arith, least-counts.0))).accepted ∙ sym e)
    kept n (inr (inl h)) =
        let w = each_number n (inr h) in
        (w.0, 0, 1, ap (λ (r : Kept). r.refusal) (kept-refused w.0 0 1 (λ z. omega (arith, z, w.1, h.0))) ∙ w.1)
    kept n (inr (inr (inl e))) = (least, 4, 1, ap (λ (r : Kept). r.refusal) ((all-refused least 4 1).then-set least-formed bit-2) ∙ sym e)
    kept n (inr (inr (inr e))) = (least, 0, 0, ap (λ (r : Kept). r.refusal) ((all-refused least 0 0).no-node least-formed no_bits (inl refl)) ∙ sym e)

    rung : (n : ℕ) → RungNumber n → (t : List ℕ) × (set : ℕ) × (s : ℕ) × ((rung_of t set s).refusal ≡ n)
    rung n (inl e) = (least, 0, 1, (all-rings least 0 least-formed no_bits 1 (omega (arith, least-counts.1))).accepted ∙ sym e)
    rung n (inr (inl h)) =
        let w = each_number n (inr h) in
        (w.0, 0, 1, ap (λ (r : Rung). r.refusal) (rung-refused w.0 0 1 (λ z. omega (arith, z, w.1, h.0))) ∙ w.1)
    rung n (inr (inr (inl e))) = (least, 4, 1, ap (λ (r : Rung). r.refusal) ((all-refused least 4 1).then-set-ring least-formed bit-2) ∙ sym e)
    rung n (inr (inr (inr e))) = (
      least,
      0,
      2,
      ap (λ (r : Rung). r.refusal) ((all-refused least 0 2).no-signal least-formed no_bits (omega (arith, least-counts.1))) ∙ sym e,
    )
