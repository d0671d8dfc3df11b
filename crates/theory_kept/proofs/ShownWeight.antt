-- What the list that shows a loss weighs. Along the way to the first signal at which p is lost no two marks in a row are of one category
-- (the first of them could be left out), so each signal says the last two marks; and each signal before it has a partner that says p besides.
use Prim.Native.Nat.{ℕ, ◌+◌, ◌*◌, ◌≤◌, ◌<◌}
use mathlib.Core.Path.{◌≡◌, refl, sym, ap, subst, ◌∙◌}
use mathlib.Core.Logic.{◌⊎◌, inl, inr, ◌≢◌}
use mathlib.Core.Bool.{Bool, true, false, not, true≢false, false≢true}
use mathlib.Core.Option.{Option, none, some, none-ne-some}
use mathlib.Core.List.Memᴰ
use mathlib.Core.List.{List, [], ◌∷◌, ◌++◌, map, map-append, Memᴰ}
use lib.Dec.{eqb}
use lib.ListN.{get_or, set, length, length-append, length-set}
use lib.Seq.{get_or-set_same, get_or-set_other, set-get_or, ext_get_or}
use borrow.Author.Tests.{eq-eqb}
use native.Mathlib.Omega.{arith}
use native.Mathlib.Decide.{ℕ_discrete}
use Rattle.base_lists.specs.Lists.{member_by, index_by, Distinct}
use Rattle.base_lists.proofs.Lists.{eqb-exact, mem-at, member_of, member-to, index_at}
use Rattle.theory_resolution.specs.Names.{Parts, proper_ancestor, Above}
use Rattle.theory_resolution.specs.Table.{Urn, urn, Table, Row, place_in, row_of, WellFormed}
use Rattle.theory_resolution.specs.Nodes.{same_urn, nodes, node_at, is_node}
use Rattle.theory_resolution.specs.Direct.{Env, env_by}
use Rattle.theory_resolution.proofs.Names.{above-self, above-trans, proper-to, proper-above}
use Rattle.theory_resolution.proofs.Table.{row-length, row-place}
use Rattle.theory_resolution.proofs.Nodes.{urn-exact, root-free}
use Rattle.theory_resolution.proofs.Step.{EnvLaws}
use Rattle.theory_kept.specs.Decision.{is_there, with_mark, may_precede, step_mark, reachable, marks_to, lacks, first_loss, keeps, shown}
use Rattle.theory_kept.specs.Weight.{weight, weight_all}
use Rattle.theory_kept.specs.Laws.{WeightLaw}
use Rattle.theory_kept.proofs.Way.{first-le, first_passes, first-least, by_first}
use Rattle.theory_kept.proofs.Paths.{proper-past}
use Rattle.theory_kept.proofs.Marks.{Live, led}
use Rattle.theory_kept.proofs.Weight.{weight-append, weight_of, weight-fits, one_place, two-places}
use Rattle.theory_kept.proofs.Kept.{precede-to, reachable-first, reachable-live}

-- what lies properly under q is not above it
not_back : (q v : Parts) → proper_ancestor q v ≡ true → Above v q → ⊥
not_back q v e a =
    let k = proper-to q v e in
    omega (arith, length-append q (k.0 ∷ k.1), ap length k.2, length-append v a.rest, ap length a.joined)

-- a list that has no x
no_member : (x : ℕ) (l : List ℕ) → (Memᴰ x l → ⊥) → member_by eqb x l ≡ false
no_member x l n = go (member_by eqb x l) refl
  where
    go : (b : Bool) → member_by eqb x l ≡ b → member_by eqb x l ≡ false
    go true e = absurd (n (member-to eqb eqb-exact x l e))
    go false e = e

module _ (t : Table) (wf : WellFormed t) (finder : Row → Option ℕ) (laws : EnvLaws (env_by t finder) t.cats (nodes t)) (live : finder (row_of t 0) ≡ some 0)
    (listed : (r : Row) (s : ℕ) → finder r ≡ some s → s < length t.signals) (c : ℕ) (p : Parts) (known : c < t.cats)
    (node : is_node (nodes t) c p ≡ true) where
  abbrev env : Env
  env = env_by t finder

  abbrev list : List ℕ
  list = reachable t env (may_precede c p)

  abbrev at : ℕ → ℕ
  at j = get_or list j 0

  -- the place of signal s in category d
  abbrev spot : ℕ → ℕ → Parts
  spot s d = get_or (row_of t s) d []

  some-part : p ≢ []
  some-part e = true≢false (sym node ∙ ap (is_node (nodes t) c) e ∙ root-free t c)

  wide : (s : ℕ) → length (row_of t s) ≡ t.cats
  wide s = row-length (get_or t.signals s []) 0 t.cats

  -- signal s after mark u at signal r
  record Gone (r : ℕ) (u : Urn) (s : ℕ) : Type 0 where
    allowed : may_precede c p u ≡ true
    in_table : u.cat < t.cats
    some-part : u.path ≢ []
    proper : proper_ancestor (spot r u.cat) u.path ≡ true
    found : finder (set (row_of t r) u.cat u.path) ≡ some s

  module _ {r : ℕ} {u : Urn} {s : ℕ} (g : Gone r u s) where
    its-row : row_of t s ≡ set (row_of t r) u.cat u.path
    its-row = laws.sound (set (row_of t r) u.cat u.path) s g.found

    at_mark : spot s u.cat ≡ u.path
    at_mark = ap (λ (x : Row). get_or x u.cat []) its-row ∙ get_or-set_same (row_of t r) u.cat u.path [] (rw (wide r) g.in_table)

    elsewhere : (d : ℕ) → d ≢ u.cat → spot s d ≡ spot r d
    elsewhere d n = ap (λ (x : Row). get_or x d []) its-row ∙ get_or-set_other (row_of t r) u.cat d u.path [] n

    grown : (d : ℕ) → Above (spot r d) (spot s d)
    grown d = go (ℕ_discrete d u.cat)
      where
        go : Dec (d ≡ u.cat) → Above (spot r d) (spot s d)
        go (yes e) = subst (λ (k : ℕ). Above (spot r k) (spot s k)) (sym e) (rw at_mark (proper-above (spot r u.cat) u.path g.proper))
        go (no n) = rw (elsewhere d n) (above-self (spot r d))

    -- where s does not say p, r did not
    unsaid : spot s c ≢ p → spot r c ≢ p
    unsaid n e = go (ℕ_discrete u.cat c)
      where
        go : Dec (u.cat ≡ c) → ⊥
        go (yes i) =
            not_back (spot r c) u.path (subst (λ (k : ℕ). proper_ancestor (spot r k) u.path ≡ true) i g.proper)
            (rw e (precede-to c p u g.allowed i))
        go (no i) = n (elsewhere c (λ z. i (sym z)) ∙ e)

  live_at : (j : ℕ) → j < length list → Live t finder laws (at j)
  live_at j h = reachable-live t wf finder laws live listed (may_precede c p) (at j) (mem-at list j 0 h)

  apart : (a j : ℕ) → a < j → j < length list → at j ≢ at a
  apart a j i b e =
      let d = (reachable-first t wf finder laws live listed (may_precede c p)).distinct in
      omega (arith, sym (index_at eqb eqb-exact 0 list d j b) ∙ ap (λ s. index_by eqb s list) e ∙ index_at eqb eqb-exact 0 list d a (omega arith))

  -- a mark that leads to another signal
  gone : (r k s : ℕ) → Live t finder laws r → step_mark t env (may_precede c p) r k ≡ s → s ≢ r → Gone r (node_at (nodes t) k) s
  gone r k s l e n = by (may_precede c p u) refl (proper_ancestor (spot r u.cat) u.path) refl (finder (set (row_of t r) u.cat u.path)) refl
    where
      u : Urn
      u = node_at (nodes t) k

      moves : step_mark t env (may_precede c p) r k ≢ r
      moves i = n (sym e ∙ i)

      by : (b : Bool) → may_precede c p u ≡ b → (d : Bool) → proper_ancestor (spot r u.cat) u.path ≡ d → (o : Option ℕ)
          → finder (set (row_of t r) u.cat u.path) ≡ o → Gone r u s
      by false a d b o f = absurd (moves (rw a))
      by true a false b o f = absurd (moves (rw (a, b)))
      by true a true b none f = absurd (moves (rw (a, b, f)))
      by true a true b (some x) f =
          let w = led t finder laws (may_precede c p) r k l moves in
          record { allowed = a; in_table = w.known; some-part = w.some-part; proper = b; found = f ∙ ap some (rw (a, b, f) at e) }

  -- and such a mark is given by its node
  step_of : (r k s : ℕ) → Gone r (node_at (nodes t) k) s → step_mark t env (may_precede c p) r k ≡ s
  step_of r k s g = rw (g.allowed, g.proper, g.found)

  -- two marks of one category, in a row: the second leads there alone
  skips : (q r s : ℕ) (u v : Urn) → Gone q u r → Gone r v s → u.cat ≡ v.cat → Gone q v s
  skips q r s u v g h e =
      record {
        allowed = h.allowed;
        in_table = h.in_table;
        some-part = h.some-part;
        proper = proper-past (spot q v.cat) u.path v.path (subst (λ (k : ℕ). proper_ancestor (spot q k) u.path ≡ true) e g.proper) up;
        found = ap finder same ∙ h.found;
      }
    where
      here : spot r v.cat ≡ u.path
      here = subst (λ (k : ℕ). spot r k ≡ u.path) e (at_mark g)

      up : Above u.path v.path
      up = rw here at (proper-above (spot r v.cat) v.path h.proper)

      same : set (row_of t q) v.cat v.path ≡ set (row_of t r) v.cat v.path
      same = ext_get_or [] _ _ (length-set (row_of t q) v.cat v.path ∙ wide q ∙ sym (length-set (row_of t r) v.cat v.path ∙ wide r))
          (λ d i. each d (ℕ_discrete d v.cat))
        where
          each : (d : ℕ) → Dec (d ≡ v.cat) → get_or (set (row_of t q) v.cat v.path) d [] ≡ get_or (set (row_of t r) v.cat v.path) d []
          each d (yes i) =
              subst (λ (k : ℕ). get_or (set (row_of t q) v.cat v.path) k [] ≡ get_or (set (row_of t r) v.cat v.path) k []) (sym i)
              (get_or-set_same (row_of t q) v.cat v.path [] (rw (wide q) h.in_table)
              ∙ sym (get_or-set_same (row_of t r) v.cat v.path [] (rw (wide r) h.in_table)))
          each d (no n) =
              get_or-set_other (row_of t q) v.cat d v.path [] n ∙ sym (elsewhere g d (λ z. n (z ∙ e)))
              ∙ sym (get_or-set_other (row_of t r) v.cat d v.path [] n)

  -- x stands before s on the way, or is the partner of a signal that does
  record Older (x s : ℕ) : Type 0 where
    others : (d : ℕ) → d ≢ c → Above (spot x d) (spot s d)
    own : (spot x c ≡ p) ⊎ Above (spot x c) (spot s c)

  older-next : {r : ℕ} {u : Urn} {s : ℕ} → Gone r u s → (x : ℕ) → Older x r → Older x s
  older-next {r} {u} {s} g x o = record { others = λ d n. above-trans (o.others d n) (grown g d); own = go o.own }
    where
      go : (spot x c ≡ p) ⊎ Above (spot x c) (spot r c) → (spot x c ≡ p) ⊎ Above (spot x c) (spot s c)
      go (inl e) = inl e
      go (inr a) = inr (above-trans a (grown g c))

  older-self : (s : ℕ) → Older s s
  older-self s = record { others = λ d n. above-self (spot s d); own = inr (above-self (spot s c)) }

  -- the signal after one more mark is new
  new-signal : {r : ℕ} {u : Urn} {s : ℕ} → Gone r u s → spot s c ≢ p → Older s r → ⊥
  new-signal {r} {u} {s} g n o = go (ℕ_discrete u.cat c) o.own
    where
      go : Dec (u.cat ≡ c) → (spot s c ≡ p) ⊎ Above (spot s c) (spot r c) → ⊥
      go (yes e) (inl i) = n i
      go (yes e) (inr a) =
          not_back (spot r u.cat) u.path g.proper
          (rw (at_mark g) at (subst (λ (k : ℕ). Above (spot s k) (spot r k)) (sym e) a))
      go (no z) i = not_back (spot r u.cat) u.path g.proper (rw (at_mark g) at (o.others u.cat z))

  -- the partner of signal s: it says p, and in the other categories what s says
  record Partner (s x : ℕ) : Type 0 where
    found : finder (set (row_of t s) c p) ≡ some x
    says : spot x c ≡ p
    others : (d : ℕ) → d ≢ c → spot x d ≡ spot s d

  partner : (s x : ℕ) → with_mark env s c p ≡ some x → Partner s x
  partner s x e =
      let r : row_of t x ≡ set (row_of t s) c p = laws.sound (set (row_of t s) c p) x e in
      record {
        found = e;
        says = ap (λ (y : Row). get_or y c []) r ∙ get_or-set_same (row_of t s) c p [] (rw (wide s) known);
        others = λ d n. ap (λ (y : Row). get_or y d []) r ∙ get_or-set_other (row_of t s) c d p [] n;
      }

  module _ (w : Urn → ℕ) where
    says-one : (s : ℕ) (u : Urn) → u.cat < t.cats → u.path ≢ [] → spot s u.cat ≡ u.path → w u ≤ weight w (get_or t.signals s [])
    says-one s u h n e =
        let i : place_in (get_or t.signals s []) u.cat ≡ u.path = sym (row-place t s u.cat h) ∙ e in
        rw i at (one_place w (get_or t.signals s []) u.cat (λ z. n (sym i ∙ z)))

    says_two : (s : ℕ) (u v : Urn) → u.cat < t.cats → v.cat < t.cats → u.path ≢ [] → v.path ≢ [] → u.cat ≢ v.cat
        → spot s u.cat ≡ u.path → spot s v.cat ≡ v.path → w u + w v ≤ weight w (get_or t.signals s [])
    says_two s u v h k n m a e f =
        let i : place_in (get_or t.signals s []) u.cat ≡ u.path = sym (row-place t s u.cat h) ∙ e in
        let j : place_in (get_or t.signals s []) v.cat ≡ v.path = sym (row-place t s v.cat k) ∙ f in
        rw (i, j) at (two-places w (get_or t.signals s []) u.cat v.cat a (λ z. n (sym i ∙ z)) (λ z. m (sym j ∙ z)))

    -- the last mark on the way to the signal with number b, what it weighs, and 0 unless it is of category c
    record Came (b last extra : ℕ) : Type 0 where
      from : ℕ
      earlier : from < b
      mark : Urn
      by : Gone (at from) mark (at b)
      weighs : last ≡ w mark
      own : (extra ≡ 0) ⊎ (mark.cat ≡ c)

    -- the signal with number j is led to by mark k from that with number b, and from none before it
    record Leads (b k j : ℕ) : Type 0 where
      mark : k < length (nodes t)
      by : Gone (at b) (node_at (nodes t) k) (at j)
      first : (a i : ℕ) → i < length (nodes t) → step_mark t env (may_precede c p) (at a) i ≡ at j → b ≤ a

    differ : (b k j last extra : ℕ) (f : Came b last extra) → Leads b k j → f.mark.cat ≢ (node_at (nodes t) k).cat
    differ b k j last extra f g e =
        let h = skips (at f.from) (at b) (at j) f.mark (node_at (nodes t) k) f.by g.by e in
        omega (arith, f.earlier, g.first f.from k g.mark (step_of (at f.from) k (at j) h))

    abbrev CameOr : ℕ → ℕ → ℕ → Type 0
    CameOr b last extra = ((last ≡ 0) × (extra ≡ 0)) ⊎ Came b last extra

    last-two : (b k j last extra : ℕ) → CameOr b last extra → Leads b k j
        → last + w (node_at (nodes t) k) ≤ weight w (get_or t.signals (at j) [])
    last-two b k j last extra (inl e) g =
        omega (arith, e.0, says-one (at j) (node_at (nodes t) k) g.by.in_table g.by.some-part (at_mark g.by))
    last-two b k j last extra (inr f) g =
        let n = differ b k j last extra f g in
        omega (
          arith,
          f.weighs,
          says_two (at j) f.mark (node_at (nodes t) k) f.by.in_table g.by.in_table f.by.some-part g.by.some-part n
              (elsewhere g.by f.mark.cat n ∙ at_mark f.by) (at_mark g.by),
        )

    no_extra : (b k j last extra : ℕ) → CameOr b last extra → Leads b k j → (node_at (nodes t) k).cat ≡ c → extra ≡ 0
    no_extra b k j last extra (inl e) g i = e.1
    no_extra b k j last extra (inr f) g i = go f.own
      where
        go : (extra ≡ 0) ⊎ (f.mark.cat ≡ c) → extra ≡ 0
        go (inl e) = e
        go (inr e) = absurd (differ b k j last extra f g (e ∙ sym i))

    module _ (most : ℕ) (rises : (d : ℕ) (q r : Parts) → Above q r → w (urn d q) ≤ w (urn d r))
        (bound : (u : Urn) → is_node (nodes t) u.cat u.path ≡ true → w u ≤ most) where
      abbrev marks : List ℕ → List Urn
      marks ks = map (node_at (nodes t)) ks

      -- different signals that the way to the signal with number b shows, and what they weigh at least
      record Walked (ks : List ℕ) (b : ℕ) : Type 0 where
        signals : List ℕ
        distinct : Distinct eqb signals
        below : (x : ℕ) → Memᴰ x signals → x < length t.signals
        older : (x : ℕ) → Memᴰ x signals → Older x (at b)
        last : ℕ
        extra : ℕ
        came : CameOr b last extra
        low : last ≤ most
        small : extra ≤ w (urn c p)
        enough : 3 * weight w (marks ks) ≤ weight_of w t.signals signals + last + extra

      mark-low : (k : ℕ) → k < length (nodes t) → w (node_at (nodes t) k) ≤ most
      mark-low k h = bound (node_at (nodes t) k) (member_of same_urn urn-exact (node_at (nodes t) k) (nodes t) (mem-at (nodes t) k (urn 0 []) h))

      one_more : (ks : List ℕ) (k : ℕ) → weight w (marks (ks ++ k ∷ [])) ≡ weight w (marks ks) + w (node_at (nodes t) k)
      one_more ks k =
          ap (weight w) (map-append (node_at (nodes t)) ks (k ∷ []))
          ∙ omega (arith, weight-append w (marks ks) (node_at (nodes t) k ∷ []))

      module _ (ks : List ℕ) (b k j : ℕ) (g : Leads b k j) (before : b < j) (low-j : j < length list) (free : spot (at j) c ≢ p) (f : Walked ks b) where
        abbrev v : Urn
        v = node_at (nodes t) k

        listed_at : at j < length t.signals
        listed_at = listed (row_of t (at j)) (at j) (live_at j low-j)

        new : member_by eqb (at j) f.signals ≡ false
        new = no_member (at j) f.signals (λ m. new-signal g.by free (f.older (at j) m))

        in-more : (x : ℕ) → (x ≡ at j) ⊎ Memᴰ x f.signals → (x < length t.signals) × Older x (at j)
        in-more x (inl e) = rw e (listed_at, older-self (at j))
        in-more x (inr m) = (f.below x m, older-next g.by x (f.older x m))

        -- a mark of category c: one more signal
        walked-own : v.cat ≡ c → Walked (ks ++ k ∷ []) j
        walked-own e =
            record {
              signals = at j ∷ f.signals;
              distinct = (new, f.distinct);
              below = λ x m. (in-more x (Memᴰ.cases_cons m)).0;
              older = λ x m. (in-more x (Memᴰ.cases_cons m)).1;
              last = w v;
              extra = w (urn c p);
              came = inr (record { from = b; earlier = before; mark = v; by = g.by; weighs = refl; own = inr e });
              low = mark-low k g.mark;
              small = omega arith;
              enough = omega (
                arith,
                f.enough,
                one_more ks k,
                last-two b k j f.last f.extra f.came g,
                no_extra b k j f.last f.extra f.came g e,
                no_more,
              );
            }
          where
            no_more : w v ≤ w (urn c p)
            no_more = subst (λ (d : ℕ). w (urn d v.path) ≤ w (urn c p)) (sym e) (rises c v.path p (precede-to c p v g.by.allowed e))

        -- a mark of another category: two more, the signal and its partner
        walked-other : v.cat ≢ c → (x : ℕ) → Partner (at j) x → Walked (ks ++ k ∷ []) j
        walked-other n x q =
            record {
              signals = x ∷ at j ∷ f.signals;
              distinct = (no_member x (at j ∷ f.signals) (λ m. fresh (Memᴰ.cases_cons m)), (new, f.distinct));
              below = λ y m. (in_all y (Memᴰ.cases_cons m)).0;
              older = λ y m. (in_all y (Memᴰ.cases_cons m)).1;
              last = w v;
              extra = 0;
              came = inr (record { from = b; earlier = before; mark = v; by = g.by; weighs = refl; own = inl refl });
              low = mark-low k g.mark;
              small = omega arith;
              enough = omega (
                arith,
                f.enough,
                f.small,
                one_more ks k,
                last-two b k j f.last f.extra f.came g,
                says_two x v (urn c p) g.by.in_table known g.by.some-part some-part n (q.others v.cat n ∙ at_mark g.by) q.says,
              );
            }
          where
            fresh : (x ≡ at j) ⊎ Memᴰ x f.signals → ⊥
            fresh (inl e) = free (ap (λ y. spot y c) (sym e) ∙ q.says)
            fresh (inr m) =
                not_back (spot (at b) v.cat) v.path g.by.proper
                (rw (q.others v.cat n ∙ at_mark g.by) at ((f.older x m).others v.cat n))

            in_all : (y : ℕ) → (y ≡ x) ⊎ Memᴰ y (at j ∷ f.signals) → (y < length t.signals) × Older y (at j)
            in_all y (inl e) =
                rw e (
                  listed (set (row_of t (at j)) c p) x q.found,
                  record { others = λ d i. rw (q.others d i) (above-self (spot (at j) d)); own = inl q.says },
                )
            in_all y (inr m) = in-more y (Memᴰ.cases_cons m)

        walked_next : (x : ℕ) → Partner (at j) x → Walked (ks ++ k ∷ []) j
        walked_next x q = go (ℕ_discrete v.cat c)
          where
            go : Dec (v.cat ≡ c) → Walked (ks ++ k ∷ []) j
            go (yes e) = walked-own e
            go (no n) = walked-other n x q

        bound-next : 3 * weight w (marks (ks ++ k ∷ [])) ≤ weight_all w t.signals + 5 * most
        bound-next =
            omega (
              arith,
              f.enough,
              f.low,
              f.small,
              one_more ks k,
              mark-low k g.mark,
              bound (urn c p) node,
              weight-fits w t.signals f.signals f.distinct f.below,
            )

      abbrev first : ℕ
      first = first_loss t env c p

      -- a signal before the first one at which p is lost has a partner
      has-partner : (j : ℕ) → j < first → j < length list → (x : ℕ) × Partner (at j) x
      has-partner j h b = go (with_mark env (at j) c p) refl
        where
          go : (o : Option ℕ) → with_mark env (at j) c p ≡ o → (x : ℕ) × Partner (at j) x
          go none e =
              absurd (omega (arith, h, first-least (λ i. lacks t env c p (at i)) (length list) j b (ap (λ o. not (is_there o)) e)))
          go (some x) e = (x, partner (at j) x e)

      abbrev Along : List ℕ → ℕ → Type 0
      Along ks j = j ≤ first → spot (at j) c ≢ p
          → (3 * weight w (marks ks) ≤ weight_all w t.signals + 5 * most) × (j < first → Walked ks j)

      begins : Along [] 0
      begins a n = (
        omega arith,
        λ h. record {
          signals = [];
          distinct = tt;
          below = λ x m. absurd (Memᴰ.not-nil m);
          older = λ x m. absurd (Memᴰ.not-nil m);
          last = 0;
          extra = 0;
          came = inl (refl, refl);
          low = omega arith;
          small = omega arith;
          enough = omega arith;
        },
      )

      goes_on : (ks : List ℕ) (b j k : ℕ) → b < j → j < length list → k < length (nodes t) → step_mark t env (may_precede c p) (at b) k ≡ at j
          → ((a i : ℕ) → i < length (nodes t) → step_mark t env (may_precede c p) (at a) i ≡ at j → b ≤ a) → Along ks b → Along (ks ++ k ∷ []) j
      goes_on ks b j k h i l e least ih a n =
          (bound-next ks b k j g h i n f, λ z. let x = has-partner j z i in walked_next ks b k j g h i n f x.0 x.1)
        where
          g : Leads b k j
          g = record { mark = l; by = gone (at b) k (at j) (live_at b (omega arith)) e (apart b j h i); first = least }

          f : Walked ks b
          f = (ih (omega arith) (unsaid g.by n)).1 (omega arith)

      module _ (lost : keeps t env c p ≡ false) where
        first-low : first < length list
        first-low = go (ℕ_discrete first (length list))
          where
            go : Dec (first ≡ length list) → first < length list
            go (yes e) = absurd (true≢false (sym (eq-eqb first (length list) e) ∙ lost))
            go (no n) = omega (arith, first-le (λ i. lacks t env c p (at i)) (length list))

        missing : with_mark env (at first) c p ≡ none
        missing = go (with_mark env (at first) c p) (first_passes (λ i. lacks t env c p (at i)) (length list) first-low)
          where
            go : (o : Option ℕ) → not (is_there o) ≡ true → o ≡ none
            go none e = refl
            go (some x) e = absurd (false≢true e)

        unsaid-there : spot (at first) c ≢ p
        unsaid-there e =
            let r : set (row_of t (at first)) c p ≡ row_of t (at first) =
            ap (λ (q : Parts). set (row_of t (at first)) c q) (sym e) ∙ set-get_or (row_of t (at first)) c [] in
            none-ne-some (at first) (sym missing ∙ ap finder r ∙ live_at first first-low)

        shown-bound : 3 * weight w (shown t env c p) ≤ weight_all w t.signals + 8 * most
        shown-bound =
            omega (
              arith,
              weight-append w (marks_to t env (may_precede c p) first) (urn c p ∷ []),
              bound (urn c p) node,
              (by_first eqb eqb-exact (step_mark t env (may_precede c p)) (length (nodes t)) 0 list
                  (reachable-first t wf finder laws live listed (may_precede c p)) Along begins goes_on first first-low (omega arith) unsaid-there).0,
            )

  pub weight-law : WeightLaw t env c p
  weight-law = record { bounded = λ w most rises bound lost. shown-bound w most rises bound lost }
