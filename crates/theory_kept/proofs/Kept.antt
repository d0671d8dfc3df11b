-- The decision is right, over any search among the table's signals.
use Prim.Native.Nat.{ℕ, ◌≤◌, ◌<◌}
use mathlib.Core.Path.{◌≡◌, refl, sym, ap, ◌∙◌}
use mathlib.Core.Logic.{◌⊎◌, inl, inr, ◌≢◌}
use mathlib.Core.Bool.{Bool, true, false, not, ◌||◌, true≢false, false≢true}
use mathlib.Core.Option.{Option, none, some, none-ne-some}
use mathlib.Core.List.Memᴰ
use mathlib.Core.List.{List, [], ◌∷◌, ◌++◌, map, foldl, foldl-append, Memᴰ}
use mathlib.Core.List.{map-append}
use lib.Dec.{eqb}
use lib.ListN.{get_or, set, length, length-append, length-map, length-replicate, get_or-replicate}
use borrow.Author.Tests.{eqb-true, eq-eqb, ne_eqb}
use native.Mathlib.Omega.{arith}
use native.Mathlib.Decide.{ℕ_discrete}
use Rattle.base_lists.proofs.Tabulated.{tabulate-at, tabulate-length}
use Rattle.base_lists.proofs.Lists.{eqb-exact, mem-at, member_of, member-to, distinct-fits, index-member}
use Rattle.base_lists.specs.Lists.{index_by, tabulate}
use Rattle.theory_resolution.specs.Names.{Parts, below, proper_ancestor, Above, some_below}
use Rattle.theory_resolution.specs.Table.{Urn, urn, Table, Row, place_in, row_of, WellFormed}
use Rattle.theory_resolution.specs.Nodes.{same_urn, nodes, node_at, is_node}
use Rattle.theory_resolution.specs.Direct.{Open, State, start, Env, env_by, step, Used}
use Rattle.theory_resolution.specs.Says.{Says, Given}
use Rattle.theory_resolution.specs.Discovery.{discover, BreadthFirst}
use Rattle.theory_resolution.proofs.Names.{below-to, some-above, above-some, above-self, above-trans, below_self, above_root, proper-above}
use Rattle.theory_resolution.proofs.Table.{row-length, row-place}
use Rattle.theory_resolution.proofs.Nodes.{urn-exact, root-free}
use Rattle.theory_resolution.proofs.Direct.{grows}
use Rattle.theory_resolution.proofs.Step.{EnvLaws, Valid, valid-step}
use Rattle.theory_resolution.proofs.Discovery.{discover-start, discover-reached, discover-distinct, discover-complete}
use Rattle.theory_resolution.proofs.FirstMet.{discover-numbered}
use Rattle.theory_kept.specs.Kept.{EachUsed, OneWay, KeptBy, LostBy}
use Rattle.theory_kept.specs.Way.{way_to}
use Rattle.theory_kept.specs.Decision.{is_there, with_mark, may_precede, any_mark, step_mark, reachable, marks_to, lacks, first_loss, keeps, shown}
use Rattle.theory_kept.specs.Laws.{DecisionLaw, RingLaw}
use Rattle.theory_kept.proofs.Way.{first-le, first_passes, first-least, way-length, way-law, by_way}
use Rattle.theory_kept.proofs.Paths.{above-either, above-antisym, proper-ne}
use Rattle.theory_kept.proofs.Marks.{Down, valid-run, marks-of, open_at, Live, Led, led, live-mark, Takes, OnWay, takes_run, said_at}
use Rattle.theory_kept.proofs.Marks.{above-run, row_step}

-- a list split at the first URN that gives p of category c
pub record FirstGiven (c : ℕ) (p : Parts) (us : List Urn) : Type 0 where
  pub before : List Urn
  pub by : Urn
  pub after : List Urn
  pub joined : before ++ by ∷ after ≡ us
  pub cat : by.cat ≡ c
  pub above : Above p by.path
  -- those of its category before it are proper ancestors of p
  pub on-way : (u : Urn) → Memᴰ u before → u.cat ≡ c → proper_ancestor u.path p ≡ true

pub first-given : (c : ℕ) (p : Parts) (us : List Urn) → OneWay c us → Given us c p → FirstGiven c p us
first-given c p [] o g = absurd (Memᴰ.not-nil g.listed)
first-given c p (u ∷ us) o g = go (ℕ_discrete u.cat c) (some_below (below p u.path)) refl
    (first-given c p us (λ a b m n. o a b (Memᴰ.tail m) (Memᴰ.tail n)))
  where
    later : (u.cat ≡ c → Above p u.path → ⊥) → (Given us c p → FirstGiven c p us) → FirstGiven c p (u ∷ us)
    later other ih = with (ih (rest (Memᴰ.cases_cons g.listed)))
      where
        rest : (g.by ≡ u) ⊎ Memᴰ g.by us → Given us c p
        rest (inl e) = absurd (other (sym (ap (λ x. x.cat) e) ∙ g.cat) (rw (ap (λ x. x.path) e) at g.above))
        rest (inr m) = record { by = g.by; listed = m; cat = g.cat; above = g.above }

        with : FirstGiven c p us → FirstGiven c p (u ∷ us)
        with f =
            record {
              before = u ∷ f.before;
              by = f.by;
              after = f.after;
              joined = ap (λ l. u ∷ l) f.joined;
              cat = f.cat;
              above = f.above;
              on-way = λ v m e. at v e (Memᴰ.cases_cons m);
            }
          where
            there : Memᴰ f.by (u ∷ us)
            there = Memᴰ.tail (rw f.joined at (Memᴰ.append_right {a = f.by} f.before (Memᴰ.head {xs = f.after} refl)))

            mine : u.cat ≡ c → proper_ancestor u.path p ≡ true
            mine e = either (o u f.by (Memᴰ.head refl) there e f.cat)
              where
                under : Above u.path p ⊎ Above p u.path → proper_ancestor u.path p ≡ true
                under (inl a) = proper-ne u.path p a (λ i. other e (rw i (above-self p)))
                under (inr a) = absurd (other e a)

                either : Above u.path f.by.path ⊎ Above f.by.path u.path → proper_ancestor u.path p ≡ true
                either (inl a) = under (above-either u.path p f.by.path a f.above)
                either (inr a) = absurd (other e (above-trans f.above a))

            at : (v : Urn) → v.cat ≡ c → (v ≡ u) ⊎ Memᴰ v f.before → proper_ancestor v.path p ≡ true
            at v e (inl i) = rw (ap (λ x. x.path) i) (mine (sym (ap (λ x. x.cat) i) ∙ e))
            at v e (inr m) = f.on-way v m e

    go : Dec (u.cat ≡ c) → (b : Bool) → some_below (below p u.path) ≡ b → (Given us c p → FirstGiven c p us) → FirstGiven c p (u ∷ us)
    go (yes e) true a ih =
        record { before = []; by = u; after = us; joined = refl; cat = e; above = some-above p u.path a; on-way = λ v m i. absurd (Memᴰ.not-nil m) }
    go (yes e) false a ih = later (λ i b. true≢false (sym (above-some p u.path b) ∙ a)) ih
    go (no n) b a ih = later (λ i d. n i) ih

-- the tests of what is there, and of what may precede p
pub there-above : (q p : Parts) → is_there (below q p) ≡ true → Above q p
there-above q p = go (below q p) refl
  where
    go : (o : Option Parts) → below q p ≡ o → is_there o ≡ true → Above q p
    go none e h = absurd (false≢true h)
    go (some r) e h = record { rest = r; joined = below-to q p r e }

pub above-there : (q p : Parts) → Above q p → is_there (below q p) ≡ true
above-there q p a = rw (← a.joined, below_self q a.rest)

module _ (c : ℕ) (p : Parts) where
  pub precede-down : Down (may_precede c p)
  precede-down d q r a h = go (eqb d c) h
    where
      go : (b : Bool) → not b || is_there (below q p) ≡ true → not b || is_there (below r p) ≡ true
      go false h = refl
      go true h = above-there r p (above-trans a (there-above q p h))

  pub precede-of : (u : Urn) → (u.cat ≡ c → Above u.path p) → may_precede c p u ≡ true
  precede-of u h = go (ℕ_discrete u.cat c)
    where
      go : Dec (u.cat ≡ c) → may_precede c p u ≡ true
      go (yes e) = rw (eq-eqb u.cat c e) (above-there u.path p (h e))
      go (no n) = rw (ne_eqb u.cat c n)

  pub precede-to : (u : Urn) → may_precede c p u ≡ true → u.cat ≡ c → Above u.path p
  precede-to u h e = there-above u.path p (rw (eq-eqb u.cat c e) at h)

-- a table, with a search that is sound for it and finds signal 0 at its places
module _ (t : Table) (wf : WellFormed t) (finder : Row → Option ℕ) (laws : EnvLaws (env_by t finder) t.cats (nodes t)) (live : finder (row_of t 0) ≡ some 0)
    (listed : (r : Row) (s : ℕ) → finder r ≡ some s → s < length t.signals) where
  abbrev env : Env
  env = env_by t finder

  abbrev begin : State
  begin = start t.cats

  abbrev pub after : List Urn → State
  after us = foldl (step env) begin us

  valid : Valid env t.cats (nodes t) begin
  valid =
      record {
        live = live;
        wide = row-length (get_or t.signals 0 []) 0 t.cats;
        sized = length-replicate t.cats Open;
        fits = λ c h. rw (get_or-replicate t.cats c Open Open h);
      }

  pub valid-after : (us : List Urn) → Valid env t.cats (nodes t) (after us)
  valid-after us = valid-run t finder laws begin us valid

  silent : (c : ℕ) → c < t.cats → get_or (row_of t 0) c [] ≡ []
  silent c h = row-place t 0 c h ∙ ap (λ l. place_in l c) wf.silent

  -- the signals that marks lead to
  module _ (may : Urn → Bool) where
    live-reached : (ks : List ℕ) (s : ℕ) → Live t finder laws s → Live t finder laws (foldl (step_mark t env may) s ks)
    live-reached [] s h = h
    live-reached (k ∷ ks) s h = live-reached ks (step_mark t env may s k) (live-mark t finder laws may s k h)

    -- those found after some turns
    abbrev pub found : ℕ → List ℕ
    found i = discover eqb (step_mark t env may) (length (nodes t)) 0 i

    pub found-live : (i s : ℕ) → Memᴰ s (found i) → Live t finder laws s
    found-live i s m =
        let r = discover-reached eqb eqb-exact (step_mark t env may) (length (nodes t)) 0 i s m in
        rw r.leads at (live-reached r.by 0 live)

    pub reachable-live : (s : ℕ) → Memᴰ s (reachable t env may) → Live t finder laws s
    reachable-live = found-live (length t.signals)

    -- they are no more than the table has
    pub found-few : (i : ℕ) → length (found i) ≤ length t.signals
    found-few i =
        rw (tabulate-length (λ k. k) (length t.signals)) at
        (distinct-fits eqb eqb-exact (found i) (tabulate (λ k. k) (length t.signals))
        (discover-distinct eqb eqb-exact (step_mark t env may) (length (nodes t)) 0 i)
        (λ s m. member_of eqb eqb-exact s _ (numbered s (listed (row_of t s) s (found-live i s m)))))
      where
        numbered : (s : ℕ) → s < length t.signals → Memᴰ s (tabulate (λ k. k) (length t.signals))
        numbered s h =
            rw (tabulate-at (λ k. k) (length t.signals) s 0 h) at
            (mem-at (tabulate (λ k. k) (length t.signals)) s 0 (rw (tabulate-length (λ (k : ℕ). k) (length t.signals)) h))

    pub reachable-few : length (reachable t env may) ≤ length t.signals
    reachable-few = found-few (length t.signals)

    pub reachable-first : BreadthFirst (step_mark t env may) (length (nodes t)) 0 eqb (reachable t env may)
    reachable-first =
        record {
          begins = discover-start eqb eqb-exact (step_mark t env may) (length (nodes t)) 0 (length t.signals);
          distinct = discover-distinct eqb eqb-exact (step_mark t env may) (length (nodes t)) 0 (length t.signals);
          numbered = discover-numbered eqb eqb-exact (step_mark t env may) (length (nodes t)) 0 (length t.signals);
          complete = λ s r. member-to eqb eqb-exact s (reachable t env may) (discover-complete eqb eqb-exact (step_mark t env may)
              (length (nodes t)) 0 (length t.signals) reachable-few s r);
        }

    -- marks that lead to signal s: they ring it, with every category open
    pub record Leading (us : List Urn) (s : ℕ) : Type 0 where
      pub opens : after us ≡ open_at t finder laws s
      pub found : Live t finder laws s
      pub each : (u : Urn) → Memᴰ u us → Used t u × (may u ≡ true) × (is_node (nodes t) u.cat u.path ≡ true)

    -- one more
    lead-next : (us : List Urn) (s k : ℕ) → k < length (nodes t) → Leading us s → step_mark t env may s k ≢ s
        → Leading (us ++ node_at (nodes t) k ∷ []) (step_mark t env may s k)
    lead-next us s k b a moves =
        record {
          opens = foldl-append (step env) begin us (node_at (nodes t) k ∷ []) ∙ ap (λ st. step env st (node_at (nodes t) k)) a.opens ∙ l.steps;
          found = live-mark t finder laws may s k a.found;
          each = λ u m. at u (Memᴰ.append_cases us m);
        }
      where
        l : Led t finder laws may s k
        l = led t finder laws may s k a.found moves

        at : (u : Urn) → Memᴰ u us ⊎ Memᴰ u (node_at (nodes t) k ∷ []) → Used t u × (may u ≡ true) × (is_node (nodes t) u.cat u.path ≡ true)
        at u (inl m) = a.each u m
        at u (inr m) =
            rw (Memᴰ.eq_of_singleton m) (
              record { known = l.known; some-part = l.some-part },
              l.allowed,
              member_of same_urn urn-exact (node_at (nodes t) k) (nodes t) (mem-at (nodes t) k (urn 0 []) b),
            )

    -- those that lead to the signal with number j do
    pub marks-lead : (j : ℕ) → j < length (reachable t env may) → Leading (marks_to t env may j) (get_or (reachable t env may) j 0)
    marks-lead j h =
        by_way eqb eqb-exact (step_mark t env may) (length (nodes t)) 0 (reachable t env may) reachable-first (λ ks s. Leading (map (node_at (nodes t)) ks) s)
        (record { opens = refl; found = live; each = λ u m. absurd (Memᴰ.not-nil m) })
        (λ ks s k b a moves. rw (map-append (node_at (nodes t)) ks (k ∷ [])) (lead-next (map (node_at (nodes t)) ks) s k b a moves))
        j h

  -- the signals that can ring
  pub ring-law : RingLaw t env (λ us. (after us).signal)
  ring-law =
      record {
        rings-of = λ s h.
            let k = index-member eqb eqb-exact 0 s (reachable t env any_mark) h in
            record { by = marks_to t env any_mark (index_by eqb s (reachable t env any_mark)); used = used _ k.0; rings = rings _ k.0 ∙ k.1 };
        of-rings = λ s r.
            let m = marks-of t finder laws any_mark down begin valid r.by (λ u i. ((r.used u i).known, refl)) in
            member_of eqb eqb-exact s (reachable t env any_mark) ((reachable-first any_mark).complete s (record {
              by = m.0;
              listed = m.1;
              leads = m.3 ∙ r.rings;
            }));
        shown-rings = rings;
        shown-used = used;
        shortest = λ j h us k e.
            let m = marks-of t finder laws any_mark down begin valid us (λ u i. ((k u i).known, refl)) in
            omega (
              arith,
              (way-law eqb eqb-exact (step_mark t env any_mark) (length (nodes t)) 0 (reachable t env any_mark) (reachable-first any_mark) j
                  h).shortest m.0 j m.1 (omega arith) h (m.3 ∙ e),
              m.2,
              length-map (way_to eqb (step_mark t env any_mark) (length (nodes t)) 0 (reachable t env any_mark) j) (node_at (nodes t)),
            );
      }
    where
      down : Down any_mark
      down c p q a h = refl

      rings : (j : ℕ) → j < length (reachable t env any_mark) → (after (marks_to t env any_mark j)).signal ≡ get_or (reachable t env any_mark) j 0
      rings j h = ap (λ st. st.signal) (marks-lead any_mark j h).opens

      used : (j : ℕ) → j < length (reachable t env any_mark) → EachUsed t (marks_to t env any_mark j)
      used j h u m = ((marks-lead any_mark j h).each u m).0

  -- one mark
  module _ (c : ℕ) (p : Parts) (known : c < t.cats) (node : is_node (nodes t) c p ≡ true) where
    abbrev pub list : List ℕ
    list = reachable t env (may_precede c p)

    some-part : p ≢ []
    some-part e = true≢false (sym node ∙ ap (is_node (nodes t) c) e ∙ root-free t c)

    takes-start : Takes t finder laws c p node begin
    takes-start = rw (get_or-replicate t.cats c Open Open known, silent c known) (proper-ne [] p (above_root p) (λ e. some-part (sym e)))

    -- a signal that is reachable before p has a place above p
    pub reachable-above : (j : ℕ) → j < length list → Above (get_or (row_of t (get_or list j 0)) c []) p
    reachable-above j h =
        let l = marks-lead (may_precede c p) j h in
        rw (ap (λ st. st.signal) l.opens) at
        (above-run t finder laws c p begin (marks_to t env (may_precede c p) j) (λ u m. precede-to c p u (l.each u m).1) (rw (silent c known) (above_root p)))

    -- a list on the way to p rings one of the reachable signals, and no more marks lead there
    record ReachableAfter (us : List Urn) : Type 0 where
      index : ℕ
      low : index < length list
      is : get_or list index 0 ≡ (after us).signal
      by : List ℕ
      marks : (k : ℕ) → Memᴰ k by → k < length (nodes t)
      few : length by ≤ length us
      leads : foldl (step_mark t env (may_precede c p)) 0 by ≡ get_or list index 0

    reachable-after : (us : List Urn) → OnWay t finder laws c p node us → ReachableAfter us
    reachable-after us w =
        let m = marks-of t finder laws (may_precede c p) (precede-down c p) begin valid us (λ u i. (
          (w u i).0,
          precede-of c p u (λ e. proper-above u.path p ((w u i).2 e)),
        )) in
        let k = index-member eqb eqb-exact 0 (after us).signal list
        (member_of eqb eqb-exact (after us).signal list ((reachable-first (may_precede c p)).complete (after us).signal
        (record { by = m.0; listed = m.1; leads = m.3 }))) in
        record { index = index_by eqb (after us).signal list; low = k.0; is = k.1; by = m.0; marks = m.1; few = m.2; leads = m.3 ∙ sym k.1 }

    -- before the first URN that gives p
    on-way : (us : List Urn) → EachUsed t us → (f : FirstGiven c p us) → OnWay t finder laws c p node f.before
    on-way us used f u m = let i = used u (rw f.joined at (Memᴰ.append_left (f.by ∷ f.after) m)) in (i.known, i.some-part, f.on-way u m)

    -- p is said, unless there is no signal that says it besides
    said : (us : List Urn) → EachUsed t us → (f : FirstGiven c p us) (s : ℕ) → with_mark env (after f.before).signal c p ≡ some s
        → Says t (after us).signal c p
    said us used f s h =
        record {
          known = known;
          some-part = some-part;
          above = rw (← row-place t (after us).signal c known, ← f.joined, foldl-append (step env) begin f.before (f.by ∷ f.after))
              (above-trans at (grows env laws.sound (step env (after f.before) f.by) f.after c));
        }
      where
        urn-is : f.by ≡ urn c f.by.path
        urn-is = λ i. record { cat = f.cat i; path = f.by.path }

        at : Above p (get_or (row_of t (step env (after f.before) f.by).signal) c [])
        at =
            rw urn-is
            (said_at t finder laws c p node (after f.before) (valid-after f.before) known
            (takes_run t finder laws c p node begin valid f.before (on-way us used f) takes-start) s h f.by.path f.above)

    -- so where there always is one, p is kept
    pub kept-where : ((s : ℕ) → Live t finder laws s → with_mark env s c p ≡ none → ⊥) → KeptBy t (λ us. (after us).signal) c p
    kept-where h us used o g = go (with_mark env (after f.before).signal c p) refl
      where
        f : FirstGiven c p us
        f = first-given c p us o g

        go : (r : Option ℕ) → with_mark env (after f.before).signal c p ≡ r → Says t (after us).signal c p
        go (some s) e = said us used f s e
        go none e = absurd (h (after f.before).signal (valid-after f.before).live e)

    -- the first signal at which p is lost
    abbrev pub first : ℕ
    first = first_loss t env c p

    lacking : (s : ℕ) → with_mark env s c p ≡ none → lacks t env c p s ≡ true
    lacking s e = rw e

    lacking-to : (s : ℕ) → lacks t env c p s ≡ true → with_mark env s c p ≡ none
    lacking-to s = go (with_mark env s c p) refl
      where
        go : (o : Option ℕ) → with_mark env s c p ≡ o → not (is_there o) ≡ true → with_mark env s c p ≡ none
        go none e h = e
        go (some r) e h = absurd (false≢true h)

    first-at : (us : List Urn) (a : ReachableAfter us) → with_mark env (after us).signal c p ≡ none → first ≤ a.index
    first-at us a e =
        first-least (λ j. lacks t env c p (get_or list j 0)) (length list) a.index a.low (lacking (get_or list a.index 0) (rw a.is e))

    pub kept_of : keeps t env c p ≡ true → KeptBy t (λ us. (after us).signal) c p
    kept_of h us used o g = go (with_mark env (after f.before).signal c p) refl
      where
        f : FirstGiven c p us
        f = first-given c p us o g

        go : (r : Option ℕ) → with_mark env (after f.before).signal c p ≡ r → Says t (after us).signal c p
        go (some s) e = said us used f s e
        go none e =
            let a = reachable-after f.before (on-way us used f) in
            absurd (omega (arith, first-at f.before a e, a.low, eqb-true first (length list) h))

    pub first-low : keeps t env c p ≡ false → first < length list
    first-low h = go (ℕ_discrete first (length list))
      where
        go : Dec (first ≡ length list) → first < length list
        go (yes e) = absurd (true≢false (sym (eq-eqb first (length list) e) ∙ h))
        go (no n) = omega (arith, first-le (λ j. lacks t env c p (get_or list j 0)) (length list))

    -- the list shown
    module _ (lost : keeps t env c p ≡ false) where
      abbrev before : List Urn
      before = marks_to t env (may_precede c p) first

      leading : Leading (may_precede c p) before (get_or list first 0)
      leading = marks-lead (may_precede c p) first (first-low lost)

      missing : with_mark env (get_or list first 0) c p ≡ none
      missing = lacking-to (get_or list first 0) (first_passes (λ j. lacks t env c p (get_or list j 0)) (length list) (first-low lost))

      -- what it rings
      pub shown-rings : (after (shown t env c p)).signal ≡ (step env (open_at t finder laws (get_or list first 0)) (urn c p)).signal
      shown-rings = ap (λ st. st.signal) (foldl-append (step env) begin before (urn c p ∷ []) ∙ ap (λ st. step env st (urn c p)) leading.opens)

      pub shown-each : (u : Urn) → Memᴰ u (shown t env c p) → Used t u × (u.cat ≡ c → Above u.path p) × (is_node (nodes t) u.cat u.path ≡ true)
      shown-each u m = go (Memᴰ.append_cases before m)
        where
          go : Memᴰ u before ⊎ Memᴰ u (urn c p ∷ []) → Used t u × (u.cat ≡ c → Above u.path p) × (is_node (nodes t) u.cat u.path ≡ true)
          go (inl i) = let e = leading.each u i in (e.0, precede-to c p u e.1, e.2)
          go (inr i) = rw (Memᴰ.eq_of_singleton i) (record { known = known; some-part = some-part }, λ e. above-self p, node)

      pub lost-of : LostBy t (λ us. (after us).signal) c p (shown t env c p)
      lost-of =
          record {
            used = λ u m. (shown-each u m).0;
            one_way = λ u v m n e i. above-either u.path v.path p ((shown-each u m).1 e) ((shown-each v n).1 i);
            given = record { by = urn c p; listed = Memᴰ.append_right before (Memᴰ.head refl); cat = refl; above = above-self p };
            unsaid = unsaid;
          }
        where
          last : after (shown t env c p) ≡ step env (after before) (urn c p)
          last = foldl-append (step env) begin before (urn c p ∷ [])

          place : Says t (after (shown t env c p)).signal c p → get_or (row_of t (step env (after before) (urn c p)).signal) c [] ≡ p
          place h =
              ap (λ st. get_or (row_of t st.signal) c []) (sym last)
              ∙ above-antisym (get_or (row_of t (after (shown t env c p)).signal) c []) p
              (above-run t finder laws c p begin (shown t env c p) (λ u m. (shown-each u m).1) (rw (silent c known) (above_root p)))
              (rw (row-place t (after (shown t env c p)).signal c known) h.above)

          there : Says t (after (shown t env c p)).signal c p → with_mark env (get_or list first 0) c p ≡ some (step env (after before) (urn c p)).signal
          there h =
              ap (λ s. with_mark env s c p) (ap (λ st. st.signal) (sym leading.opens))
              ∙ ap (λ q. finder (set (row_of t (after before).signal) c q)) (sym (place h))
              ∙ ap finder (sym (row_step t finder laws (after before) (urn c p) known))
              ∙ (valid-step env t.cats (nodes t) laws (after before) (urn c p) (valid-after before)).live

          unsaid : Says t (after (shown t env c p)).signal c p → ⊥
          unsaid h = none-ne-some _ (sym missing ∙ there h)

      pub few-shown : length (shown t env c p) ≤ length t.signals
      few-shown =
          omega (
            arith,
            length-append before (urn c p ∷ []),
            length-map (way_to eqb (step_mark t env (may_precede c p)) (length (nodes t)) 0 list first) (node_at (nodes t)),
            way-length eqb (step_mark t env (may_precede c p)) (length (nodes t)) 0 list first first,
            first-low lost,
            reachable-few (may_precede c p),
          )

    pub of-kept : KeptBy t (λ us. (after us).signal) c p → keeps t env c p ≡ true
    of-kept k = go (keeps t env c p) refl
      where
        go : (b : Bool) → keeps t env c p ≡ b → b ≡ true
        go true e = refl
        go false e = let l = lost-of e in absurd (l.unsaid (k (shown t env c p) l.used l.one_way l.given))

    -- no list that loses p is shorter
    pub shortest : (us : List Urn) → LostBy t (λ us. (after us).signal) c p us → length (shown t env c p) ≤ length us
    shortest us l = go (with_mark env (after f.before).signal c p) refl
      where
        f : FirstGiven c p us
        f = first-given c p us l.one_way l.given

        a : ReachableAfter f.before
        a = reachable-after f.before (on-way us l.used f)

        go : (r : Option ℕ) → with_mark env (after f.before).signal c p ≡ r → length (shown t env c p) ≤ length us
        go (some s) e = absurd (l.unsaid (said us l.used f s e))
        go none e =
            let i = first-at f.before a e in
            let b : first < length list = omega (arith, a.low) in
            omega (
              arith,
              (way-law eqb eqb-exact (step_mark t env (may_precede c p)) (length (nodes t)) 0 list (reachable-first (may_precede c p)) first
                  b).shortest a.by a.index a.marks i a.low a.leads,
              a.few,
              length-append (marks_to t env (may_precede c p) first) (urn c p ∷ []),
              length-map (way_to eqb (step_mark t env (may_precede c p)) (length (nodes t)) 0 list first) (node_at (nodes t)),
              length-append f.before (f.by ∷ f.after),
              ap length f.joined,
            )

    pub decision-law : DecisionLaw t env (λ us. (after us).signal) c p
    decision-law =
        record {
          kept_of = kept_of;
          of-kept = of-kept;
          lost-of = lost-of;
          shortest = shortest;
          of-nodes = λ e u m. (shown-each e u m).2;
          on-way = λ e u m. (shown-each e u m).1;
          few = few-shown;
        }
