-- The laws of specs/MachineMeaning.antt that are not about order, proved.
use Prim.Native.Nat.{ℕ, suc, ◌<◌}
use mathlib.Core.Path.{◌≡◌, refl, sym, ap, subst, ◌∙◌}
use mathlib.Core.Logic.{◌≢◌}
use mathlib.Core.Bool.{Bool, true, false, true≢false}
use mathlib.Core.Option.{none, some}
use mathlib.Core.List.Memᴰ
use mathlib.Core.List.{List, [], ◌∷◌, ◌++◌, foldl, foldl-append, map, Memᴰ}
use lib.ListN.{length, get_or, length-append, get_or-append}
use lib.Seq.{get_or_at}
use native.Mathlib.Omega.{arith}
use native.Mathlib.Decide.{ℕ_discrete}
use Rattle.base_lists.proofs.Tabulated.{tabulate-length}
use Rattle.base_lists.specs.Lists.{index_by}
use Rattle.theory_resolution.specs.Names.{Name, Parts}
use Rattle.theory_resolution.specs.Table.{Urn, Table}
use Rattle.theory_resolution.specs.Direct.{State, start, step_uri, same_state}
use Rattle.theory_resolution.specs.Nodes.{is_node, has_under, leaf}
use Rattle.theory_resolution.specs.Machine.{MachineState, Machine, blank, machine_state, target, Accepted, walk_step}
use Rattle.theory_resolution.specs.Symbols.{symbols, step_at}
use Rattle.theory_resolution.specs.Discovery.{targets}
use Rattle.theory_resolution.specs.MachineMeaning.{WalkLaw, LeafLaw, DeepestLaw, ReachedLaw, NodesLaw, MachineOfLaw, AcceptedLaw}
use Rattle.theory_resolution.proofs.Names.{above-trans}
use Rattle.theory_resolution.proofs.Nodes.{node-to, node_of, urn-node}
use Rattle.theory_resolution.proofs.Deepest.{deep-above, above-deep, deepest-node, under_to, leaf-ends}
use Rattle.theory_resolution.proofs.Discovery.{reached-next}
use Rattle.theory_resolution.proofs.Build.{machine-state}

pub nodes-law : (t : Table) → NodesLaw t
nodes-law t =
    record {
      urns = urn-node t;
      ancestors = λ c p r n h. let w = node-to t c (p ++ r) h in
          node_of t c p (record {
            some-part = n;
            signal = w.signal;
            by = w.by;
            listed = w.listed;
            named = w.named;
            cat = w.cat;
            above = above-trans (record { rest = r; joined = refl }) w.above;
          });
      no_other = λ P own up c p h. let w = node-to t c p h in
          up c p w.above.rest (subst (λ (z : Parts). P c z) (sym w.above.joined)
          (subst (λ (i : ℕ). P i w.by.path) w.cat (own w.signal w.by w.listed w.named)));
    }

pub leaf-law : (ns : List Urn) (c : ℕ) → LeafLaw ns c
unfolding leaf
leaf-law ns c = record { root = refl; ends = ends; goes_on = λ p n e. under_to ns c ns p (is-under p n e) }
  where
    ends : (p : Parts) → leaf ns c p ≡ true → (x : Name) (r : Parts) → is_node ns c (p ++ x ∷ r) ≡ false
    ends p e x r = go (is_node ns c (p ++ x ∷ r)) refl
      where
        go : (b : Bool) → is_node ns c (p ++ x ∷ r) ≡ b → b ≡ false
        go false i = refl
        go true i = absurd (leaf-ends ns c p x r e i)

    is-under : (p : Parts) → p ≢ [] → leaf ns c p ≡ false → has_under ns c p ≡ true
    is-under [] n e = absurd (n refl)
    is-under (x ∷ p) n e = go (has_under ns c (x ∷ p)) refl
      where
        go : (b : Bool) → has_under ns c (x ∷ p) ≡ b → b ≡ true
        go true i = refl
        go false i = let w : true ≡ false = rw i at e in absurd (true≢false w)

pub deepest-law : (ns : List Urn) (c : ℕ) (u : Parts) → DeepestLaw ns c u
deepest-law ns c u = record { a-node = deepest-node ns c u; above = deep-above ns c u; most = λ p. above-deep ns c p u }

pub reached-law : {S : Type 0} (next : S → ℕ → S) (count : ℕ) (begin : S) → ReachedLaw next count begin
reached-law {S} next count begin =
    record {
      start-reached = record { by = []; listed = λ k i. absurd (Memᴰ.not-nil i); leads = refl };
      next-reached = λ s k r h. reached-next next count begin s r k h;
      no_other = λ P p keeps s r. rw (← r.leads) (follow P keeps r.by begin p r.listed);
    }
  where
    follow : (P : S → Type 0) → ((s : S) (k : ℕ) → P s → k < count → P (next s k)) → (ks : List ℕ) (s : S) → P s
        → ((k : ℕ) → Memᴰ k ks → k < count) → P (foldl next s ks)
    follow P keeps [] s p b = p
    follow P keeps (k ∷ ks) s p b = follow P keeps ks (next s k) (keeps s k p (b k (Memᴰ.head refl))) (λ x i. b x (Memᴰ.tail i))

pub machine-of-law : (t : Table) (l : List State) → MachineOfLaw t l
machine-of-law t l =
    record {
      pairs = again l;
      rows = λ j h. ap (λ (e : MachineState). length e.row) (machine-state t l j h)
          ∙ tabulate-length (λ k. index_by same_state (step_at t (get_or l j (start t.cats)) k) l) (length (symbols t));
    }
  where
    again : (k : List State) → map (λ (e : MachineState). e.pair)
        (map (λ st. record { pair = st; row = targets same_state (step_at t) (length (symbols t)) l st }) k) ≡ k
    again [] = refl
    again (st ∷ k) = ap (λ z. st ∷ z) (again k)

pub accepted-law : (t : Table) (m : Machine) → AcceptedLaw t m
accepted-law t m = record { renumbered = renumbered; one_more = one_more }
  where
    renumbered : Accepted t m → (other : Machine) (f : ℕ → ℕ) → 0 < length other → f 0 ≡ 0
        → ((j : ℕ) → j < length other → (f j < length m) × ((machine_state other j).pair ≡ (machine_state m (f j)).pair))
        → ((j k : ℕ) → j < length other → k < length (symbols t) → (target other j k < length other) × (f (target other j k) ≡ target m (f j) k))
        → Accepted t other
    renumbered ok other f h z pair leads =
        record {
          some-state = h;
          begins = (pair 0 h).1 ∙ ap (λ i. (machine_state m i).pair) z ∙ ok.begins;
          leads = λ j k a b. (leads j k a b).0;
          right = λ j k a b.
              (pair (target other j k) (leads j k a b).0).1
              ∙ ap (λ i. (machine_state m i).pair) (leads j k a b).1
              ∙ ok.right (f j) k (pair j a).0 b
              ∙ ap (λ st. step_at t st k) (sym (pair j a).1);
        }

    one_more : Accepted t m → (e : MachineState)
        → ((k : ℕ) → k < length (symbols t)
        → (get_or e.row k 0 < length (m ++ e ∷ [])) × ((machine_state (m ++ e ∷ []) (get_or e.row k 0)).pair ≡ step_at t e.pair k))
        → Accepted t (m ++ e ∷ [])
    one_more ok e row =
        record {
          some-state = omega (arith, long);
          begins = ap (λ s. s.pair) (old 0 ok.some-state) ∙ ok.begins;
          leads = λ j k a b. (at j k a b).0;
          right = λ j k a b. (at j k a b).1;
        }
      where
        long : length (m ++ e ∷ []) ≡ suc (length m)
        long = omega (arith, length-append m (e ∷ []))

        old : (j : ℕ) → j < length m → machine_state (m ++ e ∷ []) j ≡ machine_state m j
        old j h = get_or-append m (e ∷ []) blank j h

        Right : ℕ → ℕ → Type 0
        Right j k = (target (m ++ e ∷ []) j k < length (m ++ e ∷ [])) × ((machine_state (m ++ e ∷ []) (target (m ++ e ∷ []) j k)).pair
            ≡ step_at t (machine_state (m ++ e ∷ []) j).pair k)

        at : (j k : ℕ) → j < length (m ++ e ∷ []) → k < length (symbols t) → Right j k
        at j k a b = go (ℕ_discrete j (length m))
          where
            go : Dec (j ≡ length m) → Right j k
            go (yes i) = rw (get_or_at m e [] blank j (sym i)) (row k b)
            go (no i) =
                let h : j < length m = omega (arith, long) in
                let l = ok.leads j k h b in
                rw (old j h, old (target m j k) l) (omega (arith, long), ok.right j k h b)

pub walk-law : (t : Table) (m : Machine) → WalkLaw t m
walk-law t m =
    record {
      at-start = refl;
      used = λ l u. foldl-append (step_uri (walk_step t m)) 0 l (some u ∷ []);
      skipped = λ l. foldl-append (step_uri (walk_step t m)) 0 l (none ∷ []);
    }
