-- Going through a value on node numbers comes to what the theory says of its entries.
use Prim.Native.Nat.{ℕ, suc, ◌+◌}
use mathlib.Core.Path.{◌≡◌, refl, sym, ap, ap₂, ◌∙◌}
use mathlib.Core.Bool.{Bool, true, false, cond, ◌||◌, or-true}
use mathlib.Core.Option.{Option, none, some}
use mathlib.Core.List.{List, [], ◌∷◌, map, foldl}
use lib.ListN.{take}
use native.Mathlib.Omega.{arith}
use native.Mathlib.Nat.{zero-add}
use Rattle.std.specs.Prelude as found
use Rattle.value_cursor.specs.declared.alert_param.Span.{Span}
use Rattle.value_reader.specs.Value.{part_of}
use Rattle.theory_resolution.specs.Names.{same_parts}
use Rattle.theory_resolution.specs.Table.{Urn, Table}
use Rattle.theory_resolution.specs.Nodes.{nodes, number, deepest}
use Rattle.theory_resolution.specs.Direct.{State, start, step, env_of, step_uri, StateOf}
use Rattle.theory_resolution.specs.Settled.{is_settled, needed_from, needed}
use Rattle.theory_resolution.proofs.TableStep.{state-valid, state-start, state-step}
use Rattle.theory_resolution.proofs.Claim.{run-used}
use Rattle.node_step.specs.Step.{coded, step_numbers}
use Rattle.node_step.specs.StatusByte.{packed, packed_of, step_packed}
use Rattle.node_search.specs.Uses.{used_urn, use_of}
use Rattle.node_step.specs.declared.State as code
use Rattle.node_step.specs.declared.stored.Packed.{Packed}
use Rattle.node_search.proofs.UseRight.{uses-right}
use Rattle.node_step.proofs.Both.{step-direct, coded-start, of-packed}
use Rattle.table_decode.specs.Tables.{table_of, category_names}
use Rattle.table_decode.specs.Decoded.{Holds}
use Rattle.node_search.specs.declared.decoded.Decoded.{Decoded}
use Rattle.resolve_early.specs.FirstEntries.{Front, uris_in}
use Rattle.resolve_early.specs.Early.{taken_as, reached, enough}
use Rattle.resolve_early.specs.Run.{after_use, after_uri, settled_in, run_over}
use Rattle.resolve_early.specs.declared.run.Reached.{Reached}
use Rattle.resolve_early.proofs.SettledRight.{settled-right}
use Rattle.resolve_run.proofs.TakenLaws.{used-of}

module _ (T : Table) where
  abbrev next : State → Option Urn → State
  next = step_uri (step (env_of T))

  abbrev reached_at : Bool → State → ℕ → found.Option Reached
  reached_at enough s n = cond enough (found.Some (record { signal = s.signal; entries = n })) found.None

  -- the run over a list of URIs as the table takes them
  abbrev over : State → ℕ → List (Option Urn) → Bool → found.Option Reached
  over s n [] ended = reached_at (ended || is_settled T s) s n
  over s n (u ∷ l) ended = cond (is_settled T s) (reached_at true s n) (over (next s u) (n + 1) l ended)

  -- the state after those that are needed
  abbrev come : State → List (Option Urn) → State
  come s l = foldl next s (take (needed_from T s l) l)

  over-needed : (s : State) (n : ℕ) (l : List (Option Urn)) (ended : Bool)
      → over s n l ended ≡ reached_at (ended || is_settled T (come s l)) (come s l) (n + needed_from T s l)
  over-needed s n [] ended = let z : n ≡ n + 0 = omega arith in ap (reached_at (ended || is_settled T s) s) z
  over-needed s n (u ∷ l) ended = go (is_settled T s) refl (over-needed (next s u) (n + 1) l ended)
    where
      k : ℕ
      k = needed_from T (next s u) l

      go : (b : Bool) → is_settled T s ≡ b
          → over (next s u) (n + 1) l ended ≡ reached_at (ended || is_settled T (come (next s u) l)) (come (next s u) l) (n + 1 + k)
          → cond b (reached_at true s n) (over (next s u) (n + 1) l ended)
          ≡ reached_at (ended || is_settled T (foldl next s (take (cond b 0 (suc k)) (u ∷ l))))
          (foldl next s (take (cond b 0 (suc k)) (u ∷ l))) (n + cond b 0 (suc k))
      go true e ih =
          let z : n ≡ n + 0 = omega arith in
          ap₂ (λ b m. reached_at b s m) (sym (ap (λ b. ended || b) e ∙ or-true ended)) z
      go false e ih =
          let z : n + 1 + k ≡ n + suc k = omega arith in
          ih ∙ ap (reached_at (ended || is_settled T (come (next s u) l)) (come (next s u) l)) z

module _ (t : List ℕ) (d : Decoded) (h : Holds t (table_of t) d) where
  abbrev T : Table
  T = table_of t

  abbrev shown : State → Packed
  shown s = packed_of (coded T s)

  -- one URI
  uri-right : (s : State) → StateOf T s → (uri : List ℕ) → after_uri t d (shown s) uri ≡ shown (next T s (used_urn (category_names t) uri))
  unfolding after_uri step_packed
  uri-right s g uri =
      ap (after_use d.rows d.parent d.inner d.signals (shown s))
      (uses-right t T d.name_at d.name_len d.categories (category_names t) d.category d.at d.len d.nodes h.names
      h.nodes d.shared h.shared d.inner h.inner uri)
      ∙ go (used_urn (category_names t) uri) refl
    where
      go : (o : Option Urn) → used_urn (category_names t) uri ≡ o → after_use d.rows d.parent d.inner d.signals (shown s)
          (use_of T o) ≡ shown (next T s o)
      go none e = refl
      go (some u) e =
          let c = u.cat in
          let p = deepest (nodes T) u.cat u.path in
          ap (λ (z : code.State). packed_of (step_numbers d.rows d.parent d.inner d.signals z c (number (nodes T) c p) (same_parts p u.path)))
          (of-packed T h.numbers.few-cats h.numbers.few-nodes s g)
          ∙ ap packed_of (step-direct d.rows d.parent d.inner d.signals T h.well-formed h.numbers h.inner s
          (state-valid T s g) u (used-of t uri u e).known)

  uri-state : (s : State) → StateOf T s → (o : Option Urn) → StateOf T (next T s o)
  uri-state s g none = g
  uri-state s g (some u) = state-step T h.well-formed s u g

  in_right : (s : State) → StateOf T s → settled_in d (shown s) ≡ is_settled T s
  in_right s g = settled-right d.rows d.parent d.inner d.signals T h.well-formed h.numbers h.inner s g d.categories h.categories

  -- all entries
  over-right : (v : List ℕ) (s : State) → StateOf T s → (n : ℕ) (ps : List Span) (ended : Bool)
      → run_over t d v (shown s) n ps ended ≡ over T s n (taken_as t (map (part_of v) ps)) ended
  unfolding run_over
  over-right v s g n [] ended = ap (λ b. reached_at T (ended || b) s n) (in_right s g)
  over-right v s g n (p ∷ ps) ended =
      ap₂ (λ b r. cond b (reached_at T true s n) r) (in_right s g)
      (ap (λ z. run_over t d v z (n + 1) ps ended) (uri-right s g (part_of v p))
      ∙ over-right v (next T s (used_urn (category_names t) (part_of v p))) (uri-state s g (used_urn (category_names t) (part_of v p))) (n + 1) ps ended)

  begin-right : record { signal = 0; statuses = 0 } ≡ shown (start T.cats)
  unfolding packed
  begin-right = sym (ap packed_of (coded-start T T.cats))

  -- from the start
  pub run-right : (v : List ℕ) (f : Front)
      → run_over t d v (record { signal = 0; statuses = 0 }) 0 f.parts f.ended
      ≡ reached_at T (enough T (taken_as t (uris_in v f)) f.ended) (reached T (taken_as t (uris_in v f))) (needed T (taken_as t (uris_in v f)))
  run-right v f =
      let l = taken_as t (uris_in v f) in
      let s = start T.cats in
      ap (λ z. run_over t d v z 0 f.parts f.ended) begin-right
      ∙ over-right v s (state-start T h.well-formed) 0 f.parts f.ended
      ∙ over-needed T s 0 l f.ended
      ∙ ap (reached_at T (f.ended || is_settled T (come T s l)) (come T s l)) (zero-add (needed T l))
      ∙ ap (λ z. reached_at T (f.ended || is_settled T z) z (needed T l)) (run-used (step (env_of T)) s (take (needed T l) l))
