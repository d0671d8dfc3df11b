-- One mark given at a signal, every category being open: it is said exactly if its category is open after it.
use Prim.Native.Nat.{ℕ, ◌<◌}
use mathlib.Core.Path.{◌≡◌, refl, sym, ap, ◌∙◌}
use mathlib.Core.Bool.{Bool, true, false, cond, true≢false}
use mathlib.Core.Option.{Option, none, some, none-ne-some}
use mathlib.Core.List.{List, [], ◌∷◌, ◌++◌, append-nil}
use lib.ListN.{get_or, set, replicate, length-replicate, get_or-replicate}
use lib.Seq.{set-get_or, get_or-set_same}
use Rattle.theory_resolution.specs.Names.{Name, Parts, same_parts, proper_ancestor, Above, longer, candidates}
use Rattle.theory_resolution.specs.Table.{Urn, Table, Row, row_of}
use Rattle.theory_resolution.specs.Nodes.{nodes, is_inner}
use Rattle.theory_resolution.specs.Direct.{Status, Open, Held, Shut, State, Env, env_by, Hit, first_hit, held_if, open_or, takes_urn, move, step}
use Rattle.theory_resolution.proofs.Names.{parts-exact, longer-first, proper-to, proper-of}
use Rattle.theory_resolution.proofs.Direct.{search-hit, search-last}
use Rattle.theory_resolution.proofs.Step.{EnvLaws, step-still, step-takes}
use Rattle.theory_kept.specs.Decision.{is_there, with_mark, after_mark}
use Rattle.theory_kept.proofs.Marks.{open_at, Live}

-- a category is open
abbrev pub opens : Status → Bool
opens Open = true
opens (Held w) = false
opens Shut = false

opens-held : (b : Bool) (u : Parts) → opens (held_if b u) ≡ false
opens-held true u = refl
opens-held false u = refl

module _ (t : Table) (finder : Row → Option ℕ) (laws : EnvLaws (env_by t finder) t.cats (nodes t)) (s : ℕ) (live : Live t finder laws s)
    (u : Urn) (known : u.cat < t.cats) where
  abbrev env : Env
  env = env_by t finder

  abbrev now : State
  now = open_at t finder laws s

  abbrev q : Parts
  q = get_or (row_of t s) u.cat []

  -- what became of the mark
  pub record Became : Type 0 where
    pub signal : after_mark env s u ≡ cond (opens (get_or (step env now u).status u.cat Open)) (step env now u).signal s
    pub said : Above q u.path → opens (get_or (step env now u).status u.cat Open) ≡ is_there (with_mark env s u.cat u.path)

  all-open : get_or (replicate t.cats Open) u.cat Open ≡ Open
  all-open = get_or-replicate t.cats u.cat Open Open known

  -- it is not taken
  still : proper_ancestor q u.path ≡ false → Became
  still e =
      record {
        signal = rw (e, same, all-open) refl;
        said = λ a. rw (same, all-open) (sym (there a));
      }
    where
      same : step env now u ≡ now
      same = step-still env now u (ap (λ o. takes_urn o q u.path) all-open ∙ e)

      there : Above q u.path → is_there (with_mark env s u.cat u.path) ≡ true
      there a = go a.rest a.joined
        where
          go : (r : Parts) → q ++ r ≡ u.path → is_there (with_mark env s u.cat u.path) ≡ true
          go [] j = rw (sym j ∙ append-nil q, set-get_or (row_of t s) u.cat [], live)
          go (x ∷ r) j = absurd (true≢false (sym (proper-of q u.path x r j) ∙ e))

  -- it is taken
  taken : proper_ancestor q u.path ≡ true → Became
  taken e = by (finder (set (row_of t s) u.cat u.path)) refl
    where
      v : (x : Name) × (r : Parts) × (q ++ x ∷ r ≡ u.path)
      v = proper-to q u.path e

      moved : (h : Hit) → first_hit env (row_of t s) u.cat (candidates q (v.0 ∷ v.1)) ≡ some h
          → step env now u ≡ record {
            signal = h.signal;
            status = set (replicate t.cats Open) u.cat (open_or (same_parts h.at u.path) (held_if (is_inner (nodes t) u.cat u.path) u.path));
          }
      moved h f =
          step-takes env now u (v.0 ∷ v.1) (ap (λ o. takes_urn o q u.path) all-open ∙ e) v.2
          ∙ ap (move env now u.cat u.path) f

      status : (h : Hit) → first_hit env (row_of t s) u.cat (candidates q (v.0 ∷ v.1)) ≡ some h
          → get_or (step env now u).status u.cat Open ≡ open_or (same_parts h.at u.path) (held_if (is_inner (nodes t) u.cat u.path) u.path)
      status h f =
          ap (λ st. get_or st.status u.cat Open) (moved h f)
          ∙ get_or-set_same (replicate t.cats Open) u.cat _ Open (rw (length-replicate t.cats Open) known)

      by : (o : Option ℕ) → finder (set (row_of t s) u.cat u.path) ≡ o → Became
      by (some r) f =
          record {
            signal = rw (e, f, is_open, ap (λ st. st.signal) (moved hit first)) refl;
            said = λ a. rw (is_open, f) refl;
          }
        where
          hit : Hit
          hit = record { at = u.path; signal = r }

          head : (l : List Parts) × (longer q (v.0 ∷ v.1) ≡ (q ++ v.0 ∷ v.1) ∷ l)
          head = longer-first q v.0 v.1

          first : first_hit env (row_of t s) u.cat (candidates q (v.0 ∷ v.1)) ≡ some hit
          first = rw (head.1, v.2, f)

          is_open : get_or (step env now u).status u.cat Open ≡ Open
          is_open = status hit first ∙ ap (λ b. open_or b (held_if (is_inner (nodes t) u.cat u.path) u.path)) (parts-exact.self u.path)
      by none f =
          record {
            signal = rw (e, f, not-open) refl;
            said = λ a. rw (not-open, f) refl;
          }
        where
          hh : (h : Hit) × (first_hit env (row_of t s) u.cat (candidates q (v.0 ∷ v.1)) ≡ some h)
          hh = search-last env (row_of t s) u.cat (longer q (v.0 ∷ v.1)) q s (rw (set-get_or (row_of t s) u.cat []) live)

          other : same_parts hh.0.at u.path ≡ false
          other = go (same_parts hh.0.at u.path) refl
            where
              go : (b : Bool) → same_parts hh.0.at u.path ≡ b → b ≡ false
              go false i = refl
              go true i =
                  let k = (search-hit env (row_of t s) u.cat (candidates q (v.0 ∷ v.1)) hh.0 hh.1).0 in
                  absurd (none-ne-some hh.0.signal (sym f ∙ ap (λ p. finder (set (row_of t s) u.cat p))
                  (sym (parts-exact.to hh.0.at u.path i)) ∙ k))

          not-open : opens (get_or (step env now u).status u.cat Open) ≡ false
          not-open =
              ap opens (status hh.0 hh.1 ∙ ap (λ b. open_or b (held_if (is_inner (nodes t) u.cat u.path) u.path)) other)
              ∙ opens-held (is_inner (nodes t) u.cat u.path) u.path

  pub became : Became
  became = go (proper_ancestor q u.path) refl
    where
      go : (b : Bool) → proper_ancestor q u.path ≡ b → Became
      go false e = still e
      go true e = taken e
