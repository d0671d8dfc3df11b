-- Whether a mark is kept, decided over the signals alone, without statuses and without a machine; a shortest list that
-- shows a loss; and which signals can ring.
use Rattle.std.specs.Prelude.{ℕ, Bool, true, false, cond, not, ◌||◌, List, [], ◌∷◌, ◌++◌, map, eqb, get_or, set, length}
use Rattle.std.proofs.Math.Option.{Option, none, some}
use Rattle.base_lists.specs.Lists.{member_by}
use Rattle.theory_resolution.specs.Names.{Parts, below, proper_ancestor}
use Rattle.theory_resolution.specs.Table.{Urn, urn, Table}
use Rattle.theory_resolution.specs.Nodes.{nodes, node_at}
use Rattle.theory_resolution.specs.Direct.{Env}
use Rattle.theory_resolution.specs.Discovery.{discover}
use Rattle.theory_kept.specs.Way.{first_below, way_to}

-- there is one
abbrev pub is_there : {A : Type 0} → Option A → Bool
is_there none = false
is_there (some a) = true

-- the one that is there, or s
abbrev pub or_else : ℕ → Option ℕ → ℕ
or_else s none = s
or_else s (some r) = r

-- the signal that has p in category c and the places of s in every other
abbrev pub with_mark : Env → ℕ → ℕ → Parts → Option ℕ
with_mark env s c p = env.finder (set (env.rows s) c p)

-- the signal after a mark that properly extends the place of s: the one that says it besides, if there is one; else it stays
abbrev pub after_mark : Env → ℕ → Urn → ℕ
after_mark env s u = cond (proper_ancestor (get_or (env.rows s) u.cat []) u.path) (or_else s (with_mark env s u.cat u.path)) s

-- a mark that may be given before p of category c: one of another category, p itself or an ancestor of p
abbrev pub may_precede : ℕ → Parts → Urn → Bool
may_precede c p u = not (eqb u.cat c) || is_there (below u.path p)

-- every mark may be given
abbrev pub any_mark : Urn → Bool
any_mark u = true

module _ (t : Table) (env : Env) where
  -- the signal after the mark with index k, if it is one that may be given
  abbrev pub step_mark : (Urn → Bool) → ℕ → ℕ → ℕ
  step_mark may s k = cond (may (node_at (nodes t) k)) (after_mark env s (node_at (nodes t) k)) s

  -- the signals that such marks lead to from signal 0 on, numbered breadth first
  abbrev pub reachable : (Urn → Bool) → List ℕ
  reachable may = discover eqb (step_mark may) (length (nodes t)) 0 (length t.signals)

  -- the marks that lead to the one with number j, as few as possible
  abbrev pub marks_to : (Urn → Bool) → ℕ → List Urn
  marks_to may j = map (node_at (nodes t)) (way_to eqb (step_mark may) (length (nodes t)) 0 (reachable may) j)

  -- no signal says p besides what signal s says in the other categories
  abbrev pub lacks : ℕ → Parts → ℕ → Bool
  lacks c p s = not (is_there (with_mark env s c p))

  -- the number of the first signal, that is reachable before p, at which p is lost, or how many these are
  abbrev pub first_loss : ℕ → Parts → ℕ
  first_loss c p = first_below (λ j. lacks c p (get_or (reachable (may_precede c p)) j 0)) (length (reachable (may_precede c p)))

  -- the test: there is none
  abbrev pub keeps : ℕ → Parts → Bool
  keeps c p = eqb (first_loss c p) (length (reachable (may_precede c p)))

  -- the list that shows a loss: the marks that lead to that signal, then p
  abbrev pub shown : ℕ → Parts → List Urn
  shown c p = marks_to (may_precede c p) (first_loss c p) ++ urn c p ∷ []

  -- signal s can ring
  abbrev pub can_ring : ℕ → Bool
  can_ring s = member_by eqb s (reachable any_mark)
