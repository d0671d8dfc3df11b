-- What is claimed of the answers, for all bytes, every set and every number, in the words of theory_kept.
use Rattle.std.specs.Prelude.{ℕ, suc, ◌≤◌, ◌<◌, ◌≡◌, ◌⊎◌, true, length, take}
use mathlib.Core.List.{List, Memᴰ}
use Rattle.theory_resolution.specs.Table.{Urn}
use Rattle.theory_resolution.specs.Nodes.{nodes, node_at, is_node}
use Rattle.theory_kept.specs.Kept.{EachUsed, KeptBy, LostBy, rung, rung_available}
use Rattle.table_kept.specs.Marks.{numbers_of}
use Rattle.table_decode.specs.Tables.{table_refusal, table_of}
use Rattle.resolve_available.specs.Available.{has_bit}
use Rattle.resolve_available.specs.Claims.{Strange, Everyone}
use Rattle.table_kept.specs.Answers.{refused_kept, kept_answer_of, refused_rung, rung_of}

-- the node with index k; its number is k + 1
abbrev pub mark_at : List ℕ → ℕ → Urn
mark_at t k = node_at (nodes (table_of t)) k

-- the signal that a list of used URNs rings while the signals of the set are available
abbrev pub ring_of : List ℕ → ℕ → List Urn → ℕ
ring_of t set us = rung_available (table_of t) (has_bit set) us

-- the table keeps the node with index k while the signals of the set are available; a list shows that it does not
abbrev pub Keeps : List ℕ → ℕ → ℕ → Type 0
Keeps t set k = KeptBy (table_of t) (ring_of t set) (mark_at t k).cat (mark_at t k).path

abbrev pub Loses : List ℕ → ℕ → ℕ → List Urn → Type 0
Loses t set k us = LostBy (table_of t) (ring_of t set) (mark_at t k).cat (mark_at t k).path us

-- the list that is shown where the mark is lost
pub record ShownLoss (t : List ℕ) (set k : ℕ) : Type 0 where
  pub list : List Urn
  -- it is told by the numbers of its nodes
  pub counted : (kept_answer_of t set (suc k)).len ≡ length list
  pub numbers : take (kept_answer_of t set (suc k)).len (kept_answer_of t set (suc k)).marks ≡ numbers_of (table_of t) list
  pub of-nodes : (u : Urn) → Memᴰ u list → is_node (nodes (table_of t)) u.cat u.path ≡ true
  -- it rings this signal, it shows the loss, and no list that shows it is shorter
  pub rings : ring_of t set list ≡ (kept_answer_of t set (suc k)).rings
  pub lost : Loses t set k list
  pub shortest : (us : List Urn) → Loses t set k us → length list ≤ length us

-- of a well-formed table, a set of its signals, and one of its nodes
pub record KeptClaim (t : List ℕ) (set k : ℕ) : Type 0 where
  pub accepted : (kept_answer_of t set (suc k)).refusal ≡ 0
  -- the answer is 1 exactly if the mark is kept, else 0 with a list that shows it
  pub kept_of : (kept_answer_of t set (suc k)).kept ≡ 1 → Keeps t set k
  pub of-kept : Keeps t set k → (kept_answer_of t set (suc k)).kept ≡ 1
  pub lost : ((kept_answer_of t set (suc k)).kept ≡ 1 → ⊥) → ((kept_answer_of t set (suc k)).kept ≡ 0) × ShownLoss t set k

abbrev pub AllKept : Type 0
AllKept = (t : List ℕ) (set : ℕ) → table_refusal t ≡ 0 → (Strange t set → ⊥) → (k : ℕ) → k < length (nodes (table_of t)) → KeptClaim t set k

-- with all of the table's signals available, a list rings what direct resolution gives
abbrev pub AllSignals : Type 0
AllSignals = (t : List ℕ) (set : ℕ) → Everyone t set → (us : List Urn) → ring_of t set us ≡ rung (table_of t) us

-- the list that is shown where a signal can ring
pub record ShownRing (t : List ℕ) (set s : ℕ) : Type 0 where
  pub list : List Urn
  pub counted : (rung_of t set s).len ≡ length list
  pub numbers : take (rung_of t set s).len (rung_of t set s).marks ≡ numbers_of (table_of t) list
  -- it rings the signal, and no list that does is shorter
  pub used : EachUsed (table_of t) list
  pub rings : ring_of t set list ≡ s
  pub shortest : (us : List Urn) → EachUsed (table_of t) us → ring_of t set us ≡ s → length list ≤ length us

-- of a well-formed table, a set of its signals, and one of its signals
pub record RingClaim (t : List ℕ) (set s : ℕ) : Type 0 where
  pub accepted : (rung_of t set s).refusal ≡ 0
  -- the answer is 1 with a list that rings the signal, or 0 and none does
  pub rung-by : (rung_of t set s).rings ≡ 1 → ShownRing t set s
  pub never : ((rung_of t set s).rings ≡ 1 → ⊥) → (rung_of t set s ≡ refused_rung 0) × ((us : List Urn) → EachUsed (table_of t) us → ring_of t set us ≡ s → ⊥)

abbrev pub AllRings : Type 0
AllRings = (t : List ℕ) (set : ℕ) → table_refusal t ≡ 0 → (Strange t set → ⊥) → (s : ℕ) → s < length (table_of t).signals → RingClaim t set s

-- of all bytes, every set and every number: 4 to 12 by the table, then 23 exactly for a bit that is no signal's, then 30 or 31 exactly
-- for a number that no node, or no signal, has; all else is 0
pub record Refused (t : List ℕ) (set d : ℕ) : Type 0 where
  pub table-first : (table_refusal t ≡ 0 → ⊥) → kept_answer_of t set d ≡ refused_kept (table_refusal t)
  pub then-set : table_refusal t ≡ 0 → Strange t set → kept_answer_of t set d ≡ refused_kept 23
  pub no-node : table_refusal t ≡ 0 → (Strange t set → ⊥) → (d ≡ 0) ⊎ (length (nodes (table_of t)) < d) → kept_answer_of t set d ≡ refused_kept 30
  pub table-first-ring : (table_refusal t ≡ 0 → ⊥) → rung_of t set d ≡ refused_rung (table_refusal t)
  pub then-set-ring : table_refusal t ≡ 0 → Strange t set → rung_of t set d ≡ refused_rung 23
  pub no-signal : table_refusal t ≡ 0 → (Strange t set → ⊥) → length (table_of t).signals ≤ d → rung_of t set d ≡ refused_rung 31

abbrev pub AllRefused : Type 0
AllRefused = (t : List ℕ) (set d : ℕ) → Refused t set d

-- no other numbers are given, and each of these is: by the question for a mark, and by that for a signal
abbrev pub KeptNumber : ℕ → Type 0
KeptNumber n = (n ≡ 0) ⊎ (((4 ≤ n) × (n ≤ 12)) ⊎ ((n ≡ 23) ⊎ (n ≡ 30)))

abbrev pub RungNumber : ℕ → Type 0
RungNumber n = (n ≡ 0) ⊎ (((4 ≤ n) × (n ≤ 12)) ⊎ ((n ≡ 23) ⊎ (n ≡ 31)))

abbrev pub OnlyNumbers : Type 0
OnlyNumbers = (t : List ℕ) (set d : ℕ) → KeptNumber (kept_answer_of t set d).refusal × RungNumber (rung_of t set d).refusal

pub record EachNumber : Type 0 where
  pub kept : (n : ℕ) → KeptNumber n → (t : List ℕ) × (set : ℕ) × (d : ℕ) × ((kept_answer_of t set d).refusal ≡ n)
  pub rung : (n : ℕ) → RungNumber n → (t : List ℕ) × (set : ℕ) × (s : ℕ) × ((rung_of t set s).refusal ≡ n)
