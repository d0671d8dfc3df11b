-- What a mark that a table keeps, or loses, means for the resolvers: for all bytes.
use Rattle.std.specs.Prelude.{ℕ, ◌-◌, ◌≡◌, List, map, take}
use Rattle.theory_resolution.specs.Table.{Urn}
use Rattle.theory_resolution.specs.Direct.{used_of}
use Rattle.theory_resolution.specs.Says.{Says, Given}
use Rattle.theory_kept.specs.Kept.{OneWay}
use Rattle.value_reader.specs.Value.{uris_of}
use Rattle.table_decode.specs.Tables.{table_of}
use Rattle.machine_library.specs.Built.{check_from}
use Rattle.resolve_available.specs.Available.{available_of}
use Rattle.resolve_available.specs.Claims.{Everyone}
use Rattle.resolve_library.specs.Resolve.{taken_as, plain_of, machine_of}
use Rattle.table_kept.specs.Answers.{kept_answer_of}
use Rattle.table_kept.specs.Claims.{mark_at}

-- the URNs of a value that the table uses, in their order
abbrev pub used_in : List ℕ → List ℕ → List Urn
used_in t v = used_of (taken_as t (uris_of v))

-- the value gives the node with number d, and goes one way in its category
pub record Gives (t : List ℕ) (d : ℕ) (v : List ℕ) : Type 0 where
  pub given : Given (used_in t v) (mark_at t (d - 1)).cat (mark_at t (d - 1)).path
  pub one_way : OneWay (mark_at t (d - 1)).cat (used_in t v)

-- signal s says the node with number d
abbrev pub SaysNode : List ℕ → ℕ → ℕ → Type 0
SaysNode t s d = Says (table_of t) s (mark_at t (d - 1)).cat (mark_at t (d - 1)).path

-- where the answer is that a mark is kept, whatever bytes come as a value: if the value is accepted, gives the mark and goes one way in
-- its category, the signal says it
pub record KeptIsSaid (t : List ℕ) (set d : ℕ) (v : List ℕ) : Type 0 where
  -- while only the signals of the set are available
  pub available : (available_of t set v).refusal ≡ 0 → Gives t d v → SaysNode t (available_of t set v).signal d
  -- with the answer for all signals: the plain resolver's signal, and the machine resolver's with any machine that the checker accepts
  pub plain : Everyone t set → (plain_of t v).refusal ≡ 0 → Gives t d v → SaysNode t (plain_of t v).signal d
  pub machine : Everyone t set → (im : List ℕ) → check_from t im ≡ 0 → (machine_of t im v).refusal ≡ 0 → Gives t d v → SaysNode t (machine_of t im v).signal d

abbrev pub EveryKept : Type 0
EveryKept = (t : List ℕ) (set d : ℕ) → (kept_answer_of t set d).kept ≡ 1 → (v : List ℕ) → KeptIsSaid t set d v

-- where the answer is that a mark is lost: every accepted value whose used URNs are the nodes of the list shown gives the mark and goes
-- one way in its category, and gets the signal answered, which does not say it
pub record LostIsShown (t : List ℕ) (set d : ℕ) (v : List ℕ) : Type 0 where
  pub gives : Gives t d v
  pub unsaid : SaysNode t (kept_answer_of t set d).rings d → ⊥
  pub available : (available_of t set v).refusal ≡ 0 → (available_of t set v).signal ≡ (kept_answer_of t set d).rings
  pub plain : Everyone t set → (plain_of t v).refusal ≡ 0 → (plain_of t v).signal ≡ (kept_answer_of t set d).rings

-- the nodes of the list shown, as URNs
abbrev pub shown_urns : List ℕ → ℕ → ℕ → List Urn
shown_urns t set d = map (λ n. mark_at t (n - 1)) (take (kept_answer_of t set d).len (kept_answer_of t set d).marks)

abbrev pub EveryLost : Type 0
EveryLost = (t : List ℕ) (set d : ℕ) → (kept_answer_of t set d).refusal ≡ 0 → (kept_answer_of t set d).kept ≡ 0 → (v : List ℕ)
    → used_in t v ≡ shown_urns t set d → LostIsShown t set d v
