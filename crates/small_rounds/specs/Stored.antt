-- A machine in rows of bytes: a state's signal first, its targets last, and other bytes between them.
use Rattle.std.specs.Prelude.{ℕ, ◌+◌, ◌*◌, ◌≤◌, ◌<◌, Bool, ◌&&◌, List, leb, ltb, get_or, length}
use Rattle.base_numbers.specs.Numbers.{most_states}
use Rattle.base_lists.specs.Lists.{all_below}
use Rattle.theory_minimal.specs.Machine.{Machine, Formed}

-- n states, with head bytes before the targets for k symbols
abbrev pub stored_machine : List ℕ → ℕ → ℕ → ℕ → Machine
stored_machine rows n head k =
    record {
      states = n;
      symbols = k;
      signal = λ j. get_or rows (j * (head + k)) 0;
      target = λ j s. get_or rows (j * (head + k) + head + s) 0;
    }

-- the target of state j for symbol s is a state
abbrev pub leads_on : Machine → ℕ → ℕ → Bool
leads_on m j s = ltb (m.target j s) m.states

-- all targets of state j are
abbrev pub row_leads : Machine → ℕ → Bool
row_leads m j = all_below m.symbols (leads_on m j)

-- there are 1 to 256 states with a signal and at most 512 symbols each, the rows are there, and every target is a state
unfoldable pub is_stored : List ℕ → ℕ → ℕ → ℕ → Bool
is_stored rows n head k =
    leb 1 n
    && (leb n most_states
    && (leb 1 head
    && (leb head 512
    && (leb k 512
    && (leb (n * (head + k)) (length rows)
    && all_below n (row_leads (stored_machine rows n head k)))))))

-- the first six of these as a fact
pub record Room (rows : List ℕ) (n head k : ℕ) : Type 0 where
  pub some : 1 ≤ n
  pub few : n ≤ most_states
  pub signalled : 1 ≤ head
  pub short : head ≤ 512
  pub narrow : k ≤ 512
  pub bytes : n * (head + k) ≤ length rows

-- all of it as a fact
pub record Stored (rows : List ℕ) (n head k : ℕ) : Type 0 where
  pub few : n ≤ most_states
  pub signalled : 0 < head
  pub narrow : head + k ≤ 1024
  pub room : n * (head + k) ≤ length rows
  pub formed : Formed (stored_machine rows n head k)
