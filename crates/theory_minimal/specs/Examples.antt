-- Examples: small machines, proposals and their answers.
use Rattle.std.specs.Prelude.{ℕ, Bool, true, false, List, [], ◌∷◌, get_or, length}
use Rattle.theory_minimal.specs.Machine.{Machine}

-- a machine of two symbols by its states' signals, and their targets for each of the two
abbrev pub of_two : (signals first second : List ℕ) → Machine
of_two signals first second =
    record {
      states = length signals;
      symbols = 2;
      signal = λ j. get_or signals j 0;
      target = λ j k. get_or (get_or (first ∷ second ∷ []) k []) j 0;
    }

-- four states, of which 1 and 2 behave alike
abbrev pub M1 : Machine
M1 = of_two (0 ∷ 1 ∷ 1 ∷ 0 ∷ []) (1 ∷ 1 ∷ 2 ∷ 3 ∷ []) (2 ∷ 3 ∷ 3 ∷ 3 ∷ [])

-- nothing leads to state 2, and no other behaves as it does
abbrev pub M2 : Machine
M2 = of_two (0 ∷ 1 ∷ 2 ∷ []) (1 ∷ 1 ∷ 0 ∷ []) (1 ∷ 1 ∷ 0 ∷ [])

-- nothing leads to state 2, and state 1 behaves as it does
abbrev pub M3 : Machine
M3 = of_two (0 ∷ 1 ∷ 1 ∷ []) (1 ∷ 1 ∷ 1 ∷ []) (1 ∷ 1 ∷ 1 ∷ [])

-- states 0 and 1 differ only after two symbols
abbrev pub M4 : Machine
M4 = of_two (0 ∷ 0 ∷ 0 ∷ 1 ∷ []) (1 ∷ 2 ∷ 3 ∷ 3 ∷ []) (1 ∷ 2 ∷ 3 ∷ 3 ∷ [])

pub record Case : Type 0 where
  pub proposal : List ℕ
  pub accepted : Bool

abbrev pub case : List ℕ → Bool → Case
case p b = record { proposal = p; accepted = b }

-- proposals for M1: two that fit; then one that is too short, one that is too long, a start that is not in class 0, two signals in a class,
-- rows that lead to different classes, a class that no state has, and two classes that behave alike
abbrev pub cases : List Case
cases =
    case (0 ∷ 1 ∷ 1 ∷ 2 ∷ []) true
    ∷ case (0 ∷ 2 ∷ 2 ∷ 1 ∷ []) true
    ∷ case (0 ∷ 1 ∷ 1 ∷ []) false
    ∷ case (0 ∷ 1 ∷ 1 ∷ 2 ∷ 2 ∷ []) false
    ∷ case (1 ∷ 0 ∷ 0 ∷ 2 ∷ []) false
    ∷ case (0 ∷ 0 ∷ 0 ∷ 1 ∷ []) false
    ∷ case (0 ∷ 1 ∷ 1 ∷ 0 ∷ []) false
    ∷ case (0 ∷ 1 ∷ 1 ∷ 3 ∷ []) false
    ∷ case (0 ∷ 1 ∷ 2 ∷ 3 ∷ []) false
    ∷ []
