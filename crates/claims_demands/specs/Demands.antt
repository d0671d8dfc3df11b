-- The three demands on the whole software, as claims.
use Rattle.std.specs.Prelude.{ℕ, ◌+◌, ◌-◌, ◌≤◌, ◌≡◌, ◌↔◌, ◌⊎◌, List, [], ◌++◌, length, take, replicate}
use Rattle.value_reader.specs.Claims.{RefusedExactly}
use Rattle.value_reader.specs.Value.{refusal_of, uris_of, entry_of, entry_refusal_of}
use Rattle.theory_resolution.specs.Names.{Parts}
use Rattle.theory_resolution.specs.Table.{most_parts}
use Rattle.theory_resolution.specs.Direct.{used_of, used_count, skipped_count, step_uri, changes}
use Rattle.theory_resolution.specs.Says.{Says, Given}
use Rattle.node_search.specs.Uses.{used_urn}
use Rattle.machine_image.specs.Image.{signal_in, machine_image}
use Rattle.machine_image.specs.Walk.{step_over}
use Rattle.small_image.specs.Numbers.{small_of}
use Rattle.table_decode.specs.Tables.{table_refusal, table_of, category_names}
use Rattle.table_decode.specs.Claims.{TableRefusedExactly}
use Rattle.resolve_record.specs.declared.Carried.{Carried}
use Rattle.machine_library.specs.Built.{built_from, buffer_from, check_from}
use Rattle.machine_library.specs.Claims.{TooManyStates, BuildExactly, RightForm, RightImage}
use Rattle.resolve_early.specs.Early.{early_of}
use Rattle.resolve_early.specs.Claims.{EarlyClaims}
use Rattle.resolve_available.specs.Available.{available_signal, available_of}
use Rattle.resolve_pair.specs.Pair.{pair_of}
use Rattle.resolve_pair.specs.Claims.{Shared, PairAnswers, Together}
use Rattle.resolve_small.specs.Resolve.{walked_over, resolved_small}
use Rattle.resolve_small.specs.Claims.{SmallAnswers}
use Rattle.resolve_library.specs.Resolve.{taken_as, direct_signal, walked_signal, answered, plain_of, machine_of}
use Rattle.resolve_library.specs.Feed.{feed_of}
use Rattle.claims_demands.specs.Feeding.{OneValue, EndsDirect, NeverRefused, JoinedAlike}
use Rattle.claims_demands.specs.BesidePlain.{BesidePlain}
use Rattle.claims_demands.specs.BesideMachine.{GoesWith, OneOfTwo, Proposed}
use Rattle.claims_demands.specs.FirstNumber.{FirstNumber}

-- a number from lo to hi
abbrev pub Among : ℕ → ℕ → ℕ → Type 0
Among lo hi n = (lo ≤ n) × (n ≤ hi)

-- the numbers that may be given, 0 for accepted: by the question about a value, by that about an entry, by that about a table,
-- by the plain resolver and by the early question, by the machine resolver and by that of small images, among the available signals, for ring and lamp apart, for one of several values, by the
-- builder and by the checker
abbrev pub ValueNumber : ℕ → Type 0
ValueNumber n = (n ≡ 0) ⊎ Among 1 3 n

abbrev pub EntryNumber : ℕ → Type 0
EntryNumber n = (n ≡ 0) ⊎ (Among 1 3 n ⊎ (n ≡ 18))

abbrev pub TableNumber : ℕ → Type 0
TableNumber n = (n ≡ 0) ⊎ Among 4 12 n

abbrev pub PlainNumber : ℕ → Type 0
PlainNumber n = (n ≡ 0) ⊎ Among 1 12 n

abbrev pub MachineNumber : ℕ → Type 0
MachineNumber n = (n ≡ 0) ⊎ (Among 1 12 n ⊎ (n ≡ 15))

abbrev pub AvailableNumber : ℕ → Type 0
AvailableNumber n = (n ≡ 0) ⊎ (Among 1 12 n ⊎ (n ≡ 23))

abbrev pub PairNumber : ℕ → Type 0
PairNumber n = (n ≡ 0) ⊎ (Among 1 12 n ⊎ (n ≡ 24))

abbrev pub FeedNumber : ℕ → Type 0
FeedNumber n = (n ≡ 0) ⊎ (Among 1 12 n ⊎ ((n ≡ 19) ⊎ (n ≡ 28)))

abbrev pub BuildNumber : ℕ → Type 0
BuildNumber n = (n ≡ 0) ⊎ Among 4 14 n

abbrev pub CheckNumber : ℕ → Type 0
CheckNumber n = (n ≡ 0) ⊎ (Among 4 12 n ⊎ Among 15 17 n)

-- Demand 1: bad input is refused by a number, and nothing else comes of it. That every function answers for all bytes, with no
-- condition on the caller, is seen from the functions' contracts: none has a `requires`.
pub record Demand1 (t : List ℕ) : Type 0 where
  -- each answer is 0 or one of the numbers that are due there
  pub value-number : (v : List ℕ) → ValueNumber (refusal_of v)
  pub entry-number : (v : List ℕ) (k : ℕ) → EntryNumber (entry_refusal_of v k)
  pub table-number : TableNumber (table_refusal t)
  pub plain-number : (v : List ℕ) → PlainNumber (plain_of t v).refusal
  pub machine-number : (im v : List ℕ) → MachineNumber (machine_of t im v).refusal
  pub small-number : (small v : List ℕ) → MachineNumber (resolved_small t small v).refusal
  pub pair-number : (lamp v : List ℕ) → PairNumber (pair_of t lamp v).refusal
  pub available-number : (set : ℕ) (v : List ℕ) → AvailableNumber (available_of t set v).refusal
  pub feed-number : (r : Carried) (v : List ℕ) → FeedNumber (feed_of t r v).answer.refusal
  pub early-number : (v : List ℕ) → PlainNumber (early_of t v).refusal
  pub build-number : (room : ℕ) → BuildNumber (built_from t room).refusal
  pub check-number : (im : List ℕ) → CheckNumber (check_from t im)
  -- an entry is refused exactly if its part is empty
  pub entry-refused : (v : List ℕ) (k : ℕ) → (entry_refusal_of v k ≡ 0 → ⊥) ↔ (entry_of v k ≡ [])
  -- a refused resolution is signal 0 with both counts 0
  pub plain-refused : (v : List ℕ) → ((plain_of t v).refusal ≡ 0 → ⊥) → plain_of t v ≡ record { refusal = (plain_of t v).refusal; signal = 0; used = 0; skipped = 0 }
  pub machine-refused : (im v : List ℕ) → ((machine_of t im v).refusal ≡ 0 → ⊥) → machine_of t im v ≡ record { refusal = (machine_of t im v).refusal; signal = 0; used = 0; skipped = 0 }
  pub small-refused : (small v : List ℕ) → ((resolved_small t small v).refusal ≡ 0 → ⊥)
      → resolved_small t small v ≡ record { refusal = (resolved_small t small v).refusal; signal = 0; used = 0; skipped = 0 }
  pub available-refused : (set : ℕ) (v : List ℕ) → ((available_of t set v).refusal ≡ 0 → ⊥)
      → available_of t set v ≡ record { refusal = (available_of t set v).refusal; signal = 0; used = 0; skipped = 0 }
  -- a refused pair is 0 and 0
  pub pair-refused : (lamp v : List ℕ) → ((pair_of t lamp v).refusal ≡ 0 → ⊥) → pair_of t lamp v ≡ record { refusal = (pair_of t lamp v).refusal; ring = 0; lamp = 0 }
  -- a refused early question has the plain resolver's number, with signal 0 and no entries
  pub early-refused : (v : List ℕ) → ((early_of t v).refusal ≡ 0 → ⊥) → early_of t v ≡ record { refusal = (plain_of t v).refusal; signal = 0; entries = 0 }
  -- of several values, what each does by its number, whatever record it is fed with; no record that feeding gave is refused with 28
  pub one_value : (r : Carried) (v : List ℕ) → OneValue t r v
  pub never-refused : NeverRefused t
  -- a refused build leaves the whole buffer zero, whatever its length
  pub build-refused : (room : ℕ) → ((built_from t room).refusal ≡ 0 → ⊥) → ((built_from t room).len ≡ 0) × (buffer_from t room ≡ replicate room 0)

-- Demand 2: exactly
pub record Demand2 (t : List ℕ) : Type 0 where
  -- a value's number is the one that the grammar and the limits give it, both ways; 0 is accepted
  pub values : RefusedExactly
  -- a table's number is the smallest of 4 to 12 that is due, both ways; 0 is accepted
  pub tables : TableRefusedExactly
  -- a resolver gives the value's number first, then the table's, then 15
  pub first-number : FirstNumber t
  -- the plain resolver gives direct resolution's signal, with the numbers of used and skipped entries
  pub plain-answer : (v : List ℕ) → refusal_of v ≡ 0 → table_refusal t ≡ 0
      → plain_of t v
      ≡ record {
        refusal = 0;
        signal = direct_signal t (uris_of v);
        used = used_count (taken_as t (uris_of v));
        skipped = skipped_count (taken_as t (uris_of v));
      }
  -- and every entry is one or the other
  pub all-counted : (v : List ℕ) → (plain_of t v).refusal ≡ 0 → (plain_of t v).used + (plain_of t v).skipped ≡ length (uris_of v)
  -- the machine resolver walks any image of the right form, checked or not, and 15 is given exactly to every other
  pub machine-walks : (im v : List ℕ) → refusal_of v ≡ 0 → table_refusal t ≡ 0 → RightForm (table_of t) im
      → machine_of t im v ≡ answered t (uris_of v) (walked_signal t im (uris_of v))
  pub machine-fifteen : (im v : List ℕ) → ((machine_of t im v).refusal ≡ 15) ↔ ((refusal_of v ≡ 0) × (table_refusal t ≡ 0) × (RightForm (table_of t) im → ⊥))
  -- the resolver of small images: the numbers in their order, 15 exactly for a wrong form, else the walk's signal
  pub small : (small v : List ℕ) → SmallAnswers t small v
  -- no bytes are read as a small image and as an image
  pub small-or-large : (b v : List ℕ) → OneOfTwo t b v
  -- with a small image that goes with an image of right form, checked or not, it answers as the machine resolver
  pub small-machine : (im small v : List ℕ) → RightForm (table_of t) im → GoesWith t im small → resolved_small t small v ≡ machine_of t im v
  -- the small image that a fitting proposal makes of an image of right form goes with it
  pub small-proposed : (im p : List ℕ) → RightForm (table_of t) im → Proposed t im p → GoesWith t im (small_of (table_of t) im p)
  -- the early answer has direct resolution's signal too, for every value that the plain resolver accepts
  pub early-signal : (v : List ℕ) → (plain_of t v).refusal ≡ 0 → ((early_of t v).refusal ≡ 0) × ((early_of t v).signal ≡ (plain_of t v).signal)
  -- and which entries it needs is told in the words of the grammar and of the theory, both ways
  pub early : (v : List ℕ) → EarlyClaims t v
  -- among the available signals, direct resolution with the others absent from the search
  pub available-signal : (set : ℕ) (v : List ℕ) → (available_of t set v).refusal ≡ 0 → (available_of t set v).signal ≡ available_signal t set (uris_of v)
  -- with all of them the plain resolver's answer, and 23 exactly for a bit that is no signal's
  pub available : (set : ℕ) (v : List ℕ) → BesidePlain t set v
  -- ring and lamp by two tables: the numbers in their order, 24 exactly for a category in common, else each table's signal
  pub pair : (lamp v : List ℕ) → PairAnswers t lamp v
  -- and over every list of URIs the table of all pairs is at that pair
  pub together : (lamp : List ℕ) → table_refusal t ≡ 0 → table_refusal lamp ≡ 0 → (Shared t lamp → ⊥) → (uris : List (List ℕ)) → Together t lamp uris
  -- feeding several values one after another gives it too, over the URNs of the accepted ones in order
  pub ends-direct : EndsDirect t
  -- and it gives what the values joined by commas give
  pub joined-alike : JoinedAlike t
  -- the builder gives 13 and 14 exactly where they are due
  pub build-exactly : (room : ℕ) → BuildExactly t room
  -- wherever the build succeeds, it has written the machine of the table, and zeros after it
  pub image-written : (room : ℕ) → (built_from t room).refusal ≡ 0
      → ((built_from t room).len ≡ length (machine_image (table_of t)))
      × (buffer_from t room ≡ machine_image (table_of t) ++ replicate (room - length (machine_image (table_of t))) 0)
  -- the checker accepts exactly the right machines
  pub checked : (im : List ℕ) → (check_from t im ≡ 0) ↔ RightImage t im

-- an image walked over URIs as bytes, used and skipped, at the point between before and after; its states have a byte for each of n
-- categories: the table's in an image, none in a small one
pub record WalkClaim (n : ℕ) (t im : List ℕ) (before after : List (List ℕ)) : Type 0 where
  -- its signal is direct resolution's: at the start, where before is empty, and after each URI
  pub agrees : walked_over n t im before ≡ direct_signal t before
  -- it says only given URNs or their ancestors
  pub only-given : (c : ℕ) (p : Parts) → Says (table_of t) (walked_over n t im before) c p → Given (used_of (taken_as t before)) c p
  -- what it said at this point it still says at every later one
  pub still-says : (c : ℕ) (p : Parts) → Says (table_of t) (walked_over n t im before) c p → Says (table_of t) (walked_over n t im (before ++ after)) c p
  -- over the list it changes at most as often as the largest number of parts that one signal names in all its URNs
  pub few-changes : changes (signal_in n im) (λ j uri. step_uri (step_over n (table_of t) im) j (used_urn (category_names t) uri)) 0 (before ++ after)
      ≤ most_parts (table_of t).signals

-- Demand 3, for a well-formed table with at most 256 reachable states
pub record Demand3 (t : List ℕ) : Type 0 where
  -- the build succeeds in exactly the buffers that hold the image, and the checker accepts what it leaves there
  pub builds : (room : ℕ) → ((built_from t room).refusal ≡ 0) ↔ (length (machine_image (table_of t)) ≤ room)
  pub checked : (room : ℕ) → (built_from t room).refusal ≡ 0 → check_from t (take (built_from t room).len (buffer_from t room)) ≡ 0
  -- for that image or any other that the checker accepts, over every list of URIs
  pub walks : (im : List ℕ) → check_from t im ≡ 0 → (before after : List (List ℕ)) → WalkClaim (table_of t).cats t im before after
  -- for all bytes as a value both resolvers answer alike, in all four numbers
  pub alike : (im : List ℕ) → check_from t im ≡ 0 → (v : List ℕ) → machine_of t im v ≡ plain_of t v
  -- a small image that goes with an accepted image has the same over every list of URIs, and its resolver answers alike
  pub small-walks : (im small : List ℕ) → check_from t im ≡ 0 → GoesWith t im small → (before after : List (List ℕ)) → WalkClaim 0 t small before after
  pub small-alike : (im small : List ℕ) → check_from t im ≡ 0 → GoesWith t im small → (v : List ℕ) → resolved_small t small v ≡ plain_of t v
  -- for an accepted value these are the walk's signal over the value's list, the numbers of its used and skipped entries, and 0
  pub answers : (im : List ℕ) → check_from t im ≡ 0 → (v : List ℕ) → refusal_of v ≡ 0
      → plain_of t v
      ≡ record {
        refusal = 0;
        signal = walked_signal t im (uris_of v);
        used = used_count (taken_as t (uris_of v));
        skipped = skipped_count (taken_as t (uris_of v));
      }

-- what is proved: demands 1 and 2 for all bytes, demand 3 for every well-formed table with at most 256 reachable states
abbrev pub DemandOne : Type 0
DemandOne = (t : List ℕ) → Demand1 t

abbrev pub DemandTwo : Type 0
DemandTwo = (t : List ℕ) → Demand2 t

abbrev pub DemandThree : Type 0
DemandThree = (t : List ℕ) → table_refusal t ≡ 0 → (TooManyStates t → ⊥) → Demand3 t
