-- What the definitions of direct resolution that the claims rest on mean: each is said once more, as laws about it.
-- proofs/Meaning.antt proves each.
use Rattle.std.specs.Prelude.{ℕ, suc, ◌+◌, ◌≤◌, ◌<◌, ◌≡◌, ◌⊎◌, ◌↔◌, ◌≢◌, true, false, get_or, set, length}
use Rattle.std.proofs.Math.Option.{Option, none, some}
use mathlib.Core.List.{List, [], ◌∷◌, ◌++◌, Memᴰ}
use Rattle.theory_resolution.specs.Names.{Name, Parts, Above}
use Rattle.theory_resolution.specs.Table.{Urn, urn, Table, place, row_of, parts_of, most_parts, WellFormed}
use Rattle.theory_resolution.specs.Nodes.{nodes, is_node}
use Rattle.theory_resolution.specs.Direct.{Open, Held, Shut, State, start, env_of, step, direct, Used, used_of, used_count, skipped_count, changes}
use Rattle.theory_resolution.specs.Says.{Says, Given}

-- the used URIs of a list in their order, how many they are, and how many the others
pub record UrisLaw : Type 0 where
  pub used-one : (u : Urn) → used_of (some u ∷ []) ≡ u ∷ []
  pub skipped-one : used_of (none ∷ []) ≡ []
  pub in_order : (k l : List (Option Urn)) → used_of (k ++ l) ≡ used_of k ++ used_of l
  pub used-counted : (l : List (Option Urn)) → used_count l ≡ length (used_of l)
  pub all-counted : (l : List (Option Urn)) → used_count l + skipped_count l ≡ length l

-- all that is asked of a table, and of a used URN
pub record AskedLaw (t : Table) : Type 0 where
  pub of-table : 0 < length t.signals → get_or t.signals 0 [] ≡ []
      → ((sig : List Urn) → Memᴰ sig t.signals → (u : Urn) → Memᴰ u sig → (x : Name) → Memᴰ x u.path → x ≢ []) → WellFormed t
  pub of-urn : (u : Urn) → u.cat < t.cats → u.path ≢ [] → Used t u

-- a signal names each category at most once
abbrev pub Once : List Urn → Type 0
Once sig = (u v : Urn) → Memᴰ u sig → Memᴰ v sig → u.cat ≡ v.cat → u ≡ v

-- a signal's place: the path that it names in the category, or the root; its row has one for each category of the table
pub record PlaceLaw (t : Table) (s : ℕ) : Type 0 where
  pub named : Once (get_or t.signals s []) → (u : Urn) → Memᴰ u (get_or t.signals s []) → place t s u.cat ≡ u.path
  pub unnamed : (c : ℕ) → ((u : Urn) → Memᴰ u (get_or t.signals s []) → u.cat ≢ c) → place t s c ≡ []
  pub row-length : length (row_of t s) ≡ t.cats
  pub row-place : (c : ℕ) → c < t.cats → get_or (row_of t s) c [] ≡ place t s c

-- parts: those of all URNs of a signal, without the categories; and the most that one signal has
pub record PartsLaw : Type 0 where
  pub no-urn : parts_of [] ≡ 0
  pub one-urn : (c : ℕ) (p : Parts) → parts_of (urn c p ∷ []) ≡ length p
  pub added : (k l : List Urn) → parts_of (k ++ l) ≡ parts_of k + parts_of l
  pub most : (sigs : List (List Urn)) (sig : List Urn) → Memᴰ sig sigs → parts_of sig ≤ most_parts sigs
  pub some-has-most : (sig : List Urn) (sigs : List (List Urn)) → (best : List Urn) × Memᴰ best (sig ∷ sigs) × (parts_of best ≡ most_parts (sig ∷ sigs))

-- changes: one at each element after which the signal has another number than before
pub record ChangesLaw {S A : Type 0} (signal_of : S → ℕ) (next : S → A → S) (s : S) : Type 0 where
  pub no-element : changes signal_of next s [] ≡ 0
  pub same-signal : (a : A) (l : List A) → signal_of (next s a) ≡ signal_of s → changes signal_of next s (a ∷ l) ≡ changes signal_of next (next s a) l
  pub other-signal : (a : A) (l : List A) → signal_of (next s a) ≢ signal_of s → changes signal_of next s (a ∷ l) ≡ suc (changes signal_of next (next s a) l)

-- what is given: the URNs of the list with their ancestors, each in its category, and nothing else
pub record GivenLaw (c : ℕ) (p : Parts) : Type 0 where
  pub by-none : Given [] c p → ⊥
  pub by_one : (d : ℕ) (q : Parts) → Given (urn d q ∷ []) c p ↔ (d ≡ c) × Above p q
  pub by-either : (us vs : List Urn) → Given (us ++ vs) c p ↔ Given us c p ⊎ Given vs c p

-- what a signal says: what its URNs give, of at least one part, in the categories of the table
pub record SaysLaw (t : Table) (s c : ℕ) (p : Parts) : Type 0 where
  pub only : Says t s c p → (c < t.cats) × (p ≢ []) × Given (get_or t.signals s []) c p
  pub all_said : Once (get_or t.signals s []) → c < t.cats → p ≢ [] → Given (get_or t.signals s []) c p → Says t s c p

-- a URN that is taken: the signal found, with its place in the URN's category
pub record Taken (t : Table) (st : State) (u : Urn) : Type 0 where
  pub at : Parts
  pub signal : ℕ
  -- it lies from the present place down to the URN, both counted in
  pub no-shorter : Above (place t st.signal u.cat) at
  pub no_longer : Above at u.path
  -- the signal is one of the table's, with that place, and elsewhere with the places of the current one
  pub listed : signal < length t.signals
  pub fits : row_of t signal ≡ set (row_of t st.signal) u.cat at
  -- no longer place has such a signal
  pub longest : (p : Parts) (s : ℕ) → Above (place t st.signal u.cat) p → Above p u.path → s < length t.signals
      → row_of t s ≡ set (row_of t st.signal) u.cat p → Above p at
  -- the signal becomes current; the category is open if the whole URN is said
  pub whole : at ≡ u.path → step (env_of t) st u ≡ record { signal = signal; status = set st.status u.cat Open }
  -- else it is held at the URN, if that is a node with a node under it
  pub held : at ≢ u.path → is_node (nodes t) u.cat u.path ≡ true → (x : Name) (r : Parts) → is_node (nodes t) u.cat (u.path ++ x ∷ r) ≡ true
      → step (env_of t) st u ≡ record { signal = signal; status = set st.status u.cat (Held u.path) }
  -- and shut, if it is none
  pub shortened : at ≢ u.path → (is_node (nodes t) u.cat u.path ≡ true → (x : Name) (r : Parts) → is_node (nodes t) u.cat (u.path ++ x ∷ r) ≡ false)
      → step (env_of t) st u ≡ record { signal = signal; status = set st.status u.cat Shut }

-- one step of direct resolution, from a state of the table by a URN of a category of the table
pub record StepLaw (t : Table) (st : State) (u : Urn) : Type 0 where
  -- a shut category takes no URN
  pub shut : get_or st.status u.cat Open ≡ Shut → step (env_of t) st u ≡ st
  -- nor is one taken of which the present place is no proper ancestor
  pub not-under : ((x : Name) (r : Parts) → place t st.signal u.cat ++ x ∷ r ≢ u.path) → step (env_of t) st u ≡ st
  -- nor one that does not properly extend the path at which the category is held
  pub not_beyond : (w : Parts) → get_or st.status u.cat Open ≡ Held w → ((x : Name) (r : Parts) → w ++ x ∷ r ≢ u.path) → step (env_of t) st u ≡ st
  -- every other is taken
  pub taken : get_or st.status u.cat Open ≡ Open → (x : Name) (r : Parts) → place t st.signal u.cat ++ x ∷ r ≡ u.path → Taken t st u
  pub taken-held : (w : Parts) → get_or st.status u.cat Open ≡ Held w → (x : Name) (r : Parts) → w ++ x ∷ r ≡ u.path → Taken t st u

-- direct resolution begins with the silent signal and nothing shut or held; it takes the URNs of a list one after the other
pub record RunLaw (t : Table) : Type 0 where
  pub signal-0 : (start t.cats).signal ≡ 0
  pub each-status : length (start t.cats).status ≡ t.cats
  pub all-open : (c : ℕ) → c < t.cats → get_or (start t.cats).status c Shut ≡ Open
  pub at-start : direct t [] ≡ start t.cats
  pub one_more : (us : List Urn) (u : Urn) → direct t (us ++ u ∷ []) ≡ step (env_of t) (direct t us) u
