-- Laws of the readings of a tree, one step further.
use Prim.Native.Nat.{ℕ, ◌+◌, ◌-◌, ◌≤◌, ◌<◌}
use mathlib.Core.Path.{◌≡◌, ap, ap₂, sym, ◌∙◌}
use mathlib.Core.List.{List}
use native.Mathlib.Omega.{arith}
use borrow.Author.Tests.{lt-ltb, le-ltb}
use lib.ListN.{length, take, drop, set}
use lib.Seq.{get_or-set_same, get_or-set_other}
use Rattle.std.specs.Prelude.{Result, Ok, Err}
use Rattle.base_numbers.specs.Refusals.{refusal_number}
use Rattle.base_numbers.specs.declared.refusal.Refusal.{Refusal}
use Rattle.base_numbers.specs.Numbers.{most_name_bytes, most_nodes, most_signals, most_table_bytes}
use Rattle.base_lists.specs.Cuts.{stretch}
use Rattle.base_lists.specs.Lists.{tabulate}
use Rattle.table_sections.specs.Stored.{Read, fault, got, and_then, byte_in, text, times, counted, categories}
use Rattle.table_sections.specs.Held.{Tagged, tag, tagged_from, map_read}
use Rattle.table_sections.proofs.Readings.{stretch-set, stretch-keep, times-length}
use Rattle.table_sections.proofs.SectionLaws.{map-got, map-fault}
use Rattle.theory_resolution.specs.Names.{Name}
use Rattle.tree_sections.specs.Tree.{Node, any_byte, node, nodes, signals_from, nodes_from, tree, tree_sections}
use Rattle.tree_sections.specs.Held.{node_from, number_at, RestRead, BothRead, TreeRead}
use Rattle.tree_sections.specs.declared.Counts.{Counts}

-- a node, by its two numbers and its name
module _ (t : List ℕ) (at : ℕ) where
  pub node-one : {k : ℕ} → byte_in 0 255 t at ≡ fault k → fault k ≡ node t at
  unfolding node and_then
  node-one e = simp e

  module _ {c p : ℕ} (e : byte_in 0 255 t at ≡ got c p) where
    pub node-two : {k : ℕ} → byte_in 0 255 t p ≡ fault k → fault k ≡ node t at
    unfolding node and_then
    node-two f = simp (e, f)

    module _ {d q : ℕ} (f : byte_in 0 255 t p ≡ got d q) where
      pub node-three : {k : ℕ} → text most_name_bytes t q ≡ fault k → fault k ≡ node t at
      unfolding node and_then
      node-three g = simp (e, f, g)

      pub node-good : {x : List ℕ} {r c₁ d₁ : ℕ} → c₁ ≡ c → d₁ ≡ d → text most_name_bytes t q ≡ got x r
          → got (record { category = c₁; parent = d₁; last = x }) r ≡ node t at
      unfolding node and_then
      node-good {x} {r} a b g = ap₂ (λ c d. got (record { category = c; parent = d; last = x }) r) a b ∙ sym (simp (e, f, g))

-- a node that was put into the arrays
module _ (t category parent at len : List ℕ) (i c d a n : ℕ) where
  pub node-keep : (j : ℕ) → j < i → node_from t (set category i c) (set parent i d) (set at i a) (set len i n) j ≡ node_from t category parent at len j
  node-keep j h =
      let q : j ≡ i → ⊥ = λ e. omega arith in
      let x = get_or-set_other category i j c 0 q in
      let y = get_or-set_other parent i j d 0 q in
      let z = stretch-keep t at len i a n j h in
      λ k. record { category = x k; parent = y k; last = z k }

  pub node-put : {m : ℕ} (p : ℕ) → a ≡ p - m → n ≡ m → i < length category → i < length parent → i < length at → i < length len
      → node_from t (set category i c) (set parent i d) (set at i a) (set len i n) i ≡ record { category = c; parent = d; last = take m (drop (p - m) t) }
  node-put p e f h k l o =
      let x = get_or-set_same category i c 0 h in
      let y = get_or-set_same parent i d 0 k in
      let z = stretch-set t at len i a n l o ∙ ap₂ (λ a m. take m (drop a t)) e f in
      λ j. record { category = x j; parent = y j; last = z j }

-- a number that was put into the arrays
pub number-keep : (signal number : List ℕ) (i s k j : ℕ) → j < i → number_at (set signal i s) (set number i k) j ≡ number_at signal number j
number-keep signal number i s k j h =
    let q : j ≡ i → ⊥ = λ e. omega arith in
    ap₂ tag (get_or-set_other signal i j s 0 q) (get_or-set_other number i j k 0 q)

pub number_put : (signal number : List ℕ) (i s : ℕ) {k b : ℕ} → k ≡ b → i < length signal → i < length number
    → number_at (set signal i s) (set number i k) i ≡ tag s b
number_put signal number i s {k} {b} e h l = ap₂ tag (get_or-set_same signal i s 0 h) (get_or-set_same number i k 0 l ∙ e)

-- a count, and so many readings
pub counted-fault : {A B : Type 0} (g : List A → B) (lo hi : ℕ) (rd : ℕ → Read A) (t : List ℕ) (at : ℕ) {k : ℕ}
    → byte_in lo hi t at ≡ fault k → fault k ≡ map_read g (counted lo hi rd t at)
unfolding counted and_then map_read
counted-fault g lo hi rd t at e = simp e

pub counted-more : {A B : Type 0} (g : List A → B) (lo hi : ℕ) (rd : ℕ → Read A) (t : List ℕ) (at a : ℕ) {k p : ℕ} {w : Read B} → byte_in lo hi t at ≡ got k p
    → w ≡ map_read g (times rd (a + k - a) p) → w ≡ map_read g (counted lo hi rd t at)
unfolding counted and_then
counted-more g lo hi rd t at a {k} e v = let q : a + k - a ≡ k = omega arith in (rw q at v) ∙ sym (simp e)

-- the same where nothing is changed
pub section-fault : {A : Type 0} (lo hi : ℕ) (rd : ℕ → Read A) (t : List ℕ) (at : ℕ) {k : ℕ} → byte_in lo hi t at ≡ fault k → fault k ≡ counted lo hi rd t at
unfolding counted and_then
section-fault lo hi rd t at e = simp e

pub section-more : {A : Type 0} (lo hi : ℕ) (rd : ℕ → Read A) (t : List ℕ) (at : ℕ) {k p : ℕ} {w : Read (List A)} → byte_in lo hi t at ≡ got k p
    → w ≡ times rd k p → w ≡ counted lo hi rd t at
unfolding counted and_then
section-more lo hi rd t at e v = v ∙ sym (simp e)

-- the section of the signals
abbrev numbers_at : List ℕ → ℕ → Read (List ℕ)
numbers_at t = counted 0 8 (any_byte t) t

pub rest-fault : (t : List ℕ) (from : ℕ) {k : ℕ} → byte_in 1 most_signals t from ≡ fault k → (names : List Name) (ns : List Node)
    → signals_from t names ns from ≡ fault k
unfolding signals_from counted and_then
rest-fault t from e names ns = simp e

module _ (t : List ℕ) (from n p : ℕ) (e : byte_in 1 most_signals t from ≡ got n p) where
  bad : (k : ℕ) → times (numbers_at t) n p ≡ fault k → (names : List Name) (ns : List Node) → signals_from t names ns from ≡ fault k
  unfolding signals_from counted and_then
  bad k f names ns = simp (e, f)

  more : (ss : List (List ℕ)) (q : ℕ) → times (numbers_at t) n p ≡ got ss q → q < length t → (names : List Name) (ns : List Node)
      → signals_from t names ns from ≡ fault 5
  unfolding signals_from counted and_then
  more ss q f h names ns = simp (e, f, lt-ltb _ _ h)

  good : (ss : List (List ℕ)) (q : ℕ) → times (numbers_at t) n p ≡ got ss q → length t ≤ q → (names : List Name) (ns : List Node)
      → signals_from t names ns from ≡ got (record { names = names; nodes = ns; signals = ss }) q
  unfolding signals_from counted and_then
  good ss q f h names ns = simp (e, f, le-ltb _ _ h)

  pub rest-bad : (k : ℕ) → fault k ≡ map_read (tagged_from 0) (times (numbers_at t) n p) → (names : List Name) (ns : List Node) → signals_from t names ns from ≡ fault k
  rest-bad k v = bad k (map-fault (tagged_from 0) (times (numbers_at t) n p) k (sym v))

  module _ (f : ℕ → Tagged ℕ) (m q : ℕ) (v : got (tabulate f m) q ≡ map_read (tagged_from 0) (times (numbers_at t) n p)) where
    was : (ss : List (List ℕ)) × (times (numbers_at t) n p ≡ got ss q) × (tagged_from 0 ss ≡ tabulate f m)
    was = map-got (tagged_from 0) (times (numbers_at t) n p) (tabulate f m) q (sym v)

    pub rest_more : q < length t → (names : List Name) (ns : List Node) → signals_from t names ns from ≡ fault 5
    rest_more h = more was.0 q was.1 h

    pub rest-good : length t ≤ q → (ss : List (List ℕ)) × ((names : List Name) (ns : List Node) → signals_from t names ns from
        ≡ got (record { names = names; nodes = ns; signals = ss }) q)
        × (tabulate f m ≡ tagged_from 0 ss) × (length ss ≡ n)
    rest-good h = (was.0, good was.0 q was.1 h, sym was.2, times-length (numbers_at t) n p was.0 q was.1)

-- the nodes before it
pub both-fault : (t : List ℕ) (from k : ℕ) → fault k ≡ nodes t from → (names : List Name) → nodes_from t names from ≡ fault k
unfolding nodes_from and_then
both-fault t from k v names = let e : nodes t from ≡ fault k = sym v in simp e

module _ (t category parent at len : List ℕ) (from n p : ℕ) (v : got (tabulate (node_from t category parent at len) n) p ≡ nodes t from) where
  both_go : (names : List Name) → nodes_from t names from ≡ signals_from t names (tabulate (node_from t category parent at len) n) p
  unfolding nodes_from and_then
  both_go names = let e : nodes t from ≡ got (tabulate (node_from t category parent at len) n) p = sym v in simp e

  pub both-bad : (k : ℕ) → ((names : List Name) (ns : List Node) → signals_from t names ns p ≡ fault k) → (names : List Name) → nodes_from t names from ≡ fault k
  both-bad k f names = both_go names ∙ f names _

  pub both_read : (signal number : List ℕ) (categories : ℕ) → n ≤ most_nodes → (x : Result Counts Refusal) → RestRead t signal number categories n p x
      → BothRead t category parent at len signal number categories from x
  both_read signal number categories h (Err k) f = both-bad (refusal_number k) f
  both_read signal number categories h (Ok r) s =
      record {
        signals = s.signals;
        next = s.next;
        whole = λ names. both_go names ∙ s.whole names _
            ∙ ap (λ (z : ℕ). got (record {
              names = names;
              nodes = tabulate (node_from t category parent at len) z;
              signals = s.signals;
            }) s.next) (sym s.same_nodes);
        held = s.held;
        same-categories = s.same-categories;
        few-nodes = omega (arith, s.same_nodes);
      }

-- and the categories
sections-short : (t : List ℕ) → length t ≤ most_table_bytes → tree_sections t ≡ tree t
sections-short t h = rw (le-ltb most_table_bytes (length t) h)

pub tree-long : (t : List ℕ) → most_table_bytes < length t → tree_sections t ≡ fault 4
tree-long t h = rw (lt-ltb most_table_bytes (length t) h)

pub tree-stop : (t : List ℕ) (k : ℕ) → length t ≤ most_table_bytes → fault k ≡ categories t 0 → tree_sections t ≡ fault k
unfolding tree and_then
tree-stop t k b v = let e : categories t 0 ≡ fault k = sym v in sections-short t b ∙ simp e

module _ (t name_at name_len : List ℕ) (b : length t ≤ most_table_bytes) (n p : ℕ) (v : got (tabulate (stretch t name_at name_len) n) p ≡ categories t 0) where
  tree-go : tree t ≡ nodes_from t (tabulate (stretch t name_at name_len) n) p
  unfolding tree and_then
  tree-go = let e : categories t 0 ≡ got (tabulate (stretch t name_at name_len) n) p = sym v in simp e

  pub tree-bad : (k : ℕ) → ((names : List Name) → nodes_from t names p ≡ fault k) → tree_sections t ≡ fault k
  tree-bad k f = sections-short t b ∙ tree-go ∙ f _

  pub tree-read : (category parent at len signal number : List ℕ) → n ≤ 8 → (x : Result Counts Refusal)
      → BothRead t category parent at len signal number n p x
      → TreeRead t name_at name_len category parent at len signal number x
  tree-read category parent at len signal number h (Err k) f = tree-bad (refusal_number k) f
  tree-read category parent at len signal number h (Ok r) s =
      record {
        signals = s.signals;
        next = s.next;
        short = b;
        whole = tree-go ∙ s.whole _
            ∙ ap (λ (z : ℕ). got (record {
              names = tabulate (stretch t name_at name_len) z;
              nodes = tabulate (node_from t category parent at len) r.nodes;
              signals = s.signals;
            }) s.next) (sym s.same-categories);
        held = s.held;
        few-categories = omega (arith, s.same-categories);
        few-nodes = s.few-nodes;
      }
