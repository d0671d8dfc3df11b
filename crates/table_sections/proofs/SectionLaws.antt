-- Laws of the two sections, one signal further.
use Prim.Native.Nat.{ℕ, suc, ◌+◌, ◌-◌, ◌≤◌, ◌<◌}
use mathlib.Core.Path.{◌≡◌, refl, ap, sym, ◌∙◌, subst}
use mathlib.Core.List.{List, ◌∷◌, ◌++◌, map, append_assoc, append-nil}
use native.Mathlib.Nat.{sub-zero}
use native.Mathlib.Numerals.{add-one}
use native.Mathlib.Omega.{arith}
use lib.ListN.{length}
use Rattle.std.specs.Prelude.{Result, Ok, Err}
use Rattle.base_numbers.specs.declared.refusal.Refusal.{Refusal}
use Rattle.base_numbers.specs.Numbers.{most_name_bytes, most_signals, most_table_bytes, most_urn_bytes}
use Rattle.base_lists.specs.Cuts.{stretch}
use Rattle.base_lists.specs.Lists.{tabulate}
use Rattle.base_lists.proofs.Bools.{by_test}
use lib.Dec.{ltb}
use borrow.Author.Tests.{lt-ltb, le-ltb, ltb-false}
use Rattle.table_sections.specs.Stored.{Read, fault, got, and_then, byte_in, text, times, counted, categories, signal, stored_from, Stored, stored}
use Rattle.table_sections.specs.Stored.{sections}
use Rattle.table_sections.specs.Held.{Reading, Padded, Tagged, tag, tagged_from, map_read, read_up_to, read_at_most, ReadFrom, CountsOf, Reads}
use Rattle.table_sections.specs.declared.Counts.{Counts}
use Rattle.table_sections.proofs.Readings.{times-length}

-- one signal
pub signal-fault : {B : Type 0} (g : List (List ℕ) → B) (t : List ℕ) (at : ℕ) (k : ℕ) → byte_in 0 8 t at ≡ fault k
    → fault k ≡ map_read g (counted 0 8 (text most_urn_bytes t) t at)
unfolding counted and_then map_read
signal-fault g t at k e = simp e

pub signal-more : {B : Type 0} (g : List (List ℕ) → B) (t : List ℕ) (at k p a : ℕ) {w : Read B} → byte_in 0 8 t at ≡ got k p
    → w ≡ map_read g (times (text most_urn_bytes t) (a + k - a) p) → w ≡ map_read g (counted 0 8 (text most_urn_bytes t) t at)
unfolding counted and_then
signal-more g t at k p a e v = let q : a + k - a ≡ k = omega arith in (rw q at v) ∙ sym (simp e)

pub at_most : (r : Reading) (a k m : ℕ) → read_up_to r (a + k) → k ≤ m → read_at_most r (a + m)
at_most (Err j) a k m e h = tt
at_most (Ok x) a k m e h = omega arith

-- a reading that was changed
pub map-got : {A B : Type 0} (g : A → B) (r : Read A) (y : B) (q : ℕ) → map_read g r ≡ got y q → (x : A) × (r ≡ got x q) × (g x ≡ y)
unfolding map_read
map-got g (fault k) y q e = let z : ◌≡◌ {A = ℕ} 0 1 = cc in absurd (omega arith)
map-got g (got x p) y q e = let z : g x ≡ y = cc in let w : p ≡ q = cc in (x, ap (got x) w, z)

pub map-fault : {A B : Type 0} (g : A → B) (r : Read A) (k : ℕ) → map_read g r ≡ fault k → r ≡ fault k
unfolding map_read
map-fault g (fault j) k e = let z : j ≡ k = cc in ap fault z
map-fault g (got x p) k e = let z : ◌≡◌ {A = ℕ} 0 1 = cc in absurd (omega arith)

tagged-cons : {A : Type 0} (l : List (Tagged A)) (s : ℕ) (us : List A) (r : Read (List (List A)))
    → map_read (λ ss. l ++ tagged_from s ss) (and_then r (λ xs q. got (us ∷ xs) q)) ≡ map_read (λ ss. l ++ map (tag s) us ++ tagged_from (suc s) ss) r
unfolding map_read and_then tagged_from
tagged-cons l s us (fault k) = refl
tagged-cons l s us (got xs q) = ap (λ z. got z q) (sym (append_assoc l (map (tag s) us) (tagged_from (suc s) xs)))

-- the signals, one further: i URNs of the first s signals stand in the arrays
module _ {A : Type 0} (rd : ℕ → Read (List A)) (f : ℕ → Tagged A) (n s i at : ℕ) (w : Read (List (Tagged A)))
    (v : w ≡ map_read (λ ss. tabulate f i ++ tagged_from s ss) (times rd (n - s) at)) where
  next-signal : (us : List A) (p : ℕ) → s < n → rd at ≡ got us p
      → w ≡ map_read (λ ss. tabulate f i ++ map (tag s) us ++ tagged_from (s + 1) ss) (times rd (n - (s + 1)) p)
  unfolding times and_then
  next-signal us p h e =
      let m : n - s ≡ suc (n - (s + 1)) = omega arith in
      v ∙ rw (m, e, add-one) (tagged-cons (tabulate f i) s us (times rd (n - suc s) p))

  pub signals-more : (f₁ : ℕ → Tagged A) {s₁ : ℕ} (k p : ℕ) → s < n → s₁ ≡ s
      → got (tabulate f₁ k) p ≡ map_read (λ us. tabulate f i ++ map (tag s₁) us) (rd at)
      → w ≡ map_read (λ ss. tabulate f₁ k ++ tagged_from (s + 1) ss) (times rd (n - (s + 1)) p)
  signals-more f₁ {s₁} k p h j e =
      let x = map-got (λ us. tabulate f i ++ map (tag s₁) us) (rd at) (tabulate f₁ k) p (sym e) in
      let y : tabulate f i ++ map (tag s) x.0 ≡ tabulate f₁ k = subst (λ (z : ℕ). tabulate f i ++ map (tag z) x.0 ≡ tabulate f₁ k) j x.2 in
      next-signal x.0 p h x.1
      ∙ ap (λ (z : List (Tagged A)). map_read (λ ss. z ++ tagged_from (s + 1) ss) (times rd (n - (s + 1)) p)) y

  last-signal : (k : ℕ) → s < n → rd at ≡ fault k → fault k ≡ w
  unfolding times and_then map_read
  last-signal k h e = let m : n - s ≡ suc (n - (s + 1)) = omega arith in sym (v ∙ rw (m, e))

  pub signals-stop : (s₁ k : ℕ) → s < n → fault k ≡ map_read (λ us. tabulate f i ++ map (tag s₁) us) (rd at) → fault k ≡ w
  signals-stop s₁ k h e = last-signal k h (map-fault (λ us. tabulate f i ++ map (tag s₁) us) (rd at) k (sym e))

  pub signals-done : n ≤ s → got (tabulate f i) at ≡ w
  unfolding times and_then map_read tagged_from
  signals-done h = let m : n - s ≡ 0 = omega arith in sym (v ∙ rw (m, append-nil))

pub signals-start : {A : Type 0} (rd : ℕ → Read (List A)) (f : ℕ → Tagged A) (n at : ℕ)
    → map_read (tagged_from 0) (times rd n at) ≡ map_read (λ ss. tabulate f 0 ++ tagged_from 0 ss) (times rd (n - 0) at)
unfolding tabulate
signals-start rd f n at = rw sub-zero

-- the section of the categories
pub categories-fault : (t : List ℕ) (at k : ℕ) → byte_in 1 8 t at ≡ fault k → fault k ≡ categories t at
unfolding counted and_then
categories-fault t at k e = simp e

pub categories-more : (t : List ℕ) (at n p : ℕ) {w : Read (List (List ℕ))} → byte_in 1 8 t at ≡ got n p
    → w ≡ times (text most_name_bytes t) n p → w ≡ categories t at
unfolding counted and_then
categories-more t at n p e v = v ∙ sym (simp e)

pub at-most-up : (r : Reading) (n m : ℕ) → read_up_to r n → n ≤ m → read_at_most r m
at-most-up (Err k) n m e h = tt
at-most-up (Ok x) n m e h = omega arith

-- the section of the signals
pub rest-fault : (t : List ℕ) (from k : ℕ) → byte_in 1 most_signals t from ≡ fault k → (names : List (List ℕ)) → stored_from t names from ≡ fault k
unfolding stored_from counted and_then
rest-fault t from k e names = simp e

module _ (t : List ℕ) (from n p : ℕ) (e : byte_in 1 most_signals t from ≡ got n p) where
  bad : (k : ℕ) → times (signal t) n p ≡ fault k → (names : List (List ℕ)) → stored_from t names from ≡ fault k
  unfolding stored_from counted and_then
  bad k f names = simp (e, f)

  more : (ss : List (List (List ℕ))) (q : ℕ) → times (signal t) n p ≡ got ss q → q < length t → (names : List (List ℕ)) → stored_from t names from ≡ fault 5
  unfolding stored_from counted and_then
  more ss q f h names = simp (e, f, lt-ltb _ _ h)

  good : (ss : List (List (List ℕ))) (q : ℕ) → times (signal t) n p ≡ got ss q → length t ≤ q
      → (names : List (List ℕ)) → stored_from t names from ≡ got (record { names = names; signals = ss }) q
  unfolding stored_from counted and_then
  good ss q f h names = simp (e, f, le-ltb _ _ h)

  pub rest-bad : (k : ℕ) → fault k ≡ map_read (tagged_from 0) (times (signal t) n p) → (names : List (List ℕ)) → stored_from t names from ≡ fault k
  rest-bad k v = bad k (map-fault (tagged_from 0) (times (signal t) n p) k (sym v))

  module _ (f : ℕ → Tagged (List ℕ)) (m q : ℕ) (v : got (tabulate f m) q ≡ map_read (tagged_from 0) (times (signal t) n p)) where
    was : (ss : List (List (List ℕ))) × (times (signal t) n p ≡ got ss q) × (tagged_from 0 ss ≡ tabulate f m)
    was = map-got (tagged_from 0) (times (signal t) n p) (tabulate f m) q (sym v)

    pub rest_more : q < length t → (names : List (List ℕ)) → stored_from t names from ≡ fault 5
    rest_more h = more was.0 q was.1 h

    pub rest-good : length t ≤ q → (ss : List (List (List ℕ)))
        × ((names : List (List ℕ)) → stored_from t names from ≡ got (record { names = names; signals = ss }) q)
        × (tabulate f m ≡ tagged_from 0 ss) × (length ss ≡ n)
    rest-good h = (was.0, good was.0 q was.1 h, sym was.2, times-length (signal t) n p was.0 q was.1)

-- the whole table
sections-short : (t : List ℕ) → length t ≤ most_table_bytes → sections t ≡ stored t
sections-short t h = rw (le-ltb most_table_bytes (length t) h)

pub sections-long : (t : List ℕ) → most_table_bytes < length t → sections t ≡ fault 4
sections-long t h = rw (lt-ltb most_table_bytes (length t) h)

pub first-fault : (t : List ℕ) (k : ℕ) → length t ≤ most_table_bytes → fault k ≡ categories t 0 → sections t ≡ fault k
unfolding stored and_then
first-fault t k h v = sections-short t h ∙ rw (← v)

module _ (t : List ℕ) (h : length t ≤ most_table_bytes) (name_at name_len : List ℕ) (n p : ℕ)
    (v : (got (tabulate (stretch t name_at name_len) n) p ≡ categories t 0) × Padded 8 n name_at × Padded 8 n name_len) (few : n ≤ 8) where
  second : stored t ≡ stored_from t (tabulate (stretch t name_at name_len) n) p
  unfolding stored and_then
  second = rw (← v.0)

  pub both_read : (at len signal : List ℕ) (x : Result Counts Refusal) → ReadFrom t at len signal p x → CountsOf n x
      → Reads t name_at name_len at len signal x
  both_read at len signal (Err k) f c = sections-short t h ∙ second ∙ f _
  both_read at len signal (Ok l) s c =
      record {
        signals = s.signals;
        next = s.next;
        whole = sections-short t h ∙ second ∙ s.whole (tabulate (stretch t name_at name_len) n)
            ∙ ap (λ (z : ℕ). got (record { names = tabulate (stretch t name_at name_len) z; signals = s.signals }) s.next) (sym c);
        urns = s.urns;
        all-signals = s.all-signals;
        few-categories = omega (arith, c);
        few-signals = s.few-signals;
        few-urns = s.few-urns;
        past-at = subst (λ (z : ℕ). Padded 8 z name_at) (sym c) v.1;
        past-len = subst (λ (z : ℕ). Padded 8 z name_len) (sym c) v.2;
      }

-- a table that could be read is not too long
pub sections-read : (t : List ℕ) (s : Stored) (p : ℕ) → sections t ≡ got s p → (length t ≤ most_table_bytes) × (stored t ≡ got s p)
sections-read t s p e =
    by_test (ltb most_table_bytes (length t))
    (λ b. let q : fault 4 ≡ got s p = rw b at e in let z : ◌≡◌ {A = ℕ} 0 1 = cc in absurd (omega arith))
    (λ b. (ltb-false most_table_bytes (length t) b, rw b at e))
