-- Where the reading of a table stops, with 5 or 6, is where the bytes stop.
use Prim.Native.Nat.{ℕ, zero, suc, ◌+◌, ◌-◌, ◌≤◌, ◌<◌}
use mathlib.Core.Path.{◌≡◌, refl, ap, sym, ◌∙◌, subst}
use mathlib.Core.Bool.{true, false, cond, false≢true}
use mathlib.Core.List.Memᴰ
use mathlib.Core.List.{List, [], ◌∷◌, ◌++◌, append_assoc}
use mathlib.Core.Logic.{◌⊎◌, inl, inr}
use native.Mathlib.Omega.{arith}
use lib.ListN.{length, get_or, take, drop, length-drop, drop_of_length-le}
use lib.Seq.{drop-cons}
use lib.Dec.{leb, ltb}
use borrow.Author.Tests.{le-leb, lt-ltb, ltb-true, ltb-false, leb-true, leb-false}
use Rattle.base_numbers.specs.Numbers.{most_name_bytes, most_signals, most_urn_bytes}
use Rattle.base_lists.proofs.Cuts.{drop-next, drop-inside, drop_here}
use Rattle.base_lists.specs.Lists.{each}
use Rattle.base_lists.proofs.Bools.{by_test}
use Rattle.base_lists.specs.Numbers.{within}
use Rattle.table_sections.specs.Stored.{Read, fault, got, and_then, byte_in, text, times, counted, signal, Stored, stored_from, stored}
use Rattle.table_sections.proofs.Readings.{byte_low, byte_high, byte-none, text-fault, text-short}
use Rattle.table_decode.specs.Bytes.{section, text_bytes, stored_bytes, Every, FitsText, FitsMany, FitsNames}
use Rattle.table_decode.specs.Claims.{ByteStops, ended, outside, TextStops, at_length, cut, ManyStops, at_count, later, NamesStop, SignalStops}
use Rattle.table_decode.specs.Claims.{SignalsStop, TableStops, in-names, in-signals, goes_on}
use Rattle.table_decode.proofs.Writing.{every-cons, Coded, never, byte-coded, text-coded, counted-coded, names-coded, urns-coded}

-- a reading over the bytes t, with where it stops
pub record Stopping {A : Type 0} (t : List ℕ) (rd : ℕ → Read A) (Stops : ℕ → List ℕ → Type 0) : Type 0 where
  pub to : (at k : ℕ) → Stops k (drop at t) → rd at ≡ fault k
  pub of : (at k : ℕ) → rd at ≡ fault k → Stops k (drop at t)

fault-same : {A : Type 0} (j k : ℕ) → ◌≡◌ {A = Read A} (fault j) (fault k) → k ≡ j
fault-same j k e = cc

-- a second reading that meets a fault: the first did, or it went on
after-fault : {A B : Type 0} (r : Read A) (f : A → ℕ → Read B) (k : ℕ) → and_then r f ≡ fault k
    → (r ≡ fault k) ⊎ ((x : A) × (p : ℕ) × (r ≡ got x p) × (f x p ≡ fault k))
unfolding and_then
after-fault (fault j) f k e = inl (ap fault (sym (fault-same j k e)))
after-fault (got x p) f k e = inr (x, p, refl, e)

module _ (lo hi : ℕ) (t : List ℕ) where
  byte-to : (at k : ℕ) → ByteStops lo hi k (drop at t) → byte_in lo hi t at ≡ fault k
  byte-to at k (ended e z) = sym (byte-none lo hi t at (omega (arith, length-drop at t, ap length z))) ∙ ap fault (sym e)
  byte-to at k (outside b r e z n) =
      by_test (leb lo b)
      (λ x. by_test (leb b hi) (λ y. absurd (n (leb-true lo b x, leb-true b hi y)))
      (λ y. sym (byte_high lo hi t at b (drop-inside t at b r z) (drop_here t at b r z) (leb-false b hi y)) ∙ ap fault (sym e)))
      (λ x. sym (byte_low lo hi t at b (drop-inside t at b r z) (drop_here t at b r z) (leb-false lo b x)) ∙ ap fault (sym e))

  byte-of : (at k : ℕ) → byte_in lo hi t at ≡ fault k → ByteStops lo hi k (drop at t)
  unfolding byte_in
  byte-of at k e =
      by_test (ltb at (length t))
      (λ h. by_test (within lo hi (get_or t at 0))
      (λ w. never k (get_or t at 0) (at + 1) (sym (simp (h, w) at e)))
      (λ w. outside (get_or t at 0) (drop (suc at) t) (fault-same 6 k (simp (h, w) at e)) (drop-cons t at 0 (ltb-true at (length t) h))
      (λ f. let z : false ≡ true = sym w ∙ rw (le-leb lo (get_or t at 0) f.0, le-leb (get_or t at 0) hi f.1) in false≢true z)))
      (λ h. ended (fault-same 5 k (simp h at e)) (drop_of_length-le t {i = at} (ltb-false at (length t) h)))

  pub byte-stopping : Stopping t (byte_in lo hi t) (ByteStops lo hi)
  byte-stopping = record { to = byte-to; of = byte-of }

module _ (hi : ℕ) (t : List ℕ) where
  text-to : (at k : ℕ) → TextStops hi k (drop at t) → text hi t at ≡ fault k
  text-to at k (at_length b) = sym (text-fault hi t at k (byte-to 1 hi t at k b))
  text-to at k (cut n r e z f l) =
      let b = (byte-coded 1 hi t).reads at n r f z in
      let d : drop (at + 1) t ≡ r = drop-next t at (n ∷ []) r z in
      sym (text-short hi t at n (at + 1) b (omega (arith, length-drop (at + 1) t, ap length d))) ∙ ap fault (sym e)

  text_of : (at k : ℕ) → text hi t at ≡ fault k → TextStops hi k (drop at t)
  unfolding text
  text_of at k e = go (after-fault (byte_in 1 hi t at) (λ n p. cond (leb n (length t - p)) (got (take n (drop p t)) (p + n)) (fault 5)) k e)
    where
      go : (byte_in 1 hi t at ≡ fault k) ⊎ ((n : ℕ) × (p : ℕ) × (byte_in 1 hi t at ≡ got n p)
          × (cond (leb n (length t - p)) (got (take n (drop p t)) (p + n)) (fault 5) ≡ fault k))
          → TextStops hi k (drop at t)
      go (inl b) = at_length (byte-of 1 hi t at k b)
      go (inr w) =
          let n : ℕ = w.0 in
          let p : ℕ = w.1 in
          let b = (byte-coded 1 hi t).back at n p w.2 in
          by_test (leb n (length t - p))
          (λ h. never k (take n (drop p t)) (p + n) (sym (rw h at w.3)))
          (λ h. cut n (drop p t) (fault-same 5 k (rw h at w.3)) b.1 b.0 (omega (arith, length-drop p t, leb-false n (length t - p) h)))

  pub text-stopping : Stopping t (text hi t) (TextStops hi)
  text-stopping = record { to = text-to; of = text_of }

module _ {A : Type 0} (t : List ℕ) (rd : ℕ → Read A) (w : A → List ℕ) (Fits : A → Type 0) (Stops : ℕ → List ℕ
    → Type 0) (code : Coded t rd w Fits) (stop : Stopping t rd Stops) where
  times-to : (xs : List A) (n at k : ℕ) (r : List ℕ) → length xs < n → Every Fits xs → drop at t ≡ each w xs ++ r → Stops k r → times rd n at ≡ fault k
  unfolding times each and_then
  times-to [] zero at k r l f e s = absurd (omega arith)
  times-to [] (suc n) at k r l f e s = rw (stop.to at k (subst (Stops k) (sym e) s))
  times-to (x ∷ xs) zero at k r l f e s = absurd (omega arith)
  times-to (x ∷ xs) (suc n) at k r l f e s =
      let h : drop at t ≡ w x ++ (each w xs ++ r) = e ∙ append_assoc (w x) (each w xs) r in
      let a = code.reads at x (each w xs ++ r) (f x (Memᴰ.head refl)) h in
      let b = times-to xs n (at + length (w x)) k r (omega arith) (λ y m. f y (Memᴰ.tail m)) (drop-next t at (w x) (each w xs ++ r) h) s in
      rw (a, b)

  abbrev Fewer : ℕ → ℕ → List ℕ → Type 0
  Fewer n k s = (xs : List A) × (r : List ℕ) × (length xs < n) × Every Fits xs × (s ≡ each w xs ++ r) × Stops k r

  times-of : (n at k : ℕ) → times rd n at ≡ fault k → Fewer n k (drop at t)
  unfolding times each
  times-of zero at k e = never k [] at (sym e)
  times-of (suc n) at k e = go (after-fault (rd at) (λ x p. and_then (times rd n p) (λ xs q. got (x ∷ xs) q)) k e) (λ p. times-of n p k)
    where
      second : (x : A) (p : ℕ) → rd at ≡ got x p → ((times rd n p ≡ fault k) → Fewer n k (drop p t))
          → (times rd n p ≡ fault k) ⊎ ((xs : List A) × (q : ℕ) × (times rd n p ≡ got xs q) × (got (x ∷ xs) q ≡ fault k)) → Fewer (suc n) k (drop at t)
      second x p g ih (inl b) =
          let c = code.back at x p g in
          let i = ih b in (
            x ∷ i.0,
            i.1,
            omega (arith, i.2),
            every-cons Fits x i.0 c.0 i.3,
            c.1 ∙ ap (λ z. w x ++ z) i.4 ∙ sym (append_assoc (w x) (each w i.0) i.1),
            i.5,
          )
      second x p g ih (inr b) = never k (x ∷ b.0) b.1 (sym b.3)

      go : (rd at ≡ fault k) ⊎ ((x : A) × (p : ℕ) × (rd at ≡ got x p) × (and_then (times rd n p) (λ xs q. got (x ∷ xs) q) ≡ fault k))
          → ((p : ℕ) → times rd n p ≡ fault k → Fewer n k (drop p t)) → Fewer (suc n) k (drop at t)
      go (inl b) ih = ([], drop at t, omega arith, (λ x m. absurd (Memᴰ.not-nil m)), refl, stop.of at k b)
      go (inr b) ih = second b.0 b.1 b.2 (ih b.1) (after-fault (times rd n b.1) (λ xs q. got (b.0 ∷ xs) q) k b.3)

  module _ (lo hi : ℕ) where
    counted-to : (at k : ℕ) → ManyStops lo hi w Fits Stops k (drop at t) → counted lo hi rd t at ≡ fault k
    unfolding counted and_then
    counted-to at k (at_count b) = rw (byte-to lo hi t at k b)
    counted-to at k (later n xs r f l v e s) =
        let b = (byte-coded lo hi t).reads at n (each w xs ++ r) f e in
        let d : drop (at + 1) t ≡ each w xs ++ r = drop-next t at (n ∷ []) (each w xs ++ r) e in
        rw b (times-to xs n (at + 1) k r l v d s)

    counted_of : (at k : ℕ) → counted lo hi rd t at ≡ fault k → ManyStops lo hi w Fits Stops k (drop at t)
    unfolding counted
    counted_of at k e = go (after-fault (byte_in lo hi t at) (λ n p. times rd n p) k e)
      where
        go : (byte_in lo hi t at ≡ fault k) ⊎ ((n : ℕ) × (p : ℕ) × (byte_in lo hi t at ≡ got n p) × (times rd n p ≡ fault k))
            → ManyStops lo hi w Fits Stops k (drop at t)
        go (inl b) = at_count (byte-of lo hi t at k b)
        go (inr b) =
            let c = (byte-coded lo hi t).back at b.0 b.1 b.2 in
            let i = times-of b.0 b.1 k b.3 in
            later b.0 i.0 i.1 c.0 i.2 i.3 (c.1 ∙ ap (λ z. b.0 ∷ z) i.4) i.5

    pub counted-stopping : Stopping t (counted lo hi rd t) (ManyStops lo hi w Fits Stops)
    counted-stopping = record { to = counted-to; of = counted_of }

-- nothing stands after the signals
abbrev at_end : List ℕ → List (List ℕ) → List (List (List ℕ)) → ℕ → Read Stored
at_end t ns ss p = cond (ltb p (length t)) (fault 5) (got (record { names = ns; signals = ss }) p)

module _ (t : List ℕ) where
  names-stopping : Stopping t (counted 1 8 (text most_name_bytes t) t) NamesStop
  names-stopping = counted-stopping t (text most_name_bytes t) text_bytes (FitsText most_name_bytes) (TextStops most_name_bytes)
      (text-coded most_name_bytes t) (text-stopping most_name_bytes t) 1 8

  signal-stopping : Stopping t (counted 0 8 (text most_urn_bytes t) t) SignalStops
  signal-stopping = counted-stopping t (text most_urn_bytes t) text_bytes (FitsText most_urn_bytes) (TextStops most_urn_bytes) (text-coded 255 t)
      (text-stopping 255 t) 0 8

  signals-stopping : Stopping t (counted 1 most_signals (counted 0 8 (text most_urn_bytes t) t) t) SignalsStop
  signals-stopping =
      counted-stopping t (counted 0 8 (text most_urn_bytes t) t) (section text_bytes) (FitsMany 0 8 (FitsText most_urn_bytes)) SignalStops
      (counted-coded 0 8 t (text most_urn_bytes t) text_bytes (FitsText most_urn_bytes) (text-coded 255 t)) signal-stopping 1 most_signals

  pub table_to : (k : ℕ) → TableStops k t → stored t ≡ fault k
  unfolding stored stored_from and_then stored_bytes
  table_to k (in-names s) = rw (names-stopping.to 0 k s)
  table_to k (in-signals ns r f e s) =
      let a = (names-coded t).reads 0 ns r f e in
      let d = drop-next t 0 (section text_bytes ns) r e in
      rw (a, signals-stopping.to (0 + length (section text_bytes ns)) k (subst (SignalsStop k) (sym d) s))
  table_to k (goes_on s b r e f z) =
      let y : t ≡ section text_bytes s.names ++ (section (section text_bytes) s.signals ++ b ∷ r) =
      z ∙ append_assoc (section text_bytes s.names) (section (section text_bytes) s.signals) (b ∷ r) in
      let a = (names-coded t).reads 0 s.names (section (section text_bytes) s.signals ++ b ∷ r) f.names y in
      let p : ℕ = 0 + length (section text_bytes s.names) in
      let d : drop p t ≡ section (section text_bytes) s.signals ++ b ∷ r =
      drop-next t 0 (section text_bytes s.names) (section (section text_bytes) s.signals ++ b ∷ r) y in
      let c = (urns-coded t).reads p s.signals (b ∷ r) f.signals d in
      let q : ℕ = p + length (section (section text_bytes) s.signals) in
      let g : drop q t ≡ b ∷ r = drop-next t p (section (section text_bytes) s.signals) (b ∷ r) d in
      rw (a, c, lt-ltb q (length t) (drop-inside t q b r g)) (ap fault (sym e))

  pub table_of : (k : ℕ) → stored t ≡ fault k → TableStops k t
  unfolding stored stored_from stored_bytes
  table_of k e = go (after-fault (counted 1 8 (text most_name_bytes t) t 0) (λ ns at. stored_from t ns at) k e)
    where
      second : (ns : List (List ℕ)) (p : ℕ) → FitsNames ns → t ≡ section text_bytes ns ++ drop p t
          → (counted 1 most_signals (signal t) t p ≡ fault k) ⊎ ((ss : List (List (List ℕ))) × (q : ℕ) × (counted 1 most_signals (signal t) t p ≡ got ss q)
          × (at_end t ns ss q ≡ fault k)) → TableStops k t
      second ns p f z (inl b) = in-signals ns (drop p t) f z (signals-stopping.of p k b)
      second ns p f z (inr b) =
          let ss = b.0 in
          let q : ℕ = b.1 in
          let c = (urns-coded t).back p ss q b.2 in
          by_test (ltb q (length t))
          (λ h. goes_on (record { names = ns; signals = ss }) (get_or t q 0) (drop (suc q) t) (fault-same 5 k (rw h at b.3))
          (record { names = f; signals = c.0 })
          (z ∙ ap (λ x. section text_bytes ns ++ x) (c.1 ∙ ap (λ x. section (section text_bytes) ss ++ x) (drop-cons t q 0 (ltb-true q (length t) h)))
          ∙ sym (append_assoc (section text_bytes ns) (section (section text_bytes) ss) (get_or t q 0 ∷ drop (suc q) t))))
          (λ h. never k (record { names = ns; signals = ss }) q (sym (rw h at b.3)))

      go : (counted 1 8 (text most_name_bytes t) t 0 ≡ fault k) ⊎ ((ns : List (List ℕ)) × (p : ℕ) × (counted 1 8 (text most_name_bytes t) t 0 ≡ got ns p)
          × (stored_from t ns p ≡ fault k)) → TableStops k t
      go (inl b) = in-names (names-stopping.of 0 k b)
      go (inr b) =
          let a = (names-coded t).back 0 b.0 b.1 b.2 in
          second b.0 b.1 a.0 a.1 (after-fault (counted 1 most_signals (signal t) t b.1) (λ ss q. at_end t b.0 ss q) k b.3)

-- the number is 5 or 6
byte-number : (lo hi k : ℕ) (s : List ℕ) → ByteStops lo hi k s → (5 ≤ k) × (k ≤ 6)
byte-number lo hi k s (ended e z) = (omega arith, omega arith)
byte-number lo hi k s (outside b r e z n) = (omega arith, omega arith)

text-number : (hi k : ℕ) (s : List ℕ) → TextStops hi k s → (5 ≤ k) × (k ≤ 6)
text-number hi k s (at_length b) = byte-number 1 hi k s b
text-number hi k s (cut n r e z f l) = (omega arith, omega arith)

many-number : {A : Type 0} (lo hi : ℕ) (w : A → List ℕ) (Fits : A → Type 0) (Stops : ℕ → List ℕ → Type 0)
    → ((k : ℕ) (s : List ℕ) → Stops k s → (5 ≤ k) × (k ≤ 6))
    → (k : ℕ) (s : List ℕ) → ManyStops lo hi w Fits Stops k s → (5 ≤ k) × (k ≤ 6)
many-number lo hi w Fits Stops h k s (at_count b) = byte-number lo hi k s b
many-number lo hi w Fits Stops h k s (later n xs r f l v e x) = h k r x

pub stop-number : (t : List ℕ) (k : ℕ) → TableStops k t → (5 ≤ k) × (k ≤ 6)
stop-number t k (in-names s) = many-number 1 8 text_bytes (FitsText most_name_bytes) (TextStops most_name_bytes) (text-number most_name_bytes) k t s
stop-number t k (in-signals ns r f e s) =
    many-number 1 most_signals (section text_bytes) (FitsMany 0 8 (FitsText most_urn_bytes)) SignalStops
    (many-number 0 8 text_bytes (FitsText most_urn_bytes) (TextStops most_urn_bytes) (text-number 255)) k r s
stop-number t k (goes_on s b r e f z) = (omega arith, omega arith)
