-- Laws of writing: what is written is read again, and what was read is what stands there.
use Prim.Native.Nat.{ℕ, zero, suc, ◌+◌, ◌-◌, ◌≤◌}
use mathlib.Core.Path.{◌≡◌, refl, ap, ap₂, sym, ◌∙◌}
use mathlib.Core.Bool.{cond}
use mathlib.Core.List.Memᴰ
use mathlib.Core.List.{List, [], ◌∷◌, ◌++◌, append_assoc, append-nil, Memᴰ}
use mathlib.Core.Logic.{◌⊎◌, inl, inr}
use native.Mathlib.Nat.{add-zero}
use native.Mathlib.Numerals.{add-one}
use native.Mathlib.Omega.{arith}
use lib.ListN.{length, get_or, take, drop, length-append, length-drop, take-append-drop, drop_of_length-le}
use lib.Seq.{drop-cons, drop-drop, take-append_seam, length-take-le}
use lib.Dec.{leb, ltb}
use borrow.Author.Tests.{le-ltb, leb-true, ltb-false}
use Rattle.base_numbers.specs.Numbers.{most_name_bytes, most_signals, most_urn_bytes}
use Rattle.base_lists.proofs.Cuts.{drop-next, drop-inside, drop_here}
use Rattle.base_lists.specs.Lists.{each}
use Rattle.base_lists.proofs.Bools.{by_test}
use Rattle.base_lists.specs.Numbers.{within}
use Rattle.table_sections.specs.Stored.{Read, fault, got, and_then, byte_in, text, times, counted, Stored, stored_from, stored}
use Rattle.table_sections.proofs.Readings.{byte-good, byte-read, text-good, after-got}
use Rattle.table_decode.specs.Bytes.{section, text_bytes, number_bytes, stored_bytes, Every, FitsByte, FitsText, FitsMany, FitsNames, FitsSignals}
use Rattle.table_decode.specs.Bytes.{FitsStored}

pub every-cons : {A : Type 0} (P : A → Type 0) (x : A) (xs : List A) → P x → Every P xs → Every P (x ∷ xs)
every-cons P x xs p ps y m = go (Memᴰ.cases_cons m)
  where
    go : (y ≡ x) ⊎ Memᴰ y xs → P y
    go (inl e) = rw e p
    go (inr k) = ps y k

-- a reading over the bytes t, with how what it reads is written, and what fits
pub record Coded {A : Type 0} (t : List ℕ) (rd : ℕ → Read A) (w : A → List ℕ) (Fits : A → Type 0) : Type 0 where
  pub reads : (at : ℕ) (x : A) (r : List ℕ) → Fits x → drop at t ≡ w x ++ r → rd at ≡ got x (at + length (w x))
  pub back : (at : ℕ) (x : A) (q : ℕ) → rd at ≡ got x q → Fits x × (drop at t ≡ w x ++ drop q t) × (q ≡ at + length (w x))

pub got-value : {A : Type 0} (x y : A) (p q : ℕ) → got x p ≡ got y q → x ≡ y
got-value x y p q e = cc

pub got-end : {A : Type 0} (x y : A) (p q : ℕ) → got x p ≡ got y q → p ≡ q
got-end x y p q e = cc

pub never : {A : Type 0} {P : Type 0} (k : ℕ) (x : A) (q : ℕ) → fault k ≡ got x q → P
never k x q e = let z : ◌≡◌ {A = ℕ} 0 1 = cc in absurd (omega arith)

byte-was : (lo hi : ℕ) (t : List ℕ) (at n p : ℕ) → byte_in lo hi t at ≡ got n p → get_or t at 0 ≡ n
unfolding byte_in
byte-was lo hi t at n p e =
    by_test (ltb at (length t))
    (λ h. by_test (within lo hi (get_or t at 0)) (λ w. got-value _ _ (at + 1) p (simp (h, w) at e)) (λ w. never 6 n p (simp (h, w) at e)))
    (λ h. never 5 n p (simp h at e))

pub byte-coded : (lo hi : ℕ) (t : List ℕ) → Coded t (byte_in lo hi t) number_bytes (FitsByte lo hi)
byte-coded lo hi t =
    record {
      reads = λ at b r f e. sym (byte-good lo hi t at b (drop-inside t at b r e) (drop_here t at b r e) f.0 f.1);
      back = λ at b q e.
          let k = byte-read lo hi t at b q e in
          ((k.low, k.high), drop-cons t at 0 k.here ∙ ap₂ (λ x n. x ∷ drop n t) (byte-was lo hi t at b q e) (sym (add-one at) ∙ sym k.next), k.next);
    }

module _ (hi : ℕ) (t : List ℕ) where
  text-reads : (at : ℕ) (x r : List ℕ) → FitsText hi x → drop at t ≡ text_bytes x ++ r → text hi t at ≡ got x (at + length (text_bytes x))
  text-reads at x r f e =
      let b = (byte-coded 1 hi t).reads at (length x) (x ++ r) f e in
      let d : drop (at + 1) t ≡ x ++ r = drop-next t at (length x ∷ []) (x ++ r) e in
      let h : length x ≤ length t - (at + 1) = omega (arith, length-drop (at + 1) t, ap length d, length-append x r) in
      let g = text-good hi t at (length x) (at + 1) b h in
      let k : at + 1 + length x - length x ≡ at + 1 = omega arith in
      let v : take (length x) (drop (at + 1 + length x - length x) t) ≡ x = rw (k, d) (take-append_seam x r) in
      let n : at + 1 + length x ≡ at + length (text_bytes x) = omega arith in
      sym g ∙ ap₂ got v n

  text-back : (at : ℕ) (x : List ℕ) (q : ℕ) → text hi t at ≡ got x q → FitsText hi x × (drop at t ≡ text_bytes x ++ drop q t) × (q ≡ at + length (text_bytes x))
  unfolding text
  text-back at x q e =
      let a = after-got (byte_in 1 hi t at) (λ n p. cond (leb n (length t - p)) (got (take n (drop p t)) (p + n)) (fault 5)) x q e in
      go a.0 a.1 a.2 a.3
    where
      go : (n p : ℕ) → byte_in 1 hi t at ≡ got n p → cond (leb n (length t - p)) (got (take n (drop p t)) (p + n)) (fault 5) ≡ got x q
          → FitsText hi x × (drop at t ≡ text_bytes x ++ drop q t) × (q ≡ at + length (text_bytes x))
      go n p b c =
          by_test (leb n (length t - p))
          (λ h.
          let g : got (take n (drop p t)) (p + n) ≡ got x q = rw h at c in
          let v = got-value (take n (drop p t)) x (p + n) q g in
          let y = got-end (take n (drop p t)) x (p + n) q g in
          let k = (byte-coded 1 hi t).back at n p b in
          let l : length x ≡ n = ap length (sym v) ∙ length-take-le n (drop p t) (omega (arith, length-drop p t, leb-true n (length t - p) h)) in
          let d : drop p t ≡ x ++ drop q t = sym (take-append-drop n (drop p t)) ∙ ap₂ ◌++◌ v (drop-drop n p t ∙ ap (λ z. drop z t) y) in
          let m : drop at t ≡ n ∷ drop p t = k.1 in
          ((omega (arith, k.0.0), omega (arith, k.0.1)), m ∙ ap₂ (λ (a : ℕ) (b : List ℕ). a ∷ b) (sym l) d, omega (arith, k.2)))
          (λ h. never 5 x q (rw h at c))

  pub text-coded : Coded t (text hi t) text_bytes (FitsText hi)
  text-coded = record { reads = text-reads; back = text-back }

module _ {A : Type 0} (t : List ℕ) (rd : ℕ → Read A) (w : A → List ℕ) (Fits : A → Type 0) (code : Coded t rd w Fits) where
  times-reads : (at : ℕ) (xs : List A) (r : List ℕ) → Every Fits xs → drop at t ≡ each w xs ++ r → times rd (length xs) at ≡ got xs (at + length (each w xs))
  unfolding times each and_then
  times-reads at [] r f e = ap (got []) (sym (add-zero at))
  times-reads at (x ∷ xs) r f e =
      let h : drop at t ≡ w x ++ (each w xs ++ r) = e ∙ append_assoc (w x) (each w xs) r in
      let a = code.reads at x (each w xs ++ r) (f x (Memᴰ.head refl)) h in
      let b = times-reads (at + length (w x)) xs r (λ y m. f y (Memᴰ.tail m)) (drop-next t at (w x) (each w xs ++ r) h) in
      let n : at + length (w x) + length (each w xs) ≡ at + length (w x ++ each w xs) = omega (arith, length-append (w x) (each w xs)) in
      rw (a, b) (ap (got (x ∷ xs)) n)

  times-back : (n at : ℕ) (xs : List A) (q : ℕ) → times rd n at ≡ got xs q → (length xs ≡ n) × Every Fits xs
      × (drop at t ≡ each w xs ++ drop q t) × (q ≡ at + length (each w xs))
  unfolding times each
  times-back zero at xs q e =
      let v : [] ≡ xs = got-value [] xs at q e in
      let y : at ≡ q = got-end [] xs at q e in
      rw (← v, ← y) (refl, (λ x m. absurd (Memᴰ.not-nil m)), refl, sym (add-zero at))
  times-back (suc n) at xs q e =
      let a = after-got (rd at) (λ x p. and_then (times rd n p) (λ ys q. got (x ∷ ys) q)) xs q e in
      let b = after-got (times rd n a.1) (λ ys q. got (a.0 ∷ ys) q) xs q a.3 in
      go a.0 a.1 b.0 b.1 (code.back at a.0 a.1 a.2) (times-back n a.1 b.0 b.1 b.2) b.3
    where
      go : (x : A) (p : ℕ) (ys : List A) (i : ℕ) → Fits x × (drop at t ≡ w x ++ drop p t) × (p ≡ at + length (w x))
          → (length ys ≡ n) × Every Fits ys × (drop p t ≡ each w ys ++ drop i t) × (i ≡ p + length (each w ys)) → got (x ∷ ys) i ≡ got xs q
          → (length xs ≡ suc n) × Every Fits xs × (drop at t ≡ each w xs ++ drop q t) × (q ≡ at + length (each w xs))
      go x p ys i k l e =
          let v : x ∷ ys ≡ xs = got-value (x ∷ ys) xs i q e in
          let y : i ≡ q = got-end (x ∷ ys) xs i q e in
          rw (← v, ← y) (
            ap suc l.0,
            every-cons Fits x ys k.0 l.1,
            k.1 ∙ ap (λ z. w x ++ z) l.2 ∙ sym (append_assoc (w x) (each w ys) (drop i t)),
            omega (arith, k.2, l.3, length-append (w x) (each w ys)),
          )

module _ {A : Type 0} (lo hi : ℕ) (t : List ℕ) (rd : ℕ → Read A) (w : A → List ℕ) (Fits : A → Type 0) (code : Coded t rd w Fits) where
  counted-reads : (at : ℕ) (xs : List A) (r : List ℕ) → FitsMany lo hi Fits xs → drop at t ≡ section w xs ++ r → counted lo hi rd t at
      ≡ got xs (at + length (section w xs))
  unfolding counted and_then
  counted-reads at xs r f e =
      let b = (byte-coded lo hi t).reads at (length xs) (each w xs ++ r) f.0 e in
      let d : drop (at + 1) t ≡ each w xs ++ r = drop-next t at (length xs ∷ []) (each w xs ++ r) e in
      let k = times-reads t rd w Fits code (at + 1) xs r f.1 d in
      let n : at + 1 + length (each w xs) ≡ at + length (section w xs) = omega arith in
      rw b (k ∙ ap (got xs) n)

  counted_back : (at : ℕ) (xs : List A) (q : ℕ) → counted lo hi rd t at ≡ got xs q → FitsMany lo hi Fits xs
      × (drop at t ≡ section w xs ++ drop q t) × (q ≡ at + length (section w xs))
  unfolding counted
  counted_back at xs q e =
      let a = after-got (byte_in lo hi t at) (λ n p. times rd n p) xs q e in
      let b = (byte-coded lo hi t).back at a.0 a.1 a.2 in
      let l = times-back t rd w Fits code a.0 a.1 xs q a.3 in (
        ((omega (arith, b.0.0, l.0), omega (arith, b.0.1, l.0)), l.1),
        b.1 ∙ ap₂ (λ (a : ℕ) (b : List ℕ). a ∷ b) (sym l.0) l.2,
        omega (arith, b.2, l.3),
      )

  pub counted-coded : Coded t (counted lo hi rd t) (section w) (FitsMany lo hi Fits)
  counted-coded = record { reads = counted-reads; back = counted_back }

module _ (t : List ℕ) where
  pub names-coded : Coded t (counted 1 8 (text most_name_bytes t) t) (section text_bytes) FitsNames
  names-coded = counted-coded 1 8 t (text most_name_bytes t) text_bytes (FitsText most_name_bytes) (text-coded most_name_bytes t)

  pub urns-coded : Coded t (counted 1 most_signals (counted 0 8 (text most_urn_bytes t) t) t) (section (section text_bytes)) FitsSignals
  urns-coded =
      counted-coded 1 most_signals t (counted 0 8 (text most_urn_bytes t) t) (section text_bytes) (FitsMany 0 8 (FitsText most_urn_bytes))
      (counted-coded 0 8 t (text most_urn_bytes t) text_bytes (FitsText most_urn_bytes) (text-coded 255 t))

-- nothing after the end
pub at-end : {A : Type 0} (t : List ℕ) (p : ℕ) (x : A) → drop p t ≡ [] → cond (ltb p (length t)) (fault 5) (got x p) ≡ got x p
at-end t p x e = rw (le-ltb p (length t) (omega (arith, length-drop p t, ap length e)))

pub ended : {A : Type 0} (t : List ℕ) (p q : ℕ) (x y : A) → cond (ltb p (length t)) (fault 5) (got x p) ≡ got y q → (x ≡ y) × (p ≡ q) × (drop p t ≡ [])
ended t p q x y e =
    by_test (ltb p (length t)) (λ h. never 5 y q (rw h at e))
    (λ h.
    let g : got x p ≡ got y q = rw h at e in
    (got-value x y p q g, got-end x y p q g, drop_of_length-le t {i = p} (ltb-false p (length t) h)))

-- the old form
pub stored-reads : (s : Stored) → FitsStored s → (q : ℕ) × (stored (stored_bytes s) ≡ got s q)
unfolding stored stored_from and_then stored_bytes
stored-reads s f =
    let t : List ℕ = section text_bytes s.names ++ section (section text_bytes) s.signals in
    let p : ℕ = 0 + length (section text_bytes s.names) in
    let a = (names-coded t).reads 0 s.names (section (section text_bytes) s.signals) f.names refl in
    let d : drop p t ≡ section (section text_bytes) s.signals ++ [] =
    drop-next t 0 (section text_bytes s.names) (section (section text_bytes) s.signals) refl
    ∙ sym (append-nil (section (section text_bytes) s.signals)) in
    let b = (urns-coded t).reads p s.signals [] f.signals d in
    let q : ℕ = p + length (section (section text_bytes) s.signals) in
    (q, rw (a, b) (at-end t q s (drop-next t p (section (section text_bytes) s.signals) [] d)))

pub stored_back : (t : List ℕ) (s : Stored) (q : ℕ) → stored t ≡ got s q → FitsStored s × (stored_bytes s ≡ t)
unfolding stored stored_from stored_bytes
stored_back t s q e =
    let a = after-got (counted 1 8 (text most_name_bytes t) t 0) (λ ns at. stored_from t ns at) s q e in
    let b = after-got (counted 1 most_signals (counted 0 8 (text most_urn_bytes t) t) t a.1)
    (λ ss p. cond (ltb p (length t)) (fault 5) (got (record { names = a.0; signals = ss }) p)) s q a.3 in
    let c = ended t b.1 q (record { names = a.0; signals = b.0 }) s b.3 in
    let m = (names-coded t).back 0 a.0 a.1 a.2 in
    let n = (urns-coded t).back a.1 b.0 b.1 b.2 in
    rw (← c.0) (
      record { names = m.0; signals = n.0 },
      sym (m.1 ∙ ap (λ z. section text_bytes a.0 ++ z) (n.1 ∙ ap (λ z. section (section text_bytes) b.0 ++ z) c.2
          ∙ append-nil (section (section text_bytes) b.0))),
    )
