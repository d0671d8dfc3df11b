-- Laws of what a reading answers: the number of a fault, and how many things were read.
use Prim.Native.Nat.{ℕ, suc, zero, ◌+◌, ◌-◌, ◌≤◌}
use mathlib.Core.Path.{◌≡◌, ap, sym, subst}
use mathlib.Core.Logic.{◌≢◌, ⊎_elim}
use mathlib.Core.Bool.{Bool, true, false, cond}
use mathlib.Core.List.Memᴰ
use mathlib.Core.List.{List, [], ◌∷◌, Memᴰ}
use native.Mathlib.Omega.{arith}
use lib.ListN.{length, get_or, take, drop, length-take}
use lib.Dec.{leb, ltb}
use Rattle.base_numbers.specs.Numbers.{most_name_bytes, most_signals, most_table_bytes, most_urn_bytes}
use Rattle.base_lists.proofs.Bools.{by_test}
use Rattle.base_lists.specs.Numbers.{within}
use Rattle.table_sections.specs.Stored.{Read, fault, got, and_then, byte_in, text, times, counted, signal, stored_from, Stored, stored, sections}
use Rattle.table_sections.proofs.Readings.{after-got, byte-read, got-list, times-length}

-- a fault's number is 4, 5 or 6
abbrev pub Faulty : {A : Type 0} → Read A → Type 0
Faulty {A} r = (k : ℕ) → r ≡ fault k → (4 ≤ k) × (k ≤ 6)

pub fault-then : {A B : Type 0} (r : Read A) (f : A → ℕ → Read B) → Faulty r → ((x : A) (p : ℕ) → Faulty (f x p)) → Faulty (and_then r f)
unfolding and_then
fault-then (fault j) f a b k e = a k (let z : j ≡ k = cc in ap fault z)
fault-then (got x p) f a b k e = b x p k e

pub fault-got : {A : Type 0} (x : A) (p : ℕ) → Faulty (got x p)
fault-got x p k e = let z : ◌≡◌ {A = ℕ} 0 1 = cc in absurd (omega arith)

pub fault-some : {A : Type 0} (j : ℕ) → (4 ≤ j) × (j ≤ 6) → (k : ℕ) → ◌≡◌ {A = Read A} (fault j) (fault k) → (4 ≤ k) × (k ≤ 6)
fault-some j n k e = let y : j ≡ k = cc in (omega (arith, y, n.0), omega (arith, y, n.1))

pub fault-if : {A : Type 0} (b : Bool) (x y : Read A) → Faulty x → Faulty y → Faulty (cond b x y)
fault-if true x y f g = f
fault-if false x y f g = g

pub fault-byte : (lo hi : ℕ) (t : List ℕ) (at : ℕ) → Faulty (byte_in lo hi t at)
unfolding byte_in
fault-byte lo hi t at =
    fault-if (ltb at (length t)) _ _ (fault-if (within lo hi (get_or t at 0)) _ _ (fault-got (get_or t at 0) (at + 1))
    (fault-some 6 (omega arith, omega arith))) (fault-some 5 (omega arith, omega arith))

pub fault-text : (hi : ℕ) (t : List ℕ) (at : ℕ) → Faulty (text hi t at)
unfolding text
fault-text hi t at = fault-then (byte_in 1 hi t at) _ (fault-byte 1 hi t at)
    (λ n p. fault-if (leb n (length t - p)) _ _ (fault-got _ (p + n)) (fault-some 5 (omega arith, omega arith)))

fault-times : {A : Type 0} (rd : ℕ → Read A) → ((at : ℕ) → Faulty (rd at)) → (n at : ℕ) → Faulty (times rd n at)
unfolding times
fault-times rd f zero at = fault-got [] at
fault-times rd f (suc n) at = fault-then (rd at) _ (f at) (λ x p. fault-then (times rd n p) _ (fault-times rd f n p) (λ xs q. fault-got (x ∷ xs) q))

pub fault-counted : {A : Type 0} (lo hi : ℕ) (rd : ℕ → Read A) (t : List ℕ) → ((at : ℕ) → Faulty (rd at)) → (at : ℕ) → Faulty (counted lo hi rd t at)
unfolding counted
fault-counted lo hi rd t f at = fault-then (byte_in lo hi t at) _ (fault-byte lo hi t at) (λ n p. fault-times rd f n p)

fault-stored : (t : List ℕ) → Faulty (stored t)
unfolding stored stored_from
fault-stored t =
    fault-then (counted 1 8 (text most_name_bytes t) t 0) _ (fault-counted 1 8 (text most_name_bytes t) t (fault-text most_name_bytes t) 0)
    (λ ns p. fault-then (counted 1 most_signals (signal t) t p) _
    (fault-counted 1 most_signals (signal t) t (fault-counted 0 8 (text most_urn_bytes t) t (fault-text most_urn_bytes t)) p)
    (λ ss q. fault-if (ltb q (length t)) _ _ (fault-some 5 (omega arith, omega arith)) (fault-got _ q)))

pub fault-sections : (t : List ℕ) → Faulty (sections t)
fault-sections t = fault-if (ltb most_table_bytes (length t)) _ _ (fault-some 4 (omega arith, omega arith)) (fault-stored t)

pub fault-some-number : (t : List ℕ) (k : ℕ) → sections t ≡ fault k → k ≢ 0
fault-some-number t k e z = omega (arith, z, (fault-sections t k e).0)

-- the counts
counted-length : {A : Type 0} (lo hi : ℕ) (rd : ℕ → Read A) (t : List ℕ) (at : ℕ) (xs : List A) (q : ℕ) → counted lo hi rd t at ≡ got xs q
    → (lo ≤ length xs) × (length xs ≤ hi)
unfolding counted
counted-length lo hi rd t at xs q e =
    let a = after-got (byte_in lo hi t at) (λ n p. times rd n p) xs q e in
    let b = byte-read lo hi t at a.0 a.1 a.2 in
    let l = times-length rd a.0 a.1 xs q a.3 in
    (omega (arith, l, b.low), omega (arith, l, b.high))

ended : (ns : List (List ℕ)) (ss : List (List (List ℕ))) (b : Bool) (p q : ℕ) (s : Stored)
    → cond b (fault 5) (got (record { names = ns; signals = ss }) p) ≡ got s q → record { names = ns; signals = ss } ≡ s
ended ns ss true p q s e = let z : ◌≡◌ {A = ℕ} 0 1 = cc in absurd (omega arith)
ended ns ss false p q s e = cc

pub stored-counts : (t : List ℕ) (s : Stored) (q : ℕ) → stored t ≡ got s q → (1 ≤ length s.names) × (length s.names ≤ 8)
    × (1 ≤ length s.signals) × (length s.signals ≤ most_signals)
unfolding stored stored_from
stored-counts t s q e =
    let a = after-got (counted 1 8 (text most_name_bytes t) t 0) (λ ns at. stored_from t ns at) s q e in
    let c = counted-length 1 8 (text most_name_bytes t) t 0 a.0 a.1 a.2 in
    let b = after-got (counted 1 most_signals (signal t) t a.1)
    (λ ss p. cond (ltb p (length t)) (fault 5) (got (record { names = a.0; signals = ss }) p)) s q a.3 in
    let d = counted-length 1 most_signals (signal t) t a.1 b.0 b.1 b.2 in
    let z = ended a.0 b.0 (ltb b.1 (length t)) b.1 q s b.3 in (
      omega (arith, c.0, ap (λ (x : Stored). length x.names) z),
      omega (arith, c.1, ap (λ (x : Stored). length x.names) z),
      omega (arith, d.0, ap (λ (x : Stored). length x.signals) z),
      omega (arith, d.1, ap (λ (x : Stored). length x.signals) z),
    )

-- what holds of each thing that is read holds of all that are
times-each : {A : Type 0} (P : A → Type 0) (rd : ℕ → Read A) → ((at p : ℕ) (x : A) → rd at ≡ got x p → P x)
    → (n at : ℕ) (xs : List A) (q : ℕ) → times rd n at ≡ got xs q → (x : A) → Memᴰ x xs → P x
unfolding times
times-each {A} P rd h zero at xs q e x m = absurd (Memᴰ.not-nil (subst (λ (l : List A). Memᴰ x l) (sym (got-list [] xs at q e)) m))
times-each {A} P rd h (suc n) at xs q e x m =
    let a = after-got (rd at) (λ y p. and_then (times rd n p) (λ ys r. got (y ∷ ys) r)) xs q e in
    let b = after-got (times rd n a.1) (λ ys r. got (a.0 ∷ ys) r) xs q a.3 in
    let z = got-list (a.0 ∷ b.0) xs b.1 q b.3 in
    ⊎_elim (λ i. subst P (sym i) (h at a.1 a.0 a.2))
    (λ k. times-each P rd h n a.1 b.0 b.1 b.2 x k)
    (Memᴰ.cases_cons (subst (λ (l : List A). Memᴰ x l) (sym z) m))

counted-each : {A : Type 0} (P : A → Type 0) (lo hi : ℕ) (rd : ℕ → Read A) (t : List ℕ) → ((at p : ℕ) (x : A) → rd at ≡ got x p → P x)
    → (at : ℕ) (xs : List A) (q : ℕ) → counted lo hi rd t at ≡ got xs q → (x : A) → Memᴰ x xs → P x
unfolding counted
counted-each P lo hi rd t h at xs q e =
    let a = after-got (byte_in lo hi t at) (λ n p. times rd n p) xs q e in
    times-each P rd h a.0 a.1 xs q a.3

text-length : (hi : ℕ) (t : List ℕ) (at p : ℕ) (x : List ℕ) → text hi t at ≡ got x p → length x ≤ hi
unfolding text
text-length hi t at p x e =
    let a = after-got (byte_in 1 hi t at) (λ n r. cond (leb n (length t - r)) (got (take n (drop r t)) (r + n)) (fault 5)) x p e in
    let b = byte-read 1 hi t at a.0 a.1 a.2 in
    by_test (leb a.0 (length t - a.1))
    (λ h.
    let q : got (take a.0 (drop a.1 t)) (a.1 + a.0) ≡ got x p = rw h at a.3 in
    let z : take a.0 (drop a.1 t) ≡ x = cc in
    omega (arith, ap length z, length-take a.0 (drop a.1 t), b.high))
    (λ h. let q : fault 5 ≡ got x p = rw h at a.3 in absurd (let z : ◌≡◌ {A = ℕ} 0 1 = cc in omega arith))

-- a signal has at most 8 URNs, each of at most 255 bytes
abbrev pub Few : List (List ℕ) → Type 0
Few sig = (length sig ≤ 8) × ((u : List ℕ) → Memᴰ u sig → length u ≤ 255)

signal-few : (t : List ℕ) (at p : ℕ) (sig : List (List ℕ)) → signal t at ≡ got sig p → Few sig
signal-few t at p sig e =
    ((counted-length 0 8 (text most_urn_bytes t) t at sig p e).1, counted-each (λ u. length u ≤ 255) 0 8 (text most_urn_bytes t) t (text-length 255 t) at sig p e)

-- the lengths of what is stored
pub stored-lengths : (t : List ℕ) (s : Stored) (q : ℕ) → stored t ≡ got s q
    → ((x : List ℕ) → Memᴰ x s.names → length x ≤ most_name_bytes) × ((sig : List (List ℕ)) → Memᴰ sig s.signals → Few sig)
unfolding stored stored_from
stored-lengths t s q e =
    let a = after-got (counted 1 8 (text most_name_bytes t) t 0) (λ ns at. stored_from t ns at) s q e in
    let b = after-got (counted 1 most_signals (signal t) t a.1)
    (λ ss p. cond (ltb p (length t)) (fault 5) (got (record { names = a.0; signals = ss }) p)) s q a.3 in
    let z = ended a.0 b.0 (ltb b.1 (length t)) b.1 q s b.3 in (
      (λ x m. counted-each (λ y. length y ≤ most_name_bytes) 1 8 (text most_name_bytes t) t (text-length most_name_bytes t) 0 a.0 a.1 a.2 x
          (subst (λ (r : Stored). Memᴰ x r.names) (sym z) m)),
      λ sig m. counted-each Few 1 most_signals (signal t) t (signal-few t) a.1 b.0 b.1 b.2 sig
          (subst (λ (r : Stored). Memᴰ sig r.signals) (sym z) m),
    )
