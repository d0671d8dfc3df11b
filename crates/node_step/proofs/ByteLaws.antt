-- Laws of statuses as bytes, and of all of a state's in one number.
use Prim.Native.Nat.{ℕ, zero, suc, ◌+◌, ◌-◌, ◌*◌, ◌^◌, ◌≤◌, ◌<◌}
use mathlib.Core.Path.{◌≡◌, refl, sym, ap, ◌∙◌}
use mathlib.Core.Bool.{Bool, true, false, cond, ◌&&◌}
use mathlib.Core.List.{List, [], ◌∷◌}
use lib.Dec.{ltb, eqb}
use lib.ListN.{length, get_or, set, length-replicate, length-set}
use lib.Seq.{get_or-set_same, get_or-set_other, ext_get_or}
use native.Mathlib.Nat.{add-zero, zero-add, pow-succ'}
use borrow.Author.Tests.{lt-ltb, ne_eqb, ltb-true}
use native.Mathlib.Omega.{arith}
use native.Mathlib.Decide.{ℕ_discrete}
use Rattle.base_numbers.specs.Numbers.{most_nodes}
use Rattle.node_step.specs.declared.Progress.{Progress}
use Rattle.node_step.specs.declared.Status.{Status}
use Rattle.node_step.specs.declared.Status.TheVariants.{Open, Held, Shut}
use Rattle.node_step.specs.StatusByte.{byte_of, status_of, packed, unpacked, same_packed}
use Rattle.node_step.specs.declared.stored.Packed.{Packed}
use Rattle.node_step.specs.Step.{digit, status_in}
use Rattle.node_step.specs.Rows.{pack}
use Rattle.node_step.proofs.PackedLaws.{Bytes, pack-digit}

-- a held category's byte
module _ (s : Status) where
  pub byte-held : (n : ℕ) → s ≡ Held n → n < 255 → n + 1 ≡ byte_of s
  byte-held n e h = sym (ap byte_of e ∙ rw (lt-ltb n 255 h))

pub of-more : (b : ℕ) → (b ≡ 0 → ⊥) → (b ≡ 1 → ⊥) → Held (b - 1) ≡ status_of b
of-more b n m = simp (ne_eqb b 0 n, ne_eqb b 1 m)

-- a node that a category can be held at: its number is not 0, and fits
abbrev pub Numbered : Status → Type 0
Numbered Open = Unit {0}
Numbered (Held n) = (0 < n) × (n ≤ most_nodes)
Numbered Shut = Unit {0}

-- a byte tells the status, and the other way round
pub status-byte : (s : Status) → Numbered s → status_of (byte_of s) ≡ s
status-byte Open h = refl
status-byte (Held n) h =
    let a = h.0 in
    let b = h.1 in
    let z : n + 1 - 1 ≡ n = omega arith in
    rw (lt-ltb n 255 (omega arith), ne_eqb (n + 1) 0 (λ e. omega arith), ne_eqb (n + 1) 1 (λ e. omega arith), z)
status-byte Shut h = refl

pub byte-status : (b : ℕ) → b < 256 → byte_of (status_of b) ≡ b
byte-status b h = go (ℕ_discrete b 0) (ℕ_discrete b 1)
  where
    go : Dec (b ≡ 0) → Dec (b ≡ 1) → byte_of (status_of b) ≡ b
    go (yes e) d = rw e
    go (no n) (yes e) = rw e
    go (no n) (no m) =
        let z : b - 1 + 1 ≡ b = omega arith in
        ap byte_of (sym (of-more b n m)) ∙ rw (lt-ltb (b - 1) 255 (omega arith), z)

pub byte_small : (s : Status) → byte_of s < 256
byte_small Open = omega arith
byte_small (Held n) = go (ltb n 255) refl
  where
    go : (b : Bool) → ltb n 255 ≡ b → cond b (n + 1) 255 < 256
    go true e = omega (arith, ltb-true n 255 e)
    go false e = omega arith
byte_small Shut = omega arith

-- n bytes are below 256 to the n
pub packed-small : (l : List Progress) (c n : ℕ) → packed l c n < 256 ^ n
unfolding packed
packed-small l c zero = omega arith
packed-small l c (suc n) = rw (pow-succ' 256 n) (omega (arith, byte_small (status_in l c), packed-small l (suc c) n))

-- the bytes as a list
abbrev pub bytes_from : List Progress → ℕ → ℕ → List ℕ
bytes_from l c zero = []
bytes_from l c (suc n) = byte_of (status_in l c) ∷ bytes_from l (suc c) n

pub bytes-pack : (l : List Progress) (c n : ℕ) → packed l c n ≡ pack (bytes_from l c n)
unfolding packed
bytes-pack l c zero = refl
bytes-pack l c (suc n) = ap (λ z. byte_of (status_in l c) + 256 * z) (bytes-pack l (suc c) n)

pub bytes_small : (l : List Progress) (c n : ℕ) → Bytes (bytes_from l c n)
bytes_small l c zero k = omega arith
bytes_small l c (suc n) zero = byte_small (status_in l c)
bytes_small l c (suc n) (suc k) = bytes_small l (suc c) n k

pub bytes-at : (l : List Progress) (c n k : ℕ) → k < n → get_or (bytes_from l c n) k 0 ≡ byte_of (status_in l (c + k))
bytes-at l c zero k h = absurd (omega arith)
bytes-at l c (suc n) zero h = rw (add-zero c)
bytes-at l c (suc n) (suc k) h = let e : suc c + k ≡ c + suc k = omega arith in rw e at (bytes-at l (suc c) n k (omega arith))

pub bytes-long : (l : List Progress) (c n : ℕ) → length (bytes_from l c n) ≡ n
bytes-long l c zero = refl
bytes-long l c (suc n) = ap suc (bytes-long l (suc c) n)

-- category k's byte
pub packed-digit : (l : List Progress) (k : ℕ) → k < 8 → digit (packed l 0 8) k ≡ byte_of (status_in l k)
packed-digit l k h =
    ap (λ z. digit z k) (bytes-pack l 0 8) ∙ pack-digit (bytes_from l 0 8) k (bytes_small l 0 8) ∙ bytes-at l 0 8 k h
    ∙ ap (λ z. byte_of (status_in l z)) (zero-add k)

pub unpacked-length : (x n : ℕ) → length (unpacked x n) ≡ 8
unfolding unpacked
unpacked-length x zero = let p : Progress = record { status = Open } in length-replicate 8 p
unpacked-length x (suc n) = length-set (unpacked x n) n (record { status = status_of (digit x n) }) ∙ unpacked-length x n

pub unpacked-at : (x n k : ℕ) (p : Progress) → k < n → n ≤ 8 → get_or (unpacked x n) k p ≡ record { status = status_of (digit x k) }
unfolding unpacked
unpacked-at x zero k p h l = absurd (omega arith)
unpacked-at x (suc n) k p h l = go (ℕ_discrete k n) (λ i. unpacked-at x n k p i (omega arith))
  where
    go : Dec (k ≡ n) → (k < n → get_or (unpacked x n) k p ≡ record { status = status_of (digit x k) })
        → get_or (set (unpacked x n) n (record { status = status_of (digit x n) })) k p ≡ record { status = status_of (digit x k) }
    go (yes e) ih = rw e (get_or-set_same (unpacked x n) n (record { status = status_of (digit x n) }) p (omega (arith, unpacked-length x n)))
    go (no e) ih = get_or-set_other (unpacked x n) n k (record { status = status_of (digit x n) }) p e ∙ ih (omega arith)

-- unpacking gives back what was packed
pub pack-again : (l : List Progress) → length l ≡ 8 → ((k : ℕ) → k < 8 → Numbered (status_in l k)) → unpacked (packed l 0 8) 8 ≡ l
pack-again l long numbered =
    ext_get_or (record { status = Open }) (unpacked (packed l 0 8) 8) l (unpacked-length (packed l 0 8) 8 ∙ sym long)
    (λ k h. at k (rw (unpacked-length (packed l 0 8) 8) at h))
  where
    at : (k : ℕ) → k < 8 → get_or (unpacked (packed l 0 8) 8) k (record { status = Open }) ≡ get_or l k (record { status = Open })
    at k h =
        unpacked-at (packed l 0 8) 8 k (record { status = Open }) h (omega arith)
        ∙ ap (λ z. record { status = z }) (ap status_of (packed-digit l k h) ∙ status-byte (status_in l k) (numbered k h))

-- what `==` answers
pub packed-eq : (a b : Packed) → (eqb a.signal b.signal && eqb a.statuses b.statuses) ≡ same_packed a b
unfolding same_packed
packed-eq a b = refl
