-- Laws of the step over states whose categories' bytes are in one number.
use Prim.Native.Nat.{ℕ, zero, suc, ◌+◌, ◌*◌, ◌/◌, ◌%◌, ◌^◌, ◌≤◌, ◌<◌, min}
use mathlib.Core.Path.{◌≡◌, refl, sym, ap, ap₂, ◌∙◌}
use mathlib.Core.Bool.{Bool, true, false, ◌&&◌, and-eq-true_iff}
use mathlib.Core.List.{List}
use lib.Dec.{eqb}
use lib.Arith.{mod-mul}
use lib.Pow.{pow-add}
use lib.ListN.{length, get_or, set, length-set}
use lib.Seq.{get_or-set_same, get_or-set_other, ext_get_or}
use borrow.Author.Tests.{eqb-true, eq-eqb, le-leb, lt-leb}
use native.Mathlib.Nat.{zero-add, div-div-eq-div-mul, pow-succ', one-le-pow}
use native.Mathlib.Decide.{ℕ_discrete}
use native.Mathlib.Omega.{arith}
use Rattle.base_numbers.specs.Numbers.{most_signals, most_tries}
use Rattle.base_lists.proofs.Lists.{Exact}
use Rattle.node_step.specs.declared.Progress.{Progress}
use Rattle.node_step.specs.declared.Status.{Status}
use Rattle.node_step.specs.declared.Status.TheVariants.{Open}
use Rattle.std.specs.Prelude.{Option, Some, None}
use Rattle.node_step.specs.declared.Hit.{Hit}
use Rattle.node_step.specs.declared.stored.Packed.{Packed}
use Rattle.node_step.specs.Step.{digit, put, row_at, seek, status_in, takes, status_from, moved, step_numbers}
use Rattle.node_step.specs.StatusByte.{byte_of, status_of, packed, unpacked, packed_of, of_packed, same_packed, step_packed, moved_packed}
use Rattle.node_step.specs.Rows.{pack}
use Rattle.node_step.proofs.PackedLaws.{pack-set}
use Rattle.node_step.proofs.ByteLaws.{byte-status, bytes_from, bytes-pack, bytes_small, bytes-at, bytes-long, unpacked-length, unpacked-at}

-- the test tells equal ones
pub packed-exact : Exact same_packed
unfolding same_packed
packed-exact = record {
  to = to;
  self = λ x. (and-eq-true_iff (eqb x.signal x.signal) (eqb x.statuses x.statuses)).1 (
    eq-eqb x.signal x.signal refl,
    eq-eqb x.statuses x.statuses refl,
  );
}
  where
    to : (a b : Packed) → eqb a.signal b.signal && eqb a.statuses b.statuses ≡ true → a ≡ b
    to a b e =
        let w = (and-eq-true_iff (eqb a.signal b.signal) (eqb a.statuses b.statuses)).0 e in
        let p = eqb-true a.signal b.signal w.0 in
        let q = eqb-true a.statuses b.statuses w.1 in
        λ i. record { signal = p i; statuses = q i }

-- the digits of x from c on make up what is above them
digits : (l : List Progress) (x : ℕ) → ((k : ℕ) → k < 8 → byte_of (status_in l k) ≡ digit x k) → (n c : ℕ) → c + n ≤ 8 → packed l c n ≡ x / 2 ^ (8 * c) % 256 ^ n
unfolding packed
digits l x h zero c k = omega arith
digits l x h (suc n) c k =
    let y = x / 2 ^ (8 * c) in
    let a = digits l x h n (suc c) (omega arith) in
    let e : 8 * suc c ≡ 8 * c + 8 = omega arith in
    let b : x / 2 ^ (8 * suc c) ≡ y / 256 = ap (λ z. x / 2 ^ z) e ∙ ap (λ z. x / z) (pow-add 2 (8 * c) 8) ∙ sym (div-div-eq-div-mul x (2 ^ (8 * c)) 256) in
    let g : y % 256 ^ suc n ≡ (y / 256 % 256 ^ n) * 256 + y % 256 = ap (λ z. y % z) (pow-succ' 256 n ∙ omega arith)
    ∙ mod-mul y {m = 256 ^ n} {c = 256} (one-le-pow n 256 (omega arith)) (omega arith) in
    ap₂ (λ u v. u + 256 * v) (h c (omega arith)) (a ∙ ap (λ z. z % 256 ^ n) b) ∙ omega (arith, g)

-- packing gives back what was unpacked
pub unpack-again : (x : ℕ) → x < 2 ^ 64 → packed (unpacked x 8) 0 8 ≡ x
unpack-again x h = digits (unpacked x 8) x
    (λ k i. ap byte_of (ap (λ p. p.status) (unpacked-at x 8 k (record { status = Open }) i (omega arith)))
    ∙ byte-status (digit x k) (omega arith)) 8 0 (omega arith) ∙ omega arith

-- a status set is its byte put
pub packed-set : (l : List Progress) (c : ℕ) (s : Status) → length l ≡ 8 → c < 8 → packed (set l c (record { status = s })) 0 8
    ≡ put (packed l 0 8) c (byte_of s)
packed-set l c s e h =
    bytes-pack l' 0 8
    ∙ ap pack (ext_get_or 0 (bytes_from l' 0 8) (set (bytes_from l 0 8) c (byte_of s)) (bytes-long l' 0 8
    ∙ sym (length-set (bytes_from l 0 8) c (byte_of s) ∙ bytes-long l 0 8)) (λ k i. at k (rw (bytes-long l' 0 8) at i)))
    ∙ sym (pack-set (bytes_from l 0 8) c (byte_of s) (bytes_small l 0 8) (omega (arith, bytes-long l 0 8)))
    ∙ ap (λ z. put z c (byte_of s)) (sym (bytes-pack l 0 8))
  where
    l' : List Progress
    l' = set l c (record { status = s })

    at : (k : ℕ) → k < 8 → get_or (bytes_from l' 0 8) k 0 ≡ get_or (set (bytes_from l 0 8) c (byte_of s)) k 0
    at k i = bytes-at l' 0 8 k i ∙ ap (λ z. byte_of (status_in l' z)) (zero-add k) ∙ go (ℕ_discrete k c)
      where
        go : Dec (k ≡ c) → byte_of (status_in l' k) ≡ get_or (set (bytes_from l 0 8) c (byte_of s)) k 0
        go (yes z) =
            rw z
            (ap (λ p. byte_of p.status) (get_or-set_same l c (record { status = s }) (record { status = Open }) (omega arith))
            ∙ sym (get_or-set_same (bytes_from l 0 8) c (byte_of s) 0 (omega (arith, bytes-long l 0 8))))
        go (no z) =
            ap (λ p. byte_of p.status) (get_or-set_other l c k (record { status = s }) (record { status = Open }) z)
            ∙ ap (λ z. byte_of (status_in l z)) (sym (zero-add k)) ∙ sym (bytes-at l 0 8 k i)
            ∙ sym (get_or-set_other (bytes_from l 0 8) c k (byte_of s) 0 z)

-- the step, test by test
module _ (rows ps : List ℕ) (inner : List Bool) (n : ℕ) (st : Packed) (c d : ℕ) (whole : Bool) (fits : st.statuses < 2 ^ 64) where
  again : packed_of (of_packed st) ≡ st
  again = ap (λ z. record { signal = st.signal; statuses = z }) (unpack-again st.statuses fits)

  pub packed-past : 8 ≤ c → st ≡ step_packed rows ps inner n st c d whole
  unfolding step_packed step_numbers
  packed-past h = sym (rw (le-leb 8 c h) again)

  moved-is : c < 8 → (i : Option Hit) → packed_of (moved inner (of_packed st) c d whole i) ≡ moved_packed inner st c d whole i
  unfolding moved moved_packed
  moved-is h (Some i) =
      ap (λ z. record { signal = i.signal; statuses = z })
      (packed-set (unpacked st.statuses 8) c (status_from inner d whole i.node) (unpacked-length st.statuses 8) h
      ∙ ap (λ z. put z c (byte_of (status_from inner d whole i.node))) (unpack-again st.statuses fits))
  moved-is h None = again

  module _ (h : c < 8) {row q x : ℕ} {o : Status} {b : Bool} (r : row ≡ row_at rows st.signal) (e : q ≡ digit row c)
      (f : x ≡ digit st.statuses c) (g : o ≡ status_of x)
      (t : b ≡ takes ps o q d whole) where
    status-is : o ≡ status_in (unpacked st.statuses 8) c
    status-is = g ∙ ap status_of f ∙ sym (ap (λ p. p.status) (unpacked-at st.statuses 8 c (record { status = Open }) h (omega arith)))

    q-is : q ≡ digit (row_at rows st.signal) c
    q-is = e ∙ ap (λ z. digit z c) r

    test-is : takes ps (status_in (unpacked st.statuses 8) c) (digit (row_at rows st.signal) c) d whole ≡ b
    test-is = sym (t ∙ ap₂ (λ x y. takes ps x y d whole) status-is q-is)

    pub packed-stay : b ≡ false → st ≡ step_packed rows ps inner n st c d whole
    unfolding step_packed step_numbers
    packed-stay z = let a = test-is ∙ z in sym (rw (lt-leb 8 c h, a) again)

    module _ {i : Option Hit} {res : Packed} (z : b ≡ true) (ei : i ≡ seek rows ps (min n most_signals) row c q most_tries d)
        (er : res ≡ moved_packed inner st c d whole i) where
      abbrev hit : Option Hit
      hit = seek rows ps (min n most_signals) (row_at rows st.signal) c (digit (row_at rows st.signal) c) most_tries d

      hit-is : i ≡ hit
      hit-is = ei ∙ ap₂ (λ x y. seek rows ps (min n most_signals) x c y 9 d) r q-is

      pub packed-goes : res ≡ step_packed rows ps inner n st c d whole
      unfolding step_packed step_numbers
      packed-goes = let a = test-is ∙ z in er ∙ ap (moved_packed inner st c d whole) hit-is ∙ sym (rw (lt-leb 8 c h, a) (moved-is h hit))
