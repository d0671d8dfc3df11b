-- No byte rule takes a number that is no byte.
-- Assumes nothing.
use mathlib.Core.Path.{◌≡◌, refl}
use mathlib.Core.Logic.{◌⊎◌, ⊎_elim, inl, inr}
use mathlib.Core.Bool.{Bool, true, false, not, ◌&&◌, ◌||◌}
use mathlib.Core.List.{List, [], ◌∷◌}
use Prim.Native.Nat.{ℕ, zero, suc, ◌<◌}
use native.Mathlib.Omega.{arith}
use lib.Dec.{leb, ltb, eqb}
use borrow.Author.Tests.{eqb-true, leb-true, ltb-true}
use Rattle.base_lists.specs.Numbers.{within}
use Rattle.base_ascii.specs.Ascii.{bytes}
use Rattle.value_cursor.specs.Bytes.{one_of, is_blank, is_uri, is_token, is_text, is_escapable}
use Rattle.value_cursor.specs.Claims.{ClassesOfBytes}

both : (x y : Bool) → (x && y) ≡ true → (x ≡ true) × (y ≡ true)
both true true e = (refl, refl)
both true false e = absurd (let z : ◌≡◌ {A = ℕ} 0 1 = cc in omega arith)
both false y e = absurd (let z : ◌≡◌ {A = ℕ} 0 1 = cc in omega arith)

pub either : (x y : Bool) → (x || y) ≡ true → (x ≡ true) ⊎ (y ≡ true)
either true y e = inl refl
either false y e = inr e

module _ (b : ℕ) where
  in-range : (lo hi : ℕ) → hi < 256 → within lo hi b ≡ true → b < 256
  in-range lo hi h e = omega (arith, leb-true b hi (both (leb lo b) (leb b hi) e).1)

  -- all of a list are bytes
  abbrev pub are_bytes : List ℕ → Bool
  are_bytes [] = true
  are_bytes (x ∷ xs) = ltb x 256 && are_bytes xs

  pub in_list : (l : List ℕ) → are_bytes l ≡ true → one_of l b ≡ true → b < 256
  in_list [] h e = absurd (let z : ◌≡◌ {A = ℕ} 0 1 = cc in omega arith)
  in_list (x ∷ xs) h e =
      let p = both (ltb x 256) (are_bytes xs) h in
      ⊎_elim (λ f. omega (arith, eqb-true b x f, ltb-true x 256 p.0)) (λ f. in_list xs p.1 f)
      (either (eqb b x) (one_of xs b) e)

  blank-byte : is_blank b ≡ true → b < 256
  unfolding is_blank
  blank-byte e = in_list (bytes " \t") refl e

  uri-byte : is_uri b ≡ true → b < 256
  unfolding is_uri
  uri-byte e = in-range 0x21 0x7E (omega arith) (both (within 0x21 0x7E b) _ e).0

  token-byte : is_token b ≡ true → b < 256
  unfolding is_token
  token-byte e =
      ⊎_elim (in-range 65 90 (omega arith))
      (λ f. ⊎_elim (in-range 97 122 (omega arith))
      (λ g. ⊎_elim (in-range 48 57 (omega arith))
      (in_list (bytes "-.!%*_+`'~") refl) (either (within 48 57 b) _ g))
      (either (within 97 122 b) _ f))
      (either (within 65 90 b) _ e)

  text-byte : is_text b ≡ true → b < 256
  unfolding is_text
  text-byte e =
      ⊎_elim (λ f. omega (arith, eqb-true b 9 f))
      (λ f. ⊎_elim (λ g. in-range 32 126 (omega arith) (both (within 32 126 b) _ g).0) (in-range 128 255 (omega arith))
      (either (within 32 126 b && not (one_of (bytes "\"\\") b)) (within 128 255 b) f))
      (either (eqb b 9) _ e)

  escapable-byte : is_escapable b ≡ true → b < 256
  unfolding is_escapable
  escapable-byte e = omega (arith, leb-true b 127 (both (leb b 127) _ e).0)

pub classes-of-bytes : ClassesOfBytes
classes-of-bytes zero b e = blank-byte b e
classes-of-bytes (suc zero) b e = uri-byte b e
classes-of-bytes (suc (suc zero)) b e = token-byte b e
classes-of-bytes (suc (suc (suc zero))) b e = text-byte b e
classes-of-bytes (suc (suc (suc (suc k)))) b e = escapable-byte b e
