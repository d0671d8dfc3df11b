-- The byte rules agree with the bytes written out: one test, which antt computes over all bytes, and one law.
-- Assumes nothing.
use mathlib.Core.Path.{◌≡◌, refl, sym, ap, ◌∙◌}
use mathlib.Core.Logic.{⊎_elim}
use mathlib.Core.Bool.{Bool, true, ◌||◌, or-true}
use mathlib.Core.List.Memᴰ
use mathlib.Core.List.{List, [], ◌∷◌, Memᴰ}
use Prim.Native.Nat.{ℕ, zero, suc, ◌<◌}
use native.Mathlib.Omega.{arith}
use borrow.Author.Tests.{eqb-true, eq-eqb}
use lib.Dec.{eqb}
use Rattle.value_cursor.specs.Bytes.{one_of, is_blank, is_uri, is_token, is_text, is_escapable, in_class}
use Rattle.value_cursor.specs.Characters.{characters, AsWritten}
use Rattle.value_cursor.proofs.ByteLaws.{either, in_list, classes-of-bytes}
use Rattle.value_cursor.proofs.ClassTable.{same_b, same, at-below}

-- one of a list
one-member : (l : List ℕ) (b : ℕ) → one_of l b ≡ true → Memᴰ b l
one-member [] b e = absurd (let z : ◌≡◌ {A = ℕ} 0 1 = cc in omega arith)
one-member (x ∷ l) b e =
    ⊎_elim (λ f. Memᴰ.head (eqb-true b x f)) (λ f. Memᴰ.tail (one-member l b f)) (either (eqb b x) (one_of l b) e)

member-one : (l : List ℕ) (b : ℕ) → Memᴰ b l → one_of l b ≡ true
member-one [] b m = absurd (Memᴰ.not-nil m)
member-one (x ∷ l) b m =
    ⊎_elim (λ e. ap (λ a. a || one_of l b) (eq-eqb b x e)) (λ k. ap (λ a. eqb b x || a) (member-one l b k) ∙ or-true (eqb b x))
    (Memᴰ.cases_cons m)

-- of one byte the test and the list say the same
abbrev same_at : ℕ → ℕ → Bool
same_at k b = same_b (in_class k b) (one_of (characters k) b)

byte-same : (k b : ℕ) → b < 256 → in_class k b ≡ one_of (characters k) b
unfolding is_blank is_uri is_token is_text is_escapable
byte-same zero b h = same _ _ (at-below 256 (same_at 0) tt b h)
byte-same (suc zero) b h = same _ _ (at-below 256 (same_at 1) tt b h)
byte-same (suc (suc zero)) b h = same _ _ (at-below 256 (same_at 2) tt b h)
byte-same (suc (suc (suc zero))) b h = same _ _ (at-below 256 (same_at 3) tt b h)
byte-same (suc (suc (suc (suc k)))) b h = same _ _ (at-below 256 (same_at 4) tt b h)

-- all that is written out are bytes
written_byte : (k b : ℕ) → one_of (characters k) b ≡ true → b < 256
written_byte zero b e = in_list b (characters 0) refl e
written_byte (suc zero) b e = in_list b (characters 1) refl e
written_byte (suc (suc zero)) b e = in_list b (characters 2) refl e
written_byte (suc (suc (suc zero))) b e = in_list b (characters 3) refl e
written_byte (suc (suc (suc (suc k)))) b e = in_list b (characters 4) refl e

pub as_written : AsWritten
as_written k b = (
  (λ e. one-member (characters k) b (sym (byte-same k b (classes-of-bytes k b e)) ∙ e)),
  λ m. let e = member-one (characters k) b m in byte-same k b (written_byte k b e) ∙ e,
)
