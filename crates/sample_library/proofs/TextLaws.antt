-- Names with colons between, and the bytes of names.
use Prim.Native.Nat.{ℕ, ◌-◌, ◌≤◌}
use mathlib.Core.Path.{◌≡◌, refl, sym, ap, ap₂, ◌∙◌}
use mathlib.Core.Bool.{Bool, true, false, not, ◌&&◌, ◌||◌, and-eq-true_iff}
use mathlib.Core.List.{List, [], ◌∷◌, ◌++◌, append_assoc, append-nil}
use native.Mathlib.Omega.{arith}
use lib.Dec.{eqb, leb}
use lib.ListN.{length, get_or, drop}
use borrow.Author.Tests.{eqb-true, ne_eqb, le-leb}
use Rattle.base_lists.proofs.Tests.{all_both, all-imp}
use Rattle.base_lists.proofs.Numbers.{within-is}
use Rattle.base_lists.proofs.Bools.{by_test, or_left, or_right, or_cases}
use Rattle.base_lists.specs.Cuts.{up_to, past}
use Rattle.base_lists.specs.Tests.{all}
use Rattle.base_lists.specs.Numbers.{within}
use Rattle.theory_resolution.specs.Names.{Name, Parts}
use Rattle.base_ascii.specs.Ascii.{bytes}
use Rattle.base_text.specs.Text.{fields, on_first, after_colons, text_of}
use Rattle.urn_names.specs.Names.{label_byte, label_ok, name_ok}
use Rattle.urn_names.specs.Urn.{begins, rest_ok, alert_urn}
use Rattle.base_text.proofs.Fields.{fields-first, fields_join, text-fields}
use Rattle.value_cursor.specs.Bytes.{is_uri}
use Rattle.sample_library.specs.Sample.{uri_of}

pub colons-append : (p q : Parts) → after_colons (p ++ q) ≡ after_colons p ++ after_colons q
unfolding after_colons
colons-append [] q = refl
colons-append (x ∷ p) q = ap (λ z. (58 ∷ x) ++ z) (colons-append p q) ∙ sym (append_assoc (58 ∷ x) (after_colons p) (after_colons q))

pub colons-one : (x : Name) → after_colons (x ∷ []) ≡ 58 ∷ x
unfolding after_colons
colons-one x = append-nil (58 ∷ x)

-- one more part at the end
pub text-more : (x : Name) (p : Parts) (y : Name) → text_of ((x ∷ p) ++ y ∷ []) ≡ text_of (x ∷ p) ++ 58 ∷ y
unfolding text_of
text-more x p y =
    ap (λ z. x ++ z) (colons-append p (y ∷ []) ∙ ap (λ z. after_colons p ++ z) (colons-one y)) ∙ sym (append_assoc x (after_colons p) (58 ∷ y))

colons-text : (x : Name) (p : Parts) → after_colons (x ∷ p) ≡ 58 ∷ text_of (x ∷ p)
unfolding after_colons text_of
colons-text x p = refl

pub colons-fields : (s : List ℕ) → after_colons (fields 58 s) ≡ 58 ∷ s
colons-fields s =
    let f = fields-first 58 s in
    ap after_colons f.1 ∙ colons-text (up_to 58 s) f.0 ∙ ap (λ z. 58 ∷ text_of z) (sym f.1) ∙ ap (λ z. 58 ∷ z) (text-fields s)

-- the bytes of a name: a letter, a digit, a hyphen or @ (64)
unfoldable pub name_byte : ℕ → Bool
name_byte b = label_byte b || eqb b 64

label-bytes : (s : List ℕ) → label_ok s ≡ true → all name_byte s ≡ true
unfolding label_ok name_byte
label-bytes s e =
    let first = not (eqb (get_or s 0 0) 45) in
    let last = not (eqb (get_or s (length s - 1) 0) 45) in
    let a = (and-eq-true_iff (within 1 27 (length s)) (first && (last && all label_byte s))).0 e in
    let b = (and-eq-true_iff first (last && all label_byte s)).0 a.1 in
    let c = (and-eq-true_iff last (all label_byte s)).0 b.1 in
    all-imp label_byte name_byte (λ x h. or_left (label_byte x) (eqb x 64) h) s c.1

at_byte : (x : ℕ) → eqb x 64 ≡ true → name_byte x ≡ true
unfolding name_byte
at_byte x e = or_right (label_byte x) (eqb x 64) e

up_to-past : (s : List ℕ) → all name_byte (up_to 64 s) ≡ true → all name_byte (past 64 s) ≡ true → all name_byte s ≡ true
unfolding all up_to past
up_to-past [] e f = refl
up_to-past (x ∷ s) e f =
    by_test (eqb x 64)
    (λ h. (and-eq-true_iff (name_byte x) (all name_byte s)).1 (at_byte x h, simp h at f))
    (λ h.
    let k : all name_byte (x ∷ up_to 64 s) ≡ true = simp h at e in
    let b = (and-eq-true_iff (name_byte x) (all name_byte (up_to 64 s))).0 k in
    let g : all name_byte (past 64 s) ≡ true = simp h at f in
    (and-eq-true_iff (name_byte x) (all name_byte s)).1 (b.0, up_to-past s b.1 g))

pub name-bytes : (s : List ℕ) → name_ok s ≡ true → all name_byte s ≡ true
unfolding name_ok
name-bytes s e =
    or_cases (label_ok s) (label_ok (up_to 64 s) && label_ok (past 64 s)) e (label-bytes s)
    (λ h. let b = (and-eq-true_iff (label_ok (up_to 64 s)) (label_ok (past 64 s))).0 h in
    up_to-past s (label-bytes (up_to 64 s) b.0) (label-bytes (past 64 s) b.1))

-- where a name's byte lies
abbrev Ranges : Type 0 → ℕ → Type 0
Ranges P b = ((97 ≤ b) → (b ≤ 122) → P) → ((65 ≤ b) → (b ≤ 90) → P) → ((48 ≤ b) → (b ≤ 57) → P) → (b ≡ 45 → P) → (b ≡ 64 → P) → P

byte-cases : {P : Type 0} (b : ℕ) → name_byte b ≡ true → Ranges P b
unfolding name_byte label_byte
byte-cases {P} b e low up num hyphen at =
    or_cases _ (eqb b 64) e
    (λ h. or_cases _ _ h (λ k. let r = within-is 97 122 b k in low r.0 r.1)
    (λ k. or_cases _ _ k (λ m. let r = within-is 65 90 b m in up r.0 r.1)
    (λ m. or_cases _ _ m (λ n. let r = within-is 48 57 b n in num r.0 r.1) (λ n. hyphen (eqb-true b 45 n)))))
    (λ h. at (eqb-true b 64 h))

-- no name has a colon in it
not-colon : (b : ℕ) → name_byte b ≡ true → eqb b 58 ≡ false
not-colon b e =
    ne_eqb b 58 (λ q. byte-cases b e (λ x y. omega arith) (λ x y. omega arith) (λ x y. omega arith) (λ x. omega arith) (λ x. omega arith))

name-field : (s : List ℕ) → all name_byte s ≡ true → fields 58 s ≡ s ∷ []
unfolding all fields on_first
name-field [] e = refl
name-field (x ∷ s) e =
    let b = (and-eq-true_iff (name_byte x) (all name_byte s)).0 e in
    simp (not-colon x b.0, name-field s b.1)

pub name-alone : (s : List ℕ) → name_ok s ≡ true → fields 58 s ≡ s ∷ []
name-alone s e = name-field s (name-bytes s e)

-- names with colons between, taken apart
pub fields-text : (x : Name) (xs : List Name) → all name_ok (x ∷ xs) ≡ true → fields 58 (text_of (x ∷ xs)) ≡ x ∷ xs
unfolding all text_of after_colons
fields-text x [] e = let b = (and-eq-true_iff (name_ok x) true).0 e in ap (fields 58) (append-nil x) ∙ name-alone x b.0
fields-text x (y ∷ ys) e =
    let b = (and-eq-true_iff (name_ok x) (all name_ok (y ∷ ys))).0 e in
    fields_join 58 x (text_of (y ∷ ys)) ∙ ap₂ (λ p q. p ++ q) (name-alone x b.0) (fields-text y ys b.1)

uri-byte : (b : ℕ) → 33 ≤ b → b ≤ 126 → (b ≡ 60 → ⊥) → (b ≡ 62 → ⊥) → (b ≡ 34 → ⊥) → is_uri b ≡ true
unfolding is_uri
uri-byte b lo hi l g q = simp (le-leb 33 b lo, le-leb b 126 hi, ne_eqb b 60 l, ne_eqb b 62 g, ne_eqb b 34 q)

pub name-uri : (b : ℕ) → name_byte b ≡ true → is_uri b ≡ true
name-uri b e =
    byte-cases b e
    (λ x y. uri-byte b (omega arith) (omega arith) (λ q. omega arith) (λ q. omega arith) (λ q. omega arith))
    (λ x y. uri-byte b (omega arith) (omega arith) (λ q. omega arith) (λ q. omega arith) (λ q. omega arith))
    (λ x y. uri-byte b (omega arith) (omega arith) (λ q. omega arith) (λ q. omega arith) (λ q. omega arith))
    (λ x. uri-byte b (omega arith) (omega arith) (λ q. omega arith) (λ q. omega arith) (λ q. omega arith))
    (λ x. uri-byte b (omega arith) (omega arith) (λ q. omega arith) (λ q. omega arith) (λ q. omega arith))

colon-uri : is_uri 58 ≡ true
unfolding is_uri
colon-uri = refl

colons-uri : (xs : List Name) → all name_ok xs ≡ true → all is_uri (after_colons xs) ≡ true
unfolding all after_colons
colons-uri [] e = refl
colons-uri (x ∷ xs) e =
    let b = (and-eq-true_iff (name_ok x) (all name_ok xs)).0 e in
    (and-eq-true_iff (is_uri 58) _).1 (
      colon-uri,
      all_both is_uri x (after_colons xs) (all-imp name_byte is_uri name-uri x (name-bytes x b.0)) (colons-uri xs b.1),
    )

scheme-uri : all is_uri (bytes "urn:alert:") ≡ true
unfolding all is_uri
scheme-uri = refl

-- a URI of names is one, and an alert URN
module _ (x : Name) (y : Name) (ys : List Name) (ok : all name_ok (x ∷ y ∷ ys) ≡ true) where
  pub uri-bytes : all is_uri (uri_of x (y ∷ ys)) ≡ true
  unfolding uri_of text_of all
  uri-bytes =
      let b = (and-eq-true_iff (name_ok x) (all name_ok (y ∷ ys))).0 ok in
      all_both is_uri (bytes "urn:alert:") (text_of (x ∷ y ∷ ys)) scheme-uri
      (all_both is_uri x (after_colons (y ∷ ys)) (all-imp name_byte is_uri name-uri x (name-bytes x b.0)) (colons-uri (y ∷ ys) b.1))

  begins-it : (r : List ℕ) → begins (bytes "urn:alert:") (bytes "urn:alert:" ++ r) ≡ true
  unfolding begins
  begins-it r = refl

  after-it : (r : List ℕ) → drop 10 (bytes "urn:alert:" ++ r) ≡ r
  after-it r = refl

  rest_ok_lem : rest_ok (text_of (x ∷ y ∷ ys)) ≡ true
  unfolding rest_ok
  rest_ok_lem = rw (fields-text x (y ∷ ys) ok) ((and-eq-true_iff (leb 2 (length (x ∷ y ∷ ys))) (all name_ok (x ∷ y ∷ ys))).1
      (le-leb 2 (length (x ∷ y ∷ ys)) (omega arith), ok))

  pub uri-alert : alert_urn (uri_of x (y ∷ ys)) ≡ true
  unfolding alert_urn uri_of
  uri-alert = (and-eq-true_iff _ _).1 (begins-it (text_of (x ∷ y ∷ ys)), ap rest_ok (after-it (text_of (x ∷ y ∷ ys))) ∙ rest_ok_lem)
