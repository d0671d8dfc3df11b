-- The tests of names and URNs pass exactly those that have their form.
use Prim.Native.Nat.{ℕ, suc, ◌-◌, ◌≤◌}
use mathlib.Core.Path.{◌≡◌, refl, ap, ap₂, sym, ◌∙◌, subst}
use mathlib.Core.Logic.{◌⊎◌, inl, inr}
use mathlib.Core.Bool.{true, false, cond, not, ◌&&◌, and-false, and-eq-true_iff, false≢true}
use mathlib.Core.List.Memᴰ
use mathlib.Core.List.{List, [], ◌∷◌, ◌++◌, append-nil, Memᴰ}
use native.Mathlib.Omega.{arith}
use lib.ListN.{length, get_or, take, length-append}
use lib.Seq.{take-suc, take-length, get_or_at}
use lib.Dec.{leb, eqb}
use borrow.Author.Tests.{le-leb, lt-leb, leb-true, eq-eqb, ne_eqb, eqb-true, eqb-false, not-true}
use Rattle.base_numbers.specs.Numbers.{most_label_bytes}
use Rattle.base_lists.proofs.Tests.{all-mem, all-by, all_split, all_both}
use Rattle.base_lists.proofs.Bools.{by_test}
use Rattle.base_lists.specs.Cuts.{up_to, past}
use Rattle.base_lists.specs.Tests.{all}
use Rattle.base_lists.specs.Numbers.{within}
use Rattle.base_text.specs.Text.{on_first, fields, after_colons, text_of}
use Rattle.base_text.proofs.Fields.{fields-first, fields_join, text-fields}
use Rattle.urn_names.specs.Names.{label_byte, label_ok, name_ok}
use Rattle.urn_names.specs.Urn.{not_capital, no_capital, stored_name, urn_ok, names_by}
use Rattle.urn_names.proofs.Capitals.{urn-names}
use Rattle.theory_resolution.specs.Names.{Name, Parts}
use Rattle.table_decode.specs.Bytes.{Every, FitsByte}
use Rattle.table_decode.specs.Forms.{LabelByte, Label, NameForm, UrnForm}
use Rattle.table_decode.proofs.Writing.{every-cons}

in-range : (lo hi b : ℕ) → within lo hi b ≡ true → FitsByte lo hi b
in-range lo hi b e = let a = (and-eq-true_iff (leb lo b) (leb b hi)).0 e in (leb-true lo b a.0, leb-true b hi a.1)

to-range : (lo hi b : ℕ) → FitsByte lo hi b → within lo hi b ≡ true
to-range lo hi b f = ap₂ ◌&&◌ (le-leb lo b f.0) (le-leb b hi f.1)

-- a byte
byte-to : (b : ℕ) → not_capital b ≡ true → label_byte b ≡ true → LabelByte b
unfolding label_byte
byte-to b n e =
    by_test (within 97 122 b) (λ w. inl (in-range 97 122 b w))
    (λ w. by_test (within 48 57 b) (λ d. inr (inl (in-range 48 57 b d)))
    (λ d. inr (inr (eqb-true b 45 (rw (w, not-true (within 65 90 b) n, d) at e)))))

byte-of : (b : ℕ) → LabelByte b → label_byte b ≡ true
unfolding label_byte
byte-of b (inl f) = rw (to-range 97 122 b f)
byte-of b (inr (inl f)) = by_test (within 97 122 b) (λ w. rw w) (λ w. by_test (within 65 90 b) (λ c. rw (w, c)) (λ c. rw (w, c, to-range 48 57 b f)))
byte-of b (inr (inr e)) = rw e

byte_small : (b : ℕ) → LabelByte b → not_capital b ≡ true
byte_small b (inl f) = let h : leb b 90 ≡ false = lt-leb b 90 (omega (arith, f.0)) in rw (h, and-false (leb 65 b))
byte_small b (inr (inl f)) = let h : leb 65 b ≡ false = lt-leb 65 b (omega (arith, f.1)) in rw h
byte_small b (inr (inr e)) = rw e

other_byte : (c b : ℕ) → (c ≡ 58) ⊎ (c ≡ 64) → LabelByte b → b ≡ c → ⊥
other_byte c b (inl e) (inl f) z = omega (arith, f.0)
other_byte c b (inl e) (inr (inl f)) z = omega (arith, f.1)
other_byte c b (inl e) (inr (inr f)) z = omega arith
other_byte c b (inr e) (inl f) z = omega (arith, f.0)
other_byte c b (inr e) (inr (inl f)) z = omega (arith, f.1)
other_byte c b (inr e) (inr (inr f)) z = omega arith

-- a label
first-not : (s : List ℕ) → ((r : List ℕ) → s ≡ 45 ∷ r → ⊥) → get_or s 0 0 ≡ 45 → ⊥
first-not [] h e = omega arith
first-not (b ∷ r) h e = h r (ap (λ (x : ℕ). x ∷ r) e)

last-not : (s : List ℕ) → 1 ≤ length s → ((r : List ℕ) → s ≡ r ++ 45 ∷ [] → ⊥) → get_or s (length s - 1) 0 ≡ 45 → ⊥
last-not s l h e =
    let n : length s ≡ suc (length s - 1) = omega arith in
    h (take (length s - 1) s)
    (sym (take-length s) ∙ ap (λ k. take k s) n ∙ take-suc s (length s - 1) 0 (omega arith) ∙ ap (λ (x : ℕ). take (length s - 1) s ++ x ∷ []) e)

label-to : (s : List ℕ) → no_capital s ≡ true → label_ok s ≡ true → Label s
unfolding no_capital label_ok
label-to s n e =
    let a = (and-eq-true_iff (within 1 most_label_bytes (length s)) (not (eqb (get_or s 0 0) 45)
    && (not (eqb (get_or s (length s - 1) 0) 45) && all label_byte s))).0 e in
    let b = (and-eq-true_iff (not (eqb (get_or s 0 0) 45)) (not (eqb (get_or s (length s - 1) 0) 45) && all label_byte s)).0 a.1 in
    let c = (and-eq-true_iff (not (eqb (get_or s (length s - 1) 0) 45)) (all label_byte s)).0 b.1 in
    let l = in-range 1 most_label_bytes (length s) a.0 in
    record {
      some = l.0;
      few = l.1;
      letters = λ x m. byte-to x (all-mem not_capital s x n m) (all-mem label_byte s x c.1 m);
      first = λ r z. eqb-false (get_or s 0 0) 45 (not-true (eqb (get_or s 0 0) 45) b.0) (ap (λ (x : List ℕ). get_or x 0 0) z);
      last = λ r z. eqb-false (get_or s (length s - 1) 0) 45 (not-true (eqb (get_or s (length s - 1) 0) 45) c.0)
          (ap (λ (x : List ℕ). get_or x (length s - 1) 0) z ∙ get_or_at r 45 [] 0 (length s - 1) (omega (arith, ap length z, length-append r (45 ∷ []))));
    }

label_of : (s : List ℕ) → Label s → label_ok s ≡ true
unfolding label_ok
label_of s l =
    ap₂ ◌&&◌ (to-range 1 most_label_bytes (length s) (l.some, l.few))
    (ap₂ ◌&&◌ (ap not (ne_eqb (get_or s 0 0) 45 (first-not s l.first)))
    (ap₂ ◌&&◌ (ap not (ne_eqb (get_or s (length s - 1) 0) 45 (last-not s l.some l.last))) (all-by label_byte s (λ x m. byte-of x (l.letters x m)))))

label_small : (s : List ℕ) → Label s → no_capital s ≡ true
unfolding no_capital
label_small s l = all-by not_capital s (λ x m. byte_small x (l.letters x m))

label-some : (s : List ℕ) → label_ok s ≡ true → 1 ≤ length s
unfolding label_ok
label-some s e = (in-range 1 most_label_bytes (length s) ((and-eq-true_iff (within 1 most_label_bytes (length s)) (not (eqb (get_or s 0 0) 45)
    && (not (eqb (get_or s (length s - 1) 0) 45) && all label_byte s))).0 e).0).0

parted : (c : ℕ) (s : List ℕ) → 1 ≤ length (past c s) → s ≡ up_to c s ++ c ∷ past c s
unfolding up_to past
parted c [] l = absurd (omega arith)
parted c (x ∷ s) l =
    by_test (eqb x c) (λ h. rw h (ap (λ (z : ℕ). z ∷ s) (eqb-true x c h)))
    (λ h. let k : 1 ≤ length (past c s) = rw h at l in rw h (ap (λ (z : List ℕ). x ∷ z) (parted c s k)))

joined-up : (c : ℕ) (a b : List ℕ) → Every (λ x. x ≡ c → ⊥) a → (up_to c (a ++ c ∷ b) ≡ a) × (past c (a ++ c ∷ b) ≡ b)
unfolding up_to past
joined-up c [] b h = let e = eq-eqb c c refl in rw e (refl, refl)
joined-up c (x ∷ a) b h =
    let e = ne_eqb x c (h x (Memᴰ.head refl)) in
    let i = joined-up c a b (λ y m. h y (Memᴰ.tail m)) in
    rw e (ap (λ (z : List ℕ). x ∷ z) i.0, i.1)

two-small : (a b : List ℕ) → no_capital a ≡ true → no_capital b ≡ true → no_capital (a ++ 64 ∷ b) ≡ true
unfolding no_capital all
two-small a b e f = all_both not_capital a (64 ∷ b) e f

-- a name
pub name-to : (s : List ℕ) → stored_name s ≡ true → NameForm s
unfolding stored_name name_ok no_capital
name-to s e =
    let a = (and-eq-true_iff (no_capital s) (name_ok s)).0 e in
    by_test (label_ok s) (λ h. inl (label-to s a.0 h))
    (λ h.
    let g : label_ok (up_to 64 s) && label_ok (past 64 s) ≡ true = rw h at a.1 in
    let b = (and-eq-true_iff (label_ok (up_to 64 s)) (label_ok (past 64 s))).0 g in
    let z : s ≡ up_to 64 s ++ 64 ∷ past 64 s = parted 64 s (label-some (past 64 s) b.1) in
    let n : all not_capital (up_to 64 s ++ 64 ∷ past 64 s) ≡ true = subst (λ (x : List ℕ). all not_capital x ≡ true) z a.0 in
    let c = all_split not_capital (up_to 64 s) (64 ∷ past 64 s) n in
    let d = all_split not_capital (64 ∷ []) (past 64 s) c.1 in
    inr (up_to 64 s, past 64 s, label-to (up_to 64 s) c.0 b.0, label-to (past 64 s) d.1 b.1, z))

pub name_of : (s : List ℕ) → NameForm s → stored_name s ≡ true
unfolding stored_name name_ok
name_of s (inl l) = ap₂ ◌&&◌ (label_small s l) (let h = label_of s l in rw h)
name_of s (inr (a, b, l, m, e)) =
    let u = joined-up 64 a b (λ x k. other_byte 64 x (inr refl) (l.letters x k)) in
    let f : label_ok (up_to 64 s) && label_ok (past 64 s) ≡ true =
    ap₂ ◌&&◌ (ap (λ x. label_ok (up_to 64 x)) e ∙ ap label_ok u.0 ∙ label_of a l) (ap (λ x. label_ok (past 64 x)) e ∙ ap label_ok u.1 ∙ label_of b m) in
    ap₂ ◌&&◌ (ap no_capital e ∙ two-small a b (label_small a l) (label_small b m)) (by_test (label_ok s) (λ h. rw h) (λ h. rw h f))

-- a name has no colon
no-colon : (s : List ℕ) → NameForm s → Every (λ x. x ≡ 58 → ⊥) s
no-colon s (inl l) x m = other_byte 58 x (inl refl) (l.letters x m)
no-colon s (inr (a, b, l, k, e)) x m = go (Memᴰ.append_cases a (subst (λ (y : List ℕ). Memᴰ x y) e m))
  where
    in_b : (x ≡ 64) ⊎ Memᴰ x b → x ≡ 58 → ⊥
    in_b (inl z) y = omega arith
    in_b (inr n) y = other_byte 58 x (inl refl) (k.letters x n) y

    go : Memᴰ x a ⊎ Memᴰ x (64 ∷ b) → x ≡ 58 → ⊥
    go (inl n) = other_byte 58 x (inl refl) (l.letters x n)
    go (inr n) = in_b (Memᴰ.cases_cons n)

one_field : (s : List ℕ) → Every (λ x. x ≡ 58 → ⊥) s → fields 58 s ≡ s ∷ []
unfolding fields on_first
one_field [] h = refl
one_field (x ∷ s) h =
    let e = ne_eqb x 58 (h x (Memᴰ.head refl)) in
    let i = one_field s (λ y m. h y (Memᴰ.tail m)) in
    rw (e, i)

fields-names : (x : Name) (p : Parts) → NameForm x → Every NameForm p → fields 58 (x ++ after_colons p) ≡ x ∷ p
unfolding after_colons
fields-names x [] f g = ap (fields 58) (append-nil x) ∙ one_field x (no-colon x f)
fields-names x (y ∷ p) f g =
    fields_join 58 x (y ++ after_colons p)
    ∙ ap₂ ◌++◌ (one_field x (no-colon x f)) (fields-names y p (g y (Memᴰ.head refl)) (λ z m. g z (Memᴰ.tail m)))

-- a URN
pub urn-to : (u : List ℕ) → urn_ok u ≡ true → UrnForm u
unfolding names_by text_of
urn-to u e =
    let f = fields-first 58 u in
    let w : within 2 9 (cond (all stored_name (fields 58 u)) (length (fields 58 u)) 0) ≡ true = urn-names u refl ∙ e in
    by_test (all stored_name (fields 58 u))
    (λ h.
    let l = in-range 2 9 (length (fields 58 u)) (rw h at w) in
    let o : (x : Name) → Memᴰ x (up_to 58 u ∷ f.0) → NameForm x =
    λ x m. name-to x (all-mem stored_name (fields 58 u) x h (subst (λ (z : List Name). Memᴰ x z) (sym f.1) m)) in
    record {
      category = up_to 58 u;
      parts = f.0;
      category-name = o (up_to 58 u) (Memᴰ.head refl);
      part-names = λ x m. o x (Memᴰ.tail m);
      few = (omega (arith, l.0, ap length f.1), omega (arith, l.1, ap length f.1));
      joined = sym (text-fields u) ∙ ap text_of f.1;
    })
    (λ h. let z : false ≡ true = rw h at w in absurd (false≢true z))

pub urn-of : (u : List ℕ) → UrnForm u → urn_ok u ≡ true
unfolding names_by
urn-of u f =
    let e : fields 58 u ≡ f.category ∷ f.parts = ap (fields 58) f.joined ∙ fields-names f.category f.parts f.category-name f.part-names in
    let a : all stored_name (fields 58 u) ≡ true = ap (all stored_name) e ∙ all-by stored_name (f.category ∷ f.parts)
    (λ x m. name_of x (every-cons NameForm f.category f.parts f.category-name f.part-names x m)) in
    sym (urn-names u refl) ∙ ap (λ b. within 2 9 (cond b (length (fields 58 u)) 0)) a
    ∙ to-range 2 9 (length (fields 58 u)) (omega (arith, ap length e, f.few.0), omega (arith, ap length e, f.few.1))
