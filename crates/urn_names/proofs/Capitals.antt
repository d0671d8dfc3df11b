-- Laws of stored names: a look at each byte tells of their form and of capital letters.
use Prim.Native.Nat.{ℕ, ◌-◌}
use mathlib.Core.Path.{◌≡◌, refl, ap, ap₂, sym, ◌∙◌}
use mathlib.Core.Bool.{Bool, true, false, not, ◌&&◌, ◌||◌, and_assoc, and-true, and-false}
use mathlib.Core.List.{List, [], ◌∷◌}
use lib.ListN.{length, get_or}
use lib.Dec.{eqb}
use Rattle.std.specs.Option.{MatchOption}
use borrow.Author.Tests.{eqb-true}
use Rattle.base_numbers.specs.Numbers.{most_label_bytes}
use Rattle.base_lists.proofs.Tests.{all_two}
use Rattle.base_lists.proofs.Bools.{by_test}
use Rattle.base_lists.specs.Cuts.{up_to, past}
use Rattle.base_lists.specs.Tests.{all}
use Rattle.base_lists.specs.Numbers.{within}
use Rattle.base_text.specs.Text.{on_first, fields}
use Rattle.urn_names.specs.Names.{label_byte, label_ok, name_ok}
use Rattle.urn_names.specs.Urn.{not_capital, no_capital, stored_byte, stored_name, urn_ok, names_by, count_by}
use Rattle.urn_names.specs.Labels.{label_by, name_by}
use Rattle.base_text.proofs.Fields.{fields-first}

-- labels and names of a URI
pub label-any : (s : List ℕ) → label_by label_byte s ≡ label_ok s
unfolding label_by label_ok
label-any s = refl

pub name-any : (s : List ℕ) → name_by label_byte s ≡ name_ok s
unfolding name_by name_ok
name-any s = simp label-any

-- labels and names of a stored table
last-two : (a b c d e : Bool) → (a && (b && (c && (d && e)))) ≡ (e && (a && (b && (c && d))))
last-two a b c d true = simp and-true
last-two a b c d false = simp and-false

byte-two : (b : ℕ) → stored_byte b ≡ (label_byte b && not_capital b)
unfolding stored_byte
byte-two b = refl

label-small : (s : List ℕ) → label_by stored_byte s ≡ (no_capital s && label_ok s)
unfolding label_by label_ok no_capital
label-small s = rw (all_two label_byte not_capital stored_byte byte-two s) (last-two (within 1 most_label_bytes (length s)) (not (eqb (get_or s 0 0) 45)) (not (eqb (get_or s (length s - 1) 0) 45)) (all label_byte s) (all not_capital s))

-- a text has no capital letter if what stands before and after its first `@` has none
parts-small : (s : List ℕ) → (no_capital (up_to 64 s) && no_capital (past 64 s)) ≡ no_capital s
unfolding no_capital all up_to past
parts-small [] = refl
parts-small (x ∷ s) =
    by_test (eqb x 64)
    (λ e. let n : not_capital x ≡ true = ap not_capital (eqb-true x 64 e) in simp (e, n))
    (λ e. simp (e, and_assoc (not_capital x) (all not_capital (up_to 64 s)) (all not_capital (past 64 s))) (ap (λ z. not_capital x && z) (parts-small s)))

both-small : (a b x y z : Bool) → ((a && b) && x || ((a && y) && (b && z))) ≡ ((a && b) && (x || (y && z)))
both-small true true x y z = refl
both-small true false x y z = simp and-false
both-small false b x y z = refl

pub name-small : (s : List ℕ) → name_by stored_byte s ≡ stored_name s
unfolding name_by stored_name name_ok
name-small s =
    let u = up_to 64 s in
    let v = past 64 s in
    simp (label-small, ← parts-small s) (both-small (no_capital u) (no_capital v) (label_ok s) (label_ok u) (label_ok v))

-- a text has no capital letter if none of its names has
fields-small : (s : List ℕ) → all no_capital (fields 58 s) ≡ no_capital s
unfolding all no_capital fields on_first
fields-small [] = refl
fields-small (x ∷ s) =
    by_test (eqb x 58)
    (λ e.
    let n : not_capital x ≡ true = ap not_capital (eqb-true x 58 e) in
    simp (e, n) (fields-small s))
    (λ e.
    let f = fields-first 58 s in
    simp (e, f.1) (and_assoc (not_capital x) (all not_capital (up_to 58 s)) (all no_capital f.0)
    ∙ ap (λ z. not_capital x && z) (ap (all no_capital) (sym f.1) ∙ fields-small s)))

pub name-two : (x : List ℕ) → stored_name x ≡ (no_capital x && name_ok x)
unfolding stored_name
name-two x = refl

all-stored : (s : List ℕ) → all stored_name (fields 58 s) ≡ (no_capital s && all name_ok (fields 58 s))
all-stored s = all_two no_capital name_ok stored_name name-two (fields 58 s) ∙ ap (λ z. z && all name_ok (fields 58 s)) (fields-small s)

-- the stored form, by the number of names
pub urn-names : (s : List ℕ) {n : ℕ} → n ≡ names_by stored_name s → within 2 9 n ≡ urn_ok s
unfolding names_by urn_ok
urn-names s e =
    let t = all-stored s in
    by_test (no_capital s)
    (λ a. by_test (all name_ok (fields 58 s)) (λ b. simp (e, t, a, b, and-true)) (λ b. simp (e, t, a, b, and-false)))
    (λ a. simp (e, t, a))

-- tests that say the same of each text
all-same : {p q : List ℕ → Bool} → ((x : List ℕ) → p x ≡ q x) → (l : List (List ℕ)) → all p l ≡ all q l
unfolding all
all-same e [] = refl
all-same e (x ∷ l) = ap₂ ◌&&◌ (e x) (all-same e l)

pub count-any : (s : List ℕ) → count_by (name_by label_byte) s ≡ count_by name_ok s
unfolding count_by
count-any s = rw (all-same name-any (fields 58 s))

pub count-small : (s : List ℕ) → count_by (name_by stored_byte) s ≡ count_by stored_name s
unfolding count_by
count-small s = rw (all-same name-small (fields 58 s))

-- the stored form, by the number of names, if all have the form
pub urn-count : (s : List ℕ) {b : Bool} → MatchOption (count_by stored_name s) (b ≡ false) (λ n. b ≡ within 2 9 n) → b ≡ urn_ok s
unfolding count_by urn_ok
urn-count s m =
    let t = all-stored s in
    by_test (no_capital s)
    (λ a. by_test (all name_ok (fields 58 s)) (λ b. simp (t, a, b) at m ∙ sym (simp (a, b, and-true))) (λ b. simp (t, a, b) at m ∙ sym (simp (a, b, and-false))))
    (λ a. simp (t, a) at m ∙ sym (simp a))
