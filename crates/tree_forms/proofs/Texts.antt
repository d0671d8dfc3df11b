-- Laws of URNs as texts: a URN of the theory written and read again, and the other way round.
use Prim.Native.Nat.{ℕ, suc, ◌≤◌, ◌<◌}
use mathlib.Core.Path.{◌≡◌, refl, ap, ap₂, sym, ◌∙◌}
use mathlib.Core.Logic.{◌≢◌}
use mathlib.Core.Bool.{true, false, not, ◌&&◌, and-eq-true_iff, false≢true}
use mathlib.Core.List.Memᴰ
use mathlib.Core.List.{List, [], ◌∷◌, ◌++◌, map, append-nil}
use native.Mathlib.Omega.{arith}
use lib.ListN.{length, get_or, length-append, length-drop}
use lib.Dec.{eqb, leb}
use borrow.Author.Tests.{ne_eqb, eqb-true, leb-true}
use Rattle.base_numbers.specs.Numbers.{most_name_bytes, most_nodes}
use Rattle.base_lists.proofs.Tests.{all_join, all-mem}
use Rattle.base_lists.proofs.Cuts.{past-drop}
use Rattle.base_lists.proofs.Bools.{by_test}
use Rattle.base_lists.specs.Cuts.{up_to, past}
use Rattle.base_lists.specs.Tests.{all, no_two, any}
use Rattle.base_lists.specs.Numbers.{within}
use Rattle.base_lists.proofs.Lists.{index-member, index_at, mem-at}
use Rattle.base_lists.specs.Lists.{index_by, Distinct}
use Rattle.theory_resolution.specs.Names.{Name, Parts, same_name}
use Rattle.theory_resolution.specs.Table.{Urn, urn, Table}
use Rattle.theory_resolution.proofs.Names.{name-exact}
use Rattle.base_text.specs.Text.{fields, on_first, after_colons}
use Rattle.urn_names.specs.Names.{label_byte, label_ok, name_ok}
use Rattle.urn_names.specs.Urn.{not_capital, no_capital, stored_name, urn_ok}
use Rattle.base_text.proofs.Fields.{fields-first, fields-more, fields-last, fields_join}
use Rattle.table_sections.specs.Stored.{Stored}
use Rattle.table_decode.specs.Tables.{formed, uses, listed, to_urn, table_in}
use Rattle.table_names.specs.Categories.{is_listed}
use Rattle.table_decode.proofs.Judging.{two-distinct}
use Rattle.table_decode.proofs.Accepting.{fields-parts}
use Rattle.tree_forms.specs.Meaning.{urn_text, stored_in}
use Rattle.tree_forms.proofs.Writing.{Every, FitsText}

-- two functions that undo each other on the elements of lists
pub map_same : {A B : Type 0} (f : B → A) (g : A → B) (l : List A) → Every (λ x. f (g x) ≡ x) l → map f (map g l) ≡ l
map_same f g [] h = refl
map_same f g (x ∷ l) h = ap₂ ◌∷◌ (h x (Memᴰ.head refl)) (map_same f g l (λ y m. h y (Memᴰ.tail m)))

pub maps-same : {A B : Type 0} (f : B → A) (g : A → B) (l : List (List A)) → Every (Every (λ x. f (g x) ≡ x)) l → map (map f) (map (map g) l) ≡ l
maps-same f g l h = map_same (map f) (map g) l (λ xs m. map_same f g xs (h xs m))

-- a byte that no label has is none of a label's
other_byte : (c x : ℕ) → label_byte c ≡ false → label_byte x ≡ true → eqb x c ≡ false
other_byte c x n e = ne_eqb x c (λ q. false≢true (sym n ∙ ap label_byte (sym q) ∙ e))

-- a label's length and bytes
label_is : (l : List ℕ) → label_ok l ≡ true → (1 ≤ length l) × (length l ≤ 27) × (all label_byte l ≡ true)
unfolding label_ok
label_is l e =
    let a = (and-eq-true_iff (within 1 27 (length l)) _).0 e in
    let b = (and-eq-true_iff (not (eqb (get_or l 0 0) 45)) _).0 a.1 in
    let c = (and-eq-true_iff (not (eqb (get_or l _ 0) 45)) (all label_byte l)).0 b.1 in
    let d = (and-eq-true_iff (leb 1 (length l)) (leb (length l) 27)).0 a.0 in
    (leb-true 1 (length l) d.0, leb-true (length l) 27 d.1, c.1)

-- a colon is in no label
label-whole : (l : List ℕ) → all label_byte l ≡ true → up_to 58 l ≡ l
unfolding all up_to label_byte
label-whole [] e = refl
label-whole (x ∷ l) e =
    let a = (and-eq-true_iff (label_byte x) (all label_byte l)).0 e in
    simp (other_byte 58 x refl a.0) (ap (λ (z : List ℕ). x ∷ z) (label-whole l a.1))

-- nor in two with `@` between
labels-whole : (s : List ℕ) → all label_byte (up_to 64 s) ≡ true → all label_byte (past 64 s) ≡ true → up_to 58 s ≡ s
unfolding all up_to past label_byte
labels-whole [] e f = refl
labels-whole (x ∷ s) e f =
    by_test (eqb x 64)
    (λ h.
    let n : eqb x 58 ≡ false = ap (λ (z : ℕ). eqb z 58) (eqb-true x most_nodes h) in
    simp n (ap (λ (z : List ℕ). x ∷ z) (label-whole s (rw h at f))))
    (λ h.
    let g : all label_byte (x ∷ up_to 64 s) ≡ true = rw h at e in
    let a = (and-eq-true_iff (label_byte x) (all label_byte (up_to 64 s))).0 g in
    simp (other_byte 58 x refl a.0) (ap (λ (z : List ℕ). x ∷ z) (labels-whole s a.1 (rw h at f))))

-- a name has 1 to 55 bytes, and no colon
pub name-is : (s : List ℕ) → name_ok s ≡ true → FitsText most_name_bytes s × (up_to 58 s ≡ s)
unfolding name_ok
name-is s e =
    by_test (label_ok s)
    (λ h. let a = label_is s h in ((a.0, omega (arith, a.1)), label-whole s a.2))
    (λ h.
    let g : label_ok (up_to 64 s) && label_ok (past 64 s) ≡ true = rw h at e in
    let b = (and-eq-true_iff (label_ok (up_to 64 s)) (label_ok (past 64 s))).0 g in
    let x = label_is (up_to 64 s) b.0 in
    let y = label_is (past 64 s) b.1 in
    let l = ap length (past-drop 64 s) in
    let k = length-drop (suc (length (up_to 64 s))) s in
    ((omega (arith, x.0, y.0, l, k), omega (arith, x.1, y.1, l, k)), labels-whole s x.2 y.2))

pub name-fields : (s : List ℕ) → name_ok s ≡ true → fields 58 s ≡ s ∷ []
name-fields s e =
    let u = (name-is s e).1 in
    fields-last 58 s (omega (arith, ap length u)) ∙ ap (λ z. z ∷ []) u

-- names with colons between
pub fields-path : (x : Name) (p : Parts) → name_ok x ≡ true → all name_ok p ≡ true → fields 58 (x ++ after_colons p) ≡ x ∷ p
unfolding all after_colons
fields-path x [] e f = ap (fields 58) (append-nil x) ∙ name-fields x e
fields-path x (y ∷ p) e f =
    let a = (and-eq-true_iff (name_ok y) (all name_ok p)).0 f in
    fields_join 58 x (y ++ after_colons p) ∙ ap₂ ◌++◌ (name-fields x e) (fields-path y p a.0 a.1)

-- and taken apart and put together again
colons-fields : (s : List ℕ) → after_colons (fields 58 s) ≡ 58 ∷ s
unfolding fields after_colons on_first
colons-fields [] = refl
colons-fields (x ∷ s) =
    let f = fields-first 58 s in
    let ih = colons-fields s in
    by_test (eqb x 58)
    (λ h. let n = eqb-true x 58 h in rw (h, ih, n))
    (λ h.
    let g : 58 ∷ (up_to 58 s ++ after_colons f.0) ≡ 58 ∷ s = rw f.1 at ih in
    let k : up_to 58 s ++ after_colons f.0 ≡ s = cc in
    rw (h, f.1) (ap (λ (z : List ℕ). 58 ∷ x ∷ z) k))

-- a stored name is a name without capital letters
pub name-plain : (x : Name) → stored_name x ≡ true → (no_capital x ≡ true) × (name_ok x ≡ true)
unfolding stored_name
name-plain x e = (and-eq-true_iff (no_capital x) (name_ok x)).0 e

pub names-plain : (l : List Name) → all stored_name l ≡ true → all name_ok l ≡ true
unfolding all
names-plain [] e = refl
names-plain (x ∷ l) e = let a = (and-eq-true_iff (stored_name x) (all stored_name l)).0 e in ap₂ ◌&&◌ (name-plain x a.0).1 (names-plain l a.1)

-- a URN of such names has no capital letter
pub text-small : (n : Name) (p : Parts) → stored_name n ≡ true → all stored_name p ≡ true → no_capital (n ++ after_colons p) ≡ true
unfolding no_capital after_colons all
text-small n [] e f = ap no_capital (append-nil n) ∙ (name-plain n e).0
text-small n (x ∷ p) e f =
    let a = (and-eq-true_iff (stored_name x) (all stored_name p)).0 f in
    all_join not_capital n (58 ∷ (x ++ after_colons p)) ∙ ap₂ ◌&&◌ (name-plain n e).0 (text-small x p a.0 a.1)

-- the parts of a text without capital letters have none
pub fields-small : (s : List ℕ) → no_capital s ≡ true → all no_capital (fields 58 s) ≡ true
unfolding no_capital fields on_first all
fields-small [] e = refl
fields-small (x ∷ s) e =
    let a = (and-eq-true_iff (not_capital x) (all not_capital s)).0 e in
    let f = fields-first 58 s in
    let ih = fields-small s a.1 in
    by_test (eqb x 58) (λ h. rw h ih)
    (λ h.
    let g : no_capital (up_to 58 s) && all no_capital f.0 ≡ true = rw f.1 at ih in
    let b = (and-eq-true_iff (no_capital (up_to 58 s)) (all no_capital f.0)).0 g in
    rw (h, f.1) (ap₂ ◌&&◌ (ap₂ ◌&&◌ a.0 b.0) b.1))

pub both-names : (l : List Name) → all no_capital l ≡ true → all name_ok l ≡ true → all stored_name l ≡ true
unfolding all stored_name
both-names [] e f = refl
both-names (x ∷ l) e f =
    let a = (and-eq-true_iff (no_capital x) (all no_capital l)).0 e in
    let b = (and-eq-true_iff (name_ok x) (all name_ok l)).0 f in
    ap₂ ◌&&◌ (ap₂ ◌&&◌ a.0 b.0) (both-names l a.1 b.1)

-- a URN of a table with these categories: its category is there, its path has a part, and its parts are names
pub record Sound (names : List Name) (u : Urn) : Type 0 where
  pub known : u.cat < length names
  pub some-part : u.path ≢ []
  pub named : all stored_name u.path ≡ true

-- a category and a path, written and read again
pub text-read : (n x : Name) (p : Parts) → name_ok n ≡ true → name_ok x ≡ true → all name_ok p ≡ true
    → (up_to 58 (n ++ (58 ∷ (x ++ after_colons p))) ≡ n) × (fields 58 (past 58 (n ++ (58 ∷ (x ++ after_colons p)))) ≡ x ∷ p)
text-read n x p e f g =
    let w : List ℕ = n ++ (58 ∷ (x ++ after_colons p)) in
    let a : fields 58 w ≡ n ∷ x ∷ p = fields_join 58 n (x ++ after_colons p) ∙ ap₂ ◌++◌ (name-fields n e) (fields-path x p f g) in
    let b = fields-first 58 w in
    let c : up_to 58 w ∷ b.0 ≡ n ∷ x ∷ p = sym b.1 ∙ a in
    let u : up_to 58 w ≡ n = head-same (up_to 58 w) n b.0 (x ∷ p) c in
    let m = fields-more 58 w (omega (arith, ap length u, length-append n (58 ∷ (x ++ after_colons p)))) in
    (u, tail-same (up_to 58 w) n (fields 58 (past 58 w)) (x ∷ p) (sym m ∙ a))
  where
    head-same : (a b : Name) (k l : List Name) → a ∷ k ≡ b ∷ l → a ≡ b
    head-same a b k l e = cc

    tail-same : (a b : Name) (k l : List Name) → a ∷ k ≡ b ∷ l → k ≡ l
    tail-same a b k l e = cc

pub urn-again : (names : List Name) (u : Urn) → all stored_name names ≡ true → Distinct same_name names → Sound names u → to_urn names (urn_text names u) ≡ u
unfolding after_colons all
urn-again names u o d s = go u.path s.some-part s.named
  where
    go : (p : Parts) → p ≢ [] → all stored_name p ≡ true → to_urn names (urn_text names (urn u.cat p)) ≡ urn u.cat p
    go [] n e = absurd (n refl)
    go (x ∷ p) n e =
        let a = (and-eq-true_iff (stored_name x) (all stored_name p)).0 e in
        let k = all-mem stored_name names (get_or names u.cat []) o (mem-at names u.cat [] s.known) in
        let r = text-read (get_or names u.cat []) x p (name-plain (get_or names u.cat []) k).1 (name-plain x a.0).1 (names-plain p a.1) in
        ap₂ urn (ap (λ (z : Name). index_by same_name z names) r.0 ∙ index_at same_name name-exact [] names d u.cat s.known) r.1

-- a stored URN, read and written again
pub text-again : (names : List Name) (w : List ℕ) → urn_ok w ≡ true → is_listed names w ≡ true → urn_text names (to_urn names w) ≡ w
unfolding is_listed after_colons
text-again names w e h =
    let f = fields-parts w e in
    let m = index-member same_name name-exact [] (up_to 58 w) names h in
    let k : 58 ∷ (up_to 58 w ++ after_colons (fields 58 (past 58 w))) ≡ 58 ∷ w = ap after_colons (sym f.0) ∙ colons-fields w in
    ap (λ (z : Name). z ++ after_colons (fields 58 (past 58 w))) m.1 ∙ tail-same (up_to 58 w ++ after_colons (fields 58 (past 58 w))) w k
  where
    tail-same : (k l : List ℕ) → 58 ∷ k ≡ 58 ∷ l → k ≡ l
    tail-same k l e = cc

-- the table that is stored, of a table
pub table-again : (names : List Name) (T : Table) → all stored_name names ≡ true → no_two same_name names ≡ true → T.cats ≡ length names
    → Every (Every (Sound names)) T.signals
    → table_in (stored_in names T) ≡ T
unfolding stored_in
table-again names T o d n s =
    let k = maps-same (to_urn names) (urn_text names) T.signals (λ sig m u i. urn-again names u o (two-distinct names d) (s sig m u i)) in
    let c : length names ≡ T.cats = sym n in
    λ i. record { cats = c i; signals = k i }

-- what is stored, of the table that is stored
pub stored-again : (s : Stored) → formed s ≡ true → listed s ≡ true → stored_in s.names (table_in s) ≡ s
unfolding stored_in formed listed
stored-again s f l =
    let a = (and-eq-true_iff (all stored_name s.names) (all (all urn_ok) s.signals)).0 f in
    let b = (and-eq-true_iff (no_two same_name s.names) _).0 l in
    let c = (and-eq-true_iff (all (λ x. any (uses x) s.signals) s.names) (all (all (is_listed s.names)) s.signals)).0 b.1 in
    let k = maps-same (urn_text s.names) (to_urn s.names) s.signals
    (λ sig m w i. text-again s.names w (all-mem urn_ok sig w (all-mem (all urn_ok) s.signals sig a.1 m) i)
    (all-mem (is_listed s.names) sig w (all-mem (all (is_listed s.names)) s.signals sig c.1 m) i)) in
    λ i. record { names = s.names; signals = k i }
