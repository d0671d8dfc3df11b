-- A tree's refusal is the same without its old form.
use Prim.Native.Nat.{ℕ, suc, ◌+◌, ◌<◌}
use mathlib.Core.Path.{◌≡◌, refl, ap, ap₂, sym, ◌∙◌}
use mathlib.Core.Logic.{◌≢◌}
use mathlib.Core.Bool.{Bool, true, false, cond, ◌&&◌, and-eq-true_iff, and-true}
use mathlib.Core.List.Memᴰ
use mathlib.Core.List.{List, [], ◌∷◌, ◌++◌, map, append-nil}
use native.Mathlib.Omega.{arith}
use lib.ListN.{length, get_or, length-append}
use lib.Dec.{eqb, leb}
use borrow.Author.Tests.{le-leb, lt-leb, leb-true, leb-false, eq-eqb, eqb-true}
use Rattle.base_numbers.specs.Numbers.{most_nodes, most_urn_bytes}
use Rattle.base_lists.proofs.Tabulated.{tab-list}
use Rattle.base_lists.proofs.Tests.{all-mem, all_alike}
use Rattle.base_lists.specs.Tests.{all, any, no_two}
use Rattle.base_lists.specs.Numbers.{within}
use Rattle.base_lists.proofs.Bools.{same_test, by_test}
use Rattle.base_lists.proofs.Lists.{mem-at, member_of, index_at}
use Rattle.base_lists.specs.Lists.{tabulate, member_by, index_by, Distinct}
use Rattle.theory_resolution.specs.Names.{Name, Parts, same_name}
use Rattle.theory_resolution.specs.Table.{Urn, urn, Table}
use Rattle.theory_resolution.specs.Nodes.{nodes}
use Rattle.theory_resolution.proofs.Names.{name-exact}
use Rattle.base_text.specs.Text.{fields, after_colons}
use Rattle.urn_names.specs.Names.{name_ok}
use Rattle.urn_names.specs.Urn.{stored_name, urn_ok, category_of}
use Rattle.table_decode.specs.Tables.{formed, uses, listed, table_in, judged}
use Rattle.table_names.specs.Categories.{is_listed}
use Rattle.table_places.specs.Verdict.{single, zero_silent, distinct, few_nodes, verdict}
use Rattle.table_decode.proofs.Judging.{two-distinct}
use Rattle.tree_sections.specs.Tree.{Tree}
use Rattle.tree_forms.specs.Meaning.{table_of_tree, urn_text, stored_in}
use Rattle.tree_forms.specs.Refusals.{named, grown, short, tree_judged}
use Rattle.tree_decode.specs.Direct.{short_in, few_parts, used_by, used_once, meant, tree_direct}
use Rattle.tree_forms.proofs.Writing.{Every, FitsTree}
use Rattle.tree_forms.proofs.Texts.{Sound, name-plain, names-plain, text-small, text-read, fields-path, table-again}
use Rattle.tree_forms.proofs.Growing.{after-length, Grown, grown-is}
use Rattle.tree_forms.proofs.Sound.{all-every, tree-names, tree-sound}

-- a test of a list that was made from another
pub all_map : {A B : Type 0} (p : B → Bool) (q : A → Bool) (f : A → B) (l : List A) → Every (λ x. p (f x) ≡ q x) l → all p (map f l) ≡ all q l
unfolding all
all_map p q f [] h = refl
all_map p q f (x ∷ l) h = ap₂ ◌&&◌ (h x (Memᴰ.head refl)) (all_map p q f l (λ y m. h y (Memᴰ.tail m)))

pub any-map : {A B : Type 0} (p : B → Bool) (q : A → Bool) (f : A → B) (l : List A) → Every (λ x. p (f x) ≡ q x) l → any p (map f l) ≡ any q l
unfolding any
any-map p q f [] h = refl
any-map p q f (x ∷ l) h = ap₂ (λ (a b : Bool). cond a true b) (h x (Memᴰ.head refl)) (any-map p q f l (λ y m. h y (Memᴰ.tail m)))

-- the category and the parts of a sound URN's text
text-parts : (names : List Name) (u : Urn) → all stored_name names ≡ true → Sound names u
    → (category_of (urn_text names u) ≡ get_or names u.cat []) × (fields 58 (urn_text names u) ≡ get_or names u.cat [] ∷ u.path)
unfolding after_colons all
text-parts names u o s = go u.path s.some-part s.named
  where
    go : (p : Parts) → p ≢ [] → all stored_name p ≡ true
        → (category_of (urn_text names (urn u.cat p)) ≡ get_or names u.cat []) × (fields 58 (urn_text names (urn u.cat p)) ≡ get_or names u.cat [] ∷ p)
    go [] n e = absurd (n refl)
    go (x ∷ p) n e =
        let a = (and-eq-true_iff (stored_name x) (all stored_name p)).0 e in
        let k = all-mem stored_name names (get_or names u.cat []) o (mem-at names u.cat [] s.known) in
        let l = (name-plain (get_or names u.cat []) k).1 in (
          (text-read (get_or names u.cat []) x p l (name-plain x a.0).1 (names-plain p a.1)).0,
          fields-path (get_or names u.cat []) (x ∷ p) l (names-plain (x ∷ p) e),
        )

module _ (names : List Name) (T : Table) (o : all stored_name names ≡ true) (c : T.cats ≡ length names) (s : Every (Every (Sound names)) T.signals) where
  urn-formed : (u : Urn) → Sound names u → urn_ok (urn_text names u) ≡ leb (length u.path) 8
  unfolding urn_ok all
  urn-formed u v =
      let f = (text-parts names u o v).1 in
      let k = all-mem stored_name names (get_or names u.cat []) o (mem-at names u.cat [] v.known) in
      let n : all name_ok (get_or names u.cat [] ∷ u.path) ≡ true = names-plain (get_or names u.cat [] ∷ u.path) (ap₂ ◌&&◌ k v.named) in
      ap (λ b. b && (within 2 9 (length (fields 58 (urn_text names u))) && all name_ok (fields 58 (urn_text names u))))
      (text-small (get_or names u.cat []) u.path k v.named)
      ∙ ap (λ (l : List Name). within 2 9 (length l) && all name_ok l) f ∙ ap (λ b. within 2 9 (suc (length u.path)) && b) n ∙ and-true _
      ∙ count u.path v.some-part
    where
      count : (p : Parts) → p ≢ [] → within 2 9 (suc (length p)) ≡ leb (length p) 8
      count [] n = absurd (n refl)
      count (x ∷ p) n =
          by_test (leb (length (x ∷ p)) 8)
          (λ h. ap₂ ◌&&◌ (le-leb 2 (suc (length (x ∷ p))) (omega arith)) (le-leb (suc (length (x ∷ p))) 9 (omega (
            arith,
            leb-true (length (x ∷ p)) 8 h,
          ))) ∙ sym h)
          (λ h. ap₂ ◌&&◌ (le-leb 2 (suc (length (x ∷ p))) (omega arith)) (lt-leb (suc (length (x ∷ p))) 9 (omega (
            arith,
            leb-false (length (x ∷ p)) 8 h,
          ))) ∙ sym h)

  -- 7
  formed-is : formed (stored_in names T) ≡ few_parts T
  unfolding formed stored_in few_parts
  formed-is =
      ap (λ b. b && all (all urn_ok) (map (map (urn_text names)) T.signals)) o
      ∙ all_map (all urn_ok) (all (λ u. leb (length u.path) 8)) (map (urn_text names)) T.signals
      (λ sig m. all_map urn_ok (λ u. leb (length u.path) 8) (urn_text names) sig (λ u i. urn-formed u (s sig m u i)))

  -- 6
  short-is : short (stored_in names T) ≡ short_in names T
  unfolding short stored_in short_in
  short-is =
      all_map (all (λ u. leb (length u) most_urn_bytes)) (all (λ u. leb (length (urn_text names u)) most_urn_bytes)) (map (urn_text names)) T.signals
      (λ sig m. all_map (λ u. leb (length u) most_urn_bytes) (λ u. leb (length (urn_text names u)) most_urn_bytes) (urn_text names) sig (λ u i. refl))

  -- 8
  all_listed : all (all (is_listed names)) (map (map (urn_text names)) T.signals) ≡ true
  unfolding is_listed
  all_listed =
      all_map (all (is_listed names)) (all (λ u. true)) (map (urn_text names)) T.signals
      (λ sig m. all_map (is_listed names) (λ u. true) (urn_text names) sig
      (λ u i.
      let v = s sig m u i in
      ap (λ (x : Name). member_by same_name x names) (text-parts names u o v).0 ∙ member_of same_name name-exact (get_or names u.cat [])
      names (mem-at names u.cat [] v.known)))
      ∙ all-every (all (λ u. true)) T.signals (λ sig m. all-every (λ u. true) sig (λ u i. refl))

  same-category : Distinct same_name names → (k : ℕ) → k < length names → (u : Urn) → Sound names u
      → same_name (category_of (urn_text names u)) (get_or names k []) ≡ eqb u.cat k
  same-category d k h u v =
      ap (λ (x : Name). same_name x (get_or names k [])) (text-parts names u o v).0
      ∙ same_test (same_name (get_or names u.cat []) (get_or names k [])) (eqb u.cat k)
      (λ e. eq-eqb u.cat k (sym (index_at same_name name-exact [] names d u.cat v.known)
      ∙ ap (λ (x : Name). index_by same_name x names) (name-exact.to (get_or names u.cat []) (get_or names k []) e)
      ∙ index_at same_name name-exact [] names d k h))
      (λ e. ap (λ i. same_name (get_or names i []) (get_or names k [])) (eqb-true u.cat k e) ∙ name-exact.self (get_or names k []))

  used-is : no_two same_name names ≡ true → all (λ x. any (uses x) (map (map (urn_text names)) T.signals)) names
      ≡ all (used_by T) (tabulate (λ k. k) (length names))
  unfolding uses
  used-is t =
      ap (all (λ x. any (uses x) (map (map (urn_text names)) T.signals))) (sym (tab-list names []))
      ∙ all_alike (λ x. any (uses x) (map (map (urn_text names)) T.signals)) (used_by T) (λ i. get_or names i []) (λ k. k) (length names)
      (λ k h. any-map (uses (get_or names k [])) (any (λ u. eqb u.cat k)) (map (urn_text names)) T.signals
      (λ sig m. any-map (λ u. same_name (category_of u) (get_or names k [])) (λ u. eqb u.cat k) (urn_text names) sig
      (λ u i. same-category (two-distinct names t) k h u (s sig m u i))))

  listed-is : listed (stored_in names T) ≡ used_once names T
  unfolding listed stored_in used_once
  listed-is = by_test (no_two same_name names) (λ t. rw (t, all_listed, used-is t) (and-true _)) (λ t. rw t)

  listed-table : listed (stored_in names T) ≡ true → table_in (stored_in names T) ≡ T
  unfolding listed stored_in
  listed-table e = table-again names T o ((and-eq-true_iff (no_two same_name names) _).0 e).0 c s

  -- 7 to 12
  judged-is : judged (stored_in names T) ≡ cond (few_parts T) (cond (used_once names T) (verdict T) 8) 7
  unfolding judged
  judged-is =
      by_test (listed (stored_in names T))
      (λ e. ap₂ (λ (a : Bool) (U : Table). cond a (cond (listed (stored_in names T)) (verdict U) 8) 7) formed-is (listed-table e)
      ∙ ap (λ b. cond (few_parts T) (cond b (verdict T) 8) 7) listed-is)
      (λ e. ap₂ (λ (a b : Bool). cond a (cond b (verdict (table_in (stored_in names T))) 8) 7) formed-is e
      ∙ ap (λ b. cond (few_parts T) (cond b (verdict T) 8) 7) (sym e ∙ listed-is))

  -- 6 to 12
  pub meant_is : cond (short (stored_in names T)) (judged (stored_in names T)) 6 ≡ meant names T
  unfolding meant
  meant_is = ap₂ (λ (a : Bool) (n : ℕ). cond a n 6) short-is judged-is

-- there are at most 64 nodes
few-nodes : (x : Tree) → FitsTree x → Grown x → few_nodes (table_of_tree x) ≡ true
unfolding few_nodes
few-nodes x f g = le-leb (length (nodes (table_of_tree x))) most_nodes (omega (arith, ap length g.order, after-length [] x.nodes, f.nodes.0.1))

-- the refusal of a tree
pub tree-direct : (x : Tree) → tree_judged x ≡ tree_direct x
unfolding tree_judged tree_direct
tree-direct x =
    by_test (named x)
    (λ o. by_test (grown x)
    (λ g. let w = grown-is x g in rw (o, g) (meant_is x.names (table_of_tree x) (tree-names x o w).0 refl (tree-sound x o w)))
    (λ g. rw (o, g)))
    (λ o. rw o)

-- a tree that the tree form can hold is never refused with 12
never-many : (T : Table) → few_nodes T ≡ true → verdict T ≢ 12
unfolding verdict
never-many T f e = go (single T) (zero_silent T) (distinct T) (rw f at e)
  where
    go : (a b c : Bool) → ◌≡◌ {A = ℕ} (cond a (cond b (cond c 0 11) 10) 9) 12 → ⊥
    go true true true z = omega arith
    go true true false z = omega arith
    go true false c z = omega arith
    go false b c z = omega arith

pub never-twelve : (x : Tree) → FitsTree x → tree_judged x ≢ 12
unfolding tree_direct meant
never-twelve x f e =
    go (named x) (grown x) refl (short_in x.names (table_of_tree x)) (few_parts (table_of_tree x)) (used_once x.names (table_of_tree x)) (sym (tree-direct x) ∙ e)
  where
    go : (a b : Bool) → grown x ≡ b → (c d g : Bool) → cond a (cond b (cond c (cond d (cond g (verdict (table_of_tree x)) 8) 7) 6) 21) 7 ≡ 12 → ⊥
    go true true h true true true z = never-many (table_of_tree x) (few-nodes x f (grown-is x h)) z
    go true true h true true false z = omega arith
    go true true h true false g z = omega arith
    go true true h false d g z = omega arith
    go true false h c d g z = omega arith
    go false b h c d g z = omega arith

-- a path with one more part is longer by its name and a colon
pub colons-more : (p : Parts) (x : Name) → length (after_colons (p ++ x ∷ [])) ≡ length (after_colons p) + suc (length x)
unfolding after_colons
colons-more [] x = omega (arith, ap length (append-nil x))
colons-more (y ∷ p) x = omega (arith, length-append y (after_colons (p ++ x ∷ [])), length-append y (after_colons p), colons-more p x)
