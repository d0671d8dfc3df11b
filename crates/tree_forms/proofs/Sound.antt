-- The URNs of a tree and of a stored table are sound: what both forms then can hold, and which tests they pass.
use Prim.Native.Nat.{ℕ, zero, suc, ◌*◌, ◌≤◌, ◌<◌}
use mathlib.Core.Path.{◌≡◌, refl, ap, ap₂, sym, ◌∙◌, subst}
use mathlib.Core.Logic.{◌⊎◌, inl, inr, ◌≢◌}
use mathlib.Core.Bool.{Bool, true, ◌&&◌, and-eq-true_iff}
use mathlib.Core.List.Memᴰ
use mathlib.Core.List.{List, [], ◌∷◌, ◌++◌, map, Memᴰ}
use native.Mathlib.Omega.{arith}
use native.Mathlib.Decide.{dec_lt}
use lib.ListN.{length, get_or, length-append, get_or-eq_default, length-map}
use lib.Dec.{leb, ltb}
use borrow.Author.Tests.{leb-true, le-leb, ltb-true, lt-ltb}
use Rattle.base_numbers.specs.Numbers.{most_nodes, most_urn_bytes}
use Rattle.base_lists.specs.Lists.{each}
use Rattle.base_lists.proofs.Tests.{all-mem}
use Rattle.base_lists.specs.Cuts.{up_to, past}
use Rattle.base_lists.specs.Tests.{all}
use Rattle.base_lists.specs.Numbers.{within}
use Rattle.base_lists.proofs.Lists.{mem-at, map-mem}
use Rattle.theory_resolution.specs.Names.{Name, Parts}
use Rattle.theory_resolution.specs.Table.{Urn, urn, Table}
use Rattle.theory_resolution.specs.Nodes.{nodes, node_at}
use Rattle.theory_resolution.proofs.Names.{snoc-view}
use Rattle.theory_resolution.proofs.Nodes.{nodes-all, urn-node}
use Rattle.theory_resolution.proofs.Numbers.{number-node, number-le}
use Rattle.base_text.specs.Text.{fields, after_colons}
use Rattle.urn_names.specs.Urn.{no_capital, stored_name, urn_ok}
use Rattle.table_sections.specs.Stored.{got, Stored, stored}
use Rattle.table_decode.specs.Tables.{to_urn, table_in}
use Rattle.table_places.specs.Verdict.{few_nodes}
use Rattle.table_decode.proofs.Accepting.{fields-parts, Passed, from-stored, formed-urn, known, some-part, used}
use Rattle.tree_sections.specs.Tree.{Node, Tree}
use Rattle.tree_forms.specs.Bytes.{section, text_bytes, number_bytes, node_bytes, tree_bytes}
use Rattle.tree_forms.specs.Meaning.{urn_of, node_urn, urns_after, urns_of, table_of_tree, front, last_name, node_in, number_in, tree_in, urn_text}
use Rattle.tree_forms.specs.Meaning.{stored_in, tree_of, stored_of}
use Rattle.tree_forms.specs.Refusals.{named, short}
use Rattle.tree_forms.proofs.Writing.{Every, every-cons, FitsByte, FitsMany, FitsNode, FitsStored, FitsTree}
use Rattle.tree_forms.proofs.Texts.{name-is, Sound, name-plain, fields-small, both-names}
use Rattle.tree_forms.proofs.Growing.{last_snoc, urns-again, parents-again, says-again, Grown, signal-number}

-- a test that every element passes
pub all-every : {A : Type 0} (p : A → Bool) (xs : List A) → Every (λ x. p x ≡ true) xs → all p xs ≡ true
unfolding all
all-every p [] h = refl
all-every p (x ∷ xs) h = ap₂ ◌&&◌ (h x (Memᴰ.head refl)) (all-every p xs (λ y m. h y (Memᴰ.tail m)))

-- the elements of a list that was made from another
pub every_map : {A B : Type 0} (P : B → Type 0) (f : A → B) (xs : List A) → Every (λ x. P (f x)) xs → Every P (map f xs)
every_map P f xs h y m = let w = map-mem f xs y m in subst P (sym w.2) (h w.0 w.1)

every_append : {A : Type 0} (P : A → Type 0) (a b : List A) → Every P a → Every P b → Every P (a ++ b)
every_append P a b f g x m = go (Memᴰ.append_cases a m)
  where
    go : Memᴰ x a ⊎ Memᴰ x b → P x
    go (inl k) = f x k
    go (inr k) = g x k

all-front : (p q : Parts) → all stored_name (p ++ q) ≡ true → all stored_name p ≡ true
all-front p q e = all-every stored_name p (λ x m. all-mem stored_name (p ++ q) x e (Memᴰ.append_left q m))

all-joined : (p : Parts) (x : Name) → all stored_name p ≡ true → stored_name x ≡ true → all stored_name (p ++ x ∷ []) ≡ true
all-joined p x e f =
    all-every stored_name (p ++ x ∷ [])
    (every_append (λ y. stored_name y ≡ true) p (x ∷ []) (λ y m. all-mem stored_name p y e m)
    (every-cons (λ y. stored_name y ≡ true) x [] f (λ y m. absurd (Memᴰ.not-nil m))))

no_end : (p : Parts) (x : Name) → p ++ x ∷ [] ≢ []
no_end p x e = omega (arith, length-append p (x ∷ []), ap length e)

-- the URNs of a tree's nodes are sound
module _ (names : List Name) where
  path-named : (a : List Urn) → Every (Sound names) a → (k : ℕ) → all stored_name (urn_of a k).path ≡ true
  unfolding all
  path-named a s zero = refl
  path-named a s (suc j) = go (dec_lt j (length a))
    where
      go : Dec (j < length a) → all stored_name (node_at a j).path ≡ true
      go (yes h) = (s (node_at a j) (mem-at a j (urn 0 []) h)).named
      go (no h) = ap (λ (u : Urn). all stored_name u.path) (get_or-eq_default a (urn 0 []) {n = j} (omega arith))

  after-sound : (a : List Urn) (ns : List Node) → Every (Sound names) a → all (λ n. ltb n.category (length names)) ns ≡ true
      → all (λ n. stored_name n.last) ns ≡ true
      → Every (Sound names) (urns_after a ns)
  unfolding urns_after all
  after-sound a [] s e f = s
  after-sound a (n ∷ ns) s e f =
      let b = (and-eq-true_iff (ltb n.category (length names)) (all (λ n. ltb n.category (length names)) ns)).0 e in
      let c = (and-eq-true_iff (stored_name n.last) (all (λ n. stored_name n.last) ns)).0 f in
      let p : Parts = (urn_of a n.parent).path in
      let u : Sound names (node_urn a n) =
      record {
        known = ltb-true n.category (length names) b.0;
        some-part = no_end p n.last;
        named = all-joined p n.last (path-named a s n.parent) c.0;
      } in
      after-sound (a ++ node_urn a n ∷ []) ns
      (every_append (Sound names) a (node_urn a n ∷ []) s (every-cons (Sound names) (node_urn a n) [] u (λ v m. absurd (Memᴰ.not-nil m))))
      b.1 c.1

-- and those of the table that it says
module _ (x : Tree) (o : named x ≡ true) (g : Grown x) where
  pub tree-names : (all stored_name x.names ≡ true) × (all (λ n. stored_name n.last) x.nodes ≡ true)
  unfolding named
  tree-names = (and-eq-true_iff (all stored_name x.names) (all (λ n. stored_name n.last) x.nodes)).0 o

  urns-sound : Every (Sound x.names) (urns_of x)
  urns-sound = after-sound x.names [] x.nodes (λ u m. absurd (Memᴰ.not-nil m)) g.categories tree-names.1

  pub tree-sound : Every (Every (Sound x.names)) (table_of_tree x).signals
  tree-sound =
      every_map (Every (Sound x.names)) (map (urn_of (urns_of x))) x.signals
      (λ sig m. every_map (Sound x.names) (urn_of (urns_of x)) sig
      (λ k i.
      let w = signal-number x g sig m k i in
      let q : urn_of (urns_of x) k ≡ node_at (urns_of x) w.0 = ap (urn_of (urns_of x)) w.1 in
      subst (λ (u : Urn). Sound x.names u) (sym q) (urns-sound (node_at (urns_of x) w.0) (mem-at (urns_of x) w.0 (urn 0 []) w.2))))

-- a text with a part has a byte
text-some : (names : List Name) (u : Urn) → Sound names u → 1 ≤ length (urn_text names u)
unfolding after_colons
text-some names u s = go u.path s.some-part
  where
    go : (p : Parts) → p ≢ [] → 1 ≤ length (get_or names u.cat [] ++ after_colons p)
    go [] n = absurd (n refl)
    go (y ∷ p) n = omega (arith, length-append (get_or names u.cat []) (58 ∷ (y ++ after_colons p)))

-- what the old form of a tree can hold
pub stored-fits : (x : Tree) → FitsTree x → named x ≡ true → Grown x → short (stored_of x) ≡ true → FitsStored (stored_of x)
unfolding stored_in short
stored-fits x f o g e =
    let T : Table = table_of_tree x in
    let l : length (map (map (urn_text x.names)) T.signals) ≡ length x.signals = length-map T.signals (map (urn_text x.names))
    ∙ length-map x.signals (map (urn_of (urns_of x))) in
    record {
      names = f.names;
      signals = (
        (omega (arith, l, f.signals.0.0), omega (arith, l, f.signals.0.1)),
        λ us m.
            let a = map-mem (map (urn_text x.names)) T.signals us m in
            let b = map-mem (map (urn_of (urns_of x))) x.signals a.0 a.1 in
            let k : length us ≡ length b.0 = ap length a.2 ∙ length-map a.0 (urn_text x.names) ∙ ap length b.2
            ∙ length-map b.0 (urn_of (urns_of x)) in
            let h = f.signals.1 b.0 b.1 in
            let s : all (λ u. leb (length u) most_urn_bytes) us ≡ true =
            all-mem (all (λ u. leb (length u) most_urn_bytes)) (map (map (urn_text x.names)) T.signals) us e m in (
              (omega arith, omega (arith, k, h.0.1)),
              λ w i.
                  let c = map-mem (urn_text x.names) a.0 w (subst (λ (l : List (List ℕ)). Memᴰ w l) a.2 i) in (
                    omega (arith, ap length c.2, text-some x.names c.0 (tree-sound x o g a.0 a.1 c.0 c.1)),
                    leb-true (length w) 255 (all-mem (λ u. leb (length u) most_urn_bytes) us w s i),
                  ),
            ),
      );
    }

-- the nodes of a table with sound URNs are sound
pub nodes-sound : (names : List Name) (T : Table) → Every (Every (Sound names)) T.signals → Every (Sound names) (nodes T)
nodes-sound names T s u m =
    let n = nodes-all T u m in
    let b = s n.signal n.listed n.by n.named in
    let e : all stored_name (u.path ++ n.above.rest) ≡ true = ap (all stored_name) n.above.joined ∙ b.named in
    record { known = omega (arith, b.known, n.cat); some-part = n.some-part; named = all-front u.path n.above.rest e }

last-named : (names : List Name) (u : Urn) → Sound names u → stored_name (last_name u.path) ≡ true
last-named names u s = go (snoc-view u.path)
  where
    go : (u.path ≡ []) ⊎ ((p : Parts) × (x : Name) × (u.path ≡ p ++ x ∷ [])) → stored_name (last_name u.path) ≡ true
    go (inl z) = absurd (s.some-part z)
    go (inr w) =
        let e : all stored_name (w.0 ++ w.1 ∷ []) ≡ true = ap (all stored_name) (sym w.2) ∙ s.named in
        ap (λ (p : Parts). stored_name (last_name p)) w.2 ∙ ap stored_name (last_snoc w.0 w.1)
        ∙ all-mem stored_name (w.0 ++ w.1 ∷ []) w.1 e (Memᴰ.append_right w.0 (Memᴰ.head refl))

-- the tree of a table with sound URNs passes 7 and 21
module _ (names : List Name) (T : Table) (c : T.cats ≡ length names) (s : Every (Every (Sound names)) T.signals) where
  pub tree-says : table_of_tree (tree_in names T) ≡ T
  tree-says = says-again names T c (λ sig m u i. (s sig m u i).some-part)

  pub tree-named : all stored_name names ≡ true → named (tree_in names T) ≡ true
  unfolding named tree_in
  tree-named e =
      ap₂ ◌&&◌ e
      (all-every (λ n. stored_name n.last) (map (node_in (nodes T)) (nodes T))
      (every_map (λ n. stored_name n.last ≡ true) (node_in (nodes T)) (nodes T) (λ u m. last-named names u (nodes-sound names T s u m))))

  urn-number : (sig : List Urn) → Memᴰ sig T.signals → (u : Urn) → Memᴰ u sig → (k : ℕ) × (number_in (nodes T) u ≡ suc k) × (k < length (nodes T))
  urn-number sig m u i = let w = number-node (nodes T) u.cat u.path (urn-node T sig u m i (s sig m u i).some-part) in (w.0, w.2, w.1)

  pub tree-grown : Grown (tree_in names T)
  unfolding tree_in
  tree-grown =
      let ns : List Node = map (node_in (nodes T)) (nodes T) in
      let l : length ns ≡ length (nodes T) = length-map (nodes T) (node_in (nodes T)) in
      record {
        categories =
            all-every (λ n. ltb n.category (length names)) ns
            (every_map (λ n. ltb n.category (length names) ≡ true) (node_in (nodes T)) (nodes T)
            (λ u m. lt-ltb u.cat (length names) (nodes-sound names T s u m).known));
        numbers =
            all-every (all (within 1 (length ns))) (map (map (number_in (nodes T))) T.signals)
            (every_map (λ ks. all (within 1 (length ns)) ks ≡ true) (map (number_in (nodes T))) T.signals
            (λ sig m. all-every (within 1 (length ns)) (map (number_in (nodes T)) sig)
            (every_map (λ k. within 1 (length ns) k ≡ true) (number_in (nodes T)) sig
            (λ u i.
            let w = urn-number sig m u i in
            ap₂ ◌&&◌ (le-leb 1 (number_in (nodes T) u) (omega (arith, w.1))) (le-leb (number_in (nodes T) u) (length ns) (omega (arith, w.1, w.2, l)))))));
        parents = parents-again names T;
        order = urns-again names T ∙ ap nodes (sym tree-says);
      }

-- a URN that has its form has no capital letter
small : (w : List ℕ) → urn_ok w ≡ true → no_capital w ≡ true
unfolding urn_ok
small w e = ((and-eq-true_iff (no_capital w) _).0 e).0

-- the URNs of a stored table are sound
module _ (t : List ℕ) (s : Stored) (q : ℕ) (r : stored t ≡ got s q) (g : Passed s) where
  pub stored-sound : Every (Every (Sound s.names)) (table_in s).signals
  stored-sound sig m u i =
      let a = from-stored t s q r g sig m u i in
      let o = formed-urn t s q r g a.0 a.1 a.2 a.3 in
      let f = fields-parts a.2 o in
      let e : all stored_name (up_to 58 a.2 ∷ fields 58 (past 58 a.2)) ≡ true = ap (all stored_name) (sym f.0)
      ∙ both-names (fields 58 a.2) (fields-small a.2 (small a.2 o)) f.2 in
      record {
        known = known t s q r g sig m u i;
        some-part = some-part t s q r g sig m u i;
        named = ap (λ (v : Urn). all stored_name v.path) a.4 ∙ rest (up_to 58 a.2) (fields 58 (past 58 a.2)) e;
      }
    where
      rest : (x : Name) (p : Parts) → all stored_name (x ∷ p) ≡ true → all stored_name p ≡ true
      rest x p e = all-every stored_name p (λ y m. all-mem stored_name (x ∷ p) y e (Memᴰ.tail m))

  -- what the tree form of a stored table can hold
  pub tree-fits : FitsStored s → FitsTree (tree_of s)
  unfolding tree_in few_nodes
  tree-fits f =
      let T : Table = table_in s in
      let l : length (map (node_in (nodes T)) (nodes T)) ≡ length (nodes T) = length-map (nodes T) (node_in (nodes T)) in
      let h : length (nodes T) ≤ most_nodes = leb-true (length (nodes T)) most_nodes g.few in
      let a = used t s q r g 0 f.names.0.0 in
      let b = urn-number s.names T refl stored-sound a.0 a.1 a.2 a.3 in
      let i = length-map s.signals (map (to_urn s.names)) in
      let j = length-map T.signals (map (number_in (nodes T))) in
      record {
        names = f.names;
        nodes = (
          (omega (arith, l, b.2), omega (arith, l, h)),
          every_map FitsNode (node_in (nodes T)) (nodes T)
              (λ u m.
              let v = nodes-sound s.names T stored-sound u m in
              record {
                category = (omega arith, omega (arith, v.known, f.names.0.1));
                parent = (omega arith, omega (arith, number-le (nodes T) u.cat (front u.path), h));
                last = (name-is (last_name u.path) (name-plain (last_name u.path) (last-named s.names u v)).1).0;
              }),
        );
        signals = (
          (omega (arith, i, j, f.signals.0.0), omega (arith, i, j, f.signals.0.1)),
          every_map (FitsMany 0 8 (FitsByte 0 255)) (map (number_in (nodes T))) T.signals
              (every_map (λ sig. FitsMany 0 8 (FitsByte 0 255) (map (number_in (nodes T)) sig)) (map (to_urn s.names)) s.signals
              (λ us m.
              let k = length-map us (to_urn s.names) in
              let o = length-map (map (to_urn s.names) us) (number_in (nodes T)) in (
                (omega arith, omega (arith, k, o, (f.signals.1 us m).0.1)),
                every_map (FitsByte 0 255) (number_in (nodes T)) (map (to_urn s.names) us) (λ u n. (
                  omega arith,
                  omega (arith, number-le (nodes T) u.cat u.path, h),
                )),
              ))),
        );
      }

-- the old form of a stored table can hold its paths
pub fits-short : (s : Stored) → FitsStored s → short s ≡ true
unfolding short
fits-short s f = all-every (all (λ u. leb (length u) most_urn_bytes)) s.signals
    (λ us m. all-every (λ u. leb (length u) most_urn_bytes) us (λ u i. le-leb (length u) most_urn_bytes ((f.signals.1 us m).1 u i).1))

-- how long the tree form can be
each-length : {A : Type 0} (w : A → List ℕ) (n : ℕ) (xs : List A) → Every (λ x. length (w x) ≤ n) xs → length (each w xs) ≤ length xs * n
unfolding each
each-length w n [] h = omega arith
each-length w n (x ∷ xs) h = omega (arith, length-append (w x) (each w xs), h x (Memᴰ.head refl), each-length w n xs (λ y m. h y (Memᴰ.tail m)))

pub tree-small : (x : Tree) → FitsTree x → length (tree_bytes x) ≤ 4451
unfolding tree_bytes
tree-small x f =
    let a = each-length text_bytes 56 x.names (λ y m. omega (arith, (f.names.1 y m).1)) in
    let b = each-length node_bytes 58 x.nodes (λ n m. omega (arith, (f.nodes.1 n m).last.1)) in
    let c = each-length (section number_bytes) 9 x.signals
    (λ ks m. let k = each-length number_bytes 1 ks (λ y i. omega arith) in omega (arith, k, (f.signals.1 ks m).0.1)) in
    let d = length-append (section text_bytes x.names) (section node_bytes x.nodes ++ section (section number_bytes) x.signals) in
    let e = length-append (section node_bytes x.nodes) (section (section number_bytes) x.signals) in
    omega (arith, a, b, c, d, e, f.names.0.1, f.nodes.0.1, f.signals.0.1)
