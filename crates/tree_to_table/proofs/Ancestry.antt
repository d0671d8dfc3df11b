-- Laws of a conversion from the tree form: the ancestors of a node are its path, and the arrays say what the other form stores.
use Prim.Native.Nat.{ℕ, suc, zero, ◌+◌, ◌-◌, ◌≤◌, ◌<◌}
use mathlib.Core.Path.{◌≡◌, refl, ap, ap₂, sym, ◌∙◌, subst}
use mathlib.Core.Bool.{Bool, true, false, cond, ◌&&◌}
use mathlib.Core.List.{List, [], ◌∷◌, ◌++◌, map, append_assoc, append-nil, Memᴰ}
use native.Mathlib.Omega.{arith}
use native.Mathlib.Numerals.{add-one}
use native.Mathlib.Nat.{zero-add}
use lib.ListN.{length, get_or, replicate, length-map, length-append}
use lib.Dec.{leb}
use borrow.Author.Tests.{ne_eqb, le-leb, leb-true}
use Rattle.base_numbers.specs.Numbers.{most_nodes}
use Rattle.base_lists.proofs.Each.{each_append}
use Rattle.base_lists.specs.Cuts.{stretch}
use Rattle.base_lists.proofs.Over.{laid_nil}
use Rattle.base_lists.proofs.Tests.{all-mem}
use Rattle.base_lists.specs.Tests.{all}
use Rattle.base_lists.specs.Numbers.{within}
use Rattle.base_lists.proofs.Tabulated.{tabulate-at, tabulate-length}
use Rattle.base_lists.proofs.Lists.{mem-at}
use Rattle.base_lists.specs.Lists.{tabulate, joined, laid, each}
use Rattle.theory_resolution.specs.Names.{Name, Parts}
use Rattle.theory_resolution.specs.Table.{Urn, Table}
use Rattle.theory_resolution.specs.Nodes.{node_at}
use Rattle.base_text.specs.Text.{after_colons}
use Rattle.table_places.specs.Verdict.{verdict}
use Rattle.tree_sections.specs.Tree.{Node, node_of, Tree}
use Rattle.tree_forms.specs.Bytes.{section, text_bytes, stored_bytes}
use Rattle.tree_forms.specs.Meaning.{urn_of, urns_of, table_of_tree, urn_text, stored_in}
use Rattle.tree_forms.specs.Refusals.{tree_refusal}
use Rattle.tree_decode.specs.Direct.{short_in, few_parts, used_once, meant}
use Rattle.tree_forms.specs.Conversion.{old_form, refused, converted, from_tree, fits_old}
use Rattle.tree_sections.specs.Held.{node_from, number_at, tree_held, TreeHeld}
use Rattle.tree_decode.specs.Stages.{Sizes, Depths, GrownAs}
use Rattle.tree_bytes.specs.Laid.{answer, Puts, of_signal, Eight}
use Rattle.tree_to_table.specs.Urns.{parent_of, ancestor_of, last_of, part_bytes, urn_bytes, Ready}
use Rattle.tree_sections.specs.declared.Counts.{Counts}
use Rattle.base_bytes.specs.declared.Built.{Built as Answer}
use Rattle.tree_forms.proofs.Writing.{Every}
use Rattle.tree_forms.proofs.Growing.{signal-number, after-length, is-grown}
use Rattle.tree_forms.proofs.Theorems.{tree-refusal, tree-passed, old-form, fits-old}
use Rattle.tree_decode.proofs.Measures.{facts, short-by, few-by}
use Rattle.tree_decode.proofs.Composed.{fits, grew, refusal-meant, count, node-is, known, parented, numbered-in, nodes-all, sizes-right, depths-right}
use Rattle.tree_decode.proofs.Composed.{numbers-are}
use Rattle.tree_bytes.proofs.Laying.{each_more, puts-join, signals-are, eight}

within-node : (i : ℕ) → i < most_nodes → within 1 most_nodes (suc i) ≡ true
within-node i h = ap₂ ◌&&◌ (le-leb 1 (suc i) (omega arith)) (le-leb (suc i) most_nodes (omega arith))

last-in : (t at len : List ℕ) (i : ℕ) → i < most_nodes → last_of t at len (suc i) ≡ stretch t at len i
unfolding last_of
last-in t at len i h = let o : suc i - 1 ≡ i = omega arith in ap (λ (c : Bool). cond c (stretch t at len (suc i - 1)) []) (within-node i h)
    ∙ ap (stretch t at len) o

parent_in : (parent : List ℕ) (i : ℕ) → i < most_nodes → parent_of parent (suc i) ≡ get_or parent i 0
unfolding parent_of
parent_in parent i h = let o : suc i - 1 ≡ i = omega arith in ap (λ (c : Bool). cond c (get_or parent (suc i - 1) 0) 0) (within-node i h)
    ∙ ap (λ j. get_or parent j 0) o

no-parts : (w : ℕ → List ℕ) → each w (tabulate (λ d. d) 0) ≡ after_colons []
unfolding each tabulate after_colons
no-parts w = refl

-- a last name, and ancestors one further
pub last_some : (t at len : List ℕ) (k : ℕ) → 1 ≤ k → k ≤ most_nodes → stretch t at len (k - 1) ≡ last_of t at len k
unfolding last_of
last_some t at len k h l = sym (rw (le-leb 1 k h, le-leb k most_nodes l))

pub ancestor-more : (parent : List ℕ) (k i : ℕ) {a b : ℕ} → a ≡ ancestor_of parent k i → b ≡ parent_of parent a → b ≡ ancestor_of parent k (i + 1)
ancestor-more parent k i e f = f ∙ ap (parent_of parent) e ∙ ap (ancestor_of parent k) (sym (add-one i))

pub ancestor-end : (parent : List ℕ) (k i j : ℕ) {a : ℕ} → i ≤ j → j ≤ i → a ≡ ancestor_of parent k i → a ≡ ancestor_of parent k j
ancestor-end parent k i j h l e = let q : i ≡ j = omega arith in e ∙ ap (ancestor_of parent k) q

ancestor-shift : (parent : List ℕ) (k m : ℕ) → ancestor_of parent k (suc m) ≡ ancestor_of parent (parent_of parent k) m
ancestor-shift parent k zero = refl
ancestor-shift parent k (suc m) = ap (parent_of parent) (ancestor-shift parent k m)

-- a colon and a last name
pub puts-part : {x y z : List ℕ} {a r s : ℕ} {w l : List ℕ} → Puts x y a (58 ∷ []) r → Puts y z r w s → w ≡ l → Puts x z a (58 ∷ l) s
puts-part {x} {y} {z} {a} {r} {s} F G e = subst (λ (l : List ℕ). Puts x z a (58 ∷ l) s) e (puts-join F G)

-- a URN after its length
pub puts-urn : (t name_at name_len category parent at len size depth : List ℕ) (k : ℕ) {x y z v : List ℕ} {a r s u n c : ℕ} {w : List ℕ}
    → n ≡ get_or size (k - 1) 0 → c ≡ get_or category (k - 1) 0 → w ≡ stretch t name_at name_len c
    → Puts x y a (n ∷ []) r → Puts y z r w s
    → Puts z v s (each (part_bytes t parent at len k (get_or depth (k - 1) 0)) (tabulate (λ d. d) (get_or depth (k - 1) 0))) u
    → Puts x v a (urn_bytes t name_at name_len category parent at len size depth k) u
unfolding urn_bytes
puts-urn t name_at name_len category parent at len size depth k {x} {y} {z} {v} {a} {r} {s} {u} {n} {c} {w} e f g F G H =
    subst (λ (l : List ℕ). Puts x v a l u)
    (ap₂ (λ (m : ℕ) (l : List ℕ). m
    ∷ (l ++ each (part_bytes t parent at len k (get_or depth (k - 1) 0)) (tabulate (λ d. d) (get_or depth (k - 1) 0)))) e (g ∙ ap (stretch t name_at name_len) f))
    (puts-join (puts-join F G) H)

each_same : (v w : ℕ → List ℕ) (n : ℕ) → ((d : ℕ) → d < n → v d ≡ w d) → each v (tabulate (λ d. d) n) ≡ each w (tabulate (λ d. d) n)
unfolding tabulate each
each_same v w zero h = refl
each_same v w (suc n) h =
    each_append v (tabulate (λ d. d) n) (n ∷ []) ∙ ap₂ (λ (a b : List ℕ). a ++ (b ++ [])) (each_same v w n (λ d l. h d (omega arith)))
    (h n (omega arith)) ∙ sym (each_append w (tabulate (λ d. d) n) (n ∷ []))

colons-snoc : (p : Parts) (x : Name) → after_colons (p ++ x ∷ []) ≡ after_colons p ++ (58 ∷ x)
unfolding after_colons
colons-snoc [] x = ap (λ (l : List ℕ). 58 ∷ l) (append-nil x)
colons-snoc (y ∷ p) x = ap (λ (l : List ℕ). 58 ∷ l) (ap (λ (l : List ℕ). y ++ l) (colons-snoc p x) ∙ sym (append_assoc y (after_colons p) (58 ∷ x)))

-- a list that was made from another, written
each_map : {A B : Type 0} (w : B → List ℕ) (v : A → List ℕ) (f : A → B) (l : List A) → Every (λ y. w (f y) ≡ v y) l → each w (map f l) ≡ each v l
unfolding each
each_map w v f [] h = refl
each_map w v f (x ∷ l) h = ap₂ (λ (a b : List ℕ). a ++ b) (h x (Memᴰ.head refl)) (each_map w v f l (λ y m. h y (Memᴰ.tail m)))

section-map : {A B : Type 0} (w : B → List ℕ) (v : A → List ℕ) (f : A → B) (l : List A) → Every (λ y. w (f y) ≡ v y) l → section w (map f l) ≡ section v l
section-map w v f l h = ap₂ (λ (n : ℕ) (b : List ℕ). n ∷ b) (length-map l f) (each_map w v f l h)

-- 6 and 7 have passed
meant-zero : (names : List Name) (T : Table) → meant names T ≡ 0 → (short_in names T ≡ true) × (few_parts T ≡ true)
unfolding meant
meant-zero names T e = go (short_in names T) (few_parts T) refl refl e
  where
    go : (a b : Bool) → short_in names T ≡ a → few_parts T ≡ b → ◌≡◌ {A = ℕ} (cond a (cond b (cond (used_once names T) (verdict T) 8) 7) 6) 0
        → (short_in names T ≡ true) × (few_parts T ≡ true)
    go true true p q e = (p, q)
    go true false p q e = absurd (omega arith)
    go false b p q e = absurd (omega arith)

fits-room : (n room : ℕ) {f : Bool} → f ≡ fits_old n room → f ≡ true → n ≤ room
fits-room n room e t = (fits-old n room (sym e ∙ t)).1

-- a tree that is not refused has grown
pub well-grown : (t name_at name_len category parent at len signal number : List ℕ) (r : Counts)
    → TreeHeld t name_at name_len category parent at len signal number r → tree_refusal t ≡ 0
    → GrownAs t name_at name_len category parent at len signal number r
well-grown t name_at name_len category parent at len signal number r H z =
    let y = tree_held t name_at name_len category parent at len H.signals r in
    let p = tree-passed y (sym (tree-refusal t y H.next H.short H.whole) ∙ z) in
    record { read = H; names = p.names; grows = is-grown y p.grows }

module _ (t name_at name_len category parent at len signal number : List ℕ) (r : Counts) (G : GrownAs t name_at name_len category parent at len
    signal number r) where
  abbrev x : Tree
  x = tree_held t name_at name_len category parent at len G.read.signals r

  abbrev T : Table
  T = table_of_tree x

  abbrev us : List Urn
  us = urns_of x

  abbrev nodes-count : length x.nodes ≡ r.nodes
  nodes-count = count t name_at name_len category parent at len signal number r G

  own : (i : ℕ) → i < r.nodes → node_of x.nodes i ≡ node_from t category parent at len i
  own i h = node-is t name_at name_len category parent at len signal number r G i h

  path-is : (i : ℕ) → i < r.nodes → (node_at us i).path ≡ (urn_of us (get_or parent i 0)).path ++ stretch t at len i ∷ []
  path-is i h =
      (facts x (grew t name_at name_len category parent at len signal number r G) i (omega (arith, nodes-count))).path
      ∙ ap (λ (n : Node). (urn_of us n.parent).path ++ n.last ∷ []) (own i h)

  -- the ancestors of a node, written
  parts : (b i : ℕ) → i < b → i < r.nodes → each (part_bytes t parent at len (suc i) (length (node_at us i).path))
      (tabulate (λ d. d) (length (node_at us i).path)) ≡ after_colons (node_at us i).path
  parts zero i l h = absurd (omega arith)
  parts (suc b) i l h = go (get_or parent i 0) refl (λ j a c. parts b j a c)
    where
      few : i < most_nodes
      few = omega (arith, G.read.few-nodes)

      low : get_or parent i 0 ≤ i
      low = (parented t name_at name_len category parent at len signal number r G).low i h

      -- with the path of the parent, q
      with-path : (q : Parts) (D : ℕ) → length q ≡ D → (node_at us i).path ≡ q ++ stretch t at len i ∷ []
          → each (part_bytes t parent at len (suc i) (D + 1)) (tabulate (λ d. d) D) ≡ after_colons q
          → each (part_bytes t parent at len (suc i) (length (node_at us i).path)) (tabulate (λ d. d) (length (node_at us i).path))
          ≡ after_colons (node_at us i).path
      with-path q D e p f =
          let n : length (node_at us i).path ≡ D + 1 = ap length p ∙ length-append q (stretch t at len i ∷ []) ∙ ap (λ k. k + 1) e in
          let o : D + 1 - 1 - D ≡ 0 = omega arith in
          ap (λ k. each (part_bytes t parent at len (suc i) k) (tabulate (λ d. d) k)) n
          ∙ each_more (part_bytes t parent at len (suc i) (D + 1)) (λ d. d) D
          ∙ ap₂ (λ (a b : List ℕ). a ++ b) f (ap (λ k. 58 ∷ last_of t at len (ancestor_of parent (suc i) k)) o
          ∙ ap (λ (w : List ℕ). 58 ∷ w) (last-in t at len i few))
          ∙ sym (ap after_colons p ∙ colons-snoc q (stretch t at len i))

      go : (p : ℕ) → get_or parent i 0 ≡ p
          → ((j : ℕ) → j < b → j < r.nodes → each (part_bytes t parent at len (suc j) (length (node_at us j).path))
          (tabulate (λ d. d) (length (node_at us j).path)) ≡ after_colons (node_at us j).path)
          → each (part_bytes t parent at len (suc i) (length (node_at us i).path)) (tabulate (λ d. d) (length (node_at us i).path))
          ≡ after_colons (node_at us i).path
      go zero q ih = with-path [] 0 refl (path-is i h ∙ ap (λ p. (urn_of us p).path ++ stretch t at len i ∷ []) q)
          (no-parts (part_bytes t parent at len (suc i) (0 + 1)))
      go (suc j) q ih =
          let P : Parts = (node_at us j).path in
          let D : ℕ = length P in
          with-path P D refl (path-is i h ∙ ap (λ p. (urn_of us p).path ++ stretch t at len i ∷ []) q)
          (each_same (part_bytes t parent at len (suc i) (D + 1)) (part_bytes t parent at len (suc j) D) D
          (λ d k.
          let o : D + 1 - 1 - d ≡ suc (D - 1 - d) = omega arith in
          ap (λ m. 58 ∷ last_of t at len (ancestor_of parent (suc i) m)) o
          ∙ ap (λ m. 58 ∷ last_of t at len m) (ancestor-shift parent (suc i) (D - 1 - d) ∙ ap (λ m. ancestor_of parent m (D - 1 - d))
          (parent_in parent i few ∙ q)))
          ∙ ih j (omega (arith, low, q)) (omega (arith, low, q)))

  module _ (size depth : List ℕ) (F : Sizes t name_at name_len category parent at len r.nodes size)
      (D : Depths parent r.nodes depth) where
    abbrev ub : ℕ → List ℕ
    ub = urn_bytes t name_at name_len category parent at len size depth

    urn-is : (i : ℕ) → i < r.nodes → text_bytes (urn_text x.names (node_at us i)) ≡ ub (suc i)
    unfolding urn_bytes
    urn-is i h =
        let o : suc i - 1 ≡ i = omega arith in
        let k : i < length x.nodes = omega (arith, nodes-count) in
        let c : (node_at us i).cat ≡ get_or category i 0 = (facts x (grew t name_at name_len category parent at len signal number r G) i k).cat
        ∙ ap (λ (n : Node). n.category) (own i h) in
        let n : get_or x.names (node_at us i).cat [] ≡ stretch t name_at name_len (get_or category i 0) =
        ap (λ m. get_or x.names m []) c ∙ tabulate-at (stretch t name_at name_len) r.categories (get_or category i 0) []
        (known t name_at name_len category parent at len signal number r G i h) in
        let s = sizes-right t name_at name_len category parent at len signal number r G size F i k in
        let d = depths-right t name_at name_len category parent at len signal number r G depth D i k in
        ap₂ (λ (m : ℕ) (w : List ℕ). m ∷ w) (sym s)
        (ap₂ (λ (a b : List ℕ). a ++ b) n (sym (parts (suc i) i (omega arith) h)
        ∙ ap (λ m. each (part_bytes t parent at len (suc i) m) (tabulate (λ d. d) m)) (sym d)))
        ∙ ap (λ m. get_or size m 0 ∷ (stretch t name_at name_len (get_or category m 0)
        ++ each (part_bytes t parent at len (suc i) (get_or depth m 0)) (tabulate (λ d. d) (get_or depth m 0)))) (sym o)

    number_is : (sig : List ℕ) → Memᴰ sig x.signals → (k : ℕ) → Memᴰ k sig → text_bytes (urn_text x.names (urn_of us k)) ≡ ub k
    number_is sig m k i =
        let w = signal-number x (grew t name_at name_len category parent at len signal number r G) sig m k i in
        let l : w.0 < r.nodes = omega (arith, w.2, after-length [] x.nodes, nodes-count) in
        ap (λ j. text_bytes (urn_text x.names (urn_of us j))) w.1 ∙ urn-is w.0 l ∙ ap ub (sym w.1)

    signals-written : section (section text_bytes) (map (map (urn_text x.names)) T.signals) ≡ section (section ub) x.signals
    signals-written =
        section-map (section text_bytes) (section (λ u. text_bytes (urn_text x.names u))) (map (urn_text x.names)) T.signals
        (λ sig m. section-map text_bytes (λ u. text_bytes (urn_text x.names u)) (urn_text x.names) sig (λ u i. refl))
        ∙ section-map (section (λ u. text_bytes (urn_text x.names u))) (section ub) (map (urn_of us)) x.signals
        (λ sig m. section-map (λ u. text_bytes (urn_text x.names u)) ub (urn_of us) sig (λ k i. number_is sig m k i))

    abbrev numbers : List ℕ
    numbers = tabulate (λ i. get_or number i 0) r.numbers

    each_of : (p : ℕ → Bool) → all p (joined x.signals) ≡ true → (i : ℕ) → i < r.numbers → p (get_or number i 0) ≡ true
    each_of p e i h =
        let f : ℕ → ℕ = λ i. get_or number i 0 in
        ap p (sym (tabulate-at f r.numbers i 0 h))
        ∙ all-mem p numbers (get_or numbers i 0) (ap (all p) (numbers-are t name_at name_len category parent at len signal number r G.read)
        ∙ e) (mem-at numbers i 0 (omega (arith, tabulate-length f r.numbers)))

    pub ready : tree_refusal t ≡ 0 → Ready number category size depth r.numbers
    ready z =
        let y = grew t name_at name_len category parent at len signal number r G in
        let w = meant-zero x.names T (sym (refusal-meant t name_at name_len category parent at len signal number r G) ∙ z) in
        record {
          node = nodes-all t name_at name_len category parent at len signal number r G;
          listed = λ i h. let n = numbered-in t name_at name_len category parent at len signal number r G i h in
              (parented t name_at name_len category parent at len signal number r G).few (get_or number i 0 - 1) (omega (arith, n.0, n.1));
          small = λ i h. leb-true (get_or size (get_or number i 0 - 1) 0) 255
              (each_of (λ k. leb (get_or size (k - 1) 0) 255)
              (sym (short-by x y (λ i. get_or size i 0) (sizes-right t name_at name_len category parent at len signal number r G size F)) ∙ w.0) i h);
          shallow = λ i h. leb-true (get_or depth (get_or number i 0 - 1) 0) 8
              (each_of (λ k. leb (get_or depth (k - 1) 0) 8)
              (sym (few-by x y (λ i. get_or depth i 0) (depths-right t name_at name_len category parent at len signal number r G depth D)) ∙ w.1) i h);
        }

    module _ {b y v : List ℕ} {p e : ℕ} (P : Puts b y 0 (section text_bytes (tabulate (stretch t name_at name_len) r.categories)) p)
        (Q : Puts y v p (section (section ub) (tabulate (λ s. of_signal s (tabulate (number_at signal number) r.numbers)) r.signals)) e) where
      wrote : Puts b v 0 (old_form t) e
      unfolding stored_bytes stored_in
      wrote =
          subst (λ (l : List ℕ). Puts b v 0 l e)
          (ap (λ (l : List ℕ). section text_bytes x.names ++ l)
          (ap (section (section ub))
          (ap (tabulate (λ s. of_signal s (tabulate (number_at signal number) r.numbers))) (sym G.read.held.all-signals)
          ∙ signals-are signal number r.numbers x.signals G.read.held.numbers)
          ∙ sym signals-written)
          ∙ sym (old-form t x G.read.next G.read.whole))
          (puts-join P Q)

      pub old-formed : tree_refusal t ≡ 0 → {u : List ℕ} {a : Answer} {fit : Bool} → fit ≡ fits_old e (length v)
          → ((form c : List ℕ) → (fit ≡ true → e ≤ length c) → length form ≡ e → length c ≡ length v → v ≡ laid form c
          → (a ≡ answer (converted 0 fit form (length c))) × (u ≡ (converted 0 fit form (length c)).buffer))
          → (a ≡ answer (from_tree t (length b))) × (u ≡ (from_tree t (length b)).buffer)
      unfolding from_tree
      old-formed z {u} {a} {fit} f K =
          let l : length (old_form t) ≡ e = sym (wrote.end ∙ zero-add (length (old_form t))) in
          let k = K (old_form t) b (λ w. omega (arith, fits-room e (length v) f w, wrote.long)) l (sym wrote.long) (wrote.goes_on [] b refl (laid_nil b)) in
          let o : fit ≡ fits_old (length (old_form t)) (length b) = f ∙ ap₂ fits_old (sym l) wrote.long in
          let q : converted 0 fit (old_form t) (length b) ≡ converted (tree_refusal t) (fits_old (length (old_form t)) (length b)) (old_form t)
          (length b) = ap₂ (λ (j : ℕ) (g : Bool). converted j g (old_form t) (length b)) (sym z) o in
          (k.0 ∙ ap answer q, k.1 ∙ ap (λ c. c.buffer) q)

  pub eight-read : Eight signal number r.numbers
  eight-read =
      eight signal number r.numbers x.signals G.read.held.numbers
      (λ sig i. ((fits t name_at name_len category parent at len signal number r G).signals.1 sig i).0.1)

-- what is known of one number
pub ready_at : (number category size depth : List ℕ) (m : ℕ) → Ready number category size depth m → (i : ℕ) → i < m → {k : ℕ} → k ≡ get_or number i 0
    → (1 ≤ k) × (k ≤ most_nodes) × (get_or category (k - 1) 0 < 8) × (get_or size (k - 1) 0 ≤ 255) × (get_or depth (k - 1) 0 ≤ 8)
ready_at number category size depth m R i h e =
    subst (λ (k : ℕ). (1 ≤ k) × (k ≤ most_nodes) × (get_or category (k - 1) 0 < 8) × (get_or size (k - 1) 0 ≤ 255) × (get_or depth (k - 1) 0 ≤ 8)) (sym e)
    ((R.node i h).0, (R.node i h).1, R.listed i h, R.small i h, R.shallow i h)

-- a refused conversion
converted-no : (k : ℕ) (fits : Bool) (bytes : List ℕ) (room : ℕ) → (k ≡ 0 → ⊥) → converted k fits bytes room ≡ refused k room
unfolding converted
converted-no k fits bytes room n = rw (ne_eqb k 0 n)

pub not-from : (room : ℕ) {k : ℕ} {r : Answer} {v : List ℕ} → (k ≡ 0 → ⊥) → r ≡ record { refusal = k; len = 0 } → v ≡ replicate room 0
    → (t : List ℕ) → k ≡ tree_refusal t
    → (r ≡ answer (from_tree t room)) × (v ≡ (from_tree t room).buffer)
unfolding from_tree
not-from room {k} n e f t q =
    let b : Bool = fits_old (length (old_form t)) room in
    let w = sym (converted-no k b (old_form t) room n) ∙ ap (λ (j : ℕ). converted j b (old_form t) room) q in
    (e ∙ ap answer w, f ∙ ap (λ c. c.buffer) w)
