-- Entries as they are written: pieces one after the other.
use Prim.Native.Nat.{ℕ, suc, ◌+◌, ◌-◌, ◌≤◌, ◌<◌}
use mathlib.Core.Path.{◌≡◌, refl, sym, ap, ap₂, ◌∙◌}
use mathlib.Core.Bool.{Bool, true, false, cond}
use mathlib.Core.List.{List, [], ◌∷◌, ◌++◌, append_assoc}
use native.Mathlib.Omega.{arith}
use lib.Dec.{eqb}
use lib.ListN.{length, get_or, set, take, drop, drop_of_length-le}
use lib.Seq.{drop-cons, sets, sets-eq, length-sets}
use denote.Ref.{Bor}
use Rattle.std.proofs.lemmas.List.{drop-drop}
use borrow.Rule.Slice.PartMut.{put_mid}
use Rattle.base_lists.specs.Lists.{joined}
use borrow.Author.Tests.{eq-eqb, ne_eqb}
use Rattle.base_numbers.specs.Numbers.{most_categories, most_nodes}
use Rattle.node_search.specs.Arrays.{text_in}
use Rattle.node_search.proofs.TextLaws.{text_in_lem}
use Rattle.theory_resolution.specs.Names.{Name, Parts}
use Rattle.theory_resolution.specs.Table.{Urn, urn}
use Rattle.theory_resolution.specs.Nodes.{nodes, node_at}
use Rattle.base_text.specs.Text.{fields, on_first, text_of}
use Rattle.base_ascii.specs.Ascii.{bytes}
use Rattle.table_decode.specs.Tables.{table_of, category_names}
use Rattle.node_search.specs.declared.decoded.Decoded.{Decoded}
use Rattle.sample_seed.specs.Numbers.{next_of, choice_of}
use Rattle.sample_names.specs.FirstFree.{foreign, strange}
use Rattle.sample_library.specs.Sample.{uri_of, name_of, node_uri, foreign_uri, Draw, draw_of, bare}
use Rattle.sample_library.specs.Written.{Ready, in_row}
use Rattle.sample_library.proofs.TextLaws.{colons-append, colons-one, colons-fields}
use Rattle.sample_library.proofs.TableTexts.{NodeText, node-at-text}
use Rattle.sample_library.proofs.ValueLaws.{chosen-node}

-- bytes written one after the other
pub put_whole : (b : List ℕ) (at : ℕ) (s : List ℕ) {c : List ℕ} → at + length s ≤ length b → c ≡ s → put_mid at (at + length s - at) b c ≡ sets b at s
put_whole b at s {c} h e =
    let k : at + (at + length s - at) ≡ at + length s = omega arith in
    ap (λ (x : List ℕ). take at b ++ (x ++ drop (at + length s - at) (drop at b))) e
    ∙ ap (λ (l : List ℕ). take at b ++ (s ++ l)) (drop-drop (at + length s - at) at b ∙ ap (λ (j : ℕ). drop j b) k)
    ∙ sym (append_assoc (take at b) s (drop (at + length s) b)) ∙ sym (sets-eq s b at h)

pub sets-append : (b : List ℕ) (at : ℕ) (p s : List ℕ) → sets b at (p ++ s) ≡ sets (sets b at p) (at + length p) s
sets-append b at [] s = let z : at ≡ at + 0 = omega arith in ap (λ (k : ℕ). sets b k s) z
sets-append b at (x ∷ p) s =
    let z : suc at + length p ≡ at + suc (length p) = omega arith in
    sets-append (set b at x) (suc at) p s ∙ ap (λ (k : ℕ). sets (sets (set b at x) (suc at) p) k s) z

-- a piece after what was written
pub then-put : (b : List ℕ) (at : ℕ) (p s : List ℕ) {e : ℕ} {c d : List ℕ} → e ≡ at + length p → c ≡ sets b at p → d ≡ sets c e s → d ≡ sets b at (p ++ s)
then-put b at p s {e} {c} {d} h k g = g ∙ ap₂ (λ (x : List ℕ) (j : ℕ). sets x j s) k h ∙ sym (sets-append b at p s)

pub kept : (b : List ℕ) (at : ℕ) (s : List ℕ) {c : List ℕ} → c ≡ sets b at s → length c ≡ length b
kept b at s e = ap length e ∙ length-sets b at s

-- the texts that are left, one after the other
module _ (ts : List (Bor (List ℕ))) (i : ℕ) where
  pub row-next : (d : Bor (List ℕ)) → i < length ts → in_row (drop i ts) ≡ (get_or ts i d).now ++ in_row (drop (i + 1) ts)
  unfolding joined
  row-next d h = let k : suc i ≡ i + 1 = omega arith in ap in_row (drop-cons ts i d h) ∙ ap (λ (j : ℕ). (get_or ts i d).now ++ in_row (drop j ts)) k

  pub row-end : length ts ≤ i → in_row (drop i ts) ≡ []
  unfolding joined
  row-end h = ap in_row (drop_of_length-le ts h)

-- the pieces of an entry
abbrev first : List ℕ
first = 60 ∷ 117 ∷ 114 ∷ 110 ∷ 58 ∷ 97 ∷ 108 ∷ 101 ∷ 114 ∷ 116 ∷ 58 ∷ []

plain-row : (x p : List ℕ) → joined (first ∷ x ∷ (58 ∷ []) ∷ p ∷ (62 ∷ []) ∷ []) ≡ bare (uri_of x (fields 58 p))
unfolding joined bare uri_of text_of
plain-row x p = ap (λ (l : List ℕ). first ++ l) (sym (append_assoc x (58 ∷ p) (62 ∷ []))) ∙ sym (ap (λ (l : List ℕ). first ++ (x ++ l) ++ 62 ∷ []) (colons-fields p))

strange-row : (x p z : List ℕ) → joined (first ∷ x ∷ (58 ∷ []) ∷ p ∷ (58 ∷ []) ∷ z ∷ (62 ∷ []) ∷ []) ≡ bare (uri_of x (fields 58 p ++ z ∷ []))
unfolding joined bare uri_of text_of
strange-row x p z =
    ap (λ (l : List ℕ). first ++ (x ++ 58 ∷ l)) (sym (append_assoc p (58 ∷ z) (62 ∷ [])))
    ∙ ap (λ (l : List ℕ). first ++ l) (sym (append_assoc x (58 ∷ (p ++ 58 ∷ z)) (62 ∷ [])))
    ∙ sym (ap (λ (l : List ℕ). first ++ (x ++ l) ++ 62 ∷ []) (colons-append (fields 58 p) (z ∷ []) ∙ ap₂ (λ (a : List ℕ) (c : List ℕ). a ++ c) (colons-fields p) (colons-one z)))

a-field : fields 58 (97 ∷ []) ≡ bytes "a" ∷ []
unfolding fields on_first
a-field = refl

pub foreign-row : (names : List Name) {z : List ℕ} → z ≡ foreign names → joined (first ∷ z ∷ (58 ∷ 97 ∷ 62 ∷ []) ∷ []) ≡ bare (foreign_uri names)
unfolding foreign_uri joined
foreign-row names {z} e = plain-row z (97 ∷ []) ∙ ap₂ (λ (y : Name) (q : Parts). bare (uri_of y q)) e a-field

-- a node's name and path, in the table's bytes
module _ (t : List ℕ) (d : Decoded) (r : Ready t d) (i : ℕ) (h : i < d.nodes) where
  abbrev u : Urn
  u = node_at (nodes (table_of t)) i

  written : NodeText (category_names t) u
  written = node-at-text t r.formed i (omega (arith, h, r.holds.nodes.all-nodes))

  cat-known : get_or d.category i 0 < d.categories
  cat-known = omega (arith, r.holds.nodes.cat-at i h, written.known, r.holds.names.all-names)

  cat-few : get_or d.category i 0 < 8
  cat-few = omega (arith, cat-known, r.holds.names.few-names)

  node-few : i < most_nodes
  node-few = omega (arith, h, r.holds.nodes.few-nodes)

  -- what stands in the table's bytes
  pub name-is : {k : ℕ} {w : List ℕ} → k ≡ get_or d.category i 0 → w ≡ text_in most_categories t d.name_at d.name_len k → w ≡ name_of (category_names t) u
  name-is e f =
      let c = get_or d.category i 0 in
      text_in_lem most_categories t d.name_at d.name_len c (f ∙ ap (text_in most_categories t d.name_at d.name_len) e) cat-few
      ∙ r.holds.names.name-at c cat-known ∙ ap (λ (k : ℕ). get_or (category_names t) k []) (r.holds.nodes.cat-at i h)

  pub path-is : {w : List ℕ} → w ≡ text_in most_nodes t d.at d.len i → fields 58 w ≡ u.path
  path-is f = ap (fields 58) (text_in_lem most_nodes t d.at d.len i f node-few) ∙ r.holds.nodes.path-at i h

  module _ (x p : List ℕ) (e : x ≡ name_of (category_names t) u) (f : fields 58 p ≡ u.path) (kind : ℕ) where
    pub node-plain : (kind ≡ 1 → ⊥) → joined (first ∷ x ∷ (58 ∷ []) ∷ p ∷ (62 ∷ []) ∷ []) ≡ bare (node_uri (category_names t) (nodes (table_of t)) kind u)
    unfolding node_uri
    node-plain n =
        plain-row x p ∙ ap₂ (λ (y : Name) (q : Parts). bare (uri_of y q)) e f
        ∙ sym (ap (λ (b : Bool). bare (cond b (uri_of (name_of (category_names t) u) (u.path ++ strange (nodes (table_of t)) u ∷ []))
        (uri_of (name_of (category_names t) u) u.path))) (ne_eqb kind 1 n))

    pub node-strange : {z : List ℕ} → kind ≡ 1 → z ≡ strange (nodes (table_of t)) (urn (get_or d.category i 0) (fields 58 p))
        → joined (first ∷ x ∷ (58 ∷ []) ∷ p ∷ (58 ∷ []) ∷ z ∷ (62 ∷ []) ∷ []) ≡ bare (node_uri (category_names t) (nodes (table_of t)) kind u)
    unfolding node_uri
    node-strange {z} n g =
        let same : z ≡ strange (nodes (table_of t)) u = g ∙ ap (strange (nodes (table_of t))) (ap₂ urn (r.holds.nodes.cat-at i h) f) in
        strange-row x p z ∙ ap (λ (y : Name). bare (uri_of x (fields 58 p ++ y ∷ []))) same
        ∙ ap₂ (λ (y : Name) (q : Parts). bare (uri_of y (q ++ strange (nodes (table_of t)) u ∷ []))) e f
        ∙ sym (ap (λ (b : Bool). bare (cond b (uri_of (name_of (category_names t) u) (u.path ++ strange (nodes (table_of t)) u ∷ []))
        (uri_of (name_of (category_names t) u) u.path))) (eq-eqb kind 1 n))

-- an entry by its choices
module _ (names : List Name) (ns : List Urn) (x : ℕ) {y kind : ℕ} (e : y ≡ next_of x) (f : kind ≡ choice_of y 3) where
  pub draw-foreign : kind ≡ 2 → record { uri = foreign_uri names; seed = y } ≡ draw_of names ns x
  unfolding draw_of
  draw-foreign n =
      let g : eqb (choice_of (next_of x) 3) 2 ≡ true = eq-eqb _ _ (ap (λ (z : ℕ). choice_of z 3) (sym e) ∙ sym f ∙ n) in
      simp g (ap (λ (s : ℕ). record { uri = foreign_uri names; seed = s }) e)

  pub draw-node : {z i n : ℕ} → (kind ≡ 2 → ⊥) → z ≡ next_of y → i ≡ choice_of z n → n ≡ length ns
      → record { uri = node_uri names ns kind (node_at ns i); seed = z } ≡ draw_of names ns x
  unfolding draw_of
  draw-node {z} {i} {n} o g j l =
      let k : kind ≡ choice_of (next_of x) 3 = f ∙ ap (λ (z : ℕ). choice_of z 3) e in
      let m : eqb (choice_of (next_of x) 3) 2 ≡ false = ne_eqb _ _ (λ q. o (k ∙ q)) in
      let s : z ≡ next_of (next_of x) = g ∙ ap next_of e in
      let w : i ≡ choice_of (next_of (next_of x)) (length ns) = j ∙ ap₂ choice_of s l in
      simp m (λ q. record { uri = node_uri names ns (k q) (node_at ns (w q)); seed = s q })

-- what is written for a draw
pub drawn-as : (b : List ℕ) (at : ℕ) (uri : List ℕ) {d : Draw} {k z : ℕ} {c : List ℕ} → record { uri = uri; seed = z } ≡ d
    → (k ≡ at + length (bare uri)) × (c ≡ sets b at (bare uri)) → (k ≡ at + length (bare d.uri)) × (z ≡ d.seed) × (c ≡ sets b at (bare d.uri))
drawn-as b at uri g h =
    (h.0 ∙ ap (λ (w : Draw). at + length (bare w.uri)) g, ap (λ (w : Draw). w.seed) g, h.1 ∙ ap (λ (w : Draw). sets b at (bare w.uri)) g)

-- the chosen node is one
pub node-chosen : (t : List ℕ) (d : Decoded) → Ready t d → (i z n : ℕ) → i ≡ choice_of z n → n ≡ d.nodes → i < d.nodes
node-chosen t d r i z n e f =
    let l : length (nodes (table_of t)) ≡ d.nodes = r.holds.nodes.all-nodes in
    let g : i ≡ choice_of z (length (nodes (table_of t))) = e ∙ ap (choice_of z) (f ∙ sym l) in
    omega (arith, g, chosen-node t r.formed z, l)
