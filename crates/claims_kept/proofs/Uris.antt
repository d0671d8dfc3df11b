-- A node's URN as bytes is used by its table, as that node.
use Prim.Native.Nat.{ℕ, ◌≤◌}
use mathlib.Core.Path.{◌≡◌, refl, sym, ap, ap₂, ◌∙◌}
use mathlib.Core.Logic.{◌≢◌}
use mathlib.Core.Bool.{Bool, true, false, cond, not, ◌&&◌, and-eq-true_iff, true≢false}
use mathlib.Core.Option.{none, some}
use mathlib.Core.List.{List, [], ◌∷◌, ◌++◌, append_assoc, Memᴰ}
use lib.Dec.{leb}
use lib.ListN.{length, get_or, drop, length-append}
use borrow.Author.Tests.{le-leb}
use native.Mathlib.Omega.{arith}
use Rattle.base_lists.proofs.Tests.{all-mem}
use Rattle.base_lists.proofs.Lists.{index-member, member-to}
use Rattle.base_lists.specs.Lists.{member_by, index_by}
use Rattle.base_lists.specs.Cuts.{up_to, past}
use Rattle.base_lists.specs.Tests.{all}
use Rattle.base_lists.specs.Numbers.{within}
use Rattle.base_text.specs.Text.{fields, after_colons, text_of, lower, lowered}
use Rattle.base_text.proofs.Fields.{text-fields}
use Rattle.theory_resolution.specs.Names.{Name, Parts, same_name}
use Rattle.theory_resolution.specs.Table.{Urn, urn}
use Rattle.theory_resolution.specs.Nodes.{same_urn, nodes, is_node}
use Rattle.theory_resolution.proofs.Names.{name-exact}
use Rattle.theory_resolution.proofs.Nodes.{urn-exact, nodes-all}
use Rattle.urn_names.specs.Names.{name_ok}
use Rattle.urn_names.specs.Urn.{not_capital, no_capital, urn_ok, category_of, path_of}
use Rattle.node_search.specs.Uses.{used_urn}
use Rattle.table_sections.specs.Stored.{got, Stored, stored}
use Rattle.table_decode.specs.Tables.{is_listed, to_urn, table_in, table_refusal, table_read, table_of, names_read, category_names}
use Rattle.table_decode.proofs.Accepting.{Passed, judged-zero, refusal-zero, from-stored, formed-urn, three, fields-parts}
use Rattle.sample_library.specs.Sample.{uri_of, name_of}
use Rattle.sample_library.proofs.TextLaws.{colons-append, fields-text, uri-alert}

-- what all of a list are, its front is
all-front : {A : Type 0} (p : A → Bool) (l k : List A) → all p (l ++ k) ≡ true → all p l ≡ true
unfolding all
all-front p [] k e = refl
all-front p (x ∷ l) k e =
    let b = (and-eq-true_iff (p x) (all p (l ++ k))).0 e in
    (and-eq-true_iff (p x) (all p l)).1 (b.0, all-front p l k b.1)

-- a text without capital letters stays as it is
small-byte : (x : ℕ) → not_capital x ≡ true → lower x ≡ x
small-byte x e = go (within 65 90 x) refl e
  where
    go : (b : Bool) → within 65 90 x ≡ b → not b ≡ true → lower x ≡ x
    go true i h = absurd (true≢false (sym h))
    go false i h = rw i refl

small-stays : (s : List ℕ) → all not_capital s ≡ true → lowered s ≡ s
unfolding all lowered
small-stays [] e = refl
small-stays (x ∷ s) e =
    let b = (and-eq-true_iff (not_capital x) (all not_capital s)).0 e in
    ap₂ ◌∷◌ (small-byte x b.0) (small-stays s b.1)

-- a category and some parts, with colons between, are the front of a text with more parts
text-front : (x : Name) (p r : Parts) → text_of (x ∷ (p ++ r)) ≡ text_of (x ∷ p) ++ after_colons r
unfolding text_of
text-front x p r = ap (λ z. x ++ z) (colons-append p r) ∙ sym (append_assoc x (after_colons p) (after_colons r))

-- what follows urn:alert:
after-scheme : (x : Name) (p : Parts) → drop 10 (uri_of x p) ≡ text_of (x ∷ p)
unfolding uri_of
after-scheme x p = refl

-- the URI of a stored category and parts
module _ (names : List Name) (x y : Name) (ys : Parts) (ok : urn_ok (text_of (x ∷ y ∷ ys)) ≡ true) (good : all name_ok (x ∷ y ∷ ys) ≡ true)
    (there : member_by same_name x names ≡ true) where
  abbrev text : List ℕ
  text = text_of (x ∷ y ∷ ys)

  lower-text : lowered (drop 10 (uri_of x (y ∷ ys))) ≡ text
  unfolding urn_ok no_capital
  lower-text =
      ap lowered (after-scheme x (y ∷ ys))
      ∙ small-stays text ((and-eq-true_iff (all not_capital text) (within 2 9 (length (fields 58 text)) && all name_ok (fields 58 text))).0 ok).0

  both : x ∷ y ∷ ys ≡ up_to 58 text ∷ fields 58 (past 58 text)
  both = sym (fields-text x (y ∷ ys) good) ∙ (fields-parts text ok).0

  its-name : up_to 58 text ≡ x
  its-name = cc (both)

  its-parts : fields 58 (past 58 text) ≡ y ∷ ys
  its-parts = cc (both)

  pub uri-used : used_urn names (uri_of x (y ∷ ys)) ≡ some (urn (index_by same_name x names) (y ∷ ys))
  unfolding used_urn
  uri-used =
      ap₂ (λ b w. cond (b && member_by same_name (category_of w) names)
      (some (urn (index_by same_name (category_of w) names) (fields 58 (path_of w)))) none) (uri-alert x y ys good) lower-text
      ∙ ap₂ (λ z q. cond (true && member_by same_name z names) (some (urn (index_by same_name z names) q)) none) its-name its-parts
      ∙ ap (λ b. cond (true && b) (some (urn (index_by same_name x names) (y ∷ ys))) none) there

-- the front of a stored URN has its form
front-good : (x : Name) (p rest : Parts) (v : List ℕ) → fields 58 v ≡ x ∷ (p ++ rest)
    → (fields 58 v ≡ up_to 58 v ∷ fields 58 (past 58 v)) × (length (fields 58 v) ≤ 9) × (all name_ok (fields 58 v) ≡ true) → all name_ok (x ∷ p) ≡ true
front-good x p rest v k f = all-front name_ok (x ∷ p) rest (ap (all name_ok) (sym k) ∙ f.2)

short_ok : (x : Name) (p rest : Parts) → p ≢ [] → (v : List ℕ) → urn_ok v ≡ true → v ≡ text_of (x ∷ p) ++ after_colons rest → fields 58 v ≡ x ∷ (p ++ rest)
    → (fields 58 v ≡ up_to 58 v ∷ fields 58 (past 58 v)) × (length (fields 58 v) ≤ 9) × (all name_ok (fields 58 v) ≡ true) → urn_ok (text_of (x ∷ p)) ≡ true
unfolding urn_ok no_capital
short_ok x [] rest n v ok e k f = absurd (n refl)
short_ok x (y ∷ ys) rest n v ok e k f =
    let good = front-good x (y ∷ ys) rest v k f in
    let own : fields 58 (text_of (x ∷ y ∷ ys)) ≡ x ∷ y ∷ ys = fields-text x (y ∷ ys) good in
    let small : all not_capital (text_of (x ∷ y ∷ ys)) ≡ true =
    all-front not_capital (text_of (x ∷ y ∷ ys)) (after_colons rest)
    (ap (all not_capital) (sym e) ∙ ((and-eq-true_iff (all not_capital v) (within 2 9 (length (fields 58 v)) && all name_ok (fields 58 v))).0 ok).0) in
    let few : length (x ∷ y ∷ ys) ≤ 9 = omega (arith, f.1, ap length k, length-append (y ∷ ys) rest) in
    let in-range : within 2 9 (length (fields 58 (text_of (x ∷ y ∷ ys)))) ≡ true =
    ap (λ (l : Parts). within 2 9 (length l)) own ∙ (and-eq-true_iff (leb 2 (length (x ∷ y ∷ ys))) (leb (length (x ∷ y ∷ ys)) 9)).1
    (le-leb 2 (length (x ∷ y ∷ ys)) (omega arith), le-leb (length (x ∷ y ∷ ys)) 9 few) in
    (and-eq-true_iff (all not_capital (text_of (x ∷ y ∷ ys))) (within 2 9 (length (fields 58 (text_of (x ∷ y ∷ ys))))
    && all name_ok (fields 58 (text_of (x ∷ y ∷ ys))))).1 (
      small,
      (and-eq-true_iff (within 2 9 (length (fields 58 (text_of (x ∷ y ∷ ys))))) (all name_ok (fields 58 (text_of (x ∷ y ∷ ys))))).1
          (in-range, ap (all name_ok) own ∙ good),
    )

-- a node of what is stored
module _ (t : List ℕ) (s : Stored) (q : ℕ) (r : stored t ≡ got s q) (g : Passed s) (u : Urn) (m : Memᴰ u (nodes (table_in s))) where
  used-in : used_urn s.names (uri_of (name_of s.names u) u.path) ≡ some u
  unfolding is_listed
  used-in =
      let n = nodes-all (table_in s) u m in
      let a = from-stored t s q r g n.signal n.listed n.by n.named in
      let v : List ℕ = a.2 in
      let c : n.by.cat ≡ (to_urn s.names v).cat = ap (λ (x : Urn). x.cat) a.4 in
      let p : n.by.path ≡ fields 58 (past 58 v) = ap (λ (x : Urn). x.path) a.4 in
      let ok = formed-urn t s q r g a.0 a.1 v a.3 in
      let f = fields-parts v ok in
      let h : member_by same_name (category_of v) s.names ≡ true =
      all-mem (is_listed s.names) a.0 v (all-mem (all (is_listed s.names)) s.signals a.0 (three t s q r g).2 a.1) a.3 in
      let cat : u.cat ≡ index_by same_name (category_of v) s.names = sym n.cat ∙ c in
      let name : name_of s.names u ≡ category_of v = ap (λ (k : ℕ). get_or s.names k []) cat
      ∙ (index-member same_name name-exact [] (category_of v) s.names h).1 in
      let path : u.path ++ n.above.rest ≡ fields 58 (past 58 v) = n.above.joined ∙ p in
      let all-fields : fields 58 v ≡ category_of v ∷ (u.path ++ n.above.rest) = f.0 ∙ ap (λ (l : Parts). category_of v ∷ l) (sym path) in
      let whole : v ≡ text_of (category_of v ∷ u.path) ++ after_colons n.above.rest = sym (text-fields v) ∙ ap text_of all-fields
      ∙ text-front (category_of v) u.path n.above.rest in
      ap (λ (z : Name). used_urn s.names (uri_of z u.path)) name
      ∙ by-path (category_of v) u.path n.above.rest n.some-part v ok whole all-fields f h
      ∙ ap (λ k. some (urn k u.path)) (sym cat)
    where
      by-path : (x : Name) (p rest : Parts) → p ≢ [] → (v : List ℕ) → urn_ok v ≡ true → v ≡ text_of (x ∷ p) ++ after_colons rest → fields 58 v ≡ x ∷ (p ++ rest)
          → (fields 58 v ≡ up_to 58 v ∷ fields 58 (past 58 v)) × (length (fields 58 v) ≤ 9) × (all name_ok (fields 58 v) ≡ true)
          → member_by same_name x s.names ≡ true
          → used_urn s.names (uri_of x p) ≡ some (urn (index_by same_name x s.names) p)
      by-path x [] rest n v ok e k f h = absurd (n refl)
      by-path x (y ∷ ys) rest n v ok e k f h = uri-used s.names x y ys (short_ok x (y ∷ ys) rest n v ok e k f) (front-good x (y ∷ ys) rest v k f) h

pub node-used : (t : List ℕ) → table_refusal t ≡ 0 → (u : Urn) → is_node (nodes (table_of t)) u.cat u.path ≡ true
    → used_urn (category_names t) (uri_of (name_of (category_names t) u) u.path) ≡ some u
unfolding table_of table_read category_names names_read
node-used t e u n =
    let a = refusal-zero t e in
    let k : Memᴰ u (nodes (table_in a.0)) = rw a.2 at (member-to same_urn urn-exact u (nodes (table_of t)) n) in
    rw a.2 (used-in t a.0 a.1 a.2 (judged-zero a.0 a.3) u k)
