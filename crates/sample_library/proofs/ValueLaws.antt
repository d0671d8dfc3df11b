-- The URIs drawn: each may stand in an entry and is an alert URN, and the value of them is one by the grammar.
use Prim.Native.Nat.{ℕ, zero, suc, ◌+◌, ◌*◌, ◌/◌, ◌≤◌, ◌<◌}
use mathlib.Core.Path.{◌≡◌, refl, sym, ap, subst}
use mathlib.Core.Logic.{◌⊎◌, inl, inr, ◌≢◌}
use mathlib.Core.Bool.{true, and-eq-true_iff, false≢true}
use mathlib.Core.List.Memᴰ
use mathlib.Core.List.{List, [], ◌∷◌, ◌++◌, Memᴰ}
use native.Mathlib.Omega.{arith}
use native.Mathlib.Nat.{mod-lt}
use lib.Dec.{eqb}
use lib.ListN.{length, length-append}
use Rattle.base_numbers.specs.Numbers.{most_nodes}
use Rattle.table_decode.proofs.Judging.{names-count}
use Rattle.base_lists.proofs.Tests.{all_both}
use Rattle.base_lists.proofs.Bools.{by_test, is_true}
use Rattle.base_lists.specs.Tests.{all}
use Rattle.value_cursor.specs.Bytes.{is_uri}
use Rattle.value_reader.specs.Grammar.{Any, none, more, Some, some, White, nothing, done, Entry, entry, Value, last, comma}
use Rattle.theory_resolution.specs.Names.{Name, Parts}
use Rattle.theory_resolution.specs.Table.{Urn}
use Rattle.theory_resolution.specs.Nodes.{prefixes, nodes, is_node, node_at}
use Rattle.theory_resolution.proofs.Nodes.{prefix-node}
use Rattle.base_text.specs.Text.{after_colons, text_of}
use Rattle.urn_names.specs.Names.{label_byte, label_ok, name_ok}
use Rattle.base_ascii.specs.Ascii.{bytes}
use Rattle.urn_names.specs.Urn.{alert_urn}
use Rattle.table_decode.specs.Tables.{table_refusal, table_of, category_names}
use Rattle.table_decode.proofs.Accepting.{accepted}
use Rattle.sample_seed.specs.Numbers.{next_of, choice_of}
use Rattle.sample_names.specs.FirstFree.{z_name, first_free, name_taken, part_taken, foreign, strange}
use Rattle.sample_library.specs.Sample.{uri_of, name_of, node_uri, foreign_uri, draw_of, draw_more, draws_of, bare, after_commas, value_of}
use Rattle.sample_names.proofs.NameLaws.{z-ok, z-length, foreign-number, strange-number}
use Rattle.sample_library.proofs.TextLaws.{text-more, uri-bytes, uri-alert}
use Rattle.sample_library.proofs.TableTexts.{node-at-text}

-- a URI that may stand in an entry
pub record Good (uri : List ℕ) : Type 0 where
  pub fits : all is_uri uri ≡ true
  pub some_byte : 0 < length uri
  pub alert : alert_urn uri ≡ true
  pub short : length uri ≤ 269

any-uri : (l : List ℕ) → all is_uri l ≡ true → Any is_uri l
unfolding all
any-uri [] e = none
any-uri (x ∷ l) e = let b = (and-eq-true_iff (is_uri x) (all is_uri l)).0 e in more (is_true (is_uri x) b.0) (any-uri l b.1)

some-uri : (l : List ℕ) → 0 < length l → all is_uri l ≡ true → Some is_uri l
unfolding all
some-uri [] h e = absurd (omega arith)
some-uri (x ∷ l) h e = let b = (and-eq-true_iff (is_uri x) (all is_uri l)).0 e in some (is_true (is_uri x) b.0) (any-uri l b.1)

bare-entry : (u : List ℕ) → Good u → Entry White (bare u) u
unfolding bare
bare-entry u g = entry (some-uri u g.some_byte g.fits) done

pub bare-value : (u : List ℕ) (us : List (List ℕ)) → ((v : List ℕ) → Memᴰ v (u ∷ us) → Good v) → Value White (value_of (u ∷ us)) (u ∷ us)
unfolding value_of after_commas
bare-value u [] g =
    let v : Value White ([] ++ (bare u ++ [])) (u ∷ []) = last nothing (bare-entry u (g u (Memᴰ.head refl))) nothing in
    v
bare-value u (w ∷ us) g = comma nothing (bare-entry u (g u (Memᴰ.head refl))) nothing (bare-value w us (λ v m. g v (Memᴰ.tail m)))

-- its length
bare-length : (u : List ℕ) → length (bare u) ≡ length u + 2
unfolding bare
bare-length u = omega (arith, length-append (60 ∷ u) (62 ∷ []))

commas-length : (us : List (List ℕ)) → ((v : List ℕ) → Memᴰ v us → Good v) → length (after_commas us) ≤ 272 * length us
unfolding after_commas
commas-length [] g = omega arith
commas-length (u ∷ us) g =
    omega (arith, length-append (bare u) (after_commas us), bare-length u, (g u (Memᴰ.head refl)).short, commas-length us (λ v m. g v (Memᴰ.tail m)))

pub value-length : (us : List (List ℕ)) → ((v : List ℕ) → Memᴰ v us → Good v) → length (value_of us) ≤ 272 * length us
unfolding value_of
value-length [] g = omega arith
value-length (u ∷ us) g =
    omega (arith, length-append (bare u) (after_commas us), bare-length u, (g u (Memᴰ.head refl)).short, commas-length us (λ v m. g v (Memᴰ.tail m)))

pub value-short : (u : List ℕ) (us : List (List ℕ)) → ((v : List ℕ) → Memᴰ v (u ∷ us) → Good v) → length (value_of (u ∷ us)) ≤ 271 + 272 * length us
unfolding value_of
value-short u us g =
    omega (arith, length-append (bare u) (after_commas us), bare-length u, (g u (Memᴰ.head refl)).short, commas-length us (λ v m. g v (Memᴰ.tail m)))

-- URIs of names
uri-length : (x : Name) (p : Parts) → length (uri_of x p) ≡ 10 + length (text_of (x ∷ p))
unfolding uri_of
uri-length x p = length-append (bytes "urn:alert:") (text_of (x ∷ p))

good-uri : (x : Name) (p : Parts) → p ≢ [] → name_ok x ≡ true → all name_ok p ≡ true → length (text_of (x ∷ p)) ≤ 259 → Good (uri_of x p)
unfolding all
good-uri x [] n e f h = absurd (n refl)
good-uri x (y ∷ ys) n e f h =
    let ok = (and-eq-true_iff (name_ok x) (all name_ok (y ∷ ys))).1 (e, f) in
    record {
      fits = uri-bytes x y ys ok;
      some_byte = omega (arith, uri-length x (y ∷ ys));
      alert = uri-alert x y ys ok;
      short = omega (arith, uri-length x (y ∷ ys), h);
    }

some-last : (p : Parts) (x : Name) → p ++ x ∷ [] ≢ []
some-last p x e = omega (arith, length-append p (x ∷ []), ap length e)

pub a-ok : all name_ok (bytes "a" ∷ []) ≡ true
unfolding all name_ok label_ok label_byte
a-ok = refl

foreign-length : (x : Name) → length (text_of (x ∷ bytes "a" ∷ [])) ≡ length x + 2
unfolding text_of after_colons
foreign-length x = length-append x (after_colons (bytes "a" ∷ []))

pub one_ok : (x : Name) → name_ok x ≡ true → all name_ok (x ∷ []) ≡ true
unfolding all
one_ok x e = (and-eq-true_iff (name_ok x) true).1 (e, refl)

module _ (t : List ℕ) (formed : table_refusal t ≡ 0) where
  abbrev names : List Name
  names = category_names t

  abbrev ns : List Urn
  ns = nodes (table_of t)

  pub few-nodes : length ns ≤ most_nodes
  few-nodes = (accepted t formed).few-nodes

  pub few-names : length names ≤ most_nodes
  few-names = omega (arith, names-count t, (accepted t formed).few-categories)

  -- there is a node to choose
  pub some-node : 0 < length ns
  some-node =
      let a = accepted t formed in
      let w = a.used 0 (omega (arith, a.some-category)) in
      go w.2.path (w.0, w.1, w.2, w.3, w.4, refl)
    where
      has : (l : List Urn) (c : ℕ) (p : Parts) → is_node l c p ≡ true → 0 < length l
      has [] c p e = absurd (false≢true e)
      has (x ∷ l) c p e = omega arith

      go : (p : Parts) → (sig : List Urn) × Memᴰ sig (table_of t).signals × (u : Urn) × Memᴰ u sig × (u.cat ≡ 0) × (u.path ≡ p) → 0 < length ns
      go [] w = absurd ((accepted t formed).some-part w.0 w.1 w.2 w.3 w.5)
      go (x ∷ r) w =
          has ns w.2.cat ([] ++ x ∷ []) (prefix-node (table_of t) w.0 w.2 ([] ++ x ∷ []) w.1 w.3
          (subst (λ (q : Parts). Memᴰ ([] ++ x ∷ []) (prefixes q)) (sym w.5) (Memᴰ.head refl)))

  pub chosen-node : (x : ℕ) → choice_of x (length ns) < length ns
  unfolding choice_of
  chosen-node x = at (length ns) some-node
    where
      at : (n : ℕ) → 0 < n → choice_of x n < n
      at zero h = absurd (omega arith)
      at (suc n) h = mod-lt (x / 65536) h

  pub good-node : (kind k : ℕ) → k < length ns → Good (node_uri names ns kind (node_at ns k))
  unfolding node_uri strange
  good-node kind k h =
      let u : Urn = node_at ns k in
      let n = node-at-text t formed k h in
      let i = strange-number ns u few-nodes in
      let z = z_name (first_free (part_taken ns u) (length ns) 0) in
      by_test (eqb kind 1)
      (λ e. simp e (good-uri (name_of names u) (u.path ++ z ∷ []) (some-last u.path z) n.name-ok
      (all_both name_ok u.path (z ∷ []) n.path-ok (one_ok z (z-ok _ i)))
      (omega (arith, ap length (text-more (name_of names u) u.path z), length-append (text_of (name_of names u ∷ u.path)) (58 ∷ z), n.short, z-length _ i))))
      (λ e. simp e (good-uri (name_of names u) u.path n.some-part n.name-ok n.path-ok (omega (arith, n.short))))

  pub good-foreign : Good (foreign_uri names)
  unfolding foreign_uri foreign
  good-foreign =
      let i = foreign-number names few-names in
      let z = z_name (first_free (name_taken names) (length names) 0) in
      good-uri z (bytes "a" ∷ []) (λ e. omega (arith, ap length e)) (z-ok _ i) a-ok (omega (arith, foreign-length z, z-length _ i))

  pub good-draw : (x : ℕ) → Good (draw_of names ns x).uri
  unfolding draw_of
  good-draw x =
      by_test (eqb (choice_of (next_of x) 3) 2) (λ e. simp e good-foreign)
      (λ e. simp e (good-node _ _ (chosen-node _)))

  pub good-draws : (x n : ℕ) → (v : List ℕ) → Memᴰ v (draws_of names ns x n).uris → Good v
  unfolding draws_of draw_more
  good-draws x zero v m = absurd (Memᴰ.not-nil m)
  good-draws x (suc n) v m = go (Memᴰ.append_cases (draws_of names ns x n).uris m) (good-draws x n v)
    where
      go : Memᴰ v (draws_of names ns x n).uris ⊎ Memᴰ v ((draw_of names ns (draws_of names ns x n).seed).uri ∷ [])
          → (Memᴰ v (draws_of names ns x n).uris → Good v) → Good v
      go (inl k) ih = ih k
      go (inr k) ih = subst Good (sym (Memᴰ.eq_of_singleton k)) (good-draw (draws_of names ns x n).seed)

  pub draws-length : (x n : ℕ) → length (draws_of names ns x n).uris ≡ n
  unfolding draws_of draw_more
  draws-length x zero = refl
  draws-length x (suc n) = omega (arith, length-append (draws_of names ns x n).uris ((draw_of names ns (draws_of names ns x n).seed).uri ∷ []), draws-length x n)

pub few-choice : (x : ℕ) → choice_of x 8 < 8
unfolding choice_of
few-choice x = mod-lt (x / 65536) (omega arith)

-- the entries of a node and of the foreign category, each in the room that one has
module _ (t : List ℕ) (formed : table_refusal t ≡ 0) where
  pub node-fits : (kind k : ℕ) → k < length (nodes (table_of t)) → length (bare (node_uri (category_names t) (nodes (table_of t)) kind (node_at (nodes (table_of t)) k))) ≤ 271
  node-fits kind k h =
      let uri = node_uri (category_names t) (nodes (table_of t)) kind (node_at (nodes (table_of t)) k) in
      omega (arith, bare-length uri, (good-node t formed kind k h).short)
