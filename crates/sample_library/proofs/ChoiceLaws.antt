-- The choices of a value, told from its URIs: a foreign entry is no other's, so it shows.
use Prim.Native.Nat.{ℕ, zero, suc, ◌+◌, ◌<◌}
use mathlib.Core.Path.{◌≡◌, refl, sym, ap, ◌∙◌}
use mathlib.Core.Bool.{Bool, true, false, cond, and-eq-true_iff, true≢false}
use mathlib.Core.List.{List, [], ◌∷◌, ◌++◌, head-eq_of_cons-eq}
use native.Mathlib.Omega.{arith}
use lib.Dec.{eqb}
use lib.ListN.{length, get_or, drop}
use Rattle.base_lists.proofs.Tests.{all_both}
use Rattle.base_lists.proofs.Bools.{by_test}
use Rattle.base_lists.specs.Tests.{all}
use Rattle.base_lists.proofs.Lists.{member_of, mem-at}
use Rattle.base_lists.specs.Lists.{member_by}
use Rattle.theory_resolution.specs.Names.{Name, Parts, same_name}
use Rattle.theory_resolution.specs.Table.{Urn}
use Rattle.theory_resolution.specs.Nodes.{nodes, node_at}
use Rattle.theory_resolution.proofs.Names.{name-exact}
use Rattle.base_text.specs.Text.{fields, text_of}
use Rattle.urn_names.specs.Names.{name_ok}
use Rattle.base_ascii.specs.Ascii.{bytes}
use Rattle.table_decode.specs.Tables.{table_refusal, table_of, category_names}
use Rattle.sample_seed.specs.Numbers.{next_of, choice_of}
use Rattle.sample_names.specs.FirstFree.{name_taken, foreign, strange}
use Rattle.sample_names.proofs.NameLaws.{z-ok, foreign-first, foreign-number, strange-number}
use Rattle.sample_library.specs.Sample.{uri_of, name_of, node_uri, foreign_uri, draw_of, draw_more, draws_of}
use Rattle.sample_library.specs.Claims.{choices_in, after}
use Rattle.sample_library.proofs.TextLaws.{fields-text}
use Rattle.sample_library.proofs.TableTexts.{node-at-text}
use Rattle.sample_library.proofs.ValueLaws.{few-nodes, few-names, chosen-node, a-ok, one_ok}

-- a seed after so many choices, and after more
pub after_more : (n m x : ℕ) → after m (after n x) ≡ after (n + m) x
unfolding after
after_more n zero x = let z : n ≡ n + 0 = omega arith in ap (λ (k : ℕ). after k x) z
after_more n (suc m) x = let z : suc (n + m) ≡ n + suc m = omega arith in ap next_of (after_more n m x) ∙ ap (λ (k : ℕ). after k x) z

pub after_first : (n x : ℕ) → after n (next_of x) ≡ after (suc n) x
unfolding after
after_first n x = let z : 1 + n ≡ suc n = omega arith in after_more 1 n x ∙ ap (λ (k : ℕ). after k x) z

-- a URI tells its category's name
uri-text : (x : Name) (p : Parts) → drop 10 (uri_of x p) ≡ text_of (x ∷ p)
unfolding uri_of
uri-text x p = refl

uri-name : (x y : Name) (p q : Parts) → all name_ok (x ∷ p) ≡ true → all name_ok (y ∷ q) ≡ true → uri_of x p ≡ uri_of y q → x ≡ y
uri-name x y p q a b e =
    let t : text_of (x ∷ p) ≡ text_of (y ∷ q) = sym (uri-text x p) ∙ ap (drop 10) e ∙ uri-text y q in
    head-eq_of_cons-eq (sym (fields-text x p a) ∙ ap (fields 58) t ∙ fields-text y q b)

both_ok : (x : Name) (p : Parts) → name_ok x ≡ true → all name_ok p ≡ true → all name_ok (x ∷ p) ≡ true
unfolding all
both_ok x p a b = (and-eq-true_iff (name_ok x) (all name_ok p)).1 (a, b)

-- the foreign name is none of the names
not_listed : (names : List Name) (i : ℕ) → i < length names → get_or names i [] ≡ foreign names → ⊥
unfolding name_taken
not_listed names i h e =
    let f = foreign-first names in
    let m : member_by same_name (get_or names i []) names ≡ true = member_of same_name name-exact (get_or names i []) names (mem-at names i [] h) in
    true≢false (sym m ∙ ap (λ (x : Name). member_by same_name x names) (e ∙ f.1) ∙ f.2)

module _ (t : List ℕ) (formed : table_refusal t ≡ 0) where
  abbrev names : List Name
  names = category_names t

  abbrev ns : List Urn
  ns = nodes (table_of t)

  foreign-ok : all name_ok (foreign names ∷ bytes "a" ∷ []) ≡ true
  unfolding foreign
  foreign-ok = both_ok _ _ (z-ok _ (foreign-number names (few-names t formed))) a-ok

  strange-ok : (u : Urn) → name_ok (strange ns u) ≡ true
  unfolding strange
  strange-ok u = z-ok _ (strange-number ns u (few-nodes t formed))

  -- no entry with a node is foreign
  not-foreign : (kind k : ℕ) → k < length ns → node_uri names ns kind (node_at ns k) ≡ foreign_uri names → ⊥
  unfolding node_uri foreign_uri
  not-foreign kind k h e =
      let u : Urn = node_at ns k in
      let n = node-at-text t formed k h in
      by_test (eqb kind 1)
      (λ b.
      let g : uri_of (name_of names u) (u.path ++ strange ns u ∷ []) ≡ uri_of (foreign names) (bytes "a" ∷ []) = simp b at e in
      not_listed names u.cat n.known
      (uri-name (name_of names u) (foreign names) (u.path ++ strange ns u ∷ []) (bytes "a" ∷ [])
      (both_ok _ _ n.name-ok (all_both name_ok u.path (strange ns u ∷ []) n.path-ok (one_ok (strange ns u) (strange-ok u)))) foreign-ok g))
      (λ b.
      let g : uri_of (name_of names u) u.path ≡ uri_of (foreign names) (bytes "a" ∷ []) = simp b at e in
      not_listed names u.cat n.known
      (uri-name (name_of names u) (foreign names) u.path (bytes "a" ∷ []) (both_ok _ _ n.name-ok n.path-ok) foreign-ok g))

  other-uri : (kind k : ℕ) → k < length ns → same_name (node_uri names ns kind (node_at ns k)) (foreign_uri names) ≡ false
  other-uri kind k h = go (same_name (node_uri names ns kind (node_at ns k)) (foreign_uri names)) refl
    where
      go : (b : Bool) → same_name (node_uri names ns kind (node_at ns k)) (foreign_uri names) ≡ b → b ≡ false
      go false e = refl
      go true e = absurd (not-foreign kind k h (name-exact.to (node_uri names ns kind (node_at ns k)) (foreign_uri names) e))

  -- an entry's choices
  draw-choices : (x : ℕ) → (draw_of names ns x).seed ≡ after (cond (same_name (draw_of names ns x).uri (foreign_uri names)) 1 2) x
  unfolding draw_of after
  draw-choices x =
      by_test (eqb (choice_of (next_of x) 3) 2)
      (λ e. simp (e, name-exact.self (foreign_uri names)))
      (λ e. simp e (sym (ap (λ (b : Bool). after (cond b 1 2) x) (other-uri _ _ (chosen-node t formed _)))))

  choices-last : (us : List (List ℕ)) (u : List ℕ) → choices_in names (us ++ u ∷ []) ≡ choices_in names us + cond (same_name u (foreign_uri names)) 1 2
  unfolding choices_in
  choices-last [] u = omega arith
  choices-last (v ∷ us) u = omega (arith, choices-last us u)

  no-choices : (x : ℕ) → x ≡ after (choices_in names []) x
  unfolding after choices_in
  no-choices x = refl

  -- the choices of n entries
  pub draws-choices : (x n : ℕ) → (draws_of names ns x n).seed ≡ after (choices_in names (draws_of names ns x n).uris) x
  unfolding draws_of draw_more
  draws-choices x zero = no-choices x
  draws-choices x (suc n) =
      let d = draws_of names ns x n in
      draw-choices d.seed
      ∙ ap (after (cond (same_name (draw_of names ns d.seed).uri (foreign_uri names)) 1 2)) (draws-choices x n)
      ∙ after_more (choices_in names d.uris) (cond (same_name (draw_of names ns d.seed).uri (foreign_uri names)) 1 2) x
      ∙ ap (λ (k : ℕ). after k x) (sym (choices-last d.uris (draw_of names ns d.seed).uri))
