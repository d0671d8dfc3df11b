-- The names and nodes of a well-formed table, as texts: of good form, and short.
use Prim.Native.Nat.{ℕ, zero, suc, ◌+◌, ◌-◌, ◌≤◌, ◌<◌}
use mathlib.Core.Path.{◌≡◌, sym, ap, ◌∙◌, subst}
use mathlib.Core.Logic.{◌⊎◌, inl, inr, ◌≢◌}
use mathlib.Core.Bool.{Bool, true, false, cond, and-eq-true_iff}
use mathlib.Core.List.{List, [], ◌∷◌, ◌++◌, Memᴰ}
use native.Mathlib.Omega.{arith}
use lib.ListN.{length, get_or, take, drop, length-append, length-take}
use lib.Dec.{leb, ltb}
use Rattle.base_lists.proofs.Tests.{all-mem, all_split}
use Rattle.base_lists.specs.Cuts.{up_to, past}
use Rattle.base_lists.specs.Tests.{all}
use Rattle.base_lists.proofs.Lists.{index-member, mem-at}
use Rattle.base_lists.specs.Lists.{member_by}
use Rattle.theory_resolution.specs.Names.{Name, Parts, same_name}
use Rattle.theory_resolution.specs.Table.{Urn, urn}
use Rattle.theory_resolution.specs.Nodes.{nodes, node_at}
use Rattle.theory_resolution.proofs.Names.{name-exact}
use Rattle.theory_resolution.proofs.Nodes.{nodes-all}
use Rattle.base_text.specs.Text.{fields, after_colons, text_of}
use Rattle.urn_names.specs.Names.{name_ok}
use Rattle.urn_names.specs.Urn.{urn_ok, category_of}
use Rattle.base_text.proofs.Fields.{text-fields}
use Rattle.table_sections.specs.Stored.{Read, fault, got, and_then, byte_in, text, times, counted, signal, stored_from, Stored, stored}
use Rattle.table_decode.specs.Tables.{is_listed, to_urn, table_in, table_refusal, table_read, table_of, names_read, category_names}
use Rattle.table_sections.proofs.Readings.{after-got, byte-read}
use Rattle.table_decode.proofs.Accepting.{Passed, judged-zero, refusal-zero, from-stored, formed-urn, three, fields-parts}
use Rattle.sample_library.specs.Sample.{name_of}
use Rattle.sample_library.proofs.TextLaws.{colons-append}

-- a text that was read is no longer than its length byte may say
text-short : (hi : ℕ) (t : List ℕ) (at : ℕ) (s : List ℕ) (q : ℕ) → text hi t at ≡ got s q → length s ≤ hi
unfolding text
text-short hi t at s q e =
    let a = after-got (byte_in 1 hi t at) (λ n p. cond (leb n (length t - p)) (got (take n (drop p t)) (p + n)) (fault 5)) s q e in
    let b = byte-read 1 hi t at a.0 a.1 a.2 in
    go a.0 (take a.0 (drop a.1 t)) (a.1 + a.0) (leb a.0 (length t - a.1)) b.high (omega (arith, length-take a.0 (drop a.1 t))) a.3
  where
    go : (n : ℕ) (w : List ℕ) (p : ℕ) (c : Bool) → n ≤ hi → length w ≤ n → cond c (got w p) (fault 5) ≡ got s q → length s ≤ hi
    go n w p true h l f = let z : w ≡ s = cc in omega (arith, ap length z)
    go n w p false h l f = let z : ◌≡◌ {A = ℕ} 0 1 = cc in absurd (omega arith)

got-list : {A : Type 0} (xs ys : List A) (p q : ℕ) → got xs p ≡ got ys q → xs ≡ ys
got-list xs ys p q e = cc

-- what holds of each that is read holds of all
times-all : {A : Type 0} (P : A → Type 0) (rd : ℕ → Read A) → ((at : ℕ) (x : A) (q : ℕ) → rd at ≡ got x q → P x)
    → (n at : ℕ) (xs : List A) (q : ℕ) → times rd n at ≡ got xs q → (x : A) → Memᴰ x xs → P x
unfolding times
times-all {A} P rd h zero at xs q e x m = absurd (mathlib.Core.List.Memᴰ.not-nil (subst (λ (l : List A). Memᴰ x l) (sym (got-list [] xs at q e)) m))
times-all {A} P rd h (suc n) at xs q e x m =
    let a = after-got (rd at) (λ x p. and_then (times rd n p) (λ ys q. got (x ∷ ys) q)) xs q e in
    let b = after-got (times rd n a.1) (λ ys q. got (a.0 ∷ ys) q) xs q a.3 in
    let z = got-list (a.0 ∷ b.0) xs b.1 q b.3 in
    go a.0 b.0 (h at a.0 a.1 a.2) (λ k. times-all P rd h n a.1 b.0 b.1 b.2 x k)
    (mathlib.Core.List.Memᴰ.cases_cons (subst (λ (l : List A). Memᴰ x l) (sym z) m))
  where
    go : (y : A) (ys : List A) → P y → (Memᴰ x ys → P x) → (x ≡ y) ⊎ Memᴰ x ys → P x
    go y ys p ih (inl i) = subst P (sym i) p
    go y ys p ih (inr k) = ih k

counted-all : {A : Type 0} (P : A → Type 0) (lo hi : ℕ) (rd : ℕ → Read A) (t : List ℕ) → ((at : ℕ) (x : A) (q : ℕ) → rd at ≡ got x q → P x)
    → (at : ℕ) (xs : List A) (q : ℕ) → counted lo hi rd t at ≡ got xs q → (x : A) → Memᴰ x xs → P x
unfolding counted
counted-all P lo hi rd t h at xs q e =
    let a = after-got (byte_in lo hi t at) (λ n p. times rd n p) xs q e in
    times-all P rd h a.0 a.1 xs q a.3

ended : (ns : List Name) (ss : List (List (List ℕ))) (b : Bool) (p q : ℕ) (s : Stored)
    → cond b (fault 5) (got (record { names = ns; signals = ss }) p) ≡ got s q → record { names = ns; signals = ss } ≡ s
ended ns ss true p q s e = let z : ◌≡◌ {A = ℕ} 0 1 = cc in absurd (omega arith)
ended ns ss false p q s e = cc

-- a stored URN has at most 255 bytes
abbrev Short : List (List ℕ) → Type 0
Short sig = (v : List ℕ) → Memᴰ v sig → length v ≤ 255

stored_short : (t : List ℕ) (s : Stored) (q : ℕ) → stored t ≡ got s q → (sig : List (List ℕ)) → Memᴰ sig s.signals → Short sig
unfolding stored stored_from
stored_short t s q e sig m =
    let a = after-got (counted 1 8 (text 55 t) t 0) (λ ns at. stored_from t ns at) s q e in
    let b = after-got (counted 1 32 (signal t) t a.1)
    (λ ss p. cond (ltb p (length t)) (fault 5) (got (record { names = a.0; signals = ss }) p)) s q a.3 in
    let z = ended a.0 b.0 (ltb b.1 (length t)) b.1 q s b.3 in
    counted-all Short 1 32 (signal t) t
    (λ at x q f. counted-all (λ v. length v ≤ 255) 0 8 (text 255 t) t (λ at' y q' g. text-short 255 t at' y q' g) at x q f)
    a.1 b.0 b.1 b.2 sig (subst (λ (l : List (List (List ℕ))). Memᴰ sig l) (sym (ap (λ (y : Stored). y.signals) z)) m)

-- a node as a text: names of good form, at least one part, and at most 255 bytes
pub record NodeText (names : List Name) (u : Urn) : Type 0 where
  pub known : u.cat < length names
  pub name-ok : name_ok (name_of names u) ≡ true
  pub path-ok : all name_ok u.path ≡ true
  pub some-part : u.path ≢ []
  pub short : length (text_of (name_of names u ∷ u.path)) ≤ 255

-- a stored URN is its category and its path
urn-text : (v : List ℕ) → urn_ok v ≡ true → text_of (up_to 58 v ∷ fields 58 (past 58 v)) ≡ v
urn-text v e = ap text_of (sym (fields-parts v e).0) ∙ text-fields v

shorter : (x : Name) (p r : Parts) → length (text_of (x ∷ p)) ≤ length (text_of (x ∷ (p ++ r)))
unfolding text_of
shorter x p r =
    omega (
      arith,
      length-append x (after_colons p),
      length-append x (after_colons (p ++ r)),
      ap length (colons-append p r),
      length-append (after_colons p) (after_colons r),
    )

module _ (t : List ℕ) (s : Stored) (q : ℕ) (r : stored t ≡ got s q) (g : Passed s) (u : Urn) (m : Memᴰ u (nodes (table_in s))) where
  node-text-in : NodeText s.names u
  unfolding is_listed all
  node-text-in =
      let n = nodes-all (table_in s) u m in
      let a = from-stored t s q r g n.signal n.listed n.by n.named in
      let v : List ℕ = a.2 in
      let c : n.by.cat ≡ (to_urn s.names v).cat = ap (λ (x : Urn). x.cat) a.4 in
      let p : n.by.path ≡ fields 58 (past 58 v) = ap (λ (x : Urn). x.path) a.4 in
      let ok = formed-urn t s q r g a.0 a.1 v a.3 in
      let f = fields-parts v ok in
      let both = (and-eq-true_iff (name_ok (up_to 58 v)) (all name_ok (fields 58 (past 58 v)))).0 (subst (λ (l : List Name). all name_ok l ≡ true) f.0 f.2) in
      let h : member_by same_name (category_of v) s.names ≡ true =
      all-mem (is_listed s.names) a.0 v (all-mem (all (is_listed s.names)) s.signals a.0 (three t s q r g).2 a.1) a.3 in
      let w = index-member same_name name-exact [] (category_of v) s.names h in
      let cat : u.cat ≡ (to_urn s.names v).cat = sym n.cat ∙ c in
      let name : name_of s.names u ≡ up_to 58 v = ap (λ (k : ℕ). get_or s.names k []) cat ∙ w.1 in
      let path : u.path ++ n.above.rest ≡ fields 58 (past 58 v) = n.above.joined ∙ p in
      record {
        known = omega (arith, w.0, cat);
        name-ok = ap name_ok name ∙ both.0;
        path-ok = (all_split name_ok u.path n.above.rest (ap (all name_ok) path ∙ both.1)).0;
        some-part = n.some-part;
        short = omega (
          arith,
          shorter (name_of s.names u) u.path n.above.rest,
          ap length (ap (λ (x : Name). text_of (x ∷ (u.path ++ n.above.rest))) name ∙ ap (λ (l : Parts). text_of (up_to 58 v ∷ l)) path ∙ urn-text v ok),
          stored_short t s q r a.0 a.1 v a.3,
        );
      }

pub node-text : (t : List ℕ) → table_refusal t ≡ 0 → (u : Urn) → Memᴰ u (nodes (table_of t)) → NodeText (category_names t) u
unfolding table_of table_read category_names names_read
node-text t e u m =
    let a = refusal-zero t e in
    let k : Memᴰ u (nodes (table_in a.0)) = rw a.2 at m in
    rw a.2 (node-text-in t a.0 a.1 a.2 (judged-zero a.0 a.3) u k)

pub node-at-text : (t : List ℕ) → table_refusal t ≡ 0 → (k : ℕ) → k < length (nodes (table_of t)) → NodeText (category_names t) (node_at (nodes (table_of t)) k)
node-at-text t e k h = node-text t e (node_at (nodes (table_of t)) k) (mem-at (nodes (table_of t)) k (urn 0 []) h)
