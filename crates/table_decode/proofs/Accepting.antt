-- A table that none of 4 to 12 refuses is well-formed.
use Prim.Native.Nat.{ℕ, suc, zero, ◌≤◌, ◌<◌}
use mathlib.Core.Path.{◌≡◌, refl, ap, sym, ◌∙◌, subst}
use mathlib.Core.Logic.{◌≢◌}
use mathlib.Core.Bool.{Bool, true, false, cond, not, ◌&&◌, and-eq-true_iff, true≢false, false≢true}
use mathlib.Core.List.{List, [], ◌∷◌, map, Memᴰ}
use native.Mathlib.Omega.{arith}
use lib.ListN.{length, get_or, length-append, length-map}
use lib.Dec.{leb, ltb}
use borrow.Author.Tests.{le-leb, leb-true, ltb-true, ltb-false, not-true}
use Rattle.base_numbers.specs.Numbers.{most_nodes}
use Rattle.base_lists.proofs.Tests.{no-two-of, all-mem, all-by}
use Rattle.base_lists.proofs.Lists.{mem-at, index-member, index_at, map-mem, mem-map}
use Rattle.base_lists.specs.Lists.{member_by, index_by}
use Rattle.base_lists.proofs.Bools.{by_test}
use Rattle.base_lists.specs.Cuts.{up_to, past}
use Rattle.base_lists.specs.Tests.{all, any, no_two}
use Rattle.base_lists.specs.Numbers.{within}
use Rattle.base_text.specs.Text.{fields}
use Rattle.urn_names.specs.Names.{name_ok, label_ok}
use Rattle.urn_names.specs.Urn.{no_capital, stored_name, urn_ok, category_of}
use Rattle.base_text.proofs.Fields.{fields-first, fields-more, fields-last}
use Rattle.theory_resolution.specs.Names.{Name, same_name}
use Rattle.theory_resolution.specs.Table.{Urn, urn, Table, row_of, same_row}
use Rattle.theory_resolution.specs.Nodes.{nodes, node_at}
use Rattle.theory_resolution.proofs.Names.{name-exact, row-exact}
use Rattle.theory_resolution.proofs.Nodes.{nodes-all}
use Rattle.table_sections.specs.Stored.{Read, fault, got, Stored, stored, sections}
use Rattle.table_places.specs.Verdict.{same_cat, no_urn, same_places}
use Rattle.table_decode.specs.Tables.{formed, uses, is_listed, listed, to_urn, table_in, single, zero_silent, distinct, few_nodes, verdict, judged}
use Rattle.table_decode.specs.Tables.{judged_read, table_refusal, table_read, table_of}
use Rattle.table_decode.specs.Accepted.{Accepted}
use Rattle.table_sections.proofs.FaultLaws.{fault-some-number, stored-counts}
use Rattle.table_sections.proofs.SectionLaws.{sections-read}
use Rattle.table_decode.proofs.Judging.{two-distinct}

pub any-mem : {A : Type 0} (p : A → Bool) (xs : List A) → any p xs ≡ true → (x : A) × Memᴰ x xs × (p x ≡ true)
unfolding any
any-mem {A} p [] e = absurd (false≢true e)
any-mem {A} p (x ∷ xs) e = go (p x) refl (λ h. any-mem p xs h)
  where
    go : (b : Bool) → p x ≡ b → (any p xs ≡ true → (y : A) × Memᴰ y xs × (p y ≡ true)) → (y : A) × Memᴰ y (x ∷ xs) × (p y ≡ true)
    go true h ih = (x, mathlib.Core.List.Memᴰ.head refl, h)
    go false h ih = let w = ih (rw h at e) in (w.0, mathlib.Core.List.Memᴰ.tail w.1, w.2)

any_at : {A : Type 0} (p : A → Bool) (xs : List A) (j : ℕ) (d : A) → any p xs ≡ false → j < length xs → p (get_or xs j d) ≡ false
unfolding any
any_at p [] j d e h = absurd (omega arith)
any_at p (x ∷ xs) zero d e h = by_test (p x) (λ b. absurd (true≢false (rw b at e))) (λ b. b)
any_at p (x ∷ xs) (suc j) d e h = any_at p xs j d (by_test (p x) (λ b. absurd (true≢false (rw b at e))) (λ b. rw b at e)) (omega arith)

pub two_at : {A : Type 0} (q : A → A → Bool) (xs : List A) (d : A) → no_two q xs ≡ true → (i j : ℕ) → i < j → j < length xs
    → q (get_or xs i d) (get_or xs j d) ≡ false
unfolding no_two
two_at q [] d e i j h k = absurd (omega arith)
two_at q (x ∷ xs) d e i zero h k = absurd (omega arith)
two_at q (x ∷ xs) d e zero (suc j) h k = any_at (q x) xs j d (not-true (any (q x) xs) ((and-eq-true_iff (not (any (q x) xs)) (no_two q xs)).0 e).0) (omega arith)
two_at q (x ∷ xs) d e (suc i) (suc j) h k = two_at q xs d ((and-eq-true_iff (not (any (q x) xs)) (no_two q xs)).0 e).1 i j (omega arith) (omega arith)

-- the parts of a URN that has its form
pub fields-parts : (w : List ℕ) → urn_ok w ≡ true → (fields 58 w ≡ up_to 58 w ∷ fields 58 (past 58 w)) × (length (fields 58 w) ≤ 9)
    × (all name_ok (fields 58 w) ≡ true)
unfolding urn_ok
fields-parts w e =
    let a = (and-eq-true_iff (no_capital w) (within 2 9 (length (fields 58 w)) && all name_ok (fields 58 w))).0 e in
    let b = (and-eq-true_iff (within 2 9 (length (fields 58 w))) (all name_ok (fields 58 w))).0 a.1 in
    let l = (and-eq-true_iff (leb 2 (length (fields 58 w))) (leb (length (fields 58 w)) 9)).0 b.0 in
    let h = leb-true 2 (length (fields 58 w)) l.0 in (
      by_test (ltb (length (up_to 58 w)) (length w)) (λ x. fields-more 58 w (ltb-true _ _ x))
          (λ x. absurd (omega (arith, h, ap length (fields-last 58 w (ltb-false (length (up_to 58 w)) (length w) x))))),
      leb-true (length (fields 58 w)) 9 l.1,
      b.1,
    )

urn-names : (w : List ℕ) → urn_ok w ≡ true → (x : Name) → Memᴰ x (fields 58 (past 58 w)) → x ≢ []
unfolding name_ok label_ok up_to past
urn-names w e x m i =
    let f = fields-parts w e in
    let n : Memᴰ x (fields 58 w) = subst (λ (l : List Name). Memᴰ x l) (sym f.0) (mathlib.Core.List.Memᴰ.tail m) in
    let z : name_ok x ≡ true = all-mem name_ok (fields 58 w) x f.2 n in
    let y : false ≡ true = rw i at z in
    false≢true y

-- the tests of a table that is not refused
pub record Passed (s : Stored) : Type 0 where
  pub form : formed s ≡ true
  pub lists : listed s ≡ true
  pub once : single (table_in s) ≡ true
  pub silent : zero_silent (table_in s) ≡ true
  pub rows : distinct (table_in s) ≡ true
  pub few : few_nodes (table_in s) ≡ true

pub judged-zero : (s : Stored) → judged s ≡ 0 → Passed s
unfolding judged verdict
judged-zero s e = go (formed s) (listed s) (single (table_in s)) (zero_silent (table_in s)) (distinct (table_in s)) (few_nodes (table_in s)) refl
    refl refl refl refl refl e
  where
    go : (a b c d f g : Bool) → formed s ≡ a → listed s ≡ b → single (table_in s) ≡ c → zero_silent (table_in s) ≡ d → distinct (table_in s)
        ≡ f → few_nodes (table_in s) ≡ g
        → ◌≡◌ {A = ℕ} (cond a (cond b (cond c (cond d (cond f (cond g 0 12) 11) 10) 9) 8) 7) 0 → Passed s
    go true true true true true true p q r u v w e = record { form = p; lists = q; once = r; silent = u; rows = v; few = w }
    go true true true true true false p q r u v w e = absurd (omega arith)
    go true true true true false g p q r u v w e = absurd (omega arith)
    go true true true false f g p q r u v w e = absurd (omega arith)
    go true true false d f g p q r u v w e = absurd (omega arith)
    go true false c d f g p q r u v w e = absurd (omega arith)
    go false b c d f g p q r u v w e = absurd (omega arith)

pub refusal-zero : (t : List ℕ) → table_refusal t ≡ 0 → (s : Stored) × (p : ℕ) × (stored t ≡ got s p) × (judged s ≡ 0)
unfolding table_refusal judged_read
refusal-zero t e = go (sections t) refl e
  where
    go : (r : Read Stored) → sections t ≡ r → judged_read r ≡ 0 → (s : Stored) × (p : ℕ) × (stored t ≡ got s p) × (judged s ≡ 0)
    go (fault k) f g = absurd (fault-some-number t k f g)
    go (got s p) f g = (s, p, (sections-read t s p f).1, g)

module _ (t : List ℕ) (s : Stored) (q : ℕ) (r : stored t ≡ got s q) (g : Passed s) where
  -- a URN of the table is a stored URN
  pub from-stored : (sig : List Urn) → Memᴰ sig (table_in s).signals → (u : Urn) → Memᴰ u sig
      → (w : List (List ℕ)) × Memᴰ w s.signals × (v : List ℕ) × Memᴰ v w × (u ≡ to_urn s.names v)
  from-stored sig m u k =
      let a = map-mem (map (to_urn s.names)) s.signals sig m in
      let n : Memᴰ u (map (to_urn s.names) a.0) = subst (λ (l : List Urn). Memᴰ u l) a.2 k in
      let b = map-mem (to_urn s.names) a.0 u n in
      (a.0, a.1, b.0, b.1, b.2)

  pub three : (no_two same_name s.names ≡ true) × (all (λ x. any (uses x) s.signals) s.names ≡ true)
      × (all (all (is_listed s.names)) s.signals ≡ true)
  unfolding listed
  three =
      let a = (and-eq-true_iff (no_two same_name s.names) (all (λ x. any (uses x) s.signals) s.names
      && all (all (is_listed s.names)) s.signals)).0 g.lists in
      let b = (and-eq-true_iff (all (λ x. any (uses x) s.signals) s.names) (all (all (is_listed s.names)) s.signals)).0 a.1 in
      (a.0, b.0, b.1)

  pub formed-urn : (w : List (List ℕ)) → Memᴰ w s.signals → (v : List ℕ) → Memᴰ v w → urn_ok v ≡ true
  unfolding formed
  formed-urn w m v k =
      let f = (and-eq-true_iff (all stored_name s.names) (all (all urn_ok) s.signals)).0 g.form in
      all-mem urn_ok w v (all-mem (all urn_ok) s.signals w f.1 m) k

  pub known : (sig : List Urn) → Memᴰ sig (table_in s).signals → (u : Urn) → Memᴰ u sig → u.cat < (table_in s).cats
  unfolding is_listed
  known sig m u k =
      let a = from-stored sig m u k in
      let h : member_by same_name (category_of a.2) s.names ≡ true =
      all-mem (is_listed s.names) a.0 a.2 (all-mem (all (is_listed s.names)) s.signals a.0 three.2 a.1) a.3 in
      let w = index-member same_name name-exact [] (category_of a.2) s.names h in
      omega (arith, w.0, ap (λ (x : Urn). x.cat) a.4)

  pub some-part : (sig : List Urn) → Memᴰ sig (table_in s).signals → (u : Urn) → Memᴰ u sig → u.path ≢ []
  some-part sig m u k e =
      let a = from-stored sig m u k in
      omega (arith, ap length (sym (ap (λ (x : Urn). x.path) a.4) ∙ e), ap length (fields-first 58 (past 58 a.2)).1)

  pub few-parts : (sig : List Urn) → Memᴰ sig (table_in s).signals → (u : Urn) → Memᴰ u sig → length u.path ≤ 8
  few-parts sig m u k =
      let a = from-stored sig m u k in
      let f = fields-parts a.2 (formed-urn a.0 a.1 a.2 a.3) in
      omega (arith, ap (λ (x : Urn). length x.path) a.4, ap length f.0, f.1)

  named : (sig : List Urn) → Memᴰ sig (table_in s).signals → (u : Urn) → Memᴰ u sig → (x : Name) → Memᴰ x u.path → x ≢ []
  named sig m u k x n =
      let a = from-stored sig m u k in
      urn-names a.2 (formed-urn a.0 a.1 a.2 a.3) x (subst (λ (y : Urn). Memᴰ x y.path) a.4 n)

  pub used : (c : ℕ) → c < length s.names → (sig : List Urn) × Memᴰ sig (table_in s).signals × (u : Urn) × Memᴰ u sig × (u.cat ≡ c)
  unfolding uses
  used c h =
      let x : Name = get_or s.names c [] in
      let a = any-mem (uses x) s.signals (all-mem (λ y. any (uses y) s.signals) s.names x three.1 (mem-at s.names c [] h)) in
      let b = any-mem (λ u. same_name (category_of u) x) a.0 a.2 in
      let n : category_of b.0 ≡ x = name-exact.to (category_of b.0) x b.2 in
      let i : index_by same_name x s.names ≡ c = index_at same_name name-exact [] s.names (two-distinct s.names three.0) c h in (
        map (to_urn s.names) a.0,
        mem-map (map (to_urn s.names)) s.signals a.0 a.1,
        to_urn s.names b.0,
        mem-map (to_urn s.names) a.0 b.0 b.1,
        ap (λ (z : Name). index_by same_name z s.names) n ∙ i,
      )

  far : (i j : ℕ) → i < j → j < length (table_in s).signals → row_of (table_in s) i ≡ row_of (table_in s) j → ⊥
  unfolding distinct
  far i j h k e =
      let f = two_at (same_places (length s.names)) (table_in s).signals [] g.rows i j h k in
      let o : same_row (row_of (table_in s) i) (row_of (table_in s) j) ≡ true = rw e (row-exact.self (row_of (table_in s) j)) in
      true≢false (sym o ∙ f)

  same_row_lem : (i j : ℕ) → i < length (table_in s).signals → j < length (table_in s).signals → row_of (table_in s) i ≡ row_of (table_in s) j → i ≡ j
  same_row_lem i j h k e =
      by_test (ltb i j) (λ a. absurd (far i j (ltb-true i j a) k e))
      (λ a. by_test (ltb j i) (λ b. absurd (far j i (ltb-true j i b) h (sym e))) (λ b. omega (arith, ltb-false i j a, ltb-false j i b)))

  none : (us : List Urn) → no_urn us ≡ true → us ≡ []
  none [] e = refl
  none (u ∷ us) e = absurd (false≢true e)

  silent : get_or (table_in s).signals 0 [] ≡ []
  unfolding zero_silent
  silent = none (get_or (table_in s).signals 0 []) g.silent

  pub passed-accepted : Accepted (table_in s)
  unfolding single few_nodes
  passed-accepted =
      let c = stored-counts t s q r in
      let l = length-map s.signals (map (to_urn s.names)) in
      record {
        well = record { some-signal = omega (arith, l, c.2); silent = silent; named = named };
        some-category = c.0;
        few-categories = c.1;
        few-signals = omega (arith, l, c.3);
        few-nodes = leb-true (length (nodes (table_in s))) most_nodes g.few;
        few-parts = few-parts;
        known = known;
        some-part = some-part;
        once = λ sig m. all-mem (no_two same_cat) (table_in s).signals sig g.once m;
        used = used;
        rows = same_row_lem;
      }

-- a table that is not refused is well-formed, and more
pub accepted : (t : List ℕ) → table_refusal t ≡ 0 → Accepted (table_of t)
unfolding table_of table_read
accepted t e = let a = refusal-zero t e in rw a.2 (passed-accepted t a.0 a.1 a.2 (judged-zero a.0 a.3))

-- a node has at most 8 parts, for it is a URN or above one
pub node-parts : (T : Table) → Accepted T → (k : ℕ) → k < length (nodes T) → length (node_at (nodes T) k).path ≤ 8
node-parts T A k h =
    let n = nodes-all T (node_at (nodes T) k) (mem-at (nodes T) k (urn 0 []) h) in
    omega (
      arith,
      A.few-parts n.signal n.listed n.by n.named,
      ap length n.above.joined,
      length-append (node_at (nodes T) k).path n.above.rest,
    )

pub accepted-verdict : (T : Table) → Accepted T → verdict T ≡ 0
unfolding verdict single zero_silent distinct few_nodes
accepted-verdict T A =
    let once : all (no_two same_cat) T.signals ≡ true = all-by (no_two same_cat) T.signals A.once in
    let silent : no_urn (get_or T.signals 0 []) ≡ true = ap no_urn A.well.silent in
    let rows : no_two (same_places T.cats) T.signals ≡ true =
    no-two-of (same_places T.cats) T.signals []
    (λ i j h k. by_test (same_row (row_of T i) (row_of T j))
    (λ e. absurd (omega (arith, A.rows i j (omega arith) k (row-exact.to (row_of T i) (row_of T j) e))))
    (λ e. e)) in
    rw (once, silent, rows, le-leb (length (nodes T)) most_nodes A.few-nodes)
