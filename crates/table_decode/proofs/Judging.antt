-- From what the functions answer to the refusal of the table: 4 to 8.
use Prim.Native.Nat.{ℕ, ◌<◌}
use mathlib.Core.Path.{◌≡◌, refl, ap, ap₂, sym, ◌∙◌}
use mathlib.Core.Bool.{Bool, true, false, not, ◌&&◌, and-false, and-eq-true_iff, false≢true}
use mathlib.Core.List.{List, [], ◌∷◌, map}
use native.Mathlib.Omega.{arith}
use lib.ListN.{length, get_or, length-map}
use lib.Dec.{eqb}
use borrow.Author.Tests.{eq-eqb, eqb-true}
use Rattle.base_lists.specs.Cuts.{stretch}
use Rattle.base_lists.proofs.Tests.{all-joined, any-joined, all_alike, any-alike}
use Rattle.base_lists.proofs.Lists.{index-member, index_at}
use Rattle.base_lists.proofs.Tabulated.{tabulate-same, tabulate-length, tabulate-at, map-tab}
use Rattle.base_lists.specs.Lists.{tabulate, member_by, index_by, Distinct, joined}
use Rattle.base_lists.proofs.Bools.{by_test, same_test}
use Rattle.base_lists.specs.Tests.{all, any, no_two}
use Rattle.base_text.specs.Text.{fields}
use Rattle.urn_names.specs.Urn.{stored_name, urn_ok, category_of}
use Rattle.theory_resolution.specs.Names.{Name, same_name}
use Rattle.theory_resolution.specs.Table.{urn, Table}
use Rattle.theory_resolution.proofs.Names.{name-exact}
use Rattle.table_sections.specs.Stored.{fault, got, Stored, sections, Read, stored}
use Rattle.table_sections.specs.Held.{tag, tagged_from, urn_at, ReadAs}
use Rattle.table_sections.specs.declared.Counts.{Counts}
use Rattle.table_sections.proofs.SectionLaws.{sections-read}
use Rattle.table_places.specs.Slots.{urn_of}
use Rattle.table_places.proofs.Flat.{what_of, on_what, tagged-what, tagged-map}
use Rattle.table_decode.specs.Tables.{formed, uses, is_listed, listed, to_urn, table_in, verdict, judged, judged_read, table_refusal, names_read}
use Rattle.table_decode.specs.Tables.{category_names, table_read, table_of}
use Rattle.table_names.specs.Categories.{Indexed}
use Rattle.table_decode.specs.Stages.{FormedAs, ListedAs}
use Rattle.table_names.proofs.Indexing.{index_below}

pub refusal-fault : (t : List ℕ) (k : ℕ) → sections t ≡ fault k → table_refusal t ≡ k
unfolding table_refusal judged_read
refusal-fault t k e = ap judged_read e

pub refusal-read : (t : List ℕ) (s : Stored) (p : ℕ) → sections t ≡ got s p → table_refusal t ≡ judged s
unfolding table_refusal judged_read
refusal-read t s p e = ap judged_read e

pub table-read : (t : List ℕ) (s : Stored) (p : ℕ) → sections t ≡ got s p → table_of t ≡ table_in s
unfolding table_of table_read
table-read t s p e = ap table_read (sections-read t s p e).1

pub names-read : (t : List ℕ) (s : Stored) (p : ℕ) → sections t ≡ got s p → category_names t ≡ s.names
unfolding category_names names_read
names-read t s p e = ap names_read (sections-read t s p e).1

-- 7
module _ (t name_at name_len at len signal : List ℕ) (l : Counts) (R : ReadAs t name_at name_len at len signal l) where
  abbrev names : List Name
  names = tabulate (stretch t name_at name_len) l.categories

  abbrev it : Stored
  it = record { names = names; signals = R.signals }

  texts : tabulate (stretch t at len) l.urns ≡ joined R.signals
  texts = sym (map-tab what_of (urn_at t signal at len) l.urns) ∙ ap (map what_of) R.urns ∙ tagged-what 0 R.signals

  judged-as : table_refusal t ≡ judged it
  judged-as = refusal-read t it R.next R.whole

  formed-as : {a b : Bool} → a ≡ all stored_name names → b ≡ all urn_ok (tabulate (stretch t at len) l.urns) → formed it ≡ (a && b)
  unfolding formed
  formed-as e f = ap₂ ◌&&◌ (sym e) (all-joined urn_ok R.signals ∙ ap (all urn_ok) (sym texts) ∙ sym f)

  is-seven : formed it ≡ false → table_refusal t ≡ 7
  unfolding judged
  is-seven e = judged-as ∙ rw e

  pub names-unformed : {a : Bool} → a ≡ all stored_name names → a ≡ false → table_refusal t ≡ 7
  unfolding formed
  names-unformed e z = is-seven (rw (sym e ∙ z))

  pub urns-unformed : {a b : Bool} → a ≡ all stored_name names → b ≡ all urn_ok (tabulate (stretch t at len) l.urns) → b ≡ false → table_refusal t ≡ 7
  urns-unformed {a} {b} e f z = is-seven (formed-as e f ∙ ap (λ x. a && x) z ∙ and-false a)

  pub all-formed : {a b : Bool} → a ≡ all stored_name names → a ≡ true → b ≡ all urn_ok (tabulate (stretch t at len) l.urns) → b ≡ true
      → FormedAs t name_at name_len at len signal l
  all-formed e x f y = record { short = (sections-read t it R.next R.whole).0; read = R; form = formed-as e f ∙ ap₂ ◌&&◌ x y }

-- names that no two are of, as the theory has it
not-any : (x : Name) (l : List Name) → not (any (same_name x) l) ≡ true → member_by same_name x l ≡ false
unfolding any
not-any x [] e = refl
not-any x (y ∷ l) e = by_test (same_name x y) (λ b. absurd (false≢true (rw b at e))) (λ b. rw b (not-any x l (rw b at e)))

pub two-distinct : (l : List Name) → no_two same_name l ≡ true → Distinct same_name l
unfolding no_two
two-distinct [] e = tt
two-distinct (x ∷ l) e =
    let a = (and-eq-true_iff (not (any (same_name x) l)) (no_two same_name l)).0 e in
    (not-any x l a.0, two-distinct l a.1)

-- a category's name is a URN's exactly where the URN's number is the category's
same_index : (l : List Name) (x : Name) (c : ℕ) → Distinct same_name l → index_by same_name x l < length l → c < length l
    → same_name x (get_or l c []) ≡ eqb (index_by same_name x l) c
same_index l x c d h k =
    same_test (same_name x (get_or l c [])) (eqb (index_by same_name x l) c)
    (λ e. eq-eqb _ c (ap (λ (y : Name). index_by same_name y l) (name-exact.to x (get_or l c []) e) ∙ index_at same_name name-exact [] l d c k))
    (λ e.
    let m = index-member same_name name-exact [] x l (index_below same_name x l h) in
    let q : get_or l c [] ≡ x = ap (λ i. get_or l i []) (sym (eqb-true (index_by same_name x l) c e)) ∙ m.1 in
    ap (same_name x) q ∙ name-exact.self x)

-- 8
module _ (t name_at name_len at len signal : List ℕ) (l : Counts) (F : FormedAs t name_at name_len at len signal l) where
  abbrev ns : List Name
  ns = tabulate (stretch t name_at name_len) l.categories

  abbrev st : Stored
  st = record { names = ns; signals = F.read.signals }

  flat : tabulate (stretch t at len) l.urns ≡ joined F.read.signals
  flat = texts t name_at name_len at len signal l F.read

  is-eight : listed st ≡ false → table_refusal t ≡ 8
  unfolding judged
  is-eight e = judged-as t name_at name_len at len signal l F.read ∙ rw (F.form, e)

  pub names-twice : {a : Bool} → a ≡ no_two same_name ns → a ≡ false → table_refusal t ≡ 8
  unfolding listed
  names-twice e z = is-eight (rw (sym e ∙ z))

  known_as : {b : Bool} → b ≡ all (is_listed ns) (tabulate (stretch t at len) l.urns) → all (all (is_listed ns)) F.read.signals ≡ b
  known_as f = all-joined (is_listed ns) F.read.signals ∙ ap (all (is_listed ns)) (sym flat) ∙ sym f

  pub urns-strange : {b : Bool} → b ≡ all (is_listed ns) (tabulate (stretch t at len) l.urns) → b ≡ false → table_refusal t ≡ 8
  unfolding listed
  urns-strange f z = is-eight (rw (known_as f ∙ z) (go (no_two same_name ns) (all (λ x. any (uses x) F.read.signals) ns)))
    where
      go : (a b : Bool) → (a && (b && false)) ≡ false
      go true b = and-false b
      go false b = refl

  module _ {category path_at path_len : List ℕ} (X : Indexed t ns at len l.urns category path_at path_len) {a : Bool}
      (e : a ≡ no_two same_name ns) (x : a ≡ true) where
    used-as : all (λ x. any (uses x) F.read.signals) ns ≡ all (λ c. any (λ y. eqb y c) (tabulate (λ j. get_or category j 0) l.urns))
        (tabulate (λ c. c) l.categories)
    unfolding uses
    used-as =
        all_alike (λ x. any (uses x) F.read.signals) (λ c. any (λ y. eqb y c) (tabulate (λ j. get_or category j 0) l.urns))
        (stretch t name_at name_len) (λ c. c) l.categories
        (λ c h. any-joined (λ u. same_name (category_of u) (stretch t name_at name_len c)) F.read.signals
        ∙ ap (any (λ u. same_name (category_of u) (stretch t name_at name_len c))) (sym flat)
        ∙ any-alike (λ u. same_name (category_of u) (stretch t name_at name_len c)) (λ y. eqb y c) (stretch t at len) (λ j. get_or category j 0) l.urns
        (λ j k. one c j h k))
      where
        one : (c j : ℕ) → c < l.categories → j < l.urns → same_name (category_of (stretch t at len j)) (stretch t name_at name_len c) ≡ eqb (get_or category j 0) c
        one c j h k =
            let n : length ns ≡ l.categories = tabulate-length (stretch t name_at name_len) l.categories in
            let i = X.cat-at j k in
            ap (same_name (category_of (stretch t at len j))) (sym (tabulate-at (stretch t name_at name_len) l.categories c [] h))
            ∙ same_index ns (category_of (stretch t at len j)) c (two-distinct ns (sym e ∙ x)) (omega (arith, i, X.cat-below j k)) (omega (arith, n))
            ∙ ap (λ z. eqb z c) (sym i)

    module _ {b : Bool} (f : b ≡ all (λ c. any (λ y. eqb y c) (tabulate (λ j. get_or category j 0) l.urns)) (tabulate (λ c. c) l.categories)) where
      pub names-unused : b ≡ false → table_refusal t ≡ 8
      unfolding listed
      names-unused z = is-eight (rw (used-as ∙ sym f ∙ z) (and-false (no_two same_name ns)))

      module _ (y : b ≡ true) {d : Bool} (g : d ≡ all (is_listed ns) (tabulate (stretch t at len) l.urns)) (w : d ≡ true) where
        all_listed : listed st ≡ true
        unfolding listed
        all_listed = ap₂ ◌&&◌ (sym e ∙ x) (ap₂ ◌&&◌ (used-as ∙ sym f ∙ y) (known_as g ∙ w))

        as-verdict : judged st ≡ verdict (table_in st)
        unfolding judged
        as-verdict = rw (F.form, all_listed)

        table : table_of t ≡ table_in st
        table = table-read t st F.read.next F.read.whole

        cats : (table_of t).cats ≡ l.categories
        cats = ap (λ (T : Table). T.cats) table ∙ tabulate-length (stretch t name_at name_len) l.categories

        urns-as : tabulate (urn_of signal category (λ i. fields 58 (stretch t path_at path_len i))) l.urns ≡ tagged_from 0 (table_in st).signals
        urns-as =
            tabulate-same (urn_of signal category (λ i. fields 58 (stretch t path_at path_len i))) (λ i. on_what (to_urn ns) (urn_at t signal at len i)) l.urns
            (λ i h. ap (tag (get_or signal i 0)) (ap₂ urn (X.cat-at i h) (ap (fields 58) (X.path-at i h))))
            ∙ sym (map-tab (on_what (to_urn ns)) (urn_at t signal at len) l.urns) ∙ ap (map (on_what (to_urn ns))) F.read.urns
            ∙ sym (tagged-map (to_urn ns) 0 F.read.signals)

        pub listed-as : ListedAs t name_at name_len signal category path_at path_len l
        listed-as =
            record {
              names = names-read t st F.read.next F.read.whole;
              cats = cats;
              listing = record {
                signals = ap (λ (T : Table). length T.signals) table ∙ length-map F.read.signals (map (to_urn ns)) ∙ F.read.all-signals;
                urns = urns-as ∙ ap (λ (T : Table). tagged_from 0 T.signals) (sym table);
                known = λ i h. omega (arith, X.cat-below i h, tabulate-length (stretch t name_at name_len) l.categories, cats);
                few-categories = omega (arith, F.read.few-categories, cats);
                few-signals = F.read.few-signals;
                few-urns = F.read.few-urns;
              };
              refusal = judged-as t name_at name_len at len signal l F.read ∙ as-verdict ∙ ap verdict (sym table);
              past-at = F.read.past-at;
              past-len = F.read.past-len;
            }

-- there are as many names as categories
pub names-count : (t : List ℕ) → length (category_names t) ≡ (table_of t).cats
unfolding category_names names_read table_of table_read
names-count t = go (stored t)
  where
    go : (r : Read Stored) → length (names_read r) ≡ (table_read r).cats
    go (fault k) = refl
    go (got s p) = refl

-- the table of bytes is the table of what they say
pub table-said : (t : List ℕ) (s : Stored) (p : ℕ) → stored t ≡ got s p → table_of t ≡ table_in s
unfolding table_of table_read
table-said t s p e = ap table_read e
