-- Laws of a conversion to the tree form: the arrays say the tree of the table.
use Prim.Native.Nat.{ℕ, ◌≤◌, ◌<◌}
use mathlib.Core.Path.{◌≡◌, refl, ap, ap₂, sym, ◌∙◌, subst}
use mathlib.Core.Logic.{inl, inr, ◌≢◌}
use mathlib.Core.Bool.{Bool, true}
use mathlib.Core.List.{List, [], ◌∷◌, ◌++◌, map, foldl, append_assoc}
use native.Mathlib.Omega.{arith}
use native.Mathlib.Nat.{zero-add}
use lib.ListN.{length, get_or, replicate, length-map}
use lib.Dec.{leb}
use borrow.Author.Tests.{ne_eqb, leb-true}
use Rattle.std.specs.Prelude.{Result, Ok, Err, Option, Some, None}
use Rattle.std.specs.Result.{is_ok}
use Rattle.base_numbers.specs.Refusals.{refusal_number}
use Rattle.base_numbers.specs.declared.refusal.Refusal.{Refusal}
use Rattle.base_numbers.specs.Numbers.{most_table_bytes}
use Rattle.base_lists.specs.Cuts.{stretch}
use Rattle.base_lists.proofs.Over.{laid_nil}
use Rattle.base_lists.proofs.Tests.{all-joined}
use Rattle.base_lists.specs.Tests.{all}
use Rattle.base_lists.proofs.Tabulated.{tabulate-same, map-tab, tab-list}
use Rattle.base_lists.proofs.Lists.{mem-at}
use Rattle.base_lists.specs.Lists.{tabulate, laid}
use Rattle.theory_resolution.specs.Names.{Name, Parts}
use Rattle.theory_resolution.specs.Table.{Urn, urn, Table}
use Rattle.theory_resolution.specs.Nodes.{nodes, number, node_at, add_urn}
use Rattle.theory_resolution.proofs.Numbers.{number-at, root-number}
use Rattle.base_text.specs.Text.{fields}
use Rattle.table_sections.specs.Stored.{got, Stored, stored}
use Rattle.table_sections.specs.Held.{Tagged, tag, tagged_from, urn_at, ReadAs, Reads}
use Rattle.table_sections.specs.declared.Counts.{Counts}
use Rattle.table_sections.proofs.FaultLaws.{fault-some-number}
use Rattle.table_sections.proofs.SectionLaws.{sections-read}
use Rattle.table_nodes.specs.Nodes.{node_urn, Numbered, AllAdded}
use Rattle.table_places.proofs.Flat.{what_of, on_what, tagged-what, tagged-map, nodes-joined}
use Rattle.table_names.specs.Categories.{is_listed, Indexed}
use Rattle.table_decode.specs.Tables.{to_urn, table_in, judged, table_refusal, names_read, category_names, table_of}
use Rattle.table_decode.specs.Decoded.{DecodedAs}
use Rattle.node_search.specs.declared.decoded.Decoded.{Decoded}
use Rattle.table_decode.proofs.Judging.{refusal-fault, refusal-read, table-read, table-said}
use Rattle.table_decode.proofs.Accepting.{Passed, judged-zero, refusal-zero, three, accepted}
use Rattle.tree_sections.specs.Tree.{Node}
use Rattle.tree_sections.specs.Held.{number_at}
use Rattle.tree_forms.specs.Bytes.{section, text_bytes, number_bytes, node_bytes, tree_bytes}
use Rattle.tree_forms.specs.Meaning.{front, last_name, node_in, number_in, tree_in}
use Rattle.tree_forms.specs.Conversion.{tree_form, refused, converted, to_tree}
use Rattle.tree_forms.proofs.Writing.{Every, stored_back}
use Rattle.tree_forms.proofs.Sound.{nodes-sound, stored-sound, tree-fits}
use Rattle.tree_forms.proofs.Theorems.{tree-form}
use Rattle.tree_forms.proofs.Growing.{front-snoc, last_snoc}
use Rattle.tree_bytes.specs.Laid.{answer, Puts, of_signal, Eight}
use Rattle.base_bytes.specs.declared.Built.{Built as Answer}
use Rattle.tree_bytes.proofs.Laying.{puts-join, signals-are, eight}
use Rattle.tree_from_table.specs.Stored.{stored_node, StoredAs}

names-said : (t : List ℕ) (s : Stored) (p : ℕ) → stored t ≡ got s p → category_names t ≡ s.names
unfolding category_names names_read
names-said t s p e = ap names_read e

-- a well-formed table is read
pub read-well : (t name_at name_len at len signal : List ℕ) (r : Result Counts Refusal) → Reads t name_at name_len at len signal r → table_refusal t ≡ 0
    → is_ok r ≡ true
read-well t name_at name_len at len signal (Ok l) R z = refl
read-well t name_at name_len at len signal (Err k) R z = absurd (fault-some-number t (refusal_number k) R (sym (refusal-fault t (refusal_number k) R) ∙ z))

-- and read again
module _ (t name_at name_len at len signal : List ℕ) (l : Counts) (held : ReadAs t name_at name_len at len signal l) (z : table_refusal t ≡ 0) where
  abbrev ns : List Name
  ns = tabulate (stretch t name_at name_len) l.categories

  abbrev st : Stored
  st = record { names = ns; signals = held.signals }

  pub short : length t ≤ most_table_bytes
  short = (sections-read t st held.next held.whole).0

  passed : Passed st
  passed = judged-zero st (sym (refusal-read t st held.next held.whole) ∙ z)

  table : table_of t ≡ table_in st
  table = table-read t st held.next held.whole

  pub all_listed : {b : Bool} → b ≡ all (is_listed ns) (tabulate (stretch t at len) l.urns) → b ≡ true
  all_listed e =
      e ∙ ap (all (is_listed ns)) (sym (map-tab what_of (urn_at t signal at len) l.urns) ∙ ap (map what_of) held.urns ∙ tagged-what 0 held.signals)
      ∙ sym (all-joined (is_listed ns) held.signals) ∙ (three t st held.next (sections-read t st held.next held.whole).1 passed).2

  -- the URNs, each with its signal
  abbrev tagged : ℕ → Tagged Urn
  tagged i = on_what (to_urn ns) (urn_at t signal at len i)

  tagged-are : tabulate tagged l.urns ≡ tagged_from 0 (table_of t).signals
  tagged-are =
      sym (map-tab (on_what (to_urn ns)) (urn_at t signal at len) l.urns) ∙ ap (map (on_what (to_urn ns))) held.urns
      ∙ sym (tagged-map (to_urn ns) 0 held.signals)
      ∙ ap (λ (T : Table). tagged_from 0 T.signals) (sym table)

  module _ {category path_at path_len : List ℕ} (X : Indexed t ns at len l.urns category path_at path_len) where
    urn-is : (i : ℕ) → i < l.urns → node_urn t category path_at path_len i ≡ to_urn ns (stretch t at len i)
    urn-is i h = ap₂ urn (X.cat-at i h) (ap (fields 58) (X.path-at i h))

    nodes-are : foldl add_urn [] (tabulate (node_urn t category path_at path_len) l.urns) ≡ nodes (table_of t)
    nodes-are =
        ap (foldl add_urn [])
        (tabulate-same (node_urn t category path_at path_len) (λ i. what_of (tagged i)) l.urns urn-is
        ∙ sym (map-tab what_of tagged l.urns) ∙ ap (map what_of) tagged-are
        ∙ tagged-what 0 (table_of t).signals)
        ∙ sym (nodes-joined (table_of t))

    number-as : (c : ℕ) (p : Parts) (k : ℕ) → Numbered (nodes (table_of t)) c p k → k ≡ number (nodes (table_of t)) c p
    number-as c p k (inl w) = w.0 ∙ sym (ap (number (nodes (table_of t)) c) w.1 ∙ root-number (table_of t) c)
    number-as c p k (inr w) = w.1 ∙ sym (number-at (table_of t) w.0 w.2) ∙ ap (λ (u : Urn). number (nodes (table_of t)) u.cat u.path) w.3

    abbrev g : Urn → ℕ
    g = number_in (nodes (table_of t))

    pub numbers-stored : (number₁ cats parents at₁ len₁ : List ℕ) (o : Option ℕ) → AllAdded t (node_urn t category path_at path_len) l.urns number₁ cats parents at₁ len₁ o
        → tabulate (number_at signal number₁) l.urns ≡ tagged_from 0 (map (map (number_in (nodes (table_of t)))) (table_of t).signals)
    numbers-stored number₁ cats parents at₁ len₁ None A = absurd (omega (arith, A, ap length nodes-are, (accepted t z).few-nodes))
    numbers-stored number₁ cats parents at₁ len₁ (Some n) A =
        tabulate-same (number_at signal number₁) (λ i. on_what g (tagged i)) l.urns (λ i h. ap (tag (get_or signal i 0)) (number_is i h))
        ∙ sym (map-tab (on_what g) tagged l.urns) ∙ ap (map (on_what g)) tagged-are ∙ sym (tagged-map g 0 (table_of t).signals)
      where
        number_is : (i : ℕ) → i < l.urns → get_or number₁ i 0 ≡ g (to_urn ns (stretch t at len i))
        number_is i h =
            number-as (get_or category i 0) (fields 58 (stretch t path_at path_len i)) (get_or number₁ i 0)
            (subst (λ (us : List Urn). Numbered us (get_or category i 0) (fields 58 (stretch t path_at path_len i)) (get_or number₁ i 0)) nodes-are (A.numbered i h))
            ∙ ap g (urn-is i h)

-- a path with a part is its front and its last name
pub snoc-again : (p : Parts) → p ≢ [] → p ≡ front p ++ last_name p ∷ []
snoc-again p n = go p n
  where
    build : (x : Name) (p : Parts) → (q : Parts) × (y : Name) × (x ∷ p ≡ q ++ y ∷ [])
    build x [] = ([], x, refl)
    build x (z ∷ p) = let b = build z p in (x ∷ b.0, b.1, ap (λ (l : Parts). x ∷ l) b.2)

    go : (p : Parts) → p ≢ [] → p ≡ front p ++ last_name p ∷ []
    go [] n = absurd (n refl)
    go (x ∷ p) n =
        let b = build x p in
        b.2 ∙ ap₂ (λ (q : Parts) (y : Name). q ++ y ∷ []) (sym (ap front b.2 ∙ front-snoc b.0 b.1))
        (sym (ap last_name b.2 ∙ last_snoc b.0 b.1))

-- the arrays of a well-formed table say its tree
module _ (t name_at name_len category parent at len : List ℕ) (categories n signals : ℕ)
    (S : StoredAs t name_at name_len category parent at len categories n signals) where
  abbrev T : Table
  T = table_of t

  names-are : tabulate (stretch t name_at name_len) categories ≡ category_names t
  names-are =
      tabulate-same (stretch t name_at name_len) (λ i. get_or (category_names t) i []) categories S.names.name-at
      ∙ ap (tabulate (λ i. get_or (category_names t) i [])) (sym S.names.all-names) ∙ tab-list (category_names t) []

  -- what was stored
  abbrev w : (s : Stored) × (p : ℕ) × (stored t ≡ got s p) × (judged s ≡ 0)
  w = refusal-zero t S.right

  abbrev s : Stored
  s = w.0

  same-table : T ≡ table_in s
  same-table = table-said t s w.1 w.2

  some-part : (i : ℕ) → i < length (nodes T) → (node_at (nodes T) i).path ≢ []
  some-part i h =
      subst (λ (U : Table). i < length (nodes U) → (node_at (nodes U) i).path ≢ []) (sym same-table)
      (λ k. (nodes-sound s.names (table_in s) (stored-sound t s w.1 w.2 (judged-zero s w.3)) (node_at (nodes (table_in s)) i)
      (mem-at (nodes (table_in s)) i (urn 0 []) k)).some-part) h

  nodes-same : tabulate (stored_node t category parent at len) n ≡ map (node_in (nodes T)) (nodes T)
  nodes-same =
      tabulate-same (stored_node t category parent at len) (λ i. node_in (nodes T) (node_at (nodes T) i)) n
      (λ i h.
      let k : i < length (nodes T) = omega (arith, S.nodes-in.all-nodes) in
      let p : Parts = (node_at (nodes T) i).path in
      let c = S.nodes-in.cat-at i h in
      let b = S.parent-at i k (front p) (last_name p) (snoc-again p (some-part i k)) in
      let x : last_name (fields 58 (stretch t at len i)) ≡ last_name p = ap last_name (S.nodes-in.path-at i h) in
      λ j. record { category = c j; parent = b j; last = x j })
      ∙ sym (map-tab (node_in (nodes T)) (node_at (nodes T)) n)
      ∙ ap (map (node_in (nodes T))) (ap (tabulate (node_at (nodes T))) (sym S.nodes-in.all-nodes) ∙ tab-list (nodes T) (urn 0 []))

  form-is : tree_form t ≡ tree_bytes (tree_in (category_names t) T)
  form-is = tree-form t s w.1 w.2 ∙ ap₂ (λ (l : List Name) (U : Table). tree_bytes (tree_in l U)) (sym (names-said t s w.1 w.2)) (sym same-table)

  abbrev ss : List (List ℕ)
  ss = map (map (number_in (nodes T))) T.signals

  pub eight-stored : (signal number : List ℕ) (m : ℕ) → tabulate (number_at signal number) m ≡ tagged_from 0 ss → Eight signal number m
  unfolding tree_in
  eight-stored signal number m e =
      eight signal number m ss e
      (subst (λ (U : Table). Every (λ (sig : List ℕ). length sig ≤ 8) (map (map (number_in (nodes U))) U.signals)) (sym same-table)
      (λ sig i. ((tree-fits t s w.1 w.2 (judged-zero s w.3) (stored_back t s w.1 w.2).0).signals.1 sig i).0.1))

  module _ {b x y z : List ℕ} {p q e : ℕ} (signal number : List ℕ) (m : ℕ) (E : tabulate (number_at signal number) m ≡ tagged_from 0 ss)
      (F : Puts b x 0 (section text_bytes (tabulate (stretch t name_at name_len) categories)) p)
      (G : Puts x y p (section node_bytes (tabulate (stored_node t category parent at len) n)) q)
      (H : Puts y z q (section (section number_bytes) (tabulate (λ s. of_signal s (tabulate (number_at signal number) m)) signals)) e) where
    wrote : Puts b z 0 (tree_form t) e
    unfolding tree_bytes tree_in
    wrote =
        subst (λ (l : List ℕ). Puts b z 0 l e)
        (append_assoc (section text_bytes (tabulate (stretch t name_at name_len) categories))
        (section node_bytes (tabulate (stored_node t category parent at len) n)) _
        ∙ ap₂ (λ (u : List Name) (r : List ℕ). section text_bytes u ++ r) names-are
        (ap₂ (λ (u : List Node) (v : List (List ℕ)). section node_bytes u ++ section (section number_bytes) v) nodes-same
        (ap (tabulate (λ s. of_signal s (tabulate (number_at signal number) m))) (sym S.all-signals
        ∙ sym (length-map T.signals (map (number_in (nodes T))))) ∙ signals-are signal number m ss E))
        ∙ sym form-is)
        (puts-join (puts-join F G) H)

    pub new-formed : {v : List ℕ} {r : Answer} {fits : Bool} → fits ≡ leb e (length z)
        → ((form c : List ℕ) → (fits ≡ true → e ≤ length c) → length form ≡ e → length c ≡ length z → z ≡ laid form c
        → (r ≡ answer (converted 0 fits form (length c))) × (v ≡ (converted 0 fits form (length c)).buffer))
        → (r ≡ answer (to_tree t (length b))) × (v ≡ (to_tree t (length b)).buffer)
    unfolding to_tree
    new-formed {v} {r} {fits} f K =
        let l : length (tree_form t) ≡ e = sym (wrote.end ∙ zero-add (length (tree_form t))) in
        let k = K (tree_form t) b (λ y. omega (arith, leb-true e (length z) (sym f ∙ y), wrote.long)) l (sym wrote.long)
        (wrote.goes_on [] b refl (laid_nil b)) in
        let o : fits ≡ leb (length (tree_form t)) (length b) = f ∙ ap₂ leb (sym l) wrote.long in
        let u : converted 0 fits (tree_form t) (length b) ≡ converted (table_refusal t) (leb (length (tree_form t)) (length b)) (tree_form t)
        (length b) = ap₂ (λ (k : ℕ) (g : Bool). converted k g (tree_form t) (length b)) (sym S.right) o in
        (k.0 ∙ ap answer u, k.1 ∙ ap (λ c. c.buffer) u)

-- a refused conversion
pub converted-no : (k : ℕ) (fits : Bool) (bytes : List ℕ) (room : ℕ) → (k ≡ 0 → ⊥) → converted k fits bytes room ≡ refused k room
unfolding converted
converted-no k fits bytes room n = rw (ne_eqb k 0 n)

module _ (room : ℕ) {k : ℕ} {r : Answer} {v : List ℕ} (n : k ≡ 0 → ⊥) (e : r ≡ record { refusal = k; len = 0 }) (f : v ≡ replicate room 0) where
  pub not-to : (t : List ℕ) → k ≡ table_refusal t → (r ≡ answer (to_tree t room)) × (v ≡ (to_tree t room).buffer)
  unfolding to_tree
  not-to t q =
      let u = ap (λ (j : ℕ). converted j (leb (length (tree_form t)) room) (tree_form t) room) q in
      let w = sym (converted-no k (leb (length (tree_form t)) room) (tree_form t) room n) ∙ u in
      (e ∙ ap answer w, f ∙ ap (λ c. c.buffer) w)

-- what decoding answers of a well-formed table
pub stored-as : (t : List ℕ) (d : Decoded) → DecodedAs t d
    → StoredAs t d.name_at d.name_len d.category d.parent d.at d.len d.categories d.nodes d.signals
stored-as t d M =
    let H = M.holds in
    record {
      right = M.refusal;
      names = H.names;
      nodes-in = H.nodes;
      all-signals = H.numbers.all-signals;
      few-signals = H.numbers.few-signals;
      parent-at = H.numbers.parent-at;
    }
