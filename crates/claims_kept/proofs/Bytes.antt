-- Bytes: the URNs of a stored table are no longer together than the table, and a list of nodes as a value has 13 bytes for each besides
-- its URNs as the table stores them.
use Prim.Native.Nat.{ℕ, zero, suc, ◌+◌, ◌-◌, ◌*◌, ◌≤◌, ◌<◌}
use mathlib.Core.Path.{◌≡◌, refl, sym, ap, ◌∙◌}
use mathlib.Core.Bool.{Bool, true, false, cond}
use mathlib.Core.List.{List, [], ◌∷◌, map, Memᴰ}
use lib.Dec.{leb, ltb}
use lib.ListN.{length, get_or, take, drop, length-append, length-take}
use borrow.Author.Tests.{leb-true, lt-ltb}
use native.Mathlib.Omega.{arith}
use native.Mathlib.Decide.{dec_lt}
use Rattle.base_ascii.specs.Ascii.{bytes}
use Rattle.base_numbers.specs.Numbers.{most_table_bytes, table_too_long}
use Rattle.base_lists.proofs.Tests.{all-mem}
use Rattle.base_lists.proofs.Lists.{index-member, member-to}
use Rattle.base_lists.specs.Lists.{member_by}
use Rattle.base_lists.specs.Tests.{all}
use Rattle.base_lists.specs.Cuts.{up_to, past}
use Rattle.base_text.specs.Text.{fields, after_colons, text_of}
use Rattle.base_text.proofs.Fields.{text-fields}
use Rattle.theory_resolution.specs.Names.{Name, Parts, Above, same_name}
use Rattle.theory_resolution.specs.Table.{Urn, urn}
use Rattle.theory_resolution.specs.Nodes.{same_urn, nodes, is_node}
use Rattle.theory_resolution.proofs.Names.{name-exact}
use Rattle.theory_resolution.proofs.Nodes.{urn-exact}
use Rattle.theory_kept.specs.Weight.{weight, weight_all}
use Rattle.urn_names.specs.Urn.{category_of}
use Rattle.table_sections.specs.Stored.{Read, fault, got, and_then, byte_in, text, times, counted, signal, stored_from, Stored, stored}
use Rattle.table_sections.proofs.Readings.{after-got, got-list, byte-read}
use Rattle.table_decode.specs.Tables.{is_listed, to_urn, table_refusal, judged_read, table_read, table_of, names_read, category_names}
use Rattle.table_decode.proofs.Accepting.{Passed, judged-zero, refusal-zero, formed-urn, three, fields-parts}
use Rattle.sample_library.specs.Sample.{uri_of, name_of, bare, after_commas, value_of}
use Rattle.sample_library.proofs.TextLaws.{colons-append}
use Rattle.sample_library.proofs.TableTexts.{node-text}
use Rattle.claims_kept.specs.Values.{uri_in}

abbrev total : {A : Type 0} → (A → ℕ) → List A → ℕ
total size [] = 0
total size (x ∷ l) = size x + total size l

-- a reading goes as far as what it reads is long, at least, and not past the end
abbrev Goes : {A : Type 0} → List ℕ → (A → ℕ) → ℕ → A → ℕ → Type 0
Goes t size at x q = (at + size x ≤ q) × (q ≤ length t)

got-place : {A : Type 0} (x y : A) (p q : ℕ) → got x p ≡ got y q → p ≡ q
got-place x y p q e = cc

text-goes : (hi : ℕ) (t : List ℕ) (at : ℕ) (s : List ℕ) (q : ℕ) → text hi t at ≡ got s q → Goes t length at s q
unfolding text
text-goes hi t at s q e =
    let a = after-got (byte_in 1 hi t at) (λ n p. cond (leb n (length t - p)) (got (take n (drop p t)) (p + n)) (fault 5)) s q e in
    let b = byte-read 1 hi t at a.0 a.1 a.2 in
    go a.0 (take a.0 (drop a.1 t)) a.1 b.next b.here (leb a.0 (length t - a.1)) refl (omega (arith, length-take a.0 (drop a.1 t))) a.3
  where
    go : (n : ℕ) (w : List ℕ) (p : ℕ) → p ≡ at + 1 → at < length t → (c : Bool) → leb n (length t - p) ≡ c → length w ≤ n
        → cond c (got w (p + n)) (fault 5) ≡ got s q → Goes t length at s q
    go n w p i h true k l f =
        let z : w ≡ s = cc in
        let y : p + n ≡ q = got-place w s (p + n) q f in
        (omega (arith, ap length z), omega (arith, leb-true n (length t - p) k))
    go n w p i h false k l f = let z : ◌≡◌ {A = ℕ} 0 1 = cc in absurd (omega arith)

module _ {A : Type 0} (t : List ℕ) (size : A → ℕ) (rd : ℕ → Read A) (one : (at : ℕ) (x : A) (q : ℕ) → rd at ≡ got x q → Goes t size at x q) where
  times_goes : (n at : ℕ) (xs : List A) (q : ℕ) → at ≤ length t → times rd n at ≡ got xs q → Goes t (total size) at xs q
  unfolding times
  times_goes zero at xs q h e =
      let z = ap (total size) (got-list [] xs at q e) in
      let y = got-place [] xs at q e in
      (omega arith, omega arith)
  times_goes (suc n) at xs q h e =
      let a = after-got (rd at) (λ x p. and_then (times rd n p) (λ ys q. got (x ∷ ys) q)) xs q e in
      let b = after-got (times rd n a.1) (λ ys q. got (a.0 ∷ ys) q) xs q a.3 in
      let z = ap (total size) (got-list (a.0 ∷ b.0) xs b.1 q b.3) in
      let y = got-place (a.0 ∷ b.0) xs b.1 q b.3 in
      let f = one at a.0 a.1 a.2 in
      let g = times_goes n a.1 b.0 b.1 f.1 b.2 in
      (omega (arith, f.0, g.0, z, y), omega (arith, g.1, y))

  counted-goes : (lo hi at : ℕ) (xs : List A) (q : ℕ) → counted lo hi rd t at ≡ got xs q → Goes t (total size) at xs q
  unfolding counted
  counted-goes lo hi at xs q e =
      let a = after-got (byte_in lo hi t at) (λ n p. times rd n p) xs q e in
      let b = byte-read lo hi t at a.0 a.1 a.2 in
      let g = times_goes a.0 a.1 xs q (omega (arith, b.next, b.here)) a.3 in
      (omega (arith, g.0, b.next), g.1)

ended : (ns : List Name) (ss : List (List (List ℕ))) (b : Bool) (p q : ℕ) (s : Stored)
    → cond b (fault 5) (got (record { names = ns; signals = ss }) p) ≡ got s q → record { names = ns; signals = ss } ≡ s
ended ns ss true p q s e = let z : ◌≡◌ {A = ℕ} 0 1 = cc in absurd (omega arith)
ended ns ss false p q s e = cc

stored-goes : (t : List ℕ) (s : Stored) (q : ℕ) → stored t ≡ got s q → total (total length) s.signals ≤ length t
unfolding stored stored_from
stored-goes t s q e =
    let a = after-got (counted 1 8 (text 55 t) t 0) (λ ns at. stored_from t ns at) s q e in
    let b = after-got (counted 1 32 (signal t) t a.1)
    (λ ss p. cond (ltb p (length t)) (fault 5) (got (record { names = a.0; signals = ss }) p)) s q a.3 in
    let z = ap (λ (y : Stored). total (total length) y.signals) (ended a.0 b.0 (ltb b.1 (length t)) b.1 q s b.3) in
    let g = counted-goes t (total length) (signal t) (counted-goes t length (text 255 t) (text-goes 255 t) 0 8) 1 32 a.1 b.0 b.1 b.2 in
    omega (arith, g.0, g.1, z)

table-short : (t : List ℕ) → table_refusal t ≡ 0 → length t ≤ most_table_bytes
unfolding table_refusal judged_read
table-short t e = go (dec_lt most_table_bytes (length t))
  where
    go : Dec (most_table_bytes < length t) → length t ≤ most_table_bytes
    go (yes h) = let z : table_too_long ≡ 0 = rw (lt-ltb most_table_bytes (length t) h) at e in absurd (omega (arith, z))
    go (no h) = omega arith

-- the bytes of a URN as a table stores it
abbrev pub bytes_of : List Name → Urn → ℕ
bytes_of names u = length (text_of (name_of names u ∷ u.path))

module _ (t : List ℕ) (s : Stored) (q : ℕ) (r : stored t ≡ got s q) (g : Passed s) where
  urn-bytes : (w : List (List ℕ)) → Memᴰ w s.signals → (v : List ℕ) → Memᴰ v w → bytes_of s.names (to_urn s.names v) ≡ length v
  unfolding is_listed
  urn-bytes w m v k =
      let ok = formed-urn t s q r g w m v k in
      let h : member_by same_name (category_of v) s.names ≡ true =
      all-mem (is_listed s.names) w v (all-mem (all (is_listed s.names)) s.signals w (three t s q r g).2 m) k in
      let name : get_or s.names (to_urn s.names v).cat [] ≡ up_to 58 v = (index-member same_name name-exact [] (category_of v) s.names h).1 in
      ap (λ (x : Name). length (text_of (x ∷ fields 58 (past 58 v)))) name ∙ ap length (ap text_of (sym (fields-parts v ok).0) ∙ text-fields v)

  signal-bytes : (w : List (List ℕ)) → ((v : List ℕ) → Memᴰ v w → bytes_of s.names (to_urn s.names v) ≡ length v)
      → weight (bytes_of s.names) (map (to_urn s.names) w) ≡ total length w
  signal-bytes [] h = refl
  signal-bytes (v ∷ w) h = omega (arith, h v (Memᴰ.head refl), signal-bytes w (λ x m. h x (Memᴰ.tail m)))

  all-bytes : (ws : List (List (List ℕ))) → ((w : List (List ℕ)) → Memᴰ w ws → Memᴰ w s.signals)
      → weight_all (bytes_of s.names) (map (map (to_urn s.names)) ws) ≡ total (total length) ws
  all-bytes [] h = refl
  all-bytes (w ∷ ws) h = omega (arith, signal-bytes w (urn-bytes w (h w (Memᴰ.head refl))), all-bytes ws (λ x m. h x (Memᴰ.tail m)))

pub table-bytes : (t : List ℕ) → table_refusal t ≡ 0 → weight_all (bytes_of (category_names t)) (table_of t).signals ≤ most_table_bytes
unfolding table_of table_read category_names names_read
table-bytes t e =
    let a = refusal-zero t e in
    rw a.2 (omega (
      arith,
      all-bytes t a.0 a.1 a.2 (judged-zero a.0 a.3) a.0.signals (λ w m. m),
      stored-goes t a.0 a.1 a.2,
      table-short t e,
    ))

-- a node has at most 255, and an ancestor no more than what lies under it
pub node-bytes : (t : List ℕ) → table_refusal t ≡ 0 → (u : Urn) → is_node (nodes (table_of t)) u.cat u.path ≡ true → bytes_of (category_names t) u ≤ 255
node-bytes t e u n = (node-text t e u (member-to same_urn urn-exact u (nodes (table_of t)) n)).short

pub bytes-rise : (names : List Name) (d : ℕ) (q r : Parts) → Above q r → bytes_of names (urn d q) ≤ bytes_of names (urn d r)
unfolding text_of
bytes-rise names d q r a =
    let x : Name = get_or names d [] in
    omega (
      arith,
      length-append x (after_colons q),
      length-append x (after_colons r),
      ap (λ (l : Parts). length (after_colons l)) a.joined,
      ap length (colons-append q a.rest),
      length-append (after_colons q) (after_colons a.rest),
    )

-- a list as a value
bare-bytes : (t : List ℕ) (u : Urn) → length (bare (uri_in t u)) ≡ bytes_of (category_names t) u + 12
unfolding bare uri_of
bare-bytes t u =
    omega (
      arith,
      length-append (60 ∷ uri_in t u) (62 ∷ []),
      length-append (bytes "urn:alert:") (text_of (name_of (category_names t) u ∷ u.path)),
    )

comma-bytes : (t : List ℕ) (us : List Urn) → length (after_commas (map (uri_in t) us)) ≡ weight (bytes_of (category_names t)) us + 13 * length us
unfolding after_commas
comma-bytes t [] = refl
comma-bytes t (u ∷ us) =
    omega (arith, length-append (bare (uri_in t u)) (after_commas (map (uri_in t) us)), bare-bytes t u, comma-bytes t us)

pub value-bytes : (t : List ℕ) (us : List Urn) → length (value_of (map (uri_in t) us)) ≤ weight (bytes_of (category_names t)) us + 13 * length us
unfolding value_of
value-bytes t [] = omega arith
value-bytes t (u ∷ us) =
    omega (arith, length-append (bare (uri_in t u)) (after_commas (map (uri_in t) us)), bare-bytes t u, comma-bytes t us)
