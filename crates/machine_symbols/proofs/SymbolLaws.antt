-- Laws of listing the symbols, and of finding one's number, at a turn of a loop.
use Prim.Native.Nat.{ℕ, zero, suc, ◌+◌, ◌-◌, ◌*◌, ◌/◌, ◌%◌, ◌≤◌, ◌<◌, min}
use mathlib.Core.Path.{◌≡◌, refl, sym, ap, ap₂, subst, ◌∙◌}
use mathlib.Core.Bool.{Bool, true, false, cond, ◌&&◌, true≢false, and-eq-true_iff}
use mathlib.Core.List.{List, [], ◌∷◌, ◌++◌, append_assoc, append-nil}
use lib.Dec.{eqb, ltb}
use borrow.Author.Tests.{eqb-true, eq-eqb, ne_eqb, ltb-true, lt-ltb, le-ltb}
use lib.ListN.{length, get_or, set, take, drop, replicate, get_or-eq_default, length-append, length-set, length-take, length-replicate, take-append-drop}
use lib.Seq.{take-suc-set, take_all, take_at, take-append-le, drop_at, drop-drop, drop-set-lt, set_out, get_or-set_same, get_or-set_other}
use native.Mathlib.Omega.{arith}
use native.Mathlib.Nat.{sub-zero}
use native.Mathlib.Numerals.{add-one}
use native.Mathlib.Decide.{dec_lt, ℕ_discrete}
use Rattle.base_numbers.specs.Numbers.{most_symbol_bytes, most_symbols}
use Rattle.base_lists.proofs.Numbers.{min-le, min-gt}
use Rattle.machine_symbols.specs.declared.Symbols.{Symbols}
use Rattle.machine_symbols.specs.declared.Symbol.{Symbol}
use Rattle.machine_symbols.specs.Listed.{triple, node_triples, nodes_triples, category_triples, triple_lists, array_of, symbols_of, Listed, is_triple}
use Rattle.machine_symbols.specs.Listed.{symbol_in, triple_index, kind_for, slot, slot_at, index_from, entry_at, number_from, symbol_number}

-- one symbol more
module _ (bytes : List ℕ) (n : ℕ) (l : List ℕ) (v : Listed bytes n l) (x y z : ℕ) where
  pub listed-full : most_symbols ≤ n → n ≤ most_symbols → Listed bytes n (l ++ triple x y z)
  listed-full h k =
      record {
        wide = v.wide;
        counted = omega (arith, v.counted, length-append l (triple x y z));
        held = v.held ∙ sym (take-append-le most_symbol_bytes l (triple x y z) (omega (arith, v.counted)));
        rest = v.rest;
      }

  pub listed_more : n < most_symbols → Listed (set (set (set bytes (3 * n) x) (3 * n + 1) y) (3 * n + 2) z) (n + 1) (l ++ triple x y z)
  listed_more h =
      let k : length l ≡ 3 * n = omega (arith, v.counted) in
      let b₁ : List ℕ = set bytes (3 * n) x in
      let b₂ : List ℕ = set b₁ (3 * n + 1) y in
      let w₁ : length b₁ ≡ most_symbol_bytes = length-set bytes (3 * n) x ∙ v.wide in
      let w₂ : length b₂ ≡ most_symbol_bytes = length-set b₁ (3 * n + 1) y ∙ w₁ in
      let t₀ : take (3 * n) bytes ≡ l = v.held ∙ take_all most_symbol_bytes l (omega arith) in
      let t₁ : take (suc (3 * n)) b₁ ≡ l ++ x ∷ [] = take-suc-set bytes (3 * n) x (omega (arith, v.wide)) ∙ ap (λ q. q ++ x ∷ []) t₀ in
      let e₁ : 3 * n + 1 ≡ suc (3 * n) = add-one (3 * n) in
      let t₂ : take (suc (3 * n + 1)) b₂ ≡ l ++ x ∷ [] ++ y ∷ [] = take-suc-set b₁ (3 * n + 1) y (omega arith)
      ∙ ap (λ q. q ++ y ∷ []) (ap (λ q. take q b₁) e₁ ∙ t₁) in
      let e₂ : 3 * n + 2 ≡ suc (3 * n + 1) = omega arith in
      let t₃ : take (suc (3 * n + 2)) (set b₂ (3 * n + 2) z) ≡ l ++ x ∷ [] ++ y ∷ [] ++ z ∷ [] =
      take-suc-set b₂ (3 * n + 2) z (omega arith) ∙ ap (λ q. q ++ z ∷ []) (ap (λ q. take q b₂) e₂ ∙ t₂) in
      let e₃ : 3 * (n + 1) ≡ suc (3 * n + 2) = omega arith in
      record {
        wide = length-set b₂ (3 * n + 2) z ∙ w₂;
        counted = omega (arith, length-append l (triple x y z));
        held =
            ap (λ q. take q (set b₂ (3 * n + 2) z)) e₃ ∙ t₃
            ∙ ap (λ q. q ++ z ∷ []) (append_assoc l (x ∷ []) (y ∷ [])) ∙ append_assoc l (x ∷ y ∷ []) (z ∷ [])
            ∙ sym (take_all most_symbol_bytes (l ++ triple x y z) (omega (arith, length-append l (triple x y z))));
        rest =
            drop-set-lt (3 * (n + 1)) b₂ (3 * n + 2) z (omega arith) ∙ drop-set-lt (3 * (n + 1)) b₁ (3 * n + 1) y (omega arith)
            ∙ drop-set-lt (3 * (n + 1)) bytes (3 * n) x (omega arith) ∙ three-less;
      }
    where
      three-less : drop (3 * (n + 1)) bytes ≡ replicate (most_symbol_bytes - 3 * (n + 1)) 0
      three-less =
          let e : 3 * (n + 1) ≡ 3 * n + 3 = omega arith in
          let f : most_symbol_bytes - 3 * n ≡ suc (suc (suc (most_symbol_bytes - 3 * (n + 1)))) = omega arith in
          ap (λ q. drop q bytes) e ∙ sym (drop-drop 3 (3 * n) bytes) ∙ ap (drop 3) (v.rest ∙ ap (λ q. replicate q 0) f)

-- a node's symbols
module _ (ca : List ℕ) (inner : List Bool) (c i : ℕ) where
  pub node-other : (get_or ca i 0 ≡ c → ⊥) → (bytes : List ℕ) (m : ℕ) (l : List ℕ) → Listed bytes m l → Listed bytes m (l ++ node_triples ca inner c i)
  unfolding node_triples
  node-other e bytes m l v = rw (ne_eqb (get_or ca i 0) c e, append-nil l) v

  module _ (e : get_or ca i 0 ≡ c) where
    pub node-leaf : get_or inner i false ≡ false → (bytes : List ℕ) (m : ℕ) (l : List ℕ) → Listed bytes m (l ++ triple c (i + 1) 0)
        → Listed bytes m (l ++ node_triples ca inner c i)
    unfolding node_triples
    node-leaf z bytes m l v = rw (eq-eqb (get_or ca i 0) c e, z) v

    pub node-both : get_or inner i false ≡ true → (bytes : List ℕ) (m : ℕ) (l : List ℕ)
        → Listed bytes m (l ++ triple c (i + 1) 0 ++ triple c (i + 1) 1) → Listed bytes m (l ++ node_triples ca inner c i)
    unfolding node_triples
    node-both z bytes m l v =
        rw (eq-eqb (get_or ca i 0) c e, z) (subst (Listed bytes m) (append_assoc l (triple c (i + 1) 0) (triple c (i + 1) 1)) v)

-- the loop over the nodes
module _ (ca : List ℕ) (inner : List Bool) (n c : ℕ) where
  pub nodes-start : (bytes : List ℕ) (m : ℕ) (l : List ℕ) → Listed bytes m l → Listed bytes m (l ++ nodes_triples ca inner c 0)
  unfolding nodes_triples
  nodes-start bytes m l v = rw (append-nil l) v

  pub nodes-more : (i : ℕ) (bytes : List ℕ) (m : ℕ) (l : List ℕ)
      → Listed bytes m (l ++ nodes_triples ca inner c i ++ node_triples ca inner c i) → Listed bytes m (l ++ nodes_triples ca inner c (i + 1))
  unfolding nodes_triples
  nodes-more i bytes m l v = rw add-one (subst (Listed bytes m) (append_assoc l (nodes_triples ca inner c i) (node_triples ca inner c i)) v)

  pub nodes-end : (i : ℕ) → i ≤ n → n ≤ i → (bytes : List ℕ) (m : ℕ) (l : List ℕ)
      → Listed bytes m (l ++ nodes_triples ca inner c i ++ triple c 0 1) → Listed bytes m (l ++ category_triples ca inner n c)
  nodes-end i a b bytes m l v =
      let e : i ≡ n = omega arith in
      subst (Listed bytes m) (append_assoc l (nodes_triples ca inner c n) (triple c 0 1))
      (subst (λ (z : ℕ). Listed bytes m (l ++ nodes_triples ca inner c z ++ triple c 0 1)) e v)

-- the loop over the categories
module _ (ca : List ℕ) (inner : List Bool) (n : ℕ) where
  pub lists-start : (bytes : List ℕ) → bytes ≡ replicate most_symbol_bytes 0 → Listed bytes 0 (triple_lists ca inner n 0)
  unfolding triple_lists
  lists-start bytes w = record { wide = ap length w ∙ length-replicate {A = ℕ} most_symbol_bytes 0; counted = omega arith; held = refl; rest = w }

  pub lists-more : (c : ℕ) (bytes : List ℕ) (m : ℕ) → Listed bytes m (triple_lists ca inner n c ++ category_triples ca inner n c)
      → Listed bytes m (triple_lists ca inner n (c + 1))
  unfolding triple_lists
  lists-more c bytes m v = rw add-one v

  pub lists-end : (c k : ℕ) → c ≤ k → k ≤ c → (bytes : List ℕ) (m : ℕ) → Listed bytes m (triple_lists ca inner n c) → Listed bytes m (triple_lists ca inner n k)
  lists-end c k a b bytes m v = let e : c ≡ k = omega arith in subst (λ (z : ℕ). Listed bytes m (triple_lists ca inner n z)) e v

-- what has been listed, with its index, is the symbols of the list
pub listed-all : (bytes : List ℕ) (n : ℕ) (l : List ℕ) → Listed bytes n l → {ix : List ℕ} → ix ≡ index_from bytes 0 (min n most_symbols)
    → record { count = n; bytes = bytes; index = ix } ≡ symbols_of l
unfolding symbols_of
listed-all bytes n l v {ix} e =
    ap₂ (λ (k : ℕ) (x : List ℕ). record { count = k; bytes = bytes; index = x }) counted (e ∙ ap (index_from bytes 0) (sym (min-le n most_symbols few) ∙ counted))
    ∙ ap (λ (b : List ℕ). record { count = min (length l / 3) most_symbols; bytes = b; index = index_from b 0 (min (length l / 3) most_symbols) }) filled
  where
    few : n ≤ most_symbols
    few = omega (arith, v.counted)

    go : Dec (most_symbol_bytes < length l) → n ≡ min (length l / 3) most_symbols
    go (yes h) = let e : n ≡ most_symbols = omega (arith, v.counted) in e ∙ at_most (ℕ_discrete (length l / 3) most_symbols)
      where
        at_most : Dec (length l / 3 ≡ most_symbols) → most_symbols ≡ min (length l / 3) most_symbols
        at_most (yes e) = sym e ∙ min-le (length l / 3) most_symbols (omega arith)
        at_most (no e) = min-gt (length l / 3) most_symbols (omega arith)
    go (no h) = let e : n ≡ length l / 3 = omega (arith, v.counted) in e ∙ min-le (length l / 3) most_symbols (omega arith)

    counted : n ≡ min (length l / 3) most_symbols
    counted = go (dec_lt most_symbol_bytes (length l))

    filled : bytes ≡ take most_symbol_bytes l ++ replicate (most_symbol_bytes - length l) 0
    filled =
        let e : most_symbol_bytes - 3 * n ≡ most_symbol_bytes - length l = omega (arith, v.counted) in
        sym (take-append-drop (3 * n) bytes) ∙ ap₂ ◌++◌ v.held (v.rest ∙ ap (λ k. replicate k 0) e)

-- each symbol has three bytes
thirds : (a b : List ℕ) → length a % 3 ≡ 0 → length b % 3 ≡ 0 → length (a ++ b) % 3 ≡ 0
thirds a b x y = omega (arith, length-append a b)

module _ (ca : List ℕ) (inner : List Bool) (n : ℕ) where
  node-thirds : (c i : ℕ) → length (node_triples ca inner c i) % 3 ≡ 0
  unfolding node_triples
  node-thirds c i = go (eqb (get_or ca i 0) c) (get_or inner i false)
    where
      go : (a b : Bool) → length (cond a (triple c (i + 1) 0 ++ cond b (triple c (i + 1) 1) []) []) % 3 ≡ 0
      go true true = refl
      go true false = refl
      go false b = refl

  nodes-thirds : (c k : ℕ) → length (nodes_triples ca inner c k) % 3 ≡ 0
  unfolding nodes_triples
  nodes-thirds c zero = refl
  nodes-thirds c (suc k) = thirds (nodes_triples ca inner c k) (node_triples ca inner c k) (nodes-thirds c k) (node-thirds c k)

  lists-thirds : (k : ℕ) → length (triple_lists ca inner n k) % 3 ≡ 0
  unfolding triple_lists
  lists-thirds zero = refl
  lists-thirds (suc c) = thirds (triple_lists ca inner n c) (category_triples ca inner n c) (lists-thirds c)
      (thirds (nodes_triples ca inner c n) (triple c 0 1) (nodes-thirds c n) refl)

-- the symbols of a list of symbols' bytes stand in their array
listed_of : (l : List ℕ) → length l % 3 ≡ 0 → Listed (symbols_of l).bytes (symbols_of l).count l
unfolding symbols_of
listed_of l h = go (dec_lt most_symbol_bytes (length l))
  where
    zeros : List ℕ
    zeros = replicate (most_symbol_bytes - length l) 0

    sized : (k : ℕ) → 3 * k ≡ min most_symbol_bytes (length l) → Listed (take most_symbol_bytes l ++ zeros) k l
    sized k e =
        let t : length (take most_symbol_bytes l) ≡ 3 * k = length-take most_symbol_bytes l ∙ sym e in
        let f : most_symbol_bytes - length l ≡ most_symbol_bytes - 3 * k = omega arith in
        record {
          wide = length-append (take most_symbol_bytes l) zeros ∙ omega (arith, t, length-replicate {A = ℕ} (most_symbol_bytes - length l) 0);
          counted = e;
          held = take_at (take most_symbol_bytes l) zeros (3 * k) t;
          rest = drop_at (take most_symbol_bytes l) zeros (3 * k) t ∙ ap (λ m. replicate m 0) f;
        }

    go : Dec (most_symbol_bytes < length l) → Listed (take most_symbol_bytes l ++ zeros) (min (length l / 3) most_symbols) l
    go (yes i) = subst (λ (k : ℕ). Listed (take most_symbol_bytes l ++ zeros) k l) (min-gt (length l / 3) most_symbols (omega arith))
        (sized most_symbols (omega arith))
    go (no i) = subst (λ (k : ℕ). Listed (take most_symbol_bytes l ++ zeros) k l) (min-le (length l / 3) most_symbols (omega arith))
        (sized (length l / 3) (omega arith))

pub lists-listed : (ca : List ℕ) (inner : List Bool) (n k : ℕ) {r : Symbols} → r ≡ symbols_of (triple_lists ca inner n k)
    → Listed r.bytes r.count (triple_lists ca inner n k) × (r.count ≤ most_symbols)
lists-listed ca inner n k {r} e =
    let v : Listed r.bytes r.count (triple_lists ca inner n k) =
    subst (λ (z : Symbols). Listed z.bytes z.count (triple_lists ca inner n k)) (sym e)
    (listed_of (triple_lists ca inner n k) (lists-thirds ca inner n k)) in
    (v, omega (arith, v.counted))

-- one symbol, by its three bytes at once
module _ (sy : List ℕ) (s : Symbol) where
  abbrev is : ℕ → Bool
  is = is_triple sy s.category s.node s.kind

  pub triple-is : (k : ℕ) {x : Symbol} → x ≡ symbol_in sy k → {b : Bool} → b ≡ (eqb x.category s.category && (eqb x.node s.node && eqb x.kind s.kind)) → b ≡ is k
  unfolding is_triple
  triple-is k e f = f ∙ ap (λ (x : Symbol). eqb x.category s.category && (eqb x.node s.node && eqb x.kind s.kind)) e

  -- the search, from k on
  module _ (n k : ℕ) (v : triple_index sy s.category s.node s.kind 0 n ≡ triple_index sy s.category s.node s.kind k (n - k)) where
    module _ {b : Bool} (h : k < n) (e : b ≡ is k) where
      pub index-found : b ≡ true → k ≡ triple_index sy s.category s.node s.kind 0 n
      unfolding triple_index
      index-found q = let m : n - k ≡ suc (n - (k + 1)) = omega arith in let z = sym e ∙ q in sym (v ∙ rw (m, z))

      pub index-more : b ≡ false → triple_index sy s.category s.node s.kind 0 n ≡ triple_index sy s.category s.node s.kind (k + 1) (n - (k + 1))
      unfolding triple_index
      index-more q = let m : n - k ≡ suc (n - (k + 1)) = omega arith in let z = sym e ∙ q in v ∙ rw (m, z)

    pub index-end : k ≤ n → n ≤ k → n ≡ triple_index sy s.category s.node s.kind 0 n
    unfolding triple_index
    index-end a b = let m : n - k ≡ 0 = omega arith in sym (v ∙ rw m (omega arith))

-- the listed symbols have their index
pub lists-indexed : (l : List ℕ) {r : Symbols} → r ≡ symbols_of l → r.index ≡ index_from r.bytes 0 (min r.count most_symbols)
unfolding symbols_of
lists-indexed l e = rw e (ap (index_from (array_of l) 0) (min-le (min (length l / 3) most_symbols) most_symbols (omega arith)))

-- the slot of symbol k
pub slot-of : (sy : List ℕ) (k : ℕ) {x : Symbol} {r : ℕ} → x ≡ symbol_in sy k → r ≡ slot x.category x.node x.kind → r ≡ slot_at sy k
slot-of sy k e f = f ∙ ap (λ (x : Symbol). slot x.category x.node x.kind) e

index-wide : (sy : List ℕ) (n k : ℕ) → length (index_from sy k n) ≡ 136
unfolding index_from
index-wide sy zero k = length-replicate {A = ℕ} 136 0
index-wide sy (suc n) k = length-set (index_from sy (k + 1) n) (slot_at sy k) k ∙ index-wide sy n (k + 1)

-- the index, one symbol more, the one before
module _ (sy : List ℕ) (n k : ℕ) {ix : List ℕ} where
  pub index-none : ix ≡ replicate 136 0 → k ≡ n → ix ≡ index_from sy k (n - k)
  unfolding index_from
  index-none w e = let z : n - k ≡ 0 = omega arith in w ∙ sym (ap (index_from sy k) z)

  module _ (v : ix ≡ index_from sy k (n - k)) (h : 0 < k) (i : k ≤ n) {s : ℕ} (e : s ≡ slot_at sy (k - 1)) where
    pub index-put : set ix s (k - 1) ≡ index_from sy (k - 1) (n - (k - 1))
    unfolding index_from
    index-put =
        let z : n - (k - 1) ≡ suc (n - k) = omega arith in
        let y : k - 1 + 1 ≡ k = omega arith in
        ap₂ (λ x q. set x q (k - 1)) (v ∙ ap (λ q. index_from sy q (n - k)) (sym y)) e ∙ sym (ap (index_from sy (k - 1)) z)

    pub index-skip : 136 ≤ s → ix ≡ index_from sy (k - 1) (n - (k - 1))
    index-skip f = sym (set_out ix s (k - 1) (omega (arith, ap length v, index-wide sy (n - k) k))) ∙ index-put

  pub index-all : ix ≡ index_from sy k (n - k) → k ≤ 0 → ix ≡ index_from sy 0 n
  index-all v h = let z : k ≡ 0 = omega arith in v ∙ ap (λ q. index_from sy q (n - q)) z ∙ ap (index_from sy 0) (sub-zero n)

-- no symbol stands before the one that the index has at its slot
pub index-first : (sy : List ℕ) (n k j : ℕ) → k ≤ j → j < k + n → slot_at sy j < 136 → get_or (index_from sy k n) (slot_at sy j) 0 ≤ j
unfolding index_from
index-first sy zero k j a b l = absurd (omega arith)
index-first sy (suc n) k j a b l = go (ℕ_discrete (slot_at sy j) (slot_at sy k)) (index-first sy n (k + 1) j)
  where
    ix : List ℕ
    ix = index_from sy (k + 1) n

    go : Dec (slot_at sy j ≡ slot_at sy k) → (k + 1 ≤ j → j < k + 1 + n → slot_at sy j < 136 → get_or ix (slot_at sy j) 0 ≤ j)
        → get_or (set ix (slot_at sy k) k) (slot_at sy j) 0 ≤ j
    go (yes z) ih =
        omega (arith, ap (λ x. get_or (set ix (slot_at sy k) k) x 0) z, get_or-set_same ix (slot_at sy k) k 0 (omega (arith, index-wide sy n (k + 1))))
    go (no z) ih = omega (arith, get_or-set_other ix (slot_at sy k) (slot_at sy j) k 0 z, ih (later (ℕ_discrete j k)) (omega arith) l)
      where
        later : Dec (j ≡ k) → k + 1 ≤ j
        later (yes q) = absurd (z (ap (slot_at sy) q))
        later (no q) = omega arith

-- what the index has at a slot
module _ (ix : List ℕ) (s : ℕ) where
  pub entry_in : {r : ℕ} → s < 136 → r ≡ get_or ix s 0 → r ≡ entry_at ix s
  entry_in h e = e ∙ sym (ap (λ b. cond b (get_or ix s 0) 0) (lt-ltb s 136 h))

  pub entry-out : 136 ≤ s → 0 ≡ entry_at ix s
  entry-out h = sym (ap (λ b. cond b (get_or ix s 0) 0) (le-ltb s 136 h))

-- the number: what the index names, if that is it, else by the search
module _ (ix sy : List ℕ) (count : ℕ) (inner : List Bool) (c d : ℕ) (whole : Bool) {n kind x k : ℕ} (en : n ≡ min count most_symbols)
    (ek : kind ≡ kind_for inner d whole) (es : x ≡ slot c d kind) (e : k ≡ entry_at ix x) where
  number_is : {r : ℕ} → r ≡ number_from sy n c d kind k → r ≡ symbol_number ix sy count inner c d whole
  unfolding symbol_number
  number_is f =
      f ∙ ap₂ (λ z q. number_from sy z c d kind q) en (e ∙ ap (entry_at ix) es)
      ∙ ap (λ z. number_from sy (min count most_symbols) c d z (entry_at ix (slot c d z))) ek

  pub number-named : k < n → {b : Bool} → b ≡ is_triple sy c d kind k → b ≡ true → k ≡ symbol_number ix sy count inner c d whole
  unfolding number_from
  number-named h f g = let z = sym f ∙ g in number_is (sym (rw (lt-ltb k n h, z)))

  module _ {r : ℕ} (f : r ≡ triple_index sy c d kind 0 n) where
    pub number-other : {b : Bool} → b ≡ is_triple sy c d kind k → b ≡ false → r ≡ symbol_number ix sy count inner c d whole
    unfolding number_from
    number-other g h = let z = sym g ∙ h in number_is (f ∙ sym (rw z (by (ltb k n))))
      where
        by : (a : Bool) → cond (a && false) k (triple_index sy c d kind 0 n) ≡ triple_index sy c d kind 0 n
        by true = refl
        by false = refl

    pub number-unnamed : n ≤ k → r ≡ symbol_number ix sy count inner c d whole
    unfolding number_from
    number-unnamed h = number_is (f ∙ sym (rw (le-ltb k n h)))

-- the index names the first symbol of its slot, so the number is that of the search
module _ (sy : List ℕ) (c d kind : ℕ) where
  slot_of : (k : ℕ) → is_triple sy c d kind k ≡ true → slot_at sy k ≡ slot c d kind
  unfolding is_triple
  slot_of k e =
      let a = (and-eq-true_iff (eqb (get_or sy (3 * k) 0) c) (eqb (get_or sy (3 * k + 1) 0) d && eqb (get_or sy (3 * k + 2) 0) kind)).0 e in
      let b = (and-eq-true_iff (eqb (get_or sy (3 * k + 1) 0) d) (eqb (get_or sy (3 * k + 2) 0) kind)).0 a.1 in
      let x = eqb-true (get_or sy (3 * k) 0) c a.0 in
      let y = eqb-true (get_or sy (3 * k + 1) 0) d b.0 in
      let z = eqb-true (get_or sy (3 * k + 2) 0) kind b.1 in
      ap (λ q. slot q (get_or sy (3 * k + 1) 0) (get_or sy (3 * k + 2) 0)) x ∙ ap₂ (slot c) y z

  search-first : (k : ℕ) → is_triple sy c d kind k ≡ true → (m i : ℕ) → i ≤ k → k < i + m
      → ((j : ℕ) → j < i + m → is_triple sy c d kind j ≡ true → k ≤ j) → triple_index sy c d kind i m ≡ k
  unfolding triple_index
  search-first k e zero i a b f = absurd (omega arith)
  search-first k e (suc m) i a b f = go (is_triple sy c d kind i) refl (search-first k e m (i + 1))
    where
      go : (b : Bool) → is_triple sy c d kind i ≡ b
          → (i + 1 ≤ k → k < i + 1 + m → ((j : ℕ) → j < i + 1 + m → is_triple sy c d kind j ≡ true → k ≤ j) → triple_index sy c d kind (i + 1) m ≡ k)
          → cond b i (triple_index sy c d kind (i + 1) m) ≡ k
      go true g ih = omega (arith, f i (omega arith) g)
      go false g ih = by (ℕ_discrete i k)
        where
          by : Dec (i ≡ k) → triple_index sy c d kind (i + 1) m ≡ k
          by (yes q) = absurd (true≢false (sym e ∙ ap (is_triple sy c d kind) (sym q) ∙ g))
          by (no q) = ih (omega arith) (omega arith) (λ j h. f j (omega arith))

  pub by_index : (ix : List ℕ) (m : ℕ) → ix ≡ index_from sy 0 m → number_from sy m c d kind (entry_at ix (slot c d kind)) ≡ triple_index sy c d kind 0 m
  unfolding number_from
  by_index ix m v = go (ltb k m) refl (is_triple sy c d kind k) refl
    where
      k : ℕ
      k = entry_at ix (slot c d kind)

      least : (j : ℕ) → j < m → is_triple sy c d kind j ≡ true → k ≤ j
      least j h e = by (dec_lt (slot c d kind) 136)
        where
          by : Dec (slot c d kind < 136) → k ≤ j
          by (yes l) = omega (
            arith,
            entry_in ix (slot c d kind) l refl,
            ap (λ s. get_or ix s 0) (slot_of j e),
            ap (λ x. get_or x (slot_at sy j) 0) v,
            index-first sy m 0 j (omega arith) (omega arith) (omega (arith, slot_of j e)),
          )
          by (no l) = omega (arith, entry-out ix (slot c d kind) (omega arith))

      go : (a : Bool) → ltb k m ≡ a → (b : Bool) → is_triple sy c d kind k ≡ b → cond (a && b) k (triple_index sy c d kind 0 m) ≡ triple_index sy c d kind 0 m
      go false e b f = refl
      go true e false f = refl
      go true e true f = sym (search-first k f m 0 (omega arith) (omega (arith, ltb-true k m e)) (λ j h. least j (omega arith)))
