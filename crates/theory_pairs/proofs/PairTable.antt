-- Laws of the table of all pairs: its signals, its places and its search.
use Prim.Native.Nat.{ℕ, zero, suc, ◌+◌, ◌-◌, ◌*◌, ◌≤◌, ◌<◌}
use mathlib.Core.Path.{◌≡◌, refl, sym, ap, ap₂, ◌∙◌}
use mathlib.Core.Bool.{Bool, true, false, cond, ◌&&◌}
use mathlib.Core.Option.{Option, none, some}
use mathlib.Core.List.{List, [], ◌∷◌, ◌++◌, map, Memᴰ}
use lib.Dec.{eqb}
use borrow.Author.Tests.{eqb-true, eqb-false, eq-eqb, ne_eqb}
use lib.ListN.{length, get_or, length-append, length-map, get_or-append}
use lib.Seq.{get_or-append-add}
use native.Mathlib.Omega.{arith}
use native.Mathlib.Decide.{dec_lt}
use native.Mathlib.Nat.{add-zero, zero-add}
use Rattle.base_lists.proofs.Lists.{mem-at, map_at}
use Rattle.base_lists.specs.Lists.{same_list}
use Rattle.theory_resolution.specs.Table.{Urn, Table, Row, place_in, row_from, row_of, same_row, find_from, find}
use Rattle.theory_resolution.proofs.Table.{row-length}
use Rattle.theory_pairs.specs.Pairs.{DistinctRows, Known, shifted, pair_signal, pair_signals, pairs, pair_number}

-- every URN of a signal has one of the first n categories
abbrev pub Within : ℕ → List Urn → Type 0
Within n sig = (u : Urn) → Memᴰ u sig → u.cat < n

-- the lamp's URNs have no place in the ring's categories
shifted-place : (n : ℕ) (l : List Urn) (c : ℕ) → c < n → place_in (map (shifted n) l) c ≡ []
shifted-place n [] c h = refl
shifted-place n (u ∷ l) c h = rw (ne_eqb (n + u.cat) c (λ e. omega arith)) (shifted-place n l c h)

place-left : (n : ℕ) (r l : List Urn) (c : ℕ) → c < n → place_in (pair_signal n r l) c ≡ place_in r c
place-left n [] l c h = shifted-place n l c h
place-left n (u ∷ r) l c h = ap (cond (eqb u.cat c) u.path) (place-left n r l c h)

same-shift : (n a b : ℕ) → eqb (n + a) (n + b) ≡ eqb a b
same-shift n a b = go (eqb a b) refl
  where
    go : (t : Bool) → eqb a b ≡ t → eqb (n + a) (n + b) ≡ t
    go true e = eq-eqb (n + a) (n + b) (ap (λ z. n + z) (eqb-true a b e))
    go false e = let k = eqb-false a b e in ne_eqb (n + a) (n + b) (λ z. k (omega arith))

place-shifted : (n : ℕ) (l : List Urn) (c : ℕ) → place_in (map (shifted n) l) (n + c) ≡ place_in l c
place-shifted n [] c = refl
place-shifted n (u ∷ l) c = rw (same-shift n u.cat c, place-shifted n l c)

place-right : (n : ℕ) (r l : List Urn) (c : ℕ) → Within n r → place_in (pair_signal n r l) (n + c) ≡ place_in l c
place-right n [] l c h = place-shifted n l c
place-right n (u ∷ r) l c h =
    let k = h u (Memᴰ.head refl) in
    rw (ne_eqb u.cat (n + c) (λ e. omega arith)) (place-right n r l c (λ v m. h v (Memᴰ.tail m)))

-- a row in two parts
row-parts : (sig : List Urn) (c k m : ℕ) → row_from sig c (k + m) ≡ row_from sig c k ++ row_from sig (c + k) m
row-parts sig c zero m = rw (zero-add, add-zero)
row-parts sig c (suc k) m =
    let e : suc k + m ≡ suc (k + m) = omega arith in
    let d : c + suc k ≡ suc c + k = omega arith in
    rw (e, d) (ap (λ z. place_in sig c ∷ z) (row-parts sig (suc c) k m))

row-left : (n : ℕ) (r l : List Urn) (c k : ℕ) → c + k ≤ n → row_from (pair_signal n r l) c k ≡ row_from r c k
row-left n r l c zero h = refl
row-left n r l c (suc k) h = ap₂ ◌∷◌ (place-left n r l c (omega arith)) (row-left n r l (suc c) k (omega arith))

row-right : (n : ℕ) (r l : List Urn) → Within n r → (c k : ℕ) → row_from (pair_signal n r l) (n + c) k ≡ row_from l c k
row-right n r l h c zero = refl
row-right n r l h c (suc k) =
    let d : suc (n + c) ≡ n + suc c = omega arith in
    ap₂ ◌∷◌ (place-right n r l c h) (ap (λ z. row_from (pair_signal n r l) z k) d ∙ row-right n r l h (suc c) k)

-- a pair's places are those of both
pub pair_row : (n m : ℕ) (r l : List Urn) → Within n r → row_from (pair_signal n r l) 0 (n + m) ≡ row_from r 0 n ++ row_from l 0 m
pair_row n m r l h =
    let d : 0 + n ≡ n + 0 = omega arith in
    row-parts (pair_signal n r l) 0 n m
    ∙ ap₂ ◌++◌ (row-left n r l 0 n (omega arith)) (ap (λ z. row_from (pair_signal n r l) z m) d ∙ row-right n r l h 0 m)

-- lists in two parts are the same if their parts are
same_parts : {A : Type 0} (f : A → A → Bool) (x y a b : List A) → length x ≡ length a → same_list f (x ++ y) (a ++ b) ≡ same_list f x a && same_list f y b
same_parts f [] y [] b h = refl
same_parts f [] y (w ∷ a) b h = absurd (omega arith)
same_parts f (v ∷ x) y [] b h = absurd (omega arith)
same_parts f (v ∷ x) y (w ∷ a) b h = go (f v w) (same_parts f x y a b (omega arith))
  where
    go : (t : Bool) → same_list f (x ++ y) (a ++ b) ≡ same_list f x a && same_list f y b → t && same_list f (x ++ y) (a ++ b)
        ≡ (t && same_list f x a) && same_list f y b
    go true ih = ih
    go false ih = refl

-- a signal found, counted from j on
abbrev raised : ℕ → Option ℕ → Option ℕ
raised j none = none
raised j (some s) = some (j + s)

-- the first that was found
abbrev or_else : Option ℕ → Option ℕ → Option ℕ
or_else none o = o
or_else (some s) o = some s

-- the pair of a ring signal found and a lamp signal found
abbrev pub pair_found : ℕ → Option ℕ → Option ℕ → Option ℕ
pair_found w none o = none
pair_found w (some r) none = none
pair_found w (some r) (some l) = some (r * w + l)

find-append : (n i : ℕ) (xs ys : List (List Urn)) (row : Row) → find_from n i (xs ++ ys) row ≡ or_else (find_from n i xs row) (find_from n (i + length xs) ys row)
find-append n i [] ys row = ap (λ z. find_from n z ys row) (omega arith)
find-append n i (sig ∷ xs) ys row = go (same_row (row_from sig 0 n) row) (find-append n (suc i) xs ys row)
  where
    go : (b : Bool) → find_from n (suc i) (xs ++ ys) row ≡ or_else (find_from n (suc i) xs row) (find_from n (suc i + length xs) ys row)
        → cond b (some i) (find_from n (suc i) (xs ++ ys) row) ≡ or_else (cond b (some i) (find_from n (suc i) xs row)) (find_from n (i + length (sig ∷ xs)) ys row)
    go true ih = refl
    go false ih = ih ∙ ap (λ z. or_else (find_from n (suc i) xs row) (find_from n z ys row)) (omega arith)

-- the search among the pairs of one ring signal
find-with : (n m j k : ℕ) (r : List Urn) → Within n r → (ls : List (List Urn)) (ra rb : Row) → length ra ≡ n
    → find_from (n + m) (j + k) (map (pair_signal n r) ls) (ra ++ rb) ≡ cond (same_row (row_from r 0 n) ra) (raised j (find_from m k ls rb)) none
find-with n m j k r known [] ra rb h = go (same_row (row_from r 0 n) ra)
  where
    go : (b : Bool) → ◌≡◌ {A = Option ℕ} none (cond b none none)
    go true = refl
    go false = refl
find-with n m j k r known (l ∷ ls) ra rb h =
    ap (λ b. cond b (some (j + k)) (find_from (n + m) (suc (j + k)) (map (pair_signal n r) ls) (ra ++ rb))) test
    ∙ ap (cond (same_row (row_from r 0 n) ra && same_row (row_from l 0 m) rb) (some (j + k)))
    (ap (λ z. find_from (n + m) z (map (pair_signal n r) ls) (ra ++ rb)) (omega arith) ∙ find-with n m j (suc k) r known ls ra rb h)
    ∙ go (same_row (row_from r 0 n) ra) (same_row (row_from l 0 m) rb)
  where
    test : same_row (row_from (pair_signal n r l) 0 (n + m)) (ra ++ rb) ≡ same_row (row_from r 0 n) ra && same_row (row_from l 0 m) rb
    test =
        ap (λ z. same_row z (ra ++ rb)) (pair_row n m r l known)
        ∙ same_parts (same_list (same_list eqb)) (row_from r 0 n) (row_from l 0 m) ra rb (row-length r 0 n ∙ sym h)

    go : (a b : Bool) → cond (a && b) (some (j + k)) (cond a (raised j (find_from m (suc k) ls rb)) none)
        ≡ cond a (raised j (cond b (some k) (find_from m (suc k) ls rb))) none
    go true true = refl
    go true false = refl
    go false b = refl

-- the search among all pairs finds the pair of what is found in each table
find-pairs-from : (n m i : ℕ) (rs : List (List Urn)) → ((r : List Urn) → Memᴰ r rs → Within n r) → (ls : List (List Urn)) (ra rb : Row) → length ra ≡ n
    → find_from (n + m) (i * length ls) (pair_signals n rs ls) (ra ++ rb) ≡ pair_found (length ls) (find_from n i rs ra) (find_from m 0 ls rb)
find-pairs-from n m i [] known ls ra rb h = refl
find-pairs-from n m i (r ∷ rs) known ls ra rb h =
    find-append (n + m) (i * w) (map (pair_signal n r) ls) (pair_signals n rs ls) (ra ++ rb)
    ∙ ap₂ or_else
    (ap (λ z. find_from (n + m) z (map (pair_signal n r) ls) (ra ++ rb)) (omega arith) ∙ find-with n m (i * w) 0 r (known r (Memᴰ.head refl)) ls ra rb h)
    (ap (λ z. find_from (n + m) z (pair_signals n rs ls) (ra ++ rb)) next ∙ find-pairs-from n m (suc i) rs (λ x j. known x (Memᴰ.tail j)) ls ra rb h)
    ∙ go (same_row (row_from r 0 n) ra) (find_from n (suc i) rs ra) (find_from m 0 ls rb)
  where
    w : ℕ
    w = length ls

    next : i * w + length (map (pair_signal n r) ls) ≡ suc i * w
    next = omega (arith, length-map ls (pair_signal n r))

    go : (b : Bool) (x y : Option ℕ) → or_else (cond b (raised (i * w) y) none) (pair_found w x y) ≡ pair_found w (cond b (some i) x) y
    go true x (some l) = refl
    go true none none = refl
    go true (some r) none = refl
    go false x y = refl

pub find-pairs : (ring lamp : Table) → Known ring → (ra rb : Row) → length ra ≡ ring.cats
    → find (pairs ring lamp) (ra ++ rb) ≡ pair_found (length lamp.signals) (find ring ra) (find lamp rb)
find-pairs ring lamp known ra rb h =
    ap (λ z. find_from (ring.cats + lamp.cats) z (pair_signals ring.cats ring.signals lamp.signals) (ra ++ rb)) (omega arith)
    ∙ find-pairs-from ring.cats lamp.cats 0 ring.signals known lamp.signals ra rb h

-- there are all pairs, in order
pub pairs-length : (n : ℕ) (rs ls : List (List Urn)) → length (pair_signals n rs ls) ≡ length rs * length ls
pairs-length n [] ls = omega arith
pairs-length n (r ∷ rs) ls = omega (arith, length-append (map (pair_signal n r) ls) (pair_signals n rs ls), length-map ls (pair_signal n r), pairs-length n rs ls)

pub pairs-at : (n : ℕ) (rs ls : List (List Urn)) (r l : ℕ) → r < length rs → l < length ls
    → get_or (pair_signals n rs ls) (r * length ls + l) [] ≡ pair_signal n (get_or rs r []) (get_or ls l [])
pairs-at n [] ls r l hr hl = absurd (omega arith)
pairs-at n (x ∷ rs) ls zero l hr hl =
    let e : 0 * length ls + l ≡ l = omega arith in
    ap (λ z. get_or (pair_signals n (x ∷ rs) ls) z []) e
    ∙ get_or-append (map (pair_signal n x) ls) (pair_signals n rs ls) [] l (omega (arith, length-map ls (pair_signal n x)))
    ∙ map_at (pair_signal n x) ls l [] [] hl
pairs-at n (x ∷ rs) ls (suc r) l hr hl =
    let e : suc r * length ls + l ≡ length (map (pair_signal n x) ls) + (r * length ls + l) = omega (arith, length-map ls (pair_signal n x)) in
    ap (λ z. get_or (pair_signals n (x ∷ rs) ls) z []) e
    ∙ get_or-append-add (map (pair_signal n x) ls) (pair_signals n rs ls) (r * length ls + l) []
    ∙ pairs-at n rs ls r l (omega arith) hl

rows_split : (x y a b : Row) → length x ≡ length a → x ++ y ≡ a ++ b → (x ≡ a) × (y ≡ b)
rows_split [] y [] b h e = (refl, e)
rows_split [] y (v ∷ a) b h e = absurd (omega arith)
rows_split (u ∷ x) y [] b h e = absurd (omega arith)
rows_split (u ∷ x) y (v ∷ a) b h e =
    let p : u ≡ v = cc in
    let q : x ++ y ≡ a ++ b = cc in
    let k = rows_split x y a b (omega arith) q in
    (ap₂ ◌∷◌ p k.0, k.1)

pub pair-places-of : (ring lamp : Table) → Known ring → (r l : ℕ) → r < length ring.signals → l < length lamp.signals
    → row_of (pairs ring lamp) (pair_number lamp r l) ≡ row_of ring r ++ row_of lamp l
pair-places-of ring lamp known r l hr hl =
    ap (λ z. row_from z 0 (ring.cats + lamp.cats)) (pairs-at ring.cats ring.signals lamp.signals r l hr hl)
    ∙ pair_row ring.cats lamp.cats (get_or ring.signals r []) (get_or lamp.signals l [])
    (known (get_or ring.signals r []) (mem-at ring.signals r [] hr))

-- each number is that of a pair
pair-split : (w n i : ℕ) → i < n * w → (r : ℕ) × (l : ℕ) × (r < n) × (l < w) × (i ≡ r * w + l)
pair-split w zero i h = absurd (omega arith)
pair-split w (suc n) i h = go (dec_lt i w) (pair-split w n (i - w))
  where
    go : Dec (i < w) → (i - w < n * w → (r : ℕ) × (l : ℕ) × (r < n) × (l < w) × (i - w ≡ r * w + l)) → (r : ℕ) × (l : ℕ) × (r < suc n)
        × (l < w) × (i ≡ r * w + l)
    go (yes a) ih = (0, i, omega arith, a, omega arith)
    go (no a) ih =
        let k = ih (omega arith) in
        (suc k.0, k.1, omega (arith, k.2), k.3, omega (arith, k.4))

-- no two pairs have the same places
pub pairs-distinct : (ring lamp : Table) → Known ring → DistinctRows ring → DistinctRows lamp → DistinctRows (pairs ring lamp)
pairs-distinct ring lamp known dr dl i j hi hj e =
    go (pair-split w (length ring.signals) i (rw size at hi)) (pair-split w (length ring.signals) j (rw size at hj))
  where
    w : ℕ
    w = length lamp.signals

    size : length (pairs ring lamp).signals ≡ length ring.signals * w
    size = pairs-length ring.cats ring.signals lamp.signals

    go : (r : ℕ) × (l : ℕ) × (r < length ring.signals) × (l < w) × (i ≡ r * w + l) → (s : ℕ) × (k : ℕ) × (s < length ring.signals)
        × (k < w) × (j ≡ s * w + k) → i ≡ j
    go a b =
        let f : row_of ring a.0 ++ row_of lamp a.1 ≡ row_of ring b.0 ++ row_of lamp b.1 =
        sym (pair-places-of ring lamp known a.0 a.1 a.2 a.3) ∙ ap (row_of (pairs ring lamp)) (sym a.4) ∙ e ∙ ap (row_of (pairs ring lamp)) b.4
        ∙ pair-places-of ring lamp known b.0 b.1 b.2 b.3 in
        let p = rows_split (row_of ring a.0) (row_of lamp a.1) (row_of ring b.0) (row_of lamp b.1)
        (row-length (get_or ring.signals a.0 []) 0 ring.cats ∙ sym (row-length (get_or ring.signals b.0 []) 0 ring.cats)) f in
        let x = dr a.0 b.0 a.2 b.2 p.0 in
        let y = dl a.1 b.1 a.3 b.3 p.1 in
        a.4 ∙ ap₂ (λ x y. x * w + y) x y ∙ sym b.4
