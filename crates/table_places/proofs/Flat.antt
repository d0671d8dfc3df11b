-- Laws of what the signals have, one after the other.
use Prim.Native.Nat.{ℕ, suc, zero, ◌+◌, ◌≤◌, ◌<◌}
use mathlib.Core.Path.{◌≡◌, refl, ap, ap₂, sym, ◌∙◌, subst}
use mathlib.Core.Bool.{Bool, true, false, cond, not, ◌&&◌, and_assoc, and-eq-true_iff}
use mathlib.Core.List.{List, [], ◌∷◌, ◌++◌, map, foldl, foldl-append, map-append, map-map}
use native.Mathlib.Omega.{arith}
use lib.ListN.{length, get_or}
use lib.Dec.{eqb, ltb}
use borrow.Author.Tests.{eq-eqb, ne_eqb, eqb-true, lt-ltb, not-true}
use Rattle.base_lists.proofs.Numbers.{eqb-sym}
use Rattle.base_lists.proofs.Tests.{any-join, two-snoc}
use Rattle.base_lists.proofs.Tabulated.{tabulate-length, tabulate-at}
use Rattle.base_lists.specs.Lists.{tabulate, joined}
use Rattle.base_lists.proofs.Bools.{by_test}
use Rattle.base_lists.specs.Tests.{all, any, no_two}
use Rattle.theory_resolution.specs.Names.{Parts}
use Rattle.theory_resolution.specs.Table.{Urn, Table, place_in}
use Rattle.theory_resolution.specs.Nodes.{nodes, add_urn, add_signal}
use Rattle.table_sections.specs.Held.{Tagged, tag, tagged_from}
use Rattle.table_places.specs.Verdict.{same_cat, no_urn}
use Rattle.table_places.specs.Slots.{same_key, slot_in}

-- what stands in the arrays, without the signals' numbers
abbrev pub what_of : {A : Type 0} → Tagged A → A
what_of x = x.what

what-map : {A : Type 0} (s : ℕ) (l : List A) → map what_of (map (tag s) l) ≡ l
what-map s [] = refl
what-map s (x ∷ l) = ap (λ z. x ∷ z) (what-map s l)

pub tagged-what : {A : Type 0} (s : ℕ) (ss : List (List A)) → map what_of (tagged_from s ss) ≡ joined ss
unfolding tagged_from joined
tagged-what s [] = refl
tagged-what s (sig ∷ ss) = map-append what_of (map (tag s) sig) (tagged_from (suc s) ss) ∙ ap₂ ◌++◌ (what-map s sig) (tagged-what (suc s) ss)

pub nodes-joined : (T : Table) → nodes T ≡ foldl add_urn [] (joined T.signals)
unfolding nodes joined
nodes-joined T = go [] T.signals
  where
    go : (l : List Urn) (ss : List (List Urn)) → foldl add_signal l ss ≡ foldl add_urn l (joined ss)
    go l [] = refl
    go l (sig ∷ ss) = go (foldl add_urn l sig) ss ∙ sym (foldl-append add_urn l sig (joined ss))

-- another thing of each
abbrev pub on_what : {A B : Type 0} → (A → B) → Tagged A → Tagged B
on_what g x = tag x.signal (g x.what)

pub tagged-map : {A B : Type 0} (g : A → B) (s : ℕ) (ss : List (List A)) → tagged_from s (map (map g) ss) ≡ map (on_what g) (tagged_from s ss)
unfolding tagged_from
tagged-map g s [] = refl
tagged-map g s (sig ∷ ss) =
    ap₂ ◌++◌ (map-map (tag s) g sig ∙ sym (map-map (on_what g) (tag s) sig)) (tagged-map g (suc s) ss)
    ∙ sym (map-append (on_what g) (map (tag s) sig) (tagged_from (suc s) ss))

-- no two of one signal and category, over all signals
abbrev pub same_tag : Tagged Urn → Tagged Urn → Bool
same_tag x y = eqb x.signal y.signal && same_cat x.what y.what

any-tags : (s : ℕ) (u : Urn) (sig : List Urn) → any (same_tag (tag s u)) (map (tag s) sig) ≡ any (same_cat u) sig
unfolding any
any-tags s u [] = refl
any-tags s u (v ∷ sig) = rw (eq-eqb s s refl) (by_test (same_cat u v) (λ e. rw e) (λ e. rw e (any-tags s u sig)))

any-later : (s k : ℕ) (u : Urn) (ss : List (List Urn)) → s < k → any (same_tag (tag s u)) (tagged_from k ss) ≡ false
unfolding any tagged_from
any-later s k u [] h = refl
any-later s k u (sig ∷ ss) h = any-join (same_tag (tag s u)) (map (tag k) sig) (tagged_from (suc k) ss) ∙ rw (go sig, any-later s (suc k) u ss (omega arith))
  where
    go : (sig : List Urn) → any (same_tag (tag s u)) (map (tag k) sig) ≡ false
    go [] = refl
    go (v ∷ sig) = rw (ne_eqb s k (λ e. omega arith)) (go sig)

pub single-tags : (s : ℕ) (ss : List (List Urn)) → all (no_two same_cat) ss ≡ no_two same_tag (tagged_from s ss)
unfolding all tagged_from no_two
single-tags s [] = refl
single-tags s (sig ∷ ss) = ap (λ b. no_two same_cat sig && b) (single-tags (suc s) ss) ∙ sym (go sig)
  where
    go : (sig : List Urn) → no_two same_tag (map (tag s) sig ++ tagged_from (suc s) ss) ≡ (no_two same_cat sig && no_two same_tag (tagged_from (suc s) ss))
    go [] = refl
    go (u ∷ sig) =
        let a : any (same_tag (tag s u)) (map (tag s) sig ++ tagged_from (suc s) ss) ≡ any (same_cat u) sig =
        any-join (same_tag (tag s u)) (map (tag s) sig) (tagged_from (suc s) ss) ∙ rw (
          any-tags s u sig,
          any-later s (suc s) u ss (omega arith),
        ) (keep (any (same_cat u) sig)) in
        ap₂ (λ x y. not x && y) a (go sig) ∙ sym (and_assoc (not (any (same_cat u) sig)) (no_two same_cat sig) (no_two same_tag (tagged_from (suc s) ss)))
      where
        keep : (b : Bool) → cond b true false ≡ b
        keep true = refl
        keep false = refl

-- the place of a signal, in the list of all URNs: the first that fits
unfoldable pub first_place : List (Tagged Urn) → ℕ → ℕ → Parts
first_place [] s c = []
first_place (x ∷ xs) s c = cond (eqb x.signal s && eqb x.what.cat c) x.what.path (first_place xs s c)

first-tags : (k : ℕ) (sig : List Urn) (r : List (Tagged Urn)) (c : ℕ) → first_place r k c ≡ [] → first_place (map (tag k) sig ++ r) k c ≡ place_in sig c
unfolding first_place
first-tags k [] r c e = e
first-tags k (u ∷ sig) r c e = rw (eq-eqb k k refl) (by_test (eqb u.cat c) (λ b. rw b) (λ b. rw b (first-tags k sig r c e)))

first-skip : (k s : ℕ) (sig : List Urn) (r : List (Tagged Urn)) (c : ℕ) → (k ≡ s → ⊥) → first_place (map (tag k) sig ++ r) s c ≡ first_place r s c
unfolding first_place
first-skip k s [] r c n = refl
first-skip k s (u ∷ sig) r c n = rw (ne_eqb k s n) (first-skip k s sig r c n)

first-later : (k s : ℕ) (ss : List (List Urn)) (c : ℕ) → s < k → first_place (tagged_from k ss) s c ≡ []
unfolding first_place tagged_from
first-later k s [] c h = refl
first-later k s (sig ∷ ss) c h = first-skip k s sig (tagged_from (suc k) ss) c (λ e. omega arith) ∙ first-later (suc k) s ss c (omega arith)

pub first-place : (k s : ℕ) (ss : List (List Urn)) (c : ℕ) → first_place (tagged_from k ss) (k + s) c ≡ place_in (get_or ss s []) c
unfolding first_place tagged_from
first-place k s [] c = refl
first-place k zero (sig ∷ ss) c =
    let e : k + 0 ≡ k = omega arith in
    rw e (first-tags k sig (tagged_from (suc k) ss) c (first-later (suc k) k ss c (omega arith)))
first-place k (suc s) (sig ∷ ss) c =
    let e : k + suc s ≡ suc k + s = omega arith in
    first-skip k (k + suc s) sig (tagged_from (suc k) ss) c (λ e. omega arith) ∙ rw e (first-place (suc k) s ss c)

-- the first that fits is the only one, and its slot has it
first-snoc : (l : List (Tagged Urn)) (x : Tagged Urn) (s c : ℕ)
    → first_place (l ++ x ∷ []) s c ≡ cond (any (λ y. eqb y.signal s && eqb y.what.cat c) l) (first_place l s c) (first_place (x ∷ []) s c)
unfolding first_place any
first-snoc [] x s c = refl
first-snoc (y ∷ l) x s c = by_test (eqb y.signal s && eqb y.what.cat c) (λ e. rw e) (λ e. rw e (first-snoc l x s c))

abbrev pub path_in : (ℕ → Tagged Urn) → ℕ → Parts
path_in f zero = []
path_in f (suc i) = (f i).what.path

abbrev pub key_of : Tagged Urn → Tagged ℕ
key_of x = tag x.signal x.what.cat

first-none : (l : List (Tagged Urn)) (s c : ℕ) → cond (any (λ y. eqb y.signal s && eqb y.what.cat c) l) (first_place l s c) [] ≡ first_place l s c
unfolding first_place any
first-none [] s c = refl
first-none (y ∷ l) s c = by_test (eqb y.signal s && eqb y.what.cat c) (λ e. rw e) (λ e. rw e (first-none l s c))

-- the last URN, where those before it have no clash with it
slot-last : (l : List (Tagged Urn)) (x : Tagged Urn) (s c : ℕ) (p : Parts) → any (λ y. same_tag y x) l ≡ false → first_place l s c ≡ p
    → first_place (l ++ x ∷ []) s c ≡ cond (same_key (tag s c) (key_of x)) x.what.path p
unfolding first_place
slot-last l x s c p v ih =
    first-snoc l x s c ∙ by_test (same_key (tag s c) (key_of x))
    (λ b.
    let a = (and-eq-true_iff (eqb s x.signal) (eqb c x.what.cat)).0 b in
    let o : x.signal ≡ s = sym (eqb-true s x.signal a.0) in
    let q : x.what.cat ≡ c = sym (eqb-true c x.what.cat a.1) in
    let w : any (λ y. eqb y.signal s && eqb y.what.cat c) l ≡ false =
    subst (λ (k : ℕ). any (λ y. eqb y.signal s && eqb y.what.cat k) l ≡ false) q
    (subst (λ (k : ℕ). any (λ y. eqb y.signal k && eqb y.what.cat x.what.cat) l ≡ false) o v) in
    let m : (eqb x.signal s && eqb x.what.cat c) ≡ true = ap₂ ◌&&◌ (eq-eqb x.signal s o) (eq-eqb x.what.cat c q) in
    rw (w, m, b))
    (λ b.
    let m : (eqb x.signal s && eqb x.what.cat c) ≡ false = ap₂ ◌&&◌ (eqb-sym x.signal s) (eqb-sym x.what.cat c) ∙ b in
    rw (m, b) (first-none l s c ∙ ih))

path-cond : (f : ℕ → Tagged Urn) (n k : ℕ) (b : Bool) → cond b (f n).what.path (path_in f k) ≡ path_in f (cond b (suc n) k)
path-cond f n k true = refl
path-cond f n k false = refl

pub slot-place : (f : ℕ → Tagged Urn) (s c n : ℕ) → no_two same_tag (tabulate f n) ≡ true → first_place (tabulate f n) s c
    ≡ path_in f (slot_in (λ i. key_of (f i)) s c n)
unfolding tabulate slot_in first_place
slot-place f s c zero v = first-nil s c
  where
    first-nil : (s c : ℕ) → first_place [] s c ≡ []
    first-nil s c = refl
slot-place f s c (suc n) v =
    let a = (and-eq-true_iff (no_two same_tag (tabulate f n)) (not (any (λ y. same_tag y (f n)) (tabulate f n)))).0
    (sym (two-snoc same_tag (tabulate f n) (f n)) ∙ v) in
    slot-last (tabulate f n) (f n) s c (path_in f (slot_in (λ i. key_of (f i)) s c n)) (not-true (any (λ y. same_tag y (f n)) (tabulate f n))
    a.1) (slot-place f s c n a.0)
    ∙ path-cond f n (slot_in (λ i. key_of (f i)) s c n) (same_key (tag s c) (key_of (f n)))

pub slot-le : (f : ℕ → Tagged ℕ) (s c n : ℕ) → slot_in f s c n ≤ n
unfolding slot_in
slot-le f s c zero = omega arith
slot-le f s c (suc n) = by_test (same_key (tag s c) (f n)) (λ e. rw e (omega arith)) (λ e. rw e (omega (arith, slot-le f s c n)))

-- the signals' numbers are below their count
tags-below : {A : Type 0} (k m : ℕ) (sig : List A) (r : List (Tagged A)) (i : ℕ) (d : Tagged A) → k < m → ((j : ℕ) → j < length r → (get_or r j d).signal < m)
    → i < length (map (tag k) sig ++ r) → (get_or (map (tag k) sig ++ r) i d).signal < m
tags-below k m [] r i d h v l = v i l
tags-below k m (x ∷ sig) r zero d h v l = h
tags-below k m (x ∷ sig) r (suc i) d h v l = tags-below k m sig r i d h v (omega arith)

all-below : {A : Type 0} (k : ℕ) (ss : List (List A)) (d : Tagged A) (i : ℕ) → i < length (tagged_from k ss) → (get_or (tagged_from k ss) i d).signal < k + length ss
unfolding tagged_from
all-below k [] d i h = absurd (omega arith)
all-below k (sig ∷ ss) d i h =
    tags-below k (k + suc (length ss)) sig (tagged_from (suc k) ss) i d (omega arith) (λ j l. omega (arith, all-below (suc k) ss d j l)) h

pub tagged-below : {A : Type 0} (k : ℕ) (ss : List (List A)) (f : ℕ → Tagged A) (n : ℕ) → tabulate f n ≡ tagged_from k ss → (i : ℕ) → i < n
    → (f i).signal < k + length ss
tagged-below {A} k ss f n e i h =
    let x : get_or (tagged_from k ss) i (f i) ≡ f i = ap (λ (l : List (Tagged A)). get_or l i (f i)) (sym e) ∙ tabulate-at f n i (f i) h in
    let l : i < length (tagged_from k ss) = omega (arith, ap length e, tabulate-length f n) in
    subst (λ (y : Tagged A). y.signal < k + length ss) x (all-below k ss (f i) i l)

tags-least : (k : ℕ) (sig : List Urn) (r : List (Tagged Urn)) (i : ℕ) (d : Tagged Urn) → ((j : ℕ) → j < length r → k ≤ (get_or r j d).signal)
    → i < length (map (tag k) sig ++ r) → k ≤ (get_or (map (tag k) sig ++ r) i d).signal
tags-least k [] r i d v l = v i l
tags-least k (x ∷ sig) r zero d v l = omega arith
tags-least k (x ∷ sig) r (suc i) d v l = tags-least k sig r i d v (omega arith)

least : (k : ℕ) (ss : List (List Urn)) (d : Tagged Urn) (i : ℕ) → i < length (tagged_from k ss) → k ≤ (get_or (tagged_from k ss) i d).signal
unfolding tagged_from
least k [] d i h = absurd (omega arith)
least k (sig ∷ ss) d i h = tags-least k sig (tagged_from (suc k) ss) i d (λ j l. omega (arith, least (suc k) ss d j l)) h

above : (ss : List (List Urn)) (f : ℕ → Tagged Urn) (n : ℕ) → tabulate f n ≡ tagged_from 1 ss → 0 < n → 0 < (f 0).signal
above ss f n e h =
    let x : get_or (tagged_from 1 ss) 0 (f 0) ≡ f 0 = ap (λ (l : List (Tagged Urn)). get_or l 0 (f 0)) (sym e) ∙ tabulate-at f n 0 (f 0) h in
    let l : 0 < length (tagged_from 1 ss) = omega (arith, ap length e, tabulate-length f n) in
    omega (arith, least 1 ss (f 0) 0 l, ap (λ (y : Tagged Urn). y.signal) x)

-- whether signal 0 has a URN
pub plain-tags : (ss : List (List Urn)) (f : ℕ → Tagged Urn) (n : ℕ) {b : Bool} → tabulate f n ≡ tagged_from 0 ss → (n ≡ 0 → b ≡ true)
    → (0 < n → b ≡ ltb 0 (f 0).signal)
    → b ≡ no_urn (get_or ss 0 [])
unfolding tagged_from
plain-tags [] f n e z p = z (sym (tabulate-length f n) ∙ ap length e)
plain-tags ([] ∷ ss) f zero e z p = z refl
plain-tags ([] ∷ ss) f (suc n) e z p = p (omega arith) ∙ lt-ltb 0 (f 0).signal (above ss f (suc n) e (omega arith))
plain-tags ((u ∷ sig) ∷ ss) f zero e z p = absurd (omega (arith, ap length e, tabulate-length f 0))
plain-tags ((u ∷ sig) ∷ ss) f (suc n) e z p =
    let x : f 0 ≡ tag 0 u = sym (tabulate-at f (suc n) 0 (f 0) (omega arith)) ∙ ap (λ (l : List (Tagged Urn)). get_or l 0 (f 0)) e in
    p (omega arith) ∙ ap (λ (y : Tagged Urn). ltb 0 y.signal) x
