-- Laws of paths: the tests, what is left below an ancestor, and the candidates.
use Prim.Native.Nat.{ℕ}
use mathlib.Core.Path.{◌≡◌, refl, sym, ap, ◌∙◌}
use mathlib.Core.Logic.{◌⊎◌, inl, inr, ◌≢◌}
use mathlib.Core.Bool.{Bool, true, false, true≢false, false≢true}
use mathlib.Core.Option.{Option, none, some}
use mathlib.Core.List.Memᴰ
use mathlib.Core.List.{List, [], ◌∷◌, ◌++◌, append_assoc, append-nil, Memᴰ}
use lib.ListN.{length, length-append}
use native.Mathlib.Omega.{arith}
use Rattle.base_lists.proofs.Bools.{same_test}
use Rattle.base_lists.proofs.Lists.{Exact, eqb-exact, list-exact}
use Rattle.base_lists.specs.Lists.{same_list}
use Rattle.theory_resolution.specs.Names.{Name, Parts, same_name, same_parts, below, some_part, proper_ancestor, Above, longer, candidates, some_below}

pub name-exact : Exact same_name
name-exact = list-exact eqb-exact

pub parts-exact : Exact same_parts
parts-exact = list-exact name-exact

pub row-exact : Exact (same_list same_parts)
row-exact = list-exact parts-exact

-- what is left below an ancestor
pub below-to : (p u r : Parts) → below p u ≡ some r → p ++ r ≡ u
below-to [] u r e = cc
below-to (x ∷ p) [] r e = let z : ◌≡◌ {A = ℕ} 0 1 = cc in cc
below-to (x ∷ p) (y ∷ u) r e = go (same_name x y) refl (λ h. below-to p u r h)
  where
    go : (b : Bool) → same_name x y ≡ b → (below p u ≡ some r → p ++ r ≡ u) → x ∷ p ++ r ≡ y ∷ u
    go true h ih = let i : p ++ r ≡ u = ih (rw h at e) in let n = name-exact.to x y h in cc
    go false h ih = let z : none ≡ some r = rw h at e in cc

pub below_self : (p r : Parts) → below p (p ++ r) ≡ some r
below_self [] r = refl
below_self (x ∷ p) r = rw (name-exact.self x) (below_self p r)

-- the candidates of a longer path, first those past the shorter one
pub longer-append : (p e f : Parts) → longer p (e ++ f) ≡ longer (p ++ e) f ++ longer p e
longer-append p [] f = rw (append-nil p) (sym (append-nil (longer p f)))
longer-append p (x ∷ e) f =
    rw (longer-append (p ++ x ∷ []) e f, append_assoc p (x ∷ []) e, append_assoc)

-- a path strictly below p, on the way to p ++ r
pub record Strict (p r q : Parts) : Type 0 where
  pub head : Name
  pub mid : Parts
  pub last : Parts
  pub is : p ++ head ∷ mid ≡ q
  pub on : head ∷ mid ++ last ≡ r

pub in-longer : (p r q : Parts) → Memᴰ q (longer p r) → Strict p r q
in-longer p [] q m = absurd (Memᴰ.not-nil m)
in-longer p (x ∷ r) q m = go (Memᴰ.append_cases (longer (p ++ x ∷ []) r) m) (λ h. in-longer (p ++ x ∷ []) r q h)
  where
    go : Memᴰ q (longer (p ++ x ∷ []) r) ⊎ Memᴰ q ((p ++ x ∷ []) ∷ [])
        → (Memᴰ q (longer (p ++ x ∷ []) r) → Strict (p ++ x ∷ []) r q) → Strict p (x ∷ r) q
    go (inl h) ih =
        let s = ih h in
        record {
          head = x;
          mid = s.head ∷ s.mid;
          last = s.last;
          is = sym (append_assoc p (x ∷ []) (s.head ∷ s.mid)) ∙ s.is;
          on = ap (λ l. x ∷ l) s.on;
        }
    go (inr h) ih = record { head = x; mid = []; last = r; is = sym (Memᴰ.eq_of_singleton h); on = refl }

-- the longest candidate is the path itself
pub longer-first : (p : Parts) (x : Name) (r : Parts) → (rest : List Parts) × (longer p (x ∷ r) ≡ (p ++ x ∷ r) ∷ rest)
longer-first p x [] = ([], refl)
longer-first p x (y ∷ r) =
    let h = longer-first (p ++ x ∷ []) y r in
    (h.0 ++ (p ++ x ∷ []) ∷ [], rw (h.1, append_assoc p (x ∷ []) (y ∷ r)))

pub above-self : (p : Parts) → Above p p
above-self p = record { rest = []; joined = append-nil p }

pub above_root : (p : Parts) → Above [] p
above_root p = record { rest = p; joined = refl }

pub above-trans : {p q r : Parts} → Above p q → Above q r → Above p r
above-trans {p} a b = record { rest = a.rest ++ b.rest; joined = sym (append_assoc p a.rest b.rest) ∙ ap (λ l. l ++ b.rest) a.joined ∙ b.joined }

-- a hit among the candidates lies between the place and the URN
pub between : (q r p : Parts) → Memᴰ p (candidates q r) → Above q p × Above p (q ++ r)
between q r p m = go (Memᴰ.append_cases (longer q r) m)
  where
    go : Memᴰ p (longer q r) ⊎ Memᴰ p (q ∷ []) → Above q p × Above p (q ++ r)
    go (inl h) =
        let s = in-longer q r p h in (
          record { rest = s.head ∷ s.mid; joined = s.is },
          record { rest = s.last; joined = ap (λ l. l ++ s.last) (sym s.is) ∙ append_assoc q (s.head ∷ s.mid) s.last ∙ ap (λ l. q ++ l) s.on },
        )
    go (inr h) = let e = Memᴰ.eq_of_singleton h in (record { rest = []; joined = append-nil q ∙ sym e }, record { rest = r; joined = rw e })

-- a proper ancestor, by the test
pub proper-to : (p u : Parts) → proper_ancestor p u ≡ true → (x : Name) × (r : Parts) × (p ++ x ∷ r ≡ u)
proper-to p u = go (below p u) refl
  where
    go : (o : Option Parts) → below p u ≡ o → some_part o ≡ true → (x : Name) × (r : Parts) × (p ++ x ∷ r ≡ u)
    go none b e = absurd (false≢true e)
    go (some []) b e = absurd (false≢true e)
    go (some (x ∷ r)) b e = (x, r, below-to p u (x ∷ r) b)

pub proper-of : (p u : Parts) (x : Name) (r : Parts) → p ++ x ∷ r ≡ u → proper_ancestor p u ≡ true
proper-of p u x r j = rw (← j, below_self p (x ∷ r))

pub proper-above : (p u : Parts) → proper_ancestor p u ≡ true → Above p u
proper-above p u e = let k = proper-to p u e in record { rest = k.0 ∷ k.1; joined = k.2 }

-- above u and not u: a proper ancestor
pub proper-rest : (p u : Parts) → Above p u → same_parts p u ≡ false → proper_ancestor p u ≡ true
proper-rest p u a e = go a.rest a.joined
  where
    go : (r : Parts) → p ++ r ≡ u → proper_ancestor p u ≡ true
    go [] j = absurd (true≢false (sym (parts-exact.self p) ∙ ap (same_parts p) (sym (append-nil p) ∙ j) ∙ e))
    go (x ∷ r) j = proper-of p u x r j

-- a hit no deeper than d is not a path past d
pub not-past : (p d : Parts) (y : Name) (f u : Parts) → Above p d → d ++ y ∷ f ≡ u → same_parts p u ≡ false
not-past p d y f u a j = go (same_parts p u) refl
  where
    go : (b : Bool) → same_parts p u ≡ b → b ≡ false
    go false e = refl
    go true e =
        let q : p ≡ u = parts-exact.to p u e in
        absurd (omega (arith, length-append p a.rest, ap length a.joined, length-append d (y ∷ f), ap length j, ap length q))

-- q is a proper ancestor of d with one more part: it is d, or a proper ancestor of d
pub snoc-split : (q d : Parts) (x n : Name) (r : Parts) → q ++ x ∷ r ≡ d ++ n ∷ [] → (q ≡ d) ⊎ ((y : Name) × (f : Parts) × (q ++ y ∷ f ≡ d))
snoc-split [] [] x n r e = inl refl
snoc-split [] (b ∷ d) x n r e = inr (b, d, refl)
snoc-split (a ∷ q) [] x n r e =
    let k : q ++ x ∷ r ≡ [] = cc in
    absurd (omega (arith, length-append q (x ∷ r), ap length k))
snoc-split (a ∷ q) (b ∷ d) x n r e =
    let h : a ≡ b = cc in
    let t : q ++ x ∷ r ≡ d ++ n ∷ [] = cc in
    go h (snoc-split q d x n r t)
  where
    go : a ≡ b → (q ≡ d) ⊎ ((y : Name) × (f : Parts) × (q ++ y ∷ f ≡ d)) → (a ∷ q ≡ b ∷ d) ⊎ ((y : Name) × (f : Parts) × (a ∷ q ++ y ∷ f ≡ b ∷ d))
    go h (inl k) = inl (cc)
    go h (inr k) = inr (k.0, k.1, let j = k.2 in cc)

-- the last part is the last part
pub snoc-injective : (a b : Parts) (y z : Name) → a ++ y ∷ [] ≡ b ++ z ∷ [] → a ≡ b
snoc-injective [] [] y z e = refl
snoc-injective [] (v ∷ b) y z e = let k : [] ≡ b ++ z ∷ [] = cc in absurd (no_end b k)
  where
    no_end : (b : Parts) → [] ≡ b ++ z ∷ [] → ⊥
    no_end [] i = let n : ◌≡◌ {A = ℕ} 0 1 = cc in omega arith
    no_end (w ∷ b) i = let n : ◌≡◌ {A = ℕ} 0 1 = cc in omega arith
snoc-injective (v ∷ a) [] y z e = let k : a ++ y ∷ [] ≡ [] = cc in absurd (no_end a k)
  where
    no_end : (b : Parts) → b ++ y ∷ [] ≡ [] → ⊥
    no_end [] i = let n : ◌≡◌ {A = ℕ} 0 1 = cc in omega arith
    no_end (w ∷ b) i = let n : ◌≡◌ {A = ℕ} 0 1 = cc in omega arith
snoc-injective (v ∷ a) (w ∷ b) y z e =
    let h : v ≡ w = cc in
    let k : a ++ y ∷ [] ≡ b ++ z ∷ [] = cc in
    let i = snoc-injective a b y z k in
    cc

-- a path is the root, or a path with one more part
pub snoc-view : (r : Parts) → (r ≡ []) ⊎ ((e : Parts) × (x : Name) × (r ≡ e ++ x ∷ []))
snoc-view [] = inl refl
snoc-view (y ∷ r) = go (snoc-view r)
  where
    go : (r ≡ []) ⊎ ((e : Parts) × (x : Name) × (r ≡ e ++ x ∷ [])) → (y ∷ r ≡ []) ⊎ ((e : Parts) × (x : Name) × (y ∷ r ≡ e ++ x ∷ []))
    go (inl e) = inr ([], y, ap (λ l. y ∷ l) e)
    go (inr k) = inr (y ∷ k.0, k.1, ap (λ l. y ∷ l) k.2)

-- the candidates of a path with one more part
pub candidates-snoc : (q e : Parts) (x : Name) → candidates q (e ++ x ∷ []) ≡ (q ++ e ++ x ∷ []) ∷ candidates q e
candidates-snoc q e x = ap (λ l. l ++ q ∷ []) (longer-append q e (x ∷ []))

pub some-above : (p u : Parts) → some_below (below p u) ≡ true → Above p u
some-above p u = go (below p u) refl
  where
    go : (o : Option Parts) → below p u ≡ o → some_below o ≡ true → Above p u
    go none b e = absurd (false≢true e)
    go (some r) b e = record { rest = r; joined = below-to p u r b }

pub above-some : (p u : Parts) → Above p u → some_below (below p u) ≡ true
above-some p u a = rw (← a.joined, below_self p a.rest)

-- nothing but the root is above the root
pub above-none : (q : Parts) → q ≢ [] → some_below (below q []) ≡ false
above-none [] n = absurd (n refl)
above-none (x ∷ q) n = refl

-- q is above d with one more part, and is not that itself, exactly if it is above d
pub above-snoc : (q d : Parts) (x : Name) → d ++ x ∷ [] ≢ q → some_below (below q (d ++ x ∷ [])) ≡ some_below (below q d)
above-snoc q d x n =
    same_test (some_below (below q (d ++ x ∷ []))) (some_below (below q d))
    (λ e. let a = some-above q (d ++ x ∷ []) e in down a.rest a.joined)
    (λ e. let a = some-above q d e in above-some q (d ++ x ∷ []) (above-trans a (record { rest = x ∷ []; joined = refl })))
  where
    by : (q ≡ d) ⊎ ((z : Name) × (f : Parts) × (q ++ z ∷ f ≡ d)) → some_below (below q d) ≡ true
    by (inl i) = above-some q d (record { rest = []; joined = append-nil q ∙ i })
    by (inr k) = above-some q d (record { rest = k.0 ∷ k.1; joined = k.2 })

    down : (r : Parts) → q ++ r ≡ d ++ x ∷ [] → some_below (below q d) ≡ true
    down [] j = absurd (n (sym j ∙ append-nil q))
    down (y ∷ r) j = by (snoc-split q d y x r j)
