-- Laws of nodes: a table's places and their ancestors are nodes, the root is none, and no node ends in the empty name.
use Prim.Native.Nat.{ℕ, zero, suc, ◌<◌}
use mathlib.Core.Path.{◌≡◌, refl, sym, ap, ◌∙◌}
use mathlib.Core.Logic.{◌⊎◌, inl, inr, ◌≢◌}
use mathlib.Core.Bool.{Bool, true, false, and-eq-true_iff}
use mathlib.Core.Option.{some}
use mathlib.Core.List.{List, [], ◌∷◌, ◌++◌, foldl, append_assoc, Memᴰ}
use lib.Dec.{eqb}
use borrow.Author.Tests.{eqb-true, eq-eqb}
use lib.ListN.{length, get_or, get_or-eq_default, length-append}
use native.Mathlib.Omega.{arith}
use native.Mathlib.Decide.{dec_lt}
use Rattle.base_lists.proofs.Lists.{Exact, add-keeps, add-has, add-all, member-to}
use Rattle.base_lists.specs.Lists.{add_by}
use Rattle.theory_resolution.specs.Names.{Name, Parts, same_parts, Above}
use Rattle.theory_resolution.proofs.Names.{parts-exact, above-self}
use Rattle.theory_resolution.specs.Table.{Urn, urn, Table, Row, place_in, place, row_of, find, WellFormed}
use Rattle.theory_resolution.proofs.Table.{find-sound, find-row, row-place, row-length}
use Rattle.theory_resolution.specs.Nodes.{same_urn, member, past, prefixes, add_urn, add_signal, nodes, is_node, RootOrNode, NodeOf}

-- a place is the root, or the path of one of the signal's URNs
pub place-from : (sig : List Urn) (c : ℕ) → (place_in sig c ≡ []) ⊎ ((u : Urn) × Memᴰ u sig × (u.cat ≡ c) × (place_in sig c ≡ u.path))
place-from [] c = inl refl
place-from (u ∷ sig) c = go (eqb u.cat c) refl (place-from sig c)
  where
    go : (b : Bool) → eqb u.cat c ≡ b → (place_in sig c ≡ []) ⊎ ((v : Urn) × Memᴰ v sig × (v.cat ≡ c) × (place_in sig c ≡ v.path))
        → (place_in (u ∷ sig) c ≡ []) ⊎ ((v : Urn) × Memᴰ v (u ∷ sig) × (v.cat ≡ c) × (place_in (u ∷ sig) c ≡ v.path))
    go true e k = inr (u, mathlib.Core.List.Memᴰ.head refl, eqb-true u.cat c e, rw e)
    go false e (inl k) = inl (rw e k)
    go false e (inr k) = inr (k.0, mathlib.Core.List.Memᴰ.tail k.1, k.2, rw e k.3)

signal-from : (sigs : List (List Urn)) (s : ℕ) → (get_or sigs s [] ≡ []) ⊎ Memᴰ (get_or sigs s []) sigs
signal-from [] s = inl refl
signal-from (sig ∷ sigs) zero = inr (mathlib.Core.List.Memᴰ.head refl)
signal-from (sig ∷ sigs) (suc s) = go (signal-from sigs s)
  where
    go : (get_or sigs s [] ≡ []) ⊎ Memᴰ (get_or sigs s []) sigs → (get_or sigs s [] ≡ []) ⊎ Memᴰ (get_or sigs s []) (sig ∷ sigs)
    go (inl e) = inl e
    go (inr m) = inr (mathlib.Core.List.Memᴰ.tail m)

pub urn-exact : Exact same_urn
urn-exact = record { to = to; self = λ u. rw (eq-eqb u.cat u.cat refl) (parts-exact.self u.path) }
  where
    to : (u v : Urn) → same_urn u v ≡ true → u ≡ v
    to u v e =
        let k = (and-eq-true_iff (eqb u.cat v.cat) (same_parts u.path v.path)).0 e in
        let p = eqb-true u.cat v.cat k.0 in
        let q = parts-exact.to u.path v.path k.1 in
        λ i. record { cat = p i; path = q i }

-- a fold that only adds keeps a member, and has what one of its elements adds
module _ {A : Type 0} (x : Urn) (f : List Urn → A → List Urn) (keeps : (seen : List Urn) (a : A) → member x seen ≡ true → member x (f seen a) ≡ true) where
  fold-keeps : (seen : List Urn) (as' : List A) → member x seen ≡ true → member x (foldl f seen as') ≡ true
  fold-keeps seen [] h = h
  fold-keeps seen (a ∷ as') h = fold-keeps (f seen a) as' (keeps seen a h)

  fold-has : (a : A) → ((seen : List Urn) → member x (f seen a) ≡ true) → (seen : List Urn) (as' : List A) → Memᴰ a as'
      → member x (foldl f seen as') ≡ true
  fold-has a has seen [] m = absurd (mathlib.Core.List.Memᴰ.not-nil m)
  fold-has a has seen (b ∷ as') m = go (mathlib.Core.List.Memᴰ.cases_cons m) (λ k. fold-has a has (f seen b) as' k)
    where
      go : (a ≡ b) ⊎ Memᴰ a as' → (Memᴰ a as' → member x (foldl f (f seen b) as') ≡ true) → member x (foldl f (f seen b) as') ≡ true
      go (inl e) ih = fold-keeps (f seen b) as' (rw (← e) (has seen))
      go (inr k) ih = ih k

urn-keeps : (x : Urn) (seen : List Urn) (u : Urn) → member x seen ≡ true → member x (add_urn seen u) ≡ true
urn-keeps x seen u h = fold-keeps x (λ s p. add_by same_urn s (urn u.cat p)) (λ s p. add-keeps same_urn urn-exact x s (urn u.cat p))
    seen (prefixes u.path) h

signal-keeps : (x : Urn) (seen sig : List Urn) → member x seen ≡ true → member x (add_signal seen sig) ≡ true
signal-keeps x seen sig h = fold-keeps x add_urn (urn-keeps x) seen sig h

-- every prefix of a signal's path is a node
pub prefix-node : (t : Table) (sig : List Urn) (u : Urn) (p : Parts) → Memᴰ sig t.signals → Memᴰ u sig → Memᴰ p (prefixes u.path)
    → is_node (nodes t) u.cat p ≡ true
unfolding nodes
prefix-node t sig u p ms mu mp =
    fold-has (urn u.cat p) add_signal (signal-keeps (urn u.cat p)) sig
    (λ seen. fold-has (urn u.cat p) add_urn (urn-keeps (urn u.cat p)) u
    (λ seen'. fold-has (urn u.cat p) (λ s q. add_by same_urn s (urn u.cat q)) (λ s q. add-keeps same_urn urn-exact (urn u.cat p) s
    (urn u.cat q)) p (λ s. add-has same_urn urn-exact s (urn u.cat p)) seen' (prefixes u.path) mp)
    seen sig mu)
    [] t.signals ms

-- a place is the root, or the path of a URN of a signal of the table
place-of : (t : Table) (r : Row) (s c : ℕ) → find t r ≡ some s
    → (get_or r c [] ≡ []) ⊎ ((sig : List Urn) × (u : Urn) × Memᴰ sig t.signals × Memᴰ u sig × (u.cat ≡ c) × (get_or r c [] ≡ u.path))
place-of t r s c f = go (dec_lt c t.cats)
  where
    e : row_of t s ≡ r
    e = find-sound t r s f

    inside : get_or r c [] ≡ place t s c → (get_or t.signals s [] ≡ []) ⊎ Memᴰ (get_or t.signals s []) t.signals
        → (place t s c ≡ []) ⊎ ((u : Urn) × Memᴰ u (get_or t.signals s []) × (u.cat ≡ c) × (place t s c ≡ u.path))
        → (get_or r c [] ≡ []) ⊎ ((sig : List Urn) × (u : Urn) × Memᴰ sig t.signals × Memᴰ u sig × (u.cat ≡ c) × (get_or r c [] ≡ u.path))
    inside g (inl x) k = inl (g ∙ ap (λ l. place_in l c) x)
    inside g (inr x) (inl k) = inl (g ∙ k)
    inside g (inr x) (inr k) = inr (get_or t.signals s [], k.0, x, k.1, k.2, g ∙ k.3)

    go : Dec (c < t.cats) → (get_or r c [] ≡ []) ⊎ ((sig : List Urn) × (u : Urn) × Memᴰ sig t.signals × Memᴰ u sig
        × (u.cat ≡ c) × (get_or r c [] ≡ u.path))
    go (yes h) = inside (ap (λ l. get_or l c []) (sym e) ∙ row-place t s c h) (signal-from t.signals s) (place-from (get_or t.signals s []) c)
    go (no h) = inl (rw (← e) (get_or-eq_default (row_of t s) [] (omega (arith, row-length (get_or t.signals s []) 0 t.cats))))

-- what a fold keeps at each of its elements it keeps
fold-all : {A : Type 0} (P : List Urn → Type 0) (f : List Urn → A → List Urn) (seen : List Urn) (l : List A)
    → ((s : List Urn) (a : A) → Memᴰ a l → P s → P (f s a)) → P seen → P (foldl f seen l)
fold-all P f seen [] h p = p
fold-all P f seen (a ∷ l) h p = fold-all P f (f seen a) l (λ s b m. h s b (mathlib.Core.List.Memᴰ.tail m)) (h seen a (mathlib.Core.List.Memᴰ.head refl) p)

past-some : (q r p : Parts) → Memᴰ p (past q r) → p ≢ []
past-some q [] p m = absurd (mathlib.Core.List.Memᴰ.not-nil m)
past-some q (x ∷ r) p m = go (mathlib.Core.List.Memᴰ.cases_cons m) (λ k. past-some (q ++ x ∷ []) r p k)
  where
    go : (p ≡ q ++ x ∷ []) ⊎ Memᴰ p (past (q ++ x ∷ []) r) → (Memᴰ p (past (q ++ x ∷ []) r) → p ≢ []) → p ≢ []
    go (inl e) ih = λ z. omega (arith, length-append q (x ∷ []), ap length e, ap length z)
    go (inr k) ih = ih k

-- the paths on the way from q to q ++ r
past-above : (q r p : Parts) → Memᴰ p (past q r) → Above p (q ++ r)
past-above q [] p m = absurd (mathlib.Core.List.Memᴰ.not-nil m)
past-above q (x ∷ r) p m = go (mathlib.Core.List.Memᴰ.cases_cons m) (λ k. past-above (q ++ x ∷ []) r p k)
  where
    go : (p ≡ q ++ x ∷ []) ⊎ Memᴰ p (past (q ++ x ∷ []) r) → (Memᴰ p (past (q ++ x ∷ []) r) → Above p (q ++ x ∷ [] ++ r)) → Above p (q ++ x ∷ r)
    go (inl e) ih = record { rest = r; joined = ap (λ z. z ++ r) e ∙ append_assoc q (x ∷ []) r }
    go (inr k) ih = let a = ih k in record { rest = a.rest; joined = a.joined ∙ append_assoc q (x ∷ []) r }

above-past : (q e : Parts) (x : Name) (r : Parts) → Memᴰ (q ++ x ∷ e) (past q (x ∷ e ++ r))
above-past q [] x r = mathlib.Core.List.Memᴰ.head refl
above-past q (y ∷ e) x r = mathlib.Core.List.Memᴰ.tail (mathlib.Core.List.Memᴰ.cast (sym (append_assoc q (x ∷ []) (y ∷ e))) (above-past (q ++ x ∷ []) e y r))

abbrev pub AllNodes : Table → List Urn → Type 0
AllNodes t l = (u : Urn) → Memᴰ u l → NodeOf t u.cat u.path

-- a node is what the definition says: a path with a part that is some signal's URN or above it
pub nodes-all : (t : Table) → AllNodes t (nodes t)
unfolding nodes
nodes-all t =
    fold-all (AllNodes t) add_signal [] t.signals
    (λ s sig ms. fold-all (AllNodes t) add_urn s sig
    (λ s u mu. fold-all (AllNodes t) (λ s p. add_by same_urn s (urn u.cat p)) s (prefixes u.path)
    (λ s p mp h. add-all same_urn urn-exact (λ v. NodeOf t v.cat v.path) s (urn u.cat p) h
    (record { some-part = past-some [] u.path p mp; signal = sig; by = u; listed = ms; named = mu; cat = refl; above = past-above [] u.path p mp }))))
    (λ u m. absurd (mathlib.Core.List.Memᴰ.not-nil m))

pub node-to : (t : Table) (c : ℕ) (p : Parts) → is_node (nodes t) c p ≡ true → NodeOf t c p
node-to t c p h = nodes-all t (urn c p) (member-to same_urn urn-exact (urn c p) (nodes t) h)

pub node_of : (t : Table) (c : ℕ) (p : Parts) → NodeOf t c p → is_node (nodes t) c p ≡ true
node_of t c p n = rw (← n.cat) (prefix-node t n.signal n.by p n.listed n.named (on p n.some-part n.above))
  where
    on : (p : Parts) → p ≢ [] → Above p n.by.path → Memᴰ p (prefixes n.by.path)
    on [] s a = absurd (s refl)
    on (x ∷ p) s a = rw (← a.joined) (above-past [] p x a.rest)

-- the root is no node
pub root-free : (t : Table) (c : ℕ) → is_node (nodes t) c [] ≡ false
root-free t c = go (is_node (nodes t) c []) refl
  where
    go : (b : Bool) → is_node (nodes t) c [] ≡ b → b ≡ false
    go false e = refl
    go true e = absurd ((node-to t c [] e).some-part refl)

-- a signal's URN with a part is a node
pub urn-node : (t : Table) (sig : List Urn) (u : Urn) → Memᴰ sig t.signals → Memᴰ u sig → u.path ≢ [] → is_node (nodes t) u.cat u.path ≡ true
urn-node t sig u ms mu n =
    node_of t u.cat u.path
    (record { some-part = n; signal = sig; by = u; listed = ms; named = mu; cat = refl; above = above-self u.path })

-- a place is the root or a node
pub noded : (t : Table) (r : Row) (s c : ℕ) → find t r ≡ some s → RootOrNode (nodes t) c (get_or r c [])
noded t r s c f = go (place-of t r s c f)
  where
    at : (p : Parts) (sig : List Urn) (u : Urn) → Memᴰ sig t.signals → Memᴰ u sig → u.cat ≡ c → p ≡ u.path → RootOrNode (nodes t) c p
    at [] sig u ms mu e j = inl refl
    at (x ∷ p) sig u ms mu e j = inr (rw (← e, j) (urn-node t sig u ms mu (λ z. omega (arith, ap length j, ap length z))))

    go : (get_or r c [] ≡ []) ⊎ ((sig : List Urn) × (u : Urn) × Memᴰ sig t.signals × Memᴰ u sig × (u.cat ≡ c) × (get_or r c [] ≡ u.path))
        → RootOrNode (nodes t) c (get_or r c [])
    go (inl e) = inl e
    go (inr k) = at (get_or r c []) k.0 k.1 k.2 k.3 k.4 k.5

-- every place of a signal of the table is the root or a node
pub row-nodes : (t : Table) (s : ℕ) → s < length t.signals → (c : ℕ) → RootOrNode (nodes t) c (get_or (row_of t s) c [])
row-nodes t s h c = let w = find-row t.cats 0 t.signals s h in noded t (row_of t s) w.0 c w.1

-- no node ends in the empty name
pub fresh-node : (t : Table) → WellFormed t → (c : ℕ) (d : Parts) → is_node (nodes t) c (d ++ [] ∷ []) ≡ false
fresh-node t wf c d = go (is_node (nodes t) c (d ++ [] ∷ [])) refl
  where
    go : (b : Bool) → is_node (nodes t) c (d ++ [] ∷ []) ≡ b → b ≡ false
    go false e = refl
    go true e =
        let n = node-to t c (d ++ [] ∷ []) e in
        let k : Memᴰ [] (d ++ [] ∷ []) = mathlib.Core.List.Memᴰ.append_right d (mathlib.Core.List.Memᴰ.head refl) in
        let m : Memᴰ [] n.by.path = rw n.above.joined at (mathlib.Core.List.Memᴰ.append_left n.above.rest k) in
        absurd (wf.named n.signal n.listed n.by n.named [] m refl)
