-- Laws of symbols: a URN's symbol is one of the table's, and folding symbols gives direct resolution's signals.
use Prim.Native.Nat.{ℕ, zero, suc, ◌+◌, ◌≤◌, ◌<◌}
use mathlib.Core.Path.{◌≡◌, refl, sym, ap, ◌∙◌}
use mathlib.Core.Logic.{◌⊎◌, inl, inr, ◌≢◌}
use mathlib.Core.Bool.{Bool, true, false, cond, ◌&&◌, false≢true, and-eq-true_iff}
use mathlib.Core.List.Memᴰ
use mathlib.Core.List.{List, [], ◌∷◌, ◌++◌, Memᴰ}
use lib.Dec.{eqb}
use borrow.Author.Tests.{eqb-true, eqb-false, eq-eqb}
use lib.ListN.{length}
use native.Mathlib.Omega.{arith}
use Rattle.base_lists.proofs.Lists.{Exact, member_of, index-member}
use Rattle.theory_resolution.specs.Names.{Parts, same_parts}
use Rattle.theory_resolution.specs.Table.{Urn, urn, Table, WellFormed}
use Rattle.theory_resolution.specs.Direct.{start, env_of, direct, Used}
use Rattle.theory_resolution.specs.Nodes.{same_urn, member, is_node, RootOrNode, leaf, deepest, nodes}
use Rattle.theory_resolution.specs.Symbols.{Symbol, node, other, is_other, symbol_of, own_symbols, node_symbols, symbols_from, symbols, by_symbols}
use Rattle.theory_resolution.specs.Symbols.{symbol_at, same_bool, same_symbol, symbol_index}
use Rattle.theory_resolution.proofs.Names.{parts-exact}
use Rattle.theory_resolution.proofs.Nodes.{urn-exact}
use Rattle.theory_resolution.proofs.Deepest.{deepest-node}
use Rattle.theory_resolution.proofs.TableStep.{table-laws, valid-start}
use Rattle.theory_resolution.proofs.Alike.{alike-run}

bool-to : (a b : Bool) → same_bool a b ≡ true → a ≡ b
bool-to true true e = refl
bool-to true false e = sym e
bool-to false true e = e
bool-to false false e = refl

bool-self : (a : Bool) → same_bool a a ≡ true
bool-self true = refl
bool-self false = refl

symbol-to : (a b : Symbol) → same_symbol a b ≡ true → a ≡ b
symbol-to a b e =
    let h = (and-eq-true_iff (eqb a.cat b.cat) (same_parts a.path b.path && same_bool a.other b.other)).0 e in
    let k = (and-eq-true_iff (same_parts a.path b.path) (same_bool a.other b.other)).0 h.1 in
    let p = eqb-true a.cat b.cat h.0 in
    let q = parts-exact.to a.path b.path k.0 in
    let r = bool-to a.other b.other k.1 in
    λ i. record { cat = p i; path = q i; other = r i }

symbol-self : (a : Symbol) → same_symbol a a ≡ true
symbol-self a = rw (eq-eqb a.cat a.cat refl, parts-exact.self a.path) (bool-self a.other)

pub symbol-exact : Exact same_symbol
symbol-exact = record { to = symbol-to; self = symbol-self }

-- a node's symbols stand in its category's list
module _ (ns : List Urn) (c : ℕ) (p : Parts) where
  pub node-listed : (ms : List Urn) → member (urn c p) ms ≡ true → Memᴰ (node c p) (node_symbols ns c ms)
  node-listed [] h = absurd (false≢true h)
  node-listed (n ∷ ms) h = go (same_urn (urn c p) n) refl (λ k. node-listed ms k)
    where
      go : (b : Bool) → same_urn (urn c p) n ≡ b → (member (urn c p) ms ≡ true → Memᴰ (node c p) (node_symbols ns c ms))
          → Memᴰ (node c p) (node_symbols ns c (n ∷ ms))
      go true e ih =
          let k = (and-eq-true_iff (eqb c n.cat) (same_parts p n.path)).0 e in
          rw (← eqb-true c n.cat k.0, eq-eqb c c refl, ← parts-exact.to p n.path k.1) (Memᴰ.head refl)
      go false e ih = Memᴰ.append_right (cond (eqb n.cat c) (own_symbols ns c n.path) []) (ih (rw e at h))

  pub other-listed : leaf ns c p ≡ false → (ms : List Urn) → member (urn c p) ms ≡ true → Memᴰ (other c p) (node_symbols ns c ms)
  other-listed l [] h = absurd (false≢true h)
  other-listed l (n ∷ ms) h = go (same_urn (urn c p) n) refl (λ k. other-listed l ms k)
    where
      go : (b : Bool) → same_urn (urn c p) n ≡ b → (member (urn c p) ms ≡ true → Memᴰ (other c p) (node_symbols ns c ms))
          → Memᴰ (other c p) (node_symbols ns c (n ∷ ms))
      go true e ih =
          let k = (and-eq-true_iff (eqb c n.cat) (same_parts p n.path)).0 e in
          rw (← eqb-true c n.cat k.0, eq-eqb c c refl, ← parts-exact.to p n.path k.1, l) (Memᴰ.tail (Memᴰ.head refl))
      go false e ih = Memᴰ.append_right (cond (eqb n.cat c) (own_symbols ns c n.path) []) (ih (rw e at h))

-- a symbol of category c stands among those of the k categories from b on
pub listed : (ns : List Urn) (s : Symbol) (c b k : ℕ) → b ≤ c → c < b + k → Memᴰ s (node_symbols ns c ns) ⊎ (s ≡ other c [])
    → Memᴰ s (symbols_from ns b k)
listed ns s c b zero lo hi m = absurd (omega arith)
listed ns s c b (suc k) lo hi m = go (eqb b c) refl m (λ l h. listed ns s c (suc b) k l h m)
  where
    here : b ≡ c → Memᴰ s (node_symbols ns c ns) ⊎ (s ≡ other c []) → Memᴰ s (node_symbols ns b ns ++ other b [] ∷ symbols_from ns (suc b) k)
    here e (inl x) = Memᴰ.append_left {s = node_symbols ns b ns} (other b [] ∷ symbols_from ns (suc b) k) (rw e x)
    here e (inr x) = Memᴰ.append_right (node_symbols ns b ns) (Memᴰ.head (x ∙ ap (λ i. other i []) (sym e)))

    go : (t : Bool) → eqb b c ≡ t → Memᴰ s (node_symbols ns c ns) ⊎ (s ≡ other c []) → (suc b ≤ c → c < suc b + k → Memᴰ s (symbols_from ns (suc b) k))
        → Memᴰ s (node_symbols ns b ns ++ other b [] ∷ symbols_from ns (suc b) k)
    go true e x ih = here (eqb-true b c e) x
    go false e x ih =
        let n = eqb-false b c e in
        Memᴰ.append_right (node_symbols ns b ns) (Memᴰ.tail (ih (omega arith) (omega arith)))

which : (ns : List Urn) (c : ℕ) (p d : Parts) → p ≢ [] → (d ≡ []) ⊎ (is_node ns c d ≡ true)
    → Memᴰ (record { cat = c; path = d; other = is_other ns c p d }) (node_symbols ns c ns)
    ⊎ (record { cat = c; path = d; other = is_other ns c p d } ≡ other c [])
unfolding leaf
which ns c p d some-part r = go (same_parts d p) refl (leaf ns c d) refl r
  where
    go : (b : Bool) → same_parts d p ≡ b → (l : Bool) → leaf ns c d ≡ l → (d ≡ []) ⊎ (is_node ns c d ≡ true)
        → Memᴰ (record { cat = c; path = d; other = is_other ns c p d }) (node_symbols ns c ns)
        ⊎ (record { cat = c; path = d; other = is_other ns c p d } ≡ other c [])
    go true e l k (inl z) = absurd (some-part (sym (parts-exact.to d p e) ∙ z))
    go true e l k (inr n) = inl (rw e (node-listed ns c d ns n))
    go false e true k (inl z) = let w : false ≡ true = rw z at k in absurd (false≢true w)
    go false e true k (inr n) = inl (rw (e, k) (node-listed ns c d ns n))
    go false e false k (inl z) = inr (rw (e, k, z))
    go false e false k (inr n) = inl (rw (e, k) (other-listed ns c d k ns n))

-- a used URN's symbol is one of the table's
pub symbol-listed : (t : Table) (u : Urn) → Used t u → Memᴰ (symbol_of (nodes t) u) (symbols t)
symbol-listed t u used =
    listed (nodes t) (symbol_of (nodes t) u) u.cat 0 t.cats (omega arith) (omega (arith, used.known))
    (which (nodes t) u.cat u.path (deepest (nodes t) u.cat u.path) used.some-part (deepest-node (nodes t) u.cat u.path))

-- each of the table's symbols has a category of the table, and is a node or the root of it
node-symbols-known : (ns : List Urn) (c : ℕ) (ms : List Urn) → ((n : Urn) → Memᴰ n ms → Memᴰ n ns) → (s : Symbol) → Memᴰ s (node_symbols ns c ms)
    → (s.cat ≡ c) × RootOrNode ns c s.path
node-symbols-known ns c [] sub s m = absurd (Memᴰ.not-nil m)
node-symbols-known ns c (n ∷ ms) sub s m =
    go (eqb n.cat c) refl (leaf ns c n.path) (Memᴰ.append_cases (cond (eqb n.cat c) (own_symbols ns c n.path) []) m)
    (λ k. node-symbols-known ns c ms (λ x i. sub x (Memᴰ.tail i)) s k)
  where
    is-node : n.cat ≡ c → is_node ns c n.path ≡ true
    is-node e =
        let i : n ≡ urn c n.path = λ k. record { cat = e k; path = n.path } in
        ap (λ u. member u ns) (sym i) ∙ member_of same_urn urn-exact n ns (sub n (Memᴰ.head refl))

    one : n.cat ≡ c → (o : Bool) → s ≡ record { cat = c; path = n.path; other = o } → (s.cat ≡ c) × RootOrNode ns c s.path
    one e o i = (ap (λ x. x.cat) i, inr (ap (λ x. is_node ns c x.path) i ∙ is-node e))

    pair : n.cat ≡ c → (l : Bool) → Memᴰ s (node c n.path ∷ cond l [] (other c n.path ∷ [])) → (s.cat ≡ c) × RootOrNode ns c s.path
    pair e l k = first (Memᴰ.cases_cons k)
      where
        second : (l : Bool) → Memᴰ s (cond l [] (other c n.path ∷ [])) → (s.cat ≡ c) × RootOrNode ns c s.path
        second true j = absurd (Memᴰ.not-nil j)
        second false j = one e true (Memᴰ.eq_of_singleton j)

        first : (s ≡ node c n.path) ⊎ Memᴰ s (cond l [] (other c n.path ∷ [])) → (s.cat ≡ c) × RootOrNode ns c s.path
        first (inl i) = one e false i
        first (inr j) = second l j

    go : (b : Bool) → eqb n.cat c ≡ b → (l : Bool)
        → Memᴰ s (cond b (node c n.path ∷ cond l [] (other c n.path ∷ [])) []) ⊎ Memᴰ s (node_symbols ns c ms)
        → (Memᴰ s (node_symbols ns c ms) → (s.cat ≡ c) × RootOrNode ns c s.path) → (s.cat ≡ c) × RootOrNode ns c s.path
    go b e l (inr k) ih = ih k
    go true e l (inl k) ih = pair (eqb-true n.cat c e) l k
    go false e l (inl k) ih = absurd (Memᴰ.not-nil k)

symbols-from-known : (ns : List Urn) (c k : ℕ) (s : Symbol) → Memᴰ s (symbols_from ns c k) → (s.cat < c + k) × RootOrNode ns s.cat s.path
symbols-from-known ns c zero s m = absurd (Memᴰ.not-nil m)
symbols-from-known ns c (suc k) s m = go (Memᴰ.append_cases (node_symbols ns c ns) m) (λ i. symbols-from-known ns (suc c) k s i)
  where
    rest : (s ≡ other c []) ⊎ Memᴰ s (symbols_from ns (suc c) k) → (Memᴰ s (symbols_from ns (suc c) k) → (s.cat < suc c + k)
        × RootOrNode ns s.cat s.path)
        → (s.cat < c + suc k) × RootOrNode ns s.cat s.path
    rest (inl e) ih = (omega (arith, ap (λ x. x.cat) e), inl (ap (λ x. x.path) e))
    rest (inr i) ih = let w = ih i in (omega (arith, w.0), w.1)

    go : Memᴰ s (node_symbols ns c ns) ⊎ Memᴰ s (other c [] ∷ symbols_from ns (suc c) k)
        → (Memᴰ s (symbols_from ns (suc c) k) → (s.cat < suc c + k) × RootOrNode ns s.cat s.path) → (s.cat < c + suc k)
        × RootOrNode ns s.cat s.path
    go (inl i) ih = let w = node-symbols-known ns c ns (λ n j. j) s i in (omega (arith, w.0), rw w.0 w.1)
    go (inr i) ih = rest (Memᴰ.cases_cons i) ih

pub symbol-known : (t : Table) (s : Symbol) → Memᴰ s (symbols t) → (s.cat < t.cats) × RootOrNode (nodes t) s.cat s.path
symbol-known t s m = let w = symbols-from-known (nodes t) 0 t.cats s m in (omega (arith, w.0), w.1)

-- a used URN's symbol stands at its number
pub symbol-at-index : (t : Table) (u : Urn) → Used t u
    → (symbol_index (symbol_of (nodes t) u) (symbols t) < length (symbols t)) × (symbol_at t (symbol_index (symbol_of (nodes t) u) (symbols t))
    ≡ symbol_of (nodes t) u)
symbol-at-index t u used =
    index-member same_symbol symbol-exact (other 0 []) (symbol_of (nodes t) u) (symbols t)
    (member_of same_symbol symbol-exact (symbol_of (nodes t) u) (symbols t) (symbol-listed t u used))

module _ (t : Table) (wf : WellFormed t) where
  -- by URNs and by symbols: the same signal after every list
  pub same-signals : (us : List Urn) → ((u : Urn) → Memᴰ u us → u.cat < t.cats) → (direct t us).signal ≡ (by_symbols t us).signal
  same-signals us known =
      (alike-run (env_of t) t.cats (nodes t) (table-laws t wf) (start t.cats) (start t.cats) us known (valid-start t wf) (valid-start t wf)
      (record { same = refl; each = λ c h. inl refl })).same
