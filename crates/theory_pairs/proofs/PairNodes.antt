-- Laws of the nodes of the table of all pairs: each category has the nodes that it has in its own table.
use Prim.Native.Nat.{ℕ, ◌+◌, ◌<◌}
use mathlib.Core.Path.{◌≡◌, refl, sym, ap, ap₂, ◌∙◌}
use mathlib.Core.Logic.{◌⊎◌, inl, inr, ◌≢◌}
use mathlib.Core.Bool.{true, ◌&&◌}
use mathlib.Core.List.Memᴰ
use mathlib.Core.List.{List, [], ◌∷◌, ◌++◌, map, Memᴰ}
use lib.ListN.{length, get_or}
use native.Mathlib.Omega.{arith}
use Rattle.base_lists.proofs.Lists.{mem-at}
use Rattle.base_lists.proofs.Bools.{same_test}
use Rattle.theory_resolution.specs.Names.{Name, Parts}
use Rattle.theory_resolution.specs.Nodes.{nodes, is_node, has_under, is_inner, NodeOf}
use Rattle.theory_resolution.proofs.Nodes.{node-to, node_of}
use Rattle.theory_resolution.proofs.Deepest.{under_of, under_to}
use Rattle.theory_resolution.specs.Table.{Urn, Table, WellFormed}
use Rattle.theory_pairs.specs.Pairs.{Known, shifted, pair_signal, pair_signals, pairs}

-- a signal of the table of pairs is the pair of a ring signal and a lamp signal, and back
pair-from : (n : ℕ) (rs ls : List (List Urn)) (sig : List Urn) → Memᴰ sig (pair_signals n rs ls)
    → (r : List Urn) × (l : List Urn) × Memᴰ r rs × Memᴰ l ls × (pair_signal n r l ≡ sig)
pair-from n [] ls sig m = absurd (Memᴰ.not-nil m)
pair-from n (r ∷ rs) ls sig m = go (Memᴰ.append_cases (map (pair_signal n r) ls) m) (pair-from n rs ls sig)
  where
    go : Memᴰ sig (map (pair_signal n r) ls) ⊎ Memᴰ sig (pair_signals n rs ls)
        → (Memᴰ sig (pair_signals n rs ls) → (x : List Urn) × (l : List Urn) × Memᴰ x rs × Memᴰ l ls × (pair_signal n x l ≡ sig))
        → (x : List Urn) × (l : List Urn) × Memᴰ x (r ∷ rs) × Memᴰ l ls × (pair_signal n x l ≡ sig)
    go (inl k) ih = let w = Memᴰ.of_map (pair_signal n r) ls k in (r, w.0, Memᴰ.head refl, w.1, w.2)
    go (inr k) ih = let w = ih k in (w.0, w.1, Memᴰ.tail w.2, w.3, w.4)

pair_of : (n : ℕ) (rs ls : List (List Urn)) (r l : List Urn) → Memᴰ r rs → Memᴰ l ls → Memᴰ (pair_signal n r l) (pair_signals n rs ls)
pair_of n [] ls r l mr ml = absurd (Memᴰ.not-nil mr)
pair_of n (x ∷ rs) ls r l mr ml = go (Memᴰ.cases_cons mr) (λ k. pair_of n rs ls r l k ml)
  where
    go : (r ≡ x) ⊎ Memᴰ r rs → (Memᴰ r rs → Memᴰ (pair_signal n r l) (pair_signals n rs ls))
        → Memᴰ (pair_signal n r l) (pair_signals n (x ∷ rs) ls)
    go (inl e) ih = Memᴰ.append_left (pair_signals n rs ls) (Memᴰ.cast (ap (λ z. pair_signal n z l) e) (Memᴰ.map (pair_signal n x) ml))
    go (inr k) ih = Memᴰ.append_right (map (pair_signal n x) ls) (ih k)

-- a URN of a pair is the ring signal's, or the lamp signal's in its own category
urn-from : (n : ℕ) (r l : List Urn) (u : Urn) → Memᴰ u (pair_signal n r l) → Memᴰ u r ⊎ ((v : Urn) × Memᴰ v l × (shifted n v ≡ u))
urn-from n r l u m = go (Memᴰ.append_cases r m)
  where
    go : Memᴰ u r ⊎ Memᴰ u (map (shifted n) l) → Memᴰ u r ⊎ ((v : Urn) × Memᴰ v l × (shifted n v ≡ u))
    go (inl k) = inl k
    go (inr k) = inr (Memᴰ.of_map (shifted n) l k)

-- categories with the same nodes have the same nodes with nodes under them
pub inner-same : (ns ms : List Urn) (c d : ℕ) → ((p : Parts) → is_node ns c p ≡ is_node ms d p) → (p : Parts) → is_inner ns c p ≡ is_inner ms d p
inner-same ns ms c d e p = ap₂ ◌&&◌ (e p) (same_test (has_under ns c p) (has_under ms d p) (over ns ms c d e) (over ms ns d c (λ q. sym (e q))))
  where
    over : (ns ms : List Urn) (c d : ℕ) → ((p : Parts) → is_node ns c p ≡ is_node ms d p) → has_under ns c p ≡ true → has_under ms d p ≡ true
    over ns ms c d e h = let w = under_to ns c ns p h in under_of ms d ms p w.0 w.1 (sym (e (p ++ w.0 ∷ w.1)) ∙ w.2)

module _ (ring lamp : Table) (known : Known ring) (wr : WellFormed ring) (wl : WellFormed lamp) where
  abbrev n : ℕ
  n = ring.cats

  -- each table has a signal
  ring-signal : Memᴰ (get_or ring.signals 0 []) ring.signals
  ring-signal = mem-at ring.signals 0 [] wr.some-signal

  lamp-signal : Memᴰ (get_or lamp.signals 0 []) lamp.signals
  lamp-signal = mem-at lamp.signals 0 [] wl.some-signal

  -- the nodes of the ring's categories are the ring table's
  pub ring-node : (c : ℕ) → c < n → (p : Parts) → is_node (nodes (pairs ring lamp)) c p ≡ is_node (nodes ring) c p
  ring-node c h p =
      same_test (is_node (nodes (pairs ring lamp)) c p) (is_node (nodes ring) c p)
      (λ e. node_of ring c p (down (node-to (pairs ring lamp) c p e)))
      (λ e. node_of (pairs ring lamp) c p (up (node-to ring c p e)))
    where
      down : NodeOf (pairs ring lamp) c p → NodeOf ring c p
      down k =
          let w = pair-from n ring.signals lamp.signals k.signal k.listed in
          go w.0 w.1 w.2 (urn-from n w.0 w.1 k.by (rw w.4 k.named))
        where
          go : (r l : List Urn) → Memᴰ r ring.signals → Memᴰ k.by r ⊎ ((v : Urn) × Memᴰ v l × (shifted n v ≡ k.by)) → NodeOf ring c p
          go r l m (inl i) = record { some-part = k.some-part; signal = r; by = k.by; listed = m; named = i; cat = k.cat; above = k.above }
          go r l m (inr v) = let e : n + v.0.cat ≡ k.by.cat = ap (λ u. u.cat) v.2 in absurd (omega (arith, k.cat))

      up : NodeOf ring c p → NodeOf (pairs ring lamp) c p
      up k =
          record {
            some-part = k.some-part;
            signal = pair_signal n k.signal (get_or lamp.signals 0 []);
            by = k.by;
            listed = pair_of n ring.signals lamp.signals k.signal (get_or lamp.signals 0 []) k.listed lamp-signal;
            named = Memᴰ.append_left (map (shifted n) (get_or lamp.signals 0 [])) k.named;
            cat = k.cat;
            above = k.above;
          }

  -- and those of the lamp's categories the lamp table's
  pub lamp-node : (c : ℕ) (p : Parts) → is_node (nodes (pairs ring lamp)) (n + c) p ≡ is_node (nodes lamp) c p
  lamp-node c p =
      same_test (is_node (nodes (pairs ring lamp)) (n + c) p) (is_node (nodes lamp) c p)
      (λ e. node_of lamp c p (down (node-to (pairs ring lamp) (n + c) p e)))
      (λ e. node_of (pairs ring lamp) (n + c) p (up (node-to lamp c p e)))
    where
      down : NodeOf (pairs ring lamp) (n + c) p → NodeOf lamp c p
      down k =
          let w = pair-from n ring.signals lamp.signals k.signal k.listed in
          go w.0 w.1 w.2 w.3 (urn-from n w.0 w.1 k.by (rw w.4 k.named))
        where
          go : (r l : List Urn) → Memᴰ r ring.signals → Memᴰ l lamp.signals → Memᴰ k.by r
              ⊎ ((v : Urn) × Memᴰ v l × (shifted n v ≡ k.by)) → NodeOf lamp c p
          go r l mr ml (inl i) = let b = known r mr k.by i in absurd (omega (arith, b, k.cat))
          go r l mr ml (inr v) =
              let e : n + v.0.cat ≡ k.by.cat = ap (λ u. u.cat) v.2 in
              let j : v.0.path ≡ k.by.path = ap (λ u. u.path) v.2 in
              record { some-part = k.some-part; signal = l; by = v.0; listed = ml; named = v.1; cat = omega (arith, k.cat); above = rw j k.above }

      up : NodeOf lamp c p → NodeOf (pairs ring lamp) (n + c) p
      up k =
          record {
            some-part = k.some-part;
            signal = pair_signal n (get_or ring.signals 0 []) k.signal;
            by = shifted n k.by;
            listed = pair_of n ring.signals lamp.signals (get_or ring.signals 0 []) k.signal ring-signal k.listed;
            named = Memᴰ.append_right (get_or ring.signals 0 []) (Memᴰ.map (shifted n) k.named);
            cat = ap (λ z. n + z) k.cat;
            above = k.above;
          }

  -- the table of pairs is well-formed
  pub pairs-formed : WellFormed (pairs ring lamp)
  pairs-formed =
      record {
        some-signal = go ring.signals lamp.signals wr.some-signal wl.some-signal;
        silent = quiet ring.signals lamp.signals wr.some-signal wl.some-signal wr.silent wl.silent;
        named = λ sig ms u mu x mx.
            let k = pair-from n ring.signals lamp.signals sig ms in
            named k.0 k.1 k.2 k.3 u x mx (urn-from n k.0 k.1 u (rw k.4 mu));
      }
    where
      go : (rs ls : List (List Urn)) → 0 < length rs → 0 < length ls → 0 < length (pair_signals n rs ls)
      go [] ls a b = absurd (omega arith)
      go (r ∷ rs) [] a b = absurd (omega arith)
      go (r ∷ rs) (l ∷ ls) a b = omega arith

      quiet : (rs ls : List (List Urn)) → 0 < length rs → 0 < length ls → get_or rs 0 [] ≡ [] → get_or ls 0 [] ≡ [] → get_or (pair_signals n rs ls) 0 [] ≡ []
      quiet [] ls a b p q = absurd (omega arith)
      quiet (r ∷ rs) [] a b p q = absurd (omega arith)
      quiet (r ∷ rs) (l ∷ ls) a b p q = ap₂ (pair_signal n) p q

      named : (r l : List Urn) → Memᴰ r ring.signals → Memᴰ l lamp.signals → (u : Urn) (x : Name) → Memᴰ x u.path
          → Memᴰ u r ⊎ ((v : Urn) × Memᴰ v l × (shifted n v ≡ u)) → x ≢ []
      named r l mr ml u x mx (inl i) = wr.named r mr u i x mx
      named r l mr ml u x mx (inr v) = wl.named l ml v.0 v.1 x (rw (← ap (λ z. z.path) v.2) at mx)
