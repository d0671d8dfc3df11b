-- The laws of specs/MachineMeaning.antt about the order of nodes and of symbols, and about the symbol of a URN, proved.
use Prim.Native.Nat.{ℕ, zero, suc, ◌+◌, ◌*◌, ◌≤◌, ◌<◌}
use mathlib.Core.Path.{◌≡◌, refl, sym, ap, ◌∙◌}
use mathlib.Core.Logic.{◌⊎◌, inl, inr, ◌≢◌}
use mathlib.Core.Bool.{Bool, true, false, cond, not, ◌||◌, false≢true}
use mathlib.Core.List.Memᴰ
use mathlib.Core.List.{List, [], ◌∷◌, ◌++◌, foldl, foldl-append, append_assoc, append-nil, Memᴰ}
use lib.Dec.{eqb}
use borrow.Author.Tests.{eqb-true}
use lib.ListN.{length, get_or, take, length-append}
use lib.Seq.{take-append_seam}
use native.Mathlib.Omega.{arith}
use Rattle.base_lists.proofs.Lists.{Extends, extends-self, extends-trans, add-extends, mem-at, member_of}
use Rattle.base_lists.specs.Lists.{add_by}
use Rattle.theory_resolution.specs.Names.{Parts, same_parts, Above}
use Rattle.theory_resolution.specs.Table.{Urn, urn, Table}
use Rattle.theory_resolution.specs.Nodes.{same_urn, member, past, add_urn, add_signal, nodes, is_node, number, node_at, is_root, leaf, deepest}
use Rattle.theory_resolution.specs.Symbols.{Symbol, node, other, symbol_of, node_symbols, symbols_from, symbols}
use Rattle.theory_resolution.specs.MachineMeaning.{AppearanceLaw, SymbolOfLaw, one, rank, Before, SymbolsLaw}
use Rattle.theory_resolution.proofs.Names.{parts-exact, above-self}
use Rattle.theory_resolution.proofs.Nodes.{urn-exact, nodes-all}
use Rattle.theory_resolution.proofs.Numbers.{number-at}
use Rattle.theory_resolution.proofs.Deepest.{deep-above, deep-most}
use Rattle.theory_resolution.proofs.Alike.{leaf-own}
use Rattle.theory_resolution.proofs.Symbols.{node-listed, other-listed, listed}

fold-extends : {A : Type 0} (f : List Urn → A → List Urn) → ((s : List Urn) (a : A) → Extends s (f s a)) → (s : List Urn) (l : List A) → Extends s (foldl f s l)
fold-extends f h s [] = extends-self s
fold-extends f h s (a ∷ l) = extends-trans (h s a) (fold-extends f h (f s a) l)

paths-extend : (c : ℕ) (s : List Urn) (ps : List Parts) → Extends s (foldl (λ z p. add_by same_urn z (urn c p)) s ps)
paths-extend c = fold-extends (λ z p. add_by same_urn z (urn c p)) (λ z p. add-extends same_urn urn-exact z (urn c p))

urn-extends : (s : List Urn) (u : Urn) → Extends s (add_urn s u)
urn-extends s u = paths-extend u.cat s (past [] u.path)

signal-extends : (s sig : List Urn) → Extends s (add_signal s sig)
signal-extends = fold-extends add_urn urn-extends

past-append : (q p r : Parts) → past q (p ++ r) ≡ past q p ++ past (q ++ p) r
past-append q [] r = ap (λ z. past z r) (sym (append-nil q))
past-append q (x ∷ p) r = ap (λ z. (q ++ x ∷ []) ∷ z) (past-append (q ++ x ∷ []) p r ∙ ap (λ z. past (q ++ x ∷ []) p ++ past z r) (append_assoc q (x ∷ []) p))

front : {k l : List Urn} → Extends k l → take (length k) l ≡ k
front {k} {l} e = ap (take (length k)) (sym e.joined) ∙ take-append_seam k e.more

pub appearance-law : (n : ℕ) (sigs : List (List Urn)) → AppearanceLaw n sigs
unfolding nodes
appearance-law n sigs = record {
  later-signals = λ more. front (signals more);
  later-urns = λ us vs. front (urns us vs);
  later-parts = λ us c p r. front (parts us c p r);
}
  where
    signals : (more : List (List Urn)) → Extends (foldl add_signal [] sigs) (foldl add_signal [] (sigs ++ more))
    signals more = rw (foldl-append add_signal [] sigs more) (fold-extends add_signal signal-extends (foldl add_signal [] sigs) more)

    last : (us : List Urn) → foldl add_signal [] (sigs ++ us ∷ []) ≡ foldl add_urn (foldl add_signal [] sigs) us
    last us = foldl-append add_signal [] sigs (us ∷ [])

    urns : (us vs : List Urn) → Extends (foldl add_signal [] (sigs ++ us ∷ [])) (foldl add_signal [] (sigs ++ (us ++ vs) ∷ []))
    urns us vs = rw (
      last us,
      last (us ++ vs),
      foldl-append add_urn (foldl add_signal [] sigs) us vs,
    ) (fold-extends add_urn urn-extends (foldl add_urn (foldl add_signal [] sigs) us) vs)

    parts : (us : List Urn) (c : ℕ) (p r : Parts) → Extends (foldl add_signal [] (sigs ++ (us ++ urn c p ∷ []) ∷ []))
        (foldl add_signal [] (sigs ++ (us ++ urn c (p ++ r) ∷ []) ∷ []))
    parts us c p r =
        rw (
          last (us ++ urn c p ∷ []),
          last (us ++ urn c (p ++ r) ∷ []),
          foldl-append add_urn (foldl add_signal [] sigs) us (urn c p ∷ []),
          foldl-append add_urn (foldl add_signal [] sigs) us (urn c (p ++ r) ∷ []),
        )
        (on (foldl add_urn (foldl add_signal [] sigs) us))
      where
        on : (s : List Urn) → Extends (add_urn s (urn c p)) (add_urn s (urn c (p ++ r)))
        on s =
            rw (past-append [] p r, foldl-append (λ z q. add_by same_urn z (urn c q)) s (past [] p) (past p r))
            (paths-extend c (foldl (λ z q. add_by same_urn z (urn c q)) s (past [] p)) (past p r))

-- two paths that are above each other are the same
same_ends : {p q : Parts} → Above p q → Above q p → p ≡ q
same_ends {p} {q} a b = go a.rest a.joined
  where
    go : (r : Parts) → p ++ r ≡ q → p ≡ q
    go [] j = sym (append-nil p) ∙ j
    go (x ∷ r) j = absurd (omega (arith, length-append p (x ∷ r), ap length j, length-append q b.rest, ap length b.joined))

pub symbol-of-law : (ns : List Urn) (u : Urn) → SymbolOfLaw ns u
symbol-of-law ns u = record { own = own; under-leaf = as-node; under-other = λ n l. as-other (same_parts d u.path) refl n l }
  where
    c : ℕ
    c = u.cat

    d : Parts
    d = deepest ns u.cat u.path

    made : Bool → Symbol
    made o = record { cat = u.cat; path = d; other = o }

    as-node : leaf ns c d ≡ true → symbol_of ns u ≡ node c d
    as-node e = ap made (leaf-own ns c u.path d e)

    as-other : (b : Bool) → same_parts d u.path ≡ b → d ≢ u.path → leaf ns c d ≡ false → symbol_of ns u ≡ other c d
    as-other true e n l = absurd (n (parts-exact.to d u.path e))
    as-other false e n l = ap made (ap (λ z. not (z || leaf ns c d)) e ∙ ap not l)

    own : is_node ns c u.path ≡ true → symbol_of ns u ≡ node c u.path
    own i =
        ap made (ap (λ z. not (z || leaf ns c d)) (ap (same_parts d) (sym e) ∙ parts-exact.self d))
        ∙ ap (node c) e
      where
        e : d ≡ u.path
        e = same_ends (deep-above ns c u.path) (deep-most ns c u.path u.path i (above-self u.path))

-- a list in order: each symbol comes before all after it
module _ (ns : List Urn) where
  abbrev Sorted : List Symbol → Type 0
  Sorted [] = Unit {0}
  Sorted (x ∷ l) = ((y : Symbol) → Memᴰ y l → Before ns x y) × Sorted l

  sorted-append : (k l : List Symbol) → Sorted k → Sorted l → ((x y : Symbol) → Memᴰ x k → Memᴰ y l → Before ns x y) → Sorted (k ++ l)
  sorted-append [] l s r h = r
  sorted-append (x ∷ k) l s r h = (λ y m. at y (Memᴰ.append_cases k m), sorted-append k l s.1 r (λ a b i j. h a b (Memᴰ.tail i) j))
    where
      at : (y : Symbol) → Memᴰ y k ⊎ Memᴰ y l → Before ns x y
      at y (inl m) = s.0 y m
      at y (inr m) = h x y (Memᴰ.head refl) m

  sorted-at : (d : Symbol) (l : List Symbol) → Sorted l → (i j : ℕ) → i < j → j < length l → Before ns (get_or l i d) (get_or l j d)
  sorted-at d [] s i j a b = absurd (omega arith)
  sorted-at d (x ∷ l) s i zero a b = absurd (omega arith)
  sorted-at d (x ∷ l) s zero (suc j) a b = s.0 (get_or l j d) (mem-at l j d (omega arith))
  sorted-at d (x ∷ l) s (suc i) (suc j) a b = sorted-at d l s.1 i j (omega arith) (omega arith)

module _ (t : Table) where
  abbrev ns : List Urn
  ns = nodes t

  -- a symbol of category c of the nodes from index k on
  record Own (c k : ℕ) (s : Symbol) : Type 0 where
    cat : s.cat ≡ c
    from : 2 * suc k ≤ rank ns s
    to : rank ns s < 2 * suc (length ns)
    is-node : is_node ns s.cat s.path ≡ true
    no-leaf : s.other ≡ true → leaf ns s.cat s.path ≡ false

  -- the ranks of the node at index k and of its Other
  own-rank : (k : ℕ) (n : Urn) → k < length ns → node_at ns k ≡ n → (o : Bool) → rank ns (record { cat = n.cat; path = n.path; other = o }) ≡ 2 * suc k + one o
  own-rank k n h e o =
      ap (λ b. cond b (2 * suc (length ns)) (2 * number ns n.cat n.path + one o)) (not_root n.path (nodes-all t n listed-n).some-part)
      ∙ ap (λ z. 2 * z + one o) (ap (λ v. number ns v.cat v.path) (sym e) ∙ number-at t k h)
    where
      listed-n : Memᴰ n ns
      listed-n = rw e at (mem-at ns k (urn 0 []) h)

      not_root : (p : Parts) → p ≢ [] → is_root p ≡ false
      not_root [] n = absurd (n refl)
      not_root (x ∷ p) n = refl

  -- the same in its category
  rank-in : (c k : ℕ) (n : Urn) → k < length ns → node_at ns k ≡ n → n.cat ≡ c → (o : Bool)
      → rank ns (record { cat = c; path = n.path; other = o }) ≡ 2 * suc k + one o
  rank-in c k n h e i o = ap (λ z. rank ns (record { cat = z; path = n.path; other = o })) (sym i) ∙ own-rank k n h e o

  own-symbol : (c k : ℕ) (n : Urn) → k < length ns → node_at ns k ≡ n → n.cat ≡ c → (o : Bool) → (o ≡ true → leaf ns c n.path ≡ false)
      → Own c k (record { cat = c; path = n.path; other = o })
  own-symbol c k n h e i o l =
      record {
        cat = refl;
        from = omega (arith, r);
        to = omega (arith, r, at_most o);
        is-node = ap (λ v. member v ns) same-urn ∙ member_of same_urn urn-exact n ns (rw e at (mem-at ns k (urn 0 []) h));
        no-leaf = l;
      }
    where
      same-urn : urn c n.path ≡ n
      same-urn = λ z. record { cat = sym i z; path = n.path }

      r : rank ns (record { cat = c; path = n.path; other = o }) ≡ 2 * suc k + one o
      r = rank-in c k n h e i o

      at_most : (o : Bool) → one o ≤ 1
      at_most false = omega arith
      at_most true = omega arith

  own-later : (c k : ℕ) (s : Symbol) → Own c (suc k) s → Own c k s
  own-later c k s w = let f = w.from in record { cat = w.cat; from = omega arith; to = w.to; is-node = w.is-node; no-leaf = w.no-leaf }

  abbrev Rest : ℕ → List Urn → Type 0
  Rest c ms = (k : ℕ) → ((i : ℕ) → i < length ms → node_at ns (k + i) ≡ get_or ms i (urn 0 [])) → k + length ms ≡ length ns
      → Sorted ns (node_symbols ns c ms) × ((s : Symbol) → Memᴰ s (node_symbols ns c ms) → Own c k s)

  own-sorted : (c : ℕ) (ms : List Urn) → Rest c ms
  own-sorted c [] k at e = (tt, λ s m. absurd (Memᴰ.not-nil m))
  own-sorted c (n ∷ ms) k at e =
      go (eqb n.cat c) refl (own-sorted c ms (suc k) (λ i h. ap (node_at ns) (omega arith) ∙ at (suc i) (omega arith)) (omega arith))
    where
      inside : k < length ns
      inside = omega arith

      here : node_at ns k ≡ n
      here = ap (node_at ns) (omega arith) ∙ at 0 (omega arith)

      two : n.cat ≡ c → (l : Bool) → leaf ns c n.path ≡ l → (s : Symbol) → Memᴰ s (node c n.path ∷ cond l [] (other c n.path ∷ [])) → Own c k s
      two i l q s m = first (Memᴰ.cases_cons m)
        where
          second : (l : Bool) → leaf ns c n.path ≡ l → Memᴰ s (cond l [] (other c n.path ∷ [])) → Own c k s
          second true q j = absurd (Memᴰ.not-nil j)
          second false q j = rw (Memᴰ.eq_of_singleton j) (own-symbol c k n inside here i true (λ z. q))

          first : (s ≡ node c n.path) ⊎ Memᴰ s (cond l [] (other c n.path ∷ [])) → Own c k s
          first (inl w) = rw w (own-symbol c k n inside here i false (λ z. absurd (false≢true z)))
          first (inr j) = second l q j

      two-sorted : n.cat ≡ c → (l : Bool) → Sorted ns (node c n.path ∷ cond l [] (other c n.path ∷ []))
      two-sorted i true = (λ y m. absurd (Memᴰ.not-nil m), tt)
      two-sorted i false = (
        λ y m. rw (Memᴰ.eq_of_singleton m) (inr (
          refl,
          omega (arith, rank-in c k n inside here i false, rank-in c k n inside here i true),
        )),
        (λ y m. absurd (Memᴰ.not-nil m), tt),
      )

      top : n.cat ≡ c → (l : Bool) → leaf ns c n.path ≡ l → (s : Symbol)
          → Memᴰ s (node c n.path ∷ cond l [] (other c n.path ∷ [])) → rank ns s < 2 * suc (suc k)
      top i l q s m = first (Memᴰ.cases_cons m)
        where
          second : (l : Bool) → Memᴰ s (cond l [] (other c n.path ∷ [])) → rank ns s < 2 * suc (suc k)
          second true j = absurd (Memᴰ.not-nil j)
          second false j = rw (Memᴰ.eq_of_singleton j) (omega (arith, rank-in c k n inside here i true))

          first : (s ≡ node c n.path) ⊎ Memᴰ s (cond l [] (other c n.path ∷ [])) → rank ns s < 2 * suc (suc k)
          first (inl w) = rw w (omega (arith, rank-in c k n inside here i false))
          first (inr j) = second l j

      go : (b : Bool) → eqb n.cat c ≡ b → Sorted ns (node_symbols ns c ms) × ((s : Symbol) → Memᴰ s (node_symbols ns c ms) → Own c (suc k) s)
          → Sorted ns (node_symbols ns c (n ∷ ms)) × ((s : Symbol) → Memᴰ s (node_symbols ns c (n ∷ ms)) → Own c k s)
      go false q ih = rw q (ih.0, λ s m. own-later c k s (ih.1 s m))
      go true q ih =
          let i = eqb-true n.cat c q in
          rw q (
            sorted-append ns own (node_symbols ns c ms) (two-sorted i (leaf ns c n.path)) ih.0 (λ x y a b. apart x y a (ih.1 y b) i),
            λ s m. at-any i s (Memᴰ.append_cases own m),
          )
        where
          own : List Symbol
          own = node c n.path ∷ cond (leaf ns c n.path) [] (other c n.path ∷ [])

          apart : (x y : Symbol) → Memᴰ x own → Own c (suc k) y → n.cat ≡ c → Before ns x y
          apart x y a w i = let f = w.from in inr (
            (two i (leaf ns c n.path) refl x a).cat ∙ sym w.cat,
            omega (arith, top i (leaf ns c n.path) refl x a),
          )

          at-any : n.cat ≡ c → (s : Symbol) → Memᴰ s own ⊎ Memᴰ s (node_symbols ns c ms) → Own c k s
          at-any i s (inl m) = two i (leaf ns c n.path) refl s m
          at-any i s (inr m) = own-later c k s (ih.1 s m)

  own-all : (c : ℕ) → Sorted ns (node_symbols ns c ns) × ((s : Symbol) → Memᴰ s (node_symbols ns c ns) → Own c 0 s)
  own-all c = own-sorted c ns 0 (λ i h. ap (node_at ns) (omega arith)) (omega arith)

  -- a symbol of the categories from c to e: one of a node, or Other under a root
  record Among (c e : ℕ) (s : Symbol) : Type 0 where
    low : c ≤ s.cat
    high : s.cat < e
    kind : ((is_node ns s.cat s.path ≡ true) × (s.other ≡ true → leaf ns s.cat s.path ≡ false)) ⊎ (s ≡ other s.cat [])

  from_sorted : (c k : ℕ) → Sorted ns (symbols_from ns c k) × ((s : Symbol) → Memᴰ s (symbols_from ns c k) → Among c (c + k) s)
  from_sorted c zero = (tt, λ s m. absurd (Memᴰ.not-nil m))
  from_sorted c (suc k) = go (from_sorted (suc c) k)
    where
      go : Sorted ns (symbols_from ns (suc c) k) × ((s : Symbol) → Memᴰ s (symbols_from ns (suc c) k) → Among (suc c) (suc c + k) s)
          → Sorted ns (symbols_from ns c (suc k)) × ((s : Symbol) → Memᴰ s (symbols_from ns c (suc k)) → Among c (c + suc k) s)
      go ih = (
        sorted-append ns (node_symbols ns c ns) (other c [] ∷ symbols_from ns (suc c) k) (own-all c).0
            (λ y m. inl (let w = (ih.1 y m).low in omega arith), ih.0) (λ x y a b. across x y a (Memᴰ.cases_cons b)),
        λ s m. among s (Memᴰ.append_cases (node_symbols ns c ns) m),
      )
        where
          across : (x y : Symbol) → Memᴰ x (node_symbols ns c ns) → (y ≡ other c []) ⊎ Memᴰ y (symbols_from ns (suc c) k) → Before ns x y
          across x y a (inl e) = let w = (own-all c).1 x a in rw e (inr (w.cat, w.to))
          across x y a (inr m) = inl (let w = (ih.1 y m).low in omega (arith, ((own-all c).1 x a).cat))

          rest : (s : Symbol) → (s ≡ other c []) ⊎ Memᴰ s (symbols_from ns (suc c) k) → Among c (c + suc k) s
          rest s (inl e) = record {
            low = omega (arith, ap (λ x. x.cat) e);
            high = omega (arith, ap (λ x. x.cat) e);
            kind = inr (e ∙ ap (λ z. other z []) (sym (ap (λ x. x.cat) e)));
          }
          rest s (inr m) = let w = ih.1 s m in record { low = omega (arith, w.low); high = omega (arith, w.high); kind = w.kind }

          among : (s : Symbol) → Memᴰ s (node_symbols ns c ns) ⊎ Memᴰ s (other c [] ∷ symbols_from ns (suc c) k) → Among c (c + suc k) s
          among s (inl m) = let w = (own-all c).1 s m in record {
            low = omega (arith, w.cat);
            high = omega (arith, w.cat);
            kind = inl (w.is-node, w.no-leaf);
          }
          among s (inr m) = rest s (Memᴰ.cases_cons m)

  pub symbols-law : SymbolsLaw t
  symbols-law =
      record {
        all-nodes = λ c p h n. listed ns (node c p) c 0 t.cats (omega arith) (omega arith) (inl (node-listed ns c p ns n));
        all_others = λ c p h n l. listed ns (other c p) c 0 t.cats (omega arith) (omega arith) (inl (other-listed ns c p l ns n));
        all-roots = λ c h. listed ns (other c []) c 0 t.cats (omega arith) (omega arith) (inr refl);
        only = λ s m. let w = (from_sorted 0 t.cats).1 s m in (omega (arith, w.high), w.kind);
        in_order = sorted-at ns (other 0 []) (symbols t) (from_sorted 0 t.cats).0;
      }
