-- Laws of breadth-first discovery: the states found are those that symbols reach, each once, and more than n are found
-- exactly if more than n are reached.
use Prim.Native.Nat.{ℕ, zero, suc, ◌+◌, ◌≤◌, ◌<◌}
use mathlib.Core.Path.{◌≡◌, refl, ap, ◌∙◌}
use mathlib.Core.Logic.{◌⊎◌, inl, inr}
use mathlib.Core.Bool.{Bool, true}
use mathlib.Core.List.Memᴰ
use mathlib.Core.List.{List, [], ◌∷◌, ◌++◌, foldl, foldl-append, Memᴰ}
use borrow.Author.Tests.{lt-ltb, le-ltb}
use lib.ListN.{length, get_or, length-append}
use native.Mathlib.Omega.{arith}
use native.Mathlib.Decide.{dec_lt, ℕ_discrete}
use Rattle.base_lists.proofs.Lists.{Exact, Extends, extends-self, extends-trans, at-extends, mem-at, member_of, member-extends, add-extends, add-has}
use Rattle.base_lists.proofs.Lists.{add-all, distinct-add, distinct-fits, index-member}
use Rattle.base_lists.specs.Lists.{member_by, add_by, index_by, Distinct}
use Rattle.theory_resolution.specs.Discovery.{expand, discover, Reached, ReachedOver}

module _ {S : Type 0} (next : S → ℕ → S) (count : ℕ) (begin : S) where
  -- each symbol leads from a state that is reached to another
  pub reached-next : (s : S) → Reached next count begin s → (k : ℕ) → k < count → Reached next count begin (next s k)
  reached-next s r k h =
      record {
        by = r.by ++ k ∷ [];
        listed = λ x i. at x (Memᴰ.append_cases r.by i);
        leads = foldl-append next begin r.by (k ∷ []) ∙ ap (λ z. next z k) r.leads;
      }
    where
      at : (x : ℕ) → Memᴰ x r.by ⊎ Memᴰ x (k ∷ []) → x < count
      at x (inl i) = r.listed x i
      at x (inr i) = rw (Memᴰ.eq_of_singleton i) h

module _ {S : Type 0} (same : S → S → Bool) (ex : Exact same) (next : S → ℕ → S) where
  pub expand-extends : (s : S) (k : ℕ) (l : List S) → Extends l (expand same next s k l)
  unfolding expand
  expand-extends s zero l = extends-self l
  expand-extends s (suc k) l = extends-trans (expand-extends s k l) (add-extends same ex (expand same next s k l) (next s k))

  -- each target is there
  pub expand-has : (s : S) (n k : ℕ) (l : List S) → k < n → member_by same (next s k) (expand same next s n l) ≡ true
  unfolding expand
  expand-has s zero k l h = absurd (omega arith)
  expand-has s (suc n) k l h = go (ℕ_discrete k n) (λ i. expand-has s n k l i)
    where
      go : Dec (k ≡ n) → (k < n → member_by same (next s k) (expand same next s n l) ≡ true)
          → member_by same (next s k) (add_by same (expand same next s n l) (next s n)) ≡ true
      go (yes e) ih = rw e (add-has same ex (expand same next s n l) (next s n))
      go (no e) ih = member-extends same ex (next s k) (add-extends same ex (expand same next s n l) (next s n)) (ih (omega arith))

  -- what holds of all states and of the targets holds of all after the targets are added
  pub expand-all : (P : S → Type 0) (s : S) (n : ℕ) (l : List S) → ((k : ℕ) → k < n → P (next s k)) → ((x : S) → Memᴰ x l → P x)
      → (x : S) → Memᴰ x (expand same next s n l) → P x
  unfolding expand
  expand-all P s zero l p h = h
  expand-all P s (suc n) l p h = add-all same ex P (expand same next s n l) (next s n) (expand-all P s n l (λ k i. p k (omega arith)) h) (p n (omega arith))

  expand-distinct : (s : S) (n : ℕ) (l : List S) → Distinct same l → Distinct same (expand same next s n l)
  unfolding expand
  expand-distinct s zero l d = d
  expand-distinct s (suc n) l d = distinct-add same ex (expand same next s n l) (next s n) (expand-distinct s n l d)

  module _ (count : ℕ) (begin : S) where
    abbrev pub found : ℕ → List S
    found n = discover same next count begin n

    -- the turn of a state that is there, and of one that is not
    pub discover-next : (i : ℕ) → i < length (found i) → found (suc i) ≡ expand same next (get_or (found i) i begin) count (found i)
    unfolding discover
    discover-next i h = rw (lt-ltb i (length (found i)) h)

    pub discover-stays : (i : ℕ) → length (found i) ≤ i → found (suc i) ≡ found i
    unfolding discover
    discover-stays i h = rw (le-ltb i (length (found i)) h)

    -- what each turn keeps holds of what is found
    pub by-turns : (P : ℕ → List S → Type 0) → P 0 (begin ∷ [])
        → ((i : ℕ) → i < length (found i) → P i (found i) → P (suc i) (expand same next (get_or (found i) i begin) count (found i)))
        → ((i : ℕ) → length (found i) ≤ i → P i (found i) → P (suc i) (found i)) → (n : ℕ) → P n (found n)
    unfolding discover
    by-turns P p h k zero = p
    by-turns P p h k (suc n) = go (dec_lt n (length (found n))) (by-turns P p h k n)
      where
        go : Dec (n < length (found n)) → P n (found n) → P (suc n) (found (suc n))
        go (yes i) q = rw (discover-next n i) (h n i q)
        go (no i) q = rw (discover-stays n (omega arith)) (k n (omega arith) q)

    -- the start has number 0
    pub discover-begins : (n : ℕ) → Extends (begin ∷ []) (found n)
    discover-begins =
        by-turns (λ i l. Extends (begin ∷ []) l) (extends-self (begin ∷ []))
        (λ i h e. extends-trans e (expand-extends (get_or (found i) i begin) count (found i))) (λ i h e. e)

    pub discover-some : (n : ℕ) → 0 < length (found n)
    discover-some n = let e = discover-begins n in omega (arith, length-append (begin ∷ []) e.more, ap length e.joined)

    pub discover-start : (n : ℕ) → get_or (found n) 0 begin ≡ begin
    discover-start n = at-extends begin (discover-begins n) 0 (omega arith)

    -- a later turn keeps the numbers
    pub discover-extends : (n : ℕ) → Extends (found n) (found (suc n))
    discover-extends n = go (dec_lt n (length (found n)))
      where
        go : Dec (n < length (found n)) → Extends (found n) (found (suc n))
        go (yes i) = rw (discover-next n i) (expand-extends (get_or (found n) n begin) count (found n))
        go (no i) = rw (discover-stays n (omega arith)) (extends-self (found n))

    -- once every state had its turn, nothing more is found
    pub discover-done : (n k : ℕ) → length (found n) ≤ n → found (n + k) ≡ found n
    discover-done n zero h = ap found (omega arith)
    discover-done n (suc k) h =
        let e = discover-done n k h in
        let i : n + suc k ≡ suc (n + k) = omega arith in
        ap found i ∙ discover-stays (n + k) (omega (arith, ap length e)) ∙ e

    -- no state is found twice
    pub discover-distinct : (n : ℕ) → Distinct same (found n)
    discover-distinct = by-turns (λ i l. Distinct same l) (refl, tt) (λ i h d. expand-distinct (get_or (found i) i begin) count (found i) d) (λ i h d. d)

    -- every target of the states numbered below i is there
    abbrev pub Closed : ℕ → List S → Type 0
    Closed i l = (j k : ℕ) → j < i → j < length l → k < count → member_by same (next (get_or l j begin) k) l ≡ true

    pub discover-closed : (n : ℕ) → Closed n (found n)
    discover-closed =
        by-turns Closed (λ j k h. absurd (omega arith)) turned
        (λ i h c j k a b. c j k (omega arith) b)
      where
        turned : (i : ℕ) → i < length (found i) → Closed i (found i) → Closed (suc i) (expand same next (get_or (found i) i begin) count (found i))
        turned i h c j k a b d = go (ℕ_discrete j i)
          where
            ext : Extends (found i) (expand same next (get_or (found i) i begin) count (found i))
            ext = expand-extends (get_or (found i) i begin) count (found i)

            go : Dec (j ≡ i) → member_by same (next (get_or (expand same next (get_or (found i) i begin) count (found i)) j begin) k)
                (expand same next (get_or (found i) i begin) count (found i)) ≡ true
            go (yes e) = rw (e, at-extends begin ext i h) (expand-has (get_or (found i) i begin) count k (found i) d)
            go (no e) = rw (at-extends begin ext j (omega arith)) (member-extends same ex (next (get_or (found i) j begin) k) ext
                (c j k (omega arith) (omega arith) d))

    -- every state found is reached
    pub discover-reached : (n : ℕ) (s : S) → Memᴰ s (found n) → Reached next count begin s
    discover-reached =
        by-turns (λ i l. (s : S) → Memᴰ s l → Reached next count begin s)
        (λ s m. rw (Memᴰ.eq_of_singleton m) (record { by = []; listed = λ k i. absurd (Memᴰ.not-nil i); leads = refl }))
        (λ i h a. expand-all (Reached next count begin) (get_or (found i) i begin) count (found i)
        (reached-next next count begin (get_or (found i) i begin) (a (get_or (found i) i begin) (mem-at (found i) i begin h))) a)
        (λ i h a. a)

    -- and every state that is reached from a state of a closed list is in the list
    follow-in : (l : List S) → Closed (length l) l → (s : S) → member_by same s l ≡ true → (ks : List ℕ) → ((k : ℕ) → Memᴰ k ks → k < count)
        → member_by same (foldl next s ks) l ≡ true
    follow-in l closed s h [] b = h
    follow-in l closed s h (k ∷ ks) b =
        follow-in l closed (next s k)
        (let w = index-member same ex begin s l h in rw w.1 at (closed (index_by same s l) k w.0 w.0 (b k (Memᴰ.head refl))))
        ks (λ x i. b x (Memᴰ.tail i))

    -- where no more than n states are found after n turns, every state that is reached is found
    pub discover-complete : (n : ℕ) → length (found n) ≤ n → (s : S) → Reached next count begin s → member_by same s (found n) ≡ true
    discover-complete n h s r =
        rw r.leads at
        (follow-in (found n) (λ j k a b d. discover-closed n j k (omega arith) b d) begin
        (member-extends same ex begin (discover-begins n) (member_of same ex begin (begin ∷ []) (Memᴰ.head refl)))
        r.by r.listed)

    -- more than n states are found after n turns exactly if more than n are reached
    pub over-reached : (n : ℕ) → n < length (found n) → ReachedOver next count begin same n
    over-reached n h = record { states = found n; distinct = discover-distinct n; reached = discover-reached n; over = h }

    pub reached-over : (n : ℕ) → ReachedOver next count begin same n → n < length (found n)
    reached-over n o = go (dec_lt n (length (found n)))
      where
        go : Dec (n < length (found n)) → n < length (found n)
        go (yes h) = h
        go (no h) =
            absurd (omega (
              arith,
              o.over,
              distinct-fits same ex o.states (found n) o.distinct (λ s m. discover-complete n (omega arith) s (o.reached s m)),
            ))
