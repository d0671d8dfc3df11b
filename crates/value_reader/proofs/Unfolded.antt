-- A value without CR reads as it did before lines were folded.
-- Assumes nothing.
use mathlib.Core.Path.{subst}
use mathlib.Core.List.{List, [], ◌∷◌, ◌++◌}
use Prim.Native.Nat.{ℕ, zero, suc}
use Rattle.value_reader.specs.Grammar.{White, Blanks, Param, Params, Entry, Value, Before}
use Rattle.value_reader.specs.Grammar as G
use Rattle.value_reader.specs.Claims.{Unfolded, SameUnfolded, Given, EntryGiven, there, refused, missing, Lies}
use Rattle.value_reader.specs.Claims.{AsBefore}
use Rattle.value_reader.proofs.Agree.{refused-exactly, accepted-list}
use Rattle.value_reader.proofs.EntryLaws.{entry-refused-exactly, places}

-- both parts
cr-left : (a b : List ℕ) → Unfolded (a ++ b) → Unfolded a
cr-left [] b k = G.none
cr-left (x ∷ a) b (G.more t k) = G.more t (cr-left a b k)

cr-right : (a b : List ℕ) → Unfolded (a ++ b) → Unfolded b
cr-right [] b k = k
cr-right (x ∷ a) b (G.more t k) = cr-right a b k

cr-rest : (x : ℕ) (l : List ℕ) → Unfolded (x ∷ l) → Unfolded l
cr-rest x l (G.more t k) = k

-- where one white space without CR is the other's, so is the whole grammar
module _ (W X : List ℕ → Type 0) (to : (x : List ℕ) → Unfolded x → W x → X x) where
  param-other : {p : List ℕ} → Unfolded p → Param W p → Param X p
  param-other k (G.bare {x = x} {t = t} w n) = G.bare (to x (cr-left x t k) w) n
  param-other k (G.set {x = x} {t = t} {y = y} {z = z} {v = v} w n w2 w3 g) =
      let l = cr-right t _ (cr-right x _ k) in
      let m = cr-rest 61 _ (cr-right y _ l) in
      G.set (to x (cr-left x _ k) w) n (to y (cr-left y _ l) w2) (to z (cr-left z v m) w3) g

  params-other : {p : List ℕ} → Unfolded p → Params W p → Params X p
  params-other k G.done = G.done
  params-other k (G.param {w = w} {p = p} {q = q} a b c) =
      let l = cr-rest 59 _ (cr-right w _ k) in
      G.param (to w (cr-left w _ k) a) (param-other (cr-left p q l) b) (params-other (cr-right p q l) c)

  entry_other : {e u : List ℕ} → Unfolded e → Entry W e u → Entry X e u
  entry_other k (G.entry {u = u} {p = p} a b) =
      G.entry a (params-other (cr-rest 62 p (cr-right u _ (cr-rest 60 _ k))) b)

  value-other : {s : List ℕ} {us : List (List ℕ)} → Unfolded s → Value W s us → Value X s us
  value-other k (G.last {w = w} {e = e} {x = x} a b c) =
      let l = cr-right w _ k in
      G.last (to w (cr-left w _ k) a) (entry_other (cr-left e x l) b) (to x (cr-right e x l) c)
  value-other k (G.comma {w = w} {e = e} {x = x} {v = v} a b c d) =
      let l = cr-right w _ k in
      let m = cr-right e _ l in
      G.comma (to w (cr-left w _ k) a) (entry_other (cr-left e _ l) b) (to x (cr-left x _ m) c)
      (value-other (cr-rest 44 v (cr-right x _ m)) d)

  before-other : {a : List ℕ} {k : ℕ} → Unfolded a → Before W k a → Before X k a
  before-other k (G.bracket {w = w} a) = G.bracket (to w (cr-left w _ k) a)
  before-other k (G.entries {w = w} {e = e} {x = x} {b = v} a b c d) =
      let l = cr-right w _ k in
      let m = cr-right e _ l in
      G.entries (to w (cr-left w _ k) a) (entry_other (cr-left e _ l) b) (to x (cr-left x _ m) c)
      (before-other (cr-rest 44 v (cr-right x _ m)) d)

-- blanks are white space, and white space without CR is blanks
blanks-white : {x : List ℕ} → Unfolded x → Blanks x → White x
blanks-white k G.none = G.nothing
blanks-white (G.more n k) (G.more t a) = G.blank t (blanks-white k a)

white-blanks : {x : List ℕ} → Unfolded x → White x → Blanks x
white-blanks k G.nothing = G.none
white-blanks (G.more n k) (G.blank t a) = G.more t (white-blanks k a)
white-blanks (G.more n k) (G.fold t a) = absurd n

pub same-unfolded : SameUnfolded
same-unfolded s us f =
    (value-other White Blanks (λ x. white-blanks) f, value-other Blanks White (λ x. blanks-white) f)

-- what a refusal number says is the same by both
given-other : (W X : List ℕ → Type 0) (s : List ℕ)
    → ((us : List (List ℕ)) → Value W s us → Value X s us) → ((us : List (List ℕ)) → Value X s us → Value W s us)
    → (n : ℕ) → Given W s n → Given X s n
given-other W X s to from zero (h, us, k, l) = (h, us, to us k, l)
given-other W X s to from (suc zero) h = h
given-other W X s to from (suc (suc zero)) (h, n) = (h, λ us k. n us (from us k))
given-other W X s to from (suc (suc (suc zero))) (h, us, k, l) = (h, us, to us k, l)
given-other W X s to from (suc (suc (suc (suc n)))) h = h

entry-given-other : (W X : List ℕ → Type 0) (s : List ℕ)
    → ((us : List (List ℕ)) → Value W s us → Value X s us) → ((us : List (List ℕ)) → Value X s us → Value W s us)
    → (k : ℕ) {n : ℕ} → EntryGiven W s k n → EntryGiven X s k n
entry-given-other W X s to from k (there {us = us} a b c d) = there a (to us b) c d
entry-given-other W X s to from k (refused {n = n} g) = refused (given-other W X s to from (suc n) g)
entry-given-other W X s to from k (missing {us = us} a b c d) = missing a (to us b) c d

pub as_before : AsBefore
as_before s l =
    let to : (us : List (List ℕ)) → Value White s us → Value Blanks s us = λ us. (same-unfolded s us l).0 in
    let from : (us : List (List ℕ)) → Value Blanks s us → Value White s us = λ us. (same-unfolded s us l).1 in (
      (λ n. (
        (λ e. given-other White Blanks s to from n ((refused-exactly s n).0 e)),
        λ g. (refused-exactly s n).1 (given-other Blanks White s from to n g),
      )),
      (λ e. to _ (accepted-list s e)),
      (λ k n. (
        (λ e. entry-given-other White Blanks s to from k ((entry-refused-exactly s k n).0 e)),
        λ g. (entry-refused-exactly s k n).1 (entry-given-other Blanks White s from to k g),
      )),
      λ k h. lies-other k (places s k h),
    )
  where
    lies-other : (k : ℕ) → Lies White s k → Lies Blanks s k
    lies-other k (a, b, f, e, p) =
        (a, b, before-other White Blanks (λ x. white-blanks) (cr-left a _ (subst Unfolded e l)) f, e, p)
