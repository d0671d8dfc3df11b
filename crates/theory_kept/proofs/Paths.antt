-- Laws of paths: ancestors of one path, proper ancestors, and what a category takes under a path that it takes.
use mathlib.Core.Path.{◌≡◌, refl, sym, ap, ◌∙◌}
use mathlib.Core.Logic.{◌⊎◌, inl, inr, ◌≢◌}
use mathlib.Core.Bool.{true}
use mathlib.Core.List.{[], ◌∷◌, ◌++◌, append_assoc, append-nil}
use lib.ListN.{length, length-append}
use native.Mathlib.Omega.{arith}
use Rattle.theory_resolution.specs.Names.{Parts, proper_ancestor, Above}
use Rattle.theory_resolution.specs.Direct.{Status, takes_urn}
use Rattle.theory_resolution.proofs.Names.{proper-to, proper-of}
use Rattle.theory_resolution.proofs.Settled.{takes-past}

-- two ancestors of one path lie on one way
pub above-either : (p q r : Parts) → Above p r → Above q r → Above p q ⊎ Above q p
above-either p q r a b = go p q a.rest b.rest (a.joined ∙ sym b.joined)
  where
    go : (p q a b : Parts) → p ++ a ≡ q ++ b → Above p q ⊎ Above q p
    go [] q a b e = inl record { rest = q; joined = refl }
    go (x ∷ p) [] a b e = inr record { rest = x ∷ p; joined = refl }
    go (x ∷ p) (y ∷ q) a b e = on (go p q a b (cc))
      where
        h : x ≡ y
        h = cc

        on : Above p q ⊎ Above q p → Above (x ∷ p) (y ∷ q) ⊎ Above (y ∷ q) (x ∷ p)
        on (inl k) = inl record { rest = k.rest; joined = ap (λ z. z ∷ (p ++ k.rest)) h ∙ ap (λ l. y ∷ l) k.joined }
        on (inr k) = inr record { rest = k.rest; joined = ap (λ z. z ∷ (q ++ k.rest)) (sym h) ∙ ap (λ l. x ∷ l) k.joined }

-- two paths of which each is the other or above it are one
pub above-antisym : (p q : Parts) → Above p q → Above q p → p ≡ q
above-antisym p q a b = go a.rest a.joined
  where
    go : (r : Parts) → p ++ r ≡ q → p ≡ q
    go [] j = sym (append-nil p) ∙ j
    go (x ∷ r) j = absurd (omega (arith, length-append p (x ∷ r), ap length j, length-append q b.rest, ap length b.joined))

-- only the root is above the root
pub above-empty : (p : Parts) → Above p [] → p ≡ []
above-empty p a = above-antisym p [] a (record { rest = p; joined = refl })

-- above a path and not that path: a proper ancestor
pub proper-ne : (p u : Parts) → Above p u → p ≢ u → proper_ancestor p u ≡ true
proper-ne p u a n = go a.rest a.joined
  where
    go : (r : Parts) → p ++ r ≡ u → proper_ancestor p u ≡ true
    go [] j = absurd (n (sym (append-nil p) ∙ j))
    go (x ∷ r) j = proper-of p u x r j

-- what is under something that properly extends p properly extends p
pub proper-past : (p q r : Parts) → proper_ancestor p q ≡ true → Above q r → proper_ancestor p r ≡ true
proper-past p q r a b =
    let v = proper-to p q a in
    proper-of p r v.0 (v.1 ++ b.rest) (sym (append_assoc p (v.0 ∷ v.1) b.rest) ∙ ap (λ z. z ++ b.rest) v.2 ∙ b.joined)

-- a category that takes p takes what is under p
pub takes-under : (o : Status) (q p r : Parts) → takes_urn o q p ≡ true → Above p r → takes_urn o q r ≡ true
takes-under o q p r e a = go a.rest a.joined
  where
    go : (d : Parts) → p ++ d ≡ r → takes_urn o q r ≡ true
    go [] j = ap (takes_urn o q) (sym j ∙ append-nil p) ∙ e
    go (x ∷ d) j = takes-past o q p r e (proper-of p r x d j)
