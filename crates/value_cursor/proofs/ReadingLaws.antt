-- Going through a value from entry to entry. A function that reads a value by the cursor's `entry` cites these.
-- Assumes nothing.
use mathlib.Core.Path.{◌≡◌, refl, sym, ap, ◌∙◌, subst}
use mathlib.Core.List.{List, [], ◌∷◌}
use Prim.Native.Nat.{ℕ, ◌≤◌, ◌<◌}
use native.Mathlib.Omega.{arith}
use lib.ListN.{length}
use Rattle.value_cursor.specs.Walk.{halt, move}
use Rattle.value_cursor.specs.Parts.{entry_at}
use Rattle.value_cursor.specs.Reading.{Reading, unfit, spans, add, entry_move, value_step, reading_from, reading_of}
use Rattle.value_cursor.specs.declared.cursor.Cursor.{Cursor}
use Rattle.value_cursor.specs.declared.alert_param.Span.{Span}
use Rattle.value_cursor.specs.declared.alert_param.Found.{Found}
use Rattle.value_cursor.specs.declared.alert_param.Found.TheVariants.{Last, More}
use Rattle.value_cursor.proofs.WalkLaws.{walk-halt, walk-move, walk-ind}
use Rattle.value_cursor.proofs.Lands.{Inner, SpanIn, FoundLands, entry-lands}
use Rattle.std.specs.Prelude.{Option, Some, None}

-- a value's reading is the reading from its front
pub reading-start : (s : List ℕ) → reading_of s ≡ reading_from s 0
unfolding reading_of
reading-start s = refl

-- f is what stands at a position
module _ (s : List ℕ) (at : ℕ) (f : Option Found) (is : f ≡ entry_at s at) where
  pub reading-halt : (k : Option Found) (r : Reading) → f ≡ k → entry_move k ≡ halt r → reading_from s at ≡ r
  unfolding reading_from value_step
  reading-halt k r e h = walk-halt (value_step s) unfit s at r (ap entry_move (sym is ∙ e) ∙ h)

  -- the last entry
  pub reading-last : (p : Span) → f ≡ Some (Last p) → (reading_from s at ≡ spans (p ∷ [])) × SpanIn s p
  reading-last p e = (
    reading-halt (Some (Last p)) (spans (p ∷ [])) e refl,
    subst (FoundLands s at) (sym is
        ∙ e) (entry-lands s at),
  )

  -- an entry, and more of them after a comma
  pub reading-more : (p : Span) (c : Cursor) → f ≡ Some (More p c)
      → (reading_from s at ≡ add p (reading_from s c.at)) × (at < c.at) × (c.at ≤ length s) × SpanIn s p
  unfolding reading_from value_step
  reading-more p c e =
      let l = subst (FoundLands s at) (sym is ∙ e) (entry-lands s at) in (
        walk-move (value_step s) unfit s at (add p) c.at (ap entry_move (sym is
            ∙ e)) l.1.0 l.1.1,
        l.1.0,
        l.1.1,
        l.0,
      )

  -- no entry
  pub reading-none : f ≡ None → reading_from s at ≡ unfit
  reading-none e = reading-halt None unfit e refl

module _ (s : List ℕ) where
  -- every part that is read lies within the value
  abbrev pub Within : List Span → Type 0
  Within [] = Unit
  Within (p ∷ ps) = SpanIn s p × Within ps

  abbrev pub ReadingIn : Reading → Type 0
  ReadingIn unfit = Unit
  ReadingIn (spans ps) = Within ps

  found_ok : (at : ℕ) (i : Option Found) → FoundLands s at i → (g : Reading → Reading) (n : ℕ) → entry_move i ≡ move g n
      → Inner s at n
  found_ok at (Some (Last p)) l g n q = absurd (let z : ◌≡◌ {A = ℕ} 0 1 = cc in omega arith)
  found_ok at (Some (More p c)) l g n q = let z : c.at ≡ n = cc in omega arith
  found_ok at None l g n q = absurd (let z : ◌≡◌ {A = ℕ} 0 1 = cc in omega arith)

  pub value-ok : (at : ℕ) (g : Reading → Reading) (n : ℕ) → value_step s at ≡ move g n → Inner s at n
  unfolding value_step
  value-ok at g n e = found_ok at (entry_at s at) (entry-lands s at) g n e

  halt-in : (at : ℕ) (i : Option Found) → FoundLands s at i → (r : Reading) → entry_move i ≡ halt r → ReadingIn r
  halt-in at (Some (Last p)) l r q = let z : spans (p ∷ []) ≡ r = cc in subst ReadingIn z (l, tt)
  halt-in at (Some (More p c)) l r q = absurd (let z : ◌≡◌ {A = ℕ} 0 1 = cc in omega arith)
  halt-in at None l r q = let z : unfit ≡ r = cc in subst ReadingIn z tt

  add-in : (p : Span) (r : Reading) → SpanIn s p → ReadingIn r → ReadingIn (add p r)
  add-in p unfit h l = tt
  add-in p (spans ps) h l = (h, l)

  move_in : (at : ℕ) (i : Option Found) → FoundLands s at i → (g : Reading → Reading) (n : ℕ) (x : Reading)
      → entry_move i ≡ move g n → ReadingIn x → ReadingIn (g x)
  move_in at (Some (Last p)) l g n x q r = absurd (let z : ◌≡◌ {A = ℕ} 0 1 = cc in omega arith)
  move_in at (Some (More p c)) l g n x q r =
      let z : add p ≡ g = cc in subst (λ (k : Reading → Reading). ReadingIn (k x)) z (add-in p x l.0 r)
  move_in at None l g n x q r = absurd (let z : ◌≡◌ {A = ℕ} 0 1 = cc in omega arith)

  pub reading-in : (at : ℕ) → ReadingIn (reading_from s at)
  unfolding reading_from value_step
  reading-in at =
      walk-ind (value_step s) unfit s value-ok (λ _ r. ReadingIn r)
      (λ p r e. halt-in p (entry_at s p) (entry-lands s p) r e)
      (λ p g n x e h l. move_in p (entry_at s p) (entry-lands s p) g n x e l) at
