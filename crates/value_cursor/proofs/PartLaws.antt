-- The cases of what a token, a setting, a parameter and an entry are, each from the tests that lead to it.
-- Assumes nothing.
use mathlib.Core.Path.{◌≡◌, sym, ap, ◌∙◌, subst}
use mathlib.Core.List.{List}
use Prim.Native.Nat.{ℕ, ◌+◌, ◌≤◌, ◌<◌}
use lib.ListN.{length, get_or}
use borrow.Author.Tests.{eq-eqb, ne_eqb, le-leb, lt-leb}
use Rattle.value_cursor.specs.Bytes.{is_token, is_uri}
use Rattle.value_cursor.specs.Walk.{run_at}
use Rattle.value_cursor.specs.Walk.{halt}
use Rattle.value_cursor.specs.Parts.{white_at, token_at, quoted_at, setting_at, named, param_at, param_next}
use Rattle.value_cursor.specs.Parts.{following_at, following_move, ending_step, ending_at, span_to, found}
use Rattle.value_cursor.specs.Parts.{closed_uri, entry_at}
use Rattle.value_cursor.specs.declared.cursor.Cursor.{Cursor}
use Rattle.value_cursor.specs.declared.alert_param.Following.{Following}
use Rattle.value_cursor.specs.declared.alert_param.Following.TheVariants.{Nothing, Comma, Param}
use Rattle.value_cursor.specs.declared.alert_param.Ending.{Ending}
use Rattle.value_cursor.proofs.WalkLaws.{walk-halt, walk-move}
use Rattle.value_cursor.proofs.Lands.{FollowingLands, following-lands}
use Rattle.std.specs.Prelude.{Option, Some, None}

module _ (s : List ℕ) (at : ℕ) where
  pub token-none : (to : ℕ) → to ≡ run_at is_token s at → at ≡ to → None ≡ token_at s at
  unfolding token_at
  token-none to e f = simp (← e, eq-eqb _ _ f)

  pub token-some : (c : Cursor) → c.at ≡ run_at is_token s at → (at ≡ c.at → ⊥) → Some c ≡ token_at s at
  unfolding token_at
  token-some c e f = simp (← e, ne_eqb _ _ f)

  pub setting-quoted : (b : ℕ) (r : Option Cursor) → b ≡ get_or s at 0 → b ≡ 34 → r ≡ quoted_at s at → r ≡ setting_at s at
  unfolding setting_at
  setting-quoted b r e f g = simp (← e, eq-eqb _ _ f) g

  pub setting-token : (b : ℕ) (r : Option Cursor) → b ≡ get_or s at 0 → (b ≡ 34 → ⊥) → r ≡ token_at s at → r ≡ setting_at s at
  unfolding setting_at
  setting-token b r e f g = simp (← e, ne_eqb _ _ f) g

  module _ (w : ℕ) (ew : w ≡ white_at s at) where
    -- what the token is
    named-of : (t k : Option Cursor) → t ≡ token_at s w → t ≡ k → named s k ≡ param_at s at
    unfolding param_at
    named-of t k e f = ap (named s) (sym f ∙ e) ∙ ap (λ (x : ℕ). named s (token_at s x)) ew

    pub param-none : (t : Option Cursor) → t ≡ token_at s w → t ≡ None → None ≡ param_at s at
    param-none t e f = named-of t None e f

    module _ (t : Option Cursor) (et : t ≡ token_at s w) (c : Cursor) (ec : t ≡ Some c) (e : ℕ) (ee : e ≡ white_at s c.at)
        (b : ℕ) (eb : b ≡ get_or s e 0) where
      pub param-bare : (b ≡ 61 → ⊥) → Some c ≡ param_at s at
      param-bare f = simp (← ee, ← eb, ne_eqb _ _ f) at (named-of t (Some c) et ec)

      pub param-set : b ≡ 61 → (v : ℕ) (r : Option Cursor) → v ≡ white_at s (e + 1) → r ≡ setting_at s v → r ≡ param_at s at
      param-set f v r ev er = er ∙ simp (← ee, ← eb, eq-eqb _ _ f, ← ev) at (named-of t (Some c) et ec)

    pub following-stop : length s ≤ w → (Some Nothing) ≡ following_at s at
    unfolding following_at
    following-stop h = simp (← ew, le-leb _ _ h)

    module _ (h : w < length s) where
      pub following-entry : get_or s w 0 ≡ 44 → Some (Comma (record { at = w + 1 })) ≡ following_at s at
      unfolding following_at
      following-entry e = simp (← ew, lt-leb _ _ h, eq-eqb _ _ e)

      pub following-bad : (get_or s w 0 ≡ 44 → ⊥) → (get_or s w 0 ≡ 59 → ⊥) → None ≡ following_at s at
      unfolding following_at
      following-bad e f = simp (← ew, lt-leb _ _ h, ne_eqb _ _ e, ne_eqb _ _ f)

      pub following-param : (get_or s w 0 ≡ 44 → ⊥) → get_or s w 0 ≡ 59 → (p k : Option Cursor) → p ≡ param_at s (w + 1) → p ≡ k
          → param_next k ≡ following_at s at
      unfolding following_at
      following-param e f p k ep ek = simp (← ew, lt-leb _ _ h, ne_eqb _ _ e, eq-eqb _ _ f) (ap param_next (sym ek ∙ ep))

    module _ (b : ℕ) (eb : b ≡ get_or s w 0) where
      pub entry-open : (b ≡ 60 → ⊥) → None ≡ entry_at s at
      unfolding entry_at
      entry-open f = simp (← ew, ← eb, ne_eqb _ _ f)

      module _ (f : b ≡ 60) (u : ℕ) (eu : u ≡ run_at is_uri s (w + 1)) where
        opened-entry : closed_uri s (w + 1) u ≡ entry_at s at
        unfolding entry_at
        opened-entry = simp (← ew, ← eb, eq-eqb _ _ f, ← eu)

        pub entry-empty : w + 1 ≡ u → None ≡ entry_at s at
        entry-empty h = simp (eq-eqb _ _ h) at opened-entry

        module _ (ne : w + 1 ≡ u → ⊥) (g : ℕ) (eg : g ≡ get_or s u 0) where
          pub entry_closed : (g ≡ 62 → ⊥) → None ≡ entry_at s at
          entry_closed h = simp (ne_eqb _ _ ne, ← eg, ne_eqb _ _ h) at opened-entry

          pub entry-some : g ≡ 62 → (t k : Option Ending) → t ≡ ending_at s (u + 1) → t ≡ k
              → found (span_to (w + 1) u) k ≡ entry_at s at
          entry-some h t k et ek = ap (found (span_to (w + 1) u)) (sym ek ∙ et)
              ∙ simp (ne_eqb _ _ ne, ← eg, eq-eqb _ _ h) at opened-entry

  -- the loop over parameters
  pub ending-halt : (t k : Option Following) (r : Option Ending) → t ≡ following_at s at → t ≡ k → following_move k ≡ halt r
      → ending_at s at ≡ r
  unfolding ending_at ending_step
  ending-halt t k r e f g = walk-halt (ending_step s) None s at r (ap following_move (sym e ∙ f) ∙ g)

  pub ending-more : (t : Option Following) (c : Cursor) → t ≡ following_at s at → t ≡ Some (Param c)
      → (ending_at s at ≡ ending_at s c.at) × (at < c.at) × (c.at ≤ length s)
  unfolding ending_at ending_step
  ending-more t c e f =
      let l = subst (FollowingLands s at) (sym e ∙ f) (following-lands s at) in
      (walk-move (ending_step s) None s at (λ x. x) c.at (ap following_move (sym e ∙ f)) l.0 l.1, l.0, l.1)
