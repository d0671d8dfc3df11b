-- A quoted string: text, and what follows it.
-- Assumes nothing.
use mathlib.Core.Path.{◌≡◌, refl, sym, ap, ◌∙◌, subst}
use mathlib.Core.Bool.{Bool, true, false}
use mathlib.Core.List.{List}
use Prim.Native.Nat.{ℕ, ◌+◌, ◌≤◌, ◌<◌}
use native.Mathlib.Omega.{arith}
use lib.ListN.{length, get_or}
use borrow.Author.Tests.{eq-eqb, ne_eqb, le-leb, lt-leb}
use Rattle.value_cursor.specs.Bytes.{is_text, is_escapable}
use Rattle.value_cursor.specs.Walk.{run_at, Move, halt, move, walk_at}
use Rattle.value_cursor.specs.Parts.{escape_byte, quote_byte, quote_at, quote_move, quoted_step, quoted_from, quoted_at}
use Rattle.value_cursor.specs.declared.cursor.Cursor.{Cursor}
use Rattle.value_cursor.specs.declared.cursor.Quote.{Quote}
use Rattle.value_cursor.specs.declared.cursor.Quote.TheVariants.{Closed, Escaped}
use Rattle.value_cursor.proofs.RunLaws.{run_step, run-stop, peeked}
use Rattle.value_cursor.proofs.WalkLaws.{walk-halt, walk-move}
use Rattle.value_cursor.proofs.Lands.{QuoteLands, quote-lands, quoted-ok}
use Rattle.std.specs.Prelude.{Option, Some, None}

module _ (s : List ℕ) (at : ℕ) where
  pub opened : get_or s at 0 ≡ 34 → quoted_at s at ≡ quoted_from s (at + 1)
  unfolding quoted_at
  opened e = simp (eq-eqb _ _ e)

  pub unopened : (b : ℕ) → b ≡ get_or s at 0 → (b ≡ 34 → ⊥) → None ≡ quoted_at s at
  unfolding quoted_at
  unopened b e n = simp (← e, ne_eqb _ _ n)

  -- text runs up to e, where the byte b stands
  module _ (e : ℕ) (ee : e ≡ run_at is_text s at) (b : ℕ) (eb : b ≡ get_or s e 0) where
    pub quote-closed : b ≡ 34 → Some (Closed (record { at = e + 1 })) ≡ quote_at s at
    unfolding quote_at
    quote-closed f = simp (← ee, ← eb, eq-eqb _ _ f)

    module _ (no : b ≡ 34 → ⊥) where
      pub quote-stray : (b ≡ 92 → ⊥) → None ≡ quote_at s at
      unfolding quote_at
      quote-stray f = simp (← ee, ← eb, ne_eqb _ _ no, ne_eqb _ _ f)

      pub quote-escape : {q : Option Quote} → b ≡ 92 → q ≡ escape_byte s (e + 1) → q ≡ quote_at s at
      unfolding quote_at
      quote-escape f g = simp (← ee, ← eb, ne_eqb _ _ no, eq-eqb _ _ f) g

  -- no text before the backslash
  pub quote-here : {b : ℕ} {q : Option Quote} → b ≡ get_or s at 0 → b ≡ 92 → q ≡ escape_byte s (at + 1) → q ≡ quote_at s at
  unfolding is_text
  quote-here {b} e f g =
      quote-escape at (sym (run-stop is_text s at (peeked s at 91 (sym e ∙ f)) (ap is_text (sym e ∙ f)))) b e (λ z. omega arith) f g

-- the byte after a backslash
module _ (s : List ℕ) (at : ℕ) where
  pub escape-ends : length s ≤ at → None ≡ escape_byte s at
  escape-ends h = simp (le-leb _ _ h)

  module _ (h : at < length s) {x : Bool} (ex : x ≡ is_escapable (get_or s at 0)) where
    pub escape-broken : x ≡ false → None ≡ escape_byte s at
    escape-broken f = simp (lt-leb _ _ h, sym ex ∙ f)

    pub escape-passed : x ≡ true → Some (Escaped (record { at = at + 1 })) ≡ escape_byte s at
    escape-passed f = simp (lt-leb _ _ h, sym ex ∙ f)

module _ (s : List ℕ) (at : ℕ) where
  -- the loop over escaped bytes
  pub quoted-halt : (q k : Option Quote) (r : Option Cursor) → q ≡ quote_at s at → q ≡ k → quote_move k ≡ halt r → quoted_from s at ≡ r
  unfolding quoted_from quoted_step
  quoted-halt q k r e f g = walk-halt (quoted_step s) None s at r (ap quote_move (sym e ∙ f) ∙ g)

  pub quoted-more : (q : Option Quote) (c : Cursor) → q ≡ quote_at s at → q ≡ Some (Escaped c)
      → (quoted_from s at ≡ quoted_from s c.at) × (at < c.at) × (c.at ≤ length s)
  unfolding quoted_from quoted_step
  quoted-more q c e f =
      let l = subst (QuoteLands s at) (sym e ∙ f) (quote-lands s at) in
      (walk-move (quoted_step s) None s at (λ p. p) c.at (ap quote_move (sym e ∙ f)) l.0 l.1, l.0, l.1)

  -- an escaped byte is passed
  pub escaped-more : get_or s at 0 ≡ 92 → at + 1 < length s → {x : Bool} → x ≡ is_escapable (get_or s (at + 1) 0) → x ≡ true
      → quoted_from s at ≡ quoted_from s (at + 2)
  escaped-more e h f g =
      let z : at + 1 + 1 ≡ at + 2 = omega arith in
      (quoted-more _ (record { at = at + 1 + 1 }) (quote-here s at refl e refl) (sym (escape-passed s (at + 1) h f g))).0 ∙ ap (quoted_from s) z

  -- a byte of text is passed
  module _ (h : at < length s) (t : is_text (get_or s at 0) ≡ true) where
    same_step : quoted_step s at ≡ quoted_step s (at + 1)
    unfolding quoted_step quote_at
    same_step = ap (λ (n : ℕ). quote_move (quote_byte s n)) (run_step is_text s at h t)

    by-step : (m : Move (Option Cursor)) → quoted_step s (at + 1) ≡ m
        → walk_at (quoted_step s) None s at ≡ walk_at (quoted_step s) None s (at + 1)
    by-step (halt r) e =
        walk-halt (quoted_step s) None s at r (same_step ∙ e) ∙ sym (walk-halt (quoted_step s) None s (at + 1) r e)
    by-step (move g n) e =
        let o = quoted-ok s (at + 1) g n e in
        walk-move (quoted_step s) None s at g n (same_step ∙ e) (omega (arith, o.0)) o.1
        ∙ sym (walk-move (quoted_step s) None s (at + 1) g n e o.0 o.1)

    pub quoted-text : quoted_from s at ≡ quoted_from s (at + 1)
    unfolding quoted_from
    quoted-text = by-step (quoted_step s (at + 1)) refl
