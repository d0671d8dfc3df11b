-- Where each part ends: after its start, and within the value.
-- Assumes nothing.
use mathlib.Core.Path.{◌≡◌, subst}
use mathlib.Core.Bool.{Bool}
use mathlib.Core.List.{List}
use Prim.Native.Nat.{ℕ, ◌+◌, ◌≤◌, ◌<◌, max}
use native.Mathlib.Omega.{arith}
use lib.Dec.{eqb, leb}
use lib.ListN.{length, get_or, drop, length-drop}
use borrow.Author.Tests.{eqb-true, eqb-false, leb-false}
use Rattle.base_lists.proofs.Cuts.{run-le}
use Rattle.value_cursor.specs.Bytes.{is_token, is_uri, is_text, is_escapable}
use Rattle.value_cursor.specs.Walk.{run_at}
use Rattle.value_cursor.specs.Walk.{halt, move}
use Rattle.value_cursor.specs.Parts.{white_at, token_at, escape_byte, quote_at, quote_move, quoted_step}
use Rattle.value_cursor.specs.Parts.{quoted_from, quoted_at}
use Rattle.value_cursor.specs.Parts.{setting_at, named, param_at, param_next, following_at}
use Rattle.value_cursor.specs.Parts.{following_move, ending_step, ending_at, span_to, found, closed_uri}
use Rattle.value_cursor.specs.Parts.{entry_at}
use Rattle.value_cursor.specs.declared.cursor.Quote.{Quote}
use Rattle.value_cursor.specs.declared.cursor.Quote.TheVariants.{Closed, Escaped}
use Rattle.value_cursor.specs.declared.alert_param.Span.{Span}
use Rattle.value_cursor.specs.declared.alert_param.Following.{Following}
use Rattle.value_cursor.specs.declared.alert_param.Following.TheVariants.{Nothing, Comma, Param}
use Rattle.value_cursor.specs.declared.alert_param.Ending.{Ending}
use Rattle.value_cursor.specs.declared.alert_param.Ending.TheVariants.{ValueEnd, NextEntry}
use Rattle.value_cursor.specs.declared.alert_param.Found.{Found}
use Rattle.value_cursor.specs.declared.alert_param.Found.TheVariants.{Last, More}
use Rattle.value_cursor.proofs.RunLaws.{peeked, by-test}
use Rattle.value_cursor.proofs.WhiteLaws.{white-from}
use Rattle.value_cursor.proofs.WalkLaws.{walk-ind}
use Rattle.std.specs.Prelude.{Option, Some, None}
use Rattle.value_cursor.specs.declared.cursor.Cursor.{Cursor}

module _ (p : ℕ → Bool) (s : List ℕ) (at : ℕ) where
  pub run-from : at ≤ run_at p s at
  unfolding run_at
  run-from = omega arith

  pub run-to : run_at p s at ≤ max at (length s)
  unfolding run_at
  run-to = omega (arith, run-le p (drop at s), length-drop at s)

abbrev pub Inner : List ℕ → ℕ → ℕ → Type 0
Inner s at n = (at < n) × (n ≤ length s)

abbrev pub Lands : List ℕ → ℕ → Option Cursor → Type 0
Lands s at (Some c) = Inner s at c.at
Lands s at None = Unit

abbrev pub QuoteLands : List ℕ → ℕ → Option Quote → Type 0
QuoteLands s at (Some (Closed c)) = Inner s at c.at
QuoteLands s at (Some (Escaped c)) = Inner s at c.at
QuoteLands s at None = Unit

later : (s : List ℕ) (at from : ℕ) (p : Option Cursor) → at ≤ from → Lands s from p → Lands s at p
later s at from (Some c) h l = omega arith
later s at from None h l = tt

module _ (s : List ℕ) where
  pub token-lands : (at : ℕ) → Lands s at (token_at s at)
  unfolding token_at
  token-lands at =
      by-test (Lands s at) (eqb at (run_at is_token s at)) None (Some (record { at = run_at is_token s at })) (λ _. tt)
      (λ e. let n = eqb-false at (run_at is_token s at) e in omega (arith, n, run-from is_token s at, run-to is_token s at))

  pub quote-lands : (at : ℕ) → QuoteLands s at (quote_at s at)
  unfolding quote_at
  quote-lands at =
      let e = run_at is_text s at in
      by-test (QuoteLands s at) (eqb (get_or s e 0) 34) (Some (Closed (record { at = e + 1 }))) _
      (λ q. let h = peeked s e 33 (eqb-true _ _ q) in omega (arith, h, run-from is_text s at))
      (λ _. by-test (QuoteLands s at) (eqb (get_or s e 0) 92) (escape_byte s (e + 1)) None
      (λ _. by-test (QuoteLands s at) (leb (length s) (e + 1)) None _ (λ _. tt)
      (λ i. let h = leb-false (length s) (e + 1) i in
      by-test (QuoteLands s at) (is_escapable (get_or s (e + 1) 0)) (Some (Escaped (record { at = e + 1 + 1 }))) None
      (λ _. omega (arith, h, run-from is_text s at)) (λ _. tt)))
      (λ _. tt))

  quote-ok : (at : ℕ) (q : Option Quote) → QuoteLands s at q → (g : Option Cursor → Option Cursor) (n : ℕ) → quote_move q ≡ move g n
      → Inner s at n
  quote-ok at (Some (Closed c)) l g n e = absurd (let z : ◌≡◌ {A = ℕ} 0 1 = cc in omega arith)
  quote-ok at (Some (Escaped c)) l g n e = let z : c.at ≡ n = cc in omega arith
  quote-ok at None l g n e = absurd (let z : ◌≡◌ {A = ℕ} 0 1 = cc in omega arith)

  pub quoted-ok : (at : ℕ) (g : Option Cursor → Option Cursor) (n : ℕ) → quoted_step s at ≡ move g n → Inner s at n
  unfolding quoted_step
  quoted-ok at g n e = quote-ok at (quote_at s at) (quote-lands at) g n e

  quote-halt : (at : ℕ) (q : Option Quote) → QuoteLands s at q → (r : Option Cursor) → quote_move q ≡ halt r → Lands s at r
  quote-halt at (Some (Closed c)) l r e = let z : Some c ≡ r = cc in subst (Lands s at) z l
  quote-halt at (Some (Escaped c)) l r e = absurd (let z : ◌≡◌ {A = ℕ} 0 1 = cc in omega arith)
  quote-halt at None l r e = let z : None ≡ r = cc in subst (Lands s at) z tt

  quote-on : (at : ℕ) (q : Option Quote) (g : Option Cursor → Option Cursor) (n : ℕ) (x : Option Cursor) → quote_move q ≡ move g n → at ≤ n
      → Lands s n x → Lands s at (g x)
  quote-on at (Some (Closed c)) g n x e h l = absurd (let z : ◌≡◌ {A = ℕ} 0 1 = cc in omega arith)
  quote-on at (Some (Escaped c)) g n x e h l =
      let z : ◌≡◌ {A = (Option Cursor) → Option Cursor} (λ p. p) g = cc in
      subst (λ (k : Option Cursor → Option Cursor). Lands s at (k x)) z (later s at n x h l)
  quote-on at None g n x e h l = absurd (let z : ◌≡◌ {A = ℕ} 0 1 = cc in omega arith)

  quoted-lands-from : (at : ℕ) → Lands s at (quoted_from s at)
  unfolding quoted_from quoted_step
  quoted-lands-from at =
      walk-ind (quoted_step s) None s quoted-ok (Lands s)
      (λ p r e. quote-halt p (quote_at s p) (quote-lands p) r e)
      (λ p g n x e h l. quote-on p (quote_at s p) g n x e (omega arith) l) at

  pub quoted-lands : (at : ℕ) → Lands s at (quoted_at s at)
  unfolding quoted_at
  quoted-lands at =
      by-test (Lands s at) (eqb (get_or s at 0) 34) (quoted_from s (at + 1)) None
      (λ _. later s at (at + 1) (quoted_from s (at + 1)) (omega arith) (quoted-lands-from (at + 1))) (λ _. tt)

  pub setting-lands : (at : ℕ) → Lands s at (setting_at s at)
  unfolding setting_at
  setting-lands at = by-test (Lands s at) (eqb (get_or s at 0) 34) (quoted_at s at) (token_at s at) (λ _. quoted-lands at)
      (λ _. token-lands at)

  named-lands : (at : ℕ) (p : Option Cursor) → Lands s at p → Lands s at (named s p)
  named-lands at (Some c) h =
      let e = white_at s c.at in
      let v = white_at s (e + 1) in
      by-test (Lands s at) (eqb (get_or s e 0) 61) (setting_at s v) (Some c)
      (λ _. later s at v (setting_at s v) (omega (arith, white-from s c.at, white-from s (e + 1))) (setting-lands v))
      (λ _. h)
  named-lands at None h = tt

  pub param-lands : (at : ℕ) → Lands s at (param_at s at)
  unfolding param_at
  param-lands at = named-lands at (token_at s (white_at s at))
      (later s at (white_at s at) (token_at s (white_at s at)) (white-from s at) (token-lands (white_at s at)))

abbrev pub FollowingLands : List ℕ → ℕ → Option Following → Type 0
FollowingLands s at (Some Nothing) = Unit
FollowingLands s at (Some (Comma c)) = Inner s at c.at
FollowingLands s at (Some (Param c)) = Inner s at c.at
FollowingLands s at None = Unit

abbrev pub EndingLands : List ℕ → ℕ → Option Ending → Type 0
EndingLands s at (Some ValueEnd) = Unit
EndingLands s at (Some (NextEntry c)) = Inner s at c.at
EndingLands s at None = Unit

-- a part lies within the value
abbrev pub SpanIn : List ℕ → Span → Type 0
SpanIn s p = p.start + p.len ≤ length s

-- the URI lies within the value, and the next entry begins after this one's start
abbrev pub FoundLands : List ℕ → ℕ → Option Found → Type 0
FoundLands s at (Some (Last p)) = SpanIn s p
FoundLands s at (Some (More p c)) = SpanIn s p × Inner s at c.at
FoundLands s at None = Unit

module _ (s : List ℕ) where
  param_next-lands : (at from : ℕ) (p : Option Cursor) → at ≤ from → Lands s from p → FollowingLands s at (param_next p)
  param_next-lands at from (Some c) h l = omega arith
  param_next-lands at from None h l = tt

  pub following-lands : (at : ℕ) → FollowingLands s at (following_at s at)
  unfolding following_at
  following-lands at =
      let w = white_at s at in
      by-test (FollowingLands s at) (leb (length s) w) (Some Nothing) _ (λ _. tt)
      (λ i. let h = leb-false (length s) w i in
      by-test (FollowingLands s at) (eqb (get_or s w 0) 44) (Some (Comma (record { at = w + 1 }))) _
      (λ _. omega (arith, h, white-from s at))
      (λ _. by-test (FollowingLands s at) (eqb (get_or s w 0) 59) (param_next (param_at s (w + 1))) None
      (λ _. param_next-lands at (w + 1) (param_at s (w + 1)) (omega (arith, white-from s at)) (param-lands s (w + 1)))
      (λ _. tt)))

  following-ok : (at : ℕ) (t : Option Following) → FollowingLands s at t → (g : Option Ending → Option Ending) (n : ℕ)
      → following_move t ≡ move g n → Inner s at n
  following-ok at (Some Nothing) l g n e = absurd (let z : ◌≡◌ {A = ℕ} 0 1 = cc in omega arith)
  following-ok at (Some (Comma c)) l g n e = absurd (let z : ◌≡◌ {A = ℕ} 0 1 = cc in omega arith)
  following-ok at (Some (Param c)) l g n e = let z : c.at ≡ n = cc in omega arith
  following-ok at None l g n e = absurd (let z : ◌≡◌ {A = ℕ} 0 1 = cc in omega arith)

  pub ending-ok : (at : ℕ) (g : Option Ending → Option Ending) (n : ℕ) → ending_step s at ≡ move g n → Inner s at n
  unfolding ending_step
  ending-ok at g n e = following-ok at (following_at s at) (following-lands at) g n e

  halt-lands : (at : ℕ) (t : Option Following) → FollowingLands s at t → (r : Option Ending) → following_move t ≡ halt r
      → EndingLands s at r
  halt-lands at (Some Nothing) l r e = let z : (Some ValueEnd) ≡ r = cc in subst (EndingLands s at) z tt
  halt-lands at (Some (Comma c)) l r e = let z : Some (NextEntry c) ≡ r = cc in subst (EndingLands s at) z l
  halt-lands at (Some (Param c)) l r e = absurd (let z : ◌≡◌ {A = ℕ} 0 1 = cc in omega arith)
  halt-lands at None l r e = let z : None ≡ r = cc in subst (EndingLands s at) z tt

  ending-later : (at from : ℕ) (t : Option Ending) → at ≤ from → EndingLands s from t → EndingLands s at t
  ending-later at from (Some ValueEnd) h l = tt
  ending-later at from (Some (NextEntry c)) h l = omega arith
  ending-later at from None h l = tt

  move-lands : (at : ℕ) (t : Option Following) (g : Option Ending → Option Ending) (n : ℕ) (x : Option Ending) → following_move t ≡ move g n
      → at ≤ n → EndingLands s n x → EndingLands s at (g x)
  move-lands at (Some Nothing) g n x e h l = absurd (let z : ◌≡◌ {A = ℕ} 0 1 = cc in omega arith)
  move-lands at (Some (Comma c)) g n x e h l = absurd (let z : ◌≡◌ {A = ℕ} 0 1 = cc in omega arith)
  move-lands at (Some (Param c)) g n x e h l =
      let z : ◌≡◌ {A = Option Ending → Option Ending} (λ t. t) g = cc in
      subst (λ (k : Option Ending → Option Ending). EndingLands s at (k x)) z (ending-later at n x h l)
  move-lands at None g n x e h l = absurd (let z : ◌≡◌ {A = ℕ} 0 1 = cc in omega arith)

  pub ending-lands : (at : ℕ) → EndingLands s at (ending_at s at)
  unfolding ending_at ending_step
  ending-lands at =
      walk-ind (ending_step s) None s ending-ok (EndingLands s)
      (λ p r e. halt-lands p (following_at s p) (following-lands p) r e)
      (λ p g n x e h l. move-lands p (following_at s p) g n x e (omega arith) l) at

  found-lands : (at a e : ℕ) (t : Option Ending) → a ≤ e → e ≤ length s → at ≤ e → EndingLands s e t
      → FoundLands s at (found (span_to a e) t)
  found-lands at a e (Some ValueEnd) h k i l = omega arith
  found-lands at a e (Some (NextEntry c)) h k i l = (omega arith, omega arith)
  found-lands at a e None h k i l = tt

  pub entry-lands : (at : ℕ) → FoundLands s at (entry_at s at)
  unfolding entry_at
  entry-lands at =
      let w = white_at s at in
      let a = w + 1 in
      let e = run_at is_uri s a in
      by-test (FoundLands s at) (eqb (get_or s w 0) 60) (closed_uri s a e) None
      (λ _. by-test (FoundLands s at) (eqb a e) None _ (λ _. tt)
      (λ _. by-test (FoundLands s at) (eqb (get_or s e 0) 62) (found (span_to a e) (ending_at s (e + 1))) None
      (λ f. let h = peeked s e 61 (eqb-true _ _ f) in
      found-lands at a e (ending_at s (e + 1)) (run-from is_uri s a) (omega arith)
      (omega (arith, white-from s at, run-from is_uri s a))
      (ending-later e (e + 1) (ending_at s (e + 1)) (omega arith) (ending-lands (e + 1))))
      (λ _. tt)))
      (λ _. tt)
