-- What is read is in the grammar.
-- Assumes nothing.
use mathlib.Core.Path.{◌≡◌, refl, sym, ap, ◌∙◌, subst}
use mathlib.Core.Bool.{Bool, true}
use mathlib.Core.List.{List, [], ◌∷◌, ◌++◌, map, append_assoc}
use Prim.Native.Nat.{ℕ, zero, suc, ◌+◌, ◌-◌, ◌<◌}
use native.Mathlib.Nat.{add-zero}
use native.Mathlib.Numerals.{add-one}
use native.Mathlib.Omega.{arith}
use lib.Dec.{T, eqb, leb}
use lib.ListN.{length, get_or, drop, take, take-append-drop, drop_of_length-le}
use lib.Seq.{drop-cons, drop-drop}
use borrow.Author.Tests.{eqb-true, eqb-false, leb-true, leb-false}
use Rattle.base_lists.proofs.Bools.{is_true}
use Rattle.base_lists.specs.Cuts.{run}
use Rattle.value_cursor.specs.Bytes.{is_blank, is_uri, is_token, is_text, is_escapable}
use Rattle.value_cursor.specs.Walk.{run_at}
use Rattle.value_cursor.specs.Walk.{halt, move}
use Rattle.value_cursor.specs.Parts.{fold_at, blank_at, blank_move, white_step, white_at, token_at, escape_byte}
use Rattle.value_cursor.specs.Parts.{quote_at, quote_move}
use Rattle.value_cursor.specs.Parts.{quoted_step, quoted_from, quoted_at, setting_at, named, param_at, param_next}
use Rattle.value_cursor.specs.Parts.{following_at}
use Rattle.value_cursor.specs.Parts.{following_move, ending_step, ending_at, span_to, found, closed_uri, entry_at}
use Rattle.value_cursor.specs.Reading.{Reading, unfit, spans, add, entry_move, value_step, reading_from, reading_of}
use Rattle.value_cursor.specs.declared.cursor.Cursor.{Cursor}
use Rattle.value_cursor.specs.declared.cursor.Quote.{Quote}
use Rattle.value_cursor.specs.declared.cursor.Quote.TheVariants.{Closed, Escaped}
use Rattle.value_cursor.specs.declared.alert_param.Span.{Span}
use Rattle.value_cursor.specs.declared.alert_param.Following.{Following}
use Rattle.value_cursor.specs.declared.alert_param.Following.TheVariants as following
use Rattle.value_cursor.specs.declared.alert_param.Ending.{Ending}
use Rattle.value_cursor.specs.declared.alert_param.Ending.TheVariants.{ValueEnd, NextEntry}
use Rattle.value_cursor.specs.declared.alert_param.Found.{Found}
use Rattle.value_cursor.specs.declared.alert_param.Found.TheVariants.{Last, More}
use Rattle.value_cursor.proofs.RunLaws.{peeked, by-test}
use Rattle.value_cursor.proofs.WhiteLaws.{white-ok, blank-in, fold-bytes}
use Rattle.value_cursor.proofs.WalkLaws.{walk-ind}
use Rattle.value_cursor.proofs.Lands.{quoted-ok, ending-ok}
use Rattle.value_cursor.proofs.ReadingLaws.{value-ok}
use Rattle.value_reader.specs.Value.{part_of}
use Rattle.value_reader.specs.Grammar.{Any, Some, White, Token, Uri, Text, Setting, Param, Params, Entry, Value}
use Rattle.value_reader.specs.Grammar as G
use Rattle.std.specs.Prelude.{Option}
use Rattle.std.specs.declared.option.Option.TheVariants as option

-- the list from a position is some bytes of a kind, and then the list from another position
abbrev pub Reads : (List ℕ → Type 0) → List ℕ → ℕ → ℕ → Type 0
Reads K s at to = (t : List ℕ) × K t × (drop at s ≡ t ++ drop to s)

-- the byte at a position
pub byte_at : (s : List ℕ) (at b : ℕ) → get_or s at 0 ≡ suc b → drop at s ≡ suc b ∷ drop (at + 1) s
byte_at s at b e = rw (drop-cons s at 0 (peeked s at b e), e, add-one)

run-any : (p : ℕ → Bool) (l : List ℕ) → Any p (take (run p l) l)
unfolding run
run-any p [] = G.none
run-any p (b ∷ l) =
    by-test (λ (n : ℕ). Any p (take n (b ∷ l))) (p b) (suc (run p l)) 0 (λ e. G.more (is_true (p b) e) (run-any p l))
    (λ _. G.none)

run-some : (p : ℕ → Bool) (l : List ℕ) → (run p l ≡ 0 → ⊥) → Some p (take (run p l) l)
unfolding run
run-some p [] n = absurd (n refl)
run-some p (b ∷ l) n =
    by-test (λ (k : ℕ). (k ≡ 0 → ⊥) → Some p (take k (b ∷ l))) (p b) (suc (run p l)) 0
    (λ e _. G.some (is_true (p b) e) (run-any p l)) (λ _ z. absurd (z refl)) n

-- the bytes from a position up to another
abbrev pub cut : List ℕ → ℕ → ℕ → List ℕ
cut s at to = take (to - at) (drop at s)

module _ (p : ℕ → Bool) (s : List ℕ) (at : ℕ) where
  cut-run : take (run p (drop at s)) (drop at s) ≡ cut s at (run_at p s at)
  unfolding run_at
  cut-run = let e : run p (drop at s) ≡ at + run p (drop at s) - at = omega arith in ap
      (λ (n : ℕ). take n (drop at s)) e

  pub run-split : drop at s ≡ cut s at (run_at p s at) ++ drop (run_at p s at) s
  unfolding run_at
  run-split =
      sym (take-append-drop (run p (drop at s)) (drop at s))
      ∙ ap (λ (x : List ℕ). x ++ drop (run p (drop at s)) (drop at s)) cut-run
      ∙ ap (λ (x : List ℕ). cut s at (at + run p (drop at s)) ++ x) (drop-drop (run p (drop at s)) at s)

  pub any-cut : Any p (cut s at (run_at p s at))
  any-cut = subst (Any p) cut-run (run-any p (drop at s))

  pub some-cut : (at ≡ run_at p s at → ⊥) → Some p (cut s at (run_at p s at))
  unfolding run_at
  some-cut n = subst (Some p) cut-run (run-some p (drop at s) (λ z. n (omega arith)))

abbrev pub PassedReads : (List ℕ → Type 0) → List ℕ → ℕ → Option Cursor → Type 0
PassedReads K s at (option.Some c) = Reads K s at c.at
PassedReads K s at option.None = Unit

widen : (K L : List ℕ → Type 0) (s : List ℕ) (at : ℕ) → ((t : List ℕ) → K t → L t) → (p : Option Cursor)
    → PassedReads K s at p → PassedReads L s at p
widen K L s at f (option.Some c) r = (r.0, f r.0 r.1, r.2)
widen K L s at f option.None r = tt

-- text of a quoted string, and what follows it
abbrev QuoteReads : List ℕ → ℕ → Option Quote → Type 0
QuoteReads s at (option.Some (Closed c)) = (x : List ℕ) × Any is_text x × (drop at s ≡ x ++ (34 ∷ drop c.at s))
QuoteReads s at (option.Some (Escaped c)) =
    (x : List ℕ) × (b : ℕ) × Any is_text x × T (is_escapable b) × (drop at s ≡ x ++ (92 ∷ b ∷ drop c.at s))
QuoteReads s at option.None = Unit

-- a quoted string after its opening quote
abbrev TextReads : List ℕ → ℕ → Option Cursor → Type 0
TextReads s at (option.Some c) = (x : List ℕ) × Text x × (drop at s ≡ x ++ (34 ∷ drop c.at s))
TextReads s at option.None = Unit

text-any : {x y : List ℕ} → Any is_text x → Text y → Text (x ++ y)
text-any G.none k = k
text-any (G.more t a) k = G.plain t (text-any a k)

any-text : {x : List ℕ} → Any is_text x → Text x
any-text G.none = G.ends
any-text (G.more t a) = G.plain t (any-text a)

module _ (s : List ℕ) where
  quote-reads : (at : ℕ) → QuoteReads s at (quote_at s at)
  unfolding quote_at
  quote-reads at =
      let e = run_at is_text s at in
      by-test (QuoteReads s at) (eqb (get_or s e 0) 34) (option.Some (Closed (record { at = e + 1 }))) _
      (λ q. (
        cut s at e,
        any-cut is_text s at,
        run-split is_text s at
            ∙ ap (λ (l : List ℕ). cut s at e ++ l) (byte_at s e 33 (eqb-true _ _ q)),
      ))
      (λ _. by-test (QuoteReads s at) (eqb (get_or s e 0) 92) (escape_byte s (e + 1)) option.None
      (λ q. by-test (QuoteReads s at) (leb (length s) (e + 1)) option.None _ (λ _. tt)
      (λ i. by-test (QuoteReads s at) (is_escapable (get_or s (e + 1) 0)) (option.Some (Escaped (record { at = e + 1 + 1 }))) option.None
      (λ k. (
        cut s at e,
        get_or s (e + 1) 0,
        any-cut is_text s at,
        is_true (is_escapable (get_or s (e + 1) 0)) k,
        run-split is_text s at
            ∙ ap (λ (l : List ℕ). cut s at e ++ l) (byte_at s e 91 (eqb-true _ _ q)
            ∙ ap (λ (l : List ℕ). 92 ∷ l) (byte-in (e + 1) (leb-false (length s) (e + 1) i))),
      ))
      (λ _. tt)))
      (λ _. tt))
    where
      byte-in : (n : ℕ) → n < length s → drop n s ≡ get_or s n 0 ∷ drop (n + 1) s
      byte-in n h = rw (drop-cons s n 0 h, add-one)

  quote-halt : (at : ℕ) (q : Option Quote) → QuoteReads s at q → (r : Option Cursor) → quote_move q ≡ halt r → TextReads s at r
  quote-halt at (option.Some (Closed c)) l r e = let z : option.Some c ≡ r = cc in subst (TextReads s at) z (l.0, any-text l.1, l.2)
  quote-halt at (option.Some (Escaped c)) l r e = absurd (let z : ◌≡◌ {A = ℕ} 0 1 = cc in omega arith)
  quote-halt at option.None l r e = let z : option.None ≡ r = cc in subst (TextReads s at) z tt

  text-more : (at n : ℕ) (x : List ℕ) (b : ℕ) → Any is_text x → T (is_escapable b) → drop at s ≡ x ++ (92 ∷ b ∷ drop n s)
      → (p : Option Cursor) → TextReads s n p → TextReads s at p
  text-more at n x b a t h (option.Some c) r = (
    x ++ (92 ∷ b ∷ r.0),
    text-any a (G.escaped t r.1),
    h ∙ ap (λ (l : List ℕ). x ++ (92 ∷ b ∷ l)) r.2 ∙ sym (append_assoc x (92 ∷ b ∷ r.0) (34 ∷ drop c.at s)),
  )
  text-more at n x b a t h option.None r = tt

  quote-on : (at : ℕ) (q : Option Quote) → QuoteReads s at q → (g : Option Cursor → Option Cursor) (n : ℕ) (x : Option Cursor)
      → quote_move q ≡ move g n
      → TextReads s n x → TextReads s at (g x)
  quote-on at (option.Some (Closed c)) l g n x e r = absurd (let z : ◌≡◌ {A = ℕ} 0 1 = cc in omega arith)
  quote-on at (option.Some (Escaped c)) l g n x e r =
      let z : ◌≡◌ {A = (Option Cursor) → Option Cursor} (λ p. p) g = cc in
      let y : n ≡ c.at = cc in
      subst (λ (k : Option Cursor → Option Cursor). TextReads s at (k x)) z
      (text-more at c.at l.0 l.1 l.2 l.3 l.4 x (subst (λ (m : ℕ). TextReads s m x) y r))
  quote-on at option.None l g n x e r = absurd (let z : ◌≡◌ {A = ℕ} 0 1 = cc in omega arith)

  text-reads : (at : ℕ) → TextReads s at (quoted_from s at)
  unfolding quoted_from quoted_step
  text-reads at =
      walk-ind (quoted_step s) option.None s (quoted-ok s) (TextReads s)
      (λ p r e. quote-halt p (quote_at s p) (quote-reads p) r e)
      (λ p g n x e h l. quote-on p (quote_at s p) (quote-reads p) g n x e l) at

  opened : (at : ℕ) (p : Option Cursor) → drop at s ≡ 34 ∷ drop (at + 1) s → TextReads s (at + 1) p
      → PassedReads Setting s at p
  opened at (option.Some c) h r = (
    34 ∷ (r.0 ++ (34 ∷ [])),
    G.quoted r.1,
    h ∙ ap (λ (x : List ℕ). 34 ∷ x) (r.2 ∙ sym (append_assoc r.0 (34 ∷ []) (drop c.at s))),
  )
  opened at option.None h r = tt

  quoted-reads : (at : ℕ) → PassedReads Setting s at (quoted_at s at)
  unfolding quoted_at
  quoted-reads at =
      by-test (PassedReads Setting s at) (eqb (get_or s at 0) 34) (quoted_from s (at + 1)) option.None
      (λ e. opened at (quoted_from s (at + 1)) (byte_at s at 33 (eqb-true (get_or s at 0) 34 e)) (text-reads (at + 1)))
      (λ _. tt)

  token-reads : (at : ℕ) → PassedReads Token s at (token_at s at)
  unfolding token_at
  token-reads at =
      by-test (PassedReads Token s at) (eqb at (run_at is_token s at)) option.None (option.Some (record { at = run_at is_token s at })) (λ _. tt)
      (λ e. (
        cut s at (run_at is_token s at),
        some-cut is_token s at
            (eqb-false at (run_at is_token s at) e),
        run-split is_token s at,
      ))

  setting-reads : (at : ℕ) → PassedReads Setting s at (setting_at s at)
  unfolding setting_at
  setting-reads at =
      by-test (PassedReads Setting s at) (eqb (get_or s at 0) 34) (quoted_at s at) (token_at s at)
      (λ _. quoted-reads at) (λ _. widen Token Setting s at (λ t k. G.token k) (token_at s at) (token-reads at))

  -- what stands at a position as white space
  abbrev BlankReads : ℕ → ℕ → Type 0
  BlankReads at k = (l : List ℕ) → White l → (to : ℕ) → drop (at + k) s ≡ l ++ drop to s → Reads White s at to

  blank-reads : (at : ℕ) → BlankReads at (blank_at s at)
  unfolding blank_at
  blank-reads at =
      let b = get_or s at 0 in
      let c = get_or s (at + 2) 0 in
      by-test (BlankReads at) (is_blank b) 1 _
      (λ e l w to h. (b ∷ l, G.blank (is_true (is_blank b) e) w, blank-byte at e ∙ ap (λ (x : List ℕ). b ∷ x) h))
      (λ _. by-test (BlankReads at) (fold_at s at) 3 0
      (λ e l w to h. let f = fold-bytes s at e in (
        13 ∷ 10 ∷ c ∷ l,
        G.fold (is_true (is_blank c) f.2) w,
        fold-byte at f.0 f.1 f.2 ∙ ap (λ (x : List ℕ). 13 ∷ 10 ∷ c ∷ x) h,
      ))
      (λ _ l w to h. (l, w, ap (λ (n : ℕ). drop n s) (sym (add-zero at)) ∙ h)))
    where
      blank-byte : (at : ℕ) → is_blank (get_or s at 0) ≡ true → drop at s ≡ get_or s at 0 ∷ drop (at + 1) s
      blank-byte at e = rw (drop-cons s at 0 (blank-in s at e), add-one)

      fold-byte : (at : ℕ) → get_or s at 0 ≡ 13 → get_or s (at + 1) 0 ≡ 10 → is_blank (get_or s (at + 2) 0) ≡ true
          → drop at s ≡ 13 ∷ 10 ∷ get_or s (at + 2) 0 ∷ drop (at + 3) s
      fold-byte at cr lf e =
          let two : at + 1 + 1 ≡ at + 2 = omega arith in
          let three : at + 2 + 1 ≡ at + 3 = omega arith in
          byte_at s at 12 cr ∙ ap (λ (x : List ℕ). 13 ∷ x) (byte_at s (at + 1) 9 lf
          ∙ ap (λ (x : List ℕ). 10 ∷ x) (ap (λ (n : ℕ). drop n s) two ∙ blank-byte (at + 2) e
          ∙ ap (λ (n : ℕ). get_or s (at + 2) 0 ∷ drop n s) three))

  pub white-reads : (at : ℕ) → Reads White s at (white_at s at)
  unfolding white_at white_step
  white-reads at =
      walk-ind (white_step s) 0 s (white-ok s) (Reads White s)
      (λ p r e. blank-halt p (blank_at s p) r e)
      (λ p g n x e h l. blank-on p (blank_at s p) (blank-reads p) g n x e l) at
    where
      blank-halt : (at k r : ℕ) → blank_move at k ≡ halt r → Reads White s at r
      blank-halt at zero r e = let z : at ≡ r = cc in ([], G.nothing, ap (λ (n : ℕ). drop n s) z)
      blank-halt at (suc k) r e = absurd (let z : ◌≡◌ {A = ℕ} 0 1 = cc in omega arith)

      blank-on : (at k : ℕ) → BlankReads at k → (g : ℕ → ℕ) (n x : ℕ) → blank_move at k ≡ move g n → Reads White s n x
          → Reads White s at (g x)
      blank-on at zero l g n x e r = absurd (let z : ◌≡◌ {A = ℕ} 0 1 = cc in omega arith)
      blank-on at (suc k) l g n x e r =
          let z : ◌≡◌ {A = ℕ → ℕ} (λ y. y) g = cc in
          let y : at + suc k ≡ n = cc in
          subst (λ (f : ℕ → ℕ). Reads White s at (f x)) z (l r.0 r.1 x (ap (λ (m : ℕ). drop m s) y ∙ r.2))

  set_reads : (at : ℕ) (t : List ℕ) (c : Cursor) (x : List ℕ) → White x → drop at s ≡ x ++ (t ++ drop c.at s)
      → Token t
      → (e : ℕ) → Reads White s c.at e → drop e s ≡ 61 ∷ drop (e + 1) s → (v : ℕ) → Reads White s (e + 1) v
      → (p : Option Cursor) → PassedReads Setting s v p → PassedReads (Param White) s at p
  set_reads at t c x wx h tt' e y q v z (option.Some d) r = (
    x ++ (t ++ (y.0 ++ (61 ∷ (z.0 ++ r.0)))),
    G.set wx tt' y.1 z.1 r.1,
    h ∙ ap (λ (l : List ℕ). x ++ (t ++ l)) (y.2
        ∙ ap (λ (l : List ℕ). y.0 ++ l) (q
        ∙ ap (λ (l : List ℕ). 61 ∷ l) (z.2 ∙ ap (λ (l : List ℕ). z.0 ++ l) r.2)))
        ∙ simp append_assoc,
  )
  set_reads at t c x wx h tt' e y q v z option.None r = tt

  named-reads : (at : ℕ) (x : List ℕ) → White x → (from : ℕ) → drop at s ≡ x ++ drop from s → (p : Option Cursor)
      → PassedReads Token s from p → PassedReads (Param White) s at (named s p)
  named-reads at x wx from h (option.Some c) r =
      let e = white_at s c.at in
      let v = white_at s (e + 1) in
      by-test (PassedReads (Param White) s at) (eqb (get_or s e 0) 61) (setting_at s v) (option.Some c)
      (λ i. set_reads at r.0 c x wx (h
      ∙ ap (λ (l : List ℕ). x ++ l) r.2) r.1 e (white-reads c.at) (byte_at s e 60
      (eqb-true (get_or s e 0) 61 i)) v (white-reads (e + 1)) (setting_at s v) (setting-reads v))
      (λ _. (
        x ++ r.0,
        G.bare wx r.1,
        h ∙ ap (λ (l : List ℕ). x ++ l) r.2
            ∙ sym (append_assoc x r.0 (drop c.at s)),
      ))
  named-reads at x wx from h option.None r = tt

  pub param-reads : (at : ℕ) → PassedReads (Param White) s at (param_at s at)
  unfolding param_at
  param-reads at =
      let w = white-reads at in
      named-reads at w.0 w.1 (white_at s at) w.2 (token_at s (white_at s at)) (token-reads (white_at s at))

-- what follows an entry's URI or a parameter
abbrev FollowingReads : List ℕ → ℕ → Option Following → Type 0
FollowingReads s at (option.Some following.Nothing) = White (drop at s)
FollowingReads s at (option.Some (following.Comma c)) = (w : List ℕ) × White w × (drop at s ≡ w ++ (44 ∷ drop c.at s))
FollowingReads s at (option.Some (following.Param c)) = (w : List ℕ) × (p : List ℕ) × White w × Param White p ×
    (drop at s ≡ w ++ (59 ∷ (p ++ drop c.at s)))
FollowingReads s at option.None = Unit

abbrev EndingReads : List ℕ → ℕ → Option Ending → Type 0
EndingReads s at (option.Some ValueEnd) = (p : List ℕ) × (w : List ℕ) × Params White p × White w × (drop at s ≡ p ++ w)
EndingReads s at (option.Some (NextEntry c)) = (p : List ℕ) × (w : List ℕ) × Params White p × White w ×
    (drop at s ≡ p ++ (w ++ (44 ∷ drop c.at s)))
EndingReads s at option.None = Unit

abbrev pub FoundReads : List ℕ → ℕ → Option Found → Type 0
FoundReads s at (option.Some (Last p)) = (w : List ℕ) × (n : List ℕ) × (x : List ℕ) × White w × Entry White n (part_of s p) × White x ×
    (drop at s ≡ w ++ (n ++ x))
FoundReads s at (option.Some (More p c)) =
    (w : List ℕ) × (n : List ℕ) × (x : List ℕ) × White w × Entry White n (part_of s p) × White x ×
    (drop at s ≡ w ++ (n ++ (x ++ (44 ∷ drop c.at s))))
FoundReads s at option.None = Unit

abbrev ReadingReads : List ℕ → ℕ → Reading → Type 0
ReadingReads s at unfit = Unit
ReadingReads s at (spans ps) = Value White (drop at s) (map (part_of s) ps)

module _ (s : List ℕ) where
  param_next-reads : (at w : ℕ) → Reads White s at w → drop w s ≡ 59 ∷ drop (w + 1) s → (p : Option Cursor)
      → PassedReads (Param White) s (w + 1) p → FollowingReads s at (param_next p)
  param_next-reads at w r h (option.Some c) q = (
    r.0,
    q.0,
    r.1,
    q.1,
    r.2
        ∙ ap (λ (l : List ℕ). r.0 ++ l) (h ∙ ap (λ (l : List ℕ). 59 ∷ l) q.2),
  )
  param_next-reads at w r h option.None q = tt

  append-nil : (l : List ℕ) → l ++ [] ≡ l
  append-nil [] = refl
  append-nil (b ∷ l) = ap (λ (x : List ℕ). b ∷ x) (append-nil l)

  following-reads : (at : ℕ) → FollowingReads s at (following_at s at)
  unfolding following_at
  following-reads at =
      let w = white_at s at in
      let r = white-reads s at in
      by-test (FollowingReads s at) (leb (length s) w) (option.Some following.Nothing) _
      (λ e. subst White (sym (r.2 ∙ ap (λ (l : List ℕ). r.0 ++ l) (drop_of_length-le s (leb-true (length s) w e))
      ∙ append-nil r.0)) r.1)
      (λ _. by-test (FollowingReads s at) (eqb (get_or s w 0) 44) (option.Some (following.Comma (record { at = w + 1 }))) _
      (λ e. (r.0, r.1, r.2 ∙ ap (λ (l : List ℕ). r.0 ++ l) (byte_at s w 43 (eqb-true (get_or s w 0) 44 e))))
      (λ _. by-test (FollowingReads s at) (eqb (get_or s w 0) 59) (param_next (param_at s (w + 1))) option.None
      (λ e. param_next-reads at w r (byte_at s w 58 (eqb-true (get_or s w 0) 59 e)) (param_at s (w + 1))
      (param-reads s (w + 1)))
      (λ _. tt)))

  following-halt : (at : ℕ) (t : Option Following) → FollowingReads s at t → (r : Option Ending) → following_move t ≡ halt r
      → EndingReads s at r
  following-halt at (option.Some following.Nothing) l r e = let z : (option.Some ValueEnd) ≡ r = cc in subst (EndingReads s at) z
      ([], drop at s, G.done, l, refl)
  following-halt at (option.Some (following.Comma c)) l r e = let z : option.Some (NextEntry c) ≡ r = cc in subst (EndingReads s at) z
      ([], l.0, G.done, l.1, l.2)
  following-halt at (option.Some (following.Param c)) l r e = absurd (let z : ◌≡◌ {A = ℕ} 0 1 = cc in omega arith)
  following-halt at option.None l r e = let z : option.None ≡ r = cc in subst (EndingReads s at) z tt

  one_more : (at n : ℕ) (w p : List ℕ) → White w → Param White p → drop at s ≡ w ++ (59 ∷ (p ++ drop n s)) → (t : Option Ending)
      → EndingReads s n t → EndingReads s at t
  one_more at n w p ww pp h (option.Some ValueEnd) r = (
    w ++ (59 ∷ (p ++ r.0)),
    r.1,
    G.param ww pp r.2,
    r.3,
    h ∙ ap (λ (l : List ℕ). w ++ (59 ∷ (p ++ l))) r.4
        ∙ simp append_assoc,
  )
  one_more at n w p ww pp h (option.Some (NextEntry c)) r = (
    w ++ (59 ∷ (p ++ r.0)),
    r.1,
    G.param ww pp r.2,
    r.3,
    h ∙ ap (λ (l : List ℕ). w ++ (59 ∷ (p ++ l))) r.4
        ∙ simp append_assoc,
  )
  one_more at n w p ww pp h option.None r = tt

  following-on : (at : ℕ) (t : Option Following) → FollowingReads s at t → (g : Option Ending → Option Ending) (n : ℕ) (x : Option Ending)
      → following_move t ≡ move g n → EndingReads s n x → EndingReads s at (g x)
  following-on at (option.Some following.Nothing) l g n x e r = absurd (let z : ◌≡◌ {A = ℕ} 0 1 = cc in omega arith)
  following-on at (option.Some (following.Comma c)) l g n x e r = absurd (let z : ◌≡◌ {A = ℕ} 0 1 = cc in omega arith)
  following-on at (option.Some (following.Param c)) l g n x e r =
      let z : ◌≡◌ {A = Option Ending → Option Ending} (λ t. t) g = cc in
      let y : n ≡ c.at = cc in
      subst (λ (k : Option Ending → Option Ending). EndingReads s at (k x)) z
      (one_more at c.at l.0 l.1 l.2 l.3 l.4 x (subst (λ (m : ℕ). EndingReads s m x) y r))
  following-on at option.None l g n x e r = absurd (let z : ◌≡◌ {A = ℕ} 0 1 = cc in omega arith)

  ending-reads : (at : ℕ) → EndingReads s at (ending_at s at)
  unfolding ending_at ending_step
  ending-reads at =
      walk-ind (ending_step s) option.None s (ending-ok s) (EndingReads s)
      (λ p r e. following-halt p (following_at s p) (following-reads p) r e)
      (λ p g n x e h l. following-on p (following_at s p) (following-reads p) g n x e l) at

  closed-reads : (at w e : ℕ) → Reads White s at w → drop w s ≡ 60 ∷ drop (w + 1) s → Uri (cut s (w + 1) e)
      → drop (w + 1) s ≡ cut s (w + 1) e ++ drop e s
      → drop e s ≡ 62 ∷ drop (e + 1) s → (t : Option Ending) → EndingReads s (e + 1) t
      → FoundReads s at (found (span_to (w + 1) e) t)
  closed-reads at w e r h u k i (option.Some ValueEnd) q = (
    r.0,
    60 ∷ (cut s (w + 1) e ++ (62 ∷ q.0)),
    q.1,
    r.1,
    G.entry u q.2,
    q.3,
    r.2 ∙ ap (λ (l : List ℕ). r.0 ++ l) (h
        ∙ ap (λ (l : List ℕ). 60 ∷ l) (k
        ∙ ap (λ (l : List ℕ). cut s (w + 1) e ++ l) (i ∙ ap (λ (l : List ℕ). 62 ∷ l) q.4))) ∙ simp append_assoc,
  )
  closed-reads at w e r h u k i (option.Some (NextEntry c)) q = (
    r.0,
    60 ∷ (cut s (w + 1) e ++ (62 ∷ q.0)),
    q.1,
    r.1,
    G.entry u q.2,
    q.3,
    r.2 ∙ ap (λ (l : List ℕ). r.0 ++ l) (h
        ∙ ap (λ (l : List ℕ). 60 ∷ l) (k
        ∙ ap (λ (l : List ℕ). cut s (w + 1) e ++ l) (i ∙ ap (λ (l : List ℕ). 62 ∷ l) q.4))) ∙ simp append_assoc,
  )
  closed-reads at w e r h u k i option.None q = tt

  pub entry-reads : (at : ℕ) → FoundReads s at (entry_at s at)
  unfolding entry_at
  entry-reads at =
      let w = white_at s at in
      let a = w + 1 in
      let e = run_at is_uri s a in
      by-test (FoundReads s at) (eqb (get_or s w 0) 60) (closed_uri s a e) option.None
      (λ f. by-test (FoundReads s at) (eqb a e) option.None _ (λ _. tt)
      (λ n. by-test (FoundReads s at) (eqb (get_or s e 0) 62) (found (span_to a e) (ending_at s (e + 1))) option.None
      (λ g. closed-reads at w e (white-reads s at) (byte_at s w 59 (eqb-true (get_or s w 0) 60 f))
      (some-cut is_uri s a (eqb-false a e n)) (run-split is_uri s a)
      (byte_at s e 61 (eqb-true (get_or s e 0) 62 g)) (ending_at s (e + 1)) (ending-reads (e + 1)))
      (λ _. tt)))
      (λ _. tt)

  entry-halt : (at : ℕ) (i : Option Found) → FoundReads s at i → (r : Reading) → entry_move i ≡ halt r → ReadingReads s at r
  entry-halt at (option.Some (Last p)) l r q =
      let z : spans (p ∷ []) ≡ r = cc in
      subst (ReadingReads s at) z
      (subst (λ (x : List ℕ). Value White x (part_of s p ∷ [])) (sym l.6) (G.last l.3 l.4 l.5))
  entry-halt at (option.Some (More p c)) l r q = absurd (let z : ◌≡◌ {A = ℕ} 0 1 = cc in omega arith)
  entry-halt at option.None l r q = let z : unfit ≡ r = cc in subst (ReadingReads s at) z tt

  entry_more : (at : ℕ) (p : Span) (c : Cursor) → FoundReads s at (option.Some (More p c)) → (x : Reading) → ReadingReads s c.at x
      → ReadingReads s at (add p x)
  entry_more at p c l unfit r = tt
  entry_more at p c l (spans ps) r =
      subst (λ (x : List ℕ). Value White x (part_of s p ∷ map (part_of s) ps)) (sym l.6) (G.comma l.3 l.4 l.5 r)

  entry-on : (at : ℕ) (i : Option Found) → FoundReads s at i → (g : Reading → Reading) (n : ℕ) (x : Reading)
      → entry_move i ≡ move g n → ReadingReads s n x → ReadingReads s at (g x)
  entry-on at (option.Some (Last p)) l g n x q r = absurd (let z : ◌≡◌ {A = ℕ} 0 1 = cc in omega arith)
  entry-on at (option.Some (More p c)) l g n x q r =
      let z : add p ≡ g = cc in
      let y : n ≡ c.at = cc in
      subst (λ (k : Reading → Reading). ReadingReads s at (k x)) z
      (entry_more at p c l x (subst (λ (m : ℕ). ReadingReads s m x) y r))
  entry-on at option.None l g n x q r = absurd (let z : ◌≡◌ {A = ℕ} 0 1 = cc in omega arith)

  value-reads : (at : ℕ) → ReadingReads s at (reading_from s at)
  unfolding reading_from value_step
  value-reads at =
      walk-ind (value_step s) unfit s (value-ok s) (ReadingReads s)
      (λ p r e. entry-halt p (entry_at s p) (entry-reads p) r e)
      (λ p g n x e h l. entry-on p (entry_at s p) (entry-reads p) g n x e l) at

  -- a value that is read is in the grammar, with the parts that are read as its URIs
  pub sound : (ps : List Span) → reading_of s ≡ spans ps → Value White s (map (part_of s) ps)
  unfolding reading_of
  sound ps e = subst (ReadingReads s 0) e (value-reads 0)
