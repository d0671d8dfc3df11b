-- What is in the grammar is read.
-- Assumes nothing.
use mathlib.Core.Path.{◌≡◌, refl, sym, ap, ◌∙◌, subst}
use mathlib.Core.Logic.{◌⊎◌, ⊎_elim, inl, inr}
use mathlib.Core.Bool.{Bool, true, false, ◌||◌}
use mathlib.Core.List.{List, [], ◌∷◌, ◌++◌, map, append_assoc}
use Prim.Native.Nat.{ℕ, zero, suc, ◌+◌, ◌-◌, ◌≤◌, ◌<◌}
use native.Mathlib.Nat.{add-zero}
use native.Mathlib.Omega.{arith}
use lib.Dec.{T, eqb}
use lib.ListN.{length, get_or, drop, take, length-drop, length-append}
use lib.Seq.{drop-drop, drop-append_seam, take-append_seam, get_or-drop}
use borrow.Author.Tests.{eqb-true, ne_eqb}
use Rattle.base_lists.specs.Cuts.{run}
use Rattle.value_cursor.specs.Bytes.{is_blank, is_uri, is_token, is_text, is_escapable}
use Rattle.value_cursor.specs.Walk.{run_at}
use Rattle.value_cursor.specs.Parts.{blank_at, white_at, token_at, quote_at, quoted_from}
use Rattle.value_cursor.specs.Parts.{setting_at, param_at, following_at, ending_at, span_to, found}
use Rattle.value_cursor.specs.Parts.{entry_at}
use Rattle.value_cursor.specs.Reading.{spans, add, reading_from, reading_of}
use Rattle.value_cursor.specs.Pass.{nowhere}
use Rattle.value_cursor.specs.declared.cursor.Cursor.{Cursor}
use Rattle.value_cursor.specs.declared.cursor.Quote.TheVariants.{Closed}
use Rattle.value_cursor.specs.declared.alert_param.Span.{Span}
use Rattle.value_cursor.specs.declared.alert_param.Following.TheVariants as following
use Rattle.value_cursor.specs.declared.alert_param.Ending.{Ending}
use Rattle.value_cursor.specs.declared.alert_param.Ending.TheVariants.{ValueEnd, NextEntry}
use Rattle.value_cursor.specs.declared.alert_param.Found.{Found}
use Rattle.value_cursor.specs.declared.alert_param.Found.TheVariants.{Last, More}
use Rattle.value_cursor.proofs.QuoteLaws.{opened, quote-closed, quote-here, escape-passed, quoted-halt, quoted-more}
use Rattle.value_cursor.proofs.QuoteLaws.{quoted-text}
use Rattle.value_cursor.proofs.RunLaws.{run-stop}
use Rattle.value_cursor.proofs.PartLaws.{token-some, setting-quoted, setting-token, param-bare, param-set}
use Rattle.value_cursor.proofs.PartLaws.{following-stop, following-entry, following-param, ending-halt}
use Rattle.value_cursor.proofs.PartLaws.{ending-more, entry-some}
use Rattle.value_cursor.proofs.WhiteLaws.{begins_white, begins-not, blank-end, blank-yes, blank-no, blank-fold, cr-not-blank}
use Rattle.value_cursor.proofs.WhiteLaws.{fold-from, white-stop, white-more}
use Rattle.value_cursor.proofs.ReadingLaws.{reading-last, reading-more}
use Rattle.value_reader.specs.Value.{part_of}
use Rattle.value_reader.specs.Grammar.{Any, Some, White, Token, Text, Setting, Param, Params, Entry, Value}
use Rattle.value_reader.specs.Grammar.{Before}
use Rattle.value_reader.specs.Grammar as G
use Rattle.std.specs.Prelude.{Option}
use Rattle.std.specs.declared.option.Option.TheVariants as option

to-true : (b : Bool) → T b → b ≡ true
to-true true t = refl
to-true false t = absurd t

-- the list from a position, known to begin with a byte, or with some bytes
module _ (s : List ℕ) (at : ℕ) where
  front-byte : (b : ℕ) (l : List ℕ) → drop at s ≡ b ∷ l → get_or s at 0 ≡ b
  front-byte b l e = ap (λ (n : ℕ). get_or s n 0) (sym (add-zero at)) ∙ sym (get_or-drop at s 0 0)
      ∙ ap (λ (x : List ℕ). get_or x 0 0) e

  front_rest : (b : ℕ) (l : List ℕ) → drop at s ≡ b ∷ l → drop (at + 1) s ≡ l
  front_rest b l e = sym (drop-drop 1 at s) ∙ ap (drop 1) e

  pub front-in : (b : ℕ) (l : List ℕ) → drop at s ≡ b ∷ l → at < length s
  front-in b l e = omega (arith, length-drop at s, ap length e)

  no_front : drop at s ≡ [] → (get_or s at 0 ≡ 0) × (length s ≤ at)
  no_front e = (
    ap (λ (n : ℕ). get_or s n 0) (sym (add-zero at)) ∙ sym (get_or-drop at s 0 0)
        ∙ ap (λ (x : List ℕ). get_or x 0 0) e,
    omega (arith, length-drop at s, ap length e),
  )

  past : (w r : List ℕ) → drop at s ≡ w ++ r → drop (at + length w) s ≡ r
  past w r e = sym (drop-drop (length w) at s) ∙ ap (drop (length w)) e ∙ drop-append_seam w r

-- a list does not go on with a byte of a class
abbrev pub Stops : (ℕ → Bool) → List ℕ → Type 0
Stops p [] = Unit
Stops p (b ∷ l) = p b ≡ false

run-exact : (p : ℕ → Bool) {w : List ℕ} → Any p w → (r : List ℕ) → Stops p r → run p (w ++ r) ≡ length w
unfolding run
run-exact p G.none [] h = refl
run-exact p G.none (b ∷ r) h = rw h
run-exact p (G.more {b = b} t a) r h = rw (to-true (p b) t) (ap suc (run-exact p a r h))

any_of : (p : ℕ → Bool) {w : List ℕ} → Some p w → Any p w
any_of p (G.some t a) = G.more t a

module _ (p : ℕ → Bool) (s : List ℕ) (at : ℕ) (w r : List ℕ) (e : drop at s ≡ w ++ r) (h : Stops p r) where
  run-to : Any p w → run_at p s at ≡ at + length w
  unfolding run_at
  run-to a = rw (e, run-exact p a r h)

  run_past : Any p w → drop (run_at p s at) s ≡ r
  run_past a = ap (λ (n : ℕ). drop n s) (run-to a) ∙ past s at w r e

-- white space, blank by blank and fold by fold; r does not begin with a byte that white space may begin with
blank_none : (s : List ℕ) (at : ℕ) (r : List ℕ) → drop at s ≡ r → Stops begins_white r → 0 ≡ blank_at s at
blank_none s at [] e h = blank-end s at (no_front s at e).1
blank_none s at (b ∷ r) e h =
    let f = front-byte s at b r e in
    let n = begins-not b h in
    blank-no s at (ap is_blank f ∙ n.0) (λ q. n.1 (sym f ∙ q))

white-go : (s r : List ℕ) → Stops begins_white r → {w : List ℕ} → White w → (at : ℕ) → drop at s ≡ w ++ r
    → drop (white_at s at) s ≡ r
white-go s r h G.nothing at e = ap (λ (n : ℕ). drop n s) (white-stop s at 0 (blank_none s at r e h) refl) ∙ e
white-go s r h (G.blank {b = b} {l = l} t w) at e =
    let g = blank-yes s at (ap is_blank (front-byte s at b (l ++ r) e) ∙ to-true (is_blank b) t) in
    let m = white-more s at 1 g (λ z. omega arith) in
    ap (λ (n : ℕ). drop n s) m.0 ∙ white-go s r h w (at + 1) (front_rest s at b (l ++ r) e)
white-go s r h (G.fold {b = b} {l = l} t w) at e =
    let i = front_rest s at 13 (10 ∷ b ∷ (l ++ r)) e in
    let two : at + 2 ≡ at + 1 + 1 = omega arith in
    let three : at + 3 ≡ at + 2 + 1 = omega arith in
    let j = ap (λ (n : ℕ). drop n s) two ∙ front_rest s (at + 1) 10 (b ∷ (l ++ r)) i in
    let k = ap (λ (n : ℕ). drop n s) three ∙ front_rest s (at + 2) b (l ++ r) j in
    let cr = front-byte s at 13 (10 ∷ b ∷ (l ++ r)) e in
    let f = fold-from s at cr true (front-byte s (at + 1) 10 (b ∷ (l ++ r)) i)
    (sym (ap is_blank (front-byte s (at + 2) b (l ++ r) j) ∙ to-true (is_blank b) t)) in
    let m = white-more s at 3 (blank-fold s at (cr-not-blank s at cr) 3 f) (λ z. omega arith) in
    ap (λ (n : ℕ). drop n s) m.0 ∙ white-go s r h w (at + 3) k

pub white-past : (s : List ℕ) (at : ℕ) (w r : List ℕ) → drop at s ≡ w ++ r → White w → Stops begins_white r
    → drop (white_at s at) s ≡ r
white-past s at w r e a h = white-go s r h a at e

-- a part is passed, and what is left is r
abbrev PassedTo : List ℕ → List ℕ → Option Cursor → Type 0
PassedTo s r p = (c : Cursor) × (option.Some c ≡ p) × (drop c.at s ≡ r)

token-to : (s : List ℕ) (at : ℕ) {t : List ℕ} (r : List ℕ) → drop at s ≡ t ++ r → Token t → Stops is_token r
    → PassedTo s r (token_at s at)
token-to s at r e (G.some {b = b} {l = l} t a) h =
    let n = run-to is_token s at (b ∷ l) r e h (G.more t a) in (
      record { at = run_at is_token s at },
      token-some s at (record { at = run_at is_token s at }) refl (λ z. omega arith),
      run_past is_token s at (b ∷ l) r e h (G.more t a),
    )

module _ (s : List ℕ) (r : List ℕ) where
  text-to : {x : List ℕ} → Text x → (at : ℕ) → drop at s ≡ x ++ (34 ∷ r) → PassedTo s r (quoted_from s at)
  unfolding is_text
  text-to G.ends at e =
      let b = front-byte s at 34 r e in
      let n = run-stop is_text s at (front-in s at 34 r e) (ap is_text b) in
      let c : Cursor = record { at = at + 1 } in
      let q = quote-closed s at at (sym n) (get_or s at 0) refl b in
      (c, sym (quoted-halt s at (quote_at s at) (option.Some (Closed c)) (option.Some c) refl (sym q) refl), front_rest s at 34 r e)
  text-to (G.plain {b = b} {l = l} t x) at e =
      let n = text-to x (at + 1) (front_rest s at b (l ++ (34 ∷ r)) e) in
      let f = ap is_text (front-byte s at b (l ++ (34 ∷ r)) e) ∙ to-true (is_text b) t in
      (n.0, n.1 ∙ sym (quoted-text s at (front-in s at b (l ++ (34 ∷ r)) e) f), n.2)
  text-to (G.escaped {b = b} {l = l} t x) at e =
      let k = front-byte s at 92 (b ∷ (l ++ (34 ∷ r))) e in
      let f = front_rest s at 92 (b ∷ (l ++ (34 ∷ r))) e in
      let c : Cursor = record { at = at + 1 + 1 } in
      let i = ap is_escapable (front-byte s (at + 1) b (l ++ (34 ∷ r)) f) ∙ to-true (is_escapable b) t in
      let q = quote-here s at refl k (escape-passed s (at + 1) (front-in s (at + 1) b (l ++ (34 ∷ r)) f) refl i) in
      let m = quoted-more s at (quote_at s at) c refl (sym q) in
      let j = text-to x (at + 1 + 1) (front_rest s (at + 1) b (l ++ (34 ∷ r)) f) in
      (j.0, j.1 ∙ sym m.0, j.2)

  pub setting-to : {v : List ℕ} → Setting v → (at : ℕ) → drop at s ≡ v ++ r → Stops is_token r
      → PassedTo s r (setting_at s at)
  unfolding is_token
  setting-to (G.token (G.some {b = b} {l = l} t a)) at e h =
      let n = token-to s at r e (G.some t a) h in
      let m : get_or s at 0 ≡ 34 → ⊥ = λ q. subst (λ (x : ℕ). T (is_token x)) (sym (front-byte s at b (l ++ r) e) ∙ q) t in
      (n.0, setting-token s at (get_or s at 0) (option.Some n.0) refl m n.1, n.2)
  setting-to (G.quoted {t = t} x) at e h =
      let f : drop at s ≡ 34 ∷ (t ++ (34 ∷ r)) = e ∙ ap (λ (l : List ℕ). 34 ∷ l) (append_assoc t (34 ∷ []) r) in
      let q = front-byte s at 34 (t ++ (34 ∷ r)) f in
      let n = text-to x (at + 1) (front_rest s at 34 (t ++ (34 ∷ r)) f) in
      (n.0, setting-quoted s at (get_or s at 0) (option.Some n.0) refl q (n.1 ∙ sym (opened s at q)), n.2)

-- white space and other classes
white-cases : (b : ℕ) → T (is_blank b) → (b ≡ 32) ⊎ (b ≡ 9)
unfolding is_blank
white-cases b = go (eqb b 32) refl (eqb b 9) refl
  where
    go : (x : Bool) → eqb b 32 ≡ x → (y : Bool) → eqb b 9 ≡ y → T (x || (y || false)) → (b ≡ 32) ⊎ (b ≡ 9)
    go true e y f t = inl (eqb-true b 32 e)
    go false e true f t = inr (eqb-true b 9 f)
    go false e false f t = absurd t

module _ (p : ℕ → Bool) (space : p 32 ≡ false) (tab : p 9 ≡ false) where
  white-not : (b : ℕ) → T (is_blank b) → p b ≡ false
  white-not b t = ⊎_elim (λ e. ap p e ∙ space) (λ e. ap p e ∙ tab) (white-cases b t)

  not_white : (b : ℕ) → T (p b) → is_blank b ≡ false
  not_white b t = go (is_blank b) refl
    where
      go : (x : Bool) → is_blank b ≡ x → is_blank b ≡ false
      go false e = e
      go true e = absurd (subst T (white-not b (subst T (sym e) tt)) t)

token-begins-not : (b : ℕ) → T (is_token b) → begins_white b ≡ false
unfolding is_token
token-begins-not b t =
    let n : b ≡ 13 → ⊥ = λ e. subst (λ (x : ℕ). T (is_token x)) e t in
    simp (not_white is_token refl refl b t, ne_eqb b 13 n)

-- white space, and then nothing or a byte that is no token's
stops-token : {w : List ℕ} → White w → (r : List ℕ) → Stops is_token r → Stops is_token (w ++ r)
unfolding is_token
stops-token G.nothing r h = h
stops-token (G.blank {b = b} t a) r h = white-not is_token refl refl b t
stops-token (G.fold t a) r h = refl

token-stops : {t : List ℕ} → Token t → (r : List ℕ) → Stops begins_white (t ++ r)
token-stops (G.some {b = b} t a) r = token-begins-not b t

setting-stops : {v : List ℕ} → Setting v → (r : List ℕ) → Stops begins_white (v ++ r)
unfolding is_blank
setting-stops (G.token t) r = token-stops t r
setting-stops (G.quoted x) r = refl

-- the end, a comma or a semicolon
abbrev Ends : List ℕ → Type 0
Ends [] = Unit
Ends (b ∷ l) = (b ≡ 44) ⊎ (b ≡ 59)

ends-stops : (p : ℕ → Bool) → p 44 ≡ false → p 59 ≡ false → (r : List ℕ) → Ends r → Stops p r
ends-stops p h k [] e = tt
ends-stops p h k (b ∷ r) e = ⊎_elim (λ q. ap p q ∙ h) (λ q. ap p q ∙ k) e

-- what may follow a parameter
abbrev Follows : List ℕ → Type 0
Follows r = (w : List ℕ) × (x : List ℕ) × White w × Ends x × (r ≡ w ++ x)

follows-token : (r : List ℕ) → Follows r → Stops is_token r
unfolding is_token
follows-token r f = subst (Stops is_token) (sym f.4)
    (stops-token f.2 f.1 (ends-stops is_token refl refl f.1 f.3))

ends-not : (s : List ℕ) (e : ℕ) (x : List ℕ) → Ends x → drop e s ≡ x → get_or s e 0 ≡ 61 → ⊥
ends-not s e [] h q z = let n = (no_front s e q).0 in let y : ◌≡◌ {A = ℕ} 0 61 = sym n ∙ z in omega arith
ends-not s e (b ∷ x) h q z = let n : b ≡ 61 = sym (front-byte s e b x q)
    ∙ z in ⊎_elim (λ i. omega arith) (λ i. omega arith) h

ends-white : (x : List ℕ) → Ends x → Stops begins_white x
unfolding is_blank
ends-white x h = ends-stops begins_white refl refl x h

module _ (s : List ℕ) where
  param-to : {p : List ℕ} → Param White p → (at : ℕ) (r : List ℕ) → drop at s ≡ p ++ r → Follows r
      → PassedTo s r (param_at s at)
  unfolding is_blank is_token
  param-to (G.bare {x = x} {t = t} wx kt) at r e f =
      let w = white_at s at in
      let i = white-past s at x (t ++ r) (e ∙ append_assoc x t r) wx (token-stops kt r) in
      let n = token-to s w r i kt (follows-token r f) in
      let j = white-past s n.0.at f.0 f.1 (n.2 ∙ f.4) f.2 (ends-white f.1 f.3) in (
        n.0,
        param-bare s at w refl (token_at s w) refl n.0 (sym n.1) (white_at s n.0.at) refl
            (get_or s (white_at s n.0.at) 0) refl (ends-not s (white_at s n.0.at) f.1 f.3 j),
        n.2,
      )
  param-to (G.set {x = x} {t = t} {y = y} {z = z} {v = v} wx kt wy wz kv) at r e f =
      let w = white_at s at in
      let l = y ++ (61 ∷ (z ++ (v ++ r))) in
      let q : drop at s ≡ x ++ (t ++ l) = e ∙ simp append_assoc in
      let i = white-past s at x (t ++ l) q wx (token-stops kt l) in
      let n = token-to s w l i kt (stops-token wy (61 ∷ (z ++ (v ++ r))) refl) in
      let d = white_at s n.0.at in
      let j = white-past s n.0.at y (61 ∷ (z ++ (v ++ r))) n.2 wy refl in
      let g = front_rest s d 61 (z ++ (v ++ r)) j in
      let k = white-past s (d + 1) z (v ++ r) g wz (setting-stops kv r) in
      let m = setting-to s r kv (white_at s (d + 1)) k (follows-token r f) in (
        m.0,
        param-set s at w refl (token_at s w) refl n.0 (sym n.1) d refl (get_or s d 0) refl
            (front-byte s d 61 (z ++ (v ++ r)) j) (white_at s (d + 1)) (option.Some m.0) refl m.1,
        m.2,
      )

-- what may follow an entry
abbrev pub Closes : List ℕ → Type 0
Closes [] = Unit
Closes (b ∷ l) = b ≡ 44

closes-ends : (x : List ℕ) → Closes x → Ends x
closes-ends [] h = tt
closes-ends (b ∷ l) h = inl h

params-follow : {q w : List ℕ} → Params White q → White w → (x : List ℕ) → Ends x → Follows (q ++ (w ++ x))
params-follow {w = w} G.done ww x h = (w, x, ww, h, refl)
params-follow {w = w} (G.param {w = v} {p = p} {q = q} wv kp kq) ww x h =
    (v, 59 ∷ ((p ++ q) ++ (w ++ x)), wv, inr refl, append_assoc v (59 ∷ (p ++ q)) (w ++ x))

abbrev EndingTo : List ℕ → List ℕ → Option Ending → Type 0
EndingTo s [] t = t ≡ (option.Some ValueEnd)
EndingTo s (b ∷ v) t = (c : Cursor) × (t ≡ option.Some (NextEntry c)) × (drop c.at s ≡ v)

module _ (s : List ℕ) where
  last-to : (at : ℕ) (w x : List ℕ) → White w → Closes x → drop at s ≡ w ++ x → EndingTo s x (ending_at s at)
  last-to at w [] ww h e =
      let i = white-past s at w [] e ww tt in
      ending-halt s at (following_at s at) (option.Some following.Nothing) (option.Some ValueEnd) refl
      (sym (following-stop s at (white_at s at) refl (no_front s (white_at s at) i).1)) refl
  last-to at w (b ∷ x) ww h e =
      let i = white-past s at w (b ∷ x) e ww (ends-white (b ∷ x) (inl h)) in
      let d = white_at s at in (
        record { at = d + 1 },
        ending-halt s at (following_at s at) (option.Some (following.Comma (record { at = d + 1 })))
            (option.Some (NextEntry (record { at = d + 1 }))) refl
            (sym (following-entry s at d refl (front-in s d b x i) (front-byte s d b x i ∙ h))) refl,
        front_rest s d b x i,
      )

  pub ending-to : {p : List ℕ} → Params White p → (at : ℕ) (w x : List ℕ) → White w → Closes x → drop at s ≡ p ++ (w ++ x)
      → EndingTo s x (ending_at s at)
  unfolding is_blank
  ending-to G.done at w x ww h e = last-to at w x ww h e
  ending-to (G.param {w = v} {p = p} {q = q} wv kp kq) at w x ww h e =
      let l = q ++ (w ++ x) in
      let i = white-past s at v (59 ∷ (p ++ l)) (e ∙ simp append_assoc) wv refl in
      let d = white_at s at in
      let n = param-to s kp (d + 1) l (front_rest s d 59 (p ++ l) i) (params-follow kq ww x (closes-ends x h)) in
      let b = front-byte s d 59 (p ++ l) i in
      let m : get_or s d 0 ≡ 44 → ⊥ = λ z. let y : ◌≡◌ {A = ℕ} 59 44 = sym b ∙ z in omega arith in
      let t = following-param s at d refl (front-in s d 59 (p ++ l) i) m b (param_at s (d + 1)) (option.Some n.0) refl
      (sym n.1) in
      let g = ending-more s at (following_at s at) n.0 refl (sym t) in
      subst (EndingTo s x) (sym g.0) (ending-to kq n.0.at w x ww h n.2)

-- where the URI u of an entry lies after w and its bracket
abbrev pub placed : ℕ → List ℕ → List ℕ → Span
placed at w u = record { start = at + length w + 1; len = length u }

abbrev pub FoundTo : List ℕ → Span → List ℕ → Option Found → Type 0
FoundTo s p [] i = i ≡ option.Some (Last p)
FoundTo s p (b ∷ v) i = (c : Cursor) × (i ≡ option.Some (More p c)) × (drop c.at s ≡ v)

append-nil : (l : List ℕ) → l ++ [] ≡ l
append-nil [] = refl
append-nil (b ∷ l) = ap (λ (x : List ℕ). b ∷ x) (append-nil l)

long-enough : {p : ℕ → Bool} {u : List ℕ} → Some p u → (n : ℕ) → n ≡ n + length u → ⊥
long-enough (G.some t a) n e = omega arith

-- from one position to another, some bytes lie between
pub between : (s : List ℕ) (at to : ℕ) (w r : List ℕ) → drop at s ≡ w ++ r → drop to s ≡ r → at ≤ length s → to ≤ length s
    → to ≡ at + length w
between s at to w r e f h k =
    omega (arith, length-drop at s, length-drop to s, ap length e, ap length f, length-append w r)

-- the place of entry k among the entries from a position: what stands before its URI, and what behind
abbrev pub LiesFrom : List ℕ → ℕ → ℕ → List ℕ → Span → Type 0
LiesFrom s at k u p =
    (a : List ℕ) × (b : List ℕ) × Before White k a × (drop at s ≡ a ++ (u ++ b)) ×
    (p ≡ record { start = at + length a; len = length u })

first-lies : {n u w : List ℕ} (s : List ℕ) (at : ℕ) → White w → Entry White n u → (t : List ℕ)
    → drop at s ≡ w ++ (n ++ t) → LiesFrom s at 0 u (placed at w u)
first-lies {w = w} s at ww (G.entry {u = u} {p = p} ku kp) t e =
    let q : at + length w + 1 ≡ at + length (w ++ (60 ∷ [])) = omega (arith, length-append w (60 ∷ [])) in
    (w ++ (60 ∷ []), 62 ∷ (p ++ t), G.bracket ww, e ∙ simp append_assoc, λ i. record { start = q i; len = length u })

module _ (s : List ℕ) where
  entry-from : (at a e : ℕ) (p : Span) (x : List ℕ) → span_to a e ≡ p → (t : Option Ending) → EndingTo s x t
      → ((k : Option Ending) → t ≡ k → found (span_to a e) k ≡ entry_at s at) → FoundTo s p x (entry_at s at)
  entry-from at a e p [] q t h f = sym (f (option.Some ValueEnd) h) ∙ ap (λ (y : Span). option.Some (Last y)) q
  entry-from at a e p (b ∷ v) q t h f =
      (h.0, sym (f (option.Some (NextEntry h.0)) h.1) ∙ ap (λ (y : Span). option.Some (More y h.0)) q, h.2)

  pub entry-to : {n u : List ℕ} → Entry White n u → (at : ℕ) (w x r : List ℕ) → White w → White x → Closes r
      → at ≤ length s → drop at s ≡ w ++ (n ++ (x ++ r))
      → FoundTo s (placed at w u) r (entry_at s at) × (part_of s (placed at w u) ≡ u)
  unfolding is_blank is_uri
  entry-to (G.entry {u = u} {p = p} ku kp) at w x r ww wx h in-s e =
      let l = p ++ (x ++ r) in
      let d = white_at s at in
      let f : drop at s ≡ w ++ (60 ∷ (u ++ (62 ∷ l))) = e ∙ simp append_assoc in
      let i = white-past s at w (60 ∷ (u ++ (62 ∷ l))) f ww refl in
      let j = front_rest s d 60 (u ++ (62 ∷ l)) i in
      let a = any_of is_uri ku in
      let z = run_at is_uri s (d + 1) in
      let n : z ≡ d + 1 + length u = run-to is_uri s (d + 1) u (62 ∷ l) j refl a in
      let k = run_past is_uri s (d + 1) u (62 ∷ l) j refl a in
      let ne : d + 1 ≡ z → ⊥ = λ q. long-enough ku (d + 1) (q ∙ n) in
      let g = front-in s d 60 (u ++ (62 ∷ l)) i in
      let at-d : d ≡ at + length w = between s at d w (60 ∷ (u ++ (62 ∷ l))) f i in-s (omega arith) in
      let start : d + 1 ≡ at + length w + 1 = omega arith in
      let len : z - (d + 1) ≡ length u = omega arith in (
        entry-from at (d + 1) z (placed at w u) r (λ o. record { start = start o; len = len o }) (ending_at s (z + 1))
            (ending-to s kp (z + 1) x r wx h (front_rest s z 62 l k))
            (λ t q. entry-some s at d refl (get_or s d 0) refl (front-byte s d 60 (u ++ (62 ∷ l)) i) z refl ne
            (get_or s z 0) refl (front-byte s z 62 l k) (ending_at s (z + 1)) t refl q),
        ap (λ (m : ℕ). take (length u) (drop m s)) (sym start) ∙ ap (take (length u)) j ∙ take-append_seam u (62 ∷ l),
      )

  -- each part lies where the grammar has it
  abbrev pub AllLie : ℕ → List (List ℕ) → List Span → Type 0
  AllLie at us ps = (k : ℕ) → k < length us → LiesFrom s at k (get_or us k []) (get_or ps k nowhere)

  -- one entry and its comma before the rest
  later-lies : (at to k : ℕ) (w n x v u y : List ℕ) (p : Span) → White w → Entry White n u → White x
      → drop at s ≡ w ++ (n ++ (x ++ (44 ∷ v))) → drop to s ≡ v → at ≤ length s → to ≤ length s
      → LiesFrom s to k y p → LiesFrom s at (suc k) y p
  later-lies at to k w n x v u y p ww kn wx e f h i (a, b, g, q, o) =
      let c = w ++ (n ++ (x ++ (44 ∷ a))) in
      let d : drop at s ≡ (w ++ (n ++ (x ++ (44 ∷ [])))) ++ v = e ∙ simp append_assoc in
      let t = between s at to (w ++ (n ++ (x ++ (44 ∷ [])))) v d f h i in
      let z : to + length a ≡ at + length c = omega (
        arith,
        length-append w (n ++ (x ++ (44 ∷ []))),
        length-append n (x ++ (44 ∷ [])),
        length-append x (44 ∷ []),
        length-append w (n ++ (x ++ (44 ∷ a))),
        length-append n (x ++ (44 ∷ a)),
        length-append x (44 ∷ a),
      ) in (
        c,
        b,
        G.entries ww kn wx g,
        e ∙ ap (λ (l : List ℕ). w ++ (n ++ (x ++ (44 ∷ l)))) (sym f ∙ q) ∙ simp append_assoc,
        o ∙ λ j. record { start = z j; len = length y },
      )

  value-to : {l : List ℕ} {us : List (List ℕ)} → Value White l us → (at : ℕ) → at ≤ length s → drop at s ≡ l
      → (ps : List Span) × (reading_from s at ≡ spans ps) × (map (part_of s) ps ≡ us) × AllLie at us ps
  value-to (G.last {w = w} {e = n} {x = x} {u = u} ww ke wx) at h e =
      let q : drop at s ≡ w ++ (n ++ (x ++ [])) = e ∙ ap (λ (y : List ℕ). w ++ (n ++ y)) (sym (append-nil x)) in
      let i = entry-to ke at w x [] ww wx tt h q in (
        placed at w u ∷ [],
        (reading-last s at (entry_at s at) refl (placed at w u) i.0).0,
        ap (λ (y : List ℕ). y ∷ []) i.1,
        only,
      )
    where
      only : AllLie at (u ∷ []) (placed at w u ∷ [])
      only zero m = first-lies s at ww ke x e
      only (suc k) m = absurd (omega arith)
  value-to (G.comma {w = w} {e = n} {x = x} {u = u} {v = v} {us = us} ww ke wx kv) at h e =
      let i = entry-to ke at w x (44 ∷ v) ww wx refl h e in
      let c = i.0.0 in
      let g = reading-more s at (entry_at s at) refl (placed at w u) c i.0.1 in
      let m = value-to kv c.at g.2 i.0.2 in (
        placed at w u ∷ m.0,
        g.0 ∙ ap (add (placed at w u)) m.1,
        ap (λ (y : List ℕ). y ∷ map (part_of s) m.0) i.1 ∙ ap (λ (ys : List (List ℕ)). u ∷ ys) m.2,
        all c.at i.0.2 g.2 m.0 m.3,
      )
    where
      all : (to : ℕ) → drop to s ≡ v → to ≤ length s → (ps : List Span) → AllLie to us ps
          → AllLie at (u ∷ us) (placed at w u ∷ ps)
      all to f i ps o zero j = first-lies s at ww ke (x ++ (44 ∷ v)) e
      all to f i ps o (suc k) j =
          later-lies at to k w n x v u (get_or us k []) (get_or ps k nowhere) ww ke wx e f h i (o k (omega arith))

  -- a value in the grammar is read, the parts that are read are its URIs, and each lies where the grammar has it
  pub complete-places : (us : List (List ℕ)) → Value White s us
      → (ps : List Span) × (reading_of s ≡ spans ps) × (map (part_of s) ps ≡ us) × AllLie 0 us ps
  unfolding reading_of
  complete-places us k = value-to k 0 (omega arith) refl

  pub complete : (us : List (List ℕ)) → Value White s us
      → (ps : List Span) × (reading_of s ≡ spans ps) × (map (part_of s) ps ≡ us)
  complete us k = let c = complete-places us k in (c.0, c.1, c.2)
