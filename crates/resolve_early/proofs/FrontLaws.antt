-- Laws of the entries that are read one by one.
use Prim.Native.Nat.{ℕ, zero, suc, ◌≤◌, ◌<◌}
use mathlib.Core.Path.{◌≡◌, refl, sym, ap, ap₂, ◌∙◌, subst}
use mathlib.Core.Logic.{◌⊎◌, inl, inr, ◌↔◌}
use mathlib.Core.Bool.{Bool, true, false, cond, true≢false}
use mathlib.Core.List.{List, [], ◌∷◌, ◌++◌, map, append_assoc}
use native.Mathlib.Omega.{arith}
use lib.ListN.{length, take, drop}
use Rattle.value_cursor.specs.Walk.{halt, move}
use Rattle.value_cursor.specs.Parts.{entry_at}
use Rattle.value_cursor.specs.Reading.{Reading, unfit, spans, add, reading_from}
use Rattle.value_cursor.specs.declared.cursor.Cursor.{Cursor}
use Rattle.value_cursor.specs.declared.alert_param.Span.{Span}
use Rattle.value_cursor.specs.declared.alert_param.Found.{Found}
use Rattle.value_cursor.specs.declared.alert_param.Found.TheVariants.{Last, More}
use Rattle.value_cursor.proofs.WalkLaws.{walk-halt, walk-move, walk-ind}
use Rattle.value_cursor.proofs.Lands.{Inner, FoundLands, entry-lands}
use Rattle.value_cursor.proofs.ReadingLaws.{reading-start, reading-last, reading-more, reading-none}
use Rattle.value_reader.specs.Value.{part_of}
use Rattle.value_reader.specs.Grammar.{White, Value}
use Rattle.value_reader.proofs.Sound.{FoundReads, entry-reads}
use Rattle.value_reader.proofs.Complete.{placed, entry-to}
use Rattle.value_reader.proofs.Agree.{agree}
use Rattle.resolve_early.specs.FirstEntries.{Front, nothing, only, before, front_move, front_step, front_from, uris_in, Begins, start, comma, FrontClaims}
use Rattle.std.specs.Prelude.{Option, Some, None}

-- f is what stands at a position
module _ (s : List ℕ) (at : ℕ) (f : Option Found) (is : f ≡ entry_at s at) where
  pub front-last : (p : Span) → f ≡ Some (Last p) → front_from s at ≡ only p
  unfolding front_from front_step
  front-last p e = walk-halt (front_step s) nothing s at (only p) (ap front_move (sym is ∙ e))

  pub front-more : (p : Span) (c : Cursor) → f ≡ Some (More p c) → (front_from s at ≡ before p (front_from s c.at)) × (at < c.at) × (c.at ≤ length s)
  unfolding front_from front_step
  front-more p c e =
      let l = subst (FoundLands s at) (sym is ∙ e) (entry-lands s at) in
      (walk-move (front_step s) nothing s at (before p) c.at (ap front_move (sym is ∙ e)) l.1.0 l.1.1, l.1.0, l.1.1)

  pub front-none : f ≡ None → front_from s at ≡ nothing
  unfolding front_from front_step
  front-none e = walk-halt (front_step s) nothing s at nothing (ap front_move (sym is ∙ e))

module _ (s : List ℕ) where
  found_ok : (at : ℕ) (i : Option Found) → FoundLands s at i → (g : Front → Front) (n : ℕ) → front_move i ≡ move g n → Inner s at n
  found_ok at (Some (Last p)) l g n q = absurd (let z : ◌≡◌ {A = ℕ} 0 1 = cc in omega arith)
  found_ok at (Some (More p c)) l g n q = let z : c.at ≡ n = cc in omega arith
  found_ok at None l g n q = absurd (let z : ◌≡◌ {A = ℕ} 0 1 = cc in omega arith)

  -- what holds at an entry that is the last or none, and is carried back over each entry before others, holds of what is read
  module _ (P : ℕ → Front → Type 0) (last : (at : ℕ) (p : Span) → entry_at s at ≡ Some (Last p) → P at (only p)) (none : (at : ℕ) → entry_at s at ≡ None → P at nothing)
      (more : (at : ℕ) (p : Span) (c : Cursor) (f : Front) → entry_at s at ≡ Some (More p c) → P c.at f → P at (before p f)) where
    halted : (at : ℕ) (i : Option Found) → entry_at s at ≡ i → (r : Front) → front_move i ≡ halt r → P at r
    halted at (Some (Last p)) e r q = let z : only p ≡ r = cc in subst (P at) z (last at p e)
    halted at (Some (More p c)) e r q = absurd (let z : ◌≡◌ {A = ℕ} 0 1 = cc in omega arith)
    halted at None e r q = let z : nothing ≡ r = cc in subst (P at) z (none at e)

    moved : (at : ℕ) (i : Option Found) → entry_at s at ≡ i → (g : Front → Front) (n : ℕ) (x : Front) → front_move i ≡ move g n → P n x → P at (g x)
    moved at (Some (Last p)) e g n x q l = absurd (let z : ◌≡◌ {A = ℕ} 0 1 = cc in omega arith)
    moved at (Some (More p c)) e g n x q l =
        let z : before p ≡ g = cc in
        let y : n ≡ c.at = cc in
        subst (λ (k : Front → Front). P at (k x)) z (more at p c x e (subst (λ (m : ℕ). P m x) y l))
    moved at None e g n x q l = absurd (let z : ◌≡◌ {A = ℕ} 0 1 = cc in omega arith)

    pub front-ind : (at : ℕ) → P at (front_from s at)
    unfolding front_from front_step
    front-ind at =
        walk-ind (front_step s) nothing s (λ p g n e. found_ok p (entry_at s p) (entry-lands s p) g n e) P
        (λ p r e. halted p (entry_at s p) refl r e)
        (λ p g n x e h l. moved p (entry_at s p) refl g n x e l) at

  -- as a reading of the whole value: where the entries stop before its end it does not fit
  abbrev pub as_reading : Front → Reading
  as_reading f = cond f.ended (spans f.parts) unfit

  add-before : (p : Span) (f : Front) → add p (as_reading f) ≡ as_reading (before p f)
  add-before p f = go f.ended
    where
      go : (b : Bool) → add p (cond b (spans f.parts) unfit) ≡ cond b (spans (p ∷ f.parts)) unfit
      go true = refl
      go false = refl

  pub front-reading : (at : ℕ) → reading_from s at ≡ as_reading (front_from s at)
  front-reading =
      front-ind (λ at f. reading_from s at ≡ as_reading f)
      (λ at p e. (reading-last s at (Some (Last p)) (sym e) p refl).0)
      (λ at e. reading-none s at None (sym e) refl)
      (λ at p c f e ih. (reading-more s at (Some (More p c)) (sym e) p c refl).0 ∙ ap (add p) ih ∙ add-before p f)

  -- some entry is the last
  pub ended_some : (at : ℕ) → (front_from s at).ended ≡ true → (front_from s at).parts ≡ [] → ⊥
  ended_some =
      front-ind (λ at f. f.ended ≡ true → f.parts ≡ [] → ⊥)
      (λ at p e z q. let y : ◌≡◌ {A = ℕ} 0 1 = cc in omega arith)
      (λ at e z q. true≢false (sym z))
      (λ at p c f e ih z q. let y : ◌≡◌ {A = ℕ} 0 1 = cc in omega arith)

  whole-front : (us : List (List ℕ)) → Value White s us ↔ (((front_from s 0).ended ≡ true) × (uris_in s (front_from s 0) ≡ us))
  whole-front us = ((λ v. let a = (agree s us).0 v in to a.0 (sym (front-reading 0) ∙ sym (reading-start s) ∙ a.1) a.2), λ p. of p.0 p.1)
    where
      read : (f : Front) (ps : List Span) (b : Bool) → f.ended ≡ b → cond b (spans f.parts) unfit ≡ spans ps → (f.ended ≡ true) × (ps ≡ f.parts)
      read f ps true e q = (e, cc)
      read f ps false e q = absurd (let z : ◌≡◌ {A = ℕ} 0 1 = cc in omega arith)

      to : (ps : List Span) → as_reading (front_from s 0) ≡ spans ps → map (part_of s) ps ≡ us → ((front_from s 0).ended ≡ true) × (uris_in s (front_from s 0) ≡ us)
      to ps q m =
          let k = read (front_from s 0) ps (front_from s 0).ended refl q in
          (k.0, ap (map (part_of s)) (sym k.1) ∙ m)

      of : (front_from s 0).ended ≡ true → uris_in s (front_from s 0) ≡ us → Value White s us
      of e m = (agree s us).1 ((front_from s 0).parts, reading-start s ∙ front-reading 0 ∙ ap (λ b. cond b (spans (front_from s 0).parts) unfit) e, m)

  -- entries at the front are read
  begins-read : {b : List ℕ} {us : List (List ℕ)} → Begins White b us → (at : ℕ) → at ≤ length s → (r : List ℕ) → drop at s ≡ b ++ r
      → take (length us) (uris_in s (front_from s at)) ≡ us
  begins-read start at h r e = refl
  begins-read (comma {w = w} {e = n} {x = x} {u = u} {b = b} {us = us} ww kn wx kb) at h r e =
      let f : drop at s ≡ w ++ (n ++ (x ++ (44 ∷ (b ++ r)))) = e ∙ simp append_assoc in
      let i = entry-to s kn at w x (44 ∷ (b ++ r)) ww wx refl h f in
      let c = i.0.0 in
      let m = front-more s at (entry_at s at) refl (placed at w u) c i.0.1 in
      ap (λ z. take (suc (length us)) (uris_in s z)) m.0
      ∙ ap₂ ◌∷◌ i.1 (begins-read kb c.at m.2 r i.0.2)

  -- what is read stands at the front
  abbrev Stands : ℕ → Front → Type 0
  Stands at f = (k : ℕ) → (k < length f.parts) ⊎ ((k ≡ length f.parts) × (f.ended ≡ false))
      → (b : List ℕ) × (r : List ℕ) × Begins White b (take k (uris_in s f)) × (drop at s ≡ b ++ r)

  read-begins : (at : ℕ) → Stands at (front_from s at)
  read-begins = front-ind Stands ends stops goes
    where
      ends : (at : ℕ) (p : Span) → entry_at s at ≡ Some (Last p) → Stands at (only p)
      ends at p e zero h = ([], drop at s, start, refl)
      ends at p e (suc k) (inl h) = absurd (omega arith)
      ends at p e (suc k) (inr h) = absurd (true≢false h.1)

      stops : (at : ℕ) → entry_at s at ≡ None → Stands at nothing
      stops at e zero h = ([], drop at s, start, refl)
      stops at e (suc k) (inl h) = absurd (omega arith)
      stops at e (suc k) (inr h) = absurd (let z = h.0 in omega arith)

      less : (f : Front) (p : Span) (k : ℕ) → (suc k < length (before p f).parts) ⊎ ((suc k ≡ length (before p f).parts) × (f.ended ≡ false))
          → (k < length f.parts) ⊎ ((k ≡ length f.parts) × (f.ended ≡ false))
      less f p k (inl h) = inl (omega arith)
      less f p k (inr h) = inr (let z = h.0 in omega arith, h.1)

      goes : (at : ℕ) (p : Span) (c : Cursor) (f : Front) → entry_at s at ≡ Some (More p c) → Stands c.at f → Stands at (before p f)
      goes at p c f e ih zero h = ([], drop at s, start, refl)
      goes at p c f e ih (suc k) h =
          let l = subst (FoundReads s at) e (entry-reads s at) in
          let i = ih k (less f p k h) in (
            l.0 ++ (l.1 ++ (l.2 ++ (44 ∷ i.0))),
            i.1,
            comma l.3 l.4 l.5 i.2,
            l.6 ∙ ap (λ z. l.0 ++ (l.1 ++ (l.2 ++ (44 ∷ z)))) i.3 ∙ simp append_assoc,
          )

  pub front-claims : FrontClaims s
  front-claims =
      record {
        begins = λ b r us k e. begins-read k 0 (omega arith) r e;
        stands = read-begins 0;
        whole = whole-front;
      }
