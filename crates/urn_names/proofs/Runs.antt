-- Laws of the label bytes at the front of a text: they are the whole name where a colon or the end follows.
use Prim.Native.Nat.{ℕ, suc, ◌+◌, ◌-◌, ◌≤◌, ◌<◌}
use mathlib.Core.Path.{◌≡◌, refl, ap, sym, ◌∙◌}
use mathlib.Core.Bool.{Bool, true, false, cond, ◌&&◌, and-true, and-false, and-eq-true_iff, or-false, false≢true}
use mathlib.Core.List.{List, [], ◌∷◌}
use Rattle.std.proofs.Common.{None, Some}
use native.Mathlib.Numerals.{add-one}
use native.Mathlib.Omega.{arith}
use lib.ListN.{length, get_or, take, drop}
use lib.Seq.{take_all, length-take-le, get_or-take}
use lib.Dec.{eqb, leb}
use borrow.Author.Tests.{eq-eqb, ne_eqb, leb-true}
use Rattle.base_lists.proofs.Cuts.{up_to-take, past-drop, part_end, run-le}
use Rattle.base_lists.proofs.Bools.{by_test}
use Rattle.base_lists.specs.Cuts.{up_to, past, run}
use Rattle.base_lists.specs.Tests.{all}
use Rattle.urn_names.specs.Names.{length_by}
use Rattle.urn_names.specs.Labels.{label_shape, label_by, name_by}

-- a byte that no label has is none of a label's
pub other_byte : (p : ℕ → Bool) (c x : ℕ) → p c ≡ false → p x ≡ true → eqb x c ≡ false
other_byte p c x n e = ne_eqb x c (λ q. false≢true (sym n ∙ ap p (sym q) ∙ e))

module _ (p : ℕ → Bool) where
  -- its bytes may stand in a label
  run-all : (s : List ℕ) → all p (take (run p s) s) ≡ true
  unfolding run all
  run-all [] = refl
  run-all (x ∷ xs) = by_test (p x) (λ e. simp (e, run-all xs)) (λ e. simp e)

  -- a text that goes on after the run is no label
  run_short : (s : List ℕ) → run p s < length s → all p s ≡ false
  unfolding run all
  run_short [] h = absurd (omega arith)
  run_short (x ∷ xs) h =
      by_test (p x)
      (λ e. let k : run p xs < length xs = omega (arith, simp e at h) in simp (e, run_short xs k))
      (λ e. simp e)

  -- before a byte that no label has, or the end, the run is what stands up to that byte
  run-up_to : (c : ℕ) → p c ≡ false → (s : List ℕ) → (run p s < length s → get_or s (run p s) 0 ≡ c) → up_to c s ≡ take (run p s) s
  unfolding run up_to
  run-up_to c n [] h = refl
  run-up_to c n (x ∷ xs) h =
      by_test (p x)
      (λ e. simp (e, other_byte p c x n e) (ap (λ (l : List ℕ). x ∷ l) (run-up_to c n xs (λ k. simp e at h (omega arith)))))
      (λ e. simp (e, eq-eqb x c (simp e at h (omega arith))))

  none-label : label_by p [] ≡ false
  unfolding label_by
  none-label = refl

  module _ (at_byte : p 64 ≡ false) where
    -- before another byte than `@` the text up to the first `@` is no label either
    run-other : (s : List ℕ) → run p s < length s → (get_or s (run p s) 0 ≡ 64 → ⊥) → all p (up_to 64 s) ≡ false
    unfolding run up_to all
    run-other [] h k = absurd (omega arith)
    run-other (x ∷ xs) h k =
        by_test (p x)
        (λ e. simp (e, other_byte p 64 x at_byte e) (run-other xs (omega (arith, simp e at h)) (λ q. simp e at k q)))
        (λ e. simp (ne_eqb x 64 (λ q. simp e at k q), e))

    -- there is no `@` in a label
    no-at : (l : List ℕ) → all p l ≡ true → past 64 l ≡ []
    unfolding all past
    no-at [] h = refl
    no-at (x ∷ xs) h =
        let a = (and-eq-true_iff (p x) (all p xs)).0 h in
        simp (other_byte p 64 x at_byte a.0) (no-at xs a.1)

    -- of label bytes a name is a label
    label-name : (l : List ℕ) → all p l ≡ true → name_by p l ≡ label_by p l
    unfolding name_by
    label-name l h = simp (no-at l h, none-label, and-false, or-false)

    module _ (s : List ℕ) (n : ℕ) (e : n ≡ run p s) where
      pub run_fits : n ≤ length s
      run_fits = omega (arith, run-le p s)

      bytes_fit : all p (take n s) ≡ true
      bytes_fit = rw e (run-all s)

      -- the run is a label by its length and its ends
      run-label : label_by p (take n s) ≡ label_shape n s
      unfolding label_by
      run-label =
          let l : length (take n s) ≡ n = length-take-le n s run_fits in
          by_test (leb 1 n)
          (λ t.
          let h : 1 ≤ n = leb-true 1 n t in
          simp (l, bytes_fit, and-true, get_or-take n s 0 0 (omega arith), get_or-take n s (n - 1) 0 (omega arith)))
          (λ t. simp (l, t))

      -- a text is a label where it is all run and the run is a label
      pub all-label : {b : Bool} → n ≡ length s → b ≡ label_shape n s → b ≡ label_by p s
      all-label h f = f ∙ sym run-label ∙ ap (label_by p) (take_all n s (omega arith))

      pub part-label : (n ≡ length s → ⊥) → false ≡ label_by p s
      unfolding label_by
      part-label h = sym (simp (run_short s (omega (arith, run_fits)), and-false))

      -- a name that is all run
      pub name-run : {b : Bool} → n ≡ length s → b ≡ label_shape n s → b ≡ name_by p s
      name-run h f = f ∙ sym run-label ∙ sym (label-name (take n s) bytes_fit) ∙ ap (name_by p) (take_all n s (omega arith))

      -- a name with other bytes after the run
      pub name-other : (n ≡ length s → ⊥) → (get_or s n 0 ≡ 64 → ⊥) → false ≡ name_by p s
      unfolding name_by label_by
      name-other h k =
          let o : all p (up_to 64 s) ≡ false = run-other s (omega (arith, run_fits)) (rw e at k) in
          sym (simp (run_short s (omega (arith, run_fits)), o, and-false))

      -- a name with a provider
      pub name-two : (n ≡ length s → ⊥) → get_or s n 0 ≡ 64 → name_by p s ≡ (label_shape n s && label_by p (drop (n + 1) s))
      unfolding name_by
      name-two h k =
          let u : up_to 64 s ≡ take n s = rw e (run-up_to 64 at_byte s (λ l. rw e at k)) in
          let l : length (up_to 64 s) ≡ n = ap length u ∙ length-take-le n s run_fits in
          let q : past 64 s ≡ drop (n + 1) s = sym (past-drop 64 s) ∙ ap (λ i. drop i s) (ap suc l ∙ sym (add-one n)) in
          simp (← part-label h, u, q, run-label)

      -- the name at the front is the run where a colon or the end follows
      pub run-name : p 58 ≡ false → (n < length s → get_or s n 0 ≡ 58) → length_by (name_by p) s ≡ cond (label_shape n s) (Some n) None
      unfolding length_by
      run-name colon h =
          let u : up_to 58 s ≡ take n s = rw (run-up_to 58 colon s (rw e at h), e) in
          simp (u, label-name (take n s) bytes_fit, run-label, length-take-le n s run_fits)

      pub name-second : {b r : Bool} → (n ≡ length s → ⊥) → get_or s n 0 ≡ 64 → b ≡ label_shape n s → b ≡ true
          → r ≡ label_by p (take (length s - (n + 1)) (drop (n + 1) s)) → r ≡ name_by p s
      name-second h k f t g = g ∙ ap (label_by p) (part_end s (n + 1)) ∙ sym (name-two h k ∙ ap (λ b. b && label_by p (drop (n + 1) s)) (sym f ∙ t))

      pub name-first : {b : Bool} → (n ≡ length s → ⊥) → get_or s n 0 ≡ 64 → b ≡ label_shape n s → b ≡ false → false ≡ name_by p s
      name-first h k f t = sym (name-two h k ∙ ap (λ b. b && label_by p (drop (n + 1) s)) (sym f ∙ t))

      module _ (colon : p 58 ≡ false) (h : n < length s → get_or s n 0 ≡ 58) {b : Bool} (f : b ≡ label_shape n s) where
        pub run-named : b ≡ true → Some n ≡ length_by (name_by p) s
        run-named t = sym (run-name colon h ∙ ap (λ b. cond b (Some n) None) (sym f ∙ t))

        pub run-unnamed : b ≡ false → None ≡ length_by (name_by p) s
        run-unnamed t = sym (run-name colon h ∙ ap (λ b. cond b (Some n) None) (sym f ∙ t))

-- the name at the front by the bytes up to the first colon
module _ (ok : List ℕ → Bool) (s : List ℕ) (k : ℕ) (e : k ≡ length (up_to 58 s)) {b : Bool} (f : b ≡ ok (take k s)) where
  front-name : length_by ok s ≡ cond b (Some k) None
  unfolding length_by
  front-name = let u : take k s ≡ up_to 58 s = rw e (up_to-take 58 s) in rw (f, u, e)

  pub front-named : b ≡ true → Some k ≡ length_by ok s
  front-named t = sym (front-name ∙ ap (λ b. cond b (Some k) None) t)

  pub front-unnamed : b ≡ false → None ≡ length_by ok s
  front-unnamed t = sym (front-name ∙ ap (λ b. cond b (Some k) None) t)

-- what the length of a name tells of it
module _ (ok : List ℕ → Bool) (s : List ℕ) where
  length-is : (b : Bool) → ok (up_to 58 s) ≡ b → length_by ok s ≡ cond b (Some (length (up_to 58 s))) None
  unfolding length_by
  length-is b t = ap (λ x. cond x (Some (length (up_to 58 s))) None) t

  pub length-bad : length_by ok s ≡ None → ok (up_to 58 s) ≡ false
  length-bad e = go (ok (up_to 58 s)) refl
    where
      go : (b : Bool) → ok (up_to 58 s) ≡ b → b ≡ false
      go true t = let q : Some (length (up_to 58 s)) ≡ None = sym (length-is true t) ∙ e in cc
      go false t = refl

  pub length-good : {k : ℕ} → length_by ok s ≡ Some k → (ok (up_to 58 s) ≡ true) × (k ≡ length (up_to 58 s))
  length-good {k} e = go (ok (up_to 58 s)) refl
    where
      go : (b : Bool) → ok (up_to 58 s) ≡ b → (ok (up_to 58 s) ≡ true) × (k ≡ length (up_to 58 s))
      go true t = let q : Some (length (up_to 58 s)) ≡ Some k = sym (length-is true t) ∙ e in (t, cc)
      go false t = let q : None ≡ Some k = sym (length-is false t) ∙ e in cc
