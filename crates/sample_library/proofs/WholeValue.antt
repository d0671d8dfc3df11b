-- The entries of a value, written one after the other.
use Prim.Native.Nat.{ℕ, suc, ◌+◌, ◌*◌, ◌≤◌, ◌<◌}
use mathlib.Core.Path.{◌≡◌, refl, sym, ap, ap₂, subst, ◌∙◌}
use mathlib.Core.Bool.{false}
use mathlib.Core.List.{List, [], ◌∷◌, ◌++◌, append_assoc, append-nil}
use native.Mathlib.Omega.{arith}
use lib.Dec.{eqb}
use lib.ListN.{length, set, drop, length-append}
use lib.Seq.{sets, sets-eq}
use borrow.Author.Tests.{eq-eqb, ne_eqb, lt-ltb, le-ltb}
use Rattle.base_numbers.specs.Numbers.{sample_room}
use Rattle.base_lists.specs.Lists.{over}
use Rattle.theory_resolution.specs.Nodes.{nodes}
use Rattle.table_decode.specs.Tables.{table_refusal, table_of, category_names}
use Rattle.std.specs.Prelude.{Result, Ok, Err}
use Rattle.base_numbers.specs.Refusals.{refusal_number}
use Rattle.base_numbers.proofs.Refusals.{refusal-some}
use Rattle.base_numbers.specs.declared.refusal.Refusal.{Refusal}
use Rattle.base_numbers.specs.declared.refusal.Refusal.TheVariants.{SampleNoRoom}
use Rattle.sample_seed.specs.Numbers.{next_of, choice_of}
use Rattle.sample_library.specs.Sample.{Draw, draw_of, Drawn, draw_more, draws_of, drawn_of, bare, after_commas, value_of, sample_of, refused_with}
use Rattle.sample_library.specs.Sample.{made_of, buffer_of, told, answer_of}
use Rattle.sample_library.proofs.ValueLaws.{few-choice, good-draws, draws-length, value-length}
use Rattle.sample_library.proofs.WriteLaws.{then-put}

-- the value of the first n entries, and the seed after them
abbrev pub value_up_to : List ℕ → ℕ → ℕ → List ℕ
value_up_to t y n = value_of (draws_of (category_names t) (nodes (table_of t)) y n).uris

abbrev pub seed_up_to : List ℕ → ℕ → ℕ → ℕ
seed_up_to t y n = (draws_of (category_names t) (nodes (table_of t)) y n).seed

abbrev draw_at : List ℕ → ℕ → Draw
draw_at t x = draw_of (category_names t) (nodes (table_of t)) x

-- the writer stands after n entries
abbrev pub After : List ℕ → ℕ → ℕ → ℕ → ℕ → Type 0
After t y n len seed = (len ≡ length (value_up_to t y n)) × (seed ≡ seed_up_to t y n)

commas-last : (us : List (List ℕ)) (u : List ℕ) → after_commas (us ++ u ∷ []) ≡ after_commas us ++ 44 ∷ bare u
unfolding after_commas
commas-last [] u = append-nil (44 ∷ bare u)
commas-last (x ∷ us) u = ap (λ (l : List ℕ). (44 ∷ bare x) ++ l) (commas-last us u) ∙ sym (append_assoc (44 ∷ bare x) (after_commas us) (44 ∷ bare u))

value-last : (us : List (List ℕ)) (u : List ℕ) → 0 < length us → value_of (us ++ u ∷ []) ≡ value_of us ++ 44 ∷ bare u
unfolding value_of
value-last [] u h = absurd (omega arith)
value-last (x ∷ us) u h = ap (λ (l : List ℕ). bare x ++ l) (commas-last us u) ∙ sym (append_assoc (bare x) (after_commas us) (44 ∷ bare u))

module _ (t : List ℕ) (formed : table_refusal t ≡ 0) (y : ℕ) where
  pub value-few : (n : ℕ) → length (value_up_to t y n) ≤ 272 * n
  value-few n = omega (arith, value-length (draws_of (category_names t) (nodes (table_of t)) y n).uris (good-draws t formed y n), draws-length t formed y n)

  value-one : value_up_to t y 1 ≡ bare (draw_at t y).uri
  unfolding value_of after_commas draws_of draw_more
  value-one = append-nil (bare (draw_at t y).uri)

  seed-one : seed_up_to t y 1 ≡ (draw_at t y).seed
  unfolding draws_of draw_more
  seed-one = refl

  more-uris : (n : ℕ) → (draws_of (category_names t) (nodes (table_of t)) y (suc n)).uris ≡ (draws_of (category_names t) (nodes (table_of t)) y
      n).uris ++ (draw_at t (seed_up_to t y n)).uri ∷ []
  unfolding draws_of draw_more
  more-uris n = refl

  more-seed : (n : ℕ) → seed_up_to t y (suc n) ≡ (draw_at t (seed_up_to t y n)).seed
  unfolding draws_of draw_more
  more-seed n = refl

  value-more : (k : ℕ) → value_up_to t y (suc (suc k)) ≡ value_up_to t y (suc k) ++ 44 ∷ bare (draw_at t (seed_up_to t y (suc k))).uri
  value-more k =
      ap value_of (more-uris (suc k))
      ∙ value-last (draws_of (category_names t) (nodes (table_of t)) y (suc k)).uris (draw_at t (seed_up_to t y (suc k))).uri (omega (
        arith,
        draws-length t formed y (suc k),
      ))

  -- what `entry` answers for a seed x at a place
  abbrev Answered : ℕ → List ℕ → ℕ → List ℕ → ℕ → ℕ → Type 0
  Answered x b at c len seed = (len ≡ at + length (bare (draw_at t x).uri)) × (seed ≡ (draw_at t x).seed) × (c ≡ sets b at (bare (draw_at t x).uri))

  -- the first entry
  pub after_first : (b : List ℕ) {x len seed : ℕ} {c : List ℕ} → x ≡ y → Answered x b 0 c len seed → After t y 1 len seed × (c ≡ sets b 0 (value_up_to t y 1))
  after_first b {x} {len} {seed} {c} e g =
      let h = subst (λ (z : ℕ). Answered z b 0 c len seed) e g in
      let z : 0 + length (bare (draw_at t y).uri) ≡ length (bare (draw_at t y).uri) = omega arith in
      ((h.0 ∙ z ∙ ap length (sym value-one), h.1 ∙ sym seed-one), h.2 ∙ ap (sets b 0) (sym value-one))

  -- one more
  pub after_more : {len seed end next : ℕ} (k : ℕ) {b c : List ℕ} → After t y (suc k) len seed → Answered seed (set b len 44) (len + 1) c end next
      → After t y (suc (k + 1)) end next × ((o : List ℕ) → b ≡ sets o 0 (value_up_to t y (suc k)) → c ≡ sets o 0 (value_up_to t y (suc (k + 1))))
  after_more {len} {seed} {end} {next} k {b} {c} a h =
      let s : seed ≡ seed_up_to t y (suc k) = a.1 in
      let u : bare (draw_at t seed).uri ≡ bare (draw_at t (seed_up_to t y (suc k))).uri = ap (λ (x : ℕ). bare (draw_at t x).uri) s in
      let j : k + 1 ≡ suc k = omega arith in
      let v : value_up_to t y (suc (k + 1)) ≡ value_up_to t y (suc k) ++ (44 ∷ []) ++ bare (draw_at t seed).uri =
      ap (λ (n : ℕ). value_up_to t y (suc n)) j ∙ value-more k ∙ ap (λ (l : List ℕ). value_up_to t y (suc k) ++ 44 ∷ l) (sym u)
      ∙ sym (append_assoc (value_up_to t y (suc k)) (44 ∷ []) (bare (draw_at t seed).uri)) in
      let l : end ≡ len + 1 + length (bare (draw_at t seed).uri) = h.0 in
      let e : len + 1 ≡ 0 + length (value_up_to t y (suc k) ++ 44 ∷ []) = omega (arith, a.0, length-append (value_up_to t y (suc k)) (44 ∷ [])) in (
        (
          omega (arith, l, ap length v, e, length-append (value_up_to t y (suc k) ++ 44 ∷ []) (bare (draw_at t seed).uri)),
          h.1 ∙ ap (λ (x : ℕ). (draw_at t x).seed) s ∙ sym (more-seed (suc k)) ∙ ap (λ (n : ℕ). seed_up_to t y (suc n)) (sym j),
        ),
        λ o f.
            let z : 0 + length (value_up_to t y (suc k)) ≡ length (value_up_to t y (suc k)) = omega arith in
            let g = then-put o 0 (value_up_to t y (suc k)) (44 ∷ []) (a.0 ∙ sym z) f refl in
            then-put o 0 (value_up_to t y (suc k) ++ 44 ∷ []) (bare (draw_at t seed).uri) e g h.2 ∙ ap (sets o 0) (sym v),
      )

-- the whole value
pub after-all : (t : List ℕ) → table_refusal t ≡ 0 → (x : ℕ) (b : List ℕ) {y n k len seed : ℕ} {c : List ℕ} → y ≡ next_of x
    → n ≡ choice_of y 8 → k ≡ n → sample_room ≤ length b
    → After t y (suc k) len seed → c ≡ sets b 0 (value_up_to t y (suc k))
    → (len ≡ length (sample_of t x).value) × (seed ≡ (sample_of t x).seed) × (c ≡ over (sample_of t x).value b)
unfolding drawn_of over
after-all t formed x b {y} {n} {k} {len} {seed} {c} e f g h a s =
    let m : k ≡ choice_of (next_of x) 8 = g ∙ f ∙ ap (λ (z : ℕ). choice_of z 8) e in
    let d : draws_of (category_names t) (nodes (table_of t)) y (suc k) ≡ draws_of (category_names t) (nodes (table_of t)) (next_of x) (suc (choice_of (next_of x) 8)) =
    ap₂ (λ (z : ℕ) (j : ℕ). draws_of (category_names t) (nodes (table_of t)) z (suc j)) e m in
    let v : value_up_to t y (suc k) ≡ (sample_of t x).value = ap (λ (z : Drawn). value_of z.uris) d in
    let i : 0 + length (value_up_to t y (suc k)) ≤ length b = omega (arith, value-few t formed y (suc k), few-choice (next_of x), m, h) in
    let q : 0 + length (value_up_to t y (suc k)) ≡ length (value_up_to t y (suc k)) = omega arith in (
      a.0 ∙ ap length v,
      a.1 ∙ ap (λ (z : Drawn). z.seed) d,
      s ∙ sets-eq (value_up_to t y (suc k)) b 0 i ∙ ap (λ (j : ℕ). value_up_to t y (suc k) ++ drop j b) q ∙ ap (λ (p : List ℕ). over p b) v,
    )

-- what the maker answers, by a result, the seed after it and the buffer
abbrev Makes : (t : List ℕ) (x : ℕ) (b : List ℕ) → Result ℕ Refusal → ℕ → List ℕ → Type 0
Makes t x b r seed c = (told r ≡ answer_of (made_of t x (length b))) × (seed ≡ (made_of t x (length b)).seed) × (c ≡ buffer_of t x b)

module _ (t : List ℕ) (x : ℕ) (b : List ℕ) where
  pub made-refused : (k : Refusal) → refusal_number k ≡ table_refusal t → Makes t x b (Err k) x b
  unfolding made_of buffer_of
  made-refused k e =
      let some : eqb (table_refusal t) 0 ≡ false = ne_eqb (table_refusal t) 0 (λ q. omega (arith, refusal-some k, e, q)) in
      simp some (ap (λ (n : ℕ). answer_of (refused_with n x)) e, refl, refl)

  module _ (formed : table_refusal t ≡ 0) where
    pub made-short : length b < sample_room → Makes t x b (Err SampleNoRoom) x b
    unfolding made_of buffer_of refusal_number
    made-short h = simp (eq-eqb (table_refusal t) 0 formed, lt-ltb (length b) sample_room h) (refl, refl, refl)

    pub made-whole : {len seed : ℕ} {c : List ℕ} → sample_room ≤ length b
        → (len ≡ length (sample_of t x).value) × (seed ≡ (sample_of t x).seed) × (c ≡ over (sample_of t x).value b)
        → Makes t x b (Ok len) seed c
    unfolding made_of buffer_of
    made-whole h e =
        simp (eq-eqb (table_refusal t) 0 formed, le-ltb (length b) sample_room h)
        (ap (λ (n : ℕ). told (Ok n)) e.0, e.1, e.2)
