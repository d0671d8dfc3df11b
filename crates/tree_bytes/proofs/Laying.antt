-- Laws of laying bytes over the front of a buffer, and of the loops that do so.
use Prim.Native.Nat.{ℕ, suc, zero, ◌+◌, ◌-◌, ◌%◌, ◌≤◌, ◌<◌, max}
use mathlib.Core.Path.{◌≡◌, refl, ap, ap₂, sym, ◌∙◌, subst}
use mathlib.Core.Logic.{◌≢◌}
use mathlib.Core.Bool.{Bool, true, false, cond, false≢true}
use mathlib.Core.List.{List, [], ◌∷◌, ◌++◌, map, foldl, foldl-append, append_assoc, append-nil}
use native.Mathlib.Nat.{zero-add}
use native.Mathlib.Numerals.{add-one}
use native.Mathlib.Omega.{arith}
use lib.ListN.{length, length-set, get_or, set, take, drop, replicate, length-append, length-drop, drop_of_length-le, get_or-eq_default}
use lib.Seq.{take_all, take-suc, take_at, length-take-le, set_out}
use lib.Dec.{eqb, leb, ltb}
use Rattle.std.specs.List.{count_by}
use Rattle.std.proofs.lemmas.List.Sums.{sum_by_more}
use Rattle.std.proofs.Common.{eqb-true, add-zero}
use borrow.Author.Tests.{eq-eqb, ne_eqb, ltb-true, ltb-false, leb-true, leb-false, lt-ltb, le-ltb, le-leb, lt-leb}
use borrow.Rule.Slice.PartMut.{put_mid}
use Rattle.base_numbers.specs.Numbers.{most_table_urns}
use Rattle.base_lists.proofs.Each.{each_append}
use Rattle.base_lists.specs.Cuts.{stretch}
use Rattle.base_lists.proofs.Over.{laid-fits, length-laid, laid-set, laid_out}
use Rattle.base_lists.proofs.Bools.{by_test}
use Rattle.base_lists.proofs.Tabulated.{tabulate-length, tabulate-same, tab-suc, tab-same-end, tab-list}
use Rattle.base_lists.proofs.Lists.{mem-at}
use Rattle.base_lists.specs.Lists.{tabulate, laid, each}
use Rattle.table_sections.specs.Held.{Tagged, tag, tagged_from}
use Rattle.tree_sections.specs.Held.{number_at}
use Rattle.tree_forms.specs.Bytes.{section, text_bytes}
use Rattle.tree_forms.specs.Conversion.{filled, converted}
use Rattle.tree_forms.proofs.Writing.{Every}
use Rattle.tree_bytes.specs.Laid.{answer, finished, Spot, spot, put_byte, put_all, Wrote, Puts, of_signal, count_of, names_at, Eight, farthest}
use Rattle.base_bytes.specs.declared.Built.{Built as Answer}

-- one byte
pub put_in : (old : List ℕ) (at v : ℕ) → at < length old → Puts old (set old at v) at (v ∷ []) (at + 1)
put_in old at v h =
    record {
      end = refl;
      long = length-set old at v;
      goes_on = λ p b l e. ap (λ (o : List ℕ). set o at v) e ∙ laid-set p b at v l (omega (arith, ap length e, length-laid p b));
    }

pub put-out : (old : List ℕ) (at v : ℕ) → length old ≤ at → Puts old old at (v ∷ []) (at + 1)
put-out old at v h = record { end = refl; long = refl; goes_on = λ p b l e. e ∙ laid_out p b v (omega (arith, ap length e, length-laid p b)) }

-- one after the other
pub puts-join : {x y z : List ℕ} {a r s : ℕ} {xs ys : List ℕ} → Puts x y a xs r → Puts y z r ys s → Puts x z a (xs ++ ys) s
puts-join {x} {y} {z} {a} {r} {s} {xs} {ys} F G =
    record {
      end = omega (arith, F.end, G.end, length-append xs ys);
      long = G.long ∙ F.long;
      goes_on = λ p b l e.
          G.goes_on (p ++ xs) b (omega (arith, length-append p xs, F.end)) (F.goes_on p b l e) ∙ ap (λ (w : List ℕ). laid w b) (append_assoc p xs ys);
    }

pub puts_none : (x : List ℕ) (a : ℕ) → Puts x x a [] a
puts_none x a = record { end = omega arith; long = refl; goes_on = λ p b l e. e ∙ ap (λ (w : List ℕ). laid w b) (sym (append-nil p)) }

pub puts-same : {x y : List ℕ} {a r : ℕ} {xs ys : List ℕ} → xs ≡ ys → Puts x y a xs r → Puts x y a ys r
puts-same {x} {y} {a} {r} e F = subst (λ (w : List ℕ). Puts x y a w r) e F

module _ (old : List ℕ) (at v : ℕ) where
  step-on : at < max (length old) farthest → put_byte (spot old at) v ≡ spot (set old at v) (at + 1)
  step-on h = ap (λ (b : Bool). spot (set old at v) (cond b (at + 1) at)) (lt-ltb at (max (length old) farthest) h)

  pub byte-in : at < length old → Wrote old (set old at v) at (v ∷ []) (at + 1)
  unfolding put_all
  byte-in h = record { is = sym (step-on (omega arith)) }

  pub byte_past : length old ≤ at → at < farthest → Wrote old old at (v ∷ []) (at + 1)
  unfolding put_all
  byte_past h l = record { is = ap (λ (b : List ℕ). spot b (at + 1)) (sym (set_out old at v h)) ∙ sym (step-on (omega arith)) }

  pub byte-stays : length old ≤ at → farthest ≤ at → Wrote old old at (v ∷ []) at
  unfolding put_all
  byte-stays h l = record {
    is = ap (λ (b : List ℕ). spot b at) (sym (set_out old at v h))
        ∙ sym (ap (λ (b : Bool). spot (set old at v) (cond b (at + 1) at)) (le-ltb at (max (length old) farthest) (omega arith)));
  }

  one-puts : at < farthest → Puts old (set old at v) at (v ∷ []) (at + 1)
  one-puts l =
      by_test (ltb at (length old)) (λ h. put_in old at v (ltb-true at (length old) h))
      (λ h. let k = ltb-false at (length old) h in subst (λ (b : List ℕ). Puts old b at (v ∷ []) (at + 1)) (sym (set_out old at v k)) (put-out old at v k))

puts-fold : (bytes old : List ℕ) (at : ℕ) → at + length bytes ≤ farthest
    → Puts old (put_all (spot old at) bytes).buffer at bytes (put_all (spot old at) bytes).at
unfolding put_all
puts-fold [] old at h = puts_none old at
puts-fold (v ∷ bytes) old at h =
    subst (λ (z : Spot). Puts old (foldl put_byte z bytes).buffer at (v ∷ bytes) (foldl put_byte z bytes).at) (sym (step-on old at v (omega arith)))
    (puts-join (one-puts old at v (omega arith)) (puts-fold bytes (set old at v) (at + 1) (omega arith)))

-- bytes that do not go past 1,000,000,000 are laid behind what was laid
pub puts_of : {old new : List ℕ} {at r : ℕ} {bytes : List ℕ} → Wrote old new at bytes r → at + length bytes ≤ farthest → Puts old new at bytes r
puts_of {old} {new} {at} {r} {bytes} w h = subst (λ (z : Spot). Puts old z.buffer at bytes z.at) (sym w.is) (puts-fold bytes old at h)

-- the position after them is no further than their number
step-most : (s : Spot) (v : ℕ) → (s.at ≤ (put_byte s v).at) × ((put_byte s v).at ≤ s.at + 1)
step-most s v = go (ltb s.at (max (length s.buffer) farthest))
  where
    go : (b : Bool) → (s.at ≤ cond b (s.at + 1) s.at) × (cond b (s.at + 1) s.at ≤ s.at + 1)
    go true = (omega arith, omega arith)
    go false = (omega arith, omega arith)

at_most : (bytes : List ℕ) (s : Spot) → (s.at ≤ (put_all s bytes).at) × ((put_all s bytes).at ≤ s.at + length bytes)
unfolding put_all
at_most [] s = (omega arith, omega arith)
at_most (v ∷ bytes) s = let w = at_most bytes (put_byte s v) in let u = step-most s v in (omega (arith, w.0, u.0), omega (arith, w.1, u.1))

pub wrote-most : {old new : List ℕ} {at r : ℕ} {bytes : List ℕ} → Wrote old new at bytes r → r ≤ at + length bytes
wrote-most {old} {new} {at} {r} {bytes} w = omega (arith, at_most bytes (spot old at), ap (λ (z : Spot). z.at) w.is)

-- and where it is less than 1,000,000,000 none of them went past that
far : (bytes : List ℕ) (old : List ℕ) (at : ℕ) → farthest < at + length bytes → farthest ≤ (put_all (spot old at) bytes).at
unfolding put_all
far [] old at h = omega arith
far (v ∷ bytes) old at h =
    by_test (ltb at farthest)
    (λ b. let l = ltb-true at farthest b in
    subst (λ (z : Spot). farthest ≤ (foldl put_byte z bytes).at) (sym (step-on old at v (omega arith))) (far bytes (set old at v) (at + 1) (omega arith)))
    (λ b. omega (arith, ltb-false at farthest b, at_most bytes (put_byte (spot old at) v), step-most (spot old at) v))

pub wrote_none : (x : List ℕ) (a : ℕ) → Wrote x x a [] a
unfolding put_all
wrote_none x a = record { is = refl }

pub wrote-join : {x y z : List ℕ} {a r s : ℕ} {xs ys : List ℕ} → Wrote x y a xs r → Wrote y z r ys s → Wrote x z a (xs ++ ys) s
unfolding put_all
wrote-join {x} {y} {z} {a} {r} {s} {xs} {ys} F G =
    record { is = G.is ∙ ap (λ (q : Spot). foldl put_byte q ys) F.is ∙ sym (foldl-append put_byte (spot x a) xs ys) }

pub wrote-same : {x y : List ℕ} {a r : ℕ} {xs ys : List ℕ} → xs ≡ ys → Wrote x y a xs r → Wrote x y a ys r
wrote-same {x} {y} {a} {r} e F = subst (λ (w : List ℕ). Wrote x y a w r) e F

-- one byte more of a list, and all of them
pub wrote-more : {x y z : List ℕ} {a r s : ℕ} (w : List ℕ) (i : ℕ) → i < length w → Wrote x y a (take i w) r
    → Wrote y z r (get_or w i 0 ∷ []) s → Wrote x z a (take (i + 1) w) s
wrote-more w i h F G = wrote-same (sym (ap (λ n. take n w) (add-one i) ∙ take-suc w i 0 h)) (wrote-join F G)

pub wrote-all : {x y : List ℕ} {a r : ℕ} (w : List ℕ) (i : ℕ) → length w ≤ i → Wrote x y a (take i w) r → Wrote x y a w r
wrote-all w i h F = wrote-same (take_all i w h) F

-- a text after its length, and one whose length is one byte
pub wrote-text : {x y z : List ℕ} {a r s k : ℕ} (w : List ℕ) → k ≡ length w % 256 → Wrote x y a (k ∷ []) r → Wrote y z r w s
    → Wrote x z a (length w % 256 ∷ w) s
wrote-text w e F G = wrote-same (ap (λ n. n ∷ w) e) (wrote-join F G)

pub text-as : {x y : List ℕ} {a r : ℕ} (w : List ℕ) → Wrote x y a (length w % 256 ∷ w) r → length w ≤ 255 → Wrote x y a (text_bytes w) r
text-as w F h = wrote-same (ap (λ n. n ∷ w) (omega arith)) F

pub puts-text-of : {x y : List ℕ} {a r : ℕ} (w : List ℕ) → Wrote x y a (length w % 256 ∷ w) r → a + most_table_urns ≤ farthest
    → length w ≤ 255 → Puts x y a (text_bytes w) r
puts-text-of w F h l = puts_of (text-as w F l) (omega arith)

each-one : {A : Type 0} (w : A → List ℕ) (x : A) → each w (x ∷ []) ≡ w x
unfolding each
each-one w x = append-nil (w x)

pub each_more : {A : Type 0} (w : A → List ℕ) (f : ℕ → A) (i : ℕ) → each w (tabulate f (i + 1)) ≡ each w (tabulate f i) ++ w (f i)
each_more w f i = ap (each w) (tab-suc f i) ∙ each_append w (tabulate f i) (f i ∷ []) ∙ ap (λ (l : List ℕ). each w (tabulate f i) ++ l) (each-one w (f i))

module _ {A : Type 0} (w : A → List ℕ) (f : ℕ → A) where
  pub each_none : each w (tabulate f 0) ≡ []
  unfolding each tabulate
  each_none = refl

  pub each_next : {x y z : List ℕ} {a r s : ℕ} {bytes : List ℕ} (i : ℕ) → Puts x y a (each w (tabulate f i)) r → Puts y z r bytes s → bytes ≡ w (f i)
      → Puts x z a (each w (tabulate f (i + 1))) s
  each_next i F G e = puts-same (ap (λ (l : List ℕ). each w (tabulate f i) ++ l) e ∙ sym (each_more w f i)) (puts-join F G)

  pub each_start : (x : List ℕ) (a : ℕ) → Puts x x a (each w (tabulate f 0)) a
  each_start x a = puts-same (sym each_none) (puts_none x a)

  pub each-end : {x y : List ℕ} {a r : ℕ} (i n : ℕ) → i ≤ n → n ≤ i → Puts x y a (each w (tabulate f i)) r → Puts x y a (each w (tabulate f n)) r
  each-end i n h k F = puts-same (ap (each w) (tab-same-end f i n h k)) F

-- the same for positions that may stay
module _ {A : Type 0} (w : A → List ℕ) (f : ℕ → A) where
  pub wrote-start : (x : List ℕ) (a : ℕ) → Wrote x x a (each w (tabulate f 0)) a
  wrote-start x a = wrote-same (sym (each_none w f)) (wrote_none x a)

  pub wrote-next : {x y z : List ℕ} {a r s : ℕ} {bytes : List ℕ} (i : ℕ) → Wrote x y a (each w (tabulate f i)) r → Wrote y z r bytes s → bytes ≡ w (f i)
      → Wrote x z a (each w (tabulate f (i + 1))) s
  wrote-next i F G e = wrote-same (ap (λ (l : List ℕ). each w (tabulate f i) ++ l) e ∙ sym (each_more w f i)) (wrote-join F G)

  wrote-section : {x y z : List ℕ} {a r s k : ℕ} (i n : ℕ) → k ≡ n → i ≤ n → n ≤ i → Wrote x y a (k ∷ []) r → Wrote y z r (each w (tabulate f i)) s
      → Wrote x z a (section w (tabulate f n)) s
  wrote-section i n e h l F G =
      wrote-same (ap₂ (λ (m : ℕ) (t : List A). m ∷ each w t) (e ∙ sym (tabulate-length f n)) (tab-same-end f i n h l)) (wrote-join F G)

-- the names of the categories
module _ (t name_at name_len : List ℕ) (n : ℕ) where
  abbrev of-names : List ℕ
  of-names = section text_bytes (tabulate (stretch t name_at name_len) n)

  pub names-over : (x : List ℕ) → 8 < n → spot x 0 ≡ names_at t name_at name_len n x
  unfolding names_at
  names-over x h = sym (ap (λ (b : Bool). cond b (put_all (spot x 0) of-names) (spot x 0)) (lt-leb n 8 h))

  names_in : (x : List ℕ) → n ≤ 8 → names_at t name_at name_len n x ≡ put_all (spot x 0) of-names
  unfolding names_at
  names_in x h = ap (λ (b : Bool). cond b (put_all (spot x 0) of-names) (spot x 0)) (le-leb n 8 h)

  pub names-all : {x y z : List ℕ} {r s k : ℕ} (i : ℕ) → n ≤ 8 → k ≡ n → i ≤ n → n ≤ i → Wrote x y 0 (k ∷ []) r
      → Wrote y z r (each text_bytes (tabulate (stretch t name_at name_len) i)) s → spot z s ≡ names_at t name_at name_len n x
  names-all {x} i m e h l F G = (wrote-section text_bytes (stretch t name_at name_len) i n e h l F G).is ∙ sym (names_in x m)

  -- at most 8 of them are laid
  pub names-put : (x y : List ℕ) (r : ℕ) → spot y r ≡ names_at t name_at name_len n x → n ≤ 8 → r ≤ 4000 → Puts x y 0 of-names r
  names-put x y r e h l =
      let f : Wrote x y 0 of-names r = record { is = e ∙ names_in x h } in
      by_test (leb (0 + length of-names) farthest)
      (λ b. puts_of f (leb-true (0 + length of-names) farthest b))
      (λ b. absurd (omega (arith, far of-names x 0 (leb-false (0 + length of-names) farthest b), ap (λ (z : Spot). z.at) f.is)))

-- the things of one signal
of-join : {A : Type 0} (s : ℕ) (xs ys : List (Tagged A)) → of_signal s (xs ++ ys) ≡ of_signal s xs ++ of_signal s ys
unfolding of_signal
of-join s [] ys = refl
of-join s (x ∷ xs) ys =
    by_test (eqb x.signal s)
    (λ e. rw e (ap (λ l. x.what ∷ l) (of-join s xs ys)))
    (λ e. rw e (of-join s xs ys))

module _ {A : Type 0} (s : ℕ) (f : ℕ → Tagged A) (i : ℕ) where
  pub of-hit : (f i).signal ≡ s → of_signal s (tabulate f (i + 1)) ≡ of_signal s (tabulate f i) ++ ((f i).what ∷ [])
  unfolding of_signal
  of-hit e = ap (of_signal s) (tab-suc f i) ∙ of-join s (tabulate f i) (f i ∷ [])
      ∙ ap (λ (b : Bool). of_signal s (tabulate f i) ++ cond b ((f i).what ∷ []) []) (eq-eqb (f i).signal s e)

  pub of-miss : (f i).signal ≢ s → of_signal s (tabulate f (i + 1)) ≡ of_signal s (tabulate f i)
  unfolding of_signal
  of-miss n =
      ap (of_signal s) (tab-suc f i) ∙ of-join s (tabulate f i) (f i ∷ [])
      ∙ ap (λ (b : Bool). of_signal s (tabulate f i) ++ cond b ((f i).what ∷ []) []) (ne_eqb (f i).signal s n)
      ∙ append-nil (of_signal s (tabulate f i))

  pub count-hit : {n x : ℕ} → n ≡ length (of_signal s (tabulate f i)) → x ≡ (f i).signal → x ≡ s → n + 1 ≡ length (of_signal s (tabulate f (i + 1)))
  count-hit v e g = omega (arith, v, ap length (of-hit (sym e ∙ g)), length-append (of_signal s (tabulate f i)) ((f i).what ∷ []))

  pub count-miss : {n x : ℕ} → n ≡ length (of_signal s (tabulate f i)) → x ≡ (f i).signal → (x ≡ s → ⊥) → n ≡ length (of_signal s (tabulate f (i + 1)))
  count-miss v e g = v ∙ ap length (sym (of-miss (λ q. g (e ∙ q))))

module _ {A : Type 0} (s : ℕ) (f : ℕ → Tagged A) where
  pub none-counted : 0 ≡ length (of_signal s (tabulate f 0))
  unfolding of_signal tabulate
  none-counted = refl

  pub counted-end : {n : ℕ} (i m : ℕ) → i ≤ m → m ≤ i → n ≡ length (of_signal s (tabulate f i)) → n ≡ length (of_signal s (tabulate f m))
  counted-end i m h k v = v ∙ ap (λ (l : List (Tagged A)). length (of_signal s l)) (tab-same-end f i m h k)

-- how many of a signal's front pass
pub counted_front : (signal number : List ℕ) (s m : ℕ) → m ≤ length signal
    → count_by (λ x. eqb x s) (take m signal) ≡ length (of_signal s (tabulate (number_at signal number) m))
counted_front signal number s zero h = none-counted s (number_at signal number)
counted_front signal number s (suc m) h =
    let ih = counted_front signal number s m (omega arith) in
    let q : suc m ≡ m + 1 = omega arith in
    rw q (sum_by_more (λ x. cond (eqb x s) 1 0) signal m 0 (omega arith)
    ∙ by_test (eqb (get_or signal m 0) s)
    (λ t. ap (λ b. count_by (λ x. eqb x s) (take m signal) + cond b 1 0) t ∙ count-hit s (number_at signal number) m ih refl (eqb-true _ _ t))
    (λ t. ap (λ b. count_by (λ x. eqb x s) (take m signal) + cond b 1 0) t ∙ add-zero _
    ∙ count-miss s (number_at signal number) m ih refl (λ q. false≢true (sym t ∙ eq-eqb _ _ q))))

-- how many numbers a signal has
module _ (signal number : List ℕ) (m s : ℕ) where
  pub count-over : most_table_urns < m → 0 ≡ count_of signal number m s
  unfolding count_of
  count-over h = sym (ap (λ (b : Bool). cond b (length (of_signal s (tabulate (number_at signal number) m))) 0) (lt-leb m most_table_urns h))

  count-in : m ≤ most_table_urns → count_of signal number m s ≡ length (of_signal s (tabulate (number_at signal number) m))
  unfolding count_of
  count-in h = ap (λ (b : Bool). cond b (length (of_signal s (tabulate (number_at signal number) m))) 0) (le-leb m most_table_urns h)

  pub count-all : {n : ℕ} → m ≤ most_table_urns → n ≡ length (of_signal s (tabulate (number_at signal number) m)) → n ≡ count_of signal number m s
  count-all h e = e ∙ sym (count-in h)

  pub count-is : {n : ℕ} → n ≡ count_of signal number m s → m ≤ most_table_urns → n ≡ length (of_signal s (tabulate (number_at signal number) m))
  count-is e h = e ∙ count-in h

-- where the form ends
finish-part : (old z : List ℕ) (n : ℕ) → n ≤ length old → z ≡ replicate (length (take (length old - n) (drop n old))) 0
    → put_mid n (length old - n) old z ≡ take n old ++ replicate (length old - length (take n old)) 0
finish-part old z n h g =
    let u : length (drop n old) ≡ length old - n = length-drop n old in
    let v : z ≡ replicate (length old - n) 0 = g ∙ ap (λ k. replicate k 0) (length-take-le (length old - n) (drop n old) (omega (arith, u))) in
    ap (λ (w : List ℕ). take n old ++ (z ++ w)) (drop_of_length-le (drop n old) {i = length old - n} (omega (arith, u)))
    ∙ ap (λ (w : List ℕ). take n old ++ w) (append-nil z ∙ v ∙ ap (λ k. replicate (length old - k) 0) (sym (length-take-le n old h)))

-- what `finish` answers, by what it finds
module _ (old : List ℕ) (n : ℕ) {fits : Bool} where
  pub finish-fits : (z : List ℕ) → fits ≡ true → n ≤ length old → z ≡ replicate (length (take (length old - n) (drop n old))) 0
      → (◌≡◌ {A = Answer} (record { refusal = 0; len = n }) (answer (finished old n fits))) × (put_mid n (length old - n) old z ≡ (finished old n fits).buffer)
  unfolding finished converted
  finish-fits z t h g =
      rw (t, le-leb n (length old) h)
      (ap (λ (k : ℕ). record { refusal = 0; len = k }) (sym (length-take-le n old h)), finish-part old z n h g)

  pub finish-over : {r : Answer} {new : List ℕ} → fits ≡ true → length old < n → r ≡ record { refusal = 22; len = 0 } → new ≡ replicate (length old) 0
      → (r ≡ answer (finished old n fits)) × (new ≡ (finished old n fits).buffer)
  unfolding finished converted
  finish-over t h e g = rw (t, lt-leb n (length old) h) (e, g)

  pub finish-not : {r : Answer} {new : List ℕ} → fits ≡ false → r ≡ record { refusal = 22; len = 0 } → new ≡ replicate (length old) 0
      → (r ≡ answer (finished old n fits)) × (new ≡ (finished old n fits).buffer)
  unfolding finished converted
  finish-not t e g = rw t (e, g)

-- and where a form has been laid, as far as there is room
finished-laid : (form b old : List ℕ) (n : ℕ) (fits : Bool) → (fits ≡ true → n ≤ length b) → length form ≡ n → length b ≡ length old → old ≡ laid form b
    → finished old n fits ≡ converted 0 fits form (length b)
unfolding finished converted
finished-laid form b old n false g l o e = ap (λ k. record { refusal = 22; len = 0; buffer = replicate k 0 }) (sym o)
finished-laid form b old n true g l o e =
    let h : n ≤ length old = omega (arith, g refl) in
    let q : take n old ≡ form = ap (take n) (e ∙ laid-fits form b (omega (arith, g refl))) ∙ take_at form (drop (length form) b) n l in
    rw (le-leb n (length old) h) (ap₂ (λ (w : List ℕ) (k : ℕ). filled w k) q (sym o))

pub finish-laid : (old new : List ℕ) (n : ℕ) (fits : Bool) {r : Answer} → (r ≡ answer (finished old n fits)) × (new ≡ (finished old n fits).buffer)
    → (form b : List ℕ) → (fits ≡ true → n ≤ length b) → length form ≡ n → length b ≡ length old → old ≡ laid form b
    → (r ≡ answer (converted 0 fits form (length b))) × (new ≡ (converted 0 fits form (length b)).buffer)
finish-laid old new n fits w form b g l o e =
    let q = finished-laid form b old n fits g l o e in
    (w.0 ∙ ap answer q, w.1 ∙ ap (λ c. c.buffer) q)

-- a count, and what it counts
pub section-from : {A : Type 0} (w : A → List ℕ) (f : ℕ → A) {x y z : List ℕ} {a r s k : ℕ} (i n : ℕ) → k ≡ n → i ≤ n → n ≤ i
    → Puts x y a (k ∷ []) r → Puts y z r (each w (tabulate f i)) s
    → Puts x z a (section w (tabulate f n)) s
section-from {A} w f i n e h l F G =
    puts-same (ap₂ (λ (m : ℕ) (t : List A). m ∷ each w t) (e ∙ sym (tabulate-length f n)) (tab-same-end f i n h l)) (puts-join F G)

module _ {A : Type 0} (w : A → List ℕ) (s : ℕ) (f : ℕ → Tagged A) where
  pub of-start : (x : List ℕ) (a : ℕ) → Puts x x a (each w (of_signal s (tabulate f 0))) a
  unfolding each of_signal tabulate
  of-start x a = puts_none x a

  pub of-next : {x y z : List ℕ} {a r t k : ℕ} {bytes : List ℕ} (i : ℕ) → Puts x y a (each w (of_signal s (tabulate f i))) r
      → Puts y z r bytes t → bytes ≡ w (f i).what
      → k ≡ (f i).signal → k ≡ s → Puts x z a (each w (of_signal s (tabulate f (i + 1)))) t
  of-next i F G e g h =
      puts-same
      (ap (λ (l : List ℕ). each w (of_signal s (tabulate f i)) ++ l) (e ∙ sym (each-one w (f i).what))
      ∙ sym (each_append w (of_signal s (tabulate f i)) ((f i).what ∷ [])) ∙ ap (each w) (sym (of-hit s f i (sym g ∙ h))))
      (puts-join F G)

  pub of-pass : {x y : List ℕ} {a r k : ℕ} (i : ℕ) → Puts x y a (each w (of_signal s (tabulate f i))) r → k ≡ (f i).signal → (k ≡ s → ⊥)
      → Puts x y a (each w (of_signal s (tabulate f (i + 1)))) r
  of-pass i F g h = puts-same (ap (each w) (sym (of-miss s f i (λ q. h (g ∙ q))))) F

  pub of_end : {x y z : List ℕ} {a r t k n : ℕ} (i m : ℕ) → k ≡ n → n ≡ length (of_signal s (tabulate f m)) → i ≤ m → m ≤ i
      → Puts x y a (k ∷ []) r → Puts y z r (each w (of_signal s (tabulate f i))) t
      → Puts x z a (section w (of_signal s (tabulate f m))) t
  of_end i m e v h l F G = puts-same (ap₂ (λ (c : ℕ) (t : List (Tagged A)). c ∷ each w (of_signal s t)) (e ∙ v) (tab-same-end f i m h l)) (puts-join F G)

-- what the signals have is what their tags say
module _ {A : Type 0} where
  of_other : (s k : ℕ) (xs : List A) (r : List (Tagged A)) → (k ≡ s → ⊥) → of_signal s (map (tag k) xs ++ r) ≡ of_signal s r
  unfolding of_signal
  of_other s k [] r n = refl
  of_other s k (x ∷ xs) r n = rw (ne_eqb k s n) (of_other s k xs r n)

  of-own : (s : ℕ) (xs : List A) (r : List (Tagged A)) → of_signal s (map (tag s) xs ++ r) ≡ xs ++ of_signal s r
  unfolding of_signal
  of-own s [] r = refl
  of-own s (x ∷ xs) r = rw (eq-eqb s s refl) (ap (λ (l : List A). x ∷ l) (of-own s xs r))

  of-later : (s k : ℕ) (ss : List (List A)) → s < k → of_signal s (tagged_from k ss) ≡ []
  unfolding of_signal tagged_from
  of-later s k [] h = refl
  of-later s k (sig ∷ ss) h = of_other s k sig (tagged_from (suc k) ss) (λ e. omega arith) ∙ of-later s (suc k) ss (omega arith)

  of-tagged : (s k : ℕ) (ss : List (List A)) → of_signal (k + s) (tagged_from k ss) ≡ get_or ss s []
  unfolding of_signal tagged_from
  of-tagged s k [] = refl
  of-tagged zero k (sig ∷ ss) =
      let e : k + zero ≡ k = omega arith in
      ap (λ j. of_signal j (map (tag k) sig ++ tagged_from (suc k) ss)) e ∙ of-own k sig (tagged_from (suc k) ss)
      ∙ ap (λ (l : List A). sig ++ l) (of-later k (suc k) ss (omega arith)) ∙ append-nil sig
  of-tagged (suc s) k (sig ∷ ss) =
      let e : k + suc s ≡ suc k + s = omega arith in
      ap (λ j. of_signal j (map (tag k) sig ++ tagged_from (suc k) ss)) e ∙ of_other (suc k + s) k sig (tagged_from (suc k) ss)
      (λ e. omega arith) ∙ of-tagged s (suc k) ss

  pub of-signal : (s : ℕ) (ss : List (List A)) → of_signal s (tagged_from 0 ss) ≡ get_or ss s []
  of-signal s ss = ap (λ j. of_signal j (tagged_from 0 ss)) (sym (zero-add s)) ∙ of-tagged s 0 ss

-- the numbers of all signals, from their arrays
module _ (signal number : List ℕ) (m : ℕ) (ss : List (List ℕ)) (e : tabulate (number_at signal number) m ≡ tagged_from 0 ss) where
  pub signals-are : tabulate (λ s. of_signal s (tabulate (number_at signal number) m)) (length ss) ≡ ss
  signals-are = tabulate-same _ (λ s. get_or ss s []) (length ss) (λ s h. ap (of_signal s) e ∙ of-signal s ss) ∙ tab-list ss []

  pub eight : Every (λ (sig : List ℕ). length sig ≤ 8) ss → Eight signal number m
  eight h s =
      let q : length (of_signal s (tabulate (number_at signal number) m)) ≡ length (get_or ss s []) = ap length (ap (of_signal s) e ∙ of-signal s ss) in
      by_test (ltb s (length ss))
      (λ b. omega (arith, q, h (get_or ss s []) (mem-at ss s [] (ltb-true s (length ss) b))))
      (λ b. omega (arith, q, ap length (get_or-eq_default ss [] (ltb-false s (length ss) b))))
