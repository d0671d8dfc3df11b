-- What the builder and the checker answer for a stored table, from its decoded arrays.
use Prim.Native.Nat.{ℕ, min}
use mathlib.Core.Path.{◌≡◌, sym, ap, ap₂, subst, ◌∙◌}
use mathlib.Core.Bool.{Bool, true, false}
use mathlib.Core.List.{List}
use lib.Dec.{eqb}
use borrow.Author.Tests.{eq-eqb, ne_eqb}
use lib.ListN.{replicate}
use native.Mathlib.Omega.{arith}
use Rattle.base_numbers.specs.Numbers.{most_nodes, most_symbols}
use Rattle.base_bytes.specs.Built.{refused}
use Rattle.base_lists.proofs.Numbers.{min-le}
use Rattle.theory_resolution.proofs.SymbolCount.{few-symbols}
use Rattle.node_step.specs.StatusByte.{fits_by}
use Rattle.node_step.specs.declared.stored.Packed.{Packed}
use Rattle.table_decode.specs.Tables.{table_of, table_refusal}
use Rattle.std.specs.Prelude.{Result, Ok, Err, OnOk}
use Rattle.base_numbers.specs.Refusals.{refusal_number}
use Rattle.base_numbers.proofs.Refusals.{refusal-some}
use Rattle.base_numbers.specs.declared.refusal.Refusal.{Refusal}
use Rattle.table_decode.specs.Decoded.{Holds, DecodedAs}
use Rattle.table_decode.specs.Accepted.{Accepted}
use Rattle.node_search.specs.declared.decoded.Decoded.{Decoded}
use Rattle.table_decode.proofs.Accepting.{accepted}
use Rattle.machine_library.specs.Built.{built_from, buffer_from, check_from}
use Rattle.machine_symbols.specs.Listed.{triple_lists, symbols_of, Listed, SymbolsIn}
use Rattle.machine_symbols.specs.declared.Symbols.{Symbols}
use Rattle.machine_symbols.proofs.SymbolLaws.{lists-listed}
use Rattle.machine_symbols.specs.Steps.{next_state}
use Rattle.machine_build.specs.States.{built_by, buffer_by, answer_of}
use Rattle.machine_check.specs.Checks.{check_by, check_number}
use Rattle.machine_library.proofs.Claims.{all-used, refused-build}
use Rattle.base_bytes.specs.declared.Built.{Built}
use Rattle.machine_symbols.proofs.SymbolsRight.{symbols-in}
use Rattle.machine_build.proofs.BuildRight.{built-right, buffer-right}
use Rattle.machine_check.proofs.CheckRight.{check-right}

-- a refused table
module _ (t : List ℕ) (k : Refusal) (m : refusal_number k ≡ table_refusal t) where
  other : eqb (table_refusal t) 0 ≡ false
  other = ne_eqb (table_refusal t) 0 (λ z. omega (arith, m, refusal-some k))

  pub refused-built : (room : ℕ) → refused (refusal_number k) ≡ built_from t room
  unfolding built_from
  refused-built room = ap refused m ∙ sym (rw other)

  pub refused-check : (im : List ℕ) → refusal_number k ≡ check_from t im
  unfolding check_from
  refused-check im = m ∙ sym (rw other)

-- a well-formed one, with its symbols listed
module _ (t : List ℕ) (r : Decoded) (m : DecodedAs t r) (s : Symbols)
    (v : s ≡ symbols_of (triple_lists r.category r.inner (min r.nodes most_nodes) (min r.categories 8))) where
  abbrev sy : List ℕ
  sy = s.bytes

  abbrev count : ℕ
  count = s.count

  same : eqb (table_refusal t) 0 ≡ true
  same = eq-eqb (table_refusal t) 0 m.refusal

  held : Holds t (table_of t) r
  held = m.holds

  all-well : Accepted (table_of t)
  all-well = accepted t m.refusal

  pub table-symbols : SymbolsIn (table_of t) sy count
  table-symbols =
      symbols-in t r.category r.at r.len r.nodes (table_of t) held.nodes r.inner held.inner sy count held.numbers.few-cats
      (omega (arith, few-symbols (table_of t) (all-used t m.refusal), all-well.few-nodes))
      (subst (λ (k : ℕ). Listed sy count (triple_lists r.category r.inner (min r.nodes most_nodes) (min k 8))) held.categories
      (lists-listed r.category r.inner (min r.nodes most_nodes) (min r.categories 8) v).0)

  abbrev next : Packed → ℕ → Packed
  next = next_state r.rows r.parent r.inner r.signals sy

  abbrev fits : ℕ → ℕ → ℕ → Bool
  fits = fits_by r.rows r.parent r.inner r.category r.nodes

  -- the builder's limits are the table's own numbers
  cats-are : min r.categories 8 ≡ (table_of t).cats
  cats-are = ap (λ k. min k 8) held.categories ∙ sym (min-le (table_of t).cats 8 held.numbers.few-cats)

  count-is : min count most_symbols ≡ count
  count-is = sym (min-le count most_symbols table-symbols.few-symbols)

  pub table-built : (room : ℕ) → answer_of (built_by next (min r.categories 8) (min count most_symbols) room) ≡ built_from t room
  unfolding built_from
  table-built room =
      ap₂ (λ k n. answer_of (built_by next k n room)) cats-are count-is
      ∙ built-right (table_of t) held.well-formed r.rows r.parent r.signals held.numbers sy count table-symbols r.inner
      held.inner room ∙ sym (rw same)

  table-buffer : (room : ℕ) {n : ℕ} → Ok n ≡ built_by next (min r.categories 8) (min count most_symbols) room
      → buffer_by next (min r.categories 8) (min count most_symbols) sy room ≡ buffer_from t room
  unfolding buffer_from
  table-buffer room e =
      ap₂ (λ k n. buffer_by next k n sy room) cats-are count-is
      ∙ buffer-right (table_of t) held.well-formed r.rows r.parent r.signals held.numbers sy count table-symbols r.inner
      held.inner room (e ∙ ap₂ (λ k n. built_by next k n room) cats-are count-is) ∙ sym (rw same)

  pub table-written : (room : ℕ) (buf : List ℕ) (x : Result ℕ Refusal) → x ≡ built_by next (min r.categories 8) (min count most_symbols) room
      → OnOk x (buf ≡ buffer_by next (min r.categories 8) (min count most_symbols) sy room) → OnOk x (buf ≡ buffer_from t room)
  table-written room buf (Ok n) e h = h ∙ table-buffer room e
  table-written room buf (Err k) e h = tt

  pub table-check : (im : List ℕ) → check_number (check_by fits next sy count r.signals r.categories im) ≡ check_from t im
  unfolding check_from
  table-check im =
      ap (λ k. check_number (check_by fits next sy count r.signals k im)) held.categories
      ∙ check-right t r.category r.at r.len r.nodes (table_of t) held.nodes held.well-formed all-well.rows r.rows
      r.parent r.signals held.numbers r.inner held.inner sy count table-symbols im
      ∙ sym (rw same)

-- a build that is refused leaves zeros
pub zeros-refused : (t : List ℕ) (room : ℕ) (r : Refusal) → refused (refusal_number r) ≡ built_from t room → replicate room 0 ≡ buffer_from t room
zeros-refused t room r e = sym (refused-build t room (λ z. omega (arith, ap (λ (b : Built). b.refusal) e, refusal-some r, z))).cleared
