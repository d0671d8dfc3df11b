-- A carried record as its ten bytes.
use Prim.Native.Nat.{ℕ, zero, suc, ◌+◌, ◌≤◌}
use mathlib.Core.Path.{◌≡◌, sym, ap, ◌∙◌}
use mathlib.Core.List.{List, [], ◌∷◌, ◌++◌}
use lib.ListN.{length, get_or, drop, drop_of_length-le}
use lib.Seq.{drop-cons}
use native.Mathlib.Omega.{arith}
use Rattle.resolve_record.specs.Record.{bytes_from, carried_in, BytesLaw}

-- the bytes of a list one by one
pub bytes-from : (l : List ℕ) (n at : ℕ) → length l ≡ at + n → bytes_from l at n ≡ drop at l
bytes-from l zero at h = let k : length l ≤ at = omega arith in sym (drop_of_length-le l k)
bytes-from l (suc n) at h =
    let e : at + 1 ≡ suc at = omega arith in
    ap (λ (x : List ℕ). get_or l at 0 ∷ x) (bytes-from l n (at + 1) (omega arith) ∙ ap (λ (k : ℕ). drop k l) e)
    ∙ sym (drop-cons l at 0 (omega arith))

-- there and back
pub bytes-law : BytesLaw
bytes-law =
    record {
      there = λ r h.
          let e = bytes-from r.status 8 0 (omega arith) in
          ap (λ (l : List ℕ). carried_in (r.signal ∷ (l ++ (r.values ∷ [])))) (sym e)
          ∙ ap (λ (l : List ℕ). record { signal = r.signal; status = l; values = r.values }) e;
      back = λ b h. bytes-from b 10 0 (omega arith);
    }
