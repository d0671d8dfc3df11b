use Rattle.std.proofs.Common.{rules, ◌≡◌, length, ℕ, List, [], ◌∷◌, ◌++◌, arith, set, refl, subst}
use borrow.Rule.Slice.PartMut.{put_mid}
use Rattle.resolve_record.specs.Record.{bytes_from}
use Rattle.resolve_record.proofs.RecordLaws.{bytes-from}
use Rattle.resolve_record.proofs.store.Goals as goal

-- a byte, eight more and one more, written in turn
written : (b l : List ℕ) (x y : ℕ) → length b ≡ 10 → length l ≡ 8 → set (put_mid 1 8 (set b 0 x) l) 9 y ≡ x ∷ (l ++ y ∷ [])
written b l x y h k =
    subst (λ q. set (put_mid 1 8 (set q 0 x) l) 9 y ≡ x ∷ (l ++ y ∷ [])) (bytes-from b 10 0 (omega arith))
    (subst (λ w. set (put_mid 1 8 (set (bytes_from b 0 10) 0 x) w) 9 y ≡ x ∷ (w ++ y ∷ [])) (bytes-from l 8 0 (omega arith)) refl)

pub returns : goal.returns
returns c =
    let h : length c.args.b.now ≡ 10 = search rules in
    let k : length c.args.carried.status ≡ 8 = search rules in
    let e : c.copy_from_slice.new.self ≡ c.args.carried.status = search rules in
    rw e (written c.args.b.now c.args.carried.status c.args.carried.signal c.args.carried.values h k)
