use Rattle.base_lists.proofs.Numbers.{one_byte, two_bytes}
use Rattle.base_lists.proofs.Tests.{all_start, all-next, all-fails, all-ends}
use Rattle.base_lists.proofs.Cuts.{up_to-le}
use Rattle.base_lists.proofs.Tabulated.{tabulate-length}
use Rattle.table_names.proofs.Indexing.{at-stretch, rest-set, stretch-rest, part-inside, indexed-start, urn-listed, urn-strange, urn-put}
use Rattle.table_names.proofs.Indexing.{indexed-end}
use native.Mathlib.Omega.{arith}
use Prim.Native.Nat.{◌+◌, ◌≤◌, ◌<◌}
use mathlib.Core.Path.{◌≡◌}
use mathlib.Core.Path.{refl, sym, ◌∙◌}
use lib.ListN.{length, get_or, length-set, length-take}
use Rattle.node_search.specs.Arrays.{text_in}
use Rattle.table_names.specs.Categories.{names_in}
use Rattle.table_names.proofs.RoomLaws.{no-list, listed-as}
use Rattle.node_search.proofs.TextLaws.{text_in_lem}
use Rattle.table_names.proofs.index_urns.Goals as goal

pub returns-then-m-gt-MOST_TABLE_URNS-clause-value : goal.returns-then-m-gt-MOST_TABLE_URNS-clause-value
returns-then-m-gt-MOST_TABLE_URNS-clause-value c = no-list (names_in c.args.t.now c.args.name_at.now c.args.name_len.now c.args.n) _ _ _ c.args.m (omega arith)

pub returns-then-m-gt-MOST_TABLE_URNS-clause-indexed : goal.returns-then-m-gt-MOST_TABLE_URNS-clause-indexed
returns-then-m-gt-MOST_TABLE_URNS-clause-indexed c = λ f. absurd (omega (arith, f.2))

pub loop-i-init : goal.loop-i-init
loop-i-init c = (
  c.told-at,
  c.told-len,
  all_start _ _,
  record { same = λ _ _. refl },
  record { same = λ _ _. refl },
  λ h. (h.3, indexed-start _ _ _ _ _ _ _),
)

pub slice_bounds-name_index-end : goal.slice_bounds-name_index-end
slice_bounds-name_index-end c = omega (arith, c.find-k.ensures, up_to-le 58 c.text_at-u.result.now, length-take c.find-k.result c.text_at-u.result.now)

pub overflow_add-k : goal.overflow_add-k
overflow_add-k c = omega (arith, c.find-k.ensures, up_to-le 58 c.text_at-u.result.now, c.text_at-u.ensures.short)

pub returns-in_default-clause-value : goal.returns-in_default-clause-value
returns-in_default-clause-value c = let t = c.args.t.now in let inv = c.loop-i.invariant in
    let names = names_in t c.args.name_at.now c.args.name_len.now c.args.n in
    let u = text_in_lem _ _ _ _ _ c.text_at-u.ensures.result_value (omega arith) ∙ stretch-rest t inv.3 inv.4 in
    let many = tabulate-length (text_in 8 t c.args.name_at.now c.args.name_len.now) c.args.n in
    listed-as names t c.args.at.now c.args.len.now c.args.m (omega arith)
    (all-fails _ _ _ _ c.loop-i-test.true (sym (urn-strange names c.find-k.ensures refl u (omega (arith, c.in_default.ensures, many)))) refl)

pub loop-i-preserved : goal.loop-i-preserved
loop-i-preserved c = let t = c.args.t.now in let the-at = c.args.at.now in let the-len = c.args.len.now in
    let name-at = c.args.name_at.now in let name-len = c.args.name_len.now in let n = c.args.n in
    let at = c.loop-i.at in let len = c.loop-i.len in let category = c.loop-i.category in let i = c.loop-i.i in let v = c.loop-i.invariant in
    let names = names_in t name-at name-len n in
    let x = c.text_at-u.result.now in
    let u = text_in_lem _ _ _ _ _ c.text_at-u.ensures.result_value (omega arith) ∙ stretch-rest t v.3 v.4 in
    let d = c.find-k.ensures in
    let g = c.in-Some.ensures.0 in
    let h : c.in-Some.c < length names = omega (arith, c.in-Some.ensures.1, tabulate-length (text_in 8 t name-at name-len) n) in (
      length-set at i c.short.result ∙ v.0,
      length-set len i c.small-in-loop-i.result ∙ v.1,
      all-next _ _ _ v.2 (sym (urn-listed names d g u h)) refl,
      rest-set c.short.result v.3,
      rest-set c.small-in-loop-i.result v.4,
      λ f. let w = v.5 f in let q = c.from.ensures ∙ v.3.same i (omega arith) in
          let o : (c.min-e.result ≤ length x) × (c.find-k.result < length x → c.min-e.result ≡ c.find-k.result + 1)
          × (length x ≤ c.find-k.result → c.min-e.result ≡ length x) = (omega arith, λ l. omega arith, λ l. omega arith) in
          let p = part-inside t c.from.result (get_or the-len i 0) c.min-e.result (u ∙ at-stretch t the-at the-len i q) o.0 f.0 (omega arith) in (
            length-set category i c.small.result ∙ w.0,
            urn-put t names the-at the-len i category at len w.1 (omega (arith, w.0)) (omega (arith, v.0)) (omega (arith, v.1)) d g u
                h o (one_byte c.small.ensures (omega (arith, c.in-Some.ensures.1, f.1))) q (two_bytes c.short.ensures p)
                (one_byte c.small-in-loop-i.ensures (omega (arith, c.text_at-u.ensures.short))),
          ),
    )

pub returns-clause-value : goal.returns-clause-value
returns-clause-value c = listed-as (names_in c.args.t.now c.args.name_at.now c.args.name_len.now c.args.n) _ _ _ c.args.m (omega arith)
    (all-ends _ _ _ _ c.loop-i.invariant.2 (omega arith) c.loop-i-test.false)

pub returns-clause-indexed : goal.returns-clause-indexed
returns-clause-indexed c = λ f _. indexed-end c.loop-i.i _ (c.loop-i.invariant.5 f).1 (omega arith) c.loop-i-test.false
