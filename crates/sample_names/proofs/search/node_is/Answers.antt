use Rattle.std.proofs.Common.{◌≡◌, ◌&&◌, Bool, true, false, ap, ◌∙◌, sym, refl}
use Rattle.std.proofs.lemmas.Bool.{false≢true}
use borrow.Author.Tests.{eqb-true, eqb-false, lt-ltb, le-ltb}
use Rattle.base_text.specs.Text.{fields}
use Rattle.sample_names.proofs.SearchLaws.{node-same, node-other}
use Rattle.node_search.proofs.TextLaws.{text_in_lem}
use Rattle.sample_names.proofs.search.node_is.Goals as goal
use Rattle.sample_names.proofs.search.node_is.Goals.{then-j-lt-MOST_NODES, else-j-lt-MOST_NODES}

within : {b x y : Bool} → x ≡ true → b ≡ y → b ≡ (x && y)
within {b} {x} {y} t e = e ∙ ap (λ z. z && y) (sym t)

past : {b x : Bool} (y : Bool) → x ≡ false → b ≡ false → b ≡ (x && y)
past {b} {x} y t e = e ∙ ap (λ z. z && y) (sym t)

pub returns-then-c-d : goal.returns-then-c-d
returns-then-c-d c = elim c.if-j-lt-MOST_NODES.branch [
  | then-j-lt-MOST_NODES w ↦ within (lt-ltb _ _ w.if-j-lt-MOST_NODES.true)
      (node-same _ _ _ _ refl (eqb-true _ _ (sym w.value-is ∙ c.if-c-d.true))
      (ap (fields 58) (text_in_lem _ _ _ _ _ c.text_at.ensures.result_value w.if-j-lt-MOST_NODES.true)) c.made_of.ensures)
  | else-j-lt-MOST_NODES w ↦ absurd (false≢true (sym (le-ltb _ _ w.if-j-lt-MOST_NODES.false) ∙ sym w.value-is ∙ c.if-c-d.true))
]

pub returns-else-c-d : goal.returns-else-c-d
returns-else-c-d c = c.if-c-d.false ∙ elim c.if-j-lt-MOST_NODES.branch [
  | then-j-lt-MOST_NODES w ↦ within (lt-ltb _ _ w.if-j-lt-MOST_NODES.true)
      (node-other _ _ _ refl (eqb-false _ _ (sym w.value-is ∙ c.if-c-d.false)))
  | else-j-lt-MOST_NODES w ↦ past _ (le-ltb _ _ w.if-j-lt-MOST_NODES.false) refl
]
