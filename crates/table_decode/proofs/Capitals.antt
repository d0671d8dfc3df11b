-- Tables with a capital letter get 7, and nothing else is refused anew for letter case.
use Prim.Native.Nat.{ℕ}
use mathlib.Core.Path.{◌≡◌, refl, ap, ap₂, ◌∙◌}
use mathlib.Core.Bool.{cond, ◌&&◌}
use mathlib.Core.List.{List}
use Rattle.base_lists.proofs.Tests.{all_two}
use Rattle.base_lists.proofs.Bools.{exchange}
use Rattle.base_lists.specs.Tests.{all}
use Rattle.urn_names.specs.Names.{name_ok}
use Rattle.urn_names.specs.Urn.{no_capital, stored_name, urn_ok}
use Rattle.urn_names.proofs.Capitals.{name-two}
use Rattle.table_sections.specs.Stored.{got, Stored, sections}
use Rattle.table_decode.specs.Tables.{formed, listed, table_in, verdict, judged, judged_read, table_refusal}
use Rattle.table_decode.specs.Capitals.{without_capitals, urn_in_any_case, formed_in_any_case, CapitalsRefused}

urn-two : (x : List ℕ) → urn_ok x ≡ (no_capital x && urn_in_any_case x)
unfolding urn_ok
urn-two x = refl

formed-two : (s : Stored) → formed s ≡ (without_capitals s && formed_in_any_case s)
unfolding formed
formed-two s =
    ap₂ ◌&&◌ (all_two no_capital name_ok stored_name name-two s.names)
    (all_two (all no_capital) (all urn_in_any_case) (all urn_ok) (all_two no_capital urn_in_any_case urn_ok urn-two) s.signals)
    ∙ exchange (all no_capital s.names) (all name_ok s.names) (all (all no_capital) s.signals) (all (all urn_in_any_case) s.signals)

judged-two : (s : Stored) → judged s ≡ cond (without_capitals s && formed_in_any_case s) (cond (listed s) (verdict (table_in s)) 8) 7
unfolding judged
judged-two s = ap (λ b. cond b (cond (listed s) (verdict (table_in s)) 8) 7) (formed-two s)

table-judged : (t : List ℕ) (s : Stored) (at : ℕ) → sections t ≡ got s at → table_refusal t ≡ judged s
unfolding table_refusal judged_read
table-judged t s at e = ap judged_read e

pub capitals-refused : (t : List ℕ) (s : Stored) (at : ℕ) (e : sections t ≡ got s at) → CapitalsRefused t s at e
capitals-refused t s at e =
    record {
      capital = λ c. table-judged t s at e ∙ judged-two s ∙ ap (λ b. cond (b && formed_in_any_case s) (cond (listed s) (verdict (table_in s)) 8) 7) c;
      no_other = λ c. table-judged t s at e ∙ judged-two s ∙ ap (λ b. cond (b && formed_in_any_case s) (cond (listed s) (verdict (table_in s)) 8) 7) c;
    }
