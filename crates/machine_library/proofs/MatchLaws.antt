-- Laws of the match of a URI.
use Prim.Native.Nat.{ℕ}
use mathlib.Core.Path.{◌≡◌, ap, sym, ◌∙◌}
use mathlib.Core.List.{List}
use borrow.Author.Tests.{eq-eqb, ne_eqb}
use Rattle.node_search.specs.Search.{uses_of}
use Rattle.node_search.proofs.UseRight.{uses-right}
use Rattle.std.specs.Prelude.{Option}
use native.Mathlib.Omega.{arith}
use Rattle.base_numbers.specs.Refusals.{refusal_number}
use Rattle.base_numbers.proofs.Refusals.{refusal-some}
use Rattle.base_numbers.specs.declared.refusal.Refusal.{Refusal}
use Rattle.node_search.specs.declared.uses.Used.{Used}
use Rattle.table_decode.specs.Tables.{table_refusal, table_of, category_names}
use Rattle.table_decode.specs.Decoded.{DecodedAs}
use Rattle.node_search.specs.declared.decoded.Decoded.{Decoded}
use Rattle.machine_library.specs.declared.matching.Match.{Match}
use Rattle.machine_library.specs.Matching.{refused_match, match_use, match_of}

-- a refused table
pub match-refused : (t uri : List ℕ) (k : Refusal) {n : ℕ} {x : Match} → refusal_number k ≡ table_refusal t → n ≡ refusal_number k → x ≡ refused_match n → x ≡ match_of t uri
unfolding match_of
match-refused t uri k m e f =
    f ∙ ap refused_match (e ∙ m) ∙ sym (rw (ne_eqb (table_refusal t) 0 (λ z. omega (arith, m, refusal-some k))))

-- a well-formed one
pub match-right : (t : List ℕ) (r : Decoded) → DecodedAs t r → (uri : List ℕ) {x : Match} {u : Option Used}
    → u ≡ uses_of t r.name_at r.name_len r.categories r.category r.at r.len r.shared r.inner r.nodes uri
    → x ≡ match_use u → x ≡ match_of t uri
unfolding match_of
match-right t r m uri {x} {u} e f =
    let h = m.holds in
    f ∙ ap match_use (e ∙ uses-right t (table_of t) r.name_at r.name_len r.categories (category_names t) r.category r.at
    r.len r.nodes h.names h.nodes r.shared h.shared r.inner h.inner uri)
    ∙ sym (rw (eq-eqb (table_refusal t) 0 m.refusal))
