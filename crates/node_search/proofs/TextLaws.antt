-- Laws of the texts that arrays hold, within their room.
use Prim.Native.Nat.{ℕ, ◌≤◌, ◌<◌}
use mathlib.Core.Path.{◌≡◌, refl, ap, ◌∙◌}
use mathlib.Core.Bool.{cond}
use mathlib.Core.List.{List, []}
use native.Mathlib.Omega.{arith}
use borrow.Author.Tests.{lt-ltb}
use Rattle.base_lists.specs.Cuts.{stretch}
use Rattle.base_lists.proofs.Tabulated.{tabulate-same}
use Rattle.base_lists.specs.Lists.{tabulate}
use Rattle.node_search.specs.Arrays.{text_in}

-- within the room it is the text itself
pub text_in_lem : {r : List ℕ} (n : ℕ) (t at len : List ℕ) (i : ℕ) → r ≡ text_in n t at len i → i < n → r ≡ stretch t at len i
unfolding text_in
text_in_lem n t at len i e h = e ∙ ap (λ b. cond b (stretch t at len i) []) (lt-ltb i n h)

pub texts-in : (n : ℕ) (t at len : List ℕ) (k : ℕ) → k ≤ n → tabulate (text_in n t at len) k ≡ tabulate (stretch t at len) k
texts-in n t at len k h = tabulate-same (text_in n t at len) (stretch t at len) k (λ i l. text_in_lem n t at len i refl (omega arith))
