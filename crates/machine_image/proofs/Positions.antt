-- The laws of specs/Positions.antt, proved.
use Prim.Native.Nat.{ℕ, suc, ◌+◌, ◌*◌, ◌/◌, ◌%◌, ◌<◌}
use mathlib.Core.Path.{◌≡◌, refl, sym, ap, ◌∙◌}
use mathlib.Core.Option.{none, some}
use mathlib.Core.List.{List, [], ◌∷◌, ◌++◌, foldl-append}
use lib.ListN.{length, get_or, get_or-append}
use native.Mathlib.Omega.{arith}
use Rattle.base_lists.proofs.Each.{each_at}
use Rattle.base_lists.specs.Lists.{each}
use Rattle.theory_resolution.specs.Table.{Table}
use Rattle.theory_resolution.specs.Direct.{Open, step_uri}
use Rattle.theory_resolution.specs.Nodes.{nodes}
use Rattle.theory_resolution.specs.Symbols.{other, symbols, symbol_at}
use Rattle.theory_resolution.specs.Machine.{Machine, machine_state, target}
use Rattle.machine_image.specs.Image.{kind_of, symbol_bytes, stored_symbols, status_byte, state_bytes, image_of, symbol_count, machine_in}
use Rattle.machine_image.specs.Storable.{Storable}
use Rattle.machine_image.specs.Refusals.{form_of}
use Rattle.machine_image.specs.Walk.{step_in}
use Rattle.machine_image.specs.Positions.{LayoutLaw, ByteLaw, ImageWalkLaw, FormLaw, CheckLaw}
use Rattle.machine_image.proofs.Joined.{stored-length}
use Rattle.machine_image.proofs.Statuses.{byte-told}
use Rattle.machine_image.proofs.Stored.{image-parts, image-symbols, image-low, image-high, state-byte, image-byte, image-target, image-machine}
use Rattle.machine_image.proofs.Stored.{image-length, image-formed}
use Rattle.machine_image.proofs.Form.{form-to, form-of}
use Rattle.machine_image.proofs.Check.{check-of, check-form, check-start, check-rows}
use Rattle.machine_image.proofs.Read.{machine-storable, image-again}

-- byte i of symbol k
symbol-byte : (T : Table) (m : Machine) (k i : ℕ) → k < length (symbols T) → i < 3
    → get_or (image_of T m) (suc i + 3 * k) 0 ≡ get_or (symbol_bytes (nodes T) (symbol_at T k)) i 0
symbol-byte T m k i h b =
    ap (λ l. get_or l (suc i + 3 * k) 0) (image-parts T m)
    ∙ ap (λ n. get_or (front ++ length m % 256 ∷ length m / 256 ∷ each (state_bytes (nodes T)) m) n 0) place
    ∙ get_or-append (stored_symbols T) (length m % 256 ∷ length m / 256 ∷ each (state_bytes (nodes T)) m) 0 (k * 3 + i) (omega (arith, stored-length T))
    ∙ each_at (symbol_bytes (nodes T)) 3 (other 0 []) (symbols T) (λ j n. refl) k i h b
  where
    front : List ℕ
    front = length (symbols T) ∷ stored_symbols T

    place : suc i + 3 * k ≡ suc (k * 3 + i)
    place = omega arith

pub layout-law : (T : Table) (m : Machine) → Storable T m → LayoutLaw T m
layout-law T m ok =
    record {
      symbol-count = image-symbols T m;
      category = λ k h. symbol-byte T m k 0 h (omega arith);
      node = λ k h. symbol-byte T m k 1 h (omega arith);
      kind-node = λ k h e. symbol-byte T m k 2 h (omega arith) ∙ ap kind_of e;
      kind-other = λ k h e. symbol-byte T m k 2 h (omega arith) ∙ ap kind_of e;
      low_byte = at (omega arith) ∙ image-low T m;
      high_byte = at (omega arith) ∙ image-high T m;
      signal = λ j h. at (omega arith) ∙ state-byte T m ok j 0 h (omega arith);
      open-byte = λ j c h i e. status j c h i ∙ ap (status_byte (nodes T) c) e;
      shut-byte = λ j c h i e. status j c h i ∙ ap (status_byte (nodes T) c) e;
      held-byte = λ j c h i p e. status j c h i ∙ ap (status_byte (nodes T) c) e ∙ omega arith;
      row = target_at;
      ends = image-length T m ok;
    }
  where
    at : {a b : ℕ} → a ≡ b → get_or (image_of T m) a 0 ≡ get_or (image_of T m) b 0
    at e = ap (λ i. get_or (image_of T m) i 0) e

    -- a place, told by the symbol count that the image itself has
    counted : (f : ℕ → ℕ) → get_or (image_of T m) (f (length (symbols T))) 0 ≡ get_or (image_of T m) (f (symbol_count (image_of T m))) 0
    counted f = at (ap f (sym (image-symbols T m)))

    status : (j c : ℕ) → j < length m → c < T.cats
        → get_or (image_of T m) (4 + 3 * length (symbols T) + j * (length (symbols T) + T.cats + 1) + c) 0
        ≡ status_byte (nodes T) c (get_or (machine_state m j).pair.status c Open)
    status j c h i = at (omega arith) ∙ counted (λ n. 3 + 3 * n + j * (n + T.cats + 1) + 1 + c) ∙ image-byte T m ok j c h i

    target_at : (j k : ℕ) → j < length m → k < length (symbols T)
        → get_or (image_of T m) (4 + T.cats + 3 * length (symbols T) + j * (length (symbols T) + T.cats + 1) + k) 0 ≡ target m j k
    target_at j k h i = at (omega arith) ∙ counted (λ n. 3 + 3 * n + j * (n + T.cats + 1) + 1 + T.cats + k) ∙ image-target T m ok j k h i

pub byte-law : (T : Table) → ByteLaw T
byte-law T c p b = byte-told T c p b

pub image-walk-law : (T : Table) (im : List ℕ) → ImageWalkLaw T im
image-walk-law T im =
    record {
      at-start = refl;
      used = λ l u. foldl-append (step_uri (step_in T im)) 0 l (some u ∷ []);
      skipped = λ l. foldl-append (step_uri (step_in T im)) 0 l (none ∷ []);
      signal = λ l. refl;
    }

pub form-law : (T : Table) (im : List ℕ) → FormLaw T im
form-law T im =
    record {
      of-machine = λ f bytes. (machine-storable T im (form-to T im f), image-again T im (form-to T im f) bytes);
      every-machine = λ m ok e. (ap (form_of T) (sym e) ∙ form-of T (image_of T m) (image-formed T m ok), ap (machine_in T) (sym e) ∙ image-machine T m ok);
    }

pub check-law : (T : Table) (im : List ℕ) → CheckLaw T im
check-law T im = record { form-wrong = check-form T im; start-wrong = check-start T im; row-wrong = check-rows T im; all_right = check-of T im }
