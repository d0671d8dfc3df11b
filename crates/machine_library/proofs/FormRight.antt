-- The test of an image's form says that the form is right, both ways.
use Prim.Native.Nat.{ℕ}
use mathlib.Core.Path.{◌≡◌}
use mathlib.Core.Bool.{true}
use mathlib.Core.List.{List}
use native.Mathlib.Omega.{arith}
use Rattle.theory_resolution.specs.Table.{Table, place}
use Rattle.machine_image.specs.Image.{signal_in, byte_in}
use Rattle.machine_image.specs.Refusals.{form_of}
use Rattle.machine_image.proofs.Form.{form-to, form-of}
use Rattle.machine_image.proofs.Statuses.{byte-told}
use Rattle.machine_library.specs.Claims.{RightForm}

module _ (T : Table) (im : List ℕ) where
  pub form-to-right : form_of T im ≡ true → RightForm T im
  form-to-right e =
      let f = form-to T im e in
      record {
        length-right = f.length-right;
        symbols-right = f.symbols-right;
        some-state = f.some-state;
        few-states = f.few-states;
        signal-listed = f.signal-listed;
        status-right = λ j c h i. (byte-told T c (place T (signal_in T.cats im j) c) (byte_in T.cats im j c)).0 (f.status-formed j c h i);
        leads = f.leads;
      }

  pub right-to-form : RightForm T im → form_of T im ≡ true
  right-to-form r =
      form-of T im
      (record {
        counts-fit = omega (arith, r.length-right);
        length-right = r.length-right;
        symbols-right = r.symbols-right;
        some-state = r.some-state;
        few-states = r.few-states;
        signal-listed = r.signal-listed;
        status-formed = λ j c h i. (byte-told T c (place T (signal_in T.cats im j) c) (byte_in T.cats im j c)).1 (r.status-right j c h i);
        leads = r.leads;
      })
