-- The early answer to values that go on or break off, so that the claims about it are not empty.
use Prim.Native.String.{String}
use Rattle.std.specs.Prelude.{◌≡◌}
use Rattle.base_ascii.specs.Ascii.{bytes}
use Rattle.resolve_early.specs.Early.{early_of}
use Rattle.resolve_early.specs.declared.Early.{Early}
use Rattle.claims_demands.specs.Examples.{T3, T5}

abbrev asked : String → Early
asked v = early_of T3 (bytes v)

pub record EarlyExample : Type 0 where
  -- T3: low, and then internal shuts the source; nothing is left that could change the signal
  pub two-needed : asked "<urn:alert:priority:low>, <urn:alert:source:internal>, <urn:al" ≡ record { refusal = 0; signal = 3; entries = 2 }
  -- after low an external call would still ring otherwise
  pub not-enough : asked "<urn:alert:priority:low>, <urn:al" ≡ record { refusal = 2; signal = 0; entries = 0 }
  pub whole-value : asked "<urn:alert:priority:low>" ≡ record { refusal = 0; signal = 3; entries = 1 }
  -- T5: a recall is held at its node, so its reason may follow
  pub held : early_of T5 (bytes "<urn:alert:service:recall>, <urn:alert:service:recall:callback>, ") ≡ record { refusal = 0; signal = 2; entries = 2 }
