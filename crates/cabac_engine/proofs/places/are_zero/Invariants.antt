use Rattle.std.proofs.Common.{◌≡◌, drop}
use Rattle.std.specs.Prelude.{not}
use Rattle.std.specs.List.{list_all}
use Rattle.spec_bits.specs.Bits.{bits}
use Rattle.cabac_engine.proofs.places.are_zero.Given as goal

-- the bits so far are zero
abbrev pub invariant-loop-i : goal.invariant-loop-i
invariant-loop-i l = list_all not (drop l.i (bits l.bytes)) ≡ list_all not (drop l.at (bits l.bytes))
