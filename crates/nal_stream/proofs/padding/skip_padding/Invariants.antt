use Rattle.std.proofs.Common.{◌≡◌, ◌≤◌, Bool, List, ℕ, ◌++◌, drop}
use Rattle.spec_nal_units.specs.Units.{Padding, parts}
use Rattle.nal_stream.proofs.padding.skip_padding.Given as goal

abbrev pub invariant-loop-i : goal.invariant-loop-i
invariant-loop-i l =
    (l.before ≤ 2)
    × ((ended : Bool) (rest : List ℕ)
    → parts ended (Padding l.fn.zeros) (l.bytes ++ rest) ≡ parts ended (Padding l.before) (drop l.i l.bytes ++ rest))
