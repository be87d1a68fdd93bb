use Rattle.std.proofs.Common.{◌≡◌, ◌<◌, ℕ}
use Rattle.ctu_records.specs.declared.offset.ComponentOffset.TheVariants.{Off}
use Rattle.sao_filter.specs.Row.{unit_in}
use Rattle.sao_filter.proofs.units.has_offset.Given as goal

abbrev pub invariant-loop-k : goal.invariant-loop-k
invariant-loop-k l = (k : ℕ) → k < l.k → (unit_in l.units k).offset ≡ Off
