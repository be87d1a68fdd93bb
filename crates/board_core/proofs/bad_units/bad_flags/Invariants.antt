use Rattle.std.proofs.Common.{ℕ, ◌≡◌, ◌<◌, false, true, length, slice_index, slice_index_or}
use Rattle.std.specs.List.{Contains}
use Rattle.flight_plan.specs.Flight.{units_of}
use Rattle.board_core.proofs.bad_units.bad_flags.Given as goal

abbrev pub invariant-loop-unit : goal.invariant-loop-unit
invariant-loop-unit l =
    record {
      flag_count : length l.flags.items ≡ units_of l.fn.plan.pictures;
      marked : (k : ℕ) → k < l.unit-index → slice_index_or l.flags.items (slice_index l.unit-items k) false ≡ true;
      only : (u : ℕ) → slice_index_or l.flags.items u false ≡ true → Contains l.unit-items u;
    }
