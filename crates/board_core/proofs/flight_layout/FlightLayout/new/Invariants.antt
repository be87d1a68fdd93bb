use Rattle.std.proofs.Common.{ℕ, ◌≡◌, ◌<◌, ◌≤◌, ◌*◌, length, take, sum_by, slice_index}
use Rattle.flight_plan.specs.Flight.{picture_units}
use Rattle.board_core.specs.Places.{picture_lines}
use Rattle.board_core.proofs.flight_layout.FlightLayout.new.Given as goal

abbrev pub invariant-loop-picture : goal.invariant-loop-picture
invariant-loop-picture l =
    record {
      line_count : length l.first_lines.items ≡ l.picture-index;
      unit_count : length l.first_units.items ≡ l.picture-index;
      lines : l.lines ≡ sum_by picture_lines (take l.picture-index l.picture-items);
      units : l.units ≡ sum_by picture_units (take l.picture-index l.picture-items);
      few : l.lines ≤ 2048 * l.picture-index;
      line_table : (k : ℕ) → k < l.picture-index
          → slice_index l.first_lines.items k ≡ sum_by picture_lines (take k l.picture-items);
      unit_table : (k : ℕ) → k < l.picture-index
          → slice_index l.first_units.items k ≡ sum_by picture_units (take k l.picture-items);
    }
