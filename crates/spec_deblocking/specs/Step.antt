-- A worked edge: a step between flat sides.
use Rattle.std.specs.Prelude.{ℕ, ℤ, pos, Bool, false, nat_lt, if◌then◌else◌}
use Rattle.spec_deblocking.specs.declared.place.Place.{Place}
use Rattle.spec_deblocking.specs.declared.line.Line.{Line}

-- an intra place of QP 37, with no offsets
unfoldable pub step_place : Place
step_place = record {
  left_strength = 2;
  top_strength = 2;
  qp_y = pos 37;
  kept = false;
  slice_beta_offset_div2 = pos 0;
  slice_tc_offset_div2 = pos 0;
}

-- 100 in the columns before 8, 110 behind them
unfoldable pub step_sample : ℕ → ℕ → ℕ
step_sample x y = if nat_lt x 8 then 100 else 110

-- the line behind the strong filter
unfoldable pub smoothed : Line
smoothed = record { p3 = 100; p2 = 101; p1 = 103; p0 = 104; q0 = 106; q1 = 108; q2 = 109; q3 = 110 }
