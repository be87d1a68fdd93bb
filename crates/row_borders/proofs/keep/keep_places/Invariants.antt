use Rattle.std.proofs.Common.{◌≡◌, ℕ, nat_lt, if◌then◌else◌}
use Rattle.row_borders.specs.Building.{built_coded, built_motion}
use Rattle.row_borders.specs.Strips.{coded_along, motion_along}
use Rattle.row_borders.proofs.keep.keep_places.Given as goal

abbrev pub invariant-loop-k : goal.invariant-loop-k
invariant-loop-k l = record {
  motion : (i : ℕ) → motion_along l.left i
      ≡ (if nat_lt i l.k then built_motion l.built l.last i else motion_along l.fn.left i);
  coded : (i : ℕ) → coded_along l.left i
      ≡ (if nat_lt i l.k then built_coded l.built l.last i else coded_along l.fn.left i);
  places : l.left.places ≡ l.fn.left.places;
  samples : l.left.samples ≡ l.fn.left.samples;
}
