use Rattle.std.proofs.Common.{◌≡◌, ℕ, ◌+◌, ◌-◌, ◌*◌, ◌==◌, ◌&&◌, nat_le, nat_lt, if◌then◌else◌}
use Rattle.std.specs.Option.{unwrap_or}
use Rattle.unit_build.specs.CtuBuild.{held}
use Rattle.picture_buffer.specs.Planes.{HasSides, plane_height, plane_width, samples_of}
use Rattle.picture_build.proofs.lines.lay_part.Given as goal

abbrev pub invariant-loop-line : goal.invariant-loop-line
invariant-loop-line l = record {
  width : plane_width l.planes l.part.c ≡ l.part.width;
  height : plane_height l.planes l.part.c ≡ l.part.height;
  sides : HasSides l.planes (4 * l.unit.layout.across) (4 * l.unit.layout.down);
  told : (i j k : ℕ) → samples_of l.planes i j k
      ≡ (if i == l.part.c
      && ((nat_le l.part.x j && (nat_lt j (l.part.x + l.part.side) && nat_lt j l.part.width))
      && (nat_le l.part.y k && (nat_lt k (l.part.y + l.line) && nat_lt k l.part.height)))
      then unwrap_or (held l.samples i (j - l.part.x + 1) (k - l.part.y + 1)) 0
      else samples_of l.fn.planes i j k);
}
