-- Rows of a plane.
use Rattle.std.proofs.Common.{◌≡◌, ℕ, ◌+◌, ◌*◌, ◌/◌, ◌%◌, ◌<◌, ◌≤◌, ◌&&◌, ◌||◌, nat_le, nat_lt, arith}
use Rattle.std.proofs.lemmas.Bool.Decides.{nat_tests}
use Rattle.spec_deblocking.specs.declared.place.Plane.{Plane}
use Rattle.spec_deblocking.specs.declared.place.Plane.TheVariants.{Luma, Chroma}
use Rattle.spec_deblocking.specs.Places.{side}
use Rattle.deblock.specs.declared.pass.Pass.{Pass}
use Rattle.deblock.specs.declared.row.Row.{Row}
use Rattle.deblock.specs.Passes.{IsPass, IsAlong}
use Rattle.deblock.specs.Rows.{is_beside_row, is_in_row}

within_places : (plane : Plane) (first end s : ℕ) → first % 4 ≡ 0 → first / side plane ≤ s → first ≤ side plane * s
within_places Luma first end s a b = omega arith
within_places (Chroma offset) first end s a b = omega arith

before_end : (plane : Plane) (end s : ℕ) → s < end / side plane → side plane * s + side plane ≤ end
before_end Luma end s a = omega arith
before_end (Chroma offset) end s a = omega arith

few_places : (plane : Plane) (end s : ℕ) → end ≤ 65536 → s < end / side plane → s ≤ 65536
few_places Luma end s a b = omega arith
few_places (Chroma offset) end s a b = omega arith

pub along_of : (pass : Pass) (s : ℕ) → IsPass pass → pass.along_first / side pass.plane ≤ s
    → s < pass.along_end / side pass.plane → IsAlong pass s
along_of pass s is low high = record {
  few = few_places pass.plane pass.along_end s (omega (arith, is.along_high, is.window.along)) high;
  low = within_places pass.plane pass.along_first pass.along_end s is.along_first low;
  high = before_end pass.plane pass.along_end s high;
}

pub ordered_places : (plane : Plane) (first end : ℕ) → first ≤ end → first / side plane ≤ end / side plane
ordered_places Luma first end a = omega arith
ordered_places (Chroma offset) first end a = omega arith

whole_places : (plane : Plane) (n : ℕ) → n % 4 ≡ 0 → side plane * (n / side plane) ≡ n
whole_places Luma n whole = omega arith
whole_places (Chroma offset) n whole = omega arith

lines_done : (top bottom width i j n : ℕ) → i < width →
    ((nat_le top j && nat_le (8 * 0) (i + 4))
    && ((nat_lt j bottom && nat_lt (i + 4) (8 * ((width + 11) / 8)))
    || (nat_lt j (bottom + n) && nat_lt (i + 4) (8 * 0))))
    ≡ (nat_le top j && nat_lt j bottom)
lines_done top bottom width i j n inside = grind (arith, nat_tests)

edges_done : (top bottom width i j n : ℕ) → j < width →
    ((nat_le 0 j && nat_le (8 * ((top + 7) / 8)) (i + 4))
    && ((nat_lt j width && nat_lt (i + 4) (8 * ((bottom + 7) / 8)))
    || (nat_lt j (width + n) && nat_lt (i + 4) (8 * 0))))
    ≡ (nat_le top (8 * ((i + 4) / 8)) && nat_lt (8 * ((i + 4) / 8)) bottom)
edges_done top bottom width i j n inside = grind (arith, nat_tests)

-- which samples the vertical edges of a row leave filtered
pub row_lines : (row : Row) (i j : ℕ) → row.bottom % 4 ≡ 0 → i < row.width →
    ((nat_le row.top j && nat_le (8 * 0) (i + 4))
    && ((nat_lt j (side row.plane * (row.bottom / side row.plane)) && nat_lt (i + 4) (8 * ((row.width + 11) / 8)))
    || (nat_lt j (side row.plane * (row.bottom / side row.plane) + side row.plane) && nat_lt (i + 4) (8 * 0))))
    ≡ is_in_row row j
row_lines row i j whole inside =
    let e = whole_places row.plane row.bottom whole in
    rw e (lines_done row.top row.bottom row.width i j (side row.plane) inside)

-- and the horizontal ones
pub row_edges : (row : Row) (i j : ℕ) → row.width % 4 ≡ 0 → j < row.width →
    ((nat_le 0 j && nat_le (8 * ((row.top + 7) / 8)) (i + 4))
    && ((nat_lt j (side row.plane * (row.width / side row.plane)) && nat_lt (i + 4) (8 * ((row.bottom + 7) / 8)))
    || (nat_lt j (side row.plane * (row.width / side row.plane) + side row.plane) && nat_lt (i + 4) (8 * 0))))
    ≡ is_beside_row row i
row_edges row i j whole inside =
    let e = whole_places row.plane row.width whole in
    rw e (edges_done row.top row.bottom row.width i j (side row.plane) inside)
