-- The coding tree units of a planned picture and of its slice segments, by their addresses (6.3.1, 7.4.7.1).
use Rattle.std.specs.Prelude.{ℕ, suc, ◌-◌, List, map, drop, length}
use Rattle.std.specs.List.{range_with_len, flat_map}
use Rattle.spec_slice_headers.specs.HeaderTypes.{size_in_ctbs}
use Rattle.spec_slice_headers.specs.PlanTypes.{PicturePlan}
use Rattle.spec_slice_headers.specs.PlanTypes.{begins_at}
use Rattle.spec_slice_headers.specs.BlockGeometry.{ctb_scan}
use Rattle.spec_picture_trees.specs.Picture.{TreeUnit}

-- the coding tree units from a place of the scan to the one before another
abbrev pub units_between : ℕ → ℕ → List ℕ
units_between first behind = map ctb_scan (range_with_len first (behind - first))

-- the coding tree units of the segment with this number: from where it begins to where the next one does, or to the
-- picture's end
unfoldable pub segment_units : PicturePlan → ℕ → List ℕ
segment_units p number =
    units_between (begins_at (size_in_ctbs p.sps) (drop number p.segments))
    (begins_at (size_in_ctbs p.sps) (drop (suc number) p.segments))

-- the coding tree units of a picture's segments one after the other, each with the number of its segment
unfoldable pub shared_units : PicturePlan → List (ℕ × ℕ)
shared_units p =
    flat_map (λ number. map (λ ctu. (number, ctu)) (segment_units p number)) (range_with_len 0 (length p.segments))

-- all coding tree units of a picture, in decoding order
unfoldable pub picture_units : PicturePlan → List ℕ
picture_units p = units_between 0 (size_in_ctbs p.sps)

-- the units that were handed over, by their addresses, and each with the number of its segment
abbrev pub addresses : List TreeUnit → List ℕ
addresses units = map (λ unit. unit.ctu) units

-- units by their segments' numbers and their addresses
abbrev pub with_segments : List TreeUnit → List (ℕ × ℕ)
with_segments units = map (λ unit. (unit.segment, unit.ctu)) units
