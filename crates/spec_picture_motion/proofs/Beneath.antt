-- The candidates of the collocated picture.
use Rattle.std.proofs.Common.{◌≡◌, ℕ, ◌+◌, ◌*◌, ◌<◌, ◌≤◌, ◌&&◌, cond, nat_lt, Bool, true, false, Option, None, refl}
use Rattle.std.proofs.Common.{arith}
use Rattle.std.proofs.lemmas.Bool.Decides.{nat_tests}
use Rattle.spec_picture_trees.specs.CtuRecords.{Rectangle}
use Rattle.picture_buffer.specs.SpecMotion.{SliceMotion}
use Rattle.picture_buffer.specs.SpecMotion.{bottom_right, centre, temporal_mv}
use Rattle.spec_picture_motion.specs.Field.{Motions, beneath_unit, blocks_from}
use Rattle.spec_picture_trees.specs.Places.{unit_places}
use Rattle.spec_picture_trees.specs.SpecSliceData.{PictureShape}

known_at : (picture : PictureShape) (address : ℕ) (motions : Motions) (column row : ℕ)
    → 4 * column ≤ unit_places picture → 4 * row < unit_places picture
    → beneath_unit picture address motions column row ≡ blocks_from picture address motions column row
unfolding beneath_unit
known_at picture address motions column row left low = grind (arith, nat_tests)

same_where : {X : Type 0} (here : Bool) (p q : Option X) → (here ≡ true → p ≡ q) → cond here p None ≡ cond here q None
same_where true p q e = e refl
same_where false p q e = refl

record IsInside (n : ℕ) (block : Rectangle) : Type 0 where
  wide : 1 ≤ block.width
  columns : block.x + block.width ≤ n
  high : 1 ≤ block.height
  rows : block.y + block.height ≤ n

corner_is : (picture : PictureShape) (address : ℕ) (motions : Motions) (slice : SliceMotion) (block : Rectangle)
    → slice.side ≡ unit_places picture → IsInside (unit_places picture) block
    → bottom_right slice (beneath_unit picture address motions) block
    ≡ bottom_right slice (blocks_from picture address motions) block
unfolding bottom_right
corner_is picture address motions slice block side inside = same_where _ _ _
    (λ (t : ((nat_lt (block.x + block.width) slice.right && nat_lt (block.y + block.height) slice.lower)
    && nat_lt (block.y + block.height) slice.side) ≡ true).
    let low : block.y + block.height < unit_places picture = grind (arith, nat_tests) in
    known_at picture address motions _ _ (omega (arith, inside.columns)) (omega (arith, low)))

centre_is : (picture : PictureShape) (address : ℕ) (motions : Motions) (block : Rectangle)
    → IsInside (unit_places picture) block
    → centre (beneath_unit picture address motions) block ≡ centre (blocks_from picture address motions) block
unfolding centre
centre_is picture address motions block inside =
    known_at picture address motions _ _ (omega (arith, inside.wide, inside.columns))
    (omega (arith, inside.high, inside.rows))

pub candidate_is : (picture : PictureShape) (address : ℕ) (motions : Motions) (slice : SliceMotion) (block : Rectangle)
    (list ref_idx : ℕ)
    → slice.side ≡ unit_places picture
    → 1 ≤ block.width → block.x + block.width ≤ slice.side
    → 1 ≤ block.height → block.y + block.height ≤ slice.side
    → temporal_mv slice (beneath_unit picture address motions) block list ref_idx
    ≡ temporal_mv slice (blocks_from picture address motions) block list ref_idx
unfolding temporal_mv
candidate_is picture address motions slice block list ref_idx side wide columns high rows =
    let inside : IsInside (unit_places picture) block =
    record { wide = wide; columns = omega (arith, side, columns); high = high; rows = omega (arith, side, rows) } in
    rw (corner_is picture address motions slice block side inside, centre_is picture address motions block inside) refl
