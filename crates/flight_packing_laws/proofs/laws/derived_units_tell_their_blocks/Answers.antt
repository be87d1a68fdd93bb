use Rattle.std.proofs.Common.{sym, ap, ◌∙◌}
use Rattle.std.specs.List.{flat_map}
use Rattle.ctu_motion.specs.Held.{held}
use Rattle.spec_picture_trees.specs.Places.{first_row}
use Rattle.spec_picture_trees.specs.Shapes.{picture_shape}
use Rattle.spec_picture_motion.specs.Slices.{slice_motion}
use Rattle.row_borders.specs.SpecFlights.{pictures_before}
use Rattle.row_borders.specs.SpecFlights.{blocks_at, blocks_in, item_blocks, known_blocks, names_before}
use Rattle.row_borders.specs.SpecFlights.{segment_blocks}
use Rattle.flight_packing_laws.proofs.laws.derived_units_tell_their_blocks.Goals as goal

pub returns : goal.returns
unfolding blocks_at
returns c f k address p known s built picture unit segment slice motion =
    ap (λ m. flat_map
    (item_blocks (names_before f k) m (first_row (picture_shape p.sps p.pps) address) (held built.motion))
    known.read.items)
    slice
    ∙ ap (λ m. flat_map
    (item_blocks (names_before f k) (slice_motion p s address) (first_row (picture_shape p.sps p.pps) address) m)
    known.read.items)
    motion
    ∙ sym (ap (λ o. blocks_in (names_before f k) (pictures_before f k) address o) picture
    ∙ ap (λ o. known_blocks (names_before f k) (pictures_before f k) p address o) unit
    ∙ ap (λ o. segment_blocks (names_before f k) (pictures_before f k) p address known o) segment)
