-- The final rows that a coding tree unit reaches by its derived motion, where they are seen.
use Rattle.std.proofs.Common.{◌≡◌, ℕ, ◌*◌, ◌/◌, List, All, true, ap, sym, subst, ◌∙◌, arith, length}
use Rattle.std.specs.List.{flat_map}
use Rattle.hv_base.specs.declared.line.Line.{Line}
use Rattle.hv_base.specs.declared.line.Phase.TheVariants.{S}
use Rattle.header_types.specs.SequenceParameterSets.{ctb_log2}
use Rattle.ctu_records.specs.declared.item.Item.{Item}
use Rattle.ctu_records.specs.Tree.{Ctu}
use Rattle.ctu_motion.specs.Held.{held}
use Rattle.spec_motion.specs.Units.{IsPlacedItem}
use Rattle.spec_picture_trees.specs.Places.{first_row, unit_places}
use Rattle.spec_picture_motion.specs.Derived.{known_of_unit}
use Rattle.spec_picture_motion.specs.Slices.{slice_motion}
use Rattle.spec_picture_build.specs.References.{motions_of}
use Rattle.spec_decoded_pictures.specs.Decoded.{DecodedUnits}
use Rattle.board_core.specs.declared.predicted_blocks.LumaLines.{LumaLines}
use Rattle.board_core.specs.Needs.{collocated_of, read_needs, row_needs, unit_needs}
use Rattle.board_core.specs.Places.{line_of}
use Rattle.board_core.specs.Reach.{told_reach}
use Rattle.board_core.specs.Uses.{UnitUses}
use Rattle.sample_words.specs.declared.sizes.FlightSizes.{FlightSizes}
use Rattle.sample_words.specs.Sizes.{ctb_size}
use Rattle.spec_flights.specs.Pictures.{pictures_before}
use Rattle.spec_flights.specs.Rows.{flight_rows, luma_lines}
use Rattle.border_words.proofs.FlightValueLawsLemmas.{folded_is}
use Rattle.row_waits.specs.UnitReach.{ReachSource}
use Rattle.border_words.specs.UnitBuild.{BuiltUnit}
use Rattle.border_words.specs.RowBorders.{tree_unit}
use Rattle.progress_words.specs.declared.view.View.{View}
use Rattle.line_words.specs.Places.{IsUnit, UnitAt}
use Rattle.border_words.specs.FlightFacts.{FlightFacts}
use Rattle.border_words.specs.FlightFacts.{flight_in}
use Rattle.border_words.proofs.FlightFactsLemmas.{picture_sizes}
use Rattle.done_units.specs.FlightWaits.{AreSeen}
use Rattle.row_waits.specs.FlightWindows.{SeenFlags, is_seen}
use Rattle.border_words.proofs.Shapes.{side_is}
use Rattle.row_waits.specs.declared.picture_view.PictureView.{PictureView}
use Rattle.row_waits.specs.Pictures.{IsPictureOf, IsUnitOf, address_in}
use Rattle.row_waits.specs.Seen.{HasReach, HasSeenFlags, ReachesEarlier, reach_in}
use Rattle.row_waits.specs.Told.{IsSourceOf}
use Rattle.row_waits.proofs.Needed.{final_seen, needs_met}
use Rattle.row_waits.proofs.Told.{items_earlier, reach_is}
use Rattle.built_rows.specs.declared.row_builder.RowBuilder.{RowBuilder}
use Rattle.built_rows.specs.Motion.{HasMotion}
use Rattle.built_rows.specs.Stages.{HasDerived, shape_of}
use Rattle.built_rows.proofs.Inside.{column_inside, line_is, row_inside}
use Rattle.built_rows.proofs.Placed.{items_placed, row_is}

-- what is derived is the motion of the unit
pub has_motion : (facts : FlightFacts) (picture : PictureView) (at : UnitAt) (v : View FlightFacts) (b : RowBuilder)
    → IsPictureOf facts picture → HasDerived facts picture at v b
    → HasMotion facts picture at b.reader.records b.built
has_motion facts picture at v b is derived =
    let p = picture.plan.now in
    let others = motions_of (pictures_before (flight_in facts) picture.place) in
    let unit = tree_unit derived.known.segment (address_in p at) derived.known.read in
    record {
      known = derived.known;
      is = derived.is;
      read = derived.same.read;
      segment = derived.segment;
      has = derived.has;
      slice = derived.derived.slice ∙ ap (slice_motion p derived.segment) derived.address;
      motion = derived.motion
          ∙ ap (λ (d : DecodedUnits). known_of_unit others p derived.segment unit d.motions)
          (folded_is (flight_in facts) is.flight.range picture.place p is.plan);
    }

-- luma lines of the flight are those of the picture
pub lines_are : (facts : FlightFacts) (picture : PictureView) (lines : LumaLines) → IsPictureOf facts picture
    → lines.height ≡ picture.layout.now.height → lines.ctb_log2 ≡ picture.layout.now.ctb_log2
    → lines ≡ luma_lines picture.plan.now
lines_are facts picture lines is height log2 =
    let p = picture.plan.now in
    let sizes = picture_sizes facts picture.layout.now picture.place p is.flight is.plan in
    let high : lines.height ≡ p.sps.format.pic_height_in_luma_samples =
    height ∙ ap (λ (s : FlightSizes). s.height) sizes in
    let side : lines.ctb_log2 ≡ ctb_log2 p.sps.blocks = log2 ∙ ap (λ (s : FlightSizes). s.ctb_log2) sizes in
    ap (λ k. of_parts k lines.ctb_log2) high ∙ ap (of_parts p.sps.format.pic_height_in_luma_samples) side
  where
    of_parts : ℕ → ℕ → LumaLines
    of_parts height log2 = record { height = height; ctb_log2 = log2 }

-- the row of a unit's first place, by the sides of the flight's units
pub first_row_is : (facts : FlightFacts) (picture : PictureView) (is : IsPictureOf facts picture) (at : UnitAt)
    (unit : IsUnitOf picture at) (there : IsUnit at) (side row : ℕ)
    → side ≡ ctb_size picture.layout.now / 4 → row ≡ side * at.line.row
    → row ≡ first_row (shape_of picture) (address_in picture.plan.now at)
first_row_is facts picture is at unit there side row as_wide told =
    let p = picture.plan.now in
    let n : ℕ = length (flight_in facts).pictures in
    let sizes = picture_sizes facts picture.layout.now picture.place p is.flight is.plan in
    let four : ctb_size picture.layout.now ≡ 4 * unit_places (shape_of picture) =
    ap ctb_size sizes ∙ side_is p (is.flight.planned.sps picture.place p is.plan) n in
    let places : side ≡ unit_places (shape_of picture) = omega (arith, as_wide, four) in
    told
    ∙ (ap (λ k. k * at.line.row) places
    ∙ ap (λ k. unit_places (shape_of picture) * k) (sym (row_is facts picture is at unit there)))

-- what the rows that a unit reaches are reckoned from, wherever it is kept
abbrev pub source_for : PictureView → LumaLines → ℕ → BuiltUnit → ReachSource
source_for picture lines row built = record {
  names = picture.names;
  lines = lines;
  row = row;
  slice = record { ref_ptr = (0, 0); now = built.slice };
  motion = record { ref_ptr = (0, 0); now = built.motion };
}

module _ (facts : FlightFacts) (picture : PictureView) (is : IsPictureOf facts picture) (at : UnitAt)
    (unit : IsUnitOf picture at) (there : IsUnit at) (ctu : Ctu) (built : BuiltUnit)
    (motion : HasMotion facts picture at ctu built) where
  module _ (items : List Item) (read : items ≡ ctu.items) where
    read_known : items ≡ motion.known.read.items
    read_known = read ∙ ap (λ (c : Ctu). c.items) motion.read

    pub all_placed : All IsPlacedItem items
    all_placed =
        subst (All IsPlacedItem) (sym read_known)
        (items_placed facts picture is at unit there motion.known motion.is)

    module _ (source : ReachSource) (names : source.names.now ≡ picture.names.now)
        (lines : source.lines ≡ luma_lines picture.plan.now)
        (row : source.row ≡ first_row (shape_of picture) (address_in picture.plan.now at))
        (slice : source.slice.now ≡ built.slice) (same : source.motion.now ≡ built.motion) where
      source_is : IsSourceOf (flight_in facts) picture.place picture.plan.now (address_in picture.plan.now at)
          motion.segment motion.known source
      source_is = record {
        names = names ∙ is.names;
        lines = lines;
        row = row;
        slice = slice ∙ motion.slice;
        motion = ap held same ∙ motion.motion;
      }

      pub reaches_earlier : All (ReachesEarlier at.line.picture source) items
      reaches_earlier =
          subst (λ k. All (ReachesEarlier k source) items) (sym unit.place)
          (subst (All (ReachesEarlier picture.place source)) (sym read_known)
          (items_earlier (flight_in facts) is.flight.planned picture.place at.line.row at.unit picture.plan.now is.plan
          (row_inside facts picture is at unit there) (column_inside facts picture is at unit there) motion.known
          motion.segment motion.is motion.has source source_is))

      told : flat_map (reach_in source) items ≡ told_reach (flight_rows (flight_in facts)) at.line at.unit
      told =
          ap (flat_map (reach_in source)) read_known
          ∙ (reach_is (flight_in facts) is.flight.planned picture.place at.line.row at.unit picture.plan.now is.plan
          (row_inside facts picture is at unit there) (column_inside facts picture is at unit there) motion.known
          motion.segment motion.is motion.has source source_is
          ∙ ap (λ (l : Line). told_reach (flight_rows (flight_in facts)) l at.unit)
          (sym (line_is facts picture is at unit there)))

      module _ (v : View FlightFacts) (seen : SeenFlags) (are : HasSeenFlags picture.layout.now v seen)
          (all : All (HasReach picture.layout.now seen source) items) where
        pub all_met : AreSeen facts picture.layout.now v
            (read_needs (flight_rows (flight_in facts)) at.line at.unit)
            → AreSeen facts picture.layout.now v
            (row_needs (flight_rows (flight_in facts)) (collocated_of (flight_rows (flight_in facts)) at.line at.unit)
            at.line.row)
            → AreSeen facts picture.layout.now v (unit_needs (flight_rows (flight_in facts)) at.line at.unit)
        all_met read collocated =
            needs_met facts picture.layout.now is.flight v seen are source items at.line at.unit told all unit.phase
            read collocated

        pub all_final : (j row : ℕ) → UnitUses (flight_rows (flight_in facts)) at.line at.unit (line_of S j row) 0
            → is_seen seen j row ≡ true
        all_final j row uses =
            final_seen facts picture.layout.now is.flight v seen are source items at.line at.unit told all j row
            unit.phase uses
