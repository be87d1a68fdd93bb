-- A builder whose border has what units make beside its unit, and the collocated picture's motion beneath.
use Rattle.std.proofs.Common.{◌≡◌, ℕ, ◌+◌, ◌*◌, ◌≤◌, min, inl, inr, Some, All, ap, sym, subst, ◌∙◌, arith}
use Rattle.std.proofs.Common.{slice_get}
use Rattle.std.proofs.lemmas.Bool.{cases_lt}
use Rattle.header_types.specs.SequenceParameterSets.{width_in_ctbs}
use Rattle.plan_types.specs.declared.picture_plan.PicturePlan.{PicturePlan}
use Rattle.plan_types.specs.declared.segment_plan.SegmentPlan.{SegmentPlan}
use Rattle.ctu_records.specs.Tree.{Ctu}
use Rattle.ctu_motion.specs.Held.{held}
use Rattle.picture_layout.specs.declared.coding_tree_unit.CodingTreeUnit.{CodingTreeUnit}
use Rattle.border_words.specs.PictureFilters.{IsUnit as IsUnitIn}
use Rattle.picture_buffer.specs.Motion.{FieldPlaces}
use Rattle.spec_motion.specs.Units.{IsPlacedItem}
use Rattle.spec_slice_data.specs.Segment.{PictureShape, row_of}
use Rattle.spec_picture_trees.specs.Places.{first_column, unit_places}
use Rattle.spec_picture_trees.specs.Shapes.{slice_start}
use Rattle.spec_known_units.specs.Known.{KnownUnit}
use Rattle.spec_picture_motion.specs.Derived.{collocated_motions, known_of_unit}
use Rattle.spec_picture_motion.specs.Slices.{collocated_entry}
use Rattle.spec_picture_build.specs.Format.{unit_format}
use Rattle.spec_picture_build.specs.References.{motions_of}
use Rattle.spec_decoded_pictures.specs.Decoded.{DecodedUnits}
use Rattle.spec_reconstruction.specs.declared.format.UnitFormat.{UnitFormat}
use Rattle.spec_reconstruction.specs.Sound.{IsFormat}
use Rattle.border_words.specs.PictureBuild.{IsCommon, of_slice}
use Rattle.board_core.specs.Needs.{collocated_of, row_needs}
use Rattle.spec_flights.specs.Pictures.{pictures_before}
use Rattle.spec_flights.specs.Rows.{flight_rows}
use Rattle.border_words.specs.RowBorders.{Bordering, at_unit, with_beneath}
use Rattle.border_words.specs.RowBorders.{IsAbove, IsAtLeft, IsBeneath, IsBeside, IsDerived, tree_unit}
use Rattle.border_words.specs.RowBorders.{IsLaid}
use Rattle.border_words.proofs.RowBordersLemmas.{laid_above}
use Rattle.border_words.specs.UnitBuild.{BuiltUnit}
use Rattle.progress_words.specs.declared.view.View.{View}
use Rattle.line_words.specs.Places.{IsUnit, UnitAt}
use Rattle.border_words.specs.FlightFacts.{FlightFacts}
use Rattle.border_words.specs.FlightFacts.{flight_in}
use Rattle.done_units.specs.FlightWaits.{AreSeen}
use Rattle.row_waits.specs.declared.picture_view.PictureView.{PictureView}
use Rattle.row_waits.specs.Pictures.{IsPictureOf, IsUnitOf, address_in}
use Rattle.built_rows.specs.declared.row_builder.RowBuilder.{RowBuilder}
use Rattle.built_rows.specs.Stages.{HasDerived, HasRead, IsLeftOf, IsWorking, shape_of, units_in}
use Rattle.built_rows.proofs.Placed.{column_is, items_placed, row_covered, row_is}

-- what stands beside a unit doesn't depend on what is beneath it
beside_over : (border : Bordering) (beneath : FieldPlaces) (units : DecodedUnits) → IsBeside border units
    → IsBeside (with_beneath border beneath) units
beside_over border beneath units is = record {
  above = record { line = is.above.line; motion = is.above.motion; flags = is.above.flags };
  left = record { column = is.left.column; motion = is.left.motion; flags = is.left.flags };
}

-- what is laid up to two units behind a column, or to the end of the row, is enough for the unit there
enough_laid : (n x width across : ℕ) → across ≤ n * width → min (n * x + 2 * n) across ≤ n * min (x + 2) width
enough_laid n x width across covered =
    elim (cases_lt width (x + 2)) [
      | inl many ↦
          let e : min (x + 2) width ≡ width = omega (arith, many) in
          let f : n * min (x + 2) width ≡ n * width = ap (λ k. n * k) e in
          omega (arith, f, covered)
      | inr few ↦
          let e : min (x + 2) width ≡ x + 2 = omega (arith, few) in
          let f : n * min (x + 2) width ≡ n * (x + 2) = ap (λ k. n * k) e in
          let g : n * (x + 2) ≡ n * x + 2 * n = grind arith in
          omega (arith, f, g)
    ]

module _ (facts : FlightFacts) (picture : PictureView) (is : IsPictureOf facts picture) (at : UnitAt)
    (unit : IsUnitOf picture at) (there : IsUnit at) (v : View FlightFacts) (b : RowBuilder) (s : SegmentPlan)
    (here : IsUnitIn picture.plan.now s b.border.unit)
    (address : b.border.unit.address ≡ address_in picture.plan.now at)
    (read : HasRead facts picture at v b)
    (left : IsLeftOf (shape_of picture) (address_in picture.plan.now at) b.border (units_in facts picture)) where
  abbrev p : PicturePlan
  p = picture.plan.now

  abbrev a : ℕ
  a = address_in picture.plan.now at

  abbrev units : DecodedUnits
  units = units_in facts picture

  abbrev n : ℕ
  n = unit_places (shape_of picture)

  abbrev end : ℕ
  end = unit_places (shape_of picture) * min (at.unit + 2) (width_in_ctbs picture.plan.now.sps)

  unit_is : record { layout = shape_of picture; slice = b.border.unit.slice; address = address_in picture.plan.now at }
      ≡ b.border.unit
  unit_is =
      ap (λ (q : PictureShape). of_parts q (address_in picture.plan.now at)) (sym here.layout)
      ∙ ap (of_parts b.border.unit.layout) (sym address)
    where
      of_parts : PictureShape → ℕ → CodingTreeUnit
      of_parts layout k = record { layout = layout; slice = b.border.unit.slice; address = k }

  left_here : IsAtLeft b.border (units_in facts picture)
  left_here =
      let is =
      subst (λ (u : CodingTreeUnit). IsAtLeft (at_unit b.border u) units) unit_is (left b.border.unit.slice) in
      record { column = is.column; motion = is.motion; flags = is.flags }

  column_here : first_column b.border.unit.layout b.border.unit.address ≡ n * at.unit
  column_here =
      ap (λ (q : PictureShape). first_column q b.border.unit.address) here.layout
      ∙ (ap (first_column (shape_of picture)) address
      ∙ ap (λ k. n * k) (column_is facts picture is at unit there))

  row_here : row_of b.border.unit.layout b.border.unit.address ≡ at.line.row
  row_here =
      ap (λ (q : PictureShape). row_of q b.border.unit.address) here.layout
      ∙ (ap (row_of (shape_of picture)) address ∙ row_is facts picture is at unit there)

  enough : min (first_column b.border.unit.layout b.border.unit.address + 2 * unit_places b.border.unit.layout)
      b.border.unit.layout.across
      ≤ unit_places (shape_of picture) * min (at.unit + 2) (width_in_ctbs picture.plan.now.sps)
  enough =
      subst (λ k. min (k + 2 * unit_places b.border.unit.layout) b.border.unit.layout.across ≤ end) (sym column_here)
      (subst (λ (q : PictureShape). min (n * at.unit + 2 * unit_places q) q.across ≤ end) (sym here.layout)
      (enough_laid n at.unit (width_in_ctbs p.sps) (shape_of picture).across (row_covered facts picture is)))

  above_here : IsAbove b.border (units_in facts picture)
  above_here =
      laid_above b.border units end
      (subst
      (λ (q : PictureShape). IsLaid q (row_of b.border.unit.layout b.border.unit.address) b.border.above units end)
      (sym here.layout)
      (subst (λ r. IsLaid (shape_of picture) r b.border.above units end) (sym row_here) read.laid))
      enough

  -- the motion beneath is laid
  module _ (border : Bordering) (same : border ≡ with_beneath b.border border.beneath) where
    pub beside_here : IsBeside border (units_in facts picture)
    beside_here =
        subst (λ (q : Bordering). IsBeside q units) (sym same)
        (beside_over b.border border.beneath units (record { above = above_here; left = left_here }))

    pub unit_here : IsUnitIn picture.plan.now s border.unit
    unit_here = subst (λ (q : Bordering). IsUnitIn p s q.unit) (sym same) here

    pub address_here : border.unit.address ≡ address_in picture.plan.now at
    address_here = ap (λ (q : Bordering). q.unit.address) same ∙ address

    -- and the motion of the unit derived
    module _ (format : UnitFormat) (built : BuiltUnit) where
      abbrev pub after : RowBuilder
      after = record b { border = border; format = format; built = built }

      pub works_over : IsWorking facts picture at v b → IsCommon picture.plan.now.sps picture.plan.now.pps format
          → IsFormat format
          → IsWorking facts picture at v (record b { border = border; format = format; built = built })
      works_over working common depths = record {
        unit = working.unit;
        holds = working.holds;
        written = working.written;
        known = working.known;
        rows = working.rows;
        plan = working.plan;
        layout = ap (λ (q : Bordering). q.unit.layout) same ∙ working.layout;
        common = common;
        depths = depths;
      }

      pub has_read_over : HasRead facts picture at v (record b { border = border; format = format; built = built })
      has_read_over =
          subst
          (λ (q : Bordering). HasRead facts picture at v (record b { border = q; format = format; built = built }))
          (sym same)
          (record {
            needs = read.needs;
            current = read.current;
            read = read.read;
            next = read.next;
            laid = read.laid;
            above = read.above;
          })

      pub has_derived : slice_get picture.plan.now.segments read.read.known.segment ≡ Some s
          → AreSeen facts picture.layout.now v
          (row_needs (flight_rows (flight_in facts)) (collocated_of (flight_rows (flight_in facts)) at.line at.unit)
          at.line.row)
          → IsBeneath border
          (collocated_motions (motions_of (pictures_before (flight_in facts) picture.place))
          (collocated_entry s.header.slice (slice_start picture.plan.now s).lists))
          → IsDerived picture.plan.now s border b.reader.records built
          → ((number : ℕ) → All IsPlacedItem b.reader.records.items
          → IsBeside border (units_in facts picture)
          → IsBeneath border
          (collocated_motions (motions_of (pictures_before (flight_in facts) picture.place))
          (collocated_entry s.header.slice (slice_start picture.plan.now s).lists))
          → held built.motion
          ≡ known_of_unit (motions_of (pictures_before (flight_in facts) picture.place)) picture.plan.now s
          (tree_unit number border.unit.address b.reader.records) (units_in facts picture).motions)
          → format ≡ unit_format picture.plan.now.sps picture.plan.now.pps s.header.slice
          → HasDerived facts picture at v (record b { border = border; format = format; built = built })
      has_derived has seen beneath derived value told = record {
        known = read.read.known;
        is = read.read.is;
        same = read.read.same;
        segment = s;
        has = has;
        unit = unit_here;
        address = address_here;
        collocated = seen;
        beside = beside_here;
        beneath = beneath;
        derived = derived;
        motion = motion;
        format = told;
      }
        where
          known : KnownUnit
          known = read.read.known

          placed : All IsPlacedItem b.reader.records.items
          placed =
              subst (λ (c : Ctu). All IsPlacedItem c.items) (sym read.read.same.read)
              (items_placed facts picture is at unit there known read.read.is)

          motion : held built.motion
              ≡ known_of_unit (motions_of (pictures_before (flight_in facts) picture.place)) picture.plan.now s
              (tree_unit read.read.known.segment (address_in picture.plan.now at) read.read.known.read)
              (units_in facts picture).motions
          motion =
              let others = motions_of (pictures_before (flight_in facts) picture.place) in
              value known.segment placed beside_here beneath
              ∙ (ap (λ k. known_of_unit others p s (tree_unit known.segment k b.reader.records) units.motions)
              address_here
              ∙ ap (λ (c : Ctu). known_of_unit others p s (tree_unit known.segment a c) units.motions)
              read.read.same.read)

-- the format of a slice more is that of all but for its offsets
pub common_still : (picture : PictureView) (s : SegmentPlan) (old new : UnitFormat)
    → IsCommon picture.plan.now.sps picture.plan.now.pps old
    → new ≡ of_slice picture.plan.now.pps s.header.slice old
    → IsCommon picture.plan.now.sps picture.plan.now.pps new
common_still picture s old new common set slice =
    ap (of_slice picture.plan.now.pps slice) set ∙ common slice
