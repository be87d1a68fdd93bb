-- A unit that was read.
use Rattle.std.proofs.Common.{◌≡◌, ◌+◌, ◌-◌, ◌*◌, ◌<◌, min, ap, sym, subst, ◌∙◌}
use Rattle.header_types.specs.SequenceParameterSets.{width_in_ctbs}
use Rattle.spec_picture_trees.specs.Places.{unit_places}
use Rattle.picture_layout.specs.declared.coding_tree_unit.CodingTreeUnit.{CodingTreeUnit}
use Rattle.border_words.specs.PictureBuild.{IsCommon}
use Rattle.spec_reconstruction.specs.Sound.{IsFormat}
use Rattle.spec_known_units.specs.Known.{picture_segments, segment_having}
use Rattle.board_core.specs.Needs.{read_needs}
use Rattle.spec_flights.specs.Rows.{flight_rows}
use Rattle.row_waits.specs.RowTrees.{IsReadByKnown, IsReadKnown, OfSegment, StandsBefore}
use Rattle.row_waits.specs.RowTrees.{RowReader}
use Rattle.border_words.specs.RowBorders.{Bordering, at_unit, with_above}
use Rattle.border_words.specs.RowBorders.{IsAtLeft}
use Rattle.border_words.specs.RowBorders.{IsLaid}
use Rattle.progress_words.specs.declared.view.View.{View}
use Rattle.line_words.specs.Places.{IsUnit, UnitAt}
use Rattle.border_words.specs.FlightFacts.{FlightFacts}
use Rattle.border_words.specs.FlightFacts.{flight_in}
use Rattle.done_units.specs.FlightWaits.{AreSeen}
use Rattle.border_words.specs.Units.{IsAboveOf}
use Rattle.row_waits.specs.declared.picture_view.PictureView.{PictureView}
use Rattle.built_rows.specs.declared.row_builder.RowBuilder.{RowBuilder}
use Rattle.built_rows.specs.Above.{LaysAbove}
use Rattle.row_waits.specs.Pictures.{IsPictureOf, address_in}
use Rattle.built_rows.specs.Reading.{OnlyReads}
use Rattle.row_waits.specs.Seen.{HasSeenFlags}
use Rattle.built_rows.specs.Stages.{HasRead, IsLeftOf, IsStored, IsWorking, StandsAt, above_of, shape_of, units_in}
use Rattle.built_rows.proofs.UsesSeen.{ReadBySound, read_by_known}

-- what stood before the unit, what was laid above it, and what was read of it
module _ (facts : FlightFacts) (picture : PictureView) (at : UnitAt) (v : View FlightFacts) (b c d : RowBuilder)
    (stands : StandsAt facts picture at v b) (lays : LaysAbove b c) (reads : OnlyReads c d)
    (plan : d.reader.segments.plan ≡ picture.plan.now) where
  abbrev after : RowBuilder
  after = record c { reader = d.reader }

  layout_is : c.border.unit.layout ≡ shape_of picture
  layout_is = ap (λ (q : Bordering). q.unit.layout) lays.border ∙ stands.working.layout

  pub working_read : IsWorking facts picture at v d
  working_read =
      let was = stands.working in
      subst (λ (t : RowBuilder). IsWorking facts picture at v t) (sym reads)
      (record {
        unit = was.unit;
        holds = was.holds;
        written = was.written;
        known = was.known;
        rows = subst (HasSeenFlags picture.layout.now v) (sym lays.seen) was.rows;
        plan = plan;
        layout = layout_is;
        common = subst (IsCommon picture.plan.now.sps picture.plan.now.pps) (sym lays.format) was.common;
        depths = subst IsFormat (sym lays.format) was.depths;
      })

  pub left_read : IsLeftOf (shape_of picture) (address_in picture.plan.now at) d.border (units_in facts picture)
  left_read =
      subst
      (λ (q : Bordering). IsLeftOf (shape_of picture) (address_in picture.plan.now at) q (units_in facts picture))
      (sym (ap (λ (t : RowBuilder). t.border) reads ∙ lays.border))
      (λ slice. same_left (stands.left slice))
    where
      -- what stands above doesn't matter to it
      same_left : {unit : CodingTreeUnit} → IsAtLeft (at_unit b.border unit) (units_in facts picture)
          → IsAtLeft (at_unit (with_above b.border c.border.above) unit) (units_in facts picture)
      same_left is = record { column = is.column; motion = is.motion; flags = is.flags }

  module _ (needs : AreSeen facts picture.layout.now v (read_needs (flight_rows (flight_in facts)) at.line at.unit))
      (current : d.reader.segments.current
      ≡ segment_having (picture_segments picture.plan.now) (address_in picture.plan.now at))
      (known : IsReadKnown picture.plan.now (address_in picture.plan.now at) d.reader.records d.reader.reader)
      (next : StandsBefore picture.plan.now (address_in picture.plan.now at + 1) d.reader.reader d.reader.left)
      (laid : IsLaid (shape_of picture) at.line.row c.border.above (units_in facts picture)
      (unit_places (shape_of picture) * min (at.unit + 2) (width_in_ctbs picture.plan.now.sps)))
      (above : at.unit + 1 < width_in_ctbs picture.plan.now.sps → 0 < at.line.row
      → IsAboveOf (flight_in facts) picture.place picture.plan.now (at.line.row - 1) (at.unit + 1)
      (above_of c (at.unit + 1))) where
    pub has_read : HasRead facts picture at v d
    has_read =
        subst (λ (t : RowBuilder). HasRead facts picture at v t) (sym reads)
        (record { needs = needs; current = current; read = known; next = next; laid = laid; above = above })

-- before it is read, where what reading it needs is seen
module _ (facts : FlightFacts) (picture : PictureView) (at : UnitAt) (v : View FlightFacts) (b c : RowBuilder)
    (is : IsPictureOf facts picture) (there : IsUnit at) (stands : StandsAt facts picture at v b) (lays : LaysAbove b c)
  where
    pub plan_still : c.reader.segments.plan ≡ picture.plan.now
    plan_still = ap (λ (r : RowReader). r.segments.plan) lays.reader ∙ stands.working.plan

    pub reader_still : StandsBefore picture.plan.now (address_in picture.plan.now at) c.reader.reader c.reader.left
    reader_still =
        subst (λ (r : RowReader). StandsBefore picture.plan.now (address_in picture.plan.now at) r.reader r.left)
        (sym lays.reader) stands.reader

    pub stored_still : OfSegment picture.plan.now (address_in picture.plan.now at)
        (IsStored picture.plan.now (address_in picture.plan.now at) c.stored)
    stored_still =
        subst
        (λ stored. OfSegment picture.plan.now (address_in picture.plan.now at)
        (IsStored picture.plan.now (address_in picture.plan.now at) stored))
        (sym lays.stored) stands.stored

    pub read_known : ReadBySound
        → AreSeen facts picture.layout.now v (read_needs (flight_rows (flight_in facts)) at.line at.unit)
        → IsReadByKnown picture.plan.now (address_in picture.plan.now at)
    read_known law needs =
        read_by_known facts picture at v is stands.working.unit there stands.working.holds.next stands.working.known
        needs law
