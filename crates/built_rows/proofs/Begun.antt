-- A builder that stands at a unit of a row.
use Rattle.std.proofs.Common.{◌≡◌, ◌<◌, sym, subst, arith}
use Rattle.header_types.specs.SequenceParameterSets.{width_in_ctbs}
use Rattle.border_words.specs.PictureBuild.{IsCommon}
use Rattle.spec_reconstruction.specs.Sound.{IsFormat}
use Rattle.row_waits.specs.RowTrees.{OfSegment, StandsBefore}
use Rattle.progress_words.specs.declared.view.View.{View}
use Rattle.line_words.specs.Places.{UnitAt, number_at}
use Rattle.border_words.specs.FlightFacts.{FlightFacts}
use Rattle.done_units.specs.FlightWaits.{AreAllKnown, HasWaited, HoldsUnit}
use Rattle.row_waits.specs.declared.picture_view.PictureView.{PictureView}
use Rattle.row_waits.specs.Pictures.{IsPictureOf, IsUnitOf, address_in}
use Rattle.row_waits.specs.Seen.{HasSeenFlags}
use Rattle.row_waits.proofs.Rows.{rows_stay}
use Rattle.built_rows.specs.declared.row_builder.RowBuilder.{RowBuilder}
use Rattle.built_rows.specs.Stages.{IsReadyFor, IsStored, IsWorking, StandsAt, shape_of, units_in}
use Rattle.built_rows.proofs.First.{nothing_left}
use Rattle.built_rows.proofs.Working.{is_ready, works_on}

module _ (facts : FlightFacts) (picture : PictureView) (at : UnitAt) (v : View FlightFacts) (b : RowBuilder) where
  -- the pass has waited
  module _ (w : View FlightFacts) (waited : HasWaited v (number_at at) w) (known : AreAllKnown facts w) where
    pub stands_on : StandsAt facts picture at v b → StandsAt facts picture at w b
    stands_on stands = record {
      working = works_on facts picture at v w b stands.working waited known;
      reader = stands.reader;
      stored = stands.stored;
      laid = stands.laid;
      above = stands.above;
      left = stands.left;
    }

    pub ready_on : IsWorking facts picture at v b → IsReadyFor picture w b
    ready_on working =
        let ready = is_ready facts picture at v b working in
        record { across = ready.across; rows = rows_stay picture.layout.now v w b.seen waited.more ready.rows }

  -- it has gone over to the picture
  pub works_first : (c : RowBuilder) → IsPictureOf facts picture → IsUnitOf picture at → HoldsUnit v at → v.written ≡ 0
      → AreAllKnown facts v → IsReadyFor picture v b → c.reader.segments.plan ≡ picture.plan.now
      → c.border.unit.layout ≡ shape_of picture → c.format ≡ picture.format.now → c.seen ≡ b.seen
      → IsWorking facts picture at v c
  works_first c is unit holds written known ready plan layout format seen = record {
    unit = unit;
    holds = holds;
    written = written;
    known = known;
    rows = subst (HasSeenFlags picture.layout.now v) (sym seen) ready.rows;
    plan = plan;
    layout = layout;
    common = subst (IsCommon picture.plan.now.sps picture.plan.now.pps) (sym format) is.common;
    depths = subst IsFormat (sym format) is.depths;
  }

  -- at the first unit of a row
  pub stands_first : IsWorking facts picture at v b → at.unit ≡ 0 → 0 < width_in_ctbs picture.plan.now.sps
      → StandsBefore picture.plan.now (address_in picture.plan.now at) b.reader.reader b.reader.left
      → OfSegment picture.plan.now (address_in picture.plan.now at)
      (IsStored picture.plan.now (address_in picture.plan.now at) b.stored)
      → StandsAt facts picture at v b
  stands_first working first some reader stored = record {
    working = working;
    reader = reader;
    stored = stored;
    laid = λ right. absurd (omega (arith, first, right));
    above = λ right. absurd (omega (arith, first, right));
    left =
        nothing_left picture.plan.now at.line.row at.unit first some b.border (units_in facts picture);
  }
