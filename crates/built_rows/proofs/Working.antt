-- What a builder at work keeps while a pass goes on, or parts of it change.
use Rattle.std.proofs.Common.{ap, sym, subst, ◌∙◌}
use Rattle.spec_slice_data.specs.Segment.{PictureShape}
use Rattle.progress_words.specs.declared.view.View.{View}
use Rattle.line_words.specs.Places.{UnitAt, number_at}
use Rattle.border_words.specs.FlightFacts.{FlightFacts}
use Rattle.done_units.specs.FlightWaits.{AreAllKnown, HasWaited}
use Rattle.row_waits.specs.declared.picture_view.PictureView.{PictureView}
use Rattle.built_rows.specs.declared.row_builder.RowBuilder.{RowBuilder}
use Rattle.built_rows.specs.Filling.{OnlyBuilds}
use Rattle.built_rows.specs.Stages.{HasReached, HasRead, IsReadyFor, IsWorking}
use Rattle.row_waits.proofs.Rows.{rows_stay}
use Rattle.row_waits.proofs.Waited.{still_holds}

module _ (facts : FlightFacts) (picture : PictureView) (at : UnitAt) where
  -- the pass has waited
  pub works_on : (v w : View FlightFacts) (b : RowBuilder) → IsWorking facts picture at v b
      → HasWaited v (number_at at) w → AreAllKnown facts w → IsWorking facts picture at w b
  works_on v w b working waited known = record {
    unit = working.unit;
    holds = still_holds v w at waited working.holds;
    written = ap (λ (u : View FlightFacts). u.written) waited.same ∙ working.written;
    known = known;
    rows = rows_stay picture.layout.now v w b.seen waited.more working.rows;
    plan = working.plan;
    layout = working.layout;
    common = working.common;
    depths = working.depths;
  }

  -- samples were built
  pub works_built : (v : View FlightFacts) (b c : RowBuilder) → IsWorking facts picture at v b → OnlyBuilds b c
      → IsWorking facts picture at v c
  works_built v b c working same =
      subst (λ (t : RowBuilder). IsWorking facts picture at v t) (sym same)
      (record {
        unit = working.unit;
        holds = working.holds;
        written = working.written;
        known = working.known;
        rows = working.rows;
        plan = working.plan;
        layout = working.layout;
        common = working.common;
        depths = working.depths;
      })

  pub read_built : (v : View FlightFacts) (b c : RowBuilder) → HasRead facts picture at v b → OnlyBuilds b c
      → HasRead facts picture at v c
  read_built v b c read same =
      subst (λ (t : RowBuilder). HasRead facts picture at v t) (sym same)
      (record {
        needs = read.needs;
        current = read.current;
        read = read.read;
        next = read.next;
        laid = read.laid;
        above = read.above;
      })

  pub reached_built : (v : View FlightFacts) (b c : RowBuilder) → HasReached facts picture at v b → OnlyBuilds b c
      → HasReached facts picture at v c
  reached_built v b c reached same =
      subst (λ (t : RowBuilder). HasReached facts picture at v t) (sym same)
      (record { needs = reached.needs; final = reached.final })

  -- it may build with what the pass has seen
  pub is_ready : (v : View FlightFacts) (b : RowBuilder) → IsWorking facts picture at v b → IsReadyFor picture v b
  is_ready v b working = record {
    across = ap (λ (l : PictureShape). l.across) working.layout;
    rows = working.rows;
  }
