-- A builder whose pass has waited for rows of reference pictures.
use Rattle.std.proofs.Common.{ap, ◌∙◌}
use Rattle.spec_slice_data.specs.Segment.{PictureShape}
use Rattle.progress_words.specs.declared.pass.Pass.{Pass}
use Rattle.progress_words.specs.declared.view.View.{View}
use Rattle.progress_words.specs.Passes.{IsPassOf, view}
use Rattle.progress_words.specs.Places.{Place}
use Rattle.progress_words.specs.Views.{seen_of}
use Rattle.line_words.specs.Places.{UnitAt, number_at}
use Rattle.border_words.specs.FlightFacts.{flight_meaning}
use Rattle.border_words.specs.FlightFacts.{FlightFacts}
use Rattle.border_words.specs.FlightFacts.{flight_in}
use Rattle.row_waits.specs.FlightWindows.{SeenFlags}
use Rattle.row_waits.specs.declared.picture_view.PictureView.{PictureView}
use Rattle.row_waits.specs.Pictures.{IsPictureOf}
use Rattle.row_waits.specs.Seen.{HasLookedAround, MayWait}
use Rattle.row_waits.proofs.Waited.{still_holds}
use Rattle.built_rows.specs.declared.row_builder.RowBuilder.{RowBuilder}
use Rattle.built_rows.specs.Stages.{GoesOn, HasDerived, HasRead, IsWorking}
use Rattle.built_rows.proofs.Going.{has_waited}
use Rattle.built_rows.proofs.Standing.{met_still}

module _ (board : Place FlightFacts) (picture : PictureView) (at : UnitAt) (before after : Pass FlightFacts)
    (b : RowBuilder) (working : IsWorking board.flight picture at (view before) b) where
  -- it may wait
  pub may_wait : IsPassOf board before → IsPictureOf board.flight picture → MayWait board picture at before b.seen
  may_wait own is =
      record { own = own; flight = is; unit = working.unit; known = working.known; sees = working.rows }

  module _ (seen : SeenFlags) (may : MayWait board picture at after seen)
      (looked : HasLookedAround at before after b.seen seen) where
    pub works_looking : IsWorking board.flight picture at (view after) (record b { seen = seen })
    works_looking = record {
      unit = working.unit;
      holds = still_holds (view before) (view after) at looked.waited working.holds;
      written = ap (λ (u : View FlightFacts). u.written) looked.waited.same ∙ working.written;
      known = may.known;
      rows = may.sees;
      plan = working.plan;
      layout = working.layout;
      common = working.common;
      depths = working.depths;
    }

    pub read_looking : HasRead board.flight picture at (view before) b
        → HasRead board.flight picture at (view after) (record b { seen = seen })
    read_looking read = record {
      needs = met_still (flight_meaning (flight_in board.flight)) (seen_of (view before)) (seen_of (view after)) _
          looked.waited.more read.needs;
      current = read.current;
      read = read.read;
      next = read.next;
      laid = read.laid;
      above = read.above;
    }

    pub derived_looking : HasDerived board.flight picture at (view before) b
        → HasDerived board.flight picture at (view after) (record b { seen = seen })
    derived_looking derived = record {
      known = derived.known;
      is = derived.is;
      same = derived.same;
      segment = derived.segment;
      has = derived.has;
      unit = derived.unit;
      address = derived.address;
      collocated = met_still (flight_meaning (flight_in board.flight)) (seen_of (view before)) (seen_of (view after)) _
          looked.waited.more derived.collocated;
      beside = derived.beside;
      beneath = derived.beneath;
      derived = derived.derived;
      motion = derived.motion;
      format = derived.format;
    }

    pub goes_looking : GoesOn board picture before after (record b { seen = seen })
    goes_looking =
        has_waited board picture before after (record b { seen = seen }) (number_at at) may.own may.known
        (record { across = ap (λ (l : PictureShape). l.across) working.layout; rows = may.sees }) looked.waited
