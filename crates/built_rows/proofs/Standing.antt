-- A builder whose border stands at a unit, and one whose pass has seen more.
use Rattle.std.proofs.Common.{◌≡◌, ℕ, ◌<◌, ◌≤◌, List, arith, ap, sym, subst, ◌∙◌}
use Rattle.std.proofs.lemmas.List.Elements.{All-weaker}
use Rattle.picture_layout.specs.declared.coding_tree_unit.CodingTreeUnit.{CodingTreeUnit}
use Rattle.border_words.specs.RowBorders.{Bordering, at_unit}
use Rattle.progress_words.specs.declared.view.View.{View}
use Rattle.progress_words.specs.declared.pass.Pass.{Pass}
use Rattle.progress_words.specs.Core.{AreMet}
use Rattle.progress_words.specs.Meanings.{Meaning}
use Rattle.progress_words.specs.Passes.{IsPassOf, view}
use Rattle.progress_words.specs.Places.{Place}
use Rattle.progress_words.specs.Views.{seen_of}
use Rattle.line_words.specs.Places.{UnitAt, number_at}
use Rattle.border_words.specs.FlightFacts.{FlightFacts}
use Rattle.border_words.specs.FlightFacts.{flight_meaning}
use Rattle.border_words.specs.FlightFacts.{flight_in}
use Rattle.done_units.specs.FlightWaits.{AreAllKnown, HasWaited}
use Rattle.row_waits.specs.declared.picture_view.PictureView.{PictureView}
use Rattle.row_waits.specs.Pictures.{address_in}
use Rattle.built_rows.specs.declared.row_builder.RowBuilder.{RowBuilder}
use Rattle.built_rows.specs.Stages.{GoesOn, HasRead, IsLeftOf, IsWorking, shape_of, units_in}
use Rattle.built_rows.proofs.Going.{has_waited}
use Rattle.built_rows.proofs.Working.{is_ready, works_on}

-- needs that are met stay so while counts grow
pub met_still : (m : Meaning) (old new : ℕ → ℕ) (needs : List (ℕ × ℕ)) → ((l : ℕ) → old l ≤ new l)
    → AreMet m old needs → AreMet m new needs
met_still m old new needs more met =
    All-weaker (λ (need : ℕ × ℕ). (need.0 < m.lines) × (need.1 ≤ old need.0))
    (λ (need : ℕ × ℕ). (need.0 < m.lines) × (need.1 ≤ new need.0))
    (λ need is. let had = is.1 in let up = more need.0 in (is.0, omega (arith, had, up))) needs met

-- the border goes to the unit
module _ (facts : FlightFacts) (picture : PictureView) (at : UnitAt) (v : View FlightFacts) (b : RowBuilder)
    (border : Bordering) (unit : CodingTreeUnit) (same : border ≡ at_unit b.border unit) where
  pub works_at : unit.layout ≡ shape_of picture → IsWorking facts picture at v b
      → IsWorking facts picture at v (record b { border = border })
  works_at layout working = record {
    unit = working.unit;
    holds = working.holds;
    written = working.written;
    known = working.known;
    rows = working.rows;
    plan = working.plan;
    layout = ap (λ (q : Bordering). q.unit.layout) same ∙ layout;
    common = working.common;
    depths = working.depths;
  }

  pub has_read_at : HasRead facts picture at v b → HasRead facts picture at v (record b { border = border })
  has_read_at read =
      subst (λ (q : Bordering). HasRead facts picture at v (record b { border = q })) (sym same)
      (record {
        needs = read.needs;
        current = read.current;
        read = read.read;
        next = read.next;
        laid = read.laid;
        above = read.above;
      })

  pub left_at : IsLeftOf (shape_of picture) (address_in picture.plan.now at) b.border (units_in facts picture)
      → IsLeftOf (shape_of picture) (address_in picture.plan.now at) border (units_in facts picture)
  left_at left =
      subst
      (λ (q : Bordering). IsLeftOf (shape_of picture) (address_in picture.plan.now at) q (units_in facts picture))
      (sym same) (λ slice. left slice)

-- the pass has waited
module _ (board : Place FlightFacts) (picture : PictureView) (at : UnitAt) (before after : Pass FlightFacts)
    (b : RowBuilder) (waited : HasWaited (view before) (number_at at) (view after)) where
  pub reads_on : HasRead board.flight picture at (view before) b → HasRead board.flight picture at (view after) b
  reads_on read = record {
    needs = met_still (flight_meaning (flight_in board.flight)) (seen_of (view before)) (seen_of (view after)) _
        waited.more read.needs;
    current = read.current;
    read = read.read;
    next = read.next;
    laid = read.laid;
    above = read.above;
  }

  pub waits_on : IsWorking board.flight picture at (view before) b → IsPassOf board after
      → AreAllKnown board.flight (view after) → GoesOn board picture before after b
  waits_on working own known =
      has_waited board picture before after b (number_at at) own known
      (is_ready board.flight picture at (view after) b
      (works_on board.flight picture at (view before) (view after) b working waited known))
      waited
