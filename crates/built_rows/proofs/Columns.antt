-- A row of coding tree units that is built column by column.
use Rattle.std.proofs.Common.{◌≡◌, ℕ, ◌+◌, ◌<◌, ◌≤◌, refl, ap, subst, arith}
use Rattle.header_types.specs.SequenceParameterSets.{width_in_ctbs}
use Rattle.progress_words.specs.declared.pass.Pass.{Pass}
use Rattle.progress_words.specs.Passes.{IsPassOf, view}
use Rattle.progress_words.specs.Places.{Place}
use Rattle.progress_words.specs.Views.{HasEnded}
use Rattle.line_words.specs.Places.{UnitAt}
use Rattle.border_words.specs.FlightFacts.{FlightFacts}
use Rattle.border_words.specs.FlightFacts.{flight_meaning}
use Rattle.border_words.specs.FlightFacts.{flight_in}
use Rattle.row_waits.specs.declared.picture_view.PictureView.{PictureView}
use Rattle.built_rows.specs.declared.row_builder.RowBuilder.{RowBuilder}
use Rattle.built_rows.specs.Stages.{GoesOn, IsWorking, StandsAt, next_of, unit_in}
use Rattle.built_rows.proofs.Going.{goes_on}
use Rattle.built_rows.proofs.Working.{is_ready}

-- a pass that began a row stands before a column, or behind the last one
pub record IsBefore (board : Place FlightFacts) (picture : PictureView) (row : ℕ) (start : Pass FlightFacts) (x : ℕ)
    (pass : Pass FlightFacts) (b : RowBuilder) : Type 0 where
  pub kept : GoesOn board picture start pass b
  pub stands : x < width_in_ctbs picture.plan.now.sps
      → StandsAt board.flight picture (unit_in picture row x) (view pass) b
  pub ended : x ≡ width_in_ctbs picture.plan.now.sps
      → HasEnded (flight_meaning (flight_in board.flight)) (view pass)

module _ (board : Place FlightFacts) (picture : PictureView) where
  -- a pass that does nothing goes on
  pub stays : (pass : Pass FlightFacts) (b : RowBuilder) (at : UnitAt) → IsPassOf board pass
      → IsWorking board.flight picture at (view pass) b → GoesOn board picture pass pass b
  stays pass b at own working = record {
    own = own;
    known = working.known;
    ready = is_ready board.flight picture at (view pass) b working;
    parts = record { none = refl; opens = refl; splits = refl; joins = refl };
    more = λ l. omega arith;
  }

  module _ (row : ℕ) (start : Pass FlightFacts) where
    pub begins : (b : RowBuilder) → 1 ≤ width_in_ctbs picture.plan.now.sps → IsPassOf board start
        → StandsAt board.flight picture (unit_in picture row 0) (view start) b
        → IsBefore board picture row start 0 start b
    begins b some own stands = record {
      kept = stays start b (unit_in picture row 0) own stands.working;
      stands = λ inside. stands;
      ended = λ end. absurd (omega (arith, some, end));
    }

    -- a column more is built
    module _ (x : ℕ) (pass after : Pass FlightFacts) (b c : RowBuilder)
        (before : IsBefore board picture row start x pass b) (at : UnitAt) (same : at ≡ unit_in picture row x)
        (kept : GoesOn board picture pass after c)
        (next : at.unit + 1 < width_in_ctbs picture.plan.now.sps
        → StandsAt board.flight picture (next_of at) (view after) c)
        (last : at.unit + 1 ≡ width_in_ctbs picture.plan.now.sps
        → HasEnded (flight_meaning (flight_in board.flight)) (view after)) where
      unit_is : at.unit ≡ x
      unit_is = ap (λ (u : UnitAt). u.unit) same

      next_is : next_of at ≡ unit_in picture row (x + 1)
      next_is = ap next_of same

      pub goes_to_next : IsBefore board picture row start (x + 1) after c
      goes_to_next =
          let e = unit_is in
          record {
            kept = goes_on board picture start pass after b c before.kept kept;
            stands = λ inside.
                subst (λ (u : UnitAt). StandsAt board.flight picture u (view after) c) next_is
                (next (omega (arith, e, inside)));
            ended = λ end. last (omega (arith, e, end));
          }
