-- A pass that goes on with a row.
use Rattle.std.proofs.Common.{ℕ, ◌≤◌, arith, ap, refl, sym, subst, ◌∙◌}
use Rattle.progress_words.specs.declared.pass.Pass.{Pass}
use Rattle.progress_words.specs.declared.view.View.{View}
use Rattle.progress_words.specs.Passes.{IsPassOf, Knows, view}
use Rattle.progress_words.specs.Places.{Place}
use Rattle.progress_words.specs.Views.{seen_of}
use Rattle.border_words.specs.FlightFacts.{FlightFacts}
use Rattle.done_units.specs.FlightWaits.{AreAllKnown, HasSameParts, HasWaited}
use Rattle.row_waits.specs.declared.picture_view.PictureView.{PictureView}
use Rattle.built_rows.specs.declared.row_builder.RowBuilder.{RowBuilder}
use Rattle.built_rows.specs.Stages.{GoesOn, IsReadyFor}
use Rattle.row_waits.proofs.Rows.{rows_stay}

module _ {F : Type 0} where
  both_parts : (v w x : View F) → HasSameParts v w → HasSameParts w x → HasSameParts v x
  both_parts v w x first second = record {
    none = second.none ∙ first.none;
    opens = second.opens ∙ first.opens;
    splits = second.splits ∙ first.splits;
    joins = second.joins ∙ first.joins;
  }

  waited_parts : (v w : View F) (line : ℕ) → HasWaited v line w → HasSameParts v w
  waited_parts v w line waited = record {
    none = ap (λ (u : View F). u.none) waited.same;
    opens = ap (λ (u : View F). u.opens) waited.same;
    splits = ap (λ (u : View F). u.splits) waited.same;
    joins = ap (λ (u : View F). u.joins) waited.same;
  }

module _ (board : Place FlightFacts) (picture : PictureView) where
  pub stays_ready : (v w : View FlightFacts) (b : RowBuilder) → ((l : ℕ) → seen_of v l ≤ seen_of w l)
      → IsReadyFor picture v b → IsReadyFor picture w b
  stays_ready v w b more ready =
      record { across = ready.across; rows = rows_stay picture.layout.now v w b.seen more ready.rows }

  pub goes_on : (p q r : Pass FlightFacts) (b c : RowBuilder) → GoesOn board picture p q b → GoesOn board picture q r c
      → GoesOn board picture p r c
  goes_on p q r b c first second = record {
    own = second.own;
    known = second.known;
    ready = second.ready;
    parts = both_parts (view p) (view q) (view r) first.parts second.parts;
    more = λ l. let x = first.more l in let y = second.more l in omega (arith, x, y);
  }

  pub has_waited : (p q : Pass FlightFacts) (b : RowBuilder) (line : ℕ) → IsPassOf board q
      → AreAllKnown board.flight (view q) → IsReadyFor picture (view q) b → HasWaited (view p) line (view q)
      → GoesOn board picture p q b
  has_waited p q b line own known ready waited = record {
    own = own;
    known = known;
    ready = ready;
    parts = waited_parts (view p) (view q) line waited;
    more = waited.more;
  }

  -- a pass that knows what it knew
  pub knows_still : (p q : Pass FlightFacts) (b : RowBuilder) → IsPassOf board p
      → AreAllKnown board.flight (view p) → IsReadyFor picture (view p) b → Knows p q (view p)
      → GoesOn board picture p q b
  knows_still p q b own known ready knows = record {
    own = (knows.0 ∙ own.0, ap (λ (u : View FlightFacts). u.facts) knows.1 ∙ own.1);
    known = subst (λ (u : View FlightFacts). AreAllKnown board.flight u) (sym knows.1) known;
    ready = subst (λ (u : View FlightFacts). IsReadyFor picture u b) (sym knows.1) ready;
    parts =
        subst (HasSameParts (view p)) (sym knows.1)
        (record { none = refl; opens = refl; splits = refl; joins = refl });
    more = λ l. let e = ap (λ (u : View FlightFacts). seen_of u l) knows.1 in omega (arith, e);
  }
