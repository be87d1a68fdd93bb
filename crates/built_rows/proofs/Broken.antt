-- A coding tree unit that isn't known, as its flight tells it.
use Rattle.std.proofs.Common.{◌≡◌, ℕ, false, Some, None, is_some, slice_get, ap, refl, sym, subst, ◌∙◌, arith}
use Rattle.std.specs.Option.{option_map}
use Rattle.hv_base.specs.declared.breach.Breach.{Breach}
use Rattle.hv_base.specs.declared.line.Phase.{Phase}
use Rattle.hv_base.specs.declared.line.Phase.TheVariants.{B}
use Rattle.plan_types.specs.declared.picture_plan.PicturePlan.{PicturePlan}
use Rattle.spec_known_units.specs.Known.{units_known}
use Rattle.spec_flights.specs.Pictures.{PlannedFlight}
use Rattle.spec_flights.specs.Rows.{broken_at, is_sound, is_sound_in, is_sound_of}
use Rattle.rule_numbers.specs.Rules.{rule_number}
use Rattle.progress_words.specs.declared.pass.Pass.{Pass}
use Rattle.progress_words.specs.declared.view.View.{View}
use Rattle.progress_words.specs.Passes.{HasStopped, IsPassOf, Knows, view}
use Rattle.progress_words.specs.Places.{Place}
use Rattle.progress_words.specs.Views.{seen_of}
use Rattle.line_words.specs.Places.{UnitAt}
use Rattle.border_words.specs.FlightFacts.{FlightFacts}
use Rattle.border_words.specs.FlightFacts.{rule_at, rule_in, rule_of}
use Rattle.done_units.specs.FlightWaits.{AreAllKnown, HasSameParts}
use Rattle.row_waits.specs.declared.picture_view.PictureView.{PictureView}
use Rattle.row_waits.specs.Pictures.{address_in}
use Rattle.row_waits.proofs.Rows.{rows_stay}
use Rattle.built_rows.specs.declared.row_builder.RowBuilder.{RowBuilder}
use Rattle.built_rows.specs.Stages.{GoesOn, IsReadyFor}

module _ (f : PlannedFlight) (at : UnitAt) (p : PicturePlan) (has : slice_get f.pictures at.line.picture ≡ Some p)
    (phase : at.line.phase ≡ B) where
  pub unit_unsound : units_known p (address_in p at) ≡ None → is_sound f at.line at.unit ≡ false
  unfolding is_sound
  unit_unsound none =
      ap (λ o. is_sound_of o at.line at.unit) has
      ∙ (ap (λ (q : Phase). is_sound_in p q at.line.row at.unit) phase ∙ ap (λ o. is_some o) none)

  pub unit_rule : (breach : Breach) → broken_at p (address_in p at) ≡ Some breach
      → rule_at f at.line at.unit ≡ Some (rule_number breach)
  unfolding rule_at
  unit_rule breach broken =
      ap (λ o. rule_of o at.line at.unit) has
      ∙ (ap (λ (q : Phase). rule_in p q at.line.row at.unit) phase ∙ ap (option_map rule_number) broken)

-- a pass that has told a fault
pub tells_fault : (board : Place FlightFacts) (picture : PictureView) (p q r : Pass FlightFacts) (b : RowBuilder)
    (word : ℕ) → AreAllKnown board.flight (view p) → IsReadyFor picture (view p) b → Knows p q (view p)
    → IsPassOf board r → HasStopped (view q) word (view r) → GoesOn board picture p r b
tells_fault board picture p q r b word known ready knows own stopped =
    let told : View FlightFacts → View FlightFacts = λ u. record u { least = (view r).least } in
    let is : view r ≡ told (view p) = stopped.same ∙ ap told knows.1 in
    record {
      own = own;
      known = subst (λ (u : View FlightFacts). AreAllKnown board.flight u) (sym is) known;
      ready =
          subst (λ (u : View FlightFacts). IsReadyFor picture u b) (sym is)
          (record {
            across = ready.across;
            rows = rows_stay picture.layout.now (view p) (told (view p)) b.seen
                (λ l. omega arith) ready.rows;
          });
      parts =
          subst (HasSameParts (view p)) (sym is)
          (record { none = refl; opens = refl; splits = refl; joins = refl });
      more = λ l. let e = ap (λ (u : View FlightFacts). seen_of u l) is in omega (arith, e);
    }
