use Rattle.std.proofs.Common.{rules, ◌≡◌, pos, ◌+ℤ◌, ◌∙◌, subst}
use mir.Val.{SFits}
use mir.Syntax.{w32}
use Rattle.header_types.specs.declared.sps.PictureFormat.{PictureFormat}
use Rattle.flight_plan.specs.declared.row_range.Reference.TheVariants.{Flight}
use Rattle.inter_pred.specs.Passes.{at}
use Rattle.flight_windows.specs.Reading.{flight_sample}
use Rattle.flight_windows.specs.Windows.{FlightView, sample_named}
use Rattle.flight_windows.proofs.Known.{known_still, sees_still}
use Rattle.flight_windows.proofs.Plain.{handed}
use Rattle.flight_windows.proofs.windows.FlightWindows.flight_line.Goals as goal

pub flight_row-requires-clause-sees : goal.flight_row-requires-clause-sees
flight_row-requires-clause-sees g c = c.self.invariant.0

pub invariant_of-self : goal.invariant_of-self
invariant_of-self g c =
    let knows = c.flight_row.ensures.same in (
      sees_still c.self.inside.rows.board.now c.self.inside.rows.layout c.self.inside.rows.seen.now c.self.inside.pass
          c.flight_row.new.pass knows c.self.invariant.0,
      c.self.invariant.1,
      known_still g.K.KnownPass.table g.K.KnownPass.knows c.self.inside.pass c.flight_row.new.pass knows
          c.self.invariant.2,
    )

pub returns-clause-value : goal.returns-clause-value
returns-clause-value g c = λ k lt.
    let fx : SFits w32 c.args.x = search rules in
    let fy : SFits w32 c.args.y = search rules in
    let rows = c.self.inside.rows in
    let format : PictureFormat = c.self.inside.sps.now.format in
    let told = c.flight_row.ensures.value format c.sample_limit-greatest.ensures k lt in
    let moved = handed (λ a b. flight_sample rows c.args.place format c.args.c a b) c.args.x c.args.y k fx fy in
    subst
    (λ (v : FlightView). at c.flight_row.new.out k
    ≡ sample_named v (Flight c.args.place) c.args.c (c.args.x +ℤ pos k) c.args.y)
    c.self.view_is (told ∙ moved)
