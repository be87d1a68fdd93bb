use Rattle.std.proofs.Common.{rules, ◌≡◌, pos, ◌+ℤ◌, ◌∙◌, subst}
use mir.Val.{SFits}
use mir.Syntax.{w32}
use Rattle.header_types.specs.declared.sps.PictureFormat.{PictureFormat}
use Rattle.spec_reconstruction.specs.Inter.{Pictures}
use Rattle.flight_plan.specs.declared.row_range.Reference.TheVariants.{Base}
use Rattle.inter_pred.specs.Passes.{at}
use Rattle.flight_windows.specs.Windows.{FlightView, sample_named}
use Rattle.flight_windows.proofs.Bases.{base_read}
use Rattle.flight_windows.proofs.Plain.{handed}
use Rattle.flight_windows.proofs.windows.FlightWindows.row_of_base.Goals as goal

pub invariant_of-self : goal.invariant_of-self
invariant_of-self g c = (c.self.invariant.0, c.row.ensures.same ∙ c.self.invariant.1, c.self.invariant.2)

pub returns-clause-value : goal.returns-clause-value
returns-clause-value g c = λ k lt.
    let fx : SFits w32 c.args.x = search rules in
    let fy : SFits w32 c.args.y = search rules in
    let w = c.self.inside in
    let r : Pictures = g.R.RefWindow.reference_at w.bases in
    let format : PictureFormat = w.sps.now.format in
    subst
    (λ (v : FlightView). at c.row.new.out k
    ≡ sample_named v (Base c.args.place) c.args.component (c.args.x +ℤ pos k) c.args.y)
    c.self.view_is
    (c.row.ensures.value k lt
    ∙ (handed (r c.args.place c.args.component) c.args.x c.args.y k fx fy
    ∙ base_read r w.rows.board.now.flight w.rows.seen.now format c.self.invariant.1 c.args.place c.args.component
    (c.args.x +ℤ pos k) c.args.y))
