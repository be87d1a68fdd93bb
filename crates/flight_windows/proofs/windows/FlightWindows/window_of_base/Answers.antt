use Rattle.std.proofs.Common.{rules, ◌≡◌, ◌+◌, ◌*◌, ◌<◌, ℤ, pos, ◌+ℤ◌, sym, ◌∙◌, subst}
use Rattle.std.specs.List.{All}
use mir.Val.{SFits}
use mir.Syntax.{w32}
use Rattle.header_types.specs.declared.sps.PictureFormat.{PictureFormat}
use Rattle.spec_reconstruction.specs.Inter.{Pictures}
use Rattle.flight_plan.specs.declared.row_range.Reference.TheVariants.{Base}
use Rattle.inter_pred.specs.Passes.{at, IsByte}
use Rattle.flight_windows.specs.Windows.{FlightView, sample_named}
use Rattle.flight_windows.proofs.Bases.{base_read}
use Rattle.flight_windows.proofs.Plain.{handed_on}
use Rattle.flight_windows.proofs.windows.FlightWindows.window_of_base.Goals as goal

pub invariant_of-self : goal.invariant_of-self
invariant_of-self g c = (c.self.invariant.0, c.window.ensures.same ∙ c.self.invariant.1, c.self.invariant.2)

pub returns-clause-value : goal.returns-clause-value
returns-clause-value g c = λ i j hi hj.
    let from = c.args.from in
    let fx : SFits w32 from.x = search rules in
    let fy : SFits w32 from.y = search rules in
    let w = c.self.inside in
    let r : Pictures = g.R.RefWindow.reference_at w.bases in
    let format : PictureFormat = w.sps.now.format in
    subst
    (λ (v : FlightView). at c.window.new.out (72 * j + i)
    ≡ sample_named v (Base c.args.place) from.component (from.x +ℤ pos i) (from.y +ℤ pos j))
    c.self.view_is
    (c.window.ensures.value i j hi hj
    ∙ (handed_on (r c.args.place from.component) from.x from.y i j fx fy
    ∙ base_read r w.rows.board.now.flight w.rows.seen.now format c.self.invariant.1 c.args.place from.component
    (from.x +ℤ pos i) (from.y +ℤ pos j)))

pub returns-clause-bytes : goal.returns-clause-bytes
returns-clause-bytes g c =
    let w = c.self.inside in
    let from = c.args.from in
    let r : Pictures = g.R.RefWindow.reference_at w.bases in
    let format : PictureFormat = w.sps.now.format in
    let P : FlightView → Type 0 = λ v. ((x y : ℤ) → sample_named v (Base c.args.place) from.component x y < 256)
    → All IsByte c.args.out.now → All IsByte c.window.new.out in
    subst P c.self.view_is (λ small old. c.window.ensures.bytes (λ x y.
    subst (λ n. n < 256)
    (sym (base_read r w.rows.board.now.flight w.rows.seen.now format c.self.invariant.1 c.args.place from.component x
    y))
    (small x y)) old)
