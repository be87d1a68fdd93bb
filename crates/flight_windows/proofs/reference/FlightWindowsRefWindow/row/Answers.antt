use Rattle.std.proofs.Common.{rules, ◌≡◌, pos, ◌+ℤ◌, Some, None, slice_get, sym, ◌∙◌}
use mir.Val.{SFits}
use mir.Syntax.{w32}
use Rattle.flight_windows.specs.Windows.{sample_named}
use Rattle.flight_windows.proofs.Bases.{named_sample, unnamed_sample}
use Rattle.flight_windows.proofs.Plain.{handed}
use Rattle.flight_windows.proofs.reference.FlightWindowsRefWindow.row.Goals as goal

pub returns-in-Some-clause-value : goal.returns-in-Some-clause-value
returns-in-Some-clause-value g c = λ k lt.
    let fx : SFits w32 c.args.x = search rules in
    let fy : SFits w32 c.args.y = search rules in
    let has : slice_get c.args.self.now.names c.args.picture ≡ Some c.in-Some.name =
    sym c.name_of.ensures ∙ c.in-Some.is in
    c.row_of.ensures.value k lt
    ∙ handed (sample_named c.args.self.now c.in-Some.name c.args.component) c.args.x c.args.y k fx fy
    ∙ named_sample c.args.self.now c.args.picture c.in-Some.name has c.args.component (c.args.x +ℤ pos k) c.args.y

pub returns-in-None-clause-value : goal.returns-in-None-clause-value
returns-in-None-clause-value g c = λ k lt.
    let none : slice_get c.args.self.now.names c.args.picture ≡ None = sym c.name_of.ensures ∙ c.in-None.is in
    c.clear.ensures.value k lt
    ∙ unnamed_sample c.args.self.now c.args.picture none c.args.component (c.args.x +ℤ pos k) c.args.y
