use Rattle.std.proofs.Common.{◌≡◌, ◌+◌, ◌*◌, ◌<◌, pos, ◌+ℤ◌, Some, None, slice_get, sym, subst, ◌∙◌, arith}
use Rattle.flight_windows.proofs.Bases.{named_sample, unnamed_sample}
use Rattle.flight_windows.proofs.reference.FlightWindowsRefWindow.window.Goals as goal

pub returns-in-Some-clause-value : goal.returns-in-Some-clause-value
returns-in-Some-clause-value g c = λ i j hi hj.
    let from = c.args.from in
    let has : slice_get c.args.self.now.names from.picture ≡ Some c.in-Some.name =
    sym c.name_of.ensures ∙ c.in-Some.is in
    c.window_of.ensures.value i j hi hj
    ∙ named_sample c.args.self.now from.picture c.in-Some.name has from.component (from.x +ℤ pos i) (from.y +ℤ pos j)

pub returns-in-Some-clause-bytes : goal.returns-in-Some-clause-bytes
returns-in-Some-clause-bytes g c = λ small old.
    let from = c.args.from in
    let has : slice_get c.args.self.now.names from.picture ≡ Some c.in-Some.name =
    sym c.name_of.ensures ∙ c.in-Some.is in
    c.window_of.ensures.bytes (λ x y.
    subst (λ n. n < 256) (sym (named_sample c.args.self.now from.picture c.in-Some.name has from.component x y))
    (small x y)) old

pub returns-in-None-clause-value : goal.returns-in-None-clause-value
returns-in-None-clause-value g c = λ i j hi hj.
    let from = c.args.from in
    let size = c.requires.size in
    let none : slice_get c.args.self.now.names from.picture ≡ None = sym c.name_of.ensures ∙ c.in-None.is in
    c.clear_window.ensures.value (72 * j + i) (omega (arith, size, hi, hj))
    ∙ unnamed_sample c.args.self.now from.picture none from.component (from.x +ℤ pos i) (from.y +ℤ pos j)
