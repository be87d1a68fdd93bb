use Rattle.std.proofs.Common.{◌≡◌, ◌+◌, ◌*◌, ◌+ℤ◌, pos, None, slice_get, rules, arith}
use Rattle.picture_build.proofs.Referring.{sample_nowhere}
use Rattle.picture_build.proofs.references.ReferencesRefWindow.window.Goals as goal

pub returns-in-None-clause-value : goal.returns-in-None-clause-value
returns-in-None-clause-value c = λ i j li lj.
    let none : slice_get c.args.self.now.bases.now c.args.from.picture ≡ None = search rules in
    sample_nowhere c.args.self.now.sps.now.format c.args.self.now.bases.now c.args.from.picture c.args.from.component
    (c.args.from.x +ℤ pos i) (c.args.from.y +ℤ pos j) _ none
    (c.clear_window.ensures.value (72 * j + i) (omega (arith, c.requires.size)))
