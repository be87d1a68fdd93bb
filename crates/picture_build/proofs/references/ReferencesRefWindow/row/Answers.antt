use Rattle.std.proofs.Common.{◌≡◌, ◌+ℤ◌, pos, None, slice_get, rules}
use Rattle.picture_build.proofs.Referring.{sample_nowhere}
use Rattle.picture_build.proofs.references.ReferencesRefWindow.row.Goals as goal

pub returns-in-None-clause-value : goal.returns-in-None-clause-value
returns-in-None-clause-value c = λ k lt.
    let none : slice_get c.args.self.now.bases.now c.args.picture ≡ None = search rules in
    sample_nowhere c.args.self.now.sps.now.format c.args.self.now.bases.now c.args.picture c.args.component
    (c.args.x +ℤ pos k) c.args.y _ none
    (c.clear.ensures k lt)
