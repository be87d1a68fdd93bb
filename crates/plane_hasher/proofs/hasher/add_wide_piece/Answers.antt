use Rattle.std.proofs.Common.{List, ℕ, ◌++◌, subst}
use Rattle.md5.specs.Md5.{Holds}
use Rattle.plane_hasher.proofs.Adding.{widened}
use Rattle.plane_hasher.proofs.hasher.add_wide_piece.Goals as goal

pub returns-clause-held : goal.returns-clause-held
returns-clause-held c = λ m held.
    subst (λ (bytes : List ℕ). Holds c.update.new.self (m ++ bytes))
    (widened c.args.depth c.args.samples.now c.widen.new.bytes c.requires.depth c.widen.ensures.count
    c.widen.ensures.low c.widen.ensures.high)
    (c.update.ensures m held)
