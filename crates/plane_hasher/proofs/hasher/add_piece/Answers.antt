use Rattle.std.proofs.Common.{List, ℕ, ◌++◌, subst}
use Rattle.md5.specs.Md5.{Holds}
use Rattle.plane_hasher.proofs.Adding.{narrowed}
use Rattle.plane_hasher.proofs.hasher.add_piece.Goals as goal

pub returns-clause-held : goal.returns-clause-held
returns-clause-held c = λ m held.
    subst (λ (bytes : List ℕ). Holds c.update.new.self (m ++ bytes))
    (narrowed c.args.depth c.args.samples.now c.narrow.new.bytes c.requires.depth c.narrow.ensures.count
    c.narrow.ensures.value)
    (c.update.ensures m held)
