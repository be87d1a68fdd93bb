use Rattle.std.proofs.Common.{rules, ◌≡◌, pos, length, arith}
use Rattle.std.proofs.lemmas.Int.{ints, to_z-of_z}
use Rattle.std.specs.Int.RustNames.{unsigned_abs}
use mir.Val.{SFits}
use mir.Syntax.{w32}
use Rattle.inter_pred.proofs.Inside.{clamped_inside}
use Rattle.inter_pred.proofs.line.held_line.Goals as goal

pub returns-then-x-out : goal.returns-then-x-out
returns-then-x-out c k lt =
    let f : SFits w32 c.args.x = search rules in
    let e : c.args.x ≡ pos (unsigned_abs c.args.x) = omega (arith, ints) in
    rw e (grind (
      arith,
      to_z-of_z,
      c.copy_line.ensures k lt,
      clamped_inside (unsigned_abs c.args.x) k (length c.args.line.now),
    ))
