use Rattle.std.proofs.Common.{◌+◌, ◌*◌, ◌∙◌, ◌&&◌, cond, nat_le, nat_lt, ap, rules}
use Rattle.picture_buffer.specs.declared.targets.OwnTargets.{OwnTargets}
use Rattle.picture_buffer.specs.Packed.{no_own}
use Rattle.picture_buffer.proofs.Own.{run_at}
use Rattle.picture_buffer.proofs.own_field.OwnField.put_run.Goals as goal

pub returns-clause-cells : goal.returns-clause-cells
returns-clause-cells c i j =
    rw (← c.self.view_is) (run_at c.self.inside.across c.self.inside.down c.args.x c.args.y c.args.count
    c.self.inside.cells.items c.fill.new.cells.items c.args.own no_own (search rules) (search rules)
    (λ q. c.fill.ensures.cells q
    ∙ ap (λ (o : OwnTargets). cond (nat_le (c.self.inside.across * c.args.y + c.args.x) q
    && nat_lt q (c.self.inside.across * c.args.y + c.args.x + c.args.count)) c.args.own o) (c.reach.ensures.same q))
    i j)
