use Rattle.std.proofs.Common.{rules}
use Rattle.flight_windows.proofs.Flags.{marked}
use Rattle.flight_windows.proofs.seen_rows.SeenRows.add.Goals as goal

pub returns-then-row-self-clause-rows : goal.returns-then-row-self-clause-rows
returns-then-row-self-clause-rows c =
    rw (← c.self.view_is) (marked c.self.inside.pictures c.self.inside.rows c.args.picture c.args.row
    c.self.inside.flags.items c.self.invariant (search rules) (search rules))
