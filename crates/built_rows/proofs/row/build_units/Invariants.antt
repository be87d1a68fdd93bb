use Rattle.built_rows.proofs.Columns.{IsBefore}
use Rattle.built_rows.proofs.row.build_units.Given as goal

abbrev pub invariant-loop-x : goal.invariant-loop-x
invariant-loop-x g l = IsBefore l.board l.picture l.line.row l.fn.start l.x l.pass l.builder
