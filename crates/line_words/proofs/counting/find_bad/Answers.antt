use Rattle.progress_words.specs.Passes.{view}
use Rattle.rule_numbers.specs.Rules.{rule_number}
use Rattle.line_words.proofs.Bad.{bad_next}
use Rattle.line_words.proofs.counting.find_bad.Goals as goal

pub fault-requires-clause-next : goal.fault-requires-clause-next
fault-requires-clause-next g c =
    let key = c.args.board.now.flight in
    let must = c.requires in
    bad_next (g.F.Facts.meaning key) (g.F.RowFacts.flight key) (g.met.F.RowFacts.meant key) c.args.at.now must.flight
    c.unit_number.ensures.unit (rule_number c.args.breach) must.unsound must.rule (view c.args.pass.now) must.job
    must.unit must.met c.unit_number.result c.rule_number.result c.unit_number.ensures.value
    c.rule_number.ensures.value
