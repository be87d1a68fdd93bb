use Rattle.std.proofs.Common.{arith, ◌∙◌}
use Rattle.sao_filter.specs.Row.{at}
use Rattle.sao_filter.proofs.Lane.{given, minus, plus, splat}
use Rattle.sao_filter.proofs.Moved.{one_at_most, signs_are}
use Rattle.sao_filter.proofs.lanes.signs.Goals as goal

pub returns-clause-value : goal.returns-clause-value
returns-clause-value c k lt =
    let a = one_at_most (at c.args.samples k) (at c.args.first k) in
    let b = one_at_most (at c.args.samples k) (at c.args.second k) in
    let l1 = minus lt (splat lt 2) (given c.at_most.ensures.long (c.at_most.ensures.value k lt)) (omega arith)
    (omega (arith, a)) in
    let l2 = minus lt l1 (given c.at_most-2.ensures.long (c.at_most-2.ensures.value k lt)) (omega arith)
    (omega (arith, a, b)) in
    let l3 = plus lt l2 (given c.at_most-3.ensures.long (c.at_most-3.ensures.value k lt)) in
    let l4 = plus lt l3 (given c.at_most-4.ensures.long (c.at_most-4.ensures.value k lt)) in
    l4.is ∙ signs_are (at c.args.samples k) (at c.args.first k) (at c.args.second k)
