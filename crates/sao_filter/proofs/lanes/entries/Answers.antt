use Rattle.std.proofs.Common.{◌<◌, arith, refl, ◌∙◌}
use Rattle.sao_filter.specs.Row.{at}
use Rattle.sao_filter.proofs.Lane.{given, plus}
use Rattle.sao_filter.proofs.Moved.{entry_is}
use Rattle.sao_filter.proofs.lanes.entries.Goals as goal

pub returns-clause-long : goal.returns-clause-long
returns-clause-long c =
    let lt : 0 < 8 = omega arith in
    let l1 = plus lt (given c.where_is.ensures.long refl) (given c.where_is-2.ensures.long refl) in
    let l2 = plus lt l1 (given c.where_is-3.ensures.long refl) in
    let l3 = plus lt l2 (given c.where_is-4.ensures.long refl) in
    let l4 = plus lt l3 (given c.where_is-5.ensures.long refl) in
    l4.long

pub returns-clause-value : goal.returns-clause-value
returns-clause-value c k lt =
    let l1 = plus lt (given c.where_is.ensures.long (c.where_is.ensures.value k lt))
    (given c.where_is-2.ensures.long (c.where_is-2.ensures.value k lt)) in
    let l2 = plus lt l1 (given c.where_is-3.ensures.long (c.where_is-3.ensures.value k lt)) in
    let l3 = plus lt l2 (given c.where_is-4.ensures.long (c.where_is-4.ensures.value k lt)) in
    let l4 = plus lt l3 (given c.where_is-5.ensures.long (c.where_is-5.ensures.value k lt)) in
    l4.is
    ∙ entry_is c.args.table.now (at c.args.places k) (c.requires k lt)
    (omega (arith, c.where_is.ensures.small k lt, c.where_is.ensures.value k lt))
    (omega (arith, c.where_is-2.ensures.small k lt, c.where_is-2.ensures.value k lt))
    (omega (arith, c.where_is-3.ensures.small k lt, c.where_is-3.ensures.value k lt))
    (omega (arith, c.where_is-4.ensures.small k lt, c.where_is-4.ensures.value k lt))
    (omega (arith, c.where_is-5.ensures.small k lt, c.where_is-5.ensures.value k lt))
