use Rattle.std.proofs.Common.{sym, arith}
use Rattle.std.proofs.lemmas.List.FromFn.{map-range_with_len_more}
use Rattle.spec_parameter_sets.specs.Scaling.{default_list}
use Rattle.param_sets.proofs.picture_scaling.default_lists_of.Goals as goal

pub loop-matrix-preserved : goal.loop-matrix-preserved
loop-matrix-preserved c =
    rw (c.in_ok-push.ensures.items, c.in_ok-list.ensures, c.loop-matrix.invariant)
    (sym (map-range_with_len_more (default_list c.args.size) 0 c.loop-matrix.matrix c.loop-matrix.matrix (omega arith)))
