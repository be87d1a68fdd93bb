use Rattle.std.proofs.Common.{◌+◌, ◌-◌, ◌*◌, ℕ, replicate, slice_index_or}
use Rattle.std.proofs.lemmas.List.{get_or-replicate}
use Rattle.ctu_build.proofs.Runs.{none_above}
use Rattle.ctu_build.proofs.edge.write_group.Goals as goal

pub returns-clause-value : goal.returns-clause-value
returns-clause-value c = λ is.
    let b = c.args.beside.now in
    let last : ℕ = slice_index_or c.args.edge.now (4 * (b.groups + c.args.group) + 1 - 1) 0 in
    none_above b c.args.group (replicate 4 last) c.lay_line-2.new.values c.args.edge.now
    (c.some_across.ensures c.if-some_across.false) c.lay_line-2.ensures (λ j h. get_or-replicate 4 j last 0 h)
