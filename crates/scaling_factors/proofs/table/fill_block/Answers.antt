use Rattle.std.proofs.Common.{rules, ◌∙◌}
use Rattle.scaling_factors.proofs.Tables.{past_lists, unlisted_rows}
use Rattle.scaling_factors.proofs.table.fill_block.Goals as goal

pub returns-in-None : goal.returns-in-None
returns-in-None c =
    let l = c.args.lists.now in
    let past =
    past_lists l.lists.now l.intra c.args.log2 c.args.c _ _ c.as_slice.ensures c.matrix_of.ensures.value
    (search rules) in
    c.fill.ensures.after (search rules) ∙ unlisted_rows l.lists.now l.intra c.args.log2 c.args.c _ past c.requires.room
