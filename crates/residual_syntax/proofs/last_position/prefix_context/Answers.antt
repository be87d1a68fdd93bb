use Rattle.residual_syntax.proofs.Positions.{prefix_contexts}
use Rattle.residual_syntax.proofs.last_position.prefix_context.Goals as goal

pub returns-then-block-eq0-clause-small : goal.returns-then-block-eq0-clause-small
returns-then-block-eq0-clause-small c =
    (prefix_contexts c.args.block.log2 c.args.i c.requires.least c.requires.greatest c.requires.bin).luma

pub returns-else-block-eq0-clause-small : goal.returns-else-block-eq0-clause-small
returns-else-block-eq0-clause-small c =
    (prefix_contexts c.args.block.log2 c.args.i c.requires.least c.requires.greatest c.requires.bin).chroma
