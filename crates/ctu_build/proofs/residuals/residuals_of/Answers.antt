use Rattle.ctu_build.proofs.Transforming.{skipped_block, transformed_block}
use Rattle.ctu_build.proofs.residuals.residuals_of.Goals as goal

pub returns-then-block-clause-value : goal.returns-then-block-clause-value
returns-then-block-clause-value c =
    skipped_block c.args.format.now c.args.coded.mode c.args.coded.block c.args.coded.qp _ _ _
    c.requires.bypass c.if-block.true c.read_coefficients.ensures.value c.skip_transform.ensures.value

pub returns-else-block-clause-value : goal.returns-else-block-clause-value
returns-else-block-clause-value c =
    transformed_block c.args.format.now c.args.coded.mode c.args.coded.block c.args.coded.qp _ _ _
    c.requires.bypass c.if-block.false c.read_coefficients.ensures.value c.transform.ensures.value
