use Rattle.std.proofs.Common.{rules, arith}
use Rattle.ctu_build.proofs.Indices.{parameter_is}
use Rattle.ctu_build.proofs.parameters.parameter_of.Goals as goal

pub returns-else-c-eq0-clause-value : goal.returns-else-c-eq0-clause-value
returns-else-c-eq0-clause-value c =
    parameter_is c.args.format.now c.args.c c.args.qp c.depth_offset.result c.depth_offset-else-c-eq0.result
    c.chroma_parameter.result c.chroma_offset.result c.chroma_index-index.result
    (search rules) (omega (arith, c.ranges.qp.fits)) c.depth_offset.ensures.few c.depth_offset-else-c-eq0.ensures.few
    c.depth_offset.ensures.value c.depth_offset-else-c-eq0.ensures.value c.chroma_offset.ensures (search rules)
    (search rules)
