use Rattle.std.proofs.Common.{refl}
use Rattle.spec_transforms.specs.Matrices.{entry}
use Rattle.residual_transform.proofs.Tables.{cosines_of_size}
use Rattle.residual_transform.proofs.matrix.cosine_matrix.Goals as goal

pub returns-clause-value : goal.returns-clause-value
unfolding entry
returns-clause-value c = refl

pub returns-clause-matrix : goal.returns-clause-matrix
returns-clause-matrix c =
    cosines_of_size c.args.log2 c.size_of-size.result c.size_of-size.ensures.value c.requires.0 c.requires.1
