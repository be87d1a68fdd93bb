use Rattle.std.proofs.Common.{pos, negsuc, replicate, arith}
use Rattle.std.proofs.lemmas.Int.{ints}
use Rattle.std.proofs.lemmas.List.Elements.{All-set, All-replicate}
use Rattle.spec_transforms.specs.Scaling.{Is16}
use Rattle.sample_tests.proofs.residual_transform_tests.are_blocks_constant.Goals as goal

pub inverse-requires-clause-coefficients : goal.inverse-requires-clause-coefficients
inverse-requires-clause-coefficients c =
    All-set Is16 (replicate 64 (pos 0)) 0 (pos 64) (omega (arith, ints), omega (arith, ints))
    (All-replicate Is16 64 (pos 0) (omega (arith, ints), omega (arith, ints)))

pub inverse-requires-2-clause-coefficients : goal.inverse-requires-2-clause-coefficients
inverse-requires-2-clause-coefficients c =
    All-set Is16 (replicate 64 (pos 0)) 0 (negsuc 63) (omega (arith, ints), omega (arith, ints))
    (All-replicate Is16 64 (pos 0) (omega (arith, ints), omega (arith, ints)))
