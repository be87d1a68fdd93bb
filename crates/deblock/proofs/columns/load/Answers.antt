use Rattle.std.proofs.lemmas.Simd.{get_or-chunk}
use Rattle.deblock.proofs.columns.load.Goals as goal

pub returns : goal.returns
returns c = record { value = λ k lt. get_or-chunk c.args.start 8 c.args.samples.now k 0 lt }
