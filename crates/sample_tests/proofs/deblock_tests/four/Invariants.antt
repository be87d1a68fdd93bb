use Rattle.deblock.specs.Samples.{IsBounded}
use Rattle.sample_tests.proofs.deblock_tests.four.Given as goal

abbrev pub invariant-loop-k : goal.invariant-loop-k
invariant-loop-k l = IsBounded 255 l.lines
