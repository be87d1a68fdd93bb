use Rattle.std.proofs.Common.{refl, arith}
use Rattle.std.proofs.lemmas.Bool.Decides.{nat_tests}
use Rattle.ctu_build.proofs.Cells.{are_new, new_held}
use Rattle.ctu_build.proofs.unit_samples.UnitSamples.new.Goals as goal

pub returns : goal.returns
returns c = new_held 25155 _ refl

pub invariant_of-result : goal.invariant_of-result
invariant_of-result c = are_new 25155 _ _ _ refl refl (λ d. grind (arith, nat_tests))
