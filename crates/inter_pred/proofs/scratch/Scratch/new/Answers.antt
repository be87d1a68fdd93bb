use Rattle.std.proofs.Common.{refl, arith}
use Rattle.inter_pred.specs.Passes.{IsByte, IsMiddle, IsRaised}
use Rattle.inter_pred.proofs.Zeros.{zeros_all}
use Rattle.inter_pred.proofs.scratch.Scratch.new.Goals as goal

pub invariant_of-result : goal.invariant_of-result
invariant_of-result c = record {
  invariant = (
    zeros_all IsRaised 5112 _ refl (omega arith),
    zeros_all IsByte 5112 _ refl (omega arith),
    zeros_all IsMiddle 4544 _ refl (omega arith),
  );
}
