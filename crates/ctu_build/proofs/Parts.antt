-- The parts of coding units.
use Rattle.std.proofs.Common.{◌≤◌, arith}
use Rattle.ctu_records.specs.declared.prediction.PartMode.{PartMode}
use Rattle.ctu_records.specs.declared.prediction.PartMode.TheVariants.{Whole, TwoNxN, Nx2N, NxN, TwoNxnU, TwoNxnD}
use Rattle.ctu_records.specs.declared.prediction.PartMode.TheVariants.{NLx2N, NRx2N}
use Rattle.ctu_records.specs.declared.prediction.PredictionUnit.{PredictionUnit}
use Rattle.spec_motion.specs.Derivation.{IsPlaced}
use Rattle.spec_reconstruction.specs.Sound.{IsPrediction}
use Rattle.spec_reconstruction.specs.SpecSliceData.{part_count}

count_few : (mode : PartMode) → part_count mode ≤ 4
unfolding part_count
count_few Whole = omega arith
count_few TwoNxN = omega arith
count_few Nx2N = omega arith
count_few NxN = omega arith
count_few TwoNxnU = omega arith
count_few TwoNxnD = omega arith
count_few NLx2N = omega arith
count_few NRx2N = omega arith

-- a sound prediction unit lies in the greatest unit
pub prediction_placed : (unit : PredictionUnit) → IsPrediction unit → IsPlaced unit
prediction_placed unit sound =
    let few = count_few unit.part_mode in
    record {
      few = sound.placed.size;
      column = sound.placed.x;
      row = sound.placed.y;
      part = omega (arith, few, sound.part);
    }
