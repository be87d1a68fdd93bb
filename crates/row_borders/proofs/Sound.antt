-- What items that are sound are in the range of.
use Rattle.std.proofs.Common.{ℕ, ◌≤◌, List, get_or, arith}
use Rattle.std.specs.List.{All}
use Rattle.ctu_records.specs.declared.item.Item.{Item}
use Rattle.ctu_records.specs.declared.item.Item.TheVariants.{Prediction}
use Rattle.ctu_records.specs.declared.prediction.PartMode.{PartMode}
use Rattle.ctu_records.specs.declared.prediction.PartMode.TheVariants.{Whole, TwoNxN, Nx2N, NxN, TwoNxnU, TwoNxnD}
use Rattle.ctu_records.specs.declared.prediction.PartMode.TheVariants.{NLx2N, NRx2N}
use Rattle.ctu_records.specs.declared.prediction.PredictionUnit.{PredictionUnit}
use Rattle.ctu_records.specs.Tree.{qp_at}
use Rattle.spec_motion.specs.Derivation.{IsPlaced}
use Rattle.spec_motion.specs.Units.{IsPlacedItem}
use Rattle.spec_reconstruction.specs.declared.format.UnitFormat.{UnitFormat}
use Rattle.spec_reconstruction.specs.Sound.{AreSound, IsPrediction, IsSound}
use Rattle.spec_slice_data.specs.Inter.{part_count}
use Rattle.spec_transforms.specs.Scaling.{IsDepth}

few_parts : (mode : PartMode) → part_count mode ≤ 4
unfolding part_count
few_parts Whole = omega arith
few_parts TwoNxN = omega arith
few_parts Nx2N = omega arith
few_parts NxN = omega arith
few_parts TwoNxnU = omega arith
few_parts TwoNxnD = omega arith
few_parts NLx2N = omega arith
few_parts NRx2N = omega arith

placed : (unit : PredictionUnit) → IsPrediction unit → IsPlaced unit
placed unit is =
    let few = few_parts unit.part_mode in
    record { few = is.placed.size; column = is.placed.x; row = is.placed.y; part = omega (arith, few, is.part) }

item_placed : (format : UnitFormat) (item : Item) → IsSound format item → IsPlacedItem item
item_placed format (Prediction unit) is = placed unit is
item_placed format other is = tt

-- prediction units lie in the unit
pub all_placed : (format : UnitFormat) (items : List Item) → AreSound format items → All IsPlacedItem items
all_placed format items sound = λ k d lt. item_placed format (get_or items k d) (sound.each k d lt)

-- Qp'Y fits in 7 bits
pub few_parameters : (format : UnitFormat) (items : List Item) → IsDepth format.luma_depth → AreSound format items
    → (i j : ℕ) → qp_at items i j ≤ 127
few_parameters format items depth sound i j =
    let most = sound.parameters i j in
    let deep = depth.1 in
    omega (arith, most, deep)
