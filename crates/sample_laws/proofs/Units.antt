-- The items of a unit keep its samples in range.
use Rattle.std.proofs.Common.{ℕ, ◌+◌, ◌-◌, ◌*◌, ◌^◌, ◌≤◌, List, [], ◌∷◌, Option, Some, None, arith}
use Rattle.std.specs.Prelude.{◌==◌, ◌&&◌}
use Rattle.std.proofs.Math.Pow.{lt_of_le_ones}
use Rattle.ctu_records.specs.declared.item.CodedBlock.{CodedBlock}
use Rattle.ctu_records.specs.declared.item.Item.{Item}
use Rattle.ctu_records.specs.declared.item.Item.TheVariants.{Unit, Luma, Chroma, Prediction, Pcm, Sample, Transform}
use Rattle.ctu_records.specs.declared.item.Item.TheVariants.{Delta, Block, Level}
use Rattle.ctu_records.specs.declared.item.Square.{Square}
use Rattle.ctu_records.specs.Tree.{luma_mode_at}
use Rattle.spec_motion.specs.Vectors as motion
use Rattle.spec_intra_prediction.specs.Neighbours.{beside}
use Rattle.unit_laws.specs.SpecReconstruction.{UnitFormat}
use Rattle.unit_laws.specs.SpecReconstruction.{UnitMode}
use Rattle.unit_laws.specs.SpecReconstruction.{InterUnit}
use Rattle.unit_laws.specs.SpecReconstruction.{Known}
use Rattle.unit_laws.specs.SpecReconstruction.{depth_of}
use Rattle.unit_laws.specs.SpecReconstruction.{is_inter, offered, block_predicted, chroma_predicted, is_fourth}
use Rattle.unit_laws.specs.SpecReconstruction.{chroma_of_unit_predicted, unit_predicted}
use Rattle.unit_laws.specs.SpecReconstruction.{IsFormat, BeginsPulses, ArePulses}
use Rattle.unit_laws.specs.SpecReconstruction.{Building, before_unit, block_constructed, transform_predicted}
use Rattle.unit_laws.specs.SpecReconstruction.{item_built}
use Rattle.unit_laws.specs.SpecReconstruction.{items_built, unit_built}
use Rattle.unit_laws.specs.SpecSliceData.{whole_of_fourth}
use Rattle.sample_laws.specs.Ranges.{IsInRange, AreInRange}
use Rattle.sample_laws.proofs.Means.{case_holds}
use Rattle.sample_laws.proofs.Intra.{IsMost, beside_most, substituted_most, predicted_most}
use Rattle.sample_laws.proofs.Laying.{laid_in_range, constructed_in_range, prediction_in_range, pulses_in_range}

pub range_most : (depth : ℕ) (o : Option ℕ) → IsInRange depth o → IsMost (2 ^ depth - 1) o
range_most depth None is = tt
range_most depth (Some sample) is = omega (arith, is)

module _ (format : UnitFormat) (fits : IsFormat format) where
  depth_some : (c : ℕ) → 1 ≤ depth_of format c
  depth_some c =
      case_holds (λ d. 1 ≤ d) (c == 0) format.luma_depth format.chroma_depth
      (λ held. omega (arith, fits.luma.0)) (λ held. omega (arith, fits.chroma.0))

  offered_most : (motion : motion.Known) (known : Known) (c column line : ℕ) → AreInRange format known
      → IsMost (2 ^ depth_of format c - 1) (offered format motion known c column line)
  unfolding offered
  offered_most motion known c column line ranged =
      case_holds (IsMost (2 ^ depth_of format c - 1)) (format.constrained_intra && is_inter motion c column line) None
      (known c column line)
      (λ held. tt) (λ held. range_most (depth_of format c) (known c column line) (ranged c column line))

  block_in_range : (motion : motion.Known) (c log2 mode x y : ℕ) (known : Known) → AreInRange format known
      → AreInRange format (block_predicted format motion c log2 mode x y known)
  unfolding block_predicted
  block_in_range motion c log2 mode x y known ranged =
      let depth = depth_of format c in
      let low = substituted_most depth (beside (offered format motion known c) (2 ^ log2) x y) (depth_some c)
      (beside_most (2 ^ depth - 1) (offered format motion known c) (2 ^ log2) x y
      (λ column line. offered_most motion known c column line ranged)) in
      laid_in_range format c x y (2 ^ log2) _ known
      (λ i j column line. lt_of_le_ones depth
      (predicted_most c log2 mode format.strong_intra_smoothing depth _ i j column line low))
      ranged

  chroma_in_range : (motion : motion.Known) (mode : ℕ) (square : Square) (known : Known) → AreInRange format known
      → AreInRange format (chroma_predicted format motion mode square known)
  unfolding chroma_predicted
  chroma_in_range motion mode square known ranged =
      block_in_range motion 2 (square.log2_size + 1) mode (2 * square.x) (2 * square.y) _
      (block_in_range motion 1 (square.log2_size + 1) mode (2 * square.x) (2 * square.y) known ranged)

  chroma_of_unit_in_range : (motion : motion.Known) (mode : ℕ) (square : Square) (known : Known)
      → AreInRange format known → AreInRange format (chroma_of_unit_predicted format motion mode square known)
  unfolding chroma_of_unit_predicted
  chroma_of_unit_in_range motion mode square known ranged =
      case_holds (AreInRange format) (square.log2_size == 0) _ _
      (λ small. case_holds (AreInRange format) (is_fourth square) _ known
      (λ fourth. chroma_in_range motion mode (whole_of_fourth square) known ranged) (λ other. ranged))
      (λ greater. chroma_in_range motion mode square known ranged)

  unit_predicted_in_range : (motion : motion.Known) (luma_mode chroma_mode : ℕ) (square : Square) (known : Known)
      → AreInRange format known → AreInRange format (unit_predicted format motion luma_mode chroma_mode square known)
  unfolding unit_predicted
  unit_predicted_in_range motion luma_mode chroma_mode square known ranged =
      chroma_of_unit_in_range motion chroma_mode square _
      (block_in_range motion 0 (square.log2_size + 2) luma_mode (4 * square.x) (4 * square.y) known ranged)

  transform_in_range : (inter : InterUnit) (all : List Item) (building : Building) (square : Square)
      → AreInRange format building.known → AreInRange format (transform_predicted format inter all building square)
  transform_in_range inter all building square ranged =
      case_holds (AreInRange format) building.mode.intra _ building.known
      (λ intra. unit_predicted_in_range inter.motion (luma_mode_at all square.x square.y) building.chroma_mode square
      building.known ranged)
      (λ other. ranged)

  coded_in_range : (all : List Item) (mode : UnitMode) (block : CodedBlock) (items : List Item) (known : Known)
      → AreInRange format known → AreInRange format (block_constructed format all mode block items known)
  unfolding block_constructed
  coded_in_range all mode block items known ranged =
      constructed_in_range format block.component _ _ (2 ^ block.log2_size) _ known ranged

  item_in_range : (inter : InterUnit) (all : List Item) (building : Building) (item : Item) (items : List Item)
      → BeginsPulses format item items → AreInRange format building.known
      → AreInRange format (item_built format inter all building item items).known
  item_in_range inter all building (Unit unit) items has ranged = ranged
  item_in_range inter all building (Luma luma) items has ranged = ranged
  item_in_range inter all building (Chroma mode) items has ranged = ranged
  item_in_range inter all building (Prediction unit) items has ranged =
      prediction_in_range format inter unit building.known ranged
  item_in_range inter all building (Pcm square) items has ranged =
      pulses_in_range format square items building.known fits has ranged
  item_in_range inter all building (Sample value) items has ranged = ranged
  item_in_range inter all building (Transform unit) items has ranged =
      transform_in_range inter all building unit.square ranged
  item_in_range inter all building (Delta delta) items has ranged = ranged
  item_in_range inter all building (Block block) items has ranged =
      coded_in_range all building.mode block items building.known ranged
  item_in_range inter all building (Level place value) items has ranged = ranged

  items_in_range : (inter : InterUnit) (all items : List Item) (building : Building) → ArePulses format items
      → AreInRange format building.known → AreInRange format (items_built format inter all items building).known
  unfolding items_built ArePulses
  items_in_range inter all [] building has ranged = ranged
  items_in_range inter all (item ∷ items) building has ranged =
      items_in_range inter all items (item_built format inter all building item items) has.1
      (item_in_range inter all building item items has.0 ranged)

  pub unit_in_range : (inter : InterUnit) (items : List Item) (known : Known) → ArePulses format items
      → AreInRange format known → AreInRange format (unit_built format inter items known)
  unfolding unit_built
  unit_in_range inter items known has ranged = items_in_range inter items items (before_unit known) has ranged
