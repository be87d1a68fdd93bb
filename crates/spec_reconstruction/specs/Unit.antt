-- The samples of a coding tree unit by what was read of it (8.4.4.1, 8.5.3.3, 8.6.5).
use Rattle.std.specs.Prelude.{ℕ, ◌*◌, ◌^◌, false, List, [], ◌∷◌, if◌then◌else◌}
use Rattle.ctu_records.specs.declared.item.CodedBlock.{CodedBlock}
use Rattle.ctu_records.specs.declared.item.CodingUnit.{CodingUnit}
use Rattle.ctu_records.specs.declared.item.Item.{Item}
use Rattle.ctu_records.specs.declared.item.Item.TheVariants.{Unit, Luma, Chroma, Prediction, Pcm, Sample, Transform}
use Rattle.ctu_records.specs.declared.item.Item.TheVariants.{Delta, Block, Level}
use Rattle.ctu_records.specs.declared.item.Square.{Square}
use Rattle.ctu_records.specs.Tree.{luma_mode_at, qp_at}
use Rattle.spec_reconstruction.specs.declared.format.UnitFormat.{UnitFormat}
use Rattle.spec_reconstruction.specs.declared.unit_mode.UnitMode.{UnitMode}
use Rattle.spec_reconstruction.specs.Inter.{InterUnit, prediction_laid}
use Rattle.spec_reconstruction.specs.Known.{Known, constructed}
use Rattle.spec_reconstruction.specs.Parameters.{depth_of}
use Rattle.spec_reconstruction.specs.Prediction.{unit_predicted}
use Rattle.spec_reconstruction.specs.Pulses.{pulses_laid}
use Rattle.spec_reconstruction.specs.Residuals.{residuals_behind}
use Rattle.spec_slice_data.specs.Residual.{samples_of_place}

-- how the coding unit is coded, its IntraPredModeC, and the samples that are known
pub record Building : Type 0 where
  pub mode : UnitMode
  pub chroma_mode : ℕ
  pub known : Known

-- before the first item
abbrev pub before_unit : Known → Building
before_unit known =
    record { mode = record { transquant_bypass = false; intra = false }; chroma_mode = 0; known = known }

-- with other samples
abbrev pub with_known : Building → Known → Building
with_known building known = record { mode = building.mode; chroma_mode = building.chroma_mode; known = known }

-- what a coding unit says of its samples
abbrev pub mode_of : CodingUnit → UnitMode
mode_of unit = record { transquant_bypass = unit.transquant_bypass; intra = unit.intra }

-- the residuals of a block are added to its predicted samples
unfoldable pub block_constructed : UnitFormat → List Item → UnitMode → CodedBlock → List Item → Known → Known
block_constructed format all mode block items =
    constructed (depth_of format block.component) block.component (samples_of_place block.component * block.x)
    (samples_of_place block.component * block.y) (2 ^ block.log2_size)
    (residuals_behind format mode block (qp_at all block.x block.y) items)

-- the blocks of a transform unit of an intra coding unit are predicted; those of an inter one were with their
-- prediction units
abbrev pub transform_predicted : UnitFormat → InterUnit → List Item → Building → Square → Known
transform_predicted format inter all building square =
    if building.mode.intra
    then unit_predicted format inter.motion (luma_mode_at all square.x square.y) building.chroma_mode
    square building.known
    else building.known

-- an item of a unit of which all was read, with the items behind it: a transform unit's blocks are predicted from what
-- is known so far, and each of its coded blocks is constructed behind that
abbrev pub item_built : UnitFormat → InterUnit → List Item → Building → Item → List Item → Building
item_built format inter all building (Unit unit) items =
    record { mode = mode_of unit; chroma_mode = building.chroma_mode; known = building.known }
item_built format inter all building (Luma luma) items = building
item_built format inter all building (Chroma mode) items =
    record { mode = building.mode; chroma_mode = mode; known = building.known }
item_built format inter all building (Prediction unit) items =
    with_known building (prediction_laid format inter unit building.known)
item_built format inter all building (Pcm square) items =
    with_known building (pulses_laid format square items building.known)
item_built format inter all building (Sample value) items = building
item_built format inter all building (Transform unit) items =
    with_known building (transform_predicted format inter all building unit.square)
item_built format inter all building (Delta delta) items = building
item_built format inter all building (Block block) items =
    with_known building (block_constructed format all building.mode block items building.known)
item_built format inter all building (Level place value) items = building

-- items in reading order, of a unit of which all was read
unfoldable pub items_built : UnitFormat → InterUnit → List Item → List Item → Building → Building
items_built format inter all [] building = building
items_built format inter all (item ∷ items) building =
    items_built format inter all items (item_built format inter all building item items)

-- the samples that are known once a unit is built, by those known before it
unfoldable pub unit_built : UnitFormat → InterUnit → List Item → Known → Known
unit_built format inter items known = (items_built format inter items items (before_unit known)).known
