-- The samples of a unit depend on the pictures where its prediction units read them.
use Rattle.std.proofs.Common.{◌≡◌, ℕ, suc, ◌+◌, ◌-◌, ◌*◌, ◌==◌, ◌&&◌, Bool, true, false, Option, Some, None, List, []}
use Rattle.std.proofs.Common.{◌∷◌, All}
use Rattle.std.proofs.Common.{refl, sym, ap, ◌∙◌, if◌then◌else◌, arith}
use Rattle.std.proofs.lemmas.Bool.{and_parts}
use Rattle.ctu_records.specs.declared.item.Item.{Item}
use Rattle.ctu_records.specs.declared.item.Item.TheVariants.{Unit, Luma, Chroma, Prediction, Pcm, Sample, Transform}
use Rattle.ctu_records.specs.declared.item.Item.TheVariants.{Delta, Block, Level}
use Rattle.ctu_records.specs.declared.prediction.PredictionUnit.{PredictionUnit}
use Rattle.ctu_records.specs.declared.prediction.Rectangle.{Rectangle}
use Rattle.ctu_records.specs.Prediction.{is_inside, part_block, rectangle}
use Rattle.spec_motion.specs.declared.vectors.Motion.{Motion}
use Rattle.spec_picture_build.specs.SpecReconstruction.{UnitFormat}
use Rattle.spec_picture_build.specs.SpecReconstruction.{InterUnit, Pictures, block_predicted_by, component_predicted}
use Rattle.spec_picture_build.specs.SpecReconstruction.{inter_sample}
use Rattle.spec_picture_build.specs.SpecReconstruction.{prediction_laid, rectangle_laid, samples_of}
use Rattle.spec_picture_build.specs.SpecReconstruction.{Known}
use Rattle.spec_picture_build.specs.SpecReconstruction.{Building, before_unit, item_built, items_built, unit_built}
use Rattle.picture_layout.specs.SpecSliceData.{samples_of_place}
use Rattle.locality_laws.specs.References.{ReadsSame, SamplesSame, part_of, with_pictures}

some_if : (b : Bool) (x y : ℕ) (k : Option ℕ) → (b ≡ true → x ≡ y)
    → (if b then Some x else k) ≡ (if b then Some y else k)
some_if true x y k e = ap Some (e refl)
some_if false x y k e = refl

module _ (format : UnitFormat) (inter : InterUnit) (f g : Pictures) where
  abbrev F : InterUnit
  F = with_pictures inter f

  abbrev G : InterUnit
  G = with_pictures inter g

  laid_same : (c : ℕ) (block : Rectangle) (s t : ℕ → ℕ → ℕ) (known : Known)
      → ((column line : ℕ) → is_inside (part_of block) column line ≡ true
      → s (column - 1) (line - 1) ≡ t (column - 1) (line - 1))
      → rectangle_laid c block s known ≡ rectangle_laid c block t known
  unfolding rectangle_laid
  laid_same c block s t known same i component column line =
      some_if (component == c && is_inside (part_of block) column line) (s (column - 1) (line - 1))
      (t (column - 1) (line - 1))
      (known component column line) (λ e. same column line (and_parts _ _ e).1) i

  component_same : (block : Rectangle) (m : Motion) (c : ℕ) (known : Known) → SamplesSame format inter f g block m
      → component_predicted format F block m c known ≡ component_predicted format G block m c known
  unfolding component_predicted
  component_same block m c known same =
      laid_same c (samples_of c block) _ _ known (λ column line e. same c column line e)

  block_same : (block : Rectangle) (o : Option Motion) (known : Known)
      → ((m : Motion) → o ≡ Some m → SamplesSame format inter f g block m)
      → block_predicted_by format F block o known ≡ block_predicted_by format G block o known
  block_same block None known same = refl
  block_same block (Some m) known same =
      let is = same m refl in
      ap (λ k. component_predicted format F block m 2 (component_predicted format F block m 1 k))
      (component_same block m 0 known is)
      ∙ ap (λ k. component_predicted format F block m 2 k) (component_same block m 1 _ is)
      ∙ component_same block m 2 _ is

  prediction_same : (unit : PredictionUnit) (known : Known) → ReadsSame format inter f g (Prediction unit)
      → prediction_laid format F unit known ≡ prediction_laid format G unit known
  unfolding prediction_laid
  prediction_same unit known same =
      let block : Rectangle = part_block unit.unit unit.part_mode unit.part in
      block_same block (inter.motion (block.x + 1) (block.y + 1)) known same

  item_same : (all : List Item) (building : Building) (item : Item) (items : List Item)
      → ReadsSame format inter f g item
      → item_built format F all building item items ≡ item_built format G all building item items
  item_same all building (Unit unit) items same = refl
  item_same all building (Luma luma) items same = refl
  item_same all building (Chroma mode) items same = refl
  item_same all building (Prediction unit) items same =
      ap (λ (k : Known). record { mode = building.mode; chroma_mode = building.chroma_mode; known = k })
      (prediction_same unit building.known same)
  item_same all building (Pcm square) items same = refl
  item_same all building (Sample value) items same = refl
  item_same all building (Transform unit) items same = refl
  item_same all building (Delta delta) items same = refl
  item_same all building (Block block) items same = refl
  item_same all building (Level place value) items same = refl

  items_same : (all items : List Item) (building : Building) → All (ReadsSame format inter f g) items
      → items_built format F all items building ≡ items_built format G all items building
  unfolding items_built
  items_same all [] building same = refl
  items_same all (item ∷ items) building same =
      ap (items_built format F all items) (item_same all building item items (same 0 item (omega arith)))
      ∙ items_same all items (item_built format G all building item items) (λ k d inside. same (suc k) d (omega arith))

  pub unit_same : (items : List Item) (known : Known) → All (ReadsSame format inter f g) items
      → unit_built format F items known ≡ unit_built format G items known
  unfolding unit_built
  unit_same items known same = ap (λ (b : Building). b.known) (items_same items items (before_unit known) same)
