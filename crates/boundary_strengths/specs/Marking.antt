-- One item more.
use Rattle.std.specs.Prelude.{◌≡◌, ℕ, ◌<◌, Bool, true, false, ◌||◌}
use Rattle.ctu_records.specs.declared.item.Item.{Item}
use Rattle.ctu_records.specs.declared.item.Item.TheVariants.{Unit, Prediction, Pcm, Transform}
use Rattle.ctu_records.specs.Places.{by_place}
use Rattle.spec_boundary_strengths.specs.Edges.{at_left, at_top, transform_block, prediction_block}
use Rattle.spec_boundary_strengths.specs.Places.{kept_laid}
use Rattle.spec_boundary_strengths.specs.Strengths.{coded_laid}
use Rattle.boundary_strengths.specs.declared.marks.Marks.{Marks}

-- what an item makes of marks
pub record IsAdded (pcm_disabled : Bool) (item : Item) (old new : Marks) : Type 0 where
  pub transform_left : (i j : ℕ) → i < 16 → j < 16
      → by_place false new.transform_left i j
      ≡ (by_place false old.transform_left i j || at_left i j (transform_block item))
  pub transform_top : (i j : ℕ) → i < 16 → j < 16
      → by_place false new.transform_top i j
      ≡ (by_place false old.transform_top i j || at_top i j (transform_block item))
  pub prediction_left : (i j : ℕ) → i < 16 → j < 16
      → by_place false new.prediction_left i j
      ≡ (by_place false old.prediction_left i j || at_left i j (prediction_block item))
  pub prediction_top : (i j : ℕ) → i < 16 → j < 16
      → by_place false new.prediction_top i j
      ≡ (by_place false old.prediction_top i j || at_top i j (prediction_block item))
  pub coded : (i j : ℕ) → i < 16 → j < 16
      → by_place false new.coded i j ≡ coded_laid (by_place false old.coded) item i j
  pub kept : (i j : ℕ) → i < 16 → j < 16
      → by_place false new.kept i j ≡ kept_laid pcm_disabled (by_place false old.kept) item i j

-- whether an item has no edge, is not coded, and keeps no samples
abbrev pub adds_nothing : Item → Bool
adds_nothing (Unit unit) = false
adds_nothing (Prediction unit) = false
adds_nothing (Pcm square) = false
adds_nothing (Transform unit) = false
adds_nothing other = true
