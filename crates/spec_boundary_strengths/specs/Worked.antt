-- Worked cases: vectors into pictures, and a coding unit of 16x16 luma samples in two parts beside each other.
use Rattle.std.specs.Prelude.{ℕ, ℤ, pos, true, false, nat_lt, List, [], ◌∷◌, Some, None, if◌then◌else◌}
use Rattle.ctu_records.specs.declared.item.CodingUnit.{CodingUnit}
use Rattle.ctu_records.specs.declared.item.Item.{Item}
use Rattle.ctu_records.specs.declared.item.Item.TheVariants.{Unit, Prediction}
use Rattle.ctu_records.specs.declared.item.Square.{Square}
use Rattle.ctu_records.specs.declared.prediction.MotionSyntax.TheVariants.{Merge}
use Rattle.ctu_records.specs.declared.prediction.PartMode.TheVariants.{Nx2N}
use Rattle.ctu_records.specs.declared.prediction.PredictionUnit.{PredictionUnit}
use Rattle.picture_buffer.specs.declared.place_motion.PlaceMotion.{PlaceMotion}
use Rattle.picture_buffer.specs.declared.place_motion.PlaceVector.{PlaceVector}
use Rattle.spec_boundary_strengths.specs.Strengths.{Beside}

-- a vector by a reference index into a picture
unfoldable pub vector_into : ℕ → ℕ → ℤ → PlaceVector
vector_into index picture x = record {
  vector = record { mv = record { x = x; y = pos 0 }; ref_idx = index };
  reference = record { picture = picture; order = pos 0; long_term = false };
}

-- motion by list 0 alone
unfoldable pub by_one : PlaceVector → PlaceMotion
by_one v = record { list_0 = Some v; list_1 = None }

-- motion by list 1 alone
unfoldable pub by_other : PlaceVector → PlaceMotion
by_other v = record { list_0 = None; list_1 = Some v }

-- motion by both lists
unfoldable pub by_both : PlaceVector → PlaceVector → PlaceMotion
by_both v w = record { list_0 = Some v; list_1 = Some w }

-- a unit of 16x16 luma samples
unfoldable pub whole_square : Square
whole_square = record { x = 0; y = 0; log2_size = 2 }

-- a coding unit that is skipped
unfoldable pub skipped_unit : CodingUnit
skipped_unit = record {
  square = whole_square;
  depth = 0;
  transquant_bypass = false;
  skipped = false;
  intra = false;
  qp_predicted = 26;
  qp = 26;
}

-- one of its two parts, side by side
unfoldable pub half : ℕ → PredictionUnit
half part = record { unit = whole_square; part_mode = Nx2N; part = part; motion = Merge 0 }

-- what is read of a unit in two parts
unfoldable pub two_parts : List Item
two_parts = Unit skipped_unit ∷ Prediction (half 0) ∷ Prediction (half 1) ∷ []

-- the left part by no movement, the right one by a whole sample
unfoldable pub beside_parts : Beside
beside_parts = record {
  motion = λ column row. Some (by_one (vector_into 0 1 (if nat_lt column 3 then pos 0 else pos 4)));
  coded = λ column row. false;
  left = true;
  top = false;
  disabled = false;
}
