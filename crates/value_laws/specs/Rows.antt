-- What the rows begin from, and what they give.
use Rattle.std.specs.Prelude.{ℕ, ◌/◌, ◌%◌, ◌==◌, true, false, ◌&&◌, ℤ, pos, negsuc, List, [], ◌∷◌, ◌++◌}
use Rattle.std.specs.Prelude.{map, replicate, if◌then◌else◌}
use Rattle.std.specs.List.{range_with_len}
use Rattle.ctu_records.specs.declared.offset.ComponentOffset.TheVariants.{Edge}
use Rattle.spec_inter_prediction.specs.declared.weighting.Weighting.{Weighting}
use Rattle.spec_inter_prediction.specs.declared.weighting.Weighting.TheVariants.{Explicit}
use Rattle.spec_sample_adaptive_offset.specs.Plane.{OffsetPlane}
use Rattle.spec_transforms.specs.Transforms.{Block}

-- a block whose first coefficient alone isn't 0
unfoldable pub dc_alone : ℤ → Block
dc_alone value x y = if x == 0 && y == 0 then value else pos 0

-- the values of a block of 8x8, row by row
unfoldable pub eight_by_eight : Block → List ℤ
eight_by_eight block = map (λ i. block (i % 8) (i / 8)) (range_with_len 0 64)

-- one value everywhere
unfoldable pub flat : ℤ → List ℤ
flat value = replicate 64 value

-- 100 on the left of a block of 8x8 and below, and 120 above it and to the right
unfoldable pub neighbours : ℕ → List ℕ
neighbours corner = replicate 16 100 ++ corner ∷ replicate 16 120

-- the samples of a block of 8x8, row by row
unfoldable pub dc_block : (ℕ → ℕ → ℕ) → List ℕ
dc_block block = map (λ i. block (i % 8) (i / 8)) (range_with_len 0 64)

unfoldable pub levelled_row : List ℕ
levelled_row = 108 ∷ replicate 7 110

unfoldable pub levelled_block : List ℕ
levelled_block =
    (110 ∷ replicate 7 113) ++ levelled_row ++ levelled_row ++ levelled_row ++ levelled_row ++ levelled_row
    ++ levelled_row ++ levelled_row

-- three samples of a line, by column
unfoldable pub valley : ℕ → ℕ → ℕ
valley x y = if x == 1 then 8 else 10

-- a plane of one line of three, with the offsets 2, 1, -1 and -2 along the line
unfoldable pub valley_plane : OffsetPlane
valley_plane = record {
  width = 3;
  height = 1;
  ctb_size = 8;
  depth = 8;
  unit = λ column row. record {
    offset = Edge 0 (pos 2 ∷ pos 1 ∷ negsuc 0 ∷ negsuc 1 ∷ []);
    slice = 0;
    across = true;
  };
  kept = λ x y. false;
}

-- weight 1 in units of a half, and offset 3
unfoldable pub half_weight : Weighting
half_weight = Explicit (record {
  log2_denominator = 1;
  list0 = record { weight = pos 1; offset = pos 3 };
  list1 = record { weight = pos 1; offset = pos 3 };
})
