-- The format of a picture whose sequence parameter set is in range.
use Rattle.std.proofs.Common.{◌≡◌, ℕ, zero, suc, ◌+◌, ◌-◌, ◌/◌, ◌%◌, ◌^◌, ◌<◌, ◌≤◌, ap, subst, sym, refl, ◌∙◌, arith}
use Rattle.header_types.specs.SequenceParameterSets.{IsSps, blocks_across, ctb_log2, ctb_size, height_in_ctbs}
use Rattle.header_types.specs.SequenceParameterSets.{width_in_ctbs}
use Rattle.loop_filters.specs.Formats.{IsFormat, columns_of, rows_of}
use Rattle.picture_buffer.specs.Planes.{HasSides, PictureSamples, plane_height, plane_width}
use Rattle.plan_types.specs.declared.picture_plan.PicturePlan.{PicturePlan}
use Rattle.spec_picture_filters.specs.SpecLoopFilters.{FilterFormat}
use Rattle.spec_picture_filters.specs.SpecLoopFilters.{height_of, width_of}
use Rattle.spec_picture_filters.specs.Filtered.{filter_format}

-- sides are multiples of the side of the least coding block
eights : (w m : ℕ) → m ≤ 3 → w % 2 ^ (m + 3) ≡ 0 → w % 8 ≡ 0
eights w zero few e = e
eights w (suc zero) few e = let f : w % 16 ≡ 0 = e in omega (arith, f)
eights w (suc (suc zero)) few e = let f : w % 32 ≡ 0 = e in omega (arith, f)
eights w (suc (suc (suc zero))) few e = let f : w % 64 ≡ 0 = e in omega (arith, f)
eights w (suc (suc (suc (suc m)))) few e = absurd (omega (arith, few))

-- the side of a coding tree block
record IsSide (side : ℕ) : Type 0 where
  range : (16 ≤ side) × (side ≤ 64)
  grid : side % 16 ≡ 0

fourth : (n : ℕ) → n ≤ 2 → IsSide (2 ^ (n + 4))
fourth zero few = record { range = (omega arith, omega arith); grid = refl }
fourth (suc zero) few = record { range = (omega arith, omega arith); grid = refl }
fourth (suc (suc zero)) few = record { range = (omega arith, omega arith); grid = refl }
fourth (suc (suc (suc n))) few = absurd (omega (arith, few))

sixteens : (m : ℕ) → 4 ≤ m → m ≤ 6 → IsSide (2 ^ m)
sixteens m least most =
    let e : m - 4 + 4 ≡ m = omega (arith, least) in
    subst (λ (k : ℕ). IsSide (2 ^ k)) e (fourth (m - 4) (omega (arith, most)))

size_is : (p : PicturePlan) → IsSps p.sps → IsSide (ctb_size p.sps)
size_is p s = sixteens (ctb_log2 p.sps.blocks) s.blocks.least_ctb s.blocks.greatest_ctb

least : (w : ℕ) → w % 8 ≡ 0 → 1 ≤ w → 8 ≤ w
least w e some = omega (arith, e, some)

depth : (n : ℕ) → n ≤ 2 → (8 ≤ n + 8) × (n + 8 ≤ 14)
depth n few = (omega arith, omega (arith, few))

format_is : (p : PicturePlan) → IsSps p.sps → IsFormat (filter_format p)
unfolding filter_format
format_is p s =
    let columns = eights p.sps.format.pic_width_in_luma_samples _ s.blocks.min_cb s.blocks.columns in
    let rows = eights p.sps.format.pic_height_in_luma_samples _ s.blocks.min_cb s.blocks.rows in
    record {
      width = (least _ columns s.format.some_width, s.format.width);
      height = (least _ rows s.format.some_height, s.format.height);
      columns = columns;
      lines = rows;
      size = (size_is p s).range;
      grid = (size_is p s).grid;
      luma_depth = depth _ s.format.luma_depth;
      chroma_depth = depth _ s.format.chroma_depth;
    }

around : (side block : ℕ) → 1 ≤ block → (side + block - 1) / block ≡ blocks_across block side
unfolding blocks_across
around side block some =
    let e : side + block - 1 ≡ side + (block - 1) = omega (arith, some) in
    ap (λ (n : ℕ). n / block) e

some_size : (p : PicturePlan) → IsSps p.sps → 1 ≤ ctb_size p.sps
some_size p s = let r = (size_is p s).range.0 in omega (arith, r)

-- its coding tree units
columns_are : (p : PicturePlan) → IsSps p.sps → columns_of (filter_format p) ≡ width_in_ctbs p.sps
unfolding filter_format
columns_are p s = around p.sps.format.pic_width_in_luma_samples (ctb_size p.sps) (some_size p s)

rows_are : (p : PicturePlan) → IsSps p.sps → rows_of (filter_format p) ≡ height_in_ctbs p.sps
unfolding filter_format
rows_are p s = around p.sps.format.pic_height_in_luma_samples (ctb_size p.sps) (some_size p s)

-- what is known of it
pub record IsPlanned (p : PicturePlan) (format : FilterFormat) : Type 0 where
  pub is_format : IsFormat format
  pub width : format.width ≡ p.sps.format.pic_width_in_luma_samples
  pub height : format.height ≡ p.sps.format.pic_height_in_luma_samples
  pub columns : columns_of format ≡ width_in_ctbs p.sps
  pub rows : rows_of format ≡ height_in_ctbs p.sps

planned_one : (p : PicturePlan) → IsSps p.sps → IsPlanned p (filter_format p)
unfolding filter_format
planned_one p s = record {
  is_format = format_is p s;
  width = refl;
  height = refl;
  columns = columns_are p s;
  rows = rows_are p s;
}

pub is_planned : (p : PicturePlan) (format : FilterFormat) → format ≡ filter_format p → IsSps p.sps → IsPlanned p format
is_planned p format e s = rw e (planned_one p s)

once : (n : ℕ) → n ≡ n / 1
once n = omega arith

-- the sides of planes
pub plane_widths : (p : PictureSamples) (format : FilterFormat) (c : ℕ) → c < 3 → HasSides p format.width format.height
    → plane_width p c ≡ width_of format c
plane_widths p format zero lt sides = sides.luma_width ∙ once format.width
plane_widths p format (suc zero) lt sides = sides.cb_width
plane_widths p format (suc (suc zero)) lt sides = sides.cr_width
plane_widths p format (suc (suc (suc c))) lt sides = absurd (omega (arith, lt))

pub plane_heights : (p : PictureSamples) (format : FilterFormat) (c : ℕ) → c < 3 → HasSides p format.width format.height
    → plane_height p c ≡ height_of format c
plane_heights p format zero lt sides = sides.luma_height ∙ once format.height
plane_heights p format (suc zero) lt sides = sides.cb_height
plane_heights p format (suc (suc zero)) lt sides = sides.cr_height
plane_heights p format (suc (suc (suc c))) lt sides = absurd (omega (arith, lt))

-- what holds of its sides
pub of_sides : (P : ℕ → ℕ → Type 0) (a b c d : ℕ) → a ≡ b → c ≡ d → P b d → P a c
of_sides P a b c d e f is = subst (λ (n : ℕ). P n c) (sym e) (subst (λ (n : ℕ). P b n) (sym f) is)
