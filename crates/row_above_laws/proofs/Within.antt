-- A coding tree unit of a picture lays no place that the picture hasn't.
use Rattle.std.proofs.Common.{◌≡◌, ℕ, ◌+◌, ◌-◌, ◌*◌, ◌/◌, ◌%◌, ◌^◌, ◌≤◌, refl, ap, sym, ◌∙◌, arith}
use Rattle.std.proofs.Math.Nat.{div-add-mod', mul-mod_right, mul-sub, mul_assoc, mul_comm}
use Rattle.std.proofs.lemmas.Nat.{pow-add}
use Rattle.ctu_records.specs.Tree.{Ctu}
use Rattle.header_types.specs.SequenceParameterSets.{IsSps, min_cb_log2}
use Rattle.plan_types.specs.declared.picture_plan.PicturePlan.{PicturePlan}
use Rattle.plan_types.specs.declared.segment_plan.SegmentPlan.{SegmentPlan}
use Rattle.spec_picture_trees.specs.Places.{first_column, first_row}
use Rattle.spec_picture_trees.specs.Shapes.{picture_shape, segment_syntax, slice_syntax}
use Rattle.spec_slice_data.specs.declared.syntax.End.{End}
use Rattle.spec_slice_data.specs.Segment.{Between, PictureShape, SegmentShape, begins_row, is_last, next_unit}
use Rattle.spec_slice_data.specs.Segment.{syntax_at, unit_at, unit_begins}
use Rattle.unit_laws.proofs.Formats.{Gives}
use Rattle.row_above_laws.proofs.Quadtree.{IsLaid, unit_and_end_laid}

-- a side of whole blocks, of which so many lie before a unit of whole blocks
whole_left : (m a b : ℕ) → (m * a - m * b) % m ≡ 0
whole_left m a b = ap (λ k. k % m) (sym (mul-sub m a b)) ∙ mul-mod_right m (a - b)

-- a side in places, by its side in luma samples
places_of : (w m : ℕ) → w % 2 ^ (m + 3) ≡ 0 → w / 4 ≡ 2 ^ (m + 1) * (w / 2 ^ (m + 3))
places_of w m none =
    let parts = div-add-mod' w (2 ^ (m + 3)) in
    let four : 2 ^ (m + 3) ≡ 2 ^ (m + 1) * 4 =
    let e : m + 3 ≡ m + 1 + 2 = omega arith in ap (λ k. 2 ^ k) e ∙ pow-add 2 (m + 1) 2 in
    let whole : w ≡ w / 2 ^ (m + 3) * 2 ^ (m + 3) = omega (arith, parts, none) in
    let same : w / 2 ^ (m + 3) * 2 ^ (m + 3) ≡ 2 ^ (m + 1) * (w / 2 ^ (m + 3)) * 4 =
    ap (λ k. w / 2 ^ (m + 3) * k) four ∙ sym (mul_assoc (w / 2 ^ (m + 3)) (2 ^ (m + 1)) 4)
    ∙ ap (λ k. k * 4) (mul_comm (w / 2 ^ (m + 3)) (2 ^ (m + 1))) in
    omega (arith, whole, same)

-- a unit's side of whole blocks
unit_of : (size least k : ℕ) → least ≤ size → 2 ^ size * k ≡ 2 ^ least * (2 ^ (size - least) * k)
unit_of size least k less =
    let e : size ≡ least + (size - least) = omega (arith, less) in
    ap (λ n. 2 ^ n * k) e ∙ ap (λ n. n * k) (pow-add 2 least (size - least))
    ∙ mul_assoc (2 ^ least) (2 ^ (size - least)) k

side_left : (size least across blocks k : ℕ) → least ≤ size → across ≡ 2 ^ least * blocks
    → (across - 2 ^ size * k) % 2 ^ least ≡ 0
side_left size least across blocks k less is =
    ap (λ n. (n - 2 ^ size * k) % 2 ^ least) is
    ∙ ap (λ n. (2 ^ least * blocks - n) % 2 ^ least) (unit_of size least k less)
    ∙ whole_left (2 ^ least) blocks (2 ^ (size - least) * k)

module _ (p : PicturePlan) (sps : IsSps p.sps) where
  abbrev shape : PictureShape
  shape = picture_shape p.sps p.pps

  pub small : (picture_shape p.sps p.pps).size ≤ 4
  unfolding picture_shape
  small = omega (arith, sps.blocks.greatest_ctb)

  some : (s : SegmentPlan) → 1 ≤ (segment_syntax p s).log2_min_coding
  unfolding slice_syntax
  some s = omega arith

  least : (s : SegmentPlan) → (segment_syntax p s).log2_min_coding ≤ shape.size
  unfolding picture_shape slice_syntax
  least s = omega arith

  across_is : (s : SegmentPlan)
      → shape.across
      ≡ 2 ^ (segment_syntax p s).log2_min_coding
      * (p.sps.format.pic_width_in_luma_samples / 2 ^ min_cb_log2 p.sps.blocks)
  unfolding picture_shape slice_syntax
  across_is s =
      let m : ℕ = p.sps.blocks.log2_min_luma_coding_block_size_minus3 in
      let e : m + 3 - 2 ≡ m + 1 = omega arith in
      places_of p.sps.format.pic_width_in_luma_samples m sps.blocks.columns
      ∙ sym (ap (λ k. 2 ^ k * (p.sps.format.pic_width_in_luma_samples / 2 ^ (m + 3))) e)

  down_is : (s : SegmentPlan)
      → shape.down
      ≡ 2 ^ (segment_syntax p s).log2_min_coding
      * (p.sps.format.pic_height_in_luma_samples / 2 ^ min_cb_log2 p.sps.blocks)
  unfolding picture_shape slice_syntax
  down_is s =
      let m : ℕ = p.sps.blocks.log2_min_luma_coding_block_size_minus3 in
      let e : m + 3 - 2 ≡ m + 1 = omega arith in
      places_of p.sps.format.pic_height_in_luma_samples m sps.blocks.rows
      ∙ sym (ap (λ k. 2 ^ k * (p.sps.format.pic_height_in_luma_samples / 2 ^ (m + 3))) e)

  -- what is laid of the unit at an address
  abbrev pub IsLaidAt : ℕ → Ctu → Type 0
  IsLaidAt address ctu =
      IsLaid (picture_shape p.sps p.pps).size
      ((picture_shape p.sps p.pps).across - first_column (picture_shape p.sps p.pps) address)
      ((picture_shape p.sps p.pps).down - first_row (picture_shape p.sps p.pps) address) small ctu.items

  pub laid_at : (s : SegmentPlan) (segment : SegmentShape) (address : ℕ) (between : Between)
      → Gives (λ (read : Ctu × End). IsLaidAt address read.0)
      (unit_at (segment_syntax p s) (picture_shape p.sps p.pps) segment address between)
  unfolding syntax_at unit_begins
  laid_at s segment address between =
      let common = segment_syntax p s in
      unit_and_end_laid (syntax_at common shape segment address) _ _ (is_last segment address)
      (begins_row shape (next_unit address)) (unit_begins shape segment address between) small (some s) (least s)
      (side_left shape.size common.log2_min_coding shape.across _ _ (least s) (across_is s))
      (side_left shape.size common.log2_min_coding shape.down _ _ (least s) (down_is s)) refl
