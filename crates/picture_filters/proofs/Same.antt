-- What a place asks of what stands beside its unit.
use Rattle.std.proofs.Common.{◌≡◌, ℕ, zero, suc, ◌+◌, ◌-◌, ◌<◌, ◌∙◌, ap, Bool, false, List, slice_index_or, refl}
use Rattle.std.proofs.Common.{arith}
use Rattle.std.proofs.lemmas.Bool.Decides.{nat_tests}
use Rattle.ctu_records.specs.declared.item.Item.{Item}
use Rattle.boundary_strengths.specs.SpecBoundaryStrengths.{unit_place}
use Rattle.boundary_strengths.specs.SpecBoundaryStrengths.{Beside, coded_around, left_strength, top_strength}
use Rattle.plan_types.specs.declared.segment_plan.SegmentPlan.{SegmentPlan}
use Rattle.plan_types.specs.declared.picture_plan.PicturePlan.{PicturePlan}
use Rattle.boundary_strengths.specs.declared.sides.UnitSides.{UnitSides}
use Rattle.boundary_strengths.specs.Held.{beside_of, coded_beside}
use Rattle.spec_picture_trees.specs.Shapes.{qp_bd_offset}
use Rattle.spec_picture_filters.specs.SpecPictureMotion.{Motions}
use Rattle.spec_picture_trees.specs.SpecSliceData.{PictureShape}
use Rattle.spec_picture_filters.specs.Units.{beside_unit, coded_near, is_left_filtered, is_top_filtered, motion_near}
use Rattle.spec_picture_filters.specs.Units.{pcm_disabled, places_read}
use Rattle.picture_layout.specs.declared.coding_tree_unit.CodingTreeUnit.{CodingTreeUnit}
use Rattle.picture_filters.specs.Filtering.{IsCodedAbove, IsCodedLeft, IsUnit}

-- both are the same beside the places of a unit
pub record AreSame (a b : Beside) : Type 0 where
  pub motion : a.motion ≡ b.motion
  pub left : a.left ≡ b.left
  pub top : a.top ≡ b.top
  pub disabled : a.disabled ≡ b.disabled
  pub coded_left : (k : ℕ) → k < 16 → a.coded 0 (k + 1) ≡ b.coded 0 (k + 1)
  pub coded_above : (k : ℕ) → k < 16 → a.coded (k + 1) 0 ≡ b.coded (k + 1) 0

coded_inside : (a b : Beside) (items : List Item) (x y : ℕ)
    → coded_around a items (x + 1) (y + 1) ≡ coded_around b items (x + 1) (y + 1)
unfolding coded_around
coded_inside a b items x y = grind (arith, nat_tests)

beside_same : (a b : Beside) (items : List Item) (x y : ℕ) → AreSame a b → y < 16
    → coded_around a items x (y + 1) ≡ coded_around b items x (y + 1)
unfolding coded_around
beside_same a b items zero y same small = same.coded_left y small
beside_same a b items (suc x) y same small = grind (arith, nat_tests)

coded_over : (a b : Beside) (items : List Item) (x y : ℕ) → AreSame a b → x < 16
    → coded_around a items (x + 1) y ≡ coded_around b items (x + 1) y
unfolding coded_around
coded_over a b items x zero same small = let e = same.coded_above x small in grind (arith, nat_tests)
coded_over a b items x (suc y) same small = grind (arith, nat_tests)

left_same : (a b : Beside) (items : List Item) (x y : ℕ) → AreSame a b → y < 16
    → left_strength a items x y ≡ left_strength b items x y
unfolding left_strength
left_same a b items x y same small =
    rw (beside_same a b items x y same small, coded_inside a b items x y, same.motion, same.left, same.disabled) refl

top_same : (a b : Beside) (items : List Item) (x y : ℕ) → AreSame a b → x < 16
    → top_strength a items x y ≡ top_strength b items x y
unfolding top_strength
top_same a b items x y same small =
    rw (coded_over a b items x y same small, coded_inside a b items x y, same.motion, same.top, same.disabled) refl

pub place_same : (a b : Beside) (disabled : Bool) (offset : ℕ) (items : List Item) (x y : ℕ) → AreSame a b → x < 16
    → y < 16
    → unit_place a disabled offset items x y ≡ unit_place b disabled offset items x y
unfolding unit_place
place_same a b disabled offset items x y same few low =
    rw (left_same a b items x y same low, top_same a b items x y same few) refl

left_flag : (sides : UnitSides) (k : ℕ) → coded_beside sides 0 (k + 1) ≡ slice_index_or sides.coded_left k false
unfolding coded_beside
left_flag sides k = let e : k + 1 - 1 ≡ k = omega arith in rw e refl

above_flag : (sides : UnitSides) (k : ℕ) → coded_beside sides (k + 1) 0 ≡ slice_index_or sides.coded_above k false
unfolding coded_beside
above_flag sides k = let e : k + 1 - 1 ≡ k = omega arith in grind (arith, nat_tests)

-- what is gathered beside a unit is what its places ask for
pub read_is : (p : PicturePlan) (s : SegmentPlan) (unit : CodingTreeUnit) (items : List Item) (motions : Motions)
    (coded : ℕ → ℕ → Bool) (sides : UnitSides) (x y : ℕ)
    → IsUnit p s unit
    → sides.filter_left ≡ is_left_filtered p s unit.address → sides.filter_top ≡ is_top_filtered p s unit.address
    → sides.deblocking_disabled ≡ s.header.slice.deblocking.slice_deblocking_filter_disabled_flag
    → sides.pcm_loop_filter_disabled ≡ pcm_disabled p.sps.tools.pcm → sides.qp_bd_offset ≡ qp_bd_offset p.sps
    → IsCodedLeft unit coded sides.coded_left → IsCodedAbove unit coded sides.coded_above → x < 16 → y < 16
    → unit_place (beside_of sides (motion_near unit.layout unit.address motions)) sides.pcm_loop_filter_disabled
    sides.qp_bd_offset items x y
    ≡ places_read p s unit.address items motions coded x y
unfolding places_read beside_unit
read_is p s unit items motions coded sides x y is left top disabled pcm offset before above few low =
    ap (λ (f : Bool). unit_place (beside_of sides (motion_near unit.layout unit.address motions)) f
    sides.qp_bd_offset items x y)
    pcm
    ∙ (ap (λ (n : ℕ). unit_place (beside_of sides (motion_near unit.layout unit.address motions))
    (pcm_disabled p.sps.tools.pcm) n items x y)
    offset
    ∙ place_same (beside_of sides (motion_near unit.layout unit.address motions))
    (beside_unit p s unit.address motions coded) (pcm_disabled p.sps.tools.pcm) (qp_bd_offset p.sps) items x y
    (record {
      motion = ap (λ (q : PictureShape). motion_near q unit.address motions) is.layout;
      left = left;
      top = top;
      disabled = disabled;
      coded_left = λ k lt. left_flag sides k
          ∙ (before k lt ∙ ap (λ (q : PictureShape). coded_near q unit.address coded 0 (k + 1)) is.layout);
      coded_above = λ k lt. above_flag sides k
          ∙ (above k lt ∙ ap (λ (q : PictureShape). coded_near q unit.address coded (k + 1) 0) is.layout);
    }) few low)
