-- Edges of units all places of which have one motion have no strength.
use Rattle.std.proofs.Common.{◌≡◌, ℕ, ◌+◌, cond, Bool, true, false}
use Rattle.std.proofs.Common.{◌&&◌, ◌||◌, List, Some, refl, ap, ◌∙◌}
use Rattle.std.specs.Prelude.{if◌then◌else◌}
use Rattle.ctu_records.specs.declared.item.Item.{Item}
use Rattle.picture_buffer.specs.declared.place_motion.PlaceMotion.{PlaceMotion}
use Rattle.spec_boundary_strengths.proofs.Edges.{none_coded, none_either}
use Rattle.spec_boundary_strengths.proofs.Sides.{strength_self}
use Rattle.spec_boundary_strengths.specs.Edges.{is_prediction_left, is_prediction_top, is_transform_left}
use Rattle.spec_boundary_strengths.specs.Edges.{is_transform_top}
use Rattle.spec_boundary_strengths.specs.Strengths.{Beside, coded_around, coded_at, is_filtered, left_strength}
use Rattle.spec_boundary_strengths.specs.Strengths.{top_strength}

coded_cond : (b v w : Bool) → v ≡ false → w ≡ false → cond b v w ≡ false
coded_cond true v w e f = e
coded_cond false v w e f = f

around_false : (beside : Beside) (items : List Item) (column row : ℕ)
    → ((column row : ℕ) → beside.coded column row ≡ false) → ((x y : ℕ) → coded_at items x y ≡ false)
    → coded_around beside items column row ≡ false
unfolding coded_around
around_false beside items column row near here = coded_cond _ _ _ (near column row) (here _ _)

edge_cond : (b : Bool) (v w : ℕ) → b ≡ false → (if b then v else 0) ≡ 0
edge_cond true v w e = absurd cc
edge_cond false v w e = refl

not_filtered : (disabled : Bool) (line : ℕ) (edges : Bool) → line ≡ 0
    → (is_filtered disabled false line && edges) ≡ false
not_filtered true line edges e = refl
not_filtered false line edges e = rw e refl

module _ (beside : Beside) (items : List Item) (pm : PlaceMotion)
    (near : (column row : ℕ) → beside.coded column row ≡ false) (here : (x y : ℕ) → coded_at items x y ≡ false) where
  pub left_inside : (x y : ℕ) → beside.motion x (y + 1) ≡ Some pm → beside.motion (x + 1) (y + 1) ≡ Some pm
      → left_strength beside items x y ≡ 0
  unfolding left_strength
  left_inside x y p q =
      none_either _ _ (strength_self _ _ _ pm (none_coded _ _ _ (around_false beside items x (y + 1) near here)
      (around_false beside items (x + 1) (y + 1) near here)) p q)

  pub top_inside : (x y : ℕ) → beside.motion (x + 1) y ≡ Some pm → beside.motion (x + 1) (y + 1) ≡ Some pm
      → top_strength beside items x y ≡ 0
  unfolding top_strength
  top_inside x y p q =
      none_either _ _ (strength_self _ _ _ pm (none_coded _ _ _ (around_false beside items (x + 1) y near here)
      (around_false beside items (x + 1) (y + 1) near here)) p q)

  pub left_edge : (x y : ℕ) → beside.left ≡ false → x ≡ 0 → left_strength beside items x y ≡ 0
  unfolding left_strength
  left_edge x y none e =
      let edges : Bool = is_transform_left items x y || is_prediction_left items x y in
      edge_cond (is_filtered beside.disabled beside.left x && edges) _ 0
      (ap (λ side. is_filtered beside.disabled side x && edges) none ∙ not_filtered beside.disabled x edges e)

  pub top_edge : (x y : ℕ) → beside.top ≡ false → y ≡ 0 → top_strength beside items x y ≡ 0
  unfolding top_strength
  top_edge x y none e =
      let edges : Bool = is_transform_top items x y || is_prediction_top items x y in
      edge_cond (is_filtered beside.disabled beside.top y && edges) _ 0
      (ap (λ side. is_filtered beside.disabled side y && edges) none ∙ not_filtered beside.disabled y edges e)
