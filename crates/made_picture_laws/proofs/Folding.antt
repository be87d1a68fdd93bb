-- What holds before the units of a made picture, and is kept by each of them, holds behind all.
use Rattle.std.proofs.Common.{◌≡◌, ℕ, zero, suc, ◌+◌, ◌<◌, ◌≤◌, List, [], ◌∷◌, map, sym, ap, subst, arith}
use Rattle.std.specs.Prelude.{slice_get}
use Rattle.std.specs.List.{fold, range_with_len}
use Rattle.plan_types.specs.declared.segment_plan.SegmentPlan.{SegmentPlan}
use Rattle.plan_types.specs.declared.picture_plan.PicturePlan.{PicturePlan}
use Rattle.ctu_records.specs.declared.item.Item.{Item}
use Rattle.spec_picture_build.specs.References.{DecodedPicture}
use Rattle.spec_decoded_pictures.specs.Decoded.{DecodedUnits, decoded_in, no_units, unit_decoded, units_folded}
use Rattle.spec_decoded_pictures.specs.Decoded.{with_unit}
use Rattle.made_row_laws.specs.Rows.{tree_drawn, trees_drawn}

module _ (buffer : List DecodedPicture) (p : PicturePlan) (s : SegmentPlan) (items : ℕ → List Item)
    (only : p.segments ≡ s ∷ []) (Holds : ℕ → DecodedUnits → Type 0)
    (step : (i : ℕ) (u : DecodedUnits) → i < 48 → Holds i u
    → Holds (i + 1) (unit_decoded buffer p s (tree_drawn items i) u)) where
  with_is : (i : ℕ) (u : DecodedUnits)
      → with_unit buffer p u (tree_drawn items i) ≡ unit_decoded buffer p s (tree_drawn items i) u
  with_is i u =
      ap (λ (l : List SegmentPlan). decoded_in buffer p (slice_get l 0) (tree_drawn items i) u) only

  folded : (n i : ℕ) (u : DecodedUnits) → i + n ≤ 48 → Holds i u
      → Holds (i + n) (fold (with_unit buffer p) u (map (tree_drawn items) (range_with_len i n)))
  folded zero i u few is = let e : i ≡ i + 0 = omega arith in subst (λ k. Holds k u) e is
  folded (suc n) i u few is =
      let rest = map (tree_drawn items) (range_with_len (i + 1) n) in
      let next : DecodedUnits = unit_decoded buffer p s (tree_drawn items i) u in
      let e : i + 1 + n ≡ i + suc n = omega arith in
      let there : Holds (i + suc n) (fold (with_unit buffer p) next rest) =
      subst (λ k. Holds k (fold (with_unit buffer p) next rest)) e
      (folded n (i + 1) next (omega arith) (step i u (omega arith) is)) in
      subst (λ (v : DecodedUnits). Holds (i + suc n) (fold (with_unit buffer p) v rest)) (sym (with_is i u)) there

  pub all_units : Holds 0 no_units → Holds 48 (units_folded buffer p (trees_drawn items))
  unfolding units_folded trees_drawn
  all_units is = folded 48 0 no_units (omega arith) is
