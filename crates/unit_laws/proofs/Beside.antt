-- Places of other coding tree units are available by the z-scan order of minimum transform blocks.
use Rattle.std.proofs.Common.{◌≡◌, ℕ, ◌+◌, ◌-◌, ◌*◌, ◌/◌, ◌%◌, ◌^◌, ◌<◌, ◌≤◌, pos, sym, ap, ◌∙◌, arith}
use Rattle.std.proofs.Common.{inl, inr}
use Rattle.std.specs.Prelude.{◌&&◌, nat_le, nat_lt}
use Rattle.std.proofs.Math.Nat.{div-div-eq-div-mul, div-add-mod', mul-div_cancel, mul_assoc, mul_comm}
use Rattle.std.proofs.lemmas.Bool.{cases_lt, le-ltb, le-leb, lt-leb, lt-ltb}
use Rattle.std.proofs.lemmas.Nat.{pow-add, pow_pos}
use Rattle.block_geometry.specs.Availability.{available, block_start, min_transform_order, spread, unit_of_place}
use Rattle.block_geometry.specs.Availability.{width_in_units, z_scan_order}
use Rattle.block_geometry.specs.declared.availability.SliceArea.{SliceArea}
use Rattle.header_types.specs.SequenceParameterSets.{IsSps, blocks_across, ctb_log2, min_cb_log2, min_tb_log2}
use Rattle.spec_picture_build.specs.PlanTypes.{PicturePlan}
use Rattle.spec_picture_build.specs.SpecPictureTrees.{has_place, is_available, unit_at, unit_places}
use Rattle.spec_picture_build.specs.SpecPictureTrees.{in_places, picture_shape}
use Rattle.spec_slice_data.specs.Segment.{PictureShape}
use Rattle.unit_laws.specs.Order.{slice_area}

spread-small : (k : ℕ) → spread k ≤ 85
unfolding spread
spread-small k = omega arith

-- the first place of a block in a larger one is in the larger one
block_in : (m size x : ℕ) → m ≤ size → block_start m x / 2 ^ size ≡ x / 2 ^ size
block_in m size x few =
    let some : 0 < 2 ^ m = pow_pos m in
    let cut : 2 ^ size ≡ 2 ^ m * 2 ^ (size - m) =
    ap (λ k. 2 ^ k) (omega (arith, few)) ∙ pow-add 2 m (size - m) in
    let start : block_start m x ≡ x / 2 ^ m * 2 ^ m = let parts = div-add-mod' x (2 ^ m) in omega (arith, parts) in
    ap (λ k. block_start m x / k) cut
    ∙ sym (div-div-eq-div-mul (block_start m x) (2 ^ m) (2 ^ (size - m)))
    ∙ ap (λ k. k / 2 ^ m / 2 ^ (size - m)) start
    ∙ ap (λ k. k / 2 ^ (size - m)) (mul-div_cancel (x / 2 ^ m) some)
    ∙ div-div-eq-div-mul x (2 ^ m) (2 ^ (size - m))
    ∙ sym (ap (λ k. x / k) cut)

-- the order of places of two units is that of the units
module _ (area : SliceArea) (few : area.min_transform ≤ area.size) where
  unit_of_block : (x y : ℕ) → unit_of_place area (block_start area.min_transform x) (block_start area.min_transform y)
      ≡ unit_of_place area x y
  unfolding unit_of_place
  unit_of_block x y =
      ap (λ k. width_in_units area * k + block_start area.min_transform x / 2 ^ area.size)
      (block_in area.min_transform area.size y few)
      ∙ ap (λ k. width_in_units area * (y / 2 ^ area.size) + k) (block_in area.min_transform area.size x few)

  low : (x y : ℕ) → ℕ
  low x y = spread (block_start area.min_transform x % 2 ^ area.size)
      + 2 * spread (block_start area.min_transform y % 2 ^ area.size)

  order_cut : (x y : ℕ)
      → (min_transform_order area x y ≡ 256 * unit_of_place area x y + low x y) × (low x y ≤ 255)
  unfolding z_scan_order low
  order_cut x y = (
    ap (λ k. 256 * k + low x y) (unit_of_block x y),
    omega (
      arith,
      spread-small (block_start area.min_transform x % 2 ^ area.size),
      spread-small (block_start area.min_transform y % 2 ^ area.size),
    ),
  )

  units_order : (x y i j : ℕ) → ¬ (unit_of_place area i j ≡ unit_of_place area x y)
      → nat_le (min_transform_order area i j) (min_transform_order area x y)
      ≡ nat_lt (unit_of_place area i j) (unit_of_place area x y)
  units_order x y i j other =
      let here = order_cut x y in
      let there = order_cut i j in
      elim (cases_lt (unit_of_place area i j) (unit_of_place area x y)) [
        | inl before ↦
            le-leb _ _ (omega (arith, here.0, there.0, there.1, before)) ∙ sym (lt-ltb _ _ before)
        | inr behind ↦ elim (cases_lt (unit_of_place area x y) (unit_of_place area i j)) [
          | inl later ↦
              let greater : min_transform_order area x y < min_transform_order area i j =
              omega (arith, here.0, here.1, there.0, later) in
              lt-leb _ _ greater ∙ sym (le-ltb _ _ behind)
          | inr most ↦ absurd (other (omega (arith, behind, most)))
        ]
      ]

-- units of a picture are those of the z-scan
same_unit : (picture : PictureShape) (m slice x y : ℕ) → picture.width ≡ width_in_units (slice_area picture m slice)
    → unit_at picture (unit_places picture) x y ≡ unit_of_place (slice_area picture m slice) x y
unfolding unit_at unit_of_place
same_unit picture m slice x y width = ap (λ k. k * (y / 2 ^ picture.size) + x / 2 ^ picture.size) width

available_by_scan : (picture : PictureShape) (m slice address x y i j : ℕ)
    → picture.width ≡ width_in_units (slice_area picture m slice) → m ≤ picture.size
    → unit_at picture (unit_places picture) x y ≡ address
    → ¬ (unit_at picture (unit_places picture) i j ≡ address)
    → is_available picture slice address i j ≡ available (slice_area picture m slice) x y (pos i) (pos j)
unfolding is_available available
available_by_scan picture m slice address x y i j width few here there =
    let area : SliceArea = slice_area picture m slice in
    let at : unit_of_place area x y ≡ address = sym (same_unit picture m slice x y width) ∙ here in
    let of : unit_at picture (unit_places picture) i j ≡ unit_of_place area i j =
    same_unit picture m slice i j width in
    ap (λ k. has_place picture i j && (nat_le slice k && nat_lt k address)) of
    ∙ ap (λ k. has_place picture i j && (nat_le slice (unit_of_place area i j) && nat_lt (unit_of_place area i j) k))
    (sym at)
    ∙ ap (λ b. has_place picture i j && (nat_le slice (unit_of_place area i j) && b))
    (sym (units_order area few x y i j (λ e. there (of ∙ e ∙ at))))

four : (m : ℕ) → 2 ≤ m → 2 ^ m ≡ 4 * 2 ^ (m - 2)
four m least = let e : m ≡ 2 + (m - 2) = omega (arith, least) in ap (λ k. 2 ^ k) e ∙ pow-add 2 2 (m - 2)

-- a side in places, and how many units cover it by its samples and by its places
places_of : (w m : ℕ) → 2 ≤ m → w % 2 ^ m ≡ 0 → w ≡ w / 2 ^ m * 2 ^ (m - 2) * 4
places_of w m least none =
    let parts = div-add-mod' w (2 ^ m) in
    let whole : w ≡ w / 2 ^ m * 2 ^ m = omega (arith, parts, none) in
    whole ∙ ap (λ k. w / 2 ^ m * k) (four m least ∙ mul_comm 4 (2 ^ (m - 2)))
    ∙ sym (mul_assoc (w / 2 ^ m) (2 ^ (m - 2)) 4)

units_across : (w q l : ℕ) → 2 ≤ l → w ≡ q * 4 → blocks_across (2 ^ l) w ≡ (w / 4 + (2 ^ (l - 2) - 1)) / 2 ^ (l - 2)
unfolding blocks_across
units_across w q l least is =
    let side : ℕ = 2 ^ (l - 2) in
    let some : 0 < 2 ^ (l - 2) = pow_pos (l - 2) in
    let quarter : (w + (4 * 2 ^ (l - 2) - 1)) / 4 ≡ w / 4 + (2 ^ (l - 2) - 1) = omega (arith, is, some) in
    ap (λ k. (w + (k - 1)) / k) (four l least)
    ∙ sym (div-div-eq-div-mul (w + (4 * 2 ^ (l - 2) - 1)) 4 (2 ^ (l - 2)))
    ∙ ap (λ k. k / 2 ^ (l - 2)) quarter

-- of a planned picture
pub same_width : (p : PicturePlan) (slice : ℕ) → IsSps p.sps
    → (picture_shape p.sps p.pps).width
    ≡ width_in_units (slice_area (picture_shape p.sps p.pps) (in_places (min_tb_log2 p.sps.blocks)) slice)
unfolding picture_shape
same_width p slice sps =
    let two : 2 ≤ ctb_log2 p.sps.blocks = omega (arith, sps.blocks.least_ctb) in
    units_across p.sps.format.pic_width_in_luma_samples _ (ctb_log2 p.sps.blocks) two
    (places_of p.sps.format.pic_width_in_luma_samples (min_cb_log2 p.sps.blocks) (omega arith) sps.blocks.columns)

pub least_block : (p : PicturePlan) → IsSps p.sps
    → in_places (min_tb_log2 p.sps.blocks) ≤ (picture_shape p.sps p.pps).size
unfolding picture_shape
least_block p sps = omega (arith, sps.blocks.min_tb)

pub available_beside : (p : PicturePlan) (slice address x y i j : ℕ) → IsSps p.sps
    → unit_at (picture_shape p.sps p.pps) (unit_places (picture_shape p.sps p.pps)) x y ≡ address
    → ¬ (unit_at (picture_shape p.sps p.pps) (unit_places (picture_shape p.sps p.pps)) i j ≡ address)
    → is_available (picture_shape p.sps p.pps) slice address i j
    ≡ available (slice_area (picture_shape p.sps p.pps) (in_places (min_tb_log2 p.sps.blocks)) slice) x y (pos i)
    (pos j)
available_beside p slice address x y i j sps here there =
    available_by_scan (picture_shape p.sps p.pps) (in_places (min_tb_log2 p.sps.blocks)) slice address x y i j
    (same_width p slice sps) (least_block p sps) here there
