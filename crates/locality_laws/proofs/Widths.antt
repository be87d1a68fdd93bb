-- The units of a picture whose sequence parameter set is in range.
use Rattle.std.proofs.Common.{◌≡◌, ℕ, ◌+◌, ◌-◌, ◌*◌, ◌/◌, ◌%◌, ◌^◌, ◌<◌, ◌≤◌, ap, sym, ◌∙◌, arith}
use Rattle.std.proofs.lemmas.Nat.{le-div, mod-mul-add, pow-add, pow_pos}
use Rattle.picture_layout.proofs.Places.{whole}
use Rattle.header_types.specs.declared.sps.SpsFields.{SpsFields}
use Rattle.header_types.specs.SequenceParameterSets.{IsSps, blocks_across, ctb_log2, min_cb_log2}
use Rattle.picture_layout.specs.PlanTypes.{PicturePlan}
use Rattle.picture_layout.specs.SpecPictureTrees.{picture_shape}
use Rattle.locality_laws.specs.Needed.{IsHalved}

some_blocks : (block side : ℕ) → 0 < block → 1 ≤ side → 1 ≤ blocks_across block side
unfolding blocks_across
some_blocks block side some wide = le-div 1 (side + (block - 1)) block some (omega arith)

-- a row has a unit
pub some_units : (p : PicturePlan) → IsSps p.sps → 1 ≤ (picture_shape p.sps p.pps).width
unfolding picture_shape
some_units p sps =
    some_blocks (2 ^ ctb_log2 p.sps.blocks) p.sps.format.pic_width_in_luma_samples (pow_pos (ctb_log2 p.sps.blocks))
    sps.format.some_width

-- a power of two that isn't less than eight is a multiple of it
pub eight_in : (m : ℕ) → 3 ≤ m → 2 ^ m ≡ 2 ^ (m - 3) * 8
eight_in m least =
    let e : m ≡ m - 3 + 3 = omega arith in
    ap (λ k. 2 ^ k) e ∙ pow-add 2 (m - 3) 3

-- and so are its multiples
pub eights_in : (w m : ℕ) → 3 ≤ m → w % 2 ^ m ≡ 0 → w % 8 ≡ 0
eights_in w m least none =
    let parts = whole w (2 ^ m) in
    let times : w / 2 ^ m * 2 ^ m ≡ w / 2 ^ m * (2 ^ (m - 3) * 8) = ap (λ k. w / 2 ^ m * k) (eight_in m least) in
    let turned : w / 2 ^ m * (2 ^ (m - 3) * 8) ≡ w / 2 ^ m * 2 ^ (m - 3) * 8 + 0 = grind arith in
    let e : w ≡ w / 2 ^ m * 2 ^ (m - 3) * 8 + 0 = omega (arith, parts, none, times, turned) in
    ap (λ k. k % 8) e ∙ mod-mul-add (w / 2 ^ m * 2 ^ (m - 3)) 8 0 (omega arith)

pub halved : (sps : SpsFields) → IsSps sps → IsHalved sps.format
halved sps s =
    let columns : sps.format.pic_width_in_luma_samples % 8 ≡ 0 =
    eights_in sps.format.pic_width_in_luma_samples (min_cb_log2 sps.blocks) (omega arith) s.blocks.columns in
    let rows : sps.format.pic_height_in_luma_samples % 8 ≡ 0 =
    eights_in sps.format.pic_height_in_luma_samples (min_cb_log2 sps.blocks) (omega arith) s.blocks.rows in
    record {
      wide = omega (arith, columns, s.format.some_width);
      high = omega (arith, rows, s.format.some_height);
      even = omega (arith, rows);
    }
