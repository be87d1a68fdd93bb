-- Offsets that are far from 0.
use Rattle.std.proofs.Common.{◌≡◌, ℕ, ◌≤◌, ℤ, pos, ◌+ℤ◌, ◌-ℤ◌, neg_ℤ, ◌==◌, false, ap, ◌∙◌, arith}
use Rattle.std.proofs.lemmas.Int.{clamps, ints}
use Rattle.spec_arithmetic.specs.Clipping.{clip3}
use Rattle.ctu_build.specs.Offsets.{near_offset}
use Rattle.spec_reconstruction.specs.declared.format.UnitFormat.{UnitFormat}
use Rattle.spec_reconstruction.specs.Parameters.{chroma_offset, chroma_parameter, depth_offset, offset_parameter}
use Rattle.spec_reconstruction.specs.Parameters.{parameter_of}

held_index : (qp luma chroma : ℕ) (offset : ℤ) → qp ≤ 255 → luma ≤ 36 → chroma ≤ 36
    → clip3 (neg_ℤ (pos chroma)) (pos 57) (pos qp -ℤ pos luma +ℤ near_offset offset)
    ≡ clip3 (neg_ℤ (pos chroma)) (pos 57) (pos qp -ℤ pos luma +ℤ offset)
unfolding near_offset
held_index qp luma chroma offset hq hl hc = omega (arith, ints, clamps)

near_parameter : (qp luma chroma : ℕ) (offset : ℤ) → qp ≤ 255 → luma ≤ 36 → chroma ≤ 36
    → chroma_parameter chroma (pos qp -ℤ pos luma +ℤ near_offset offset)
    ≡ chroma_parameter chroma (pos qp -ℤ pos luma +ℤ offset)
unfolding chroma_parameter
near_parameter qp luma chroma offset hq hl hc = ap (offset_parameter chroma) (held_index qp luma chroma offset hq hl hc)

-- qP of a block of chroma
pub parameter_is : (format : UnitFormat) (c qp luma chroma result : ℕ) (offset index : ℤ) → (c == 0) ≡ false → qp ≤ 255
    → luma ≤ 36 → chroma ≤ 36
    → luma ≡ depth_offset format.luma_depth → chroma ≡ depth_offset format.chroma_depth
    → offset ≡ chroma_offset format c
    → index ≡ pos qp -ℤ pos luma +ℤ near_offset offset → result ≡ chroma_parameter chroma index
    → result ≡ parameter_of format c qp
unfolding parameter_of
parameter_is format c qp luma chroma result offset index other hq hl hc el ec eo ei er =
    let near : result ≡ chroma_parameter chroma (pos qp -ℤ pos luma +ℤ offset) =
    er ∙ ap (chroma_parameter chroma) ei ∙ near_parameter qp luma chroma offset hq hl hc in
    rw (other, ← el, ← ec, ← eo) near
