-- Picture order count (8.3.1).
use Rattle.std.specs.Prelude.{ℕ, ◌-◌, ◌/◌, ◌^◌, ℤ, pos, negsuc, ◌+ℤ◌, ◌-ℤ◌, Bool, ◌&&◌, ◌||◌, ◌==◌, nat_lt, nat_le}
use Rattle.std.specs.Prelude.{unsigned_abs, if◌then◌else◌, Result, Ok, Err}
use Rattle.std.specs.Int.{int_rem_euclid}
use Rattle.hv_base.specs.declared.fault.FaultKind.{FaultKind}
use Rattle.hv_base.specs.declared.fault.FaultKind.TheVariants.{HeaderRange}
use Rattle.hv_base.specs.declared.nal_types.TheConstants.{BLA_W_LP, CRA_NUT, IDR_N_LP, IDR_W_RADL}
use Rattle.slice_types.specs.declared.slice.PictureKind.{PictureKind}

-- whether a NAL unit of a slice is of an intra random access point: its type is from BLA_W_LP to CRA_NUT, the reserved
-- types behind that apart (7.4.2.2)
abbrev pub is_irap : ℕ → Bool
is_irap nal_type = nat_le BLA_W_LP nal_type && nat_le nal_type CRA_NUT

-- whether it is of an instantaneous decoding refresh picture (7.4.2.2)
abbrev pub is_idr : ℕ → Bool
is_idr nal_type = (nal_type == IDR_W_RADL) || (nal_type == IDR_N_LP)

-- whether a picture begins anew: an intra random access point with NoRaslOutputFlag 1
abbrev pub begins_anew : PictureKind → Bool
begins_anew kind = is_irap kind.nal_type && kind.no_rasl_output_flag

-- a picture order count modulo MaxPicOrderCntLsb, from 0 to MaxPicOrderCntLsb - 1
unfoldable pub lsb_of : ℕ → ℤ → ℕ
lsb_of max_lsb poc = unsigned_abs (int_rem_euclid poc (pos max_lsb))

-- PicOrderCntMsb behind a picture prevTid0Pic that has the order count prev (8-1)
unfoldable pub pic_order_cnt_msb : ℕ → ℕ → ℤ → ℤ
pic_order_cnt_msb max_lsb lsb prev =
    let prev_lsb : ℕ = lsb_of max_lsb prev in
    let prev_msb : ℤ = prev -ℤ pos prev_lsb in
    if nat_lt lsb prev_lsb && nat_le (max_lsb / 2) (prev_lsb - lsb) then prev_msb +ℤ pos max_lsb else
    (if nat_lt prev_lsb lsb && nat_lt (max_lsb / 2) (lsb - prev_lsb) then prev_msb -ℤ pos max_lsb else prev_msb)

-- whether a number is from -2^31 to 2^31 - 1
abbrev pub is_32_bits : ℤ → Bool
is_32_bits (pos n) = nat_lt n (2 ^ 31)
is_32_bits (negsuc n) = nat_lt n (2 ^ 31)

-- an order count in its range
unfoldable pub in_range : ℤ → Result ℤ FaultKind
in_range poc = if is_32_bits poc then Ok poc else Err HeaderRange

-- PicOrderCntVal of a picture that has these least significant bits, and the rule that it breaks where it is out of
-- range (8-2); prev is the order count of prevTid0Pic
unfoldable pub pic_order_cnt_val : PictureKind → ℕ → ℤ → Result ℤ FaultKind
pic_order_cnt_val kind lsb prev =
    if begins_anew kind then in_range (pos lsb) else in_range (pic_order_cnt_msb kind.max_lsb lsb prev +ℤ pos lsb)
