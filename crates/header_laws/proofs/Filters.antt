-- The ranges of quantization and filters of a slice that are read.
use Rattle.std.proofs.Common.{ℕ, ◌≤◌, ℤ, pos, ◌+ℤ◌, ◌≤ℤ◌}
use Rattle.std.specs.Prelude.{Bool, neg_ℤ}
use Rattle.std.proofs.Common.{true, false, Option, Some, None}
use Rattle.std.proofs.Common.{IfSome, if◌then◌else◌, arith}
use Rattle.std.proofs.lemmas.Int.{ints}
use Rattle.header_types.specs.declared.pps.DeblockingControl.{DeblockingControl}
use Rattle.header_types.specs.declared.pps.PpsFields.{PpsFields}
use Rattle.header_types.specs.declared.sps.SpsFields.{SpsFields}
use Rattle.slice_types.specs.declared.slice.SliceDeblocking.{SliceDeblocking}
use Rattle.header_types.specs.PictureParameterSet.{IsDeblockingControl, IsPps, IsWithin}
use Rattle.header_types.specs.SequenceParameterSets.{IsSps}
use Rattle.header_types.specs.SequenceParameterSets.{qp_bd_offset_y}
use Rattle.slice_types.specs.SliceHeaders.{IsSliceDeblocking}
use Rattle.spec_formats.specs.Format.{Then, when◌then◌else◌}
use Rattle.spec_formats.specs.Fields.{Header, give, se_within}
use Rattle.spec_formats.proofs.Values.{CanBe}
use Rattle.spec_slice_headers.specs.SliceFields.{Filters, chroma_offset, control_of, deblocking, filter_fields}
use Rattle.spec_slice_headers.specs.SliceFields.{own_deblocking, pps_deblocking, qp_delta}
use Rattle.spec_slice_headers.specs.SliceFields.{slice_qp}
use Rattle.header_laws.proofs.Values.{no_offset}
use Rattle.header_laws.proofs.Values.{within}

-- SliceQpY from -QpBdOffsetY to 51, of samples of up to 10 bits
qp_is : (offset : ℕ) (init coded : ℤ) → offset ≤ 12 → IsWithin 38 25 init
    → IsWithin offset 51 (pos 26 +ℤ init +ℤ coded)
    → IsWithin 63 63 coded
qp_is offset init coded few init-is qp-is =
    let low = init-is.least in
    let high = init-is.greatest in
    let from : neg_ℤ (pos offset) ≤ℤ (pos 26 +ℤ init +ℤ coded) = qp-is.least in
    let to : (pos 26 +ℤ init +ℤ coded) ≤ℤ pos 51 = qp-is.greatest in
    let deepest : neg_ℤ (pos 12) ≤ℤ neg_ℤ (pos offset) = omega (arith, ints) in
    record { least = omega (arith, ints); greatest = omega (arith, ints) }

qp_delta_is : (sps : SpsFields) (pps : PpsFields) (delta : ℤ) → IsSps sps → IsPps pps → CanBe (qp_delta sps pps) delta
    → IsWithin 63 63 delta
unfolding qp_delta
qp_delta_is sps pps delta is-sps is-pps (coded, coded-is, (fact, in_range, e)) =
    let depth = is-sps.format.luma_depth in
    rw (← e)
    (qp_is (qp_bd_offset_y sps) pps.quantization.init_qp_minus26 coded (omega (arith, depth))
    is-pps.quantization.init_qp (within (qp_bd_offset_y sps) 51 (slice_qp pps coded) in_range))

offset_is : (present : Bool) (offset z : ℤ) → CanBe (chroma_offset present offset) z → IsWithin 12 12 z
unfolding chroma_offset
offset_is false offset z e = rw (← e) (no_offset 12)
offset_is true offset z (coded, coded-is, (fact, in_range, e)) = rw (← e) (within 12 12 coded coded-is)

control_is : (control : Option DeblockingControl) → IfSome control IsDeblockingControl
    → IsDeblockingControl (control_of control)
control_is None is = record { beta = no_offset 6; tc = no_offset 6 }
control_is (Some control) is = is

-- the offsets behind slice_deblocking_filter_disabled_flag
abbrev own_behind : DeblockingControl → Bool → Header SliceDeblocking
own_behind control disabled =
    when disabled
    then give (record (pps_deblocking true control) { slice_deblocking_filter_disabled_flag = true })
    else Then (se_within 6 6) (λ beta. Then (se_within 6 6) (λ tc. give (record {
      deblocking_filter_override_flag = true;
      slice_deblocking_filter_disabled_flag = false;
      slice_beta_offset_div2 = beta;
      slice_tc_offset_div2 = tc;
    })))

own_either : (control : DeblockingControl) (disabled : Bool) (d : SliceDeblocking) → IsDeblockingControl control
    → CanBe (own_behind control disabled) d → IsSliceDeblocking d
own_either control true d is e = rw (← e) (record { beta = is.beta; tc = is.tc })
own_either control false d is (beta, beta-is, (tc, tc-is, e)) =
    rw (← e) (record { beta = within 6 6 beta beta-is; tc = within 6 6 tc tc-is })

own_is : (control : DeblockingControl) (d : SliceDeblocking) → IsDeblockingControl control
    → CanBe (own_deblocking control) d → IsSliceDeblocking d
unfolding own_deblocking
own_is control d is (disabled, disabled-is, own) = own_either control disabled d is own

deblocking_either : (control : DeblockingControl) (override : Bool) (d : SliceDeblocking) → IsDeblockingControl control
    → CanBe (when override then own_deblocking control else give (pps_deblocking false control)) d → IsSliceDeblocking d
deblocking_either control true d is own = own_is control d is own
deblocking_either control false d is e = rw (← e) (record { beta = is.beta; tc = is.tc })

deblocking_is : (control : DeblockingControl) (d : SliceDeblocking) → IsDeblockingControl control
    → CanBe (deblocking control) d → IsSliceDeblocking d
unfolding deblocking
deblocking_is control d is (override, override-is, own) = deblocking_either control override d is own

pub record AreFilters (f : Filters) : Type 0 where
  pub qp_delta : IsWithin 63 63 f.slice_qp_delta
  pub cb : IsWithin 12 12 f.slice_cb_qp_offset
  pub cr : IsWithin 12 12 f.slice_cr_qp_offset
  pub deblocking : IsSliceDeblocking f.deblocking

pub filters_are : (sps : SpsFields) (pps : PpsFields) (has_sao : Bool) (f : Filters) → IsSps sps → IsPps pps
    → CanBe (filter_fields sps pps has_sao) f
    → AreFilters f
unfolding filter_fields
filters_are sps pps has_sao f is-sps is (qp, qp-is, (cb, cb-is, (cr, cr-is, (d, d-is, (across, across-is, e))))) =
    let quantization = pps.quantization in
    let control = pps.filters.deblocking_control in
    rw (← e) (record {
      qp_delta = qp_delta_is sps pps qp is-sps is qp-is;
      cb = offset_is quantization.pps_slice_chroma_qp_offsets_present_flag quantization.pps_cb_qp_offset cb cb-is;
      cr = offset_is quantization.pps_slice_chroma_qp_offsets_present_flag quantization.pps_cr_qp_offset cr cr-is;
      deblocking = deblocking_is (control_of control) d (control_is control is.filters.deblocking) d-is;
    })
