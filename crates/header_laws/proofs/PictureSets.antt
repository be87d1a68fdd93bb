-- The ranges of picture parameter sets that are read.
use Rattle.std.proofs.Common.{◌≡◌, ℕ, ℤ, Bool, true, false, List, Ok, arith}
use Rattle.hv_base.specs.declared.field_rules.TheConstants.{PARAMETER_SET_RULES}
use Rattle.header_types.specs.declared.pps.DeblockingControl.{DeblockingControl}
use Rattle.header_types.specs.declared.pps.PpsFields.{PpsFields}
use Rattle.header_types.specs.declared.pps.PpsFilters.{PpsFilters}
use Rattle.header_types.specs.declared.pps.PpsIdentity.{PpsIdentity}
use Rattle.header_types.specs.declared.pps.PpsQuantization.{PpsQuantization}
use Rattle.header_types.specs.declared.pps.PpsSliceDefaults.{PpsSliceDefaults}
use Rattle.header_types.specs.PictureParameterSet.{IsDeblockingControl, IsPps, IsPpsFilters, IsPpsIdentity}
use Rattle.header_types.specs.PictureParameterSet.{IsPpsQuantization, IsPpsSliceDefaults, IsWithin}
use Rattle.header_types.specs.Scaling.{IsScalingLists}
use Rattle.spec_bits.specs.Bits.{bits}
use Rattle.spec_formats.proofs.Values.{CanBe}
use Rattle.spec_slice_headers.specs.SpecParameterSets.{deblocking_control, deblocking_offset, picture_parameter_set}
use Rattle.spec_slice_headers.specs.SpecParameterSets.{picture_parameter_set_of, pps_filters, pps_identity}
use Rattle.spec_slice_headers.specs.SpecParameterSets.{pps_quantization, pps_slice_defaults}
use Rattle.spec_slice_headers.specs.SpecParameterSets.{scaling_list_data}
use Rattle.spec_slice_headers.proofs.SpecParameterSetsLemmas.{data_can_be}
use Rattle.header_laws.proofs.Values.{no_offset, optional_is, parsed_is, within}

offset_is : (disabled : Bool) (z : ℤ) → CanBe (deblocking_offset disabled) z → IsWithin 6 6 z
unfolding deblocking_offset
offset_is true z e = rw (← e) (no_offset 6)
offset_is false z is = within 6 6 z is

control_is : (d : DeblockingControl) → CanBe deblocking_control d → IsDeblockingControl d
unfolding deblocking_control
control_is d (override, override-is, (disabled, disabled-is, (beta, beta-is, (tc, tc-is, e)))) =
    rw (← e) (record { beta = offset_is disabled beta beta-is; tc = offset_is disabled tc tc-is })

identity_is : (i : PpsIdentity) → CanBe pps_identity i → IsPpsIdentity i
unfolding pps_identity
identity_is i (id, id-is, (sps_id, sps_id-is, e)) = rw (← e) (record { id = id-is; sps_id = sps_id-is })

defaults_are : (d : PpsSliceDefaults) → CanBe pps_slice_defaults d → IsPpsSliceDefaults d
unfolding pps_slice_defaults
defaults_are d
    (dependent, a, (output, b, (extra, extra-is, (hiding, f, (cabac, g, (l0, l0-is, (l1, l1-is, e))))))) =
    rw (← e) (record { extra_bits = omega (arith, extra-is); active_l0 = l0-is; active_l1 = l1-is })

quantization_is : (q : PpsQuantization) → CanBe pps_quantization q → IsPpsQuantization q
unfolding pps_quantization
quantization_is q
    (qp, qp-is, (constrained, a, (skip, b, (delta, d, (depth, f, (cb, cb-is, (cr, cr-is, (present, g, e)))))))) =
    rw (← e) (record {
      init_qp = within 38 25 qp qp-is;
      cb_qp_offset = within 12 12 cb cb-is;
      cr_qp_offset = within 12 12 cr cr-is;
    })

filters_are : (f : PpsFilters) → CanBe pps_filters f → IsPpsFilters f
unfolding pps_filters
filters_are f (across, a, (present, b, (control, control-ok, e))) = rw (← e) (record {
  deblocking = optional_is IsDeblockingControl present deblocking_control control control_is control-ok;
})

picture_set_is : (p : PpsFields) → CanBe picture_parameter_set p → IsPps p
unfolding picture_parameter_set
picture_set_is p (
  identity,
  id-ok,
  (
    defaults,
    defaults-ok,
    (
      quantization,
      qp-ok,
      (
        prediction,
        a,
        (filters, filters-ok, (listed, b, (lists, lists-are, (modified, d, (merge, f, (extension, g, e)))))),
      ),
    ),
  ),
) =
    rw (← e) (record {
      identity = identity_is identity id-ok;
      slice_defaults = defaults_are defaults defaults-ok;
      quantization = quantization_is quantization qp-ok;
      filters = filters_are filters filters-ok;
      scaling_lists = optional_is IsScalingLists listed scaling_list_data lists data_can_be lists-are;
    })

pub picture_set_in_range : (bytes : List ℕ) (p : PpsFields) → picture_parameter_set_of bytes ≡ Ok p → IsPps p
unfolding picture_parameter_set_of
picture_set_in_range bytes p e = picture_set_is p (parsed_is PARAMETER_SET_RULES picture_parameter_set (bits bytes) p e)
