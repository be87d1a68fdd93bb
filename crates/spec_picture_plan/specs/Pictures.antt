-- The pictures of a stream: the groups of its slice segments, with all that their decoding needs (7.4.2.4.4, 8.1, 8.3).
use Rattle.std.specs.Prelude.{ℤ, pos, true, false, [], replicate, Some, None, if◌then◌else◌}
use Rattle.spec_slice_headers.specs.PlanTypes.{PicturePlan}
use Rattle.header_types.specs.declared.former.Sets.{Sets}
use Rattle.header_types.specs.declared.former.Former.{Former}
use Rattle.spec_slice_headers.specs.PlanTypes.{Between}
use Rattle.spec_picture_plan.specs.UnitKinds.{is_order_base}

-- before the first unit
unfoldable pub beginning : Between
beginning = record {
  sets = record { sps = replicate 16 None; pps = replicate 64 None };
  former = record { active = None; first_in_sequence = true; prev_tid0_pic_order_cnt = pos 0; dpb = [] };
  drops_rasl = false;
  picture = None;
}

-- prevTid0Pic's order count behind a picture
abbrev pub prev_after : ℤ → PicturePlan → ℤ
prev_after prev p = if is_order_base p.kind.nal_type p.kind.temporal_id then p.poc else prev

-- what is left to the next picture, once a picture is over
unfoldable pub former_after : Former → PicturePlan → Former
former_after f p = record {
  active = Some p.sps;
  first_in_sequence = false;
  prev_tid0_pic_order_cnt = prev_after f.prev_tid0_pic_order_cnt p;
  dpb = p.outputs.dpb;
}
