-- What stands before each picture of a stream that is made (7.4.2.4.4, 8.3.1, C.5.2).
use Rattle.std.specs.Prelude.{ℕ, ◌-◌, ◌%◌, ◌==◌, pos, Bool, true, false, [], Some, None, if◌then◌else◌}
use Rattle.header_types.specs.declared.former.Former.{Former}
use Rattle.spec_slice_headers.specs.Context.{Context}
use Rattle.made_laws.specs.Sets.{made_sets, made_sps}
use Rattle.made_laws.specs.Headers.{nal_type_of, order_at, type_at}
use Rattle.made_laws.specs.Plans.{buffer_behind}

-- the number of the picture before in its group
abbrev pub before : ℕ → ℕ
before g = if g == 0 then 7 else g - 1

-- the order count of the last picture that isn't a B picture
abbrev pub base_before : ℕ → ℕ
base_before g = if g == 0 then 8 else g - g % 2

-- what the pictures before leave to the picture of a number in its group, which may be the first of the stream
abbrev pub former_at : Bool → ℕ → Former
former_at true g = record { active = None; first_in_sequence = true; prev_tid0_pic_order_cnt = pos 0; dpb = [] }
former_at false g = record {
  active = Some made_sps;
  first_in_sequence = false;
  prev_tid0_pic_order_cnt = pos (base_before g);
  dpb = buffer_behind (type_at (before g)) (order_at (before g));
}

-- what the header of a picture is read under, in the unit of a number
abbrev pub context_at : Bool → ℕ → ℕ → Context
context_at first g nal = record {
  nal = nal;
  nal_type = nal_type_of (type_at g);
  temporal_id = 0;
  sets = made_sets;
  former = former_at first g;
  segments = [];
}
