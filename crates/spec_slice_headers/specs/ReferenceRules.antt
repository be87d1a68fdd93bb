-- The rules on what a slice refers to, behind the last field that says it (7.4.7.1, 8.3.1, 8.3.2).
use Rattle.std.specs.Prelude.{ℤ, Bool, true, false, ◌||◌, Option, Result, Ok, Err, is_none, nat_lt, if◌then◌else◌}
use Rattle.hv_base.specs.declared.breach.Breach.{Breach}
use Rattle.hv_base.specs.declared.fault.FaultKind.{FaultKind}
use Rattle.hv_base.specs.declared.fault.FaultKind.TheVariants as rule
use Rattle.slice_types.specs.declared.slice.SliceType.{SliceType}
use Rattle.slice_types.specs.declared.slice.SliceType.TheVariants as slice
use Rattle.slice_types.specs.declared.slice.PictureKind.{PictureKind}
use Rattle.slice_types.specs.declared.slice.ReferenceFields.{ReferenceFields}
use Rattle.slice_types.specs.declared.slice.SliceHeaderFields.{SliceHeaderFields}
use Rattle.std.specs.Bool.{beq}
use Rattle.slice_types.specs.Content.{same_references}
use Rattle.spec_parameter_sets.specs.SpecReferencePictures.{pic_order_cnt_val}
use Rattle.spec_parameter_sets.specs.SpecReferencePictures.{reference_picture_set, num_pic_total_curr}
use Rattle.spec_slice_headers.specs.Context.{Context, fault, ◌>>=◌, kept, agrees}

-- whether a slice is an I slice
abbrev pub is_i : SliceType → Bool
is_i slice.B = false
is_i slice.P = false
is_i slice.I = true

-- a rule that is broken, as what stops the reading
abbrev pub as_breach : {X : Type 0} → Result X FaultKind → Result X Breach
as_breach (Ok x) = Ok x
as_breach (Err kind) = Err (fault kind)

-- in the picture's first segment its reference pictures have to be in the decoded picture buffer
abbrev pub references_found : Context → Bool → PictureKind → ReferenceFields → ℤ → Result Bool Breach
references_found c is_first kind references poc =
    if is_first
    then (do
      set ← as_breach (reference_picture_set kind references poc c.former.dpb)
      Ok true)
    else Ok true

-- the picture order count is in range; the fields are those of the picture's first segment; its reference pictures are
-- there; a P or B slice has some. former is the first header of the picture, if that is another one
unfoldable pub judged_references : Context → Option SliceHeaderFields → PictureKind → SliceType → Bool → ReferenceFields
    → Result Bool Breach
judged_references c former kind type output references = do
  poc ← as_breach (pic_order_cnt_val kind references.slice_pic_order_cnt_lsb c.former.prev_tid0_pic_order_cnt)
  same_output ← kept (agrees former (λ h. beq h.slice.pic_output_flag output)) (fault rule.SliceMismatch)
  same ← kept (agrees former (λ h. same_references h.slice.references references)) (fault rule.SliceMismatch)
  there ← references_found c (is_none former) kind references poc
  kept (is_i type || nat_lt 0 (num_pic_total_curr references)) (fault rule.HeaderRange)
