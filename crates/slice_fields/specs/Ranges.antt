-- The ranges of what is read of a slice.
use Rattle.std.specs.Prelude.{ℕ, ◌<◌, ◌≤◌, length}
use Rattle.slice_types.specs.declared.slice.ReferenceFields.{ReferenceFields}
use Rattle.header_types.specs.ReferencePictures.{IsStRps}

-- the reference fields of a slice, under MaxPicOrderCntLsb
pub record AreReferences (max_lsb : ℕ) (r : ReferenceFields) : Type 0 where
  pub lsb : r.slice_pic_order_cnt_lsb < max_lsb
  pub set : IsStRps 79 r.short_term_ref_pic_set
  pub long : length r.long_term.entries ≤ 33
