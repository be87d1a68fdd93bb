-- Which pictures a reference picture set keeps, and how many then stay in the buffer.
use Rattle.std.proofs.Common.{◌≡◌, ℤ, true, List, Result, Ok, Err, IfOk}
use Rattle.std.specs.List.{count_by}
use Rattle.hv_base.specs.declared.refusal.Refusal.{Refusal}
use Rattle.header_types.specs.declared.reference_pictures.DpbPicture.{DpbPicture}
use Rattle.header_types.specs.declared.reference_pictures.Rps.{Rps}
use Rattle.slice_types.specs.declared.slice.PictureKind.{PictureKind}
use Rattle.slice_types.specs.declared.slice.ReferenceFields.{ReferenceFields}
use Rattle.slice_types.specs.declared.slice.SliceHeaderFields.{SliceHeaderFields}
use Rattle.header_types.specs.declared.sps.SpsFields.{SpsFields}
use Rattle.header_types.specs.declared.pps.PpsFields.{PpsFields}
use Rattle.spec_reference_pictures.specs.PictureOrderCount.{begins_anew}
use Rattle.spec_reference_pictures.specs.ReferencePictureSet.{GivesSet, is_reference, reference_picture_set}
use Rattle.output_order.specs.SpecOutputOrder.{current_picture}
use Rattle.output_order.specs.SpecOutputOrder.{outputs_of}
use Rattle.output_order.proofs.SpecOutputOrderLemmas.{anew_marks_none}
use Rattle.output_order.proofs.SpecOutputOrderLemmas.{fits}
use Rattle.picture_headers.specs.Bounds.{Fits}
use Rattle.picture_headers.specs.declared.opening.Parts.{Parts}

-- a picture that begins anew keeps none, by what a call answered
pub set_begins_anew : (kind : PictureKind) (references : ReferenceFields) (poc : ℤ) (dpb : List DpbPicture)
    (r : Result Rps Refusal)
    → GivesSet r (reference_picture_set kind references poc dpb)
    → IfOk r (λ (rps : Rps). begins_anew kind ≡ true → count_by is_reference rps.marks ≡ 0)
set_begins_anew kind references poc dpb (Ok rps) gives = λ anew. anew_marks_none kind references poc dpb rps anew gives
set_begins_anew kind references poc dpb (Err e) gives = tt

-- where the buffer has room for a picture of these parts, it holds no more than it may behind it
pub parts_fit : {E : Type 0} (header : SliceHeaderFields) (sps : SpsFields) (pps : PpsFields) (poc : ℤ) (rps : Rps)
    (dpb : List DpbPicture) (r : Result Parts E)
    → IfOk r
    (λ (parts : Parts). parts ≡ record {
      sps = sps;
      pps = pps;
      poc = poc;
      rps = rps;
      outputs = outputs_of (current_picture header sps poc) dpb rps.marks;
    })
    → (begins_anew header.kind ≡ true → count_by is_reference rps.marks ≡ 0)
    → IfOk r (λ (parts : Parts). Fits header.kind parts.sps parts.rps.marks parts.outputs.dpb)
parts_fit header sps pps poc rps dpb (Ok parts) is anew =
    rw is (λ room. fits (current_picture header sps poc) dpb rps.marks room anew)
parts_fit header sps pps poc rps dpb (Err e) is anew = tt
