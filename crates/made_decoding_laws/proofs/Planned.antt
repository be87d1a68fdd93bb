-- The pictures that are planned of a made stream are decoded as they are drawn.
use Rattle.std.proofs.Common.{◌≡◌, ℕ, ◌+◌, ◌*◌, ◌%◌, ◌<◌, true, List, sym, ap, subst, ◌∙◌, arith}
use Rattle.std.specs.Prelude.{◌==◌, slice_index_or}
use Rattle.std.proofs.lemmas.List.FromFn.{get_or-map-range_with_len}
use Rattle.plan_types.specs.declared.picture_plan.PicturePlan.{PicturePlan}
use Rattle.spec_picture_plan.specs.Planned.{Planned, planned_of}
use Rattle.spec_picture_build.specs.References.{DecodedPicture}
use Rattle.spec_made.specs.Stream.{Making, made}
use Rattle.made_laws.specs.Streams.{hashes_at, making_at, number_of, plan_of}
use Rattle.made_laws.proofs.Whole.{plan_is}
use Rattle.made_picture_laws.specs.Pictures.{IsDecodedAs}
use Rattle.made_stream_laws.proofs.Plans.{picture_read_as}
use Rattle.made_decoding_laws.specs.References.{HasReferences, planes_of}
use Rattle.made_decoding_laws.proofs.Each.{each_decoded}
use Rattle.made_decoding_laws.proofs.Ranges.{are_made}

-- the picture of a number in the stream of a seed
pub number_decoded : (seed j : ℕ) (buffer : List DecodedPicture) → HasReferences (j % 8) (making_at seed j) buffer
    → IsDecodedAs buffer (plan_of seed j) (planes_of seed j)
number_decoded seed j buffer has =
    let m : Making = making_at seed j in
    each_decoded (j == 0) (j % 8) (number_of (2 + 2 * j)) m (hashes_at j (j % 8) m) buffer (are_made seed j) has
    (picture_read_as seed j)

pub all_decoded : (seed pictures j : ℕ) (d : PicturePlan) (buffer : List DecodedPicture) → j < pictures
    → HasReferences (j % 8) (making_at seed j) buffer
    → IsDecodedAs buffer (slice_index_or (planned_of true (made seed pictures)).pictures j d) (planes_of seed j)
all_decoded seed pictures j d buffer inside has =
    let at : slice_index_or (planned_of true (made seed pictures)).pictures j d ≡ plan_of seed j =
    ap (λ (p : Planned). slice_index_or p.pictures j d) (plan_is seed pictures)
    ∙ get_or-map-range_with_len (plan_of seed) 0 pictures j j d inside (omega arith) in
    subst (λ (p : PicturePlan). IsDecodedAs buffer p (planes_of seed j)) (sym at) (number_decoded seed j buffer has)
