-- The pictures of the buffer with their marks.
use Rattle.std.proofs.Common.{ℕ, ◌≤◌, ◌≡◌, ◌∙◌, List, ◌++◌, drop, length, sym}
use Rattle.std.proofs.lemmas.List.{append-nil, drop_all}
use Rattle.header_types.specs.declared.reference_pictures.DpbPicture.{DpbPicture}
use Rattle.header_types.specs.declared.reference_pictures.Mark.{Mark}
use Rattle.spec_output_order.specs.OutputOrder.{all_marked}

-- behind the last picture nothing is left to be marked
pub are_all : (dpb : List DpbPicture) (marks : List Mark) (i : ℕ) (front whole : List DpbPicture) → length dpb ≤ i
    → front ++ all_marked (drop i dpb) (drop i marks) ≡ whole → front ≡ whole
are_all dpb marks i front whole h told =
    let told' = rw (drop_all i dpb h) at told in
    sym (append-nil front) ∙ told'
