-- The pictures are marked as not needed for output, one after the other.
use Rattle.std.proofs.Common.{ℕ, zero, suc, ◌+◌, ◌<◌, ◌≡◌, List, [], ◌∷◌, ◌++◌, drop, length, take, add-one, arith}
use Rattle.std.proofs.Common.{refl, ap}
use Rattle.header_types.specs.declared.reference_pictures.DpbPicture.{DpbPicture}
use Rattle.spec_output_order.specs.OutputOrder.{discarded, not_needed, not_needed_at}

abbrev so_far : List DpbPicture → ℕ → List DpbPicture
so_far pictures i = discarded (take i pictures) ++ drop i pictures

one_more_at : (pictures : List DpbPicture) (i : ℕ) → i < length pictures
    → not_needed_at (so_far pictures i) i ≡ so_far pictures (suc i)
one_more_at [] i l = absurd (omega arith)
one_more_at (p ∷ pictures) zero l = refl
one_more_at (p ∷ pictures) (suc i) l =
    ap (λ (rest : List DpbPicture). not_needed p ∷ rest) (one_more_at pictures i (omega arith))

-- one more picture isn't needed for output
pub one_more : (pictures left : List DpbPicture) (i : ℕ) → i < length pictures
    → left ≡ discarded (take i pictures) ++ drop i pictures
    → not_needed_at left i ≡ discarded (take (i + 1) pictures) ++ drop (i + 1) pictures
one_more pictures left i l told = rw (told, add-one) (one_more_at pictures i l)
