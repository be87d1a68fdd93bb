-- What intra blocks are predicted from.
use Rattle.std.proofs.Common.{◌≡◌, ℕ, true, false, List, refl, ap, ◌∙◌, ◌^◌}
use Rattle.std.proofs.Math.Path.{fun_ext}
use Rattle.ctu_build.specs.declared.place.Place.{Place}
use Rattle.ctu_build.specs.Inter.{intra_known}
use Rattle.spec_intra_prediction.specs.Neighbours.{beside}
use Rattle.spec_intra_prediction.specs.Substitution.{substituted}
use Rattle.spec_motion.specs.Vectors as vectors
use Rattle.spec_reconstruction.specs.declared.format.UnitFormat.{UnitFormat}
use Rattle.spec_reconstruction.specs.Known.{Known}
use Rattle.spec_reconstruction.specs.Parameters.{depth_of}
use Rattle.spec_reconstruction.specs.Prediction.{offered}

all_at : (format : UnitFormat) (motion : vectors.Known) (known : Known) → format.constrained_intra ≡ false
    → (c i j : ℕ) → known c i j ≡ offered format motion known c i j
unfolding offered
all_at format motion known e c i j = rw e refl

intra_at : (format : UnitFormat) (motion : vectors.Known) (known : Known) → format.constrained_intra ≡ true
    → (c i j : ℕ) → intra_known motion known c i j ≡ offered format motion known c i j
unfolding offered intra_known
intra_at format motion known e c i j = rw e refl

-- the neighbours of a block where prediction isn't constrained, and where it is
pub all_gathered : (format : UnitFormat) (motion : vectors.Known) (known : Known) (place : Place) (depth : ℕ)
    (edge : List ℕ)
    → format.constrained_intra ≡ false → depth ≡ depth_of format place.c
    → edge ≡ substituted depth (beside (known place.c) (2 ^ place.log2) place.x place.y)
    → edge
    ≡ substituted (depth_of format place.c)
    (beside (offered format motion known place.c) (2 ^ place.log2) place.x place.y)
all_gathered format motion known place depth edge e deep told =
    told
    ∙ ap (λ (d : ℕ). substituted d (beside (known place.c) (2 ^ place.log2) place.x place.y)) deep
    ∙ ap (λ (k : Known). substituted (depth_of format place.c) (beside (k place.c) (2 ^ place.log2) place.x place.y))
    (fun_ext (λ c. fun_ext (λ i. fun_ext (λ j. all_at format motion known e c i j))))

pub intra_gathered : (format : UnitFormat) (motion : vectors.Known) (known : Known) (place : Place) (depth : ℕ)
    (edge : List ℕ)
    → format.constrained_intra ≡ true → depth ≡ depth_of format place.c
    → edge ≡ substituted depth (beside (intra_known motion known place.c) (2 ^ place.log2) place.x place.y)
    → edge
    ≡ substituted (depth_of format place.c)
    (beside (offered format motion known place.c) (2 ^ place.log2) place.x place.y)
intra_gathered format motion known place depth edge e deep told =
    told
    ∙ ap (λ (d : ℕ). substituted d (beside (intra_known motion known place.c) (2 ^ place.log2) place.x place.y)) deep
    ∙ ap (λ (k : Known). substituted (depth_of format place.c) (beside (k place.c) (2 ^ place.log2) place.x place.y))
    (fun_ext (λ c. fun_ext (λ i. fun_ext (λ j. intra_at format motion known e c i j))))
