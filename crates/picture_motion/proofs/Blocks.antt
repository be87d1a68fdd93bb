-- The motion of the collocated picture, gathered row after row.
use Rattle.std.proofs.Common.{◌≡◌, ℕ, ◌*◌, ◌&&◌, cond, nat_le, nat_lt, None, arith}
use Rattle.std.proofs.Math.Path.{fun_ext}
use Rattle.std.proofs.lemmas.Bool.Decides.{nat_tests}
use Rattle.spec_motion.specs.Vectors.{Beneath}
use Rattle.spec_picture_motion.specs.Field.{Motions, beneath_unit}
use Rattle.spec_picture_motion.specs.SpecPictureTrees.{unit_places}
use Rattle.spec_picture_motion.specs.SpecSliceData.{PictureShape}

blocks_at : (picture : PictureShape) (address : ℕ) (motions : Motions) (old new : Beneath) (i j : ℕ) → old i j ≡ None
    → new i j ≡ cond (nat_le (4 * i) (unit_places picture) && nat_lt (4 * j) (unit_places picture))
    (beneath_unit picture address motions i j) (old i j)
    → new i j ≡ beneath_unit picture address motions i j
unfolding beneath_unit
blocks_at picture address motions old new i j none e = grind (arith, nat_tests)

pub blocks_gathered : (picture : PictureShape) (address : ℕ) (motions : Motions) (old new : Beneath)
    → ((i j : ℕ) → old i j ≡ None)
    → ((i j : ℕ) → new i j ≡ cond (nat_le (4 * i) (unit_places picture) && nat_lt (4 * j) (unit_places picture))
    (beneath_unit picture address motions i j) (old i j))
    → new ≡ beneath_unit picture address motions
blocks_gathered picture address motions old new none e =
    fun_ext (λ i. fun_ext (λ j. blocks_at picture address motions old new i j (none i j) (e i j)))
