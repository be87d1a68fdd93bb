-- The motion that is known beside a unit, gathered row and column.
use Rattle.std.proofs.Common.{◌≡◌, ℕ, ◌*◌, ◌==◌, ◌&&◌, cond, nat_le, None, arith}
use Rattle.std.proofs.Math.Path.{fun_ext}
use Rattle.std.proofs.lemmas.Bool.Decides.{nat_tests}
use Rattle.ctu_motion.specs.Held.{Cells, held}
use Rattle.spec_picture_motion.specs.SpecPictureTrees.{unit_places}
use Rattle.spec_picture_motion.specs.Field.{Motions, known_beside}
use Rattle.picture_motion.specs.Units.{at_border}
use Rattle.picture_layout.specs.declared.coding_tree_unit.CodingTreeUnit.{CodingTreeUnit}

beside_at : (unit : CodingTreeUnit) (motions : Motions) (none above left : Cells) (i j : ℕ) → held none i j ≡ None
    → held above i j
    ≡ cond (j == 0 && nat_le i (2 * unit_places unit.layout)) (at_border unit motions i 0) (held none i j)
    → held left i j
    ≡ cond (i == 0 && (nat_le 1 j && nat_le j (unit_places unit.layout))) (at_border unit motions 0 j) (held above i j)
    → held left i j ≡ known_beside unit.layout unit.slice unit.address motions i j
unfolding known_beside
beside_at unit motions none above left i j n a l = grind (arith, nat_tests)

pub gathered : (unit : CodingTreeUnit) (motions : Motions) (none above left : Cells)
    → ((i j : ℕ) → held none i j ≡ None)
    → ((i j : ℕ)
    → held above i j
    ≡ cond (j == 0 && nat_le i (2 * unit_places unit.layout)) (at_border unit motions i 0) (held none i j))
    → ((i j : ℕ)
    → held left i j
    ≡ cond (i == 0 && (nat_le 1 j && nat_le j (unit_places unit.layout))) (at_border unit motions 0 j) (held above i j))
    → held left ≡ known_beside unit.layout unit.slice unit.address motions
gathered unit motions none above left n a l =
    fun_ext (λ i. fun_ext (λ j. beside_at unit motions none above left i j (n i j) (a i j) (l i j)))
