use Rattle.std.proofs.Common.{rules, ◌+◌, ◌-◌, ◌*◌, ◌<◌, arith, ◌∙◌, ap, subst, take, List, ℕ}
use Rattle.header_types.specs.SequenceParameterSets.{width_in_ctbs}
use Rattle.ctu_records.specs.Tree.{Ctu}
use Rattle.spec_known_units.specs.Known.{ctu_of, units_known}
use Rattle.spec_picture_trees.specs.Places.{unit_places}
use Rattle.spec_picture_trees.specs.Shapes.{picture_shape}
use Rattle.row_above_laws.specs.UnitTrees.{bottom_of}
use Rattle.row_above_laws.specs.UnitWords.{AreBottom}
use Rattle.border_words.proofs.Above.{unit_above}
use Rattle.border_words.proofs.unit_above.UnitAbove.bottom.Goals as goal

pub returns : goal.returns
returns c = λ f k row x p range has lower less is.
    let above = c.args.self.now in
    let n : ℕ = unit_places (picture_shape p.sps p.pps) in
    let some : 0 < row + 1 = omega arith in
    let are = c.expected_words_are_of_their_places.ensures.lowest f k (row + 1) x p (take above.count above.modes)
    above.offsets range has some lower is.words in
    let bottom = c.words_above_are_of_their_units.ensures.bottom f k (row + 1) x p (take above.count above.modes)
    above.offsets range has some lower less are in
    let ctu : Ctu = ctu_of (picture_shape p.sps p.pps) (units_known p ((row + 1 - 1) * width_in_ctbs p.sps + x)) in
    c.unpack_bottom.ensures n ctu
    (subst (λ (words : List ℕ). AreBottom n ctu words above.offsets) (search rules) bottom)
    ∙ ap (bottom_of n) (unit_above p row x)
