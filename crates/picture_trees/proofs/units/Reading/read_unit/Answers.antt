use Rattle.std.proofs.Common.{◌≤◌, Ok, Err, ap, ◌∙◌, arith}
use Rattle.picture_trees.specs.Reading.{between_of}
use Rattle.unit_trees.specs.CabacContexts.{state_of}
use Rattle.picture_trees.proofs.Keeping.{kept_behind, kept_between, next_unit}
use Rattle.picture_trees.proofs.units.Reading.read_unit.Goals as goal

pub returns-in-Err-clause-value : goal.returns-in-Err-clause-value
returns-in-Err-clause-value c units kept =
    let place = c.column-place in
    next_unit c.args.segment.now.syntax c.args.segment.now.picture c.args.segment.now.shape c.args.address place.result
    (between_of c.args.self.now units) c.args.self.now.beside c.left-on_left.result c.above-on_top.result kept
    place.ensures.below place.ensures.value c.left-on_left.ensures c.above-on_top.ensures
    (Err c.in-Err.breach) c.read_unit.new.records (state_of c.read_unit.new.self.bins) c.in-Err.ensures.value

pub returns-in-Ok-clause-value : goal.returns-in-Ok-clause-value
returns-in-Ok-clause-value c units kept =
    let place = c.column-place in
    next_unit c.args.segment.now.syntax c.args.segment.now.picture c.args.segment.now.shape c.args.address place.result
    (between_of c.args.self.now units) c.args.self.now.beside c.left-on_left.result c.above-on_top.result kept
    place.ensures.below place.ensures.value c.left-on_left.ensures c.above-on_top.ensures
    (Ok c.in-Ok.end) c.read_unit.new.records (state_of c.read_unit.new.self.bins) c.in-Ok.ensures.value
    ∙ ap (λ b. Ok b)
    (kept_between c.args.segment.now.picture c.args.address (between_of c.args.self.now units) c.read_unit.new.self
    c.read_unit.new.records c.keep.new.self c.keep.ensures.reader c.keep.ensures.records c.keep.ensures.stored
    c.in-Ok.ensures.last)

pub returns-in-Ok-clause-kept : goal.returns-in-Ok-clause-kept
returns-in-Ok-clause-kept c units kept =
    let some : 1 ≤ c.args.segment.now.picture.width = omega (arith, c.column-place.ensures.below) in
    rw (c.keep.ensures.beside, c.keep.ensures.records, c.column-place.ensures.value) (kept_behind
    c.args.segment.now.picture c.args.address c.args.self.now.beside units c.read_unit.new.records kept some)
