use Rattle.std.proofs.Common.{◌≡◌, ◌+◌, ◌-◌, ◌*◌, arith, refl}
use Rattle.header_types.specs.SequenceParameterSets.{width_in_ctbs}
use Rattle.sample_words.specs.declared.unit_content.UnitContent.TheVariants.{Carried}
use Rattle.sample_words.specs.Sizes.{columns}
use Rattle.spec_known_units.specs.Known.{units_known}
use Rattle.unit_reach.specs.SpecFlights.{carried_behind}
use Rattle.row_trees.specs.UnitWords.{AreOfCarry}
use Rattle.row_waits.proofs.RowEnds.{carried_inside, carry_are, last_small, place_is, unit_sizes}
use Rattle.row_waits.proofs.carried.read_carry.Goals as goal

pub read_run-requires-clause-flight : goal.read_run-requires-clause-flight
read_run-requires-clause-flight c =
    unit_sizes c.args.board.now.flight c.args.picture.now.layout.now c.requires.picture.flight c.args.picture.now.place
    c.args.row _ c.new-at.result c.new-at.ensures

pub read_run-requires-clause-inside : goal.read_run-requires-clause-inside
read_run-requires-clause-inside c =
    let s = c.args.picture.now.layout.now in
    let x = c.columns.result - 1 in
    let some = c.columns.ensures.some in
    let many = c.columns.ensures.value in
    let end : x + 1 ≡ columns s = omega (arith, some, many) in
    let e = c.unit_shape-shape.ensures in
    let place = place_is s c.args.row x c.from.result c.index_of-first.result _ _ _ (Carried 0)
    c.index_of-first.ensures e.width e.height e.column c.from.ensures in
    carried_inside c.args.board.now.flight s c.requires.picture.flight c.args.picture.now.place c.args.row x
    c.new-at.result c.new-at.ensures end c.index_of-first.result place

pub unpack_carry-requires : goal.unpack_carry-requires
unpack_carry-requires c =
    let s = c.args.picture.now.layout.now in
    let x = c.columns.result - 1 in
    let some = c.columns.ensures.some in
    let many = c.columns.ensures.value in
    let end : x + 1 ≡ columns s = omega (arith, some, many) in
    let e = c.unit_shape-shape.ensures in
    let place = place_is s c.args.row x c.from.result c.index_of-first.result _ _ _ (Carried 0)
    c.index_of-first.ensures e.width e.height e.column c.from.ensures in
    let p = c.args.picture.now.plan.now in
    let a = c.args.row * width_in_ctbs p.sps + (width_in_ctbs p.sps - 1) in
    let are : AreOfCarry c.read_run.new.out (carried_behind (units_known p a)) =
    carry_are c.args.board.now.flight s c.requires.picture.flight c.args.picture.now.place c.args.row x
    c.new-at.result c.new-at.ensures p c.requires.picture.plan c.read_run.new.out c.index_of-first.result 24
    c.read_run.ensures.count c.read_run.ensures.value end refl place in
    last_small c.args.board.now.flight s c.requires.picture.flight c.args.picture.now.place c.args.row x
    c.new-at.result c.new-at.ensures p c.requires.picture.plan c.read_run.new.out c.index_of-first.result 24
    c.read_run.ensures.count c.read_run.ensures.value a are

pub returns-clause-value : goal.returns-clause-value
returns-clause-value c =
    let s = c.args.picture.now.layout.now in
    let x = c.columns.result - 1 in
    let some = c.columns.ensures.some in
    let many = c.columns.ensures.value in
    let end : x + 1 ≡ columns s = omega (arith, some, many) in
    let e = c.unit_shape-shape.ensures in
    let place = place_is s c.args.row x c.from.result c.index_of-first.result _ _ _ (Carried 0)
    c.index_of-first.ensures e.width e.height e.column c.from.ensures in
    let p = c.args.picture.now.plan.now in
    let a = c.args.row * width_in_ctbs p.sps + (width_in_ctbs p.sps - 1) in
    let are : AreOfCarry c.read_run.new.out (carried_behind (units_known p a)) =
    carry_are c.args.board.now.flight s c.requires.picture.flight c.args.picture.now.place c.args.row x
    c.new-at.result c.new-at.ensures p c.requires.picture.plan c.read_run.new.out c.index_of-first.result 24
    c.read_run.ensures.count c.read_run.ensures.value end refl place in
    c.unpack_carry.ensures (carried_behind (units_known p a)) are
