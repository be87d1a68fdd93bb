use Rattle.std.proofs.Common.{◌≡◌, ◌+◌, ◌*◌, refl}
use Rattle.header_types.specs.SequenceParameterSets.{width_in_ctbs}
use Rattle.cabac_contexts.specs.Packing.{packed}
use Rattle.sample_words.specs.declared.unit_content.UnitContent.TheVariants.{Contexts}
use Rattle.spec_known_units.specs.Known.{contexts_behind, units_known}
use Rattle.row_waits.proofs.RowEnds.{behind_are, contexts_inside, place_is, stored_are, stored_small, unit_sizes}
use Rattle.row_waits.proofs.carried.read_stored.Goals as goal

pub read_run-requires-clause-flight : goal.read_run-requires-clause-flight
read_run-requires-clause-flight c =
    unit_sizes c.args.board.now.flight c.args.picture.now.layout.now c.requires.picture.flight c.args.picture.now.place
    c.args.row 1 c.new-at.result c.new-at.ensures

pub read_run-requires-clause-inside : goal.read_run-requires-clause-inside
read_run-requires-clause-inside c =
    let s = c.args.picture.now.layout.now in
    let e = c.unit_shape-shape.ensures in
    contexts_inside c.args.board.now.flight s c.requires.picture.flight
    c.args.picture.now.place c.args.row 1 c.new-at.result c.new-at.ensures refl c.index_of-first.result
    (place_is s c.args.row 1 1 c.index_of-first.result _ _ _ (Contexts 0) c.index_of-first.ensures e.width e.height
    e.column refl)

pub unpack_contexts-requires : goal.unpack_contexts-requires
unpack_contexts-requires c =
    let s = c.args.picture.now.layout.now in
    let p = c.args.picture.now.plan.now in
    let a = c.args.row * width_in_ctbs p.sps + 1 in
    let e = c.unit_shape-shape.ensures in
    let same : c.read_run.new.out ≡ packed (contexts_behind (units_known p a)) =
    stored_are c.args.board.now.flight s c.requires.picture.flight c.args.picture.now.place c.args.row 1
    c.new-at.result c.new-at.ensures p c.requires.picture.plan c.read_run.new.out c.index_of-first.result 20
    c.read_run.ensures.count c.read_run.ensures.value refl refl
    (place_is s c.args.row 1 1 c.index_of-first.result _ _ _ (Contexts 0) c.index_of-first.ensures e.width e.height
    e.column refl) in
    stored_small c.args.board.now.flight s c.requires.picture.flight c.args.picture.now.place c.args.row 1
    c.new-at.result c.new-at.ensures p c.requires.picture.plan c.read_run.new.out c.index_of-first.result 20
    c.read_run.ensures.count c.read_run.ensures.value a same

pub returns-clause-value : goal.returns-clause-value
returns-clause-value c =
    let s = c.args.picture.now.layout.now in
    let p = c.args.picture.now.plan.now in
    let a = c.args.row * width_in_ctbs p.sps + 1 in
    let e = c.unit_shape-shape.ensures in
    let same : c.read_run.new.out ≡ packed (contexts_behind (units_known p a)) =
    stored_are c.args.board.now.flight s c.requires.picture.flight c.args.picture.now.place c.args.row 1
    c.new-at.result c.new-at.ensures p c.requires.picture.plan c.read_run.new.out c.index_of-first.result 20
    c.read_run.ensures.count c.read_run.ensures.value refl refl
    (place_is s c.args.row 1 1 c.index_of-first.result _ _ _ (Contexts 0) c.index_of-first.ensures e.width e.height
    e.column refl) in
    c.unpack_contexts.ensures (contexts_behind (units_known p a))
    (behind_are c.args.board.now.flight s c.requires.picture.flight c.args.picture.now.place c.args.row 1
    c.new-at.result c.new-at.ensures p c.requires.picture.plan c.read_run.new.out c.index_of-first.result 20
    c.read_run.ensures.count c.read_run.ensures.value a)
    same
