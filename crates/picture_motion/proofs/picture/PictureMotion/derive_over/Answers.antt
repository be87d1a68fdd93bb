use Rattle.std.proofs.Common.{rules, ◌∙◌}
use Rattle.ctu_motion.specs.Held.{held, held_beneath}
use Rattle.picture_buffer.specs.Motion.{motions_of}
use Rattle.picture_motion.proofs.Derived.{known_is, laid_is}
use Rattle.picture_motion.proofs.picture.PictureMotion.derive_over.Goals as goal

pub returns-clause-last : goal.returns-clause-last
returns-clause-last c = λ each.
    known_is (motions_of c.args.collocated.now) c.args.self.now.plan _ c.args.segment.now c.args.address
    c.args.records.now.items (motions_of c.args.self.now.field) _ c.unit_of-unit.result
    (held c.gather_beneath.new.motion) (held_beneath c.gather_beneath.new.motion) (held c.derive_gathered.new.self.last)
    (search rules) (search rules) c.unit_of-unit.ensures.layout c.unit_of-unit.ensures.slice
    c.unit_of-unit.ensures.address (c.gather_beneath.ensures.places ∙ c.gather_beside.ensures.places)
    (c.gather_beneath.ensures.beneath c.gather_beside.ensures.beneath) (c.derive_gathered.ensures.last each)

pub returns-clause-value : goal.returns-clause-value
returns-clause-value c = λ each.
    laid_is (motions_of c.args.collocated.now) c.args.self.now.plan _ c.args.segment.now c.args.address
    c.args.records.now.items (motions_of c.args.self.now.field) _ (motions_of c.derive_gathered.new.self.field)
    c.unit_of-unit.result (held c.derive_gathered.new.self.last)
    (search rules) (search rules) c.unit_of-unit.ensures.layout c.unit_of-unit.ensures.address
    (known_is (motions_of c.args.collocated.now) c.args.self.now.plan _ c.args.segment.now c.args.address
    c.args.records.now.items (motions_of c.args.self.now.field) _ c.unit_of-unit.result
    (held c.gather_beneath.new.motion) (held_beneath c.gather_beneath.new.motion) (held c.derive_gathered.new.self.last)
    (search rules) (search rules) c.unit_of-unit.ensures.layout c.unit_of-unit.ensures.slice
    c.unit_of-unit.ensures.address (c.gather_beneath.ensures.places ∙ c.gather_beside.ensures.places)
    (c.gather_beneath.ensures.beneath c.gather_beside.ensures.beneath) (c.derive_gathered.ensures.last each))
    c.derive_gathered.ensures.value
