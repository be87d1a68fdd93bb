use Rattle.std.proofs.Common.{ap, sym, ◌∙◌, slice_get}
use Rattle.spec_picture_motion.specs.Field.{motion_of}
use Rattle.row_above_laws.specs.UnitWords.{KnownPlace}
use Rattle.border_words.specs.Kept.{motion_in_segment, pointing_in}
use Rattle.border_words.proofs.kept_places.keep_place.Goals as goal

pub returns-clause-value : goal.returns-clause-value
returns-clause-value c = λ motion coded are.
    let p = c.args.plan.now in
    let a = c.args.unit.now.address in
    let known = c.unpack_place-place.ensures (motion_of motion) are.modes are.words in
    let number = c.go_to.ensures.number ∙ ap (λ (k : KnownPlace). k.modes.segment) known in
    let kept = c.pointing-motion.ensures
    ∙ (ap (λ slice. pointing_in slice c.unpack_place-place.result.motion) c.go_to.ensures.slice
    ∙ (ap (λ n. pointing_in (motion_in_segment p a (slice_get p.segments n)) c.unpack_place-place.result.motion) number
    ∙ (ap (λ (k : KnownPlace). pointing_in (motion_in_segment p a (slice_get p.segments are.modes.segment)) k.motion)
    known
    ∙ sym are.kept))) in
    let flag = ap (λ (k : KnownPlace). k.modes.coded) known ∙ are.flag in
    λ t. record { motion = kept t; coded = flag t }
