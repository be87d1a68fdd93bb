use Rattle.std.proofs.Common.{◌≡◌, ap, ◌∙◌, slice_get}
use Rattle.sample_words.specs.declared.modes.PlaceModes.{PlaceModes}
use Rattle.sample_words.specs.Values.{modes_in, motion_in}
use Rattle.row_above_laws.specs.FlightValueLaws.{motion_where}
use Rattle.taken_pictures.specs.Kept.{motion_in_segment, pointing_in}
use Rattle.taken_pictures.proofs.Kept.{kept_is}
use Rattle.taken_pictures.proofs.kept_places.kept_motion.Goals as goal

pub returns-clause-value : goal.returns-clause-value
returns-clause-value c =
    let p = c.args.plan.now in
    let a = c.args.unit.now.address in
    let number = c.go_to.ensures.number ∙ ap (λ (m : PlaceModes). m.segment) c.unpack_modes.ensures in
    let slice : c.go_to.new.self.slice
    ≡ motion_in_segment p a (slice_get p.segments (modes_in c.args.modes).segment) =
    c.go_to.ensures.slice ∙ ap (λ n. motion_in_segment p a (slice_get p.segments n)) number in
    let motion : c.motion_where.result ≡ motion_where (motion_in c.args.vectors c.args.modes) =
    c.motion_where.ensures ∙ ap motion_where c.unpack_motion.ensures in
    c.pointing.ensures ∙ ((λ t. pointing_in (slice t) (motion t)) ∙ kept_is p a c.args.vectors c.args.modes)
