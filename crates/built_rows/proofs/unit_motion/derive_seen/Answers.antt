use Rattle.std.proofs.Common.{ap, ◌∙◌, arith, slice_get}
use Rattle.header_types.specs.declared.pps.PpsFields.{PpsFields}
use Rattle.slice_types.specs.declared.slice.SliceHeaderFields.{SliceHeaderFields}
use Rattle.border_words.specs.PictureBuild.{of_slice}
use Rattle.spec_flights.specs.Pictures.{pictures_before}
use Rattle.progress_words.specs.Passes.{view}
use Rattle.border_words.specs.FlightFacts.{flight_in}
use Rattle.built_rows.proofs.Beneath.{unit_here}
use Rattle.built_rows.proofs.Derived.{are_references, beneath_counted, beneath_sound, goes_derived, motion_derived}
use Rattle.built_rows.proofs.Derived.{read_derived, works_derived}
use Rattle.built_rows.proofs.Inside.{address_inside}
use Rattle.built_rows.specs.Stages.{units_in}
use Rattle.built_rows.proofs.unit_motion.derive_seen.Goals as goal

pub lay_beneath-requires-clause-flight : goal.lay_beneath-requires-clause-flight
lay_beneath-requires-clause-flight c = c.requires.picture.flight

pub lay_beneath-requires-clause-references : goal.lay_beneath-requires-clause-references
lay_beneath-requires-clause-references c =
    let e = c.references_of-references.ensures in
    are_references c.args.board.now.flight c.args.picture.now c.references_of-references.result c.requires.picture
    e.plans e.picture e.names e.bases

pub lay_beneath-requires-clause-picture : goal.lay_beneath-requires-clause-picture
lay_beneath-requires-clause-picture c =
    ap (slice_get (flight_in c.args.board.now.flight).pictures) c.references_of-references.ensures.picture
    ∙ c.requires.picture.plan

pub lay_beneath-requires-clause-border : goal.lay_beneath-requires-clause-border
lay_beneath-requires-clause-border c = c.requires.unit.layout

pub lay_beneath-requires-clause-unit : goal.lay_beneath-requires-clause-unit
lay_beneath-requires-clause-unit c =
    let r = c.requires in
    let e = r.address in
    let less =
    address_inside c.args.board.now.flight c.args.picture.now r.picture c.args.at.now r.working.unit r.there in
    omega (arith, e, less)

pub lay_beneath-requires-clause-seen : goal.lay_beneath-requires-clause-seen
lay_beneath-requires-clause-seen c j named =
    let r = c.requires in
    beneath_counted c.args.board.now.flight c.args.picture.now r.picture c.args.at.now r.there (view c.args.pass.now)
    c.args.builder.now r.working r.read c.args.segment.now r.segment r.unit r.address r.seen
    c.references_of-references.result c.references_of-references.ensures.names j named

pub lay_beneath-requires-clause-sound : goal.lay_beneath-requires-clause-sound
lay_beneath-requires-clause-sound c j x named inside =
    let r = c.requires in
    beneath_sound c.args.board.now.flight c.args.picture.now r.picture c.args.at.now r.there (view c.args.pass.now)
    c.args.builder.now r.working r.read c.args.segment.now r.segment r.unit r.address r.seen
    c.references_of-references.result c.references_of-references.ensures.names j named x inside

pub set_slice-requires : goal.set_slice-requires
set_slice-requires c = c.requires.working.depths

pub derive_over-requires : goal.derive_over-requires
derive_over-requires c =
    let r = c.requires in
    record {
      unit = unit_here c.args.board.now.flight c.args.picture.now r.picture c.args.at.now r.working.unit r.there
          (view c.args.pass.now) c.args.builder.now c.args.segment.now r.unit r.address r.read r.left
          c.lay_beneath.new.border c.lay_beneath.ensures.same;
    }

pub returns-clause-working : goal.returns-clause-working
returns-clause-working c =
    let r = c.requires in
    let set =
    c.set_slice.ensures.value
    ∙ (ap (λ (q : PpsFields). of_slice q c.fields.result.now.slice c.args.builder.now.format) c.deref.ensures
    ∙ ap (λ (f : SliceHeaderFields). of_slice c.args.picture.now.plan.now.pps f.slice c.args.builder.now.format)
    c.fields.ensures.value) in
    works_derived c.args.board.now c.args.picture.now r.picture c.args.at.now r.there c.args.pass.now
    c.lay_beneath.new.pass r.own c.lay_beneath.ensures.pass c.args.builder.now r.working r.read r.left
    c.args.segment.now r.segment r.unit r.address c.lay_beneath.new.border c.lay_beneath.ensures.same
    c.set_slice.new.format set c.set_slice.ensures.format c.derive_over.new.built

pub returns-clause-read : goal.returns-clause-read
returns-clause-read c =
    let r = c.requires in
    let set =
    c.set_slice.ensures.value
    ∙ (ap (λ (q : PpsFields). of_slice q c.fields.result.now.slice c.args.builder.now.format) c.deref.ensures
    ∙ ap (λ (f : SliceHeaderFields). of_slice c.args.picture.now.plan.now.pps f.slice c.args.builder.now.format)
    c.fields.ensures.value) in
    read_derived c.args.board.now c.args.picture.now r.picture c.args.at.now r.there c.args.pass.now
    c.lay_beneath.new.pass r.own c.lay_beneath.ensures.pass c.args.builder.now r.working r.read r.left
    c.args.segment.now r.segment r.unit r.address c.lay_beneath.new.border c.lay_beneath.ensures.same
    c.set_slice.new.format set c.set_slice.ensures.format c.derive_over.new.built

pub returns-clause-derived : goal.returns-clause-derived
returns-clause-derived c =
    let r = c.requires in
    let set =
    c.set_slice.ensures.value
    ∙ (ap (λ (q : PpsFields). of_slice q c.fields.result.now.slice c.args.builder.now.format) c.deref.ensures
    ∙ ap (λ (f : SliceHeaderFields). of_slice c.args.picture.now.plan.now.pps f.slice c.args.builder.now.format)
    c.fields.ensures.value) in
    motion_derived c.args.board.now c.args.picture.now r.picture c.args.at.now r.there c.args.pass.now
    c.lay_beneath.new.pass r.own c.lay_beneath.ensures.pass c.args.builder.now r.working r.read r.left
    c.args.segment.now r.segment r.unit r.address c.lay_beneath.new.border c.lay_beneath.ensures.same
    c.set_slice.new.format set c.set_slice.ensures.format c.derive_over.new.built
    r.seen c.references_of-references.result.picture c.references_of-references.ensures.picture
    c.lay_beneath.ensures.beneath c.derive_over.ensures.derived
    (λ number. c.derive_over.ensures.value number
    (pictures_before (flight_in c.args.board.now.flight) c.args.picture.now.place)
    (units_in c.args.board.now.flight c.args.picture.now))

pub returns-clause-kept : goal.returns-clause-kept
returns-clause-kept c =
    let r = c.requires in
    let set =
    c.set_slice.ensures.value
    ∙ (ap (λ (q : PpsFields). of_slice q c.fields.result.now.slice c.args.builder.now.format) c.deref.ensures
    ∙ ap (λ (f : SliceHeaderFields). of_slice c.args.picture.now.plan.now.pps f.slice c.args.builder.now.format)
    c.fields.ensures.value) in
    goes_derived c.args.board.now c.args.picture.now r.picture c.args.at.now r.there c.args.pass.now
    c.lay_beneath.new.pass r.own c.lay_beneath.ensures.pass c.args.builder.now r.working r.read r.left
    c.args.segment.now r.segment r.unit r.address c.lay_beneath.new.border c.lay_beneath.ensures.same
    c.set_slice.new.format set c.set_slice.ensures.format c.derive_over.new.built
