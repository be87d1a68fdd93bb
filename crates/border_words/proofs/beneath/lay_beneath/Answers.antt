use Rattle.std.proofs.Common.{◌≡◌, Option, Some, None, ap, sym, ◌∙◌, subst}
use Rattle.std.specs.Option.{option_and_then}
use Rattle.header_types.specs.declared.reference_pictures.RefEntry.{RefEntry}
use Rattle.spec_picture_trees.specs.Shapes.{slice_start}
use Rattle.spec_picture_motion.specs.Derived.{collocated_motions}
use Rattle.spec_picture_motion.specs.Slices.{collocated_entry}
use Rattle.spec_picture_build.specs.References.{motions_of}
use Rattle.spec_flights.specs.Pictures.{pictures_before}
use Rattle.spec_flights.specs.References.{named}
use Rattle.row_borders.specs.Building.{IsBeneath}
use Rattle.sample_lines.specs.FactsOfFlights.{flight_in}
use Rattle.border_words.proofs.beneath.lay_beneath.Goals as goal

pub lay_named-requires-clause-seen : goal.lay_named-requires-clause-seen
lay_named-requires-clause-seen c = λ j has.
    let s = c.args.segment.now in
    let is : collocated_entry s.header.slice (slice_start c.args.plan.now s).lists ≡ Some c.in-Some.entry =
    sym (c.collocated_entry-named.ensures
    ∙ (λ t. collocated_entry (c.fields-fields.ensures.value t).slice (c.slice_of-start.ensures t).lists))
    ∙ c.in-Some.is in
    c.requires.seen j (ap (option_and_then (named c.args.references.now.names.now)) is ∙ has)

pub lay_named-requires-clause-sound : goal.lay_named-requires-clause-sound
lay_named-requires-clause-sound c = λ j x has.
    let s = c.args.segment.now in
    let is : collocated_entry s.header.slice (slice_start c.args.plan.now s).lists ≡ Some c.in-Some.entry =
    sym (c.collocated_entry-named.ensures
    ∙ (λ t. collocated_entry (c.fields-fields.ensures.value t).slice (c.slice_of-start.ensures t).lists))
    ∙ c.in-Some.is in
    c.requires.sound j x (ap (option_and_then (named c.args.references.now.names.now)) is ∙ has)

pub returns-in-Some-clause-beneath : goal.returns-in-Some-clause-beneath
returns-in-Some-clause-beneath c =
    let s = c.args.segment.now in
    let is : collocated_entry s.header.slice (slice_start c.args.plan.now s).lists ≡ Some c.in-Some.entry =
    sym (c.collocated_entry-named.ensures
    ∙ (λ t. collocated_entry (c.fields-fields.ensures.value t).slice (c.slice_of-start.ensures t).lists))
    ∙ c.in-Some.is in
    subst
    (λ (o : Option RefEntry). IsBeneath c.lay_named.new.border
    (collocated_motions
    (motions_of (pictures_before (flight_in c.args.board.now.flight) c.args.references.now.picture)) o))
    (sym is) c.lay_named.ensures.beneath

pub returns-in-None-clause-beneath : goal.returns-in-None-clause-beneath
returns-in-None-clause-beneath c =
    let s = c.args.segment.now in
    let is : collocated_entry s.header.slice (slice_start c.args.plan.now s).lists ≡ None =
    sym (c.collocated_entry-named.ensures
    ∙ (λ t. collocated_entry (c.fields-fields.ensures.value t).slice (c.slice_of-start.ensures t).lists))
    ∙ c.in-None.is in
    subst
    (λ (o : Option RefEntry). IsBeneath c.clear_beneath.new.self
    (collocated_motions
    (motions_of (pictures_before (flight_in c.args.board.now.flight) c.args.references.now.picture)) o))
    (sym is) (λ column row across down. c.clear_beneath.ensures.motion column row)
