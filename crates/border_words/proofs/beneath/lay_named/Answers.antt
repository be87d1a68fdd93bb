use Rattle.std.proofs.Common.{Some, ap, sym, ◌∙◌, subst, refl, slice_get, List}
use Rattle.flight_plan.specs.declared.row_range.Reference.{Reference}
use Rattle.spec_picture_motion.specs.Field.{Motions}
use Rattle.row_borders.specs.Building.{IsBeneath}
use Rattle.sample_lines.specs.FactsOfFlights.{flight_in}
use Rattle.border_words.proofs.Named.{no_name, reference_name}
use Rattle.border_words.proofs.beneath.lay_named.Goals as goal

pub lay_reference-requires-clause-seen : goal.lay_reference-requires-clause-seen
lay_reference-requires-clause-seen c = λ j is.
    c.requires.seen j (sym c.name_at-name.ensures ∙ (c.in-Some.is ∙ ap Some is))

pub lay_reference-requires-clause-sound : goal.lay_reference-requires-clause-sound
lay_reference-requires-clause-sound c = λ j x is.
    c.requires.sound j x (sym c.name_at-name.ensures ∙ (c.in-Some.is ∙ ap Some is))

pub returns-in-Some-clause-beneath : goal.returns-in-Some-clause-beneath
returns-in-Some-clause-beneath c =
    let f = flight_in c.args.board.now.flight in
    let r = c.args.references.now in
    let has = ap (λ (l : List Reference). slice_get l c.args.place) (sym c.requires.references.names)
    ∙ (sym c.name_at-name.ensures ∙ c.in-Some.is) in
    subst (λ (m : Motions). IsBeneath c.lay_reference.new.border m)
    (sym (reference_name f r.picture (c.names_stand_for_the_pictures_of_the_buffer.ensures f r.picture) r.bases.now
    c.args.board.now.flight.bases.value refl c.requires.references.bases c.args.place c.in-Some.reference has))
    c.lay_reference.ensures.beneath

pub returns-in-None-clause-beneath : goal.returns-in-None-clause-beneath
returns-in-None-clause-beneath c =
    let f = flight_in c.args.board.now.flight in
    let r = c.args.references.now in
    let has = ap (λ (l : List Reference). slice_get l c.args.place) (sym c.requires.references.names)
    ∙ (sym c.name_at-name.ensures ∙ c.in-None.is) in
    subst (λ (m : Motions). IsBeneath c.clear_beneath.new.self m)
    (sym (no_name f r.picture (c.names_stand_for_the_pictures_of_the_buffer.ensures f r.picture) c.args.place has))
    (λ column row across down. c.clear_beneath.ensures.motion column row)
