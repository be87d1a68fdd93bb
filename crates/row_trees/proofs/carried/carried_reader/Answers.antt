use Rattle.std.proofs.Common.{◌≡◌, Some, sym, ap, subst, ◌∙◌}
use Rattle.spec_slice_data.specs.Segment.{PictureShape, begins_row}
use Rattle.spec_known_units.specs.Known.{picture_segments, segment_having}
use Rattle.known_engine_laws.proofs.Segments.{some_is}
use Rattle.flight_value_laws.proofs.Within.{shape_of}
use Rattle.row_trees.specs.Reading.{IsCarried}
use Rattle.row_trees.specs.Segments.{SegmentsOf}
use Rattle.row_trees.proofs.Carries.{contexts_small, is_carried, may_resume}
use Rattle.row_trees.proofs.carried.carried_reader.Goals as goal

having : (c : goal.In-Some) → segment_having (picture_segments c.args.segments.now.plan) c.args.address
    ≡ Some c.in-Some.segment
having c = sym c.requires.current ∙ sym (ap (λ (s : SegmentsOf). s.current) c.segments.view_is) ∙ c.in-Some.is

pub reader_in-requires-clause-own : goal.reader_in-requires-clause-own
reader_in-requires-clause-own c =
    c.begins_row-own.ensures.value
    ∙ ap (λ (q : PictureShape). begins_row q c.args.address)
    (sym (shape_of c.args.segments.now.plan c.args.address c.in-Some.segment (having c)))

pub reader_in-requires-clause-contexts : goal.reader_in-requires-clause-contexts
reader_in-requires-clause-contexts c =
    contexts_small c.args.segments.now.plan c.begins_row-own.ensures.in_range c.args.address c.requires.some
    c.requires.inside c.args.carry.now c.requires.carried

pub reader_in-requires-clause-resumed : goal.reader_in-requires-clause-resumed
reader_in-requires-clause-resumed c goes =
    may_resume c.args.segments.now.plan c.begins_row-own.ensures.in_range c.args.address c.requires.some
    c.requires.inside c.args.carry.now c.requires.carried c.in-Some.segment (having c) c.requires.first goes

pub returns-in-Some : goal.returns-in-Some
returns-in-Some c at has =
    let here : segment_having (picture_segments c.args.segments.now.plan) c.args.address ≡ Some c.in-Some.segment =
    sym c.requires.current ∙ sym (ap (λ (s : SegmentsOf). s.current) c.segments.view_is) ∙ c.in-Some.is in
    subst (IsCarried c.args.segments.now.plan c.args.address c.reader_in.result)
    (some_is c.in-Some.segment at (sym here ∙ has))
    (is_carried c.args.segments.now.plan c.begins_row-own.ensures.in_range c.args.address c.requires.some
    c.requires.inside c.args.carry.now c.requires.carried c.in-Some.segment c.reader_in.result here
    c.requires.first c.reader_in.ensures.contexts c.reader_in.ensures.last c.reader_in.ensures.resumed)
