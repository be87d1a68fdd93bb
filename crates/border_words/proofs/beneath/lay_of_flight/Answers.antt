use Rattle.std.proofs.Common.{◌≡◌, ◌≤◌, true, Option, Some, None, ap, sym, ◌∙◌, subst, slice_get, List, length}
use Rattle.std.proofs.Common.{arith}
use Rattle.std.specs.Option.{option_copied}
use Rattle.std.proofs.lemmas.Option.{slice_get_within}
use Rattle.hv_base.specs.declared.line.Phase.TheVariants.{B}
use Rattle.plan_types.specs.declared.picture_plan.PicturePlan.{PicturePlan}
use Rattle.picture_layout.specs.declared.coding_tree_unit.CodingTreeUnit.{CodingTreeUnit}
use Rattle.spec_slice_data.specs.Segment.{PictureShape, row_of}
use Rattle.spec_picture_trees.specs.Places.{unit_places}
use Rattle.spec_picture_trees.specs.Shapes.{picture_shape}
use Rattle.sample_words.specs.declared.sizes.FlightSizes.{FlightSizes}
use Rattle.sample_words.specs.Sizes.{columns, rows}
use Rattle.sample_words.specs.Words.{line_number}
use Rattle.board_core.specs.Places.{line_of}
use Rattle.spec_flights.specs.Rows.{is_sound}
use Rattle.progress_words.specs.Passes.{view}
use Rattle.progress_words.specs.Views.{seen_of}
use Rattle.row_borders.specs.Building.{IsBeneath}
use Rattle.sample_lines.specs.FactsOfFlights.{flight_in}
use Rattle.sample_lines.proofs.FactsOfFlights.{picture_sizes}
use Rattle.border_words.specs.Beneath.{flight_motions}
use Rattle.border_words.proofs.Laying.{width_is}
use Rattle.border_words.proofs.Shapes.{columns_is, row_there, same_side}
use Rattle.border_words.proofs.beneath.lay_of_flight.Goals as goal

pub lay_picture-requires-clause-line : goal.lay_picture-requires-clause-line
lay_picture-requires-clause-line c =
    let facts = c.args.board.now.flight in
    let f = flight_in facts in
    let s = c.args.layout.now in
    let p = c.args.plan.now in
    let q : PicturePlan = c.in-Some.other.now in
    let has : slice_get f.pictures c.args.picture ≡ Some q =
    ap (λ (l : List PicturePlan). slice_get l c.args.picture) (sym c.requires.references.plans)
    ∙ (sym c.plan_at-found.ensures ∙ ap option_copied c.in-Some.is) in
    let sized = picture_sizes facts s c.args.references.now.picture p c.requires.flight c.requires.picture in
    let many : s.pictures ≡ length f.pictures = ap (λ (t : FlightSizes). t.pictures) sized in
    let less = slice_get_within f.pictures c.args.picture q has in
    let row : c.row-row.result ≡ row_of (picture_shape p.sps p.pps) c.args.border.now.unit.address =
    c.row-row.ensures
    ∙ (ap (λ (v : CodingTreeUnit). row_of v.layout v.address) c.unit-unit.ensures
    ∙ ap (λ (t : PictureShape). row_of t c.args.border.now.unit.address) c.requires.border) in
    let there = row_there p (length f.pictures) c.args.border.now.unit.address c.requires.unit in
    let high = ap rows sized in
    record { picture = omega (arith, many, less); row = omega (arith, row, there, high) }

pub lay_picture-requires-clause-picture : goal.lay_picture-requires-clause-picture
lay_picture-requires-clause-picture c =
    ap (λ (l : List PicturePlan). slice_get l c.args.picture) (sym c.requires.references.plans)
    ∙ (sym c.plan_at-found.ensures ∙ ap option_copied c.in-Some.is)

pub lay_picture-requires-clause-seen : goal.lay_picture-requires-clause-seen
lay_picture-requires-clause-seen c =
    let row = c.row-row.ensures ∙ ap (λ (v : CodingTreeUnit). row_of v.layout v.address) c.unit-unit.ensures in
    subst
    (λ r. columns c.args.layout.now
    ≤ seen_of (view c.args.pass.now) (line_number c.args.layout.now (line_of B c.args.picture r)))
    (sym row) c.requires.seen

pub lay_picture-requires-clause-sound : goal.lay_picture-requires-clause-sound
lay_picture-requires-clause-sound c = λ x less.
    let row = c.row-row.ensures ∙ ap (λ (v : CodingTreeUnit). row_of v.layout v.address) c.unit-unit.ensures in
    subst (λ r. is_sound (flight_in c.args.board.now.flight) (line_of B c.args.picture r) x ≡ true) (sym row)
    (c.requires.sound x less)

pub lay_picture-requires-clause-side : goal.lay_picture-requires-clause-side
lay_picture-requires-clause-side c =
    let facts = c.args.board.now.flight in
    let f = flight_in facts in
    let s = c.args.layout.now in
    let p = c.args.plan.now in
    let q : PicturePlan = c.in-Some.other.now in
    let has : slice_get f.pictures c.args.picture ≡ Some q =
    ap (λ (l : List PicturePlan). slice_get l c.args.picture) (sym c.requires.references.plans)
    ∙ (sym c.plan_at-found.ensures ∙ ap option_copied c.in-Some.is) in
    ap (λ (t : PictureShape). unit_places t) c.requires.border
    ∙ same_side p q (length f.pictures)
    (sym (picture_sizes facts s c.args.references.now.picture p c.requires.flight c.requires.picture)
    ∙ picture_sizes facts s c.args.picture q c.requires.flight has)

pub lay_picture-requires-clause-row : goal.lay_picture-requires-clause-row
lay_picture-requires-clause-row c =
    sym (c.row-row.ensures ∙ ap (λ (v : CodingTreeUnit). row_of v.layout v.address) c.unit-unit.ensures)

pub lay_picture-requires-clause-width : goal.lay_picture-requires-clause-width
lay_picture-requires-clause-width c =
    let facts = c.args.board.now.flight in
    let p = c.args.plan.now in
    ap (λ (t : PictureShape). t.width) c.requires.border
    ∙ (width_is p
    ∙ (columns_is p (length (flight_in facts).pictures)
    ∙ ap columns (sym (picture_sizes facts c.args.layout.now c.args.references.now.picture p c.requires.flight
    c.requires.picture))))

pub returns-in-Some-clause-beneath : goal.returns-in-Some-clause-beneath
returns-in-Some-clause-beneath c =
    let f = flight_in c.args.board.now.flight in
    let has : slice_get f.pictures c.args.picture ≡ Some c.in-Some.other.now =
    ap (λ (l : List PicturePlan). slice_get l c.args.picture) (sym c.requires.references.plans)
    ∙ (sym c.plan_at-found.ensures ∙ ap option_copied c.in-Some.is) in
    subst (λ (o : Option PicturePlan). IsBeneath c.lay_picture.new.border (flight_motions f c.args.picture o)) (sym has)
    c.lay_picture.ensures.beneath

pub returns-in-None-clause-beneath : goal.returns-in-None-clause-beneath
returns-in-None-clause-beneath c =
    let f = flight_in c.args.board.now.flight in
    let has : slice_get f.pictures c.args.picture ≡ None =
    ap (λ (l : List PicturePlan). slice_get l c.args.picture) (sym c.requires.references.plans)
    ∙ (sym c.plan_at-found.ensures ∙ ap option_copied c.in-None.is) in
    subst (λ (o : Option PicturePlan). IsBeneath c.clear_beneath.new.self (flight_motions f c.args.picture o))
    (sym has) (λ column row across down. c.clear_beneath.ensures.motion column row)
