use Rattle.std.proofs.Common.{◌≡◌, ℕ, ◌+◌, ◌-◌, ◌*◌, ◌^◌, arith, ap, sym, refl, ◌∙◌, subst}
use Rattle.std.proofs.Common.{length}
use Rattle.picture_layout.specs.declared.coding_tree_unit.CodingTreeUnit.{CodingTreeUnit}
use Rattle.picture_layout.specs.Shape.{IsShape}
use Rattle.spec_slice_data.specs.Segment.{PictureShape}
use Rattle.spec_picture_trees.specs.Places.{unit_places}
use Rattle.spec_picture_trees.specs.Shapes.{picture_shape}
use Rattle.spec_flights.specs.SpecDecodedPictures.{DecodedUnits}
use Rattle.spec_flights.specs.Pictures.{folded_at}
use Rattle.sample_words.specs.declared.unit_content.UnitContent.TheVariants.{Modes}
use Rattle.row_borders.specs.Next.{HasPlaces}
use Rattle.sample_lines.specs.FactsOfFlights.{flight_in}
use Rattle.sample_lines.proofs.FactsOfFlights.{picture_sizes}
use Rattle.border_words.specs.Units.{address_at, word_in}
use Rattle.border_words.proofs.Above.{is_above, place_moved}
use Rattle.border_words.proofs.Laying.{lowest_row, places_end, places_fit, width_is}
use Rattle.border_words.proofs.Places.{column_inside}
use Rattle.border_words.proofs.Shapes.{some_places}
use Rattle.border_words.proofs.places_above.lay_places_above.Goals as goal

pub read_lowest-requires-clause-some : goal.read_lowest-requires-clause-some
read_lowest-requires-clause-some c =
    let p = c.args.plan.now in
    let facts = c.args.board.now.flight in
    let rows = c.new-words.ensures.words.rows in
    let down = c.words_are_of_kept_places.ensures.down facts c.args.at.now p c.requires.unit c.requires.below in
    let some = some_places p (c.requires.unit.flight.range.plans c.args.at.now.line.picture p
    c.requires.unit.picture).sps (length (flight_in facts).pictures) in
    omega (arith, rows, down, some)

pub lay_places-requires-clause-layout : goal.lay_places-requires-clause-layout
lay_places-requires-clause-layout c =
    c.unit_of-unit.ensures.layout ∙ (ap (λ (v : CodingTreeUnit). v.layout) c.unit-here.ensures ∙ c.requires.border)

pub lay_places-requires-clause-few : goal.lay_places-requires-clause-few
lay_places-requires-clause-few c =
    let count = c.read_lowest.ensures.count in
    let few = c.new-words.ensures.words.few_columns in
    omega (arith, count, few)

pub lay_places-requires-clause-inside : goal.lay_places-requires-clause-inside
lay_places-requires-clause-inside c =
    let u = c.args.at.now in
    let p = c.args.plan.now in
    let facts = c.args.board.now.flight in
    let tree = c.requires.unit in
    let q : PictureShape = picture_shape p.sps p.pps in
    let same : c.unit-here.result.layout ≡ q =
    ap (λ (v : CodingTreeUnit). v.layout) c.unit-here.ensures ∙ c.requires.border in
    let side : c.side-side.result ≡ unit_places q =
    c.side-side.ensures.value ∙ ap (λ (s : PictureShape). 2 ^ s.size) same in
    let first : c.side-side.result * c.unit-column.result ≡ unit_places q * u.unit =
    λ t. side t * c.unit-column.ensures.value t in
    let sized = picture_sizes facts u.sizes u.line.picture p tree.flight tree.picture in
    let shape : IsShape q = subst IsShape same c.unit_of-unit.ensures.shape in
    let count = c.read_lowest.ensures.count ∙ (c.new-words.ensures.words.columns
    ∙ c.words_are_of_kept_places.ensures.across facts u p tree) in
    let fit = places_fit p u.unit c.read_lowest.new.above.count shape (column_inside facts u p tree sized) count in
    let wide : c.args.border.now.unit.layout.across ≡ q.across =
    ap (λ (s : PictureShape). s.across) c.requires.border in
    omega (arith, first, fit, wide)

pub returns-clause-places : goal.returns-clause-places
returns-clause-places c = λ has.
    let u = c.args.at.now in
    let p = c.args.plan.now in
    let facts = c.args.board.now.flight in
    let tree = c.requires.unit in
    let q : PictureShape = picture_shape p.sps p.pps in
    let n : ℕ = unit_places q in
    let row : ℕ = u.line.row in
    let units : DecodedUnits = folded_at (flight_in facts) u.line.picture in
    let same : c.unit-here.result.layout ≡ q =
    ap (λ (v : CodingTreeUnit). v.layout) c.unit-here.ensures ∙ c.requires.border in
    let side : c.side-side.result ≡ n = c.side-side.ensures.value ∙ ap (λ (s : PictureShape). 2 ^ s.size) same in
    let first : c.side-side.result * c.unit-column.result ≡ n * u.unit =
    λ t. side t * c.unit-column.ensures.value t in
    let words = c.new-words.ensures.words in
    let laws = c.words_are_of_kept_places.ensures in
    let down = laws.down facts u p tree c.requires.below in
    let some = some_places p (tree.flight.range.plans u.line.picture p tree.picture).sps
    (length (flight_in facts).pictures) in
    let address : c.unit_of-unit.result.address ≡ address_at p u =
    c.unit_of-unit.ensures.address
    ∙ (ap (λ (s : PictureShape). u.line.row * s.width + u.unit) same
    ∙ ap (λ w. u.line.row * w + u.unit) (width_is p)) in
    let lowest = lowest_row n row c.new-words.result.rows some (words.rows ∙ down) in
    let count = c.read_lowest.ensures.count in
    let rows = words.rows in
    let columns = words.columns in
    let laid = c.lay_places.ensures.places units (row + 1)
    (λ i less.
    place_moved p units c.unit_of-unit.result.address (address_at p u) _ _ _ _ _ _ _ _ address
    (ap (λ m. m + i) first) lowest (c.read_lowest.ensures.vectors i (omega (arith, less, count)))
    (c.read_lowest.ensures.modes i (omega (arith, less, count)))
    (laws.place facts u p i (c.new-words.result.rows - 1) tree (omega (arith, less, count, columns))
    (omega (arith, rows, down, some))))
    (subst (λ e. HasPlaces q (row + 1) c.args.border.now.above units e) (sym first) has) in
    places_end q (row + 1) c.lay_places.new.border.above units n u.unit c.read_lowest.new.above.count
    (count ∙ (columns ∙ laws.across facts u p tree))
    (subst (λ e. HasPlaces q (row + 1) c.lay_places.new.border.above units (e + c.read_lowest.new.above.count)) first
    laid)

pub returns-clause-above : goal.returns-clause-above
returns-clause-above c =
    let u = c.args.at.now in
    let p = c.args.plan.now in
    let facts = c.args.board.now.flight in
    let tree = c.requires.unit in
    let n : ℕ = unit_places (picture_shape p.sps p.pps) in
    let f = flight_in facts in
    let words = c.new-words.ensures.words in
    let sized = picture_sizes facts u.sizes u.line.picture p tree.flight tree.picture in
    let down = c.words_are_of_kept_places.ensures.down facts u p tree c.requires.below in
    let count = c.read_lowest.ensures.count in
    let few = words.few_columns in
    is_above f p u c.read_lowest.new.above n sized refl (count ∙ words.columns) (omega (arith, count, few))
    c.read_lowest.ensures.long
    (λ i less. c.read_lowest.ensures.modes i (omega (arith, less, count))
    ∙ ap (λ m. word_in f u (Modes i (m - 1))) (words.rows ∙ down))
    c.read_lowest.ensures.offsets
