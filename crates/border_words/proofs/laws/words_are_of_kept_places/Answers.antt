use Rattle.std.proofs.Common.{◌≡◌, ℕ, ◌+◌, ◌-◌, ◌/◌, ◌<◌, ap, sym, subst, ◌∙◌, arith, length}
use Rattle.sample_words.specs.declared.sizes.FlightSizes.{FlightSizes}
use Rattle.sample_words.specs.declared.unit_content.UnitContent.{UnitContent}
use Rattle.sample_words.specs.declared.unit_content.UnitContent.TheVariants.{Modes, Vectors}
use Rattle.sample_words.specs.Sizes.{height_of, width_of}
use Rattle.row_above_laws.specs.Above.{content_in}
use Rattle.spec_flights.specs.Words.{flight_sizes}
use Rattle.sample_lines.specs.FactsOfFlights.{flight_in}
use Rattle.border_words.specs.Units.{address_at, column_at, row_at, word_in}
use Rattle.border_words.proofs.Places.{address_inside, column_inside, known_there, place_is}
use Rattle.border_words.proofs.laws.words_are_of_kept_places.Goals as goal

pub returns-clause-place : goal.returns-clause-place
returns-clause-place c facts u p i j is across down =
    let f = flight_in facts in
    let k : ℕ = u.line.picture in
    let row : ℕ = u.line.row in
    let x : ℕ = u.unit in
    let sized = c.pictures_have_the_sizes_of_their_flight.ensures.picture facts u.sizes k p is.flight is.picture in
    let there : i < width_of (flight_sizes p.sps (length f.pictures)) x / 4 =
    subst (λ (s : FlightSizes). i < width_of s x / 4) sized across in
    let below : j < height_of (flight_sizes p.sps (length f.pictures)) row / 4 =
    subst (λ (s : FlightSizes). j < height_of s row / 4) sized down in
    let range = is.flight.range in
    let inside = address_inside facts u p is sized in
    let known = known_there facts u p is sized in
    let words = c.expected_words_are_of_their_places.ensures in
    let mine = words.mine f k row x i j p range is.picture (column_inside facts u p is sized) there below in
    let turned : (content : UnitContent)
    → word_in f u content ≡ content_in f (flight_sizes p.sps (length f.pictures)) k row x content =
    λ content. ap (λ (s : FlightSizes). content_in f s k row x content) sized in
    let vectors = turned (Vectors i j) ∙ words.vectors f k row x i j p range is.picture there below in
    let modes = turned (Modes i j) ∙ words.modes f k row x i j p range is.picture there below in
    let back = c.references_come_back.ensures in
    place_is facts u p is sized i j (word_in f u (Vectors i j)) (word_in f u (Modes i j))
    (back.kept f k p (address_at p u) known.0 (column_at p u i) (row_at p u j) range is.picture inside known.1 mine)
    (back.beside f k p (column_at p u i) (row_at p u j) range is.picture)
    (c.words_above_are_of_their_units.ensures.place f k (address_at p u) (column_at p u i) (row_at p u j)
    (word_in f u (Vectors i j)) (word_in f u (Modes i j)) p known.0 range is.picture inside known.1 mine vectors modes)

pub returns-clause-across : goal.returns-clause-across
returns-clause-across c facts u p is =
    let sized = c.pictures_have_the_sizes_of_their_flight.ensures.picture facts u.sizes u.line.picture p is.flight
    is.picture in
    ap (λ (s : FlightSizes). width_of s u.unit / 4) sized
    ∙ c.expected_words_are_of_their_places.ensures.across (flight_in facts) u.line.picture u.unit p is.flight.range
    is.picture

pub returns-clause-down : goal.returns-clause-down
returns-clause-down c facts u p is below =
    let sized = c.pictures_have_the_sizes_of_their_flight.ensures.picture facts u.sizes u.line.picture p is.flight
    is.picture in
    let f = flight_in facts in
    let e : u.line.row + 1 - 1 ≡ u.line.row = omega arith in
    ap (λ (s : FlightSizes). height_of s u.line.row / 4) sized
    ∙ (ap (λ r. height_of (flight_sizes p.sps (length f.pictures)) r / 4) (sym e)
    ∙ c.expected_words_are_of_their_places.ensures.above f u.line.picture (u.line.row + 1) p is.flight.range is.picture
    (omega arith) below)
