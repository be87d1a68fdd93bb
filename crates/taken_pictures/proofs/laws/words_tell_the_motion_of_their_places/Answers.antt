use Rattle.std.proofs.Common.{◌≡◌, ℕ, ◌+◌, ◌*◌, ◌/◌, ◌<◌, ap, sym, subst, ◌∙◌, length}
use Rattle.sample_words.specs.declared.sizes.FlightSizes.{FlightSizes}
use Rattle.sample_words.specs.declared.unit_content.UnitContent.{UnitContent}
use Rattle.sample_words.specs.declared.unit_content.UnitContent.TheVariants.{Modes, Vectors}
use Rattle.sample_words.specs.Sizes.{height_of, width_of}
use Rattle.row_above_laws.specs.Above.{content_in}
use Rattle.spec_picture_trees.specs.Places.{unit_places}
use Rattle.spec_picture_trees.specs.Shapes.{picture_shape}
use Rattle.spec_flights.specs.Pictures.{folded_at}
use Rattle.spec_flights.specs.Words.{flight_sizes, values_in}
use Rattle.sample_lines.specs.FactsOfFlights.{flight_in}
use Rattle.taken_pictures.specs.Places.{address_at, word_in}
use Rattle.taken_pictures.specs.Rows.{side_places}
use Rattle.taken_pictures.proofs.Places.{told_by}
use Rattle.taken_pictures.proofs.Shapes.{address_inside, column_inside, known_there, side_is}
use Rattle.taken_pictures.proofs.laws.words_tell_the_motion_of_their_places.Goals as goal

pub returns : goal.returns
returns c = λ facts u p i j is across down.
    let f = flight_in facts in
    let k : ℕ = u.line.picture in
    let row : ℕ = u.line.row in
    let x : ℕ = u.unit in
    let range = is.flight.range in
    let sized = c.pictures_have_the_sizes_of_their_flight.ensures.picture facts u.sizes k p is.flight is.picture in
    let there : i < width_of (flight_sizes p.sps (length f.pictures)) x / 4 =
    subst (λ (s : FlightSizes). i < width_of s x / 4) sized across in
    let below : j < height_of (flight_sizes p.sps (length f.pictures)) row / 4 =
    subst (λ (s : FlightSizes). j < height_of s row / 4) sized down in
    let known = known_there facts u p is sized in
    let words = c.expected_words_are_of_their_places.ensures in
    let mine = words.mine f k row x i j p range is.picture (column_inside facts u p is sized) there below in
    let turned : (content : UnitContent)
    → word_in f u content ≡ content_in f (flight_sizes p.sps (length f.pictures)) k row x content =
    λ content. ap (λ (s : FlightSizes). content_in f s k row x content) sized in
    let n : ℕ = unit_places (picture_shape p.sps p.pps) in
    let values = values_in p (folded_at f k) in
    let modes = values.modes (n * x + i) (n * row + j) in
    let motion = values.motion (n * x + i) (n * row + j) in
    let fit = c.values_fit_their_words.ensures f k p range is.picture in
    let back = c.motion_is_unpacked.ensures in
    let modes_fit = fit.modes (n * x + i) (n * row + j) in
    let motion_fits = fit.motion (n * x + i) (n * row + j) in
    let side : side_places u.sizes ≡ n =
    ap side_places sized ∙ side_is p (length f.pictures) (range.plans k p is.picture).sps in
    told_by p (address_at p u) (word_in f u (Vectors i j)) (word_in f u (Modes i j)) motion modes
    (turned (Vectors i j) ∙ words.vectors f k row x i j p range is.picture there below)
    (turned (Modes i j) ∙ words.modes f k row x i j p range is.picture there below)
    (back.motion modes motion modes_fit motion_fits) (back.modes modes motion modes_fit motion_fits)
    ∙ (sym (c.references_come_back.ensures.kept f k p (address_at p u) known.0 (n * x + i) (n * row + j) range
    is.picture (address_inside facts u p is sized) known.1 mine)
    ∙ (λ t. (folded_at f k).motions (sym side t * x + i) (sym side t * row + j)))
