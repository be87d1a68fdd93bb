-- Final rows of reference pictures that are seen.
use Rattle.std.specs.Prelude.{ℕ, ◌≡◌, ◌≤◌, true, List, All}
use Rattle.hv_base.specs.declared.line.Phase.TheVariants.{S}
use Rattle.ctu_records.specs.declared.item.Item.{Item}
use Rattle.ctu_motion.specs.Held.{held}
use Rattle.flight_plan.specs.Flight.{IsEarlier}
use Rattle.flight_plan.specs.declared.row_range.Reference.{Reference}
use Rattle.flight_plan.specs.declared.row_range.Reference.TheVariants.{Base, Flight}
use Rattle.flight_plan.specs.declared.row_range.RowRange.{RowRange}
use Rattle.board_core.specs.Places.{line_of}
use Rattle.board_core.specs.Reach.{reach_of}
use Rattle.sample_words.specs.declared.sizes.FlightSizes.{FlightSizes}
use Rattle.sample_words.specs.Sizes.{rows}
use Rattle.sample_words.specs.Words.{IsLine}
use Rattle.unit_reach.specs.SpecFlights.{item_blocks}
use Rattle.unit_reach.specs.declared.reach.ReachSource.{ReachSource}
use Rattle.progress_words.specs.declared.pass.Pass.{Pass}
use Rattle.progress_words.specs.declared.view.View.{View}
use Rattle.progress_words.specs.Passes.{IsPassOf, view}
use Rattle.progress_words.specs.Places.{Place}
use Rattle.line_words.specs.Places.{UnitAt, number_at}
use Rattle.flight_waits.specs.FactsOfFlights.{FlightFacts}
use Rattle.flight_waits.specs.Waits.{AreAllKnown, HasWaited}
use Rattle.flight_windows.specs.Seen.{AreFlagsSeen, HasRows, SeenFlags, is_seen}
use Rattle.row_waits.specs.declared.picture_view.PictureView.{PictureView}
use Rattle.row_waits.specs.Pictures.{IsPictureOf, IsUnitOf}

-- of as many pictures and rows as the flight has some are seen, each of which this pass has seen counted
pub record HasSeenFlags {F : Type 0} (s : FlightSizes) (v : View F) (seen : SeenFlags) : Type 0 where
  pub sizes : HasRows seen s.pictures (rows s)
  pub counted : AreFlagsSeen s v seen

-- what was seen still is
abbrev pub HasMoreFlags : SeenFlags → SeenFlags → Type 0
HasMoreFlags old new = (j row : ℕ) → is_seen old j row ≡ true → is_seen new j row ≡ true

-- a row of a picture is seen, if the flight has it
abbrev pub HasRow : FlightSizes → SeenFlags → ℕ → ℕ → Type 0
HasRow s seen j row = IsLine s (line_of S j row) → is_seen seen j row ≡ true

-- all rows of a picture from one to another are
abbrev pub AreRowsOf : FlightSizes → SeenFlags → Reference → ℕ → ℕ → Type 0
AreRowsOf s seen (Base place) first last = Unit {0}
AreRowsOf s seen (Flight j) first last = (row : ℕ) → first ≤ row → row ≤ last → HasRow s seen j row

abbrev pub HasRange : FlightSizes → SeenFlags → RowRange → Type 0
HasRange s seen range = AreRowsOf s seen range.picture range.first range.last

-- the ranges of rows that an item of a unit reaches
abbrev pub reach_in : ReachSource → Item → List RowRange
reach_in source item =
    reach_of source.lines
    (item_blocks source.names.now source.slice.now source.row (held source.motion.now) item)

-- all of these are seen; they are of pictures from before the one at a place
abbrev pub HasReach : FlightSizes → SeenFlags → ReachSource → Item → Type 0
HasReach s seen source item = All (HasRange s seen) (reach_in source item)

abbrev pub ReachesEarlier : ℕ → ReachSource → Item → Type 0
ReachesEarlier k source item = All (λ range. IsEarlier k range.picture) (reach_in source item)

-- a pass may wait for what a coding tree unit needs, and tells what it sees of final rows
pub record MayWait (board : Place FlightFacts) (picture : PictureView) (at : UnitAt) (pass : Pass FlightFacts)
    (seen : SeenFlags) : Type 0 where
  pub own : IsPassOf board pass
  pub flight : IsPictureOf board.flight picture
  pub unit : IsUnitOf picture at
  pub known : AreAllKnown board.flight (view pass)
  pub sees : HasSeenFlags picture.layout.now (view pass) seen

-- a pass has waited for rows of reference pictures
pub record HasLookedAround (at : UnitAt) (before after : Pass FlightFacts) (old new : SeenFlags) : Type 0 where
  pub waited : HasWaited (view before) (number_at at) (view after)
  pub more : HasMoreFlags old new
