-- The unit that a final row is.
use Rattle.std.proofs.Common.{◌≡◌, refl, ℕ, ◌<◌, true, false, Option, Some, None, sym, subst, arith}
use Rattle.std.specs.Prelude.{MatchOption}
use Rattle.sample_words.specs.declared.sizes.FlightSizes.{FlightSizes}
use Rattle.sample_words.specs.Contents.{component_side}
use Rattle.sample_words.specs.Sizes.{height_of}
use Rattle.progress_words.specs.declared.view.View.{View}
use Rattle.progress_words.specs.Views.{seen_of}
use Rattle.line_words.specs.Places.{UnitAt, number_at}
use Rattle.sample_lines.specs.Lines.{height_at, width_at}
use Rattle.flight_windows.specs.declared.final_rows.FinalRow.{FinalRow}
use Rattle.flight_windows.specs.Lines.{IsFinalRow, final_unit, width_in}
use Rattle.flight_windows.specs.Seen.{AreFlagsSeen, SeenFlags, is_seen}

-- it has the sizes of the flight, was seen counted, and has whole lines
pub record IsSeenUnit {F : Type 0} (s : FlightSizes) (v : View F) (row : ℕ) (at : UnitAt) : Type 0 where
  pub sizes : at.sizes ≡ s
  pub seen : at.unit < seen_of v (number_at at)
  pub width : (c : ℕ) → width_at at c ≡ width_in s c
  pub height : (c : ℕ) → height_at at c ≡ component_side c (height_of s row)

pub seen_unit : {F : Type 0} (s : FlightSizes) (v : View F) (seen : SeenFlags) → AreFlagsSeen s v seen → (j row : ℕ)
    → is_seen seen j row ≡ true → (at : UnitAt) → at ≡ final_unit s j row → IsSeenUnit s v row at
seen_unit s v seen rows j row here at is =
    let told = (rows j row here).1 in
    let unit : IsSeenUnit s v row (final_unit s j row) = record {
      sizes = refl;
      seen = omega (arith, told);
      width = λ c. refl;
      height = λ c. refl;
    } in
    subst (λ (u : UnitAt). IsSeenUnit s v row u) (sym is) unit

-- what is known of a row by where it stands
pub final_is : (s : FlightSizes) (seen : SeenFlags) (row : FinalRow) (at : UnitAt) → IsFinalRow s seen row
    → row.at ≡ Some at
    → (is_seen seen row.picture row.row ≡ true) × (at ≡ final_unit s row.picture row.row)
final_is s seen row at is e =
    subst
    (λ (o : Option UnitAt). MatchOption o (is_seen seen row.picture row.row ≡ false)
    (λ a. (is_seen seen row.picture row.row ≡ true) × (a ≡ final_unit s row.picture row.row)))
    e is

pub none_final : (s : FlightSizes) (seen : SeenFlags) (row : FinalRow) → IsFinalRow s seen row → row.at ≡ None
    → is_seen seen row.picture row.row ≡ false
none_final s seen row is e =
    subst
    (λ (o : Option UnitAt). MatchOption o (is_seen seen row.picture row.row ≡ false)
    (λ a. (is_seen seen row.picture row.row ≡ true) × (a ≡ final_unit s row.picture row.row)))
    e is

pub unit_of_row : {F : Type 0} (s : FlightSizes) (v : View F) (seen : SeenFlags) → AreFlagsSeen s v seen
    → (row : FinalRow)
    (at : UnitAt) → IsFinalRow s seen row → row.at ≡ Some at → IsSeenUnit s v row.row at
unit_of_row s v seen rows row at is e =
    let told = final_is s seen row at is e in seen_unit s v seen rows row.picture row.row told.0 at told.1
