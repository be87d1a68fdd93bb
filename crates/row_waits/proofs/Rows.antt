-- Final rows that are seen while a pass waits for more of them.
use Rattle.std.proofs.Common.{◌≡◌, ℕ, ◌+◌, ◌-◌, ◌<◌, ◌≤◌, arith, refl, sym, subst, ◌∙◌, true, min, inl, inr}
use Rattle.std.proofs.Common.{All, List, [], Some, get_or, length}
use Rattle.std.proofs.lemmas.List.{get_or_default}
use Rattle.std.specs.Prelude.{◌==◌, ◌&&◌, ◌||◌, map}
use Rattle.std.specs.List.{range_with_len}
use Rattle.std.proofs.lemmas.Bool.{and_from, and_parts, cases_lt, eq-eqb, eqb-true, lt-ltb, ltb-true, or_cases}
use Rattle.std.proofs.lemmas.Bool.{or_left, or_right}
use Rattle.std.proofs.lemmas.List.Elements.{All-append, All-cons, All-nil, All-weaker}
use Rattle.hv_base.specs.declared.line.Line.{Line}
use Rattle.hv_base.specs.declared.line.Phase.{Phase}
use Rattle.hv_base.specs.declared.line.Phase.TheVariants.{S}
use Rattle.ctu_records.specs.declared.item.Item.{Item}
use Rattle.flight_plan.specs.Flight.{FlightRows, IsEarlier, picture_at}
use Rattle.flight_plan.specs.declared.row_range.Reference.{Reference}
use Rattle.flight_plan.specs.declared.row_range.Reference.TheVariants.{Base, Flight}
use Rattle.flight_plan.specs.declared.row_range.RowRange.{RowRange}
use Rattle.board_core.specs.Needs.{rows_needs}
use Rattle.board_core.specs.Places.{full_count, line_of}
use Rattle.board_core.proofs.Counting.{left_part, right_part}
use Rattle.sample_words.specs.declared.sizes.FlightSizes.{FlightSizes}
use Rattle.sample_words.specs.Sizes.{rows}
use Rattle.sample_words.specs.Words.{IsLine, line_number}
use Rattle.flight_lines.specs.Flights.{IsSized}
use Rattle.flight_lines.specs.Numbers.{numbered_needs}
use Rattle.unit_reach.specs.declared.reach.ItemReach.{ItemReach}
use Rattle.unit_reach.specs.declared.reach.ReachSource.{ReachSource}
use Rattle.unit_reach.specs.Ranges.{one, ranges_of}
use Rattle.progress_words.specs.declared.view.View.{View}
use Rattle.progress_words.specs.Core.{AreMet}
use Rattle.progress_words.specs.Meanings.{Meaning}
use Rattle.progress_words.specs.Views.{seen_of}
use Rattle.flight_windows.specs.Seen.{HasRows, SeenFlags, has_row, is_seen}
use Rattle.row_waits.specs.Seen.{AreRowsOf, HasSeenFlags, HasRange, HasReach, HasRow, ReachesEarlier, HasMoreFlags}
use Rattle.row_waits.specs.Seen.{reach_in}

-- a row of a phase that is needed by itself is counted where its need is met
pub row_met : (m : Meaning) (count : ℕ → ℕ) (plan : FlightRows) (s : FlightSizes) → IsSized plan s → (phase : Phase)
    (j row : ℕ) → AreMet m count (numbered_needs s (rows_needs plan phase j row row)) → IsLine s (line_of phase j row)
    → full_count plan (line_of phase j row) ≤ count (line_number s (line_of phase j row))
row_met m count plan s sized phase j row met line =
    let few = line.picture in
    let many = sized.count in
    let high = sized.heights j (omega (arith, few, many)) in
    let low = line.row in
    let single : min (row + 1) (picture_at plan j).rows - row ≡ 1 = omega (arith, high, low) in
    let f : ℕ → Line × ℕ = λ r. (line_of phase j r, full_count plan (line_of phase j r)) in
    let alone = subst (λ n. AreMet m count (numbered_needs s (map f (range_with_len row n)))) single met in
    (alone 0 (0, 0) (omega arith)).1

-- one row more is seen
module _ (old new : SeenFlags) (j row : ℕ)
    (each : (i r : ℕ) → is_seen new i r
    ≡ (is_seen old i r || (has_row old j row && (i == j && r == row)))) where
  pub sees_more : HasMoreFlags old new
  sees_more i r is = each i r ∙ or_left (is_seen old i r) (has_row old j row && (i == j && r == row)) is

  module _ {F : Type 0} (s : FlightSizes) (w : View F) (are : HasSeenFlags s w old) where
    pub row_there : HasRow s new j row
    row_there line =
        let few : j < old.pictures = subst (λ n. j < n) (sym are.sizes.0) line.picture in
        let low : row < old.rows = subst (λ n. row < n) (sym are.sizes.1) line.row in
        let inside : has_row old j row ≡ true =
        and_from _ _ (lt-ltb j old.pictures few) (lt-ltb row old.rows low) in
        let here : (j == j && row == row) ≡ true = and_from _ _ (eq-eqb j j refl) (eq-eqb row row refl) in
        each j row ∙ or_right (is_seen old j row) _ (and_from _ _ inside here)

    abbrev IsSeenLine : ℕ → ℕ → Type 0
    IsSeenLine i r = IsLine s (line_of S i r) × (1 ≤ seen_of w (line_number s (line_of S i r)))

    pub row_added : HasRows new old.pictures old.rows
        → (IsLine s (line_of S j row) → 1 ≤ seen_of w (line_number s (line_of S j row)))
        → HasSeenFlags s w new
    row_added sizes counted = record {
      sizes = (sizes.0 ∙ are.sizes.0, sizes.1 ∙ are.sizes.1);
      counted = λ i r is.
          elim (or_cases (is_seen old i r) (has_row old j row && (i == j && r == row)) (sym (each i r) ∙ is)) [
            | inl before ↦ are.counted i r before
            | inr added ↦
                let parts = and_parts (has_row old j row) (i == j && r == row) added in
                let there = and_parts _ _ parts.0 in
                let same = and_parts _ _ parts.1 in
                let picture : i ≡ j = eqb-true i j same.0 in
                let place : r ≡ row = eqb-true r row same.1 in
                let line : IsLine s (line_of S j row) =
                record {
                  picture = subst (λ n. j < n) are.sizes.0 (ltb-true j old.pictures there.0);
                  row = subst (λ n. row < n) are.sizes.1 (ltb-true row old.rows there.1);
                } in
                subst (λ a. IsSeenLine a r) (sym picture)
                (subst (λ b. IsSeenLine j b) (sym place) (line, counted line))
          ];
    }

-- what is seen of rows stays where counts are no less
pub rows_stay : {F : Type 0} (s : FlightSizes) (v w : View F) (seen : SeenFlags)
    → ((l : ℕ) → seen_of v l ≤ seen_of w l) → HasSeenFlags s v seen → HasSeenFlags s w seen
rows_stay s v w seen more are = record {
  sizes = are.sizes;
  counted = λ j row is.
      let was = are.counted j row is in
      let had = was.1 in
      let up = more (line_number s (line_of S j row)) in
      (was.0, omega (arith, had, up));
}

-- ranges whose rows are seen stay so
module _ (s : FlightSizes) (old new : SeenFlags) (more : HasMoreFlags old new) where
  rows_of_stay : (r : Reference) (first last : ℕ) → AreRowsOf s old r first last → AreRowsOf s new r first last
  rows_of_stay (Base place) first last has = has
  rows_of_stay (Flight j) first last has = λ row low high line. more j row (has row low high line)

  pub range_stays : (range : RowRange) → HasRange s old range → HasRange s new range
  range_stays range has = rows_of_stay range.picture range.first range.last has

  pub ranges_stay : (ranges : List RowRange) → All (HasRange s old) ranges → All (HasRange s new) ranges
  ranges_stay ranges all = All-weaker (HasRange s old) (HasRange s new) range_stays ranges all

  pub reach_stays : (source : ReachSource) (item : Item) → HasReach s old source item → HasReach s new source item
  reach_stays source item all = ranges_stay (reach_in source item) all

-- a range of rows of a picture from before the flight, or of one of the flight
module _ (s : FlightSizes) (seen : SeenFlags) (range : RowRange) where
  pub base_range : (place : ℕ) → range.picture ≡ Base place → All (HasRange s seen) (one (Some range))
  base_range place is =
      All-cons (HasRange s seen) range []
      (subst (λ r. AreRowsOf s seen r range.first range.last) (sym is) tt) (All-nil (HasRange s seen))

  pub flight_range : (j end : ℕ) → range.picture ≡ Flight j
      → ((row : ℕ) → row ≤ range.last → row < rows s → row < end)
      → ((row : ℕ) → range.first ≤ row → row < end → HasRow s seen j row) → All (HasRange s seen) (one (Some range))
  flight_range j end is past each =
      let all : AreRowsOf s seen (Flight j) range.first range.last =
      λ row low high line. each row low (past row high line.row) line in
      All-cons (HasRange s seen) range []
      (subst (λ r. AreRowsOf s seen r range.first range.last) (sym is) all) (All-nil (HasRange s seen))

pub earlier_picture : (k : ℕ) (range : RowRange) (j : ℕ) → range.picture ≡ Flight j
    → All (λ (r : RowRange). IsEarlier k r.picture) (one (Some range)) → j < k
earlier_picture k range j is all = subst (IsEarlier k) is (all 0 range (omega arith))

-- an item reaches the ranges of both its lists
module _ (source : ReachSource) (item : Item) (reach : ItemReach) (is : ranges_of reach ≡ reach_in source item) where
  pub reach_first : (k : ℕ) → ReachesEarlier k source item
      → All (λ (r : RowRange). IsEarlier k r.picture) (one reach.list_0)
  reach_first k all =
      left_part (λ (r : RowRange). IsEarlier k r.picture) (one reach.list_0) (one reach.list_1)
      (subst (All (λ (r : RowRange). IsEarlier k r.picture)) (sym is) all)

  pub reach_second : (k : ℕ) → ReachesEarlier k source item
      → All (λ (r : RowRange). IsEarlier k r.picture) (one reach.list_1)
  reach_second k all =
      right_part (λ (r : RowRange). IsEarlier k r.picture) (one reach.list_0) (one reach.list_1)
      (subst (All (λ (r : RowRange). IsEarlier k r.picture)) (sym is) all)

  pub reach_both : (s : FlightSizes) (seen : SeenFlags) → All (HasRange s seen) (one reach.list_0)
      → All (HasRange s seen) (one reach.list_1) → HasReach s seen source item
  reach_both s seen first second =
      subst (All (HasRange s seen)) is
      (All-append (HasRange s seen) (one reach.list_0) (one reach.list_1) first second)

-- one row more of a picture is seen of those from a first one on
pub rows_more : (s : FlightSizes) (old new : SeenFlags) (j first end : ℕ) → HasMoreFlags old new
    → ((row : ℕ) → first ≤ row → row < end → HasRow s old j row) → HasRow s new j end
    → (row : ℕ) → first ≤ row → row < end + 1 → HasRow s new j row
rows_more s old new j first end more has last row low high =
    elim (cases_lt row end) [
      | inl before ↦ λ line. more j row (has row low before line)
      | inr behind ↦
          let same : row ≡ end = omega (arith, high, behind) in
          subst (λ r. HasRow s new j r) (sym same) last
    ]

-- and those of one item more
pub items_more : (s : FlightSizes) (old new : SeenFlags) → HasMoreFlags old new
    → (source : ReachSource) (items : List Item)
    (k : ℕ) (e item : Item) → k < length items → get_or items k e ≡ item
    → ((i : ℕ) (d : Item) → i < k → HasReach s old source (get_or items i d)) → HasReach s new source item
    → (i : ℕ) (d : Item) → i < k + 1 → HasReach s new source (get_or items i d)
items_more s old new more source items k e item inside is has last i d less =
    elim (cases_lt i k) [
      | inl before ↦ reach_stays s old new more source (get_or items i d) (has i d before)
      | inr behind ↦
          let same : i ≡ k = omega (arith, less, behind) in
          subst (λ n. HasReach s new source (get_or items n d)) (sym same)
          (subst (HasReach s new source) (sym is ∙ get_or_default items k e d inside) last)
    ]

-- and those of one picture more
pub pictures_more : (s : FlightSizes) (old new : SeenFlags) (k end : ℕ) → end ≡ rows s → HasMoreFlags old new
    → ((j row : ℕ) → j < k → HasRow s old j row)
    → ((row : ℕ) → 0 ≤ row → row < end → HasRow s new k row)
    → (j row : ℕ) → j < k + 1 → HasRow s new j row
pictures_more s old new k end all more has last j row less =
    elim (cases_lt j k) [
      | inl before ↦ λ line. more j row (has j row before line)
      | inr behind ↦
          let same : j ≡ k = omega (arith, less, behind) in
          subst (λ n. HasRow s new n row) (sym same)
          (λ line. let low = line.row in last row (omega arith) (omega (arith, low, all)) line)
    ]

-- where all rows of earlier pictures are seen, those are that an item reaches
module _ (s : FlightSizes) (seen : SeenFlags) (k : ℕ) (all : (j row : ℕ) → j < k → HasRow s seen j row) where
  rows_of_earlier : (r : Reference) (first last : ℕ) → IsEarlier k r → AreRowsOf s seen r first last
  rows_of_earlier (Base place) first last earlier = tt
  rows_of_earlier (Flight j) first last earlier = λ row low high. all j row earlier

  reach_of_earlier : (source : ReachSource) (item : Item) → ReachesEarlier k source item → HasReach s seen source item
  reach_of_earlier source item earlier =
      All-weaker (λ (r : RowRange). IsEarlier k r.picture) (HasRange s seen)
      (λ range is. rows_of_earlier range.picture range.first range.last is) (reach_in source item) earlier

pub earlier_reach : (s : FlightSizes) (seen : SeenFlags) (k : ℕ) (source : ReachSource) (item : Item)
    → ((j row : ℕ) → j < k → HasRow s seen j row) → ReachesEarlier k source item → HasReach s seen source item
earlier_reach s seen k source item all earlier = reach_of_earlier s seen k all source item earlier
