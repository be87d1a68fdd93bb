-- What an event uses is counted where it is ready.
use Rattle.std.proofs.Common.{Bool, true, false, nat_eq, if◌then◌else◌, ℕ, ◌≡◌, ◌+◌, ◌-◌, ◌<◌, ◌≤◌, List, [], ◌∷◌}
use Rattle.std.proofs.Common.{Option, Some, inl, inr, length, min, arith, refl, sym, ap, subst}
use Rattle.std.proofs.Common.{slice_index_or}
use Rattle.std.proofs.lemmas.Bool.{cases_lt, ne_eqb}
use Rattle.std.proofs.lemmas.List.{get_or_past}
use Rattle.std.specs.List.{Contains}
use Rattle.flight_plan.specs.Flight.{FlightRows, IsEarlier, IsFlight, picture_at}
use Rattle.flight_plan.specs.declared.row_range.Reference.{Reference}
use Rattle.flight_plan.specs.declared.row_range.Reference.TheVariants.{Flight}
use Rattle.flight_plan.specs.declared.row_range.RowRange.{RowRange}
use Rattle.hv_base.specs.declared.line.Line.{Line}
use Rattle.hv_base.specs.declared.line.Phase.{Phase}
use Rattle.hv_base.specs.declared.line.Phase.TheVariants.{B, V, H, S}
use Rattle.board_core.specs.declared.event.Event.{Event}
use Rattle.board_core.specs.declared.event.Event.TheVariants.{Draw, Read, Build, Filter, Fault}
use Rattle.board_core.specs.declared.predicted_blocks.PredictedBlock.{PredictedBlock}
use Rattle.board_core.specs.Places.{full_count, IsLine, line_of, width_of}
use Rattle.board_core.specs.Needs.{build_needs, collocated_of, counting_needs, phase_needs, range_needs, reach_needs}
use Rattle.board_core.specs.Needs.{read_needs, reference_needs, row_needs, rows_needs, unit_in_picture}
use Rattle.board_core.specs.Reach.{FlightMotion, ReadsRow, TellsMotion, blocks_of, range_of, reach_of, told_reach}
use Rattle.board_core.specs.States.{CoreState, AreCounted, IsNext, IsReady, count_of}
use Rattle.board_core.specs.Uses.{above_of, BuildingUses, FilteringUses, IsCounted, IsOfRow, IsOfRowsBeside}
use Rattle.board_core.specs.Uses.{MakingUses, ReadingUses, UnitUses, Uses}
use Rattle.board_core.specs.Uses.{Former, Above, Carried, Reading, Collocated, Reached}
use Rattle.board_core.specs.Runs.{IsSound}
use Rattle.board_core.proofs.Counting.{both_left, both_right, build_above, build_reach, build_row, one_each}
use Rattle.board_core.proofs.Counting.{pieces_each, rows_each}
use Rattle.board_core.proofs.Order.{line_inside}
use Rattle.board_core.proofs.Reaching.{map_contains, read_inside, row_of_picture}
use Rattle.board_core.proofs.Units.{place_unique}

-- a unit of a row that is needed is counted
of_rows : (plan : FlightRows) (s : CoreState) (phase : Phase) (k first last row : ℕ) (m : Line) (y : ℕ)
    → AreCounted plan s (rows_needs plan phase k first last) → first ≤ row → row ≤ last → m ≡ line_of phase k row
    → IsLine plan m → y < full_count plan m → IsCounted plan s m y
of_rows plan s phase k first last row m y all low high is line unit =
    let inside : IsLine plan (line_of phase k row) = subst (IsLine plan) is line in
    let full = rows_each plan s phase k first last all row low (omega (arith, high, inside)) in
    let count = ap (count_of plan s) is in
    let units = ap (full_count plan) is in
    record { line = line; counted = omega (arith, full, count, units, unit) }

-- the need of the row above, where there is one
above_count : (plan : FlightRows) (s : CoreState) (l : Line) (x : ℕ) → 0 < l.row
    → AreCounted plan s (read_needs plan l x)
    → (if (picture_at plan l.picture).sync then min (x + 2) (width_of plan l) else width_of plan l)
    ≤ count_of plan s (above_of l)
above_count plan s l x some all =
    let count : ℕ = if (picture_at plan l.picture).sync then min (x + 2) (width_of plan l) else width_of plan l in
    let need : Line × ℕ = (above_of l, count) in
    let not_top : nat_eq l.row 0 ≡ false = ne_eqb l.row 0 (λ e. absurd (omega (arith, e, some))) in
    let P : Bool → Type 0 = λ top. AreCounted plan s (if top then [] else need ∷ []) in
    one_each plan s need (subst P not_top all)

-- what is needed of the row above has the units from above left to above right, and without sync the last one
in_count : (sync : Bool) (x w y : ℕ) → y ≤ x + 1 → y < w → y < (if sync then min (x + 2) w else w)
in_count true x w y near inside = omega (arith, near, inside)
in_count false x w y near inside = inside

last_in_count : (sync : Bool) (x w y : ℕ) → sync ≡ false → y + 1 ≡ w → y < (if sync then min (x + 2) w else w)
last_in_count true x w y off last = let e : true ≡ false = off in cc
last_in_count false x w y off last = omega (arith, last)

above_line : (plan : FlightRows) (l m : Line) → IsLine plan l → m ≡ above_of l → IsLine plan m
above_line plan l m line is =
    let inside : l.row < (picture_at plan l.picture).rows = line in
    let up : IsLine plan (above_of l) = omega (arith, inside) in
    subst (IsLine plan) (sym is) up

-- what reading a unit uses, where its needs and the units before it are counted
reading_uses : (plan : FlightRows) (s : CoreState) (l : Line) (x : ℕ) (m : Line) (y : ℕ) → IsLine plan l
    → x ≤ count_of plan s l → AreCounted plan s (read_needs plan l x) → ReadingUses plan l x m y
    → IsCounted plan s m y
reading_uses plan s l x m y line before all (Former is lt) =
    let e = ap (count_of plan s) is in
    record { line = subst (IsLine plan) (sym is) line; counted = omega (arith, e, lt, before) }
reading_uses plan s l x m y line before all (Above is some left right inside) =
    let e = ap (count_of plan s) is in
    let enough = above_count plan s l x some all in
    let lt = in_count (picture_at plan l.picture).sync x (width_of plan l) y right inside in
    record { line = above_line plan l m line is; counted = omega (arith, e, enough, lt) }
reading_uses plan s l x m y line before all (Carried is some off start last) =
    let e = ap (count_of plan s) is in
    let enough = above_count plan s l x some all in
    let lt = last_in_count (picture_at plan l.picture).sync x (width_of plan l) y off last in
    record { line = above_line plan l m line is; counted = omega (arith, e, enough, lt) }

collocated_counted : (plan : FlightRows) (s : CoreState) (o : Option Reference) (row k : ℕ) (m : Line) (y : ℕ)
    → o ≡ Some (Flight k) → AreCounted plan s (row_needs plan o row) → m ≡ line_of B k row → IsLine plan m
    → y < full_count plan m → IsCounted plan s m y
collocated_counted plan s o row k m y named all is line unit =
    let P : Option Reference → Type 0 = λ o. AreCounted plan s (row_needs plan o row) in
    of_rows plan s B k row row row m y (subst P named all) (omega arith) (omega arith) is line unit

reached_counted : (plan : FlightRows) (s : CoreState) (l : Line) (x : ℕ) (range : RowRange) (k row : ℕ) (m : Line)
    → (y : ℕ)
    → AreCounted plan s (reach_needs plan l x) → Contains (told_reach plan l x) range → range.picture ≡ Flight k
    → range.first ≤ row → row ≤ range.last → m ≡ line_of S k row → IsLine plan m → y ≡ 0 → IsCounted plan s m y
reached_counted plan s l x range k row m y all (i, inside, at) named low high is line first =
    let P : Line × ℕ → Type 0 = λ need. need.1 ≤ count_of plan s need.0 in
    let each = pieces_each P (range_needs plan) (told_reach plan l x) all i range inside in
    let Q : RowRange → Type 0 = λ r. AreCounted plan s (range_needs plan r) in
    let here : AreCounted plan s (range_needs plan range) = subst Q at each in
    let R : Reference → Type 0 = λ r. AreCounted plan s (reference_needs plan r range.first range.last) in
    let rows = subst R named here in
    let units : full_count plan m ≡ 1 = ap (full_count plan) is in
    of_rows plan s S k range.first range.last row m y rows low high is line (omega (arith, units, first))

-- what building a unit uses
building_uses : (plan : FlightRows) (s : CoreState) (l : Line) (x : ℕ) (m : Line) (y : ℕ) → IsLine plan l
    → x ≤ count_of plan s l → AreCounted plan s (build_needs plan l x) → BuildingUses plan l x m y
    → IsCounted plan s m y
building_uses plan s l x m y line before all (Reading uses) =
    reading_uses plan s l x m y line before (build_above plan s l x all) uses
building_uses plan s l x m y line before all (Collocated k named is inside unit) =
    collocated_counted plan s (collocated_of plan l x) l.row k m y named (build_row plan s l x all) is inside unit
building_uses plan s l x m y line before all (Reached range k row has named low high is inside first) =
    reached_counted plan s l x range k row m y (build_reach plan s l x all) has named low high is inside first

own_counted : (plan : FlightRows) (s : CoreState) (phase : Phase) (l m : Line) (y : ℕ) → IsLine plan l
    → AreCounted plan s (rows_needs plan phase l.picture l.row l.row) → IsOfRow plan phase l m y → IsCounted plan s m y
own_counted plan s phase l m y line all own =
    let here : IsLine plan (line_of phase l.picture l.row) = line in
    of_rows plan s phase l.picture l.row l.row l.row m y all (omega arith) (omega arith) own.line
    (subst (IsLine plan) (sym own.line) here) own.unit

beside_counted : (plan : FlightRows) (s : CoreState) (phase : Phase) (l m : Line) (y : ℕ)
    → AreCounted plan s (rows_needs plan phase l.picture (l.row - 1) (l.row + 1)) → IsOfRowsBeside plan phase l m y
    → IsCounted plan s m y
beside_counted plan s phase l m y all beside =
    of_rows plan s phase l.picture (l.row - 1) (l.row + 1) beside.row m y all (omega (arith, beside.up))
    (omega (arith, beside.down)) beside.line beside.inside beside.unit

-- what filtering a line of a phase uses
filtering_uses : (phase : Phase) (plan : FlightRows) (s : CoreState) (l m : Line) (y : ℕ) → IsLine plan l
    → AreCounted plan s (phase_needs plan phase l.picture l.row) → FilteringUses phase plan l m y → IsCounted plan s m y
filtering_uses B plan s l m y line all uses = absurd uses
filtering_uses V plan s l m y line all uses = own_counted plan s B l m y line all uses
filtering_uses H plan s l m y line all (inl uses) =
    beside_counted plan s V l m y
    (both_left plan s (rows_needs plan V l.picture (l.row - 1) (l.row + 1))
    (rows_needs plan B l.picture (l.row - 1) (l.row + 1)) all) uses
filtering_uses H plan s l m y line all (inr uses) =
    beside_counted plan s B l m y
    (both_right plan s (rows_needs plan V l.picture (l.row - 1) (l.row + 1))
    (rows_needs plan B l.picture (l.row - 1) (l.row + 1)) all) uses
filtering_uses S plan s l m y line all (inl uses) =
    beside_counted plan s H l m y
    (both_left plan s (rows_needs plan H l.picture (l.row - 1) (l.row + 1))
    (rows_needs plan B l.picture l.row l.row) all) uses
filtering_uses S plan s l m y line all (inr uses) =
    own_counted plan s B l m y line
    (both_right plan s (rows_needs plan H l.picture (l.row - 1) (l.row + 1))
    (rows_needs plan B l.picture l.row l.row) all) uses

-- what making a unit uses
making_uses : (phase : Phase) (plan : FlightRows) (s : CoreState) (l : Line) (x : ℕ) (m : Line) (y : ℕ)
    → l.phase ≡ phase → IsLine plan l → x ≤ count_of plan s l → AreCounted plan s (counting_needs phase plan l x)
    → MakingUses phase plan l x m y → IsCounted plan s m y
making_uses B plan s l x m y is line before all uses = building_uses plan s l x m y line before all uses
making_uses V plan s l x m y is line before all uses =
    let P : Phase → Type 0 = λ phase. AreCounted plan s (phase_needs plan phase l.picture l.row) in
    filtering_uses V plan s l m y line (subst P is all) uses
making_uses H plan s l x m y is line before all uses =
    let P : Phase → Type 0 = λ phase. AreCounted plan s (phase_needs plan phase l.picture l.row) in
    filtering_uses H plan s l m y line (subst P is all) uses
making_uses S plan s l x m y is line before all uses =
    let P : Phase → Type 0 = λ phase. AreCounted plan s (phase_needs plan phase l.picture l.row) in
    filtering_uses S plan s l m y line (subst P is all) uses

-- what an event uses is counted where it is ready
pub ready_uses : (plan : FlightRows) (s : CoreState) (event : Event) (m : Line) (y : ℕ) → IsReady plan s event
    → Uses plan event m y → IsCounted plan s m y
ready_uses plan s Draw m y ready uses = absurd uses
ready_uses plan s (Read l x) m y ready uses =
    let next : IsNext plan s l x = ready.0.next in
    reading_uses plan s l x m y next.line (omega (arith, next.next)) ready.0.needs uses
ready_uses plan s (Build l x) m y ready uses =
    let next : IsNext plan s l x = ready.next in
    building_uses plan s l x m y next.line (omega (arith, next.next)) ready.needs uses
ready_uses plan s (Filter l) m y ready uses = filtering_uses l.phase plan s l m y ready.line ready.needs uses
ready_uses plan s (Fault u) m y (bad, (l, x, place, readable)) (k, z, at, tree, uses) =
    let next : IsNext plan s l x = readable.next in
    let same = place_unique plan u k l z x at place in
    let P : Line → Type 0 = λ line. ReadingUses plan line z m y in
    let Q : ℕ → Type 0 = λ n. ReadingUses plan l n m y in
    let here : ReadingUses plan l x m y = subst Q same.1 (subst P same.0 uses) in
    reading_uses plan s l x m y next.line (omega (arith, next.next)) readable.needs here

-- what a counted unit was made from is counted
pub counted_uses : (plan : FlightRows) (s : CoreState) (l : Line) (x : ℕ) (m : Line) (y : ℕ) → IsSound plan s
    → IsLine plan l → x < count_of plan s l → UnitUses plan l x m y → IsCounted plan s m y
counted_uses plan s l x m y sound line lt uses =
    making_uses l.phase plan s l x m y refl line (omega (arith, lt)) (sound.counted l x line lt) uses

-- a range that a unit is told to reach is of a base or an earlier picture
told_earlier : (plan : FlightRows) (l : Line) (x : ℕ) (range : RowRange) → IsFlight plan → IsLine plan l
    → Contains (told_reach plan l x) range → IsEarlier l.picture range.picture
told_earlier plan l x range flight line (i, inside, is) =
    let reach : List (List RowRange) = (picture_at plan l.picture).reach in
    let at : ℕ = unit_in_picture plan l x in
    let earlier = (flight.earlier l.picture (line_inside plan l line)).reach in
    elim (cases_lt at (length reach)) [
      | inl h ↦ let P : RowRange → Type 0 = λ r. IsEarlier l.picture r.picture in
          subst P is (earlier at [] h i range inside)
      | inr h ↦ let none : slice_index_or reach at [] ≡ [] = get_or_past reach at [] h in
          let few : length (slice_index_or reach at []) ≡ 0 = ap length none in
          absurd (omega (arith, few, inside))
    ]

-- what the taps of a unit's blocks read is used
pub taps_used : (plan : FlightRows) (motion : FlightMotion) (l : Line) (x : ℕ) (block : PredictedBlock) (k row : ℕ)
    → IsFlight plan → TellsMotion plan motion → IsLine plan l → x < width_of plan l
    → Contains (blocks_of plan motion l x) block → block.reference ≡ Flight k → ReadsRow motion.lines block row
    → BuildingUses plan l x (line_of S k row) 0
taps_used plan motion l x block k row flight tells line inside has named reads =
    let range : RowRange = range_of motion.lines block in
    let mapped : Contains (reach_of motion.lines (blocks_of plan motion l x)) range =
    map_contains (range_of motion.lines) (blocks_of plan motion l x) block has in
    let P : List RowRange → Type 0 = λ ranges. Contains ranges range in
    let told : Contains (told_reach plan l x) range = subst P (sym (tells.reach l x line inside)) mapped in
    let between = read_inside motion.lines block row tells.lines reads in
    let earlier : k < l.picture =
    subst (IsEarlier l.picture) named (told_earlier plan l x range flight line told) in
    let few = line_inside plan l line in
    let all = tells.rows k (omega (arith, earlier, few)) in
    let row_line : IsLine plan (line_of S k row) =
    row_of_picture motion.lines block row (picture_at plan k).rows tells.lines all reads in
    Reached range k row told named between.0 between.1 refl row_line refl
