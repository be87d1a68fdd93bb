-- The items of lists that stand one after the other.
use Rattle.std.proofs.Common.{ℕ, zero, suc, ◌≡◌, ◌+◌, ◌-◌, ◌<◌, ◌≤◌, List, [], ◌∷◌, ◌++◌, Option, Some, None, length}
use Rattle.std.proofs.Common.{get_or, drop, drop-cons, min, arith, refl, ap, ◌∙◌}
use Rattle.std.specs.Prelude.{slice_get}
use Rattle.std.specs.Option.{option_to_list}
use Rattle.std.specs.List.{flat_map}
use Rattle.std.proofs.lemmas.Option.{slice_get-get_or}
use Rattle.std.proofs.lemmas.List.Concat.{flat_map-cons}
use Rattle.std.proofs.lemmas.List.FromFn.{get_or-map-range_with_len, length-map-range_with_len}
use Rattle.flight_plan.specs.Flight.{FlightRows, picture_at}
use Rattle.hv_base.specs.declared.line.Line.{Line}
use Rattle.hv_base.specs.declared.line.Phase.{Phase}
use Rattle.flight_plan.specs.declared.row_range.RowRange.{RowRange}
use Rattle.board_core.specs.Places.{full_count, line_of}
use Rattle.board_core.specs.Needs.{rows_needs}

pub left_item : {X : Type 0} (xs ys : List X) (i : ℕ) → i < length xs → slice_get (xs ++ ys) i ≡ slice_get xs i
left_item [] ys i h = absurd (omega arith)
left_item (x ∷ xs) ys zero h = refl
left_item (x ∷ xs) ys (suc i) h = left_item xs ys i (omega arith)

pub right_item : {X : Type 0} (xs ys : List X) (i j : ℕ) → i ≡ length xs + j → slice_get (xs ++ ys) i ≡ slice_get ys j
right_item [] ys i j h = ap (slice_get ys) (omega arith)
right_item (x ∷ xs) ys zero j h = absurd (omega arith)
right_item (x ∷ xs) ys (suc i) j h = right_item xs ys i j (omega arith)

pub first_item : {X : Type 0} (o : Option X) (ys : List X) (i : ℕ) → i < length (option_to_list o)
    → slice_get (option_to_list o ++ ys) i ≡ o
first_item None ys i h = absurd (omega arith)
first_item (Some x) ys zero h = refl
first_item (Some x) ys (suc i) h = absurd (omega arith)

pub later_item : {X : Type 0} (o : Option X) (ys : List X) (i : ℕ) → length (option_to_list o) ≤ i
    → slice_get (option_to_list o ++ ys) i ≡ slice_get ys (i - length (option_to_list o))
later_item o ys i h = right_item (option_to_list o) ys i (i - length (option_to_list o)) (omega arith)

pub rest_item : {X : Type 0} (xs ys : List X) (i : ℕ) → length xs ≤ i
    → slice_get (xs ++ ys) i ≡ slice_get ys (i - length xs)
rest_item xs ys i h = right_item xs ys i (i - length xs) (omega arith)

-- the rows of a phase, counted
pub row_count : (plan : FlightRows) (phase : Phase) (k first last : ℕ)
    → length (rows_needs plan phase k first last) ≡ min (last + 1) (picture_at plan k).rows - first
row_count plan phase k first last =
    length-map-range_with_len (λ row. (line_of phase k row, full_count plan (line_of phase k row))) first
    (min (last + 1) (picture_at plan k).rows - first)

pub row_inside : (plan : FlightRows) (phase : Phase) (k first last i : ℕ)
    → i < length (rows_needs plan phase k first last)
    → first + i < min (last + 1) (picture_at plan k).rows
row_inside plan phase k first last i h = let e = row_count plan phase k first last in omega (arith, e, h)

pub row_item : (plan : FlightRows) (phase : Phase) (k first last i : ℕ)
    → i < length (rows_needs plan phase k first last)
    → slice_get (rows_needs plan phase k first last) i
    ≡ Some (line_of phase k (first + i), full_count plan (line_of phase k (first + i)))
row_item plan phase k first last i h =
    let n : ℕ = min (last + 1) (picture_at plan k).rows - first in
    let f : ℕ → Line × ℕ = λ r. (line_of phase k r, full_count plan (line_of phase k r)) in
    let lt : i < n = omega (arith, row_count plan phase k first last, h) in
    let e = get_or-map-range_with_len f first n i (first + i) (f 0) lt refl in
    slice_get-get_or (rows_needs plan phase k first last) i (f 0) h ∙ ap (λ (need : Line × ℕ). Some need) e

-- the needs of the ranges from the k-th on begin with those of that range
pub ranges_from : (f : RowRange → List (Line × ℕ)) (ranges : List RowRange) (k : ℕ) (d : RowRange) → k < length ranges
    → flat_map f (drop k ranges) ≡ f (get_or ranges k d) ++ flat_map f (drop (k + 1) ranges)
ranges_from f ranges k d h =
    let next : suc k ≡ k + 1 = omega arith in
    ap (flat_map f) (drop-cons ranges k d h ∙ ap (λ n. get_or ranges k d ∷ drop n ranges) next)
    ∙ flat_map-cons f (get_or ranges k d) (drop (k + 1) ranges)
