-- When all needs of a list are counted.
use Rattle.std.proofs.Common.{ℕ, zero, suc, ◌≡◌, ◌+◌, ◌-◌, ◌<◌, ◌≤◌, List, [], ◌∷◌, ◌++◌, length, get_or, min, arith}
use Rattle.std.proofs.Common.{refl, sym, ap, ◌∙◌, subst, All}
use Rattle.std.specs.List.{flat_map, range_with_len}
use Rattle.std.proofs.lemmas.List.{get_or_append_left, get_or-append_right}
use Rattle.std.proofs.lemmas.List.Concat.{flat_map-cons}
use Rattle.std.proofs.lemmas.List.Elements.{All-nil, All-cons, All-head, All-append, All-map, All-from_get_or}
use Rattle.std.proofs.lemmas.List.FromFn.{get_or-map-range_with_len, get_or-range_with_len, length-map-range_with_len}
use Rattle.std.proofs.lemmas.List.FromFn.{length-range_with_len}
use Rattle.std.proofs.lemmas.List.{length-append}
use Rattle.flight_plan.specs.Flight.{FlightRows, picture_at}
use Rattle.hv_base.specs.declared.line.Line.{Line}
use Rattle.hv_base.specs.declared.line.Phase.{Phase}
use Rattle.hv_base.specs.declared.line.Phase.TheVariants.{B, V, H, S}
use Rattle.board_core.specs.Places.{full_count, line_of}
use Rattle.board_core.specs.Needs.{above_needs, build_needs, collocated_of, counting_needs, filter_needs, reach_needs}
use Rattle.board_core.specs.Needs.{read_needs, row_needs, rows_needs, unit_needs}
use Rattle.board_core.specs.States.{CoreState, AreCounted, count_of}

pub left_part : {X : Type 0} (P : X → Type 0) (xs ys : List X) → All P (xs ++ ys) → All P xs
left_part P xs ys all k d inside =
    let more : k < length (xs ++ ys) = omega (arith, length-append xs ys) in
    let e = get_or_append_left xs ys d k inside in
    subst P e (all k d more)

pub right_part : {X : Type 0} (P : X → Type 0) (xs ys : List X) → All P (xs ++ ys) → All P ys
right_part P xs ys all k d inside =
    let n : ℕ = length xs in
    let more : n + k < length (xs ++ ys) = omega (arith, length-append xs ys) in
    let e = get_or-append_right xs ys n (n + k) d (λ _. n) (omega arith) in
    let at : n + k - n ≡ k = omega arith in
    subst P (e ∙ ap (λ i. get_or ys i d) at) (all (n + k) d more)

-- all of each piece are all of the whole
pub pieces_all : {A X : Type 0} (P : X → Type 0) (f : A → List X) (xs : List A)
    → ((k : ℕ) (d : A) → k < length xs → All P (f (get_or xs k d))) → All P (flat_map f xs)
pieces_all P f [] each = All-nil P
pieces_all P f (x ∷ xs) each =
    let first : All P (f x) = each 0 x (omega arith) in
    let rest : All P (flat_map f xs) = pieces_all P f xs (λ k d inside. each (suc k) d (omega arith)) in
    subst (All P) (sym (flat_map-cons f x xs)) (All-append P (f x) (flat_map f xs) first rest)

pub pieces_each : {A X : Type 0} (P : X → Type 0) (f : A → List X) (xs : List A) → All P (flat_map f xs)
    → (k : ℕ) (d : A) → k < length xs → All P (f (get_or xs k d))
pieces_each P f [] all k d inside = absurd (omega arith)
pieces_each P f (x ∷ xs) all zero d inside =
    left_part P (f x) (flat_map f xs) (subst (All P) (flat_map-cons f x xs) all)
pieces_each P f (x ∷ xs) all (suc k) d inside =
    pieces_each P f xs (right_part P (f x) (flat_map f xs) (subst (All P) (flat_map-cons f x xs) all)) k d (omega arith)

-- the rows of a phase, one by one
pub rows_all : (plan : FlightRows) (s : CoreState) (phase : Phase) (k first last : ℕ)
    → ((r : ℕ) → first ≤ r → r < min (last + 1) (picture_at plan k).rows
    → full_count plan (line_of phase k r) ≤ count_of plan s (line_of phase k r))
    → AreCounted plan s (rows_needs plan phase k first last)
rows_all plan s phase k first last each =
    let n : ℕ = min (last + 1) (picture_at plan k).rows - first in
    let P : Line × ℕ → Type 0 = λ need. need.1 ≤ count_of plan s need.0 in
    let f : ℕ → Line × ℕ = λ r. (line_of phase k r, full_count plan (line_of phase k r)) in
    All-map P f (range_with_len first n)
    (All-from_get_or (λ r. P (f r)) (range_with_len first n) 0
    (λ i inside.
    let lt : i < n = omega (arith, length-range_with_len first n) in
    let e = get_or-range_with_len first n i 0 lt in
    subst (λ r. P (f r)) (sym e) (each (first + i) (omega arith) (omega arith))))

pub rows_each : (plan : FlightRows) (s : CoreState) (phase : Phase) (k first last : ℕ)
    → AreCounted plan s (rows_needs plan phase k first last)
    → (r : ℕ) → first ≤ r → r < min (last + 1) (picture_at plan k).rows
    → full_count plan (line_of phase k r) ≤ count_of plan s (line_of phase k r)
rows_each plan s phase k first last all r low high =
    let n : ℕ = min (last + 1) (picture_at plan k).rows - first in
    let P : Line × ℕ → Type 0 = λ need. need.1 ≤ count_of plan s need.0 in
    let f : ℕ → Line × ℕ = λ r. (line_of phase k r, full_count plan (line_of phase k r)) in
    let i : ℕ = r - first in
    let lt : i < n = omega arith in
    let at : first + i ≡ r = omega arith in
    let e = get_or-map-range_with_len f first n i r (f 0) lt at in
    subst P e (all i (f 0) (omega (arith, length-map-range_with_len f first n)))

-- two lists of needs, one after the other
pub both_all : (plan : FlightRows) (s : CoreState) (xs ys : List (Line × ℕ)) → AreCounted plan s xs
    → AreCounted plan s ys → AreCounted plan s (xs ++ ys)
both_all plan s xs ys = All-append (λ (need : Line × ℕ). need.1 ≤ count_of plan s need.0) xs ys

pub both_left : (plan : FlightRows) (s : CoreState) (xs ys : List (Line × ℕ)) → AreCounted plan s (xs ++ ys)
    → AreCounted plan s xs
both_left plan s xs ys = left_part (λ (need : Line × ℕ). need.1 ≤ count_of plan s need.0) xs ys

pub both_right : (plan : FlightRows) (s : CoreState) (xs ys : List (Line × ℕ)) → AreCounted plan s (xs ++ ys)
    → AreCounted plan s ys
both_right plan s xs ys = right_part (λ (need : Line × ℕ). need.1 ≤ count_of plan s need.0) xs ys

pub one_all : (plan : FlightRows) (s : CoreState) (need : Line × ℕ) → need.1 ≤ count_of plan s need.0
    → AreCounted plan s (need ∷ [])
one_all plan s need h =
    let P : Line × ℕ → Type 0 = λ need. need.1 ≤ count_of plan s need.0 in All-cons P need [] h (All-nil P)

pub one_each : (plan : FlightRows) (s : CoreState) (need : Line × ℕ) → AreCounted plan s (need ∷ [])
    → need.1 ≤ count_of plan s need.0
one_each plan s need all = let P : Line × ℕ → Type 0 = λ need. need.1 ≤ count_of plan s need.0 in All-head P need [] all

-- the needs of a build are those of the row above, of the collocated picture, and of its reach
pub build_all : (plan : FlightRows) (s : CoreState) (l : Line) (x : ℕ) → AreCounted plan s (read_needs plan l x)
    → AreCounted plan s (row_needs plan (collocated_of plan l x) l.row) → AreCounted plan s (reach_needs plan l x)
    → AreCounted plan s (build_needs plan l x)
build_all plan s l x above collocated reach =
    let P : Line × ℕ → Type 0 = λ need. need.1 ≤ count_of plan s need.0 in
    let row = row_needs plan (collocated_of plan l x) l.row in
    All-append P (above_needs plan l x) (row ++ reach_needs plan l x) above
    (All-append P row (reach_needs plan l x) collocated reach)

pub build_above : (plan : FlightRows) (s : CoreState) (l : Line) (x : ℕ) → AreCounted plan s (build_needs plan l x)
    → AreCounted plan s (read_needs plan l x)
build_above plan s l x all =
    let P : Line × ℕ → Type 0 = λ need. need.1 ≤ count_of plan s need.0 in
    let row = row_needs plan (collocated_of plan l x) l.row in
    left_part P (above_needs plan l x) (row ++ reach_needs plan l x) all

pub build_row : (plan : FlightRows) (s : CoreState) (l : Line) (x : ℕ) → AreCounted plan s (build_needs plan l x)
    → AreCounted plan s (row_needs plan (collocated_of plan l x) l.row)
build_row plan s l x all =
    let P : Line × ℕ → Type 0 = λ need. need.1 ≤ count_of plan s need.0 in
    let row = row_needs plan (collocated_of plan l x) l.row in
    left_part P row (reach_needs plan l x) (right_part P (above_needs plan l x) (row ++ reach_needs plan l x) all)

pub build_reach : (plan : FlightRows) (s : CoreState) (l : Line) (x : ℕ) → AreCounted plan s (build_needs plan l x)
    → AreCounted plan s (reach_needs plan l x)
build_reach plan s l x all =
    let P : Line × ℕ → Type 0 = λ need. need.1 ≤ count_of plan s need.0 in
    let row = row_needs plan (collocated_of plan l x) l.row in
    right_part P row (reach_needs plan l x) (right_part P (above_needs plan l x) (row ++ reach_needs plan l x) all)

-- counting a coding tree unit needs what building it needs
pub unit_needs_tree : (plan : FlightRows) (l : Line) (x : ℕ) → l.phase ≡ B → unit_needs plan l x ≡ build_needs plan l x
unit_needs_tree plan l x tree = ap (λ phase. counting_needs phase plan l x) tree

-- counting a line of another phase needs what filtering it needs
needs_of_filter : (phase : Phase) (plan : FlightRows) (l : Line) (x : ℕ) → ¬ (phase ≡ B)
    → counting_needs phase plan l x ≡ filter_needs plan l
needs_of_filter B plan l x filter = absurd (filter refl)
needs_of_filter V plan l x filter = refl
needs_of_filter H plan l x filter = refl
needs_of_filter S plan l x filter = refl

pub unit_needs_filter : (plan : FlightRows) (l : Line) (x : ℕ) → ¬ (l.phase ≡ B)
    → unit_needs plan l x ≡ filter_needs plan l
unit_needs_filter plan l x filter = needs_of_filter l.phase plan l x filter
