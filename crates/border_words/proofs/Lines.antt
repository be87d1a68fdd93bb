-- The lowest line of samples of a coding tree unit, by the samples of its picture.
use Rattle.std.proofs.Common.{◌≡◌, ℕ, ◌+◌, ◌-◌, ◌*◌, ◌/◌, ◌%◌, ◌<◌, ◌≤◌, Bool, true, false, if◌then◌else◌}
use Rattle.std.proofs.Common.{min, arith, ap, ◌∙◌, subst}
use Rattle.std.specs.Prelude.{◌==◌}
use Rattle.spec_flights.specs.SpecDecodedPictures.{DecodedUnits}
use Rattle.spec_slice_data.specs.Residual.{samples_of_place}
use Rattle.spec_slice_data.specs.Segment.{PictureShape}
use Rattle.sample_words.specs.Contents.{component_side}
use Rattle.row_borders.specs.Next.{HasLine}
use Rattle.row_borders.specs.Strips.{StripPlaces}

-- where the samples of a unit begin
left_by : (b : Bool) (n x m : ℕ) → m ≡ 4 * n → (if b then x * m else x * m / 2) ≡ (if b then 4 else 2) * (n * x)
left_by true n x m is = let e : x * m ≡ 4 * (n * x) = ap (λ k. x * k) is ∙ grind arith in e
left_by false n x m is = let e : x * m ≡ 4 * (n * x) = ap (λ k. x * k) is ∙ grind arith in omega (arith, e)

pub left_is : (c n x m : ℕ) → m ≡ 4 * n → component_side c (x * m) ≡ samples_of_place c * (n * x)
left_is c n x m is = left_by (c == 0) n x m is

-- its lowest line
lowest_by : (b : Bool) (n row m : ℕ) → m ≡ 4 * n → 1 ≤ n
    → (if b then row * m else row * m / 2) + ((if b then m else m / 2) - 1)
    ≡ (if b then 4 else 2) * n * (row + 1) - 1
lowest_by true n row m is some =
    let e : row * m ≡ 4 * (n * row) = ap (λ k. row * k) is ∙ grind arith in
    let g : 4 * n * (row + 1) ≡ 4 * (n * row) + 4 * n = grind arith in
    omega (arith, e, g, is, some)
lowest_by false n row m is some =
    let e : row * m ≡ 4 * (n * row) = ap (λ k. row * k) is ∙ grind arith in
    let g : 2 * n * (row + 1) ≡ 2 * (n * row) + 2 * n = grind arith in
    omega (arith, e, g, is, some)

pub lowest_is : (c n row m : ℕ) → m ≡ 4 * n → 1 ≤ n
    → component_side c (row * m) + (component_side c m - 1) ≡ samples_of_place c * n * (row + 1) - 1
lowest_is c n row m is some = lowest_by (c == 0) n row m is some

some_by : (b : Bool) (m : ℕ) → 2 ≤ m → 1 ≤ (if b then m else m / 2)
some_by true m some = omega (arith, some)
some_by false m some = omega (arith, some)

pub some_lines : (c m : ℕ) → 2 ≤ m → 1 ≤ component_side c m
some_lines c m some = some_by (c == 0) m some

few_by : (b : Bool) (m : ℕ) → m ≤ 64 → (if b then m else m / 2) ≤ 64
few_by true m few = few
few_by false m few = omega (arith, few)

pub few_samples : (c m : ℕ) → m ≤ 64 → component_side c m ≤ 64
few_samples c m few = few_by (c == 0) m few

-- where they end
inside_by : (b : Bool) (n x m w : ℕ) → m ≡ 4 * n → w % 4 ≡ 0 → x * m < w
    → (if b then 4 else 2) * (n * x) + (if b then min m (w - x * m) else min m (w - x * m) / 2)
    ≤ (if b then 4 else 2) * (w / 4)
inside_by true n x m w is whole less =
    let e : x * m ≡ 4 * (n * x) = ap (λ k. x * k) is ∙ grind arith in omega (arith, e, whole, less)
inside_by false n x m w is whole less =
    let e : x * m ≡ 4 * (n * x) = ap (λ k. x * k) is ∙ grind arith in omega (arith, e, whole, less)

pub inside_is : (c n x m w : ℕ) → m ≡ 4 * n → w % 4 ≡ 0 → x * m < w
    → samples_of_place c * (n * x) + component_side c (min m (w - x * m)) ≤ samples_of_place c * (w / 4)
inside_is c n x m w is whole less = inside_by (c == 0) n x m w is whole less

reached_by : (b : Bool) (n x m w i : ℕ) → m ≡ 4 * n → w % 4 ≡ 0 → i < (if b then 4 else 2) * (n * (x + 1))
    → i < (if b then 4 else 2) * (w / 4)
    → i < (if b then 4 else 2) * (n * x) + (if b then min m (w - x * m) else min m (w - x * m) / 2)
reached_by true n x m w i is whole less across =
    let e : x * m ≡ 4 * (n * x) = ap (λ k. x * k) is ∙ grind arith in
    let g : 4 * (n * (x + 1)) ≡ 4 * (n * x) + 4 * n = grind arith in
    omega (arith, e, g, is, whole, less, across)
reached_by false n x m w i is whole less across =
    let e : x * m ≡ 4 * (n * x) = ap (λ k. x * k) is ∙ grind arith in
    let g : 2 * (n * (x + 1)) ≡ 2 * (n * x) + 2 * n = grind arith in
    omega (arith, e, g, is, whole, less, across)

-- what is laid as far as the unit goes is laid before the next unit
pub line_end : (picture : PictureShape) (row : ℕ) (above : StripPlaces) (units : DecodedUnits) (c n x m w : ℕ)
    → m ≡ 4 * n → w % 4 ≡ 0 → picture.across ≡ w / 4
    → HasLine picture row above units c (samples_of_place c * (n * x) + component_side c (min m (w - x * m)))
    → HasLine picture row above units c (samples_of_place c * (n * (x + 1)))
line_end picture row above units c n x m w is whole across has i low less inside =
    has i low
    (reached_by (c == 0) n x m w i is whole less
    (subst (λ a. i < samples_of_place c * a) across inside)) inside
