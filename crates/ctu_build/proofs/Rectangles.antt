-- Rectangles of samples.
use Rattle.std.proofs.Common.{◌≡◌, ℕ, ◌+◌, ◌-◌, ◌*◌, ◌<◌, ◌≤◌, ◌==◌, ◌&&◌, cond, Bool, List, Option, Some, get_or, ap}
use Rattle.std.proofs.Common.{◌∙◌, arith}
use Rattle.std.proofs.Math.Path.{fun_ext}
use Rattle.std.proofs.lemmas.Bool.Decides.{nat_tests}
use Rattle.ctu_records.specs.declared.prediction.Rectangle.{Rectangle}
use Rattle.ctu_records.specs.Prediction.{is_inside, rectangle}
use Rattle.spec_motion.specs.declared.vectors.Motion.{Motion}
use Rattle.spec_reconstruction.specs.declared.format.UnitFormat.{UnitFormat}
use Rattle.spec_reconstruction.specs.Inter.{InterUnit, component_predicted, inter_sample, rectangle_laid, samples_of}
use Rattle.spec_reconstruction.specs.Known.{Known}
use Rattle.spec_reconstruction.specs.SpecSliceData.{samples_of_place}

-- whether a sample is in a rectangle, and the sample there of one that stands in lines of 64
abbrev pub in_area : ℕ → ℕ → ℕ → ℕ → ℕ → ℕ → ℕ → ℕ → Bool
in_area c x y width height i j k = i == c && is_inside (rectangle (x + 1) (y + 1) width height) j k

abbrev pub area_sample : List ℕ → ℕ → ℕ → ℕ → ℕ → ℕ
area_sample samples x y i j = get_or samples (64 * (j - y) + (i - x)) 0

-- all lines
all_at : (samples : List ℕ) (c : ℕ) (area : Rectangle) (known : Known) (i j k : ℕ) (new : Option ℕ)
    → new
    ≡ cond (in_area c area.x area.y area.width area.height i j k)
    (Some (area_sample samples area.x area.y (j - 1) (k - 1))) (known i j k)
    → new ≡ rectangle_laid c area (area_sample samples area.x area.y) known i j k
unfolding rectangle_laid
all_at samples c area known i j k new told = told

pub area_laid : (samples : List ℕ) (c : ℕ) (area : Rectangle) (before after : Known) (height : ℕ) → height ≡ area.height
    → ((i j k : ℕ)
    → after i j k
    ≡ cond (in_area c area.x area.y area.width height i j k) (Some (area_sample samples area.x area.y (j - 1) (k - 1)))
    (before i j k))
    → after ≡ rectangle_laid c area (area_sample samples area.x area.y) before
area_laid samples c area before after height e told =
    fun_ext (λ i. fun_ext (λ j. fun_ext (λ k. all_at samples c area before i j k (after i j k)
    (rw (← e) (told i j k)))))

-- a rectangle depends on its own samples alone
same_at : (c : ℕ) (block : Rectangle) (f g : ℕ → ℕ → ℕ) (known : Known)
    → ((i j : ℕ) → block.x ≤ i → i < block.x + block.width → block.y ≤ j → j < block.y + block.height → f i j ≡ g i j)
    → (d i j : ℕ) → rectangle_laid c block f known d i j ≡ rectangle_laid c block g known d i j
unfolding rectangle_laid
same_at c block f g known same d i j = let e = same (i - 1) (j - 1) in grind (arith, nat_tests)

rectangle_same : (c : ℕ) (block : Rectangle) (f g : ℕ → ℕ → ℕ) (known : Known)
    → ((i j : ℕ) → block.x ≤ i → i < block.x + block.width → block.y ≤ j → j < block.y + block.height → f i j ≡ g i j)
    → rectangle_laid c block f known ≡ rectangle_laid c block g known
rectangle_same c block f g known same =
    fun_ext (λ d. fun_ext (λ i. fun_ext (λ j. same_at c block f g known same d i j)))

-- a sample by its column and its line in a block
from_first : (f : ℕ → ℕ → ℕ) (x y i j : ℕ) → x ≤ i → y ≤ j → f (x + (i - x)) (y + (j - y)) ≡ f i j
from_first f x y i j hi hj =
    ap (λ (a : ℕ). f a (y + (j - y))) (omega (arith, hi)) ∙ ap (λ (b : ℕ). f i b) (omega (arith, hj))

-- a component of a predicted block
pub component_laid : (format : UnitFormat) (inter : InterUnit) (block area : Rectangle) (motion : Motion) (c : ℕ)
    (out : List ℕ) (before after : Known)
    → area ≡ samples_of c block
    → after ≡ rectangle_laid c area (area_sample out area.x area.y) before
    → ((x y : ℕ) → x < samples_of_place c * block.width → y < samples_of_place c * block.height
    → get_or out (64 * y + x) 0
    ≡ inter_sample format inter c motion (samples_of_place c * inter.column + (samples_of_place c * block.x + x))
    (samples_of_place c * inter.row + (samples_of_place c * block.y + y)))
    → after ≡ component_predicted format inter block motion c before
unfolding component_predicted
component_laid format inter block area motion c out before after is told each =
    told
    ∙ ap (λ (a : Rectangle). rectangle_laid c a (area_sample out a.x a.y) before) is
    ∙ rectangle_same c (samples_of c block) _
    (λ x y. inter_sample format inter c motion (samples_of_place c * inter.column + x)
    (samples_of_place c * inter.row + y))
    before
    (λ i j least_x most_x least_y most_y.
    each (i - samples_of_place c * block.x) (j - samples_of_place c * block.y) (omega (arith, least_x, most_x))
    (omega (arith, least_y, most_y))
    ∙ from_first (λ x y. inter_sample format inter c motion (samples_of_place c * inter.column + x)
    (samples_of_place c * inter.row + y))
    _ _ i j least_x least_y)
