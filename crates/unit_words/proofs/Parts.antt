-- The samples of a line of a unit, as a part of its cells.
use Rattle.std.proofs.Common.{◌≡◌, ℕ, ◌+◌, ◌*◌, ◌<◌, ◌≤◌, Bool, true, false, cond, nat_lt, List, length}
use Rattle.std.proofs.Common.{slice_index, ap, ◌∙◌, arith, refl}
use Rattle.std.specs.List.{between}
use Rattle.std.proofs.Math.Path.{fun_ext}
use Rattle.std.proofs.lemmas.Bool.{false≢true, lt-ltb, ltb-false, ltb-true}
use Rattle.std.proofs.lemmas.List.{get_or_past}
use Rattle.std.proofs.lemmas.List.Edits.{get_or-between, length-between}
use Rattle.sample_words.specs.Contents.{there}
use Rattle.sample_words.specs.Packing.{lanes}

value_if : (test : Bool) (v x : ℕ) → (test ≡ true → v ≡ x) → (test ≡ false → v ≡ 0) → v ≡ cond test x 0
value_if true v x held none = held refl
value_if false v x held none = none refl

-- a list that has these values at its first so many places, and no more of them
pub value_there : (part : List ℕ) (width : ℕ) (g : ℕ → ℕ) → length part ≡ width
    → ((i : ℕ) → i < width → slice_index part i ≡ g i) → (i : ℕ) → slice_index part i ≡ there width g i
value_there part width g count told i =
    value_if (nat_lt i width) (slice_index part i) (g i) (λ t. told i (ltb-true i width t))
    (λ t. get_or_past part i 0 (let past = ltb-false i width t in omega arith))

pub part_is : (cells : List ℕ) (width : ℕ) (g : ℕ → ℕ) → length cells ≡ 129 → width ≤ 64
    → ((j : ℕ) → j < 129 → slice_index cells j ≡ g j) → (i : ℕ)
    → slice_index (between 1 (1 + width) cells) i ≡ there width (λ x. g (x + 1)) i
part_is cells width g count few told i =
    let size : length (between 1 (1 + width) cells) ≡ width =
    length-between cells 1 (1 + width) (omega arith) ∙ omega arith in
    value_there (between 1 (1 + width) cells) width (λ x. g (x + 1)) size
    (λ k below. get_or-between cells 1 (1 + width) k 0 (omega arith)
    ∙ (told (1 + k) (omega arith) ∙ ap g (omega arith))) i

-- such samples stay below a bound
below_if : (test : Bool) (x bound : ℕ) → 0 < bound → (test ≡ true → x < bound) → cond test x 0 < bound
below_if true x bound some held = held refl
below_if false x bound some held = some

pub there_below : (width bound : ℕ) (g : ℕ → ℕ) → 0 < bound → ((x : ℕ) → x < width → g x < bound) → (i : ℕ)
    → there width g i < bound
there_below width bound g some small i = below_if (nat_lt i width) (g i) bound some (λ t. small i (ltb-true i width t))

-- words of equal samples
pub same_lanes : (bits n : ℕ) (f g : ℕ → ℕ) → ((j : ℕ) → f j ≡ g j) → lanes bits n f ≡ lanes bits n g
same_lanes bits n f g same = ap (lanes bits n) (fun_ext same)

-- the words of a line that has these samples
pub line_is : (bits n : ℕ) (samples : List ℕ) (f : ℕ → ℕ)
    → ((i : ℕ) → i < length samples → slice_index samples i ≡ f i) → (k : ℕ)
    → lanes bits n (λ j. slice_index samples (n * k + j)) ≡ lanes bits n (λ j. there (length samples) f (n * k + j))
line_is bits n samples f are k =
    same_lanes bits n (λ j. slice_index samples (n * k + j)) (λ j. there (length samples) f (n * k + j))
    (λ j. value_there samples (length samples) f refl are (n * k + j))

it_if : (test : Bool) (x : ℕ) → test ≡ true → cond test x 0 ≡ x
it_if true x is = refl
it_if false x is = absurd (false≢true is)

pub there_is : (count : ℕ) (f : ℕ → ℕ) (i : ℕ) → i < count → there count f i ≡ f i
there_is count f i below = it_if (nat_lt i count) (f i) (lt-ltb i count below)
