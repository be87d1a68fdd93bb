-- Where the words of a line of samples stand among those of their unit.
use Rattle.std.proofs.Common.{◌≡◌, ℕ, zero, suc, ◌+◌, ◌*◌, ◌/◌, ◌<◌, ◌≤◌, true, arith, subst}
use Rattle.std.proofs.lemmas.Bool.{false≢true}
use Rattle.std.proofs.Math.Nat.{mul-le-mul_right}
use Rattle.hv_base.specs.declared.line.Phase.{Phase}
use Rattle.hv_base.specs.declared.line.Phase.TheVariants.{B, V, H, S}
use Rattle.sample_words.specs.declared.sizes.FlightSizes.{FlightSizes}
use Rattle.sample_words.specs.Contents.{component_side, components_before, index_of, unit_width}
use Rattle.sample_words.specs.Sizes.{common_words, filtered_words, line_words, sample_words, samples_a_word}
use Rattle.sample_words.specs.Words.{has_words, phase_words}
use Rattle.sample_words.proofs.Parts.{next_part}
use Rattle.line_words.specs.Places.{UnitAt, words_at}
use Rattle.sample_lines.specs.Lines.{height_at, luma_height, luma_width, sample_index, width_at}
use Rattle.sample_lines.proofs.LineWords.{few_before, some_words, words_of_none, words_of_part}

-- words of a line follow one another
pub index_more : (at : UnitAt) (c line word k : ℕ) → sample_index at c line word + k ≡ sample_index at c line (word + k)
unfolding sample_index index_of
index_more at c line word k = omega arith

-- the words of a line are among those of the samples
line_below : (s : FlightSizes) (width height c y : ℕ) → c < 3 → y < component_side c height
    → components_before s width height c + (y + 1) * line_words s (component_side c width) ≤ sample_words s width height
unfolding sample_words
line_below s width height zero y few below =
    let le : (y + 1) * line_words s width ≤ height * line_words s width =
    mul-le-mul_right (line_words s width) (omega (arith, below)) in
    omega (arith, le)
line_below s width height (suc zero) y few below =
    let words : ℕ = line_words s (width / 2) in
    let le : (y + 1) * words ≤ height / 2 * words = mul-le-mul_right words (omega (arith, below)) in
    omega (arith, le)
line_below s width height (suc (suc zero)) y few below =
    let words : ℕ = line_words s (width / 2) in
    let le : (y + 1) * words ≤ height / 2 * words = mul-le-mul_right words (omega (arith, below)) in
    omega (arith, le)
line_below s width height (suc (suc (suc c))) y few below = absurd (omega (arith, few))

-- and these among those of the unit, in a phase whose units have words
samples_below : (s : FlightSizes) (phase : Phase) (height unit : ℕ) → has_words phase ≡ true
    → sample_words s (unit_width s phase unit) height ≤ phase_words s phase height unit
unfolding common_words filtered_words
samples_below s B height unit has = omega arith
samples_below s V height unit has = absurd (false≢true has)
samples_below s H height unit has = absurd (false≢true has)
samples_below s S height unit has = omega arith

-- words of a line from one on are words of the unit
pub line_inside : (at : UnitAt) (c line word count : ℕ) → has_words at.line.phase ≡ true → c < 3
    → line < height_at at c → word + count ≤ line_words at.sizes (width_at at c)
    → sample_index at c line word + count ≤ words_at at
unfolding sample_index index_of
line_inside at c line word count has few below less =
    let words : ℕ = line_words at.sizes (width_at at c) in
    let samples = line_below at.sizes (luma_width at) (luma_height at) c line few below in
    let all = samples_below at.sizes at.line.phase (luma_height at) at.unit has in
    let next : (line + 1) * words ≡ line * words + words = next_part line words in
    omega (arith, less, samples, all, next)

-- so are the words that have samples of a line from one on
pub samples_inside : (at : UnitAt) (c line word count : ℕ) → has_words at.line.phase ≡ true → c < 3
    → line < height_at at c → samples_a_word at.sizes * word + count ≤ width_at at c
    → sample_index at c line word + line_words at.sizes count ≤ words_at at
unfolding line_words
samples_inside at c line word count has few below inside =
    line_inside at c line word (line_words at.sizes count) has few below
    (words_of_part at.sizes.deep (width_at at c) word count inside)

-- a line that has samples has words, and a word of which samples are asked for is one of them
pub word_inside : (s : FlightSizes) (width word count : ℕ) → 0 < count → samples_a_word s * word + count ≤ width
    → word < line_words s width
unfolding line_words
word_inside s width word count some inside =
    let part = words_of_part s.deep width word count inside in
    let more = some_words s.deep count some in
    omega (arith, part, more)

-- a word of a line has few before it
pub few_words : (s : FlightSizes) (word count : ℕ) → samples_a_word s * word + count ≤ 8192 → word ≤ 8192
few_words s word count few = few_before s.deep word count few

-- no samples have no words
pub no_words : (s : FlightSizes) (count : ℕ) → count ≡ 0 → line_words s count ≡ 0
unfolding line_words
no_words s count none = words_of_none s.deep count none

-- the same by the sizes of a layout
pub samples_within : (at : UnitAt) (s : FlightSizes) → at.sizes ≡ s → has_words at.line.phase ≡ true
    → (c line word count first : ℕ) → c < 3 → line < height_at at c → samples_a_word s * word + count ≤ width_at at c
    → first ≡ sample_index at c line word → first + line_words s count ≤ words_at at
samples_within at s place has c line word count first few below inside is =
    subst
    (λ (t : FlightSizes). samples_a_word t * word + count ≤ width_at at c → first + line_words t count ≤ words_at at)
    place
    (λ less. let all = samples_inside at c line word count has few below less in omega (arith, all, is))
    inside

-- a component's lines begin behind the components before it
pub line_start : (at : UnitAt) (s : FlightSizes) → at.sizes ≡ s → (c line : ℕ)
    → components_before s (luma_width at) (luma_height at) c + line * line_words s (width_at at c)
    ≡ sample_index at c line 0
unfolding sample_index index_of
line_start at s place c line =
    subst
    (λ (t : FlightSizes). components_before t (luma_width at) (luma_height at) c + line * line_words t (width_at at c)
    ≡ components_before at.sizes (luma_width at) (luma_height at) c
    + (line * line_words at.sizes (width_at at c) + 0))
    place (omega arith)
