-- Rows of words end inside their unit.
use Rattle.std.proofs.Common.{◌≡◌, ℕ, zero, suc, ◌+◌, ◌*◌, ◌/◌, ◌<◌, ◌≤◌, Bool, true, false, cond, arith, ap, sym}
use Rattle.std.proofs.Common.{◌∙◌, subst}
use Rattle.std.proofs.Math.Nat.{mul-le-mul_right, mul_comm}
use Rattle.sample_words.specs.declared.sizes.FlightSizes.{FlightSizes}
use Rattle.sample_words.specs.Contents.{component_side, component_words, components_before}
use Rattle.sample_words.specs.Sizes.{carry_words, common_words, context_words, covering, line_words, places}
use Rattle.sample_words.specs.Sizes.{sample_words}
use Rattle.sample_words.proofs.Parts.{next_part}

-- a row of a block ends where the block does, or before
pub row_ends : (start rows words row first end : ℕ) → row < rows → first ≡ start + row * words
    → start + rows * words ≤ end → first + words ≤ end
row_ends start rows words row first end less at room =
    let le : (row + 1) * words ≤ rows * words = mul-le-mul_right words (omega (arith, less)) in
    let e = next_part row words in
    omega (arith, le, e, at, room)

-- where a row begins, as many words behind the first row as those before it have
pub row_at : (start first next row count words : ℕ) → first ≡ start → next ≡ first + row * count → words ≡ count
    → next ≡ start + row * words
row_at start first next row count words begins at many =
    at ∙ (ap (λ (n : ℕ). n + row * count) begins ∙ ap (λ (n : ℕ). start + row * n) (sym many))

-- one row more is written
pub one_more : (first row count words next after : ℕ) → next ≡ first + row * count → words ≡ count
    → after ≡ next + words → after ≡ first + (row + 1) * count
one_more first row count words next after at many is =
    let e = next_part row count in omega (arith, at, many, is, e)

-- a line of up to 64 samples has up to sixteen words
few_by : (deep : Bool) (n : ℕ) → n ≤ 64 → covering (cond deep 4 8) n ≤ 16
few_by true n few = omega (arith, few)
few_by false n few = omega (arith, few)

pub few_words : (s : FlightSizes) (n : ℕ) → n ≤ 64 → line_words s n ≤ 16
unfolding line_words
few_words s n few = few_by s.deep n few

module _ (s : FlightSizes) (width height column : ℕ) where
  abbrev pub all_words : ℕ
  all_words = common_words s width height + (context_words column + carry_words s column)

  -- the words that each unit has are among them
  common_fit : (n : ℕ) → n ≤ common_words s width height → n ≤ all_words
  common_fit n few = omega (arith, few)

  samples_fit : (n : ℕ) → n ≤ sample_words s width height → n ≤ common_words s width height
  unfolding common_words
  samples_fit n few = omega (arith, few)

  -- a component ends before the next one
  component_ends : (c : ℕ) → c < 3
      → components_before s width height c + component_words s width height c ≤ sample_words s width height
  unfolding sample_words
  component_ends zero few = omega arith
  component_ends (suc zero) few = omega arith
  component_ends (suc (suc zero)) few = omega arith
  component_ends (suc (suc (suc c))) few = absurd (omega (arith, few))

  -- all of them are the samples
  pub components_are :
      component_words s width height 0 + component_words s width height 1 + component_words s width height 2
      ≡ sample_words s width height
  unfolding sample_words
  components_are = omega arith

  pub samples_end : (c line words first : ℕ) → c < 3 → line < component_side c height
      → words ≡ line_words s (component_side c width) → first ≡ components_before s width height c + line * words
      → first + words ≤ all_words
  samples_end c line words first few less many at =
      let room : components_before s width height c + component_side c height * words ≤ sample_words s width height =
      subst
      (λ (n : ℕ). components_before s width height c + component_side c height * n ≤ sample_words s width height)
      (sym many) (component_ends c few) in
      common_fit (first + words) (samples_fit (first + words)
      (row_ends (components_before s width height c) (component_side c height) words line first
      (sample_words s width height) less at room))

  -- the words of all rows of places
  rows_are : (words : ℕ) → words ≡ width / 4 → height / 4 * words ≡ places width height
  rows_are words many =
      ap (λ (n : ℕ). height / 4 * n) many ∙ mul_comm (height / 4) (width / 4)

  vectors_fit : sample_words s width height + places width height ≤ common_words s width height
  unfolding common_words
  vectors_fit = omega arith

  modes_fit : sample_words s width height + places width height + places width height ≤ common_words s width height
  unfolding common_words
  modes_fit = omega arith

  pub vectors_end : (y words first : ℕ) → y < height / 4 → words ≡ width / 4
      → first ≡ sample_words s width height + y * words → first + words ≤ all_words
  vectors_end y words first less many at =
      common_fit (first + words)
      (row_ends (sample_words s width height) (height / 4) words y first (common_words s width height) less at
      (subst (λ (n : ℕ). sample_words s width height + n ≤ common_words s width height) (sym (rows_are words many))
      vectors_fit))

  pub modes_end : (y words first : ℕ) → y < height / 4 → words ≡ width / 4
      → first ≡ sample_words s width height + places width height + y * words → first + words ≤ all_words
  modes_end y words first less many at =
      common_fit (first + words)
      (row_ends (sample_words s width height + places width height) (height / 4) words y first
      (common_words s width height) less at
      (subst (λ (n : ℕ). sample_words s width height + places width height + n ≤ common_words s width height)
      (sym (rows_are words many)) modes_fit))

  -- behind the offsets stand all words that each unit has
  pub offsets_are : (first next : ℕ) → first ≡ sample_words s width height + 2 * places width height → next ≡ first + 2
      → next ≡ common_words s width height
  unfolding common_words
  offsets_are first next at is = is ∙ ap (λ (n : ℕ). n + 2) at

  pub offsets_end : (first : ℕ) → first ≡ sample_words s width height + 2 * places width height
      → first + 2 ≤ all_words
  offsets_end first at =
      let e : first + 2 ≡ common_words s width height = offsets_are first (first + 2) at (omega arith) in
      common_fit (first + 2) (omega (arith, e))

  -- as many rows as a component has are the component, and as many as a unit has of places are its places
  pub component_is : (c first lines words next : ℕ) → lines ≡ component_side c height
      → words ≡ line_words s (component_side c width) → next ≡ first + lines * words
      → next ≡ first + component_words s width height c
  component_is c first lines words next many each at =
      at
      ∙ (ap (λ (n : ℕ). first + n * words) many
      ∙ ap (λ (n : ℕ). first + component_side c height * n) each)

  pub places_are : (first rows words next : ℕ) → rows ≡ height / 4 → words ≡ width / 4 → next ≡ first + rows * words
      → next ≡ first + places width height
  places_are first rows words next many each at =
      at ∙ (ap (λ (n : ℕ). first + n * words) many ∙ ap (λ (n : ℕ). first + n) (rows_are words each))
