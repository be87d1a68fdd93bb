-- What the words of a unit have: lines of luma samples, of Cb and of Cr; and in phase B the vectors of its places of
-- 4x4 luma samples, row after row, their modes, two words of offsets, the contexts behind the unit, and what it carries
-- on.
use Rattle.std.specs.Prelude.{◌≡◌, ℕ, ◌+◌, ◌-◌, ◌*◌, ◌/◌, ◌%◌, ◌<◌, ◌==◌, nat_lt, List, slice_index, if◌then◌else◌}
use Rattle.hv_base.specs.declared.line.Line.{Line}
use Rattle.hv_base.specs.declared.line.Phase.{Phase}
use Rattle.hv_base.specs.declared.line.Phase.TheVariants.{B, V, H, S}
use Rattle.spec_motion.specs.CtuRecords.{Sao}
use Rattle.spec_motion.specs.declared.vectors.Motion.{Motion}
use Rattle.sample_words.specs.declared.carry.Carry.{Carry}
use Rattle.sample_words.specs.declared.modes.PlaceModes.{PlaceModes}
use Rattle.sample_words.specs.declared.sizes.FlightSizes.{FlightSizes}
use Rattle.sample_words.specs.declared.unit_word.UnitWord.{UnitWord}
use Rattle.sample_words.specs.declared.unit_content.UnitContent.{UnitContent}
use Rattle.sample_words.specs.declared.unit_content.UnitContent.TheVariants.{Samples, Vectors, Modes, Offsets}
use Rattle.sample_words.specs.declared.unit_content.UnitContent.TheVariants.{Contexts, Carried}
use Rattle.sample_words.specs.Carried.{carried_word}
use Rattle.sample_words.specs.Offsets.{first_word, second_word}
use Rattle.sample_words.specs.Sizes.{carry_words, context_words, ctb_size, height_of, line_words, places}
use Rattle.sample_words.specs.Sizes.{sample_words}
use Rattle.sample_words.specs.Sizes.{samples_a_word, width_of}
use Rattle.sample_words.specs.Values.{modes_word, samples_word, vectors_word}

-- a component's side, by that of luma
abbrev pub component_side : ℕ → ℕ → ℕ
component_side component side = if component == 0 then side else side / 2

-- how many luma samples a unit has across: a coding tree unit, or a row as a whole
abbrev pub unit_width : FlightSizes → Phase → ℕ → ℕ
unit_width s B unit = width_of s unit
unit_width s V unit = s.width
unit_width s H unit = s.width
unit_width s S unit = s.width

-- the words of a component's lines, and of the components before it
abbrev pub component_words : FlightSizes → ℕ → ℕ → ℕ → ℕ
component_words s width height component =
    component_side component height * line_words s (component_side component width)

abbrev pub components_before : FlightSizes → ℕ → ℕ → ℕ → ℕ
components_before s width height component =
    if component == 0 then 0
    else component_words s width height 0 + (component - 1) * component_words s width height 1

-- a word that a unit of so many luma samples has, and which of its words it is
abbrev pub IsContent : FlightSizes → ℕ → ℕ → ℕ → UnitContent → Type 0
IsContent s width height column (Samples component line word) =
    (component < 3)
    × (line < component_side component height)
    × (word < line_words s (component_side component width))
IsContent s width height column (Vectors x y) = (x < width / 4) × (y < height / 4)
IsContent s width height column (Modes x y) = (x < width / 4) × (y < height / 4)
IsContent s width height column (Offsets k) = k < 2
IsContent s width height column (Contexts k) = k < context_words column
IsContent s width height column (Carried k) = k < carry_words s column

unfoldable pub index_of : FlightSizes → ℕ → ℕ → ℕ → UnitContent → ℕ
index_of s width height column (Samples component line word) =
    components_before s width height component + (line * line_words s (component_side component width) + word)
index_of s width height column (Vectors x y) = sample_words s width height + (y * (width / 4) + x)
index_of s width height column (Modes x y) =
    sample_words s width height + places width height + (y * (width / 4) + x)
index_of s width height column (Offsets k) = sample_words s width height + 2 * places width height + k
index_of s width height column (Contexts k) = sample_words s width height + 2 * places width height + 2 + k
index_of s width height column (Carried k) =
    sample_words s width height + 2 * places width height + 2 + context_words column + k

-- what the word at an index has
abbrev pub samples_at : FlightSizes → ℕ → ℕ → ℕ → UnitContent
samples_at s width component offset =
    Samples component (offset / line_words s (component_side component width))
    (offset % line_words s (component_side component width))

unfoldable pub sample_content : FlightSizes → ℕ → ℕ → ℕ → UnitContent
sample_content s width height offset =
    let luma : ℕ = component_words s width height 0 in
    let chroma : ℕ = component_words s width height 1 in
    if nat_lt offset luma then samples_at s width 0 offset
    else (if nat_lt offset (luma + chroma) then samples_at s width 1 (offset - luma)
    else samples_at s width 2 (offset - luma - chroma))

unfoldable pub place_content : ℕ → ℕ → ℕ → ℕ → UnitContent
place_content width height column offset =
    let count : ℕ = places width height in
    if nat_lt offset count then Vectors (offset % (width / 4)) (offset / (width / 4))
    else (if nat_lt offset (2 * count)
    then Modes ((offset - count) % (width / 4)) ((offset - count) / (width / 4))
    else (if nat_lt offset (2 * count + 2) then Offsets (offset - 2 * count)
    else (if nat_lt offset (2 * count + 2 + context_words column) then Contexts (offset - (2 * count + 2))
    else Carried (offset - (2 * count + 2 + context_words column)))))

unfoldable pub content_at : FlightSizes → ℕ → ℕ → ℕ → ℕ → UnitContent
content_at s width height column index =
    if nat_lt index (sample_words s width height) then sample_content s width height index
    else place_content width height column (index - sample_words s width height)

-- the word at an index has this content
pub record IsContentOf (s : FlightSizes) (width height column index : ℕ) (c : UnitContent) : Type 0 where
  pub is : IsContent s width height column c
  pub word : index_of s width height column c ≡ index

-- the values of a picture: samples of each phase by component, column and line; motion and modes by column and row of
-- places; sample adaptive offset by column and row of coding tree units; and of each row the contexts behind its second
-- unit, in words, and what its last one carries on
pub record PictureValues : Type 0 where
  pub samples : Phase → ℕ → ℕ → ℕ → ℕ
  pub motion : ℕ → ℕ → Motion
  pub modes : ℕ → ℕ → PlaceModes
  pub offsets : ℕ → ℕ → Sao
  pub contexts : ℕ → List ℕ
  pub carried : ℕ → Carry

-- the column of a unit's first luma sample
abbrev pub first_column : FlightSizes → Phase → ℕ → ℕ
first_column s B unit = unit * ctb_size s
first_column s V unit = 0
first_column s H unit = 0
first_column s S unit = 0

-- sample j of a line, of which so many are there
abbrev pub there : ℕ → (ℕ → ℕ) → ℕ → ℕ
there count f j = if nat_lt j count then f j else 0

-- what a word has by the values of its picture: a unit's samples, motion and modes from its first column and line on
abbrev pub content_value : FlightSizes → PictureValues → Line → ℕ → UnitContent → ℕ
content_value s p l unit (Samples component line word) =
    samples_word s (λ j. there (component_side component (unit_width s l.phase unit))
    (λ x. p.samples l.phase component (component_side component (first_column s l.phase unit) + x)
    (component_side component (l.row * ctb_size s) + line)) (samples_a_word s * word + j))
content_value s p l unit (Vectors x y) =
    vectors_word (p.motion (unit * ctb_size s / 4 + x) (l.row * ctb_size s / 4 + y))
content_value s p l unit (Modes x y) =
    modes_word (p.modes (unit * ctb_size s / 4 + x) (l.row * ctb_size s / 4 + y))
    (p.motion (unit * ctb_size s / 4 + x) (l.row * ctb_size s / 4 + y))
content_value s p l unit (Offsets k) =
    if k == 0 then first_word (p.offsets unit l.row) else second_word (p.offsets unit l.row)
content_value s p l unit (Contexts k) = slice_index (p.contexts l.row) k
content_value s p l unit (Carried k) = carried_word (p.carried l.row) k

-- what a word of a unit has, by the values of the pictures of the flight
unfoldable pub expected_word : FlightSizes → (ℕ → PictureValues) → UnitWord → ℕ
expected_word s pictures u =
    content_value s (pictures u.line.picture) u.line u.unit
    (content_at s (unit_width s u.line.phase u.unit) (height_of s u.line.row) u.unit u.index)
