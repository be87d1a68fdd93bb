-- The sizes of the pictures of a flight, in luma samples, in coding tree units and in words.
use Rattle.std.specs.Prelude.{◌≡◌, ℕ, ◌+◌, ◌-◌, ◌*◌, ◌/◌, ◌%◌, ◌^◌, ◌≤◌, ◌==◌, min, nat_lt, if◌then◌else◌}
use Rattle.hv_base.specs.declared.line.Phase.{Phase}
use Rattle.hv_base.specs.declared.line.Phase.TheVariants.{B, V, H, S}
use Rattle.sample_words.specs.declared.sizes.FlightSizes.{FlightSizes}

-- sizes that may be: both sides are multiples of the smallest coding block's
pub record IsFlight (s : FlightSizes) : Type 0 where
  pub some_width : 8 ≤ s.width
  pub width : s.width ≤ 8192
  pub whole_columns : s.width % 8 ≡ 0
  pub some_height : 8 ≤ s.height
  pub height : s.height ≤ 8192
  pub whole_rows : s.height % 8 ≡ 0
  pub least_unit : 4 ≤ s.ctb_log2
  pub greatest_unit : s.ctb_log2 ≤ 6
  pub some_pictures : 1 ≤ s.pictures
  pub pictures : s.pictures ≤ 65536

-- CtbSizeY
abbrev pub ctb_size : FlightSizes → ℕ
ctb_size s = 2 ^ s.ctb_log2

-- how many units of a side cover so many samples
abbrev pub covering : ℕ → ℕ → ℕ
covering side samples = (samples + (side - 1)) / side

-- PicWidthInCtbsY and PicHeightInCtbsY
unfoldable pub columns : FlightSizes → ℕ
columns s = covering (ctb_size s) s.width

unfoldable pub rows : FlightSizes → ℕ
rows s = covering (ctb_size s) s.height

-- how many columns of luma samples the coding tree units of a column have, and how many lines those of a row
unfoldable pub width_of : FlightSizes → ℕ → ℕ
width_of s column = min (ctb_size s) (s.width - column * ctb_size s)

unfoldable pub height_of : FlightSizes → ℕ → ℕ
height_of s row = min (ctb_size s) (s.height - row * ctb_size s)

abbrev pub samples_a_word : FlightSizes → ℕ
samples_a_word s = if s.deep then 4 else 8

-- the words of a line of so many samples, of which the last may have fewer
unfoldable pub line_words : FlightSizes → ℕ → ℕ
line_words s samples = covering (samples_a_word s) samples

-- the words of the samples of a block of so many luma samples across and down: lines of luma, lines of Cb, lines of Cr
unfoldable pub sample_words : FlightSizes → ℕ → ℕ → ℕ
sample_words s width height =
    height * line_words s width + 2 * (height / 2 * line_words s (width / 2))

-- the places of 4x4 luma samples of such a block
abbrev pub places : ℕ → ℕ → ℕ
places width height = width / 4 * (height / 4)

-- the words that each coding tree unit of such a size has: its samples, two words for each place, and two of offsets
unfoldable pub common_words : FlightSizes → ℕ → ℕ → ℕ
common_words s width height = sample_words s width height + 2 * places width height + 2

-- a row's second unit has the contexts behind it, and its last one what is carried from its end to the next row
abbrev pub context_words : ℕ → ℕ
context_words column = if column == 1 then 20 else 0

abbrev pub carry_words : FlightSizes → ℕ → ℕ
carry_words s column = if column + 1 == columns s then 24 else 0

-- the words of the unit in a column of a row of so many lines, and those of the units on its left
abbrev pub tree_words : FlightSizes → ℕ → ℕ → ℕ
tree_words s height column = common_words s (width_of s column) height + (context_words column + carry_words s column)

abbrev pub tree_start : FlightSizes → ℕ → ℕ → ℕ
tree_start s height column = column * common_words s (ctb_size s) height + (if nat_lt 1 column then 20 else 0)

-- the words of a row of so many lines: of its coding tree units, and of the row behind all loop filters
unfoldable pub built_words : FlightSizes → ℕ → ℕ
built_words s height = tree_start s height (columns s - 1) + tree_words s height (columns s - 1)

unfoldable pub filtered_words : FlightSizes → ℕ → ℕ
filtered_words s height = sample_words s s.width height

unfoldable pub row_words : FlightSizes → ℕ → ℕ
row_words s height = built_words s height + filtered_words s height

-- the words of a picture: all rows but the last have as many
unfoldable pub picture_words : FlightSizes → ℕ
picture_words s = (rows s - 1) * row_words s (ctb_size s) + row_words s (height_of s (rows s - 1))

-- the words of the phases before one in a row of so many lines
abbrev pub phase_start : FlightSizes → ℕ → Phase → ℕ
phase_start s height B = 0
phase_start s height V = built_words s height
phase_start s height H = built_words s height
phase_start s height S = built_words s height
