-- A coding tree unit whose work is done: whether it fits words, whether it holds the values of its picture, and what
-- its words then are.
use Rattle.std.specs.Prelude.{◌≡◌, ℕ, ◌+◌, ◌*◌, ◌/◌, ◌^◌, ◌<◌}
use Rattle.hv_base.specs.declared.line.Phase.TheVariants.{B}
use Rattle.unit_trees.specs.CabacContexts.{packed}
use Rattle.unit_trees.specs.CabacEngine.{state_of}
use Rattle.unit_trees.specs.declared.units.UnitReader.{UnitReader}
use Rattle.sample_words.specs.declared.carry.Carry.{Carry}
use Rattle.sample_words.specs.declared.unit_content.UnitContent.{UnitContent}
use Rattle.sample_words.specs.Contents.{PictureValues, component_side, content_value, expected_word}
use Rattle.sample_words.specs.Sizes.{columns, ctb_size, height_of, width_of}
use Rattle.sample_words.specs.Values.{IsModes, IsMotion, sample_bits}
use Rattle.sample_words.specs.Words.{unit_word}
use Rattle.unit_words.specs.declared.done_unit.DoneUnit.{DoneUnit}
use Rattle.unit_words.specs.Units.{unit_modes, unit_motion, unit_sample}

-- how many luma samples it has across and down
abbrev pub width : DoneUnit → ℕ
width d = width_of d.layout.now d.column

abbrev pub height : DoneUnit → ℕ
height d = height_of d.layout.now d.row

-- what stands behind a unit, in words
abbrev pub carry_behind : UnitReader → Carry
carry_behind reader = record {
  state = state_of reader.bins.interval;
  contexts = packed reader.bins.contexts;
  last = reader.last;
}

-- a unit of a picture whose samples and places fit words
pub record IsPackable (d : DoneUnit) : Type 0 where
  pub row : d.row < 512
  pub column : d.column < 512
  pub samples : (c x y : ℕ) → c < 3 → x < component_side c (width d) → y < component_side c (height d)
      → unit_sample d.built.now.samples c x y < 2 ^ sample_bits d.layout.now
  pub motion : (x y : ℕ) → x < width d / 4 → y < height d / 4 → IsMotion (unit_motion d.built.now.motion x y)
  pub modes : (x y : ℕ) → x < width d / 4 → y < height d / 4
      → IsModes (unit_modes d.records.now d.built.now.filters d.segment x y)

-- what a unit's work left are the values of its picture at the unit's samples and places, as far as the picture has
-- them; and so is what stands behind the second unit of a row, and behind its last one
pub record HoldsValues (p : PictureValues) (d : DoneUnit) : Type 0 where
  pub samples : (c x y : ℕ) → c < 3 → x < component_side c (width d) → y < component_side c (height d)
      → p.samples B c (component_side c (d.column * ctb_size d.layout.now) + x)
      (component_side c (d.row * ctb_size d.layout.now) + y)
      ≡ unit_sample d.built.now.samples c x y
  pub motion : (x y : ℕ) → x < width d / 4 → y < height d / 4
      → p.motion (d.column * ctb_size d.layout.now / 4 + x) (d.row * ctb_size d.layout.now / 4 + y)
      ≡ unit_motion d.built.now.motion x y
  pub modes : (x y : ℕ) → x < width d / 4 → y < height d / 4
      → p.modes (d.column * ctb_size d.layout.now / 4 + x) (d.row * ctb_size d.layout.now / 4 + y)
      ≡ unit_modes d.records.now d.built.now.filters d.segment x y
  pub offsets : p.offsets d.column d.row ≡ d.records.now.sao
  pub contexts : d.column ≡ 1 → p.contexts d.row ≡ packed d.reader.now.bins.contexts
  pub carried : d.column + 1 ≡ columns d.layout.now → p.carried d.row ≡ carry_behind d.reader.now

-- a word is that of a content of the unit, by the values of each picture that it holds
abbrev pub HasContent : DoneUnit → UnitContent → ℕ → Type 0
HasContent d content word =
    (p : PictureValues) (picture : ℕ) → HoldsValues p d
    → word ≡ content_value d.layout.now p (record { phase = B; picture = picture; row = d.row }) d.column content

-- a word is the one at an index of the unit
abbrev pub HasWord : DoneUnit → ℕ → ℕ → Type 0
HasWord d index word =
    (p : PictureValues) (picture : ℕ) → HoldsValues p d
    → word ≡ expected_word d.layout.now (λ k. p) (unit_word B picture d.row d.column index)
