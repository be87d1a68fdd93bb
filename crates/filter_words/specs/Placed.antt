-- Where the modes of a coding tree unit's places stand among its words, and the places in the picture.
use Rattle.std.specs.Prelude.{◌≡◌, ◌≤◌, ℕ, ◌+◌}
use Rattle.sample_words.specs.declared.unit_content.UnitContent.{UnitContent}
use Rattle.sample_words.specs.declared.unit_content.UnitContent.TheVariants.{Modes, Offsets}
use Rattle.sample_words.specs.Contents.{index_of}
use Rattle.sample_words.specs.Sizes.{height_of, width_of}
use Rattle.line_words.specs.Places.{UnitAt}
use Rattle.filter_words.specs.Units.{across_of, column_of, down_of, row_of}

-- which word of a unit has a content
abbrev pub content_index : UnitAt → UnitContent → ℕ
content_index u content =
    index_of u.sizes (width_of u.sizes u.unit) (height_of u.sizes u.line.row) u.unit content

-- numbers of a unit: the words of the modes of its first place and of its offsets, how many places it has across, and
-- where its first place stands
pub record IsPlaced (u : UnitAt) (modes offsets across column row : ℕ) : Type 0 where
  pub modes_at : modes ≡ content_index u (Modes 0 0)
  pub offsets_at : offsets ≡ content_index u (Offsets 0)
  pub few_words : (modes ≤ 8192) × (offsets ≤ 8192)
  pub width : across ≡ across_of u
  pub some : 1 ≤ across
  pub few : across ≤ 16
  pub high : down_of u ≤ 16
  pub left : column ≡ column_of u
  pub top : row ≡ row_of u
  pub right : column + across ≤ 2048
  pub low : row ≤ 8192
