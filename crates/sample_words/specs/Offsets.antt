-- Sample adaptive offset of a coding tree unit in two words.
use Rattle.std.specs.Prelude.{◌≡◌, ℕ, ◌+◌, ◌<◌, ◌==◌, ℤ, pos, List, [], ◌∷◌, ◌++◌, length, All, slice_index_or}
use Rattle.std.specs.Prelude.{if◌then◌else◌}
use Rattle.std.specs.Int.{w8, cast_signed, cast_unsigned}
use Rattle.std.specs.Int.RustNames.{FitsSigned}
use Rattle.spec_motion.specs.CtuRecords.{ComponentOffset}
use Rattle.spec_motion.specs.CtuRecords.{Off, Band, Edge}
use Rattle.spec_motion.specs.CtuRecords.{Sao}
use Rattle.sample_words.specs.Packing.{Field, bits_at, field, joined}

-- the offsets of a component, zeros where there are none; which kind it is; and its band position or class of edges
abbrev pub offsets_of : ComponentOffset → List ℤ
offsets_of Off = pos 0 ∷ pos 0 ∷ pos 0 ∷ pos 0 ∷ []
offsets_of (Band position offsets) = offsets
offsets_of (Edge class offsets) = offsets

abbrev pub kind_of : ComponentOffset → ℕ
kind_of Off = 0
kind_of (Band position offsets) = 1
kind_of (Edge class offsets) = 2

abbrev pub position_of : ComponentOffset → ℕ
position_of Off = 0
position_of (Band position offsets) = position
position_of (Edge class offsets) = class

-- four offsets of 8 bits each in two's complement
abbrev pub offset_at : List ℤ → ℕ → Field
offset_at offsets k = field 8 (cast_unsigned w8 (slice_index_or offsets k (pos 0)))

abbrev pub offset_fields : List ℤ → List Field
offset_fields offsets = offset_at offsets 0 ∷ offset_at offsets 1 ∷ offset_at offsets 2 ∷ offset_at offsets 3 ∷ []

abbrev pub four_offsets : List ℤ → ℕ
four_offsets offsets = joined (offset_fields offsets)

abbrev pub kind_fields : ComponentOffset → List Field
kind_fields c = field 2 (kind_of c) ∷ field 8 (position_of c) ∷ []

-- both words
abbrev pub first_word : Sao → ℕ
first_word sao = joined (offset_fields (offsets_of sao.luma) ++ offset_fields (offsets_of sao.cb))

abbrev pub second_word : Sao → ℕ
second_word sao =
    joined (offset_fields (offsets_of sao.cr) ++ kind_fields sao.luma ++ kind_fields sao.cb ++ kind_fields sao.cr)

-- what they have
abbrev pub offsets_in : ℕ → ℕ → List ℤ
offsets_in first word =
    cast_signed w8 (bits_at first 8 word)
    ∷ cast_signed w8 (bits_at (first + 8) 8 word)
    ∷ cast_signed w8 (bits_at (first + 16) 8 word)
    ∷ cast_signed w8 (bits_at (first + 24) 8 word)
    ∷ []

abbrev pub component_in : ℕ → ℕ → List ℤ → ComponentOffset
component_in kind position offsets =
    if kind == 1 then Band position offsets else (if kind == 2 then Edge position offsets else Off)

abbrev pub sao_in : ℕ → ℕ → Sao
sao_in first second = record {
  luma = component_in (bits_at 32 2 second) (bits_at 34 8 second) (offsets_in 0 first);
  cb = component_in (bits_at 42 2 second) (bits_at 44 8 second) (offsets_in 32 first);
  cr = component_in (bits_at 52 2 second) (bits_at 54 8 second) (offsets_in 0 second);
}

-- a component whose values may be
abbrev pub AreOffsets : List ℤ → Type 0
AreOffsets offsets = (length offsets ≡ 4) × All (FitsSigned w8) offsets

abbrev pub IsComponent : ComponentOffset → Type 0
IsComponent Off = Unit {0}
IsComponent (Band position offsets) = (position < 256) × AreOffsets offsets
IsComponent (Edge class offsets) = (class < 256) × AreOffsets offsets

pub record IsSao (sao : Sao) : Type 0 where
  pub luma : IsComponent sao.luma
  pub cb : IsComponent sao.cb
  pub cr : IsComponent sao.cr
