-- What the words of samples, motion, modes and offsets have.
use Rattle.std.specs.Prelude.{ℕ, ◌+◌, ◌*◌, ◌/◌, ◌%◌, ◌<◌, ◌==◌, pos, List, [], ◌∷◌, ◌++◌, Option, Some, None, IfSome}
use Rattle.std.specs.Prelude.{if◌then◌else◌}
use Rattle.std.specs.Int.{w16, cast_signed, cast_unsigned, from_bool}
use Rattle.std.specs.Int.RustNames.{FitsSigned}
use Rattle.spec_motion.specs.CtuRecords.{Mv}
use Rattle.spec_motion.specs.declared.vectors.Motion.{Motion}
use Rattle.spec_motion.specs.declared.vectors.Vector.{Vector}
use Rattle.sample_words.specs.declared.modes.PlaceModes.{PlaceModes}
use Rattle.sample_words.specs.declared.sizes.FlightSizes.{FlightSizes}
use Rattle.sample_words.specs.Packing.{Field, bits_at, field, joined, lanes}
use Rattle.sample_words.specs.Sizes.{samples_a_word}

-- how many bits of a word a sample has
abbrev pub sample_bits : FlightSizes → ℕ
sample_bits s = if s.deep then 16 else 8

-- as many samples as a word has
abbrev pub samples_word : FlightSizes → (ℕ → ℕ) → ℕ
samples_word s f = lanes (sample_bits s) (samples_a_word s) f

-- a motion vector as two numbers of 16 bits in two's complement, zeros where there is none
abbrev pub mv_of : Option Vector → Mv
mv_of None = record { x = pos 0; y = pos 0 }
mv_of (Some v) = v.mv

abbrev pub mv_fields : Mv → List Field
mv_fields mv = field 16 (cast_unsigned w16 mv.x) ∷ field 16 (cast_unsigned w16 mv.y) ∷ []

-- the vectors of a place, that of list 0 first
abbrev pub vectors_word : Motion → ℕ
vectors_word m = joined (mv_fields (mv_of m.list_0) ++ mv_fields (mv_of m.list_1))

-- RefIdxLX and PredFlagLX, which is the lowest bit
abbrev pub list_code : Option Vector → ℕ
list_code None = 0
list_code (Some v) = 2 * v.ref_idx + 1

-- what is known of a place apart from its vectors
abbrev pub mode_fields : PlaceModes → Motion → List Field
mode_fields p m =
    field 7 p.side.qp
    ∷ field 6 p.side.luma_mode
    ∷ field 2 p.side.depth
    ∷ field 1 (from_bool p.side.skipped)
    ∷ field 1 (from_bool p.side.intra)
    ∷ field 2 p.left_strength
    ∷ field 2 p.top_strength
    ∷ field 1 (from_bool p.kept)
    ∷ field 1 (from_bool p.coded)
    ∷ field 5 (list_code m.list_0)
    ∷ field 5 (list_code m.list_1)
    ∷ field 18 p.segment
    ∷ []

abbrev pub modes_word : PlaceModes → Motion → ℕ
modes_word p m = joined (mode_fields p m)

-- a place whose values may be
pub record IsModes (p : PlaceModes) : Type 0 where
  pub segment : p.segment < 262144
  pub depth : p.side.depth < 4
  pub luma_mode : p.side.luma_mode < 64
  pub qp : p.side.qp < 128
  pub left_strength : p.left_strength < 4
  pub top_strength : p.top_strength < 4

-- a vector whose values may be
pub record IsVector (v : Vector) : Type 0 where
  pub x : FitsSigned w16 v.mv.x
  pub y : FitsSigned w16 v.mv.y
  pub ref_idx : v.ref_idx < 16

pub record IsMotion (m : Motion) : Type 0 where
  pub list_0 : IfSome m.list_0 IsVector
  pub list_1 : IfSome m.list_1 IsVector

-- what the words of a place have: each field by its first bit
abbrev pub mv_in : ℕ → ℕ → Mv
mv_in first word = record {
  x = cast_signed w16 (bits_at first 16 word);
  y = cast_signed w16 (bits_at (first + 16) 16 word);
}

abbrev pub vector_in : ℕ → Mv → Option Vector
vector_in code mv = if code % 2 == 0 then None else Some (record { mv = mv; ref_idx = code / 2 })

abbrev pub motion_in : ℕ → ℕ → Motion
motion_in vectors modes = record {
  list_0 = vector_in (bits_at 23 5 modes) (mv_in 0 vectors);
  list_1 = vector_in (bits_at 28 5 modes) (mv_in 32 vectors);
}

abbrev pub modes_in : ℕ → PlaceModes
modes_in word = record {
  segment = bits_at 33 18 word;
  side = record {
    depth = bits_at 13 2 word;
    skipped = bits_at 15 1 word == 1;
    intra = bits_at 16 1 word == 1;
    luma_mode = bits_at 7 6 word;
    qp = bits_at 0 7 word;
  };
  left_strength = bits_at 17 2 word;
  top_strength = bits_at 19 2 word;
  kept = bits_at 21 1 word == 1;
  coded = bits_at 22 1 word == 1;
}
