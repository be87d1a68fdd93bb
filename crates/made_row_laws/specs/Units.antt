-- The coding tree units of made pictures, as records of what is read (7.3.8.4 to 7.3.8.7). Squares are in places of 4x4
-- luma samples.
use Rattle.std.specs.Prelude.{◌≡◌, ℕ, ◌-◌, ◌*◌, ◌%◌, ◌<◌, ◌≤◌, ◌==◌, nat_lt, Bool, true, false, List, []}
use Rattle.std.specs.Prelude.{◌∷◌, ◌++◌, map, All, length, get_or, slice_index_or, Option, Some, None, if◌then◌else◌}
use Rattle.std.specs.List.{range_with_len}
use Rattle.ctu_records.specs.declared.item.CodingUnit.{CodingUnit}
use Rattle.ctu_records.specs.declared.item.Item.{Item}
use Rattle.ctu_records.specs.declared.item.Item.TheVariants as item
use Rattle.ctu_records.specs.declared.item.Square.{Square}
use Rattle.ctu_records.specs.declared.prediction.MotionSyntax.{MotionSyntax}
use Rattle.ctu_records.specs.declared.prediction.MotionSyntax.TheVariants.{Merge, Vectors}
use Rattle.ctu_records.specs.declared.prediction.PartMode.TheVariants.{Whole}
use Rattle.ctu_records.specs.declared.prediction.VectorSyntax.{VectorSyntax}
use Rattle.ctu_records.specs.declared.records.Quantization.{Quantization}
use Rattle.ctu_records.specs.declared.side.Side.{Side}
use Rattle.ctu_records.specs.Tree.{Ctu, side}
use Rattle.spec_slice_data.specs.Offset.{no_sao, signed}
use Rattle.spec_slice_data.specs.Segment.{side_of}
use Rattle.spec_made.specs.declared.units.InterUnit.{InterUnit}
use Rattle.spec_made.specs.declared.units.Motion.{Motion}
use Rattle.spec_made.specs.declared.units.PcmUnit.{PcmUnit}
use Rattle.spec_made.specs.declared.units.Shift.{Shift}
use Rattle.spec_made.specs.Draws.{no_unit}
use Rattle.spec_made.specs.InterRows.{is_skipped, later_motion, size_of}
use Rattle.spec_made.specs.PcmRows.{no_samples, quarter_of}

-- the square of a unit, and of its coding unit of a number
abbrev pub whole : Square
whole = record { x = 0; y = 0; log2_size = 2 }

abbrev pub quarter : ℕ → ℕ → Square
quarter column row = record { x = 2 * column; y = 2 * row; log2_size = 1 }

-- a coding unit by its depth, whether it is skipped and whether it is in intra mode
abbrev pub coding_unit_of : ℕ → Square → Bool → Bool → CodingUnit
coding_unit_of depth square skipped intra = record {
  square = square;
  depth = depth;
  transquant_bypass = false;
  skipped = skipped;
  intra = intra;
  qp_predicted = 26;
  qp = 26;
}

-- ---- P and B pictures

-- a vector as a difference from its predictor, in quarters of a luma sample, by the first entry of a list
abbrev pub vector_of : Shift → VectorSyntax
vector_of s = record {
  ref_idx = 0;
  mvd = record {
    x = signed (size_of s.across) (nat_lt s.across 100);
    y = signed (size_of s.down) (nat_lt s.down 100);
  };
  mvp = false;
}

abbrev pub second_vector : Option Shift → Option VectorSyntax
second_vector None = None
second_vector (Some s) = Some (vector_of s)

-- vectors in the range in which they are drawn
abbrev pub IsShift : Shift → Type 0
IsShift s = (s.across ≤ 200) × (s.down ≤ 200)

abbrev pub IsSecond : Option Shift → Type 0
IsSecond None = Unit {0}
IsSecond (Some s) = IsShift s

abbrev pub IsMotion : Motion → Type 0
IsMotion m = IsShift m.first × IsSecond m.second

-- the motion of a coding unit: its vectors, or that of the first candidate where it is skipped
abbrev pub motion_coded : Bool → Motion → MotionSyntax
motion_coded skipped m = if skipped then Merge 0 else Vectors (Some (vector_of m.first)) (second_vector m.second)

abbrev pub part_items : ℕ → Square → Bool → Motion → List Item
part_items depth square skipped m =
    item.Unit (coding_unit_of depth square skipped false)
    ∷ item.Prediction (record { unit = square; part_mode = Whole; part = 0; motion = motion_coded skipped m })
    ∷ []

-- those of a unit, of which the first coding unit has a motion of its own
abbrev pub unit_items : Motion → Motion → InterUnit → List Item
unit_items first later u =
    if u.split
    then part_items 1 (quarter 0 0) (is_skipped u 0) first
    ++ (part_items 1 (quarter 1 0) (is_skipped u 1) later
    ++ (part_items 1 (quarter 0 1) (is_skipped u 2) later ++ part_items 1 (quarter 1 1) (is_skipped u 3) later))
    else part_items 0 whole (is_skipped u 0) first

-- those of the unit of a number
unfoldable pub inter_items : Motion → List InterUnit → ℕ → List Item
inter_items m units i =
    unit_items (if i == 0 then m else later_motion m) (later_motion m) (slice_index_or units i no_unit)

-- ---- IDR pictures

-- units in the ranges in which they are drawn: 48 of them, each with 384 samples of 8 bits
pub record HasSamples (u : PcmUnit) : Type 0 where
  pub count : length u.samples ≡ 384
  pub bytes : All (λ value. value < 256) u.samples

pub record ArePcmUnits (units : List PcmUnit) : Type 0 where
  pub count : length units ≡ 48
  pub each : All HasSamples units

abbrev pub sample_items : List ℕ → List Item
sample_items samples = map (λ value. item.Sample value) samples

abbrev pub pulse_items : ℕ → Square → List ℕ → List Item
pulse_items depth square samples =
    item.Unit (coding_unit_of depth square false true) ∷ item.Pcm square ∷ sample_items samples

abbrev pub pcm_unit_items : PcmUnit → List Item
pcm_unit_items u =
    if u.split
    then pulse_items 1 (quarter 0 0) (quarter_of u.samples 0)
    ++ (pulse_items 1 (quarter 1 0) (quarter_of u.samples 1)
    ++ (pulse_items 1 (quarter 0 1) (quarter_of u.samples 2) ++ pulse_items 1 (quarter 1 1) (quarter_of u.samples 3)))
    else pulse_items 0 whole u.samples

unfoldable pub pcm_items : List PcmUnit → ℕ → List Item
pcm_items units i = pcm_unit_items (get_or units i no_samples)

-- ---- units

abbrev pub quantized : Quantization
quantized = record { last = 26; predicted = 26; qp = 26; coded = false }

-- a unit with these items, beside these places
abbrev pub unit_with : List Side → List Side → List Item → Ctu
unit_with left above items = record {
  size = 2;
  left = left;
  above = above;
  sao = no_sao;
  quantization = quantized;
  items = items;
}

-- what is known of a place of a unit with these items
abbrev pub place_of : List Item → ℕ → ℕ → Side
place_of items x y = side_of (unit_with [] [] items) x y

-- the last column of the unit on the left of one, and the last row of the unit above, by the items of each unit
abbrev pub left_side : (ℕ → List Item) → ℕ → List Side
left_side items i = side (if i % 8 == 0 then 0 else 4) (λ k. place_of (items (i - 1)) 3 k)

abbrev pub above_side : (ℕ → List Item) → ℕ → List Side
above_side items i = side (if nat_lt i 8 then 0 else 4) (λ k. place_of (items (i - 8)) k 3)

-- the unit of a number, by the items of each
unfoldable pub unit_drawn : (ℕ → List Item) → ℕ → Ctu
unit_drawn items i = unit_with (left_side items i) (above_side items i) (items i)

-- so many units from the first on
unfoldable pub units_drawn : (ℕ → List Item) → ℕ → List Ctu
units_drawn items n = map (unit_drawn items) (range_with_len 0 n)
