-- What was read of a coding tree unit, and what is asked of it by place.
use Rattle.std.specs.Prelude.{◌≡◌, ℕ, ◌+◌, ◌-◌, ◌^◌, ◌≤◌, ◌==◌, Bool, true, false, List, [], ◌∷◌, ◌++◌}
use Rattle.std.specs.Prelude.{slice_index_or}
use Rattle.std.specs.Prelude.{map, nat_lt, if◌then◌else◌, length}
use Rattle.std.specs.List.{range_with_len, fold}
use Rattle.ctu_records.specs.declared.item.Square.{Square}
use Rattle.ctu_records.specs.declared.item.CodingPlace.{CodingPlace}
use Rattle.ctu_records.specs.declared.item.CodingUnit.{CodingUnit}
use Rattle.ctu_records.specs.declared.item.Item.{Item}
use Rattle.ctu_records.specs.declared.item.Item.TheVariants.{Unit, Luma}
use Rattle.ctu_records.specs.declared.item.Item.TheVariants.{Delta}
use Rattle.ctu_records.specs.declared.side.Side.{Side}
use Rattle.ctu_records.specs.declared.offset.Sao.{Sao}
use Rattle.ctu_records.specs.declared.records.Quantization.{Quantization}
use Rattle.ctu_records.specs.Places.{overlay, Holds}

-- the binary logarithm of the unit's side in places; what is known of the places left of it, from the upper one down,
-- and above it; its sample adaptive offset; the quantization group; and what was read, in reading order
pub record Ctu : Type 0 where
  pub size : ℕ
  pub left : List Side
  pub above : List Side
  pub sao : Sao
  pub quantization : Quantization
  pub items : List Item

abbrev pub added : Ctu → Item → Ctu
added ctu item = record {
  size = ctu.size;
  left = ctu.left;
  above = ctu.above;
  sao = ctu.sao;
  quantization = ctu.quantization;
  items = ctu.items ++ item ∷ [];
}

abbrev pub with_size : Ctu → ℕ → Ctu
with_size ctu size = record {
  size = size;
  left = ctu.left;
  above = ctu.above;
  sao = ctu.sao;
  quantization = ctu.quantization;
  items = ctu.items;
}

abbrev pub with_sao : Ctu → Sao → Ctu
with_sao ctu sao = record {
  size = ctu.size;
  left = ctu.left;
  above = ctu.above;
  sao = sao;
  quantization = ctu.quantization;
  items = ctu.items;
}

abbrev pub with_quantization : Ctu → Quantization → Ctu
with_quantization ctu quantization = record {
  size = ctu.size;
  left = ctu.left;
  above = ctu.above;
  sao = ctu.sao;
  quantization = quantization;
  items = ctu.items;
}

-- a value that each item of a kind lays over its square
abbrev pub laid : {A : Type 0} → Square → A → (ℕ → ℕ → A) → ℕ → ℕ → A
laid square value places = overlay square.x square.y (2 ^ square.log2_size) value places

-- what a coding unit tells of its places
abbrev pub coding_place : CodingUnit → CodingPlace
coding_place unit = record { depth = unit.depth; skipped = unit.skipped; intra = unit.intra }

abbrev pub coding_laid : (ℕ → ℕ → CodingPlace) → Item → ℕ → ℕ → CodingPlace
coding_laid places (Unit unit) = laid unit.square (coding_place unit) places
coding_laid places other = places

abbrev pub no_coding : CodingPlace
no_coding = record { depth = 0; skipped = false; intra = false }

abbrev pub no_codings : ℕ → ℕ → CodingPlace
no_codings i j = no_coding

abbrev pub not_read : ℕ → ℕ → ℕ
not_read i j = 0

-- CtDepth, cu_skip_flag and CuPredMode of a place of the unit, by what was read
unfoldable pub coding_at : List Item → ℕ → ℕ → CodingPlace
coding_at items = fold coding_laid no_codings items

abbrev pub luma_mode_laid : (ℕ → ℕ → ℕ) → Item → ℕ → ℕ → ℕ
luma_mode_laid modes (Luma luma) = laid luma.square luma.mode modes
luma_mode_laid modes other = modes

-- INTRA_DC
abbrev pub no_mode : ℕ → ℕ → ℕ
no_mode i j = 1

-- IntraPredModeY of a place of the unit, by what was read; INTRA_DC where there is none (8.4.2)
unfoldable pub luma_mode_at : List Item → ℕ → ℕ → ℕ
luma_mode_at items = fold luma_mode_laid no_mode items

abbrev pub qp_laid : (ℕ → ℕ → ℕ) → Item → ℕ → ℕ → ℕ
qp_laid qps (Unit unit) = laid unit.square unit.qp qps
qp_laid qps (Delta delta) = laid delta.square delta.qp qps
qp_laid qps other = qps

-- Qp'Y of a place of the unit, by what was read
unfoldable pub qp_at : List Item → ℕ → ℕ → ℕ
qp_at items = fold qp_laid not_read items

-- a place that is not available: it counts as of depth 0, not skipped, of mode INTRA_DC (6.4.1, 8.4.2, 9.3.4.2.2)
abbrev pub no_side : Side
no_side = record { depth = 0; skipped = false; intra = false; luma_mode = 1; qp = 0 }

-- a side of 16 places, of which so many are available
unfoldable pub side : ℕ → (ℕ → Side) → List Side
side count f = map (λ k. if nat_lt k count then f k else no_side) (range_with_len 0 16)

-- CtDepth left of a place
unfoldable pub depth_left : Ctu → ℕ → ℕ → ℕ
depth_left ctu x y = if x == 0 then (slice_index_or ctu.left y no_side).depth else (coding_at ctu.items (x - 1) y).depth

-- CtDepth above a place
unfoldable pub depth_above : Ctu → ℕ → ℕ → ℕ
depth_above ctu x y =
    if y == 0 then (slice_index_or ctu.above x no_side).depth else (coding_at ctu.items x (y - 1)).depth

-- cu_skip_flag left of a place
unfoldable pub skipped_left : Ctu → ℕ → ℕ → Bool
skipped_left ctu x y =
    if x == 0 then (slice_index_or ctu.left y no_side).skipped else (coding_at ctu.items (x - 1) y).skipped

-- cu_skip_flag above a place
unfoldable pub skipped_above : Ctu → ℕ → ℕ → Bool
skipped_above ctu x y =
    if y == 0 then (slice_index_or ctu.above x no_side).skipped else (coding_at ctu.items x (y - 1)).skipped

-- candIntraPredModeX of the place on the left (8.4.2)
unfoldable pub mode_left : Ctu → ℕ → ℕ → ℕ
mode_left ctu x y = if x == 0 then (slice_index_or ctu.left y no_side).luma_mode else luma_mode_at ctu.items (x - 1) y

-- candIntraPredModeX of the place above, INTRA_DC in another row of coding tree units (8.4.2)
unfoldable pub mode_above : Ctu → ℕ → ℕ → ℕ
mode_above ctu x y = if y == 0 then 1 else luma_mode_at ctu.items x (y - 1)

-- qPY_A of the quantization group at a place: Qp'Y of the place on the left in the unit, else qPY_PREV (8.6.1)
unfoldable pub qp_left : Ctu → ℕ → ℕ → ℕ
qp_left ctu x y = if x == 0 then ctu.quantization.last else qp_at ctu.items (x - 1) y

-- qPY_B (8.6.1)
unfoldable pub qp_above : Ctu → ℕ → ℕ → ℕ
qp_above ctu x y = if y == 0 then ctu.quantization.last else qp_at ctu.items x (y - 1)

-- a square that lies inside the greatest unit
pub record IsPlaced (square : Square) : Type 0 where
  pub size : square.log2_size ≤ 4
  pub x : square.x + 2 ^ square.log2_size ≤ 16
  pub y : square.y + 2 ^ square.log2_size ≤ 16

-- whether an item lays no value over a square
abbrev pub lays_nothing : Item → Bool
lays_nothing (Unit unit) = false
lays_nothing (Luma luma) = false
lays_nothing (Delta delta) = false
lays_nothing other = true

-- how many items a unit has at most: 64 a place of the greatest one
abbrev pub room : ℕ
room = 16384

-- what the records keep
pub record AreKept (size : ℕ) (left above : List Side) (items : List Item) (capacity : ℕ) (codings : List CodingPlace)
    (modes qps : List ℕ) : Type 0 where
  pub small : size ≤ 4
  pub lefts : length left ≡ 16
  pub aboves : length above ≡ 16
  pub enough : room ≤ capacity
  pub coding : Holds no_coding codings (coding_at items)
  pub mode : Holds 1 modes (luma_mode_at items)
  pub qp : Holds 0 qps (qp_at items)
