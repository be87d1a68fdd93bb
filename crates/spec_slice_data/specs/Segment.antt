-- The coding tree units of slice segments one after the other (7.3.8.1, 9.3.1, 9.3.2), up to the first broken rule.
use Rattle.std.specs.Prelude.{◌≡◌, ℕ, zero, suc, ◌+◌, ◌-◌, ◌*◌, ◌/◌, ◌%◌, ◌^◌, ◌==◌, ◌&&◌, ◌||◌, not, nat_le, nat_lt}
use Rattle.std.specs.Prelude.{Bool, true, false, List, [], ◌∷◌, ◌++◌, length, slice_index_or, Option, Some, None}
use Rattle.std.specs.Prelude.{Result, Ok, Err, if◌then◌else◌}
use Rattle.hv_base.specs.declared.breach.Breach.{Breach}
use Rattle.hv_base.specs.declared.breach.Breach.TheVariants as breach
use Rattle.hv_base.specs.declared.fault.FaultKind.TheVariants as rule
use Rattle.spec_residuals.specs.BlockGeometry.{ctb_place, ctb_scan, is_from}
use Rattle.ctu_records.specs.declared.side.Side.{Side}
use Rattle.ctu_records.specs.declared.records.Quantization.{Quantization}
use Rattle.ctu_records.specs.Tree.{Ctu, coding_at, luma_mode_at, qp_at, side}
use Rattle.spec_residuals.specs.SpecBits.{bits}
use Rattle.spec_residuals.specs.SpecCabac.{Engine, start_at, is_trailing}
use Rattle.spec_residuals.specs.SpecCabac.{State, Tree, Bin, BinValue, bin_at, read, data_end}
use Rattle.spec_residuals.specs.SpecFormats.{Word, Spells, Has}
use Rattle.spec_slice_data.specs.declared.syntax.CtuSyntax.{CtuSyntax}
use Rattle.spec_slice_data.specs.declared.syntax.End.{End}
use Rattle.spec_slice_data.specs.declared.syntax.End.TheVariants as end
use Rattle.spec_slice_data.specs.Offset.{no_sao}
use Rattle.spec_slice_data.specs.Tree.{unit_and_end}

-- a picture: its width in coding tree units, its sides in places, the binary logarithm of a unit's side in places, and
-- entropy_coding_sync_enabled_flag
pub record PictureShape : Type 0 where
  pub width : ℕ
  pub across : ℕ
  pub down : ℕ
  pub size : ℕ
  pub sync : Bool

-- a slice segment: the place of its first unit in the scan, how many it has, the address of its slice's first unit,
-- Qp'Y of its slice, the contexts that its slice begins with, whether it is a dependent one, and the bytes of its
-- substreams
pub record SegmentShape : Type 0 where
  pub first : ℕ
  pub count : ℕ
  pub slice : ℕ
  pub qp : ℕ
  pub contexts : List ℕ
  pub dependent : Bool
  pub substreams : List (List ℕ)

-- between two units: the engine and the contexts; the contexts behind the second unit of a row; Qp'Y of the last coding
-- unit; and what was read, unit after unit
pub record Between : Type 0 where
  pub engine : Engine
  pub contexts : List ℕ
  pub stored : List ℕ
  pub last : ℕ
  pub units : List Ctu

-- a unit of which nothing is read
abbrev pub nothing_read : ℕ → Quantization → Ctu
nothing_read size group = record { size = size; left = []; above = []; sao = no_sao; quantization = group; items = [] }

-- before the first quantization group
abbrev pub no_group : Quantization
no_group = record { last = 0; predicted = 0; qp = 0; coded = false }

-- a unit that was read, by its address
abbrev pub unit_of : PictureShape → Between → ℕ → Ctu
unit_of picture between address = slice_index_or between.units (ctb_place address) (nothing_read picture.size no_group)

-- whether the units at and before an address down to this one are of one slice
abbrev pub same_slice : SegmentShape → ℕ → Bool
same_slice segment address = is_from segment.slice address

-- the column of a unit
abbrev pub column_of : PictureShape → ℕ → ℕ
column_of picture address = address % picture.width

-- its row
abbrev pub row_of : PictureShape → ℕ → ℕ
row_of picture address = address / picture.width

-- whether the unit on the left is in the picture and in the slice
abbrev pub has_left : PictureShape → SegmentShape → ℕ → Bool
has_left picture segment address = nat_lt 0 (column_of picture address) && same_slice segment (address - 1)

-- whether the unit above is
abbrev pub has_above : PictureShape → SegmentShape → ℕ → Bool
has_above picture segment address = nat_le picture.width address && same_slice segment (address - picture.width)

-- what was read of a place of a unit
abbrev pub side_of : Ctu → ℕ → ℕ → Side
side_of ctu x y = record {
  depth = (coding_at ctu.items x y).depth;
  skipped = (coding_at ctu.items x y).skipped;
  intra = (coding_at ctu.items x y).intra;
  luma_mode = luma_mode_at ctu.items x y;
  qp = qp_at ctu.items x y;
}

-- the places of a side that the picture has from one on
abbrev pub places_left : ℕ → ℕ → ℕ
places_left whole before = whole - before

-- the unit at an address before anything of it is read
unfoldable pub unit_begins : PictureShape → SegmentShape → ℕ → Between → Ctu
unit_begins picture segment address between =
    let n = 2 ^ picture.size in
    let left = unit_of picture between (address - 1) in
    let above = unit_of picture between (address - picture.width) in
    let rows = places_left picture.down (n * row_of picture address) in
    let columns = places_left picture.across (n * column_of picture address) in
    record {
      size = picture.size;
      left =
          side (if has_left picture segment address then (if nat_lt rows n then rows else n) else 0)
          (λ k. side_of left (n - 1) k);
      above =
          side (if has_above picture segment address then (if nat_lt columns n then columns else n) else 0)
          (λ k. side_of above k (n - 1));
      sao = no_sao;
      quantization = record { last = between.last; predicted = between.last; qp = between.last; coded = false };
      items = [];
    }

-- what the elements of the unit at an address depend on, by what all units of the slice have
unfoldable pub syntax_at : CtuSyntax → PictureShape → SegmentShape → ℕ → CtuSyntax
syntax_at common picture segment address =
    let n = 2 ^ picture.size in
    record {
      log2_min_coding = common.log2_min_coding;
      log2_min_transform = common.log2_min_transform;
      log2_max_transform = common.log2_max_transform;
      max_depth_intra = common.max_depth_intra;
      log2_group = common.log2_group;
      luma_depth = common.luma_depth;
      chroma_depth = common.chroma_depth;
      qp_offset = common.qp_offset;
      cu_qp_delta_enabled = common.cu_qp_delta_enabled;
      transquant_bypass_enabled = common.transquant_bypass_enabled;
      transform_skip_enabled = common.transform_skip_enabled;
      sign_data_hiding_enabled = common.sign_data_hiding_enabled;
      pcm = common.pcm;
      inter = common.inter;
      sao_luma = common.sao_luma;
      sao_chroma = common.sao_chroma;
      has_left = has_left picture segment address;
      has_above = has_above picture segment address;
      right = places_left picture.across (n * column_of picture address);
      lower = places_left picture.down (n * row_of picture address);
    }

-- whether a unit begins a row where each row has a substream of its own
abbrev pub begins_row : PictureShape → ℕ → Bool
begins_row picture address = picture.sync && column_of picture address == 0

-- whether a unit is the first of its segment
abbrev pub is_first : SegmentShape → ℕ → Bool
is_first segment address = ctb_place address == segment.first

-- whether the engine begins anew at a unit
abbrev pub begins_substream : PictureShape → SegmentShape → ℕ → Bool
begins_substream picture segment address = is_first segment address || begins_row picture address

-- whether the second unit of the row above is in the same slice (9.3.1)
abbrev pub has_stored : PictureShape → SegmentShape → ℕ → Bool
has_stored picture segment address =
    (nat_le 2 picture.width && nat_le picture.width address) && same_slice segment (address - picture.width + 1)

-- the contexts that a unit begins with: at the start of a row with entropy coding sync those behind the second unit of
-- the row above, where it is in the slice, else the slice's first ones; at the start of another segment the slice's
-- first ones, or, of a dependent one, those at the end of the former segment
unfoldable pub contexts_before : PictureShape → SegmentShape → ℕ → Between → List ℕ
contexts_before picture segment address between =
    if begins_row picture address
    then (if has_stored picture segment address then between.stored else segment.contexts)
    else (if is_first segment address && not segment.dependent then segment.contexts else between.contexts)

-- Qp'Y before a unit: the slice's at its first unit and, with entropy coding sync, at the start of a row (8.6.1)
unfoldable pub qp_before : PictureShape → SegmentShape → ℕ → Between → ℕ
qp_before picture segment address between =
    if begins_row picture address || (is_first segment address && not segment.dependent) then segment.qp
    else between.last

-- the engine begins anew, with these contexts
abbrev pub restarted : List ℕ → ℕ → Between → Option Engine → Result Between Breach
restarted contexts last between None = Err data_end
restarted contexts last between (Some engine) =
    Ok (record { engine = engine; contexts = contexts; stored = between.stored; last = last; units = between.units })

-- the number in its segment of the substream that a unit begins
abbrev pub substream_of : PictureShape → SegmentShape → ℕ → ℕ
substream_of picture segment address = row_of picture address - row_of picture (ctb_scan segment.first)

-- before a unit: the engine starts at each substream
unfoldable pub before_unit : PictureShape → SegmentShape → ℕ → Between → Result Between Breach
before_unit picture segment address between =
    if begins_substream picture segment address
    then restarted (contexts_before picture segment address between) (qp_before picture segment address between) between
    (start_at (bits (slice_index_or segment.substreams (substream_of picture segment address) [])))
    else Ok between

-- whether the bits behind the last bin are trailing bits: a stop bit and zeros up to the byte boundary, and behind it
-- nothing, or in the last substream zero bytes (7.3.2.10)
abbrev pub ends_rightly : Bool → Engine → Bool
ends_rightly last e = is_trailing e && (last || nat_le (length e.bits) (8 * ((e.at + 7) / 8)))

-- whether the bits behind a unit are those that end a substream or a segment
abbrev pub judged_end : End → Engine → Bool
judged_end end.More engine = true
judged_end end.Subset engine = ends_rightly false engine
judged_end end.Segment engine = ends_rightly true engine

-- the contexts behind the second unit of a row are stored (9.3.2.2)
abbrev pub stored_behind : PictureShape → ℕ → List ℕ → List ℕ → List ℕ
stored_behind picture address contexts stored =
    if picture.sync && column_of picture address == 1 then contexts else stored

-- behind a unit that was read: its end is judged, and it is kept
abbrev pub behind_unit : PictureShape → ℕ → Between → Result ((Ctu × End) × State) Breach → Result Between Breach
behind_unit picture address between (Err e) = Err e
behind_unit picture address between (Ok r) =
    if judged_end r.0.1 r.1.0
    then Ok (record {
      engine = r.1.0;
      contexts = r.1.1;
      stored = stored_behind picture address r.1.1 between.stored;
      last = r.0.0.quantization.last;
      units = between.units ++ r.0.0 ∷ [];
    })
    else Err (breach.Fault rule.TrailingBits)

-- whether a unit is the last of its segment
abbrev pub is_last : SegmentShape → ℕ → Bool
is_last segment address = ctb_place address + 1 == segment.first + segment.count

-- the address of the unit that is decoded next
abbrev pub next_unit : ℕ → ℕ
next_unit address = ctb_scan (ctb_place address + 1)

-- the elements of the unit at an address and what follows it
abbrev pub unit_at : CtuSyntax → PictureShape → SegmentShape → ℕ → Between → Tree (Ctu × End)
unit_at common picture segment address between =
    unit_and_end (syntax_at common picture segment address) (unit_of picture between (address - 1)).sao
    (unit_of picture between (address - picture.width)).sao
    (is_last segment address) (begins_row picture (next_unit address)) (unit_begins picture segment address between)

-- a unit, from what stands before it in its substream
unfoldable pub read_unit : CtuSyntax → PictureShape → SegmentShape → ℕ → Between → Result Between Breach
read_unit common picture segment address between =
    behind_unit picture address between
    (read (unit_at common picture segment address between) (between.engine, between.contexts))

-- the unit is read behind what stands before it
abbrev pub then_unit : CtuSyntax → PictureShape → SegmentShape → ℕ → Result Between Breach → Result Between Breach
then_unit common picture segment address (Err e) = Err e
then_unit common picture segment address (Ok between) = read_unit common picture segment address between

-- a unit with what stands before it
abbrev pub unit_step : CtuSyntax → PictureShape → SegmentShape → ℕ → Between → Result Between Breach
unit_step common picture segment address between =
    then_unit common picture segment address (before_unit picture segment address between)

-- a broken rule with the address of its unit
pub record Broken : Type 0 where
  pub breach : Breach
  pub ctu : ℕ

-- reading goes on with the next unit
abbrev pub and_then : ℕ → Result Between Breach → (Between → Result Between Broken) → Result Between Broken
and_then address (Err e) next = Err (record { breach = e; ctu = address })
and_then address (Ok between) next = next between

-- so many units of a segment from a place on
unfoldable pub units_from : CtuSyntax → PictureShape → SegmentShape → ℕ → ℕ → Between → Result Between Broken
units_from common picture segment zero place between = Ok between
units_from common picture segment (suc n) place between =
    and_then (ctb_scan place) (unit_step common picture segment (ctb_scan place) between)
    (units_from common picture segment n (place + 1))

-- slice_segment_data: all units of a segment
abbrev pub segment_data : CtuSyntax → PictureShape → SegmentShape → Between → Result Between Broken
segment_data common picture segment between = units_from common picture segment segment.count segment.first between

-- the bins of a unit
abbrev pub Bins : Type 0
Bins = List (Word Bin BinValue)

-- these bins stand behind the start of a unit, they spell it, and behind them stands what follows
pub record IsUnitSpelled (common : CtuSyntax) (picture : PictureShape) (segment : SegmentShape) (address : ℕ)
    (start next : Between) (words : Bins) : Type 0 where
  pub read : Ctu × End
  pub behind : State
  pub spelled : Spells (unit_at common picture segment address start) read words
  pub there : Has bin_at (start.engine, start.contexts) words behind
  pub kept : behind_unit picture address start (Ok (read, behind)) ≡ Ok next

-- the bins of so many units from a place on, unit after unit, each from the start of the unit
abbrev pub UnitsSpelled : CtuSyntax → PictureShape → SegmentShape → ℕ → ℕ → Between → Between → List Bins → Type 0
UnitsSpelled common picture segment zero place between after words = (between ≡ after) × (words ≡ [])
UnitsSpelled common picture segment (suc n) place between after words =
    (start next : Between) × (first : Bins) × (rest : List Bins) × (words ≡ first ∷ rest)
    × (before_unit picture segment (ctb_scan place) between ≡ Ok start)
    × IsUnitSpelled common picture segment (ctb_scan place) start next first
    × UnitsSpelled common picture segment n (place + 1) next after rest

-- the data of a segment that are read are spelled by bins that they have, and what bins of the data spell is read
pub record IsSegmentSpelled (common : CtuSyntax) (picture : PictureShape) (segment : SegmentShape)
    (n place : ℕ) : Type 0 where
  pub found : (between after : Between) → units_from common picture segment n place between ≡ Ok after
      → (words : List Bins) × UnitsSpelled common picture segment n place between after words
  pub only : (between after : Between) (words : List Bins)
      → UnitsSpelled common picture segment n place between after words
      → units_from common picture segment n place between ≡ Ok after
