-- A coding tree unit by itself: over what the units beside it leave, and what stands before it in its substream.
use Rattle.std.specs.Prelude.{◌≡◌, ℕ, ◌-◌, ◌*◌, ◌^◌, true, false, List, [], Result, Ok, Err}
use Rattle.hv_base.specs.declared.breach.Breach.{Breach}
use Rattle.ctu_records.specs.Tree.{Ctu, side}
use Rattle.coding_quadtree.specs.SpecCabac.{IsLive}
use Rattle.coding_quadtree.specs.SpecCabac.{State, read}
use Rattle.spec_slice_data.specs.declared.syntax.CtuSyntax.{CtuSyntax}
use Rattle.spec_slice_data.specs.declared.syntax.End.{End}
use Rattle.spec_slice_data.specs.Offset.{no_sao}
use Rattle.spec_slice_data.specs.Segment.{PictureShape, SegmentShape, Between, begins_row, begins_substream}
use Rattle.spec_slice_data.specs.Segment.{column_of}
use Rattle.spec_slice_data.specs.Segment.{has_above, has_left, is_last, next_unit, places_left, row_of, syntax_at}
use Rattle.spec_slice_data.specs.Segment.{unit_of}
use Rattle.spec_slice_data.specs.Tree.{unit_and_end}
use Rattle.spec_picture_trees.specs.Picture.{SegmentAt}
use Rattle.coding_quadtree.specs.Beside.{available}
use Rattle.coding_quadtree.specs.Judged.{judged}
use Rattle.coding_quadtree.specs.Next.{next_between}
use Rattle.unit_trees.specs.declared.edges.Edge.{Edge}
use Rattle.unit_trees.specs.declared.units.UnitReader.{UnitReader}
use Rattle.unit_trees.specs.Edges.{bottom_of, place_of, right_of}

-- the unit at an address before anything of it is read, behind a coding unit of this Qp'Y
unfoldable pub unit_beside : PictureShape → SegmentShape → ℕ → Edge → Edge → ℕ → Ctu
unit_beside picture segment address left above last =
    let n = 2 ^ picture.size in
    let rows = places_left picture.down (n * row_of picture address) in
    let columns = places_left picture.across (n * column_of picture address) in
    record {
      size = picture.size;
      left = side (available (has_left picture segment address) rows n) (place_of left);
      above = side (available (has_above picture segment address) columns n) (place_of above);
      sao = no_sao;
      quantization = record { last = last; predicted = last; qp = last; coded = false };
      items = [];
    }

-- the unit at an address, what follows it and the state behind it, with its end judged; or the first rule broken
unfoldable pub unit_over : CtuSyntax → PictureShape → SegmentShape → ℕ → Edge → Edge → ℕ → State
    → Result ((Ctu × End) × State) Breach
unit_over common picture segment address left above last state =
    judged (read
    (unit_and_end (syntax_at common picture segment address) left.sao above.sao (is_last segment address)
    (begins_row picture (next_unit address)) (unit_beside picture segment address left above last))
    state)

-- what a unit that was read makes of what stood before it
abbrev pub then_next : PictureShape → ℕ → Between → Result ((Ctu × End) × State) Breach → Result Between Breach
then_next picture address between (Err e) = Err e
then_next picture address between (Ok r) = Ok (next_between picture address between r.0.0 r.1)

-- the units on the left and above, where they are in the slice, leave these
pub record IsBeside (picture : PictureShape) (segment : SegmentShape) (address : ℕ) (between : Between)
    (left above : Edge) : Type 0 where
  pub on_left : has_left picture segment address ≡ true
      → left ≡ right_of (2 ^ picture.size) (unit_of picture between (address - 1))
  pub on_top : has_above picture segment address ≡ true
      → above ≡ bottom_of (2 ^ picture.size) (unit_of picture between (address - picture.width))

-- behind these units, where these contexts are stored
abbrev pub between_of : UnitReader → List ℕ → List Ctu → Between
between_of r stored units = record {
  engine = r.bins.interval;
  contexts = r.bins.contexts;
  stored = stored;
  last = r.last;
  units = units;
}

-- a call answered what a step gives, or the rule that it breaks
abbrev pub Steps : {X : Type 0} → Result X Breach → Between → Result Between Breach → Type 0
Steps (Ok x) after step = step ≡ Ok after
Steps (Err e) after step = step ≡ Err e

-- bins may be asked before the unit at an address, if it begins no substream
abbrev pub MayGoOn : SegmentAt → ℕ → UnitReader → Type 0
MayGoOn at address r = begins_substream at.picture at.shape address ≡ false → IsLive r.bins.interval
