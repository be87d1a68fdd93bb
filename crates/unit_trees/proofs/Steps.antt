-- A unit over edges is the next step of reading a slice segment.
use Rattle.std.proofs.Common.{◌≡◌, ℕ, ◌-◌, ◌*◌, ◌^◌, ◌<◌, ◌≤◌, Bool, true, false, Result, Ok, Err, refl, ap, sym, ◌∙◌}
use Rattle.std.proofs.Common.{if◌then◌else◌, arith}
use Rattle.hv_base.specs.declared.breach.Breach.{Breach}
use Rattle.hv_base.specs.declared.breach.Breach.TheVariants as breach
use Rattle.hv_base.specs.declared.fault.FaultKind.TheVariants as rule
use Rattle.ctu_records.specs.declared.side.Side.{Side}
use Rattle.ctu_records.specs.Tree.{Ctu}
use Rattle.coding_quadtree.specs.SpecCabac.{State, read}
use Rattle.spec_slice_data.specs.declared.syntax.CtuSyntax.{CtuSyntax}
use Rattle.spec_slice_data.specs.declared.syntax.End.{End}
use Rattle.spec_slice_data.specs.Segment.{PictureShape, SegmentShape, Between, begins_row, behind_unit, column_of}
use Rattle.spec_slice_data.specs.Segment.{has_above, has_left, is_last, judged_end, next_unit, places_left, read_unit}
use Rattle.spec_slice_data.specs.Segment.{row_of, side_of, syntax_at, unit_at, unit_begins, unit_of}
use Rattle.spec_slice_data.specs.Tree.{unit_and_end}
use Rattle.coding_quadtree.specs.Beside.{available}
use Rattle.coding_quadtree.specs.Judged.{judged}
use Rattle.coding_quadtree.specs.Next.{next_between}
use Rattle.coding_quadtree.proofs.Offsets.{unit_same}
use Rattle.unit_trees.specs.declared.edges.Edge.{Edge}
use Rattle.unit_trees.specs.Edges.{place_of}
use Rattle.unit_trees.specs.Units.{IsBeside, then_next, unit_beside, unit_over}
use Rattle.unit_trees.proofs.Beside.{above_there, left_there, there_of}
use Rattle.unit_trees.proofs.Sides.{at_side, side_near}

-- over the edges of the units beside it a unit begins as in the segment
begins_beside : (picture : PictureShape) (segment : SegmentShape) (address : ℕ) (between : Between) (left above : Edge)
    → IsBeside picture segment address between left above
    → unit_beside picture segment address left above between.last ≡ unit_begins picture segment address between
unfolding unit_beside unit_begins
begins_beside picture segment address between left above b =
    let n = 2 ^ picture.size in
    let rows = places_left picture.down (n * row_of picture address) in
    let columns = places_left picture.across (n * column_of picture address) in
    let on_left : ℕ → Side = λ k. side_of (unit_of picture between (address - 1)) (n - 1) k in
    let on_top : ℕ → Side = λ k. side_of (unit_of picture between (address - picture.width)) k (n - 1) in
    let lefts =
    side_near (available (has_left picture segment address) rows n) (place_of left) on_left
    (λ k near lt.
    let there = there_of (has_left picture segment address) rows n k lt in
    ap (λ (edge : Edge). place_of edge k) (b.on_left there.is) ∙ at_side on_left k near) in
    let aboves =
    side_near (available (has_above picture segment address) columns n) (place_of above) on_top
    (λ k near lt.
    let there = there_of (has_above picture segment address) columns n k lt in
    ap (λ (edge : Edge). place_of edge k) (b.on_top there.is) ∙ at_side on_top k near) in
    rw (lefts, aboves) refl

-- and it is read as there
pub read_beside : (common : CtuSyntax) (picture : PictureShape) (segment : SegmentShape) (address : ℕ)
    (between : Between) (left above : Edge) (s : State)
    → IsBeside picture segment address between left above
    → unit_over common picture segment address left above between.last s
    ≡ judged (read (unit_at common picture segment address between) s)
unfolding unit_over
read_beside common picture segment address between left above s b =
    let same =
    unit_same (syntax_at common picture segment address) left.sao above.sao
    (unit_of picture between (address - 1)).sao (unit_of picture between (address - picture.width)).sao
    (is_last segment address) (begins_row picture (next_unit address))
    (unit_beside picture segment address left above between.last) s
    (λ e. ap (λ (edge : Edge). edge.sao) (b.on_left (left_there common picture segment address e)))
    (λ e. ap (λ (edge : Edge). edge.sao) (b.on_top (above_there common picture segment address e))) in
    ap judged same ∙ rw (begins_beside picture segment address between left above b) refl

if_judged : (right : Bool) (picture : PictureShape) (address : ℕ) (between : Between) (r : (Ctu × End) × State)
    → (if right then Ok (next_between picture address between r.0.0 r.1) else Err (breach.Fault rule.TrailingBits))
    ≡ then_next picture address between (if right then Ok r else Err (breach.Fault rule.TrailingBits))
if_judged true picture address between r = refl
if_judged false picture address between r = refl

pub behind_is : (picture : PictureShape) (address : ℕ) (between : Between) (r : Result ((Ctu × End) × State) Breach)
    → behind_unit picture address between r ≡ then_next picture address between (judged r)
behind_is picture address between (Err e) = refl
behind_is picture address between (Ok r) = if_judged (judged_end r.0.1 r.1.0) picture address between r

pub next_is : (common : CtuSyntax) (picture : PictureShape) (segment : SegmentShape) (address : ℕ) (between : Between)
    (left above : Edge)
    → IsBeside picture segment address between left above
    → read_unit common picture segment address between
    ≡ then_next picture address between
    (unit_over common picture segment address left above between.last (between.engine, between.contexts))
unfolding read_unit
next_is common picture segment address between left above b =
    let s : State = (between.engine, between.contexts) in
    behind_is picture address between (read (unit_at common picture segment address between) s)
    ∙ ap (then_next picture address between)
    (sym (read_beside common picture segment address between left above s b))
