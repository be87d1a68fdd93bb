-- A unit over a view is the next step of reading a slice segment.
use Rattle.std.proofs.Common.{◌≡◌, ℕ, ◌+◌, ◌-◌, ◌*◌, ◌^◌, ◌<◌, Bool, true, false, Result, Ok, Err, refl, ap, sym, ◌∙◌}
use Rattle.std.proofs.Common.{map, if◌then◌else◌, nat_lt, arith}
use Rattle.std.specs.List.{range_with_len}
use Rattle.std.proofs.lemmas.Bool.Decides.{nat_tests}
use Rattle.std.proofs.lemmas.List.FromFn.{fill_by_all, length-map-range_with_len, get_or-map-range_with_len}
use Rattle.hv_base.specs.declared.breach.Breach.{Breach}
use Rattle.hv_base.specs.declared.breach.Breach.TheVariants as breach
use Rattle.hv_base.specs.declared.fault.FaultKind.TheVariants as rule
use Rattle.ctu_records.specs.declared.side.Side.{Side}
use Rattle.ctu_records.specs.declared.offset.Sao.{Sao}
use Rattle.ctu_records.specs.Tree.{Ctu, no_side, side}
use Rattle.spec_cabac.specs.Bins.{State, read}
use Rattle.spec_slice_data.specs.declared.syntax.CtuSyntax.{CtuSyntax}
use Rattle.spec_slice_data.specs.declared.syntax.End.{End}
use Rattle.spec_slice_data.specs.Segment.{PictureShape, SegmentShape, Between, behind_unit, judged_end, read_unit}
use Rattle.spec_slice_data.specs.Segment.{side_of, syntax_at, unit_at, unit_begins, unit_of}
use Rattle.spec_slice_data.specs.Tree.{unit_and_end}
use Rattle.coding_quadtree.specs.declared.unit_place.UnitPlace.{UnitPlace}
use Rattle.coding_quadtree.specs.Beside.{above_sao, ctu_begins, left_sao, on_left, on_top}
use Rattle.coding_quadtree.specs.Judged.{Follows, judged, over_view}
use Rattle.coding_quadtree.specs.Next.{IsNext, StepsTo, next_between}
use Rattle.coding_quadtree.proofs.Offsets.{unit_same}

where_same : (b : Bool) (x y z : Side) → (b ≡ true → x ≡ y) → (if b then x else z) ≡ (if b then y else z)
where_same true x y z same = same refl
where_same false x y z same = refl

-- sides of places that are alike
pub side_same : (count : ℕ) (f g : ℕ → Side) → ((k : ℕ) → k < count → f k ≡ g k) → side count f ≡ side count g
unfolding side
side_same count f g same =
    let of : (ℕ → Side) → ℕ → Side = λ h k. if nat_lt k count then h k else no_side in
    fill_by_all (of g) (map (of f) (range_with_len 0 16)) 16 no_side (length-map-range_with_len (of f) 0 16)
    (λ k h. get_or-map-range_with_len (of f) 0 16 k k no_side h (omega arith)
    ∙ where_same (nat_lt k count) (f k) (g k) no_side (λ e. same k (grind (arith, nat_tests))))

-- a unit begins over a view as it does in the segment
begins : (common : CtuSyntax) (picture : PictureShape) (segment : SegmentShape) (address : ℕ) (between : Between)
    (syntax : CtuSyntax) (place : UnitPlace) (side_at : ℕ → ℕ → Side) (sao_at : ℕ → Sao)
    → IsNext common picture segment address between syntax place side_at sao_at
    → ctu_begins syntax place side_at ≡ unit_begins picture segment address between
unfolding ctu_begins unit_begins syntax_at
begins common picture segment address between syntax place side_at sao_at n =
    let size = picture.size in
    let lefts =
    side_same (on_left syntax place) (λ k. side_at (place.x - 1) (place.y + 4 * k))
    (λ k. side_of (unit_of picture between (address - 1)) (2 ^ size - 1) k) n.left in
    let aboves =
    side_same (on_top syntax place) (λ k. side_at (place.x + 4 * k) (place.y - 1))
    (λ k. side_of (unit_of picture between (address - picture.width)) k (2 ^ size - 1)) n.above in
    rw (lefts, aboves, n.qp, n.size, n.reads) refl

-- what is read over the view is what is read in the segment
same_reading : (common : CtuSyntax) (picture : PictureShape) (segment : SegmentShape) (address : ℕ) (between : Between)
    (syntax : CtuSyntax) (place : UnitPlace) (side_at : ℕ → ℕ → Side) (sao_at : ℕ → Sao) (s : State)
    → IsNext common picture segment address between syntax place side_at sao_at
    → read (unit_and_end syntax (left_sao syntax place sao_at) (above_sao syntax place sao_at) place.is_last
    place.ends_subset (ctu_begins syntax place side_at))
    s
    ≡ read (unit_at common picture segment address between) s
same_reading common picture segment address between syntax place side_at sao_at s n =
    let b = begins common picture segment address between syntax place side_at sao_at n in
    let same =
    unit_same syntax (left_sao syntax place sao_at) (above_sao syntax place sao_at)
    (unit_of picture between (address - 1)).sao (unit_of picture between (address - picture.width)).sao
    place.is_last place.ends_subset (ctu_begins syntax place side_at) s (λ e. rw (e, n.at) (n.left_sao e))
    (λ e. rw (e, n.at, n.width) (n.above_sao e)) in
    same ∙ rw (b, n.last, n.subset, n.reads) refl

-- what a call left is what the step keeps
kept : (picture : PictureShape) (address : ℕ) (between : Between) (result : Result End Breach) (ctu : Ctu)
    (after : State) (right : Bool) (r : (Ctu × End) × State)
    → Follows result ctu after (if right then Ok r else Err (breach.Fault rule.TrailingBits))
    → StepsTo picture address between result ctu after
    (if right then Ok (next_between picture address between r.0.0 r.1) else Err (breach.Fault rule.TrailingBits))
kept picture address between (Ok follows) ctu after true r e =
    let same : r ≡ ((ctu, follows), after) = cc in
    ap (λ (got : (Ctu × End) × State). Ok (next_between picture address between got.0.0 got.1)) same
kept picture address between (Ok follows) ctu after false r e = absurd cc
kept picture address between (Err d) ctu after true r e = absurd cc
kept picture address between (Err d) ctu after false r e = ap (λ (f : Breach). Err f) cc

step_of : (picture : PictureShape) (address : ℕ) (between : Between) (result : Result End Breach) (ctu : Ctu)
    (after : State) (read : Result ((Ctu × End) × State) Breach)
    → Follows result ctu after (judged read)
    → StepsTo picture address between result ctu after (behind_unit picture address between read)
step_of picture address between result ctu after (Ok r) e =
    kept picture address between result ctu after (judged_end r.0.1 r.1.0) r e
step_of picture address between (Ok follows) ctu after (Err d) e = absurd cc
step_of picture address between (Err f) ctu after (Err d) e = ap (λ (g : Breach). Err g) cc

pub next_step : (common : CtuSyntax) (picture : PictureShape) (segment : SegmentShape) (address : ℕ) (between : Between)
    (syntax : CtuSyntax) (place : UnitPlace) (side_at : ℕ → ℕ → Side) (sao_at : ℕ → Sao)
    → IsNext common picture segment address between syntax place side_at sao_at
    → (result : Result End Breach) (ctu : Ctu) (after : State)
    → Follows result ctu after (over_view syntax place side_at sao_at (between.engine, between.contexts))
    → StepsTo picture address between result ctu after (read_unit common picture segment address between)
unfolding read_unit
next_step common picture segment address between syntax place side_at sao_at n result ctu after follows =
    let s : State = (between.engine, between.contexts) in
    let same = same_reading common picture segment address between syntax place side_at sao_at s n in
    step_of picture address between result ctu after (read (unit_at common picture segment address between) s)
    (rw (sym same) follows)
