-- A unit over a view of what the units beside it leave.
use Rattle.std.proofs.Common.{◌≡◌, ℕ, suc, ◌+◌, ◌-◌, ◌*◌, ◌/◌, ◌%◌, ◌^◌, ◌<◌, ◌≤◌, ◌&&◌, ◌==◌, Bool, true, false}
use Rattle.std.proofs.Common.{Result, refl, ap, ◌∙◌, if◌then◌else◌, nat_lt, nat_le, subst, zero, arith}
use Rattle.std.proofs.lemmas.Bool.Decides.{nat_tests}
use Rattle.std.proofs.lemmas.Nat.{div-mul-add, le-div}
use Rattle.std.proofs.Math.Nat.{zero-mod, one-le-pow, mod-lt, mul-le-mul_left}
use Rattle.hv_base.specs.declared.breach.Breach.{Breach}
use Rattle.ctu_records.specs.Tree.{Ctu}
use Rattle.coding_quadtree.specs.SpecCabac.{State}
use Rattle.spec_slice_data.specs.declared.syntax.CtuSyntax.{CtuSyntax}
use Rattle.spec_slice_data.specs.declared.syntax.End.{End}
use Rattle.spec_slice_data.specs.Segment.{PictureShape, SegmentShape, begins_row, column_of, has_above, has_left}
use Rattle.spec_slice_data.specs.Segment.{is_last, row_of, syntax_at}
use Rattle.coding_quadtree.specs.declared.unit_place.UnitPlace.{UnitPlace}
use Rattle.coding_quadtree.specs.Beside.{above_sao, available, ctu_begins, left_sao, on_left, on_top}
use Rattle.coding_quadtree.specs.Judged.{Follows, judged, over_view}
use Rattle.coding_quadtree.proofs.Offsets.{unit_same}
use Rattle.coding_quadtree.proofs.Steps.{side_same}
use Rattle.unit_trees.specs.declared.edges.Edge.{Edge}
use Rattle.unit_trees.specs.Edges.{offset_beside, place_of, seen_beside}
use Rattle.unit_trees.specs.Units.{unit_beside, unit_over}

pub record There (there : Bool) (n k : ℕ) : Type 0 where
  pub is : there ≡ true
  pub small : k < n

within : (few : Bool) (there : Bool) (places n k : ℕ) → nat_lt places n ≡ few
    → k < (if there then (if few then places else n) else 0) → There there n k
within true true places n k e h = record { is = refl; small = grind (arith, nat_tests) }
within false true places n k e h = record { is = refl; small = h }
within true false places n k e h = absurd (omega arith)
within false false places n k e h = absurd (omega arith)

-- a place that is available belongs to a unit that is there
pub there_of : (there : Bool) (places n k : ℕ) → k < available there places n → There there n k
there_of there places n k h = within (nat_lt places n) there places n k refl h

both_first : (a b : Bool) → a && b ≡ true → a ≡ true
both_first true b e = refl
both_first false b e = absurd cc

-- where there is a unit on the left, a row has two
pub in_row : (picture : PictureShape) (segment : SegmentShape) (address : ℕ) → has_left picture segment address ≡ true
    → 1 ≤ picture.width → 2 ≤ picture.width
in_row picture segment address e some =
    let h : nat_lt 0 (address % picture.width) ≡ true = both_first _ _ e in
    let right : 0 < address % picture.width = grind (arith, nat_tests) in
    omega (arith, right, mod-lt address some)

pub not_first : (picture : PictureShape) (segment : SegmentShape) (address : ℕ)
    → has_left picture segment address ≡ true → 1 ≤ address
not_first picture segment zero e =
    let h : nat_lt 0 (0 % picture.width) ≡ true = both_first _ _ e in
    let some : 0 < 0 % picture.width = grind (arith, nat_tests) in
    absurd (omega (arith, some, zero-mod picture.width))
not_first picture segment (suc a) e = omega arith

pub behind_row : (picture : PictureShape) (segment : SegmentShape) (address : ℕ)
    → has_above picture segment address ≡ true → picture.width ≤ address
behind_row picture segment address e =
    let h : nat_le picture.width address ≡ true = both_first _ _ e in grind (arith, nat_tests)

-- the unit above stands in a row above
below_top : (n address w : ℕ) → 1 ≤ n → 1 ≤ w → w ≤ address → 0 < 4 * (n * (address / w))
below_top n address w some_n some_w le =
    let one : 1 ≤ address / w = le-div 1 address w some_w (omega (arith, le)) in
    let le_n : n * 1 ≤ n * (address / w) = mul-le-mul_left {m = 1} {n = address / w} n one in
    omega (arith, le_n, some_n)

-- so many places behind the unit's first
place_behind : (y k : ℕ) → (y + 4 * k - y) / 4 ≡ k
place_behind y k =
    let e : y + 4 * k - y ≡ k * 4 + 0 = omega arith in ap (λ x. x / 4) e ∙ div-mul-add k 4 0 (omega arith)

left_seen : (left above : Edge) (x0 y0 x k : ℕ) → seen_beside left above x0 y0 x (y0 + 4 * k) ≡ place_of left k
left_seen left above x0 y0 x k =
    let lower : nat_lt (y0 + 4 * k) y0 ≡ false = grind (arith, nat_tests) in rw (lower, place_behind y0 k) refl

above_seen : (left above : Edge) (x0 y0 k : ℕ) → 0 < y0
    → seen_beside left above x0 y0 (x0 + 4 * k) (y0 - 1) ≡ place_of above k
above_seen left above x0 y0 k some =
    let higher : nat_lt (y0 - 1) y0 ≡ true = grind (arith, nat_tests) in rw (higher, place_behind x0 k) refl

left_offset : (left above : Edge) (address w : ℕ) → 2 ≤ w → offset_beside left above address w (address - 1) ≡ left.sao
left_offset left above address w two =
    let no : (address - 1 + w == address) ≡ false = grind (arith, nat_tests) in rw no refl

above_offset : (left above : Edge) (address w : ℕ) → w ≤ address
    → offset_beside left above address w (address - w) ≡ above.sao
above_offset left above address w le =
    let yes : (address - w + w == address) ≡ true = grind (arith, nat_tests) in rw yes refl

-- the place is that of the unit at an address
pub record IsAt (picture : PictureShape) (segment : SegmentShape) (address : ℕ) (place : UnitPlace) : Type 0 where
  pub some : 1 ≤ picture.width
  pub at : place.address ≡ address
  pub size : place.size ≡ picture.size
  pub width : place.width ≡ picture.width
  pub y : place.y ≡ 4 * (2 ^ picture.size * row_of picture address)
  pub last : place.is_last ≡ is_last segment address
  pub subset : place.ends_subset ≡ begins_row picture (address + 1)

begins : (common : CtuSyntax) (picture : PictureShape) (segment : SegmentShape) (address : ℕ) (left above : Edge)
    (place : UnitPlace)
    → IsAt picture segment address place
    → ctu_begins (syntax_at common picture segment address) place (seen_beside left above place.x place.y)
    ≡ unit_beside picture segment address left above place.last_qp
unfolding ctu_begins unit_beside syntax_at
begins common picture segment address left above place h =
    let n = 2 ^ picture.size in
    let some_n : 1 ≤ n = one-le-pow picture.size 2 (omega arith) in
    let syntax = syntax_at common picture segment address in
    let lefts =
    side_same (on_left syntax place)
    (λ k. seen_beside left above place.x place.y (place.x - 1) (place.y + 4 * k)) (place_of left)
    (λ k lt. left_seen left above place.x place.y (place.x - 1) k) in
    let aboves =
    side_same (on_top syntax place)
    (λ k. seen_beside left above place.x place.y (place.x + 4 * k) (place.y - 1)) (place_of above)
    (λ k lt.
    let there =
    there_of (has_above picture segment address) (picture.across - n * column_of picture address)
    (2 ^ place.size) k lt in
    let row : picture.width ≤ address = behind_row picture segment address there.is in
    let top : 0 < place.y = rw h.y (below_top n address picture.width some_n h.some row) in
    above_seen left above place.x place.y k top) in
    rw (lefts, aboves, h.size) refl

pub left_there : (common : CtuSyntax) (picture : PictureShape) (segment : SegmentShape) (address : ℕ)
    → (syntax_at common picture segment address).has_left ≡ true → has_left picture segment address ≡ true
unfolding syntax_at
left_there common picture segment address e = e

pub above_there : (common : CtuSyntax) (picture : PictureShape) (segment : SegmentShape) (address : ℕ)
    → (syntax_at common picture segment address).has_above ≡ true → has_above picture segment address ≡ true
unfolding syntax_at
above_there common picture segment address e = e

over_edges : (common : CtuSyntax) (picture : PictureShape) (segment : SegmentShape) (address : ℕ) (left above : Edge)
    (place : UnitPlace) (s : State)
    → IsAt picture segment address place
    → over_view (syntax_at common picture segment address) place (seen_beside left above place.x place.y)
    (offset_beside left above address place.width) s
    ≡ unit_over common picture segment address left above place.last_qp s
unfolding unit_over
over_edges common picture segment address left above place s h =
    let syntax = syntax_at common picture segment address in
    let offsets = offset_beside left above address place.width in
    let begun = ctu_begins syntax place (seen_beside left above place.x place.y) in
    let same =
    unit_same syntax (left_sao syntax place offsets) (above_sao syntax place offsets) left.sao above.sao place.is_last
    place.ends_subset begun s
    (λ e.
    let two = in_row picture segment address (left_there common picture segment address e) h.some in
    rw (e, h.at, h.width) (left_offset left above address picture.width two))
    (λ e.
    let row = behind_row picture segment address (above_there common picture segment address e) in
    rw (e, h.at, h.width) (above_offset left above address picture.width row)) in
    ap judged same ∙ rw (begins common picture segment address left above place h, h.last, h.subset) refl

-- a unit over the view is a unit over the edges
pub over_view_of_edges : (common : CtuSyntax) (picture : PictureShape) (segment : SegmentShape) (address : ℕ)
    (left above : Edge) (syntax : CtuSyntax) (place : UnitPlace) (s : State)
    → syntax ≡ syntax_at common picture segment address → IsAt picture segment address place
    → over_view syntax place (seen_beside left above place.x place.y) (offset_beside left above address place.width) s
    ≡ unit_over common picture segment address left above place.last_qp s
over_view_of_edges common picture segment address left above syntax place s e h =
    ap (λ (x : CtuSyntax). over_view x place (seen_beside left above place.x place.y)
    (offset_beside left above address place.width) s) e
    ∙ over_edges common picture segment address left above place s h

-- what a call over the view answers and leaves is what a unit over the edges has
pub follows_over : (common : CtuSyntax) (picture : PictureShape) (segment : SegmentShape) (address : ℕ)
    (left above : Edge) (syntax : CtuSyntax) (place : UnitPlace) (last : ℕ) (s : State)
    → syntax ≡ syntax_at common picture segment address → IsAt picture segment address place → place.last_qp ≡ last
    → (result : Result End Breach) (ctu : Ctu) (after : State)
    → Follows result ctu after
    (over_view syntax place (seen_beside left above place.x place.y)
    (offset_beside left above address place.width) s)
    → Follows result ctu after (unit_over common picture segment address left above last s)
follows_over common picture segment address left above syntax place last s e h q result ctu after follows =
    let is =
    over_view_of_edges common picture segment address left above syntax place s e h
    ∙ ap (λ k. unit_over common picture segment address left above k s) q in
    subst (Follows result ctu after) is follows
