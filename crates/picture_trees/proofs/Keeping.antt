-- What is kept of the units before one is what the next unit is read by.
use Rattle.std.proofs.Common.{◌≡◌, ◌≢◌, ℕ, ◌+◌, ◌-◌, ◌^◌, ◌%◌, ◌<◌, ◌≤◌, Bool, true, false, List, [], ◌∷◌, ◌++◌}
use Rattle.std.proofs.Common.{length}
use Rattle.std.proofs.Common.{get_or, slice_set, refl, ap, sym, ◌∙◌, nat_eq, length-append, Result, Ok, Err, arith}
use Rattle.std.proofs.lemmas.Bool.Decides.{nat_tests}
use Rattle.std.proofs.lemmas.List.{get_or-set_same, get_or-set_other, get_or_append_left, length-set}
use Rattle.std.proofs.Math.Nat.{mod-lt}
use Rattle.std.proofs.Math.Seq.{get_or-append_seam}
use Rattle.ctu_records.specs.Tree.{Ctu}
use Rattle.spec_slice_data.specs.SpecCabac.{State}
use Rattle.spec_slice_data.specs.declared.syntax.CtuSyntax.{CtuSyntax}
use Rattle.spec_slice_data.specs.declared.syntax.End.{End}
use Rattle.spec_slice_data.specs.Segment.{PictureShape, SegmentShape, Between, column_of, no_group, nothing_read}
use Rattle.spec_slice_data.specs.Segment.{read_unit, stored_behind}
use Rattle.unit_trees.specs.CodingQuadtree.{Follows}
use Rattle.unit_trees.specs.CodingQuadtree.{StepsTo, next_between}
use Rattle.unit_trees.specs.CabacContexts.{state_of}
use Rattle.hv_base.specs.declared.breach.Breach.{Breach}
use Rattle.unit_trees.specs.declared.edges.Edge.{Edge}
use Rattle.unit_trees.specs.declared.units.UnitReader.{UnitReader}
use Rattle.unit_trees.specs.Edges.{bottom_of, no_edge}
use Rattle.unit_trees.specs.Units.{IsBeside, then_next, unit_over}
use Rattle.unit_trees.proofs.Beside.{behind_row, not_first}
use Rattle.unit_trees.proofs.Steps.{next_is}
use Rattle.picture_trees.specs.declared.units.Reading.{Reading}
use Rattle.picture_trees.specs.Beside.{UnitsBeside, above_at, behind}
use Rattle.picture_trees.specs.Reading.{IsKept, between_of, unit_in}
use Rattle.picture_trees.proofs.Columns.{above_column, other_column}

-- what is kept is what the units beside the next one leave
pub beside_next : (picture : PictureShape) (segment : SegmentShape) (address : ℕ) (between : Between) (b : UnitsBeside)
    → IsKept picture address b between.units → 1 ≤ picture.width
    → IsBeside picture segment address between b.left (above_at b (column_of picture address))
beside_next picture segment address between b kept some = record {
  on_left = λ e. kept.left (not_first picture segment address e);
  on_top = λ e.
      let whole_row : picture.width ≤ address = behind_row picture segment address e in
      ap (λ column. above_at b column) (sym (above_column address picture.width whole_row))
      ∙ kept.columns (address - picture.width) (omega arith) (omega arith);
}

lt_of : (a address : ℕ) → a < address + 1 → a ≢ address → a < address
lt_of a address lt differs = grind (arith, differs)

-- behind the next unit
new_column : (same : Bool) (picture : PictureShape) (address a : ℕ) (b : UnitsBeside) (units : List Ctu) (ctu : Ctu)
    → nat_eq a address ≡ same → IsKept picture address b units → 1 ≤ picture.width
    → a < address + 1 → address + 1 ≤ a + picture.width
    → get_or (slice_set b.columns (column_of picture address) (bottom_of b.side ctu)) (a % picture.width) no_edge
    ≡ bottom_of (2 ^ picture.size) (unit_in picture (units ++ ctu ∷ []) a)
new_column true picture address a b units ctu e kept some lt near =
    let is : a ≡ address = grind (arith, nat_tests) in
    let inside : column_of picture address < length b.columns = rw kept.full (mod-lt address some) in
    let d = nothing_read picture.size no_group in
    let last : unit_in picture (units ++ ctu ∷ []) address ≡ ctu =
    ap (λ k. get_or (units ++ ctu ∷ []) k d) (sym kept.count) ∙ get_or-append_seam units ctu [] d in
    rw (is, last, sym kept.side) (get_or-set_same b.columns (column_of picture address)
    (bottom_of b.side ctu) no_edge inside)
new_column false picture address a b units ctu e kept some lt near =
    let differs : a ≢ address = λ is. let t : true ≡ false = sym (grind (arith, nat_tests)) ∙ e in absurd cc in
    let before : a < address = lt_of a address lt differs in
    let d = nothing_read picture.size no_group in
    let old : unit_in picture (units ++ ctu ∷ []) a ≡ unit_in picture units a =
    get_or_append_left units (ctu ∷ []) d a (omega (arith, kept.count, before)) in
    get_or-set_other b.columns (column_of picture address) (a % picture.width) (bottom_of b.side ctu) no_edge
    (other_column a address picture.width before (omega arith))
    ∙ kept.columns a before (omega arith) ∙ ap (bottom_of (2 ^ picture.size)) (sym old)

pub kept_behind : (picture : PictureShape) (address : ℕ) (b : UnitsBeside) (units : List Ctu) (ctu : Ctu)
    → IsKept picture address b units → 1 ≤ picture.width
    → IsKept picture (address + 1) (behind b (column_of picture address) ctu) (units ++ ctu ∷ [])
kept_behind picture address b units ctu kept some =
    let d = nothing_read picture.size no_group in
    let back : address + 1 - 1 ≡ length units = omega (arith, kept.count) in
    let last : unit_in picture (units ++ ctu ∷ []) (address + 1 - 1) ≡ ctu =
    ap (λ k. get_or (units ++ ctu ∷ []) k d) back ∙ get_or-append_seam units ctu [] d in
    record {
      count = length-append units (ctu ∷ []) ∙ ap (λ k. k + 1) kept.count;
      side = kept.side;
      full = length-set b.columns (column_of picture address) (bottom_of b.side ctu) ∙ kept.full;
      left = λ h. rw (last, kept.side) refl;
      columns = λ a lt near. new_column (nat_eq a address) picture address a b units ctu refl kept some lt near;
    }

steps_to : (picture : PictureShape) (address : ℕ) (between : Between) (step : Result Between Breach)
    (read : Result ((Ctu × End) × State) Breach) (result : Result End Breach) (ctu : Ctu) (after : State)
    → step ≡ then_next picture address between read → Follows result ctu after read
    → StepsTo picture address between result ctu after step
steps_to picture address between step read (Ok follows) ctu after e f = e ∙ ap (then_next picture address between) f
steps_to picture address between step read (Err breach) ctu after e f = e ∙ ap (then_next picture address between) f

-- a unit read over what is kept is the next step of reading the segment
pub next_unit : (common : CtuSyntax) (picture : PictureShape) (segment : SegmentShape) (address column : ℕ)
    (between : Between) (b : UnitsBeside) (left above : Edge)
    → IsKept picture address b between.units → column < picture.width
    → column ≡ column_of picture address → left ≡ b.left → above ≡ above_at b column
    → (result : Result End Breach) (ctu : Ctu) (after : State)
    → Follows result ctu after
    (unit_over common picture segment address left above between.last (between.engine, between.contexts))
    → StepsTo picture address between result ctu after (read_unit common picture segment address between)
next_unit common picture segment address column between b left above kept below at el ea result ctu after follows =
    let over : Edge → Edge → Result Between Breach =
    λ x y. then_next picture address between
    (unit_over common picture segment address x y between.last (between.engine, between.contexts)) in
    let is : read_unit common picture segment address between ≡ over b.left (above_at b (column_of picture address)) =
    next_is common picture segment address between b.left (above_at b (column_of picture address))
    (beside_next picture segment address between b kept (omega (arith, below))) in
    let here : over b.left (above_at b (column_of picture address)) ≡ over left above =
    ap (λ k. over b.left (above_at b k)) (sym at) ∙ ap (λ (e : Edge). over b.left e) (sym ea)
    ∙ ap (λ (e : Edge). over e above) (sym el) in
    steps_to picture address between _ _ result ctu after (is ∙ here) follows

pub kept_between : (picture : PictureShape) (address : ℕ) (between : Between) (reader : UnitReader) (ctu : Ctu)
    (new : Reading)
    → new.reader ≡ reader → new.records ≡ ctu
    → new.stored ≡ stored_behind picture address reader.bins.contexts between.stored
    → reader.last ≡ ctu.quantization.last
    → next_between picture address between ctu (state_of reader.bins)
    ≡ between_of new (between.units ++ new.records ∷ [])
kept_between picture address between reader ctu new er ec es el = rw (er, ec, es, el) refl
