-- What stands before a unit, and what its reading leaves before the next one.
use Rattle.std.proofs.Common.{◌≡◌, ℕ, zero, suc, ◌+◌, ◌-◌, ◌%◌, ◌^◌, ◌<◌, ◌≤◌, true, false, List, []}
use Rattle.std.proofs.Common.{Option, Some, None, is_some, IfSome, Result, Ok, Err, nat_lt, refl, ap}
use Rattle.std.proofs.Common.{sym, subst}
use Rattle.std.proofs.Common.{◌∙◌, arith}
use Rattle.std.proofs.lemmas.Bool.{eq-eqb, ltb-true}
use Rattle.std.proofs.Math.Nat.{zero-mod}
use Rattle.hv_base.specs.declared.breach.Breach.{Breach}
use Rattle.header_types.specs.SequenceParameterSets.{size_in_ctbs, width_in_ctbs}
use Rattle.plan_types.specs.declared.picture_plan.PicturePlan.{PicturePlan}
use Rattle.ctu_records.specs.Tree.{Ctu}
use Rattle.spec_slice_data.specs.Segment.{Between, PictureShape, begins_substream, is_first}
use Rattle.spec_picture_trees.specs.Picture.{SegmentAt, before_picture}
use Rattle.spec_picture_trees.specs.Shapes.{picture_shape}
use Rattle.unit_words.specs.UnitTrees.{Edge}
use Rattle.unit_words.specs.UnitTrees.{UnitReader}
use Rattle.unit_words.specs.UnitTrees.{right_of}
use Rattle.unit_words.specs.UnitTrees.{between_of}
use Rattle.spec_known_units.specs.Known.{Entries, KnownUnit, ctu_of, entries_before}
use Rattle.spec_known_units.specs.Known.{known_of, picture_segments, read_in, segment_having, unit_read, units_known}
use Rattle.known_engine_laws.proofs.KnownUnitLawsLemmas.{first_of_two}
use Rattle.known_engine_laws.proofs.KnownUnitLawsLemmas.{known_step}
use Rattle.known_engine_laws.proofs.Leaving.{leaves}
use Rattle.known_engine_laws.proofs.Segments.{having_is, some_is}
use Rattle.flight_value_laws.specs.SpecFlights.{broken_at, broken_by}
use Rattle.flight_value_laws.specs.Reading.{IsKnownAs, IsLeftBefore, IsLeftEdge, read_over}
use Rattle.flight_value_laws.proofs.Over.{read_is}
use Rattle.flight_value_laws.proofs.Sides.{right_is}
use Rattle.flight_value_laws.proofs.Within.{shape_of}
use Rattle.row_trees.specs.Reading.{BeginsAlone, IsCarried, IsOnLeft, IsReadByKnown, IsReadKnown, IsUnder, OfSegment}
use Rattle.row_trees.specs.Reading.{Reads, StandsBefore}
use Rattle.row_trees.specs.Reading.{known_to}
use Rattle.row_trees.specs.Steps.{Leaves, unit_behind}
use Rattle.row_trees.proofs.Carries.{carried_anew, carried_next, column_is, former_is, no_both, or_first}

-- the first unit of a row has none on its left
pub none_on_left : (p : PicturePlan) (address : ℕ) (left : Edge) → address % width_in_ctbs p.sps ≡ 0
    → OfSegment p address (IsOnLeft p address left)
none_on_left p address left first at having there =
    let some : 0 < address % at.picture.width =
    ltb-true 0 (address % at.picture.width) (first_of_two (nat_lt 0 (address % at.picture.width)) _ there) in
    let none = column_is p address at first having in
    absurd (omega (arith, some, none))

pub stands_at_row : (p : PicturePlan) (address : ℕ) (reader : UnitReader) (left : Edge)
    → address % width_in_ctbs p.sps ≡ 0 → OfSegment p address (IsCarried p address reader)
    → StandsBefore p address reader left
stands_at_row p address reader left first carried = record {
  carried = carried;
  on_left = none_on_left p address left first;
}

-- a picture begins with a substream
begins_first : (p : PicturePlan) (at : SegmentAt) → segment_having (picture_segments p) 0 ≡ Some at
    → begins_substream at.picture at.shape 0 ≡ false → ⊥
begins_first p at having e =
    let from = (having_is p p.segments 0 0 0 at having).from in
    let first : is_first at.shape 0 ≡ true = eq-eqb 0 at.shape.first (omega (arith, from)) in
    let not_first : is_first at.shape 0 ≡ false = or_first (is_first at.shape 0) _ e in
    no_both (is_first at.shape 0) first not_first

pub stands_first : (p : PicturePlan) (reader : UnitReader) (left : Edge)
    → between_of reader before_picture.stored [] ≡ before_picture → StandsBefore p 0 reader left
stands_first p reader left is = record {
  carried = λ at having. record {
    live = λ e. absurd (begins_first p at having e);
    engine = λ e. ap (λ (b : Between). b.engine) is;
    contexts = λ e f. ap (λ (b : Between). b.contexts) is;
    last = λ e f. ap (λ (b : Between). b.last) is;
  };
  on_left = none_on_left p 0 left (zero-mod (width_in_ctbs p.sps));
}

-- a row that begins by itself
pub stands_alone : (p : PicturePlan) (address : ℕ) (reader : UnitReader) (left : Edge)
    → between_of reader before_picture.stored [] ≡ before_picture → address % width_in_ctbs p.sps ≡ 0
    → BeginsAlone p address → StandsBefore p address reader left
stands_alone p zero reader left is first alone = stands_first p reader left is
stands_alone p (suc n) reader left is first alone =
    stands_at_row p (suc n) reader left first (carried_anew p (suc n) reader (alone (omega arith)) first)

-- what stands before a unit, by the keeping of its row and by what it has above it
pub left_before : (p : PicturePlan) (address : ℕ) (at : SegmentAt) (reader : UnitReader) (left above : Edge)
    (stored : List ℕ) → IsCarried p address reader at → IsOnLeft p address left at
    → IsUnder p address above stored at
    → IsLeftBefore at (entries_before (units_known p) address) address (between_of reader stored []) left above
left_before p address at reader left above stored carried on_left under = record {
  engine = carried.engine;
  contexts = carried.contexts;
  last = carried.last;
  stored = under.contexts;
  on_left = on_left;
  on_top = under.on_top;
}

by_result : (p : PicturePlan) (address : ℕ) → address < size_in_ctbs p.sps → (r : Result KnownUnit Breach)
    → unit_read p (units_known p) address ≡ Some r → IsKnownAs p address r
unfolding broken_at
by_result p address inside (Ok known) e = (known_step p address inside ∙ ap known_of e, ap broken_by e)
by_result p address inside (Err breach) e = (known_step p address inside ∙ ap known_of e, ap broken_by e)

some_of : {X : Type 0} (o : Option X) → is_some o ≡ true → (r : X) × (o ≡ Some r)
some_of None e = absurd cc
some_of (Some r) e = (r, refl)

-- a unit over what stands before it is what is known of it
pub known_over : (p : PicturePlan) (address : ℕ) (at : SegmentAt) (before : Between) (left above : Edge)
    → address < size_in_ctbs p.sps → segment_having (picture_segments p) address ≡ Some at → IsReadByKnown p address
    → IsLeftBefore at (entries_before (units_known p) address) address before left above
    → IsKnownAs p address (read_over at address left above before)
known_over p address at before left above inside having read h =
    let r = some_of (unit_read p (units_known p) address) read in
    subst (IsKnownAs p address) (sym (read_is (units_known p) at address before left above h p r.0 having r.1))
    (by_result p address inside r.0 r.1)

answered : (p : PicturePlan) (address : ℕ) (at : SegmentAt) (ctu : Ctu) (reader : UnitReader)
    (step : Result KnownUnit Breach) (result : Result (Unit {0}) Breach)
    → segment_having (picture_segments p) address ≡ Some at → Leaves result at ctu reader step
    → IsKnownAs p address step → Reads result p address ctu reader
answered p address at ctu reader step (Ok x) having leaves known =
    let is : IsKnownAs p address (Ok (unit_behind at ctu reader)) = subst (IsKnownAs p address) leaves known in
    record {
      known = unit_behind at ctu reader;
      is = is.0;
      unbroken = is.1;
      segment = λ other also. ap (λ (s : SegmentAt). s.number) (some_is at other (sym having ∙ also));
      same = record { read = refl; engine = refl; contexts = refl; last = refl };
    }
answered p address at ctu reader step (Err breach) having leaves known = subst (IsKnownAs p address) leaves known

pub reads_known : (p : PicturePlan) (address : ℕ) (at : SegmentAt) (before next : UnitReader) (left above : Edge)
    (stored : List ℕ) (ctu : Ctu) (result : Result (Unit {0}) Breach)
    → address < size_in_ctbs p.sps → segment_having (picture_segments p) address ≡ Some at
    → StandsBefore p address before left
    → Leaves result at ctu next (read_over at address left above (between_of before stored []))
    → IsReadByKnown p address → OfSegment p address (IsUnder p address above stored)
    → Reads result p address ctu next
reads_known p address at before next left above stored ctu result inside having stands leaves read under =
    answered p address at ctu next (read_over at address left above (between_of before stored [])) result having leaves
    (known_over p address at (between_of before stored []) left above inside having read
    (left_before p address at before left above stored (stands.carried at having) (stands.on_left at having)
    (under at having)))

-- a unit that is read by known ones has a segment
found_in : (known : Entries) (address : ℕ) (o : Option SegmentAt) → is_some (read_in known address o) ≡ true
    → (at : SegmentAt) × (o ≡ Some at)
unfolding read_in
found_in known address None e = absurd cc
found_in known address (Some at) e = (at, refl)

has_segment : (p : PicturePlan) (address : ℕ) → IsReadByKnown p address
    → (at : SegmentAt) × (segment_having (picture_segments p) address ≡ Some at)
unfolding unit_read
has_segment p address read =
    found_in (entries_before (units_known p) address) address (segment_having (picture_segments p) address) read

pub of_some : (o : Option SegmentAt) (holds : SegmentAt → Type 0) → ((at : SegmentAt) → o ≡ Some at → holds at)
    → IfSome o holds
of_some None holds all = tt
of_some (Some at) holds all = all at refl

pub below_end : (p : PicturePlan) (address : ℕ) (at : SegmentAt) → segment_having (picture_segments p) address ≡ Some at
    → address < at.shape.first + at.shape.count
below_end p address at having = (having_is p p.segments 0 0 address at having).below

pub reads_current : (p : PicturePlan) (address : ℕ) (current : Option SegmentAt) (before next : UnitReader)
    (left above : Edge) (stored : List ℕ) (ctu : Ctu) (result : Result (Unit {0}) Breach)
    → current ≡ segment_having (picture_segments p) address → address < size_in_ctbs p.sps
    → StandsBefore p address before left
    → IfSome current (λ at. Leaves result at ctu next (read_over at address left above (between_of before stored [])))
    → IsReadByKnown p address → OfSegment p address (IsUnder p address above stored)
    → Reads result p address ctu next
reads_current p address current before next left above stored ctu result is inside stands leaves read under =
    let found = has_segment p address read in
    reads_known p address found.0 before next left above stored ctu result inside found.1 stands
    (subst (λ o. IfSome o (λ at. Leaves result at ctu next
    (read_over at address left above (between_of before stored [])))) (is ∙ found.1) leaves) read under

-- before the unit behind a known one
module _ (p : PicturePlan) (address : ℕ) (inside : address < size_in_ctbs p.sps) (known : KnownUnit)
    (is : units_known p address ≡ Some known) where
  module _ (small : (picture_shape p.sps p.pps).size ≤ 4) (ctu : Ctu) (read : ctu ≡ known.read) where
    abbrev edge : Edge
    edge = right_of (2 ^ (picture_shape p.sps p.pps).size) ctu

    left_next : OfSegment p (address + 1) (IsOnLeft p (address + 1) edge)
    left_next at having there =
        let shape = shape_of p (address + 1) at having in
        let same : ctu_of at.picture (known_to p (address + 1) (address + 1 - 1)) ≡ ctu =
        ap (ctu_of at.picture) (former_is p address inside known is) ∙ sym read in
        subst (λ (c : Ctu). IsLeftEdge at.picture (address + 1) c edge) (sym same)
        (subst (λ (s : PictureShape). IsLeftEdge s (address + 1) ctu edge) (sym shape)
        (right_is (picture_shape p.sps p.pps) (address + 1) ctu small))

pub stands_next : (p : PicturePlan) (address : ℕ) → address < size_in_ctbs p.sps → (ctu : Ctu) (reader : UnitReader)
    → IsReadKnown p address ctu reader → (picture_shape p.sps p.pps).size ≤ 4
    → StandsBefore p (address + 1) reader (right_of (2 ^ (picture_shape p.sps p.pps).size) ctu)
stands_next p address inside ctu reader read small = record {
  carried =
      carried_next p address inside read.known read.is reader read.same.contexts read.same.last
      (λ at having goes. read.same.engine);
  on_left = left_next p address inside read.known read.is small ctu read.same.read;
}
