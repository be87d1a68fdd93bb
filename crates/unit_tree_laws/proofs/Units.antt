-- A unit in two readings that agree.
use Rattle.std.proofs.Common.{◌≡◌, ℕ, ◌-◌, ◌^◌, List, [], ◌∷◌, ◌++◌, Result, Ok, Err, refl, ap, sym, ◌∙◌, get_or}
use Rattle.hv_base.specs.declared.breach.Breach.{Breach}
use Rattle.ctu_records.specs.Tree.{Ctu}
use Rattle.spec_slice_data.specs.SpecCabac.{State}
use Rattle.spec_slice_data.specs.declared.syntax.CtuSyntax.{CtuSyntax}
use Rattle.spec_slice_data.specs.declared.syntax.End.{End}
use Rattle.spec_slice_data.specs.Segment.{PictureShape, SegmentShape, Between, before_unit, no_group, nothing_read}
use Rattle.spec_slice_data.specs.Segment.{read_unit, then_unit, unit_of, unit_step}
use Rattle.unit_trees.specs.declared.edges.Edge.{Edge}
use Rattle.unit_trees.specs.Edges.{bottom_of, right_of}
use Rattle.unit_trees.specs.Units.{IsBeside, then_next, unit_over}
use Rattle.unit_trees.proofs.Steps.{next_is}
use Rattle.unit_tree_laws.specs.Agreement.{Agree, IsSameStep}
use Rattle.unit_tree_laws.proofs.Starts.{IsSameStart, StartsSame, starts_same}

-- a unit of these units
unit_at : PictureShape → List Ctu → ℕ → Ctu
unit_at picture units address = get_or units address (nothing_read picture.size no_group)

added_same : (picture : PictureShape) (address : ℕ) (a b x y : Between) (read : Result ((Ctu × End) × State) Breach)
    → StartsSame a b x y
    → IsSameStep a b (then_next picture address x read) (then_next picture address y read)
added_same picture address a b x y (Err e) s = refl
added_same picture address a b x y (Ok r) s = record {
  ctu = r.0.0;
  units_a = ap (λ units. units ++ r.0.0 ∷ []) s.units_a;
  units_b = ap (λ units. units ++ r.0.0 ∷ []) s.units_b;
  engine = refl;
  contexts = refl;
  last = refl;
}

read_same : (common : CtuSyntax) (picture : PictureShape) (segment : SegmentShape) (address : ℕ) (a b x y : Between)
    → Agree picture segment address a b → StartsSame a b x y
    → IsSameStep a b (read_unit common picture segment address x) (read_unit common picture segment address y)
unfolding unit_at
read_same common picture segment address a b x y h s =
    let n = 2 ^ picture.size in
    let left : Edge = right_of n (unit_of picture a (address - 1)) in
    let above : Edge = bottom_of n (unit_of picture a (address - picture.width)) in
    let beside_x : IsBeside picture segment address x left above = record {
      on_left = λ e. ap (λ units. right_of n (unit_at picture units (address - 1))) (sym s.units_a);
      on_top = λ e. ap (λ units. bottom_of n (unit_at picture units (address - picture.width))) (sym s.units_a);
    } in
    let beside_y : IsBeside picture segment address y left above = record {
      on_left = λ e. h.left e ∙ ap (λ units. right_of n (unit_at picture units (address - 1))) (sym s.units_b);
      on_top = λ e.
          h.above e ∙ ap (λ units. bottom_of n (unit_at picture units (address - picture.width))) (sym s.units_b);
    } in
    let read : Result ((Ctu × End) × State) Breach =
    unit_over common picture segment address left above y.last (y.engine, y.contexts) in
    let same : unit_over common picture segment address left above x.last (x.engine, x.contexts) ≡ read =
    rw (s.engine, s.contexts, s.last) refl in
    let of_x : read_unit common picture segment address x ≡ then_next picture address x read =
    next_is common picture segment address x left above beside_x ∙ ap (then_next picture address x) same in
    let of_y : read_unit common picture segment address y ≡ then_next picture address y read =
    next_is common picture segment address y left above beside_y in
    rw (of_x, of_y) (added_same picture address a b x y read s)

then_same : (common : CtuSyntax) (picture : PictureShape) (segment : SegmentShape) (address : ℕ) (a b : Between)
    (start_a start_b : Result Between Breach)
    → Agree picture segment address a b → IsSameStart a b start_a start_b
    → IsSameStep a b (then_unit common picture segment address start_a)
    (then_unit common picture segment address start_b)
then_same common picture segment address a b (Ok x) (Ok y) h s =
    read_same common picture segment address a b x y h s
then_same common picture segment address a b (Err e) (Err f) h s = s
then_same common picture segment address a b (Ok x) (Err f) h s = let no : ⊥ = s in absurd no
then_same common picture segment address a b (Err e) (Ok y) h s = let no : ⊥ = s in absurd no

pub steps_same : (common : CtuSyntax) (picture : PictureShape) (segment : SegmentShape) (address : ℕ) (a b : Between)
    → Agree picture segment address a b
    → IsSameStep a b (unit_step common picture segment address a) (unit_step common picture segment address b)
steps_same common picture segment address a b h =
    then_same common picture segment address a b (before_unit picture segment address a)
    (before_unit picture segment address b) h (starts_same picture segment address a b h)
