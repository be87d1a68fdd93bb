-- A unit over a view as the next step of reading a slice segment.
use Rattle.std.specs.Prelude.{◌≡◌, ℕ, ◌+◌, ◌-◌, ◌*◌, ◌^◌, ◌<◌, true, [], ◌∷◌, ◌++◌, Result, Ok, Err}
use Rattle.hv_base.specs.declared.breach.Breach.{Breach}
use Rattle.ctu_records.specs.declared.side.Side.{Side}
use Rattle.ctu_records.specs.declared.offset.Sao.{Sao}
use Rattle.ctu_records.specs.Tree.{Ctu}
use Rattle.spec_cabac.specs.Bins.{State}
use Rattle.spec_slice_data.specs.declared.syntax.CtuSyntax.{CtuSyntax}
use Rattle.spec_slice_data.specs.declared.syntax.End.{End}
use Rattle.spec_slice_data.specs.Segment.{PictureShape, SegmentShape, Between, begins_row, is_last, side_of}
use Rattle.spec_slice_data.specs.Segment.{stored_behind, syntax_at, unit_of}
use Rattle.coding_quadtree.specs.declared.unit_place.UnitPlace.{UnitPlace}
use Rattle.coding_quadtree.specs.Beside.{on_left, on_top}

-- the place and the syntax are those of the unit at this address, and a view tells of the units beside it what was read
-- of them so far
pub record IsNext (common : CtuSyntax) (picture : PictureShape) (segment : SegmentShape) (address : ℕ)
    (between : Between) (syntax : CtuSyntax) (place : UnitPlace) (side_at : ℕ → ℕ → Side)
    (sao_at : ℕ → Sao) : Type 0 where
  pub reads : syntax ≡ syntax_at common picture segment address
  pub at : place.address ≡ address
  pub size : place.size ≡ picture.size
  pub width : place.width ≡ picture.width
  pub qp : place.last_qp ≡ between.last
  pub last : place.is_last ≡ is_last segment address
  pub subset : place.ends_subset ≡ begins_row picture (address + 1)
  pub left : (k : ℕ) → k < on_left syntax place
      → side_at (place.x - 1) (place.y + 4 * k)
      ≡ side_of (unit_of picture between (address - 1)) (2 ^ picture.size - 1) k
  pub above : (k : ℕ) → k < on_top syntax place
      → side_at (place.x + 4 * k) (place.y - 1)
      ≡ side_of (unit_of picture between (address - picture.width)) k (2 ^ picture.size - 1)
  pub left_sao : syntax.has_left ≡ true → sao_at (address - 1) ≡ (unit_of picture between (address - 1)).sao
  pub above_sao : syntax.has_above ≡ true
      → sao_at (address - picture.width) ≡ (unit_of picture between (address - picture.width)).sao

-- what a unit, what follows it and the state behind it make of what stood before it
abbrev pub next_between : PictureShape → ℕ → Between → Ctu → State → Between
next_between picture address between ctu after = record {
  engine = after.0;
  contexts = after.1;
  stored = stored_behind picture address after.1 between.stored;
  last = ctu.quantization.last;
  units = between.units ++ ctu ∷ [];
}

-- a step of reading gives this unit and this state, or the same rule broken
abbrev pub StepsTo : PictureShape → ℕ → Between → Result End Breach → Ctu → State → Result Between Breach → Type 0
StepsTo picture address between (Ok follows) ctu after step = step ≡ Ok (next_between picture address between ctu after)
StepsTo picture address between (Err e) ctu after step = step ≡ Err e
