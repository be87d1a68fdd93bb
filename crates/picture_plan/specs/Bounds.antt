-- How much a planner holds.
use Rattle.std.specs.Prelude.{◌≤◌, length, IfSome}
use Rattle.header_types.specs.declared.former.Former.{Former}
use Rattle.header_types.specs.SequenceParameterSets.{highest_ordering}
use Rattle.spec_picture_plan.specs.SpecOutputOrder.{size_of}
use Rattle.plan_types.specs.declared.between.Between.{Between}
use Rattle.picture_headers.specs.Bounds.{KeepsFew}
use Rattle.picture_plan.specs.declared.change.Change.{Change}
use Rattle.picture_plan.specs.declared.change.Change.TheVariants as change

-- the buffer between two pictures holds no more than the sequence parameter set of the last one says, and 16 at most
pub record IsWithin (f : Former) : Type 0 where
  pub size : IfSome f.active (λ sps. length f.dpb ≤ size_of (highest_ordering sps.order.sub_layer_ordering))
  pub few : length f.dpb ≤ 16

-- what is known between two units of a stream that a planner read
pub record IsBetween (s : Between) : Type 0 where
  pub decoded : IsWithin s.former
  pub begun : IfSome s.picture KeepsFew

-- of what a slice segment opens
abbrev pub ChangesFew : Change → Type 0
ChangesFew (change.Opened p) = KeepsFew p
ChangesFew other = Unit {0}
