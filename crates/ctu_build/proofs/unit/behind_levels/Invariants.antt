use Rattle.std.proofs.Common.{◌≡◌, drop, List}
use Rattle.ctu_records.specs.declared.item.Item.{Item}
use Rattle.spec_reconstruction.specs.declared.format.UnitFormat.{UnitFormat}
use Rattle.spec_reconstruction.specs.Inter.{InterUnit}
use Rattle.spec_reconstruction.specs.Unit.{Building, items_built}
use Rattle.ctu_build.proofs.unit.behind_levels.Given as goal

abbrev pub invariant-loop-k : goal.invariant-loop-k
invariant-loop-k l = record {
  told : (format : UnitFormat) (inter : InterUnit) (all : List Item) (building : Building)
      → items_built format inter all (drop l.k l.items) building
      ≡ items_built format inter all (drop l.from l.items) building;
}
