use Rattle.std.proofs.Common.{◌≡◌, ◌≤◌, ◌-◌, drop, length}
use Rattle.ctu_build.specs.Building.{building}
use Rattle.ctu_build.specs.Held.{held}
use Rattle.ctu_build.specs.Inter.{inter_of}
use Rattle.spec_reconstruction.specs.Sound.{ArePulses, AreSound, IsSound}
use Rattle.std.specs.List.{All}
use Rattle.spec_reconstruction.specs.Unit.{items_built, before_unit}
use Rattle.ctu_build.proofs.unit.build_items.Given as goal

abbrev pub invariant-loop-k : goal.invariant-loop-k
invariant-loop-k g l = record {
  mode : l.coding.chroma_mode ≤ 34;
  told : AreSound l.source.format.now l.source.records.now.items → All (IsSound l.source.format.now) l.items
      → ArePulses l.source.format.now l.items
      → items_built l.source.format.now (inter_of l.source.inter (g.V.RefWindow.reference_at l.fn.view))
      l.source.records.now.items (drop l.k l.items) (building l.coding (held l.samples))
      ≡ items_built l.source.format.now (inter_of l.source.inter (g.V.RefWindow.reference_at l.fn.view))
      l.source.records.now.items l.items (before_unit (held l.fn.samples));
  same : g.V.RefWindow.reference_at l.view ≡ g.V.RefWindow.reference_at l.fn.view;
}

abbrev pub decreases-loop-k : goal.decreases-loop-k
decreases-loop-k g l = length l.items - l.k
