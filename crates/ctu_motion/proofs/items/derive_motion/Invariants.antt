use Rattle.std.proofs.Common.{◌≡◌, drop}
use Rattle.std.specs.List.{All, fold}
use Rattle.ctu_motion.specs.Held.{held, held_beneath}
use Rattle.spec_motion.specs.Units.{IsPlacedItem, item_derived}
use Rattle.ctu_motion.proofs.items.derive_motion.Given as goal

abbrev pub invariant-loop-k : goal.invariant-loop-k
invariant-loop-k l = record {
  places : All IsPlacedItem l.items
      → fold (item_derived l.slice (held_beneath l.fn.motion)) (held l.motion) (drop l.k l.items)
      ≡ fold (item_derived l.slice (held_beneath l.fn.motion)) (held l.fn.motion) l.items;
  beneath : held_beneath l.motion ≡ held_beneath l.fn.motion;
}
