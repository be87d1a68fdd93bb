use Rattle.std.proofs.Common.{◌≡◌, ◌-◌}
use Rattle.spec_cabac.specs.SpecFormats.{give}
use Rattle.spec_cabac.specs.Engine.{IsLive}
use Rattle.spec_cabac.specs.Bins.{read, unary, truncated}
use Rattle.spec_slice_data.specs.Inter.{merge_bin}
use Rattle.transform_tree.specs.CabacContexts.{state_of}
use Rattle.coding_quadtree.proofs.bins.merge_idx.Given as goal

abbrev pub invariant-loop-i : goal.invariant-loop-i
invariant-loop-i l = record {
  told : read (unary (give l.greatest) merge_bin l.i (l.greatest - l.i)) (state_of l.reader)
      ≡ read (truncated merge_bin l.greatest) (state_of l.fn.reader);
  live : IsLive l.reader.interval;
}
