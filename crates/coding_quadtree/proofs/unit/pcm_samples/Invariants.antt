use Rattle.std.proofs.Common.{◌≡◌, ◌+◌, ◌-◌, ◌≤◌, length}
use Rattle.spec_cabac.specs.Bins.{read, times}
use Rattle.spec_slice_data.specs.Tree.{pcm_sample, pcm_samples}
use Rattle.transform_tree.specs.CabacContexts.{state_of}
use Rattle.coding_quadtree.proofs.unit.pcm_samples.Given as goal

abbrev pub invariant-loop-i : goal.invariant-loop-i
invariant-loop-i l = record {
  told : read (times l.i (l.count - l.i) (pcm_sample l.bits) l.records) (state_of l.reader)
      ≡ read (pcm_samples l.bits l.count l.fn.records) (state_of l.fn.reader);
  grown : length l.records.items ≤ length l.fn.records.items + l.i;
}
