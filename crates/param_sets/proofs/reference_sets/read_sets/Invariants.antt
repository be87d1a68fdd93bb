use Rattle.std.proofs.Common.{◌≡◌, ◌+◌, ◌-◌, [], All, length}
use Rattle.header_fields.proofs.Loops.{IsBefore}
use Rattle.header_types.specs.ReferencePictures.{IsStRps}
use Rattle.spec_parameter_sets.specs.SequenceParameterSet.{sets_behind}
use Rattle.param_sets.proofs.reference_sets.read_sets.Given as goal

abbrev pub invariant-loop-index : goal.invariant-loop-index
invariant-loop-index l = record {
  at : IsBefore l.fn.reader l.reader (sets_behind (l.count - l.index) l.count l.greatest l.sets)
      (sets_behind l.count l.count l.greatest []);
  len : length l.sets ≡ l.index;
  in_range : All (IsStRps (14 + l.index)) l.sets;
}
