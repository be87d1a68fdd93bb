use Rattle.std.proofs.Common.{◌≡◌, ◌-◌, ◌^◌, ◌<◌, All, length}
use Rattle.spec_formats.specs.Fields.{repeated}
use Rattle.header_fields.proofs.Loops.{IsBehind}
use Rattle.header_types.specs.declared.sps.LongTermCandidate.{LongTermCandidate}
use Rattle.spec_parameter_sets.specs.SequenceParameterSet.{long_term_candidate}
use Rattle.param_sets.proofs.reference_sets.read_candidates.Given as goal

abbrev pub invariant-loop : goal.invariant-loop
invariant-loop l = record {
  at : IsBehind l.fn.reader l.reader l.candidates (repeated (l.count - l.counter) (long_term_candidate l.lsb_bits))
      (repeated l.count (long_term_candidate l.lsb_bits));
  len : length l.candidates ≡ l.counter;
  in_range : All (λ (c : LongTermCandidate). c.lt_ref_pic_poc_lsb_sps < 2 ^ l.lsb_bits) l.candidates;
}
