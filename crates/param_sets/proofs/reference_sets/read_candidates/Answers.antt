use Rattle.std.proofs.lemmas.Result.{err_from_is_err_and}
use Rattle.std.proofs.Common.{◌^◌, ◌<◌}
use Rattle.spec_formats.proofs.Lists.{length-push, All-push}
use Rattle.header_fields.proofs.Loops.{repeated_is_loop, goes_on, refuses, ends}
use Rattle.header_types.specs.declared.sps.LongTermCandidate.{LongTermCandidate}
use Rattle.spec_parameter_sets.specs.SequenceParameterSet.{long_term_candidate}
use Rattle.param_sets.proofs.reference_sets.read_candidates.Goals as goal

pub loop-preserved : goal.loop-preserved
loop-preserved c = rw c.in_ok-push.ensures.ok (record {
  at =
      goes_on (repeated_is_loop c.args.reader.now.rules (long_term_candidate c.args.lsb_bits) c.args.count)
      c.loop.counter c.loop.candidates c.in_ok-read_long_term_candidate.field-0 _ c.loop.reader
      c.read_long_term_candidate.new.reader c.loop.invariant.at c.loop-test.true
      c.in_ok-read_long_term_candidate.ensures.value;
  len = length-push c.loop.candidates c.in_ok-read_long_term_candidate.field-0 c.loop.counter c.loop.invariant.len;
  in_range =
      All-push (λ (x : LongTermCandidate). x.lt_ref_pic_poc_lsb_sps < 2 ^ c.args.lsb_bits) c.loop.candidates
      c.in_ok-read_long_term_candidate.field-0 c.loop.invariant.in_range
      c.in_ok-read_long_term_candidate.ensures.in_range;
})

pub returns-in_err-read_long_term_candidate-clause-value : goal.returns-in_err-read_long_term_candidate-clause-value
returns-in_err-read_long_term_candidate-clause-value c =
    let p = err_from_is_err_and c.from_residual.result c.from_residual.ensures.1 in
    rw (p.1, p.2) (refuses (repeated_is_loop c.args.reader.now.rules (long_term_candidate c.args.lsb_bits) c.args.count)
    c.loop.counter c.loop.candidates c.in_err-read_long_term_candidate.field-0.0 _ c.loop.reader
    c.read_long_term_candidate.new.reader c.loop.invariant.at c.loop-test.true
    c.in_err-read_long_term_candidate.ensures.value)

pub returns-clause-value : goal.returns-clause-value
returns-clause-value c =
    ends (repeated_is_loop c.args.reader.now.rules (long_term_candidate c.args.lsb_bits) c.args.count) c.loop.counter
    c.loop.candidates _ c.loop.reader c.loop.invariant.at c.loop-test.false
