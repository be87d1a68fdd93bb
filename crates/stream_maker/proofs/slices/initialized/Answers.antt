use Rattle.std.proofs.Common.{◌<◌, refl, arith, slice_index}
use Rattle.std.proofs.lemmas.List.Elements.{All-replicate}
use Rattle.std.proofs.lemmas.List.FromFn.{fill_by_all}
use Rattle.spec_cabac.specs.Contexts.{first_context}
use Rattle.stream_maker.proofs.slices.initialized.Goals as goal

pub loop-i-init : goal.loop-i-init
loop-i-init c =
    let zero_small : 0 < 126 = omega arith in
    record {
      count = refl;
      told = λ k h. absurd (omega arith);
      small = All-replicate (λ value. value < 126) 154 0 zero_small;
    }

pub returns-clause-value : goal.returns-clause-value
returns-clause-value c =
    fill_by_all (λ i. first_context 26 (slice_index c.args.init_values i)) c.loop-i.values 154 0
    c.loop-i.invariant.count (λ k h. c.loop-i.invariant.told k (omega arith))
