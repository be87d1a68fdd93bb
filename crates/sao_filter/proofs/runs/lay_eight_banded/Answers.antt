use Rattle.std.proofs.Common.{◌≡◌, ◌+◌, ◌-◌, ℕ, ap, arith, ◌∙◌}
use Rattle.spec_sample_adaptive_offset.specs.Offsets.{band_moved}
use Rattle.sao_filter.specs.Row.{at}
use Rattle.sao_filter.proofs.Lane.{loaded}
use Rattle.sao_filter.proofs.Laid.{eight_laid}
use Rattle.sao_filter.proofs.Moved.{banded_is}
use Rattle.sao_filter.proofs.runs.lay_eight_banded.Goals as goal

pub returns-clause-value : goal.returns-clause-value
returns-clause-value c = λ depth position offsets are.
    let run = c.args.run in
    let lines = c.args.lines.now in
    let k = c.args.k in
    eight_laid (run.first + k) run.first c.args.out.now _
    (λ (i : ℕ). band_moved depth position offsets (at lines (run.from + i))) (omega arith) (omega arith)
    c.eight_banded.ensures.long
    (λ i lt.
    let s = loaded lt lines (run.from + k) (omega arith) in
    let small = c.type_inv.lines (run.from + k + i) in
    let es : run.from + k + i ≡ run.from + (run.first + k + i - run.first) = omega arith in
    c.eight_banded.ensures.value i lt
    ∙ banded_is depth position offsets c.args.moves.now _ _ are (omega (arith, s.is, small.fits))
    (s.is ∙ ap (λ (n : ℕ). at lines n) es))
