use Rattle.std.proofs.Common.{◌≡◌, ◌+◌, ◌-◌, ℕ, ap, arith, ◌∙◌}
use Rattle.spec_sample_adaptive_offset.specs.Offsets.{edge_moved}
use Rattle.sao_filter.specs.Row.{at}
use Rattle.sao_filter.proofs.Lane.{loaded}
use Rattle.sao_filter.proofs.Laid.{eight_laid}
use Rattle.sao_filter.proofs.Moved.{edge_is}
use Rattle.sao_filter.proofs.runs.lay_eight.Goals as goal

pub returns-clause-value : goal.returns-clause-value
returns-clause-value c = λ depth offsets are.
    let run = c.args.run in
    let beside = c.args.beside in
    let lines = c.args.lines.now in
    let k = c.args.k in
    eight_laid (run.first + k) run.first c.args.out.now _
    (λ (i : ℕ). edge_moved depth offsets (at lines (run.from + i)) (at lines (beside.first + i))
    (at lines (beside.second + i))) (omega arith) (omega arith) c.eight_moved.ensures.long
    (λ i lt.
    let e : run.first + k + i - run.first ≡ k + i = omega arith in
    let s = loaded lt lines (run.from + k) (omega arith) in
    let a = loaded lt lines (beside.first + k) (omega arith) in
    let b = loaded lt lines (beside.second + k) (omega arith) in
    let small = c.type_inv.lines (run.from + k + i) in
    let es : run.from + k + i ≡ run.from + (run.first + k + i - run.first) = omega arith in
    let ea : beside.first + k + i ≡ beside.first + (run.first + k + i - run.first) = omega arith in
    let eb : beside.second + k + i ≡ beside.second + (run.first + k + i - run.first) = omega arith in
    c.eight_moved.ensures.value i lt
    ∙ edge_is depth offsets c.args.moves.now.table c.args.moves.now.greatest _ _ _ _ _ _ are
    (omega (arith, s.is, small.fits))
    (s.is ∙ ap (λ (n : ℕ). at lines n) es) (a.is ∙ ap (λ (n : ℕ). at lines n) ea)
    (b.is ∙ ap (λ (n : ℕ). at lines n) eb))
