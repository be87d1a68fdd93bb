use Rattle.std.proofs.Common.{◌<◌, arith, refl, ◌∙◌}
use Rattle.sao_filter.proofs.Lane.{given, least, minus, plus, shifted, splat, times}
use Rattle.sao_filter.proofs.lanes.places.Goals as goal

pub returns-clause-long : goal.returns-clause-long
returns-clause-long c =
    let lt : 0 < 8 = omega arith in
    let bands =
    plus lt (shifted lt (given c.fits-samples.0 refl) (splat lt c.args.shift)) (splat lt c.args.before) in
    let turns = times lt (shifted lt bands (splat lt 5)) (splat lt 32) in
    let l = least lt (minus lt bands turns (omega arith) (omega arith)) (splat lt 4) in
    l.long

pub returns-clause-value : goal.returns-clause-value
returns-clause-value c k lt =
    let bands =
    plus lt (shifted lt (given c.fits-samples.0 refl) (splat lt c.args.shift)) (splat lt c.args.before) in
    let turns = times lt (shifted lt bands (splat lt 5)) (splat lt 32) in
    let l = least lt (minus lt bands turns (omega arith) (omega arith)) (splat lt 4) in
    l.is ∙ omega arith
