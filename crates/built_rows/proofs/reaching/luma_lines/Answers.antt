use Rattle.std.proofs.Common.{ap, arith}
use Rattle.sample_words.specs.declared.sizes.FlightSizes.{FlightSizes}
use Rattle.built_rows.proofs.Reach.{lines_are}
use Rattle.built_rows.proofs.reaching.luma_lines.Goals as goal

pub returns-clause-value : goal.returns-clause-value
returns-clause-value c facts is =
    let e = c.sizes-sizes.ensures.value in
    lines_are facts c.args.picture.now _ is (ap (λ (s : FlightSizes). s.height) e)
    (ap (λ (s : FlightSizes). s.ctb_log2) e)

pub returns-clause-in_range : goal.returns-clause-in_range
returns-clause-in_range c =
    let e = c.sizes-sizes.ensures.there in
    let some = e.some_height in
    let most = e.height in
    let whole = e.whole_rows in
    let least = e.least_unit in
    let greatest = e.greatest_unit in
    record {
      some = omega (arith, some);
      height = most;
      even = omega (arith, whole);
      some_log2 = omega (arith, least);
      log2 = greatest;
    }
