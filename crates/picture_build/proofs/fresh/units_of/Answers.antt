use Rattle.std.proofs.Common.{◌≤◌, ◌*◌, ◌^◌, ap, subst, ◌∙◌}
use Rattle.picture_build.proofs.LaidUnits.{few_units, rows_cover, unit_inside}
use Rattle.picture_build.proofs.fresh.units_of.Goals as goal

pub returns-clause-all : goal.returns-clause-all
returns-clause-all c =
    let rows = c.div_ceil-rows.result in
    let cover = rows_cover c.down.result c.side.result rows c.side.ensures.some c.div_ceil-rows.ensures in
    unit_inside c.args.layout rows _ c.side.ensures.shape
    (subst (λ n. n ≤ rows * 2 ^ c.args.layout.size) c.down.ensures.value
    (subst (λ n. c.down.result ≤ rows * n) c.side.ensures.value cover))
    (ap (λ n. n * rows) (c.from.ensures ∙ c.width.ensures))

pub returns-clause-few : goal.returns-clause-few
returns-clause-few c =
    few_units c.args.layout.width c.down.result c.side.result c.div_ceil-rows.result _ c.side.ensures.shape.few
    c.down.ensures.few c.div_ceil-rows.ensures (ap (λ n. n * c.div_ceil-rows.result) (c.from.ensures ∙ c.width.ensures))
