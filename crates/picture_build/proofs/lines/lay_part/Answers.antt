use Rattle.std.proofs.Common.{◌<◌, ◌≤◌, ◌-◌, ◌⊎◌, rules, arith}
use Rattle.unit_build.specs.CtuBuild.{held}
use Rattle.picture_build.proofs.Planes.{part_height, part_width}
use Rattle.picture_build.proofs.Rows.{laid_all, laid_more}
use Rattle.std.proofs.lemmas.Bool.Decides.{nat_tests}
use Rattle.picture_build.proofs.lines.lay_part.Goals as goal

pub loop-line-init : goal.loop-line-init
loop-line-init c = record {
  width = part_width _ _ _ _ c.requires.part c.requires.sides;
  height = part_height _ _ _ _ c.requires.part c.requires.sides;
  sides = c.requires.sides;
  told = λ i j k. grind (arith, nat_tests);
}

pub loop-line-preserved : goal.loop-line-preserved
loop-line-preserved c =
    let fits : c.loop-line.line < c.args.part.height - c.args.part.y = search rules in
    let narrow : c.min-columns.result ≤ c.args.part.side = search rules in
    let within : c.min-columns.result ≤ c.args.part.width - c.args.part.x = search rules in
    let all : (c.args.part.side ≤ c.min-columns.result) ⊎ (c.args.part.width - c.args.part.x ≤ c.min-columns.result) =
    search rules in
    record {
      width = part_width _ _ _ _ c.requires.part (c.lay.ensures.sides _ _ c.loop-line.invariant.sides);
      height = part_height _ _ _ _ c.requires.part (c.lay.ensures.sides _ _ c.loop-line.invariant.sides);
      sides = c.lay.ensures.sides _ _ c.loop-line.invariant.sides;
      told =
          laid_more c.args.part (held c.args.samples.now) c.loop-line.line c.min-columns.result c.line-built.result.now
          _ _ _ narrow within all
          c.requires.room.small c.requires.room.inside fits c.line-built.ensures.count c.line-built.ensures.value
          c.loop-line.invariant.told c.lay.ensures.samples;
    }

pub returns-clause-value : goal.returns-clause-value
returns-clause-value c =
    let few : c.loop-line.line ≤ c.args.part.side = search rules in
    let all : (c.args.part.side ≤ c.loop-line.line) ⊎ (c.args.part.height - c.args.part.y ≤ c.loop-line.line) =
    search rules in
    λ i j k. laid_all c.args.part c.loop-line.line i j k _ _ _ few all (c.loop-line.invariant.told i j k)
