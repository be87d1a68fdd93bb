use Rattle.std.proofs.Common.{rules}
use Rattle.flight_workers.proofs.Parts.{gathered, may_fan_on, may_work_on, split_for}
use Rattle.flight_workers.proofs.fan.+fn-work_off-join+arg2+work_off.Goals as goal

pub join-mine-requires-after_bounds : goal.join-mine-requires-after_bounds
join-mine-requires-after_bounds g t c κs within =
    let fan = may_fan_on c.requires.may {q = c.split-other.new.pass} c.in-Some.ensures.cases.0
    c.split-other.ensures.kept in
    let work = may_work_on c.requires.may {r = c.split-other.result} c.split-other.ensures.new in
    let count = c.in-Some.ensures.cases.1 in
    search rules

pub returns : goal.returns
returns g t c = record {
  gathered =
      gathered c.split-other.ensures.kept c.split-other.ensures.new c.join-mine.ensures.first.0
      c.join-mine.ensures.second c.join.ensures;
  splits =
      split_for c.args.start c.split-other.new.pass c.join-mine.result.0 c.join.new.pass c.args.others.now
      c.in-Some.ensures.cases.0 c.split-other.ensures.kept c.split-other.ensures.new c.join-mine.ensures.second
      c.join-mine.ensures.first.1 c.join.ensures;
}
