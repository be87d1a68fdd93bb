use Rattle.std.proofs.Common.{arith}
use Rattle.taken_flights.proofs.Passes.{gathered, gathered_same, may_look, may_take_one, part_ended}
use Rattle.taken_flights.proofs.pairs.take_by_two.Goals as goal

pub split-other-requires-clause-own : goal.split-other-requires-clause-own
split-other-requires-clause-own g c =
    (may_take_one c.requires.may c.split-one.new.pass c.split-one.ensures.kept).own

pub split-other-requires-clause-opens : goal.split-other-requires-clause-opens
split-other-requires-clause-opens g c =
    let may = may_take_one c.requires.may c.split-one.new.pass c.split-one.ensures.kept in
    let few = may.few in
    (may.opens, omega (arith, few))

pub take_seen-waited-requires-clause-one : goal.take_seen-waited-requires-clause-one
take_seen-waited-requires-clause-one g c = may_look c.requires.may c.split-one.ensures.new

pub take_seen-waited-requires-clause-other : goal.take_seen-waited-requires-clause-other
take_seen-waited-requires-clause-other g c =
    may_look (may_take_one c.requires.may c.split-one.new.pass c.split-one.ensures.kept) c.split-other.ensures.new

pub join-requires-clause-own : goal.join-requires-clause-own
join-requires-clause-own g c =
    let may = may_take_one c.requires.may c.split-one.new.pass c.split-one.ensures.kept in
    let same = gathered_same may c.split-other.new.pass c.split-other.ensures.kept in
    (same.own, c.take_seen-waited.ensures.other.own)

pub join-requires-clause-ended : goal.join-requires-clause-ended
join-requires-clause-ended g c =
    let may = may_take_one c.requires.may c.split-one.new.pass c.split-one.ensures.kept in
    let same = gathered_same may c.split-other.new.pass c.split-other.ensures.kept in
    (same.ended, part_ended c.split-one.new.pass c.split-other.ensures.new c.take_seen-waited.ensures.other)

pub join-requires-2-clause-own : goal.join-requires-2-clause-own
join-requires-2-clause-own g c =
    let may = may_take_one c.requires.may c.split-one.new.pass c.split-one.ensures.kept in
    let back = gathered c.split-one.new.pass c.split-other.ensures.new c.take_seen-waited.ensures.other
    c.split-other.ensures.kept (gathered_same may c.split-other.new.pass c.split-other.ensures.kept)
    {w = c.join.new.pass} c.join.ensures in
    (back.own, c.take_seen-waited.ensures.one.own)

pub join-requires-2-clause-ended : goal.join-requires-2-clause-ended
join-requires-2-clause-ended g c =
    let may = may_take_one c.requires.may c.split-one.new.pass c.split-one.ensures.kept in
    let back = gathered c.split-one.new.pass c.split-other.ensures.new c.take_seen-waited.ensures.other
    c.split-other.ensures.kept (gathered_same may c.split-other.new.pass c.split-other.ensures.kept)
    {w = c.join.new.pass} c.join.ensures in
    (back.ended, part_ended c.args.pass.now c.split-one.ensures.new c.take_seen-waited.ensures.one)

pub returns-clause-gathered : goal.returns-clause-gathered
returns-clause-gathered g c =
    let may = may_take_one c.requires.may c.split-one.new.pass c.split-one.ensures.kept in
    let back = gathered c.split-one.new.pass c.split-other.ensures.new c.take_seen-waited.ensures.other
    c.split-other.ensures.kept (gathered_same may c.split-other.new.pass c.split-other.ensures.kept)
    {w = c.join.new.pass} c.join.ensures in
    gathered c.args.pass.now c.split-one.ensures.new c.take_seen-waited.ensures.one c.split-one.ensures.kept back
    c.join-2.ensures
