use Rattle.taken_flights.proofs.Passes.{gathered, gathered_same, may_look, part_ended}
use Rattle.taken_flights.proofs.fan.take_alone.Goals as goal

pub take_share-count-requires-clause-may : goal.take_share-count-requires-clause-may
take_share-count-requires-clause-may g c = may_look c.requires.may c.split-other.ensures.new

pub join-requires-clause-own : goal.join-requires-clause-own
join-requires-clause-own g c =
    let same = gathered_same c.requires.may c.split-other.new.pass c.split-other.ensures.kept in
    (same.own, c.take_share-count.ensures.looked.own)

pub join-requires-clause-ended : goal.join-requires-clause-ended
join-requires-clause-ended g c =
    let same = gathered_same c.requires.may c.split-other.new.pass c.split-other.ensures.kept in
    (same.ended, part_ended c.args.pass.now c.split-other.ensures.new c.take_share-count.ensures.looked)

pub returns-clause-gathered : goal.returns-clause-gathered
returns-clause-gathered g c =
    gathered c.args.pass.now c.split-other.ensures.new c.take_share-count.ensures.looked c.split-other.ensures.kept
    (gathered_same c.requires.may c.split-other.new.pass c.split-other.ensures.kept) c.join.ensures
