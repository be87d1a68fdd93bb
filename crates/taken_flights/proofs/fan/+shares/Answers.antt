use Rattle.std.proofs.Common.{◌≡◌, ◌-◌, ◌++◌, length, refl, arith}
use Rattle.taken_flights.proofs.Lists.{whole_of}
use Rattle.taken_flights.proofs.Parts.{back_parts, few_all, few_behind, front_parts, goes_on, stops_in_front}
use Rattle.taken_flights.proofs.Parts.{taken_of}
use Rattle.taken_flights.proofs.Passes.{gathered, may_look, may_take_more}
use Rattle.taken_flights.proofs.fan.+shares.Goals as goal

pub fan-overflow_cast-next : goal.fan-overflow_cast-next
fan-overflow_cast-next g t c =
    let few = few_all c.requires.may.flight c.requires.parts c.share_of-share.result c.share_of-share.ensures.inside in
    omega (arith, few)

pub fan-overflow_add-next : goal.fan-overflow_add-next
fan-overflow_add-next g t c =
    let value = c.share_of-share.ensures.value in
    let few = few_behind c.requires.may.flight c.requires.parts c.share_of-share.result (omega (arith, value))
    c.share_of-share.ensures.inside in
    omega (arith, few)

pub fan-take_both-more-requires-clause-look : goal.fan-take_both-more-requires-clause-look
fan-take_both-more-requires-clause-look g t c κs within =
    may_look c.requires.may c.split-other.ensures.new

pub fan-take_both-more-requires-clause-mine : goal.fan-take_both-more-requires-clause-mine
fan-take_both-more-requires-clause-mine g t c κs within =
    let here = c.split_at.result.0.now in
    let there = c.split_at.result.1.now in
    let mine = c.split_at_mut-mine.result.0.now in
    let whole : c.args.plans.now ≡ here ++ there =
    whole_of c.args.plans.now here there c.share_of-share.result c.split_at.ensures.front c.split_at.ensures.back in
    let front_len = c.split_at.ensures.front_len in
    let mine_len = c.split_at_mut-mine.ensures.front_len in
    front_parts here there mine c.split_at_mut-mine.result.1.now (omega (arith, front_len, mine_len)) refl whole
    c.split_at_mut-mine.ensures.value c.requires.parts

pub fan-take_both-more-requires-clause-may : goal.fan-take_both-more-requires-clause-may
fan-take_both-more-requires-clause-may g t c κs within =
    let many = c.requires.may.some in
    let other = c.if-workers-eq1.false in
    may_take_more c.requires.may c.split-other.new.pass c.split-other.ensures.kept (c.args.workers - 1)
    (omega (arith, many, other)) (omega (arith, many))

pub fan-take_both-more-requires-clause-rest : goal.fan-take_both-more-requires-clause-rest
fan-take_both-more-requires-clause-rest g t c κs within =
    let here = c.split_at.result.0.now in
    let there = c.split_at.result.1.now in
    let mine = c.split_at_mut-mine.result.0.now in
    let whole : c.args.plans.now ≡ here ++ there =
    whole_of c.args.plans.now here there c.share_of-share.result c.split_at.ensures.front c.split_at.ensures.back in
    let front_len = c.split_at.ensures.front_len in
    let back_len = c.split_at.ensures.back_len in
    let mine_len = c.split_at_mut-mine.ensures.front_len in
    let rest_len = c.split_at_mut-mine.ensures.back_len in
    let count = c.requires.parts.count in
    back_parts here there mine c.split_at_mut-mine.result.1.now (omega (arith, front_len, mine_len))
    (omega (arith, mine_len)) whole c.split_at_mut-mine.ensures.value
    (omega (arith, front_len, back_len, mine_len, rest_len, count)) c.requires.parts

pub fan-overflow_add-result : goal.fan-overflow_add-result
fan-overflow_add-result g t c =
    let few = few_all c.requires.may.flight c.requires.parts (length c.args.parts.now) (omega arith) in
    let front = c.take_both-more.ensures.mine.few in
    let back = c.take_both-more.ensures.rest.few in
    let mine_len = c.split_at_mut-mine.ensures.front_len in
    let rest_len = c.split_at_mut-mine.ensures.back_len in
    omega (arith, few, front, back, mine_len, rest_len)

pub fan-returns-then-taken-share-clause-gathered :
    goal.fan-returns-then-taken-share-clause-gathered
fan-returns-then-taken-share-clause-gathered g t c =
    gathered c.args.pass.now c.split-other.ensures.new c.take_both-more.ensures.looked c.split-other.ensures.kept
    c.take_both-more.ensures.gathered c.join.ensures

pub fan-returns-then-taken-share-clause-taken : goal.fan-returns-then-taken-share-clause-taken
fan-returns-then-taken-share-clause-taken g t c =
    let here = c.split_at.result.0.now in
    let there = c.split_at.result.1.now in
    let mine = c.split_at_mut-mine.result.0.now in
    let rest = c.split_at_mut-mine.result.1.now in
    let whole : c.args.plans.now ≡ here ++ there =
    whole_of c.args.plans.now here there c.share_of-share.result c.split_at.ensures.front c.split_at.ensures.back in
    let front_len = c.split_at.ensures.front_len in
    let mine_len = c.split_at_mut-mine.ensures.front_len in
    let test = c.if-taken-share.true in
    taken_of whole c.split_at_mut-mine.ensures.value
    (stops_in_front here there mine rest (omega (arith, front_len, mine_len)) (omega (arith, mine_len))
    c.take_both-more.ensures.mine c.take_both-more.ensures.rest (omega (arith, test, mine_len)))

pub fan-returns-else-taken-share-clause-gathered :
    goal.fan-returns-else-taken-share-clause-gathered
fan-returns-else-taken-share-clause-gathered g t c =
    gathered c.args.pass.now c.split-other.ensures.new c.take_both-more.ensures.looked c.split-other.ensures.kept
    c.take_both-more.ensures.gathered c.join.ensures

pub fan-returns-else-taken-share-clause-taken : goal.fan-returns-else-taken-share-clause-taken
fan-returns-else-taken-share-clause-taken g t c =
    let here = c.split_at.result.0.now in
    let there = c.split_at.result.1.now in
    let mine = c.split_at_mut-mine.result.0.now in
    let rest = c.split_at_mut-mine.result.1.now in
    let whole : c.args.plans.now ≡ here ++ there =
    whole_of c.args.plans.now here there c.share_of-share.result c.split_at.ensures.front c.split_at.ensures.back in
    let front_len = c.split_at.ensures.front_len in
    let mine_len = c.split_at_mut-mine.ensures.front_len in
    let test = c.if-taken-share.false in
    taken_of whole c.split_at_mut-mine.ensures.value
    (goes_on here there mine rest (omega (arith, front_len, mine_len)) (omega (arith, mine_len))
    c.take_both-more.ensures.mine c.take_both-more.ensures.rest (omega (arith, test, mine_len)))
