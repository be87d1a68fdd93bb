use Rattle.std.proofs.Common.{length, refl, arith}
use Rattle.std.proofs.lemmas.Option.{slice_get-get_or, slice_get_read}
use Rattle.taken_flights.proofs.Parts.{all_taken, few_all, few_parts, none_taken, one_more, taken_to}
use Rattle.taken_flights.proofs.Passes.{looked_on, looked_same, may_still}
use Rattle.taken_flights.proofs.shares.take_share.Goals as goal

pub loop-k-init : goal.loop-k-init
loop-k-init g c = record {
  looked = looked_same c.requires.may;
  taken = none_taken c.requires.parts;
}

pub overflow_cast-picture : goal.overflow_cast-picture
overflow_cast-picture g c =
    let few = few_parts c.requires.may.flight c.requires.parts c.loop-k.k c.loop-k-test.true in
    omega (arith, few)

pub overflow_add-picture : goal.overflow_add-picture
overflow_add-picture g c =
    let few = few_parts c.requires.may.flight c.requires.parts c.loop-k.k c.loop-k-test.true in
    omega (arith, few)

pub take_part-requires-clause-may : goal.take_part-requires-clause-may
take_part-requires-clause-may g c = may_still c.requires.may c.loop-k.invariant.looked

pub take_part-requires-clause-picture : goal.take_part-requires-clause-picture
take_part-requires-clause-picture g c =
    let count = c.requires.parts.count in
    let test = c.loop-k-test.true in
    c.requires.parts.planned c.loop-k.k c.index-plans-k.result
    (slice_get_read c.args.plans.now (length c.args.plans.now) c.loop-k.k c.index-plans-k.result refl
    (omega (arith, count, test)) c.index-plans-k.is)

pub take_part-requires-clause-sized : goal.take_part-requires-clause-sized
take_part-requires-clause-sized g c =
    let count = c.requires.parts.count in
    let many = c.loop-k.invariant.taken.as_many in
    let test = c.loop-k-test.true in
    c.loop-k.invariant.taken.sized c.loop-k.k c.index-plans-k.result _
    (slice_get_read c.args.plans.now (length c.args.plans.now) c.loop-k.k c.index-plans-k.result refl
    (omega (arith, count, test)) c.index-plans-k.is)
    (slice_get-get_or c.loop-k.parts c.loop-k.k c.index-parts-k.result (omega (arith, many, test)))

pub overflow_cast-result : goal.overflow_cast-result
overflow_cast-result g c =
    let few = few_parts c.requires.may.flight c.requires.parts c.loop-k.k c.loop-k-test.true in
    omega (arith, few)

pub returns-in-Stopped-clause-looked : goal.returns-in-Stopped-clause-looked
returns-in-Stopped-clause-looked g c = looked_on c.loop-k.invariant.looked c.take_part.ensures.looked

pub returns-in-Stopped-clause-taken : goal.returns-in-Stopped-clause-taken
returns-in-Stopped-clause-taken g c =
    let count = c.requires.parts.count in
    let test = c.loop-k-test.true in
    taken_to c.loop-k.invariant.taken
    (slice_get_read c.args.plans.now (length c.args.plans.now) c.loop-k.k c.index-plans-k.result refl
    (omega (arith, count, test)) c.index-plans-k.is)
    c.take_part.ensures.sized (c.take_part.ensures.stopped c.in-Stopped.is)

pub loop-k-preserved : goal.loop-k-preserved
loop-k-preserved g c =
    let count = c.requires.parts.count in
    let test = c.loop-k-test.true in
    record {
      looked = looked_on c.loop-k.invariant.looked c.take_part.ensures.looked;
      taken = one_more c.loop-k.invariant.taken test
          (slice_get_read c.args.plans.now (length c.args.plans.now) c.loop-k.k c.index-plans-k.result refl
          (omega (arith, count, test)) c.index-plans-k.is)
          c.take_part.ensures.sized (c.take_part.ensures.ready c.in-Ready.is);
    }

pub overflow_cast-result-2 : goal.overflow_cast-result-2
overflow_cast-result-2 g c =
    let few = few_all c.requires.may.flight c.requires.parts (length c.args.parts.now) (omega arith) in
    let many = c.loop-k.auto.parts in
    omega (arith, few, many)

pub returns-clause-taken : goal.returns-clause-taken
returns-clause-taken g c =
    let many = c.loop-k.auto.parts in
    let test = c.loop-k-test.false in
    let end = c.loop-k.auto.k-end in
    all_taken c.loop-k.invariant.taken (omega (arith, many, test, end)) test
