use Rattle.std.proofs.Common.{rules, ◌≡◌, ◌<◌, ◌+◌, [], ◌∷◌, ◌++◌, Some, length, slice_get, sym, ap, subst, refl}
use Rattle.std.proofs.Common.{arith}
use Rattle.std.proofs.Common.{length-append}
use Rattle.std.proofs.lemmas.Option.{slice_get_read}
use Rattle.row_jobs.proofs.Held.{one_sized}
use Rattle.row_jobs.proofs.parts.parts_of.Goals as goal

pub loop-place-preserved : goal.loop-place-preserved
loop-place-preserved c =
    let plans = c.args.plans.now in
    let parts = c.loop-place.parts.items in
    let count = c.loop-place.invariant.count in
    let part = c.in_ok-part_of.field-0 in
    let less : c.loop-place.place < length plans = search rules in
    let more : c.push.new.self.items ≡ parts ++ part ∷ [] = search rules in
    let plan = slice_get_read plans (length plans) c.loop-place.place c.index-plans-place.result refl less
    c.index-plans-place.is in
    let long = length-append parts (part ∷ []) in
    let many : length c.push.new.self.items ≡ length (parts ++ part ∷ []) = ap length more in
    record {
      count = omega (arith, count, many, long);
      sized =
          one_sized plans parts
          (subst (λ n. slice_get plans n ≡ Some c.index-plans-place.result) (sym count) plan)
          c.in_ok-part_of.ensures more c.loop-place.invariant.sized;
    }
