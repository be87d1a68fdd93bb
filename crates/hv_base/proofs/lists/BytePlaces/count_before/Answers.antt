use Rattle.std.proofs.Common.{nat_lt, rules, sym, ap, ◌∙◌}
use Rattle.std.specs.List.{count_by}
use Rattle.std.specs.List.Sorted.{IsStrictlyIncreasing}
use Rattle.std.proofs.lemmas.List.Sorted.{IsPartitionPoint-from_clause, IsPartitionedBy-ltb}
use Rattle.hv_base.proofs.Counting.{count_to, rising}
use Rattle.hv_base.proofs.lists.BytePlaces.count_before.Goals as goal

pub returns : goal.returns
returns c =
    let up : IsStrictlyIncreasing c.as_slice.result.now = rw c.as_slice.ensures.value c.self.invariant in
    let parted = IsPartitionedBy-ltb (λ r. r) _ c.args.place (rising _ up) in
    let point =
    IsPartitionPoint-from_clause (λ r. nat_lt r c.args.place) _ _ c.partition_point.ensures.partitioned parted
    (λ a r q k. search rules) in
    let count = count_to (λ r. nat_lt r c.args.place) c.as_slice.result.now _ c.partition_point.ensures.bound point in
    sym count ∙ ap (count_by (λ r. nat_lt r c.args.place)) (c.as_slice.ensures.value ∙ c.self.view_is)
