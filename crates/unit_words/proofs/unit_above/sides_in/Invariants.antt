use Rattle.std.proofs.Common.{◌≡◌, ℕ, ◌<◌, cond, nat_lt, length, get_or, slice_index}
use Rattle.ctu_records.specs.Tree.{no_side}
use Rattle.sample_words.specs.Values.{modes_in}
use Rattle.unit_words.proofs.unit_above.sides_in.Given as goal

abbrev pub invariant-loop-k : goal.invariant-loop-k
invariant-loop-k l = record {
  count : length l.places ≡ 16;
  told : (q : ℕ) → q < l.k → get_or l.places q no_side
      ≡ cond (nat_lt q (length l.modes)) (modes_in (slice_index l.modes q)).side no_side;
}
