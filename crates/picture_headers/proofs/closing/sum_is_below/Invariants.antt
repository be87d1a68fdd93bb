-- The numbers so far and what is left are the limit.
use Rattle.std.proofs.Common.{◌≡◌, ◌+◌, take}
use Rattle.std.specs.Prelude.{sum}
use Rattle.picture_headers.proofs.closing.sum_is_below.Given as goal

abbrev pub invariant-loop-number : goal.invariant-loop-number
invariant-loop-number l = sum (take l.number-index l.numbers) + l.left ≡ l.limit
