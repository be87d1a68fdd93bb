use Rattle.std.proofs.Common.{◌≡◌, ℕ, ◌+◌, ◌<◌, length, slice_index}
use Rattle.cabac_contexts.proofs.contexts.Contexts.word.Given as goal

abbrev pub invariant-loop-j : goal.invariant-loop-j
invariant-loop-j l = record {
  count : length l.bytes ≡ 8;
  told : (j : ℕ) → j < l.j → slice_index l.bytes j ≡ slice_index l.self (l.first + j);
}
