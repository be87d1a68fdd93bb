use Rattle.std.proofs.Common.{◌≡◌, ◌-◌, ◌^◌, ◌≤◌, length}
use Rattle.spec_stated_hashes.specs.StatedHashes.{first_stated, messages_up_to, stated_hashes}
use Rattle.hash_sei.proofs.messages.first_stated.Given as goal

-- what is to come states what all does
abbrev pub invariant-loop : goal.invariant-loop
invariant-loop l =
    (first_stated (messages_up_to (length l.fn.bytes - l.counter) l.rest) ≡ stated_hashes l.fn.bytes)
    × (length l.rest ≤ 2 ^ 26)
