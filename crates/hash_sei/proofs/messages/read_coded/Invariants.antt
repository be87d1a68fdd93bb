use Rattle.std.proofs.Common.{◌≡◌, ℕ, ◌+◌, ◌*◌, ◌≤◌, List, length}
use Rattle.spec_stated_hashes.specs.StatedHashes.{coded_after}
use Rattle.hash_sei.proofs.messages.read_coded.Given as goal

-- what is to come spells what is left of the number
pub record Reads (number : ℕ) (rest bytes : List ℕ) : Type 0 where
  pub told : coded_after number rest ≡ coded_after 0 bytes
  pub small : number + 255 * length rest ≤ 255 * length bytes
  pub shorter : length rest ≤ length bytes

abbrev pub invariant-loop-byte : goal.invariant-loop-byte
invariant-loop-byte l = Reads l.number l.rest l.bytes

abbrev pub decreases-loop-byte : goal.decreases-loop-byte
decreases-loop-byte l = length l.rest
