-- The first message that states hashes, message after message.
use Rattle.std.proofs.Common.{◌≡◌, ℕ, ◌+◌, ◌-◌, ◌<◌, suc, Bool, true, false, List, length, Option, Some, None, refl}
use Rattle.std.proofs.Common.{arith, if◌then◌else◌}
use Rattle.spec_stated_hashes.specs.StatedHashes.{Message, first_stated, hashes_of, message_at, messages_up_to}
use Rattle.spec_stated_hashes.specs.StatedHashes.{stated_hashes, states_hashes}
use Rattle.hash_sei.specs.Messages.{hashes_in}

-- at most so many messages are left, and one of them comes next
pub next : (n i : ℕ) (rest : List ℕ) (m : Message) → i < n → Some m ≡ message_at rest
    → first_stated (messages_up_to (n - i) rest)
    ≡ (if states_hashes m then Some (hashes_of m) else first_stated (messages_up_to (n - (i + 1)) m.behind))
next n i rest m inside is =
    let more : n - i ≡ suc (n - (i + 1)) = omega arith in
    rw (more, ← is) refl

found_by : (stated : Bool) (hashes own : List (List ℕ)) (later : Option (List (List ℕ)))
    → Some hashes ≡ (if stated then Some own else None) → Some hashes ≡ (if stated then Some own else later)
found_by true hashes own later e = e
found_by false hashes own later e = absurd cc

-- it states hashes
pub found : (m : Message) (hashes : List (List ℕ)) (later : Option (List (List ℕ))) → Some hashes ≡ hashes_in m
    → Some hashes ≡ (if states_hashes m then Some (hashes_of m) else later)
found m hashes later e = found_by (states_hashes m) hashes (hashes_of m) later e

passed_by : (stated : Bool) (own : List (List ℕ)) (later : Option (List (List ℕ)))
    → None ≡ (if stated then Some own else None) → (if stated then Some own else later) ≡ later
passed_by true own later e = absurd cc
passed_by false own later e = refl

-- it doesn't
pub passed : (m : Message) (later : Option (List (List ℕ))) → None ≡ hashes_in m
    → (if states_hashes m then Some (hashes_of m) else later) ≡ later
passed m later e = passed_by (states_hashes m) (hashes_of m) later e

pub begun : (bytes : List ℕ) → first_stated (messages_up_to (length bytes - 0) bytes) ≡ stated_hashes bytes
unfolding stated_hashes
begun bytes =
    let all : length bytes - 0 ≡ length bytes = omega arith in
    rw all refl
