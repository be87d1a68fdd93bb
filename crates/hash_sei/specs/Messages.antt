-- Messages as the definition sees them.
use Rattle.std.specs.Prelude.{ℕ, List, Option, Some, None, if◌then◌else◌}
use Rattle.spec_stated_hashes.specs.StatedHashes as stated
use Rattle.hash_sei.specs.declared.messages.Message.{Message}

abbrev pub seen : Message → stated.Message
seen m = record { payload_type = m.kind; payload = m.payload.now; behind = m.behind.now }

abbrev pub hashes_in : stated.Message → Option (List (List ℕ))
hashes_in m = if stated.states_hashes m then Some (stated.hashes_of m) else None
