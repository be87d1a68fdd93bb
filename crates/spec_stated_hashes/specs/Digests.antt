-- MD5 digests as two numbers.
use Rattle.std.specs.Prelude.{ℕ, List, drop}
use Rattle.std.specs.Int.{w64, from_be_bytes}
use Rattle.hv_base.specs.declared.digest.Digest.{Digest}

-- the digest of these 16 bytes
unfoldable pub digest_of : List ℕ → Digest
digest_of bytes = record { first = from_be_bytes w64 bytes; last = from_be_bytes w64 (drop 8 bytes) }
