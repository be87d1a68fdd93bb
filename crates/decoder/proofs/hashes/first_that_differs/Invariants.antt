-- The units so far have no mismatch.
use Rattle.std.proofs.Common.{◌≡◌, drop}
use Rattle.row_jobs.specs.PictureBuild.{decoded_of}
use Rattle.spec_decoder.specs.Hashes.{first_mismatch}
use Rattle.decoder.proofs.hashes.first_that_differs.Given as goal

abbrev pub invariant-loop-hash : goal.invariant-loop-hash
invariant-loop-hash l =
    first_mismatch (decoded_of l.picture) (drop l.hash-index l.stated)
    ≡ first_mismatch (decoded_of l.picture) l.stated
