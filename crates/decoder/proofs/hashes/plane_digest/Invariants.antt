-- The rows so far are hashed.
use Rattle.spec_decoder.specs.Hashes.{bit_depth, rows_samples}
use Rattle.plane_hasher.specs.Hashers.{HoldsSamples}
use Rattle.picture_buffer.specs.Planes.{plane_width, samples_of}
use Rattle.decoder.proofs.hashes.plane_digest.Given as goal

abbrev pub invariant-loop-y : goal.invariant-loop-y
invariant-loop-y l =
    HoldsSamples (bit_depth l.picture.format l.c) l.hasher
    (rows_samples (samples_of l.picture.planes) l.c (plane_width l.picture.planes l.c) l.y)
