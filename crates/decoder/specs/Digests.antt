-- The digests of a picture's planes.
use Rattle.std.specs.Prelude.{◌≡◌}
use Rattle.spec_picture_build.specs.References.{DecodedPicture}
use Rattle.spec_decoder.specs.Hashes.{computed_hash}
use Rattle.decoder.specs.declared.hashes.PlaneDigests.{PlaneDigests}

pub record AreComputed (picture : DecodedPicture) (d : PlaneDigests) : Type 0 where
  pub luma : d.luma ≡ computed_hash picture 0
  pub cb : d.cb ≡ computed_hash picture 1
  pub cr : d.cr ≡ computed_hash picture 2
