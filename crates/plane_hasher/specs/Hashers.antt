-- What a hasher holds.
use Rattle.std.specs.Prelude.{◌≡◌, ℕ, List}
use Rattle.md5.specs.Md5.{Holds}
use Rattle.hash_sei.specs.PlaneHash.{picture_data}
use Rattle.plane_hasher.specs.declared.hasher.PlaneHasher.{PlaneHasher}

-- a hasher holds these samples of a plane of this bit depth
pub record HoldsSamples (depth : ℕ) (hasher : PlaneHasher) (samples : List ℕ) : Type 0 where
  pub depth_is : hasher.depth ≡ depth
  pub held : Holds hasher.hash (picture_data depth samples)
