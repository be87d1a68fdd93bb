-- The size of a picture in coding tree units and in places of 4x4 luma samples (6.3.1).
use Rattle.std.specs.Prelude.{◌-◌, ◌*◌, ◌^◌, ◌<◌, ◌≤◌}
use Rattle.spec_picture_trees.specs.SpecSliceData.{PictureShape}

-- a picture of sides up to 8192 luma samples: its units cover each of its rows, and each of them has samples
pub record IsShape (picture : PictureShape) : Type 0 where
  pub some : 1 ≤ picture.width
  pub few : picture.width ≤ 512
  pub least : 2 ≤ picture.size
  pub greatest : picture.size ≤ 4
  pub across : picture.across ≤ 2048
  pub down : picture.down ≤ 2048
  pub covered : picture.across ≤ 2 ^ picture.size * picture.width
  pub needed : 2 ^ picture.size * (picture.width - 1) < picture.across
