-- How many pictures are decoded together.
use Rattle.std.specs.Prelude.{ℕ, ◌*◌, ◌/◌, max, List, [], ◌∷◌}
use Rattle.header_types.specs.declared.sps.PictureFormat.{PictureFormat}
use Rattle.plan_types.specs.declared.picture_plan.PicturePlan.{PicturePlan}

-- how many pictures of a format are: those of 2^23 luma samples or fewer, and one that has more
abbrev pub most_of_size : PictureFormat → ℕ
most_of_size format =
    max (8388608 / max (format.pic_width_in_luma_samples * format.pic_height_in_luma_samples) 1) 1

-- by the first of pictures of one size
abbrev pub most_together : List PicturePlan → ℕ
most_together [] = 1
most_together (p ∷ pictures) = most_of_size p.sps.format
