-- The pictures that are drawn of a seed as they are shown: group by group, and in each by order count.
use Rattle.std.specs.Prelude.{◌≡◌, ℕ, ◌+◌, ◌-◌, ◌/◌, ◌%◌, ◌<◌, ◌≤◌, ◌==◌, ◌||◌, List, ◌++◌, map, if◌then◌else◌}
use Rattle.std.specs.List.{concat, range_with_len}
use Rattle.spec_made.specs.Planes.{Planes}
use Rattle.spec_drawn_pictures.specs.Drawn.{picture_drawn}

-- the order count of the picture of a number: that of a mean is between those of the two pictures that it is drawn of
abbrev pub order_count : ℕ → ℕ
order_count j = let g = j % 8 in if g == 0 then 0 else (if g % 2 == 1 then g + 1 else g - 1)

-- the picture of a number is shown before that of another: it is of an earlier group, or of the same and of a lesser
-- order count
pub record IsBefore (i j : ℕ) : Type 0 where
  pub group : i / 8 ≤ j / 8
  pub order : i / 8 ≡ j / 8 → order_count i < order_count j

-- which of so many pictures is shown at a place: a mean before the picture that was drawn just before it
abbrev pub shown_at : ℕ → ℕ → ℕ
shown_at pictures place =
    if place % 8 == 0 then place
    else (if place % 2 == 0 then place - 1
    else (if (place % 8 == 7) || (place + 1 == pictures) then place else place + 1))

-- the numbers of so many pictures as they are shown
abbrev pub shown : ℕ → List ℕ
shown pictures = map (shown_at pictures) (range_with_len 0 pictures)

-- the bytes of a picture: its planes of luma, Cb and Cr
abbrev pub planes_bytes : Planes → List ℕ
planes_bytes p = p.luma ++ (p.cb ++ p.cr)

-- those of the picture of a number
abbrev pub bytes_drawn : ℕ → ℕ → List ℕ
bytes_drawn seed j = planes_bytes (picture_drawn seed j)

-- those of so many pictures as they are shown, one after the other
abbrev pub bytes_shown : ℕ → ℕ → List ℕ
bytes_shown seed pictures = concat (map (bytes_drawn seed) (shown pictures))
