-- The coding tree units of the pictures of a stream that is made.
use Rattle.std.specs.Prelude.{ℕ, ◌%◌, ◌==◌, Bool, true, false, List, if◌then◌else◌}
use Rattle.ctu_records.specs.declared.item.Item.{Item}
use Rattle.spec_made.specs.Draws.{inter_units_of, motion_of, pcm_units_of}
use Rattle.spec_made.specs.Stream.{Making}
use Rattle.made_laws.specs.Streams.{making_at}
use Rattle.made_row_laws.specs.Units.{inter_items, pcm_items}

-- those of a P or B picture
unfoldable pub predicted_items : Bool → Making → ℕ → List Item
predicted_items both m =
    let motion = motion_of both m.generator in
    inter_items motion.0 (inter_units_of motion.1).0

-- those of the picture of a number in its group, unit by unit
unfoldable pub items_at : ℕ → Making → ℕ → List Item
items_at g m =
    if g == 0 then pcm_items (pcm_units_of m.generator).0
    else (if g % 2 == 1 then predicted_items false m else predicted_items true m)

-- those of the picture of a number in the stream of a seed
abbrev pub items_of : ℕ → ℕ → ℕ → List Item
items_of seed j = items_at (j % 8) (making_at seed j)
