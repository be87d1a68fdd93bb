-- The output order of pictures that are planned, by their numbers in decoding order (C.5.2).
use Rattle.std.specs.Prelude.{◌≡◌, ℕ, ◌+◌, ◌-◌, ◌/◌, ◌%◌, ◌<◌, ◌≤◌, ◌==◌, ◌||◌, List, [], ◌∷◌, ◌++◌, map}
use Rattle.std.specs.Prelude.{slice_index_or}
use Rattle.std.specs.Prelude.{if◌then◌else◌}
use Rattle.plan_types.specs.declared.picture_plan.PicturePlan.{PicturePlan}
use Rattle.spec_picture_plan.specs.Planned.{Planned}
use Rattle.made_laws.specs.Headers.{order_at}

-- the picture at a place of the buffer
abbrev pub number_at : List ℕ → ℕ → ℕ
number_at numbers place = slice_index_or numbers place 0

-- the pictures that go out, in their order, where the buffer has the pictures of these numbers, and picture j is the
-- next: before it, behind it, and so on up to those that go out at the end
unfoldable pub outputs_from : ℕ → List ℕ → List PicturePlan → List ℕ → List ℕ
outputs_from j numbers [] last = map (number_at numbers) last
outputs_from j numbers (p ∷ later) last =
    let all : List ℕ = numbers ++ j ∷ [] in
    map (number_at all) p.outputs.before
    ++ (map (number_at all) p.outputs.behind
    ++ outputs_from (j + 1) (map (number_at all) p.outputs.kept) later last)

abbrev pub output_numbers : Planned → List ℕ
output_numbers p = outputs_from 0 [] p.pictures p.last

-- which of so many pictures of a made stream goes out at a place of the output order: a P picture behind the B picture
-- that follows it, if there is one
abbrev pub shown_at : ℕ → ℕ → ℕ
shown_at pictures place =
    if place % 8 == 0 then place
    else (if place % 2 == 0 then place - 1
    else (if (place % 8 == 7) || (place + 1 == pictures) then place else place + 1))

-- a picture is of an earlier group than another, or of the same and of a lesser order count
pub record IsBefore (i k : ℕ) : Type 0 where
  pub group : i / 8 ≤ k / 8
  pub order : i / 8 ≡ k / 8 → order_at (i % 8) < order_at (k % 8)
