-- The samples beside a part of a unit, by a row's border.
use Rattle.std.proofs.Common.{◌≡◌, ℕ, zero, suc, ◌+◌, ◌-◌, ◌*◌, ◌<◌, ◌≤◌, ◌&&◌, nat_lt, Bool, false, slice_index}
use Rattle.std.proofs.Common.{ap, ◌∙◌, if◌then◌else◌, arith}
use Rattle.std.proofs.lemmas.Bool.Decides.{nat_tests}
use Rattle.picture_buffer.specs.Planes.{PictureSamples, PlaneSamples, plane_at, plane_width, samples_of}
use Rattle.spec_picture_build.specs.Border.{unit_column, unit_line}
use Rattle.unit_build.specs.declared.part.Part.{Part}
use Rattle.unit_build.specs.Parts.{IsPart}
use Rattle.row_borders.specs.Borders.{Bordering, column_left, line_above, sample_at}
use Rattle.row_borders.proofs.Places.{at_above, at_left}

pub above_is : (border : Bordering) (part : Part) (x : ℕ) → IsPart border.unit.layout border.unit.address part
    → 1 ≤ part.y → sample_at border part.c x (part.y - 1) ≡ line_above border part.c x
unfolding sample_at
above_is border part x is some =
    let next : part.y - 1 + 1 ≡ part.y = omega (arith, some) in
    at_above (unit_column border.unit.layout part.c border.unit.address)
    (unit_line border.unit.layout part.c border.unit.address) (line_above border part.c) (column_left border part.c) 0
    x (part.y - 1) (next ∙ is.y)

pub left_is : (border : Bordering) (part : Part) (k : ℕ) → IsPart border.unit.layout border.unit.address part
    → 1 ≤ part.x → sample_at border part.c (part.x - 1) (part.y + k) ≡ column_left border part.c k
unfolding sample_at
left_is border part k is some =
    let next : part.x - 1 + 1 ≡ part.x = omega (arith, some) in
    at_left (unit_column border.unit.layout part.c border.unit.address)
    (unit_line border.unit.layout part.c border.unit.address) (line_above border part.c) (column_left border part.c) 0
    (part.x - 1) (part.y + k) k (next ∙ is.x) (ap (λ y. y + k) is.y)

-- no sample stands behind the last one of a line
plane_past : (plane : PlaneSamples) (k : ℕ) → plane.width ≤ k → plane_at plane k 0 ≡ 0
unfolding plane_at
plane_past plane k le =
    let no : nat_lt k plane.width ≡ false = grind (arith, nat_tests) in
    ap (λ (t : Bool). if t && nat_lt 0 plane.height then slice_index plane.samples (plane.width * 0 + k) else 0) no

pub past_line : (planes : PictureSamples) (c k : ℕ) → c < 3 → plane_width planes c ≤ k → samples_of planes c k 0 ≡ 0
unfolding samples_of
past_line planes zero k lt le = plane_past planes.luma k le
past_line planes (suc zero) k lt le = plane_past planes.cb k le
past_line planes (suc (suc zero)) k lt le = plane_past planes.cr k le
past_line planes (suc (suc (suc c))) k lt le = absurd (omega (arith, lt))
