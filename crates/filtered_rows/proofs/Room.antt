-- Room for the lines of a row, and what a loop over components keeps.
use Rattle.std.proofs.Common.{◌≡◌, ℕ, ◌+◌, ◌-◌, ◌*◌, ◌/◌, ◌≤◌, ◌==◌, Bool, true, false, cond}
use Rattle.std.proofs.Common.{arith}
use Rattle.std.proofs.Math.Nat.{mul-le-mul_left, mul-le-mul_right}
use Rattle.hv_base.specs.declared.line.Line.{Line}
use Rattle.hv_base.specs.declared.line.Phase.TheVariants.{B}
use Rattle.spec_loop_filters.specs.declared.format.FilterFormat.{FilterFormat}
use Rattle.loop_filters.specs.declared.component.Component.{Component}
use Rattle.loop_filters.specs.Formats.{IsComponent}
use Rattle.row_filters.specs.Lines.{count_of, end_line, first_line}
use Rattle.board_core.specs.Places.{line_of}
use Rattle.sample_words.specs.declared.sizes.FlightSizes.{FlightSizes}
use Rattle.sample_words.specs.Words.{line_number}
use Rattle.progress_words.specs.declared.view.View.{View}
use Rattle.progress_words.specs.Views.{seen_of}
use Rattle.filtered_rows.specs.Components.{AreRowsBuilt}

narrow : (luma : Bool) (n : ℕ) → n / cond luma 1 2 ≤ n
narrow true n = omega arith
narrow false n = omega arith

-- the lines of a component, with so many on each side, have room in so many lines of luma
pub room_of : (format : FilterFormat) (k : Component) → IsComponent format k → (count beside most room : ℕ)
    → count ≤ k.width * (64 + 2 * beside) → 64 + 2 * beside ≤ most → format.width * most ≤ room → count ≤ room
room_of format k of count beside most room few lines all =
    let is = of.width in
    let less = narrow (k.c == 0) format.width in
    let width : k.width ≤ format.width = omega (arith, is, less) in
    let a : k.width * (64 + 2 * beside) ≤ k.width * most = mul-le-mul_left k.width lines in
    let b : k.width * most ≤ format.width * most = mul-le-mul_right most width in
    omega (arith, few, a, b, all)

-- a copy of lines with one on each side has room in 66 lines of luma
pub copy_room : (format : FilterFormat) (k : Component) → IsComponent format k → (row room : ℕ)
    → format.width * 66 ≤ room → count_of k row 1 ≤ room
copy_room format k of row room all =
    let most = of.size_few.1 in
    let few : end_line k row 1 - first_line k row 1 ≤ 66 = omega (arith, most) in
    let lines : k.width * (end_line k row 1 - first_line k row 1) ≤ k.width * 66 = mul-le-mul_left k.width few in
    let is = of.width in
    let less = narrow (k.c == 0) format.width in
    let width : k.width ≤ format.width = omega (arith, is, less) in
    let more : k.width * 66 ≤ format.width * 66 = mul-le-mul_right 66 width in
    omega (arith, lines, more, all)

-- what was seen of rows is seen behind writing
pub rows_still : {F : Type 0} (s : FlightSizes) (v w : View F) (l : Line)
    → ((n : ℕ) → seen_of w n ≡ seen_of v n) → AreRowsBuilt s v l → AreRowsBuilt s w l
rows_still s v w l same seen = λ r there low high.
    let e = same (line_number s (line_of B l.picture r)) in
    let here = seen r there low high in
    omega (arith, e, here)
