-- The lines that a sample behind filtering depends on.
use Rattle.std.proofs.Common.{◌≡◌, ℕ, ◌+◌, ◌-◌, ◌*◌, ◌/◌, ◌%◌, ◌<◌, ◌≤◌, ◌&&◌, nat_lt, true, ap, arith, if◌then◌else◌}
use Rattle.std.proofs.Common.{◌^◌}
use Rattle.std.proofs.lemmas.Bool.Decides.{nat_tests}
use Rattle.spec_deblocking.specs.declared.place.Place.{Place}
use Rattle.spec_deblocking.specs.declared.place.Plane.{Plane}
use Rattle.spec_deblocking.specs.declared.place.Plane.TheVariants.{Luma, Chroma}
use Rattle.spec_deblocking.specs.declared.line.Line.{Line}
use Rattle.spec_deblocking.specs.Lines.{across, nth}
use Rattle.spec_deblocking.specs.Places.{side, place_before, place_behind, exchanged, turned}
use Rattle.spec_deblocking.specs.Thresholds.{tc}
use Rattle.spec_deblocking.specs.Decisions.{edge_filter}
use Rattle.spec_deblocking.specs.Filters.{filtered}
use Rattle.spec_deblocking.specs.Planes.{filtered_line, edge_sample, vertical, horizontal}
use Rattle.spec_deblocking.proofs.Across.{across_same, if_same, five_same}

-- the first line of a place and the one behind its last
pub first_line : (plane : Plane) (y : ℕ)
    → (side plane * (y / side plane) ≤ y) × (y < side plane * (y / side plane) + side plane)
first_line Luma y = (omega arith, omega arith)
first_line (Chroma offset) y = (omega arith, omega arith)

pub last_line : (plane : Plane) (y : ℕ)
    → side plane * (y / side plane) + (side plane - 1) < side plane * (y / side plane) + side plane
last_line Luma y = omega arith
last_line (Chroma offset) y = omega arith

pub some_lines : (plane : Plane) → 0 < side plane
some_lines Luma = omega arith
some_lines (Chroma offset) = omega arith

pub inside_rows : (plane : Plane) (top lines y j : ℕ) → top % 8 ≡ 0 → lines % 4 ≡ 0 → top ≤ y → y < top + lines →
    side plane * (y / side plane) ≤ j → j < side plane * (y / side plane) + side plane → (top ≤ j) × (j < top + lines)
inside_rows Luma top lines y j a b c d e f = (omega arith, omega arith)
inside_rows (Chroma offset) top lines y j a b c d e f = (omega arith, omega arith)

edge_same : (plane : Plane) (depth : ℕ) (places others : ℕ → ℕ → Place) (samples other : ℕ → ℕ → ℕ) (e y k : ℕ) →
    place_before plane places e y ≡ place_before plane others e y →
    place_behind plane places e y ≡ place_behind plane others e y →
    across samples (8 * e - 4) (side plane * (y / side plane))
    ≡ across other (8 * e - 4) (side plane * (y / side plane)) →
    across samples (8 * e - 4) (side plane * (y / side plane) + (side plane - 1))
    ≡ across other (8 * e - 4) (side plane * (y / side plane) + (side plane - 1)) →
    across samples (8 * e - 4) y ≡ across other (8 * e - 4) y →
    edge_sample plane depth places samples e y k ≡ edge_sample plane depth others other e y k
unfolding edge_sample filtered_line
edge_same plane depth places others samples other e y k before behind first last here =
    five_same (λ (p q : Place) (a b c : Line). if (if nat_lt k 4 then p.kept else q.kept) then nth c k
    else nth (filtered (edge_filter plane depth p q a b) (2 ^ depth - 1) (tc plane depth p q) c) k)
    _ _ _ _ _ _ _ _ _ _ before behind first last here

vertical_same : (plane : Plane) (depth width : ℕ) (places others : ℕ → ℕ → Place) (samples other : ℕ → ℕ → ℕ)
    (x y : ℕ) →
    (0 < (x + 4) / 8 → 8 * ((x + 4) / 8) < width
    → place_before plane places ((x + 4) / 8) y ≡ place_before plane others ((x + 4) / 8) y) →
    (0 < (x + 4) / 8 → 8 * ((x + 4) / 8) < width
    → place_behind plane places ((x + 4) / 8) y ≡ place_behind plane others ((x + 4) / 8) y) →
    ((i j : ℕ) → 8 * ((x + 4) / 8) < width → 8 * ((x + 4) / 8) ≤ i + 4 → i + 4 < 8 * ((x + 4) / 8) + 8
    → side plane * (y / side plane) ≤ j → j < side plane * (y / side plane) + side plane → samples i j ≡ other i j) →
    samples x y ≡ other x y →
    vertical plane depth width places samples x y ≡ vertical plane depth width others other x y
unfolding vertical
vertical_same plane depth width places others samples other x y before behind same now =
    let here = first_line plane y in
    let some = some_lines plane in
    if_same _ _ _ _ _ (λ (t : (nat_lt 0 ((x + 4) / 8) && nat_lt (8 * ((x + 4) / 8)) width) ≡ true).
    let edge : 0 < (x + 4) / 8 = grind (arith, nat_tests) in
    let inside : 8 * ((x + 4) / 8) < width = grind (arith, nat_tests) in
    edge_same plane depth places others samples other ((x + 4) / 8) y ((x + 4) % 8) (before edge inside)
    (behind edge inside)
    (across_same samples other _ _ (λ k few. same _ _ inside (omega arith) (omega arith) (omega arith) (omega arith)))
    (across_same samples other _ _
    (λ k few. same _ _ inside (omega arith) (omega arith) (omega arith) (last_line plane y)))
    (across_same samples other _ _ (λ k few. same _ _ inside (omega arith) (omega arith) here.0 here.1))) now

pub vertical_rows : (plane : Plane) (depth width : ℕ) (places others : ℕ → ℕ → Place) (samples other : ℕ → ℕ → ℕ)
    (top lines x y : ℕ) →
    width % 4 ≡ 0 → top % 8 ≡ 0 → lines % 4 ≡ 0 → x < width → top ≤ y → y < top + lines →
    ((i s : ℕ) → top ≤ side plane * s → side plane * s < top + lines → places i s ≡ others i s) →
    ((i j : ℕ) → i < width → top ≤ j → j < top + lines → samples i j ≡ other i j) →
    vertical plane depth width places samples x y ≡ vertical plane depth width others other x y
vertical_rows plane depth width places others samples other top lines x y w a b p c d known same =
    let some = some_lines plane in
    let first = inside_rows plane top lines y (side plane * (y / side plane)) a b c d (omega arith) (omega arith) in
    vertical_same plane depth width places others samples other x y
    (λ _ _. known _ (y / side plane) first.0 first.1) (λ _ _. known _ (y / side plane) first.0 first.1)
    (λ i j g h l e f. let at = inside_rows plane top lines y j a b c d e f in same i j (omega arith) at.0 at.1)
    (same x y p c d)

-- the places of a row's edges
before_row : (plane : Plane) (top lines y : ℕ) → top % 8 ≡ 0 → lines % 4 ≡ 0 → top ≤ y → y < top + lines →
    0 < (y + 4) / 8 →
    (top ≤ side plane * ((8 * ((y + 4) / 8) - 1) / side plane) + side plane)
    × (side plane * ((8 * ((y + 4) / 8) - 1) / side plane) ≤ top + lines)
before_row Luma top lines y a b c d some = (omega arith, omega arith)
before_row (Chroma offset) top lines y a b c d some = (omega arith, omega arith)

behind_row : (plane : Plane) (top lines y : ℕ) → top % 8 ≡ 0 → lines % 4 ≡ 0 → top ≤ y → y < top + lines →
    (top ≤ side plane * (8 * ((y + 4) / 8) / side plane) + side plane)
    × (side plane * (8 * ((y + 4) / 8) / side plane) ≤ top + lines)
behind_row Luma top lines y a b c d = (omega arith, omega arith)
behind_row (Chroma offset) top lines y a b c d = (omega arith, omega arith)

within_plane : (plane : Plane) (width x i : ℕ) → width % 4 ≡ 0 → x < width
    → i < side plane * (x / side plane) + side plane → i < width
within_plane Luma width x i w p h = omega arith
within_plane (Chroma offset) width x i w p h = omega arith

pub horizontal_rows : (plane : Plane) (depth width height : ℕ) (places others : ℕ → ℕ → Place)
    (samples other : ℕ → ℕ → ℕ) (top lines x y : ℕ) →
    width % 4 ≡ 0 → height % 4 ≡ 0 → top % 8 ≡ 0 → lines % 4 ≡ 0 → x < width → y < height → top ≤ y → y < top + lines →
    ((i s : ℕ) → top ≤ side plane * s + side plane → side plane * s ≤ top + lines → places i s ≡ others i s) →
    ((i j : ℕ) → i < width → j < height → top ≤ j + 4 → j < top + lines + 4 → samples i j ≡ other i j) →
    horizontal plane depth height places samples x y ≡ horizontal plane depth height others other x y
unfolding horizontal
horizontal_rows plane depth width height places others samples other top lines x y w v a b p q c d known same =
    vertical_same plane depth height _ _ _ _ y x
    (λ some _. let at = before_row plane top lines y a b c d some in ap exchanged (known (x / side plane) _ at.0 at.1))
    (λ some _. let at = behind_row plane top lines y a b c d in ap exchanged (known (x / side plane) _ at.0 at.1))
    (λ i j g h l e f. same j i (within_plane plane width x j w p f) (omega arith) (omega arith) (omega arith))
    (same x y p q (omega arith) (omega arith))
