-- Samples behind filtering, by the places on both sides of the edge that they stand at and the samples beside it.
use Rattle.std.proofs.Common.{◌≡◌, ℕ, ◌+◌, ◌-◌, ◌*◌, ◌/◌, ◌%◌, ◌^◌, ◌<◌, ◌≤◌, ◌&&◌, nat_lt, true, ap, arith}
use Rattle.std.proofs.Common.{if◌then◌else◌}
use Rattle.std.proofs.lemmas.Bool.Decides.{nat_tests}
use Rattle.spec_deblocking.specs.declared.line.Line.{Line}
use Rattle.spec_deblocking.specs.declared.place.Place.{Place}
use Rattle.spec_deblocking.specs.declared.place.Plane.{Plane}
use Rattle.spec_deblocking.specs.Lines.{across, nth}
use Rattle.spec_deblocking.specs.Places.{exchanged, place_before, place_behind, side, turned}
use Rattle.spec_deblocking.specs.Thresholds.{tc}
use Rattle.spec_deblocking.specs.Decisions.{edge_filter}
use Rattle.spec_deblocking.specs.Filters.{filtered}
use Rattle.spec_deblocking.specs.Planes.{edge_sample, filtered_line, horizontal, vertical}
use Rattle.spec_deblocking.proofs.Across.{across_same, five_same, if_same}
use Rattle.spec_deblocking.proofs.Locality.{first_line, last_line, some_lines}

edge_same : (plane : Plane) (depth : ℕ) (places others : ℕ → ℕ → Place) (f g : ℕ → ℕ → ℕ) (e y k : ℕ)
    → place_before plane places e y ≡ place_before plane others e y
    → place_behind plane places e y ≡ place_behind plane others e y
    → across f (8 * e - 4) (side plane * (y / side plane)) ≡ across g (8 * e - 4) (side plane * (y / side plane))
    → across f (8 * e - 4) (side plane * (y / side plane) + (side plane - 1))
    ≡ across g (8 * e - 4) (side plane * (y / side plane) + (side plane - 1))
    → across f (8 * e - 4) y ≡ across g (8 * e - 4) y
    → edge_sample plane depth places f e y k ≡ edge_sample plane depth others g e y k
unfolding edge_sample filtered_line
edge_same plane depth places others f g e y k before behind first last here =
    five_same (λ (p q : Place) (a b c : Line). if (if nat_lt k 4 then p.kept else q.kept) then nth c k
    else nth (filtered (edge_filter plane depth p q a b) (2 ^ depth - 1) (tc plane depth p q) c) k)
    _ _ _ _ _ _ _ _ _ _ before behind first last here

-- a sample asks, at the edge that it stands at, for the lines of its place
pub vertical_near : (plane : Plane) (depth width : ℕ) (places others : ℕ → ℕ → Place) (f g : ℕ → ℕ → ℕ) (x y : ℕ)
    → (0 < (x + 4) / 8 → 8 * ((x + 4) / 8) < width
    → place_before plane places ((x + 4) / 8) y ≡ place_before plane others ((x + 4) / 8) y)
    → (0 < (x + 4) / 8 → 8 * ((x + 4) / 8) < width
    → place_behind plane places ((x + 4) / 8) y ≡ place_behind plane others ((x + 4) / 8) y)
    → ((i j : ℕ) → 8 * ((x + 4) / 8) < width → 8 * ((x + 4) / 8) ≤ i + 4 → i < 8 * ((x + 4) / 8) + 4
    → side plane * (y / side plane) ≤ j → j < side plane * (y / side plane) + side plane → f i j ≡ g i j)
    → f x y ≡ g x y
    → vertical plane depth width places f x y ≡ vertical plane depth width others g x y
unfolding vertical
vertical_near plane depth width places others f g x y before behind same now =
    let here = first_line plane y in
    let some = some_lines plane in
    if_same _ _ _ _ _ (λ (t : (nat_lt 0 ((x + 4) / 8) && nat_lt (8 * ((x + 4) / 8)) width) ≡ true).
    let edge : 0 < (x + 4) / 8 = grind (arith, nat_tests) in
    let inside : 8 * ((x + 4) / 8) < width = grind (arith, nat_tests) in
    edge_same plane depth places others f g ((x + 4) / 8) y ((x + 4) % 8) (before edge inside) (behind edge inside)
    (across_same f g _ _ (λ k few. same _ _ inside (omega arith) (omega arith) (omega arith) (omega arith)))
    (across_same f g _ _ (λ k few. same _ _ inside (omega arith) (omega arith) (omega arith) (last_line plane y)))
    (across_same f g _ _ (λ k few. same _ _ inside (omega arith) (omega arith) here.0 here.1))) now

-- and at a horizontal edge for the columns of its place
pub horizontal_near : (plane : Plane) (depth height : ℕ) (places others : ℕ → ℕ → Place) (f g : ℕ → ℕ → ℕ) (x y : ℕ)
    → (0 < (y + 4) / 8 → 8 * ((y + 4) / 8) < height
    → places (x / side plane) ((8 * ((y + 4) / 8) - 1) / side plane)
    ≡ others (x / side plane) ((8 * ((y + 4) / 8) - 1) / side plane))
    → (0 < (y + 4) / 8 → 8 * ((y + 4) / 8) < height
    → places (x / side plane) (8 * ((y + 4) / 8) / side plane)
    ≡ others (x / side plane) (8 * ((y + 4) / 8) / side plane))
    → ((i j : ℕ) → 8 * ((y + 4) / 8) < height → 8 * ((y + 4) / 8) ≤ j + 4 → j < 8 * ((y + 4) / 8) + 4
    → side plane * (x / side plane) ≤ i → i < side plane * (x / side plane) + side plane → f i j ≡ g i j)
    → f x y ≡ g x y
    → horizontal plane depth height places f x y ≡ horizontal plane depth height others g x y
unfolding horizontal
horizontal_near plane depth height places others f g x y before behind same now =
    vertical_near plane depth height (turned places) (turned others) _ _ y x
    (λ some inside. ap exchanged (before some inside)) (λ some inside. ap exchanged (behind some inside))
    (λ i j inside low high first last. same j i inside low high first last) now
