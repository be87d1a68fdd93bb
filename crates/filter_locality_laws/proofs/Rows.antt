-- The rows of a component behind each step of the loop filters.
use Rattle.std.proofs.Common.{◌≡◌, ℕ, zero, suc, ◌+◌, ◌*◌, ◌/◌, ◌%◌, ◌<◌, ◌≤◌, refl, ap, ◌∙◌, arith}
use Rattle.std.proofs.lemmas.Nat.{div_below, le-div}
use Rattle.spec_loop_filters.specs.SpecDeblocking.{Place}
use Rattle.spec_loop_filters.specs.SpecDeblocking.{side}
use Rattle.spec_loop_filters.specs.SpecSampleAdaptiveOffset.{offset_sample}
use Rattle.spec_loop_filters.proofs.SpecSampleAdaptiveOffsetLemmas.{beside_alone}
use Rattle.spec_loop_filters.specs.declared.format.FilterFormat.{FilterFormat}
use Rattle.spec_loop_filters.specs.Filters.{LoopFilters, Samples, deblocked_samples, depth_of, final_samples}
use Rattle.spec_loop_filters.specs.Filters.{height_of}
use Rattle.spec_loop_filters.specs.Filters.{offset_plane, plane_of, size_of, width_of}
use Rattle.spec_loop_filters.specs.SpecDeblocking.{deblocked}
use Rattle.filter_locality_laws.specs.Rows.{IsFilterFormat, IsOfRow, IsPlaceOfRow, behind_horizontal, behind_vertical}
use Rattle.filter_locality_laws.proofs.Near.{horizontal_near, vertical_near}
use Rattle.filter_locality_laws.proofs.Sizes.{row_is}

pub three_steps : (filters : LoopFilters) (samples : Samples) (c x y : ℕ)
    → final_samples filters samples c x y
    ≡ offset_sample (offset_plane filters c)
    (behind_horizontal filters.format filters.places c (behind_vertical filters.format filters.places c (samples c))) x
    y
unfolding final_samples deblocked_samples deblocked
three_steps filters samples c x y = refl

pub vertical_row : (format : FilterFormat) (places others : ℕ → ℕ → Place) (f g : ℕ → ℕ → ℕ) (c row beside x y : ℕ)
    → IsFilterFormat format → beside % 4 ≡ 0
    → ((i s : ℕ) → IsPlaceOfRow format row (beside / 2) s → places i s ≡ others i s)
    → ((i j : ℕ) → i < width_of format c → IsOfRow format c row beside j → f i j ≡ g i j)
    → x < width_of format c → IsOfRow format c row beside y
    → behind_vertical format places c f x y ≡ behind_vertical format others c g x y
vertical_row format places others f g c row beside x y whole four known same inside at =
    let r = row_is format c row whole in
    let width = r.width in
    let here = r.near beside y four at.0 at.1 in
    vertical_near (plane_of format c) (depth_of format c) (width_of format c) places others f g x y
    (λ _ _. known _ _ here) (λ _ _. known _ _ here)
    (λ i j edge low high first last.
    same i j (omega (arith, width, edge, high)) (r.strip beside y j four at.0 at.1 first last))
    (same x y inside at)

pub horizontal_row : (format : FilterFormat) (places others : ℕ → ℕ → Place) (f g : ℕ → ℕ → ℕ) (c row x y : ℕ)
    → IsFilterFormat format
    → ((i s : ℕ) → IsPlaceOfRow format row 1 s → places i s ≡ others i s)
    → ((i j : ℕ) → i < width_of format c → j < height_of format c → IsOfRow format c row 4 j → f i j ≡ g i j)
    → x < width_of format c → y < height_of format c → IsOfRow format c row 4 y
    → behind_horizontal format places c f x y ≡ behind_horizontal format others c g x y
horizontal_row format places others f g c row x y whole known same inside above at =
    let r = row_is format c row whole in
    let height = r.height in
    let top = r.top in
    let lines = r.lines in
    horizontal_near (plane_of format c) (depth_of format c) (height_of format c) places others f g x y
    (λ some _. known _ _ (r.before y at.0 at.1 some)) (λ _ _. known _ _ (r.behind y at.0 at.1))
    (λ i j edge low high first last.
    same i j (r.across x i inside last) (omega (arith, height, edge, high))
    (omega (arith, at.0, top, low), omega (arith, at.1, top, lines, high)))
    (same x y inside above at)

-- the row of units of a line beside one of a row
row_above : (k row y j : ℕ) → 1 ≤ k → k * row ≤ y → y ≤ j + 1 → row ≤ j / k + 1
row_above k zero y j some low before = omega arith
row_above k (suc row) y j some low before =
    let next : k * suc row ≡ k * row + k = grind arith in
    let turned : row * k ≡ k * row = grind arith in
    let least : row ≤ j / k = le-div row j k some (omega (arith, next, turned, low, before, some)) in
    omega (arith, least)

rows_beside : (k row y j : ℕ) → 1 ≤ k → k * row ≤ y → y < k * row + k → y ≤ j + 1 → j ≤ y + 1
    → (row ≤ j / k + 1) × (j / k ≤ row + 1)
rows_beside k row y j some low high before behind =
    let more : (row + 2) * k ≡ k * row + 2 * k = grind arith in
    let below : j / k < row + 2 = div_below j k (row + 2) some (omega (arith, more, high, behind, some)) in
    (row_above k row y j some low before, omega (arith, below))

pub offset_row : (filters others : LoopFilters) (f g : ℕ → ℕ → ℕ) (c row x y : ℕ)
    → IsFilterFormat filters.format → filters.format ≡ others.format
    → ((i s : ℕ) → IsPlaceOfRow filters.format row 0 s → (filters.places i s).kept ≡ (others.places i s).kept)
    → ((column u : ℕ) → row ≤ u + 1 → u ≤ row + 1 → filters.units c column u ≡ others.units c column u)
    → ((i j : ℕ) → i < width_of filters.format c → j < height_of filters.format c
    → IsOfRow filters.format c row 1 j → f i j ≡ g i j)
    → x < width_of filters.format c → y < height_of filters.format c → IsOfRow filters.format c row 0 y
    → offset_sample (offset_plane filters c) f x y ≡ offset_sample (offset_plane others c) g x y
offset_row filters others f g c row x y whole format known units same inside above at =
    let r = row_is filters.format c row whole in
    let k : ℕ = size_of filters.format c in
    let low : k * row ≤ y = omega (arith, at.0) in
    let high : y < k * row + k = omega (arith, at.1) in
    beside_alone (offset_plane filters c) (offset_plane others c) f g x y (record {
      width = ap (λ (o : FilterFormat). width_of o c) format;
      height = ap (λ (o : FilterFormat). height_of o c) format;
      depth = ap (λ (o : FilterFormat). depth_of o c) format;
      inside = (inside, above);
      kept =
          known (x / side (plane_of filters.format c)) (y / side (plane_of filters.format c)) (r.here y low high)
          ∙ ap (λ (o : FilterFormat). (others.places (x / side (plane_of o c)) (y / side (plane_of o c))).kept) format;
      units = λ i j short lower xl xh yl yh.
          let beside = rows_beside k row y j r.some low high yl yh in
          units (i / k) (j / k) beside.0 beside.1
          ∙ ap (λ (o : FilterFormat). others.units c (i / size_of o c) (j / size_of o c)) format;
      samples = λ i j short lower xl xh yl yh.
          same i j short lower (omega (arith, low, yl), omega (arith, high, yh));
    })
