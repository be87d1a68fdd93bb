-- Edges without a strength.
use Rattle.std.proofs.Common.{◌≡◌, ℕ, ◌+◌, ◌-◌, ◌*◌, ◌/◌, ◌%◌, ◌<◌, ◌&&◌, nat_lt, true, refl, ap, ◌∙◌, arith}
use Rattle.std.proofs.lemmas.Bool.Decides.{nat_tests}
use Rattle.spec_deblocking.specs.declared.place.Place.{Place}
use Rattle.spec_deblocking.specs.declared.place.Plane.{Plane}
use Rattle.spec_deblocking.specs.declared.place.Plane.TheVariants.{Luma, Chroma}
use Rattle.spec_deblocking.specs.declared.line.Line.{Line}
use Rattle.spec_deblocking.specs.declared.line.Filter.TheVariants.{Off}
use Rattle.spec_deblocking.specs.Lines.{across, nth}
use Rattle.spec_deblocking.specs.Places.{side, place_before, place_behind}
use Rattle.spec_deblocking.specs.Decisions.{edge_filter}
use Rattle.spec_deblocking.specs.Filters.{filtered}
use Rattle.spec_deblocking.specs.Planes.{filtered_line, edge_sample, vertical, horizontal, deblocked}
use Rattle.spec_deblocking.proofs.Across.{nth_here, if_one}

pub filter_off : (plane : Plane) (depth : ℕ) (p q : Place) (first last : Line) → q.left_strength ≡ 0
    → edge_filter plane depth p q first last ≡ Off
unfolding edge_filter
filter_off Luma depth p q first last none = rw none refl
filter_off (Chroma offset) depth p q first last none = rw none refl

pub line_off : (plane : Plane) (depth : ℕ) (places : ℕ → ℕ → Place) (samples : ℕ → ℕ → ℕ) (e y : ℕ) →
    (place_behind plane places e y).left_strength ≡ 0 →
    filtered_line plane depth places samples e y ≡ across samples (8 * e - 4) y
unfolding filtered_line filtered
line_off plane depth places samples e y none =
    let first = across samples (8 * e - 4) (side plane * (y / side plane)) in
    let last = across samples (8 * e - 4) (side plane * (y / side plane) + (side plane - 1)) in
    rw (filter_off plane depth (place_before plane places e y) (place_behind plane places e y) first last none) refl

pub sample_off : (plane : Plane) (depth : ℕ) (places : ℕ → ℕ → Place) (samples : ℕ → ℕ → ℕ) (e y k : ℕ) →
    (place_behind plane places e y).left_strength ≡ 0 →
    edge_sample plane depth places samples e y k ≡ nth (across samples (8 * e - 4) y) k
unfolding edge_sample
sample_off plane depth places samples e y k none =
    if_one _ _ _ _ (λ t. refl) (ap (λ (line : Line). nth line k) (line_off plane depth places samples e y none))

pub vertical_off : (plane : Plane) (depth width : ℕ) (places : ℕ → ℕ → Place) (samples : ℕ → ℕ → ℕ) (x y : ℕ) →
    ((i j : ℕ) → (places i j).left_strength ≡ 0) →
    vertical plane depth width places samples x y ≡ samples x y
unfolding vertical
vertical_off plane depth width places samples x y none =
    if_one _ _ _ _ (λ (t : (nat_lt 0 ((x + 4) / 8) && nat_lt (8 * ((x + 4) / 8)) width) ≡ true).
    let some : 0 < (x + 4) / 8 = grind (arith, nat_tests) in
    sample_off plane depth places samples ((x + 4) / 8) y ((x + 4) % 8) (none _ _) ∙ nth_here samples x y some) refl

pub horizontal_off : (plane : Plane) (depth height : ℕ) (places : ℕ → ℕ → Place) (samples : ℕ → ℕ → ℕ) (x y : ℕ) →
    ((i j : ℕ) → (places i j).top_strength ≡ 0) →
    horizontal plane depth height places samples x y ≡ samples x y
unfolding horizontal
horizontal_off plane depth height places samples x y none =
    vertical_off plane depth height _ _ y x (λ i j. none j i)

pub deblocked_off : (plane : Plane) (depth width height : ℕ) (places : ℕ → ℕ → Place) (samples : ℕ → ℕ → ℕ) (x y : ℕ) →
    ((i j : ℕ) → (places i j).left_strength ≡ 0) → ((i j : ℕ) → (places i j).top_strength ≡ 0)
    → deblocked plane depth width height places samples x y ≡ samples x y
unfolding deblocked
deblocked_off plane depth width height places samples x y left top =
    horizontal_off plane depth height places _ x y top ∙ vertical_off plane depth width places samples x y left
