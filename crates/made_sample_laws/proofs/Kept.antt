-- Loop filters change no sample of places that are kept.
use Rattle.std.proofs.Common.{◌≡◌, ℕ, ◌+◌, ◌-◌, ◌*◌, ◌/◌, ◌%◌, ◌<◌, cond, Bool, true, false, ◌&&◌, nat_lt}
use Rattle.std.proofs.Common.{refl, ◌∙◌, arith}
use Rattle.std.proofs.lemmas.Bool.{and_parts, ltb-true}
use Rattle.spec_deblocking.proofs.Across.{nth_here, if_one}
use Rattle.spec_deblocking.specs.declared.place.Place.{Place}
use Rattle.spec_deblocking.specs.declared.place.Plane.{Plane}
use Rattle.spec_deblocking.specs.declared.place.Plane.TheVariants.{Luma, Chroma}
use Rattle.spec_deblocking.specs.Lines.{across, nth}
use Rattle.spec_deblocking.specs.Places.{place_before, place_behind, side}
use Rattle.spec_deblocking.specs.Planes.{deblocked, edge_sample, horizontal, vertical}
use Rattle.spec_sample_adaptive_offset.specs.Plane.{offset_sample}
use Rattle.spec_loop_filters.specs.Filters.{LoopFilters, Samples, deblocked_samples, depth_of, final_samples}
use Rattle.spec_loop_filters.specs.Filters.{height_of}
use Rattle.spec_loop_filters.specs.Filters.{plane_of, width_of}

either_true : (b c d : Bool) → c ≡ true → d ≡ true → cond b c d ≡ true
either_true true c d e f = e
either_true false c d e f = f

sample_kept : (plane : Plane) (depth : ℕ) (places : ℕ → ℕ → Place) (samples : ℕ → ℕ → ℕ) (e y k : ℕ)
    → (place_before plane places e y).kept ≡ true → (place_behind plane places e y).kept ≡ true
    → edge_sample plane depth places samples e y k ≡ nth (across samples (8 * e - 4) y) k
unfolding edge_sample
sample_kept plane depth places samples e y k before behind =
    rw (either_true (nat_lt k 4) (place_before plane places e y).kept (place_behind plane places e y).kept before
    behind)
    refl

-- places of so many columns on both sides of an edge
edge_places : (plane : Plane) (columns rows e y : ℕ) (places : ℕ → ℕ → Place)
    → ((i j : ℕ) → i < columns → j < rows → (places i j).kept ≡ true) → 8 * e < side plane * columns
    → y < side plane * rows
    → ((place_before plane places e y).kept ≡ true) × ((place_behind plane places e y).kept ≡ true)
edge_places Luma columns rows e y places kept few low =
    (kept _ _ (omega arith) (omega arith), kept _ _ (omega arith) (omega arith))
edge_places (Chroma offset) columns rows e y places kept few low =
    (kept _ _ (omega arith) (omega arith), kept _ _ (omega arith) (omega arith))

vertical_kept : (plane : Plane) (depth columns rows : ℕ) (places : ℕ → ℕ → Place) (samples : ℕ → ℕ → ℕ) (x y : ℕ)
    → ((i j : ℕ) → i < columns → j < rows → (places i j).kept ≡ true) → y < side plane * rows
    → vertical plane depth (side plane * columns) places samples x y ≡ samples x y
unfolding vertical
vertical_kept plane depth columns rows places samples x y kept low =
    if_one _ _ _ _ (λ (t : (nat_lt 0 ((x + 4) / 8) && nat_lt (8 * ((x + 4) / 8)) (side plane * columns)) ≡ true).
    let parts = and_parts (nat_lt 0 ((x + 4) / 8)) _ t in
    let some : 0 < (x + 4) / 8 = ltb-true 0 ((x + 4) / 8) parts.0 in
    let few : 8 * ((x + 4) / 8) < side plane * columns = ltb-true (8 * ((x + 4) / 8)) (side plane * columns) parts.1 in
    let both = edge_places plane columns rows ((x + 4) / 8) y places kept few low in
    sample_kept plane depth places samples ((x + 4) / 8) y ((x + 4) % 8) both.0 both.1 ∙ nth_here samples x y some) refl

deblocked_kept : (plane : Plane) (depth columns rows : ℕ) (places : ℕ → ℕ → Place) (samples : ℕ → ℕ → ℕ) (x y : ℕ)
    → ((i j : ℕ) → i < columns → j < rows → (places i j).kept ≡ true) → x < side plane * columns
    → y < side plane * rows
    → deblocked plane depth (side plane * columns) (side plane * rows) places samples x y ≡ samples x y
unfolding deblocked horizontal
deblocked_kept plane depth columns rows places samples x y kept few low =
    vertical_kept plane depth rows columns _ _ y x (λ i j row column. kept j i column row) few
    ∙ vertical_kept plane depth columns rows places samples x y kept low

-- the place of a sample of a component
place_inside : (plane : Plane) (columns rows x y : ℕ) (places : ℕ → ℕ → Place)
    → ((i j : ℕ) → i < columns → j < rows → (places i j).kept ≡ true) → x < side plane * columns
    → y < side plane * rows
    → (places (x / side plane) (y / side plane)).kept ≡ true
place_inside Luma columns rows x y places kept few low = kept _ _ (omega arith) (omega arith)
place_inside (Chroma offset) columns rows x y places kept few low = kept _ _ (omega arith) (omega arith)

pub final_kept : (filters : LoopFilters) (samples : Samples) (columns rows c x y : ℕ)
    → ((i j : ℕ) → i < columns → j < rows → (filters.places i j).kept ≡ true)
    → width_of filters.format c ≡ side (plane_of filters.format c) * columns
    → height_of filters.format c ≡ side (plane_of filters.format c) * rows
    → x < width_of filters.format c → y < height_of filters.format c
    → final_samples filters samples c x y ≡ samples c x y
unfolding final_samples deblocked_samples offset_sample
final_kept filters samples columns rows c x y kept across down few low =
    let plane : Plane = plane_of filters.format c in
    let few' : x < side plane * columns = omega (arith, few, across) in
    let low' : y < side plane * rows = omega (arith, low, down) in
    rw (place_inside plane columns rows x y filters.places kept few' low', across, down)
    (deblocked_kept plane (depth_of filters.format c) columns rows filters.places (samples c) x y kept few' low')
