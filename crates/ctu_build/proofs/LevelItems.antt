-- Levels behind a block, of 16 bits and scaled.
use Rattle.std.proofs.Common.{◌≡◌, ◌≢◌, ℕ, ◌+◌, ◌-◌, ◌*◌, ◌^◌, ◌<◌, ℤ, pos, List, [], ◌∷◌, replicate, set, length}
use Rattle.std.proofs.Common.{length-set, slice_index, get_or-set_other, get_or-set_same, sym, ap, ◌∙◌, ⊎_elim, arith}
use Rattle.std.specs.List.{All}
use Rattle.std.proofs.lemmas.Int.{ints}
use Rattle.std.proofs.lemmas.List.{get_or-replicate, length-replicate}
use Rattle.std.proofs.lemmas.List.Elements.{All-replicate}
use Rattle.std.proofs.lemmas.Bool.{cases_lt}
use Rattle.ctu_records.specs.declared.item.Item.{Item}
use Rattle.ctu_records.specs.declared.item.Item.TheVariants.{Unit, Luma, Chroma, Prediction, Pcm, Sample, Transform}
use Rattle.ctu_records.specs.declared.item.Item.TheVariants.{Delta, Block, Level}
use Rattle.ctu_build.specs.Scaled.{scaled_laid}
use Rattle.ctu_build.proofs.Squares.{below_square}
use Rattle.residual_transform.proofs.Bounds.{zero_scaled}
use Rattle.spec_reconstruction.specs.declared.format.UnitFormat.{UnitFormat}
use Rattle.spec_reconstruction.specs.declared.unit_mode.UnitMode.{UnitMode}
use Rattle.spec_reconstruction.specs.Factors.{factor}
use Rattle.spec_reconstruction.specs.Parameters.{depth_of}
use Rattle.spec_reconstruction.specs.Residuals.{factors_of, levels_behind, levels_laid, scaled_block}
use Rattle.spec_transforms.specs.Matrices.{at}
use Rattle.spec_transforms.specs.Scaling.{Is16, IsDepth, IsSize, quantizer, scaled}
use Rattle.spec_transforms.specs.Transforms.{block_in}

pub zeros_small : (levels : List ℤ) (n : ℕ) → levels ≡ replicate n (pos 0) → All Is16 levels
zeros_small levels n e = rw e (All-replicate Is16 n (pos 0) (omega (arith, ints), omega (arith, ints)))

-- one more level, and what is made of it
set_same : (f : ℕ → ℤ → ℤ) (n : ℕ) (values levels : List ℤ) (place : ℕ) (value : ℤ)
    → length values ≡ n → length levels ≡ n → ((i : ℕ) → i < n → at values i ≡ f i (at levels i))
    → (i : ℕ) → i < n → at (set values place (f place value)) i ≡ f i (at (set levels place value) i)
set_same f n values levels place value long_values long_levels same i h =
    let others : i ≢ place → at (set values place (f place value)) i ≡ f i (at (set levels place value) i) = λ ne.
    get_or-set_other values place i (f place value) (pos 0) ne ∙ same i h
    ∙ sym (ap (f i) (get_or-set_other levels place i value (pos 0) ne)) in
    ⊎_elim
    (λ less. others (omega (arith, less)))
    (λ beyond. ⊎_elim
    (λ more. others (omega (arith, more)))
    (λ none.
    let e : i ≡ place = omega (arith, beyond, none) in
    let in_values : place < length values = omega (arith, e, h, long_values) in
    let in_levels : place < length levels = omega (arith, e, h, long_levels) in
    rw e (get_or-set_same values place (f place value) (pos 0) in_values
    ∙ sym (ap (f place) (get_or-set_same levels place value (pos 0) in_levels))))
    (cases_lt place i))
    (cases_lt i place)

-- the levels of the next items, and what is made of them
laid_scaled : (f : ℕ → ℤ → ℤ) (n : ℕ) (values levels : List ℤ) (items : List Item)
    → length values ≡ n → length levels ≡ n → ((i : ℕ) → i < n → at values i ≡ f i (at levels i))
    → (i : ℕ) → i < n → at (scaled_laid f values items) i ≡ f i (at (levels_laid levels items) i)
unfolding scaled_laid levels_laid
laid_scaled f n values levels [] long_values long_levels same = same
laid_scaled f n values levels (Level place value ∷ items) long_values long_levels same =
    laid_scaled f n (set values place (f place value)) (set levels place value) items
    (length-set values place (f place value) ∙ long_values) (length-set levels place value ∙ long_levels)
    (set_same f n values levels place value long_values long_levels same)
laid_scaled f n values levels (Unit u ∷ items) long_values long_levels same = same
laid_scaled f n values levels (Luma u ∷ items) long_values long_levels same = same
laid_scaled f n values levels (Chroma u ∷ items) long_values long_levels same = same
laid_scaled f n values levels (Prediction u ∷ items) long_values long_levels same = same
laid_scaled f n values levels (Pcm u ∷ items) long_values long_levels same = same
laid_scaled f n values levels (Sample u ∷ items) long_values long_levels same = same
laid_scaled f n values levels (Transform u ∷ items) long_values long_levels same = same
laid_scaled f n values levels (Delta u ∷ items) long_values long_levels same = same
laid_scaled f n values levels (Block u ∷ items) long_values long_levels same = same

-- the scaled coefficients of a block
pub scaled_behind : (format : UnitFormat) (mode : UnitMode) (c log2 qp n depth : ℕ) (factors : List ℕ)
    (items : List Item) (out : List ℤ)
    → n ≡ 2 ^ log2 * 2 ^ log2 → IsSize log2 → IsDepth depth → depth ≡ depth_of format c
    → ((k : ℕ) → k < 2 ^ log2 * 2 ^ log2 → slice_index factors k ≡ factor (factors_of format mode) log2 c k)
    → out
    ≡ scaled_laid (λ place level. scaled depth log2 qp (slice_index factors place) level) (replicate n (pos 0)) items
    → (x y : ℕ) → x < 2 ^ log2 → y < 2 ^ log2
    → block_in (2 ^ log2) out x y ≡ scaled_block format mode c log2 qp (levels_behind n items) x y
unfolding scaled
scaled_behind format mode c log2 qp n depth factors items out counts size deep is each told x y hx hy =
    let k : ℕ = 2 ^ log2 * y + x in
    let inside : k < 2 ^ log2 * 2 ^ log2 = below_square (2 ^ log2) x y hx hy in
    let lt : k < n = omega (arith, counts, inside) in
    let zeros : List ℤ = replicate n (pos 0) in
    let f : ℕ → ℤ → ℤ = λ place level. scaled depth log2 qp (slice_index factors place) level in
    ap (λ (l : List ℤ). at l k) told
    ∙ laid_scaled f n zeros zeros items (length-replicate n (pos 0)) (length-replicate n (pos 0))
    (λ i h.
    let z : at zeros i ≡ pos 0 = get_or-replicate n i (pos 0) (pos 0) h in
    z ∙ zero_scaled (depth + log2 - 5) (slice_index factors i * quantizer qp) (at zeros i) z
    (omega (arith, deep, size)) (omega (arith, deep, size)))
    k lt
    ∙ ap (λ (m : ℕ). scaled depth log2 qp m (at (levels_behind n items) k)) (each k inside)
    ∙ ap (λ (d : ℕ). scaled d log2 qp (factor (factors_of format mode) log2 c k) (at (levels_behind n items) k)) is
