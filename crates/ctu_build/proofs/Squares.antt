-- Samples and residuals of a block by place.
use Rattle.std.proofs.Common.{◌≡◌, ℕ, ◌+◌, ◌*◌, ◌%◌, ◌^◌, ◌<◌, ◌≤◌, true, false, ℤ, Some, List, get_or, ap, ◌∙◌, ◌-◌}
use Rattle.std.proofs.Common.{refl, arith}
use Rattle.std.specs.List.{All}
use Rattle.std.proofs.lemmas.Int.{ints}
use Rattle.ctu_records.specs.declared.item.CodedBlock.{CodedBlock}
use Rattle.ctu_records.specs.declared.item.Item.{Item}
use Rattle.ctu_records.specs.declared.item.Square.{Square}
use Rattle.ctu_build.proofs.Sizes.{chroma_side, luma_side}
use Rattle.spec_reconstruction.specs.declared.format.UnitFormat.{UnitFormat}
use Rattle.spec_reconstruction.specs.Parameters.{depth_of, parameter_of}
use Rattle.spec_reconstruction.specs.declared.unit_mode.UnitMode.{UnitMode}
use Rattle.spec_reconstruction.specs.Residuals.{levels_behind, residuals, residuals_behind}
use Rattle.spec_reconstruction.specs.SpecSliceData.{samples_of_place}
use Rattle.spec_transforms.specs.Scaling.{Is16}
use Rattle.spec_transforms.specs.Transforms.{IsResidual, block_in}
use Rattle.ctu_build.specs.declared.place.Place.{Place}
use Rattle.ctu_build.specs.Held.{block_of, chroma_place, luma_place, place_of}
use Rattle.ctu_records.specs.declared.item.Item.TheVariants.{Sample}
use Rattle.spec_intra_prediction.specs.Neighbours.{beside}
use Rattle.spec_intra_prediction.specs.Prediction.{predicted}
use Rattle.spec_intra_prediction.specs.Substitution.{substituted}
use Rattle.spec_motion.specs.Vectors as vectors
use Rattle.spec_reconstruction.specs.Prediction.{block_predicted, offered}
use Rattle.spec_reconstruction.specs.Pulses.{sample_of, shifted, pulses_laid}
use Rattle.std.proofs.Math.Nat.{mod-eq_of_lt, mul-le-mul_left}
use Rattle.spec_reconstruction.specs.Known.{Known, laid, constructed, with_residual}
use Rattle.ctu_build.proofs.Changes.{changed_same}

-- a place of a block lies in its rows
pub below_square : (n x y : ℕ) → x < n → y < n → n * y + x < n * n
below_square n x y hx hy = let le : n * (y + 1) ≤ n * n = mul-le-mul_left n (omega arith) in grind arith

pub laid_same : (c x y n : ℕ) (f g : ℕ → ℕ → ℕ) (known : Known) → ((i j : ℕ) → i < n → j < n → f i j ≡ g i j)
    → laid c x y n f known ≡ laid c x y n g known
laid_same c x y n f g known same =
    changed_same c x y n (λ i j before. Some (f i j)) (λ i j before. Some (g i j)) known
    (λ i j before hi hj. ap (λ (v : ℕ). Some v) (same i j hi hj))

pub constructed_same : (depth c x y n : ℕ) (f g : ℕ → ℕ → ℤ) (known : Known)
    → ((i j : ℕ) → i < n → j < n → f i j ≡ g i j)
    → constructed depth c x y n f known ≡ constructed depth c x y n g known
constructed_same depth c x y n f g known same =
    changed_same c x y n (λ i j before. with_residual depth (f i j) before)
    (λ i j before. with_residual depth (g i j) before) known
    (λ i j before hi hj. ap (λ (v : ℤ). with_residual depth v before) (same i j hi hj))

pub levels_are_residuals : (levels : List ℤ) → All Is16 levels → All IsResidual levels
levels_are_residuals levels all = λ i d lt. let v = all i d lt in (omega (arith, ints, v), omega (arith, ints, v))

-- the place of a block, and its depth, in the words of the block
placed : (format : UnitFormat) (block : CodedBlock) (place : Place) (depth : ℕ) (f g : ℕ → ℕ → ℤ) (before after : Known)
    → after ≡ constructed depth place.c place.x place.y (2 ^ place.log2) f before → place ≡ place_of block
    → depth ≡ depth_of format block.component
    → ((i j : ℕ) → i < 2 ^ block.log2_size → j < 2 ^ block.log2_size → f i j ≡ g i j)
    → after
    ≡ constructed (depth_of format block.component) block.component (samples_of_place block.component * block.x)
    (samples_of_place block.component * block.y) (2 ^ block.log2_size) g before
placed format block place depth f g before after told at e same =
    (rw (e, at) at told) ∙ constructed_same _ _ _ _ _ f g before same

-- a block whose levels are its residuals
pub bypass_constructed : (format : UnitFormat) (mode : UnitMode) (block : CodedBlock) (qp : ℕ) (items : List Item)
    (levels : List ℤ) (count : ℕ) (place : Place) (depth : ℕ) (before after : Known)
    → after ≡ constructed depth place.c place.x place.y (2 ^ place.log2) (block_in (2 ^ place.log2) levels) before
    → place ≡ place_of block → depth ≡ depth_of format block.component
    → mode.transquant_bypass ≡ true → levels ≡ levels_behind count items
    → count ≡ 2 ^ block.log2_size * 2 ^ block.log2_size
    → after
    ≡ constructed (depth_of format block.component) block.component (samples_of_place block.component * block.x)
    (samples_of_place block.component * block.y) (2 ^ block.log2_size)
    (residuals_behind format mode block qp items) before
unfolding residuals
bypass_constructed format mode block qp items levels count place depth before after told at e bypasses read counts =
    placed format block place depth _ _ before after told at e
    (λ i j hi hj. rw (bypasses, at)
    (ap (λ (l : List ℤ). block_in (2 ^ block.log2_size) l i j) (read ∙ ap (λ (n : ℕ). levels_behind n items) counts)))

-- a block whose levels are scaled
pub scaled_constructed : (format : UnitFormat) (mode : UnitMode) (block : CodedBlock) (qp parameter : ℕ)
    (items : List Item) (levels out : List ℤ) (count : ℕ) (place : Place) (depth : ℕ) (before after : Known)
    → after ≡ constructed depth place.c place.x place.y (2 ^ place.log2) (block_in (2 ^ place.log2) out) before
    → place ≡ place_of block → depth ≡ depth_of format block.component
    → mode.transquant_bypass ≡ false → levels ≡ levels_behind count items
    → count ≡ 2 ^ block.log2_size * 2 ^ block.log2_size
    → parameter ≡ parameter_of format block.component qp
    → ((x y : ℕ) → x < 2 ^ block.log2_size → y < 2 ^ block.log2_size
    → block_in (2 ^ block.log2_size) out x y ≡ residuals format mode block parameter levels x y)
    → after
    ≡ constructed (depth_of format block.component) block.component (samples_of_place block.component * block.x)
    (samples_of_place block.component * block.y) (2 ^ block.log2_size)
    (residuals_behind format mode block qp items) before
scaled_constructed format mode block qp parameter items levels out count place depth before after told at e scales
    read counts is gave =
    placed format block place depth _ _ before after told at e
    (λ i j hi hj. rw at (gave i j hi hj ∙ ap (λ (p : ℕ). residuals format mode block p levels i j) is
    ∙ ap (λ (l : List ℤ). residuals format mode block (parameter_of format block.component qp) l i j)
    (read ∙ ap (λ (n : ℕ). levels_behind n items) counts)))

-- a predicted block
pub predicted_laid : (format : UnitFormat) (motion : vectors.Known) (place : Place) (mode depth : ℕ)
    (edge samples : List ℕ) (before after : Known)
    → after ≡ laid place.c place.x place.y (2 ^ place.log2) (block_of (2 ^ place.log2) samples) before
    → ((x y : ℕ) → x < 2 ^ place.log2 → y < 2 ^ place.log2
    → get_or samples (2 ^ place.log2 * y + x) 0
    ≡ predicted place.c place.log2 mode format.strong_intra_smoothing depth edge x y)
    → edge
    ≡ substituted (depth_of format place.c)
    (beside (offered format motion before place.c) (2 ^ place.log2) place.x place.y)
    → depth ≡ depth_of format place.c
    → after ≡ block_predicted format motion place.c place.log2 mode place.x place.y before
unfolding block_predicted
predicted_laid format motion place mode depth edge samples before after told each gathered deep =
    told ∙ laid_same _ _ _ _ _ _ before (λ i j hi hj.
    each i j hi hj
    ∙ ap (λ (p : List ℕ). predicted place.c place.log2 mode format.strong_intra_smoothing depth p i j) gathered
    ∙ ap (λ (d : ℕ). predicted place.c place.log2 mode format.strong_intra_smoothing d
    (substituted (depth_of format place.c)
    (beside (offered format motion before place.c) (2 ^ place.log2) place.x place.y))
    i j)
    deep)

-- samples by pulse code modulation
pub pulses_component : (place : Place) (first places count : ℕ) (items : List Item) (block : List ℕ)
    (before after : Known)
    → after ≡ laid place.c place.x place.y (2 ^ place.log2) (block_of (2 ^ place.log2) block) before
    → ((k : ℕ) → k < count → get_or block k 0 ≡ sample_of (get_or items (first + k) (Sample 0)) * 2 ^ places % 65536)
    → count ≡ 2 ^ place.log2 * 2 ^ place.log2
    → ((k : ℕ) → k < 2 ^ place.log2 * 2 ^ place.log2
    → sample_of (get_or items (first + k) (Sample 0)) * 2 ^ places < 65536)
    → after ≡ laid place.c place.x place.y (2 ^ place.log2) (shifted places first items (2 ^ place.log2)) before
pulses_component place first places count items block before after told each counts small =
    told ∙ laid_same _ _ _ _ _ _ before (λ i j hi hj.
    let n : ℕ = 2 ^ place.log2 in
    let lt : n * j + i < count = rw counts (below_square n i j hi hj) in
    let e : first + (n * j + i) ≡ first + n * j + i = omega arith in
    each (n * j + i) lt ∙ mod-eq_of_lt (small (n * j + i) (below_square n i j hi hj))
    ∙ ap (λ (k : ℕ). sample_of (get_or items k (Sample 0)) * 2 ^ places) e)

-- those of a coding unit
pub pulses_unit : (format : UnitFormat) (square : Square) (items : List Item) (p q r : Place)
    (of_luma of_cb luma chroma : ℕ) (before first second after : Known)
    → after ≡ laid r.c r.x r.y (2 ^ r.log2) (shifted chroma (of_luma + of_cb) items (2 ^ r.log2)) second
    → second ≡ laid q.c q.x q.y (2 ^ q.log2) (shifted chroma of_luma items (2 ^ q.log2)) first
    → first ≡ laid p.c p.x p.y (2 ^ p.log2) (shifted luma 0 items (2 ^ p.log2)) before
    → p ≡ luma_place square → q ≡ chroma_place 1 square → r ≡ chroma_place 2 square
    → of_luma ≡ 2 ^ p.log2 * 2 ^ p.log2 → of_cb ≡ 2 ^ q.log2 * 2 ^ q.log2
    → luma ≡ format.luma_depth - format.pcm_luma_bits → chroma ≡ format.chroma_depth - format.pcm_chroma_bits
    → after ≡ pulses_laid format square items before
unfolding pulses_laid
pulses_unit format square items p q r of_luma of_cb luma chroma before first second after a s f ep eq er en eh el ec =
    let sl = luma_side square.log2_size in
    let sc = chroma_side square.log2_size in
    rw (a, s, f, en, eh, ep, eq, er, el, ec, sl, sc) refl
