-- Planes of which some units are laid.
use Rattle.std.proofs.Common.{◌≡◌, ℕ, zero, suc, ◌+◌, ◌-◌, ◌*◌, ◌/◌, ◌%◌, ◌^◌, ◌<◌, ◌≤◌, ◌==◌, ◌&&◌, nat_lt, max, min}
use Rattle.std.proofs.Common.{Bool, true, false, Option, None, slice_index, refl, sym, ap, subst, ◌∙◌}
use Rattle.std.proofs.Common.{if◌then◌else◌, arith}
use Rattle.std.specs.Option.{unwrap_or}
use Rattle.std.proofs.Math.Nat.{div-le_self, mul-le-mul_left}
use Rattle.std.proofs.Math.Path.{fun_ext}
use Rattle.std.proofs.lemmas.Bool.{and_parts, ltb-true}
use Rattle.std.proofs.lemmas.Bool.Decides.{nat_tests}
use Rattle.std.proofs.lemmas.Grind.{div_ceil_times}
use Rattle.std.proofs.lemmas.List.FromFn.{get_or-map-range_with_len}
use Rattle.std.proofs.lemmas.Nat.{div-mul-add, div_below, mod-mul-add}
use Rattle.spec_slice_data.specs.Residual.{samples_of_place}
use Rattle.spec_slice_data.specs.Segment.{PictureShape}
use Rattle.picture_trees.specs.SpecPictureTrees.{unit_at}
use Rattle.spec_picture_build.specs.Border.{Samples, has_sample, height_of, unit_column, unit_line, unit_side}
use Rattle.spec_picture_build.specs.Border.{width_of}
use Rattle.spec_picture_build.specs.Built.{is_of_unit, unit_laid}
use Rattle.spec_reconstruction.specs.Known.{Known}
use Rattle.picture_trees.specs.PictureLayout.{IsShape}
use Rattle.picture_trees.proofs.PictureLayoutLemmas.{whole}
use Rattle.picture_buffer.specs.Planes.{HasSides, PictureSamples, PlaneSamples, plane_at}
use Rattle.picture_buffer.specs.Planes.{samples_of}
use Rattle.unit_build.specs.declared.part.Part.{Part}
use Rattle.unit_build.specs.Parts.{IsPart}
use Rattle.unit_build.proofs.Covering.{covered}
use Rattle.unit_build.proofs.Places.{block_is}
use Rattle.picture_build.specs.Fresh.{laid_plane, laid_planes}
use Rattle.picture_build.proofs.Added.{some_samples, some_side}
use Rattle.picture_build.proofs.Filtered.{has_by_planes, outside}

none_at : (b : Bool) (v : ℕ) → v ≡ 0 → (if b then v else 0) ≡ 0
none_at true v e = e
none_at false v e = refl

-- a place of a plane, in a list of its rows
module _ (w h x y : ℕ) (hx : x < w) (hy : y < h) where
  turned : w * y + x ≡ y * w + x
  turned = grind arith

  column_at : (w * y + x) % w ≡ x
  column_at = ap (λ n. n % w) turned ∙ mod-mul-add y w x hx

  row_at : (w * y + x) / w ≡ y
  row_at = ap (λ n. n / w) turned ∙ div-mul-add y w x hx

  place_inside : w * y + x < w * h
  place_inside =
      let more : w * (y + 1) ≤ w * h = mul-le-mul_left w (omega (arith, hy)) in
      let next : w * (y + 1) ≡ w * y + w = grind arith in
      omega (arith, more, next, hx)

-- a sample of a plane: 0 in the units from an address on
plane_laid : (picture : PictureShape) (laid side : ℕ) (plane : PlaneSamples) (x y : ℕ) (t : Bool)
    → (nat_lt x plane.width && nat_lt y plane.height) ≡ t
    → plane_at (laid_plane picture laid side plane) x y
    ≡ (if nat_lt (unit_at picture side x y) laid then plane_at plane x y else 0)
unfolding laid_plane plane_at
plane_laid picture laid side plane x y false e =
    let value : ℕ → Bool → ℕ = λ v t. if t then v else 0 in
    ap (value _) e
    ∙ sym (none_at (nat_lt (unit_at picture side x y) laid) _
    (ap (value (slice_index plane.samples (plane.width * y + x))) e))
plane_laid picture laid side plane x y true e =
    let w : ℕ = plane.width in
    let k : ℕ = w * y + x in
    let v : ℕ = slice_index plane.samples k in
    let value : ℕ → Bool → ℕ = λ n t. if t then n else 0 in
    let parts = and_parts (nat_lt x w) (nat_lt y plane.height) e in
    let hx = ltb-true x w parts.0 in
    let hy = ltb-true y plane.height parts.1 in
    ap (value _) e
    ∙ get_or-map-range_with_len
    (λ n. if nat_lt (unit_at picture side (n % w) (n / w)) laid then slice_index plane.samples n else 0) 0
    (w * plane.height) k k 0 (place_inside w plane.height x y hx hy) (omega arith)
    ∙ ap (λ n. value v (nat_lt (unit_at picture side n (k / w)) laid)) (column_at w plane.height x y hx hy)
    ∙ ap (λ n. value v (nat_lt (unit_at picture side x n) laid)) (row_at w plane.height x y hx hy)
    ∙ ap (λ n. value n (nat_lt (unit_at picture side x y) laid)) (sym (ap (value v) e))

-- a sample of such planes
pub samples_laid : (picture : PictureShape) (laid : ℕ) (planes : PictureSamples) (c x y : ℕ)
    → samples_of (laid_planes picture laid planes) c x y
    ≡ (if nat_lt (unit_at picture (unit_side picture c) x y) laid then samples_of planes c x y else 0)
unfolding laid_planes samples_of
samples_laid picture laid planes zero x y = plane_laid picture laid (unit_side picture 0) planes.luma x y _ refl
samples_laid picture laid planes (suc zero) x y = plane_laid picture laid (unit_side picture 1) planes.cb x y _ refl
samples_laid picture laid planes (suc (suc zero)) x y =
    plane_laid picture laid (unit_side picture 2) planes.cr x y _ refl
samples_laid picture laid planes (suc (suc (suc c))) x y =
    let none : samples_of planes (suc (suc (suc c))) x y ≡ 0 = grind (arith, nat_tests) in
    let also : samples_of (laid_planes picture laid planes) (suc (suc (suc c))) x y ≡ 0 = grind (arith, nat_tests) in
    also ∙ sym (none_at (nat_lt (unit_at picture (unit_side picture (suc (suc (suc c)))) x y) laid) _ none)

-- one of a unit that is laid, and one of another
pub laid_there : (picture : PictureShape) (laid : ℕ) (planes : PictureSamples) (c x y : ℕ)
    → unit_at picture (unit_side picture c) x y < laid
    → samples_of (laid_planes picture laid planes) c x y ≡ samples_of planes c x y
laid_there picture laid planes c x y lt =
    let e = samples_laid picture laid planes c x y in grind (arith, nat_tests)

pub laid_nowhere : (picture : PictureShape) (laid : ℕ) (planes : PictureSamples) (c x y : ℕ)
    → laid ≤ unit_at picture (unit_side picture c) x y
    → samples_of (laid_planes picture laid planes) c x y ≡ 0
laid_nowhere picture laid planes c x y le =
    let e = samples_laid picture laid planes c x y in grind (arith, nat_tests)

-- a sample of the picture, or of none of its units
one_more : (h : Bool) (u a laid more v s : ℕ) → a ≤ laid → more ≡ max laid (a + 1) → (h ≡ false → s ≡ 0)
    → (if nat_lt u more then (if h && (u == a) then v else s) else 0)
    ≡ (if h && (u == a) then v else (if nat_lt u laid then s else 0))
one_more true u a laid more v s le e none = grind (arith, nat_tests)
one_more false u a laid more v s le e none =
    none_at (nat_lt u more) s (none refl) ∙ sym (none_at (nat_lt u laid) s (none refl))

-- a unit more is laid
pub more_laid : (picture : PictureShape) (a laid more : ℕ) (known : Known) (old new : PictureSamples)
    → HasSides old (4 * picture.across) (4 * picture.down) → a ≤ laid → more ≡ max laid (a + 1)
    → samples_of new ≡ unit_laid picture a known (samples_of old)
    → samples_of (laid_planes picture more new)
    ≡ unit_laid picture a known (samples_of (laid_planes picture laid old))
unfolding unit_laid
more_laid picture a laid more known old new sides le e told = fun_ext (λ c. fun_ext (λ x. fun_ext (λ y. at c x y)))
  where
    at : (c x y : ℕ) → samples_of (laid_planes picture more new) c x y
        ≡ unit_laid picture a known (samples_of (laid_planes picture laid old)) c x y
    at c x y =
        let u : ℕ = unit_at picture (unit_side picture c) x y in
        let v : ℕ = unwrap_or (known c (x - unit_column picture c a + 1) (y - unit_line picture c a + 1)) 0 in
        samples_laid picture more new c x y
        ∙ ap (λ (f : Samples). if nat_lt u more then f c x y else 0) told
        ∙ one_more (has_sample picture c x y) u a laid more v (samples_of old c x y) le e
        (λ none. outside old c x y (sym (has_by_planes old picture c x y sides) ∙ none))
        ∙ ap (λ n. if is_of_unit picture a c x y then v else n) (sym (samples_laid picture laid old c x y))

-- zeros over a unit that isn't laid leave what stands there as it counts
zero_either : (b : Bool) (u a n : ℕ) → (a ≤ u → n ≡ 0) → (if b && (u == a) then 0 else n) ≡ n
zero_either true u a n none = grind (arith, nat_tests)
zero_either false u a n none = refl

pub zeros_laid : (picture : PictureShape) (a : ℕ) (known : Known) (samples : Samples)
    → ((c x y : ℕ) → known c x y ≡ None)
    → ((c x y : ℕ) → a ≤ unit_at picture (unit_side picture c) x y → samples c x y ≡ 0)
    → unit_laid picture a known samples ≡ samples
unfolding unit_laid
zeros_laid picture a known samples nothing none = fun_ext (λ c. fun_ext (λ x. fun_ext (λ y. at c x y)))
  where
    at : (c x y : ℕ) → unit_laid picture a known samples c x y ≡ samples c x y
    at c x y =
        ap (λ (o : Option ℕ). if is_of_unit picture a c x y then unwrap_or o 0 else samples c x y) (nothing c _ _)
        ∙ zero_either (has_sample picture c x y) (unit_at picture (unit_side picture c) x y) a (samples c x y)
        (none c x y)

-- the planes themselves, where all units are laid
pub all_laid : (picture : PictureShape) (laid : ℕ) (planes : PictureSamples)
    → HasSides planes (4 * picture.across) (4 * picture.down)
    → ((c x y : ℕ) → has_sample picture c x y ≡ true → unit_at picture (unit_side picture c) x y < laid)
    → samples_of planes ≡ samples_of (laid_planes picture laid planes)
all_laid picture laid planes sides all = fun_ext (λ c. fun_ext (λ x. fun_ext (λ y. at c x y _ refl)))
  where
    at : (c x y : ℕ) (t : Bool) → has_sample picture c x y ≡ t
        → samples_of planes c x y ≡ samples_of (laid_planes picture laid planes) c x y
    at c x y true e = sym (laid_there picture laid planes c x y (all c x y e))
    at c x y false e =
        let none = outside planes c x y (sym (has_by_planes planes picture c x y sides) ∙ e) in
        none
        ∙ sym (samples_laid picture laid planes c x y
        ∙ none_at (nat_lt (unit_at picture (unit_side picture c) x y) laid) _ none)

-- the unit of a sample is one of the picture's
unit_below : (n w W H rows x y : ℕ) → 1 ≤ n → W ≤ n * w → H ≤ rows * n → x < W → y < H
    → w * (y / n) + x / n < w * rows
unit_below n w W H rows x y some wide high hx hy =
    let f : n * w ≡ w * n = grind arith in
    let q = div_below x n w some (omega (arith, f, hx, wide)) in
    let r = div_below y n rows some (omega (arith, hy, high)) in
    let more : w * (y / n + 1) ≤ w * rows = mul-le-mul_left w (omega (arith, r)) in
    let next : w * (y / n + 1) ≡ w * (y / n) + w = grind arith in
    omega (arith, q, more, next)

pub unit_inside : (picture : PictureShape) (rows units : ℕ) → IsShape picture → picture.down ≤ rows * 2 ^ picture.size
    → units ≡ picture.width * rows → (c x y : ℕ) → has_sample picture c x y ≡ true
    → unit_at picture (unit_side picture c) x y < units
unfolding has_sample unit_at
unit_inside picture rows units shape high e c x y has =
    let scale : ℕ = samples_of_place c in
    let n : ℕ = unit_side picture c in
    let big = mul-le-mul_left scale (some_side picture.size) in
    let one = some_samples c in
    let some : 1 ≤ n = omega (arith, big, one) in
    let lines : scale * picture.down ≤ scale * (rows * 2 ^ picture.size) = mul-le-mul_left scale high in
    let whole : scale * (rows * 2 ^ picture.size) ≡ rows * n = grind arith in
    let inside : x < width_of picture c = grind (arith, nat_tests) in
    let lower : y < height_of picture c = grind (arith, nat_tests) in
    let below = unit_below n picture.width (width_of picture c) (height_of picture c) rows x y some
    (covered picture c shape) (omega (arith, lines, whole)) inside lower in
    omega (arith, below, e)

-- the units of a picture are few
pub few_units : (w down side rows units : ℕ) → w ≤ 512 → down ≤ 2048 → rows ≡ down / side + min 1 (down % side)
    → units ≡ w * rows → units ≤ 4294967296
few_units w down side rows units few low e f =
    let less = div-le_self down side in
    let most : rows ≤ 2049 = omega (arith, e, less, low) in
    let a : w * rows ≤ w * 2049 = mul-le-mul_left w most in
    omega (arith, a, f, few)

pub rows_cover : (down side rows : ℕ) → 1 ≤ side → rows ≡ down / side + min 1 (down % side) → down ≤ rows * side
rows_cover down side rows some e = rw e (div_ceil_times down side some).0

-- a number by its row and its column
by_row : (a w : ℕ) → w * (a / w) + a % w ≡ a
by_row a w = let e = whole a w in grind arith

-- the last column or line before a unit's first one is of the unit before
last_before : (n q x : ℕ) → 1 ≤ n → x + 1 ≡ n * q → x / n + 1 ≡ q
last_before n zero x some e = absurd (let none : n * 0 ≡ 0 = grind arith in omega (arith, e, none))
last_before n (suc q) x some e =
    let next : n * suc q ≡ n * q + n = grind arith in
    let at : x / n ≡ q = block_is n q x (omega (arith, e, next)) (omega (arith, e, next, some)) in
    omega (arith, at)

-- the units on the left of one, and above it
left_before : (n w a x y : ℕ) → 1 ≤ n → x + 1 ≡ n * (a % w) → n * (a / w) ≤ y → y < n * (a / w) + n
    → w * (y / n) + x / n < a
left_before n w a x y some e low high =
    let q = last_before n (a % w) x some e in
    let r : w * (y / n) ≡ w * (a / w) = ap (λ k. w * k) (block_is n (a / w) y low high) in
    let at = by_row a w in
    omega (arith, q, r, at)

above_before : (n w W a x y : ℕ) → 1 ≤ n → W ≤ n * w → x < W → y + 1 ≡ n * (a / w) → w * (y / n) + x / n < a
above_before n w W a x y some wide hx e =
    let f : n * w ≡ w * n = grind arith in
    let q = div_below x n w some (omega (arith, f, hx, wide)) in
    let r = last_before n (a / w) y some e in
    let rows : w * (y / n + 1) ≡ w * (a / w) = ap (λ k. w * k) r in
    let next : w * (y / n + 1) ≡ w * (y / n) + w = grind arith in
    let at = by_row a w in
    omega (arith, q, rows, next, at)

-- the samples beside a part of a unit are of units before it
pub above_laid : (picture : PictureShape) (a : ℕ) (part : Part) (x : ℕ) → IsShape picture → IsPart picture a part
    → 1 ≤ part.side → 1 ≤ part.y → x < part.width
    → unit_at picture (unit_side picture part.c) x (part.y - 1) < a
unfolding unit_at
above_laid picture a part x shape e some lower hx =
    above_before (unit_side picture part.c) picture.width (width_of picture part.c) a x (part.y - 1)
    (subst (λ n. 1 ≤ n) e.side some) (covered picture part.c shape) (subst (λ n. x < n) e.width hx)
    (omega (arith, lower, e.y))

pub left_laid : (picture : PictureShape) (a : ℕ) (part : Part) (line : ℕ) → IsPart picture a part
    → 1 ≤ part.x → line < part.side
    → unit_at picture (unit_side picture part.c) (part.x - 1) (part.y + line) < a
unfolding unit_at
left_laid picture a part line e right lt =
    left_before (unit_side picture part.c) picture.width a (part.x - 1) (part.y + line)
    (omega (arith, lt, e.side)) (omega (arith, right, e.x)) (omega (arith, e.y)) (omega (arith, e.y, lt, e.side))
