-- A picture's size in units and in places.
use Rattle.std.proofs.Common.{◌≡◌, ℕ, Bool, zero, suc, ◌+◌, ◌-◌, ◌*◌, ◌/◌, ◌%◌, ◌^◌, ◌<◌, ◌≤◌, ap, sym, subst, ◌∙◌}
use Rattle.std.proofs.Common.{arith}
use Rattle.std.proofs.lemmas.Nat.{div-mul-add}
use Rattle.spec_picture_trees.specs.HeaderTypes.{SpsFields}
use Rattle.spec_picture_trees.specs.HeaderTypes.{IsSps, blocks_across, ctb_log2, width_in_ctbs}
use Rattle.picture_layout.specs.Shape.{IsShape}
use Rattle.picture_layout.proofs.Places.{before, block_begins, block_ends, whole}

-- a side in samples, by that in places
pub four : (m : ℕ) → 2 ≤ m → 2 ^ m ≡ 4 * 2 ^ (m - 2)
four m least =
    let e : m ≡ suc (suc (m - 2)) = omega arith in
    let twice : 2 ^ suc (suc (m - 2)) ≡ 2 * (2 * 2 ^ (m - 2)) = grind arith in
    let all : 2 * (2 * 2 ^ (m - 2)) ≡ 4 * 2 ^ (m - 2) = grind arith in
    ap (λ k. 2 ^ k) e ∙ twice ∙ all

-- sides are whole places
pub whole_places : (w m : ℕ) → 2 ≤ m → w % 2 ^ m ≡ 0 → 4 * (w / 4) ≡ w
whole_places w m least none =
    let wh = whole w (2 ^ m) in
    let f = four m least in
    let times : w / 2 ^ m * 2 ^ m ≡ w / 2 ^ m * (4 * 2 ^ (m - 2)) = ap (λ k. w / 2 ^ m * k) f in
    let fours : w / 2 ^ m * (4 * 2 ^ (m - 2)) ≡ w / 2 ^ m * 2 ^ (m - 2) * 4 + 0 = grind arith in
    let e : w ≡ w / 2 ^ m * 2 ^ (m - 2) * 4 + 0 = omega (arith, wh, times, fours, none) in
    let d : w / 4 ≡ w / 2 ^ m * 2 ^ (m - 2) =
    ap (λ k. k / 4) e ∙ div-mul-add (w / 2 ^ m * 2 ^ (m - 2)) 4 0 (omega arith) in
    omega (arith, d, e)

-- units cover a row
pub covers : (w m : ℕ) → 2 ≤ m → 1 ≤ 2 ^ m → 4 * (w / 4) ≡ w → w / 4 ≤ 2 ^ (m - 2) * blocks_across (2 ^ m) w
unfolding blocks_across
covers w m least some places =
    let s : ℕ = 2 ^ m in
    let ends = block_ends (2 ^ m) (w + (2 ^ m - 1)) some in
    let f : 2 ^ m * ((w + (2 ^ m - 1)) / 2 ^ m) ≡ 4 * 2 ^ (m - 2) * ((w + (2 ^ m - 1)) / 2 ^ m) =
    ap (λ k. k * ((w + (2 ^ m - 1)) / 2 ^ m)) (four m least) in
    let g : 4 * 2 ^ (m - 2) * ((w + (2 ^ m - 1)) / 2 ^ m) ≡ 4 * (2 ^ (m - 2) * ((w + (2 ^ m - 1)) / 2 ^ m)) =
    grind arith in
    omega (arith, ends, f, g, places)

-- and none of them is past its end
pub needs : (w m : ℕ) → 2 ≤ m → 1 ≤ 2 ^ m → 4 * (w / 4) ≡ w → 1 ≤ w → 1 ≤ blocks_across (2 ^ m) w
    → 2 ^ (m - 2) * (blocks_across (2 ^ m) w - 1) < w / 4
unfolding blocks_across
needs w m least some places wide units =
    let begins = block_begins (2 ^ m) (w + (2 ^ m - 1)) in
    let last = before (2 ^ m) ((w + (2 ^ m - 1)) / 2 ^ m) units in
    let f : 2 ^ m * ((w + (2 ^ m - 1)) / 2 ^ m - 1) ≡ 4 * 2 ^ (m - 2) * ((w + (2 ^ m - 1)) / 2 ^ m - 1) =
    ap (λ k. k * ((w + (2 ^ m - 1)) / 2 ^ m - 1)) (four m least) in
    let g : 4 * 2 ^ (m - 2) * ((w + (2 ^ m - 1)) / 2 ^ m - 1) ≡ 4 * (2 ^ (m - 2) * ((w + (2 ^ m - 1)) / 2 ^ m - 1)) =
    grind arith in
    omega (arith, begins, last, f, g, places, wide)

-- the sides of a picture whose sequence parameter set is in range
pub whole_width : (sps : SpsFields) → IsSps sps
    → 4 * (sps.format.pic_width_in_luma_samples / 4) ≡ sps.format.pic_width_in_luma_samples
whole_width sps s = whole_places _ _ (omega arith) s.blocks.columns

pub whole_height : (sps : SpsFields) → IsSps sps
    → 4 * (sps.format.pic_height_in_luma_samples / 4) ≡ sps.format.pic_height_in_luma_samples
whole_height sps s = whole_places _ _ (omega arith) s.blocks.rows

small_size : (m : ℕ) → 4 ≤ m → m ≤ 6 → 1 ≤ 2 ^ m
small_size m least most = let f = four m (omega arith) in pow_some m
  where
    pow_some : (k : ℕ) → 1 ≤ 2 ^ k
    pow_some zero = omega arith
    pow_some (suc k) = let one = pow_some k in let e : 2 ^ suc k ≡ 2 * 2 ^ k = grind arith in omega (arith, one, e)

pub shape_is : (sps : SpsFields) (width : ℕ) (sync : Bool) → IsSps sps → width ≡ width_in_ctbs sps → 1 ≤ width
    → width ≤ 512
    → IsShape (record {
      width = width;
      across = sps.format.pic_width_in_luma_samples / 4;
      down = sps.format.pic_height_in_luma_samples / 4;
      size = ctb_log2 sps.blocks - 2;
      sync = sync;
    })
shape_is sps width sync s e some few =
    let places = whole_width sps s in
    let lines = whole_height sps s in
    let one = small_size (ctb_log2 sps.blocks) s.blocks.least_ctb s.blocks.greatest_ctb in
    let two : 2 ≤ ctb_log2 sps.blocks = omega (arith, s.blocks.least_ctb) in
    record {
      some = some;
      few = few;
      least = omega (arith, s.blocks.least_ctb);
      greatest = omega (arith, s.blocks.greatest_ctb);
      across = omega (arith, places, s.format.width);
      down = omega (arith, lines, s.format.height);
      covered =
          subst (λ w. sps.format.pic_width_in_luma_samples / 4 ≤ 2 ^ (ctb_log2 sps.blocks - 2) * w) (sym e)
          (covers sps.format.pic_width_in_luma_samples (ctb_log2 sps.blocks) two one places);
      needed = subst (λ w. 2 ^ (ctb_log2 sps.blocks - 2) * (w - 1) < sps.format.pic_width_in_luma_samples / 4) (sym e)
          (needs sps.format.pic_width_in_luma_samples (ctb_log2 sps.blocks) two one places s.format.some_width
          (subst (λ w. 1 ≤ w) e some));
    }
