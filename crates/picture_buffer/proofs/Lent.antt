-- The planes of a picture whose samples are lent for writing.
use Rattle.std.proofs.Common.{◌≡◌, ℕ, zero, suc, Bool, true, false, ◌+◌, ◌*◌, ◌<◌, ◌==◌, ◌&&◌, ◌++◌, nat_lt, List}
use Rattle.std.proofs.Common.{length, get_or, take, drop, refl, ap, subst, ◌∙◌, arith, if◌then◌else◌}
use Rattle.std.proofs.lemmas.Bool.Decides.{nat_tests}
use Rattle.std.proofs.Math.Seq.{take-append_seam}
use Rattle.std.specs.List.{refill}
use Rattle.picture_buffer.specs.Planes.{HasSides, PictureSamples, PlaneSamples, plane_at, plane_height, plane_samples}
use Rattle.picture_buffer.specs.Planes.{plane_width, samples_of, with_component, with_samples}

refilled : (xs ws : List ℕ) → length ws ≡ length xs → refill (length xs) xs ws ≡ ws
refilled xs ws e =
    subst (λ (n : ℕ). take n (ws ++ drop (length ws) xs) ≡ ws) e (take-append_seam ws (drop (length ws) xs))

plane_read : (plane : PlaneSamples) (x y : ℕ) → x < plane.width → y < plane.height
    → plane_at plane x y ≡ get_or plane.samples (plane.width * y + x) 0
unfolding plane_at
plane_read plane x y a b =
    let t : (nat_lt x plane.width && nat_lt y plane.height) ≡ true = grind (arith, nat_tests) in
    rw t refl

plane_written : (plane : PlaneSamples) (ws : List ℕ) (x y : ℕ) → length ws ≡ length plane.samples → x < plane.width
    → y < plane.height → plane_at (with_samples plane ws) x y ≡ get_or ws (plane.width * y + x) 0
plane_written plane ws x y e a b =
    plane_read (with_samples plane ws) x y a b
    ∙ ap (λ (xs : List ℕ). get_or xs (plane.width * y + x) 0) (refilled plane.samples ws e)

-- a sample of a component stands in the list of them
pub read_at : (p : PictureSamples) (c x y : ℕ) → c < 3 → x < plane_width p c → y < plane_height p c
    → samples_of p c x y ≡ get_or (plane_samples p c) (plane_width p c * y + x) 0
unfolding samples_of
read_at p zero x y lt a b = plane_read p.luma x y a b
read_at p (suc zero) x y lt a b = plane_read p.cb x y a b
read_at p (suc (suc zero)) x y lt a b = plane_read p.cr x y a b
read_at p (suc (suc (suc c))) x y lt a b = absurd (omega (arith, lt))

-- and is read from what was written there
pub written_at : (p : PictureSamples) (c : ℕ) (ws : List ℕ) (x y : ℕ) → c < 3
    → length ws ≡ length (plane_samples p c) → x < plane_width p c → y < plane_height p c
    → samples_of (with_component p c ws) c x y ≡ get_or ws (plane_width p c * y + x) 0
unfolding samples_of
written_at p zero ws x y lt e a b = plane_written p.luma ws x y e a b
written_at p (suc zero) ws x y lt e a b = plane_written p.cb ws x y e a b
written_at p (suc (suc zero)) ws x y lt e a b = plane_written p.cr ws x y e a b
written_at p (suc (suc (suc c))) ws x y lt e a b = absurd (omega (arith, lt))

plane_stays : (b : Bool) (plane : PlaneSamples) (ws : List ℕ) → b ≡ false
    → (if b then with_samples plane ws else plane) ≡ plane
plane_stays b plane ws e = rw e refl

-- the other components stay
pub others_stay : (p : PictureSamples) (c : ℕ) (ws : List ℕ) (i x y : ℕ) → (i == c) ≡ false
    → samples_of (with_component p c ws) i x y ≡ samples_of p i x y
unfolding samples_of
others_stay p c ws zero x y apart =
    let t : (c == 0) ≡ false = grind (arith, nat_tests) in
    ap (λ (plane : PlaneSamples). plane_at plane x y) (plane_stays (c == 0) p.luma ws t)
others_stay p c ws (suc zero) x y apart =
    let t : (c == 1) ≡ false = grind (arith, nat_tests) in
    ap (λ (plane : PlaneSamples). plane_at plane x y) (plane_stays (c == 1) p.cb ws t)
others_stay p c ws (suc (suc zero)) x y apart =
    let t : (c == 2) ≡ false = grind (arith, nat_tests) in
    ap (λ (plane : PlaneSamples). plane_at plane x y) (plane_stays (c == 2) p.cr ws t)
others_stay p c ws (suc (suc (suc i))) x y apart =
    let luma : (suc (suc (suc i)) == 0) ≡ false = grind (arith, nat_tests) in
    let cb : (suc (suc (suc i)) == 1) ≡ false = grind (arith, nat_tests) in
    let cr : (suc (suc (suc i)) == 2) ≡ false = grind (arith, nat_tests) in
    rw (luma, cb, cr) refl

width_stays : (b : Bool) (plane : PlaneSamples) (ws : List ℕ)
    → (if b then with_samples plane ws else plane).width ≡ plane.width
width_stays true plane ws = refl
width_stays false plane ws = refl

height_stays : (b : Bool) (plane : PlaneSamples) (ws : List ℕ)
    → (if b then with_samples plane ws else plane).height ≡ plane.height
height_stays true plane ws = refl
height_stays false plane ws = refl

pub sides_stay : (p : PictureSamples) (c : ℕ) (ws : List ℕ) (width height : ℕ) → HasSides p width height
    → HasSides (with_component p c ws) width height
sides_stay p c ws width height sides = record {
  luma_width = width_stays (c == 0) p.luma ws ∙ sides.luma_width;
  luma_height = height_stays (c == 0) p.luma ws ∙ sides.luma_height;
  cb_width = width_stays (c == 1) p.cb ws ∙ sides.cb_width;
  cb_height = height_stays (c == 1) p.cb ws ∙ sides.cb_height;
  cr_width = width_stays (c == 2) p.cr ws ∙ sides.cr_width;
  cr_height = height_stays (c == 2) p.cr ws ∙ sides.cr_height;
}
