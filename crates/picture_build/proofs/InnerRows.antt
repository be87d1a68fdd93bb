-- Samples of rows inside a picture, which clamping leaves where they are.
use Rattle.std.proofs.Common.{◌≡◌, ℕ, ℤ, ◌+◌, ◌-◌, ◌*◌, ◌<◌, ◌≤◌, ◌&&◌, Bool, true, false, cond, nat_le, nat_lt, List}
use Rattle.std.proofs.Common.{pos, ◌+ℤ◌, min, refl, ◌∙◌, arith}
use Rattle.std.proofs.lemmas.Bool.Decides.{nat_tests}
use Rattle.inter_pred.specs.Passes.{at}
use Rattle.inter_pred.proofs.Inside.{clamped_inside}
use Rattle.picture_buffer.specs.Planes.{PictureSamples, plane_height, plane_width, samples_of}
use Rattle.picture_build.specs.Referring.{held_sample}

-- a sample inside
pub inner_sample : (planes : PictureSamples) (c greatest x y i j s : ℕ) (fx fy : ℤ) → fx ≡ pos x → fy ≡ pos y
    → x + i < plane_width planes c → y + j < plane_height planes c → s ≡ samples_of planes c (x + i) (y + j)
    → min s greatest ≡ held_sample planes c greatest (fx +ℤ pos i) (fy +ℤ pos j)
inner_sample planes c greatest x y i j s fx fy ex ey lx ly e =
    rw (ex, ey, clamped_inside x i (plane_width planes c) lx, clamped_inside y j (plane_height planes c) ly, e) refl

chosen_same : (b : Bool) (r s t v : ℕ) → r ≡ cond b s v → (b ≡ true → s ≡ t) → r ≡ cond b t v
chosen_same true r s t v e same = e ∙ same refl
chosen_same false r s t v e same = e

-- w samples of a row, laid from line j of a window on
pub row_laid : (planes : PictureSamples) (c greatest x y w j : ℕ) (fx fy : ℤ) (row before now : List ℕ)
    → fx ≡ pos x → fy ≡ pos y → x + w ≤ plane_width planes c → y + j < plane_height planes c
    → ((i : ℕ) → i < plane_width planes c → at row i ≡ samples_of planes c i (y + j))
    → (q : ℕ)
    → at now q
    ≡ cond (nat_le (72 * j) q && nat_lt q (72 * j + w)) (min (at row (x + (q - 72 * j))) greatest) (at before q)
    → at now q
    ≡ cond (nat_le (72 * j) q && nat_lt q (72 * j + w))
    (held_sample planes c greatest (fx +ℤ pos (q - 72 * j)) (fy +ℤ pos j)) (at before q)
row_laid planes c greatest x y w j fx fy row before now ex ey wide low told q e =
    chosen_same (nat_le (72 * j) q && nat_lt q (72 * j + w)) (at now q) (min (at row (x + (q - 72 * j))) greatest)
    (held_sample planes c greatest (fx +ℤ pos (q - 72 * j)) (fy +ℤ pos j)) (at before q) e (λ here.
    let lt : q - 72 * j < w = grind (arith, nat_tests, here) in
    inner_sample planes c greatest x y (q - 72 * j) j _ fx fy ex ey (omega (arith, lt, wide)) low
    (told (x + (q - 72 * j)) (omega (arith, lt, wide))))
