-- Squares inside the greatest unit, and the blocks that stand on them.
use Rattle.std.proofs.Common.{◌≡◌, ℕ, suc, ◌+◌, ◌-◌, ◌*◌, ◌^◌, ◌<◌, ◌≤◌, Bool, refl, sym, ap, subst, arith}
use Rattle.std.proofs.Math.Nat.{pow-suc, pow-le-pow_right}
use Rattle.std.proofs.lemmas.Nat.{pow_pos, pow-add}
use Rattle.ctu_records.specs.declared.item.Square.{Square}
use Rattle.ctu_records.specs.Tree.{Ctu}
use Rattle.spec_picture_build.specs.SpecReconstruction.{IsSquare, IsCoded}
use Rattle.spec_slice_data.specs.declared.syntax.UnitSyntax.{UnitSyntax}
use Rattle.spec_slice_data.specs.declared.syntax.TransformBlock.{TransformBlock}
use Rattle.spec_slice_data.specs.Modes.{upper_left, upper_right, lower_left, lower_right}
use Rattle.spec_slice_data.specs.Residual.{samples_of_place, coded}
use Rattle.spec_slice_data.specs.Transform.{chroma_transform, whole_of_fourth, luma_transform}
use Rattle.spec_slice_data.specs.Tree.{whole_unit}

-- a square of 2^n places on a side in the greatest unit
pub record IsInside (n : ℕ) (square : Square) : Type 0 where
  pub size : square.log2_size ≡ n
  pub x : square.x + 2 ^ n ≤ 16
  pub y : square.y + 2 ^ n ≤ 16

pub whole_inside : (size : ℕ) → size ≤ 4 → IsInside size (whole_unit size)
whole_inside size small =
    let most : 2 ^ size ≤ 2 ^ 4 = pow-le-pow_right {n = 2} (omega arith) small in
    record { size = refl; x = omega (arith, most); y = omega (arith, most) }

module _ (n : ℕ) (s : Square) (inside : IsInside (suc n) s) where
  smaller : s.log2_size - 1 ≡ n
  smaller = omega (arith, inside.size)

  half : 2 ^ (s.log2_size - 1) ≡ 2 ^ n
  half = ap (λ k. 2 ^ k) smaller

  pub upper_left_inside : IsInside n (upper_left s)
  upper_left_inside =
      record { size = smaller; x = omega (arith, inside.x, pow-suc 2 n); y = omega (arith, inside.y, pow-suc 2 n) }

  pub upper_right_inside : IsInside n (upper_right s)
  upper_right_inside = record {
    size = smaller;
    x = omega (arith, inside.x, half, pow-suc 2 n);
    y = omega (arith, inside.y, pow-suc 2 n);
  }

  pub lower_left_inside : IsInside n (lower_left s)
  lower_left_inside = record {
    size = smaller;
    x = omega (arith, inside.x, pow-suc 2 n);
    y = omega (arith, inside.y, half, pow-suc 2 n);
  }

  pub lower_right_inside : IsInside n (lower_right s)
  lower_right_inside = record {
    size = smaller;
    x = omega (arith, inside.x, half, pow-suc 2 n);
    y = omega (arith, inside.y, half, pow-suc 2 n);
  }

pub square_inside : (n : ℕ) (s : Square) → IsInside n s → s.log2_size ≤ 3 → IsSquare s
square_inside n s inside small =
    let side : 2 ^ s.log2_size ≡ 2 ^ n = ap (λ k. 2 ^ k) inside.size in
    record { size = small; x = omega (arith, inside.x, side); y = omega (arith, inside.y, side) }

-- a block whose transform_skip_flag isn't read yet
abbrev pub IsBlock : TransformBlock → Type 0
IsBlock block = (transform_skip : Bool) → IsCoded (coded block transform_skip)

pub luma_block_inside : (s : Square) (ctu : Ctu) → IsSquare s → IsBlock (luma_transform s ctu)
luma_block_inside s ctu square skip =
    let side : 2 ^ (s.log2_size + 2) ≡ 2 ^ s.log2_size * 4 = pow-add 2 s.log2_size 2 in
    let some : 0 < 2 ^ s.log2_size = pow_pos s.log2_size in
    record {
      component = omega arith;
      some = omega arith;
      few = omega (arith, square.size);
      column = omega (arith, square.x, some);
      row = omega (arith, square.y, some);
      x = omega (arith, square.x, side);
      y = omega (arith, square.y, side);
    }

pub chroma_block_inside : (unit : UnitSyntax) (c : ℕ) (s : Square) → c < 3 → samples_of_place c ≡ 2 → 1 ≤ s.log2_size
    → IsSquare s → IsBlock (chroma_transform unit c s)
chroma_block_inside unit c s known two least square skip =
    let side : 2 ^ (s.log2_size + 1) ≡ 2 ^ s.log2_size * 2 = pow-add 2 s.log2_size 1 in
    let some : 0 < 2 ^ s.log2_size = pow_pos s.log2_size in
    let column : 2 * s.x + 2 ^ (s.log2_size + 1) ≤ 64 = omega (arith, square.x, side) in
    let row : 2 * s.y + 2 ^ (s.log2_size + 1) ≤ 64 = omega (arith, square.y, side) in
    record {
      component = known;
      some = omega (arith, least);
      few = omega (arith, square.size);
      column = omega (arith, square.x, some);
      row = omega (arith, square.y, some);
      x = subst (λ n. n * s.x + 2 ^ (s.log2_size + 1) ≤ 64) (sym two) column;
      y = subst (λ n. n * s.y + 2 ^ (s.log2_size + 1) ≤ 64) (sym two) row;
    }

-- the square of which one in it is the fourth quarter
pub fourth_inside : (s : Square) → IsSquare s → IsSquare (whole_of_fourth s)
fourth_inside s square =
    let some : 0 < 2 ^ s.log2_size = pow_pos s.log2_size in
    record { size = omega arith; x = omega (arith, square.x, some); y = omega (arith, square.y, some) }
