-- The parts of units by the numbers of their picture.
use Rattle.std.proofs.Common.{◌≡◌, ℕ, ◌*◌, ◌/◌, ◌%◌, ◌^◌, ◌≤◌, ap, subst, ◌∙◌, arith}
use Rattle.std.proofs.Math.Nat.{mul-le-mul_left}
use Rattle.spec_picture_build.specs.SpecSliceData.{PictureShape}
use Rattle.spec_picture_build.specs.SpecSliceData.{samples_of_place}
use Rattle.spec_picture_build.specs.Border.{height_of, unit_side, width_of}
use Rattle.unit_build.specs.declared.part.Part.{Part}
use Rattle.unit_build.specs.Parts.{IsPart}
use Rattle.picture_motion.specs.PictureLayout.{IsShape}

-- units cover the rows of each plane
pub covered : (picture : PictureShape) (c : ℕ) → IsShape picture
    → width_of picture c ≤ unit_side picture c * picture.width
covered picture c shape =
    let le = mul-le-mul_left (samples_of_place c) shape.covered in
    let e : samples_of_place c * (2 ^ picture.size * picture.width) ≡ unit_side picture c * picture.width =
    grind arith in
    subst (λ n. width_of picture c ≤ n) e le

-- a component of a picture: a unit's side, the units of a row, the plane's sides, and the unit's address
abbrev pub part_of : ℕ → ℕ → ℕ → ℕ → ℕ → ℕ → Part
part_of c n w W H a = record { c = c; side = n; x = n * (a % w); y = n * (a / w); width = W; height = H }

abbrev part_with : ℕ → ℕ → ℕ → ℕ → ℕ → ℕ → Part
part_with c n x y W H = record { c = c; side = n; x = x; y = y; width = W; height = H }

same_parts : (c n m x u y v W V H G : ℕ) → n ≡ m → x ≡ u → y ≡ v → W ≡ V → H ≡ G
    → part_with c n x y W H ≡ part_with c m u v V G
same_parts c n m x u y v W V H G en ex ey ew eh =
    ap (λ k. part_with c k x y W H) en ∙ ap (λ k. part_with c m k y W H) ex ∙ ap (λ k. part_with c m u k W H) ey
    ∙ ap (λ k. part_with c m u v k H) ew ∙ ap (λ k. part_with c m u v V k) eh

-- a part with the numbers of a unit
pub whole_part : (picture : PictureShape) (a : ℕ) (part : Part) → IsPart picture a part
    → part
    ≡ part_of part.c (unit_side picture part.c) picture.width (width_of picture part.c) (height_of picture part.c) a
whole_part picture a part e = same_parts part.c _ _ _ _ _ _ _ _ _ _ e.side e.x e.y e.width e.height
