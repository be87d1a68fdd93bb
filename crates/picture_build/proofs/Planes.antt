-- The planes of a picture by its places.
use Rattle.std.proofs.Common.{◌≡◌, ℕ, zero, suc, ◌+◌, ◌*◌, ◌/◌, ◌<◌, sym, ap, ◌∙◌, arith}
use Rattle.std.proofs.lemmas.Nat.{div-mul-add}
use Rattle.spec_slice_data.specs.Segment.{PictureShape}
use Rattle.spec_picture_build.specs.Border.{height_of, width_of}
use Rattle.picture_buffer.specs.Planes.{PictureSamples, HasSides, plane_height, plane_width}
use Rattle.unit_build.specs.declared.part.Part.{Part}
use Rattle.unit_build.specs.Parts.{IsPart}

-- the planes' sides by their places
pub halves : (n : ℕ) → 4 * n / 2 ≡ 2 * n
halves n = let e : 4 * n ≡ 2 * n * 2 + 0 = grind arith in ap (λ k. k / 2) e ∙ div-mul-add (2 * n) 2 0 (omega arith)

pub widths : (p : PictureSamples) (picture : PictureShape) (c : ℕ) → c < 3
    → HasSides p (4 * picture.across) (4 * picture.down) → plane_width p c ≡ width_of picture c
widths p picture zero lt sides = sides.luma_width
widths p picture (suc zero) lt sides = sides.cb_width ∙ halves picture.across
widths p picture (suc (suc zero)) lt sides = sides.cr_width ∙ halves picture.across
widths p picture (suc (suc (suc c))) lt sides = absurd (omega (arith, lt))

pub heights : (p : PictureSamples) (picture : PictureShape) (c : ℕ) → c < 3
    → HasSides p (4 * picture.across) (4 * picture.down) → plane_height p c ≡ height_of picture c
heights p picture zero lt sides = sides.luma_height
heights p picture (suc zero) lt sides = sides.cb_height ∙ halves picture.down
heights p picture (suc (suc zero)) lt sides = sides.cr_height ∙ halves picture.down
heights p picture (suc (suc (suc c))) lt sides = absurd (omega (arith, lt))

-- a part's plane
pub part_width : (p : PictureSamples) (picture : PictureShape) (a : ℕ) (part : Part) → IsPart picture a part
    → HasSides p (4 * picture.across) (4 * picture.down) → plane_width p part.c ≡ part.width
part_width p picture a part e sides = widths p picture part.c e.component sides ∙ sym e.width

pub part_height : (p : PictureSamples) (picture : PictureShape) (a : ℕ) (part : Part) → IsPart picture a part
    → HasSides p (4 * picture.across) (4 * picture.down) → plane_height p part.c ≡ part.height
part_height p picture a part e sides = heights p picture part.c e.component sides ∙ sym e.height
