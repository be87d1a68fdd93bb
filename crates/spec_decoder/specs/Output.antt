-- Pictures as they go out, and what is written of them.
use Rattle.std.specs.Prelude.{ℕ, suc, ◌-◌, ◌^◌, ℤ, min, List, [], ◌∷◌, ◌++◌, codes}
use Rattle.std.specs.Fmt.{decimal, signed_decimal}
use Rattle.header_types.specs.declared.sps.PictureFormat.{PictureFormat}
use Rattle.header_types.specs.SequenceParameterSets.{cropped_width, cropped_height}
use Rattle.hex.specs.Hex.{encode_lower}
use Rattle.md5.specs.Md5.{md5}
use Rattle.spec_decoded_pictures.specs.SpecPictureBuild.{Samples}
use Rattle.spec_decoded_pictures.specs.SpecPictureBuild.{picture_bytes}
use Rattle.spec_decoder.specs.declared.form.Form.{Form}
use Rattle.spec_decoder.specs.declared.form.Form.TheVariants as form

-- a picture as it goes out: PicOrderCntVal, the nal_unit_type of its slices, its format and its samples
pub record OutPicture : Type 0 where
  pub poc : ℤ
  pub nal_type : ℕ
  pub format : PictureFormat
  pub samples : Samples

-- its bytes: the planes Y, Cb and Cr inside the conformance window
abbrev pub bytes_out : OutPicture → List ℕ
bytes_out picture = picture_bytes picture.format picture.samples

-- the number of a picture, as far as it is told: it stops at the greatest of 64 bits
abbrev pub told_number : ℕ → ℕ
told_number k = min k (2 ^ 64 - 1)

-- <k> <md5>, the hash of the picture's bytes in hexadecimal digits
unfoldable pub hash_line : ℕ → OutPicture → List ℕ
hash_line k picture =
    decimal (told_number k) ++ (codes " " ++ (encode_lower (md5 (bytes_out picture)) ++ 10 ∷ []))

-- <k> <poc> <nal type> <width>x<height>, the sides in luma samples inside the conformance window
unfoldable pub list_line : ℕ → OutPicture → List ℕ
list_line k picture =
    decimal (told_number k) ++ (codes " " ++ (signed_decimal picture.poc
    ++ (codes " " ++ (decimal picture.nal_type
    ++ (codes " " ++ (decimal (cropped_width picture.format)
    ++ (codes "x" ++ (decimal (cropped_height picture.format) ++ 10 ∷ []))))))))

-- what is written of a picture of a number
abbrev pub piece_of : Form → ℕ → OutPicture → List ℕ
piece_of form.I420 k picture = bytes_out picture
piece_of form.Hash k picture = hash_line k picture
piece_of form.List k picture = list_line k picture

-- what is written of pictures, the first of which has this number: a piece of each
abbrev pub written : Form → ℕ → List OutPicture → List (List ℕ)
written form k [] = []
written form k (picture ∷ later) = piece_of form k picture ∷ written form (suc k) later
