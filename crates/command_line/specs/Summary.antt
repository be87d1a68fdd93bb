-- The line that sums a stream up.
use Rattle.std.specs.Prelude.{ℕ, List, [], ◌∷◌, ◌++◌, length, codes}
use Rattle.std.specs.Fmt.{decimal}
use Rattle.hex.specs.Hex.{encode_lower}
use Rattle.md5.specs.Md5.{md5}
use Rattle.spec_decoder.specs.declared.form.Form.TheVariants as form
use Rattle.spec_decoder.specs.Decoder.{Decoded, bytes_of}

-- pictures <K> bytes <n> md5 <digits>, by the number of pictures and their bytes
unfoldable pub summary_line : ℕ → List ℕ → List ℕ
summary_line pictures bytes =
    codes "pictures " ++ (decimal pictures
    ++ (codes " bytes " ++ (decimal (length bytes)
    ++ (codes " md5 " ++ (encode_lower (md5 bytes) ++ 10 ∷ [])))))

-- the line of what is decoded: how many pictures go out, how many bytes their samples are, and the MD5 of these
abbrev pub summary_of : Decoded → List ℕ
summary_of d = summary_line (length d.pictures) (bytes_of form.I420 d)
