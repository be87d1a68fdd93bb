-- Whether the planes of a decoded picture have the hashes that are stated for them (D.2.19, D.3.19).
use Rattle.std.specs.Prelude.{ℕ, ◌+◌, Bool, ◌&&◌, ◌==◌, List, [], ◌∷◌, map, Option, Some, None, if◌then◌else◌}
use Rattle.std.specs.List.{concat, range_with_len}
use Rattle.hv_base.specs.declared.digest.Digest.{Digest}
use Rattle.hv_base.specs.declared.fault.Fault.{Fault}
use Rattle.hv_base.specs.declared.fault.FaultKind.TheVariants as rule
use Rattle.header_types.specs.declared.sps.PictureFormat.{PictureFormat}
use Rattle.spec_picture_plan.specs.PlanTypes.{StatedHash}
use Rattle.hash_sei.specs.SpecStatedHashes.{digest_of}
use Rattle.hash_sei.specs.PlaneHash.{plane_hash}
use Rattle.spec_decoded_pictures.specs.SpecPictureBuild.{Samples}
use Rattle.spec_decoded_pictures.specs.SpecPictureBuild.{DecodedPicture, format_height, format_width}
use Rattle.spec_picture_plan.specs.Closing.{or_later}

-- the bit depth of a component
abbrev pub bit_depth : PictureFormat → ℕ → ℕ
bit_depth format c = if c == 0 then 8 + format.bit_depth_luma_minus8 else 8 + format.bit_depth_chroma_minus8

-- the samples of a row of so many
abbrev pub row_samples : Samples → ℕ → ℕ → ℕ → List ℕ
row_samples samples c width row = map (λ column. samples c column row) (range_with_len 0 width)

-- the samples of so many rows of a component, row after row
unfoldable pub rows_samples : Samples → ℕ → ℕ → ℕ → List ℕ
rows_samples samples c width height = concat (map (row_samples samples c width) (range_with_len 0 height))

-- the samples of a component's whole plane in raster order, outside the conformance window too
abbrev pub plane_samples : DecodedPicture → ℕ → List ℕ
plane_samples picture c =
    rows_samples picture.samples c (format_width picture.format c) (format_height picture.format c)

-- PictureMD5 of a component
unfoldable pub computed_hash : DecodedPicture → ℕ → Digest
computed_hash picture c = digest_of (plane_hash (bit_depth picture.format c) (plane_samples picture c))

-- whether two digests have the same bytes
abbrev pub same_digest : Digest → Digest → Bool
same_digest a b = (a.first == b.first) && (a.last == b.last)

-- what a unit states of a component, where that isn't what was computed
abbrev pub mismatch_of : ℕ → ℕ → Digest → Digest → Option Fault
mismatch_of nal c stated computed =
    if same_digest stated computed then None
    else Some (record { kind = rule.HashMismatch c stated computed; nal = nal; ctu = None })

abbrev pub mismatch_at : DecodedPicture → ℕ → ℕ → Digest → Option Fault
mismatch_at picture nal c stated = mismatch_of nal c stated (computed_hash picture c)

-- the first plane of Y, Cb and Cr that hasn't the hash that a unit states for it
unfoldable pub mismatch_by : DecodedPicture → StatedHash → Option Fault
mismatch_by picture s =
    or_later (mismatch_at picture s.nal 0 s.luma)
    (or_later (mismatch_at picture s.nal 1 s.cb) (mismatch_at picture s.nal 2 s.cr))

-- the first of several units, in their order
unfoldable pub first_mismatch : DecodedPicture → List StatedHash → Option Fault
first_mismatch picture [] = None
first_mismatch picture (s ∷ later) = or_later (mismatch_by picture s) (first_mismatch picture later)
