-- The samples of held pictures as others refer to them.
use Rattle.std.proofs.Common.{◌≡◌, ℕ, zero, suc, ◌+◌, ◌-◌, ◌/◌, ◌^◌, ◌<◌, ◌≤◌, ◌==◌, Bool, true, false, ℤ, min, List}
use Rattle.std.proofs.Common.{Option, Some, None, slice_get, option_map, refl, sym, ap, subst, ◌∙◌}
use Rattle.std.proofs.Common.{if◌then◌else◌, arith}
use Rattle.std.proofs.Math.Nat.{div-mul-le_self, one-le-pow}
use Rattle.std.proofs.lemmas.Option.{slice_get-map}
use Rattle.header_types.specs.declared.pps.PpsFields.{PpsFields}
use Rattle.header_types.specs.declared.sps.PictureFormat.{PictureFormat}
use Rattle.header_types.specs.declared.sps.SpsFields.{SpsFields}
use Rattle.header_types.specs.SequenceParameterSets.{IsPictureFormat}
use Rattle.unit_build.specs.InterSamples.{AreSmall}
use Rattle.slice_types.specs.declared.slice.SliceFields.{SliceFields}
use Rattle.picture_buffer.specs.Pictures.{HeldPicture}
use Rattle.picture_buffer.specs.Planes.{HasSides, PictureSamples, plane_height, plane_width, samples_of}
use Rattle.picture_build.specs.Formats.{HasDepths}
use Rattle.picture_build.specs.Pictures.{buffer_of, decoded_of}
use Rattle.spec_inter_prediction.specs.Taps.{clamped}
use Rattle.spec_picture_build.specs.Format.{unit_format}
use Rattle.spec_picture_build.specs.References.{DecodedPicture, format_height, format_width, greatest_sample}
use Rattle.spec_picture_build.specs.References.{pictures_of, reference_sample}
use Rattle.spec_reconstruction.specs.declared.format.UnitFormat.{UnitFormat}
use Rattle.spec_reconstruction.specs.Parameters.{depth_of}

-- a picture of the buffer by its place
pub held_at : (bases : List HeldPicture) (place : ℕ) (o : Option HeldPicture) → slice_get bases place ≡ o
    → slice_get (buffer_of bases) place ≡ option_map decoded_of o
held_at bases place o e =
    slice_get-map decoded_of bases place ∙ ap (λ (p : Option HeldPicture). option_map decoded_of p) e

either : (P : ℕ → Type 0) (t : Bool) (a b : ℕ) → P a → P b → P (if t then a else b)
either P true a b pa pb = pa
either P false a b pa pb = pb

chosen : (t : Bool) (a b c d : ℕ) → a ≡ c → b ≡ d → (if t then a else b) ≡ (if t then c else d)
chosen true a b c d e f = e
chosen false a b c d e f = f

some_power : (d : ℕ) → 0 < 2 ^ d
some_power d = let p : 1 ≤ 2 ^ d = one-le-pow d 2 (omega arith) in omega (arith, p)

small_min : (s d n : ℕ) → d ≡ n → min s (2 ^ n - 1) < 2 ^ d
small_min s d n e =
    let some = some_power n in
    let m : min s (2 ^ n - 1) ≤ 2 ^ n - 1 = grind arith in
    let below : min s (2 ^ n - 1) < 2 ^ n = omega (arith, m, some) in
    subst (λ k. min s (2 ^ n - 1) < 2 ^ k) (sym e) below

small_at : (sps : SpsFields) (format : UnitFormat) (o : Option DecodedPicture) (c : ℕ) (x y : ℤ) → HasDepths sps format
    → reference_sample sps.format o c x y < 2 ^ depth_of format c
unfolding reference_sample
small_at sps format None c x y depths = some_power (depth_of format c)
small_at sps format (Some p) c x y depths =
    small_min _ (depth_of format c) _ (chosen (c == 0) format.luma_depth format.chroma_depth
    (8 + sps.format.bit_depth_luma_minus8) (8 + sps.format.bit_depth_chroma_minus8) depths.0 depths.1)

-- the bit depths of what the samples of a slice's units depend on
pub depths_of : (sps : SpsFields) (pps : PpsFields) (slice : SliceFields) (format : UnitFormat)
    → format ≡ unit_format sps pps slice → HasDepths sps format
unfolding unit_format
depths_of sps pps slice format e = rw e (refl, refl)

-- the samples of all pictures are in the range of the bit depths of the picture that refers to them
pub are_small : (sps : SpsFields) (format : UnitFormat) (bases : List HeldPicture) → HasDepths sps format
    → AreSmall format (pictures_of sps.format (buffer_of bases))
are_small sps format bases depths place c x y = small_at sps format (slice_get (buffer_of bases) place) c x y depths

-- a component's plane in the sides of its picture's format
widths : (p : PictureSamples) (f : PictureFormat) (c : ℕ) → c < 3
    → HasSides p f.pic_width_in_luma_samples f.pic_height_in_luma_samples → plane_width p c ≡ format_width f c
widths p f zero lt sides = sides.luma_width
widths p f (suc zero) lt sides = sides.cb_width
widths p f (suc (suc zero)) lt sides = sides.cr_width
widths p f (suc (suc (suc c))) lt sides = absurd (omega (arith, lt))

heights : (p : PictureSamples) (f : PictureFormat) (c : ℕ) → c < 3
    → HasSides p f.pic_width_in_luma_samples f.pic_height_in_luma_samples → plane_height p c ≡ format_height f c
heights p f zero lt sides = sides.luma_height
heights p f (suc zero) lt sides = sides.cb_height
heights p f (suc (suc zero)) lt sides = sides.cr_height
heights p f (suc (suc (suc c))) lt sides = absurd (omega (arith, lt))

half_few : (n : ℕ) → n ≤ 8192 → n / 2 ≤ 65536
half_few n le = let h = div-mul-le_self n 2 in omega (arith, h, le)

few_width : (f : PictureFormat) (c : ℕ) → IsPictureFormat f → format_width f c ≤ 65536
few_width f c is =
    either (λ n. n ≤ 65536) (c == 0) f.pic_width_in_luma_samples (f.pic_width_in_luma_samples / 2)
    (omega (arith, is.width)) (half_few f.pic_width_in_luma_samples is.width)

few_height : (f : PictureFormat) (c : ℕ) → IsPictureFormat f → format_height f c ≤ 65536
few_height f c is =
    either (λ n. n ≤ 65536) (c == 0) f.pic_height_in_luma_samples (f.pic_height_in_luma_samples / 2)
    (omega (arith, is.height)) (half_few f.pic_height_in_luma_samples is.height)

pub plane_columns : (p : PictureSamples) (f : PictureFormat) (c : ℕ) → c < 3
    → HasSides p f.pic_width_in_luma_samples f.pic_height_in_luma_samples → IsPictureFormat f → plane_width p c ≤ 65536
plane_columns p f c lt sides is = subst (λ n. n ≤ 65536) (sym (widths p f c lt sides)) (few_width f c is)

pub plane_rows : (p : PictureSamples) (f : PictureFormat) (c : ℕ) → c < 3
    → HasSides p f.pic_width_in_luma_samples f.pic_height_in_luma_samples → IsPictureFormat f → plane_height p c ≤ 65536
plane_rows p f c lt sides is = subst (λ n. n ≤ 65536) (sym (heights p f c lt sides)) (few_height f c is)

-- a sample of a picture that has some of the component
pub sample_held : (format : PictureFormat) (p : HeldPicture) (c : ℕ) (x y : ℤ) (read held : ℕ) → c < 3
    → HasSides p.planes p.format.pic_width_in_luma_samples p.format.pic_height_in_luma_samples
    → read ≡ samples_of p.planes c (clamped x (plane_width p.planes c)) (clamped y (plane_height p.planes c))
    → held ≡ min read (greatest_sample format c)
    → held ≡ reference_sample format (Some (decoded_of p)) c x y
unfolding reference_sample
sample_held format p c x y read held lt sides e h =
    let g = greatest_sample format c in
    h
    ∙ ap (λ v. min v g) e
    ∙ ap (λ w. min (samples_of p.planes c (clamped x w) (clamped y (plane_height p.planes c))) g)
    (widths p.planes p.format c lt sides)
    ∙ ap (λ w. min (samples_of p.planes c (clamped x (format_width p.format c)) (clamped y w)) g)
    (heights p.planes p.format c lt sides)

-- and of one that has none
pub sample_none : (format : PictureFormat) (p : HeldPicture) (c : ℕ) (x y : ℤ) (held : ℕ)
    → ((i j : ℕ) → samples_of p.planes c i j ≡ 0) → held ≡ 0
    → held ≡ reference_sample format (Some (decoded_of p)) c x y
unfolding reference_sample
sample_none format p c x y held none e =
    let zero_min : (g : ℕ) → 0 ≡ min 0 g = λ g. grind arith in
    e ∙ zero_min (greatest_sample format c)
    ∙ ap (λ v. min v (greatest_sample format c))
    (sym (none (clamped x (format_width p.format c)) (clamped y (format_height p.format c))))

-- and at a place where the buffer has none
pub sample_nowhere : (format : PictureFormat) (bases : List HeldPicture) (place c : ℕ) (x y : ℤ) (held : ℕ)
    → slice_get bases place ≡ None → held ≡ 0 → held ≡ pictures_of format (buffer_of bases) place c x y
unfolding reference_sample
sample_nowhere format bases place c x y held none e =
    e ∙ sym (ap (λ (o : Option DecodedPicture). reference_sample format o c x y) (held_at bases place None none))
