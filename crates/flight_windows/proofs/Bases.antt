-- Pictures that were decoded before the flight, as its pictures refer to them.
use Rattle.std.proofs.Common.{◌≡◌, refl, ℕ, ◌+◌, ◌-◌, ◌^◌, ◌<◌, ◌≤◌, ◌==◌, Bool, true, false, ℤ, min, List}
use Rattle.std.proofs.Common.{if◌then◌else◌, Option, Some, None, slice_get, option_map, sym, ap, subst, ◌∙◌, arith}
use Rattle.std.proofs.Math.Nat.{one-le-pow}
use Rattle.std.proofs.lemmas.Option.{slice_get-map}
use Rattle.header_types.specs.declared.sps.PictureFormat.{PictureFormat}
use Rattle.header_types.specs.declared.sps.SpsFields.{SpsFields}
use Rattle.spec_picture_build.specs.References.{DecodedPicture, greatest_sample, pictures_of, reference_sample}
use Rattle.spec_reconstruction.specs.declared.format.UnitFormat.{UnitFormat}
use Rattle.spec_reconstruction.specs.Inter.{Pictures}
use Rattle.spec_reconstruction.specs.Parameters.{depth_of}
use Rattle.sample_lines.specs.SpecDecoder.{BufferPicture}
use Rattle.sample_lines.specs.InterSamples.{AreSmall}
use Rattle.sample_lines.specs.FactsOfFlights.{HasDepths}
use Rattle.flight_plan.specs.declared.row_range.Reference.{Reference}
use Rattle.flight_plan.specs.declared.row_range.Reference.TheVariants.{Base}
use Rattle.sample_lines.specs.FactsOfFlights.{FlightFacts}
use Rattle.sample_lines.specs.FactsOfFlights.{flight_in}
use Rattle.flight_windows.specs.Pictures.{base_picture, seen_picture}
use Rattle.flight_windows.specs.Seen.{SeenFlags}
use Rattle.flight_windows.specs.Windows.{FlightView, bases_in, references_in, sample_named}

none_held : (g : ℕ) → min 0 g ≡ 0
none_held g = grind arith

base_by : (format : PictureFormat) (c : ℕ) (x y : ℤ) (o : Option BufferPicture)
    → reference_sample format (option_map (λ (b : BufferPicture). b.picture) o) c x y
    ≡ reference_sample format (Some (base_picture o)) c x y
unfolding reference_sample
base_by format c x y None = sym (none_held (greatest_sample format c))
base_by format c x y (Some b) = refl

-- a sample of a picture from before the flight by its name
base_sample : (facts : FlightFacts) (seen : SeenFlags) (format : PictureFormat) (place c : ℕ) (x y : ℤ)
    → bases_in format facts place c x y
    ≡ reference_sample format (Some (seen_picture (flight_in facts) seen (Base place))) c x y
unfolding seen_picture
base_sample facts seen format place c x y =
    let buffer : List BufferPicture = (flight_in facts).buffer in
    ap (λ (o : Option DecodedPicture). reference_sample format o c x y)
    (slice_get-map (λ (b : BufferPicture). b.picture) buffer place)
    ∙ base_by format c x y (slice_get buffer place)

-- out of what has the samples of those pictures
pub base_read : (r : Pictures) (facts : FlightFacts) (seen : SeenFlags) (format : PictureFormat)
    → r ≡ bases_in format facts → (place c : ℕ) (x y : ℤ)
    → r place c x y ≡ reference_sample format (Some (seen_picture (flight_in facts) seen (Base place))) c x y
base_read r facts seen format same place c x y =
    ap (λ (p : Pictures). p place c x y) same ∙ base_sample facts seen format place c x y

-- the picture at a place among names
pub named_sample : (v : FlightView) (place : ℕ) (name : Reference) → slice_get v.names place ≡ Some name
    → (c : ℕ) (x y : ℤ) → sample_named v name c x y ≡ references_in v place c x y
named_sample v place name has c x y =
    let e = slice_get-map (seen_picture (flight_in v.facts) v.seen) v.names place in
    let there : option_map (seen_picture (flight_in v.facts) v.seen) (slice_get v.names place)
    ≡ Some (seen_picture (flight_in v.facts) v.seen name) =
    ap (λ (o : Option Reference). option_map (seen_picture (flight_in v.facts) v.seen) o) has in
    sym (ap (λ (o : Option DecodedPicture). reference_sample v.sps.format o c x y) (e ∙ there))

pub unnamed_sample : (v : FlightView) (place : ℕ) → slice_get v.names place ≡ None → (c : ℕ) (x y : ℤ)
    → 0 ≡ references_in v place c x y
unfolding reference_sample
unnamed_sample v place none c x y =
    let e = slice_get-map (seen_picture (flight_in v.facts) v.seen) v.names place in
    let there : option_map (seen_picture (flight_in v.facts) v.seen) (slice_get v.names place) ≡ None =
    ap (λ (o : Option Reference). option_map (seen_picture (flight_in v.facts) v.seen) o) none in
    sym (ap (λ (o : Option DecodedPicture). reference_sample v.sps.format o c x y) (e ∙ there))

-- samples are in the range of the bit depths of the picture that refers to them
some_power : (d : ℕ) → 0 < 2 ^ d
some_power d = let p : 1 ≤ 2 ^ d = one-le-pow d 2 (omega arith) in omega (arith, p)

chosen : (t : Bool) (a b c d : ℕ) → a ≡ c → b ≡ d → (if t then a else b) ≡ (if t then c else d)
chosen true a b c d e f = e
chosen false a b c d e f = f

small_min : (s d n : ℕ) → d ≡ n → min s (2 ^ n - 1) < 2 ^ d
small_min s d n e =
    let some = some_power n in
    let m : min s (2 ^ n - 1) ≤ 2 ^ n - 1 = grind arith in
    let below : min s (2 ^ n - 1) < 2 ^ n = omega (arith, m, some) in
    subst (λ k. min s (2 ^ n - 1) < 2 ^ k) (sym e) below

small_at : (sps : SpsFields) (format : UnitFormat) (o : Option DecodedPicture) (c : ℕ) (x y : ℤ) → HasDepths sps format
    → reference_sample sps.format o c x y < 2 ^ depth_of format c
unfolding reference_sample
small_at sps format None c x y depths = some_power (depth_of format c)
small_at sps format (Some p) c x y depths =
    small_min _ (depth_of format c) _ (chosen (c == 0) format.luma_depth format.chroma_depth
    (8 + sps.format.bit_depth_luma_minus8) (8 + sps.format.bit_depth_chroma_minus8) depths.0 depths.1)

pub small_pictures : (sps : SpsFields) (format : UnitFormat) (pictures : List DecodedPicture) → HasDepths sps format
    → AreSmall format (pictures_of sps.format pictures)
small_pictures sps format pictures depths place c x y = small_at sps format (slice_get pictures place) c x y depths
