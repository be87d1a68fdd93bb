-- The pictures of a stream that is made, as they go out (C.5.2).
use Rattle.std.specs.Prelude.{◌≡◌, ℕ, ◌%◌, ◌<◌, List, [], ◌∷◌, ◌++◌, pos}
use Rattle.spec_decoder.specs.Output.{OutPicture}
use Rattle.made_laws.specs.Headers.{nal_type_of, order_at, type_at}
use Rattle.made_laws.specs.Sets.{made_format}
use Rattle.made_picture_laws.specs.Pictures.{drawn_at, height_of, width_of}
use Rattle.made_decoding_laws.specs.References.{planes_of}

-- a picture that goes out as the picture of a number in the stream of a seed: its order count, the type of its slice,
-- its format and, at each place inside it, the samples drawn
pub record IsShown (seed j : ℕ) (out : OutPicture) : Type 0 where
  pub poc : out.poc ≡ pos (order_at (j % 8))
  pub nal_type : out.nal_type ≡ nal_type_of (type_at (j % 8))
  pub format : out.format ≡ made_format
  pub samples : (c x y : ℕ) → c < 3 → x < width_of c → y < height_of c
      → out.samples c x y ≡ drawn_at (planes_of seed j) c x y

-- pictures that go out as those of these numbers, one behind the other
abbrev pub AreShown : ℕ → List ℕ → List OutPicture → Type 0
AreShown seed [] [] = Unit {0}
AreShown seed [] (out ∷ later) = ⊥
AreShown seed (j ∷ numbers) [] = ⊥
AreShown seed (j ∷ numbers) (out ∷ later) = IsShown seed j out × AreShown seed numbers later

-- the bytes of the picture of a number: its planes of luma, Cb and Cr
abbrev pub bytes_drawn : ℕ → ℕ → List ℕ
bytes_drawn seed j = (planes_of seed j).luma ++ ((planes_of seed j).cb ++ (planes_of seed j).cr)
