-- What is decoded is the pictures that are drawn of a seed.
use Rattle.std.specs.Prelude.{◌≡◌, ℕ, pos, map, None}
use Rattle.spec_decoder.specs.declared.form.Form.TheVariants as form
use Rattle.spec_decoder.specs.Decoder.{Decoded, bytes_of}
use Rattle.spec_decoder.specs.Output.{OutPicture, bytes_out}
use Rattle.spec_drawn_pictures.specs.Shown.{bytes_drawn, bytes_shown, order_count, shown}

-- no rule is broken and no limit met, and so many pictures go out: those that are drawn of the seed, as they are shown,
-- with their order counts and their bytes, one after the other
pub record IsAsDrawn (seed pictures : ℕ) (d : Decoded) : Type 0 where
  pub ok : d.stop ≡ None
  pub orders : map (λ (out : OutPicture). out.poc) d.pictures ≡ map (λ j. pos (order_count j)) (shown pictures)
  pub each : map bytes_out d.pictures ≡ map (bytes_drawn seed) (shown pictures)
  pub bytes : bytes_of form.I420 d ≡ bytes_shown seed pictures
