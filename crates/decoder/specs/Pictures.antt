-- What decoding a picture answers.
use Rattle.std.specs.Prelude.{◌≡◌, ◌⊎◌, List, [], ◌∷◌, ◌++◌, Some, Result, Ok, Err, IsErrAnd}
use Rattle.hv_base.specs.declared.outcome.Outcome.{Outcome}
use Rattle.hv_base.specs.declared.outcome.Outcome.TheVariants as outcome
use Rattle.hv_base.specs.declared.refusal.Stop.{Stop}
use Rattle.picture_buffer.specs.Pictures.{HeldPicture}
use Rattle.row_jobs.specs.PictureBuild.{decoded_of}
use Rattle.plan_types.specs.declared.picture_plan.PicturePlan.{PicturePlan}
use Rattle.spec_decoder.specs.Decoder.{BufferPicture, kept_as}
use Rattle.decoder.specs.Buffers.{HeldBuffer, buffer_of}
use Rattle.decoder.specs.Headline.{outcome_of}

-- how decoding ends where a picture can't be decoded: with what is broken or met in it, or, of any, with want of memory
abbrev pub IsRefused : Result BufferPicture Stop → Outcome → Type 0
IsRefused decoded o = (o ≡ outcome.Memory) ⊎ IsErrAnd decoded (λ s. o ≡ outcome_of (Some s))

-- the picture of a plan, or why it can't be decoded
abbrev pub DecodesAs : PicturePlan → Result HeldPicture Outcome → Result BufferPicture Stop → Type 0
DecodesAs p (Ok held) decoded = decoded ≡ Ok (kept_as p (decoded_of held))
DecodesAs p (Err o) decoded = IsRefused decoded o

-- a decoded picture stands behind the last of the buffer
pub record EntersBuffer (old new : List BufferPicture) (decoded : Result BufferPicture Stop) : Type 0 where
  pub picture : BufferPicture
  pub decodes : decoded ≡ Ok picture
  pub buffer : new ≡ old ++ picture ∷ []

abbrev pub Enters : {X : Type 0} → HeldBuffer → HeldBuffer → Result BufferPicture Stop → Result X Outcome → Type 0
Enters old new decoded (Ok x) = EntersBuffer (buffer_of old) (buffer_of new) decoded
Enters old new decoded (Err o) = IsRefused decoded o
