-- What is written of the pictures that are owed.
use Rattle.std.specs.Prelude.{◌≡◌, ℕ, ◌+◌, ◌≤◌, Bool, All, List, [], ◌++◌, length, take, Option, Result, Ok, Err}
use Rattle.std.specs.List.{concat}
use Rattle.hv_base.specs.declared.outcome.Outcome.{Outcome}
use Rattle.hv_base.specs.declared.outcome.Outcome.TheVariants as outcome
use Rattle.hv_base.specs.declared.refusal.Stop.{Stop}
use Rattle.hv_io.specs.Streams.{Gains, GainsPrefix}
use Rattle.plan_types.specs.declared.picture_plan.PicturePlan.{PicturePlan}
use Rattle.spec_decoder.specs.declared.form.Form.{Form}
use Rattle.spec_decoder.specs.Output.{OutPicture, told_number, written}
use Rattle.spec_decoder.specs.Decoder.{BufferPicture, Decoded, decoded_from, put_out, with_picture}
use Rattle.decoder.specs.Buffers.{HeldBuffer, buffer_of}
use Rattle.decoder.specs.Headline.{Change, Failed, IsQuiet, outcome_of}

-- what is still to be written, a piece a picture, and what stops decoding
pub record Owed : Type 0 where
  pub pieces : List (List ℕ)
  pub stop : Option Stop

-- what is owed of what is decoded, the first picture of which has this number
abbrev pub owed_from : Form → ℕ → Decoded → Owed
owed_from form k d = record { pieces = written form k d.pictures; stop = d.stop }

-- how decoding ended while this was owed: the outcome of it with all its bytes, a write fault with a prefix of them, or
-- want of memory with whole pieces, the first
abbrev pub IsAnswered : Owed → Change → Outcome → Type 0
IsAnswered d out outcome.WriteFault = Failed out × GainsPrefix out.before out.after (concat d.pieces)
IsAnswered d out outcome.Memory = ((n : ℕ) × Gains out.before out.after (concat (take n d.pieces))) × IsQuiet out
IsAnswered d out o = ((o ≡ outcome_of d.stop) × Gains out.before out.after (concat d.pieces)) × IsQuiet out

-- these pictures went out, the first of them by the old number and what follows them by the new one: the sink gained
-- what is written of them, without a fault
pub record Went (form : Form) (out : Change) (old : ℕ) (pictures : List OutPicture) (new : ℕ) : Type 0 where
  pub gained : Gains out.before out.after (concat (written form old pictures))
  pub quiet : IsQuiet out
  pub number : told_number (old + length pictures) ≡ told_number new

-- decoding ended while these pictures went out, whatever is owed behind them
abbrev pub Breaks : Form → Change → ℕ → List OutPicture → Outcome → Type 0
Breaks form out old pictures o =
    (later : Decoded) → IsAnswered (owed_from form old (put_out pictures later)) out o

-- by a result: these pictures went out, or decoding ended in them
abbrev pub GoOut : {X : Type 0} → Form → Change → ℕ → ℕ → List OutPicture → Result X Outcome → Type 0
GoOut form out old new pictures (Ok x) = Went form out old pictures new
GoOut form out old new pictures (Err o) = Breaks form out old pictures o

-- of pictures that go out these are left
pub record Leaves (form : Form) (out : Change) (old : ℕ) (pictures : List OutPicture) (new : ℕ)
    (rest : List OutPicture) : Type 0 where
  pub front : List OutPicture
  pub order : pictures ≡ front ++ rest
  pub went : Went form out old front new

-- from a buffer on, whatever follows these pictures: these go out as they are decoded, and what follows is decoded from
-- the other buffer on
abbrev pub Run : Bool → List PicturePlan → List BufferPicture → List OutPicture → List BufferPicture → Type 0
Run hash pictures old outs new = (end : List BufferPicture → Decoded) (later : List PicturePlan)
    → decoded_from hash end (pictures ++ later) old ≡ put_out outs (decoded_from hash end later new)

-- a picture leaves no more in the buffer than this
abbrev pub KeepsAtMost : ℕ → PicturePlan → Type 0
KeepsAtMost n p = length p.outputs.kept ≤ n

-- a picture was decoded, and these went out with it
pub record RanPicture (form : Form) (hash : Bool) (out : Change) (p : PicturePlan) (old new : HeldBuffer)
    : Type 0 where
  pub outs : List OutPicture
  pub went : Went form out old.number outs new.number
  pub run : (next : List BufferPicture → Decoded)
      → with_picture hash p next (buffer_of old) ≡ put_out outs (next (buffer_of new))
  pub few : length (buffer_of new) ≤ length p.outputs.kept

-- by a result: a picture was decoded, or decoding ended in it
abbrev pub TakesPicture : {X : Type 0} → Form → Bool → Change → PicturePlan → HeldBuffer → HeldBuffer
    → Result X Outcome → Type 0
TakesPicture form hash out p old new (Ok x) = RanPicture form hash out p old new
TakesPicture form hash out p old new (Err o) = (next : List BufferPicture → Decoded)
    → IsAnswered (owed_from form old.number (with_picture hash p next (buffer_of old))) out o

-- of these pictures the first were decoded, and the rest are still to be decoded, from the new buffer on
pub record Passes (form : Form) (hash : Bool) (out : Change) (pictures : List PicturePlan) (old : HeldBuffer)
    (rest : List PicturePlan) (new : HeldBuffer) : Type 0 where
  pub front : List PicturePlan
  pub order : pictures ≡ front ++ rest
  pub outs : List OutPicture
  pub went : Went form out old.number outs new.number
  pub run : Run hash front (buffer_of old) outs (buffer_of new)
  pub few : (n : ℕ) → length (buffer_of old) ≤ n → All (KeepsAtMost n) front → length (buffer_of new) ≤ n

-- decoding ended in these pictures
abbrev pub Ends : Form → Bool → Change → List PicturePlan → HeldBuffer → Outcome → Type 0
Ends form hash out pictures old o = (end : List BufferPicture → Decoded) (later : List PicturePlan)
    → IsAnswered (owed_from form old.number (decoded_from hash end (pictures ++ later) (buffer_of old))) out o

-- by a result: all of these pictures were decoded, or decoding ended in them
abbrev pub WritesFirst : {X : Type 0} → Form → Bool → Change → List PicturePlan → HeldBuffer → HeldBuffer
    → Result X Outcome → Type 0
WritesFirst form hash out pictures old new (Ok x) = Passes form hash out pictures old [] new
WritesFirst form hash out pictures old new (Err o) = Ends form hash out pictures old o
