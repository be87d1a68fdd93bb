-- What is still owed of a stream while it is decoded.
use Rattle.std.specs.Prelude.{ℕ, Bool, List}
use Rattle.spec_nal_units.specs.Judged.{Told}
use Rattle.spec_picture_plan.specs.Planned.{Planned, behind_closed, planned_next, planned_from}
use Rattle.picture_plan.specs.Plans.{Plans}
use Rattle.spec_decoder.specs.declared.form.Form.{Form}
use Rattle.spec_decoder.specs.Decoder.{BufferPicture, Decoded, decoded_from, finished}
use Rattle.decoder.specs.Buffers.{HeldBuffer, buffer_of}
use Rattle.decoder.specs.Writing.{Owed, owed_from}

-- the pictures that a planner holds, and those that it closes of an input that goes on with these units
unfoldable pub planned_behind : Bool → Plans → List Told → Planned
planned_behind ended p later = behind_closed p.pending (planned_next p.next (λ s. planned_from ended s later))

-- what planned pictures owe from a buffer on
abbrev pub decoded_behind : Bool → List BufferPicture → Planned → Decoded
decoded_behind hash buffer p = decoded_from hash (finished p.last p.stop) p.pictures buffer

unfoldable pub owed_behind : Bool → Bool → Plans → List BufferPicture → List Told → Decoded
owed_behind hash ended p buffer later = decoded_behind hash buffer (planned_behind ended p later)

-- what is owed of the pictures that a planner and a buffer hold, and of those that these units give, in a form and from
-- the number of the next picture on
abbrev pub still_owed : Form → Bool → Bool → Plans → HeldBuffer → List Told → Owed
still_owed form hash ended p buffer later =
    owed_from form buffer.number (owed_behind hash ended p (buffer_of buffer) later)
