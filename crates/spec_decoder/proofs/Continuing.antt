-- What is decoded of the front of an input stays as the input goes on.
use Rattle.std.proofs.Common.{◌≡◌, ℕ, Bool, false, List, [], ◌∷◌, ◌++◌, length, Option, Some, None, Result, Ok, Err}
use Rattle.std.proofs.Common.{refl, sym, ap, subst, ◌∙◌, append_assoc}
use Rattle.std.specs.List.{concat}
use Rattle.std.proofs.lemmas.List.{append-nil}
use Rattle.std.proofs.lemmas.List.Folds.{concat-append}
use Rattle.hv_base.specs.declared.refusal.Stop.{Stop}
use Rattle.spec_picture_plan.specs.PlanTypes.{Between}
use Rattle.spec_picture_plan.specs.PlanTypes.{PicturePlan}
use Rattle.spec_nal_units.specs.Judged.{Told, told_of}
use Rattle.spec_picture_plan.specs.Pictures.{beginning}
use Rattle.spec_picture_plan.specs.Steps.{step}
use Rattle.spec_picture_plan.specs.Planned.{Planned, planned_of, planned_from, planned_next, Extends}
use Rattle.spec_picture_plan.proofs.Fronts.{of_extends}
use Rattle.spec_decoder.specs.Output.{OutPicture, written}
use Rattle.spec_decoder.proofs.Written.{written_first}
use Rattle.spec_decoder.specs.Decoder.{BufferPicture, Decoded, Continues, decoded_picture, out_at, kept_from, put_out}
use Rattle.spec_decoder.specs.Decoder.{ended, entered, with_picture, decoded_from, finished, decoded_plan, decoded}

-- the bytes follow from the pictures
continues : (short long : Decoded) (more : List OutPicture) → long.pictures ≡ short.pictures ++ more
    → (¬ (short.stop ≡ None) → long ≡ short)
    → Continues short long
continues short long more pictures stopped = record {
  more = more;
  pictures = pictures;
  bytes = λ form.
      ap (λ (ps : List OutPicture). concat (written form 0 ps)) pictures
      ∙ ap concat (written_first form short.pictures more)
      ∙ concat-append (written form 0 short.pictures) (written form (length short.pictures) more);
  stopped = stopped;
}

same_continues : (d : Decoded) → Continues d d
same_continues d = continues d d [] (sym (append-nil d.pictures)) (λ n. refl)

put_continues : (first : List OutPicture) (short long : Decoded) → Continues short long
    → Continues (put_out first short) (put_out first long)
put_continues first short long c =
    continues (put_out first short) (put_out first long) c.more
    (ap (λ (ps : List OutPicture). first ++ ps) c.pictures ∙ sym (append_assoc first short.pictures c.more))
    (λ n. ap (put_out first) (c.stopped n))

-- whatever the buffer behind a picture is, the one continues the other
entered_continues : (p : PicturePlan) (short long : List BufferPicture → Decoded) (buffer : List BufferPicture)
    (r : Result BufferPicture Stop)
    → ((b : List BufferPicture) → Continues (short b) (long b))
    → Continues (entered p short buffer r) (entered p long buffer r)
entered_continues p short long buffer (Err s) h = same_continues (ended (Some s))
entered_continues p short long buffer (Ok picture) h =
    let now : List BufferPicture = buffer ++ picture ∷ [] in
    let left : List BufferPicture = kept_from p.outputs.kept 0 now in
    put_continues (out_at now p.outputs.behind) (short left) (long left) (h left)

picture_continues : (hash : Bool) (p : PicturePlan) (short long : List BufferPicture → Decoded)
    (buffer : List BufferPicture)
    → ((b : List BufferPicture) → Continues (short b) (long b))
    → Continues (with_picture hash p short buffer) (with_picture hash p long buffer)
picture_continues hash p short long buffer h =
    put_continues (out_at buffer p.outputs.before) (entered p short buffer (decoded_picture hash buffer p))
    (entered p long buffer (decoded_picture hash buffer p))
    (entered_continues p short long buffer (decoded_picture hash buffer p) h)

nothing_continues : (buffer : List BufferPicture) (long : Decoded) → Continues (finished [] None buffer) long
unfolding out_at
nothing_continues buffer long = continues (finished [] None buffer) long long.pictures refl (λ n. absurd (n refl))

-- where nothing stops the front, the pictures go on
from_continues : (hash : Bool) (end : List BufferPicture → Decoded) (pictures more : List PicturePlan)
    (buffer : List BufferPicture)
    → Continues (decoded_from hash (finished [] None) pictures buffer)
    (decoded_from hash end (pictures ++ more) buffer)
from_continues hash end [] more buffer = nothing_continues buffer (decoded_from hash end more buffer)
from_continues hash end (p ∷ pictures) more buffer =
    picture_continues hash p (decoded_from hash (finished [] None) pictures) (decoded_from hash end (pictures ++ more))
    buffer
    (λ b. from_continues hash end pictures more b)

-- nothing goes out at the end of an input that goes on
next_last : (r : Result Between Stop) (f : Between → Planned) → ((n : Between) → (f n).last ≡ [])
    → (planned_next r f).last ≡ []
next_last (Err e) f h = refl
next_last (Ok n) f h = h n

from_last : (s : Between) (told : List Told) → (planned_from false s told).last ≡ []
from_last s [] = refl
from_last s (t ∷ later) = next_last (step s t).next (λ n. planned_from false n later) (λ n. from_last n later)

open_last : (front : List ℕ) → (planned_of false front).last ≡ []
unfolding planned_of
open_last front = from_last beginning (told_of false front)

plan_continues : (hash : Bool) (short : Planned) (stop : Option Stop) (long : Planned) → short.stop ≡ stop
    → short.last ≡ []
    → Extends short long → Continues (decoded_plan hash short) (decoded_plan hash long)
plan_continues hash short None long is none extends =
    subst (λ (d : Decoded). Continues d (decoded_plan hash long))
    (ap (λ (last : List ℕ). decoded_from hash (finished last None) short.pictures []) (sym none)
    ∙ ap (λ (s : Option Stop). decoded_from hash (finished short.last s) short.pictures []) (sym is))
    (subst (λ (ps : List PicturePlan). Continues (decoded_from hash (finished [] None) short.pictures [])
    (decoded_from hash (finished long.last long.stop) ps []))
    (sym extends.pictures)
    (from_continues hash (finished long.last long.stop) short.pictures extends.more []))
plan_continues hash short (Some e) long is none extends =
    subst (λ (q : Planned). Continues (decoded_plan hash short) (decoded_plan hash q)) (sym (extends.stopped e is))
    (same_continues (decoded_plan hash short))

pub of_continues : (hash ended : Bool) (front rest : List ℕ)
    → Continues (decoded hash false front) (decoded hash ended (front ++ rest))
unfolding decoded
of_continues hash ended front rest =
    plan_continues hash (planned_of false front) (planned_of false front).stop (planned_of ended (front ++ rest)) refl
    (open_last front) (of_extends front rest ended)
