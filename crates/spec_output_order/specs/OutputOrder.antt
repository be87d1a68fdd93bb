-- What goes out of the decoded picture buffer, in which order, and what stays there (C.5.2.2 to C.5.2.4).
use Rattle.std.specs.Prelude.{◌≡◌, ℕ, ℤ, zero, suc, ◌+◌, Bool, false, not, All, ◌&&◌, ◌||◌, List, [], ◌∷◌, ◌++◌, map}
use Rattle.std.specs.Prelude.{length, slice_index_or, slice_set, Option, Some, None, nat_lt, nat_le, int_le}
use Rattle.std.specs.Prelude.{if◌then◌else◌}
use Rattle.std.specs.List.{count_by, filter}
use Rattle.header_types.specs.declared.reference_pictures.DpbPicture.{DpbPicture}
use Rattle.header_types.specs.declared.reference_pictures.Mark.{Mark}
use Rattle.header_types.specs.declared.reference_pictures.Mark.TheVariants as mark
use Rattle.header_types.specs.declared.sps.SubLayerOrdering.{SubLayerOrdering}
use Rattle.spec_reference_pictures.specs.ReferencePictureSet.{is_reference, no_picture}
use Rattle.spec_output_order.specs.declared.current_picture.CurrentPicture.{CurrentPicture}
use Rattle.spec_output_order.specs.declared.next_output.NextOutput.{NextOutput}
use Rattle.plan_types.specs.declared.outputs.Outputs.{Outputs}

-- whether a picture waits
abbrev pub is_needed_for_output : DpbPicture → Bool
is_needed_for_output p = p.needed_for_output

-- whether a picture stays in the buffer: it is needed for output, or marked as reference
abbrev pub is_kept : DpbPicture → Bool
is_kept p = p.needed_for_output || is_reference p.mark

-- how many pictures the buffer holds
abbrev pub size_of : SubLayerOrdering → ℕ
size_of ordering = ordering.max_dec_pic_buffering_minus1 + 1

-- whether there is no room for a picture that doesn't begin anew: as many pictures as the buffer holds are marked as
-- reference, none of which may leave, where these are the marks once its reference picture set is derived (C.5.2.2)
unfoldable pub is_full_of_references : Bool → SubLayerOrdering → List Mark → Bool
is_full_of_references anew ordering marks = not anew && nat_le (size_of ordering) (count_by is_reference marks)

-- the pictures of the buffer as the current picture marks them: one without a mark is unused for reference (8.3.2)
abbrev pub marked : DpbPicture → Mark → DpbPicture
marked p m = record (p) { mark = m }

-- the marks of the current picture's reference picture set; a picture without one is unused
abbrev pub all_marked : List DpbPicture → List Mark → List DpbPicture
all_marked [] marks = []
all_marked (p ∷ pictures) [] = marked p mark.Unused ∷ all_marked pictures []
all_marked (p ∷ pictures) (m ∷ marks) = marked p m ∷ all_marked pictures marks

-- the sooner of a picture at place 0 and one of those behind it, whose places count from 0: the one of the lesser order
-- count, of two equal ones the one decoded first
abbrev pub sooner : DpbPicture → Option NextOutput → Option NextOutput
sooner p None = if p.needed_for_output then Some (record { place = 0; poc = p.poc }) else None
sooner p (Some n) =
    if p.needed_for_output && int_le p.poc n.poc then Some (record { place = 0; poc = p.poc })
    else Some (record { place = suc n.place; poc = n.poc })

-- of the pictures that are needed for output the one that goes out next
abbrev pub next_output : List DpbPicture → Option NextOutput
next_output [] = None
next_output (p ∷ pictures) = sooner p (next_output pictures)

-- a picture marked as not needed for output
abbrev pub not_needed : DpbPicture → DpbPicture
not_needed p = record (p) { needed_for_output = false }

-- the picture at a place has gone out
abbrev pub not_needed_at : List DpbPicture → ℕ → List DpbPicture
not_needed_at pictures place = slice_set pictures place (not_needed (slice_index_or pictures place no_picture))

-- whether a picture has to go out: more are needed for output than may be reordered, or the buffer is full, where it
-- has a size
abbrev pub is_full : Option ℕ → List DpbPicture → Bool
is_full None pictures = false
is_full (Some size) pictures = nat_le size (count_by is_kept pictures)

-- whether more wait than may be reordered, or no place is free (C.5.2.2, C.5.2.3)
unfoldable pub needs_bumping : ℕ → Option ℕ → List DpbPicture → Bool
needs_bumping reorder size pictures = nat_lt reorder (count_by is_needed_for_output pictures) || is_full size pictures

-- the places of the pictures that went out, and the pictures behind that
pub record Bumped : Type 0 where
  pub out : List ℕ
  pub left : List DpbPicture

-- no picture goes out
abbrev pub none_out : List DpbPicture → Bumped
none_out pictures = record { out = []; left = pictures }

-- one goes out before others
abbrev pub one_out : ℕ → Bumped → Bumped
one_out place b = record (b) { out = place ∷ b.out }

-- the next one goes out, where there is one, and the rest behind it
abbrev pub next_from : List DpbPicture → Option NextOutput → (List DpbPicture → Bumped) → Bumped
next_from pictures None rest = none_out pictures
next_from pictures (Some n) rest = one_out n.place (rest (not_needed_at pictures n.place))

-- "bumping": pictures go out one after the other as long as one has to and one is needed for output, at most so many
abbrev pub bumped_at_most : ℕ → Option ℕ → ℕ → List DpbPicture → Bumped
bumped_at_most reorder size zero pictures = none_out pictures
bumped_at_most reorder size (suc n) pictures =
    if needs_bumping reorder size pictures
    then next_from pictures (next_output pictures) (bumped_at_most reorder size n)
    else none_out pictures

-- no picture goes out more than once
unfoldable pub bumped : ℕ → Option ℕ → List DpbPicture → Bumped
bumped reorder size pictures = bumped_at_most reorder size (length pictures) pictures

-- no picture is needed for output any more
abbrev pub discarded : List DpbPicture → List DpbPicture
discarded pictures = map not_needed pictures

-- before the current picture is decoded: where it begins anew the pictures that are needed for output are discarded or
-- all go out, else pictures go out until there is room (C.5.2.2)
unfoldable pub started : CurrentPicture → List DpbPicture → Bumped
started current pictures =
    if current.begins_anew
    then (if current.no_output_of_prior_pics_flag then none_out (discarded pictures) else bumped 0 None pictures)
    else bumped current.ordering.max_num_reorder_pics (Some (size_of current.ordering)) pictures

-- a picture of this order count as it enters the buffer: marked for short-term reference, and needed for output as
-- PicOutputFlag says (C.5.2.3)
abbrev pub newest : ℤ → Bool → DpbPicture
newest poc pic_output_flag = record { poc = poc; mark = mark.Short; needed_for_output = pic_output_flag }

-- the current picture enters the buffer; then pictures go out until no more are needed for output than may be reordered
-- (C.5.2.3)
abbrev pub entered : CurrentPicture → List DpbPicture → List DpbPicture
entered current pictures = pictures ++ newest current.poc current.pic_output_flag ∷ []

-- what goes out once the current picture stands in the buffer (C.5.2.3)
unfoldable pub ended : CurrentPicture → List DpbPicture → Bumped
ended current pictures = bumped current.ordering.max_num_reorder_pics None (entered current pictures)

-- the places of the pictures that stay in the buffer, where the first has this one
abbrev pub kept_from : ℕ → List DpbPicture → List ℕ
kept_from place [] = []
kept_from place (p ∷ pictures) =
    if is_kept p then place ∷ kept_from (suc place) pictures else kept_from (suc place) pictures

-- what goes out before the current picture and behind it
abbrev pub outputs_by : List ℕ → Bumped → Outputs
outputs_by before b = record { before = before; behind = b.out; kept = kept_from 0 b.left; dpb = filter is_kept b.left }

-- the second from the buffer that the first leaves
abbrev pub outputs_from : CurrentPicture → Bumped → Outputs
outputs_from current b = outputs_by b.out (ended current b.left)

-- what the current picture puts out of the buffer, and what it leaves there, where it marks the pictures there so
unfoldable pub outputs_of : CurrentPicture → List DpbPicture → List Mark → Outputs
outputs_of current dpb marks = outputs_from current (started current (all_marked dpb marks))

-- where the input ends, all pictures that are needed for output go out
unfoldable pub last_outputs : List DpbPicture → List ℕ
last_outputs dpb = (bumped 0 None dpb).out

-- no picture is needed for output
abbrev pub NoneNeededForOutput : List DpbPicture → Type 0
NoneNeededForOutput pictures = All (λ (p : DpbPicture). p.needed_for_output ≡ false) pictures

-- the current picture goes out at once, alone, and behind it none is needed for output: its place is behind so many
pub record GoesOutAtOnce (size : ℕ) (o : Outputs) : Type 0 where
  pub before : o.before ≡ []
  pub behind : o.behind ≡ size ∷ []
  pub left : NoneNeededForOutput o.dpb
