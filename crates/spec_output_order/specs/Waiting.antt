-- What goes out in the words of C.5.2: which picture waits for its output, which is first for output, and what becomes
-- of each picture that waits.
use Rattle.std.specs.Prelude.{◌≡◌, ℕ, ◌<◌, ◌≤◌, ◌⊎◌, ◌≤ℤ◌, true, false, All, List, [], ◌∷◌, ◌++◌, length}
use Rattle.std.specs.Prelude.{slice_index_or, Option, ◌==◌}
use Rattle.std.specs.List.{count_by}
use Rattle.header_types.specs.declared.reference_pictures.DpbPicture.{DpbPicture}
use Rattle.spec_reference_pictures.specs.ReferencePictureSet.{no_picture}
use Rattle.spec_output_order.specs.declared.current_picture.CurrentPicture.{CurrentPicture}
use Rattle.spec_output_order.specs.OutputOrder.{NoneNeededForOutput, needs_bumping, not_needed_at}
use Rattle.plan_types.specs.declared.outputs.Outputs.{Outputs}

-- the picture at a place
abbrev pub picture_at : List DpbPicture → ℕ → DpbPicture
picture_at pictures place = slice_index_or pictures place no_picture

-- the picture at a place waits: it is in the buffer, and needed for output
pub record Waits (pictures : List DpbPicture) (place : ℕ) : Type 0 where
  pub inside : place < length pictures
  pub needed : (picture_at pictures place).needed_for_output ≡ true

-- it is first for output: of those that wait it has the least order count, and of those with that order count it was
-- decoded first (C.5.2.4)
pub record IsFirstForOutput (pictures : List DpbPicture) (place : ℕ) : Type 0 where
  pub waits : Waits pictures place
  pub least : (other : ℕ) → Waits pictures other → (picture_at pictures place).poc ≤ℤ (picture_at pictures other).poc
  pub first : (other : ℕ) → Waits pictures other → (picture_at pictures other).poc ≡ (picture_at pictures place).poc
      → place ≤ other

-- the buffer isn't over its bounds, or no picture of it waits
abbrev pub HasRoom : ℕ → Option ℕ → List DpbPicture → Type 0
HasRoom reorder size pictures = (needs_bumping reorder size pictures ≡ false) ⊎ NoneNeededForOutput pictures

-- "bumping": while the buffer is over its bounds the picture that is first for output goes out, and waits no more;
-- these pictures go out so, and these are left (C.5.2.4)
abbrev pub IsBumping : ℕ → Option ℕ → List DpbPicture → List ℕ → List DpbPicture → Type 0
IsBumping reorder size pictures [] left = (left ≡ pictures) × HasRoom reorder size pictures
IsBumping reorder size pictures (place ∷ out) left =
    (needs_bumping reorder size pictures ≡ true)
    × IsFirstForOutput pictures place
    × IsBumping reorder size (not_needed_at pictures place) out left

-- how often a place is one of these
abbrev pub times_in : ℕ → List ℕ → ℕ
times_in place places = count_by (λ k. k == place) places

-- the picture at a place goes out once where it waits, and never where it doesn't
pub record GoesOutOnce (pictures : List DpbPicture) (out : List ℕ) (place : ℕ) : Type 0 where
  pub once : Waits pictures place → times_in place out ≡ 1
  pub only : ¬ Waits pictures place → times_in place out ≡ 0

-- all places that a picture's outputs name, in output order
abbrev pub all_out : Outputs → List ℕ
all_out o = o.before ++ o.behind

-- the picture at a place stays in the buffer, and waits there
pub record StaysWaiting (o : Outputs) (place : ℕ) : Type 0 where
  pub at : ℕ
  pub inside : at < length o.kept
  pub is : slice_index_or o.kept at 0 ≡ place
  pub waits : Waits o.dpb at

-- the pictures of a buffer of this size that wait are discarded where the current one begins anew and says so (C.5.2.2)
pub record IsDiscarded (current : CurrentPicture) (size place : ℕ) : Type 0 where
  pub inside : place < size
  pub anew : current.begins_anew ≡ true
  pub prior : current.no_output_of_prior_pics_flag ≡ true

-- what becomes of a picture that waits: it goes out once, and waits no more; or it doesn't go out, and waits on or was
-- discarded
abbrev pub WaitsAndThen : CurrentPicture → ℕ → Outputs → ℕ → Type 0
WaitsAndThen current size o place =
    ((times_in place (all_out o) ≡ 1) × ¬ StaysWaiting o place)
    ⊎ ((times_in place (all_out o) ≡ 0) × (StaysWaiting o place ⊎ IsDiscarded current size place))

-- the picture at a place doesn't go out, and doesn't wait any longer
abbrev pub IsQuietAt : Outputs → ℕ → Type 0
IsQuietAt o place = (times_in place (all_out o) ≡ 0) × ¬ StaysWaiting o place

-- the places that a picture's outputs name are in a buffer of this size, which the current picture enters at the place
-- behind the last
pub record IsInRange (size : ℕ) (o : Outputs) : Type 0 where
  pub before : All (λ (k : ℕ). k < size) o.before
  pub behind : All (λ (k : ℕ). k ≤ size) o.behind
  pub kept : All (λ (k : ℕ). k ≤ size) o.kept
  pub same : length o.dpb ≡ length o.kept

-- a picture stays what it was, but that it may not be needed for output any more
pub record IsStill (p q : DpbPicture) : Type 0 where
  pub poc : p.poc ≡ q.poc
  pub mark : p.mark ≡ q.mark
