-- Reference picture sets (8.3.2).
use Rattle.std.specs.Prelude.{◌≡◌, ◌≢◌, ◌≤◌, ◌<◌, ◌⊎◌, ℕ, zero, suc, ◌+◌, ◌*◌, ℤ, pos, ◌+ℤ◌, ◌-ℤ◌, Bool, true, false}
use Rattle.std.specs.Prelude.{not, ◌&&◌, ◌||◌, ◌==◌, List, ◌++◌, map, length, slice_index_or, Option, Some, None}
use Rattle.std.specs.Prelude.{is_none, unwrap_or, if◌then◌else◌, Result, Ok, Err}
use Rattle.std.specs.List.{Contains, filter, filter_map, list_any, range_with_len, count_by}
use Rattle.std.specs.Ordering.{int_eq}
use Rattle.hv_base.specs.declared.fault.FaultKind.{FaultKind}
use Rattle.hv_base.specs.declared.fault.FaultKind.TheVariants.{MissingReference}
use Rattle.hv_base.specs.declared.refusal.Refusal.{Refusal}
use Rattle.hv_base.specs.declared.refusal.Refusal.TheVariants as refusal
use Rattle.header_types.specs.declared.short_term_set.ShortTermRef.{ShortTermRef}
use Rattle.header_types.specs.declared.reference_pictures.DpbPicture.{DpbPicture}
use Rattle.header_types.specs.declared.reference_pictures.LongTermRef.{LongTermRef}
use Rattle.header_types.specs.declared.reference_pictures.Mark.{Mark}
use Rattle.header_types.specs.declared.reference_pictures.Mark.TheVariants as mark
use Rattle.header_types.specs.declared.reference_pictures.NamedSets.{NamedSets}
use Rattle.header_types.specs.declared.reference_pictures.PictureName.{PictureName}
use Rattle.header_types.specs.declared.reference_pictures.PictureName.TheVariants.{Lsb, OrderCount}
use Rattle.header_types.specs.declared.reference_pictures.Rps.{Rps}
use Rattle.header_types.specs.declared.short_term_set.StRps.{StRps}
use Rattle.slice_types.specs.declared.slice.LongTermRefs.{LongTermRefs}
use Rattle.slice_types.specs.declared.slice.PictureKind.{PictureKind}
use Rattle.slice_types.specs.declared.slice.ReferenceFields.{ReferenceFields}
use Rattle.spec_reference_pictures.specs.PictureOrderCount.{begins_anew, is_irap, lsb_of}

-- NumPicTotalCurr (7-43)
unfoldable pub num_pic_total_curr : ReferenceFields → ℕ
num_pic_total_curr fields =
    count_by (λ (r : ShortTermRef). r.used) fields.short_term_ref_pic_set.negative
    + count_by (λ (r : ShortTermRef). r.used) fields.short_term_ref_pic_set.positive
    + count_by (λ (r : LongTermRef). r.used_by_curr_pic_lt_flag) fields.long_term.entries

-- the greatest number below n that a test holds for
unfoldable pub greatest_below : (ℕ → Bool) → ℕ → Option ℕ
greatest_below test zero = None
greatest_below test (suc n) = if test n then Some n else greatest_below test n

-- whether a picture with this order count has this name
unfoldable pub is_named : PictureName → ℤ → Bool
is_named (Lsb max_lsb lsb) poc = lsb_of max_lsb poc == lsb
is_named (OrderCount named) poc = int_eq poc named

-- a name that a header can give
abbrev pub IsName : PictureName → Type 0
IsName (Lsb max_lsb lsb) = (1 ≤ max_lsb) × (max_lsb ≤ 65536)
IsName (OrderCount poc) = Unit {0}

-- whether a picture that is sought, with this order count, has this name; None is a picture that isn't sought
abbrev pub is_sought : PictureName → Option ℤ → Bool
is_sought name None = false
is_sought name (Some poc) = is_named name poc

-- the place of the picture of this name, among pictures in decoding order that are given by their order counts: of
-- several the one decoded last
unfoldable pub place_of : PictureName → List (Option ℤ) → Option ℕ
place_of name counts = greatest_below (λ k. is_sought name (slice_index_or counts k None)) (length counts)

-- whether this place is one of these
abbrev pub is_place : ℕ → Option ℕ → Bool
is_place k None = false
is_place k (Some place) = place == k

-- whether a place is among those of a list
abbrev pub is_among : ℕ → List (Option ℕ) → Bool
is_among k places = list_any (is_place k) places

-- how pictures are marked
abbrev pub is_reference : Mark → Bool
is_reference mark.Unused = false
is_reference mark.Short = true
is_reference mark.Long = true

-- whether a picture is marked as short-term
abbrev pub is_short_term : Mark → Bool
is_short_term mark.Unused = false
is_short_term mark.Short = true
is_short_term mark.Long = false

-- what stands at a place that no picture of the buffer has
abbrev pub no_picture : DpbPicture
no_picture = record { poc = pos 0; mark = mark.Unused; needed_for_output = false }

-- the order counts of the pictures that are marked as reference when the set is derived: none where the picture begins
-- anew
abbrev pub reference_poc : PictureKind → DpbPicture → Option ℤ
reference_poc kind picture =
    if begins_anew kind then None else (if is_reference picture.mark then Some picture.poc else None)

-- the order counts of all pictures that are marked as reference
unfoldable pub reference_pocs : PictureKind → List DpbPicture → List (Option ℤ)
reference_pocs kind dpb = map (reference_poc kind) dpb

-- what stands at a place that no long-term entry has
abbrev pub no_entry : LongTermRef
no_entry = record { lt_idx_sps = None; poc_lsb_lt = 0; used_by_curr_pic_lt_flag = false; delta_poc_msb_cycle_lt = None }

-- entry i of the long-term pictures of a header
abbrev pub long_term_entry : LongTermRefs → ℕ → LongTermRef
long_term_entry long i = slice_index_or long.entries i no_entry

-- delta_poc_msb_cycle_lt of an entry: 0 where it isn't coded
abbrev pub own_cycle : LongTermRefs → ℕ → ℕ
own_cycle long i = unwrap_or (long_term_entry long i).delta_poc_msb_cycle_lt 0

-- DeltaPocMsbCycleLt of the entry before entry i, 0 before the first (7-38): it counts from that of the entry before it
-- again, but at the first entry that names no candidate of the sequence parameter set
unfoldable pub msb_cycle_before : LongTermRefs → ℕ → ℕ
msb_cycle_before long zero = 0
msb_cycle_before long (suc i) =
    if i == long.num_long_term_sps then own_cycle long i else own_cycle long i + msb_cycle_before long i

-- DeltaPocMsbCycleLt of entry i
abbrev pub msb_cycle : LongTermRefs → ℕ → ℕ
msb_cycle long i = msb_cycle_before long (suc i)

-- the name of a picture by its least significant bits, or, where the cycle of the others is coded too, by all: pocLt
-- (8-5)
abbrev pub name_by : ℕ → ℤ → ℕ → ℕ → Option ℕ → PictureName
name_by max_lsb poc lsb cycle None = Lsb max_lsb lsb
name_by max_lsb poc lsb cycle (Some _) =
    OrderCount (poc -ℤ pos (cycle * max_lsb) -ℤ pos (lsb_of max_lsb poc) +ℤ pos lsb)

-- how long-term entry i names its picture
unfoldable pub long_term_name : PictureKind → LongTermRefs → ℤ → ℕ → PictureName
long_term_name kind long poc i =
    let entry : LongTermRef = long_term_entry long i in
    name_by kind.max_lsb poc entry.poc_lsb_lt (msb_cycle long i) entry.delta_poc_msb_cycle_lt

-- the places of the pictures that the long-term entries name, which are sought among all that are marked as reference
unfoldable pub long_term_places : PictureKind → LongTermRefs → ℤ → List DpbPicture → List (Option ℕ)
long_term_places kind long poc dpb =
    map (λ i. place_of (long_term_name kind long poc i) (reference_pocs kind dpb))
    (range_with_len 0 (length long.entries))

-- the order counts of the short-term pictures: those that are marked so and that no long-term entry names
abbrev pub short_term_poc : PictureKind → List (Option ℕ) → ℕ → DpbPicture → Option ℤ
short_term_poc kind long k picture =
    if begins_anew kind || is_among k long then None
    else (if is_short_term picture.mark then Some picture.poc else None)

-- the order counts of those that short-term entries may name
unfoldable pub short_term_pocs : PictureKind → List (Option ℕ) → List DpbPicture → List (Option ℤ)
short_term_pocs kind long dpb =
    map (λ k. short_term_poc kind long k (slice_index_or dpb k no_picture)) (range_with_len 0 (length dpb))

-- whether an entry is one that the picture itself may use, or one that only later pictures may
abbrev pub is_for : Bool → Bool → Bool
is_for true used = used
is_for false used = not used

-- the pictures of the short-term entries for the picture itself, or of those for later pictures alone
unfoldable pub short_term_set : List (Option ℤ) → ℤ → Bool → List ShortTermRef → List (Option ℕ)
short_term_set counts poc current entries =
    map (λ (r : ShortTermRef). place_of (OrderCount (poc +ℤ r.delta_poc)) counts)
    (filter (λ (r : ShortTermRef). is_for current r.used) entries)

-- the pictures of the long-term entries for the picture itself, or of the others, where these are those of all
unfoldable pub long_term_set : List (Option ℕ) → Bool → List LongTermRef → List (Option ℕ)
long_term_set places current entries =
    map (λ i. slice_index_or places i None)
    (filter (λ i. is_for current (slice_index_or entries i no_entry).used_by_curr_pic_lt_flag)
    (range_with_len 0 (length entries)))

-- the five lists (8-5, 8-6, 8-7), None standing for "no reference picture"
unfoldable pub named_sets : PictureKind → ReferenceFields → ℤ → List DpbPicture → NamedSets
named_sets kind fields poc dpb =
    let long : List (Option ℕ) = long_term_places kind fields.long_term poc dpb in
    let short : List (Option ℤ) = short_term_pocs kind long dpb in
    let negative : List ShortTermRef = fields.short_term_ref_pic_set.negative in
    let positive : List ShortTermRef = fields.short_term_ref_pic_set.positive in
    record {
      st_curr_before = short_term_set short poc true negative;
      st_curr_after = short_term_set short poc true positive;
      st_foll = short_term_set short poc false negative ++ short_term_set short poc false positive;
      lt_curr = long_term_set long true fields.long_term.entries;
      lt_foll = long_term_set long false fields.long_term.entries;
    }

-- whether a picture lacks that the picture itself may use
unfoldable pub lacks_current : NamedSets → Bool
lacks_current sets =
    list_any is_none sets.st_curr_before || list_any is_none sets.st_curr_after || list_any is_none sets.lt_curr

-- the pictures that were found
unfoldable pub found : List (Option ℕ) → List ℕ
found places = filter_map (λ place. place) places

-- how the picture at a place is marked afterwards
unfoldable pub mark_after : NamedSets → ℕ → Mark
mark_after sets k =
    if is_among k sets.lt_curr || is_among k sets.lt_foll then mark.Long else
    (if is_among k sets.st_curr_before || (is_among k sets.st_curr_after || is_among k sets.st_foll) then mark.Short
    else mark.Unused)

-- the set of the pictures that were found in a buffer of this many
unfoldable pub found_set : NamedSets → ℕ → Rps
found_set sets size =
    record {
      st_curr_before = found sets.st_curr_before;
      st_curr_after = found sets.st_curr_after;
      st_foll = found sets.st_foll;
      lt_curr = found sets.lt_curr;
      lt_foll = found sets.lt_foll;
      marks = map (mark_after sets) (range_with_len 0 size);
    }

-- the reference picture set of a picture, or the rule that it breaks: only an intra random access point may lack a
-- picture that it may use itself
unfoldable pub reference_picture_set : PictureKind → ReferenceFields → ℤ → List DpbPicture → Result Rps FaultKind
reference_picture_set kind fields poc dpb =
    let sets : NamedSets = named_sets kind fields poc dpb in
    if not (is_irap kind.nal_type) && lacks_current sets then Err MissingReference else Ok (found_set sets (length dpb))

-- what a call answered is this set or this broken rule; where memory ran out nothing is said
abbrev pub GivesSet : Result Rps Refusal → Result Rps FaultKind → Type 0
GivesSet (Ok rps) set = set ≡ Ok rps
GivesSet (Err refusal.Memory) set = Unit {0}
GivesSet (Err (refusal.Fault kind)) set = set ≡ Err kind
GivesSet (Err (refusal.Limit kind)) set = ⊥

-- whether the picture at a place is in a short-term list, or in a long-term one
abbrev pub IsShortTerm : Rps → ℕ → Type 0
IsShortTerm rps k = Contains rps.st_curr_before k ⊎ (Contains rps.st_curr_after k ⊎ Contains rps.st_foll k)

-- a picture that is in a long-term list
abbrev pub IsLongTerm : Rps → ℕ → Type 0
IsLongTerm rps k = Contains rps.lt_curr k ⊎ Contains rps.lt_foll k

-- the mark of the picture at a place of the buffer that the set was derived over
abbrev pub IsMarked : Rps → ℕ → Mark → Type 0
IsMarked rps k m = (k < length rps.marks) × (slice_index_or rps.marks k mark.Unused ≡ m)

-- no two entries of a short-term set have the same difference
pub record HasDistinctDeltas (s : StRps) : Type 0 where
  pub sides : (a b : ShortTermRef) → Contains s.negative a → Contains s.positive b → a.delta_poc ≢ b.delta_poc
  pub negative : (a b : ShortTermRef) → Contains s.negative a → Contains s.negative b → a.delta_poc ≡ b.delta_poc
      → a ≡ b
  pub positive : (a b : ShortTermRef) → Contains s.positive a → Contains s.positive b → a.delta_poc ≡ b.delta_poc
      → a ≡ b
