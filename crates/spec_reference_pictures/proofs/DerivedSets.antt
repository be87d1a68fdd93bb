-- What stands in the lists of a reference picture set.
use Rattle.std.proofs.Common.{ℕ, ℤ, ◌+ℤ◌, ◌≡◌, ◌∙◌, ◌<◌, ◌⊎◌, inl, inr, Bool, true, false, not, ◌&&◌, ◌||◌}
use Rattle.std.proofs.Common.{if◌then◌else◌, List, ◌++◌, map, length, slice_index_or, Option, Some, None, Result, Ok}
use Rattle.std.proofs.Common.{Err, arith, refl, sym, subst}
use Rattle.std.specs.List.{range_with_len}
use Rattle.std.proofs.lemmas.List.{length-map}
use Rattle.std.proofs.lemmas.List.FromFn.{get_or-map-range_with_len, length-map-range_with_len}
use Rattle.hv_base.specs.declared.fault.FaultKind.{FaultKind}
use Rattle.header_types.specs.declared.reference_pictures.DpbPicture.{DpbPicture}
use Rattle.header_types.specs.declared.reference_pictures.LongTermRef.{LongTermRef}
use Rattle.header_types.specs.declared.reference_pictures.Mark.{Mark}
use Rattle.header_types.specs.declared.reference_pictures.Mark.TheVariants as mark
use Rattle.header_types.specs.declared.reference_pictures.NamedSets.{NamedSets}
use Rattle.header_types.specs.declared.reference_pictures.PictureName.{PictureName}
use Rattle.header_types.specs.declared.reference_pictures.PictureName.TheVariants.{OrderCount}
use Rattle.header_types.specs.declared.reference_pictures.Rps.{Rps}
use Rattle.header_types.specs.declared.short_term_set.ShortTermRef.{ShortTermRef}
use Rattle.slice_types.specs.declared.slice.LongTermRefs.{LongTermRefs}
use Rattle.slice_types.specs.declared.slice.PictureKind.{PictureKind}
use Rattle.slice_types.specs.declared.slice.ReferenceFields.{ReferenceFields}
use Rattle.hv_base.specs.declared.fault.FaultKind.TheVariants.{MissingReference}
use Rattle.spec_reference_pictures.specs.PictureOrderCount.{begins_anew, is_irap}
use Rattle.spec_reference_pictures.specs.ReferencePictureSet.{found_set, is_among, is_for, is_short_term, is_sought}
use Rattle.spec_reference_pictures.specs.ReferencePictureSet.{IsLongTerm, IsMarked, IsShortTerm, lacks_current}
use Rattle.spec_reference_pictures.specs.ReferencePictureSet.{long_term_name, long_term_places, long_term_set}
use Rattle.spec_reference_pictures.specs.ReferencePictureSet.{mark_after, named_sets, no_entry, no_picture, place_of}
use Rattle.spec_reference_pictures.specs.ReferencePictureSet.{reference_poc, reference_pocs, reference_picture_set}
use Rattle.spec_reference_pictures.specs.ReferencePictureSet.{short_term_poc, short_term_pocs, short_term_set}
use Rattle.spec_reference_pictures.proofs.Found.{among_append, among_at, among_contains, among_mapped, among_picked}
use Rattle.spec_reference_pictures.proofs.Found.{contains_among, greatest_holds}

-- what place_of answers is the place of a picture that is sought
pub place_sought : (name : PictureName) (counts : List (Option ℤ)) (k : ℕ) → place_of name counts ≡ Some k
    → (k < length counts) × (is_sought name (slice_index_or counts k None) ≡ true)
unfolding place_of
place_sought name counts k e = greatest_holds (λ i. is_sought name (slice_index_or counts i None)) (length counts) k e

short_count_at : (kind : PictureKind) (long : List (Option ℕ)) (dpb : List DpbPicture) (k : ℕ) → k < length dpb
    → slice_index_or (short_term_pocs kind long dpb) k None
    ≡ short_term_poc kind long k (slice_index_or dpb k no_picture)
unfolding short_term_pocs
short_count_at kind long dpb k inside =
    get_or-map-range_with_len (λ i. short_term_poc kind long i (slice_index_or dpb i no_picture)) 0 (length dpb) k k
    None inside (omega arith)

short_counts_length : (kind : PictureKind) (long : List (Option ℕ)) (dpb : List DpbPicture)
    → length (short_term_pocs kind long dpb) ≡ length dpb
unfolding short_term_pocs
short_counts_length kind long dpb =
    length-map-range_with_len (λ i. short_term_poc kind long i (slice_index_or dpb i no_picture)) 0 (length dpb)

not_long : (name : PictureName) (anew long : Bool) (count : Option ℤ)
    → is_sought name (if anew || long then None else count) ≡ true → long ≡ false
not_long name true long count e = cc
not_long name false true count e = cc
not_long name false false count e = refl

-- a place that a short-term entry names is in the buffer, and no long-term entry names it
short_place : (kind : PictureKind) (long : List (Option ℕ)) (dpb : List DpbPicture) (name : PictureName) (k : ℕ)
    → place_of name (short_term_pocs kind long dpb) ≡ Some k
    → (k < length dpb) × (is_among k long ≡ false)
short_place kind long dpb name k e =
    let sought = place_sought name (short_term_pocs kind long dpb) k e in
    let inside : k < length dpb = omega (arith, sought.0, short_counts_length kind long dpb) in
    let at = subst (λ (c : Option ℤ). is_sought name c ≡ true) (short_count_at kind long dpb k inside) sought.1 in
    let picture : DpbPicture = slice_index_or dpb k no_picture in (
      inside,
      not_long name (begins_anew kind) (is_among k long)
          (if is_short_term picture.mark then Some picture.poc else None) at,
    )

-- a place in a short-term list
pub short_listed : (kind : PictureKind) (long : List (Option ℕ)) (dpb : List DpbPicture) (poc : ℤ) (current : Bool)
    (entries : List ShortTermRef) (k : ℕ)
    → is_among k (short_term_set (short_term_pocs kind long dpb) poc current entries) ≡ true
    → (k < length dpb) × (is_among k long ≡ false)
unfolding short_term_set
short_listed kind long dpb poc current entries k e =
    let (r, is) =
    among_picked (λ (r : ShortTermRef). place_of (OrderCount (poc +ℤ r.delta_poc)) (short_term_pocs kind long dpb))
    (λ (r : ShortTermRef). is_for current r.used) entries k e in
    short_place kind long dpb (OrderCount (poc +ℤ r.delta_poc)) k is.names

-- a place in a long-term list
pub long_listed : (places : List (Option ℕ)) (current : Bool) (entries : List LongTermRef) (k : ℕ)
    → is_among k (long_term_set places current entries) ≡ true → is_among k places ≡ true
unfolding long_term_set
long_listed places current entries k e =
    let (i, is) =
    among_picked (λ (i : ℕ). slice_index_or places i None)
    (λ (i : ℕ). is_for current (slice_index_or entries i no_entry).used_by_curr_pic_lt_flag)
    (range_with_len 0 (length entries)) k e in
    among_at places i k is.names

pub long_inside : (kind : PictureKind) (long : LongTermRefs) (poc : ℤ) (dpb : List DpbPicture) (k : ℕ)
    → is_among k (long_term_places kind long poc dpb) ≡ true → k < length dpb
unfolding long_term_places reference_pocs
long_inside kind long poc dpb k e =
    let (i, is) =
    among_mapped (λ (i : ℕ). place_of (long_term_name kind long poc i) (map (reference_poc kind) dpb))
    (range_with_len 0 (length long.entries)) k e in
    let sought = place_sought (long_term_name kind long poc i) (map (reference_poc kind) dpb) k is in
    omega (arith, sought.0, length-map dpb (reference_poc kind))

-- the marks by what is among the lists
long_or : (a b c : Bool) → (if a || b then mark.Long else (if c then mark.Short else mark.Unused)) ≡ mark.Long
    → (a ≡ true) ⊎ (b ≡ true)
long_or true b c e = inl refl
long_or false true c e = inr refl
long_or false false true e = cc
long_or false false false e = cc

short_or : (a b c d e : Bool)
    → (if a || b then mark.Long else (if c || (d || e) then mark.Short else mark.Unused)) ≡ mark.Short
    → (c ≡ true) ⊎ ((d ≡ true) ⊎ (e ≡ true))
short_or true b c d e is = cc
short_or false true c d e is = cc
short_or false false true d e is = inl refl
short_or false false false true e is = inr (inl refl)
short_or false false false false true is = inr (inr refl)
short_or false false false false false is = cc

long_from : (a b c : Bool) → (a ≡ true) ⊎ (b ≡ true)
    → (if a || b then mark.Long else (if c then mark.Short else mark.Unused)) ≡ mark.Long
long_from true b c h = refl
long_from false true c h = refl
long_from false false c (inl h) = cc
long_from false false c (inr h) = cc

short_from : (a b c d e : Bool) → a ≡ false → b ≡ false → (c ≡ true) ⊎ ((d ≡ true) ⊎ (e ≡ true))
    → (if a || b then mark.Long else (if c || (d || e) then mark.Short else mark.Unused)) ≡ mark.Short
short_from true b c d e not_a not_b h = cc
short_from false true c d e not_a not_b h = cc
short_from false false true d e not_a not_b h = refl
short_from false false false true e not_a not_b h = refl
short_from false false false false true not_a not_b h = refl
short_from false false false false false not_a not_b (inl h) = cc
short_from false false false false false not_a not_b (inr (inl h)) = cc
short_from false false false false false not_a not_b (inr (inr h)) = cc

pub marks_length : (sets : NamedSets) (n : ℕ) → length (found_set sets n).marks ≡ n
unfolding found_set
marks_length sets n = length-map-range_with_len (mark_after sets) 0 n

mark_at : (sets : NamedSets) (n k : ℕ) → k < n
    → slice_index_or (found_set sets n).marks k mark.Unused ≡ mark_after sets k
unfolding found_set
mark_at sets n k inside = get_or-map-range_with_len (mark_after sets) 0 n k k mark.Unused inside (omega arith)

marked : (sets : NamedSets) (n k : ℕ) (m : Mark) → IsMarked (found_set sets n) k m → (k < n) × (mark_after sets k ≡ m)
marked sets n k m h =
    let inside : k < n = omega (arith, h.0, marks_length sets n) in
    (inside, sym (mark_at sets n k inside) ∙ h.1)

is_marked : (sets : NamedSets) (n k : ℕ) (m : Mark) → k < n → mark_after sets k ≡ m → IsMarked (found_set sets n) k m
is_marked sets n k m inside e = (omega (arith, inside, marks_length sets n), mark_at sets n k inside ∙ e)

-- the laws for the set that was found
pub marked_long : (sets : NamedSets) (n k : ℕ) → IsMarked (found_set sets n) k mark.Long
    → IsLongTerm (found_set sets n) k
unfolding found_set mark_after
marked_long sets n k h =
    let short : Bool = is_among k sets.st_curr_before || (is_among k sets.st_curr_after || is_among k sets.st_foll) in
    elim (long_or (is_among k sets.lt_curr) (is_among k sets.lt_foll) short (marked sets n k mark.Long h).1) [
      | inl a ↦ inl (contains_among k sets.lt_curr a)
      | inr b ↦ inr (contains_among k sets.lt_foll b)
    ]

pub marked_short : (sets : NamedSets) (n k : ℕ) → IsMarked (found_set sets n) k mark.Short
    → IsShortTerm (found_set sets n) k
unfolding found_set mark_after
marked_short sets n k h =
    elim (short_or (is_among k sets.lt_curr) (is_among k sets.lt_foll) (is_among k sets.st_curr_before)
    (is_among k sets.st_curr_after) (is_among k sets.st_foll) (marked sets n k mark.Short h).1) [
      | inl a ↦ inl (contains_among k sets.st_curr_before a)
      | inr (inl b) ↦ inr (inl (contains_among k sets.st_curr_after b))
      | inr (inr d) ↦ inr (inr (contains_among k sets.st_foll d))
    ]

not_from : (b c : Bool) → (b ≡ true → c ≡ true) → c ≡ false → b ≡ false
not_from true c so fails = let e = so refl in cc
not_from false c so fails = refl

pub long_marked : (kind : PictureKind) (fields : ReferenceFields) (poc : ℤ) (dpb : List DpbPicture) (k : ℕ)
    → IsLongTerm (found_set (named_sets kind fields poc dpb) (length dpb)) k
    → IsMarked (found_set (named_sets kind fields poc dpb) (length dpb)) k mark.Long
unfolding found_set named_sets mark_after
long_marked kind fields poc dpb k h =
    let sets : NamedSets = named_sets kind fields poc dpb in
    let long : List (Option ℕ) = long_term_places kind fields.long_term poc dpb in
    let short : Bool = is_among k sets.st_curr_before || (is_among k sets.st_curr_after || is_among k sets.st_foll) in
    let finish : (is_among k sets.lt_curr ≡ true) ⊎ (is_among k sets.lt_foll ≡ true) → is_among k long ≡ true
    → IsMarked (found_set sets (length dpb)) k mark.Long =
    λ listed among. is_marked sets (length dpb) k mark.Long (long_inside kind fields.long_term poc dpb k among)
    (long_from (is_among k sets.lt_curr) (is_among k sets.lt_foll) short listed) in
    elim h [
      | inl a ↦
          let e : is_among k sets.lt_curr ≡ true = among_contains k sets.lt_curr a in
          finish (inl e) (long_listed long true fields.long_term.entries k e)
      | inr b ↦
          let e : is_among k sets.lt_foll ≡ true = among_contains k sets.lt_foll b in
          finish (inr e) (long_listed long false fields.long_term.entries k e)
    ]

-- a place in one of the short-term lists
pub foll_listed : (kind : PictureKind) (long : List (Option ℕ)) (dpb : List DpbPicture) (poc : ℤ)
    (negative positive : List ShortTermRef) (k : ℕ)
    → is_among k
    (short_term_set (short_term_pocs kind long dpb) poc false negative
    ++ short_term_set (short_term_pocs kind long dpb) poc false positive)
    ≡ true
    → (k < length dpb) × (is_among k long ≡ false)
foll_listed kind long dpb poc negative positive k e =
    let counts : List (Option ℤ) = short_term_pocs kind long dpb in
    elim (among_append k (short_term_set counts poc false negative) (short_term_set counts poc false positive) e) [
      | inl a ↦ short_listed kind long dpb poc false negative k a
      | inr b ↦ short_listed kind long dpb poc false positive k b
    ]

pub short_marked : (kind : PictureKind) (fields : ReferenceFields) (poc : ℤ) (dpb : List DpbPicture) (k : ℕ)
    → IsShortTerm (found_set (named_sets kind fields poc dpb) (length dpb)) k
    → IsMarked (found_set (named_sets kind fields poc dpb) (length dpb)) k mark.Short
unfolding found_set named_sets mark_after
short_marked kind fields poc dpb k h =
    let sets : NamedSets = named_sets kind fields poc dpb in
    let long : List (Option ℕ) = long_term_places kind fields.long_term poc dpb in
    let negative : List ShortTermRef = fields.short_term_ref_pic_set.negative in
    let positive : List ShortTermRef = fields.short_term_ref_pic_set.positive in
    let before : Bool = is_among k sets.st_curr_before in
    let after : Bool = is_among k sets.st_curr_after in
    let foll : Bool = is_among k sets.st_foll in
    let finish : (before ≡ true) ⊎ ((after ≡ true) ⊎ (foll ≡ true)) → (k < length dpb) × (is_among k long ≡ false)
    → IsMarked (found_set sets (length dpb)) k mark.Short =
    λ listed place.
    let not_curr : is_among k sets.lt_curr ≡ false =
    not_from (is_among k sets.lt_curr) (is_among k long) (long_listed long true fields.long_term.entries k) place.1 in
    let not_foll : is_among k sets.lt_foll ≡ false =
    not_from (is_among k sets.lt_foll) (is_among k long) (long_listed long false fields.long_term.entries k) place.1 in
    is_marked sets (length dpb) k mark.Short place.0
    (short_from (is_among k sets.lt_curr) (is_among k sets.lt_foll) before after foll not_curr not_foll listed) in
    elim h [
      | inl a ↦
          let e : before ≡ true = among_contains k sets.st_curr_before a in
          finish (inl e) (short_listed kind long dpb poc true negative k e)
      | inr (inl b) ↦
          let e : after ≡ true = among_contains k sets.st_curr_after b in
          finish (inr (inl e)) (short_listed kind long dpb poc true positive k e)
      | inr (inr d) ↦
          let e : foll ≡ true = among_contains k sets.st_foll d in
          finish (inr (inr e)) (foll_listed kind long dpb poc negative positive k e)
    ]

-- the set of a picture that breaks no rule
set_of : {X : Type 0} (b : Bool) (fault : FaultKind) (x y : X) → (if b then Err fault else Ok x) ≡ Ok y → y ≡ x
set_of {X} true fault x y e = let no : ◌≡◌ {A = Result X FaultKind} (Err fault) (Ok y) = e in cc
set_of {X} false fault x y e = let same : ◌≡◌ {A = Result X FaultKind} (Ok x) (Ok y) = e in cc

pub set_is : (kind : PictureKind) (fields : ReferenceFields) (poc : ℤ) (dpb : List DpbPicture) (rps : Rps)
    → reference_picture_set kind fields poc dpb ≡ Ok rps
    → rps ≡ found_set (named_sets kind fields poc dpb) (length dpb)
unfolding reference_picture_set
set_is kind fields poc dpb rps e =
    let sets : NamedSets = named_sets kind fields poc dpb in
    set_of (not (is_irap kind.nal_type) && lacks_current sets) MissingReference (found_set sets (length dpb)) rps e
