-- A picture that begins anew finds none of the buffer, and marks none as reference (8.3.2).
use Rattle.std.proofs.Common.{◌≡◌, ◌∙◌, ℕ, ℤ, ◌+ℤ◌, zero, suc, Bool, true, false, not, ◌&&◌, ◌||◌, if◌then◌else◌}
use Rattle.std.proofs.Common.{List}
use Rattle.std.proofs.Common.{[], ◌∷◌, ◌++◌, length, map, Option, Some, None, slice_index_or, Result, Ok, Err, refl}
use Rattle.std.proofs.Common.{ap}
use Rattle.std.specs.List.{count_by, filter, range_with_len}
use Rattle.std.proofs.lemmas.List.Folds.{list_any-append}
use Rattle.hv_base.specs.declared.fault.FaultKind.TheVariants.{MissingReference}
use Rattle.header_types.specs.declared.reference_pictures.DpbPicture.{DpbPicture}
use Rattle.header_types.specs.declared.reference_pictures.LongTermRef.{LongTermRef}
use Rattle.header_types.specs.declared.reference_pictures.Mark.{Mark}
use Rattle.header_types.specs.declared.reference_pictures.Mark.TheVariants as mark
use Rattle.header_types.specs.declared.reference_pictures.NamedSets.{NamedSets}
use Rattle.header_types.specs.declared.reference_pictures.PictureName.{PictureName}
use Rattle.header_types.specs.declared.reference_pictures.PictureName.TheVariants.{OrderCount}
use Rattle.header_types.specs.declared.reference_pictures.Rps.{Rps}
use Rattle.header_types.specs.declared.short_term_set.ShortTermRef.{ShortTermRef}
use Rattle.plan_types.specs.SliceTypes.{LongTermRefs}
use Rattle.plan_types.specs.SliceTypes.{PictureKind}
use Rattle.plan_types.specs.SliceTypes.{ReferenceFields}
use Rattle.spec_reference_pictures.specs.PictureOrderCount.{begins_anew, is_irap}
use Rattle.spec_reference_pictures.specs.ReferencePictureSet.{found_set, greatest_below, is_among, is_place}
use Rattle.spec_reference_pictures.specs.ReferencePictureSet.{is_reference, is_sought, lacks_current, long_term_name}
use Rattle.spec_reference_pictures.specs.ReferencePictureSet.{long_term_places, long_term_set, mark_after, named_sets}
use Rattle.spec_reference_pictures.specs.ReferencePictureSet.{no_entry, no_picture, place_of, reference_picture_set}
use Rattle.spec_reference_pictures.specs.ReferencePictureSet.{reference_poc, reference_pocs, short_term_poc}
use Rattle.spec_reference_pictures.specs.ReferencePictureSet.{short_term_pocs, short_term_set}
use Rattle.spec_output_order.proofs.Counts.{count-cons}

no_item : {A B : Type 0} (f : A → Option B) (xs : List A) (k : ℕ) → ((x : A) → f x ≡ None)
    → slice_index_or (map f xs) k None ≡ None
no_item f [] k none = refl
no_item f (x ∷ xs) zero none = none x
no_item f (x ∷ xs) (suc k) none = no_item f xs k none

below_none : (test : ℕ → Bool) (n : ℕ) → ((k : ℕ) → test k ≡ false) → greatest_below test n ≡ None
unfolding greatest_below
below_none test zero none = refl
below_none test (suc n) none = rw (none n) (below_none test n none)

-- where no picture is sought none is found
no_place : (name : PictureName) (counts : List (Option ℤ)) → ((k : ℕ) → slice_index_or counts k None ≡ None)
    → place_of name counts ≡ None
unfolding place_of
no_place name counts none =
    below_none (λ k. is_sought name (slice_index_or counts k None)) (length counts)
    (λ k. ap (λ (c : Option ℤ). is_sought name c) (none k))

not_among : {A : Type 0} (f : A → Option ℕ) (k : ℕ) (xs : List A) → ((x : A) → f x ≡ None)
    → is_among k (map f xs) ≡ false
not_among f k [] none = refl
not_among f k (x ∷ xs) none = rw (none x) (not_among f k xs none)

among_both : (k : ℕ) (xs ys : List (Option ℕ)) → is_among k xs ≡ false → is_among k ys ≡ false
    → is_among k (xs ++ ys) ≡ false
among_both k xs ys a b = list_any-append (is_place k) xs ys ∙ rw (a, b) refl

no_reference : (kind : PictureKind) → begins_anew kind ≡ true → (p : DpbPicture) → reference_poc kind p ≡ None
no_reference kind anew p = rw anew refl

no_long : (kind : PictureKind) (long : LongTermRefs) (poc : ℤ) (dpb : List DpbPicture) → begins_anew kind ≡ true
    → (k : ℕ) → slice_index_or (long_term_places kind long poc dpb) k None ≡ None
unfolding long_term_places reference_pocs
no_long kind long poc dpb anew k =
    no_item (λ i. place_of (long_term_name kind long poc i) (map (reference_poc kind) dpb))
    (range_with_len 0 (length long.entries)) k
    (λ i. no_place (long_term_name kind long poc i) (map (reference_poc kind) dpb)
    (λ n. no_item (reference_poc kind) dpb n (no_reference kind anew)))

no_short : (kind : PictureKind) (long : List (Option ℕ)) (dpb : List DpbPicture) → begins_anew kind ≡ true
    → (k : ℕ) → slice_index_or (short_term_pocs kind long dpb) k None ≡ None
unfolding short_term_pocs
no_short kind long dpb anew k =
    no_item (λ i. short_term_poc kind long i (slice_index_or dpb i no_picture)) (range_with_len 0 (length dpb)) k
    (λ i. rw anew refl)

none_long : (places : List (Option ℕ)) (current : Bool) (entries : List LongTermRef)
    → ((k : ℕ) → slice_index_or places k None ≡ None)
    → (k : ℕ) → is_among k (long_term_set places current entries) ≡ false
unfolding long_term_set
none_long places current entries none k = not_among (λ i. slice_index_or places i None) k _ none

none_short : (counts : List (Option ℤ)) (poc : ℤ) (current : Bool) (entries : List ShortTermRef)
    → ((k : ℕ) → slice_index_or counts k None ≡ None)
    → (k : ℕ) → is_among k (short_term_set counts poc current entries) ≡ false
unfolding short_term_set
none_short counts poc current entries none k =
    not_among (λ (r : ShortTermRef). place_of (OrderCount (poc +ℤ r.delta_poc)) counts) k _
    (λ r. no_place _ counts none)

-- none is marked where no list has it
unused_at : (s : NamedSets) (k : ℕ) → is_among k s.lt_curr ≡ false → is_among k s.lt_foll ≡ false
    → is_among k s.st_curr_before ≡ false → is_among k s.st_curr_after ≡ false → is_among k s.st_foll ≡ false
    → mark_after s k ≡ mark.Unused
unfolding mark_after
unused_at s k a b d e f = rw (a, b, d, e, f) refl

unused : (kind : PictureKind) (references : ReferenceFields) (poc : ℤ) (dpb : List DpbPicture) → begins_anew kind ≡ true
    → (k : ℕ) → mark_after (named_sets kind references poc dpb) k ≡ mark.Unused
unfolding named_sets
unused kind references poc dpb anew k =
    let long = long_term_places kind references.long_term poc dpb in
    let no_l = no_long kind references.long_term poc dpb anew in
    let no_s = no_short kind long dpb anew in
    let short = short_term_pocs kind long dpb in
    let negative = references.short_term_ref_pic_set.negative in
    let positive = references.short_term_ref_pic_set.positive in
    unused_at (named_sets kind references poc dpb) k
    (none_long long true references.long_term.entries no_l k) (none_long long false references.long_term.entries no_l k)
    (none_short short poc true negative no_s k) (none_short short poc true positive no_s k)
    (among_both k (short_term_set short poc false negative) (short_term_set short poc false positive)
    (none_short short poc false negative no_s k) (none_short short poc false positive no_s k))

none_kept : (s : NamedSets) (ks : List ℕ) → ((k : ℕ) → mark_after s k ≡ mark.Unused)
    → count_by is_reference (map (mark_after s) ks) ≡ 0
none_kept s [] none = refl
none_kept s (k ∷ ks) none =
    count-cons is_reference (mark_after s k) (map (mark_after s) ks) ∙ rw (none k, none_kept s ks none) refl

given : (lacks : Bool) (s : NamedSets) (size : ℕ) (rps : Rps)
    → (if lacks then Err MissingReference else Ok (found_set s size)) ≡ Ok rps → rps ≡ found_set s size
given true s size rps e = absurd cc
given false s size rps e = cc

pub anew_marks_none : (kind : PictureKind) (references : ReferenceFields) (poc : ℤ) (dpb : List DpbPicture) (rps : Rps)
    → begins_anew kind ≡ true
    → reference_picture_set kind references poc dpb ≡ Ok rps → count_by is_reference rps.marks ≡ 0
unfolding reference_picture_set found_set
anew_marks_none kind references poc dpb rps anew e =
    let s = named_sets kind references poc dpb in
    let same = given (not (is_irap kind.nal_type) && lacks_current s) s (length dpb) rps e in
    let none = none_kept s (range_with_len 0 (length dpb)) (unused kind references poc dpb anew) in
    rw same none
