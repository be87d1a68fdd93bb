-- How many pictures a picture may use.
use Rattle.std.proofs.Common.{ℕ, ℤ, zero, suc, ◌≡◌, ◌∙◌, ◌+◌, ◌≤◌, Bool, true, false, not, ◌&&◌, ◌||◌, cond}
use Rattle.std.proofs.Common.{if◌then◌else◌, List, [], ◌∷◌, ◌++◌, length, take, slice_index_or, Option, Some, None}
use Rattle.std.proofs.Common.{is_none, Result, Ok, Err, arith, refl, sym, ap, subst}
use Rattle.std.specs.List.{count_by, filter, list_any, range_with_len}
use Rattle.std.proofs.Math.Seq.{take-length}
use Rattle.std.proofs.lemmas.List.{length-append, length-map, map-id}
use Rattle.std.proofs.lemmas.List.FromFn.{filter_of_map_range_with_len_more}
use Rattle.std.proofs.lemmas.List.Sums.{length-filter, sum_by_more}
use Rattle.hv_base.specs.declared.fault.FaultKind.{FaultKind}
use Rattle.hv_base.specs.declared.fault.FaultKind.TheVariants.{MissingReference}
use Rattle.header_types.specs.declared.reference_pictures.DpbPicture.{DpbPicture}
use Rattle.header_types.specs.declared.reference_pictures.LongTermRef.{LongTermRef}
use Rattle.header_types.specs.declared.reference_pictures.NamedSets.{NamedSets}
use Rattle.header_types.specs.declared.reference_pictures.Rps.{Rps}
use Rattle.header_types.specs.declared.short_term_set.ShortTermRef.{ShortTermRef}
use Rattle.slice_types.specs.declared.slice.PictureKind.{PictureKind}
use Rattle.slice_types.specs.declared.slice.ReferenceFields.{ReferenceFields}
use Rattle.spec_reference_pictures.specs.PictureOrderCount.{is_irap}
use Rattle.spec_reference_pictures.specs.ReferencePictureSet.{found, found_set, lacks_current, long_term_places}
use Rattle.spec_reference_pictures.specs.ReferencePictureSet.{long_term_set, named_sets, no_entry, num_pic_total_curr}
use Rattle.spec_reference_pictures.specs.ReferencePictureSet.{reference_picture_set, short_term_pocs, short_term_set}

-- the places that a test picks, one place further
pub picked_range : (p : ℕ → Bool) (n : ℕ)
    → filter p (range_with_len 0 (n + 1)) ≡ filter p (range_with_len 0 n) ++ cond (p n) (n ∷ []) []
picked_range p n =
    let e = filter_of_map_range_with_len_more p (λ (k : ℕ). k) 0 n n (omega arith) in
    simp map-id at e

one_or_none : (b : Bool) (n : ℕ) → length (cond b (n ∷ []) []) ≡ cond b 1 0
one_or_none true n = refl
one_or_none false n = refl

-- as many places as items pass the test
picked_places : {A : Type 0} (p : A → Bool) (xs : List A) (d : A) (n : ℕ) → n ≤ length xs
    → length (filter (λ i. p (slice_index_or xs i d)) (range_with_len 0 n)) ≡ count_by p (take n xs)
picked_places p xs d zero inside = refl
picked_places p xs d (suc n) inside =
    let test : ℕ → Bool = λ i. p (slice_index_or xs i d) in
    let one : n + 1 ≡ suc n = omega arith in
    let before : length (filter test (range_with_len 0 n)) ≡ count_by p (take n xs) =
    picked_places p xs d n (omega arith) in
    let item : length (cond (test n) (n ∷ []) []) ≡ cond (test n) 1 0 = one_or_none (test n) n in
    let step : length (filter test (range_with_len 0 (n + 1)))
    ≡ length (filter test (range_with_len 0 n)) + length (cond (test n) (n ∷ []) []) =
    ap length (picked_range test n) ∙ length-append (filter test (range_with_len 0 n)) (cond (test n) (n ∷ []) []) in
    let more = sum_by_more (λ x. cond (p x) 1 0) xs n d (omega arith) in
    let sums : length (filter test (range_with_len 0 n)) + length (cond (test n) (n ∷ []) [])
    ≡ count_by p (take n xs) + cond (test n) 1 0 =
    ap (λ m. m + length (cond (test n) (n ∷ []) [])) before ∙ ap (λ m. count_by p (take n xs) + m) item in
    subst (λ m. length (filter test (range_with_len 0 m)) ≡ count_by p (take m xs)) one (step ∙ sums ∙ sym more)

-- where no picture lacks, as many are found as are named
all_found : (places : List (Option ℕ)) → list_any is_none places ≡ false → length (found places) ≡ length places
unfolding found
all_found [] e = refl
all_found (None ∷ places) e = cc
all_found (Some k ∷ places) e = let rest = all_found places e in omega (arith, rest)

short_many : (counts : List (Option ℤ)) (poc : ℤ) (entries : List ShortTermRef)
    → length (short_term_set counts poc true entries) ≡ count_by (λ (r : ShortTermRef). r.used) entries
unfolding short_term_set
short_many counts poc entries =
    length-map (filter (λ (r : ShortTermRef). r.used) entries) _ ∙ length-filter (λ (r : ShortTermRef). r.used) entries

long_many : (places : List (Option ℕ)) (entries : List LongTermRef)
    → length (long_term_set places true entries) ≡ count_by (λ (r : LongTermRef). r.used_by_curr_pic_lt_flag) entries
unfolding long_term_set
long_many places entries =
    let p : LongTermRef → Bool = λ r. r.used_by_curr_pic_lt_flag in
    length-map (filter (λ i. p (slice_index_or entries i no_entry)) (range_with_len 0 (length entries))) _
    ∙ picked_places p entries no_entry (length entries) (omega arith)
    ∙ ap (count_by p) (take-length entries)

none_lacks : (a b c : Bool) → (a || b || c) ≡ false → (a ≡ false) × (b ≡ false) × (c ≡ false)
none_lacks true b c e = cc
none_lacks false true c e = cc
none_lacks false false true e = cc
none_lacks false false false e = (refl, refl, refl)

no_fault : {X : Type 0} (irap b : Bool) (fault : FaultKind) (x y : X) → irap ≡ false
    → (if not irap && b then Err fault else Ok x) ≡ Ok y → b ≡ false
no_fault {X} true b fault x y is e = cc
no_fault {X} false true fault x y is e = let no : ◌≡◌ {A = Result X FaultKind} (Err fault) (Ok y) = e in cc
no_fault {X} false false fault x y is e = refl

pub total_found : (kind : PictureKind) (fields : ReferenceFields) (poc : ℤ) (dpb : List DpbPicture) (n : ℕ)
    → lacks_current (named_sets kind fields poc dpb) ≡ false
    → length (found_set (named_sets kind fields poc dpb) n).st_curr_before
    + length (found_set (named_sets kind fields poc dpb) n).st_curr_after
    + length (found_set (named_sets kind fields poc dpb) n).lt_curr
    ≡ num_pic_total_curr fields
unfolding found_set named_sets lacks_current num_pic_total_curr
total_found kind fields poc dpb n e =
    let sets : NamedSets = named_sets kind fields poc dpb in
    let long : List (Option ℕ) = long_term_places kind fields.long_term poc dpb in
    let counts : List (Option ℤ) = short_term_pocs kind long dpb in
    let (a, b, d) =
    none_lacks (list_any is_none sets.st_curr_before) (list_any is_none sets.st_curr_after)
    (list_any is_none sets.lt_curr) e in
    let before = all_found sets.st_curr_before a ∙ short_many counts poc fields.short_term_ref_pic_set.negative in
    let after = all_found sets.st_curr_after b ∙ short_many counts poc fields.short_term_ref_pic_set.positive in
    let kept = all_found sets.lt_curr d ∙ long_many long fields.long_term.entries in
    ap (λ m. m + length (found sets.st_curr_after) + length (found sets.lt_curr)) before
    ∙ ap (λ m. count_by (λ (r : ShortTermRef). r.used) fields.short_term_ref_pic_set.negative + m
    + length (found sets.lt_curr))
    after
    ∙ ap (λ m. count_by (λ (r : ShortTermRef). r.used) fields.short_term_ref_pic_set.negative
    + count_by (λ (r : ShortTermRef). r.used) fields.short_term_ref_pic_set.positive + m)
    kept

-- a set that breaks no rule lacks none
pub none_missing : (kind : PictureKind) (fields : ReferenceFields) (poc : ℤ) (dpb : List DpbPicture) (rps : Rps)
    → is_irap kind.nal_type ≡ false → reference_picture_set kind fields poc dpb ≡ Ok rps
    → lacks_current (named_sets kind fields poc dpb) ≡ false
unfolding reference_picture_set
none_missing kind fields poc dpb rps other e =
    let sets : NamedSets = named_sets kind fields poc dpb in
    no_fault (is_irap kind.nal_type) (lacks_current sets) MissingReference (found_set sets (length dpb)) rps other e
