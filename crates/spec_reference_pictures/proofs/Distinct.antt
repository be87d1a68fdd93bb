-- Why no picture is in two short-term lists.
use Rattle.std.proofs.Common.{ℕ, ℤ, ◌+ℤ◌, ◌≡◌, ◌∙◌, inl, inr, Bool, true, false, not, List, slice_index_or, Option}
use Rattle.std.proofs.Common.{Some, None, arith, sym, ap}
use Rattle.std.specs.List.{Contains}
use Rattle.std.proofs.lemmas.Bool.Decides.{Decides-int_eq}
use Rattle.std.proofs.lemmas.Int.{ints}
use Rattle.header_types.specs.declared.reference_pictures.DpbPicture.{DpbPicture}
use Rattle.header_types.specs.declared.reference_pictures.NamedSets.{NamedSets}
use Rattle.header_types.specs.declared.reference_pictures.PictureName.TheVariants.{OrderCount}
use Rattle.header_types.specs.declared.short_term_set.ShortTermRef.{ShortTermRef}
use Rattle.slice_types.specs.declared.slice.PictureKind.{PictureKind}
use Rattle.slice_types.specs.declared.slice.ReferenceFields.{ReferenceFields}
use Rattle.spec_reference_pictures.specs.ReferencePictureSet.{HasDistinctDeltas, found_set, is_among, is_for}
use Rattle.spec_reference_pictures.specs.ReferencePictureSet.{is_named}
use Rattle.spec_reference_pictures.specs.ReferencePictureSet.{is_sought, long_term_places, named_sets, place_of}
use Rattle.spec_reference_pictures.specs.ReferencePictureSet.{short_term_pocs, short_term_set}
use Rattle.spec_reference_pictures.proofs.Found.{among_append, among_contains, among_picked, IsNamedBy}
use Rattle.spec_reference_pictures.proofs.DerivedSets.{place_sought}

sought_count : (count : Option ℤ) (z : ℤ) → is_sought (OrderCount z) count ≡ true → count ≡ Some z
unfolding is_named
sought_count None z e = cc
sought_count (Some poc) z e = ap Some ((Decides-int_eq poc z).0 e)

-- entries that name one picture have one difference
same_delta : (counts : List (Option ℤ)) (poc a b : ℤ) (k : ℕ) → place_of (OrderCount (poc +ℤ a)) counts ≡ Some k
    → place_of (OrderCount (poc +ℤ b)) counts ≡ Some k → a ≡ b
same_delta counts poc a b k first second =
    let one =
    sought_count (slice_index_or counts k None) (poc +ℤ a) (place_sought (OrderCount (poc +ℤ a)) counts k first).1 in
    let two =
    sought_count (slice_index_or counts k None) (poc +ℤ b) (place_sought (OrderCount (poc +ℤ b)) counts k second).1 in
    let sums : poc +ℤ a ≡ poc +ℤ b = cc in
    omega (arith, ints)

no_both : (a b : ShortTermRef) → a ≡ b → a.used ≡ true → not b.used ≡ true → ⊥
no_both a b same used unused =
    let both : b.used ≡ true = ap (λ (r : ShortTermRef). r.used) (sym same) ∙ used in
    let no : false ≡ true = sym (ap not both) ∙ unused in
    cc

-- an entry of a list that names a place
abbrev pub Names : List (Option ℤ) → ℤ → Bool → List ShortTermRef → ℕ → ShortTermRef → Type 0
Names counts poc current entries k =
    IsNamedBy (λ (r : ShortTermRef). place_of (OrderCount (poc +ℤ r.delta_poc)) counts)
    (λ (r : ShortTermRef). is_for current r.used) entries k

entry_of : (counts : List (Option ℤ)) (poc : ℤ) (current : Bool) (entries : List ShortTermRef) (k : ℕ)
    → is_among k (short_term_set counts poc current entries) ≡ true
    → (r : ShortTermRef) × Names counts poc current entries k r
unfolding short_term_set
entry_of counts poc current entries k e =
    among_picked (λ (r : ShortTermRef). place_of (OrderCount (poc +ℤ r.delta_poc)) counts)
    (λ (r : ShortTermRef). is_for current r.used) entries k e

apart : (counts : List (Option ℤ)) (poc : ℤ) (one two : Bool) (xs ys : List ShortTermRef) (k : ℕ)
    → ((a b : ShortTermRef) → Contains xs a → Contains ys b → a.delta_poc ≡ b.delta_poc → is_for one a.used ≡ true
    → is_for two b.used ≡ true → ⊥)
    → is_among k (short_term_set counts poc one xs) ≡ true → is_among k (short_term_set counts poc two ys) ≡ true → ⊥
apart counts poc one two xs ys k never first second =
    let (a, names_a) = entry_of counts poc one xs k first in
    let (b, names_b) = entry_of counts poc two ys k second in
    never a b names_a.among names_b.among (same_delta counts poc a.delta_poc b.delta_poc k names_a.names names_b.names)
    names_a.picked names_b.picked

pub before_after_apart : (kind : PictureKind) (fields : ReferenceFields) (poc : ℤ) (dpb : List DpbPicture) (n k : ℕ)
    → HasDistinctDeltas fields.short_term_ref_pic_set
    → Contains (found_set (named_sets kind fields poc dpb) n).st_curr_before k
    → Contains (found_set (named_sets kind fields poc dpb) n).st_curr_after k → ⊥
unfolding found_set named_sets
before_after_apart kind fields poc dpb n k distinct first second =
    let sets : NamedSets = named_sets kind fields poc dpb in
    let counts : List (Option ℤ) = short_term_pocs kind (long_term_places kind fields.long_term poc dpb) dpb in
    apart counts poc true true fields.short_term_ref_pic_set.negative fields.short_term_ref_pic_set.positive k
    (λ a b in_a in_b same used_a used_b. distinct.sides a b in_a in_b same)
    (among_contains k sets.st_curr_before first) (among_contains k sets.st_curr_after second)

pub before_foll_apart : (kind : PictureKind) (fields : ReferenceFields) (poc : ℤ) (dpb : List DpbPicture) (n k : ℕ)
    → HasDistinctDeltas fields.short_term_ref_pic_set
    → Contains (found_set (named_sets kind fields poc dpb) n).st_curr_before k
    → Contains (found_set (named_sets kind fields poc dpb) n).st_foll k → ⊥
unfolding found_set named_sets
before_foll_apart kind fields poc dpb n k distinct first second =
    let sets : NamedSets = named_sets kind fields poc dpb in
    let counts : List (Option ℤ) = short_term_pocs kind (long_term_places kind fields.long_term poc dpb) dpb in
    let negative : List ShortTermRef = fields.short_term_ref_pic_set.negative in
    let positive : List ShortTermRef = fields.short_term_ref_pic_set.positive in
    let one = among_contains k sets.st_curr_before first in
    elim (among_append k (short_term_set counts poc false negative) (short_term_set counts poc false positive)
    (among_contains k sets.st_foll second)) [
      | inl two ↦
          apart counts poc true false negative negative k
          (λ a b in_a in_b same used_a used_b. no_both a b (distinct.negative a b in_a in_b same) used_a used_b) one two
      | inr two ↦
          apart counts poc true false negative positive k
          (λ a b in_a in_b same used_a used_b. distinct.sides a b in_a in_b same) one two
    ]

pub after_foll_apart : (kind : PictureKind) (fields : ReferenceFields) (poc : ℤ) (dpb : List DpbPicture) (n k : ℕ)
    → HasDistinctDeltas fields.short_term_ref_pic_set
    → Contains (found_set (named_sets kind fields poc dpb) n).st_curr_after k
    → Contains (found_set (named_sets kind fields poc dpb) n).st_foll k → ⊥
unfolding found_set named_sets
after_foll_apart kind fields poc dpb n k distinct first second =
    let sets : NamedSets = named_sets kind fields poc dpb in
    let counts : List (Option ℤ) = short_term_pocs kind (long_term_places kind fields.long_term poc dpb) dpb in
    let negative : List ShortTermRef = fields.short_term_ref_pic_set.negative in
    let positive : List ShortTermRef = fields.short_term_ref_pic_set.positive in
    let one = among_contains k sets.st_curr_after first in
    elim (among_append k (short_term_set counts poc false negative) (short_term_set counts poc false positive)
    (among_contains k sets.st_foll second)) [
      | inl two ↦
          apart counts poc true false positive negative k
          (λ a b in_a in_b same used_a used_b. distinct.sides b a in_b in_a (sym same)) one two
      | inr two ↦
          apart counts poc true false positive positive k
          (λ a b in_a in_b same used_a used_b. no_both a b (distinct.positive a b in_a in_b same) used_a used_b) one two
    ]
