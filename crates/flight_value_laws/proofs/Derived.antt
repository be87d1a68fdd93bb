-- Motion that is derived of a coding tree unit fits its words: vectors of 16 bits, of which each place has one.
use Rattle.std.proofs.Common.{ℕ, ◌+◌, ◌-◌, ◌<◌, ◌≤◌, ◌==◌, ◌&&◌, Bool, true, false, cond}
use Rattle.std.proofs.Common.{List, [], ◌∷◌, ◌++◌, All, IfSome, Option, Some, None, length, map, min, nat_lt}
use Rattle.std.proofs.Common.{ℤ, pos, negsuc, ◌≤ℤ◌, ◌*ℤ◌, sym, subst, arith, inl, inr}
use Rattle.std.specs.Prelude.{⊤, filter_map, option_and_then, option_to_list, slice_index_or}
use Rattle.std.specs.List.{cons_option, fold, range_with_len}
use Rattle.std.specs.Int.{w16, int_max, int_min}
use Rattle.std.specs.Int.RustNames.{FitsSigned}
use Rattle.std.proofs.lemmas.Bool.{cases_lt}
use Rattle.std.proofs.lemmas.Bool.Decides.{nat_tests}
use Rattle.std.proofs.lemmas.Int.{SFits-int_wrap, int_max_is, int_min_is, ints}
use Rattle.std.proofs.lemmas.List.{get_or_past, length-append}
use Rattle.std.proofs.lemmas.List.FromFn.{length-map-range_with_len}
use Rattle.std.proofs.lemmas.List.Elements.{All-append, All-cons, All-head, All-map, All-nil, All-tail, All-take}
use Rattle.spec_arithmetic.specs.Clipping.{clip3}
use Rattle.ctu_records.specs.declared.item.Item.{Item}
use Rattle.ctu_records.specs.declared.item.Item.TheVariants as item
use Rattle.ctu_records.specs.declared.prediction.MotionSyntax.{MotionSyntax}
use Rattle.ctu_records.specs.declared.prediction.MotionSyntax.TheVariants.{Merge, Vectors}
use Rattle.ctu_records.specs.declared.prediction.Mv.{Mv}
use Rattle.ctu_records.specs.declared.prediction.PredictionUnit.{PredictionUnit}
use Rattle.ctu_records.specs.declared.prediction.Rectangle.{Rectangle}
use Rattle.ctu_records.specs.declared.prediction.VectorSyntax.{VectorSyntax}
use Rattle.ctu_records.specs.Prediction.{is_inside, part_block}
use Rattle.spec_motion.specs.declared.collocation.Collocated.{Collocated}
use Rattle.spec_motion.specs.declared.collocation.CollocatedVector.{CollocatedVector}
use Rattle.spec_motion.specs.declared.slice_motion.SliceMotion.{SliceMotion}
use Rattle.spec_motion.specs.declared.vectors.Motion.{Motion}
use Rattle.spec_motion.specs.declared.vectors.Reference.{Reference}
use Rattle.spec_motion.specs.declared.vectors.Vector.{Vector}
use Rattle.spec_motion.specs.Derivation.{coded_vector, motion_by, motion_laid, motion_over}
use Rattle.spec_motion.specs.Derivation.{prediction_motion}
use Rattle.spec_motion.specs.Merging.{combination, combination_of, combinations, combined_candidates, completed}
use Rattle.spec_motion.specs.Merging.{first_alone, first_reference, found_candidates, is_doubled, is_in_region}
use Rattle.spec_motion.specs.Merging.{is_lower_part, is_right_part, is_same, merge_block, merge_candidates}
use Rattle.spec_motion.specs.Merging.{merge_motion}
use Rattle.spec_motion.specs.Merging.{merged, motion_of, present, restricted, spatial_candidates, spatial_of}
use Rattle.spec_motion.specs.Merging.{temporal_candidate, unless_same, zero_candidate, zero_vector}
use Rattle.spec_motion.specs.Scaling.{dist_scale_factor, distance, is_kept, scaled, scaled_component, shortened}
use Rattle.spec_motion.specs.Scaling.{stretched}
use Rattle.spec_motion.specs.Temporal.{bottom_right, brought, centre, mv_col, mv_lx_col, takes_first, temporal_mv}
use Rattle.spec_motion.specs.Units.{item_derived, unit_derived}
use Rattle.spec_motion.specs.Vectors.{Beneath, Known, agree, no_motion, or_else, reference_in}
use Rattle.sample_words.specs.Values.{IsMotion, IsVector}
use Rattle.flight_value_laws.specs.Motion.{HasOne, IsHeld}
use Rattle.flight_value_laws.proofs.Fitting.{IsOneThere}

-- a vector of 16 bits
pub record IsMv (mv : Mv) : Type 0 where
  pub x : FitsSigned w16 mv.x
  pub y : FitsSigned w16 mv.y

abbrev pub AreHeld : Known → Type 0
AreHeld known = (column row : ℕ) → IfSome (known column row) IsHeld

-- vectors of a collocated picture that fit
pub record IsBlockFit (b : Collocated) : Type 0 where
  pub list_0 : IfSome b.list_0 (λ (v : CollocatedVector). IsMv v.mv)
  pub list_1 : IfSome b.list_1 (λ (v : CollocatedVector). IsMv v.mv)

abbrev pub AreBlocksFit : Beneath → Type 0
AreBlocksFit beneath = (column row : ℕ) → IfSome (beneath column row) IsBlockFit

some_if : {X : Type 0} (P : X → Type 0) (b : Bool) (x y : Option X) → IfSome x P → IfSome y P → IfSome (cond b x y) P
some_if P true x y first second = first
some_if P false x y first second = second

some_else : {X : Type 0} (P : X → Type 0) (x y : Option X) → IfSome x P → IfSome y P → IfSome (or_else x y) P
some_else P None y first second = second
some_else P (Some x) y first second = first

holds_if : {X : Type 0} (P : X → Type 0) (b : Bool) (x y : X) → P x → P y → P (cond b x y)
holds_if P true x y first second = first
holds_if P false x y first second = second

some_then : {X Y : Type 0} (P : Y → Type 0) (f : X → Option Y) (Q : X → Type 0) (o : Option X) → IfSome o Q
    → ((x : X) → Q x → IfSome (f x) P) → IfSome (option_and_then f o) P
some_then P f Q None is next = tt
some_then P f Q (Some x) is next = next x is

-- ---- scaling

between_fits : (z : ℤ) → negsuc 32767 ≤ℤ z → z ≤ℤ pos 32767 → FitsSigned w16 z
between_fits (pos n) low high = let h : n ≤ 32767 = omega (arith, ints, high) in record { sfits = omega (arith, h) }
between_fits (negsuc n) low high = let h : n ≤ 32767 = omega (arith, ints, low) in record { sfits = omega (arith, h) }

clip_fits : (z : ℤ) → FitsSigned w16 (clip3 (negsuc 32767) (pos 32767) z)
clip_fits z =
    let v : ℤ = int_min z (pos 32767) in
    let most : v ≤ℤ pos 32767 = omega (arith, ints, int_min_is z (pos 32767)) in
    let least : negsuc 32767 ≤ℤ int_max (negsuc 32767) v = omega (arith, ints, int_max_is (negsuc 32767) v) in
    let below : int_max (negsuc 32767) v ≤ℤ pos 32767 = omega (arith, ints, int_max_is (negsuc 32767) v, most) in
    between_fits (int_max (negsuc 32767) v) least below

component_fits : (factor component : ℤ) → FitsSigned w16 (scaled_component factor component)
unfolding scaled_component
component_fits factor component = clip_fits (shortened (factor *ℤ component))

scaled_fits : (spanned wanted : ℤ) (mv : Mv) → IsMv mv → IsMv (scaled spanned wanted mv)
unfolding scaled
scaled_fits spanned wanted mv is =
    let factor : ℤ = dist_scale_factor (distance spanned) (distance wanted) in
    holds_if IsMv (is_kept spanned wanted) mv (stretched factor mv) is
    (record { x = component_fits factor mv.x; y = component_fits factor mv.y })

-- ---- temporal vectors

abbrev HasMv : CollocatedVector → Type 0
HasMv v = IsMv v.mv

brought_fits : (slice : SliceMotion) (target : Reference) (v : CollocatedVector) → HasMv v
    → IfSome (brought slice target v) IsMv
unfolding brought
brought_fits slice target v is =
    some_if IsMv (agree target.long_term v.long_term) _ None
    (holds_if IsMv target.long_term v.mv _ is (scaled_fits _ _ v.mv is)) tt

col_fits : (slice : SliceMotion) (list : ℕ) (first second : Option CollocatedVector) → IfSome first HasMv
    → IfSome second HasMv → IfSome (mv_col slice list first second) HasMv
col_fits slice list None second f s = s
col_fits slice list (Some first) None f s = f
col_fits slice list (Some first) (Some second) f s =
    some_if HasMv (takes_first slice list) (Some first) (Some second) f s

lx_fits : (slice : SliceMotion) (list : ℕ) (target : Reference) (b : Option Collocated) → IfSome b IsBlockFit
    → IfSome (mv_lx_col slice list target b) IsMv
lx_fits slice list target None is = tt
lx_fits slice list target (Some b) is =
    some_then IsMv (brought slice target) HasMv (mv_col slice list b.list_0 b.list_1)
    (col_fits slice list b.list_0 b.list_1 is.list_0 is.list_1) (λ v h. brought_fits slice target v h)

temporal_fits : (slice : SliceMotion) (beneath : Beneath) (block : Rectangle) (list ref_idx : ℕ)
    → AreBlocksFit beneath → IfSome (temporal_mv slice beneath block list ref_idx) IsMv
unfolding temporal_mv bottom_right centre
temporal_fits slice beneath block list ref_idx fit =
    let target : Reference = reference_in slice list ref_idx in
    some_if IsMv slice.temporal _ None
    (some_else IsMv _ _
    (lx_fits slice list target _
    (some_if IsBlockFit ((nat_lt (block.x + block.width) slice.right && nat_lt (block.y + block.height) slice.lower)
    && nat_lt (block.y + block.height) slice.side) _ None (fit _ _) tt))
    (lx_fits slice list target _ (fit _ _))) tt

-- ---- merging

held_one : (o : Option Motion) → IfSome o IsHeld → All IsHeld (option_to_list o)
held_one None is = All-nil IsHeld
held_one (Some m) is = All-cons IsHeld m [] is (All-nil IsHeld)

unless_held : (candidate other : Option Motion) → IfSome candidate IsHeld → IfSome (unless_same candidate other) IsHeld
unless_held candidate other is = some_if IsHeld (is_same candidate other) None candidate tt is

both_held : (o : Option Motion) (rest : List (Option Motion)) → IfSome o IsHeld → All IsHeld (present rest)
    → All IsHeld (present (o ∷ rest))
both_held o rest is more = All-append IsHeld (option_to_list o) (present rest) (held_one o is) more

spatial_held : (a1 b1 b0 a0 b2 : Option Motion) → IfSome a1 IsHeld → IfSome b1 IsHeld → IfSome b0 IsHeld
    → IfSome a0 IsHeld → IfSome b2 IsHeld → All IsHeld (spatial_of a1 b1 b0 a0 b2)
unfolding spatial_of
spatial_held a1 b1 b0 a0 b2 ha1 hb1 hb0 ha0 hb2 =
    let last : List (Option Motion) = unless_same a0 a1 ∷ [] in
    let two : List (Option Motion) = unless_same b0 b1 ∷ last in
    let three : List (Option Motion) = unless_same b1 a1 ∷ two in
    let four : List Motion = present (a1 ∷ three) in
    All-append IsHeld four _
    (both_held a1 three ha1 (both_held (unless_same b1 a1) two (unless_held b1 a1 hb1)
    (both_held (unless_same b0 b1) last (unless_held b0 b1 hb0)
    (both_held (unless_same a0 a1) [] (unless_held a0 a1 ha0) (All-nil IsHeld)))))
    (holds_if (All IsHeld) (length four == 4) [] _ (All-nil IsHeld)
    (held_one _ (unless_held (unless_same b2 a1) b1 (unless_held b2 a1 hb2))))

merge_held : (slice : SliceMotion) (known : Known) (block : Rectangle) (column row : ℕ) → AreHeld known
    → IfSome (merge_motion slice known block column row) IsHeld
unfolding merge_motion
merge_held slice known block column row held =
    some_if IsHeld (is_in_region slice.log2_parallel block column row) None (known column row) tt (held column row)

spatials_held : (slice : SliceMotion) (known : Known) (unit : PredictionUnit) → AreHeld known
    → All IsHeld (spatial_candidates slice known unit)
unfolding spatial_candidates
spatials_held slice known unit held =
    let block : Rectangle = merge_block slice unit in
    spatial_held _ _ _ _ _
    (some_if IsHeld (is_right_part slice unit) None _ tt (merge_held slice known block _ _ held))
    (some_if IsHeld (is_lower_part slice unit) None _ tt (merge_held slice known block _ _ held))
    (merge_held slice known block _ _ held) (merge_held slice known block _ _ held)
    (merge_held slice known block _ _ held)

first_fits : (o : Option Mv) → IfSome o IsMv → IfSome (first_reference o) IsVector
first_fits None is = tt
first_fits (Some mv) is = record { x = is.x; y = is.y; ref_idx = omega arith }

of_two : (first second : Option Vector) → IfSome first IsVector → IfSome second IsVector
    → IfSome (motion_of first second) IsHeld
of_two None None f s = tt
of_two None (Some second) f s = record { fits = record { list_0 = tt; list_1 = s }; some = tt }
of_two (Some first) second f s = record { fits = record { list_0 = f; list_1 = s }; some = tt }

temporal_held : (slice : SliceMotion) (beneath : Beneath) (block : Rectangle) → AreBlocksFit beneath
    → IfSome (temporal_candidate slice beneath block) IsHeld
unfolding temporal_candidate
temporal_held slice beneath block fit =
    of_two _ _ (first_fits _ (temporal_fits slice beneath block 0 0 fit))
    (some_if IsVector slice.is_b _ None (first_fits _ (temporal_fits slice beneath block 1 0 fit)) tt)

found_held : (slice : SliceMotion) (beneath : Beneath) (known : Known) (unit : PredictionUnit) → AreBlocksFit beneath
    → AreHeld known → All IsHeld (found_candidates slice beneath known unit)
unfolding found_candidates
found_held slice beneath known unit fit held =
    All-append IsHeld (spatial_candidates slice known unit)
    (option_to_list (temporal_candidate slice beneath (merge_block slice unit)))
    (spatials_held slice known unit held) (held_one _ (temporal_held slice beneath (merge_block slice unit) fit))

none_fits : IsMotion no_motion
none_fits = record { list_0 = tt; list_1 = tt }

element_fits : (ms : List Motion) (i : ℕ) → All IsHeld ms → IsMotion (slice_index_or ms i no_motion)
element_fits ms i held = elim (cases_lt i (length ms)) [
  | inl inside ↦ (held i no_motion inside).fits
  | inr past ↦ subst IsMotion (sym (get_or_past ms i no_motion past)) none_fits
]

combination_fits : (slice : SliceMotion) (first second : Option Vector) → IfSome first IsVector
    → IfSome second IsVector → IfSome (combination_of slice first second) IsHeld
combination_fits slice None second f s = tt
combination_fits slice (Some first) None f s = tt
combination_fits slice (Some first) (Some second) f s =
    some_if IsHeld (is_doubled slice first second) None _ tt
    (record { fits = record { list_0 = f; list_1 = s }; some = tt })

combined_held : (slice : SliceMotion) (found : List Motion) (i j : ℕ) → All IsHeld found
    → IfSome (combination slice found i j) IsHeld
unfolding combination
combined_held slice found i j held =
    combination_fits slice _ _ (element_fits found i held).list_0 (element_fits found j held).list_1

one_more : (o : Option Motion) (rest : List Motion) → IfSome o IsHeld → All IsHeld rest
    → All IsHeld (cons_option o rest)
one_more None rest is all = all
one_more (Some m) rest is all = All-cons IsHeld m rest is all

mapped_held : {X : Type 0} (f : X → Option Motion) (xs : List X) → ((x : X) → IfSome (f x) IsHeld)
    → All IsHeld (filter_map f xs)
mapped_held f [] each = All-nil IsHeld
mapped_held f (x ∷ xs) each = one_more (f x) (filter_map f xs) (each x) (mapped_held f xs each)

combinations_held : (slice : SliceMotion) (found : List Motion) → All IsHeld found
    → All IsHeld (combinations slice found)
unfolding combinations
combinations_held slice found held =
    mapped_held (λ pair. combination slice found pair.0 pair.1) _
    (λ pair. combined_held slice found pair.0 pair.1 held)

bi_held : (slice : SliceMotion) (found : List Motion) → All IsHeld found
    → All IsHeld (combined_candidates slice found)
unfolding combined_candidates
bi_held slice found held =
    holds_if (All IsHeld) (slice.is_b && (nat_lt 1 (length found) && nat_lt (length found) slice.max_candidates)) _ []
    (All-take IsHeld (slice.max_candidates - length found) (combinations slice found)
    (combinations_held slice found held))
    (All-nil IsHeld)

zero_fits : FitsSigned w16 (pos 0)
zero_fits = record { sfits = omega arith }

zero_vector_fits : (r : ℕ) → r < 16 → IsVector (zero_vector r)
zero_vector_fits r small = record { x = zero_fits; y = zero_fits; ref_idx = small }

-- the lists of a slice have at most 16 entries
pub record HasFewActive (slice : SliceMotion) : Type 0 where
  pub list_0 : slice.active_0 ≤ 16
  pub list_1 : slice.active_1 ≤ 16

below_some : (i n : ℕ) → n ≤ 16 → cond (nat_lt i n) i 0 < 16
below_some i n few = grind (arith, nat_tests)

zero_held : (slice : SliceMotion) (i : ℕ) → HasFewActive slice → IsHeld (zero_candidate slice i)
unfolding zero_candidate
zero_held slice i few =
    let both : cond (nat_lt i (min slice.active_0 slice.active_1)) i 0 < 16 =
    below_some i (min slice.active_0 slice.active_1) (omega (arith, few.list_0)) in
    let one : cond (nat_lt i slice.active_0) i 0 < 16 = below_some i slice.active_0 few.list_0 in
    holds_if IsHeld slice.is_b _ _
    (record { fits = record { list_0 = zero_vector_fits _ both; list_1 = zero_vector_fits _ both }; some = tt })
    (record { fits = record { list_0 = zero_vector_fits _ one; list_1 = tt }; some = tt })

all_zero_held : (slice : SliceMotion) (is : List ℕ) → HasFewActive slice → All IsHeld (map (zero_candidate slice) is)
all_zero_held slice is few =
    All-map IsHeld (zero_candidate slice) is (λ k d inside. zero_held slice (slice_index_or is k d) few)

candidates_held : (slice : SliceMotion) (beneath : Beneath) (known : Known) (unit : PredictionUnit)
    → HasFewActive slice → AreBlocksFit beneath → AreHeld known
    → All IsHeld (merge_candidates slice beneath known unit)
unfolding merge_candidates completed
candidates_held slice beneath known unit few fit held =
    let found : List Motion = found_candidates slice beneath known unit in
    let all = found_held slice beneath known unit fit held in
    All-append IsHeld (found ++ combined_candidates slice found) _
    (All-append IsHeld found (combined_candidates slice found) all (bi_held slice found all))
    (all_zero_held slice _ few)

alone_held : (first second : Option Vector) → IfSome first IsVector → IfSome second IsVector → HasOne first second
    → IsHeld (first_alone first second)
alone_held None None f s one = absurd one
alone_held None (Some second) f s one = record { fits = record { list_0 = tt; list_1 = s }; some = tt }
alone_held (Some first) second f s one = record { fits = record { list_0 = f; list_1 = tt }; some = tt }

restricted_held : (block : Rectangle) (m : Motion) → IsHeld m → IsHeld (restricted block m)
restricted_held block m held =
    holds_if IsHeld (block.width + block.height == 3) (first_alone m.list_0 m.list_1) m
    (alone_held m.list_0 m.list_1 held.fits.list_0 held.fits.list_1 held.some) held

full_with : (full : List Motion) (f : ℕ → Motion) (n : ℕ)
    → n ≤ length (full ++ map f (range_with_len 0 (n - length full)))
full_with full f n =
    let a = length-append full (map f (range_with_len 0 (n - length full))) in
    let b = length-map-range_with_len f 0 (n - length full) in
    omega (arith, a, b)

-- a list of candidates has as many as it may have
lists_full : (slice : SliceMotion) (beneath : Beneath) (known : Known) (unit : PredictionUnit)
    → slice.max_candidates ≤ length (merge_candidates slice beneath known unit)
unfolding merge_candidates completed
lists_full slice beneath known unit =
    let found : List Motion = found_candidates slice beneath known unit in
    full_with (found ++ combined_candidates slice found) (zero_candidate slice) slice.max_candidates

candidate_held : (slice : SliceMotion) (beneath : Beneath) (known : Known) (unit : PredictionUnit) (index : ℕ)
    → HasFewActive slice → AreBlocksFit beneath → AreHeld known → index < slice.max_candidates
    → IsHeld (slice_index_or (merge_candidates slice beneath known unit) index no_motion)
candidate_held slice beneath known unit index few fit held inside =
    candidates_held slice beneath known unit few fit held index no_motion
    (omega (arith, inside, lists_full slice beneath known unit))

merged_held : (slice : SliceMotion) (beneath : Beneath) (known : Known) (unit : PredictionUnit) (index : ℕ)
    → HasFewActive slice → AreBlocksFit beneath → AreHeld known → index < slice.max_candidates
    → IsHeld (merged slice beneath known unit index)
unfolding merged
merged_held slice beneath known unit index few fit held inside =
    restricted_held (part_block unit.unit unit.part_mode unit.part) _
    (candidate_held slice beneath known unit index few fit held inside)

-- ---- vectors that are coded

abbrev IsSmall : Option VectorSyntax → Type 0
IsSmall o = IfSome o (λ (v : VectorSyntax). v.ref_idx < 16)

coded_fits : (slice : SliceMotion) (beneath : Beneath) (known : Known) (block : Rectangle) (list : ℕ)
    (o : Option VectorSyntax) → IsSmall o → IfSome (coded_vector slice beneath known block list o) IsVector
unfolding coded_vector
coded_fits slice beneath known block list None small = tt
coded_fits slice beneath known block list (Some v) small =
    record { x = SFits-int_wrap w16 _; y = SFits-int_wrap w16 _; ref_idx = small }

coded_one : (slice : SliceMotion) (beneath : Beneath) (known : Known) (block : Rectangle)
    (first second : Option VectorSyntax) → IsOneThere first second
    → HasOne (coded_vector slice beneath known block 0 first) (coded_vector slice beneath known block 1 second)
unfolding coded_vector
coded_one slice beneath known block None None one = absurd one
coded_one slice beneath known block None (Some second) one = tt
coded_one slice beneath known block (Some first) second one = tt

-- what is read of the motion of a prediction unit, in its range
abbrev pub IsToldFor : SliceMotion → MotionSyntax → Type 0
IsToldFor slice (Merge index) = index < slice.max_candidates
IsToldFor slice (Vectors first second) = IsSmall first × IsSmall second × IsOneThere first second

by_held : (slice : SliceMotion) (beneath : Beneath) (known : Known) (unit : PredictionUnit) (told : MotionSyntax)
    → HasFewActive slice → AreBlocksFit beneath → AreHeld known → IsToldFor slice told
    → IsHeld (motion_by slice beneath known unit told)
by_held slice beneath known unit (Merge index) few fit held is =
    merged_held slice beneath known unit index few fit held is
by_held slice beneath known unit (Vectors first second) few fit held is =
    let block : Rectangle = part_block unit.unit unit.part_mode unit.part in
    record {
      fits = record {
        list_0 = coded_fits slice beneath known block 0 first is.0;
        list_1 = coded_fits slice beneath known block 1 second is.1;
      };
      some = coded_one slice beneath known block first second is.2;
    }

laid_held : (slice : SliceMotion) (beneath : Beneath) (known : Known) (unit : PredictionUnit) → HasFewActive slice
    → AreBlocksFit beneath → AreHeld known → IsToldFor slice unit.motion
    → AreHeld (motion_laid slice beneath known unit)
unfolding motion_laid motion_over prediction_motion
laid_held slice beneath known unit few fit held is column row =
    let block : Rectangle = part_block unit.unit unit.part_mode unit.part in
    some_if IsHeld
    (is_inside (record { x = block.x + 1; y = block.y + 1; width = block.width; height = block.height }) column row)
    (Some (motion_by slice beneath known unit unit.motion)) (known column row)
    (by_held slice beneath known unit unit.motion few fit held is) (held column row)

abbrev pub IsToldItem : SliceMotion → Item → Type 0
IsToldItem slice (item.Prediction unit) = IsToldFor slice unit.motion
IsToldItem slice other = ⊤

item_held : (slice : SliceMotion) (beneath : Beneath) (known : Known) (item : Item) → HasFewActive slice
    → AreBlocksFit beneath → AreHeld known → IsToldItem slice item → AreHeld (item_derived slice beneath known item)
item_held slice beneath known (item.Prediction unit) few fit held is =
    laid_held slice beneath known unit few fit held is
item_held slice beneath known (item.Unit unit) few fit held is = held
item_held slice beneath known (item.Luma luma) few fit held is = held
item_held slice beneath known (item.Chroma mode) few fit held is = held
item_held slice beneath known (item.Pcm square) few fit held is = held
item_held slice beneath known (item.Sample value) few fit held is = held
item_held slice beneath known (item.Transform unit) few fit held is = held
item_held slice beneath known (item.Delta delta) few fit held is = held
item_held slice beneath known (item.Block block) few fit held is = held
item_held slice beneath known (item.Level place value) few fit held is = held

items_held : (slice : SliceMotion) (beneath : Beneath) (items : List Item) (known : Known) → HasFewActive slice
    → AreBlocksFit beneath → AreHeld known → All (IsToldItem slice) items
    → AreHeld (fold (item_derived slice beneath) known items)
items_held slice beneath [] known few fit held are = held
items_held slice beneath (item ∷ items) known few fit held are =
    items_held slice beneath items (item_derived slice beneath known item) few fit
    (item_held slice beneath known item few fit held (All-head (IsToldItem slice) item items are))
    (All-tail (IsToldItem slice) item items are)

-- the motion of a unit
pub unit_held : (slice : SliceMotion) (beneath : Beneath) (items : List Item) (known : Known) → HasFewActive slice
    → AreBlocksFit beneath → AreHeld known → All (IsToldItem slice) items
    → AreHeld (unit_derived slice beneath items known)
unfolding unit_derived
unit_held slice beneath items known few fit held are = items_held slice beneath items known few fit held are
