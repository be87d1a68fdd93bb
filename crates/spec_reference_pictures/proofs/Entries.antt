-- Entries of reference picture lists.
use Rattle.std.proofs.Common.{ℕ, ◌≡◌, ◌+◌, ◌%◌, ◌<◌, ◌==◌, inl, inr, Bool, true, false, if◌then◌else◌, List, [], ◌++◌}
use Rattle.std.proofs.Common.{map, length, slice_index_or, Option, Some, None, All, arith, refl}
use Rattle.std.specs.List.{Contains, range_with_len}
use Rattle.std.proofs.Math.Nat.{mod-lt}
use Rattle.std.proofs.lemmas.Bool.{eqb-false}
use Rattle.std.proofs.lemmas.List.Elements.{All-append, All-contains_itself, All-map, All-nil, All-weaker}
use Rattle.header_types.specs.declared.reference_pictures.DpbPicture.{DpbPicture}
use Rattle.header_types.specs.declared.reference_pictures.RefEntry.{RefEntry}
use Rattle.header_types.specs.declared.reference_pictures.Rps.{Rps}
use Rattle.slice_types.specs.declared.slice.InterFields.{InterFields}
use Rattle.spec_reference_pictures.specs.ReferenceLists.{IsCurrent, TellsOrderCount, entry_taken, in_turn, list_0}
use Rattle.spec_reference_pictures.specs.ReferenceLists.{list_1, list_1_of, long_entry, no_reference, reference_list}
use Rattle.spec_reference_pictures.specs.ReferenceLists.{short_entry, temporary_entry}

-- all that stands in turn has what the entries of each part have
turn_has : (P : RefEntry → Type 0) (dpb : List DpbPicture) (first second long : List ℕ)
    → All (λ k. P (short_entry dpb k)) first → All (λ k. P (short_entry dpb k)) second
    → All (λ k. P (long_entry dpb k)) long
    → All P (in_turn dpb first second long)
unfolding in_turn
turn_has P dpb first second long each_first each_second each_long =
    All-append P (map (short_entry dpb) first) (map (short_entry dpb) second ++ map (long_entry dpb) long)
    (All-map P (short_entry dpb) first each_first)
    (All-append P (map (short_entry dpb) second) (map (long_entry dpb) long)
    (All-map P (short_entry dpb) second each_second) (All-map P (long_entry dpb) long each_long))

by_size : (P : RefEntry → Type 0) (turn : List RefEntry) (n : ℕ) (list_entry : Option (List ℕ)) (b : Bool)
    → (length turn == 0) ≡ b → All P turn
    → All P (if b then [] else map (λ i. temporary_entry turn (entry_taken list_entry i)) (range_with_len 0 n))
unfolding temporary_entry
by_size P turn n list_entry true size each = All-nil P
by_size P turn n list_entry false size each =
    let f : ℕ → RefEntry = λ i. temporary_entry turn (entry_taken list_entry i) in
    let some : 0 < length turn = omega (arith, eqb-false (length turn) 0 size) in
    All-map P f (range_with_len 0 n) (λ k d inside. each
    (entry_taken list_entry (slice_index_or (range_with_len 0 n) k d) % length turn) no_reference
    (mod-lt (entry_taken list_entry (slice_index_or (range_with_len 0 n) k d)) some))

-- a list has only what stands in turn
list_has : (P : RefEntry → Type 0) (turn : List RefEntry) (n : ℕ) (list_entry : Option (List ℕ)) → All P turn
    → All P (reference_list turn n list_entry)
unfolding reference_list
list_has P turn n list_entry each = by_size P turn n list_entry (length turn == 0) refl each

-- both lists of a slice have what each entry in turn has
abbrev BothHave : (RefEntry → Type 0) → List DpbPicture → Rps → Type 0
BothHave P dpb rps =
    All P (in_turn dpb rps.st_curr_before rps.st_curr_after rps.lt_curr)
    × All P (in_turn dpb rps.st_curr_after rps.st_curr_before rps.lt_curr)

list_0_has : (P : RefEntry → Type 0) (dpb : List DpbPicture) (rps : Rps) (inter : Option InterFields)
    → BothHave P dpb rps → All P (list_0 inter rps dpb)
list_0_has P dpb rps None each = All-nil P
list_0_has P dpb rps (Some fields) each =
    list_has P (in_turn dpb rps.st_curr_before rps.st_curr_after rps.lt_curr) (fields.num_ref_idx_l0_active_minus1 + 1)
    fields.list_entry_l0 each.0

list_1_of_has : (P : RefEntry → Type 0) (dpb : List DpbPicture) (rps : Rps) (active : Option ℕ)
    (list_entry : Option (List ℕ))
    → BothHave P dpb rps → All P (list_1_of active list_entry rps dpb)
list_1_of_has P dpb rps None list_entry each = All-nil P
list_1_of_has P dpb rps (Some active) list_entry each =
    list_has P (in_turn dpb rps.st_curr_after rps.st_curr_before rps.lt_curr) (active + 1) list_entry each.1

list_1_has : (P : RefEntry → Type 0) (dpb : List DpbPicture) (rps : Rps) (inter : Option InterFields)
    → BothHave P dpb rps → All P (list_1 inter rps dpb)
list_1_has P dpb rps None each = All-nil P
list_1_has P dpb rps (Some fields) each =
    list_1_of_has P dpb rps fields.num_ref_idx_l1_active_minus1 fields.list_entry_l1 each

-- what stands in turn is current
turns_current : (dpb : List DpbPicture) (rps : Rps) → BothHave (IsCurrent rps) dpb rps
turns_current dpb rps =
    let before : All (λ k. IsCurrent rps (short_entry dpb k)) rps.st_curr_before =
    All-weaker (Contains rps.st_curr_before) (λ k. IsCurrent rps (short_entry dpb k)) (λ k h. inl h) rps.st_curr_before
    (All-contains_itself rps.st_curr_before) in
    let after : All (λ k. IsCurrent rps (short_entry dpb k)) rps.st_curr_after =
    All-weaker (Contains rps.st_curr_after) (λ k. IsCurrent rps (short_entry dpb k)) (λ k h. inr h) rps.st_curr_after
    (All-contains_itself rps.st_curr_after) in
    let long : All (λ k. IsCurrent rps (long_entry dpb k)) rps.lt_curr = All-contains_itself rps.lt_curr in (
      turn_has (IsCurrent rps) dpb rps.st_curr_before rps.st_curr_after rps.lt_curr before after long,
      turn_has (IsCurrent rps) dpb rps.st_curr_after rps.st_curr_before rps.lt_curr after before long,
    )

pub list_0_current : (dpb : List DpbPicture) (rps : Rps) (inter : Option InterFields)
    → All (IsCurrent rps) (list_0 inter rps dpb)
list_0_current dpb rps inter = list_0_has (IsCurrent rps) dpb rps inter (turns_current dpb rps)

pub list_1_current : (dpb : List DpbPicture) (rps : Rps) (inter : Option InterFields)
    → All (IsCurrent rps) (list_1 inter rps dpb)
list_1_current dpb rps inter = list_1_has (IsCurrent rps) dpb rps inter (turns_current dpb rps)

-- what stands in turn tells the order count of its picture
turn_tells : (dpb : List DpbPicture) (first second long : List ℕ)
    → All (TellsOrderCount dpb) (in_turn dpb first second long)
turn_tells dpb first second long =
    turn_has (TellsOrderCount dpb) dpb first second long (λ k d inside. refl) (λ k d inside. refl) (λ k d inside. refl)

turns_tell : (dpb : List DpbPicture) (rps : Rps) → BothHave (TellsOrderCount dpb) dpb rps
turns_tell dpb rps = (
  turn_tells dpb rps.st_curr_before rps.st_curr_after rps.lt_curr,
  turn_tells dpb rps.st_curr_after rps.st_curr_before rps.lt_curr,
)

pub list_0_tells : (dpb : List DpbPicture) (rps : Rps) (inter : Option InterFields)
    → All (TellsOrderCount dpb) (list_0 inter rps dpb)
list_0_tells dpb rps inter = list_0_has (TellsOrderCount dpb) dpb rps inter (turns_tell dpb rps)

pub list_1_tells : (dpb : List DpbPicture) (rps : Rps) (inter : Option InterFields)
    → All (TellsOrderCount dpb) (list_1 inter rps dpb)
list_1_tells dpb rps inter = list_1_has (TellsOrderCount dpb) dpb rps inter (turns_tell dpb rps)
