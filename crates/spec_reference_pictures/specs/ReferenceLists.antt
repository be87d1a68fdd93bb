-- Reference picture lists (8.3.4).
use Rattle.std.specs.Prelude.{◌≡◌, ℕ, ℤ, pos, ◌+◌, ◌%◌, ◌⊎◌, true, false, ◌==◌, List, [], ◌++◌, map, length}
use Rattle.std.specs.Prelude.{slice_index_or, Option, Some, None, if◌then◌else◌}
use Rattle.std.specs.Bool.{MatchBool}
use Rattle.std.specs.List.{Contains, range_with_len}
use Rattle.header_types.specs.declared.reference_pictures.DpbPicture.{DpbPicture}
use Rattle.header_types.specs.declared.reference_pictures.Lists.{Lists}
use Rattle.header_types.specs.declared.reference_pictures.RefEntry.{RefEntry}
use Rattle.header_types.specs.declared.reference_pictures.Rps.{Rps}
use Rattle.slice_types.specs.declared.slice.InterFields.{InterFields}
use Rattle.slice_types.specs.declared.slice.SliceFields.{SliceFields}
use Rattle.spec_reference_pictures.specs.ReferencePictureSet.{no_picture}

-- PicOrderCntVal of the picture at a place of the buffer: 0 where there is none
abbrev pub order_count_at : List DpbPicture → ℕ → ℤ
order_count_at dpb place = (slice_index_or dpb place no_picture).poc

-- the entries for pictures at these places of the buffer
abbrev pub short_entry : List DpbPicture → ℕ → RefEntry
short_entry dpb place = record { place = place; poc = order_count_at dpb place; is_long_term = false }

-- a long-term entry
abbrev pub long_entry : List DpbPicture → ℕ → RefEntry
long_entry dpb place = record { place = place; poc = order_count_at dpb place; is_long_term = true }

-- what stands at a place that no list has
abbrev pub no_reference : RefEntry
no_reference = record { place = 0; poc = pos 0; is_long_term = false }

-- NumPicTotalCurr pictures in the order of a list: those of the short-term lists, then the long-term ones
unfoldable pub in_turn : List DpbPicture → List ℕ → List ℕ → List ℕ → List RefEntry
in_turn dpb first second long =
    map (short_entry dpb) first ++ (map (short_entry dpb) second ++ map (long_entry dpb) long)

-- entry i of the temporary list, which has these in turn again and again (8-8, 8-10). It is the same however long the
-- list is made, in the standard the greater of num_ref_idx_active_minus1 + 1 and NumPicTotalCurr
unfoldable pub temporary_entry : List RefEntry → ℕ → RefEntry
temporary_entry turn i = slice_index_or turn (i % length turn) no_reference

-- which entry of the temporary list entry i of the list is: itself, or list_entry of it where the list is modified
abbrev pub entry_taken : Option (List ℕ) → ℕ → ℕ
entry_taken None i = i
entry_taken (Some list_entry) i = slice_index_or list_entry i 0

-- the list of so many active entries (8-9, 8-11); none where NumPicTotalCurr is 0
unfoldable pub reference_list : List RefEntry → ℕ → Option (List ℕ) → List RefEntry
reference_list turn active list_entry =
    if length turn == 0 then []
    else map (λ i. temporary_entry turn (entry_taken list_entry i)) (range_with_len 0 active)

-- list 0 of a slice with these fields: none of an I slice, which has no fields of P and B slices
abbrev pub list_0 : Option InterFields → Rps → List DpbPicture → List RefEntry
list_0 None rps dpb = []
list_0 (Some fields) rps dpb =
    reference_list (in_turn dpb rps.st_curr_before rps.st_curr_after rps.lt_curr)
    (fields.num_ref_idx_l0_active_minus1 + 1) fields.list_entry_l0

-- list 1 of a slice that has so many entries in it: none of a P slice
abbrev pub list_1_of : Option ℕ → Option (List ℕ) → Rps → List DpbPicture → List RefEntry
list_1_of None list_entry rps dpb = []
list_1_of (Some active_minus1) list_entry rps dpb =
    reference_list (in_turn dpb rps.st_curr_after rps.st_curr_before rps.lt_curr) (active_minus1 + 1) list_entry

-- RefPicList1 (8.3.4)
abbrev pub list_1 : Option InterFields → Rps → List DpbPicture → List RefEntry
list_1 None rps dpb = []
list_1 (Some fields) rps dpb = list_1_of fields.num_ref_idx_l1_active_minus1 fields.list_entry_l1 rps dpb

-- the lists of a slice of a picture before which the buffer has these pictures
unfoldable pub reference_lists : SliceFields → Rps → List DpbPicture → Lists
reference_lists slice rps dpb = record { l0 = list_0 slice.inter rps dpb; l1 = list_1 slice.inter rps dpb }

-- an entry tells the order count of its picture in the buffer
abbrev pub TellsOrderCount : List DpbPicture → RefEntry → Type 0
TellsOrderCount dpb entry = entry.poc ≡ order_count_at dpb entry.place

-- whether an entry is for a picture that the picture itself may use, as what it stands there
abbrev pub IsCurrent : Rps → RefEntry → Type 0
IsCurrent rps entry =
    MatchBool entry.is_long_term (Contains rps.lt_curr entry.place)
    (Contains rps.st_curr_before entry.place ⊎ Contains rps.st_curr_after entry.place)
