-- The ranges of the reference pictures that a slice is read with.
use Rattle.std.proofs.Common.{◌∙◌, ℕ, ◌+◌, ◌-◌, ◌^◌, ◌<◌, ◌≤◌}
use Rattle.std.specs.Prelude.{Bool}
use Rattle.std.proofs.Common.{true, false, List, length, slice_index_or, Option, Some, None}
use Rattle.std.proofs.Common.{if◌then◌else◌, arith}
use Rattle.std.specs.List.{range_with_len}
use Rattle.std.proofs.Math.Nat.{pow-le-pow_right}
use Rattle.std.proofs.lemmas.Bool.{ltb-true, leb-true}
use Rattle.std.proofs.lemmas.List.Elements.{All-get_or, All-nil}
use Rattle.std.proofs.lemmas.List.FromFn.{length-range_with_len}
use Rattle.header_types.specs.declared.sps.LongTermCandidate.{LongTermCandidate}
use Rattle.header_types.specs.declared.sps.SpsFields.{SpsFields}
use Rattle.header_types.specs.declared.short_term_set.StRps.{StRps}
use Rattle.slice_types.specs.declared.slice.LongTermRefs.{LongTermRefs}
use Rattle.slice_types.specs.declared.slice.ReferenceFields.{ReferenceFields}
use Rattle.header_types.specs.ReferencePictures.{IsStRps}
use Rattle.header_types.specs.SequenceParameterSets.{IsSps, IsSubLayerOrdering, highest_ordering, no_ordering}
use Rattle.slice_types.specs.SliceHeaders.{IsReferenceFields}
use Rattle.header_types.proofs.ReferencePictures.{IsStRps-weaker}
use Rattle.spec_formats.specs.Format.{when◌then◌else◌}
use Rattle.spec_formats.specs.Fields.{give}
use Rattle.spec_formats.proofs.Values.{CanBe}
use Rattle.spec_slice_headers.specs.SpecReferencePictures.{is_idr}
use Rattle.spec_slice_headers.proofs.SpecReferencePicturesLemmas.{can_be_near}
use Rattle.spec_slice_headers.specs.References.{coded_references, coded_short_term, empty_set, long_term}
use Rattle.spec_slice_headers.specs.References.{long_term_entry, long_term_of, named_short_term, no_references}
use Rattle.spec_slice_headers.specs.References.{reference_fields, ShortTerm, short_term}
use Rattle.header_laws.proofs.Values.{each_is}

empty_is : IsStRps 79 empty_set
empty_is = record { few = omega arith; negative = All-nil _; positive = All-nil _ }

few_buffered : (sps : SpsFields) → IsSps sps
    → (highest_ordering sps.order.sub_layer_ordering).max_dec_pic_buffering_minus1 ≤ 15
unfolding highest_ordering
few_buffered sps is =
    (All-get_or IsSubLayerOrdering sps.order.sub_layer_ordering (length sps.order.sub_layer_ordering - 1) no_ordering
    (let some = is.order.some_ordering in omega arith) is.order.ordering).buffering

named_set : (sps : SpsFields) (s : ShortTerm) → IsSps sps → CanBe (named_short_term sps) s
    → IsStRps 79 s.short_term_ref_pic_set
unfolding named_short_term
named_set sps s is (index, index-is, (fact, in_range, e)) =
    let sets = sps.references.short_term_ref_pic_sets in
    rw (← e) (IsStRps-weaker 78 79 (omega arith) (slice_index_or sets index empty_set)
    (All-get_or (IsStRps 78) sets index empty_set (ltb-true _ _ in_range) is.references.sets))

coded_set : (sps : SpsFields) (s : ShortTerm) → IsSps sps → CanBe (coded_short_term sps) s
    → IsStRps 79 s.short_term_ref_pic_set
unfolding coded_short_term
coded_set sps s is (set, set-is, e) =
    let count = length sps.references.short_term_ref_pic_sets in
    rw (← e) (can_be_near count count sps.references.short_term_ref_pic_sets
    (highest_ordering sps.order.sub_layer_ordering).max_dec_pic_buffering_minus1 set 78 (few_buffered sps is)
    (omega arith) is.references.sets set-is)

either_set : (sps : SpsFields) (named : Bool) (s : ShortTerm) → IsSps sps
    → CanBe (when named then named_short_term sps else coded_short_term sps) s → IsStRps 79 s.short_term_ref_pic_set
either_set sps true s is can = named_set sps s is can
either_set sps false s is can = coded_set sps s is can

set_is : (sps : SpsFields) (s : ShortTerm) → IsSps sps → CanBe (short_term sps) s → IsStRps 79 s.short_term_ref_pic_set
unfolding short_term
set_is sps s is (named, named-is, can) = either_set sps named s is can

entries_few : (sps : SpsFields) (set : StRps) (candidates : List LongTermCandidate) (l : LongTermRefs) → IsSps sps
    → CanBe (long_term_of sps set candidates) l → length l.entries ≤ 15
unfolding long_term_of
entries_few sps set candidates l is (named, named-is, (coded, coded-is, (fact, few, (entries, entries-are, e)))) =
    let buffered = few_buffered sps is in
    let le : length set.negative + length set.positive + named + coded
    ≤ (highest_ordering sps.order.sub_layer_ordering).max_dec_pic_buffering_minus1 = leb-true _ _ few in
    let count =
    (each_is (λ r. Unit {0}) (long_term_entry sps candidates named) (range_with_len 0 (named + coded)) entries
    (λ i r h. tt) entries-are).0
    ∙ length-range_with_len 0 (named + coded) in
    rw (← e) (omega arith)

long_is : (sps : SpsFields) (set : StRps) (candidates : Option (List LongTermCandidate)) (l : LongTermRefs) → IsSps sps
    → CanBe (long_term sps set candidates) l → length l.entries ≤ 15
unfolding long_term
long_is sps set None l is e = rw (← e) (omega arith)
long_is sps set (Some candidates) l is can = entries_few sps set candidates l is can

lsb_small : (sps : SpsFields) (lsb : ℕ) → IsSps sps → lsb < 2 ^ (sps.order.log2_max_pic_order_cnt_lsb_minus4 + 4)
    → lsb < 65536
lsb_small sps lsb is small =
    let le = is.order.lsb in
    let few : sps.order.log2_max_pic_order_cnt_lsb_minus4 + 4 ≤ 16 = omega arith in
    let most : 2 ^ (sps.order.log2_max_pic_order_cnt_lsb_minus4 + 4) ≤ 2 ^ 16 = pow-le-pow_right (omega arith) few in
    omega arith

coded_are : (sps : SpsFields) (r : ReferenceFields) → IsSps sps → CanBe (coded_references sps) r → IsReferenceFields r
unfolding coded_references
coded_are sps r is (lsb, lsb-is, (short, short-is, (long, long-ok, e))) = rw (← e) (record {
  lsb = lsb_small sps lsb is lsb-is;
  set = set_is sps short is short-is;
  long = long_is sps short.short_term_ref_pic_set sps.references.long_term_ref_pics long is long-ok;
})

references_either : (idr : Bool) (sps : SpsFields) (r : ReferenceFields) → IsSps sps
    → CanBe (when idr then give no_references else coded_references sps) r → IsReferenceFields r
references_either true sps r is e = rw (← e) (record { lsb = omega arith; set = empty_is; long = omega arith })
references_either false sps r is can = coded_are sps r is can

pub references_are : (nal_type : ℕ) (sps : SpsFields) (r : ReferenceFields) → IsSps sps
    → CanBe (reference_fields nal_type sps) r → IsReferenceFields r
unfolding reference_fields
references_are nal_type sps r is can = references_either (is_idr nal_type) sps r is can
