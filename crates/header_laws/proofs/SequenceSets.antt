-- The ranges of sequence parameter sets that are read.
use Rattle.std.proofs.Common.{◌≡◌, ◌∙◌, ℕ, zero, suc, ◌+◌, ◌-◌, ◌*◌, ◌%◌, ◌^◌, ◌<◌, ◌≤◌, Bool, true, false, ◌&&◌}
use Rattle.std.proofs.Common.{◌==◌}
use Rattle.std.proofs.Common.{List, [], ◌∷◌, ◌++◌, length, Option, IfSome, All, Ok, min, sym, length-append, arith}
use Rattle.std.proofs.Common.{if◌then◌else◌}
use Rattle.std.specs.Prelude.{nat_le}
use Rattle.std.proofs.lemmas.Bool.{and_parts, eqb-true, leb-true, ltb-true}
use Rattle.std.proofs.lemmas.List.Elements.{All-get_or, All-nil, All-push}
use Rattle.hv_base.specs.declared.field_rules.TheConstants.{PARAMETER_SET_RULES}
use Rattle.header_types.specs.declared.profile.Profile.{Profile}
use Rattle.header_types.specs.declared.scaling.ScalingLists.{ScalingLists}
use Rattle.header_types.specs.declared.short_term_set.StRps.{StRps}
use Rattle.header_types.specs.declared.sps.BlockSizes.{BlockSizes}
use Rattle.header_types.specs.declared.sps.ConformanceWindow.{ConformanceWindow}
use Rattle.header_types.specs.declared.sps.LongTermCandidate.{LongTermCandidate}
use Rattle.header_types.specs.declared.sps.PcmFormat.{PcmFormat}
use Rattle.header_types.specs.declared.sps.PictureFormat.{PictureFormat}
use Rattle.header_types.specs.declared.sps.SpsFields.{SpsFields}
use Rattle.header_types.specs.declared.sps.SpsIdentity.{SpsIdentity}
use Rattle.header_types.specs.declared.sps.SpsOrder.{SpsOrder}
use Rattle.header_types.specs.declared.sps.SpsReferences.{SpsReferences}
use Rattle.header_types.specs.declared.sps.SpsTools.{SpsTools}
use Rattle.header_types.specs.declared.sps.SubLayerOrdering.{SubLayerOrdering}
use Rattle.header_types.specs.ReferencePictures.{IsStRps}
use Rattle.header_types.specs.Scaling.{IsScalingLists}
use Rattle.header_types.specs.SequenceParameterSets.{IsBlockSizes, IsConformanceWindow, IsLongTerm, IsPcmFormat}
use Rattle.header_types.specs.SequenceParameterSets.{IsPictureFormat, IsSps, IsSpsIdentity, IsSpsOrder}
use Rattle.header_types.specs.SequenceParameterSets.{IsSpsReferences, IsSpsTools, IsSubLayerOrdering, ctb_log2}
use Rattle.header_types.specs.SequenceParameterSets.{highest_ordering, max_lsb_of, min_cb_log2, no_ordering}
use Rattle.header_types.proofs.ReferencePictures.{All-IsStRps-weaker}
use Rattle.spec_bits.specs.Bits.{bits}
use Rattle.spec_formats.proofs.Values.{CanBe}
use Rattle.spec_slice_headers.specs.SpecParameterSets.{greatest_depth_minus8, is_main_10}
use Rattle.spec_slice_headers.specs.SpecParameterSets.{scaling_list_data}
use Rattle.spec_slice_headers.specs.SpecParameterSets.{bit_depth, block_sizes, conformance_window}
use Rattle.spec_slice_headers.specs.SpecParameterSets.{long_term_candidate, long_term_candidates, main_only}
use Rattle.spec_slice_headers.specs.SpecParameterSets.{ordered_sub_layers, pcm_bit_depth, pcm_format}
use Rattle.spec_slice_headers.specs.SpecParameterSets.{picture_format}
use Rattle.spec_slice_headers.specs.SpecParameterSets.{present_scaling_lists, scaling_lists, sequence_parameter_set}
use Rattle.spec_slice_headers.specs.SpecParameterSets.{sequence_parameter_set_of, sets_behind}
use Rattle.spec_slice_headers.specs.SpecParameterSets.{short_term_ref_pic_sets, side, sub_layer_ordering}
use Rattle.spec_slice_headers.specs.SpecParameterSets.{sps_identity, sps_order, sps_references, sps_tools}
use Rattle.spec_slice_headers.specs.SpecParameterSets.{sub_layers}
use Rattle.spec_slice_headers.proofs.SpecParameterSetsLemmas.{data_can_be}
use Rattle.spec_slice_headers.proofs.SpecReferencePicturesLemmas.{can_be_near}
use Rattle.header_laws.proofs.Values.{optional_is, parsed_is, repeated_is, wanted_is}

-- ---- the format of pictures

window_is : (width height : ℕ) (w : ConformanceWindow) → CanBe (conformance_window width height) w
    → IsConformanceWindow width height w
unfolding conformance_window
window_is width height w (left, a, (right, b, (columns, columns-are, (top, d, (bottom, f, (rows, rows-are, e)))))) =
    rw (← e) (record { columns = ltb-true _ _ columns-are; rows = ltb-true _ _ rows-are })

record IsSide (n : ℕ) : Type 0 where
  some : 1 ≤ n
  few : n ≤ 8192

side_is : (n : ℕ) → CanBe side n → IsSide n
unfolding side
side_is n (samples, a, (some, some-is, (short, short-is, e))) =
    let least : 0 < samples = ltb-true _ _ some-is in
    rw (← e) (record { some = omega arith; few = leb-true _ _ (wanted_is (nat_le samples 8192) _ short short-is) })

main_is : (value n : ℕ) → CanBe (main_only value) n → n ≡ value
unfolding main_only
main_is value n (found, a, (main, main-is, e)) = sym e ∙ eqb-true _ _ (wanted_is (found == value) _ main main-is)

few_bits : (p : Profile) → greatest_depth_minus8 p ≤ 2
unfolding greatest_depth_minus8
few_bits p = by (is_main_10 p.profile_idc p.profile_compatibility_flags)
  where
    by : (b : Bool) → (if b then 2 else 0) ≤ 2
    by true = omega arith
    by false = omega arith

bits_are : (p : Profile) (n : ℕ) → CanBe (bit_depth (greatest_depth_minus8 p)) n → n ≤ 2
unfolding bit_depth
bits_are p n (found, a, (within, within-is, e)) =
    let few = few_bits p in
    let is = leb-true _ _ (wanted_is (nat_le found (greatest_depth_minus8 p)) _ within within-is) in
    rw (← e) (omega (arith, few, is))

format_is : (p : Profile) (f : PictureFormat) → CanBe (picture_format p) f → IsPictureFormat f
unfolding picture_format
format_is p f (
  chroma,
  chroma-is,
  (
    width,
    width-is,
    (
      height,
      height-is,
      (small, small-is, (flag, a, (window, window-ok, (luma, luma-is, (depth, depth-is, e))))),
    ),
  ),
) =
    let w = side_is width width-is in
    let h = side_is height height-is in
    rw (← e) (record {
      chroma_format = main_is 1 chroma chroma-is;
      some_width = w.some;
      width = w.few;
      some_height = h.some;
      height = h.few;
      area = leb-true _ _ (wanted_is (nat_le (width * height) 35651584) _ small small-is);
      window =
          optional_is (IsConformanceWindow width height) flag (conformance_window width height) window
          (window_is width height) window-ok;
      luma_depth = bits_are p luma luma-is;
      chroma_depth = bits_are p depth depth-is;
    })

-- ---- sub-layers

sub_layers_are : (n : ℕ) → CanBe sub_layers n → n ≤ 6
unfolding sub_layers
sub_layers_are n (minus1, a, (fact, in_range, e)) = rw (← e) (leb-true _ _ in_range)

ordering_is : (o : SubLayerOrdering) → CanBe sub_layer_ordering o → IsSubLayerOrdering o
unfolding sub_layer_ordering
ordering_is o (buffering, buffering-is, (reorder, reorder-is, (latency, a, e))) =
    rw (← e) (record { buffering = buffering-is; reorder = reorder-is })

some_ordered : (present : Bool) (minus1 : ℕ) → 1 ≤ ordered_sub_layers present minus1
unfolding ordered_sub_layers
some_ordered true minus1 = omega arith
some_ordered false minus1 = omega arith

highest_is : (orderings : List SubLayerOrdering) → 1 ≤ length orderings → All IsSubLayerOrdering orderings
    → (highest_ordering orderings).max_dec_pic_buffering_minus1 ≤ 15
unfolding highest_ordering
highest_is orderings some each =
    (All-get_or IsSubLayerOrdering orderings (length orderings - 1) no_ordering (omega arith) each).buffering

-- ---- blocks

blocks_are : (width height : ℕ) (b : BlockSizes) → CanBe (block_sizes width height) b → IsBlockSizes width height b
unfolding block_sizes
blocks_are width height b (
  least,
  least-is,
  (
    whole,
    whole-is,
    (
      diff,
      a,
      (
        main,
        main-is,
        (
          tb,
          d,
          (smaller, smaller-is, (more, f, (inside, inside-is, (inter, inter-is, (intra, intra-is, e))))),
        ),
      ),
    ),
  ),
) =
    let rows = and_parts (width % 2 ^ (least + 3) == 0) (height % 2 ^ (least + 3) == 0) whole-is in
    let ctb =
    and_parts (nat_le 4 (least + 3 + diff)) (nat_le (least + 3 + diff) 6)
    (wanted_is (nat_le 4 (least + 3 + diff) && nat_le (least + 3 + diff) 6) _ main main-is) in
    rw (← e) (record {
      min_cb = least-is;
      columns = eqb-true _ _ rows.0;
      rows = eqb-true _ _ rows.1;
      least_ctb = leb-true _ _ ctb.0;
      greatest_ctb = leb-true _ _ ctb.1;
      min_tb = ltb-true _ _ smaller-is;
      max_tb = leb-true _ _ inside-is;
      inter = inter-is;
      intra = intra-is;
    })

depth_is : (depth n : ℕ) → CanBe (pcm_bit_depth depth) n → n ≤ 7 + depth
unfolding pcm_bit_depth
depth_is depth n (minus1, a, (fact, in_range, e)) = rw (← e) (leb-true _ _ in_range)

pcm_is : (f : PictureFormat) (b : BlockSizes) (p : PcmFormat) → CanBe (pcm_format f b) p → IsPcmFormat f b p
unfolding pcm_format
pcm_is f b p
    (luma, luma-is, (chroma, chroma-is, (least, a, (fact, in_range, (diff, d, (most, most-is, (disabled, g, e))))))) =
    rw (← e) (record {
      luma_depth = depth_is f.bit_depth_luma_minus8 luma luma-is;
      chroma_depth = depth_is f.bit_depth_chroma_minus8 chroma chroma-is;
      least =
          leb-true _ _
          (and_parts (nat_le (min (min_cb_log2 b) 5) (least + 3)) (nat_le (least + 3) (min (ctb_log2 b) 5)) in_range).0;
      greatest = leb-true _ _ most-is;
    })

scaled_is : (enabled : Bool) (o : Option ScalingLists) → CanBe (scaling_lists enabled) o → IfSome o IsScalingLists
unfolding scaling_lists present_scaling_lists
scaled_is false o e = rw (← e) tt
scaled_is true o (present, a, is) = optional_is IsScalingLists present scaling_list_data o data_can_be is

-- ---- reference pictures

record AreSetsWithin (n most : ℕ) (sets : List StRps) : Type 0 where
  few : length sets ≡ n
  each : All (IsStRps most) sets

sets_are : (n count greatest far : ℕ) (former sets : List StRps) → greatest ≤ 15 → 14 ≤ far → All (IsStRps far) former
    → CanBe (sets_behind n count greatest former) sets
    → AreSetsWithin (length former + n) (far + n) sets
unfolding sets_behind
sets_are zero count greatest far former sets small long all e =
    rw (← e) (record { few = omega arith; each = All-IsStRps-weaker far (far + zero) (omega arith) former all })
sets_are (suc n) count greatest far former sets small long all (set, set-is, rest) =
    let near = can_be_near (length former) count former greatest set far small long all set-is in
    let further =
    All-push (IsStRps (far + 1)) former set (All-IsStRps-weaker far (far + 1) (omega arith) former all) near in
    let are = sets_are n count greatest (far + 1) (former ++ set ∷ []) sets small (omega arith) further rest in
    record {
      few = are.few ∙ omega (arith, length-append former (set ∷ []));
      each = All-IsStRps-weaker (far + 1 + n) (far + suc n) (omega arith) sets are.each;
    }

record AreShortTerm (sets : List StRps) : Type 0 where
  few : length sets ≤ 64
  each : All (IsStRps 78) sets

short_are : (greatest : ℕ) (sets : List StRps) → greatest ≤ 15 → CanBe (short_term_ref_pic_sets greatest) sets
    → AreShortTerm sets
unfolding short_term_ref_pic_sets
short_are greatest sets small (n, few, is) =
    let are = sets_are n n greatest 14 [] sets small (omega arith) (All-nil (IsStRps 14)) is in
    let count = are.few in
    record { few = omega (arith, count); each = All-IsStRps-weaker (14 + n) 78 (omega arith) sets are.each }

candidate_is : (n : ℕ) (c : LongTermCandidate) → CanBe (long_term_candidate n) c → c.lt_ref_pic_poc_lsb_sps < 2 ^ n
unfolding long_term_candidate
candidate_is n c (lsb, lsb-is, (used, a, e)) = rw (← e) lsb-is

candidates_are : (log2 : ℕ) (cs : List LongTermCandidate) → CanBe (long_term_candidates (log2 + 4)) cs
    → IsLongTerm (max_lsb_of log2) cs
unfolding long_term_candidates
candidates_are log2 cs (n, few, is) =
    let are =
    repeated_is (λ (c : LongTermCandidate). c.lt_ref_pic_poc_lsb_sps < 2 ^ (log2 + 4)) n
    (long_term_candidate (log2 + 4)) cs (candidate_is (log2 + 4)) is in
    let count = are.0 in
    record { few = omega (arith, count); lsb = are.1 }

-- ---- the set

identity_is : (i : SpsIdentity) → CanBe sps_identity i → IsSpsIdentity i
unfolding sps_identity
identity_is i (vps, vps-is, (sub, sub-is, (nesting, a, (profile, b, (id, id-is, e))))) = rw (← e) (record {
  video_parameter_set_id = omega (arith, vps-is);
  sub_layers = sub_layers_are sub sub-is;
  id = id-is;
})

order_is : (minus1 : ℕ) (o : SpsOrder) → CanBe (sps_order minus1) o → IsSpsOrder o
unfolding sps_order
order_is minus1 o (lsb, lsb-is, (present, a, (orderings, orderings-are, e))) =
    let ordered =
    repeated_is IsSubLayerOrdering (ordered_sub_layers present minus1) sub_layer_ordering orderings
    ordering_is orderings-are in
    let counted = ordered.0 in
    rw (← e) (record {
      lsb = lsb-is;
      some_ordering = omega (arith, some_ordered present minus1, counted);
      ordering = ordered.1;
    })

tools_are : (format : PictureFormat) (blocks : BlockSizes) (t : SpsTools) → CanBe (sps_tools format blocks) t
    → IsSpsTools format blocks t
unfolding sps_tools
tools_are format blocks t
    (scaling, a, (lists, lists-are, (amp, b, (sao, d, (pcm_on, f, (pcm, pcm-ok, e)))))) =
    rw (← e) (record {
      scaling_lists = scaled_is scaling lists lists-are;
      pcm =
          optional_is (IsPcmFormat format blocks) pcm_on (pcm_format format blocks) pcm (pcm_is format blocks) pcm-ok;
    })

references_are : (o : SpsOrder) (r : SpsReferences) → IsSpsOrder o → CanBe (sps_references o) r
    → IsSpsReferences (max_lsb_of o.log2_max_pic_order_cnt_lsb_minus4) r
unfolding sps_references
references_are o r is (sets, sets-ok, (long_on, a, (long, long-is, (temporal, b, e)))) =
    let short =
    short_are (highest_ordering o.sub_layer_ordering).max_dec_pic_buffering_minus1 sets
    (highest_is o.sub_layer_ordering is.some_ordering is.ordering) sets-ok in
    let log2 = o.log2_max_pic_order_cnt_lsb_minus4 in
    rw (← e) (record {
      few_sets = short.few;
      sets = short.each;
      long_term = optional_is (IsLongTerm (max_lsb_of log2)) long_on _ long (candidates_are log2) long-is;
    })

sequence_set_is : (s : SpsFields) → CanBe sequence_parameter_set s → IsSps s
unfolding sequence_parameter_set
sequence_set_is s (
  identity,
  id-ok,
  (
    format,
    format-ok,
    (
      order,
      order-ok,
      (
        blocks,
        blocks-ok,
        (
          tools,
          tools-ok,
          (references, references-ok, (strong, a, (vui, b, (kept, k, e)))),
        ),
      ),
    ),
  ),
) =
    let ordered = order_is identity.sps_max_sub_layers_minus1 order order-ok in
    rw (← e) (record {
      identity = identity_is identity id-ok;
      format = format_is identity.profile_tier_level.general format format-ok;
      order = ordered;
      blocks = blocks_are format.pic_width_in_luma_samples format.pic_height_in_luma_samples blocks blocks-ok;
      tools = tools_are format blocks tools tools-ok;
      references = references_are order references ordered references-ok;
    })

pub sequence_set_in_range : (bytes : List ℕ) (s : SpsFields) → sequence_parameter_set_of bytes ≡ Ok s → IsSps s
unfolding sequence_parameter_set_of
sequence_set_in_range bytes s e =
    sequence_set_is s (parsed_is PARAMETER_SET_RULES sequence_parameter_set (bits bytes) s e)
