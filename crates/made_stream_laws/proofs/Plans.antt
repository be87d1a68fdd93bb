-- The plans of a made stream are read by what made pictures are read by.
use Rattle.std.proofs.Common.{◌≡◌, ℕ, ◌+◌, ◌-◌, ◌*◌, ◌%◌, cond, Bool, true, false, List, map, refl, sym, ap}
use Rattle.std.proofs.Common.{◌∙◌, subst}
use Rattle.std.proofs.Common.{pos, Some, None}
use Rattle.std.proofs.Common.{◌<◌, arith}
use Rattle.std.specs.Prelude.{◌==◌, slice_index_or}
use Rattle.std.proofs.lemmas.List.FromFn.{get_or-map-range_with_len}
use Rattle.std.specs.List.{range_with_len}
use Rattle.header_types.specs.SequenceParameterSets.{blocks_across}
use Rattle.slice_types.specs.declared.slice.SliceType.TheVariants as slice
use Rattle.spec_cabac.specs.Contexts.{first_contexts}
use Rattle.spec_slice_data.specs.Segment.{SegmentShape}
use Rattle.spec_slice_headers.specs.Substreams.{bytes_of, substream_ranges}
use Rattle.spec_picture_trees.specs.Shapes.{picture_shape, segment_shape, slice_syntax, inter_syntax, init_type}
use Rattle.plan_types.specs.declared.picture_plan.PicturePlan.{PicturePlan}
use Rattle.plan_types.specs.declared.stated_hash.StatedHash.{StatedHash}
use Rattle.spec_picture_plan.specs.Planned.{Planned, planned_of}
use Rattle.spec_made.specs.declared.units.Shift.{Shift}
use Rattle.spec_made.specs.declared.units.InterUnit.{InterUnit}
use Rattle.spec_made.specs.declared.units.Motion.{Motion}
use Rattle.spec_made.specs.declared.units.PcmUnit.{PcmUnit}
use Rattle.spec_made.specs.Draws.{inter_units_of, motion_of, pcm_units_of, shift_of}
use Rattle.spec_made.specs.InterRows.{contexts_at, contexts_of_motion, inter_row}
use Rattle.spec_made.specs.PcmRows.{pcm_contexts_at, pcm_row}
use Rattle.spec_made.specs.Stream.{Making, made}
use Rattle.made_laws.specs.Headers.{made_header, order_at}
use Rattle.made_laws.specs.Plans.{BufferUse, MadeSlice, buffer_use_at, made_plan, plan_with}
use Rattle.made_laws.specs.Streams.{hashes_at, idr_picture, inter_picture, making_at, number_of, picture_at, plan_of}
use Rattle.made_laws.specs.Streams.{slice_at}
use Rattle.made_laws.proofs.Units.{ranges_cut}
use Rattle.made_laws.proofs.Whole.{plan_is}
use Rattle.made_laws.specs.Sets.{made_pps, made_sps}
use Rattle.made_row_laws.specs.Rows.{IsReadBy, IsReadAs}
use Rattle.made_row_laws.specs.Shapes.{made_segment, idr_syntax, predicted_syntax}
use Rattle.made_row_laws.specs.Units.{inter_items, pcm_items}
use Rattle.made_row_laws.specs.Words.{inter_words, pcm_words}
use Rattle.made_row_laws.proofs.Pictures.{inter_rows, pcm_rows, picture_back}
use Rattle.made_row_laws.proofs.Ranges.{are_drawn, motion_small}
use Rattle.made_stream_laws.specs.Streams.{items_at, items_of, predicted_items}

-- a slice whose entry points cut it into rows
IsCut : MadeSlice → (ℕ → List ℕ) → Type 0
IsCut s row =
    map (bytes_of s.payload) (substream_ranges s.payload s.removed s.data_place s.entry_points)
    ≡ map row (range_with_len 0 6)

abbrev segment_with_rows : ℕ → List (List ℕ) → SegmentShape
segment_with_rows init_type substreams = record {
  first = 0;
  count = 48;
  slice = 0;
  qp = 26;
  contexts = first_contexts (pos 26) init_type;
  dependent = false;
  substreams = substreams;
}

idr_read_by : (d : BufferUse) (poc nal : ℕ) (s : MadeSlice) (hashes : List StatedHash) (row : ℕ → List ℕ)
    → IsCut s row
    → IsReadBy (plan_with d slice.I poc nal s hashes) idr_syntax (made_segment 0 row)
unfolding IsCut made_sps made_pps picture_shape slice_syntax inter_syntax segment_shape init_type made_header
    blocks_across
idr_read_by d poc nal s hashes row cut = record {
  slice = _;
  only = refl;
  size = refl;
  shape = refl;
  syntax = refl;
  segment_is = ap (segment_with_rows 0) cut;
}

p_read_by : (d : BufferUse) (poc nal : ℕ) (s : MadeSlice) (hashes : List StatedHash) (row : ℕ → List ℕ)
    → IsCut s row
    → IsReadBy (plan_with d slice.P poc nal s hashes) (predicted_syntax None) (made_segment 1 row)
unfolding IsCut made_sps made_pps picture_shape slice_syntax inter_syntax segment_shape init_type made_header
    blocks_across
p_read_by d poc nal s hashes row cut = record {
  slice = _;
  only = refl;
  size = refl;
  shape = refl;
  syntax = refl;
  segment_is = ap (segment_with_rows 1) cut;
}

b_read_by : (d : BufferUse) (poc nal : ℕ) (s : MadeSlice) (hashes : List StatedHash) (row : ℕ → List ℕ)
    (second : Shift) → IsCut s row
    → IsReadBy (plan_with d slice.B poc nal s hashes) (predicted_syntax (Some second)) (made_segment 2 row)
unfolding IsCut made_sps made_pps picture_shape slice_syntax inter_syntax segment_shape init_type made_header
    blocks_across
b_read_by d poc nal s hashes row second cut = record {
  slice = _;
  only = refl;
  size = refl;
  shape = refl;
  syntax = refl;
  segment_is = ap (segment_with_rows 2) cut;
}

-- ---- pictures

cut_of : (g : ℕ) (m : Making) → IsCut (slice_at g m) (picture_at g m).row
unfolding IsCut
cut_of g m = ranges_cut g m

idr_read : (d : BufferUse) (poc nal : ℕ) (s : MadeSlice) (hashes : List StatedHash) (m : Making)
    → IsCut s (idr_picture m).row
    → IsReadAs (plan_with d slice.I poc nal s hashes) (pcm_items (pcm_units_of m.generator).0)
unfolding idr_picture
idr_read d poc nal s hashes m cut =
    let units : List PcmUnit = (pcm_units_of m.generator).0 in
    picture_back idr_syntax 0 (pcm_row units) (pcm_items units) (pcm_words units) (pcm_contexts_at units)
    (plan_with d slice.I poc nal s hashes) (pcm_rows units (are_drawn m.generator))
    (idr_read_by d poc nal s hashes (pcm_row units) cut)

p_read : (d : BufferUse) (order poc nal : ℕ) (s : MadeSlice) (hashes : List StatedHash) (m : Making)
    → IsCut s (inter_picture false order m).row
    → IsReadAs (plan_with d slice.P poc nal s hashes) (predicted_items false m)
unfolding inter_picture predicted_items motion_of
p_read d order poc nal s hashes m cut =
    let motion : Motion = (motion_of false m.generator).0 in
    let units : List InterUnit = (inter_units_of (motion_of false m.generator).1).0 in
    picture_back (predicted_syntax None) 1 (inter_row motion units) (inter_items motion units)
    (inter_words motion units) (contexts_at (contexts_of_motion motion) motion units)
    (plan_with d slice.P poc nal s hashes) (inter_rows motion units (motion_small false m.generator))
    (p_read_by d poc nal s hashes (inter_row motion units) cut)

b_read : (d : BufferUse) (order poc nal : ℕ) (s : MadeSlice) (hashes : List StatedHash) (m : Making)
    → IsCut s (inter_picture true order m).row
    → IsReadAs (plan_with d slice.B poc nal s hashes) (predicted_items true m)
unfolding inter_picture predicted_items motion_of
b_read d order poc nal s hashes m cut =
    let motion : Motion = (motion_of true m.generator).0 in
    let second : Shift = (shift_of (shift_of m.generator).1).0 in
    let units : List InterUnit = (inter_units_of (motion_of true m.generator).1).0 in
    picture_back (predicted_syntax (Some second)) 2 (inter_row motion units) (inter_items motion units)
    (inter_words motion units) (contexts_at (contexts_of_motion motion) motion units)
    (plan_with d slice.B poc nal s hashes) (inter_rows motion units (motion_small true m.generator))
    (b_read_by d poc nal s hashes (inter_row motion units) second cut)

any_read : (zero odd : Bool) (d : BufferUse) (one two poc nal : ℕ) (s : MadeSlice) (hashes : List StatedHash)
    (m : Making)
    → IsCut s (cond zero (idr_picture m) (cond odd (inter_picture false one m) (inter_picture true two m))).row
    → IsReadAs (plan_with d (cond zero slice.I (cond odd slice.P slice.B)) poc nal s hashes)
    (cond zero (pcm_items (pcm_units_of m.generator).0) (cond odd (predicted_items false m) (predicted_items true m)))
any_read true odd d one two poc nal s hashes m cut = idr_read d poc nal s hashes m cut
any_read false true d one two poc nal s hashes m cut = p_read d one poc nal s hashes m cut
any_read false false d one two poc nal s hashes m cut = b_read d two poc nal s hashes m cut

pub each_read : (first : Bool) (g nal : ℕ) (m : Making) (hashes : List StatedHash)
    → IsReadAs (made_plan first g nal (slice_at g m) hashes) (items_at g m)
unfolding made_plan items_at picture_at
each_read first g nal m hashes =
    any_read (g == 0) (g % 2 == 1) (buffer_use_at first g) (g + 1) (g - 1) (order_at g) nal (slice_at g m) hashes m
    (cut_of g m)

-- the picture of a number in the stream of a seed
pub picture_read_as : (seed j : ℕ) → IsReadAs (plan_of seed j) (items_of seed j)
picture_read_as seed j =
    let m : Making = making_at seed j in
    each_read (j == 0) (j % 8) (number_of (2 + 2 * j)) m (hashes_at j (j % 8) m)

pub all_read : (seed pictures j : ℕ) (d : PicturePlan) → j < pictures
    → IsReadAs (slice_index_or (planned_of true (made seed pictures)).pictures j d) (items_of seed j)
all_read seed pictures j d inside =
    let at : slice_index_or (planned_of true (made seed pictures)).pictures j d ≡ plan_of seed j =
    ap (λ (p : Planned). slice_index_or p.pictures j d) (plan_is seed pictures)
    ∙ get_or-map-range_with_len (plan_of seed) 0 pictures j j d inside (omega arith) in
    subst (λ (p : PicturePlan). IsReadAs p (items_of seed j)) (sym at) (picture_read_as seed j)
