-- Coding units by pulse code modulation are spelled by what is written of them.
use Rattle.std.proofs.Common.{◌≡◌, ℕ, zero, suc, ◌+◌, ◌*◌, ◌^◌, ◌<◌, Bool, true, false, List, [], ◌∷◌, ◌++◌, length}
use Rattle.std.proofs.Common.{take, drop, refl, sym, ap, ◌∙◌, arith, append_assoc, append-nil, subst}
use Rattle.std.specs.Prelude.{nat_lt, slice_index_or}
use Rattle.std.proofs.lemmas.List.{take-append-drop, length-take-le, length-drop}
use Rattle.ctu_records.specs.declared.item.Item.{Item}
use Rattle.ctu_records.specs.declared.item.Item.TheVariants as item
use Rattle.ctu_records.specs.declared.item.Square.{Square}
use Rattle.ctu_records.specs.declared.offset.Sao.{Sao}
use Rattle.ctu_records.specs.declared.side.Side.{Side}
use Rattle.ctu_records.specs.Tree.{Ctu, added, no_side, depth_left, depth_above}
use Rattle.spec_cabac.specs.Bins.{Tree, Decision, Terminate, PcmStart, Sample, PcmEnd, times}
use Rattle.spec_cabac.specs.declared.init_values.TheConstants.{SPLIT_CU_FLAG, PART_MODE}
use Rattle.cabac_writer.specs.Pulses.{sample_words}
use Rattle.spec_slice_data.specs.declared.syntax.InterSyntax.{InterSyntax}
use Rattle.spec_slice_data.specs.declared.syntax.PcmSyntax.{PcmSyntax}
use Rattle.spec_slice_data.specs.declared.syntax.UnitStart.{UnitStart}
use Rattle.spec_slice_data.specs.Tree.{pcm_sample, pcm_unit, begun_unit, unit_start, intra_body, coding_unit, deeper}
use Rattle.spec_slice_data.specs.Tree.{coding_quadtree, coding_tree_unit}
use Rattle.spec_made.specs.declared.units.PcmUnit.{PcmUnit}
use Rattle.spec_made.specs.Written.{Bins}
use Rattle.spec_made.specs.InterRows.{beside}
use Rattle.spec_made.specs.PcmRows.{quarter_of, parts_of, split_left, split_above}
use Rattle.made_row_laws.specs.Shapes.{made_inter}
use Rattle.made_row_laws.specs.Units.{coding_unit_of, whole, quarter, sample_items, pulse_items, pcm_unit_items}
use Rattle.made_row_laws.specs.Units.{unit_with}
use Rattle.made_row_laws.specs.Words.{pulses_of, words_of_parts}
use Rattle.made_row_laws.proofs.Taking.{Takes, gives, asks, then_takes}
use Rattle.made_row_laws.proofs.Predicted.{placed}
use Rattle.made_row_laws.proofs.Quadtree.{IsInside, begun, whole_taken, quarters_taken, unit_taken}

-- ---- samples

abbrev with_samples : Ctu → List ℕ → Ctu
with_samples ctu [] = ctu
with_samples ctu (value ∷ values) = with_samples (added ctu (item.Sample value)) values

with_samples-append : (ctu : Ctu) (front back : List ℕ)
    → with_samples (with_samples ctu front) back ≡ with_samples ctu (front ++ back)
with_samples-append ctu [] back = refl
with_samples-append ctu (v ∷ front) back = with_samples-append (added ctu (item.Sample v)) front back

samples_behind : (left above : List Side) (items : List Item) (values : List ℕ)
    → with_samples (unit_with left above items) values ≡ unit_with left above (items ++ sample_items values)
samples_behind left above items [] = ap (unit_with left above) (sym (append-nil items))
samples_behind left above items (v ∷ values) =
    samples_behind left above (items ++ item.Sample v ∷ []) values
    ∙ ap (unit_with left above) (append_assoc items (item.Sample v ∷ []) (sample_items values))

words-append : (front back : List ℕ) (rest : Bins)
    → sample_words (pulses_of (front ++ back)) ++ rest
    ≡ sample_words (pulses_of front) ++ (sample_words (pulses_of back) ++ rest)
words-append [] back rest = refl
words-append (v ∷ front) back rest = ap (λ (l : Bins). (Sample 8, v) ∷ l) (words-append front back rest)

samples_taken : (values : List ℕ) (i n : ℕ) (ctu : Ctu) (rest : Bins) → length values ≡ n
    → Takes (times i n (pcm_sample 8) ctu) (with_samples ctu values) (sample_words (pulses_of values) ++ rest) rest
unfolding times
samples_taken [] i zero ctu rest is = gives ctu rest
samples_taken [] i (suc n) ctu rest is = absurd (omega arith)
samples_taken (v ∷ values) i zero ctu rest is = absurd (omega arith)
samples_taken (v ∷ values) i (suc n) ctu rest is =
    then_takes (then_takes (asks (Sample 8) v _) (gives (added ctu (item.Sample v)) _))
    (samples_taken values (i + 1) n (added ctu (item.Sample v)) rest (omega arith))

abbrev pcm : PcmSyntax
pcm = record { enabled = true; log2_least = 1; log2_greatest = 2; luma_bits = 8; chroma_bits = 8 }

-- all samples of a coding unit: so many of luma, and then so many of chroma
pulses_taken : (square : Square) (ctu : Ctu) (values : List ℕ) (rest : Bins)
    → length values ≡ 16 * 4 ^ square.log2_size + 8 * 4 ^ square.log2_size
    → Takes (pcm_unit pcm square ctu) (with_samples (added ctu (item.Pcm square)) values)
    ((PcmStart, tt) ∷ (sample_words (pulses_of values) ++ (PcmEnd, tt) ∷ rest)) rest
unfolding pcm_unit
pulses_taken square ctu values rest long =
    let luma : ℕ = 16 * 4 ^ square.log2_size in
    let chroma : ℕ = 8 * 4 ^ square.log2_size in
    let front : List ℕ = take luma values in
    let back : List ℕ = drop luma values in
    let both : front ++ back ≡ values = take-append-drop luma values in
    let start : Ctu = added ctu (item.Pcm square) in
    let behind : Bins = (PcmEnd, tt) ∷ rest in
    let few : length front ≡ luma = length-take-le luma values (omega arith) in
    let more : length back ≡ chroma = omega (arith, length-drop luma values) in
    let all : Ctu = with_samples (with_samples start front) back in
    let format : Tree Ctu = pcm_unit pcm square ctu in
    let t : Takes format all
    ((PcmStart, tt) ∷ (sample_words (pulses_of front) ++ (sample_words (pulses_of back) ++ behind))) rest =
    then_takes (asks PcmStart tt (sample_words (pulses_of front) ++ (sample_words (pulses_of back) ++ behind)))
    (then_takes (samples_taken front 0 luma start (sample_words (pulses_of back) ++ behind) few)
    (then_takes (samples_taken back 0 chroma (with_samples start front) behind more)
    (then_takes (asks PcmEnd tt rest) (gives all rest)))) in
    let joined : Takes format all ((PcmStart, tt) ∷ (sample_words (pulses_of (front ++ back)) ++ behind)) rest =
    subst (λ (l : Bins). Takes format all ((PcmStart, tt) ∷ l) rest) (sym (words-append front back behind)) t in
    subst (λ (l : List ℕ). Takes format (with_samples start l)
    ((PcmStart, tt) ∷ (sample_words (pulses_of l) ++ behind)) rest) both
    (subst (λ (c : Ctu). Takes format c ((PcmStart, tt) ∷ (sample_words (pulses_of (front ++ back)) ++ behind)) rest)
    (with_samples-append start front back) joined)

-- ---- coding units

abbrev intra_start : ℕ → Square → UnitStart
intra_start depth square =
    record { square = square; depth = depth; transquant_bypass = false; skipped = false; intra = true }

-- what is read of it, behind items
abbrev raw_behind : ℕ → Square → List ℕ → List Side → List Side → List Item → Ctu
raw_behind depth square values left above items =
    with_samples (added (begun_unit (intra_start depth square) (unit_with left above items)) (item.Pcm square)) values

raw_is : (depth : ℕ) (square : Square) (values : List ℕ) (left above : List Side) (items : List Item)
    → raw_behind depth square values left above items
    ≡ unit_with left above (items ++ pulse_items depth square values)
unfolding begun_unit
raw_is depth square values left above items =
    let unit : Item = item.Unit (coding_unit_of depth square false true) in
    let pulse : Item = item.Pcm square in
    samples_behind left above ((items ++ unit ∷ []) ++ pulse ∷ []) values
    ∙ ap (unit_with left above) (append_assoc (items ++ unit ∷ []) (pulse ∷ []) (sample_items values)
    ∙ append_assoc items (unit ∷ []) (pulse ∷ sample_items values))

-- pcm_flag and all samples
abbrev flag_and_samples : List ℕ → Bins → Bins
flag_and_samples values rest =
    (Terminate, true) ∷ (PcmStart, tt) ∷ (sample_words (pulses_of values) ++ (PcmEnd, tt) ∷ rest)

-- a coding unit of a whole unit
whole_unit_taken : (has_left has_above : Bool) (right lower : ℕ) (values : List ℕ) (left above : List Side)
    (items : List Item) (rest : Bins) → length values ≡ 384
    → Takes (coding_unit (placed (made_inter false false) has_left has_above right lower) 0 whole
    (unit_with left above items))
    (unit_with left above (items ++ pulse_items 0 whole values)) (flag_and_samples values rest) rest
unfolding coding_unit unit_start intra_body
whole_unit_taken has_left has_above right lower values left above items rest long =
    let format : Tree Ctu =
    coding_unit (placed (made_inter false false) has_left has_above right lower) 0 whole (unit_with left above items) in
    let words : Bins = flag_and_samples values rest in
    let begun_here : Ctu = begun_unit (intra_start 0 whole) (unit_with left above items) in
    subst (λ (c : Ctu). Takes format c words rest) (raw_is 0 whole values left above items)
    (then_takes (then_takes (gives false words) (then_takes (gives false words) (then_takes (gives true words)
    (gives (intra_start 0 whole) words))))
    (then_takes (gives false words) (then_takes (asks Terminate true _)
    (pulses_taken whole begun_here values rest long))))

-- a coding unit of a quarter
quarter_unit_taken : (has_left has_above : Bool) (right lower x y : ℕ) (values : List ℕ) (left above : List Side)
    (items : List Item) (rest : Bins) → length values ≡ 96
    → Takes (coding_unit (placed (made_inter false false) has_left has_above right lower) 1
    (record { x = x; y = y; log2_size = 1 }) (unit_with left above items))
    (unit_with left above (items ++ pulse_items 1 (record { x = x; y = y; log2_size = 1 }) values))
    ((Decision PART_MODE, true) ∷ flag_and_samples values rest) rest
unfolding coding_unit unit_start intra_body
quarter_unit_taken has_left has_above right lower x y values left above items rest long =
    let square : Square = record { x = x; y = y; log2_size = 1 } in
    let format : Tree Ctu =
    coding_unit (placed (made_inter false false) has_left has_above right lower) 1 square
    (unit_with left above items) in
    let words : Bins = (Decision PART_MODE, true) ∷ flag_and_samples values rest in
    let begun_here : Ctu = begun_unit (intra_start 1 square) (unit_with left above items) in
    subst (λ (c : Ctu). Takes format c words rest) (raw_is 1 square values left above items)
    (then_takes (then_takes (gives false words) (then_takes (gives false words) (then_takes (gives true words)
    (gives (intra_start 1 square) words))))
    (then_takes (then_takes (asks (Decision PART_MODE) true _) (gives false _))
    (then_takes (asks Terminate true _) (pulses_taken square begun_here values rest long))))

-- ---- units

quarter_long : (samples : List ℕ) (q : ℕ) → length samples ≡ 384 → q < 4 → length (quarter_of samples q) ≡ 96
quarter_long samples q long few =
    length-take-le 96 (drop (96 * q) samples) (omega (arith, length-drop (96 * q) samples))

four_items : (a b c d : List Item) → ((a ++ b) ++ c) ++ d ≡ a ++ (b ++ (c ++ d))
four_items a b c d = append_assoc (a ++ b) c d ∙ append_assoc a b (c ++ d)

-- whether the units on the left and above are split
pub record IsDeepBeside (left above : List Side) (l a : Bool) : Type 0 where
  pub left_depth : nat_lt 0 (slice_index_or left 0 no_side).depth ≡ l
  pub above_depth : nat_lt 0 (slice_index_or above 0 no_side).depth ≡ a

deep_is : (left above : List Side) (l a : Bool) → IsDeepBeside left above l a
    → deeper (begun left above) 0 0 0 ≡ beside l a
unfolding deeper depth_left depth_above
deep_is left above l a is = rw (is.left_depth, is.above_depth) refl

pcm_tree : (has_left has_above : Bool) (right lower : ℕ) (left above : List Side) (units : List PcmUnit) (i : ℕ)
    (split : Bool) (samples : List ℕ) (rest : Bins)
    → IsInside right lower → IsDeepBeside left above (split_left units i) (split_above units i) → length samples ≡ 384
    → Takes (coding_quadtree (placed (made_inter false false) has_left has_above right lower) 2 0 whole
    (begun left above))
    (unit_with left above (pcm_unit_items (record { split = split; samples = samples })))
    (words_of_parts (parts_of units i (record { split = split; samples = samples }) []) rest) rest
pcm_tree has_left has_above right lower left above units i false samples rest inside is long =
    let inter : InterSyntax = made_inter false false in
    let next : Ctu = unit_with left above (pulse_items 0 whole samples) in
    subst (λ (n : ℕ). Takes (coding_quadtree (placed inter has_left has_above right lower) 2 0 whole (begun left above))
    next ((Decision (SPLIT_CU_FLAG + n), false) ∷ flag_and_samples samples rest) rest)
    (deep_is left above (split_left units i) (split_above units i) is)
    (whole_taken inter has_left has_above right lower left above next (flag_and_samples samples rest) rest inside
    (whole_unit_taken has_left has_above right lower samples left above [] rest long))
pcm_tree has_left has_above right lower left above units i true samples rest inside is long =
    let inter : InterSyntax = made_inter false false in
    let s0 : List ℕ = quarter_of samples 0 in
    let s1 : List ℕ = quarter_of samples 1 in
    let s2 : List ℕ = quarter_of samples 2 in
    let s3 : List ℕ = quarter_of samples 3 in
    let i0 : List Item = pulse_items 1 (quarter 0 0) s0 in
    let i1 : List Item = pulse_items 1 (quarter 1 0) s1 in
    let i2 : List Item = pulse_items 1 (quarter 0 1) s2 in
    let i3 : List Item = pulse_items 1 (quarter 1 1) s3 in
    let l3 : Bins = (Decision PART_MODE, true) ∷ flag_and_samples s3 rest in
    let l2 : Bins = (Decision PART_MODE, true) ∷ flag_and_samples s2 l3 in
    let l1 : Bins = (Decision PART_MODE, true) ∷ flag_and_samples s1 l2 in
    let l0 : Bins = (Decision PART_MODE, true) ∷ flag_and_samples s0 l1 in
    let c1 : Ctu = unit_with left above i0 in
    let c2 : Ctu = unit_with left above (i0 ++ i1) in
    let c3 : Ctu = unit_with left above ((i0 ++ i1) ++ i2) in
    let c4 : Ctu = unit_with left above (((i0 ++ i1) ++ i2) ++ i3) in
    let p =
    quarter_unit_taken has_left has_above right lower 0 0 s0 left above [] l1
    (quarter_long samples 0 long (omega arith)) in
    let q =
    quarter_unit_taken has_left has_above right lower 2 0 s1 left above i0 l2
    (quarter_long samples 1 long (omega arith)) in
    let r =
    quarter_unit_taken has_left has_above right lower 0 2 s2 left above (i0 ++ i1) l3
    (quarter_long samples 2 long (omega arith)) in
    let s =
    quarter_unit_taken has_left has_above right lower 2 2 s3 left above ((i0 ++ i1) ++ i2) rest
    (quarter_long samples 3 long (omega arith)) in
    let t =
    quarters_taken inter has_left has_above right lower left above c1 c2 c3 c4 l0 l1 l2 l3 rest inside p q r s in
    let format : Tree Ctu =
    coding_quadtree (placed inter has_left has_above right lower) 2 0 whole (begun left above) in
    subst (λ (items : List Item). Takes format (unit_with left above items)
    ((Decision (SPLIT_CU_FLAG + beside (split_left units i) (split_above units i)), true) ∷ l0) rest)
    (four_items i0 i1 i2 i3)
    (subst (λ (n : ℕ). Takes format c4 ((Decision (SPLIT_CU_FLAG + n), true) ∷ l0) rest)
    (deep_is left above (split_left units i) (split_above units i) is) t)

pub pcm_taken : (has_left has_above : Bool) (right lower : ℕ) (sao_left sao_above : Sao) (left above : List Side)
    (units : List PcmUnit) (i : ℕ) (u : PcmUnit) (rest : Bins)
    → IsInside right lower → IsDeepBeside left above (split_left units i) (split_above units i)
    → length u.samples ≡ 384
    → Takes (coding_tree_unit (placed (made_inter false false) has_left has_above right lower) sao_left sao_above
    (begun left above)) (unit_with left above (pcm_unit_items u)) (words_of_parts (parts_of units i u []) rest) rest
pcm_taken has_left has_above right lower sao_left sao_above left above units i u rest inside is long =
    unit_taken (made_inter false false) has_left has_above right lower sao_left sao_above left above
    (unit_with left above (pcm_unit_items u)) (words_of_parts (parts_of units i u []) rest) rest
    (pcm_tree has_left has_above right lower left above units i u.split u.samples rest inside is long)
