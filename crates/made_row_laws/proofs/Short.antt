-- How many bins and bytes a row has at most.
use Rattle.std.proofs.Common.{◌≡◌, ℕ, zero, suc, ◌+◌, ◌-◌, ◌*◌, ◌/◌, ◌≤◌, cond, Bool, true, false, List, [], ◌∷◌}
use Rattle.std.proofs.Common.{◌++◌}
use Rattle.std.proofs.Common.{length, replicate, drop, Option, Some, None, All, refl, ap, ◌∙◌, arith}
use Rattle.std.proofs.Common.{length-append, get_or, inl, inr}
use Rattle.std.specs.Prelude.{nat_lt, nat_le, ◌==◌, if◌then◌else◌}
use Rattle.std.proofs.lemmas.Bool.{cases_lt}
use Rattle.std.proofs.lemmas.List.{length-replicate, length-map, length-take, get_or_past}
use Rattle.std.proofs.lemmas.List.Elements.{All-nil, All-cons}
use Rattle.std.proofs.lemmas.List.Sums.{count_by-le-length}
use Rattle.spec_bits.specs.Spelling.{u_bits}
use Rattle.spec_bits.proofs.Digits.{length-u_bits}
use Rattle.spec_formats.specs.Format.{Word}
use Rattle.spec_cabac.specs.Bins.{Bin, BinValue, Decision, Bypass, Terminate, PcmStart, Sample, PcmEnd}
use Rattle.spec_cabac.specs.Engine.{doublings}
use Rattle.spec_cabac.specs.Contexts.{lps_range_of}
use Rattle.spec_cabac.specs.declared.init_values.TheConstants.{ABS_MVD_GREATER1_FLAG, MVP_FLAG, RQT_ROOT_CBF}
use Rattle.cabac_writer.specs.Coding.{Coding, Writing, no_bins, scaled, is_mps, with_decision, with_bypass}
use Rattle.cabac_writer.specs.Coding.{with_terminate, with_word, with_words, filling, coded_bits}
use Rattle.cabac_writer.specs.Pulses.{section_bits, contexts_behind}
use Rattle.cabac_writer.proofs.ReadBack.{length_coded}
use Rattle.rand_pcg.specs.Lcg.{Lcg}
use Rattle.spec_made.specs.declared.units.InterUnit.{InterUnit}
use Rattle.spec_made.specs.declared.units.PcmUnit.{PcmUnit}
use Rattle.spec_made.specs.declared.units.Shift.{Shift}
use Rattle.spec_made.specs.declared.units.Motion.{Motion}
use Rattle.spec_made.specs.Draws.{draws, low_bits, no_unit, pcm_unit_of, all_of}
use Rattle.spec_made.specs.Written.{Bins, bytes_of, section_bytes}
use Rattle.spec_made.specs.InterRows.{is_skipped, size_of, log_of, bypasses, size_words, moves, where_moves}
use Rattle.spec_made.specs.InterRows.{vector_words, list_words, second_words, coded_words, part_words, quarter_words}
use Rattle.spec_made.specs.InterRows.{unit_words, beside, later_motion, left_of, above_of}
use Rattle.spec_made.specs.InterRows.{end_words, words_at, words_from, contexts_at, contexts_of_motion, inter_row}
use Rattle.spec_made.specs.PcmRows.{Part, no_samples, split_word, whole_word, quarter_of, parts_of, parts_from}
use Rattle.spec_made.specs.PcmRows.{bytes_of_part, part_bytes, contexts_behind_parts, row_bytes}
use Rattle.spec_made.specs.PcmRows.{pcm_contexts_at, pcm_row}

-- ---- bits and bytes of bins

few_doublings : (range : ℕ) → doublings range ≤ 8
unfolding doublings
few_doublings range = count_by-le-length (λ t. nat_lt range t) (256 ∷ 128 ∷ 64 ∷ 32 ∷ 16 ∷ 8 ∷ 4 ∷ 2 ∷ [])

one_of_two : (m : Bool) (size a b : ℕ) (c d : Coding) → c.size ≡ size + a → d.size ≡ size + b → a ≤ 8 → b ≤ 8
    → (cond m c d).size ≤ size + 8
one_of_two true size a b c d e f few many = omega arith
one_of_two false size a b c d e f few many = omega arith

word_grows : (s : Writing) (w : Word Bin BinValue) → (with_word s w).0.size ≤ s.0.size + 8
unfolding with_word with_decision with_bypass with_terminate
word_grows s (Decision i, bin) =
    let context : ℕ = get_or s.1 i 0 in
    let lps : ℕ = lps_range_of (context / 2) s.0.range in
    one_of_two (is_mps context bin) s.0.size (doublings (s.0.range - lps)) (doublings lps)
    (scaled (s.0.range - lps) s.0.low s.0.size) (scaled lps (s.0.low + (s.0.range - lps)) s.0.size) refl refl
    (few_doublings (s.0.range - lps)) (few_doublings lps)
word_grows s (Bypass, bin) = omega arith
word_grows s (Terminate, true) = omega arith
word_grows s (Terminate, false) = omega (arith, few_doublings (s.0.range - 2))
word_grows s (PcmStart, x) = omega arith
word_grows s (Sample size, x) = omega arith
word_grows s (PcmEnd, x) = omega arith

words_grow : (words : Bins) (s : Writing) → (with_words s words).0.size ≤ s.0.size + 8 * length words
words_grow [] s = omega arith
words_grow (w ∷ words) s = omega (arith, words_grow words (with_word s w), word_grows s w)

few_zeros : (n : ℕ) → filling n ≤ 7
few_zeros n = omega arith

section_grows : (words : Bins) (contexts : List ℕ)
    → length (section_bits words contexts) ≤ 8 * (length words + 2)
unfolding section_bits with_terminate
section_grows words contexts =
    let c : Coding = with_terminate (with_words (no_bins, contexts) words).0 true in
    let n : ℕ = length (coded_bits c) in
    omega (
      arith,
      length-append (coded_bits c) (replicate (filling n) false),
      length-replicate (filling n) false,
      length_coded c,
      words_grow words (no_bins, contexts),
      few_zeros n,
    )

bytes_short : (bits : List Bool) → 8 * length (bytes_of bits) ≤ length bits
unfolding bytes_of
bytes_short (a ∷ b ∷ c ∷ d ∷ e ∷ f ∷ g ∷ h ∷ bits) = omega (arith, bytes_short bits)
bytes_short [] = omega arith
bytes_short (a ∷ []) = omega arith
bytes_short (a ∷ b ∷ []) = omega arith
bytes_short (a ∷ b ∷ c ∷ []) = omega arith
bytes_short (a ∷ b ∷ c ∷ d ∷ []) = omega arith
bytes_short (a ∷ b ∷ c ∷ d ∷ e ∷ []) = omega arith
bytes_short (a ∷ b ∷ c ∷ d ∷ e ∷ f ∷ []) = omega arith
bytes_short (a ∷ b ∷ c ∷ d ∷ e ∷ f ∷ g ∷ []) = omega arith

-- a section has at most two bytes more than bins
section_short : (words : Bins) (contexts : List ℕ) → length (section_bytes words contexts) ≤ length words + 2
section_short words contexts =
    omega (arith, bytes_short (section_bits words contexts), section_grows words contexts)

-- ---- bins of P and B pictures

length-bypasses : (bins : List Bool) → length (bypasses bins) ≡ length bins
length-bypasses [] = refl
length-bypasses (b ∷ bins) = ap suc (length-bypasses bins)

few_digits : (size : ℕ) → log_of size ≤ 9
few_digits size =
    count_by-le-length (λ t. nat_le t size) (2 ∷ 4 ∷ 8 ∷ 16 ∷ 32 ∷ 64 ∷ 128 ∷ 256 ∷ 512 ∷ [])

three_long : (a b c : Bins) → length (a ++ b ++ c) ≡ length a + length b + length c
three_long a b c =
    omega (arith, length-append a (b ++ c), length-append (a ++ b) c, length-append a b, length-append b c)

size_short : (d : ℕ) → length (size_words d) ≤ 20
unfolding size_words
size_short d =
    let log : ℕ = log_of (size_of d) in
    let ones : Bins = bypasses (replicate (log - 1) true) in
    let digits : Bins = bypasses (u_bits log (size_of d)) in
    omega (
      arith,
      few_digits (size_of d),
      three_long ones ((Bypass, false) ∷ digits) ((Bypass, nat_lt d 100) ∷ []),
      length-bypasses (replicate (log - 1) true),
      length-bypasses (u_bits log (size_of d)),
      length-replicate (log - 1) true,
      length-u_bits log (size_of d),
    )

where_short : (b : Bool) (words : Bins) (n : ℕ) → length words ≤ n → length (if b then words else []) ≤ n
where_short true words n h = h
where_short false words n h = omega arith

five_short : (a b c d e : Bins) (i j k l m : ℕ) → length a ≤ i → length b ≤ j → length c ≤ k → length d ≤ l
    → length e ≤ m → length (a ++ (b ++ (c ++ (d ++ e)))) ≤ i + j + k + l + m
five_short a b c d e i j k l m ha hb hc hd he =
    omega (
      arith,
      length-append a (b ++ (c ++ (d ++ e))),
      length-append b (c ++ (d ++ e)),
      length-append c (d ++ e),
      length-append d e,
    )

vector_short : (s : Shift) → length (vector_words s) ≤ 45
unfolding vector_words
vector_short s =
    let greater : Bins = (Decision ABS_MVD_GREATER1_FLAG, true) ∷ [] in
    let last : Bins = (Decision MVP_FLAG, false) ∷ [] in
    let short =
    five_short (where_moves s.across greater) (where_moves s.down greater) (where_moves s.across (size_words s.across))
    (where_moves s.down (size_words s.down)) last 1 1 20 20 1
    (where_short (moves s.across) greater 1 (omega arith)) (where_short (moves s.down) greater 1 (omega arith))
    (where_short (moves s.across) (size_words s.across) 20 (size_short s.across))
    (where_short (moves s.down) (size_words s.down) 20 (size_short s.down)) (omega arith) in
    omega (arith, short)

lists_short : (depth : ℕ) (second : Option Shift) → length (list_words depth second) ≤ 1
lists_short depth None = omega arith
lists_short depth (Some s) = omega arith

second_short : (second : Option Shift) → length (second_words second) ≤ 45
second_short None = omega arith
second_short (Some s) = vector_short s

coded_short : (depth : ℕ) (m : Motion) → length (coded_words depth m) ≤ 95
unfolding coded_words
coded_short depth m =
    let last : Bins = (Decision RQT_ROOT_CBF, false) ∷ [] in
    let short =
    five_short [] (list_words depth m.second) (vector_words m.first) (second_words m.second) last 0 1 45 45 1
    (omega arith) (lists_short depth m.second) (vector_short m.first) (second_short m.second) (omega arith) in
    omega (arith, short)

part_short : (depth beside : ℕ) (skipped : Bool) (m : Motion) → length (part_words depth beside skipped m) ≤ 96
unfolding part_words
part_short depth beside true m = omega arith
part_short depth beside false m = omega (arith, coded_short depth m)

four_or_one : (split : Bool) (a b : Bins) (n : ℕ) → length a ≤ n → length b ≤ n
    → length (if split then a else b) ≤ n
four_or_one true a b n h k = h
four_or_one false a b n h k = k

unit_short : (first later : Motion) (left above u : InterUnit) → length (unit_words first later left above u) ≤ 385
unfolding unit_words
unit_short first later left above u =
    let quarters =
    five_short (part_words 1 (beside (is_skipped left 1) (is_skipped above 2)) (is_skipped u 0) first)
    (part_words 1 (beside (is_skipped u 0) (is_skipped above 3)) (is_skipped u 1) later)
    (part_words 1 (beside (is_skipped left 3) (is_skipped u 0)) (is_skipped u 2) later)
    [] (part_words 1 (beside (is_skipped u 2) (is_skipped u 1)) (is_skipped u 3) later) 96 96 96 0 96
    (part_short 1 (beside (is_skipped left 1) (is_skipped above 2)) (is_skipped u 0) first)
    (part_short 1 (beside (is_skipped u 0) (is_skipped above 3)) (is_skipped u 1) later)
    (part_short 1 (beside (is_skipped left 3) (is_skipped u 0)) (is_skipped u 2) later) (omega arith)
    (part_short 1 (beside (is_skipped u 2) (is_skipped u 1)) (is_skipped u 3) later) in
    let whole = part_short 0 (beside (is_skipped left 1) (is_skipped above 2)) (is_skipped u 0) first in
    let both =
    four_or_one u.split (quarter_words first later left above u)
    (part_words 0 (beside (is_skipped left 1) (is_skipped above 2)) (is_skipped u 0) first) 384 quarters
    (omega (arith, whole)) in
    omega (arith, both)

no_end : Bins
no_end = []

end_if : (b : Bool) → length (if b then no_end else (Terminate, false) ∷ []) ≤ 1
unfolding no_end
end_if true = omega arith
end_if false = omega arith

end_short : (i : ℕ) → length (end_words i) ≤ 1
unfolding no_end
end_short i = end_if (i == 47)

words_short : (m : Motion) (units : List InterUnit) (n i : ℕ) → length (words_from m units i n) ≤ 386 * n
unfolding words_from words_at
words_short m units zero i = omega arith
words_short m units (suc n) i =
    let first : Motion = if i == 0 then m else later_motion m in
    let unit : Bins = unit_words first (later_motion m) (left_of units i) (above_of units i) (get_or units i no_unit) in
    omega (
      arith,
      length-append (unit ++ end_words i) (words_from m units (i + 1) n),
      length-append unit (end_words i),
      unit_short first (later_motion m) (left_of units i) (above_of units i) (get_or units i no_unit),
      end_short i,
      words_short m units n (i + 1),
    )

pub inter_short : (m : Motion) (units : List InterUnit) (r : ℕ) → length (inter_row m units r) ≤ 3100
unfolding inter_row
inter_short m units r =
    let words : Bins = words_from m units (8 * r) 8 in
    omega (
      arith,
      section_short words (contexts_at (contexts_of_motion m) m units r),
      words_short m units 8 (8 * r),
    )

-- ---- the bytes of IDR pictures: 96 samples of a coding unit or all of a unit, and at most three bins before them

quarter_short : (samples : List ℕ) (q : ℕ) → length (quarter_of samples q) ≤ 96
quarter_short samples q = omega (arith, length-take 96 (drop (96 * q) samples))

record IsShortPart (p : Part) (bins samples : ℕ) : Type 0 where
  pub few : length p.bins ≤ bins
  pub short : length p.samples ≤ samples

pub part_bytes-append : (front back : List Part) (contexts : List ℕ)
    → length (part_bytes (front ++ back) contexts)
    ≡ length (part_bytes front contexts) + length (part_bytes back (contexts_behind_parts front contexts))
part_bytes-append [] back contexts = omega arith
part_bytes-append (p ∷ front) back contexts =
    omega (
      arith,
      length-append (bytes_of_part p contexts) (part_bytes front (contexts_behind p.bins contexts)),
      length-append (bytes_of_part p contexts) (part_bytes (front ++ back) (contexts_behind p.bins contexts)),
      part_bytes-append front back (contexts_behind p.bins contexts),
    )

part_of_bytes : (p : Part) (contexts : List ℕ) (bins samples : ℕ) → length p.bins ≤ bins → length p.samples ≤ samples
    → length (bytes_of_part p contexts) ≤ bins + samples + 2
part_of_bytes p contexts bins samples few short =
    omega (arith, length-append (section_bytes p.bins contexts) p.samples, section_short p.bins contexts)

four_parts : (a b c d : Part) (contexts : List ℕ) (n : ℕ) → length a.bins ≤ n + 2 → length b.bins ≤ 1
    → length c.bins ≤ 1 → length d.bins ≤ 1 → length a.samples ≤ 96 → length b.samples ≤ 96 → length c.samples ≤ 96
    → length d.samples ≤ 96
    → length (part_bytes (a ∷ b ∷ c ∷ d ∷ []) contexts) ≤ n + 397
four_parts a b c d contexts n ha hb hc hd ka kb kc kd =
    let second : List ℕ = contexts_behind a.bins contexts in
    let third : List ℕ = contexts_behind b.bins second in
    let fourth : List ℕ = contexts_behind c.bins third in
    omega (
      arith,
      length-append (bytes_of_part a contexts) (part_bytes (b ∷ c ∷ d ∷ []) second),
      length-append (bytes_of_part b second) (part_bytes (c ∷ d ∷ []) third),
      length-append (bytes_of_part c third) (part_bytes (d ∷ []) fourth),
      length-append (bytes_of_part d fourth) [],
      part_of_bytes a contexts (n + 2) 96 ha ka,
      part_of_bytes b second 1 96 hb kb,
      part_of_bytes c third 1 96 hc kc,
      part_of_bytes d fourth 1 96 hd kd,
    )

unit_parts : (split : Bool) (units : List PcmUnit) (i : ℕ) (samples : List ℕ) (before : Bins) (contexts : List ℕ)
    → length samples ≤ 384 → length before ≤ 1
    → length (part_bytes (parts_of units i (record { split = split; samples = samples }) before) contexts) ≤ 398
unit_parts true units i samples before contexts short few =
    four_parts
    (record { bins = before ++ (split_word units i true ++ whole_word); samples = quarter_of samples 0 })
    (record { bins = whole_word; samples = quarter_of samples 1 })
    (record { bins = whole_word; samples = quarter_of samples 2 })
    (record { bins = whole_word; samples = quarter_of samples 3 })
    contexts 1
    (omega (arith, length-append before (split_word units i true ++ whole_word)))
    (omega arith) (omega arith) (omega arith) (quarter_short samples 0) (quarter_short samples 1)
    (quarter_short samples 2) (quarter_short samples 3)
unit_parts false units i samples before contexts short few =
    let p : Part = record { bins = before ++ split_word units i false; samples = samples } in
    omega (
      arith,
      length-append before (split_word units i false),
      part_of_bytes p contexts 2 384 (omega (arith, length-append before (split_word units i false))) short,
      length-append (bytes_of_part p contexts) [],
    )

-- each unit has no more samples than are drawn, and so has one that isn't there
samples_short : (units : List PcmUnit) → All (λ (u : PcmUnit). length u.samples ≤ 384) units → (i : ℕ)
    → length (get_or units i no_samples).samples ≤ 384
samples_short units short i =
    elim (cases_lt i (length units)) [
      | inl inside ↦ short i no_samples inside
      | inr past ↦ rw (get_or_past units i no_samples past) (omega arith)
    ]

parts_short : (units : List PcmUnit) → All (λ (u : PcmUnit). length u.samples ≤ 384) units → (n i : ℕ) (before : Bins)
    (contexts : List ℕ)
    → length before ≤ 1 → length (part_bytes (parts_from units i n before) contexts) ≤ 398 * n
unfolding parts_from
parts_short units short zero i before contexts few = omega arith
parts_short units short (suc n) i before contexts few =
    let u : PcmUnit = get_or units i no_samples in
    let first : List Part = parts_of units i u before in
    omega (
      arith,
      part_bytes-append first (parts_from units (i + 1) n (end_words i)) contexts,
      unit_parts u.split units i u.samples before contexts (samples_short units short i) few,
      parts_short units short n (i + 1) (end_words i) (contexts_behind_parts first contexts) (end_short i),
    )

pub pcm_short : (units : List PcmUnit) (r : ℕ) → All (λ (u : PcmUnit). length u.samples ≤ 384) units
    → length (pcm_row units r) ≤ 3200
unfolding pcm_row row_bytes
pcm_short units r short =
    let contexts : List ℕ = pcm_contexts_at units r in
    let parts : List Part = parts_from units (8 * r) 8 [] in
    omega (
      arith,
      length-append (part_bytes parts contexts)
          (section_bytes (end_words (8 * r + 7)) (contexts_behind_parts parts contexts)),
      parts_short units short 8 (8 * r) [] contexts (omega arith),
      section_short (end_words (8 * r + 7)) (contexts_behind_parts parts contexts),
      end_short (8 * r + 7),
    )

-- ---- units that are drawn

drawn_samples : (n : ℕ) (g : Lcg) → length (draws n g).0 ≡ n
unfolding draws
drawn_samples zero g = refl
drawn_samples (suc n) g = ap suc (drawn_samples n _)

pub unit_samples : (g : Lcg) → length (pcm_unit_of g).0.samples ≡ 384
unfolding pcm_unit_of
unit_samples g = length-map (draws 384 _).0 low_bits ∙ drawn_samples 384 _

pub units_drawn : (n : ℕ) (g : Lcg) → All (λ (u : PcmUnit). length u.samples ≤ 384) (all_of pcm_unit_of n g).0
unfolding all_of
units_drawn zero g = All-nil (λ (u : PcmUnit). length u.samples ≤ 384)
units_drawn (suc n) g =
    All-cons (λ (u : PcmUnit). length u.samples ≤ 384) (pcm_unit_of g).0 (all_of pcm_unit_of n (pcm_unit_of g).1).0
    (omega (arith, unit_samples g)) (units_drawn n (pcm_unit_of g).1)
