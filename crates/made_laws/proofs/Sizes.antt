-- How many bins and bytes the rows have.
use Rattle.std.proofs.Common.{◌≡◌, ℕ, zero, suc, ◌+◌, ◌*◌, ◌-◌, ◌≤◌, Bool, true, false, List, [], ◌∷◌, ◌++◌}
use Rattle.std.proofs.Common.{length, map, drop, replicate, refl, sym, ap, append_assoc, ◌∙◌, arith, Some}
use Rattle.std.proofs.Common.{None, Option, cond}
use Rattle.std.specs.Prelude.{get_or, nat_lt, nat_le, ◌==◌}
use Rattle.std.proofs.lemmas.List.{length-append, length-replicate, length-take}
use Rattle.std.proofs.lemmas.List.Sums.{count_by-le-length}
use Rattle.rand_pcg.specs.Lcg.{Lcg}
use Rattle.spec_bits.specs.Spelling.{u_bits}
use Rattle.spec_bits.proofs.Digits.{length-u_bits}
use Rattle.spec_cabac.specs.Bins.{Bin, BinValue, Bypass, Terminate}
use Rattle.spec_formats.specs.Format.{Word}
use Rattle.spec_made.specs.declared.units.InterUnit.{InterUnit}
use Rattle.spec_made.specs.declared.units.Motion.{Motion}
use Rattle.spec_made.specs.declared.units.PcmUnit.{PcmUnit}
use Rattle.spec_made.specs.declared.units.Shift.{Shift}
use Rattle.spec_made.specs.Draws.{all_of, draws, low_bits, pcm_unit_of, pcm_units_of}
use Rattle.spec_made.specs.InterRows.{bypasses, coded_words, contexts_at, contexts_of_motion, end_words, inter_row}
use Rattle.spec_made.specs.InterRows.{beside, list_words, log_of, moves, part_words, quarter_words, second_words}
use Rattle.spec_made.specs.InterRows.{size_of}
use Rattle.spec_made.specs.InterRows.{size_words, unit_words, vector_words, where_moves, words_at, words_from}
use Rattle.rand_pcg.specs.Pcg.{pcg32}
use Rattle.cabac_writer.specs.Pulses.{contexts_behind}
use Rattle.spec_made.specs.PcmRows.{Part, bytes_of_part, contexts_behind_parts, later_part, no_samples, part_bytes}
use Rattle.spec_made.specs.PcmRows.{parts_from, parts_of, pcm_contexts_at, pcm_row, quarter_of, row_bytes}
use Rattle.spec_made.specs.PcmRows.{split_parts}
use Rattle.spec_made.specs.PcmRows.{whole_part, whole_word}
use Rattle.spec_made.specs.Written.{Bins, section_bytes}
use Rattle.made_laws.proofs.Bytes.{more_before}
use Rattle.made_laws.proofs.Rows.{IsRow, section_is}

-- so many bins at most
record Few (n : ℕ) (words : Bins) : Type 0 where
  pub most : length words ≤ n

both : (a b : ℕ) (x y : Bins) → Few a x → Few b y → Few (a + b) (x ++ y)
both a b x y p q = record { most = omega (arith, p.most, q.most, length-append x y) }

one : (w : Word Bin BinValue) → Few 1 (w ∷ [])
one w = record { most = omega arith }

none : (n : ℕ) → Few n []
none n = record { most = omega arith }

cons : (n : ℕ) (w : Word Bin BinValue) (x : Bins) → Few n x → Few (suc n) (w ∷ x)
cons n w x p = record { most = omega (arith, p.most) }

more : (a b : ℕ) (x : Bins) → a ≤ b → Few a x → Few b x
more a b x h p = record { most = omega (arith, h, p.most) }

few_digits : (d : ℕ) → log_of (size_of d) ≤ 9
few_digits d =
    count_by-le-length (λ t. nat_le t (size_of d)) (2 ∷ 4 ∷ 8 ∷ 16 ∷ 32 ∷ 64 ∷ 128 ∷ 256 ∷ 512 ∷ [])

bypass_count : (bins : List Bool) → length (bypasses bins) ≡ length bins
bypass_count [] = refl
bypass_count (b ∷ bins) = ap suc (bypass_count bins)

few_ones : (n : ℕ) → Few n (bypasses (replicate n true))
few_ones n = record { most = omega (arith, bypass_count (replicate n true), length-replicate n true) }

few_bits : (n value : ℕ) → Few n (bypasses (u_bits n value))
few_bits n value = record { most = omega (arith, bypass_count (u_bits n value), length-u_bits n value) }

-- ---- P and B pictures

few_size : (d : ℕ) → Few 20 (size_words d)
unfolding size_words
few_size d =
    let log : ℕ = log_of (size_of d) in
    let ones = more (log - 1) 8 _ (omega (arith, few_digits d)) (few_ones (log - 1)) in
    let digits = more log 9 _ (few_digits d) (few_bits log (size_of d)) in
    let sign : Word Bin BinValue = (Bypass, nat_lt d 100) in
    more 19 20 _ (omega arith) (both 18 1 _ _ (both 8 10 _ _ ones (cons 9 (Bypass, false) _ digits)) (one sign))

when_few : (test : Bool) (n : ℕ) (words : Bins) → Few n words → Few n (cond {A = Bins} test words [])
when_few true n words few = few
when_few false n words few = none n

few_moves : (d n : ℕ) (words : Bins) → Few n words → Few n (where_moves d words)
few_moves d n words few = when_few (moves d) n words few

few_vector : (s : Shift) → Few 45 (vector_words s)
unfolding vector_words
few_vector s =
    cons 44 _ _ (cons 43 _ _ (both 1 42 _ _ (few_moves s.across 1 _ (one _))
    (both 1 41 _ _ (few_moves s.down 1 _ (one _))
    (both 20 21 _ _ (few_moves s.across 20 _ (few_size s.across))
    (both 20 1 _ _ (few_moves s.down 20 _ (few_size s.down)) (one _))))))

few_lists : (depth : ℕ) (second : Option Shift) → Few 1 (list_words depth second)
few_lists depth None = none 1
few_lists depth (Some s) = one _

few_second : (second : Option Shift) → Few 45 (second_words second)
few_second None = none 45
few_second (Some s) = few_vector s

few_coded : (depth : ℕ) (m : Motion) → Few 95 (coded_words depth m)
unfolding coded_words
few_coded depth m =
    cons 94 _ _ (cons 93 _ _ (cons 92 _ _ (both 1 91 _ _ (few_lists depth m.second)
    (both 45 46 _ _ (few_vector m.first) (both 45 1 _ _ (few_second m.second) (one _))))))

either_few : (test : Bool) (n : ℕ) (x y : Bins) → Few n x → Few n y → Few n (cond {A = Bins} test x y)
either_few true n x y p q = p
either_few false n x y p q = q

few_part : (depth beside : ℕ) (skipped : Bool) (m : Motion) → Few 96 (part_words depth beside skipped m)
unfolding part_words
few_part depth beside skipped m = cons 95 _ _ (either_few skipped 95 [] _ (none 95) (few_coded depth m))

few_quarters : (first later : Motion) (left above u : InterUnit) → Few 384 (quarter_words first later left above u)
few_quarters first later left above u =
    both 96 288 _ _ (few_part _ _ _ first)
    (both 96 192 _ _ (few_part _ _ _ later) (both 96 96 _ _ (few_part _ _ _ later) (few_part _ _ _ later)))

few_unit : (first later : Motion) (left above u : InterUnit) → Few 385 (unit_words first later left above u)
unfolding unit_words
few_unit first later left above u =
    cons 384 _ _ (either_few u.split 384 _ _ (few_quarters first later left above u)
    (more 96 384 _ (omega arith) (few_part _ _ _ first)))

few_end : (i : ℕ) → Few 1 (end_words i)
few_end i = either_few (i == 47) 1 [] _ (none 1) (one (Terminate, false))

few_at : (m : Motion) (units : List InterUnit) (i : ℕ) → Few 386 (words_at m units i)
unfolding words_at
few_at m units i = both 385 1 _ _ (few_unit _ _ _ _ _) (few_end i)

few_from : (m : Motion) (units : List InterUnit) (i n : ℕ) → Few (386 * n) (words_from m units i n)
unfolding words_from
few_from m units i zero = none (386 * 0)
few_from m units i (suc n) =
    more (386 + 386 * n) (386 * suc n) _ (omega arith)
    (both 386 (386 * n) _ _ (few_at m units i) (few_from m units (i + 1) n))

-- a row of a P or B picture
pub inter_row_is : (m : Motion) (units : List InterUnit) (r : ℕ) → IsRow 10000 (inter_row m units r)
unfolding inter_row
inter_row_is m units r =
    let s = section_is (words_from m units (8 * r) 8) (contexts_at (contexts_of_motion m) m units r) in
    record { ends = s.ends; few = omega (arith, s.few, (few_from m units (8 * r) 8).most) }

-- ---- IDR pictures

-- so many bytes at most, from any contexts
record FewBytes (n : ℕ) (parts : List Part) : Type 0 where
  pub most : (contexts : List ℕ) → length (part_bytes parts contexts) ≤ n

part_bytes-append : (parts later : List Part) (contexts : List ℕ)
    → part_bytes (parts ++ later) contexts
    ≡ part_bytes parts contexts ++ part_bytes later (contexts_behind_parts parts contexts)
part_bytes-append [] later contexts = refl
part_bytes-append (p ∷ parts) later contexts =
    let behind : List ℕ = contexts_behind p.bins contexts in
    ap (λ l. bytes_of_part p contexts ++ l) (part_bytes-append parts later behind)
    ∙ sym (append_assoc (bytes_of_part p contexts) (part_bytes parts behind)
    (part_bytes later (contexts_behind_parts parts behind)))

both_parts : (a b : ℕ) (parts later : List Part) → FewBytes a parts → FewBytes b later
    → FewBytes (a + b) (parts ++ later)
both_parts a b parts later p q = record {
  most = λ contexts. omega (
    arith,
    ap length (part_bytes-append parts later contexts),
    p.most contexts,
    q.most (contexts_behind_parts parts contexts),
    length-append (part_bytes parts contexts) (part_bytes later (contexts_behind_parts parts contexts)),
  );
}

one_part : (a b : ℕ) (bins : Bins) (samples : List ℕ) → Few a bins → length samples ≤ b
    → FewBytes (a + 3 + b) (record { bins = bins; samples = samples } ∷ [])
one_part a b bins samples p q = record {
  most = λ contexts. omega (
    arith,
    p.most,
    q,
    (section_is bins contexts).few,
    length-append (section_bytes bins contexts) samples,
    length-append (section_bytes bins contexts ++ samples) [],
  );
}

few_quarter : (samples : List ℕ) (q : ℕ) → length (quarter_of samples q) ≤ 96
few_quarter samples q = omega (arith, length-take 96 (drop (96 * q) samples))

few_later : (samples : List ℕ) (q : ℕ) → FewBytes 100 (later_part samples q ∷ [])
few_later samples q = one_part 1 96 whole_word (quarter_of samples q) (one _) (few_quarter samples q)

few_split : (units : List PcmUnit) (i : ℕ) (u : PcmUnit) (before : Bins) → Few 1 before
    → FewBytes 402 (split_parts units i u before)
few_split units i u before p =
    both_parts 102 300 (_ ∷ []) _
    (one_part 3 96 _ (quarter_of u.samples 0) (both 1 2 _ _ p (both 1 1 _ _ (one _) (one _))) (few_quarter u.samples 0))
    (both_parts 100 200 (_ ∷ []) _ (few_later u.samples 1)
    (both_parts 100 100 (_ ∷ []) _ (few_later u.samples 2) (few_later u.samples 3)))

few_whole : (units : List PcmUnit) (i : ℕ) (u : PcmUnit) (before : Bins) → Few 1 before → length u.samples ≤ 384
    → FewBytes 389 (whole_part units i u before ∷ [])
few_whole units i u before p q = one_part 2 384 _ u.samples (both 1 1 _ _ p (one _)) q

either_parts : (test : Bool) (n : ℕ) (x y : List Part) → FewBytes n x → FewBytes n y
    → FewBytes n (cond {A = List Part} test x y)
either_parts true n x y p q = p
either_parts false n x y p q = q

more_bytes : (a b : ℕ) (x : List Part) → a ≤ b → FewBytes a x → FewBytes b x
more_bytes a b x h p = record { most = λ contexts. omega (arith, h, p.most contexts) }

-- the samples of a unit
abbrev HaveFew : List PcmUnit → Type 0
HaveFew units = (i : ℕ) → length (get_or units i no_samples).samples ≤ 384

few_parts : (units : List PcmUnit) (i : ℕ) (before : Bins) → Few 1 before → HaveFew units
    → FewBytes 402 (parts_of units i (get_or units i no_samples) before)
few_parts units i before p few =
    let u : PcmUnit = get_or units i no_samples in
    either_parts u.split 402 _ _ (few_split units i u before p)
    (more_bytes 389 402 _ (omega arith) (few_whole units i u before p (few i)))

few_parts_from : (units : List PcmUnit) (i n : ℕ) (before : Bins) → Few 1 before → HaveFew units
    → FewBytes (402 * n) (parts_from units i n before)
unfolding parts_from
few_parts_from units i zero before p few = record { most = λ contexts. omega arith }
few_parts_from units i (suc n) before p few =
    more_bytes (402 + 402 * n) (402 * suc n) _ (omega arith)
    (both_parts 402 (402 * n) _ _ (few_parts units i before p few)
    (few_parts_from units (i + 1) n (end_words i) (few_end i) few))

row_is : (units : List PcmUnit) (r : ℕ) (contexts : List ℕ) → HaveFew units → IsRow 10000 (row_bytes units r contexts)
unfolding row_bytes
row_is units r contexts few =
    let parts : List Part = parts_from units (8 * r) 8 [] in
    let behind : List ℕ = contexts_behind_parts parts contexts in
    let s = section_is (end_words (8 * r + 7)) behind in
    record {
      ends = more_before (part_bytes parts contexts) _ s.ends;
      few =
          omega (
            arith,
            s.few,
            (few_end (8 * r + 7)).most,
            (few_parts_from units (8 * r) 8 [] (none 1) few).most contexts,
            length-append (part_bytes parts contexts) (section_bytes (end_words (8 * r + 7)) behind),
          );
    }

-- ---- the samples that are drawn

length-draws : (n : ℕ) (g : Lcg) → length (draws n g).0 ≡ n
unfolding draws
length-draws zero g = refl
length-draws (suc n) g = ap suc (length-draws n (pcg32 g).1)

length-low : (words : List ℕ) → length (map low_bits words) ≡ length words
length-low [] = refl
length-low (w ∷ words) = ap suc (length-low words)

drawn_few : (g : Lcg) → length (pcm_unit_of g).0.samples ≤ 384
unfolding pcm_unit_of
drawn_few g =
    let e = length-draws 384 (pcg32 g).1 in
    omega (arith, length-low (draws 384 (pcg32 g).1).0, e)

all_few : (n : ℕ) (g : Lcg) → HaveFew (all_of pcm_unit_of n g).0
unfolding all_of
all_few zero g i = omega arith
all_few (suc n) g zero = drawn_few g
all_few (suc n) g (suc i) = all_few n (pcm_unit_of g).1 i

-- a row of an IDR picture that is drawn
pub pcm_row_is : (g : Lcg) (r : ℕ) → IsRow 10000 (pcm_row (pcm_units_of g).0 r)
unfolding pcm_row
pcm_row_is g r =
    let units : List PcmUnit = (pcm_units_of g).0 in
    row_is units r (pcm_contexts_at units r) (all_few 48 g)
