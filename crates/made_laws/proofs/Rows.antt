-- The rows that are written: each ends in a byte other than 00, and has few bytes.
use Rattle.std.proofs.Common.{◌≡◌, ℕ, suc, ◌+◌, ◌*◌, ◌-◌, ◌/◌, ◌%◌, ◌^◌, ◌≤◌, Bool, true, false, List, [], ◌∷◌}
use Rattle.std.proofs.Common.{◌++◌}
use Rattle.std.proofs.Common.{length, replicate, sym, ap, subst, ◌∙◌, arith, append_assoc, cond}
use Rattle.std.specs.Prelude.{nat_lt, ◌==◌}
use Rattle.std.proofs.lemmas.List.{length-append, length-replicate}
use Rattle.std.proofs.lemmas.List.Sums.{count_by-le-length}
use Rattle.spec_bits.specs.Bits.{bit_of}
use Rattle.spec_bits.proofs.Bytes.{u_bits-add}
use Rattle.spec_bits.specs.Spelling.{u_bits}
use Rattle.spec_bits.proofs.Digits.{length-u_bits}
use Rattle.spec_cabac.specs.Bins.{Decision, Bypass, Terminate, PcmStart, Sample, PcmEnd, Bin, BinValue}
use Rattle.spec_cabac.specs.Engine.{doublings}
use Rattle.spec_formats.specs.Format.{Word}
use Rattle.cabac_writer.specs.Coding.{Coding, Writing, coded_bits, filling, flushed_bits, is_mps, no_bins}
use Rattle.cabac_writer.specs.Coding.{with_bypass}
use Rattle.cabac_writer.specs.Coding.{with_decision, with_terminate, with_word, with_words}
use Rattle.cabac_writer.specs.Pulses.{section_bits}
use Rattle.cabac_writer.proofs.ReadBack.{length_coded}
use Rattle.spec_made.specs.Written.{Bins, bytes_of, section_bytes}
use Rattle.made_laws.proofs.Bytes.{EndsInSome, bytes_end, length-bytes_of}

-- ---- what a bin adds

-- so many more bits at most, and no fewer
record Grows (n before after : ℕ) : Type 0 where
  pub least : before ≤ after
  pub most : after ≤ before + n

few_doublings : (range : ℕ) → doublings range ≤ 8
unfolding doublings
few_doublings range = count_by-le-length (λ t. nat_lt range t) (256 ∷ 128 ∷ 64 ∷ 32 ∷ 16 ∷ 8 ∷ 4 ∷ 2 ∷ [])

doubled : (range size : ℕ) → Grows 8 size (size + doublings range)
doubled range size = record { least = omega arith; most = omega (arith, few_doublings range) }

either : (test : Bool) (size : ℕ) (c d : Coding) → Grows 8 size c.size → Grows 8 size d.size
    → Grows 8 size (cond {A = Coding} test c d).size
either true size c d gc gd = gc
either false size c d gc gd = gd

decided : (c : Coding) (context : ℕ) (bin : Bool) → Grows 8 c.size (with_decision c context bin).size
unfolding with_decision
decided c context bin = either (is_mps context bin) c.size _ _ (doubled _ c.size) (doubled _ c.size)

grown : (s : Writing) (w : Word Bin BinValue) → Grows 8 s.0.size (with_word s w).0.size
unfolding with_word with_bypass with_terminate
grown s (Decision i, bin) = decided s.0 _ bin
grown s (Bypass, bin) = record { least = omega arith; most = omega arith }
grown s (Terminate, true) = record { least = omega arith; most = omega arith }
grown s (Terminate, false) = doubled _ s.0.size
grown s (PcmStart, x) = record { least = omega arith; most = omega arith }
grown s (Sample size, x) = record { least = omega arith; most = omega arith }
grown s (PcmEnd, x) = record { least = omega arith; most = omega arith }

all_grown : (s : Writing) (words : Bins) → Grows (8 * length words) s.0.size (with_words s words).0.size
all_grown s [] = record { least = omega arith; most = omega arith }
all_grown s (w ∷ words) =
    let first = grown s w in
    let later = all_grown (with_word s w) words in
    record { least = omega (arith, first.least, later.least); most = omega (arith, first.most, later.most) }

-- ---- the bytes of bins

-- bytes that end so, and how many they are at most
pub record IsRow (most : ℕ) (bytes : List ℕ) : Type 0 where
  pub ends : EndsInSome bytes
  pub few : length bytes ≤ most

last_bit : (low : ℕ) → bit_of (2 * (low / 2) + 1) 0 ≡ true
unfolding bit_of
last_bit low = ap (λ n. n == 1) (let e : (2 * (low / 2) + 1) / 1 % 2 ≡ 1 = omega arith in e)

one_bit : (low : ℕ) → u_bits 1 (2 * (low / 2) + 1) ≡ true ∷ []
unfolding u_bits
one_bit low = ap (λ b. b ∷ []) (last_bit low)

coded_split : (c : Coding) → 1 ≤ c.size
    → coded_bits c ≡ u_bits (c.size - 1) ((2 * (c.low / 2) + 1) / 2 ^ 1) ++ true ∷ []
unfolding coded_bits
coded_split c some =
    let e : c.size ≡ c.size - 1 + 1 = omega arith in
    ap (λ k. u_bits k (2 * (c.low / 2) + 1)) e ∙ u_bits-add (c.size - 1) 1 (2 * (c.low / 2) + 1)
    ∙ ap (λ l. u_bits (c.size - 1) ((2 * (c.low / 2) + 1) / 2 ^ 1) ++ l) (one_bit c.low)

-- a coding of some bits
flushed : (c : Coding) → 1 ≤ c.size → IsRow (c.size / 8 + 1) (bytes_of (flushed_bits c))
flushed c some =
    let front : List Bool = u_bits (c.size - 1) ((2 * (c.low / 2) + 1) / 2 ^ 1) in
    let k : ℕ = filling (length (coded_bits c)) in
    let is : flushed_bits c ≡ front ++ true ∷ replicate k false =
    ap (λ l. l ++ replicate k false) (coded_split c some) ∙ append_assoc front (true ∷ []) (replicate k false) in
    let long : length front ≡ c.size - 1 = length-u_bits (c.size - 1) ((2 * (c.low / 2) + 1) / 2 ^ 1) in
    let zeros : k ≡ (8 - c.size % 8) % 8 = ap filling (length_coded c) in
    let n : ℕ = (c.size + k) / 8 - 1 in
    let whole : length front + suc k ≡ 8 * suc n = omega (arith, long, zeros) in
    let all : length (front ++ true ∷ replicate k false) ≡ 8 * suc n =
    omega (arith, whole, length-append front (true ∷ replicate k false), length-replicate k false) in
    let count = length-bytes_of (suc n) (front ++ true ∷ replicate k false) all in
    record {
      ends = subst (λ b. EndsInSome (bytes_of b)) (sym is) (bytes_end n front k (omega (arith, zeros)) whole);
      few = omega (arith, ap (λ b. length (bytes_of b)) is, count, zeros);
    }

-- bins are at most so many bytes and end in another byte than 00
pub section_is : (bins : Bins) (contexts : List ℕ) → IsRow (length bins + 3) (section_bytes bins contexts)
unfolding section_bits with_terminate
section_is bins contexts =
    let s : Writing = with_words (no_bins, contexts) bins in
    let g = all_grown (no_bins, contexts) bins in
    let r = flushed (with_terminate s.0 true) (omega (arith, g.least)) in
    record { ends = r.ends; few = omega (arith, r.few, g.most) }
