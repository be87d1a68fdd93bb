-- What is flushed, and how it is read where it is a substream by itself.
use Rattle.std.proofs.Common.{◌≡◌, ℕ, suc, zero, ◌+◌, ◌-◌, ◌*◌, ◌/◌, ◌%◌, ◌^◌, ◌≤◌, Bool, true, false, not, List, []}
use Rattle.std.proofs.Common.{◌∷◌}
use Rattle.std.proofs.Common.{◌++◌, length, replicate, Some, refl, sym, ap, subst, ◌∙◌, arith}
use Rattle.std.specs.List.{list_all}
use Rattle.spec_bits.specs.Bits.{bits}
use Rattle.spec_formats.specs.Format.{Word}
use Rattle.spec_cabac.specs.Bins.{Bin, BinValue}
use Rattle.spec_cabac.specs.Engine.{start_at, is_stop, is_trailing}
use Rattle.cabac_writer.specs.Coding.{Coding, no_bins, coded_bits, filling, flushed_bits, bits_of, with_words}
use Rattle.cabac_writer.specs.Coding.{with_terminate, AreInner, AreContexts}
use Rattle.cabac_writer.specs.Flushed.{HaveBins, HaveAllBins}
use Rattle.cabac_writer.specs.Held.{coding_of, IsHeld}
use Rattle.cabac_writer.proofs.Held.{flushed}
use Rattle.cabac_writer.proofs.ReadBack.{read_back, read_open, length_coded}

filled : (n count : ℕ) → 9 ≤ count → count ≤ 16 → filling (8 * n + count) ≡ 16 - count
filled n count few many = omega arith

-- the bytes' bits, with zeros by the length of what is coded
pub flushed_whole : (bytes all : List ℕ) (range low count t : ℕ) → IsHeld bytes range low count
    → t ≡ (low / 2 * 2 + 1) * 2 ^ (16 - count) % 4294967296
    → all ≡ (bytes ++ t / 256 ∷ []) ++ t % 256 ∷ []
    → bits all ≡ flushed_bits (coding_of bytes range low count)
flushed_whole bytes all range low count t is t_is items =
    let c : Coding = coding_of bytes range low count in
    let zeros : filling (length (coded_bits c)) ≡ 16 - count =
    ap filling (length_coded c) ∙ filled (length bytes) count is.few is.many in
    flushed bytes all range low count t is t_is items ∙ ap (λ k. coded_bits c ++ replicate k false) (sym zeros)

zeros_pass : (n : ℕ) → list_all not (replicate n false) ≡ true
zeros_pass zero = refl
zeros_pass (suc n) = zeros_pass n

stop_is_trailing : (n : ℕ) → is_stop (true ∷ replicate n false) ≡ true
stop_is_trailing n = zeros_pass n

pub all_bins : (given : List Bool) (c : Coding) → given ≡ flushed_bits c → (words : List (Word Bin BinValue))
    (contexts : List ℕ) → AreInner words → AreContexts contexts
    → c ≡ with_terminate (with_words (no_bins, contexts) words).0 true
    → HaveAllBins given words contexts
unfolding is_trailing
all_bins given c whole words contexts inner small written =
    let zeros : List Bool = replicate (filling (length (bits_of words contexts))) false in
    let r = read_back words contexts [] zeros inner small in
    let is : bits_of words contexts ++ zeros ≡ given = sym (whole ∙ ap flushed_bits written) in
    record {
      first = r.first;
      behind = r.behind;
      started = subst (λ (b : List Bool). start_at b ≡ Some r.first) is (r.started 510 0);
      has = r.has;
      trailing = ap is_stop r.stop ∙ stop_is_trailing (filling (length (bits_of words contexts)));
    }

pub open_bins : (given : List Bool) (c : Coding) → given ≡ flushed_bits c → (words : List (Word Bin BinValue))
    (contexts : List ℕ) → AreInner words → AreContexts contexts → c ≡ (with_words (no_bins, contexts) words).0
    → HaveBins given words contexts
open_bins given c whole words contexts inner small written =
    let coded : List Bool = coded_bits (with_words (no_bins, contexts) words).0 in
    let zeros : List Bool = replicate (filling (length coded)) false in
    let r = read_open words contexts [] zeros inner small in
    let is : coded ++ zeros ≡ given = sym (whole ∙ ap flushed_bits written) in
    record {
      first = r.first;
      behind = r.behind;
      started = subst (λ (b : List Bool). start_at b ≡ Some r.first) is (r.started 510 0);
      has = r.has;
    }
