-- Where a row's bytes begin and end.
use Rattle.std.proofs.Common.{◌≡◌, ℕ, zero, suc, ◌+◌, ◌-◌, ◌*◌, ◌/◌, ◌%◌, ◌<◌, ◌≤◌, Bool, true, false, not, List, []}
use Rattle.std.proofs.Common.{◌∷◌, ◌++◌, length, drop, replicate, Some, refl, sym, ap, subst, ◌∙◌, arith, inl, inr}
use Rattle.std.proofs.Common.{length-append, append-nil}
use Rattle.std.specs.List.{list_all}
use Rattle.std.proofs.lemmas.Bool.{cases_lt, le-leb}
use Rattle.std.proofs.lemmas.List.{length-drop, length-replicate}
use Rattle.std.proofs.lemmas.Option.{none-some}
use Rattle.spec_bits.specs.Bits.{bits, number_of}
use Rattle.spec_bits.specs.Spelling.{u_bits}
use Rattle.spec_bits.proofs.Bytes.{bits-cons, bits-nil}
use Rattle.spec_bits.proofs.Digits.{u_bits-number_of, u_at-short}
use Rattle.spec_bits.proofs.Places.{length-bits}
use Rattle.spec_cabac.specs.Engine.{Engine, start_at, started_at, number_at, is_stop, is_trailing}
use Rattle.cabac_writer.specs.Coding.{no_bins, coded_bits, filling, with_terminate, with_words, AreContexts}
use Rattle.cabac_writer.specs.Pulses.{Pulses, section_bits, substream_bits, substream_words, last_contexts}
use Rattle.cabac_writer.specs.Pulses.{MayBeWritten, IsSubstream, sample_bits}
use Rattle.cabac_writer.proofs.Substreams.{substreams_law}
use Rattle.spec_slice_data.specs.Segment.{ends_rightly}
use Rattle.spec_made.specs.Written.{Bins, bytes_of, section_bytes}
use Rattle.made_row_laws.specs.Rows.{HasWords}
use Rattle.made_row_laws.specs.Words.{pulses_of}

-- bits that fill bytes are those of their bytes
bits_back : (written : List Bool) → length written % 8 ≡ 0 → bits (bytes_of written) ≡ written
unfolding bytes_of
bits_back (a ∷ b ∷ c ∷ d ∷ e ∷ f ∷ g ∷ h ∷ written) whole =
    let byte : List Bool = a ∷ b ∷ c ∷ d ∷ e ∷ f ∷ g ∷ h ∷ [] in
    bits-cons (number_of byte) (bytes_of written)
    ∙ ap (λ l. l ++ bits (bytes_of written)) (u_bits-number_of byte)
    ∙ ap (λ l. byte ++ l) (bits_back written (omega arith))
bits_back [] whole = bits-nil
bits_back (a ∷ []) whole = absurd (omega arith)
bits_back (a ∷ b ∷ []) whole = absurd (omega arith)
bits_back (a ∷ b ∷ c ∷ []) whole = absurd (omega arith)
bits_back (a ∷ b ∷ c ∷ d ∷ []) whole = absurd (omega arith)
bits_back (a ∷ b ∷ c ∷ d ∷ e ∷ []) whole = absurd (omega arith)
bits_back (a ∷ b ∷ c ∷ d ∷ e ∷ f ∷ []) whole = absurd (omega arith)
bits_back (a ∷ b ∷ c ∷ d ∷ e ∷ f ∷ g ∷ []) whole = absurd (omega arith)

filled : (n : ℕ) → (n + filling n) % 8 ≡ 0
filled n = omega arith

section_whole : (bins : Bins) (contexts : List ℕ) → length (section_bits bins contexts) % 8 ≡ 0
unfolding section_bits
section_whole bins contexts =
    let coded : List Bool = coded_bits (with_terminate (with_words (no_bins, contexts) bins).0 true) in
    let n : ℕ = length coded in
    let long : length (coded ++ replicate (filling n) false) ≡ n + filling n =
    length-append coded (replicate (filling n) false) ∙ ap (λ k. n + k) (length-replicate (filling n) false) in
    rw long (filled n)

pub section_back : (bins : Bins) (contexts : List ℕ) → bits (section_bytes bins contexts) ≡ section_bits bins contexts
section_back bins contexts = bits_back (section_bits bins contexts) (section_whole bins contexts)

pub samples_back : (values : List ℕ) → bits values ≡ sample_bits (pulses_of values)
samples_back [] = bits-nil
samples_back (v ∷ values) = bits-cons v values ∙ ap (λ l. u_bits 8 v ++ l) (samples_back values)

-- ---- the end of a row

zeros_pass : (n : ℕ) → list_all not (replicate n false) ≡ true
zeros_pass zero = refl
zeros_pass (suc n) = zeros_pass n

long_enough : (read : List Bool) (first : Engine) → start_at read ≡ Some first → 9 ≤ length read
unfolding started_at number_at
long_enough read first is =
    elim (cases_lt (length read) 9) [
      | inl short ↦ absurd (none-some first (sym (let e = u_at-short 9 read short in rw e refl) ∙ is))
      | inr enough ↦ omega arith
    ]

trailing : (e : Engine) (zeros : ℕ) → drop (e.at - 1) e.bits ≡ true ∷ replicate zeros false → is_trailing e ≡ true
unfolding is_trailing
trailing e zeros stop = ap is_stop stop ∙ zeros_pass zeros

short_enough : (e : Engine) (n zeros : ℕ) → length e.bits ≡ 8 * n → 9 ≤ length e.bits → zeros < 8
    → drop (e.at - 1) e.bits ≡ true ∷ replicate zeros false
    → length e.bits ≤ 8 * ((e.at + 7) / 8)
short_enough e n zeros whole long few stop =
    let left : length e.bits - (e.at - 1) ≡ 1 + zeros =
    omega (arith, length-drop (e.at - 1) e.bits, ap length stop, length-replicate zeros false) in
    omega arith

rightly : (e : Engine) → is_trailing e ≡ true → length e.bits ≤ 8 * ((e.at + 7) / 8) → ends_rightly false e ≡ true
rightly e trails short = let b = le-leb (length e.bits) (8 * ((e.at + 7) / 8)) short in rw (trails, b) refl

-- ---- a substream that stands alone

pub words_there : (bytes : List ℕ) (bins : Bins) (pulses : List Pulses) (contexts : List ℕ)
    → MayBeWritten bins pulses → AreContexts contexts → bits bytes ≡ substream_bits bins pulses contexts
    → HasWords bytes (substream_words bins pulses) contexts
words_there bytes bins pulses contexts may small is =
    let s : IsSubstream bins pulses contexts [] [] = substreams_law bins pulses contexts [] [] may small refl in
    let same : substream_bits bins pulses contexts ++ [] ≡ bits bytes =
    append-nil (substream_bits bins pulses contexts) ∙ sym is in
    let started : start_at (bits bytes) ≡ Some s.first =
    subst (λ (l : List Bool). start_at l ≡ Some s.first) same (s.started 510 0) in
    let all : s.behind.bits ≡ bits bytes = s.bits ∙ same in
    let stop : drop (s.behind.at - 1) s.behind.bits ≡ true ∷ replicate s.zeros false =
    s.stop ∙ ap (λ l. true ∷ l) (append-nil (replicate s.zeros false)) in
    let long : 9 ≤ length s.behind.bits = omega (arith, ap length all, long_enough (bits bytes) s.first started) in
    let whole : length s.behind.bits ≡ 8 * length bytes = ap length all ∙ length-bits bytes in
    record {
      first = s.first;
      last = s.behind;
      behind = last_contexts bins pulses contexts;
      started = started;
      has = s.has;
      ends =
          rightly s.behind (trailing s.behind s.zeros stop)
          (short_enough s.behind (length bytes) s.zeros whole long s.few stop);
    }
