-- What was written is read again, bin after bin.
use Rattle.std.proofs.Common.{◌≡◌, ℕ, ◌+◌, ◌-◌, ◌*◌, ◌/◌, ◌%◌, ◌^◌, ◌<◌, ◌≤◌, Bool, true, false, cond, List, []}
use Rattle.std.proofs.Common.{◌∷◌, ◌++◌, length, take, drop, Some, Ok, refl, sym, ap, subst, ◌∙◌}
use Rattle.std.proofs.Common.{arith, inl, inr}
use Rattle.std.specs.Prelude.{slice_index, slice_set, ◌==◌, min, if◌then◌else◌}
use Rattle.std.proofs.Math.Nat.{add-mul}
use Rattle.std.proofs.lemmas.Nat.{pow-add, mul-le}
use Rattle.std.proofs.lemmas.Bool.{cases_eq, cases_lt}
use Rattle.std.proofs.lemmas.List.{get_or-set_same, get_or-set_other, set_past, take_at, drop_at, length-append}
use Rattle.std.proofs.lemmas.List.{append_assoc}
use Rattle.spec_bits.specs.Bits.{number_of, bit_of}
use Rattle.spec_bits.specs.Spelling.{u_bits}
use Rattle.spec_bits.proofs.Digits.{number_of-u_bits, length-u_bits}
use Rattle.spec_bits.proofs.Bytes.{u_bits-add}
use Rattle.spec_formats.specs.Format.{Word, Has}
use Rattle.spec_formats.proofs.Agreement.{Has-append}
use Rattle.spec_cabac.specs.Bins.{Bin, BinValue, Decision, Bypass, Terminate, PcmStart, Sample, PcmEnd, bin_at}
use Rattle.spec_cabac.specs.Bins.{decided, stepped}
use Rattle.spec_cabac.specs.Contexts.{lps_range_of, context_after_lps, context_after_mps}
use Rattle.spec_cabac.specs.Engine.{started_at, terminate_at, doublings}
use Rattle.spec_cabac.proofs.Renormalization.{Doubled-range}
use Rattle.spec_cabac.proofs.TableRules.{lps_range_bounds, state_after_lps_bound, state_after_mps_bound}
use Rattle.cabac_writer.specs.Coding.{Coding, Writing, no_bins, scaled, is_mps, with_decision, context_after}
use Rattle.cabac_writer.specs.Coding.{with_bypass}
use Rattle.cabac_writer.specs.Coding.{with_terminate, coded_bits, with_word, with_words, IsInner, AreInner}
use Rattle.cabac_writer.specs.Coding.{AreContexts}
use Rattle.cabac_writer.specs.Coding.{IsReadBack, IsReadOpen, bits_of}
use Rattle.cabac_writer.proofs.Values.{value, IsInside, engine_of, number_there}
use Rattle.cabac_writer.proofs.Steps.{decision_read, bypass_read, going_read, ending_read, ended}

-- an interval before a bin
pub record IsGoing (c : Coding) : Type 0 where
  pub low : 256 ≤ c.range
  pub high : c.range ≤ 510
  pub fits : c.low + c.range ≤ 2 ^ c.size
  pub size : 9 ≤ c.size

scaled_going : (range low size : ℕ) → 2 ≤ range → range ≤ 510 → low + range ≤ 2 ^ size → 9 ≤ size
    → IsGoing (scaled range low size)
scaled_going range low size least greatest fits long =
    let d = Doubled-range range least greatest in
    let n : ℕ = doublings range in
    record {
      low = d.low;
      high = d.high;
      fits =
          let wider : (low + range) * 2 ^ n ≤ 2 ^ size * 2 ^ n =
          mul-le (low + range) (2 ^ n) (2 ^ size) (2 ^ n) fits (omega arith) in
          omega (arith, wider, add-mul low range (2 ^ n), pow-add 2 size n);
      size = omega arith;
    }

decision_going : (c : Coding) (context : ℕ) (m : Bool) → context < 126 → IsGoing c
    → IsGoing (cond m (scaled (c.range - lps_range_of (context / 2) c.range) c.low c.size)
    (scaled (lps_range_of (context / 2) c.range) (c.low + (c.range - lps_range_of (context / 2) c.range)) c.size))
decision_going c context true small is =
    let b = lps_range_bounds (context / 2) c.range (omega arith) in
    scaled_going _ _ _ (omega (arith, b.greatest, is.low)) (omega (arith, is.high)) (omega (arith, is.fits)) is.size
decision_going c context false small is =
    let b = lps_range_bounds (context / 2) c.range (omega arith) in
    scaled_going _ _ _ (omega (arith, b.least)) (omega (arith, b.greatest))
    (omega (arith, is.fits, is.low, b.greatest)) is.size

bypass_going : (c : Coding) (more : ℕ) → more ≤ c.range → IsGoing c
    → IsGoing (record { range = c.range; low = 2 * c.low + more; size = c.size + 1 })
bypass_going c more few is = record {
  low = is.low;
  high = is.high;
  fits = omega (arith, is.fits, pow-add 2 c.size 1);
  size = omega (arith, is.size);
}

bit_few : (c : Coding) (bin : Bool) → (if bin then c.range else 0) ≤ c.range
bit_few c true = omega arith
bit_few c false = omega arith

word_going : (s : Writing) (w : Word Bin BinValue) → IsInner w → AreContexts s.1 → IsGoing s.0
    → IsGoing (with_word s w).0
unfolding with_word with_decision with_bypass with_terminate
word_going s (Decision i, bin) inner small is =
    decision_going s.0 (slice_index s.1 i) (is_mps (slice_index s.1 i) bin) (small i) is
word_going s (Bypass, bin) inner small is = bypass_going s.0 (if bin then s.0.range else 0) (bit_few s.0 bin) is
word_going s (Terminate, true) inner small is = absurd cc
word_going s (Terminate, false) inner small is =
    scaled_going (s.0.range - 2) s.0.low s.0.size (omega (arith, is.low)) (omega (arith, is.high)) (omega (
      arith,
      is.fits,
    )) is.size
word_going s (PcmStart, x) inner small is = absurd inner
word_going s (Sample size, x) inner small is = absurd inner
word_going s (PcmEnd, x) inner small is = absurd inner

exchanged_small : (b : Bool) (m : ℕ) → m < 2 → (if b then 1 - m else m) < 2
exchanged_small true m h = omega arith
exchanged_small false m h = omega arith

after_small : (context : ℕ) (m : Bool) → context < 126
    → cond m (context_after_mps context) (context_after_lps context) < 126
unfolding context_after_mps context_after_lps
after_small context true small =
    let b = state_after_mps_bound (context / 2) (omega arith) in omega arith
after_small context false small =
    let b = state_after_lps_bound (context / 2) (omega arith) in
    let e = exchanged_small (context / 2 == 0) (context % 2) (omega arith) in
    omega arith

context_small : (context : ℕ) (bin : Bool) → context < 126 → context_after context bin < 126
unfolding context_after
context_small context bin small = after_small context (is_mps context bin) small

set_small : (contexts : List ℕ) (i v : ℕ) → AreContexts contexts → v < 126 → AreContexts (slice_set contexts i v)
set_small contexts i v all small j =
    elim (cases_lt i (length contexts)) [
      | inl inside ↦
          elim (cases_eq j i) [
            | inl e ↦
                rw e (subst (λ k. k < 126) (sym (get_or-set_same contexts i v 0 inside)) small)
            | inr n ↦ subst (λ k. k < 126) (sym (get_or-set_other contexts i j v 0 n)) (all j)
          ]
      | inr past ↦ subst (λ xs. slice_index xs j < 126) (sym (set_past contexts i v past)) (all j)
    ]

word_small : (s : Writing) (w : Word Bin BinValue) → IsInner w → AreContexts s.1 → AreContexts (with_word s w).1
unfolding with_word
word_small s (Decision i, bin) inner small =
    set_small s.1 i (context_after (slice_index s.1 i) bin) small (context_small (slice_index s.1 i) bin (small i))
word_small s (Bypass, bin) inner small = small
word_small s (Terminate, bin) inner small = small
word_small s (PcmStart, x) inner small = small
word_small s (Sample size, x) inner small = small
word_small s (PcmEnd, x) inner small = small

-- a word that was written is read
record IsWordRead (s : Writing) (w : Word Bin BinValue) (base : ℕ) (bits : List Bool) : Type 0 where
  pub inside : IsInside s.0 base bits
  pub read : bin_at w.0 (engine_of s.0 base bits, s.1)
      ≡ Ok (w.1, (engine_of (with_word s w).0 base bits, (with_word s w).1))

word_read : (s : Writing) (w : Word Bin BinValue) (base : ℕ) (bits : List Bool) → IsInner w → AreContexts s.1
    → IsGoing s.0 → IsInside (with_word s w).0 base bits → IsWordRead s w base bits
unfolding with_word bin_at
word_read s (Decision i, bin) base bits inner small going inside =
    let r = decision_read s.0 (slice_index s.1 i) base bits bin (small i) going.low inside in
    record { inside = r.inside; read = ap (decided s.1 i) r.found }
word_read s (Bypass, bin) base bits inner small going inside =
    let r = bypass_read s.0 base bits bin inside in record { inside = r.inside; read = ap (stepped s.1) r.found }
word_read s (Terminate, true) base bits inner small going inside = absurd cc
word_read s (Terminate, false) base bits inner small going inside =
    let r = going_read s.0 base bits going.low inside in record { inside = r.inside; read = ap (stepped s.1) r.found }
word_read s (PcmStart, x) base bits inner small going inside = absurd inner
word_read s (Sample size, x) base bits inner small going inside = absurd inner
word_read s (PcmEnd, x) base bits inner small going inside = absurd inner

record AreRead (s : Writing) (words : List (Word Bin BinValue)) (base : ℕ) (bits : List Bool) : Type 0 where
  pub inside : IsInside s.0 base bits
  pub has : Has bin_at (engine_of s.0 base bits, s.1) words
      (engine_of (with_words s words).0 base bits, (with_words s words).1)

words_read : (words : List (Word Bin BinValue)) (s : Writing) (base : ℕ) (bits : List Bool) → AreInner words
    → AreContexts s.1 → IsGoing s.0 → IsInside (with_words s words).0 base bits → AreRead s words base bits
words_read [] s base bits inner small going inside = record { inside = inside; has = refl }
words_read (w ∷ words) s base bits inner small going inside =
    let rest =
    words_read words (with_word s w) base bits inner.1 (word_small s w inner.0 small)
    (word_going s w inner.0 small going) inside in
    let first = word_read s w base bits inner.0 small going rest.inside in
    record {
      inside = first.inside;
      has = ((engine_of (with_word s w).0 base bits, (with_word s w).1), first.read, rest.has);
    }

words_going : (words : List (Word Bin BinValue)) (s : Writing) → AreInner words → AreContexts s.1 → IsGoing s.0
    → IsGoing (with_words s words).0
words_going [] s inner small going = going
words_going (w ∷ words) s inner small going =
    words_going words (with_word s w) inner.1 (word_small s w inner.0 small) (word_going s w inner.0 small going)

none_going : IsGoing no_bins
none_going = record { low = omega arith; high = omega arith; fits = omega arith; size = omega arith }

-- the engine starts where the first bin was written
start_read : (base r o : ℕ) (bits : List Bool) → IsInside no_bins base bits
    → started_at (record { range = r; offset = o; bits = bits; at = base }) ≡ Some (engine_of no_bins base bits)
unfolding started_at
start_read base r o bits inside =
    let below = inside.below in
    let least : min (value base 9 bits) 509 ≡ value base 9 bits - 0 = omega arith in
    rw (number_there 9 r o base bits inside.enough, least) refl

-- the bits that are written behind the last bin
odd_number : Coding → ℕ
odd_number c = 2 * (c.low / 2) + 1

last_bit : (low : ℕ) → bit_of (2 * (low / 2) + 1) 0 ≡ true
unfolding bit_of
last_bit low = ap (λ n. n == 1) (let e : (2 * (low / 2) + 1) / 1 % 2 ≡ 1 = omega arith in e)

one_bit : (low : ℕ) → u_bits 1 (2 * (low / 2) + 1) ≡ true ∷ []
unfolding u_bits
one_bit low = ap (λ b. b ∷ []) (last_bit low)

coded_split : (c : Coding) → 1 ≤ c.size
    → coded_bits c ≡ u_bits (c.size - 1) ((2 * (c.low / 2) + 1) / 2 ^ 1) ++ true ∷ []
unfolding coded_bits
coded_split c some =
    let e : c.size ≡ c.size - 1 + 1 = omega arith in
    ap (λ k. u_bits k (2 * (c.low / 2) + 1)) e ∙ u_bits-add (c.size - 1) 1 (2 * (c.low / 2) + 1)
    ∙ ap (λ l. u_bits (c.size - 1) ((2 * (c.low / 2) + 1) / 2 ^ 1) ++ l) (one_bit c.low)

pub length_coded : (c : Coding) → length (coded_bits c) ≡ c.size
unfolding coded_bits
length_coded c = length-u_bits c.size (2 * (c.low / 2) + 1)

number_coded : (c : Coding) → c.low + 2 ≤ 2 ^ c.size → number_of (coded_bits c) ≡ 2 * (c.low / 2) + 1
unfolding coded_bits
number_coded c fits = number_of-u_bits c.size (2 * (c.low / 2) + 1) (omega arith)

ended_inside : (c : Coding) (before after : List Bool) → 2 ≤ c.range → c.low + 2 ≤ 2 ^ c.size
    → IsInside c (length before) (before ++ (coded_bits c ++ after))
ended_inside c before after two fits =
    let bits : List Bool = before ++ (coded_bits c ++ after) in
    let at : value (length before) c.size bits ≡ 2 * (c.low / 2) + 1 =
    ap (λ l. number_of (take c.size l)) (drop_at before (coded_bits c ++ after) (length before) refl)
    ∙ ap number_of (take_at (coded_bits c) after c.size (length_coded c)) ∙ number_coded c fits in
    record {
      enough =
          omega (
            arith,
            length-append before (coded_bits c ++ after),
            length-append (coded_bits c) after,
            length_coded
                c,
          );
      least = omega arith;
      below = omega arith;
    }

stop_there : (c : Coding) (before after : List Bool) → 1 ≤ c.size
    → drop (length before + c.size - 1) (before ++ (coded_bits c ++ after)) ≡ true ∷ after
stop_there c before after some =
    let front : List Bool = u_bits (c.size - 1) ((2 * (c.low / 2) + 1) / 2 ^ 1) in
    let place : length (before ++ front) ≡ length before + c.size - 1 =
    omega (arith, length-append before front, length-u_bits (c.size - 1) ((2 * (c.low / 2) + 1) / 2 ^ 1)) in
    let shape : before ++ (coded_bits c ++ after) ≡ (before ++ front) ++ true ∷ after =
    ap (λ l. before ++ (l ++ after)) (coded_split c some)
    ∙ ap (λ l. before ++ l) (append_assoc front (true ∷ []) after)
    ∙ sym (append_assoc before front (true ∷ after)) in
    ap (drop (length before + c.size - 1)) shape ∙ drop_at (before ++ front) (true ∷ after) _ place

last_has : (s : Writing) (base : ℕ) (bits : List Bool)
    → terminate_at (engine_of s.0 base bits) ≡ Some (true, ended s.0 base bits)
    → Has bin_at (engine_of s.0 base bits, s.1) ((Terminate, true) ∷ []) (ended s.0 base bits, s.1)
unfolding bin_at
last_has s base bits e = ((ended s.0 base bits, s.1), ap (stepped s.1) e, refl)

pub read_back : (words : List (Word Bin BinValue)) (contexts : List ℕ) (before after : List Bool) → AreInner words
    → AreContexts contexts → IsReadBack words contexts before after
unfolding with_terminate
read_back words contexts before after inner small =
    let s : Writing = with_words (no_bins, contexts) words in
    let c : Coding = with_terminate s.0 true in
    let bits : List Bool = before ++ (coded_bits c ++ after) in
    let going = words_going words (no_bins, contexts) inner small none_going in
    let inside : IsInside c (length before) bits = ended_inside c before after (omega arith) (omega (
      arith,
      going.fits,
      going.low,
    )) in
    let last = ending_read s.0 (length before) bits going.low inside in
    let r = words_read words (no_bins, contexts) (length before) bits inner small none_going last.inside in
    record {
      first = engine_of no_bins (length before) bits;
      behind = ended s.0 (length before) bits;
      started = λ range offset. start_read (length before) range offset bits r.inside;
      has =
          Has-append bin_at words ((Terminate, true) ∷ []) (engine_of no_bins (length before) bits, contexts)
          (engine_of s.0 (length before) bits, s.1) (ended s.0 (length before) bits, s.1) r.has
          (last_has s (length before) bits last.found);
      bits = refl;
      at = refl;
      stop = stop_there c before after (omega (arith, going.size));
    }

-- ---- what others ask of bins that are written

pub words_small : (words : List (Word Bin BinValue)) (s : Writing) → AreInner words → AreContexts s.1
    → AreContexts (with_words s words).1
words_small [] s inner small = small
words_small (w ∷ words) s inner small = words_small words (with_word s w) inner.1 (word_small s w inner.0 small)

pub length_bits : (words : List (Word Bin BinValue)) (contexts : List ℕ)
    → length (bits_of words contexts) ≡ (with_words (no_bins, contexts) words).0.size
unfolding with_terminate
length_bits words contexts = length_coded (with_terminate (with_words (no_bins, contexts) words).0 true)

pub some_bits : (words : List (Word Bin BinValue)) (contexts : List ℕ) → AreInner words → AreContexts contexts
    → 9 ≤ length (bits_of words contexts)
some_bits words contexts inner small =
    let going = words_going words (no_bins, contexts) inner small none_going in
    omega (arith, length_bits words contexts, going.size)

-- ---- bins without a terminate bin of 1 at their end

pub read_open : (words : List (Word Bin BinValue)) (contexts : List ℕ) (before after : List Bool) → AreInner words
    → AreContexts contexts → IsReadOpen words contexts before after
read_open words contexts before after inner small =
    let s : Writing = with_words (no_bins, contexts) words in
    let bits : List Bool = before ++ (coded_bits s.0 ++ after) in
    let going = words_going words (no_bins, contexts) inner small none_going in
    let low = going.low in
    let inside : IsInside s.0 (length before) bits =
    ended_inside s.0 before after (omega arith) (omega (arith, going.fits, low)) in
    let r = words_read words (no_bins, contexts) (length before) bits inner small none_going inside in
    record {
      first = engine_of no_bins (length before) bits;
      behind = engine_of s.0 (length before) bits;
      started = λ range offset. start_read (length before) range offset bits r.inside;
      has = r.has;
    }
