-- Substreams with samples of pulse code modulation are read again.
use Rattle.std.proofs.Common.{◌≡◌, ℕ, ◌+◌, ◌*◌, ◌/◌, ◌%◌, ◌<◌, ◌≤◌, Bool, true, false, List, [], ◌∷◌}
use Rattle.std.proofs.Common.{◌++◌, length, drop, take, replicate, Some, refl, sym, ap, subst, ◌∙◌, arith}
use Rattle.std.proofs.Common.{length-append}
use Rattle.std.proofs.Common.{append_assoc}
use Rattle.std.specs.Prelude.{nat_lt}
use Rattle.std.proofs.lemmas.Bool.{lt-ltb}
use Rattle.std.proofs.lemmas.List.{take_at, drop_at, length-replicate}
use Rattle.spec_bits.specs.Spelling.{u_bits}
use Rattle.spec_bits.specs.Bits.{number_of}
use Rattle.spec_bits.proofs.Digits.{number_of-u_bits, length-u_bits}
use Rattle.spec_formats.specs.Format.{Word, Has}
use Rattle.spec_formats.proofs.Agreement.{Has-append}
use Rattle.spec_cabac.specs.Bins.{Bin, BinValue, PcmEnd, bin_at, stepped, moved, placed}
use Rattle.spec_cabac.specs.Engine.{Engine, started_at, pcm_start_at, number_at}
use Rattle.cabac_writer.specs.Coding.{no_bins, bits_of, AreInner, AreContexts}
use Rattle.cabac_writer.specs.Pulses.{Pulse, Pulses, AreSamples, sample_words, sample_bits, ending, substream_words}
use Rattle.cabac_writer.specs.Coding.{filling}
use Rattle.cabac_writer.specs.Pulses.{contexts_behind, section_bits, substream_bits, last_contexts, MayBeWritten}
use Rattle.cabac_writer.specs.Pulses.{IsSubstream}
use Rattle.cabac_writer.proofs.Values.{number_there}
use Rattle.cabac_writer.proofs.ReadBack.{read_back, words_small, length_bits, some_bits}

abbrev engine_at : ℕ → ℕ → List Bool → ℕ → Engine
engine_at range offset bits at = record { range = range; offset = offset; bits = bits; at = at }

-- samples, from where they begin to what follows
samples_read : (samples : List Pulse) (range offset : ℕ) (contexts : List ℕ) (before after : List Bool)
    → AreSamples samples
    → Has bin_at (engine_at range offset (before ++ (sample_bits samples ++ after)) (length before), contexts)
    (sample_words samples) (
      engine_at range offset (before ++ (sample_bits samples ++ after)) (length before + length (sample_bits samples)),
      contexts,
    )
unfolding bin_at
samples_read [] range offset contexts before after fit =
    let e : length before ≡ length before + 0 = omega arith in
    ap (λ at. (engine_at range offset (before ++ after) at, contexts)) e
samples_read (s ∷ samples) range offset contexts before after fit =
    let word : List Bool = u_bits s.size s.value in
    let rest : List Bool = sample_bits samples in
    let all : List Bool = before ++ ((word ++ rest) ++ after) in
    let next : List Bool = before ++ word in
    let same : next ++ (rest ++ after) ≡ all =
    append_assoc before word (rest ++ after) ∙ ap (λ l. before ++ l) (sym (append_assoc word rest after)) in
    let place : length next ≡ length before + s.size =
    length-append before word ∙ ap (λ n. length before + n) (length-u_bits s.size s.value) in
    let enough : length before + s.size ≤ length all =
    omega (
      arith,
      length-append before ((word ++ rest) ++ after),
      length-append (word ++ rest) after,
      length-append word rest,
      length-u_bits s.size s.value,
    ) in
    let number : number_of (take s.size (drop (length before) all)) ≡ s.value =
    ap (λ l. number_of (take s.size l)) (drop_at before ((word ++ rest) ++ after) (length before) refl)
    ∙ ap (λ l. number_of (take s.size l)) (append_assoc word rest after)
    ∙ ap number_of (take_at word (rest ++ after) s.size (length-u_bits s.size s.value))
    ∙ number_of-u_bits s.size s.value fit.0 in
    let read : number_at s.size (engine_at range offset all (length before))
    ≡ Some (s.value, engine_at range offset all (length before + s.size)) =
    number_there s.size range offset (length before) all enough
    ∙ ap (λ n. Some (n, engine_at range offset all (length before + s.size))) number in
    let later = samples_read samples range offset contexts next after fit.1 in
    let behind : length next + length rest ≡ length before + length (word ++ rest) =
    omega (arith, place, length-append word rest, length-u_bits s.size s.value) in
    let moved : Has bin_at (engine_at range offset all (length before + s.size), contexts) (sample_words samples)
    (engine_at range offset all (length before + length (word ++ rest)), contexts) =
    subst (λ (b : List Bool). Has bin_at (engine_at range offset b (length before + s.size), contexts)
    (sample_words samples) (engine_at range offset b (length before + length (word ++ rest)), contexts)) same
    (subst (λ (k : ℕ). Has bin_at (engine_at range offset (next ++ (rest ++ after)) (length before + s.size), contexts)
    (sample_words samples) (engine_at range offset (next ++ (rest ++ after)) k, contexts)) behind
    (subst (λ (k : ℕ). Has bin_at (engine_at range offset (next ++ (rest ++ after)) k, contexts)
    (sample_words samples) (engine_at range offset (next ++ (rest ++ after)) (length next + length rest), contexts))
    place later)) in
    ((engine_at range offset all (length before + s.size), contexts), ap (stepped contexts) read, moved)

-- ---- bits that stand in another order of brackets

section_shape : (bins : List (Word Bin BinValue)) (contexts : List ℕ) (before rest : List Bool)
    → before ++ (bits_of bins contexts ++ (replicate (filling (length (bits_of bins contexts))) false ++ rest))
    ≡ before ++ (section_bits bins contexts ++ rest)
unfolding section_bits
section_shape bins contexts before rest =
    ap (λ l. before ++ l)
    (sym (append_assoc (bits_of bins contexts) (replicate (filling (length (bits_of bins contexts))) false) rest))

length_section : (bins : List (Word Bin BinValue)) (contexts : List ℕ)
    → length (section_bits bins contexts)
    ≡ length (bits_of bins contexts) + filling (length (bits_of bins contexts))
unfolding section_bits
length_section bins contexts =
    length-append (bits_of bins contexts) (replicate (filling (length (bits_of bins contexts))) false)
    ∙ ap (λ n. length (bits_of bins contexts) + n) (length-replicate (filling (length (bits_of bins contexts))) false)

inner_shape : (before a b c after : List Bool) → (before ++ a) ++ (b ++ (c ++ after))
    ≡ before ++ ((a ++ (b ++ c)) ++ after)
inner_shape before a b c after =
    append_assoc before a (b ++ (c ++ after))
    ∙ ap (λ l. before ++ (a ++ l)) (sym (append_assoc b c after))
    ∙ ap (λ l. before ++ l) (sym (append_assoc a (b ++ c) after))

last_shape : (before a b c after : List Bool)
    → ((before ++ a) ++ b) ++ (c ++ after) ≡ before ++ ((a ++ (b ++ c)) ++ after)
last_shape before a b c after = append_assoc (before ++ a) b (c ++ after) ∙ inner_shape before a b c after

outer_shape : (before a b c after : List Bool)
    → before ++ (a ++ (b ++ (c ++ after))) ≡ before ++ ((a ++ (b ++ c)) ++ after)
outer_shape before a b c after =
    ap (λ l. before ++ (a ++ l)) (sym (append_assoc b c after))
    ∙ ap (λ l. before ++ l) (sym (append_assoc a (b ++ c) after))

-- the place where samples begin
pulses_begin : (e : Engine) (bits : List Bool) (at place : ℕ) → e.bits ≡ bits → e.at ≡ at
    → 8 * ((at + 7) / 8) ≡ place → place < length bits
    → pcm_start_at e ≡ Some ((at + 7) / 8, engine_at e.range e.offset bits place)
unfolding pcm_start_at
pulses_begin e bits at place bits_is at_is place_is inside =
    let there : nat_lt place (length bits) ≡ true = lt-ltb place (length bits) inside in
    rw (bits_is, at_is, place_is, there) refl

begin_at : (before n : ℕ) → before % 8 ≡ 0 → 8 * ((before + n + 7) / 8) ≡ before + (n + filling n)
begin_at before n whole = omega (arith, whole)

whole_sum : (a b : ℕ) → a % 8 ≡ 0 → b % 8 ≡ 0 → (a + b) % 8 ≡ 0
whole_sum a b e f = omega arith

whole_filled : (n : ℕ) → (n + filling n) % 8 ≡ 0
whole_filled n = omega arith

filling_few : (n : ℕ) → filling n < 8
filling_few n = omega arith

plain_read : (bins : List (Word Bin BinValue)) (contexts : List ℕ) (before after : List Bool) → AreInner bins
    → AreContexts contexts → IsSubstream bins [] contexts before after
plain_read bins contexts before after inner small =
    let n : ℕ = filling (length (bits_of bins contexts)) in
    let r = read_back bins contexts before (replicate n false ++ after) inner small in
    let shape = section_shape bins contexts before after in
    record {
      first = r.first;
      behind = r.behind;
      zeros = n;
      started = λ range offset.
          subst (λ (b : List Bool). started_at (engine_at range offset b (length before)) ≡ Some r.first) shape
          (r.started range offset);
      has = r.has;
      bits = r.bits ∙ shape;
      stop = r.stop;
      few = filling_few (length (bits_of bins contexts));
    }

section_long : (bins : List (Word Bin BinValue)) (contexts : List ℕ) → AreInner bins → AreContexts contexts
    → 9 ≤ length (section_bits bins contexts)
section_long bins contexts inner small =
    let some = some_bits bins contexts inner small in omega (arith, length_section bins contexts, some)

substream_long : (pulses : List Pulses) (bins : List (Word Bin BinValue)) (contexts : List ℕ)
    → MayBeWritten bins pulses → AreContexts contexts → 9 ≤ length (substream_bits bins pulses contexts)
substream_long [] bins contexts may small = section_long bins contexts may small
substream_long (p ∷ later) bins contexts may small =
    omega (
      arith,
      section_long bins contexts may.0 small,
      length-append (section_bits bins contexts)
          (sample_bits p.samples ++ substream_bits p.bins later (contexts_behind bins contexts)),
    )

pub substream_read : (pulses : List Pulses) (bins : List (Word Bin BinValue)) (contexts : List ℕ)
    (before after : List Bool) → MayBeWritten bins pulses → AreContexts contexts → length before % 8 ≡ 0
    → IsSubstream bins pulses contexts before after
unfolding bin_at
substream_read [] bins contexts before after may small whole = plain_read bins contexts before after may small
substream_read (p ∷ later) bins contexts before after may small whole =
    let section : List Bool = section_bits bins contexts in
    let behind_bins : List ℕ = contexts_behind bins contexts in
    let samples : List Bool = sample_bits p.samples in
    let rest : List Bool = substream_bits p.bins later behind_bins in
    let all : List Bool = before ++ ((section ++ (samples ++ rest)) ++ after) in
    let n : ℕ = length (bits_of bins contexts) in
    let place : ℕ = length (before ++ section) in
    let place_is : place ≡ length before + (n + filling n) =
    length-append before section ∙ ap (λ k. length before + k) (length_section bins contexts) in
    let kept = words_small bins (no_bins, contexts) may.0 small in
    let r =
    read_back bins contexts before (replicate (filling n) false ++ (samples ++ (rest ++ after))) may.0 small in
    let shape : before ++ (bits_of bins contexts ++ (replicate (filling n) false ++ (samples ++ (rest ++ after))))
    ≡ all =
    section_shape bins contexts before (samples ++ (rest ++ after))
    ∙ outer_shape before section samples rest after in
    let next = substream_read later p.bins behind_bins ((before ++ section) ++ samples) after may.3 kept
    (let e = length-append (before ++ section) samples in
    rw e (whole_sum place (length samples)
    (rw place_is (whole_sum (length before) (n + filling n) whole (whole_filled n))) may.2)) in
    let next_shape : ((before ++ section) ++ samples) ++ (rest ++ after) ≡ all =
    last_shape before section samples rest after in
    let long = substream_long later p.bins behind_bins may.3 kept in
    let inside : place < length all =
    omega (
      arith,
      long,
      length-append before section,
      length-append before ((section ++ (samples ++ rest)) ++ after),
      length-append (section ++ (samples ++ rest)) after,
      length-append section (samples ++ rest),
      length-append samples rest,
    ) in
    let begins : pcm_start_at r.behind ≡ Some (
      (length before + n + 7) / 8,
      engine_at r.behind.range r.behind.offset
          all place,
    ) =
    pulses_begin r.behind all (length before + n) place (r.bits ∙ shape)
    (r.at ∙ ap (λ k. length before + k) (sym (length_bits bins contexts)))
    (begin_at (length before) n whole ∙ sym place_is) inside in
    let pulses = samples_read p.samples r.behind.range r.behind.offset behind_bins (before ++ section) (rest ++ after)
    may.1 in
    let ends : started_at (engine_at r.behind.range r.behind.offset all (place + length samples)) ≡ Some next.first =
    subst (λ (k : ℕ). started_at (engine_at r.behind.range r.behind.offset all k) ≡ Some next.first)
    (length-append (before ++ section) samples)
    (subst (λ (b : List Bool). started_at (engine_at r.behind.range r.behind.offset b (length ((before ++ section) ++
    samples)))
    ≡ Some next.first) next_shape (next.started r.behind.range r.behind.offset)) in
    record {
      first = r.first;
      behind = next.behind;
      zeros = next.zeros;
      started = λ range offset.
          subst (λ (b : List Bool). started_at (engine_at range offset b (length before)) ≡ Some r.first) shape
          (r.started range offset);
      has =
          Has-append bin_at (bins ++ ending) _ (r.first, contexts) (r.behind, behind_bins)
          (next.behind, last_contexts p.bins later behind_bins) r.has (
            (engine_at r.behind.range r.behind.offset all place, behind_bins),
            ap (placed behind_bins) begins,
            Has-append bin_at (sample_words p.samples) ((PcmEnd, tt) ∷ substream_words p.bins later)
                (engine_at r.behind.range r.behind.offset all place, behind_bins)
                (engine_at r.behind.range r.behind.offset all (place + length samples), behind_bins)
                (next.behind, last_contexts p.bins later behind_bins)
                (subst (λ (b : List Bool). Has bin_at (engine_at r.behind.range r.behind.offset b place, behind_bins)
                (sample_words p.samples)
                (engine_at r.behind.range r.behind.offset b (place + length samples), behind_bins))
                (inner_shape before section samples rest after) pulses)
                ((next.first, behind_bins), ap (moved behind_bins) ends, next.has),
          );
      bits = next.bits ∙ next_shape;
      stop = next.stop;
      few = next.few;
    }

pub substreams_law : (bins : List (Word Bin BinValue)) (pulses : List Pulses) (contexts : List ℕ)
    (before after : List Bool) → MayBeWritten bins pulses → AreContexts contexts → length before % 8 ≡ 0
    → IsSubstream bins pulses contexts before after
substreams_law bins pulses contexts before after = substream_read pulses bins contexts before after
