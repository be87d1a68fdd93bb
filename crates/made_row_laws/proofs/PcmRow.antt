-- Rows of IDR pictures: their bins and samples are the words of their units, one after the other.
use Rattle.std.proofs.Common.{◌≡◌, ℕ, zero, suc, ◌+◌, ◌*◌, ◌%◌, ◌<◌, ◌≤◌, Bool, true, false, List, [], ◌∷◌}
use Rattle.std.proofs.Common.{◌++◌, length, get_or, drop, refl, sym, ap, subst, ◌∙◌, arith, append_assoc, append-nil}
use Rattle.std.proofs.Common.{All}
use Rattle.std.specs.Prelude.{◌==◌}
use Rattle.std.proofs.lemmas.Bool.Decides.{nat_tests}
use Rattle.std.proofs.lemmas.List.Elements.{All-take, All-drop}
use Rattle.spec_bits.specs.Bits.{bits}
use Rattle.spec_bits.proofs.Bytes.{bits-append}
use Rattle.spec_cabac.specs.Bins.{PcmStart, PcmEnd, Terminate}
use Rattle.cabac_writer.specs.Coding.{no_bins, with_word, AreContexts, AreInner}
use Rattle.cabac_writer.specs.Pulses.{Pulses, contexts_behind, ending, sample_bits, sample_words, section_bits}
use Rattle.cabac_writer.specs.Pulses.{substream_bits, substream_words, MayBeWritten}
use Rattle.cabac_writer.proofs.ReadBack.{words_small}
use Rattle.spec_made.specs.declared.units.PcmUnit.{PcmUnit}
use Rattle.spec_made.specs.Written.{Bins, section_bytes}
use Rattle.spec_made.specs.InterRows.{end_words}
use Rattle.spec_made.specs.PcmRows.{Part, no_samples, split_word, whole_word, quarter_of, parts_of, parts_from}
use Rattle.spec_made.specs.PcmRows.{part_bytes, contexts_behind_parts, row_bytes, pcm_contexts_at, pcm_row}
use Rattle.made_row_laws.specs.Rows.{HasWords}
use Rattle.made_row_laws.specs.Words.{pulses_of, words_of_parts, pcm_words, flags_behind, row_words}
use Rattle.made_row_laws.proofs.Contexts.{contexts-append, parts_change}
use Rattle.made_row_laws.proofs.Drawn.{parts_then}
use Rattle.made_row_laws.proofs.Inner.{inner-append, inner_end, are_samples, whole_bytes, first_small}
use Rattle.made_row_laws.proofs.InterRow.{flags_inside, flags_last}
use Rattle.made_row_laws.proofs.Started.{section_back, samples_back, words_there}

-- ---- parts and what is behind them, as a substream with samples

first_bins : List Part → Bins → Bins
first_bins [] last = last
first_bins (p ∷ parts) last = p.bins

later_pulses : List Part → Bins → List Pulses
later_pulses [] last = []
later_pulses (p ∷ parts) last =
    record { samples = pulses_of p.samples; bins = first_bins parts last } ∷ later_pulses parts last

words_are : (parts : List Part) (last : Bins)
    → substream_words (first_bins parts last) (later_pulses parts last) ≡ words_of_parts parts (last ++ ending)
unfolding first_bins later_pulses
words_are [] last = refl
words_are (p ∷ parts) last =
    ap (λ l. (p.bins ++ ending) ++ (PcmStart, tt) ∷ (sample_words (pulses_of p.samples) ++ (PcmEnd, tt) ∷ l))
    (words_are parts last)

bits_are : (parts : List Part) (last : Bins) (contexts : List ℕ)
    → bits (part_bytes parts contexts ++ section_bytes last (contexts_behind_parts parts contexts))
    ≡ substream_bits (first_bins parts last) (later_pulses parts last) contexts
unfolding first_bins later_pulses
bits_are [] last contexts = section_back last contexts
bits_are (p ∷ parts) last contexts =
    let front : List ℕ = section_bytes p.bins contexts in
    let behind : List ℕ = contexts_behind p.bins contexts in
    let rest : List ℕ = part_bytes parts behind in
    let end : List ℕ = section_bytes last (contexts_behind_parts parts behind) in
    ap bits (append_assoc (front ++ p.samples) rest end ∙ append_assoc front p.samples (rest ++ end))
    ∙ bits-append front (p.samples ++ (rest ++ end))
    ∙ ap (λ l. l ++ bits (p.samples ++ (rest ++ end))) (section_back p.bins contexts)
    ∙ ap (λ l. section_bits p.bins contexts ++ l)
    (bits-append p.samples (rest ++ end)
    ∙ ap (λ l. l ++ bits (rest ++ end)) (samples_back p.samples)
    ∙ ap (λ l. sample_bits (pulses_of p.samples) ++ l) (bits_are parts last behind))

-- ---- parts that may be written

abbrev AreParts : List Part → Type 0
AreParts [] = Unit {0}
AreParts (p ∷ parts) = AreInner p.bins × All (λ v. v < 256) p.samples × AreParts parts

parts-append : (front back : List Part) → AreParts front → AreParts back → AreParts (front ++ back)
parts-append [] back a b = b
parts-append (p ∷ front) back a b = (a.0, a.1, parts-append front back a.2 b)

first_inner : (parts : List Part) (last : Bins) → AreParts parts → AreInner last → AreInner (first_bins parts last)
unfolding first_bins
first_inner [] last a inner = inner
first_inner (p ∷ parts) last a inner = a.0

may_be : (parts : List Part) (last : Bins) → AreParts parts → AreInner last
    → MayBeWritten (first_bins parts last) (later_pulses parts last)
unfolding first_bins later_pulses
may_be [] last a inner = inner
may_be (p ∷ parts) last a inner =
    let whole : length (sample_bits (pulses_of p.samples)) % 8 ≡ 0 = omega (arith, whole_bytes p.samples) in
    (a.0, are_samples p.samples a.1, whole, may_be parts last a.2 inner)

-- samples are bytes
abbrev pub AreByteSamples : PcmUnit → Type 0
AreByteSamples u = All (λ v. v < 256) u.samples

quarter_small : (samples : List ℕ) (q : ℕ) → All (λ v. v < 256) samples → All (λ v. v < 256) (quarter_of samples q)
quarter_small samples q small =
    All-take (λ v. v < 256) 96 (drop (96 * q) samples) (All-drop (λ v. v < 256) (96 * q) samples small)

unit_parts : (units : List PcmUnit) (i : ℕ) (split : Bool) (samples : List ℕ) (before : Bins) → AreInner before
    → All (λ v. v < 256) samples → AreParts (parts_of units i (record { split = split; samples = samples }) before)
unit_parts units i true samples before inner small =
    let bins : AreInner (split_word units i true ++ whole_word) = (tt, (tt, tt)) in (
      inner-append before (split_word units i true ++ whole_word) inner bins,
      quarter_small samples 0 small,
      (
        (tt, tt),
        quarter_small samples 1 small,
        (
          (tt, tt),
          quarter_small samples 2 small,
          ((tt, tt), quarter_small samples 3 small, tt),
        ),
      ),
    )
unit_parts units i false samples before inner small =
    let bins : AreInner (split_word units i false) = (tt, tt) in
    (inner-append before (split_word units i false) inner bins, small, tt)

all_parts : (units : List PcmUnit) → ((i : ℕ) → AreByteSamples (get_or units i no_samples)) → (n i : ℕ) (before : Bins)
    → AreInner before → AreParts (parts_from units i n before)
unfolding parts_from
all_parts units small zero i before inner = tt
all_parts units small (suc n) i before inner =
    let u : PcmUnit = get_or units i no_samples in
    parts-append (parts_of units i u before) (parts_from units (i + 1) n (end_words i))
    (unit_parts units i u.split u.samples before inner (small i))
    (all_parts units small n (i + 1) (end_words i) (inner_end i))

-- ---- words

words-append : (front back : List Part) (rest : Bins)
    → words_of_parts (front ++ back) rest ≡ words_of_parts front (words_of_parts back rest)
words-append [] back rest = refl
words-append (p ∷ front) back rest =
    ap (λ (l : Bins). (p.bins ++ ending) ++ (PcmStart, tt) ∷ (sample_words (pulses_of p.samples) ++ (PcmEnd, tt) ∷ l))
    (words-append front back rest)

before_all : (before bins more : Bins) → ((before ++ bins) ++ ending) ++ more ≡ before ++ ((bins ++ ending) ++ more)
before_all before bins more =
    ap (λ l. l ++ more) (append_assoc before bins ending) ∙ append_assoc before (bins ++ ending) more

unit_before : (units : List PcmUnit) (i : ℕ) (split : Bool) (samples : List ℕ) (before rest : Bins)
    → words_of_parts (parts_of units i (record { split = split; samples = samples }) before) rest
    ≡ before ++ words_of_parts (parts_of units i (record { split = split; samples = samples }) []) rest
unit_before units i true samples before rest = before_all before (split_word units i true ++ whole_word) _
unit_before units i false samples before rest = before_all before (split_word units i false) _

-- a unit and what is behind it
unit_then : (units : List PcmUnit) (i : ℕ) (before rest : Bins)
    → words_of_parts (parts_of units i (get_or units i no_samples) before) rest ≡ before ++ (pcm_words units i ++ rest)
unfolding pcm_words
unit_then units i before rest =
    let u : PcmUnit = get_or units i no_samples in
    unit_before units i u.split u.samples before rest
    ∙ ap (λ l. before ++ l) (parts_then (parts_of units i u []) rest)

row_is : (units : List PcmUnit) (n i last : ℕ) (before : Bins) → i % 8 + suc n ≡ 8 → i + suc n ≤ 48 → last ≡ i + n
    → words_of_parts (parts_from units i (suc n) before) (end_words last ++ ending)
    ≡ before ++ row_words (pcm_words units) i (suc n)
unfolding parts_from row_words
row_is units zero i last before whole inside is =
    let u : PcmUnit = get_or units i no_samples in
    let same : last ≡ i = omega arith in
    words-append (parts_of units i u before) [] (end_words last ++ ending)
    ∙ unit_then units i before (end_words last ++ ending)
    ∙ ap (λ l. before ++ (pcm_words units i ++ l))
    (ap (λ k. end_words k ++ ending) same ∙ flags_last i (omega arith) ∙ sym (append-nil (flags_behind i)))
row_is units (suc n) i last before whole inside is =
    let u : PcmUnit = get_or units i no_samples in
    let other : (i % 8 == 7) ≡ false = grind (arith, nat_tests) in
    let later : List Part = parts_from units (i + 1) (suc n) (end_words i) in
    words-append (parts_of units i u before) later (end_words last ++ ending)
    ∙ unit_then units i before (words_of_parts later (end_words last ++ ending))
    ∙ ap (λ l. before ++ (pcm_words units i ++ l))
    (row_is units n (i + 1) last (end_words i) (omega arith) (omega arith) (omega arith)
    ∙ ap (λ l. l ++ row_words (pcm_words units) (i + 1) (suc n)) (flags_inside i (omega arith) other))

-- ---- contexts

parts_small : (parts : List Part) (contexts : List ℕ) → AreParts parts → AreContexts contexts
    → AreContexts (contexts_behind_parts parts contexts)
parts_small [] contexts a small = small
parts_small (p ∷ parts) contexts a small =
    parts_small parts (contexts_behind p.bins contexts) a.2 (words_small p.bins (no_bins, contexts) a.0 small)

contexts_small : (units : List PcmUnit) → ((i : ℕ) → AreByteSamples (get_or units i no_samples)) → (r : ℕ)
    → AreContexts (pcm_contexts_at units r)
unfolding pcm_contexts_at
contexts_small units small zero = first_small 0 (omega arith)
contexts_small units small (suc r) =
    parts_small (parts_from units (8 * r) 2 []) (pcm_contexts_at units r) (all_parts units small 2 (8 * r) [] tt)
    (contexts_small units small r)

-- a terminate bin changes no context
flag_keeps : (words : Bins) (i : ℕ) (contexts : List ℕ) → i < 47 → (i % 8 == 7) ≡ false
    → contexts_behind (words ++ flags_behind i) contexts ≡ contexts_behind words contexts
unfolding flags_behind with_word
flag_keeps words i contexts small inside =
    let other : (i == 47) ≡ false = grind (arith, nat_tests) in
    rw (other, inside) (contexts-append words ((Terminate, false) ∷ []) contexts)

pub pcm_stored : (units : List PcmUnit) (r : ℕ) → r < 6
    → pcm_contexts_at units (suc r)
    ≡ contexts_behind (pcm_words units (8 * r + 1) ++ flags_behind (8 * r + 1))
    (contexts_behind (pcm_words units (8 * r) ++ flags_behind (8 * r)) (pcm_contexts_at units r))
unfolding pcm_contexts_at parts_from
pcm_stored units r few =
    let c : List ℕ = pcm_contexts_at units r in
    let i : ℕ = 8 * r in
    let one : (i % 8 == 7) ≡ false = (let z : i % 8 ≡ 0 = omega arith in rw z refl) in
    let two : ((i + 1) % 8 == 7) ≡ false = (let z : (i + 1) % 8 ≡ 1 = omega arith in rw z refl) in
    let a : Bins = pcm_words units i in
    let b : Bins = pcm_words units (i + 1) in
    let parts : List Part = parts_from units i 2 [] in
    let second : List Part = parts_of units (i + 1) (get_or units (i + 1) no_samples) (end_words i) in
    let words : words_of_parts parts [] ≡ a ++ (flags_behind i ++ b) =
    words-append (parts_of units i (get_or units i no_samples) []) (second ++ []) []
    ∙ unit_then units i [] (words_of_parts (second ++ []) [])
    ∙ ap (λ l. a ++ l)
    (words-append second [] [] ∙ unit_then units (i + 1) (end_words i) []
    ∙ ap (λ l. l ++ (b ++ [])) (flags_inside i (omega arith) one)
    ∙ ap (λ l. flags_behind i ++ l) (append-nil b)) in
    sym (parts_change parts [] c)
    ∙ ap (λ l. contexts_behind l c) (words ∙ sym (append_assoc a (flags_behind i) b))
    ∙ contexts-append (a ++ flags_behind i) b c
    ∙ sym (flag_keeps b (i + 1) (contexts_behind (a ++ flags_behind i) c) (omega arith) two)

pub pcm_has : (units : List PcmUnit) → ((i : ℕ) → AreByteSamples (get_or units i no_samples)) → (r : ℕ) → r < 6
    → HasWords (pcm_row units r) (row_words (pcm_words units) (8 * r) 8) (pcm_contexts_at units r)
unfolding pcm_row row_bytes
pcm_has units small r few =
    let contexts : List ℕ = pcm_contexts_at units r in
    let parts : List Part = parts_from units (8 * r) 8 [] in
    let last : Bins = end_words (8 * r + 7) in
    subst (λ (w : Bins). HasWords (pcm_row units r) w contexts)
    (words_are parts last ∙ row_is units 7 (8 * r) (8 * r + 7) [] (omega arith) (omega arith) refl)
    (words_there (pcm_row units r) (first_bins parts last) (later_pulses parts last) contexts
    (may_be parts last (all_parts units small 8 (8 * r) [] tt) (inner_end (8 * r + 7)))
    (contexts_small units small r) (bits_are parts last contexts))
