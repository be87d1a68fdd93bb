-- Contexts behind words.
use Rattle.std.proofs.Common.{◌≡◌, ℕ, ◌-◌, ◌/◌, ◌%◌, Bool, true, false, cond, List, [], ◌∷◌, ◌++◌}
use Rattle.std.proofs.Common.{refl, sym, ap, ◌∙◌, Option, Some, None, not}
use Rattle.std.specs.Prelude.{slice_index, slice_set, nat_le, ◌==◌, Ok}
use Rattle.std.specs.Bool.{beq}
use Rattle.std.proofs.lemmas.Option.{none-some, same_Some}
use Rattle.spec_bits.specs.Bits.{◌>>=◌}
use Rattle.spec_formats.specs.Format.{Word, Has}
use Rattle.spec_formats.proofs.Agreement.{ok_is}
use Rattle.spec_cabac.specs.Bins.{Bin, BinValue, State, Decision, Bypass, Terminate, PcmStart, Sample, PcmEnd, bin_at}
use Rattle.spec_cabac.specs.Bins.{decided, stepped, moved, placed}
use Rattle.spec_cabac.specs.Contexts.{lps_range_of, context_after_lps, context_after_mps}
use Rattle.spec_cabac.specs.Engine.{Engine, decision_at, bypass_at, terminate_at, pcm_start_at, sample_at, pcm_end_at}
use Rattle.spec_cabac.specs.Engine.{renormalized_at}
use Rattle.cabac_writer.specs.Coding.{Coding, Writing, no_bins, with_word, with_words, context_after, is_mps}
use Rattle.cabac_writer.specs.Pulses.{contexts_behind, sample_words, ending}
use Rattle.spec_made.specs.Written.{Bins}
use Rattle.spec_made.specs.PcmRows.{Part, contexts_behind_parts}
use Rattle.made_row_laws.specs.Words.{pulses_of, words_of_parts}

-- contexts don't depend on the interval
word_alike : (c d : Coding) (contexts : List ℕ) (w : Word Bin BinValue)
    → (with_word (c, contexts) w).1 ≡ (with_word (d, contexts) w).1
unfolding with_word
word_alike c d contexts (Decision i, bin) = refl
word_alike c d contexts (Bypass, bin) = refl
word_alike c d contexts (Terminate, bin) = refl
word_alike c d contexts (PcmStart, x) = refl
word_alike c d contexts (Sample size, x) = refl
word_alike c d contexts (PcmEnd, x) = refl

pub words_alike : (words : Bins) (s t : Writing) → s.1 ≡ t.1 → (with_words s words).1 ≡ (with_words t words).1
words_alike [] s t same = same
words_alike (w ∷ words) s t same =
    words_alike words (with_word s w) (with_word t w)
    (word_alike s.0 t.0 s.1 w ∙ ap (λ (l : List ℕ). (with_word (t.0, l) w).1) same)

with_words-append : (s : Writing) (front back : Bins)
    → with_words s (front ++ back) ≡ with_words (with_words s front) back
with_words-append s [] back = refl
with_words-append s (w ∷ front) back = with_words-append (with_word s w) front back

pub contexts-append : (front back : Bins) (contexts : List ℕ)
    → contexts_behind (front ++ back) contexts ≡ contexts_behind back (contexts_behind front contexts)
contexts-append front back contexts =
    ap (λ (s : Writing). s.1) (with_words-append (no_bins, contexts) front back)
    ∙ words_alike back (with_words (no_bins, contexts) front) (no_bins, contexts_behind front contexts) refl

samples_keep : (values : List ℕ) (rest : Bins) (contexts : List ℕ)
    → contexts_behind (sample_words (pulses_of values) ++ rest) contexts ≡ contexts_behind rest contexts
unfolding with_word
samples_keep [] rest contexts = refl
samples_keep (v ∷ values) rest contexts = samples_keep values rest contexts

ending_keeps : (bins : Bins) (contexts : List ℕ)
    → contexts_behind (bins ++ ending) contexts ≡ contexts_behind bins contexts
unfolding with_word
ending_keeps bins contexts = contexts-append bins ending contexts

start_keeps : (rest : Bins) (contexts : List ℕ)
    → contexts_behind ((PcmStart, tt) ∷ rest) contexts ≡ contexts_behind rest contexts
unfolding with_word
start_keeps rest contexts = refl

end_keeps : (rest : Bins) (contexts : List ℕ)
    → contexts_behind ((PcmEnd, tt) ∷ rest) contexts ≡ contexts_behind rest contexts
unfolding with_word
end_keeps rest contexts = refl

pub parts_change : (parts : List Part) (rest : Bins) (contexts : List ℕ)
    → contexts_behind (words_of_parts parts rest) contexts
    ≡ contexts_behind rest (contexts_behind_parts parts contexts)
parts_change [] rest contexts = refl
parts_change (p ∷ parts) rest contexts =
    let later : Bins = words_of_parts parts rest in
    let samples : Bins = sample_words (pulses_of p.samples) in
    contexts-append (p.bins ++ ending) ((PcmStart, tt) ∷ (samples ++ (PcmEnd, tt) ∷ later)) contexts
    ∙ ap (contexts_behind ((PcmStart, tt) ∷ (samples ++ (PcmEnd, tt) ∷ later))) (ending_keeps p.bins contexts)
    ∙ start_keeps (samples ++ (PcmEnd, tt) ∷ later) (contexts_behind p.bins contexts)
    ∙ samples_keep p.samples ((PcmEnd, tt) ∷ later) (contexts_behind p.bins contexts)
    ∙ end_keeps later (contexts_behind p.bins contexts)
    ∙ parts_change parts rest (contexts_behind p.bins contexts)

-- ---- contexts behind what is read

record IsTail (x : Bool) (k : ℕ) (d : Bool × (Engine × ℕ)) : Type 0 where
  bin : x ≡ d.0
  context : k ≡ d.1.1

tail_of : (r : Option Engine) (x : Bool) (k : ℕ) (d : Bool × (Engine × ℕ))
    → (r >>= (λ after. Some (x, (after, k)))) ≡ Some d
    → IsTail x k d
tail_of None x k d e = absurd (none-some d e)
tail_of (Some after) x k d e =
    let same : (x, (after, k)) ≡ d = same_Some _ _ e in
    record {
      bin = ap (λ (p : Bool × (Engine × ℕ)). p.0) same;
      context = ap (λ (p : Bool × (Engine × ℕ)). p.1.1) same;
    }

-- the other symbol isn't the more probable one
other_symbol : (m : Bool) (a b : ℕ) → cond (beq (not m) m) a b ≡ b
other_symbol true a b = refl
other_symbol false a b = refl

same_symbol : (m : Bool) (a b : ℕ) → cond (beq m m) a b ≡ a
same_symbol true a b = refl
same_symbol false a b = refl

either_after : (less : Bool) (r t : Option Engine) (context : ℕ) (d : Bool × (Engine × ℕ))
    → cond less (r >>= (λ after. Some (not (context % 2 == 1), (after, context_after_lps context))))
    (t >>= (λ after. Some ((context % 2 == 1), (after, context_after_mps context)))) ≡ Some d
    → d.1.1 ≡ context_after context d.0
unfolding context_after
either_after true r t context d e =
    let is = tail_of r (not (context % 2 == 1)) (context_after_lps context) d e in
    sym is.context
    ∙ sym (other_symbol (context % 2 == 1) (context_after_mps context) (context_after_lps context))
    ∙ ap (λ b. cond (is_mps context b) (context_after_mps context) (context_after_lps context)) is.bin
either_after false r t context d e =
    let is = tail_of t (context % 2 == 1) (context_after_mps context) d e in
    sym is.context
    ∙ sym (same_symbol (context % 2 == 1) (context_after_mps context) (context_after_lps context))
    ∙ ap (λ b. cond (is_mps context b) (context_after_mps context) (context_after_lps context)) is.bin

decision_after : (e : Engine) (context : ℕ) (d : Bool × (Engine × ℕ)) → decision_at (e, context) ≡ Some d
    → d.1.1 ≡ context_after context d.0
unfolding decision_at
decision_after e context d is =
    let lps : ℕ = lps_range_of (context / 2) e.range in
    either_after (nat_le (e.range - lps) e.offset) (renormalized_at lps (e.offset - (e.range - lps)) e)
    (renormalized_at (e.range - lps) e.offset e) context d is

decided_after : (contexts : List ℕ) (i : ℕ) (e : Engine) (r : Option (Bool × (Engine × ℕ))) (bin : Bool)
    (next : State)
    → decision_at (e, slice_index contexts i) ≡ r → decided contexts i r ≡ Ok (bin, next)
    → next.1 ≡ slice_set contexts i (context_after (slice_index contexts i) bin)
decided_after contexts i e None bin next is read = absurd cc
decided_after contexts i e (Some d) bin next is read =
    let same : (d.0, (d.1.0, slice_set contexts i d.1.1)) ≡ (bin, next) = ok_is _ _ read in
    let after = decision_after e (slice_index contexts i) d is in
    sym (ap (λ (p : Bool × State). p.1.1) same)
    ∙ ap (slice_set contexts i) after
    ∙ ap (λ (b : Bool). slice_set contexts i (context_after (slice_index contexts i) b))
    (ap (λ (p : Bool × State). p.0) same)

stepped_after : {X : Type 0} (contexts : List ℕ) (r : Option (X × Engine)) (x : X) (next : State)
    → stepped contexts r ≡ Ok (x, next) → next.1 ≡ contexts
stepped_after contexts None x next read = absurd cc
stepped_after {X} contexts (Some d) x next read = sym (ap (λ (p : X × State). p.1.1) (ok_is _ _ read))

placed_after : (contexts : List ℕ) (r : Option (ℕ × Engine)) (x : Unit {0}) (next : State)
    → placed contexts r ≡ Ok (x, next) → next.1 ≡ contexts
placed_after contexts None x next read = absurd cc
placed_after contexts (Some d) x next read = sym (ap (λ (p : Unit {0} × State). p.1.1) (ok_is _ _ read))

moved_after : (contexts : List ℕ) (r : Option Engine) (x : Unit {0}) (next : State)
    → moved contexts r ≡ Ok (x, next) → next.1 ≡ contexts
moved_after contexts None x next read = absurd cc
moved_after contexts (Some d) x next read = sym (ap (λ (p : Unit {0} × State). p.1.1) (ok_is _ _ read))

word_after : (w : Word Bin BinValue) (s next : State) → bin_at w.0 s ≡ Ok (w.1, next)
    → next.1 ≡ (with_word (no_bins, s.1) w).1
unfolding bin_at with_word
word_after (Decision i, bin) s next read =
    decided_after s.1 i s.0 (decision_at (s.0, slice_index s.1 i)) bin next refl read
word_after (Bypass, bin) s next read = stepped_after s.1 (bypass_at s.0) bin next read
word_after (Terminate, bin) s next read = stepped_after s.1 (terminate_at s.0) bin next read
word_after (PcmStart, x) s next read = placed_after s.1 (pcm_start_at s.0) x next read
word_after (Sample size, x) s next read = stepped_after s.1 (sample_at size s.0) x next read
word_after (PcmEnd, x) s next read = moved_after s.1 (pcm_end_at s.0) x next read

-- the contexts behind words that data have
pub read_contexts : (words : Bins) (s t : State) → Has bin_at s words t → t.1 ≡ contexts_behind words s.1
read_contexts [] s t has = sym (ap (λ (u : State). u.1) has)
read_contexts (w ∷ words) s t has =
    let first : has.0.1 ≡ (with_word (no_bins, s.1) w).1 = word_after w s has.0 has.1 in
    read_contexts words has.0 t has.2
    ∙ words_alike words (no_bins, has.0.1) (with_word (no_bins, s.1) w) first
