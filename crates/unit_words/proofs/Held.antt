-- Words of what a unit's work left are those of the values of its picture.
use Rattle.std.proofs.Common.{◌≡◌, ℕ, zero, suc, ◌+◌, ◌*◌, ◌/◌, ◌<◌, List, slice_index, sym, ap, ◌∙◌, arith, refl}
use Rattle.std.proofs.Common.{Bool, true, false, cond, nat_lt}
use Rattle.std.proofs.lemmas.Bool.{ltb-true}
use Rattle.hv_base.specs.declared.line.Phase.TheVariants.{B}
use Rattle.unit_trees.specs.CabacContexts.{packed}
use Rattle.unit_trees.specs.CabacEngine.{state_of}
use Rattle.sample_words.specs.Carried.{carried_word}
use Rattle.sample_words.specs.Contents.{component_side, there}
use Rattle.sample_words.specs.Offsets.{first_word, second_word}
use Rattle.sample_words.specs.Sizes.{columns, ctb_size, samples_a_word}
use Rattle.sample_words.specs.Values.{modes_word, sample_bits, samples_word, vectors_word}
use Rattle.sample_words.specs.declared.carry.Carry.{Carry}
use Rattle.sample_words.specs.declared.modes.PlaceModes.{PlaceModes}
use Rattle.sample_words.specs.declared.unit_content.UnitContent.TheVariants.{Samples, Vectors, Modes, Offsets}
use Rattle.sample_words.specs.declared.unit_content.UnitContent.TheVariants.{Contexts, Carried}
use Rattle.unit_words.specs.declared.done_unit.DoneUnit.{DoneUnit}
use Rattle.unit_words.specs.Units.{unit_modes, unit_motion, unit_sample}
use Rattle.unit_words.specs.Work.{HasContent, height, width}
use Rattle.unit_words.proofs.Parts.{same_lanes}

same_if : (test : Bool) (x y : ℕ) → (test ≡ true → x ≡ y) → cond test x 0 ≡ cond test y 0
same_if true x y same = same refl
same_if false x y same = refl

-- samples that are the same as far as they are there
there_same : (count : ℕ) (f g : ℕ → ℕ) → ((x : ℕ) → x < count → f x ≡ g x) → (i : ℕ) → there count f i ≡ there count g i
there_same count f g same i = same_if (nat_lt i count) (f i) (g i) (λ t. same i (ltb-true i count t))

pub samples_held : (d : DoneUnit) (c from line k size word : ℕ) → from ≡ c → c < 3
    → line < component_side c (height d) → size ≡ component_side c (width d)
    → word ≡ samples_word d.layout.now (λ j. there size (λ x. unit_sample d.built.now.samples from x line)
    (samples_a_word d.layout.now * k + j))
    → HasContent d (Samples c line k) word
samples_held d c from line k size word same component below across is = λ p picture holds.
    let n = samples_a_word d.layout.now in
    let f : ℕ → ℕ = λ x. unit_sample d.built.now.samples c x line in
    let g : ℕ → ℕ = λ x. p.samples B c (component_side c (d.column * ctb_size d.layout.now) + x)
    (component_side c (d.row * ctb_size d.layout.now) + line) in
    is
    ∙ ap (λ (m : ℕ). samples_word d.layout.now (λ j. there size (λ x. unit_sample d.built.now.samples m x line)
    (n * k + j))) same
    ∙ ap (λ (m : ℕ). samples_word d.layout.now (λ j. there m f (n * k + j))) across
    ∙ same_lanes (sample_bits d.layout.now) n (λ j. there (component_side c (width d)) f (n * k + j))
    (λ j. there (component_side c (width d)) g (n * k + j))
    (λ j. there_same (component_side c (width d)) f g
    (λ x lt. sym (holds.samples c x line component lt below)) (n * k + j))

pub vectors_held : (d : DoneUnit) (x y word : ℕ) → x < width d / 4 → y < height d / 4
    → word ≡ vectors_word (unit_motion d.built.now.motion x y) → HasContent d (Vectors x y) word
vectors_held d x y word across down is = λ p picture holds.
    is ∙ ap vectors_word (sym (holds.motion x y across down))

pub modes_held : (d : DoneUnit) (x y word : ℕ) → x < width d / 4 → y < height d / 4
    → word ≡ modes_word (unit_modes d.records.now d.built.now.filters d.segment x y)
    (unit_motion d.built.now.motion x y)
    → HasContent d (Modes x y) word
modes_held d x y word across down is = λ p picture holds.
    let m : PlaceModes = unit_modes d.records.now d.built.now.filters d.segment x y in
    is ∙ ap (modes_word m) (sym (holds.motion x y across down))
    ∙ ap (λ (q : PlaceModes). modes_word q
    (p.motion (d.column * ctb_size d.layout.now / 4 + x) (d.row * ctb_size d.layout.now / 4 + y)))
    (sym (holds.modes x y across down))

pub offsets_held : (d : DoneUnit) (words : List ℕ) → slice_index words 0 ≡ first_word d.records.now.sao
    → slice_index words 1 ≡ second_word d.records.now.sao
    → (k : ℕ) → k < 2 → HasContent d (Offsets k) (slice_index words k)
offsets_held d words first second zero below = λ p picture holds. first ∙ ap first_word (sym holds.offsets)
offsets_held d words first second (suc zero) below = λ p picture holds. second ∙ ap second_word (sym holds.offsets)
offsets_held d words first second (suc (suc k)) below = absurd (omega arith)

pub contexts_held : (d : DoneUnit) (words : List ℕ) → d.column ≡ 1 → words ≡ packed d.reader.now.bins.contexts
    → (k : ℕ) → HasContent d (Contexts k) (slice_index words k)
contexts_held d words is e k = λ p picture holds.
    ap (λ (xs : List ℕ). slice_index xs k) (e ∙ sym (holds.contexts is))

pub carried_held : (d : DoneUnit) (state contexts : List ℕ) (k word : ℕ) → d.column + 1 ≡ columns d.layout.now
    → state ≡ state_of d.reader.now.bins.interval → contexts ≡ packed d.reader.now.bins.contexts
    → word ≡ carried_word (record { state = state; contexts = contexts; last = d.reader.now.last }) k
    → HasContent d (Carried k) word
carried_held d state contexts k word is e f told = λ p picture holds.
    told
    ∙ ap (λ (xs : List ℕ). carried_word (record { state = xs; contexts = contexts; last = d.reader.now.last }) k) e
    ∙ ap (λ (xs : List ℕ). carried_word (record {
      state = state_of d.reader.now.bins.interval;
      contexts = xs;
      last = d.reader.now.last;
    }) k) f
    ∙ ap (λ (c : Carry). carried_word c k) (sym (holds.carried is))
