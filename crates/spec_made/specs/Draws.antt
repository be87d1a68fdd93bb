-- What is drawn: words of a generator, one after the other.
use Rattle.std.specs.Prelude.{ℕ, zero, suc, ◌%◌, ◌==◌, Bool, true, false, List, [], ◌∷◌, map, Some, None}
use Rattle.std.specs.Prelude.{slice_set, slice_index_or}
use Rattle.rand_core.specs.Pcg32Seed.{pcg32_seed}
use Rattle.rand_pcg.specs.Lcg.{Lcg}
use Rattle.rand_pcg.specs.Pcg.{pcg32, pcg32_of_seed}
use Rattle.spec_made.specs.declared.units.PcmUnit.{PcmUnit}
use Rattle.spec_made.specs.declared.units.InterUnit.{InterUnit}
use Rattle.spec_made.specs.declared.units.Shift.{Shift}
use Rattle.spec_made.specs.declared.units.Motion.{Motion}

-- a unit that isn't there, beside which nothing is split or skipped
abbrev pub no_unit : InterUnit
no_unit = record { split = false; skips = false ∷ false ∷ false ∷ false ∷ [] }

-- something drawn, and the generator behind it
abbrev pub Drawn : Type 0 → Type 0
Drawn X = X × Lcg

-- the generator of a seed
abbrev pub generator_of : ℕ → Lcg
generator_of seed = pcg32_of_seed (pcg32_seed 16 seed)

-- so many words
unfoldable pub draws : ℕ → Lcg → Drawn (List ℕ)
draws zero g = ([], g)
draws (suc n) g =
    let word = pcg32 g in
    let rest = draws n word.1 in
    (word.0 ∷ rest.0, rest.1)

abbrev pub is_odd : ℕ → Bool
is_odd word = word % 2 == 1

abbrev pub low_bits : ℕ → ℕ
low_bits word = word % 256

-- a unit by pulse code modulation: whether it is split, and the eight low bits of a word for each sample
unfoldable pub pcm_unit_of : Lcg → Drawn PcmUnit
pcm_unit_of g =
    let split = pcg32 g in
    let words = draws 384 split.1 in
    (record { split = is_odd split.0; samples = map low_bits words.0 }, words.1)

-- a word for each coding unit, which is skipped where it is odd
unfoldable pub skips_of : Bool → Lcg → Drawn (List Bool)
skips_of true g = (map is_odd (draws 4 g).0, (draws 4 g).1)
skips_of false g = (is_odd (pcg32 g).0 ∷ false ∷ false ∷ false ∷ [], (pcg32 g).1)

unfoldable pub inter_unit_of : Lcg → Drawn InterUnit
inter_unit_of g =
    let split = pcg32 g in
    let skips = skips_of (is_odd split.0) split.1 in
    (record { split = is_odd split.0; skips = skips.0 }, skips.1)

-- so many of what a function draws
unfoldable pub all_of : {X : Type 0} → (Lcg → Drawn X) → ℕ → Lcg → Drawn (List X)
all_of one zero g = ([], g)
all_of one (suc n) g =
    let first = one g in
    let rest = all_of one n first.1 in
    (first.0 ∷ rest.0, rest.1)

-- the units of a picture, 8 in each of 6 rows
abbrev pub pcm_units_of : Lcg → Drawn (List PcmUnit)
pcm_units_of g = all_of pcm_unit_of 48 g

-- the first coding unit isn't skipped
abbrev pub coded_first : InterUnit → InterUnit
coded_first u = record { split = u.split; skips = slice_set u.skips 0 false }

abbrev pub with_coded_first : List InterUnit → List InterUnit
with_coded_first units = slice_set units 0 (coded_first (slice_index_or units 0 no_unit))

abbrev pub inter_units_of : Lcg → Drawn (List InterUnit)
inter_units_of g = (with_coded_first (all_of inter_unit_of 48 g).0, (all_of inter_unit_of 48 g).1)

-- a vector, dx and then dy
unfoldable pub shift_of : Lcg → Drawn Shift
shift_of g =
    let across = pcg32 g in
    let down = pcg32 across.1 in
    (record { across = across.0 % 201; down = down.0 % 201 }, down.1)

-- the vectors of a P picture, and of a B picture
unfoldable pub motion_of : Bool → Lcg → Drawn Motion
motion_of false g = (record { first = (shift_of g).0; second = None }, (shift_of g).1)
motion_of true g =
    let first = shift_of g in
    let second = shift_of first.1 in
    (record { first = first.0; second = Some second.0 }, second.1)
