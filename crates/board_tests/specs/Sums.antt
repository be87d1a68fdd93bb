-- Rows of units, each of which adds its input to the unit on its left and to one of the row above, and which of them
-- break a rule.
use Rattle.std.specs.Prelude.{ℕ, zero, suc, ◌+◌, ◌-◌, ◌*◌, ◌/◌, ◌%◌, ◌^◌, List, [], ◌∷◌, min, slice_index, Bool, true}
use Rattle.std.specs.Prelude.{false, ◌&&◌, nat_lt, nat_le, nat_eq, Option, Some, None, if◌then◌else◌}
use Rattle.progress_words.specs.Meanings.{Meaning, Spot}

-- the units of a row, from their inputs and those of the row above
abbrev pub row : (ℕ → ℕ) → (ℕ → ℕ) → ℕ → ℕ
row input above zero = ((input zero + 0) % 2 ^ 64 + above zero) % 2 ^ 64
row input above (suc k) = ((input (suc k) + row input above k) % 2 ^ 64 + above (suc k)) % 2 ^ 64

-- unit k of row l; a unit reads the one above and to the right of it, in the last column the one above
unfoldable pub value : List ℕ → ℕ → ℕ → ℕ → ℕ
value xs w zero = row (λ k. slice_index xs (zero * w + k)) (λ k. 0)
value xs w (suc l) = row (λ k. slice_index xs (suc l * w + k)) (λ k. value xs w l (min (k + 1) (w - 1)))

-- what a unit reads: the one on its left, and the one above
abbrev pub left_of : List ℕ → ℕ → ℕ → ℕ → ℕ
left_of xs w l zero = 0
left_of xs w l (suc k) = value xs w l k

abbrev pub above_of : List ℕ → ℕ → ℕ → ℕ → ℕ
above_of xs w zero k = 0
above_of xs w (suc l) k = value xs w l (min (k + 1) (w - 1))

-- the words of a unit: its value, and the numbers after it
abbrev pub word_of : List ℕ → ℕ → Spot → ℕ
word_of xs w o = (value xs w o.line o.unit + o.index) % 2 ^ 64

abbrev pub place : ℕ → ℕ → ℕ → ℕ → ℕ → ℕ
place rows w l k j = (8 * rows + 16) + ((l * w + k) * 2 + j)

abbrev pub owner : ℕ → ℕ → ℕ → Spot
owner rows w at =
    record {
      line = (at - (8 * rows + 16)) / 2 / w;
      unit = (at - (8 * rows + 16)) / 2 % w;
      index = (at - (8 * rows + 16)) % 2;
    }

abbrev pub needs : ℕ → ℕ → ℕ → List (ℕ × ℕ)
needs w zero k = []
needs w (suc l) k = (l, min (k + 2) w) ∷ []

-- how many units of a row have what they need, where n units of the row above are sound
abbrev pub fed_by : ℕ → ℕ → ℕ
fed_by w n = if nat_le w n then w else n - 1

-- the units of row l that are sound: those before its mark that have what they need
unfoldable pub sound_units : List ℕ → ℕ → ℕ → ℕ
sound_units marks w zero = min (slice_index marks zero) w
sound_units marks w (suc l) = min (slice_index marks (suc l)) (fed_by w (sound_units marks w l))

-- the units of row l that have what they need
unfoldable pub fed_units : List ℕ → ℕ → ℕ → ℕ
fed_units marks w zero = w
fed_units marks w (suc l) = fed_by w (sound_units marks w l)

abbrev pub rule_if : Bool → Option ℕ
rule_if true = Some 7
rule_if false = None

-- the unit at a row's mark breaks rule 7
abbrev pub bad_rule : ℕ → List ℕ → ℕ → ℕ → ℕ → Option ℕ
bad_rule rows marks w l k =
    rule_if (nat_lt l rows && (nat_eq k (slice_index marks l) && nat_lt k (fed_units marks w l)))

unfoldable pub meaning_of : List ℕ → List ℕ → ℕ → ℕ → Meaning
meaning_of xs marks rows w =
    record {
      lines = rows;
      total = (8 * rows + 16) + rows * w * 2;
      line_at = λ t. t;
      ticket_of = λ l. l;
      width = λ l. w;
      number = λ l k. l * w + k;
      size = λ l k. 2;
      owner = owner rows w;
      needs = needs w;
      read_needs = needs w;
      expected = λ at. word_of xs w (owner rows w at);
      sound = λ l k. nat_lt k (sound_units marks w l);
      bad = bad_rule rows marks w;
    }
