-- Which word belongs to what. First stand the words that many threads write, eight words apart: a count for each line,
-- the ticket, the least fault. Behind them stand pictures, in each its rows, in each row the coding tree units of phase
-- B and the row behind all loop filters, phase S.
use Rattle.std.specs.Prelude.{◌≡◌, ℕ, ◌+◌, ◌-◌, ◌*◌, ◌/◌, ◌%◌, ◌<◌, ◌==◌, min, nat_lt, if◌then◌else◌, Bool, true}
use Rattle.std.specs.Prelude.{false}
use Rattle.hv_base.specs.declared.line.Line.{Line}
use Rattle.hv_base.specs.declared.line.Phase.{Phase}
use Rattle.hv_base.specs.declared.line.Phase.TheVariants.{B, V, H, S}
use Rattle.sample_words.specs.declared.sizes.FlightSizes.{FlightSizes}
use Rattle.sample_words.specs.declared.unit_word.UnitWord.{UnitWord}
use Rattle.sample_words.specs.declared.unit_word.WordOwner.{WordOwner}
use Rattle.sample_words.specs.declared.unit_word.WordOwner.TheVariants.{Count, Ticket, Fault, Spare, Unit}
use Rattle.sample_words.specs.Sizes.{columns, rows, ctb_size, height_of, common_words, tree_words, tree_start}
use Rattle.sample_words.specs.Sizes.{built_words, filtered_words, row_words, picture_words, phase_start}

-- the number of a phase, and the phase of a number
abbrev pub phase_number : Phase → ℕ
phase_number B = 0
phase_number V = 1
phase_number H = 2
phase_number S = 3

abbrev pub phase_at : ℕ → Phase
phase_at k = if k == 0 then B else (if k == 1 then V else (if k == 2 then H else S))

-- a line of the flight
pub record IsLine (s : FlightSizes) (l : Line) : Type 0 where
  pub picture : l.picture < s.pictures
  pub row : l.row < rows s

-- the units of a line, and the words of one of them: a row behind vertical or horizontal edges alone has none
abbrev pub line_units : FlightSizes → Phase → ℕ
line_units s B = columns s
line_units s V = 1
line_units s H = 1
line_units s S = 1

abbrev pub phase_words : FlightSizes → Phase → ℕ → ℕ → ℕ
phase_words s B height unit = tree_words s height unit
phase_words s V height unit = 0
phase_words s H height unit = 0
phase_words s S height unit = filtered_words s height

abbrev pub unit_words : FlightSizes → Line → ℕ → ℕ
unit_words s l unit = phase_words s l.phase (height_of s l.row) unit

-- whether the units of a phase have words
abbrev pub has_words : Phase → Bool
has_words B = true
has_words V = false
has_words H = false
has_words S = true

-- a word of a unit of the flight
pub record IsUnitWord (s : FlightSizes) (u : UnitWord) : Type 0 where
  pub line : IsLine s u.line
  pub unit : u.unit < line_units s u.line.phase
  pub index : u.index < unit_words s u.line u.unit

-- lines by number
abbrev pub line_number : FlightSizes → Line → ℕ
line_number s l = (l.picture * rows s + l.row) * 4 + phase_number l.phase

abbrev pub line_at : FlightSizes → ℕ → Line
line_at s n = record { phase = phase_at (n % 4); picture = n / 4 / rows s; row = n / 4 % rows s }

abbrev pub lines : FlightSizes → ℕ
lines s = s.pictures * rows s * 4

-- the words that many threads write, and the first word behind them
unfoldable pub count_word : FlightSizes → Line → ℕ
count_word s l = line_number s l * 8

unfoldable pub ticket_word : FlightSizes → ℕ
ticket_word s = lines s * 8

unfoldable pub fault_word : FlightSizes → ℕ
fault_word s = lines s * 8 + 8

unfoldable pub first_unit_word : FlightSizes → ℕ
first_unit_word s = lines s * 8 + 16

-- all words of a flight
unfoldable pub words : FlightSizes → ℕ
words s = first_unit_word s + s.pictures * picture_words s

-- where a unit begins in its phase, in its row and in its picture
abbrev pub start_in_phase : FlightSizes → Phase → ℕ → ℕ → ℕ
start_in_phase s B height unit = tree_start s height unit
start_in_phase s V height unit = 0
start_in_phase s H height unit = 0
start_in_phase s S height unit = 0

unfoldable pub start_in_row : FlightSizes → Line → ℕ → ℕ
start_in_row s l unit =
    phase_start s (height_of s l.row) l.phase + start_in_phase s l.phase (height_of s l.row) unit

unfoldable pub start_in_picture : FlightSizes → Line → ℕ → ℕ
start_in_picture s l unit = l.row * row_words s (ctb_size s) + start_in_row s l unit

-- the first word of a unit, behind which all others follow
unfoldable pub unit_start : FlightSizes → Line → ℕ → ℕ
unit_start s l unit = first_unit_word s + (l.picture * picture_words s + start_in_picture s l unit)

abbrev pub word_of : FlightSizes → UnitWord → ℕ
word_of s u = unit_start s u.line u.unit + u.index

-- of parts of one size, one behind the other, the one that has an offset; the last part has all offsets that are left
abbrev pub part_at : ℕ → ℕ → ℕ → ℕ
part_at size count offset = min (offset / size) (count - 1)

-- the column of the unit that has an offset in the coding tree units of a row: the second one's contexts don't count
abbrev pub without_contexts : ℕ → ℕ → ℕ
without_contexts size offset =
    if nat_lt offset (2 * size) then offset else (if nat_lt offset (2 * size + 20) then 2 * size - 1 else offset - 20)

unfoldable pub column_at : FlightSizes → ℕ → ℕ → ℕ
column_at s height offset =
    part_at (common_words s (ctb_size s) height) (columns s)
    (without_contexts (common_words s (ctb_size s) height) offset)

abbrev pub unit_word : Phase → ℕ → ℕ → ℕ → ℕ → UnitWord
unit_word phase picture row unit index =
    record { line = record { phase = phase; picture = picture; row = row }; unit = unit; index = index }

-- the word at an offset in the coding tree units of a row, in a row, in a picture
unfoldable pub tree_word_at : FlightSizes → ℕ → ℕ → ℕ → UnitWord
tree_word_at s picture row offset =
    let column : ℕ = column_at s (height_of s row) offset in
    unit_word B picture row column (offset - tree_start s (height_of s row) column)

unfoldable pub row_word_at : FlightSizes → ℕ → ℕ → ℕ → UnitWord
row_word_at s picture row offset =
    if nat_lt offset (built_words s (height_of s row))
    then tree_word_at s picture row offset
    else unit_word S picture row 0 (offset - built_words s (height_of s row))

unfoldable pub picture_word_at : FlightSizes → ℕ → ℕ → UnitWord
picture_word_at s picture offset =
    let row : ℕ = part_at (row_words s (ctb_size s)) (rows s) offset in
    row_word_at s picture row (offset - row * row_words s (ctb_size s))

unfoldable pub unit_word_at : FlightSizes → ℕ → UnitWord
unit_word_at s offset =
    let picture : ℕ = part_at (picture_words s) s.pictures offset in
    picture_word_at s picture (offset - picture * picture_words s)

-- what a word belongs to
abbrev pub shared_owner : FlightSizes → ℕ → WordOwner
shared_owner s k =
    if nat_lt k (lines s) then Count (line_at s k)
    else (if k == lines s then Ticket else Fault)

unfoldable pub owner : FlightSizes → ℕ → WordOwner
owner s word =
    if nat_lt word (first_unit_word s)
    then (if word % 8 == 0 then shared_owner s (word / 8) else Spare)
    else Unit (unit_word_at s (word - first_unit_word s))

-- a word is where its owner has it
unfoldable pub IsOwned : FlightSizes → ℕ → WordOwner → Type 0
IsOwned s word (Count l) = IsLine s l × (count_word s l ≡ word)
IsOwned s word Ticket = ticket_word s ≡ word
IsOwned s word Fault = fault_word s ≡ word
IsOwned s word Spare = (word < first_unit_word s) × (0 < word % 8)
IsOwned s word (Unit u) = IsUnitWord s u × (word_of s u ≡ word)
