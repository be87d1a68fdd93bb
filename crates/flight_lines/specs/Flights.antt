-- A flight as it lies on a board, and what it means to it.
use Rattle.std.specs.Prelude.{ℕ, ◌≡◌, ◌<◌, ◌&&◌, not, nat_lt, Bool, true, false, Option, Some, None, length}
use Rattle.hv_base.specs.declared.line.Line.{Line}
use Rattle.hv_base.specs.declared.line.Phase.TheVariants.{B}
use Rattle.flight_plan.specs.Flight.{FlightRows, IsFlight, picture_at}
use Rattle.board_core.specs.Needs.{read_needs, unit_needs}
use Rattle.board_core.specs.Places.{full_count, IsLine, unit_of}
use Rattle.board_core.specs.States.{IsBad}
use Rattle.sample_words.specs.declared.sizes.FlightSizes.{FlightSizes}
use Rattle.sample_words.specs.declared.unit_word.UnitWord.{UnitWord}
use Rattle.sample_words.specs.Sizes.{IsFlight as AreSizes, columns, rows}
use Rattle.sample_words.specs.Words.{line_at, lines, owner, unit_words, words}
use Rattle.progress_words.specs.Meanings.{Meaning}
use Rattle.flight_lines.specs.Numbers.{drawn_at, expected_by, numbered_needs, spot_by, ticket_at}

-- a flight with the sizes of its pictures in words, and what is told of it: what each word of a unit is to hold,
-- whether the unit of a line is sound, and the number of the rule that it breaks, if it breaks one
pub record BoardFlight : Type 0 where
  pub plan : FlightRows
  pub sizes : FlightSizes
  pub expected : UnitWord → ℕ
  pub sound : Line → ℕ → Bool
  pub rule : Line → ℕ → Option ℕ

-- the rule of a unit, of a flight's units that aren't sound
abbrev pub rule_if : Bool → Option ℕ → Option ℕ
rule_if true rule = rule
rule_if false rule = None

abbrev pub bad_at : BoardFlight → ℕ → ℕ → Option ℕ
bad_at f n x =
    rule_if
    (nat_lt n (lines f.sizes)
    && (nat_lt x (full_count f.plan (line_at f.sizes n)) && not (f.sound (line_at f.sizes n) x)))
    (f.rule (line_at f.sizes n) x)

-- what it means to a board: lines and words have the numbers of their layout
unfoldable pub meaning_of : BoardFlight → Meaning
meaning_of f =
    record {
      lines = lines f.sizes;
      total = words f.sizes;
      line_at = drawn_at f.plan f.sizes;
      ticket_of = ticket_at f.plan f.sizes;
      width = λ n. full_count f.plan (line_at f.sizes n);
      number = λ n x. unit_of f.plan (line_at f.sizes n) x;
      size = λ n x. unit_words f.sizes (line_at f.sizes n) x;
      owner = λ w. spot_by f.sizes (owner f.sizes w);
      needs = λ n x. numbered_needs f.sizes (unit_needs f.plan (line_at f.sizes n) x);
      read_needs = λ n x. numbered_needs f.sizes (read_needs f.plan (line_at f.sizes n) x);
      expected = λ w. expected_by f.expected (owner f.sizes w);
      sound = λ n x. f.sound (line_at f.sizes n) x;
      bad = bad_at f;
    }

-- its pictures have these sizes
pub record IsSized (plan : FlightRows) (s : FlightSizes) : Type 0 where
  pub flight : IsFlight plan
  pub sizes : AreSizes s
  pub count : length plan.pictures ≡ s.pictures
  pub widths : (k : ℕ) → k < length plan.pictures → (picture_at plan k).width ≡ columns s
  pub heights : (k : ℕ) → k < length plan.pictures → (picture_at plan k).rows ≡ rows s

-- rules have numbers below 32
abbrev pub HasFewRules : BoardFlight → Type 0
HasFewRules f = (l : Line) (x r : ℕ) → f.rule l x ≡ Some r → r < 32

-- a unit breaks a rule where the plan tells it as bad, and there alone; then it is a coding tree unit and isn't sound
pub record TellsBad (f : BoardFlight) : Type 0 where
  pub few : HasFewRules f
  pub told : (l : Line) (x : ℕ) → IsLine f.plan l → x < full_count f.plan l → IsBad f.plan (unit_of f.plan l x)
      → (r : ℕ) × (f.rule l x ≡ Some r)
  pub bad : (l : Line) (x r : ℕ) → IsLine f.plan l → x < full_count f.plan l → f.rule l x ≡ Some r
      → IsBad f.plan (unit_of f.plan l x)
  pub phase : (l : Line) (x r : ℕ) → f.rule l x ≡ Some r → l.phase ≡ B
  pub unsound : (l : Line) (x r : ℕ) → IsLine f.plan l → x < full_count f.plan l → f.rule l x ≡ Some r
      → f.sound l x ≡ false

-- a flight that can be worked off on a board
pub record IsOnBoard (f : BoardFlight) : Type 0 where
  pub sized : IsSized f.plan f.sizes
  pub tells : TellsBad f
