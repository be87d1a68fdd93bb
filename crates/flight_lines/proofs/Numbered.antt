-- Lines by number, and the lines of a flight by those of its words.
use Rattle.std.proofs.Common.{◌≡◌, refl, ℕ, ◌+◌, ◌*◌, ◌/◌, ◌%◌, ◌<◌, inl, inr, arith, ap, sym, length}
use Rattle.std.proofs.Common.{◌∙◌}
use Rattle.std.proofs.lemmas.Bool.{cases_lt}
use Rattle.std.proofs.lemmas.Nat.{div-mul-add, mod-mul-add, div_below, mod_below, div-add-mod'}
use Rattle.hv_base.specs.declared.line.Line.{Line}
use Rattle.hv_base.specs.declared.line.Phase.{Phase}
use Rattle.hv_base.specs.declared.line.Phase.TheVariants.{B, V, H, S}
use Rattle.flight_plan.specs.Flight.{FlightRows, PictureRows, picture_at}
use Rattle.board_core.specs.Places.{full_count, IsLine, phase_units}
use Rattle.board_core.proofs.Order.{line_inside, same_fields}
use Rattle.sample_words.specs.declared.sizes.FlightSizes.{FlightSizes}
use Rattle.sample_words.specs.Sizes.{IsFlight as AreSizes, columns, rows}
use Rattle.sample_words.specs.Words.{IsLine as IsWordLine, line_at, line_number, line_units, lines, phase_at}
use Rattle.sample_words.specs.Words.{count_word, phase_number}
use Rattle.sample_words.proofs.Bounds.{few_rows}
use Rattle.sample_words.proofs.Extents.{some_rows}
use Rattle.sample_words.proofs.Owners.{line_inside as number_inside}
use Rattle.flight_lines.specs.Flights.{IsSized}

phase_again : (p : Phase) → phase_at (phase_number p) ≡ p
phase_again B = refl
phase_again V = refl
phase_again H = refl
phase_again S = refl

few_phases : (p : Phase) → phase_number p < 4
few_phases B = omega arith
few_phases V = omega arith
few_phases H = omega arith
few_phases S = omega arith

number_again : (k : ℕ) → k < 4 → phase_number (phase_at k) ≡ k
number_again k lt = elim (cases_lt k 1) [
  | inl zero ↦ let e : k ≡ 0 = omega arith in rw e refl
  | inr some ↦ elim (cases_lt k 2) [
    | inl one ↦ let e : k ≡ 1 = omega arith in rw e refl
    | inr more ↦ elim (cases_lt k 3) [
      | inl two ↦ let e : k ≡ 2 = omega arith in rw e refl
      | inr three ↦ let e : k ≡ 3 = omega arith in rw e refl
    ]
  ]
]

-- a line is that of its number
pub line_again : (s : FlightSizes) (l : Line) → IsWordLine s l → line_at s (line_number s l) ≡ l
line_again s l is =
    let row = is.row in
    let few = few_phases l.phase in
    let n : ℕ = line_number s l in
    let phase : phase_at (n % 4) ≡ l.phase =
    let e : n % 4 ≡ phase_number l.phase = omega arith in ap phase_at e ∙ phase_again l.phase in
    let whole : n / 4 ≡ l.picture * rows s + l.row = omega arith in
    let picture : n / 4 / rows s ≡ l.picture =
    ap (λ (k : ℕ). k / rows s) whole ∙ div-mul-add l.picture (rows s) l.row row in
    let place : n / 4 % rows s ≡ l.row = ap (λ (k : ℕ). k % rows s) whole ∙ mod-mul-add l.picture (rows s) l.row row in
    same_fields (line_at s n) l phase picture place

pub eighth_of_count : (s : FlightSizes) (l : Line) → count_word s l / 8 ≡ line_number s l
unfolding count_word
eighth_of_count s l = omega arith

pub number_of_words : (s : FlightSizes) (l : Line) → IsWordLine s l → line_number s l < lines s
number_of_words s l is = number_inside s l is

-- what has a number is a line
pub word_line_is : (s : FlightSizes) (n : ℕ) → AreSizes s → n < lines s → IsWordLine s (line_at s n)
word_line_is s n sizes less =
    let some = some_rows s sizes in
    let below : n / 4 < s.pictures * rows s = omega arith in
    record { picture = div_below (n / 4) (rows s) s.pictures some below; row = mod_below (n / 4) (rows s) some }

-- and a picture and a row of few
pub few_of_number : (s : FlightSizes) (n : ℕ) → AreSizes s → n < lines s
    → (n / 4 / rows s < 65536) × (n / 4 % rows s < 512)
few_of_number s n sizes less =
    let is = word_line_is s n sizes less in
    let picture = is.picture in
    let row = is.row in
    let pictures = sizes.pictures in
    let few = few_rows s sizes in
    (omega (arith, picture, pictures), omega (arith, row, few))

module _ (plan : FlightRows) (s : FlightSizes) (sized : IsSized plan s) where
  -- a line of the flight is one of its words
  pub word_line : (l : Line) → IsLine plan l → IsWordLine s l
  word_line l line =
      let inside = line_inside plan l line in
      let tall = sized.heights l.picture inside in
      let count = sized.count in
      record { picture = omega (arith, inside, count); row = omega (arith, line, tall) }

  pub flight_line : (l : Line) → IsWordLine s l → IsLine plan l
  flight_line l is =
      let picture = is.picture in
      let row = is.row in
      let count = sized.count in
      let inside : l.picture < length plan.pictures = omega (arith, picture, count) in
      let tall = sized.heights l.picture inside in
      omega (arith, row, tall)

  pub number_less : (l : Line) → IsLine plan l → line_number s l < lines s
  number_less l line = number_inside s l (word_line l line)

  pub number_line : (l : Line) → IsLine plan l → line_at s (line_number s l) ≡ l
  number_line l line = line_again s l (word_line l line)

  -- and what has a number is a line of the flight
  pub line_is : (n : ℕ) → n < lines s → IsLine plan (line_at s n)
  line_is n less = flight_line (line_at s n) (word_line_is s n sized.sizes less)

  pub number_is : (n : ℕ) → n < lines s → line_number s (line_at s n) ≡ n
  number_is n less =
      let phase = number_again (n % 4) (omega arith) in
      let whole = div-add-mod' (n / 4) (rows s) in
      omega arith

  -- lines of one number are one line
  pub same_number : (l m : Line) → IsLine plan l → IsLine plan m → line_number s l ≡ line_number s m → l ≡ m
  same_number l m line_l line_m e = sym (number_line l line_l) ∙ (ap (line_at s) e ∙ number_line m line_m)

  units_by : (p : Phase) (picture : PictureRows) → picture.width ≡ columns s → phase_units p picture ≡ line_units s p
  units_by B picture e = e
  units_by V picture e = refl
  units_by H picture e = refl
  units_by S picture e = refl

  -- the units of a line
  pub units_are : (l : Line) → IsLine plan l → full_count plan l ≡ line_units s l.phase
  units_are l line =
      units_by l.phase (picture_at plan l.picture) (sized.widths l.picture (line_inside plan l line))
