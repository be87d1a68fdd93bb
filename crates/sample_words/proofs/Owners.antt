-- What each word belongs to.
use Rattle.std.proofs.Common.{◌≡◌, refl, ℕ, ◌+◌, ◌-◌, ◌*◌, ◌/◌, ◌%◌, ◌<◌, ◌≤◌, inl, inr, arith, ap}
use Rattle.std.proofs.Common.{◌∙◌}
use Rattle.std.proofs.lemmas.Bool.{cases_lt, cases_eq, lt-ltb, le-ltb, eq-eqb, ne_eqb}
use Rattle.std.proofs.lemmas.Nat.{div-mul-add, mod-mul-add, div_below, mod_below, div-add-mod'}
use Rattle.std.proofs.Math.Nat.{mul-le-mul_right}
use Rattle.hv_base.specs.declared.line.Line.{Line}
use Rattle.hv_base.specs.declared.line.Phase.{Phase}
use Rattle.hv_base.specs.declared.line.Phase.TheVariants.{B, V, H, S}
use Rattle.sample_words.specs.declared.sizes.FlightSizes.{FlightSizes}
use Rattle.sample_words.specs.declared.unit_word.UnitWord.{UnitWord}
use Rattle.sample_words.specs.declared.unit_word.WordOwner.TheVariants.{Count, Ticket, Fault, Spare, Unit}
use Rattle.sample_words.specs.Sizes.{IsFlight, rows}
use Rattle.sample_words.specs.Words.{phase_number, phase_at, IsLine, IsUnitWord, line_number, line_at, lines}
use Rattle.sample_words.specs.Words.{count_word}
use Rattle.sample_words.specs.Words.{ticket_word, fault_word, first_unit_word, words, word_of, owner, shared_owner}
use Rattle.sample_words.specs.Words.{IsOwned}
use Rattle.sample_words.specs.Words.{unit_word_at}
use Rattle.sample_words.proofs.Extents.{some_rows}
use Rattle.sample_words.proofs.Parts.{next_part}
use Rattle.sample_words.proofs.PictureWords.{unit_found, unit_behind, unit_owned}

phase_again : (p : Phase) → phase_at (phase_number p) ≡ p
phase_again B = refl
phase_again V = refl
phase_again H = refl
phase_again S = refl

few_phases : (p : Phase) → phase_number p < 4
few_phases B = omega arith
few_phases V = omega arith
few_phases H = omega arith
few_phases S = omega arith

number_again : (k : ℕ) → k < 4 → phase_number (phase_at k) ≡ k
number_again k lt = elim (cases_lt k 1) [
  | inl zero ↦ let e : k ≡ 0 = omega arith in rw e refl
  | inr some ↦ elim (cases_lt k 2) [
    | inl one ↦ let e : k ≡ 1 = omega arith in rw e refl
    | inr more ↦ elim (cases_lt k 3) [
      | inl two ↦ let e : k ≡ 2 = omega arith in rw e refl
      | inr three ↦ let e : k ≡ 3 = omega arith in rw e refl
    ]
  ]
]

pub line_inside : (s : FlightSizes) (l : Line) → IsLine s l → line_number s l < lines s
line_inside s l is =
    let picture = is.picture in
    let row = is.row in
    let m : (l.picture + 1) * rows s ≤ s.pictures * rows s = mul-le-mul_right (rows s) (omega arith) in
    let e = next_part l.picture (rows s) in
    let p = few_phases l.phase in
    omega arith

same_line : (l : Line) (phase : Phase) (picture row : ℕ) → phase ≡ l.phase → picture ≡ l.picture → row ≡ l.row
    → record { phase = phase; picture = picture; row = row } ≡ l
same_line l phase picture row p q r = rw (p, q, r) refl

line_again : (s : FlightSizes) (l : Line) → IsLine s l → line_at s (line_number s l) ≡ l
line_again s l is =
    let row = is.row in
    let few = few_phases l.phase in
    let n : ℕ = line_number s l in
    let phase : phase_at (n % 4) ≡ l.phase =
    let e : n % 4 ≡ phase_number l.phase = omega arith in ap phase_at e ∙ phase_again l.phase in
    let whole : n / 4 ≡ l.picture * rows s + l.row = omega arith in
    let picture : n / 4 / rows s ≡ l.picture =
    ap (λ (k : ℕ). k / rows s) whole ∙ div-mul-add l.picture (rows s) l.row row in
    let place : n / 4 % rows s ≡ l.row = ap (λ (k : ℕ). k % rows s) whole ∙ mod-mul-add l.picture (rows s) l.row row in
    same_line l _ _ _ phase picture place

-- the words that many threads write, by their number
shared : (s : FlightSizes) (k : ℕ) → k < lines s + 2 → owner s (k * 8) ≡ shared_owner s k
unfolding owner first_unit_word
shared s k lt =
    let t = lt-ltb (k * 8) (lines s * 8 + 16) (omega arith) in
    let m : k * 8 % 8 ≡ 0 = omega arith in
    let d : k * 8 / 8 ≡ k = omega arith in
    let z = eq-eqb (k * 8 % 8) 0 m in
    rw (t, z, d) refl

pub count_found : (s : FlightSizes) (l : Line) → IsLine s l → owner s (count_word s l) ≡ Count l
unfolding count_word
count_found s l is =
    let lt = line_inside s l is in
    let t = lt-ltb (line_number s l) (lines s) lt in
    shared s (line_number s l) (omega arith) ∙ rw t (ap Count (line_again s l is))

pub ticket_found : (s : FlightSizes) → owner s (ticket_word s) ≡ Ticket
unfolding ticket_word
ticket_found s =
    let t = le-ltb (lines s) (lines s) (omega arith) in
    let e = eq-eqb (lines s) (lines s) refl in
    shared s (lines s) (omega arith) ∙ rw (t, e) refl

pub fault_found : (s : FlightSizes) → owner s (fault_word s) ≡ Fault
unfolding fault_word
fault_found s =
    let k : ℕ = lines s + 1 in
    let same : lines s * 8 + 8 ≡ k * 8 = omega arith in
    let t = le-ltb k (lines s) (omega arith) in
    let e = ne_eqb k (lines s) (λ h. absurd (omega arith)) in
    ap (owner s) same ∙ shared s k (omega arith) ∙ rw (t, e) refl

pub unit_word_found : (s : FlightSizes) (u : UnitWord) → IsFlight s → IsUnitWord s u → owner s (word_of s u) ≡ Unit u
unfolding owner
unit_word_found s u flight is =
    let t = le-ltb (word_of s u) (first_unit_word s) (unit_behind s u) in
    rw t (ap Unit (unit_found s u is))

-- and back
count_owned : (s : FlightSizes) (k : ℕ) → IsFlight s → k < lines s
    → IsLine s (line_at s k) × (line_number s (line_at s k) ≡ k)
count_owned s k flight lt =
    let some = some_rows s flight in
    let below : k / 4 < s.pictures * rows s = omega arith in
    let picture = div_below (k / 4) (rows s) s.pictures some below in
    let row = mod_below (k / 4) (rows s) some in
    let phase = number_again (k % 4) (omega arith) in
    let whole = div-add-mod' (k / 4) (rows s) in
    (record { picture = picture; row = row }, omega arith)

shared_owned : (s : FlightSizes) (k : ℕ) → IsFlight s → k < lines s + 2 → IsOwned s (k * 8) (shared_owner s k)
unfolding IsOwned count_word ticket_word fault_word
shared_owned s k flight lt = elim (cases_lt k (lines s)) [
  | inl less ↦
      let t = lt-ltb k (lines s) less in
      let is = count_owned s k flight less in
      rw t (is.0, ap (λ (n : ℕ). n * 8) is.1)
  | inr more ↦
      let t = le-ltb k (lines s) more in
      elim (cases_eq k (lines s)) [
        | inl same ↦ let e = eq-eqb k (lines s) same in rw (t, e) (omega arith)
        | inr apart ↦ let e = ne_eqb k (lines s) apart in rw (t, e) (omega arith)
      ]
]

spare_owned : (s : FlightSizes) (word : ℕ) → word < first_unit_word s → 0 < word % 8 → IsOwned s word Spare
unfolding IsOwned
spare_owned s word lt some = (lt, some)

unit_is_owned : (s : FlightSizes) (word : ℕ) → IsFlight s → first_unit_word s ≤ word → word < words s
    → IsOwned s word (Unit (unit_word_at s (word - first_unit_word s)))
unfolding IsOwned
unit_is_owned s word flight le lt = let is = unit_owned s word flight le lt in (is.is, is.word_is)

at_eight : (s : FlightSizes) (word : ℕ) → word < first_unit_word s → word % 8 ≡ 0 → word / 8 < lines s + 2
unfolding first_unit_word
at_eight s word lt e = omega arith

pub word_owned : (s : FlightSizes) (word : ℕ) → IsFlight s → word < words s → IsOwned s word (owner s word)
unfolding owner
word_owned s word flight lt = elim (cases_lt word (first_unit_word s)) [
  | inl less ↦
      let t = lt-ltb word (first_unit_word s) less in
      elim (cases_eq (word % 8) 0) [
        | inl zero ↦
            let e = eq-eqb (word % 8) 0 zero in
            let w : word / 8 * 8 ≡ word = omega arith in
            rw (t, e) (rw w at (shared_owned s (word / 8) flight (at_eight s word less zero)))
        | inr some ↦ let e = ne_eqb (word % 8) 0 some in rw (t, e) (spare_owned s word less (omega arith))
      ]
  | inr more ↦ let t = le-ltb word (first_unit_word s) more in rw t (unit_is_owned s word flight more lt)
]
