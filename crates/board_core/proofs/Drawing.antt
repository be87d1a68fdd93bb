-- The lines of a picture, one by one, in the order in which they are drawn.
use Rattle.std.proofs.Common.{ℕ, ◌≡◌, ◌+◌, ◌-◌, ◌*◌, ◌<◌, ◌≤◌, ◌⊎◌, inl, inr, min, nat_lt, if◌then◌else◌, arith, refl}
use Rattle.std.proofs.Common.{ap}
use Rattle.std.proofs.lemmas.Bool.{cases_Bool, ltb-true, ltb-false}
use Rattle.hv_base.specs.declared.line.Phase.{Phase}
use Rattle.hv_base.specs.declared.line.Phase.TheVariants.{B, V, H, S}
use Rattle.board_core.specs.Places.{delay, lines_before, phase_lines_before}

sums : (a b c d e f g h : ℕ) → a ≤ e → b ≤ f → c ≤ g → d ≤ h → a + b + c + d ≤ e + f + g + h
sums a b c d e f g h p q r s = omega arith

between : (a b c : ℕ) → a + 1 ≤ b → b ≤ c → a < c
between a b c p q = omega arith

less_than_all : (a b c d : ℕ) → a + 1 ≤ b → b ≤ c → c ≡ d → a < d
less_than_all a b c d p q r = omega arith

few_delays : (phase : Phase) → delay phase ≤ 12
few_delays B = omega arith
few_delays V = omega arith
few_delays H = omega arith
few_delays S = omega arith

-- whether a phase has its line of a turn before another
own : ℕ → ℕ → ℕ
own o d = if nat_lt o d then 1 else 0

own_cases : (o d : ℕ) → ((o < d) × (own o d ≡ 1)) ⊎ ((d ≤ o) × (own o d ≡ 0))
unfolding own
own_cases o d =
    elim (cases_Bool (nat_lt o d)) [
      | inl e ↦ inl (ltb-true o d e, rw e refl)
      | inr e ↦ inr (ltb-false o d e, rw e refl)
    ]

-- no fewer lines are drawn before a later turn, or a later phase of one turn
phase_later : (rows t u d e o : ℕ) → ((t < u) ⊎ ((t ≡ u) × (d ≤ e)))
    → phase_lines_before rows t d o ≤ phase_lines_before rows u e o
unfolding own
phase_later rows t u d e o later =
    elim (own_cases o d) [
      | inl (h, is) ↦
          elim (own_cases o e) [
            | inl (_, at) ↦
                elim later [ inl lt ↦ omega (arith, is, at, lt) | inr (same, _) ↦ omega (arith, is, at, same) ]
            | inr (k, at) ↦
                elim later [ inl lt ↦ omega (arith, is, at, lt) | inr (_, le) ↦ absurd (omega (arith, h, k, le)) ]
          ]
      | inr (_, is) ↦
          elim (own_cases o e) [
            | inl (_, at) ↦
                elim later [ inl lt ↦ omega (arith, is, at, lt) | inr (same, _) ↦ omega (arith, is, at, same) ]
            | inr (_, at) ↦
                elim later [ inl lt ↦ omega (arith, is, at, lt) | inr (same, _) ↦ omega (arith, is, at, same) ]
          ]
    ]

later : (rows t u d e : ℕ) → ((t < u) ⊎ ((t ≡ u) × (d ≤ e))) → lines_before rows t d ≤ lines_before rows u e
unfolding lines_before
later rows t u d e h =
    let b = phase_later rows t u d e 0 h in
    let v = phase_later rows t u d e 8 h in
    let f = phase_later rows t u d e 10 h in
    let s = phase_later rows t u d e 12 h in
    sums _ _ _ _ _ _ _ _ b v f s

-- a line of a phase is one more of the phase
own_more : (rows row d : ℕ) → row < rows → min rows (row + d + 0 - d) + 1 ≤ min rows (row + d + 1 - d)
own_more rows row d h = omega arith

more_first : (a b c d e : ℕ) → a + 1 ≤ e → a + b + c + d + 1 ≤ e + b + c + d
more_first a b c d e h = omega arith

more_second : (a b c d e : ℕ) → b + 1 ≤ e → a + b + c + d + 1 ≤ a + e + c + d
more_second a b c d e h = omega arith

more_third : (a b c d e : ℕ) → c + 1 ≤ e → a + b + c + d + 1 ≤ a + b + e + d
more_third a b c d e h = omega arith

more_fourth : (a b c d e : ℕ) → d + 1 ≤ e → a + b + c + d + 1 ≤ a + b + c + e
more_fourth a b c d e h = omega arith

-- and one more of the picture
one_more : (rows row : ℕ) (phase : Phase) → row < rows
    → lines_before rows (row + delay phase) (delay phase) + 1 ≤ lines_before rows (row + delay phase) (delay phase + 1)
unfolding lines_before
one_more rows row B h = more_first _ _ _ _ _ (own_more rows row 0 h)
one_more rows row V h = more_second _ _ _ _ _ (own_more rows row 8 h)
one_more rows row H h = more_third _ _ _ _ _ (own_more rows row 10 h)
one_more rows row S h = more_fourth _ _ _ _ _ (own_more rows row 12 h)

-- fewer lines are drawn before a line than before a later one
pub lines_less : (rows r s : ℕ) (p q : Phase) → r < rows
    → ((r + delay p < s + delay q) ⊎ ((r + delay p ≡ s + delay q) × (delay p < delay q)))
    → lines_before rows (r + delay p) (delay p) < lines_before rows (s + delay q) (delay q)
lines_less rows r s p q inside h =
    let more = one_more rows r p inside in
    let after : (r + delay p < s + delay q) ⊎ ((r + delay p ≡ s + delay q) × (delay p + 1 ≤ delay q)) =
    elim h [
      | inl lt ↦ inl lt
      | inr (same, lt) ↦ inr (same, omega (arith, lt))
    ] in
    let le = later rows (r + delay p) (s + delay q) (delay p + 1) (delay q) after in
    between _ _ _ more le

all_of : (rows other : ℕ) → other ≤ 12 → min rows (rows + 12 + 0 - other) ≡ rows
all_of rows other h = omega arith

four_of : (a b c d r : ℕ) → a ≡ r → b ≡ r → c ≡ r → d ≡ r → a + b + c + d ≡ 4 * r
four_of a b c d r p q s t = omega arith

pub all_before : (rows : ℕ) → lines_before rows (rows + 12) 0 ≡ 4 * rows
unfolding lines_before
all_before rows =
    four_of _ _ _ _ rows (all_of rows 0 (omega arith)) (all_of rows 8 (omega arith)) (all_of rows 10 (omega arith))
    (all_of rows 12 (omega arith))

-- a line is drawn before all are
pub lines_few : (rows row : ℕ) (phase : Phase) → row < rows
    → lines_before rows (row + delay phase) (delay phase) < 4 * rows
lines_few rows row phase h =
    let more = one_more rows row phase h in
    let turn : row + delay phase < rows + 12 = omega (arith, h, few_delays phase) in
    let le = later rows (row + delay phase) (rows + 12) (delay phase + 1) 0 (inl turn) in
    let all = all_before rows in
    less_than_all _ _ _ _ more le all

no_rows : (rows : ℕ) → min rows 0 ≡ 0
no_rows rows = omega arith

no_sum : (a b c d : ℕ) → a ≡ 0 → b ≡ 0 → c ≡ 0 → d ≡ 0 → a + b + c + d ≡ 0
no_sum a b c d p q r s = omega arith

pub none_before : (rows : ℕ) → lines_before rows 0 0 ≡ 0
unfolding lines_before
none_before rows = no_sum _ _ _ _ (no_rows rows) (no_rows rows) (no_rows rows) (no_rows rows)

-- a turn ends where the next one begins
pub next_turn : (rows turn : ℕ) → lines_before rows turn 13 ≡ lines_before rows (turn + 1) 0
unfolding lines_before
next_turn rows turn =
    let e : turn + 1 ≡ turn + 1 + 0 = omega arith in
    ap (λ t. min rows (t - 0) + min rows (t - 8) + min rows (t - 10) + min rows (t - 12)) e

-- no phase comes behind B and before V
pub next_phase : (rows turn : ℕ) → lines_before rows turn 1 ≡ lines_before rows turn 8
unfolding lines_before
next_phase rows turn = refl

-- none behind V and before H
pub behind_vertical : (rows turn : ℕ) → lines_before rows turn 9 ≡ lines_before rows turn 10
unfolding lines_before
behind_vertical rows turn = refl

-- none behind H and before S
pub behind_horizontal : (rows turn : ℕ) → lines_before rows turn 11 ≡ lines_before rows turn 12
unfolding lines_before
behind_horizontal rows turn = refl

-- where one more line of a phase is drawn it has its line in the turn
own_found : (rows turn d : ℕ) → min rows (turn + 0 - d) < min rows (turn + 1 - d)
    → (d ≤ turn) × (turn - d < rows) × (min rows (turn + 1 - d) ≡ min rows (turn + 0 - d) + 1)
own_found rows turn d h = (omega arith, omega arith, omega arith)

grew_first : (a b c d e w : ℕ) → a + b + c + d ≤ w → w < e + b + c + d → a < e
grew_first a b c d e w p q = omega arith

grew_second : (a b c d e w : ℕ) → a + b + c + d ≤ w → w < a + e + c + d → b < e
grew_second a b c d e w p q = omega arith

grew_third : (a b c d e w : ℕ) → a + b + c + d ≤ w → w < a + b + e + d → c < e
grew_third a b c d e w p q = omega arith

grew_fourth : (a b c d e w : ℕ) → a + b + c + d ≤ w → w < a + b + c + e → d < e
grew_fourth a b c d e w p q = omega arith

stands_first : (a b c d e w : ℕ) → a + b + c + d ≤ w → w < e + b + c + d → e ≡ a + 1 → a + b + c + d ≡ w
stands_first a b c d e w p q r = omega arith

stands_second : (a b c d e w : ℕ) → a + b + c + d ≤ w → w < a + e + c + d → e ≡ b + 1 → a + b + c + d ≡ w
stands_second a b c d e w p q r = omega arith

stands_third : (a b c d e w : ℕ) → a + b + c + d ≤ w → w < a + b + e + d → e ≡ c + 1 → a + b + c + d ≡ w
stands_third a b c d e w p q r = omega arith

stands_fourth : (a b c d e w : ℕ) → a + b + c + d ≤ w → w < a + b + c + e → e ≡ d + 1 → a + b + c + d ≡ w
stands_fourth a b c d e w p q r = omega arith

-- where one more line is drawn a phase has its line in the turn
pub line_found : (rows turn within : ℕ) (phase : Phase) → lines_before rows turn (delay phase) ≤ within
    → within < lines_before rows turn (delay phase + 1)
    → (delay phase ≤ turn) × (turn - delay phase < rows) × (lines_before rows turn (delay phase) ≡ within)
unfolding lines_before
line_found rows turn within B low high =
    let own = own_found rows turn 0 (grew_first _ _ _ _ _ within low high) in
    (own.0, own.1, stands_first _ _ _ _ _ within low high own.2)
line_found rows turn within V low high =
    let own = own_found rows turn 8 (grew_second _ _ _ _ _ within low high) in
    (own.0, own.1, stands_second _ _ _ _ _ within low high own.2)
line_found rows turn within H low high =
    let own = own_found rows turn 10 (grew_third _ _ _ _ _ within low high) in
    (own.0, own.1, stands_third _ _ _ _ _ within low high own.2)
line_found rows turn within S low high =
    let own = own_found rows turn 12 (grew_fourth _ _ _ _ _ within low high) in
    (own.0, own.1, stands_fourth _ _ _ _ _ within low high own.2)

-- phases differ in their delay
pub same_phase : (p q : Phase) → delay p ≡ delay q → p ≡ q
same_phase B B e = refl
same_phase B V e = absurd (omega arith)
same_phase B H e = absurd (omega arith)
same_phase B S e = absurd (omega arith)
same_phase V B e = absurd (omega arith)
same_phase V V e = refl
same_phase V H e = absurd (omega arith)
same_phase V S e = absurd (omega arith)
same_phase H B e = absurd (omega arith)
same_phase H V e = absurd (omega arith)
same_phase H H e = refl
same_phase H S e = absurd (omega arith)
same_phase S B e = absurd (omega arith)
same_phase S V e = absurd (omega arith)
same_phase S H e = absurd (omega arith)
same_phase S S e = refl
