-- How the lines of a place are filtered across its left edge (8.7.2.5.3, 8.7.2.5.6).
use Rattle.std.specs.Prelude.{ℕ, ◌+◌, ◌*◌, ◌/◌, Bool, ◌&&◌, ◌==◌, nat_lt, if◌then◌else◌}
use Rattle.std.specs.Int.{abs_diff}
use Rattle.spec_deblocking.specs.declared.line.Line.{Line}
use Rattle.spec_deblocking.specs.declared.line.Filter.{Filter}
use Rattle.spec_deblocking.specs.declared.line.Filter.TheVariants.{Off, Normal, Strong, Nearest}
use Rattle.spec_deblocking.specs.declared.place.Place.{Place}
use Rattle.spec_deblocking.specs.declared.place.Plane.{Plane}
use Rattle.spec_deblocking.specs.declared.place.Plane.TheVariants.{Luma, Chroma}
use Rattle.spec_deblocking.specs.Thresholds.{beta, tc}

-- how far three samples are from straight: |s2 - 2 * s1 + s0|
abbrev pub bend : ℕ → ℕ → ℕ → ℕ
bend s2 s1 s0 = abs_diff (s2 + s0) (2 * s1)

-- dp and dq of a line
abbrev pub d_p : Line → ℕ
d_p line = bend line.p2 line.p1 line.p0

-- dq of a line
abbrev pub d_q : Line → ℕ
d_q line = bend line.q2 line.q1 line.q0

-- dpq of a line
abbrev pub d_pq : Line → ℕ
d_pq line = d_p line + d_q line

-- dSam of a line
unfoldable pub d_sam : ℕ → ℕ → Line → Bool
d_sam beta tc line =
    nat_lt (2 * d_pq line) (beta / 4)
    && (nat_lt (abs_diff line.p3 line.p0 + abs_diff line.q0 line.q3) (beta / 8)
    && nat_lt (abs_diff line.p0 line.q0) ((5 * tc + 1) / 2))

-- (beta + (beta >> 1)) >> 3, below which a side is so straight that its second sample changes too
abbrev pub side_bound : ℕ → ℕ
side_bound beta = (beta + beta / 2) / 8

-- dE, dEp and dEq of luma, from the first and the last of four lines
unfoldable pub luma_filter : ℕ → ℕ → Line → Line → Filter
luma_filter beta tc first last =
    if nat_lt (d_pq first + d_pq last) beta
    then (if d_sam beta tc first && d_sam beta tc last
    then Strong
    else Normal (nat_lt (d_p first + d_p last) (side_bound beta))
    (nat_lt (d_q first + d_q last) (side_bound beta)))
    else Off

-- how the lines of an edge are filtered, from the places on both sides and the first and the last of the lines
unfoldable pub edge_filter : Plane → ℕ → Place → Place → Line → Line → Filter
edge_filter Luma depth p q first last =
    if q.left_strength == 0 then Off else luma_filter (beta depth p q) (tc Luma depth p q) first last
edge_filter (Chroma offset) depth p q first last =
    if q.left_strength == 2 then Nearest else Off
