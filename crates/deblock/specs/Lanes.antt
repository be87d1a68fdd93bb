-- Four lines across an edge at once: lane k of each vector is a sample of line k.
use Rattle.std.specs.Prelude.{ℕ, ℤ, pos, ◌+◌, ◌-ℤ◌, ◌≤◌, ◌<◌, List, slice_index_or}
use Rattle.spec_deblocking.specs.declared.line.Line.{Line}
use Rattle.deblock.specs.declared.lanes.Lines.{Lines}
use Rattle.deblock.specs.Samples.{AreSmall}

abbrev pub lane : List ℕ → ℕ → ℕ
lane v k = slice_index_or v k 0

-- a change that stands on a base
abbrev pub on_base : ℕ → List ℕ → ℕ → ℤ
on_base base v k = pos (lane v k) -ℤ pos base

abbrev pub line_of : Lines → ℕ → Line
line_of l k = record {
  p3 = lane l.p3 k;
  p2 = lane l.p2 k;
  p1 = lane l.p1 k;
  p0 = lane l.p0 k;
  q0 = lane l.q0 k;
  q1 = lane l.q1 k;
  q2 = lane l.q2 k;
  q3 = lane l.q3 k;
}

-- every lane is a sample
abbrev pub AreLow : List ℕ → Type 0
AreLow v = (k : ℕ) → k < 4 → lane v k ≤ 16383

-- every lane of four lines is at most so great
abbrev pub AreLines : ℕ → Lines → Type 0
AreLines greatest l = (k : ℕ) → k < 4 → AreSmall greatest (line_of l k)

-- every lane is within a sample's reach of a base
abbrev pub IsNear : ℕ → List ℕ → Type 0
IsNear base v = (k : ℕ) → k < 4 → (base ≤ lane v k + 16320) × (lane v k ≤ base + 16320)

-- eight samples as a line
abbrev pub row_of : List ℕ → Line
row_of v = record {
  p3 = lane v 0;
  p2 = lane v 1;
  p1 = lane v 2;
  p0 = lane v 3;
  q0 = lane v 4;
  q1 = lane v 5;
  q2 = lane v 6;
  q3 = lane v 7;
}

-- four samples of one vector from a place on, and four of another
abbrev pub half_and_half : List ℕ → List ℕ → ℕ → Line
half_and_half v u k = record {
  p3 = lane v k;
  p2 = lane v (k + 1);
  p1 = lane v (k + 2);
  p0 = lane v (k + 3);
  q0 = lane u k;
  q1 = lane u (k + 1);
  q2 = lane u (k + 2);
  q3 = lane u (k + 3);
}

-- of two vectors of samples at two places each, the four samples of one line and of the next
abbrev pub two_of : List ℕ → List ℕ → ℕ → Line
two_of v u n = record {
  p3 = lane v n;
  p2 = lane v (4 + n);
  p1 = lane u n;
  p0 = lane u (4 + n);
  q0 = lane v (n + 1);
  q1 = lane v (4 + (n + 1));
  q2 = lane u (n + 1);
  q3 = lane u (4 + (n + 1));
}
