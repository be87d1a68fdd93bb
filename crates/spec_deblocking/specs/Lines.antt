-- The samples of one line on both sides of an edge.
use Rattle.std.specs.Prelude.{ℕ, ◌+◌, ◌==◌, if◌then◌else◌}
use Rattle.spec_deblocking.specs.declared.line.Line.{Line}

-- the samples of line y of a plane from column x on
abbrev pub across : (ℕ → ℕ → ℕ) → ℕ → ℕ → Line
across samples x y = record {
  p3 = samples x y;
  p2 = samples (x + 1) y;
  p1 = samples (x + 2) y;
  p0 = samples (x + 3) y;
  q0 = samples (x + 4) y;
  q1 = samples (x + 5) y;
  q2 = samples (x + 6) y;
  q3 = samples (x + 7) y;
}

-- the sample of a line at a place, counted from p3 on
abbrev pub nth : Line → ℕ → ℕ
nth line k =
    if k == 0 then line.p3
    else (if k == 1 then line.p2
    else (if k == 2 then line.p1
    else (if k == 3 then line.p0
    else (if k == 4 then line.q0 else (if k == 5 then line.q1 else (if k == 6 then line.q2 else line.q3))))))
