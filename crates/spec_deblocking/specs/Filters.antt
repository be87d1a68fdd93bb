-- The filters of one line (8.7.2.5.7, 8.7.2.5.8). The greatest sample, 2 ^ BitDepth - 1, is a parameter of all that
-- clip.
use Rattle.std.specs.Prelude.{ℕ, ◌+◌, ◌-◌, ◌*◌, ◌/◌, Bool, nat_lt, ℤ, pos, ◌+ℤ◌, neg_ℤ, ◌-ℤ◌, if◌then◌else◌}
use Rattle.std.specs.Int.{int_shr}
use Rattle.std.specs.Int.RustNames.{unsigned_abs}
use Rattle.spec_slice_data.specs.SpecArithmetic.{clip3, clip3_from_zero, nat_clip3}
use Rattle.spec_deblocking.specs.declared.line.Line.{Line}
use Rattle.spec_deblocking.specs.declared.line.Filter.{Filter}
use Rattle.spec_deblocking.specs.declared.line.Filter.TheVariants.{Off, Normal, Strong, Nearest}

-- a value within a reach of a sample: Clip3( sample - reach, sample + reach, value )
unfoldable pub held : ℕ → ℕ → ℕ → ℕ
held value sample reach = nat_clip3 (sample - reach) (sample + reach) value

-- the strong filter of luma
unfoldable pub strong : ℕ → Line → Line
strong tc line = let l : Line = line in record {
  p3 = l.p3;
  p2 = held ((2 * l.p3 + 3 * l.p2 + l.p1 + l.p0 + l.q0 + 4) / 8) l.p2 (2 * tc);
  p1 = held ((l.p2 + l.p1 + l.p0 + l.q0 + 2) / 4) l.p1 (2 * tc);
  p0 = held ((l.p2 + 2 * l.p1 + 2 * l.p0 + 2 * l.q0 + l.q1 + 4) / 8) l.p0 (2 * tc);
  q0 = held ((l.p1 + 2 * l.p0 + 2 * l.q0 + 2 * l.q1 + l.q2 + 4) / 8) l.q0 (2 * tc);
  q1 = held ((l.p0 + l.q0 + l.q1 + l.q2 + 2) / 4) l.q1 (2 * tc);
  q2 = held ((l.p0 + l.q0 + l.q1 + 3 * l.q2 + 2 * l.q3 + 4) / 8) l.q2 (2 * tc);
  q3 = l.q3;
}

-- a sample after a change: Clip1
unfoldable pub moved : ℕ → ℕ → ℤ → ℕ
moved greatest sample change = clip3_from_zero greatest (pos sample +ℤ change)

-- a change within a reach: Clip3( -reach, reach, change )
unfoldable pub within : ℕ → ℤ → ℤ
within reach change = clip3 (neg_ℤ (pos reach)) (pos reach) change

-- delta of the normal filter, before it is clipped: (9 * (q0 - p0) - 3 * (q1 - p1) + 8) >> 4
unfoldable pub normal_change : Line → ℤ
normal_change line = int_shr (pos (9 * line.q0 + 3 * line.p1 + 8) -ℤ pos (9 * line.p0 + 3 * line.q1)) 4

-- deltap or deltaq of the sample beside the one at the edge, which changes by delta or by -delta
unfoldable pub second_change : ℕ → ℕ → ℕ → ℕ → ℤ → ℤ
second_change tc outer middle inner delta =
    within (tc / 2) (int_shr (pos ((outer + inner + 1) / 2) -ℤ pos middle +ℤ delta) 1)

-- p1' or q1', where it changes
unfoldable pub second_sample : Bool → ℕ → ℕ → ℕ → ℕ → ℕ → ℤ → ℕ
second_sample changes greatest tc outer middle inner delta =
    if changes then moved greatest middle (second_change tc outer middle inner delta) else middle

-- the normal filter of luma
unfoldable pub normal : Bool → Bool → ℕ → ℕ → Line → Line
normal p1 q1 greatest tc line =
    if nat_lt (unsigned_abs (normal_change line)) (10 * tc)
    then (let delta : ℤ = within tc (normal_change line) in record {
      p3 = line.p3;
      p2 = line.p2;
      p1 = second_sample p1 greatest tc line.p2 line.p1 line.p0 delta;
      p0 = moved greatest line.p0 delta;
      q0 = moved greatest line.q0 (neg_ℤ delta);
      q1 = second_sample q1 greatest tc line.q2 line.q1 line.q0 (neg_ℤ delta);
      q2 = line.q2;
      q3 = line.q3;
    })
    else line

-- delta of the filter of chroma, before it is clipped: (((q0 - p0) << 2) + p1 - q1 + 4) >> 3
unfoldable pub chroma_change : Line → ℤ
chroma_change line = int_shr (pos (4 * line.q0 + line.p1 + 4) -ℤ pos (4 * line.p0 + line.q1)) 3

-- the filter of chroma
unfoldable pub nearest : ℕ → ℕ → Line → Line
nearest greatest tc line = let delta : ℤ = within tc (chroma_change line) in record {
  p3 = line.p3;
  p2 = line.p2;
  p1 = line.p1;
  p0 = moved greatest line.p0 delta;
  q0 = moved greatest line.q0 (neg_ℤ delta);
  q1 = line.q1;
  q2 = line.q2;
  q3 = line.q3;
}

-- a line behind its filter
unfoldable pub filtered : Filter → ℕ → ℕ → Line → Line
filtered Off greatest tc line = line
filtered (Normal p1 q1) greatest tc line = normal p1 q1 greatest tc line
filtered Strong greatest tc line = strong tc line
filtered Nearest greatest tc line = nearest greatest tc line
