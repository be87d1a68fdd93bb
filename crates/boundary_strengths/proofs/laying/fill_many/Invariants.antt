use Rattle.std.proofs.Common.{◌≡◌, ℕ, cond, nat_le, nat_lt, ◌&&◌, slice_index_or}
use Rattle.boundary_strengths.proofs.laying.fill_many.Given as goal

abbrev pub invariant-loop-k : goal.invariant-loop-k
invariant-loop-k g l = (q : ℕ) (d : g.row.T.Denot)
    → slice_index_or l.cells q d ≡ cond (nat_le l.first q && nat_lt q l.k) l.value (slice_index_or l.fn.cells q d)
