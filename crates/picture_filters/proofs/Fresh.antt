-- Places of which nothing is told.
use Rattle.std.proofs.Common.{◌≡◌, ℕ, List, get_or, replicate, inl, inr, arith}
use Rattle.std.proofs.Math.ListN.{get_or-eq_default}
use Rattle.std.proofs.lemmas.Bool.{cases_lt}
use Rattle.std.proofs.lemmas.List.{get_or-replicate, length-replicate}
use Rattle.boundary_strengths.specs.SpecBoundaryStrengths.{UnitPlace}
use Rattle.picture_filters.specs.Places.{first_read}

same_at : {A : Type 0} (n k : ℕ) (d : A) → get_or (replicate n d) k d ≡ d
same_at n k d = elim (cases_lt k n) [
  | inl lt ↦ get_or-replicate n k d d lt
  | inr le ↦ get_or-eq_default (replicate n d) d (omega (arith, le, length-replicate n d))
]

-- as many places of the first kind
pub nothing_told : (n : ℕ) (places : List UnitPlace) → places ≡ replicate n first_read → (q : ℕ)
    → get_or places q first_read ≡ first_read
nothing_told n places e q = rw e (same_at n q first_read)
