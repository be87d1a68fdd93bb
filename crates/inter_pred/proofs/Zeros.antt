-- Lists of zeros.
use Rattle.std.proofs.Common.{◌≡◌, ℕ, List, replicate}
use Rattle.std.specs.List.{All}
use Rattle.std.proofs.lemmas.List.Elements.{All-replicate}

pub zeros_all : (P : ℕ → Type 0) (n : ℕ) (values : List ℕ) → values ≡ replicate n 0 → P 0 → All P values
zeros_all P n values e zero = rw e (All-replicate P n 0 zero)
