-- Lists that grow at their end.
use Rattle.std.proofs.Common.{◌≡◌, ℕ, List, ◌++◌, append_assoc}

pub appended : (a b c : List ℕ) → (a ++ b) ++ c ≡ a ++ (b ++ c)
appended a b c = append_assoc a b c
