-- A list that was filled by place.
use Rattle.std.proofs.Common.{◌≡◌, ℕ, ◌<◌, ◌≤◌, List, length, get_or, take, map, ◌∙◌}
use Rattle.std.specs.List.{range_with_len}
use Rattle.std.proofs.lemmas.List.{length-take-le, get_or-take}
use Rattle.std.proofs.lemmas.List.FromFn.{fill_by_all}

pub taken : {X : Type 0} (xs : List X) (n : ℕ) (d : X) (f : ℕ → X) → n ≤ length xs
    → ((k : ℕ) → k < n → get_or xs k d ≡ f k) → take n xs ≡ map f (range_with_len 0 n)
taken xs n d f room each =
    fill_by_all f (take n xs) n d (length-take-le n xs room) (λ k h. get_or-take n xs k d h ∙ each k h)
