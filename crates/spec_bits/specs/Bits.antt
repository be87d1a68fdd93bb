-- The bits of a byte string, and the numbers that they spell (7.2).
use Rattle.std.specs.Prelude.{◌≡◌, ℕ, ◌+◌, ◌-◌, ◌*◌, ◌/◌, ◌%◌, Bool, true, false, List, [], ◌∷◌, length, map, take}
use Rattle.std.specs.Prelude.{drop, slice_index, Option, Some, None, nat_lt, ◌==◌, if◌then◌else◌}
use Rattle.std.specs.Int.{bit_at}
use Rattle.std.specs.List.{range_with_len}

-- whether bit k of a byte is 1, bit 0 being the least
unfoldable pub bit_of : ℕ → ℕ → Bool
bit_of byte k = bit_at byte k == 1

-- the bits of bytes, each byte's greatest bit first
unfoldable pub bits : List ℕ → List Bool
bits bytes = map (λ i. bit_of (slice_index bytes (i / 8)) (7 - i % 8)) (range_with_len 0 (8 * length bytes))

-- a bit as a number
abbrev pub digit : Bool → ℕ
digit true = 1
digit false = 0

-- the number whose binary digits are those of n and then these bits
abbrev pub number_after : ℕ → List Bool → ℕ
number_after n [] = n
number_after n (b ∷ bs) = number_after (2 * n + digit b) bs

-- the number whose binary digits are these bits, the greatest first
unfoldable pub number_of : List Bool → ℕ
number_of bs = number_after 0 bs

-- u(n): the number that the next n bits spell, and the bits after them
unfoldable pub u_at : ℕ → List Bool → Option (ℕ × List Bool)
u_at n bs = if nat_lt (length bs) n then None else Some (number_of (take n bs), drop n bs)

-- u(1) of a flag: whether the next bit is 1, and the bits after it
unfoldable pub flag_at : List Bool → Option (Bool × List Bool)
flag_at [] = None
flag_at (b ∷ bs) = Some (b, bs)

-- a step that may lack bits, and then another on what it found
infixl 10 ◌>>=◌
abbrev pub ◌>>=◌ : {A B : Type 0} → Option A → (A → Option B) → Option B
None >>= f = None
(Some x) >>= f = f x

-- what a function found, seen by view, is what reading gives
abbrev pub Finds : {X Y : Type 0} → (X → Y) → Option X → Option Y → Type 0
Finds view None read = read ≡ None
Finds view (Some x) read = read ≡ Some (view x)

-- the same of a method that leaves its reader where reading ends, and moves nothing where bits lack
abbrev pub Gives : {Y S : Type 0} → Option Y → S → S → Option (Y × S) → Type 0
Gives None old new read = (read ≡ None) × (new ≡ old)
Gives (Some y) old new read = read ≡ Some (y, new)
