-- What the end of a row carries on to the next row, word by word.
use Rattle.std.specs.Prelude.{ℕ, ◌-◌, ◌==◌, nat_lt, slice_index, if◌then◌else◌}
use Rattle.sample_words.specs.declared.carry.Carry.{Carry}

-- the interval, the contexts, and Qp'Y of the last coding unit
abbrev pub carried_word : Carry → ℕ → ℕ
carried_word c k =
    if nat_lt k 3 then slice_index c.state k
    else (if nat_lt k 23 then slice_index c.contexts (k - 3) else (if k == 23 then c.last else 0))
