-- What a call on a source or a sink in memory answers, and how it leaves it.
use Rattle.std.specs.Prelude.{ℕ, ◌-◌, ◌==◌, ◌&&◌, ◌||◌, Bool, nat_lt, if◌then◌else◌, min, List, [], ◌++◌, length}
use Rattle.std.specs.Prelude.{take}
use Rattle.std.specs.Prelude.{drop, Option, Some, None}
use Rattle.std.specs.List.{list_any}
use Rattle.hv_io.specs.Streams.{counted}

-- a source in memory: the bytes that are left, the most that a call gives, the numbers of the calls that fail, how
-- many calls there were, and how many of them failed
pub record SourceState : Type 0 where
  pub left : List ℕ
  pub piece : ℕ
  pub fails : List ℕ
  pub calls : ℕ
  pub faults : ℕ

-- a sink in memory: the bytes so far, how many there may be, the most that a call takes, the numbers of the calls that
-- fail, how many calls there were, and how many of them failed
pub record SinkState : Type 0 where
  pub contents : List ℕ
  pub capacity : ℕ
  pub piece : ℕ
  pub fails : List ℕ
  pub calls : ℕ
  pub faults : ℕ

-- a source before its first call
abbrev pub fresh_source : List ℕ → ℕ → List ℕ → SourceState
fresh_source bytes most failing = record { left = bytes; piece = most; fails = failing; calls = 0; faults = 0 }

-- a sink before its first call
abbrev pub fresh_sink : ℕ → ℕ → List ℕ → SinkState
fresh_sink room most failing =
    record { contents = []; capacity = room; piece = most; fails = failing; calls = 0; faults = 0 }

-- whether the call of this number is one of those that fail
abbrev pub is_failing : ℕ → List ℕ → Bool
is_failing call fails = list_any (λ k. k == call) fails

-- a read that fails takes nothing
abbrev pub failed_read : SourceState → Option ℕ × SourceState
failed_read s = (None, record s { calls = counted s.calls; faults = counted s.faults })

-- a read that takes n bytes
abbrev pub taking_read : ℕ → SourceState → Option ℕ × SourceState
taking_read n s = (Some n, record s { left = drop n s.left; calls = counted s.calls })

-- what a read into a buffer of so many bytes answers, none where it fails, and the source after it
abbrev pub mem_read : ℕ → SourceState → Option ℕ × SourceState
mem_read room s =
    if is_failing s.calls s.fails then failed_read s else taking_read (min s.piece (min room (length s.left))) s

-- a write that fails gains nothing
abbrev pub failed_write : SinkState → Option ℕ × SinkState
failed_write s = (None, record s { calls = counted s.calls; faults = counted s.faults })

-- a write that gains the first n bytes of a piece
abbrev pub gaining_write : ℕ → List ℕ → SinkState → Option ℕ × SinkState
gaining_write n bytes s = (Some n, record s { contents = s.contents ++ take n bytes; calls = counted s.calls })

-- how many more bytes a sink may have
abbrev pub room_of : SinkState → ℕ
room_of s = s.capacity - length s.contents

-- what a write of a piece answers, none where it fails or where the sink is full, and the sink after it
abbrev pub mem_write : List ℕ → SinkState → Option ℕ × SinkState
mem_write bytes s =
    if is_failing s.calls s.fails || (nat_lt 0 (length bytes) && (room_of s == 0))
    then failed_write s
    else gaining_write (min s.piece (min (length bytes) (room_of s))) bytes s
