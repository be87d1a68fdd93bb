-- What each unit of a byte stream is read as, up to the first that breaks a rule or meets a limit (7.3.1).
use Rattle.std.specs.Prelude.{ℕ, zero, suc, ◌+◌, ◌-◌, ◌*◌, ◌/◌, ◌%◌, Bool, true, false, not, ◌&&◌, ◌||◌, List, []}
use Rattle.std.specs.Prelude.{◌∷◌}
use Rattle.std.specs.Prelude.{◌++◌, length, map, slice_index, min, None, nat_lt, nat_le, ◌==◌, if◌then◌else◌}
use Rattle.hv_base.specs.declared.fault.FaultKind.TheVariants as rule
use Rattle.hv_base.specs.declared.fault.FaultKind.{FaultKind}
use Rattle.hv_base.specs.declared.fault.Fault.{Fault}
use Rattle.hv_base.specs.declared.limit.LimitKind.TheVariants as bound
use Rattle.hv_base.specs.declared.limit.Limit.{Limit}
use Rattle.hv_base.specs.declared.nal.Nal.{Nal}
use Rattle.spec_nal_units.specs.Units.{Part, Raw, Stray, parts_of}

-- the places below n that pass a test, in ascending order
abbrev pub places : (ℕ → Bool) → ℕ → List ℕ
places test zero = []
places test (suc n) = if test n then places test n ++ n ∷ [] else places test n

-- whether 00 00 and then this byte stand in a unit, that byte at place i
abbrev pub stands_at : ℕ → List ℕ → ℕ → Bool
stands_at byte unit i =
    nat_le 2 i && (slice_index unit (i - 2) == 0) && (slice_index unit (i - 1) == 0) && (slice_index unit i == byte)

-- where the emulation prevention bytes of a unit stand: each 03 behind 00 00 (7.3.1.1)
unfoldable pub removed_of : List ℕ → List ℕ
removed_of unit = places (stands_at 3 unit) (length unit)

-- the payload of a unit: the bytes behind the two of its header, without the emulation prevention bytes
unfoldable pub payload_of : List ℕ → List ℕ
payload_of unit = map (slice_index unit) (places (λ i. nat_le 2 i && not (stands_at 3 unit i)) (length unit))

-- a unit with its header's fields (7.3.1.2)
pub record NalUnit : Type 0 where
  pub index : ℕ
  pub nal_type : ℕ
  pub layer : ℕ
  pub temporal_id : ℕ
  pub payload : List ℕ
  pub removed : List ℕ

-- a unit of the program, without where it lies in memory
abbrev pub unit_of : Nal → NalUnit
unit_of n = record {
  index = n.index;
  nal_type = n.nal_type;
  layer = n.layer;
  temporal_id = n.temporal_id;
  payload = n.rbsp;
  removed = n.removed;
}

-- what a unit is read as, or the rule that it breaks, or the limit that it meets
pub data Told : Type 0 where
  Whole : NalUnit → Told
  Broken : Fault → Told
  Met : Limit → Told

-- a rule that unit n breaks
abbrev pub broken : FaultKind → ℕ → Told
broken kind n = Broken (record { kind = kind; nal = n; ctu = None })

-- whether a unit is too large: over 2^26 bytes, header and emulation prevention bytes among them
unfoldable pub is_too_large : List ℕ → Bool
is_too_large unit = nat_lt 67108864 (length unit)

-- whether 00 00 02 stands in a unit
unfoldable pub has_reserved : List ℕ → Bool
has_reserved unit = nat_lt 0 (length (places (stands_at 2 unit) (length unit)))

-- whether a unit's header is short, or its forbidden_zero_bit 1, or its nuh_temporal_id_plus1 0
abbrev pub has_bad_header : List ℕ → Bool
has_bad_header unit = nat_lt (length unit) 2 || (nat_le 128 (slice_index unit 0) || (slice_index unit 1 % 8 == 0))

-- a unit read: forbidden_zero_bit, nal_unit_type of six bits, nuh_layer_id of six, nuh_temporal_id_plus1 of three
abbrev pub read_unit : ℕ → List ℕ → NalUnit
read_unit n unit = record {
  index = n;
  nal_type = slice_index unit 0 / 2 % 64;
  layer = slice_index unit 0 % 2 * 32 + slice_index unit 1 / 8;
  temporal_id = slice_index unit 1 % 8 - 1;
  payload = payload_of unit;
  removed = removed_of unit;
}

-- the unit of number n, judged by its size, then its bytes, then its header
unfoldable pub judged : ℕ → List ℕ → Told
judged n unit =
    if is_too_large unit then Met (record { kind = bound.NalSize; nal = n })
    else (if has_reserved unit then broken rule.NalBytes n
    else (if has_bad_header unit then broken rule.NalHeader n
    else Whole (read_unit n unit)))

-- the number behind a number; 4294967295 stands for itself and for all after it
abbrev pub next_number : ℕ → ℕ
next_number n = min (n + 1) 4294967295

-- nothing is told behind a broken rule or a limit
abbrev pub then_told : Told → List Told → List Told
then_told (Whole u) later = Whole u ∷ later
then_told (Broken f) later = Broken f ∷ []
then_told (Met l) later = Met l ∷ []

-- what the parts that remain are told as. An input that ends without any part has no unit
abbrev pub told_from : Bool → Bool → ℕ → List Part → List Told
told_from began ended n [] = if ended && not began then broken rule.NoNal 0 ∷ [] else []
told_from began ended n (Raw unit ∷ later) = then_told (judged n unit) (told_from true ended (next_number n) later)
told_from began ended n (Stray ∷ later) = broken rule.NalBytes n ∷ []

-- what a byte stream is told as: of the whole input, or of what has come of it, units that aren't whole left out
abbrev pub told_of : Bool → List ℕ → List Told
told_of ended bytes = told_from false ended 0 (parts_of ended bytes)
