-- The order in which the coding tree units of a picture are decoded (6.5.1). A picture is one tile, so it is that of
-- their addresses.
use Rattle.std.specs.Prelude.{ℕ, Bool, nat_le, nat_lt}

-- the address of the unit that is decoded in a place (CtbAddrTsToRs)
abbrev pub ctb_scan : ℕ → ℕ
ctb_scan place = place

-- the place in which the unit at an address is decoded (CtbAddrRsToTs)
abbrev pub ctb_place : ℕ → ℕ
ctb_place address = address

-- whether the unit at an address is decoded before the one at another
abbrev pub is_decoded_before : ℕ → ℕ → Bool
is_decoded_before address other = nat_lt (ctb_place address) (ctb_place other)

-- whether the unit at an address isn't decoded before a slice's first unit: of the units that are decoded up to one of
-- the slice, whether it is in the slice
abbrev pub is_from : ℕ → ℕ → Bool
is_from slice address = nat_le (ctb_place slice) (ctb_place address)
