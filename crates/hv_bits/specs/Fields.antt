-- Fields one after another, as they are written and as they are read.
use Rattle.std.specs.Prelude.{◌≡◌, ℕ, ◌^◌, ◌<◌, ◌≤◌, ℤ, nat_abs, Bool, true, List, [], ◌∷◌, ◌++◌, length, Some}
use Rattle.spec_bits.specs.Bits.{u_at}
use Rattle.spec_bits.specs.ExpGolomb.{ue_at, se_at}
use Rattle.spec_bits.specs.Alignment.{aligned_at}
use Rattle.spec_bits.specs.Spelling.{u_bits, ue_bits, se_bits, aligned_bits}

-- a field and its value: u(n), ue(v), se(v) and byte_alignment()
pub data Field : Type 0 where
  Unsigned : (n value : ℕ) → Field
  UnsignedCode : (value : ℕ) → Field
  SignedCode : (value : ℤ) → Field
  Alignment : Field

abbrev pub IsInRange : Field → Type 0
IsInRange (Unsigned n value) = value < 2 ^ n
IsInRange (UnsignedCode value) = value ≤ 4294967294
IsInRange (SignedCode value) = nat_abs value ≤ 2147483647
IsInRange Alignment = Unit {0}

-- the bits of a field that is written after so many bits
abbrev pub field_bits : ℕ → Field → List Bool
field_bits before (Unsigned n value) = u_bits n value
field_bits before (UnsignedCode value) = ue_bits value
field_bits before (SignedCode value) = se_bits value
field_bits before Alignment = aligned_bits before

-- bits once fields are written after them
abbrev pub with_fields : List Bool → List Field → List Bool
with_fields bs [] = bs
with_fields bs (field ∷ fields) = with_fields (bs ++ field_bits (length bs) field) fields

-- reading a field of this kind gives its value
abbrev pub Reads : Field → List Bool → List Bool → Type 0
Reads (Unsigned n value) bs rest = u_at n bs ≡ Some (value, rest)
Reads (UnsignedCode value) bs rest = ue_at bs ≡ Some (value, rest)
Reads (SignedCode value) bs rest = se_at bs ≡ Some (value, rest)
Reads Alignment bs rest = aligned_at bs ≡ Some (true, rest)

-- the same of fields, each after the one before
abbrev pub ReadsAll : List Field → List Bool → List Bool → Type 0
ReadsAll [] bs rest = bs ≡ rest
ReadsAll (field ∷ fields) bs rest = (mid : List Bool) × Reads field bs mid × ReadsAll fields mid rest
