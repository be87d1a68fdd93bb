-- Fields as they are written, one after the other, and what a structure makes of them.
use Rattle.std.specs.Prelude.{◌≡◌, ℕ, ◌^◌, ◌<◌, ◌≤◌, ℤ, nat_abs, Bool, true, false, List, [], ◌∷◌, ◌++◌, Option, Some}
use Rattle.std.specs.Prelude.{None}
use Rattle.std.specs.Prelude.{Ok, nat_le, ◌==◌, if◌then◌else◌}
use Rattle.hv_base.specs.declared.field_rules.FieldRules.{FieldRules}
use Rattle.spec_bits.specs.Spelling.{u_bits, ue_bits, se_bits}
use Rattle.spec_formats.specs.Format.{Format, Give, Refuse, One, Then}
use Rattle.spec_formats.specs.Fields.{Field, U, Flag, Ue, Se, UeTo, SeWithin, Within, FieldValue, Header, read}
use Rattle.spec_formats.specs.Fields.{is_within}

-- u(n), u(1) as a flag, ue(v), se(v)
pub data Code : Type 0 where
  Bits : (n value : ℕ) → Code
  Flagged : (value : Bool) → Code
  Golomb : (value : ℕ) → Code
  Signed : (value : ℤ) → Code

-- whether a code has so much room
abbrev pub HasRoom : Code → Type 0
HasRoom (Bits n value) = value < 2 ^ n
HasRoom (Flagged value) = Unit {0}
HasRoom (Golomb value) = value ≤ 4294967294
HasRoom (Signed value) = nat_abs value ≤ 2147483647

abbrev pub HaveRoom : List Code → Type 0
HaveRoom [] = Unit {0}
HaveRoom (c ∷ codes) = HasRoom c × HaveRoom codes

unfoldable pub bits_of : Code → List Bool
bits_of (Bits n value) = u_bits n value
bits_of (Flagged value) = value ∷ []
bits_of (Golomb value) = ue_bits value
bits_of (Signed value) = se_bits value

-- the bits of codes before others
unfoldable pub spelled : List Code → List Bool → List Bool
spelled [] tail = tail
spelled (c ∷ codes) tail = bits_of c ++ spelled codes tail

-- a value and the codes behind it
abbrev pub Found : Type 0 → Type 0
Found X = Option (X × List Code)

abbrev pub taken : {X : Type 0} → Bool → X → List Code → Found X
taken holds x codes = if holds then Some (x, codes) else None

-- what codes give to a field
unfoldable pub code_at : (field : Field) → List Code → Found (FieldValue field)
code_at (U n) (Bits m value ∷ codes) = taken (n == m) value codes
code_at Flag (Flagged value ∷ codes) = Some (value, codes)
code_at Ue (Golomb value ∷ codes) = Some (value, codes)
code_at Se (Signed value ∷ codes) = Some (value, codes)
code_at (UeTo greatest) (Golomb value ∷ codes) = taken (nat_le value greatest) value codes
code_at (SeWithin low high) (Signed value ∷ codes) = taken (is_within low high value) value codes
code_at (Within fact) codes = taken fact fact codes
code_at field codes = None

abbrev pub then_found : {X Y : Type 0} → Found X → (X → List Code → Found Y) → Found Y
then_found None f = None
then_found (Some x) f = f x.0 x.1

-- what codes give to a structure
abbrev pub replayed : {X : Type 0} → Header X → List Code → Found X
replayed (Give x) codes = Some (x, codes)
replayed (Refuse e) codes = None
replayed (One field) codes = code_at field codes
replayed (Then m f) codes = then_found (replayed m codes) (λ x rest. replayed (f x) rest)

-- what codes give to a structure is read from their bits, whatever stands behind them
abbrev pub IsReadBack : {X : Type 0} → FieldRules → Header X → Type 0
IsReadBack {X} rules format = (codes : List Code) (x : X) (rest : List Code) (tail : List Bool)
    → HaveRoom codes → replayed format codes ≡ Some (x, rest)
    → read rules format (spelled codes tail) ≡ Ok (x, spelled rest tail)
