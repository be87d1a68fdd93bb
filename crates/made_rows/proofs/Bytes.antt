-- Bytes that their bits tell.
use Rattle.std.proofs.Common.{◌≡◌, ℕ, suc, ◌<◌, Bool, List, [], ◌∷◌, ◌++◌, length, refl, sym, ap}
use Rattle.std.proofs.Common.{◌∙◌, arith}
use Rattle.std.specs.Prelude.{slice_index}
use Rattle.spec_bits.specs.Bits.{bits}
use Rattle.spec_bits.specs.Spelling.{u_bits}
use Rattle.spec_bits.proofs.Bytes.{bits-cons, bits-nil}
use Rattle.spec_bits.proofs.Digits.{number_of-u_bits}
use Rattle.spec_made.specs.Written.{bytes_of}
use Rattle.made_rows.specs.Small.{AreBytes}

first_byte : (byte : ℕ) (rest : List Bool) → byte < 256 → bytes_of (u_bits 8 byte ++ rest) ≡ byte ∷ bytes_of rest
unfolding u_bits bytes_of
first_byte byte rest small = ap (λ n. n ∷ bytes_of rest) (number_of-u_bits 8 byte small)

none : bytes_of [] ≡ []
unfolding bytes_of
none = refl

pub bytes_of-bits : (bytes : List ℕ) → AreBytes bytes → bytes_of (bits bytes) ≡ bytes
bytes_of-bits [] small = ap bytes_of bits-nil ∙ none
bytes_of-bits (b ∷ bytes) small =
    ap bytes_of (bits-cons b bytes) ∙ first_byte b (bits bytes) small.0 ∙ ap (λ l. b ∷ l) (bytes_of-bits bytes small.1)

pub bytes_are : (bytes : List ℕ) (written : List Bool) → AreBytes bytes → bits bytes ≡ written
    → bytes ≡ bytes_of written
bytes_are bytes written small is = sym (bytes_of-bits bytes small) ∙ ap bytes_of is

pub all_bytes : (bytes : List ℕ) → ((k : ℕ) → k < length bytes → slice_index bytes k < 256) → AreBytes bytes
all_bytes [] small = tt
all_bytes (b ∷ bytes) small = (small 0 (omega arith), all_bytes bytes (λ k inside. small (suc k) (omega arith)))
