-- Parts of the line of a broken rule.
use Rattle.std.specs.Prelude.{ℕ, zero, suc, ◌/◌, ◌%◌, false, List, [], ◌∷◌, ◌++◌, codes}
use Rattle.std.specs.Fmt.{decimal, digit_glyph}
use Rattle.hv_base.specs.declared.fault.Fault.{Fault}
use Rattle.hv_base.specs.Text.{finding_text, place_text}

-- the last digits of a number in hexadecimal, so many of them
abbrev pub last_digits : ℕ → ℕ → List ℕ
last_digits zero n = []
last_digits (suc count) n = last_digits count (n / 16) ++ digit_glyph false (n % 16) ∷ []

-- what stands behind the name of a rule, up to the line feed
abbrev pub behind_name : Fault → List ℕ
behind_name f = codes " nal " ++ (decimal f.nal ++ (codes " ctu " ++ (place_text f.ctu ++ finding_text f.kind)))
