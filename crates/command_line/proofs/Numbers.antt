-- Which numbers are read.
use Rattle.std.proofs.Common.{◌≡◌, ℕ, Bool, List, Option, None, Some, true, false, refl, if◌then◌else◌}
use Rattle.std.specs.Str.Parse.{digits_value, without_leading_plus}
use Rattle.clap.specs.Words.{IsUnsignedIn}
use Rattle.clap.specs.declared.builder.value_parser.ValueParser.TheVariants as vp
use Rattle.clap.proofs.ValueTestLemmas.{Accepts-accepts, accepts-Accepts}
use Rattle.command_line.specs.Words.{number_in}

pub number_read : (least most : ℕ) (text : List ℕ) → IsUnsignedIn least most text
    → Some (digits_value 10 (without_leading_plus text)) ≡ number_in least most text
number_read least most text fits = rw (Accepts-accepts false (vp.Unsigned least most) text fits) refl

none_unless : (b : Bool) (x : Option ℕ) → (b ≡ true → ⊥) → None ≡ (if b then x else None)
none_unless true x bad = absurd (bad refl)
none_unless false x bad = refl

pub none_read : (least most : ℕ) (text : List ℕ) → (IsUnsignedIn least most text → ⊥) → None ≡ number_in least most text
none_read least most text bad = none_unless _ _ (λ e. bad (accepts-Accepts false (vp.Unsigned least most) text e))
