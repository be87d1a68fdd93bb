-- Which units a flight tells a board as bad.
use Rattle.std.proofs.Common.{◌≡◌, refl, ℕ, ◌<◌, Bool, true, false, Option, Some, None, sym, ◌∙◌, subst}
use Rattle.std.proofs.lemmas.Bool.{lt-ltb, ltb-true, true≢false}
use Rattle.std.proofs.lemmas.Option.{none-some}
use Rattle.std.specs.Prelude.{◌&&◌, not, nat_lt}
use Rattle.hv_base.specs.declared.line.Line.{Line}
use Rattle.board_core.specs.Places.{full_count, IsLine, unit_of}
use Rattle.board_core.specs.States.{IsBad}
use Rattle.sample_words.specs.Words.{line_at, line_number, lines}
use Rattle.progress_words.specs.Meanings.{IsLawful}
use Rattle.flight_lines.specs.Flights.{BoardFlight, HasFewRules, IsOnBoard, bad_at, meaning_of, rule_if}
use Rattle.flight_lines.proofs.Numbered.{line_is, number_less, number_line}

rule_cases : (a b c : Bool) (rule : Option ℕ) (r : ℕ) → rule_if (a && (b && not c)) rule ≡ Some r
    → (a ≡ true) × (b ≡ true) × (c ≡ false) × (rule ≡ Some r)
rule_cases true true false rule r e = (refl, refl, refl, e)
rule_cases true true true rule r e = absurd (none-some r e)
rule_cases true false c rule r e = absurd (none-some r e)
rule_cases false b c rule r e = absurd (none-some r e)

rule_all : (a b c : Bool) (rule : Option ℕ) → a ≡ true → b ≡ true → c ≡ false → rule_if (a && (b && not c)) rule ≡ rule
rule_all true true false rule p q r = refl
rule_all true true true rule p q r = absurd (true≢false r)
rule_all true false c rule p q r = absurd (true≢false (sym q))
rule_all false b c rule p q r = absurd (true≢false (sym p))

no_rule : (a b c : Bool) (rule : Option ℕ) → c ≡ true → rule_if (a && (b && not c)) rule ≡ None
no_rule true true true rule e = refl
no_rule true false true rule e = refl
no_rule false b true rule e = refl
no_rule a b false rule e = absurd (true≢false (sym e))

-- what is told as bad is a unit of the flight that isn't sound, and breaks the rule
pub record TellsAt (f : BoardFlight) (n x r : ℕ) : Type 0 where
  pub inside : n < lines f.sizes
  pub unit : x < full_count f.plan (line_at f.sizes n)
  pub sound : f.sound (line_at f.sizes n) x ≡ false
  pub rule : f.rule (line_at f.sizes n) x ≡ Some r

pub told_at : (f : BoardFlight) (n x r : ℕ) → bad_at f n x ≡ Some r → TellsAt f n x r
told_at f n x r e =
    let l : Line = line_at f.sizes n in
    let parts = rule_cases (nat_lt n (lines f.sizes)) (nat_lt x (full_count f.plan l)) (f.sound l x) (f.rule l x) r e in
    record {
      inside = ltb-true n (lines f.sizes) parts.0;
      unit = ltb-true x (full_count f.plan l) parts.1;
      sound = parts.2;
      rule = parts.3;
    }

-- each bad unit of a flight is told
pub tell_at : (f : BoardFlight) → IsOnBoard f → (l : Line) (x : ℕ) → IsLine f.plan l → x < full_count f.plan l
    → IsBad f.plan (unit_of f.plan l x)
    → (r : ℕ) × (f.rule l x ≡ Some r) × (bad_at f (line_number f.sizes l) x ≡ Some r)
tell_at f on l x line inside bad =
    let told = on.tells.told l x line inside bad in
    let n : ℕ = line_number f.sizes l in
    let again = number_line f.plan f.sizes on.sized l line in
    let less = number_less f.plan f.sizes on.sized l line in
    let P : Line → Type 0 = λ k. rule_if
    (nat_lt n (lines f.sizes) && (nat_lt x (full_count f.plan k) && not (f.sound k x))) (f.rule k x) ≡ Some told.0 in
    let here : P l =
    rule_all (nat_lt n (lines f.sizes)) (nat_lt x (full_count f.plan l)) (f.sound l x) (f.rule l x)
    (lt-ltb n (lines f.sizes) less) (lt-ltb x (full_count f.plan l) inside)
    (on.tells.unsound l x told.0 line inside told.1) ∙ told.1 in
    (told.0, told.1, subst P (sym again) here)

-- and what is told is bad
pub bad_is_told : (f : BoardFlight) → IsOnBoard f → (n x r : ℕ) → bad_at f n x ≡ Some r
    → IsBad f.plan (unit_of f.plan (line_at f.sizes n) x)
bad_is_told f on n x r e =
    let at = told_at f n x r e in
    on.tells.bad (line_at f.sizes n) x r (line_is f.plan f.sizes on.sized n at.inside) at.unit at.rule

-- a sound unit isn't bad
pub sound_is_good : (f : BoardFlight) → IsOnBoard f → (l : Line) (x : ℕ) → IsLine f.plan l → x < full_count f.plan l
    → f.sound l x ≡ true → ¬ IsBad f.plan (unit_of f.plan l x)
sound_is_good f on l x line inside sound = λ bad.
    let told = on.tells.told l x line inside bad in
    true≢false (sym sound ∙ on.tells.unsound l x told.0 line inside told.1)

pub lawful : (f : BoardFlight) → HasFewRules f → IsLawful (meaning_of f)
unfolding meaning_of
lawful f few =
    record {
      apart = λ n x sound.
          no_rule (nat_lt n (lines f.sizes)) (nat_lt x (full_count f.plan (line_at f.sizes n)))
          (f.sound (line_at f.sizes n) x) (f.rule (line_at f.sizes n) x) sound;
      inside = λ n x r bad. let at = told_at f n x r bad in
          (at.inside, at.unit, few (line_at f.sizes n) x r at.rule);
    }
