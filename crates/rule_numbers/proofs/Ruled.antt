-- Rules by number.
use Rattle.std.proofs.Common.{◌≡◌, refl, ℕ, ◌<◌, inl, inr, arith, sym, subst, ◌∙◌, true, Option, Some, None}
use Rattle.std.proofs.lemmas.Bool.{cases_eq, eq-eqb, false≢true, ne_eqb}
use Rattle.std.proofs.lemmas.Option.{none-some, same_Some}
use Rattle.std.specs.Prelude.{◌==◌, if◌then◌else◌}
use Rattle.hv_base.specs.declared.breach.Breach.{Breach}
use Rattle.hv_base.specs.declared.breach.Breach.TheVariants as breach
use Rattle.hv_base.specs.declared.fault.FaultKind.{FaultKind}
use Rattle.hv_base.specs.declared.fault.FaultKind.TheVariants as rule
use Rattle.hv_base.specs.Text.{fault_number}
use Rattle.rule_numbers.specs.Rules.{IsNumbered, breach_of, is_of_slice_data, rule_number}

pub few_rules : (kind : FaultKind) → fault_number kind < 32
few_rules rule.NoNal = omega arith
few_rules rule.NalBytes = omega arith
few_rules rule.NalHeader = omega arith
few_rules rule.ParamSyntax = omega arith
few_rules rule.ParamRange = omega arith
few_rules rule.Profile = omega arith
few_rules rule.MissingSet = omega arith
few_rules rule.SetMismatch = omega arith
few_rules rule.SpsChanged = omega arith
few_rules rule.FirstPicture = omega arith
few_rules rule.HeaderSyntax = omega arith
few_rules rule.HeaderRange = omega arith
few_rules rule.SliceType = omega arith
few_rules rule.SliceOrder = omega arith
few_rules rule.SliceMismatch = omega arith
few_rules rule.MissingReference = omega arith
few_rules rule.EntryPoints = omega arith
few_rules rule.DpbFull = omega arith
few_rules rule.DataEnd = omega arith
few_rules rule.SliceEnd = omega arith
few_rules rule.SubsetEnd = omega arith
few_rules rule.TrailingBits = omega arith
few_rules rule.CoeffRange = omega arith
few_rules rule.QpRange = omega arith
few_rules rule.MvdRange = omega arith
few_rules (rule.HashMismatch plane stated computed) = omega arith
few_rules (rule.LevelExceeded what value limit) = omega arith

pub small_rule : (b : Breach) → rule_number b < 32
small_rule (breach.Fault kind) = few_rules kind
small_rule (breach.Limit kind) = omega arith

kind_again : (kind : FaultKind) → is_of_slice_data (breach.Fault kind) ≡ true
    → breach_of (fault_number kind) ≡ Some (breach.Fault kind)
unfolding breach_of
kind_again rule.NoNal h = absurd (false≢true h)
kind_again rule.NalBytes h = absurd (false≢true h)
kind_again rule.NalHeader h = absurd (false≢true h)
kind_again rule.ParamSyntax h = absurd (false≢true h)
kind_again rule.ParamRange h = absurd (false≢true h)
kind_again rule.Profile h = absurd (false≢true h)
kind_again rule.MissingSet h = absurd (false≢true h)
kind_again rule.SetMismatch h = absurd (false≢true h)
kind_again rule.SpsChanged h = absurd (false≢true h)
kind_again rule.FirstPicture h = absurd (false≢true h)
kind_again rule.HeaderSyntax h = absurd (false≢true h)
kind_again rule.HeaderRange h = absurd (false≢true h)
kind_again rule.SliceType h = absurd (false≢true h)
kind_again rule.SliceOrder h = absurd (false≢true h)
kind_again rule.SliceMismatch h = absurd (false≢true h)
kind_again rule.MissingReference h = absurd (false≢true h)
kind_again rule.EntryPoints h = absurd (false≢true h)
kind_again rule.DpbFull h = absurd (false≢true h)
kind_again rule.DataEnd h = refl
kind_again rule.SliceEnd h = refl
kind_again rule.SubsetEnd h = refl
kind_again rule.TrailingBits h = refl
kind_again rule.CoeffRange h = refl
kind_again rule.QpRange h = refl
kind_again rule.MvdRange h = refl
kind_again (rule.HashMismatch plane stated computed) h = absurd (false≢true h)
kind_again (rule.LevelExceeded what value limit) h = absurd (false≢true h)

-- a rule on slice data is that of its number
pub breach_again : (b : Breach) → is_of_slice_data b ≡ true → breach_of (rule_number b) ≡ Some b
breach_again (breach.Fault kind) h = kind_again kind h
breach_again (breach.Limit kind) h = absurd (false≢true h)

numbered : (r : ℕ) (kind : FaultKind) (b : Breach) → fault_number kind ≡ r → is_of_slice_data (breach.Fault kind) ≡ true
    → Some (breach.Fault kind) ≡ Some b → IsNumbered r b
numbered r kind b number is e =
    let same : breach.Fault kind ≡ b = same_Some (breach.Fault kind) b e in
    subst (IsNumbered r) same (record { number = number; data_rule = is })

-- it is the first of these or a later one
told_by : (r n : ℕ) (kind : FaultKind) (later : Option Breach) (b : Breach) → fault_number kind ≡ n
    → is_of_slice_data (breach.Fault kind) ≡ true
    → (if r == n then Some (breach.Fault kind) else later) ≡ Some b
    → (later ≡ Some b → IsNumbered r b) → IsNumbered r b
told_by r n kind later b number is e rest =
    elim (cases_eq r n) [
      | inl same ↦ let yes = eq-eqb r n same in numbered r kind b (number ∙ sym same) is (rw yes at e)
      | inr other ↦ let no = ne_eqb r n other in rest (rw no at e)
    ]

pub breach_numbered : (r : ℕ) (b : Breach) → breach_of r ≡ Some b → IsNumbered r b
unfolding breach_of
breach_numbered r b told =
    told_by r 20 rule.DataEnd _ b refl refl told (λ not_20.
    told_by r 21 rule.SliceEnd _ b refl refl not_20 (λ not_21.
    told_by r 22 rule.SubsetEnd _ b refl refl not_21 (λ not_22.
    told_by r 23 rule.TrailingBits _ b refl refl not_22 (λ not_23.
    told_by r 24 rule.CoeffRange _ b refl refl not_23 (λ not_24.
    told_by r 25 rule.QpRange _ b refl refl not_24 (λ not_25.
    told_by r 26 rule.MvdRange None b refl refl not_25 (λ none. absurd (none-some b none))))))))
