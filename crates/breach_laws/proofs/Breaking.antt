-- Formats that break few rules.
use Rattle.std.proofs.Common.{◌≡◌, ℕ, zero, suc, ◌+◌, Bool, true, false, cond, List}
use Rattle.std.proofs.Common.{Option, Some, None, Result, Ok, Err}
use Rattle.std.proofs.Common.{refl, ap, sym, subst, ◌∙◌}
use Rattle.hv_base.specs.declared.breach.Breach.{Breach}
use Rattle.hv_base.specs.declared.breach.Breach.TheVariants as breach
use Rattle.hv_base.specs.declared.fault.FaultKind.TheVariants as rule
use Rattle.spec_formats.specs.Format.{Give, Refuse, One, Then, bind, wanted}
use Rattle.spec_cabac.specs.Engine.{Engine, bypass_at, terminate_at, pcm_start_at, sample_at, pcm_end_at}
use Rattle.spec_cabac.specs.Bins.{State, Tree, Bin, Decision, Bypass, Terminate, PcmStart, Sample, PcmEnd}
use Rattle.spec_cabac.specs.Bins.{bin_at, read, decided, stepped, moved, placed, times, fixed_after, unary, truncated}
use Rattle.spec_cabac.specs.Bins.{ones, exp_golomb, decision, bypass, data_end}
use Rattle.rule_numbers.specs.Rules.{IsDataRule}

pub data_end_rule : IsDataRule data_end
data_end_rule = refl

pub slice_end_rule : IsDataRule (breach.Fault rule.SliceEnd)
slice_end_rule = refl

pub subset_end_rule : IsDataRule (breach.Fault rule.SubsetEnd)
subset_end_rule = refl

pub coefficient_rule : IsDataRule (breach.Fault rule.CoeffRange)
coefficient_rule = refl

pub qp_rule : IsDataRule (breach.Fault rule.QpRange)
qp_rule = refl

pub vector_rule : IsDataRule (breach.Fault rule.MvdRange)
vector_rule = refl

err_of : {X : Type 0} → Breach → Result X Breach → Breach
err_of d (Ok x) = d
err_of d (Err e) = e

pub err_is : {X : Type 0} (r : Result X Breach) (d e : Breach) → r ≡ Err d → r ≡ Err e → d ≡ e
unfolding err_of
err_is r d e is same = ap (err_of d) (sym is ∙ same)

-- whatever stops the reading of it is one of these rules
pub record Breaks {X : Type 0} (format : Tree X) : Type 0 where
  pub breaks : (s : State) (e : Breach) → read format s ≡ Err e → IsDataRule e

pub give_breaks : {X : Type 0} (x : X) → Breaks (Give x)
give_breaks x = record { breaks = λ s e is. absurd cc }

pub refuse_breaks : {X : Type 0} (d : Breach) → IsDataRule d → Breaks {X = X} (Refuse d)
refuse_breaks {X = X} d known = record {
  breaks = λ s e is. subst IsDataRule (err_is {X = X × State} (Err d) d e refl is) known;
}

bind_breaks : {X Y : Type 0} (r : Result (X × State) Breach) (f : X → State → Result (Y × State) Breach) (e : Breach)
    → bind r f ≡ Err e → (r ≡ Err e → IsDataRule e)
    → ((x : X) (t : State) → r ≡ Ok (x, t) → f x t ≡ Err e → IsDataRule e)
    → IsDataRule e
bind_breaks (Ok x) f e is first next = next x.0 x.1 refl is
bind_breaks {X = X} {Y = Y} (Err d) f e is first next =
    first (ap (λ (b : Breach). Err b) (err_is {X = Y × State} (Err d) d e refl is))

pub then_breaks : {X Y : Type 0} {m : Tree X} {f : X → Tree Y} → Breaks m → ((x : X) → Breaks (f x))
    → Breaks (Then m f)
then_breaks {m = m} {f = f} first next = record {
  breaks = λ s e is.
      bind_breaks (read m s) (λ v u. read (f v) u) e is (λ no. first.breaks s e no)
      (λ x t yes no. (next x).breaks t e no);
}

pub when_breaks : {X : Type 0} {m n : Tree X} (b : Bool) → Breaks m → Breaks n → Breaks (cond b m n)
when_breaks true first second = first
when_breaks false first second = second

pub wanted_breaks : (fact : Bool) (d : Breach) → IsDataRule d → Breaks (wanted fact d)
wanted_breaks fact d known = when_breaks fact (give_breaks fact) (refuse_breaks d known)

-- a bin lacks bits
ends : (e : Breach) → data_end ≡ e → IsDataRule e
ends e is = subst IsDataRule is data_end_rule

decided_ends : (contexts : List ℕ) (i : ℕ) (o : Option (Bool × (Engine × ℕ))) (e : Breach)
    → decided contexts i o ≡ Err e → IsDataRule e
decided_ends contexts i None e is = ends e (err_is {X = Bool × State} (Err data_end) data_end e refl is)
decided_ends contexts i (Some d) e is = absurd cc

stepped_ends : {X : Type 0} (contexts : List ℕ) (o : Option (X × Engine)) (e : Breach) → stepped contexts o ≡ Err e
    → IsDataRule e
stepped_ends {X = X} contexts None e is = ends e (err_is {X = X × State} (Err data_end) data_end e refl is)
stepped_ends contexts (Some d) e is = absurd cc

placed_ends : (contexts : List ℕ) (o : Option (ℕ × Engine)) (e : Breach) → placed contexts o ≡ Err e → IsDataRule e
placed_ends contexts None e is = ends e (err_is {X = Unit {0} × State} (Err data_end) data_end e refl is)
placed_ends contexts (Some d) e is = absurd cc

moved_ends : (contexts : List ℕ) (o : Option Engine) (e : Breach) → moved contexts o ≡ Err e → IsDataRule e
moved_ends contexts None e is = ends e (err_is {X = Unit {0} × State} (Err data_end) data_end e refl is)
moved_ends contexts (Some d) e is = absurd cc

bin_ends : (q : Bin) (s : State) (e : Breach) → bin_at q s ≡ Err e → IsDataRule e
unfolding bin_at
bin_ends (Decision i) s e is = decided_ends s.1 i _ e is
bin_ends Bypass s e is = stepped_ends s.1 (bypass_at s.0) e is
bin_ends Terminate s e is = stepped_ends s.1 (terminate_at s.0) e is
bin_ends PcmStart s e is = placed_ends s.1 (pcm_start_at s.0) e is
bin_ends (Sample size) s e is = stepped_ends s.1 (sample_at size s.0) e is
bin_ends PcmEnd s e is = moved_ends s.1 (pcm_end_at s.0) e is

pub one_breaks : (q : Bin) → Breaks (One q)
one_breaks q = record { breaks = λ s e is. bin_ends q s e is }

pub decision_breaks : (i : ℕ) → Breaks (decision i)
decision_breaks i = one_breaks (Decision i)

pub bypass_breaks : Breaks bypass
bypass_breaks = one_breaks Bypass

-- binarizations
pub times_breaks : {X : Type 0} (step : ℕ → X → Tree X) → ((i : ℕ) (x : X) → Breaks (step i x)) → (i n : ℕ) (x : X)
    → Breaks (times i n step x)
unfolding times
times_breaks step each i zero x = give_breaks x
times_breaks step each i (suc n) x = then_breaks (each i x) (λ y. times_breaks step each (i + 1) n y)

pub fixed_breaks : (n value : ℕ) → Breaks (fixed_after n value)
unfolding fixed_after
fixed_breaks zero value = give_breaks value
fixed_breaks (suc n) value = then_breaks bypass_breaks (λ bin. fixed_breaks n _)

pub unary_breaks : (over : Tree ℕ) (bin : ℕ → Tree Bool) → Breaks over → ((i : ℕ) → Breaks (bin i)) → (i n : ℕ)
    → Breaks (unary over bin i n)
unfolding unary
unary_breaks over bin last each i zero = last
unary_breaks over bin last each i (suc n) =
    then_breaks (each i) (λ more. when_breaks more (unary_breaks over bin last each (i + 1) n) (give_breaks i))

pub truncated_breaks : (bin : ℕ → Tree Bool) (greatest : ℕ) → ((i : ℕ) → Breaks (bin i))
    → Breaks (truncated bin greatest)
truncated_breaks bin greatest each = unary_breaks (Give greatest) bin (give_breaks greatest) each 0 greatest

pub ones_breaks : (e : Breach) → IsDataRule e → Breaks (ones e)
ones_breaks e known = unary_breaks (Refuse e) (λ i. bypass) (refuse_breaks e known) (λ i. bypass_breaks) 0 32

pub exp_golomb_breaks : (e : Breach) (k : ℕ) → IsDataRule e → Breaks (exp_golomb e k)
unfolding exp_golomb
exp_golomb_breaks e k known =
    then_breaks (ones_breaks e known) (λ n. then_breaks (fixed_breaks (k + n) 0) (λ rest. give_breaks _))
