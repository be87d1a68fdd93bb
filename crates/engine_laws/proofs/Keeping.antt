-- Formats behind which the engine goes on.
use Rattle.std.proofs.Common.{◌≡◌, ℕ, zero, suc, ◌+◌, ◌<◌, ◌≤◌, Bool, true, false, cond, List, [], ◌∷◌, length}
use Rattle.std.proofs.Common.{Option}
use Rattle.std.proofs.Common.{Some, None, Ok, refl, ap, sym, subst, ◌∙◌}
use Rattle.std.specs.Prelude.{slice_index, slice_set}
use Rattle.hv_base.specs.declared.breach.Breach.{Breach}
use Rattle.spec_formats.specs.Format.{Give, Refuse, One, Then, wanted}
use Rattle.spec_formats.proofs.Agreement.{ok_is, bind_ok}
use Rattle.spec_cabac.specs.Engine.{Engine, decision_at, bypass_at, terminate_at, pcm_start_at, sample_at}
use Rattle.spec_cabac.specs.Engine.{pcm_end_at}
use Rattle.spec_cabac.specs.Bins.{State, Tree, Terminate, PcmStart, Sample, PcmEnd, bin_at, read}
use Rattle.spec_cabac.specs.Bins.{decided, stepped, moved, placed, times, fixed_after, unary, truncated, ones}
use Rattle.spec_cabac.specs.Bins.{exp_golomb, decision, bypass}
use Rattle.engine_laws.specs.Going.{IsGoing, IsWithin}
use Rattle.engine_laws.proofs.Engines.{IsIn, decision_is, bypass_is, terminate_is}
use Rattle.engine_laws.proofs.Engines.{pcm_start_is, number_in, started_is}

-- the engine goes on behind what is read, where it went on before
pub record Keeps {X : Type 0} (format : Tree X) : Type 0 where
  pub keeps : (bits : List Bool) (s t : State) (x : X) → IsGoing bits s → read format s ≡ Ok (x, t) → IsGoing bits t

pub give_keeps : {X : Type 0} (x : X) → Keeps (Give x)
give_keeps x = record {
  keeps = λ bits s t y going e. subst (IsGoing bits) (ap (λ (r : _ × State). r.1) (ok_is (x, s) (y, t) e)) going;
}

pub refuse_keeps : {X : Type 0} (e : Breach) → Keeps {X = X} (Refuse e)
refuse_keeps e = record { keeps = λ bits s t y going is. absurd cc }

pub then_keeps : {X Y : Type 0} {m : Tree X} {f : X → Tree Y} → Keeps m → ((x : X) → Keeps (f x)) → Keeps (Then m f)
then_keeps {m = m} {f = f} first next = record {
  keeps = λ bits s t y going e.
      let step = bind_ok (read m s) (λ v u. read (f v) u) (y, t) e in
      (next step.value).keeps bits step.state t y (first.keeps bits s step.state step.value going step.read)
      step.then_read;
}

pub when_keeps : {X : Type 0} {m n : Tree X} (b : Bool) → Keeps m → Keeps n → Keeps (cond b m n)
when_keeps true first second = first
when_keeps false first second = second

pub wanted_keeps : (fact : Bool) (e : Breach) → Keeps (wanted fact e)
wanted_keeps fact e = when_keeps fact (give_keeps fact) (refuse_keeps e)

-- contexts behind a decision
set_below : (xs : List ℕ) (i v : ℕ) → v < 126 → ((j : ℕ) → slice_index xs j < 126) → (j : ℕ)
    → slice_index (slice_set xs i v) j < 126
set_below [] i v small all j = all j
set_below (x ∷ xs) zero v small all zero = small
set_below (x ∷ xs) zero v small all (suc j) = all (suc j)
set_below (x ∷ xs) (suc i) v small all zero = all zero
set_below (x ∷ xs) (suc i) v small all (suc j) = set_below xs i v small (λ k. all (suc k)) j

within_behind : (bits : List Bool) (s : State) (e : Engine) (contexts : List ℕ) → IsWithin bits s → IsIn s.0 e
    → ((i : ℕ) → slice_index contexts i < 126) → IsWithin bits (e, contexts)
within_behind bits s e contexts before inside all = record {
  bits = inside.bits ∙ before.bits;
  at =
      subst (λ (b : List Bool). e.at ≤ length b) before.bits
      (inside.at (subst (λ (b : List Bool). s.0.at ≤ length b) (sym before.bits) before.at));
  contexts = all;
}

decided_keeps : (bits : List Bool) (s : State) (i : ℕ) → IsGoing bits s → (o : Option (Bool × (Engine × ℕ)))
    → decision_at (s.0, slice_index s.1 i) ≡ o → (t : State) (x : Bool) → decided s.1 i o ≡ Ok (x, t)
    → IsGoing bits t
decided_keeps bits s i going None is t x e = absurd cc
decided_keeps bits s i going (Some d) is t x e =
    let d_is = decision_is s.0 (slice_index s.1 i) going.live (going.within.contexts i) d is in
    let contexts = set_below s.1 i d.1.1 d_is.context going.within.contexts in
    subst (IsGoing bits)
    (ap (λ (r : Bool × State). r.1) (ok_is (d.0, (d.1.0, slice_set s.1 i d.1.1)) (x, t) e))
    (record {
      within = within_behind bits s d.1.0 (slice_set s.1 i d.1.1) going.within d_is.engine.inside contexts;
      live = d_is.engine.live;
    })

pub decision_keeps : (i : ℕ) → Keeps (decision i)
unfolding bin_at
decision_keeps i = record {
  keeps = λ bits s t x going e.
      decided_keeps bits s i going (decision_at (s.0, slice_index s.1 i)) refl t x e;
}

bypassed_keeps : (bits : List Bool) (s : State) → IsGoing bits s → (o : Option (Bool × Engine)) → bypass_at s.0 ≡ o
    → (t : State) (x : Bool) → stepped s.1 o ≡ Ok (x, t) → IsGoing bits t
bypassed_keeps bits s going None is t x e = absurd cc
bypassed_keeps bits s going (Some d) is t x e =
    let after = bypass_is s.0 going.live d is in
    subst (IsGoing bits) (ap (λ (r : Bool × State). r.1) (ok_is (d.0, (d.1, s.1)) (x, t) e))
    (record {
      within = within_behind bits s d.1 s.1 going.within after.inside going.within.contexts;
      live = after.live;
    })

pub bypass_keeps : Keeps bypass
unfolding bin_at
bypass_keeps = record { keeps = λ bits s t x going e. bypassed_keeps bits s going (bypass_at s.0) refl t x e }

-- behind a bin before termination the engine stays in its substream, and goes on if the bin is 0
pub record Ends (bits : List Bool) (x : Bool) (t : State) : Type 0 where
  pub within : IsWithin bits t
  pub going : x ≡ false → IsGoing bits t

terminated : (bits : List Bool) (s : State) → IsGoing bits s → (o : Option (Bool × Engine)) → terminate_at s.0 ≡ o
    → (t : State) (x : Bool) → stepped s.1 o ≡ Ok (x, t) → Ends bits x t
terminated bits s going None is t x e = absurd cc
terminated bits s going (Some d) is t x e =
    let after = terminate_is s.0 going.live d is in
    let within = within_behind bits s d.1 s.1 going.within after.inside going.within.contexts in
    subst (λ (r : Bool × State). Ends bits r.0 r.1) (ok_is (d.0, (d.1, s.1)) (x, t) e)
    (record { within = within; going = λ no. record { within = within; live = after.live no } })

pub terminate_ends : (bits : List Bool) (s t : State) (x : Bool) → IsGoing bits s → read (One Terminate) s ≡ Ok (x, t)
    → Ends bits x t
unfolding bin_at
terminate_ends bits s t x going e = terminated bits s going (terminate_at s.0) refl t x e

-- formats that stay in a substream, and one that begins there anew
pub record Stays {X : Type 0} (format : Tree X) : Type 0 where
  pub stays : (bits : List Bool) (s t : State) (x : X) → IsWithin bits s → read format s ≡ Ok (x, t) → IsWithin bits t

pub give_stays : {X : Type 0} (x : X) → Stays (Give x)
give_stays x = record {
  stays = λ bits s t y within e. subst (IsWithin bits) (ap (λ (r : _ × State). r.1) (ok_is (x, s) (y, t) e)) within;
}

pub then_stays : {X Y : Type 0} {m : Tree X} {f : X → Tree Y} → Stays m → ((x : X) → Stays (f x)) → Stays (Then m f)
then_stays {m = m} {f = f} first next = record {
  stays = λ bits s t y within e.
      let step = bind_ok (read m s) (λ v u. read (f v) u) (y, t) e in
      (next step.value).stays bits step.state t y (first.stays bits s step.state step.value within step.read)
      step.then_read;
}

pub times_stays : {X : Type 0} (step : ℕ → X → Tree X) → ((i : ℕ) (x : X) → Stays (step i x)) → (i n : ℕ) (x : X)
    → Stays (times i n step x)
unfolding times
times_stays step each i zero x = give_stays x
times_stays step each i (suc n) x = then_stays (each i x) (λ y. times_stays step each (i + 1) n y)

sampled_stays : (bits : List Bool) (s : State) (size : ℕ) → IsWithin bits s → (o : Option (ℕ × Engine))
    → sample_at size s.0 ≡ o → (t : State) (x : ℕ) → stepped s.1 o ≡ Ok (x, t) → IsWithin bits t
sampled_stays bits s size within None is t x e = absurd cc
sampled_stays bits s size within (Some d) is t x e =
    subst (IsWithin bits) (ap (λ (r : ℕ × State). r.1) (ok_is (d.0, (d.1, s.1)) (x, t) e))
    (within_behind bits s d.1 s.1 within (number_in size s.0 d is) within.contexts)

pub sample_stays : (size : ℕ) → Stays (One (Sample size))
unfolding bin_at
sample_stays size =
    record { stays = λ bits s t x within e. sampled_stays bits s size within (sample_at size s.0) refl t x e }

begun_stays : (bits : List Bool) (s : State) → IsWithin bits s → (o : Option (ℕ × Engine)) → pcm_start_at s.0 ≡ o
    → (t : State) (x : Unit {0}) → placed s.1 o ≡ Ok (x, t) → IsWithin bits t
begun_stays bits s within None is t x e = absurd cc
begun_stays bits s within (Some d) is t x e =
    subst (IsWithin bits) (ap (λ (r : Unit {0} × State). r.1) (ok_is (tt, (d.1, s.1)) (x, t) e))
    (within_behind bits s d.1 s.1 within (pcm_start_is s.0 d is) within.contexts)

pub pcm_start_stays : Stays (One PcmStart)
unfolding bin_at
pcm_start_stays =
    record { stays = λ bits s t x within e. begun_stays bits s within (pcm_start_at s.0) refl t x e }

ended_goes : (bits : List Bool) (s : State) → IsWithin bits s → (o : Option Engine) → pcm_end_at s.0 ≡ o
    → (t : State) (x : Unit {0}) → moved s.1 o ≡ Ok (x, t) → IsGoing bits t
ended_goes bits s within None is t x e = absurd cc
ended_goes bits s within (Some f) is t x e =
    let started = started_is s.0 f is in
    subst (IsGoing bits) (ap (λ (r : Unit {0} × State). r.1) (ok_is (tt, (f, s.1)) (x, t) e))
    (record { within = within_behind bits s f s.1 within started.inside within.contexts; live = started.live })

pub pcm_end_goes : (bits : List Bool) (s t : State) (x : Unit {0}) → IsWithin bits s → read (One PcmEnd) s ≡ Ok (x, t)
    → IsGoing bits t
unfolding bin_at
pcm_end_goes bits s t x within e = ended_goes bits s within (pcm_end_at s.0) refl t x e

-- binarizations
pub times_keeps : {X : Type 0} (step : ℕ → X → Tree X) → ((i : ℕ) (x : X) → Keeps (step i x)) → (i n : ℕ) (x : X)
    → Keeps (times i n step x)
unfolding times
times_keeps step each i zero x = give_keeps x
times_keeps step each i (suc n) x = then_keeps (each i x) (λ y. times_keeps step each (i + 1) n y)

pub fixed_keeps : (n value : ℕ) → Keeps (fixed_after n value)
unfolding fixed_after
fixed_keeps zero value = give_keeps value
fixed_keeps (suc n) value = then_keeps bypass_keeps (λ bin. fixed_keeps n _)

pub unary_keeps : (over : Tree ℕ) (bin : ℕ → Tree Bool) → Keeps over → ((i : ℕ) → Keeps (bin i)) → (i n : ℕ)
    → Keeps (unary over bin i n)
unfolding unary
unary_keeps over bin last each i zero = last
unary_keeps over bin last each i (suc n) =
    then_keeps (each i) (λ more. when_keeps more (unary_keeps over bin last each (i + 1) n) (give_keeps i))

pub truncated_keeps : (bin : ℕ → Tree Bool) (greatest : ℕ) → ((i : ℕ) → Keeps (bin i)) → Keeps (truncated bin greatest)
truncated_keeps bin greatest each = unary_keeps (Give greatest) bin (give_keeps greatest) each 0 greatest

pub ones_keeps : (e : Breach) → Keeps (ones e)
ones_keeps e = unary_keeps (Refuse e) (λ i. bypass) (refuse_keeps e) (λ i. bypass_keeps) 0 32

pub exp_golomb_keeps : (e : Breach) (k : ℕ) → Keeps (exp_golomb e k)
unfolding exp_golomb
exp_golomb_keeps e k = then_keeps (ones_keeps e) (λ n. then_keeps (fixed_keeps (k + n) 0) (λ rest. give_keeps _))
