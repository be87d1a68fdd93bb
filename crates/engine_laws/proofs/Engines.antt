-- What each step of the engine leaves.
use Rattle.std.proofs.Common.{◌≡◌, ℕ, ◌+◌, ◌-◌, ◌*◌, ◌/◌, ◌%◌, ◌^◌, ◌<◌, ◌≤◌, Bool, true, false, List}
use Rattle.std.proofs.Common.{length, Option, Some, None, min, refl, ap, sym, subst, arith}
use Rattle.std.specs.Prelude.{nat_le, nat_lt, not, ◌==◌, if◌then◌else◌}
use Rattle.std.proofs.lemmas.Bool.{leb-false, ltb-true}
use Rattle.std.proofs.lemmas.List.{length-drop}
use Rattle.spec_bits.specs.Bits.{u_at, ◌>>=◌}
use Rattle.spec_bits.proofs.Codes.{bind_some}
use Rattle.spec_bits.proofs.Digits.{u_at-only, u_at-found}
use Rattle.spec_cabac.specs.Engine.{Engine, IsLive, left, number_at, started_at, doublings, renormalized_at}
use Rattle.spec_cabac.specs.Engine.{decision_at}
use Rattle.spec_cabac.specs.Engine.{bypass_at, terminate_at, pcm_start_at}
use Rattle.spec_cabac.specs.Contexts.{lps_range_of, context_after_lps, context_after_mps}
use Rattle.spec_cabac.proofs.Renormalization.{Doubled, Doubled-range, scaled_below}
use Rattle.spec_cabac.proofs.TableRules.{lps_range_bounds, state_after_lps_bound, state_after_mps_bound}

abbrev given : {X : Type 0} → X → Option X → X
given d None = d
given d (Some x) = x

some_is : {X : Type 0} (x y : X) → Some x ≡ Some y → x ≡ y
some_is x y e = ap (given x) e

-- a number was read
record Moved (n : ℕ) (e : Engine) (d : ℕ × Engine) : Type 0 where
  engine : d.1 ≡ record { range = e.range; offset = e.offset; bits = e.bits; at = e.at + n }
  inside : e.at ≤ length e.bits → e.at + n ≤ length e.bits
  small : d.0 < 2 ^ n

number_moves : (n : ℕ) (e : Engine) (d : ℕ × Engine) → number_at n e ≡ Some d → Moved n e d
unfolding number_at
number_moves n e d is =
    let next : Engine = record { range = e.range; offset = e.offset; bits = e.bits; at = e.at + n } in
    let found = bind_some (u_at n (left e)) (λ (f : ℕ × List Bool). Some (f.0, next)) d is in
    let same : (found.0.0, next) ≡ d = some_is (found.0.0, next) d found.2 in
    let small = (u_at-only n (left e) found.0.0 found.0.1 found.1).0 in
    let enough = (u_at-found n (left e) found.0.0 found.0.1 found.1).enough in
    record {
      engine = sym (ap (λ (p : ℕ × Engine). p.1) same);
      inside = λ before. omega (arith, enough, length-drop e.at e.bits, before);
      small = subst (λ v. v < 2 ^ n) (ap (λ (p : ℕ × Engine). p.0) same) small;
    }

-- engines with the same bits and place
pub record IsIn (e f : Engine) : Type 0 where
  pub bits : f.bits ≡ e.bits
  pub at : e.at ≤ length e.bits → f.at ≤ length e.bits

pub number_in : (n : ℕ) (e : Engine) (d : ℕ × Engine) → number_at n e ≡ Some d → IsIn e d.1
number_in n e d is =
    let m = number_moves n e d is in
    record {
      bits = ap (λ (f : Engine). f.bits) m.engine;
      at = λ before. subst (λ (f : Engine). f.at ≤ length e.bits) (sym m.engine) (m.inside before);
    }

-- initialization
pub record IsStarted (e f : Engine) : Type 0 where
  pub inside : IsIn e f
  pub live : IsLive f

pub started_is : (e f : Engine) → started_at e ≡ Some f → IsStarted e f
unfolding started_at
started_is e f is =
    let after : ℕ × Engine → Engine = λ d.
    record { range = 510; offset = min d.0 509; bits = d.1.bits; at = d.1.at } in
    let found = bind_some (number_at 9 e) (λ d. Some (after d)) f is in
    let moved = number_in 9 e found.0 found.1 in
    let same : after found.0 ≡ f = some_is (after found.0) f found.2 in
    let live : IsLive (after found.0) = record { low = omega arith; high = omega arith; below = omega arith } in
    subst (IsStarted e) same (record { inside = record { bits = moved.bits; at = moved.at }; live = live })

-- renormalization of a range and an offset below it
pub renormalized_is : (range offset : ℕ) (e f : Engine) → 2 ≤ range → range ≤ 510 → offset < range
    → renormalized_at range offset e ≡ Some f → IsStarted e f
unfolding renormalized_at
renormalized_is range offset e f low high below is =
    let n : ℕ = doublings range in
    let after : ℕ × Engine → Engine = λ d.
    record { range = range * 2 ^ n; offset = offset * 2 ^ n + d.0; bits = d.1.bits; at = d.1.at } in
    let found = bind_some (number_at n e) (λ d. Some (after d)) f is in
    let m = number_moves n e found.0 found.1 in
    let moved = number_in n e found.0 found.1 in
    let same : after found.0 ≡ f = some_is (after found.0) f found.2 in
    let d : Doubled range = Doubled-range range low high in
    let live : IsLive (after found.0) = record {
      low = d.low;
      high = d.high;
      below = scaled_below offset range found.0.0 n below m.small;
    } in
    subst (IsStarted e) same (record { inside = record { bits = moved.bits; at = moved.at }; live = live })

-- a decision leaves a live engine and a context that may be
pub record IsDecided (e : Engine) (d : Bool × (Engine × ℕ)) : Type 0 where
  pub engine : IsStarted e d.1.0
  pub context : d.1.1 < 126

bit_small : (c : ℕ) (b : Bool) → (if b then 1 - c % 2 else c % 2) ≤ 1
bit_small c true = omega arith
bit_small c false = omega arith

lps_below : (context : ℕ) → context < 126 → context_after_lps context < 126
unfolding context_after_lps
lps_below context small =
    omega (arith, state_after_lps_bound (context / 2) (omega arith), bit_small context (context / 2 == 0))

mps_below : (context : ℕ) → context < 126 → context_after_mps context < 126
unfolding context_after_mps
mps_below context small = omega (arith, state_after_mps_bound (context / 2) (omega arith))

module _ (e : Engine) (context : ℕ) (live : IsLive e) (small : context < 126) where
  abbrev lps : ℕ
  lps = lps_range_of (context / 2) e.range

  abbrev mps : Bool
  mps = context % 2 == 1

  abbrev by_lps : Engine → Option (Bool × (Engine × ℕ))
  by_lps after = Some (not mps, (after, context_after_lps context))

  abbrev by_mps : Engine → Option (Bool × (Engine × ℕ))
  by_mps after = Some (mps, (after, context_after_mps context))

  decided_if : (b : Bool) → nat_le (e.range - lps) e.offset ≡ b → (d : Bool × (Engine × ℕ))
      → (if b then (renormalized_at lps (e.offset - (e.range - lps)) e >>= by_lps)
      else (renormalized_at (e.range - lps) e.offset e >>= by_mps))
      ≡ Some d
      → IsDecided e d
  decided_if true over d is =
      let bounds = lps_range_bounds (context / 2) e.range (omega (arith, small)) in
      let low = bounds.least in
      let high = bounds.greatest in
      let found = bind_some (renormalized_at lps (e.offset - (e.range - lps)) e) by_lps d is in
      let engine = renormalized_is lps (e.offset - (e.range - lps)) e found.0 (omega (arith, low))
      (omega (arith, high)) (omega (arith, live.below, live.low, high, low)) found.1 in
      subst (IsDecided e) (some_is (not mps, (found.0, context_after_lps context)) d found.2)
      (record { engine = engine; context = lps_below context small })
  decided_if false under d is =
      let bounds = lps_range_bounds (context / 2) e.range (omega (arith, small)) in
      let low = bounds.least in
      let high = bounds.greatest in
      let below = leb-false (e.range - lps) e.offset under in
      let found = bind_some (renormalized_at (e.range - lps) e.offset e) by_mps d is in
      let engine = renormalized_is (e.range - lps) e.offset e found.0 (omega (arith, live.low, high))
      (omega (arith, live.high)) (omega (arith, below)) found.1 in
      subst (IsDecided e) (some_is (mps, (found.0, context_after_mps context)) d found.2)
      (record { engine = engine; context = mps_below context small })

  pub decision_is : (d : Bool × (Engine × ℕ)) → decision_at (e, context) ≡ Some d → IsDecided e d
  unfolding decision_at
  decision_is d is = decided_if (nat_le (e.range - lps) e.offset) refl d is

module _ (e : Engine) (before : IsLive e) where
  -- a bypass bin
  bypassed_if : (bit : ℕ × Engine) → Moved 1 e bit → (b : Bool) → nat_le bit.1.range (2 * e.offset + bit.0) ≡ b
      → (d : Bool × Engine)
      → (if b
      then Some (
        true,
        record {
          range = bit.1.range;
          offset = 2 * e.offset + bit.0 - bit.1.range;
          bits = bit.1.bits;
          at = bit.1.at;
        },
      )
      else Some (
        false,
        record {
          range = bit.1.range;
          offset = 2 * e.offset + bit.0;
          bits = bit.1.bits;
          at = bit.1.at;
        },
      )) ≡ Some d
      → IsIn e bit.1 → IsStarted e d.1
  bypassed_if bit m true over d is moved =
      let range_is : bit.1.range ≡ e.range = ap (λ (f : Engine). f.range) m.engine in
      let after : Engine = record {
        range = bit.1.range;
        offset = 2 * e.offset + bit.0 - bit.1.range;
        bits = bit.1.bits;
        at = bit.1.at;
      } in
      let small : bit.0 < 2 = m.small in
      let left : IsLive after = record {
        low = omega (arith, range_is, before.low);
        high = omega (arith, range_is, before.high);
        below = omega (arith, range_is, before.below, small, before.low);
      } in
      subst (λ (r : Bool × Engine). IsStarted e r.1) (some_is (true, after) d is)
      (record { inside = record { bits = moved.bits; at = moved.at }; live = left })
  bypassed_if bit m false under d is moved =
      let range_is : bit.1.range ≡ e.range = ap (λ (f : Engine). f.range) m.engine in
      let after : Engine = record {
        range = bit.1.range;
        offset = 2 * e.offset + bit.0;
        bits = bit.1.bits;
        at = bit.1.at;
      } in
      let left : IsLive after = record {
        low = omega (arith, range_is, before.low);
        high = omega (arith, range_is, before.high);
        below = omega (arith, leb-false bit.1.range (2 * e.offset + bit.0) under);
      } in
      subst (λ (r : Bool × Engine). IsStarted e r.1) (some_is (false, after) d is)
      (record { inside = record { bits = moved.bits; at = moved.at }; live = left })

  pub bypass_is : (d : Bool × Engine) → bypass_at e ≡ Some d → IsStarted e d.1
  unfolding bypass_at
  bypass_is d is =
      let found = bind_some (number_at 1 e) (λ (bit : ℕ × Engine).
      if nat_le bit.1.range (2 * e.offset + bit.0)
      then Some (
        true,
        record {
          range = bit.1.range;
          offset = 2 * e.offset + bit.0 - bit.1.range;
          bits = bit.1.bits;
          at = bit.1.at;
        },
      )
      else Some (
        false,
        record {
          range = bit.1.range;
          offset = 2 * e.offset + bit.0;
          bits = bit.1.bits;
          at = bit.1.at;
        },
      )) d is in
      bypassed_if found.0 (number_moves 1 e found.0 found.1)
      (nat_le found.0.1.range (2 * e.offset + found.0.0)) refl d found.2 (number_in 1 e found.0 found.1)

  -- a bin before termination
  pub record IsTerminated (d : Bool × Engine) : Type 0 where
    pub inside : IsIn e d.1
    pub live : d.0 ≡ false → IsLive d.1

  terminated_if : (b : Bool) → nat_le (e.range - 2) e.offset ≡ b → (d : Bool × Engine)
      → (if b then Some (true, record { range = e.range - 2; offset = e.offset; bits = e.bits; at = e.at })
      else (renormalized_at (e.range - 2) e.offset e >>= λ after. Some (false, after))) ≡ Some d
      → IsTerminated d
  terminated_if true over d is =
      subst IsTerminated
      (some_is (true, record { range = e.range - 2; offset = e.offset; bits = e.bits; at = e.at }) d is)
      (record { inside = record { bits = refl; at = λ at. at }; live = λ no. absurd cc })
  terminated_if false under d is =
      let below = leb-false (e.range - 2) e.offset under in
      let found = bind_some (renormalized_at (e.range - 2) e.offset e) (λ after. Some (false, after)) d is in
      let after = renormalized_is (e.range - 2) e.offset e found.0 (omega (arith, before.low))
      (omega (arith, before.high)) (omega (arith, below)) found.1 in
      subst IsTerminated (some_is (false, found.0) d found.2)
      (record { inside = after.inside; live = λ is_false. after.live })

  pub terminate_is : (d : Bool × Engine) → terminate_at e ≡ Some d → IsTerminated d
  unfolding terminate_at
  terminate_is d is = terminated_if (nat_le (e.range - 2) e.offset) refl d is

-- samples of pulse code modulation begin
begins_if : (e : Engine) (byte : ℕ) (b : Bool) → nat_lt (8 * byte) (length e.bits) ≡ b → (d : ℕ × Engine)
    → (if b then Some (byte, record { range = e.range; offset = e.offset; bits = e.bits; at = 8 * byte }) else None)
    ≡ Some d
    → IsIn e d.1
begins_if e byte true inside d is =
    subst (λ (r : ℕ × Engine). IsIn e r.1)
    (some_is (byte, record { range = e.range; offset = e.offset; bits = e.bits; at = 8 * byte }) d is)
    (record { bits = refl; at = λ before. omega (arith, ltb-true (8 * byte) (length e.bits) inside) })
begins_if e byte false outside d is = absurd cc

pub pcm_start_is : (e : Engine) (d : ℕ × Engine) → pcm_start_at e ≡ Some d → IsIn e d.1
unfolding pcm_start_at
pcm_start_is e d is =
    begins_if e ((e.at + 7) / 8) (nat_lt (8 * ((e.at + 7) / 8)) (length e.bits)) refl d is
