-- Each bin is read where it was written.
use Rattle.std.proofs.Common.{◌≡◌, ℕ, ◌+◌, ◌-◌, ◌*◌, ◌/◌, ◌%◌, ◌<◌, ◌≤◌, Bool, true, false, cond, List, length}
use Rattle.std.proofs.Common.{Option, Some, refl, ap, ◌∙◌, arith}
use Rattle.std.specs.Prelude.{nat_le, not, ◌==◌}
use Rattle.std.specs.Bool.{beq}
use Rattle.std.proofs.lemmas.Bool.{le-leb, lt-leb}
use Rattle.spec_cabac.specs.Contexts.{lps_range_of, context_after_lps, context_after_mps}
use Rattle.spec_cabac.specs.Engine.{Engine, decision_at, bypass_at, terminate_at, doublings}
use Rattle.spec_cabac.proofs.TableRules.{lps_range_bounds}
use Rattle.cabac_writer.specs.Coding.{Coding, scaled, is_mps, with_decision, context_after, with_bypass}
use Rattle.cabac_writer.specs.Coding.{with_terminate}
use Rattle.cabac_writer.proofs.Values.{value, more, IsIn, IsInside, engine_of, number_there, narrowed}
use Rattle.cabac_writer.proofs.Values.{renormalized, value-add, more_below}

-- the interval before a bin has what the one behind it has, and the bin is read
pub record IsRead {X : Type 0} (c : Coding) (base : ℕ) (bits : List Bool) (read want : X) : Type 0 where
  pub inside : IsInside c base bits
  pub found : read ≡ want

abbrev Decided : Type 0
Decided = Option (Bool × (Engine × ℕ))

-- the more probable symbol
mps_read : (c : Coding) (context base : ℕ) (bits : List Bool) (lps : ℕ) → lps ≡ lps_range_of (context / 2) c.range
    → lps ≤ c.range → IsInside (scaled (c.range - lps) c.low c.size) base bits
    → IsRead {X = Decided} c base bits (decision_at (engine_of c base bits, context))
    (Some (context % 2 == 1, (engine_of (scaled (c.range - lps) c.low c.size) base bits, context_after_mps context)))
unfolding decision_at
mps_read c context base bits lps is few inside =
    let w = narrowed (c.range - lps) c.low c.size base (doublings (c.range - lps)) bits inside in
    let low = w.before.below in
    let less : nat_le (c.range - lps) (value base c.size bits - c.low) ≡ false = lt-leb _ _ (omega arith) in
    let r =
    renormalized (c.range - lps) c.low c.size base c.range (value base c.size bits - c.low)
    (value base c.size bits - c.low) bits refl inside in
    record {
      inside = record { enough = w.before.enough; least = w.before.least; below = omega arith };
      found = rw (← is, less, r) refl;
    }

-- the less probable one
lps_read : (c : Coding) (context base : ℕ) (bits : List Bool) (lps : ℕ) → lps ≡ lps_range_of (context / 2) c.range
    → lps ≤ c.range → IsInside (scaled lps (c.low + (c.range - lps)) c.size) base bits
    → IsRead {X = Decided} c base bits (decision_at (engine_of c base bits, context))
    (Some (
      not (context % 2 == 1),
      (engine_of (scaled lps (c.low + (c.range - lps)) c.size) base bits, context_after_lps context),
    ))
unfolding decision_at
lps_read c context base bits lps is few inside =
    let low : ℕ = c.low + (c.range - lps) in
    let w = narrowed lps low c.size base (doublings lps) bits inside in
    let least = w.before.least in
    let below = w.before.below in
    let more : nat_le (c.range - lps) (value base c.size bits - c.low) ≡ true = le-leb _ _ (omega arith) in
    let rest : value base c.size bits - c.low - (c.range - lps) ≡ value base c.size bits - low = omega arith in
    let r =
    renormalized lps low c.size base c.range (value base c.size bits - c.low)
    (value base c.size bits - c.low - (c.range - lps)) bits rest inside in
    record {
      inside = record { enough = w.before.enough; least = omega arith; below = omega arith };
      found = rw (← is, more, r) refl;
    }

same_if : (bin mps : Bool) → beq bin mps ≡ true → mps ≡ bin
same_if true true e = refl
same_if true false e = absurd cc
same_if false true e = absurd cc
same_if false false e = refl

other_if : (bin mps : Bool) → beq bin mps ≡ false → not mps ≡ bin
other_if true true e = absurd cc
other_if true false e = refl
other_if false true e = refl
other_if false false e = absurd cc

decided : (c : Coding) (context base : ℕ) (bits : List Bool) (bin m : Bool) → is_mps context bin ≡ m
    → lps_range_of (context / 2) c.range ≤ c.range
    → IsInside (cond m (scaled (c.range - lps_range_of (context / 2) c.range) c.low c.size)
    (scaled (lps_range_of (context / 2) c.range) (c.low + (c.range - lps_range_of (context / 2) c.range)) c.size))
    base bits
    → IsRead {X = Decided} c base bits (decision_at (engine_of c base bits, context))
    (Some (
      bin,
      (
        engine_of (cond m (scaled (c.range - lps_range_of (context / 2) c.range) c.low c.size)
            (scaled (lps_range_of (context / 2) c.range) (c.low + (c.range - lps_range_of (context / 2) c.range))
            c.size))
            base bits,
        cond m (context_after_mps context) (context_after_lps context),
      ),
    ))
decided c context base bits bin true e few inside =
    let lps : ℕ = lps_range_of (context / 2) c.range in
    let r = mps_read c context base bits lps refl few inside in
    record {
      inside = r.inside;
      found =
          r.found
          ∙ ap (λ b. Some (b, (engine_of (scaled (c.range - lps) c.low c.size) base bits, context_after_mps context)))
          (same_if bin (context % 2 == 1) e);
    }
decided c context base bits bin false e few inside =
    let lps : ℕ = lps_range_of (context / 2) c.range in
    let r = lps_read c context base bits lps refl few inside in
    record {
      inside = r.inside;
      found =
          r.found
          ∙ ap (λ b. Some (
            b,
            (
              engine_of (scaled lps (c.low + (c.range - lps)) c.size) base bits,
              context_after_lps context,
            ),
          ))
          (other_if bin (context % 2 == 1) e);
    }

pub decision_read : (c : Coding) (context base : ℕ) (bits : List Bool) (bin : Bool) → context < 126 → 256 ≤ c.range
    → IsInside (with_decision c context bin) base bits
    → IsRead {X = Decided} c base bits (decision_at (engine_of c base bits, context))
    (Some (bin, (engine_of (with_decision c context bin) base bits, context_after context bin)))
unfolding with_decision context_after
decision_read c context base bits bin small live inside =
    let bounds = lps_range_bounds (context / 2) c.range (omega arith) in
    decided c context base bits bin (is_mps context bin) refl (omega (arith, bounds.greatest)) inside

-- a bypass bin
bit_value : (c : Coding) (base : ℕ) (bits : List Bool) (low : ℕ) → IsIn c.range low (c.size + 1) base bits
    → (base + c.size + 1 ≤ length bits)
    × (value base (c.size + 1) bits ≡ 2 * value base c.size bits + more 1 (base + c.size) bits)
    × (more 1 (base + c.size) bits < 2)
bit_value c base bits low inside =
    let there : base + c.size + 1 ≤ length bits = omega (arith, inside.enough) in
    let v = value-add base c.size 1 bits there in
    (there, omega arith, more_below 1 (base + c.size) bits there)

pub bypass_read : (c : Coding) (base : ℕ) (bits : List Bool) (bin : Bool)
    → IsInside (with_bypass c bin) base bits
    → IsRead {X = Option (Bool × Engine)} c base bits (bypass_at (engine_of c base bits))
    (Some (bin, engine_of (with_bypass c bin) base bits))
unfolding with_bypass bypass_at
bypass_read c base bits true inside =
    let b = bit_value c base bits (2 * c.low + c.range) inside in
    let least = inside.least in
    let below = inside.below in
    let low : c.low ≤ value base c.size bits = omega (arith, b.1, b.2) in
    let high : value base c.size bits < c.low + c.range = omega (arith, b.1, b.2) in
    let over : nat_le c.range (2 * (value base c.size bits - c.low) + more 1 (base + c.size) bits) ≡ true =
    le-leb _ _ (omega (arith, b.1)) in
    let rest : 2 * (value base c.size bits - c.low) + more 1 (base + c.size) bits - c.range
    ≡ value base (c.size + 1) bits - (2 * c.low + c.range) =
    omega (arith, b.1) in
    let place : base + c.size + 1 ≡ base + (c.size + 1) = omega arith in
    record {
      inside = record { enough = omega (arith, b.0); least = low; below = high };
      found = rw (number_there 1 c.range (value base c.size bits - c.low) (base + c.size) bits b.0, over, rest, place)
          refl;
    }
bypass_read c base bits false inside =
    let b = bit_value c base bits (2 * c.low + 0) inside in
    let least = inside.least in
    let below = inside.below in
    let low : c.low ≤ value base c.size bits = omega (arith, b.1, b.2) in
    let high : value base c.size bits < c.low + c.range = omega (arith, b.1, b.2) in
    let under : nat_le c.range (2 * (value base c.size bits - c.low) + more 1 (base + c.size) bits) ≡ false =
    lt-leb _ _ (omega (arith, b.1)) in
    let rest : 2 * (value base c.size bits - c.low) + more 1 (base + c.size) bits
    ≡ value base (c.size + 1) bits - (2 * c.low + 0) =
    omega (arith, b.1) in
    let place : base + c.size + 1 ≡ base + (c.size + 1) = omega arith in
    record {
      inside = record { enough = omega (arith, b.0); least = low; below = high };
      found = rw (number_there 1 c.range (value base c.size bits - c.low) (base + c.size) bits b.0, under, rest, place)
          refl;
    }

-- a bin before termination
pub going_read : (c : Coding) (base : ℕ) (bits : List Bool) → 256 ≤ c.range
    → IsInside (with_terminate c false) base bits
    → IsRead {X = Option (Bool × Engine)} c base bits (terminate_at (engine_of c base bits))
    (Some (false, engine_of (with_terminate c false) base bits))
unfolding with_terminate terminate_at
going_read c base bits live inside =
    let w = narrowed (c.range - 2) c.low c.size base (doublings (c.range - 2)) bits inside in
    let below = w.before.below in
    let less : nat_le (c.range - 2) (value base c.size bits - c.low) ≡ false = lt-leb _ _ (omega arith) in
    let r =
    renormalized (c.range - 2) c.low c.size base c.range (value base c.size bits - c.low)
    (value base c.size bits - c.low) bits refl inside in
    record {
      inside = record { enough = w.before.enough; least = w.before.least; below = omega arith };
      found = rw (less, r) refl;
    }

-- the engine behind the last bin
abbrev pub ended : Coding → ℕ → List Bool → Engine
ended c base bits =
    record { range = c.range - 2; offset = value base c.size bits - c.low; bits = bits; at = base + c.size }

pub ending_read : (c : Coding) (base : ℕ) (bits : List Bool) → 256 ≤ c.range
    → IsInside (with_terminate c true) base bits
    → IsRead {X = Option (Bool × Engine)} c base bits (terminate_at (engine_of c base bits))
    (Some (true, ended c base bits))
unfolding with_terminate terminate_at
ending_read c base bits live inside =
    let least = inside.least in
    let below = inside.below in
    let over : nat_le (c.range - 2) (value base c.size bits - c.low) ≡ true = le-leb _ _ (omega arith) in
    record {
      inside = record { enough = inside.enough; least = omega arith; below = omega arith };
      found = rw over refl;
    }
