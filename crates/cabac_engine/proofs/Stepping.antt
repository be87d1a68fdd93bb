-- The steps of the engine, over a register.
use Rattle.std.proofs.Common.{◌≡◌, ℕ, ◌+◌, ◌-◌, ◌*◌, ◌%◌, ◌^◌, ◌<◌, ◌≤◌, Bool, true, false, length, take, drop}
use Rattle.std.proofs.Common.{Some, None, refl, sym, ◌∙◌, arith}
use Rattle.std.specs.Prelude.{nat_le, min}
use Rattle.std.proofs.Math.Nat.{mod-eq_of_lt, mul-le-mul_right}
use Rattle.std.proofs.lemmas.Bool.{leb-true, leb-false}
use Rattle.spec_bits.specs.Bits.{number_of}
use Rattle.spec_cabac.specs.Engine.{Engine, IsLive, doublings, renormalized_at, bypass_at, started_at}
use Rattle.spec_cabac.proofs.Renormalization.{Doubled-range, scaled_below}
use Rattle.cabac_engine.specs.Ahead.{Ahead, lengthened, reduced, engine}
use Rattle.cabac_engine.proofs.Held.{spelled_below}
use Rattle.cabac_engine.proofs.Reading.{Same, number_none, number_some}

pub renormalized_none : (range offset : ℕ) (e : Engine) → false ≡ nat_le (doublings range) (length e.bits - e.at)
    → renormalized_at range offset e ≡ None
unfolding renormalized_at
renormalized_none range offset e few = rw (number_none (doublings range) e (sym few)) refl

renormalized_some : (range offset : ℕ) (e : Engine) → true ≡ nat_le (doublings range) (length e.bits - e.at)
    → renormalized_at range offset e
    ≡ Some (record {
      range = range * 2 ^ doublings range;
      offset = offset * 2 ^ doublings range + number_of (take (doublings range) (drop e.at e.bits));
      bits = e.bits;
      at = e.at + doublings range;
    })
unfolding renormalized_at
renormalized_some range offset e enough = rw (number_some (doublings range) e (sym enough)) refl

-- the room that a register has for the offset
pub room : (range offset n : ℕ) → 2 ≤ range → range ≤ 510 → offset < range → n ≡ doublings range
    → (offset + 1) * 2 ^ n ≤ 512
room range offset n low high below is =
    let d = Doubled-range range low high in
    let greatest : range * 2 ^ n ≤ 510 = rw is d.high in
    let more : offset + 1 ≤ range = omega arith in
    omega (arith, mul-le-mul_right (2 ^ n) more)

pub renormalizes : (range less n before : ℕ) (a m b : Ahead) → n ≡ doublings range → 2 ≤ range → range ≤ 510
    → true ≡ nat_le n (length a.bits - a.at) → Same a m
    → b.offset ≡ (m.offset - less) * 2 ^ n + number_of (take n (drop m.at m.bits)) → b.bits ≡ m.bits → b.at ≡ m.at + n
    → renormalized_at range (a.offset - less) (engine before a) ≡ Some (engine (range * 2 ^ n % 4294967296) b)
renormalizes range less n before a m b is low high enough same offset bits at =
    let d = Doubled-range range low high in
    let greatest : range * 2 ^ n ≤ 510 = rw is d.high in
    let fits : range * 2 ^ n % 4294967296 ≡ range * 2 ^ n = mod-eq_of_lt (omega arith) in
    renormalized_some range (a.offset - less) (engine before a) (rw (← is) enough)
    ∙ rw (fits, offset, bits, at, same.offset, same.bits, same.at, is) refl

pub renormalized_live : (range less n : ℕ) (a m b : Ahead) → n ≡ doublings range → 2 ≤ range → range ≤ 510
    → a.offset - less < range → true ≡ nat_le n (length a.bits - a.at) → a.at ≤ length a.bits → Same a m
    → b.offset ≡ (m.offset - less) * 2 ^ n + number_of (take n (drop m.at m.bits))
    → IsLive (engine (range * 2 ^ n % 4294967296) b)
renormalized_live range less n a m b is low high below enough inside same offset =
    let d = Doubled-range range low high in
    let least : 256 ≤ range * 2 ^ n = rw is d.low in
    let greatest : range * 2 ^ n ≤ 510 = rw is d.high in
    let fits : range * 2 ^ n % 4294967296 ≡ range * 2 ^ n = mod-eq_of_lt (omega arith) in
    let there : a.at + n ≤ length a.bits = omega (arith, leb-true n (length a.bits - a.at) (sym enough)) in
    let small = spelled_below a.bits a.at n there in
    let under = scaled_below (a.offset - less) range (number_of (take n (drop a.at a.bits))) n below small in
    let offset_is : b.offset ≡ (a.offset - less) * 2 ^ n + number_of (take n (drop a.at a.bits)) =
    rw (offset, same.offset, same.bits, same.at) refl in
    record { low = omega (arith, fits); high = omega (arith, fits); below = omega (arith, fits, offset_is) }

pub bypass_none : (e : Engine) → false ≡ nat_le 1 (length e.bits - e.at) → bypass_at e ≡ None
unfolding bypass_at
bypass_none e few = rw (number_none 1 e (sym few)) refl

pub bypasses_if : (range : ℕ) (a : Ahead) (test : Bool) → nat_le range (lengthened a) ≡ test
    → true ≡ nat_le 1 (length a.bits - a.at)
    → bypass_at (engine range a)
    ≡ Some (test, record { range = range; offset = reduced range (lengthened a); bits = a.bits; at = a.at + 1 })
unfolding bypass_at
bypasses_if range a true is enough = rw (number_some 1 (engine range a) (sym enough), is) refl
bypasses_if range a false is enough = rw (number_some 1 (engine range a) (sym enough), is) refl

pub bypasses : (range : ℕ) (a m b : Ahead) (bin : Bool) → true ≡ nat_le 1 (length a.bits - a.at) → Same a m
    → bin ≡ nat_le range (lengthened m) → b.offset ≡ reduced range (lengthened m) → b.bits ≡ m.bits → b.at ≡ m.at + 1
    → bypass_at (engine range a) ≡ Some (bin, engine range b)
bypasses range a m b bin enough same test offset bits at =
    bypasses_if range a (nat_le range (lengthened a)) refl enough
    ∙ rw (test, offset, bits, at, same.offset, same.bits, same.at) refl

reduced_below : (range w : ℕ) (test : Bool) → nat_le range w ≡ test → w < 2 * range → reduced range w < range
reduced_below range w true is below = let le = leb-true range w is in rw is (omega arith)
reduced_below range w false is below = let lt = leb-false range w is in rw is lt

pub bypass_live : (range : ℕ) (a m b : Ahead) → IsLive (engine range a) → true ≡ nat_le 1 (length a.bits - a.at)
    → a.at ≤ length a.bits → Same a m → b.offset ≡ reduced range (lengthened m) → IsLive (engine range b)
bypass_live range a m b live enough inside same offset =
    let there : a.at + 1 ≤ length a.bits = omega (arith, leb-true 1 (length a.bits - a.at) (sym enough)) in
    let small : number_of (take 1 (drop a.at a.bits)) < 2 ^ 1 = spelled_below a.bits a.at 1 there in
    let w : lengthened a < 2 * range = omega (arith, live.below) in
    let offset_is : b.offset ≡ reduced range (lengthened a) = rw (offset, same.offset, same.bits, same.at) refl in
    record {
      low = live.low;
      high = live.high;
      below = omega (arith, offset_is, reduced_below range (lengthened a) (nat_le range (lengthened a)) refl w);
    }

pub started_none : (e : Engine) → false ≡ nat_le 9 (length e.bits - e.at) → started_at e ≡ None
unfolding started_at
started_none e few = rw (number_none 9 e (sym few)) refl

pub starts : (range value at : ℕ) (a m b : Ahead) → Same a m → true ≡ nat_le 9 (length a.bits - a.at)
    → value ≡ number_of (take 9 (drop m.at m.bits)) → at ≡ m.at → b.offset ≡ min value 509 → b.bits ≡ m.bits
    → b.at ≡ at + 9 → started_at (engine range a) ≡ Some (engine 510 b)
unfolding started_at
starts range value at a m b same enough is place offset bits at_is =
    rw (number_some 9 (engine range a) (sym enough), offset, is, bits, at_is, place, same.bits, same.at) refl
