-- Tests that are put together.
use Rattle.std.proofs.Common.{◌≡◌, ℕ, cond, Bool, true, false, ◌&&◌, refl}
use Rattle.std.proofs.Common.{arith}
use Rattle.std.specs.Prelude.{◌==◌}
use Rattle.std.proofs.lemmas.Bool.Decides.{nat_tests}

pub same_test : (a b : ℕ) → a ≡ b → (a == b) ≡ true
same_test a b e = grind (arith, nat_tests)

pub other_test : (a b : ℕ) → ¬ (a ≡ b) → (a == b) ≡ false
other_test a b n = grind (arith, nat_tests)

pub both : (a b : Bool) → a ≡ true → b ≡ true → (a && b) ≡ true
both true b e f = f
both false b e f = e

pub second_not : (a b : Bool) → b ≡ false → (a && b) ≡ false
second_not true b e = e
second_not false b e = refl

pub when_true : {X : Type 0} (b : Bool) (v w u : X) → b ≡ true → v ≡ u → cond b v w ≡ u
when_true true v w u e f = f
when_true false v w u e f = absurd cc

pub when_false : {X : Type 0} (b : Bool) (v w u : X) → b ≡ false → w ≡ u → cond b v w ≡ u
when_false true v w u e f = absurd cc
when_false false v w u e f = f

pub must_false : (b : Bool) → ¬ (b ≡ true) → b ≡ false
must_false true n = absurd (n refl)
must_false false n = refl
