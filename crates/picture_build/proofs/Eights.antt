-- Eight samples over the last of a list, which may lie over some that are there.
use Rattle.std.proofs.Common.{◌≡◌, ℕ, ◌+◌, ◌-◌, ◌*◌, ◌<◌, ◌≤◌, ◌/◌, List, length, min, arith}
use lib.Lanes.{put_chunk}
use Rattle.std.proofs.lemmas.Bool.Decides.{nat_tests}
use Rattle.inter_pred.specs.Passes.{at}
use Rattle.inter_pred.proofs.Lanes.{Holds, eight_more}

held_before : (f : ℕ → ℕ) (out : List ℕ) (k n : ℕ) → Holds f out n → k ≤ n → Holds f out k
held_before f out k n d le = record {
  within = omega (arith, d.within);
  told = λ j lt. d.told j (omega (arith, lt, le));
}

-- the first k eights of w samples, and one more
pub eights_more : (f : ℕ → ℕ) (out : List ℕ) (k w a : ℕ) (v : List ℕ) → 8 ≤ w → k < (w + 7) / 8 → length out ≡ w
    → Holds f out (min (8 * k) w) → a ≡ min (8 * k) (w - 8) → length v ≡ 8
    → ((i : ℕ) → i < 8 → at v i ≡ f (a + i))
    → Holds f (put_chunk a out v) (min (8 * (k + 1)) w)
eights_more f out k w a v wide lt long d place eight new =
    let le : a ≤ min (8 * k) w = grind (arith, nat_tests, place) in
    let room : a + 8 ≤ length out = grind (arith, nat_tests, long, place) in
    let end : min (8 * (k + 1)) w ≤ a + 8 = grind (arith, nat_tests, place) in
    held_before f _ _ _ (eight_more f out a v (held_before f out a _ d le) eight room new) end
