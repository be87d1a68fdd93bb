use Rattle.std.proofs.Common.{◌≡◌, ℕ, ◌+◌, ◌-◌, drop, length, slice_index}
use Rattle.std.specs.List.{All}
use Rattle.ctu_build.specs.Scaled.{scaled_laid}
use Rattle.spec_transforms.specs.Scaling.{Is16, quantizer, scaled}
use Rattle.ctu_build.proofs.levels.lay_scaled.Given as goal

abbrev pub invariant-loop-k : goal.invariant-loop-k
invariant-loop-k l = record {
  small : All Is16 l.out;
  count : length l.out ≡ length l.fn.out;
  told : (depth log2 qp : ℕ) → l.scaling.quantizer ≡ quantizer qp → l.scaling.shift ≡ depth + log2 - 5
      → scaled_laid (λ place level. scaled depth log2 qp (slice_index l.factors place) level) l.out (drop l.k l.items)
      ≡ scaled_laid (λ place level. scaled depth log2 qp (slice_index l.factors place) level) l.fn.out l.items;
}
