-- The transform tree by its depth.
use Rattle.std.proofs.Common.{◌≡◌, ℕ, suc, ◌+◌, ◌-◌, ◌<◌, ap, arith}
use Rattle.ctu_records.specs.declared.item.Square.{Square}
use Rattle.ctu_records.specs.Tree.{Ctu}
use Rattle.residual_syntax.specs.SpecCabac.{State, read}
use Rattle.spec_slice_data.specs.declared.syntax.CtuSyntax.{CtuSyntax}
use Rattle.spec_slice_data.specs.declared.syntax.UnitSyntax.{UnitSyntax}
use Rattle.spec_slice_data.specs.declared.syntax.ChromaFlags.{ChromaFlags}
use Rattle.spec_slice_data.specs.Transform.{transform_tree, transform_unit, split_or_blocks}

pub tree_none : (syntax : CtuSyntax) (unit : UnitSyntax) (above : ChromaFlags) (n depth : ℕ) (square : Square)
    (ctu : Ctu) (s : State)
    → n ≡ 0
    → read (transform_tree syntax unit above n depth square ctu) s
    ≡ read (transform_unit syntax unit above depth square ctu) s
unfolding transform_tree
tree_none syntax unit above n depth square ctu s e =
    ap (λ k. read (transform_tree syntax unit above k depth square ctu) s) e

pub tree_some : (syntax : CtuSyntax) (unit : UnitSyntax) (above : ChromaFlags) (n depth : ℕ) (square : Square)
    (ctu : Ctu) (s : State)
    → 0 < n
    → read (transform_tree syntax unit above n depth square ctu) s
    ≡ read
    (split_or_blocks (λ flags. transform_tree syntax unit flags (n - 1) (depth + 1)) syntax unit above depth square ctu)
    s
unfolding transform_tree
tree_some syntax unit above n depth square ctu s some =
    let e : n ≡ suc (n - 1) = omega arith in
    ap (λ k. read (transform_tree syntax unit above k depth square ctu) s) e
