use Rattle.std.proofs.Common.{◌≡◌, ◌-◌, ◌+◌, arith, ap, refl, ◌∙◌, length, set, get_or}
use Rattle.hv_bits.proofs.Writing.{holds_after_full, holds_after_begun}
use Rattle.hv_bits.proofs.bit_writer.append.Goals.{then-free-eq0+in_ok-extend_from_slice}
use Rattle.hv_bits.proofs.bit_writer.append.Goals.{else-free-eq0+in_ok-extend_from_slice-2}
use Rattle.hv_bits.proofs.bit_writer.append.Goals as goal

pub returns-clause-ok : goal.returns-clause-ok
returns-clause-ok c = λ bs holds. elim c.if-free-eq0.branch [
  | then-free-eq0+in_ok-extend_from_slice w ↦
      holds_after_full c.args.bytes.now.items w.joined-all.result _ c.args.free _ c.args.n c.args.v
      c.div_ceil-count.result bs holds w.if-free-eq0.true refl c.requires.few c.div_ceil-count.ensures
      w.joined-all.ensures (ap (λ v. v.items) w.bytes-is ∙ w.in_ok-extend_from_slice.ensures.items)
  | else-free-eq0+in_ok-extend_from_slice-2 w ↦
      let inside = c.requires.inside in
      let last : w.len-last.result - 1 + 1 ≡ length c.args.bytes.now.items = omega (arith, w.len-last.ensures) in
      holds_after_begun c.args.bytes.now.items w.joined-all-else-free-eq0.result _ c.args.free _ c.args.n c.args.v
      c.div_ceil-count.result (w.len-last.result - 1) w.index.result.now _ bs holds w.if-free-eq0.false inside refl
      c.requires.few c.div_ceil-count.ensures last w.index.ensures refl
      w.joined-all-else-free-eq0.ensures (ap (λ v. v.items) w.bytes-is
      ∙ ap (λ l. set l (w.len-last.result - 1) (get_or w.joined-all-else-free-eq0.result 7 0))
      w.in_ok-extend_from_slice-2.ensures.items)
]
