use Rattle.std.proofs.Common.{◌≡◌, ◌*◌, ◌/◌, ◌-◌, ℕ, ap, sym, subst, ◌∙◌}
use Rattle.spec_picture_trees.specs.HeaderTypes.{SpsFields}
use Rattle.spec_picture_trees.specs.HeaderTypes.{IsSps, ctb_log2, width_in_ctbs}
use Rattle.picture_layout.specs.Shape.{IsShape}
use Rattle.picture_layout.proofs.Sizes.{shape_is, whole_height, whole_width}
use Rattle.picture_layout.proofs.layout.Layout.new.Goals as goal

pub invariant_of-result : goal.invariant_of-result
invariant_of-result c =
    let sps : SpsFields = c.args.plan.now.sps in
    let fields : c.fields.result.now ≡ sps = c.fields.ensures.value ∙ c.deref.ensures in
    let width : c.width_in_ctbs.result ≡ width_in_ctbs sps =
    c.width_in_ctbs.ensures.value ∙ ap width_in_ctbs c.deref-2.ensures in
    let size : c.ctb_log2.result ≡ ctb_log2 sps.blocks =
    c.ctb_log2.ensures.value ∙ ap (λ (s : SpsFields). ctb_log2 s.blocks) c.deref-3.ensures in
    let shape : SpsFields → ℕ → Type 0 = λ f n. IsShape (record {
      width = c.width_in_ctbs.result;
      across = f.format.pic_width_in_luma_samples / 4;
      down = f.format.pic_height_in_luma_samples / 4;
      size = n - 2;
      sync = c.fields-2.result.now.prediction.entropy_coding_sync_enabled_flag;
    }) in
    subst (λ f. shape f c.ctb_log2.result) (sym fields)
    (subst (shape sps) (sym size)
    (shape_is sps c.width_in_ctbs.result c.fields-2.result.now.prediction.entropy_coding_sync_enabled_flag
    (subst IsSps c.deref.ensures c.fields.ensures.in_range) width c.width_in_ctbs.ensures.some
    c.width_in_ctbs.ensures.few))

pub returns-clause-across : goal.returns-clause-across
returns-clause-across c =
    let sps : SpsFields = c.args.plan.now.sps in
    let fields : c.fields.result.now ≡ sps = c.fields.ensures.value ∙ c.deref.ensures in
    ap (λ (f : SpsFields). 4 * (f.format.pic_width_in_luma_samples / 4)) fields
    ∙ whole_width sps (subst IsSps c.deref.ensures c.fields.ensures.in_range)

pub returns-clause-down : goal.returns-clause-down
returns-clause-down c =
    let sps : SpsFields = c.args.plan.now.sps in
    let fields : c.fields.result.now ≡ sps = c.fields.ensures.value ∙ c.deref.ensures in
    ap (λ (f : SpsFields). 4 * (f.format.pic_height_in_luma_samples / 4)) fields
    ∙ whole_height sps (subst IsSps c.deref.ensures c.fields.ensures.in_range)
