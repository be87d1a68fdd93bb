-- Derived tests of equality decide equality.
use Rattle.std.proofs.Common.{rules, ◌≡◌, Bool}
use Rattle.std.specs.Bool.{Decides}
use Rattle.std.specs.Cmp.{booleans_Decides}
use Rattle.std.proofs.lemmas.Bool.Decides.{Decides-eqb, Decides-like}
use Rattle.header_types.proofs.Equality.{IsExact, lists, both, set_exact, long_term_exact}
use Rattle.slice_types.specs.contracts.slice.LongTermRefsPartialEq.TheImpl as entries
use Rattle.slice_types.specs.contracts.slice.ReferenceFieldsPartialEq.TheImpl as references

entries_exact : IsExact entries.eq-value.it
entries_exact a b =
    let each = lists long_term_exact a.entries b.entries in
    search rules

pub references_exact : IsExact references.eq-value.it
references_exact a b =
    let parts =
    both (Decides-eqb a.slice_pic_order_cnt_lsb b.slice_pic_order_cnt_lsb) (
    both (booleans_Decides a.short_term_ref_pic_set_sps_flag b.short_term_ref_pic_set_sps_flag) (
    both (Decides-eqb a.short_term_ref_pic_set_idx b.short_term_ref_pic_set_idx) (
    both (set_exact a.short_term_ref_pic_set b.short_term_ref_pic_set) (
    entries_exact a.long_term b.long_term)))) in
    Decides-like _ (λ h. search rules) (λ e. search rules) parts
