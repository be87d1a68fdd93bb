-- Derived tests of equality decide equality.
use Rattle.std.proofs.Common.{rules, ◌≡◌, Bool, Some, None, refl}
use Rattle.std.specs.Bool.{Decides}
use Rattle.std.specs.Cmp.{booleans_Decides}
use Rattle.std.specs.Cmp.Lexicographic.{pointwise}
use Rattle.std.specs.Option.{option_eq}
use Rattle.std.specs.Prelude.{◌&&◌}
use Rattle.std.proofs.lemmas.Bool.Decides.{Decides-eqb, Decides-and, Decides-like}
use Rattle.std.proofs.lemmas.Slice.Eq.{slice_eq-Decides}
use Rattle.header_types.specs.contracts.profile.ProfilePartialEq.TheImpl as profile
use Rattle.header_types.specs.contracts.profile.SubLayerProfilePartialEq.TheImpl as sub_layer
use Rattle.header_types.specs.contracts.profile.ProfileTierLevelPartialEq.TheImpl as tier
use Rattle.header_types.specs.contracts.sps.ConformanceWindowPartialEq.TheImpl as window
use Rattle.header_types.specs.contracts.sps.PictureFormatPartialEq.TheImpl as format
use Rattle.header_types.specs.contracts.sps.SubLayerOrderingPartialEq.TheImpl as ordering
use Rattle.header_types.specs.contracts.sps.BlockSizesPartialEq.TheImpl as blocks
use Rattle.header_types.specs.contracts.scaling.ScalingListPartialEq.TheImpl as scaling_list
use Rattle.header_types.specs.contracts.scaling.ScalingListsPartialEq.TheImpl as scaling_lists
use Rattle.header_types.specs.contracts.sps.PcmFormatPartialEq.TheImpl as pcm
use Rattle.header_types.specs.contracts.short_term_set.ShortTermRefPartialEq.TheImpl as short_term
use Rattle.header_types.specs.contracts.short_term_set.StRpsPartialEq.TheImpl as set
use Rattle.header_types.specs.contracts.sps.LongTermCandidatePartialEq.TheImpl as candidate
use Rattle.header_types.specs.contracts.sps.SpsFieldsPartialEq.TheImpl as sps
use Rattle.header_types.specs.contracts.sps.SpsIdentityPartialEq.TheImpl as identity
use Rattle.header_types.specs.contracts.sps.SpsOrderPartialEq.TheImpl as order
use Rattle.header_types.specs.contracts.sps.SpsReferencesPartialEq.TheImpl as references
use Rattle.header_types.specs.contracts.sps.SpsToolsPartialEq.TheImpl as tools
use Rattle.header_types.specs.contracts.reference_pictures.LongTermRefPartialEq.TheImpl as long_term

-- the test says exactly where values are equal
abbrev pub IsExact : {X : Type 0} → (X → X → Bool) → Type 0
IsExact test = (a b : _) → Decides (test a b) (a ≡ b)

pub lists : {X : Type 0} {test : X → X → Bool} → IsExact test → IsExact (pointwise test)
lists exact a b = slice_eq-Decides exact a b _ refl

pub options : {X : Type 0} {test : X → X → Bool} → IsExact test → IsExact (option_eq test)
options exact None None = search rules
options exact None (Some y) = search rules
options exact (Some x) None = search rules
options exact (Some x) (Some y) = let p = exact x y in search rules

pub both : {P Q : Type 0} {x y : Bool} → Decides x P → Decides y Q → Decides (x && y) (P × Q)
both p q = Decides-and _ _ p q

profile_exact : IsExact profile.eq-value.it
profile_exact a b =
    let parts =
    both (Decides-eqb a.profile_space b.profile_space) (
    both (booleans_Decides a.tier_flag b.tier_flag) (
    both (Decides-eqb a.profile_idc b.profile_idc) (
    both (Decides-eqb a.profile_compatibility_flags b.profile_compatibility_flags) (
    both (booleans_Decides a.progressive_source_flag b.progressive_source_flag) (
    both (booleans_Decides a.interlaced_source_flag b.interlaced_source_flag) (
    both (booleans_Decides a.non_packed_constraint_flag b.non_packed_constraint_flag) (
    both (booleans_Decides a.frame_only_constraint_flag b.frame_only_constraint_flag) (
    Decides-eqb a.reserved_zero_44bits b.reserved_zero_44bits)))))))) in
    Decides-like _ (λ h. search rules) (λ e. search rules) parts

sub_layer_exact : IsExact sub_layer.eq-value.it
sub_layer_exact a b =
    let profiles = options profile_exact a.profile b.profile in
    let levels = options Decides-eqb a.level_idc b.level_idc in
    search rules

tier_exact : IsExact tier.eq-value.it
tier_exact a b =
    let parts =
    both (profile_exact a.general b.general) (
    both (Decides-eqb a.general_level_idc b.general_level_idc) (
    both (Decides-eqb a.reserved_zero_2bits b.reserved_zero_2bits) (
    lists sub_layer_exact a.sub_layers b.sub_layers))) in
    Decides-like _ (λ h. search rules) (λ e. search rules) parts

window_exact : IsExact window.eq-value.it
window_exact a b = search rules

format_exact : IsExact format.eq-value.it
format_exact a b =
    let windows = options window_exact a.conformance_window b.conformance_window in
    search rules

ordering_exact : IsExact ordering.eq-value.it
ordering_exact a b = search rules

blocks_exact : IsExact blocks.eq-value.it
blocks_exact a b = search rules

scaling_list_exact : IsExact scaling_list.eq-value.it
scaling_list_exact a b =
    let factors = lists Decides-eqb a.factors b.factors in
    search rules

scaling_lists_exact : IsExact scaling_lists.eq-value.it
scaling_lists_exact a b =
    let each = lists scaling_list_exact a.lists b.lists in
    search rules

pcm_exact : IsExact pcm.eq-value.it
pcm_exact a b = search rules

short_term_exact : IsExact short_term.eq-value.it
short_term_exact a b = search rules

pub set_exact : IsExact set.eq-value.it
set_exact a b =
    let negative = lists short_term_exact a.negative b.negative in
    let positive = lists short_term_exact a.positive b.positive in
    search rules

candidate_exact : IsExact candidate.eq-value.it
candidate_exact a b = search rules

identity_exact : IsExact identity.eq-value.it
identity_exact a b =
    let parts =
    both (Decides-eqb a.sps_video_parameter_set_id b.sps_video_parameter_set_id) (
    both (Decides-eqb a.sps_max_sub_layers_minus1 b.sps_max_sub_layers_minus1) (
    both (booleans_Decides a.sps_temporal_id_nesting_flag b.sps_temporal_id_nesting_flag) (
    both (tier_exact a.profile_tier_level b.profile_tier_level) (
    Decides-eqb a.sps_seq_parameter_set_id b.sps_seq_parameter_set_id)))) in
    Decides-like _ (λ h. search rules) (λ e. search rules) parts

order_exact : IsExact order.eq-value.it
order_exact a b =
    let orderings = lists ordering_exact a.sub_layer_ordering b.sub_layer_ordering in
    search rules

tools_exact : IsExact tools.eq-value.it
tools_exact a b =
    let parts =
    both (booleans_Decides a.scaling_list_enabled_flag b.scaling_list_enabled_flag) (
    both (options scaling_lists_exact a.scaling_lists b.scaling_lists) (
    both (booleans_Decides a.amp_enabled_flag b.amp_enabled_flag) (
    both (booleans_Decides a.sample_adaptive_offset_enabled_flag b.sample_adaptive_offset_enabled_flag) (
    options pcm_exact a.pcm b.pcm)))) in
    Decides-like _ (λ h. search rules) (λ e. search rules) parts

references_exact : IsExact references.eq-value.it
references_exact a b =
    let sets = lists set_exact a.short_term_ref_pic_sets b.short_term_ref_pic_sets in
    let candidates = options (lists candidate_exact) a.long_term_ref_pics b.long_term_ref_pics in
    search rules

pub sps_exact : IsExact sps.eq-value.it
sps_exact a b =
    let parts =
    both (identity_exact a.identity b.identity) (
    both (format_exact a.format b.format) (
    both (order_exact a.order b.order) (
    both (blocks_exact a.blocks b.blocks) (
    both (tools_exact a.tools b.tools) (
    both (references_exact a.references b.references) (
    both (booleans_Decides a.strong_intra_smoothing_enabled_flag b.strong_intra_smoothing_enabled_flag) (
    booleans_Decides a.vui_parameters_present_flag b.vui_parameters_present_flag))))))) in
    Decides-like _ (λ h. search rules) (λ e. search rules) parts

pub long_term_exact : IsExact long_term.eq-value.it
long_term_exact a b =
    let places = options Decides-eqb a.lt_idx_sps b.lt_idx_sps in
    let cycles = options Decides-eqb a.delta_poc_msb_cycle_lt b.delta_poc_msb_cycle_lt in
    search rules
