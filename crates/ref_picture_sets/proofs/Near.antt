-- How far the entries of a set are that was read.
use Rattle.std.proofs.Common.{ℕ, ◌+◌, ◌≤◌, Bool, List, Result, Ok, Err, IfOk}
use Rattle.std.specs.List.{All}
use Rattle.hv_base.specs.declared.field_rules.FieldRules.{FieldRules}
use Rattle.hv_base.specs.declared.refusal.Refusal.{Refusal}
use Rattle.header_types.specs.declared.short_term_set.StRps.{StRps}
use Rattle.header_fields.specs.SpecFormats.{read, Reads}
use Rattle.header_types.specs.ReferencePictures.{IsStRps}
use Rattle.spec_reference_pictures.specs.ShortTermSets.{st_ref_pic_set}
use Rattle.spec_reference_pictures.proofs.Sets.{stays_near}

pub is_near : (rules : FieldRules) (index count : ℕ) (former : List StRps) (greatest : ℕ) (bits left : List Bool)
    (result : Result StRps Refusal)
    → greatest ≤ 15
    → Reads (λ (s : StRps). s) result left (read rules (st_ref_pic_set index count former greatest) bits)
    → (n : ℕ) → 14 ≤ n → All (IsStRps n) former → IfOk result (λ s. IsStRps (n + 1) s)
is_near rules index count former greatest bits left (Ok s) small value n far all =
    stays_near rules index count former greatest bits s left n small far all value
is_near rules index count former greatest bits left (Err e) small value n far all = tt
