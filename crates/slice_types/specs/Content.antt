-- Whether fields are equal: what their derived `==` answers.
use Rattle.std.specs.Prelude.{Bool}
use Rattle.slice_types.specs.declared.slice.ReferenceFields.{ReferenceFields}
use Rattle.slice_types.specs.contracts.slice.ReferenceFieldsPartialEq.TheImpl as references

-- whether two slices have the same order count and the same reference fields, the short-term set as it is derived
abbrev pub same_references : ReferenceFields → ReferenceFields → Bool
same_references a b = references.eq-value.it a b
