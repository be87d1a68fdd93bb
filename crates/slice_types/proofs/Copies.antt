-- A clone of slice fields is equal to them.
use Rattle.std.proofs.Common.{rules, ◌≡◌}
use Rattle.slice_types.specs.declared.slice.SliceFields.{SliceFields}
use Rattle.slice_types.specs.contracts.slice.SliceFieldsClone.TheImpl as slice

pub slice_copied : (a b : SliceFields) → slice.is_clone-value.it a b → b ≡ a
slice_copied a b h = search rules
