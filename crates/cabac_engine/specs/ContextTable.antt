-- The contexts behind bins, as a table has them.
use Rattle.std.specs.Prelude.{ℕ, slice_index}
use Rattle.cabac_engine.specs.declared.transitions.TheConstants.{CONTEXT_AFTER}

-- an entry of the table: twice a context, and 1 more for its less probable symbol
unfoldable pub entry_of : ℕ → ℕ
entry_of i = slice_index CONTEXT_AFTER i
