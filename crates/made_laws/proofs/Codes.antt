-- The codes of each picture's header.
use Rattle.std.specs.Prelude.{ℕ, List, Some, None}
use Rattle.slice_types.specs.declared.slice.SliceType.{SliceType}
use Rattle.slice_types.specs.declared.slice.SliceType.TheVariants as slice
use Rattle.spec_written_headers.specs.Codes.{Code}
use Rattle.spec_made.specs.declared.units.Shift.{Shift}
use Rattle.spec_made.specs.Headers.{idr_codes, inter_codes}

-- the codes of a picture's header
abbrev pub codes_of : SliceType → Shift → ℕ → List ℕ → List Code
codes_of slice.I s poc offsets = idr_codes offsets
codes_of slice.P s poc offsets = inter_codes None poc offsets
codes_of slice.B s poc offsets = inter_codes (Some s) poc offsets
