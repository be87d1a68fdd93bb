-- The parameter sets that a slice names, and the rules on them (7.4.7.1).
use Rattle.std.specs.Prelude.{ℕ, Bool, false, ◌||◌, Option, Some, None, Result, Ok, Err, slice_index_or, ◌==◌}
use Rattle.hv_base.specs.declared.breach.Breach.{Breach}
use Rattle.hv_base.specs.declared.fault.FaultKind.TheVariants as rule
use Rattle.slice_types.specs.HeaderTypes.{SpsFields}
use Rattle.slice_types.specs.HeaderTypes.{PpsFields}
use Rattle.slice_types.specs.HeaderTypes.{Sets}
use Rattle.slice_types.specs.HeaderTypes.{same_content}
use Rattle.spec_parameter_sets.specs.Fits.{fits}
use Rattle.spec_slice_headers.specs.Context.{Context, fault, ◌>>=◌, kept, no_rasl_output_flag, agrees, first_of}

-- the parameter sets that a slice names
pub record Named : Type 0 where
  pub pps : PpsFields
  pub sps : SpsFields

-- a pair of sets, where both are there
abbrev pub with_sps : PpsFields → Option SpsFields → Option Named
with_sps pps None = None
with_sps pps (Some sps) = Some (record { pps = pps; sps = sps })

-- the sequence parameter set that a picture parameter set names
abbrev pub with_pps : Sets → Option PpsFields → Option Named
with_pps sets None = None
with_pps sets (Some pps) = with_sps pps (slice_index_or sets.sps pps.identity.pps_seq_parameter_set_id None)

-- the accepted picture parameter set of an id and the accepted sequence parameter set that it names
abbrev pub named_by : Sets → ℕ → Option Named
named_by sets id = with_pps sets (slice_index_or sets.pps id None)

-- the sets, or the rule that is broken without them
abbrev pub found : Option Named → Result Named Breach
found None = Err (fault rule.MissingSet)
found (Some n) = Ok n

-- whether the active sequence parameter set has the same content
abbrev pub is_active : Option SpsFields → SpsFields → Bool
is_active None sps = false
is_active (Some active) sps = same_content active sps

-- the parameter sets behind slice_pic_parameter_set_id: they were accepted, they fit each other, the sequence parameter
-- set changes only where a sequence begins, and each segment of a picture names the same ones
unfoldable pub named_sets : Context → Bool → ℕ → Result Named Breach
named_sets c is_first id = do
  named ← found (named_by c.sets id)
  fitting ← kept (fits named.sps named.pps) (fault rule.SetMismatch)
  unchanged ←
      kept (no_rasl_output_flag c.nal_type c.former.first_in_sequence || is_active c.former.active named.sps)
      (fault rule.SpsChanged)
  same_set ←
      kept (agrees (first_of c is_first) (λ h. h.segment.slice_pic_parameter_set_id == id)) (fault rule.SliceMismatch)
  Ok named
