-- A coding tree unit with what follows it and the bits behind its end.
use Rattle.std.specs.Prelude.{◌≡◌, ℕ, Bool, true, false, Result, Ok, Err, if◌then◌else◌}
use Rattle.hv_base.specs.declared.breach.Breach.{Breach}
use Rattle.hv_base.specs.declared.breach.Breach.TheVariants as breach
use Rattle.hv_base.specs.declared.fault.FaultKind.TheVariants as rule
use Rattle.ctu_records.specs.declared.side.Side.{Side}
use Rattle.ctu_records.specs.declared.offset.Sao.{Sao}
use Rattle.ctu_records.specs.Tree.{Ctu}
use Rattle.spec_cabac.specs.Bins.{State, read}
use Rattle.spec_slice_data.specs.declared.syntax.CtuSyntax.{CtuSyntax}
use Rattle.spec_slice_data.specs.declared.syntax.End.{End}
use Rattle.spec_slice_data.specs.Segment.{judged_end}
use Rattle.spec_slice_data.specs.Tree.{unit_and_end}
use Rattle.coding_quadtree.specs.declared.unit_place.UnitPlace.{UnitPlace}
use Rattle.coding_quadtree.specs.Beside.{above_sao, ctu_begins, left_sao}

-- behind a unit that was read its end is judged
abbrev pub judged : Result ((Ctu × End) × State) Breach → Result ((Ctu × End) × State) Breach
judged (Err e) = Err e
judged (Ok r) = if judged_end r.0.1 r.1.0 then Ok r else Err (breach.Fault rule.TrailingBits)

-- a unit at a place and what follows it, over a view of the units before it, with its end judged
abbrev pub over_view : CtuSyntax → UnitPlace → (ℕ → ℕ → Side) → (ℕ → Sao) → State → Result ((Ctu × End) × State) Breach
over_view syntax place side_at sao_at s =
    judged (read
    (unit_and_end syntax (left_sao syntax place sao_at) (above_sao syntax place sao_at) place.is_last place.ends_subset
    (ctu_begins syntax place side_at))
    s)

-- a call answered what follows a unit and left the unit and the state behind it, as reading gives them; or the first
-- rule broken
abbrev pub Follows : Result End Breach → Ctu → State → Result ((Ctu × End) × State) Breach → Type 0
Follows (Ok follows) ctu after read = read ≡ Ok ((ctu, follows), after)
Follows (Err e) ctu after read = read ≡ Err e

-- a call answered whether an end is right
abbrev pub Judges : Result (Unit {0}) Breach → Bool → Type 0
Judges (Ok x) rightly = rightly ≡ true
Judges (Err e) rightly = (rightly ≡ false) × (e ≡ breach.Fault rule.TrailingBits)
