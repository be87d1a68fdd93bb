-- A unit that is read by itself.
use Rattle.std.specs.Prelude.{◌≡◌, Result, Ok, Err}
use Rattle.hv_base.specs.declared.breach.Breach.{Breach}
use Rattle.ctu_records.specs.Tree.{Ctu}
use Rattle.spec_picture_trees.specs.Picture.{SegmentAt}
use Rattle.unit_words.specs.UnitTrees.{UnitReader}
use Rattle.spec_known_units.specs.Known.{KnownUnit}

-- a unit of a segment, with what stands behind it
abbrev pub unit_behind : SegmentAt → Ctu → UnitReader → KnownUnit
unit_behind at read reader = record {
  segment = at.number;
  read = read;
  engine = reader.bins.interval;
  contexts = reader.bins.contexts;
  last = reader.last;
}

-- a call answered what this gives, the unit and what stands behind it, or the rule that it breaks
abbrev pub Leaves : Result (Unit {0}) Breach → SegmentAt → Ctu → UnitReader → Result KnownUnit Breach → Type 0
Leaves (Ok x) at read reader step = step ≡ Ok (unit_behind at read reader)
Leaves (Err breach) at read reader step = step ≡ Err breach
