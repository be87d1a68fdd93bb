-- The coding tree units of a picture by address, each read from what those before it leave to it, whoever reads them
-- and in which order (7.3.8.1, 9.3.1, 9.3.2).
use Rattle.std.specs.Prelude.{ℕ, zero, suc, ◌+◌, ◌-◌, ◌==◌, ◌&&◌, ◌||◌, not, nat_le, nat_lt, Bool, List, [], ◌∷◌}
use Rattle.std.specs.Prelude.{◌++◌}
use Rattle.std.specs.Prelude.{map}
use Rattle.std.specs.Prelude.{Option, Some, None, is_some, Result, Ok, Err, if◌then◌else◌}
use Rattle.std.specs.List.{flat_map, list_all, range_with_len}
use Rattle.spec_picture_trees.specs.HvBase.{Breach}
use Rattle.spec_picture_trees.specs.HeaderTypes.{size_in_ctbs}
use Rattle.spec_picture_trees.specs.PlanTypes.{SegmentPlan}
use Rattle.spec_picture_trees.specs.PlanTypes.{PicturePlan}
use Rattle.spec_picture_trees.specs.BlockGeometry.{ctb_place, ctb_scan, is_decoded_before}
use Rattle.spec_picture_trees.specs.CtuRecords.{Ctu}
use Rattle.spec_picture_trees.specs.SpecCabac.{Engine}
use Rattle.spec_picture_trees.specs.SpecSliceData.{PictureShape, Between, begins_row, has_above, has_left, has_stored}
use Rattle.spec_picture_trees.specs.SpecSliceData.{is_first}
use Rattle.spec_picture_trees.specs.SpecSliceData.{no_group, nothing_read, unit_of, unit_step}
use Rattle.spec_picture_trees.specs.Shapes.{end_of}
use Rattle.spec_picture_trees.specs.Picture.{SegmentAt, TreeUnit, before_picture, segment_at}
use Rattle.spec_picture_trees.specs.Units.{units_between}

-- a unit that was read: the number of its slice segment, what was read of it, and what it leaves to the unit that is
-- decoded next: the engine, the contexts, and Qp'Y of its last coding unit
pub record KnownUnit : Type 0 where
  pub segment : ℕ
  pub read : Ctu
  pub engine : Engine
  pub contexts : List ℕ
  pub last : ℕ

-- units by address, as far as they are known
abbrev pub Entries : Type 0
Entries = ℕ → Option KnownUnit

-- slice segments one after the other, each with its number and what its data are read by: the number and the place of
-- the first
unfoldable pub segments_from : PicturePlan → ℕ → ℕ → List SegmentPlan → List SegmentAt
segments_from p number first [] = []
segments_from p number first (s ∷ later) =
    segment_at p number first s later
    ∷ segments_from p (number + 1) (end_of (size_in_ctbs p.sps) first later) later

-- those of a picture
abbrev pub picture_segments : PicturePlan → List SegmentAt
picture_segments p = segments_from p 0 0 p.segments

-- whether a segment has the unit at an address
abbrev pub is_in : SegmentAt → ℕ → Bool
is_in at address =
    nat_le at.shape.first (ctb_place address) && nat_lt (ctb_place address) (at.shape.first + at.shape.count)

-- the first of these segments that has it
unfoldable pub segment_having : List SegmentAt → ℕ → Option SegmentAt
segment_having [] address = None
segment_having (at ∷ later) address = if is_in at address then Some at else segment_having later address

-- whether the reading of a unit goes on from the former one: it is neither the picture's first, nor begins a row with a
-- substream of its own, nor a slice (9.3.1)
abbrev pub goes_on : SegmentAt → ℕ → Bool
goes_on at address =
    nat_lt 0 (ctb_place address)
    && not (begins_row at.picture address || (is_first at.shape address && not at.shape.dependent))

-- whether it begins with the contexts behind the second unit of the row above
abbrev pub takes_stored : SegmentAt → ℕ → Bool
takes_stored at address = begins_row at.picture address && has_stored at.picture at.shape address

-- a unit, where it is used
abbrev pub if_used : Bool → ℕ → List ℕ
if_used used address = if used then address ∷ [] else []

-- the units that the reading of a unit uses: the former one, where it goes on from it; those on its left and above it,
-- where they are in the slice; and the second one of the row above, where it begins with the contexts behind that
unfoldable pub read_uses : SegmentAt → ℕ → List ℕ
read_uses at address =
    if_used (goes_on at address) (ctb_scan (ctb_place address - 1))
    ++ (if_used (has_left at.picture at.shape address) (address - 1)
    ++ (if_used (has_above at.picture at.shape address) (address - at.picture.width)
    ++ if_used (takes_stored at address) (address - at.picture.width + 1)))

-- of these units those that are decoded before the one at an address
abbrev pub entries_before : Entries → ℕ → Entries
entries_before known address other = if is_decoded_before other address then known other else None

-- what was read of a unit
abbrev pub ctu_of : PictureShape → Option KnownUnit → Ctu
ctu_of picture None = nothing_read picture.size no_group
ctu_of picture (Some unit) = unit.read

-- what a unit leaves to the next one; where there is none, what stands before a picture
abbrev pub engine_behind : Option KnownUnit → Engine
engine_behind None = before_picture.engine
engine_behind (Some unit) = unit.engine

-- its contexts
abbrev pub contexts_behind : Option KnownUnit → List ℕ
contexts_behind None = before_picture.contexts
contexts_behind (Some unit) = unit.contexts

-- Qp'Y of its last coding unit
abbrev pub last_behind : Option KnownUnit → ℕ
last_behind None = before_picture.last
last_behind (Some unit) = unit.last

-- what stands before the unit at an address, by what the units before it leave to it: the engine, the contexts and Qp'Y
-- behind the former one, the contexts behind the second one of the row above, and what was read of all of them
unfoldable pub between_from : Entries → PictureShape → ℕ → Between
between_from known picture address = record {
  engine = engine_behind (known (ctb_scan (ctb_place address - 1)));
  contexts = contexts_behind (known (ctb_scan (ctb_place address - 1)));
  stored = contexts_behind (known (address - picture.width + 1));
  last = last_behind (known (ctb_scan (ctb_place address - 1)));
  units = map (λ place. ctu_of picture (known (ctb_scan place))) (range_with_len 0 (ctb_place address));
}

-- a unit of a segment with what it leaves, or the rule that it breaks
abbrev pub behind_step : SegmentAt → ℕ → Result Between Breach → Result KnownUnit Breach
behind_step at address (Err breach) = Err breach
behind_step at address (Ok between) = Ok (record {
  segment = at.number;
  read = unit_of at.picture between address;
  engine = between.engine;
  contexts = between.contexts;
  last = between.last;
})

-- the unit at an address of a segment, by the units before it, where those that it uses are known
unfoldable pub read_in : Entries → ℕ → Option SegmentAt → Option (Result KnownUnit Breach)
read_in known address None = None
read_in known address (Some at) =
    if list_all (λ used. is_some (known used)) (read_uses at address)
    then Some (behind_step at address
    (unit_step at.syntax at.picture at.shape address (between_from known at.picture address)))
    else None

-- what reading the unit at an address gives, or the rule that it breaks, by the units before it; None where one that it
-- uses isn't known, and where no segment has it
unfoldable pub unit_read : PicturePlan → Entries → ℕ → Option (Result KnownUnit Breach)
unit_read p known address =
    read_in (entries_before known address) address (segment_having (picture_segments p) address)

-- a unit, where it breaks no rule
abbrev pub known_of : Option (Result KnownUnit Breach) → Option KnownUnit
known_of None = None
known_of (Some (Err breach)) = None
known_of (Some (Ok unit)) = Some unit

-- the units that are known of the first so many that are decoded
unfoldable pub units_to : PicturePlan → ℕ → Entries
units_to p zero address = None
units_to p (suc n) address =
    if address == ctb_scan n then known_of (unit_read p (units_to p n) address) else units_to p n address

-- the units of a picture that are known, by address: those that break no rule, and use known ones alone
unfoldable pub units_known : PicturePlan → Entries
units_known p = units_to p (size_in_ctbs p.sps)

-- a unit as it is handed over, where it is known
abbrev pub as_given : ℕ → Option KnownUnit → List TreeUnit
as_given address None = []
as_given address (Some unit) = record { segment = unit.segment; ctu = address; read = unit.read } ∷ []

-- those that are known of these units
abbrev pub given_of : Entries → List ℕ → List TreeUnit
given_of known addresses = flat_map (λ address. as_given address (known address)) addresses

-- those that are known of the first so many units that are decoded, in order
unfoldable pub known_before : PicturePlan → ℕ → List TreeUnit
known_before p n = given_of (units_known p) (units_between 0 n)

-- all of a picture that are known, in order
abbrev pub known_units : PicturePlan → List TreeUnit
known_units p = known_before p (size_in_ctbs p.sps)
