-- A flight of pictures as contracts see it: sizes in coding tree blocks, references, and units that break a rule.
use Rattle.std.specs.Prelude.{ℕ, ◌+◌, ◌*◌, ◌<◌, ◌≤◌, Bool, false, List, [], Option, Some, None, sum_by, take, length}
use Rattle.std.specs.Prelude.{slice_index_or, All}
use Rattle.flight_plan.specs.declared.row_range.Reference.{Reference}
use Rattle.flight_plan.specs.declared.row_range.Reference.TheVariants.{Base, Flight}
use Rattle.flight_plan.specs.declared.row_range.RowRange.{RowRange}

-- a picture's coding tree units a row, its rows, whether entropy coding sync is on, and, by coding tree unit in raster
-- order, the collocated picture of the unit's slice and the row ranges that the unit reads; a unit past a list's end
-- has none
pub record PictureRows : Type 0 where
  pub width : ℕ
  pub rows : ℕ
  pub sync : Bool
  pub collocated : List (Option Reference)
  pub reach : List (List RowRange)

-- the pictures in decoding order, and the numbers of the units at which a rule is broken
pub record FlightRows : Type 0 where
  pub pictures : List PictureRows
  pub bad : List ℕ

-- the coding tree units of a picture
abbrev pub tree_units : PictureRows → ℕ
tree_units p = p.rows * p.width

-- the units of a picture: its coding tree units, and for each of the three filter phases one a row
abbrev pub picture_units : PictureRows → ℕ
picture_units p = tree_units p + 3 * p.rows

-- the units of these pictures, which are numbered picture by picture, in each the coding tree units first
abbrev pub units_of : List PictureRows → ℕ
units_of pictures = sum_by picture_units pictures

-- a picture has from 1 to 512 rows of from 1 to 512 coding tree units
pub record IsInRange (p : PictureRows) : Type 0 where
  pub some_width : 1 ≤ p.width
  pub width : p.width ≤ 512
  pub some_rows : 1 ≤ p.rows
  pub rows : p.rows ≤ 512

-- a reference is to a base or to one of the first n pictures of the flight
abbrev pub IsEarlier : ℕ → Reference → Type 0
IsEarlier n (Base _) = Unit {0}
IsEarlier n (Flight k) = k < n

abbrev pub IsNoneOrEarlier : ℕ → Option Reference → Type 0
IsNoneOrEarlier n None = Unit {0}
IsNoneOrEarlier n (Some r) = IsEarlier n r

-- all that a picture reads is in bases or in the first n pictures of the flight
pub record ReadsEarlier (n : ℕ) (p : PictureRows) : Type 0 where
  pub collocated : All (IsNoneOrEarlier n) p.collocated
  pub reach : All (λ ranges. All (λ (r : RowRange). IsEarlier n r.picture) ranges) p.reach

-- what stands at a place that no picture has
abbrev pub no_picture : PictureRows
no_picture = record { width = 0; rows = 0; sync = false; collocated = []; reach = [] }

-- unit u is a coding tree unit of the picture at place k
pub record IsTreeUnitOf (pictures : List PictureRows) (u : ℕ) (k : ℕ) : Type 0 where
  pub picture : k < length pictures
  pub from : units_of (take k pictures) ≤ u
  pub below : u < units_of (take k pictures) + tree_units (slice_index_or pictures k no_picture)

-- unit u is a coding tree unit of one of these pictures
abbrev pub IsTreeUnit : List PictureRows → ℕ → Type 0
IsTreeUnit pictures u = (k : ℕ) × IsTreeUnitOf pictures u k

-- the picture at a place of the flight
abbrev pub picture_at : FlightRows → ℕ → PictureRows
picture_at plan k = slice_index_or plan.pictures k no_picture

-- a flight has at most 65,536 pictures, each of which reads bases and earlier pictures alone, and rules are broken at
-- its coding tree units alone
pub record IsFlight (plan : FlightRows) : Type 0 where
  pub few : length plan.pictures ≤ 65536
  pub sizes : All IsInRange plan.pictures
  pub earlier : (k : ℕ) → k < length plan.pictures → ReadsEarlier k (picture_at plan k)
  pub bad : All (IsTreeUnit plan.pictures) plan.bad
