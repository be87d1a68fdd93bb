-- How answers are told: numbers, names, lines and exit statuses.
use Rattle.std.specs.Prelude.{ℕ, ◌-◌, List, [], ◌∷◌, ◌++◌, length, replicate, Option, Some, None, Bool, false, codes}
use Rattle.std.specs.Fmt.{decimal, digits}
use Rattle.hv_base.specs.declared.digest.Digest.{Digest}
use Rattle.hv_base.specs.declared.fault.FaultKind.{FaultKind}
use Rattle.hv_base.specs.declared.fault.FaultKind.TheVariants as rule
use Rattle.hv_base.specs.declared.fault.Fault.{Fault}
use Rattle.hv_base.specs.declared.limit.LimitKind.{LimitKind}
use Rattle.hv_base.specs.declared.limit.LimitKind.TheVariants as bound
use Rattle.hv_base.specs.declared.limit.Limit.{Limit}
use Rattle.hv_base.specs.declared.outcome.Outcome.{Outcome}
use Rattle.hv_base.specs.declared.outcome.Outcome.TheVariants as outcome

-- the number of a rule
abbrev pub fault_number : FaultKind → ℕ
fault_number rule.NoNal = 1
fault_number rule.NalBytes = 2
fault_number rule.NalHeader = 3
fault_number rule.ParamSyntax = 4
fault_number rule.ParamRange = 5
fault_number rule.Profile = 6
fault_number rule.MissingSet = 7
fault_number rule.SetMismatch = 8
fault_number rule.SpsChanged = 9
fault_number rule.FirstPicture = 10
fault_number rule.HeaderSyntax = 11
fault_number rule.HeaderRange = 12
fault_number rule.SliceType = 13
fault_number rule.SliceOrder = 14
fault_number rule.SliceMismatch = 15
fault_number rule.MissingReference = 16
fault_number rule.EntryPoints = 17
fault_number rule.DpbFull = 18
fault_number rule.DataEnd = 20
fault_number rule.SliceEnd = 21
fault_number rule.SubsetEnd = 22
fault_number rule.TrailingBits = 23
fault_number rule.CoeffRange = 24
fault_number rule.QpRange = 25
fault_number rule.MvdRange = 26
fault_number (rule.HashMismatch _ _ _) = 27
fault_number (rule.LevelExceeded _ _ _) = 28

-- the name of a rule
abbrev pub fault_name : FaultKind → List ℕ
fault_name rule.NoNal = codes "NoNal"
fault_name rule.NalBytes = codes "NalBytes"
fault_name rule.NalHeader = codes "NalHeader"
fault_name rule.ParamSyntax = codes "ParamSyntax"
fault_name rule.ParamRange = codes "ParamRange"
fault_name rule.Profile = codes "Profile"
fault_name rule.MissingSet = codes "MissingSet"
fault_name rule.SetMismatch = codes "SetMismatch"
fault_name rule.SpsChanged = codes "SpsChanged"
fault_name rule.FirstPicture = codes "FirstPicture"
fault_name rule.HeaderSyntax = codes "HeaderSyntax"
fault_name rule.HeaderRange = codes "HeaderRange"
fault_name rule.SliceType = codes "SliceType"
fault_name rule.SliceOrder = codes "SliceOrder"
fault_name rule.SliceMismatch = codes "SliceMismatch"
fault_name rule.MissingReference = codes "MissingReference"
fault_name rule.EntryPoints = codes "EntryPoints"
fault_name rule.DpbFull = codes "DpbFull"
fault_name rule.DataEnd = codes "DataEnd"
fault_name rule.SliceEnd = codes "SliceEnd"
fault_name rule.SubsetEnd = codes "SubsetEnd"
fault_name rule.TrailingBits = codes "TrailingBits"
fault_name rule.CoeffRange = codes "CoeffRange"
fault_name rule.QpRange = codes "QpRange"
fault_name rule.MvdRange = codes "MvdRange"
fault_name (rule.HashMismatch _ _ _) = codes "HashMismatch"
fault_name (rule.LevelExceeded _ _ _) = codes "LevelExceeded"

-- a coding tree unit, or a dash where there is none
abbrev pub place_text : Option ℕ → List ℕ
place_text (Some ctu) = decimal ctu
place_text None = codes "-"

-- a number of 64 bits in 16 hexadecimal digits
abbrev pub hexadecimal : ℕ → List ℕ
hexadecimal n = replicate (16 - length (digits 16 false n)) 48 ++ digits 16 false n

-- the 16 bytes of a digest in hexadecimal digits
abbrev pub digest_text : Digest → List ℕ
digest_text d = hexadecimal d.first ++ hexadecimal d.last

-- what is told of a broken rule behind its place: of a hash, the plane, what is stated and what was computed
abbrev pub finding_text : FaultKind → List ℕ
finding_text (rule.HashMismatch plane stated computed) =
    codes " plane " ++ (decimal plane ++ (codes " stated " ++ (digest_text stated
    ++ (codes " computed " ++ digest_text computed))))
finding_text _ = []

-- fault <number> <Name> nal <n> ctu <a or ->, and what is told behind it
abbrev pub fault_text : Fault → List ℕ
fault_text f =
    codes "fault " ++ (decimal (fault_number f.kind) ++ (codes " " ++ (fault_name f.kind
    ++ (codes " nal " ++ (decimal f.nal ++ (codes " ctu " ++ (place_text f.ctu ++ finding_text f.kind)))))))

-- the number of a limit
abbrev pub limit_number : LimitKind → ℕ
limit_number bound.Side = 1
limit_number bound.Area = 2
limit_number bound.NalSize = 3
limit_number bound.Segments = 4
limit_number bound.Tiles = 5

-- the name of a limit
abbrev pub limit_name : LimitKind → List ℕ
limit_name bound.Side = codes "Side"
limit_name bound.Area = codes "Area"
limit_name bound.NalSize = codes "NalSize"
limit_name bound.Segments = codes "Segments"
limit_name bound.Tiles = codes "Tiles"

-- limit <number> <Name> nal <n>
abbrev pub limit_text : Limit → List ℕ
limit_text l =
    codes "limit " ++ (decimal (limit_number l.kind) ++ (codes " " ++ (limit_name l.kind
    ++ (codes " nal " ++ decimal l.nal))))

-- the exit status of an outcome
abbrev pub status_of : Outcome → ℕ
status_of outcome.Ok = 0
status_of (outcome.Fault _) = 2
status_of (outcome.Limit _) = 3
status_of outcome.Memory = 4
status_of outcome.ReadFault = 5
status_of outcome.WriteFault = 6

-- the line that tells an outcome, with its line feed
abbrev pub outcome_line : Outcome → List ℕ
outcome_line outcome.Ok = []
outcome_line (outcome.Fault f) = fault_text f ++ 10 ∷ []
outcome_line (outcome.Limit l) = limit_text l ++ 10 ∷ []
outcome_line outcome.Memory = codes "memory" ++ 10 ∷ []
outcome_line outcome.ReadFault = codes "read fault" ++ 10 ∷ []
outcome_line outcome.WriteFault = codes "write fault" ++ 10 ∷ []
