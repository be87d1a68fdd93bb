-- The units that are handed over while a picture is read.
use Rattle.std.specs.Prelude.{◌≡◌, ℕ, List, Result, Ok, Err}
use Rattle.ctu_records.specs.Tree.{Ctu}
use Rattle.spec_picture_trees.specs.Picture.{TreeUnit, Progress, Halt}
use Rattle.picture_trees.specs.declared.trees.ReadError.{ReadError}
use Rattle.picture_trees.specs.declared.trees.ReadError.TheVariants as error

abbrev pub tree_unit : ℕ → ℕ → Ctu → TreeUnit
tree_unit segment ctu read = record { segment = segment; ctu = ctu; read = read }

-- these units were handed over, and all were read
pub record AreAll (given : List TreeUnit) (read : Result Progress Halt) : Type 0 where
  pub progress : Progress
  pub all : read ≡ Ok progress
  pub same : progress.given ≡ given

-- this holds of units of which it is told that they were handed over
abbrev pub Told : (List TreeUnit → Type 0) → (List TreeUnit → Type 0) → Type 0
Told tells holds = (given : List TreeUnit) × tells given × holds given

-- the units that are told to be handed over and the answer are those of reading the picture; where there was no memory
-- nothing is said
abbrev pub ReadsPicture : Result (Unit {0}) ReadError → (List TreeUnit → Type 0) → Result Progress Halt → Type 0
ReadsPicture (Ok x) tells read = Told tells (λ given. AreAll given read)
ReadsPicture (Err error.Memory) tells read = Unit {0}
ReadsPicture (Err (error.Broken breach nal ctu)) tells read =
    Told tells
    (λ given. read ≡ Err (record { given = given; broken = record { breach = breach; nal = nal; ctu = ctu } }))
