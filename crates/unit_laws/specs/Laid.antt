-- Where the samples of a coding tree unit are laid, one square after the other, as it is built (8.4.4.1, 8.5.3, 8.6).
use Rattle.std.specs.Prelude.{Bool, false, List, [], ◌∷◌, ◌++◌, if◌then◌else◌}
use Rattle.std.specs.List.{fold}
use Rattle.ctu_records.specs.declared.item.Item.{Item}
use Rattle.ctu_records.specs.declared.item.Item.TheVariants.{Unit, Pcm, Transform}
use Rattle.ctu_records.specs.declared.item.Square.{Square}

-- the squares so far, and whether the coding unit that was begun last is in intra mode
pub record Laid : Type 0 where
  pub intra : Bool
  pub squares : List Square

abbrev pub nothing_laid : Laid
nothing_laid = record { intra = false; squares = [] }

abbrev pub with_laid : Laid → Square → Laid
with_laid laid square = record { intra = laid.intra; squares = laid.squares ++ square ∷ [] }

-- a coding unit in inter mode is predicted as a whole before its residuals are read; one in intra mode is predicted
-- transform unit after transform unit, or has samples by pulse code modulation
abbrev pub laid_by : Laid → Item → Laid
laid_by laid (Unit unit) = record {
  intra = unit.intra;
  squares = if unit.intra then laid.squares else laid.squares ++ unit.square ∷ [];
}
laid_by laid (Pcm square) = with_laid laid square
laid_by laid (Transform unit) = if laid.intra then with_laid laid unit.square else laid
laid_by laid other = laid

unfoldable pub laid_items : List Item → Laid
laid_items items = fold laid_by nothing_laid items
