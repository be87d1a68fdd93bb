-- Levels that are scaled while they are read.
use Rattle.std.specs.Prelude.{ℕ, ℤ, List, ◌∷◌, set}
use Rattle.ctu_records.specs.declared.item.Item.{Item}
use Rattle.ctu_records.specs.declared.item.Item.TheVariants.{Level}

-- what is made of each level by its place, in rows over what was there, up to the first item of another kind
unfoldable pub scaled_laid : (ℕ → ℤ → ℤ) → List ℤ → List Item → List ℤ
scaled_laid scale values (Level place value ∷ items) = scaled_laid scale (set values place (scale place value)) items
scaled_laid scale values other = values
