-- What changes of a row's builder when what stands above the row is laid.
use Rattle.std.specs.Prelude.{◌≡◌}
use Rattle.border_words.specs.RowBorders.{with_above}
use Rattle.built_rows.specs.declared.row_builder.RowBuilder.{RowBuilder}

-- what stands above, and the words of units there that are kept; nothing else
pub record LaysAbove (old new : RowBuilder) : Type 0 where
  pub reader : new.reader ≡ old.reader
  pub border : new.border ≡ with_above old.border new.border.above
  pub built : new.built ≡ old.built
  pub format : new.format ≡ old.format
  pub seen : new.seen ≡ old.seen
  pub stored : new.stored ≡ old.stored
