-- What changes of a row's builder when a coding tree unit is read.
use Rattle.std.specs.Prelude.{◌≡◌}
use Rattle.built_rows.specs.declared.row_builder.RowBuilder.{RowBuilder}

-- its reader alone
abbrev pub OnlyReads : RowBuilder → RowBuilder → Type 0
OnlyReads old new = new ≡ record old { reader = new.reader }
