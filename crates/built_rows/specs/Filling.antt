-- What changes of a row's builder when the samples of a coding tree unit are built.
use Rattle.std.specs.Prelude.{◌≡◌}
use Rattle.built_rows.specs.declared.row_builder.RowBuilder.{RowBuilder}

-- what is built, and what it is built in
abbrev pub OnlyBuilds : RowBuilder → RowBuilder → Type 0
OnlyBuilds old new = new ≡ record old { scratch = new.scratch; built = new.built }
