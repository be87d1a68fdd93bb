use Rattle.std.proofs.Common.{◌≡◌, ◌<◌, ℕ, ℤ, ◌+◌, ◌*◌, pos, ◌+ℤ◌}
use Rattle.std.specs.List.{All}
use Rattle.header_types.specs.declared.sps.PictureFormat.{PictureFormat}
use Rattle.inter_pred.specs.Passes.{at, IsByte}
use Rattle.progress_words.specs.Passes.{Knows, view}
use Rattle.spec_picture_build.specs.References.{greatest_sample}
use Rattle.flight_windows.specs.Lines.{IsFinalRow}
use Rattle.flight_windows.specs.Reading.{flight_sample}
use Rattle.flight_windows.proofs.flight_window.lay_lines.Given as goal

abbrev pub invariant-loop-j : goal.invariant-loop-j
invariant-loop-j l = record {
  knows : Knows l.fn.pass l.pass (view l.fn.pass);
  row : IsFinalRow l.rows.layout l.rows.seen.now l.row;
  picture : l.row.picture ≡ l.fn.first.picture;
  value : (format : PictureFormat) → l.greatest ≡ greatest_sample format l.c → (i j : ℕ) → i < l.from.width → j < l.j
      → at l.out (72 * j + i)
      ≡ flight_sample l.rows l.fn.first.picture format l.c (l.span.column +ℤ pos i) (l.from.y +ℤ pos j);
  bytes : (format : PictureFormat) → l.greatest ≡ greatest_sample format l.c
      → ((x y : ℤ) → flight_sample l.rows l.fn.first.picture format l.c x y < 256)
      → All IsByte l.fn.out → All IsByte l.out;
}
