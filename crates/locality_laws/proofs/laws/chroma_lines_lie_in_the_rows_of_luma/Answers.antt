use Rattle.std.proofs.Common.{◌*◌, refl}
use Rattle.locality_laws.proofs.Lines.{chroma_lines_between, chroma_row_is}
use Rattle.locality_laws.proofs.laws.chroma_lines_lie_in_the_rows_of_luma.Goals as goal

pub returns : goal.returns
returns c height ctb_log2 first count my line high even some low most =
    let lines = chroma_lines_between (2 * first) (2 * count) first count my line refl refl low most in
    chroma_row_is height ctb_log2 _ _ line high even some lines.0 lines.1
