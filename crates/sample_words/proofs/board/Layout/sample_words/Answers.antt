use Rattle.std.proofs.Common.{◌*◌, ◌/◌, ◌≤◌, arith}
use Rattle.std.proofs.Math.Nat.{mul-le-mul}
use Rattle.sample_words.proofs.board.Layout.sample_words.Goals as goal

pub returns-clause-few : goal.returns-clause-few
returns-clause-few c =
    let luma : c.line_words-luma.result ≤ 8192 = omega (arith, c.line_words-luma.ensures.few) in
    let chroma : c.line_words-chroma.result ≤ 4096 = omega (arith, c.line_words-chroma.ensures.few) in
    let half : c.args.height / 2 ≤ 32 = omega arith in
    let a : c.args.height * c.line_words-luma.result ≤ 64 * 8192 = mul-le-mul c.requires.height luma in
    let b : c.args.height / 2 * c.line_words-chroma.result ≤ 32 * 4096 = mul-le-mul half chroma in
    omega (arith, a, b)
