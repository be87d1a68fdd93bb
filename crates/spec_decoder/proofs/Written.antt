-- What is written of pictures that go out one after the other.
use Rattle.std.proofs.Common.{◌≡◌, ℕ, suc, ◌+◌, List, [], ◌∷◌, ◌++◌, length, refl, ap, ◌∙◌, arith}
use Rattle.spec_decoder.specs.declared.form.Form.{Form}
use Rattle.spec_decoder.specs.declared.form.Form.TheVariants as form
use Rattle.spec_decoder.specs.Output.{OutPicture, hash_line, list_line, piece_of, told_number, written}

-- the number of those behind them is as many more
pub written_append : (form : Form) (k : ℕ) (first later : List OutPicture)
    → written form k (first ++ later) ≡ written form k first ++ written form (k + length first) later
written_append form k [] later =
    let e : k ≡ k + 0 = omega arith in
    ap (λ n. written form n later) e
written_append form k (picture ∷ first) later =
    let e : suc k + length first ≡ k + suc (length first) = omega arith in
    ap (λ (ps : List (List ℕ)). piece_of form k picture ∷ ps)
    (written_append form (suc k) first later
    ∙ ap (λ n. written form (suc k) first ++ written form n later) e)

-- the first of them has the number 0
pub written_first : (form : Form) (first later : List OutPicture)
    → written form 0 (first ++ later) ≡ written form 0 first ++ written form (length first) later
written_first form first later =
    let e : 0 + length first ≡ length first = omega arith in
    written_append form 0 first later ∙ ap (λ n. written form 0 first ++ written form n later) e

piece_told : (form : Form) (j k : ℕ) (picture : OutPicture) → told_number j ≡ told_number k
    → piece_of form j picture ≡ piece_of form k picture
unfolding hash_line list_line
piece_told form.I420 j k picture e = refl
piece_told form.Hash j k picture e = rw e refl
piece_told form.List j k picture e = rw e refl

-- numbers that are told alike
pub written_told : (form : Form) (j k : ℕ) (pictures : List OutPicture) → told_number j ≡ told_number k
    → written form j pictures ≡ written form k pictures
written_told form j k [] e = refl
written_told form j k (picture ∷ later) e =
    let next : told_number (suc j) ≡ told_number (suc k) = omega (arith, e) in
    ap (λ (piece : List ℕ). piece ∷ written form (suc j) later) (piece_told form j k picture e)
    ∙ ap (λ (ps : List (List ℕ)). piece_of form k picture ∷ ps) (written_told form (suc j) (suc k) later next)
