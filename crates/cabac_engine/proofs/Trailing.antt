-- The bits past the end.
use Rattle.std.proofs.Common.{◌≡◌, ℕ, ◌*◌, ◌≤◌, true, false, List, [], length, drop, sym, ap, ◌∙◌, arith, length-drop}
use Rattle.std.proofs.lemmas.List.{nil_from_length}
use Rattle.std.specs.Prelude.{not}
use Rattle.std.specs.List.{list_all}
use Rattle.spec_bits.specs.Bits.{bits}
use Rattle.spec_bits.proofs.Places.{length-bits}
use Rattle.spec_cabac.specs.Engine.{is_stop}

drop-bits_past : (bytes : List ℕ) (place : ℕ) → 8 * length bytes ≤ place → drop place (bits bytes) ≡ []
drop-bits_past bytes place past =
    nil_from_length (drop place (bits bytes)) (omega (arith, length-drop place (bits bytes), length-bits bytes))

pub zero_past : (bytes : List ℕ) (place i : ℕ) → 8 * length bytes ≤ i
    → list_all not (drop i (bits bytes)) ≡ list_all not (drop place (bits bytes))
    → true ≡ list_all not (drop place (bits bytes))
zero_past bytes place i past e = ap (list_all not) (sym (drop-bits_past bytes i past)) ∙ e

pub no_stop_past : (bytes : List ℕ) (place : ℕ) → 8 * length bytes ≤ place → false ≡ is_stop (drop place (bits bytes))
no_stop_past bytes place past = ap is_stop (sym (drop-bits_past bytes place past))
