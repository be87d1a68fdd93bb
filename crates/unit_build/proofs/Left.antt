-- The column on the left of a part of a unit, gathered line after line.
use Rattle.std.proofs.Common.{◌≡◌, ℕ, ◌+◌, ◌-◌, ◌≤◌, ◌==◌, ◌&&◌, ◌||◌, nat_le, Bool, true, Some, ap, ◌∙◌, arith}
use Rattle.std.proofs.Common.{if◌then◌else◌}
use Rattle.std.proofs.lemmas.Bool.Decides.{nat_tests}
use Rattle.spec_picture_build.specs.SpecReconstruction.{Known}
use Rattle.spec_picture_build.specs.Border.{Samples}
use Rattle.unit_build.specs.declared.part.Part.{Part}
use Rattle.unit_build.specs.Beside.{sample_at}
use Rattle.unit_build.proofs.Tests.{merged}

-- the tests of its next line
one_left : (c d j k line L : ℕ) → line + 1 ≤ L
    → (((d == c) && ((j == 0) && (k == line + 1)))
    || (d == c && (j == 0 && (nat_le 1 k && (nat_le k line && nat_le k L)))))
    ≡ (d == c && (j == 0 && (nat_le 1 k && (nat_le k (line + 1) && nat_le k L))))
one_left c d j k line L fits = grind (arith, nat_tests)

-- its next line
pub left_more : (part : Part) (samples : Samples) (line v : ℕ) (old mid new : Known)
    → line + 1 ≤ part.height - part.y
    → v ≡ samples part.c (part.x - 1) (part.y + line)
    → ((i j k : ℕ)
    → mid i j k
    ≡ (if i == part.c && (j == 0 && (nat_le 1 k && (nat_le k line && nat_le k (part.height - part.y))))
    then Some (sample_at part samples i j k)
    else old i j k))
    → ((i j k : ℕ)
    → new i j k ≡ (if (i == part.c) && ((j == 0) && (k == line + 1)) then Some v else mid i j k))
    → (i j k : ℕ) → new i j k
    ≡ (if i == part.c && (j == 0 && (nat_le 1 k && (nat_le k (line + 1) && nat_le k (part.height - part.y))))
    then Some (sample_at part samples i j k)
    else old i j k)
left_more part samples line v old mid new fits told m n i j k =
    let same : ((i == part.c) && ((j == 0) && (k == line + 1))) ≡ true → Some v ≡ Some (sample_at part samples i j k) =
    λ t.
    let ec : part.c ≡ i = grind (arith, nat_tests) in
    let ek : k ≡ line + 1 = grind (arith, nat_tests) in
    let ej : j ≡ 0 = grind (arith, nat_tests) in
    let ex : part.x - 1 ≡ part.x + j - 1 = omega (arith, ej) in
    let ey : part.y + line ≡ part.y + k - 1 = omega (arith, ek) in
    ap (λ w. Some w)
    (told ∙ ap (λ d. samples d (part.x - 1) (part.y + line)) ec
    ∙ ap (λ x. samples i x (part.y + line)) ex ∙ ap (λ y. samples i (part.x + j - 1) y) ey) in
    merged ((i == part.c) && ((j == 0) && (k == line + 1))) _ _
    (Some (sample_at part samples i j k)) (old i j k) (mid i j k) (new i j k) same (m i j k) (n i j k)
    ∙ ap (λ (t : Bool). if t then Some (sample_at part samples i j k) else old i j k)
    (one_left part.c i j k line (part.height - part.y) fits)
