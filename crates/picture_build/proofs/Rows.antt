-- Lines of a part of a unit, one after the other.
use Rattle.std.proofs.Common.{◌≡◌, ℕ, ◌+◌, ◌-◌, ◌<◌, ◌≤◌, ◌==◌, ◌&&◌, ◌||◌, nat_le, nat_lt, Bool, true, List}
use Rattle.std.proofs.Common.{length, get_or, take, drop, ap, ◌∙◌, if◌then◌else◌, ◌⊎◌, inl, inr, arith}
use Rattle.std.specs.Option.{unwrap_or}
use Rattle.std.proofs.lemmas.Bool.Decides.{nat_tests}
use Rattle.std.proofs.lemmas.List.{get_or-drop, get_or-take, length-drop, length-take-le}
use Rattle.spec_reconstruction.specs.Known.{Known}
use Rattle.spec_picture_build.specs.Border.{Samples}
use Rattle.unit_build.specs.declared.part.Part.{Part}
use Rattle.unit_build.specs.Parts.{is_in_part}
use Rattle.unit_build.proofs.Tests.{merged}

-- a part of a list
piece_length : (xs : List ℕ) (from n : ℕ) → from + n ≤ length xs → length (take n (drop from xs)) ≡ n
piece_length xs from n fits = length-take-le n (drop from xs) (omega (arith, length-drop from xs))

piece_at : (xs : List ℕ) (from n i : ℕ) → i < n → get_or (take n (drop from xs)) i 0 ≡ get_or xs (from + i) 0
piece_at xs from n i lt = get_or-take n (drop from xs) i 0 lt ∙ get_or-drop from xs i 0

-- the tests of a part's next line
one_laid : (c d j k x y side width height columns line n : ℕ) → n ≡ columns → columns ≤ side → columns ≤ width - x
    → (side ≤ columns) ⊎ (width - x ≤ columns) → line < height - y
    → (((d == c) && ((k == y + line) && (nat_le x j && nat_lt j (x + n))))
    || (d == c
    && ((nat_le x j && (nat_lt j (x + side) && nat_lt j width))
    && (nat_le y k && (nat_lt k (y + line) && nat_lt k height)))))
    ≡ (d == c
    && ((nat_le x j && (nat_lt j (x + side) && nat_lt j width))
    && (nat_le y k && (nat_lt k (y + (line + 1)) && nat_lt k height))))
one_laid c d j k x y side width height columns line n e a b (inl le) fits = grind (arith, nat_tests)
one_laid c d j k x y side width height columns line n e a b (inr le) fits = grind (arith, nat_tests)

-- the tests of a part whose lines are all laid
all_laid : (c d j k x y side width height line : ℕ) → line ≤ side → (side ≤ line) ⊎ (height - y ≤ line)
    → (d == c
    && ((nat_le x j && (nat_lt j (x + side) && nat_lt j width))
    && (nat_le y k && (nat_lt k (y + line) && nat_lt k height))))
    ≡ (d == c
    && ((nat_le x j && (nat_lt j (x + side) && nat_lt j width))
    && (nat_le y k && (nat_lt k (y + side) && nat_lt k height))))
all_laid c d j k x y side width height line few (inl all) = ap (λ n. d == c
    && ((nat_le x j && (nat_lt j (x + side) && nat_lt j width))
    && (nat_le y k && (nat_lt k (y + n) && nat_lt k height))))
    (omega arith)
all_laid c d j k x y side width height line few (inr all) = grind (arith, nat_tests)

-- the lines of a part are laid
pub laid_all : (part : Part) (line i j k v new old : ℕ) → line ≤ part.side
    → (part.side ≤ line) ⊎ (part.height - part.y ≤ line)
    → new
    ≡ (if i == part.c
    && ((nat_le part.x j && (nat_lt j (part.x + part.side) && nat_lt j part.width))
    && (nat_le part.y k && (nat_lt k (part.y + line) && nat_lt k part.height)))
    then v
    else old)
    → new ≡ (if is_in_part part i j k then v else old)
laid_all part line i j k v new old few all told =
    told
    ∙ ap (λ (t : Bool). if t then v else old)
    (all_laid part.c i j k part.x part.y part.side part.width part.height line few all)

-- the next line of a part is laid
pub laid_more : (part : Part) (known : Known) (line columns : ℕ) (built : List ℕ) (old mid new : Samples)
    → columns ≤ part.side → columns ≤ part.width - part.x → (part.side ≤ columns) ⊎ (part.width - part.x ≤ columns)
    → part.side ≤ 64 → part.x < part.width → line < part.height - part.y → length built ≡ 129
    → ((j : ℕ) → j < 129 → get_or built j 0 ≡ unwrap_or (known part.c j (line + 1)) 0)
    → ((i j k : ℕ) → mid i j k
    ≡ (if i == part.c
    && ((nat_le part.x j && (nat_lt j (part.x + part.side) && nat_lt j part.width))
    && (nat_le part.y k && (nat_lt k (part.y + line) && nat_lt k part.height)))
    then unwrap_or (known i (j - part.x + 1) (k - part.y + 1)) 0 else old i j k))
    → ((i j k : ℕ) → new i j k
    ≡ (if (i == part.c)
    && ((k == part.y + line) && (nat_le part.x j && nat_lt j (part.x + length (take (1 + columns - 1) (drop 1 built)))))
    then get_or (take (1 + columns - 1) (drop 1 built)) (j - part.x) 0
    else mid i j k))
    → (i j k : ℕ) → new i j k
    ≡ (if i == part.c
    && ((nat_le part.x j && (nat_lt j (part.x + part.side) && nat_lt j part.width))
    && (nat_le part.y k && (nat_lt k (part.y + (line + 1)) && nat_lt k part.height)))
    then unwrap_or (known i (j - part.x + 1) (k - part.y + 1)) 0 else old i j k)
laid_more part known line columns built old mid new narrow within all small inside fits count told m n i j k =
    let X : List ℕ = take (1 + columns - 1) (drop 1 built) in
    let size : length X ≡ columns = piece_length built 1 (1 + columns - 1) (omega (arith, count)) ∙ omega arith in
    let w : ℕ = unwrap_or (known i (j - part.x + 1) (k - part.y + 1)) 0 in
    let same : ((i == part.c) && ((k == part.y + line) && (nat_le part.x j && nat_lt j (part.x + length X)))) ≡ true
    → get_or X (j - part.x) 0 ≡ unwrap_or (known i (j - part.x + 1) (k - part.y + 1)) 0 =
    λ t.
    let ec : part.c ≡ i = grind (arith, nat_tests) in
    let ek : k ≡ part.y + line = grind (arith, nat_tests) in
    let lt : j - part.x < 1 + columns - 1 = grind (arith, nat_tests) in
    let ej : 1 + (j - part.x) ≡ j - part.x + 1 = omega arith in
    let el : line + 1 ≡ k - part.y + 1 = omega (arith, ek) in
    piece_at built 1 (1 + columns - 1) (j - part.x) lt
    ∙ ap (λ q. get_or built q 0) ej
    ∙ told (j - part.x + 1) (omega (arith, lt))
    ∙ ap (λ d. unwrap_or (known d (j - part.x + 1) (line + 1)) 0) ec
    ∙ ap (λ l. unwrap_or (known i (j - part.x + 1) l) 0) el in
    merged ((i == part.c) && ((k == part.y + line) && (nat_le part.x j && nat_lt j (part.x + length X)))) _ _
    (unwrap_or (known i (j - part.x + 1) (k - part.y + 1)) 0) (old i j k) (mid i j k) (new i j k) same (m i j k)
    (n i j k)
    ∙ ap (λ (t : Bool). if t then unwrap_or (known i (j - part.x + 1) (k - part.y + 1)) 0 else old i j k)
    (one_laid part.c i j k part.x part.y part.side part.width part.height columns line (length X) size
    narrow within all fits)
