-- Pictures that are drawn one after the other.
use Rattle.std.proofs.Common.{◌≡◌, ℕ, suc, ◌+◌, ◌%◌, ◌≤◌, List, [], ◌∷◌, ◌++◌, map, sym, ap, ◌∙◌, arith}
use Rattle.std.proofs.Common.{append-nil}
use Rattle.std.specs.List.{concat, range_with_len}
use Rattle.std.proofs.lemmas.List.Folds.{concat-append}
use Rattle.std.proofs.lemmas.List.FromFn.{map-range_with_len_more}
use Rattle.spec_drawn_pictures.specs.Drawn.{Between, before, picture_drawn, picture_of, start_of}
use Rattle.spec_drawn_pictures.specs.Shown.{bytes_drawn, planes_bytes}

abbrev pub bytes_before : ℕ → ℕ → List ℕ
bytes_before seed j = concat (map (bytes_drawn seed) (range_with_len 0 j))

-- so many pictures are drawn
pub record Drawn (seed j : ℕ) (bytes : List ℕ) (b : Between) : Type 0 where
  pub told : bytes ≡ bytes_before seed j
  pub at : b ≡ before seed j

pub drawn_none : (seed : ℕ) (bytes : List ℕ) (b : Between) → bytes ≡ [] → b ≡ start_of seed → Drawn seed 0 bytes b
unfolding before
drawn_none seed bytes b none is = record { told = none; at = is }

one_more : (seed j : ℕ) → bytes_before seed j ++ bytes_drawn seed j ≡ bytes_before seed (j + 1)
one_more seed j =
    let same : 0 + j ≡ j = omega arith in
    sym (ap concat (map-range_with_len_more (bytes_drawn seed) 0 j j same)
    ∙ concat-append (map (bytes_drawn seed) (range_with_len 0 j)) (bytes_drawn seed j ∷ [])
    ∙ ap (λ l. bytes_before seed j ++ l) (append-nil (bytes_drawn seed j)))

pub drawn_more : (seed j : ℕ) (bytes more : List ℕ) (b next : Between) → Drawn seed j bytes b
    → more ≡ bytes ++ planes_bytes (picture_of (j % 8) b).0 → next ≡ (picture_of (j % 8) b).1
    → Drawn seed (j + 1) more next
unfolding before picture_drawn
drawn_more seed j bytes more b next d is_more is_next =
    let e : suc j ≡ j + 1 = omega arith in
    record {
      told =
          is_more ∙ ap (λ l. l ++ planes_bytes (picture_of (j % 8) b).0) d.told
          ∙ ap (λ c. bytes_before seed j ++ planes_bytes (picture_of (j % 8) c).0) d.at ∙ one_more seed j;
      at = is_next ∙ ap (λ c. (picture_of (j % 8) c).1) d.at ∙ ap (before seed) e;
    }

pub drawn_all : (seed j pictures : ℕ) (bytes : List ℕ) (b : Between) → j ≤ pictures → pictures ≤ j
    → Drawn seed j bytes b → bytes ≡ bytes_before seed pictures
drawn_all seed j pictures bytes b within past d =
    let e : j ≡ pictures = omega (arith, within, past) in
    d.told ∙ ap (bytes_before seed) e
