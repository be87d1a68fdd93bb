-- The pictures that are drawn of a seed are those of which its stream is written.
use Rattle.std.proofs.Common.{◌≡◌, ℕ, zero, suc, ◌+◌, ◌-◌, ◌%◌, cond, Bool, true, false, List, refl, sym, ap, ◌∙◌}
use Rattle.std.specs.Prelude.{◌==◌}
use Rattle.spec_made.specs.Draws.{motion_of}
use Rattle.spec_made.specs.Planes.{Planes}
use Rattle.spec_made.specs.Stream.{Making, idr_made, inter_made, picture_made}
use Rattle.spec_drawn_pictures.specs.Drawn.{Between, averaged, before, moved, picture_drawn, picture_of, sampled}
use Rattle.spec_drawn_pictures.specs.Shown.{planes_bytes}
use Rattle.made_laws.specs.Streams.{idr_picture, inter_picture, making_at, picture_at}
use Rattle.made_decoding_laws.specs.References.{planes_of}
use Rattle.made_decoding_laws.specs.Shown.{bytes_drawn}

-- what stands between two pictures, as it is drawn
abbrev drawn_of : Making → Between
drawn_of m = record { generator = m.generator; older = m.older; last = m.last }

module _ (one two : ℕ) (m : Making) where
  next_drawn : (idr p : Bool)
      → (cond {A = Planes × Between} idr (sampled (drawn_of m))
      (cond {A = Planes × Between} p (moved (drawn_of m)) (averaged (drawn_of m)))).1
      ≡ drawn_of (cond {A = List ℕ × Making} idr (idr_made m)
      (cond {A = List ℕ × Making} p (inter_made false one m) (inter_made true two m))).1
  unfolding sampled moved averaged idr_made inter_made motion_of
  next_drawn true p = refl
  next_drawn false true = refl
  next_drawn false false = refl

  planes_drawn : (idr p : Bool)
      → (cond {A = Planes × Between} idr (sampled (drawn_of m))
      (cond {A = Planes × Between} p (moved (drawn_of m)) (averaged (drawn_of m)))).0
      ≡ (cond idr (idr_picture m) (cond p (inter_picture false one m) (inter_picture true two m))).planes
  unfolding sampled moved averaged idr_picture inter_picture motion_of
  planes_drawn true p = refl
  planes_drawn false true = refl
  planes_drawn false false = refl

drawn_before : (seed j : ℕ) → before seed j ≡ drawn_of (making_at seed j)
unfolding before picture_of making_at picture_made
drawn_before seed zero = refl
drawn_before seed (suc j) =
    ap (λ b. (picture_of (j % 8) b).1) (drawn_before seed j)
    ∙ next_drawn (j % 8 + 1) (j % 8 - 1) (making_at seed j) (j % 8 == 0) (j % 8 % 2 == 1)

-- the picture of a number
pub drawn_is : (seed j : ℕ) → picture_drawn seed j ≡ planes_of seed j
unfolding picture_drawn picture_of picture_at
drawn_is seed j =
    ap (λ b. (picture_of (j % 8) b).0) (drawn_before seed j)
    ∙ planes_drawn (j % 8 + 1) (j % 8 - 1) (making_at seed j) (j % 8 == 0) (j % 8 % 2 == 1)

pub bytes_are : (seed j : ℕ) → bytes_drawn seed j ≡ planes_bytes (picture_drawn seed j)
bytes_are seed j = ap planes_bytes (sym (drawn_is seed j))
