-- The pictures of a stream that is made go out as they are drawn.
use Rattle.std.proofs.Common.{◌≡◌, ℕ, zero, suc, ◌+◌, ◌%◌, ◌<◌, cond, Bool, true, false, List, []}
use Rattle.std.proofs.Common.{◌∷◌, ◌++◌, length, map, Option, Some, None, pos, refl, sym, ap, subst, ◌∙◌, arith}
use Rattle.std.proofs.Common.{inl, inr}
use Rattle.std.specs.Prelude.{◌==◌, Ok, slice_get}
use Rattle.std.specs.List.{range_with_len}
use Rattle.std.proofs.lemmas.Bool.{cases_eq}
use Rattle.std.proofs.lemmas.Bool.Decides.{nat_tests}
use Rattle.std.proofs.lemmas.List.FromFn.{length-map-range_with_len}
use Rattle.plan_types.specs.declared.picture_plan.PicturePlan.{PicturePlan}
use Rattle.spec_picture_plan.specs.Planned.{Planned, planned_of}
use Rattle.spec_picture_build.specs.References.{DecodedPicture}
use Rattle.spec_decoder.specs.Decoder.{BufferPicture, Decoded, compared, decoded, decoded_data, decoded_from}
use Rattle.spec_decoder.specs.Decoder.{decoded_picture, entered, finished, hashes_judged, is_among, kept_as}
use Rattle.spec_decoder.specs.Decoder.{kept_from}
use Rattle.spec_decoder.specs.Decoder.{next_out, out_at, picture_out, pictures_in, put_out, with_picture}
use Rattle.spec_decoder.specs.Output.{OutPicture}
use Rattle.spec_made.specs.Stream.{made}
use Rattle.made_laws.specs.Headers.{nal_type_of, order_at, type_at}
use Rattle.made_laws.specs.Outputs.{number_at, output_numbers, outputs_from, shown_at}
use Rattle.made_laws.specs.Plans.{buffer_use_at, made_plan}
use Rattle.made_laws.specs.Streams.{last_out, made_plans, plan_of}
use Rattle.made_laws.proofs.Whole.{order_is, plan_is}
use Rattle.made_picture_laws.specs.Pictures.{IsDecodedAs, IsDrawn}
use Rattle.made_decoding_laws.specs.References.{planes_of}
use Rattle.made_decoding_laws.specs.Shown.{AreShown, IsShown}
use Rattle.made_decoding_laws.specs.Turns.{AreDrawn, numbers_before}
use Rattle.made_decoding_laws.proofs.Buffers.{AreInside}
use Rattle.made_decoding_laws.proofs.Hashes.{hashes_agree}
use Rattle.made_decoding_laws.proofs.Turns.{decoded_by_drawn, held, numbers_are}

-- ---- buffers of pictures with their order counts

record IsHeld (seed j : ℕ) (b : BufferPicture) : Type 0 where
  pub poc : b.poc ≡ pos (order_at (j % 8))
  pub nal_type : b.nal_type ≡ nal_type_of (type_at (j % 8))
  pub drawn : IsDrawn (planes_of seed j) b.picture

abbrev AreHeld : ℕ → List ℕ → List BufferPicture → Type 0
AreHeld seed [] [] = Unit {0}
AreHeld seed [] (b ∷ buffer) = ⊥
AreHeld seed (j ∷ numbers) [] = ⊥
AreHeld seed (j ∷ numbers) (b ∷ buffer) = IsHeld seed j b × AreHeld seed numbers buffer

are_drawn : (seed : ℕ) (numbers : List ℕ) (buffer : List BufferPicture) → AreHeld seed numbers buffer
    → AreDrawn seed numbers (pictures_in buffer)
are_drawn seed [] [] are = tt
are_drawn seed [] (b ∷ buffer) are = absurd are
are_drawn seed (n ∷ numbers) [] are = absurd are
are_drawn seed (n ∷ numbers) (b ∷ buffer) are = (are.0.drawn, are_drawn seed numbers buffer are.1)

one_more : (seed j : ℕ) (numbers : List ℕ) (buffer : List BufferPicture) (b : BufferPicture)
    → AreHeld seed numbers buffer → IsHeld seed j b → AreHeld seed (numbers ++ j ∷ []) (buffer ++ b ∷ [])
one_more seed j [] [] b are is = (is, tt)
one_more seed j [] (a ∷ buffer) b are is = absurd are
one_more seed j (n ∷ numbers) [] b are is = absurd are
one_more seed j (n ∷ numbers) (a ∷ buffer) b are is = (are.0, one_more seed j numbers buffer b are.1 is)

-- what stays
abbrev numbers_kept : List ℕ → ℕ → List ℕ → List ℕ
numbers_kept places place [] = []
numbers_kept places place (n ∷ numbers) =
    cond (is_among places place) (n ∷ numbers_kept places (suc place) numbers)
    (numbers_kept places (suc place) numbers)

either_held : (seed n : ℕ) (b : BufferPicture) (numbers : List ℕ) (buffer : List BufferPicture) (stays : Bool)
    → IsHeld seed n b → AreHeld seed numbers buffer
    → AreHeld seed (cond stays (n ∷ numbers) numbers) (cond stays (b ∷ buffer) buffer)
either_held seed n b numbers buffer true is are = (is, are)
either_held seed n b numbers buffer false is are = are

kept_held : (seed : ℕ) (places : List ℕ) (place : ℕ) (numbers : List ℕ) (buffer : List BufferPicture)
    → AreHeld seed numbers buffer
    → AreHeld seed (numbers_kept places place numbers) (kept_from places place buffer)
unfolding kept_from
kept_held seed places place [] [] are = tt
kept_held seed places place [] (b ∷ buffer) are = absurd are
kept_held seed places place (n ∷ numbers) [] are = absurd are
kept_held seed places place (n ∷ numbers) (b ∷ buffer) are =
    either_held seed n b (numbers_kept places (suc place) numbers) (kept_from places (suc place) buffer)
    (is_among places place) are.0 (kept_held seed places (suc place) numbers buffer are.1)

-- ---- what goes out

shown_of : (seed j : ℕ) (b : BufferPicture) → IsHeld seed j b → IsShown seed j (picture_out b)
shown_of seed j b is = record {
  poc = is.poc;
  nal_type = is.nal_type;
  format = is.drawn.format;
  samples = is.drawn.samples;
}

both_shown : (seed : ℕ) (a b : List ℕ) (first second : List OutPicture) → AreShown seed a first
    → AreShown seed b second → AreShown seed (a ++ b) (first ++ second)
both_shown seed [] b [] second are later = later
both_shown seed [] b (o ∷ first) second are later = absurd are
both_shown seed (n ∷ a) b [] second are later = absurd are
both_shown seed (n ∷ a) b (o ∷ first) second are later = (are.0, both_shown seed a b first second are.1 later)

record HasHeld (seed j : ℕ) (buffer : List BufferPicture) (place : ℕ) : Type 0 where
  pub picture : BufferPicture
  pub there : slice_get buffer place ≡ Some picture
  pub held : IsHeld seed j picture

next_there : (seed j place : ℕ) (a : BufferPicture) (buffer : List BufferPicture) → HasHeld seed j buffer place
    → HasHeld seed j (a ∷ buffer) (suc place)
next_there seed j place a buffer has = record { picture = has.picture; there = has.there; held = has.held }

held_there : (seed : ℕ) (numbers more : List ℕ) (buffer : List BufferPicture) (place : ℕ)
    → AreHeld seed numbers buffer → place < length numbers
    → HasHeld seed (number_at (numbers ++ more) place) buffer place
held_there seed [] more buffer place are inside = absurd (omega arith)
held_there seed (n ∷ numbers) more [] place are inside = absurd are
held_there seed (n ∷ numbers) more (a ∷ buffer) zero are inside = record { picture = a; there = refl; held = are.0 }
held_there seed (n ∷ numbers) more (a ∷ buffer) (suc place) are inside =
    next_there seed (number_at (numbers ++ more) place) place a buffer
    (held_there seed numbers more buffer place are.1 (omega arith))

out_shown : (seed : ℕ) (numbers more : List ℕ) (buffer : List BufferPicture) (places : List ℕ)
    → AreHeld seed numbers buffer → AreInside places (length numbers)
    → AreShown seed (map (number_at (numbers ++ more)) places) (out_at buffer places)
unfolding out_at
out_shown seed numbers more buffer [] are inside = tt
out_shown seed numbers more buffer (place ∷ places) are inside =
    let all : List ℕ = numbers ++ more in
    let has : HasHeld seed (number_at all place) buffer place =
    held_there seed numbers more buffer place are inside.0 in
    subst (λ (o : Option BufferPicture). AreShown seed (number_at all place ∷ map (number_at all) places)
    (next_out o (out_at buffer places))) (sym has.there) (
      shown_of seed (number_at all place) has.picture has.held,
      out_shown seed numbers more buffer places are inside.1,
    )

-- ---- the picture of a number in its group

record Uses (g j : ℕ) : Type 0 where
  pub before : AreInside (buffer_use_at false g).before (length (held g j))
  pub behind : AreInside (buffer_use_at false g).behind (length (held g j ++ j ∷ []))
  pub kept : numbers_kept (buffer_use_at false g).kept 0 (held g j ++ j ∷ [])
      ≡ map (number_at (held g j ++ j ∷ [])) (buffer_use_at false g).kept

uses : (g j : ℕ) → g < 8 → Uses g j
uses zero j h = record { before = (omega arith, tt); behind = tt; kept = refl }
uses (suc zero) j h = record { before = tt; behind = (omega arith, tt); kept = refl }
uses (suc (suc zero)) j h = record { before = tt; behind = (omega arith, tt); kept = refl }
uses (suc (suc (suc zero))) j h = record { before = tt; behind = (omega arith, tt); kept = refl }
uses (suc (suc (suc (suc zero)))) j h = record { before = tt; behind = (omega arith, tt); kept = refl }
uses (suc (suc (suc (suc (suc zero))))) j h = record { before = tt; behind = (omega arith, tt); kept = refl }
uses (suc (suc (suc (suc (suc (suc zero)))))) j h = record { before = tt; behind = (omega arith, tt); kept = refl }
uses (suc (suc (suc (suc (suc (suc (suc zero))))))) j h =
    record { before = tt; behind = (omega arith, tt); kept = refl }
uses (suc (suc (suc (suc (suc (suc (suc (suc g)))))))) j h = absurd (omega arith)

record UsesAt (seed j : ℕ) : Type 0 where
  pub before : AreInside (plan_of seed j).outputs.before (length (numbers_before seed j))
  pub behind : AreInside (plan_of seed j).outputs.behind (length (numbers_before seed j ++ j ∷ []))
  pub kept : numbers_kept (plan_of seed j).outputs.kept 0 (numbers_before seed j ++ j ∷ [])
      ≡ map (number_at (numbers_before seed j ++ j ∷ [])) (plan_of seed j).outputs.kept

record UsesBy (first : Bool) (g j : ℕ) (numbers : List ℕ) : Type 0 where
  pub before : AreInside (buffer_use_at first g).before (length numbers)
  pub behind : AreInside (buffer_use_at first g).behind (length (numbers ++ j ∷ []))
  pub kept : numbers_kept (buffer_use_at first g).kept 0 (numbers ++ j ∷ [])
      ≡ map (number_at (numbers ++ j ∷ [])) (buffer_use_at first g).kept

uses_by : (seed j : ℕ) → UsesBy (j == 0) (j % 8) j (numbers_before seed j)
unfolding numbers_before
uses_by seed zero = record { before = tt; behind = tt; kept = refl }
uses_by seed (suc j) =
    let i : ℕ = suc j in
    let no : (i == 0) ≡ false = grind (arith, nat_tests) in
    let u : Uses (i % 8) i = uses (i % 8) i (omega arith) in
    let by : UsesBy false (i % 8) i (held (i % 8) i) =
    record { before = u.before; behind = u.behind; kept = u.kept } in
    subst (λ (l : List ℕ). UsesBy (i == 0) (i % 8) i l) (sym (numbers_are seed j))
    (subst (λ (b : Bool). UsesBy b (i % 8) i (held (i % 8) i)) (sym no) by)

uses_at : (seed j : ℕ) → UsesAt seed j
unfolding made_plan
uses_at seed j =
    let u : UsesBy (j == 0) (j % 8) j (numbers_before seed j) = uses_by seed j in
    record { before = u.before; behind = u.behind; kept = u.kept }

-- ---- what goes out at the end

some_held : (g j : ℕ) → 0 < length (held g j)
some_held zero j = omega arith
some_held (suc zero) j = omega arith
some_held (suc (suc zero)) j = omega arith
some_held (suc (suc (suc zero))) j = omega arith
some_held (suc (suc (suc (suc zero)))) j = omega arith
some_held (suc (suc (suc (suc (suc zero))))) j = omega arith
some_held (suc (suc (suc (suc (suc (suc zero)))))) j = omega arith
some_held (suc (suc (suc (suc (suc (suc (suc g))))))) j = omega arith

two_held : (g j : ℕ) → ¬ (g ≡ 1) → 1 < length (held g j)
two_held zero j n = omega arith
two_held (suc zero) j n = absurd (n refl)
two_held (suc (suc zero)) j n = omega arith
two_held (suc (suc (suc zero))) j n = omega arith
two_held (suc (suc (suc (suc zero)))) j n = omega arith
two_held (suc (suc (suc (suc (suc zero))))) j n = omega arith
two_held (suc (suc (suc (suc (suc (suc zero)))))) j n = omega arith
two_held (suc (suc (suc (suc (suc (suc (suc g))))))) j n = omega arith

last_inside : (j : ℕ) → AreInside (last_out (suc j)) (length (held (suc j % 8) (suc j)))
last_inside j =
    let g : ℕ = suc j % 8 in
    elim (cases_eq (j % 8) 0) [
      | inl at ↦
          let yes : (j % 8 == 0) ≡ true = grind (arith, nat_tests) in
          subst (λ (b : Bool). AreInside (cond {A = List ℕ} b (0 ∷ []) (1 ∷ [])) (length (held g (suc j)))) (sym yes)
          (some_held g (suc j), tt)
      | inr n ↦
          let no : (j % 8 == 0) ≡ false = grind (arith, nat_tests) in
          subst (λ (b : Bool). AreInside (cond {A = List ℕ} b (0 ∷ []) (1 ∷ [])) (length (held g (suc j)))) (sym no)
          (two_held g (suc j) (λ is. absurd (omega arith)), tt)
    ]

last_inside_at : (seed j : ℕ) → AreInside (last_out j) (length (numbers_before seed j))
last_inside_at seed zero = tt
last_inside_at seed (suc j) =
    subst (λ (l : List ℕ). AreInside (last_out (suc j)) (length l)) (sym (numbers_are seed j)) (last_inside j)

-- ---- the whole stream

pub record GoOut (seed : ℕ) (numbers : List ℕ) (d : Decoded) : Type 0 where
  pub stop : d.stop ≡ None
  pub shown : AreShown seed numbers d.pictures

append_nothing : (l : List ℕ) → l ++ [] ≡ l
append_nothing [] = refl
append_nothing (x ∷ l) = ap (λ m. x ∷ m) (append_nothing l)

module _ (hash : Bool) (seed : ℕ)
    (agree : (j : ℕ) (picture : DecodedPicture) → IsDrawn (planes_of seed j) picture
    → compared hash (plan_of seed j) picture ≡ None) where
  at_end : (j : ℕ) (buffer : List BufferPicture) → AreHeld seed (numbers_before seed j) buffer
      → GoOut seed (map (number_at (numbers_before seed j)) (last_out j)) (finished (last_out j) None buffer)
  at_end j buffer are = record {
    stop = refl;
    shown =
        subst (λ (l : List ℕ). AreShown seed (map (number_at l) (last_out j)) (out_at buffer (last_out j)))
        (append_nothing (numbers_before seed j))
        (out_shown seed (numbers_before seed j) [] buffer (last_out j) are (last_inside_at seed j));
  }

  is_held : (j : ℕ) (picture : DecodedPicture) → IsDrawn (planes_of seed j) picture
      → IsHeld seed j (kept_as (plan_of seed j) picture)
  unfolding made_plan
  is_held j picture drawn = record { poc = refl; nal_type = refl; drawn = drawn }

  decoded_is : (j : ℕ) (buffer : List BufferPicture)
      (is : IsDecodedAs (pictures_in buffer) (plan_of seed j) (planes_of seed j))
      → decoded_picture hash buffer (plan_of seed j) ≡ Ok (kept_as (plan_of seed j) is.picture)
  unfolding decoded_picture
  decoded_is j buffer is =
      ap (decoded_data hash (plan_of seed j)) is.decoded
      ∙ ap (hashes_judged (plan_of seed j) is.picture) (agree j is.picture is.drawn)

  one_out : (j : ℕ) (buffer : List BufferPicture) (next : List BufferPicture → Decoded) (rest : List ℕ)
      → AreHeld seed (numbers_before seed j) buffer
      → ((later : List BufferPicture) → AreHeld seed (numbers_before seed (suc j)) later → GoOut seed rest (next later))
      → GoOut seed (map (number_at (numbers_before seed j ++ j ∷ [])) (plan_of seed j).outputs.before
      ++ (map (number_at (numbers_before seed j ++ j ∷ [])) (plan_of seed j).outputs.behind ++ rest))
      (with_picture hash (plan_of seed j) next buffer)
  unfolding numbers_before
  one_out j buffer next rest are goes =
      let p : PicturePlan = plan_of seed j in
      let numbers : List ℕ = numbers_before seed j in
      let u : UsesAt seed j = uses_at seed j in
      let is : IsDecodedAs (pictures_in buffer) p (planes_of seed j) =
      decoded_by_drawn seed j (pictures_in buffer) (are_drawn seed numbers buffer are) in
      let b : BufferPicture = kept_as p is.picture in
      let all : List BufferPicture = buffer ++ b ∷ [] in
      let all_held : AreHeld seed (numbers ++ j ∷ []) all =
      one_more seed j numbers buffer b are (is_held j is.picture is.drawn) in
      let left : AreHeld seed (map (number_at (numbers ++ j ∷ [])) p.outputs.kept) (kept_from p.outputs.kept 0 all) =
      subst (λ (l : List ℕ). AreHeld seed l (kept_from p.outputs.kept 0 all)) u.kept
      (kept_held seed p.outputs.kept 0 (numbers ++ j ∷ []) all all_held) in
      let then : GoOut seed rest (next (kept_from p.outputs.kept 0 all)) =
      goes (kept_from p.outputs.kept 0 all) left in
      let behind : AreShown seed (map (number_at (numbers ++ j ∷ [])) p.outputs.behind)
      (out_at all p.outputs.behind) =
      subst (λ (l : List ℕ). AreShown seed (map (number_at l) p.outputs.behind) (out_at all p.outputs.behind))
      (append_nothing (numbers ++ j ∷ []))
      (out_shown seed (numbers ++ j ∷ []) [] all p.outputs.behind all_held u.behind) in
      let whole : GoOut seed (map (number_at (numbers ++ j ∷ [])) p.outputs.before
      ++ (map (number_at (numbers ++ j ∷ [])) p.outputs.behind ++ rest))
      (put_out (out_at buffer p.outputs.before)
      (put_out (out_at all p.outputs.behind) (next (kept_from p.outputs.kept 0 all)))) = record {
        stop = then.stop;
        shown =
            both_shown seed _ _ _ _ (out_shown seed numbers (j ∷ []) buffer p.outputs.before are u.before)
            (both_shown seed _ _ _ _ behind then.shown);
      } in
      subst (λ (d : Decoded). GoOut seed (map (number_at (numbers ++ j ∷ [])) p.outputs.before
      ++ (map (number_at (numbers ++ j ∷ [])) p.outputs.behind ++ rest)) d)
      (sym (ap (λ r. put_out (out_at buffer p.outputs.before) (entered p next buffer r)) (decoded_is j buffer is)))
      whole

  goes_from : (n j : ℕ) (buffer : List BufferPicture) → AreHeld seed (numbers_before seed j) buffer
      → GoOut seed
      (outputs_from j (numbers_before seed j) (map (plan_of seed) (range_with_len j n)) (last_out (j + n)))
      (decoded_from hash (finished (last_out (j + n)) None) (map (plan_of seed) (range_with_len j n)) buffer)
  unfolding outputs_from numbers_before
  goes_from zero j buffer are =
      let e : j ≡ j + 0 = omega arith in
      subst (λ (k : ℕ). GoOut seed (map (number_at (numbers_before seed j)) (last_out k))
      (finished (last_out k) None buffer)) e (at_end j buffer are)
  goes_from (suc n) j buffer are =
      let e : suc j + n ≡ j + suc n = omega arith in
      let on : suc j ≡ j + 1 = omega arith in
      let plans : List PicturePlan = map (plan_of seed) (range_with_len (j + 1) n) in
      let last : List ℕ = last_out (j + suc n) in
      let all : List ℕ = map (number_at (numbers_before seed j ++ j ∷ [])) (plan_of seed j).outputs.kept in
      one_out j buffer (decoded_from hash (finished last None) plans) (outputs_from (j + 1) all plans last) are
      (λ later held. subst (λ (k : ℕ). GoOut seed
      (outputs_from k all (map (plan_of seed) (range_with_len k n)) last)
      (decoded_from hash (finished last None) (map (plan_of seed) (range_with_len k n)) later)) on
      (subst (λ (k : ℕ). GoOut seed
      (outputs_from (suc j) all (map (plan_of seed) (range_with_len (suc j) n)) (last_out k))
      (decoded_from hash (finished (last_out k) None) (map (plan_of seed) (range_with_len (suc j) n)) later)) e
      (goes_from n (suc j) later held)))

  pub stream_goes_out : (n : ℕ)
      → GoOut seed (map (shown_at n) (range_with_len 0 n)) (decoded hash true (made seed n))
  unfolding decoded numbers_before
  stream_goes_out n =
      let e : 0 + n ≡ n = omega arith in
      let from : GoOut seed (outputs_from 0 [] (made_plans seed n) (last_out n))
      (decoded_from hash (finished (last_out n) None) (made_plans seed n) []) =
      subst (λ (k : ℕ). GoOut seed (outputs_from 0 [] (made_plans seed n) (last_out k))
      (decoded_from hash (finished (last_out k) None) (made_plans seed n) [])) e (goes_from n 0 [] tt) in
      let planned : GoOut seed (output_numbers (planned_of true (made seed n)))
      (decoded_from hash (finished (planned_of true (made seed n)).last (planned_of true (made seed n)).stop)
      (planned_of true (made seed n)).pictures []) =
      subst (λ (p : Planned). GoOut seed (output_numbers p) (decoded_from hash (finished p.last p.stop) p.pictures []))
      (sym (plan_is seed n)) from in
      subst (λ (l : List ℕ). GoOut seed l (decoded hash true (made seed n))) (order_is seed n) planned

shown_count : (seed : ℕ) (numbers : List ℕ) (out : List OutPicture) → AreShown seed numbers out
    → length out ≡ length numbers
shown_count seed [] [] are = refl
shown_count seed [] (o ∷ out) are = absurd are
shown_count seed (n ∷ numbers) [] are = absurd are
shown_count seed (n ∷ numbers) (o ∷ out) are = ap suc (shown_count seed numbers out are.1)

pub goes_out : (hash : Bool) (seed n : ℕ)
    → GoOut seed (map (shown_at n) (range_with_len 0 n)) (decoded hash true (made seed n))
goes_out hash seed n = stream_goes_out hash seed (hashes_agree hash seed) n

pub out_count : (hash : Bool) (seed n : ℕ) → length (decoded hash true (made seed n)).pictures ≡ n
out_count hash seed n =
    shown_count seed (map (shown_at n) (range_with_len 0 n)) (decoded hash true (made seed n)).pictures
    (goes_out hash seed n).shown
    ∙ length-map-range_with_len (shown_at n) 0 n
