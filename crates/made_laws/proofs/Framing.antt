-- The units of a made stream, as they are told.
use Rattle.std.proofs.Common.{◌≡◌, ℕ, zero, suc, ◌+◌, ◌*◌, ◌-◌, ◌/◌, ◌%◌, ◌<◌, ◌≤◌, Bool, true, false, List, [], ◌∷◌}
use Rattle.std.proofs.Common.{◌++◌, cond, length, map, take, drop, refl, sym, ap, subst, ◌∙◌, arith, append_assoc}
use Rattle.std.specs.Prelude.{nat_le, nat_lt, slice_index, ◌==◌, ◌&&◌}
use Rattle.std.proofs.lemmas.Bool.{eqb-true, false≢true, lt-leb, le-ltb}
use Rattle.std.proofs.lemmas.List.{append-nil, length-append}
use Rattle.md5.specs.Md5.{md5}
use Rattle.md5.proofs.StandardFacts.{length-md5}
use Rattle.spec_nal_units.specs.ByteStream.{AtLeastBehindZeros, IsByteStream, IsSplitInto}
use Rattle.spec_nal_units.specs.Escaped.{unit_with}
use Rattle.spec_nal_units.specs.Judged.{NalUnit, Told, Whole, has_bad_header, has_reserved, is_too_large, judged}
use Rattle.spec_nal_units.specs.Judged.{next_number, places, read_unit, stands_at, then_told, told_from, told_of}
use Rattle.spec_nal_units.specs.Units.{Part, Raw}
use Rattle.spec_nal_units.proofs.Escaping.{clean-unit_with, read_back, unit-unit_with}
use Rattle.spec_nal_units.proofs.Streams.{found}
use Rattle.spec_made.specs.Headers.{picture_payload, sequence_payload}
use Rattle.spec_made.specs.Planes.{Planes}
use Rattle.spec_made.specs.Stream.{Making, made, picture_made, pictures_made, start_of}
use Rattle.spec_made.specs.Stream.{set_units as set_bytes}
use Rattle.spec_made.specs.Written.{unit_behind_code}
use Rattle.made_laws.specs.Headers.{nal_type_of, type_at}
use Rattle.made_laws.specs.Streams.{bytes_of}
use Rattle.made_laws.proofs.Lists.{listed_units}
use Rattle.made_laws.specs.Streams.{hash_numbered, hash_payload, number_of, payload_of, picture_at}
use Rattle.made_laws.proofs.Lists.{units_from}
use Rattle.made_laws.specs.Streams.{slice_numbered, unit_numbered}
use Rattle.made_laws.proofs.Bytes.{EndsInSome, more_before, one_byte}
use Rattle.made_laws.proofs.Drawn.{bytes_are}
use Rattle.made_laws.proofs.Pictures.{facts_at}
use Rattle.made_laws.proofs.Slices.{twice}
use Rattle.made_laws.proofs.Units.{payload_ends, unit_small, writable}

-- ---- 00 00 02 stands nowhere

not_true : (b : Bool) → (b ≡ true → ⊥) → b ≡ false
not_true true h = absurd (h refl)
not_true false h = refl

record Four (a b c d : Bool) : Type 0 where
  pub first : a ≡ true
  pub second : b ≡ true
  pub third : c ≡ true
  pub fourth : d ≡ true

all_four : (a b c d : Bool) → (a && b && c && d) ≡ true → Four a b c d
all_four true true true true e = record { first = refl; second = refl; third = refl; fourth = refl }
all_four false b c d e = absurd (false≢true e)
all_four true false c d e = absurd (false≢true e)
all_four true true false d e = absurd (false≢true e)
all_four true true true false e = absurd (false≢true e)

three_bytes : (k : ℕ) (unit : List ℕ) → suc (suc k) < length unit
    → unit ≡ take k unit
    ++ slice_index unit k ∷ slice_index unit (suc k) ∷ slice_index unit (suc (suc k)) ∷ drop (suc (suc (suc k))) unit
three_bytes zero (a ∷ b ∷ c ∷ unit) h = refl
three_bytes (suc k) (a ∷ unit) h = ap (λ l. a ∷ l) (three_bytes k unit (omega (arith, h)))
three_bytes k unit h = absurd (omega (arith, h))

nowhere : (unit : List ℕ) (i : ℕ) → AtLeastBehindZeros 3 unit → i < length unit → stands_at 2 unit i ≡ false
nowhere unit zero clean inside = refl
nowhere unit (suc zero) clean inside = refl
nowhere unit (suc (suc k)) clean inside =
    not_true (stands_at 2 unit (suc (suc k))) (λ h.
    let f = all_four (nat_le 2 (suc (suc k))) (slice_index unit (suc (suc k) - 2) == 0)
    (slice_index unit (suc (suc k) - 1) == 0) (slice_index unit (suc (suc k)) == 2) h in
    let two : k ≡ suc (suc k) - 2 = omega arith in
    let one : suc k ≡ suc (suc k) - 1 = omega arith in
    let rest : List ℕ = drop (suc (suc (suc k))) unit in
    let is = three_bytes k unit inside
    ∙ ap (λ b. take k unit ++ b ∷ slice_index unit (suc k) ∷ slice_index unit (suc (suc k)) ∷ rest)
    (ap (slice_index unit) two ∙ eqb-true _ _ f.second)
    ∙ ap (λ b. take k unit ++ 0 ∷ b ∷ slice_index unit (suc (suc k)) ∷ rest)
    (ap (slice_index unit) one ∙ eqb-true _ _ f.third)
    ∙ ap (λ b. take k unit ++ 0 ∷ 0 ∷ b ∷ rest) (eqb-true _ _ f.fourth) in
    let least : 3 ≤ 2 = clean (take k unit) rest 2 is in
    absurd (omega (arith, least)))

no_places : (test : ℕ → Bool) (n : ℕ) → ((i : ℕ) → i < n → test i ≡ false) → places test n ≡ []
no_places test zero none = refl
no_places test (suc n) none =
    ap (λ t. cond {A = List ℕ} t (places test n ++ n ∷ []) (places test n)) (none n (omega arith))
    ∙ no_places test n (λ i inside. none i (omega (arith, inside)))

not_reserved : (unit : List ℕ) → AtLeastBehindZeros 3 unit → has_reserved unit ≡ false
unfolding has_reserved
not_reserved unit clean =
    ap (λ l. nat_lt 0 (length l)) (no_places (stands_at 2 unit) (length unit) (λ i inside. nowhere unit i clean inside))

-- ---- a unit that is written is told whole

-- what is asked of a unit: its type, and that its payload ends in another byte than 00 and has few bytes
pub record IsSmall (nal_type : ℕ) (payload : List ℕ) : Type 0 where
  pub type : nal_type < 64
  pub ends : EndsInSome payload
  pub few : length (unit_with (2 * nal_type) 1 payload) ≤ 67108864

judged_by : (large reserved : Bool) (short : Bool) (x y z w : Told) → large ≡ false → reserved ≡ false
    → short ≡ false
    → cond {A = Told} large x (cond {A = Told} reserved y (cond {A = Told} short z w)) ≡ w
judged_by large reserved short x y z w e f g = rw (e, f, g) refl

good_header : (t : ℕ) (payload : List ℕ) → t < 64 → has_bad_header (unit_with (2 * t) 1 payload) ≡ false
good_header t payload small =
    let long : nat_lt (length (unit_with (2 * t) 1 payload)) 2 ≡ false = le-ltb _ _ (omega arith) in
    let bit : nat_le 128 (2 * t) ≡ false = lt-leb _ _ (omega arith) in
    rw (long, bit) refl

read_is : (n t : ℕ) (payload : List ℕ) → t < 64 → EndsInSome payload
    → read_unit (number_of n) (unit_with (2 * t) 1 payload) ≡ unit_numbered n t payload
read_is n t payload small e =
    let back = read_back (2 * t) 1 payload (writable payload e) in
    let type : 2 * t / 2 % 64 ≡ t = omega arith in
    let layer : 2 * t % 2 * 32 + 0 ≡ 0 = omega arith in
    ap (λ k. record (read_unit (number_of n) (unit_with (2 * t) 1 payload)) { nal_type = k }) type
    ∙ ap (λ k. record (read_unit (number_of n) (unit_with (2 * t) 1 payload)) { nal_type = t; layer = k }) layer
    ∙ ap (λ p. record (read_unit (number_of n) (unit_with (2 * t) 1 payload))
    { nal_type = t; layer = 0; payload = p }) back.same
    ∙ ap (λ r. record (read_unit (number_of n) (unit_with (2 * t) 1 payload))
    { nal_type = t; layer = 0; payload = payload; removed = r }) back.places

judged_whole : (n t : ℕ) (payload : List ℕ) → IsSmall t payload
    → judged (number_of n) (unit_with (2 * t) 1 payload) ≡ Whole (unit_numbered n t payload)
unfolding judged is_too_large
judged_whole n t payload s =
    judged_by _ _ _ _ _ _ _ (le-ltb _ _ s.few)
    (not_reserved (unit_with (2 * t) 1 payload) (clean-unit_with (2 * t) 1 payload)) (good_header t payload s.type)
    ∙ ap Whole (read_is n t payload s.type s.ends)

-- ---- each unit of a made stream is small

few_written : (first : ℕ) (payload : List ℕ) → length payload ≤ 1000 → length (unit_with first 1 payload) ≤ 67108864
few_written first payload few = omega (arith, twice first 1 payload, few)

small_sps : IsSmall 33 sequence_payload
unfolding sequence_payload
small_sps = record {
  type = omega arith;
  ends = record { front = take 23 sequence_payload; last = 64; some = omega arith; is = refl };
  few = omega arith;
}

small_pps : IsSmall 34 picture_payload
unfolding picture_payload
small_pps = record {
  type = omega arith;
  ends = record { front = take 3 picture_payload; last = 18; some = omega arith; is = refl };
  few = omega arith;
}

small_slice : (g : ℕ) (m : Making) → nal_type_of (type_at g) < 64
    → IsSmall (nal_type_of (type_at g)) (payload_of (picture_at g m))
small_slice g m type =
    record { type = type; ends = payload_ends g m; few = unit_small (2 * nal_type_of (type_at g)) g m }

small_hash : (p : Planes) → IsSmall 40 (hash_payload p)
unfolding hash_payload
small_hash p =
    let behind : List ℕ = md5 p.cb ++ (md5 p.cr ++ 128 ∷ []) in
    let all : List ℕ = md5 p.luma ++ behind in
    record {
      type = omega arith;
      ends =
          more_before (132 ∷ 49 ∷ 0 ∷ []) all
          (more_before (md5 p.luma) behind (more_before (md5 p.cb) (md5 p.cr ++ 128 ∷ [])
          (more_before (md5 p.cr) (128 ∷ []) (one_byte 128 (omega arith)))));
      few =
          few_written 80 (132 ∷ 49 ∷ 0 ∷ all)
          (omega (
            arith,
            length-append (md5 p.luma) behind,
            length-append (md5 p.cb) (md5 p.cr ++ 128 ∷ []),
            length-append (md5 p.cr) (128 ∷ []),
            length-md5 p.luma,
            length-md5 p.cb,
            length-md5 p.cr,
          ));
    }

-- ---- the units, one after the other

next_is : (n : ℕ) → next_number (number_of n) ≡ number_of (n + 1)
next_is n = omega arith

told_unit : (began : Bool) (n t : ℕ) (payload : List ℕ) (later : List Part) → IsSmall t payload
    → told_from began true (number_of n) (Raw (unit_with (2 * t) 1 payload) ∷ later)
    ≡ Whole (unit_numbered n t payload) ∷ told_from true true (number_of (n + 1)) later
told_unit began n t payload later s =
    ap (λ u. then_told u (told_from true true (next_number (number_of n)) later)) (judged_whole n t payload s)
    ∙ ap (λ k. Whole (unit_numbered n t payload) ∷ told_from true true k later) (next_is n)

-- the bytes of units
abbrev pub raw_units : List NalUnit → List (List ℕ)
raw_units units = map bytes_of units

told_from-units : (n j : ℕ) (m : Making)
    → told_from true true (number_of (2 + 2 * j)) (map Raw (raw_units (units_from j n m)))
    ≡ map Whole (units_from j n m)
unfolding units_from
told_from-units zero j m = refl
told_from-units (suc n) j m =
    let g : ℕ = j % 8 in
    let later : Making = (picture_made g m).1 in
    let rest : List Part = map Raw (raw_units (units_from (j + 1) n later)) in
    let p : List ℕ = hash_payload (picture_at g m).planes in
    let second : number_of (2 + 2 * j + 1) ≡ number_of (3 + 2 * j) = omega arith in
    let third : number_of (3 + 2 * j + 1) ≡ number_of (2 + 2 * (j + 1)) = omega arith in
    told_unit true (2 + 2 * j) (nal_type_of (type_at g)) (payload_of (picture_at g m)) (Raw (unit_with 80 1 p) ∷ rest)
    (small_slice g m (facts_at j).byte)
    ∙ ap (λ k. Whole (slice_numbered j g m) ∷ told_from true true k (Raw (unit_with 80 1 p) ∷ rest)) second
    ∙ ap (λ l. Whole (slice_numbered j g m) ∷ l)
    (told_unit true (3 + 2 * j) 40 p rest (small_hash (picture_at g m).planes)
    ∙ ap (λ k. Whole (hash_numbered j g m) ∷ told_from true true k rest) third
    ∙ ap (λ l. Whole (hash_numbered j g m) ∷ l) (told_from-units n (j + 1) later))

-- ---- the bytes

unit_stream : (t : ℕ) (payload rest : List ℕ) (units : List (List ℕ)) → IsByteStream rest units
    → IsByteStream (unit_behind_code t payload ++ rest) (unit_with (2 * t) 1 payload ∷ units)
unit_stream t payload rest units s = (
  1,
  0,
  rest,
  ap (λ u. (0 ∷ 0 ∷ 0 ∷ 1 ∷ u) ++ rest) (sym (append-nil (unit_with (2 * t) 1 payload))),
  unit-unit_with (2 * t) 1 payload,
  s,
)

pictures_stream : (n j : ℕ) (m : Making) → IsByteStream (pictures_made j n m) (raw_units (units_from j n m))
unfolding units_from pictures_made
pictures_stream zero j m = (0, refl)
pictures_stream (suc n) j m =
    let g : ℕ = j % 8 in
    let later : Making = (picture_made g m).1 in
    let rest : List ℕ = pictures_made (j + 1) n later in
    let units : List (List ℕ) = raw_units (units_from (j + 1) n later) in
    let t : ℕ = nal_type_of (type_at g) in
    let payload : List ℕ = payload_of (picture_at g m) in
    let p : List ℕ = hash_payload (picture_at g m).planes in
    let is : (picture_made g m).0 ++ rest ≡ unit_behind_code t payload ++ (unit_behind_code 40 p ++ rest) =
    ap (λ l. l ++ rest) (bytes_are g m) ∙ append_assoc (unit_behind_code t payload) (unit_behind_code 40 p) rest in
    subst (λ l. IsByteStream l (unit_with (2 * t) 1 payload ∷ unit_with 80 1 p ∷ units)) (sym is)
    (unit_stream t payload (unit_behind_code 40 p ++ rest) (unit_with 80 1 p ∷ units)
    (unit_stream 40 p rest units (pictures_stream n (j + 1) later)))

made_stream : (seed n : ℕ) → IsByteStream (made seed n) (raw_units (listed_units seed n))
unfolding made set_bytes
made_stream seed n =
    let rest : List ℕ = pictures_made 0 n (start_of seed) in
    let units : List (List ℕ) = raw_units (units_from 0 n (start_of seed)) in
    let is = append_assoc (unit_behind_code 33 sequence_payload) (unit_behind_code 34 picture_payload) rest in
    subst (λ l. IsByteStream l (raw_units (listed_units seed n))) (sym is)
    (unit_stream 33 sequence_payload (unit_behind_code 34 picture_payload ++ rest)
    (unit_with 68 1 picture_payload ∷ units)
    (unit_stream 34 picture_payload rest units (pictures_stream n 0 (start_of seed))))

-- a made stream is split into its units
pub made_split : (seed n : ℕ) → IsSplitInto (made seed n) (map bytes_of (listed_units seed n))
made_split seed n = found (made seed n) (raw_units (listed_units seed n)) (made_stream seed n)

-- it is told as them
pub made_told : (seed n : ℕ) → told_of true (made seed n) ≡ map Whole (listed_units seed n)
made_told seed n =
    let later : List Part = map Raw (raw_units (units_from 0 n (start_of seed))) in
    ap (told_from false true 0) (found (made seed n) (raw_units (listed_units seed n)) (made_stream seed n))
    ∙ told_unit false 0 33 sequence_payload (Raw (unit_with 68 1 picture_payload) ∷ later) small_sps
    ∙ ap (λ l. Whole (unit_numbered 0 33 sequence_payload) ∷ l)
    (told_unit true 1 34 picture_payload later small_pps
    ∙ ap (λ l. Whole (unit_numbered 1 34 picture_payload) ∷ l) (told_from-units n 0 (start_of seed)))
