-- What is computed of each picture: its header by its codes, its plan, and what it leaves.
use Rattle.std.proofs.Common.{◌≡◌, ℕ, zero, suc, ◌+◌, ◌%◌, ◌<◌, Bool, true, false, List, [], ◌∷◌, Some, None}
use Rattle.std.proofs.Common.{Ok, refl, arith}
use Rattle.std.specs.Prelude.{not, ◌&&◌, ◌||◌, nat_lt}
use Rattle.plan_types.specs.declared.stated_hash.StatedHash.{StatedHash}
use Rattle.spec_nal_units.specs.Judged.{NalUnit}
use Rattle.spec_reference_pictures.specs.PictureOrderCount.{is_irap}
use Rattle.spec_slice_headers.specs.SegmentHeader.{slice_segment_header}
use Rattle.spec_written_headers.specs.Codes.{replayed}
use Rattle.spec_picture_plan.specs.Closing.{full_at}
use Rattle.spec_picture_plan.specs.Pictures.{former_after}
use Rattle.spec_picture_plan.specs.Steps.{drops_after, picture_of}
use Rattle.spec_picture_plan.specs.UnitKinds.{is_rasl, kind_of_type}
use Rattle.spec_picture_plan.specs.declared.unit_kind.UnitKind.TheVariants.{Slice}
use Rattle.spec_made.specs.declared.units.Shift.{Shift}
use Rattle.made_laws.specs.Sets.{made_sets}
use Rattle.made_laws.specs.Headers.{made_header, nal_type_of, order_at, type_at}
use Rattle.made_laws.specs.Plans.{MadeSlice, made_plan}
use Rattle.made_laws.proofs.Computed.{plans_computed}
use Rattle.made_laws.proofs.Codes.{codes_of}
use Rattle.made_laws.specs.Formers.{context_at, former_at}

-- a slice's unit
abbrev pub unit_with : ℕ → ℕ → MadeSlice → NalUnit
unit_with nal nal_type s = record {
  index = nal;
  nal_type = nal_type;
  layer = 0;
  temporal_id = 0;
  payload = s.payload;
  removed = s.removed;
}

-- the number of a picture's unit type
abbrev pub nal_type_at : ℕ → ℕ
nal_type_at g = nal_type_of (type_at g)

-- what holds of the picture of a number in its group, which may be the first of the stream
pub record Facts (first : Bool) (g : ℕ) : Type 0 where
  pub header : (s : Shift) (nal a b c d e : ℕ)
      → replayed (slice_segment_header (context_at first g nal))
      (codes_of (type_at g) s (order_at g) (a ∷ b ∷ c ∷ d ∷ e ∷ []))
      ≡ Some (made_header (type_at g) (order_at g) nal ((a + 1) ∷ (b + 1) ∷ (c + 1) ∷ (d + 1) ∷ (e + 1) ∷ []) 0, [])
  pub plan : (nal : ℕ) (s : MadeSlice)
      → picture_of made_sets (former_at first g) (unit_with nal (nal_type_at g) s)
      (made_header (type_at g) (order_at g) nal s.entry_points s.data_place)
      ≡ Ok (made_plan first g nal s [])
  pub former : (nal : ℕ) (s : MadeSlice) (hashes : List StatedHash)
      → former_after (former_at first g) (made_plan first g nal s hashes) ≡ former_at false ((g + 1) % 8)
  pub room : (nal : ℕ) (s : MadeSlice) (hashes : List StatedHash) → full_at (made_plan first g nal s hashes) ≡ None
  pub begins : ((former_at first g).first_in_sequence && not (is_irap (nal_type_at g) || nat_lt 0 0)) ≡ false
  pub kind : kind_of_type (nal_type_at g) ≡ Slice
  pub no_rasl : is_rasl (nal_type_at g) ≡ false
  pub drops : (nal : ℕ) (s : MadeSlice) → drops_after (not first) (made_plan first g nal s []).kind ≡ true
  pub byte : nal_type_at g < 64
  pub order : order_at g < 256

first_idr : Facts true 0
unfolding plans_computed kind_of_type
first_idr = record {
  header = λ s nal a b c d e. refl;
  plan = λ nal s. refl;
  former = λ nal s hashes. refl;
  room = λ nal s hashes. refl;
  begins = refl;
  kind = refl;
  no_rasl = refl;
  drops = λ nal s. refl;
  byte = omega arith;
  order = omega arith;
}

idr : Facts false 0
unfolding plans_computed kind_of_type
idr = record {
  header = λ s nal a b c d e. refl;
  plan = λ nal s. refl;
  former = λ nal s hashes. refl;
  room = λ nal s hashes. refl;
  begins = refl;
  kind = refl;
  no_rasl = refl;
  drops = λ nal s. refl;
  byte = omega arith;
  order = omega arith;
}

first_p : Facts false 1
unfolding plans_computed kind_of_type
first_p = record {
  header = λ s nal a b c d e. refl;
  plan = λ nal s. refl;
  former = λ nal s hashes. refl;
  room = λ nal s hashes. refl;
  begins = refl;
  kind = refl;
  no_rasl = refl;
  drops = λ nal s. refl;
  byte = omega arith;
  order = omega arith;
}

first_b : Facts false 2
unfolding plans_computed kind_of_type
first_b = record {
  header = λ s nal a b c d e. refl;
  plan = λ nal s. refl;
  former = λ nal s hashes. refl;
  room = λ nal s hashes. refl;
  begins = refl;
  kind = refl;
  no_rasl = refl;
  drops = λ nal s. refl;
  byte = omega arith;
  order = omega arith;
}

second_p : Facts false 3
unfolding plans_computed kind_of_type
second_p = record {
  header = λ s nal a b c d e. refl;
  plan = λ nal s. refl;
  former = λ nal s hashes. refl;
  room = λ nal s hashes. refl;
  begins = refl;
  kind = refl;
  no_rasl = refl;
  drops = λ nal s. refl;
  byte = omega arith;
  order = omega arith;
}

second_b : Facts false 4
unfolding plans_computed kind_of_type
second_b = record {
  header = λ s nal a b c d e. refl;
  plan = λ nal s. refl;
  former = λ nal s hashes. refl;
  room = λ nal s hashes. refl;
  begins = refl;
  kind = refl;
  no_rasl = refl;
  drops = λ nal s. refl;
  byte = omega arith;
  order = omega arith;
}

third_p : Facts false 5
unfolding plans_computed kind_of_type
third_p = record {
  header = λ s nal a b c d e. refl;
  plan = λ nal s. refl;
  former = λ nal s hashes. refl;
  room = λ nal s hashes. refl;
  begins = refl;
  kind = refl;
  no_rasl = refl;
  drops = λ nal s. refl;
  byte = omega arith;
  order = omega arith;
}

third_b : Facts false 6
unfolding plans_computed kind_of_type
third_b = record {
  header = λ s nal a b c d e. refl;
  plan = λ nal s. refl;
  former = λ nal s hashes. refl;
  room = λ nal s hashes. refl;
  begins = refl;
  kind = refl;
  no_rasl = refl;
  drops = λ nal s. refl;
  byte = omega arith;
  order = omega arith;
}

fourth_p : Facts false 7
unfolding plans_computed kind_of_type
fourth_p = record {
  header = λ s nal a b c d e. refl;
  plan = λ nal s. refl;
  former = λ nal s hashes. refl;
  room = λ nal s hashes. refl;
  begins = refl;
  kind = refl;
  no_rasl = refl;
  drops = λ nal s. refl;
  byte = omega arith;
  order = omega arith;
}

-- the first picture of the stream
pub facts_first : Facts true 0
facts_first = first_idr

-- a later one
any : (g : ℕ) → g < 8 → Facts false g
any zero h = idr
any (suc zero) h = first_p
any (suc (suc zero)) h = first_b
any (suc (suc (suc zero))) h = second_p
any (suc (suc (suc (suc zero)))) h = second_b
any (suc (suc (suc (suc (suc zero))))) h = third_p
any (suc (suc (suc (suc (suc (suc zero)))))) h = third_b
any (suc (suc (suc (suc (suc (suc (suc zero))))))) h = fourth_p
any (suc (suc (suc (suc (suc (suc (suc (suc g)))))))) h = absurd (omega arith)

pub facts_later : (j : ℕ) → Facts false (j % 8)
facts_later j = any (j % 8) (omega arith)
