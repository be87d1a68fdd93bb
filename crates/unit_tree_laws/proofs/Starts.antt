-- What a unit begins with, in two readings that agree.
use Rattle.std.proofs.Common.{◌≡◌, ℕ, Bool, true, false, ◌||◌, ◌&&◌, not, List, [], get_or, Option, Some, None}
use Rattle.std.proofs.Common.{Result}
use Rattle.std.proofs.Common.{Ok, Err, refl, if◌then◌else◌}
use Rattle.hv_base.specs.declared.breach.Breach.{Breach}
use Rattle.spec_bits.specs.Bits.{bits}
use Rattle.spec_slice_data.specs.SpecCabac.{Engine, start_at}
use Rattle.spec_slice_data.specs.Segment.{PictureShape, SegmentShape, Between, before_unit, begins_row}
use Rattle.spec_slice_data.specs.Segment.{begins_substream, contexts_before, has_stored, qp_before, restarted}
use Rattle.spec_slice_data.specs.Segment.{substream_of}
use Rattle.unit_tree_laws.specs.Agreement.{Agree, begins_slice}

-- the same engine, contexts and Qp'Y, before which nothing was read
pub record StartsSame (a b start_a start_b : Between) : Type 0 where
  pub engine : start_a.engine ≡ start_b.engine
  pub contexts : start_a.contexts ≡ start_b.contexts
  pub last : start_a.last ≡ start_b.last
  pub units_a : start_a.units ≡ a.units
  pub units_b : start_b.units ≡ b.units

abbrev pub IsSameStart : Between → Between → Result Between Breach → Result Between Breach → Type 0
IsSameStart a b (Ok x) (Ok y) = StartsSame a b x y
IsSameStart a b (Err e) (Err f) = e ≡ f
IsSameStart a b (Ok x) (Err f) = ⊥
IsSameStart a b (Err e) (Ok y) = ⊥

contexts_if : (row there slice : Bool) (stored_a stored_b contexts_a contexts_b first : List ℕ)
    → (row ≡ true → there ≡ true → stored_a ≡ stored_b) → (row ≡ false → slice ≡ false → contexts_a ≡ contexts_b)
    → (if row then (if there then stored_a else first) else (if slice then first else contexts_a))
    ≡ (if row then (if there then stored_b else first) else (if slice then first else contexts_b))
contexts_if true true slice sa sb ca cb first s c = s refl refl
contexts_if true false slice sa sb ca cb first s c = refl
contexts_if false there true sa sb ca cb first s c = refl
contexts_if false there false sa sb ca cb first s c = c refl refl

contexts_same : (picture : PictureShape) (segment : SegmentShape) (address : ℕ) (a b : Between)
    → Agree picture segment address a b
    → contexts_before picture segment address a ≡ contexts_before picture segment address b
unfolding contexts_before
contexts_same picture segment address a b h =
    contexts_if (begins_row picture address) (has_stored picture segment address) (begins_slice segment address)
    a.stored b.stored a.contexts b.contexts segment.contexts h.stored h.contexts

qp_if : (row slice : Bool) (qp last_a last_b : ℕ) → (row ≡ false → slice ≡ false → last_a ≡ last_b)
    → (if row || slice then qp else last_a) ≡ (if row || slice then qp else last_b)
qp_if true slice qp la lb same = refl
qp_if false true qp la lb same = refl
qp_if false false qp la lb same = same refl refl

qp_same : (picture : PictureShape) (segment : SegmentShape) (address : ℕ) (a b : Between)
    → Agree picture segment address a b → qp_before picture segment address a ≡ qp_before picture segment address b
unfolding qp_before
qp_same picture segment address a b h =
    qp_if (begins_row picture address) (begins_slice segment address) segment.qp a.last b.last h.last

restarted_same : (contexts_a contexts_b : List ℕ) (last_a last_b : ℕ) (a b : Between) (engine : Option Engine)
    → contexts_a ≡ contexts_b → last_a ≡ last_b
    → IsSameStart a b (restarted contexts_a last_a a engine) (restarted contexts_b last_b b engine)
restarted_same contexts_a contexts_b last_a last_b a b None e f = refl
restarted_same contexts_a contexts_b last_a last_b a b (Some engine) e f =
    record { engine = refl; contexts = e; last = f; units_a = refl; units_b = refl }

either : (anew : Bool) (a b : Between) (start_a start_b : Result Between Breach)
    → (anew ≡ false → StartsSame a b a b) → IsSameStart a b start_a start_b
    → IsSameStart a b (if anew then start_a else Ok a) (if anew then start_b else Ok b)
either true a b start_a start_b on restart = restart
either false a b start_a start_b on restart = on refl

-- a unit that begins no substream begins neither a row of its own nor a slice
neither : (first row dependent : Bool) → first || row ≡ false → (row ≡ false) × ((first && not dependent) ≡ false)
neither true row dependent e = absurd cc
neither false true dependent e = absurd cc
neither false false dependent e = (refl, refl)

pub starts_same : (picture : PictureShape) (segment : SegmentShape) (address : ℕ) (a b : Between)
    → Agree picture segment address a b
    → IsSameStart a b (before_unit picture segment address a) (before_unit picture segment address b)
unfolding before_unit
starts_same picture segment address a b h =
    either (begins_substream picture segment address) a b
    (restarted (contexts_before picture segment address a) (qp_before picture segment address a) a
    (start_at (bits (get_or segment.substreams (substream_of picture segment address) []))))
    (restarted (contexts_before picture segment address b) (qp_before picture segment address b) b
    (start_at (bits (get_or segment.substreams (substream_of picture segment address) []))))
    (λ e.
    let n = neither _ _ segment.dependent e in
    record {
      engine = h.engine e;
      contexts = h.contexts n.0 n.1;
      last = h.last n.0 n.1;
      units_a = refl;
      units_b = refl;
    })
    (restarted_same _ _ _ _ a b _ (contexts_same picture segment address a b h) (qp_same picture segment address a b h))
