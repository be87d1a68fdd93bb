-- Where accepted slice segments begin, and which parameter sets they name.
use Rattle.std.proofs.Common.{◌≡◌, ◌∙◌, ℕ, ◌<◌, Bool, true, false, ◌||◌, ◌==◌, List, [], ◌∷◌, Option, Some, None}
use Rattle.std.proofs.Common.{Result, Ok, refl, sym, ap, subst, arith}
use Rattle.std.specs.Prelude.{nat_lt, slice_get}
use Rattle.std.proofs.lemmas.Bool.{and_parts, ltb-true}
use Rattle.hv_base.specs.declared.breach.Breach.{Breach}
use Rattle.hv_base.specs.declared.field_rules.FieldRules.{FieldRules}
use Rattle.hv_base.specs.declared.field_rules.TheConstants.{SLICE_HEADER_RULES}
use Rattle.header_types.specs.declared.former.Sets.{Sets}
use Rattle.header_types.specs.declared.former.Former.{Former}
use Rattle.slice_types.specs.declared.slice.SegmentFields.{SegmentFields}
use Rattle.slice_types.specs.declared.slice.SliceHeaderFields.{SliceHeaderFields}
use Rattle.header_types.specs.SequenceParameterSets.{size_in_ctbs}
use Rattle.spec_bits.specs.Bits.{bits, flag_at}
use Rattle.header_laws.specs.SpecNalUnits.{NalUnit}
use Rattle.spec_formats.specs.Format.{Format, Give, Refuse, One, Then, when◌then◌else◌}
use Rattle.spec_formats.specs.Fields.{Field, U, Flag, Ue, Se, UeTo, SeWithin, Within, FieldValue, field_at, give}
use Rattle.spec_formats.specs.Fields.{read}
use Rattle.spec_formats.proofs.Agreement.{bind_ok}
use Rattle.spec_formats.proofs.Values.{CanBe, can_be}
use Rattle.header_laws.specs.SpecSliceHeaders.{Context, agrees, first_of, header_of, last_address}
use Rattle.header_laws.specs.SpecSliceHeaders.{Named, named_by}
use Rattle.header_laws.specs.SpecSliceHeaders.{slice_header_of, slice_segment_header}
use Rattle.header_laws.specs.SpecSliceHeaders.{front, is_above, later_place, place}
use Rattle.spec_picture_plan.specs.Steps.{context_of, first_flag}
use Rattle.header_laws.proofs.NamedSets.{are_named}
use Rattle.header_laws.proofs.Headers.{place_id, read_from}
use Rattle.header_laws.proofs.Values.{wanted_is}

abbrev R : FieldRules
R = SLICE_HEADER_RULES

-- ---- a format whose first question is a flag, once the flag is known

abbrev BeginsWithFlag : {X : Type 0} → Format Field FieldValue X → Type 0
BeginsWithFlag (One Flag) = Unit {0}
BeginsWithFlag (Then m f) = BeginsWithFlag m
BeginsWithFlag other = ⊥

abbrev behind_flag : {X : Type 0} → Bool → Format Field FieldValue X → Format Field FieldValue X
behind_flag b (Give x) = Give x
behind_flag b (Refuse e) = Refuse e
behind_flag b (One Flag) = Give b
behind_flag b (One (U n)) = One (U n)
behind_flag b (One Ue) = One Ue
behind_flag b (One Se) = One Se
behind_flag b (One (UeTo n)) = One (UeTo n)
behind_flag b (One (SeWithin low high)) = One (SeWithin low high)
behind_flag b (One (Within fact)) = One (Within fact)
behind_flag b (Then m f) = Then (behind_flag b m) f

ok_value : (y x : Bool × List Bool) → ◌≡◌ {A = Result (Bool × List Bool) Breach} (Ok y) (Ok x) → y.0 ≡ x.0
ok_value y x e = let same : y ≡ x = cc in ap (λ (p : Bool × List Bool). p.0) same

flag_is : (b x : Bool) (bs t : List Bool) → field_at R Flag (b ∷ bs) ≡ Ok (x, t) → b ≡ x
unfolding field_at flag_at
flag_is b x bs t e = ok_value (b, bs) (x, t) e

-- a value that is read behind a flag is one that the format can have behind it
fed : {X : Type 0} (format : Format Field FieldValue X) → BeginsWithFlag format
    → (b : Bool) (bs t : List Bool) (x : X) → read R format (b ∷ bs) ≡ Ok (x, t) → CanBe (behind_flag b format) x
fed (Give y) begins b bs t x e = absurd begins
fed (Refuse f) begins b bs t x e = absurd begins
fed (One Flag) begins b bs t x e = flag_is b x bs t e
fed (One (U n)) begins b bs t x e = absurd begins
fed (One Ue) begins b bs t x e = absurd begins
fed (One Se) begins b bs t x e = absurd begins
fed (One (UeTo n)) begins b bs t x e = absurd begins
fed (One (SeWithin low high)) begins b bs t x e = absurd begins
fed (One (Within fact)) begins b bs t x e = absurd begins
fed (Then m f) begins b bs t x e =
    let step = bind_ok (read R m (b ∷ bs)) (λ v s. read R (f v) s) (x, t) e in (
      step.value,
      fed m begins b bs step.state step.value step.read,
      can_be R (f step.value) step.state t x step.then_read,
    )

-- ---- the picture's first segment

place_first : (first : Bool) (c : Context) (n : Named) (f s : SegmentFields) → first ≡ true
    → CanBe (when first then give f else later_place c n f) s → f ≡ s
place_first true c n f s e is = is
place_first false c n f s e is = absurd cc

or_false : (b : Bool) → (b || false) ≡ true → b ≡ true
or_false true e = refl
or_false false e = e

-- a picture's first segment begins at the first coding tree unit, and the sets that it names are accepted
pub record IsFirst (c : Context) (h : SliceHeaderFields) : Type 0 where
  pub address : h.segment.slice_segment_address ≡ 0

first_given : (sets : Sets) (former : Former) (u : NalUnit) (h : SliceHeaderFields) (at : ℕ)
    → CanBe (slice_segment_header (context_of sets former [] u)) h
    → IsFirst (context_of sets former [] u) (record (h) { data_place = at })
unfolding slice_segment_header front place
first_given sets former u h at (
  f,
  (first, a, (opened, opened-is, (unit, b, (prior, d, (output, g, (id, id-is, front-is)))))),
  (n, n-is, (segment, segment-is, (s, i, (points, j, (extension, k, e))))),
) =
    let c = context_of sets former [] u in
    let began : first ≡ true = or_false first (wanted_is (first || false) _ opened opened-is) in
    let same : f.first_slice_segment_in_pic_flag ≡ true =
    ap (λ (x : SegmentFields). x.first_slice_segment_in_pic_flag) (sym front-is) ∙ began in
    let placed : f ≡ segment = place_first f.first_slice_segment_in_pic_flag c n f segment same segment-is in
    let address : segment.slice_segment_address ≡ 0 =
    ap (λ (x : SegmentFields). x.slice_segment_address) (sym placed)
    ∙ ap (λ (x : SegmentFields). x.slice_segment_address) (sym front-is) in
    record { address = ap (λ (x : SliceHeaderFields). x.segment.slice_segment_address) (sym e) ∙ address }

pub first_is : (sets : Sets) (former : Former) (u : NalUnit) (h : SliceHeaderFields)
    → slice_header_of (context_of sets former [] u) u.payload ≡ Ok h → IsFirst (context_of sets former [] u) h
first_is sets former u h e =
    let c = context_of sets former [] u in
    let from = read_from c u.payload h e in
    subst (IsFirst c) from.3.is
    (first_given sets former u from.0 from.3.at
    (can_be R (slice_segment_header c) (bits u.payload) from.1 from.0 from.2))

-- ---- a later segment

-- a later segment begins behind the one before, inside the picture, and names the sets of the picture's first segment
pub record IsLater (c : Context) (h : SliceHeaderFields) : Type 0 where
  pub named : Named
  pub sets : named_by c.sets h.segment.slice_pic_parameter_set_id ≡ Some named
  pub same : agrees (header_of (slice_get c.segments 0))
      (λ first. first.segment.slice_pic_parameter_set_id == h.segment.slice_pic_parameter_set_id)
      ≡ true
  pub inside : h.segment.slice_segment_address < size_in_ctbs named.sps
  pub above : (before : ℕ) → last_address c.segments ≡ Some before → before < h.segment.slice_segment_address

above_by : (last : Option ℕ) (address before : ℕ) → is_above last address ≡ true → last ≡ Some before → before < address
above_by None address before h e = absurd cc
above_by (Some b) address before h e =
    let same : b ≡ before = cc in let lt : b < address = ltb-true _ _ h in omega (arith, same)

record IsLaterPlace (c : Context) (n : Named) (s : SegmentFields) : Type 0 where
  inside : s.slice_segment_address < size_in_ctbs n.sps
  above : (before : ℕ) → last_address c.segments ≡ Some before → before < s.slice_segment_address

later_place_is : (c : Context) (n : Named) (f s : SegmentFields) → CanBe (later_place c n f) s → IsLaterPlace c n s
unfolding later_place
later_place_is c n f s (dependent, a, (address, b, (fact, in_range, (order, in_order, e)))) =
    let parts = and_parts (nat_lt 0 address) (nat_lt address (size_in_ctbs n.sps)) in_range in
    rw (← e) (record {
      inside = ltb-true _ _ parts.1;
      above = λ before last. above_by (last_address c.segments) address before
          (wanted_is (is_above (last_address c.segments) address) _ order in_order) last;
    })

place_later : (first : Bool) (c : Context) (n : Named) (f s : SegmentFields) → first ≡ false
    → CanBe (when first then give f else later_place c n f) s → IsLaterPlace c n s
place_later true c n f s e is = absurd cc
place_later false c n f s e is = later_place_is c n f s is

place_later_is : (c : Context) (n : Named) (f s : SegmentFields) → f.first_slice_segment_in_pic_flag ≡ false
    → CanBe (place c n f) s → IsLaterPlace c n s
unfolding place
place_later_is c n f s e is = place_later f.first_slice_segment_in_pic_flag c n f s e is

first_of_later : (c : Context) (first : Bool) (test : SliceHeaderFields → Bool) → first ≡ false
    → agrees (first_of c first) test ≡ true → agrees (header_of (slice_get c.segments 0)) test ≡ true
first_of_later c true test e h = absurd cc
first_of_later c false test e h = h

later_given : (c : Context) (h : SliceHeaderFields) (at : ℕ) → CanBe (behind_flag false (slice_segment_header c)) h
    → IsLater c (record (h) { data_place = at })
unfolding slice_segment_header front
later_given c h at (
  f,
  (first, first-is, (opened, a, (unit, b, (prior, d, (output, g, (id, id-is, front-is)))))),
  (n, n-is, (segment, segment-is, (s, i, (points, j, (extension, k, e))))),
) =
    let same : f.first_slice_segment_in_pic_flag ≡ false =
    ap (λ (x : SegmentFields). x.first_slice_segment_in_pic_flag) (sym front-is) ∙ sym first-is in
    let named = are_named c f.first_slice_segment_in_pic_flag f.slice_pic_parameter_set_id n n-is in
    let at_place = place_later_is c n f segment same segment-is in
    let id_is : segment.slice_pic_parameter_set_id ≡ f.slice_pic_parameter_set_id = place_id c n f segment segment-is in
    rw (← e) (record {
      named = n;
      sets = ap (named_by c.sets) id_is ∙ named.sets;
      same =
          subst (λ (i : ℕ). agrees (header_of (slice_get c.segments 0))
          (λ first. first.segment.slice_pic_parameter_set_id == i)
          ≡ true)
          (sym id_is)
          (first_of_later c f.first_slice_segment_in_pic_flag
          (λ first. first.segment.slice_pic_parameter_set_id == f.slice_pic_parameter_set_id) same named.same);
      inside = at_place.inside;
      above = at_place.above;
    })

header_begins : (c : Context) → BeginsWithFlag (slice_segment_header c)
unfolding slice_segment_header front
header_begins c = tt

later_by : (c : Context) (g : SliceHeaderFields) (at : ℕ) (b t : List Bool) → first_flag b ≡ Some false
    → read R (slice_segment_header c) b ≡ Ok (g, t) → IsLater c (record (g) { data_place = at })
later_by c g at [] t flag e = absurd cc
later_by c g at (true ∷ b) t flag e = absurd cc
later_by c g at (false ∷ b) t flag e = later_given c g at (fed (slice_segment_header c) (header_begins c) false b t g e)

pub later_is : (c : Context) (payload : List ℕ) (h : SliceHeaderFields) → first_flag (bits payload) ≡ Some false
    → slice_header_of c payload ≡ Ok h → IsLater c h
later_is c payload h flag e =
    let from = read_from c payload h e in
    subst (IsLater c) from.3.is (later_by c from.0 from.3.at (bits payload) from.1 flag from.2)
