-- One unit of a made stream after the other, as it is planned.
use Rattle.std.proofs.Common.{◌≡◌, ℕ, ◌+◌, ◌*◌, ◌%◌, Bool, true, false, List, [], ◌∷◌, ◌++◌}
use Rattle.std.proofs.Common.{cond, Option, Some, None, Result, Ok, Err, refl, ap}
use Rattle.std.proofs.Common.{◌∙◌}
use Rattle.std.specs.Prelude.{is_none, nat_le, not, ◌&&◌}
use Rattle.hv_base.specs.declared.breach.Breach.{Breach}
use Rattle.hv_base.specs.declared.breach.Breach.TheVariants as breach
use Rattle.hv_base.specs.declared.fault.Fault.{Fault}
use Rattle.hv_base.specs.declared.fault.FaultKind.TheVariants as rule
use Rattle.hv_base.specs.declared.limit.LimitKind.TheVariants as bound
use Rattle.plan_types.specs.declared.between.Between.{Between}
use Rattle.plan_types.specs.declared.picture_plan.PicturePlan.{PicturePlan}
use Rattle.plan_types.specs.declared.stated_hash.StatedHash.{StatedHash}
use Rattle.slice_types.specs.declared.slice.SliceHeaderFields.{SliceHeaderFields}
use Rattle.slice_types.specs.declared.slice.SliceType.{SliceType}
use Rattle.slice_types.specs.declared.slice.SliceType.TheVariants as slice
use Rattle.md5.specs.Md5.{md5}
use Rattle.md5.proofs.StandardFacts.{length-md5}
use Rattle.spec_bits.specs.Bits.{bits}
use Rattle.spec_nal_units.specs.Judged.{NalUnit, Whole}
use Rattle.spec_stated_hashes.specs.StatedHashes.{stated_hashes}
use Rattle.spec_stated_hashes.proofs.Written.{stated_first}
use Rattle.spec_written_headers.specs.Codes.{Code, bits_of, spelled}
use Rattle.spec_picture_plan.specs.Closing.{broken_at_closing, broken_in, full_at, or_later}
use Rattle.spec_picture_plan.specs.Steps.{Stepped, behind_read, begun, close, closed_by, closing, context_of}
use Rattle.spec_picture_plan.specs.Steps.{first_flag, goes_on, informed, judged_header, kind_step, opened_by, opening}
use Rattle.spec_picture_plan.specs.Steps.{put_pps, put_sps, slice_judged, slice_step, stated_in, step, then_next}
use Rattle.spec_picture_plan.specs.Steps.{unit_step}
use Rattle.spec_picture_plan.specs.Pictures.{beginning}
use Rattle.spec_picture_plan.specs.UnitKinds.{is_rasl, kind_of_type}
use Rattle.spec_slice_headers.specs.SegmentHeader.{slice_header_of}
use Rattle.spec_made.specs.declared.units.Shift.{Shift}
use Rattle.spec_made.specs.Headers.{entries_of, header_bytes, idr_codes, inter_codes, picture_payload, rows_of}
use Rattle.spec_made.specs.Headers.{sequence_payload}
use Rattle.spec_made.specs.Planes.{Planes}
use Rattle.spec_made.specs.Stream.{Making}
use Rattle.made_laws.specs.Sets.{made_pps, made_sets, made_sps}
use Rattle.made_laws.specs.Headers.{made_header, order_at, type_at}
use Rattle.made_laws.specs.Plans.{made_plan}
use Rattle.made_laws.specs.Streams.{hash_numbered, hash_payload, hashes_at, number_of, picture_at, slice_at, slice_in}
use Rattle.made_laws.specs.Streams.{unit_numbered}
use Rattle.made_laws.proofs.Computed.{plans_computed}
use Rattle.made_laws.proofs.Drawn.{codes_are, second_shift}
use Rattle.made_laws.proofs.Facts.{Facts, nal_type_at, unit_with}
use Rattle.made_laws.proofs.Codes.{codes_of}
use Rattle.made_laws.specs.Formers.{former_at}
use Rattle.made_laws.proofs.Sets.{picture_set, sequence_set}
use Rattle.made_laws.proofs.Slices.{header_is}
use Rattle.made_laws.proofs.Units.{rows_fit}
use Rattle.made_laws.proofs.Written.{header_bits}

-- ---- its first bit

first_of : (type : SliceType) (s : Shift) (poc : ℕ) (offsets : List ℕ) (tail : List Bool)
    → first_flag (spelled (codes_of type s poc offsets) tail) ≡ Some true
unfolding idr_codes inter_codes spelled bits_of
first_of slice.I s poc offsets tail = refl
first_of slice.P s poc offsets tail = refl
first_of slice.B s poc offsets tail = refl

first_is : (g : ℕ) (m : Making) → first_flag (bits (slice_at g m).payload) ≡ Some true
unfolding slice_in
first_is g m =
    let row : ℕ → List ℕ = (picture_at g m).row in
    let codes : List Code = codes_of (type_at g) (second_shift m) (order_at g) (entries_of row) in
    ap (λ k. first_flag (bits (header_bytes k ++ rows_of row 6))) (codes_are g m (entries_of row))
    ∙ ap first_flag (header_bits codes (rows_of row 6))
    ∙ first_of (type_at g) (second_shift m) (order_at g) (entries_of row) _

-- ---- a picture is opened

-- the unit of a picture's slice
abbrev pub slice_unit : ℕ → ℕ → Making → NalUnit
slice_unit nal g m = unit_with nal (nal_type_at g) (slice_at g m)

-- the plan of a picture of which these hashes are stated
abbrev pub plan_by : Bool → ℕ → ℕ → Making → List StatedHash → PicturePlan
plan_by first g nal m hashes = made_plan first g nal (slice_at g m) hashes

-- before a picture is opened, and behind that
abbrev pub ready : Bool → ℕ → Between
ready first g =
    record { sets = made_sets; former = former_at first g; drops_rasl = not first; picture = None }

abbrev pub opened : Bool → ℕ → PicturePlan → Between
opened first g p =
    record { sets = made_sets; former = former_at first g; drops_rasl = true; picture = Some p }

judged_by : (flag : Option Bool) (begins : Bool) (r : Result SliceHeaderFields Breach) → flag ≡ Some true
    → begins ≡ false
    → cond {A = Result SliceHeaderFields Breach} (is_none flag) (Err (breach.Fault rule.HeaderSyntax))
    (cond {A = Result SliceHeaderFields Breach} begins (Err (breach.Fault rule.FirstPicture))
    (cond {A = Result SliceHeaderFields Breach} (nat_le 4096 0) (Err (breach.Limit bound.Segments)) r))
    ≡ r
judged_by flag begins r e f = rw (e, f) refl

judged_is : (first : Bool) (g nal : ℕ) (m : Making) → Facts first g
    → judged_header made_sets (former_at first g) [] (slice_unit nal g m)
    ≡ Ok (made_header (type_at g) (order_at g) nal (slice_at g m).entry_points (slice_at g m).data_place)
unfolding judged_header
judged_is first g nal m f =
    judged_by _ _ (slice_header_of (context_of made_sets (former_at first g) [] (slice_unit nal g m))
    (slice_at g m).payload) (first_is g m) f.begins
    ∙ header_is first g nal m f

opening_is : (first : Bool) (g nal : ℕ) (m : Making) → Facts first g
    → opening made_sets (former_at first g) (slice_unit nal g m) ≡ Ok (plan_by first g nal m [])
unfolding opening
opening_is first g nal m f =
    ap (opened_by made_sets (former_at first g) (slice_unit nal g m)) (judged_is first g nal m f)
    ∙ f.plan nal (slice_at g m)

judged_open : (first : Bool) (g nal : ℕ) (m : Making) → Facts first g
    → slice_judged (slice_unit nal g m) (ready first g) ≡ Ok (opened first g (plan_by first g nal m []))
unfolding slice_judged
judged_open first g nal m f =
    ap (λ r. behind_read nal r (begun (ready first g))) (opening_is first g nal m f)
    ∙ ap (λ d. Ok (record (opened first g (plan_by first g nal m [])) { drops_rasl = d })) (f.drops nal (slice_at g m))

-- ---- an open picture closes

none_of : (test : Bool) (f : Option Fault) → test ≡ true
    → or_later (cond {A = Option Fault} (not test) f None) None ≡ None
none_of test f e = rw e refl

broken_none : (first : Bool) (g nal : ℕ) (m : Making) (hashes : List StatedHash)
    → broken_in (plan_by first g nal m hashes) ≡ None
unfolding plans_computed slice_in
broken_none first g nal m hashes = none_of _ _ (rows_fit g m)

closing_none : (first : Bool) (g nal : ℕ) (m : Making) (hashes : List StatedHash) → Facts first g
    → broken_at_closing (plan_by first g nal m hashes) ≡ None
closing_none first g nal m hashes f =
    ap (λ b. or_later b (full_at (plan_by first g nal m hashes))) (broken_none first g nal m hashes)
    ∙ f.room nal (slice_at g m) hashes

-- what closes, and what is known behind it
abbrev pub closed_to : List PicturePlan → Between → Stepped
closed_to closed s = record { closed = closed; next = Ok s }

pub close_opened : (first : Bool) (g nal : ℕ) (m : Making) (hashes : List StatedHash) → Facts first g
    → close (opened first g (plan_by first g nal m hashes))
    ≡ closed_to (plan_by first g nal m hashes ∷ []) (ready false ((g + 1) % 8))
unfolding close
close_opened first g nal m hashes f =
    let p : PicturePlan = plan_by first g nal m hashes in
    ap (closed_by (opened first g p) p) (closing_none first g nal m hashes f)
    ∙ ap (λ former. closed_to (p ∷ [])
    (record { sets = made_sets; former = former; drops_rasl = true; picture = None }))
    (f.former nal (slice_at g m) hashes)

-- ---- a slice

slice_by : (s : Between) (rasl : Bool) (flag : Option Bool) (x y z : Stepped) → rasl ≡ false → flag ≡ Some true
    → cond {A = Stepped} (rasl && s.drops_rasl) x (cond {A = Stepped} (goes_on flag) y z) ≡ z
slice_by s rasl flag x y z e f = rw (e, f) refl

pub step_slice : (s : Between) (closed : List PicturePlan) (first : Bool) (g nal : ℕ) (m : Making) → Facts first g
    → close s ≡ closed_to closed (ready first g)
    → step s (Whole (slice_unit nal g m)) ≡ closed_to closed (opened first g (plan_by first g nal m []))
unfolding step unit_step slice_step
step_slice s closed first g nal m f closes =
    let u : NalUnit = slice_unit nal g m in
    ap (kind_step s u) f.kind
    ∙ slice_by s (is_rasl (nal_type_at g)) (first_flag (bits (slice_at g m).payload)) (close s)
    (record { closed = []; next = slice_judged u s }) (closing s (slice_judged u)) f.no_rasl (first_is g m)
    ∙ ap (λ (c : Stepped). then_next c.closed c.next (slice_judged u)) closes
    ∙ ap (λ n. record { closed = closed; next = n }) (judged_open first g nal m f)

-- ---- hashes

stated_is : (p : Planes) → stated_hashes (hash_payload p) ≡ Some (md5 p.luma ∷ md5 p.cb ∷ md5 p.cr ∷ [])
unfolding hash_payload
stated_is p =
    stated_first (md5 p.luma) (md5 p.cb) (md5 p.cr) (128 ∷ []) (length-md5 p.luma) (length-md5 p.cb) (length-md5 p.cr)

suffix_step : (s : Between) (u : NalUnit) → u.layer ≡ 0 → u.nal_type ≡ 40
    → step s (Whole u) ≡ closed_to [] (informed s u)
unfolding step unit_step kind_of_type
suffix_step s u e f = rw (e, f) refl

informed_is : (first : Bool) (g nal j : ℕ) (m : Making)
    → informed (opened first g (plan_by first g nal m [])) (hash_numbered j g m)
    ≡ opened first g (plan_by first g nal m (hashes_at j g m))
unfolding made_plan
informed_is first g nal j m =
    ap (λ o. opened first g (plan_by first g nal m (stated_in (number_of (3 + 2 * j)) o)))
    (stated_is (picture_at g m).planes)

pub step_hash : (first : Bool) (g nal j : ℕ) (m : Making)
    → step (opened first g (plan_by first g nal m [])) (Whole (hash_numbered j g m))
    ≡ closed_to [] (opened first g (plan_by first g nal m (hashes_at j g m)))
step_hash first g nal j m =
    suffix_step (opened first g (plan_by first g nal m [])) (hash_numbered j g m) refl refl
    ∙ ap (closed_to []) (informed_is first g nal j m)

-- ---- both parameter sets

pub between_sets : Between
between_sets = put_sps beginning made_sps

pub step_sps : step beginning (Whole (unit_numbered 0 33 sequence_payload)) ≡ closed_to [] between_sets
unfolding step unit_step kind_of_type close beginning between_sets
step_sps = ap (λ r. record { closed = []; next = behind_read 0 r (put_sps beginning) }) sequence_set

pub step_pps : step between_sets (Whole (unit_numbered 1 34 picture_payload))
    ≡ closed_to [] (put_pps between_sets made_pps)
unfolding step unit_step kind_of_type close beginning between_sets
step_pps = ap (λ r. record { closed = []; next = behind_read 1 r (put_pps between_sets) }) picture_set

pub ready_first : put_pps between_sets made_pps ≡ ready true 0
unfolding beginning between_sets made_sps made_pps
ready_first = refl
