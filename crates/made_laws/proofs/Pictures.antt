-- The pictures of a made stream, one after the other.
use Rattle.std.proofs.Common.{◌≡◌, ℕ, zero, suc, ◌+◌, ◌*◌, ◌%◌, ◌<◌, true, false, List, [], ◌∷◌, ◌++◌, map}
use Rattle.std.proofs.Common.{cond, None, refl, sym, ap, subst, ◌∙◌, arith}
use Rattle.std.specs.Prelude.{◌==◌}
use Rattle.std.proofs.lemmas.Bool.Decides.{nat_tests}
use Rattle.std.proofs.lemmas.List.{append-nil}
use Rattle.plan_types.specs.declared.between.Between.{Between}
use Rattle.plan_types.specs.declared.picture_plan.PicturePlan.{PicturePlan}
use Rattle.spec_nal_units.specs.Judged.{Told, Whole}
use Rattle.spec_output_order.specs.OutputOrder.{last_outputs}
use Rattle.spec_picture_plan.specs.Pictures.{beginning}
use Rattle.spec_picture_plan.specs.Planned.{Planned, at_end, behind_closed, planned_from, planned_next}
use Rattle.spec_picture_plan.specs.Steps.{Stepped, close, put_pps, step}
use Rattle.made_laws.specs.Sets.{made_pps}
use Rattle.spec_made.specs.Stream.{Making, picture_made, start_of}
use Rattle.made_laws.proofs.Lists.{listed_plans, listed_units, plans_from}
use Rattle.made_laws.specs.Streams.{hash_numbered, hashes_at, last_out, number_of, plan_at}
use Rattle.made_laws.proofs.Lists.{units_from}
use Rattle.made_laws.proofs.Computed.{plans_computed}
use Rattle.made_laws.proofs.Facts.{Facts, facts_first, facts_later}
use Rattle.made_laws.specs.Formers.{former_at}
use Rattle.made_laws.proofs.Steps.{close_opened, closed_to, opened, plan_by, ready, ready_first, slice_unit}
use Rattle.made_laws.proofs.Steps.{step_hash}
use Rattle.made_laws.proofs.Steps.{between_sets, step_pps, step_slice, step_sps}
use Rattle.made_laws.specs.Streams.{slice_in}

-- the facts of the picture of a number
pub facts_at : (j : ℕ) → Facts (j == 0) (j % 8)
facts_at zero = facts_first
facts_at (suc j) =
    let no : (suc j == 0) ≡ false = grind (arith, nat_tests) in
    subst (λ first. Facts first (suc j % 8)) (sym no) (facts_later (suc j))

-- before the picture of a number
abbrev ready_at : ℕ → Between
ready_at j = ready (j == 0) (j % 8)

ready_next : (j : ℕ) → ready false ((j % 8 + 1) % 8) ≡ ready_at (j + 1)
ready_next j =
    let no : false ≡ (j + 1 == 0) = grind (arith, nat_tests) in
    let next : (j % 8 + 1) % 8 ≡ (j + 1) % 8 = omega arith in
    ap (λ first. ready first ((j % 8 + 1) % 8)) no ∙ ap (ready (j + 1 == 0)) next

-- what is planned of the units from one picture on, where the open picture closes so
abbrev planned_so : List PicturePlan → ℕ → ℕ → Making → Planned
planned_so closed j n m = record {
  pictures = closed ++ plans_from j n m;
  last = last_outputs (former_at (j + n == 0) ((j + n) % 8)).dpb;
  stop = None;
}

ended : (s : Between) (closed : List PicturePlan) (j : ℕ) (m : Making) → close s ≡ closed_to closed (ready_at j)
    → planned_from true s (map Whole (units_from j 0 m)) ≡ planned_so closed j 0 m
unfolding units_from plans_from
ended s closed j m closes =
    let e : j ≡ j + 0 = omega arith in
    ap at_end closes
    ∙ ap (λ (k : ℕ). record {
      pictures = closed;
      last = last_outputs (former_at (k == 0) (k % 8)).dpb;
      stop = None;
    }) e
    ∙ ap (λ l. record {
      pictures = l;
      last = last_outputs (former_at (j + 0 == 0) ((j + 0) % 8)).dpb;
      stop = None;
    }) (sym (append-nil closed))

more : (s : Between) (ts : List Told) (t u : Told) (closed : List PicturePlan) (next last : Between)
    → step s t ≡ closed_to closed next → step next u ≡ closed_to [] last
    → planned_from true s (t ∷ u ∷ ts) ≡ behind_closed closed (planned_from true last ts)
more s ts t u closed next last first second =
    ap (λ (c : Stepped). behind_closed c.closed (planned_next c.next (λ n. planned_from true n (u ∷ ts)))) first
    ∙ ap (λ (c : Stepped). behind_closed closed (behind_closed c.closed
    (planned_next c.next (λ n. planned_from true n ts)))) second

planned : (n j : ℕ) (m : Making) (s : Between) (closed : List PicturePlan) → close s ≡ closed_to closed (ready_at j)
    → planned_from true s (map Whole (units_from j n m)) ≡ planned_so closed j n m
unfolding units_from plans_from slice_in
planned zero j m s closed closes = ended s closed j m closes
planned (suc n) j m s closed closes =
    let g : ℕ = j % 8 in
    let nal : ℕ = number_of (2 + 2 * j) in
    let later : Making = (picture_made g m).1 in
    let p : PicturePlan = plan_at j g m in
    let next : Between = opened (j == 0) g (plan_by (j == 0) g nal m []) in
    let last : Between = opened (j == 0) g p in
    let f = facts_at j in
    let then = close_opened (j == 0) g nal m (hashes_at j g m) f ∙ ap (closed_to (p ∷ [])) (ready_next j) in
    let e : j + 1 + n ≡ j + suc n = omega arith in
    more s (map Whole (units_from (j + 1) n later)) (Whole (slice_unit nal g m)) (Whole (hash_numbered j g m)) closed
    next last (step_slice s closed (j == 0) g nal m f closes) (step_hash (j == 0) g nal j m)
    ∙ ap (behind_closed closed) (planned n (j + 1) later last (p ∷ []) then)
    ∙ ap (λ (k : ℕ). record {
      pictures = closed ++ (p ∷ plans_from (j + 1) n later);
      last = last_outputs (former_at (k == 0) (k % 8)).dpb;
      stop = None;
    }) e

-- ---- what goes out at the end

last_by : (g : ℕ) → g < 8 → last_outputs (former_at false ((g + 1) % 8)).dpb ≡ cond (g == 0) (0 ∷ []) (1 ∷ [])
unfolding plans_computed
last_by zero h = refl
last_by (suc zero) h = refl
last_by (suc (suc zero)) h = refl
last_by (suc (suc (suc zero))) h = refl
last_by (suc (suc (suc (suc zero)))) h = refl
last_by (suc (suc (suc (suc (suc zero))))) h = refl
last_by (suc (suc (suc (suc (suc (suc zero)))))) h = refl
last_by (suc (suc (suc (suc (suc (suc (suc zero))))))) h = refl
last_by (suc (suc (suc (suc (suc (suc (suc (suc g)))))))) h = absurd (omega arith)

last_is : (n : ℕ) → last_outputs (former_at (0 + n == 0) ((0 + n) % 8)).dpb ≡ last_out n
unfolding plans_computed
last_is zero = refl
last_is (suc n) =
    let no : (0 + suc n == 0) ≡ false = grind (arith, nat_tests) in
    let next : (0 + suc n) % 8 ≡ (n % 8 + 1) % 8 = omega arith in
    ap (λ first. last_outputs (former_at first ((0 + suc n) % 8)).dpb) no
    ∙ ap (λ g. last_outputs (former_at false g).dpb) next
    ∙ last_by (n % 8) (omega arith)

-- ---- the whole stream

close_ready : close (ready true 0) ≡ closed_to [] (ready_at 0)
unfolding close
close_ready = refl

pub made_planned : (seed n : ℕ) → planned_from true beginning (map Whole (listed_units seed n))
    ≡ record { pictures = listed_plans seed n; last = last_out n; stop = None }
made_planned seed n =
    let units : List Told = map Whole (units_from 0 n (start_of seed)) in
    more beginning units _ _ [] between_sets (put_pps between_sets made_pps) step_sps step_pps
    ∙ ap (λ s. behind_closed [] (planned_from true s units)) ready_first
    ∙ ap (behind_closed []) (planned n 0 (start_of seed) (ready true 0) [] close_ready)
    ∙ ap (λ l. record { pictures = listed_plans seed n; last = l; stop = None }) (last_is n)
