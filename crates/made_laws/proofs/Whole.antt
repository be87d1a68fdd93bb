-- A whole made stream: its units, its plan, and the order in which its pictures go out.
use Rattle.std.proofs.Common.{◌≡◌, ℕ, true, length, [], map, ap, ◌∙◌, None, sym}
use Rattle.std.specs.List.{range_with_len}
use Rattle.std.proofs.lemmas.List.FromFn.{length-map-range_with_len}
use Rattle.spec_nal_units.specs.ByteStream.{IsSplitInto}
use Rattle.spec_nal_units.specs.Judged.{Whole, told_of}
use Rattle.spec_nal_units.specs.Units.{Raw}
use Rattle.spec_picture_plan.specs.Pictures.{beginning}
use Rattle.spec_picture_plan.specs.Planned.{planned_from, planned_of}
use Rattle.spec_made.specs.Stream.{made, start_of}
use Rattle.made_laws.specs.Outputs.{output_numbers, outputs_from, shown_at}
use Rattle.made_laws.specs.Streams.{bytes_of, last_out, made_plans, made_units, plan_of}
use Rattle.made_laws.proofs.Framing.{made_split, made_told}
use Rattle.made_laws.proofs.Lists.{plans_are, units_are}
use Rattle.made_laws.proofs.Order.{made_order}
use Rattle.made_laws.proofs.Pictures.{made_planned}

pub split_is : (seed n : ℕ) → IsSplitInto (made seed n) (map bytes_of (made_units seed n))
split_is seed n = made_split seed n ∙ ap (λ l. map Raw (map bytes_of l)) (units_are seed n)

pub told_is : (seed n : ℕ) → told_of true (made seed n) ≡ map Whole (made_units seed n)
told_is seed n = made_told seed n ∙ ap (map Whole) (units_are seed n)

pub plan_is : (seed n : ℕ) → planned_of true (made seed n)
    ≡ record { pictures = made_plans seed n; last = last_out n; stop = None }
unfolding planned_of
plan_is seed n =
    ap (planned_from true beginning) (made_told seed n) ∙ made_planned seed n
    ∙ ap (λ l. record { pictures = l; last = last_out n; stop = None }) (plans_are seed n)

pub plans_count : (seed n : ℕ) → length (made_plans seed n) ≡ n
plans_count seed n = length-map-range_with_len (plan_of seed) 0 n

pub order_is : (seed n : ℕ) → output_numbers (planned_of true (made seed n)) ≡ map (shown_at n) (range_with_len 0 n)
order_is seed n =
    ap output_numbers (plan_is seed n)
    ∙ ap (λ l. outputs_from 0 [] l (last_out n)) (sym (plans_are seed n))
    ∙ made_order n (start_of seed)
