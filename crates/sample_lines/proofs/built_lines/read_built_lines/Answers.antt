use Rattle.std.proofs.Common.{ℕ, ◌≡◌, ◌+◌, ◌-◌, ◌*◌, ◌<◌, ◌∙◌, arith, ap, sym, subst, inl, inr, get_or}
use Rattle.std.proofs.lemmas.Bool.{cases_lt}
use Rattle.hv_base.specs.declared.line.Phase.TheVariants.{B}
use Rattle.sample_words.specs.declared.sizes.FlightSizes.{FlightSizes}
use Rattle.sample_words.specs.Contents.{component_side}
use Rattle.sample_words.specs.Sizes.{columns, ctb_size}
use Rattle.sample_words.specs.Words.{line_number}
use Rattle.progress_words.specs.declared.view.View.{View}
use Rattle.progress_words.specs.Views.{seen_of}
use Rattle.line_words.proofs.Words.{knows_as_much}
use Rattle.flight_facts.specs.declared.flight_facts.FlightFacts.{FlightFacts}
use Rattle.flight_facts.specs.Facts.{flight_in}
use Rattle.flight_facts.specs.Flights.{samples_at}
use Rattle.sample_lines.proofs.Columns.{unit_covers, units_cover}
use Rattle.sample_lines.proofs.built_lines.read_built_lines.Goals as goal

pub loop-column-preserved : goal.loop-column-preserved
loop-column-preserved c =
    let s = c.args.layout.now in
    let n = c.args.c in
    let l = c.args.line in
    let k = c.loop-column.column in
    let i = c.loop-column.invariant in
    let f = flight_in c.args.board.now.flight in
    let new = c.lay_unit.new.out in
    let left : ℕ = component_side n (k * ctb_size s) in
    let stride : c.component_side-stride.result ≡ component_side n s.width =
    c.component_side-stride.ensures.value ∙ ap (λ (t : FlightSizes). component_side n t.width) c.sizes.ensures.value in
    record {
      count = c.lay_unit.ensures.count ∙ i.count;
      knows = knows_as_much c.args.pass.now c.loop-column.pass c.lay_unit.new.pass i.knows c.lay_unit.ensures.same;
      told = λ x y inside less line.
          let place : component_side n s.width * y + x ≡ c.component_side-stride.result * y + x =
          ap (λ (w : ℕ). w * y + x) (sym stride) in
          ap (λ (w : ℕ). get_or new w 0) place
          ∙ elim (cases_lt x left) [
            | inl lt ↦
                c.lay_unit.ensures.kept x y lt
                ∙ (ap (λ (w : ℕ). get_or c.loop-column.out w 0) (sym place) ∙ i.told x y inside lt line)
            | inr le ↦
                let z : ℕ = x - left in
                let is : left + z ≡ x = omega (arith, le) in
                let column = unit_covers s n k x c.sizes.ensures.in_range le less inside in
                ap (λ (w : ℕ). get_or new (c.component_side-stride.result * y + w) 0) (sym is)
                ∙ (c.lay_unit.ensures.value z y column line
                ∙ ap (λ (w : ℕ). samples_at f l.picture B n w
                (component_side n (l.row * ctb_size s) + (c.args.first + y))) is)
          ];
    }

pub lay_unit-requires-clause-room : goal.lay_unit-requires-clause-room
lay_unit-requires-clause-room c =
    let stride =
    c.component_side-stride.ensures.value
    ∙ ap (λ (t : FlightSizes). component_side c.args.c t.width) c.sizes.ensures.value in
    c.loop-column.invariant.count ∙ (c.requires.room ∙ ap (λ (w : ℕ). w * c.args.lines) (sym stride))

pub lay_unit-requires-clause-seen : goal.lay_unit-requires-clause-seen
lay_unit-requires-clause-seen c =
    let told = c.requires.seen in
    let count = c.columns-columns.ensures.value in
    subst (λ (v : View FlightFacts). c.loop-column.column < seen_of v (line_number c.args.layout.now c.args.line))
    (sym c.loop-column.invariant.knows.1)
    (omega (arith, told, c.loop-column-test.true, count))

pub returns-clause-value : goal.returns-clause-value
returns-clause-value c = λ x y inside line.
    let s = c.args.layout.now in
    let cover = units_cover s c.args.c in
    let is = c.columns-columns.ensures.value in
    let all : columns s ≡ c.loop-column.column =
    omega (arith, c.loop-column-test.false, c.loop-column.auto.column-end, is) in
    let less : x < component_side c.args.c (columns s * ctb_size s) = omega (arith, inside, cover) in
    let top : ℕ = component_side c.args.c (c.args.line.row * ctb_size s) in
    let place : top + (c.args.first + y) ≡ top + c.args.first + y = omega arith in
    c.loop-column.invariant.told x y inside
    (subst (λ (n : ℕ). x < component_side c.args.c (n * ctb_size s)) all less) line
    ∙ ap (samples_at (flight_in c.args.board.now.flight) c.args.line.picture B c.args.c x) place
