-- What a pass has seen when it has waited for some needs.
use Rattle.std.proofs.Common.{◌≡◌, ◌≢◌, ℕ, ◌+◌, ◌<◌, ◌≤◌, inl, inr, arith, refl, sym, ap, ◌∙◌, subst}
use Rattle.std.proofs.Common.{List, All, Some, length, get_or}
use Rattle.std.specs.Prelude.{slice_get}
use Rattle.std.proofs.lemmas.Bool.{cases_eq, cases_lt}
use Rattle.std.proofs.lemmas.List.Elements.{All-map}
use Rattle.std.proofs.lemmas.Option.{get_or_from_slice_get, slice_get_within}
use Rattle.hv_base.specs.declared.line.Line.{Line}
use Rattle.sample_words.specs.declared.sizes.FlightSizes.{FlightSizes}
use Rattle.sample_words.specs.Words.{lines}
use Rattle.progress_words.specs.declared.view.View.{View}
use Rattle.progress_words.specs.Core.{AreMet}
use Rattle.progress_words.specs.Meanings.{Meaning}
use Rattle.progress_words.specs.Passes.{HasLooked}
use Rattle.progress_words.specs.Views.{AllSound, loads_of, seen_of}
use Rattle.flight_lines.specs.Flights.{BoardFlight, meaning_of}
use Rattle.flight_lines.specs.Numbers.{AreOfFlight, numbered, numbered_needs}
use Rattle.flight_lines.proofs.Numbered.{number_of_words}
use Rattle.line_words.specs.Passes.{AreAllSound, AreSound, HasGone}
use Rattle.line_words.specs.Places.{HasSizes}

-- needs that are met stay met where counts are no less
pub met_stays : (m : Meaning) (count later : ℕ → ℕ) (needs : List (ℕ × ℕ)) → ((l : ℕ) → count l ≤ later l)
    → AreMet m count needs → AreMet m later needs
met_stays m count later needs more met k d inside =
    let need : ℕ × ℕ = get_or needs k d in
    let now = met k d inside in
    let enough = now.1 in
    let rises = more need.0 in
    (now.0, omega (arith, enough, rises))

-- needs of lines of the flight have numbers of its lines
pub numbers_inside : (s : FlightSizes) (needs : List (Line × ℕ)) → AreOfFlight s needs
    → All (λ need. need.0 < lines s) (numbered_needs s needs)
numbers_inside s needs all =
    All-map (λ (need : ℕ × ℕ). need.0 < lines s) (numbered s) needs
    (λ k d inside. number_of_words s (get_or needs k d).0 (all k d inside))

-- the next need is of a line of the board
pub next_line : (m : Meaning) (f : BoardFlight) → m ≡ meaning_of f → (s : FlightSizes) → HasSizes f s
    → (needs : List (Line × ℕ)) → AreOfFlight s needs → (n l count : ℕ)
    → slice_get (numbered_needs s needs) n ≡ Some (l, count) → l < m.lines
unfolding meaning_of
next_line m f meant s has needs all n l count e =
    let need : ℕ × ℕ = (l, count) in
    let named : List (ℕ × ℕ) = numbered_needs s needs in
    let inside : n < length named = slice_get_within named n need e in
    let is : get_or named n need ≡ need = get_or_from_slice_get named n need need e in
    let less : l < lines s =
    subst (λ (p : ℕ × ℕ). p.0 < lines s) is (numbers_inside s needs all n need inside) in
    let there : (meaning_of f).lines ≡ lines s = ap (λ (t : FlightSizes). lines t) has.0 in
    subst (λ (k : Meaning). l < k.lines) (sym meant) (subst (λ (k : ℕ). l < k) (sym there) less)

-- waiting for the first n of the needs has come from v to w
pub record HasCome {F : Type 0} (m : Meaning) (v : View F) (needs : List (ℕ × ℕ)) (n : ℕ) (w : View F) : Type 0 where
  pub gone : HasGone v needs w
  pub sound : AreSound m v w
  pub met : (k : ℕ) (d : ℕ × ℕ) → k < n → k < length needs
      → ((get_or needs k d).0 < m.lines) × ((get_or needs k d).1 ≤ seen_of w (get_or needs k d).0)
  pub waited : (k : ℕ) (d : ℕ × ℕ) → k < n → k < length needs
      → loads_of v (get_or needs k d).0 < loads_of w (get_or needs k d).0

-- a line is one of those that needs name
pub record IsNamed (needs : List (ℕ × ℕ)) (l : ℕ) : Type 0 where
  pub at : ℕ
  pub inside : at < length needs
  pub named : (d : ℕ × ℕ) → (get_or needs at d).0 ≡ l

is_named : (needs : List (ℕ × ℕ)) (n l count : ℕ) → slice_get needs n ≡ Some (l, count) → IsNamed needs l
is_named needs n l count has =
    record {
      at = n;
      inside = slice_get_within needs n (l, count) has;
      named = λ d. ap (λ (p : ℕ × ℕ). p.0) (get_or_from_slice_get needs n (l, count) d has);
    }

module _ {F : Type 0} where
  -- after looks at line l the counts and loads are no less
  more_seen : (w x : View F) (l j : ℕ) → HasLooked w l x → seen_of w j ≤ seen_of x j
  more_seen w x l j looked =
      elim (cases_eq j l) [
        | inl same ↦ subst (λ (k : ℕ). seen_of w k ≤ seen_of x k) (sym same) looked.more
        | inr other ↦ let e = (looked.others j other).0 in omega (arith, e)
      ]

  more_loads : (w x : View F) (l j : ℕ) → HasLooked w l x → loads_of w j ≤ loads_of x j
  more_loads w x l j looked =
      elim (cases_eq j l) [
        | inl same ↦
            let loaded = looked.loaded in
            let le : loads_of w l ≤ loads_of x l = omega (arith, loaded) in
            subst (λ (k : ℕ). loads_of w k ≤ loads_of x k) (sym same) le
        | inr other ↦ let e = (looked.others j other).1 in omega (arith, e)
      ]

  not_gone : (v : View F) (needs : List (ℕ × ℕ)) → HasGone v needs v
  not_gone v needs =
      record {
        same = refl;
        more = λ l. omega arith;
        less = omega arith;
        loaded = λ l. omega arith;
        checked = omega arith;
        still = λ l same. refl;
        others = λ l apart. (refl, refl);
      }

  -- what is seen of a line that wasn't loaded since is the same
  still_seen : (v w x : View F) (needs : List (ℕ × ℕ)) (l j : ℕ) → HasGone v needs w → HasLooked w l x
      → loads_of x j ≡ loads_of v j → seen_of x j ≡ seen_of v j
  still_seen v w x needs l j gone looked e =
      elim (cases_eq j l) [
        | inl same ↦
            let here : loads_of x l ≡ loads_of v l =
            subst (λ (k : ℕ). loads_of x k ≡ loads_of v k) same e in
            let loaded = looked.loaded in
            let before = gone.loaded l in
            absurd (omega (arith, here, loaded, before))
        | inr other ↦
            let after = looked.others j other in
            after.0 ∙ gone.still j (sym after.1 ∙ e)
      ]

  gone_on : (v w x : View F) (needs : List (ℕ × ℕ)) (l : ℕ) → HasGone v needs w → IsNamed needs l → HasLooked w l x
      → HasGone v needs x
  gone_on v w x needs l gone named looked =
      let less = looked.less in
      let less_first = gone.less in
      let checked = looked.checked in
      let checked_first = gone.checked in
      record {
        same = looked.same
            ∙ (λ i.
            record (gone.same i) { seen = x.seen; loads = x.loads; least = x.least; fault_loads = x.fault_loads });
        more = λ j. let a = gone.more j in let b = more_seen w x l j looked in omega (arith, a, b);
        less = omega (arith, less, less_first);
        loaded = λ j. let a = gone.loaded j in let b = more_loads w x l j looked in omega (arith, a, b);
        checked = omega (arith, checked, checked_first);
        still = λ j e. still_seen v w x needs l j gone looked e;
        others = λ j apart.
            let d : ℕ × ℕ = (0, 0) in
            let other : j ≢ l = λ e. apart named.at d named.inside (named.named d ∙ sym e) in
            let here = looked.others j other in
            let before = gone.others j apart in
            (here.0 ∙ before.0, here.1 ∙ before.1);
      }

  sound_on : (m : Meaning) (v w x : View F) (l : ℕ) → AreSound m v w → HasLooked w l x
      → AllSound m l (seen_of x l) → AreSound m v x
  sound_on m v w x l sound looked all j loaded =
      elim (cases_eq j l) [
        | inl same ↦ subst (λ (k : ℕ). AllSound m k (seen_of x k)) (sym same) all
        | inr other ↦
            let e = looked.others j other in
            let before : loads_of v j < loads_of w j =
            subst (λ (n : ℕ). loads_of v j < n) e.1 loaded in
            subst (λ (n : ℕ). AllSound m j n) (sym e.0) (sound j before)
      ]

  -- where all units that were seen are sound, so are those that are seen behind a wait
  pub all_sound_on : (m : Meaning) (v w : View F) (needs : List (ℕ × ℕ)) → AreAllSound m v → HasGone v needs w
      → AreSound m v w → AreAllSound m w
  all_sound_on m v w needs all gone sound l =
      elim (cases_eq (loads_of w l) (loads_of v l)) [
        | inl same ↦ subst (λ (n : ℕ). AllSound m l n) (sym (gone.still l same)) (all l)
        | inr other ↦
            let more = gone.loaded l in
            sound l (omega (arith, more, other))
      ]

  module _ (m : Meaning) (v : View F) (needs : List (ℕ × ℕ)) where
    -- before any wait
    pub starts : HasCome m v needs 0 v
    starts =
        record {
          gone = not_gone v needs;
          sound = λ l loaded. absurd (omega (arith, loaded));
          met = λ k d less. absurd (omega (arith, less));
          waited = λ k d less. absurd (omega (arith, less));
        }

    -- a wait that ended early
    pub stops : (n l count : ℕ) (w x : View F) → HasCome m v needs n w → slice_get needs n ≡ Some (l, count)
        → HasLooked w l x → HasGone v needs x
    stops n l count w x come has looked = gone_on v w x needs l come.gone (is_named needs n l count has) looked

    -- and one for the next need, which is met
    pub goes_on : (n next l count : ℕ) (w x : View F) → next ≤ n + 1 → HasCome m v needs n w → l < m.lines
        → slice_get needs n ≡ Some (l, count) → HasLooked w l x → AllSound m l (seen_of x l) → count ≤ seen_of x l
        → HasCome m v needs next x
    goes_on n next l count w x step come line has looked all enough =
        let need : (d : ℕ × ℕ) → get_or needs n d ≡ (l, count) =
        λ d. get_or_from_slice_get needs n (l, count) d has in
        let named : IsNamed needs l = is_named needs n l count has in
        let gone = gone_on v w x needs l come.gone named looked in
        let met_at : (k : ℕ) (d : ℕ × ℕ) → k < next → k < length needs
        → ((get_or needs k d).0 < m.lines) × ((get_or needs k d).1 ≤ seen_of x (get_or needs k d).0) =
        λ k d less there.
        elim (cases_lt k n) [
          | inl before ↦
              let met = come.met k d before there in
              let at = met.1 in
              let more = more_seen w x l (get_or needs k d).0 looked in
              (met.0, omega (arith, at, more))
          | inr after ↦
              let last : k ≡ n = omega (arith, less, step, after) in
              let e : get_or needs k d ≡ (l, count) = ap (λ (i : ℕ). get_or needs i d) last ∙ need d in
              subst (λ (p : ℕ × ℕ). (p.0 < m.lines) × (p.1 ≤ seen_of x p.0)) (sym e) (line, enough)
        ] in
        let waited_at : (k : ℕ) (d : ℕ × ℕ) → k < next → k < length needs
        → loads_of v (get_or needs k d).0 < loads_of x (get_or needs k d).0 =
        λ k d less there.
        elim (cases_lt k n) [
          | inl before ↦
              let at = come.waited k d before there in
              let more = more_loads w x l (get_or needs k d).0 looked in
              omega (arith, at, more)
          | inr after ↦
              let last : k ≡ n = omega (arith, less, step, after) in
              let e : get_or needs k d ≡ (l, count) = ap (λ (i : ℕ). get_or needs i d) last ∙ need d in
              let from = come.gone.loaded l in
              let loaded = looked.loaded in
              let rises : loads_of v l < loads_of x l = omega (arith, from, loaded) in
              subst (λ (p : ℕ × ℕ). loads_of v p.0 < loads_of x p.0) (sym e) rises
        ] in
        record {
          gone = gone;
          sound = sound_on m v w x l come.sound looked all;
          met = met_at;
          waited = waited_at;
        }

    -- all of them are met
    pub ends : (n : ℕ) (w : View F) → HasCome m v needs n w → length needs ≤ n
        → AreMet m (seen_of w) needs × All (λ need. loads_of v need.0 < loads_of w need.0) needs
    ends n w come past = (
      λ k d inside. come.met k d (omega (arith, inside, past)) inside,
      λ k d inside. come.waited k d (omega (arith, inside, past)) inside,
    )
