-- Each word of a unit has one content, and each content one word.
use Rattle.std.proofs.Common.{◌≡◌, refl, ℕ, ◌+◌, ◌-◌, ◌*◌, ◌/◌, ◌%◌, ◌<◌, ◌≤◌, inl, inr, arith, ap}
use Rattle.std.proofs.Common.{◌∙◌, subst}
use Rattle.std.proofs.lemmas.Bool.{cases_lt, lt-ltb, le-ltb}
use Rattle.std.proofs.lemmas.Nat.{div-mul-add, mod-mul-add, div_below, mod_below, div-add-mod'}
use Rattle.std.proofs.Math.Nat.{mul-le-mul_right, mul_comm}
use Rattle.sample_words.specs.declared.sizes.FlightSizes.{FlightSizes}
use Rattle.sample_words.specs.declared.unit_content.UnitContent.{UnitContent}
use Rattle.sample_words.specs.declared.unit_content.UnitContent.TheVariants.{Samples, Vectors, Modes, Offsets}
use Rattle.sample_words.specs.declared.unit_content.UnitContent.TheVariants.{Contexts, Carried}
use Rattle.sample_words.specs.Sizes.{carry_words, common_words, context_words, line_words, places, sample_words}
use Rattle.sample_words.specs.Contents.{IsContent, IsContentOf, component_side, components_before}
use Rattle.sample_words.specs.Contents.{content_at, index_of}
use Rattle.sample_words.proofs.Parts.{next_part}
use Rattle.sample_words.specs.Contents.{place_content, sample_content, samples_at}

-- a place in rows of so many
row_below : (rows width y k : ℕ) → y < rows → k < width → y * width + k < rows * width
row_below rows width y k below lt =
    let le : (y + 1) * width ≤ rows * width = mul-le-mul_right width (omega arith) in
    let e = next_part y width in
    omega arith

record IsPlaced (rows width offset : ℕ) : Type 0 where
  row : offset / width < rows
  column : offset % width < width
  whole : offset / width * width + offset % width ≡ offset

placed : (rows width offset : ℕ) → offset < rows * width → IsPlaced rows width offset
placed rows width offset lt =
    let some : 0 < width = elim (cases_lt 0 width) [
      | inl more ↦ more
      | inr none ↦
          let z : width ≡ 0 = omega arith in
          let e : rows * width ≡ rows * 0 = ap (λ (k : ℕ). rows * k) z in
          absurd (omega arith)
    ] in
    record {
      row = div_below offset width rows some lt;
      column = mod_below offset width some;
      whole = div-add-mod' offset width;
    }

-- samples of a component
samples_are : (s : FlightSizes) (width component offset y k : ℕ)
    → offset ≡ y * line_words s (component_side component width) + k
    → k < line_words s (component_side component width) → samples_at s width component offset ≡ Samples component y k
samples_are s width component offset y k e lt =
    let count : ℕ = line_words s (component_side component width) in
    let d : offset / count ≡ y = ap (λ (n : ℕ). n / count) e ∙ div-mul-add y count k lt in
    let m : offset % count ≡ k = ap (λ (n : ℕ). n % count) e ∙ mod-mul-add y count k lt in
    ap (λ (n : ℕ). Samples component n (offset % count)) d ∙ ap (Samples component y) m

abbrev place_of : FlightSizes → ℕ → ℕ → ℕ → ℕ → ℕ → ℕ
place_of s width height component y k =
    components_before s width height component + (y * line_words s (component_side component width) + k)

luma_found : (s : FlightSizes) (width height y k : ℕ) → y < height → k < line_words s width
    → sample_content s width height (place_of s width height 0 y k) ≡ Samples 0 y k
unfolding sample_content
luma_found s width height y k below lt =
    let r = row_below height (line_words s width) y k below lt in
    let offset : ℕ = place_of s width height 0 y k in
    let t = lt-ltb offset (height * line_words s width) (omega arith) in
    rw t (samples_are s width 0 offset y k (omega arith) lt)

cb_found : (s : FlightSizes) (width height y k : ℕ) → y < height / 2 → k < line_words s (width / 2)
    → sample_content s width height (place_of s width height 1 y k) ≡ Samples 1 y k
unfolding sample_content
cb_found s width height y k below lt =
    let luma : ℕ = height * line_words s width in
    let chroma : ℕ = height / 2 * line_words s (width / 2) in
    let r = row_below (height / 2) (line_words s (width / 2)) y k below lt in
    let offset : ℕ = place_of s width height 1 y k in
    let t = le-ltb offset luma (omega arith) in
    let u = lt-ltb offset (luma + chroma) (omega arith) in
    rw (t, u) (samples_are s width 1 (offset - luma) y k (omega arith) lt)

cr_found : (s : FlightSizes) (width height y k : ℕ) → y < height / 2 → k < line_words s (width / 2)
    → sample_content s width height (place_of s width height 2 y k) ≡ Samples 2 y k
unfolding sample_content
cr_found s width height y k below lt =
    let luma : ℕ = height * line_words s width in
    let chroma : ℕ = height / 2 * line_words s (width / 2) in
    let r = row_below (height / 2) (line_words s (width / 2)) y k below lt in
    let offset : ℕ = place_of s width height 2 y k in
    let t = le-ltb offset luma (omega arith) in
    let u = le-ltb offset (luma + chroma) (omega arith) in
    rw (t, u) (samples_are s width 2 (offset - luma - chroma) y k (omega arith) lt)

-- where samples stand
abbrev AreIn : FlightSizes → ℕ → ℕ → ℕ → ℕ → ℕ → Type 0
AreIn s width height component y k =
    (component < 3) × (y < component_side component height) × (k < line_words s (component_side component width))

samples_found : (s : FlightSizes) (width height component y k : ℕ) → AreIn s width height component y k
    → sample_content s width height (place_of s width height component y k) ≡ Samples component y k
samples_found s width height component y k is = elim (cases_lt component 1) [
  | inl zero ↦
      let e : 0 ≡ component = omega arith in
      let P : ℕ → Type 0 = λ c. AreIn s width height c y k
      → sample_content s width height (place_of s width height c y k) ≡ Samples c y k in
      subst P e (λ h. luma_found s width height y k h.1 h.2) is
  | inr some ↦ elim (cases_lt component 2) [
    | inl one ↦
        let e : 1 ≡ component = omega arith in
        let P : ℕ → Type 0 = λ c. AreIn s width height c y k
        → sample_content s width height (place_of s width height c y k) ≡ Samples c y k in
        subst P e (λ h. cb_found s width height y k h.1 h.2) is
    | inr two ↦
        let few = is.0 in
        let e : 2 ≡ component = omega arith in
        let P : ℕ → Type 0 = λ c. AreIn s width height c y k
        → sample_content s width height (place_of s width height c y k) ≡ Samples c y k in
        subst P e (λ h. cr_found s width height y k h.1 h.2) is
  ]
]

below_luma : (s : FlightSizes) (width height y k : ℕ) → y < height → k < line_words s width
    → place_of s width height 0 y k < sample_words s width height
unfolding sample_words
below_luma s width height y k below lt =
    let r = row_below height (line_words s width) y k below lt in omega arith

below_cb : (s : FlightSizes) (width height y k : ℕ) → y < height / 2 → k < line_words s (width / 2)
    → place_of s width height 1 y k < sample_words s width height
unfolding sample_words
below_cb s width height y k below lt =
    let r = row_below (height / 2) (line_words s (width / 2)) y k below lt in omega arith

below_cr : (s : FlightSizes) (width height y k : ℕ) → y < height / 2 → k < line_words s (width / 2)
    → place_of s width height 2 y k < sample_words s width height
unfolding sample_words
below_cr s width height y k below lt =
    let r = row_below (height / 2) (line_words s (width / 2)) y k below lt in omega arith

samples_below : (s : FlightSizes) (width height component y k : ℕ) → AreIn s width height component y k
    → place_of s width height component y k < sample_words s width height
samples_below s width height component y k is = elim (cases_lt component 1) [
  | inl zero ↦
      let e : 0 ≡ component = omega arith in
      let P : ℕ → Type 0 = λ c. AreIn s width height c y k
      → place_of s width height c y k < sample_words s width height in
      subst P e (λ h. below_luma s width height y k h.1 h.2) is
  | inr some ↦ elim (cases_lt component 2) [
    | inl one ↦
        let e : 1 ≡ component = omega arith in
        let P : ℕ → Type 0 = λ c. AreIn s width height c y k
        → place_of s width height c y k < sample_words s width height in
        subst P e (λ h. below_cb s width height y k h.1 h.2) is
    | inr two ↦
        let few = is.0 in
        let e : 2 ≡ component = omega arith in
        let P : ℕ → Type 0 = λ c. AreIn s width height c y k
        → place_of s width height c y k < sample_words s width height in
        subst P e (λ h. below_cr s width height y k h.1 h.2) is
  ]
]

-- and back
samples_owned : (s : FlightSizes) (width height column offset : ℕ) → offset < sample_words s width height
    → IsContentOf s width height column offset (sample_content s width height offset)
unfolding sample_words sample_content index_of
samples_owned s width height column offset lt =
    let luma : ℕ = height * line_words s width in
    let chroma : ℕ = height / 2 * line_words s (width / 2) in
    elim (cases_lt offset luma) [
      | inl less ↦
          let t = lt-ltb offset luma less in
          let p = placed height (line_words s width) offset less in
          let w = p.whole in
          rw t (record { is = (omega arith, p.row, p.column); word = omega arith })
      | inr more ↦
          let t = le-ltb offset luma more in
          elim (cases_lt offset (luma + chroma)) [
            | inl less ↦
                let u = lt-ltb offset (luma + chroma) less in
                let p = placed (height / 2) (line_words s (width / 2)) (offset - luma) (omega arith) in
                let w = p.whole in
                rw (t, u) (record { is = (omega arith, p.row, p.column); word = omega arith })
            | inr far ↦
                let u = le-ltb offset (luma + chroma) far in
                let p = placed (height / 2) (line_words s (width / 2)) (offset - luma - chroma) (omega arith) in
                let w = p.whole in
                rw (t, u) (record { is = (omega arith, p.row, p.column); word = omega arith })
          ]
    ]

-- what stands behind the samples
behind_samples : (s : FlightSizes) (width height column offset : ℕ)
    → content_at s width height column (sample_words s width height + offset) ≡ place_content width height column offset
unfolding content_at
behind_samples s width height column offset =
    let n : ℕ = sample_words s width height in
    let t = le-ltb (n + offset) n (omega arith) in
    let e : n + offset - n ≡ offset = omega arith in
    rw t (ap (place_content width height column) e)

vectors_found : (width height column x y : ℕ) → x < width / 4 → y < height / 4
    → place_content width height column (y * (width / 4) + x) ≡ Vectors x y
unfolding place_content
vectors_found width height column x y lt below =
    let count : ℕ = width / 4 in
    let r = row_below (height / 4) count y x below lt in
    let c : count * (height / 4) ≡ height / 4 * count = mul_comm count (height / 4) in
    let t = lt-ltb (y * count + x) (places width height) (omega arith) in
    let d = div-mul-add y count x lt in
    let m = mod-mul-add y count x lt in
    rw (t, d, m) refl

modes_found : (width height column x y : ℕ) → x < width / 4 → y < height / 4
    → place_content width height column (places width height + (y * (width / 4) + x)) ≡ Modes x y
unfolding place_content
modes_found width height column x y lt below =
    let count : ℕ = width / 4 in
    let n : ℕ = places width height in
    let r = row_below (height / 4) count y x below lt in
    let c : count * (height / 4) ≡ height / 4 * count = mul_comm count (height / 4) in
    let t = le-ltb (n + (y * count + x)) n (omega arith) in
    let u = lt-ltb (n + (y * count + x)) (2 * n) (omega arith) in
    let e : n + (y * count + x) - n ≡ y * count + x = omega arith in
    let d = div-mul-add y count x lt in
    let m = mod-mul-add y count x lt in
    rw (t, u, e, d, m) refl

offsets_found : (width height column k : ℕ) → k < 2
    → place_content width height column (2 * places width height + k) ≡ Offsets k
unfolding place_content
offsets_found width height column k lt =
    let n : ℕ = places width height in
    let t = le-ltb (2 * n + k) n (omega arith) in
    let u = le-ltb (2 * n + k) (2 * n) (omega arith) in
    let v = lt-ltb (2 * n + k) (2 * n + 2) (omega arith) in
    let e : 2 * n + k - 2 * n ≡ k = omega arith in
    rw (t, u, v, e) refl

contexts_found : (width height column k : ℕ) → k < context_words column
    → place_content width height column (2 * places width height + 2 + k) ≡ Contexts k
unfolding place_content
contexts_found width height column k lt =
    let n : ℕ = places width height in
    let more : ℕ = context_words column in
    let t = le-ltb (2 * n + 2 + k) n (omega arith) in
    let u = le-ltb (2 * n + 2 + k) (2 * n) (omega arith) in
    let v = le-ltb (2 * n + 2 + k) (2 * n + 2) (omega arith) in
    let w = lt-ltb (2 * n + 2 + k) (2 * n + 2 + more) (omega arith) in
    let e : 2 * n + 2 + k - (2 * n + 2) ≡ k = omega arith in
    rw (t, u, v, w, e) refl

carried_found : (width height column k : ℕ)
    → place_content width height column (2 * places width height + 2 + context_words column + k) ≡ Carried k
unfolding place_content
carried_found width height column k =
    let n : ℕ = places width height in
    let more : ℕ = context_words column in
    let offset : ℕ = 2 * n + 2 + more + k in
    let t = le-ltb offset n (omega arith) in
    let u = le-ltb offset (2 * n) (omega arith) in
    let v = le-ltb offset (2 * n + 2) (omega arith) in
    let w = le-ltb offset (2 * n + 2 + more) (omega arith) in
    let e : offset - (2 * n + 2 + more) ≡ k = omega arith in
    rw (t, u, v, w, e) refl

-- a content is found by its index
pub content_found : (s : FlightSizes) (width height column : ℕ) (c : UnitContent) → IsContent s width height column c
    → content_at s width height column (index_of s width height column c) ≡ c
unfolding content_at index_of
content_found s width height column (Samples component y k) is =
    let lt = samples_below s width height component y k is in
    let t = lt-ltb (place_of s width height component y k) (sample_words s width height) lt in
    rw t (samples_found s width height component y k is)
content_found s width height column (Vectors x y) is =
    behind_samples s width height column (y * (width / 4) + x) ∙ vectors_found width height column x y is.0 is.1
content_found s width height column (Modes x y) is =
    let n : ℕ = sample_words s width height in
    let e : n + places width height + (y * (width / 4) + x) ≡ n + (places width height + (y * (width / 4) + x)) =
    omega arith in
    ap (content_at s width height column) e
    ∙ behind_samples s width height column (places width height + (y * (width / 4) + x))
    ∙ modes_found width height column x y is.0 is.1
content_found s width height column (Offsets k) is =
    let n : ℕ = sample_words s width height in
    let e : n + 2 * places width height + k ≡ n + (2 * places width height + k) = omega arith in
    ap (content_at s width height column) e ∙ behind_samples s width height column (2 * places width height + k)
    ∙ offsets_found width height column k is
content_found s width height column (Contexts k) is =
    let n : ℕ = sample_words s width height in
    let e : n + 2 * places width height + 2 + k ≡ n + (2 * places width height + 2 + k) = omega arith in
    ap (content_at s width height column) e ∙ behind_samples s width height column (2 * places width height + 2 + k)
    ∙ contexts_found width height column k is
content_found s width height column (Carried k) is =
    let n : ℕ = sample_words s width height in
    let more : ℕ = context_words column in
    let e : n + 2 * places width height + 2 + more + k ≡ n + (2 * places width height + 2 + more + k) = omega arith in
    ap (content_at s width height column) e
    ∙ behind_samples s width height column (2 * places width height + 2 + more + k)
    ∙ carried_found width height column k

place_owned : (s : FlightSizes) (width height column offset : ℕ)
    → offset < 2 * places width height + 2 + (context_words column + carry_words s column)
    → IsContentOf s width height column (sample_words s width height + offset)
    (place_content width height column offset)
unfolding place_content index_of
place_owned s width height column offset lt =
    let n : ℕ = places width height in
    let more : ℕ = context_words column in
    let c : width / 4 * (height / 4) ≡ height / 4 * (width / 4) = mul_comm (width / 4) (height / 4) in
    elim (cases_lt offset n) [
      | inl less ↦
          let t = lt-ltb offset n less in
          let p = placed (height / 4) (width / 4) offset (omega arith) in
          let w = p.whole in
          rw t (record { is = (p.column, p.row); word = omega arith })
      | inr one ↦
          let t = le-ltb offset n one in
          elim (cases_lt offset (2 * n)) [
            | inl less ↦
                let u = lt-ltb offset (2 * n) less in
                let p = placed (height / 4) (width / 4) (offset - n) (omega arith) in
                let w = p.whole in
                rw (t, u) (record { is = (p.column, p.row); word = omega arith })
            | inr two ↦
                let u = le-ltb offset (2 * n) two in
                elim (cases_lt offset (2 * n + 2)) [
                  | inl less ↦
                      let v = lt-ltb offset (2 * n + 2) less in
                      rw (t, u, v) (record { is = omega arith; word = omega arith })
                  | inr three ↦
                      let v = le-ltb offset (2 * n + 2) three in
                      elim (cases_lt offset (2 * n + 2 + more)) [
                        | inl less ↦
                            let w = lt-ltb offset (2 * n + 2 + more) less in
                            rw (t, u, v, w) (record { is = omega arith; word = omega arith })
                        | inr four ↦
                            let w = le-ltb offset (2 * n + 2 + more) four in
                            rw (t, u, v, w) (record { is = omega arith; word = omega arith })
                      ]
                ]
          ]
    ]

pub content_owned : (s : FlightSizes) (width height column index : ℕ)
    → index < common_words s width height + (context_words column + carry_words s column)
    → IsContentOf s width height column index (content_at s width height column index)
unfolding content_at common_words
content_owned s width height column index lt =
    let n : ℕ = sample_words s width height in
    elim (cases_lt index n) [
      | inl less ↦ let t = lt-ltb index n less in rw t (samples_owned s width height column index less)
      | inr more ↦
          let t = le-ltb index n more in
          let e : n + (index - n) ≡ index = omega arith in
          let c : UnitContent = place_content width height column (index - n) in
          rw t (subst (λ (k : ℕ). IsContentOf s width height column k c) e
          (place_owned s width height column (index - n) (omega arith)))
    ]
