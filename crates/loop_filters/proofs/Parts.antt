-- The components of a picture, one after the other.
use Rattle.std.proofs.Common.{◌≡◌, ℕ, ◌+◌, ◌-◌, ◌^◌, ◌<◌, ◌≤◌, ◌==◌, false, inl, inr, sym, subst, ◌∙◌, arith}
use Rattle.std.proofs.lemmas.Bool.{cases_lt}
use Rattle.std.proofs.lemmas.Bool.Decides.{nat_tests}
use Rattle.spec_loop_filters.specs.declared.format.FilterFormat.{FilterFormat}
use Rattle.spec_loop_filters.specs.Filters.{LoopFilters, Samples, depth_of, final_samples, height_of, width_of}
use Rattle.loop_filters.specs.declared.component.Component.{Component}
use Rattle.loop_filters.specs.Formats.{IsComponent}
use Rattle.loop_filters.proofs.Final.{component_alone}

is_other : (i c d : ℕ) → d ≡ c → i < c → (i == d) ≡ false
is_other i c d e lt = grind (arith, nat_tests)

is_later : (i c d : ℕ) → d ≡ c → c < i → (i == d) ≡ false
is_later i c d e lt = grind (arith, nat_tests)

-- the samples of the next component are in its range
pub next_bounded : (format : FilterFormat) (component : Component) (c : ℕ) (old mid : Samples) → component.c ≡ c
    → IsComponent format component
    → ((i x y : ℕ) → i < 3 → old i x y ≤ 2 ^ depth_of format i - 1) → ((i x y : ℕ) → c ≤ i → mid i x y ≡ old i x y)
    → (x y : ℕ) → mid component.c x y ≤ 2 ^ component.depth - 1
next_bounded format component c old mid e is small stay x y =
    let s = small component.c x y is.c in
    let t = stay component.c x y (omega (arith, e)) in
    subst (λ n. n ≤ 2 ^ component.depth - 1) (sym t) (subst (λ d. old component.c x y ≤ 2 ^ d - 1) (sym is.depth) s)

-- one more component
pub components_more : (filters : LoopFilters) (component : Component) (c : ℕ) (old mid new : Samples) → component.c ≡ c
    → IsComponent filters.format component
    → ((x y : ℕ) → x < component.width → y < component.height
    → new component.c x y ≡ final_samples filters mid component.c x y)
    → ((i x y : ℕ) → (i == component.c) ≡ false → new i x y ≡ mid i x y)
    → ((i x y : ℕ) → i < c → x < width_of filters.format i → y < height_of filters.format i
    → mid i x y ≡ final_samples filters old i x y)
    → ((i x y : ℕ) → c ≤ i → mid i x y ≡ old i x y)
    → (i x y : ℕ) → i < c + 1 → x < width_of filters.format i → y < height_of filters.format i
    → new i x y ≡ final_samples filters old i x y
components_more filters component c old mid new e is value others told stay i x y lt column line = elim (cases_lt i c) [
  | inl less ↦ others i x y (is_other i c component.c e less) ∙ told i x y less column line
  | inr le ↦
      let here : component.c ≡ i = omega (arith, e, lt, le) in
      let a : x < component.width =
      subst (λ n. x < n) (sym is.width) (subst (λ k. x < width_of filters.format k) (sym here) column) in
      let b : y < component.height =
      subst (λ n. y < n) (sym is.height) (subst (λ k. y < height_of filters.format k) (sym here) line) in
      subst (λ k. new k x y ≡ final_samples filters old k x y) here
      (value x y a b ∙ component_alone filters mid old component.c x y (λ k l. stay component.c k l (omega (arith, e))))
]

pub later_stay : (component : Component) (c : ℕ) (old mid new : Samples) → component.c ≡ c
    → ((i x y : ℕ) → (i == component.c) ≡ false → new i x y ≡ mid i x y)
    → ((i x y : ℕ) → c ≤ i → mid i x y ≡ old i x y)
    → (i x y : ℕ) → c + 1 ≤ i → new i x y ≡ old i x y
later_stay component c old mid new e others stay i x y le =
    others i x y (is_later i c component.c e (omega (arith, le))) ∙ stay i x y (omega (arith, le))
