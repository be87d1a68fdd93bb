-- Samples behind both filters.
use Rattle.std.proofs.Common.{◌≡◌, ℕ, ◌%◌, ◌<◌, List, refl, ap, sym, subst, ◌∙◌, arith}
use Rattle.std.proofs.Math.Path.{fun_ext}
use Rattle.deblock.specs.Windows.{at}
use Rattle.spec_loop_filters.specs.SpecDeblocking.{Place}
use Rattle.spec_loop_filters.specs.SpecDeblocking.{Plane}
use Rattle.spec_loop_filters.specs.SpecDeblocking.{deblocked, vertical}
use Rattle.spec_loop_filters.proofs.SpecDeblockingLemmas.{horizontal_rows, vertical_rows}
use Rattle.spec_sample_adaptive_offset.specs.Plane.{OffsetPlane, offset_sample}
use Rattle.spec_sample_adaptive_offset.proofs.Samples.{beside_alone}
use Rattle.spec_loop_filters.specs.Filters.{LoopFilters, Samples, deblocked_samples, depth_of, final_samples}
use Rattle.spec_loop_filters.specs.Filters.{height_of}
use Rattle.spec_loop_filters.specs.Filters.{offset_plane, plane_of, width_of}
use Rattle.loop_filters.specs.declared.component.Component.{Component}
use Rattle.loop_filters.specs.Formats.{IsComponent}
use Rattle.loop_filters.specs.Rows.{deblocked_of}

-- samples of the plane alone count
pub whole_deblocked : (plane : Plane) (depth w h : ℕ) (places : ℕ → ℕ → Place) (f g : ℕ → ℕ → ℕ) (x y : ℕ) → w % 4 ≡ 0 →
    h % 4 ≡ 0 → ((i j : ℕ) → i < w → j < h → f i j ≡ g i j) → x < w → y < h →
    deblocked plane depth w h places f x y ≡ deblocked plane depth w h places g x y
unfolding deblocked
whole_deblocked plane depth w h places f g x y columns lines same a b =
    horizontal_rows plane depth w h places places (vertical plane depth w places f) (vertical plane depth w places g) 0
    h x y columns lines refl lines a b (omega arith) (omega (arith, b)) (λ i s _ _. refl)
    (λ i j hi hj _ _. vertical_rows plane depth w places places f g 0 h i j columns refl lines hi (omega arith)
    (omega (arith, hj)) (λ i s _ _. refl) (λ k l hk _ hl. same k l hk (omega (arith, hl))))

pub whole_offset : (p : OffsetPlane) (f g : ℕ → ℕ → ℕ) (x y : ℕ)
    → ((i j : ℕ) → i < p.width → j < p.height → f i j ≡ g i j) → x < p.width → y < p.height
    → offset_sample p f x y ≡ offset_sample p g x y
whole_offset p f g x y same a b =
    beside_alone p p f g x y
    (record {
      width = refl;
      height = refl;
      depth = refl;
      inside = (a, b);
      kept = refl;
      units = λ i j _ _ _ _ _ _. refl;
      samples = λ i j hi hj _ _ _ _. same i j hi hj;
    })

same_plane : (p q : Plane) (d e w v h k : ℕ) (places : ℕ → ℕ → Place) (f : ℕ → ℕ → ℕ) (x y : ℕ) → p ≡ q → d ≡ e → w ≡ v
    → h ≡ k → deblocked p d w h places f x y ≡ deblocked q e v k places f x y
same_plane p q d e w v h k places f x y plane depth width height =
    ap (λ (r : Plane). deblocked r d w h places f x y) plane
    ∙ ap (λ (n : ℕ). deblocked q n w h places f x y) depth
    ∙ ap (λ (n : ℕ). deblocked q e n h places f x y) width
    ∙ ap (λ (n : ℕ). deblocked q e v n places f x y) height

-- a component that is deblocked, by the samples of the picture
deblocked_is : (filters : LoopFilters) (component : Component) (samples : Samples) (lent : List ℕ)
    → IsComponent filters.format component
    → ((x y : ℕ) → x < component.width → y < component.height → at component.width lent x y ≡ samples component.c x y)
    → (x y : ℕ) → x < component.width → y < component.height
    → deblocked_of component filters.places (at component.width lent) x y
    ≡ deblocked_samples filters samples component.c x y
unfolding deblocked_samples
deblocked_is filters component samples lent is same x y a b =
    whole_deblocked component.plane component.depth component.width component.height filters.places
    (at component.width lent) (samples component.c) x y is.is_plane.columns is.is_plane.lines same a b
    ∙ same_plane component.plane (plane_of filters.format component.c) component.depth
    (depth_of filters.format component.c) component.width (width_of filters.format component.c) component.height
    (height_of filters.format component.c) filters.places (samples component.c) x y is.plane is.depth is.width is.height

-- and then has its offsets
pub final_is : (filters : LoopFilters) (component : Component) (samples : Samples) (lent : List ℕ)
    → IsComponent filters.format component
    → ((x y : ℕ) → x < component.width → y < component.height → at component.width lent x y ≡ samples component.c x y)
    → (x y : ℕ) → x < component.width → y < component.height
    → offset_sample (offset_plane filters component.c)
    (deblocked_of component filters.places (at component.width lent)) x y
    ≡ final_samples filters samples component.c x y
unfolding final_samples
final_is filters component samples lent is same x y a b =
    whole_offset (offset_plane filters component.c) (deblocked_of component filters.places (at component.width lent))
    (deblocked_samples filters samples component.c) x y
    (λ i j hi hj. deblocked_is filters component samples lent is same i j
    (subst (λ n. i < n) (sym is.width) hi) (subst (λ n. j < n) (sym is.height) hj))
    (subst (λ n. x < n) is.width a) (subst (λ n. y < n) is.height b)

-- samples of the component alone count
pub component_alone : (filters : LoopFilters) (f g : Samples) (c x y : ℕ) → ((i j : ℕ) → f c i j ≡ g c i j)
    → final_samples filters f c x y ≡ final_samples filters g c x y
unfolding final_samples deblocked_samples
component_alone filters f g c x y same =
    ap (λ (s : ℕ → ℕ → ℕ). offset_sample (offset_plane filters c)
    (deblocked (plane_of filters.format c) (depth_of filters.format c) (width_of filters.format c)
    (height_of filters.format c) filters.places s)
    x y)
    (fun_ext (λ i. fun_ext (λ j. same i j)))
