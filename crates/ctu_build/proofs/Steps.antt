-- Items one after the other.
use Rattle.std.proofs.Common.{◌≡◌, ℕ, ◌+◌, ◌-◌, ◌*◌, ◌^◌, ◌<◌, ◌≤◌, List, ◌∷◌, length, get_or, take, drop, sym, ap}
use Rattle.std.proofs.Common.{◌∙◌}
use Rattle.std.proofs.Common.{[], zero, suc, refl, subst, arith}
use Rattle.std.proofs.lemmas.List.{drop_more, drop_all, length-drop, take_all}
use Rattle.ctu_records.specs.declared.item.CodedBlock.{CodedBlock}
use Rattle.ctu_records.specs.declared.item.Item.{Item}
use Rattle.ctu_records.specs.Tree.{qp_at}
use Rattle.ctu_build.specs.declared.blocks.InUnit.{InUnit}
use Rattle.spec_reconstruction.specs.Known.{Known, constructed}
use Rattle.spec_reconstruction.specs.Parameters.{depth_of}
use Rattle.spec_reconstruction.specs.Residuals.{residuals_behind}
use Rattle.spec_reconstruction.specs.SpecSliceData.{samples_of_place}
use Rattle.spec_reconstruction.specs.declared.format.UnitFormat.{UnitFormat}
use Rattle.spec_reconstruction.specs.declared.unit_mode.UnitMode.{UnitMode}
use Rattle.spec_reconstruction.specs.Inter.{InterUnit}
use Rattle.spec_reconstruction.specs.Sound.{ArePulses, BeginsPulses}
use Rattle.spec_reconstruction.specs.Unit.{Building, block_constructed, item_built, items_built}

-- the items from one on, as a part of all
rest_whole : (items : List Item) (n : ℕ) → take (length items - n) (drop n items) ≡ drop n items
rest_whole items n = take_all (length items - n) (drop n items) (omega (arith, length-drop n items))

-- one more item
pub built_more : (format : UnitFormat) (inter : InterUnit) (all items : List Item) (k : ℕ) (d item : Item)
    (building next end : Building)
    → k < length items
    → get_or items k d ≡ item
    → next ≡ item_built format inter all building item (take (length items - (k + 1)) (drop (k + 1) items))
    → items_built format inter all (drop k items) building ≡ end
    → items_built format inter all (drop (k + 1) items) next ≡ end
unfolding items_built
built_more format inter all items k d item building next end lt is e told =
    ap (items_built format inter all (drop (k + 1) items))
    (e ∙ ap (item_built format inter all building item) (rest_whole items (k + 1)))
    ∙ sym (ap (λ (rest : List Item). items_built format inter all rest building)
    (drop_more items k d lt ∙ ap (λ (first : Item). first ∷ drop (k + 1) items) is))
    ∙ told

-- behind an item that tells nothing
pub passed_over : (format : UnitFormat) (inter : InterUnit) (all items : List Item) (k : ℕ) (d : Item)
    (building : Building)
    → k < length items
    → item_built format inter all building (get_or items k d) (drop (k + 1) items) ≡ building
    → items_built format inter all (drop (k + 1) items) building ≡ items_built format inter all (drop k items) building
unfolding items_built
passed_over format inter all items k d building lt same =
    sym (ap (items_built format inter all (drop (k + 1) items)) same)
    ∙ sym (ap (λ (rest : List Item). items_built format inter all rest building) (drop_more items k d lt))

-- behind the last item
pub built_all : (format : UnitFormat) (inter : InterUnit) (all items : List Item) (k : ℕ) (building end : Building)
    → length items ≤ k
    → items_built format inter all (drop k items) building ≡ end → end.known ≡ building.known
unfolding items_built
built_all format inter all items k building end le told =
    ap (λ (b : Building). b.known)
    (sym told ∙ ap (λ (rest : List Item). items_built format inter all rest building) (drop_all k items le))

-- a coded block
pub block_built : (format : UnitFormat) (all : List Item) (mode : UnitMode) (coded : InUnit) (block : CodedBlock)
    (behind : List Item) (before after : Known)
    → after
    ≡ constructed (depth_of format coded.block.component) coded.block.component
    (samples_of_place coded.block.component * coded.block.x) (samples_of_place coded.block.component * coded.block.y)
    (2 ^ coded.block.log2_size) (residuals_behind format coded.mode coded.block coded.qp behind) before
    → coded.block ≡ block → coded.mode ≡ mode → coded.qp ≡ qp_at all block.x block.y
    → after ≡ block_constructed format all mode block behind before
unfolding block_constructed
block_built format all mode coded block behind before after told eb et eq = rw (told, eb, et, eq) refl

-- the samples behind one
begins_behind : (format : UnitFormat) (items : List Item) (k : ℕ) (d : Item) → k < length items
    → ArePulses format items
    → BeginsPulses format (get_or items k d) (drop (suc k) items)
unfolding ArePulses
begins_behind format [] k d lt pulses = absurd (omega (arith, lt))
begins_behind format (item ∷ items) zero d lt pulses = pulses.0
begins_behind format (item ∷ items) (suc k) d lt pulses = begins_behind format items k d (omega (arith, lt)) pulses.1

pub pulses_behind : (format : UnitFormat) (items : List Item) (k : ℕ) (d : Item) → k < length items
    → ArePulses format items
    → BeginsPulses format (get_or items k d) (take (length items - (k + 1)) (drop (k + 1) items))
pulses_behind format items k d lt pulses =
    let e : suc k ≡ k + 1 = omega arith in
    subst (BeginsPulses format (get_or items k d)) (sym (rest_whole items (k + 1)))
    (subst (λ n. BeginsPulses format (get_or items k d) (drop n items)) e (begins_behind format items k d lt pulses))
