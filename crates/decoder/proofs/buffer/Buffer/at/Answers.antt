use Rattle.std.proofs.Common.{rules, ◌≡◌, ◌<◌, ◌≤◌, length, get_or, Some, None, subst}
use Rattle.std.specs.Prelude.{slice_get}
use Rattle.decoder.specs.Buffers.{HeldBuffer, buffer_of, tagged}
use Rattle.decoder.proofs.Buffers.{at-none, at-some}
use Rattle.decoder.proofs.buffer.Buffer.at.Goals as goal

pub returns-in-None : goal.returns-in-None
returns-in-None c =
    let le : length c.deref.result.now ≤ c.args.place = search rules in
    subst (λ (b : HeldBuffer). None ≡ slice_get (buffer_of b) c.args.place) c.self.view_is
    (at-none c.self.inside.tags.items c.self.inside.pictures c.args.place (rw (← c.deref.ensures.value) le))

pub returns-in-Some-get : goal.returns-in-Some-get
returns-in-Some-get c =
    let lt : c.args.place < length c.deref.result.now = search rules in
    let is : c.in-Some.tag.now ≡ get_or c.deref.result.now c.args.place c.in-Some.tag.now = search rules in
    subst (λ (b : HeldBuffer). Some (tagged c.in-Some.tag.now c.in-Some-get.picture.now)
    ≡ slice_get (buffer_of b) c.args.place) c.self.view_is
    (at-some c.self.inside.tags.items c.self.inside.pictures c.args.place c.in-Some.tag.now
    c.in-Some-get.picture.now (rw (← c.deref.ensures.value) lt) (rw (← c.deref.ensures.value) is)
    c.in-Some-get.ensures)
