use Rattle.std.proofs.Common.{◌≡◌, ◌&&◌, false, sym, ◌∙◌, subst}
use Rattle.vax_pte.specs.declared.Place.{Place}
use Rattle.core_map.specs.Slots.{slot_at, is_slot_dirty}
use Rattle.page_model.specs.Runs.{is_seated_by}
use Rattle.table_view.specs.Shown.{state_shown, ShowsMark}
use Rattle.kluster_io.proofs.Seats.{seat_shown, bare_shown, not_resident}
use Rattle.kluster_io.proofs.search.is_dirty_seat.Goals as goal

pub returns-in-Resident : goal.returns-in-Resident
returns-in-Resident c = λ p dirty e m.
    c.is_dirty.ensures
    ∙ subst (λ (x : Place). ShowsMark c.args.core.now.slots x dirty → is_slot_dirty (slot_at c.args.core.now.slots c.in-Frame.f) ≡ (is_seated_by p (state_shown c.args.core.now.slots x) && dirty))
    (sym c.in-Frame.is)
    (λ k. seat_shown p c.args.core.now.free c.args.core.now.slots c.in-Frame.f c.in-Frame.valid c.in-Frame.changed dirty c.owner.ensures.sound e k c.in-Resident.ensures.slot.0)
    m

pub returns-in-Free : goal.returns-in-Free
returns-in-Free c = λ p dirty e m.
    subst (λ (x : Place). ShowsMark c.args.core.now.slots x dirty → false ≡ (is_seated_by p (state_shown c.args.core.now.slots x) && dirty))
    (sym c.in-Frame.is)
    (λ k. bare_shown p c.args.core.now.free c.args.core.now.slots c.in-Frame.f c.in-Frame.valid c.in-Frame.changed dirty c.owner.ensures.sound e k
    (not_resident (slot_at c.args.core.now.slots c.in-Frame.f) c.owner.result c.owner.ensures.owner c.in-Free.is))
    m
