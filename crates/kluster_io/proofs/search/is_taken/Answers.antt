use Rattle.std.proofs.Common.{◌&&◌, ◌||◌, not, Bool, refl, sym, ap, ◌∙◌}
use Rattle.flat_state.specs.PageNames.{is_among}
use Rattle.page_model.specs.Pages.{is_valid}
use Rattle.page_model.specs.Placement.{is_dirty}
use Rattle.table_view.specs.Shown.{state_shown}
use Rattle.kluster_io.specs.Front.{is_front}
use Rattle.kluster_io.proofs.Fronts.{taken}
use Rattle.kluster_io.proofs.Seats.{valid_off}
use Rattle.kluster_io.proofs.search.is_taken.Goals as goal

pub returns-then-is_dirty_seat : goal.returns-then-is_dirty_seat
returns-then-is_dirty_seat c = λ p e s m x.
    let slots = c.args.core.now.slots in
    sym (ap (λ (b : Bool). b && c.may_take.result) c.if-is_dirty_seat.true)
    ∙ taken p c.args.locked.now c.args.front c.args.page (state_shown slots c.args.place) c.is_dirty_seat.result c.may_take.result x
    (valid_off p c.args.core.now.free slots c.args.place c.args.page (is_dirty p c.args.page) c.stands.ensures e m s)
    s (c.is_dirty_seat.ensures p (is_dirty p c.args.page) e m) (c.may_take.ensures slots)

pub returns-else-is_dirty_seat : goal.returns-else-is_dirty_seat
returns-else-is_dirty_seat c = λ p e s m x.
    let slots = c.args.core.now.slots in
    let may : Bool = not (is_among c.args.page c.args.locked.now) && (is_front c.args.page c.args.front || not (is_valid (state_shown slots c.args.place))) in
    c.if-is_dirty_seat.false
    ∙ sym (ap (λ (b : Bool). b && may) c.if-is_dirty_seat.false)
    ∙ taken p c.args.locked.now c.args.front c.args.page (state_shown slots c.args.place) c.is_dirty_seat.result may x
    (valid_off p c.args.core.now.free slots c.args.place c.args.page (is_dirty p c.args.page) c.stands.ensures e m s)
    s (c.is_dirty_seat.ensures p (is_dirty p c.args.page) e m) refl
