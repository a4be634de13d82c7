use Rattle.std.proofs.Common.{◌≡◌, sym, ap, ◌∙◌, subst}
use Rattle.vm_facts.specs.declared.page.Page.{Page}
use Rattle.core_map.specs.declared.slot.Whose.TheVariants as owners
use Rattle.core_map.specs.Slots.{slot_owner}
use Rattle.page_model.specs.Placement.{Placement}
use Rattle.page_model.specs.Hands.{sweep}
use Rattle.kernel_tables.specs.declared.tables.Tables.{Tables}
use Rattle.kernel_tables.specs.View.{placement_of}
use Rattle.kernel_tables.specs.Machine.{lists_of}
use Rattle.kernel_tables.specs.Launches.{MayPutOut, put_out}
use Rattle.table_steps.proofs.Puttings.{moved_as}
use Rattle.table_steps.proofs.Residing.{Resides}
use Rattle.table_steps.proofs.Hands.{IdleBack, WritesBack, writes_back, Puts, sweep_puts}
use Rattle.table_steps.proofs.launching.sweep.Goals as goal

pub unreachable-requires : goal.unreachable-requires
unreachable-requires c =
    let t : Tables = c.args.tables.now in
    let w : WritesBack (lists_of t) c.args.locked.now =
    writes_back (lists_of t) c.args.locked.now c.args.lo c.args.n c.requires.known c.requires.run c.if-n-eq0.false in
    let i : IdleBack (lists_of t) c.args.locked.now w.page = w.idle in
    let r : Resides (lists_of t) w.page t.back = i.resides in
    c.in_default.not-Resident w.page (c.owner.ensures.owner ∙ ap slot_owner r.slot)

pub put_out-requires-clause-may : goal.put_out-requires-clause-may
put_out-requires-clause-may c =
    let t : Tables = c.args.tables.now in
    let p : Placement = placement_of (lists_of t) in
    let w : WritesBack (lists_of t) c.args.locked.now =
    writes_back (lists_of t) c.args.locked.now c.args.lo c.args.n c.requires.known c.requires.run c.if-n-eq0.false in
    let i : IdleBack (lists_of t) c.args.locked.now w.page = w.idle in
    let r : Resides (lists_of t) w.page t.back = i.resides in
    let both : owners.Resident c.in-Resident.page ≡ owners.Resident w.page = sym c.in-Resident.is ∙ c.owner.ensures.owner ∙ ap slot_owner r.slot in
    let same : c.in-Resident.page ≡ w.page = cc in
    let x : Puts p w.page c.args.lo c.args.n (sweep p c.args.locked.now) =
    sweep_puts (lists_of t) c.args.locked.now w.page c.args.lo c.args.n c.requires.known i c.requires.run c.requires.room in
    subst (λ (q : Page). MayPutOut p q c.args.lo c.args.n) (sym same) x.may

pub returns : goal.returns
returns c =
    let t : Tables = c.args.tables.now in
    let p : Placement = placement_of (lists_of t) in
    let w : WritesBack (lists_of t) c.args.locked.now =
    writes_back (lists_of t) c.args.locked.now c.args.lo c.args.n c.requires.known c.requires.run c.if-n-eq0.false in
    let i : IdleBack (lists_of t) c.args.locked.now w.page = w.idle in
    let r : Resides (lists_of t) w.page t.back = i.resides in
    let both : owners.Resident c.in-Resident.page ≡ owners.Resident w.page = sym c.in-Resident.is ∙ c.owner.ensures.owner ∙ ap slot_owner r.slot in
    let same : c.in-Resident.page ≡ w.page = cc in
    let x : Puts p w.page c.args.lo c.args.n (sweep p c.args.locked.now) =
    sweep_puts (lists_of t) c.args.locked.now w.page c.args.lo c.args.n c.requires.known i c.requires.run c.requires.room in
    moved_as t c.put_out.new.tables (put_out p c.in-Resident.page c.args.lo c.args.n) (sweep p c.args.locked.now)
    (ap (λ (q : Page). put_out p q c.args.lo c.args.n) same ∙ x.is) c.put_out.ensures
