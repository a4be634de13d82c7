use Rattle.std.proofs.Common.{Some, ◌∙◌, sym, ap}
use Rattle.vax_pte.specs.declared.Place.{Place}
use Rattle.vax_pte.specs.declared.Place.TheVariants as places
use Rattle.kernel_tables.specs.Machine.{lists_of}
use Rattle.table_steps.proofs.Forgets.{MayForgetPage, entry_held, forgets_framed, forgets_swapped, forgets_nothing, no_entry}
use Rattle.table_steps.proofs.dropping.drop_page.Goals as goal

pub forget-requires : goal.forget-requires
forget-requires c =
    let m : MayForgetPage (lists_of c.args.tables.now) c.args.page = record { known = c.requires.known; writable = c.requires.writable; there = c.requires.there; rests = c.requires.rests } in
    let x = c.in-Some-Frame in
    entry_held (lists_of c.args.tables.now) c.args.page x.f x.field-0-1 x.field-0-2 m (sym c.entry.ensures ∙ x.is ∙ ap (λ (y : Place). Some y) x.field-0-is)

pub returns-in-Some-Frame : goal.returns-in-Some-Frame
returns-in-Some-Frame c =
    let m : MayForgetPage (lists_of c.args.tables.now) c.args.page = record { known = c.requires.known; writable = c.requires.writable; there = c.requires.there; rests = c.requires.rests } in
    let x = c.in-Some-Frame in
    forgets_framed c.args.tables.now c.forget.new.tables c.args.page x.f x.field-0-1 x.field-0-2 m (sym c.entry.ensures ∙ x.is ∙ ap (λ (y : Place). Some y) x.field-0-is) c.forget.ensures

pub returns-in-Some-Swap : goal.returns-in-Some-Swap
returns-in-Some-Swap c =
    let m : MayForgetPage (lists_of c.args.tables.now) c.args.page = record { known = c.requires.known; writable = c.requires.writable; there = c.requires.there; rests = c.requires.rests } in
    let x = c.in-Some-Swap in
    forgets_swapped c.args.tables.now _ c.args.page m (sym c.entry.ensures ∙ x.is ∙ ap (λ (y : Place). Some y) x.field-0-is) (ap (λ ss. record c.args.tables.now { spaces = ss }) c.set_places.ensures)

pub returns-in-Some-Zero : goal.returns-in-Some-Zero
returns-in-Some-Zero c =
    let m : MayForgetPage (lists_of c.args.tables.now) c.args.page = record { known = c.requires.known; writable = c.requires.writable; there = c.requires.there; rests = c.requires.rests } in
    let x = c.in-Some-Zero in
    forgets_nothing c.args.tables.now c.args.page places.Zero m (sym c.entry.ensures ∙ x.is ∙ ap (λ (y : Place). Some y) x.field-0-is) tt

pub returns-in-Some-Image : goal.returns-in-Some-Image
returns-in-Some-Image c =
    let m : MayForgetPage (lists_of c.args.tables.now) c.args.page = record { known = c.requires.known; writable = c.requires.writable; there = c.requires.there; rests = c.requires.rests } in
    let x = c.in-Some-Image in
    forgets_nothing c.args.tables.now c.args.page (places.Image x.field-0-0) m (sym c.entry.ensures ∙ x.is ∙ ap (λ (y : Place). Some y) x.field-0-is) tt

pub returns-in-None : goal.returns-in-None
returns-in-None c =
    let m : MayForgetPage (lists_of c.args.tables.now) c.args.page = record { known = c.requires.known; writable = c.requires.writable; there = c.requires.there; rests = c.requires.rests } in
    no_entry c.args.tables.now c.args.page m (sym c.entry.ensures ∙ c.in-None.is)
