use Rattle.std.proofs.Common.{◌≡◌, Bool, true, false, Option, Some, sym, ap, ◌∙◌}
use Rattle.vm_facts.specs.declared.page.Page.{Page}
use Rattle.page_laws.proofs.Lists.Local.{none_some}
use Rattle.std.proofs.lemmas.Option.{same_Some}
use Rattle.page_model.specs.Hands.{sweep}
use Rattle.kernel_tables.specs.declared.tables.Tables.{Tables}
use Rattle.kernel_tables.specs.View.{placement_of}
use Rattle.kernel_tables.specs.Machine.{lists_of}
use Rattle.kernel_tables.specs.Launches.{put_out}
use Rattle.table_steps.proofs.Puttings.{moved_as}
use Rattle.table_steps.proofs.Hands.{idle_back, sweep_puts, sweep_rests, moved_none}
use Rattle.table_steps.proofs.launching.sweep_by_look.Goals as goal

valid_not : (w q : Page) (b : Bool) → ◌≡◌ {A = Option (Page × Bool)} (Some (w, b)) (Some (q, false)) → b ≡ true → ⊥
valid_not w q b e h = absurd (let x : ◌≡◌ {A = Page × Bool} (w, b) (q, false) = same_Some (w, b) (q, false) e in let y : true ≡ false = sym h ∙ ap (λ (z : Page × Bool). z.1) x in cc)

pub put_out-requires-clause-may : goal.put_out-requires-clause-may
put_out-requires-clause-may c =
    let t : Tables = c.args.tables.now in
    let i = idle_back (lists_of t) c.args.locked.now c.in-Some-default-false.page c.requires.known
    (sym c.page_under.ensures ∙ c.in-Some-default-false.is ∙ ap (λ (b : Bool). Some (c.in-Some-default-false.page, b)) c.in-Some-default-false.field-0-1-test) in
    let x = sweep_puts (lists_of t) c.args.locked.now c.in-Some-default-false.page c.args.lo c.args.n c.requires.known i c.requires.run c.requires.room in
    x.may

pub returns-in-Some-default-false : goal.returns-in-Some-default-false
returns-in-Some-default-false c =
    let t : Tables = c.args.tables.now in
    let i = idle_back (lists_of t) c.args.locked.now c.in-Some-default-false.page c.requires.known
    (sym c.page_under.ensures ∙ c.in-Some-default-false.is ∙ ap (λ (b : Bool). Some (c.in-Some-default-false.page, b)) c.in-Some-default-false.field-0-1-test) in
    let x = sweep_puts (lists_of t) c.args.locked.now c.in-Some-default-false.page c.args.lo c.args.n c.requires.known i c.requires.run c.requires.room in
    moved_as t c.put_out.new.tables (put_out (placement_of (lists_of t)) c.in-Some-default-false.page c.args.lo c.args.n) (sweep (placement_of (lists_of t)) c.args.locked.now) x.is c.put_out.ensures

pub returns-in-Some-default-true : goal.returns-in-Some-default-true
returns-in-Some-default-true c =
    let t : Tables = c.args.tables.now in
    moved_none t (sweep (placement_of (lists_of t)) c.args.locked.now) c.requires.known
    (sweep_rests (lists_of t) c.args.locked.now c.requires.known (λ q e. valid_not _ q _ (sym c.in-Some-default-true.is ∙ c.page_under.ensures ∙ e) c.in-Some-default-true.field-0-1-test))

pub returns-in-None : goal.returns-in-None
returns-in-None c =
    let t : Tables = c.args.tables.now in
    moved_none t (sweep (placement_of (lists_of t)) c.args.locked.now) c.requires.known
    (sweep_rests (lists_of t) c.args.locked.now c.requires.known (λ q e. none_some (q, false) (sym c.in-None.is ∙ c.page_under.ensures ∙ e)))
