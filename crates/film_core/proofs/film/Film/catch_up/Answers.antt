use Rattle.std.proofs.Common.{◌≡◌, ◌+◌, ◌<◌, ◌^◌, Some, refl, sym, ap, ◌∙◌, arith}
use Rattle.std.proofs.lemmas.Option.{same_Some}
use Rattle.flat_state.specs.Journal.{counted as entry_counts}
use Rattle.film_core.specs.Films.{Filming}
use Rattle.film_core.specs.Marks.{last_entry}
use Rattle.film_core.specs.Entries.{caught_up}
use Rattle.film_core.proofs.Catching.{got, caught}
use Rattle.film_core.proofs.Longer.{last_got}
use Rattle.film_core.proofs.film.Film.catch_up.Goals as goal

pub overflow_add-counted : goal.overflow_add-counted
overflow_add-counted c =
    let last : last_entry c.args.self.now.machine.kernel.journal ≡ Some c.in-Some.e.now =
    ap (λ (f : Filming). last_entry f.machine.kernel.journal) (sym c.self.view_is) ∙ ap last_entry (sym c.journal.ensures) ∙ sym (c.in-Some.ensures.value ∙ last_got c.journal.result.now) in
    let few : c.args.self.now.counted + entry_counts c.in-Some.e.now < 2 ^ 32 = c.requires.few c.in-Some.e.now last in
    let counted : c.self.inside.counted ≡ c.args.self.now.counted = ap (λ (f : Filming). f.counted) c.self.view_is in
    let more = c.counted_by.ensures in
    omega (arith, few, counted, more)

pub returns : goal.returns
returns c e h =
    let last : last_entry c.args.self.now.machine.kernel.journal ≡ Some c.in-Some.e.now =
    ap (λ (f : Filming). last_entry f.machine.kernel.journal) (sym c.self.view_is) ∙ ap last_entry (sym c.journal.ensures) ∙ sym (c.in-Some.ensures.value ∙ last_got c.journal.result.now) in
    let same : c.in-Some.e.now ≡ e = same_Some c.in-Some.e.now e (sym last ∙ h) in
    let f : Filming = record { machine = c.self.inside.machine; lines = c.self.inside.lines; mark = c.self.inside.mark; counted = c.self.inside.counted; over = c.self.inside.over } in
    caught f c.args.lines.now c.in-Some.e.now c.lines_after-taken.result c.counted_by.result (c.self.inside.counted + c.counted_by.result) c.mark_after-mark.result
    c.copied-event.result c.counted_by.ensures
    (c.copied-event.ensures ∙ got c.get.result c.args.lines.now c.self.inside.lines c.get.ensures.lookup.1 c.get.ensures.lookup.3) c.lines_after-taken.ensures c.mark_after-mark.ensures refl
    ∙ ap (λ (g : Filming). caught_up g c.args.lines.now c.in-Some.e.now) c.self.view_is ∙ ap (caught_up c.args.self.now c.args.lines.now) same
