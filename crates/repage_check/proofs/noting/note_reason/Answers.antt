use Rattle.std.proofs.Common.{◌≡◌, sym, subst}
use Rattle.vm_facts.specs.declared.entry.Entry.{Entry}
use Rattle.paged_model.specs.Steps.{owners_reason}
use Rattle.repage_check.specs.Units.{note_reason}
use Rattle.repage_check.proofs.noting.note_reason.Goals as goal

pub returns-in-Event : goal.returns-in-Event
returns-in-Event c = λ A s t. subst (λ (e : Entry). c.event_reason.result ≡ note_reason A s e) (sym c.in-Event.is) (c.event_reason.ensures s t.lines)

pub returns-in-Turn : goal.returns-in-Turn
returns-in-Turn c = λ A s t. subst (λ (e : Entry). c.stuck.result ≡ note_reason A s e) (sym c.in-Turn.is) (c.stuck.ensures A s t.tables)

pub returns-in-Owners : goal.returns-in-Owners
returns-in-Owners c = λ A s t.
    subst (λ (e : Entry). c.owners_reason.result ≡ note_reason A s e) (sym c.in-Owners.is)
    (subst (λ (e : Entry). c.owners_reason.result ≡ owners_reason s e) c.in-Owners.is (c.owners_reason.ensures s t.owners))
