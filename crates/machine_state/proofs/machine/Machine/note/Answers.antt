use Rattle.std.proofs.Common.{◌≡◌, List, [], ◌∷◌, ◌++◌, refl, sym, ap, ◌∙◌}
use Rattle.std.proofs.lemmas.Option.{same_Some}
use Rattle.vm_facts.specs.declared.entry.Entry.{Entry}
use Rattle.vm_facts.specs.declared.entry.Entry.TheVariants as entries
use Rattle.flat_state.specs.Journal.{append}
use Rattle.page_model.specs.PageBytes.{bytes_in}
use Rattle.kernel_model.specs.Kernel.{Kernel, note_step}
use Rattle.kernel_model.specs.Coupled.{beside_kernel}
use Rattle.table_steps.proofs.Moves.{note_coupled}
use Rattle.table_steps.proofs.KernelLawsSoundSteps.{note_sound}
use Rattle.table_steps.proofs.NumbersApart.{note_numbered}
use Rattle.table_steps.proofs.Stills.{pushed}
use Rattle.table_steps.specs.Tables.{Tables}
use Rattle.table_steps.specs.Machine.{Standing, kernel_by}
use Rattle.table_steps.specs.Conditions.{KeepsFlat, SameEverywhere}
use Rattle.table_steps.specs.Calls.{IsNote}
use Rattle.machine_state.proofs.Standings.{running, stands_now}
use Rattle.machine_state.proofs.Stepping.{Stepped, stepped}
use Rattle.machine_state.proofs.machine.Machine.note.Goals as goal

-- such an entry isn't joined to the last one
note_append : (journal : List Entry) (e : Entry) → IsNote e → append journal e ≡ journal ++ e ∷ []
note_append journal (entries.Event line) h = refl
note_append journal (entries.Turn pid) h = refl
note_append journal (entries.Refused pid) h = refl
note_append journal (entries.Owners free used moving held) h = refl
note_append journal _ h = absurd h

-- it moves no byte
note_alike : (k : Kernel) (e : Entry) → SameEverywhere k (note_step k e)
note_alike k e images image flat w =
    record { frames = λ f g a b. ap (bytes_in (beside_kernel k images image flat)) (same_Some g f (sym b ∙ a)); swap = refl; start = refl }

step : (c : goal.After-push_reserved)
    → Stepped c.self.inside (record c.self.inside { journal = c.push_reserved.new.self; room = c.make_room.new.room }) c.args.self.now
    (note_step (kernel_by c.self.inside.tables c.self.inside.journal.items c.self.inside.stopped) c.args.e)
step c =
    let t : Tables = c.self.inside.tables in
    let k : Kernel = kernel_by t c.self.inside.journal.items c.self.inside.stopped in
    let r = running c.self.inside c.args.self.now c.self.invariant c.self.view_is c.requires.ready in
    let now = stands_now c.self.inside c.args.self.now c.self.invariant c.self.view_is c.requires.ready.running.runs in
    let journal : c.push_reserved.new.self.items ≡ c.self.inside.journal.items ++ c.args.e ∷ [] =
    c.push_reserved.ensures.items ∙ ap (λ (j : List Entry). j ++ c.args.e ∷ []) c.make_room.ensures.same in
    stepped c.self.inside _ c.args.self.now _ c.self.invariant c.self.view_is c.requires.ready (record {
      kept = record { params = refl; images = refl; book = refl; found = refl; next_pid = refl; next_sid = refl; records = now.stands.records };
      is = ap (λ (j : List Entry). kernel_by t j c.self.inside.stopped) (journal ∙ sym (note_append c.self.inside.journal.items c.args.e c.requires.note));
      runs = record { sound = note_sound t.book.size k c.args.e r.sound; numbered = note_numbered k c.args.e r.numbered; due = r.due; tied = r.tied };
      ring = now.stands.ring;
      images = λ sid. refl;
      holders = λ h. record { spaces = h.spaces; once = h.once };
      grown = pushed _ _ _ _ _ refl journal c.in_ok-make_room.ensures.ok.0;
      stopped = refl;
      lost = refl;
      room = c.make_room.ensures.room;
    })

pub returns-clause-performs : goal.returns-clause-performs
returns-clause-performs c =
    let k : Kernel = kernel_by c.self.inside.tables c.self.inside.journal.items c.self.inside.stopped in
    let z = step c in
    record {
      step = z.is ∙ ap (λ (s : Standing). note_step s.kernel c.args.e) c.self.view_is;
      rest = z.rest;
      keeps = z.says KeepsFlat (λ images image flat coupled. note_coupled k images image flat c.args.e coupled);
      same = z.says SameEverywhere (note_alike k c.args.e);
      goes_on = z.goes_on;
    }
