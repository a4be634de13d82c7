use Rattle.std.proofs.Common.{◌≡◌, List, Some, OnOk, rules, sym, subst, ◌∙◌}
use Rattle.user_vax.specs.Program.{ByteAccess}
use Rattle.user_vax.specs.Instruction.{writes_of}
use Rattle.flat_state.specs.Space.{puts}
use Rattle.flat_state.specs.Change.{apply_writes}
use Rattle.flat_model.specs.Calls.{call_of}
use Rattle.flat_model.specs.Step.{written_process}
use Rattle.flat_process.specs.Present.{pages_of, gathered}
use Rattle.flat_process.proofs.Paging.{after_call}
use Rattle.flat_process.proofs.present.Paged.ask_behind.Goals as goal

pub returns-in-Some-clause-pages : goal.returns-in-Some-clause-pages
returns-in-Some-clause-pages c = λ F p s r answer registers space.
    let found : call_of c.in-Call.number ≡ Some c.in-Some.call = search rules in
    subst (λ (list : List ByteAccess). OnOk c.ask.result (c.ask.new.self.pages.items ≡ gathered c.args.self.now.pages.items (pages_of c.args.self.now.space list)))
    (sym (after_call c.args.programs.now F p s c.args.self.now.space r c.in-Call.number c.in-Some.call c.args.regs (sym c.in-Call.is ∙ answer) found registers space))
    (c.ask.ensures.pages (apply_writes F p.pid (writes_of r)) (written_process p s (writes_of r)) (puts s (writes_of r)))
