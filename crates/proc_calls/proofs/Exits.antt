-- What an exit replies is an end.
use Rattle.std.proofs.Common.{◌≡◌, ℕ, ◌*◌, ◌%◌, subst}
use Rattle.std.specs.Prelude.{Result, Ok}
use Rattle.vm_facts.specs.Answers.{Answers}
use Rattle.vm_facts.specs.declared.regs.Regs.{Regs}
use Rattle.user_vax.specs.Program.{Program, Gives, run}
use Rattle.user_vax.specs.declared.refused.Refused.{Refused}
use Rattle.user_vax.proofs.Runs.{ok_of_bind}
use Rattle.flat_model.specs.Calls.{argument, exit_reply}
use Rattle.flat_model.specs.declared.calls.Reply.{Reply}
use Rattle.flat_model.specs.declared.calls.Reply.TheVariants.{Exits}
use Rattle.proc_calls.specs.Leaving.{IsExit}

same_reply : (r s : Reply) → (let x : Result Reply Refused = Ok r in x) ≡ Ok s → r ≡ s
same_reply r s e = cc

pub only_exits : (a : Answers) (regs : Regs) (r : Reply) → run a (exit_reply regs) ≡ Ok r → IsExit r
unfolding exit_reply
only_exits a regs r e =
    let x = ok_of_bind a (argument regs 1) (λ (code : ℕ). let p : Program Reply = Gives (Exits (code % 256 * 256)) in p) r e in
    subst IsExit (same_reply (Exits (x.0 % 256 * 256)) r x.2) tt
