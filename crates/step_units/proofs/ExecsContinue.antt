-- What an execve replies.
use Rattle.std.proofs.Common.{ℕ, List, Option, Some, None, sym, subst}
use Rattle.std.specs.Prelude.{Result, Ok, Err}
use Rattle.vm_facts.specs.Answers.{Answers}
use Rattle.vm_facts.specs.declared.regs.Regs.{Regs}
use Rattle.user_vax.specs.Program.{Program, Gives, ◌>>=◌, run}
use Rattle.user_vax.specs.declared.refused.Refused.{Refused}
use Rattle.user_vax.proofs.Runs.{then, run_bind}
use Rattle.flat_state.specs.Flat.{NamedImage}
use Rattle.flat_model.specs.declared.calls.Reply.{Reply}
use Rattle.flat_model.specs.Calls.{three_arguments, string_limit, string_from, path_image, arguments_at, starts, execve_of, execve_reply}
use Rattle.step_units.specs.Calls.{StartsOrFails}

-- after a part of it, by what that comes to
then_starts : {A : Type 0} (r : Result A Refused) (f : A → Result Reply Refused) → ((x : A) → StartsOrFails (f x)) → StartsOrFails (then r f)
then_starts (Ok x) f h = h x
then_starts (Err refused) f h = tt

bind_starts : {A : Type 0} (memory : Answers) (p : Program A) (f : A → Program Reply) → ((x : A) → StartsOrFails (run memory (f x)))
    → StartsOrFails (run memory (p >>= f))
bind_starts memory p f h = subst StartsOrFails (sym (run_bind memory p f)) (then_starts (run memory p) (λ x. run memory (f x)) h)

image_starts : (memory : Answers) (found : ℕ × NamedImage) (arguments : Option (List (List ℕ))) → StartsOrFails (run memory (Gives (starts found arguments)))
image_starts memory found None = tt
image_starts memory found (Some arguments) = tt

found_starts : (memory : Answers) (argv : ℕ) (found : Option (ℕ × NamedImage)) → StartsOrFails (run memory (execve_of argv found))
found_starts memory argv None = tt
found_starts memory argv (Some found) =
    bind_starts memory (arguments_at argv) (λ arguments. Gives (starts found arguments)) (λ arguments. image_starts memory found arguments)

pub exec_starts : (known : List NamedImage) (memory : Answers) (regs : Regs) → StartsOrFails (run memory (execve_reply known regs))
unfolding execve_reply
exec_starts known memory regs =
    bind_starts memory (three_arguments regs) (λ asked. string_from string_limit asked.0 >>= λ path. execve_of asked.1 (path_image known path))
    (λ asked. bind_starts memory (string_from string_limit asked.0) (λ path. execve_of asked.1 (path_image known path))
    (λ path. found_starts memory asked.1 (path_image known path)))
