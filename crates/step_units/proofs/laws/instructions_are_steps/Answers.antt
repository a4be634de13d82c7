use Rattle.std.proofs.Common.{◌≡◌, true, false, [], refl}
use Rattle.step_units.proofs.Accessing.{serve_made, serve_now_made, access_stops}
use Rattle.step_units.proofs.Ran.{instruction_made}
use Rattle.step_units.proofs.laws.instructions_are_steps.Goals as goal

pub returns-clause-serves : goal.returns-clause-serves
returns-clause-serves c = serve_made

pub returns-clause-serve_stops : goal.returns-clause-serve_stops
returns-clause-serve_stops c A s old new holds image j pid p x address write before stop =
    access_stops A s old new holds image j pid false p x address write before [] stop (λ e. absurd (let z : false ≡ true = e in cc))

pub returns-clause-serves_now : goal.returns-clause-serves_now
returns-clause-serves_now c = serve_now_made

pub returns-clause-serve_now_stops : goal.returns-clause-serve_now_stops
returns-clause-serve_now_stops c A s old new holds image j pid p x address write before stop =
    access_stops A s old new holds image j pid true p x address write before before stop (λ e. refl)

pub returns-clause-is : goal.returns-clause-is
returns-clause-is c = instruction_made
