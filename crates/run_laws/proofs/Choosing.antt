-- Whom the swapper puts out, or brings in, holds a space, and is in, or out.
use Rattle.std.proofs.Common.{◌≡◌, inl, inr, ℕ, ◌==◌, Bool, true, false, cond, List, [], ◌∷◌, map, filter_map, find, Option, Some, None, refl, sym, ap, ◌∙◌, subst}
use Rattle.std.specs.List.{cons_option}
use Rattle.flat_state.specs.Flat.{Holding, Holds, Process, FlatState, process_of, holds_space}
use Rattle.page_model.specs.Placement.{Placement}
use Rattle.flat_state.specs.Change.{is_borrower}
use Rattle.page_model.specs.Swapper.{is_out, Runner, In, Out, swap_choice}
use Rattle.flat_state.specs.Numbers.{IsAbsent, AllDistinct, IsNumbered}
use Rattle.kernel_model.specs.Stands.{holds_some}
use Rattle.page_model.specs.Swapping.{OneOf, ComesIn, MayGo, GoesOut}
use Rattle.page_laws.proofs.Swapper.Choices.{chosen_in, chosen_out}
use Rattle.vm_facts.proofs.Tests.{eq_self}
use Rattle.std.proofs.lemmas.Bool.{ne_eqb}
use Rattle.run_model.specs.State.{runner_by, runners}

some_runner : (x y : Runner) → Some x ≡ Some y → x ≡ y
some_runner x y e = cc

runner_holds : (F : FlatState) (q : Process) (h : Holding) (r : Runner) → runner_by F q h ≡ Some r → (q.pid ≡ r.pid) × (holds_space h ≡ true)
runner_holds F q (Holds s) r e = (ap (λ (x : Runner). x.pid) (some_runner (record { pid = q.pid; sid = s.sid; borrowed = is_borrower F.processes q.pid; asleep = q.asleep }) r e), refl)
runner_holds F q _ r e = absurd cc

-- one of the processes has the runner's number, and holds a space
held_in : (F : FlatState) (ps : List Process) (r : Runner) → AllDistinct (map (λ (q : Process). q.pid) ps)
    → OneOf r (filter_map (λ q. runner_by F q q.holding) ps) → holds_some (find (λ q. q.pid == r.pid) ps) ≡ true
held_in F [] r d o = absurd o
held_in F (q ∷ ps) r d o = go (runner_by F q q.holding) refl (held_in F ps r d.1) o
  where
    rest : List Runner
    rest = filter_map (λ q. runner_by F q q.holding) ps

    absent : (qs : List Process) (n : ℕ) → IsAbsent n (map (λ (q : Process). q.pid) qs) → holds_some (find (λ x. x.pid == n) qs) ≡ true → ⊥
    absent [] n a e = absurd cc
    absent (x ∷ qs) n a e =
        let absent_go : (holds_some (find (λ y. y.pid == n) qs) ≡ true → ⊥) → holds_some (find (λ y. y.pid == n) qs) ≡ true → ⊥ = λ f k. f k in
        absent_go (absent qs n a.1) (sym (ap (λ (b : Bool). holds_some (cond b (Some x) (find (λ y. y.pid == n) qs))) (ne_eqb x.pid n a.0)) ∙ e)

    behind : holds_some (find (λ x. x.pid == r.pid) ps) ≡ true → holds_some (cond (q.pid == r.pid) (Some q) (find (λ x. x.pid == r.pid) ps)) ≡ true
    behind e = pick (q.pid == r.pid) refl
      where
        pick : (b : Bool) → (q.pid == r.pid) ≡ b → holds_some (cond b (Some q) (find (λ x. x.pid == r.pid) ps)) ≡ true
        pick true k = absurd (absent ps q.pid d.0 (ap (λ (n : ℕ). holds_some (find (λ x. x.pid == n) ps)) (Rattle.std.proofs.lemmas.Bool.eqb-true q.pid r.pid k) ∙ e))
        pick false k = e

    here : (q.pid ≡ r.pid) × (holds_space q.holding ≡ true) → holds_some (cond (q.pid == r.pid) (Some q) (find (λ x. x.pid == r.pid) ps)) ≡ true
    here h =
        ap (λ (n : ℕ). holds_some (cond (n == r.pid) (Some q) (find (λ x. x.pid == r.pid) ps))) h.0
        ∙ ap (λ (b : Bool). holds_some (cond b (Some q) (find (λ x. x.pid == r.pid) ps))) (eq_self r.pid) ∙ h.1

    go : (x : Option Runner) → runner_by F q q.holding ≡ x → (OneOf r rest → holds_some (find (λ y. y.pid == r.pid) ps) ≡ true) → OneOf r (cons_option x rest)
        → holds_some (cond (q.pid == r.pid) (Some q) (find (λ y. y.pid == r.pid) ps)) ≡ true
    go None e ih o = behind (ih o)
    go (Some y) e ih (inl i) = here (runner_holds F q q.holding r (e ∙ ap (λ (z : Runner). Some z) (sym i)))
    go (Some y) e ih (inr o) = behind (ih o)

pub out_holds : (p : Placement) (F : FlatState) (pid : ℕ) → IsNumbered F → swap_choice p (runners F) ≡ Out pid → holds_some (process_of F pid) ≡ true
out_holds p F pid n e =
    let g : GoesOut p (runners F) pid = chosen_out p (runners F) pid e in
    subst (λ (m : ℕ). holds_some (process_of F m) ≡ true) g.number (held_in F F.processes g.runner n.pids g.one)

pub out_in : (p : Placement) (F : FlatState) (pid : ℕ) → swap_choice p (runners F) ≡ Out pid → is_out p pid ≡ false
out_in p F pid e =
    let g : GoesOut p (runners F) pid = chosen_out p (runners F) pid e in
    let m : MayGo p g.runner = g.may in
    subst (λ (n : ℕ). is_out p n ≡ false) g.number m.resident

pub in_holds : (p : Placement) (F : FlatState) (pid : ℕ) → IsNumbered F → swap_choice p (runners F) ≡ In pid → holds_some (process_of F pid) ≡ true
in_holds p F pid n e =
    let g : ComesIn p (runners F) pid = chosen_in p (runners F) pid e in
    subst (λ (m : ℕ). holds_some (process_of F m) ≡ true) g.number (held_in F F.processes g.runner n.pids g.one)

pub in_out : (p : Placement) (F : FlatState) (pid : ℕ) → swap_choice p (runners F) ≡ In pid → is_out p pid ≡ true
in_out p F pid e =
    let g : ComesIn p (runners F) pid = chosen_in p (runners F) pid e in
    subst (λ (n : ℕ). is_out p n ≡ true) g.number g.out
