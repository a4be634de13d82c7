-- The marks of a run by the policy, and those of the same run seen as one by any policy.
use Rattle.std.proofs.Common.{◌≡◌, ◌⊎◌, inl, inr, ℕ, true, false, List, [], ◌∷◌, filter_map, Option, Some, None, refl, sym, ap, ◌∙◌, subst}
use Rattle.std.specs.List.{cons_option}
use Rattle.vm_facts.specs.declared.event.Event.{Event}
use Rattle.vm_facts.specs.declared.event.Event.TheVariants as events
use Rattle.flat_state.specs.Flat.{Holding, Holds, Lends, Zombie, Process, FlatState}
use Rattle.flat_state.specs.Change.{is_borrower}
use Rattle.page_model.specs.Placement.{Placement, Transfer}
use Rattle.page_model.specs.Swapper.{Runner, Choice, In, Out, Nothing, is_out, swap_choice}
use Rattle.page_model.specs.Swapping.{OneOf, MayGo, GoesOut}
use Rattle.page_laws.proofs.Swapper.Choices.{chosen_out}
use Rattle.run_model.specs.declared.mark.Mark.{Mark}
use Rattle.run_model.specs.declared.mark.Mark.TheVariants as marks
use Rattle.run_model.specs.State.{State, runner_by, runners}
use Rattle.run_model.specs.After.{interrupt_mark, swap_mark, mark_of_line, completed, moved_on, audited}

-- Who goes out didn't borrow its space.

runner_borrowed : (F : FlatState) (q : Process) (h : Holding) (r : Runner) → runner_by F q h ≡ Some r → r.borrowed ≡ is_borrower F.processes r.pid
runner_borrowed F q (Holds s) r e =
    let x : record { pid = q.pid; sid = s.sid; borrowed = is_borrower F.processes q.pid; asleep = q.asleep } ≡ r = cc e in
    subst (λ (y : Runner). y.borrowed ≡ is_borrower F.processes y.pid) x refl
runner_borrowed F q (Lends sid child) r e = absurd cc
runner_borrowed F q (Zombie status) r e = absurd cc

borrowed_in : (F : FlatState) (ps : List Process) (r : Runner) → OneOf r (filter_map (λ q. runner_by F q q.holding) ps)
    → r.borrowed ≡ is_borrower F.processes r.pid
borrowed_in F [] r o = absurd o
borrowed_in F (q ∷ ps) r o = go (runner_by F q q.holding) refl (borrowed_in F ps r) o
  where
    go : (x : Option Runner) → runner_by F q q.holding ≡ x
        → (OneOf r (filter_map (λ q. runner_by F q q.holding) ps) → r.borrowed ≡ is_borrower F.processes r.pid)
        → OneOf r (cons_option x (filter_map (λ q. runner_by F q q.holding) ps)) → r.borrowed ≡ is_borrower F.processes r.pid
    go None e ih o = ih o
    go (Some y) e ih (inl i) = runner_borrowed F q q.holding r (e ∙ ap (λ (z : Runner). Some z) (sym i))
    go (Some y) e ih (inr o) = ih o

pub out_owns : (p : Placement) (F : FlatState) (pid : ℕ) → swap_choice p (runners F) ≡ Out pid → is_borrower F.processes pid ≡ false
out_owns p F pid e =
    let g : GoesOut p (runners F) pid = chosen_out p (runners F) pid e in
    let m : MayGo p g.runner = g.may in
    subst (λ (n : ℕ). is_borrower F.processes n ≡ false) g.number (sym (borrowed_in F F.processes g.runner g.one) ∙ m.own)

-- The marks.

-- under a turn the process has the turn, or is to come in first; under a line no process runs, and who goes out didn't borrow its space
abbrev pub AgreesBy : Mark → State → Mark → Type 0
AgreesBy (marks.Turn pid since) s m = ((m ≡ marks.BringIn pid) × (is_out s.place pid ≡ true)) ⊎ ((c : ℕ) × (m ≡ marks.Turn pid c))
AgreesBy (marks.PutOut pid) s m = (m ≡ marks.Over) × (is_borrower s.point.flat.processes pid ≡ false)
AgreesBy _ s m = m ≡ marks.Over

abbrev pub Agrees : State → Mark → Type 0
Agrees s m = AgreesBy s.mark s m

-- a mark that is no turn
abbrev pub UnderLine : Mark → State → Type 0
UnderLine (marks.Turn pid since) s = ⊥
UnderLine (marks.PutOut pid) s = is_borrower s.point.flat.processes pid ≡ false
UnderLine _ s = Unit {0}

pub line_agrees : (k : Mark) (s : State) → UnderLine k s → AgreesBy k s marks.Over
line_agrees (marks.Turn pid since) s u = absurd u
line_agrees (marks.PutOut pid) s u = (refl, u)
line_agrees marks.Over s u = refl
line_agrees (marks.Dispatch pid count since) s u = refl
line_agrees marks.Interrupt s u = refl
line_agrees (marks.Hands count) s u = refl
line_agrees (marks.BringIn pid) s u = refl
line_agrees marks.Audit s u = refl

-- the mark of a line
pub line_mark : (s t : State) (o : Option Event) → t.point.flat ≡ s.point.flat → UnderLine (mark_of_line s o) t
line_mark s t None e = tt
line_mark s t (Some (events.Dispatch pid count)) e = tt
line_mark s t (Some events.Interrupt) e = go s.place.transfers
  where
    go : (ts : List Transfer) → UnderLine (interrupt_mark ts) t
    go [] = tt
    go (x ∷ ts) = tt
line_mark s t (Some (events.Hands count)) e = tt
line_mark s t (Some events.Swapper) e = go (swap_choice s.place (runners s.point.flat)) refl
  where
    go : (c : Choice) → swap_choice s.place (runners s.point.flat) ≡ c → UnderLine (swap_mark c) t
    go (In pid) i = tt
    go (Out pid) i = subst (λ (F : FlatState). is_borrower F.processes pid ≡ false) (sym e) (out_owns s.place s.point.flat pid i)
    go Nothing i = tt
line_mark s t (Some events.Audit) e = tt

-- What units leave of marks.

-- who is out, and who borrowed, stay so
pub record Stays (s t : State) : Type 0 where
  pub out : (pid : ℕ) → is_out t.place pid ≡ is_out s.place pid
  pub flat : t.point.flat ≡ s.point.flat

turn_stays : (pid : ℕ) (s t : State) (m : Mark) → Stays s t → ((m ≡ marks.BringIn pid) × (is_out s.place pid ≡ true)) ⊎ ((c : ℕ) × (m ≡ marks.Turn pid c))
    → ((m ≡ marks.BringIn pid) × (is_out t.place pid ≡ true)) ⊎ ((c : ℕ) × (m ≡ marks.Turn pid c))
turn_stays pid s t m x (inl a) = inl (a.0, x.out pid ∙ a.1)
turn_stays pid s t m x (inr a) = inr a

put_stays : (pid : ℕ) (s t : State) (m : Mark) → Stays s t → (m ≡ marks.Over) × (is_borrower s.point.flat.processes pid ≡ false)
    → (m ≡ marks.Over) × (is_borrower t.point.flat.processes pid ≡ false)
put_stays pid s t m x a = (a.0, ap (λ (F : FlatState). is_borrower F.processes pid) x.flat ∙ a.1)

pub mark_stays : (k : Mark) (s t : State) (m : Mark) → Stays s t → AgreesBy k s m → AgreesBy k t m
mark_stays (marks.Turn pid since) s t m x a = turn_stays pid s t m x a
mark_stays (marks.PutOut pid) s t m x a = put_stays pid s t m x a
mark_stays marks.Over s t m x a = a
mark_stays (marks.Dispatch pid count since) s t m x a = a
mark_stays marks.Interrupt s t m x a = a
mark_stays (marks.Hands count) s t m x a = a
mark_stays (marks.BringIn pid) s t m x a = a
mark_stays marks.Audit s t m x a = a

pub completed_stays : (k : Mark) (s t : State) (m : Mark) → Stays s t → AgreesBy k s m → AgreesBy (completed k) t m
completed_stays (marks.Turn pid since) s t m x a = turn_stays pid s t m x a
completed_stays (marks.PutOut pid) s t m x a = put_stays pid s t m x a
completed_stays marks.Over s t m x a = a
completed_stays (marks.Dispatch pid count since) s t m x a = a
completed_stays marks.Interrupt s t m x a = a
completed_stays (marks.Hands count) s t m x a = a
completed_stays (marks.BringIn pid) s t m x a = a
completed_stays marks.Audit s t m x a = a

pub moved_stays : (n : ℕ) (k : Mark) (s t : State) (m : Mark) → Stays s t → AgreesBy k s m → AgreesBy (moved_on n k) t m
moved_stays n (marks.Turn pid since) s t m x a = turn_stays pid s t m x a
moved_stays n (marks.PutOut pid) s t m x a = put_stays pid s t m x a
moved_stays n marks.Over s t m x a = a
moved_stays n (marks.Dispatch pid count since) s t m x a = a
moved_stays n marks.Interrupt s t m x a = a
moved_stays n (marks.Hands count) s t m x a = a
moved_stays n (marks.BringIn pid) s t m x a = a
moved_stays n marks.Audit s t m x a = a

pub audited_stays : (k : Mark) (s t : State) (m : Mark) → Stays s t → AgreesBy k s m → AgreesBy (audited k) t m
audited_stays (marks.Turn pid since) s t m x a = turn_stays pid s t m x a
audited_stays (marks.PutOut pid) s t m x a = put_stays pid s t m x a
audited_stays marks.Over s t m x a = a
audited_stays (marks.Dispatch pid count since) s t m x a = a
audited_stays marks.Interrupt s t m x a = a
audited_stays (marks.Hands count) s t m x a = a
audited_stays (marks.BringIn pid) s t m x a = a
audited_stays marks.Audit s t m x a = a
