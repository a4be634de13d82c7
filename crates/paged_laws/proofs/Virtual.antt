-- A process that makes an entry of a paged run does so as under a dispatch of one instruction, whatever its kernel's policy is.
use Rattle.std.proofs.Common.{◌≡◌, ℕ, ◌+◌, ◌<◌, nat_lt, ◌&&◌, Bool, true, false, List, [], ◌∷◌, Option, Some, None, refl, ap, ◌∙◌, arith}
use Rattle.std.proofs.lemmas.Bool.Decides.{nat_tests}
use Rattle.vm_facts.specs.declared.page.Page.{Page}
use Rattle.vm_facts.specs.declared.entry.Entry.{Entry}
use Rattle.flat_state.specs.Flat.{Process, Inputs, process_of, can_step}
use Rattle.page_model.specs.Placement.{Placement, Due, Start, CopyOf}
use Rattle.flat_model.specs.Touched.{touched}
use Rattle.run_model.specs.declared.mark.Mark.{Mark}
use Rattle.run_model.specs.declared.mark.Mark.TheVariants as marks
use Rattle.run_model.specs.State.{State}
use Rattle.run_model.specs.Wanted.{first_absent, wanted_by, wanted}
use Rattle.run_model.specs.Act.{must_refuse, must_settle, act_by, act_if, act}
use Rattle.run_model.specs.Next.{next_unit}
use Rattle.run_model.specs.Kinds.{ProcessRuns}
use Rattle.run_laws.proofs.Flows.{runs_next}
use Rattle.paged_model.specs.declared.reason.Reason.TheVariants as reasons
use Rattle.paged_model.specs.Moves.{due_first}
use Rattle.paged_model.specs.Steps.{stuck_if, stuck, away_by}
use Rattle.paged_model.proofs.Reasoned.{unless_none}
use Rattle.paged_laws.specs.Paged.{under_dispatch}
use Rattle.paged_laws.proofs.Acted.{Steps, act_is}

pub clear_due : (ds : List Due) → due_first ds ≡ None → ds ≡ []
clear_due [] e = refl
clear_due (Start q ∷ ds) e = absurd cc
clear_due (CopyOf q parent ∷ ds) e = absurd cc

pub can_of : (A : Inputs) (s : State) (pid : ℕ) → stuck A s pid ≡ None → can_step s.point.flat pid ≡ true
can_of A s pid e = go (process_of s.point.flat pid) e
  where
    go : (o : Option Process) → stuck_if A s pid o ≡ None → can_step s.point.flat pid ≡ true
    go None e = absurd cc
    go (Some q) e = unless_none (can_step s.point.flat pid) (reasons.CannotStep pid) e

none_away : (p : Placement) (o : Option Page) → away_by p o ≡ None → o ≡ None
none_away p None e = refl
none_away p (Some q) e = absurd cc

by_same : (A : Inputs) (s : State) (m : Mark) (pid : ℕ) (a b : Bool) → act_by A (record s { mark = m }) pid a b ≡ act_by A s pid a b
by_same A s m pid true b = refl
by_same A s m pid false true = refl
by_same A s m pid false false = refl

pub act_same : (A : Inputs) (s : State) (m : Mark) (pid : ℕ) → act A (record s { mark = m }) pid ≡ act A s pid
unfolding act
act_same A s m pid = go (can_step s.point.flat pid)
  where
    go : (b : Bool) → act_if b A (record s { mark = m }) pid ≡ act_if b A s pid
    go true = by_same A s m pid (must_refuse A s pid) (must_settle A s pid)
    go false = refl

pub both : (a b : Bool) → a ≡ true → b ≡ true → (a && b) ≡ true
both true true e f = refl
both true false e f = absurd cc
both false b e f = absurd cc

-- under the dispatch it goes on
pub runs_so : (A : Inputs) (s : State) (pid : ℕ) (u : Entry) → Steps A s pid u → ProcessRuns A (under_dispatch s pid) pid false
runs_so A s pid u x = record {
  clear = clear_due s.place.due x.clear;
  on = (
    refl,
    both (can_step s.point.flat pid) (nat_lt s.count A.limit && nat_lt s.count (s.count + 1)) (can_of A s pid x.can)
        (both (nat_lt s.count A.limit) (nat_lt s.count (s.count + 1)) (let f = x.few in let l : s.count < A.limit = omega (arith, f) in grind (arith, nat_tests))
        (let l : s.count < s.count + 1 = omega arith in grind (arith, nat_tests))),
  );
  resident = x.resident;
}

-- and wants no page
pub wants_none : (A : Inputs) (s : State) (pid : ℕ) (u : Entry) → Steps A s pid u → wanted A (under_dispatch s pid) ≡ None
wants_none A s pid u x =
    ap (wanted_by A (under_dispatch s pid)) (clear_due s.place.due x.clear) ∙ none_away s.place (first_absent s.place (touched A s.point.flat pid)) x.pages

pub acts_so : (A : Inputs) (s : State) (pid : ℕ) (u : Entry) → Steps A s pid u → act A (under_dispatch s pid) pid ≡ Some u
acts_so A s pid u x = act_same A s (marks.Dispatch pid 1 s.count) pid ∙ act_is pid u (act A s pid) x.does

-- so the entry is the next unit there
pub next_so : (A : Inputs) (s : State) (pid : ℕ) (u : Entry) → Steps A s pid u → next_unit A (under_dispatch s pid) ≡ Some u
next_so A s pid u x = runs_next A (under_dispatch s pid) pid false u (runs_so A s pid u x) (wants_none A s pid u x) (acts_so A s pid u x)
