-- What is told at each state of a run, and the unit of an audit.
use Rattle.std.proofs.Common.{◌≡◌, ℕ, Bool, List, [], Some, ap, subst, ◌∙◌}
use Rattle.std.specs.Prelude.{map}
use Rattle.vm_facts.specs.declared.entry.Entry.{Entry}
use Rattle.flat_state.specs.Flat.{Inputs}
use Rattle.page_model.specs.Holdings.{Holdings}
use Rattle.page_model.specs.Placement.{Due}
use Rattle.kernel_model.specs.Start.{kept_of}
use Rattle.kernel_model.specs.Sound.{Sound, lives}
use Rattle.run_model.specs.declared.mark.Mark.{Mark}
use Rattle.run_model.specs.declared.mark.Mark.TheVariants.{Audit}
use Rattle.run_model.specs.State.{State}
use Rattle.run_model.specs.Lawful.{Reaches}
use Rattle.run_model.specs.Next.{or_else, due_unit, under, next_mark, owners_of, next_unit}
use Rattle.run_laws.specs.Running.{CanRun, IsRun}
use Rattle.run_laws.specs.Standing.{Placed, MarkStands, machine_of}
use Rattle.run_laws.proofs.Wholes.{reached_run}
use Rattle.owner_lines.specs.Account.{text_at, IsToldAt}
use Rattle.owner_lines.proofs.Telling.{owners_told_so}

pub told_there : (A : Inputs) (hs : Holdings) (journal : List Entry) (s : State) (entries : ℕ) (over : Bool) → CanRun A hs → Reaches A journal s
    → IsToldAt A entries over s (text_at A entries over s)
told_there A hs journal s entries over can reaches =
    let placed : Placed A s.point.flat s.place s.holdings = (reached_run A hs journal s can reaches).placed in
    let sound : Sound A.swap_blocks (machine_of s.point.flat s.place s.holdings) = placed.sound in
    owners_told_so entries A.swap_blocks over (lives (machine_of s.point.flat s.place s.holdings).processes) s.place s.holdings (map kept_of s.point.flat.processes) sound.owner

pub audit_there : (A : Inputs) (hs : Holdings) (journal : List Entry) (s : State) → CanRun A hs → Reaches A journal s → s.mark ≡ Audit
    → next_unit A s ≡ Some (owners_of s.place s.holdings)
unfolding next_unit
audit_there A hs journal s can reaches mark =
    let run : IsRun A s = reached_run A hs journal s can reaches in
    let clear : s.place.due ≡ [] = subst (MarkStands s) mark run.mark in
    ap (λ (ds : List Due). or_else (due_unit s.place ds) (or_else (under A s s.mark) (next_mark A s))) clear
    ∙ ap (λ (m : Mark). or_else (under A s m) (next_mark A s)) mark
