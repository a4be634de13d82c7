-- A list of next units is a run of the flat machine.
use Rattle.std.proofs.Common.{◌≡◌, ℕ, ◌==◌, ◌&&◌, Bool, true, false, if◌then◌else◌, List, [], ◌∷◌, Option, Some, None, Result, Ok, Err, ℤ, refl, sym, ap, ◌∙◌, subst}
use Rattle.flat_state.specs.Space.{Space}
use Rattle.flat_state.specs.Flat.{Holding, Holds, Lends, Zombie, Process, FlatState, NamedImage, Inputs, process_of, can_step}
use Rattle.vm_facts.specs.declared.page.Page.{Page}
use Rattle.vm_facts.specs.declared.entry.Entry.{Entry}
use Rattle.vm_facts.specs.declared.entry.Entry.TheVariants as entries
use Rattle.user_vax.specs.Effects.{Effect}
use Rattle.user_vax.specs.declared.refused.Refused.{Refused}
use Rattle.user_vax.specs.declared.refused.Refused.TheVariants.{Miss, Below, Signal}
use Rattle.swap_book.specs.Holdings.{Holdings}
use Rattle.page_model.specs.Placement.{Placement, Transfer}
use Rattle.flat_state.specs.Journal.{appended, instructions_of, IsUnit, AllUnits}
use Rattle.page_model.specs.Place.{space_of_process}
use Rattle.page_model.specs.Serve.{force_entry, is_full, serve_entry}
use Rattle.kernel_model.specs.Start.{ImagesFit}
use Rattle.page_laws.proofs.Swapper.PuttingOut.{unit_case}
use Rattle.page_laws.proofs.Moves.Units.{unit_is}
use Rattle.page_laws.proofs.Moves.Cases.{forcing_entry, serving_entries}
use Rattle.flat_model.specs.Instruction.{instruction_in}
use Rattle.flat_model.specs.declared.calls.Reply.{Reply}
use Rattle.flat_model.specs.declared.calls.Reply.TheVariants.{Writes}
use Rattle.flat_model.specs.declared.calls.SystemCall.{SystemCall}
use Rattle.flat_model.specs.Calls.{call_of}
use Rattle.flat_model.specs.Step.{replied_step, reply_behind, called_step, step_behind, step_of, step_holding, step_if, flat_step}
use Rattle.flat_model.specs.Run.{is_refused, step_at, behind_first, due_at, first_if, flat_run}
use Rattle.flat_model.specs.Asked.{start_held, held}
use Rattle.run_model.specs.State.{State, start}
use Rattle.run_model.specs.Wanted.{locked}
use Rattle.run_model.specs.After.{after, state_after, state_at}
use Rattle.run_model.specs.Act.{AllNext}
use Rattle.run_model.proofs.After.{state_appended}
use Rattle.run_model.proofs.FlatRuns.{run_held, run_flat}
use Rattle.run_model.proofs.Acting.{next_run}
use Rattle.run_model.specs.Next.{fill_by, fill_unit, begins_write, move_by, next_unit}
use Rattle.run_model.specs.Kinds.{Kind, Fills, Brings, Copies, ServesWanted, Acts, ProcessComes, Interrupts, HandsMove, ProcessGoes, Notes, Begins}
use Rattle.run_model.specs.Lawful.{Follows, Reaches, IsLawful}
use Rattle.run_model.proofs.NextUnits.{kind_of}
use Rattle.run_laws.specs.Flowing.{Flows}
use Rattle.run_laws.specs.Running.{IsRun}
use Rattle.run_laws.proofs.Flows.{Acted, Settles, Refuses, Steps, acted, next_or}
use Rattle.run_laws.proofs.Settling.{IsMark, begins_is}
use Rattle.run_laws.proofs.Acts.{ExecsFit}
use Rattle.run_laws.proofs.Running.{run_on}

-- Each next unit is a unit.

module _ (images : List NamedImage) (F : FlatState) (p : Process) where
  replied_units : (call : SystemCall) (effect : Effect) (reply : Reply) → AllUnits (replied_step images F p call effect reply).entries
  replied_units call effect (Writes []) = (tt, tt)
  replied_units call effect (Writes (byte ∷ bytes)) = (tt, (tt, tt))
  replied_units call effect _ = (tt, tt)

  called_units : (s : Space) (refused : Bool) (effect : Effect) (o : Option SystemCall) → AllUnits (called_step images F p s refused effect o).entries
  called_units s refused effect None = (tt, tt)
  called_units s refused effect (Some call) = replied_units call effect (reply_behind images F p s refused call effect)

  behind_units : (s : Space) (refused : Bool) (effect : Effect) (o : Option ℤ) → AllUnits (step_behind images F p s refused effect o).entries
  behind_units s refused effect None = (refl, tt)
  behind_units s refused effect (Some number) = called_units s refused effect (call_of number)

  of_units : (s : Space) (refused : Bool) (r : Result Effect Refused) → AllUnits (step_of images F p s refused r).entries
  of_units s refused (Ok effect) = behind_units s refused effect effect.call
  of_units s refused (Err (Miss address write)) = tt
  of_units s true (Err (Below address)) = (tt, tt)
  of_units s false (Err (Below address)) = (tt, tt)
  of_units s refused (Err (Signal number)) = (tt, tt)

step_units : (A : Inputs) (F : FlatState) (pid : ℕ) (refused : Bool) → AllUnits (flat_step A F pid refused).entries
unfolding flat_step
step_units A F pid refused = go (process_of F pid)
  where
    by : (p : Process) (h : Holding) → AllUnits (step_holding A.images F p refused h).entries
    by p (Holds s) = of_units A.images F p s refused (instruction_in s p.regs)
    by p (Lends sid child) = tt
    by p (Zombie status) = tt

    go : (o : Option Process) → AllUnits (step_if A.images F refused o).entries
    go None = tt
    go (Some p) = by p p.holding

behind_first_units : (es : List Entry) → AllUnits es → AllUnits (behind_first es)
behind_first_units [] h = tt
behind_first_units (e ∷ es) h = h.1

due_units : (o : Option Entry) (pid : ℕ) (es : List Entry) → AllUnits es → AllUnits (Rattle.flat_model.specs.Run.due o pid es)
due_units (Some (entries.Out p bytes)) pid es h = go (p == pid)
  where
    go : (b : Bool) → AllUnits (if b then behind_first es else es)
    go true = behind_first_units es h
    go false = h
due_units _ pid es h = h

first_unit : (b : Bool) (es : List Entry) (u : Entry) → AllUnits es → first_if b es ≡ Some u → IsUnit u
first_unit true (e ∷ es) u h k = subst IsUnit (let same : e ≡ u = cc in same) h.0
first_unit true [] u h k = absurd cc
first_unit false [] u h k = absurd cc
first_unit false (e ∷ es) u h k = absurd cc

force_is : (ts : List Transfer) → IsUnit (force_entry ts)
force_is = forcing_entry IsUnit refl tt

serve_is : (p : Placement) (q : Page) → IsUnit (serve_entry p q)
serve_is p q = serving_entries IsUnit p q tt tt refl tt tt

fill_is : (p : Placement) (e : Entry) → IsUnit e → IsUnit (fill_unit p e)
fill_is p e h = go p.free
  where
    go : (fr : List ℕ) → IsUnit (fill_by p e fr)
    go [] = force_is p.transfers
    go (f ∷ fs) = h

move_is : (b : Bool) → IsUnit (move_by b)
move_is true = tt
move_is false = refl

pub next_is_unit : (A : Inputs) (s : State) (u : Entry) → next_unit A s ≡ Some u → IsUnit u
next_is_unit A s u h = go (kind_of A s u h)
  where
    step : (pid : ℕ) → Acted A s pid u → IsUnit u
    step pid (Settles e) = subst IsUnit (sym e) tt
    step pid (Refuses e) = subst IsUnit (sym e) tt
    step pid (Steps f g e) =
        first_unit (can_step s.point.flat pid) (due_at A s.point pid) u (due_units s.point.last pid (step_at A s.point pid).entries (step_units A s.point.flat pid (is_refused s.point.last pid))) e

    mark : (x : Entry) → IsMark x → IsUnit x
    mark (entries.Event line) k = tt
    mark (entries.Turn p) k = tt
    mark _ k = absurd k

    go : Kind A s u → IsUnit u
    go (Acts pid now x w a) = step pid (acted A s pid u a)
    go (Fills q due e i) = subst IsUnit (sym i) (fill_is s.place (entries.Zero q) tt)
    go (Brings q parent due e i) = subst IsUnit (sym (unit_is s.place parent true u i).1) (serve_is s.place parent)
    go (Copies q parent due e j i) = subst IsUnit (sym i) (fill_is s.place (entries.Copy q) tt)
    go (ServesWanted pid now q x w i) = subst IsUnit (sym (unit_is s.place q now u i).1) (serve_is s.place q)
    go (ProcessComes pid e c i) = subst IsUnit (sym i) tt
    go (Interrupts e j i) = subst IsUnit (sym i) tt
    go (HandsMove count e j l w i) = subst IsUnit (sym i) (move_is (begins_write s.place (locked A s) && is_full s.place))
    go (ProcessGoes pid e j i) = subst IsUnit (sym i) (unit_case IsUnit s.place pid (space_of_process (process_of s.point.flat pid)) (λ t ts h. tt) (λ v e h k. tt) (λ e h. tt))
    go (Notes e j i) = subst IsUnit (sym i) tt
    go (Begins e j i) = begins_is IsUnit A s u i mark

pub all_units : (A : Inputs) (us : List Entry) (s t : State) → Follows A s us t → AllUnits us
all_units A [] s t f = tt
all_units A (u ∷ us) s t f = (next_is_unit A s u f.0, all_units A us (after A s u) t f.1)

-- Each is no flat entry, or what a process does next.
pub all_next : (A : Inputs) (us : List Entry) (s t : State) → ImagesFit A.images → ExecsFit A → IsRun A s → Follows A s us t → AllNext A s us
all_next A [] s t images execs r f = tt
all_next A (u ∷ us) s t images execs r f =
    let w : Flows A s = r.flows in
    (next_or A s u w.waits (kind_of A s u f.0), all_next A us (after A s u) t images execs (run_on A s u images execs r f.0) f.1)

pub follows_state : (A : Inputs) (us : List Entry) (s t : State) → Follows A s us t → state_after A s us ≡ t
unfolding state_after
follows_state A [] s t f = f
follows_state A (u ∷ us) s t f = follows_state A us (after A s u) t f.1

-- A journal that next units make is lawful: a run of the flat machine, with its count and its holdings.
pub reaches_lawful : (A : Inputs) (journal : List Entry) (s : State) → ImagesFit A.images → ExecsFit A
    → ((hs : Holdings) → start_held A ≡ Ok hs → IsRun A (start A hs)) → Reaches A journal s → IsLawful A journal s
reaches_lawful A journal s images execs begin r =
    let hs : Holdings = r.holdings in
    let us : List Entry = r.units in
    let units : AllUnits us = all_units A us (start A hs) s r.follows in
    let at : state_after A (start A hs) us ≡ s = follows_state A us (start A hs) s r.follows in
    let run : flat_run A (appended [] us) ≡ Some (state_after A (start A hs) us).point = next_run A hs us units (all_next A us (start A hs) s images execs (begin hs r.found) r.follows) in
    let flat : flat_run A journal ≡ Some s.point = ap (flat_run A) (sym r.joined) ∙ run ∙ ap (λ (x : State). Some x.point) at in
    let same : state_at A hs journal ≡ s = ap (state_at A hs) (sym r.joined) ∙ state_appended A hs us units ∙ at in
    let count : instructions_of journal ≡ s.count = sym (Rattle.run_model.proofs.After.state_count A hs journal) ∙ ap (λ (x : State). x.count) same in
    let holdings : held A journal ≡ Ok s.holdings = run_held A hs journal r.found (run_flat A hs journal s.point flat) ∙ ap (λ (x : State). Ok x.holdings) same in
    record { reaches = r; flat = flat; count = count; holdings = holdings }
