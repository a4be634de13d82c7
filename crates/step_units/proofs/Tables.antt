-- The kernel's processes and numbers are the flat machine's.
use Rattle.std.proofs.Common.{◌≡◌, ℕ, ◌==◌, ◌&&◌, Bool, true, false, cond, List, [], ◌∷◌, map, length, Option, Some, None, refl, sym, ap, ap₂, ◌∙◌}
use Rattle.std.specs.Prelude.{find}
use Rattle.std.proofs.lemmas.List.{length-map}
use Rattle.std.proofs.lemmas.Option.{same_Some}
use Rattle.vm_facts.specs.SwapImages.{SwapImage}
use Rattle.vm_facts.specs.declared.regs.Regs.{Regs}
use Rattle.flat_state.specs.Space.{Space}
use Rattle.flat_state.specs.Flat.{Holding, Holds, Lends, Zombie, Process, FlatState, Inputs}
use Rattle.flat_state.specs.Change.{is_zombie, is_zombie_child}
use Rattle.flat_state.specs.declared.change.Change.TheVariants.{Reap}
use Rattle.flat_model.specs.declared.calls.Reply.TheVariants.{Does}
use Rattle.flat_model.specs.Calls.{replied_both, status_of, wait_by, wait_reply}
use Rattle.kernel_model.specs.Kernel.{Kernel, Proc, HoldsSpace, life_of}
use Rattle.kernel_model.specs.Coupled.{Outline, outline_kept, outline_of, SameTables}
use Rattle.kernel_model.specs.ChangeStep.{is_ended, life_of_proc, space_of_life}
use Rattle.kernel_model.specs.Unit.{proc_of}
use Rattle.kernel_laws.proofs.Machine.Swaps.{found_at}
use Rattle.kernel_laws.proofs.Machine.Tables.{kept_at, outline_at}
use Rattle.machine_state.specs.Calls.{life_in}
use Rattle.proc_calls.specs.Callers.{regs_of, regs_by, parent_of, parent_by}
use Rattle.proc_calls.specs.Waiting.{is_child, is_ended_child, exit_status as kept_status, wait_by_records as kept_wait, wait_answer as wait_among}
use Rattle.proc_calls.specs.Growth.{space_of_pid}
use Rattle.run_model.specs.State.{State}
use Rattle.run_units.specs.Serving.{At}
use Rattle.run_units.specs.Touching.{RunsInSpace}
use Rattle.run_units.proofs.Stepping.{record_registers}

-- The record of a process that runs.

pub record IsKept (k : Kernel) (pid : ℕ) (p : Process) (x : Space) : Type 0 where
  pub proc : Proc
  pub there : proc_of k pid ≡ Some proc
  pub outline : outline_kept proc ≡ outline_of p
  pub number : p.pid ≡ pid
  pub life : proc.life ≡ HoldsSpace x.sid
  pub regs : proc.regs ≡ p.regs

pub is_kept : (A : Inputs) (s : State) (k : Kernel) (image : SwapImage) (pid : ℕ) (now : Bool) (p : Process) (x : Space) → At A s k image
    → RunsInSpace A s pid now p x → IsKept k pid p x
is_kept A s k image pid now p x at r =
    let flat : FlatState = s.point.flat in
    let tables : SameTables k flat = at.stands.keeps.coupled.tables in
    let found = found_at flat pid p r.here in
    let kept = kept_at k.processes flat.processes tables.processes pid p found.1 in
    let outline : outline_kept kept.0 ≡ outline_of p = outline_at k.processes flat.processes tables.processes pid kept.0 p kept.1 found.1 in
    record {
      proc = kept.0;
      there = kept.1;
      outline = outline;
      number = found.0;
      life = ap (λ (o : Outline). o.life) outline ∙ ap life_of r.holds;
      regs = record_registers A s k image pid now p x kept.0 at r kept.1;
    }

pub regs_is : (k : Kernel) (pid : ℕ) (p : Process) (x : Space) → IsKept k pid p x → regs_of k pid ≡ p.regs
regs_is k pid p x h = ap regs_by h.there ∙ h.regs

pub parent_is : (k : Kernel) (pid : ℕ) (p : Process) (x : Space) → IsKept k pid p x → parent_of k pid ≡ p.parent
parent_is k pid p x h = ap parent_by h.there ∙ ap (λ (o : Outline). o.parent) h.outline

pub life_is : (k : Kernel) (pid : ℕ) (p : Process) (x : Space) → IsKept k pid p x → life_in k pid ≡ HoldsSpace x.sid
life_is k pid p x h = ap life_of_proc h.there ∙ h.life

pub held_is : (k : Kernel) (pid : ℕ) (p : Process) (x : Space) → IsKept k pid p x → space_of_pid k pid ≡ x.sid
held_is k pid p x h = ap space_of_life (life_is k pid p x h)

-- How many processes there are.

pub as_many : (k : Kernel) (flat : FlatState) → SameTables k flat → length k.processes ≡ length flat.processes
as_many k flat t =
    sym (length-map k.processes outline_kept) ∙ ap (λ (os : List Outline). length os) t.processes ∙ length-map flat.processes outline_of

-- What a wait comes to.

abbrev outlined : {X : Type 0} → (X → Outline) → Option X → Option Outline
outlined g None = None
outlined g (Some x) = Some (g x)

found_same : {X : Type 0} (g : X → Outline) (test : Outline → Bool) (xs : List X) → outlined g (find (λ x. test (g x)) xs) ≡ find test (map g xs)
found_same g test [] = refl
found_same g test (x ∷ xs) = go (test (g x)) (found_same g test xs)
  where
    go : (b : Bool) → outlined g (find (λ y. test (g y)) xs) ≡ find test (map g xs)
        → outlined g (cond b (Some x) (find (λ y. test (g y)) xs)) ≡ cond b (Some (g x)) (find test (map g xs))
    go true h = refl
    go false h = h

found_alike : {X : Type 0} (one other : X → Bool) (xs : List X) → ((x : X) → one x ≡ other x) → find one xs ≡ find other xs
found_alike one other [] h = refl
found_alike one other (x ∷ xs) h = ap₂ (λ (b : Bool) (o : Option _). cond b (Some x) o) (h x) (found_alike one other xs h)

ended_same : (h : Holding) → is_zombie h ≡ is_ended (life_of h)
ended_same (Holds s) = refl
ended_same (Lends sid child) = refl
ended_same (Zombie status) = refl

status_same : (h : Holding) → kept_status (life_of h) ≡ status_of h
status_same (Holds s) = refl
status_same (Lends sid child) = refl
status_same (Zombie status) = refl

waits_same : (a : Option Proc) (b : Option Process) (c : Option Proc) (d : Option Process) (regs : Regs) → outlined outline_kept a ≡ outlined outline_of b
    → outlined outline_kept c ≡ outlined outline_of d → kept_wait a c regs ≡ wait_by b d regs
waits_same None None c d regs e f = refl
waits_same None (Some b) c d regs e f = absurd cc
waits_same (Some a) None c d regs e f = absurd cc
waits_same (Some a) (Some b) None None regs e f = refl
waits_same (Some a) (Some b) None (Some d) regs e f = absurd cc
waits_same (Some a) (Some b) (Some c) None regs e f = absurd cc
waits_same (Some a) (Some b) (Some c) (Some d) regs e f =
    let same : outline_kept c ≡ outline_of d = same_Some (outline_kept c) (outline_of d) f in
    ap₂ (λ (n status : ℕ). Does (replied_both regs n status) (Reap n)) (ap (λ (o : Outline). o.pid) same)
    (ap (λ (o : Outline). kept_status o.life) same ∙ status_same d.holding)

pub wait_is : (k : Kernel) (flat : FlatState) (pid : ℕ) (regs : Regs) → SameTables k flat → wait_among k pid regs ≡ wait_reply flat pid regs
wait_is k flat pid regs t =
    let child : Outline → Bool = λ o. o.parent == pid in
    let ended : Outline → Bool = λ o. o.parent == pid && is_ended o.life in
    waits_same (find (is_child pid) k.processes) (find (λ q. q.parent == pid) flat.processes) (find (is_ended_child pid) k.processes) (find (is_zombie_child pid) flat.processes) regs
    (found_same outline_kept child k.processes ∙ ap (find child) t.processes ∙ sym (found_same outline_of child flat.processes))
    (found_same outline_kept ended k.processes ∙ ap (find ended) t.processes ∙ sym (found_same outline_of ended flat.processes)
    ∙ ap (outlined outline_of) (sym (found_alike (is_zombie_child pid) (λ q. ended (outline_of q)) flat.processes (λ q. ap (λ (b : Bool). q.parent == pid && b) (ended_same q.holding)))))
