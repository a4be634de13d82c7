-- An instruction that falls below its stack: growth, or its refusal, is what its process does next.
use Rattle.std.proofs.Common.{◌≡◌, ℕ, ◌+◌, ◌≤◌, ◌&&◌, ◌||◌, nat_lt, not, Bool, true, false, List, [], ◌∷◌, length, Option, Some, Result, Err, sym, ap, ◌∙◌, subst, arith}
use Rattle.std.specs.Prelude.{is_ok}
use Rattle.std.proofs.lemmas.Bool.Decides.{nat_tests}
use Rattle.vm_facts.specs.SwapImages.{SwapImage}
use Rattle.io_edge.specs.FileHolding.{NamedFile}
use Rattle.vm_facts.specs.declared.entry.Entry.{Entry}
use Rattle.vm_facts.specs.declared.entry.Entry.TheVariants as entries
use Rattle.swap_book.specs.Holdings.{Holdings}
use Rattle.swap_book.specs.Placing.{fits, Wanted, place_all}
use Rattle.user_vax.specs.Effects.{Effect}
use Rattle.user_vax.specs.Instruction.{instruction}
use Rattle.user_vax.specs.Program.{run}
use Rattle.user_vax.specs.declared.refused.Refused.{Refused}
use Rattle.user_vax.specs.declared.refused.Refused.TheVariants.{Below}
use Rattle.aout_image.specs.declared.Image.{Image}
use Rattle.flat_state.specs.declared.change.Change.{Change}
use Rattle.flat_state.specs.declared.change.Change.TheVariants.{Resize}
use Rattle.flat_state.specs.declared.spot.Spot.{Spot}
use Rattle.flat_state.specs.declared.spot.Spot.TheVariants as spots
use Rattle.flat_state.specs.Change.{is_borrower}
use Rattle.flat_state.specs.Flat.{Holding, Process, FlatState, Inputs, process_of}
use Rattle.flat_state.specs.Space.{Space, stack_top, address_in}
use Rattle.flat_model.specs.Asked.{asks}
use Rattle.flat_model.specs.Calls.{stack_pages_of}
use Rattle.flat_model.specs.Run.{step_at, is_refused}
use Rattle.flat_model.specs.Step.{Step, flat_step, step_of, grown_step, data_pages_of, pages_down_to}
use Rattle.run_laws.proofs.FlatLawsAsking.{step_same}
use Rattle.page_model.specs.Placement.{image_of}
use Rattle.page_model.specs.Place.{facts_of, data_count}
use Rattle.kernel_model.specs.Asks.{asked}
use Rattle.kernel_model.specs.Kernel.{Kernel}
use Rattle.kernel_laws.proofs.Machine.Swaps.{found_at}
use Rattle.machine_state.specs.Applying.{facts_named}
use Rattle.machine_state.specs.Machine.{Standing}
use Rattle.machine_state.specs.UserMemory.{kernel_answers}
use Rattle.swapper.specs.Made.{ground}
use Rattle.proc_calls.specs.FaultFillAccessSpecs.{access_at}
use Rattle.proc_calls.specs.Growth.{space_of_pid, access_to, growth, growth_found}
use Rattle.proc_calls.specs.FaultFillAccessAccess.TheVariants as accesses
use Rattle.run_model.specs.Act.{loses_pages, loses_in, loses_if, settled, must_settle}
use Rattle.run_model.specs.Next.{next_unit}
use Rattle.run_model.specs.State.{State}
use Rattle.run_laws.proofs.Flows.{on_steps, runs_next}
use Rattle.economy_laws.proofs.Growing.{below_spot, spot_below}
use Rattle.run_units.specs.Serving.{At}
use Rattle.run_units.specs.Touching.{RunsInSpace, IsReadyFor, IsWhole}
use Rattle.run_units.proofs.Acting.{step_begins, step_refused, between_refused}
use Rattle.run_units.proofs.Instructing.{hit_ready, same_spots}
use Rattle.run_units.proofs.Stepping.{step_known, headers_agree, growth_counts}
use Rattle.step_units.specs.Machines.{RunsOn}
use Rattle.step_units.proofs.Serving.{same_space}

-- An instruction that falls below the stack.

-- what is known of the process then
pub record Falls (A : Inputs) (s : State) (m : Standing) (pid : ℕ) (p : Process) (x : Space) (address : ℕ) : Type 0 where
  pub ready : IsReadyFor A s p x (Err (Below address))
  pub below : address_in x address ≡ spots.Below
  pub step : step_at A s.point pid ≡ grown_step A.images s.point.flat p x address
  pub number : p.pid ≡ pid
  pub held : space_of_pid m.kernel pid ≡ x.sid
  pub size : data_count m.kernel.place x.sid ≡ data_pages_of x
  pub finds : fits A.swap_blocks s.holdings (asks A s.point.flat pid) ≡ is_ok (growth_found m pid (pages_down_to address))

ready_for : (A : Inputs) (s : State) (k : Kernel) (image : SwapImage) (pid : ℕ) (now : Bool) (p : Process) (x : Space) (r : Result Effect Refused)
    → At A s k image → RunsInSpace A s pid now p x
    → run (kernel_answers k x.sid) (instruction p.regs) ≡ r → IsWhole r → IsReadyFor A s p x r
ready_for A s k image pid now p x r at i e w = subst (IsReadyFor A s p x) e (hit_ready A s k image pid now p x at i (subst IsWhole (sym e) w))

pub falls : (A : Inputs) (s : State) (m : Standing) (holds : Option (List NamedFile)) (image : SwapImage) (pid : ℕ) (now : Bool) (p : Process)
    (x : Space) (address : ℕ)
    → RunsOn A s m holds image pid now p x → run (kernel_answers m.kernel x.sid) (instruction p.regs) ≡ Err (Below address) → Falls A s m pid p x address
falls A s m holds image pid now p x address r e = record {
  ready = ready;
  below = below_spot x (instruction p.regs) address ready.same;
  step = step;
  number = (found_at F pid p i.here).0;
  held = held;
  size = size;
  finds = ap is_ok (ap (λ (ws : List Wanted). place_all A.swap_blocks s.holdings ws) (sym same)
      ∙ ap (λ (n : ℕ). place_all n s.holdings (asked (facts_named m.images) m.kernel pid (growth m.kernel pid n_pages))) (sym r.machine.blocks)
      ∙ ap (λ (hs : Holdings). place_all m.params.swap_blocks hs (asked (facts_named m.images) m.kernel pid (growth m.kernel pid n_pages))) (sym at.stands.holdings));
}
  where
    n_pages : ℕ
    n_pages = pages_down_to address

    F : FlatState
    F = s.point.flat

    at : At A s m.kernel image
    at = r.machine.at

    i : RunsInSpace A s pid now p x
    i = r.running

    ready : IsReadyFor A s p x (Err (Below address))
    ready = ready_for A s m.kernel image pid now p x (Err (Below address)) at i e tt

    unrefused : is_refused s.point.last pid ≡ false
    unrefused = between_refused s.point.last pid r.between

    step : step_at A s.point pid ≡ grown_step A.images F p x address
    step = step_known A s pid now p x (Err (Below address)) i ready ∙ ap (λ (b : Bool). step_of A.images F p x b (Err (Below address))) unrefused

    held : space_of_pid m.kernel pid ≡ x.sid
    held = same_space A s m.kernel image pid now p x at i

    size : data_count m.kernel.place x.sid ≡ data_pages_of x
    size = (growth_counts A s m.kernel image pid now p x at i).0

    change : (flat_step A F pid false).change ≡ growth m.kernel pid n_pages
    change =
        ap (λ (b : Bool). (flat_step A F pid b).change) (sym unrefused) ∙ ap (λ (z : Step). z.change) step
        ∙ ap (λ (n : ℕ). let c : Change = Resize n n_pages in c) (sym size) ∙ ap (λ (n : ℕ). let c : Change = Resize (data_count m.kernel.place n) n_pages in c) (sym held)

    same : asked (facts_named m.images) m.kernel pid (growth m.kernel pid n_pages) ≡ asks A F pid
    same =
        ap (λ (fs : List Image). asked fs m.kernel pid (growth m.kernel pid n_pages)) (headers_agree A (ground m holds []) r.machine.images)
        ∙ ap (asked (facts_of A.images) m.kernel pid) (sym change)
        ∙ step_same A m.kernel F pid at.fit at.stands.keeps.stands.texts at.stands.keeps.numbered at.run.numbers at.stands.keeps.coupled.tables (on_steps A s s.mark pid now i.runs.on)

-- an access of the byte asks for growth
pub asks_growth : (A : Inputs) (s : State) (m : Standing) (holds : Option (List NamedFile)) (image : SwapImage) (pid : ℕ) (now : Bool) (p : Process) (x : Space)
    (address : ℕ) (write : Bool)
    → RunsOn A s m holds image pid now p x → Falls A s m pid p x address
    → access_to m.kernel.place x.sid address write ≡ accesses.Growth x.sid (pages_down_to address)
asks_growth A s m holds image pid now p x address write r f =
    ap (λ (spot : Spot). access_at x.sid (image_of m.kernel.place x.sid) address spot write)
    ((same_spots A s m.kernel image pid p x r.machine.at r.running.here r.running.holds).spots address ∙ f.below)

pub low : (A : Inputs) (s : State) (m : Standing) (pid : ℕ) (p : Process) (x : Space) (address : ℕ) → Falls A s m pid p x address
    → address + length x.stack_bytes + 1 ≤ stack_top
low A s m pid p x address f = spot_below (length x.text_bytes) (length x.data_bytes) (length x.stack_bytes) address f.below

-- no page goes with growth
keeps_pages : (x : Space) (b : Bool) (address : ℕ) → address + length x.stack_bytes + 1 ≤ stack_top
    → loses_pages x b (Resize (data_pages_of x) (pages_down_to address)) ≡ false
keeps_pages x b address l =
    ap (λ (c : Bool). c || nat_lt (pages_down_to address) (stack_pages_of x)) (same (data_pages_of x)) ∙ more
  where
    same : (n : ℕ) → nat_lt n n ≡ false
    same n = grind (arith, nat_tests)

    most : stack_pages_of x ≤ pages_down_to address
    most = omega arith

    above : (a b : ℕ) → a ≤ b → nat_lt b a ≡ false
    above a b h = grind (arith, nat_tests)

    more : nat_lt (pages_down_to address) (stack_pages_of x) ≡ false
    more = above (stack_pages_of x) (pages_down_to address) most

unsettled : (A : Inputs) (s : State) (m : Standing) (pid : ℕ) (now : Bool) (p : Process) (x : Space) (address : ℕ) → RunsInSpace A s pid now p x
    → Falls A s m pid p x address
    → must_settle A s pid ≡ false
unsettled A s m pid now p x address r f =
    let b : Bool = is_borrower s.point.flat.processes pid in
    let rest : Bool = not (settled s.point.flat s.place pid) in
    ap (λ (z : Step). loses_if b z.change (process_of s.point.flat pid) && rest) f.step
    ∙ ap (λ (o : Option Process). loses_if b (Resize (data_pages_of x) (pages_down_to address)) o && rest) r.here
    ∙ ap (λ (h : Holding). loses_in b (Resize (data_pages_of x) (pages_down_to address)) h && rest) r.holds
    ∙ ap (λ (c : Bool). c && rest) (keeps_pages x b address (low A s m pid p x address f))

pub grown_first : (A : Inputs) (s : State) (m : Standing) (pid : ℕ) (p : Process) (x : Space) (address : ℕ) → Falls A s m pid p x address
    → (step_at A s.point pid).entries ≡ entries.Grew pid (pages_down_to address) ∷ []
grown_first A s m pid p x address f =
    ap (λ (z : Step). z.entries) f.step ∙ ap (λ (n : ℕ). let e : Entry = entries.Grew n (pages_down_to address) in e ∷ []) f.number

-- it comes next where its pieces are found, or else the entry that says so
pub growth_next : (A : Inputs) (s : State) (m : Standing) (holds : Option (List NamedFile)) (image : SwapImage) (pid : ℕ) (now : Bool) (p : Process)
    (x : Space) (address : ℕ)
    → RunsOn A s m holds image pid now p x → Falls A s m pid p x address → is_ok (growth_found m pid (pages_down_to address)) ≡ true
    → next_unit A s ≡ Some (entries.Grew pid (pages_down_to address))
growth_next A s m holds image pid now p x address r f h =
    let i : RunsInSpace A s pid now p x = r.running in
    runs_next A s pid now (entries.Grew pid (pages_down_to address)) i.runs f.ready.unwanted
    (step_begins A s pid (entries.Grew pid (pages_down_to address)) [] (on_steps A s s.mark pid now i.runs.on) r.between (grown_first A s m pid p x address f) (f.finds ∙ h)
    (unsettled A s m pid now p x address i f))

pub refusal_next : (A : Inputs) (s : State) (m : Standing) (holds : Option (List NamedFile)) (image : SwapImage) (pid : ℕ) (now : Bool) (p : Process)
    (x : Space) (address : ℕ)
    → RunsOn A s m holds image pid now p x → Falls A s m pid p x address → is_ok (growth_found m pid (pages_down_to address)) ≡ false
    → next_unit A s ≡ Some (entries.Refused pid)
refusal_next A s m holds image pid now p x address r f h =
    let i : RunsInSpace A s pid now p x = r.running in
    runs_next A s pid now (entries.Refused pid) i.runs f.ready.unwanted (step_refused A s pid (on_steps A s s.mark pid now i.runs.on) r.between (f.finds ∙ h))
