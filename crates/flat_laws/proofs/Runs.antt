-- Runs of the flat machine: there are no more processes than instructions make.
use Rattle.std.proofs.Common.{◌≡◌, ℕ, ◌+◌, ◌<◌, ◌≤◌, ◌^◌, ◌==◌, ◌&&◌, Bool, true, false, List, [], ◌∷◌, ◌++◌, length, Option, Some, None, Result, Ok, Err, ℤ, if◌then◌else◌, refl, sym, ap, ◌∙◌, subst, arith}
use Rattle.std.proofs.lemmas.Bool.Decides.{nat_tests}
use Rattle.std.proofs.lemmas.Option.{same_Some}
use Rattle.vm_facts.specs.Answers.{ByteWrite}
use Rattle.vm_facts.specs.declared.regs.Regs.{Regs}
use Rattle.vm_facts.specs.declared.entry.Entry.{Entry}
use Rattle.vm_facts.specs.declared.entry.Entry.TheVariants.{Ran, Out, Grew, Call, Refused, Sleeps, Ended}
use Rattle.flat_state.specs.Space.{Space}
use Rattle.flat_state.specs.Flat.{Holding, Holds, Lends, Zombie, Process, FlatState, NamedImage, Inputs, image_numbered, process_of}
use Rattle.flat_state.specs.declared.change.Change.{Change}
use Rattle.flat_state.specs.declared.change.Change.TheVariants.{Keep, Resize, Fork, Lend, Exec, Sleep, End}
use Rattle.flat_state.specs.Change.{with_process, given_back, orphaned, left, entered, changed, changed_by, changed_if, apply_change, apply_writes}
use Rattle.flat_state.specs.Journal.{counted, instructions_of, units_of}
use Rattle.flat_state.specs.Numbers.{IsNumbered}
use Rattle.user_vax.specs.Effects.{Effect}
use Rattle.user_vax.specs.declared.refused.Refused.{Refused as Refusal}
use Rattle.user_vax.specs.declared.refused.Refused.TheVariants.{Miss, Below, Signal}
use Rattle.flat_model.specs.declared.calls.Reply.{Reply}
use Rattle.flat_model.specs.declared.calls.Reply.TheVariants.{Fails, Does, Writes, Waits, Exits}
use Rattle.flat_model.specs.declared.calls.SystemCall.{SystemCall}
use Rattle.flat_model.specs.Calls.{replied, call_of}
use Rattle.flat_model.specs.Instruction.{instruction_in}
use Rattle.flat_model.specs.Step.{data_pages_of, pages_down_to, out_entries, call_entry, replied_step, reply_behind, called_step, step_behind, step_of, step_holding, step_if, flat_step}
use Rattle.flat_model.specs.Run.{Point, is_refused, step_at, due, behind_first, due_at, behind, same_entry, is_first_of, process_of_entry, is_due, ComesAt, led_to, flat_entry, flat_units, flat_run, start_point}
use Rattle.flat_model.proofs.Coming.{Came, came, stands, entry_keeps}
use Rattle.flat_laws.proofs.Numbers.{step_numbered}
use Rattle.kernel_laws.proofs.Stands.Starts.{start_numbered}
use Rattle.run_model.proofs.After.{count_of_units}
use Rattle.flat_laws.specs.Longwords.{ProcessesFit, AllImages}
use Rattle.flat_laws.proofs.Registers.{start_regs_are}
use Rattle.flat_laws.proofs.Replying.{next_written, step_regs}

-- The number of the next process.

-- how many processes a change makes
abbrev pub made : Change → ℕ
made (Fork child) = 1
made (Lend child) = 1
made _ = 0

changed_next : (images : List NamedImage) (F : FlatState) (p : Process) (s : Space) (change : Change)
    → (changed images F p s change).next_pid ≤ F.next_pid + made change
changed_next images F p s (Exec image top) = go (image_numbered images image)
  where
    go : (o : Option NamedImage) → (entered F p s image o top).next_pid ≤ F.next_pid + 0
    go None = omega arith
    go (Some named) = omega arith
changed_next images F p s (End status) = go (p.parent == 0)
  where
    go : (b : Bool) → (left b (orphaned (given_back (with_process F record p { holding = Zombie status }) p.pid s) p.pid) p.pid p.parent).next_pid ≤ F.next_pid + 0
    go true = omega arith
    go false = omega arith
changed_next images F p s _ = omega arith

change_next : (images : List NamedImage) (F : FlatState) (pid : ℕ) (regs : Regs) (change : Change)
    → (apply_change images F pid regs change).next_pid ≤ F.next_pid + made change
unfolding apply_change
change_next images F pid regs change = go (process_of F pid)
  where
    by : (p : Process) (held : Holding) → (changed_by images F (record p { regs = regs }) change held).next_pid ≤ F.next_pid + made change
    by p (Holds s) = changed_next images F (record p { regs = regs }) s change
    by p (Lends sid child) = omega arith
    by p (Zombie status) = omega arith

    go : (o : Option Process) → (changed_if images F regs change o).next_pid ≤ F.next_pid + made change
    go None = omega arith
    go (Some p) = by p p.holding

after_next : (images : List NamedImage) (F : FlatState) (p : Process) (ws : List ByteWrite) (regs : Regs) (change : Change)
    → (apply_change images (apply_writes F p.pid ws) p.pid regs change).next_pid ≤ F.next_pid + made change
after_next images F p ws regs change = let a = change_next images (apply_writes F p.pid ws) p.pid regs change in let b = next_written F p.pid ws in omega arith

pub made_one : (change : Change) → made change ≤ 1
made_one (Fork child) = omega arith
made_one (Lend child) = omega arith
made_one _ = omega arith

-- from one number to another, where the last of these entries counts as many
abbrev Few : ℕ → ℕ → List Entry → Type 0
Few a b [] = Unit {0}
Few a b (e ∷ []) = b ≤ a + counted e
Few a b (e ∷ f ∷ es) = Few a b (f ∷ es)

out_few : (a b pid : ℕ) (bytes : List ℕ) (e : Entry) → b ≤ a + counted e → Few a b (out_entries pid bytes ++ e ∷ [])
out_few a b pid [] e l = l
out_few a b pid (byte ∷ bytes) e l = l

replied_few : (images : List NamedImage) (F : FlatState) (p : Process) (call : SystemCall) (effect : Effect) (reply : Reply)
    → Few F.next_pid (replied_step images F p call effect reply).after.next_pid (replied_step images F p call effect reply).entries
replied_few images F p call effect (Fails error) = let a = after_next images F p effect.writes (replied effect.regs true error) Keep in omega (arith, a)
replied_few images F p call effect (Does regs change) = let a = after_next images F p effect.writes regs change in let b = made_one change in omega (arith, a, b)
replied_few images F p call effect (Writes bytes) =
    out_few F.next_pid (apply_change images (apply_writes F p.pid effect.writes) p.pid (replied effect.regs false (length bytes)) Keep).next_pid p.pid bytes
    (call_entry p.pid call (replied effect.regs false (length bytes)))
    (let a = after_next images F p effect.writes (replied effect.regs false (length bytes)) Keep in omega (arith, a))
replied_few images F p call effect Waits = after_next images F p effect.writes p.regs Sleep
replied_few images F p call effect (Exits status) = let a = after_next images F p effect.writes p.regs (End status) in omega (arith, a)

called_few : (images : List NamedImage) (F : FlatState) (p : Process) (t : Space) (refused : Bool) (effect : Effect) (call : Option SystemCall)
    → Few F.next_pid (called_step images F p t refused effect call).after.next_pid (called_step images F p t refused effect call).entries
called_few images F p t refused effect None = let a = after_next images F p effect.writes p.regs (End 12) in omega (arith, a)
called_few images F p t refused effect (Some call) = replied_few images F p call effect (reply_behind images F p t refused call effect)

behind_few : (images : List NamedImage) (F : FlatState) (p : Process) (t : Space) (refused : Bool) (effect : Effect) (number : Option ℤ)
    → Few F.next_pid (step_behind images F p t refused effect number).after.next_pid (step_behind images F p t refused effect number).entries
behind_few images F p t refused effect None = let a = after_next images F p effect.writes effect.regs Keep in omega (arith, a)
behind_few images F p t refused effect (Some number) = called_few images F p t refused effect (call_of number)

of_few : (images : List NamedImage) (F : FlatState) (p : Process) (t : Space) (refused : Bool) (result : Result Effect Refusal)
    → Few F.next_pid (step_of images F p t refused result).after.next_pid (step_of images F p t refused result).entries
of_few images F p t refused (Ok effect) = behind_few images F p t refused effect effect.call
of_few images F p t refused (Err (Miss a w)) = tt
of_few images F p t true (Err (Below a)) = let k = after_next images F p [] p.regs (End 11) in omega (arith, k)
of_few images F p t false (Err (Below a)) = after_next images F p [] p.regs (Resize (data_pages_of t) (pages_down_to a))
of_few images F p t refused (Err (Signal n)) = let k = after_next images F p [] p.regs (End n) in omega (arith, k)

step_few : (A : Inputs) (F : FlatState) (pid : ℕ) (refused : Bool)
    → Few F.next_pid (flat_step A F pid refused).after.next_pid (flat_step A F pid refused).entries
unfolding flat_step
step_few A F pid refused = go (process_of F pid)
  where
    by : (p : Process) (held : Holding) → Few F.next_pid (step_holding A.images F p refused held).after.next_pid (step_holding A.images F p refused held).entries
    by p (Holds t) = of_few A.images F p t refused (instruction_in t p.regs)
    by p (Lends sid child) = tt
    by p (Zombie status) = tt

    go : (o : Option Process) → Few F.next_pid (step_if A.images F refused o).after.next_pid (step_if A.images F refused o).entries
    go None = tt
    go (Some p) = by p p.holding

due_few : (a b : ℕ) (o : Option Entry) (pid : ℕ) (es : List Entry) → Few a b es → Few a b (due o pid es)
due_few a b (Some (Out p bytes)) pid es h = go (p == pid)
  where
    rest : (xs : List Entry) → Few a b xs → Few a b (behind_first xs)
    rest [] k = tt
    rest (e ∷ []) k = tt
    rest (e ∷ f ∷ xs) k = k

    go : (t : Bool) → Few a b (if t then behind_first es else es)
    go true = rest es h
    go false = h
due_few a b _ pid es h = h

-- the same entry counts the same
same_counted : (w e : Entry) → same_entry w e ≡ true → counted w ≡ counted e
same_counted (Ran p n) (Ran q m) h = go (p == q) (n == m) refl h
  where
    go : (x y : Bool) → (n == m) ≡ y → (x && y) ≡ true → n ≡ m
    go true true k z = grind (arith, nat_tests)
    go true false k z = absurd cc
    go false y k z = absurd cc
same_counted (Call p n c r0 r1) (Call q m d s0 s1) h = refl
same_counted (Ended p n) (Ended q m) h = refl
same_counted (Out p bytes) (Out q others) h = refl
same_counted (Grew p n) (Grew q m) h = refl
same_counted (Sleeps p) (Sleeps q) h = refl
same_counted _ _ h = absurd cc

next_of : (point : Point) (after : FlatState) (e : Entry) (es : List Entry) → Few point.flat.next_pid after.next_pid es → is_first_of es e ≡ true
    → (behind point after es).flat.next_pid ≤ point.flat.next_pid + counted e
next_of point after e [] h k = absurd cc
next_of point after e (w ∷ []) h k = let c = same_counted w e k in omega (arith, h)
next_of point after e (w ∷ f ∷ es) h k = omega arith

next_due : (A : Inputs) (point : Point) (pid : ℕ) (e : Entry) → is_due A point pid e ≡ true
    → (led_to A point pid e).flat.next_pid ≤ point.flat.next_pid + counted e
next_due A point pid (Refused p) k = omega arith
next_due A point pid e k = next_of point (step_at A point pid).after e (due_at A point pid)
    (due_few point.flat.next_pid (step_at A point pid).after.next_pid point.last pid (step_at A point pid).entries (step_few A point.flat pid (is_refused point.last pid))) k

pub entry_next : (A : Inputs) (point q : Point) (e : Entry) → flat_entry A point e ≡ Some q → q.flat.next_pid ≤ point.flat.next_pid + counted e
entry_next A point q e h = go (process_of_entry e) refl
  where
    go : (o : Option ℕ) → process_of_entry e ≡ o → q.flat.next_pid ≤ point.flat.next_pid + counted e
    go None none =
        let n = ap (λ (x : Point). x.flat.next_pid) (same_Some point q (sym (stands A point e none) ∙ h)) in omega arith
    go (Some pid) of =
        let c : Came A point q pid e = came A point q pid e of h in
        let d : ComesAt A point pid e = c.comes in
        subst (λ (x : Point). x.flat.next_pid ≤ point.flat.next_pid + counted e) c.leads (next_due A point pid e d.next)

-- Runs.

abbrev Fits : FlatState → Type 0
Fits F = IsNumbered F × ProcessesFit F.processes

units_fit : (A : Inputs) (us : List Entry) (point q : Point) → AllImages A.images → point.flat.next_pid + instructions_of us < 2 ^ 32
    → flat_units A (Some point) us ≡ Some q → Fits point.flat → Fits q.flat
unfolding flat_units
units_fit A [] point q w l h k = let same : point ≡ q = cc in subst (λ (x : Point). Fits x.flat) same k
units_fit A (u ∷ us) point q w l h k = go (λ next m. units_fit A us next q w m) (flat_entry A point u) refl h
  where
    go : ((next : Point) → next.flat.next_pid + instructions_of us < 2 ^ 32 → flat_units A (Some next) us ≡ Some q → Fits next.flat → Fits q.flat) → (o : Option Point) → flat_entry A point u ≡ o
        → flat_units A o us ≡ Some q → Fits q.flat
    go later None e m = absurd cc
    go later (Some next) e m =
        later next (let a = entry_next A point next u e in omega arith) m
        (entry_keeps Fits A point next u (λ pid refused. (step_numbered A point.flat pid refused k.0, step_regs A point.flat pid refused w k.0 (omega arith) k.1)) e k)

pub run_fits : (A : Inputs) (journal : List Entry) (point : Point) → AllImages A.images → length A.first + 1 + instructions_of journal < 2 ^ 32
    → flat_run A journal ≡ Some point → ProcessesFit point.flat.processes
run_fits A journal point w l h = (units_fit A (units_of journal) (start_point A) point w (let a = count_of_units journal in omega arith) h (start_numbered A, start_regs_are A w)).1
