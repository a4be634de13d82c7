-- With each unit no more processes are awake than children come, and one fewer where one falls asleep.
use Rattle.std.proofs.Common.{◌≡◌, inl, inr, ℕ, ◌+◌, ◌≤◌, Bool, true, false, cond, not, if◌then◌else◌, List, [], ◌∷◌, Option, Some, None, Result, Ok, Err, ℤ, refl, sym, ap, ◌∙◌, subst, arith}
use Rattle.vm_facts.specs.Answers.{ByteWrite}
use Rattle.vm_facts.specs.declared.regs.Regs.{Regs}
use Rattle.vm_facts.specs.declared.entry.Entry.{Entry}
use Rattle.vm_facts.specs.declared.entry.Entry.TheVariants as entries
use Rattle.user_vax.specs.Effects.{Effect}
use Rattle.user_vax.specs.declared.refused.Refused.{Refused}
use Rattle.user_vax.specs.declared.refused.Refused.TheVariants.{Miss, Below, Signal}
use Rattle.flat_state.specs.Space.{Space, answers_of, puts}
use Rattle.flat_state.specs.Flat.{Holding, Holds, Lends, Zombie, Process, FlatState, NamedImage, Inputs, holds_space, ready_if, process_of, can_step}
use Rattle.flat_state.specs.Numbers.{AllDistinct, IsNumbered, pids_of}
use Rattle.flat_state.specs.declared.change.Change.{Change}
use Rattle.flat_state.specs.declared.change.Change.TheVariants.{Resize, Fork, Lend}
use Rattle.flat_state.specs.Change.{with_process, changed_by, changed_if, apply_change, wrote_by, wrote_if, apply_writes, is_zombie, NamesChild}
use Rattle.flat_model.specs.declared.calls.Reply.{Reply}
use Rattle.flat_model.specs.declared.calls.Reply.TheVariants as replies
use Rattle.flat_model.specs.declared.calls.SystemCall.{SystemCall}
use Rattle.flat_model.specs.Calls.{call_of}
use Rattle.flat_model.specs.Instruction.{instruction_in}
use Rattle.flat_model.specs.Step.{Step, written_process, replied_step, reply_behind, called_step, step_behind, step_of, step_holding, step_if, flat_step}
use Rattle.flat_model.specs.Run.{Point, is_refused, step_at, due, process_of_entry}
use Rattle.run_model.specs.State.{State}
use Rattle.run_model.specs.After.{after}
use Rattle.run_model.specs.Next.{next_unit}
use Rattle.run_model.specs.Kinds.{ProcessRuns}
use Rattle.run_laws.specs.Running.{IsRun}
use Rattle.run_laws.proofs.Acts.{Stepper, stepper, Stepped, stepped_form, Completes, completes}
use Rattle.run_laws.proofs.Flows.{Acted, Settles, Refuses, Steps, acted, steps_shape, on_steps, refused_after, out_of, out_after, plain_point}
use Rattle.run_laws.proofs.Others.{number_of_found, pids_written}
use Rattle.economy_laws.proofs.Idle.{stepped_by}
use Rattle.run_laws.proofs.Finding.{found_after}
use Rattle.economy_laws.proofs.Sleeping.{Does, does}
use Rattle.run_laws.specs.Visible.{is_fork}
use Rattle.run_laws.proofs.Sole.{BringsNone}
use Rattle.run_laws.proofs.Children.{Spares, reply_spares}
use Rattle.run_laws.proofs.Runs.{made, made_one}
use Rattle.run_laws.proofs.FlatLawsSteps.{ends_in_fork, last_due}
use Rattle.economy_laws.specs.Few.{is_sleep}
use Rattle.economy_laws.proofs.Awake.{awake_one, awake_count, count_replaced, slept, changed_count}

-- ---- a child comes by the reply of a fork or a vfork

none_replied : (images : List NamedImage) (F : FlatState) (p : Process) (call : SystemCall) (effect : Effect) (reply : Reply) → Spares call reply
    → ends_in_fork (replied_step images F p call effect reply).entries ≡ false → BringsNone (replied_step images F p call effect reply).change
none_replied images F p call effect (replies.Does regs change) spares none = spares none
none_replied images F p call effect replies.Waits spares none = tt
none_replied images F p call effect (replies.Exits status) spares none = tt
none_replied images F p call effect _ spares none = tt

none_called : (images : List NamedImage) (F : FlatState) (p : Process) (s : Space) (refused : Bool) (effect : Effect) (call : Option SystemCall)
    → ends_in_fork (called_step images F p s refused effect call).entries ≡ false → BringsNone (called_step images F p s refused effect call).change
none_called images F p s refused effect None none = tt
none_called images F p s refused effect (Some call) none =
    none_replied images F p call effect (reply_behind images F p s refused call effect)
    (reply_spares images (apply_writes F p.pid effect.writes) (answers_of (puts s effect.writes)) (written_process p s effect.writes) (puts s effect.writes) call effect.regs refused) none

none_behind : (images : List NamedImage) (F : FlatState) (p : Process) (s : Space) (refused : Bool) (effect : Effect) (number : Option ℤ)
    → ends_in_fork (step_behind images F p s refused effect number).entries ≡ false → BringsNone (step_behind images F p s refused effect number).change
none_behind images F p s refused effect None none = tt
none_behind images F p s refused effect (Some number) none = none_called images F p s refused effect (call_of number) none

none_of : (images : List NamedImage) (F : FlatState) (p : Process) (s : Space) (refused : Bool) (result : Result Effect Refused)
    → ends_in_fork (step_of images F p s refused result).entries ≡ false → BringsNone (step_of images F p s refused result).change
none_of images F p s refused (Ok effect) none = none_behind images F p s refused effect effect.call none
none_of images F p s refused (Err (Miss a w)) none = tt
none_of images F p s true (Err (Below a)) none = tt
none_of images F p s false (Err (Below a)) none = tt
none_of images F p s refused (Err (Signal number)) none = tt

none_stepped : (A : Inputs) (F : FlatState) (pid : ℕ) (refused : Bool) → ends_in_fork (flat_step A F pid refused).entries ≡ false → BringsNone
    (flat_step A F pid refused).change
unfolding flat_step
none_stepped A F pid refused none = go (process_of F pid) none
  where
    by : (p : Process) (held : Holding) → ends_in_fork (step_holding A.images F p refused held).entries ≡ false → BringsNone (step_holding A.images F p refused held).change
    by p (Holds s) l = none_of A.images F p s refused (instruction_in s p.regs) l
    by p (Lends sid child) l = tt
    by p (Zombie status) l = tt

    go : (o : Option Process) → ends_in_fork (step_if A.images F refused o).entries ≡ false → BringsNone (step_if A.images F refused o).change
    go None l = tt
    go (Some p) l = by p p.holding l

none_born : (change : Change) → BringsNone change → made change ≡ 0
none_born (Fork child) n = absurd n
none_born (Lend child) n = absurd n
none_born _ n = refl

-- a step brings a child only where its last entry is such a reply
pub born_by : (A : Inputs) (point : Point) (pid : ℕ) (u : Entry) → due point.last pid (step_at A point pid).entries ≡ u ∷ [] → made
    (step_at A point pid).change ≤ cond (is_fork u) 1 0
born_by A point pid u d = go (is_fork u) refl
  where
    go : (b : Bool) → is_fork u ≡ b → made (step_at A point pid).change ≤ cond b 1 0
    go true e = made_one (step_at A point pid).change
    go false e =
        let k = none_born (step_at A point pid).change (none_stepped A point.flat pid (is_refused point.last pid) (last_due point.last pid (step_at A point pid).entries u d ∙ e)) in omega (arith, k)

-- ---- writes

-- the process has this space, and is awake
pub record Awake (F : FlatState) (pid : ℕ) (s : Space) : Type 0 where
  pub process : Process
  pub here : process_of F pid ≡ Some process
  pub number : process.pid ≡ pid
  pub holds : process.holding ≡ Holds s
  pub woke : process.asleep ≡ false

pub record Written (F G : FlatState) (pid : ℕ) : Type 0 where
  pub space : Space
  pub there : Awake G pid space
  pub count : awake_count G.processes ≡ awake_count F.processes

pub wrote : (F : FlatState) (pid : ℕ) (s : Space) (ws : List ByteWrite) → Awake F pid s → Written F (apply_writes F pid ws) pid
unfolding apply_writes
wrote F pid s ws a =
    let q : Process = a.process in
    let n : a.process.pid ≡ pid = a.number in
    let here : process_of F a.process.pid ≡ Some a.process = ap (process_of F) n ∙ a.here in
    let is : wrote_if F ws (process_of F pid) ≡ with_process F (record q { holding = Holds (puts s ws) }) = ap (wrote_if F ws) a.here ∙ ap (wrote_by F q ws) a.holds in
    let k = count_replaced F q (record q { holding = Holds (puts s ws) }) here in
    let same : awake_one (record q { holding = Holds (puts s ws) }) ≡ awake_one q = ap (λ (b : Bool). cond (if q.asleep then false else not b) 1 0) (sym (ap is_zombie a.holds)) in
    record {
      space = puts s ws;
      there = record {
        process = record q { holding = Holds (puts s ws) };
        here = ap (λ (G : FlatState). process_of G pid) is ∙ found_after F pid q (record q { holding = Holds (puts s ws) }) a.here n;
        number = n;
        holds = refl;
        woke = a.woke;
      };
      count = ap (λ (G : FlatState). awake_count G.processes) is ∙ omega (arith, k, same);
    }

-- ---- a change

applied_count : (images : List NamedImage) (F : FlatState) (pid : ℕ) (s : Space) (regs : Regs) (change : Change) → Awake F pid s → AllDistinct (pids_of F)
    → NamesChild F change
    → awake_count (apply_change images F pid regs change).processes + slept change ≤ awake_count F.processes + made change
unfolding apply_change
applied_count images F pid s regs change a distinct may =
    let q : Process = a.process in
    let n : a.process.pid ≡ pid = a.number in
    let is = ap (changed_if images F regs change) a.here ∙ ap (changed_by images F (record q { regs = regs }) change) a.holds in
    let k = changed_count images F q (record q { regs = regs }) s change (ap (process_of F) n ∙ a.here) refl a.holds a.woke a.woke a.holds distinct may in
    let m = ap (λ (G : FlatState). awake_count G.processes) is in
    omega (arith, k, m)

-- ---- a unit

abbrev pub sleeps_one : Entry → ℕ
sleeps_one u = cond (is_sleep u) 1 0

abbrev pub forks_one : Entry → ℕ
forks_one u = cond (is_fork u) 1 0

-- who can step is awake
pub stepper_awake : (F : FlatState) (pid : ℕ) → can_step F pid ≡ true → (x : Stepper F pid) → Awake F pid x.space
stepper_awake F pid c x = record {
  process = x.process;
  here = x.here;
  number = number_of_found F.processes pid x.process x.here;
  holds = x.holds;
  woke = woken (let q : Process = x.process in q.asleep) (let q : Process = x.process in holds_space q.holding) (sym (ap ready_if x.here) ∙ c);
}
  where
    woken : (a b : Bool) → (if a then false else b) ≡ true → a ≡ false
    woken true b e = absurd cc
    woken false b e = refl

sleeps_slept : (u : Entry) (change : Change) → Rattle.run_laws.proofs.Forms.Suits (u ∷ []) change → sleeps_one u ≤ slept change
sleeps_slept (entries.Sleeps p) change e = subst (λ (c : Change). 1 ≤ slept c) (sym e) (omega arith)
sleeps_slept _ change e = omega arith

stepped_count : (A : Inputs) (s : State) (u : Entry) → IsRun A s → (st : Stepped A s u)
    → awake_count (after A s u).point.flat.processes + sleeps_one u ≤ awake_count s.point.flat.processes + forks_one u
stepped_count A s u r st =
    let F : FlatState = s.point.flat in
    let pid : ℕ = st.pid in
    let step : Step = step_at A s.point st.pid in
    let run : ProcessRuns A s st.pid st.now = st.runs in
    let can : can_step s.point.flat st.pid ≡ true = on_steps A s s.mark st.pid st.now run.on in
    let x : Stepper s.point.flat st.pid = stepper s.point.flat st.pid can in
    let form = stepped_form A s u st x r.numbers in
    let c : Completes A s.point st.pid u = completes A s.point st.pid u st.ends st.next in
    let nums : IsNumbered s.point.flat = r.numbers in
    let n = number_of_found s.point.flat.processes st.pid x.process x.here in
    let w : Written s.point.flat (apply_writes s.point.flat st.pid step.writes) st.pid = wrote s.point.flat st.pid x.space step.writes (stepper_awake s.point.flat st.pid can x) in
    let may : NamesChild (apply_writes s.point.flat st.pid step.writes) step.change = subst (λ (m : ℕ). NamesChild (apply_writes s.point.flat m step.writes) step.change) n form.may in
    let distinct : AllDistinct (pids_of (apply_writes s.point.flat st.pid step.writes)) = subst (λ (ns : List ℕ). AllDistinct ns) (sym (pids_written s.point.flat st.pid step.writes)) nums.pids in
    let k = applied_count A.images (apply_writes s.point.flat st.pid step.writes) st.pid w.space step.regs step.change w.there distinct may in
    let is = ap (λ (G : FlatState). awake_count G.processes) (stepped_by A s u st r) in
    let b = born_by A s.point st.pid u c.due in
    let l = sleeps_slept u step.change (c.suits step.change form.suits) in
    let m = w.count in
    omega (arith, k, is, b, l, m)

-- each unit
pub unit_count : (A : Inputs) (s : State) (u : Entry) → IsRun A s → next_unit A s ≡ Some u
    → awake_count (after A s u).point.flat.processes + sleeps_one u ≤ awake_count s.point.flat.processes + forks_one u
unit_count A s u r h = go (process_of_entry u) refl
  where
    quiet : (x : Entry) → process_of_entry x ≡ None → sleeps_one x ≡ 0
    quiet (entries.Sleeps p) e = absurd cc
    quiet _ e = refl

    same : (x : Entry) → u ≡ x → sleeps_one x ≡ 0 → (after A s x).point.flat ≡ s.point.flat → awake_count
        (after A s u).point.flat.processes + sleeps_one u ≤ awake_count s.point.flat.processes + forks_one u
    same x i z e =
        let k = ap (λ (y : Entry). awake_count (after A s y).point.flat.processes) i in
        let l = ap (λ (F : FlatState). awake_count F.processes) e in
        let m = ap sleeps_one i in
        omega (arith, k, l, m, z)

    by : (pid : ℕ) (now : Bool) → process_of_entry u ≡ Some pid → ProcessRuns A s pid now → Acted A s pid u
        → awake_count (after A s u).point.flat.processes + sleeps_one u ≤ awake_count s.point.flat.processes + forks_one u
    by pid now e run (Settles i) = absurd (let z : None ≡ Some pid = sym (ap process_of_entry i) ∙ e in cc)
    by pid now e run (Refuses i) = same (entries.Refused pid) i refl (ap (λ (t : State). t.point.flat) (refused_after A s pid))
    by pid now e run (Steps f g i) = elim (steps_shape A s.point pid u i) [
      | inl ends ↦ stepped_count A s u r (record { pid = pid; now = now; runs = run; ends = ends; unrefused = f; unsettling = g; next = i })
      | inr out ↦ same (entries.Out pid out.0) out.1 refl (ap (λ (t : State). t.point.flat) (out_after A s pid pid out.0 (out_of A s.point pid pid out.0 (i ∙ ap (λ (y : Entry). Some y) out.1))))
    ]

    go : (o : Option ℕ) → process_of_entry u ≡ o → awake_count (after A s u).point.flat.processes + sleeps_one u ≤ awake_count s.point.flat.processes + forks_one u
    go None e = same u refl (quiet u e) (ap (λ (x : Point). x.flat) (plain_point A s u e))
    go (Some pid) e = let d : Does A s u pid = does A s u pid h e in by pid d.now e d.runs (acted A s pid u d.act)

-- it is so too where its segments change their sizes
pub resized_steps : (images : List NamedImage) (F : FlatState) (pid : ℕ) (s : Space) (regs : Regs) (d t : ℕ) → Awake F pid s → can_step
    (apply_change images F pid regs (Resize d t)) pid ≡ true
unfolding apply_change
resized_steps images F pid s regs d t a =
    let q : Process = a.process in
    let p : Process = record q { regs = regs; holding = Holds (Rattle.flat_state.specs.Change.resized s d t) } in
    let is = ap (changed_if images F regs (Resize d t)) a.here ∙ ap (changed_by images F (record q { regs = regs }) (Resize d t)) a.holds in
    ap (λ (G : FlatState). can_step G pid) is ∙ ap ready_if (found_after F pid q (record q { regs = regs; holding = Holds (Rattle.flat_state.specs.Change.resized s d t) }) a.here a.number)
    ∙ ap (λ (b : Bool). if b then false else true) a.woke
