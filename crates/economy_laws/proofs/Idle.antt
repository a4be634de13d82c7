-- Turns in a row that count no instruction: with each another process can't step any more.
use Rattle.std.proofs.Common.{◌≡◌, ◌⊎◌, inl, inr, ℕ, ◌+◌, ◌<◌, ◌≤◌, ◌&&◌, nat_lt, Bool, true, false, cond, List, [], ◌∷◌, ◌++◌, length, find, Option, Some, None, if◌then◌else◌, refl, sym, ap, ◌∙◌, subst, arith}
use Rattle.std.proofs.lemmas.Bool.Decides.{nat_tests}
use Rattle.vm_facts.specs.Answers.{ByteWrite}
use Rattle.flat_state.specs.Space.{Space, puts}
use Rattle.flat_state.specs.Flat.{Holding, Holds, Lends, Zombie, Process, FlatState, NamedImage, Inputs, holds_space, is_ready, ready_if, process_of, can_step}
use Rattle.vm_facts.specs.declared.regs.Regs.{Regs}
use Rattle.vm_facts.specs.declared.page.Page.{Page}
use Rattle.vm_facts.specs.declared.entry.Entry.{Entry}
use Rattle.vm_facts.specs.declared.entry.Entry.TheVariants as entries
use Rattle.flat_state.specs.declared.change.Change.TheVariants.{Resize, Sleep}
use Rattle.flat_state.specs.Change.{replaced, with_process, changed_by, changed_if, apply_change, wrote_by, wrote_if, apply_writes, resized}
use Rattle.flat_state.specs.Journal.{counted}
use Rattle.page_model.specs.Place.{space_of_process}
use Rattle.page_model.specs.Serve.{serve_entry}
use Rattle.page_model.specs.Swapper.{is_out}
use Rattle.kernel_model.specs.Start.{ImagesFit}
use Rattle.run_laws.proofs.Lists.{Parts, parts_at, found_is, replaced_at}
use Rattle.page_laws.proofs.Swapper.PuttingOut.{unit_case}
use Rattle.page_laws.proofs.Moves.Units.{unit_is, now_unit}
use Rattle.run_laws.proofs.Finding.{found_by_number, found_passes, found_after}
use Rattle.run_laws.proofs.Others.{number_of_found}
use Rattle.run_model.specs.declared.mark.Mark.{Mark}
use Rattle.run_model.specs.declared.mark.Mark.TheVariants as marks
use Rattle.flat_model.specs.Run.{Point, process_of_entry, step_at, is_refused, entry_of_step as next_of_step, due}
use Rattle.run_model.specs.State.{State}
use Rattle.flat_model.specs.Step.{Step, data_pages_of, pages_down_to, step_of}
use Rattle.run_model.specs.Wanted.{wanted, locked}
use Rattle.run_model.specs.After.{after}
use Rattle.run_model.proofs.After.{after_count}
use Rattle.run_model.proofs.Wanting.{wanted_splits}
use Rattle.run_model.specs.Next.{when, work_by, turn_by, turn_unit, goes_on, turn_instructions, under, pid_if, next_ready, or_else, next_turned, last_turned, turn_of, line_or_turn, next_mark, next_unit}
use Rattle.run_model.specs.Kinds.{GoesOn, ProcessRuns, Kind, Fills, Brings, Copies, ServesWanted, Acts, ProcessComes, Interrupts, HandsMove, ProcessGoes, Notes, Begins}
use Rattle.run_model.specs.Lawful.{Follows}
use Rattle.run_model.proofs.NextUnits.{kind_of}
use Rattle.std.proofs.lemmas.Bool.{and_parts}
use Rattle.run_laws.specs.Running.{IsRun}
use Rattle.run_laws.proofs.Acts.{Stepper, stepper, Stepped, stepped_flat, stepped_form, Completes, completes}
use Rattle.run_laws.proofs.Flows.{Acted, Settles, Refuses, Steps, acted, steps_own, on_steps, noted, refused_after, out_of, out_after, plain_point}
use Rattle.run_laws.proofs.Plain.{IsPaging, serve_paging, zero_paging, copy_paging, move_paging}
use Rattle.run_laws.proofs.Wholes.{unit_run}
use Rattle.run_model.specs.Act.{must_refuse, must_settle}
use Rattle.flat_model.specs.Instruction.{instruction_in}
use Rattle.economy_laws.specs.Stretch.{begins_stretch, IsClosing, turns, turns_of, counts, NoneCounts, ready_count}
use Rattle.economy_laws.proofs.Closing.{closes, no_event, on_turn}
use Rattle.economy_laws.proofs.Left.{is_closed}
use Rattle.economy_laws.proofs.Stretching.{open_last}
use Rattle.economy_laws.proofs.Sleeping.{Does, does}
use Rattle.economy_laws.proofs.Crowds.{RoomFor, of_room, many_applied, many_written}
use Rattle.economy_laws.proofs.Steps.{act_some, Grows, grows_of}
use Rattle.run_laws.proofs.Forms.{step_is}
use Rattle.run_laws.proofs.Turning.{turned_ready}

-- How many can step.

abbrev ready_one : Process → ℕ
ready_one q = cond (is_ready q) 1 0

count_both : (ps qs : List Process) → ready_count (ps ++ qs) ≡ ready_count ps + ready_count qs
count_both [] qs = omega arith
count_both (p ∷ ps) qs = let k = count_both ps qs in omega arith

pub count_most : (ps : List Process) → ready_count ps ≤ length ps
count_most [] = omega arith
count_most (p ∷ ps) = go (is_ready p) (count_most ps)
  where
    go : (b : Bool) → ready_count ps ≤ length ps → cond b 1 0 + ready_count ps ≤ length (p ∷ ps)
    go true l = omega arith
    go false l = omega arith

-- one process gives way to another
count_replaced : (F : FlatState) (pid : ℕ) (q p : Process) → process_of F pid ≡ Some q → p.pid ≡ pid
    → ready_count (with_process F p).processes + ready_one q ≡ ready_count F.processes + ready_one p
count_replaced F pid q p e n =
    let k : Parts F.processes q p = parts_at F.processes q p (sym (found_is F.processes p.pid) ∙ subst (λ (x : ℕ). process_of F x ≡ Some q) (sym n) e) in
    let a = ap ready_count k.old in let b = ap ready_count k.new in
    let c = count_both k.front (q ∷ k.back) in let d = count_both k.front (p ∷ k.back) in
    omega arith

-- a change of a process after which it can step as before
pub record SameReady (F G : FlatState) (pid : ℕ) : Type 0 where
  pub count : ready_count G.processes ≡ ready_count F.processes
  pub steps : can_step G pid ≡ can_step F pid

same_ready : (F G : FlatState) (pid : ℕ) → G ≡ F → SameReady F G pid
same_ready F G pid e = record { count = ap (λ (x : FlatState). ready_count x.processes) e; steps = ap (λ (x : FlatState). can_step x pid) e }

both_ready : (F G H : FlatState) (pid : ℕ) → SameReady F G pid → SameReady G H pid → SameReady F H pid
both_ready F G H pid a b = record { count = b.count ∙ a.count; steps = b.steps ∙ a.steps }

holds_ready : (F : FlatState) (pid : ℕ) (q p : Process) → process_of F pid ≡ Some q → p.pid ≡ pid → is_ready p ≡ is_ready q → SameReady F (with_process F p) pid
holds_ready F pid q p e n k = record {
  count = let a = count_replaced F pid q p e n in let b : ready_one p ≡ ready_one q = ap (λ (x : Bool). cond x 1 0) k in omega arith;
  steps = ap ready_if (found_after F pid q p e n) ∙ k ∙ sym (ap ready_if e);
}

held_ready : (b : Bool) (h : Holding) (s t : Space) → h ≡ Holds s → (if b then false else holds_space (Holds t)) ≡ (if b then false else holds_space h)
held_ready b h s t e = ap (λ (x : Holding). if b then false else holds_space x) (let k : Holds t ≡ Holds t = refl in k) ∙ sym (ap (λ (x : Holding). if b then false else holds_space x) e)

writes_ready : (F : FlatState) (pid : ℕ) (ws : List ByteWrite) → SameReady F (apply_writes F pid ws) pid
unfolding apply_writes
writes_ready F pid ws = go (process_of F pid) refl
  where
    holding : (p : Process) → process_of F pid ≡ Some p → (h : Holding) → p.holding ≡ h → SameReady F (wrote_by F p ws h) pid
    holding p e (Holds s) k = holds_ready F pid p (record p { holding = Holds (puts s ws) }) e (number_of_found F.processes pid p e) (held_ready p.asleep p.holding s (puts s ws) k)
    holding p e (Lends sid child) k = same_ready F F pid refl
    holding p e (Zombie status) k = same_ready F F pid refl

    go : (o : Option Process) → process_of F pid ≡ o → SameReady F (wrote_if F ws o) pid
    go None e = same_ready F F pid refl
    go (Some p) e = holding p e p.holding refl

resize_ready : (images : List NamedImage) (F : FlatState) (pid : ℕ) (regs : Regs) (d t : ℕ) → SameReady F (apply_change images F pid regs (Resize d t)) pid
unfolding apply_change
resize_ready images F pid regs d t = go (process_of F pid) refl
  where
    holding : (p : Process) → process_of F pid ≡ Some p → (h : Holding) → p.holding ≡ h → SameReady F (changed_by images F (record p { regs = regs }) (Resize d t) h) pid
    holding p e (Holds s) k =
        holds_ready F pid p (record p { regs = regs; holding = Holds (resized s d t) }) e (number_of_found F.processes pid p e) (held_ready p.asleep p.holding s (resized s d t) k)
    holding p e (Lends sid child) k = same_ready F F pid refl
    holding p e (Zombie status) k = same_ready F F pid refl

    go : (o : Option Process) → process_of F pid ≡ o → SameReady F (changed_if images F regs (Resize d t) o) pid
    go None e = same_ready F F pid refl
    go (Some p) e = holding p e p.holding refl

sleep_counts : (images : List NamedImage) (F : FlatState) (pid : ℕ) (regs : Regs) → can_step F pid ≡ true
    → ready_count (apply_change images F pid regs Sleep).processes + 1 ≡ ready_count F.processes
unfolding apply_change
sleep_counts images F pid regs c = go (process_of F pid) refl c
  where
    idle : (b : Bool) (h : Holding) → (if b then false else holds_space h) ≡ true → holds_space h ≡ true
    idle true h e = absurd cc
    idle false h e = e

    holding : (p : Process) → process_of F pid ≡ Some p → is_ready p ≡ true → (h : Holding) → p.holding ≡ h
        → ready_count (changed_by images F (record p { regs = regs }) Sleep h).processes + 1 ≡ ready_count F.processes
    holding p e z (Holds s) k = let a = count_replaced F pid p (record p { regs = regs; asleep = true }) e (number_of_found F.processes pid p e) in
        let b : ready_one p ≡ 1 = ap (λ (x : Bool). cond x 1 0) z in let y : ready_one (record p { regs = regs; asleep = true }) ≡ 0 =
        refl in let w : (changed_by images F (record p { regs = regs }) Sleep (Holds s)) ≡ with_process F (record p { regs = regs; asleep = true }) = refl in omega arith
    holding p e z (Lends sid child) k = absurd (let y : false ≡ true = sym (ap holds_space k) ∙ idle p.asleep p.holding z in cc)
    holding p e z (Zombie status) k = absurd (let y : false ≡ true = sym (ap holds_space k) ∙ idle p.asleep p.holding z in cc)

    go : (o : Option Process) → process_of F pid ≡ o → ready_if o ≡ true → ready_count (changed_if images F regs Sleep o).processes + 1 ≡ ready_count F.processes
    go None e z = absurd cc
    go (Some p) e z = holding p e z p.holding refl

-- What an uncounted flat unit leaves: as many that can step, or one fewer, its own process.
pub data Leaves (F G : FlatState) (pid : ℕ) : Type 0 where
  Same : SameReady F G pid → Leaves F G pid
  Fewer : ready_count G.processes + 1 ≡ ready_count F.processes → Leaves F G pid

-- where a process's step leaves the flat machine, with its change
pub stepped_by : (A : Inputs) (s : State) (u : Entry) (h : Stepped A s u) → IsRun A s
    → (after A s u).point.flat ≡ apply_change A.images (apply_writes s.point.flat h.pid (step_at A s.point h.pid).writes) h.pid (step_at A s.point h.pid).regs
    (step_at A s.point h.pid).change
stepped_by A s u h r =
    let run : ProcessRuns A s h.pid h.now = h.runs in
    let w : Stepper s.point.flat h.pid = stepper s.point.flat h.pid (on_steps A s s.mark h.pid h.now run.on) in
    let form = stepped_form A s u h w r.numbers in
    let p : Process = w.process in
    let m : p.pid ≡ h.pid = number_of_found s.point.flat.processes h.pid w.process w.here in
    stepped_flat A s u h ∙ form.after
    ∙ ap (λ (y : ℕ). apply_change A.images (apply_writes s.point.flat y (step_at A s.point h.pid).writes) y (step_at A s.point h.pid).regs (step_at A s.point h.pid).change) m

sleeps_leave : (A : Inputs) (s : State) (pid : ℕ) (h : Stepped A s (entries.Sleeps pid)) → h.pid ≡ pid → IsRun A s
    → Leaves s.point.flat (after A s (entries.Sleeps pid)).point.flat h.pid
sleeps_leave A s pid h same r =
    let run : ProcessRuns A s h.pid h.now = h.runs in
    let steps = on_steps A s s.mark h.pid h.now run.on in
    let w : Stepper s.point.flat h.pid = stepper s.point.flat h.pid steps in
    let form = stepped_form A s (entries.Sleeps pid) h w r.numbers in
    let c : Completes A s.point h.pid (entries.Sleeps pid) = completes A s.point h.pid (entries.Sleeps pid) tt h.next in
    let e : (step_at A s.point h.pid).change ≡ Sleep = c.suits (step_at A s.point h.pid).change form.suits in
    let is = stepped_by A s (entries.Sleeps pid) h r ∙ ap (apply_change A.images (apply_writes s.point.flat h.pid (step_at A s.point h.pid).writes) h.pid (step_at A s.point h.pid).regs) e in
    let wrote = writes_ready s.point.flat h.pid (step_at A s.point h.pid).writes in
    let k = sleep_counts A.images (apply_writes s.point.flat h.pid (step_at A s.point h.pid).writes) h.pid (step_at A s.point h.pid).regs (wrote.steps ∙ steps) in
    let z = ap (λ (F : FlatState). ready_count F.processes) is in
    let y = wrote.count in
    Fewer (omega arith)

pub open_due : (o : Option Entry) (pid : ℕ) (es : List Entry) → is_closed o ≡ false → due o pid es ≡ es
open_due (Some (entries.Out p bytes)) pid es h = absurd cc
open_due _ pid es h = refl

grew_leaves : (A : Inputs) (s : State) (p n : ℕ) (h : Stepped A s (entries.Grew p n)) → is_closed s.point.last ≡ false → IsRun A s
    → Leaves s.point.flat (after A s (entries.Grew p n)).point.flat h.pid
grew_leaves A s p n h o r =
    let run : ProcessRuns A s h.pid h.now = h.runs in
    let steps = on_steps A s s.mark h.pid h.now run.on in
    let w : Stepper s.point.flat h.pid = stepper s.point.flat h.pid steps in
    let q : Process = w.process in
    let c : Completes A s.point h.pid (entries.Grew p n) = completes A s.point h.pid (entries.Grew p n) tt h.next in
    let es : (step_at A s.point h.pid).entries ≡ entries.Grew p n ∷ [] = sym (open_due s.point.last h.pid (step_at A s.point h.pid).entries o) ∙ c.due in
    let st = step_is A s.point.flat h.pid (is_refused s.point.last h.pid) w.process w.space w.here w.holds in
    let g : Grows A.images s.point.flat w.process w.space (is_refused s.point.last h.pid) (instruction_in w.space q.regs) =
    grows_of A.images s.point.flat w.process w.space (is_refused s.point.last h.pid) (instruction_in w.space q.regs) p n (sym (ap (λ (S : Step). S.entries) st) ∙ es) in
    let e : (step_at A s.point h.pid).change ≡ Resize (data_pages_of w.space) (pages_down_to g.address) = ap (λ (S : Step). S.change) (st ∙ g.step) in
    let is = stepped_by A s (entries.Grew p n) h r ∙ ap (apply_change A.images (apply_writes s.point.flat h.pid (step_at A s.point h.pid).writes) h.pid (step_at A s.point h.pid).regs) e in
    let wrote = writes_ready s.point.flat h.pid (step_at A s.point h.pid).writes in
    let sized = resize_ready A.images (apply_writes s.point.flat h.pid (step_at A s.point h.pid).writes) h.pid (step_at A s.point h.pid).regs (data_pages_of w.space) (pages_down_to g.address) in
    let all = both_ready s.point.flat (apply_writes s.point.flat h.pid (step_at A s.point h.pid).writes) (apply_change A.images (apply_writes s.point.flat h.pid (step_at A s.point h.pid).writes) h.pid
    (step_at A s.point h.pid).regs (Resize (data_pages_of w.space) (pages_down_to g.address))) h.pid wrote sized in
    Same (record { count = ap (λ (F : FlatState). ready_count F.processes) is ∙ all.count; steps = ap (λ (F : FlatState). can_step F h.pid) is ∙ all.steps })

flat_leaves : (A : Inputs) (s : State) (u : Entry) (pid : ℕ) → IsRun A s → next_unit A s ≡ Some u → process_of_entry u ≡ Some pid → counts u ≡ false
    → Leaves s.point.flat (after A s u).point.flat pid
flat_leaves A s u pid r h e n = by (acted A s pid u d.act)
  where
    d : Does A s u pid
    d = does A s u pid h e

    own : (p : ℕ) → Some p ≡ Some pid → p ≡ pid
    own p k = cc

    quiet : after A s u ≡ noted s u → Leaves s.point.flat (after A s u).point.flat pid
    quiet k = Same (same_ready s.point.flat (after A s u).point.flat pid (ap (λ (t : State). t.point.flat) k))

    step : (x : Entry) → u ≡ x → next_of_step A s.point pid ≡ Some u → must_refuse A s pid ≡ false → must_settle A s pid ≡ false → process_of_entry x ≡ Some pid → counts x ≡ false
        → Leaves s.point.flat (after A s u).point.flat pid
    step (entries.Out p bytes) i k f g px cx =
        quiet (subst (λ (y : Entry). after A s y ≡ noted s y) (sym i) (out_after A s pid p bytes (out_of A s.point pid p bytes (k ∙ ap (λ (y : Entry). Some y) i))))
    step (entries.Refused p) i k f g px cx = quiet (subst (λ (y : Entry). after A s y ≡ noted s y) (sym i) (refused_after A s p))
    step (entries.Sleeps p) i k f g px cx = subst (λ (y : Entry). Leaves s.point.flat (after A s y).point.flat pid) (sym i)
        (sleeps_leave A s p (record { pid = pid; now = d.now; runs = d.runs; ends = tt; unrefused = f; unsettling = g; next = k ∙ ap (λ (y : Entry). Some y) i }) (sym (own p px)) r)
    step (entries.Grew p m) i k f g px cx = subst (λ (y : Entry). Leaves s.point.flat (after A s y).point.flat pid) (sym i)
        (grew_leaves A s p m (record { pid = pid; now = d.now; runs = d.runs; ends = tt; unrefused = f; unsettling = g; next = k ∙ ap (λ (y : Entry). Some y) i })
        (open_last A s u pid r h e (ap begins_stretch i)) r)
    step _ i k f g px cx = absurd cc

    by : Acted A s pid u → Leaves s.point.flat (after A s u).point.flat pid
    by (Settles i) = absurd (let z : None ≡ Some pid = sym (ap process_of_entry i) ∙ e in cc)
    by (Refuses i) = quiet (subst (λ (y : Entry). after A s y ≡ noted s y) (sym i) (refused_after A s pid))
    by (Steps f g i) = step u refl i f g e n

-- A turn begins.

pub record Turns (A : Inputs) (s : State) (p : ℕ) : Type 0 where
  pub clear : s.place.due ≡ []
  pub over : under A s s.mark ≡ None
  pub next : next_mark A s ≡ Some (entries.Turn p)

turn_begins : (A : Inputs) (s : State) (p : ℕ) → Kind A s (entries.Turn p) → Turns A s p
turn_begins A s p (Fills q ds e i) = absurd (subst IsPaging (sym i) (zero_paging s.place q))
turn_begins A s p (Brings q parent ds e i) = absurd (subst IsPaging (sym (unit_is s.place parent true (entries.Turn p) i).1) (serve_paging s.place parent))
turn_begins A s p (Copies q parent ds e k i) = absurd (subst IsPaging (sym i) (copy_paging s.place q))
turn_begins A s p (ServesWanted pid now q r w i) = absurd (subst IsPaging (sym (unit_is s.place q now (entries.Turn p) i).1) (serve_paging s.place q))
turn_begins A s p (Acts pid now r w a) = by (acted A s pid (entries.Turn p) a)
  where
    by : Acted A s pid (entries.Turn p) → Turns A s p
    by (Settles i) = absurd cc
    by (Refuses i) = absurd cc
    by (Steps f g i) = absurd (let z : None ≡ Some pid = steps_own A s.point pid (entries.Turn p) i in cc)
turn_begins A s p (ProcessComes pid e c i) = absurd cc
turn_begins A s p (Interrupts e k i) = absurd cc
turn_begins A s p (HandsMove count e k l w i) = absurd (subst IsPaging (sym i) (move_paging s.place (locked A s)))
turn_begins A s p (ProcessGoes pid e k i) =
    absurd (unit_case (λ (x : Entry). entries.Turn p ≡ x → ⊥) s.place pid (space_of_process (process_of s.point.flat pid)) (λ t ts h z. absurd cc) (λ v a h k z. absurd cc) (λ a h z. absurd cc) i)
turn_begins A s p (Notes e k i) = absurd cc
turn_begins A s p (Begins e k i) = record { clear = e; over = k; next = i }

turn_next : (A : Inputs) (s : State) (p : ℕ) → length A.lines ≤ s.lines → next_mark A s ≡ Some (entries.Turn p)
    → (s.count < A.limit) × (next_turned s.point.flat (last_turned s.mark) ≡ Some p)
turn_next A s p l h = go (nat_lt s.count A.limit) (nat_lt s.lines (length A.lines)) refl refl h
  where
    less : (a b : ℕ) → nat_lt a b ≡ true → a < b
    less a b e = grind (arith, nat_tests)

    turn : (o : Option ℕ) → turn_of o ≡ Some (entries.Turn p) → o ≡ Some p
    turn None e = absurd cc
    turn (Some q) e = cc

    go : (a b : Bool) → nat_lt s.count A.limit ≡ a → nat_lt s.lines (length A.lines) ≡ b → when a (line_or_turn s b) ≡ Some (entries.Turn p)
        → (s.count < A.limit) × (next_turned s.point.flat (last_turned s.mark) ≡ Some p)
    go false b x y e = absurd cc
    go true true x y e = absurd (let z = less s.lines (length A.lines) y in omega arith)
    go true false x y e = (less s.count A.limit x, turn (next_turned s.point.flat (last_turned s.mark)) e)

-- a process whose turn it is, that can step, goes on
turn_goes : (A : Inputs) (s : State) (pid since : ℕ) → IsRun A s → s.mark ≡ marks.Turn pid since → since ≡ s.count → can_step s.point.flat pid ≡ true
    → s.count < A.limit → s.place.due ≡ [] → under A s s.mark ≡ None → ⊥
turn_goes A s pid since r m c steps l d h = by (is_out s.place pid) refl (sym (ap (λ (b : Bool). when b (turn_unit A s pid)) goes) ∙ sym (ap (under A s) m) ∙ h)
  where
    below : (a b : ℕ) → a < b → nat_lt a b ≡ true
    below a b e = grind (arith, nat_tests)

    all : (x y z : Bool) → x ≡ true → y ≡ true → z ≡ true → (x && (y && z)) ≡ true
    all true true true a b c = refl
    all false y z a b c = absurd cc
    all true false z a b c = absurd cc
    all true true false a b c = absurd cc

    goes : goes_on A s pid (since + turn_instructions) ≡ true
    goes = all (can_step s.point.flat pid) (nat_lt s.count A.limit) (nat_lt s.count (since + turn_instructions)) steps (below s.count A.limit l)
        (below s.count (since + turn_instructions) (omega (arith, c)))

    runs : is_out s.place pid ≡ false → ProcessRuns A s pid true
    runs o = record { clear = d; on = subst (λ (x : Mark). GoesOn A s x pid true) (sym m) (refl, goes); resident = o }

    works : is_out s.place pid ≡ false → (w : Option Page) → wanted A s ≡ w → work_by A s pid true w ≡ None → ⊥
    works o None e k = act_some A s pid true r (runs o) k
    works o (Some q) e k = let x = wanted_splits A s q d e in absurd (let z : None ≡ Some (serve_entry s.place q) = sym k ∙ now_unit s.place q x.absent in cc)

    by : (b : Bool) → is_out s.place pid ≡ b → turn_by A s pid b ≡ None → ⊥
    by true o k = absurd cc
    by false o k = works o (wanted A s) refl k

-- Turns in a row.

-- the last turn's process can still step, and no instruction was counted since; or nothing is known
pub data Idle (A : Inputs) (s : State) (k : ℕ) : Type 0 where
  Free : k ≡ 0 → Idle A s k
  Held : (pid since : ℕ) → k ≡ 1 → s.mark ≡ marks.Turn pid since → since ≡ s.count → can_step s.point.flat pid ≡ true → Idle A s k

-- what the units are
unit_kind : (u : Entry) → counts u ≡ false → ((p : ℕ) × (u ≡ entries.Turn p)) ⊎ ((begins_stretch u ≡ false) × (turns u ≡ 0))
unit_kind (entries.Turn p) h = inl (p, refl)
unit_kind (entries.Ran p n) h = absurd cc
unit_kind (entries.Call p n c r0 r1) h = absurd cc
unit_kind (entries.Ended p n) h = absurd cc
unit_kind _ h = inr (refl, refl)

none_counted : (u : Entry) → counts u ≡ false → counted u ≡ 0
none_counted (entries.Ran p n) h = absurd cc
none_counted (entries.Call p n c r0 r1) h = absurd cc
none_counted (entries.Ended p n) h = absurd cc
none_counted _ h = refl

pub lines_more : (A : Inputs) (s : State) (u : Entry) → s.lines ≤ (after A s u).lines
unfolding after
lines_more A s (entries.Event line) = omega arith
lines_more A s _ = omega arith

mark_stays : (A : Inputs) (s : State) (u : Entry) (pid since : ℕ) → s.mark ≡ marks.Turn pid since → begins_stretch u ≡ false
    → ((line : ℕ) → u ≡ entries.Event line → ⊥) → (after A s u).mark ≡ marks.Turn pid since
unfolding after
mark_stays A s (entries.Event line) pid since m n e = absurd (e line refl)
mark_stays A s (entries.Turn p) pid since m n e = absurd cc
mark_stays A s (entries.Ran p k) pid since m n e = absurd cc
mark_stays A s (entries.Call p k b r0 r1) pid since m n e = absurd cc
mark_stays A s (entries.Ended p k) pid since m n e = absurd cc
mark_stays A s (entries.Hands k) pid since m n e = ap (Rattle.run_model.specs.After.moved_on k) m
mark_stays A s entries.Done pid since m n e = ap Rattle.run_model.specs.After.completed m
mark_stays A s (entries.SwapOut p) pid since m n e = ap Rattle.run_model.specs.After.put_out m
mark_stays A s (entries.SwapIn p) pid since m n e = ap Rattle.run_model.specs.After.brought_in m
mark_stays A s (entries.Owners a b c d) pid since m n e = ap Rattle.run_model.specs.After.audited m
mark_stays A s _ pid since m n e = m

pub turn_mark : (A : Inputs) (s : State) (p : ℕ) → (after A s (entries.Turn p)).mark ≡ marks.Turn p s.count
unfolding after
turn_mark A s p = refl

-- who can step is one of those that can
count_some : (F : FlatState) (pid : ℕ) → can_step F pid ≡ true → 0 < ready_count F.processes
count_some F pid c = go (process_of F pid) refl c
  where
    go : (o : Option Process) → process_of F pid ≡ o → ready_if o ≡ true → 0 < ready_count F.processes
    go None e z = absurd cc
    go (Some q) e z =
        let n : q.pid ≡ pid = number_of_found F.processes pid q e in
        let k : Parts F.processes q q = parts_at F.processes q q (sym (found_is F.processes q.pid) ∙ subst (λ (x : ℕ). process_of F x ≡ Some q) (sym n) e) in
        let a = ap ready_count k.old in let b = count_both k.front (q ∷ k.back) in let y : ready_one q ≡ 1 = ap (λ (x : Bool). cond x 1 0) z in
        omega arith

idle_some : (A : Inputs) (s : State) (k : ℕ) → Idle A s k → k ≤ ready_count s.point.flat.processes
idle_some A s k (Free e) = omega (arith, e)
idle_some A s k (Held pid since e m c z) = let x = count_some s.point.flat pid z in omega (arith, e)

pub idle_turns : (A : Inputs) (us : List Entry) (s t : State) (k : ℕ) → ImagesFit A.images → IsRun A s → length A.lines ≤ s.lines → Follows A s us t
    → NoneCounts us → Idle A s k → turns_of us + k ≤ ready_count s.point.flat.processes
idle_turns A [] s t k images r l f n i = omega (arith, idle_some A s k i)
idle_turns A (u ∷ us) s t k images r l f n i = elim (unit_kind u n.0) [
  | inl x ↦ turned (λ j y. idle_turns A us (after A s u) t j images (unit_run A s u images r f.0) (omega (arith, lines_more A s u)) f.1 n.1 y) x.0 x.1 i
  | inr x ↦ other (λ j y. idle_turns A us (after A s u) t j images (unit_run A s u images r f.0) (omega (arith, lines_more A s u)) f.1 n.1 y) (process_of_entry u) refl x.0 x.1 i
]
  where
    count : (after A s u).count ≡ s.count
    count = omega (arith, after_count A s u, none_counted u n.0)

    turned : ((j : ℕ) → Idle A (after A s u) j → turns_of us + j ≤ ready_count (after A s u).point.flat.processes) → (p : ℕ) → u ≡ entries.Turn p → Idle A s k
        → turns_of (u ∷ us) + k ≤ ready_count s.point.flat.processes
    turned on p e x =
        let b : Turns A s p = turn_begins A s p (subst (Kind A s) e (kind_of A s u f.0)) in
        let m = turn_next A s p l b.next in
        let nums = r.numbers in
        let steps = turned_ready s.point.flat (last_turned s.mark) p nums.pids m.1 in
        let point : (after A s u).point ≡ s.point = plain_point A s u (ap process_of_entry e) in
        let mark : (after A s u).mark ≡ marks.Turn p s.count = subst (λ (y : Entry). (after A s y).mark ≡ marks.Turn p s.count) (sym e) (turn_mark A s p) in
        let y = on 1 (Held p s.count refl mark (sym count) (ap (λ (q : Point). can_step q.flat p) point ∙ steps)) in
        let z = ap (λ (q : Point). ready_count q.flat.processes) point in
        let w = ap turns e in
        by x (omega arith) b m.0
      where
        by : Idle A s k → turns_of us + turns u ≤ ready_count s.point.flat.processes → Turns A s p → s.count < A.limit → turns_of (u ∷ us) + k ≤ ready_count s.point.flat.processes
        by (Free j) y b c = omega (arith, j)
        by (Held pid since j mk sc st) y b c = absurd (turn_goes A s pid since r mk sc st c b.clear b.over)

    other : ((j : ℕ) → Idle A (after A s u) j → turns_of us + j ≤ ready_count (after A s u).point.flat.processes) → (o : Option ℕ) → process_of_entry u ≡ o → begins_stretch u ≡ false → turns u ≡ 0
        → Idle A s k → turns_of (u ∷ us) + k ≤ ready_count s.point.flat.processes
    other on None e b z (Free j) =
        let point : (after A s u).point ≡ s.point = plain_point A s u e in
        let y = on 0 (Free refl) in
        let w = ap (λ (q : Point). ready_count q.flat.processes) point in
        omega (arith, j)
    other on None e b z (Held pid since j m c st) =
        let point : (after A s u).point ≡ s.point = plain_point A s u e in
        let cl : IsClosing A s pid = record { since = since; mark = m; lines = l } in
        let mark = mark_stays A s u pid since m b (λ line h. no_event A s u pid (closes A s u pid cl f.0 b) line h) in
        let y = on 1 (Held pid since refl mark (c ∙ sym count) (ap (λ (q : Point). can_step q.flat pid) point ∙ st)) in
        let w = ap (λ (q : Point). ready_count q.flat.processes) point in
        omega (arith, j)
    other on (Some p) e b z (Free j) = leaves (flat_leaves A s u p r f.0 e n.0)
      where
        leaves : Leaves s.point.flat (after A s u).point.flat p → turns_of (u ∷ us) + k ≤ ready_count s.point.flat.processes
        leaves (Same x) = let y = on 0 (Free refl) in let w = x.count in omega (arith, j)
        leaves (Fewer x) = let y = on 0 (Free refl) in omega (arith, j)
    other on (Some p) e b z (Held pid since j m c st) = leaves (flat_leaves A s u p r f.0 e n.0)
      where
        d : Does A s u p
        d = does A s u p f.0 e

        same : p ≡ pid
        same = let run : ProcessRuns A s p d.now = d.runs in sym (on_turn A s s.mark pid since p d.now m run.on).1

        cl : IsClosing A s pid
        cl = record { since = since; mark = m; lines = l }

        mark : (after A s u).mark ≡ marks.Turn pid since
        mark = mark_stays A s u pid since m b (λ line h. no_event A s u pid (closes A s u pid cl f.0 b) line h)

        leaves : Leaves s.point.flat (after A s u).point.flat p → turns_of (u ∷ us) + k ≤ ready_count s.point.flat.processes
        leaves (Same x) =
            let y = on 1 (Held pid since refl mark (c ∙ sym count) (subst (λ (v : ℕ). can_step (after A s u).point.flat v ≡ can_step s.point.flat v) same x.steps ∙ st)) in
            let w = x.count in omega (arith, j)
        leaves (Fewer x) = let y = on 0 (Free refl) in omega (arith, j)

pub few_turns : (A : Inputs) (s t : State) (us : List Entry) → ImagesFit A.images → IsRun A s → length A.lines ≤ s.lines → Follows A s us t
    → NoneCounts us → turns_of us ≤ ready_count s.point.flat.processes
few_turns A s t us images r l f n = let k = idle_turns A us s t 0 images r l f n (Free refl) in omega arith

-- Never more than 64 processes.

pub many_behind : (A : Inputs) (s : State) (u : Entry) → IsRun A s → length s.point.flat.processes ≤ 64 → next_unit A s ≡ Some u
    → length (after A s u).point.flat.processes ≤ 64
many_behind A s u r l h = go (process_of_entry u) refl
  where
    same : (G : FlatState) → G ≡ s.point.flat → length G.processes ≤ 64
    same G e = subst (λ (F : FlatState). length F.processes ≤ 64) (sym e) l

    stepped : (pid : ℕ) (st : Stepped A s u) → length (after A s u).point.flat.processes ≤ 64
    stepped pid st =
        let run : ProcessRuns A s st.pid st.now = st.runs in
        let w : Stepper s.point.flat st.pid = stepper s.point.flat st.pid (on_steps A s s.mark st.pid st.now run.on) in
        let q : Process = w.process in
        let n : q.pid ≡ st.pid = number_of_found s.point.flat.processes st.pid w.process w.here in
        let k = step_is A s.point.flat st.pid (is_refused s.point.last st.pid) w.process w.space w.here w.holds in
        let room : RoomFor (apply_writes s.point.flat st.pid (step_at A s.point st.pid).writes) (step_at A s.point st.pid).change =
        subst (λ (S : Step). RoomFor (apply_writes s.point.flat st.pid S.writes) S.change) (sym k)
        (subst (λ (x : ℕ). RoomFor (apply_writes s.point.flat x (step_of A.images s.point.flat w.process w.space (is_refused s.point.last st.pid) (instruction_in w.space q.regs)).writes)
        (step_of A.images s.point.flat w.process w.space (is_refused s.point.last st.pid) (instruction_in w.space q.regs)).change) n
        (of_room A.images s.point.flat w.process w.space (is_refused s.point.last st.pid) (instruction_in w.space q.regs))) in
        let m = many_written s.point.flat st.pid (step_at A s.point st.pid).writes in
        subst (λ (F : FlatState). length F.processes ≤ 64) (sym (stepped_by A s u st r))
        (many_applied A.images (apply_writes s.point.flat st.pid (step_at A s.point st.pid).writes) st.pid (step_at A s.point st.pid).regs (step_at A s.point st.pid).change room (omega arith))

    by : (pid : ℕ) (now : Bool) → ProcessRuns A s pid now → Acted A s pid u → length (after A s u).point.flat.processes ≤ 64
    by pid now run (Settles i) = same (after A s u).point.flat (ap (λ (x : Point). x.flat) (plain_point A s u (ap process_of_entry i)))
    by pid now run (Refuses i) =
        subst (λ (y : Entry). length (after A s y).point.flat.processes ≤ 64) (sym i) (subst (λ (t : State). length t.point.flat.processes ≤ 64) (sym (refused_after A s pid)) l)
    by pid now run (Steps f g i) = elim (Rattle.run_laws.proofs.Flows.steps_shape A s.point pid u i) [
      | inl e ↦ stepped pid (record { pid = pid; now = now; runs = run; ends = e; unrefused = f; unsettling = g; next = i })
      | inr e ↦ subst (λ (y : Entry). length (after A s y).point.flat.processes ≤ 64) (sym e.1)
          (subst (λ (t : State). length t.point.flat.processes ≤ 64) (sym (out_after A s pid pid e.0 (out_of A s.point pid pid e.0 (i ∙ ap (λ (y : Entry). Some y) e.1)))) l)
    ]

    go : (o : Option ℕ) → process_of_entry u ≡ o → length (after A s u).point.flat.processes ≤ 64
    go None e = same (after A s u).point.flat (ap (λ (x : Point). x.flat) (plain_point A s u e))
    go (Some pid) e = let d : Does A s u pid = does A s u pid h e in by pid d.now d.runs (acted A s pid u d.act)

pub many_on : (A : Inputs) (us : List Entry) (s t : State) → ImagesFit A.images → IsRun A s → length s.point.flat.processes ≤ 64 → Follows A s us t
    → length t.point.flat.processes ≤ 64
many_on A [] s t images r l f = subst (λ (x : State). length x.point.flat.processes ≤ 64) f l
many_on A (u ∷ us) s t images r l f = many_on A us (after A s u) t images (unit_run A s u images r f.0) (many_behind A s u r l f.0) f.1
