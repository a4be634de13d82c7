-- A process that runs at a state of a run, and the pages that it touches first.
use Rattle.std.proofs.Common.{◌≡◌, ℕ, ◌≤◌, Bool, true, false, List, [], ◌∷◌, ◌++◌, length, length-append, filter, filter_map, Option, Some, None, refl, sym, ap, ◌∙◌, subst, arith}
use Rattle.vm_facts.specs.SwapImages.{SwapImage}
use Rattle.vm_facts.specs.Answers.{Answers, ByteWrite}
use Rattle.vm_facts.specs.declared.page.Page.{Page}
use Rattle.vm_facts.specs.declared.regs.Regs.{Regs}
use Rattle.user_vax.specs.Program.{run}
use Rattle.user_vax.specs.Laws.{Covers}
use Rattle.user_vax.specs.Instruction.{instruction, writes_of}
use Rattle.flat_state.specs.Space.{Space, answers_of, puts}
use Rattle.flat_state.specs.Flat.{Holds, Process, FlatState, Inputs, process_of, is_ready, ready_if, spaces_of}
use Rattle.flat_state.specs.Change.{apply_writes}
use Rattle.page_model.specs.Pages.{is_valid, numbered}
use Rattle.page_model.specs.Placement.{Placement, state_of}
use Rattle.kernel_model.specs.Kernel.{Kernel, life_of}
use Rattle.kernel_model.specs.Coupled.{Outline, outline_kept, outline_of, SameTables, image_text}
use Rattle.kernel_model.specs.ChangeStep.{life_of_proc, space_of_life}
use Rattle.kernel_laws.proofs.Machine.Swaps.{found_at}
use Rattle.kernel_laws.proofs.Machine.Tables.{kept_at, outline_at}
use Rattle.machine_state.specs.Machine.{Standing}
use Rattle.machine_state.specs.UserMemory.{kernel_answers, page_in}
use Rattle.machine_state.proofs.FlatMemory.{memory_covers}
use Rattle.step_units.specs.Growth.{space_of_pid}
use Rattle.step_units.specs.Reading.{AreNamed}
use Rattle.flat_model.specs.Step.{written_process}
use Rattle.flat_model.specs.Touched.{page_of_access, step_accesses, distinct, touched, touched_by, touched_in, touched_if}
use Rattle.economy_laws.proofs.FlatLawsAsking.{own_space}
use Rattle.run_model.specs.State.{State}
use Rattle.run_model.specs.Wanted.{touched_next, locked_by, locked, wanted, AllValid}
use Rattle.run_model.specs.Snapshot.{before_absent}
use Rattle.run_model.proofs.Wanting.{split_before, all_before, splits_wanted, all_unwanted}
use Rattle.economy_laws.specs.Machine.{Keeps}
use Rattle.economy_laws.specs.Standing.{IsText, HasText}
use Rattle.economy_laws.proofs.Flows.{on_running, on_steps}
use Rattle.economy_laws.proofs.Room.{run_few}
use Rattle.economy_laws.proofs.RunLawsTouching.{found_process}
use Rattle.economy_laws.proofs.Left.{next_on}
use Rattle.step_units.specs.Serving.{At}
use Rattle.step_units.specs.Touching.{RunsInSpace}
use Rattle.step_units.proofs.Touching.{SameSpots}
use Rattle.step_units.proofs.Instructing.{same_spots}
use Rattle.proc_run.specs.Shown.{shown_in}
use Rattle.proc_run.specs.Missed.{first_missed, missed_behind, page_missed, valid_by, valid_only}
use Rattle.proc_run.specs.Touching.{RunsWith}
use Rattle.proc_run.proofs.Covering.{only_covers}
use Rattle.flat_state.proofs.PageLists.{left}
use Rattle.proc_run.proofs.Firsts.{AreFirst, none_first, next_first, more_first, all_first}
use Rattle.proc_run.proofs.Nexts.{NextOf, step_next}

-- It holds its space, and over the frames this answers as the flat one does, or misses.

held_is : (A : Inputs) (s : State) (k : Kernel) (image : SwapImage) (pid : ℕ) (now : Bool) (p : Process) (x : Space) → At A s k image
    → RunsInSpace A s pid now p x → space_of_pid k pid ≡ x.sid
held_is A s k image pid now p x at r =
    let flat : FlatState = s.point.flat in
    let tables : SameTables k flat = at.stands.keeps.coupled.tables in
    let found = found_at flat pid p r.here in
    let kept = kept_at k.processes flat.processes tables.processes pid p found.1 in
    let outline : outline_kept kept.0 ≡ outline_of p = outline_at k.processes flat.processes tables.processes pid kept.0 p kept.1 found.1 in
    ap space_of_life (ap life_of_proc kept.1 ∙ ap (λ (o : Outline). o.life) outline ∙ ap life_of r.holds)

pub frames_cover : (A : Inputs) (s : State) (k : Kernel) (image : SwapImage) (pid : ℕ) (now : Bool) (p : Process) (x : Space) → At A s k image
    → RunsInSpace A s pid now p x
    → Covers (kernel_answers k x.sid) (answers_of x)
frames_cover A s k image pid now p x at r = memory_covers A.images k image.bytes flat x keeps.coupled keeps.stands.texts own (text.same ∙ sym (ap image_text text.image))
  where
    flat : FlatState
    flat = s.point.flat

    keeps : Keeps A flat k image.bytes
    keeps = at.stands.keeps

    own : numbered (λ (y : Space). y.sid) x.sid (spaces_of flat) ≡ Some x
    own = own_space flat pid p x at.run.numbers r.here r.holds

    text : IsText A.images x
    text = subst (HasText A.images) r.holds (found_process (λ y. HasText A.images y.holding) flat.processes pid p at.run.texts r.here)

-- What it touches.

touched_ready : (A : Inputs) (flat : FlatState) (pid : ℕ) (p : Process) (x : Space) → process_of flat pid ≡ Some p → is_ready p ≡ true → p.holding ≡ Holds x
    → touched A flat pid ≡ distinct (filter_map (page_of_access x) (step_accesses A.images flat p x))
unfolding touched
touched_ready A flat pid p x here ready holds =
    ap (touched_if A.images flat) here ∙ ap (λ (b : Bool). touched_by b A.images flat p) ready ∙ ap (touched_in A.images flat p) holds

runs_touch : (A : Inputs) (s : State) (pid : ℕ) (now : Bool) (p : Process) (x : Space) → RunsInSpace A s pid now p x
    → touched A s.point.flat pid ≡ distinct (filter_map (page_of_access x) (step_accesses A.images s.point.flat p x))
runs_touch A s pid now p x r =
    touched_ready A s.point.flat pid p x r.here (ap ready_if (sym r.here) ∙ on_steps A s s.mark pid now r.runs.on) r.holds

module _ (A : Inputs) (s : State) (now : Bool) (m : Standing) (pid : ℕ) (regs : Regs) (r : RunsWith A s now m pid regs) where
  abbrev pub k : Kernel
  k = m.kernel

  abbrev pub x : Space
  x = r.space

  abbrev pub p : Process
  p = r.process

  abbrev pub flat : FlatState
  flat = s.point.flat

  -- the pages of all accesses of its step
  abbrev pub all_pages : List Page
  all_pages = filter_map (page_of_access x) (step_accesses A.images flat p x)

  -- Pages are the first ones that it touches, and are valid.
  pub record AreSoFar (ps : List Page) : Type 0 where
    pub valid : AllValid k.place ps
    pub first : AreFirst ps all_pages

  pub none_so_far : AreSoFar []
  none_so_far = record { valid = tt; first = none_first all_pages }

  abbrev pub shown_pages : List Page → Answers
  shown_pages ps = shown_in k (space_of_pid k pid) ps

  -- the writes of the instruction over these pages, which are none
  abbrev pub writes : List Page → List ByteWrite
  writes ps = writes_of (run (shown_pages ps) (instruction regs))

  -- the first page beyond these, by the byte that misses
  abbrev pub beyond_so_far : List Page → Option Page
  beyond_so_far ps =
      page_missed k pid (first_missed A.images (apply_writes flat p.pid (writes ps)) (written_process p x (writes ps)) (puts x (writes ps)) (shown_pages ps) regs)

  spots : SameSpots k x
  spots = same_spots A s k r.image pid p x r.at r.running.here r.running.holds

  held : space_of_pid k pid ≡ x.sid
  held = held_is A s k r.image pid now p x r.at r.running

  next_so_far : (ps : List Page) → AreSoFar ps
      → NextOf k x ps (step_accesses A.images flat p x) (first_missed A.images (apply_writes flat p.pid (writes ps)) (written_process p x (writes ps)) (puts x (writes ps)) (shown_pages ps) regs)
  next_so_far ps h =
      subst (λ (sid : ℕ). NextOf k x ps (step_accesses A.images flat p x) (by (shown_in k sid ps) regs)) (sym held)
      (subst (λ (rs : Regs). NextOf k x ps (step_accesses A.images flat p x) (by (shown_in k x.sid ps) rs)) r.has
      (step_next A.images flat p x k ps spots h.valid (only_covers k.place x.sid ps (kernel_answers k x.sid) (answers_of x) (frames_cover A s k r.image pid now p x r.at r.running))
      (run (shown_in k x.sid ps) (instruction p.regs)) refl))
    where
      by : Answers → Regs → Option ℕ
      by memory rs =
          let ws : List ByteWrite = writes_of (run memory (instruction rs)) in
          missed_behind A.images (apply_writes flat p.pid ws) (written_process p x ws) (puts x ws) memory (run memory (instruction rs))

  -- the page beyond them, where there is one
  abbrev Beyond : List Page → Option Page → Type 0
  Beyond ps None = distinct all_pages ≡ ps
  Beyond ps (Some q) = ((rest : List Page) × (distinct all_pages ≡ ps ++ q ∷ rest)) × AreFirst (ps ++ q ∷ []) all_pages

  found_beyond : (ps : List Page) → AreFirst ps all_pages → (o : Option ℕ) → NextOf k x ps (step_accesses A.images flat p x) o → Beyond ps (page_missed k pid o)
  found_beyond ps f None n = all_first ps all_pages f n
  found_beyond ps f (Some address) n =
      let at : page_missed k pid (Some address) ≡ Some n.page = ap (λ (sid : ℕ). page_in k.place sid address) held ∙ n.at in
      let g : AreFirst ps (n.front ++ n.page ∷ n.back) = subst (AreFirst ps) n.whole f in
      subst (Beyond ps) (sym at) (
        (
          filter (left (ps ++ n.page ∷ [])) (distinct (n.front ++ n.page ∷ n.back)),
          ap distinct n.whole ∙ next_first ps n.front n.back n.page g n.all n.new,
        ),
        subst (AreFirst (ps ++ n.page ∷ [])) (sym n.whole) (more_first ps n.front n.back n.page g n.all n.new),
      )

  beyond : (ps : List Page) → AreSoFar ps → Beyond ps (beyond_so_far ps)
  beyond ps h = found_beyond ps h.first _ (next_so_far ps h)

  more_valid : (ps : List Page) (q : Page) → AllValid k.place ps → is_valid (state_of k.place q) ≡ true → AllValid k.place (ps ++ q ∷ [])
  more_valid [] q v h = (h, tt)
  more_valid (y ∷ ps) q v h = (v.0, more_valid ps q v.1 h)

  -- one more that is valid
  pub more_so_far : (ps : List Page) (q : Page) → AreSoFar ps → Some q ≡ valid_only k.place (beyond_so_far ps) → AreSoFar (ps ++ q ∷ [])
  more_so_far ps q h e = go (beyond_so_far ps) (beyond ps h) e
    where
      taken : (o : Page) → ((rest : List Page) × (distinct all_pages ≡ ps ++ o ∷ rest)) × AreFirst (ps ++ o ∷ []) all_pages → (b : Bool) → is_valid (state_of k.place o) ≡ b → Some q ≡ valid_by b o
          → AreSoFar (ps ++ q ∷ [])
      taken o w true v z =
          let same : o ≡ q = cc in
          subst (λ (y : Page). AreSoFar (ps ++ y ∷ [])) same (record { valid = more_valid ps o h.valid v; first = w.1 })
      taken o w false v z = absurd cc

      go : (o : Option Page) → Beyond ps o → Some q ≡ valid_only k.place o → AreSoFar (ps ++ q ∷ [])
      go None w z = absurd cc
      go (Some o) w z = taken o w (is_valid (state_of k.place o)) refl z

  place : k.place ≡ s.place
  place = r.at.stands.place

  touched_pages : touched_next A s ≡ distinct all_pages
  touched_pages = next_on A s pid (on_running A s s.mark pid now r.running.runs.on) ∙ runs_touch A s pid now p x r.running

  locked_pages : locked A s ≡ before_absent k.place (distinct all_pages)
  locked_pages =
      ap (locked_by A s) r.running.runs.clear ∙ ap (before_absent s.place) touched_pages
      ∙ ap (λ (y : Placement). before_absent y (distinct all_pages)) (sym place)

  -- where there is none they are the pages that stay
  pub all_so_far : (ps : List Page) → AreSoFar ps → None ≡ valid_only k.place (beyond_so_far ps) → ps ≡ locked A s
  all_so_far ps h e = go (beyond_so_far ps) (beyond ps h) e ∙ sym locked_pages
    where
      ended : (o : Page) → ((rest : List Page) × (distinct all_pages ≡ ps ++ o ∷ rest)) × AreFirst (ps ++ o ∷ []) all_pages → (b : Bool) → is_valid (state_of k.place o) ≡ b → None ≡ valid_by b o
          → ps ≡ before_absent k.place (distinct all_pages)
      ended o w true v z = absurd cc
      ended o w false v z =
          sym (split_before k.place (distinct all_pages) ps o (record { behind = w.0.0; whole = w.0.1; valid = h.valid; absent = v }))

      go : (o : Option Page) → Beyond ps o → None ≡ valid_only k.place o → ps ≡ before_absent k.place (distinct all_pages)
      go None w z = sym (ap (before_absent k.place) w ∙ all_before k.place ps h.valid)
      go (Some o) w z = ended o w (is_valid (state_of k.place o)) refl z

  -- and the page beyond them is the one that is wanted
  pub wanted_so_far : (ps : List Page) → AreSoFar ps → None ≡ valid_only k.place (beyond_so_far ps) → beyond_so_far ps ≡ wanted A s
  wanted_so_far ps h e = go (beyond_so_far ps) (beyond ps h) e
    where
      there : AllValid s.place ps
      there = subst (λ (y : Placement). AllValid y ps) place h.valid

      ended : (o : Page) → ((rest : List Page) × (distinct all_pages ≡ ps ++ o ∷ rest)) × AreFirst (ps ++ o ∷ []) all_pages → (b : Bool) → is_valid (state_of k.place o) ≡ b → None ≡ valid_by b o
          → Some o ≡ wanted A s
      ended o w true v z = absurd cc
      ended o w false v z =
          sym (splits_wanted A s ps o r.running.runs.clear
          (record { behind = w.0.0; whole = touched_pages ∙ w.0.1; valid = there; absent = subst (λ (y : Placement). is_valid (state_of y o) ≡ false) place v }))

      go : (o : Option Page) → Beyond ps o → None ≡ valid_only k.place o → o ≡ wanted A s
      go None w z = sym (all_unwanted A s r.running.runs.clear (subst (AllValid s.place) (sym (touched_pages ∙ w)) there))
      go (Some o) w z = ended o w (is_valid (state_of k.place o)) refl z

  -- they are never more than an instruction touches
  pub few_so_far : (ps : List Page) → AreSoFar ps → length ps ≤ 28
  few_so_far ps h =
      let all : length (distinct all_pages) ≤ 28 = subst (λ (list : List Page). length list ≤ 28) (runs_touch A s pid now p x r.running) (run_few A s pid r.at.run) in
      let parts : length (distinct all_pages) ≡ length (ps ++ filter (left ps) (distinct all_pages)) = ap (λ (list : List Page). length list) h.first in
      let more = length-append ps (filter (left ps) (distinct all_pages)) in
      omega (arith, all, parts, more)

  -- what the machine found, by the pages that it was shown
  pub found_so_far : (n : Standing) (ps qs : List Page) (o : Option Page) → n ≡ m → qs ≡ ps
      → ((F : FlatState) (y : Process) (z : Space) → AreNamed A.images n.images
      → o ≡ valid_only n.kernel.place (page_missed n.kernel pid (first_missed A.images F y z (shown_in n.kernel (space_of_pid n.kernel pid) qs) regs)))
      → o ≡ valid_only k.place (beyond_so_far ps)
  found_so_far n ps qs o same list h =
      let F : FlatState = apply_writes flat p.pid (writes ps) in
      let y : Process = written_process p x (writes ps) in
      let z : Space = puts x (writes ps) in
      (subst (λ (i : Standing). AreNamed A.images i.images
      → o ≡ valid_only i.kernel.place (page_missed i.kernel pid (first_missed A.images F y z (shown_in i.kernel (space_of_pid i.kernel pid) ps) regs))) same
      (subst (λ (pages : List Page). AreNamed A.images n.images
      → o ≡ valid_only n.kernel.place (page_missed n.kernel pid (first_missed A.images F y z (shown_in n.kernel (space_of_pid n.kernel pid) pages) regs)))
      list (h F y z))) r.named

  -- the same, of the page beyond them, whether it is valid or not
  pub sought_so_far : (n : Standing) (ps qs : List Page) (o : Option Page) → n ≡ m → qs ≡ ps
      → ((F : FlatState) (y : Process) (z : Space) → AreNamed A.images n.images
      → o ≡ page_missed n.kernel pid (first_missed A.images F y z (shown_in n.kernel (space_of_pid n.kernel pid) qs) regs))
      → o ≡ beyond_so_far ps
  sought_so_far n ps qs o same list h =
      let F : FlatState = apply_writes flat p.pid (writes ps) in
      let y : Process = written_process p x (writes ps) in
      let z : Space = puts x (writes ps) in
      (subst (λ (i : Standing). AreNamed A.images i.images
      → o ≡ page_missed i.kernel pid (first_missed A.images F y z (shown_in i.kernel (space_of_pid i.kernel pid) ps) regs)) same
      (subst (λ (pages : List Page). AreNamed A.images n.images
      → o ≡ page_missed n.kernel pid (first_missed A.images F y z (shown_in n.kernel (space_of_pid n.kernel pid) pages) regs))
      list (h F y z))) r.named

  pub kept_so_far : (n : Standing) (ps : List Page) (o v : Option Page) → n ≡ m → o ≡ beyond_so_far ps → v ≡ valid_only n.kernel.place o
      → v ≡ valid_only k.place (beyond_so_far ps)
  kept_so_far n ps o v same e is = is ∙ ap (λ (i : Standing). valid_only i.kernel.place o) same ∙ ap (valid_only k.place) e
