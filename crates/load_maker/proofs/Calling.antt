-- What the next step of a process at a call is.
use Rattle.std.proofs.Common.{◌≡◌, ℕ, ◌+◌, ◌-◌, ◌*◌, ◌/◌, ◌%◌, ◌<◌, ◌==◌, Bool, true, false, nat_le, nat_lt, List, [], ◌∷◌, length, find, Option, Some, None, Result, Ok, pos, refl, sym, ap, ◌∙◌, subst, arith}
use Rattle.std.proofs.lemmas.Bool.{eqb-true}
use Rattle.std.proofs.lemmas.Bool.Decides.{nat_tests}
use Rattle.vm_facts.specs.declared.regs.Regs.{Regs}
use Rattle.vm_facts.specs.declared.entry.Entry.TheVariants as entries
use Rattle.aout_image.specs.Image.{pages_for}
use Rattle.user_vax.specs.Effects.{Effect}
use Rattle.user_vax.specs.Program.{run}
use Rattle.user_vax.specs.Operands.{number_at}
use Rattle.user_vax.specs.declared.refused.Refused.{Refused}
use Rattle.flat_state.specs.Space.{Space, spot_at, answers_of}
use Rattle.flat_state.specs.Flat.{Process, FlatState, NamedImage, argument_area, start_page, start_regs}
use Rattle.flat_state.specs.declared.change.Change.{Change}
use Rattle.flat_state.specs.declared.change.Change.TheVariants.{Keep, Resize, Fork, Exec, Reap, Sleep, End}
use Rattle.flat_state.specs.Change.{apply_writes, is_zombie_child}
use Rattle.flat_model.specs.declared.calls.Reply.{Reply}
use Rattle.flat_model.specs.declared.calls.Reply.TheVariants as replies
use Rattle.flat_model.specs.declared.calls.SystemCall.{SystemCall}
use Rattle.flat_model.specs.declared.calls.SystemCall.TheVariants as calls
use Rattle.flat_model.specs.Calls.{call_numbered, number_of, or_fault, argument, three_arguments, bytes_from, string_from, arguments_from, exit_reply, written_to, write_reply, break_by, break_reply, image_named, execve_reply, child_by, wait_by, replied, replied_both, reply_of}
use Rattle.flat_model.specs.Instruction.{instruction_in}
use Rattle.flat_model.specs.Step.{Step, step_of, written_process, replied_step, called_step}
use Rattle.load_maker.specs.Programs.{w_bytes, v_bytes}
use Rattle.load_maker.specs.Stages.{LoadProgram, W, V, Stage, program_of, text_page, stage_address, end_at, Bank, file, IsAt, AtBreak, AtFork, AtWait, AtWrite, AtExit, AtExecve}
use Rattle.load_maker.specs.Left.{images_for}
use Rattle.load_maker.proofs.Numbers.{all_below, below}
use Rattle.load_maker.proofs.Instructions as code
use Rattle.load_maker.proofs.Instructions.{space_of, regs_of, Leaves}
use Rattle.load_maker.proofs.Going.{same_space, known, known_is, step_from}

-- ---- a call and its reply

-- what an instruction that calls leaves
abbrev pub calling : Bank → ℕ → Bool → Bool → Bool → Bool → ℕ → Effect
calling b pc n z v c number = record { regs = regs_of b pc n z v c; writes = []; call = Some (pos number) }

-- the space of a process as it is known
abbrev pub space_at : ℕ → LoadProgram → Space → Space
space_at pages t s = space_of pages t s.sid s.image s.data_bytes s.stack_bytes

-- what the call asks of the memory comes to this
abbrev pub reply_at : List NamedImage → FlatState → ℕ → LoadProgram → Process → Space → SystemCall → Regs → Result Reply Refused
reply_at images F pages t p s call regs =
    run (answers_of (space_at pages t s)) (reply_of images (apply_writes F p.pid []) (written_process p (space_at pages t s) []) (space_at pages t s) call regs)

pub record Called (images : List NamedImage) (F : FlatState) (pages : ℕ) (t : LoadProgram) (p : Process) (s : Space) (b : Bank) (pc number : ℕ)
    (call : SystemCall) : Type 0 where
  pub n : Bool
  pub z : Bool
  pub v : Bool
  pub c : Bool
  pub is : step_from images F p s ≡ replied_step images F p call (calling b pc n z v c number)
      (or_fault (reply_at images F pages t p s call (regs_of b pc n z v c)))

pub called : (images : List NamedImage) (F : FlatState) (pages : ℕ) (k : Stage) (p : Process) (at : IsAt pages k p) (b : Bank) (pc number : ℕ)
    (call : SystemCall)
    → call_numbered number ≡ Some call → Leaves (known pages (program_of k) (stage_address k) p at.space at.bank) b pc (Some (pos number))
    → Called images F pages (program_of k) p at.space b pc number call
called images F pages k p at b pc number call which l = record {
  n = l.n;
  z = l.z;
  v = l.v;
  c = l.c;
  is = ap (λ (x : Space). step_of images F p x false (instruction_in at.space p.regs)) (same_space pages (program_of k) at.space at.text)
      ∙ (ap (step_of images F p (space_at pages (program_of k) at.space) false) (known_is pages k p at ∙ l.is)
      ∙ ap (called_step images F p (space_at pages (program_of k) at.space) false (calling b pc l.n l.z l.v l.c number)) which);
}

-- a call that was granted, with this change: what it leaves in the registers
pub record Did (S : Step) (p : Process) (number : ℕ) (b : Bank) (pc : ℕ) (made : Change) : Type 0 where
  pub r0 : ℕ
  pub r1 : ℕ
  pub entries : S.entries ≡ entries.Call p.pid number false r0 r1 ∷ []
  pub change : S.change ≡ made
  pub writes : S.writes ≡ []
  pub regs : (let r : Regs = S.regs in r.r) ≡ file b pc

-- ---- break

break_word : ℕ → ℕ
break_word pages =
    (1024 + 1024 * pages) % 256 + 256 * ((1024 + 1024 * pages) / 256 % 256 + 256 * ((1024 + 1024 * pages) / 65536 % 256 + 256 * ((1024 + 1024 * pages) / 16777216 % 256 + 256 * 0)))

break_pages : ℕ → ℕ
break_pages pages = pages_for (break_word pages - 1024)

breaks_all : all_below (λ pages. break_pages pages == pages) 65 ≡ true
unfolding all_below break_pages break_word
breaks_all = refl

break_is : (pages : ℕ) → pages < 65 → break_pages pages ≡ pages
break_is pages few = eqb-true (break_pages pages) pages (below (λ x. break_pages x == x) 65 pages breaks_all few)

break_known : (images : List NamedImage) (F : FlatState) (q : Process) (pages sid image : ℕ) (bytes stack : List ℕ) (b : Bank) (pc : ℕ) (n z v c : Bool)
    → run (answers_of (space_of pages W sid image bytes stack)) (reply_of images F q (space_of pages W sid image bytes stack) calls.Break
    (regs_of (record b { ap = 0xA0 }) pc n z v c))
    ≡ Ok (break_by (nat_le (break_pages pages) 4096) (regs_of (record b { ap = 0xA0 }) pc n z v c) (break_pages pages) (length stack / 1024))
unfolding space_of regs_of text_page w_bytes spot_at reply_of break_reply argument number_at break_pages break_word
break_known images F q pages sid image bytes stack b pc n z v c = refl

break_done : (images : List NamedImage) (F : FlatState) (q : Process) (pages sid image : ℕ) (bytes stack : List ℕ) (b : Bank) (pc : ℕ) (n z v c : Bool)
    → b.ap ≡ 0xA0 → pages < 65 → length stack ≡ 1024
    → run (answers_of (space_of pages W sid image bytes stack)) (reply_of images F q (space_of pages W sid image bytes stack) calls.Break
    (regs_of b pc n z v c))
    ≡ Ok (replies.Does (replied (regs_of b pc n z v c) false 0) (Resize pages 1))
break_done images F q pages sid image bytes stack b pc n z v c e few long =
    subst (λ (x : ℕ). run (answers_of (space_of pages W sid image bytes stack)) (reply_of images F q (space_of pages W sid image bytes stack) calls.Break
    (regs_of (record b { ap = x }) pc n z v c))
    ≡ Ok (break_by (nat_le (break_pages pages) 4096) (regs_of (record b { ap = x }) pc n z v c) (break_pages pages) (length stack / 1024))) (sym e)
    (break_known images F q pages sid image bytes stack b pc n z v c)
    ∙ (ap (λ (x : ℕ). Ok (break_by (nat_le x 4096) (regs_of b pc n z v c) x (length stack / 1024))) (break_is pages few)
    ∙ (ap (λ (x : ℕ). Ok (break_by (nat_le pages 4096) (regs_of b pc n z v c) pages (x / 1024))) long
    ∙ ap (λ (x : Bool). Ok (break_by x (regs_of b pc n z v c) pages 1)) small))
  where
    small : nat_le pages 4096 ≡ true
    small = grind (arith, nat_tests)

did_of : (images : List NamedImage) (F : FlatState) (p : Process) (call : SystemCall) (b : Bank) (pc : ℕ) (n z v c : Bool) (number r0 : ℕ) (change : Change)
    → Did (replied_step images F p call (calling b pc n z v c number) (replies.Does (replied (regs_of b pc n z v c) false r0) change)) p (number_of call)
    (record b { r0 = r0 }) pc change
unfolding regs_of
did_of images F p call b pc n z v c number r0 change = record { r0 = _; r1 = _; entries = refl; change = refl; writes = refl; regs = refl }

did_both : (images : List NamedImage) (F : FlatState) (p : Process) (call : SystemCall) (b : Bank) (pc : ℕ) (n z v c : Bool) (number r0 r1 : ℕ)
    (change : Change)
    → Did (replied_step images F p call (calling b pc n z v c number) (replies.Does (replied_both (regs_of b pc n z v c) r0 r1) change)) p (number_of call)
    (record b { r0 = r0; r1 = r1 }) pc change
unfolding regs_of
did_both images F p call b pc n z v c number r0 r1 change = record { r0 = _; r1 = _; entries = refl; change = refl; writes = refl; regs = refl }

pub breaks : (images : List NamedImage) (F : FlatState) (pages : ℕ) (p : Process) (at : IsAt pages AtBreak p) → pages < 65
    → Did (step_from images F p at.space) p 17 (record at.bank { r0 = 0 }) 0x0b (Resize pages 1)
breaks images F pages p at few =
    let b : Bank = at.bank in let s : Space = at.space in let r : Regs = p.regs in
    let x : Called images F pages W p s b 0x0b 17 calls.Break = called images F pages AtBreak p at b 0x0b 17 calls.Break refl
    (code.w_breaks pages s.sid s.image s.data_bytes s.stack_bytes b r.n r.z r.v r.c) in
    subst (λ (S : Step). Did S p 17 (record b { r0 = 0 }) 0x0b (Resize pages 1))
    (sym (x.is ∙ ap (λ (o : Result Reply Refused). replied_step images F p calls.Break (calling b 0x0b x.n x.z x.v x.c 17) (or_fault o))
    (break_done images (apply_writes F p.pid []) (written_process p (space_at pages W s) []) pages s.sid s.image s.data_bytes s.stack_bytes b 0x0b x.n x.z x.v x.c at.says few at.stack)))
    (did_of images F p calls.Break b 0x0b x.n x.z x.v x.c 17 0 (Resize pages 1))

-- ---- fork

fork_done : (images : List NamedImage) (F : FlatState) (q : Process) (s : Space) (m : Rattle.vm_facts.specs.Answers.Answers) (regs : Regs)
    → length F.processes < 64
    → run m (reply_of images F q s calls.Fork regs) ≡ Ok (replies.Does (replied_both regs F.next_pid 0) (Fork F.next_pid))
unfolding reply_of
fork_done images F q s m regs few =
    let small : nat_lt (length F.processes) 64 ≡ true = lt_true (length F.processes) few in
    ap (λ (x : Bool). Ok (child_by x regs F.next_pid (Fork F.next_pid))) small
  where
    lt_true : (n : ℕ) → n < 64 → nat_lt n 64 ≡ true
    lt_true n lt = grind (arith, nat_tests)

pub forks : (images : List NamedImage) (F : FlatState) (pages : ℕ) (p : Process) (at : IsAt pages AtFork p) → length (apply_writes F p.pid []).processes < 64
    → Did (step_from images F p at.space) p 2 (record at.bank { r0 = (apply_writes F p.pid []).next_pid; r1 = 0 }) 0x0d
    (Fork (apply_writes F p.pid []).next_pid)
forks images F pages p at few =
    let b : Bank = at.bank in let s : Space = at.space in let r : Regs = p.regs in let F1 : FlatState = apply_writes F p.pid [] in
    let x : Called images F pages W p s b 0x0d 2 calls.Fork = called images F pages AtFork p at b 0x0d 2 calls.Fork refl (code.w_forks pages s.sid s.image s.data_bytes s.stack_bytes b r.n
    r.z r.v r.c) in
    subst (λ (S : Step). Did S p 2 (record b { r0 = F1.next_pid; r1 = 0 }) 0x0d (Fork F1.next_pid))
    (sym (x.is ∙ ap (λ (o : Result Reply Refused). replied_step images F p calls.Fork (calling b 0x0d x.n x.z x.v x.c 2) (or_fault o))
    (fork_done images F1 (written_process p (space_at pages W s) []) (space_at pages W s) (answers_of (space_at pages W s)) (regs_of b 0x0d x.n x.z x.v x.c) few)))
    (did_both images F p calls.Fork b 0x0d x.n x.z x.v x.c 2 F1.next_pid 0 (Fork F1.next_pid))

-- ---- write

-- what each program writes
abbrev pub output_of : LoadProgram → List ℕ
output_of W = 0x77 ∷ 0x0A ∷ []
output_of V = 0x76 ∷ 0x0A ∷ []

-- bytes were written, and then the call answered
pub record Wrote (S : Step) (p : Process) (bytes : List ℕ) (b : Bank) (pc : ℕ) : Type 0 where
  pub entries : S.entries ≡ entries.Out p.pid bytes ∷ entries.Call p.pid 4 false 2 b.r1 ∷ []
  pub change : S.change ≡ Keep
  pub writes : S.writes ≡ []
  pub regs : (let r : Regs = S.regs in r.r) ≡ file b pc

write_known : (images : List NamedImage) (F : FlatState) (q : Process) (t : LoadProgram) (pages sid image : ℕ) (bytes stack : List ℕ) (b : Bank) (pc : ℕ)
    (n z v c : Bool)
    → run (answers_of (space_of pages t sid image bytes stack)) (reply_of images F q (space_of pages t sid image bytes stack) calls.Write
    (regs_of (record b { ap = 0xA8 }) pc n z v c))
    ≡ Ok (replies.Writes (output_of t))
unfolding space_of regs_of text_page w_bytes v_bytes spot_at reply_of write_reply three_arguments argument number_at written_to bytes_from
write_known images F q W pages sid image bytes stack b pc n z v c = refl
write_known images F q V pages sid image bytes stack b pc n z v c = refl

wrote_of : (images : List NamedImage) (F : FlatState) (p : Process) (t : LoadProgram) (b : Bank) (pc : ℕ) (n z v c : Bool) (number : ℕ)
    → Wrote (replied_step images F p calls.Write (calling b pc n z v c number) (replies.Writes (output_of t))) p (output_of t) (record b { r0 = 2 }) pc
unfolding regs_of
wrote_of images F p W b pc n z v c number = record { entries = refl; change = refl; writes = refl; regs = refl }
wrote_of images F p V b pc n z v c number = record { entries = refl; change = refl; writes = refl; regs = refl }

pub writes : (images : List NamedImage) (F : FlatState) (pages : ℕ) (t : LoadProgram) (p : Process) (at : IsAt pages (AtWrite t) p)
    → Wrote (step_from images F p at.space) p (output_of t) (record at.bank { r0 = 2 }) (end_at t + 9)
writes images F pages t p at =
    let b : Bank = at.bank in let s : Space = at.space in let r : Regs = p.regs in let F1 : FlatState = apply_writes F p.pid [] in
    let x : Called images F pages t p s b (end_at t + 9) 4 calls.Write = called images F pages (AtWrite t) p at b (end_at t + 9) 4 calls.Write refl
    (code.writes t pages s.sid s.image s.data_bytes s.stack_bytes b r.n r.z r.v r.c) in
    let done : reply_at images F pages t p s calls.Write (regs_of b (end_at t + 9) x.n x.z x.v x.c) ≡ Ok (replies.Writes (output_of t)) =
    subst (λ (y : ℕ). reply_at images F pages t p s calls.Write (regs_of (record b { ap = y }) (end_at t + 9) x.n x.z x.v x.c) ≡ Ok (replies.Writes (output_of t))) (sym at.says)
    (write_known images F1 (written_process p (space_at pages t s) []) t pages s.sid s.image s.data_bytes s.stack_bytes b (end_at t + 9) x.n x.z x.v x.c) in
    subst (λ (S : Step). Wrote S p (output_of t) (record b { r0 = 2 }) (end_at t + 9))
    (sym (x.is ∙ ap (λ (o : Result Reply Refused). replied_step images F p calls.Write (calling b (end_at t + 9) x.n x.z x.v x.c 4) (or_fault o)) done))
    (wrote_of images F p t b (end_at t + 9) x.n x.z x.v x.c 4)

-- ---- exit

-- the process ends
pub record Ended (S : Step) (p : Process) : Type 0 where
  pub entries : S.entries ≡ entries.Ended p.pid 0 ∷ []
  pub change : S.change ≡ End 0
  pub writes : S.writes ≡ []

exit_known : (images : List NamedImage) (F : FlatState) (q : Process) (t : LoadProgram) (pages sid image : ℕ) (bytes stack : List ℕ) (b : Bank) (pc : ℕ)
    (n z v c : Bool)
    → run (answers_of (space_of pages t sid image bytes stack)) (reply_of images F q (space_of pages t sid image bytes stack) calls.Exit
    (regs_of (record b { ap = 0xB8 }) pc n z v c))
    ≡ Ok (replies.Exits 0)
unfolding space_of regs_of text_page w_bytes v_bytes spot_at reply_of exit_reply argument number_at
exit_known images F q W pages sid image bytes stack b pc n z v c = refl
exit_known images F q V pages sid image bytes stack b pc n z v c = refl

pub exits : (images : List NamedImage) (F : FlatState) (pages : ℕ) (t : LoadProgram) (p : Process) (at : IsAt pages (AtExit t) p)
    → Ended (step_from images F p at.space) p
exits images F pages t p at =
    let b : Bank = at.bank in let s : Space = at.space in let r : Regs = p.regs in let F1 : FlatState = apply_writes F p.pid [] in
    let x : Called images F pages t p s b (end_at t + 18) 1 calls.Exit = called images F pages (AtExit t) p at b (end_at t + 18) 1 calls.Exit refl
    (code.exits t pages s.sid s.image s.data_bytes s.stack_bytes b r.n r.z r.v r.c) in
    let done : reply_at images F pages t p s calls.Exit (regs_of b (end_at t + 18) x.n x.z x.v x.c) ≡ Ok (replies.Exits 0) =
    subst (λ (y : ℕ). reply_at images F pages t p s calls.Exit (regs_of (record b { ap = y }) (end_at t + 18) x.n x.z x.v x.c) ≡ Ok (replies.Exits 0)) (sym at.says)
    (exit_known images F1 (written_process p (space_at pages t s) []) t pages s.sid s.image s.data_bytes s.stack_bytes b (end_at t + 18) x.n x.z x.v x.c) in
    subst (λ (S : Step). Ended S p)
    (sym (x.is ∙ ap (λ (o : Result Reply Refused). replied_step images F p calls.Exit (calling b (end_at t + 18) x.n x.z x.v x.c 1) (or_fault o)) done))
    (record { entries = refl; change = refl; writes = refl })

-- ---- execve

-- the registers with which `v` begins
abbrev pub fresh_bank : Bank
fresh_bank = record {
  r0 = 0;
  r1 = 0;
  r2 = 0;
  r3 = 0;
  r4 = 0;
  r5 = 0;
  r6 = 0;
  r7 = 0;
  r8 = 0;
  r9 = 0;
  r10 = 0;
  r11 = 0;
  ap = 0;
  fp = 0;
  sp = 0x7fffebf0;
}

run_known : (F : FlatState) (q : Process) (pages sid image : ℕ) (bytes stack : List ℕ) (b : Bank) (pc : ℕ) (n z v c : Bool)
    → run (answers_of (space_of pages W sid image bytes stack)) (reply_of (images_for pages) F q (space_of pages W sid image bytes stack) calls.Execve
    (regs_of (record b { ap = 0xC0 }) pc n z v c))
    ≡ Ok (replies.Does (start_regs 0 []) (Exec 2 (start_page [])))
unfolding space_of regs_of text_page w_bytes spot_at reply_of execve_reply three_arguments argument number_at string_from image_named arguments_from
run_known F q pages sid image bytes stack b pc n z v c = refl

fresh_regs : (let r : Regs = start_regs 0 [] in r.r) ≡ file fresh_bank 2
unfolding start_regs argument_area
fresh_regs = refl

did_run : (images : List NamedImage) (F : FlatState) (p : Process) (b : Bank) (pc : ℕ) (n z v c : Bool) (number : ℕ)
    → Did (replied_step images F p calls.Execve (calling b pc n z v c number) (replies.Does (start_regs 0 []) (Exec 2 (start_page [])))) p 59 fresh_bank 2
    (Exec 2 (start_page []))
unfolding start_regs
did_run images F p b pc n z v c number = record { r0 = _; r1 = _; entries = refl; change = refl; writes = refl; regs = fresh_regs }

pub runs : (F : FlatState) (pages : ℕ) (p : Process) (at : IsAt pages AtExecve p)
    → Did (step_from (images_for pages) F p at.space) p 59 fresh_bank 2 (Exec 2 (start_page []))
runs F pages p at =
    let b : Bank = at.bank in let s : Space = at.space in let r : Regs = p.regs in let F1 : FlatState = apply_writes F p.pid [] in
    let x : Called (images_for pages) F pages W p s b 0x4f 59 calls.Execve = called (images_for pages) F pages AtExecve p at b 0x4f 59 calls.Execve refl
    (code.w_runs pages s.sid s.image s.data_bytes s.stack_bytes b r.n r.z r.v r.c) in
    let done : reply_at (images_for pages) F pages W p s calls.Execve (regs_of b 0x4f x.n x.z x.v x.c) ≡ Ok (replies.Does (start_regs 0 []) (Exec 2 (start_page []))) =
    subst (λ (y : ℕ). reply_at (images_for pages) F pages W p s calls.Execve (regs_of (record b { ap = y }) 0x4f x.n x.z x.v x.c) ≡ Ok
    (replies.Does (start_regs 0 []) (Exec 2 (start_page [])))) (sym at.says)
    (run_known F1 (written_process p (space_at pages W s) []) pages s.sid s.image s.data_bytes s.stack_bytes b 0x4f x.n x.z x.v x.c) in
    subst (λ (S : Step). Did S p 59 fresh_bank 2 (Exec 2 (start_page [])))
    (sym (x.is ∙ ap (λ (o : Result Reply Refused). replied_step (images_for pages) F p calls.Execve (calling b 0x4f x.n x.z x.v x.c 59) (or_fault o)) done))
    (did_run (images_for pages) F p b 0x4f x.n x.z x.v x.c 59)

-- ---- wait

-- a wait sleeps; or it takes a child that has ended; or there is no child
pub data Waited (F : FlatState) (p : Process) (b : Bank) (S : Step) : Type 0 where
  Slept : (child : Process) → find (λ q. q.parent == p.pid) F.processes ≡ Some child → find (is_zombie_child p.pid) F.processes ≡ None
      → S.entries ≡ entries.Sleeps p.pid ∷ [] → S.change ≡ Sleep → S.writes ≡ [] → S.regs ≡ p.regs → Waited F p b S
  Reaped : (zombie : Process) (status : ℕ) → find (is_zombie_child p.pid) F.processes ≡ Some zombie
      → Did S p 84 (record b { r0 = zombie.pid; r1 = status }) 0x34 (Reap zombie.pid) → Waited F p b S
  Failed : (r0 r1 : ℕ) → S.entries ≡ entries.Call p.pid 84 true r0 r1 ∷ [] → S.change ≡ Keep → S.writes ≡ []
      → (let r : Regs = S.regs in r.r) ≡ file (record b { r0 = r0 }) 0x34 → Waited F p b S

wait_done : (images : List NamedImage) (F F1 : FlatState) (p : Process) (b : Bank) (n z v c : Bool) (child zombie : Option Process)
    → find (λ q. q.parent == p.pid) F1.processes ≡ child → find (is_zombie_child p.pid) F1.processes ≡ zombie
    → Waited F1 p b (replied_step images F p calls.Wait (calling b 0x34 n z v c 84) (wait_by child zombie (regs_of b 0x34 n z v c)))
unfolding regs_of
wait_done images F F1 p b n z v c None zombie e f = Failed _ _ refl refl refl refl
wait_done images F F1 p b n z v c (Some child) None e f = Slept child e f refl refl refl refl
wait_done images F F1 p b n z v c (Some child) (Some zombie) e f = Reaped zombie _ f (record { r0 = _; r1 = _; entries = refl; change = refl; writes = refl; regs = refl })

wait_known : (images : List NamedImage) (F : FlatState) (q : Process) (s : Space) (m : Rattle.vm_facts.specs.Answers.Answers) (regs : Regs)
    → run m (reply_of images F q s calls.Wait regs) ≡ Ok (wait_by (find (λ r. r.parent == q.pid) F.processes) (find (is_zombie_child q.pid) F.processes)
    regs)
unfolding reply_of
wait_known images F q s m regs = refl

pub waits : (images : List NamedImage) (F : FlatState) (pages : ℕ) (p : Process) (at : IsAt pages AtWait p)
    → Waited (apply_writes F p.pid []) p at.bank (step_from images F p at.space)
waits images F pages p at =
    let b : Bank = at.bank in let s : Space = at.space in let r : Regs = p.regs in let F1 : FlatState = apply_writes F p.pid [] in
    let x : Called images F pages W p s b 0x34 84 calls.Wait = called images F pages AtWait p at b 0x34 84 calls.Wait refl
    (code.w_waits pages s.sid s.image s.data_bytes s.stack_bytes b r.n r.z r.v r.c) in
    subst (λ (S : Step). Waited F1 p b S)
    (sym (x.is ∙ ap (λ (o : Result Reply Refused). replied_step images F p calls.Wait (calling b 0x34 x.n x.z x.v x.c 84) (or_fault o))
    (wait_known images F1 (written_process p (space_at pages W s) []) (space_at pages W s) (answers_of (space_at pages W s)) (regs_of b 0x34 x.n x.z x.v x.c))))
    (wait_done images F F1 p b x.n x.z x.v x.c (find (λ q. q.parent == p.pid) F1.processes) (find (is_zombie_child p.pid) F1.processes) refl refl)
