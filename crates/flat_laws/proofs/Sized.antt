-- The spaces of each run have whole pages, and no more than may be.
use Rattle.std.proofs.Common.{◌≡◌, ℕ, ◌+◌, ◌≤◌, ◌==◌, ◌||◌, nat_lt, nat_le, min, Bool, true, false, not, cond, List, [], ◌∷◌, ◌++◌, length, map, filter, find, Option, Some, None, Result, Ok, Err, ℤ, refl, sym, ap, subst, arith}
use Rattle.std.proofs.lemmas.List.{length-set}
use Rattle.std.proofs.lemmas.Bool.Decides.{nat_tests}
use Rattle.flat_state.proofs.SpaceLaws.{length-resized_bytes}
use Rattle.vm_facts.specs.Answers.{Answers, ByteWrite}
use Rattle.flat_state.specs.Space.{Space, address_in, answers_of, put_at, put_in_space, puts}
use Rattle.flat_state.specs.Flat.{Holding, Holds, Lends, Zombie, Process, FlatState, NamedImage, Inputs, image_numbered, process_of, start_if, start_processes, start_state}
use Rattle.vm_facts.specs.declared.entry.Entry.{Entry}
use Rattle.vm_facts.specs.declared.regs.Regs.{Regs}
use Rattle.user_vax.specs.Program.{Program, run}
use Rattle.user_vax.specs.Effects.{Effect}
use Rattle.user_vax.specs.declared.refused.Refused.{Refused as Refusal}
use Rattle.user_vax.specs.declared.refused.Refused.TheVariants.{Miss, Below, Signal}
use Rattle.aout_image.specs.Image.{judged_image}
use Rattle.aout_image.proofs.Images.{image_of-is, has_pages}
use Rattle.flat_state.specs.declared.spot.Spot.{Spot}
use Rattle.flat_state.specs.declared.spot.Spot.TheVariants as spots
use Rattle.flat_state.specs.declared.change.Change.{Change}
use Rattle.flat_state.specs.declared.change.Change.TheVariants.{Keep, Resize, Fork, Lend, Exec, Reap, Sleep, End}
use Rattle.flat_state.specs.Change.{replaced_by, replaced, with_process, resized, lends_to, returned_by, returned, given_back, entered, is_zombie_child, without_parent, orphaned, awake, left, ended, changed, changed_by, changed_if, apply_change, wrote_by, wrote_if, apply_writes}
use Rattle.flat_model.specs.declared.calls.Reply.{Reply}
use Rattle.flat_model.specs.declared.calls.Reply.TheVariants as replies
use Rattle.flat_model.specs.declared.calls.SystemCall.{SystemCall}
use Rattle.flat_model.specs.declared.calls.SystemCall.TheVariants as calls
use Rattle.flat_model.specs.Calls.{argument, three_arguments, bytes_from, string_from, arguments_at, exit_reply, child_by, written_to, write_reply, break_by, break_reply, pages_up_to, stack_pages_of, data_limit, path_image, starts, execve_of, execve_reply, wait_by, reply_of, or_fault, refused_reply, unless_refused, wants_space, string_limit, write_limit, process_limit, call_of}
use Rattle.flat_model.specs.Instruction.{instruction_in}
use Rattle.flat_model.specs.Step.{step_of, step_behind, called_step, replied_step, step_holding, step_if, flat_step, written_process, reply_behind}
use Rattle.flat_model.specs.Run.{Point, flat_run}
use Rattle.flat_model.proofs.Coming.{run_keeps}
use Rattle.flat_laws.specs.Whole.{EachWhole, ImageWhole, ImagesWhole, IsSized, HasSize, AllSized}
use Rattle.flat_laws.proofs.Cover.{yields_bind, yields_any, yields_ok}
use Rattle.flat_laws.proofs.Computations.{AllGives}

-- Lists of processes.

sized_replaced : (qs : List Process) (p : Process) → AllSized qs → HasSize p.holding → AllSized (replaced qs p)
unfolding replaced
sized_replaced [] p h k = tt
sized_replaced (q ∷ qs) p h k = go (q.pid == p.pid) (sized_replaced qs p h.1 k)
  where
    go : (b : Bool) → AllSized (replaced qs p) → AllSized (replaced_by b p q qs (replaced qs p))
    go true later = (k, h.1)
    go false later = (h.0, later)

sized_filter : (test : Process → Bool) (qs : List Process) → AllSized qs → AllSized (filter test qs)
sized_filter test [] h = tt
sized_filter test (q ∷ qs) h = go (test q) (sized_filter test qs h.1)
  where
    go : (b : Bool) → AllSized (filter test qs) → AllSized (cond b (q ∷ filter test qs) (filter test qs))
    go true later = (h.0, later)
    go false later = later

sized_map : (f : Process → Process) (qs : List Process) → ((q : Process) → (f q).holding ≡ q.holding) → AllSized qs → AllSized (map f qs)
sized_map f [] e h = tt
sized_map f (q ∷ qs) e h = (subst HasSize (sym (e q)) h.0, sized_map f qs e h.1)

sized_append : (qs : List Process) (p : Process) → AllSized qs → HasSize p.holding → AllSized (qs ++ p ∷ [])
sized_append [] p h k = (k, tt)
sized_append (q ∷ qs) p h k = (h.0, sized_append qs p h.1 k)

sized_returned : (pid : ℕ) (s : Space) (qs : List Process) → AllSized qs → IsSized s → AllSized (returned pid s qs)
unfolding returned
sized_returned pid s [] h k = tt
sized_returned pid s (q ∷ qs) h k = go (lends_to pid q.holding) (sized_returned pid s qs h.1 k)
  where
    go : (b : Bool) → AllSized (returned pid s qs) → AllSized (returned_by b s q qs (returned pid s qs))
    go true later = (k, h.1)
    go false later = (h.0, later)

sized_found : (qs : List Process) (pid : ℕ) (p : Process) → AllSized qs → find (λ q. q.pid == pid) qs ≡ Some p → HasSize p.holding
sized_found [] pid p h e = absurd cc
sized_found (q ∷ qs) pid p h e = go (λ k. sized_found qs pid p h.1 k) (q.pid == pid) e
  where
    go : (find (λ r. r.pid == pid) qs ≡ Some p → HasSize p.holding) → (b : Bool) → cond b (Some q) (find (λ r. r.pid == pid) qs) ≡ Some p → HasSize p.holding
    go later true k = let same : q ≡ p = cc in subst (λ (r : Process). HasSize r.holding) same h.0
    go later false k = later k

-- Spaces.

put_at_sized : (s : Space) (spot : Spot) (byte : ℕ) → IsSized s → IsSized (put_at s spot byte)
put_at_sized s (spots.Data i) byte h = record {
  text = h.text;
  text_fits = h.text_fits;
  «data» = (let n = length-set s.data_bytes i byte in let k = h.data in omega arith);
  data_fits = (let n = length-set s.data_bytes i byte in let k = h.data_fits in omega arith);
}
put_at_sized s (spots.Stack i) byte h = record { text = h.text; text_fits = h.text_fits; «data» = h.data; data_fits = h.data_fits }
put_at_sized s _ byte h = h

puts_sized : (s : Space) (ws : List ByteWrite) → IsSized s → IsSized (puts s ws)
puts_sized s [] h = h
puts_sized s (w ∷ ws) h = puts_sized (put_in_space s w) ws (put_at_sized s (address_in s w.address) w.byte h)

resized_sized : (s : Space) (data_pages stack_pages : ℕ) → data_pages ≤ 4096 → IsSized s → IsSized (resized s data_pages stack_pages)
resized_sized s data_pages stack_pages l h =
    let n = length-resized_bytes data_pages s.data_bytes in
    record { text = h.text; text_fits = h.text_fits; «data» = omega arith; data_fits = omega arith }

-- Changes.

-- a segment gets no more pages than it may have
abbrev MayResize : Change → Type 0
MayResize (Resize data_pages stack_pages) = data_pages ≤ 4096
MayResize _ = Unit {0}

left_sized : (b : Bool) (F : FlatState) (pid parent : ℕ) → AllSized F.processes → AllSized (left b F pid parent).processes
left_sized true F pid parent h = sized_filter (λ q. not (q.pid == pid)) F.processes h
left_sized false F pid parent h = sized_map (awake parent) F.processes (λ q. refl) h

ended_sized : (F : FlatState) (p : Process) (s : Space) (status : ℕ) → AllSized F.processes → IsSized s → AllSized (ended F p s status).processes
ended_sized F p s status h k =
    left_sized (p.parent == 0) (orphaned (given_back (with_process F record p { holding = Zombie status }) p.pid s) p.pid) p.pid p.parent
    (sized_map (without_parent p.pid) _ (λ q. refl)
    (sized_filter (λ q. not (is_zombie_child p.pid q)) _
    (sized_returned p.pid s (replaced F.processes record p { holding = Zombie status }) (sized_replaced F.processes (record p { holding = Zombie status }) h tt) k)))

entered_sized : (images : List NamedImage) (F : FlatState) (p : Process) (s : Space) (number : ℕ) (o : Option NamedImage) (top : List ℕ)
    → ImagesWhole images → image_numbered images number ≡ o
    → AllSized F.processes → IsSized s → AllSized (entered F p s number o top).processes
entered_sized images F p s number None top w e h k = h
entered_sized images F p s number (Some named) top w e h k =
    let loaded : ImageWhole named → IsSized (record { sid = F.next_sid; image = number; text_bytes = named.image.text; data_bytes = named.image.data; stack_bytes = top }) = λ fits.
    let a =
    fits.text in let b = fits.text_fits in let c = fits.data in let d = fits.data_fits in record { text = omega arith; text_fits = omega arith; «data» = omega arith; data_fits = omega arith } in
    sized_returned p.pid s _ (sized_replaced F.processes _ h (loaded (w number named e))) k

changed_sized : (images : List NamedImage) (F : FlatState) (p : Process) (s : Space) (change : Change) → ImagesWhole images → MayResize change
    → AllSized F.processes → p.holding ≡ Holds s → IsSized s
    → AllSized (changed images F p s change).processes
changed_sized images F p s Keep w may h e k = sized_replaced F.processes p h (subst HasSize (sym e) k)
changed_sized images F p s (Resize data_pages stack_pages) w may h e k = sized_replaced F.processes _ h (resized_sized s data_pages stack_pages may k)
changed_sized images F p s (Fork child) w may h e k =
    sized_append (replaced F.processes p) _ (sized_replaced F.processes p h (subst HasSize (sym e) k))
    (record { text = k.text; text_fits = k.text_fits; «data» = k.data; data_fits = k.data_fits })
changed_sized images F p s (Lend child) w may h e k = sized_append (replaced F.processes record p { holding = Lends s.sid child }) _ (sized_replaced F.processes _ h tt) k
changed_sized images F p s (Exec image top) w may h e k = entered_sized images F p s image (image_numbered images image) top w refl h k
changed_sized images F p s (Reap child) w may h e k =
    sized_replaced (filter (λ q. not (q.pid == child)) F.processes) p (sized_filter (λ q. not (q.pid == child)) F.processes h) (subst HasSize (sym e) k)
changed_sized images F p s Sleep w may h e k = sized_replaced F.processes _ h (subst HasSize (sym e) k)
changed_sized images F p s (End status) w may h e k = ended_sized F p s status h k

change_sized : (images : List NamedImage) (F : FlatState) (pid : ℕ) (regs : Regs) (change : Change) → ImagesWhole images → MayResize change
    → AllSized F.processes → AllSized (apply_change images F pid regs change).processes
unfolding apply_change
change_sized images F pid regs change w may h = go (process_of F pid) refl
  where
    by : (p : Process) (held : Holding) → process_of F pid ≡ Some p → p.holding ≡ held → AllSized (changed_by images F (record p { regs = regs }) change held).processes
    by p (Holds s) e k = changed_sized images F (record p { regs = regs }) s change w may h k (subst HasSize k (sized_found F.processes pid p h e))
    by p (Lends sid child) e k = h
    by p (Zombie status) e k = h

    go : (o : Option Process) → process_of F pid ≡ o → AllSized (changed_if images F regs change o).processes
    go None e = h
    go (Some p) e = by p p.holding e refl

writes_sized : (F : FlatState) (pid : ℕ) (ws : List ByteWrite) → AllSized F.processes → AllSized (apply_writes F pid ws).processes
unfolding apply_writes
writes_sized F pid ws h = go (process_of F pid) refl
  where
    by : (p : Process) (held : Holding) → process_of F pid ≡ Some p → p.holding ≡ held → AllSized (wrote_by F p ws held).processes
    by p (Holds s) e k = sized_replaced F.processes _ h (puts_sized s ws (subst HasSize k (sized_found F.processes pid p h e)))
    by p (Lends sid child) e k = h
    by p (Zombie status) e k = h

    go : (o : Option Process) → process_of F pid ≡ o → AllSized (wrote_if F ws o).processes
    go None e = h
    go (Some p) e = by p p.holding e refl

-- Replies.

abbrev ReplyResizes : Reply → Type 0
ReplyResizes (replies.Does regs change) = MayResize change
ReplyResizes _ = Unit {0}

child_resizes : (b : Bool) (regs : Regs) (child : ℕ) → ReplyResizes (child_by b regs child (Fork child)) × ReplyResizes (child_by b regs child (Lend child))
child_resizes true regs child = (tt, tt)
child_resizes false regs child = (tt, tt)

break_resizes : (b : Bool) (regs : Regs) (x y : ℕ) → nat_le x data_limit ≡ b → ReplyResizes (break_by b regs x y)
break_resizes true regs x y e = grind (arith, nat_tests)
break_resizes false regs x y e = tt

starts_resizes : (found : ℕ × NamedImage) (arguments : Option (List (List ℕ))) → ReplyResizes (starts found arguments)
starts_resizes found None = tt
starts_resizes found (Some arguments) = tt

execve_resizes : (argv : ℕ) (found : Option (ℕ × NamedImage)) → AllGives ReplyResizes (execve_of argv found)
execve_resizes argv None = tt
execve_resizes argv (Some found) = yields_bind (λ _. Unit {0}) ReplyResizes (arguments_at argv) _ (yields_any (arguments_at argv)) (λ arguments _. starts_resizes found arguments)

written_resizes : (b : Bool) (buffer count : ℕ) → AllGives ReplyResizes (written_to b buffer count)
unfolding written_to
written_resizes true buffer count = yields_bind (λ _. Unit {0}) ReplyResizes (bytes_from (min count write_limit) buffer) _ (yields_any (bytes_from (min count write_limit) buffer)) (λ bytes _. tt)
written_resizes false buffer count = tt

wait_resizes : (child zombie : Option Process) (regs : Regs) → ReplyResizes (wait_by child zombie regs)
wait_resizes None zombie regs = tt
wait_resizes (Some child) None regs = tt
wait_resizes (Some child) (Some z) regs = tt

all_resize : (images : List NamedImage) (F : FlatState) (p : Process) (s : Space) (call : SystemCall) (regs : Regs)
    → AllGives ReplyResizes (reply_of images F p s call regs)
unfolding reply_of exit_reply write_reply break_reply execve_reply
all_resize images F p s calls.Exit regs = yields_bind (λ _. Unit {0}) ReplyResizes (argument regs 1) _ (yields_any (argument regs 1)) (λ code _. tt)
all_resize images F p s calls.Fork regs = (child_resizes (nat_lt (length F.processes) process_limit) regs F.next_pid).0
all_resize images F p s calls.Write regs =
    yields_bind (λ _. Unit {0}) ReplyResizes (three_arguments regs) _ (yields_any (three_arguments regs)) (λ asked _. written_resizes (asked.0 == 1 || asked.0 == 2) asked.1 asked.2)
all_resize images F p s calls.Break regs =
    yields_bind (λ _. Unit {0}) ReplyResizes (argument regs 1) _ (yields_any (argument regs 1))
    (λ address _. break_resizes (nat_le (pages_up_to s address) data_limit) regs (pages_up_to s address) (stack_pages_of s) refl)
all_resize images F p s calls.Getpid regs = tt
all_resize images F p s calls.Execve regs =
    yields_bind (λ _. Unit {0}) ReplyResizes (three_arguments regs) _ (yields_any (three_arguments regs)) (λ asked _.
    yields_bind (λ _. Unit {0}) ReplyResizes (string_from string_limit asked.0) _ (yields_any (string_from string_limit asked.0)) (λ path _. execve_resizes asked.1 (path_image images path)))
all_resize images F p s calls.Vfork regs = (child_resizes (nat_lt (length F.processes) process_limit) regs F.next_pid).1
all_resize images F p s calls.Wait regs = wait_resizes (find (λ q. q.parent == p.pid) F.processes) (find (is_zombie_child p.pid) F.processes) regs

fault_resizes : (memory : Answers) (p : Program Reply) → AllGives ReplyResizes p → ReplyResizes (or_fault (run memory p))
fault_resizes memory p h = go (run memory p) refl
  where
    go : (result : Result Reply Refusal) → run memory p ≡ result → ReplyResizes (or_fault result)
    go (Ok reply) e = yields_ok memory ReplyResizes p reply h e
    go (Err refused) e = tt

refused_resizes : (refused : Bool) (reply : Reply) → ReplyResizes reply → ReplyResizes (refused_reply refused reply)
refused_resizes false reply h = h
refused_resizes true (replies.Does regs change) h = go (wants_space change)
  where
    go : (b : Bool) → ReplyResizes (unless_refused b (replies.Does regs change))
    go true = tt
    go false = h
refused_resizes true (replies.Fails error) h = tt
refused_resizes true (replies.Writes bytes) h = tt
refused_resizes true replies.Waits h = tt
refused_resizes true (replies.Exits status) h = tt

-- Steps.

module _ (images : List NamedImage) (F : FlatState) (p : Process) where
  after_sized : (ws : List ByteWrite) (regs : Regs) (change : Change) → ImagesWhole images → MayResize change → AllSized F.processes
      → AllSized (apply_change images (apply_writes F p.pid ws) p.pid regs change).processes
  after_sized ws regs change w may h = change_sized images (apply_writes F p.pid ws) p.pid regs change w may (writes_sized F p.pid ws h)

  replied_sized : (call : SystemCall) (effect : Effect) (reply : Reply) → ImagesWhole images → ReplyResizes reply → AllSized F.processes
      → AllSized (replied_step images F p call effect reply).after.processes
  replied_sized call effect (replies.Does regs change) w fits h = after_sized effect.writes regs change w fits h
  replied_sized call effect replies.Waits w fits h = after_sized effect.writes p.regs Sleep w tt h
  replied_sized call effect (replies.Exits status) w fits h = after_sized effect.writes p.regs (End status) w tt h
  replied_sized call effect _ w fits h = after_sized effect.writes _ Keep w tt h

  called_sized : (t : Space) (refused : Bool) (effect : Effect) (call : Option SystemCall) → ImagesWhole images → AllSized F.processes
      → AllSized (called_step images F p t refused effect call).after.processes
  called_sized t refused effect None w h = after_sized effect.writes p.regs (End 12) w tt h
  called_sized t refused effect (Some call) w h =
      replied_sized call effect (reply_behind images F p t refused call effect) w
      (refused_resizes refused _ (fault_resizes (answers_of (puts t effect.writes))
      (reply_of images (apply_writes F p.pid effect.writes) (written_process p t effect.writes) (puts t effect.writes) call effect.regs)
      (all_resize images (apply_writes F p.pid effect.writes) (written_process p t effect.writes) (puts t effect.writes) call effect.regs)))
      h

  behind_sized : (t : Space) (refused : Bool) (effect : Effect) (number : Option ℤ) → ImagesWhole images → AllSized F.processes
      → AllSized (step_behind images F p t refused effect number).after.processes
  behind_sized t refused effect None w h = after_sized effect.writes effect.regs Keep w tt h
  behind_sized t refused effect (Some number) w h = called_sized t refused effect (call_of number) w h

  of_sized : (t : Space) (refused : Bool) (result : Result Effect Refusal) → ImagesWhole images → IsSized t → AllSized F.processes
      → AllSized (step_of images F p t refused result).after.processes
  of_sized t refused (Ok effect) w k h = behind_sized t refused effect effect.call w h
  of_sized t refused (Err (Miss a b)) w k h = h
  of_sized t true (Err (Below a)) w k h = after_sized [] p.regs (End 11) w tt h
  of_sized t false (Err (Below a)) w k h = after_sized [] p.regs _ w (let l = k.data_fits in omega arith) h
  of_sized t refused (Err (Signal n)) w k h = after_sized [] p.regs (End n) w tt h

pub step_sized : (A : Inputs) (F : FlatState) (pid : ℕ) (refused : Bool) → ImagesWhole A.images → AllSized F.processes
    → AllSized (flat_step A F pid refused).after.processes
unfolding flat_step
step_sized A F pid refused w h = go (process_of F pid) refl
  where
    by : (p : Process) (held : Holding) → process_of F pid ≡ Some p → p.holding ≡ held → AllSized (step_holding A.images F p refused held).after.processes
    by p (Holds t) e k = of_sized A.images F p t refused (instruction_in t p.regs) w (subst HasSize k (sized_found F.processes pid p h e)) h
    by p (Lends sid child) e k = h
    by p (Zombie status) e k = h

    go : (o : Option Process) → process_of F pid ≡ o → AllSized (step_if A.images F refused o).after.processes
    go None e = h
    go (Some p) e = by p p.holding e refl

-- The start.

started_sized : (images : List NamedImage) (first : List ℕ) (n : ℕ) → ImagesWhole images → AllSized (start_processes images n first)
started_sized images [] n w = tt
started_sized images (number ∷ more) n w = go (image_numbered images number) refl (started_sized images more (n + 1) w)
  where
    loaded : (named : NamedImage) (s : Space) → s.text_bytes ≡ named.image.text → s.data_bytes ≡ named.image.data → ImageWhole named → IsSized s
    loaded named s e f fits =
        let a = fits.text in let b = fits.text_fits in let c = fits.data in let d = fits.data_fits in
        let m = ap length e in let n = ap length f in
        record { text = omega arith; text_fits = omega arith; «data» = omega arith; data_fits = omega arith }

    go : (o : Option NamedImage) → image_numbered images number ≡ o → AllSized (start_processes images (n + 1) more) → AllSized (start_if n number o ++ start_processes images (n + 1) more)
    go None e later = later
    go (Some named) e later = (loaded named _ refl refl (w number named e), later)

-- Runs.

pub start_sized : (A : Inputs) → ImagesWhole A.images → AllSized (start_state A).processes
start_sized A w = started_sized A.images A.first 1 w

pub run_sized : (A : Inputs) (journal : List Entry) (point : Point) → ImagesWhole A.images → flat_run A journal ≡ Some point → AllSized point.flat.processes
run_sized A journal point w h =
    run_keeps (λ (F : FlatState). AllSized F.processes) A journal point (λ F pid refused k. step_sized A F pid refused w k) (start_sized A w) h

-- such a space is of whole pages below 2 ^ 32
pub sized_whole : (F : FlatState) → AllSized F.processes → EachWhole F
sized_whole F h = λ pid p s here holds.
    let sized : IsSized s = subst HasSize holds (sized_found F.processes pid p h here) in
    let a = sized.text_fits in
    let b = sized.data_fits in
    record { text = sized.text; «data» = sized.data; fits = omega arith }

-- an image that a file is has whole pages, no more than it may have
pub image_whole : (named : NamedImage) (bytes : List ℕ) → judged_image bytes ≡ Ok named.image → ImageWhole named
image_whole named bytes e =
    let file = image_of-is bytes named.image e in
    record {
      text = has_pages named.image.facts true bytes named.image e refl;
      «data» = has_pages named.image.facts false bytes named.image e refl;
      text_fits = file.sound.text_fits;
      data_fits = file.sound.data_fits;
    }
