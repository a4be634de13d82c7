-- What the coupling asks beside it stands after each change of a process.
use Rattle.std.proofs.Common.{◌≡◌, ◌≢◌, inl, inr, ℕ, ◌*◌, ◌==◌, ◌||◌, ◌&&◌, Bool, true, false, cond, not, List, [], ◌∷◌, ◌++◌, length, map, filter, Option, Some, None, refl, sym, ap, ◌∙◌, subst}
use Rattle.std.proofs.Math.Bool.{and-false}
use Rattle.std.proofs.lemmas.Bool.{cases_eq}
use Rattle.vm_facts.specs.Answers.{ByteWrite}
use Rattle.flat_state.specs.Space.{Space, put_in_space}
use Rattle.flat_state.specs.Flat.{Holding, Holds, Lends, Zombie, Process, FlatState, NamedImage, process_of, holds_space, image_numbered, space_with}
use Rattle.vm_facts.specs.declared.page.Page.{Page}
use Rattle.vm_facts.specs.declared.page.Page.TheVariants.{Stack, Text}
use Rattle.vm_facts.specs.declared.regs.Regs.{Regs}
use Rattle.vm_facts.specs.declared.entry.Entry.{Entry}
use Rattle.flat_state.specs.declared.change.Change.{Change}
use Rattle.flat_state.specs.declared.change.Change.TheVariants.{Keep, Resize, Fork, Lend, Exec, Reap, Sleep, End}
use Rattle.flat_state.specs.Change.{with_process, without_process, replaced, resized, child_of, returned, returned_by, lends_to, given_back, changed, ended, is_zombie, is_zombie_child, without_parent, awake, orphaned, entered, apply_change, apply_writes}
use Rattle.flat_state.specs.Journal.{append}
use Rattle.page_model.specs.Pages.{numbered}
use Rattle.flat_state.specs.PageNames.{same_page}
use Rattle.page_model.specs.Placement.{Placement, Residence, Due, Start, due_of_page, slots_of}
use Rattle.page_model.specs.Moves.{drop_all, touch}
use Rattle.page_model.specs.Place.{enter_image, give_up_unless, facts_of}
use Rattle.page_model.specs.Swapper.{is_out, residence_of}
use Rattle.kernel_model.specs.Stands.{OutHold, holds_some, Stands}
use Rattle.flat_state.specs.Lenders.{IsLender}
use Rattle.kernel_model.specs.Kernel.{Kernel, Proc, StartBytes, New, HoldsSpace, write_step}
use Rattle.kernel_model.specs.Sound.{is_start, has_start}
use Rattle.kernel_model.specs.Coupled.{SameTables}
use Rattle.kernel_model.specs.ChangeStep.{ran_by, with_proc, orphaned_procs, left_procs, pass_step, change_step}
use Rattle.page_laws.proofs.Lists.Pages.{mapped, numbered_hit, numbered_miss}
use Rattle.flat_state.proofs.PageNames.{same_page_self}
use Rattle.page_laws.proofs.Moves.Stays.{Steady}
use Rattle.page_laws.proofs.Bytes.Others.{touch_steady}
use Rattle.page_laws.proofs.Ownership.Changes.{dropped_pages}
use Rattle.page_laws.proofs.Bytes.Changes.{drop_all_rest}
use Rattle.page_laws.proofs.Bytes.Spaces.{apart_page}
use Rattle.kernel_laws.proofs.Flat.Numbered.{numbered_map, removed_not, pushed_found}
use Rattle.kernel_laws.proofs.Flat.Lists.{pid_of, found_is, replaced_at, replaced_not}
use Rattle.kernel_laws.proofs.Machine.Shapes.{Shaped, sizes_kept, drop_all_shaped, touch_shaped}
use Rattle.kernel_laws.proofs.Machine.Swaps.{applied, found_at, found_self}
use Rattle.kernel_laws.proofs.Machine.Writes.{written}
use Rattle.kernel_laws.proofs.Machine.Forks.{out_begun}
use Rattle.kernel_laws.proofs.Machine.Gone.{Gone, gone_unless}
use Rattle.kernel_laws.proofs.Pieces.Sizes.{unless_texts}
use Rattle.kernel_laws.proofs.Machine.Execs.{exec_kernel}
use Rattle.kernel_laws.proofs.Machine.Ends.{end_kernel, left_flat, left_is, orphans, out_ended, out_gone}
use Rattle.kernel_laws.proofs.Machine.Returns.{passes, Borrowing, borrowing, back_kernel, back_proc}
use Rattle.kernel_laws.proofs.Machine.Processes.{Stepping, stepping, by_life, step_is}
use Rattle.kernel_laws.proofs.Machine.Images.{image_known}
use Rattle.aout_image.specs.declared.Image.{Image}

-- Who holds a space still does.

-- a process that is found holds a space
abbrev pub Held : List Process → ℕ → Type 0
Held ps n = holds_some (numbered pid_of n ps) ≡ true

pub held_out : (p : Placement) (flat : FlatState) (n : ℕ) → OutHold p flat → is_out p n ≡ true → Held flat.processes n
held_out p flat n o e = ap holds_some (sym (found_is flat.processes n)) ∙ o n e

pub out_held : (p q : Placement) (flat after : FlatState) → OutHold p flat
    → ((n : ℕ) → is_out q n ≡ true → (is_out p n ≡ true) × (Held flat.processes n → Held after.processes n)) → OutHold q after
out_held p q flat after o h n e = let x = h n e in ap holds_some (found_is after.processes n) ∙ x.1 (held_out p flat n o x.0)

held_replaced : (ps : List Process) (fp : Process) (n : ℕ) → n ≢ fp.pid → Held ps n → Held (replaced ps fp) n
held_replaced ps fp n d h = ap holds_some (replaced_not ps fp n d) ∙ h

-- one that gives way to a process that holds a space
held_holder : (ps : List Process) (m fp : Process) (n : ℕ) → numbered pid_of fp.pid ps ≡ Some m → holds_space fp.holding ≡ true → Held ps n
    → Held (replaced ps fp) n
held_holder ps m fp n e t h = elim (cases_eq n fp.pid) [
  | inl i ↦ ap (λ (y : ℕ). holds_some (numbered pid_of y (replaced ps fp))) i ∙ ap holds_some (replaced_at ps m fp e) ∙ t
  | inr d ↦ held_replaced ps fp n d h
]

held_pushed : (ps : List Process) (p : Process) (n : ℕ) → Held ps n → Held (ps ++ p ∷ []) n
held_pushed ps p n h = go (numbered pid_of n ps) refl h
  where
    go : (o : Option Process) → numbered pid_of n ps ≡ o → holds_some o ≡ true → Held (ps ++ p ∷ []) n
    go None e t = absurd cc
    go (Some x) e t = ap holds_some (pushed_found pid_of n ps p x e) ∙ t

-- The same place.

still_out : (images : List NamedImage) (k l : Kernel) (flat after : FlatState) → l.starts ≡ k.starts → l.place.due ≡ k.place.due
    → ((i : ℕ) → length (slots_of l.place (Text i 0)) ≡ length (slots_of k.place (Text i 0)))
    → ((n : ℕ) → is_out l.place n ≡ true → (is_out k.place n ≡ true) × (Held flat.processes n → Held after.processes n))
    → Stands images k flat → Stands images l after
still_out images k l flat after ss ds ts h s = record {
  starts = λ q e. ap (λ (x : List StartBytes). has_start x q) ss ∙ s.starts q (ap (λ (x : List Due). is_start (due_of_page x q)) (sym ds) ∙ e);
  texts = λ i. s.texts i ∙ ap (λ (n : ℕ). 1024 * n) (sym (ts i));
  out = out_held k.place l.place flat after s.out h;
}

-- a process that is in isn't one that is out
not_out : (p : Placement) (m n : ℕ) → is_out p m ≡ false → is_out p n ≡ true → n ≢ m
not_out p m n f t i = let z : true ≡ false = sym t ∙ ap (is_out p) i ∙ f in cc

-- the process gives way to another, and it is in
one_out : (p : Placement) (flat : FlatState) (fp : Process) (pid : ℕ) → fp.pid ≡ pid → is_out p pid ≡ false → (n : ℕ) → is_out p n ≡ true
    → (is_out p n ≡ true) × (Held flat.processes n → Held (replaced flat.processes fp) n)
one_out p flat fp pid i out n e = (e, λ h. held_replaced flat.processes fp n (λ j. not_out p pid n out e (j ∙ i)) h)

pub ran_stands : (images : List NamedImage) (k : Kernel) (flat : FlatState) (pid : ℕ) (regs : Regs) (e : Entry) (q : Process) (s : Space)
    → process_of flat pid ≡ Some q → q.holding ≡ Holds s → is_out k.place pid ≡ false
    → Stands images k flat → Stands images (ran_by k pid regs e) (apply_change images flat pid regs Keep)
ran_stands images k flat pid regs e q s f h out st = subst (Stands images (ran_by k pid regs e)) (sym (applied images flat pid regs Keep q s f h))
    (still_out images k (ran_by k pid regs e) flat (with_process flat (record q { regs = regs })) refl refl (λ i. refl)
    (one_out k.place flat (record q { regs = regs }) pid ((found_at flat pid q f).0) out) st)

pub write_stands : (images : List NamedImage) (k : Kernel) (flat : FlatState) (pid : ℕ) (q : Process) (s : Space) (w : ByteWrite) (v : Page) (f at : ℕ)
    → process_of flat pid ≡ Some q → q.holding ≡ Holds s
    → Stands images k flat → Stands images (write_step k v f at w.byte) (apply_writes flat pid (w ∷ []))
write_stands images k flat pid q s w v f at fq hq st = subst (Stands images (write_step k v f at w.byte)) (sym (written flat pid w q s fq hq))
    (let sh : Shaped k.place (touch k.place v) = touch_shaped k.place v in
    let t : Steady k.place (touch k.place v) = touch_steady k.place v in
    still_out images k (write_step k v f at w.byte) flat (with_process flat (record q { holding = Holds (put_in_space s w) })) refl t.due (λ i. sizes_kept k.place (touch k.place v) sh (Text i 0))
    (λ n e. (
      ap (λ (rs : List Residence).
          (residence_of rs n).out) (sym sh.residents) ∙ e,
      held_holder flat.processes q (record q { holding = Holds (put_in_space s w) }) n (found_self flat pid q fq) refl,
    )) st)

module _ (images : List NamedImage) (k : Kernel) (flat : FlatState) (pid : ℕ) (regs : Regs) (e : Entry) where
  -- An entry of a process, by the process of the machine.
  by_step : (change : Change) (q : Process) (s : Space)
      → SameTables k flat → process_of flat pid ≡ Some q → q.holding ≡ Holds s
      → ((kp : Proc) → kp.pid ≡ pid
      → Stands images (by_life (facts_of images) k kp (HoldsSpace s.sid) e change) (changed images flat (record q { regs = regs }) s change))
      → Stands images (change_step (facts_of images) k pid regs e change) (apply_change images flat pid regs change)
  by_step change q s t f h make =
      let g : Stepping k flat pid q s = stepping k flat pid q s t f h in
      subst (λ (x : Kernel). Stands images x (apply_change images flat pid regs change)) (sym (step_is (facts_of images) k pid regs e change g.proc (HoldsSpace s.sid) g.kept g.life))
      (subst (Stands images (by_life (facts_of images) k (record g.proc { regs = regs }) (HoldsSpace s.sid) e change)) (sym (applied images flat pid regs change q s f h))
      (make (record g.proc { regs = regs }) g.pid_is))

  pub keep_stands : (q : Process) (s : Space) → SameTables k flat → process_of flat pid ≡ Some q → q.holding ≡ Holds s → is_out k.place pid ≡ false
      → Stands images k flat → Stands images (change_step (facts_of images) k pid regs e Keep) (apply_change images flat pid regs Keep)
  keep_stands q s t f h out st = by_step Keep q s t f h (λ kp i.
      still_out images k (by_life (facts_of images) k kp (HoldsSpace s.sid) e Keep) flat (with_process flat (record q { regs = regs })) refl refl (λ i. refl)
      (one_out k.place flat (record q { regs = regs }) pid ((found_at flat pid q f).0) out) st)

  pub sleep_stands : (q : Process) (s : Space) → SameTables k flat → process_of flat pid ≡ Some q → q.holding ≡ Holds s → is_out k.place pid ≡ false
      → Stands images k flat → Stands images (change_step (facts_of images) k pid regs e Sleep) (apply_change images flat pid regs Sleep)
  sleep_stands q s t f h out st = by_step Sleep q s t f h (λ kp i.
      still_out images k (by_life (facts_of images) k kp (HoldsSpace s.sid) e Sleep) flat (with_process flat (record q { regs = regs; asleep = true })) refl refl (λ i. refl)
      (one_out k.place flat (record q { regs = regs; asleep = true }) pid ((found_at flat pid q f).0) out) st)

  pub reap_stands : (child status : ℕ) (q z : Process) (s : Space) → SameTables k flat → process_of flat pid ≡ Some q → q.holding ≡ Holds s
      → is_out k.place pid ≡ false → process_of flat child ≡ Some z → z.holding ≡ Zombie status → Stands images k flat
      → Stands images (change_step (facts_of images) k pid regs e (Reap child)) (apply_change images flat pid regs (Reap child))
  reap_stands child status q z s t f h out fz hz st = by_step (Reap child) q s t f h (λ kp i.
      still_out images k (by_life (facts_of images) k kp (HoldsSpace s.sid) e (Reap child)) flat (with_process (without_process flat child) (record q { regs = regs })) refl refl (λ i. refl)
      (λ n o. (
        o,
        λ y. held_replaced (filter (λ (x : Process). not (x.pid == child)) flat.processes) (record q { regs = regs }) n (λ j. not_out k.place pid n out o (j ∙ (found_at flat pid q f).0))
            (ap holds_some (removed_not pid_of n child flat.processes (λ j. dead (ap (λ (m : ℕ). holds_some (numbered pid_of m flat.processes)) (sym j) ∙ y))) ∙ y),
      )) st)
    where
      dead : Held flat.processes child → ⊥
      dead y = let w : false ≡ true = sym (ap holds_some (sym (found_is flat.processes child) ∙ fz) ∙ ap holds_space hz) ∙ y in cc

  pub resize_stands : (d t : ℕ) (q : Process) (s : Space) → SameTables k flat → process_of flat pid ≡ Some q → q.holding ≡ Holds s → is_out k.place pid ≡ false
      → Stands images k flat → Stands images (change_step (facts_of images) k pid regs e (Resize d t)) (apply_change images flat pid regs (Resize d t))
  resize_stands d t q s tb f h out st = by_step (Resize d t) q s tb f h (λ kp i.
      let sh : Shaped k.place (drop_all k.place (dropped_pages k.place s.sid d t)) = drop_all_shaped (dropped_pages k.place s.sid d t) k.place in
      still_out images k (by_life (facts_of images) k kp (HoldsSpace s.sid) e (Resize d t)) flat (with_process flat (record q { regs = regs; holding = Holds (resized s d t) })) refl
      ((drop_all_rest (dropped_pages k.place s.sid d t) k.place).1)
      (λ j. sizes_kept k.place (drop_all k.place (dropped_pages k.place s.sid d t)) sh (Text j 0))
      (λ n o. one_out k.place flat (record q { regs = regs; holding = Holds (resized s d t) }) pid ((found_at flat pid q f).0) out n
      (ap (λ (rs : List Residence). (residence_of rs n).out) (sym sh.residents) ∙ o)) st)

-- nothing is kept where nothing is due
none_kept : (images : List NamedImage) (k : Kernel) (flat : FlatState) → k.place.due ≡ [] → Stands images k flat → (w : Page) → has_start k.starts w ≡ false
none_kept images k flat due st w = st.starts w (ap (λ (ds : List Due). is_start (due_of_page ds w)) due)

pub fork_stands : (images : List NamedImage) (k : Kernel) (flat : FlatState) (pid : ℕ) (regs : Regs) (e : Entry) (q : Process) (s : Space)
    → SameTables k flat → k.place.due ≡ []
    → process_of flat pid ≡ Some q → q.holding ≡ Holds s → is_out k.place pid ≡ false
    → Stands images k flat → Stands images (change_step (facts_of images) k pid regs e (Fork flat.next_pid))
    (apply_change images flat pid regs (Fork flat.next_pid))
fork_stands images k flat pid regs e q s t due f h out st = by_step images k flat pid regs e (Fork flat.next_pid) q s t f h (λ kp i. record {
  starts = λ w _. none_kept images k flat due st w;
  texts = st.texts;
  out = out_held k.place (by_life (facts_of images) k kp (HoldsSpace s.sid) e (Fork flat.next_pid)).place flat (changed images flat (record q { regs = regs }) s (Fork flat.next_pid)) st.out
      (λ n o. let was : is_out k.place n ≡ true = sym (out_begun k.place.residents flat.next_pid (length (append k.journal e)) n) ∙ o in (
        was,
        λ y. held_pushed (replaced flat.processes (record q { regs = regs })) (child_of (record q { regs = regs }) flat.next_pid (record s { sid = flat.next_sid })) n
            ((one_out k.place flat (record q { regs = regs }) pid ((found_at flat pid q f).0) out n was).1 y),
      ));
})

pub lend_stands : (images : List NamedImage) (k : Kernel) (flat : FlatState) (pid : ℕ) (regs : Regs) (e : Entry) (q : Process) (s : Space)
    → SameTables k flat → process_of flat pid ≡ Some q → q.holding ≡ Holds s → is_out k.place pid ≡ false
    → Stands images k flat → Stands images (pass_step (change_step (facts_of images) k pid regs e (Lend flat.next_pid)) pid flat.next_pid)
    (apply_change images flat pid regs (Lend flat.next_pid))
lend_stands images k flat pid regs e q s t f h out st =
    let x : Stands images (change_step (facts_of images) k pid regs e (Lend flat.next_pid)) (apply_change images flat pid regs (Lend flat.next_pid)) =
    by_step images k flat pid regs e (Lend flat.next_pid) q s t f h (λ kp i.
    still_out images k (by_life (facts_of images) k kp (HoldsSpace s.sid) e (Lend flat.next_pid)) flat (changed images flat (record q { regs = regs }) s (Lend flat.next_pid)) refl refl (λ i. refl)
    (λ n o. let was : is_out k.place n ≡ true = sym (out_begun k.place.residents flat.next_pid (length (append k.journal e)) n) ∙ o in (
      was,
      λ y. held_pushed (replaced flat.processes (record q { regs = regs; holding = Lends s.sid flat.next_pid })) (child_of (record q { regs = regs }) flat.next_pid s) n
          ((one_out k.place flat (record q { regs = regs; holding = Lends s.sid flat.next_pid }) pid ((found_at flat pid q f).0) out n was).1 y),
    )) st) in
    record { starts = x.starts; texts = x.texts; out = x.out }

-- A space that goes back, and children of a process that ends.

held_returned : (ps : List Process) (pid : ℕ) (s : Space) (n : ℕ) → Held ps n → Held (returned pid s ps) n
unfolding returned
held_returned [] pid s n h = h
held_returned (q ∷ ps) pid s n h = elim (cases_eq q.pid n) [
  | inl i ↦ first (lends_to pid q.holding) i
  | inr d ↦ later (lends_to pid q.holding) d (held_returned ps pid s n (ap holds_some (sym (numbered_miss pid_of n q ps d)) ∙ h))
]
  where
    first : (b : Bool) → q.pid ≡ n → holds_some (numbered pid_of n (returned_by b s q ps (returned pid s ps))) ≡ true
    first true i = ap holds_some (numbered_hit pid_of n (record q { holding = Holds s }) ps i)
    first false i = ap holds_some (numbered_hit pid_of n q (returned pid s ps) i) ∙ sym (ap holds_some (numbered_hit pid_of n q ps i)) ∙ h

    later : (b : Bool) → q.pid ≢ n → Held (returned pid s ps) n → holds_some (numbered pid_of n (returned_by b s q ps (returned pid s ps))) ≡ true
    later true d ih = ap holds_some (numbered_miss pid_of n (record q { holding = Holds s }) ps d) ∙ ap holds_some (sym (numbered_miss pid_of n q ps d)) ∙ h
    later false d ih = ap holds_some (numbered_miss pid_of n q (returned pid s ps) d) ∙ ih

no_zombie : (h : Holding) → holds_space h ≡ true → is_zombie h ≡ false
no_zombie (Holds s) e = refl
no_zombie _ e = absurd cc

held_orphans : (ps : List Process) (pid n : ℕ) → Held ps n → Held (orphans pid ps) n
held_orphans [] pid n h = h
held_orphans (q ∷ ps) pid n h = elim (cases_eq q.pid n) [
  | inl i ↦ (let t : holds_space q.holding ≡ true = sym (ap holds_some (numbered_hit pid_of n q ps i)) ∙ h in
      ap (λ (b : Bool). holds_some (numbered pid_of n (map (without_parent pid)
      (cond (not ((q.parent == pid) && b)) (q ∷ filter (λ (x : Process). not (is_zombie_child pid x)) ps) (filter (λ (x : Process). not (is_zombie_child pid x)) ps))))) (no_zombie q.holding t)
      ∙ ap (λ (b : Bool). holds_some (numbered pid_of n (map (without_parent pid)
      (cond (not b) (q ∷ filter (λ (x : Process). not (is_zombie_child pid x)) ps) (filter (λ (x : Process). not (is_zombie_child pid x)) ps))))) (and-false (q.parent == pid))
      ∙ ap holds_some (numbered_hit pid_of n (without_parent pid q) (orphans pid ps) i) ∙ t)
  | inr d ↦ go (not (is_zombie_child pid q)) d (held_orphans ps pid n (ap holds_some (sym (numbered_miss pid_of n q ps d)) ∙ h))
]
  where
    go : (b : Bool) → q.pid ≢ n → Held (orphans pid ps) n → holds_some
        (numbered pid_of n (map (without_parent pid) (cond b (q ∷ filter (λ (x : Process). not (is_zombie_child pid x)) ps) (filter (λ (x : Process). not (is_zombie_child pid x)) ps)))) ≡ true
    go true d ih = ap holds_some (numbered_miss pid_of n (without_parent pid q) (orphans pid ps) d) ∙ ih
    go false d ih = ih

held_left : (b : Bool) (ps : List Process) (pid parent n : ℕ) → n ≢ pid → Held ps n → Held (left_flat b ps pid parent) n
held_left true ps pid parent n d h = ap holds_some (removed_not pid_of n pid ps d) ∙ h
held_left false ps pid parent n d h = ap holds_some (numbered_map pid_of (awake parent) (λ x. refl) n ps) ∙ go (numbered pid_of n ps) ∙ h
  where
    go : (o : Option Process) → holds_some (mapped (awake parent) o) ≡ holds_some o
    go None = refl
    go (Some x) = refl

-- A new image.

has_pushed : (ss : List StartBytes) (s : StartBytes) (w : Page) → has_start ss w ≡ false → s.page ≢ w → has_start (ss ++ s ∷ []) w ≡ false
has_pushed [] s w e d = ap (λ (b : Bool). b || false) (apart_page s.page w d)
has_pushed (x ∷ ss) s w e d = go (same_page x.page w) e (has_pushed ss s w)
  where
    go : (b : Bool) → (b || has_start ss w) ≡ false → (has_start ss w ≡ false → s.page ≢ w → has_start (ss ++ s ∷ []) w ≡ false) → (b || has_start (ss ++ s ∷ []) w) ≡ false
    go true h ih = absurd cc
    go false h ih = ih h d

exec_stands_core : (images : List NamedImage) (k : Kernel) (flat after : FlatState) (next sid number : ℕ) (borrowed : Bool) (named : NamedImage) (top : List ℕ)
    (ps : List Proc) (journal : List Entry)
    → k.place.due ≡ [] → Stands images k flat
    → ((n : ℕ) → is_out k.place n ≡ true → Held flat.processes n → Held after.processes n)
    → Stands images (exec_kernel k next sid borrowed number (Some named.image.facts) top ps journal) after
exec_stands_core images k flat after next sid number borrowed named top ps journal due st h =
    let l : Kernel = exec_kernel k next sid borrowed number (Some named.image.facts) top ps journal in
    let p1 : Placement = enter_image k.place next number (Some named.image.facts) in
    let g : Gone p1 l.place borrowed sid = gone_unless borrowed p1 sid in
    let due_there : (w : Page) → Stack next 0 ≡ w → is_start (due_of_page l.place.due w) ≡ false → ⊥ = λ w i e.
    let a : is_start (due_of_page l.place.due w) ≡ true = ap (λ (ds : List Due). is_start (due_of_page ds w)) g.due ∙ ap (λ (x : Page). is_start (due_of_page (Start (Stack next 0) ∷ []) x)) (sym i)
    ∙ ap (λ (b : Bool). is_start (cond b (Some (Start (Stack next 0))) None)) (same_page_self (Stack next 0)) in
    let z : true ≡ false = sym a ∙ e in cc in
    record {
      starts = λ w e. has_pushed k.starts (record { page = Stack next 0; bytes = top }) w (none_kept images k flat due st w) (λ i. due_there w i e);
      texts = λ i. st.texts i ∙ ap (λ (n : ℕ). 1024 * n) (sym (unless_texts borrowed p1 sid i));
      out = out_held k.place l.place flat after st.out (λ n e. let o : is_out k.place n ≡ true = ap (λ (rs : List Residence). (residence_of rs n).out) (sym g.residents) ∙ e in (o, h n o));
    }

pub exec_stands : (images : List NamedImage) (k : Kernel) (flat : FlatState) (pid : ℕ) (regs : Regs) (e : Entry) (number : ℕ) (top : List ℕ)
    (named : NamedImage) (q : Process) (s : Space)
    → SameTables k flat → k.place.due ≡ [] → process_of flat pid ≡ Some q → q.holding ≡ Holds s
    → is_out k.place pid ≡ false → image_numbered images number ≡ Some named → Stands images k flat
    → Stands images (change_step (facts_of images) k pid regs e (Exec number top)) (apply_change images flat pid regs (Exec number top))
exec_stands images k flat pid regs e number top named q s t due f h out im st = by_step images k flat pid regs e (Exec number top) q s t f h (λ kp i.
    image_known images number named (λ (f : Option Image) (o : Option NamedImage). Stands images (exec_kernel k k.next_sid s.sid false number f top
    (with_proc k.processes (record kp { life = HoldsSpace k.next_sid })) (append k.journal e)) (entered flat (record q { regs = regs }) s number o top)) im
    (exec_stands_core images k flat (entered flat (record q { regs = regs }) s number (Some named) top) k.next_sid s.sid number false named top
    (with_proc k.processes (record kp { life = HoldsSpace k.next_sid })) (append k.journal e) due st
    (λ n o y. held_returned (replaced flat.processes (record q { regs = regs; holding = Holds (space_with flat.next_sid number named.image top) })) q.pid s n
    ((one_out k.place flat (record q { regs = regs; holding = Holds (space_with flat.next_sid number named.image top) }) pid ((found_at flat pid q f).0) out n o).1 y))))

pub exec_back_stands : (images : List NamedImage) (k : Kernel) (flat : FlatState) (pid : ℕ) (regs : Regs) (e : Entry) (number : ℕ) (top : List ℕ)
    (named : NamedImage) (q m : Process) (s : Space)
    → SameTables k flat → k.place.due ≡ [] → process_of flat pid ≡ Some q
    → q.holding ≡ Holds s → IsLender flat pid s.sid m → is_out k.place pid ≡ false → image_numbered images number ≡ Some named → Stands images k flat
    → Stands images (change_step (facts_of images) (pass_step k pid m.pid) pid regs e (Exec number top)) (apply_change images flat pid regs (Exec number top))
exec_back_stands images k flat pid regs e number top named q m s c due f h is out im st =
    let a : Borrowing k flat pid q m s = borrowing k flat pid q m s c f h is in
    let g : Stepping k flat pid q s = a.step in
    let k1 : Kernel = record k { processes = map (passes s.sid pid m.pid) k.processes } in
    subst (λ (x : Kernel). Stands images (change_step (facts_of images) x pid regs e (Exec number top)) (apply_change images flat pid regs (Exec number top))) (sym (back_kernel k flat pid q m s a))
    (subst (λ (x : Kernel). Stands images x (apply_change images flat pid regs (Exec number top)))
    (sym (step_is (facts_of images) k1 pid regs e (Exec number top) (record g.proc { life = New }) New (back_proc k flat pid q m s a) refl))
    (subst (Stands images (by_life (facts_of images) k1 (record g.proc { regs = regs; life = New }) New e (Exec number top))) (sym (applied images flat pid regs (Exec number top) q s f h))
    (image_known images number named (λ (f : Option Image) (o : Option NamedImage). Stands images (exec_kernel k k.next_sid 0 true number f top
    (with_proc k1.processes (record g.proc { regs = regs; life = HoldsSpace k.next_sid })) (append k.journal e)) (entered flat (record q { regs = regs }) s number o top)) im
    (exec_stands_core images k flat (entered flat (record q { regs = regs }) s number (Some named) top) k.next_sid 0 number true named top
    (with_proc k1.processes (record g.proc { regs = regs; life = HoldsSpace k.next_sid })) (append k.journal e) due st
    (λ n o y. held_returned (replaced flat.processes (record q { regs = regs; holding = Holds (space_with flat.next_sid number named.image top) })) q.pid s n
    ((one_out k.place flat (record q { regs = regs; holding = Holds (space_with flat.next_sid number named.image top) }) pid ((found_at flat pid q f).0) out n o).1 y))))))

-- The end.

end_stands_core : (images : List NamedImage) (k : Kernel) (flat : FlatState) (q : Process) (regs : Regs) (s : Space) (status pid sid : ℕ) (borrowed : Bool)
    (ps : List Proc) (journal : List Entry)
    → pid ≡ q.pid → Stands images k flat
    → Stands images (end_kernel k pid sid borrowed ps journal) (ended flat (record q { regs = regs }) s status)
end_stands_core images k flat q regs s status pid sid borrowed ps journal i st =
    let fp : Process = record q { regs = regs; holding = Zombie status } in
    let l : Kernel = end_kernel k pid sid borrowed ps journal in
    let p1 : Placement = give_up_unless borrowed k.place sid in
    let g : Gone k.place p1 borrowed sid = gone_unless borrowed k.place sid in
    subst (Stands images l) (sym (left_is (q.parent == 0) (orphaned (given_back (with_process flat fp) q.pid s) q.pid) q.pid q.parent))
    (still_out images k l flat (record flat { processes = left_flat (q.parent == 0) (orphans q.pid (returned q.pid s (replaced flat.processes fp))) q.pid q.parent }) refl g.due
    (unless_texts borrowed k.place sid)
    (λ n e. elim (cases_eq n pid) [
      | inl j ↦ absurd (let z : false ≡ true = sym (out_gone p1.residents pid) ∙ ap (is_out l.place) (sym j) ∙ e in cc)
      | inr d ↦ (
        ap (λ (rs : List Residence). (residence_of rs n).out) (sym g.residents) ∙ sym (out_ended p1.residents pid n d) ∙ e,
        λ y. held_left (q.parent == 0) (orphans q.pid (returned q.pid s (replaced flat.processes fp))) q.pid q.parent n (λ j. d (j ∙ sym i))
            (held_orphans (returned q.pid s (replaced flat.processes fp)) q.pid n (held_returned (replaced flat.processes fp) q.pid s n (held_replaced flat.processes fp n (λ j. d (j ∙ sym i)) y))),
      )
    ]) st)

pub end_stands : (images : List NamedImage) (k : Kernel) (flat : FlatState) (pid : ℕ) (regs : Regs) (e : Entry) (status : ℕ) (q : Process) (s : Space)
    → SameTables k flat
    → process_of flat pid ≡ Some q → q.holding ≡ Holds s → Stands images k flat
    → Stands images (change_step (facts_of images) k pid regs e (End status)) (apply_change images flat pid regs (End status))
end_stands images k flat pid regs e status q s t f h st = by_step images k flat pid regs e (End status) q s t f h (λ kp i.
    end_stands_core images k flat q regs s status kp.pid s.sid false (left_procs (kp.parent == 0) (orphaned_procs k.processes kp.pid) kp status) (append k.journal e)
    (i ∙ sym (found_at flat pid q f).0) st)

pub end_back_stands : (images : List NamedImage) (k : Kernel) (flat : FlatState) (pid : ℕ) (regs : Regs) (e : Entry) (status : ℕ) (q m : Process) (s : Space)
    → SameTables k flat
    → process_of flat pid ≡ Some q → q.holding ≡ Holds s → IsLender flat pid s.sid m → Stands images k flat
    → Stands images (change_step (facts_of images) (pass_step k pid m.pid) pid regs e (End status)) (apply_change images flat pid regs (End status))
end_back_stands images k flat pid regs e status q m s c f h is st =
    let a : Borrowing k flat pid q m s = borrowing k flat pid q m s c f h is in
    let g : Stepping k flat pid q s = a.step in
    let k1 : Kernel = record k { processes = map (passes s.sid pid m.pid) k.processes } in
    let kp : Proc = record g.proc { regs = regs; life = New } in
    subst (λ (x : Kernel). Stands images (change_step (facts_of images) x pid regs e (End status)) (apply_change images flat pid regs (End status))) (sym (back_kernel k flat pid q m s a))
    (subst (λ (x : Kernel). Stands images x (apply_change images flat pid regs (End status)))
    (sym (step_is (facts_of images) k1 pid regs e (End status) (record g.proc { life = New }) New (back_proc k flat pid q m s a) refl))
    (subst (Stands images (by_life (facts_of images) k1 kp New e (End status))) (sym (applied images flat pid regs (End status) q s f h))
    (end_stands_core images k flat q regs s status kp.pid 0 true (left_procs (kp.parent == 0) (orphaned_procs k1.processes kp.pid) kp status) (append k.journal e) (g.pid_is ∙ sym g.pid_was) st)))
