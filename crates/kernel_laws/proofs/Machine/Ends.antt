-- The end of a process keeps the whole machine coupled.
use Rattle.std.proofs.Common.{◌≡◌, ◌≢◌, ◌⊎◌, inl, inr, ℕ, ◌==◌, ◌&&◌, Bool, true, false, cond, not, List, [], ◌∷◌, ◌++◌, map, filter, Option, Some, None, refl, sym, ap, ◌∙◌, subst}
use Rattle.std.proofs.lemmas.Bool.{cases_eq, cases_Bool, eqb-true, ne_eqb}
use Rattle.flat_state.specs.Space.{Space}
use Rattle.flat_state.specs.Flat.{Holding, Holds, Zombie, Process, FlatState, NamedImage, process_of, image_numbered, spaces_of, space_held}
use Rattle.vm_facts.specs.declared.page.Page.{Page}
use Rattle.vm_facts.specs.declared.page.Page.TheVariants.{Data, Stack, Text}
use Rattle.vm_facts.specs.declared.regs.Regs.{Regs}
use Rattle.vm_facts.specs.declared.entry.Entry.{Entry}
use Rattle.aout_image.specs.Image.{page_at}
use Rattle.swap_book.specs.declared.Owner.TheVariants as owners
use Rattle.swap_book.specs.Holdings.{kept}
use Rattle.flat_state.specs.declared.change.Change.TheVariants.{End}
use Rattle.flat_state.specs.Change.{with_process, replaced, returned, is_zombie, is_zombie_child, without_parent, orphaned, awake, woken, left, ended, without_process, apply_change, is_borrower}
use Rattle.flat_state.specs.Journal.{append}
use Rattle.page_model.specs.Pages.{numbered}
use Rattle.page_model.specs.Placement.{Placement, Residence, Due, due_of_page, space_number, image_of, sharers, IsThere}
use Rattle.page_model.specs.Place.{give_up_unless, end_residence, space_of_holding, facts_of}
use Rattle.page_model.specs.Swapper.{is_out, residence_of}
use Rattle.page_model.specs.Conditions.{IsSettled, MayForget}
use Rattle.page_model.specs.Ownership.{OwnsFrames, OneOwner, TextAside, owner_of}
use Rattle.page_model.specs.PageBytes.{CouplesPages}
use Rattle.flat_state.specs.Numbers.{IsAbsent, AllDistinct, IsNumbered}
use Rattle.kernel_model.specs.Stands.{OutHold}
use Rattle.kernel_model.specs.Coupled.{Fits, AllFit, Outline, Coupled, outline_kept, outline_of, memory_of, file_of, data_of, data_bytes_in, stack_bytes_in, beside_kernel}
use Rattle.kernel_model.specs.Kernel.{Kernel, Proc, HoldsSpace, Ended, life_of}
use Rattle.kernel_model.specs.Sound.{Sound, lives}
use Rattle.page_model.specs.Stored.{stored, stored_at}
use Rattle.kernel_model.specs.ChangeStep.{with_proc, without_proc, is_ended, orphaned_procs, woken_procs, left_procs, given_back_unless, change_step}
use Rattle.page_laws.proofs.Lists.Local.{none_some}
use Rattle.std.proofs.lemmas.Option.{same_Some}
use Rattle.kernel_laws.proofs.Sound.Changes.{with_number}
use Rattle.page_laws.proofs.Bytes.Couples.{NoCopy}
use Rattle.page_laws.proofs.Blocks.Changes.{place_change_aside}
use Rattle.page_laws.proofs.Bytes.Runs.{still_coupled}
use Rattle.kernel_laws.proofs.Flat.Numbered.{has_number, numbered_map, mapped_some, only_if, numbered_filter, removed_is, removed_not}
use Rattle.page_laws.proofs.Lists.Pages.{numbered_hit, numbered_miss}
use Rattle.vm_facts.proofs.Tests.{eq_self}
use Rattle.kernel_laws.proofs.Flat.Lists.{pid_of, sid_of, held, replaced_at, replaced_not, HeldAt, held_at, held_other, held_now}
use Rattle.kernel_laws.proofs.Machine.Shapes.{fit_shapes, image_by_shape, sizes_by_shape}
use Rattle.kernel_laws.proofs.Machine.Breaks.{block_kept}
use Rattle.kernel_laws.proofs.Machine.Tables.{kept_pid, tables_of, RegsAt, coupled_of}
use Rattle.kernel_laws.proofs.Machine.Swaps.{applied}
use Rattle.kernel_laws.proofs.Machine.Still.{outline_is}
use Rattle.kernel_laws.proofs.Machine.Gone.{Gone, gone_unless, gone_data, gone_stack, unless_coupled, unless_blocks, unless_u, OtherBytes, AsideText, other_coupled}
use Rattle.kernel_laws.proofs.Machine.Execs.{returned_none, borrower_replaced}
use Rattle.kernel_laws.proofs.Machine.Processes.{not_own_parent, with_replaced, removed_outlines, held_filter, distinct_filter, pids_same, other_space, Stepping, stepping, by_life, step_is, regs_carried, first_same}

-- Children of a process that ends.

abbrev pub orphan : ℕ → Proc → Proc
orphan pid q = record q { parent = cond (q.parent == pid) 0 q.parent }

abbrev pub stays : ℕ → Proc → Bool
stays pid q = not ((q.parent == pid) && is_ended q.life)

ended_same : (h : Holding) → is_ended (life_of h) ≡ is_zombie h
ended_same (Holds s) = refl
ended_same _ = refl

-- in both tables the same children go, and the others have no parent
pub orphaned_outlines : (ks : List Proc) (fs : List Process) (pid : ℕ) → map outline_kept ks ≡ map outline_of fs
    → map outline_kept (map (orphan pid) (filter (stays pid) ks))
    ≡ map outline_of (map (without_parent pid) (filter (λ (q : Process). not (is_zombie_child pid q)) fs))
orphaned_outlines [] [] pid e = refl
orphaned_outlines [] (f ∷ fs) pid e = absurd cc
orphaned_outlines (k ∷ ks) [] pid e = absurd cc
orphaned_outlines (k ∷ ks) (f ∷ fs) pid e =
    let a = first_same (outline_kept k) (outline_of f) (map outline_kept ks) (map outline_of fs) e in
    let same : stays pid k ≡ not (is_zombie_child pid f) =
    ap (λ (o : Outline). not ((o.parent == pid) && is_ended o.life)) a.0 ∙ ap (λ (b : Bool). not ((f.parent == pid) && b)) (ended_same f.holding) in
    ap (λ (b : Bool). map outline_kept (map (orphan pid) (cond b (k ∷ filter (stays pid) ks) (filter (stays pid) ks)))) same ∙ go (not (is_zombie_child pid f)) a.0 (orphaned_outlines ks fs pid a.1)
  where
    one : (b : Bool) (n : ℕ) → (let o : Outline = record { pid = f.pid; parent = cond b 0 n; life = life_of f.holding; asleep = f.asleep } in o)
        ≡ (let o : Outline = record { pid = f.pid; parent = Rattle.std.specs.Prelude.if◌then◌else◌ b 0 n; life = life_of f.holding; asleep = f.asleep } in o)
    one true n = refl
    one false n = refl

    go : (b : Bool) → outline_kept k ≡ outline_of f
        → map outline_kept (map (orphan pid) (filter (stays pid) ks)) ≡ map outline_of (map (without_parent pid) (filter (λ (q : Process). not (is_zombie_child pid q)) fs))
        → map outline_kept (map (orphan pid) (cond b (k ∷ filter (stays pid) ks) (filter (stays pid) ks)))
        ≡ map outline_of (map (without_parent pid) (cond b (f ∷ filter (λ (q : Process). not (is_zombie_child pid q)) fs) (filter (λ (q : Process). not (is_zombie_child pid q)) fs)))
    go true h ih = ap (λ (o : Outline). (let x : Outline = record o { parent = cond (o.parent == pid) 0 o.parent } in x) ∷ map outline_kept (map (orphan pid) (filter (stays pid) ks))) h
        ∙ ap (λ (o : Outline). o ∷ map outline_kept (map (orphan pid) (filter (stays pid) ks))) (one (f.parent == pid) f.parent)
        ∙ ap (λ (l : List Outline). outline_of (without_parent pid f) ∷ l) ih
    go false h ih = ih

-- in both tables the parent is awake
pub woken_outlines : (ks : List Proc) (fs : List Process) (pid : ℕ) → map outline_kept ks ≡ map outline_of fs
    → map outline_kept (woken_procs ks pid) ≡ map outline_of (map (awake pid) fs)
woken_outlines [] [] pid e = refl
woken_outlines [] (f ∷ fs) pid e = absurd cc
woken_outlines (k ∷ ks) [] pid e = absurd cc
woken_outlines (k ∷ ks) (f ∷ fs) pid e =
    let a = first_same (outline_kept k) (outline_of f) (map outline_kept ks) (map outline_of fs) e in
    ap (λ (o : Outline). (let x : Outline = record o { asleep = cond (o.pid == pid) false o.asleep } in x) ∷ map outline_kept (woken_procs ks pid)) a.0
    ∙ ap (λ (o : Outline). o ∷ map outline_kept (woken_procs ks pid)) (one (f.pid == pid) f.asleep)
    ∙ ap (λ (l : List Outline). outline_of (awake pid f) ∷ l) (woken_outlines ks fs pid a.1)
  where
    one : (b s : Bool) → (let o : Outline = record { pid = f.pid; parent = f.parent; life = life_of f.holding; asleep = cond b false s } in o)
        ≡ (let o : Outline = record { pid = f.pid; parent = f.parent; life = life_of f.holding; asleep = Rattle.std.specs.Prelude.if◌then◌else◌ b false s } in o)
    one true s = refl
    one false s = refl

-- The process itself, which isn't its own child.

-- each process of this number isn't its own child
abbrev NotOwn : ℕ → ℕ → List Proc → Type 0
NotOwn n pid [] = Unit {0}
NotOwn n pid (x ∷ xs) = (x.pid ≡ n → x.parent ≢ pid) × NotOwn n pid xs

not_own : (ks : List Proc) (p : Proc) (n pid : ℕ) → AllDistinct (map kept_pid ks) → numbered kept_pid n ks ≡ Some p → p.parent ≢ pid → NotOwn n pid ks
not_own [] p n pid d e h = tt
not_own (x ∷ ks) p n pid d e h = elim (cases_eq x.pid n) [
  | inl i ↦ (let same : x ≡ p = same_Some x p (sym (numbered_hit kept_pid n x ks i) ∙ e) in
      ((λ _ y. h (ap (λ (z : Proc). z.parent) (sym same) ∙ y)), absent_own ks (subst (λ (m : ℕ). IsAbsent m (map kept_pid ks)) i d.0)))
  | inr m ↦ ((λ i. absurd (m i)), not_own ks p n pid d.1 (sym (numbered_miss kept_pid n x ks m) ∙ e) h)
]
  where
    absent_own : (ys : List Proc) → IsAbsent n (map kept_pid ys) → NotOwn n pid ys
    absent_own [] a = tt
    absent_own (y ∷ ys) a = ((λ i. absurd (a.0 i)), absent_own ys a.1)

-- it gives way before its children are orphaned, or after that
orphan_with : (ks : List Proc) (p : Proc) (pid : ℕ) → NotOwn p.pid pid ks → p.parent ≢ pid
    → map (orphan pid) (filter (stays pid) (with_proc ks p)) ≡ with_proc (map (orphan pid) (filter (stays pid) ks)) p
orphan_with [] p pid n d = refl
orphan_with (x ∷ ks) p pid n d = elim (cases_eq x.pid p.pid) [
  | inl i ↦ (let t : (x.pid == p.pid) ≡ true = ap (λ (m : ℕ). m == p.pid) i ∙ eq_self p.pid in
      ap (λ (b : Bool). map (orphan pid) (cond (stays pid (cond b p x)) (cond b p x ∷ filter (stays pid) (with_proc ks p)) (filter (stays pid) (with_proc ks p)))) t
      ∙ ap (λ (b : Bool). map (orphan pid) (cond (not (b && is_ended p.life)) (p ∷ filter (stays pid) (with_proc ks p)) (filter (stays pid) (with_proc ks p)))) (ne_eqb p.parent pid d)
      ∙ ap (λ (b : Bool). (let y : Proc = record p { parent = cond b 0 p.parent } in y) ∷ map (orphan pid) (filter (stays pid) (with_proc ks p))) (ne_eqb p.parent pid d)
      ∙ ap (λ (l : List Proc). p ∷ l) (orphan_with ks p pid n.1 d)
      ∙ sym (ap (λ (b : Bool). with_proc (map (orphan pid) (cond (not (b && is_ended x.life)) (x ∷ filter (stays pid) ks) (filter (stays pid) ks))) p) (ne_eqb x.parent pid (n.0 i))
      ∙ ap (λ (b : Bool). cond b p (orphan pid x) ∷ with_proc (map (orphan pid) (filter (stays pid) ks)) p) t))
  | inr m ↦ (let t : (x.pid == p.pid) ≡ false = ne_eqb x.pid p.pid m in
      ap (λ (b : Bool). map (orphan pid) (cond (stays pid (cond b p x)) (cond b p x ∷ filter (stays pid) (with_proc ks p)) (filter (stays pid) (with_proc ks p)))) t
      ∙ by (stays pid x) t (orphan_with ks p pid n.1 d))
]
  where
    by : (b : Bool) → (x.pid == p.pid) ≡ false → map (orphan pid) (filter (stays pid) (with_proc ks p)) ≡ with_proc (map (orphan pid) (filter (stays pid) ks)) p
        → map (orphan pid) (cond b (x ∷ filter (stays pid) (with_proc ks p)) (filter (stays pid) (with_proc ks p)))
        ≡ with_proc (map (orphan pid) (cond b (x ∷ filter (stays pid) ks) (filter (stays pid) ks))) p
    by true t ih = ap (λ (l : List Proc). orphan pid x ∷ l) ih ∙ sym (ap (λ (b : Bool). cond b p (orphan pid x) ∷ with_proc (map (orphan pid) (filter (stays pid) ks)) p) t)
    by false t ih = ih

-- what gave way before it goes doesn't matter
removed_with : (ks : List Proc) (p : Proc) → without_proc (with_proc ks p) p.pid ≡ without_proc ks p.pid
removed_with [] p = refl
removed_with (x ∷ ks) p = go (x.pid == p.pid) refl (removed_with ks p)
  where
    go : (b : Bool) → (x.pid == p.pid) ≡ b → without_proc (with_proc ks p) p.pid ≡ without_proc ks p.pid
        → cond (not ((cond b p x).pid == p.pid)) (cond b p x ∷ without_proc (with_proc ks p) p.pid) (without_proc (with_proc ks p) p.pid)
        ≡ cond (not b) (x ∷ without_proc ks p.pid) (without_proc ks p.pid)
    go true e ih = ap (λ (b : Bool). cond (not b) (p ∷ without_proc (with_proc ks p) p.pid) (without_proc (with_proc ks p) p.pid)) (eq_self p.pid) ∙ ih
    go false e ih = ap (λ (b : Bool). cond (not b) (x ∷ without_proc (with_proc ks p) p.pid) (without_proc (with_proc ks p) p.pid)) e ∙ ap (λ (l : List Proc). x ∷ l) ih

-- Both tables after the end.

-- the flat processes once those of a process's children that are zombies went, and the process with them or not
abbrev pub orphans : ℕ → List Process → List Process
orphans pid fs = map (without_parent pid) (filter (λ (q : Process). not (is_zombie_child pid q)) fs)

abbrev pub left_flat : Bool → List Process → ℕ → ℕ → List Process
left_flat true fs pid parent = filter (λ (q : Process). not (q.pid == pid)) fs
left_flat false fs pid parent = map (awake parent) fs

pub left_outlines : (b : Bool) (ks : List Proc) (fs : List Process) (p : Proc) (status : ℕ)
    → map outline_kept (with_proc ks (record p { life = Ended status })) ≡ map outline_of fs
    → map outline_kept (left_procs b ks p status) ≡ map outline_of (left_flat b fs p.pid p.parent)
left_outlines true ks fs p status e = ap (map outline_kept) (sym (removed_with ks (record p { life = Ended status }))) ∙ removed_outlines (with_proc ks (record p { life = Ended status })) fs p.pid e
left_outlines false ks fs p status e = woken_outlines (with_proc ks (record p { life = Ended status })) fs p.parent e

pub ended_outlines : (ks : List Proc) (fs : List Process) (p old : Proc) (status : ℕ) → AllDistinct (map kept_pid ks)
    → numbered kept_pid p.pid ks ≡ Some old → old.parent ≢ p.pid → p.parent ≢ p.pid
    → map outline_kept (with_proc ks (record p { life = Ended status })) ≡ map outline_of fs
    → map outline_kept (left_procs (p.parent == 0) (orphaned_procs ks p.pid) p status)
    ≡ map outline_of (left_flat (p.parent == 0) (orphans p.pid fs) p.pid p.parent)
ended_outlines ks fs p old status d f a b o =
    left_outlines (p.parent == 0) (orphaned_procs ks p.pid) (orphans p.pid fs) p status
    (ap (map outline_kept) (sym (orphan_with ks (record p { life = Ended status }) p.pid (not_own ks old p.pid p.pid d f a) b))
    ∙ orphaned_outlines (with_proc ks (record p { life = Ended status })) fs p.pid o)

-- Look-ups after the end.

only_some : {A : Type 0} (test : A → Bool) (o : Option A) (x : A) → only_if test o ≡ Some x → o ≡ Some x
only_some test None x e = e
only_some test (Some y) x e = go (test y) e
  where
    go : (b : Bool) → cond b (Some y) None ≡ Some x → Some y ≡ Some x
    go true h = h
    go false h = none_some x h

-- a process of the flat state after the end, and what it was
pub record WasFlat (ps : List Process) (n : ℕ) (a : Process) : Type 0 where
  pub before : Process
  pub found : numbered pid_of n ps ≡ Some before
  pub regs : a.regs ≡ before.regs
  pub holding : a.holding ≡ before.holding

orphan_was : (ps : List Process) (pid n : ℕ) (a : Process) → AllDistinct (map pid_of ps) → numbered pid_of n (orphans pid ps) ≡ Some a → WasFlat ps n a
orphan_was ps pid n a d e =
    let m : (y : Process) × (numbered pid_of n (filter (λ (q : Process). not (is_zombie_child pid q)) ps) ≡ Some y) × (without_parent pid y ≡ a) =
    mapped_some (without_parent pid) (numbered pid_of n (filter (λ (q : Process). not (is_zombie_child pid q)) ps)) a
    (sym (numbered_map pid_of (without_parent pid) (λ x. refl) n (filter (λ (q : Process). not (is_zombie_child pid q)) ps)) ∙ e) in
    record {
      before = m.0;
      found = only_some (λ (q : Process). not (is_zombie_child pid q)) (numbered pid_of n ps) m.0 (sym (numbered_filter pid_of n (λ (q : Process). not (is_zombie_child pid q)) ps d) ∙ m.1);
      regs = ap (λ (x : Process). x.regs) (sym m.2);
      holding = ap (λ (x : Process). x.holding) (sym m.2);
    }

left_was : (b : Bool) (ps : List Process) (pid parent n : ℕ) (a : Process) → numbered pid_of n (left_flat b ps pid parent) ≡ Some a → WasFlat ps n a
left_was true ps pid parent n a e = elim (cases_eq n pid) [
  | inl i ↦ none_some a (sym (removed_is pid_of pid ps) ∙ ap (λ (m : ℕ). numbered pid_of m (filter (λ (q : Process). not (q.pid == pid)) ps)) (sym i) ∙ e)
  | inr d ↦ record { before = a; found = sym (removed_not pid_of n pid ps d) ∙ e; regs = refl; holding = refl }
]
left_was false ps pid parent n a e =
    let m : (y : Process) × (numbered pid_of n ps ≡ Some y) × (awake parent y ≡ a) =
    mapped_some (awake parent) (numbered pid_of n ps) a (sym (numbered_map pid_of (awake parent) (λ x. refl) n ps) ∙ e) in
    record { before = m.0; found = m.1; regs = ap (λ (x : Process). x.regs) (sym m.2); holding = ap (λ (x : Process). x.holding) (sym m.2) }

pub end_was : (b : Bool) (ps : List Process) (pid parent n : ℕ) (a : Process) → AllDistinct (map pid_of ps)
    → numbered pid_of n (left_flat b (orphans pid ps) pid parent) ≡ Some a → WasFlat ps n a
end_was b ps pid parent n a d e =
    let x : WasFlat (orphans pid ps) n a = left_was b (orphans pid ps) pid parent n a e in
    let y : WasFlat ps n x.before = orphan_was ps pid n x.before d x.found in
    record { before = y.before; found = y.found; regs = x.regs ∙ y.regs; holding = x.holding ∙ y.holding }

-- a process of the machine after the end, and what it was: the one that ended, or one of before
pub record WasKept (ks : List Proc) (p : Proc) (n : ℕ) (b : Proc) : Type 0 where
  pub own : n ≡ p.pid → b.regs ≡ p.regs
  pub other : n ≢ p.pid → (y : Proc) × (numbered kept_pid n ks ≡ Some y) × (b.regs ≡ y.regs)

orphan_kept : (ks : List Proc) (pid n : ℕ) (b : Proc) → AllDistinct (map kept_pid ks) → numbered kept_pid n (orphaned_procs ks pid) ≡ Some b
    → (y : Proc) × (numbered kept_pid n ks ≡ Some y) × (b.regs ≡ y.regs)
orphan_kept ks pid n b d e =
    let m : (y : Proc) × (numbered kept_pid n (filter (stays pid) ks) ≡ Some y) × (orphan pid y ≡ b) =
    mapped_some (orphan pid) (numbered kept_pid n (filter (stays pid) ks)) b (sym (numbered_map kept_pid (orphan pid) (λ x. refl) n (filter (stays pid) ks)) ∙ e) in
    (m.0, only_some (stays pid) (numbered kept_pid n ks) m.0 (sym (numbered_filter kept_pid n (stays pid) ks d) ∙ m.1), ap (λ (x : Proc). x.regs) (sym m.2))

pub with_pids : (ks : List Proc) (p : Proc) → map kept_pid (with_proc ks p) ≡ map kept_pid ks
with_pids [] p = refl
with_pids (x ∷ ks) p = ap (λ (m : ℕ). m ∷ map kept_pid (with_proc ks p)) (with_number p x) ∙ ap (λ (y : List ℕ). x.pid ∷ y) (with_pids ks p)

pub end_kept : (c : Bool) (ks : List Proc) (p : Proc) (status n : ℕ) (b : Proc) → AllDistinct (map kept_pid ks)
    → numbered kept_pid n (left_procs c (orphaned_procs ks p.pid) p status) ≡ Some b → WasKept ks p n b
end_kept true ks p status n b d e = record {
  own = λ i. none_some b (sym (removed_is kept_pid p.pid (orphaned_procs ks p.pid)) ∙ ap (λ (m : ℕ). numbered kept_pid m (without_proc (orphaned_procs ks p.pid) p.pid)) (sym i) ∙ e);
  other = λ m. orphan_kept ks p.pid n b d (sym (removed_not kept_pid n p.pid (orphaned_procs ks p.pid) m) ∙ e);
}
end_kept false ks p status n b d e =
    let z : Proc = record p { life = Ended status } in
    let wake : Proc → Proc = λ q. record q { asleep = cond (q.pid == p.parent) false q.asleep } in
    let w : (y : Proc) × (numbered kept_pid n (with_proc (orphaned_procs ks p.pid) z) ≡ Some y) × ((let x : Proc = record y { asleep = cond (y.pid == p.parent) false y.asleep } in x) ≡ b) =
    mapped_some (λ (q : Proc). record q { asleep = cond (q.pid == p.parent) false q.asleep }) (numbered kept_pid n (with_proc (orphaned_procs ks p.pid) z)) b
    (sym (numbered_map kept_pid (λ (q : Proc). record q { asleep = cond (q.pid == p.parent) false q.asleep }) (λ x. refl) n (with_proc (orphaned_procs ks p.pid) z)) ∙ e) in
    let v : (y : Proc) × (numbered kept_pid n (orphaned_procs ks p.pid) ≡ Some y) × (cond (y.pid == p.pid) z y ≡ w.0) =
    mapped_some (λ (q : Proc). cond (q.pid == z.pid) z q) (numbered kept_pid n (orphaned_procs ks p.pid)) w.0
    (sym (numbered_map kept_pid (λ (q : Proc). cond (q.pid == z.pid) z q) (with_number z) n (orphaned_procs ks p.pid)) ∙ w.1) in
    record {
      own = λ i. ap (λ (x : Proc). x.regs) (sym w.2) ∙ ap (λ (x : Proc). x.regs) (sym v.2)
          ∙ ap (λ (t : Bool). (cond t z v.0).regs) (ap (λ (m : ℕ). m == p.pid) (has_number kept_pid n (orphaned_procs ks p.pid) v.0 v.1 ∙ i) ∙ eq_self p.pid);
      other = λ m. let y = orphan_kept ks p.pid n v.0 d v.1 in (
        y.0,
        y.1,
        ap (λ (x : Proc). x.regs) (sym w.2) ∙ ap (λ (x : Proc). x.regs) (sym v.2)
            ∙ ap (λ (t : Bool). (cond t z v.0).regs) (ne_eqb v.0.pid p.pid (λ i. m (sym (has_number kept_pid n (orphaned_procs ks p.pid) v.0 v.1) ∙ i))) ∙ y.2,
      );
    }

-- Spaces after the end.

held_map : (g : Process → Process) → ((x : Process) → (g x).holding ≡ x.holding) → (ps : List Process) → held (map g ps) ≡ held ps
held_map g h [] = refl
held_map g h (p ∷ ps) = ap (λ (x : Holding). space_held x ++ held (map g ps)) (h p) ∙ ap (λ (l : List Space). space_held p.holding ++ l) (held_map g h ps)

zombie_held : (h : Holding) → is_zombie h ≡ true → space_held h ≡ []
zombie_held (Holds s) e = absurd cc
zombie_held _ e = refl

pub orphans_held : (ps : List Process) (pid : ℕ) → AllDistinct (map pid_of ps) → held (orphans pid ps) ≡ held ps
orphans_held ps pid d = held_map (without_parent pid) (λ x. refl) (filter (λ (q : Process). not (is_zombie_child pid q)) ps)
    ∙ held_filter (λ (q : Process). not (is_zombie_child pid q)) ps d (λ x e t. zombie_held x.holding (second (x.parent == pid) (is_zombie x.holding) (off (is_zombie_child pid x) t)))
  where
    off : (b : Bool) → not b ≡ false → b ≡ true
    off true e = refl
    off false e = absurd cc

    second : (a b : Bool) → (a && b) ≡ true → b ≡ true
    second true b e = e
    second false b e = absurd cc

pub pids_map : (g : Process → Process) → ((x : Process) → (g x).pid ≡ x.pid) → (ps : List Process) → map pid_of (map g ps) ≡ map pid_of ps
pids_map g h [] = refl
pids_map g h (p ∷ ps) = ap (λ (n : ℕ). n ∷ map pid_of (map g ps)) (h p) ∙ ap (λ (l : List ℕ). p.pid ∷ l) (pids_map g h ps)

pub orphans_distinct : (ps : List Process) (pid : ℕ) → AllDistinct (map pid_of ps) → AllDistinct (map pid_of (orphans pid ps))
orphans_distinct ps pid d = subst AllDistinct (sym (pids_map (without_parent pid) (λ x. refl) (filter (λ (q : Process). not (is_zombie_child pid q)) ps)))
    (distinct_filter pid_of (λ (q : Process). not (is_zombie_child pid q)) ps d)

-- the end leaves the spaces of all others, where the process itself holds none any more
pub end_held : (b : Bool) (ps : List Process) (q : Process) (pid parent : ℕ) → AllDistinct (map pid_of ps) → numbered pid_of pid ps ≡ Some q
    → space_held q.holding ≡ [] → held (left_flat b (orphans pid ps) pid parent) ≡ held ps
end_held true ps q pid parent d e h = held_filter (λ (x : Process). not (x.pid == pid)) (orphans pid ps) (orphans_distinct ps pid d)
    (λ x f t. let i : x.pid ≡ pid = eqb-true x.pid pid (off (x.pid == pid) t) in
    let w : WasFlat ps x.pid x = orphan_was ps pid x.pid x d f in
    ap space_held w.holding ∙ ap (λ (y : Process). space_held y.holding) (same_Some w.before q (sym w.found ∙ ap (λ (n : ℕ). numbered pid_of n ps) i ∙ e)) ∙ h) ∙ orphans_held ps pid d
  where
    off : (b : Bool) → not b ≡ false → b ≡ true
    off true e = refl
    off false e = absurd cc
end_held false ps q pid parent d e h = held_map (awake parent) (λ x. refl) (orphans pid ps) ∙ orphans_held ps pid d

-- Who resides.

pub out_ended : (rs : List Residence) (pid n : ℕ) → n ≢ pid → (residence_of (filter (λ (r : Residence). not (r.pid == pid)) rs) n).out ≡ (residence_of rs n).out
out_ended [] pid n d = refl
out_ended (r ∷ rs) pid n d = go (r.pid == pid) refl (out_ended rs pid n d)
  where
    go : (b : Bool) → (r.pid == pid) ≡ b → (residence_of (filter (λ (r : Residence). not (r.pid == pid)) rs) n).out ≡ (residence_of rs n).out
        → (residence_of (cond (not b) (r ∷ filter (λ (r : Residence). not (r.pid == pid)) rs) (filter (λ (r : Residence). not (r.pid == pid)) rs)) n).out ≡ (residence_of (r ∷ rs) n).out
    go true e ih = ih ∙ sym (ap (λ (b : Bool). (cond b r (residence_of rs n)).out) (ne_eqb r.pid n (λ i. d (sym i ∙ eqb-true r.pid pid e))))
    go false e ih = head (r.pid == n)
      where
        head : (b : Bool) → (cond b r (residence_of (filter (λ (r : Residence). not (r.pid == pid)) rs) n)).out ≡ (cond b r (residence_of rs n)).out
        head true = refl
        head false = ih

pub out_gone : (rs : List Residence) (pid : ℕ) → (residence_of (filter (λ (r : Residence). not (r.pid == pid)) rs) pid).out ≡ false
out_gone [] pid = refl
out_gone (r ∷ rs) pid = go (r.pid == pid) refl (out_gone rs pid)
  where
    go : (b : Bool) → (r.pid == pid) ≡ b → (residence_of (filter (λ (r : Residence). not (r.pid == pid)) rs) pid).out ≡ false
        → (residence_of (cond (not b) (r ∷ filter (λ (r : Residence). not (r.pid == pid)) rs) (filter (λ (r : Residence). not (r.pid == pid)) rs)) pid).out ≡ false
    go true e ih = ih
    go false e ih = ap (λ (b : Bool). (cond b r (residence_of (filter (λ (r : Residence). not (r.pid == pid)) rs) pid)).out) e ∙ ih

-- The machine in which a process ended, and gave up its space unless it had borrowed that.
abbrev pub end_kernel : Kernel → ℕ → ℕ → Bool → List Proc → List Entry → Kernel
end_kernel k pid sid borrowed ps journal =
    let place = end_residence (give_up_unless borrowed k.place sid) pid in
    record k {
      place = place;
      holdings = kept (owners.U pid) 0 (given_back_unless borrowed k.holdings sid (image_of k.place sid) (sharers place (image_of k.place sid)));
      processes = ps;
      journal = journal;
    }

-- what is asked of the flat state after an end, of the tables alone
pub record LeavesTables (flat after : FlatState) (sid : ℕ) (borrowed : Bool) : Type 0 where
  pub other : (m : ℕ) → (borrowed ≡ false → m ≢ sid) → numbered sid_of m (spaces_of after) ≡ numbered sid_of m (spaces_of flat)
  pub gone : borrowed ≡ false → numbered sid_of sid (spaces_of after) ≡ None

-- An end, where the space goes unless it was borrowed.
pub leave_fits : (k : Kernel) (flat after : FlatState) (pid sid : ℕ) (borrowed : Bool) (ps : List Proc) (journal : List Entry)
    → LeavesTables flat after sid borrowed → AllFit flat k.place
    → AllFit after (end_kernel k pid sid borrowed ps journal).place
leave_fits k flat after pid sid borrowed ps journal a all =
    let l : Kernel = end_kernel k pid sid borrowed ps journal in
    let p1 : Placement = give_up_unless borrowed k.place sid in
    let g : Gone k.place p1 borrowed sid = gone_unless borrowed k.place sid in
    let kept_fits : (m : ℕ) → (borrowed ≡ false → m ≢ sid) → Fits (numbered sid_of m (spaces_of after)) (numbered space_number m l.place.spaces) = λ m d.
    subst (λ (o : Option Space). Fits o (numbered space_number m l.place.spaces)) (sym (a.other m d))
    (fit_shapes (numbered sid_of m (spaces_of flat)) (numbered space_number m k.place.spaces) (numbered space_number m l.place.spaces) (g.other m d) (all m)) in
    let fits : AllFit after l.place = λ m. elim (cases_Bool borrowed) [
      | inl t ↦ kept_fits m (λ e. absurd (let j : true ≡ false = sym t ∙ e in cc))
      | inr t ↦ elim (cases_eq m sid) [
        | inl i ↦ subst (λ (n : ℕ). Fits (numbered sid_of n (spaces_of after)) (numbered space_number n l.place.spaces)) (sym i)
            (subst (λ (o : Option Space). Fits o (numbered space_number sid l.place.spaces)) (sym (a.gone t)) (subst (Fits None) (sym (g.own t)) tt))
        | inr d ↦ kept_fits m (λ e. d)
      ]
    ] in
    fits

-- what is asked of the space and of the flat state after the end
pub record Leaving (k : Kernel) (flat after : FlatState) (pid sid : ℕ) (borrowed : Bool) : Type 0 where
  pub frames : OwnsFrames k.place
  pub due : k.place.due ≡ []
  pub settled : borrowed ≡ false → IsSettled k.place sid
  pub aside : TextAside (end_residence (give_up_unless borrowed k.place sid) pid)
  pub tables : LeavesTables flat after sid borrowed

pub end_core : (k : Kernel) (images : List NamedImage) (image : List ℕ) (flat after : FlatState) (pid sid : ℕ) (borrowed : Bool)
    (ps : List Proc) (journal : List Entry)
    → Leaving k flat after pid sid borrowed → AllFit flat k.place
    → CouplesPages k.place (beside_kernel k images image flat)
    → AllFit after (end_kernel k pid sid borrowed ps journal).place
    × CouplesPages (end_kernel k pid sid borrowed ps journal).place (beside_kernel (end_kernel k pid sid borrowed ps journal) images image after)
end_core k images image flat after pid sid borrowed ps journal a all pages =
    let no_copy : (w : Page) → NoCopy (due_of_page p1.due w) = λ w. subst (λ (ds : List Due). NoCopy (due_of_page ds w)) (sym (g.due ∙ a.due)) tt in
    let coupled : CouplesPages l.place (beside_kernel l images image after) = still_coupled p1 l.place (beside_kernel l images image after) (λ w. refl) refl refl
    (other_coupled p1 (beside_kernel k images image flat) (beside_kernel l images image after)
    (unless_coupled borrowed k.place sid (beside_kernel k images image flat) a.frames a.settled pages) no_copy refl others (λ i v. refl)) in
    (leave_fits k flat after pid sid borrowed ps journal a.tables all, coupled)
  where
    l : Kernel
    l = end_kernel k pid sid borrowed ps journal

    p1 : Placement
    p1 = give_up_unless borrowed k.place sid

    g : Gone k.place p1 borrowed sid
    g = gone_unless borrowed k.place sid

    aside : TextAside p1
    aside i v z = let x = a.aside i v z in record { unsaved = x.unsaved; rests = x.rests }

    not_u : (w : Page) → owners.U pid ≢ owner_of w
    not_u (Data m v) e = cc
    not_u (Stack m v) e = cc
    not_u (Text m v) e = cc

    swap_of : (w : Page) → IsThere p1 w → (stored l.holdings image w ≡ stored k.holdings image w) ⊎ AsideText p1 w
    swap_of w there = elim (unless_blocks borrowed k.holdings k.place p1 sid (image_of k.place sid) w g aside there) [
      | inl e ↦ inl (ap (stored_at image) (block_kept (owners.U pid) (owner_of w) 0 (Rattle.flat_state.specs.PageNames.number_of w)
          (given_back_unless borrowed k.holdings sid (image_of k.place sid) (sharers p1 (image_of k.place sid))) (λ i. absurd (not_u w i)) ∙ e))
      | inr e ↦ inr e
    ]

    others : (w : Page) → IsThere p1 w → OtherBytes p1 (beside_kernel k images image flat) (beside_kernel l images image after) w
    others (Data m v) there = record {
      file = ap (λ (i : ℕ). page_at v (data_of (image_numbered images i)))
          (image_by_shape (numbered space_number m k.place.spaces) (numbered space_number m p1.spaces) (g.other m (gone_data k.place p1 borrowed sid m v g there)));
      start = refl;
      memory = ap (λ (o : Option Space). page_at v (data_bytes_in o)) (a.tables.other m (gone_data k.place p1 borrowed sid m v g there));
      swap = swap_of (Data m v) there;
    }
    others (Stack m v) there = record {
      file = refl;
      start = refl;
      memory = ap (λ (o : Option Space). page_at v (stack_bytes_in o)) (a.tables.other m (gone_stack k.place p1 borrowed sid m v g there));
      swap = swap_of (Stack m v) there;
    }
    others (Text m v) there = record { file = refl; start = refl; memory = refl; swap = swap_of (Text m v) there }

pub left_is : (b : Bool) (F : FlatState) (pid parent : ℕ)
    → left b F pid parent ≡ (let x : FlatState = record F { processes = left_flat b F.processes pid parent } in x)
left_is true F pid parent = refl
left_is false F pid parent = refl

-- A process that holds its own space ends.
pub end_coupled_step : (size : ℕ) (k : Kernel) (images : List NamedImage) (image : List ℕ) (flat : FlatState) (pid : ℕ) (regs : Regs) (e : Entry) (status : ℕ)
    (q : Process) (s : Space)
    → Sound size k
    → IsNumbered flat → OutHold k.place flat → k.place.due ≡ []
    → process_of flat pid ≡ Some q → q.holding ≡ Holds s → is_borrower flat.processes pid ≡ false → IsSettled k.place s.sid
    → MayForget (facts_of images) k.place s.sid false k.next_sid (End status) → Coupled k images image flat
    → Coupled (change_step (facts_of images) k pid regs e (End status)) images image (apply_change images flat pid regs (End status))
end_coupled_step size k images image flat pid regs e status q s so nums outs due f h own_space settled forget c =
    let g : Stepping k flat pid q s = stepping k flat pid q s c.tables f h in
    let kp : Proc = record g.proc { regs = regs } in
    let fp : Process = record q { regs = regs; holding = Zombie status } in
    let rs : List Process = replaced flat.processes fp in
    let after : FlatState = record flat { processes = left_flat (q.parent == 0) (orphans q.pid rs) q.pid q.parent } in
    let l : Kernel = end_kernel k kp.pid s.sid false (left_procs (kp.parent == 0) (orphaned_procs k.processes kp.pid) kp status) (append k.journal e) in
    let pids : kp.pid ≡ q.pid = g.pid_is ∙ sym g.pid_was in
    let found : numbered pid_of fp.pid flat.processes ≡ Some q = ap (λ (m : ℕ). numbered pid_of m flat.processes) g.pid_was ∙ g.found in
    let kept_found : numbered kept_pid kp.pid k.processes ≡ Some g.proc = ap (λ (m : ℕ). numbered kept_pid m k.processes) g.pid_is ∙ g.kept in
    let lonely_kept : kp.parent ≢ kp.pid = λ i. not_own_parent flat pid q nums f (sym g.parent ∙ i ∙ g.pid_is) in
    let both : map outline_kept (with_proc k.processes (record kp { life = Ended status })) ≡ map outline_of rs =
    with_replaced k.processes flat.processes (record kp { life = Ended status }) fp c.tables.processes nums.pids
    (outline_is g.proc.pid q.pid g.proc.parent q.parent (Ended status) (Ended status) g.proc.asleep q.asleep pids g.parent refl g.asleep) in
    let distinct_kept : AllDistinct (map kept_pid k.processes) = subst AllDistinct (sym (pids_same k.processes flat.processes c.tables.processes)) nums.pids in
    let outlines : map outline_kept l.processes ≡ map outline_of after.processes = ended_outlines k.processes rs kp g.proc status distinct_kept kept_found lonely_kept lonely_kept both
    ∙ ap (λ (m : ℕ). map outline_of (left_flat (kp.parent == 0) (orphans m rs) m kp.parent)) pids ∙ ap (λ (m : ℕ). map outline_of (left_flat (m == 0) (orphans q.pid rs) q.pid m)) g.parent in
    -- the spaces of the others
    let pids_of_both : map pid_of rs ≡ map pid_of flat.processes =
    sym (pids_same (with_proc k.processes (record kp { life = Ended status })) rs both) ∙ with_pids k.processes (record kp { life = Ended status })
    ∙ pids_same k.processes flat.processes c.tables.processes in
    let distinct : AllDistinct (map pid_of rs) = subst AllDistinct (sym pids_of_both) nums.pids in
    let spaces : spaces_of after ≡ held rs = end_held (q.parent == 0) rs fp q.pid q.parent distinct (replaced_at flat.processes q fp found) refl in
    let held_here : HeldAt flat.processes fp s = held_at flat.processes q fp s found h nums.sids in
    let o : OneOwner size (lives k.processes) k.place k.holdings = so.owner in
    let leaves : Leaving k flat after kp.pid s.sid false = record {
      frames = o.frames;
      due = due;
      settled = λ i. settled;
      aside = place_change_aside (record { images = (facts_of images); pid = kp.pid; sid = s.sid; borrowed = false; next_sid = k.next_sid; at = 0 }) k.place (End status) o.aside forget;
      tables = record {
        other = λ m d. ap (numbered sid_of m) spaces ∙ held_other flat.processes fp s m held_here (d refl) refl;
        gone = λ i. ap (numbered sid_of s.sid) spaces ∙ held_now flat.processes fp s held_here;
      };
    } in
    let core : AllFit after l.place × CouplesPages l.place (beside_kernel l images image after) =
    end_core k images image flat after kp.pid s.sid false (left_procs (kp.parent == 0) (orphaned_procs k.processes kp.pid) kp status) (append k.journal e) leaves c.tables.spaces c.pages in
    let gone : Gone k.place (give_up_unless false k.place s.sid) false s.sid = gone_unless false k.place s.sid in
    let regs_now : (m : ℕ) → RegsAt l image after m = λ m.
    let u_number : (a b : ℕ) → owners.U a ≡ owners.U b → a ≡ b = λ a b i. cc in
    elim (cases_eq m kp.pid) [
      | inl i ↦ λ a b ea eb.
          let w : WasFlat rs m a = end_was (q.parent == 0) rs q.pid q.parent m a distinct ea in
          let x : WasKept k.processes kp m b = end_kept (kp.parent == 0) k.processes kp status m b distinct_kept eb in
          let same : w.before ≡ fp = same_Some w.before fp (sym w.found ∙ ap (λ (n : ℕ). numbered pid_of n rs) (i ∙ pids) ∙ replaced_at flat.processes q fp found) in
          subst (λ (z : Bool). Rattle.kernel_model.specs.Coupled.KeepsRegs l image z a b.regs (space_of_holding a.holding))
          (sym (ap (is_out l.place) i ∙ out_gone (give_up_unless false k.place s.sid).residents kp.pid))
          (x.own i ∙ ap (λ (y : Process). y.regs) (sym same) ∙ sym w.regs)
      | inr d ↦ regs_carried k l images image image flat after m c outs (record {
        flat_was = λ a ea. let w : WasFlat rs m a = end_was (q.parent == 0) rs q.pid q.parent m a distinct ea in
            (w.before, sym (replaced_not flat.processes fp m (λ i. d (i ∙ sym pids))) ∙ w.found, w.regs, ap space_of_holding w.holding);
        kept_was = λ b eb. let x : WasKept k.processes kp m b = end_kept (kp.parent == 0) k.processes kp status m b distinct_kept eb in x.other d;
        out = out_ended (give_up_unless false k.place s.sid).residents kp.pid m d ∙ ap (λ (y : List Residence). (residence_of y m).out) gone.residents;
        held_by = λ a t ea ht.
            let not_s : t.sid ≢ s.sid = other_space flat q.pid m q a s t nums (λ y. d (sym y ∙ sym pids)) found ea h ht in
            let sizes = sizes_by_shape (numbered space_number t.sid k.place.spaces) (numbered space_number t.sid l.place.spaces) (gone.other t.sid (λ y. not_s)) in (
              ap (stored_at image) (block_kept (owners.U kp.pid) (owners.U m) 0 0 (given_back_unless false k.holdings s.sid (image_of k.place s.sid) (sharers l.place (image_of k.place s.sid)))
                  (λ i. absurd (d (u_number m kp.pid (sym i))))
                  ∙ unless_u false k.holdings s.sid (image_of k.place s.sid) (sharers l.place (image_of k.place s.sid)) m),
              sizes.0,
              sizes.1,
            );
      })
    ] in
    subst (λ (x : Kernel). Coupled x images image (apply_change images flat pid regs (End status))) (sym (step_is (facts_of images) k pid regs e (End status) g.proc (HoldsSpace s.sid) g.kept g.life))
    (subst (Coupled (by_life (facts_of images) k kp (HoldsSpace s.sid) e (End status)) images image) (sym (applied images flat pid regs (End status) q s f h))
    (subst (Coupled l images image) (sym (left_is (q.parent == 0) (orphaned (Rattle.flat_state.specs.Change.given_back (with_process flat fp) q.pid s) q.pid) q.pid q.parent))
    (subst (λ (xs : List Process). Coupled l images image (record flat { processes = left_flat (q.parent == 0) (orphans q.pid xs) q.pid q.parent }))
    (sym (returned_none (replaced flat.processes fp) q.pid s (borrower_replaced flat.processes fp q.pid refl (ap (is_borrower flat.processes) g.pid_was ∙ own_space))))
    (coupled_of l images image after (tables_of l after outlines c.tables.next_pid c.tables.next_sid core.0) core.1 regs_now))))
