-- The tables of the machine are those of the flat state through each change, with no bytes.
use Rattle.std.proofs.Common.{◌≡◌, ◌≢◌, inl, inr, ℕ, ◌+◌, ◌*◌, ◌==◌, Bool, true, false, List, [], ◌∷◌, ◌++◌, length, map, Option, Some, None, refl, sym, ap, ◌∙◌, subst, not, filter}
use Rattle.std.proofs.lemmas.Bool.{cases_eq, eqb-true}
use Rattle.flat_state.specs.Space.{Space}
use Rattle.flat_state.specs.Flat.{Holds, Process, FlatState, Lends, Zombie, NamedImage, process_of, image_numbered, space_with, spaces_of, space_held}
use Rattle.vm_facts.specs.declared.page.Page.TheVariants.{Data, Stack}
use Rattle.vm_facts.specs.declared.regs.Regs.{Regs}
use Rattle.vm_facts.specs.declared.entry.Entry.{Entry}
use Rattle.flat_state.specs.declared.change.Change.TheVariants.{Fork, Lend, Resize, Exec, End, Keep, Reap, Sleep}
use Rattle.flat_state.specs.Change.{replaced, with_results, child_of, forked, apply_change, lent, with_process, resized_bytes, resized, replaced_by, returned, returned_by, entered, is_zombie, is_zombie_child, without_parent, orphaned, awake, woken, left, ended, without_process, lends_to, is_borrower}
use Rattle.flat_state.specs.Journal.{append}
use Rattle.page_model.specs.Pages.{SpacePages, numbered}
use Rattle.page_model.specs.Placement.{Placement, space_number, slots_of, image_of}
use Rattle.page_model.specs.Place.{child_slot, facts_of}
use Rattle.page_model.specs.Conditions.{IsNew}
use Rattle.flat_state.specs.Numbers.{IsNumbered, AllDistinct}
use Rattle.flat_state.specs.Lenders.{IsLender}
use Rattle.kernel_model.specs.Coupled.{IsSized, Fits, AllFit, Outline, SameTables, outline_kept, outline_of}
use Rattle.kernel_model.specs.Kernel.{Kernel, Proc, Life, HoldsSpace, New, LendsSpace, StartBytes, start_bytes, Ended, life_of}
use Rattle.kernel_model.specs.Sound.{DataFits}
use Rattle.kernel_model.specs.ChangeStep.{with_proc, child_proc, change_step, pass_step, without_proc, orphaned_procs, left_procs}
use Rattle.page_laws.proofs.Lists.Local.{none_some}
use Rattle.std.proofs.lemmas.Option.{same_Some}
use Rattle.page_laws.proofs.Ownership.Changes.{added_other, added_same, dropped_pages}
use Rattle.page_laws.proofs.Bytes.Spaces.{map_length}
use Rattle.kernel_laws.proofs.Flat.Numbered.{pushed_new, pushed_old, pushed_found, map_pushed, none_absent, removed_not}
use Rattle.page_laws.proofs.Lists.Pages.{numbered_hit, numbered_miss}
use Rattle.kernel_laws.proofs.Flat.Lists.{pid_of, sid_of, held, found_is, replaced_at, replaced_not, same_held, held-append, held_at, held_own, HeldAt, held_other, held_now, held_new, held_gain}
use Rattle.kernel_laws.proofs.Machine.Done.{fit_data, fit_stack}
use Rattle.kernel_laws.proofs.Machine.Tables.{kept_pid, tables_of, all_fit}
use Rattle.kernel_laws.proofs.Machine.Swaps.{applied}
use Rattle.kernel_laws.proofs.Machine.Still.{outline_is}
use Rattle.kernel_laws.proofs.Machine.Processes.{with_at, with_not, with_replaced, holds_there, Stepping, stepping, by_life, step_is, not_own_parent, removed_outlines, held_filter, distinct_filter, pids_same}
use Rattle.kernel_laws.proofs.Machine.Forks.{next_pid_none, kept_none, next_new, next_sid_none, forked_kernel, fit_image}
use Rattle.page_model.specs.Moves.{drop_all}
use Rattle.kernel_laws.proofs.Machine.Shapes.{Shaped, fit_shaped, drop_all_shaped}
use Rattle.aout_image.specs.declared.Image.{Image}
use Rattle.kernel_laws.proofs.Machine.Breaks.{fit_cut, resized_own, resized_other}
use Rattle.kernel_laws.proofs.Machine.Execs.{returned_none, borrower_replaced, exec_kernel, EntersTables, enter_fits}
use Rattle.kernel_laws.proofs.Machine.Lends.{pass_is, passed, passed_list, passed_child}
use Rattle.kernel_laws.proofs.Machine.Ends.{end_held, with_pids, end_kernel, LeavesTables, leave_fits, left_flat, left_is, orphans, ended_outlines}
use Rattle.kernel_laws.proofs.Machine.Returns.{passes, Borrowing, borrowing, back_kernel, back_proc, Back, back}
use Rattle.kernel_laws.proofs.Machine.Images.{image_known}

-- Growth and break.
pub resize_tables : (k : Kernel) (images : List NamedImage) (flat : FlatState) (pid : ℕ) (regs : Regs) (e : Entry) (d t : ℕ) (q : Process) (s : Space)
    → IsNumbered flat → process_of flat pid ≡ Some q
    → q.holding ≡ Holds s → SameTables k flat
    → SameTables (change_step (facts_of images) k pid regs e (Resize d t)) (apply_change images flat pid regs (Resize d t))
resize_tables k images flat pid regs e d t q s nums f h c =
    let g : Stepping k flat pid q s = stepping k flat pid q s c f h in
    let kp : Proc = record g.proc { regs = regs } in
    let z : Space = resized s d t in
    let fp : Process = record q { regs = regs; holding = Holds z } in
    let after : FlatState = with_process flat fp in
    let l : Kernel = by_life (facts_of images) k kp (HoldsSpace s.sid) e (Resize d t) in
    let found : numbered pid_of fp.pid flat.processes ≡ Some q = ap (λ (n : ℕ). numbered pid_of n flat.processes) g.pid_was ∙ g.found in
    let outline : outline_kept kp ≡ outline_of fp =
    outline_is g.proc.pid q.pid g.proc.parent q.parent g.proc.life (HoldsSpace s.sid) g.proc.asleep q.asleep (g.pid_is ∙ sym g.pid_was) g.parent g.life g.asleep in
    let held_here : HeldAt flat.processes fp s = held_at flat.processes q fp s found h nums.sids in
    let own : numbered sid_of s.sid (spaces_of after) ≡ Some z = held_now flat.processes fp s held_here ∙ numbered_hit sid_of s.sid z [] refl in
    let other : (n : ℕ) → n ≢ s.sid → numbered sid_of n (spaces_of after) ≡ numbered sid_of n (spaces_of flat) = λ n m.
    held_other flat.processes fp s n held_here m (numbered_miss sid_of n z [] (λ i. m (sym i))) in
    let was : numbered sid_of s.sid (spaces_of flat) ≡ Some s = held_own flat.processes fp s held_here in
    let all : AllFit flat k.place = c.spaces in
    let own_fits : Fits (Some s) (numbered space_number s.sid k.place.spaces) = subst (λ (x : Option Space). Fits x (numbered space_number s.sid k.place.spaces)) was (all s.sid) in
    let dropped : Placement = drop_all k.place (dropped_pages k.place s.sid d t) in
    let shaped : Shaped k.place dropped = drop_all_shaped (dropped_pages k.place s.sid d t) k.place in
    let fits : AllFit after l.place = λ n. elim (cases_eq n s.sid) [
      | inl i ↦ subst (λ (m : ℕ). Fits (numbered sid_of m (spaces_of after)) (numbered space_number m l.place.spaces)) (sym i)
          (subst (λ (x : Option Space). Fits x (numbered space_number s.sid l.place.spaces)) (sym own)
          (subst (Fits (Some z)) (sym (resized_own k.place s.sid d t)) (fit_cut s (numbered space_number s.sid dropped.spaces) d t (fit_shaped k.place dropped (Some s) s.sid shaped own_fits))))
      | inr m ↦ subst (λ (x : Option Space). Fits x (numbered space_number n l.place.spaces)) (sym (other n m))
          (subst (Fits (numbered sid_of n (spaces_of flat))) (sym (resized_other k.place s.sid d t n m)) (fit_shaped k.place dropped (numbered sid_of n (spaces_of flat)) n shaped (all n)))
    ] in
    subst (λ (x : Kernel). SameTables x (apply_change images flat pid regs (Resize d t))) (sym (step_is (facts_of images) k pid regs e (Resize d t) g.proc (HoldsSpace s.sid) g.kept g.life))
    (subst (SameTables l) (sym (applied images flat pid regs (Resize d t) q s f h))
    (tables_of l after (with_replaced k.processes flat.processes kp fp c.processes nums.pids outline) c.next_pid c.next_sid fits))

-- Fork.
pub fork_tables : (k : Kernel) (images : List NamedImage) (flat : FlatState) (pid : ℕ) (regs : Regs) (e : Entry) (q : Process) (s : Space)
    → IsNumbered flat → process_of flat pid ≡ Some q → q.holding ≡ Holds s → SameTables k flat
    → SameTables (change_step (facts_of images) k pid regs e (Fork flat.next_pid)) (apply_change images flat pid regs (Fork flat.next_pid))
fork_tables k images flat pid regs e q s nums f h c =
    let g : Stepping k flat pid q s = stepping k flat pid q s c f h in
    let n : ℕ = flat.next_sid in
    let kp : Proc = record g.proc { regs = regs } in
    let fp : Process = record q { regs = regs } in
    let z : Space = record s { sid = n } in
    let ch : Process = child_of fp flat.next_pid z in
    let kc : Proc = child_proc kp flat.next_pid (HoldsSpace n) in
    let after : FlatState = forked flat fp s flat.next_pid in
    let l : Kernel = forked_kernel k kp s.sid flat.next_pid n e in
    let pids : kp.pid ≡ fp.pid = g.pid_is ∙ sym g.pid_was in
    let found : numbered pid_of fp.pid flat.processes ≡ Some q = ap (λ (m : ℕ). numbered pid_of m flat.processes) g.pid_was ∙ g.found in
    let outline : outline_kept kp ≡ outline_of fp =
    outline_is g.proc.pid q.pid g.proc.parent q.parent g.proc.life (Rattle.kernel_model.specs.Kernel.life_of q.holding) g.proc.asleep q.asleep pids g.parent
    (g.life ∙ sym (ap Rattle.kernel_model.specs.Kernel.life_of h)) g.asleep in
    let child_outline : outline_kept kc ≡ outline_of ch = outline_is flat.next_pid flat.next_pid kp.pid fp.pid (HoldsSpace n) (HoldsSpace n) false false refl pids refl refl in
    let outlines : map outline_kept l.processes ≡ map outline_of after.processes =
    map_pushed outline_kept (with_proc k.processes kp) kc ∙ ap (λ (x : List Outline). x ++ outline_kept kc ∷ []) (with_replaced k.processes flat.processes kp fp c.processes nums.pids outline)
    ∙ ap (λ (x : Outline). map outline_of (replaced flat.processes fp) ++ x ∷ []) child_outline ∙ sym (map_pushed outline_of (replaced flat.processes fp) ch) in
    let spaces : spaces_of after ≡ held flat.processes ++ z ∷ [] =
    held-append (replaced flat.processes fp) (ch ∷ []) ∙ ap (λ (xs : List Space). xs ++ z ∷ []) (same_held flat.processes q fp found refl) in
    let own : numbered sid_of n (spaces_of after) ≡ Some z = ap (numbered sid_of n) spaces ∙ pushed_new sid_of n (held flat.processes) z (next_sid_none flat nums) refl in
    let other : (m : ℕ) → m ≢ n → numbered sid_of m (spaces_of after) ≡ numbered sid_of m (spaces_of flat) = λ m d.
    ap (numbered sid_of m) spaces ∙ pushed_old sid_of m (held flat.processes) z (λ i. d (sym i)) in
    let was : numbered sid_of s.sid (spaces_of flat) ≡ Some s = held_own flat.processes fp s (held_at flat.processes q fp s found h nums.sids) in
    let all : AllFit flat k.place = c.spaces in
    let own_fits : Fits (Some s) (numbered space_number s.sid k.place.spaces) = subst (λ (x : Option Space). Fits x (numbered space_number s.sid k.place.spaces)) was (all s.sid) in
    let new : IsNew k.place n = next_new flat k.place nums all in
    let x : SpacePages =
    record { sid = n; image = image_of k.place s.sid; data_pages = map child_slot (slots_of k.place (Data s.sid 0)); stack_pages = map child_slot (slots_of k.place (Stack s.sid 0)) } in
    let place_own : numbered space_number n l.place.spaces ≡ Some x = added_same n k.place.spaces x refl new in
    let place_other : (m : ℕ) → m ≢ n → numbered space_number m l.place.spaces ≡ numbered space_number m k.place.spaces = λ m d. added_other m k.place.spaces x (λ i. d (sym i)) in
    let sized : IsSized z x = record {
      image = fit_image s (numbered space_number s.sid k.place.spaces) own_fits;
      data_size = fit_data (Some s) (numbered space_number s.sid k.place.spaces) own_fits ∙ ap (λ (m : ℕ). 1024 * m) (sym (map_length (slots_of k.place (Data s.sid 0))));
      stack_size = fit_stack (Some s) (numbered space_number s.sid k.place.spaces) own_fits ∙ ap (λ (m : ℕ). 1024 * m) (sym (map_length (slots_of k.place (Stack s.sid 0))));
    } in
    let fits : AllFit after l.place = λ m. elim (cases_eq m n) [
      | inl i ↦ subst (λ (y : ℕ). Fits (numbered sid_of y (spaces_of after)) (numbered space_number y l.place.spaces)) (sym i)
          (subst (λ (y : Option Space). Fits y (numbered space_number n l.place.spaces)) (sym own) (subst (Fits (Some z)) (sym place_own) sized))
      | inr d ↦ subst (λ (y : Option Space). Fits y (numbered space_number m l.place.spaces)) (sym (other m d)) (subst (Fits (numbered sid_of m (spaces_of flat))) (sym (place_other m d)) (all m))
    ] in
    subst (λ (x : Kernel). SameTables x (apply_change images flat pid regs (Fork flat.next_pid)))
    (sym (step_is (facts_of images) k pid regs e (Fork flat.next_pid) g.proc (HoldsSpace s.sid) g.kept g.life))
    (subst (SameTables (by_life (facts_of images) k kp (HoldsSpace s.sid) e (Fork flat.next_pid))) (sym (applied images flat pid regs (Fork flat.next_pid) q s f h))
    (subst (λ (m : ℕ). SameTables (forked_kernel k kp s.sid flat.next_pid m e) after) (sym c.next_sid)
    (tables_of l after outlines (ap (λ (m : ℕ). m + 1) c.next_pid) refl fits)))

-- Vfork, with the space that passes.
pub lend_tables : (k : Kernel) (images : List NamedImage) (flat : FlatState) (pid : ℕ) (regs : Regs) (e : Entry) (q : Process) (s : Space)
    → IsNumbered flat → process_of flat pid ≡ Some q → q.holding ≡ Holds s → SameTables k flat
    → SameTables (pass_step (change_step (facts_of images) k pid regs e (Lend flat.next_pid)) pid flat.next_pid)
    (apply_change images flat pid regs (Lend flat.next_pid))
lend_tables k images flat pid regs e q s nums f h c =
    let g : Stepping k flat pid q s = stepping k flat pid q s c f h in
    let child : ℕ = flat.next_pid in
    let kp : Proc = record g.proc { regs = regs } in
    let kn : Proc = child_proc kp child New in
    let kl : Proc = record kp { life = LendsSpace s.sid child } in
    let kc : Proc = child_proc kp child (HoldsSpace s.sid) in
    let fp : Process = record q { regs = regs; holding = Lends s.sid child } in
    let ch : Process = child_of (record q { regs = regs }) child s in
    let after : FlatState = lent flat (record q { regs = regs }) s child in
    let k1 : Kernel = by_life (facts_of images) k kp (HoldsSpace s.sid) e (Lend child) in
    let l : Kernel = record k1 { processes = with_proc k.processes kl ++ kc ∷ [] } in
    let pids : kp.pid ≡ fp.pid = g.pid_is ∙ sym g.pid_was in
    let found : numbered pid_of fp.pid flat.processes ≡ Some q = ap (λ (m : ℕ). numbered pid_of m flat.processes) g.pid_was ∙ g.found in
    let kept_found : numbered kept_pid kp.pid k.processes ≡ Some g.proc = ap (λ (m : ℕ). numbered kept_pid m k.processes) g.pid_is ∙ g.kept in
    let child_other : child ≢ q.pid = λ i. none_some q (sym (next_pid_none flat nums) ∙ ap (λ (m : ℕ). numbered pid_of m flat.processes) (i ∙ g.pid_was) ∙ g.found) in
    let no_child : numbered kept_pid child k.processes ≡ None = kept_none k flat child c.processes (next_pid_none flat nums) in
    let parent_kept : numbered kept_pid pid k1.processes ≡ Some kp =
    pushed_found kept_pid pid (with_proc k.processes kp) kn kp (ap (λ (m : ℕ). numbered kept_pid m (with_proc k.processes kp)) (sym g.pid_is) ∙ with_at k.processes kp g.proc kept_found) in
    let child_kept : numbered kept_pid child k1.processes ≡ Some kn =
    pushed_new kept_pid child (with_proc k.processes kp) kn (with_not k.processes kp child (λ i. child_other (i ∙ pids)) ∙ no_child) refl in
    let processes : map (passed s.sid pid child New) k1.processes ≡ l.processes =
    ap (λ (m : ℕ). map (passed s.sid m child New) k1.processes) (sym g.pid_is) ∙ map_pushed (passed s.sid kp.pid child New) (with_proc k.processes kp) kn
    ∙ ap (λ (xs : List Proc). xs ++ passed s.sid kp.pid child New kn ∷ []) (passed_list k.processes kp s.sid child (none_absent kept_pid child k.processes no_child))
    ∙ ap (λ (x : Proc). with_proc k.processes kl ++ x ∷ []) (passed_child kp s.sid child (λ i. child_other (i ∙ pids))) in
    let outlines : map outline_kept l.processes ≡ map outline_of after.processes = map_pushed outline_kept (with_proc k.processes kl) kc
    ∙ ap (λ (x : List Outline). x ++ outline_kept kc ∷ []) (with_replaced k.processes flat.processes kl fp c.processes nums.pids
    (outline_is g.proc.pid q.pid g.proc.parent q.parent (LendsSpace s.sid child) (LendsSpace s.sid child) g.proc.asleep q.asleep pids g.parent refl g.asleep))
    ∙ ap (λ (x : Outline). map outline_of (replaced flat.processes fp) ++ x ∷ []) (outline_is child child kp.pid fp.pid (HoldsSpace s.sid) (HoldsSpace s.sid) false false refl pids refl refl)
    ∙ sym (map_pushed outline_of (replaced flat.processes fp) ch) in
    let held_here : HeldAt flat.processes fp s = held_at flat.processes q fp s found h nums.sids in
    let list : spaces_of after ≡ held (replaced flat.processes fp) ++ s ∷ [] = held-append (replaced flat.processes fp) (ch ∷ []) in
    let spaces : (n : ℕ) → numbered sid_of n (spaces_of after) ≡ numbered sid_of n (spaces_of flat) = λ n. elim (cases_eq n s.sid) [
      | inl i ↦ subst (λ (m : ℕ). numbered sid_of m (spaces_of after) ≡ numbered sid_of m (spaces_of flat)) (sym i)
          (ap (numbered sid_of s.sid) list ∙ pushed_new sid_of s.sid (held (replaced flat.processes fp)) s (held_now flat.processes fp s held_here) refl ∙ sym (held_own flat.processes fp s held_here))
      | inr d ↦ ap (numbered sid_of n) list ∙ pushed_old sid_of n (held (replaced flat.processes fp)) s (λ i. d (sym i)) ∙ held_other flat.processes fp s n held_here d refl
    ] in
    let all : AllFit flat k.place = c.spaces in
    let fits : AllFit after l.place = λ n. subst (λ (o : Option Space). Fits o (numbered space_number n k.place.spaces)) (sym (spaces n)) (all n) in
    subst (λ (x : Kernel). SameTables (pass_step x pid flat.next_pid) (apply_change images flat pid regs (Lend flat.next_pid)))
    (sym (step_is (facts_of images) k pid regs e (Lend flat.next_pid) g.proc (HoldsSpace s.sid) g.kept g.life))
    (subst (SameTables (pass_step k1 pid flat.next_pid)) (sym (applied images flat pid regs (Lend flat.next_pid) q s f h))
    (subst (λ (x : Kernel). SameTables x after) (sym (pass_is k1 pid flat.next_pid kp kn (HoldsSpace s.sid) New parent_kept g.life child_kept refl))
    (subst (λ (xs : List Proc). SameTables (record k1 { processes = xs }) after) (sym processes)
    (tables_of l after outlines (ap (λ (m : ℕ). m + 1) c.next_pid) c.next_sid fits))))

-- Execve of a process that holds its own space.
pub exec_tables : (k : Kernel) (images : List NamedImage) (flat : FlatState) (pid : ℕ) (regs : Regs) (e : Entry) (number : ℕ) (top : List ℕ)
    (named : NamedImage) (q : Process) (s : Space)
    → IsNumbered flat → process_of flat pid ≡ Some q → q.holding ≡ Holds s → is_borrower flat.processes pid ≡ false
    → image_numbered images number ≡ Some named → DataFits named.image → length top ≡ 1024 → SameTables k flat
    → SameTables (change_step (facts_of images) k pid regs e (Exec number top)) (apply_change images flat pid regs (Exec number top))
exec_tables k images flat pid regs e number top named q s nums f h own_space im fit whole c =
    let g : Stepping k flat pid q s = stepping k flat pid q s c f h in
    let n : ℕ = flat.next_sid in
    let z : Space = space_with n number named.image top in
    let kp : Proc = record g.proc { regs = regs; life = HoldsSpace n } in
    let fp : Process = record q { regs = regs; holding = Holds z } in
    let after : FlatState = record flat { processes = replaced flat.processes fp; next_sid = n + 1 } in
    let l : Kernel = exec_kernel k n s.sid false number (Some named.image.facts) top (with_proc k.processes kp) (append k.journal e) in
    let pids : kp.pid ≡ fp.pid = g.pid_is ∙ sym g.pid_was in
    let found : numbered pid_of fp.pid flat.processes ≡ Some q = ap (λ (m : ℕ). numbered pid_of m flat.processes) g.pid_was ∙ g.found in
    let outlines : map outline_kept l.processes ≡ map outline_of after.processes =
    with_replaced k.processes flat.processes kp fp c.processes nums.pids
    (outline_is g.proc.pid q.pid g.proc.parent q.parent (HoldsSpace n) (HoldsSpace n) g.proc.asleep q.asleep pids g.parent refl g.asleep) in
    let held_here : HeldAt flat.processes fp s = held_at flat.processes q fp s found h nums.sids in
    let apart : n ≢ s.sid = λ i. holds_there flat.processes q.pid q s found h (ap (λ (m : ℕ). numbered sid_of m (held flat.processes)) (sym i) ∙ next_sid_none flat nums) in
    let enters : EntersTables k flat after n s.sid number false named top = record {
      new = next_new flat k.place nums c.spaces;
      apart = λ i. apart;
      fits = fit;
      whole = whole;
      own = held_new flat.processes fp s n held_here (next_sid_none flat nums) ∙ numbered_hit sid_of n z [] refl;
      other = λ m a b. held_other flat.processes fp s m held_here (b refl) (numbered_miss sid_of m z [] (λ i. a (sym i)));
      gone = λ i. held_now flat.processes fp s held_here ∙ numbered_miss sid_of s.sid z [] apart;
    } in
    subst (λ (x : Kernel). SameTables x (apply_change images flat pid regs (Exec number top))) (sym (step_is (facts_of images) k pid regs e (Exec number top) g.proc (HoldsSpace s.sid) g.kept g.life))
    (subst (SameTables (by_life (facts_of images) k (record g.proc { regs = regs }) (HoldsSpace s.sid) e (Exec number top))) (sym (applied images flat pid regs (Exec number top) q s f h))
    (image_known images number named (λ (f : Option Image) (o : Option NamedImage). SameTables (exec_kernel k k.next_sid s.sid false number f top
    (with_proc k.processes (record g.proc { regs = regs; life = HoldsSpace k.next_sid })) (append k.journal e)) (entered flat (record q { regs = regs }) s number o top)) im
    (subst (λ (m : ℕ). SameTables (exec_kernel k m s.sid false number (Some named.image.facts) top (with_proc k.processes (record g.proc { regs = regs; life = HoldsSpace m })) (append k.journal e))
    (entered flat (record q { regs = regs }) s number (Some named) top)) (sym c.next_sid)
    (subst (λ (xs : List Process). SameTables l (record flat { processes = xs; next_sid = n + 1 }))
    (sym (returned_none (replaced flat.processes fp) q.pid s (borrower_replaced flat.processes fp q.pid refl (ap (is_borrower flat.processes) g.pid_was ∙ own_space))))
    (tables_of l after outlines c.next_pid refl (enter_fits k flat after n s.sid number false named top (with_proc k.processes kp) (append k.journal e) enters c.spaces))))))

-- The end of a process that holds its own space.
pub end_tables : (k : Kernel) (images : List NamedImage) (flat : FlatState) (pid : ℕ) (regs : Regs) (e : Entry) (status : ℕ) (q : Process) (s : Space)
    → IsNumbered flat → process_of flat pid ≡ Some q
    → q.holding ≡ Holds s → is_borrower flat.processes pid ≡ false → SameTables k flat
    → SameTables (change_step (facts_of images) k pid regs e (End status)) (apply_change images flat pid regs (End status))
end_tables k images flat pid regs e status q s nums f h own_space c =
    let g : Stepping k flat pid q s = stepping k flat pid q s c f h in
    let kp : Proc = record g.proc { regs = regs } in
    let fp : Process = record q { regs = regs; holding = Zombie status } in
    let rs : List Process = replaced flat.processes fp in
    let after : FlatState = record flat { processes = left_flat (q.parent == 0) (orphans q.pid rs) q.pid q.parent } in
    let l : Kernel = end_kernel k kp.pid s.sid false (left_procs (kp.parent == 0) (orphaned_procs k.processes kp.pid) kp status) (append k.journal e) in
    let pids : kp.pid ≡ q.pid = g.pid_is ∙ sym g.pid_was in
    let found : numbered pid_of fp.pid flat.processes ≡ Some q = ap (λ (m : ℕ). numbered pid_of m flat.processes) g.pid_was ∙ g.found in
    let kept_found : numbered kept_pid kp.pid k.processes ≡ Some g.proc = ap (λ (m : ℕ). numbered kept_pid m k.processes) g.pid_is ∙ g.kept in
    let lonely_kept : kp.parent ≢ kp.pid = λ i. not_own_parent flat pid q nums f (sym g.parent ∙ i ∙ g.pid_is) in
    let both : map outline_kept (with_proc k.processes (record kp { life = Ended status })) ≡ map outline_of rs =
    with_replaced k.processes flat.processes (record kp { life = Ended status }) fp c.processes nums.pids
    (outline_is g.proc.pid q.pid g.proc.parent q.parent (Ended status) (Ended status) g.proc.asleep q.asleep pids g.parent refl g.asleep) in
    let distinct_kept : AllDistinct (map kept_pid k.processes) = subst AllDistinct (sym (pids_same k.processes flat.processes c.processes)) nums.pids in
    let outlines : map outline_kept l.processes ≡ map outline_of after.processes = ended_outlines k.processes rs kp g.proc status distinct_kept kept_found lonely_kept lonely_kept both
    ∙ ap (λ (m : ℕ). map outline_of (left_flat (kp.parent == 0) (orphans m rs) m kp.parent)) pids ∙ ap (λ (m : ℕ). map outline_of (left_flat (m == 0) (orphans q.pid rs) q.pid m)) g.parent in
    let pids_of_both : map pid_of rs ≡ map pid_of flat.processes =
    sym (pids_same (with_proc k.processes (record kp { life = Ended status })) rs both) ∙ with_pids k.processes (record kp { life = Ended status })
    ∙ pids_same k.processes flat.processes c.processes in
    let distinct : AllDistinct (map pid_of rs) = subst AllDistinct (sym pids_of_both) nums.pids in
    let spaces : spaces_of after ≡ held rs = end_held (q.parent == 0) rs fp q.pid q.parent distinct (replaced_at flat.processes q fp found) refl in
    let held_here : HeldAt flat.processes fp s = held_at flat.processes q fp s found h nums.sids in
    let leaves : LeavesTables flat after s.sid false = record {
      other = λ m d. ap (numbered sid_of m) spaces ∙ held_other flat.processes fp s m held_here (d refl) refl;
      gone = λ i. ap (numbered sid_of s.sid) spaces ∙ held_now flat.processes fp s held_here;
    } in
    subst (λ (x : Kernel). SameTables x (apply_change images flat pid regs (End status))) (sym (step_is (facts_of images) k pid regs e (End status) g.proc (HoldsSpace s.sid) g.kept g.life))
    (subst (SameTables (by_life (facts_of images) k kp (HoldsSpace s.sid) e (End status))) (sym (applied images flat pid regs (End status) q s f h))
    (subst (SameTables l) (sym (left_is (q.parent == 0) (orphaned (Rattle.flat_state.specs.Change.given_back (with_process flat fp) q.pid s) q.pid) q.pid q.parent))
    (subst (λ (xs : List Process). SameTables l (record flat { processes = left_flat (q.parent == 0) (orphans q.pid xs) q.pid q.parent }))
    (sym (returned_none (replaced flat.processes fp) q.pid s (borrower_replaced flat.processes fp q.pid refl (ap (is_borrower flat.processes) g.pid_was ∙ own_space))))
    (tables_of l after outlines c.next_pid c.next_sid
    (leave_fits k flat after kp.pid s.sid false (left_procs (kp.parent == 0) (orphaned_procs k.processes kp.pid) kp status) (append k.journal e) leaves c.spaces)))))

-- Execve of a borrower.
pub exec_back_tables : (k : Kernel) (images : List NamedImage) (flat : FlatState) (pid : ℕ) (regs : Regs) (e : Entry) (number : ℕ) (top : List ℕ)
    (named : NamedImage) (q m : Process) (s : Space)
    → IsNumbered flat → process_of flat pid ≡ Some q → q.holding ≡ Holds s → IsLender flat pid s.sid m
    → image_numbered images number ≡ Some named → DataFits named.image → length top ≡ 1024 → SameTables k flat
    → SameTables (change_step (facts_of images) (pass_step k pid m.pid) pid regs e (Exec number top)) (apply_change images flat pid regs (Exec number top))
exec_back_tables k images flat pid regs e number top named q m s nums f h is im fit whole c =
    let a : Borrowing k flat pid q m s = borrowing k flat pid q m s c f h is in
    let g : Stepping k flat pid q s = a.step in
    let k1 : Kernel = record k { processes = map (passes s.sid pid m.pid) k.processes } in
    let n : ℕ = flat.next_sid in
    let z : Space = space_with n number named.image top in
    let kp : Proc = record g.proc { regs = regs; life = HoldsSpace n } in
    let fp : Process = record q { regs = regs; holding = Holds z } in
    let mp : Process = record m { holding = Holds s } in
    let b : Back k flat pid q m fp kp s =
    let pids : g.proc.pid ≡ q.pid = g.pid_is ∙ sym g.pid_was in
    back k flat pid q m fp kp s nums c is a refl refl refl (outline_is g.proc.pid q.pid g.proc.parent q.parent (HoldsSpace n) (HoldsSpace n) g.proc.asleep q.asleep pids g.parent refl g.asleep) in
    let r1 : List Process = replaced flat.processes fp in
    let after : FlatState = record flat { processes = replaced r1 mp; next_sid = n + 1 } in
    let l : Kernel = exec_kernel k n 0 true number (Some named.image.facts) top (with_proc k1.processes kp) (append k.journal e) in
    let pids : kp.pid ≡ fp.pid = g.pid_is ∙ sym g.pid_was in
    let found : numbered pid_of fp.pid flat.processes ≡ Some q = ap (λ (y : ℕ). numbered pid_of y flat.processes) g.pid_was ∙ g.found in
    let held_here : HeldAt flat.processes fp s = held_at flat.processes q fp s found h nums.sids in
    let apart : n ≢ s.sid = λ i. holds_there flat.processes q.pid q s found h (ap (λ (y : ℕ). numbered sid_of y (held flat.processes)) (sym i) ∙ next_sid_none flat nums) in
    let gain : (numbered sid_of s.sid (spaces_of after) ≡ Some s) × ((y : ℕ) → y ≢ s.sid → numbered sid_of y (spaces_of after) ≡ numbered sid_of y (held r1)) =
    held_gain r1 m mp s b.lender_found (ap space_held is.holding) refl (held_now flat.processes fp s held_here ∙ numbered_miss sid_of s.sid z [] apart) in
    let enters : EntersTables k flat after n 0 number true named top = record {
      new = next_new flat k.place nums c.spaces;
      apart = λ i. absurd cc;
      fits = fit;
      whole = whole;
      own = gain.1 n apart ∙ held_new flat.processes fp s n held_here (next_sid_none flat nums) ∙ numbered_hit sid_of n z [] refl;
      other = λ y d _. elim (cases_eq y s.sid) [
        | inl i ↦ ap (λ (x : ℕ). numbered sid_of x (spaces_of after)) i ∙ gain.0 ∙ sym (held_own flat.processes fp s held_here) ∙ ap (λ (x : ℕ). numbered sid_of x (spaces_of flat)) (sym i)
        | inr j ↦ gain.1 y j ∙ held_other flat.processes fp s y held_here j (numbered_miss sid_of y z [] (λ i. d (sym i)))
      ];
      gone = λ i. absurd cc;
    } in
    subst (λ (x : Kernel). SameTables (change_step (facts_of images) x pid regs e (Exec number top)) (apply_change images flat pid regs (Exec number top))) (sym (back_kernel k flat pid q m s a))
    (subst (λ (x : Kernel). SameTables x (apply_change images flat pid regs (Exec number top)))
    (sym (step_is (facts_of images) k1 pid regs e (Exec number top) (record g.proc { life = New }) New (back_proc k flat pid q m s a) refl))
    (subst (SameTables (by_life (facts_of images) k1 (record g.proc { regs = regs; life = New }) New e (Exec number top))) (sym (applied images flat pid regs (Exec number top) q s f h))
    (image_known images number named (λ (f : Option Image) (o : Option NamedImage). SameTables (exec_kernel k k.next_sid 0 true number f top
    (with_proc k1.processes (record g.proc { regs = regs; life = HoldsSpace k.next_sid })) (append k.journal e)) (entered flat (record q { regs = regs }) s number o top)) im
    (subst (λ (y : ℕ). SameTables (exec_kernel k y 0 true number (Some named.image.facts) top (with_proc k1.processes (record g.proc { regs = regs; life = HoldsSpace y })) (append k.journal e))
    (entered flat (record q { regs = regs }) s number (Some named) top)) (sym c.next_sid)
    (subst (λ (xs : List Process). SameTables l (record flat { processes = xs; next_sid = n + 1 })) (sym b.returned)
    (tables_of l after b.outlines c.next_pid refl (enter_fits k flat after n 0 number true named top (with_proc k1.processes kp) (append k.journal e) enters c.spaces)))))))

-- The end of a borrower.
pub end_back_tables : (k : Kernel) (images : List NamedImage) (flat : FlatState) (pid : ℕ) (regs : Regs) (e : Entry) (status : ℕ) (q m : Process) (s : Space)
    → IsNumbered flat
    → process_of flat pid ≡ Some q → q.holding ≡ Holds s → IsLender flat pid s.sid m → SameTables k flat
    → SameTables (change_step (facts_of images) (pass_step k pid m.pid) pid regs e (End status)) (apply_change images flat pid regs (End status))
end_back_tables k images flat pid regs e status q m s nums f h is c =
    let a : Borrowing k flat pid q m s = borrowing k flat pid q m s c f h is in
    let g : Stepping k flat pid q s = a.step in
    let k1 : Kernel = record k { processes = map (passes s.sid pid m.pid) k.processes } in
    let kp : Proc = record g.proc { regs = regs; life = New } in
    let kz : Proc = record kp { life = Ended status } in
    let fp : Process = record q { regs = regs; holding = Zombie status } in
    let mp : Process = record m { holding = Holds s } in
    let pids : kp.pid ≡ q.pid = g.pid_is ∙ sym g.pid_was in
    let b : Back k flat pid q m fp kz s =
    back k flat pid q m fp kz s nums c is a refl refl refl (outline_is g.proc.pid q.pid g.proc.parent q.parent (Ended status) (Ended status) g.proc.asleep q.asleep pids g.parent refl g.asleep) in
    let r1 : List Process = replaced flat.processes fp in
    let rs : List Process = replaced r1 mp in
    let after : FlatState = record flat { processes = left_flat (q.parent == 0) (orphans q.pid rs) q.pid q.parent } in
    let l : Kernel = end_kernel k kp.pid 0 true (left_procs (kp.parent == 0) (orphaned_procs k1.processes kp.pid) kp status) (append k.journal e) in
    let found : numbered pid_of fp.pid flat.processes ≡ Some q = ap (λ (y : ℕ). numbered pid_of y flat.processes) g.pid_was ∙ g.found in
    let own_flat : numbered pid_of q.pid rs ≡ Some fp = replaced_not r1 mp q.pid (λ i. a.apart (sym i)) ∙ replaced_at flat.processes q fp found in
    let own_kept : numbered kept_pid kp.pid k1.processes ≡ Some (record g.proc { life = New }) = ap (λ (y : ℕ). numbered kept_pid y k1.processes) g.pid_is ∙ back_proc k flat pid q m s a in
    let distinct_kept : AllDistinct (map kept_pid k1.processes) = subst AllDistinct (sym (passed_pids k.processes ∙ pids_same k.processes flat.processes c.processes)) nums.pids in
    let lonely_kept : kp.parent ≢ kp.pid = λ i. not_own_parent flat pid q nums f (sym g.parent ∙ i ∙ g.pid_is) in
    let outlines : map outline_kept l.processes ≡ map outline_of after.processes =
    ended_outlines k1.processes rs kp (record g.proc { life = New }) status distinct_kept own_kept lonely_kept lonely_kept b.outlines
    ∙ ap (λ (y : ℕ). map outline_of (left_flat (kp.parent == 0) (orphans y rs) y kp.parent)) pids ∙ ap (λ (y : ℕ). map outline_of (left_flat (y == 0) (orphans q.pid rs) q.pid y)) g.parent in
    let spaces : spaces_of after ≡ held rs = end_held (q.parent == 0) rs fp q.pid q.parent b.distinct_both own_flat refl in
    let held_here : HeldAt flat.processes fp s = held_at flat.processes q fp s found h nums.sids in
    let gain : (numbered sid_of s.sid (held rs) ≡ Some s) × ((y : ℕ) → y ≢ s.sid → numbered sid_of y (held rs) ≡ numbered sid_of y (held r1)) =
    held_gain r1 m mp s b.lender_found (ap space_held is.holding) refl (held_now flat.processes fp s held_here) in
    let leaves : LeavesTables flat after 0 true = record {
      other = λ y _. ap (numbered sid_of y) spaces ∙ elim (cases_eq y s.sid) [
        | inl i ↦ ap (λ (x : ℕ). numbered sid_of x (held rs)) i ∙ gain.0 ∙ sym (held_own flat.processes fp s held_here) ∙ ap (λ (x : ℕ). numbered sid_of x (spaces_of flat)) (sym i)
        | inr j ↦ gain.1 y j ∙ held_other flat.processes fp s y held_here j refl
      ];
      gone = λ i. absurd cc;
    } in
    subst (λ (x : Kernel). SameTables (change_step (facts_of images) x pid regs e (End status)) (apply_change images flat pid regs (End status))) (sym (back_kernel k flat pid q m s a))
    (subst (λ (x : Kernel). SameTables x (apply_change images flat pid regs (End status)))
    (sym (step_is (facts_of images) k1 pid regs e (End status) (record g.proc { life = New }) New (back_proc k flat pid q m s a) refl))
    (subst (SameTables (by_life (facts_of images) k1 kp New e (End status))) (sym (applied images flat pid regs (End status) q s f h))
    (subst (SameTables l) (sym (left_is (q.parent == 0) (orphaned (Rattle.flat_state.specs.Change.given_back (with_process flat fp) q.pid s) q.pid) q.pid q.parent))
    (subst (λ (xs : List Process). SameTables l (record flat { processes = left_flat (q.parent == 0) (orphans q.pid xs) q.pid q.parent })) (sym b.returned)
    (tables_of l after outlines c.next_pid c.next_sid
    (leave_fits k flat after kp.pid 0 true (left_procs (kp.parent == 0) (orphaned_procs k1.processes kp.pid) kp status) (append k.journal e) leaves c.spaces))))))
  where
    passed_pids : (ks : List Proc) → map kept_pid (map (passes s.sid pid m.pid) ks) ≡ map kept_pid ks
    passed_pids [] = refl
    passed_pids (x ∷ ks) = ap (λ (y : List ℕ). x.pid ∷ y) (passed_pids ks)

-- One process gives way to another with the same holding.
stay_tables : (k : Kernel) (flat : FlatState) (q fp : Process) (kp : Proc) (journal : List Entry) → AllDistinct (map pid_of flat.processes)
    → numbered pid_of fp.pid flat.processes ≡ Some q
    → fp.holding ≡ q.holding → outline_kept kp ≡ outline_of fp → SameTables k flat
    → SameTables (record k { processes = with_proc k.processes kp; journal = journal }) (with_process flat fp)
stay_tables k flat q fp kp journal d f h o t =
    tables_of (record k { processes = with_proc k.processes kp; journal = journal }) (with_process flat fp) (with_replaced k.processes flat.processes kp fp t.processes d o) t.next_pid t.next_sid
    (λ sid. subst (λ (xs : List Space). Fits (numbered sid_of sid xs) (numbered space_number sid k.place.spaces)) (sym (same_held flat.processes q fp f h)) (all_fit k flat t sid))

-- An entry that changes nothing else.
pub keep_tables : (k : Kernel) (images : List NamedImage) (flat : FlatState) (pid : ℕ) (regs : Regs) (e : Entry) (q : Process) (s : Space)
    → IsNumbered flat → process_of flat pid ≡ Some q
    → q.holding ≡ Holds s → SameTables k flat → SameTables (change_step (facts_of images) k pid regs e Keep) (apply_change images flat pid regs Keep)
keep_tables k images flat pid regs e q s nums f h c =
    let g : Stepping k flat pid q s = stepping k flat pid q s c f h in
    subst (λ (x : Kernel). SameTables x (apply_change images flat pid regs Keep)) (sym (step_is (facts_of images) k pid regs e Keep g.proc (HoldsSpace s.sid) g.kept g.life))
    (subst (SameTables (by_life (facts_of images) k (record g.proc { regs = regs }) (HoldsSpace s.sid) e Keep)) (sym (applied images flat pid regs Keep q s f h))
    (stay_tables k flat q (record q { regs = regs }) (record g.proc { regs = regs }) (append k.journal e) nums.pids (ap (λ (n : ℕ). numbered pid_of n flat.processes) g.pid_was ∙ g.found) refl
    (outline_is g.proc.pid q.pid g.proc.parent q.parent g.proc.life (life_of q.holding) g.proc.asleep q.asleep (g.pid_is ∙ sym g.pid_was) g.parent (g.life ∙ sym (ap life_of h)) g.asleep) c))

-- A process falls asleep.
pub sleep_tables : (k : Kernel) (images : List NamedImage) (flat : FlatState) (pid : ℕ) (regs : Regs) (e : Entry) (q : Process) (s : Space)
    → IsNumbered flat → process_of flat pid ≡ Some q
    → q.holding ≡ Holds s → SameTables k flat → SameTables (change_step (facts_of images) k pid regs e Sleep) (apply_change images flat pid regs Sleep)
sleep_tables k images flat pid regs e q s nums f h c =
    let g : Stepping k flat pid q s = stepping k flat pid q s c f h in
    subst (λ (x : Kernel). SameTables x (apply_change images flat pid regs Sleep)) (sym (step_is (facts_of images) k pid regs e Sleep g.proc (HoldsSpace s.sid) g.kept g.life))
    (subst (SameTables (by_life (facts_of images) k (record g.proc { regs = regs }) (HoldsSpace s.sid) e Sleep)) (sym (applied images flat pid regs Sleep q s f h))
    (stay_tables k flat q (record q { regs = regs; asleep = true }) (record g.proc { regs = regs; asleep = true }) (append k.journal e) nums.pids
    (ap (λ (n : ℕ). numbered pid_of n flat.processes) g.pid_was ∙ g.found) refl
    (outline_is g.proc.pid q.pid g.proc.parent q.parent g.proc.life (life_of q.holding) true true (g.pid_is ∙ sym g.pid_was) g.parent (g.life ∙ sym (ap life_of h)) refl) c))

-- A zombie child goes.
pub reap_tables : (k : Kernel) (images : List NamedImage) (flat : FlatState) (pid : ℕ) (regs : Regs) (e : Entry) (child status : ℕ) (q z : Process) (s : Space)
    → IsNumbered flat
    → process_of flat pid ≡ Some q → q.holding ≡ Holds s → process_of flat child ≡ Some z → z.holding ≡ Zombie status → SameTables k flat
    → SameTables (change_step (facts_of images) k pid regs e (Reap child)) (apply_change images flat pid regs (Reap child))
reap_tables k images flat pid regs e child status q z s nums f h fz hz c =
    let holder : q ≡ z → ⊥ = λ i.
    let j : Holds s ≡ Zombie status = sym h ∙ ap (λ (x : Process). x.holding) i ∙ hz in cc in
    let g : Stepping k flat pid q s = stepping k flat pid q s c f h in
    let at : numbered pid_of child flat.processes ≡ Some z = sym (found_is flat.processes child) ∙ fz in
    let other : pid ≢ child = λ i. holder (same_Some q z (sym g.found ∙ ap (λ (n : ℕ). numbered pid_of n flat.processes) i ∙ at)) in
    subst (λ (x : Kernel). SameTables x (apply_change images flat pid regs (Reap child))) (sym (step_is (facts_of images) k pid regs e (Reap child) g.proc (HoldsSpace s.sid) g.kept g.life))
    (subst (SameTables (by_life (facts_of images) k (record g.proc { regs = regs }) (HoldsSpace s.sid) e (Reap child))) (sym (applied images flat pid regs (Reap child) q s f h))
    (stay_tables (record k { processes = without_proc k.processes child }) (without_process flat child) q (record q { regs = regs }) (record g.proc { regs = regs }) (append k.journal e)
    (distinct_filter pid_of (λ (x : Process). not (x.pid == child)) flat.processes nums.pids)
    (removed_not pid_of q.pid child flat.processes (λ i. other (sym g.pid_was ∙ i)) ∙ ap (λ (n : ℕ). numbered pid_of n flat.processes) g.pid_was ∙ g.found) refl
    (outline_is g.proc.pid q.pid g.proc.parent q.parent g.proc.life (life_of q.holding) g.proc.asleep q.asleep (g.pid_is ∙ sym g.pid_was) g.parent (g.life ∙ sym (ap life_of h)) g.asleep)
    (gone_tables at)))
  where
    gone_tables : numbered pid_of child flat.processes ≡ Some z → SameTables (record k { processes = without_proc k.processes child }) (without_process flat child)
    gone_tables at =
        tables_of (record k { processes = without_proc k.processes child }) (without_process flat child) (removed_outlines k.processes flat.processes child c.processes) c.next_pid c.next_sid
        (λ sid. subst (λ (xs : List Space). Fits (numbered sid_of sid xs) (numbered space_number sid k.place.spaces)) (sym spaces) (all_fit k flat c sid))
      where
        off : (b : Bool) → not b ≡ false → b ≡ true
        off true e = refl
        off false e = absurd cc

        spaces : held (filter (λ (x : Process). not (x.pid == child)) flat.processes) ≡ held flat.processes
        spaces = held_filter (λ (x : Process). not (x.pid == child)) flat.processes nums.pids
            (λ x e n. let i : x.pid ≡ child = eqb-true x.pid child (off (x.pid == child) n) in
            ap (λ (y : Process). space_held y.holding) (same_Some x z (sym e ∙ ap (λ (m : ℕ). numbered pid_of m flat.processes) i ∙ at)) ∙ ap space_held hz)
