-- Vfork keeps the whole machine coupled: the child comes, and the space passes to it at once.
use Rattle.std.proofs.Common.{◌≡◌, ◌≢◌, inl, inr, ℕ, ◌+◌, ◌==◌, Bool, true, false, cond, List, [], ◌∷◌, ◌++◌, length, map, Option, Some, None, refl, sym, ap, ◌∙◌, subst}
use Rattle.std.proofs.lemmas.Bool.{cases_eq, ne_eqb}
use Rattle.flat_state.specs.Space.{Space}
use Rattle.flat_state.specs.Flat.{Holds, Lends, Process, FlatState, NamedImage, process_of, spaces_of}
use Rattle.vm_facts.specs.declared.page.Page.{Page}
use Rattle.vm_facts.specs.declared.page.Page.TheVariants.{Data, Stack, Text}
use Rattle.vm_facts.specs.declared.regs.Regs.{Regs}
use Rattle.vm_facts.specs.declared.entry.Entry.{Entry}
use Rattle.flat_state.specs.declared.change.Change.TheVariants.{Lend}
use Rattle.flat_state.specs.Change.{replaced, with_results, child_of, lent, apply_change}
use Rattle.flat_state.specs.Journal.{append}
use Rattle.page_model.specs.Pages.{numbered}
use Rattle.page_model.specs.Placement.{space_number}
use Rattle.page_model.specs.Swapper.{is_out}
use Rattle.flat_state.specs.Numbers.{IsAbsent, IsNumbered}
use Rattle.kernel_model.specs.Stands.{OutHold}
use Rattle.kernel_model.specs.Coupled.{Fits, AllFit, Outline, Coupled, outline_kept, outline_of, beside_kernel}
use Rattle.kernel_model.specs.Kernel.{Kernel, Proc, Life, New, HoldsSpace, LendsSpace}
use Rattle.kernel_model.specs.ChangeStep.{with_proc, child_proc, space_of_life, life_of_proc, passed_life, pass_step, change_step}
use Rattle.page_laws.proofs.Lists.Local.{none_some}
use Rattle.page_laws.proofs.Bytes.Runs.{still_coupled}
use Rattle.kernel_laws.proofs.Flat.Numbered.{none_absent, pushed_new, pushed_old, pushed_found, map_pushed}
use Rattle.vm_facts.proofs.Tests.{eq_self}
use Rattle.kernel_laws.proofs.Flat.Lists.{pid_of, sid_of, held, replaced_at, replaced_not, held-append, HeldAt, held_at, held_own, held_other, held_now}
use Rattle.kernel_laws.proofs.Machine.Moves.{alike_coupled}
use Rattle.kernel_laws.proofs.Machine.Tables.{kept_pid, tables_of, RegsAt, coupled_of}
use Rattle.kernel_laws.proofs.Machine.Swaps.{applied, memory_same}
use Rattle.kernel_laws.proofs.Machine.Still.{outline_is}
use Rattle.kernel_laws.proofs.Machine.Forks.{next_pid_none, next_in, kept_none, out_begun}
use Rattle.kernel_laws.proofs.Machine.Processes.{with_at, with_not, with_replaced, Stepping, stepping, by_life, step_is, regs_carried, regs_in_record}
use Rattle.page_model.specs.Place.{facts_of}

-- what passing a space makes of one process
abbrev pub passed : ℕ → ℕ → ℕ → Life → Proc → Proc
passed sid from to receiver q = record q { life = passed_life sid from to receiver q }

abbrev pub pass_by : Kernel → ℕ → ℕ → Life → Life → Kernel
pass_by k from to giver receiver = record k { processes = map (λ (q : Proc). record q { life = passed_life (space_of_life giver) from to receiver q }) k.processes }

pub pass_is : (k : Kernel) (from to : ℕ) (p q : Proc) (giver receiver : Life) → numbered kept_pid from k.processes ≡ Some p → p.life ≡ giver
    → numbered kept_pid to k.processes ≡ Some q
    → q.life ≡ receiver → pass_step k from to ≡ pass_by k from to giver receiver
pass_is k from to p q giver receiver a b c d =
    ap (λ (g : Life). pass_by k from to g (life_of_proc (numbered kept_pid to k.processes))) (ap life_of_proc a ∙ b) ∙ ap (pass_by k from to giver) (ap life_of_proc c ∙ d)

-- the parent lends, and each other process is as it was
pub passed_list : (ks : List Proc) (p : Proc) (sid to : ℕ) → IsAbsent to (map kept_pid ks)
    → map (passed sid p.pid to New) (with_proc ks p) ≡ with_proc ks (record p { life = LendsSpace sid to })
passed_list [] p sid to a = refl
passed_list (x ∷ ks) p sid to a = ap (λ (y : Proc). y ∷ map (passed sid p.pid to New) (with_proc ks p)) (go (x.pid == p.pid) refl)
    ∙ ap (λ (l : List Proc). cond (x.pid == p.pid) (record p { life = LendsSpace sid to }) x ∷ l) (passed_list ks p sid to a.1)
  where
    go : (b : Bool) → (x.pid == p.pid) ≡ b → passed sid p.pid to New (cond b p x) ≡ cond b (record p { life = LendsSpace sid to }) x
    go true e = ap (λ (b : Bool). let y : Proc = record p { life = cond b (LendsSpace sid to) (cond (p.pid == to) (HoldsSpace sid) p.life) } in y) (eq_self p.pid)
    go false e = ap (λ (b : Bool). let y : Proc = record x { life = cond b (LendsSpace sid to) (cond (x.pid == to) (HoldsSpace sid) x.life) } in y) e
        ∙ ap (λ (b : Bool). let y : Proc = record x { life = cond b (HoldsSpace sid) x.life } in y) (ne_eqb x.pid to a.0)

-- the child holds
pub passed_child : (p : Proc) (sid to : ℕ) → to ≢ p.pid → passed sid p.pid to New (child_proc p to New) ≡ child_proc p to (HoldsSpace sid)
passed_child p sid to d = ap (λ (b : Bool). let y : Proc = record (child_proc p to New) { life = cond b (LendsSpace sid to) (cond (to == to) (HoldsSpace sid) New) } in y) (ne_eqb to p.pid d)
    ∙ ap (λ (b : Bool). let y : Proc = record (child_proc p to New) { life = cond b (HoldsSpace sid) New } in y) (eq_self to)

pub lend_coupled_step : (k : Kernel) (images : List NamedImage) (image : List ℕ) (flat : FlatState) (pid : ℕ) (regs : Regs) (e : Entry)
    (q : Process) (s : Space)
    → IsNumbered flat
    → OutHold k.place flat → process_of flat pid ≡ Some q → q.holding ≡ Holds s
    → is_out k.place pid ≡ false → Coupled k images image flat → Coupled (pass_step (change_step (facts_of images) k pid regs e (Lend flat.next_pid)) pid
    flat.next_pid) images image (apply_change images flat pid regs (Lend flat.next_pid))
lend_coupled_step k images image flat pid regs e q s nums outs f h out c =
    let ch : Process = child_of (record q { regs = regs }) child s in
    let after : FlatState = lent flat (record q { regs = regs }) s child in
    let found : numbered pid_of fp.pid flat.processes ≡ Some q = ap (λ (m : ℕ). numbered pid_of m flat.processes) g.pid_was ∙ g.found in
    let kept_found : numbered kept_pid kp.pid k.processes ≡ Some g.proc = ap (λ (m : ℕ). numbered kept_pid m k.processes) g.pid_is ∙ g.kept in
    let parent_kept : numbered kept_pid pid k1.processes ≡ Some kp =
    pushed_found kept_pid pid (with_proc k.processes kp) kn kp (ap (λ (m : ℕ). numbered kept_pid m (with_proc k.processes kp)) (sym g.pid_is) ∙ with_at k.processes kp g.proc kept_found) in
    let child_kept : numbered kept_pid child k1.processes ≡ Some kn =
    pushed_new kept_pid child (with_proc k.processes kp) kn (with_not k.processes kp child (λ i. child_other (i ∙ pids)) ∙ no_child) refl in
    let outlines : map outline_kept l.processes ≡ map outline_of after.processes = map_pushed outline_kept (with_proc k.processes kl) kc
    ∙ ap (λ (x : List Outline). x ++ outline_kept kc ∷ []) (with_replaced k.processes flat.processes kl fp c.tables.processes nums.pids
    (outline_is g.proc.pid q.pid g.proc.parent q.parent (LendsSpace s.sid child) (LendsSpace s.sid child) g.proc.asleep q.asleep pids g.parent refl g.asleep))
    ∙ ap (λ (x : Outline). map outline_of (replaced flat.processes fp) ++ x ∷ []) (outline_is child child kp.pid fp.pid (HoldsSpace s.sid) (HoldsSpace s.sid) false false refl pids refl refl)
    ∙ sym (map_pushed outline_of (replaced flat.processes fp) ch) in
    -- the space is the child's now
    let held_here : HeldAt flat.processes fp s = held_at flat.processes q fp s found h nums.sids in
    let list : spaces_of after ≡ held (replaced flat.processes fp) ++ s ∷ [] = held-append (replaced flat.processes fp) (ch ∷ []) in
    let spaces : (n : ℕ) → numbered sid_of n (spaces_of after) ≡ numbered sid_of n (spaces_of flat) = λ n. elim (cases_eq n s.sid) [
      | inl i ↦ subst (λ (m : ℕ). numbered sid_of m (spaces_of after) ≡ numbered sid_of m (spaces_of flat)) (sym i)
          (ap (numbered sid_of s.sid) list ∙ pushed_new sid_of s.sid (held (replaced flat.processes fp)) s (held_now flat.processes fp s held_here) refl ∙ sym (held_own flat.processes fp s held_here))
      | inr d ↦ ap (numbered sid_of n) list ∙ pushed_old sid_of n (held (replaced flat.processes fp)) s (λ i. d (sym i)) ∙ held_other flat.processes fp s n held_here d refl
    ] in
    let all : AllFit flat k.place = c.tables.spaces in
    let fits : AllFit after l.place = λ n. subst (λ (o : Option Space). Fits o (numbered space_number n k.place.spaces)) (sym (spaces n)) (all n) in
    -- registers
    let out_same : (m : ℕ) → is_out l.place m ≡ is_out k.place m = λ m. out_begun k.place.residents child (length (append k.journal e)) m in
    let regs_now : (m : ℕ) → RegsAt l image after m = λ m. elim (cases_eq m q.pid) [
      | inl i ↦ subst (RegsAt l image after) (sym i) (regs_in_record l image after q.pid fp kl (out_same q.pid ∙ ap (is_out k.place) g.pid_was ∙ out)
          (pushed_found pid_of q.pid (replaced flat.processes fp) ch fp (replaced_at flat.processes q fp found))
          (pushed_found kept_pid q.pid (with_proc k.processes kl) kc kl (ap (λ (y : ℕ). numbered kept_pid y (with_proc k.processes kl)) (sym pids) ∙ with_at k.processes kl g.proc kept_found)) refl)
      | inr d ↦ elim (cases_eq m child) [
        | inl i ↦ subst (RegsAt l image after) (sym i) (regs_in_record l image after child ch kc (out_same child ∙ next_in flat k.place nums outs)
            (pushed_new pid_of child (replaced flat.processes fp) ch (replaced_not flat.processes fp child child_other ∙ next_pid_none flat nums) refl)
            (pushed_new kept_pid child (with_proc k.processes kl) kc (with_not k.processes kl child (λ y. child_other (y ∙ pids)) ∙ no_child) refl) (ap (λ (y : ℕ). with_results regs y 1) pids))
        | inr i ↦ regs_carried k l images image image flat after m c outs (record {
          flat_was = λ a ea. (a, sym (replaced_not flat.processes fp m d) ∙ sym (pushed_old pid_of m (replaced flat.processes fp) ch (λ y. i (sym y))) ∙ ea, refl, refl);
          kept_was = λ b eb. (b, sym (with_not k.processes kl m (λ y. d (y ∙ pids))) ∙ sym (pushed_old kept_pid m (with_proc k.processes kl) kc (λ y. i (sym y))) ∙ eb, refl);
          out = out_same m;
          held_by = λ a t ea ht. (refl, refl, refl);
        })
      ]
    ] in
    subst (λ (x : Kernel). Coupled (pass_step x pid flat.next_pid) images image (apply_change images flat pid regs (Lend flat.next_pid)))
    (sym (step_is (facts_of images) k pid regs e (Lend flat.next_pid) g.proc (HoldsSpace s.sid) g.kept g.life))
    (subst (Coupled (pass_step k1 pid flat.next_pid) images image) (sym (applied images flat pid regs (Lend flat.next_pid) q s f h))
    (subst (λ (x : Kernel). Coupled x images image after) (sym (pass_is k1 pid flat.next_pid kp kn (HoldsSpace s.sid) New parent_kept g.life child_kept refl))
    (subst (λ (xs : List Proc). Coupled (record k1 { processes = xs }) images image after) (sym processes)
    (coupled_of l images image after (tables_of l after outlines (ap (λ (m : ℕ). m + 1) c.tables.next_pid) c.tables.next_sid fits)
    (alike_coupled l.place (beside_kernel k images image flat) (beside_kernel l images image after)
    (λ w. record { frames = refl; swap = refl; file = file_of_same w; start = refl; memory = memory_same images flat after spaces w })
    (still_coupled k.place l.place (beside_kernel k images image flat) (λ w. refl) refl refl c.pages)) regs_now))))
  where
    g : Stepping k flat pid q s
    g = stepping k flat pid q s c.tables f h

    child : ℕ
    child = flat.next_pid

    -- the parent and the child, before the space passes and after
    kp : Proc
    kp = record g.proc { regs = regs }

    kn : Proc
    kn = child_proc kp child New

    kl : Proc
    kl = record kp { life = LendsSpace s.sid child }

    kc : Proc
    kc = child_proc kp child (HoldsSpace s.sid)

    fp : Process
    fp = record q { regs = regs; holding = Lends s.sid child }

    k1 : Kernel
    k1 = by_life (facts_of images) k kp (HoldsSpace s.sid) e (Lend child)

    l : Kernel
    l = record k1 { processes = with_proc k.processes kl ++ kc ∷ [] }

    pids : kp.pid ≡ fp.pid
    pids = g.pid_is ∙ sym g.pid_was

    child_other : child ≢ q.pid
    child_other i = none_some q (sym (next_pid_none flat nums) ∙ ap (λ (m : ℕ). numbered pid_of m flat.processes) (i ∙ g.pid_was) ∙ g.found)

    no_child : numbered kept_pid child k.processes ≡ None
    no_child = kept_none k flat child c.tables.processes (next_pid_none flat nums)

    processes : map (passed s.sid pid child New) k1.processes ≡ l.processes
    processes = ap (λ (m : ℕ). map (passed s.sid m child New) k1.processes) (sym g.pid_is) ∙ map_pushed (passed s.sid kp.pid child New) (with_proc k.processes kp) kn
        ∙ ap (λ (xs : List Proc). xs ++ passed s.sid kp.pid child New kn ∷ []) (passed_list k.processes kp s.sid child (none_absent kept_pid child k.processes no_child))
        ∙ ap (λ (x : Proc). with_proc k.processes kl ++ x ∷ []) (passed_child kp s.sid child (λ i. child_other (i ∙ pids)))

    file_of_same : (w : Page) → Rattle.kernel_model.specs.Coupled.file_of images l.place w ≡ Rattle.kernel_model.specs.Coupled.file_of images k.place w
    file_of_same (Data n v) = refl
    file_of_same (Stack n v) = refl
    file_of_same (Text n v) = refl
