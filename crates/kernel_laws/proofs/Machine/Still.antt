-- Changes that leave all spaces: an entry of a process, one that falls asleep, and a zombie that goes.
use Rattle.std.proofs.Common.{◌≡◌, ◌≢◌, inl, inr, ℕ, ◌==◌, Bool, true, false, not, List, [], map, Some, refl, sym, ap, ◌∙◌, subst}
use Rattle.std.proofs.lemmas.Bool.{cases_eq, eqb-true}
use Rattle.flat_state.specs.Space.{Space}
use Rattle.flat_state.specs.Flat.{Holds, Zombie, Process, FlatState, NamedImage, process_of, space_held}
use Rattle.vm_facts.specs.declared.regs.Regs.{Regs}
use Rattle.vm_facts.specs.declared.entry.Entry.{Entry}
use Rattle.flat_state.specs.declared.change.Change.TheVariants.{Keep, Reap, Sleep}
use Rattle.flat_state.specs.Change.{with_process, without_process, replaced, apply_change}
use Rattle.flat_state.specs.Journal.{append}
use Rattle.page_model.specs.Pages.{numbered}
use Rattle.page_model.specs.Placement.{space_number}
use Rattle.page_model.specs.Place.{space_of_holding, facts_of}
use Rattle.page_model.specs.Swapper.{is_out}
use Rattle.flat_state.specs.Numbers.{AllDistinct, IsNumbered}
use Rattle.kernel_model.specs.Coupled.{Fits, Outline, Coupled, SameTables, KeepsRegs, outline_kept, outline_of, beside_kernel}
use Rattle.kernel_model.specs.Kernel.{Kernel, Proc, HoldsSpace, life_of}
use Rattle.kernel_model.specs.ChangeStep.{with_proc, without_proc, change_step}
use Rattle.page_laws.proofs.Lists.Local.{none_some}
use Rattle.std.proofs.lemmas.Option.{same_Some}
use Rattle.kernel_laws.proofs.Flat.Numbered.{removed_is, removed_not}
use Rattle.kernel_laws.proofs.Flat.Lists.{pid_of, sid_of, held, replaced_at, replaced_not, same_held}
use Rattle.kernel_laws.proofs.Machine.Moves.{alike_coupled}
use Rattle.kernel_laws.proofs.Machine.Tables.{kept_pid, all_fit, tables_of, RegsAt, regs_at, coupled_of}
use Rattle.kernel_laws.proofs.Machine.Swaps.{applied, memory_same}
use Rattle.kernel_laws.proofs.Machine.Processes.{with_at, with_not, with_replaced, removed_outlines, held_filter, distinct_filter, Stepping, stepping, by_life, step_is}

-- One process gives way to another with the same holding.
pub stay_coupled : (k : Kernel) (images : List NamedImage) (image : List ℕ) (flat : FlatState) (q fp : Process) (p kp : Proc) (journal : List Entry)
    → AllDistinct (map pid_of flat.processes) → numbered pid_of fp.pid flat.processes ≡ Some q
    → numbered kept_pid kp.pid k.processes ≡ Some p → fp.holding ≡ q.holding → outline_kept kp ≡ outline_of fp → kp.regs ≡ fp.regs
    → is_out k.place fp.pid ≡ false → Coupled k images image flat
    → Coupled (record k { processes = with_proc k.processes kp; journal = journal }) images image (with_process flat fp)
stay_coupled k images image flat q fp p kp journal d f g h o r out c =
    let t : SameTables k flat = c.tables in
    let spaces : held (replaced flat.processes fp) ≡ held flat.processes = same_held flat.processes q fp f h in
    coupled_of l images image after
    (tables_of l after (with_replaced k.processes flat.processes kp fp t.processes d o) t.next_pid t.next_sid
    (λ sid. subst (λ (xs : List Space). Fits (numbered sid_of sid xs) (numbered space_number sid k.place.spaces)) (sym spaces) (all_fit k flat t sid)))
    (alike_coupled k.place (beside_kernel k images image flat) (beside_kernel l images image after)
    (λ w. record { frames = refl; swap = refl; file = refl; start = refl; memory = memory_same images flat after (λ sid. ap (numbered sid_of sid) spaces) w }) c.pages)
    regs_now
  where
    l : Kernel
    l = record k { processes = with_proc k.processes kp; journal = journal }

    after : FlatState
    after = with_process flat fp

    pids : kp.pid ≡ fp.pid
    pids = ap (λ (x : Outline). x.pid) o

    regs_now : (n : ℕ) → RegsAt l image after n
    regs_now n a b ea eb = elim (cases_eq n fp.pid) [
      | inl same ↦ (let fa : fp ≡ a = same_Some fp a (sym (replaced_at flat.processes q fp f) ∙ ap (λ (m : ℕ). numbered pid_of m (replaced flat.processes fp)) (sym same) ∙ ea) in
          let kb : kp ≡ b = same_Some kp b (sym (with_at k.processes kp p g) ∙ ap (λ (m : ℕ). numbered kept_pid m (with_proc k.processes kp)) (pids ∙ sym same) ∙ eb) in
          subst (λ (z : Bool). KeepsRegs l image z a b.regs (space_of_holding a.holding)) (sym (ap (is_out k.place) same ∙ out))
          (ap (λ (x : Proc). x.regs) (sym kb) ∙ r ∙ ap (λ (x : Process). x.regs) fa))
      | inr m ↦ same_regs n a b (regs_at k images image flat c n a b (sym (replaced_not flat.processes fp n m) ∙ ea) (sym (with_not k.processes kp n (λ i. m (i ∙ pids))) ∙ eb))
    ]
      where
        same_regs : (n : ℕ) (a : Process) (b : Proc) → KeepsRegs k image (is_out k.place n) a b.regs (space_of_holding a.holding)
            → KeepsRegs l image (is_out k.place n) a b.regs (space_of_holding a.holding)
        same_regs n a b x = Rattle.kernel_laws.proofs.Machine.Moves.regs_kept k l image image (is_out k.place n) a b.regs (space_of_holding a.holding) (λ z. refl) refl refl x

-- a process that holds nothing goes
pub gone_coupled : (k : Kernel) (images : List NamedImage) (image : List ℕ) (flat : FlatState) (child : ℕ) (z : Process)
    → AllDistinct (map pid_of flat.processes)
    → numbered pid_of child flat.processes ≡ Some z → space_held z.holding ≡ [] → Coupled k images image flat
    → Coupled (record k { processes = without_proc k.processes child }) images image (without_process flat child)
gone_coupled k images image flat child z d f h c =
    let l : Kernel = record k { processes = without_proc k.processes child } in
    let t : SameTables k flat = c.tables in
    let regs_now : (n : ℕ) → RegsAt l image after n = λ n a b ea eb. elim (cases_eq n child) [
      | inl same ↦ none_some a (sym (removed_is pid_of child flat.processes) ∙ ap (λ (m : ℕ). numbered pid_of m after.processes) (sym same) ∙ ea)
      | inr m ↦ Rattle.kernel_laws.proofs.Machine.Moves.regs_kept k l image image (is_out k.place n) a b.regs (space_of_holding a.holding) (λ z. refl) refl refl
          (regs_at k images image flat c n a b (sym (removed_not pid_of n child flat.processes m) ∙ ea) (sym (removed_not kept_pid n child k.processes m) ∙ eb))
    ] in
    coupled_of l images image after
    (tables_of l after (removed_outlines k.processes flat.processes child t.processes) t.next_pid t.next_sid
    (λ sid. subst (λ (xs : List Space). Fits (numbered sid_of sid xs) (numbered space_number sid k.place.spaces)) (sym spaces) (all_fit k flat t sid)))
    (alike_coupled k.place (beside_kernel k images image flat) (beside_kernel l images image after)
    (λ w. record { frames = refl; swap = refl; file = refl; start = refl; memory = memory_same images flat after (λ sid. ap (numbered sid_of sid) spaces) w }) c.pages)
    regs_now
  where
    after : FlatState
    after = without_process flat child

    spaces : held after.processes ≡ held flat.processes
    spaces = held_filter (λ (x : Process). not (x.pid == child)) flat.processes d
        (λ x e n. let i : x.pid ≡ child = eqb-true x.pid child (off (x.pid == child) n) in
        ap (λ (y : Process). space_held y.holding) (same_Some x z (sym e ∙ ap (λ (m : ℕ). numbered pid_of m flat.processes) i ∙ f)) ∙ h)
      where
        off : (b : Bool) → not b ≡ false → b ≡ true
        off true e = refl
        off false e = absurd cc

pub outline_is : (a b c d : ℕ) (x y : Rattle.kernel_model.specs.Kernel.Life) (s t : Bool) → a ≡ b → c ≡ d → x ≡ y → s ≡ t
    → (let o : Outline = record { pid = a; parent = c; life = x; asleep = s } in o)
    ≡ (let o : Outline = record { pid = b; parent = d; life = y; asleep = t } in o)
outline_is a b c d x y s t e f g h = cc

-- An entry of a process that changes nothing else.
pub keep_coupled : (k : Kernel) (images : List NamedImage) (image : List ℕ) (flat : FlatState) (pid : ℕ) (regs : Regs) (e : Entry) (q : Process) (s : Space)
    → IsNumbered flat
    → process_of flat pid ≡ Some q → q.holding ≡ Holds s → is_out k.place pid ≡ false
    → Coupled k images image flat → Coupled (change_step (facts_of images) k pid regs e Keep) images image (apply_change images flat pid regs Keep)
keep_coupled k images image flat pid regs e q s nums f h out c =
    let g : Stepping k flat pid q s = stepping k flat pid q s c.tables f h in
    subst (λ (x : Kernel). Coupled x images image (apply_change images flat pid regs Keep)) (sym (step_is (facts_of images) k pid regs e Keep g.proc (HoldsSpace s.sid) g.kept g.life))
    (subst (Coupled (by_life (facts_of images) k (record g.proc { regs = regs }) (HoldsSpace s.sid) e Keep) images image) (sym (applied images flat pid regs Keep q s f h))
    (stay_coupled k images image flat q (record q { regs = regs }) g.proc (record g.proc { regs = regs }) (append k.journal e) nums.pids
    (ap (λ (n : ℕ). numbered pid_of n flat.processes) g.pid_was ∙ g.found) (ap (λ (n : ℕ). numbered kept_pid n k.processes) g.pid_is ∙ g.kept) refl
    (outline_is g.proc.pid q.pid g.proc.parent q.parent g.proc.life (life_of q.holding) g.proc.asleep q.asleep (g.pid_is ∙ sym g.pid_was) g.parent (g.life ∙ sym (ap life_of h)) g.asleep) refl
    (ap (is_out k.place) g.pid_was ∙ out) c))

-- A process falls asleep.
pub sleep_coupled : (k : Kernel) (images : List NamedImage) (image : List ℕ) (flat : FlatState) (pid : ℕ) (regs : Regs) (e : Entry) (q : Process) (s : Space)
    → IsNumbered flat
    → process_of flat pid ≡ Some q → q.holding ≡ Holds s → is_out k.place pid ≡ false
    → Coupled k images image flat → Coupled (change_step (facts_of images) k pid regs e Sleep) images image (apply_change images flat pid regs Sleep)
sleep_coupled k images image flat pid regs e q s nums f h out c =
    let g : Stepping k flat pid q s = stepping k flat pid q s c.tables f h in
    subst (λ (x : Kernel). Coupled x images image (apply_change images flat pid regs Sleep)) (sym (step_is (facts_of images) k pid regs e Sleep g.proc (HoldsSpace s.sid) g.kept g.life))
    (subst (Coupled (by_life (facts_of images) k (record g.proc { regs = regs }) (HoldsSpace s.sid) e Sleep) images image) (sym (applied images flat pid regs Sleep q s f h))
    (stay_coupled k images image flat q (record q { regs = regs; asleep = true }) g.proc (record g.proc { regs = regs; asleep = true }) (append k.journal e) nums.pids
    (ap (λ (n : ℕ). numbered pid_of n flat.processes) g.pid_was ∙ g.found) (ap (λ (n : ℕ). numbered kept_pid n k.processes) g.pid_is ∙ g.kept) refl
    (outline_is g.proc.pid q.pid g.proc.parent q.parent g.proc.life (life_of q.holding) true true (g.pid_is ∙ sym g.pid_was) g.parent (g.life ∙ sym (ap life_of h)) refl) refl
    (ap (is_out k.place) g.pid_was ∙ out) c))

-- A zombie child goes.
pub reap_coupled : (k : Kernel) (images : List NamedImage) (image : List ℕ) (flat : FlatState) (pid : ℕ) (regs : Regs) (e : Entry) (child status : ℕ)
    (q z : Process) (s : Space)
    → IsNumbered flat
    → process_of flat pid ≡ Some q → q.holding ≡ Holds s → is_out k.place pid ≡ false
    → process_of flat child ≡ Some z → z.holding ≡ Zombie status → Coupled k images image flat
    → Coupled (change_step (facts_of images) k pid regs e (Reap child)) images image (apply_change images flat pid regs (Reap child))
reap_coupled k images image flat pid regs e child status q z s nums f h out fz hz c =
    let holder : q ≡ z → ⊥ = λ i.
    let j : Holds s ≡ Zombie status = sym h ∙ ap (λ (x : Process). x.holding) i ∙ hz in cc in
    let g : Stepping k flat pid q s = stepping k flat pid q s c.tables f h in
    let at : numbered pid_of child flat.processes ≡ Some z = sym (Rattle.kernel_laws.proofs.Flat.Lists.found_is flat.processes child) ∙ fz in
    let other : pid ≢ child = λ i. holder (same_Some q z (sym g.found ∙ ap (λ (n : ℕ). numbered pid_of n flat.processes) i ∙ at)) in
    subst (λ (x : Kernel). Coupled x images image (apply_change images flat pid regs (Reap child))) (sym (step_is (facts_of images) k pid regs e (Reap child) g.proc (HoldsSpace s.sid) g.kept g.life))
    (subst (Coupled (by_life (facts_of images) k (record g.proc { regs = regs }) (HoldsSpace s.sid) e (Reap child)) images image) (sym (applied images flat pid regs (Reap child) q s f h))
    (stay_coupled (record k { processes = without_proc k.processes child }) images image (without_process flat child) q (record q { regs = regs }) g.proc
    (record g.proc { regs = regs }) (append k.journal e)
    (distinct_filter pid_of (λ (x : Process). not (x.pid == child)) flat.processes nums.pids)
    (removed_not pid_of q.pid child flat.processes (λ i. other (sym g.pid_was ∙ i)) ∙ ap (λ (n : ℕ). numbered pid_of n flat.processes) g.pid_was ∙ g.found)
    (removed_not kept_pid g.proc.pid child k.processes (λ i. other (sym g.pid_is ∙ i)) ∙ ap (λ (n : ℕ). numbered kept_pid n k.processes) g.pid_is ∙ g.kept) refl
    (outline_is g.proc.pid q.pid g.proc.parent q.parent g.proc.life (life_of q.holding) g.proc.asleep q.asleep (g.pid_is ∙ sym g.pid_was) g.parent (g.life ∙ sym (ap life_of h)) g.asleep) refl
    (ap (is_out k.place) g.pid_was ∙ out)
    (gone_coupled k images image flat child z nums.pids at (ap space_held hz) c)))
