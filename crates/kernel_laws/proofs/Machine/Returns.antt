-- A borrowed space goes back before a new image or the end: both together keep the whole machine coupled.
use Rattle.std.proofs.Common.{◌≡◌, ◌≢◌, inl, inr, ℕ, ◌+◌, ◌==◌, Bool, true, false, cond, List, [], ◌∷◌, length, map, Option, Some, refl, sym, ap, ◌∙◌, subst}
use Rattle.std.proofs.lemmas.Bool.{cases_eq, cases_Bool, eqb-true, ne_eqb}
use Rattle.flat_state.specs.Space.{Space}
use Rattle.flat_state.specs.Flat.{Holds, Lends, Zombie, Process, FlatState, NamedImage, process_of, image_numbered, space_with, spaces_of, space_held}
use Rattle.vm_facts.specs.declared.regs.Regs.{Regs}
use Rattle.vm_facts.specs.declared.entry.Entry.{Entry}
use Rattle.swap_book.specs.declared.Owner.TheVariants as owners
use Rattle.swap_book.specs.Holdings.{Holdings}
use Rattle.flat_state.specs.declared.change.Change.TheVariants.{Exec, End}
use Rattle.flat_state.specs.Change.{with_process, replaced, replaced_by, returned, returned_by, lends_to, entered, ended, orphaned, apply_change}
use Rattle.flat_state.specs.Journal.{append}
use Rattle.page_model.specs.Pages.{SpacePages, numbered, data_in, stack_in}
use Rattle.page_model.specs.Placement.{space_number, new_pages}
use Rattle.page_model.specs.Place.{enter_image, give_up_unless, space_of_holding, facts_of}
use Rattle.page_model.specs.Swapper.{is_out}
use Rattle.page_model.specs.Ownership.{OneOwner, TextAside}
use Rattle.page_model.specs.PageBytes.{CouplesPages}
use Rattle.flat_state.specs.Numbers.{IsAbsent, AllDistinct, IsNumbered}
use Rattle.kernel_model.specs.Stands.{OutHold}
use Rattle.flat_state.specs.Lenders.{IsLender}
use Rattle.kernel_model.specs.Coupled.{AllFit, Outline, Coupled, SameTables, KeepsRegs, outline_kept, outline_of, beside_kernel}
use Rattle.kernel_model.specs.Kernel.{Kernel, Proc, New, HoldsSpace, LendsSpace, Ended, life_of}
use Rattle.kernel_model.specs.Sound.{Sound, KeepsStarts, DataFits, lives}
use Rattle.page_model.specs.Stored.{stored_at}
use Rattle.kernel_model.specs.ChangeStep.{with_proc, orphaned_procs, left_procs, pass_step, change_step}
use Rattle.page_laws.proofs.Lists.Pages.{mapped, numbered_hit, numbered_miss}
use Rattle.page_laws.proofs.Lists.Local.{none_some}
use Rattle.std.proofs.lemmas.Option.{same_Some}
use Rattle.page_laws.proofs.Ownership.Changes.{added_other}
use Rattle.page_laws.proofs.Blocks.Changes.{place_change_aside}
use Rattle.kernel_laws.proofs.Flat.Numbered.{has_number, numbered_map, mapped_some, absent_none}
use Rattle.vm_facts.proofs.Tests.{eq_self}
use Rattle.kernel_laws.proofs.Flat.Lists.{pid_of, sid_of, held, found_is, replaced_at, replaced_not, replaced_pids, HeldAt, held_at, held_own, held_other, held_now, held_new, held_gain}
use Rattle.kernel_laws.proofs.Machine.Breaks.{block_kept}
use Rattle.kernel_laws.proofs.Machine.Tables.{kept_pid, kept_at, outline_at, tables_of, RegsAt, coupled_of}
use Rattle.kernel_laws.proofs.Machine.Swaps.{applied}
use Rattle.kernel_laws.proofs.Machine.Still.{outline_is}
use Rattle.kernel_laws.proofs.Machine.Forks.{next_new, next_sid_none}
use Rattle.kernel_laws.proofs.Machine.Lends.{pass_is}
use Rattle.kernel_laws.proofs.Machine.Execs.{exec_kernel, Entering, exec_core}
use Rattle.kernel_laws.proofs.Machine.Ends.{WasFlat, WasKept, end_was, end_kept, end_held, end_kernel, Leaving, end_core, left_flat, left_is, orphans, ended_outlines, out_ended, out_gone}
use Rattle.kernel_laws.proofs.Machine.Processes.{not_own_parent, with_at, with_not, with_replaced, pids_same, holds_there, Stepping, stepping, by_life, step_is, regs_carried, regs_in_record}
use Rattle.kernel_laws.proofs.Machine.Images.{facts_found, image_known}
use Rattle.aout_image.specs.declared.Image.{Image}

-- The lender has the space again.

pub returned_is : (ps : List Process) (m : Process) (pid : ℕ) (s : Space) → AllDistinct (map pid_of ps) → numbered pid_of m.pid ps ≡ Some m
    → lends_to pid m.holding ≡ true
    → ((x : Process) → numbered pid_of x.pid ps ≡ Some x → lends_to pid x.holding ≡ true → x.pid ≡ m.pid)
    → returned pid s ps ≡ replaced ps (record m { holding = Holds s })
unfolding returned replaced
returned_is [] m pid s d e t only = none_some m e
returned_is (q ∷ ps) m pid s d e t only = elim (cases_Bool (lends_to pid q.holding)) [
  | inl y ↦ (let i : q.pid ≡ m.pid = only q (numbered_hit pid_of q.pid q ps refl) y in
      let same : q ≡ m = same_Some q m (sym (numbered_hit pid_of m.pid q ps i) ∙ e) in
      ap (λ (b : Bool). returned_by b s q ps (returned pid s ps)) y ∙ ap (λ (x : Process). (let z : Process = record x { holding = Holds s } in z) ∷ ps) same
      ∙ sym (ap (λ (b : Bool). replaced_by b (record m { holding = Holds s }) q ps (replaced ps (record m { holding = Holds s }))) (ap (λ (n : ℕ). n == m.pid) i ∙ eq_self m.pid)))
  | inr y ↦ (let n : q.pid ≢ m.pid =
      λ i. (let same : q ≡ m = same_Some q m (sym (numbered_hit pid_of m.pid q ps i) ∙ e) in let z : false ≡ true = sym y ∙ ap (λ (x : Process). lends_to pid x.holding) same ∙ t in cc) in
      ap (λ (b : Bool). returned_by b s q ps (returned pid s ps)) y
      ∙ ap (λ (l : List Process). q ∷ l) (returned_is ps m pid s d.1 (sym (numbered_miss pid_of m.pid q ps n) ∙ e) t
      (λ x f l. only x (numbered_miss pid_of x.pid q ps (λ i. none_some x (sym (absent_none pid_of x.pid ps (subst (λ (n : ℕ). IsAbsent n (map pid_of ps)) i d.0)) ∙ f)) ∙ f) l))
      ∙ sym (ap (λ (b : Bool). replaced_by b (record m { holding = Holds s }) q ps (replaced ps (record m { holding = Holds s }))) (ne_eqb q.pid m.pid n)))
]

-- what passing a space back makes of one process
abbrev pub passes : ℕ → ℕ → ℕ → Proc → Proc
passes sid from to q = record q { life = cond (q.pid == from) New (cond (q.pid == to) (HoldsSpace sid) q.life) }

-- each process of its number is this one
abbrev OnlyAt : Proc → List Proc → Type 0
OnlyAt m [] = Unit {0}
OnlyAt m (x ∷ xs) = (x.pid ≡ m.pid → x ≡ m) × OnlyAt m xs

only_at : (ks : List Proc) (m : Proc) → AllDistinct (map kept_pid ks) → numbered kept_pid m.pid ks ≡ Some m → OnlyAt m ks
only_at [] m d e = tt
only_at (x ∷ ks) m d e = elim (cases_eq x.pid m.pid) [
  | inl i ↦ ((λ _. same_Some x m (sym (numbered_hit kept_pid m.pid x ks i) ∙ e)), none ks (subst (λ (n : ℕ). IsAbsent n (map kept_pid ks)) i d.0))
  | inr n ↦ ((λ i. absurd (n i)), only_at ks m d.1 (sym (numbered_miss kept_pid m.pid x ks n) ∙ e))
]
  where
    none : (ys : List Proc) → IsAbsent m.pid (map kept_pid ys) → OnlyAt m ys
    none [] a = tt
    none (y ∷ ys) a = ((λ i. absurd (a.0 i)), none ys a.1)

-- the borrower gives way to another, and the lender holds the space
passed_back : (ks : List Proc) (p m : Proc) (sid : ℕ) → m.pid ≢ p.pid → OnlyAt m ks
    → with_proc (map (passes sid p.pid m.pid) ks) p ≡ with_proc (with_proc ks p) (record m { life = HoldsSpace sid })
passed_back [] p m sid d o = refl
passed_back (x ∷ ks) p m sid d o = ap (λ (y : Proc). y ∷ with_proc (map (passes sid p.pid m.pid) ks) p) (go (x.pid == p.pid) (x.pid == m.pid) refl refl)
    ∙ ap (λ (l : List Proc). cond ((cond (x.pid == p.pid) p x).pid == m.pid) (record m { life = HoldsSpace sid }) (cond (x.pid == p.pid) p x) ∷ l) (passed_back ks p m sid d o.1)
  where
    go : (b c : Bool) → (x.pid == p.pid) ≡ b → (x.pid == m.pid) ≡ c
        → cond b p (record x { life = cond b New (cond c (HoldsSpace sid) x.life) }) ≡ cond ((cond b p x).pid == m.pid) (record m { life = HoldsSpace sid }) (cond b p x)
    go true c e f = sym (ap (λ (t : Bool). cond t (record m { life = HoldsSpace sid }) p) (ne_eqb p.pid m.pid (λ i. d (sym i))))
    go false true e f =
        ap (λ (y : Proc). let z : Proc = record y { life = HoldsSpace sid } in z) (o.0 (eqb-true x.pid m.pid f)) ∙ sym (ap (λ (t : Bool). cond t (record m { life = HoldsSpace sid }) x) f)
    go false false e f = sym (ap (λ (t : Bool). cond t (record m { life = HoldsSpace sid }) x) f)

module _ (k : Kernel) (flat : FlatState) (pid : ℕ) (q m : Process) (s : Space) where
  -- The borrower and the lender in both tables.
  pub record Borrowing : Type 0 where
    pub step : Stepping k flat pid q s
    pub lender : Proc
    pub kept : numbered kept_pid m.pid k.processes ≡ Some lender
    pub found : numbered pid_of m.pid flat.processes ≡ Some m
    pub pid_is : lender.pid ≡ m.pid
    pub outline : outline_kept lender ≡ outline_of m
    pub life : lender.life ≡ LendsSpace s.sid pid
    pub apart : m.pid ≢ q.pid

  pub borrowing : SameTables k flat → process_of flat pid ≡ Some q → q.holding ≡ Holds s → IsLender flat pid s.sid m → Borrowing
  borrowing c f h a =
      let differs : m ≡ q → ⊥ = λ i.
      let j : Lends s.sid pid ≡ Holds s = sym a.holding ∙ ap (λ (x : Process). x.holding) i ∙ h in cc in
      let g : Stepping k flat pid q s = stepping k flat pid q s c f h in
      let at : numbered pid_of m.pid flat.processes ≡ Some m = sym (found_is flat.processes m.pid) ∙ a.found in
      let p : (p : Proc) × (numbered kept_pid m.pid k.processes ≡ Some p) = kept_at k.processes flat.processes c.processes m.pid m at in
      let o : outline_kept p.0 ≡ outline_of m = outline_at k.processes flat.processes c.processes m.pid p.0 m p.1 at in
      record {
        step = g;
        lender = p.0;
        kept = p.1;
        found = at;
        pid_is = has_number kept_pid m.pid k.processes p.0 p.1;
        outline = o;
        life = ap (λ (x : Outline). x.life) o ∙ ap life_of a.holding;
        apart = λ i. differs (same_Some m q (sym at ∙ ap (λ (n : ℕ). numbered pid_of n flat.processes) (i ∙ g.pid_was) ∙ g.found));
      }

  -- the machine once the space went back: the borrower has none
  pub back_kernel : Borrowing → pass_step k pid m.pid ≡ (let x : Kernel = record k { processes = map (passes s.sid pid m.pid) k.processes } in x)
  back_kernel a = let g : Stepping k flat pid q s = a.step in pass_is k pid m.pid g.proc a.lender (HoldsSpace s.sid) (LendsSpace s.sid pid) g.kept g.life a.kept a.life

  -- the borrower is there, with nothing
  pub back_proc : (a : Borrowing) → numbered kept_pid pid (map (passes s.sid pid m.pid) k.processes) ≡ Some (record a.step.proc { life = New })
  back_proc a =
      let g : Stepping k flat pid q s = a.step in
      numbered_map kept_pid (passes s.sid pid m.pid) (λ x. refl) pid k.processes ∙ ap (mapped (passes s.sid pid m.pid)) g.kept
      ∙ ap (λ (b : Bool). Some (let z : Proc = record g.proc { life = cond b New (cond (g.proc.pid == m.pid) (HoldsSpace s.sid) g.proc.life) } in z)) (ap (λ (n : ℕ). n == pid) g.pid_is ∙ eq_self pid)

-- the flat processes once the borrower gave way, and the lender has the space
pub record Back (k : Kernel) (flat : FlatState) (pid : ℕ) (q m fp : Process) (kp : Proc) (s : Space) : Type 0 where
  pub distinct : AllDistinct (map pid_of (replaced flat.processes fp))
  pub distinct_both : AllDistinct (map pid_of (replaced (replaced flat.processes fp) (record m { holding = Holds s })))
  pub lender_found : numbered pid_of m.pid (replaced flat.processes fp) ≡ Some m
  pub returned : returned q.pid s (replaced flat.processes fp) ≡ replaced (replaced flat.processes fp) (record m { holding = Holds s })
  pub outlines : map outline_kept (with_proc (map (passes s.sid pid m.pid) k.processes) kp)
      ≡ map outline_of (replaced (replaced flat.processes fp) (record m { holding = Holds s }))

pub back : (k : Kernel) (flat : FlatState) (pid : ℕ) (q m fp : Process) (kp : Proc) (s : Space) → IsNumbered flat → SameTables k flat
    → IsLender flat pid s.sid m → (a : Borrowing k flat pid q m s)
    → fp.pid ≡ q.pid → lends_to q.pid fp.holding ≡ false
    → kp.pid ≡ a.step.proc.pid → outline_kept kp ≡ outline_of fp → Back k flat pid q m fp kp s
back k flat pid q m fp kp s nums c is a fpid holds kpid o =
    let g : Stepping k flat pid q s = a.step in
    let found : numbered pid_of fp.pid flat.processes ≡ Some q = ap (λ (n : ℕ). numbered pid_of n flat.processes) (fpid ∙ g.pid_was) ∙ g.found in
    let distinct : AllDistinct (map pid_of (replaced flat.processes fp)) = subst AllDistinct (sym (replaced_pids flat.processes q fp found)) nums.pids in
    let distinct_kept : AllDistinct (map kept_pid k.processes) = subst AllDistinct (sym (pids_same k.processes flat.processes c.processes)) nums.pids in
    let lender_found : numbered pid_of m.pid (replaced flat.processes fp) ≡ Some m = replaced_not flat.processes fp m.pid (λ i. a.apart (i ∙ fpid)) ∙ a.found in
    let apart_kept : a.lender.pid ≢ kp.pid = λ i. a.apart (sym a.pid_is ∙ i ∙ kpid ∙ g.pid_is ∙ sym g.pid_was) in
    let only : (x : Process) → numbered pid_of x.pid (replaced flat.processes fp) ≡ Some x → lends_to q.pid x.holding ≡ true → x.pid ≡ m.pid = λ x e l. elim (cases_eq x.pid fp.pid) [
      | inl i ↦ absurd (let same : fp ≡ x = same_Some fp x (sym (replaced_at flat.processes q fp found) ∙ ap (λ (n : ℕ). numbered pid_of n (replaced flat.processes fp)) (sym i) ∙ e) in
          let z : false ≡ true = sym holds ∙ ap (λ (y : Process). lends_to q.pid y.holding) same ∙ l in cc)
      | inr n ↦ is.only x (found_is flat.processes x.pid ∙ sym (replaced_not flat.processes fp x.pid n) ∙ e) (ap (λ (y : ℕ). lends_to y x.holding) (sym g.pid_was) ∙ l)
    ] in
    record {
      distinct = distinct;
      distinct_both = subst AllDistinct (sym (replaced_pids (replaced flat.processes fp) m (record m { holding = Holds s }) lender_found)) distinct;
      lender_found = lender_found;
      returned = returned_is (replaced flat.processes fp) m q.pid s distinct lender_found (ap (lends_to q.pid) is.holding ∙ ap (λ (n : ℕ). n == q.pid) (sym g.pid_was) ∙ eq_self q.pid) only;
      outlines = ap (λ (n : ℕ). map outline_kept (with_proc (map (passes s.sid n m.pid) k.processes) kp)) (sym (kpid ∙ g.pid_is))
          ∙ ap (λ (n : ℕ). map outline_kept (with_proc (map (passes s.sid kp.pid n) k.processes) kp)) (sym a.pid_is)
          ∙ ap (map outline_kept)
          (passed_back k.processes kp a.lender s.sid apart_kept (only_at k.processes a.lender distinct_kept (ap (λ (n : ℕ). numbered kept_pid n k.processes) a.pid_is ∙ a.kept)))
          ∙ with_replaced (with_proc k.processes kp) (replaced flat.processes fp) (record a.lender { life = HoldsSpace s.sid }) (record m { holding = Holds s })
          (with_replaced k.processes flat.processes kp fp c.processes nums.pids o) distinct
          (ap (λ (x : Outline). let y : Outline = record x { life = HoldsSpace s.sid } in y) a.outline);
    }

-- what the processes are once both gave way
flat_both : (k : Kernel) (flat : FlatState) (pid : ℕ) (q m fp : Process) (s : Space) (n : ℕ) (a : Process) → Borrowing k flat pid q m s
    → numbered pid_of m.pid (replaced flat.processes fp) ≡ Some m
    → n ≢ fp.pid → numbered pid_of n (replaced (replaced flat.processes fp) (record m { holding = Holds s })) ≡ Some a
    → IsLender flat pid s.sid m → (x : Process) × (numbered pid_of n flat.processes ≡ Some x) × (a.regs ≡ x.regs)
    × (space_of_holding a.holding ≡ space_of_holding x.holding)
flat_both k flat pid q m fp s n a g lf d e is = elim (cases_eq n m.pid) [
  | inl i ↦ (let same : (let y : Process = record m { holding = Holds s } in y) ≡ a =
      same_Some (record m { holding = Holds s }) a (sym (replaced_at (replaced flat.processes fp) m (record m { holding = Holds s }) lf)
      ∙ ap (λ (y : ℕ). numbered pid_of y (replaced (replaced flat.processes fp) (record m { holding = Holds s }))) (sym i) ∙ e) in (
        m,
        ap (λ (y : ℕ). numbered pid_of y flat.processes) i ∙ g.found,
        ap (λ (x : Process). x.regs) (sym same),
        ap (λ (x : Process).
            space_of_holding x.holding) (sym same) ∙ sym (ap space_of_holding is.holding),
      ))
  | inr j ↦ (a, sym (replaced_not flat.processes fp n d) ∙ sym (replaced_not (replaced flat.processes fp) (record m { holding = Holds s }) n j) ∙ e, refl, refl)
]

-- passing a space leaves all registers
kept_passed : (ks : List Proc) (sid from to n : ℕ) (b : Proc) → numbered kept_pid n (map (passes sid from to) ks) ≡ Some b
    → (y : Proc) × (numbered kept_pid n ks ≡ Some y) × (b.regs ≡ y.regs)
kept_passed ks sid from to n b e =
    let m : (y : Proc) × (numbered kept_pid n ks ≡ Some y) × (passes sid from to y ≡ b) =
    mapped_some (passes sid from to) (numbered kept_pid n ks) b (sym (numbered_map kept_pid (passes sid from to) (λ x. refl) n ks) ∙ e) in
    (m.0, m.1, ap (λ (x : Proc). x.regs) (sym m.2))

-- A process that borrowed its space enters an image.
pub exec_back : (size : ℕ) (before : Holdings) (k : Kernel) (images : List NamedImage) (image : List ℕ) (flat : FlatState) (pid : ℕ) (regs : Regs) (e : Entry)
    (number : ℕ) (top : List ℕ) (named : NamedImage) (q m : Process) (s : Space)
    → Sound size (record k { holdings = before }) → IsNumbered flat → OutHold k.place flat
    → k.place.due ≡ [] → KeepsStarts k → process_of flat pid ≡ Some q → q.holding ≡ Holds s → IsLender flat pid s.sid m → is_out k.place pid ≡ false
    → image_numbered images number ≡ Some named → DataFits named.image → length top ≡ 1024
    → Coupled k images image flat → Coupled (change_step (facts_of images) (pass_step k pid m.pid) pid regs e (Exec number top)) images image
    (apply_change images flat pid regs (Exec number top))
exec_back size before k images image flat pid regs e number top named q m s so nums outs due starts f h is out im fit whole c =
    let a : Borrowing k flat pid q m s = borrowing k flat pid q m s c.tables f h is in
    let g : Stepping k flat pid q s = a.step in
    let k1 : Kernel = record k { processes = map (passes s.sid pid m.pid) k.processes } in
    let n : ℕ = flat.next_sid in
    let z : Space = space_with n number named.image top in
    let kp : Proc = record g.proc { regs = regs; life = HoldsSpace n } in
    let fp : Process = record q { regs = regs; holding = Holds z } in
    let mp : Process = record m { holding = Holds s } in
    let b : Back k flat pid q m fp kp s =
    let pids : g.proc.pid ≡ q.pid = g.pid_is ∙ sym g.pid_was in
    back k flat pid q m fp kp s nums c.tables is a refl refl refl
    (outline_is g.proc.pid q.pid g.proc.parent q.parent (HoldsSpace n) (HoldsSpace n) g.proc.asleep q.asleep pids g.parent refl g.asleep) in
    let r1 : List Process = replaced flat.processes fp in
    let after : FlatState = record flat { processes = replaced r1 mp; next_sid = n + 1 } in
    let l : Kernel = exec_kernel k n 0 true number (Some named.image.facts) top (with_proc k1.processes kp) (append k.journal e) in
    let pids : kp.pid ≡ fp.pid = g.pid_is ∙ sym g.pid_was in
    let found : numbered pid_of fp.pid flat.processes ≡ Some q = ap (λ (y : ℕ). numbered pid_of y flat.processes) g.pid_was ∙ g.found in
    let held_here : HeldAt flat.processes fp s = held_at flat.processes q fp s found h nums.sids in
    let apart : n ≢ s.sid = λ i. holds_there flat.processes q.pid q s found h (ap (λ (y : ℕ). numbered sid_of y (held flat.processes)) (sym i) ∙ next_sid_none flat nums) in
    let gain : (numbered sid_of s.sid (spaces_of after) ≡ Some s) × ((y : ℕ) → y ≢ s.sid → numbered sid_of y (spaces_of after) ≡ numbered sid_of y (held r1)) =
    held_gain r1 m mp s b.lender_found (ap space_held is.holding) refl (held_now flat.processes fp s held_here ∙ numbered_miss sid_of s.sid z [] apart) in
    let o : OneOwner size (lives k.processes) k.place before = so.owner in
    let enters : Entering k images flat after n 0 number true named top = record {
      frames = o.frames;
      due = due;
      starts = starts;
      flat_new = next_sid_none flat nums;
      settled = λ i. absurd cc;
      aside = subst (λ (x : Option Image). TextAside (give_up_unless true (enter_image k.place n number x) 0)) (facts_found images number named im)
          (place_change_aside (record { images = (facts_of images); pid = pid; sid = 0; borrowed = true; next_sid = n; at = 0 }) k.place (Exec number top) o.aside (λ i. absurd cc));
      image = im;
      tables = record {
        new = next_new flat k.place nums c.tables.spaces;
        apart = λ i. absurd cc;
        fits = fit;
        whole = whole;
        own = gain.1 n apart ∙ held_new flat.processes fp s n held_here (next_sid_none flat nums) ∙ numbered_hit sid_of n z [] refl;
        other = λ y d _. elim (cases_eq y s.sid) [
          | inl i ↦ ap (λ (x : ℕ). numbered sid_of x (spaces_of after)) i ∙ gain.0 ∙ sym (held_own flat.processes fp s held_here) ∙ ap (λ (x : ℕ). numbered sid_of x (spaces_of flat)) (sym i)
          | inr j ↦ gain.1 y j ∙ held_other flat.processes fp s y held_here j (numbered_miss sid_of y z [] (λ i. d (sym i)))
        ];
        gone = λ i. absurd cc;
      };
    } in
    let core : AllFit after l.place × CouplesPages l.place (beside_kernel l images image after) =
    exec_core k images image flat after n 0 number true named top (with_proc k1.processes kp) (append k.journal e) enters c.tables.spaces c.pages in
    let own_flat : numbered pid_of q.pid after.processes ≡ Some fp = replaced_not r1 mp q.pid (λ i. a.apart (sym i)) ∙ replaced_at flat.processes q fp found in
    let own_kept : numbered kept_pid q.pid l.processes ≡ Some kp =
    ap (λ (y : ℕ). numbered kept_pid y (with_proc k1.processes kp)) (sym pids)
    ∙ with_at k1.processes kp (record g.proc { life = New }) (ap (λ (y : ℕ). numbered kept_pid y k1.processes) g.pid_is ∙ back_proc k flat pid q m s a) in
    let regs_now : (y : ℕ) → RegsAt l image after y = λ y. elim (cases_eq y q.pid) [
      | inl i ↦ subst (RegsAt l image after) (sym i) (regs_in_record l image after q.pid fp kp (ap (is_out k.place) g.pid_was ∙ out) own_flat own_kept refl)
      | inr d ↦ regs_carried k l images image image flat after y c outs (record {
        flat_was = λ x ex. flat_both k flat pid q m fp s y x a b.lender_found d ex is;
        kept_was = λ x ex. kept_passed k.processes s.sid pid m.pid y x (sym (with_not k1.processes kp y (λ i. d (i ∙ pids))) ∙ ex);
        out = refl;
        held_by = λ x t ex hx.
            let not_n : t.sid ≢ n = λ i. holds_there flat.processes y x t ex hx (ap (λ (u : ℕ). numbered sid_of u (held flat.processes)) i ∙ next_sid_none flat nums) in
            let old : numbered space_number t.sid l.place.spaces ≡ numbered space_number t.sid k.place.spaces =
            added_other t.sid k.place.spaces (new_pages n number named.image.facts) (λ i. not_n (sym i)) in
            (refl, ap (λ (w : Option SpacePages). length (data_in w)) old, ap (λ (w : Option SpacePages). length (stack_in w)) old);
      })
    ] in
    subst (λ (x : Kernel). Coupled (change_step (facts_of images) x pid regs e (Exec number top)) images image (apply_change images flat pid regs (Exec number top)))
    (sym (back_kernel k flat pid q m s a))
    (subst (λ (x : Kernel). Coupled x images image (apply_change images flat pid regs (Exec number top)))
    (sym (step_is (facts_of images) k1 pid regs e (Exec number top) (record g.proc { life = New }) New (back_proc k flat pid q m s a) refl))
    (subst (Coupled (by_life (facts_of images) k1 (record g.proc { regs = regs; life = New }) New e (Exec number top)) images image) (sym (applied images flat pid regs (Exec number top) q s f h))
    (image_known images number named (λ (f : Option Image) (o : Option NamedImage). Coupled (exec_kernel k k.next_sid 0 true number f top
    (with_proc k1.processes (record g.proc { regs = regs; life = HoldsSpace k.next_sid })) (append k.journal e)) images image (entered flat (record q { regs = regs }) s number o top)) im
    (subst (λ (y : ℕ). Coupled (exec_kernel k y 0 true number (Some named.image.facts) top (with_proc k1.processes (record g.proc { regs = regs; life = HoldsSpace y })) (append k.journal e)) images
    image (entered flat (record q { regs = regs }) s number (Some named) top)) (sym c.tables.next_sid)
    (subst (λ (xs : List Process). Coupled l images image (record flat { processes = xs; next_sid = n + 1 })) (sym b.returned)
    (coupled_of l images image after (tables_of l after b.outlines c.tables.next_pid refl core.0) core.1 regs_now))))))

-- A process that borrowed its space ends.
pub end_back : (size : ℕ) (k : Kernel) (images : List NamedImage) (image : List ℕ) (flat : FlatState) (pid : ℕ) (regs : Regs) (e : Entry) (status : ℕ)
    (q m : Process) (s : Space)
    → Sound size k
    → IsNumbered flat → OutHold k.place flat → k.place.due ≡ []
    → process_of flat pid ≡ Some q → q.holding ≡ Holds s → IsLender flat pid s.sid m → Coupled k images image flat
    → Coupled (change_step (facts_of images) (pass_step k pid m.pid) pid regs e (End status)) images image (apply_change images flat pid regs (End status))
end_back size k images image flat pid regs e status q m s so nums outs due f h is c =
    let a : Borrowing k flat pid q m s = borrowing k flat pid q m s c.tables f h is in
    let g : Stepping k flat pid q s = a.step in
    let k1 : Kernel = record k { processes = map (passes s.sid pid m.pid) k.processes } in
    let kp : Proc = record g.proc { regs = regs; life = New } in
    let kz : Proc = record kp { life = Ended status } in
    let fp : Process = record q { regs = regs; holding = Zombie status } in
    let mp : Process = record m { holding = Holds s } in
    let pids : kp.pid ≡ q.pid = g.pid_is ∙ sym g.pid_was in
    let b : Back k flat pid q m fp kz s =
    back k flat pid q m fp kz s nums c.tables is a refl refl refl
    (outline_is g.proc.pid q.pid g.proc.parent q.parent (Ended status) (Ended status) g.proc.asleep q.asleep pids g.parent refl g.asleep) in
    let r1 : List Process = replaced flat.processes fp in
    let rs : List Process = replaced r1 mp in
    let after : FlatState = record flat { processes = left_flat (q.parent == 0) (orphans q.pid rs) q.pid q.parent } in
    let l : Kernel = end_kernel k kp.pid 0 true (left_procs (kp.parent == 0) (orphaned_procs k1.processes kp.pid) kp status) (append k.journal e) in
    let found : numbered pid_of fp.pid flat.processes ≡ Some q = ap (λ (y : ℕ). numbered pid_of y flat.processes) g.pid_was ∙ g.found in
    let own_flat : numbered pid_of q.pid rs ≡ Some fp = replaced_not r1 mp q.pid (λ i. a.apart (sym i)) ∙ replaced_at flat.processes q fp found in
    let own_kept : numbered kept_pid kp.pid k1.processes ≡ Some (record g.proc { life = New }) = ap (λ (y : ℕ). numbered kept_pid y k1.processes) g.pid_is ∙ back_proc k flat pid q m s a in
    let distinct_kept : AllDistinct (map kept_pid k1.processes) = subst AllDistinct (sym (passed_pids k.processes ∙ pids_same k.processes flat.processes c.tables.processes)) nums.pids in
    let lonely_kept : kp.parent ≢ kp.pid = λ i. not_own_parent flat pid q nums f (sym g.parent ∙ i ∙ g.pid_is) in
    let outlines : map outline_kept l.processes ≡ map outline_of after.processes =
    ended_outlines k1.processes rs kp (record g.proc { life = New }) status distinct_kept own_kept lonely_kept lonely_kept b.outlines
    ∙ ap (λ (y : ℕ). map outline_of (left_flat (kp.parent == 0) (orphans y rs) y kp.parent)) pids ∙ ap (λ (y : ℕ). map outline_of (left_flat (y == 0) (orphans q.pid rs) q.pid y)) g.parent in
    let spaces : spaces_of after ≡ held rs = end_held (q.parent == 0) rs fp q.pid q.parent b.distinct_both own_flat refl in
    let held_here : HeldAt flat.processes fp s = held_at flat.processes q fp s found h nums.sids in
    let gain : (numbered sid_of s.sid (held rs) ≡ Some s) × ((y : ℕ) → y ≢ s.sid → numbered sid_of y (held rs) ≡ numbered sid_of y (held r1)) =
    held_gain r1 m mp s b.lender_found (ap space_held is.holding) refl (held_now flat.processes fp s held_here) in
    let o : OneOwner size (lives k.processes) k.place k.holdings = so.owner in
    let leaves : Leaving k flat after kp.pid 0 true = record {
      frames = o.frames;
      due = due;
      settled = λ i. absurd cc;
      aside = place_change_aside (record { images = (facts_of images); pid = kp.pid; sid = 0; borrowed = true; next_sid = k.next_sid; at = 0 }) k.place (End status) o.aside (λ i. absurd cc);
      tables = record {
        other = λ y _. ap (numbered sid_of y) spaces ∙ elim (cases_eq y s.sid) [
          | inl i ↦ ap (λ (x : ℕ). numbered sid_of x (held rs)) i ∙ gain.0 ∙ sym (held_own flat.processes fp s held_here) ∙ ap (λ (x : ℕ). numbered sid_of x (spaces_of flat)) (sym i)
          | inr j ↦ gain.1 y j ∙ held_other flat.processes fp s y held_here j refl
        ];
        gone = λ i. absurd cc;
      };
    } in
    let core : AllFit after l.place × CouplesPages l.place (beside_kernel l images image after) =
    end_core k images image flat after kp.pid 0 true (left_procs (kp.parent == 0) (orphaned_procs k1.processes kp.pid) kp status) (append k.journal e) leaves c.tables.spaces c.pages in
    let regs_now : (y : ℕ) → RegsAt l image after y = λ y.
    let u_number : (i j : ℕ) → owners.U i ≡ owners.U j → i ≡ j = λ i j t. cc in
    elim (cases_eq y kp.pid) [
      | inl i ↦ λ x v ex ev.
          let w : WasFlat rs y x = end_was (q.parent == 0) rs q.pid q.parent y x b.distinct_both ex in
          let u : WasKept k1.processes kp y v = end_kept (kp.parent == 0) k1.processes kp status y v distinct_kept ev in
          let same : w.before ≡ fp = same_Some w.before fp (sym w.found ∙ ap (λ (t : ℕ). numbered pid_of t rs) (i ∙ pids) ∙ own_flat) in
          subst (λ (t : Bool). KeepsRegs l image t x v.regs (space_of_holding x.holding)) (sym (ap (is_out l.place) i ∙ out_gone k.place.residents kp.pid))
          (u.own i ∙ ap (λ (t : Process). t.regs) (sym same) ∙ sym w.regs)
      | inr d ↦ regs_carried k l images image image flat after y c outs (record {
        flat_was = λ x ex. let w : WasFlat rs y x = end_was (q.parent == 0) rs q.pid q.parent y x b.distinct_both ex in
            let t = flat_both k flat pid q m fp s y w.before a b.lender_found (λ i. d (i ∙ sym pids)) w.found is in
            (t.0, t.1, w.regs ∙ t.2, ap space_of_holding w.holding ∙ t.3);
        kept_was = λ x ex. let u : WasKept k1.processes kp y x = end_kept (kp.parent == 0) k1.processes kp status y x distinct_kept ex in
            let v = u.other d in
            let t = kept_passed k.processes s.sid pid m.pid y v.0 v.1 in
            (t.0, t.1, v.2 ∙ t.2);
        out = out_ended k.place.residents kp.pid y d;
        held_by = λ x t ex hx. (ap (stored_at image) (block_kept (owners.U kp.pid) (owners.U y) 0 0 k.holdings (λ i. absurd (d (u_number y kp.pid (sym i))))), refl, refl);
      })
    ] in
    subst (λ (x : Kernel). Coupled (change_step (facts_of images) x pid regs e (End status)) images image (apply_change images flat pid regs (End status))) (sym (back_kernel k flat pid q m s a))
    (subst (λ (x : Kernel). Coupled x images image (apply_change images flat pid regs (End status)))
    (sym (step_is (facts_of images) k1 pid regs e (End status) (record g.proc { life = New }) New (back_proc k flat pid q m s a) refl))
    (subst (Coupled (by_life (facts_of images) k1 kp New e (End status)) images image) (sym (applied images flat pid regs (End status) q s f h))
    (subst (Coupled l images image) (sym (left_is (q.parent == 0) (orphaned (Rattle.flat_state.specs.Change.given_back (with_process flat fp) q.pid s) q.pid) q.pid q.parent))
    (subst (λ (xs : List Process). Coupled l images image (record flat { processes = left_flat (q.parent == 0) (orphans q.pid xs) q.pid q.parent })) (sym b.returned)
    (coupled_of l images image after (tables_of l after outlines c.tables.next_pid c.tables.next_sid core.0) core.1 regs_now)))))
  where
    passed_pids : (ks : List Proc) → map kept_pid (map (passes s.sid pid m.pid) ks) ≡ map kept_pid ks
    passed_pids [] = refl
    passed_pids (x ∷ ks) = ap (λ (y : List ℕ). x.pid ∷ y) (passed_pids ks)
