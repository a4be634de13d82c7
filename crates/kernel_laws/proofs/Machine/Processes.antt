-- The tables of processes, of the machine and of the flat state, through the changes of processes.
use Rattle.std.proofs.Common.{◌≡◌, ◌≢◌, inl, inr, ℕ, ◌<◌, ◌==◌, Bool, true, false, cond, not, List, [], ◌∷◌, ◌++◌, map, filter, length, Option, Some, None, refl, sym, ap, ◌∙◌, subst, arith}
use Rattle.std.proofs.lemmas.Bool.{cases_eq, ne_eqb}
use Rattle.flat_state.specs.Space.{Space}
use Rattle.flat_state.specs.Flat.{Holding, Holds, Lends, Zombie, Process, FlatState, NamedImage, process_of, holds_space, space_held}
use Rattle.vm_facts.specs.declared.regs.Regs.{Regs}
use Rattle.vm_facts.specs.declared.entry.Entry.{Entry}
use Rattle.flat_state.specs.declared.change.Change.{Change}
use Rattle.flat_state.specs.Change.{replaced, replaced_by}
use Rattle.flat_state.specs.Journal.{append}
use Rattle.page_model.specs.Pages.{numbered}
use Rattle.vm_facts.specs.declared.page.Page.TheVariants.{Data, Stack}
use Rattle.page_model.specs.Placement.{Placement, slots_of}
use Rattle.page_model.specs.Place.{Changing, place_change, space_of_holding}
use Rattle.page_model.specs.Swapper.{is_out}
use Rattle.flat_state.specs.Numbers.{IsAbsent, AllDistinct, AllLower, IsNumbered}
use Rattle.kernel_model.specs.Stands.{OutHold, holds_some}
use Rattle.kernel_model.specs.Kernel.{Kernel, Proc, Life, HoldsSpace, life_of}
use Rattle.kernel_model.specs.Coupled.{KeepsRegs, Outline, outline_kept, outline_of, Coupled, SameTables}
use Rattle.kernel_model.specs.ChangeStep.{with_proc, procs_after, pid_after, sid_after, holdings_after, starts_with, space_of_life, gave_back, change_if, change_step}
use Rattle.page_laws.proofs.Lists.Pages.{mapped, numbered_hit, numbered_miss}
use Rattle.page_laws.proofs.Lists.Local.{none_some}
use Rattle.std.proofs.lemmas.Option.{same_Some}
use Rattle.kernel_laws.proofs.Sound.Changes.{with_number}
use Rattle.kernel_laws.proofs.Flat.Numbered.{has_number, numbered_map, numbered_append, or_else, absent_none}
use Rattle.vm_facts.proofs.Tests.{eq_self}
use Rattle.kernel_laws.proofs.Flat.Lists.{pid_of, sid_of, held, found_is, held_at, held_now, replaced_not, HeldAt}
use Rattle.kernel_laws.proofs.Machine.Tables.{kept_pid, kept_at, outline_at, RegsAt, regs_at, regs_carry}
use Rattle.kernel_laws.proofs.Machine.Moves.{u_stored}
use Rattle.kernel_laws.proofs.Machine.Swaps.{found_at}
use Rattle.aout_image.specs.declared.Image.{Image}

-- One process of the machine gives way to another.

pub with_at : (ks : List Proc) (p q : Proc) → numbered kept_pid p.pid ks ≡ Some q → numbered kept_pid p.pid (with_proc ks p) ≡ Some p
with_at ks p q e =
    numbered_map kept_pid (λ (x : Proc). cond (x.pid == p.pid) p x) (with_number p) p.pid ks ∙ ap (mapped (λ (x : Proc). cond (x.pid == p.pid) p x)) e
    ∙ ap (λ (b : Bool). Some (cond b p q)) (ap (λ (n : ℕ). n == p.pid) (has_number kept_pid p.pid ks q e) ∙ eq_self p.pid)

pub with_not : (ks : List Proc) (p : Proc) (n : ℕ) → n ≢ p.pid → numbered kept_pid n (with_proc ks p) ≡ numbered kept_pid n ks
with_not ks p n d = numbered_map kept_pid (λ (x : Proc). cond (x.pid == p.pid) p x) (with_number p) n ks ∙ go (numbered kept_pid n ks) refl
  where
    go : (o : Option Proc) → numbered kept_pid n ks ≡ o → mapped (λ (x : Proc). cond (x.pid == p.pid) p x) o ≡ o
    go None e = refl
    go (Some x) e = ap (λ (b : Bool). Some (cond b p x)) (ne_eqb x.pid p.pid (λ h. d (sym (has_number kept_pid n ks x e) ∙ h)))

absent_with : (ks : List Proc) (p : Proc) → IsAbsent p.pid (map kept_pid ks) → with_proc ks p ≡ ks
absent_with [] p a = refl
absent_with (x ∷ ks) p a = ap (λ (b : Bool). cond b p x ∷ with_proc ks p) (ne_eqb x.pid p.pid a.0) ∙ ap (λ (l : List Proc). x ∷ l) (absent_with ks p a.1)

pub pids_same : (ks : List Proc) (fs : List Process) → map outline_kept ks ≡ map outline_of fs → map kept_pid ks ≡ map pid_of fs
pids_same ks fs e = sym (kept_pids ks) ∙ ap (map (λ (o : Outline). o.pid)) e ∙ flat_pids fs
  where
    kept_pids : (ks : List Proc) → map (λ (o : Outline). o.pid) (map outline_kept ks) ≡ map kept_pid ks
    kept_pids [] = refl
    kept_pids (x ∷ ks) = ap (λ (l : List ℕ). x.pid ∷ l) (kept_pids ks)

    flat_pids : (fs : List Process) → map (λ (o : Outline). o.pid) (map outline_of fs) ≡ map pid_of fs
    flat_pids [] = refl
    flat_pids (x ∷ fs) = ap (λ (l : List ℕ). x.pid ∷ l) (flat_pids fs)

pub first_same : (x y : Outline) (xs ys : List Outline) → x ∷ xs ≡ y ∷ ys → (x ≡ y) × (xs ≡ ys)
first_same x y xs ys e = (cc, cc)

-- both tables have the new process in the place of the old one
pub with_replaced : (ks : List Proc) (fs : List Process) (p : Proc) (q : Process) → map outline_kept ks ≡ map outline_of fs
    → AllDistinct (map pid_of fs) → outline_kept p ≡ outline_of q
    → map outline_kept (with_proc ks p) ≡ map outline_of (replaced fs q)
unfolding replaced
with_replaced [] [] p q e d h = refl
with_replaced [] (f ∷ fs) p q e d h = absurd cc
with_replaced (k ∷ ks) [] p q e d h = absurd cc
with_replaced (k ∷ ks) (f ∷ fs) p q e d h =
    let a = first_same (outline_kept k) (outline_of f) (map outline_kept ks) (map outline_of fs) e in
    let pq : p.pid ≡ q.pid = ap (λ (o : Outline). o.pid) h in
    let kf : k.pid ≡ f.pid = ap (λ (o : Outline). o.pid) a.0 in
    elim (cases_eq f.pid q.pid) [
      | inl s ↦ (let rest : with_proc ks p ≡ ks = absent_with ks p (subst (IsAbsent p.pid) (sym (pids_same ks fs a.1)) (subst (λ (n : ℕ). IsAbsent n (map pid_of fs)) (s ∙ sym pq) d.0)) in
          ap (λ (b : Bool). outline_kept (cond b p k) ∷ map outline_kept (with_proc ks p)) (ap (λ (n : ℕ). n == p.pid) (kf ∙ s ∙ sym pq) ∙ eq_self p.pid)
          ∙ ap (λ (l : List Proc). outline_kept p ∷ map outline_kept l) rest ∙ ap (λ (l : List Outline). outline_kept p ∷ l) a.1 ∙ ap (λ (o : Outline). o ∷ map outline_of fs) h
          ∙ sym (ap (λ (b : Bool). map outline_of (replaced_by b q f fs (replaced fs q))) (ap (λ (n : ℕ). n == q.pid) s ∙ eq_self q.pid)))
      | inr n ↦ ap (λ (b : Bool). outline_kept (cond b p k) ∷ map outline_kept (with_proc ks p)) (ne_eqb k.pid p.pid (λ g. n (sym kf ∙ g ∙ pq)))
          ∙ ap (λ (l : List Outline). outline_kept k ∷ l) (with_replaced ks fs p q a.1 d.1 h) ∙ ap (λ (o : Outline). o ∷ map outline_of (replaced fs q)) a.0
          ∙ sym (ap (λ (b : Bool). map outline_of (replaced_by b q f fs (replaced fs q))) (ne_eqb f.pid q.pid n))
    ]

-- A process that goes.

pub removed_outlines : (ks : List Proc) (fs : List Process) (n : ℕ) → map outline_kept ks ≡ map outline_of fs
    → map outline_kept (filter (λ (x : Proc). not (x.pid == n)) ks) ≡ map outline_of (filter (λ (x : Process). not (x.pid == n)) fs)
removed_outlines [] [] n e = refl
removed_outlines [] (f ∷ fs) n e = absurd cc
removed_outlines (k ∷ ks) [] n e = absurd cc
removed_outlines (k ∷ ks) (f ∷ fs) n e =
    let a = first_same (outline_kept k) (outline_of f) (map outline_kept ks) (map outline_of fs) e in
    ap (λ (m : ℕ). map outline_kept (cond (not (m == n)) (k ∷ filter (λ (x : Proc). not (x.pid == n)) ks) (filter (λ (x : Proc). not (x.pid == n)) ks))) (ap (λ (o : Outline). o.pid) a.0)
    ∙ go (f.pid == n) a.0 (removed_outlines ks fs n a.1)
  where
    go : (b : Bool) → outline_kept k ≡ outline_of f → map outline_kept (filter (λ (x : Proc). not (x.pid == n)) ks) ≡ map outline_of (filter (λ (x : Process). not (x.pid == n)) fs)
        → map outline_kept (cond (not b) (k ∷ filter (λ (x : Proc). not (x.pid == n)) ks) (filter (λ (x : Proc). not (x.pid == n)) ks))
        ≡ map outline_of (cond (not b) (f ∷ filter (λ (x : Process). not (x.pid == n)) fs) (filter (λ (x : Process). not (x.pid == n)) fs))
    go true h ih = ih
    go false h ih = ap (λ (o : Outline). o ∷ map outline_kept (filter (λ (x : Proc). not (x.pid == n)) ks)) h ∙ ap (λ (l : List Outline). outline_of f ∷ l) ih

-- what a filter leaves has the spaces, where those that go have none
pub held_filter : (test : Process → Bool) (ps : List Process) → AllDistinct (map pid_of ps)
    → ((x : Process) → numbered pid_of x.pid ps ≡ Some x → test x ≡ false → space_held x.holding ≡ []) → held (filter test ps) ≡ held ps
held_filter test [] d h = refl
held_filter test (p ∷ ps) d h = go (test p) refl (held_filter test ps d.1 (λ x e t. h x (later x e) t))
  where
    later : (x : Process) → numbered pid_of x.pid ps ≡ Some x → numbered pid_of x.pid (p ∷ ps) ≡ Some x
    later x e = numbered_miss pid_of x.pid p ps (λ s. none_some x (sym (absent_none pid_of x.pid ps (subst (λ (n : ℕ). IsAbsent n (map pid_of ps)) s d.0)) ∙ e)) ∙ e

    go : (b : Bool) → test p ≡ b → held (filter test ps) ≡ held ps → held (cond b (p ∷ filter test ps) (filter test ps)) ≡ held (p ∷ ps)
    go true e ih = ap (λ (l : List Space). space_held p.holding ++ l) ih
    go false e ih = ih ∙ ap (λ (l : List Space). l ++ held ps) (sym (h p (numbered_hit pid_of p.pid p ps refl) e))

distinct_absent : {A : Type 0} (number : A → ℕ) (n : ℕ) (test : A → Bool) (xs : List A) → IsAbsent n (map number xs) → IsAbsent n (map number (filter test xs))
distinct_absent number n test [] a = tt
distinct_absent number n test (x ∷ xs) a = go (test x) (distinct_absent number n test xs a.1)
  where
    go : (b : Bool) → IsAbsent n (map number (filter test xs)) → IsAbsent n (map number (cond b (x ∷ filter test xs) (filter test xs)))
    go true ih = (a.0, ih)
    go false ih = ih

pub distinct_filter : {A : Type 0} (number : A → ℕ) (test : A → Bool) (xs : List A) → AllDistinct (map number xs) → AllDistinct (map number (filter test xs))
distinct_filter number test [] d = tt
distinct_filter number test (x ∷ xs) d = go (test x) (distinct_filter number test xs d.1)
  where
    go : (b : Bool) → AllDistinct (map number (filter test xs)) → AllDistinct (map number (cond b (x ∷ filter test xs) (filter test xs)))
    go true ih = (distinct_absent number (number x) test xs d.0, ih)
    go false ih = ih

-- Who holds what.

-- a space that a process holds is there
pub holds_there : (ps : List Process) (n : ℕ) (q : Process) (s : Space) → numbered pid_of n ps ≡ Some q → q.holding ≡ Holds s
    → numbered sid_of s.sid (held ps) ≡ None → ⊥
holds_there [] n q s e h z = none_some q e
holds_there (p ∷ ps) n q s e h z = elim (cases_eq p.pid n) [
  | inl i ↦ (let same : p ≡ q = same_Some p q (sym (numbered_hit pid_of n p ps i) ∙ e) in
      let k : numbered sid_of s.sid (s ∷ held ps) ≡ None = subst (λ (x : Holding). numbered sid_of s.sid (space_held x ++ held ps) ≡ None) (ap (λ (x : Process). x.holding) same ∙ h) z in
      let j : None ≡ Some s = sym k ∙ numbered_hit sid_of s.sid s (held ps) refl in cc)
  | inr d ↦ holds_there ps n q s (sym (numbered_miss pid_of n p ps d) ∙ e) h
      (second (numbered sid_of s.sid (space_held p.holding)) (numbered sid_of s.sid (held ps)) (sym (numbered_append sid_of s.sid (space_held p.holding) (held ps)) ∙ z))
]
  where
    second : (o r : Option Space) → or_else o r ≡ None → r ≡ None
    second None r h = h
    second (Some x) r h = absurd cc

-- two processes hold different spaces
pub other_space : (flat : FlatState) (m n : ℕ) (p q : Process) (s t : Space) → IsNumbered flat → m ≢ n → numbered pid_of m flat.processes ≡ Some p
    → numbered pid_of n flat.processes ≡ Some q
    → p.holding ≡ Holds s → q.holding ≡ Holds t → t.sid ≢ s.sid
other_space flat m n p q s t nums d ep eq hp hq same =
    let gone : Process = record p { holding = Zombie 0 } in
    let i : p.pid ≡ m = has_number pid_of m flat.processes p ep in
    let f : numbered pid_of gone.pid flat.processes ≡ Some p = ap (λ (x : ℕ). numbered pid_of x flat.processes) i ∙ ep in
    let a : HeldAt flat.processes gone s = held_at flat.processes p gone s f hp nums.sids in
    holds_there (replaced flat.processes gone) n q t (replaced_not flat.processes gone n (λ h. d (sym i ∙ sym h)) ∙ eq) hq
    (ap (λ (x : ℕ). numbered sid_of x (held (replaced flat.processes gone))) same ∙ held_now flat.processes gone s a)

-- who is out holds a space
pub out_space : (p : Placement) (flat : FlatState) (n : ℕ) (q : Process) → OutHold p flat → is_out p n ≡ true
    → numbered pid_of n flat.processes ≡ Some q → (s : Space) × (q.holding ≡ Holds s)
out_space p flat n q o e h = go q.holding refl (sym (ap holds_some (found_is flat.processes n ∙ h)) ∙ o n e)
  where
    go : (x : Holding) → q.holding ≡ x → holds_space q.holding ≡ true → (s : Space) × (q.holding ≡ Holds s)
    go (Holds s) i t = (s, i)
    go (Lends sid child) i t = absurd (let j : false ≡ true = sym (ap holds_space i) ∙ t in cc)
    go (Zombie status) i t = absurd (let j : false ≡ true = sym (ap holds_space i) ∙ t in cc)

-- a parent is lower
pub lower_at : (ps : List Process) (n : ℕ) (q : Process) → AllLower ps → numbered pid_of n ps ≡ Some q → q.parent < q.pid
lower_at [] n q l e = none_some q e
lower_at (p ∷ ps) n q l e = elim (cases_eq p.pid n) [
  | inl i ↦ subst (λ (x : Process). x.parent < x.pid) (same_Some p q (sym (numbered_hit pid_of n p ps i) ∙ e)) l.0
  | inr d ↦ lower_at ps n q l.1 (sym (numbered_miss pid_of n p ps d) ∙ e)
]

-- no process is its own parent
pub not_own_parent : (flat : FlatState) (pid : ℕ) (q : Process) → IsNumbered flat → process_of flat pid ≡ Some q → q.parent ≢ pid
not_own_parent flat pid q n e i = absurd (let f = found_at flat pid q e in let l = lower_at flat.processes pid q n.parents f.1 in let y = f.0 in omega arith)

-- A step of a process that holds a space.

-- the process of the machine, which holds the space too
pub record Stepping (k : Kernel) (flat : FlatState) (pid : ℕ) (q : Process) (s : Space) : Type 0 where
  pub proc : Proc
  pub kept : numbered kept_pid pid k.processes ≡ Some proc
  pub found : numbered pid_of pid flat.processes ≡ Some q
  pub pid_is : proc.pid ≡ pid
  pub pid_was : q.pid ≡ pid
  pub parent : proc.parent ≡ q.parent
  pub life : proc.life ≡ HoldsSpace s.sid
  pub asleep : proc.asleep ≡ q.asleep

pub stepping : (k : Kernel) (flat : FlatState) (pid : ℕ) (q : Process) (s : Space) → SameTables k flat → process_of flat pid ≡ Some q
    → q.holding ≡ Holds s → Stepping k flat pid q s
stepping k flat pid q s t e h =
    let f = found_at flat pid q e in
    let p : (p : Proc) × (numbered kept_pid pid k.processes ≡ Some p) = kept_at k.processes flat.processes t.processes pid q f.1 in
    let o : outline_kept p.0 ≡ outline_of q = outline_at k.processes flat.processes t.processes pid p.0 q p.1 f.1 in
    record {
      proc = p.0;
      kept = p.1;
      found = f.1;
      pid_is = has_number kept_pid pid k.processes p.0 p.1;
      pid_was = f.0;
      parent = ap (λ (x : Outline). x.parent) o;
      life = ap (λ (x : Outline). x.life) o ∙ ap life_of h;
      asleep = ap (λ (x : Outline). x.asleep) o;
    }

-- what a change goes by, of the process of this number with this space
abbrev pub changing_with : List Image → Kernel → ℕ → ℕ → Bool → Entry → Changing
changing_with images k pid sid borrowed e = record {
  images = images;
  pid = pid;
  sid = sid;
  borrowed = borrowed;
  next_sid = k.next_sid;
  at = Rattle.std.specs.Prelude.length (append k.journal e);
}

-- the step, by what the process has
abbrev pub by_life : List Image → Kernel → Proc → Life → Entry → Change → Kernel
by_life images k p life e change =
    let c = changing_with images k p.pid (space_of_life life) (gave_back life) e in
    let place = place_change c k.place change in
    record k {
      place = place;
      holdings = holdings_after c k.holdings k.place place change;
      processes = procs_after k.processes p k.next_sid change;
      next_pid = pid_after k.next_pid change;
      next_sid = sid_after k.next_sid change;
      starts = starts_with k.starts k.next_sid change;
      journal = append k.journal e;
    }

pub step_is : (images : List Image) (k : Kernel) (pid : ℕ) (regs : Regs) (e : Entry) (change : Change) (p : Proc) (life : Life)
    → numbered kept_pid pid k.processes ≡ Some p → p.life ≡ life
    → change_step images k pid regs e change ≡ by_life images k (record p { regs = regs }) life e change
step_is images k pid regs e change p life h l = ap (change_if images k regs e change) h ∙ ap (λ (x : Life). by_life images k (record p { regs = regs }) x e change) l

-- Registers.

-- what is known of a process that the step leaves: it has the registers that it had, and where it is out so has its u
-- page
pub record Carries (k l : Kernel) (image after : List ℕ) (flat flat2 : FlatState) (n : ℕ) : Type 0 where
  pub flat_was : (a : Process) → numbered pid_of n flat2.processes ≡ Some a
      → (x : Process) × (numbered pid_of n flat.processes ≡ Some x) × (a.regs ≡ x.regs) × (space_of_holding a.holding ≡ space_of_holding x.holding)
  pub kept_was : (b : Proc) → numbered kept_pid n l.processes ≡ Some b → (y : Proc) × (numbered kept_pid n k.processes ≡ Some y) × (b.regs ≡ y.regs)
  pub out : is_out l.place n ≡ is_out k.place n
  pub held_by : (x : Process) (t : Space) → numbered pid_of n flat.processes ≡ Some x → x.holding ≡ Holds t
      → (u_stored l after n ≡ u_stored k image n) × (length (slots_of l.place (Data t.sid 0)) ≡ length (slots_of k.place (Data t.sid 0)))
      × (length (slots_of l.place (Stack t.sid 0)) ≡ length (slots_of k.place (Stack t.sid 0)))

pub regs_carried : (k l : Kernel) (images : List NamedImage) (image after : List ℕ) (flat flat2 : FlatState) (n : ℕ) → Coupled k images image flat
    → OutHold k.place flat → Carries k l image after flat flat2 n → RegsAt l after flat2 n
regs_carried k l images image after flat flat2 n c o r a b ea eb =
    let x : (x : Process) × (numbered pid_of n flat.processes ≡ Some x) × (a.regs ≡ x.regs) × (space_of_holding a.holding ≡ space_of_holding x.holding) = r.flat_was a ea in
    let y : (y : Proc) × (numbered kept_pid n k.processes ≡ Some y) × (b.regs ≡ y.regs) = r.kept_was b eb in
    subst (λ (z : Bool). KeepsRegs l after z a b.regs (space_of_holding a.holding)) (sym r.out)
    (regs_carry k l image after (is_out k.place n) x.0 a y.0.regs b.regs (space_of_holding x.0.holding) (space_of_holding a.holding) x.2 y.2
    (λ e. let t : (s : Space) × (x.0.holding ≡ Holds s) = out_space k.place flat n x.0 o e x.1 in
    let s : space_of_holding x.0.holding ≡ t.0.sid = ap space_of_holding t.1 in
    let u = r.held_by x.0 t.0 x.1 t.1 in (
      ap (λ (m : ℕ). u_stored l after m) (has_number pid_of n flat2.processes a ea) ∙ u.0 ∙ ap (λ (m : ℕ). u_stored k image m) (sym (has_number pid_of n flat.processes x.0 x.1)),
      ap (λ (m : ℕ). length (slots_of l.place (Data m 0))) (x.3 ∙ s) ∙ u.1 ∙ ap (λ (m : ℕ). length (slots_of k.place (Data m 0))) (sym s),
      ap (λ (m : ℕ). length (slots_of l.place (Stack m 0))) (x.3 ∙ s) ∙ u.2 ∙ ap (λ (m : ℕ). length (slots_of k.place (Stack m 0))) (sym s),
    ))
    (regs_at k images image flat c n x.0 y.0 x.1 y.1))

-- a process that is in has its registers in its record
pub regs_in_record : (l : Kernel) (after : List ℕ) (flat2 : FlatState) (n : ℕ) (fp : Process) (kp : Proc) → is_out l.place n ≡ false
    → numbered pid_of n flat2.processes ≡ Some fp
    → numbered kept_pid n l.processes ≡ Some kp → kp.regs ≡ fp.regs → RegsAt l after flat2 n
regs_in_record l after flat2 n fp kp out ef ek r a b ea eb = subst (λ (z : Bool). KeepsRegs l after z a b.regs (space_of_holding a.holding)) (sym out)
    (ap (λ (x : Proc). x.regs) (same_Some b kp (sym eb ∙ ek)) ∙ r ∙ ap (λ (x : Process). x.regs) (same_Some fp a (sym ef ∙ ea)))
