-- The lines of a machine that stands at a state of a run are those of the state.
use Rattle.std.proofs.Common.{◌≡◌, ℕ, ◌==◌, Bool, true, false, cond, List, [], ◌∷◌, ◌++◌, length, map, Option, Some, None, refl, sym, ap, ap₂, ◌∙◌, subst}
use Rattle.std.specs.Prelude.{codes}
use Rattle.std.specs.List.{flat_map}
use Rattle.std.proofs.lemmas.Bool.{ne_eqb}
use Rattle.vm_facts.specs.declared.regs.Regs.{Regs}
use Rattle.vm_facts.proofs.Tests.{eq_self}
use Rattle.flat_state.specs.Flat.{Inputs, Process}
use Rattle.flat_state.specs.Numbers.{AllDistinct}
use Rattle.page_model.specs.Holdings.{Holdings}
use Rattle.page_model.specs.Pages.{numbered}
use Rattle.page_model.specs.Place.{space_of_holding}
use Rattle.page_model.specs.Placement.{Placement}
use Rattle.page_model.specs.Swapper.{is_out}
use Rattle.kernel_model.specs.Kernel.{Kernel, Proc, Life, New, HoldsSpace, LendsSpace, Ended, life_of}
use Rattle.kernel_model.specs.Coupled.{Outline, outline_of, outline_kept, KeepsRegs}
use Rattle.kernel_model.specs.Start.{kept_of}
use Rattle.run_laws.proofs.Numbered.{absent_none}
use Rattle.machine_state.specs.Machine.{Standing}
use Rattle.run_model.specs.State.{State}
use Rattle.run_text.specs.Text.{parts}
use Rattle.run_laws.proofs.Lists.{pid_of}
use Rattle.run_laws.proofs.Tables.{kept_pid}
use Rattle.owner_lines.specs.Owners.{life_text, registers_text, process_line, process_lines, entries_line, hands_line, frame_lines, transfers_from, due_line, swap_lines, owners_text, owners_lines}
use Rattle.owner_lines.specs.Account.{text_at, IsMachineAt}

-- the record of each process that is in has its registers
abbrev Registered : Placement → List Proc → List Process → Type 0
Registered p ks qs =
    (q : Process) (k : Proc) → numbered pid_of q.pid qs ≡ Some q → numbered kept_pid q.pid ks ≡ Some k → is_out p q.pid ≡ false → k.regs ≡ q.regs

abbrev tail_of : {A : Type 0} → List A → List A
tail_of [] = []
tail_of (x ∷ xs) = xs

abbrev head_or : {A : Type 0} → A → List A → A
head_or d [] = d
head_or d (x ∷ xs) = x

found_head : {A : Type 0} (number : A → ℕ) (x : A) (xs : List A) (n : ℕ) → number x ≡ n → numbered number n (x ∷ xs) ≡ Some x
found_head number x xs n e = ap (λ (b : Bool). cond b (Some x) (numbered number n xs)) (ap (λ (m : ℕ). m == n) e ∙ eq_self n)

found_tail : {A : Type 0} (number : A → ℕ) (x : A) (xs : List A) (n : ℕ) → (number x ≡ n → ⊥) → numbered number n (x ∷ xs) ≡ numbered number n xs
found_tail number x xs n d = ap (λ (b : Bool). cond b (Some x) (numbered number n xs)) (ne_eqb (number x) n d)

-- registers that are one, unless the process is out
said : (out : Bool) (pid : ℕ) (regs other : Regs) (life : Life) → (out ≡ false → regs ≡ other)
    → registers_text out pid regs life ≡ registers_text out pid other life
said true pid regs other life same = go life
  where
    go : (l : Life) → registers_text true pid regs l ≡ registers_text true pid other l
    go New = refl
    go (HoldsSpace sid) = refl
    go (LendsSpace sid child) = refl
    go (Ended status) = refl
said false pid regs other life same = ap (λ (x : Regs). registers_text false pid x life) (same refl)

-- a record and a process with one outline have the same lines
one_process : (p : Placement) (k : Proc) (q : Process) → outline_kept k ≡ outline_of q → (is_out p q.pid ≡ false → k.regs ≡ q.regs)
    → process_lines p k ≡ process_lines p (kept_of q)
one_process p k q same regs =
    ap (λ (o : Outline). codes "process" ++ parts (o.pid ∷ []) ++ life_text (is_out p o.pid) o.asleep o.life ++ codes "\n" ++ registers_text (is_out p o.pid) o.pid k.regs o.life) same
    ∙ ap (λ (t : List ℕ). process_line p (kept_of q) ++ t) (said (is_out p q.pid) q.pid k.regs q.regs (life_of q.holding) regs)

all_processes : (p : Placement) (ks : List Proc) (qs : List Process) → map outline_kept ks ≡ map outline_of qs
    → AllDistinct (map kept_pid ks) → Registered p ks qs
    → flat_map (process_lines p) ks ≡ flat_map (process_lines p) (map kept_of qs)
all_processes p [] [] same distinct regs = refl
all_processes p [] (q ∷ qs) same distinct regs = absurd cc
all_processes p (k ∷ ks) [] same distinct regs = absurd cc
all_processes p (k ∷ ks) (q ∷ qs) same distinct regs =
    ap₂ ◌++◌ (one_process p k q first (λ h. regs q k (found_head pid_of q qs q.pid refl) (found_head kept_pid k ks q.pid pid) h))
    (all_processes p ks qs (ap tail_of same) distinct.1 rest)
  where
    first : outline_kept k ≡ outline_of q
    first = ap (head_or (outline_kept k)) same

    pid : k.pid ≡ q.pid
    pid = ap (λ (o : Outline). o.pid) first

    other : (n : ℕ) (x : Proc) → numbered kept_pid n ks ≡ Some x → k.pid ≡ n → ⊥
    other n x e h = absurd (let none : numbered kept_pid n ks ≡ None = subst (λ (m : ℕ). numbered kept_pid m ks ≡ None) h (absent_none kept_pid k.pid ks distinct.0) in cc)

    rest : Registered p ks qs
    rest z x a b h =
        regs z x (found_tail pid_of q qs z.pid (λ e. other z.pid x b (pid ∙ e)) ∙ a) (found_tail kept_pid k ks z.pid (other z.pid x b) ∙ b) h

same_all : {P H X Y : Type 0} (f : P → H → ℕ → X → Y) (p p' : P) (hs hs' : H) (size size' : ℕ) (x x' : X) → p ≡ p' → hs ≡ hs' → size ≡ size' → x ≡ x'
    → f p hs size x ≡ f p' hs' size' x'
same_all f p p' hs hs' size size' x x' place holdings sizes texts = cc

-- the text, by what the lines of its processes are
abbrev text_with : ℕ → Bool → Placement → Holdings → ℕ → List ℕ → List ℕ
text_with entries over p hs size processes =
    entries_line entries over ++ hands_line p ++ frame_lines p
    ++ transfers_from hs 1 p.transfers ++ processes
    ++ flat_map due_line p.due ++ swap_lines size hs

spelled : (entries : ℕ) (over : Bool) (p : Placement) (hs : Holdings) (size : ℕ) (ks : List Proc)
    → owners_text entries over p hs size ks ≡ text_with entries over p hs size (flat_map (process_lines p) ks)
unfolding owners_text
spelled entries over p hs size ks = refl

pub machine_told : (A : Inputs) (s : State) (m : Standing) (over : Bool) → IsMachineAt A s m → owners_lines m over ≡ text_at A (length m.kernel.journal) over s
machine_told A s m over is =
    let at = is.at in
    let keeps = at.keeps in
    let n = length m.kernel.journal in
    let ks = m.kernel.processes in
    let qs = s.point.flat.processes in
    let regs : Registered m.kernel.place ks qs = λ q k a b h. in_record m.kernel is.image q k.regs (space_of_holding q.holding) (is_out m.kernel.place q.pid) h (keeps.coupled.regs q k a b) in
    let lines : flat_map (process_lines m.kernel.place) ks ≡ flat_map (process_lines s.place) (map kept_of qs)
    = all_processes m.kernel.place ks qs keeps.coupled.tables.processes keeps.numbered.pids_differ regs
    ∙ ap (λ (p : Placement). flat_map (process_lines p) (map kept_of qs)) at.place in
    spelled n over m.kernel.place m.before m.params.swap_blocks ks
    ∙ same_all (text_with n over) m.kernel.place s.place m.before s.holdings m.params.swap_blocks A.swap_blocks
    (flat_map (process_lines m.kernel.place) ks) (flat_map (process_lines s.place) (map kept_of qs)) at.place (is.whole ∙ at.holdings) is.size lines
    ∙ sym (spelled n over s.place s.holdings A.swap_blocks (map kept_of qs))
  where
    in_record : (k : Kernel) (image : List ℕ) (q : Process) (kept : Regs) (sid : ℕ) (out : Bool) → out ≡ false → KeepsRegs k image out q kept sid → kept ≡ q.regs
    in_record k image q kept sid true h r = absurd cc
    in_record k image q kept sid false h r = r
