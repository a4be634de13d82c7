-- The tables and the registers of a coupled machine, one space and one process at a time.
use Rattle.std.proofs.Common.{◌≡◌, ℕ, Bool, List, length, map, Option, Some, None, true, false, refl, sym, ap, ◌∙◌, subst}
use Rattle.flat_state.specs.Space.{Space}
use Rattle.flat_state.specs.Flat.{Holding, Holds, Process, FlatState, NamedImage}
use Rattle.vm_facts.specs.declared.page.Page.TheVariants.{Data, Stack}
use Rattle.vm_facts.specs.declared.regs.Regs.{Regs}
use Rattle.page_model.specs.Pages.{SpacePages, numbered}
use Rattle.page_model.specs.Placement.{slots_of}
use Rattle.page_model.specs.Place.{space_of_holding}
use Rattle.page_model.specs.Swapper.{is_out}
use Rattle.kernel_model.specs.ChangeStep.{space_of_life}
use Rattle.page_model.specs.PageBytes.{CouplesPages}
use Rattle.kernel_model.specs.Coupled.{Fits, AllFit, Outline, outline_kept, outline_of, beside_kernel, SameTables, KeepsRegs, Coupled}
use Rattle.kernel_model.specs.Kernel.{Kernel, Proc, life_of}
use Rattle.kernel_model.specs.UPage.{u_page}
use Rattle.std.proofs.lemmas.Option.{same_Some}
use Rattle.kernel_laws.proofs.Flat.Numbered.{has_number, image_by, numbered_image}
use Rattle.kernel_laws.proofs.Flat.Lists.{pid_of}
use Rattle.kernel_laws.proofs.Machine.Moves.{u_stored}

abbrev pub kept_pid : Proc → ℕ
kept_pid p = p.pid

pub all_fit : (k : Kernel) (flat : FlatState) → SameTables k flat → AllFit flat k.place
all_fit k flat t = t.spaces

pub tables_of : (k : Kernel) (flat : FlatState) → map outline_kept k.processes ≡ map outline_of flat.processes → k.next_pid ≡ flat.next_pid
    → k.next_sid ≡ flat.next_sid → AllFit flat k.place → SameTables k flat
tables_of k flat ps np ns f = record { processes = ps; next_pid = np; next_sid = ns; spaces = f }

-- Processes.

-- the two tables have the same processes
pub outlines_at : (ks : List Proc) (fs : List Process) → map outline_kept ks ≡ map outline_of fs → (n : ℕ)
    → image_by outline_kept (numbered kept_pid n ks) ≡ image_by outline_of (numbered pid_of n fs)
outlines_at ks fs e n = sym (numbered_image outline_kept kept_pid (λ (o : Outline). o.pid) (λ x. refl) n ks) ∙ ap (numbered (λ (o : Outline). o.pid) n) e
    ∙ numbered_image outline_of pid_of (λ (o : Outline). o.pid) (λ x. refl) n fs

pub outline_at : (ks : List Proc) (fs : List Process) → map outline_kept ks ≡ map outline_of fs → (n : ℕ) (p : Proc) (q : Process)
    → numbered kept_pid n ks ≡ Some p → numbered pid_of n fs ≡ Some q → outline_kept p ≡ outline_of q
outline_at ks fs e n p q a b = same_Some (outline_kept p) (outline_of q) (ap (image_by outline_kept) (sym a) ∙ outlines_at ks fs e n ∙ ap (image_by outline_of) b)

pub space_same : (h : Holding) → space_of_life (life_of h) ≡ space_of_holding h
space_same (Holds s) = refl
space_same _ = refl

-- a process of the flat state is in the machine
pub kept_at : (ks : List Proc) (fs : List Process) → map outline_kept ks ≡ map outline_of fs → (n : ℕ) (q : Process) → numbered pid_of n fs ≡ Some q
    → (p : Proc) × (numbered kept_pid n ks ≡ Some p)
kept_at ks fs e n q b = go (numbered kept_pid n ks) refl
  where
    go : (o : Option Proc) → numbered kept_pid n ks ≡ o → (p : Proc) × (numbered kept_pid n ks ≡ Some p)
    go (Some p) h = (p, h)
    go None h = absurd (let k : None ≡ Some (outline_of q) = ap (image_by outline_kept) (sym h) ∙ outlines_at ks fs e n ∙ ap (image_by outline_of) b in cc)

-- Registers.

-- what is so of the registers of one process
abbrev pub RegsAt : Kernel → List ℕ → FlatState → ℕ → Type 0
RegsAt k image flat n =
    (q : Process) (p : Proc) → numbered pid_of n flat.processes ≡ Some q → numbered kept_pid n k.processes ≡ Some p → KeepsRegs k image (is_out k.place n) q p.regs (space_of_holding q.holding)

pub regs_at : (k : Kernel) (images : List NamedImage) (image : List ℕ) (flat : FlatState) → Coupled k images image flat → (n : ℕ) → RegsAt k image flat n
regs_at k images image flat c n q p e h =
    let i : q.pid ≡ n = has_number pid_of n flat.processes q e in
    subst (λ (m : ℕ). KeepsRegs k image (is_out k.place m) q p.regs (space_of_holding q.holding)) i
    (c.regs q p (ap (λ (m : ℕ). numbered pid_of m flat.processes) i ∙ e) (ap (λ (m : ℕ). numbered kept_pid m k.processes) i ∙ h))

pub coupled_of : (k : Kernel) (images : List NamedImage) (image : List ℕ) (flat : FlatState) → SameTables k flat
    → CouplesPages k.place (beside_kernel k images image flat) → ((n : ℕ) → RegsAt k image flat n) → Coupled k images image flat
coupled_of k images image flat t pages r = record { tables = t; pages = pages; regs = λ q p e h. r q.pid q p e h }

-- a process that has the registers of another, with a space of the same sizes
pub regs_carry : (k l : Kernel) (image after : List ℕ) (out : Bool) (q r : Process) (a b : Regs) (s t : ℕ) → r.regs ≡ q.regs → b ≡ a
    → (out ≡ true → (u_stored l after r.pid ≡ u_stored k image q.pid) × (length (slots_of l.place (Data t 0)) ≡ length (slots_of k.place (Data s 0)))
    × (length (slots_of l.place (Stack t 0)) ≡ length (slots_of k.place (Stack s 0))))
    → KeepsRegs k image out q a s → KeepsRegs l after out r b t
regs_carry k l image after false q r a b s t e h u o = h ∙ o ∙ sym e
regs_carry k l image after true q r a b s t e h u o =
    let x = u refl in
    x.0 ∙ o ∙ ap (λ (g : Regs). u_page g (length (slots_of k.place (Data s 0))) (length (slots_of k.place (Stack s 0)))) (sym e)
    ∙ ap (λ (n : ℕ). u_page r.regs n (length (slots_of k.place (Stack s 0)))) (sym x.1) ∙ ap (λ (n : ℕ). u_page r.regs (length (slots_of l.place (Data t 0))) n) (sym x.2)

-- Spaces.

-- other bytes, as many
pub fit_bytes : (s z : Space) (o : Option SpacePages) → z.image ≡ s.image → length z.data_bytes ≡ length s.data_bytes
    → length z.stack_bytes ≡ length s.stack_bytes → Fits (Some s) o → Fits (Some z) o
fit_bytes s z None i d t f = absurd f
fit_bytes s z (Some x) i d t f = record { image = f.image ∙ sym i; data_size = d ∙ f.data_size; stack_size = t ∙ f.stack_size }
