-- The swapper chooses among the processes of the machine as among those of the flat state.
use Rattle.std.proofs.Common.{◌≡◌, ℕ, Bool, List, [], ◌∷◌, map, filter_map, Option, Some, None, refl, sym, ap, ap₂, ◌∙◌}
use Rattle.std.specs.List.{cons_option}
use Rattle.flat_state.specs.Flat.{Holding, Holds, Lends, Zombie, Process, FlatState}
use Rattle.flat_state.specs.Change.{is_borrower}
use Rattle.page_model.specs.Swapper.{Runner}
use Rattle.kernel_model.specs.Kernel.{Kernel, Life, New, HoldsSpace, LendsSpace, Ended, Proc}
use Rattle.kernel_model.specs.Coupled.{Outline, outline_of, outline_kept, SameTables}
use Rattle.kernel_model.specs.Unit.{has_lender}
use Rattle.kernel_laws.proofs.Kept.Borrowed.{borrows_is}
use Rattle.swapper.specs.Runners.{runner_among, runners_of}
use Rattle.run_model.specs.State.{runner_by as flat_runner_by, runners}

-- what the swapper asks of a process, by all of it but its registers, and by who borrows
abbrev outlined_by : (ℕ → Bool) → Outline → Life → Option Runner
outlined_by borrows o New = None
outlined_by borrows o (HoldsSpace sid) = Some (let r : Runner = record { pid = o.pid; sid = sid; borrowed = borrows o.pid; asleep = o.asleep } in r)
outlined_by borrows o (LendsSpace sid child) = None
outlined_by borrows o (Ended status) = None

abbrev outlined : (ℕ → Bool) → List Outline → List Runner
outlined borrows [] = []
outlined borrows (o ∷ os) = cons_option (outlined_by borrows o o.life) (outlined borrows os)

kept_one : (all : List Proc) (q : Proc) (life : Life) → runner_among all q life ≡ outlined_by (has_lender all) (outline_kept q) life
kept_one all q New = refl
kept_one all q (HoldsSpace sid) = refl
kept_one all q (LendsSpace sid child) = refl
kept_one all q (Ended status) = refl

kept_all : (all ps : List Proc) → filter_map (λ q. runner_among all q q.life) ps ≡ outlined (has_lender all) (map outline_kept ps)
kept_all all [] = refl
kept_all all (q ∷ ps) = ap₂ cons_option (kept_one all q q.life) (kept_all all ps)

flat_one : (F : FlatState) (q : Process) (h : Holding) → q.holding ≡ h
    → flat_runner_by F q h ≡ outlined_by (is_borrower F.processes) (outline_of q) (Rattle.kernel_model.specs.Kernel.life_of h)
flat_one F q (Holds s) e = refl
flat_one F q (Lends sid child) e = refl
flat_one F q (Zombie status) e = refl

flat_all : (F : FlatState) (qs : List Process) → filter_map (λ q. flat_runner_by F q q.holding) qs ≡ outlined (is_borrower F.processes) (map outline_of qs)
flat_all F [] = refl
flat_all F (q ∷ qs) = ap₂ cons_option (flat_one F q q.holding refl) (flat_all F qs)

same_one : (f g : ℕ → Bool) → ((n : ℕ) → f n ≡ g n) → (o : Outline) (life : Life) → outlined_by f o life ≡ outlined_by g o life
same_one f g e o New = refl
same_one f g e o (HoldsSpace sid) = ap (λ (b : Bool). Some (let r : Runner = record { pid = o.pid; sid = sid; borrowed = b; asleep = o.asleep } in r)) (e o.pid)
same_one f g e o (LendsSpace sid child) = refl
same_one f g e o (Ended status) = refl

same_all : (f g : ℕ → Bool) → ((n : ℕ) → f n ≡ g n) → (os : List Outline) → outlined f os ≡ outlined g os
same_all f g e [] = refl
same_all f g e (o ∷ os) = ap₂ cons_option (same_one f g e o o.life) (same_all f g e os)

pub runners_same : (k : Kernel) (F : FlatState) → SameTables k F → runners_of k ≡ runners F
runners_same k F t =
    kept_all k.processes k.processes ∙ ap (outlined (has_lender k.processes)) t.processes
    ∙ same_all (has_lender k.processes) (is_borrower F.processes) (λ n. borrows_is k F n t) (map outline_of F.processes) ∙ sym (flat_all F F.processes)
