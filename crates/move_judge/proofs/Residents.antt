-- Whether a process goes out or comes in, by its record and by the flat state.
use Rattle.std.proofs.Common.{◌≡◌, ℕ, Bool, true, false, not, [], Option, Some, None, refl, sym, ap, ◌∙◌}
use Rattle.vm_facts.specs.declared.page.Page.{Page}
use Rattle.proc_table.specs.declared.process.Proc.{Proc as Record}
use Rattle.proc_table.specs.declared.process.Life.{Life as RecordLife}
use Rattle.proc_table.specs.declared.process.Life.TheVariants as lives
use Rattle.flat_state.specs.Flat.{Holding, Holds, Lends, Zombie, Process, FlatState, process_of, holds_space}
use Rattle.page_model.specs.Placement.{Placement}
use Rattle.page_model.specs.Place.{pages_of_space}
use Rattle.page_model.specs.Swapper.{is_out, is_settled, first_seated}
use Rattle.kernel_model.specs.Asks.{HasSpace}
use Rattle.kernel_model.specs.Coupled.{SameTables}
use Rattle.kernel_model.specs.Kernel.{Kernel, life_of}
use Rattle.kernel_model.specs.Stands.{OutHold, holds_some}
use Rattle.machine_state.specs.Calls.{CanGoOut, CanComeIn}
use Rattle.machine_state.specs.Lives.{space_by}
use Rattle.machine_state.specs.Machine.{life_shown}
use Rattle.paged_model.specs.declared.reason.Reason.{Reason}
use Rattle.paged_model.specs.declared.reason.Reason.TheVariants as reasons
use Rattle.paged_model.specs.Reasons.{unless, or_reason}
use Rattle.paged_model.specs.Leaving.{may_not_go, still_seated, out_by, out_if, in_if}
use Rattle.paged_model.proofs.Reasoned.{or_none, unless_none}
use Rattle.paged_model.proofs.PartReasons.{not_true}
use Rattle.move_judge.specs.Records.{IsRecord}
use Rattle.move_judge.proofs.Recorded.{IsFlat, none_there, some_there, record_out}
use Rattle.move_judge.specs.Holders.{record_stays, HoldsRecord}
use Rattle.move_judge.specs.Leaving.{space_left}
use Rattle.move_judge.proofs.Held.{held_in, stays_is}

-- Lives.

none_held : (l : RecordLife) (h : Holding) → life_shown l ≡ life_of h → space_by l ≡ None → holds_space h ≡ false
none_held (lives.Holds held) h e n = absurd cc
none_held l (Lends lent child) e n = refl
none_held l (Zombie status) e n = refl
none_held lives.New (Holds s) e n = absurd cc
none_held (lives.Lends lent child) (Holds s) e n = absurd cc
none_held (lives.Zombie status) (Holds s) e n = absurd cc

not_held : (F : FlatState) (p : Placement) (pid : ℕ) (h : Holding) → holds_space h ≡ false → Some (reasons.HoldsNone pid) ≡ out_by F p pid h
not_held F p pid (Holds s) e = absurd cc
not_held F p pid (Lends lent child) e = refl
not_held F p pid (Zombie status) e = refl

is_held : (F : FlatState) (p : Placement) (pid sid : ℕ) (h : Holding) → life_shown (lives.Holds sid) ≡ life_of h
    → or_reason (may_not_go F p pid) (space_left p sid) ≡ out_by F p pid h
is_held F p pid sid (Holds s) e =
    let i : sid ≡ s.sid = cc in ap (λ (n : ℕ). or_reason (may_not_go F p pid) (space_left p n)) i
is_held F p pid sid (Lends lent child) e = absurd cc
is_held F p pid sid (Zombie status) e = absurd cc

-- `O`.

-- there is no such process
pub none_out : (k : Kernel) (F : FlatState) (pid : ℕ) → SameTables k F → IsRecord k pid None
    → Some (reasons.NoProcess pid) ≡ out_if F k.place pid (process_of F pid)
none_out k F pid t r = sym (ap (out_if F k.place pid) (none_there k F t pid r))

-- it holds no space
pub bare_out : (k : Kernel) (F : FlatState) (pid : ℕ) (p : Record) → SameTables k F → IsRecord k pid (Some p) → space_by p.state ≡ None
    → Some (reasons.HoldsNone pid) ≡ out_if F k.place pid (process_of F pid)
bare_out k F pid p t r n =
    let f : IsFlat F pid p = some_there k F t pid p r in
    not_held F k.place pid f.process.holding (none_held p.state f.process.holding f.life n) ∙ sym (ap (out_if F k.place pid) f.here)

-- it holds this one
pub held_out : (k : Kernel) (F : FlatState) (pid sid : ℕ) (p : Record) → SameTables k F → HoldsRecord k pid sid p
    → or_reason (record_stays p) (space_left k.place sid) ≡ out_if F k.place pid (process_of F pid)
held_out k F pid sid p t h =
    let f : IsFlat F pid p = some_there k F t pid p h.known in
    ap (λ (o : Option Reason). or_reason o (space_left k.place sid)) (stays_is k F pid sid p t h)
    ∙ is_held F k.place pid sid f.process.holding (sym (ap life_shown h.holds) ∙ f.life)
    ∙ sym (ap (out_if F k.place pid) f.here)

seated_none : (p : Placement) (o : Option Page) → still_seated p o ≡ None → o ≡ None
seated_none p None e = refl
seated_none p (Some q) e = absurd cc

pub out_can : (k : Kernel) (pid sid : ℕ) (p : Record) → HoldsRecord k pid sid p → HasSpace k.place sid → k.place.due ≡ []
    → or_reason (record_stays p) (space_left k.place sid) ≡ None → CanGoOut k pid
out_can k pid sid p h there clear e =
    let first = first_seated k.place (pages_of_space k.place sid) in
    let a = or_none (record_stays p) (space_left k.place sid) e in
    let b = or_none (unless (not p.borrowed) (reasons.Borrowed p.pid)) (unless (not p.out) (reasons.IsOut p.pid)) a.0 in
    let c = or_none (unless (is_settled k.place sid) reasons.Unsettled) (still_seated k.place first) a.1 in
    record {
      clear = clear;
      sid = sid;
      holds = held_in k pid sid p h;
      there = there;
      resident = sym (record_out k pid sid p h.known h.holds) ∙ not_true p.out (unless_none (not p.out) (reasons.IsOut p.pid) b.1);
      settled = unless_none (is_settled k.place sid) reasons.Unsettled c.0;
      empty = seated_none k.place first c.1;
    }

-- `I`.

pub none_in : (k : Kernel) (F : FlatState) (pid : ℕ) → SameTables k F → IsRecord k pid None
    → Some (reasons.NoProcess pid) ≡ in_if k.place pid (process_of F pid)
none_in k F pid t r = sym (ap (in_if k.place pid) (none_there k F t pid r))

-- who holds no space is in
pub bare_in : (k : Kernel) (F : FlatState) (pid : ℕ) (p : Record) → SameTables k F → OutHold k.place F → IsRecord k pid (Some p)
    → space_by p.state ≡ None → Some (reasons.IsIn pid) ≡ in_if k.place pid (process_of F pid)
bare_in k F pid p t o r n =
    let f : IsFlat F pid p = some_there k F t pid p r in
    let none : holds_some (process_of F pid) ≡ false = ap holds_some f.here ∙ none_held p.state f.process.holding f.life n in
    go f.process f.here none (is_out k.place pid) refl
  where
    go : (q : Process) → process_of F pid ≡ Some q → holds_some (process_of F pid) ≡ false → (b : Bool) → is_out k.place pid ≡ b
        → Some (reasons.IsIn pid) ≡ in_if k.place pid (process_of F pid)
    go q i none true e = absurd (let x : true ≡ false = sym (o pid e) ∙ none in cc)
    go q i none false e = sym (ap (in_if k.place pid) i ∙ ap (λ (b : Bool). unless b (reasons.IsIn pid)) e)

pub held_in_if : (k : Kernel) (F : FlatState) (pid sid : ℕ) (p : Record) → SameTables k F → HoldsRecord k pid sid p
    → unless p.out (reasons.IsIn pid) ≡ in_if k.place pid (process_of F pid)
held_in_if k F pid sid p t h =
    let f : IsFlat F pid p = some_there k F t pid p h.known in
    ap (λ (b : Bool). unless b (reasons.IsIn pid)) (record_out k pid sid p h.known h.holds) ∙ sym (ap (in_if k.place pid) f.here)

pub in_can : (k : Kernel) (pid sid : ℕ) (p : Record) → HoldsRecord k pid sid p → k.place.due ≡ [] → unless p.out (reasons.IsIn pid) ≡ None → CanComeIn k pid
in_can k pid sid p h clear e = record {
  clear = clear;
  out = sym (record_out k pid sid p h.known h.holds) ∙ unless_none p.out (reasons.IsIn pid) e;
}
