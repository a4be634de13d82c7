-- What keeps a process from a step, before its pages, by the machine and by the state.
use Rattle.std.proofs.Common.{◌≡◌, ℕ, ◌+◌, ◌<◌, ◌≤◌, max, nat_lt, nat_le, Bool, true, false, List, Option, Some, None, refl, sym, ap, ◌∙◌, arith}
use Rattle.std.proofs.lemmas.Bool.Decides.{nat_tests}
use Rattle.vm_facts.specs.SwapImages.{SwapImage}
use Rattle.vm_facts.specs.declared.entry.Entry.{Entry}
use Rattle.vm_facts.specs.declared.entry.Entry.TheVariants as entries
use Rattle.io_edge.specs.FileHolding.{NamedFile}
use Rattle.proc_table.specs.declared.process.Proc.{Proc as Record}
use Rattle.flat_state.specs.Flat.{Inputs, can_step}
use Rattle.flat_state.specs.Journal.{counted, IsUnit}
use Rattle.page_model.specs.Placement.{Placement, Due}
use Rattle.kernel_model.specs.Coupled.{SameTables}
use Rattle.kernel_model.specs.Kernel.{Kernel}
use Rattle.machine_state.specs.Machine.{Standing, proc_shown}
use Rattle.run_model.specs.State.{State}
use Rattle.paged_model.specs.declared.reason.Reason.{Reason}
use Rattle.paged_model.specs.declared.reason.Reason.TheVariants as reasons
use Rattle.paged_model.specs.Reasons.{unless, or_reason}
use Rattle.paged_model.specs.Moves.{due_first}
use Rattle.paged_model.specs.Steps.{stuck_if, stuck, other_begun, step_reason}
use Rattle.paged_model.proofs.Reasoned.{or_none, unless_none}
use Rattle.paged_laws.proofs.PolicySteps.{one_counted}
use Rattle.paged_laws.proofs.Virtual.{can_of}
use Rattle.move_judge.specs.Records.{IsRecord}
use Rattle.move_judge.proofs.Chosen.{none_due}
use Rattle.move_judge.proofs.Recorded.{IsFlat, none_there, some_there, record_shown}
use Rattle.proc_run.specs.declared.finishing.Begun.{Begun}
use Rattle.proc_run.specs.Choosing.{can_run, steps_by}
use Rattle.proc_run.specs.Rests.{begun_by}
use Rattle.proc_run.proofs.Marks.{steps_same}
use Rattle.step_judge.specs.At.{JudgedAt, SoonAt}
use Rattle.step_judge.specs.Told.{other_by, first_reasons, in_reason}

-- Whether it can step, by its record.

pub none_stuck : (A : Inputs) (s : State) (k : Kernel) (pid : ℕ) → SameTables k s.point.flat → IsRecord k pid None
    → Some (reasons.NoProcess pid) ≡ stuck A s pid
none_stuck A s k pid t r = sym (ap (stuck_if A s pid) (none_there k s.point.flat t pid r))

pub some_stuck : (A : Inputs) (s : State) (k : Kernel) (pid : ℕ) (p : Record) → SameTables k s.point.flat → IsRecord k pid (Some p)
    → unless (can_run (proc_shown p)) (reasons.CannotStep pid) ≡ stuck A s pid
some_stuck A s k pid p t r =
    let f : IsFlat s.point.flat pid p = some_there k s.point.flat t pid p r in
    let can : can_step s.point.flat pid ≡ can_run (proc_shown p) = steps_same k s.point.flat pid t ∙ ap steps_by (record_shown k pid (Some p) r) in
    ap (λ (b : Bool). unless b (reasons.CannotStep pid)) (sym can) ∙ sym (ap (stuck_if A s pid) f.here)

-- Whether the step of another is begun.

other_is : (last : Option Entry) (b : Option Begun) (pid : ℕ) → begun_by last ≡ b → other_by b pid ≡ other_begun last pid
other_is last b pid e = ap (λ (o : Option Begun). other_by o pid) (sym e) ∙ go last
  where
    go : (o : Option Entry) → other_by (begun_by o) pid ≡ other_begun o pid
    go (Some (entries.Refused p)) = refl
    go (Some (entries.Out p bytes)) = refl
    go _ = refl

-- Whether fewer instructions are counted than may be.

same_tests : (n c l : ℕ) → c ≡ n → l ≡ 1000000 → nat_lt n 1000000 ≡ nat_le (c + 1) l
same_tests n c l e f = go (nat_lt n 1000000) (nat_le (c + 1) l) refl refl
  where
    go : (x y : Bool) → nat_lt n 1000000 ≡ x → nat_le (c + 1) l ≡ y → x ≡ y
    go true true p q = refl
    go false false p q = refl
    go true false p q =
        absurd (let less : n < 1000000 = grind (arith, nat_tests) in let more : l < c + 1 = grind (arith, nat_tests) in omega (arith, less, more, e, f))
    go false true p q =
        absurd (let most : 1000000 ≤ n = grind (arith, nat_tests) in let least : c + 1 ≤ l = grind (arith, nat_tests) in omega (arith, most, least, e, f))

-- All of it.

one_by_one : (a b c d e : Option Reason)
    → or_reason (or_reason a (or_reason b (or_reason c d))) e ≡ or_reason a (or_reason b (or_reason c (or_reason d e)))
one_by_one (Some r) b c d e = refl
one_by_one None (Some r) c d e = refl
one_by_one None None (Some r) d e = refl
one_by_one None None None d e = refl

module _ (m : Standing) (n : ℕ) (b : Option Begun) (holds : Option (List NamedFile)) (i : Option SwapImage) (A : Inputs) (s : State) (image : SwapImage)
    (at : JudgedAt m n b holds i A s image) (pid : ℕ) where
  pub tables : SameTables m.kernel s.point.flat
  tables = at.stands.keeps.coupled.tables

  due_same : m.kernel.place.due ≡ s.place.due
  due_same = ap (λ (p : Placement). p.due) at.stands.place

  few_same : (u : Entry) → IsUnit u → nat_lt n 1000000 ≡ nat_le (s.count + max 1 (counted u)) A.limit
  few_same u k = same_tests n s.count A.limit at.count at.limit ∙ ap (λ (x : ℕ). nat_le (s.count + x) A.limit) (sym (one_counted u k))

  -- of a step these reasons come first
  pub whole : (u : Entry) → IsUnit u → or_reason (first_reasons A s n b m.kernel.place.due pid) (in_reason A s pid u) ≡ step_reason A s pid u
  whole u k =
      let few : Option Reason = unless (nat_le (s.count + max 1 (counted u)) A.limit) reasons.TooMany in
      let own : Option Reason = other_begun s.point.last pid in
      let rest : Option Reason = in_reason A s pid u in
      ap (λ (x : Bool). or_reason (or_reason (unless x reasons.TooMany) (or_reason (stuck A s pid) (or_reason (other_by b pid) (due_first m.kernel.place.due)))) rest)
      (few_same u k)
      ∙ ap (λ (o : Option Reason). or_reason (or_reason few (or_reason (stuck A s pid) (or_reason o (due_first m.kernel.place.due)))) rest)
      (other_is s.point.last b pid at.begun)
      ∙ ap (λ (ds : List Due). or_reason (or_reason few (or_reason (stuck A s pid) (or_reason own (due_first ds)))) rest) due_same
      ∙ one_by_one few (stuck A s pid) own (due_first s.place.due) rest

  -- where there is none of them it can step, where it is in
  pub soon : first_reasons A s n b m.kernel.place.due pid ≡ None → SoonAt m n b holds i pid A s image
  soon e =
      let few = or_none (unless (nat_lt n 1000000) reasons.TooMany) (or_reason (stuck A s pid) (or_reason (other_by b pid) (due_first m.kernel.place.due))) e in
      let can = or_none (stuck A s pid) (or_reason (other_by b pid) (due_first m.kernel.place.due)) few.1 in
      let own = or_none (other_by b pid) (due_first m.kernel.place.due) can.1 in
      record {
        at = at;
        few = (let t : nat_lt n 1000000 ≡ true = unless_none (nat_lt n 1000000) reasons.TooMany few.0 in
            let l : n < 1000000 = grind (arith, nat_tests) in let c = at.count in let f = at.limit in omega (arith, l, c, f));
        steps = can_of A s pid can.0;
        own = sym (other_is s.point.last b pid at.begun) ∙ own.0;
        clear = sym due_same ∙ none_due m.kernel.place.due own.1;
      }
