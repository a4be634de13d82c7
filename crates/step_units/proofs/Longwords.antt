-- Next units keep registers of longwords.
use Rattle.std.proofs.Common.{◌≡◌, ◌⊎◌, inl, inr, ℕ, ◌+◌, ◌<◌, ◌≤◌, ◌^◌, List, [], ◌∷◌, length, Option, Some, None, sym, ap, ◌∙◌, subst, arith}
use Rattle.vm_facts.specs.SwapImages.{SwapImage}
use Rattle.vm_facts.specs.declared.entry.Entry.{Entry}
use Rattle.flat_state.specs.Flat.{FlatState, Inputs}
use Rattle.kernel_model.specs.Kernel.{Kernel}
use Rattle.flat_model.specs.Run.{Point, process_of_entry, flat_entry, flat_entry_by}
use Rattle.run_laws.specs.Longwords.{ProcessesFit, AllImages}
use Rattle.run_laws.proofs.Replying.{step_regs}
use Rattle.run_laws.proofs.Runs.{entry_next}
use Rattle.flat_model.proofs.Coming.{entry_keeps}
use Rattle.run_model.specs.State.{State}
use Rattle.run_model.specs.After.{after}
use Rattle.run_model.specs.Next.{next_unit}
use Rattle.run_model.specs.Act.{IsNext}
use Rattle.run_model.proofs.Acting.{next_flat}
use Rattle.run_model.proofs.NextUnits.{kind_of}
use Rattle.run_model.proofs.After.{after_count}
use Rattle.run_laws.specs.Machine.{MakesSwap, unit_step, unit_swap}
use Rattle.run_laws.specs.Running.{IsRun}
use Rattle.run_laws.proofs.Flows.{next_or, plain_point}
use Rattle.run_laws.proofs.Running.{run_on}
use Rattle.run_laws.proofs.Execs.{execs_fit}
use Rattle.kernel_model.specs.Start.{ImagesFit}
use Rattle.run_units.specs.Leads.{Leads}
use Rattle.run_units.specs.Serving.{At}
use Rattle.step_units.specs.Registers.{HasLongwords}

-- each next unit is an entry of the flat machine's run, or none of a process
plain_entry : (A : Inputs) (s : State) (u : Entry) → process_of_entry u ≡ None → flat_entry A s.point u ≡ Some (after A s u).point
unfolding flat_entry
plain_entry A s u h = ap (λ (o : Option ℕ). flat_entry_by A s.point o u) h ∙ ap (λ (x : Point). Some x) (sym (plain_point A s u h))

next_entry : (A : Inputs) (s : State) (u : Entry) → IsRun A s → next_unit A s ≡ Some u → flat_entry A s.point u ≡ Some (after A s u).point
next_entry A s u r n = go (next_or A s u r.flows.waits (kind_of A s u n))
  where
    go : (process_of_entry u ≡ None) ⊎ IsNext A s u → flat_entry A s.point u ≡ Some (after A s u).point
    go (inl h) = plain_entry A s u h
    go (inr h) = next_flat A s u r.flows.says h

one_stays : (A : Inputs) (s : State) (u : Entry) → AllImages A.images → IsRun A s → next_unit A s ≡ Some u → length A.first + 1 + s.count < 2 ^ 32
    → HasLongwords A s → HasLongwords A (after A s u)
one_stays A s u w r n l h =
    let e : flat_entry A s.point u ≡ Some (after A s u).point = next_entry A s u r n in
    record {
      fit = entry_keeps (λ (F : FlatState). ProcessesFit F.processes) A s.point (after A s u).point u
          (λ pid refused. step_regs A s.point.flat pid refused w r.numbers (let b = h.next in omega (arith, b, l)) h.fit) e h.fit;
      next = let a = entry_next A s.point (after A s u).point u e in let b = h.next in let c = after_count A s u in omega (arith, a, b, c);
    }

-- counts don't fall
counts_on : (A : Inputs) (us : List Entry) (s t : State) (k l : Kernel) (image behind : SwapImage) → MakesSwap A s k image us t l behind → s.count ≤ t.count
counts_on A [] s t k l image behind m = let e = ap (λ (x : State). x.count) m.0 in omega (arith, e)
counts_on A (u ∷ us) s t k l image behind m =
    let c = after_count A s u in let d = counts_on A us (after A s u) t (unit_step A s k image.bytes m.1.0 u) l (unit_swap A k image u) behind m.1.2 in omega (arith, c, d)

all_stay : (A : Inputs) (us : List Entry) (s t : State) (k l : Kernel) (image behind : SwapImage) → AllImages A.images → ImagesFit A.images → IsRun A s
    → MakesSwap A s k image us t l behind
    → length A.first + 1 + t.count < 2 ^ 32 → HasLongwords A s → HasLongwords A t
all_stay A [] s t k l image behind w f r m c h = subst (HasLongwords A) m.0 h
all_stay A (u ∷ us) s t k l image behind w f r m c h =
    let low : s.count ≤ t.count = counts_on A (u ∷ us) s t k l image behind m in
    all_stay A us (after A s u) t (unit_step A s k image.bytes m.1.0 u) l (unit_swap A k image u) behind w f (run_on A s u f (execs_fit A) r m.0) m.1.2 c
    (one_stays A s u w r m.0 (omega (arith, low, c)) h)

pub longwords_stay : (A : Inputs) (s t : State) (k l : Kernel) (image : SwapImage) (j : Option SwapImage) (us : List Entry) → AllImages A.images
    → At A s k image → Leads A s k image us t l j
    → length A.first + 1 + t.count < 2 ^ 32 → HasLongwords A s → HasLongwords A t
longwords_stay A s t k l image j us w at a c h = all_stay A us s t k l image a.behind w at.fit at.run a.makes c h
