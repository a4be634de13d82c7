-- Where a unit may come that counts instructions, few are counted.
use Rattle.std.proofs.Common.{◌≡◌, ◌⊎◌, inl, inr, ℕ, ◌+◌, ◌≤◌, max, nat_le, true, not, List, Option, None, refl, arith}
use Rattle.std.proofs.lemmas.Bool.Decides.{nat_tests}
use Rattle.vm_facts.specs.SwapImages.{SwapImage}
use Rattle.vm_facts.specs.declared.entry.Entry.{Entry}
use Rattle.vm_facts.specs.declared.entry.Entry.TheVariants as entries
use Rattle.io_edge.specs.FileHolding.{NamedFile}
use Rattle.flat_state.specs.Flat.{Inputs}
use Rattle.flat_state.specs.Journal.{counted}
use Rattle.machine_state.specs.Machine.{Standing}
use Rattle.run_model.specs.State.{State}
use Rattle.paged_model.specs.declared.reason.Reason.TheVariants as reasons
use Rattle.paged_model.specs.Reasons.{unless, or_reason}
use Rattle.paged_model.specs.Moves.{due_first}
use Rattle.paged_model.specs.Steps.{stuck, other_begun, page_away, other_act, step_reason}
use Rattle.page_model.specs.Swapper.{is_out}
use Rattle.run_model.specs.Act.{act}
use Rattle.paged_model.specs.Runs.{unit_reason}
use Rattle.paged_model.proofs.Reasoned.{or_none, unless_none}
use Rattle.repage_check.specs.declared.past.Past.{Past}
use Rattle.repage_check.specs.Past.{PastAt}

step_few : (A : Inputs) (s : State) (pid : ℕ) (u : Entry) → step_reason A s pid u ≡ None → s.count + counted u ≤ A.limit
step_few A s pid u e =
    let o = or_none (unless (nat_le (s.count + max 1 (counted u)) A.limit) reasons.TooMany)
    (or_reason (stuck A s pid)
    (or_reason (other_begun s.point.last pid)
    (or_reason (due_first s.place.due)
    (or_reason (unless (not (is_out s.place pid)) (reasons.IsOut pid))
    (or_reason (page_away A s pid) (other_act pid u (act A s pid)))))))
    e
    in
    let t : nat_le (s.count + max 1 (counted u)) A.limit ≡ true = unless_none (nat_le (s.count + max 1 (counted u)) A.limit) reasons.TooMany o.0 in
    let below : s.count + max 1 (counted u) ≤ A.limit = grind (arith, nat_tests) in
    let most : (n : ℕ) → n ≤ max 1 n = λ n. grind arith in
    let more = most (counted u) in
    omega (arith, below, more)

few : (A : Inputs) (s : State) (u : Entry) → unit_reason A s u ≡ None → (counted u ≡ 0) ⊎ (s.count + counted u ≤ A.limit)
unfolding unit_reason
few A s (entries.Ran pid n) e = inr (step_few A s pid (entries.Ran pid n) e)
few A s (entries.Out pid bytes) e = inl refl
few A s (entries.Grew pid pages) e = inl refl
few A s (entries.Call pid number carry r0 r1) e = inr (step_few A s pid (entries.Call pid number carry r0 r1) e)
few A s (entries.Refused pid) e = inl refl
few A s (entries.Sleeps pid) e = inl refl
few A s (entries.Ended pid status) e = inr (step_few A s pid (entries.Ended pid status) e)
few A s (entries.Event line) e = inl refl
few A s (entries.Turn pid) e = inl refl
few A s (entries.Zero q) e = inl refl
few A s (entries.Get q lo n) e = inl refl
few A s (entries.Copy q) e = inl refl
few A s (entries.Reclaim q) e = inl refl
few A s (entries.Hands n) e = inl refl
few A s (entries.Put q n) e = inl refl
few A s entries.Done e = inl refl
few A s (entries.SwapOut pid) e = inl refl
few A s (entries.SwapIn pid) e = inl refl
few A s (entries.Owners free used moving held) e = inl refl

pub still_few : (p : Past) (m : Standing) (holds : Option (List NamedFile)) (i : Option SwapImage) (A : Inputs) (s : State) (image : SwapImage) (u : Entry)
    → PastAt p m holds i A s image → unit_reason A s u ≡ None → (counted u ≡ 0) ⊎ (p.counted + counted u ≤ 1000000)
still_few p m holds i A s image u at none = elim (few A s u none) [
  | inl z ↦ inl z
  | inr l ↦ inr (let c = at.judged.count in let n = at.judged.limit in omega (arith, l, c, n))
]
