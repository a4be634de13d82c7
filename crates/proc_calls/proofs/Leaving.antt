-- A process that has left its space may end.
use Rattle.std.proofs.Common.{◌≡◌, ℕ, zero, suc, Bool, true, false, List, [], Option, Some, None, refl, sym, ap, ◌∙◌, subst}
use Rattle.std.specs.Prelude.{Ok, length}
use Rattle.vm_facts.specs.SwapImages.{SwapImage}
use Rattle.io_edge.specs.FileHolding.{NamedFile}
use Rattle.vm_facts.specs.declared.entry.Entry.TheVariants as entries
use Rattle.swap_book.specs.Holdings.{Holdings}
use Rattle.swap_book.specs.Placing.{place_all}
use Rattle.flat_state.specs.Journal.{append}
use Rattle.flat_state.specs.Numbers.{IsAbsent}
use Rattle.flat_state.specs.declared.change.Change.TheVariants.{End}
use Rattle.page_model.specs.Pages.{numbered}
use Rattle.page_model.specs.Placement.{Placement, space_number}
use Rattle.page_model.specs.Swapper.{is_settled}
use Rattle.page_laws.proofs.Moves.Puts.{rest_by_puts, done_kept}
use Rattle.page_laws.proofs.Swapper.PuttingOut.{same_out}
use Rattle.kernel_model.specs.Kernel.{Life, HoldsSpace, LendsSpace, Proc, Kernel, done_step}
use Rattle.kernel_model.specs.Asks.{HasSpace}
use Rattle.kernel_model.specs.Sound.{has_life, lives_in, lives}
use Rattle.kernel_model.specs.ChangeStep.{life_of_proc, space_of_life, gave_back, pass_step}
use Rattle.kernel_model.specs.Unit.{has_lender, lender_among, proc_of}
use Rattle.machine_state.proofs.Numbered.{none_absent, absent_none}
use Rattle.machine_state.proofs.NumbersApart.{SameSpaces, entry_numbers}
use Rattle.machine_state.proofs.KernelLawsSoundSteps.{pass_lives}
use Rattle.machine_state.specs.Calls.{life_in}
use Rattle.machine_state.specs.Machine.{Standing}
use Rattle.machine_state.specs.Applying.{CanApply, MayAct}
use Rattle.machine_state.specs.Done.{Sources, sources}
use Rattle.machine_state.specs.Settled.{EndsWhile, SettledBy}
use Rattle.vfork_pass.specs.Passed.{HasGivenBack}
use Rattle.fault_fill.specs.Growth.{space_of_pid}
use Rattle.proc_calls.specs.Callers.{IsCaller}
use Rattle.proc_calls.specs.Leaving.{HasSettled, HasLeftBy, HasLeft}
use Rattle.proc_calls.proofs.Callers.{caller_lives}

-- What stays as transfers end.

pub record GoesOn (old new : Kernel) : Type 0 where
  pub processes : new.processes ≡ old.processes
  pub holdings : new.holdings ≡ old.holdings
  pub residents : new.place.residents ≡ old.place.residents
  pub due : new.place.due ≡ old.place.due
  pub spaces : SameSpaces old.place new.place

stays : (k : Kernel) → GoesOn k k
stays k = record { processes = refl; holdings = refl; residents = refl; due = refl; spaces = refl }

done_goes : (k : Kernel) (read : List (List ℕ)) → GoesOn k (done_step k read)
done_goes k read =
    let rest = done_kept rest_by_puts k.place in
    record {
      processes = refl;
      holdings = refl;
      residents = rest.residents;
      due = rest.due;
      spaces = entry_numbers [] (length (append k.journal entries.Done)) k.place entries.Done;
    }

both_go : (k l m : Kernel) → GoesOn k l → GoesOn l m → GoesOn k m
both_go k l m a b = record {
  processes = b.processes ∙ a.processes;
  holdings = b.holdings ∙ a.holdings;
  residents = b.residents ∙ a.residents;
  due = b.due ∙ a.due;
  spaces = b.spaces ∙ a.spaces;
}

pub ends_go : (from : Sources) (sid n : ℕ) (old new : Kernel) (before after : Option SwapImage) → EndsWhile from sid n old before new after → GoesOn old new
ends_go from sid zero old new before after e = subst (GoesOn old) (sym e.0) (stays old)
ends_go from sid (suc n) old new before after e =
    both_go old e.1.0 new (subst (GoesOn old) (sym e.1.2.step) (done_goes old e.1.2.read)) (ends_go from sid n e.1.0 new e.1.1 after e.1.4)

pub settled_goes : (from : Sources) (sid : ℕ) (old new : Kernel) (before after : Option SwapImage) → SettledBy from sid old new before after → GoesOn old new
settled_goes from sid old new before after s = ends_go from sid s.count old new before after s.ends

pub space_stays : (p q : Placement) (sid : ℕ) → SameSpaces p q → HasSpace p sid → HasSpace q sid
space_stays p q sid e h n = h (absent_none space_number sid p.spaces (subst (IsAbsent sid) e (none_absent space_number sid q.spaces n)))

none_asked : (size : ℕ) (before now : Holdings) → before ≡ now → place_all size before [] ≡ Ok now
unfolding place_all
none_asked size before now e = ap (λ (hs : Holdings). Ok hs) e

-- Once its space is settled.

pub can_end_settled : (m n : Standing) (pid status : ℕ) (holds : Option (List NamedFile)) (before after : Option SwapImage) → IsCaller m pid
    → has_lender m.kernel.processes pid ≡ false
    → HasSettled m n (space_of_pid m.kernel pid) holds before after → CanApply n pid (entries.Ended pid status) (End status)
can_end_settled m n pid status holds before after c alone s = record {
  clear = on.due ∙ c.clear;
  ready = record {
    alive = ap (λ (ps : List Proc). lives ps pid) on.processes ∙ caller_lives m.kernel pid c.lends;
    next = tt;
    reaps = tt;
    space = λ _. (
      subst (HasSpace n.kernel.place) (sym space) (space_stays m.kernel.place n.kernel.place c.lends.sid on.spaces c.lends.there),
      ap (is_settled n.kernel.place) (space ∙ sym (ap space_of_life c.lends.holds)) ∙ s.settled.settled,
    );
  };
  acts = subst (λ (l : Life). MayAct l (End status)) (sym held) tt;
  resident = same_out m.kernel.place n.kernel.place pid on.residents ∙ c.lends.resident;
  returned = λ _. ap (λ (ps : List Proc). has_lender ps pid) on.processes ∙ alone;
  entry = (refl, refl);
  whole = tt;
  few = λ t. absurd (let z : false ≡ true = t in cc);
  found = none_asked n.params.swap_blocks n.before n.kernel.holdings (s.rest.before ∙ c.ready.whole ∙ sym on.holdings);
}
  where
    on : GoesOn m.kernel n.kernel
    on = settled_goes (sources m holds) (space_of_pid m.kernel pid) m.kernel n.kernel before after s.settled

    held : life_in n.kernel pid ≡ HoldsSpace c.lends.sid
    held = ap (λ (ps : List Proc). life_of_proc (numbered (λ (p : Proc). p.pid) pid ps)) on.processes ∙ c.lends.holds

    space : space_of_life (life_in n.kernel pid) ≡ c.lends.sid
    space = ap space_of_life held

-- Once the space that it borrowed went back.

pub lender_lives : (o : Option Proc) (sid child : ℕ) → life_of_proc o ≡ LendsSpace sid child → lives_in o ≡ true
lender_lives None sid child e = absurd cc
lender_lives (Some p) sid child e = ap has_life e

pub can_end_returned : (m : Standing) (pid status : ℕ) → IsCaller m pid
    → HasGivenBack m.kernel (pass_step m.kernel pid (lender_among m.kernel.processes pid)) pid (lender_among m.kernel.processes pid)
    → (let n : Standing = record m { kernel = pass_step m.kernel pid (lender_among m.kernel.processes pid) } in
    CanApply n pid (entries.Ended pid status) (End status))
can_end_returned m pid status c g = record {
  clear = c.clear;
  ready = record {
    alive = pass_lives m.kernel pid lender giver taker pid ∙ giver;
    next = tt;
    reaps = tt;
    space = λ e. absurd (let z : true ≡ false = sym (ap gave_back g.left) ∙ e in cc);
  };
  acts = subst (λ (l : Life). MayAct l (End status)) (sym g.left) tt;
  resident = c.lends.resident;
  returned = λ _. g.none;
  entry = (refl, refl);
  whole = tt;
  few = λ t. absurd (let z : false ≡ true = t in cc);
  found = none_asked m.params.swap_blocks m.before m.kernel.holdings c.ready.whole;
}
  where
    lender : ℕ
    lender = lender_among m.kernel.processes pid

    giver : lives m.kernel.processes pid ≡ true
    giver = caller_lives m.kernel pid c.lends

    taker : lives m.kernel.processes (lender_among m.kernel.processes pid) ≡ true
    taker = lender_lives (proc_of m.kernel (lender_among m.kernel.processes pid)) g.lent pid g.lends

-- Either way.

module _ (m n : Standing) (pid : ℕ) (holds : Option (List NamedFile)) (before after : Option SwapImage) (c : IsCaller m pid) where
  can_by : (b : Bool) (status : ℕ) → has_lender m.kernel.processes pid ≡ b → HasLeftBy b m n pid holds before after
      → (has_lender m.kernel.processes pid ≡ true → HasGivenBack m.kernel n.kernel pid (lender_among m.kernel.processes pid))
      → CanApply n pid (entries.Ended pid status) (End status)
  can_by true status e r given =
      subst (λ (s : Standing). CanApply s pid (entries.Ended pid status) (End status)) (sym r.step)
      (can_end_returned m pid status c (subst (λ (s : Standing). HasGivenBack m.kernel s.kernel pid (lender_among m.kernel.processes pid)) r.step (given e)))
  can_by false status e r given = can_end_settled m n pid status holds before after c e r

  pub can_end : (status : ℕ) → HasLeft m n pid holds before after
      → (has_lender m.kernel.processes pid ≡ true → HasGivenBack m.kernel n.kernel pid (lender_among m.kernel.processes pid))
      → CanApply n pid (entries.Ended pid status) (End status)
  can_end status h given = can_by (has_lender m.kernel.processes pid) status refl h given
