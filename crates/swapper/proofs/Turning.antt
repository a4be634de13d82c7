-- What is chosen may be done.
use Rattle.std.proofs.Common.{◌≡◌, inl, inr, ℕ, true, List, [], ◌∷◌, map, take, Option, Some, None, refl, sym, ap, ◌∙◌, subst}
use Rattle.std.specs.Prelude.{filter_map}
use Rattle.std.specs.List.{filter}
use Rattle.std.proofs.lemmas.Bool.{cases_eq}
use Rattle.std.proofs.lemmas.Option.{same_Some}
use Rattle.flat_state.specs.Numbers.{IsAbsent, AllDistinct}
use Rattle.page_model.specs.Pages.{numbered}
use Rattle.page_model.specs.Placement.{Placement}
use Rattle.page_model.specs.Swapper.{Runner, Choice, Out, is_out, longest, ranked, may_go_out, puts_out, out_of, choice_of_out, swap_choice}
use Rattle.page_model.specs.Swapping.{OneOf, ComesIn, GoesOut}
use Rattle.page_laws.proofs.Lists.Local.{none_some}
use Rattle.page_laws.proofs.Lists.Pages.{numbered_hit, numbered_miss}
use Rattle.page_laws.proofs.Swapper.Choices.{chosen_in, chosen_out}
use Rattle.kernel_model.specs.Kernel.{Kernel, Life, New, HoldsSpace, LendsSpace, Ended, Proc}
use Rattle.kernel_model.specs.ChangeStep.{life_of_proc}
use Rattle.kernel_model.specs.Unit.{has_lender}
use Rattle.machine_state.specs.Holders.{HoldersHaveSpaces}
use Rattle.machine_state.proofs.Records.{keeps_none, keeps_some}
use Rattle.swapper.specs.declared.Turned.{Turned}
use Rattle.swapper.specs.declared.Turned.TheVariants as turns
use Rattle.swapper.specs.declared.candidates.Seen.{Seen}
use Rattle.swapper.specs.declared.candidates.Kind.TheVariants as kinds
use Rattle.swapper.specs.Runners.{runner_among, runners_of, runner_of, passes, choice_of}
use Rattle.swapper.specs.Turns.{MayTurn}
use Rattle.swapper.proofs.Numbers.{filter_both}

-- The choice, by whether as many frames are free as are desired.

pub out_sleeper : (p : Placement) (rs : List Runner) (o : Option Seen) (seen : Seen)
    → runner_of o ≡ longest p (filter (passes p kinds.Sleeper) rs) → o ≡ Some seen
    → Out seen.pid ≡ choice_of_out p (filter (may_go_out p) rs)
out_sleeper p rs o seen e f =
    ap (out_of p (filter (may_go_out p) rs)) (sym (ap runner_of f) ∙ e ∙ ap (longest p) (sym (filter_both (λ r. r.asleep) (may_go_out p) rs)))

pub out_large : (p : Placement) (rs : List Runner) (o w : Option Seen) (c : Choice) → runner_of o ≡ longest p (filter (passes p kinds.Sleeper) rs) → o ≡ None
    → runner_of w ≡ longest p (take 4 (ranked p (filter (passes p kinds.GoesOut) rs))) → c ≡ puts_out (runner_of w)
    → c ≡ choice_of_out p (filter (may_go_out p) rs)
out_large p rs o w c e f g h =
    h ∙ ap puts_out g
    ∙ ap (out_of p (filter (may_go_out p) rs)) (sym (ap runner_of f) ∙ e ∙ ap (longest p) (sym (filter_both (λ r. r.asleep) (may_go_out p) rs)))

-- The process of a runner.

abbrev pid_of : Proc → ℕ
pid_of q = q.pid

absent_none : (n : ℕ) (qs : List Proc) → IsAbsent n (map (λ (q : Proc). q.pid) qs) → numbered pid_of n qs ≡ None
absent_none n [] a = refl
absent_none n (q ∷ qs) a = numbered_miss pid_of n q qs a.0 ∙ absent_none n qs a.1

record Holder (all qs : List Proc) (r : Runner) : Type 0 where
  process : Proc
  found : numbered pid_of r.pid qs ≡ Some process
  holds : process.life ≡ HoldsSpace r.sid
  lent : has_lender all r.pid ≡ r.borrowed

record Shown (all : List Proc) (q : Proc) (r : Runner) : Type 0 where
  number : q.pid ≡ r.pid
  holds : q.life ≡ HoldsSpace r.sid
  lent : has_lender all r.pid ≡ r.borrowed

shown_by : (all : List Proc) (q : Proc) (r : Runner) (l : Life) → q.life ≡ l → runner_among all q l ≡ Some r → Shown all q r
shown_by all q r New e s = none_some r s
shown_by all q r (HoldsSpace sid) e s =
    let same = same_Some (let x : Runner = record { pid = q.pid; sid = sid; borrowed = has_lender all q.pid; asleep = q.asleep } in x) r s in
    subst (Shown all q) same (record { number = refl; holds = e; lent = refl })
shown_by all q r (LendsSpace sid child) e s = none_some r s
shown_by all q r (Ended status) e s = none_some r s

holder : (all qs : List Proc) (r : Runner) → AllDistinct (map (λ (q : Proc). q.pid) qs)
    → OneOf r (filter_map (λ q. runner_among all q q.life) qs) → Holder all qs r
holder all [] r d o = absurd o
holder all (q ∷ qs) r d o = go (runner_among all q q.life) refl (holder all qs r d.1)
  where
    later : Holder all qs r → Holder all (q ∷ qs) r
    later h = elim (cases_eq q.pid r.pid) [
      | inl e ↦ none_some h.process (sym (absent_none r.pid qs (subst (λ (n : ℕ). IsAbsent n (map (λ (q : Proc). q.pid) qs)) e d.0)) ∙ h.found)
      | inr n ↦ record { process = h.process; found = numbered_miss pid_of r.pid q qs n ∙ h.found; holds = h.holds; lent = h.lent }
    ]

    here : Shown all q r → Holder all (q ∷ qs) r
    here s = record { process = q; found = numbered_hit pid_of r.pid q qs s.number; holds = s.holds; lent = s.lent }

    go : (w : Option Runner) → runner_among all q q.life ≡ w → (OneOf r (filter_map (λ q. runner_among all q q.life) qs) → Holder all qs r) → Holder all (q ∷ qs) r
    go None e more = later (more (subst (OneOf r) (keeps_none (λ q. runner_among all q q.life) q qs e) o))
    go (Some y) e more =
        let one : OneOf r (y ∷ filter_map (λ q. runner_among all q q.life) qs) = subst (OneOf r) (keeps_some (λ q. runner_among all q q.life) q qs y e) o in
        elim one [
          | inl s ↦ here (shown_by all q r q.life refl (e ∙ ap (λ (x : Runner). Some x) (sym s)))
          | inr t ↦ later (more t)
        ]

pub may_turn : (k : Kernel) (t : Turned) → AllDistinct (map (λ (q : Proc). q.pid) k.processes) → HoldersHaveSpaces k
    → choice_of t ≡ swap_choice k.place (runners_of k) → MayTurn k t
may_turn k turns.Nothing d s e = tt
may_turn k (turns.In pid) d s e =
    let c : ComesIn k.place (runners_of k) pid = chosen_in k.place (runners_of k) pid (sym e) in
    subst (λ (n : ℕ). is_out k.place n ≡ true) c.number c.out
may_turn k (turns.Out pid) d s e =
    let c : GoesOut k.place (runners_of k) pid = chosen_out k.place (runners_of k) pid (sym e) in
    let h : Holder k.processes k.processes c.runner = holder k.processes k.processes c.runner d c.one in
    let held : life_of_proc (numbered (λ (q : Proc). q.pid) pid k.processes) ≡ HoldsSpace c.runner.sid =
    ap (λ (n : ℕ). life_of_proc (numbered (λ (q : Proc). q.pid) n k.processes)) (sym c.number) ∙ ap life_of_proc h.found ∙ h.holds in (
      (c.runner.sid, record { holds = held; there = s pid c.runner.sid held }),
      ap (has_lender k.processes) (sym c.number) ∙ h.lent ∙ c.may.own,
      ap (is_out k.place) (sym c.number) ∙ c.may.resident,
    )
