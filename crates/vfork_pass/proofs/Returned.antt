-- A space goes back from its borrower to the one that lends it.
use Rattle.std.proofs.Common.{◌≡◌, ◌≢◌, ℕ, ◌-◌, ◌==◌, Bool, true, false, ◌||◌, cond, List, [], ◌∷◌, map, Option, Some, None, refl, sym, ap, ◌∙◌, subst}
use Rattle.std.specs.Prelude.{filter_map}
use Rattle.std.specs.List.{range_with_len}
use Rattle.std.proofs.lemmas.Bool.{eqb-true}
use Rattle.vm_facts.proofs.Tests.{eq_self}
use Rattle.proc_table.specs.declared.process.Proc.{Proc as Record}
use Rattle.proc_table.specs.declared.process.Life.{Life as RecordLife}
use Rattle.proc_table.specs.declared.process.Life.TheVariants as lives
use Rattle.proc_table.specs.Records.{find, Lowest}
use Rattle.page_model.specs.Pages.{numbered}
use Rattle.kernel_model.specs.Kernel.{Life, HoldsSpace, LendsSpace, Proc, Kernel}
use Rattle.kernel_model.specs.ChangeStep.{space_of_life, life_of_proc, pass_from, passed_life, pass_step}
use Rattle.kernel_model.specs.Sound.{has_life, lives_in, lives as are_alive}
use Rattle.kernel_model.specs.Unit.{lends_life, has_lender, lender_among}
use Rattle.machine_state.proofs.Listed.{lends_shown}
use Rattle.machine_state.specs.Alike.{lends_to_by, lends_to, AreRecords}
use Rattle.machine_state.specs.Applying.{MayPass}
use Rattle.machine_state.specs.Calls.{life_in}
use Rattle.machine_state.specs.Machine.{life_shown, proc_shown, proc_of_record, processes_of}
use Rattle.machine_state.proofs.Records.{keeps_none, keeps_some, found_pid}
use Rattle.machine_state.proofs.Listed.{process_is}
use Rattle.machine_state.proofs.Kin.{true_false}
use Rattle.vfork_pass.specs.Lenders.{lends_in, IsLender}
use Rattle.vfork_pass.specs.Passed.{IsHolder, HasGivenBack}
use Rattle.vfork_pass.proofs.FirstLender.{first_over, first_is}
use Rattle.vfork_pass.proofs.Lives.{gives, takes, stays, holds_some, holder_there, alive_there}

-- what a record has that lends to this one
lends_life_is : (l : RecordLife) (pid : ℕ) → lends_to_by pid l ≡ true → (sid : ℕ) × (life_shown l ≡ LendsSpace sid pid)
lends_life_is lives.New pid e = absurd (let z : false ≡ true = e in cc)
lends_life_is (lives.Holds sid) pid e = absurd (let z : false ≡ true = e in cc)
lends_life_is (lives.Lends sid child) pid e = (sid, ap (LendsSpace sid) (eqb-true child pid e))
lends_life_is (lives.Zombie status) pid e = absurd (let z : false ≡ true = e in cc)

found_lender : (o : Option Record) (pid : ℕ) → lends_in pid o ≡ true → (p : Record) × (o ≡ Some p) × (lends_to pid p ≡ true)
found_lender None pid e = absurd (let z : false ≡ true = e in cc)
found_lender (Some p) pid e = (p, refl, e)

-- where no process lends in its new record, none does
none_over : (ps : List Record) (g : Proc → Proc) (pid : ℕ)
    → ((n : ℕ) (x : Record) → find n ps ≡ Some x → (let y : Proc = g (proc_shown x) in lends_life pid y.life) ≡ false)
    → (ns : List ℕ) → has_lender (map g (filter_map (λ n. proc_of_record (find n ps)) ns)) pid ≡ false
none_over ps g pid each [] = refl
none_over ps g pid each (n ∷ ns) = go (find n ps) refl (none_over ps g pid each ns)
  where
    shown : ℕ → Option Proc
    shown m = proc_of_record (find m ps)

    go : (o : Option Record) → find n ps ≡ o → has_lender (map g (filter_map shown ns)) pid ≡ false → has_lender (map g (filter_map shown (n ∷ ns))) pid ≡ false
    go None f more = ap (λ (qs : List Proc). has_lender (map g qs) pid) (keeps_none shown n ns (ap proc_of_record f)) ∙ more
    go (Some x) f more =
        ap (λ (qs : List Proc). has_lender (map g qs) pid) (keeps_some shown n ns (proc_shown x) (ap proc_of_record f))
        ∙ ap (λ (b : Bool). b || has_lender (map g (filter_map shown ns)) pid) (each n x f) ∙ more

module _ (k : Kernel) (ps : List Record) (next child : ℕ) (is : k.processes ≡ processes_of ps next) (h : AreRecords ps next) (holds : IsHolder (life_in k child))
    (borrowed : has_lender k.processes child ≡ true) where
  at : (n : ℕ) → numbered (λ (p : Proc). p.pid) n k.processes ≡ proc_of_record (find n ps)
  at n = ap (numbered (λ (p : Proc). p.pid) n) is ∙ process_is ps next n h

  lends_there : lends_in child (find (lender_among k.processes child) ps) ≡ true
  lends_there =
      let f = first_over ps child (next - 1) 1 (sym (ap (λ (qs : List Proc). has_lender qs child) is) ∙ borrowed) in
      ap (λ (qs : List Proc). lends_in child (find (lender_among qs child) ps)) is ∙ f.lends

  pub lending : (lent : ℕ) × (life_in k (lender_among k.processes child) ≡ LendsSpace lent child)
  lending =
      let x = found_lender (find (lender_among k.processes child) ps) child lends_there in
      let l = lends_life_is x.0.state child x.2 in
      (l.0, ap life_of_proc (at (lender_among k.processes child) ∙ ap proc_of_record x.1) ∙ l.1)

  pub may_return : MayPass (life_in k child) (life_in k (lender_among k.processes child)) child
  may_return =
      subst (λ (l : Life). MayPass (life_in k child) l child) (sym lending.1)
      (subst (λ (l : Life). MayPass l (LendsSpace lending.0 child) child) (sym (holds_some (life_in k child) holds)) refl)

  pub lender_alive : are_alive k.processes (lender_among k.processes child) ≡ true
  lender_alive =
      let x = found_lender (find (lender_among k.processes child) ps) child lends_there in
      let l = lends_life_is x.0.state child x.2 in
      ap lives_in (at (lender_among k.processes child) ∙ ap proc_of_record x.1) ∙ ap has_life l.1

  apart : lender_among k.processes child ≢ child
  apart i =
      let both : HoldsSpace (space_of_life (life_in k child)) ≡ LendsSpace lending.0 child = sym (holds_some (life_in k child) holds) ∙ sym (ap (life_in k) i) ∙ lending.1 in
      absurd cc

  abbrev sid : ℕ
  sid = space_of_life (life_in k child)

  abbrev passed : Proc → Proc
  passed q = record q { life = passed_life sid child (lender_among k.processes child) (life_in k (lender_among k.processes child)) q }

  lent_by_none : (n : ℕ) (x : Record) → find n ps ≡ Some x → (let y : Proc = passed (proc_shown x) in lends_life child y.life) ≡ false
  lent_by_none n x f = go (x.pid == child) (x.pid == lender_among k.processes child) refl refl
    where
      other : (b : Bool) → x.pid ≢ lender_among k.processes child → lends_to child x ≡ b → b ≡ false
      other false d e = refl
      other true d e =
          let y = found_lender (find (lender_among k.processes child) ps) child lends_there in
          absurd (d (found_pid n ps x f ∙ h.one child n (lender_among k.processes child) x y.0 f y.1 e y.2))

      go : (a b : Bool) → (x.pid == child) ≡ a → (x.pid == lender_among k.processes child) ≡ b
          → lends_life child (cond a (pass_from sid (lender_among k.processes child) (life_in k (lender_among k.processes child))) (cond b (HoldsSpace sid) (life_shown x.state))) ≡ false
      go true b i j = ap (λ (l : Life). lends_life child (pass_from sid (lender_among k.processes child) l)) lending.1
      go false true i j = refl
      go false false i j =
          lends_shown child x.state
          ∙ other (lends_to child x)
          (λ e. true_false (x.pid == lender_among k.processes child) (ap (λ (m : ℕ). m == lender_among k.processes child) e ∙ eq_self (lender_among k.processes child)) j) refl

  pub has_returned : HasGivenBack k (pass_step k child (lender_among k.processes child)) child (lender_among k.processes child)
  has_returned =
      let held = holder_there k child holds in
      let there = alive_there k (lender_among k.processes child) lender_alive in
      record {
        sid = space_of_life (life_in k child);
        held = holds_some (life_in k child) holds;
        lent = lending.0;
        lends = lending.1;
        holds = takes k child (lender_among k.processes child) there.0 apart there.1;
        left = gives k child (lender_among k.processes child) held.0 held.1 ∙ ap (pass_from (space_of_life (life_in k child)) (lender_among k.processes child)) lending.1;
        none = ap (λ (qs : List Proc). has_lender (map passed qs) child) is ∙ none_over ps passed child lent_by_none (range_with_len 1 (next - 1));
        others = stays k child (lender_among k.processes child);
      }

-- what the walk finds
pub walked_to : (k : Kernel) (ps : List Record) (next child : ℕ) (o : Option ℕ) → k.processes ≡ processes_of ps next → has_lender k.processes child ≡ true
    → Lowest (IsLender ps child) o → o ≡ Some (lender_among k.processes child)
walked_to k ps next child o is borrowed l =
    first_is ps next child o l (sym (ap (λ (qs : List Proc). has_lender qs child) is) ∙ borrowed) ∙ ap (λ (qs : List Proc). Some (lender_among qs child)) (sym is)
