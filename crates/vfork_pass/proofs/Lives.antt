-- What each process has once a space has passed.
use Rattle.std.proofs.Common.{◌≡◌, ◌≢◌, ℕ, ◌==◌, Bool, true, false, cond, Option, Some, None, refl, sym, ap, ◌∙◌, subst}
use Rattle.std.proofs.lemmas.Bool.{ne_eqb}
use Rattle.vm_facts.proofs.Tests.{eq_self}
use Rattle.page_model.specs.Pages.{numbered}
use Rattle.machine_state.proofs.PageLawsListsPages.{mapped}
use Rattle.kernel_model.specs.Kernel.{Life, New, HoldsSpace, LendsSpace, Ended, Proc, Kernel}
use Rattle.kernel_model.specs.Sound.{lives_in, lives}
use Rattle.kernel_model.specs.ChangeStep.{space_of_life, life_of_proc, pass_from, passed_life, pass_step}
use Rattle.machine_state.proofs.Numbered.{has_number, numbered_map}
use Rattle.machine_state.specs.Applying.{MayPass}
use Rattle.machine_state.specs.Calls.{life_in}
use Rattle.vfork_pass.specs.Passed.{IsHolder, HasLent}

module _ (k : Kernel) (from to : ℕ) where
  abbrev pub found : ℕ → Option Proc
  found n = numbered (λ (p : Proc). p.pid) n k.processes

  abbrev pub passed : Proc → Proc
  passed q = record q { life = passed_life (space_of_life (life_in k from)) from to (life_in k to) q }

  now_found : (n : ℕ) → numbered (λ (p : Proc). p.pid) n (pass_step k from to).processes ≡ mapped passed (found n)
  now_found n = numbered_map (λ (p : Proc). p.pid) passed (λ x. refl) n k.processes

  there : (n : ℕ) (q : Proc) → found n ≡ Some q
      → life_in (pass_step k from to) n ≡ passed_life (space_of_life (life_in k from)) from to (life_in k to) q
  there n q e = ap life_of_proc (now_found n) ∙ ap (λ (o : Option Proc). life_of_proc (mapped passed o)) e

  -- the giver
  pub gives : (q : Proc) → found from ≡ Some q → life_in (pass_step k from to) from ≡ pass_from (space_of_life (life_in k from)) to (life_in k to)
  gives q e =
      there from q e
      ∙ ap (λ (b : Bool). cond b (pass_from (space_of_life (life_in k from)) to (life_in k to)) (cond (q.pid == to) (HoldsSpace (space_of_life (life_in k from))) q.life))
      (ap (λ (n : ℕ). n == from) (has_number (λ (p : Proc). p.pid) from k.processes q e) ∙ eq_self from)

  -- the receiver
  pub takes : (q : Proc) → to ≢ from → found to ≡ Some q → life_in (pass_step k from to) to ≡ HoldsSpace (space_of_life (life_in k from))
  takes q d e =
      let is : q.pid ≡ to = has_number (λ (p : Proc). p.pid) to k.processes q e in
      there to q e
      ∙ ap (λ (b : Bool). cond b (pass_from (space_of_life (life_in k from)) to (life_in k to)) (cond (q.pid == to) (HoldsSpace (space_of_life (life_in k from))) q.life))
      (ne_eqb q.pid from (λ i. d (sym is ∙ i)))
      ∙ ap (λ (b : Bool). cond b (HoldsSpace (space_of_life (life_in k from))) q.life) (ap (λ (n : ℕ). n == to) is ∙ eq_self to)

  -- any other
  pub stays : (n : ℕ) → n ≢ from → n ≢ to → life_in (pass_step k from to) n ≡ life_in k n
  stays n c d = go (found n) refl
    where
      go : (o : Option Proc) → found n ≡ o → life_in (pass_step k from to) n ≡ life_in k n
      go None e = ap life_of_proc (now_found n) ∙ ap (λ (o : Option Proc). life_of_proc (mapped passed o)) e ∙ sym (ap life_of_proc e)
      go (Some q) e =
          let is : q.pid ≡ n = has_number (λ (p : Proc). p.pid) n k.processes q e in
          there n q e
          ∙ ap (λ (b : Bool). cond b (pass_from (space_of_life (life_in k from)) to (life_in k to)) (cond (q.pid == to) (HoldsSpace (space_of_life (life_in k from))) q.life))
          (ne_eqb q.pid from (λ i. c (sym is ∙ i)))
          ∙ ap (λ (b : Bool). cond b (HoldsSpace (space_of_life (life_in k from))) q.life) (ne_eqb q.pid to (λ i. d (sym is ∙ i)))
          ∙ sym (ap life_of_proc e)

-- A process that holds a space.

pub holds_some : (l : Life) → IsHolder l → l ≡ HoldsSpace (space_of_life l)
holds_some New h = absurd h
holds_some (HoldsSpace sid) h = refl
holds_some (LendsSpace sid child) h = absurd h
holds_some (Ended status) h = absurd h

pub holder_there : (k : Kernel) (pid : ℕ) → IsHolder (life_in k pid) → (q : Proc) × (numbered (λ (p : Proc). p.pid) pid k.processes ≡ Some q)
holder_there k pid h = go (numbered (λ (p : Proc). p.pid) pid k.processes) refl h
  where
    go : (o : Option Proc) → numbered (λ (p : Proc). p.pid) pid k.processes ≡ o → IsHolder (life_of_proc o)
        → (q : Proc) × (numbered (λ (p : Proc). p.pid) pid k.processes ≡ Some q)
    go None e i = absurd i
    go (Some q) e i = (q, e)

pub may_lend : (l r : Life) (from : ℕ) → IsHolder l → r ≡ New → MayPass l r from
may_lend l r from h e = subst (λ (x : Life). MayPass l x from) (sym e) (subst (λ (x : Life). MayPass x New from) (sym (holds_some l h)) tt)

pub alive_there : (k : Kernel) (pid : ℕ) → lives k.processes pid ≡ true → (q : Proc) × (numbered (λ (p : Proc). p.pid) pid k.processes ≡ Some q)
alive_there k pid h = go (numbered (λ (p : Proc). p.pid) pid k.processes) refl h
  where
    go : (o : Option Proc) → numbered (λ (p : Proc). p.pid) pid k.processes ≡ o → lives_in o ≡ true
        → (q : Proc) × (numbered (λ (p : Proc). p.pid) pid k.processes ≡ Some q)
    go None e i = absurd (let z : false ≡ true = i in cc)
    go (Some q) e i = (q, e)

-- who holds a space isn't one that has none
holder_apart : (l r : Life) → IsHolder l → r ≡ New → r ≡ l → ⊥
holder_apart l r h e i = subst IsHolder (sym i ∙ e) h

pub has_lent : (k : Kernel) (parent child : ℕ) → IsHolder (life_in k parent) → lives k.processes child ≡ true → life_in k child ≡ New
    → HasLent k (pass_step k parent child) parent child
has_lent k parent child h alive fresh =
    let held = holder_there k parent h in
    let there = alive_there k child alive in
    record {
      sid = space_of_life (life_in k parent);
      held = holds_some (life_in k parent) h;
      lends = gives k parent child held.0 held.1 ∙ ap (pass_from (space_of_life (life_in k parent)) child) fresh;
      holds = takes k parent child there.0 (λ i. holder_apart (life_in k parent) (life_in k child) h fresh (ap (life_in k) i)) there.1;
      others = stays k parent child;
    }
