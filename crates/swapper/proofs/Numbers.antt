-- Candidates by their numbers.
use Rattle.std.proofs.Common.{◌≡◌, ℕ, ◌+◌, ◌-◌, ◌<◌, ◌≤◌, ◌&&◌, Bool, true, false, cond, List, [], ◌∷◌, Option, Some, None, IsSome, refl, sym, ap, ◌∙◌, arith}
use Rattle.std.specs.Prelude.{filter_map}
use Rattle.std.specs.List.{range_with_len, filter}
use Rattle.proc_table.specs.declared.process.Proc.{Proc as Record}
use Rattle.proc_table.specs.declared.process.Life.{Life as RecordLife}
use Rattle.proc_table.specs.declared.process.Life.TheVariants as lives
use Rattle.proc_table.specs.Records.{find, Lowest}
use Rattle.page_model.specs.Placement.{Placement, Residence}
use Rattle.page_model.specs.Swapper.{Runner, is_out, since, longest}
use Rattle.page_model.specs.Swapper as swapper
use Rattle.kernel_model.specs.Kernel.{Proc}
use Rattle.kernel_model.specs.Unit.{has_lender}
use Rattle.machine_state.specs.Alike.{AreRecords}
use Rattle.machine_state.specs.Machine.{life_shown, proc_shown, proc_of_record, processes_of, residence_by, residence_shown}
use Rattle.machine_state.proofs.Records.{keeps_none, keeps_some, found_pid}
use Rattle.machine_state.proofs.ByNumber.{over, over_none, over_some, next_follows, none_follows, residence_over}
use Rattle.machine_state.proofs.Listed.{are_marked}
use Rattle.swapper.specs.Runners.{runner_among, runner_from, runners_in, runners_above, HasResidents, kept, longer_of, longer_with, longest_from}

-- Of all runners, those that pass a test.

filter_out : {A : Type 0} (c : A → Bool) (x : A) (xs : List A) → c x ≡ false → filter c (x ∷ xs) ≡ filter c xs
filter_out c x xs e = rw e refl

filter_in : {A : Type 0} (c : A → Bool) (x : A) (xs : List A) → c x ≡ true → filter c (x ∷ xs) ≡ x ∷ filter c xs
filter_in c x xs e = rw e refl

pub filter_both : (f g : Runner → Bool) (xs : List Runner) → filter f (filter g xs) ≡ filter (λ r. g r && f r) xs
filter_both f g [] = refl
filter_both f g (x ∷ xs) = go (g x) refl (f x) refl (filter_both f g xs)
  where
    go : (b : Bool) → g x ≡ b → (d : Bool) → f x ≡ d → filter f (filter g xs) ≡ filter (λ r. g r && f r) xs → filter f (filter g (x ∷ xs)) ≡ filter (λ r. g r && f r) (x ∷ xs)
    go false e d k more =
        ap (filter f) (filter_out g x xs e) ∙ more ∙ sym (filter_out (λ r. g r && f r) x xs (ap (λ (c : Bool). c && f x) e))
    go true e true k more =
        ap (filter f) (filter_in g x xs e) ∙ filter_in f x (filter g xs) k ∙ ap (λ (ys : List Runner). x ∷ ys) more
        ∙ sym (filter_in (λ r. g r && f r) x xs (ap (λ (c : Bool). c && f x) e ∙ k))
    go true e false k more =
        ap (filter f) (filter_in g x xs e) ∙ filter_out f x (filter g xs) k ∙ more
        ∙ sym (filter_out (λ r. g r && f r) x xs (ap (λ (c : Bool). c && f x) e ∙ k))

module _ (test : Runner → Bool) (all : List Proc) (h : ℕ → Option Proc) where
  abbrev show : Proc → Option Runner
  show q = runner_among all q q.life

  abbrev one : ℕ → Option Runner
  one n = kept test (runner_from all (h n))

  pub runners_over : (ns : List ℕ) → filter test (filter_map (λ q. runner_among all q q.life) (filter_map h ns)) ≡ filter_map (λ n. kept test (runner_from all (h n))) ns
  runners_over [] = refl
  runners_over (n ∷ ns) = go (h n) refl (runners_over ns)
    where
      Goal : Type 0
      Goal = filter test (filter_map show (filter_map h (n ∷ ns))) ≡ filter_map one (n ∷ ns)

      test_by : (b : Bool) (q : Proc) (r : Runner) → h n ≡ Some q → show q ≡ Some r → test r ≡ b → filter test (filter_map show (filter_map h ns)) ≡ filter_map one ns
          → filter test (filter_map show (filter_map h (n ∷ ns))) ≡ filter_map one (n ∷ ns)
      test_by true q r e f t more =
          ap (λ (qs : List Proc). filter test (filter_map show qs)) (keeps_some h n ns q e)
          ∙ ap (filter test) (keeps_some show q (filter_map h ns) r f)
          ∙ filter_in test r (filter_map show (filter_map h ns)) t
          ∙ ap (λ (rs : List Runner). r ∷ rs) more
          ∙ sym (keeps_some one n ns r (ap (λ (o : Option Proc). kept test (runner_from all o)) e ∙ ap (kept test) f ∙ ap (λ (b : Bool). cond b (Some r) None) t))
      test_by false q r e f t more =
          ap (λ (qs : List Proc). filter test (filter_map show qs)) (keeps_some h n ns q e)
          ∙ ap (filter test) (keeps_some show q (filter_map h ns) r f)
          ∙ filter_out test r (filter_map show (filter_map h ns)) t
          ∙ more
          ∙ sym (keeps_none one n ns (ap (λ (o : Option Proc). kept test (runner_from all o)) e ∙ ap (kept test) f ∙ ap (λ (b : Bool). cond b (Some r) None) t))

      show_by : (o : Option Runner) (q : Proc) → h n ≡ Some q → show q ≡ o → filter test (filter_map show (filter_map h ns)) ≡ filter_map one ns
          → filter test (filter_map show (filter_map h (n ∷ ns))) ≡ filter_map one (n ∷ ns)
      show_by None q e f more =
          ap (λ (qs : List Proc). filter test (filter_map show qs)) (keeps_some h n ns q e)
          ∙ ap (filter test) (keeps_none show q (filter_map h ns) f)
          ∙ more
          ∙ sym (keeps_none one n ns (ap (λ (o : Option Proc). kept test (runner_from all o)) e ∙ ap (kept test) f))
      show_by (Some r) q e f more = test_by (test r) q r e f refl more

      go : (o : Option Proc) → h n ≡ o → filter test (filter_map show (filter_map h ns)) ≡ filter_map one ns
          → filter test (filter_map show (filter_map h (n ∷ ns))) ≡ filter_map one (n ∷ ns)
      go None e more =
          ap (λ (qs : List Proc). filter test (filter_map show qs)) (keeps_none h n ns e)
          ∙ more
          ∙ sym (keeps_none one n ns (ap (λ (o : Option Proc). kept test (runner_from all o)) e))
      go (Some q) e more = show_by (show q) q e refl more

-- Those above a pid, by the next pid.

module _ (test : Runner → Bool) (ps : List Record) (next : ℕ) where
  pub all_above : runners_above test ps next 0 ≡ filter test (runners_in (processes_of ps next))
  all_above = sym (runners_over test (processes_of ps next) (λ n. proc_of_record (find n ps)) (range_with_len 1 (next - 1)))

  pub above_next : (last pid : ℕ) → AreRecords ps next → Lowest (λ q. (last < q) × IsSome (find q ps)) (Some pid)
      → runners_above test ps next last ≡ over (λ n. kept test (runner_from (processes_of ps next) (proc_of_record (find n ps)))) pid next
  above_next last pid h low = next_follows (λ o. kept test (runner_from (processes_of ps next) (proc_of_record o))) ps next last pid refl h low

  pub above_none : (last : ℕ) → Lowest (λ q. (last < q) × IsSome (find q ps)) None → runners_above test ps next last ≡ []
  above_none last low = none_follows (λ o. kept test (runner_from (processes_of ps next) (proc_of_record o))) ps next last refl low

-- The one that is in or out longest.

longest_cons : (p : Placement) (best : Option Runner) (x : Runner) (xs : List Runner)
    → longest_from p best (x ∷ xs) ≡ longest_from p (Some (longer_of p best x)) xs
longest_cons p None x xs = refl
longest_cons p (Some r) x xs = refl

pub longest_start : (p : Placement) (rs : List Runner) → longest_from p None rs ≡ longest p rs
longest_start p [] = refl
longest_start p (r ∷ rs) = refl

pub longest_last : (p : Placement) (best : Option Runner) → longest_from p best [] ≡ best
longest_last p None = refl
longest_last p (Some r) = refl

pub longest_step : (p : Placement) (best now : Option Runner) (g : ℕ → Option Runner) (v next : ℕ) → v < next → now ≡ longer_with p best (g v)
    → longest_from p now (over g (v + 1) next) ≡ longest_from p best (over g v next)
longest_step p best now g v next l e = go (g v) refl
  where
    go : (o : Option Runner) → g v ≡ o → longest_from p now (over g (v + 1) next) ≡ longest_from p best (over g v next)
    go None f =
        ap (λ (b : Option Runner). longest_from p b (over g (v + 1) next)) (e ∙ ap (longer_with p best) f)
        ∙ sym (ap (longest_from p best) (over_none g v next l f))
    go (Some x) f =
        ap (λ (b : Option Runner). longest_from p b (over g (v + 1) next)) (e ∙ ap (longer_with p best) f)
        ∙ sym (longest_cons p best x (over g (v + 1) next))
        ∙ sym (ap (longest_from p best) (over_some g v next x l f))

-- What is seen of a record.

-- its mark says whether it is lent its space
lent : (ps : List Record) (next pid : ℕ) (x : Record) → AreRecords ps next → find pid ps ≡ Some x → x.borrowed ≡ has_lender (processes_of ps next) x.pid
lent ps next pid x h e = are_marked ps next h pid x e ∙ ap (has_lender (processes_of ps next)) (sym (found_pid pid ps x e))

pub seen_from : (ps : List Record) (next pid : ℕ) (x : Record) (sid : ℕ) → AreRecords ps next → find pid ps ≡ Some x → x.state ≡ lives.Holds sid
    → Some (let r : Runner = record { pid = x.pid; sid = sid; borrowed = x.borrowed; asleep = x.asleep } in r)
    ≡ runner_from (processes_of ps next) (proc_of_record (find pid ps))
seen_from ps next pid x sid h e s =
    ap (λ (b : Bool). Some (let r : Runner = record { pid = x.pid; sid = sid; borrowed = b; asleep = x.asleep } in r)) (lent ps next pid x h e)
    ∙ sym (ap (λ (l : RecordLife). runner_among (processes_of ps next) (proc_shown x) (life_shown l)) s)
    ∙ sym (ap (λ (o : Option Record). runner_from (processes_of ps next) (proc_of_record o)) e)

-- What the placement has of a record.

pub placed : (p : Placement) (ps : List Record) (next pid : ℕ) (x : Record) (sid : ℕ) → HasResidents p ps next → 1 ≤ pid → pid < next → find pid ps ≡ Some x
    → x.state ≡ lives.Holds sid
    → (x.out ≡ is_out p x.pid) × (x.since ≡ (swapper.residence_of p.residents x.pid).since)
placed p ps next pid x sid h l m e s = (ap (λ (y : Residence). y.out) same, ap (λ (y : Residence). y.since) same)
  where
    r : Residence
    r = record { pid = x.pid; out = x.out; since = x.since }

    same : (let y : Residence = record { pid = x.pid; out = x.out; since = x.since } in y) ≡ swapper.residence_of p.residents x.pid
    same = sym (
        ap (λ (n : ℕ). swapper.residence_of p.residents n) (found_pid pid ps x e)
        ∙ ap (λ (rs : List Residence). swapper.residence_of rs pid) h
        ∙ residence_over ps pid (record { pid = x.pid; out = x.out; since = x.since }) 1 (next - 1) l (omega arith) (ap residence_shown e ∙ ap (residence_by x) s))
