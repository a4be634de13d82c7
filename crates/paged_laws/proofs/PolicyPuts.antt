-- The units by which the policy puts a process out: any policy may take them.
use Rattle.std.proofs.Common.{◌≡◌, ◌≢◌, ℕ, zero, suc, ◌+◌, ◌<◌, ◌≤◌, ◌==◌, Bool, true, false, cond, not, ◌&&◌, List, [], ◌∷◌, ◌++◌, map, find, Option, Some, None, refl, sym, ap, ◌∙◌, subst, arith}
use Rattle.std.proofs.lemmas.Bool.{eqb-true, and_parts}
use Rattle.std.proofs.lemmas.Option.{same_Some}
use Rattle.vm_facts.proofs.Tests.{eq_self}
use Rattle.vm_facts.specs.declared.page.Page.{Page}
use Rattle.vm_facts.specs.declared.page.Page.TheVariants.{Data, Stack, Text}
use Rattle.flat_state.specs.Space.{Space}
use Rattle.flat_state.specs.Flat.{Holding, Holds, Lends, Zombie, Process, FlatState, space_held, process_of, holds_space}
use Rattle.flat_state.specs.Numbers.{IsAbsent, AllDistinct, IsNumbered}
use Rattle.flat_state.specs.Change.{is_borrower}
use Rattle.flat_state.specs.PageNames.{number_of, beside, pages_from}
use Rattle.page_model.specs.Placement.{Placement, IsThere, is_dirty}
use Rattle.page_model.specs.Place.{data_from, stack_from, pages_of_space, space_of_process, data_count, stack_count, space_of_holding}
use Rattle.page_model.specs.Runs.{run_up, run_put, run_put_by, is_near, is_seated, is_seated_by, most_written}
use Rattle.page_model.specs.Serve.{is_full}
use Rattle.page_model.specs.Swapper.{is_out, is_settled, first_seated}
use Rattle.page_model.specs.Conditions.{EachPage}
use Rattle.page_laws.proofs.Lists.Runs.{run_up_in, run_each, each_page_append}
use Rattle.page_laws.proofs.Ownership.Serve.{state_there}
use Rattle.page_laws.proofs.Runs.Widest.{above_le}
use Rattle.page_laws.proofs.Swapper.PuttingOut.{seated_first}
use Rattle.kernel_model.specs.Stands.{holds_some}
use Rattle.paged_model.specs.declared.reason.Reason.{Reason}
use Rattle.paged_model.specs.declared.reason.Reason.TheVariants as reasons
use Rattle.paged_model.specs.Reasons.{unless, or_reason}
use Rattle.paged_model.specs.Moves.{is_there, if_there, due_first, wrong_length, each_page, apart, no_room}
use Rattle.paged_model.specs.Leaving.{may_not_go, holds_it, holder_by, holder_stays, owner_stays, unseated_if, unseated, put_along, put_reason_by, put_reason, still_seated, out_by, out_if, out_reason}
use Rattle.paged_model.proofs.Reasoned.{none_or, none_unless}
use Rattle.paged_model.proofs.PartReasons.{right_length}
use Rattle.kernel_laws.proofs.Flat.Lists.{held}
use Rattle.kernel_laws.proofs.Sound.Begins.{differs}
use Rattle.paged_laws.proofs.ReadRuns.{there_none, room_none, each_none, near_self, apart_none}

-- The process that holds a space is found by it.

abbrev sids : List Space → List ℕ
sids ss = map (λ (s : Space). s.sid) ss

-- a number that no space of these processes has
held_apart : (n : ℕ) (ps : List Process) (pid : ℕ) (q : Process) (s : Space) → IsAbsent n (sids (held ps)) → find (λ (x : Process). x.pid == pid) ps ≡ Some q
    → q.holding ≡ Holds s → s.sid ≢ n
held_apart n [] pid q s a e h = absurd cc
held_apart n (x ∷ xs) pid q s a e h = go (x.pid == pid) e (held_apart n xs pid q s)
  where
    later : (k : Holding) → IsAbsent n (sids (space_held k ++ held xs)) → IsAbsent n (sids (held xs))
    later (Holds y) b = b.1
    later (Lends sid child) b = b
    later (Zombie status) b = b

    first : (k : Holding) → k ≡ Holds s → IsAbsent n (sids (space_held k ++ held xs)) → s.sid ≢ n
    first k i b = (subst (λ (z : Holding). IsAbsent n (sids (space_held z ++ held xs))) i b).0

    go : (t : Bool) → cond t (Some x) (find (λ (y : Process). y.pid == pid) xs) ≡ Some q
        → (IsAbsent n (sids (held xs)) → find (λ (y : Process). y.pid == pid) xs ≡ Some q → q.holding ≡ Holds s → s.sid ≢ n) → s.sid ≢ n
    go true k ih = first x.holding (ap (λ (y : Process). y.holding) (same_Some x q k) ∙ h) a
    go false k ih = ih (later x.holding a) k h

held_found : (ps : List Process) (pid : ℕ) (q : Process) (s : Space) → AllDistinct (sids (held ps)) → find (λ (x : Process). x.pid == pid) ps ≡ Some q
    → q.holding ≡ Holds s → find (λ (x : Process). holds_it s.sid x.holding) ps ≡ Some q
held_found [] pid q s d e h = absurd cc
held_found (x ∷ xs) pid q s d e h = go (x.pid == pid) e (held_found xs pid q s)
  where
    rest : Option Process
    rest = find (λ (y : Process). holds_it s.sid y.holding) xs

    skip : (k : Holding) → find (λ (y : Process). y.pid == pid) xs ≡ Some q → AllDistinct (sids (space_held k ++ held xs))
        → (AllDistinct (sids (held xs)) → rest ≡ Some q) → cond (holds_it s.sid k) (Some x) rest ≡ Some q
    skip (Holds y) f b more =
        ap (λ (t : Bool). cond t (Some x) rest) (differs y.sid s.sid (λ i. held_apart y.sid xs pid q s b.0 f h (sym i))) ∙ more b.1
    skip (Lends sid child) f b more = more b
    skip (Zombie status) f b more = more b

    go : (t : Bool) → cond t (Some x) (find (λ (y : Process). y.pid == pid) xs) ≡ Some q
        → (AllDistinct (sids (held xs)) → find (λ (y : Process). y.pid == pid) xs ≡ Some q → q.holding ≡ Holds s
        → find (λ (y : Process). holds_it s.sid y.holding) xs ≡ Some q) → cond (holds_it s.sid x.holding) (Some x) rest ≡ Some q
    go true k ih =
        ap (λ (t : Bool). cond t (Some x) rest)
        (ap (λ (y : Process). holds_it s.sid y.holding) (same_Some x q k) ∙ ap (holds_it s.sid) h ∙ eq_self s.sid) ∙ k
    go false k ih = skip x.holding k d (λ b. ih b k h)

found_pid : (ps : List Process) (pid : ℕ) (q : Process) → find (λ (x : Process). x.pid == pid) ps ≡ Some q → q.pid ≡ pid
found_pid [] pid q e = absurd cc
found_pid (x ∷ xs) pid q e = go (x.pid == pid) refl e (found_pid xs pid q)
  where
    go : (t : Bool) → (x.pid == pid) ≡ t → cond t (Some x) (find (λ (y : Process). y.pid == pid) xs) ≡ Some q
        → (find (λ (y : Process). y.pid == pid) xs ≡ Some q → q.pid ≡ pid) → q.pid ≡ pid
    go true i k ih = ap (λ (y : Process). y.pid) (sym (same_Some x q k)) ∙ eqb-true x.pid pid i
    go false i k ih = ih k

module _ (F : FlatState) (p : Placement) (pid : ℕ) where
  -- who may go out: it is in, and didn't borrow
  record Leaves : Type 0 where
    process : Process
    space : Space
    there : process_of F pid ≡ Some process
    holds : process.holding ≡ Holds space
    owns : is_borrower F.processes pid ≡ false
    resident : is_out p pid ≡ false

  leaves_of : holds_some (process_of F pid) ≡ true → is_borrower F.processes pid ≡ false → is_out p pid ≡ false → Leaves
  leaves_of h b o = go (process_of F pid) refl h
    where
      by : (q : Process) (k : Holding) → process_of F pid ≡ Some q → q.holding ≡ k → holds_space k ≡ true → Leaves
      by q (Holds s) i j e = record { process = q; space = s; there = i; holds = j; owns = b; resident = o }
      by q (Lends sid child) i j e = absurd cc
      by q (Zombie status) i j e = absurd cc

      go : (x : Option Process) → process_of F pid ≡ x → holds_some x ≡ true → Leaves
      go None i e = absurd cc
      go (Some q) i e = by q q.holding i refl e

  may_none : is_borrower F.processes pid ≡ false → is_out p pid ≡ false → may_not_go F p pid ≡ None
  may_none b o =
      none_or (unless (not (is_borrower F.processes pid)) (reasons.Borrowed pid)) (unless (not (is_out p pid)) (reasons.IsOut pid))
      (none_unless (not (is_borrower F.processes pid)) (reasons.Borrowed pid) (ap not b)) (none_unless (not (is_out p pid)) (reasons.IsOut pid) (ap not o))

  holder_none : (l : Leaves) → IsNumbered F → holder_stays F p l.space.sid ≡ None
  holder_none l nums =
      ap (holder_by F p l.space.sid) (held_found F.processes pid l.process l.space nums.sids l.there l.holds)
      ∙ ap (may_not_go F p) (found_pid F.processes pid l.process l.there) ∙ may_none l.owns l.resident

  space_is : (l : Leaves) → space_of_process (process_of F pid) ≡ l.space.sid
  space_is l = ap space_of_process l.there ∙ ap space_of_holding l.holds

-- Pages of a space.

-- the page is of the space's own
abbrev IsOwn : ℕ → Page → Type 0
IsOwn sid (Data s v) = s ≡ sid
IsOwn sid (Stack s v) = s ≡ sid
IsOwn sid (Text image v) = ⊥

own_data : (sid lo n : ℕ) → EachPage (IsOwn sid) (pages_from (Data sid 0) lo n)
own_data sid lo zero = tt
own_data sid lo (suc n) = (refl, own_data sid (lo + 1) n)

own_stack : (sid lo n : ℕ) → EachPage (IsOwn sid) (pages_from (Stack sid 0) lo n)
own_stack sid lo zero = tt
own_stack sid lo (suc n) = (refl, own_stack sid (lo + 1) n)

first_each : (P : Page → Type 0) (p : Placement) (qs : List Page) (v : Page) → EachPage P qs → first_seated p qs ≡ Some v → P v
first_each P p [] v a e = absurd cc
first_each P p (q ∷ qs) v a e = go (is_seated p q) e (first_each P p qs v a.1)
  where
    go : (t : Bool) → cond t (Some q) (first_seated p qs) ≡ Some v → (first_seated p qs ≡ Some v → P v) → P v
    go true k ih = subst P (same_Some q v k) a.0
    go false k ih = ih k

own_first : (p : Placement) (sid : ℕ) (v : Page) → first_seated p (pages_of_space p sid) ≡ Some v → IsOwn sid v
own_first p sid v e =
    first_each (IsOwn sid) p (pages_of_space p sid) v
    (each_page_append (IsOwn sid) (data_from sid 0 (data_count p sid)) (stack_from sid 0 (stack_count p sid)) (own_data sid 0 (data_count p sid)) (own_stack sid 0 (stack_count p sid))) e

owner_none : (F : FlatState) (p : Placement) (sid : ℕ) (v : Page) → IsOwn sid v → holder_stays F p sid ≡ None → owner_stays F p v ≡ None
owner_none F p sid (Data s w) o e = ap (holder_stays F p) o ∙ e
owner_none F p sid (Stack s w) o e = ap (holder_stays F p) o ∙ e
owner_none F p sid (Text image w) o e = absurd o

-- `P`.

seated_there : (p : Placement) (v : Page) → is_seated p v ≡ true → IsThere p v
seated_there p v e = state_there p v (λ u. let x : true ≡ false = sym e ∙ ap (is_seated_by p) u in absurd cc)

along_none : (p : Placement) (q w : Page) → is_seated p w ≡ true → is_dirty p w ≡ true → apart q w ≡ None → put_along p q w ≡ None
along_none p q w s d n =
    there_none p w (or_reason (unseated p w) (or_reason (unless (is_dirty p w) (reasons.IsClean w)) (apart q w))) (seated_there p w s)
    (none_or (unseated p w) (or_reason (unless (is_dirty p w) (reasons.IsClean w)) (apart q w)) (ap (unseated_if p w) s)
    (none_or (unless (is_dirty p w) (reasons.IsClean w)) (apart q w) (none_unless (is_dirty p w) (reasons.IsClean w) d) n))

up_short : (passes : ℕ → Bool) (v : ℕ) → (run_up passes v most_written).n ≤ 16
up_short passes v = let l = above_le passes v 15 in omega (arith, l)

up_some : (passes : ℕ → Bool) (v : ℕ) → 0 < (run_up passes v most_written).n
up_some passes v = omega arith

-- what is asked of a page that is there, and of how many are put
abbrev after_there : Placement → Page → ℕ → Option Reason
after_there p v n = or_reason (wrong_length n) (or_reason (unseated p v) (put_reason_by p v n (is_dirty p v)))

put_none : (F : FlatState) (p : Placement) (v : Page) → p.due ≡ [] → owner_stays F p v ≡ None → is_seated p v ≡ true → (is_dirty p v && is_full p) ≡ false
    → put_reason F p v (run_put p v).n ≡ None
put_none F p v clear owner s f =
    none_or (due_first p.due) (or_reason (owner_stays F p v) (if_there (is_there p v) v (after_there p v (run_put p v).n))) (ap due_first clear)
    (none_or (owner_stays F p v) (if_there (is_there p v) v (after_there p v (run_put p v).n)) owner
    (there_none p v (after_there p v (run_put p v).n) (seated_there p v s) (go (is_dirty p v) refl f)))
  where
    passes : ℕ → Bool
    passes w = is_seated p (beside v w) && (is_dirty p (beside v w) && is_near v w)

    each : is_dirty p v ≡ true → EachPage (λ w. put_along p v w ≡ None) (pages_from v (number_of v) (run_up passes (number_of v) most_written).n)
    each d = run_each (λ w. put_along p v w ≡ None) passes v (run_up passes (number_of v) most_written) (run_up_in passes (number_of v) most_written)
        (along_none p v v s d (none_unless (is_near v (number_of v)) (reasons.InOtherChunk v) (near_self v)))
        (λ w e. let a = and_parts (is_seated p (beside v w)) (is_dirty p (beside v w) && is_near v w) e in
        let b = and_parts (is_dirty p (beside v w)) (is_near v w) a.1 in along_none p v (beside v w) a.0 b.0 (apart_none v w b.1))

    go : (d : Bool) → is_dirty p v ≡ d → (d && is_full p) ≡ false → after_there p v (run_put p v).n ≡ None
    go true i e =
        subst (λ (b : Bool). or_reason (wrong_length (run_put_by p v b).n) (or_reason (unseated p v) (put_reason_by p v (run_put_by p v b).n b)) ≡ None) (sym i)
        (none_or (wrong_length (run_put_by p v true).n) (or_reason (unseated p v) (put_reason_by p v (run_put_by p v true).n true))
        (right_length (run_put_by p v true).n (up_some passes (number_of v)) (up_short passes (number_of v)))
        (none_or (unseated p v) (put_reason_by p v (run_put_by p v true).n true) (ap (unseated_if p v) s)
        (none_or (each_page (put_along p v) (pages_from v (number_of v) (run_put_by p v true).n)) (no_room p)
        (each_none (put_along p v) (pages_from v (number_of v) (run_put_by p v true).n) (each i)) (room_none p e))))
    go false i e =
        subst (λ (b : Bool). or_reason (wrong_length (run_put_by p v b).n) (or_reason (unseated p v) (put_reason_by p v (run_put_by p v b).n b)) ≡ None) (sym i)
        (none_or (wrong_length 1) (or_reason (unseated p v) (put_reason_by p v 1 false)) refl (none_or (unseated p v) (put_reason_by p v 1 false) (ap (unseated_if p v) s) refl))

-- who goes out by the policy gives no reason, page by page
module _ (F : FlatState) (p : Placement) (pid : ℕ) (nums : IsNumbered F) (clear : p.due ≡ []) (h : holds_some (process_of F pid) ≡ true)
    (b : is_borrower F.processes pid ≡ false) (o : is_out p pid ≡ false) where
  goer : Leaves F p pid
  goer = leaves_of F p pid h b o

  pub put_first : (v : Page) → first_seated p (pages_of_space p (space_of_process (process_of F pid))) ≡ Some v → (is_dirty p v && is_full p) ≡ false
      → put_reason F p v (run_put p v).n ≡ None
  put_first v e f =
      let l : Leaves F p pid = goer in
      let sid : ℕ = space_of_process (process_of F pid) in
      put_none F p v clear
      (owner_none F p l.space.sid v (subst (λ (n : ℕ). IsOwn n v) (space_is F p pid l) (own_first p sid v e)) (holder_none F p pid l nums))
      (seated_first p (pages_of_space p sid) v e) f

  pub out_last : is_settled p (space_of_process (process_of F pid)) ≡ true → first_seated p (pages_of_space p (space_of_process (process_of F pid))) ≡ None
      → out_reason F p pid ≡ None
  out_last s e =
      let l : Leaves F p pid = goer in
      let at : space_of_process (process_of F pid) ≡ l.space.sid = space_is F p pid l in
      none_or (due_first p.due) (out_if F p pid (process_of F pid)) (ap due_first clear)
      (ap (out_if F p pid) l.there ∙ ap (out_by F p pid) l.holds
      ∙ none_or (may_not_go F p pid) (or_reason (unless (is_settled p l.space.sid) reasons.Unsettled) (still_seated p (first_seated p (pages_of_space p l.space.sid))))
      (may_none F p pid l.owns l.resident)
      (none_or (unless (is_settled p l.space.sid) reasons.Unsettled) (still_seated p (first_seated p (pages_of_space p l.space.sid)))
      (none_unless (is_settled p l.space.sid) reasons.Unsettled (ap (is_settled p) (sym at) ∙ s))
      (ap (λ (n : ℕ). still_seated p (first_seated p (pages_of_space p n))) (sym at) ∙ ap (still_seated p) e)))
