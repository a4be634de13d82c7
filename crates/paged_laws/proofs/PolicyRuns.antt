-- A run by the policy is one that any policy may make.
use Rattle.std.proofs.Common.{◌≡◌, ℕ, ◌+◌, ◌<◌, ◌≤◌, ◌==◌, Bool, true, false, ◌&&◌, List, [], ◌∷◌, ◌++◌, length, Option, Some, None, refl, sym, ap, ◌∙◌, subst, arith, nat_lt}
use Rattle.vm_facts.proofs.Tests.{eq_self}
use Rattle.vm_facts.specs.declared.entry.Entry.{Entry}
use Rattle.vm_facts.specs.declared.entry.Entry.TheVariants as entries
use Rattle.swap_book.specs.Holdings.{Holdings}
use Rattle.flat_state.specs.Flat.{Process, Inputs, process_of, can_step, ready_if}
use Rattle.flat_state.specs.Journal.{units_with, units_of, AllUnits}
use Rattle.flat_state.specs.Change.{is_borrower}
use Rattle.flat_state.specs.Numbers.{IsNumbered}
use Rattle.flat_state.proofs.Joins.{units-append, appended_units}
use Rattle.page_model.specs.Place.{space_of_process, pages_of_space}
use Rattle.page_model.specs.Runs.{run_put}
use Rattle.page_model.specs.Swapper.{is_out, put_out_unit, first_seated, is_settled}
use Rattle.page_laws.proofs.Swapper.PuttingOut.{unit_case}
use Rattle.kernel_model.specs.Stands.{holds_some}
use Rattle.kernel_model.specs.Start.{ImagesFit}
use Rattle.run_model.specs.declared.mark.Mark.{Mark}
use Rattle.run_model.specs.declared.mark.Mark.TheVariants as marks
use Rattle.run_model.specs.State.{State, start}
use Rattle.run_model.specs.After.{after}
use Rattle.run_model.specs.Next.{turn_instructions, owners_entry, last_turned, next_mark, next_unit}
use Rattle.run_model.specs.Kinds.{Comes, Kind, Fills, Brings, Copies, ServesWanted, Acts, ProcessComes, Interrupts, HandsMove, ProcessGoes, Notes, Begins}
use Rattle.run_model.specs.Lawful.{Follows, Reaches}
use Rattle.run_model.proofs.NextUnits.{kind_of}
use Rattle.run_laws.specs.Standing.{MarkStands}
use Rattle.run_laws.specs.Flowing.{WaitsBy, Flows}
use Rattle.run_laws.specs.Running.{IsRun, CanRun}
use Rattle.run_laws.proofs.Lawful.{all_units}
use Rattle.run_laws.proofs.Settling.{IsMark, begins_is}
use Rattle.run_laws.proofs.Turning.{next_begins, turned_ready}
use Rattle.run_laws.proofs.Wholes.{unit_run, start_run}
use Rattle.paged_model.specs.declared.reason.Reason.TheVariants as reasons
use Rattle.paged_model.specs.Moves.{due_first}
use Rattle.paged_model.specs.Leaving.{put_reason, out_reason, in_if, in_reason}
use Rattle.paged_model.specs.Steps.{begun, event_reason, turn_reason, same_owners, owners_reason}
use Rattle.paged_model.specs.Runs.{mark_by, paged_after, paged_state, unit_reason, units_reason, line_reason, line_after, misstep_from, IsPagedRun}
use Rattle.paged_model.proofs.Reasoned.{or_none, none_or, none_unless, line_good}
use Rattle.paged_laws.proofs.Agreeing.{AgreesBy, Agrees}
use Rattle.paged_laws.proofs.Marked.{move_goes, in_goes, out_goes, event_goes, turn_goes}
use Rattle.paged_laws.proofs.Virtual.{both}
use Rattle.paged_laws.proofs.PolicyPages.{seen_as, NotDone, Fine, paged_same, plain_begun, fill_fine, bring_fine, copy_fine, serve_fine, done_fine, move_fine}
use Rattle.paged_laws.proofs.PolicySteps.{can_none, act_fine}
use Rattle.paged_laws.proofs.PolicyPuts.{put_first, out_last}
use Rattle.vm_facts.specs.declared.page.Page.{Page}
use Rattle.page_model.specs.Serve.{is_full}
use Rattle.page_model.specs.Placement.{Transfer, is_dirty}
use Rattle.flat_model.specs.Run.{process_of_entry}

-- who is there comes in, where it is out
in_none : (s : State) (pid : ℕ) → s.place.due ≡ [] → is_out s.place pid ≡ true → (o : Option Process) → process_of s.point.flat pid ≡ o → (o ≡ None → ⊥)
    → in_reason s.point.flat s.place pid ≡ None
in_none s pid d out None i n = absurd (n refl)
in_none s pid d out (Some q) i n =
    none_or (due_first s.place.due) (in_if s.place pid (process_of s.point.flat pid)) (ap due_first d)
    (ap (in_if s.place pid) i ∙ none_unless (is_out s.place pid) (reasons.IsIn pid) out)

held_there : (o : Option Process) → holds_some o ≡ true → o ≡ None → ⊥
held_there None e i = absurd cc
held_there (Some q) e i = absurd cc

ready_there : (o : Option Process) → ready_if o ≡ true → o ≡ None → ⊥
ready_there None e i = absurd cc
ready_there (Some q) e i = absurd cc

first_of : (a b : Bool) → (a && b) ≡ true → a ≡ true
first_of true b e = refl
first_of false b e = absurd cc

-- numbers of frames and blocks
abbrev IsOwners : Entry → Type 0
IsOwners (entries.Owners f x y z) = Unit {0}
IsOwners _ = ⊥

owners_self : (e : Entry) → IsOwners e → same_owners e e ≡ true
owners_self (entries.Owners f x y z) k =
    both (f == f) ((x == x) && ((y == y) && (z == z))) (eq_self f)
    (both (x == x) ((y == y) && (z == z)) (eq_self x) (both (y == y) (z == z) (eq_self y) (eq_self z)))
owners_self _ k = absurd k

module _ (A : Inputs) (s : State) (m : Mark) (u : Entry) (h : next_unit A s ≡ Some u) (r : IsRun A s) (a : Agrees s m) (enough : 64 ≤ A.frames) where
  waits : WaitsBy A s s.point.last
  waits = let f : Flows A s = r.flows in f.waits

  none_begun : (e : Entry) → u ≡ e → process_of_entry e ≡ None → NotDone e → begun s.point.last ≡ None
  none_begun e i p n = plain_begun A s e waits (h ∙ ap (λ (x : Entry). Some x) i) p n

  in_fine : (pid : ℕ) → s.place.due ≡ [] → Comes A s s.mark pid → u ≡ entries.SwapIn pid → Fine A s m u
  unfolding unit_reason
  in_fine pid d c i = subst (Fine A s m) (sym i) (record {
    reason = none_or (begun s.point.last) (in_reason s.point.flat s.place pid) (none_begun (entries.SwapIn pid) i refl tt) (by s.mark refl c);
    same = λ k. absurd k;
    goes = in_goes A s m a s.mark pid refl c a;
  })
    where
      by : (k : Mark) → s.mark ≡ k → Comes A s k pid → in_reason s.point.flat s.place pid ≡ None
      by (marks.BringIn p) j e =
          let x : (s.place.due ≡ []) × (holds_some (process_of s.point.flat p) ≡ true) × (is_out s.place p ≡ true) = subst (MarkStands s) j r.mark in
          subst (λ (n : ℕ). in_reason s.point.flat s.place n ≡ None) e
          (in_none s p x.0 x.2 (process_of s.point.flat p) refl (held_there (process_of s.point.flat p) x.1))
      by (marks.Turn p since) j e =
          let g = e.1 in
          in_none s pid d e.2 (process_of s.point.flat pid) refl (ready_there (process_of s.point.flat pid)
          (first_of (can_step s.point.flat pid) (nat_lt s.count A.limit && nat_lt s.count (since + turn_instructions)) g))
      by _ j e = absurd e

  put_fine : (pid : ℕ) → s.place.due ≡ [] → s.mark ≡ marks.PutOut pid → u ≡ put_out_unit s.place pid (space_of_process (process_of s.point.flat pid)) → Fine A s m u
  unfolding unit_reason
  put_fine pid d k i =
      subst (Fine A s m) (sym i) (unit_case (λ (x : Entry). u ≡ x → Fine A s m x) s.place pid (space_of_process (process_of s.point.flat pid)) ends puts leaves i)
    where
      stands : (s.place.due ≡ []) × (holds_some (process_of s.point.flat pid) ≡ true) × (is_out s.place pid ≡ false)
      stands = subst (MarkStands s) k r.mark

      own : is_borrower s.point.flat.processes pid ≡ false
      own = let x : (m ≡ marks.Over) × (is_borrower s.point.flat.processes pid ≡ false) = subst (λ (x : Mark). AgreesBy x s m) k a in x.1

      ends : (t : Transfer) (ts : List Transfer) → s.place.transfers ≡ t ∷ ts
          → u ≡ entries.Done → Fine A s m entries.Done
      ends t ts e j = subst (Fine A s m) j (done_fine A s m u h r a enough j (subst (λ (l : List Transfer). 0 < length l) (sym e) (omega arith)))

      puts : (v : Page) → is_settled s.place (space_of_process (process_of s.point.flat pid)) ≡ true
          → first_seated s.place (pages_of_space s.place (space_of_process (process_of s.point.flat pid))) ≡ Some v
          → (is_dirty s.place v && is_full s.place) ≡ false
          → u ≡ entries.Put v (run_put s.place v).n → Fine A s m (entries.Put v (run_put s.place v).n)
      puts v e f full j = record {
        reason = none_or (begun s.point.last) (put_reason s.point.flat s.place v (run_put s.place v).n) (none_begun (entries.Put v (run_put s.place v).n) j refl tt)
            (put_first s.point.flat s.place pid r.numbers d stands.1 own stands.2 v f full);
        same = λ z. absurd z;
        goes = move_goes A s m a (entries.Put v (run_put s.place v).n) tt;
      }

      leaves : is_settled s.place (space_of_process (process_of s.point.flat pid)) ≡ true
          → first_seated s.place (pages_of_space s.place (space_of_process (process_of s.point.flat pid))) ≡ None
          → u ≡ entries.SwapOut pid → Fine A s m (entries.SwapOut pid)
      leaves e f j = record {
        reason = none_or (begun s.point.last) (out_reason s.point.flat s.place pid) (none_begun (entries.SwapOut pid) j refl tt)
            (out_last s.point.flat s.place pid r.numbers d stands.1 own stands.2 e f);
        same = λ z. absurd z;
        goes = out_goes A s m a pid k;
      }

  note_fine : u ≡ owners_entry s → Fine A s m u
  unfolding unit_reason
  note_fine i = subst (Fine A s m) (sym i) (record {
    reason = none_or (begun s.point.last) (owners_reason (seen_as s m) (owners_entry s)) (none_begun (owners_entry s) i refl tt)
        (none_unless (same_owners (owners_entry s) (owners_entry s)) (reasons.Comes (owners_entry s)) (owners_self (owners_entry s) tt));
    same = λ z. absurd z;
    goes = move_goes A s m a (owners_entry s) tt;
  })

  mark_fine : next_mark A s ≡ Some u → Fine A s m u
  unfolding unit_reason
  mark_fine i = begins_is (λ (x : Entry). next_unit A s ≡ Some x → Fine A s m x) A s u i each h
    where
      each : (x : Entry) → IsMark x → next_unit A s ≡ Some x → Fine A s m x
      each (entries.Event line) k n =
          let b : (line ≡ s.lines + 1) × (s.lines < length A.lines) = next_begins A s (entries.Event line) tt n in
          record {
            reason = none_or (begun s.point.last) (event_reason s line) (plain_begun A s (entries.Event line) waits n refl tt)
                (none_unless (line == s.lines + 1) (reasons.Comes (entries.Event (s.lines + 1))) (ap (λ (z : ℕ). z == s.lines + 1) b.0 ∙ eq_self (s.lines + 1)));
            same = λ z. absurd z;
            goes = event_goes A s m a line;
          }
      each (entries.Turn pid) k n =
          let b = (next_begins A s (entries.Turn pid) tt n).1 in
          let nums : IsNumbered s.point.flat = r.numbers in
          record {
            reason = none_or (begun s.point.last) (turn_reason A (seen_as s m) pid) (plain_begun A s (entries.Turn pid) waits n refl tt)
                (can_none A (seen_as s m) pid (turned_ready s.point.flat (last_turned s.mark) pid nums.pids b));
            same = λ z. absurd z;
            goes = turn_goes A s m a pid;
          }
      each _ k n = absurd k

  next_fine : Fine A s m u
  next_fine = go (kind_of A s u h)
    where
      go : Kind A s u → Fine A s m u
      go (Fills q due e i) = fill_fine A s m u h r a enough q due e i
      go (Brings q parent due e i) = bring_fine A s m u h r a enough q parent due e i
      go (Copies q parent due e k i) = copy_fine A s m u h r a enough q parent due e k i
      go (ServesWanted pid now q x w i) = serve_fine A s m u h r a enough pid now q x w i
      go (Acts pid now x w i) = act_fine A s m u h r a enough pid now x i
      go (ProcessComes pid e c i) = in_fine pid e c i
      go (Interrupts e k i) = done_fine A s m u h r a enough i (let x : (s.place.due ≡ []) × (0 < length s.place.transfers) = subst (MarkStands s) k r.mark in x.1)
      go (HandsMove count e k l w i) = move_fine A s m u h r a enough count k w i
      go (ProcessGoes pid e k i) = put_fine pid e k i
      go (Notes e k i) = note_fine i
      go (Begins e k i) = mark_fine i

-- Units after units.

policy_units : (A : Inputs) (us : List Entry) (s t : State) (m : Mark) → ImagesFit A.images → 64 ≤ A.frames → IsRun A s → Agrees s m → Follows A s us t
    → units_reason A (seen_as s m) us ≡ None
unfolding units_reason
policy_units A [] s t m images l r a f = refl
policy_units A (u ∷ us) s t m images l r a f =
    let x : Fine A s m u = next_fine A s m u f.0 r a l in
    none_or (unit_reason A (seen_as s m) u) (units_reason A (paged_after A (seen_as s m) u) us) x.reason
    (subst (λ (v : State). units_reason A v us ≡ None) (sym (paged_same A s m u x.same))
    (policy_units A us (after A s u) t (mark_by (seen_as s m) u) images l (unit_run A s u images r f.0) x.goes f.1))

-- Lines.

units_parts : (A : Inputs) (s : State) (us vs : List Entry) → units_reason A s (us ++ vs) ≡ None
    → (units_reason A s us ≡ None) × (units_reason A (paged_state A s us) vs ≡ None)
unfolding units_reason paged_state
units_parts A s [] vs e = (refl, e)
units_parts A s (u ∷ us) vs e =
    let o = or_none (unit_reason A s u) (units_reason A (paged_after A s u) (us ++ vs)) e in
    let x = units_parts A (paged_after A s u) us vs o.1 in
    (none_or (unit_reason A s u) (units_reason A (paged_after A s u) us) o.0 x.0, x.1)

pub lines_none : (A : Inputs) (s : State) (n : ℕ) (es : List Entry) → units_reason A s (units_of es) ≡ None → misstep_from A s n es ≡ None
unfolding misstep_from
lines_none A s n [] e = refl
lines_none A s n (x ∷ es) e =
    let o = units_parts A s (units_with x []) (units_of es) (subst (λ (us : List Entry). units_reason A s us ≡ None) (units-append (x ∷ []) es) e) in
    line_good n (line_reason A s x) (misstep_from A (line_after A s x) (n + 1) es) o.0 ∙ lines_none A (line_after A s x) (n + 1) es o.1

pub policy_paged : (A : Inputs) (hs : Holdings) (journal : List Entry) (s : State) → CanRun A hs → 64 ≤ A.frames → Reaches A journal s → IsPagedRun A journal
policy_paged A hs journal s c l r =
    let us : List Entry = r.units in
    let gs : Holdings = r.holdings in
    let can : CanRun A gs = record { images = c.images; first = c.first; frames = c.frames; pieces = r.found } in
    let units : AllUnits us = all_units A us (start A gs) s r.follows in
    let all : units_of journal ≡ us = ap units_of (sym r.joined) ∙ appended_units [] us units in
    record {
      holdings = gs;
      found = r.found;
      good = lines_none A (start A gs) 1 journal (subst (λ (es : List Entry). units_reason A (start A gs) es ≡ None) (sym all)
          (policy_units A us (start A gs) s marks.Over c.images l (start_run A gs can) refl r.follows));
    }
