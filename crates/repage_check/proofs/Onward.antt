-- A machine that stands at a state of a paged run, and made a unit that may come, stands at the next one.
use Rattle.std.proofs.Common.{◌≡◌, ℕ, ◌+◌, ◌==◌, Bool, true, false, not, ◌&&◌, cond, List, [], Option, Some, None, refl, sym, ap, ◌∙◌, subst}
use Rattle.std.proofs.lemmas.Bool.{eqb-true}
use Rattle.vm_facts.specs.SwapImages.{SwapImage}
use Rattle.vm_facts.specs.declared.entry.Entry.{Entry}
use Rattle.vm_facts.specs.declared.entry.Entry.TheVariants as entries
use Rattle.vm_facts.specs.declared.params.Params.{Params}
use Rattle.vm_facts.proofs.Tests.{eq_self}
use Rattle.io_edge.specs.FileHolding.{NamedFile}
use Rattle.flat_state.specs.Flat.{Inputs, can_step}
use Rattle.flat_state.specs.Journal.{counted, instructions_of, IsUnit}
use Rattle.flat_state.proofs.Joins.{append_counted}
use Rattle.flat_model.specs.Run.{Point, process_of_entry}
use Rattle.page_model.specs.Placement.{Placement}
use Rattle.page_model.specs.Swapper.{is_out}
use Rattle.kernel_model.specs.Coupled.{SameTables}
use Rattle.kernel_model.specs.Kernel.{Kernel}
use Rattle.machine_state.specs.Files.{AreRunImages}
use Rattle.machine_state.specs.Machine.{Standing}
use Rattle.machine_state.specs.Sourced.{ImageNamed}
use Rattle.step_judge.specs.Reading.{AreNamed}
use Rattle.run_model.specs.declared.mark.Mark.{Mark}
use Rattle.run_model.specs.declared.mark.Mark.TheVariants as marks
use Rattle.run_model.specs.State.{State}
use Rattle.run_model.specs.Act.{act}
use Rattle.run_model.specs.After.{place_at, after}
use Rattle.run_model.proofs.After.{after_count, after_journal}
use Rattle.run_laws.specs.Machine.{unit_image, unit_swap, StandsAt}
use Rattle.run_laws.proofs.Flows.{Acted, Settles, Refuses, Steps, acted, plain_point}
use Rattle.step_judge.specs.Leads.{MadeAs}
use Rattle.step_judge.proofs.Residing.{out_before}
use Rattle.step_judge.proofs.StepUnitsTelling.{last_is}
use Rattle.run_laws.proofs.Paging.{Leaver}
use Rattle.paged_model.specs.Steps.{begun, step_reason, turn_reason}
use Rattle.paged_model.specs.Runs.{turn_mark, out_mark, in_mark, mark_by, paged_after, unit_reason}
use Rattle.paged_model.proofs.Reasoned.{or_none}
use Rattle.paged_laws.proofs.Acted.{Steps as StepsBy, steps, act_is}
use Rattle.paged_laws.proofs.Awaiting.{unit_paged}
use Rattle.paged_laws.proofs.Standings.{unit_stands}
use Rattle.paged_laws.proofs.Virtual.{can_of}
use Rattle.step_judge.proofs.Turning.{moved_in}
use Rattle.step_judge.specs.Begun.{Begun}
use Rattle.step_judge.specs.Choosing.{may_run}
use Rattle.step_judge.specs.Rests.{begun_by}
use Rattle.step_judge.proofs.Marks.{steps_same}
use Rattle.step_judge.specs.At.{JudgedAt}
use Rattle.step_judge.specs.Told.{GoesOnWith}
use Rattle.repage_check.specs.declared.past.Past.{Past}
use Rattle.repage_check.specs.Past.{lines_next, turn_out, mark_next, begun_next, past_next, MarkIsIn, PastAt}
use Rattle.repage_check.specs.Units.{StandsPast}

-- Who comes in is in.

came_in : (A : Inputs) (s : State) (pid : ℕ) → is_out (after A s (entries.SwapIn pid)).place pid ≡ false
unfolding after
came_in A s pid = moved_in s.place.residents pid (place_at s (entries.SwapIn pid))

-- Who is in stays in, but for one who goes out.

stays_in : (A : Inputs) (s : State) (u : Entry) (n : ℕ) → (Leaver u n → ⊥) → is_out s.place n ≡ false → is_out (after A s u).place n ≡ false
stays_in A s u n f h = go (is_out (after A s u).place n) refl
  where
    go : (b : Bool) → is_out (after A s u).place n ≡ b → b ≡ false
    go false e = refl
    go true e = let k = sym h ∙ out_before A s u n f e in cc

mark_stays : (A : Inputs) (s : State) (u : Entry) → ((n : ℕ) → Leaver u n → ⊥) → (m : Mark) → MarkIsIn s.place m → MarkIsIn (after A s u).place m
mark_stays A s u f (marks.Turn pid since) h = stays_in A s u pid (f pid) h
mark_stays A s u f (marks.Dispatch pid count since) h = h
mark_stays A s u f _ h = tt

-- by the kind of the unit

turned_in : (p : Placement) (b : Bool) (pid count : ℕ) → is_out p pid ≡ b → MarkIsIn p (turn_mark b pid count)
turned_in p true pid count e = tt
turned_in p false pid count e = e

out_is_in : (A : Inputs) (s : State) (pid : ℕ) (m : Mark) → MarkIsIn s.place m → MarkIsIn (after A s (entries.SwapOut pid)).place (out_mark pid m)
out_is_in A s pid (marks.Turn p since) h = go (p == pid) refl
  where
    go : (b : Bool) → (p == pid) ≡ b → MarkIsIn (after A s (entries.SwapOut pid)).place (cond b (marks.BringIn p) (marks.Turn p since))
    go true e = tt
    go false e = stays_in A s (entries.SwapOut pid) p (λ l. let t : true ≡ false = sym (eq_self p) ∙ ap (λ (n : ℕ). p == n) (sym l) ∙ e in cc) h
out_is_in A s pid (marks.Dispatch p count since) h = h
out_is_in A s pid _ h = tt

in_is_in : (A : Inputs) (s : State) (pid count : ℕ) (m : Mark) → MarkIsIn s.place m → MarkIsIn (after A s (entries.SwapIn pid)).place (in_mark pid count m)
in_is_in A s pid count (marks.BringIn p) h = go (p == pid) refl
  where
    go : (b : Bool) → (p == pid) ≡ b → MarkIsIn (after A s (entries.SwapIn pid)).place (cond b (marks.Turn p count) (marks.BringIn p))
    go true e = ap (λ (n : ℕ). is_out (after A s (entries.SwapIn pid)).place n) (eqb-true p pid e) ∙ came_in A s pid
    go false e = tt
in_is_in A s pid count (marks.Turn p since) h = stays_in A s (entries.SwapIn pid) p (λ l. l) h
in_is_in A s pid count (marks.Dispatch p n since) h = h
in_is_in A s pid count _ h = tt

place_kept : (A : Inputs) (s : State) (pid : ℕ) → (after A s (entries.Turn pid)).place ≡ s.place
unfolding after
place_kept A s pid = refl

marked_in : (A : Inputs) (s : State) (u : Entry) → MarkIsIn s.place s.mark → MarkIsIn (after A s u).place (mark_by s u)
marked_in A s (entries.Event line) h = tt
marked_in A s (entries.Turn pid) h =
    subst (λ (p : Placement). MarkIsIn p (turn_mark (is_out s.place pid) pid s.count)) (sym (place_kept A s pid)) (turned_in s.place (is_out s.place pid) pid s.count refl)
marked_in A s (entries.SwapOut pid) h = out_is_in A s pid s.mark h
marked_in A s (entries.SwapIn pid) h = in_is_in A s pid s.count s.mark h
marked_in A s (entries.Ran p n) h = mark_stays A s (entries.Ran p n) (λ m l. l) s.mark h
marked_in A s (entries.Out p bytes) h = mark_stays A s (entries.Out p bytes) (λ m l. l) s.mark h
marked_in A s (entries.Grew p n) h = mark_stays A s (entries.Grew p n) (λ m l. l) s.mark h
marked_in A s (entries.Call p n c r0 r1) h = mark_stays A s (entries.Call p n c r0 r1) (λ m l. l) s.mark h
marked_in A s (entries.Refused p) h = mark_stays A s (entries.Refused p) (λ m l. l) s.mark h
marked_in A s (entries.Sleeps p) h = mark_stays A s (entries.Sleeps p) (λ m l. l) s.mark h
marked_in A s (entries.Ended p n) h = mark_stays A s (entries.Ended p n) (λ m l. l) s.mark h
marked_in A s (entries.Zero q) h = mark_stays A s (entries.Zero q) (λ m l. l) s.mark h
marked_in A s (entries.Get q lo n) h = mark_stays A s (entries.Get q lo n) (λ m l. l) s.mark h
marked_in A s (entries.Copy q) h = mark_stays A s (entries.Copy q) (λ m l. l) s.mark h
marked_in A s (entries.Reclaim q) h = mark_stays A s (entries.Reclaim q) (λ m l. l) s.mark h
marked_in A s (entries.Hands n) h = mark_stays A s (entries.Hands n) (λ m l. l) s.mark h
marked_in A s (entries.Put q n) h = mark_stays A s (entries.Put q n) (λ m l. l) s.mark h
marked_in A s entries.Done h = mark_stays A s entries.Done (λ m l. l) s.mark h
marked_in A s (entries.Owners f u m o) h = mark_stays A s (entries.Owners f u m o) (λ n l. l) s.mark h

-- What is known.

lines_after : (A : Inputs) (s : State) (u : Entry) → (after A s u).lines ≡ lines_next s.lines u
unfolding after
lines_after A s (entries.Event line) = refl
lines_after A s (entries.Turn p) = refl
lines_after A s (entries.Ran p n) = refl
lines_after A s (entries.Out p bytes) = refl
lines_after A s (entries.Grew p n) = refl
lines_after A s (entries.Call p n c r0 r1) = refl
lines_after A s (entries.Refused p) = refl
lines_after A s (entries.Sleeps p) = refl
lines_after A s (entries.Ended p n) = refl
lines_after A s (entries.Owners f u m h) = refl
lines_after A s _ = refl

-- a turn of a process that may step is of one that is out exactly where that can't run at once
turn_told : (k : Kernel) (s : State) (pid : ℕ) → SameTables k s.point.flat → k.place ≡ s.place → can_step s.point.flat pid ≡ true
    → not (may_run k pid) ≡ is_out s.place pid
turn_told k s pid t e c =
    ap (λ (b : Bool). not (b && not (is_out k.place pid))) (sym (steps_same k s.point.flat pid t) ∙ c)
    ∙ twice (is_out k.place pid)
    ∙ ap (λ (p : Placement). is_out p pid) e
  where
    twice : (b : Bool) → not (not b) ≡ b
    twice true = refl
    twice false = refl

mark_told : (A : Inputs) (s : State) (k : Kernel) (u : Entry) → SameTables k s.point.flat → k.place ≡ s.place → unit_reason A s u ≡ None
    → mark_by s u ≡ mark_next (turn_out k u) s.count s.mark u
unfolding unit_reason
mark_told A s k (entries.Turn pid) t e h =
    ap (λ (b : Bool). turn_mark b pid s.count)
    (sym (turn_told k s pid t e (can_of A s pid (or_none (begun s.point.last) (turn_reason A s pid) h).1)))
mark_told A s k (entries.Event line) t e h = refl
mark_told A s k (entries.SwapOut pid) t e h = refl
mark_told A s k (entries.SwapIn pid) t e h = refl
mark_told A s k (entries.Ran p n) t e h = refl
mark_told A s k (entries.Out p bytes) t e h = refl
mark_told A s k (entries.Grew p n) t e h = refl
mark_told A s k (entries.Call p n c r0 r1) t e h = refl
mark_told A s k (entries.Refused p) t e h = refl
mark_told A s k (entries.Sleeps p) t e h = refl
mark_told A s k (entries.Ended p n) t e h = refl
mark_told A s k (entries.Zero q) t e h = refl
mark_told A s k (entries.Get q lo n) t e h = refl
mark_told A s k (entries.Copy q) t e h = refl
mark_told A s k (entries.Reclaim q) t e h = refl
mark_told A s k (entries.Hands n) t e h = refl
mark_told A s k (entries.Put q n) t e h = refl
mark_told A s k entries.Done t e h = refl
mark_told A s k (entries.Owners f u m o) t e h = refl

-- the last flat entry is one of a process, where that may come
refused_last : (A : Inputs) (s : State) (pid : ℕ) → (after A s (entries.Refused pid)).point.last ≡ Some (entries.Refused pid)
unfolding after
refused_last A s pid = refl

own_last : (A : Inputs) (s : State) (pid : ℕ) (u : Entry) → process_of_entry u ≡ Some pid → step_reason A s pid u ≡ None → (after A s u).point.last ≡ Some u
own_last A s pid u own h = go (acted A s pid u (let x : StepsBy A s pid u = steps A s pid u h in act_is pid u (act A s pid) x.does))
  where
    go : Acted A s pid u → (after A s u).point.last ≡ Some u
    go (Settles e) = absurd (let z = sym (ap process_of_entry e) ∙ own in cc)
    go (Refuses e) = subst (λ (x : Entry). (after A s x).point.last ≡ Some x) (sym e) (refused_last A s pid)
    go (Steps f g e) = last_is A s pid u e own

plain_begun : (A : Inputs) (s : State) (u : Entry) → process_of_entry u ≡ None → begun_by (after A s u).point.last ≡ begun_by s.point.last
plain_begun A s u e = ap (λ (x : Point). begun_by x.last) (plain_point A s u e)

begun_told : (A : Inputs) (s : State) (u : Entry) → unit_reason A s u ≡ None → begun_by (after A s u).point.last ≡ begun_next (begun_by s.point.last) u
unfolding unit_reason
begun_told A s (entries.Ran p n) h = ap begun_by (own_last A s p (entries.Ran p n) refl h)
begun_told A s (entries.Out p bytes) h = ap begun_by (own_last A s p (entries.Out p bytes) refl h)
begun_told A s (entries.Grew p n) h = ap begun_by (own_last A s p (entries.Grew p n) refl h)
begun_told A s (entries.Call p n c r0 r1) h = ap begun_by (own_last A s p (entries.Call p n c r0 r1) refl h)
begun_told A s (entries.Refused p) h = ap begun_by (own_last A s p (entries.Refused p) refl h)
begun_told A s (entries.Sleeps p) h = ap begun_by (own_last A s p (entries.Sleeps p) refl h)
begun_told A s (entries.Ended p n) h = ap begun_by (own_last A s p (entries.Ended p n) refl h)
begun_told A s (entries.Event line) h = plain_begun A s (entries.Event line) refl
begun_told A s (entries.Turn pid) h = plain_begun A s (entries.Turn pid) refl
begun_told A s (entries.SwapOut pid) h = plain_begun A s (entries.SwapOut pid) refl
begun_told A s (entries.SwapIn pid) h = plain_begun A s (entries.SwapIn pid) refl
begun_told A s (entries.Zero q) h = plain_begun A s (entries.Zero q) refl
begun_told A s (entries.Get q lo n) h = plain_begun A s (entries.Get q lo n) refl
begun_told A s (entries.Copy q) h = plain_begun A s (entries.Copy q) refl
begun_told A s (entries.Reclaim q) h = plain_begun A s (entries.Reclaim q) refl
begun_told A s (entries.Hands n) h = plain_begun A s (entries.Hands n) refl
begun_told A s (entries.Put q n) h = plain_begun A s (entries.Put q n) refl
begun_told A s entries.Done h = plain_begun A s entries.Done refl
begun_told A s (entries.Owners f u m o) h = plain_begun A s (entries.Owners f u m o) refl

-- The next state.

module _ (p : Past) (old new : Standing) (holds : Option (List NamedFile)) (i j : Option SwapImage) (A : Inputs) (s : State) (image : SwapImage) (u : Entry)
    (at : PastAt p old holds i A s image) (unit : IsUnit u) (may : unit_reason A s u ≡ None) (made : MadeAs A s old.kernel image u new.kernel j)
    (on : GoesOnWith old new) where
  here : JudgedAt old p.counted p.begun holds i A s image
  here = at.judged

  there : StandsAt A (paged_after A s u) new.kernel (unit_swap A old.kernel image u).bytes
  there =
      subst (λ (k : Kernel). StandsAt A (paged_after A s u) k (unit_image old.kernel image.bytes u)) (sym made.made)
      (unit_stands A s old.kernel image.bytes made.read u here.fit unit here.paged here.stands may made.given)

  judged : JudgedAt new (p.counted + counted u) (begun_next p.begun u) holds j A (paged_after A s u) (unit_swap A old.kernel image u)
  judged = record {
    fit = here.fit;
    paged = unit_paged A s u here.fit unit here.paged may;
    stands = there;
    images = subst (λ (ns : List ImageNamed). AreRunImages ns holds A) (sym on.images) here.images;
    named = subst (AreNamed A.images) (sym on.images) here.named;
    blocks = ap (λ (q : Params). q.swap_blocks) on.params ∙ here.blocks;
    told = made.told;
    count = after_count A s u ∙ ap (λ (n : ℕ). n + counted u) here.count;
    begun = begun_told A s u may ∙ ap (λ (b : Option Begun). begun_next b u) here.begun;
    limit = here.limit;
    enough = here.enough;
  }

  mark : mark_by s u ≡ mark_next (turn_out old.kernel u) p.counted p.mark u
  mark =
      mark_told A s old.kernel u here.stands.keeps.coupled.tables here.stands.place may
      ∙ ap (λ (n : ℕ). mark_next (turn_out old.kernel u) n s.mark u) here.count
      ∙ ap (λ (m : Mark). mark_next (turn_out old.kernel u) p.counted m u) at.mark

  pub stands_next : StandsPast (past_next (turn_out old.kernel u) p u) new holds j A (paged_after A s u)
  stands_next = record {
    image = unit_swap A old.kernel image u;
    at = record {
      judged = judged;
      counts =
          ap instructions_of (after_journal A s u) ∙ append_counted s.journal u ∙ ap (λ (n : ℕ). n + counted u) at.counts ∙ sym (after_count A s u);
      lines = lines_after A s u ∙ ap (λ (n : ℕ). lines_next n u) at.lines;
      mark = mark;
      turn = marked_in A s u at.turn;
    };
  }
