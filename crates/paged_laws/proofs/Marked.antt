-- The marks agree from unit to unit, and the hands pass over the same pages.
use Rattle.std.proofs.Common.{◌≡◌, inl, inr, ℕ, ◌==◌, Bool, true, false, cond, List, slice_get, Some, None, refl, sym, ap, ◌∙◌, subst}
use Rattle.vm_facts.proofs.Tests.{eq_self}
use Rattle.vm_facts.specs.declared.page.Page.{Page}
use Rattle.vm_facts.specs.declared.entry.Entry.{Entry}
use Rattle.vm_facts.specs.declared.entry.Entry.TheVariants as entries
use Rattle.flat_state.specs.Flat.{Inputs}
use Rattle.flat_state.specs.Change.{is_borrower}
use Rattle.flat_state.specs.PageNames.{number_of, pages_from}
use Rattle.page_model.specs.Placement.{Placement}
use Rattle.page_model.specs.Place.{place_entry}
use Rattle.page_model.specs.Reading.{read_errand}
use Rattle.page_model.specs.Swapper.{residence_of, is_out}
use Rattle.flat_model.specs.Run.{Point, process_of_entry}
use Rattle.run_model.specs.declared.mark.Mark.{Mark}
use Rattle.run_model.specs.declared.mark.Mark.TheVariants as marks
use Rattle.run_model.specs.State.{State}
use Rattle.run_model.specs.Wanted.{locked}
use Rattle.run_model.specs.After.{after, place_at, mark_of_line, brought_in, put_out}
use Rattle.run_model.specs.Kinds.{GoesOn, Comes, ProcessRuns}
use Rattle.kernel_laws.proofs.Machine.Shapes.{filled_shaped, get_run_shaped, reclaim_shaped, moves_shaped, put_step_shaped, done_shaped}
use Rattle.run_laws.proofs.Flows.{Acted, Settles, Refuses, Steps, steps_own, plain_point}
use Rattle.run_laws.proofs.Units.{plain_place}
use Rattle.paged_model.specs.Runs.{turn_mark, out_mark, in_mark, mark_by}
use Rattle.paged_laws.proofs.Agreeing.{AgreesBy, Agrees, line_agrees, line_mark, Stays, mark_stays, completed_stays, moved_stays, audited_stays}

-- Residents.

-- an entry by which nobody goes out or comes in
abbrev NotMoved : Entry → Type 0
NotMoved (entries.SwapOut pid) = ⊥
NotMoved (entries.SwapIn pid) = ⊥
NotMoved e = Unit {0}

same_residents : (locked : List Page) (at : ℕ) (p : Placement) (u : Entry) → NotMoved u → (place_entry locked at p u).residents ≡ p.residents
same_residents locked at p (entries.Zero q) k = (filled_shaped p q).residents
same_residents locked at p (entries.Copy q) k = (filled_shaped p q).residents
same_residents locked at p (entries.Get q lo n) k = (get_run_shaped p (read_errand p q) (pages_from q lo n)).residents
same_residents locked at p (entries.Reclaim q) k = (reclaim_shaped p q).residents
same_residents locked at p (entries.Hands n) k = (moves_shaped n p locked).residents
same_residents locked at p (entries.Put q n) k = (put_step_shaped p q (pages_from q (number_of q) n)).residents
same_residents locked at p entries.Done k = (done_shaped p).residents
same_residents locked at p (entries.SwapOut pid) k = absurd k
same_residents locked at p (entries.SwapIn pid) k = absurd k
same_residents locked at p _ k = refl

plain_stays : (A : Inputs) (s : State) (u : Entry) → process_of_entry u ≡ None → NotMoved u → Stays s (after A s u)
plain_stays A s u none k = record {
  out = λ pid. ap (λ rs. (residence_of rs pid).out)
      (ap (λ (p : Placement). p.residents) (plain_place A s u none) ∙ same_residents (locked A s) (place_at s u) s.place u k);
  flat = ap (λ (x : Point). x.flat) (plain_point A s u none);
}

-- Marks.

-- an entry that is no process's and begins no mark, and by which nobody goes out or comes in
abbrev pub IsMove : Entry → Type 0
IsMove (entries.Zero q) = Unit {0}
IsMove (entries.Copy q) = Unit {0}
IsMove (entries.Get q lo n) = Unit {0}
IsMove (entries.Reclaim q) = Unit {0}
IsMove (entries.Hands n) = Unit {0}
IsMove (entries.Put q n) = Unit {0}
IsMove entries.Done = Unit {0}
IsMove (entries.Owners f u m h) = Unit {0}
IsMove _ = ⊥

module _ (A : Inputs) (s : State) (m : Mark) (a : Agrees s m) where
  -- the mark of the state that any policy sees
  abbrev pub seen : State
  seen = record s { mark = m }

  -- the mark that it sees next agrees
  abbrev pub Goes : Entry → Type 0
  Goes u = Agrees (after A s u) (mark_by seen u)

  pub move_goes : (u : Entry) → IsMove u → Goes u
  unfolding after
  move_goes (entries.Zero q) k = mark_stays s.mark s (after A s (entries.Zero q)) m (plain_stays A s (entries.Zero q) refl tt) a
  move_goes (entries.Copy q) k = mark_stays s.mark s (after A s (entries.Copy q)) m (plain_stays A s (entries.Copy q) refl tt) a
  move_goes (entries.Get q lo n) k = mark_stays s.mark s (after A s (entries.Get q lo n)) m (plain_stays A s (entries.Get q lo n) refl tt) a
  move_goes (entries.Reclaim q) k = mark_stays s.mark s (after A s (entries.Reclaim q)) m (plain_stays A s (entries.Reclaim q) refl tt) a
  move_goes (entries.Hands n) k = moved_stays n s.mark s (after A s (entries.Hands n)) m (plain_stays A s (entries.Hands n) refl tt) a
  move_goes (entries.Put q n) k = mark_stays s.mark s (after A s (entries.Put q n)) m (plain_stays A s (entries.Put q n) refl tt) a
  move_goes entries.Done k = completed_stays s.mark s (after A s entries.Done) m (plain_stays A s entries.Done refl tt) a
  move_goes (entries.Owners f u w h) k = audited_stays s.mark s (after A s (entries.Owners f u w h)) m (plain_stays A s (entries.Owners f u w h) refl tt) a
  move_goes _ k = absurd k

  -- under the mark of a process that runs and is in
  ran_stays : (k : Mark) (pid : ℕ) (now : Bool) (t : State) → GoesOn A s k pid now → is_out s.place pid ≡ false → AgreesBy k s m → AgreesBy k t m
  ran_stays (marks.Dispatch p count since) pid false t g r b = b
  ran_stays (marks.Turn p since) pid true t g r (inl b) =
      let x : true ≡ false = sym b.1 ∙ ap (is_out s.place) g.0 ∙ r in absurd cc
  ran_stays (marks.Turn p since) pid true t g r (inr b) = inr b
  ran_stays _ pid now t g r b = absurd g

  process_goes : (u : Entry) (pid p : ℕ) (now : Bool) → process_of_entry u ≡ Some p → GoesOn A s s.mark pid now → is_out s.place pid ≡ false → Goes u
  unfolding after
  process_goes (entries.Ran p n) pid q now e g r = ran_stays s.mark pid now (after A s (entries.Ran p n)) g r a
  process_goes (entries.Out p bytes) pid q now e g r = ran_stays s.mark pid now (after A s (entries.Out p bytes)) g r a
  process_goes (entries.Grew p n) pid q now e g r = ran_stays s.mark pid now (after A s (entries.Grew p n)) g r a
  process_goes (entries.Call p n c x y) pid q now e g r = ran_stays s.mark pid now (after A s (entries.Call p n c x y)) g r a
  process_goes (entries.Refused p) pid q now e g r = ran_stays s.mark pid now (after A s (entries.Refused p)) g r a
  process_goes (entries.Sleeps p) pid q now e g r = ran_stays s.mark pid now (after A s (entries.Sleeps p)) g r a
  process_goes (entries.Ended p n) pid q now e g r = ran_stays s.mark pid now (after A s (entries.Ended p n)) g r a
  process_goes _ pid q now e g r = absurd cc

  pub acts_goes : (u : Entry) (pid : ℕ) (now : Bool) → ProcessRuns A s pid now → Acted A s pid u → Goes u
  acts_goes u pid now r (Settles e) = subst Goes (sym e) (move_goes entries.Done tt)
  acts_goes u pid now r (Refuses e) = subst Goes (sym e) (process_goes (entries.Refused pid) pid pid now refl r.on r.resident)
  acts_goes u pid now r (Steps f g e) = process_goes u pid pid now (steps_own A s.point pid u e) r.on r.resident

  -- who comes in
  pub in_goes : (k : Mark) (pid : ℕ) → s.mark ≡ k → Comes A s k pid → AgreesBy k s m → Goes (entries.SwapIn pid)
  unfolding after
  in_goes (marks.BringIn p) pid i c b =
      subst (λ (x : Mark). AgreesBy (brought_in x) (after A s (entries.SwapIn pid)) (in_mark pid s.count m)) (sym i)
      (ap (in_mark pid s.count) b)
  in_goes (marks.Turn p since) pid i c (inl b) =
      subst (λ (x : Mark). AgreesBy (brought_in x) (after A s (entries.SwapIn pid)) (in_mark pid s.count m)) (sym i)
      (inr (
        s.count,
        ap (in_mark pid s.count) b.0
            ∙ ap (λ (t : Bool). cond t (marks.Turn p s.count) (marks.BringIn p)) (ap (λ (x : ℕ). p == x) (sym c.0) ∙ eq_self p),
      ))
  in_goes (marks.Turn p since) pid i c (inr b) =
      subst (λ (x : Mark). AgreesBy (brought_in x) (after A s (entries.SwapIn pid)) (in_mark pid s.count m)) (sym i)
      (inr (b.0, ap (in_mark pid s.count) b.1))
  in_goes _ pid i c b = absurd c

  pub out_goes : (pid : ℕ) → s.mark ≡ marks.PutOut pid → Goes (entries.SwapOut pid)
  unfolding after
  out_goes pid i =
      let b : (m ≡ marks.Over) × (is_borrower s.point.flat.processes pid ≡ false) = subst (λ (x : Mark). AgreesBy x s m) i a in
      subst (λ (x : Mark). AgreesBy (put_out x) (after A s (entries.SwapOut pid)) (out_mark pid m)) (sym i) (ap (out_mark pid) b.0)

  pub event_goes : (line : ℕ) → Goes (entries.Event line)
  unfolding after
  event_goes line =
      line_agrees (mark_of_line s (slice_get A.lines s.lines)) (after A s (entries.Event line))
      (line_mark s (after A s (entries.Event line)) (slice_get A.lines s.lines) (ap (λ (x : Point). x.flat) (plain_point A s (entries.Event line) refl)))

  pub turn_goes : (pid : ℕ) → Goes (entries.Turn pid)
  unfolding after
  turn_goes pid = go (is_out s.place pid) refl
    where
      go : (b : Bool) → is_out s.place pid ≡ b → AgreesBy (marks.Turn pid s.count) (after A s (entries.Turn pid)) (turn_mark b pid s.count)
      go true i = inl (refl, i)
      go false i = inr (s.count, refl)
