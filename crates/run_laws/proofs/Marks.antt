-- The mark can be carried out after each unit.
use Rattle.std.proofs.Common.{◌≡◌, ℕ, ◌<◌, Bool, true, false, List, [], ◌∷◌, length, Option, Some, None, refl, sym, ◌∙◌, subst, arith}
use Rattle.std.specs.Prelude.{slice_get}
use Rattle.vm_facts.specs.declared.event.Event.{Event}
use Rattle.vm_facts.specs.declared.event.Event.TheVariants as events
use Rattle.vm_facts.specs.declared.entry.Entry.{Entry}
use Rattle.vm_facts.specs.declared.entry.Entry.TheVariants as entries
use Rattle.flat_state.specs.Flat.{Inputs, process_of}
use Rattle.flat_state.specs.PageNames.{pages_from, number_of}
use Rattle.page_model.specs.Placement.{Transfer, Due}
use Rattle.page_model.specs.Moves.{done}
use Rattle.page_model.specs.Place.{put_step}
use Rattle.page_model.specs.Hands.{hand_move}
use Rattle.page_model.specs.Swapper.{is_out, Choice, In, Out, Nothing, swap_choice, put_out_unit}
use Rattle.page_model.specs.Ownership.{OwnsFrames}
use Rattle.flat_state.specs.Numbers.{IsNumbered}
use Rattle.kernel_model.specs.Stands.{holds_some}
use Rattle.page_laws.proofs.Moves.Stays.{Steady, Stays, move_stays, done_steady}
use Rattle.page_laws.proofs.Bytes.Others.{put_steady}
use Rattle.page_laws.proofs.Swapper.PuttingOut.{unit_case, done_residents, put_residents, same_out}
use Rattle.run_model.specs.declared.mark.Mark.{Mark}
use Rattle.run_model.specs.declared.mark.Mark.TheVariants as marks
use Rattle.run_model.specs.State.{State, runners}
use Rattle.run_model.specs.Wanted.{locked}
use Rattle.run_model.specs.After.{interrupt_mark, swap_mark, mark_of_event, mark_of_line, after}
use Rattle.run_model.specs.Next.{move_by}
use Rattle.run_model.specs.Kinds.{GoesOn, Comes}
use Rattle.run_laws.specs.Standing.{MarkStands}
use Rattle.run_laws.proofs.Choosing.{out_holds, out_in, in_holds, in_out}

-- A mark under which a process runs, or none.
abbrev pub IsFree : Mark → Type 0
IsFree marks.Over = Unit {0}
IsFree (marks.Dispatch pid count since) = Unit {0}
IsFree (marks.Turn pid since) = Unit {0}
IsFree _ = ⊥

pub free_stands : (s : State) (m : Mark) → IsFree m → MarkStands s m
free_stands s marks.Over f = tt
free_stands s (marks.Dispatch pid count since) f = tt
free_stands s (marks.Turn pid since) f = tt
free_stands s _ f = absurd f

-- a unit that begins no mark
abbrev pub NoMark : Entry → Type 0
NoMark (entries.Event line) = ⊥
NoMark (entries.Turn pid) = ⊥
NoMark e = Unit {0}

pub free_kept : (A : Inputs) (s : State) (u : Entry) (m : Mark) → s.mark ≡ m → NoMark u → IsFree m → IsFree (after A s u).mark
unfolding after
free_kept A s u m e k f = go u k (subst IsFree (sym e) f)
  where
    done_free : (x : Mark) → IsFree x → IsFree (Rattle.run_model.specs.After.completed x)
    done_free marks.Over f = tt
    done_free (marks.Dispatch pid count since) f = tt
    done_free (marks.Turn pid since) f = tt
    done_free _ f = absurd f

    hands_free : (n : ℕ) (x : Mark) → IsFree x → IsFree (Rattle.run_model.specs.After.moved_on n x)
    hands_free n marks.Over f = tt
    hands_free n (marks.Dispatch pid count since) f = tt
    hands_free n (marks.Turn pid since) f = tt
    hands_free n _ f = absurd f

    out_free : (x : Mark) → IsFree x → IsFree (Rattle.run_model.specs.After.put_out x)
    out_free marks.Over f = tt
    out_free (marks.Dispatch pid count since) f = tt
    out_free (marks.Turn pid since) f = tt
    out_free _ f = absurd f

    in_free : (x : Mark) → IsFree x → IsFree (Rattle.run_model.specs.After.brought_in x)
    in_free marks.Over f = tt
    in_free (marks.Dispatch pid count since) f = tt
    in_free (marks.Turn pid since) f = tt
    in_free _ f = absurd f

    noted_free : (x : Mark) → IsFree x → IsFree (Rattle.run_model.specs.After.audited x)
    noted_free marks.Over f = tt
    noted_free (marks.Dispatch pid count since) f = tt
    noted_free (marks.Turn pid since) f = tt
    noted_free _ f = absurd f

    go : (u : Entry) → NoMark u → IsFree s.mark → IsFree (after A s u).mark
    go (entries.Event line) k f = absurd k
    go (entries.Turn p) k f = absurd k
    go (entries.Ran p n) k f = f
    go (entries.Out p bytes) k f = f
    go (entries.Grew p n) k f = f
    go (entries.Call p n c r0 r1) k f = f
    go (entries.Refused p) k f = f
    go (entries.Sleeps p) k f = f
    go (entries.Ended p n) k f = f
    go (entries.Zero q) k f = f
    go (entries.Get q lo n) k f = f
    go (entries.Copy q) k f = f
    go (entries.Reclaim q) k f = f
    go (entries.Hands n) k f = hands_free n s.mark f
    go (entries.Put q n) k f = f
    go entries.Done k f = done_free s.mark f
    go (entries.SwapOut p) k f = out_free s.mark f
    go (entries.SwapIn p) k f = in_free s.mark f
    go (entries.Owners a b c d) k f = noted_free s.mark f

-- where something is due, the mark is free
pub due_free : (s : State) (d : Due) (ds : List Due) → s.place.due ≡ d ∷ ds → (m : Mark) → MarkStands s m → IsFree m
due_free s d ds e marks.Interrupt k = absurd (let z : d ∷ ds ≡ [] = sym e ∙ k.0 in cc)
due_free s d ds e (marks.Hands count) k = absurd (let z : d ∷ ds ≡ [] = sym e ∙ k in cc)
due_free s d ds e (marks.BringIn pid) k = absurd (let z : d ∷ ds ≡ [] = sym e ∙ k.0 in cc)
due_free s d ds e (marks.PutOut pid) k = absurd (let z : d ∷ ds ≡ [] = sym e ∙ k.0 in cc)
due_free s d ds e marks.Audit k = absurd (let z : d ∷ ds ≡ [] = sym e ∙ k in cc)
due_free s d ds e _ k = tt

pub on_free : (A : Inputs) (s : State) (m : Mark) (pid : ℕ) (now : Bool) → GoesOn A s m pid now → IsFree m
on_free A s (marks.Dispatch p count since) pid false g = tt
on_free A s (marks.Turn p since) pid true g = tt
on_free A s _ pid now g = absurd g

-- The marks that units carry out.

pub come_free : (A : Inputs) (s : State) (pid : ℕ) (m : Mark) → s.mark ≡ m → Comes A s m pid → IsFree (after A s (entries.SwapIn pid)).mark
unfolding after
come_free A s pid (marks.BringIn p) e c = subst (λ (x : Mark). IsFree (Rattle.run_model.specs.After.brought_in x)) (sym e) tt
come_free A s pid (marks.Turn p since) e c = subst (λ (x : Mark). IsFree (Rattle.run_model.specs.After.brought_in x)) (sym e) tt
come_free A s pid _ e c = absurd c

pub done_free : (A : Inputs) (s : State) → s.mark ≡ marks.Interrupt → IsFree (after A s entries.Done).mark
unfolding after
done_free A s e = subst (λ (x : Mark). IsFree (Rattle.run_model.specs.After.completed x)) (sym e) tt

pub noted_free : (A : Inputs) (s : State) (a b c d : ℕ) → s.mark ≡ marks.Audit → IsFree (after A s (entries.Owners a b c d)).mark
unfolding after
noted_free A s a b c d e = subst (λ (x : Mark). IsFree (Rattle.run_model.specs.After.audited x)) (sym e) tt

pub hands_stand : (A : Inputs) (s : State) (count : ℕ) (b : Bool) → OwnsFrames s.place → s.place.due ≡ [] → s.mark ≡ marks.Hands count
    → MarkStands (after A s (move_by b)) (after A s (move_by b)).mark
unfolding after
hands_stand A s count true o d e =
    subst (λ (x : Mark). MarkStands (after A s entries.Done) (Rattle.run_model.specs.After.completed x)) (sym e) (let t : Steady s.place (done s.place) = done_steady s.place o in t.due ∙ d)
hands_stand A s count false o d e = subst (λ (x : Mark). MarkStands (after A s (entries.Hands 1)) (Rattle.run_model.specs.After.moved_on 1 x)) (sym e)
    (let t : Stays s.place (hand_move s.place (locked A s)) = move_stays s.place (locked A s) in t.due ∙ d)

pub put_stands : (A : Inputs) (s : State) (pid sid : ℕ) → OwnsFrames s.place → s.place.due ≡ [] → s.mark ≡ marks.PutOut pid
    → holds_some (process_of s.point.flat pid) ≡ true
    → is_out s.place pid ≡ false → MarkStands (after A s (put_out_unit s.place pid sid)) (after A s (put_out_unit s.place pid sid)).mark
unfolding after
put_stands A s pid sid o d e h r = unit_case (λ (u : Entry). MarkStands (after A s u) (after A s u).mark) s.place pid sid
    (λ t ts z. subst (λ (x : Mark). MarkStands (after A s entries.Done) (Rattle.run_model.specs.After.completed x)) (sym e)
    (let y : Steady s.place (done s.place) = done_steady s.place o in (y.due ∙ d, h, same_out s.place (done s.place) pid (done_residents s.place) ∙ r)))
    (λ v x y z. subst (MarkStands (after A s (entries.Put v (Rattle.page_model.specs.Runs.run_put s.place v).n))) (sym e)
    (let t : Steady s.place (put_step s.place v (pages_from v (number_of v) (Rattle.page_model.specs.Runs.run_put s.place v).n)) =
    put_steady s.place v (pages_from v (number_of v) (Rattle.page_model.specs.Runs.run_put s.place v).n) in (
      t.due ∙ d,
      h,
      same_out s.place (put_step s.place v (pages_from v (number_of v)
          (Rattle.page_model.specs.Runs.run_put s.place v).n)) pid (put_residents s.place v (pages_from v (number_of v) (Rattle.page_model.specs.Runs.run_put s.place v).n)) ∙ r,
    )))
    (λ x y. subst (λ (z : Mark). MarkStands (after A s (entries.SwapOut pid)) (Rattle.run_model.specs.After.put_out z)) (sym e) tt)

-- A line of the schedule.

pub line_stands : (A : Inputs) (s : State) (line : ℕ) → IsNumbered s.point.flat → s.place.due ≡ []
    → MarkStands (after A s (entries.Event line)) (after A s (entries.Event line)).mark
unfolding after
line_stands A s line n d = go (slice_get A.lines s.lines)
  where
    t : State
    t = after A s (entries.Event line)

    interrupt : (ts : List Transfer) → s.place.transfers ≡ ts → MarkStands t (interrupt_mark ts)
    interrupt [] e = tt
    interrupt (x ∷ xs) e = (d, subst (λ (l : List Transfer). 0 < length l) (sym e) (omega arith))

    swapper : (c : Choice) → swap_choice s.place (runners s.point.flat) ≡ c → MarkStands t (swap_mark c)
    swapper (In pid) e = (d, in_holds s.place s.point.flat pid n e, in_out s.place s.point.flat pid e)
    swapper (Out pid) e = (d, out_holds s.place s.point.flat pid n e, out_in s.place s.point.flat pid e)
    swapper Nothing e = tt

    event : (x : Event) → MarkStands t (mark_of_event s x)
    event (events.Dispatch pid count) = tt
    event events.Interrupt = interrupt s.place.transfers refl
    event (events.Hands count) = d
    event events.Swapper = swapper (swap_choice s.place (runners s.point.flat)) refl
    event events.Audit = d

    go : (o : Option Event) → MarkStands t (mark_of_line s o)
    go None = tt
    go (Some x) = event x

pub turn_stands : (A : Inputs) (s : State) (pid : ℕ) → MarkStands (after A s (entries.Turn pid)) (after A s (entries.Turn pid)).mark
unfolding after
turn_stands A s pid = tt
