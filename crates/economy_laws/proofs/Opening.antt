-- How a stretch begins: what is due after a turn or a counted instruction.
use Rattle.std.proofs.Common.{◌≡◌, ℕ, ◌+◌, ◌*◌, ◌≤◌, Bool, true, false, List, [], ◌∷◌, ◌++◌, length, Option, Some, None, refl, sym, ◌∙◌, subst, arith}
use Rattle.vm_facts.specs.declared.page.Page.{Page}
use Rattle.vm_facts.specs.declared.page.Page.TheVariants.{Data, Stack}
use Rattle.vm_facts.specs.declared.page.PageState.{PageState}
use Rattle.vm_facts.specs.declared.page.PageState.TheVariants.{Unfilled}
use Rattle.vm_facts.specs.declared.entry.Entry.{Entry}
use Rattle.vm_facts.specs.declared.entry.Entry.TheVariants as entries
use Rattle.flat_state.specs.declared.change.Change.{Change}
use Rattle.flat_state.specs.declared.change.Change.TheVariants.{Resize, Fork, Exec, End}
use Rattle.flat_state.specs.Flat.{Inputs}
use Rattle.page_model.specs.Pages.{Slot}
use Rattle.page_model.specs.Placement.{Placement, Due, Start, CopyOf, slots_of}
use Rattle.page_model.specs.Moves.{touch_all}
use Rattle.page_model.specs.Place.{Changing, changing_in, copy_due, copies_from, enter_image, give_up_unless, place_change, facts_of, facts_numbered}
use Rattle.flat_state.specs.Journal.{appended}
use Rattle.page_model.specs.Dues.{IsDue}
use Rattle.kernel_model.specs.Start.{ImagesFit}
use Rattle.page_laws.proofs.Bytes.Changes.{drop_all_rest}
use Rattle.page_laws.proofs.Ownership.Changes.{dropped_pages}
use Rattle.page_laws.proofs.Ownership.Serve.{state_there}
use Rattle.page_laws.proofs.Due.Changes.{unless_due}
use Rattle.page_laws.proofs.Moves.Units.{unit_is}
use Rattle.flat_model.specs.Run.{step_at}
use Rattle.run_model.specs.State.{State}
use Rattle.run_model.specs.After.{place_at, after}
use Rattle.run_model.specs.Snapshot.{pages_written}
use Rattle.run_model.specs.Next.{next_unit}
use Rattle.run_model.specs.Kinds.{Kind, Fills, Brings, Copies, ServesWanted, Acts, ProcessComes, Interrupts, HandsMove, ProcessGoes, Notes, Begins}
use Rattle.run_model.specs.Lawful.{Follows}
use Rattle.run_model.proofs.NextUnits.{kind_of}
use Rattle.run_laws.specs.Running.{IsRun, ReadyToStep}
use Rattle.run_laws.proofs.Plain.{IsPaging, serve_paging, zero_paging, copy_paging}
use Rattle.run_laws.proofs.Stepping.{touched_due}
use Rattle.run_laws.proofs.Units.{owns, sixteen}
use Rattle.run_laws.proofs.Wholes.{unit_run, unit_ready}
use Rattle.run_laws.proofs.Room.{run_few}
use Rattle.page_laws.specs.Spans.{is_hands, added, takings}
use Rattle.economy_laws.specs.Stretch.{begins_stretch, NoneBegins, copies_of, IsClosing, FewTouched, AllGrown}
use Rattle.page_laws.proofs.Spanning.{adds_most, units_added_false}
use Rattle.economy_laws.proofs.Left.{serve_new, force_new, AllCopies, Left, ready}
use Rattle.economy_laws.proofs.Stretching.{copying_left, starting_left, source_of, SleepStops, stretch}
use Rattle.aout_image.specs.declared.Image.{Image}

pub data Opens (ds : List Due) : Type 0 where
  Nothing : ds ≡ [] → Opens ds
  NewStack : (q : Page) → ds ≡ Start q ∷ [] → Opens ds
  Children : (q parent : Page) (es : List Due) → ds ≡ CopyOf q parent ∷ es → AllCopies es → Opens ds

copies_open : (ds : List Due) → AllCopies ds → Opens ds
copies_open [] a = Nothing refl
copies_open (Start q ∷ ds) a = absurd a
copies_open (CopyOf q parent ∷ ds) a = Children q parent ds refl a

all_both : (ds es : List Due) → AllCopies ds → AllCopies es → AllCopies (ds ++ es)
all_both [] es a b = b
all_both (Start q ∷ ds) es a b = absurd a
all_both (CopyOf q parent ∷ ds) es a b = all_both ds es a b

one_copy : (child parent : Page) (s : PageState) → AllCopies (copy_due child parent s)
one_copy child parent Unfilled = tt
one_copy child parent _ = tt

from_copies : (child parent : ℕ → Page) (v : ℕ) (xs : List Slot) → AllCopies (copies_from child parent v xs)
from_copies child parent v [] = tt
from_copies child parent v (x ∷ xs) =
    all_both (copy_due (child v) (parent v) x.state) (copies_from child parent (v + 1) xs) (one_copy (child v) (parent v) x.state) (from_copies child parent (v + 1) xs)

exec_opens : (borrowed : Bool) (p : Placement) (next image sid : ℕ) (facts : Option Image) → p.due ≡ []
    → Opens (give_up_unless borrowed (enter_image p next image facts) sid).due
exec_opens borrowed p next image sid None e = Nothing (unless_due borrowed p sid ∙ e)
exec_opens borrowed p next image sid (Some facts) e = NewStack (Stack next 0) (unless_due borrowed (enter_image p next image (Some facts)) sid)

change_opens : (c : Changing) (p : Placement) (change : Change) → p.due ≡ []
    → Opens (place_change c p change).due
change_opens c p (Resize d s) e = Nothing ((drop_all_rest (dropped_pages p c.sid d s) p).1 ∙ e)
change_opens c p (Fork child) e =
    copies_open (copies_from (Data c.next_sid) (Data c.sid) 0 (slots_of p (Data c.sid 0)) ++ copies_from (Stack c.next_sid) (Stack c.sid) 0 (slots_of p (Stack c.sid 0)))
    (all_both (copies_from (Data c.next_sid) (Data c.sid) 0 (slots_of p (Data c.sid 0))) (copies_from (Stack c.next_sid) (Stack c.sid) 0 (slots_of p (Stack c.sid 0)))
    (from_copies (Data c.next_sid) (Data c.sid) 0 (slots_of p (Data c.sid 0))) (from_copies (Stack c.next_sid) (Stack c.sid) 0 (slots_of p (Stack c.sid 0))))
change_opens c p (Exec image top) e = exec_opens c.borrowed p c.next_sid image c.sid (facts_numbered c.images image) e
change_opens c p (End status) e = Nothing (unless_due c.borrowed p c.sid ∙ e)
change_opens c p _ e = Nothing e

-- where a turn begins nothing is due
turn_clear : (A : Inputs) (s : State) (p : ℕ) → Kind A s (entries.Turn p) → s.place.due ≡ []
turn_clear A s p (Fills q ds e i) = absurd (subst IsPaging (sym i) (zero_paging s.place q))
turn_clear A s p (Brings q parent ds e i) = absurd (subst IsPaging (sym (unit_is s.place parent true (entries.Turn p) i).1) (serve_paging s.place parent))
turn_clear A s p (Copies q parent ds e k i) = absurd (subst IsPaging (sym i) (copy_paging s.place q))
turn_clear A s p (ServesWanted pid now q r w i) = r.clear
turn_clear A s p (Acts pid now r w a) = r.clear
turn_clear A s p (ProcessComes pid e c i) = e
turn_clear A s p (Interrupts e k i) = e
turn_clear A s p (HandsMove count e k l w i) = e
turn_clear A s p (ProcessGoes pid e k i) = e
turn_clear A s p (Notes e k i) = e
turn_clear A s p (Begins e k i) = e

step_opens : (A : Inputs) (s : State) (pid : ℕ) (u : Entry) → s.place.due ≡ []
    → Opens (place_change (changing_in (facts_of A.images) s.point.flat pid (place_at s u))
    (touch_all s.place (pages_written s.point.flat pid (step_at A s.point pid))) (step_at A s.point pid).change).due
step_opens A s pid u e =
    change_opens (changing_in (facts_of A.images) s.point.flat pid (place_at s u)) (touch_all s.place (pages_written s.point.flat pid (step_at A s.point pid))) (step_at A s.point pid).change
    (touched_due (pages_written s.point.flat pid (step_at A s.point pid)) s.place ∙ e)

pub opens : (A : Inputs) (s : State) (u : Entry) → next_unit A s ≡ Some u → begins_stretch u ≡ true → Opens (after A s u).place.due
unfolding after
opens A s (entries.Turn p) h b = Nothing (turn_clear A s p (kind_of A s (entries.Turn p) h))
opens A s (entries.Ran p n) h b = let k : ReadyToStep A s p = unit_ready A s (entries.Ran p n) p h refl in step_opens A s p (entries.Ran p n) k.clear
opens A s (entries.Call p n c r0 r1) h b = let k : ReadyToStep A s p = unit_ready A s (entries.Call p n c r0 r1) p h refl in step_opens A s p (entries.Call p n c r0 r1) k.clear
opens A s (entries.Ended p n) h b = let k : ReadyToStep A s p = unit_ready A s (entries.Ended p n) p h refl in step_opens A s p (entries.Ended p n) k.clear
opens A s _ h b = absurd cc

-- what is left of a stretch at its beginning
pub first_left : (A : Inputs) (t : State) (pid : ℕ) (b : Bool) → FewTouched A → IsRun A t → IsClosing A t pid → Opens t.place.due → Left A t pid b 218 33
first_left A t pid b few r c (Nothing e) = let l = sixteen A t r.placed in ready A t pid b 218 33 few r c e (λ o. (omega arith, omega arith)) (λ o. (omega arith, omega arith))
first_left A t pid b few r c (NewStack q e) = let l = sixteen A t r.placed in
    starting_left A t pid b 218 33 q e (record { x = length t.place.transfers + 2; left = force_new b t.place [] (owns A t r.placed); some = omega arith; takers = omega arith })
first_left A t pid b few r c (Children q parent es e a) =
    let l = sixteen A t r.placed in
    let du : IsDue t.place q (CopyOf q parent) = source_of A t q parent es r e in
    copying_left A t pid b 218 33 q parent es e a
    (λ z. record {
      x = length t.place.transfers + 5;
      y = 1;
      left = serve_new b t.place (parent ∷ []) parent (owns A t r.placed) (state_there t.place parent (du.source).1);
      some = omega arith;
      takers = omega arith;
    })
    (λ z. record { x = length t.place.transfers + 2; left = force_new b t.place (parent ∷ []) (owns A t r.placed); some = omega arith; takers = omega arith })

pub few_touched : (A : Inputs) → FewTouched A
few_touched A = λ s pid r. let f = run_few A s pid r in omega arith

pub whole_stretch : (A : Inputs) (s t : State) (u : Entry) (us : List Entry) (pid : ℕ) → ImagesFit A.images → FewTouched A → AllGrown A → SleepStops A
    → IsRun A s → Follows A s (u ∷ us) t
    → begins_stretch u ≡ true → IsClosing A (after A s u) pid → NoneBegins us
    → (added (is_hands u) us ≤ 218 + 8 * copies_of us) × (takings us ≤ 33 + copies_of us)
whole_stretch A s t u us pid images few grows stops r f b c n =
    let r2 = unit_run A s u images r f.0 in
    stretch A us (after A s u) t pid (is_hands u) 218 33 images few grows stops r2 c f.1 n (first_left A (after A s u) pid (is_hands u) few r2 c (opens A s u f.0 b))

pub stretch_entries : (A : Inputs) (s t : State) (u : Entry) (us journal : List Entry) (pid : ℕ) → ImagesFit A.images → FewTouched A → AllGrown A
    → SleepStops A → IsRun A s → Follows A s (u ∷ us) t
    → begins_stretch u ≡ true → IsClosing A (after A s u) pid → NoneBegins us
    → length (appended journal (u ∷ us)) ≤ length journal + 219 + 8 * copies_of us
stretch_entries A s t u us journal pid images few grows stops r f b c n =
    let k = whole_stretch A s t u us pid images few grows stops r f b c n in
    let a = units_added_false journal (u ∷ us) in
    let m = adds_most false u in
    omega (arith, k.0)
