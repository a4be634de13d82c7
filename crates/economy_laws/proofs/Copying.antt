-- No more pages are copied than were due at forks.
use Rattle.std.proofs.Common.{◌≡◌, inl, inr, ℕ, ◌+◌, ◌*◌, ◌≤◌, ◌&&◌, Bool, true, false, List, [], ◌∷◌, ◌++◌, length, Option, Some, None, refl, sym, ap, ◌∙◌, subst, arith}
use Rattle.vm_facts.specs.declared.page.Page.{Page}
use Rattle.vm_facts.specs.declared.page.Page.TheVariants.{Data, Stack}
use Rattle.vm_facts.specs.declared.page.PageState.{PageState}
use Rattle.vm_facts.specs.declared.page.PageState.TheVariants.{Unfilled}
use Rattle.vm_facts.specs.declared.entry.Entry.{Entry}
use Rattle.vm_facts.specs.declared.entry.Entry.TheVariants as entries
use Rattle.aout_image.specs.declared.Image.{Image}
use Rattle.flat_state.specs.Flat.{Inputs, process_of}
use Rattle.flat_state.specs.declared.change.Change.{Change}
use Rattle.flat_state.specs.declared.change.Change.TheVariants.{Resize, Fork, Lend, Exec, End}
use Rattle.page_model.specs.Pages.{Slot}
use Rattle.page_model.specs.Placement.{Placement, Transfer, Due, Start, CopyOf, due_of_page, slots_of}
use Rattle.page_model.specs.Moves.{touch_all}
use Rattle.page_model.specs.Place.{due_after, filled, place_entry, copy_due, copies_from, enter_image, give_up_unless, place_change, space_of_process, facts_of, facts_numbered, Changing, changing_in}
use Rattle.page_model.specs.Serve.{force, force_entry, is_full, serve_entry, serve_unit}
use Rattle.page_model.specs.Swapper.{is_out, put_out_unit}
use Rattle.page_model.specs.Dues.{IsDue}
use Rattle.kernel_model.specs.Start.{ImagesFit}
use Rattle.kernel_model.specs.Stands.{holds_some}
use Rattle.page_laws.proofs.Bytes.Changes.{drop_all_rest}
use Rattle.page_laws.proofs.Due.Changes.{unless_due}
use Rattle.page_laws.proofs.Leaving.Changes.{touch_all_steady}
use Rattle.page_laws.proofs.Moves.Stays.{Steady, Stays, force_stays}
use Rattle.page_laws.proofs.Moves.Units.{unit_is}
use Rattle.page_laws.proofs.Ownership.Changes.{dropped_pages}
use Rattle.page_laws.proofs.Swapper.PuttingOut.{unit_case}
use Rattle.page_laws.proofs.Moves.Cases.{forcing_entry, serving_entries}
use Rattle.page_laws.proofs.Due.Entries.{serve_dues}
use Rattle.flat_model.specs.Run.{process_of_entry, step_at}
use Rattle.run_model.specs.declared.mark.Mark.TheVariants as marks
use Rattle.run_model.specs.State.{State}
use Rattle.run_model.specs.Wanted.{locked_by, locked}
use Rattle.run_model.specs.After.{moved_on, place_at, after}
use Rattle.run_model.specs.Snapshot.{pages_written}
use Rattle.run_model.specs.Next.{fill_by, begins_write, move_by, owners_entry, next_unit}
use Rattle.run_model.specs.Kinds.{Kind, Fills, Brings, Copies, ServesWanted, Acts, ProcessComes, Interrupts, HandsMove, ProcessGoes, Notes, Begins}
use Rattle.run_model.proofs.NextUnits.{kind_of}
use Rattle.run_laws.proofs.Runs.{made}
use Rattle.run_laws.specs.Sized.{PlaceSized}
use Rattle.run_laws.specs.Standing.{MarkStands}
use Rattle.run_laws.specs.Running.{IsRun}
use Rattle.run_laws.proofs.Acts.{Completes, completes, Arrives, arrives}
use Rattle.run_laws.proofs.Allowed.{first_after}
use Rattle.run_laws.proofs.Flows.{Acted, Settles, Refuses, Steps, acted, steps_own, steps_shape, refused_after, out_of, out_after}
use Rattle.run_laws.proofs.Settling.{IsMark, begins_is}
use Rattle.run_laws.proofs.Stepping.{touched_due}
use Rattle.run_laws.proofs.Units.{plain_place, owns, not_due}
use Rattle.run_laws.proofs.Wholes.{unit_run}
use Rattle.economy_laws.specs.Stretch.{copies}
use Rattle.economy_laws.proofs.Left.{after_forced, after_served, AllCopies}
use Rattle.economy_laws.proofs.Stretching.{source_of}
use Rattle.economy_laws.proofs.Opening.{Opens, Nothing, NewStack, Children}
use Rattle.economy_laws.proofs.Turned.{served_now}
use Rattle.economy_laws.proofs.Resting.{done_due, put_mark, notes_place}
use Rattle.economy_laws.proofs.SleepsCounted.{forks_one, born_by}
use Rattle.economy_laws.proofs.Finishing.Marks.{moves_mark}

-- how many of these are copies
abbrev pub copy_dues : List Due → ℕ
copy_dues [] = 0
copy_dues (Start q ∷ ds) = copy_dues ds
copy_dues (CopyOf q parent ∷ ds) = 1 + copy_dues ds

-- ---- a change

dues_both : (ds es : List Due) → copy_dues (ds ++ es) ≡ copy_dues ds + copy_dues es
dues_both [] es = omega arith
dues_both (Start q ∷ ds) es = dues_both ds es
dues_both (CopyOf q parent ∷ ds) es = let k = dues_both ds es in omega (arith, k)

one_due : (child parent : Page) (s : PageState) → copy_dues (copy_due child parent s) ≤ 1
one_due child parent Unfilled = omega arith
one_due child parent _ = omega arith

dues_from : (child parent : ℕ → Page) (v : ℕ) (xs : List Slot) → copy_dues (copies_from child parent v xs) ≤ length xs
dues_from child parent v [] = omega arith
dues_from child parent v (x ∷ xs) =
    let k = dues_both (copy_due (child v) (parent v) x.state) (copies_from child parent (v + 1) xs) in
    let a = one_due (child v) (parent v) x.state in
    let b = dues_from child parent (v + 1) xs in
    omega (arith, k, a, b)

change_copies : (who : Changing) (p : Placement) (change : Change) → p.due ≡ []
    → (length (slots_of p (Data who.sid 0)) ≤ 4096) × (length (slots_of p (Stack who.sid 0)) ≤ 512)
    → copy_dues (place_change who p change).due ≤ 4608 * made change
change_copies who p change e z = go change
  where
    none : (ds : List Due) → ds ≡ [] → copy_dues ds ≤ 0
    none ds i = let k = ap copy_dues i in omega (arith, k)

    enters : (image : ℕ) (facts : Option Image) → copy_dues (give_up_unless who.borrowed (enter_image p who.next_sid image facts) who.sid).due ≤ 0
    enters image None = none (give_up_unless who.borrowed p who.sid).due (unless_due who.borrowed p who.sid ∙ e)
    enters image (Some facts) = let k = ap copy_dues (unless_due who.borrowed (enter_image p who.next_sid image (Some facts)) who.sid) in omega (arith, k)

    go : (c : Change) → copy_dues (place_change who p c).due ≤ 4608 * made c
    go (Resize d t) = none _ ((drop_all_rest (dropped_pages p who.sid d t) p).1 ∙ e)
    go (Fork child) =
        let k = dues_both (copies_from (Data who.next_sid) (Data who.sid) 0 (slots_of p (Data who.sid 0))) (copies_from (Stack who.next_sid) (Stack who.sid) 0 (slots_of p (Stack who.sid 0))) in
        let a = dues_from (Data who.next_sid) (Data who.sid) 0 (slots_of p (Data who.sid 0)) in
        let b = dues_from (Stack who.next_sid) (Stack who.sid) 0 (slots_of p (Stack who.sid 0)) in
        omega (arith, k, a, b, z.0, z.1)
    go (Lend child) = let k = none _ e in omega (arith, k)
    go (Exec image top) = enters image (facts_numbered who.images image)
    go (End status) = none _ (unless_due who.borrowed p who.sid ∙ e)
    go _ = none _ e

-- ---- units

force_copies : (ts : List Transfer) → copies (force_entry ts) ≡ 0
force_copies = forcing_entry (λ e. copies e ≡ 0) refl refl

serve_copies : (p : Placement) (q : Page) → copies (serve_entry p q) ≡ 0
serve_copies p q = serving_entries (λ e. copies e ≡ 0) p q refl refl refl refl refl

-- what is copied and due after a unit was due, or comes by a fork
abbrev pub FewCopies : Inputs → State → Entry → Type 0
FewCopies A s u = copies u + copy_dues (after A s u).place.due ≤ copy_dues s.place.due + 4608 * forks_one u

kept : (A : Inputs) (s : State) (u : Entry) → copies u ≡ 0 → (after A s u).place.due ≡ s.place.due → FewCopies A s u
kept A s u c e = let k = ap copy_dues e in omega (arith, c, k)

kept_as : (A : Inputs) (s : State) (u x : Entry) → x ≡ u → copies x ≡ 0 → (after A s x).place.due ≡ s.place.due → FewCopies A s u
kept_as A s u x i c e = subst (FewCopies A s) i (kept A s x c e)

cleared : (A : Inputs) (s : State) (u x : Entry) → x ≡ u → copies x ≡ 0 → (after A s x).place.due ≡ [] → FewCopies A s u
cleared A s u x i c e = subst (FewCopies A s) i (let k = ap copy_dues e in omega (arith, c, k))

due_same : (A : Inputs) (s : State) (x : Entry) → (after A s x).place ≡ s.place → (after A s x).place.due ≡ s.place.due
due_same A s x e = ap (λ (p : Placement). p.due) e

pub marked_place : (A : Inputs) (s : State) (x : Entry) → IsMark x → (after A s x).place ≡ s.place
unfolding after
marked_place A s (entries.Event line) m = refl
marked_place A s (entries.Turn p) m = refl
marked_place A s _ m = absurd m

marked_copies : (u : Entry) → IsMark u → copies u ≡ 0
marked_copies (entries.Event line) m = refl
marked_copies (entries.Turn p) m = refl
marked_copies _ m = absurd m

own_copies : (u : Entry) (pid : ℕ) → process_of_entry u ≡ Some pid → copies u ≡ 0
own_copies (entries.Copy q) pid e = absurd cc
own_copies _ pid e = refl

-- a unit that completes a step
stepped_copies : (A : Inputs) (s : State) (u : Entry) (pid : ℕ) → PlaceSized s.place → s.place.due ≡ [] → Rattle.run_laws.proofs.Flows.Ends u
    → Rattle.flat_model.specs.Run.entry_of_step A s.point pid ≡ Some u
    → FewCopies A s u
stepped_copies A s u pid z d e h =
    let own : process_of_entry u ≡ Some pid = steps_own A s.point pid u h in
    let c : Completes A s.point pid u = completes A s.point pid u e h in
    let r : Arrives A s pid u = arrives A s pid u e own in
    let b = born_by A s.point pid u c.due in
    let ws : List Page = pages_written s.point.flat pid (step_at A s.point pid) in
    let sid : ℕ = space_of_process (process_of s.point.flat pid) in
    let st : Steady s.place (touch_all s.place (pages_written s.point.flat pid (step_at A s.point pid))) = touch_all_steady (pages_written s.point.flat pid (step_at A s.point pid)) s.place in
    let a = st.sizes (Data (space_of_process (process_of s.point.flat pid)) 0) in
    let x = st.sizes (Stack (space_of_process (process_of s.point.flat pid)) 0) in
    let y = z (space_of_process (process_of s.point.flat pid)) in
    let k = change_copies (changing_in (facts_of A.images) s.point.flat pid (place_at s u)) (touch_all s.place (pages_written s.point.flat pid (step_at A s.point pid))) (step_at A s.point pid).change
    (touched_due (pages_written s.point.flat pid (step_at A s.point pid)) s.place ∙ d)
    (omega (arith, a, y.0), omega (arith, x, y.1)) in
    let p = ap (λ (q : Placement). copy_dues q.due) r.place in
    let n = own_copies u pid own in
    omega (arith, k, p, n, b)

pub unit_copies : (A : Inputs) (s : State) (u : Entry) → ImagesFit A.images → IsRun A s → PlaceSized s.place → next_unit A s ≡ Some u → FewCopies A s u
unit_copies A s u images r z h = go (kind_of A s u h)
  where
    r2 : IsRun A (after A s u)
    r2 = unit_run A s u images r h

    forced : (lk : List Page) → locked A s ≡ lk → u ≡ force_entry s.place.transfers → FewCopies A s u
    forced lk e j =
        let pl = after_forced A s u lk e j in
        let st : Stays s.place (force s.place lk) = force_stays s.place lk (owns A s r.placed) in
        kept A s u (ap copies j ∙ force_copies s.place.transfers) (ap (λ (p : Placement). p.due) pl ∙ st.due)

    fills : (q : Page) (ds : List Due) (fr : List ℕ) → s.place.due ≡ Start q ∷ ds → s.place.free ≡ fr → u ≡ fill_by s.place (entries.Zero q) s.place.free → FewCopies A s u
    fills q ds [] d w i = forced [] (ap (locked_by A s) d) (i ∙ ap (fill_by s.place (entries.Zero q)) w)
    fills q ds (g ∷ gs) d w i =
        let j : u ≡ entries.Zero q = i ∙ ap (fill_by s.place (entries.Zero q)) w in
        let pl : (after A s u).place ≡ filled s.place q = plain_place A s u (ap process_of_entry j) ∙ ap (place_entry (locked A s) (place_at s u) s.place) j in
        let e : (after A s u).place.due ≡ ds = ap (λ (p : Placement). p.due) pl ∙ ap (λ (y : List Due). due_after y q) d ∙ first_after (Start q) ds in
        let k = ap copy_dues e in let l = ap copy_dues d in let c = ap copies j in
        omega (arith, k, l, c)

    copied : (q parent : Page) (ds : List Due) (fr : List ℕ) → s.place.due ≡ CopyOf q parent ∷ ds → s.place.free ≡ fr → u ≡ fill_by s.place (entries.Copy q) s.place.free → FewCopies A s u
    copied q parent ds [] d w i = forced (parent ∷ []) (ap (locked_by A s) d) (i ∙ ap (fill_by s.place (entries.Copy q)) w)
    copied q parent ds (g ∷ gs) d w i =
        let j : u ≡ entries.Copy q = i ∙ ap (fill_by s.place (entries.Copy q)) w in
        let pl : (after A s u).place ≡ filled s.place q = plain_place A s u (ap process_of_entry j) ∙ ap (place_entry (locked A s) (place_at s u) s.place) j in
        let e : (after A s u).place.due ≡ ds = ap (λ (p : Placement). p.due) pl ∙ ap (λ (y : List Due). due_after y q) d ∙ first_after (CopyOf q parent) ds in
        let k = ap copy_dues e in let l = ap copy_dues d in let c = ap copies j in
        omega (arith, k, l, c)

    served : (q : Page) → Rattle.page_model.specs.Dues.NotDue s.place.due q → serve_unit s.place q true ≡ Some u → FewCopies A s u
    served q n i =
        let pl = after_served A s u (locked A s) q refl i in
        kept A s u (ap copies (unit_is s.place q true u i).1 ∙ serve_copies s.place q) (ap (λ (p : Placement). p.due) pl ∙ serve_dues s.place (locked A s) q (owns A s r.placed) n)

    acts : (pid : ℕ) → s.place.due ≡ [] → Acted A s pid u → FewCopies A s u
    acts pid d (Settles i) = kept_as A s u entries.Done (sym i) refl (done_due A s r)
    acts pid d (Refuses i) = kept_as A s u (entries.Refused pid) (sym i) refl (ap (λ (t : State). t.place.due) (refused_after A s pid))
    acts pid d (Steps f g i) = elim (steps_shape A s.point pid u i) [
      | inl ends ↦ stepped_copies A s u pid z d ends i
      | inr out ↦ kept_as A s u (entries.Out pid out.0) (sym out.1) refl
          (ap (λ (t : State). t.place.due) (out_after A s pid pid out.0 (out_of A s.point pid pid out.0 (i ∙ ap (λ (y : Entry). Some y) out.1))))
    ]

    hands : (count : ℕ) (b : Bool) → s.mark ≡ marks.Hands count → move_by b ≡ u → FewCopies A s u
    hands count true m i = kept_as A s u entries.Done i refl (done_due A s r)
    hands count false m i = cleared A s u (entries.Hands 1) i refl
        (let run : IsRun A (after A s (entries.Hands 1)) = subst (λ (x : Entry). IsRun A (after A s x)) (sym i) r2 in subst (MarkStands (after A s (entries.Hands 1)))
        (moves_mark A s 1 ∙ ap (moved_on 1) m) run.mark)

    puts : (pid : ℕ) → s.place.due ≡ [] → s.mark ≡ marks.PutOut pid → (x : Entry) → x ≡ put_out_unit s.place pid (space_of_process (process_of s.point.flat pid)) → x ≡ u → FewCopies A s u
    puts pid d m x i j = unit_case (λ (y : Entry). y ≡ u → FewCopies A s u) s.place pid (space_of_process (process_of s.point.flat pid))
        (λ t ts w k. kept_as A s u entries.Done k refl (done_due A s r))
        (λ v y w q k. cleared A s u (entries.Put v _) k refl
        (let run : IsRun A (after A s (entries.Put v _)) = subst (λ (x : Entry). IsRun A (after A s x)) (sym k) r2 in
        let st : ((after A s (entries.Put v _)).place.due ≡ []) × (holds_some (process_of (after A s (entries.Put v _)).point.flat pid) ≡ true) ×
        (is_out (after A s (entries.Put v _)).place pid ≡ false)
        = subst (MarkStands (after A s (entries.Put v _))) (put_mark A s v _ ∙ m) run.mark in st.0))
        (λ y w k. kept_as A s u (entries.SwapOut pid) k refl (ap (λ (p : Placement). p.due) (plain_place A s (entries.SwapOut pid) refl)))
        (sym i ∙ j)

    go : Kind A s u → FewCopies A s u
    go (Fills q ds d i) = fills q ds s.place.free d refl i
    go (Brings q parent ds d i) =
        let du : IsDue s.place q (CopyOf q parent) = source_of A s q parent ds r d in
        let st = r.placed in
        served parent (not_due s.place parent st.dues (du.source).1) i
    go (Copies q parent ds d k i) = copied q parent ds s.place.free d refl i
    go (ServesWanted pid now q run w i) = served q (ap (λ (x : List Due). due_of_page x q) run.clear) (served_now s.place q now u i)
    go (Acts pid now run w a) = acts pid run.clear (acted A s pid u a)
    go (ProcessComes pid d c i) = kept_as A s u (entries.SwapIn pid) (sym i) refl (ap (λ (p : Placement). p.due) (plain_place A s (entries.SwapIn pid) refl))
    go (Interrupts d k i) = kept_as A s u entries.Done (sym i) refl (done_due A s r)
    go (HandsMove count d k l w i) = hands count (begins_write s.place (locked A s) && is_full s.place) k (sym i)
    go (ProcessGoes pid d k i) = puts pid d k u i refl
    go (Notes d k i) = kept_as A s u (owners_entry s) (sym i) refl (due_same A s (owners_entry s) (notes_place A s))
    go (Begins d k i) = begins_is (FewCopies A s) A s u i (λ x m. kept A s x (marked_copies x m) (due_same A s x (marked_place A s x m)))

-- ---- what is due after an instruction

all_copies : (ds : List Due) → AllCopies ds → length ds ≡ copy_dues ds
all_copies [] a = refl
all_copies (Start q ∷ ds) a = absurd a
all_copies (CopyOf q parent ∷ ds) a = let k = all_copies ds a in omega (arith, k)

pub opens_few : (ds : List Due) → Opens ds → length ds ≤ 1 + copy_dues ds
opens_few ds (Nothing e) = let k = ap length e in omega (arith, k)
opens_few ds (NewStack q e) = let k = ap length e in omega (arith, k)
opens_few ds (Children q parent es e a) = let k = ap length e in let l = ap copy_dues e in let m = all_copies es a in omega (arith, k, l, m)
