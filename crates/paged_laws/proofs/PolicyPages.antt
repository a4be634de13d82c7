-- The units by which the policy moves pages: any policy may take them.
use Rattle.std.proofs.Common.{◌≡◌, inl, inr, ℕ, ◌<◌, ◌≤◌, Bool, true, false, ◌&&◌, List, [], ◌∷◌, length, Option, Some, None, is_some, refl, sym, ap, ◌∙◌, subst, arith}
use Rattle.std.proofs.lemmas.Option.{same_Some}
use Rattle.vm_facts.specs.declared.page.Page.{Page}
use Rattle.vm_facts.specs.declared.entry.Entry.{Entry}
use Rattle.vm_facts.specs.declared.entry.Entry.TheVariants as entries
use Rattle.flat_state.specs.Flat.{Inputs}
use Rattle.page_model.specs.Placement.{Placement, Due, Start, CopyOf, due_of_page}
use Rattle.page_model.specs.Place.{place_entry}
use Rattle.page_model.specs.Runs.{Run}
use Rattle.page_model.specs.Hands.{hand_run, wants_moves}
use Rattle.page_model.specs.Serve.{is_full, serve_unit, serve_entry, unit_of_serving}
use Rattle.page_model.specs.Swapper.{is_out}
use Rattle.page_model.specs.Conditions.{EachPage}
use Rattle.page_model.specs.Dues.{IsDue}
use Rattle.page_laws.proofs.Ends.Serving.{full_some}
use Rattle.page_laws.proofs.Moves.Cases.{forcing_entry, serving_cases, serving_entries}
use Rattle.page_laws.proofs.Moves.Units.{unit_is, served_valid}
use Rattle.page_laws.proofs.Ownership.Serve.{state_there}
use Rattle.kernel_laws.proofs.Kept.Pages.{writable_shared}
use Rattle.flat_model.specs.Run.{process_of_entry}
use Rattle.run_model.specs.declared.mark.Mark.{Mark}
use Rattle.run_model.specs.declared.mark.Mark.TheVariants as marks
use Rattle.run_model.specs.Snapshot.{touched_of, passed_over}
use Rattle.run_model.specs.State.{State}
use Rattle.run_model.specs.Wanted.{running, touched_next, wanted, locked, Splits}
use Rattle.run_model.specs.After.{after, place_at}
use Rattle.run_model.specs.Next.{fill_by, fill_unit, begins_write, move_by, move_unit, next_unit}
use Rattle.run_model.specs.Kinds.{GoesOn, ProcessRuns}
use Rattle.run_model.proofs.Wanting.{wanted_splits}
use Rattle.run_laws.specs.Standing.{Placed}
use Rattle.run_laws.specs.Flowing.{Awaits, WaitsBy, Flows}
use Rattle.run_laws.specs.Running.{IsRun}
use Rattle.run_laws.proofs.Allowed.{first_due}
use Rattle.run_laws.proofs.Flows.{awaits_next, act_plain, on_running}
use Rattle.run_laws.proofs.Touching.{Present, touched_present, each_split}
use Rattle.run_laws.proofs.Units.{owns}
use Rattle.paged_model.specs.Moves.{zero_due, zero_reason, copy_reason, get_reason, reclaim_reason, write_room, hand_reason}
use Rattle.paged_model.specs.Steps.{begun}
use Rattle.paged_model.specs.Runs.{mark_by, paged_after, unit_reason}
use Rattle.paged_model.proofs.Reasoned.{none_or}
use Rattle.paged_laws.proofs.Agreeing.{AgreesBy, Agrees}
use Rattle.paged_laws.proofs.Marked.{IsMove, move_goes}
use Rattle.paged_laws.proofs.ReadRuns.{room_none}
use Rattle.paged_laws.proofs.Served.{NoReason, done_none, hand_none, serve_none, start_none, copy_none}
use Rattle.page_model.specs.Reading.{read_entry}

-- the same state under another mark
abbrev pub seen_as : State → Mark → State
seen_as s m = record s { mark = m }

-- a move of the hands
abbrev pub IsHands : Entry → Type 0
IsHands (entries.Hands n) = Unit {0}
IsHands _ = ⊥

abbrev pub NotDone : Entry → Type 0
NotDone entries.Done = ⊥
NotDone _ = Unit {0}

-- the hands pass over the same pages under another mark
abbrev pub SamePages : Inputs → State → Mark → Type 0
SamePages A s m = locked A (seen_as s m) ≡ locked A s

-- what a unit does under another mark
pub paged_same : (A : Inputs) (s : State) (m : Mark) (u : Entry) → (IsHands u → SamePages A s m)
    → paged_after A (seen_as s m) u ≡ record (after A s u) { mark = mark_by (seen_as s m) u }
unfolding after
paged_same A s m (entries.Hands n) l =
    ap (λ (ls : List Page). record (after A s (entries.Hands n)) { place = place_entry ls (place_at s (entries.Hands n)) s.place (entries.Hands n); mark = m }) (l tt)
paged_same A s m _ l = refl

-- A unit that any policy may take: it gives no reason, the hands pass over the same pages, and the marks agree after it.
pub record Fine (A : Inputs) (s : State) (m : Mark) (u : Entry) : Type 0 where
  pub reason : unit_reason A (seen_as s m) u ≡ None
  pub same : IsHands u → SamePages A s m
  pub goes : Agrees (after A s u) (mark_by (seen_as s m) u)

-- No step is begun where another unit comes than that of its process, or the end of a transfer.
pub plain_begun : (A : Inputs) (s : State) (u : Entry) → WaitsBy A s s.point.last → next_unit A s ≡ Some u → process_of_entry u ≡ None → NotDone u
    → begun s.point.last ≡ None
plain_begun A s u w h p n = go s.point.last w
  where
    refuted : (pid : ℕ) → Awaits A s pid → ⊥
    refuted pid a = subst NotDone (act_plain A s pid u (awaits_next A s u pid a h) p) n

    go : (o : Option Entry) → WaitsBy A s o → begun o ≡ None
    go (Some (entries.Refused q)) v = absurd (refuted q v)
    go (Some (entries.Out q bytes)) v = absurd (refuted q v)
    go _ v = refl

-- Units that move pages.

move_plain : (u : Entry) → IsMove u → process_of_entry u ≡ None
move_plain (entries.Zero q) k = refl
move_plain (entries.Copy q) k = refl
move_plain (entries.Get q lo n) k = refl
move_plain (entries.Reclaim q) k = refl
move_plain (entries.Hands n) k = refl
move_plain (entries.Put q n) k = refl
move_plain entries.Done k = refl
move_plain (entries.Owners f u w h) k = refl
move_plain _ k = absurd k

pages_none : (A : Inputs) (s : State) (m : Mark) (u : Entry) → NoReason s.place (locked A s) u → (IsHands u → SamePages A s m)
    → (NotDone u → begun s.point.last ≡ None) → unit_reason A (seen_as s m) u ≡ None
unfolding unit_reason
pages_none A s m (entries.Zero q) k l b = none_or (begun s.point.last) (zero_reason s.place q) (b tt) k
pages_none A s m (entries.Copy q) k l b = none_or (begun s.point.last) (copy_reason s.place q) (b tt) k
pages_none A s m (entries.Get q lo n) k l b = none_or (begun s.point.last) (get_reason s.place q lo n) (b tt) k
pages_none A s m (entries.Reclaim q) k l b = none_or (begun s.point.last) (reclaim_reason s.place q) (b tt) k
pages_none A s m (entries.Hands n) k l b =
    none_or (begun s.point.last) (hand_reason s.place (locked A (seen_as s m))) (b tt) (ap (hand_reason s.place) (l tt) ∙ k)
pages_none A s m entries.Done k l b = k
pages_none A s m _ k l b = absurd k

module _ (A : Inputs) (s : State) (m : Mark) (u : Entry) (h : next_unit A s ≡ Some u) (r : IsRun A s) (a : Agrees s m) where
  waits : WaitsBy A s s.point.last
  waits = let f : Flows A s = r.flows in f.waits

  pages_fine : (e : Entry) → u ≡ e → IsMove e → NoReason s.place (locked A s) e → (IsHands e → SamePages A s m) → Fine A s m u
  pages_fine e i k n l = subst (Fine A s m) (sym i) (record {
    reason = pages_none A s m e n l (plain_begun A s e waits (h ∙ ap (λ (x : Entry). Some x) i) (move_plain e k));
    same = l;
    goes = move_goes A s m a e k;
  })

fill_move : (p : Placement) (e : Entry) → IsMove e → IsMove (fill_unit p e)
fill_move p e k = go p.free
  where
    go : (free : List ℕ) → IsMove (fill_by p e free)
    go [] = forcing_entry IsMove tt tt p.transfers
    go (f ∷ fs) = k

serve_move : (p : Placement) (q : Page) → IsMove (serve_entry p q)
serve_move p q = serving_entries IsMove p q tt tt tt tt tt

-- Pages that the hands pass over.

due_pages : (A : Inputs) (s : State) (m : Mark) (d : Due) (ds : List Due) → s.place.due ≡ d ∷ ds → SamePages A s m
due_pages A s m d ds e = ap (passed_over s.place (touched_next A (seen_as s m))) e ∙ by d ∙ sym (ap (passed_over s.place (touched_next A s)) e)
  where
    by : (x : Due) → passed_over s.place (touched_next A (seen_as s m)) (x ∷ ds) ≡ passed_over s.place (touched_next A s) (x ∷ ds)
    by (Start q) = refl
    by (CopyOf q parent) = refl

running_pages : (A : Inputs) (s : State) (m : Mark) → running m ≡ running s.mark → SamePages A s m
running_pages A s m e = ap (λ (o : Option ℕ). passed_over s.place (touched_of A s.point.flat o) s.place.due) e

turn_running : (A : Inputs) (s : State) (m k : Mark) (pid : ℕ) → GoesOn A s k pid true → is_out s.place pid ≡ false → AgreesBy k s m → running m ≡ running k
turn_running A s m (marks.Turn p since) pid g r (inl b) = let x : true ≡ false = sym b.1 ∙ ap (is_out s.place) g.0 ∙ r in absurd cc
turn_running A s m (marks.Turn p since) pid g r (inr b) = ap running b.1
turn_running A s m _ pid g r b = absurd g

-- without waiting the hands don't move
calm_serve : (p : Placement) (q : Page) (u : Entry) → serve_unit p q false ≡ Some u → IsHands u → ⊥
calm_serve p q u e k =
    serving_cases (λ x. unit_of_serving x false ≡ Some u → ⊥) p q (λ f i j. none j) (λ f i j. tell (entries.Reclaim q) (λ z. z) j) (λ f i j. none j) (λ n i j. none j)
    (λ f fs i w x j. tell (entries.Zero q) (λ z. z) j) (λ f fs i w full j. tell entries.Done (λ z. z) j)
    (λ f fs i w full j. tell (read_entry p q) (λ z. z) j) e
  where
    none : None ≡ Some u → ⊥
    none j = absurd cc

    tell : (x : Entry) → (IsHands x → ⊥) → Some x ≡ Some u → ⊥
    tell x n j = n (subst IsHands (sym (same_Some x u j)) k)

serve_pages : (A : Inputs) (s : State) (m : Mark) (q : Page) (u : Entry) (pid : ℕ) (now : Bool) → ProcessRuns A s pid now → Agrees s m
    → serve_unit s.place q now ≡ Some u → IsHands u → SamePages A s m
serve_pages A s m q u pid true r a i k = running_pages A s m (turn_running A s m s.mark pid r.on r.resident a)
serve_pages A s m q u pid false r a i k = absurd (calm_serve s.place q u i k)

-- Kinds.

module _ (A : Inputs) (s : State) (m : Mark) (u : Entry) (h : next_unit A s ≡ Some u) (r : IsRun A s) (a : Agrees s m) (enough : 64 ≤ A.frames) where
  stood : Placed A s.point.flat s.place s.holdings
  stood = r.placed

  frames : 64 ≤ length s.place.holds
  frames = let st : Placed A s.point.flat s.place s.holdings = stood in let e = st.frames in omega (arith, e, enough)

  pub fill_fine : (q : Page) (due : List Due) → s.place.due ≡ Start q ∷ due → u ≡ fill_unit s.place (entries.Zero q) → Fine A s m u
  fill_fine q due e i =
      let st : Placed A s.point.flat s.place s.holdings = stood in
      pages_fine A s m u h r a (fill_unit s.place (entries.Zero q)) i (fill_move s.place (entries.Zero q) tt)
      (start_none s.place (locked A s) q due e st.dues frames) (λ k. due_pages A s m (Start q) due e)

  pub bring_fine : (q parent : Page) (due : List Due) → s.place.due ≡ CopyOf q parent ∷ due → serve_unit s.place parent true ≡ Some u → Fine A s m u
  bring_fine q parent due e i =
      let st : Placed A s.point.flat s.place s.holdings = stood in
      let d : IsDue s.place q (CopyOf q parent) = st.dues q (CopyOf q parent) (ap (λ (l : List Due). due_of_page l q) e ∙ first_due (CopyOf q parent) due) in
      let x = unit_is s.place parent true u i in
      pages_fine A s m u h r a (serve_entry s.place parent) x.1 (serve_move s.place parent)
      (serve_none s.place (locked A s) parent (owns A s st) (state_there s.place parent (d.source).1) (writable_shared s.place parent (d.source).0) frames
      (λ w. absurd ((d.source).1 w)) x.0) (λ k. due_pages A s m (CopyOf q parent) due e)

  pub copy_fine : (q parent : Page) (due : List Due) → s.place.due ≡ CopyOf q parent ∷ due → serve_unit s.place parent true ≡ None
      → u ≡ fill_unit s.place (entries.Copy q) → Fine A s m u
  copy_fine q parent due e k i =
      let st : Placed A s.point.flat s.place s.holdings = stood in
      pages_fine A s m u h r a (fill_unit s.place (entries.Copy q)) i (fill_move s.place (entries.Copy q) tt)
      (copy_none s.place (locked A s) q parent due e st.dues (served_valid s.place parent k) frames) (λ k. due_pages A s m (CopyOf q parent) due e)

  pub serve_fine : (pid : ℕ) (now : Bool) (q : Page) → ProcessRuns A s pid now → wanted A s ≡ Some q → serve_unit s.place q now ≡ Some u → Fine A s m u
  serve_fine pid now q x w i =
      let st : Placed A s.point.flat s.place s.holdings = stood in
      let k : Splits s.place (touched_next A s) (locked A s) q = wanted_splits A s q x.clear w in
      let all = subst (EachPage (Present s.place)) (ap (touched_of A s.point.flat) (sym (on_running A s s.mark pid now x.on)))
      (touched_present A s.point.flat s.place s.holdings pid r.numbers r.texts st) in
      let here : Present s.place q = each_split (Present s.place) (locked A s) q k.behind (subst (EachPage (Present s.place)) k.whole all) in
      let y = unit_is s.place q now u i in
      pages_fine A s m u h r a (serve_entry s.place q) y.1 (serve_move s.place q)
      (serve_none s.place (locked A s) q (owns A s st) here.there here.shared frames (λ z. ap (λ (ds : List Due). zero_due ds q) x.clear) y.0)
      (λ z. serve_pages A s m q u pid now x a i (subst IsHands (sym y.1) z))

  pub done_fine : u ≡ entries.Done → 0 < length s.place.transfers → Fine A s m u
  done_fine i l = pages_fine A s m u h r a entries.Done i tt (done_none s.place.transfers l) (λ k. absurd k)

  pub move_fine : (count : ℕ) → s.mark ≡ marks.Hands count → wants_moves s.place ≡ true → u ≡ move_unit s.place (locked A s) → Fine A s m u
  move_fine count k w i = go (begins_write s.place (locked A s) && is_full s.place) refl i
    where
      over : m ≡ marks.Over
      over = subst (λ (x : Mark). AgreesBy x s m) k a

      both_full : (x y : Bool) → (x && y) ≡ true → y ≡ true
      both_full true true e = refl
      both_full true false e = absurd cc
      both_full false y e = absurd cc

      opens : (o : Option (Page × Run)) → (is_some o && is_full s.place) ≡ false → write_room s.place o ≡ None
      opens None e = refl
      opens (Some x) e = room_none s.place e

      go : (b : Bool) → (begins_write s.place (locked A s) && is_full s.place) ≡ b → u ≡ move_by b → Fine A s m u
      go true e j = done_fine j (full_some s.place (both_full (begins_write s.place (locked A s)) (is_full s.place) e))
      go false e j = pages_fine A s m u h r a (entries.Hands 1) j tt
          (hand_none s.place (locked A s) w (opens (hand_run s.place (locked A s)) e)) (λ z. running_pages A s m (ap running over ∙ sym (ap running k)))
