-- Where a mark asks for nothing more, what is due is filled, and no more.
use Rattle.std.proofs.Common.{◌≡◌, ℕ, ◌+◌, ◌*◌, ◌≤◌, ◌&&◌, nat_lt, not, Bool, true, false, List, [], ◌∷◌, length, Option, Some, None, refl, sym, ap, ◌∙◌, subst, arith}
use Rattle.std.proofs.lemmas.Bool.{not-true}
use Rattle.vm_facts.specs.declared.page.Page.{Page}
use Rattle.vm_facts.specs.declared.entry.Entry.{Entry}
use Rattle.vm_facts.specs.declared.entry.Entry.TheVariants as entries
use Rattle.flat_state.specs.Flat.{Inputs, can_step}
use Rattle.page_model.specs.Pages.{is_valid}
use Rattle.page_model.specs.Placement.{Placement, Due, Start, CopyOf, state_of}
use Rattle.page_model.specs.Place.{due_after, filled, place_entry}
use Rattle.page_model.specs.Serve.{force, force_entry, serve_unit}
use Rattle.page_model.specs.Swapper.{is_out}
use Rattle.page_model.specs.Dues.{IsDue}
use Rattle.kernel_model.specs.Start.{ImagesFit}
use Rattle.page_laws.proofs.Moves.Locks.{force_spares}
use Rattle.page_laws.proofs.Moves.Stays.{Stays, force_stays}
use Rattle.page_laws.proofs.Moves.Transfers.{fill_count}
use Rattle.page_laws.proofs.Moves.Units.{unit_is, served_valid}
use Rattle.page_laws.proofs.Ownership.Serve.{state_there}
use Rattle.page_laws.proofs.Due.Entries.{serve_dues}
use Rattle.flat_model.specs.Run.{Point, process_of_entry}
use Rattle.run_model.specs.declared.mark.Mark.{Mark}
use Rattle.run_model.specs.declared.mark.Mark.TheVariants as marks
use Rattle.run_model.specs.State.{State}
use Rattle.run_model.specs.Wanted.{locked_by, locked}
use Rattle.run_model.specs.After.{place_at, after}
use Rattle.run_model.specs.Next.{when, goes_on, turn_instructions, work, turn_unit, fill_by, fill_unit, copy_unit_by, under, next_unit}
use Rattle.run_model.specs.Lawful.{Follows}
use Rattle.run_model.proofs.After.{after_count}
use Rattle.run_laws.specs.Running.{IsRun}
use Rattle.run_laws.proofs.Allowed.{first_after}
use Rattle.run_laws.proofs.Distinct.{among_first}
use Rattle.run_laws.proofs.Flows.{plain_point}
use Rattle.run_laws.proofs.Plain.{serve_flat}
use Rattle.run_laws.proofs.Units.{plain_place, owns, not_due}
use Rattle.run_laws.proofs.Wholes.{unit_run}
use Rattle.page_laws.specs.Spans.{is_hands, adds, added}
use Rattle.page_laws.proofs.Spanning.{adds_most}
use Rattle.economy_laws.specs.Stretch.{copies_of}
use Rattle.economy_laws.proofs.Left.{ServeLeft, ForceLeft, serve_new, force_new, serve_now, force_now, ServeNext, serve_next, ForceNext, force_next, after_forced, after_served}
use Rattle.economy_laws.proofs.Stretching.{source_of}
use Rattle.economy_laws.proofs.Finishing.Stages.{is_boundary, IsLasting, mark_lasts}
use Rattle.economy_laws.proofs.Turned.{Quiet, quiet_counts}
use Rattle.economy_laws.proofs.Resting.{Rest, rest_more, rest_spent, some_same}
use Rattle.economy_laws.proofs.Finishing.Dues.{due_next}

-- ---- marks that ask for nothing more

-- no process goes on under this mark, and nothing else is asked for
abbrev pub is_spent : Inputs → State → Mark → Bool
is_spent A s marks.Over = true
is_spent A s (marks.Dispatch pid count since) = not (goes_on A s pid (since + count))
is_spent A s (marks.Turn pid since) = not (goes_on A s pid (since + turn_instructions))
is_spent A s _ = false

spent_lasts : (A : Inputs) (s : State) (m : Mark) → is_spent A s m ≡ true → IsLasting m
spent_lasts A s marks.Over e = tt
spent_lasts A s (marks.Dispatch pid count since) e = tt
spent_lasts A s (marks.Turn pid since) e = tt
spent_lasts A s _ e = absurd cc

spent_under : (A : Inputs) (s : State) (m : Mark) → is_spent A s m ≡ true → under A s m ≡ None
spent_under A s marks.Over e = refl
spent_under A s (marks.Dispatch pid count since) e =
    ap (λ (b : Bool). when (b && not (is_out s.place pid)) (work A s pid false)) (not-true (goes_on A s pid (since + count)) e)
spent_under A s (marks.Turn pid since) e = ap (λ (b : Bool). when b (turn_unit A s pid)) (not-true (goes_on A s pid (since + turn_instructions)) e)
spent_under A s _ e = absurd cc

-- it is the same where as many instructions are counted, and the processes are the same
pub spent_same : (A : Inputs) (s t : State) (m : Mark) → t.point ≡ s.point → t.count ≡ s.count → is_spent A t m ≡ is_spent A s m
spent_same A s t m p c = by m
  where
    goes : (pid n : ℕ) → goes_on A t pid n ≡ goes_on A s pid n
    goes pid n = ap (λ (x : Point). can_step x.flat pid && (nat_lt t.count A.limit && nat_lt t.count n)) p ∙ ap (λ (x : ℕ). can_step s.point.flat pid && (nat_lt x A.limit && nat_lt x n)) c

    by : (m : Mark) → is_spent A t m ≡ is_spent A s m
    by marks.Over = refl
    by (marks.Dispatch pid count since) = ap not (goes pid (since + count))
    by (marks.Turn pid since) = ap not (goes pid (since + turn_instructions))
    by marks.Interrupt = refl
    by (marks.Hands count) = refl
    by (marks.BringIn pid) = refl
    by (marks.PutOut pid) = refl
    by marks.Audit = refl

spent_on : (A : Inputs) (s : State) (u : Entry) → is_spent A s s.mark ≡ true → process_of_entry u ≡ None → is_boundary u ≡ false → is_spent A (after A s u)
    (after A s u).mark ≡ true
spent_on A s u e plain n =
    ap (is_spent A (after A s u)) (mark_lasts A s u (spent_lasts A s s.mark e) n)
    ∙ spent_same A s (after A s u) s.mark (plain_point A s u plain) (omega (arith, after_count A s u, quiet_counts u n)) ∙ e

-- ---- what is due

-- the entries for the first page that is due, with the transfers in flight after them
abbrev FirstLeft : Bool → Placement → Due → ℕ → Type 0
FirstLeft b p (Start q) n = (x : ℕ) × (ForceLeft b p [] x × (x + 1 ≤ n))
FirstLeft b p (CopyOf q parent) n =
    (is_valid (state_of p parent) ≡ false → (x : ℕ) × ((y : ℕ) × (ServeLeft b p (parent ∷ []) parent x y × (x + 3 ≤ n))))
    × (is_valid (state_of p parent) ≡ true → (x : ℕ) × (ForceLeft b p (parent ∷ []) x × (x + 1 ≤ n)))

first_new : (A : Inputs) (s : State) (b : Bool) (d : Due) (ds : List Due) → IsRun A s → s.place.due ≡ d ∷ ds → FirstLeft b s.place d
    (length s.place.transfers + 8)
first_new A s b (Start q) ds r e = (length s.place.transfers + 2, (force_new b s.place [] (owns A s r.placed), omega arith))
first_new A s b (CopyOf q parent) ds r e =
    let du : IsDue s.place q (CopyOf q parent) = source_of A s q parent ds r e in (
      λ v. (length s.place.transfers + 5, (1, (serve_new b s.place (parent ∷ []) parent (owns A s r.placed) (state_there s.place parent (du.source).1), omega arith))),
      λ v. (length s.place.transfers + 2, (force_new b s.place (parent ∷ []) (owns A s r.placed), omega arith)),
    )

-- one unit of the first, and what is left behind it: the first still, or the others
data Filled (A : Inputs) (s : State) (u : Entry) (b : Bool) (d : Due) (ds : List Due) (n : ℕ) : Type 0 where
  Still : (m : ℕ) → process_of_entry u ≡ None → (after A s u).place.due ≡ d ∷ ds → FirstLeft (is_hands u) (after A s u).place d m
      → adds b u + m ≤ n → Filled A s u b d ds n
  Gone : process_of_entry u ≡ None → (after A s u).place.due ≡ ds → length (after A s u).place.transfers + 1 ≤ n → Filled A s u b d ds n

started : (A : Inputs) (s : State) (u : Entry) (b : Bool) (q : Page) (ds : List Due) (n : ℕ) → IsRun A s → s.place.due ≡ Start q ∷ ds → FirstLeft b s.place
    (Start q) n
    → next_unit A s ≡ Some u → Filled A s u b (Start q) ds n
started A s u b q ds n r d l h = go s.place.free refl (sym (some_same (fill_unit s.place (entries.Zero q)) u (sym (due_next A s (Start q) ds d) ∙ h)))
  where
    x : ℕ
    x = l.0

    left : ForceLeft b s.place [] l.0
    left = (l.1).0

    room : l.0 + 1 ≤ n
    room = (l.1).1

    go : (fr : List ℕ) → s.place.free ≡ fr → u ≡ fill_by s.place (entries.Zero q) s.place.free → Filled A s u b (Start q) ds n
    go [] w i =
        let j : u ≡ force_entry s.place.transfers = i ∙ ap (fill_by s.place (entries.Zero q)) w in
        let pl = after_forced A s u [] (ap (locked_by A s) d) j in
        let st : Stays s.place (force s.place []) = force_stays s.place [] (owns A s r.placed) in
        let nx : ForceNext b s.place [] u l.0 = force_next b s.place [] u l.0 left w j in
        let m = nx.entries_left in
        Still (nx.x + 1) (ap process_of_entry j ∙ plain s.place.transfers) (ap (λ (p : Placement). p.due) pl ∙ st.due ∙ d)
        (nx.x, (subst (λ (p : Placement). ForceLeft (is_hands u) p [] nx.x) (sym pl) nx.left, omega arith)) (omega (arith, m, room))
      where
        plain : (ts : List Rattle.page_model.specs.Placement.Transfer) → process_of_entry (force_entry ts) ≡ None
        plain [] = refl
        plain (t ∷ ts) = refl
    go (g ∷ gs) w i =
        let j : u ≡ entries.Zero q = i ∙ ap (fill_by s.place (entries.Zero q)) w in
        let pl : (after A s u).place ≡ filled s.place q = plain_place A s u (ap process_of_entry j) ∙ ap (place_entry (locked A s) (place_at s u) s.place) j in
        let flights = ap (λ (p : Placement). length p.transfers) pl in
        let same = fill_count s.place q in
        let now = force_now b s.place [] l.0 left in
        Gone (ap process_of_entry j) (ap (λ (p : Placement). p.due) pl ∙ ap (λ (y : List Due). due_after y q) d ∙ first_after (Start q) ds) (omega (arith, flights, same, now, room))

copied : (A : Inputs) (s : State) (u : Entry) (b : Bool) (q parent : Page) (ds : List Due) (n : ℕ) → IsRun A s → IsRun A (after A s u)
    → s.place.due ≡ CopyOf q parent ∷ ds
    → FirstLeft b s.place (CopyOf q parent) n → next_unit A s ≡ Some u → Filled A s u b (CopyOf q parent) ds n
copied A s u b q parent ds n r r2 d l h = by (serve_unit s.place parent true) refl (sym (due_next A s (CopyOf q parent) ds d) ∙ h)
  where
    locks : locked A s ≡ parent ∷ []
    locks = ap (locked_by A s) d

    bring : serve_unit s.place parent true ≡ Some u → Filled A s u b (CopyOf q parent) ds n
    bring i =
        let absent = (unit_is s.place parent true u i).0 in
        let plain : process_of_entry u ≡ None = ap process_of_entry (unit_is s.place parent true u i).1 ∙ serve_flat s.place parent in
        let left = (l.0 absent) in
        let x : ℕ = left.0 in
        let y : ℕ = (left.1).0 in
        let du : IsDue s.place q (CopyOf q parent) = source_of A s q parent ds r d in
        let st = r.placed in
        let pl = after_served A s u (parent ∷ []) parent (ap (locked_by A s) d) i in
        let nx : ServeNext b s.place (parent ∷ []) parent u left.0 (left.1).0 = serve_next b s.place (parent ∷ []) parent u left.0 (left.1).0 ((left.1).1).0 i in
        let on : ServeLeft (is_hands u) (after A s u).place (parent ∷ []) parent nx.x nx.y = subst (λ (p : Placement). ServeLeft (is_hands u) p (parent ∷ []) parent nx.x nx.y) (sym pl) nx.left in
        let now = serve_now (is_hands u) (after A s u).place (parent ∷ []) parent nx.x nx.y on in
        let m = nx.entries_left in
        let room = ((left.1).1).1 in
        Still (nx.x + 3) plain (ap (λ (p : Placement). p.due) pl ∙ serve_dues s.place (parent ∷ []) parent (owns A s r.placed) (not_due s.place parent st.dues (du.source).1) ∙ d) (
          λ v. (nx.x, (nx.y, (on, omega arith))),
          λ v. (length (after A s u).place.transfers + 2, (force_new (is_hands u) (after A s u).place (parent ∷ []) (owns A (after A s u) r2.placed), omega (arith, now))),
        )
        (omega (arith, m, room))

    copy : is_valid (state_of s.place parent) ≡ true → (fr : List ℕ) → s.place.free ≡ fr → u ≡ fill_by s.place (entries.Copy q) s.place.free → Filled A s u b (CopyOf q parent) ds n
    copy valid [] w i =
        let j : u ≡ force_entry s.place.transfers = i ∙ ap (fill_by s.place (entries.Copy q)) w in
        let left = l.1 valid in
        let pl = after_forced A s u (parent ∷ []) (ap (locked_by A s) d) j in
        let st : Stays s.place (force s.place (parent ∷ [])) = force_stays s.place (parent ∷ []) (owns A s r.placed) in
        let nx : ForceNext b s.place (parent ∷ []) u left.0 = force_next b s.place (parent ∷ []) u left.0 (left.1).0 w j in
        let still : is_valid (state_of (after A s u).place parent) ≡ true = subst (λ (p : Placement). is_valid (state_of p parent) ≡ true) (sym pl)
        (force_spares s.place (parent ∷ []) (owns A s r.placed) parent (among_first parent []) valid) in
        let m = nx.entries_left in
        let room = (left.1).1 in
        Still (nx.x + 1) (ap process_of_entry j ∙ plain s.place.transfers) (ap (λ (p : Placement). p.due) pl ∙ st.due ∙ d)
        (λ v. absurd (let z : true ≡ false = sym still ∙ v in cc), λ v. (nx.x, (subst (λ (p : Placement). ForceLeft (is_hands u) p (parent ∷ []) nx.x) (sym pl) nx.left, omega arith)))
        (omega (arith, m, room))
      where
        plain : (ts : List Rattle.page_model.specs.Placement.Transfer) → process_of_entry (force_entry ts) ≡ None
        plain [] = refl
        plain (t ∷ ts) = refl
    copy valid (g ∷ gs) w i =
        let j : u ≡ entries.Copy q = i ∙ ap (fill_by s.place (entries.Copy q)) w in
        let left = l.1 valid in
        let pl : (after A s u).place ≡ filled s.place q = plain_place A s u (ap process_of_entry j) ∙ ap (place_entry (locked A s) (place_at s u) s.place) j in
        let flights = ap (λ (p : Placement). length p.transfers) pl in
        let same = fill_count s.place q in
        let now = force_now b s.place (parent ∷ []) left.0 (left.1).0 in
        let room = (left.1).1 in
        Gone (ap process_of_entry j) (ap (λ (p : Placement). p.due) pl ∙ ap (λ (y : List Due). due_after y q) d ∙ first_after (CopyOf q parent) ds) (omega (arith, flights, same, now, room))

    by : (o : Option Entry) → serve_unit s.place parent true ≡ o → Some (copy_unit_by s.place q (serve_unit s.place parent true)) ≡ Some u → Filled A s u b (CopyOf q parent) ds n
    by (Some e) i k = bring (i ∙ ap (λ (o : Option Entry). Some (copy_unit_by s.place q o)) (sym i) ∙ k)
    by None i k = copy (served_valid s.place parent i) s.place.free refl
        (sym (some_same (fill_unit s.place (entries.Copy q)) u (ap (λ (o : Option Entry). Some (copy_unit_by s.place q o)) (sym i) ∙ k)))

-- all that is due, 8 entries for each page
dues_rest : (us : List Entry) (A : Inputs) (s t : State) (b : Bool) (d : Due) (ds : List Due) (n : ℕ) → ImagesFit A.images → IsRun A s
    → is_spent A s s.mark ≡ true
    → s.place.due ≡ d ∷ ds → FirstLeft b s.place d n → Follows A s us t → Quiet us → added b us ≤ n + 8 * length ds + 8 * copies_of us
dues_rest [] A s t b d ds n images r e k l f q = omega arith
dues_rest (u ∷ us) A s t b d ds n images r e k l f q = go (one d k l)
    (λ m d2 ds2 e2 k2 l2. dues_rest us A (after A s u) t (is_hands u) d2 ds2 m images r2 e2 k2 l2 f.1 q.1)
  where
    r2 : IsRun A (after A s u)
    r2 = unit_run A s u images r f.0

    one : (x : Due) → s.place.due ≡ x ∷ ds → FirstLeft b s.place x n → Filled A s u b x ds n
    one (Start p) i y = started A s u b p ds n r i y f.0
    one (CopyOf p parent) i y = copied A s u b p parent ds n r r2 i y f.0

    go : Filled A s u b d ds n
        → ((m : ℕ) (d2 : Due) (ds2 : List Due) → is_spent A (after A s u) (after A s u).mark ≡ true → (after A s u).place.due ≡ d2 ∷ ds2
        → FirstLeft (is_hands u) (after A s u).place d2 m → added (is_hands u) us ≤ m + 8 * length ds2 + 8 * copies_of us)
        → added b (u ∷ us) ≤ n + 8 * length ds + 8 * copies_of (u ∷ us)
    go (Still m plain i y w) more = let z = more m d ds (spent_on A s u e plain q.0) i y in omega (arith, z, w)
    go (Gone plain i w) more = by ds i more
      where
        by : (es : List Due) → (after A s u).place.due ≡ es
            → ((m : ℕ) (d2 : Due) (ds2 : List Due) → is_spent A (after A s u) (after A s u).mark ≡ true → (after A s u).place.due ≡ d2 ∷ ds2
            → FirstLeft (is_hands u) (after A s u).place d2 m → added (is_hands u) us ≤ m + 8 * length ds2 + 8 * copies_of us)
            → added b (u ∷ us) ≤ n + 8 * length es + 8 * copies_of (u ∷ us)
        by [] j on =
            let z = rest_spent A (after A s u) (is_hands u) (after A s u).mark j refl (spent_under A (after A s u) (after A s u).mark (spent_on A s u e plain q.0)) us t f.1 q.1 in
            let m = adds_most b u in omega (arith, z, m, w)
        by (d2 ∷ es) j on =
            let z = on (length (after A s u).place.transfers + 8) d2 es (spent_on A s u e plain q.0) j (first_new A (after A s u) (is_hands u) d2 es r2 j) in
            let m = adds_most b u in omega (arith, z, m, w)

pub rest_due : (A : Inputs) (s : State) (b : Bool) (ds : List Due) → ImagesFit A.images → IsRun A s → is_spent A s s.mark ≡ true → s.place.due ≡ ds
    → Rest A s b (length s.place.transfers + 8 * length ds)
rest_due A s b [] images r e k = rest_more A s b 0 (length s.place.transfers + 8 * 0) (omega arith) (rest_spent A s b s.mark k refl (spent_under A s s.mark e))
rest_due A s b (d ∷ ds) images r e k = λ us t f q.
    let z = dues_rest us A s t b d ds (length s.place.transfers + 8) images r e k (first_new A s b d ds r k) f q in omega (arith, z)
