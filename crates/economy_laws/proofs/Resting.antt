-- How few entries come before the next boundary, under each mark.
use Rattle.std.proofs.Common.{◌≡◌, ◌⊎◌, inl, inr, ℕ, zero, suc, ◌+◌, ◌-◌, ◌*◌, ◌<◌, ◌≤◌, ◌&&◌, nat_lt, Bool, true, false, List, [], ◌∷◌, length, Option, Some, None, refl, sym, ap, ◌∙◌, subst, arith}
use Rattle.std.proofs.lemmas.Bool.{and_parts, ltb-true}
use Rattle.std.proofs.lemmas.List.{length-append}
use Rattle.vm_facts.specs.declared.page.Page.{Page}
use Rattle.vm_facts.specs.declared.page.Page.TheVariants.{Data, Stack}
use Rattle.vm_facts.specs.declared.entry.Entry.{Entry}
use Rattle.vm_facts.specs.declared.entry.Entry.TheVariants as entries
use Rattle.flat_state.specs.Flat.{Inputs, process_of}
use Rattle.page_model.specs.Placement.{Placement, Due, slots_of}
use Rattle.page_model.specs.Moves.{done}
use Rattle.page_model.specs.Place.{pages_of_space, data_from, stack_from, space_of_process}
use Rattle.page_model.specs.PuttingOut.{active_count, is_active, put_rank, put_rank_by}
use Rattle.page_model.specs.Hands.{wants_moves}
use Rattle.page_model.specs.Serve.{is_full}
use Rattle.page_model.specs.Swapper.{is_out, put_out_unit}
use Rattle.kernel_model.specs.Start.{ImagesFit}
use Rattle.page_laws.proofs.Ends.Serving.{full_some, pages_length}
use Rattle.page_laws.proofs.Moves.Stays.{Steady, done_steady}
use Rattle.page_laws.proofs.Moves.Transfers.{entry_count}
use Rattle.page_laws.proofs.Swapper.PuttingOut.{unit_case}
use Rattle.flat_model.specs.Run.{Point, process_of_entry}
use Rattle.run_model.specs.declared.mark.Mark.{Mark}
use Rattle.run_model.specs.declared.mark.Mark.TheVariants as marks
use Rattle.run_model.specs.State.{State}
use Rattle.run_model.specs.Wanted.{running, locked}
use Rattle.run_model.specs.After.{completed, moved_on, brought_in, put_out, audited, place_at, after}
use Rattle.run_model.specs.Next.{when, or_else, due_unit, begins_write, move_by, move_unit, owners_entry, under, next_mark, next_unit}
use Rattle.run_model.specs.Lawful.{Follows}
use Rattle.run_laws.specs.Standing.{MarkStands}
use Rattle.run_laws.specs.Running.{IsRun}
use Rattle.run_laws.specs.Sized.{PlaceSized}
use Rattle.run_laws.proofs.Flows.{plain_point}
use Rattle.run_laws.proofs.Plain.{put_flat}
use Rattle.run_laws.proofs.Residents.{put_unit, put_falls}
use Rattle.run_laws.proofs.Units.{plain_place, owns, sixteen}
use Rattle.run_laws.proofs.Wholes.{unit_run}
use Rattle.page_laws.specs.Spans.{is_hands, added}
use Rattle.page_laws.proofs.Serving.{done_less}
use Rattle.page_laws.proofs.Spanning.{adds_most}
use Rattle.economy_laws.specs.Stretch.{NoneBegins, copies_of, IsClosing}
use Rattle.economy_laws.proofs.Stretching.{stretch}
use Rattle.economy_laws.proofs.Opening.{Opens, Nothing, few_touched, first_left}
use Rattle.economy_laws.proofs.Sleeping.{sleep_stops}
use Rattle.economy_laws.proofs.Growing.{all_grown}
use Rattle.economy_laws.proofs.Growth.{growth_touches}
use Rattle.economy_laws.proofs.Finishing.Stages.{is_boundary, mark_boundary, quiet_stretch}
use Rattle.economy_laws.proofs.Turned.{Quiet, turned, TurnsFor, InTurn, in_turn, run_turn}
use Rattle.economy_laws.proofs.Finishing.Marks.{done_mark, moves_mark, in_mark, notes_mark}

-- So many entries suffice till the next boundary, and 8 for each copy.
abbrev pub Rest : Inputs → State → Bool → ℕ → Type 0
Rest A s b n = (us : List Entry) (t : State) → Follows A s us t → Quiet us → added b us ≤ n + 8 * copies_of us

module _ (A : Inputs) (s : State) (b : Bool) where
  pub rest_none : ((u : Entry) → next_unit A s ≡ Some u → is_boundary u ≡ false → ⊥) → Rest A s b 0
  rest_none never [] t f q = omega arith
  rest_none never (u ∷ us) t f q = absurd (never u f.0 q.0)

  pub rest_more : (n m : ℕ) → n ≤ m → Rest A s b n → Rest A s b m
  rest_more n m l r us t f q = let k = r us t f q in omega (arith, l, k)

  rest_step : (n : ℕ) → ((u : Entry) → next_unit A s ≡ Some u → is_boundary u ≡ false → Rest A (after A s u) (is_hands u) n) → Rest A s b (suc n)
  rest_step n on [] t f q = omega arith
  rest_step n on (u ∷ us) t f q = let k = on u f.0 q.0 us t f.1 q.1 in let m = adds_most b u in omega (arith, k, m)

-- ---- a process runs

none_begins : (us : List Entry) → Quiet us → NoneBegins us
none_begins [] q = tt
none_begins (u ∷ us) q = (quiet_stretch u q.0, none_begins us q.1)

-- some turn is so
some_turn : (m : Mark) (pid n : ℕ) → running m ≡ Some pid → (k : ℕ) × TurnsFor m pid k n
some_turn (marks.Dispatch p count since) pid n e = (n, ((let same : p ≡ pid = cc in same), omega arith))
some_turn (marks.Turn p since) pid n e = (since, ((let same : p ≡ pid = cc in same), refl))
some_turn _ pid n e = absurd cc

pub rest_running : (A : Inputs) (s : State) (pid : ℕ) (b : Bool) → ImagesFit A.images → IsRun A s → running s.mark ≡ Some pid → Opens s.place.due
    → Rest A s b 218
rest_running A s pid b images r m o us t f q =
    let k = some_turn s.mark pid s.count m in
    let i : InTurn A s pid k.0 us = in_turn A us s t pid k.0 k.1 f q in
    let run : IsRun A (turned A s pid k.0) = run_turn A s pid k.0 k.1 r in
    let closing : IsClosing A (turned A s pid k.0) pid = record { since = k.0; mark = refl; lines = omega arith } in
    let x = stretch A us (turned A s pid k.0) i.last pid b 218 33 images (few_touched A) (all_grown A (growth_touches A)) (sleep_stops A) run closing i.follows (none_begins us q)
    (first_left A (turned A s pid k.0) pid b (few_touched A) run closing o) in
    x.0

-- ---- no process runs, and nothing is due

by_mark : (A : Inputs) (s : State) (m : Mark) → s.place.due ≡ [] → s.mark ≡ m → next_unit A s ≡ or_else (under A s m) (next_mark A s)
unfolding next_unit
by_mark A s m d e =
    ap (λ (x : List Due). or_else (due_unit s.place x) (or_else (under A s s.mark) (next_mark A s))) d ∙ ap (λ (x : Mark). or_else (under A s x) (next_mark A s)) e

-- nothing is to come of a mark
pub rest_spent : (A : Inputs) (s : State) (b : Bool) (m : Mark) → s.place.due ≡ [] → s.mark ≡ m → under A s m ≡ None → Rest A s b 0
rest_spent A s b m d e n = rest_none A s b (λ u h q. absurd (let z : true ≡ false = sym (mark_boundary A s u (sym (by_mark A s m d e ∙ ap (λ (o : Option Entry). or_else o (next_mark A s)) n) ∙ h))
    ∙ q in cc))

pub some_same : (a b : Entry) → Some a ≡ Some b → a ≡ b
some_same a b e = cc

-- one unit ends it
rest_once : (A : Inputs) (s : State) (b : Bool) (m : Mark) (x : Entry) → s.place.due ≡ [] → s.mark ≡ m → under A s m ≡ Some x
    → (after A s x).mark ≡ marks.Over → (after A s x).place.due ≡ [] → Rest A s b 1
rest_once A s b m x d e n o w = rest_step A s b 0 (λ u h q.
    let is : x ≡ u = some_same x u (sym (by_mark A s m d e ∙ ap (λ (y : Option Entry). or_else y (next_mark A s)) n) ∙ h) in
    subst (λ (y : Entry). Rest A (after A s y) (is_hands y) 0) is (rest_spent A (after A s x) (is_hands x) marks.Over w o refl))

out_mark : (A : Inputs) (s : State) (pid : ℕ) → (after A s (entries.SwapOut pid)).mark ≡ put_out s.mark
unfolding after
out_mark A s pid = refl

pub put_mark : (A : Inputs) (s : State) (q : Page) (n : ℕ) → (after A s (entries.Put q n)).mark ≡ s.mark
unfolding after
put_mark A s q n = refl

pub notes_place : (A : Inputs) (s : State) → (after A s (owners_entry s)).place ≡ s.place
unfolding after
notes_place A s = refl

pub done_due : (A : Inputs) (s : State) → IsRun A s → (after A s entries.Done).place.due ≡ s.place.due
done_due A s r = let st : Steady s.place (done s.place) = done_steady s.place (owns A s r.placed) in ap (λ (p : Placement). p.due) (plain_place A s entries.Done refl) ∙ st.due

rest_interrupt : (A : Inputs) (s : State) (b : Bool) → IsRun A s → s.place.due ≡ [] → s.mark ≡ marks.Interrupt → Rest A s b 1
rest_interrupt A s b r d e = rest_once A s b marks.Interrupt entries.Done d e refl (done_mark A s ∙ ap completed e) (done_due A s r ∙ d)

rest_in : (A : Inputs) (s : State) (b : Bool) (pid : ℕ) → s.place.due ≡ [] → s.mark ≡ marks.BringIn pid → Rest A s b 1
rest_in A s b pid d e = rest_once A s b (marks.BringIn pid) (entries.SwapIn pid) d e refl (in_mark A s pid ∙ ap brought_in e)
    (ap (λ (p : Placement). p.due) (plain_place A s (entries.SwapIn pid) refl) ∙ d)

rest_audit : (A : Inputs) (s : State) (b : Bool) → s.place.due ≡ [] → s.mark ≡ marks.Audit → Rest A s b 1
rest_audit A s b d e = rest_once A s b marks.Audit (owners_entry s) d e refl (notes_mark A s ∙ ap audited e) (ap (λ (p : Placement). p.due) (notes_place A s) ∙ d)

-- ---- moves of the hands: with each move one fewer is left, and with each transfer that ends one fewer is in flight

-- where moves are left, each unit leaves fewer
record Moving (A : Inputs) (s : State) (b : Bool) (count : ℕ) : Type 0 where
  images : ImagesFit A.images
  run : IsRun A s
  mark : s.mark ≡ marks.Hands count

-- what is to come of its moves, with fewer of them or of the transfers
abbrev FewerMoves : Inputs → ℕ → Type 0
FewerMoves A n = (t : State) (b : Bool) (count : ℕ) → Moving A t b count → 2 * count + length t.place.transfers ≤ n → Rest A t b n

moves_rest : (A : Inputs) (s : State) (b : Bool) (count n : ℕ) → Moving A s b count → 2 * count + length s.place.transfers ≤ n
    → ((m : ℕ) → n ≡ suc m → FewerMoves A m) → Rest A s b n
moves_rest A s b count n x l fewer = go (nat_lt 0 count && wants_moves s.place) refl
  where
    r : IsRun A s
    r = x.run

    d : s.place.due ≡ []
    d = subst (MarkStands s) x.mark r.mark

    still : (c : Bool) → (nat_lt 0 count && wants_moves s.place) ≡ c → under A s (marks.Hands count) ≡ when c (Some (move_unit s.place (locked A s)))
    still c k = ap (λ (z : Bool). when z (Some (move_unit s.place (locked A s)))) k

    unit : (nat_lt 0 count && wants_moves s.place) ≡ true → (u : Entry) → next_unit A s ≡ Some u → move_unit s.place (locked A s) ≡ u
    unit k u h = some_same (move_unit s.place (locked A s)) u (sym (by_mark A s (marks.Hands count) d x.mark ∙ ap (λ (o : Option Entry). or_else o (next_mark A s)) (still true k)) ∙ h)

    moves : (m : ℕ) → n ≡ suc m → 0 < count → (c : Bool) → (begins_write s.place (locked A s) && is_full s.place) ≡ c → (u : Entry) → next_unit A s ≡ Some u → move_by c ≡ u
        → Rest A (after A s u) (is_hands u) m
    moves m w some true k u h i =
        let full = full_some s.place (and_parts (begins_write s.place (locked A s)) (is_full s.place) k).1 in
        let less = done_less s.place (λ z. absurd (let y = ap length z in omega arith)) in
        let t = ap (λ (p : Placement). length p.transfers) (plain_place A s entries.Done refl) in
        let to : (length (after A s u).place.transfers + 1 ≡ length s.place.transfers) × ((after A s u).mark ≡ marks.Hands count) =
        subst (λ (z : Entry). (length (after A s z).place.transfers + 1 ≡ length s.place.transfers) × ((after A s z).mark ≡ marks.Hands count)) i
        (omega (arith, t, less), done_mark A s ∙ ap completed x.mark) in
        fewer m w (after A s u) (is_hands u) count (record { images = x.images; run = unit_run A s u x.images r h; mark = to.1 }) (let a = to.0 in omega (arith, l, w, a))
    moves m w some false k u h i =
        let t = ap (λ (p : Placement). length p.transfers) (plain_place A s (entries.Hands 1) refl) in
        let more = entry_count (locked A s) (place_at s (entries.Hands 1)) s.place (entries.Hands 1) in
        let to : (length (after A s u).place.transfers ≤ length s.place.transfers + 1) × ((after A s u).mark ≡ marks.Hands (count - 1)) =
        subst (λ (z : Entry). (length (after A s z).place.transfers ≤ length s.place.transfers + 1) × ((after A s z).mark ≡ marks.Hands (count - 1))) i
        (omega (arith, t, more), moves_mark A s 1 ∙ ap (moved_on 1) x.mark) in
        fewer m w (after A s u) (is_hands u) (count - 1) (record { images = x.images; run = unit_run A s u x.images r h; mark = to.1 }) (let a = to.0 in omega (arith, l, w, a, some))

    some_moves : (m : ℕ) → n ≡ m → 0 < count → (nat_lt 0 count && wants_moves s.place) ≡ true → Rest A s b m
    some_moves zero w some k = absurd (omega (arith, l, w, some))
    some_moves (suc m) w some k = rest_step A s b m (λ u h q. moves m w some (begins_write s.place (locked A s) && is_full s.place) refl u h (unit k u h))

    go : (c : Bool) → (nat_lt 0 count && wants_moves s.place) ≡ c → Rest A s b n
    go false k = rest_more A s b 0 n (omega arith) (rest_spent A s b (marks.Hands count) d x.mark (still false k))
    go true k = some_moves n refl (ltb-true 0 count (and_parts (nat_lt 0 count) (wants_moves s.place) k).0) k

all_moves : (n : ℕ) (A : Inputs) → FewerMoves A n
all_moves zero A = λ t b count x l. moves_rest A t b count zero x l (λ m w. absurd cc)
all_moves (suc n) A = λ t b count x l. moves_rest A t b count (suc n) x l (λ m w. subst (FewerMoves A) (let same : n ≡ m = omega (arith, w) in same) (all_moves n A))

pub rest_moves : (A : Inputs) (s : State) (b : Bool) (count : ℕ) → ImagesFit A.images → IsRun A s → s.mark ≡ marks.Hands count → Rest A s b (2 * count + 16)
rest_moves A s b count images r e = let few = sixteen A s r.placed in all_moves (2 * count + 16) A s b count (record { images = images; run = r; mark = e }) (omega (arith, few))

-- ---- a process goes out: with each unit it is nearer to that

abbrev FewerPuts : Inputs → ℕ → Type 0
FewerPuts A n = (t : State) (b : Bool) (pid sid : ℕ) → ImagesFit A.images → IsRun A t → t.mark ≡ marks.PutOut pid → space_of_process (process_of t.point.flat pid) ≡ sid
    → put_rank t.place pid sid ≤ n → Rest A t b n

puts_rest : (A : Inputs) (s : State) (b : Bool) (pid sid n : ℕ) → ImagesFit A.images → IsRun A s → s.mark ≡ marks.PutOut pid → space_of_process
    (process_of s.point.flat pid) ≡ sid
    → put_rank s.place pid sid ≤ n → ((m : ℕ) → n ≡ suc m → FewerPuts A m) → Rest A s b n
puts_rest A s b pid sid n images r e i l fewer = go n refl
  where
    d : s.place.due ≡ []
    d = let m : (s.place.due ≡ []) × (Rattle.kernel_model.specs.Stands.holds_some (process_of s.point.flat pid) ≡ true) × (is_out s.place pid ≡ false) = subst (MarkStands s) e r.mark in m.0

    here : ℕ
    here = space_of_process (process_of s.point.flat pid)

    falls : (u : Entry) → next_unit A s ≡ Some u → put_rank (after A s u).place pid sid < put_rank s.place pid sid
    falls u h = subst (λ (x : ℕ). put_rank (after A s u).place pid x < put_rank s.place pid x) i (put_falls A s u pid r e h)

    -- it goes on, or is out
    after_unit : (u : Entry) → next_unit A s ≡ Some u → ((after A s u).mark ≡ marks.PutOut pid) ⊎ (((after A s u).mark ≡ marks.Over) × ((after A s u).place.due ≡ []))
    after_unit u h =
        subst (λ (x : Entry). ((after A s x).mark ≡ marks.PutOut pid) ⊎ (((after A s x).mark ≡ marks.Over) × ((after A s x).place.due ≡ [])))
        (some_same (put_out_unit s.place pid (space_of_process (process_of s.point.flat pid))) u (sym (put_unit A s pid d e) ∙ h))
        (unit_case (λ (x : Entry). ((after A s x).mark ≡ marks.PutOut pid) ⊎ (((after A s x).mark ≡ marks.Over) × ((after A s x).place.due ≡ []))) s.place pid
        (space_of_process (process_of s.point.flat pid))
        (λ t ts z. inl (done_mark A s ∙ ap completed e))
        (λ v y z w. inl (put_mark A s v _ ∙ e))
        (λ y z. inr (out_mark A s pid ∙ ap put_out e, ap (λ (p : Placement). p.due) (plain_place A s (entries.SwapOut pid) refl) ∙ d)))

    point : (u : Entry) → next_unit A s ≡ Some u → (after A s u).point ≡ s.point
    point u h =
        let is = some_same (put_out_unit s.place pid (space_of_process (process_of s.point.flat pid))) u (sym (put_unit A s pid d e) ∙ h) in
        plain_point A s u (ap process_of_entry (sym is) ∙ put_flat s.place pid (space_of_process (process_of s.point.flat pid)))

    go : (m : ℕ) → n ≡ m → Rest A s b m
    go zero w = rest_none A s b (λ u h q. absurd (let k = falls u h in omega (arith, k, l, w)))
    go (suc m) w = rest_step A s b m (λ u h q. elim (after_unit u h) [
      | inl k ↦ fewer m w (after A s u) (is_hands u) pid sid images (unit_run A s u images r h) k (ap (λ (x : Point). space_of_process (process_of x.flat pid)) (point u h) ∙ i)
          (let f = falls u h in omega (arith, f, l, w))
      | inr k ↦ rest_more A (after A s u) (is_hands u) 0 m (omega arith) (rest_spent A (after A s u) (is_hands u) marks.Over k.1 k.0 refl)
    ])

all_puts : (n : ℕ) (A : Inputs) → FewerPuts A n
all_puts zero A = λ t b pid sid images r e i l. puts_rest A t b pid sid zero images r e i l (λ m w. absurd cc)
all_puts (suc n) A = λ t b pid sid images r e i l. puts_rest A t b pid sid (suc n) images r e i l (λ m w. subst (FewerPuts A) (let same : n ≡ m = omega (arith, w) in same) (all_puts n A))

active_most : (p : Placement) (qs : List Page) → active_count p qs ≤ length qs
active_most p [] = omega arith
active_most p (q ∷ qs) = go (is_active p q) (active_most p qs)
  where
    go : (a : Bool) → active_count p qs ≤ length qs → Rattle.std.specs.Prelude.cond a 1 0 + active_count p qs ≤ length (q ∷ qs)
    go true l = omega (arith, l)
    go false l = omega (arith, l)

rank_most : (p : Placement) (pid sid : ℕ) → PlaceSized p → length p.transfers ≤ 16 → put_rank p pid sid ≤ 9233
rank_most p pid sid z few = go (is_out p pid)
  where
    many : length (pages_of_space p sid) ≤ 4608
    many =
        let k = length-append (data_from sid 0 (length (slots_of p (Data sid 0)))) (stack_from sid 0 (length (slots_of p (Stack sid 0)))) in
        let a = pages_length (Data sid 0) 0 (length (slots_of p (Data sid 0))) in
        let b = pages_length (Stack sid 0) 0 (length (slots_of p (Stack sid 0))) in
        let c = z sid in
        omega (arith, k, a, b, c.0, c.1)

    go : (out : Bool) → put_rank_by p sid out ≤ 9233
    go true = omega arith
    go false = let a = active_most p (pages_of_space p sid) in let m = many in omega (arith, a, m, few)

pub rest_out : (A : Inputs) (s : State) (b : Bool) (pid : ℕ) → ImagesFit A.images → IsRun A s → PlaceSized s.place → s.mark ≡ marks.PutOut pid → Rest A s b 9233
rest_out A s b pid images r z e =
    all_puts 9233 A s b pid (space_of_process (process_of s.point.flat pid)) images r e refl (rank_most s.place pid (space_of_process (process_of s.point.flat pid)) z (sixteen A s r.placed))

-- ---- any mark under which nothing is due

-- how many moves of the hands it asks for
abbrev pub hands_of : Mark → ℕ
hands_of (marks.Hands count) = count
hands_of _ = 0

pub rest_clear : (A : Inputs) (s : State) (b : Bool) → ImagesFit A.images → IsRun A s → PlaceSized s.place → s.place.due ≡ [] → Rest A s b
    (9233 + 2 * hands_of s.mark)
rest_clear A s b images r z d = go s.mark refl
  where
    few : (n : ℕ) → n ≤ 9233 → (m : Mark) → Rest A s b n → Rest A s b (9233 + 2 * hands_of m)
    few n l m = rest_more A s b n (9233 + 2 * hands_of m) (omega (arith, l))

    go : (m : Mark) → s.mark ≡ m → Rest A s b (9233 + 2 * hands_of m)
    go marks.Over e = few 0 (omega arith) marks.Over (rest_spent A s b marks.Over d e refl)
    go (marks.Dispatch pid count since) e = few 218 (omega arith) (marks.Dispatch pid count since) (rest_running A s pid b images r (ap running e) (Nothing d))
    go marks.Interrupt e = few 1 (omega arith) marks.Interrupt (rest_interrupt A s b r d e)
    go (marks.Hands count) e = rest_more A s b (2 * count + 16) (9233 + 2 * count) (omega arith) (rest_moves A s b count images r e)
    go (marks.BringIn pid) e = few 1 (omega arith) (marks.BringIn pid) (rest_in A s b pid d e)
    go (marks.PutOut pid) e = few 9233 (omega arith) (marks.PutOut pid) (rest_out A s b pid images r z e)
    go marks.Audit e = few 1 (omega arith) marks.Audit (rest_audit A s b d e)
    go (marks.Turn pid since) e = few 218 (omega arith) (marks.Turn pid since) (rest_running A s pid b images r (ap running e) (Nothing d))
