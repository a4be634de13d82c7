-- The unit that the policy names for a move of the hands.
use Rattle.std.proofs.Common.{◌≡◌, ◌⊎◌, inl, inr, ℕ, ◌+◌, ◌-◌, ◌^◌, ◌<◌, ◌≤◌, ◌&&◌, nat_le, Bool, true, false, is_some, List, [], ◌∷◌, length, Option, Some, None, Result, Ok, Err, OnOk, refl, sym, ap, ◌∙◌, subst, arith}
use Rattle.std.proofs.lemmas.Bool.Decides.{nat_tests}
use Rattle.vm_facts.specs.SwapImages.{SwapImage}
use Rattle.vm_facts.specs.declared.page.Page.{Page}
use Rattle.vm_facts.specs.declared.entry.Entry.{Entry}
use Rattle.vm_facts.specs.declared.entry.Entry.TheVariants as entries
use Rattle.vm_facts.specs.declared.stop.Stop.{Stop}
use Rattle.flat_state.specs.Journal.{append}
use Rattle.io_edge.specs.FileHolding.{NamedFile}
use Rattle.page_model.specs.Placement.{Placement, Transfer}
use Rattle.page_model.specs.Runs.{Run}
use Rattle.page_model.specs.Moves.{done}
use Rattle.page_model.specs.Hands.{hand_run, wants_moves}
use Rattle.page_model.specs.Place.{place_entry}
use Rattle.page_model.specs.Serve.{is_full}
use Rattle.page_laws.proofs.Moves.HandRuns.{hand_some}
use Rattle.page_laws.proofs.Moves.Transfers.{entry_count}
use Rattle.page_laws.specs.Spans.{moves}
use Rattle.page_laws.proofs.Serving.{done_less}
use Rattle.kernel_model.specs.Kernel.{hand_step}
use Rattle.paging_units.specs.Calls.{IsRunOf}
use Rattle.paging_units.specs.Machine.{Standing}
use Rattle.run_model.specs.Next.{move_by, move_unit}
use Rattle.paging_units.specs.Done.{sources, IsDone, KeepsThrough}
use Rattle.paging_units.specs.Made.{ground, MadeBy, MakesUnit}
use Rattle.paging_units.specs.LastMoves.{last_moves}
use Rattle.paging_units.specs.Stops.{StopsAt, StopsWhile}
use Rattle.paging_units.proofs.Units.{unit_place, unit_journal, makes_none, makes_first, makes_on}
use Rattle.paging_units.proofs.LastMoves.{last_done, last_more}
use Rattle.paging_units.proofs.Stopping.{stops_at_first, stops_after_unit}
use Rattle.clock_hands.specs.Moved.{Moves, IsMoveOf, Moved, moving_hands}
use Rattle.clock_hands.proofs.Units.{keeps_on}

-- the hands move where no write begins, or where there is room for it

not_full : (n : ℕ) → n < 16 → nat_le 16 n ≡ false
not_full n l = grind (arith, nat_tests)

pub moves_now : (p : Placement) (lo n : ℕ) → IsRunOf (hand_run p []) lo n → (n ≡ 0) ⊎ (length p.transfers < 16) → move_unit p [] ≡ entries.Hands 1
moves_now p lo n r o = go (hand_run p []) refl r
  where
    go : (h : Option (Page × Run)) → hand_run p [] ≡ h → IsRunOf h lo n → move_unit p [] ≡ entries.Hands 1
    go None e x = ap (λ (h : Option (Page × Run)). move_by (is_some h && is_full p)) e
    go (Some w) e x = elim o [
      | inl z ↦ absurd (let some = hand_some p [] w e in let same = x.1 in omega arith)
      | inr l ↦ ap (λ (h : Option (Page × Run)). move_by (is_some h && is_full p)) e ∙ ap move_by (not_full (length p.transfers) l)
    ]

-- the call that makes a move
pub hand_makes : (locked : List Page) (e : Entry) (old new : Standing) (holds : Option (List NamedFile)) (i : Option SwapImage) → e ≡ entries.Hands 1
    → new.kernel ≡ hand_step old.kernel locked
    → new ≡ record old { kernel = new.kernel; room = None } → MakesUnit (ground old holds locked) e old new i i
hand_makes locked e old new holds i h k r = subst (λ (u : Entry). MakesUnit (ground old holds locked) u old new i i) (sym h) (record {
  made = (refl, k);
  told = refl;
  beside = record { params = ap (λ (s : Standing). s.params) r; images = ap (λ (s : Standing). s.images) r; before = ap (λ (s : Standing). s.before) r };
})

-- what is known of a result that is good, from two things that are
pub on_ok_two : {A E : Type 0} {P Q R : Type 0} (r : Result A E) → (P → Q → R) → OnOk r P → OnOk r Q → OnOk r R
on_ok_two (Ok x) f p q = f p q
on_ok_two (Err e) f p q = p

-- Units of moving, one by one.

at_any : (p : Placement) (e : Entry) (at : ℕ) (moved : Bool) → IsMoveOf e moved → place_entry [] at p e ≡ place_entry [] 0 p e
at_any p e at true h = ap (place_entry [] at p) h ∙ sym (ap (place_entry [] 0 p) h)
at_any p e at false h = ap (place_entry [] at p) h ∙ sym (ap (place_entry [] 0 p) h)

moved_place : (e : Entry) (moved : Bool) (old next : Standing) (holds : Option (List NamedFile)) (i h : Option SwapImage) → IsMoveOf e moved
    → MakesUnit (ground old holds []) e old next i h
    → next.kernel.place ≡ place_entry [] 0 old.kernel.place e
moved_place e moved old next holds i h k m =
    unit_place (ground old holds []) e old.kernel next.kernel i m.made ∙ at_any old.kernel.place e (length (append old.kernel.journal e)) moved k

moves_first : (e : Entry) (moved : Bool) (n left : ℕ) (us : List Entry) (old next : Standing) (r : Placement) (holds : Option (List NamedFile))
    (i h : Option SwapImage) → IsMoveOf e moved
    → e ≡ move_unit old.kernel.place [] → n - moves e ≡ left
    → 0 < n → wants_moves old.kernel.place ≡ true → MakesUnit (ground old holds []) e old next i h → Moves us left next.kernel.place r
    → Moves (e ∷ us) n old.kernel.place r
moves_first e moved n left us old next r holds i h k u l s w m f =
    (s, w, u, subst (λ (a : ℕ). Moves us a (place_entry [] 0 old.kernel.place e) r) (sym l) (subst (λ (p : Placement). Moves us left p r) (moved_place e moved old next holds i h k m) f))

module _ (n : ℕ) (old next new : Standing) (holds later : Option (List NamedFile)) (i h j : Option SwapImage) (same_files : later ≡ holds) (some : 0 < n) (wants : wants_moves old.kernel.place ≡ true)
    (m : MakesUnit (ground old holds []) (move_unit old.kernel.place []) old next i h) where
  abbrev e : Entry
  e = move_unit old.kernel.place []

  one : e ≡ entries.Hands 1 → moves e ≡ 1
  one k = ap moves k

  none : e ≡ entries.Done → moves e ≡ 0
  none k = ap moves k

  less : e ≡ entries.Hands 1 → n - moves e ≡ n - 1
  less k = ap (λ (a : ℕ). n - a) (one k)

  same : e ≡ entries.Done → n - moves e ≡ n
  same k = let z = none k in omega arith

  pub moved_by_move : (made : ℕ) → IsMoveOf (move_unit old.kernel.place []) true → Moved (n - 1) next new made later h j → Moved n old new (1 + made) holds i j
  moved_by_move made k f = record {
    units = move_unit old.kernel.place [] ∷ f.units;
    moves = moves_first e true n (n - 1) f.units old next new.kernel.place holds i h k refl (less k) some wants m f.moves;
    makes = makes_first (ground old holds []) e f.units old next new i h j m (makes_on f.units old next new holds later [] h j same_files m.beside f.makes);
    counted = (let a = one k in let b = f.counted in omega arith);
    most = (let a = f.most in omega arith);
    fewer = λ l. f.fewer (omega arith);
  }

  pub moved_by_done : (made : ℕ) → IsMoveOf (move_unit old.kernel.place []) false → Moved n next new made later h j → Moved n old new made holds i j
  moved_by_done made k f = record {
    units = move_unit old.kernel.place [] ∷ f.units;
    moves = moves_first e false n n f.units old next new.kernel.place holds i h k refl (same k) some wants m f.moves;
    makes = makes_first (ground old holds []) e f.units old next new i h j m (makes_on f.units old next new holds later [] h j same_files m.beside f.makes);
    counted = (let a = none k in let b = f.counted in omega arith);
    most = f.most;
    fewer = f.fewer;
  }

  pub stops_by_move : (stop : Stop) → IsMoveOf (move_unit old.kernel.place []) true → StopsWhile (moving_hands (n - 1)) next new later h j stop → StopsWhile (moving_hands n) old new holds i j stop
  stops_by_move stop k f =
      stops_after_unit (moving_hands n) (moving_hands (n - 1)) (move_unit old.kernel.place []) old next new holds later i h j stop same_files refl refl m
      (λ us l s. record {
        moves = moves_first e true n (n - 1) us old next l.place holds i h k refl (less k) some wants m s.moves;
        left = (let a = one k in let b = s.left in omega arith);
        wants = s.wants;
      })
      f

  pub stops_by_done : (stop : Stop) → IsMoveOf (move_unit old.kernel.place []) false → StopsWhile (moving_hands n) next new later h j stop → StopsWhile (moving_hands n) old new holds i j stop
  stops_by_done stop k f =
      stops_after_unit (moving_hands n) (moving_hands n) (move_unit old.kernel.place []) old next new holds later i h j stop same_files refl refl m
      (λ us l s. record {
        moves = moves_first e false n n us old next l.place holds i h k refl (same k) some wants m s.moves;
        left = (let a = none k in let b = s.left in omega arith);
        wants = s.wants;
      })
      f

pub stops_moving : (n : ℕ) (old : Standing) (stop : Stop) (new : Standing) (holds : Option (List NamedFile)) (i j : Option SwapImage) → 0 < n
    → wants_moves old.kernel.place ≡ true → StopsAt (move_unit old.kernel.place []) old new i j stop → StopsWhile (moving_hands n) old new holds i j stop
stops_moving n old stop new holds i j l w s =
    stops_at_first (moving_hands n) (move_unit old.kernel.place []) old new holds i j stop (record { moves = refl; left = l; wants = w }) refl s

-- What a unit leaves for the next.

pub move_flies : (old next : Standing) (holds : Option (List NamedFile)) (i h : Option SwapImage) → IsMoveOf (move_unit old.kernel.place []) true
    → MakesUnit (ground old holds []) (move_unit old.kernel.place []) old next i h
    → length next.kernel.place.transfers ≤ length old.kernel.place.transfers + 1
move_flies old next holds i h k m =
    let place : next.kernel.place ≡ place_entry [] 0 old.kernel.place (entries.Hands 1) =
    moved_place (move_unit old.kernel.place []) true old next holds i h k m ∙ ap (place_entry [] 0 old.kernel.place) k in
    let e = ap (λ (p : Placement). length p.transfers) place in
    let l = entry_count [] 0 old.kernel.place (entries.Hands 1) in
    omega arith

pub done_flies : (old next : Standing) (holds : Option (List NamedFile)) (i h : Option SwapImage) → IsMoveOf (move_unit old.kernel.place []) false
    → MakesUnit (ground old holds []) (move_unit old.kernel.place []) old next i h
    → length next.kernel.place.transfers < length old.kernel.place.transfers
done_flies old next holds i h k m =
    let place : next.kernel.place ≡ done old.kernel.place = moved_place (move_unit old.kernel.place []) false old next holds i h k m ∙ ap (place_entry [] 0 old.kernel.place) k in
    let e = ap (λ (p : Placement). length p.transfers) place in
    let d : IsDone (sources old holds) i old.kernel next.kernel = subst (λ (u : Entry). MadeBy (ground old holds []) u old.kernel i next.kernel) k m.made in
    let some = d.some in
    let l = done_less old.kernel.place (λ z. absurd (let n = ap (λ (ts : List Transfer). length ts) z in omega arith)) in
    omega arith

pub move_last : (n : ℕ) (old next : Standing) (holds : Option (List NamedFile)) (i h : Option SwapImage) → 0 < n → IsMoveOf (move_unit old.kernel.place []) true
    → MakesUnit (ground old holds []) (move_unit old.kernel.place []) old next i h
    → last_moves old.kernel.journal + n < 2 ^ 32 → last_moves next.kernel.journal + (n - 1) < 2 ^ 32
move_last n old next holds i h s k m l =
    let e = ap last_moves (unit_journal (ground old holds []) (move_unit old.kernel.place []) old.kernel next.kernel i m.made ∙ ap (append old.kernel.journal) k) in
    let more = last_more old.kernel.journal in
    omega arith

pub done_last : (n : ℕ) (old next : Standing) (holds : Option (List NamedFile)) (i h : Option SwapImage) → IsMoveOf (move_unit old.kernel.place []) false
    → MakesUnit (ground old holds []) (move_unit old.kernel.place []) old next i h
    → last_moves old.kernel.journal + n < 2 ^ 32 → last_moves next.kernel.journal + n < 2 ^ 32
done_last n old next holds i h k m l =
    let e = ap last_moves (unit_journal (ground old holds []) (move_unit old.kernel.place []) old.kernel next.kernel i m.made ∙ ap (append old.kernel.journal) k) in
    let none = last_done old.kernel.journal in
    omega arith

-- What is moved so far and what is left make the whole.

pub record MovesSoFar (n left : ℕ) (old now : Standing) (holds later : Option (List NamedFile)) (i h : Option SwapImage) : Type 0 where
  pub more : (new : Standing) (j : Option SwapImage) (made : ℕ) → Moved left now new made later h j → Moved n old new (n - left + made) holds i j
  pub stops : (stop : Stop) (new : Standing) (j : Option SwapImage) → StopsWhile (moving_hands left) now new later h j stop → StopsWhile (moving_hands n) old new holds i j stop
  pub keeps : (new : Standing) (j : Option SwapImage) → KeepsThrough now new later h j → KeepsThrough old new holds i j

none_moved : (n made : ℕ) → made ≡ n - n + made
none_moved n made = omega arith

pub moves_none : (n : ℕ) (old : Standing) (holds : Option (List NamedFile)) (i : Option SwapImage) → MovesSoFar n n old old holds holds i i
moves_none n old holds i = record {
  more = λ new j made f. subst (λ (k : ℕ). Moved n old new k holds i j) (none_moved n made) f;
  stops = λ stop new j f. f;
  keeps = λ new j k. k;
}

one_moved : (n left made : ℕ) → left ≤ n → 0 < left → n - left + (1 + made) ≡ n - (left - 1) + made
one_moved n left made l s = omega (arith, l, s)

pub moves_one : (n left : ℕ) (old now next : Standing) (holds later latest : Option (List NamedFile)) (i h k : Option SwapImage)
    → latest ≡ later → left ≤ n → 0 < left
    → wants_moves now.kernel.place ≡ true → MakesUnit (ground now later []) (move_unit now.kernel.place []) now next h k
    → IsMoveOf (move_unit now.kernel.place []) true
    → KeepsThrough now next later h k → MovesSoFar n left old now holds later i h → MovesSoFar n (left - 1) old next holds latest i k
moves_one n left old now next holds later latest i h k e l s w m u t so = record {
  more = λ new j made f. subst (λ (a : ℕ). Moved n old new a holds i j) (one_moved n left made l s)
      (so.more new j (1 + made) (moved_by_move left now next new later latest h k j e s w m made u f));
  stops = λ stop new j f. so.stops stop new j (stops_by_move left now next new later latest h k j e s w m stop u f);
  keeps = λ new j f. so.keeps new j (keeps_on (ground now later []) (move_unit now.kernel.place []) now next new h later latest k j m e t f);
}

pub moves_done : (n left : ℕ) (old now next : Standing) (holds later latest : Option (List NamedFile)) (i h k : Option SwapImage) → latest ≡ later → 0 < left
    → wants_moves now.kernel.place ≡ true → MakesUnit (ground now later []) (move_unit now.kernel.place []) now next h k
    → IsMoveOf (move_unit now.kernel.place []) false
    → KeepsThrough now next later h k → MovesSoFar n left old now holds later i h → MovesSoFar n left old next holds latest i k
moves_done n left old now next holds later latest i h k e s w m u t so = record {
  more = λ new j made f. so.more new j made (moved_by_done left now next new later latest h k j e s w m made u f);
  stops = λ stop new j f. so.stops stop new j (stops_by_done left now next new later latest h k j e s w m stop u f);
  keeps = λ new j f. so.keeps new j (keeps_on (ground now later []) (move_unit now.kernel.place []) now next new h later latest k j m e t f);
}

pub moves_all : (n left : ℕ) (old now : Standing) (holds later : Option (List NamedFile)) (i h : Option SwapImage)
    → (0 < left → wants_moves now.kernel.place ≡ false)
    → MovesSoFar n left old now holds later i h → Moved n old now (n - left) holds i h
moves_all n left old now holds later i h f so =
    let none : n - left + 0 ≡ n - left = omega arith in
    subst (λ (k : ℕ). Moved n old now k holds i h) none
    (so.more now h 0 (record { units = []; moves = refl; makes = makes_none (ground now later []) now now h h refl refl; counted = refl; most = omega arith; fewer = f }))
