-- A film stands at its next entry.
use Rattle.std.proofs.Common.{◌≡◌, inl, ℕ, suc, ◌+◌, ◌<◌, ◌^◌, Bool, true, false, List, [], ◌∷◌, ◌++◌, length, slice_get, Option, Some, refl, sym, ap, ◌∙◌, subst, arith}
use Rattle.std.proofs.lemmas.Option.{same_Some}
use Rattle.vm_facts.specs.SwapImages.{SwapImage}
use Rattle.vm_facts.specs.declared.entry.Entry.{Entry}
use Rattle.vm_facts.specs.declared.event.Event.{Event}
use Rattle.vm_facts.specs.declared.stop.Stop.{Stop}
use Rattle.vm_facts.specs.declared.stop.Stop.TheVariants as stops
use Rattle.io_edge.specs.FileHolding.{NamedFile}
use Rattle.flat_state.specs.Flat.{Inputs}
use Rattle.flat_state.specs.Journal.{append, appended, units_with, counted, instructions_of}
use Rattle.flat_state.proofs.Joins.{count-append}
use Rattle.machine_state.specs.Going.{CanGoOn}
use Rattle.machine_state.specs.Machine.{Standing}
use Rattle.run_model.specs.declared.mark.Mark.{Mark}
use Rattle.run_model.specs.State.{State}
use Rattle.run_model.specs.After.{after}
use Rattle.run_model.specs.Lawful.{Follows}
use Rattle.run_model.proofs.After.{after_journal, units_journal}
use Rattle.run_laws.proofs.Lawful.{follows_state}
use Rattle.vm_core.proofs.RunUnitsJournals.{leads_follow}
use Rattle.vm_core.proofs.Units.{none_leads}
use Rattle.vm_core.specs.Stepped.{LeadsFrom, StopsFrom}
use Rattle.vm_core.specs.Cores.{StandsIn}
use Rattle.vm_core.specs.Schedules.{HaveFewMoves}
use Rattle.film_core.specs.Films.{Filming, FilmAt, IsFilming, OneMore, FilmGoes, IsInOrder, FilmsAt}
use Rattle.film_core.specs.Marks.{mark_behind, lines_behind, last_entry}
use Rattle.film_core.specs.Ways.{IsReached}
use Rattle.film_core.specs.Entries.{FullAt, EntryMade, caught_up}
use Rattle.film_core.proofs.Composing.{journal_of_reached, reached_of_journal, leads_reached, reached_below}
use Rattle.run_laws.proofs.LongerJournals.{Behind, goes_behind}
use Rattle.film_core.proofs.Longer.{one_behind, last_behind}
use Rattle.film_core.proofs.Marking.{one_follows, mark_follows, lines_follow, order_follows}

not_true : (b : Bool) → b ≡ false → b ≡ true → ⊥
not_true b e f = let z : false ≡ true = sym e ∙ f in cc

-- A film that isn't over stands where its journal is full and a unit comes.

pub film_full : (A : Inputs) (s : State) (f : Filming) (lines : List Event) (holds : Option (List NamedFile)) (i : Option SwapImage) (image : SwapImage)
    → A.lines ≡ lines → f.over ≡ false → FilmAt A s f holds i image
    → FullAt f.machine f.mark lines f.lines f.counted holds i A s image
film_full A s f lines holds i image are on at = record {
  going = record {
    stands = at.stands;
    reached = reached_of_journal A s f.machine.kernel.journal at.made;
    are = are;
    lines = at.lines;
    mark = at.mark;
    order = subst (λ (es : List Event). IsInOrder es f.lines f.mark) are at.order;
  };
  complete = at.complete;
  bound = at.bound;
  more = λ none. not_true f.over on (at.over.1 none);
}

-- The entry that was made.

counts_behind : (es : List Entry) (e : Entry) → instructions_of (es ++ e ∷ []) ≡ instructions_of es + counted e
counts_behind es e = let both = count-append es (e ∷ []) in omega (arith, both)

module _ (A : Inputs) (s : State) (old : Filming) (m : Standing) (ended : Bool) (holds : Option (List NamedFile)) (i j : Option SwapImage)
    (image : SwapImage) (at : FilmAt A s old holds i image)
    (x : EntryMade old.machine m ended holds j A s image) where
  follows : Follows A s x.units x.state
  follows = leads_follow A s x.state old.machine.kernel m.kernel image x.units j x.leads

  same_journal : s.journal ≡ old.machine.kernel.journal
  same_journal = sym at.stands.machine.at.stands.journal

  behind : (us : List Entry) → Follows A s us x.state → Behind s.journal x.state.journal
  behind [] f = absurd (
      let same : s.journal ≡ x.state.journal = ap (λ (r : State). r.journal) f in
      let one = ap (λ (es : List Entry). length es) (sym same_journal ∙ same ∙ sym x.stands.machine.at.stands.journal) in
      let more = x.longer in
      omega (arith, one, more))
  behind (u ∷ us) f =
      let long : length s.journal < length (append s.journal u) = subst (λ (es : List Entry). length es < length (append es u)) (sym same_journal) (at.complete u f.0) in
      let grown : appended (append s.journal u) us ≡ x.state.journal =
      ap (λ (es : List Entry). appended es us) (sym (after_journal A s u)) ∙ sym (units_journal A (after A s u) us) ∙ ap (λ (r : State). r.journal) (follows_state A us (after A s u) x.state f.1) in
      subst (Behind s.journal) grown (goes_behind s.journal u us long)

  pub entry : (e : Entry) × (x.state.journal ≡ s.journal ++ e ∷ [])
  entry = one_behind s.journal x.state.journal (behind x.units follows)
      (ap (λ (es : List Entry). length es) (sym x.stands.machine.at.stands.journal) ∙ x.longer ∙ ap (λ (es : List Entry). suc (length es)) (sym same_journal))

  pub last_made : last_entry m.kernel.journal ≡ Some entry.0
  last_made = ap last_entry (x.stands.machine.at.stands.journal ∙ entry.1) ∙ last_behind s.journal entry.0

  own : Follows A s (units_with entry.0 []) x.state
  own = one_follows A s x.state x.units entry.0 follows entry.1

  reached : IsReached A x.state
  reached = leads_reached A s x.state old.machine.kernel m.kernel image x.units j (reached_of_journal A s old.machine.kernel.journal at.made) x.leads

  counts : x.state.count ≡ old.counted + counted entry.0
  counts =
      let all = (journal_of_reached A x.state m.kernel x.behind at.few reached x.stands.machine.at.stands).lawful.count in
      let before = at.made.lawful.count in
      let same = at.stands.count in
      let parts : instructions_of m.kernel.journal ≡ instructions_of old.machine.kernel.journal + counted entry.0 =
      ap instructions_of (x.stands.machine.at.stands.journal ∙ entry.1 ∙ ap (λ (es : List Entry). es ++ entry.0 ∷ []) same_journal) ∙ counts_behind old.machine.kernel.journal entry.0 in
      omega (arith, all, before, same, parts)

  pub made_fits : old.counted + counted entry.0 < 2 ^ 32
  made_fits = let c = counts in let below = reached_below A x.state reached in let few = at.stands.inputs.few in omega (arith, c, below, few)

  module _ (ready : CanGoOn m) (lines : List Event) (are : A.lines ≡ lines) (few : HaveFewMoves lines) where
    mark_is : x.state.mark ≡ mark_behind m.kernel (old.counted + counted entry.0) (slice_get lines old.lines) old.mark entry.0
    mark_is =
        mark_follows A s x.state m.kernel x.behind x.stands.machine.at entry.0 own
        ∙ ap (λ (n : ℕ). mark_behind m.kernel n (slice_get A.lines s.lines) s.mark entry.0) counts
        ∙ ap (λ (es : List Event). mark_behind m.kernel (old.counted + counted entry.0) (slice_get es s.lines) s.mark entry.0) are
        ∙ ap (λ (n : ℕ). mark_behind m.kernel (old.counted + counted entry.0) (slice_get lines n) s.mark entry.0) at.lines
        ∙ ap (λ (y : Mark). mark_behind m.kernel (old.counted + counted entry.0) (slice_get lines old.lines) y entry.0) at.mark

    lines_are : x.state.lines ≡ lines_behind old.lines entry.0
    lines_are = lines_follow A s x.state m.kernel x.behind x.stands.machine.at entry.0 own ∙ ap (λ (n : ℕ). lines_behind n entry.0) at.lines

    order_before : IsInOrder A.lines s.lines s.mark
    order_before = subst (λ (n : ℕ). IsInOrder A.lines n s.mark) (sym at.lines) (subst (IsInOrder A.lines old.lines) (sym at.mark) at.order)

    order_is : IsInOrder A.lines (lines_behind old.lines entry.0) (mark_behind m.kernel (old.counted + counted entry.0) (slice_get lines old.lines) old.mark entry.0)
    order_is =
        subst (λ (n : ℕ). IsInOrder A.lines (lines_behind n entry.0) (mark_behind m.kernel (old.counted + counted entry.0) (slice_get lines n) old.mark entry.0)) at.lines
        (subst (λ (y : Mark). IsInOrder A.lines (lines_behind s.lines entry.0) (mark_behind m.kernel (old.counted + counted entry.0) (slice_get lines s.lines) y entry.0)) at.mark
        (subst (λ (es : List Event). IsInOrder A.lines (lines_behind s.lines entry.0) (mark_behind m.kernel (old.counted + counted entry.0) (slice_get es s.lines) s.mark entry.0)) are
        (order_follows A s x.state m.kernel (old.counted + counted entry.0) entry.0 (subst HaveFewMoves (sym are) few) order_before own)))

    film_at : FilmAt A x.state (let f : Filming = record old { machine = m; over = ended } in caught_up f lines entry.0) holds j x.behind
    film_at = record {
      stands = subst (λ (n : ℕ). StandsIn A x.state m holds j x.behind n) counts x.stands;
      made = journal_of_reached A x.state m.kernel x.behind at.few reached x.stands.machine.at.stands;
      ready = ready;
      complete = x.complete;
      bound = x.bound;
      lines = lines_are;
      mark = mark_is;
      order = order_is;
      over = x.over;
      few = at.few;
    }

    pub one_more : (new : Filming) → new ≡ (let f : Filming = record old { machine = m; over = ended } in caught_up f lines entry.0) → OneMore A s old new holds image j
    one_more new same = subst (λ (f : Filming). OneMore A s old f holds image j) (sym same) (record {
      units = x.units;
      state = x.state;
      behind = x.behind;
      leads = x.leads;
      at = film_at;
      longer = x.longer;
    })

-- Of a film.

-- what a film is after an entry, once it caught up
abbrev pub CaughtUp : Filming → Filming → List Event → Type 0
CaughtUp mid new lines = (e : Entry) → last_entry mid.machine.kernel.journal ≡ Some e → new ≡ caught_up mid lines e

pub film_goes : (old new : Filming) (m : Standing) (ended : Bool) (lines : List Event) (holds : Option (List NamedFile)) (i j : Option SwapImage)
    → old.over ≡ false → HaveFewMoves lines → CanGoOn m
    → LeadsFrom (FullAt old.machine old.mark lines old.lines old.counted holds i) (EntryMade old.machine m ended holds j)
    → CaughtUp (record old { machine = m; over = ended }) new lines
    → FilmGoes old new lines holds i j
film_goes old new m ended lines holds i j on few ready f c A s image are at =
    let x = f A s image (film_full A s old lines holds i image are on at) in
    one_more A s old m ended holds i j image at x ready lines are few new (c (entry A s old m ended holds i j image at x).0 (last_made A s old m ended holds i j image at x))

pub film_stops : (old : Filming) (new : Filming) (lines : List Event) (holds : Option (List NamedFile)) (i j : Option SwapImage) (stop : Stop)
    → old.over ≡ false
    → (stop ≡ stops.JournalFull → ⊥) × StopsFrom (FullAt old.machine old.mark lines old.lines old.counted holds i) old.machine new.machine j stop
    → (stop ≡ stops.JournalFull → ⊥) × StopsFrom (FilmsAt old lines holds i) old.machine new.machine j stop
film_stops old new lines holds i j stop on f = (f.0, λ A s image at. f.1 A s image (film_full A s old lines holds i image at.0 on at.1))

-- the count fits
pub film_fits : (old : Filming) (m : Standing) (ended : Bool) (lines : List Event) (holds : Option (List NamedFile)) (i j : Option SwapImage) → old.over ≡ false
    → IsFilming old lines holds i
    → LeadsFrom (FullAt old.machine old.mark lines old.lines old.counted holds i) (EntryMade old.machine m ended holds j) → (e : Entry)
    → last_entry m.kernel.journal ≡ Some e
    → old.counted + counted e < 2 ^ 32
film_fits old m ended lines holds i j on x f e is =
    let y = f x.inputs x.state x.image (film_full x.inputs x.state old lines holds i x.image x.are on x.at) in
    subst (λ (u : Entry). old.counted + counted u < 2 ^ 32)
    (same_Some (entry x.inputs x.state old m ended holds i j x.image x.at y).0 e (sym (last_made x.inputs x.state old m ended holds i j x.image x.at y) ∙ is))
    (made_fits x.inputs x.state old m ended holds i j x.image x.at y)

-- no memory is found before a unit
pub starved_film : (old : Filming) (lines : List Event) (holds : Option (List NamedFile)) (i : Option SwapImage)
    → (stops.NoMemory ≡ stops.JournalFull → ⊥) × StopsFrom (FilmsAt old lines holds i) old.machine old.machine i stops.NoMemory
starved_film old lines holds i = (
  (λ e. cc),
  λ A s image at. record {
    units = [];
    state = s;
    kernel = old.machine.kernel;
    behind = image;
    leads = none_leads A s old.machine.kernel image;
    journal = refl;
    held = λ r. inl (ap (λ hs. record old.machine.kernel { holdings = hs }) at.1.ready.whole);
    by = at.1.stands.told;
  },
)

-- it has the machine with the entry
pub film_machine : (old new : Filming) (m : Standing) (ended : Bool) (lines : List Event) (holds : Option (List NamedFile)) (i j : Option SwapImage)
    → old.over ≡ false → IsFilming old lines holds i
    → LeadsFrom (FullAt old.machine old.mark lines old.lines old.counted holds i) (EntryMade old.machine m ended holds j)
    → CaughtUp (record old { machine = m; over = ended }) new lines → new.machine ≡ m
film_machine old new m ended lines holds i j on x f c =
    let y = f x.inputs x.state x.image (film_full x.inputs x.state old lines holds i x.image x.are on x.at) in
    ap (λ (g : Filming). g.machine) (c (entry x.inputs x.state old m ended holds i j x.image x.at y).0 (last_made x.inputs x.state old m ended holds i j x.image x.at y))
