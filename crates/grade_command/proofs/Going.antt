-- A film that goes on along a trace, and the grade where it goes no further.
use Rattle.std.proofs.Common.{◌≡◌, ◌↔◌, ℕ, suc, ◌+◌, ◌-◌, ◌<◌, ◌≤◌, ◌&&◌, not, nat_lt, Bool, true, false, List, [], ◌∷◌, ◌++◌, length, slice_get, Option, Some, None, refl, sym, ap, ◌∙◌, subst, append_assoc, arith}
use Rattle.std.proofs.lemmas.Bool.Decides.{nat_tests}
use Rattle.std.proofs.lemmas.Option.{same_Some}
use Rattle.std.proofs.lemmas.List.{append-nil, append_cancel_left, length-append}
use Rattle.vm_facts.specs.SwapImages.{SwapImage}
use Rattle.vm_facts.specs.declared.entry.Entry.{Entry}
use Rattle.vm_facts.specs.declared.event.Event.{Event}
use Rattle.io_edge.specs.FileHolding.{NamedFile}
use Rattle.flat_state.specs.Flat.{Inputs}
use Rattle.run_model.specs.State.{State}
use Rattle.run_model.specs.Next.{next_unit}
use Rattle.run_model.specs.Lawful.{IsFinished}
use Rattle.economy_laws.proofs.Finishing.Wholes.{run_finishes, finished_once}
use Rattle.owner_lines.specs.First.{ComeFirst}
use Rattle.owner_lines.proofs.First.{first_of_longer, first_of_finished, one_of_length}
use Rattle.film_core.specs.Films.{Filming, FilmAt, IsFilming, FilmBegun, OneMore, FilmGoes}
use Rattle.grade_command.specs.declared.grading.Grade.{Grade}
use Rattle.grade_command.specs.declared.grading.Grade.TheVariants.{Written, Front, Differs}
use Rattle.grade_command.specs.Grading.{IsFrontOf, IsGradeOf, IsGraded}
use Rattle.grade_command.specs.Along.{PartsAtLast, SoFar, Along}
use Rattle.grade_command.proofs.Parting.{at_seam, at_end, exactly}

-- The film goes on by one entry.

pub filming_on : (old new : Filming) (lines : List Event) (h h' : Option (List NamedFile)) (i j : Option SwapImage) → h' ≡ h → IsFilming old lines h i
    → FilmGoes old new lines h i j
    → IsFilming new lines h' j
filming_on old new lines h h' i j same was goes =
    let more : OneMore was.inputs was.state old new h was.image j = goes was.inputs was.state was.image was.are was.at in
    record {
      inputs = was.inputs;
      state = more.state;
      image = more.behind;
      are = was.are;
      frames = was.frames;
      at = subst (λ (k : Option (List NamedFile)). FilmAt was.inputs more.state new k j more.behind) (sym same) more.at;
    }

pub longer_by_one : (old new : Filming) (lines : List Event) (h : Option (List NamedFile)) (i j : Option SwapImage) → IsFilming old lines h i
    → FilmGoes old new lines h i j
    → length new.machine.kernel.journal ≡ length old.machine.kernel.journal + 1
longer_by_one old new lines h i j was goes =
    let more : OneMore was.inputs was.state old new h was.image j = goes was.inputs was.state was.image was.are was.at in
    let longer = more.longer in
    omega (arith, longer)

-- the one entry by which a list is longer
record OneLonger (journal more : List Entry) : Type 0 where
  pub entry : Entry
  pub is : more ≡ journal ++ entry ∷ []

one_of : (journal rest : List Entry) → length rest ≡ 1 → OneLonger journal (journal ++ rest)
one_of journal [] e = absurd cc
one_of journal (x ∷ []) e = record { entry = x; is = refl }
one_of journal (x ∷ y ∷ ys) e = absurd (omega (arith, e))

one_longer : (journal more : List Entry) → ComeFirst journal more → length more ≡ suc (length journal) → OneLonger journal more
one_longer journal more first longer =
    let rest = first.0 in
    let all = ap length first.1 in
    let sum = length-append journal rest in
    subst (OneLonger journal) (sym first.1) (one_of journal rest (omega (arith, all, sum, longer)))

-- the entry of a trace behind those that come first in it
record NextOf (journal entries : List Entry) : Type 0 where
  pub next : Entry
  pub more : List Entry
  pub is : entries ≡ journal ++ next ∷ more

next_of : (journal rest : List Entry) → length journal < length (journal ++ rest) → NextOf journal (journal ++ rest)
next_of journal [] below = absurd (let sum = length-append journal [] in omega (arith, below, sum))
next_of journal (x ∷ xs) below = record { next = x; more = xs; is = refl }

next_in : (journal entries : List Entry) → ComeFirst journal entries → length journal < length entries → NextOf journal entries
next_in journal entries first below =
    subst (NextOf journal) (sym first.1) (next_of journal first.0 (subst (λ (es : List Entry). length journal < length es) first.1 below))

-- a journal with one entry more agrees with the trace, or parts from it at that
on_by_one : (journal new entries : List Entry) (agrees : Bool) → OneLonger journal new → NextOf journal entries
    → (agrees ≡ true) ↔ (slice_get new (length new - 1) ≡ slice_get entries (length new - 1)) → SoFar agrees new entries
on_by_one journal new entries agrees one next says = go agrees says
  where
    place : length new - 1 ≡ length journal
    place = let all = ap length one.is in let sum = length-append journal (one.entry ∷ []) in omega (arith, all, sum)

    made : slice_get new (length new - 1) ≡ Some one.entry
    made = ap (slice_get new) place ∙ ap (λ (xs : List Entry). slice_get xs (length journal)) one.is ∙ at_seam journal one.entry []

    there : slice_get entries (length new - 1) ≡ Some next.next
    there = ap (slice_get entries) place ∙ ap (λ (xs : List Entry). slice_get xs (length journal)) next.is ∙ at_seam journal next.next next.more

    go : (b : Bool) → (b ≡ true) ↔ (slice_get new (length new - 1) ≡ slice_get entries (length new - 1)) → SoFar b new entries
    go true s =
        let same : one.entry ≡ next.next = same_Some one.entry next.next (sym made ∙ s.0 refl ∙ there) in (
          next.more,
          next.is ∙ ap (λ (e : Entry). journal ++ e ∷ next.more) (sym same) ∙ sym (append_assoc journal (one.entry ∷ []) next.more)
              ∙ ap (λ (xs : List Entry). xs ++ next.more) (sym one.is),
        )
    go false s = record {
      good = journal;
      last = one.entry;
      bad = next.next;
      more = next.more;
      journal_is = one.is;
      entries_are = next.is;
      other = λ same. let no : false ≡ true = s.1 (made ∙ ap Some same ∙ sym there) in cc;
    }

pub along_on : (A : Inputs) (old new : Filming) (lines : List Event) (h h' : Option (List NamedFile)) (i j : Option SwapImage) (entries : List Entry)
    (agrees : Bool)
    → h' ≡ h → A.lines ≡ lines → FilmGoes old new lines h i j → length old.machine.kernel.journal < length entries
    → (agrees ≡ true)
    ↔ (slice_get new.machine.kernel.journal (length new.machine.kernel.journal - 1) ≡ slice_get entries (length new.machine.kernel.journal - 1))
    → Along A old h i true entries → Along A new h' j agrees entries
along_on A old new lines h h' i j entries agrees same are goes below says was =
    let more : OneMore A was.state old new h was.image j = goes A was.state was.image are was.at in
    let at : FilmAt A was.state old h i was.image = was.at in
    let now : FilmAt A more.state new h j more.behind = more.at in
    let wider = more.longer in
    let come : ComeFirst old.machine.kernel.journal new.machine.kernel.journal =
    first_of_longer A old.machine.kernel.journal new.machine.kernel.journal was.state more.state at.made.lawful.reaches now.made.lawful.reaches at.complete
    (omega (arith, wider)) in
    record {
      state = more.state;
      image = more.behind;
      at = subst (λ (k : Option (List NamedFile)). FilmAt A more.state new k j more.behind) (sym same) now;
      so_far = on_by_one old.machine.kernel.journal new.machine.kernel.journal entries agrees
          (one_longer old.machine.kernel.journal new.machine.kernel.journal come more.longer)
          (next_in old.machine.kernel.journal entries was.so_far below) says;
    }

pub along_first : (A : Inputs) (f : Filming) (h : Option (List NamedFile)) (i : Option SwapImage) (image : SwapImage) (entries : List Entry)
    → FilmBegun A f h i image → Along A f h i true entries
along_first A f h i image entries begun = record {
  state = begun.state;
  image = image;
  at = begun.at;
  so_far = (entries, ap (λ (xs : List Entry). xs ++ entries) (sym begun.first));
}

-- Whether it goes on.

goes : (agrees over : Bool) (n to : ℕ) → agrees && (not over && nat_lt n to) ≡ true → (agrees ≡ true) × ((over ≡ false) × (n < to))
goes false over n to e = absurd cc
goes true true n to e = absurd cc
goes true false n to e = (refl, (refl, grind (arith, nat_tests)))

pub goes_further : (on agrees over : Bool) (n to : ℕ) → on ≡ agrees && (not over && nat_lt n to) → on ≡ true
    → (agrees ≡ true) × ((over ≡ false) × (n < to))
goes_further on agrees over n to is so = goes agrees over n to (sym is ∙ so)

-- a film that agrees goes no further: the run is over, or it has as many entries as the trace
no_further : (over : Bool) (n to : ℕ) → not over && nat_lt n to ≡ false → n < to → over ≡ true
no_further true n to e below = refl
no_further false n to e below = absurd (let reached : to ≤ n = grind (arith, nat_tests) in omega (arith, reached, below))

-- The finished journal of a run has the entries of a film first, and has no more exactly where the film is over.

record Finishing (A : Inputs) (f : Filming) : Type 0 where
  pub journal : List Entry
  pub state : State
  pub finished : IsFinished A journal state
  pub left : List Entry
  pub first : journal ≡ f.machine.kernel.journal ++ left
  pub ended : f.over ≡ true → left ≡ []
  pub goes : f.over ≡ false → left ≡ [] → ⊥

nothing_left : (xs ys : List Entry) → xs ++ ys ≡ xs → ys ≡ []
nothing_left xs ys e = append_cancel_left xs ys [] (e ∙ sym (append-nil xs))

film_finishes : (A : Inputs) (s : State) (f : Filming) (h : Option (List NamedFile)) (i : Option SwapImage) (image : SwapImage) → 64 ≤ A.frames
    → FilmAt A s f h i image → Finishing A f
film_finishes A s f h i image frames at =
    let here : List Entry = f.machine.kernel.journal in
    let run = run_finishes A at.made.holdings at.made.can frames in
    let journal : List Entry = run.0 in
    let last : State = run.1.0 in
    let finished : IsFinished A journal last = run.1.1 in
    let first : ComeFirst here journal = first_of_finished A here journal s last at.made.lawful.reaches finished.lawful.reaches at.complete finished.none in
    record {
      journal = journal;
      state = last;
      finished = finished;
      left = first.0;
      first = first.1;
      ended = λ over. nothing_left here first.0
          (sym first.1 ∙ (finished_once A journal here last s finished (record { lawful = at.made.lawful; none = at.over.0 over })).0);
      goes = λ going none.
          let long = ap length (first.1 ∙ ap (λ (xs : List Entry). here ++ xs) none ∙ append-nil here) in
          let same : s ≡ last = (one_of_length A here journal s last at.made.lawful.reaches finished.lawful.reaches at.complete
          (λ u next. absurd (let no : Some u ≡ None = sym next ∙ finished.none in cc)) (sym long)).1 in
          let over : f.over ≡ true = at.over.1 (ap (next_unit A) same ∙ finished.none) in
          let no : false ≡ true = sym going ∙ over in
          cc;
    }

-- The grade.

graded_by : (A : Inputs) (f : Filming) (entries : List Entry) (grade : Grade) (fin : Finishing A f) → IsGradeOf fin.journal entries grade
    → ((line : ℕ) → grade ≡ Differs line → slice_get f.machine.kernel.journal (line - 1) ≡ slice_get fin.journal (line - 1))
    → IsGraded A entries f.machine.kernel.journal grade
graded_by A f entries grade fin compares there = record {
  journal = fin.journal;
  state = fin.state;
  finished = fin.finished;
  written = exactly fin.journal entries grade Written compares;
  front = exactly fin.journal entries grade Front compares;
  differs = λ line. exactly fin.journal entries grade (Differs line) compares;
  there = there;
}

line_of : (line other : ℕ) → Differs line ≡ Differs other → line ≡ other
line_of line other e = cc

-- what a film has at a line that differs is what the finished journal has
there_by : (made journal : List Entry) (number : ℕ) → slice_get made (number - 1) ≡ slice_get journal (number - 1)
    → (line : ℕ) → Differs number ≡ Differs line → slice_get made (line - 1) ≡ slice_get journal (line - 1)
there_by made journal number same line is = subst (λ (k : ℕ). slice_get made (k - 1) ≡ slice_get journal (k - 1)) (line_of number line is) same

module _ (A : Inputs) (f : Filming) (h : Option (List NamedFile)) (i : Option SwapImage) (entries : List Entry) (frames : 64 ≤ A.frames) where
  abbrev here : List Entry
  here = f.machine.kernel.journal

  -- the last entry is another than the trace's
  pub differs_last : Along A f h i false entries → (number : ℕ) → number ≡ length f.machine.kernel.journal
      → IsGraded A entries f.machine.kernel.journal (Differs number)
  differs_last was number is =
      let fin : Finishing A f = film_finishes A was.state f h i was.image frames was.at in
      let x : PartsAtLast here entries = was.so_far in
      let many = ap length x.journal_is in
      let sum = length-append x.good (x.last ∷ []) in
      let place : number - 1 ≡ length x.good = omega (arith, is, many, sum) in
      let whole : fin.journal ≡ x.good ++ x.last ∷ fin.left =
      fin.first ∙ ap (λ (js : List Entry). js ++ fin.left) x.journal_is ∙ append_assoc x.good (x.last ∷ []) fin.left in
      let there : slice_get fin.journal (length x.good) ≡ Some x.last =
      ap (λ (js : List Entry). slice_get js (length x.good)) whole ∙ at_seam x.good x.last fin.left in
      let made : slice_get here (length x.good) ≡ Some x.last =
      ap (λ (js : List Entry). slice_get js (length x.good)) x.journal_is ∙ at_seam x.good x.last [] in
      graded_by A f entries (Differs number) fin
      (record {
        good = x.good;
        bad = x.bad;
        more = x.more;
        entries_are = x.entries_are;
        first = (x.last ∷ fin.left, whole);
        line_is = omega (arith, is, many, sum);
        other = λ same. x.other (let both : Some x.last ≡ Some x.bad = sym there ∙ same in cc);
      })
      (there_by here fin.journal number (ap (slice_get here) place ∙ made ∙ sym there ∙ sym (ap (slice_get fin.journal) place)))

  -- the policy has ended, and the trace has another line
  pub differs_beyond : Along A f h i true entries → length f.machine.kernel.journal < length entries
      → not f.over && nat_lt (length f.machine.kernel.journal) (length entries) ≡ false → (number : ℕ)
      → number ≡ length f.machine.kernel.journal + 1
      → IsGraded A entries f.machine.kernel.journal (Differs number)
  differs_beyond was below ended number is =
      let fin : Finishing A f = film_finishes A was.state f h i was.image frames was.at in
      let over : f.over ≡ true = no_further f.over (length here) (length entries) ended below in
      let next : NextOf here entries = next_in here entries was.so_far below in
      let whole : fin.journal ≡ here = fin.first ∙ ap (λ (js : List Entry). here ++ js) (fin.ended over) ∙ append-nil here in
      let none : slice_get fin.journal (length here) ≡ None = ap (λ (js : List Entry). slice_get js (length here)) whole ∙ at_end here in
      graded_by A f entries (Differs number) fin
      (record {
        good = here;
        bad = next.next;
        more = next.more;
        entries_are = next.is;
        first = (fin.left, fin.first);
        line_is = is;
        other = λ same. let no : None ≡ Some next.next = sym none ∙ same in cc;
      })
      (there_by here fin.journal number (sym (ap (λ (js : List Entry). slice_get js (number - 1)) whole)))

  -- all lines were compared
  all_there : Along A f h i true entries → length entries ≤ length f.machine.kernel.journal → entries ≡ f.machine.kernel.journal
  all_there was reached = go was.so_far
    where
      none : (rest : List Entry) → length (here ++ rest) ≤ length here → rest ≡ []
      none [] few = refl
      none (x ∷ xs) few = absurd (let sum = length-append here (x ∷ xs) in omega (arith, sum, few))

      go : ComeFirst here entries → entries ≡ here
      go first =
          first.1
          ∙ ap (λ (xs : List Entry). here ++ xs) (none first.0 (subst (λ (es : List Entry). length es ≤ length here) first.1 reached)) ∙ append-nil here

  pub written_whole : Along A f h i true entries → length entries ≤ length f.machine.kernel.journal → f.over ≡ true
      → IsGraded A entries f.machine.kernel.journal Written
  written_whole was reached over =
      let fin : Finishing A f = film_finishes A was.state f h i was.image frames was.at in
      graded_by A f entries Written fin
      (all_there was reached ∙ sym (fin.first ∙ ap (λ (js : List Entry). here ++ js) (fin.ended over) ∙ append-nil here))
      (λ line is. absurd cc)

  pub written_so_far : Along A f h i true entries → length entries ≤ length f.machine.kernel.journal → f.over ≡ false
      → IsGraded A entries f.machine.kernel.journal Front
  written_so_far was reached going =
      let fin : Finishing A f = film_finishes A was.state f h i was.image frames was.at in
      graded_by A f entries Front fin (front fin.left fin refl) (λ line is. absurd cc)
    where
      front : (left : List Entry) (fin : Finishing A f) → fin.left ≡ left → IsFrontOf fin.journal entries
      front [] fin is = absurd (fin.goes going is)
      front (x ∷ xs) fin is = record {
        next = x;
        more = xs;
        goes_on = fin.first ∙ ap (λ (js : List Entry). here ++ js) is ∙ ap (λ (es : List Entry). es ++ x ∷ xs) (sym (all_there was reached));
      }
