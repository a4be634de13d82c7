-- What is noted of a run, entry by entry.
use Rattle.std.proofs.Common.{◌≡◌, ℕ, suc, ◌+◌, ◌-◌, ◌<◌, ◌≤◌, ◌&&◌, not, nat_lt, Bool, true, false, List, [], ◌∷◌, ◌++◌, length, Option, Some, None, refl, sym, ap, ◌∙◌, subst, arith}
use Rattle.std.proofs.lemmas.Bool.Decides.{nat_tests}
use Rattle.std.proofs.lemmas.List.{length-append}
use Rattle.std.proofs.lemmas.Option.{same_Some}
use Rattle.vm_facts.specs.SwapImages.{SwapImage}
use Rattle.vm_facts.specs.declared.entry.Entry.{Entry}
use Rattle.vm_facts.specs.declared.event.Event.{Event}
use Rattle.vm_facts.specs.declared.stop.Stop.TheVariants as stops
use Rattle.io_edge.specs.FileHolding.{NamedFile}
use Rattle.flat_state.specs.Flat.{Inputs}
use Rattle.page_model.specs.Holdings.{Holdings}
use Rattle.page_model.specs.Placement.{Placement}
use Rattle.kernel_model.specs.Kernel.{Kernel}
use Rattle.run_model.specs.declared.mark.Mark.{Mark}
use Rattle.run_model.specs.State.{State, start}
use Rattle.run_model.specs.Next.{next_unit}
use Rattle.run_model.specs.Lawful.{Follows}
use Rattle.run_model.specs.Swapped.{swapped}
use Rattle.run_laws.specs.Machine.{StandsAt}
use Rattle.run_laws.specs.Running.{CanRun}
use Rattle.run_laws.proofs.Machines.{swaps_follow}
use Rattle.reference_commands.specs.Machines.{journal_entries}
use Rattle.film_core.specs.Films.{Filming, FilmAt, FilmBegun, OneMore, FilmGoes}
use Rattle.film_core.proofs.Begins.{none_made}
use Rattle.run_stats.specs.First.{ComeFirst}
use Rattle.run_stats.proofs.First.{first_of_longer}
use Rattle.run_stats.specs.declared.look.Look.{Look}
use Rattle.run_stats.specs.declared.noting.Note.{Note}
use Rattle.run_stats.specs.Looks.{look_of, look_at}
use Rattle.run_stats.specs.Notes.{note_by, note_of}
use Rattle.run_stats.specs.Story.{IsNoted, AreNoted}
use Rattle.run_stats.specs.Table.{stats_text}
use Rattle.run_stats.specs.Finishing.{finish_row}
use Rattle.run_stats.specs.declared.finish.Finish.{Finish}
use Rattle.reference_commands.specs.Answering.{EndsSo, SaysStats}
use Rattle.question_command.specs.Counted.{look_at_film, Counted}
use Rattle.question_command.proofs.Requests.{requests_counted}

-- What is looked at of a film is what is looked at of the state at which it stands.

same_look : (m m' : Mark) (p p' : Placement) (hs hs' : Holdings) → m ≡ m' → p ≡ p' → hs ≡ hs' → look_of m p hs ≡ look_of m' p' hs'
same_look m m' p p' hs hs' a b c = ap (λ (x : Mark). look_of x p hs) a ∙ ap (λ (x : Placement). look_of m' x hs) b ∙ ap (λ (x : Holdings). look_of m' p' x) c

looked_at : (A : Inputs) (s : State) (f : Filming) (h : Option (List NamedFile)) (i : Option SwapImage) (image : SwapImage) → FilmAt A s f h i image
    → look_at_film f ≡ look_at s
looked_at A s f h i image at =
    let stands : StandsAt A s f.machine.kernel image.bytes = at.stands.machine.at.stands in
    same_look f.mark s.mark f.machine.kernel.place s.place f.machine.kernel.holdings s.holdings (sym at.mark) stands.place stands.holdings

-- The start.

pub counted_first : (A : Inputs) (f : Filming) (h : Option (List NamedFile)) (i : Option SwapImage) (image : SwapImage) → FilmBegun A f h i image
    → Counted A f h i (look_at_film f) []
counted_first A f h i image begun =
    let at : FilmAt A begun.state f h i image = begun.at in
    let made = at.made in
    let none : made.units ≡ [] = none_made made.units (made.joined ∙ begun.first) in
    let same : start A made.holdings ≡ begun.state = subst (λ (us : List Entry). Follows A (start A made.holdings) us begun.state) none made.follows in
    record {
      state = begun.state;
      image = image;
      at = at;
      holdings = made.holdings;
      can = made.can;
      looked = looked_at A begun.state f h i image at ∙ ap look_at (sym same);
      noted = same;
    }

-- One entry more.

noted_more : (A : Inputs) (s : State) (xs : List Note) (t u : State) (x : Note) → AreNoted A s xs t → IsNoted A t x u → AreNoted A s (xs ++ x ∷ []) u
noted_more A s [] t u x same one = (u, subst (λ (z : State). IsNoted A z x u) (sym same) one, refl)
noted_more A s (y ∷ ys) t u x all one = (all.0, all.1, noted_more A all.0 ys t u x all.2 one)

-- the one entry by which a list is longer
record OneLonger (journal more : List Entry) : Type 0 where
  pub entry : Entry
  pub is : more ≡ journal ++ entry ∷ []

one_of : (journal rest : List Entry) → length rest ≡ 1 → OneLonger journal (journal ++ rest)
one_of journal [] e = absurd cc
one_of journal (x ∷ []) e = record { entry = x; is = refl }
one_of journal (x ∷ y ∷ ys) e = absurd (omega (arith, e))

one_longer : (journal more : List Entry) → ComeFirst journal more → length more ≡ suc (length journal) → OneLonger journal more
one_longer journal more first longer =
    let rest = first.0 in
    let all = ap length first.1 in
    let sum = length-append journal rest in
    subst (OneLonger journal) (sym first.1) (one_of journal rest (omega (arith, all, sum, longer)))

pub counted_more : (A : Inputs) (old new : Filming) (lines : List Event) (h h' : Option (List NamedFile)) (i j : Option SwapImage) (first before : Look)
    (notes notes' : List Note)
    → h' ≡ h → A.lines ≡ lines → FilmGoes old new lines h i j → before ≡ look_at_film old
    → ((so_far : List Entry) (entry : Entry) → new.machine.kernel.journal ≡ so_far ++ entry ∷ []
    → notes' ≡ notes ++ note_by before entry (look_at_film new) ∷ [])
    → Counted A old h i first notes → Counted A new h' j first notes'
counted_more A old new lines h h' i j first before notes notes' same are goes looked put was =
    let more : OneMore A was.state old new h was.image j = goes A was.state was.image are was.at in
    let at : FilmAt A was.state old h i was.image = was.at in
    let now : FilmAt A more.state new h j more.behind = more.at in
    let journal = old.machine.kernel.journal in
    let wider = more.longer in
    let come : ComeFirst journal new.machine.kernel.journal =
    first_of_longer A journal new.machine.kernel.journal was.state more.state at.made.lawful.reaches now.made.lawful.reaches at.complete (omega (arith, wider)) in
    let one : OneLonger journal new.machine.kernel.journal = one_longer journal new.machine.kernel.journal come more.longer in
    let stood : StandsAt A was.state old.machine.kernel was.image.bytes = at.stands.machine.at.stands in
    let stands : StandsAt A more.state new.machine.kernel more.behind.bytes = now.stands.machine.at.stands in
    let noted : IsNoted A was.state (note_by before one.entry (look_at_film new)) more.state = record {
      units = more.units;
      follows = swaps_follow A more.units was.state more.state old.machine.kernel new.machine.kernel was.image more.leads.behind more.leads.makes;
      entry = one.entry;
      more = sym stands.journal ∙ one.is ∙ ap (λ (es : List Entry). es ++ one.entry ∷ []) stood.journal;
      note = ap (λ (x : Look). note_by x one.entry (look_at_film new)) (looked ∙ looked_at A was.state old h i was.image at)
          ∙ ap (note_by (look_at was.state) one.entry) (looked_at A more.state new h j more.behind now);
    } in
    record {
      state = more.state;
      image = more.behind;
      at = subst (λ (k : Option (List NamedFile)). FilmAt A more.state new k j more.behind) (sym same) now;
      holdings = was.holdings;
      can = was.can;
      looked = was.looked;
      noted = subst (λ (xs : List Note). AreNoted A (start A was.holdings) xs more.state) (sym (put journal one.entry one.is))
          (noted_more A (start A was.holdings) notes was.state more.state (note_by before one.entry (look_at_film new)) was.noted noted);
    }

-- The end.

same_table : (journal : List Entry) (first first' : Look) (notes : List Note) (p p' s s' n n' : ℕ) → first ≡ first' → p ≡ p' → s ≡ s' → n ≡ n'
    → stats_text journal first notes p s n ≡ stats_text journal first' notes p' s' n'
same_table journal first first' notes p p' s s' n n' a b c d =
    ap (λ (x : Look). stats_text journal x notes p s n) a
    ∙ ap (λ (k : ℕ). stats_text journal first' notes k s n) b
    ∙ ap (λ (k : ℕ). stats_text journal first' notes p' k n) c
    ∙ ap (λ (k : ℕ). stats_text journal first' notes p' s' k) d

pub counted_said : (A : Inputs) (f : Filming) (h : Option (List NamedFile)) (i : Option SwapImage) (first : Look) (notes : List Note) (pids sids images : ℕ)
    (journal : List Entry) (finish : Finish) (count : ℕ) (table text : List ℕ) (was : Counted A f h i first notes)
    → f.over ≡ true → EndsSo finish A was.state → count ≡ f.counted → length A.images ≡ images → journal ≡ f.machine.kernel.journal → pids ≡ f.machine.kernel.next_pid - 1
    → sids ≡ f.machine.kernel.next_sid - 1
    → table ≡ stats_text journal first notes pids sids images → text ≡ table ++ finish_row finish count → SaysStats A text
counted_said A f h i first notes pids sids images journal finish count table text was over ends many_run many j p s made told =
    let at : FilmAt A was.state f h i was.image = was.at in
    let tables = at.stands.machine.at.stands.keeps.coupled.tables in
    record {
      journal = f.machine.kernel.journal;
      state = was.state;
      made = at.made;
      none = at.over.0 over;
      holdings = was.holdings;
      can = was.can;
      notes = notes;
      noted = was.noted;
      requests = requests_counted A was.holdings was.state notes f.machine.kernel.journal was.can was.noted (sym at.stands.machine.at.stands.journal);
      finish = finish;
      ends = ends;
      told = told ∙ ap (λ (n : ℕ). table ++ finish_row finish n) (many_run ∙ sym at.stands.count) ∙ ap (λ (t : List ℕ). t ++ finish_row finish was.state.count) (made
          ∙ ap (λ (es : List Entry). stats_text es first notes pids sids images) j
          ∙ same_table f.machine.kernel.journal first (look_at (start A was.holdings)) notes pids (was.state.point.flat.next_pid - 1) sids (was.state.point.flat.next_sid - 1) images (length A.images)
          was.looked (p ∙ ap (λ (k : ℕ). k - 1) tables.next_pid) (s ∙ ap (λ (k : ℕ). k - 1) tables.next_sid) (sym many));
    }
