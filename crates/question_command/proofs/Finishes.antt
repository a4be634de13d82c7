-- How a run came to its end: it is over, or its limit cut it.
use Rattle.std.proofs.Common.{◌≡◌, ◌⊎◌, inl, inr, ℕ, ◌<◌, ◌≤◌, ◌&&◌, not, Bool, true, false, cond, nat_lt, List, [], ◌∷◌, length, find, Option, Some, None, refl, sym, ap, ◌∙◌, subst, arith}
use Rattle.std.proofs.lemmas.Bool.Decides.{nat_tests}
use Rattle.vm_facts.specs.SwapImages.{SwapImage}
use Rattle.vm_facts.specs.declared.entry.Entry.{Entry}
use Rattle.vm_facts.specs.declared.event.Event.{Event}
use Rattle.vm_facts.specs.declared.stop.Stop.TheVariants as stops
use Rattle.io_edge.specs.FileHolding.{NamedFile}
use Rattle.flat_state.specs.Flat.{Process, Inputs, can_step, is_ready}
use Rattle.flat_state.specs.Numbers.{IsNumbered}
use Rattle.flat_state.specs.Journal.{append}
use Rattle.run_model.specs.State.{State}
use Rattle.run_model.specs.Swapped.{swap_left}
use Rattle.run_model.specs.Next.{or_else, pid_if, next_ready, next_turned, next_unit}
use Rattle.run_laws.specs.Running.{IsRun, IsIdle}
use Rattle.run_laws.proofs.Turning.{turned_ready}
use Rattle.run_laws.proofs.Wholes.{reached_run}
use Rattle.run_laws.proofs.Finishing.{finished_ends, none_ready}
use Rattle.film_core.specs.Choosing.{turn_after}
use Rattle.film_core.proofs.Ready.{turned_same}
use Rattle.film_core.specs.Films.{Filming, FilmAt}
use Rattle.reference_commands.specs.Machines.{journal_entries}
use Rattle.run_stats.specs.declared.finish.Finish.{Finish}
use Rattle.run_stats.specs.declared.finish.Finish.TheVariants.{Over, Cut}
use Rattle.reference_commands.specs.Answering.{blank_stores, EndsSo, cut_line, SaysCut}
use Rattle.reference_commands.specs.InMemory.{HasHalted}
use Rattle.question_command.specs.Filmed.{IsAtState}

-- Where no process is found that can step, none can.

-- who is found has a number
found_above : (ps : List Process) (p : ℕ) → pid_if (find (λ q. is_ready q && nat_lt 0 q.pid) ps) ≡ Some p → 0 < p
found_above [] p e = absurd cc
found_above (q ∷ qs) p e = go (found_above qs p) (is_ready q) (nat_lt 0 q.pid) refl e
  where
    go : (pid_if (find (λ x. is_ready x && nat_lt 0 x.pid) qs) ≡ Some p → 0 < p) → (a b : Bool) → nat_lt 0 q.pid ≡ b
        → pid_if (cond (a && b) (Some q) (find (λ x. is_ready x && nat_lt 0 x.pid) qs)) ≡ Some p → 0 < p
    go ih true true k e = let same : q.pid ≡ p = cc in let above : 0 < q.pid = grind (arith, nat_tests) in omega (arith, same, above)
    go ih true false k e = ih e
    go ih false b k e = ih e

once : (o : Option ℕ) → or_else o o ≡ None → o ≡ None
once None e = refl
once (Some p) e = absurd cc

twice : (o : Option ℕ) → or_else o o ≡ o
twice None = refl
twice (Some p) = refl

-- Of a film.

module _ (A : Inputs) (s : State) (f : Filming) (holds : Option (List NamedFile)) (i : Option SwapImage) (image : SwapImage) (lines : List Event)
    (are : A.lines ≡ lines) (at : FilmAt A s f holds i image) where
  turned : turn_after f.machine.kernel 0 ≡ next_turned s.point.flat 0
  turned = turned_same f.machine.kernel s.point.flat 0 at.stands.machine.at.stands.keeps.coupled.tables

  pub idle_there : (length lines ≤ f.lines) × (turn_after f.machine.kernel 0 ≡ None) → IsIdle A s
  idle_there h = record {
    lines = let many = ap (λ (ls : List Event). length ls) are in let taken = at.lines in let all = h.0 in omega (arith, many, taken, all);
    idle = λ pid above. none_ready s.point.flat pid (once (next_ready s.point.flat 0) (sym turned ∙ h.1)) above;
  }

  nobody : IsIdle A s → next_turned s.point.flat 0 ≡ None
  nobody idle = go (next_ready s.point.flat 0) refl
    where
      run : IsRun A s
      run = reached_run A at.made.holdings f.machine.kernel.journal s at.made.can at.made.lawful.reaches

      go : (o : Option ℕ) → next_ready s.point.flat 0 ≡ o → or_else o o ≡ None
      go None e = refl
      go (Some p) e = absurd (
          let numbers : IsNumbered s.point.flat = run.numbers in
          let steps : can_step s.point.flat p ≡ true = turned_ready s.point.flat 0 p numbers.pids (twice (next_ready s.point.flat 0) ∙ e) in
          let stays : can_step s.point.flat p ≡ false = idle.idle p (found_above s.point.flat.processes p e) in
          let both : true ≡ false = sym steps ∙ stays in
          cc)

  pub left_there : IsIdle A s → (length lines ≤ f.lines) × (turn_after f.machine.kernel 0 ≡ None)
  left_there idle =
      (let many = ap (λ (ls : List Event). length ls) are in let taken = at.lines in let all = idle.lines in omega (arith, many, taken, all), turned ∙ nobody idle)

  pub cut_there : f.over ≡ true → (IsIdle A s → ⊥) → EndsSo Cut A s
  cut_there over busy = (
    elim (finished_ends A f.machine.kernel.journal s (record { lawful = at.made.lawful; none = at.over.0 over })) [
      | inl all ↦ all
      | inr idle ↦ absurd (busy idle)
    ],
    busy,
  )

-- what is said of a film that is over
pub cut_said : (A : Inputs) (f : Filming) (holds : Option (List NamedFile)) (i : Option SwapImage) (finish : Finish)
    (limit : ℕ) (text : List ℕ) (was : IsAtState A f holds i)
    → f.over ≡ true → EndsSo finish A was.state → limit ≡ f.machine.params.limit → text ≡ cut_line finish limit → SaysCut A text
cut_said A f holds i finish limit text was over ends same told =
    let at : FilmAt A was.state f holds i was.image = was.at in
    record {
      journal = f.machine.kernel.journal;
      state = was.state;
      made = at.made;
      none = at.over.0 over;
      finish = finish;
      ends = ends;
      told = told ∙ ap (cut_line finish) (same ∙ sym at.stands.inputs.limit);
    }

-- the journal has as many entries as it may have, and the run isn't over
pub at_full : (A : Inputs) (f : Filming) (h : Option (List NamedFile)) (i : Option SwapImage) → IsAtState A f h i
    → not f.over && nat_lt (length f.machine.kernel.journal) journal_entries ≡ false → f.over ≡ false → HasHalted A
at_full A f h i was ends going = go (next_unit A was.state) refl
  where
    at : FilmAt A was.state f h i was.image
    at = was.at

    many : (over : Bool) (n : ℕ) → not over && nat_lt n journal_entries ≡ false → over ≡ false → journal_entries ≤ n
    many true n e is = absurd cc
    many false n e is = grind (arith, nat_tests)

    go : (next : Option Entry) → next_unit A was.state ≡ next → HasHalted A
    go None e = absurd (let over : f.over ≡ true = at.over.1 e in let no : false ≡ true = sym going ∙ over in cc)
    go (Some u) e = record {
      journal = f.machine.kernel.journal;
      left = Some (swap_left A f.machine.kernel.journal (blank_stores A.swap_blocks));
      halted = record {
        state = was.state;
        made = at.made;
        unit = u;
        next = e;
        why = subst (λ (es : List Entry). length es < length (append es u)) at.stands.machine.at.stands.journal (at.complete u e);
        left = swap_left A f.machine.kernel.journal (blank_stores A.swap_blocks);
        told = refl;
        image_left = refl;
      };
      full = many f.over (length f.machine.kernel.journal) ends going;
    }
