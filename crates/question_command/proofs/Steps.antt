-- The steps of a film, one after another.
use Rattle.std.proofs.Common.{◌≡◌, ◌↔◌, ℕ, suc, ◌+◌, ◌-◌, ◌%◌, ◌==◌, ◌≤◌, ◌<◌, nat_le, nat_lt, ◌&&◌, not, Bool, true, false, cond, List, [], ◌∷◌, ◌++◌, length, map, Option, Some, None, refl, sym, ap, ◌∙◌, subst, arith}
use Rattle.std.specs.List.{filter, concat, range_with_len}
use Rattle.std.proofs.lemmas.Bool.Decides.{nat_tests}
use Rattle.std.proofs.lemmas.List.{append-nil, map-id}
use Rattle.std.proofs.lemmas.List.Folds.{concat-append}
use Rattle.std.proofs.lemmas.List.FromFn.{filter_of_map_range_with_len_more}
use Rattle.vm_facts.specs.SwapImages.{SwapImage}
use Rattle.vm_facts.specs.declared.entry.Entry.{Entry}
use Rattle.vm_facts.specs.declared.event.Event.{Event}
use Rattle.io_edge.specs.FileHolding.{NamedFile}
use Rattle.flat_state.specs.Flat.{Inputs}
use Rattle.flat_state.specs.Journal.{append}
use Rattle.run_model.specs.State.{State}
use Rattle.run_model.specs.Next.{next_unit}
use Rattle.film_core.specs.Films.{Filming, FilmAt, IsFilming, FilmBegun, BeginsFilm, OneMore, FilmGoes}
use Rattle.run_stats.specs.Owners.{word_if, owners_lines}
use Rattle.command_words.specs.declared.command.FilmSteps.{FilmSteps}
use Rattle.reference_commands.specs.Answering.{IsEnd, has_step, step_numbers, step_line, TellsStep, TellSteps, SaysFilm}
use Rattle.question_command.specs.Filmed.{IsAskable, IsAtState, step_text, Filmed}
use Rattle.reference_commands.proofs.Owning.{lines_there}

-- Where the entries so far end.

ends_by : (A : Inputs) (s : State) (journal : List Entry) (over : Bool) (entries : ℕ) (next : Option Entry) → next_unit A s ≡ next → (over ≡ true)
    ↔ (next_unit A s ≡ None)
    → ((u : Entry) → next_unit A s ≡ Some u → length journal < length (append journal u)) → length journal ≤ entries → (over ≡ false → length journal ≡ entries)
    → IsEnd over entries A journal s
ends_by A s journal true entries next at says complete within reached = (says.0 refl, within)
ends_by A s journal false entries None at says complete within reached = absurd (let never : false ≡ true = says.1 at in cc)
ends_by A s journal false entries (Some u) at says complete within reached = (reached refl, (u, at, complete u at))

end_there : (A : Inputs) (s : State) (f : Filming) (holds : Option (List NamedFile)) (i : Option SwapImage) (image : SwapImage) (entries : ℕ)
    → FilmAt A s f holds i image
    → length f.machine.kernel.journal ≤ entries → (f.over ≡ false → length f.machine.kernel.journal ≡ entries)
    → IsEnd f.over entries A f.machine.kernel.journal s
end_there A s f holds i image entries at within reached = ends_by A s f.machine.kernel.journal f.over entries (next_unit A s) refl at.over at.complete within reached

-- A step.

step_told : (A : Inputs) (s : State) (f : Filming) (holds : Option (List NamedFile)) (i : Option SwapImage) (image : SwapImage) → FilmAt A s f holds i image
    → TellsStep A (length f.machine.kernel.journal) (step_text f)
step_told A s f holds i image at = record {
  owners = owners_lines f.machine f.over;
  says = record {
    journal = f.machine.kernel.journal;
    state = s;
    made = at.made;
    over = f.over;
    ends = end_there A s f holds i image (length f.machine.kernel.journal) at (omega arith) (λ going. refl);
    told = lines_there A s f.machine f.over image.bytes at.stands.machine.at.stands at.ready.whole at.stands.machine.blocks;
  };
  reached = refl;
  told = refl;
}

tell_more : (A : Inputs) (ns : List ℕ) (texts : List (List ℕ)) (n : ℕ) (text : List ℕ) → TellSteps A ns texts → TellsStep A n text
    → TellSteps A (ns ++ n ∷ []) (texts ++ text ∷ [])
tell_more A [] [] n text all one = (one, tt)
tell_more A (m ∷ ns) (t ∷ texts) n text all one = (all.0, tell_more A ns texts n text all.1 one)
tell_more A [] (t ∷ texts) n text all one = absurd all
tell_more A (m ∷ ns) [] n text all one = absurd all

-- the texts of the steps so far, and of one more where there is one
record Longer (A : Inputs) (ns : List ℕ) (text : List ℕ) : Type 0 where
  pub texts : List (List ℕ)
  pub tell : TellSteps A ns texts
  pub told : text ≡ concat texts

put_one : (A : Inputs) (ns : List ℕ) (texts : List (List ℕ)) (n : ℕ) (step text : List ℕ) (here : Bool) → TellSteps A ns texts
    → text ≡ concat texts → TellsStep A n step
    → Longer A (ns ++ cond here (n ∷ []) []) (text ++ word_if here step)
put_one A ns texts n step text true tell told one = record {
  texts = texts ++ step ∷ [];
  tell = tell_more A ns texts n step tell one;
  told = ap (λ (t : List ℕ). t ++ step) told ∙ ap (λ (t : List ℕ). concat texts ++ t) (sym (append-nil step)) ∙ sym (concat-append texts (step ∷ []));
}
put_one A ns texts n step text false tell told one = record {
  texts = texts;
  tell = subst (λ (ms : List ℕ). TellSteps A ms texts) (sym (append-nil ns)) tell;
  told = append-nil text ∙ told;
}

put_at : (A : Inputs) (steps : FilmSteps) (s : State) (f : Filming) (holds : Option (List NamedFile)) (i : Option SwapImage) (image : SwapImage)
    (ns : List ℕ) (texts : List (List ℕ))
    (text text' : List ℕ) → FilmAt A s f holds i image → TellSteps A ns texts → text ≡ concat texts
    → step_numbers steps (length f.machine.kernel.journal)
    ≡ ns ++ cond (has_step steps (length f.machine.kernel.journal)) (length f.machine.kernel.journal ∷ []) []
    → text' ≡ text ++ word_if (has_step steps (length f.machine.kernel.journal)) (step_text f) → Filmed A steps f holds i text'
put_at A steps s f holds i image ns texts text text' at tell told numbers put =
    let n : ℕ = length f.machine.kernel.journal in
    let longer : Longer A (ns ++ cond (has_step steps n) (n ∷ []) []) (text ++ word_if (has_step steps n) (step_text f))
    = put_one A ns texts n (step_text f) text (has_step steps n) tell told (step_told A s f holds i image at) in
    record {
      state = s;
      image = image;
      at = at;
      texts = longer.texts;
      tell = subst (λ (ms : List ℕ). TellSteps A ms longer.texts) (sym numbers) longer.tell;
      told = put ∙ longer.told;
    }

-- The numbers of the steps.

numbers_at_first : (steps : FilmSteps) (n : ℕ) → n ≡ 0 → step_numbers steps n ≡ [] ++ cond (has_step steps n) (n ∷ []) []
numbers_at_first steps n e = subst (λ (k : ℕ). step_numbers steps k ≡ [] ++ cond (has_step steps k) (k ∷ []) []) (sym e) refl

numbers_more : (steps : FilmSteps) (n m : ℕ) → m ≡ suc n → step_numbers steps m ≡ step_numbers steps n ++ cond (has_step steps m) (m ∷ []) []
numbers_more steps n m e =
    let all : ℕ → List ℕ = λ k. range_with_len 0 k in
    let wider : m ≡ n + 1 = omega (arith, e) in
    ap (filter (has_step steps)) (sym (map-id (all (m + 1))) ∙ ap (λ (k : ℕ). map (λ (x : ℕ). x) (all (k + 1))) wider)
    ∙ filter_of_map_range_with_len_more (has_step steps) (λ (x : ℕ). x) 0 (n + 1) m (omega (arith, e))
    ∙ ap (λ (xs : List ℕ). filter (has_step steps) xs ++ cond (has_step steps m) (m ∷ []) []) (map-id (all (n + 1)))

-- whether there is a step
pub none_before : (steps : FilmSteps) (n : ℕ) → n < steps.from → false ≡ has_step steps n
none_before steps n below = let not_yet : nat_le steps.from n ≡ false = grind (arith, nat_tests) in ap (λ (b : Bool). b && (n - steps.from) % steps.every == 0) (sym not_yet)

pub some_since : (steps : FilmSteps) (n : ℕ) → steps.from ≤ n → (n - steps.from) % steps.every == 0 ≡ has_step steps n
some_since steps n since = let reached : nat_le steps.from n ≡ true = grind (arith, nat_tests) in ap (λ (b : Bool). b && (n - steps.from) % steps.every == 0) (sym reached)

-- The film.

pub filmed_first : (A : Inputs) (steps : FilmSteps) (s : State) (f : Filming) (holds : Option (List NamedFile)) (i : Option SwapImage)
    (image : SwapImage) (before text : List ℕ)
    → FilmAt A s f holds i image → f.machine.kernel.journal ≡ [] → before ≡ []
    → text ≡ before ++ word_if (has_step steps (length f.machine.kernel.journal)) (step_text f)
    → Filmed A steps f holds i text
filmed_first A steps s f holds i image before text at first none put =
    put_at A steps s f holds i image [] [] before text at tt none (numbers_at_first steps (length f.machine.kernel.journal) (ap length first)) put

pub filmed_more : (A : Inputs) (steps : FilmSteps) (old f : Filming) (h holds : Option (List NamedFile)) (i j : Option SwapImage) (s : State)
    (image : SwapImage) (text text' : List ℕ)
    → Filmed A steps old h i text → FilmAt A s f holds j image → length f.machine.kernel.journal ≡ suc (length old.machine.kernel.journal)
    → text' ≡ text ++ word_if (has_step steps (length f.machine.kernel.journal)) (step_text f) → Filmed A steps f holds j text'
filmed_more A steps old f h holds i j s image text text' filmed at longer put =
    put_at A steps s f holds j image (step_numbers steps (length old.machine.kernel.journal)) filmed.texts text text' at filmed.tell filmed.told
    (numbers_more steps (length old.machine.kernel.journal) (length f.machine.kernel.journal) longer) put

pub film_said : (A : Inputs) (steps : FilmSteps) (f : Filming) (holds : Option (List NamedFile)) (i : Option SwapImage) (text : List ℕ)
    → Filmed A steps f holds i text
    → length f.machine.kernel.journal ≤ steps.to → (f.over ≡ false → length f.machine.kernel.journal ≡ steps.to) → SaysFilm steps A text
film_said A steps f holds i text filmed within reached =
    let at : FilmAt A filmed.state f holds i filmed.image = filmed.at in
    record {
      journal = f.machine.kernel.journal;
      state = filmed.state;
      made = at.made;
      over = f.over;
      ends = end_there A filmed.state f holds i filmed.image steps.to at within reached;
      texts = filmed.texts;
      tell = filmed.tell;
      told = filmed.told;
    }

-- The film begins.

pub begun_over : (A : Inputs) (f : Filming) (h h' : Option (List NamedFile)) (i : Option SwapImage) (image : SwapImage) → h' ≡ h → FilmBegun A f h i image
    → FilmBegun A f h' i image
begun_over A f h h' i image same begun = subst (λ (k : Option (List NamedFile)). FilmBegun A f k i image) (sym same) begun

pub filming_begun : (old new : Filming) (first : List ℕ) (lines : List Event) (h h' : Option (List NamedFile)) (i j : Option SwapImage) → h' ≡ h
    → 64 ≤ old.machine.params.frames
    → IsAskable old.machine first lines h i → BeginsFilm old new first lines h i j → IsFilming new lines h' j
filming_begun old new first lines h h' i j same frames asked begins =
    let begun : FilmBegun asked.inputs new h' j asked.image
    = begun_over asked.inputs new h h' j asked.image same (begins asked.inputs asked.image asked.asked asked.told) in
    record {
      inputs = asked.inputs;
      state = begun.state;
      image = asked.image;
      are = asked.asked.lines_are;
      frames = let many = asked.asked.frames in omega (arith, many, frames);
      at = begun.at;
    }

pub none_so_far : (old new : Filming) (first : List ℕ) (lines : List Event) (h : Option (List NamedFile)) (i j : Option SwapImage)
    → IsAskable old.machine first lines h i
    → BeginsFilm old new first lines h i j → new.machine.kernel.journal ≡ []
none_so_far old new first lines h i j asked begins = (begins asked.inputs asked.image asked.asked asked.told).first

-- The film goes on by one entry.

pub filming_on : (old new : Filming) (lines : List Event) (h h' : Option (List NamedFile)) (i j : Option SwapImage) → h' ≡ h → IsFilming old lines h i
    → FilmGoes old new lines h i j
    → IsFilming new lines h' j
filming_on old new lines h h' i j same was goes =
    let more : OneMore was.inputs was.state old new h was.image j = goes was.inputs was.state was.image was.are was.at in
    record {
      inputs = was.inputs;
      state = more.state;
      image = more.behind;
      are = was.are;
      frames = was.frames;
      at = subst (λ (k : Option (List NamedFile)). FilmAt was.inputs more.state new k j more.behind) (sym same) more.at;
    }

pub state_on : (A : Inputs) (old new : Filming) (lines : List Event) (h h' : Option (List NamedFile)) (i j : Option SwapImage)
    → h' ≡ h → A.lines ≡ lines → FilmGoes old new lines h i j → IsAtState A old h i → IsAtState A new h' j
state_on A old new lines h h' i j same are goes was =
    let more : OneMore A was.state old new h was.image j = goes A was.state was.image are was.at in
    record {
      state = more.state;
      image = more.behind;
      at = subst (λ (k : Option (List NamedFile)). FilmAt A more.state new k j more.behind) (sym same) more.at;
    }

pub filmed_on : (A : Inputs) (steps : FilmSteps) (old new : Filming) (lines : List Event) (h h' : Option (List NamedFile))
    (i j : Option SwapImage) (text text' : List ℕ)
    → h' ≡ h → A.lines ≡ lines → FilmGoes old new lines h i j → Filmed A steps old h i text
    → text' ≡ text ++ word_if (has_step steps (length new.machine.kernel.journal)) (step_text new) → Filmed A steps new h' j text'
filmed_on A steps old new lines h h' i j text text' same are goes filmed put =
    let more : OneMore A filmed.state old new h filmed.image j = goes A filmed.state filmed.image are filmed.at in
    filmed_more A steps old new h h' i j more.state more.behind text text' filmed
    (subst (λ (k : Option (List NamedFile)). FilmAt A more.state new k j more.behind) (sym same) more.at) more.longer put

pub longer_by_one : (old new : Filming) (lines : List Event) (h : Option (List NamedFile)) (i j : Option SwapImage) → IsFilming old lines h i
    → FilmGoes old new lines h i j
    → length new.machine.kernel.journal ≡ length old.machine.kernel.journal + 1
longer_by_one old new lines h i j was goes =
    let more : OneMore was.inputs was.state old new h was.image j = goes was.inputs was.state was.image was.are was.at in
    let longer = more.longer in
    omega (arith, longer)

-- Whether it goes on.

pub goes_further : (over : Bool) (n to : ℕ) → not over && nat_lt n to ≡ true → (over ≡ false) × (n < to)
goes_further true n to e = absurd cc
goes_further false n to e = (refl, grind (arith, nat_tests))

pub goes_no_further : (over : Bool) (n to : ℕ) → not over && nat_lt n to ≡ false → n ≤ to → over ≡ false → n ≡ to
goes_no_further true n to e within is = absurd cc
goes_no_further false n to e within is = let reached : to ≤ n = grind (arith, nat_tests) in omega (arith, reached, within)
