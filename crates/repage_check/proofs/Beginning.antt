-- The machine stands at the start of a run once it was started with room for no entry.
use Rattle.std.proofs.Common.{◌≡◌, inl, inr, ℕ, ◌<◌, ◌≤◌, false, List, [], ◌∷◌, length, Option, Some, refl, sym, ap, ◌∙◌, subst, arith}
use Rattle.vm_facts.specs.SwapImages.{SwapImage}
use Rattle.vm_facts.specs.declared.entry.Entry.{Entry}
use Rattle.vm_facts.specs.declared.entry.Entry.TheVariants as entries
use Rattle.vm_facts.specs.declared.params.Params.{Params}
use Rattle.vm_facts.specs.declared.stop.Stop.TheVariants as stops
use Rattle.io_edge.specs.FileHolding.{NamedFile}
use Rattle.swap_book.specs.Holdings.{Holdings}
use Rattle.flat_state.specs.Flat.{Inputs}
use Rattle.flat_state.specs.Journal.{append, appended}
use Rattle.kernel_model.specs.Kernel.{Kernel}
use Rattle.machine_state.specs.Files.{AreRunImages}
use Rattle.machine_state.specs.Machine.{Standing}
use Rattle.machine_state.specs.Sourced.{ImageNamed, files_named}
use Rattle.run_model.specs.State.{State, start}
use Rattle.run_model.specs.Lawful.{Follows}
use Rattle.run_model.proofs.After.{units_journal}
use Rattle.run_laws.specs.Machine.{StandsAt, MakesSwap}
use Rattle.run_laws.specs.Running.{CanRun}
use Rattle.run_laws.proofs.Lawful.{follows_state}
use Rattle.run_laws.proofs.LongerJournals.{goes_behind, behind_longer}
use Rattle.run_laws.proofs.Wholes.{start_run}
use Rattle.step_judge.specs.Leads.{Leads}
use Rattle.step_judge.specs.Serving.{At}
use Rattle.step_judge.proofs.Journals.{leads_follow}
use Rattle.step_judge.proofs.Units.{leads_at}
use Rattle.vm_core.specs.Reading.{AreNamed}
use Rattle.vm_core.specs.Leading.{IsTold, machine_at_start, StartLeads, StartStops}
use Rattle.vm_core.specs.Stepped.{StopsNext}
use Rattle.vm_core.specs.Stops.{StaysPut}
use Rattle.vm_core.proofs.Led.{stands_at_start}
use Rattle.vm_core.proofs.Journals.{same_left}
use Rattle.paged_laws.proofs.Steady.{run_steady}
use Rattle.repage_check.specs.Starting.{AtStart}

-- No unit makes no entry.

some_appended : (u : Entry) → 0 < length (append [] u)
some_appended (entries.Ran q n) = omega arith
some_appended (entries.Hands n) = omega arith
some_appended _ = omega arith

none_made : (us : List Entry) → appended [] us ≡ [] → us ≡ []
none_made [] e = refl
none_made (u ∷ us) e =
    absurd (let more = behind_longer [] (appended (append [] u) us) (goes_behind [] u us (some_appended u)) in let same = ap (λ (es : List Entry). length es) e in omega (arith, more, same))

empty : (es : List Entry) → length es ≤ 0 → es ≡ []
empty [] l = refl
empty (e ∷ es) l = absurd (omega (arith, l))

-- no entry was added where there is room for none
pub none_added : (old new : Standing) → old.params.journal ≡ 0 → new.params ≡ old.params → length new.kernel.journal ≤ new.params.journal
    → new.kernel.journal ≡ []
none_added old new bound params within =
    empty new.kernel.journal (let b : new.params.journal ≡ 0 = ap (λ (p : Params). p.journal) params ∙ bound in omega (arith, within, b))

module _ (A : Inputs) (old new : Standing) (numbers : List ℕ) (holds : Option (List NamedFile)) (image : SwapImage) (j : Option SwapImage)
    (told : IsTold A old numbers holds image) (limit : A.limit ≡ 1000000) (big : 64 ≤ old.params.frames) (params : new.params ≡ old.params)
    (images : new.images ≡ old.images) (no_entry : new.kernel.journal ≡ []) where
  module _ (hs : Holdings) (can : CanRun A hs) (us : List Entry) (t : State) (behind : SwapImage)
      (l : Leads A (start A hs) (machine_at_start A hs) image us t new.kernel (Some behind)) (shown : j ≡ Some behind) where
    at_start : At A (start A hs) (machine_at_start A hs) image
    at_start = stands_at_start A hs image can told.room

    there : At A t new.kernel behind
    there = leads_at A (start A hs) t (machine_at_start A hs) new.kernel image behind us at_start l

    follows : Follows A (start A hs) us t
    follows = leads_follow A (start A hs) t (machine_at_start A hs) new.kernel image us (Some behind) l

    no_unit : us ≡ []
    no_unit =
        none_made us
        (sym (ap (λ (x : State). x.journal) (sym (follows_state A us (start A hs) t follows)) ∙ units_journal A (start A hs) us) ∙ sym there.stands.journal ∙ no_entry)

    is_start : start A hs ≡ t
    is_start = subst (λ (xs : List Entry). Follows A (start A hs) xs t) no_unit follows

    same_machine : machine_at_start A hs ≡ new.kernel
    same_machine =
        let none : MakesSwap A (start A hs) (machine_at_start A hs) image [] t new.kernel l.behind =
        subst (λ (xs : List Entry). MakesSwap A (start A hs) (machine_at_start A hs) image xs t new.kernel l.behind) no_unit l.makes in
        none.1

    runs : new.kernel.stopped ≡ false
    runs = ap (λ (k : Kernel). k.stopped) (sym same_machine)

    stands_so : AtStart A new holds j
    stands_so = record {
      holdings = hs;
      can = can;
      stands = record {
        image = behind;
        at = record {
          judged = record {
            fit = told.fit;
            paged = record { steady = run_steady A (start A hs) (start_run A hs can); awaits = tt };
            stands = subst (λ (x : State). StandsAt A x new.kernel behind.bytes) (sym is_start) there.stands;
            images = subst (λ (ns : List ImageNamed). AreRunImages ns holds A) (sym images) told.images;
            named = subst (AreNamed A.images) (sym images) told.starts.named;
            blocks = ap (λ (p : Params). p.swap_blocks) params ∙ sym told.starts.blocks;
            told = shown;
            count = refl;
            begun = refl;
            limit = limit;
            enough = let e = told.starts.frames in omega (arith, e, big);
          };
          counts = refl;
          lines = refl;
          mark = refl;
          turn = tt;
        };
      };
    }

  -- It was started.
  pub started : StartLeads A new holds image j → AtStart A new holds j
  started l =
      let led : Leads A (start A l.holdings) (machine_at_start A l.holdings) image l.units l.state new.kernel (Some l.leads.behind) =
      subst (λ (o : Option SwapImage). Leads A (start A l.holdings) (machine_at_start A l.holdings) image l.units l.state new.kernel o) l.leads.told l.leads in
      stands_so l.holdings l.can l.units l.state l.leads.behind led l.leads.told

  -- or the journal has no room for what is due first
  pub stopped : StartStops A new image stops.JournalFull j → AtStart A new holds j × (new.kernel.stopped ≡ false) × (new.before ≡ new.kernel.holdings)
  stopped (inl b) = absurd (let z : stops.JournalFull ≡ stops.NoMemory = b.cause in cc)
  stopped (inr (hs, can, x)) =
      let put : StaysPut x.kernel new = x.held in
      let led : Leads A (start A hs) (machine_at_start A hs) image x.units x.state new.kernel (Some x.behind) =
      subst (λ (k : Kernel). Leads A (start A hs) (machine_at_start A hs) image x.units x.state k (Some x.behind)) (sym put.kernel) x.leads in
      let next : StopsNext A x.state x.kernel x.behind stops.JournalFull new j = x.by in
      let shown : j ≡ Some x.behind = same_left (files_named new.images) next.entry stops.JournalFull x.kernel (Some x.behind) j tt next.spoils in
      (stands_so hs can x.units x.state x.behind led shown, runs hs can x.units x.state x.behind led shown, put.whole)
