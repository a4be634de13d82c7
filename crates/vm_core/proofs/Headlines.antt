-- The headline holds of the journal of a run.
use Rattle.std.proofs.Common.{◌≡◌, ◌⊎◌, inl, inr, ℕ, ◌<◌, ◌≤◌, false, length, List, [], ◌∷◌, Option, Some, None, refl, sym, ap, ◌∙◌, subst, arith}
use Rattle.vm_facts.specs.SwapImages.{SwapImage}
use Rattle.vm_facts.specs.declared.entry.Entry.{Entry}
use Rattle.vm_facts.specs.declared.stop.Stop.TheVariants as stops
use Rattle.flat_state.specs.Flat.{Inputs, can_step}
use Rattle.flat_state.specs.Journal.{append, appended, units_of, instructions_of}
use Rattle.flat_state.proofs.Joins.{appended_units}
use Rattle.page_model.specs.Placement.{Placement, Due, Start, CopyOf}
use Rattle.run_model.specs.Snapshot.{Snapshot, start_snapshot}
use Rattle.run_model.specs.State.{State, start}
use Rattle.run_model.specs.After.{snapshot_of, after, state_after}
use Rattle.run_model.specs.Lawful.{IsLawful}
use Rattle.run_model.specs.Next.{or_else, due_unit, next_unit}
use Rattle.run_model.proofs.After.{units_journal}
use Rattle.run_model.proofs.Snapshots.{after_snapshot}
use Rattle.economy_laws.specs.RunLawsRunning.{CanRun, IsIdle}
use Rattle.economy_laws.proofs.Lawful.{all_units, follows_state}
use Rattle.economy_laws.proofs.RunLawsFinishing.{units_below}
use Rattle.proc_run.specs.Owners.{IsOwned}
use Rattle.proc_run.specs.Accounts.{AtEach, IsAccounted, Account}
use Rattle.vm_core.specs.Lawful.{IsJournalOf, RunFinished, RunHalted}
use Rattle.vm_core.specs.Headline.{KeepsOwners, KeepsTurns, snapshot_behind, last_snapshot, Headline, RunIsOver, HeadlineByPolicy, HeadlineOver, HeadlineFull}

owners_kept : (A : Inputs) (s : State) (us : List Entry) → IsOwned A (snapshot_of s) → AtEach IsAccounted A s us → KeepsOwners A (snapshot_of s) us
owners_kept A s [] owned each = owned
owners_kept A s (u ∷ us) owned each =
    let first : IsAccounted A s u = each.0 in
    (owned, first.refusal, subst (λ (x : Snapshot). KeepsOwners A x us) (after_snapshot A s u) (owners_kept A (after A s u) us first.owned each.1))

turns_kept : (A : Inputs) (s : State) (us : List Entry) → AtEach IsAccounted A s us → KeepsTurns A (snapshot_of s) us
turns_kept A s [] each = tt
turns_kept A s (u ∷ us) each =
    let first : IsAccounted A s u = each.0 in
    (first.turn, subst (λ (x : Snapshot). KeepsTurns A x us) (after_snapshot A s u) (turns_kept A (after A s u) us each.1))

-- snapshots go the way of the states
behind_state : (A : Inputs) (s : State) (us : List Entry) → snapshot_behind A (snapshot_of s) us ≡ snapshot_of (state_after A s us)
unfolding snapshot_behind state_after
behind_state A s [] = refl
behind_state A s (u ∷ us) =
    ap (λ (x : Snapshot). snapshot_behind A x us) (sym (after_snapshot A s u)) ∙ behind_state A (after A s u) us

module _ (A : Inputs) (journal : List Entry) (s : State) (m : IsJournalOf A journal s) where
  -- the units are those of the journal
  own_units : units_of journal ≡ m.units
  own_units = ap units_of (sym m.joined) ∙ appended_units [] m.units (all_units A m.units (start A m.holdings) s m.follows)

  last_is : last_snapshot A m.holdings journal ≡ snapshot_of s
  last_is =
      ap (snapshot_behind A (start_snapshot A m.holdings)) own_units ∙ behind_state A (start A m.holdings) m.units
      ∙ ap snapshot_of (follows_state A m.units (start A m.holdings) s m.follows)

  pub carries_headline : Headline A journal
  carries_headline =
      let lawful : IsLawful A journal s = m.lawful in
      let can : CanRun A m.holdings = m.can in
      let account : Account A (start A m.holdings) m.units = m.account in
      let below : s.count ≤ A.limit = units_below A m.units (start A m.holdings) s m.follows (omega arith) in
      let counted : instructions_of journal ≡ s.count = lawful.count in
      record {
        holdings = m.holdings;
        found = can.pieces;
        joined = ap (appended []) own_units ∙ m.joined;
        flat = lawful.flat ∙ ap (λ (x : Snapshot). Some x.point) (sym last_is);
        owned = subst (KeepsOwners A (start_snapshot A m.holdings)) (sym own_units) (owners_kept A (start A m.holdings) m.units account.owned account.each);
        turns = subst (KeepsTurns A (start_snapshot A m.holdings)) (sym own_units) (turns_kept A (start A m.holdings) m.units account.each);
        within = omega (arith, counted, below);
      }

  pub headline_by_policy : HeadlineByPolicy A journal
  headline_by_policy = record { headline = carries_headline; state = s; lawful = m.lawful }

  -- the journal is the state's
  journal_is : s.journal ≡ journal
  journal_is =
      ap (λ (x : State). x.journal) (sym (follows_state A m.units (start A m.holdings) s m.follows)) ∙ units_journal A (start A m.holdings) m.units ∙ m.joined

-- where something is due there is a next unit
none_due : (p : Placement) (due : List Due) (other : Option Entry) → or_else (due_unit p due) other ≡ None → due ≡ []
none_due p [] other none = refl
none_due p (Start q ∷ due) other none = absurd cc
none_due p (CopyOf q parent ∷ due) other none = absurd cc

nothing_due : (A : Inputs) (s : State) → next_unit A s ≡ None → s.place.due ≡ []
unfolding next_unit
nothing_due A s none = none_due s.place s.place.due _ none

pub headline_full : (A : Inputs) (journal : List Entry) (image : SwapImage) (after : Option SwapImage) → RunHalted A journal stops.JournalFull image after
    → HeadlineFull A journal
unfolding headline_by_policy
headline_full A journal image after r = record {
  made = headline_by_policy A journal r.state r.made;
  unit = r.unit;
  next = r.next;
  longer = subst (λ (j : List Entry). length j < length (append j r.unit)) (journal_is A journal r.state r.made) r.why;
}

pub headline_over : (A : Inputs) (journal : List Entry) (image : SwapImage) (after : Option SwapImage) → RunFinished A journal image after
    → HeadlineOver A journal
unfolding carries_headline
headline_over A journal image after r =
    let m : IsJournalOf A journal r.state = r.made in
    let lawful : IsLawful A journal r.state = m.lawful in
    record {
      headline = carries_headline A journal r.state m;
      over = (
        elim r.ends [
          | inl all ↦ inl (lawful.count ∙ all)
          | inr idle ↦ inr (subst (λ (x : Snapshot). (length A.lines ≤ x.lines) × ((pid : ℕ) → 0 < pid → can_step x.point.flat pid ≡ false))
              (sym (last_is A journal r.state m)) (idle.lines, idle.idle))
        ],
        subst (λ (x : Snapshot). x.place.due ≡ []) (sym (last_is A journal r.state m)) (nothing_due A r.state r.none),
      );
      state = r.state;
      finished = record { lawful = m.lawful; none = r.none };
    }
