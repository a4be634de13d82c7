use Rattle.std.proofs.Common.{◌≡◌, ◌≤◌, ℕ, Bool, true, false, length, refl, sym, ap, ◌∙◌, subst}
use Rattle.std.specs.Option.{is_some}
use Rattle.vm_facts.specs.declared.entry.Entry.TheVariants as entries
use Rattle.machine_state.specs.Joined.{instructions_in, last_says}
use Rattle.machine_state.proofs.Joins.{runs_kind, joined_not, alone_grows}
use Rattle.proc_run.proofs.attempting.has_room.Goals as goal

pub returns-else-journal-params : goal.returns-else-journal-params
returns-else-journal-params c =
    let journal = c.args.m.now.kernel.journal in
    let says : c.last_counts.result ≡ is_some (last_says (instructions_in c.args.pid) journal) =
    c.last_counts.ensures ∙ ap (λ j. is_some (last_says (instructions_in c.args.pid) j)) c.journal-journal.ensures in
    let full : c.args.m.now.params.journal ≤ length journal =
    subst (λ n. n ≤ length journal) (ap (λ p. p.journal) c.params.ensures) (subst (λ j. c.params.result.now.journal ≤ length j) c.journal-journal.ensures c.if-journal-params.false) in
    let alone = alone_grows (instructions_in c.args.pid) (λ (count : ℕ). entries.Ran c.args.pid count) (runs_kind c.args.pid) journal (last_says (instructions_in c.args.pid) journal) refl in
    let joined = joined_not (instructions_in c.args.pid) (λ (count : ℕ). entries.Ran c.args.pid count) (runs_kind c.args.pid) journal (last_says (instructions_in c.args.pid) journal) refl in
    (λ e. (full, alone (sym says ∙ e)), λ h. not_true c.last_counts.result (λ t. joined (sym says ∙ t) h.1))
  where
    not_true : (b : Bool) → (b ≡ true → ⊥) → b ≡ false
    not_true true f = absurd (f refl)
    not_true false f = refl
