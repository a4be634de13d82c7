-- One more entry.
use Rattle.std.proofs.Common.{◌≡◌, ◌+◌, ℕ, List, ◌∷◌, [], ◌++◌, take, sym, ap, ◌∙◌, subst, arith}
use Rattle.std.proofs.lemmas.List.{take_more}
use Rattle.vm_facts.specs.declared.entry.Entry.{Entry}
use Rattle.run_stats.specs.declared.ends.Ending.{Ending}
use Rattle.run_stats.specs.Ends.{ending_after, ending_at, IsEnding}
use Rattle.run_stats.proofs.Endings.{ending_more}
use Rattle.run_stats.proofs.ends.endings_of.Goals as goal

pub loop-entry-preserved : goal.loop-entry-preserved
loop-entry-preserved c =
    let i : ℕ = c.loop-entry.entry-index in
    let js : List Entry = c.args.journal.now in
    let e : Entry = c.entry-item.result in
    let more : take (i + 1) js ≡ take i js ++ e ∷ [] = take_more js i e c.loop-entry-test.true ∙ ap (λ (y : Entry). take i js ++ y ∷ []) (sym c.entry-item.is) in
    record {
      endings = λ pid.
          subst (λ (ys : List Entry). IsEnding pid (ending_at c.note_end.new.endings.items pid) ys) (sym more)
          (subst (λ (x : Ending). IsEnding pid x (take i js ++ e ∷ [])) (sym (c.in_ok-note_end.ensures pid))
          (ending_more pid (ending_at c.loop-entry.endings.items pid) (take i js) e (c.loop-entry.invariant.endings pid)));
    }
