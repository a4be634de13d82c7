use Rattle.std.proofs.Common.{ℕ, List, Bor, map}
use Rattle.command_edge.specs.Ending.{ending_of}
use Rattle.repage_command.proofs.Endings.{verdict_ends, verdict_counted, fault_ends}
use Rattle.repage_command.proofs.command.verdict_from.Goals as goal

pub returns-in-Ok-clause-made : goal.returns-in-Ok-clause-made
returns-in-Ok-clause-made g c =
    let words = map (λ (word : Bor (List ℕ)). word.now) c.args.words.now in
    let made = c.in-Ok.ensures.made in
    record {
      read = made.read;
      is_told = made.is_told;
      ends = verdict_ends c.args.numbers c.args.trace.now words made.read _ c.in-Ok.repaged (ending_of c.verdict.result) made.ends c.verdict.ensures;
    }

pub returns-in-Ok-clause-counted : goal.returns-in-Ok-clause-counted
returns-in-Ok-clause-counted g c = verdict_counted c.in-Ok.repaged _ (ending_of c.verdict.result) c.in-Ok.ensures.counted c.verdict.ensures

pub returns-in-Err-clause-made : goal.returns-in-Err-clause-made
returns-in-Err-clause-made g c =
    let words = map (λ (word : Bor (List ℕ)). word.now) c.args.words.now in
    let made = c.in-Err.ensures.made in
    record {
      read = made.read;
      is_told = made.is_told;
      ends = fault_ends c.args.numbers c.args.trace.now words made.read _ c.in-Err.fault made.ends;
    }
