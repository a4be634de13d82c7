use Rattle.std.proofs.Common.{ℕ, List, Bor, Vec, Global, option_map, map}
use Rattle.question_command.specs.Asking.{Subject}
use Rattle.grade_command.proofs.Comparisons.{tells_policy}
use Rattle.grade_command.proofs.explaining.explain_grade.Goals as goal

pub returns-in-Ok-clause-explains : goal.returns-in-Ok-clause-explains
returns-in-Ok-clause-explains g c =
    let subject : Subject = record { numbers = c.args.numbers; schedule = c.args.schedule.now; words = map (λ (word : Bor (List ℕ)). word.now) c.args.words.now } in
    let made = c.in-Ok.ensures.made in
    record {
      read = made.read;
      is_told = made.is_told;
      compared = tells_policy subject made.read c.in-Ok.graded made.ends.1 (option_map (λ (line : Vec ℕ Global). line.items) c.parted_text_if.result) c.parted_text_if.ensures;
    }
