use Rattle.std.proofs.Common.{ℕ, List, Bor, Vec, Global, option_map, map}
use Rattle.repage_command.proofs.Endings.{why_told}
use Rattle.repage_command.proofs.explaining.explain_repage.Goals as goal

pub returns-in-Ok-clause-explains : goal.returns-in-Ok-clause-explains
returns-in-Ok-clause-explains g c =
    let words = map (λ (word : Bor (List ℕ)). word.now) c.args.words.now in
    let made = c.in-Ok.ensures.made in
    record {
      read = made.read;
      is_told = made.is_told;
      told = why_told c.args.numbers words made.read c.in-Ok.repaged (option_map (λ (line : Vec ℕ Global). line.items) c.why_if.result) made.ends.1 c.why_if.ensures;
    }
