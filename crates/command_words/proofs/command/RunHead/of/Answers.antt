use Rattle.std.proofs.Common.{ℕ, List, Bor, None, map, drop, sym, ap, ◌∙◌}
use Rattle.std.specs.Option.{option_map}
use Rattle.command_words.specs.declared.command.RunHead.{RunHead}
use Rattle.command_words.specs.Command.{word_list}
use Rattle.command_words.proofs.RunWords.{run_read, unnamed_run, imageless_run, images_there}
use Rattle.command_words.proofs.command.RunHead.of.Goals.{else-is_name-via-then-is_name+else-are_image_words, else-is_name-via-else-is_name}
use Rattle.command_words.proofs.command.RunHead.of.Goals as goal

pub returns-in_err-read_numbers-clause-exact : goal.returns-in_err-read_numbers-clause-exact
returns-in_err-read_numbers-clause-exact c = λ command.
    let words : List (List ℕ) = map (λ (word : Bor (List ℕ)). word.now) (word_list c.args.words) in
    ap (λ (head : _). option_map (λ (head : RunHead). command head.numbers head.schedule.now (drop 4 words)) head) c.from_residual.ensures
    ∙ run_read c.args.most command words c.word.result.now c.word-then-are_image_words.result.now c.word-then-are_image_words-2.result.now c.word-schedule.result.now None
    c.word.ensures c.word-then-are_image_words.ensures c.word-then-are_image_words-2.ensures c.word-schedule.ensures
    (sym c.is_name.ensures.exact ∙ c.if-is_name.true)
    (images_there (word_list c.args.words) (word_list c.from.result) c.are_image_words.result c.are_image_words.ensures.exact c.from.ensures ∙ c.if-are_image_words.true)
    (sym c.in_err-read_numbers.was ∙ c.read_numbers.ensures.exact)

pub returns-in_ok-read_numbers-clause-exact : goal.returns-in_ok-read_numbers-clause-exact
returns-in_ok-read_numbers-clause-exact c = λ command.
    let words : List (List ℕ) = map (λ (word : Bor (List ℕ)). word.now) (word_list c.args.words) in
    run_read c.args.most command words c.word.result.now c.word-then-are_image_words.result.now c.word-then-are_image_words-2.result.now c.word-schedule.result.now _
    c.word.ensures c.word-then-are_image_words.ensures c.word-then-are_image_words-2.ensures c.word-schedule.ensures
    (sym c.is_name.ensures.exact ∙ c.if-is_name.true)
    (images_there (word_list c.args.words) (word_list c.from.result) c.are_image_words.result c.are_image_words.ensures.exact c.from.ensures ∙ c.if-are_image_words.true)
    (sym c.in_ok-read_numbers.was ∙ c.read_numbers.ensures.exact)

pub returns-else-is_name-clause-exact : goal.returns-else-is_name-clause-exact
returns-else-is_name-clause-exact c = λ command.
    let words : List (List ℕ) = map (λ (word : Bor (List ℕ)). word.now) (word_list c.args.words) in
    elim c.else-is_name.branch [
      | else-is_name-via-then-is_name+else-are_image_words w ↦ imageless_run c.args.most command words
          (images_there (word_list c.args.words) (word_list w.from.result) w.are_image_words.result w.are_image_words.ensures.exact w.from.ensures ∙ w.if-are_image_words.false)
      | else-is_name-via-else-is_name w ↦ unnamed_run c.args.most command words c.word-schedule.result.now c.word-schedule.ensures (sym c.is_name.ensures.exact ∙ w.if-is_name.false)
    ]
