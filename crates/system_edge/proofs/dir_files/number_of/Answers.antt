use Rattle.std.proofs.Common.{◌+◌, ◌∙◌, sym, length}
use Rattle.system_edge.proofs.Numbers.{word_number, inner_number, number_stands}
use Rattle.system_edge.proofs.dir_files.number_of.Goals as goal

pub returns-in-Some : goal.returns-in-Some
returns-in-Some c =
    number_stands c.numbered.result c.in-Some.place _
    (word_number c.args.words.now c.args.name.now c.in-Some.place (sym c.word_of.ensures ∙ c.in-Some.is)) c.numbered.ensures

pub returns-in_ok-place-in-None : goal.returns-in_ok-place-in-None
returns-in_ok-place-in-None c =
    number_stands c.numbered-in-None.result (length c.args.words.now + c.in_ok-place-in-None.place) _
    (inner_number c.args.words.now c.args.name.now c.in_ok-place-in-None.place (sym c.word_of.ensures ∙ c.in-None.is)
    (sym c.word_with.ensures ∙ c.in_ok-place-in-None.was))
    c.numbered-in-None.ensures
