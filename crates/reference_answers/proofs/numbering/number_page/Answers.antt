use Rattle.std.proofs.Common.{arith}
use Rattle.reference_answers.proofs.Finding.{is_joined, number_is}
use Rattle.reference_answers.proofs.numbering.number_page.Goals as goal
use Rattle.reference_answers.proofs.numbering.number_page.Goals.{then-is_new+in_ok-push, else-is_new}

pub returns-clause-pages : goal.returns-clause-pages
returns-clause-pages c =
    let joined = is_joined c.args.keys.now.keys c.key_of.result c.args.pages.now.items c.args.page c.in_ok-place.is_new c.requires.keys c.key_of.ensures c.in_ok-place.ensures.added in
    elim c.if-is_new.branch [ then-is_new+in_ok-push w ↦ grind (arith, joined) | else-is_new w ↦ grind (arith, joined) ]

pub returns-clause-number : goal.returns-clause-number
returns-clause-number c =
    number_is c.args.keys.now.keys c.key_of.result c.args.pages.now.items c.if-is_new.pages.items c.args.page c.in_ok-place.place c.requires.keys c.key_of.ensures
    c.in_ok-place.ensures.index (returns-clause-pages c)
