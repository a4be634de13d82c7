use Rattle.std.proofs.Common.{rules, tests, ◌∙◌}
use Rattle.std.proofs.lemmas.Iterator.{YieldsList-from_slice}
use Rattle.std.proofs.lemmas.Iterator.Consumers.{nth_from_yields_List, YieldsList-from_filter}
use Rattle.swap_book.specs.declared.Held.{Held}
use Rattle.swap_book.specs.Owners.{same_owner}
use Rattle.swap_book.proofs.nth_piece.Goals as goal

pub returns : goal.returns
returns c =
    c.copied.ensures ∙
    nth_from_yields_List c.nth.result c.nth.new.self c.args.index c.nth.ensures.ran
    (YieldsList-from_filter _ (λ (h : Held). same_owner h.owner c.args.owner) (YieldsList-from_slice c.args.holdings.now (cc)) c.filter.ensures.closure (λ x r q k. search (rules, tests)))
