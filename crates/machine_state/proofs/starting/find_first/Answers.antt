use Rattle.std.proofs.Common.{◌≡◌, ◌<◌, sym, ap, ◌∙◌, subst, arith}
use Rattle.std.proofs.lemmas.Bool.Decides.{nat_tests}
use Rattle.aout_image.specs.declared.Image.{Image}
use Rattle.page_model.specs.Placement.{Placement, sharers}
use Rattle.table_steps.specs.Tables.{Tables}
use Rattle.table_steps.specs.View.{placement_of}
use Rattle.table_steps.specs.Machine.{lists_of}
use Rattle.swap_wants.specs.Wants.{CanAsk, wanted_of}
use Rattle.table_steps.proofs.AddedImage.{facts_by_number, sound_number, named_here}
use Rattle.machine_state.proofs.FirstPieces.{asks_shared, asks_first, text_size, can_all, all_asked, own_asked, wants_all, wants_own, shares, looked}
use Rattle.machine_state.proofs.starting.find_first.Goals as goal

pub image_wants-requires : goal.image_wants-requires
image_wants-requires c =
    sound_number (lists_of c.args.tables.now).facts c.args.image c.index.result.now.facts c.requires.tied.sound
    (named_here c.args.tables.now.images.items c.args.image c.index.result.now c.requires.above c.requires.within c.index.ensures)

pub find_all-requires-else-sharers-gt0 : goal.find_all-requires-else-sharers-gt0
find_all-requires-else-sharers-gt0 c =
    let t : Tables = c.args.tables.now in
    let p : Placement = placement_of (lists_of t) in
    let n = shares t c.args.pid c.args.image c.requires in
    let none : sharers p c.args.image ≡ 0 = grind (arith, nat_tests) in
    subst (CanAsk t.book.holdings) (sym (wants_all c.image_wants.result c.args.pid t.next_sid c.args.image c.index.result.now.facts c.image_wants.ensures c.requires.number))
    (can_all p t.book.holdings c.args.pid c.args.image c.index.result.now.facts c.requires.none none)

pub returns-then-sharers-gt0-clause-looked : goal.returns-then-sharers-gt0-clause-looked
returns-then-sharers-gt0-clause-looked c =
    let t : Tables = c.args.tables.now in
    let p : Placement = placement_of (lists_of t) in
    let facts : Image = c.index.result.now.facts in
    let here = named_here t.images.items c.args.image c.index.result.now c.requires.above c.requires.within c.index.ensures in
    let n = shares t c.args.pid c.args.image c.requires in
    let some : 0 < sharers p c.args.image = grind (arith, nat_tests) in
    looked t c.find_all.new.book c.args.pid c.args.image facts (own_asked c.image_wants.result c.args.pid) c.find_all.result here
    (ap (wanted_of t.book.holdings) (wants_own c.image_wants.result c.args.pid t.next_sid c.args.image facts c.image_wants.ensures c.requires.number)
    ∙ asks_shared p t.book.holdings c.args.pid c.args.image facts c.requires.none some)
    c.find_all.ensures.answer c.find_all.ensures.book

pub returns-else-sharers-gt0-clause-looked : goal.returns-else-sharers-gt0-clause-looked
returns-else-sharers-gt0-clause-looked c =
    let t : Tables = c.args.tables.now in
    let p : Placement = placement_of (lists_of t) in
    let facts : Image = c.index.result.now.facts in
    let here = named_here t.images.items c.args.image c.index.result.now c.requires.above c.requires.within c.index.ensures in
    let n = shares t c.args.pid c.args.image c.requires in
    let none : sharers p c.args.image ≡ 0 = grind (arith, nat_tests) in
    let size = text_size (lists_of t) c.args.image facts (facts_by_number c.args.image (lists_of t).facts facts here) in
    looked t c.find_all-else-sharers-gt0.new.book c.args.pid c.args.image facts (all_asked c.image_wants.result c.args.pid) c.find_all-else-sharers-gt0.result here
    (ap (wanted_of t.book.holdings) (wants_all c.image_wants.result c.args.pid t.next_sid c.args.image facts c.image_wants.ensures c.requires.number)
    ∙ asks_first p t.book.holdings c.args.pid c.args.image facts c.requires.none none size)
    c.find_all-else-sharers-gt0.ensures.answer c.find_all-else-sharers-gt0.ensures.book
