use Rattle.std.proofs.Common.{◌≡◌, ℕ, List, [], ◌∷◌, ◌++◌, Some, false, sym, ap, ◌∙◌, subst, arith}
use Rattle.std.proofs.lemmas.Option.{same_Some}
use Rattle.vm_facts.specs.declared.page.Page.TheVariants.{Stack}
use Rattle.aout_image.specs.declared.Image.{Image}
use Rattle.space_map.specs.Space.{Places, first_places}
use Rattle.kernel_tables.specs.declared.fill.DueFill.{DueFill}
use Rattle.kernel_tables.specs.declared.fill.DueFill.TheVariants as fills
use Rattle.kernel_tables.specs.declared.tables.Tables.{Tables}
use Rattle.kernel_tables.specs.Alike.{facts_in}
use Rattle.kernel_tables.specs.Machine.{lists_of}
use Rattle.kernel_tables.specs.Added.{with_text_places, AddedSpace}
use Rattle.kernel_tables.specs.Changing.{EnteredImage}
use Rattle.kernel_tables.proofs.AddedImage.{facts_by_number, sound_number, named_here, image_space, Entering, entered_image}
use Rattle.kernel_tables.proofs.tables.Tables.enter_image.Goals as goal

pub data_pages-requires : goal.data_pages-requires
data_pages-requires c =
    sound_number (lists_of c.args.self.now).facts c.args.image c.index.result.now.facts c.requires.known.tied.sound
    (named_here c.args.self.now.images.items c.args.image c.index.result.now c.requires.above c.requires.within c.index.ensures)

pub new-requires-clause-sound : goal.new-requires-clause-sound
new-requires-clause-sound c =
    sound_number (lists_of c.args.self.now).facts c.args.image c.index.result.now.facts c.requires.known.tied.sound
    (named_here c.args.self.now.images.items c.args.image c.index.result.now c.requires.above c.requires.within c.index.ensures)

pub new-requires-clause-data_fits : goal.new-requires-clause-data_fits
new-requires-clause-data_fits c =
    let s = sound_number (lists_of c.args.self.now).facts c.args.image c.index.result.now.facts c.requires.known.tied.sound
    (named_here c.args.self.now.images.items c.args.image c.index.result.now c.requires.above c.requires.within c.index.ensures) in
    omega (arith, s.data_fits)

pub add_space-requires-clause-facts : goal.add_space-requires-clause-facts
add_space-requires-clause-facts c =
    let l : List Image = (lists_of c.args.self.now).facts in
    subst (λ (s : Places). facts_in 1 s.image l ≡ Some s.facts) (sym c.in_ok-space.ensures)
    (facts_by_number c.args.image l c.index.result.now.facts
    (named_here c.args.self.now.images.items c.args.image c.index.result.now c.requires.above c.requires.within c.index.ensures))

pub returns-clause-entered : goal.returns-clause-entered
returns-clause-entered c = λ facts is.
    let t : Tables = c.args.self.now in
    let here = named_here t.images.items c.args.image c.index.result.now c.requires.above c.requires.within c.index.ensures in
    let same : c.index.result.now.facts ≡ facts = same_Some c.index.result.now.facts facts (sym here ∙ is) in
    let m : Tables = c.add_space.new.self in
    let u : Tables = record m { fills = c.push_back_reserved.new.self } in
    let a : AddedSpace (record t { fills = c.reserve.new.self }) m c.in_ok-space.space = c.in_ok-add_space.ensures.added in
    let space : c.in_ok-space.space ≡ image_space t.next_sid c.args.image c.index.result.now.facts =
    c.in_ok-space.ensures
    ∙ ap (λ (n : ℕ). record (image_space t.next_sid c.args.image c.index.result.now.facts) { «data» = first_places c.index.result.now.facts false n }) c.data_pages.ensures.value in
    let e : Entering t u c.args.image c.index.result.now.facts c.args.top = record {
      known = c.requires.known;
      below = c.requires.below;
      due = c.requires.due;
      is = here;
      whole = c.requires.whole;
      spaces = a.spaces ∙ ap (λ (s : Places). t.spaces ++ with_text_places (lists_of t) s ∷ []) space;
      table = a.table;
      texts = a.texts ∙ ap (λ (s : Places). Rattle.kernel_tables.specs.Added.entered_texts t.texts s.image) space;
      fills =
          c.push_back_reserved.ensures.items
          ∙ ap (λ (x : Tables). x.fills.items ++ fills.Start (Stack t.next_sid 0) c.args.top ∷ []) a.rest
          ∙ ap (λ (ds : List DueFill). ds ++ fills.Start (Stack t.next_sid 0) c.args.top ∷ []) c.reserve.ensures.items;
      number = a.number;
      rest = ap (λ (x : Tables). record x { fills = c.push_back_reserved.new.self }) a.rest;
    } in
    subst (λ (f : Image). EnteredImage t u c.args.image f c.args.top) same (entered_image t u c.args.image c.index.result.now.facts c.args.top e)
