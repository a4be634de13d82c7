use Rattle.std.proofs.Common.{◌≡◌, ℕ, ◌++◌, List, [], length, Some, sym, ap, ◌∙◌, subst}
use Rattle.std.specs.Option.{option_copied}
use Rattle.aout_image.specs.declared.Image.{Image}
use Rattle.aout_image.specs.Image.{IsSound}
use Rattle.space_map.specs.Space.{Places}
use Rattle.kernel_tables.specs.declared.fill.DueFill.{DueFill}
use Rattle.kernel_tables.specs.Alike.{facts_in}
use Rattle.kernel_tables.specs.Added.{AddedSpace}
use Rattle.kernel_tables.specs.Forking.{space_fills}
use Rattle.kernel_tables.specs.View.{Lists}
use Rattle.kernel_tables.specs.Machine.{lists_of}
use Rattle.kernel_tables.proofs.ForkedSpaces.{space_there, first_length, parent_facts, parent_sound, data_in_range, stack_in_range, planned_known, forked_space}
use Rattle.kernel_tables.proofs.tables.Tables.fork_space.Goals as goal

pub unreachable-requires : goal.unreachable-requires
unreachable-requires c =
    space_there (lists_of c.args.self.now) c.args.parent c.requires.there (sym c.find.ensures ∙ ap option_copied c.in_default.is)

pub new-requires-clause-sound : goal.new-requires-clause-sound
new-requires-clause-sound c =
    subst IsSound (sym c.facts.ensures) (parent_sound (lists_of c.args.self.now) c.args.parent c.in-Some.space.now c.requires.known (sym c.in-Some.ensures))

pub plan_pages-requires-clause-data_size : goal.plan_pages-requires-clause-data_size
plan_pages-requires-clause-data_size c =
    ap (λ (s : Places). length s.data) c.in_ok-child.ensures ∙ first_length c.facts.result.now c.data_pages-data.result ∙ c.data_pages-data.ensures.count

pub plan_pages-requires-clause-data_in_range : goal.plan_pages-requires-clause-data_in_range
plan_pages-requires-clause-data_in_range c = data_in_range (lists_of c.args.self.now) c.args.parent c.in-Some.space.now c.requires.known (sym c.in-Some.ensures)

pub plan_pages-requires-clause-stack_in_range : goal.plan_pages-requires-clause-stack_in_range
plan_pages-requires-clause-stack_in_range c = stack_in_range (lists_of c.args.self.now) c.args.parent c.in-Some.space.now c.requires.known (sym c.in-Some.ensures)

pub add_space-requires-clause-known : goal.add_space-requires-clause-known
add_space-requires-clause-known c =
    let none : c.reserve.new.self.items ≡ [] = c.reserve.ensures.items ∙ c.requires.clear in
    planned_known (lists_of c.args.self.now) c.plan_pages.new.fills.items c.in_ok-child.child.sid c.in-Some.space.now c.requires.known
    (c.plan_pages.ensures.fills ∙ ap (λ (ds : List DueFill). ds ++ space_fills c.in_ok-child.child.sid c.in-Some.space.now) none)

pub add_space-requires-clause-facts : goal.add_space-requires-clause-facts
add_space-requires-clause-facts c =
    let l : Lists = lists_of c.args.self.now in
    let s : Places = c.in-Some.space.now in
    let planned = c.plan_pages.ensures.child in
    let made = c.in_ok-child.ensures in
    let image : c.plan_pages.new.child.image ≡ s.image =
    ap (λ (r : Places). r.image) planned ∙ ap (λ (r : Places). r.image) made ∙ c.image.ensures in
    let facts : c.plan_pages.new.child.facts ≡ s.facts =
    ap (λ (r : Places). r.facts) planned ∙ ap (λ (r : Places). r.facts) made ∙ c.facts.ensures in
    ap (λ (i : ℕ). facts_in 1 i l.facts) image
    ∙ parent_facts l c.args.parent s c.requires.known (sym c.in-Some.ensures)
    ∙ ap (λ (x : Image). Some x) (sym facts)

pub returns-clause-forked : goal.returns-clause-forked
returns-clause-forked c =
    let made = c.in_ok-child.ensures in
    let none : c.reserve.new.self.items ≡ [] = c.reserve.ensures.items ∙ c.requires.clear in
    forked_space c.args.self.now c.add_space.new.self c.plan_pages.new.fills c.args.parent c.in-Some.space.now c.in_ok-child.child (record {
      known = c.requires.known;
      below = c.requires.below;
      found = sym c.in-Some.ensures;
      sid = ap (λ (r : Places). r.sid) made;
      image = ap (λ (r : Places). r.image) made ∙ c.image.ensures;
      facts = ap (λ (r : Places). r.facts) made ∙ c.facts.ensures;
      planned = c.plan_pages.ensures.fills ∙ ap (λ (ds : List DueFill). ds ++ space_fills c.in_ok-child.child.sid c.in-Some.space.now) none;
      added =
          subst (λ (r : Places). AddedSpace (record c.args.self.now { fills = c.plan_pages.new.fills }) c.add_space.new.self r)
          c.plan_pages.ensures.child c.in_ok-add_space.ensures.added;
    })
