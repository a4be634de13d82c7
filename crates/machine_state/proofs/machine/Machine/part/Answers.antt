use Rattle.std.proofs.Common.{refl, sym, ap, ◌∙◌, subst, None, rules}
use Rattle.kernel_model.specs.HandParts.{PartComes, part_step}
use Rattle.kernel_model.specs.Kernel.{Kernel}
use Rattle.table_steps.specs.View.{placement_of}
use Rattle.table_steps.specs.Machine.{Standing, lists_of, kernel_by}
use Rattle.table_steps.specs.Conditions.{KeepsFlat, SameEverywhere}
use Rattle.machine_state.proofs.Knowing.{known_now}
use Rattle.table_steps.proofs.Puttings.{all_blocks}
use Rattle.machine_state.proofs.PartSteps.{part_steps, part_keeps, part_alike}
use Rattle.machine_state.proofs.Standings.{running}
use Rattle.machine_state.proofs.Stepping.{Stepped, stepped}
use Rattle.machine_state.proofs.machine.Machine.part.Goals as goal

pub make_part-requires : goal.make_part-requires
make_part-requires c =
    let r = running c.self.inside c.args.self.now c.self.invariant c.self.view_is c.requires.ready in
    record {
      known = known_now c.self.inside c.args.self.now c.self.invariant c.self.view_is c.requires.ready c.stands.ensures;
      can = subst (λ (s : Standing). PartComes s.kernel.place c.args.part) (sym c.self.view_is) c.requires.can;
      blocks = all_blocks c.self.inside.tables.book.size (kernel_by c.self.inside.tables c.self.inside.journal.items c.self.inside.stopped) r.sound;
    }

may : (c : goal.After-self-1) → PartComes (placement_of (lists_of c.self.inside.tables)) c.args.part
may c = subst (λ (s : Standing). PartComes s.kernel.place c.args.part) (sym c.self.view_is) c.requires.can

step : (c : goal.After-self-1)
    → Stepped c.self.inside (record c.self.inside { tables = c.make_part.new.tables; room = None }) c.args.self.now
    (part_step (kernel_by c.self.inside.tables c.self.inside.journal.items c.self.inside.stopped) c.args.part)
step c =
    stepped c.self.inside _ c.args.self.now _ c.self.invariant c.self.view_is c.requires.ready
    (part_steps c.self.inside _ c.args.self.now c.args.part c.self.invariant c.self.view_is c.requires.ready (may c) c.in_ok-make_part.ensures.moved refl refl refl refl)

pub invariant_of-self-2 : goal.invariant_of-self-2
invariant_of-self-2 c = (step c).inside

pub returns : goal.returns
returns c =
    let k : Kernel = kernel_by c.self.inside.tables c.self.inside.journal.items c.self.inside.stopped in
    let r = running c.self.inside c.args.self.now c.self.invariant c.self.view_is c.requires.ready in
    let z = step c in
    record {
      step = z.rest ∙ ap (λ (k : Kernel). record c.args.self.now { kernel = k; room = None }) (z.is ∙ ap (λ (s : Standing). part_step s.kernel c.args.part) c.self.view_is);
      keeps = z.says KeepsFlat (part_keeps c.self.inside.tables.book.size k c.args.part r.sound (may c));
      same = z.says SameEverywhere (part_alike c.self.inside.tables.book.size k c.args.part r.sound (may c));
      stop = search rules;
      goes_on = z.goes_on;
    }
