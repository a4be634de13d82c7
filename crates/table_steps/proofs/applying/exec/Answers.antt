use Rattle.std.proofs.Common.{IsSome, refl, sym, subst}
use Rattle.table_steps.proofs.Applies.{image_facts, exec_leaves, exec_known, exec_there, exec_life, exec_alone, exec_all}
use Rattle.table_steps.proofs.applying.exec.Goals as goal

pub give_up_space-requires-clause-leaves : goal.give_up_space-requires-clause-leaves
give_up_space-requires-clause-leaves c =
    let f = image_facts c.args.tables.now c.args.pid c.args.image c.args.top c.requires in
    exec_leaves c.args.tables.now c.enter_image.new.self c.args.pid c.args.image c.args.top c.requires f.0 f.1 (c.in_ok-sid.ensures.entered f.0 f.1)

pub hold-requires : goal.hold-requires
hold-requires c =
    let f = image_facts c.args.tables.now c.args.pid c.args.image c.args.top c.requires in
    record {
      records =
          exec_known c.args.tables.now c.enter_image.new.self c.args.pid c.args.image c.args.top c.requires f.0 f.1 (c.in_ok-sid.ensures.entered f.0 f.1)
          c.give_up_space.new.tables c.give_up_space.ensures;
      there =
          subst IsSome (sym (exec_there c.args.tables.now c.enter_image.new.self c.args.pid c.args.image c.args.top c.requires f.0 f.1
          (c.in_ok-sid.ensures.entered f.0 f.1) c.give_up_space.new.tables c.give_up_space.ensures)) refl;
      life =
          exec_life c.args.tables.now c.enter_image.new.self c.args.pid c.args.image c.args.top c.requires f.0 f.1 (c.in_ok-sid.ensures.entered f.0 f.1)
          c.give_up_space.new.tables c.give_up_space.ensures;
      alone =
          exec_alone c.args.tables.now c.enter_image.new.self c.args.pid c.args.image c.args.top c.requires f.0 f.1 (c.in_ok-sid.ensures.entered f.0 f.1)
          c.give_up_space.new.tables c.give_up_space.ensures;
    }

pub returns : goal.returns
returns c =
    let f = image_facts c.args.tables.now c.args.pid c.args.image c.args.top c.requires in
    record {
      applied =
          exec_all c.args.tables.now c.enter_image.new.self c.args.pid c.args.image c.args.top c.requires f.0 f.1 (c.in_ok-sid.ensures.entered f.0 f.1)
          c.give_up_space.new.tables c.give_up_space.ensures c.hold.new.self c.in_ok-sid.sid c.in_ok-sid.ensures.number c.hold.ensures;
      params =
          (exec_all c.args.tables.now c.enter_image.new.self c.args.pid c.args.image c.args.top c.requires f.0 f.1 (c.in_ok-sid.ensures.entered f.0 f.1)
          c.give_up_space.new.tables c.give_up_space.ensures c.hold.new.self c.in_ok-sid.sid c.in_ok-sid.ensures.number c.hold.ensures
          0 c.requires.process c.requires.there).params;
      images =
          (exec_all c.args.tables.now c.enter_image.new.self c.args.pid c.args.image c.args.top c.requires f.0 f.1 (c.in_ok-sid.ensures.entered f.0 f.1)
          c.give_up_space.new.tables c.give_up_space.ensures c.hold.new.self c.in_ok-sid.sid c.in_ok-sid.ensures.number c.hold.ensures
          0 c.requires.process c.requires.there).images;
    }
