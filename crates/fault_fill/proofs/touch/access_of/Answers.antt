use Rattle.std.proofs.Common.{◌∙◌}
use Rattle.fault_fill.proofs.Touching.{held_there, access_shown, access_asks}
use Rattle.fault_fill.proofs.touch.access_of.Goals as goal

pub returns-clause-is : goal.returns-clause-is
returns-clause-is c =
    c.access_in.ensures
    ∙ access_shown c.args.m.now.kernel.place c.map_of.ensures.shown.core c.map_of.result.now c.map_of.ensures.shown.space _ c.args.address c.args.write
    c.map_of.ensures.named c.map_of.ensures.of_image

pub returns-clause-can : goal.returns-clause-can
returns-clause-can c =
    access_asks c.args.m.now.kernel.place c.map_of.ensures.shown.core c.map_of.result.now c.map_of.ensures.shown.space _ c.map_of.ensures.named
    c.map_of.ensures.of_image
    (held_there c.args.m.now.kernel c.args.pid c.requires.lends) c.args.address c.args.write c.access_in.result c.access_in.ensures
