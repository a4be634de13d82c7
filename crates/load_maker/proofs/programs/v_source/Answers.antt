-- The text is that of the lines.
use Rattle.std.proofs.Common.{◌++◌, append_assoc, codes, string_bytes}
use Rattle.std.specs.Prelude.{decimal}
use Rattle.load_maker.specs.Programs.{v_source}
use Rattle.load_maker.proofs.Written.{text_is}
use Rattle.load_maker.proofs.programs.v_source.Goals as goal

pub returns : goal.returns
unfolding v_source
returns c =
    text_is string_bytes c.format.result _ (v_source c.args.pages) c.format.ensures.ok
    (rw (append_assoc (codes "movl i^$" ++ decimal c.args.pages) (codes ",r5")))
