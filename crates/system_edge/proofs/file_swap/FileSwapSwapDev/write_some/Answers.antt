use Rattle.std.proofs.Common.{◌*◌, refl}
use Rattle.system_edge.specs.SwapFiles.{image_of}
use Rattle.system_edge.specs.SwapWhole.{within_more}
use Rattle.system_edge.proofs.SwapRanges.{are_whole, image_run, image_run_part}
use Rattle.system_edge.proofs.file_swap.FileSwapSwapDev.write_some.Goals as goal

pub returns-in-Ok-clause-written : goal.returns-in-Ok-clause-written
returns-in-Ok-clause-written g c =
    let old = c.args.self.now in
    let new = c.try_write.new.self in
    image_run (λ f. g.S.File.SystemFile.bytes f.file) (g.S.System.tells old.system.now) old.blocks c.args.block _ old.file
    (image_of (λ f. g.S.File.SystemFile.bytes f.file) (g.S.System.tells new.system.now) new.blocks new.file) c.args.pages.now c.as_flattened.result.now c.as_flattened.ensures.value
    (are_whole c.args.pages.now c.told-pages) c.requires.some refl c.requires.inside
    (λ f is. within_more f.len (512 * old.blocks) (g.S.File.SystemFile.bytes f.file) (old.room f is) f.within) c.in-Ok.ensures.done

pub returns-in-Err-clause-written : goal.returns-in-Err-clause-written
returns-in-Err-clause-written g c =
    let old = c.args.self.now in
    let new = c.try_write.new.self in
    image_run_part (λ f. g.S.File.SystemFile.bytes f.file) (g.S.System.tells old.system.now) old.blocks c.args.block old.file
    (image_of (λ f. g.S.File.SystemFile.bytes f.file) (g.S.System.tells new.system.now) new.blocks new.file) c.args.pages.now c.as_flattened.result.now c.as_flattened.ensures.value
    (are_whole c.args.pages.now c.told-pages) c.requires.some c.requires.inside
    (λ f is. within_more f.len (512 * old.blocks) (g.S.File.SystemFile.bytes f.file) (old.room f is) f.within) c.in-Err.ensures.failed
