use Rattle.std.proofs.Common.{◌≡◌, ◌*◌, length, rules}
use Rattle.system_edge.specs.SwapFiles.{image_of}
use Rattle.system_edge.specs.SwapWhole.{within_more}
use Rattle.system_edge.proofs.SwapRanges.{image_page, image_part}
use Rattle.system_edge.proofs.file_swap.FileSwapSwapDev.write.Goals as goal

pub returns-in-Ok-clause-done : goal.returns-in-Ok-clause-done
returns-in-Ok-clause-done g c =
    let old = c.args.self.now in
    let new = c.try_write.new.self in
    let whole : length c.args.bytes.now ≡ 1024 = search rules in
    image_page (λ f. g.S.File.SystemFile.bytes f.file) (g.S.System.tells old.system.now) old.blocks c.args.block old.file
    (image_of (λ f. g.S.File.SystemFile.bytes f.file) (g.S.System.tells new.system.now) new.blocks new.file) c.args.bytes.now whole c.in-Ok.ensures.done

pub returns-in-Err-clause-failed : goal.returns-in-Err-clause-failed
returns-in-Err-clause-failed g c =
    let old = c.args.self.now in
    let new = c.try_write.new.self in
    let whole : length c.args.bytes.now ≡ 1024 = search rules in
    image_part (λ f. g.S.File.SystemFile.bytes f.file) (g.S.System.tells old.system.now) old.blocks c.args.block old.file
    (image_of (λ f. g.S.File.SystemFile.bytes f.file) (g.S.System.tells new.system.now) new.blocks new.file) c.args.bytes.now whole c.requires.inside
    (λ f is. within_more f.len (512 * old.blocks) (g.S.File.SystemFile.bytes f.file) (old.room f is) f.within) c.in-Err.ensures.failed
