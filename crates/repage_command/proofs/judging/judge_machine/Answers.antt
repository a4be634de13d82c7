use Rattle.io_edge.specs.WithFiles.{stores}
use Rattle.std.proofs.Common.{◌∙◌}
use Rattle.repage_command.proofs.Judged.{transfer_there, owners_there}
use Rattle.repage_command.proofs.judging.judge_machine.Goals as goal

pub owners_behind-requires : goal.owners_behind-requires
owners_behind-requires g c = λ paged. (c.in_ok-verdict.ensures.ready paged).running

pub returns : goal.returns
returns g c = λ A image told shown limit. record {
  verdict = c.in_ok-verdict.ensures.judged A image told shown limit;
  transfer = λ paged hs found.
      c.transfer_behind-transfer.ensures paged
      ∙ transfer_there A c.args.lines.now c.repage.new.m (g.F.Files.holds c.args.files.now) (stores g.F.Files g.D.SwapDev c.repage.new.files c.repage.new.swap)
      (c.in_ok-verdict.ensures.stands paged A image told shown limit) hs found c.args.frame;
  owners = λ paged over asked hs found.
      c.in_ok-owners.ensures paged over asked
      ∙ owners_there A c.args.lines.now c.repage.new.m (g.F.Files.holds c.args.files.now) (stores g.F.Files g.D.SwapDev c.repage.new.files c.repage.new.swap)
      (c.in_ok-verdict.ensures.stands paged A image told shown limit) hs found over (c.in_ok-verdict.ensures.ready paged).whole;
}
