use Rattle.kernel_laws.proofs.Sound.Allowed.{may_change, wants_these}
use Rattle.kernel_laws.proofs.Pieces.Wanted.{asked_for}
use Rattle.kernel_laws.proofs.Machine.Ready.{coupled_ready, coupled_reaps}
use Rattle.kernel_laws.proofs.laws.changes_ask.Goals as goal

pub returns : goal.returns
returns c = record {
  allows = may_change;
  wants = wants_these;
  asks = asked_for;
  ready = coupled_ready;
  reaps = coupled_reaps;
}
