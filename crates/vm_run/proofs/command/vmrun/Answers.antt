use Rattle.std.proofs.Common.{◌≡◌, ℕ, List, Bor, map, ap}
use Rattle.command_words.specs.Asked.{asked_of}
use Rattle.vm_run.proofs.Failed.{obeys_fails}
use Rattle.vm_run.proofs.command.vmrun.Goals as goal

pub returns-clause-fails : goal.returns-clause-fails
returns-clause-fails g c =
    obeys_fails _ c.obey.result (c.obey.new.files ≡ c.args.files.now) (c.obey.new.zero ≡ c.args.zero.now) (c.obey.new.one ≡ c.args.one.now)
    (λ same. record { open_same = ap g.F.Files.open_faults same; page_same = ap g.F.Files.page_faults same })
    (λ same. (ap g.D.SwapDev.read_faults same, ap g.D.SwapDev.write_faults same))
    (λ same. (ap g.E.SwapDev.read_faults same, ap g.E.SwapDev.write_faults same))
    (asked_of (map (λ (word : Bor (List ℕ)). word.now) c.args.words.now)) c.obey.ensures.obeys c.obey.ensures.files c.obey.ensures.zero c.obey.ensures.one
