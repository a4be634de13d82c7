use Rattle.std.proofs.Common.{refl}
use Rattle.flat_model.specs.declared.calls.SystemCall.TheVariants.{Write}
use Rattle.flat_model.specs.Step.{call_entry}
use Rattle.proc_calls.proofs.Callers.{can_keep}
use Rattle.proc_calls.proofs.writing.put_out.Goals as goal

pub reply-requires-clause-can : goal.reply-requires-clause-can
reply-requires-clause-can c =
    can_keep c.send.new.m c.args.pid (call_entry c.args.pid Write c.replied_one.result) c.in_ok-send.ensures.calls (refl, tt)
