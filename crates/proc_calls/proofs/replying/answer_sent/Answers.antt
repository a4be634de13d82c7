use Rattle.std.proofs.Common.{refl}
use Rattle.flat_model.specs.Step.{call_entry}
use Rattle.proc_calls.proofs.Callers.{can_keep}
use Rattle.proc_calls.proofs.replying.answer_sent.Goals as goal

pub reply-requires-clause-can : goal.reply-requires-clause-can
reply-requires-clause-can c =
    can_keep c.args.m.now c.args.pid (call_entry c.args.pid c.args.call c.replied_one.result) c.requires.calls (refl, tt)
